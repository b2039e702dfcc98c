-- The elements of a list, as the reader meets them: an element or a range, and the rest.
use Rattle.std.proofs.Common.{◌≡◌, ℕ, zero, suc, ◌+◌, ◌-◌, ◌<◌, ◌≤◌, ◌==◌, eq-eqb, Bool, true, false, not, ◌||◌, ◌&&◌, List, [], ◌∷◌, length, drop, get_or, refl, sym, ap, subst, ◌∙◌, arith, Option, Some, None, Result, Ok, Err, if◌then◌else◌, length-drop, ⊎_elim, inl, inr, ◌⊎◌}
use Rattle.std.proofs.lemmas.Bool.{eqb-true}
use Rattle.std.proofs.lemmas.List.{drop-drop, get_or-drop}
use Rattle.sedre.specs.WordLaws.{has-set_of}
use Rattle.sedre.proofs.ByteLemmas.{set_of-same, apart_false}
use Rattle.std.proofs.lemmas.Bool.Decides.{eqb_tells}
use Rattle.sedre.specs.declared.class.Class.{Class}
use Rattle.sedre.specs.Sets.{class_named, has, union, no_byte}
use Rattle.sedre.specs.declared.elements.Element.{Element}
use Rattle.sedre.specs.declared.elements.Element.TheVariants.{Plain, Delimiter, OfClass, Equivalent, Collating, Wrong}
use Rattle.sedre.specs.declared.types.ExprReason.TheVariants.{UnknownClass}
use Rattle.std.specs.Option.{option_map_or}
use Rattle.sedre.specs.declared.types.ExprFault.{ExprFault}
use Rattle.sedre.specs.declared.byte_set.ByteSet.{ByteSet}
use Rattle.sedre.specs.Brackets.{content, front_form, form_of, of_one, front_element, elements, elements_from, is_dash, goes_on_as_range, single, range, both, all_listed, judged_list, is_at_front, is_delimiter, ListedBytes, list_at, list_end}
use Rattle.sedre.specs.ListReading.{is_range, located, members_at, elements_start, is_closing}

-- the elements from a place on, and where the list ends
abbrev pub Elements : Type 0
Elements = List (ℕ × Element) × Option ℕ

-- ---- bytes that belong to the element before

skipped : (d : Option ℕ) (first : Bool) (k place : ℕ) (bs : List ℕ) → elements d first k place bs ≡ elements d first 0 (place + k) (drop k bs)
skipped d first zero place bs = ap (λ p. elements d first 0 p bs) (let e : place ≡ place + 0 = omega arith in e)
skipped d first (suc k) place [] = refl
skipped d first (suc k) place (b ∷ bs) = skipped d first k (place + 1) bs ∙ ap (λ p. elements d first 0 p (drop k bs)) (let e : place + 1 + k ≡ place + suc k = omega arith in e)

-- what holds of both values of a choice holds of the one chosen
width_of_choice : (t : Bool) (x y : Element × ℕ) → 0 < x.1 → 0 < y.1 → 0 < (if t then x else y).1
width_of_choice true x y hx hy = hx
width_of_choice false x y hx hy = hy

form_width : (c left : ℕ) (held : Option (List ℕ)) → 0 < left → 0 < (front_form c left held).1
form_width c left None some = some
form_width c left (Some held) some = omega arith

element_width : (d : Option ℕ) (b : ℕ) (bs : List ℕ) → 0 < (front_element d (b ∷ bs)).1
element_width d b [] = omega arith
element_width d b (c ∷ rest) =
    width_of_choice (b == 92 && is_delimiter d c) (Delimiter c, 2)
    (if b == 91 && (c == 58 || c == 61 || c == 46) then front_form c (length rest + 2) (content c rest) else (Plain b, 1)) (omega arith)
    (width_of_choice (b == 91 && (c == 58 || c == 61 || c == 46)) (front_form c (length rest + 2) (content c rest)) (Plain b, 1) (form_width c (length rest + 2) (content c rest) (omega arith)) (omega arith))

skipped_element : (d : Option ℕ) (place width b : ℕ) (bs : List ℕ) → 0 < width → elements d false (width - 1) (place + 1) bs ≡ elements d false 0 (place + width) (drop width (b ∷ bs))
skipped_element d place zero b bs some = absurd (omega arith)
skipped_element d place (suc k) b bs some =
    ap (λ n. elements d false n (place + 1) bs) (let e : suc k - 1 ≡ k = omega arith in e)
    ∙ skipped d false k (place + 1) bs
    ∙ ap (λ p. elements d false 0 p (drop k bs)) (let e : place + 1 + k ≡ place + suc k = omega arith in e)

-- an element before others
abbrev pub OneMore : ℕ → Element → Elements → Elements
OneMore place e rest = ((place, e) ∷ rest.0, rest.1)

opened : (d : Option ℕ) (first : Bool) (place b : ℕ) (bs : List ℕ) → (b == 93 && not first) ≡ false →
    elements d first 0 place (b ∷ bs) ≡ OneMore place (front_element d (b ∷ bs)).0 (elements d false 0 (place + (front_element d (b ∷ bs)).1) (drop (front_element d (b ∷ bs)).1 (b ∷ bs)))
opened d first place b bs isnt =
    let found : Element × ℕ = front_element d (b ∷ bs) in
    ap (λ (t : Bool). if t then ([], Some (place + 1)) else OneMore place found.0 (elements d false (found.1 - 1) (place + 1) bs)) isnt
    ∙ ap (OneMore place found.0) (skipped_element d place found.1 b bs (element_width d b bs))

closed : (d : Option ℕ) (first : Bool) (place b : ℕ) (bs : List ℕ) → (b == 93 && not first) ≡ true → elements d first 0 place (b ∷ bs) ≡ ([], Some (place + 1))
closed d first place b bs is =
    let found : Element × ℕ = front_element d (b ∷ bs) in
    ap (λ (t : Bool). if t then ([], Some (place + 1)) else OneMore place found.0 (elements d false (found.1 - 1) (place + 1) bs)) is

-- ---- a - with another element after it

dash_of_choice : (t : Bool) (x y : Element × ℕ) → is_dash x.0 ≡ false → is_dash y.0 ≡ false → is_dash (if t then x else y).0 ≡ false
dash_of_choice true x y hx hy = hx
dash_of_choice false x y hx hy = hy

element_of_choice : (t : Bool) (x y : Element) → is_dash x ≡ false → is_dash y ≡ false → is_dash (if t then x else y) ≡ false
element_of_choice true x y hx hy = hx
element_of_choice false x y hx hy = hy

class_dash : (class : Option Class) → is_dash (option_map_or OfClass class (Wrong UnknownClass)) ≡ false
class_dash None = refl
class_dash (Some class) = refl

of_one_dash : (held : List ℕ) (make : ℕ → Element) → ((b : ℕ) → is_dash (make b) ≡ false) → is_dash (of_one held make) ≡ false
of_one_dash [] make isnt = refl
of_one_dash (x ∷ []) make isnt = isnt x
of_one_dash (x ∷ y ∷ rest) make isnt = refl

form_of_dash : (c : ℕ) (held : List ℕ) → is_dash (form_of c held) ≡ false
form_of_dash c held =
    element_of_choice (c == 58) (option_map_or OfClass (class_named held) (Wrong UnknownClass)) (if c == 61 then of_one held Equivalent else of_one held Collating) (class_dash (class_named held))
    (element_of_choice (c == 61) (of_one held Equivalent) (of_one held Collating) (of_one_dash held Equivalent (λ b. refl)) (of_one_dash held Collating (λ b. refl)))

form_dash : (c left : ℕ) (held : Option (List ℕ)) → is_dash (front_form c left held).0 ≡ false
form_dash c left None = refl
form_dash c left (Some held) = form_of_dash c held

-- no element but a - by itself is one
element_dash : (d : Option ℕ) (b : ℕ) (bs : List ℕ) → (b == 45) ≡ false → is_dash (front_element d (b ∷ bs)).0 ≡ false
element_dash d b [] isnt = isnt
element_dash d b (c ∷ rest) isnt =
    dash_of_choice (b == 92 && is_delimiter d c) (Delimiter c, 2)
    (if b == 91 && (c == 58 || c == 61 || c == 46) then front_form c (length rest + 2) (content c rest) else (Plain b, 1)) refl
    (dash_of_choice (b == 91 && (c == 58 || c == 61 || c == 46)) (front_form c (length rest + 2) (content c rest)) (Plain b, 1) (form_dash c (length rest + 2) (content c rest)) isnt)

no_dash : (x : ℕ × Element) (rest : List (ℕ × Element)) → is_dash x.1 ≡ false → goes_on_as_range (x ∷ rest) ≡ false
no_dash x [] isnt = refl
no_dash x (y ∷ rest) isnt = isnt

decided : (t : Bool) → (t ≡ true) ⊎ (t ≡ false)
decided true = inl refl
decided false = inr refl

goes_on_as_range-dash : (d : Option ℕ) (place c : ℕ) (rest : List ℕ) (t : Bool) → (c == 93) ≡ t → goes_on_as_range (elements d false 0 place (45 ∷ c ∷ rest)).0 ≡ not t
goes_on_as_range-dash d place c rest true is =
    ap (λ (all : Elements). goes_on_as_range all.0) (opened d false place 45 (c ∷ rest) refl)
    ∙ ap (λ (all : Elements). goes_on_as_range ((place, Plain 45) ∷ all.0)) (closed d false (place + 1) c rest (ap (λ t. t && true) is))
goes_on_as_range-dash d place c rest false is =
    ap (λ (all : Elements). goes_on_as_range all.0) (opened d false place 45 (c ∷ rest) refl)
    ∙ ap (λ (all : Elements). goes_on_as_range ((place, Plain 45) ∷ all.0)) (opened d false (place + 1) c rest (ap (λ t. t && true) is))

goes_on_as_range-other : (d : Option ℕ) (place b : ℕ) (bs : List ℕ) (t : Bool) → (b == 93) ≡ t → (b == 45) ≡ false → goes_on_as_range (elements d false 0 place (b ∷ bs)).0 ≡ false
goes_on_as_range-other d place b bs true is isnt = ap (λ (all : Elements). goes_on_as_range all.0) (closed d false place b bs (ap (λ t. t && true) is))
goes_on_as_range-other d place b bs false is isnt =
    ap (λ (all : Elements). goes_on_as_range all.0) (opened d false place b bs (ap (λ t. t && true) is))
    ∙ no_dash (place, (front_element d (b ∷ bs)).0) (elements d false 0 (place + (front_element d (b ∷ bs)).1) (drop (front_element d (b ∷ bs)).1 (b ∷ bs))).0 (element_dash d b bs isnt)

goes_on_as_range-last : (d : Option ℕ) (place b : ℕ) (t : Bool) → (b == 93) ≡ t → goes_on_as_range (elements d false 0 place (b ∷ [])).0 ≡ false
goes_on_as_range-last d place b true is = ap (λ (all : Elements). goes_on_as_range all.0) (closed d false place b [] (ap (λ t. t && true) is))
goes_on_as_range-last d place b false is = ap (λ (all : Elements). goes_on_as_range all.0) (opened d false place b [] (ap (λ t. t && true) is))

pub goes_on_as_range-elements : (d : Option ℕ) (place : ℕ) (bs : List ℕ) → goes_on_as_range (elements d false 0 place bs).0 ≡ is_range bs
goes_on_as_range-elements d place [] = refl
goes_on_as_range-elements d place (b ∷ []) = goes_on_as_range-last d place b (b == 93) refl
goes_on_as_range-elements d place (b ∷ c ∷ rest) = elim (eqb_tells b 45) [
  | inl w ↦ subst (λ x. goes_on_as_range (elements d false 0 place (x ∷ c ∷ rest)).0 ≡ is_range (x ∷ c ∷ rest)) (sym w.1) (goes_on_as_range-dash d place c rest (c == 93) refl)
  | inr w ↦ goes_on_as_range-other d place b (c ∷ rest) (b == 93) refl w.0 ∙ sym (ap (λ t. t && not (c == 93)) w.0)
]

-- ---- one element, or one range, and the rest

listed_single : (x : ℕ × Element) (rest : List (ℕ × Element)) → goes_on_as_range rest ≡ false → all_listed (x ∷ rest) ≡ both (single x) (all_listed rest)
listed_single x [] isnt = refl
listed_single x (y ∷ []) isnt = refl
listed_single x (y ∷ z ∷ rest) isnt =
    ap (λ (t : Bool). if t then both (range x z (goes_on_as_range rest)) (all_listed rest) else both (single x) (all_listed (y ∷ z ∷ rest))) isnt

-- the bytes read so far, with what is listed from a place on
abbrev pub go_on : Bool → Bool → ℕ → List Bool → Elements → Result (ByteSet × ℕ) ExprFault
go_on folded negated at set all = judged_list folded negated at (both (Ok set) (all_listed all.0)) all.1

or_assoc : (a b c : Bool) → (a || (b || c)) ≡ ((a || b) || c)
or_assoc true b c = refl
or_assoc false b c = refl

or_none : (a : Bool) → (a || false) ≡ a
or_none true = refl
or_none false = refl

union_assoc : (a b c : List Bool) → union a (union b c) ≡ union (union a b) c
union_assoc a b c =
    set_of-same (λ k. has a k || has (union b c) k) (λ k. has (union a b) k || has c k)
    (λ k lt. ap (λ x. has a k || x) (has-set_of (λ m. has b m || has c m) k lt) ∙ or_assoc (has a k) (has b k) (has c k) ∙ sym (ap (λ x. x || has c k) (has-set_of (λ m. has a m || has b m) k lt)))

-- what the next element or range makes of them
abbrev pub after : Option ℕ → List ℕ → Bool → Bool → ℕ → List Bool → Result (ByteSet × ℕ) ExprFault → Result (ByteSet × ℕ) ExprFault
after d text folded negated at set (Err f) = Err f
after d text folded negated at set (Ok found) = go_on folded negated at (union set found.0) (elements d false 0 found.1 (drop found.1 text))

joined_ok : (folded negated : Bool) (at : ℕ) (set h : List Bool) (rest : ListedBytes) (end : Option ℕ) → judged_list folded negated at (both (Ok set) (both (Ok h) rest)) end ≡ judged_list folded negated at (both (Ok (union set h)) rest) end
joined_ok folded negated at set h (Err f) end = refl
joined_ok folded negated at set h (Ok l) end = ap (λ s. judged_list folded negated at (Ok s) end) (union_assoc set h l)

joined : (d : Option ℕ) (text : List ℕ) (folded negated : Bool) (at next : ℕ) (set : List Bool) (here : ListedBytes) (rest : ListedBytes) (end : Option ℕ) →
    rest ≡ all_listed (elements d false 0 next (drop next text)).0 → end ≡ (elements d false 0 next (drop next text)).1 →
    judged_list folded negated at (both (Ok set) (both here rest)) end ≡ after d text folded negated at set (located next here)
joined d text folded negated at next set (Err f) rest end is_rest is_end = refl
joined d text folded negated at next set (Ok h) rest end is_rest is_end =
    joined_ok folded negated at set h rest end
    ∙ ap (λ l. judged_list folded negated at (both (Ok (union set h)) l) end) is_rest
    ∙ ap (judged_list folded negated at (both (Ok (union set h)) (all_listed (elements d false 0 next (drop next text)).0))) is_end

opened_front : (d : Option ℕ) (first : Bool) (place : ℕ) (bs : List ℕ) → 0 < length bs → (get_or bs 0 0 == 93 && not first) ≡ false →
    elements d first 0 place bs ≡ OneMore place (front_element d bs).0 (elements d false 0 (place + (front_element d bs).1) (drop (front_element d bs).1 bs))
opened_front d first place [] some isnt = absurd (omega arith)
opened_front d first place (b ∷ bs) some isnt = opened d first place b bs isnt

opened_at : (d : Option ℕ) (first : Bool) (place : ℕ) (text : List ℕ) → place < length text → (get_or text place 0 == 93 && not first) ≡ false →
    let found = front_element d (drop place text) in
    elements d first 0 place (drop place text) ≡ OneMore place found.0 (elements d false 0 (place + found.1) (drop (place + found.1) text))
opened_at d first place text inside isnt =
    let found : Element × ℕ = front_element d (drop place text) in
    let front : get_or (drop place text) 0 0 ≡ get_or text place 0 = get_or-drop place text 0 0 ∙ ap (λ k. get_or text k 0) (let e : place + 0 ≡ place = omega arith in e) in
    opened_front d first place (drop place text) (omega (arith, length-drop place text)) (ap (λ b. b == 93 && not first) front ∙ isnt)
    ∙ ap (λ l. OneMore place found.0 (elements d false 0 (place + found.1) l)) (drop-drop found.1 place text)

and_first : (a b : Bool) → (a && b) ≡ true → a ≡ true
and_first true b is = refl
and_first false b is = is

and_second : (a b : Bool) → (a && b) ≡ true → b ≡ true
and_second true b is = is
and_second false b is = cc

not_true : (a : Bool) → not a ≡ true → a ≡ false
not_true true is = cc
not_true false is = refl

-- a - and a further element
ranged_front : (d : Option ℕ) (place : ℕ) (bs : List ℕ) → is_range bs ≡ true →
    let last = front_element d (drop 1 bs) in
    elements d false 0 place bs ≡ OneMore place (Plain 45) (OneMore (place + 1) last.0 (elements d false 0 (place + 1 + last.1) (drop last.1 (drop 1 bs))))
ranged_front d place [] is = cc
ranged_front d place (b ∷ []) is = cc
ranged_front d place (b ∷ c ∷ rest) is =
    let last : Element × ℕ = front_element d (c ∷ rest) in
    let dash : b ≡ 45 = eqb-true b 45 (and_first (b == 45) (not (c == 93)) is) in
    let goes : (c == 93) ≡ false = not_true (c == 93) (and_second (b == 45) (not (c == 93)) is) in
    ap (λ x. elements d false 0 place (x ∷ c ∷ rest)) dash
    ∙ opened d false place 45 (c ∷ rest) refl
    ∙ ap (OneMore place (Plain 45)) (opened d false (place + 1) c rest (ap (λ t. t && true) goes))

ranged_at : (d : Option ℕ) (place : ℕ) (text : List ℕ) → is_range (drop place text) ≡ true →
    let last = front_element d (drop (place + 1) text) in
    elements d false 0 place (drop place text) ≡ OneMore place (Plain 45) (OneMore (place + 1) last.0 (elements d false 0 (place + 1 + last.1) (drop (place + 1 + last.1) text)))
ranged_at d place text is =
    let tail : drop 1 (drop place text) ≡ drop (place + 1) text = drop-drop 1 place text in
    let last : Element × ℕ = front_element d (drop (place + 1) text) in
    ranged_front d place (drop place text) is
    ∙ ap (λ l. OneMore place (Plain 45) (OneMore (place + 1) (front_element d l).0 (elements d false 0 (place + 1 + (front_element d l).1) (drop (front_element d l).1 l)))) tail
    ∙ ap (λ l. OneMore place (Plain 45) (OneMore (place + 1) last.0 (elements d false 0 (place + 1 + last.1) l))) (drop-drop last.1 (place + 1) text)

pub one_step : (d : Option ℕ) (text : List ℕ) (first folded negated : Bool) (at place : ℕ) (set : List Bool) → place < length text → (get_or text place 0 == 93 && not first) ≡ false →
    go_on folded negated at set (elements d first 0 place (drop place text)) ≡ after d text folded negated at set (members_at d text place)
unfolding members_at
one_step d text first folded negated at place set inside isnt =
    let found : Element × ℕ = front_element d (drop place text) in
    let next : ℕ = place + found.1 in
    let last : Element × ℕ = front_element d (drop (next + 1) text) in
    let end : ℕ = next + 1 + last.1 in
    let more : Elements = elements d false 0 next (drop next text) in
    let rest : Elements = elements d false 0 end (drop end text) in
    let ranges : Bool = is_range (drop next text) in
    let on : Bool = is_range (drop end text) in
    ap (go_on folded negated at set) (opened_at d first place text inside isnt)
    ∙ ⊎_elim
    (λ (is : ranges ≡ true).
    ap (λ (all : Elements). go_on folded negated at set (OneMore place found.0 all)) (ranged_at d next text is)
    ∙ ap (λ g. judged_list folded negated at (both (Ok set) (both (range (place, found.0) (next + 1, last.0) g) (all_listed rest.0))) rest.1) (goes_on_as_range-elements d end (drop end text))
    ∙ joined d text folded negated at end set (range (place, found.0) (next + 1, last.0) on) (all_listed rest.0) rest.1 refl refl
    ∙ ap (λ (t : Bool). after d text folded negated at set (if t then located end (range (place, found.0) (next + 1, last.0) on) else located next (single (place, found.0)))) (sym is))
    (λ (is : ranges ≡ false).
    ap (λ l. judged_list folded negated at (both (Ok set) l) more.1) (listed_single (place, found.0) more.0 (goes_on_as_range-elements d next (drop next text) ∙ is))
    ∙ joined d text folded negated at next set (single (place, found.0)) (all_listed more.0) more.1 refl refl
    ∙ ap (λ (t : Bool). after d text folded negated at set (if t then located end (range (place, found.0) (next + 1, last.0) on) else located next (single (place, found.0)))) (sym is))
    (decided ranges)

-- ---- the loop over a whole list

begun_from : (d : Option ℕ) (place : ℕ) (bs : List ℕ) (t : Bool) → (if t then elements d true 0 (place + 1) (drop 1 bs) else elements d true 0 place bs) ≡ elements d true 0 (if t then place + 1 else place) (drop (if t then 0 + 1 else 0) bs)
begun_from d place bs true = refl
begun_from d place bs false = refl

begun_at : (d : Option ℕ) (place : ℕ) (bs : List ℕ) → elements_from d place bs ≡ elements d true 0 (elements_start place bs) (drop (elements_start 0 bs) bs)
begun_at d place bs = begun_from d place bs (is_at_front bs 94)

start_add : (place : ℕ) (t : Bool) → place + (if t then 0 + 1 else 0) ≡ (if t then place + 1 else place)
start_add place true = omega arith
start_add place false = omega arith

pub begun : (d : Option ℕ) (place : ℕ) (text : List ℕ) → elements_from d place (drop place text) ≡ elements d true 0 (elements_start place (drop place text)) (drop (elements_start place (drop place text)) text)
begun d place text =
    let bytes : List ℕ = drop place text in
    begun_at d place bytes
    ∙ ap (elements d true 0 (elements_start place bytes)) (drop-drop (elements_start 0 bytes) place text ∙ ap (λ n. drop n text) (start_add place (is_at_front bytes 94)))

pub union_none : (a b : List Bool) → union (union a b) no_byte ≡ union a b
union_none a b =
    set_of-same (λ k. has (union a b) k || has no_byte k) (λ k. has a k || has b k)
    (λ k lt. ap (λ x. has (union a b) k || x) (has-set_of (λ m. false) k lt) ∙ or_none (has (union a b) k) ∙ has-set_of (λ m. has a m || has b m) k lt)

none_union : (a b : List Bool) → union no_byte (union a b) ≡ union a b
none_union a b =
    set_of-same (λ k. has no_byte k || has (union a b) k) (λ k. has a k || has b k)
    (λ k lt. ap (λ x. x || has (union a b) k) (has-set_of (λ m. false) k lt) ∙ has-set_of (λ m. has a m || has b m) k lt)

pub none_none : union no_byte no_byte ≡ no_byte
none_none = set_of-same (λ k. has no_byte k || has no_byte k) (λ k. false) (λ k lt. ap (λ x. x || x) (has-set_of (λ m. false) k lt))

none_both : (a b : ListedBytes) → both (Ok no_byte) (both a b) ≡ both a b
none_both (Err f) b = refl
none_both (Ok s) (Err f) = refl
none_both (Ok s) (Ok t) = ap (λ (u : List Bool). Ok u) (none_union s t)

none_choice : (t : Bool) (a b c d : ListedBytes) → both (Ok no_byte) (if t then both a b else both c d) ≡ (if t then both a b else both c d)
none_choice true a b c d = none_both a b
none_choice false a b c d = none_both c d

none_listed : (els : List (ℕ × Element)) → both (Ok no_byte) (all_listed els) ≡ all_listed els
none_listed [] = ap (λ (u : List Bool). Ok u) none_none
none_listed (x ∷ []) = none_both (single x) (all_listed [])
none_listed (x ∷ y ∷ []) = none_both (single x) (all_listed (y ∷ []))
none_listed (x ∷ y ∷ z ∷ rest) = none_choice (is_dash y.1) (range x z (goes_on_as_range rest)) (all_listed rest) (single x) (all_listed (y ∷ z ∷ rest))

pub list_begun : (d : Option ℕ) (text : List ℕ) (at start : ℕ) (folded negated : Bool) (set : List Bool) → negated ≡ is_at_front (drop (at + 1) text) 94 →
    start ≡ elements_start (at + 1) (drop (at + 1) text) → set ≡ no_byte →
    list_at folded d text at ≡ go_on folded negated at set (elements d (start == start) 0 start (drop start text))
unfolding list_at
list_begun d text at start folded negated set is_neg is_start is_set =
    let bytes : List ℕ = drop (at + 1) text in
    ap (λ (all : Elements). judged_list folded (is_at_front bytes 94) at (all_listed all.0) all.1) (begun d (at + 1) text ∙ ap (λ n. elements d true 0 n (drop n text)) (sym is_start))
    ∙ ap (λ t. judged_list folded t at (all_listed (elements d true 0 start (drop start text)).0) (elements d true 0 start (drop start text)).1) (sym is_neg)
    ∙ ap (λ l. judged_list folded negated at l (elements d true 0 start (drop start text)).1) (sym (none_listed (elements d true 0 start (drop start text)).0))
    ∙ ap (λ s. go_on folded negated at s (elements d true 0 start (drop start text))) (sym is_set)
    ∙ ap (λ t. go_on folded negated at set (elements d t 0 start (drop start text))) (sym (eq-eqb start start refl))

-- the answer for a list of which `set` was read up to a place
abbrev pub list_from : Option ℕ → List ℕ → Bool → Bool → (at start place : ℕ) → List Bool → Result (ByteSet × ℕ) ExprFault
list_from d text folded negated at start place set = go_on folded negated at set (elements d (place == start) 0 place (drop place text))

pub list_more : (d : Option ℕ) (text : List ℕ) (folded negated : Bool) (at start place next : ℕ) (set members : List Bool) (whole : Result (ByteSet × ℕ) ExprFault) →
    whole ≡ list_from d text folded negated at start place set → place < length text → is_closing text start place ≡ false → members_at d text place ≡ Ok (members, next) →
    start ≤ place → place < next → whole ≡ list_from d text folded negated at start next (union set members)
list_more d text folded negated at start place next set members whole so_far inside isnt here low more =
    so_far ∙ one_step d text (place == start) folded negated at place set inside isnt ∙ ap (after d text folded negated at set) here
    ∙ ap (λ t. go_on folded negated at (union set members) (elements d t 0 next (drop next text))) (sym (apart_false next start (λ e. omega arith)))

pub list_fault : (d : Option ℕ) (text : List ℕ) (folded negated : Bool) (at start place : ℕ) (set : List Bool) (f : ExprFault) (whole : Result (ByteSet × ℕ) ExprFault) →
    whole ≡ list_from d text folded negated at start place set → place < length text → is_closing text start place ≡ false → members_at d text place ≡ Err f → Err f ≡ whole
list_fault d text folded negated at start place set f whole so_far inside isnt here =
    sym (so_far ∙ one_step d text (place == start) folded negated at place set inside isnt ∙ ap (after d text folded negated at set) here)

-- ---- the loop over a list of which only the end is wanted

pub end_begun : (d : Option ℕ) (text : List ℕ) (place start : ℕ) → start ≡ elements_start place (drop place text) →
    list_end d place (drop place text) ≡ (elements d (start == start) 0 start (drop start text)).1
unfolding list_end
end_begun d text place start is_start =
    ap (λ (all : Elements). all.1) (begun d place text)
    ∙ ap (λ n. (elements d true 0 n (drop n text)).1) (sym is_start)
    ∙ ap (λ t. (elements d t 0 start (drop start text)).1) (sym (eq-eqb start start refl))

pub end_more : (d : Option ℕ) (text : List ℕ) (start place width : ℕ) (end : Option ℕ) → end ≡ (elements d (place == start) 0 place (drop place text)).1 →
    place < length text → is_closing text start place ≡ false → width ≡ (front_element d (drop place text)).1 → start ≤ place → 0 < width →
    end ≡ (elements d (place + width == start) 0 (place + width) (drop (place + width) text)).1
end_more d text start place width end so_far inside isnt is_width low some =
    so_far ∙ ap (λ (all : Elements). all.1) (opened_at d (place == start) place text inside isnt)
    ∙ ap (λ w. (elements d false 0 (place + w) (drop (place + w) text)).1) (sym is_width)
    ∙ ap (λ t. (elements d t 0 (place + width) (drop (place + width) text)).1) (sym (apart_false (place + width) start (λ e. omega arith)))
