-- A text within a longer one, behind which comes nothing or a newline: what ends at a delimiter.
use Rattle.std.proofs.Common.{◌≡◌, ℕ, zero, suc, ◌+◌, ◌-◌, ◌<◌, ◌≤◌, ◌&&◌, ◌||◌, ◌==◌, Bool, true, false, not, List, [], ◌∷◌, ◌++◌, length, Option, Some, None, option_map, option_and_then, refl, sym, ap, subst, ◌∙◌, ◌⊎◌, inl, inr, arith, if◌then◌else◌, drop, take, length-drop}
use Rattle.std.proofs.lemmas.List.{take-append-le}
use Rattle.sedre.specs.declared.elements.Element.{Element}
use Rattle.sedre.specs.declared.elements.Element.TheVariants.{Plain, Delimiter}
use Rattle.sedre.specs.Brackets.{before_closing, content, front_form, is_delimiter, front_element, elements, list_end, next_place, first_delimiter, delimiter_at}
use Rattle.sedscript.specs.Strings.{string_end}
use Rattle.scripts.proofs.LongerText.{tail_of, rest_on}

-- a number that was found is found again, so much later
abbrev pub NextOn : (base : ℕ) → Option ℕ → Option ℕ → Type 0
NextOn base None o = Unit {0}
NextOn base (Some n) o = o ≡ Some (base + n)

-- a place that was found is found again, so much later, and lies from one place on and before another
abbrev pub FoundOn : (base from end : ℕ) → Option ℕ → Option ℕ → Type 0
FoundOn base from end None o = Unit {0}
FoundOn base from end (Some to) o = (o ≡ Some (base + to)) × (from ≤ to) × (to < end)

pub found_if : (base from end : ℕ) (t : Bool) (x y z w : Option ℕ) → FoundOn base from end x z → FoundOn base from end y w → FoundOn base from end (if t then x else y) (if t then z else w)
found_if base from end true x y z w h g = h
found_if base from end false x y z w h g = g

pub found_later : (base from next end : ℕ) (x z : Option ℕ) → from ≤ next → FoundOn base next end x z → FoundOn base from end x z
found_later base from next end None z le h = tt
found_later base from next end (Some to) z le h = (h.0, omega (arith, le, h.1), h.2)

-- strings
pub string_on : (base : ℕ) (more : Option (List ℕ)) (breaks : Bool) (d : ℕ) (escaped : Bool) (at place end : ℕ) (bs : List ℕ) → place ≡ base + at → at + length bs ≤ end →
    FoundOn base at end (string_end breaks d escaped at bs) (string_end breaks d escaped place (bs ++ tail_of more))
string_on base more breaks d escaped at place end [] e le = tt
string_on base more breaks d escaped at place end (b ∷ bs) e le =
    let next : suc place ≡ base + suc at = omega (arith, e) in
    let short : suc at + length bs ≤ end = omega (arith, le) in
    found_if base at end (b == 10 && not (breaks && escaped)) None _ None _ tt
    (found_if base at end escaped _ _ _ _ (found_later base at (suc at) end _ _ (omega arith) (string_on base more breaks d false (suc at) (suc place) end bs next short))
    (found_if base at end (b == d) (Some at) _ (Some place) _ (ap (λ n. Some n) e, omega arith, omega (arith, le))
    (found_later base at (suc at) end _ _ (omega arith) (string_on base more breaks d (b == 92) (suc at) (suc place) end bs next short))))

-- forms in brackets
abbrev ClosesIn : List ℕ → Option ℕ → Option ℕ → Type 0
ClosesIn rest None o = Unit {0}
ClosesIn rest (Some n) o = (o ≡ Some n) × (n ≤ length rest)

closing_on : (ys : List ℕ) (c : ℕ) (rest : List ℕ) → ClosesIn rest (before_closing c rest) (before_closing c (rest ++ ys))
closing_on ys c [] = tt
closing_on ys c (x ∷ []) = tt
closing_on ys c (x ∷ y ∷ rest) = by_test (x == c && y == 93) (before_closing c (y ∷ rest)) (before_closing c (y ∷ (rest ++ ys))) (closing_on ys c (y ∷ rest))
  where
    by_test : (t : Bool) (o p : Option ℕ) → ClosesIn (y ∷ rest) o p → ClosesIn (x ∷ y ∷ rest) (if t then Some 0 else option_map (λ n. n + 1) o) (if t then Some 0 else option_map (λ n. n + 1) p)
    by_test true o p h = (refl, omega arith)
    by_test false None p h = tt
    by_test false (Some n) p h = (ap (option_map (λ n. n + 1)) h.0, omega (arith, h.1))

content_on : (ys : List ℕ) (c : ℕ) (rest : List ℕ) → (content c rest ≡ None) ⊎ (content c (rest ++ ys) ≡ content c rest)
content_on ys c [] = inl refl
content_on ys c (x ∷ rest) = by_found (before_closing c rest) (before_closing c (rest ++ ys)) (closing_on ys c rest)
  where
    by_found : (o p : Option ℕ) → ClosesIn rest o p → (option_map (λ n. x ∷ take n rest) o ≡ None) ⊎ (option_map (λ n. x ∷ take n (rest ++ ys)) p ≡ option_map (λ n. x ∷ take n rest) o)
    by_found None p h = inl refl
    by_found (Some n) p h = inr (ap (option_map (λ n. x ∷ take n (rest ++ ys))) h.0 ∙ ap (λ w. Some (x ∷ w)) (take-append-le n rest ys h.1))

abbrev chosen : (b c : ℕ) (t u : Bool) → Element × ℕ → Element × ℕ
chosen b c t u x = if t then (Delimiter c, 2) else if u then x else (Plain b, 1)

-- the element at the front of a list is the same, or it takes all that is left
element_on : (ys : List ℕ) (delimiter : Option ℕ) (b : ℕ) (bs : List ℕ) → (front_element delimiter (b ∷ (bs ++ ys)) ≡ front_element delimiter (b ∷ bs)) ⊎ (length bs ≤ (front_element delimiter (b ∷ bs)).1 - 1)
element_on ys delimiter b [] = inr (omega arith)
element_on ys delimiter b (c ∷ rest) = by_tests (b == 92 && is_delimiter delimiter c) (b == 91 && (c == 58 || c == 61 || c == 46)) (content c rest) (content c (rest ++ ys)) (content_on ys c rest)
  where
    by_tests : (t u : Bool) (o p : Option (List ℕ)) → (o ≡ None) ⊎ (p ≡ o) →
        (chosen b c t u (front_form c (length (rest ++ ys) + 2) p) ≡ chosen b c t u (front_form c (length rest + 2) o)) ⊎ (length (c ∷ rest) ≤ (chosen b c t u (front_form c (length rest + 2) o)).1 - 1)
    by_tests true u o p h = inl refl
    by_tests false false o p h = inl refl
    by_tests false true None p h = inr (omega arith)
    by_tests false true (Some held) p (inl e) = absurd cc
    by_tests false true (Some held) p (inr e) = inl (ap (front_form c (length (rest ++ ys) + 2)) e)

-- a list that is stepped over to its end doesn't close
elements_none : (delimiter : Option ℕ) (first : Bool) (skip place : ℕ) (bs : List ℕ) → length bs ≤ skip → (elements delimiter first skip place bs).1 ≡ None
elements_none delimiter first skip place [] le = refl
elements_none delimiter first zero place (b ∷ bs) le = absurd (omega (arith, le))
elements_none delimiter first (suc skip) place (b ∷ bs) le = elements_none delimiter first skip (place + 1) bs (omega (arith, le))

next_of_none : (base : ℕ) (x z : Option ℕ) → x ≡ None → NextOn base x z
next_of_none base None z e = tt
next_of_none base (Some n) z e = absurd cc

elements_on : (base : ℕ) (ys : List ℕ) (delimiter : Option ℕ) (first : Bool) (skip at place : ℕ) (bs : List ℕ) → place ≡ base + at → NextOn base (elements delimiter first skip at bs).1 (elements delimiter first skip place (bs ++ ys)).1
elements_on base ys delimiter first skip at place [] e = tt
elements_on base ys delimiter first (suc skip) at place (b ∷ bs) e = let next : place + 1 ≡ base + (at + 1) = omega (arith, e) in elements_on base ys delimiter first skip (at + 1) (place + 1) bs next
elements_on base ys delimiter first zero at place (b ∷ bs) e =
    let next : place + 1 ≡ base + (at + 1) = omega (arith, e) in
    by_test (b == 93 && not first) next (front_element delimiter (b ∷ bs)) (front_element delimiter (b ∷ (bs ++ ys))) (element_on ys delimiter b bs) (λ skip. elements_on base ys delimiter false skip (at + 1) (place + 1) bs next)
  where
    by_test : (t : Bool) → place + 1 ≡ base + (at + 1) → (x z : Element × ℕ) → (z ≡ x) ⊎ (length bs ≤ x.1 - 1) → ((skip : ℕ) → NextOn base (elements delimiter false skip (at + 1) bs).1 (elements delimiter false skip (place + 1) (bs ++ ys)).1) →
        NextOn base (if◌then◌else◌ {A = List (ℕ × Element) × Option ℕ} t ([], Some (at + 1)) ((at, x.0) ∷ (elements delimiter false (x.1 - 1) (at + 1) bs).0, (elements delimiter false (x.1 - 1) (at + 1) bs).1)).1
        (if◌then◌else◌ {A = List (ℕ × Element) × Option ℕ} t ([], Some (place + 1)) ((place, z.0) ∷ (elements delimiter false (z.1 - 1) (place + 1) (bs ++ ys)).0, (elements delimiter false (z.1 - 1) (place + 1) (bs ++ ys)).1)).1
    by_test true next x z h on = ap (λ n. Some n) next
    by_test false next x z (inl same) on = subst (λ (z : Element × ℕ). NextOn base (elements delimiter false (x.1 - 1) (at + 1) bs).1 (elements delimiter false (z.1 - 1) (place + 1) (bs ++ ys)).1) (sym same) (on (x.1 - 1))
    by_test false next x z (inr le) on = next_of_none base (elements delimiter false (x.1 - 1) (at + 1) bs).1 _ (elements_none delimiter false (x.1 - 1) (at + 1) bs le)

list_on : (base : ℕ) (ys : List ℕ) (delimiter : Option ℕ) (at place : ℕ) (bs : List ℕ) → place ≡ base + at → NextOn base (list_end delimiter at bs) (list_end delimiter place (bs ++ ys))
unfolding list_end
list_on base ys delimiter at place [] e = tt
list_on base ys delimiter at place (b ∷ bs) e = let next : place + 1 ≡ base + (at + 1) = omega (arith, e) in by_test (b == 94) (elements_on base ys delimiter true 0 (at + 1) (place + 1) bs next) (elements_on base ys delimiter true 0 at place (b ∷ bs) e)
  where
    by_test : (t : Bool) → NextOn base (elements delimiter true 0 (at + 1) bs).1 (elements delimiter true 0 (place + 1) (bs ++ ys)).1 → NextOn base (elements delimiter true 0 at (b ∷ bs)).1 (elements delimiter true 0 place (b ∷ (bs ++ ys))).1 →
        NextOn base (if◌then◌else◌ {A = List (ℕ × Element) × Option ℕ} t (elements delimiter true 0 (at + 1) bs) (elements delimiter true 0 at (b ∷ bs))).1 (if◌then◌else◌ {A = List (ℕ × Element) × Option ℕ} t (elements delimiter true 0 (place + 1) (bs ++ ys)) (elements delimiter true 0 place (b ∷ (bs ++ ys)))).1
    by_test true h g = h
    by_test false h g = g

next_if : (base : ℕ) (t : Bool) (x y z w : Option ℕ) → NextOn base x z → NextOn base y w → NextOn base (if t then x else y) (if t then z else w)
next_if base true x y z w h g = h
next_if base false x y z w h g = g

some_if : (base : ℕ) (t u : Bool) (x z : ℕ) → t ≡ false → u ≡ false → z ≡ base + x → NextOn base (if t then None else Some x) (if u then None else Some z)
some_if base t u x z h g e =
    subst (λ (t : Bool). NextOn base (if t then None else Some x) (if u then None else Some z)) (sym h)
    (subst (λ (u : Bool). NextOn base (Some x) (if u then None else Some z)) (sym g) (ap (λ n. Some n) e))

next_on : (base : ℕ) (ys : List ℕ) (d at place b : ℕ) (bs : List ℕ) → place ≡ base + at → NextOn base (next_place d at (b ∷ bs)) (next_place d place (b ∷ (bs ++ ys)))
next_on base ys d at place b bs e =
    next_if base (b == 92) _ _ _ _ (escape bs)
    (next_if base (b == 91) _ _ _ _ (list_on base ys (Some d) (at + 1) (place + 1) bs (omega (arith, e)))
    (let next : place + 1 ≡ base + (at + 1) = omega (arith, e) in ap (λ n. Some n) next))
  where
    escape : (bs : List ℕ) → NextOn base (if length bs == 0 then None else Some (at + 2)) (if length (bs ++ ys) == 0 then None else Some (place + 2))
    escape [] = tt
    escape (c ∷ rest) = some_if base (length (c ∷ rest) == 0) (length (c ∷ (rest ++ ys)) == 0) (at + 2) (place + 2) (grind (arith)) (grind (arith)) (omega (arith, e))

found_then : (base from end : ℕ) (f g : ℕ → Option ℕ) (x z : Option ℕ) → NextOn base x z → ((n : ℕ) → FoundOn base from end (f n) (g (base + n))) → FoundOn base from end (option_and_then f x) (option_and_then g z)
found_then base from end f g None z h on = tt
found_then base from end f g (Some n) z h on = subst (λ (z : Option ℕ). FoundOn base from end (f n) (option_and_then g z)) (sym h) (on n)

first_on : (base : ℕ) (ys : List ℕ) (d skip at place end : ℕ) (bs : List ℕ) → place ≡ base + at → at + length bs ≤ end → FoundOn base at end (first_delimiter d skip at bs) (first_delimiter d skip place (bs ++ ys))
first_on base ys d skip at place end [] e le = tt
first_on base ys d (suc skip) at place end (b ∷ bs) e le =
    found_if base at end (b == 10) None _ None _ tt (found_later base at (at + 1) end _ _ (omega arith) (first_on base ys d skip (at + 1) (place + 1) end bs (omega (arith, e)) (omega (arith, le))))
first_on base ys d zero at place end (b ∷ bs) e le =
    found_if base at end (b == 10) None _ None _ tt
    (found_if base at end (b == d) (Some at) _ (Some place) _ (ap (λ n. Some n) e, omega arith, omega (arith, le))
    (found_then base at end (λ next. first_delimiter d (next - (at + 1)) (at + 1) bs) (λ next. first_delimiter d (next - (place + 1)) (place + 1) (bs ++ ys)) (next_place d at (b ∷ bs)) (next_place d place (b ∷ (bs ++ ys))) (next_on base ys d at place b bs e)
    (λ n. let skip : base + n - (place + 1) ≡ n - (at + 1) = omega (arith, e) in
    subst (λ (k : ℕ). FoundOn base at end (first_delimiter d (n - (at + 1)) (at + 1) bs) (first_delimiter d k (place + 1) (bs ++ ys))) (sym skip)
    (found_later base at (at + 1) end _ _ (omega arith) (first_on base ys d (n - (at + 1)) (at + 1) (place + 1) end bs (omega (arith, e)) (omega (arith, le)))))))

module _ (before text : List ℕ) (more : Option (List ℕ)) where
  abbrev whole : List ℕ
  whole = before ++ (text ++ tail_of more)

  abbrev base : ℕ
  base = length before

  pub delimiter_on : (at d : ℕ) → at ≤ length text → FoundOn base at (length text) (delimiter_at text at d) (delimiter_at whole (base + at) d)
  unfolding delimiter_at
  delimiter_on at d le =
      subst (λ (bs : List ℕ). FoundOn base at (length text) (first_delimiter d 0 at (drop at text)) (first_delimiter d 0 (base + at) bs)) (sym (rest_on before text more at le))
      (first_on base (tail_of more) d 0 at (base + at) (length text) (drop at text) refl (omega (arith, le, length-drop at text)))

  pub string_there : (breaks : Bool) (d at : ℕ) → at ≤ length text → FoundOn base at (length text) (string_end breaks d false at (drop at text)) (string_end breaks d false (base + at) (drop (base + at) whole))
  string_there breaks d at le =
      subst (λ (bs : List ℕ). FoundOn base at (length text) (string_end breaks d false at (drop at text)) (string_end breaks d false (base + at) bs)) (sym (rest_on before text more at le))
      (string_on base more breaks d false at (base + at) (length text) (drop at text) refl (omega (arith, le, length-drop at text)))
