-- What a list of plain bytes matches.
use Rattle.std.proofs.Common.{◌≡◌, ◌⊎◌, ℕ, suc, ◌+◌, ◌-◌, ◌<◌, ◌==◌, ◌||◌, ◌&&◌, not, Bool, true, false, if◌then◌else◌, List, [], ◌∷◌, ◌++◌, length, drop, Option, Some, None, Result, Ok, refl, sym, ap, ◌∙◌, arith, inl, inr}
use Rattle.std.proofs.lemmas.Bool.{ne_eqb, eq-eqb}
use Rattle.std.proofs.lemmas.Bool.Decides.{eqb_tells}
use Rattle.sedre.specs.WordLaws.{has-set_of}
use Rattle.sedre.proofs.ByteLemmas.{set_of-same}
use Rattle.sedre.specs.declared.elements.Element.{Element}
use Rattle.sedre.specs.declared.elements.Element.TheVariants.{Plain}
use Rattle.sedre.specs.declared.types.ExprFault.{ExprFault}
use Rattle.sedre.specs.declared.byte_set.ByteSet.{ByteSet}
use Rattle.sedre.specs.Sets.{set_of, has, only, union, matching, complement}
use Rattle.sedre.specs.Brackets.{front_element, elements, elements_from, is_delimiter, single, both, all_listed, judged_list, matched_set, is_at_front, ListedBytes, list_at}
use Rattle.sedscript.specs.Strings.{is_among}
use Rattle.examples.specs.Lists.{ArePlainMembers}

abbrev Elements : Type 0
Elements = List (ℕ × Element) × Option ℕ

abbrev placed : ℕ → List ℕ → List (ℕ × Element)
placed place [] = []
placed place (b ∷ bs) = (place, Plain b) ∷ placed (place + 1) bs

-- ---- the elements

element_by : (s t u : Bool) (x y : Element × ℕ) (b : ℕ) → s ≡ false → t ≡ false → (if s then x else if t && u then y else (Plain b, 1)) ≡ (Plain b, 1)
element_by s t u x y b d e = rw d (rw e refl)

no_escape : (t : Bool) → (t && false) ≡ false
no_escape true = refl
no_escape false = refl

not_escaped : (delimiter : Option ℕ) (b c : ℕ) → (delimiter ≡ None) ⊎ (b ≡ 92 → ⊥) → (b == 92 && is_delimiter delimiter c) ≡ false
not_escaped delimiter b c (inl e) = rw e (no_escape (b == 92))
not_escaped delimiter b c (inr other) = rw (ne_eqb b 92 other) refl

element_front : (delimiter : Option ℕ) (b : ℕ) (bs rest : List ℕ) → (b ≡ 91 → ⊥) → (delimiter ≡ None) ⊎ (b ≡ 92 → ⊥) → front_element delimiter (b ∷ (bs ++ 93 ∷ rest)) ≡ (Plain b, 1)
element_front delimiter b [] rest other free = element_by (b == 92 && is_delimiter delimiter 93) (b == 91) _ _ _ b (not_escaped delimiter b 93 free) (ne_eqb b 91 other)
element_front delimiter b (c ∷ bs) rest other free = element_by (b == 92 && is_delimiter delimiter c) (b == 91) _ _ _ b (not_escaped delimiter b c free) (ne_eqb b 91 other)

elements_step : (t s : Bool) (place b : ℕ) (found : Element × ℕ) (next : ℕ → Elements) → t ≡ false → found ≡ (Plain b, 1) →
    ◌≡◌ {A = Elements} (if t && s then ([], Some (place + 1)) else ((place, found.0) ∷ (next (found.1 - 1)).0, (next (found.1 - 1)).1)) ((place, Plain b) ∷ (next 0).0, (next 0).1)
elements_step t s place b found next e f = rw e (rw f refl)

front : (d : Option ℕ) (first : Bool) (place b : ℕ) (bs rest : List ℕ) → ArePlainMembers d (b ∷ bs) →
    ◌≡◌ {A = Elements} (elements d first 0 place (b ∷ (bs ++ 93 ∷ rest))) ((place, Plain b) ∷ (elements d false 0 (place + 1) (bs ++ 93 ∷ rest)).0, (elements d false 0 (place + 1) (bs ++ 93 ∷ rest)).1)
front d first place b bs rest p =
    elements_step (b == 93) (not first) place b (front_element d (b ∷ (bs ++ 93 ∷ rest))) (λ n. elements d false n (place + 1) (bs ++ 93 ∷ rest)) (ne_eqb b 93 p.1) (element_front d b bs rest p.0 p.4)

later : (d : Option ℕ) (place : ℕ) (bs rest : List ℕ) → ArePlainMembers d bs → ◌≡◌ {A = Elements} (elements d false 0 place (bs ++ 93 ∷ rest)) (placed place bs, Some (place + length bs + 1))
later d place [] rest p = let e : place + 1 ≡ place + 0 + 1 = omega arith in ap (λ (n : ℕ). let x : Elements = ([], Some n) in x) e
later d place (b ∷ bs) rest p =
    front d false place b bs rest p
    ∙ (ap (λ (r : Elements). let x : Elements = ((place, Plain b) ∷ r.0, r.1) in x) (later d (place + 1) bs rest p.5)
    ∙ (let e : place + 1 + length bs + 1 ≡ place + suc (length bs) + 1 = omega arith in ap (λ (n : ℕ). let x : Elements = (placed place (b ∷ bs), Some n) in x) e))

all_elements : (d : Option ℕ) (place : ℕ) (bs rest : List ℕ) → 0 < length bs → ArePlainMembers d bs → ◌≡◌ {A = Elements} (elements d true 0 place (bs ++ 93 ∷ rest)) (placed place bs, Some (place + length bs + 1))
all_elements d place [] rest h p = absurd (omega (arith, h))
all_elements d place (b ∷ bs) rest h p =
    front d true place b bs rest p
    ∙ (ap (λ (r : Elements). let x : Elements = ((place, Plain b) ∷ r.0, r.1) in x) (later d (place + 1) bs rest p.5)
    ∙ (let e : place + 1 + length bs + 1 ≡ place + suc (length bs) + 1 = omega arith in ap (λ (n : ℕ). let x : Elements = (placed place (b ∷ bs), Some n) in x) e))

-- ---- what they list

one_by_one : (d : Option ℕ) (place b : ℕ) (bs : List ℕ) → ArePlainMembers d bs → all_listed ((place, Plain b) ∷ placed (place + 1) bs) ≡ both (single (place, Plain b)) (all_listed (placed (place + 1) bs))
one_by_one d place b [] p = refl
one_by_one d place b (c ∷ []) p = refl
one_by_one d place b (c ∷ x ∷ bs) p = rw (ne_eqb c 45 p.2) refl

same_test : (c b : ℕ) → (c == b) ≡ (b == c)
same_test c b = elim (eqb_tells c b) [ inl h ↦ h.0 ∙ sym (eq-eqb b c (sym h.1)) | inr h ↦ h.0 ∙ sym (ne_eqb b c (λ e. h.1 (sym e))) ]

one_more : (b : ℕ) (bs : List ℕ) → union (only b) (set_of (λ c. is_among bs c)) ≡ set_of (λ c. is_among (b ∷ bs) c)
one_more b bs =
    set_of-same (λ c. has (only b) c || has (set_of (λ c. is_among bs c)) c) (λ c. is_among (b ∷ bs) c)
    (λ c low. rw (has-set_of (λ c. c == b) c low) (rw (has-set_of (λ c. is_among bs c) c low) (rw (same_test c b) refl)))

lists_all : (d : Option ℕ) (place : ℕ) (bs : List ℕ) → ArePlainMembers d bs → all_listed (placed place bs) ≡ Ok (set_of (λ c. is_among bs c))
lists_all d place [] p = refl
lists_all d place (b ∷ bs) p =
    one_by_one d place b bs p.5
    ∙ (ap (both (single (place, Plain b))) (lists_all d (place + 1) bs p.5)
    ∙ ap (λ (s : List Bool). let x : ListedBytes = Ok s in x) (one_more b bs))

-- ---- the whole list

drop_past : (before xs : List ℕ) (b : ℕ) → drop (length before + 1) (before ++ b ∷ xs) ≡ xs
drop_past [] xs b = refl
drop_past (a ∷ before) xs b = let e : suc (length before) + 1 ≡ suc (length before + 1) = omega arith in rw e (drop_past before xs b)

abbrev Found : Type 0
Found = Result (ByteSet × ℕ) ExprFault

abbrev whole : Bool → Option ℕ → ℕ → List ℕ → Found
whole folded d at bytes = judged_list folded (is_at_front bytes 94) at (all_listed (elements_from d (at + 1) bytes).0) (elements_from d (at + 1) bytes).1

of_text : (folded : Bool) (d : Option ℕ) (before xs : List ℕ) → list_at folded d (before ++ 91 ∷ xs) (length before) ≡ whole folded d (length before) xs
unfolding list_at
of_text folded d before xs = ap (whole folded d (length before)) (drop_past before xs 91)

judged_by : (folded negated : Bool) (d : Option ℕ) (at place : ℕ) (bs : List ℕ) (found : Elements) → ArePlainMembers d bs → found ≡ (placed place bs, Some (place + length bs + 1)) →
    judged_list folded negated at (all_listed found.0) found.1 ≡ Ok (matched_set folded negated (set_of (λ c. is_among bs c)), place + length bs + 1)
judged_by folded negated d at place bs found p e = rw e (rw (lists_all d place bs p) refl)

plain_front : (folded : Bool) (d : Option ℕ) (at : ℕ) (bs rest : List ℕ) → 0 < length bs → ArePlainMembers d bs → whole folded d at (bs ++ 93 ∷ rest) ≡ Ok (matching folded (set_of (λ c. is_among bs c)), at + 1 + length bs + 1)
plain_front folded d at [] rest h p = absurd (omega (arith, h))
plain_front folded d at (b ∷ bs) rest h p =
    rw (ne_eqb b 94 p.3) (judged_by folded false d at (at + 1) (b ∷ bs) (elements d true 0 (at + 1) (b ∷ bs ++ 93 ∷ rest)) p (all_elements d (at + 1) (b ∷ bs) rest h p))

abbrev answer : List Bool → ℕ → Found
answer set next = Ok (set, next)

pub list_matches : (folded : Bool) (delimiter : Option ℕ) (before bytes after : List ℕ) → 0 < length bytes → ArePlainMembers delimiter bytes →
    list_at folded delimiter (before ++ 91 ∷ (bytes ++ 93 ∷ after)) (length before)
    ≡ Ok (matching folded (set_of (λ c. is_among bytes c)), length before + length bytes + 2)
list_matches folded delimiter before bytes after some p =
    of_text folded delimiter before (bytes ++ 93 ∷ after)
    ∙ (plain_front folded delimiter (length before) bytes after some p
    ∙ (let e : length before + 1 + length bytes + 1 ≡ length before + length bytes + 2 = omega arith in ap (answer (matching folded (set_of (λ c. is_among bytes c)))) e))

pub others_match : (folded : Bool) (delimiter : Option ℕ) (before bytes after : List ℕ) → 0 < length bytes → ArePlainMembers delimiter bytes →
    list_at folded delimiter (before ++ 91 ∷ 94 ∷ (bytes ++ 93 ∷ after)) (length before)
    ≡ Ok (complement (matching folded (set_of (λ c. is_among bytes c))), length before + length bytes + 3)
others_match folded delimiter before bytes after some p =
    of_text folded delimiter before (94 ∷ (bytes ++ 93 ∷ after))
    ∙ (judged_by folded true delimiter (length before) (length before + 1 + 1) bytes (elements delimiter true 0 (length before + 1 + 1) (bytes ++ 93 ∷ after)) p
    (all_elements delimiter (length before + 1 + 1) bytes after some p)
    ∙ (let e : length before + 1 + 1 + length bytes + 1 ≡ length before + length bytes + 3 = omega arith in ap (answer (complement (matching folded (set_of (λ c. is_among bytes c))))) e))
