-- The elements of a list, and how the reader meets them.
use Rattle.std.proofs.Common.{◌≡◌, ℕ, ◌+◌, ◌-◌, ◌<◌, ◌≤◌, List, [], ◌∷◌, length, take, drop, refl, sym, ap, ◌∙◌, arith, Some, None, option_map, add-one, length-drop, length-take-le}
use Rattle.std.proofs.lemmas.List.{take_all}
use Rattle.sedre.specs.declared.elements.Element.{Element}
use Rattle.sedre.specs.Brackets.{before_closing, content, front_form, form_of}

pair : {A : Type 0} (a b : A) (m n : ℕ) → a ≡ b → m ≡ n → ◌≡◌ {A = A × ℕ} (a, m) (b, n)
pair a b m n p q = cc

-- one byte or none closes nothing
closing_none : (c : ℕ) (bs : List ℕ) → length bs ≤ 1 → before_closing c bs ≡ None
closing_none c [] few = refl
closing_none c (x ∷ []) few = refl
closing_none c (x ∷ y ∷ rest) few = absurd (omega arith)

pub closing_end : (c at : ℕ) (bs : List ℕ) → length bs ≤ at + 1 → before_closing c bs ≡ option_map (λ n. n + at) (before_closing c (drop at bs)) → None ≡ before_closing c bs
closing_end c at bs short so_far =
    sym (so_far ∙ ap (option_map (λ n. n + at)) (closing_none c (drop at bs) (omega (arith, length-drop at bs))))

content_is : (c more : ℕ) (bs : List ℕ) → 0 < length bs → before_closing c (take (length bs - 1) (drop 1 bs)) ≡ Some more → content c bs ≡ Some (take (more + 1) bs)
content_is c more [] some is = absurd (omega arith)
content_is c more (x ∷ rest) some is =
    ap (λ l. option_map (λ n. x ∷ take n rest) (before_closing c l)) (sym (take_all (length (x ∷ rest) - 1) rest (omega arith)))
    ∙ ap (option_map (λ n. x ∷ take n rest)) is ∙ ap (λ n. Some (take n (x ∷ rest))) (sym (add-one more))

pub form_is : (c more left : ℕ) (bs : List ℕ) (held : Element) → 0 < length bs → before_closing c (take (length bs - 1) (drop 1 bs)) ≡ Some more → more + 1 ≤ length bs →
    held ≡ form_of c (take (more + 1) bs) → ◌≡◌ {A = Element × ℕ} (held, more + 5) (front_form c left (content c bs))
form_is c more left bs held some is inside is_held =
    let width : more + 5 ≡ length (take (more + 1) bs) + 4 = omega (arith, length-take-le (more + 1) bs inside) in
    pair held (form_of c (take (more + 1) bs)) (more + 5) (length (take (more + 1) bs) + 4) is_held width
    ∙ sym (ap (front_form c left) (content_is c more bs some is))
