-- Stepping over what no delimiter ends.
use Rattle.std.proofs.Common.{◌≡◌, ℕ, zero, suc, ◌+◌, ◌-◌, ◌<◌, ◌==◌, Bool, true, false, ◌||◌, List, [], ◌∷◌, length, take, drop, get_or, refl, sym, ap, ◌∙◌, arith, Option, Some, None, if◌then◌else◌, option_and_then}
use Rattle.std.specs.List.{list_any}
use Rattle.std.proofs.lemmas.List.{get_or-drop, length-drop, drop-drop}
use Rattle.sedre.proofs.ByteLemmas.{apart_false}
use Rattle.sedre.specs.Brackets.{next_place, first_delimiter}

-- whether a newline is among some bytes
abbrev pub breaks : List ℕ → Bool
breaks bytes = list_any (λ b. b == 10) bytes

choice : (t any : Bool) (here there : Option ℕ) → here ≡ (if any then None else there) → (if t then None else here) ≡ (if t || any then None else there)
choice true any here there is = refl
choice false any here there is = is

-- stepping over bytes
skipped : (d k place : ℕ) (bs : List ℕ) → first_delimiter d k place bs ≡ (if breaks (take k bs) then None else first_delimiter d 0 (place + k) (drop k bs))
skipped d zero place bs = ap (λ p. first_delimiter d 0 p bs) (let e : place ≡ place + 0 = omega arith in e)
skipped d (suc k) place [] = refl
skipped d (suc k) place (b ∷ bs) =
    choice (b == 10) (breaks (take k bs)) (first_delimiter d k (place + 1) bs) (first_delimiter d 0 (place + suc k) (drop k bs))
    (skipped d k (place + 1) bs ∙ ap (λ p. if breaks (take k bs) then None else first_delimiter d 0 p (drop k bs)) (let e : place + 1 + k ≡ place + suc k = omega arith in e))

front : (d place next b : ℕ) (bs : List ℕ) → (b == d) ≡ false → next_place d place (b ∷ bs) ≡ Some next → place < next →
    first_delimiter d 0 place (b ∷ bs) ≡ (if breaks (take (next - place) (b ∷ bs)) then None else first_delimiter d 0 next (drop (next - place) (b ∷ bs)))
front d place next b bs isnt is more =
    let k : ℕ = next - (place + 1) in
    let go : ℕ → Option ℕ = λ n. first_delimiter d (n - (place + 1)) (place + 1) bs in
    ap (λ (t : Bool). if b == 10 then None else (if t then Some place else option_and_then go (next_place d place (b ∷ bs)))) isnt
    ∙ ap (λ o. if b == 10 then None else option_and_then go o) is
    ∙ choice (b == 10) (breaks (take k bs)) (first_delimiter d k (place + 1) bs) (first_delimiter d 0 next (drop k bs))
    (skipped d k (place + 1) bs ∙ ap (λ p. if breaks (take k bs) then None else first_delimiter d 0 p (drop k bs)) (let e : place + 1 + k ≡ next = omega arith in e))
    ∙ sym (ap (λ n. if breaks (take n (b ∷ bs)) then None else first_delimiter d 0 next (drop n (b ∷ bs))) (let e : next - place ≡ suc k = omega arith in e))

front_of : (d place next : ℕ) (bs : List ℕ) → 0 < length bs → (get_or bs 0 0 == d) ≡ false → next_place d place bs ≡ Some next → place < next →
    first_delimiter d 0 place bs ≡ (if breaks (take (next - place) bs) then None else first_delimiter d 0 next (drop (next - place) bs))
front_of d place next [] some isnt is more = absurd (omega arith)
front_of d place next (b ∷ bs) some isnt is more = front d place next b bs isnt is more

pub stepped : (d place next : ℕ) (text : List ℕ) (broken : Bool) → place < length text → (get_or text place 0 ≡ d → ⊥) → next_place d place (drop place text) ≡ Some next → place < next →
    broken ≡ breaks (take (next - place) (drop place text)) →
    first_delimiter d 0 place (drop place text) ≡ (if broken then None else first_delimiter d 0 next (drop next text))
stepped d place next text broken inside isnt is more is_broken =
    let here : get_or (drop place text) 0 0 ≡ get_or text place 0 = get_or-drop place text 0 0 ∙ ap (λ k. get_or text k 0) (let e : place + 0 ≡ place = omega arith in e) in
    front_of d place next (drop place text) (omega (arith, length-drop place text)) (apart_false (get_or (drop place text) 0 0) d (λ e. isnt (sym here ∙ e))) is more
    ∙ ap (λ l. if breaks (take (next - place) (drop place text)) then None else first_delimiter d 0 next l)
    (drop-drop (next - place) place text ∙ ap (λ n. drop n text) (let e : place + (next - place) ≡ next = omega arith in e))
    ∙ ap (λ t. if t then None else first_delimiter d 0 next (drop next text)) (sym is_broken)
