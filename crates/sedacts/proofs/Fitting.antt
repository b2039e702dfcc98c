-- The expressions of a script, and their sizes.
use Rattle.std.proofs.Common.{Result, Ok, Err, ⊎_elim, ◌≡◌, ℕ, ◌+◌, ◌<◌, ◌≤◌, List, [], ◌∷◌, ◌++◌, None, Some, length, take, get_or, sym, ap, subst, refl, ◌∙◌, arith, Bool, false, Option}
use Rattle.std.specs.Prelude.{slice_get, IfOk, is_some}
use Rattle.std.proofs.lemmas.Bool.{cases_eq, cases_lt}
use Rattle.std.proofs.Math.Seq.{take-length}
use Rattle.std.proofs.lemmas.List.{take_more}
use Rattle.std.proofs.lemmas.List.Elements.{All-append, All-from_get_or, All-get_or, All-nil}
use Rattle.std.proofs.lemmas.Option.{get_or_from_slice_get, slice_get-get_or, slice_get_within, slice_get_read}
use Rattle.sedre.specs.Tree.{WrittenExpression, expression_tree}
use Rattle.sedmatch.specs.declared.occurrences.Occurrences.{Occurrences}
use Rattle.sedmatch.specs.Occurrences.{KeepsRoom}
use Rattle.sedacts.specs.Fitting.{AllFit, Seek}
use Rattle.sedmatch.specs.Matching.{leftmost_longest}
use Rattle.sedacts.specs.State.{finds_in}
use Rattle.std.specs.Option.{option_map_or}

-- the expression of a number fits
pub fits_at : (most : ℕ) (es : List WrittenExpression) (k : ℕ) (e : WrittenExpression) → k < length es → e ≡ get_or es k e → AllFit most es → length e.nodes ≤ most
unfolding AllFit
fits_at most es k e inside is fit =
    subst (λ (x : WrittenExpression). length x.nodes ≤ most) (sym is) (All-get_or (λ (x : WrittenExpression). length x.nodes ≤ most) es k e inside fit)

-- none is left that doesn't fit
pub fits_none : (most : ℕ) (es : List WrittenExpression) → es ≡ [] → AllFit most es
unfolding AllFit
fits_none most es none = rw none (All-nil (λ (x : WrittenExpression). length x.nodes ≤ most))

first_of_one : (i : ℕ) (e : WrittenExpression) → i < 1 → get_or (e ∷ []) i e ≡ e
first_of_one i e inside = let none : i ≡ 0 = omega arith in rw none refl

-- one more fits
pub fits_more : (most : ℕ) (es fs : List WrittenExpression) (e : WrittenExpression) → fs ≡ es ++ e ∷ [] → AllFit most es → length e.nodes ≤ most → AllFit most fs
unfolding AllFit
fits_more most es fs e are fit more =
    let P : WrittenExpression → Type 0 = λ x. length x.nodes ≤ most in
    rw are (All-append P es (e ∷ []) fit (All-from_get_or P (e ∷ []) e (λ i inside. rw (first_of_one i e inside) more)))

-- the first expressions, and one more
pub first_more : (es ms fs : List WrittenExpression) (k : ℕ) (e : WrittenExpression) → slice_get es k ≡ Some e → ms ≡ take k es → fs ≡ ms ++ e ∷ [] → fs ≡ take (k + 1) es
first_more es ms fs k e is before are =
    are ∙ ap (λ (xs : List WrittenExpression). xs ++ e ∷ []) before ∙ ap (λ (x : WrittenExpression). take k es ++ x ∷ []) (sym (get_or_from_slice_get es k e e is))
    ∙ sym (take_more es k e (slice_get_within es k e is))

-- what seeks all expressions of a script
pub seek_all : (es : List WrittenExpression) (most : ℕ) (ms : List WrittenExpression) (k : ℕ) → ms ≡ take k es → length es ≤ k → k ≤ length es → AllFit most ms → Seek es most ms
unfolding Seek
seek_all es most ms k are whole within fit =
    let all : k ≡ length es = omega arith in
    (are ∙ ap (λ (n : ℕ). take n es) all ∙ take-length es, fit)

-- what the matchers seek, and that it fits
pub sought : (es : List WrittenExpression) (most : ℕ) (ms : List WrittenExpression) → Seek es most ms → ms ≡ es
unfolding Seek
sought es most ms h = h.0

pub sought_fit : (es : List WrittenExpression) (most : ℕ) (ms : List WrittenExpression) → Seek es most ms → AllFit most ms
unfolding Seek
sought_fit es most ms h = h.1

-- an expression of the script has a matcher
pub sought_at : (es : List WrittenExpression) (most : ℕ) (ms : List WrittenExpression) (k : ℕ) → Seek es most ms → k < length es → k < length ms
sought_at es most ms k h inside =
    let same : length ms ≡ length es = ap (λ (xs : List WrittenExpression). length xs) (sought es most ms h) in omega arith

-- each fits if each one at a place does
pub fits_all : (most : ℕ) (es : List WrittenExpression) → ((i : ℕ) (e : WrittenExpression) → slice_get es i ≡ Some e → length e.nodes ≤ most) → AllFit most es
unfolding AllFit
fits_all most [] each = All-nil (λ (x : WrittenExpression). length x.nodes ≤ most)
fits_all most (e ∷ es) each =
    All-from_get_or (λ (x : WrittenExpression). length x.nodes ≤ most) (e ∷ es) e
    (λ i inside. each i (get_or (e ∷ es) i e) (slice_get-get_or (e ∷ es) i e inside))

pub lower : (i k : ℕ) → i < k + 1 → (i ≡ k → ⊥) → i < k
lower i k low ne = ⊎_elim (λ (lt : i < k). lt) (λ (ge : k ≤ i). absurd (ne (omega arith))) (cases_lt i k)

-- the most nodes of some expressions, and of one more
pub most_next : (es : List WrittenExpression) (k most more : ℕ) (x : WrittenExpression) → slice_get es k ≡ Some x →
    ((i : ℕ) (e : WrittenExpression) → i < k → slice_get es i ≡ Some e → length e.nodes ≤ most) → most ≤ more → length x.nodes ≤ more →
    (i : ℕ) (e : WrittenExpression) → i < k + 1 → slice_get es i ≡ Some e → length e.nodes ≤ more
most_next es k most more x at before grown here i e low is =
    ⊎_elim
    (λ (same : i ≡ k).
    let one : x ≡ e = some_same x e (sym at ∙ ap (λ (j : ℕ). slice_get es j) (sym same) ∙ is) in
    subst (λ (v : WrittenExpression). length v.nodes ≤ more) one here)
    (λ (other : i ≡ k → ⊥). let old = before i e (lower i k low other) is in omega arith)
    (cases_eq i k)
  where
    some_same : (x e : WrittenExpression) → Some x ≡ Some e → x ≡ e
    some_same x e h = cc

pub ok_with : {A E : Type 0} {P Q : A → Type 0} (r : Result A E) → ((a : A) → P a → Q a) → IfOk r P → IfOk r Q
ok_with (Ok a) more has = more a has
ok_with (Err e) more has = tt

-- as much room as before a call is there after the next one too
pub keeps_trans : (e : WrittenExpression) (old mid new : Occurrences) → KeepsRoom e old mid → KeepsRoom e mid new → KeepsRoom e old new
keeps_trans e old mid new first next =
    (next.0 ∙ first.0, λ text es at room. next.1 text es (rw first.0 at) (first.1 text es at room))

pub kept_on : (e e' e'' : WrittenExpression) (old skipped first new : Occurrences) → e' ≡ e → e'' ≡ e' → KeepsRoom e old skipped → KeepsRoom e' skipped first →
    KeepsRoom e'' first new → KeepsRoom e old new
kept_on e e' e'' old skipped first new same same' one two three =
    keeps_trans e old first new (keeps_trans e old skipped first one (rw same at two)) (rw (same', same) at three)

pub none_absurd : {A : Type 0} {x : WrittenExpression} → None ≡ Some x → A
none_absurd is = cc

-- whether there is a match, as the matcher's call answers it
pub finds_as : (expressions : List WrittenExpression) (k : ℕ) (e : WrittenExpression) (v w : List ℕ) (b : Bool) → k < length expressions → e ≡ get_or expressions k e → v ≡ w → b ≡ is_some (leftmost_longest (expression_tree e) v 0) → b ≡ finds_in expressions k w
finds_as expressions k e v w b inside is same found_as =
    found_as ∙ ap (λ (x : List ℕ). is_some (leftmost_longest (expression_tree e) x 0)) same ∙ ap (λ (o : Option WrittenExpression). option_map_or (λ e. is_some (leftmost_longest (expression_tree e) w 0)) o false) (sym (slice_get_read expressions (length expressions) k e refl inside is))
