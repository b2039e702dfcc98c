-- The expression that an address or a substitution tries.
use Rattle.std.proofs.Common.{◌≡◌, ℕ, ◌<◌, ◌≤◌, Bool, List, length, get_or, Option, Some, None, Result, refl, sym, subst, ap, ◌∙◌, arith}
use Rattle.std.specs.Prelude.{option_and_then, slice_get, slice_set}
use Rattle.std.specs.Option.{option_or}
use Rattle.std.proofs.lemmas.Option.{same_Some, slice_get_read}
use Rattle.sedre.specs.Tree.{WrittenExpression}
use Rattle.sedscript.specs.Ranges.{AddressWithin, IsOneOf}
use Rattle.sedscript.specs.declared.types.Address.TheVariants.{Match}
use Rattle.sedscript.specs.declared.substitution.Substitution.{Substitution}
use Rattle.sedspace.specs.declared.errors.Full.{Full}
use Rattle.sedengine.specs.Judging.{current_in}
use Rattle.sedengine.specs.Inside.{run_state_of, IsConsistent}
use Rattle.std.proofs.lemmas.List.{set-get_or}
use Rattle.sedacts.specs.SubstituteParts.{ReplacesThese}
use Rattle.sedacts.specs.Run.{RunState}
use Rattle.sedacts.specs.State.{finds_in, search_for, search_in}
use Rattle.sedacts.specs.Select.{AddressAnswer, answer, stands_for}
use Rattle.sedacts.specs.Substitute.{to_replace, each_occurrence}
use Rattle.sedengine.specs.declared.machine.Machine.TheInside.{Inside}

pub standing : (named used : Option ℕ) → option_or named used ≡ stands_for named used
standing None used = refl
standing (Some e) used = refl

-- an expression that is named, or the one last used, is one of the script's
pub within_by : (n : ℕ) (named used : Option ℕ) (k : ℕ) → AddressWithin n (Some (Match named)) → IsOneOf n used → Some k ≡ option_or named used → k < n
within_by n (Some j) used k h one is = let same : k ≡ j = same_Some k j is in rw same h
within_by n None (Some j) k h one is = let same : k ≡ j = same_Some k j is in rw same one
within_by n None None k h one is = cc

-- an address tries an expression of the script
pub tried_within : (a : Inside) (r : RunState) (named : Option ℕ) (k : ℕ) → run_state_of a ≡ r → IsConsistent a → AddressWithin (length r.script.expressions) (Some (Match named)) → Some k ≡ option_or named a.used →
    k < length a.script.expressions
tried_within a r named k seen i h is =
    let P : RunState → Type 0 = λ r. AddressWithin (length r.script.expressions) (Some (Match named)) in
    within_by (length a.script.expressions) named a.used k (subst P (sym seen) h) i.used is

-- what it answers
pub answered : (a : Inside) (r : RunState) (named : Option ℕ) (k : ℕ) (ms : List WrittenExpression) (b last : Bool) → run_state_of a ≡ r → ms ≡ a.script.expressions → Some k ≡ option_or named a.used → b ≡ finds_in ms k a.pattern.bytes →
    answer (current_in r last) (Match named) ≡ Some (record { yes = b; used = Some k })
answered a r named k ms b last seen same is found =
    let f : ℕ → Option AddressAnswer = λ j. Some (record { yes = finds_in a.script.expressions j a.pattern.bytes; used = Some j }) in
    let stands : stands_for named a.used ≡ Some k = sym (is ∙ standing named a.used) in
    let yes : finds_in a.script.expressions k a.pattern.bytes ≡ b = sym (found ∙ ap (λ (es : List WrittenExpression). finds_in es k a.pattern.bytes) same) in
    let put : Bool → Option AddressAnswer = λ x. Some (record { yes = x; used = Some k }) in
    rw (← seen) (ap (λ (o : Option ℕ). option_and_then f o) stands ∙ ap put yes)

-- what is replaced with the expression of a number
pub replaces_by : (ms : List WrittenExpression) (e : ℕ) (m : WrittenExpression) (w : List ℕ) (t : Substitution) (limit : ℕ) (made : List ℕ) (r : Result Bool Full) → e < length ms → m ≡ get_or ms e m →
    ReplacesThese w t.replacement (to_replace t.number t.global (each_occurrence (search_for m w) (length w))) limit made r →
    ReplacesThese w t.replacement (to_replace t.number t.global (each_occurrence (search_in ms e w) (length w))) limit made r
replaces_by ms e m w t limit made r inside is h =
    let P : Option WrittenExpression → Type 0 = λ o. ReplacesThese w t.replacement (to_replace t.number t.global (each_occurrence (λ from. option_and_then (λ e. search_for e w from) o) (length w))) limit made r in
    subst P (sym (slice_get_read ms (length ms) e m refl inside is)) h

-- the matcher of a number is the one that is there
pub matcher_at : (ms : List WrittenExpression) (e : ℕ) (m : WrittenExpression) → e < length ms → m ≡ get_or ms e m → slice_get ms e ≡ Some m
matcher_at ms e m inside is = slice_get_read ms (length ms) e m refl inside is

-- a matcher that is as it was leaves all as they were
pub matchers_kept : (ms : List WrittenExpression) (e : ℕ) (m m' : WrittenExpression) → m ≡ get_or ms e m → m' ≡ m → slice_set ms e m' ≡ ms
matchers_kept ms e m m' is same =
    rw (same ∙ is) (set-get_or ms e m)

-- there is room to search the pattern space
pub tried_short : (a : Inside) (k : ℕ) → IsConsistent a → k < length a.script.expressions → length a.pattern.bytes ≤ a.scratch.text
tried_short a k i inside = let some : 0 < length a.script.expressions = omega (arith, inside) in rw (i.scratch_text some) i.pattern
