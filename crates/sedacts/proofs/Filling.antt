-- Which spaces a script needs.
use Rattle.std.proofs.Common.{Option, Some, None, ⊎_elim, true≢false, ◌≡◌, ℕ, ◌+◌, ◌<◌, List, length, false, sym, ap, subst, refl, ◌∙◌}
use Rattle.std.specs.Prelude.{slice_get}
use Rattle.std.proofs.lemmas.Bool.{cases_eq}
use Rattle.std.proofs.lemmas.Option.{slice_get_within}
use Rattle.sedscript.specs.declared.types.Command.{Command}
use Rattle.sedacts.specs.Keeping.{CommandHolds, keeps_in_hold}
use Rattle.sedacts.proofs.Fitting.{lower}

-- none of the first commands puts something into the hold space, and one more doesn't
pub none_holds : (cs : List Command) (k : ℕ) (x : Command) → slice_get cs k ≡ Some x → keeps_in_hold x.action ≡ false →
    ((i : ℕ) → i < k → CommandHolds (slice_get cs i) → ⊥) → (i : ℕ) → i < k + 1 → CommandHolds (slice_get cs i) → ⊥
none_holds cs k x at free before i low h =
    ⊎_elim
    (λ (same : i ≡ k). true≢false (sym (subst CommandHolds (ap (λ (j : ℕ). slice_get cs j) same ∙ at) h) ∙ free))
    (λ (other : i ≡ k → ⊥). before i (lower i k low other) h)
    (cases_eq i k)

-- a command that does is there
pub holds_within : (cs : List Command) (i : ℕ) → CommandHolds (slice_get cs i) → i < length cs
holds_within cs i h = there (slice_get cs i) refl h
  where
    there : (o : Option Command) → slice_get cs i ≡ o → CommandHolds o → i < length cs
    there None is h = absurd h
    there (Some c) is h = slice_get_within cs i c is
