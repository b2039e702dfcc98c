-- Faults one after the other, by their reasons.
use Rattle.std.proofs.Common.{◌≡◌, Bool, true, false, ℕ, Option, Some, None, refl, ap, ◌∙◌}
use Rattle.std.specs.Option.{option_or}
use Rattle.sedscript.specs.declared.types.ScriptFault.{ScriptFault}
use Rattle.sedscript.specs.declared.types.Reason.{Reason}
use Rattle.sedscript.specs.Bytes.{fault_if}

-- of two, neither
pub or_none : {A : Type 0} (x y : Option A) → option_or x y ≡ None → (x ≡ None) × (y ≡ None)
or_none None y e = (refl, e)
or_none (Some x) y e = absurd cc

-- nothing is wrong
pub unless_wrong : (t : Bool) (r : Reason) (place : ℕ) → fault_if t r place ≡ None → t ≡ false
unless_wrong true r place e = let no : ◌≡◌ {A = Option ScriptFault} (Some (record { place = place; reason = r })) None = e in absurd cc
unless_wrong false r place e = refl

-- no fault for this reason
abbrev pub Another : Reason → Option ScriptFault → Type 0
Another r None = Unit {0}
Another r (Some f) = f.reason ≡ r → ⊥

pub another_if : (r s : Reason) (t : Bool) (place : ℕ) → (s ≡ r → ⊥) → Another r (fault_if t s place)
another_if r s true place differs = differs
another_if r s false place differs = tt

-- the fault of two that has this reason is the second
pub past_another : (r : Reason) (x y : Option ScriptFault) (f : ScriptFault) → Another r x → f.reason ≡ r → option_or x y ≡ Some f → y ≡ Some f
past_another r None y f differs is e = e
past_another r (Some g) y f differs is e =
    let same : ◌≡◌ {A = ScriptFault} g f = cc in
    absurd (differs (ap (λ (x : ScriptFault). x.reason) same ∙ is))
