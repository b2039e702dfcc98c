use Rattle.std.proofs.Common.{◌≡◌, ℕ, ◌+◌, List, [], None, Option, length, refl, ap, arith}
use Rattle.std.proofs.lemmas.Grind.{common_steps}
use Rattle.std.proofs.lemmas.List.{length-map}
use Rattle.std.specs.Prelude.{replicate}
use Rattle.sedscript.specs.Program.{Program}
use Rattle.sedacts.specs.State.{LimitsView}
use Rattle.sedacts.specs.Meters.{Meter}
use Rattle.sedacts.specs.Move.{start}
use Rattle.sedacts.specs.Run.{RunState}
use Rattle.sedengine.proofs.engine.Engine.open.Goals as goal

-- the machine that was opened
abbrev fresh : Program → LimitsView → RunState
fresh p l = record { script = p; limits = l; state = start p.commands []; sent = []; ended = None }

module _ (e : RunState) (m : Meter) (p : Program) (l : LimitsView) (most : Option ℕ) (n : ℕ) (is : e ≡ fresh p l) (counts : m ≡ record { most = most; sent = replicate (n + 1) 0 }) (many : n ≡ length p.wfiles) where
  metered : record e { sent = m.sent; ended = None } ≡ record (fresh p l) { sent = replicate (length p.wfiles + 1) 0 }
  metered = rw (is, counts, many) refl

  counted : most ≡ l.output → (m.most ≡ e.limits.output) × (length m.sent ≡ length e.script.wfiles + 1)
  counted limit = rw (is, counts, ← many) (limit, grind (arith, common_steps))

pub invariant_of-result : goal.invariant_of-result
invariant_of-result c =
    let many = rw length-map at (ap (λ (xs : List (List ℕ)). length xs) c.wfiles.ensures) in
    counted c.in-Ok-open.machine c.in-Ok.meter c.args.script c.args.limits c.output.result (length c.wfiles.result.now) c.in-Ok-open.ensures c.in-Ok.ensures many c.output.ensures

pub returns-in-Ok-open : goal.returns-in-Ok-open
returns-in-Ok-open c =
    let many = rw length-map at (ap (λ (xs : List (List ℕ)). length xs) c.wfiles.ensures) in
    metered c.in-Ok-open.machine c.in-Ok.meter c.args.script c.args.limits c.output.result (length c.wfiles.result.now) c.in-Ok-open.ensures c.in-Ok.ensures many
