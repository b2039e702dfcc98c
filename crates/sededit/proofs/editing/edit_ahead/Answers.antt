use Rattle.std.proofs.Common.{refl, rules}
use Rattle.std.proofs.KnownBytes.{prepend_known-nil}
use Rattle.sededit.proofs.EditLemmas.{Edits-run}
use Rattle.sededit.proofs.editing.edit_ahead.Goals as goal

pub returns-clause-edits : goal.returns-clause-edits
returns-clause-edits g c x known files shown =
    Edits-run c.args.limits c.args.script files c.in_ok-engine.engine _ x _ _ _ _ _ _ _ _ c.run-end.new.lines.ahead _ c.in_ok-engine.ensures (search rules) (rw c.over-lines.ensures (prepend_known-nil _)) (search rules) refl c.ahead_len-ahead.ensures.value
    (c.run-end.ensures.ends (search rules) (search rules) _ (search rules) files shown)
