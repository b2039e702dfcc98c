use Rattle.std.proofs.Common.{◌≡◌, ◌++◌, ◌∷◌, [], refl, sym, subst}
use Rattle.sedscript.specs.declared.substitution.ReplacementPart.TheVariants.{Whole, Group}
use Rattle.sedscript.specs.Types.{Piece, whole, group}
use Rattle.sedscript.specs.Answers.{pieces_with}
use Rattle.sedscript.proofs.Pieces.{part_added}
use Rattle.sedscript.proofs.replacement.add_piece.Goals as goal

pub returns-in_ok-push-in-Whole : goal.returns-in_ok-push-in-Whole
returns-in_ok-push-in-Whole c =
    subst (λ (p : Piece). pieces_with c.push-in-Whole.new.self.items c.new.result.items ≡ pieces_with c.args.parts.now.items c.args.run.items ++ p ∷ []) (sym c.in-Whole.is)
    (part_added c.args.parts.now.items c.end_run.new.parts.items c.push-in-Whole.new.self.items Whole c.args.run.items c.new.result.items whole
    c.in_ok-end_run-in-Whole.ensures c.in_ok-push-in-Whole.ensures.items refl c.new.ensures.items)

pub returns-in_ok-push-in-Group : goal.returns-in_ok-push-in-Group
returns-in_ok-push-in-Group c =
    subst (λ (p : Piece). pieces_with c.push-in-Group.new.self.items c.new-in-Group.result.items ≡ pieces_with c.args.parts.now.items c.args.run.items ++ p ∷ []) (sym c.in-Group.is)
    (part_added c.args.parts.now.items c.end_run-in-Group.new.parts.items c.push-in-Group.new.self.items (Group c.in-Group.k) c.args.run.items c.new-in-Group.result.items (group c.in-Group.k)
    c.in_ok-end_run-in-Group.ensures c.in_ok-push-in-Group.ensures.items refl c.new-in-Group.ensures.items)
