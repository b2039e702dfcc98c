use Rattle.std.proofs.Common.{◌∙◌, [], ◌∷◌, sym, subst}
use Rattle.sedscript.specs.Pieces.{pieces_in}
use Rattle.sedscript.specs.declared.substitution.ReplacementPart.{ReplacementPart}
use Rattle.sedacts.specs.Substitute.{put_for}
use Rattle.sedacts.specs.SubstituteParts.{Appends, with_groups}
use Rattle.sedacts.proofs.Due.{appended}
use Rattle.sedacts.proofs.PieceLemmas.{put_bytes}
use Rattle.sedacts.proofs.substitute.put_part.Goals as goal

pub returns-in-Literal : goal.returns-in-Literal
returns-in-Literal c =
    let old = c.args.build.now in
    let new = c.append.new.self in
    let m = with_groups c.args.span c.args.groups.now in
    let put = c.deref.ensures.value ∙ put_bytes c.args.text.now m c.in-Literal.bytes.items in
    let a = c.append.ensures in
    subst (λ (p : ReplacementPart). Appends old new (put_for c.args.text.now m (pieces_in (p ∷ []))) c.append.result)
    (sym c.in-Literal.is) (appended old new _ c.deref.result.now c.append.result put a.ok a.full a.err)
