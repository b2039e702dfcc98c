use Rattle.std.proofs.Common.{[], ◌∷◌, ◌∙◌, refl, arith, rules}
use Rattle.sedscript.proofs.ByteTables.{no_marks}
use Rattle.sedscript.proofs.Chars.{repeated_more, repeated_found, repeated_same}
use Rattle.sedscript.proofs.transliteration.repeated.Goals as goal
use Rattle.sedscript.proofs.transliteration.repeated.Goals.{in-Some+else-note, in_default}

pub bytes-init : goal.bytes-init
bytes-init c = (omega arith, λ h. cc, [], no_marks _ refl, search rules)

pub returns-then-note : goal.returns-then-note
returns-then-note c =
    let i = c.bytes.invariant in
    repeated_found c.args.delimiter c.args.from c.bytes.k c.bytes.escaped c.args.bytes.now i.2 c.char_of.result c.in-Some.found c.note.result _ c.bytes-test.true c.char_of.ensures c.in-Some.is
    (c.note.ensures i.2 i.3).0 c.if-note.true i.4

pub bytes-preserved : goal.bytes-preserved
bytes-preserved c =
    let i = c.bytes.invariant in
    elim c.match-char_of.branch [
      | in-Some+else-note w ↦ (
        omega arith,
        λ h. omega arith,
        w.in-Some.found.byte ∷ i.2,
        w.seen-is ∙ (w.note.ensures i.2 i.3).1,
        repeated_more c.args.delimiter c.args.from c.bytes.k c.bytes.escaped c.escapes-escaped.result c.args.bytes.now i.2 c.char_of.result w.in-Some.found w.note.result _ c.bytes-test.true c.char_of.ensures
            c.escapes-escaped.ensures w.in-Some.is (w.note.ensures i.2 i.3).0 w.if-note.false i.4,
      )
      | in_default w ↦ (
        omega arith,
        λ h. omega arith,
        i.2,
        w.seen-is ∙ i.3,
        repeated_same c.args.delimiter c.args.from c.bytes.k c.bytes.escaped c.escapes-escaped.result c.args.bytes.now i.2 c.char_of.result _ c.bytes-test.true c.char_of.ensures c.escapes-escaped.ensures w.in_default.is i.4,
      )
    ]
