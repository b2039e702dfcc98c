use Rattle.std.proofs.Common.{◌+◌, take, drop, subst}
use Rattle.std.specs.Option.{option_map}
use Rattle.std.specs.Io.KnownBytes.{prepend_known}
use Rattle.std.proofs.lemmas.List.{drop-drop}
use Rattle.sedspace.specs.Lines.{split_lines}
use Rattle.sedspace.specs.Stream.{AreWholeLines}
use Rattle.sedspace.specs.Stream.{Stream, GivesLines, lines_left}
use Rattle.sedspace.proofs.WholeLemmas.{gives_lines}
use Rattle.sedspace.proofs.lines.Lines.take_lines.Goals as goal

pub returns-clause-lines : goal.returns-clause-lines
returns-clause-lines g c =
    let remaining = g.R.ByteSource.remaining in
    let s = c.self.inside in
    let n = c.args.count in
    let held = take s.filled s.buffer.items in
    let P : Stream _ → Type 0 = λ z. AreWholeLines (take n z.ahead) → GivesLines (lines_left remaining z) (option_map split_lines (prepend_known (drop (s.front + n) held) (remaining s.from))) (take n z.ahead) in
    subst P c.self.view_is (gives_lines (drop s.front held) (drop (s.front + n) held) (remaining s.from) n (drop-drop n s.front held)) c.requires.whole
