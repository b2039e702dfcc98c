use Rattle.std.proofs.Common.{rules, ◌≡◌, ◌<◌, refl, length, arith}
use Rattle.sedfiles.proofs.joined.Joined.read_file.Goals as goal
use Rattle.sedfiles.proofs.JoinLemmas.{file_read, file_closed}

pub returns-then-count-gt0-clause-bytes : goal.returns-then-count-gt0-clause-bytes
returns-then-count-gt0-clause-bytes g c =
    let r = c.in_ok-count.ensures in
    (file_read g.I.Inputs.current _ _ _ c.read.new.buf c.in_ok-count.count c.self.view_is c.if-not-self.false c.if-count-gt0.true r.bound.0 r.bytes.0, λ none some. absurd (omega arith))

pub returns-clause-bytes : goal.returns-clause-bytes
returns-clause-bytes g c =
    let r = c.in_ok-count.ensures in
    let none : c.in_ok-count.count ≡ 0 = omega arith in
    let some : 0 < length c.read.new.buf = omega arith in
    (file_closed g.I.Inputs.current _ _ _ c.read.new.buf _ c.self.view_is c.if-not-self.false c.if-not-self-2.false some none r.bytes.0 (r.bytes.1 none some), λ _ _. refl)

pub returns-then-not-self-2-clause-bytes : goal.returns-then-not-self-2-clause-bytes
returns-then-not-self-2-clause-bytes g c = search rules
