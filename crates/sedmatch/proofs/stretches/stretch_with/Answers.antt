use Rattle.sedmatch.proofs.Words.{arith}
use Rattle.sedmatch.proofs.stretches.stretch_with.Goals as goal

pub returns-in-Byte-None-None-default : goal.returns-in-Byte-None-None-default
returns-in-Byte-None-None-default c =
    let arm = c.in-Byte-None-None-default in
    rw (c.of.ensures, arm.is-0, arm.is-2) (λ nodes w i j. grind (arith, c.match-this-2.branch))

pub returns-in-Run-None-None-None : goal.returns-in-Run-None-None-None
returns-in-Run-None-None-None c =
    let arm = c.in-Run-None-None-None in
    rw (arm.is-0, arm.is-2, arm.is-3) (λ nodes w i j. grind (arith, c.match-this-4.branch))
