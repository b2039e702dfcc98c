use Rattle.sedmatch.proofs.Words.{◌-◌, arith, rules}
use Rattle.sedmatch.proofs.StretchLemmas.{one_link_more}
use Rattle.sedmatch.proofs.stretches.stretch_of.Goals as goal

pub loop-x-preserved : goal.loop-x-preserved
loop-x-preserved c =
    search (rules, one_link_more c.args.chain.now (c.loop-x.x - 1) c.loop-x.x c.index-chain-x.result c.loop-x.stretch c.in_ok-stretch.stretch (omega arith) (omega arith) c.index-chain-x.is c.in_ok-stretch.ensures c.loop-x.invariant.stretch)
