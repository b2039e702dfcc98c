use Rattle.std.proofs.Common.{refl, rules}
use Rattle.sedfiles.proofs.CommandLineLemmas.{AsksParts-same, given_to-matches}
use Rattle.sedfiles.proofs.command_line.line_of.Goals as goal

pub returns : goal.returns
returns c =
    let m = c.args.matches.now in
    record {
      quiet = search rules;
      extended = search rules;
      asks = AsksParts-same _ _ _ _ _ _ _ _ (given_to-matches m _ _ _ _ c.get_strs.ensures refl c.unwrap_or.ensures) (given_to-matches m _ _ _ _ c.get_strs-2.ensures refl c.unwrap_or-3.ensures)
          (given_to-matches m _ _ _ _ c.get_strs-3.ensures refl c.unwrap_or-operands.ensures) c.in_ok-asked.ensures;
    }
