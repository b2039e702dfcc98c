use Rattle.std.proofs.Common.{ℕ, Vec, Global, ◌∙◌}
use Rattle.std.proofs.lemmas.Result.{IfOk-weaker}
use Rattle.sedscript.proofs.Chars.{table_is}
use Rattle.sedscript.proofs.transliteration.table_between.Goals as goal

pub returns : goal.returns
returns c =
    IfOk-weaker c.table_from.result _ _ (λ (v : Vec ℕ Global) h. table_is c.args.text.now c.args.strings v.items c.deref.result.now c.deref-2.result.now c.bytes_between.result.now c.second_of.result.now c.bytes_between.ensures c.second_of.ensures
    (c.deref.ensures.value ∙ c.in_ok-string1.ensures) (c.deref-2.ensures.value ∙ c.in_ok-string2.ensures) h) c.table_from.ensures
