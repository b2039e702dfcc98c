use Rattle.std.proofs.Common.{refl, sym, ◌∙◌}
use Rattle.sedscript.proofs.FlagLemmas.{number_ok, number_err, file_read, letter_ok, letter_err}
use Rattle.sedscript.proofs.flags.flag_at.Goals as goal

pub returns-in-Err-clause-is : goal.returns-in-Err-clause-is
returns-in-Err-clause-is c =
    number_err c.args.text.now c.bytes_between.result.now c.args.empty c.args.flags c.in-Err.fault c.in-Err.fault _ c.args.at c.past-to.result 0 c.requires.inside
    (sym c.is_ascii_digit.ensures.value ∙ c.if-is_ascii_digit.true) c.past-to.ensures.is c.bytes_between.ensures (sym c.with_number.ensures ∙ c.in-Err.is) refl refl

pub returns-in-Ok-clause-is : goal.returns-in-Ok-clause-is
returns-in-Ok-clause-is c =
    number_ok c.args.text.now c.bytes_between.result.now c.args.empty c.args.flags c.in-Ok.flags c.args.at c.past-to.result 0 c.requires.inside
    (sym c.is_ascii_digit.ensures.value ∙ c.if-is_ascii_digit.true) c.past-to.ensures.is c.bytes_between.ensures (sym c.with_number.ensures ∙ c.in-Ok.is)

pub returns-then-b-eq119-clause-is : goal.returns-then-b-eq119-clause-is
returns-then-b-eq119-clause-is c =
    file_read c.args.text.now c.args.empty c.args.flags c.with_file.result c.args.at _ 0 c.requires.inside refl
    (sym c.is_ascii_digit.ensures.value ∙ c.if-is_ascii_digit.false) c.requires.flag c.if-b-eq119.true c.with_file.ensures.is

pub returns-in-Err-with_flag-clause-is : goal.returns-in-Err-with_flag-clause-is
returns-in-Err-with_flag-clause-is c =
    letter_err c.args.text.now c.args.empty c.args.flags c.in-Err-with_flag.fault c.with_flag.result c.args.at _ 0 c.requires.inside refl
    (sym c.is_ascii_digit.ensures.value ∙ c.if-is_ascii_digit.false) c.requires.flag c.if-b-eq119.false c.with_flag.ensures c.in-Err-with_flag.is

pub returns-in-Ok-with_flag-clause-is : goal.returns-in-Ok-with_flag-clause-is
returns-in-Ok-with_flag-clause-is c =
    letter_ok c.args.text.now c.args.empty c.args.flags c.in-Ok-with_flag.flags c.with_flag.result c.args.at _ 0 c.requires.inside refl
    (sym c.is_ascii_digit.ensures.value ∙ c.if-is_ascii_digit.false) c.requires.flag c.if-b-eq119.false c.with_flag.ensures c.in-Ok-with_flag.is
