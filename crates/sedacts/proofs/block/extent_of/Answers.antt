use Rattle.std.proofs.Common.{length, take, subst, sym, ap, ◌∙◌, inl, inr, refl, arith}
use Rattle.std.proofs.Math.Seq.{take-length}
use Rattle.sedspace.specs.Lines.{split_lines}
use Rattle.sedspace.specs.Stream.{AreWholeLines}
use Rattle.sedacts.proofs.BlockLemmas.{whole_count}
use Rattle.sedacts.proofs.block.extent_of.Goals as goal

pub returns-then-lines-most : goal.returns-then-lines-most
returns-then-lines-most c =
    let bytes = c.args.bytes.now in
    record {
      within = omega arith;
      whole = subst AreWholeLines (sym (take-length bytes)) c.requires;
      count = c.count_lines-lines.ensures ∙ whole_count bytes c.requires ∙ ap (λ w. length (split_lines w)) (sym (take-length bytes));
      few = c.if-lines-most.true;
      many = inr refl;
    }

pub returns : goal.returns
returns c = record {
  within = c.first_lines.ensures.within;
  whole = c.first_lines.ensures.whole;
  count = sym c.first_lines.ensures.count ∙ whole_count (take c.first_lines.result c.args.bytes.now) c.first_lines.ensures.whole;
  few = omega arith;
  many = inl refl;
}
