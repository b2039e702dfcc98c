use Rattle.std.proofs.Common.{refl, ◌≡◌, ℕ, ◌+◌, ◌-◌, ◌<◌, List, length, drop, set, ap, ◌∙◌, arith, get_or, length-set}
use Rattle.sedscript.specs.Strings.{table_of}
use Rattle.sedscript.proofs.ByteTables.{table_start, table_step, table_length}
use Rattle.sedscript.proofs.transliteration.table_from.Goals as goal

pub pairs-init : goal.pairs-init
pairs-init c =
    let e = c.min-k.ensures in
    let start = table_start c.args.string1.now c.args.string2.now c.min-k.result c.min-k.ensures in (
      omega (arith, e),
      omega (arith, e),
      ap (λ (l : List ℕ). length l) (c.in_ok-table.ensures ∙ start) ∙ table_length (drop c.min-k.result c.args.string1.now) (drop c.min-k.result c.args.string2.now),
      c.in_ok-table.ensures ∙ start,
    )

pub pairs-preserved : goal.pairs-preserved
pairs-preserved c =
    let k = c.pairs.k - 1 in
    let positive = c.pairs-test.true in
    let these = c.pairs.invariant.0 in
    let those = c.pairs.invariant.1 in
    let back : c.pairs.k ≡ k + 1 = omega arith in
    let whole = c.pairs.invariant.3 ∙ ap (λ (n : ℕ). table_of (drop n c.args.string1.now) (drop n c.args.string2.now)) back in
    let fits : c.from.result < 256 = let same = c.from.ensures in let small = c.type_inv.string1 k in omega (arith, same, small) in (
      omega arith,
      omega arith,
      length-set c.pairs.table.items c.from.result (get_or c.args.string2.now k 0) ∙ c.pairs.invariant.2,
      ap (λ (l : List ℕ). set l c.from.result (get_or c.args.string2.now k 0)) whole
          ∙ table_step c.args.string1.now c.args.string2.now k 0 0 c.from.result (get_or c.args.string2.now k 0) (omega arith) (omega arith) c.from.ensures refl fits,
    )
