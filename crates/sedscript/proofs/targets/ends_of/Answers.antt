use Rattle.std.proofs.Common.{◌≡◌, ◌+◌, ◌-◌, ◌∙◌, ℕ, List, Option, take, drop, reverse, ap, arith}
use Rattle.sedscript.specs.declared.items.Item.{Item}
use Rattle.sedscript.specs.Script.{commands_in}
use Rattle.sedscript.specs.Tables.{unopened, ends_in}
use Rattle.sedscript.proofs.Labels.{counted_back, counted_some}
use Rattle.sedscript.proofs.Blocks.{ends_step, unopened_step}
use Rattle.sedscript.proofs.targets.ends_of.Goals as goal

pub items-preserved : goal.items-preserved
items-preserved c =
    let items : List Item = c.args.items.now in
    let k : ℕ = c.items.k - 1 in
    let back : c.items.k ≡ k + 1 = omega arith in
    let n : ℕ = c.items.n in
    let i : Item = c.get-item.result in
    let counted : n ≡ commands_in (take (k + 1) items) = c.items.invariant.counted ∙ ap (λ (z : ℕ). commands_in (take z items)) back in
    let us : List ℕ = unopened n (drop (k + 1) items) in
    let stack : c.items.unopened.items ≡ reverse us = c.items.invariant.stack ∙ ap (λ (z : ℕ). reverse (unopened n (drop z items))) back in
    let es : List (Option ℕ) = ends_in n (drop (k + 1) items) in
    let ends : c.items.ends.items ≡ reverse es = c.items.invariant.ends ∙ ap (λ (z : ℕ). reverse (ends_in n (drop z items))) back in
    record {
      within = omega arith;
      counted = counted_back items k n c.number_before-n.result i c.get-item.ensures.is counted c.number_before-n.ensures;
      ends = c.in_ok-pass_back.ensures.ends us es stack ends ∙ ap reverse (ends_step items k n c.number_before-n.result i c.get-item.ensures.is c.number_before-n.ensures);
      stack = c.in_ok-pass_back.ensures.unopened us stack ∙ ap reverse (unopened_step items k n c.number_before-n.result i c.get-item.ensures.is c.number_before-n.ensures);
    }

pub number_before-n-requires : goal.number_before-n-requires
number_before-n-requires c =
    let k : ℕ = c.items.k - 1 in
    let back : c.items.k ≡ k + 1 = omega arith in
    counted_some c.args.items.now k c.items.n c.get-item.result c.get-item.ensures.is (c.items.invariant.counted ∙ ap (λ (z : ℕ). commands_in (take z c.args.items.now)) back)
