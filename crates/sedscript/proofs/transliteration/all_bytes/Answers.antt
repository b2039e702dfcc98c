use Rattle.std.proofs.Common.{◌≡◌, ℕ, ◌+◌, List, ◌∷◌, ◌++◌, [], sym, ap, ◌∙◌, arith}
use Rattle.std.specs.List.{range_with_len}
use Rattle.sedscript.proofs.ByteTables.{range_more}
use Rattle.sedscript.proofs.transliteration.all_bytes.Goals as goal

pub loop-b-preserved : goal.loop-b-preserved
loop-b-preserved c =
    c.in_ok-push.ensures.items ∙ (ap (λ (l : List ℕ). l ++ c.loop-b.b ∷ []) c.loop-b.invariant ∙ (ap (λ (n : ℕ). range_with_len 0 c.loop-b.b ++ n ∷ []) (let zero_add : c.loop-b.b ≡ 0 + c.loop-b.b = omega arith in zero_add) ∙ sym (range_more 0 c.loop-b.b)))
