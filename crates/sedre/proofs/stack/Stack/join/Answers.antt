use Rattle.std.proofs.Common.{Bool, ◌++◌, ◌∷◌, [], subst, sym}
use Rattle.sedre.specs.Stacks.{StoresTrees, pair}
use Rattle.sedre.proofs.Written.{popped}
use Rattle.sedre.proofs.Stacked.{on_ok_map, stored_alt, stored_seq}
use Rattle.sedre.proofs.stack.Stack.join.Goals as goal

pub returns-then-alternatives-clause-trees : goal.returns-then-alternatives-clause-trees
returns-then-alternatives-clause-trees c = on_ok_map c.put.result _ _
    (λ p limit ts a b s. let P : Bool → Type 0 = λ x. StoresTrees limit c.put.new.self (ts ++ pair x a b ∷ []) in
    subst P (sym c.if-alternatives.true) (stored_alt limit c.args.self.now _ ts a b _ _ c.unwrap-left.result c.unwrap-right.result c.root_at-first.result c.root_at-second.result c.deeper.result c.max-depth.result s
    (popped _ _ _ _ c.pop.ensures.items c.unwrap-right.ensures) (popped _ _ _ _ c.pop-2.ensures.items c.unwrap-left.ensures) c.root_at-first.ensures c.root_at-second.ensures c.max-depth.ensures c.deeper.ensures p)) c.put.ensures.put

pub returns-else-alternatives-clause-trees : goal.returns-else-alternatives-clause-trees
returns-else-alternatives-clause-trees c = on_ok_map c.put-else-alternatives.result _ _
    (λ p limit ts a b s. let P : Bool → Type 0 = λ x. StoresTrees limit c.put-else-alternatives.new.self (ts ++ pair x a b ∷ []) in
    subst P (sym c.if-alternatives.false) (stored_seq limit c.args.self.now _ ts a b _ _ c.unwrap-left.result c.unwrap-right.result c.root_at-first.result c.root_at-second.result c.max-depth-else-alternatives.result s
    (popped _ _ _ _ c.pop.ensures.items c.unwrap-right.ensures) (popped _ _ _ _ c.pop-2.ensures.items c.unwrap-left.ensures) c.root_at-first.ensures c.root_at-second.ensures c.max-depth-else-alternatives.ensures p)) c.put-else-alternatives.ensures.put
