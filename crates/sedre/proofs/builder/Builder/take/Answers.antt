use Rattle.std.proofs.Common.{arith, refl, subst, sym}
use Rattle.sedre.specs.declared.syntax.Token.{Token}
use Rattle.sedre.specs.Tree.{byte_of, text_begin, text_end}
use Rattle.sedre.specs.Stacks.{CanTake, Represents, step}
use Rattle.sedre.proofs.Stacked.{on_ok_map}
use Rattle.sedre.proofs.Represented.{represents_pieces, represents_alternatives, represents_below, represents_some}
use Rattle.sedre.proofs.builder.Builder.take.Goals as goal

pub close-requires-clause-pieces : goal.close-requires-clause-pieces
close-requires-clause-pieces c = let h = represents_pieces c.requires.some.0 c.args.self.now c.requires.some.1 c.requires.some.2 in omega (arith, h)

pub close-requires-clause-alternatives : goal.close-requires-clause-alternatives
close-requires-clause-alternatives c = represents_alternatives c.requires.some.0 c.args.self.now c.requires.some.1 c.requires.some.2

pub close-requires-clause-opened : goal.close-requires-clause-opened
close-requires-clause-opened c =
    let h = represents_below c.requires.some.0 c.args.self.now c.requires.some.1 (subst (λ (i : Token). CanTake i c.requires.some.1) c.in-Close.is c.requires.some.3) c.requires.some.2 in omega (arith, h)

pub bar-requires : goal.bar-requires
bar-requires c = let h = represents_pieces c.requires.some.0 c.args.self.now c.requires.some.1 c.requires.some.2 in omega (arith, h)

pub repeat-requires-clause-some : goal.repeat-requires-clause-some
repeat-requires-clause-some c =
    let can = subst (λ (i : Token). CanTake i c.requires.some.1) c.in-Repeat.is c.requires.some.3 in
    let h = represents_some c.requires.some.0 c.args.self.now c.requires.some.1 can.0 c.requires.some.2 in omega (arith, h)

pub repeat-requires-clause-order : goal.repeat-requires-clause-order
repeat-requires-clause-order c = (subst (λ (i : Token). CanTake i c.requires.some.1) c.in-Repeat.is c.requires.some.3).1

pub returns-in-Byte-clause-state : goal.returns-in-Byte-clause-state
returns-in-Byte-clause-state c = on_ok_map c.leaf.result _ _ (λ f limit s r can. subst (λ (i : Token). Represents limit c.leaf.new.self (step i s)) (sym c.in-Byte.is)
    (f limit s (byte_of c.in-Byte.set) (λ base. refl, refl, refl, refl, λ k. tt) r)) c.leaf.ensures.state

pub returns-in-AtBegin-clause-state : goal.returns-in-AtBegin-clause-state
returns-in-AtBegin-clause-state c = on_ok_map c.leaf-in-AtBegin.result _ _ (λ f limit s r can. subst (λ (i : Token). Represents limit c.leaf-in-AtBegin.new.self (step i s)) (sym c.in-AtBegin.is)
    (f limit s text_begin (λ base. refl, refl, refl, refl, λ k. tt) r)) c.leaf-in-AtBegin.ensures.state

pub returns-in-AtEnd-clause-state : goal.returns-in-AtEnd-clause-state
returns-in-AtEnd-clause-state c = on_ok_map c.leaf-in-AtEnd.result _ _ (λ f limit s r can. subst (λ (i : Token). Represents limit c.leaf-in-AtEnd.new.self (step i s)) (sym c.in-AtEnd.is)
    (f limit s text_end (λ base. refl, refl, refl, refl, λ k. tt) r)) c.leaf-in-AtEnd.ensures.state
