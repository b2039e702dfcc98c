use Rattle.std.proofs.Common.{[], ◌∷◌, ◌++◌, ◌∙◌, ap, arith, length, length-take}
use Rattle.sedre.specs.Tree.{WrittenExpression}
use Rattle.sedacts.proofs.Fitting.{first_more, fits_more, fits_none, seek_all}
use Rattle.sedacts.proofs.matchers.matchers_of.Goals as goal

pub loop-k-init : goal.loop-k-init
loop-k-init c = record {
  are = c.in_ok-matchers.ensures.items;
  fit = fits_none c.args.most_nodes c.in_ok-matchers.matchers.items c.in_ok-matchers.ensures.items;
  room = let is = c.expressions-count.ensures in let most = c.in_ok-matchers.ensures.capacity in omega (arith, is, most);
}

pub push_reserved-requires : goal.push_reserved-requires
push_reserved-requires c =
    let l = c.loop-k in
    let size = ap length l.invariant.are in
    let is = c.expressions-count.ensures in
    let room = l.invariant.room in
    omega (arith, size, is, room, length-take l.k c.args.script.now.expressions)

pub loop-k-preserved : goal.loop-k-preserved
loop-k-preserved c =
    let l = c.loop-k in
    let e = c.expr.result.now in
    let are = c.push_reserved.ensures.items ∙ ap (λ (x : WrittenExpression). l.matchers.items ++ x ∷ []) c.in-Ok.ensures in
    let few = c.expr.ensures.nodes in
    let within = c.requires.within in
    record {
      are = first_more c.args.script.now.expressions l.matchers.items c.push_reserved.new.self.items l.k e c.expr.ensures.is l.invariant.are are;
      fit = fits_more c.args.most_nodes l.matchers.items c.push_reserved.new.self.items e are l.invariant.fit (omega arith);
      room = let kept = c.push_reserved.ensures.capacity in let room = l.invariant.room in omega (arith, kept, room);
    }

pub returns : goal.returns
returns c =
    let l = c.loop-k in
    let count = c.expressions-count.ensures in
    seek_all c.args.script.now.expressions c.args.most_nodes l.matchers.items l.k l.invariant.are (omega arith) (omega arith) l.invariant.fit
