use Rattle.std.proofs.Common.{◌≡◌, sym}
use Rattle.sedmatch.specs.SearchRoom.{SearchRoom}
use Rattle.sedacts.specs.Fitting.{AllFit}
use Rattle.sedacts.proofs.Fitting.{fits_all, ok_with, sought_fit}
use Rattle.sedacts.proofs.matchers.room_to_search.Goals as goal

pub most_nodes-most-requires-clause-fit : goal.most_nodes-most-requires-clause-fit
most_nodes-most-requires-clause-fit c =
    rw (c.nodes.ensures.value, c.deref.ensures.value)
    (sought_fit c.args.script.now.expressions c.args.limits.now.nodes c.args.matchers.now.items c.requires.seek)

pub returns-clause-nodes : goal.returns-clause-nodes
returns-clause-nodes c =
    let most = c.most_nodes-most.result in
    let fit : AllFit most c.args.matchers.now.items = rw (sym c.deref.ensures.value) (fits_all most c.deref.result.now c.most_nodes-most.ensures.most) in
    ok_with c.new.result (λ (s : SearchRoom) (has : (s.text ≡ c.if-expressions-eq0.longest) × (s.nodes ≡ most)). rw has.1 fit) c.new.ensures
