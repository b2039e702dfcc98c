use Rattle.sedpass.proofs.Words.{rules, ◌≡◌, [], ◌∷◌, reverse, refl, arith, least_less, nil_from_length, expression_tree, GroupTask, Apart, known_groups, subject_text, WalkEnters, root_of}
use Rattle.sedpass.proofs.DecideLemmas.{undecided, starts_due, starts_blank}
use Rattle.sedpass.proofs.KeptLemmas.{space_then}
use Rattle.sedpass.proofs.OneGroupLemmas.{walk_report}
use Rattle.sedpass.proofs.SpineLemmas.{popped, works_forget, works_none, works_then}
use Rattle.sedpass.proofs.groups.decide.Goals as goal

pub all-init : goal.all-init
all-init c =
    let first : GroupTask = Apart (record { node = (root_of c.args.subject.prepared.now); start = c.args.start; stop = c.args.stop }) in
    let begun : reverse c.push_reserved.new.self.items ≡ first ∷ [] = search (rules, rw c.root-node.ensures.value at c.push_reserved.ensures.items) in
    let blank = starts_blank _ _ c.args.start c.args.stop c.facts.result c.facts.ensures.facts in
    record { keeps = search rules; works = rw begun (works_none c.args.subject (first ∷ []) _ _ _ c.args.steps.now (omega arith) blank (search (rules, c.root-node.ensures.expr.arena.nonempty))) }

pub all-preserved-in-Forget : goal.all-preserved-in-Forget
all-preserved-in-Forget c =
    let works = rw (popped _ _ _ c.in-Some.ensures.items, c.in-Forget.is) at c.all.invariant.works in
    let forgets = works_forget c.args.subject c.in-Forget.x _ c.facts-in-Forget.result c.without-decided.result c.all.decided c.all.steps works.ready works.decided c.facts-in-Forget.ensures.facts c.without-decided.ensures in
    record { keeps = search rules; works = works_then c.args.subject _ _ _ _ _ _ 0 1 0 _ _ _ _ _ _ (omega arith) works forgets }

pub all-preserved : goal.all-preserved
all-preserved c =
    let works = rw (popped _ _ _ c.in-Some.ensures.items, c.in-Apart.is) at c.all.invariant.works in
    record { keeps = search (rules, space_then, c.spine.ensures.room); works = works_then c.args.subject _ _ _ _ _ _ 0 1 0 _ _ _ _ _ _ (omega arith) works c.spine.ensures.works }

pub returns : goal.returns
returns c =
    let e = c.args.subject.prepared.now in
    let last = known_groups c.all.decided in
    let empty : reverse c.all.room.tasks.items ≡ [] = search (rules, nil_from_length c.all.room.tasks.items, c.in_default.ensures.cases) in
    let works = rw empty at c.all.invariant.works in
    let begun = known_groups (undecided c.facts.result c.args.start c.args.stop) in
    let run = works.run last 0 (refl, refl) in
    let walk : WalkEnters (expression_tree e) (subject_text c.args.subject) c.args.start c.args.stop begun last run.1 = search (rules, run.3, run.4) in
    let start = starts_due (expression_tree e) (root_of e) c.args.start c.args.stop c.facts.result (rw c.root-node.ensures.value at c.facts.ensures.facts) in
    record {
      report = walk_report (expression_tree e) _ _ _ run.1 begun last start c.requires.spans walk;
      tasks = search rules;
      room = search rules;
      cost = search (rules, works.spent, c.root-node.ensures.expr.sizes (root_of e), c.root-node.ensures.expr.arena.nonempty);
      counts = search rules;
      entered = (begun, start, record { last = last; n = run.1; walk = walk; counts = search (rules, least_less c.args.steps.now c.all.steps works.n, run.5) });
    }
