-- What comes in place of a node, by its kind.
use Rattle.sedpass.proofs.Words.{rules, ◌≡◌, ℕ, ◌+◌, ◌-◌, ◌*◌, ◌<◌, ◌≤◌, ◌⊎◌, Bool, [], ◌∷◌, length, None, Some, IsTrue, refl, sym, ap, inl, inr, arith, tree_of, tree_at, size, IsPart, Takes, TakesAtLeast, Node, NodeId, Seq, Alt, Group, Star, Opt, tree_at-node, HasSpan, LastCut, parts_of, total_size, Matches, open_at, group_depth, CostsWithin, Matches-forward, size-parts, size-pos, Matched, Apart, Forget, Done, One, Two, Region, Subject, EndsRegion, HasNoKnownLength, IsCopyFrom, LooksAt, NodeTurned, IsLastIn, one_start, match_cost, nodes_in, subject_text, NodeMatches, IsTurn, entered_at, owed_region, all_of, last_of, GroupState, settle, drop_groups, WalkEnters}
use Rattle.sedpass.proofs.OneGroupLemmas.{copy_spans}
use Rattle.sedpass.proofs.LeaveLemmas.{last_inside}
use Rattle.sedpass.proofs.MeetingLemmas.{part_within}
use Rattle.sedpass.proofs.OwedLemmas.{begun_paid, copy_paid, inner_paid, parts_paid}

module _ (s : Subject) (here : Matched) (node : Node) (stands : NodeMatches s here node) where
  -- the match, by its parts
  pub opened : Matches (tree_of (tree_at (nodes_in s)) node) (subject_text s) here.start here.stop
  opened = open_at (nodes_in s) (subject_text s) here.node node stands.arena stands.is here.start here.stop stands.there.at

  part_inside : (c : ℕ) → IsPart node c → c < length (nodes_in s)
  part_inside c part = search rules

  long : size (tree_at (nodes_in s) here.node) ≡ 1 + total_size (nodes_in s) (parts_of node)
  long = size-parts (nodes_in s) stands.arena here.node node stands.is

  deep : group_depth (tree_at (nodes_in s) here.node) ≡ group_depth (tree_of (tree_at (nodes_in s)) node)
  deep = ap group_depth (tree_at-node (nodes_in s) here.node node stands.arena stands.is)

  -- what a part in the same region costs
  inner_turned : (c : ℕ) (r r' : Region) (before after : ℕ) → IsPart node c → group_depth (tree_at (nodes_in s) c) ≤ group_depth (tree_of (tree_at (nodes_in s)) node) →
      size (tree_at (nodes_in s) c) ≤ total_size (nodes_in s) (parts_of node) → CostsWithin before after (owed_region (length (nodes_in s)) r here.start + 1) (owed_region (length (nodes_in s)) r' here.start) →
      1 ≤ group_depth (tree_at (nodes_in s) here.node) → CostsWithin before after (match_cost (nodes_in s) r here) (match_cost (nodes_in s) r' (record { node = c; start = here.start; stop = here.stop }) + 1)
  inner_turned c r r' before after part less fewer cost some =
      (cost.0, inner_paid (length (nodes_in s)) _ _ _ _ _ _ _ before after some (omega (arith, deep, less)) (omega (arith, long, fewer)) cost.1)

  close_walk : (old new : GroupState) (n : ℕ) → WalkEnters (tree_of (tree_at (nodes_in s)) node) (subject_text s) here.start here.stop old new n → WalkEnters (tree_at (nodes_in s) here.node) (subject_text s) here.start here.stop old new n
  close_walk old new n walk = rw (tree_at-node (nodes_in s) here.node node stands.arena stands.is) walk

  -- the match of a part comes in its place, and what is still due in the part then is forgotten
  inner_turn : (a : NodeId) (c : ℕ) (old new : GroupState) → IsPart node a.index → parts_of node ≡ a.index ∷ [] → here.start ≤ c → c ≤ here.stop → HasSpan (nodes_in s) (subject_text s) a.index c here.stop →
      ((mid : GroupState) (m : ℕ) → WalkEnters (tree_at (nodes_in s) a.index) (subject_text s) c here.stop new mid m →
      WalkEnters (tree_of (tree_at (nodes_in s)) node) (subject_text s) here.start here.stop old (drop_groups (tree_at (nodes_in s) a.index) mid) (1 + m)) →
      IsTurn s here old new (Two (record { node = a.index; start = c; stop = here.stop }) (Forget a.index)) 1
  inner_turn a c old new part parts from up at go = record {
    run = λ rest f m run. search (rules, close_walk old _ _ (go run.0 run.1 run.3));
    ready = search (rules, part_inside a.index part);
    less = search (rules, long, ap (total_size (nodes_in s)) parts);
  }

-- a node of no other kind has no parts: nothing comes in its place
pub leaf_turned : (s : Subject) (here : Matched) (node : Node) (state : GroupState) (r : Region) (steps : ℕ) → NodeMatches s here node → ((a b : NodeId) → node ≡ Seq a b → ⊥) → ((a b : NodeId) → node ≡ Alt a b → ⊥) →
    ((k : ℕ) (a : NodeId) → node ≡ Group k a → ⊥) → ((a : NodeId) (first : Bool) → node ≡ Star a first → ⊥) → ((a : NodeId) (first : Bool) → node ≡ Opt a first → ⊥) → NodeTurned s here node state state r r Done steps steps
leaf_turned s here node state r steps stands seq alt group star opt =
    search (rules, size-pos (tree_at (nodes_in s) here.node), close_walk s here node stands state state (entered_at node))

-- a concatenation goes on with its right part; the left one is a task
pub seq_turned : (s : Subject) (here : Matched) (a b : NodeId) (k : ℕ) (state : GroupState) (r r' : Region) (before after : ℕ) → NodeMatches s here (Seq a b) → EndsRegion s r' here →
    LastCut (HasSpan (nodes_in s) (subject_text s) a.index) (HasSpan (nodes_in s) (subject_text s) b.index) here.start here.stop k →
    CostsWithin before after (owed_region (length (nodes_in s)) r here.start + 72 * length (nodes_in s) * k + 1) (owed_region (length (nodes_in s)) r' k + 72 * length (nodes_in s) * here.start) →
    (HasNoKnownLength (nodes_in s) a.index → HasNoKnownLength (nodes_in s) b.index → TakesAtLeast before after (k - here.start)) →
    NodeTurned s here (Seq a b) state state r r' (Two (record { node = b.index; start = k; stop = here.stop }) (Apart (record { node = a.index; start = here.start; stop = k }))) before after
seq_turned s here a b k state r r' before after stands ends cut cost looks =
    let depth = deep s here (Seq a b) stands in
    record {
      turn = record {
        run = λ rest f m run. (run.4.0, 1 + (run.1 + run.4.1), run.4.2, close_walk s here (Seq a b) stands state run.4.0 _ (inr (run.1, run.4.1, refl, k, cut, run.0, run.3, run.4.3)), run.4.4, omega (arith, run.5, run.4.5));
        ready = search (rules, Matches-forward, part_inside s here (Seq a b) stands a.index (inl refl), part_inside s here (Seq a b) stands b.index (inr refl));
        less = omega (arith, long s here (Seq a b) stands);
      };
      goes = search (rules, last_of here.node b.index (Seq a b) stands.is refl ends.0);
      cost = λ some. (
        cost.0,
        parts_paid (length (nodes_in s)) _ _ _ here.start k here.stop _ _ _ _ _ before after some (omega (arith, depth)) (omega (arith, depth))
            (search (rules, Matches-forward, cut.left)) (search (rules, Matches-forward, cut.right)) (omega (arith, long s here (Seq a b) stands)) cost.1,
      );
      looks = looks;
    }

-- an alternation goes on with the left alternative, or with the right one if the left one doesn't match
pub alt_turned : (s : Subject) (here : Matched) (a b : NodeId) (c : ℕ) (state : GroupState) (r r' : Region) (before after : ℕ) → NodeMatches s here (Alt a b) → EndsRegion s r' here →
    ((c ≡ a.index) × HasSpan (nodes_in s) (subject_text s) a.index here.start here.stop) ⊎ ((c ≡ b.index) × (HasSpan (nodes_in s) (subject_text s) a.index here.start here.stop → ⊥)) →
    CostsWithin before after (owed_region (length (nodes_in s)) r here.start + 1) (owed_region (length (nodes_in s)) r' here.start) → TakesAtLeast before after 1 →
    NodeTurned s here (Alt a b) state state r r' (One (record { node = c; start = here.start; stop = here.stop })) before after
alt_turned s here a b c state r r' before after stands ends which cost looks =
    let part : IsPart (Alt a b) c = search rules in
    let turn : IsTurn s here state state (One (record { node = c; start = here.start; stop = here.stop })) 1 = record {
      run = λ rest f m run. (run.0, 1 + run.1, run.2, close_walk s here (Alt a b) stands state run.0 _ (search (rules, run.3)), run.4, omega (arith, run.5));
      ready = search (rules, part_inside s here (Alt a b) stands c part, opened s here (Alt a b) stands);
      less = search (rules, long s here (Alt a b) stands);
    } in
    search (rules, last_of here.node c (Alt a b) stands.is part ends.0, inner_turned s here (Alt a b) stands c r r' before after)

-- a group gets its span, if it is due; what is in it follows
pub group_turned : (s : Subject) (here : Matched) (k : ℕ) (a : NodeId) (state : GroupState) (r : Region) (steps : ℕ) → NodeMatches s here (Group k a) → EndsRegion s r here →
    NodeTurned s here (Group k a) state (settle k (Some (here.start, here.stop)) state) r r (Two (record { node = a.index; start = here.start; stop = here.stop }) (Forget a.index)) steps steps
group_turned s here k a state r steps stands ends =
    let turn = inner_turn s here (Group k a) stands a here.start state (settle k (Some (here.start, here.stop)) state) refl refl (omega arith) stands.there.up (opened s here (Group k a) stands) (λ mid m walk. inr (m, refl, mid, walk, refl)) in
    search (rules, turn, last_of here.node a.index (Group k a) stands.is refl ends.0, inner_turned s here (Group k a) stands a.index r r steps steps)

-- a repetition goes on with its last copy, in a region of its own
pub star_turned : (s : Subject) (here : Matched) (a : NodeId) (first : Bool) (c : ℕ) (state : GroupState) (r r' : Region) (before after : ℕ) → NodeMatches s here (Star a first) → IsCopyFrom s here a first (Some c) →
    r'.root ≡ a.index → r'.end ≡ here.stop → Takes before after (owed_region (length (nodes_in s)) r here.start + 72 * length (nodes_in s) * (here.stop - here.start) + 1) → LooksAt s here (Star a first) None before after →
    NodeTurned s here (Star a first) state state r r' (Two (record { node = a.index; start = c; stop = here.stop }) (Forget a.index)) before after
star_turned s here a first c state r r' before after stands copy root end cost looks =
    let spans : (here.start ≤ c) × (c ≤ here.stop) × HasSpan (nodes_in s) (subject_text s) a.index c here.stop = search (rules, copy_spans) in
    record {
      turn = inner_turn s here (Star a first) stands a c state state refl refl spans.0 spans.1 spans.2 (λ mid m walk. search rules);
      goes = (all_of a.index (sym root), sym end);
      cost = λ some. (
        cost.0,
        copy_paid (length (nodes_in s)) _ _ (here.stop - here.start) (here.stop - c) _ _ _ _ before after some (deep s here (Star a first) stands) (omega (arith, spans.0))
            (begun_paid (nodes_in s) r' (record { node = a.index; start = c; stop = here.stop }) end) (omega (arith, long s here (Star a first) stands)) cost.1,
      );
      looks = looks;
    }

-- or it has no copy
pub star_done : (s : Subject) (here : Matched) (a : NodeId) (first : Bool) (state : GroupState) (r r' : Region) (before after : ℕ) → NodeMatches s here (Star a first) → IsCopyFrom s here a first None →
    Takes before after (owed_region (length (nodes_in s)) r here.start + 72 * length (nodes_in s) * (here.stop - here.start) + 1) → LooksAt s here (Star a first) None before after →
    NodeTurned s here (Star a first) state state r r' Done before after
star_done s here a first state r r' before after stands none cost looks =
    search (rules, size-pos (tree_at (nodes_in s) here.node), close_walk s here (Star a first) stands state state 1 (inr (0, refl, inr (inr (none.0, λ is at. none.1 (is, at), refl, refl)))))

-- what may be there once is, or an empty copy of it is taken
pub opt_turned : (s : Subject) (here : Matched) (a : NodeId) (first : Bool) (state : GroupState) (r : Region) (before after : ℕ) → NodeMatches s here (Opt a first) → EndsRegion s r here →
    (here.start < here.stop) ⊎ ((here.stop ≤ here.start) × (IsTrue first × HasSpan (nodes_in s) (subject_text s) a.index here.start here.start)) → Takes before after 1 →
    NodeTurned s here (Opt a first) state state r r (Two (record { node = a.index; start = here.start; stop = here.stop }) (Forget a.index)) before after
opt_turned s here a first state r before after stands ends which cost =
    let turn = inner_turn s here (Opt a first) stands a here.start state state refl refl (omega arith) stands.there.up (search (rules, opened s here (Opt a first) stands)) (λ mid m walk. search rules) in
    search (rules, turn, last_of here.node a.index (Opt a first) stands.is refl ends.0, inner_turned s here (Opt a first) stands a.index r r before after)

pub opt_done : (s : Subject) (here : Matched) (a : NodeId) (first : Bool) (state : GroupState) (r : Region) (before after : ℕ) → NodeMatches s here (Opt a first) → here.stop ≤ here.start →
    ((IsTrue first × HasSpan (nodes_in s) (subject_text s) a.index here.start here.start) → ⊥) → Takes before after 1 → NodeTurned s here (Opt a first) state state r r Done before after
opt_done s here a first state r before after stands le not cost =
    search (rules, close_walk s here (Opt a first) stands state state 1, size-pos (tree_at (nodes_in s) here.node))

-- the parts of a node that is last in a region
pub seq_within : (s : Subject) (here : Matched) (a b : NodeId) (r : ℕ) → NodeMatches s here (Seq a b) → IsLastIn (nodes_in s) r here.node → (a.index < length (nodes_in s)) × (b.index < length (nodes_in s)) × (a.index < r)
seq_within s here a b r stands last =
    search (rules, last_inside (nodes_in s) (subject_text s) r (one_start 0) stands.arena here.node last, stands.arena.below here.node a.index (Seq a b) stands.is, stands.arena.below here.node b.index (Seq a b) stands.is)

pub star_within : (s : Subject) (here : Matched) (a : NodeId) (first : Bool) (r : ℕ) → NodeMatches s here (Star a first) → IsLastIn (nodes_in s) r here.node → (a.index < length (nodes_in s)) × (a.index ≤ r)
star_within s here a first r stands last = part_within (nodes_in s) (subject_text s) r here.node a.index (Star a first) stands.arena last stands.is refl

pub alt_inside : (s : Subject) (here : Matched) (a b : NodeId) → NodeMatches s here (Alt a b) → a.index < length (nodes_in s)
alt_inside s here a b stands = part_inside s here (Alt a b) stands a.index (inl refl)

pub opt_inside : (s : Subject) (here : Matched) (a : NodeId) (first : Bool) → NodeMatches s here (Opt a first) → a.index < length (nodes_in s)
opt_inside s here a first stands = part_inside s here (Opt a first) stands a.index refl
