-- How the marks of a place are found by those that are set: upwards from the leaves that took the byte, and downwards from what begins.
use Rattle.sedpass.proofs.Words.{AddsMarks, AreTakers, Bool, CanEnd, EndsAfter, EndsUpTo, Enters, EntersDownTo, HasSpan, InTree, IsArena, IsNodeRange, IsPart, IsSetAt, IsTrue, List, Node, NodeId, Option, Seq, Some, Star, Starts, StartsAfter, StartsWith, TakenBy, and_from, and_parts, arith, cases_eq, cases_lt, ended_by, entered_by, eq-eqb, eqb, eqb-true, false, get_or-set_other, get_or-set_same, has_mark, inl, inr, is_tree, le-leb, leb-true, length, lt-ltb, ltb-true, nat_le, nat_lt, ne_eqb, node_at, part_of, refl, rules, same_Some, slice_get, slice_get_within, slice_set, sym, true, true≢false, ℕ, ◌&&◌, ◌+◌, ◌<◌, ◌||◌, ◌↔◌, ◌∙◌, ◌≡◌, ◌≤◌, ◌⊎◌, MarkLeaves}
use Rattle.sedpass.proofs.RowLemmas.{InTree-inside, copy_part, right_part, with_node}

-- more marks say more
pub ended_by_more : (took : List Bool → Bool) (null f g : ℕ → Bool) (node : Node) → ((c : ℕ) → IsPart node c → IsTrue (f c) → IsTrue (g c)) → IsTrue (ended_by took null f node) → IsTrue (ended_by took null g node)
ended_by_more took null f g node more h = search (rules, more)

pub entered_by_more : (here more : Bool) (null f g : ℕ → Bool) (node : Node) (c : ℕ) → (IsTrue here → IsTrue more) → ((n : ℕ) → IsPart node n → IsTrue (f n) → IsTrue (g n)) → IsTrue (entered_by here null f node c) → IsTrue (entered_by more null g node c)
entered_by_more here more null f g node c up rise h = search (rules, up, rise)

-- where its part y has ended, for what else it may be said
ended_split : (took : List Bool → Bool) (null f g : ℕ → Bool) (y : ℕ) (node : Node) → ((c : ℕ) → IsPart node c → IsTrue (f c) → IsTrue (g c) ⊎ (c ≡ y)) → IsTrue (ended_by took null f node) → IsTrue (ended_by took null g node) ⊎ EndsAfter null node y
ended_split took null f g y node less h = search (rules, less, eq-eqb)

ends_part : (null : ℕ → Bool) (y : ℕ) (node : Node) → EndsAfter null node y → IsPart node y
ends_part null y node h = search (rules, eqb-true)

-- two truth values that say the same
pub same_truth : (a b : Bool) → (IsTrue a → IsTrue b) → (IsTrue b → IsTrue a) → a ≡ b
same_truth a b up down = search rules

-- one mark is set
pub set_here : (marks after : List Bool) (p : ℕ) (v : Bool) → after ≡ slice_set marks p v → p < length marks → has_mark after p ≡ v
set_here marks after p v is long = search (rules, get_or-set_same)

pub set_other : (marks after : List Bool) (p : ℕ) (v : Bool) → after ≡ slice_set marks p v → (c : ℕ) → (c ≡ p → ⊥) → has_mark after c ≡ has_mark marks c
set_other marks after p v is c ne = search (rules, get_or-set_other)

-- no mark is added, or one
pub adds_none : (marks : List Bool) (P : ℕ → Type 0) → ((c : ℕ) → P c → ⊥) → AddsMarks marks marks P
adds_none marks P none c = (λ h. inl h, λ h. elim h [ inl old ↦ old | inr told ↦ absurd (none c told) ])

pub adds_one : (marks after : List Bool) (p : ℕ) (P : ℕ → Type 0) → after ≡ slice_set marks p true → p < length marks → P p → ((c : ℕ) → P c → c ≡ p) → AddsMarks marks after P
adds_one marks after p P is long here only c = search (rules, set_here, set_other, cases_eq c p, only c)

one_node : (nodes : List Node) (p x : ℕ) (node other : Node) → slice_get nodes p ≡ Some node → slice_get nodes x ≡ Some other → x ≡ p → other ≡ node
one_node nodes p x node other is is' e = search (rules, same_Some)

-- where nothing is marked below y in r, and only leaves are above, those have ended alone
pub leaves_end : (nodes : List Node) (r y : ℕ) (took null : ℕ → Bool) (ended : List Bool) → MarkLeaves nodes r ended → ((c : ℕ) → c < length nodes → has_mark ended c ≡ took c) → ((c : ℕ) → InTree nodes r c → c < y → has_mark ended c ≡ false) →
    EndsUpTo nodes r took null ended y
leaves_end nodes r y took null ended only same none = record {
  inside = λ c lt h. (only c lt h).0;
  just = λ c node is h. search (rules, only c (slice_get_within nodes c node is) h, one_node, same, slice_get_within);
  closed = λ c node there is h.
      let inner = λ (n : ℕ) (part : IsPart node n). none n (part_of c n node is part there) in
      grind (arith, same c (slice_get_within nodes c node is), ltb-true, inner);
}

-- what a node says of where its parts begin
module _ (nodes : List Node) (w : List ℕ) (r x p : ℕ) (s : Starts) (arena : IsArena nodes) (le : x ≤ r) (here : Bool) (enters : IsTrue here ↔ Enters nodes w r s x p) (null ended : ℕ → Bool) where
  pub entered_is : (node : Node) → slice_get nodes x ≡ Some node → ((c : ℕ) → IsPart node c → IsTrue (null c) ↔ HasSpan nodes w c p p) → ((c : ℕ) → IsPart node c → IsTrue (ended c) ↔ CanEnd nodes w r s c p) →
      (c : ℕ) → IsPart node c → IsTrue (entered_by here null ended node c) ↔ Enters nodes w r s c p
  entered_is (Seq a b) is nulls ends c (inl at) =
      let left = with_node nodes w r s arena x p le here enters a.index (Seq a b) is refl (λ h. elim h [ inl f ↦ f.1 | inr same ↦ absurd (arena.distinct x (Seq a b) is (sym same.0)) ]) in
      search (rules, left, eq-eqb)
  entered_is (Seq a b) is nulls ends c (inr at) =
      let right = right_part nodes w r s arena x p le here enters a b is (null a.index) (ended a.index) (nulls a.index (inl refl)) (ends a.index (inl refl)) in
      let ne = arena.distinct x (Seq a b) is in
      search (rules, right, ne_eqb)
  entered_is (Star a first) is nulls ends c part = rw (← part) (copy_part nodes w r s arena x p le here enters a first is (ended a.index) (ends a.index refl))
  entered_is node is nulls ends c part = search (rules, with_node nodes w r s arena x p le here enters c node is part)

-- nothing is entered where nothing has ended yet
pub enters_none : (nodes : List Node) (r z : ℕ) (null : ℕ → Bool) (ended entered : List Bool) → IsArena nodes → ((c : ℕ) → c < length nodes → has_mark entered c ≡ false) → r < length nodes →
    ((c : ℕ) → InTree nodes r c → c < z → has_mark ended c ≡ false) → EntersDownTo nodes r false null ended entered (r + 1) z
enters_none nodes r z null ended entered arena clear inside none = record {
  inside = λ c lt h. search (rules, clear, true≢false);
  root = clear r inside;
  just = λ q c node there is part h. search (rules, clear, arena.below, slice_get_within, true≢false);
  closed = λ q c node there is part h. absurd (grind (arith, leb-true, ltb-true, InTree-inside nodes arena r q there, none, λ (n : ℕ) (at : IsPart node n). none n (part_of q n node is at there)));
}

-- Besides the marks of a base, of the leaves from x on those are marked that were entered.
pub record HasLeaves (nodes : List Node) (base entered leaves : List Bool) (x : ℕ) : Type 0 where
  pub leaf : (c : ℕ) → c < length nodes → IsTrue (has_mark leaves c) ↔ (IsTrue (has_mark base c) ⊎ ((x ≤ c) × IsTrue (has_mark entered c) × IsSetAt nodes c))

-- Downwards: the node x is entered, and none below it from y on.
module _ (nodes : List Node) (r : ℕ) (arena : IsArena nodes) (entered after : List Bool) (x y : ℕ) (node : Node) (is : slice_get nodes x ≡ Some node) (here : IsTrue (has_mark entered x)) (null : ℕ → Bool)
    (adds : AddsMarks entered after (StartsWith null node)) (none : (c : ℕ) → y ≤ c → c < x → has_mark after c ≡ false) where
  -- marks from x on stay
  still_marked : (c : ℕ) → x ≤ c → has_mark after c ≡ has_mark entered c
  still_marked c le = grind (arith, adds c, arena.below x c node is)

  still_above : (q : ℕ) → (q ≡ x → ⊥) → IsTrue (nat_le y q && has_mark after q) → IsTrue (nat_le (x + 1) q && has_mark entered q)
  still_above q ne h = grind (arith, leb-true, le-leb, none q, still_marked q)

  -- the parts of the node x that begin with it are marked
  pub down_step : (first : Bool) (ended : List Bool) (z : ℕ) → EntersDownTo nodes r first null ended entered (x + 1) z → EntersDownTo nodes r first null ended after y z
  down_step first ended z down =
      let there = down.inside x (slice_get_within nodes x node is) here in
      record {
        inside = λ c lt h. search (rules, adds c, down.inside, part_of);
        root = still_marked r (InTree-inside nodes arena r x there) ∙ down.root;
        just = λ q c other there' is' part h. search (rules, adds c, adds q, down.just q c other there' is' part, arena.once q x c other node is' is part, one_node nodes x q node other is is');
        closed = λ q c other there' is' part h. search (rules, adds c, cases_eq q x, down.closed q c other there' is' part, still_above q, one_node nodes x q node other is is');
      }

  -- and the node itself, if it is a leaf
  pub leaves_step : (base leaves after_leaves : List Bool) → y ≤ x → AddsMarks leaves after_leaves (λ c. (c ≡ x) × IsSetAt nodes c) → HasLeaves nodes base entered leaves (x + 1) → HasLeaves nodes base after after_leaves y
  leaves_step base leaves after_leaves le law has = record { leaf = λ c lt. search (rules, law c, has.leaf c lt, still_marked c, none c, cases_eq c x, cases_lt c x, true≢false) }

-- What ended says which part begins.
begins_split : (here more : Bool) (null f g : ℕ → Bool) (y : ℕ) (node : Node) (c : ℕ) → (IsTrue here → IsTrue more) → ((n : ℕ) → IsPart node n → IsTrue (f n) → IsTrue (g n) ⊎ (n ≡ y)) → IsTrue (entered_by here null f node c) →
    IsTrue (entered_by more null g node c) ⊎ (IsPart node y × IsTrue (entered_by false null (λ n. eqb n y) node c))
begins_split here more null f g y node c up less h = search (rules, up, less, eq-eqb)

-- Upwards: the node y has ended, of which p is the node, and none above it up to z.
module _ (nodes : List Node) (r : ℕ) (arena : IsArena nodes) (null : ℕ → Bool) (ended after_ended : List Bool) (y p z : ℕ) (node : Node) (is : slice_get nodes p ≡ Some node) (own : IsPart node y) (under : y < r)
    (here : IsTrue (has_mark ended y)) (inner : InTree nodes r y) (adds_ended : AddsMarks ended after_ended (λ c. (c ≡ p) × EndsAfter null node y)) (none : (c : ℕ) → y + 1 ≤ c → c < z → has_mark after_ended c ≡ false) where
  there : InTree nodes r p
  there = search (rules, arena.once, under)

  -- a mark below z is one below y, or y
  still_below : (n : ℕ) → IsTrue (nat_lt n z && has_mark after_ended n) → IsTrue (nat_lt n y && has_mark ended n) ⊎ (n ≡ y)
  still_below n h = grind (arith, ltb-true, lt-ltb, (adds_ended n).0, none n, arena.below p y node is own)

  pub up_step : (took : ℕ → Bool) → EndsUpTo nodes r took null ended y → EndsUpTo nodes r took null after_ended z
  up_step took up = record {
    inside = λ x low h. search (rules, up.inside, adds_ended x, there);
    just = λ x other is' h. search (rules, adds_ended, up.just x other is', eqb-true, one_node, here);
    closed = λ x other there' is' h. search (rules, up.closed x other there' is', ended_split, still_below, ends_part null y other, arena.once x p y other node is' is, one_node nodes p x node other is is', adds_ended x);
  }

  pub follow_step : (entered after : List Bool) → AddsMarks entered after (StartsAfter null node y) → EntersDownTo nodes r false null ended entered (r + 1) y → EntersDownTo nodes r false null after_ended after (r + 1) z
  follow_step entered after adds down = record {
    inside = λ c lt h. search (rules, adds c, down.inside, part_of, there);
    root = search (rules, same_truth, adds r, down.root, arena.below p r node is, InTree-inside nodes arena r p there, true≢false);
    just = λ q c other there' is' part h. search (rules, adds, adds_ended, eqb-true, here, down.just q c other there' is' part, arena.once q p c other node is' is part, one_node nodes p q node other is is');
    closed = λ q c other there' is' part h.
        let past : IsTrue (nat_le (r + 1) q && has_mark after q) → IsTrue (nat_le (r + 1) q && has_mark entered q) = λ h. grind (arith, leb-true, InTree-inside nodes arena r q there') in
        let split = begins_split (nat_le (r + 1) q && has_mark after q) (nat_le (r + 1) q && has_mark entered q) null (λ n. nat_lt n z && has_mark after_ended n) (λ n. nat_lt n y && has_mark ended n) y other c past (λ n at. still_below n) h in
        search (rules, adds c, down.closed q c other there' is' part, arena.once q p y other node is' is, one_node nodes p q node other is is');
  }

-- the root is no part in itself
pub end_last : (nodes : List Node) (r low : ℕ) (first : Bool) (null : ℕ → Bool) (ended entered : List Bool) → IsArena nodes → EntersDownTo nodes r first null ended entered low r → EntersDownTo nodes r first null ended entered low (r + 1)
end_last nodes r low first null ended entered arena down = record {
  inside = down.inside;
  root = down.root;
  just = down.just;
  closed = λ q c node there is part h. down.closed q c node there is part (search (rules, entered_by_more, ltb-true, lt-ltb, and_parts, and_from, InTree-inside, arena.below));
}

-- the root begins, or doesn't, and no other node from x on
module _ (nodes : List Node) (r x : ℕ) (arena : IsArena nodes) (first : Bool) (null : ℕ → Bool) (ended entered after : List Bool) (is_after : after ≡ slice_set entered r first) (long : r < length entered) (z : ℕ)
    (none : (c : ℕ) → x ≤ c → c < r + 1 → has_mark after c ≡ false) (down : EntersDownTo nodes r false null ended entered (r + 1) z) where
  still_other : (c : ℕ) → (c ≡ r → ⊥) → has_mark after c ≡ has_mark entered c
  still_other = set_other entered after r first is_after

  not_whole : (q c : ℕ) (node : Node) → InTree nodes r q → slice_get nodes q ≡ Some node → IsPart node c → c ≡ r → ⊥
  not_whole q c node there is part e = omega (arith, e, InTree-inside nodes arena r q there, arena.below q c node is part)

  past_whole : (q : ℕ) → InTree nodes r q → IsTrue (nat_le x q && has_mark after q) → IsTrue (nat_le (r + 1) q && has_mark entered q)
  past_whole q there h = grind (arith, leb-true, none q, InTree-inside nodes arena r q there)

  pub enters_first : EntersDownTo nodes r first null ended after x z
  enters_first = record {
    inside = λ c lt h. search (rules, cases_eq c r, is_tree, down.inside, still_other);
    root = set_here entered after r first is_after long;
    just = λ q c node there is part h. search (rules, still_other, down.root, not_whole q c node there is part, down.just q c node there is part, cases_eq q r, true≢false);
    closed = λ q c node there is part h. search (rules, still_other, not_whole, down.closed, entered_by_more, past_whole);
  }

  -- no leaf is marked yet
  pub leaves_none : (base : List Bool) → HasLeaves nodes base after base x
  leaves_none base = record { leaf = λ c lt. grind (arith, none c, enters_first.inside c lt, InTree-inside nodes arena r c) }

-- Of the leaves below z those are marked that were entered and take the byte.
pub record HasTaken (nodes : List Node) (low r : ℕ) (leaves : List Bool) (byte : Option ℕ) (ended : List Bool) (z : ℕ) : Type 0 where
  pub just : (c : ℕ) → c < length nodes → IsTrue (has_mark ended c) → (low ≤ c) × (c ≤ r) × IsTrue (has_mark leaves c) × ((node : Node) × (slice_get nodes c ≡ Some node) × TakenBy byte node)
  pub done : (c : ℕ) (node : Node) → low ≤ c → c < z → slice_get nodes c ≡ Some node → IsTrue (has_mark leaves c) → TakenBy byte node → IsTrue (has_mark ended c)

-- the node x was entered, and marked if it is a leaf that takes the byte, and none above it up to z
pub taken_step : (nodes : List Node) (low r : ℕ) (leaves : List Bool) (byte : Option ℕ) (ended after : List Bool) (x z : ℕ) (node : Node) (took : Bool) → slice_get nodes x ≡ Some node → IsTrue (has_mark leaves x) → (IsTrue took ↔ TakenBy byte node) →
    low ≤ x → x ≤ r → after ≡ slice_set ended x took → x < length ended → ((c : ℕ) → x + 1 ≤ c → c < z → has_mark leaves c ≡ false) → HasTaken nodes low r leaves byte ended x → HasTaken nodes low r leaves byte after z
taken_step nodes low r leaves byte ended after x z node took is here law above below is_after long none has = record {
  just = λ c lt h. elim (cases_eq c x) [
    | inl e ↦ let told : TakenBy byte node = law.0 (sym (set_here ended after x took is_after long) ∙ rw (← e) h) in rw e (above, below, here, (node, is, told))
    | inr ne ↦ search (rules, has.just c lt, set_other)
  ];
  done = λ c other at under is' mark taken. search (rules, cases_eq c x, cases_lt c x, set_here, set_other, has.done, law, one_node, none, true≢false);
}

-- those leaves have ended that were entered and take the byte, of the whole expression
pub taken_both : (nodes : List Node) (low r : ℕ) (leaves takers ended : List Bool) (byte : ℕ) → IsNodeRange nodes low r → low ≡ 0 → length nodes ≡ r + 1 → AreTakers nodes byte takers →
    ((c : ℕ) → c < length nodes → has_mark ended c ≡ (has_mark leaves c && has_mark takers c)) → MarkLeaves nodes r ended
taken_both nodes low r leaves takers ended byte range none whole are both c lt h = let node = node_at nodes c lt in search (rules, range c, both c lt, are, and_parts)

-- The marks of the nodes that end: besides some all where they are kept, and the root's own, where it begins as the null string too.
pub record HasEnds (m r : ℕ) (keeps first : Bool) (null before : ℕ → Bool) (ended last : List Bool) : Type 0 where
  pub others : (c : ℕ) → c < m → (c ≡ r → ⊥) → has_mark last c ≡ (before c || (keeps && has_mark ended c))
  pub own : has_mark last r ≡ (before r || (has_mark ended r || (first && null r)))

-- Of a node of which the part y has ended: it ends too, but where that was the first of two parts, and no part begins.
pub other_ends : (null : ℕ → Bool) (y : ℕ) (node : Node) → IsPart node y → ((a b : NodeId) → node ≡ Seq a b → a.index ≡ y → ⊥) → EndsAfter null node y
other_ends null y node part not_first = search (rules, eq-eqb)

pub none_begins : (null : ℕ → Bool) (y c : ℕ) (node : Node) → ((a b : NodeId) → node ≡ Seq a b → a.index ≡ y → ⊥) → ((a : NodeId) (first : Bool) → node ≡ Star a first → ⊥) → StartsAfter null node y c → ⊥
none_begins null y c node not_first no_star h = search (rules, eqb-true, true≢false)

-- The second part begins where the first has ended, and their node ends where that one is null.
module _ (null : ℕ → Bool) (a b : NodeId) (y : ℕ) (apart : a.index ≡ b.index → ⊥) (at : a.index ≡ y) where
  pub second_begins : (marks after : List Bool) → after ≡ slice_set marks b.index true → b.index < length marks → AddsMarks marks after (StartsAfter null (Seq a b) y)
  second_begins marks after is long c = search (rules, set_here, set_other, cases_eq c b.index, eq-eqb, ne_eqb, true≢false)

  pub seq_ends : EndsAfter null (Seq a b) y ↔ IsTrue (null b.index)
  seq_ends = search (rules, eq-eqb, eqb-true)
