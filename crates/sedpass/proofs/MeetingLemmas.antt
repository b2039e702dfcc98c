-- Where a pass forwards over a part and a pass backwards over what holds the part meet, a match of the part goes on and
-- the end is reached.
use Rattle.sedpass.proofs.Words.{◌≡◌, ℕ, zero, suc, ◌+◌, ◌-◌, ◌<◌, ◌≤◌, ◌⊎◌, ◌↔◌, Bool, List, length, Some, refl, inl, inr, arith, slice_get, rules, cases_lt, slice_get_within, IsArena, IsPart, tree_at, Node, NodeId, Set, Seq, Alt, Group, Star, Opt, Starts, CopiesLead, no_copy, one_more, LastCut, LastCopy, only, then_copy, IsRepetitionOf, HasSpan, BeginsWith, IsStart, one_start, Enters, at_root, with_whole, after_left, again, Matches-forward, CopiesLead-forward, CopiesLead-append, open_at, close_at, Enters-inside, star_copies, BeginsWith-part, node_at, CanLeave, with_end, before_right, before_copies, ReachesEnd, IsLastIn, all_of, MeetsAt, CeasesAt, IsRunOf, repeated, in_group, CopiesLead-join}
use Rattle.sedpass.proofs.LeaveLemmas.{OutOf, CanLeave-part, CanLeave-all, last_inside, last-leaves, CanLeave-last}

-- k is the greatest place to which one copy of R that is not empty leads from i, and from which copies lead on to j
pub record NextCopy (R : ℕ → ℕ → Type 0) (i j k : ℕ) : Type 0 where
  pub after : i < k
  pub within : k ≤ j
  pub copy : R i k
  pub rest : CopiesLead R j k
  pub greatest : (l : ℕ) → R i l → CopiesLead R j l → l ≤ k

-- copies that pass j have one that passes it, and copies lead from its end to theirs
CopiesLead-cross : (R : ℕ → ℕ → Type 0) (P : ℕ → Type 0) (G : Type 0) (j k : ℕ) →
    ((u v : ℕ) → P u → R u v → CopiesLead R k v → u ≤ j → j < v → G) → ((u v : ℕ) → u < v → P u → R u v → P v) →
    (l : ℕ) → CopiesLead R k l → P l → l ≤ j → j < k → G
CopiesLead-cross R P G j k each next l no_copy p low high = absurd (omega arith)
CopiesLead-cross R P G j k each next l (one_more _ m lt r rest) p low high = grind (arith, each l m p r rest low, CopiesLead-cross R P G j k each next m rest (next l m lt p r))

-- a copy, which may be empty, and copies after it
CopiesLead-before : (R : ℕ → ℕ → Type 0) (k q p : ℕ) → p ≤ q → R p q → CopiesLead R k q → CopiesLead R k p
CopiesLead-before R k q p on r rest = search (rules, one_more)

-- copies that lead on begin with one
first_copy : (R : ℕ → ℕ → Type 0) (j i : ℕ) → CopiesLead R j i → i < j → (l : ℕ) × (i < l) × R i l × CopiesLead R j l
first_copy R j i no_copy some = absurd (omega arith)
first_copy R j i (one_more _ l lt r rest) some = (l, lt, r, rest)

module _ (nodes : List Node) (w : List ℕ) (r : ℕ) (t : Starts) (a : ℕ) (s : Starts) (arena : IsArena nodes) (within : a ≤ r) where
  -- the node with a part that begins where it does spans p to k, and is left there
  wider : (y x : ℕ) (node : Node) → slice_get nodes y ≡ Some node → BeginsWith node x → (p q : ℕ) → HasSpan nodes w x p q → OutOf nodes w r t y x q node → (k : ℕ) × (q ≤ k) × HasSpan nodes w y p k × CanLeave nodes w r t y k
  wider y x node is begins p q at out = grind (arith, arena.distinct y node is, open_at nodes w y node arena is q, close_at nodes w y node arena is p, Matches-forward, CopiesLead-before)

  -- a match of a from a start up to p ends at q or later, where a is left
  abbrev Onwards : ℕ → ℕ → Type 0
  Onwards p q = (i : ℕ) × (k : ℕ) × IsStart s i × (i ≤ p) × (q ≤ k) × HasSpan nodes w a i k × CanLeave nodes w r t a k

  -- sound: a node in a that is entered at p, spans p to q and is left at q is in a match of a, at whose end a is left
  pub meets_on : (x p : ℕ) → Enters nodes w a s x p → (q : ℕ) → HasSpan nodes w x p q → CanLeave nodes w r t x q → Onwards p q
  meets_on x p (at_root _ _ last begin) q at leaves = search (rules, at, leaves, begin)
  meets_on x p (with_whole y _ _ node is begins enters) q at leaves =
      let wide = wider y x node is begins p q at (CanLeave-part nodes w r t arena y (omega (arith, Enters-inside nodes w a s arena y p enters)) x q node is (BeginsWith-part node x begins) leaves) in
      search (rules, wide, meets_on y p enters wide.0 wide.2 wide.3)
  meets_on x p (after_left y _ i _ b c is right enters left) q at leaves =
      let up = Enters-inside nodes w a s arena y i enters in
      let out : CanLeave nodes w r t y q = search (rules, arena.distinct y (Seq b c) is, CanLeave-part nodes w r t arena y (omega arith) x q (Seq b c) is (inr right) leaves) in
      search (rules, meets_on y i enters q (close_at nodes w y (Seq b c) arena is i q (p, left, rw right at)), Matches-forward (tree_at nodes b.index) w i p left)
  meets_on x p (again y _ i _ b first is inner enters copied) q at leaves =
      let up = Enters-inside nodes w a s arena y i enters in
      let out = CanLeave-part nodes w r t arena y (omega arith) x q (Star b first) is inner leaves in
      let tail = CopiesLead-before (HasSpan nodes w b.index) out.0 q p (Matches-forward (tree_at nodes x) w p q at) (rw inner at) (open_at nodes w y (Star b first) arena is q out.0 out.2) in
      search (rules, meets_on y i enters out.0, close_at nodes w y (Star b first) arena is i out.0, CopiesLead-join (HasSpan nodes w b.index) out.0 p i, open_at nodes w y (Star b first) arena is i p copied, Matches-forward (tree_at nodes y), out)

  -- complete: a span that passes p, at whose end its node is left, has a set at p that is marked
  module _ (p : ℕ) where
    abbrev Passed : ℕ → Type 0
    Passed x = (i k : ℕ) → Enters nodes w a s x i → CanLeave nodes w r t x k → HasSpan nodes w x i k → i ≤ p → p < k → MeetsAt nodes w r t a s p

    passes : (n x : ℕ) → x < n → x < length nodes → Passed x
    passes zero x less inside = absurd (omega arith)
    passes (suc n) x less inside = let there = node_at nodes x inside in by (λ c below. passes n c (omega arith) (omega arith)) there.0 there.1
      where
        by : ((c : ℕ) → c < x → Passed c) → (node : Node) → slice_get nodes x ≡ Some node → Passed x
        by on (Set members) is i k enters leaves at low high =
            let same : i ≡ p = omega (arith, (open_at nodes w x (Set members) arena is i k at).3) in
            (x, members, is, rw (← same) enters, (k, rw (← same) at, leaves, inl high))
        by on (Seq b c) is i k enters leaves at low high =
            let f = open_at nodes w x (Seq b c) arena is i k at in
            let first = on b.index (arena.below x b.index (Seq b c) is (inl refl)) i f.0 (with_whole x b.index i (Seq b c) is refl enters) (before_right x b.index f.0 k b c is refl leaves f.2) f.1 in
            let second = on c.index (arena.below x c.index (Seq b c) is (inr refl)) f.0 k (after_left x c.index i f.0 b c is refl enters f.1) (with_end x c.index k (Seq b c) is refl leaves) f.2 in
            search (rules, cases_lt p f.0, first, second)
        by on (Alt b c) is i k enters leaves at low high =
            let left = on b.index (arena.below x b.index (Alt b c) is (inl refl)) i k (with_whole x b.index i (Alt b c) is (inl refl) enters) (with_end x b.index k (Alt b c) is (inl refl) leaves) in
            let right = on c.index (arena.below x c.index (Alt b c) is (inr refl)) i k (with_whole x c.index i (Alt b c) is (inr refl) enters) (with_end x c.index k (Alt b c) is (inr refl) leaves) in
            search (rules, open_at nodes w x (Alt b c) arena is i k at, left, right)
        by on (Group g b) is i k enters leaves at low high =
            search (rules, on b.index, arena.below x b.index (Group g b) is, with_whole, with_end, open_at nodes w x (Group g b) arena is i k at)
        by on (Star b first) is i k enters leaves at low high =
            CopiesLead-cross (HasSpan nodes w b.index) (λ u. Enters nodes w a s b.index u × CopiesLead (HasSpan nodes w b.index) u i) (MeetsAt nodes w r t a s p) p k
            (λ u v from copy rest. on b.index (arena.below x b.index (Star b first) is refl) u v from.0 (before_copies x b.index v k b first is refl leaves (close_at nodes w x (Star b first) arena is v k rest)) copy)
            (λ u v lt from copy. search (rules, again, enters, close_at nodes w x (Star b first) arena is i v, CopiesLead-append (HasSpan nodes w b.index) u i v from.1 lt copy))
            i (open_at nodes w x (Star b first) arena is i k at) (with_whole x b.index i (Star b first) is refl enters, no_copy) low high
        by on (Opt b first) is i k enters leaves at low high =
            search (rules, open_at nodes w x (Opt b first) arena is i k at, on b.index (arena.below x b.index (Opt b first) is refl) i k (with_whole x b.index i (Opt b first) is refl enters) (with_end x b.index k (Opt b first) is refl leaves))
        by on node is i k enters leaves at low high = absurd (omega (arith, open_at nodes w x node arena is i k at))

-- the two passes meet exactly where a match of a goes on from which the end is reached
pub meets-goes_on : (nodes : List Node) (w : List ℕ) (r a p : ℕ) (s t : Starts) → IsArena nodes → a < length nodes → a ≤ r → MeetsAt nodes w r t a s p
    ↔ ((i : ℕ) × (k : ℕ) × IsStart s i × (i ≤ p) × (p < k) × HasSpan nodes w a i k × CanLeave nodes w r t a k)
meets-goes_on nodes w r a p s t arena inside within = (
  λ h. search (rules, meets_on nodes w r t a s arena within h.0 p h.3 h.4.0 h.4.1 h.4.2, open_at nodes w h.0 (Set h.1) arena h.2 p h.4.0 h.4.1),
  λ h. search (rules, passes nodes w r t a s arena within p (suc a) a, at_root, h),
)

-- of the whole node r: exactly where a match of it goes on
pub meets_whole : (nodes : List Node) (w : List ℕ) (r p : ℕ) (s t : Starts) → IsArena nodes → r < length nodes →
    MeetsAt nodes w r t r s p ↔ ((i : ℕ) × (k : ℕ) × IsStart s i × (i ≤ p) × (p < k) × HasSpan nodes w r i k × IsStart t k)
meets_whole nodes w r p s t arena inside = grind (arith, meets-goes_on nodes w r r p s t arena inside, last-leaves nodes w r t arena r, CanLeave-last nodes w r t arena r, all_of)

-- no set is marked at the last end or after it
pub set_early : (nodes : List Node) (w : List ℕ) (r c p : ℕ) (t : Starts) (members : List Bool) → IsArena nodes → slice_get nodes c ≡ Some (Set members) → ReachesEnd nodes w r t c p → p < t.last
set_early nodes w r c p t members arena is h = omega (arith, (open_at nodes w c (Set members) arena is p h.0 h.1).3, CanLeave-all nodes w r t arena c h.0 h.2)

-- the first place from i on after which A and B hold of none is the greatest of which they do
first_stop : (A B M : ℕ → Type 0) (i p k : ℕ) → i ≤ k → A k → B k → i ≤ p → ((q : ℕ) → i ≤ q → q ≤ p → M q ↔ ((l : ℕ) × (q < l) × A l × B l)) →
    ((q : ℕ) → i ≤ q → q < p → M q) → (M p → ⊥) → A p × B p × ((l : ℕ) → A l → B l → l ≤ p)
first_stop A B M i p k low left right on shows more over = grind (arith, shows p, shows (p - 1), more (p - 1))

-- a pass over the node c, which is left exactly where Q, that goes on while the passes meet
module _ (nodes : List Node) (w : List ℕ) (r c : ℕ) (t : Starts) (arena : IsArena nodes) (inside : c < length nodes) (within : c ≤ r) (Q : ℕ → Type 0) (leaves : (k : ℕ) → CanLeave nodes w r t c k ↔ Q k) where
  pub meets_from : (i p : ℕ) → i ≤ p → MeetsAt nodes w r t c (one_start i) p ↔ ((k : ℕ) × (p < k) × HasSpan nodes w c i k × Q k)
  meets_from i p low = grind (arith, meets-goes_on nodes w r c p (one_start i) t arena inside within, leaves)

  -- it stops at the greatest end of a match from there
  pub stops_at : (i p k : ℕ) → i ≤ k → HasSpan nodes w c i k → Q k → CeasesAt nodes w r t c i p → HasSpan nodes w c i p × Q p × ((l : ℕ) → HasSpan nodes w c i l → Q l → l ≤ p)
  stops_at i p k low at left stops = first_stop (HasSpan nodes w c i) Q (MeetsAt nodes w r t c (one_start i)) i p k low at left stops.0 (λ q on up. meets_from i q on) stops.1 stops.2

-- at the start of a pass over a part of r: exactly where the part is marked
pub marked_meets : (nodes : List Node) (w : List ℕ) (r a p : ℕ) (t : Starts) → IsArena nodes → a < length nodes → a < r → MeetsAt nodes w r t a (one_start p) p ↔ ReachesEnd nodes w r t a p
marked_meets nodes w r a p t arena inside within = grind (arith, meets-goes_on nodes w r a p (one_start p) t arena inside)

-- a part of a node that nothing follows is in the arena, and no later than r
pub part_within : (nodes : List Node) (w : List ℕ) (r x c : ℕ) (node : Node) → IsArena nodes → IsLastIn nodes r x → slice_get nodes x ≡ Some node → IsPart node c → (c < length nodes) × (c ≤ r)
part_within nodes w r x c node arena last is part = omega (arith, slice_get_within nodes x node is, last_inside nodes w r (one_start 0) arena x last, arena.below x c node is part)

module _ (nodes : List Node) (w : List ℕ) (r j x : ℕ) (a b : NodeId) (arena : IsArena nodes) (last : IsLastIn nodes r x) (is : slice_get nodes x ≡ Some (Seq a b)) where
  -- the left part is left exactly where the right one leads on to the end
  pub left_leaves : (k : ℕ) → CanLeave nodes w r (one_start j) a.index k ↔ HasSpan nodes w b.index k j
  left_leaves k =
      let out = CanLeave-part nodes w r (one_start j) arena x (last_inside nodes w r (one_start j) arena x last) a.index k (Seq a b) is (inl refl) in
      grind (arith, out, arena.distinct x (Seq a b) is, last-leaves nodes w r (one_start j) arena x, before_right, CanLeave-last nodes w r (one_start j) arena x j last)

  pub meets-cut : (i p : ℕ) → i ≤ p → MeetsAt nodes w r (one_start j) a.index (one_start i) p ↔ ((k : ℕ) × (p < k) × HasSpan nodes w a.index i k × HasSpan nodes w b.index k j)
  meets-cut =
      let inside = part_within nodes w r x a.index (Seq a b) arena last is (inl refl) in
      meets_from nodes w r a.index (one_start j) arena inside.0 inside.1 (λ k. HasSpan nodes w b.index k j) left_leaves

  -- what is decided of the places up to p where a cut is
  cut_at : (i p : ℕ) (M : ℕ → Type 0) → HasSpan nodes w x i j → i ≤ p → ((q : ℕ) → i ≤ q → q ≤ p → M q ↔ ((l : ℕ) × (q < l) × HasSpan nodes w a.index i l × HasSpan nodes w b.index l j)) →
      ((q : ℕ) → i ≤ q → q < p → M q) → (M p → ⊥) → LastCut (HasSpan nodes w a.index) (HasSpan nodes w b.index) i j p
  cut_at i p M at low shows more over =
      grind (arith, open_at nodes w x (Seq a b) arena is i j at, first_stop (HasSpan nodes w a.index i) (λ k. HasSpan nodes w b.index k j) M i p, Matches-forward, low, shows, more, over)

  -- so a pass over a that goes on while they meet stops at the greatest cut
  pub stops_at_cut : (i p : ℕ) → HasSpan nodes w x i j → CeasesAt nodes w r (one_start j) a.index i p → LastCut (HasSpan nodes w a.index) (HasSpan nodes w b.index) i j p
  stops_at_cut i p at stops = cut_at i p (MeetsAt nodes w r (one_start j) a.index (one_start i)) at stops.0 (λ q low up. meets-cut i q low) stops.1 stops.2

module _ (nodes : List Node) (w : List ℕ) (r j x : ℕ) (a : NodeId) (first : Bool) (arena : IsArena nodes) (last : IsLastIn nodes r x) (is : slice_get nodes x ≡ Some (Star a first)) where
  -- a copy is left exactly where copies lead on to the end
  pub copy_leaves : (k : ℕ) → CanLeave nodes w r (one_start j) a.index k ↔ CopiesLead (HasSpan nodes w a.index) j k
  copy_leaves k =
      let out = CanLeave-part nodes w r (one_start j) arena x (last_inside nodes w r (one_start j) arena x last) a.index k (Star a first) is refl in
      grind (arith, out, last-leaves nodes w r (one_start j) arena x, open_at nodes w x (Star a first) arena is k j, before_copies, CanLeave-last nodes w r (one_start j) arena x j last, close_at nodes w x (Star a first) arena is k j)

  -- a pass over a copy stops at the greatest end from which copies lead on
  pub stops_at_copy : (i p : ℕ) → HasSpan nodes w x i j → i < j → CeasesAt nodes w r (one_start j) a.index i p → NextCopy (HasSpan nodes w a.index) i j p
  stops_at_copy i p at some stops =
      let R = HasSpan nodes w a.index in
      let one = first_copy R j i (open_at nodes w x (Star a first) arena is i j at) some in
      let inside = part_within nodes w r x a.index (Star a first) arena last is refl in
      let stop = stops_at nodes w r a.index (one_start j) arena inside.0 inside.1 (CopiesLead R j) copy_leaves i p one.0 (omega (arith, one.1)) one.2 one.3 stops in
      search (rules, stop, one.1, stop.2 one.0 one.2 one.3, CopiesLead-forward R j p)

-- the last copy begins where the walk from copy to copy comes to the end
pub copy_walk : (R : ℕ → ℕ → Type 0) (i j k c : ℕ) → NextCopy R i j k → ((k < j) × LastCopy R j k c) ⊎ ((k ≡ j) × (c ≡ i)) → LastCopy R j i c
copy_walk R i j k c next out = grind (arith, then_copy, only)

-- a node that is marked at each place from i up to p, and takes a byte, spans that part copy after copy
run_copies : (nodes : List Node) (w : List ℕ) (r c : ℕ) (t : Starts) (members : List Bool) → IsArena nodes → slice_get nodes c ≡ Some (Set members) →
    (n i q : ℕ) → q ≡ i + n → ((l : ℕ) → i ≤ l → l < q → ReachesEnd nodes w r t c l) → CopiesLead (HasSpan nodes w c) q i
run_copies nodes w r c t members arena is zero i q sum marked = search (rules, no_copy)
run_copies nodes w r c t members arena is (suc n) i q sum marked =
    grind (arith, marked (i + n), open_at nodes w c (Set members) arena is (i + n), CopiesLead-append (HasSpan nodes w c) (i + n) i q, run_copies nodes w r c t members arena is n i (i + n), marked)

-- the repetition in a run: it is entered, left and spanned as the run is
module _ (nodes : List Node) (w : List ℕ) (r : ℕ) (t : Starts) (root : ℕ) (s : Starts) (c : ℕ) (arena : IsArena nodes) where
  abbrev Within : ℕ → Type 0
  Within a =
      (y : ℕ) × IsRepetitionOf nodes y c × ((i : ℕ) → Enters nodes w root s a i → Enters nodes w root s y i) × ((k : ℕ) → CanLeave nodes w r t a k → CanLeave nodes w r t y k)
      × ((i k : ℕ) → HasSpan nodes w a i k → HasSpan nodes w y i k)

  run_within : (a : ℕ) → IsRunOf nodes c a → Within a
  run_within a (repeated _ repeats) = (a, repeats, λ i e. e, λ k l. l, λ i k at. at)
  run_within a (in_group _ g b is inner) =
      let deep = run_within b.index inner in
      (deep.0, deep.1, search (rules, deep.2, with_whole), search (rules, deep.3, with_end), search (rules, deep.4, open_at nodes w a (Group g b) arena is))

module _ (nodes : List Node) (w : List ℕ) (r j x : ℕ) (a b : NodeId) (arena : IsArena nodes) (last : IsLastIn nodes r x) (is : slice_get nodes x ≡ Some (Seq a b))
    (c : ℕ) (members : List Bool) (run : IsRunOf nodes c a.index) (is_set : slice_get nodes c ≡ Some (Set members)) where
  -- while the set is marked, its mark shows whether there is a later cut
  run_decides : (i q : ℕ) → i ≤ q → ((l : ℕ) → i ≤ l → l < q → ReachesEnd nodes w r (one_start j) c l) →
      ReachesEnd nodes w r (one_start j) c q ↔ ((l : ℕ) × (q < l) × HasSpan nodes w a.index i l × HasSpan nodes w b.index l j)
  run_decides i q low marked =
      let star = run_within nodes w r (one_start j) a.index (one_start i) c arena a.index run in
      let y = star.0 in
      let of = star.1 in (
        λ h.
            let at = (star_copies nodes w y c i q arena of).1 (run_copies nodes w r c (one_start j) members arena is_set (q - i) i q (omega arith) marked) in
            (meets-cut nodes w r j x a b arena last is i q low).0 (search (rules, is_set, again, of.2, of.3, star.2 i, at_root, at, h)),
        λ g.
            let leaves = star.3 g.0 ((left_leaves nodes w r j x a b arena last is g.0).1 g.3) in
            CopiesLead-cross (HasSpan nodes w c) (λ u. Unit {0}) (ReachesEnd nodes w r (one_start j) c q) q g.0
            (λ u v _ copy rest up on. search (rules, (open_at nodes w c (Set members) arena is_set u v copy).3, before_copies y c v g.0 of.0 of.1 of.2 of.3 leaves ((star_copies nodes w y c v g.0 arena of).1 rest)))
            (search rules) i ((star_copies nodes w y c i g.0 arena of).0 (star.4 i g.0 g.2)) tt low g.1,
      )

  -- the greatest cut after a repetition of one set is the first place at which the set isn't marked
  pub run_stops : (i p : ℕ) → HasSpan nodes w x i j → i ≤ p → ((q : ℕ) → i ≤ q → q < p → ReachesEnd nodes w r (one_start j) c q) → (ReachesEnd nodes w r (one_start j) c p → ⊥) → LastCut (HasSpan nodes w a.index) (HasSpan nodes w b.index) i j p
  run_stops i p at up marked over =
      cut_at nodes w r j x a b arena last is i p (ReachesEnd nodes w r (one_start j) c) at up (λ q low on. run_decides i q low (λ l low' lt. marked l low' (omega arith))) marked over
