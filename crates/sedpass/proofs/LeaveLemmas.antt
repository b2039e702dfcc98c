-- How a part is left, by what follows it in its node, and what a node is left to that nothing follows.
use Rattle.sedpass.proofs.Words.{rules, ◌≡◌, ℕ, ◌+◌, ◌-◌, ◌<◌, ◌≤◌, ◌⊎◌, ◌↔◌, true, List, length, reverse, Some, refl, inl, arith, slice_get, IsArena, IsPart, WrittenExpression, tree_at, mirror_node, seen, seen-node, old_node, Node, Seq, Alt, Group, Star, Opt, Starts, no_copy, HasSpan, BeginsWith, IsStart, Enters, at_root, with_whole, after_left, again, CanEnd, Matches-forward, close_at, same_node, HasSpan-mirror, EndsWith, CanLeave, at_end, with_end, before_right, before_copies, ReachesEnd, EndsPastIn, IsLastPart, IsLastIn, all_of, last_of}

-- the starts s, counted from the end of n bytes, are the places t
abbrev pub Opposite : ℕ → Starts → Starts → Type 0
Opposite n s t = (i d : ℕ) → i + d ≡ n → IsStart s d ↔ IsStart t i

-- how the part c of the node at y is left at i
abbrev pub OutOf : List Node → List ℕ → ℕ → Starts → ℕ → ℕ → ℕ → Node → Type 0
OutOf nodes w r t y c i (Seq a b) =
    ((b.index ≡ c) × CanLeave nodes w r t y i) ⊎ ((a.index ≡ c) × ((k : ℕ) × CanLeave nodes w r t y k × HasSpan nodes w b.index i k))
OutOf nodes w r t y c i (Alt a b) = CanLeave nodes w r t y i
OutOf nodes w r t y c i (Group k a) = CanLeave nodes w r t y i
OutOf nodes w r t y c i (Star a first) = (k : ℕ) × CanLeave nodes w r t y k × HasSpan nodes w y i k
OutOf nodes w r t y c i (Opt a first) = CanLeave nodes w r t y i
OutOf nodes w r t y c i other = ⊥

EndsWith-part : (node : Node) (c : ℕ) → EndsWith node c → IsPart node c
EndsWith-part node c h = grind arith

IsLastPart-ends : (node : Node) (c : ℕ) → IsLastPart node c → EndsWith node c
IsLastPart-ends node c h = grind arith

module _ (nodes : List Node) (w : List ℕ) (r : ℕ) (t : Starts) (arena : IsArena nodes) where
  -- a part is left through its node alone
  pub CanLeave-part : (y : ℕ) → y ≤ r → (c i : ℕ) (node : Node) → slice_get nodes y ≡ Some node → IsPart node c → CanLeave nodes w r t c i → OutOf nodes w r t y c i node
  CanLeave-part y le c i node is part (at_end _ _ last stop) = search rules
  CanLeave-part y le c i node is part (with_end z _ _ other is' ends l) = grind (arith, same_node nodes arena z y c other node, EndsWith-part, close_at nodes w y node arena is i i, no_copy)
  CanLeave-part y le c i node is part (before_right z _ _ k a b is' left l at) = search (rules, same_node nodes arena z y c (Seq a b) node is' is (inl left) part)
  CanLeave-part y le c i node is part (before_copies z _ _ k a first is' inner l at) = search (rules, same_node nodes arena z y c (Star a first) node is' is inner part)

  -- only r and nodes below it are left, r at the ends alone, and nothing after the last end
  pub CanLeave-all : (x i : ℕ) → CanLeave nodes w r t x i → (x ≤ r) × (x ≡ r → IsStart t i) × (i ≤ t.last)
  CanLeave-all x i (at_end _ _ last stop) = search rules
  CanLeave-all x i (with_end z _ _ other is' ends l) = search (rules, CanLeave-all z i l, arena.below z x other is' (EndsWith-part other x ends))
  CanLeave-all x i (before_right z _ _ k a b is' left l at) = grind (arith, CanLeave-all z k l, arena.below z x (Seq a b), Matches-forward (tree_at nodes b.index) w i k)
  CanLeave-all x i (before_copies z _ _ k a first is' inner l at) = grind (arith, CanLeave-all z k l, arena.below z x (Star a first), Matches-forward (tree_at nodes z) w i k)

  pub last_inside : (x : ℕ) → IsLastIn nodes r x → x ≤ r
  last_inside x (all_of _ same) = omega arith
  last_inside x (last_of y _ node is last up) = search (rules, last_inside y up, arena.below y x node is, EndsWith-part node x, IsLastPart-ends node x last)

  -- a node that nothing follows is left at the ends, and nowhere else
  pub CanLeave-last : (x i : ℕ) → IsLastIn nodes r x → IsStart t i → CanLeave nodes w r t x i
  CanLeave-last x i (all_of _ same) stop = at_end x i same stop
  CanLeave-last x i (last_of y _ node is last up) stop = with_end y x i node is (IsLastPart-ends node x last) (CanLeave-last y i up stop)

  pub last-leaves : (x i : ℕ) → IsLastIn nodes r x → CanLeave nodes w r t x i → IsStart t i
  last-leaves x i (all_of _ same) l = (CanLeave-all x i l).1 same
  last-leaves x i (last_of y _ node is last up) l = grind (arith, last-leaves y i up, arena.distinct y node is, CanLeave-part y (last_inside y up) x i node is, EndsWith-part node x, IsLastPart-ends node x)

-- a node that is last in r is marked exactly where it matches up to one of the ends
pub reaches_ends : (nodes : List Node) (w : List ℕ) (r x p : ℕ) (t : Starts) → IsArena nodes → IsLastIn nodes r x →
    ReachesEnd nodes w r t x p ↔ ((k : ℕ) × IsStart t k × HasSpan nodes w x p k × ((p < k) ⊎ (x ≡ r)))
reaches_ends nodes w r x p t arena last = (λ h. (h.0, last-leaves nodes w r t arena x h.0 last h.2, h.1, h.3), λ h. (h.0, h.2, CanLeave-last nodes w r t arena x h.0 last h.1, h.3))

-- a node ends with a byte, and r without one too
pub ends_at : (nodes : List Node) (w : List ℕ) (r x q : ℕ) (s : Starts) → EndsPastIn nodes w r s x q ↔ (CanEnd nodes w r s x q ⊎ ((x ≡ r) × (Enters nodes w r s x q × HasSpan nodes w x q q)))
ends_at nodes w r x q s = (λ h. search (rules, Matches-forward (tree_at nodes x) w h.0 q h.2), λ h. search rules)

-- a part that begins where the node does ends where the mirrored one does, and the other way about
sides : (node : Node) (c : ℕ) → (BeginsWith node c → EndsWith (mirror_node node) c) × (EndsWith node c → BeginsWith (mirror_node node) c)
sides node c = grind arith

pub twice : (node : Node) → mirror_node (mirror_node node) ≡ node
twice node = grind arith

-- the ends t of the expression are the starts s of the mirrored one
module _ (e : WrittenExpression) (w : List ℕ) (r : ℕ) (s t : Starts) (arena : IsArena e.nodes) (opposite : Opposite (length w) s t) (inside : t.last ≤ length w) where
  -- the node as it is, of the mirrored one
  unmirrored : (y : ℕ) (node : Node) → slice_get (seen true e).nodes y ≡ Some node → slice_get e.nodes y ≡ Some (mirror_node node)
  unmirrored y node is = search (rules, old_node, twice)

  span_in : (x i k d g : ℕ) → i + d ≡ length w → k + g ≡ length w → HasSpan e.nodes w x i k ↔ HasSpan (seen true e).nodes (reverse w) x g d
  span_in x i k d g = HasSpan-mirror e (seen true e) w (reverse w) x i k d g refl refl

  -- a way out is a way in from the other end
  pub CanLeave-mirror : (x i : ℕ) → CanLeave e.nodes w r t x i → (d : ℕ) → i + d ≡ length w → Enters (seen true e).nodes (reverse w) r s x d
  CanLeave-mirror x i (at_end _ _ last stop) d sum = at_root x d last ((opposite i d sum).1 stop)
  CanLeave-mirror x i (with_end y _ _ node is ends l) d sum = search (rules, with_whole, seen-node true e y node is, sides node x, CanLeave-mirror y i l)
  CanLeave-mirror x i (before_right y _ _ k a b is left l at) d sum =
      search (rules, after_left, seen-node true e y (Seq a b) is, CanLeave-mirror y k l (length w - k), CanLeave-all e.nodes w r t arena y k l, span_in b.index i k d (length w - k))
  CanLeave-mirror x i (before_copies y _ _ k a first is inner l at) d sum =
      search (rules, again, seen-node true e y (Star a first) is, CanLeave-mirror y k l (length w - k), CanLeave-all e.nodes w r t arena y k l, span_in y i k d (length w - k))

  pub CanLeave-unmirror : (x d : ℕ) → Enters (seen true e).nodes (reverse w) r s x d → (i : ℕ) → i + d ≡ length w → CanLeave e.nodes w r t x i
  CanLeave-unmirror x d (at_root _ _ last start) i sum = at_end x i last ((opposite i d sum).0 start)
  CanLeave-unmirror x d (with_whole y _ _ node is begins enters) i sum = search (rules, with_end, unmirrored y node is, sides node x, CanLeave-unmirror y d enters)
  CanLeave-unmirror x d (after_left y _ g _ a b is right enters at) i sum =
      search (rules, before_right, unmirrored y (Seq a b) is, CanLeave-unmirror y g enters (length w - g), span_in a.index i (length w - g) d g, Matches-forward (tree_at (seen true e).nodes a.index) (reverse w) g d at)
  CanLeave-unmirror x d (again y _ g _ a first is inner enters at) i sum =
      search (rules, before_copies, unmirrored y (Star a first) is, CanLeave-unmirror y g enters (length w - g), span_in y i (length w - g) d g, Matches-forward (tree_at (seen true e).nodes y) (reverse w) g d at)

  -- so a mark is one of a pass of the mirrored expression over the text read from its end
  pub reaches_mirror : (x p d : ℕ) → p + d ≡ length w → ReachesEnd e.nodes w r t x p ↔ EndsPastIn (seen true e).nodes (reverse w) r s x d
  reaches_mirror x p d sum = (
    λ h. search (rules, CanLeave-mirror x h.0 h.2 (length w - h.0), CanLeave-all e.nodes w r t arena x h.0 h.2, span_in x p h.0 d (length w - h.0), h),
    λ h. search (rules, CanLeave-unmirror x h.0 h.1 (length w - h.0), Matches-forward (tree_at (seen true e).nodes x) (reverse w) h.0 d h.2, span_in x p (length w - h.0) d h.0, h),
  )
