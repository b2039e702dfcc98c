-- How the marks at a place follow from what the leaves took, and what a row shows.
use Rattle.sedpass.proofs.Words.{rules, ◌≡◌, ◌≢◌, ℕ, ◌+◌, ◌<◌, ◌≤◌, ◌⊎◌, ◌↔◌, Bool, List, length, Option, Some, IsTrue, refl, sym, ◌∙◌, inl, inr, true≢false, true, false, ◌&&◌, ◌||◌, arith, slice_get, slice_index_or, reverse, cases_eq, lt-ltb, IsArena, IsPart, WrittenExpression, tree_at, mirror_node, seen, seen-node, old_node, Node, NodeId, Set, Seq, Alt, Group, Star, Opt, Starts, AgreeBelow, KeepsRows, row_of, HasSpan, IsStart, one_start, SomeSpan, BeginsWith, Enters, at_root, with_whole, after_left, again, CanEnd, Matches-forward, CopiesLead-append, CopiesLead-last, open_at, close_at, takes_some, FromNode, Enters-part, Enters-root, BeginsWith-part, both-iff, either-iff, ReachesEnd, MeetsAt, Took, SameBytes, InTree, is_tree, part_of, IsNodeRange, ended_by, AreWide, bits, ShowTook, RowOfPlace}
use Rattle.sedpass.proofs.LeaveLemmas.{reaches_mirror, Opposite}
use Rattle.sedpass.proofs.MeetingLemmas.{meets_whole}

-- no leaf is entered at the place
abbrev pub NoneEntered : List Node → List ℕ → ℕ → Starts → ℕ → Type 0
NoneEntered nodes w r s p = (c : ℕ) (members : List Bool) → slice_get nodes c ≡ Some (Set members) → Enters nodes w r s c p → ⊥

module _ (nodes : List Node) (w : List ℕ) (r : ℕ) (s : Starts) (arena : IsArena nodes) where
  -- a whole node ends where its part does that is entered with it alone
  up_with : (x j c : ℕ) (node : Node) → x ≤ r → slice_get nodes x ≡ Some node → IsPart node c →
      ((i : ℕ) → FromNode nodes w r s x c i node → Enters nodes w r s x i) → ((i : ℕ) → HasSpan nodes w c i j → HasSpan nodes w x i j) →
      CanEnd nodes w r s c j → CanEnd nodes w r s x j
  up_with x j c node le is part from whole end = search (rules, Enters-part)

  -- the left part of a concatenation is entered with it
  pub with_seq : (x i : ℕ) (a b : NodeId) → x ≤ r → slice_get nodes x ≡ Some (Seq a b) → Enters nodes w r s a.index i → Enters nodes w r s x i
  with_seq x i a b le is e = let ne = arena.distinct x (Seq a b) is in search (rules, sym, Enters-part nodes w r s arena x le a.index i (Seq a b) is (inl refl) e)

  -- the right part where the left one ends
  after_seq : (x i : ℕ) (a b : NodeId) → x ≤ r → slice_get nodes x ≡ Some (Seq a b) → Enters nodes w r s b.index i → (k : ℕ) × Enters nodes w r s x k × HasSpan nodes w a.index k i
  after_seq x i a b le is e = let ne = arena.distinct x (Seq a b) is in search (rules, Enters-part nodes w r s arena x le b.index i (Seq a b) is (inr refl) e)

  -- a repetition goes on with one more copy
  pub one_copy : (x j : ℕ) (a : NodeId) (first : Bool) → x ≤ r → slice_get nodes x ≡ Some (Star a first) → CanEnd nodes w r s a.index j →
      (i : ℕ) × (i < j) × Enters nodes w r s x i × HasSpan nodes w x i j
  one_copy x j a first le is end =
      let from = Enters-part nodes w r s arena x le a.index end.0 (Star a first) is refl end.2 in
      let copies = CopiesLead-append (HasSpan nodes w a.index) end.0 from.0 j (open_at nodes w x (Star a first) arena is from.0 end.0 from.2) end.1 end.3 in
      search (rules, Matches-forward (tree_at nodes x) w from.0 end.0 from.2, close_at nodes w x (Star a first) arena is from.0 j copies)

  -- and its last copy ends with it
  pub last_copy : (x i j : ℕ) (a : NodeId) (first : Bool) → slice_get nodes x ≡ Some (Star a first) → Enters nodes w r s x i → HasSpan nodes w x i j → (i ≡ j) ⊎ CanEnd nodes w r s a.index j
  last_copy x i j a first is e at = grind (arith, CopiesLead-last (HasSpan nodes w a.index) j i, open_at nodes w x (Star a first) arena is i j, again, close_at nodes w x (Star a first) arena is i)

  -- upwards: the mark of a node that ends with a byte, by those of its parts
  module _ (took : List Bool → Bool) (null ended : ℕ → Bool) (x j : ℕ) (le : x ≤ r) where
    pub ended_is : (node : Node) → slice_get nodes x ≡ Some node → ((m : List Bool) → node ≡ Set m → IsTrue (took m) ↔ Took nodes w r s j x m) →
        ((c : ℕ) → IsPart node c → IsTrue (null c) ↔ HasSpan nodes w c j j) → ((c : ℕ) → IsPart node c → IsTrue (ended c) ↔ CanEnd nodes w r s c j) → IsTrue (ended_by took null ended node) ↔ CanEnd nodes w r s x j
    ended_is (Set m) is takes nulls ends = grind (arith, takes m refl, open_at nodes w x (Set m) arena is, close_at nodes w x (Set m) arena is, takes_some)
    ended_is (Seq a b) is takes nulls ends =
        let truth = either-iff _ _ _ _ (ends b.index (inr refl)) (both-iff _ _ _ _ (ends a.index (inl refl)) (nulls b.index (inr refl))) in (
          λ h. search (rules, truth.0 h, after_seq, with_seq, close_at nodes w x (Seq a b) arena is, Matches-forward),
          λ h. let at = open_at nodes w x (Seq a b) arena is h.0 j h.3 in let same = cases_eq at.0 j in
              search (rules, h.1, truth.1, with_whole x a.index h.0 (Seq a b) is refl h.2, after_left x b.index h.0 at.0 a b is refl h.2 at.1, Matches-forward (tree_at nodes b.index) w at.0 j at.2),
        )
    ended_is (Alt a b) is takes nulls ends =
        let truth = either-iff _ _ _ _ (ends a.index (inl refl)) (ends b.index (inr refl)) in
        let close = λ (i : ℕ). close_at nodes w x (Alt a b) arena is i j in (
          λ h. search (rules, truth.0 h, up_with x j a.index (Alt a b) le is, up_with x j b.index (Alt a b) le is),
          λ h. search (rules, open_at nodes w x (Alt a b) arena is h.0 j h.3, truth.1, with_whole x a.index h.0 (Alt a b) is (inl refl) h.2, with_whole x b.index h.0 (Alt a b) is (inr refl) h.2),
        )
    ended_is (Group k a) is takes nulls ends =
        let part = ends a.index refl in
        let close = λ (i : ℕ). close_at nodes w x (Group k a) arena is i j in
        (λ h. search (rules, up_with x j a.index (Group k a) le is), λ h. search (rules, open_at nodes w x (Group k a) arena is h.0 j h.3, with_whole x a.index h.0 (Group k a) is refl h.2))
    ended_is (Star a first) is takes nulls ends = let part = ends a.index refl in search (rules, one_copy x j a first le is, last_copy)
    ended_is (Opt a first) is takes nulls ends =
        let part = ends a.index refl in
        let close = λ (i : ℕ). close_at nodes w x (Opt a first) arena is i j in
        (λ h. search (rules, up_with x j a.index (Opt a first) le is), λ h. search (rules, h.1, open_at nodes w x (Opt a first) arena is h.0 j h.3, with_whole x a.index h.0 (Opt a first) is refl h.2))
    ended_is other is takes nulls ends = search (rules, open_at nodes w x other arena is, true≢false)

  -- downwards: the mark of a part that is entered, by that of its node
  module _ (x p : ℕ) (le : x ≤ r) (here : Bool) (enters : IsTrue here ↔ Enters nodes w r s x p) where
    -- a part that is entered with its node alone
    pub with_node : (c : ℕ) (node : Node) → slice_get nodes x ≡ Some node → BeginsWith node c → (FromNode nodes w r s x c p node → Enters nodes w r s x p) → IsTrue here ↔ Enters nodes w r s c p
    with_node c node is begins alone = search (rules, with_whole, Enters-part, BeginsWith-part)

    pub right_part : (a b : NodeId) → slice_get nodes x ≡ Some (Seq a b) → (null ended : Bool) → (IsTrue null ↔ HasSpan nodes w a.index p p) → (IsTrue ended ↔ CanEnd nodes w r s a.index p) →
        IsTrue (ended || (here && null)) ↔ Enters nodes w r s b.index p
    right_part a b is null ended nulls ends =
        let truth = either-iff _ _ _ _ ends (both-iff _ _ _ _ enters nulls) in (
          λ h. elim (truth.0 h) [ inl end ↦ after_left x b.index end.0 p a b is refl (with_seq x end.0 a b le is end.2) end.3 | inr none ↦ after_left x b.index p p a b is refl none.0 none.1 ],
          λ h. let from = after_seq x p a b le is h in search (rules, cases_eq from.0 p, truth.1, with_whole x a.index from.0 (Seq a b) is refl from.1, Matches-forward (tree_at nodes a.index) w from.0 p from.2),
        )

    pub copy_part : (a : NodeId) (first : Bool) → slice_get nodes x ≡ Some (Star a first) → (ended : Bool) → (IsTrue ended ↔ CanEnd nodes w r s a.index p) → IsTrue (here || ended) ↔ Enters nodes w r s a.index p
    copy_part a first is ended ends = (
      λ h. let begin = λ (e : IsTrue here). with_whole x a.index p (Star a first) is refl (enters.0 e) in let copy = λ (e : IsTrue ended). one_copy x p a first le is (ends.0 e) in search (rules, again),
      λ h. let from = Enters-part nodes w r s arena x le a.index p (Star a first) is refl h in search (rules, last_copy x from.0 p a first is from.1 from.2, enters, ends),
    )

-- where no leaf is entered no match goes on
pub dead : (nodes : List Node) (w : List ℕ) (r p i k : ℕ) (s : Starts) → IsArena nodes → r < length nodes → NoneEntered nodes w r s p → IsStart s i → i ≤ p → p < k → HasSpan nodes w r i k → ⊥
dead nodes w r p i k s arena inside none start low high at = let met = meets_whole nodes w r p s (one_start k) arena inside in search (rules, met.1, none)

-- what the scans keep
pub InTree-inside : (nodes : List Node) → IsArena nodes → (r x : ℕ) → InTree nodes r x → x ≤ r
InTree-inside nodes arena r x (is_tree _ e) = omega arith
InTree-inside nodes arena r x (part_of y _ node is part up) = omega (arith, InTree-inside nodes arena r y up, arena.below y x node is part)

-- only nodes in r are entered
pub enters_tree : (nodes : List Node) (w : List ℕ) (r : ℕ) (s : Starts) (x j : ℕ) → Enters nodes w r s x j → InTree nodes r x
enters_tree nodes w r s x j (at_root _ _ e begin) = is_tree x e
enters_tree nodes w r s x j (with_whole y _ _ node is begins e) = part_of y x node is (BeginsWith-part node x begins) (enters_tree nodes w r s y j e)
enters_tree nodes w r s x j (after_left y _ i _ a b is right e at) = part_of y x (Seq a b) is (inr right) (enters_tree nodes w r s y i e)
enters_tree nodes w r s x j (again y _ i _ a first is inner e at) = part_of y x (Star a first) is inner (enters_tree nodes w r s y i e)

-- The row of a place, bit for bit.

pub bits_here : (m : ℕ) (marks : List Bool) (x : ℕ) → x < m → bits m marks x ≡ slice_index_or marks x false
bits_here m marks x less = search (rules, lt-ltb)

-- the root ends where a match does
pub row_root : (nodes : List Node) (w : List ℕ) (r p : ℕ) (s : Starts) (keeps : Bool) (entered ended : ℕ → Bool) → IsArena nodes → RowOfPlace nodes w r s keeps p entered ended → IsTrue (ended r) ↔ SomeSpan nodes w r s p
row_root nodes w r p s keeps entered ended arena row = search (rules, at_root, Enters-root)

pub row_empty : (nodes : List Node) (w : List ℕ) (r p : ℕ) (s : Starts) (keeps : Bool) (entered ended : ℕ → Bool) → RowOfPlace nodes w r s keeps p entered ended → ((c : ℕ) → entered c ≡ false) → NoneEntered nodes w r s p
row_empty nodes w r p s keeps entered ended row none c m is h = true≢false (sym ((row.leaves c).1 (m, is, h)) ∙ none c)

-- The least index in a node.

in_part : (nodes : List Node) (x a : ℕ) (node : Node) → slice_get nodes x ≡ Some node → IsPart node a → (c : ℕ) → InTree nodes a c → InTree nodes x c
in_part nodes x a node is part c (is_tree _ e) = search (rules, part_of, is_tree)
in_part nodes x a node is part c (part_of y _ other is' part' up) = search (rules, part_of, in_part nodes x a node is part y up)

-- a node in x is x, or in a part of it
by_part : (nodes : List Node) (x : ℕ) (node : Node) → slice_get nodes x ≡ Some node → (c : ℕ) → InTree nodes x c → (c ≡ x) ⊎ ((a : ℕ) × IsPart node a × InTree nodes a c)
by_part nodes x node is c (is_tree _ e) = inl e
by_part nodes x node is c (part_of y _ other is' part up) = search (rules, by_part nodes x node is y up, is_tree, part_of)

-- the nodes in x are those from low on, if it is so of each part
pub range_of : (nodes : List Node) (x low : ℕ) (node : Node) → slice_get nodes x ≡ Some node → low ≤ x → ((c : ℕ) → low ≤ c → c < x → (a : ℕ) × IsPart node a × InTree nodes a c) →
    ((a c : ℕ) → IsPart node a → InTree nodes a c → (low ≤ c) × (c < x)) → IsNodeRange nodes low x
range_of nodes x low node is small down up c = (λ h. search (rules, cases_eq c x, is_tree, in_part, down c), λ h. grind (arith, by_part nodes x node is c h, up))

-- The same of a mirrored expression.

pub part_mirror : (node : Node) (c : ℕ) → IsPart node c ↔ IsPart (mirror_node node) c
part_mirror node c = search rules

in_other : (nodes others : List Node) → ((y c : ℕ) (node : Node) → slice_get nodes y ≡ Some node → IsPart node c → (other : Node) × (slice_get others y ≡ Some other) × IsPart other c) → (r c : ℕ) → InTree nodes r c → InTree others r c
in_other nodes others same r c (is_tree _ at) = is_tree c at
in_other nodes others same r c (part_of y _ node is part up) = let other = same y c node is part in part_of y c other.0 other.1 other.2 (in_other nodes others same r y up)

pub mirror_range : (e : WrittenExpression) (low r : ℕ) → IsNodeRange e.nodes low r → IsNodeRange (seen true e).nodes low r
mirror_range e low r range c = (
  λ h. in_other e.nodes _ (λ y n node is part. search (rules, seen-node true e y node is, part_mirror)) r c ((range c).0 h),
  λ h. (range c).1 (in_other _ e.nodes (λ y n node is part. search (rules, old_node e.nodes y node is, part_mirror)) r c h),
)

-- what the row of a kept pass backwards shows
pub behind_reaches : (e : WrittenExpression) (w : List ℕ) (r x p d : ℕ) (u t : Starts) (entered ended : ℕ → Bool) → IsArena e.nodes → Opposite (length w) u t → t.last ≤ length w → p + d ≡ length w →
    RowOfPlace (seen true e).nodes (reverse w) r u true d entered ended → IsTrue (ended x) ↔ ReachesEnd e.nodes w r t x p
behind_reaches e w r x p d u t entered ended arena opposite inside sum row = search (rules, reaches_mirror e w r u t arena opposite inside x p d sum)

pub meet_rows : (e : WrittenExpression) (w : List ℕ) (r a p d : ℕ) (s u t : Starts) (keeps : Bool) (front front_ended entered behind : ℕ → Bool) → IsArena e.nodes → Opposite (length w) u t → t.last ≤ length w → p + d ≡ length w →
    RowOfPlace e.nodes w a s keeps p front front_ended → RowOfPlace (seen true e).nodes (reverse w) r u true d entered behind →
    ((c : ℕ) × IsTrue (front c) × IsTrue (behind c)) ↔ MeetsAt e.nodes w r t a s p
meet_rows e w r a p d s u t keeps front front_ended entered behind arena opposite inside sum forward_one reverse_any =
    let law = (λ (x : ℕ). behind_reaches e w r x p d u t entered behind arena opposite inside sum reverse_any) in search rules

-- The bits of a row.

pub bits_clear : (m : ℕ) (marks : List Bool) → ((c : ℕ) → c < m → slice_index_or marks c false ≡ false) → (c : ℕ) → bits m marks c ≡ false
bits_clear m marks clear c = search rules

-- marks that agree are the same bits
pub bits_agree : (m : ℕ) (marks other : List Bool) → AgreeBelow m marks other → bits m marks ≡ bits m other
bits_agree m marks other agree = search rules

-- a row shows, with the byte that came, which leaves took it
pub row_took : (nodes : List Node) (w : List ℕ) (r p : ℕ) (s : Starts) (keeps : Bool) (entered before : ℕ → Bool) (byte : Option ℕ) → SameBytes nodes (slice_get w p) byte → RowOfPlace nodes w r s keeps p entered before → ShowTook nodes w r s (p + 1) byte entered
row_took nodes w r p s keeps entered before byte bytes row c members inside is = search rules

-- Rows of marks.

pub keeps_then : (P Q R : ℕ → Type 0) (a b c : List (List Bool)) → ((q : ℕ) → R q → P q × Q q) → KeepsRows P a b → KeepsRows Q b c → KeepsRows R a c
keeps_then P Q R a b c less one two = search rules

-- there are still rows enough
pub still_wide : (P : ℕ → Type 0) (m state : ℕ) (old new : List (List Bool)) → KeepsRows P old new → AreWide m state old → AreWide m state new
still_wide P m state old new keeps wide = (wide.0, omega (arith, wide.1, keeps.len), λ q lt. omega (arith, keeps.lens q, wide.2 q (omega (arith, lt, keeps.len))))

-- two rows were copied, one after the other
pub copied_rows : (m n to last_to : ℕ) (mid new : List (List Bool)) (leaf last : List Bool) → n ≡ m → to ≢ last_to → AgreeBelow n (row_of mid to) leaf → KeepsRows (λ q. q ≢ last_to) mid new → AgreeBelow n (row_of new last_to) last →
    (bits m (row_of new to) ≡ bits m leaf) × (bits m (row_of new last_to) ≡ bits m last)
copied_rows m n to last_to mid new leaf last count apart one keeps two = search rules
