-- What becomes of one group of a match while all are decided from its end; so decided, they are those decided from the left.
use Rattle.sedpass.proofs.Words.{rules, ◌≡◌, ℕ, suc, ◌<◌, ◌≤◌, Bool, true, false, List, [], ◌∷◌, length, Option, None, Some, refl, inl, inr, arith, replicate, eqb, slice_get, slice_set, slice_index_or, option_or, then_some, is_some, not, ◌&&◌, cond, cases_Bool, cases_lt, get_or-set_same, get_or-set_other, length-set, slice_get_past, unwrap_or-slice_get, Tree, null_string, byte_of, text_begin, text_end, sequence, either_of, grouped, any_copies, one_or_none, SpansOfGroups, forget, no_groups, groups_after, Captures, LastCopy, LastCut, only, then_copy, IsReport, Matches, groups_after-is, get_or_past, eqb_tells, Captures-unique, GroupState, is_due, settle, drop_groups, GroupIsIn, WalkEnters, IsFirstState, has_group, NoneDue, EntersGroups, TakesAtLeast, NoGroups}

abbrev Span : Type 0
Span = Option (ℕ × ℕ)

-- the entry of the group, if there is one, after nothing or this is done to it
abbrev pub lay : Option Span → Option Span → Option Span
lay (Some v) (Some u) = Some u
lay x d = x

-- this becomes of group k from one state to the other
pub record Takes (k : ℕ) (d : Option Span) (old new : GroupState) : Type 0 where
  pub due : is_due new k ≡ (not (is_some d) && is_due old k)
  pub span : slice_get new.spans k ≡ cond (is_due old k) (lay (slice_get old.spans k) d) (slice_get old.spans k)
  pub long : length new.due ≡ length old.due

-- the last copy
pub copy_spans : (R : ℕ → ℕ → Type 0) (j i c : ℕ) → LastCopy R j i c → (i ≤ c) × (c < j) × R c j
copy_spans R j i c (only _ lt r) = (omega arith, lt, r)
copy_spans R j i c (then_copy _ k _ up low r rest most last) = let later = copy_spans R j k c last in (omega arith, later.1, later.2)

-- one group is set
set_at : (n k : ℕ) (v : Span) (g : SpansOfGroups) → slice_get (slice_set g n v) k ≡ lay (slice_get g k) (then_some (eqb n k) v)
set_at n k v [] = refl
set_at (suc n) (suc k) v (x ∷ g) = search (rules, eqb_tells n k, eqb_tells (suc n) (suc k), set_at n k v g)
set_at n k v (x ∷ g) = search rules

pub set_due : (n k : ℕ) (v : Span) (due : List Bool) → slice_index_or (slice_set due n false) k false ≡ (not (is_some (then_some (eqb n k) v)) && slice_index_or due k false)
set_due n k v due = search (rules, eqb_tells n k, cases_lt n (length due), get_or-set_same, get_or-set_other, get_or_past, length-set)

pub settle_takes : (n k : ℕ) (v : Span) (s : GroupState) → Takes k (then_some (eqb n k) v) s (settle n v s)
settle_takes n k v s = grind (arith, eqb_tells n k, cases_Bool (is_due s n), set_due, set_at, length-set)

-- the groups of an expression are dropped, and forgotten
pub drops : (t : Tree) (k : ℕ) (g : SpansOfGroups) → (slice_get (forget t g) k ≡ lay (slice_get g k) (then_some (has_group t k) None)) × ((s : GroupState) → Takes k (then_some (has_group t k) None) s (drop_groups t s))
drops (sequence a b) k g = search (rules, drops a k g, drops b k (forget a g))
drops (either_of a b) k g = search (rules, drops a k g, drops b k (forget a g))
drops (grouped n a) k g = search (rules, set_at n k None g, drops a k (slice_set g n None), settle_takes n k None)
drops (any_copies a first) k g = drops a k g
drops (one_or_none a first) k g = drops a k g
drops other k g = search rules

module _ (k : ℕ) (w : List ℕ) where
  -- a match, its groups decided from the left, leaves other groups as they are
  captured : (e : Tree) (i j : ℕ) (g h : SpansOfGroups) → Captures e w i j g h → slice_get h k ≡ lay (slice_get g k) (cond (has_group e k) (slice_get h k) None)
  captured (sequence a b) i j g h c = search (rules, captured a i c.0 g c.2.0 c.2.1, captured b c.0 j c.2.0 h c.2.2)
  captured (either_of a b) i j g h c = search (rules, captured a i j g h, captured b i j g h)
  captured (grouped n a) i j g h c = search (rules, captured a i j (forget (grouped n a) g) c.0 c.1, drops (grouped n a) k g, set_at n k (Some (i, j)) c.0)
  captured (any_copies a first) i j g h c = search (rules, captured a, drops a k g)
  captured (one_or_none a first) i j g h c = search (rules, captured a, drops a k g)
  captured other i j g h c = search rules

  -- a walk over the match does the same to what is due: this becomes of entry k, and of group k
  abbrev Ends : Tree → ℕ → ℕ → SpansOfGroups → GroupState → GroupState → Type 0
  Ends e i j g old new = (h : SpansOfGroups) × Captures e w i j g h × (d : Option Span) × (slice_get h k ≡ lay (slice_get g k) d) × Takes k d old new

  both : (a b : Tree) (i j c : ℕ) (g : SpansOfGroups) (old mid new : GroupState) → LastCut (Matches a w) (Matches b w) i j c → (one : Ends a i c g mid new) → Ends b c j one.0 old mid → Ends (sequence a b) i j g old new
  both a b i j c g old mid new cut one two = (two.0, (c, cut, (one.0, one.1, two.1)), option_or two.2 one.2, search rules, search rules)

  inside : (a e : Tree) (i j c d : ℕ) (g : SpansOfGroups) (old mid new : GroupState) → new ≡ drop_groups a mid → ((h : SpansOfGroups) → Captures a w c d (forget a g) h → Captures e w i j g h) → Ends a c d (forget a g) old mid → Ends e i j g old new
  inside a e i j c d g old mid new is wrap one = (one.0, wrap one.0 one.1, option_or one.2 (then_some (has_group a k) None), search (rules, one.3, drops a k g), search (rules, one.4, (drops a k g).1 mid))

  enclosed : (n : ℕ) (a : Tree) (i j : ℕ) (g : SpansOfGroups) (old mid new : GroupState) → new ≡ drop_groups a mid → Ends a i j (forget (grouped n a) g) (settle n (Some (i, j)) old) mid → Ends (grouped n a) i j g old new
  enclosed n a i j g old mid new is one =
      let v = Some (i, j) in
      (slice_set one.0 n v, (one.0, one.1, refl), option_or (then_some (eqb n k) v) (option_or one.2 (then_some (has_group a k) None)), search (rules, drops (grouped n a) k g, set_at), search (rules, one.4, settle_takes n k v old, (drops a k g).1 mid))

  walked : (e : Tree) (i j n : ℕ) (old new : GroupState) → Matches e w i j → WalkEnters e w i j old new n → (g : SpansOfGroups) → Ends e i j g old new
  walked null_string i j n old new spans walk g = (g, refl, None, search rules, search rules)
  walked (byte_of has) i j n old new spans walk g = (g, refl, None, search rules, search rules)
  walked text_begin i j n old new spans walk g = (g, refl, None, search rules, search rules)
  walked text_end i j n old new spans walk g = (g, refl, None, search rules, search rules)
  walked other i j n old new spans (inl by) g =
      let c = groups_after-is other w i j g spans in
      (groups_after other w i j g, c, cond (has_group other k) (slice_get (groups_after other w i j g) k) None, captured other i j g (groups_after other w i j g) c, search (rules, by.0 k, cases_Bool (has_group other k)))
  walked (sequence a b) i j n old new spans (inr (p, q, is, c, cut, mid, second, first)) g =
      let one = walked a i c q mid new cut.left first g in
      both a b i j c g old mid new cut one (walked b c j p old mid cut.right second one.0)
  walked (either_of a b) i j n old new spans (inr (p, is, inl (at, walk))) g = let one = walked a i j p old new at walk g in (one.0, inl (at, one.1), one.2, one.3, one.4)
  walked (either_of a b) i j n old new spans (inr (p, is, inr (not, walk))) g = let one = walked b i j p old new (search rules) walk g in (one.0, inr (not, one.1), one.2, one.3, one.4)
  walked (grouped m a) i j n old new spans (inr (p, is, mid, walk, last)) g =
      enclosed m a i j g old mid new last (walked a i j p (settle m (Some (i, j)) old) mid spans walk (forget (grouped m a) g))
  walked (any_copies a first) i j n old new spans (inr (p, is, inl (lt, c, copy, mid, walk, last))) g =
      inside a (any_copies a first) i j c j g old mid new last (λ h one. inl (lt, (c, copy, one))) (walked a c j p old mid (copy_spans (Matches a w) j i c copy).2 walk (forget a g))
  walked (any_copies a first) i j n old new spans (inr (p, is, inr (inl (same, yes_first, at, mid, walk, last)))) g =
      inside a (any_copies a first) i j i i g old mid new last (λ h one. inr (inl (same, yes_first, at, one))) (walked a i i p old mid at walk (forget a g))
  walked (any_copies a first) i j n old new spans (inr (p, is, inr (inr (same, not, still_is, none)))) g = (g, inr (inr (same, (not, refl))), None, search rules, search rules)
  walked (one_or_none a first) i j n old new spans (inr (p, is, inl (lt, mid, walk, last))) g =
      inside a (one_or_none a first) i j i j g old mid new last (λ h one. inl (lt, one)) (walked a i j p old mid (search rules) walk (forget a g))
  walked (one_or_none a first) i j n old new spans (inr (p, is, inr (inl (same, yes_first, at, mid, walk, last)))) g =
      inside a (one_or_none a first) i j i i g old mid new last (λ h one. inr (inl (same, yes_first, at, one))) (walked a i i p old mid at walk (forget a g))
  walked (one_or_none a first) i j n old new spans (inr (p, is, inr (inr (same, not, still_is, none)))) g = (g, inr (inr (same, (not, refl))), None, search rules, search rules)

pub same_lists : {X : Type 0} (xs ys : List X) → ((k : ℕ) → slice_get xs k ≡ slice_get ys k) → xs ≡ ys
same_lists [] [] each = refl
same_lists (x ∷ xs) (y ∷ ys) each = search (rules, each 0, same_lists xs ys (λ k. each (suc k)))
same_lists xs ys each = search (rules, each 0)

-- from a state with the match's span alone, in which all groups of the expression are due, all entries are those of the report
pub walk_report : (e : Tree) (w : List ℕ) (i j n : ℕ) (old new : GroupState) → IsFirstState e i j old → Matches e w i j → WalkEnters e w i j old new n → IsReport e w i j new.spans
walk_report e w i j n old new start spans walk =
    let first = walked 0 w e i j n old new spans walk no_groups in
    let each : new.spans ≡ slice_set first.0 0 (Some (i, j)) = same_lists _ _ (λ k.
    let one = walked k w e i j n old new spans walk no_groups in
    let same = Captures-unique e w i j no_groups one.0 first.0 one.1 first.1 in
    search (rules, captured k w e i j no_groups first.0 first.1, one.3, one.4.span, start.whole, start.each k, start.none, set_at 0 k (Some (i, j)) first.0, slice_get_past no_groups k)) in
    (first.0, first.1, each)

-- where what is due has no span, to drop the groups of a tree changes none
pub drop_spans : (t : Tree) (s : GroupState) → ((k : ℕ) → is_due s k ≡ true → slice_index_or s.spans k None ≡ None) → s.spans ≡ (drop_groups t s).spans
drop_spans t s blank = same_lists s.spans (drop_groups t s).spans (λ k. search (rules, ((drops t k []).1 s).span, unwrap_or-slice_get s.spans k None, blank k))

-- a walk passes by what has no group that is due
pub passes_by : (e : Tree) (w : List ℕ) (i j : ℕ) (s : GroupState) → NoneDue e s → WalkEnters e w i j s s 0
passes_by null_string w i j s none = (refl, refl)
passes_by other w i j s none = search rules

pub enters_later : (e : Tree) (w : List ℕ) (i j a b c : ℕ) → a ≤ b → EntersGroups e w i j b c → EntersGroups e w i j a c
unfolding TakesAtLeast
enters_later e w i j a b c up enters = search rules

groupless : (e : Tree) → NoGroups e → (k : ℕ) → GroupIsIn e k → ⊥
groupless (sequence a b) none k has = search (rules, groupless a none.0 k, groupless b none.1 k)
groupless (either_of a b) none k has = search (rules, groupless a none.0 k, groupless b none.1 k)
groupless (any_copies a first) none k has = groupless a none k has
groupless (one_or_none a first) none k has = groupless a none k has
groupless other none k has = search rules

-- where an expression has no group nothing is entered
pub enters_nothing : (e : Tree) (w : List ℕ) (i j s : ℕ) → NoGroups e → EntersGroups e w i j s s
unfolding TakesAtLeast
enters_nothing e w i j s none =
    let start : GroupState = record { due = []; spans = Some (i, j) ∷ replicate 9 None } in
    (start, search (rules, groupless e none), record { last = start; n = 0; walk = search (rules, passes_by e w i j start); counts = omega arith })
