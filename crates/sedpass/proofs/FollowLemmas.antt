-- The row that follows from which leaves took a byte: that it is the place's, what two of them have together, and that scans find it.
use Rattle.sedpass.proofs.Words.{cases_eq, IfSome, None, marks_of, row_of, AreNull, Bool, CanEnd, EndsUpTo, Enters, Enters-root, EntersDownTo, InTree, IsArena, IsPart, IsStart, IsTrue, List, Node, Set, Option, RowFollows, RowOfPlace, Some, Starts, Took, and_from, node_at, true≢false, ap, arith, at_root, bits, ended_by, entered_by, false, has_mark, is_tree, le-leb, length, lt-ltb, ltb-true, part_of, refl, rules, slice_get, suc, ℕ, ◌+◌, ◌<◌, ◌∙◌, ◌||◌, ◌≡◌, ◌≤◌, ◌↔◌}
use Rattle.sedpass.proofs.ActLemmas.{HasEnds, HasLeaves, ended_by_more, entered_by_more, entered_is, same_truth}
use Rattle.sedpass.proofs.LeaveLemmas.{ends_at}
use Rattle.sedpass.proofs.RowLemmas.{InTree-inside, ended_is, enters_tree}

-- the row is that of a place, where those leaves took the byte before it
module _ (nodes : List Node) (w : List ℕ) (r p : ℕ) (s : Starts) (arena : IsArena nodes) (inside : r < length nodes) (keeps first : Bool) (null took : ℕ → Bool) (nulls : AreNull nodes w p null) (begins : IsTrue first ↔ IsStart s p)
    (takes : (c : ℕ) (members : List Bool) → InTree nodes r c → slice_get nodes c ≡ Some (Set members) → IsTrue (took c) ↔ Took nodes w r s p c members) (entered ended : ℕ → Bool) (f : RowFollows nodes r keeps first null took entered ended) where
  up_below : (n x : ℕ) → x < n → InTree nodes r x → IsTrue (f.ends x) ↔ CanEnd nodes w r s x p
  up_below (suc n) x lt there =
      let low = InTree-inside nodes arena r x there in
      let here = node_at nodes x (omega (arith, low, inside)) in
      let below = λ (c : ℕ) (part : IsPart here.0 c). arena.below x c here.0 here.1 part in
      rw (f.up x here.0 there here.1) (ended_is nodes w r s arena (λ m. took x) null f.ends x p low here.0 here.1 (λ m same. takes x m there (here.1 ∙ ap (λ k. Some k) same))
      (λ c part. nulls c (omega (arith, low, inside, below c part))) (λ c part. up_below n c (omega (arith, lt, below c part)) (part_of x c here.0 here.1 part there)))
  up_below n x lt there = absurd (omega (arith, lt))

  down_all : (c : ℕ) → InTree nodes r c → IsTrue (f.begins c) ↔ Enters nodes w r s c p
  down_all c (is_tree _ e) = search (rules, f.root, at_root, Enters-root)
  down_all c (part_of y _ node is part up) =
      let yr = InTree-inside nodes arena r y up in
      rw (f.down y c node up is part) (entered_is nodes w r y p s arena yr (f.begins y) (down_all y up) null f.ends node is
      (λ n at. nulls n (omega (arith, yr, inside, arena.below y n node is at))) (λ n at. up_below (n + 1) n (omega arith) (part_of y n node is at up)) c part)

  pub row_of_place : RowOfPlace nodes w r s keeps p entered ended
  row_of_place = record {
    leaves = λ c. search (rules, f.leaves c, down_all c, enters_tree);
    ends = λ c. search (rules, ends_at nodes w r c p s, f.ended_is c, up_below (c + 1) c (omega arith), at_root, Enters-root, nulls r inside, enters_tree, is_tree);
  }

-- where null strings are the same, and as many took the byte, the same follows
same_follows : (nodes : List Node) (r : ℕ) (keeps first : Bool) (null same_null took other entered ended : ℕ → Bool) → ((x c : ℕ) (node : Node) → InTree nodes r x → slice_get nodes x ≡ Some node → IsPart node c → same_null c ≡ null c) → same_null r ≡ null r →
    ((c : ℕ) → InTree nodes r c → other c ≡ took c) → RowFollows nodes r keeps first null took entered ended → RowFollows nodes r keeps first same_null other entered ended
same_follows nodes r keeps first null same_null took other entered ended nulls root same f = record {
  begins = f.begins;
  ends = f.ends;
  root = f.root;
  down = λ x c node there is part. let at = λ (n : ℕ). nulls x n node there is in rw (f.down x c node there is part) (search rules);
  up = λ x node there is. let at = λ (n : ℕ). nulls x n node there is in rw (same x there, f.up x node there is) (search rules);
  leaves = f.leaves;
  ended_is = λ c. rw root (f.ended_is c);
}

-- where as many took the byte the same follows
pub took_same : (nodes : List Node) (r : ℕ) (keeps first : Bool) (null took other entered ended : ℕ → Bool) → ((c : ℕ) → InTree nodes r c → other c ≡ took c) → RowFollows nodes r keeps first null took entered ended → RowFollows nodes r keeps first null other entered ended
took_same nodes r keeps first null took other entered ended same f = same_follows nodes r keeps first null null took other entered ended (λ x c node there is part. refl) refl same f

-- where null strings are the same the same follows
pub null_same : (nodes : List Node) (r : ℕ) (keeps first : Bool) (null other took entered ended : ℕ → Bool) → IsArena nodes → r < length nodes → ((x : ℕ) → x < length nodes → other x ≡ null x) → RowFollows nodes r keeps first null took entered ended → RowFollows nodes r keeps first other took entered ended
null_same nodes r keeps first null other took entered ended arena inside same f =
    same_follows nodes r keeps first null other took took entered ended (λ x c node there is part. same c (omega (arith, InTree-inside nodes arena r x there, inside, arena.below x c node is part))) (same r inside) (λ c there. refl) f

-- the marks of a state that is there still
pub marks_kept : (base : Option ℕ) (row : ℕ → ℕ) (old new : List (List Bool)) (c : ℕ) → IfSome base (λ q. row_of new (row q) ≡ row_of old (row q)) → marks_of base row new c ≡ marks_of base row old c
marks_kept None row old new c same = refl
marks_kept (Some q) row old new c same = ap (λ marks. has_mark marks c) same

-- what follows from these leaves and from others follows from both
ended_both : (one two : Bool) (null f g : ℕ → Bool) (node : Node) → (ended_by (λ m. one) null f node || ended_by (λ m. two) null g node) ≡ ended_by (λ m. one || two) null (λ c. f c || g c) node
ended_both one two null f g node = grind arith

entered_both : (one two : Bool) (null f g : ℕ → Bool) (node : Node) (c : ℕ) → (entered_by one null f node c || entered_by two null g node c) ≡ entered_by (one || two) null (λ n. f n || g n) node c
entered_both one two null f g node c = grind arith

-- what follows from no leaf, where nothing begins
pub nothing : (nodes : List Node) (r : ℕ) (keeps : Bool) (null : ℕ → Bool) → RowFollows nodes r keeps false null (λ c. false) (λ c. false) (λ c. false)
nothing nodes r keeps null = record {
  begins = λ c. false;
  ends = λ c. false;
  root = refl;
  down = λ x c node there is part. grind arith;
  up = λ x node there is. grind arith;
  leaves = λ c. search (rules, true≢false);
  ended_is = λ c. search (rules, true≢false);
}

-- the marks that scans set, besides those of a row
module _ (nodes : List Node) (r : ℕ) (arena : IsArena nodes) (inside : r < length nodes) (keeps first begun : Bool) (null took other before before_ended : ℕ → Bool) (f : RowFollows nodes r keeps first null other before before_ended)
    (ended entered base leaves last : List Bool) (low : ℕ) (all : (c : ℕ) → InTree nodes r c → low ≤ c) (up : EndsUpTo nodes r took null ended r) (down : EntersDownTo nodes r begun null ended entered low (r + 1))
    (has : HasLeaves nodes base entered leaves low) (laid : (c : ℕ) → c < length nodes → has_mark base c ≡ before c) (kept : HasEnds (length nodes) r keeps begun null before_ended ended last) where
  up_told : (x : ℕ) (node : Node) → InTree nodes r x → slice_get nodes x ≡ Some node → has_mark ended x ≡ ended_by (λ m. took x) null (has_mark ended) node
  up_told x node there is = search (rules, same_truth, up.just x node is, up.closed x node there is, ended_by_more, and_from, lt-ltb, InTree-inside, arena.below)

  down_told : (x c : ℕ) (node : Node) → InTree nodes r x → slice_get nodes x ≡ Some node → IsPart node c → has_mark entered c ≡ entered_by (has_mark entered x) null (has_mark ended) node c
  down_told x c node there is part = same_truth _ _ (down.just x c node there is part)
      (λ h. down.closed x c node there is part (search (rules, entered_by_more, le-leb, all x there, lt-ltb, InTree-inside nodes arena r x there, arena.below x)))

  pub row_added : RowFollows nodes r keeps (first || begun) null (λ c. other c || took c) (bits (length nodes) leaves) (bits (length nodes) last)
  row_added = record {
    begins = λ c. f.begins c || has_mark entered c;
    ends = λ c. f.ends c || has_mark ended c;
    root = rw (f.root, down.root) refl;
    down = λ x c node there is part. rw (f.down x c node there is part, down_told x c node there is part) (entered_both (f.begins x) (has_mark entered x) null f.ends (has_mark ended) node c);
    up = λ x node there is. rw (f.up x node there is, up_told x node there is) (ended_both (other x) (took x) null f.ends (has_mark ended) node);
    leaves = λ c. search (rules, ltb-true, lt-ltb, has.leaf c, f.leaves c, laid c, down.inside c, InTree-inside nodes arena r c, inside, all c);
    ended_is = λ c. search (rules, ltb-true, lt-ltb, kept.own, kept.others c, cases_eq c r, f.ended_is c, up.inside c, InTree-inside nodes arena r c, inside, is_tree);
  }
