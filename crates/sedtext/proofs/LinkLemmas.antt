-- Chains of links, cut and joined, and how a node is taken apart into one; the alternatives with which an expression begins, and the literals that its spans hold.
use Rattle.sedtext.proofs.Words.{FirstFrom, ◌++◌, ◌+◌, ◌-◌, ◌<◌, ◌==◌, ◌||◌, ◌↔◌, ◌∙◌, ◌∷◌, ◌≡◌, ◌≤◌, ◌⊎◌, [], All, All-append, All-nil, All-pop, All-push, AllWithin, any_copies, AnyLeads, ap, append-nil, append_assoc, AreAlternatives, AreBranches}
use Rattle.sedtext.proofs.Words.{arith, Bool, Byte, byte_of, ChainLeads, common_steps, Decides-eqb, drop, drop-cons, Either, false, get_or_from_slice_get, Group, has, has-set_of, HasSpan, inl, inr, IsArena, IsContinuation, IsIn}
use Rattle.sedtext.proofs.Words.{IsLiteral, IsOneByte, IsPart, IsRequired, IsTrue, LeadsFrom, length, length-append, Link, LinkLeads, List, Matches, MemberAt, Narrowed, Node, NodeId, None, OccursAt, Option, or_left, or_right, Other, refl}
use Rattle.sedtext.proofs.Words.{RequiredLiteral, Requires, Run, Seq, Set, SetRepeats, size, slice_get, slice_get-get_or, slice_get_within, slice_index_or, Some, Star, subst, suc, sym, take, take-append-drop, take_more, Tree, tree_at, Vec, zero, ℕ}
use Rattle.sedtext.proofs.ReachLemmas.{NodeSpans, open_at, close_at}
use Rattle.sedtext.proofs.NodeLemmas.{size-parts, size-pos, total_size}
use Rattle.sedtext.proofs.RunLemmas.{copies_alike}
use Rattle.sedtext.proofs.SpanLemmas.{CopiesLead-forward, Matches-forward, Matches-within}
use Rattle.sedre.specs.Sets.{only}

-- where the chain leads from a place of a text, the literal occurs there or later
abbrev pub AllHold : List Link → List ℕ → Type 0
AllHold links literal = (nodes : List Node) (w : List ℕ) (i j : ℕ) → i ≤ length w → ChainLeads nodes w links i j → (k : ℕ) × (i ≤ k) × OccursAt w literal k

module _ (nodes : List Node) (w : List ℕ) where
  pub chain_split : (ls ms : List Link) (i j : ℕ) → ChainLeads nodes w (ls ++ ms) i j → (k : ℕ) × ChainLeads nodes w ls i k × ChainLeads nodes w ms k j
  chain_split [] ms i j at = (i, refl, at)
  chain_split (l ∷ ls) ms i j at = let f = chain_split ls ms at.0 j at.2 in (f.0, (at.0, at.1, f.1), f.2)

  chain_join : (ls ms : List Link) (i k j : ℕ) → ChainLeads nodes w ls i k → ChainLeads nodes w ms k j → ChainLeads nodes w (ls ++ ms) i j
  chain_join [] ms i k j same rest = subst (λ v. ChainLeads nodes w ms v j) (sym same) rest
  chain_join (l ∷ ls) ms i k j at rest = (at.0, at.1, chain_join ls ms at.0 k j at.2 rest)

-- the two lead alike
abbrev pub LeadAlike : List Node → List Link → List Link → Type 0
LeadAlike nodes links others = (w : List ℕ) (i j : ℕ) → ChainLeads nodes w links i j ↔ ChainLeads nodes w others i j

-- links in place of others that lead alike
alike_through : (nodes : List Node) (ls ms here there : List Link) → LeadAlike nodes here there → LeadAlike nodes (ls ++ (here ++ ms)) (ls ++ (there ++ ms))
alike_through nodes ls ms here there alike w i j = grind (arith, chain_join, chain_split, alike w)

-- the nodes as links, the last one first
abbrev pub others : List ℕ → List Link
others [] = []
others (x ∷ xs) = others xs ++ (Other x ∷ [])

others_join : (xs ys : List ℕ) → others (xs ++ ys) ≡ others ys ++ others xs
others_join [] ys = simp append-nil
others_join (x ∷ xs) ys = simp (others_join xs ys, append_assoc)

total_join : (nodes : List Node) (xs ys : List ℕ) → total_size nodes (xs ++ ys) ≡ total_size nodes xs + total_size nodes ys
total_join nodes [] ys = omega arith
total_join nodes (x ∷ xs) ys = omega (arith, total_join nodes xs ys)

link_within : (nodes : List Node) (w : List ℕ) (l : Link) (i j : ℕ) → i ≤ length w → LinkLeads nodes w l i j → j ≤ length w
link_within nodes w (Run s) i j within at = Matches-within (any_copies (byte_of s) false) w i j within at
link_within nodes w l i j within at = grind (arith, slice_get_within, Matches-within)

-- where a chain leads from a place, its links from some one on do from there or later
pub chain_on : (nodes : List Node) (w : List ℕ) (q : ℕ) (links : List Link) (i j : ℕ) → i ≤ length w → ChainLeads nodes w links i j →
    (k : ℕ) × (i ≤ k) × (k ≤ length w) × ChainLeads nodes w (drop q links) k j
chain_on nodes w (suc q) (l ∷ ls) i j within at = grind (arith, CopiesLead-forward, Matches-forward, link_within, chain_on nodes w q ls at.0 j (link_within nodes w l i at.0 within at.1) at.2)
chain_on nodes w q links i j within at = (i, omega arith, within, at)

-- what a node spans that is a link
module _ (nodes : List Node) (arena : IsArena nodes) (x : ℕ) where
  pub at_node : (node : Node) → slice_get nodes x ≡ Some node → (w : List ℕ) (i j : ℕ) → HasSpan nodes w x i j ↔ NodeSpans nodes w node i j
  at_node node is w i j = (open_at nodes w x node arena is i j, close_at nodes w x node arena is i j)

  pub byte_leads : (s : List Bool) → slice_get nodes x ≡ Some (Set s) → (w : List ℕ) (i j : ℕ) → HasSpan nodes w x i j ↔ (MemberAt s w i × (j ≡ i + 1))
  byte_leads s is w i j = grind (arith, at_node (Set s) is w i j)

  pub part_inside : (node : Node) (c : ℕ) → slice_get nodes x ≡ Some node → IsPart node c → c < length nodes
  part_inside node c is part = omega (arith, arena.below x c node is part, slice_get_within nodes x node is)

pub run_leads : (nodes : List Node) (arena : IsArena nodes) (x : ℕ) (a : NodeId) (first : Bool) (s : List Bool) → slice_get nodes x ≡ Some (Star a first) → slice_get nodes a.index ≡ Some (Set s) →
    (w : List ℕ) (i j : ℕ) → HasSpan nodes w x i j ↔ SetRepeats s w i j
run_leads nodes arena x a first s star set w i j =
    grind (arith, at_node nodes arena a.index (Set s) set w, at_node nodes arena x (Star a first) star w i j, copies_alike (HasSpan nodes w a.index), copies_alike (Matches (byte_of s) w))

-- The links, and after them the nodes that are left, lead as the links before do, and the node after them.
pub record IsLeft (nodes : List Node) (before : List Link) (x : ℕ) (links : List Link) (rest : List ℕ) : Type 0 where
  pub spans : LeadAlike nodes (before ++ (Other x ∷ [])) (links ++ others rest)
  pub inside : All (λ v. v < length nodes) rest

module _ (nodes : List Node) (before : List Link) (x : ℕ) where
  module _ (links : List Link) (stack rest : List ℕ) (y : ℕ) (popped : stack ≡ rest ++ (y ∷ [])) (left : IsLeft nodes before x links stack) where
    -- links in place of the last node, to those found or to those that are left: they lead as it does, and the stack is smaller for it
    left_with : (these longer : List Link) (more new : List ℕ) → LeadAlike nodes (Other y ∷ []) these → new ≡ rest ++ more → longer ++ others more ≡ links ++ these →
        All (λ v. v < length nodes) more → total_size nodes more < size (tree_at nodes y) → IsLeft nodes before x longer new × (total_size nodes new < total_size nodes stack)
    left_with these longer more new alike is same inside less =
        let old : links ++ others stack ≡ links ++ ((Other y ∷ []) ++ others rest) = rw (popped, others_join) refl in
        let now : longer ++ others new ≡ links ++ (these ++ others rest) = rw (is, others_join, ← append_assoc, same, append_assoc) refl in (
          record {
            spans = λ w i j. grind (arith, old, now, alike_through nodes links (others rest) (Other y ∷ []) these alike w i j, left.spans w i j);
            inside = rw is (All-append (λ v. v < length nodes) rest more (All-pop (λ v. v < length nodes) stack rest (Some y) popped left.inside).0 inside);
          },
          omega (arith, less, ap (total_size nodes) popped, total_join nodes rest (y ∷ []), ap (total_size nodes) is, total_join nodes rest more),
        )

    -- a link in place of it
    pub left_behind : (l : Link) (longer : List Link) → ((w : List ℕ) (i j : ℕ) → HasSpan nodes w y i j ↔ LinkLeads nodes w l i j) → longer ≡ links ++ (l ∷ []) →
        IsLeft nodes before x longer rest × (total_size nodes rest < total_size nodes stack)
    left_behind l longer as_link more =
        left_with (l ∷ []) longer [] rest (λ w i j. grind (arith, as_link w i)) (sym (append-nil rest)) (append-nil longer ∙ more)
        (All-nil (λ v. v < length nodes)) (size-pos (tree_at nodes y))

    module _ (arena : IsArena nodes) where
      pub left_parts : (a b : NodeId) (both : List ℕ) → slice_get nodes y ≡ Some (Seq a b) → both ≡ (rest ++ (b.index ∷ [])) ++ (a.index ∷ []) →
          IsLeft nodes before x links both × (total_size nodes both < total_size nodes stack)
      left_parts a b both is more =
          left_with (Other a.index ∷ Other b.index ∷ []) links (b.index ∷ a.index ∷ []) both (λ w i j. grind (arith, at_node nodes arena y (Seq a b) is w i)) (more ∙ append_assoc rest _ _) refl
          (All-push (λ v. v < length nodes) (b.index ∷ []) a.index (All-push (λ v. v < length nodes) [] b.index (All-nil _) (part_inside nodes arena y _ b.index is (inr refl))) (part_inside nodes arena y _ a.index is (inl refl))) (omega (arith, size-parts nodes arena y (Seq a b) is))

      pub left_inner : (number : ℕ) (a : NodeId) (one : List ℕ) → slice_get nodes y ≡ Some (Group number a) → one ≡ rest ++ (a.index ∷ []) →
          IsLeft nodes before x links one × (total_size nodes one < total_size nodes stack)
      left_inner number a one is inner =
          left_with (Other a.index ∷ []) links (a.index ∷ []) one (λ w i j. grind (arith, at_node nodes arena y (Group number a) is w i)) inner refl
          (All-push (λ v. v < length nodes) [] a.index (All-nil (λ v. v < length nodes)) (part_inside nodes arena y (Group number a) a.index is refl)) (omega (arith, size-parts nodes arena y (Group number a) is))

-- behind the links before both alternatives are what a link is that is either
pub both_ways : (nodes : List Node) (links left right : List Link) (q x y : ℕ) → q < length links → Either x y ≡ slice_index_or links q (Either x y) →
    IsContinuation nodes (take q links) x left → IsContinuation nodes (take q links) y right → AreAlternatives nodes (take (q + 1) links) left right
both_ways nodes links left right q x y inside is first second =
    let opened = rw (← is) at (take_more links q (Either x y) inside) in
    record { spans = λ w i j. grind (arith, opened, chain_split nodes w (take q links), chain_join nodes w (take q links), first.spans w i j, second.spans w i j); within = (first.within, second.within) }

-- one chain more
any_more : {A : Type 0} (nodes : List Node) (w : List ℕ) (cs : List (Vec Link A)) (c : Vec Link A) (i : ℕ) → AnyLeads nodes w cs i ⊎ LeadsFrom nodes w c.items i → AnyLeads nodes w (cs ++ (c ∷ [])) i
any_more nodes w [] c i which = grind arith
any_more nodes w (d ∷ ds) c i which = grind (arith, any_more nodes w ds c i)

-- behind bytes alone the chain leads over one of the set
pub member_after : (nodes : List Node) (w : List ℕ) (offset n : ℕ) (links : List Link) (s : List Bool) → AllWithin IsOneByte links 0 n → offset < n → slice_get links offset ≡ Some (Byte s) →
    (i j : ℕ) → ChainLeads nodes w links i j → MemberAt s w (i + offset)
member_after nodes w offset n [] s all inside is i j at = grind (arith, slice_get_within)
member_after nodes w zero n (m ∷ ms) s all inside is i j at = grind arith
member_after nodes w (suc offset) n (m ∷ ms) s all inside is i j at =
    grind (arith, all 0 m, member_after nodes w offset (n - 1) ms s (λ k d low lt. all (suc k) d (omega arith) (omega arith)) (omega arith) is at.0 j at.2)

-- a byte of the set is `offset` bytes after the place from which one of the chains leads on
abbrev pub AllLeadTo : {A : Type 0} → List (Vec Link A) → ℕ → List Bool → Type 0
AllLeadTo chains offset s = (nodes : List Node) (w : List ℕ) (i : ℕ) → AnyLeads nodes w chains i → MemberAt s w (i + offset)

-- one chain more, from the last on
pub lead_more : {A : Type 0} (cs : List (Vec Link A)) (x y offset n : ℕ) (c : Vec Link A) (s old new : List Bool) → y ≡ suc x → x < length cs → c ≡ slice_index_or cs x c →
    AllWithin IsOneByte c.items 0 n → offset < n → slice_get c.items offset ≡ Some (Byte s) → AllLeadTo (drop y cs) offset old → ((b : ℕ) → has new b ≡ (has old b || has s b)) → AllLeadTo (drop x cs) offset new
lead_more cs x y offset n c s old new next inside here bytes lt is rest both nodes w i at =
    grind (arith, drop-cons cs x c inside, or_left, or_right, member_after nodes w offset n c.items s bytes lt is i, rest nodes w i)

-- where a match begins one of the chains found leads on, or the one that is left
pub branches_more : {A : Type 0} (nodes : List Node) (e : Tree) (cs all : List (Vec Link A)) (chain : List Link) (left : Vec Link A) (right : List Link) (n : ℕ) →
    ((w : List ℕ) (i j : ℕ) → Matches e w i j → AnyLeads nodes w cs i ⊎ LeadsFrom nodes w chain i) → all ≡ cs ++ (left ∷ []) → AreAlternatives nodes (take n chain) left.items right →
    (w : List ℕ) (i j : ℕ) → Matches e w i j → AnyLeads nodes w all i ⊎ LeadsFrom nodes w right i
branches_more nodes e cs all chain left right n old is ways w i j at =
    grind (arith, is, any_more nodes w cs left i, old w i j at, take-append-drop n chain, chain_split nodes w (take n chain) (drop n chain) i, ways.spans w i)

pub branches_last : {A : Type 0} (nodes : List Node) (e : Tree) (cs all : List (Vec Link A)) (chain : Vec Link A) →
    ((w : List ℕ) (i j : ℕ) → Matches e w i j → AnyLeads nodes w cs i ⊎ LeadsFrom nodes w chain.items i) → all ≡ cs ++ (chain ∷ []) → AreBranches nodes e all
branches_last nodes e cs all chain old is w i j at = rw is (any_more nodes w cs chain i (old w i j at))

-- one more byte of a literal
occurs_iff : (w bytes after : List ℕ) (byte i : ℕ) → after ≡ bytes ++ byte ∷ [] → OccursAt w after i ↔ (OccursAt w bytes i × (slice_get w (i + length bytes) ≡ Some byte))
occurs_iff w bytes after byte i is = grind (arith, common_steps, slice_get_within, get_or_from_slice_get, slice_get-get_or)

pub one_longer : (links : List Link) (q byte : ℕ) (bytes after : List ℕ) (s : List Bool) → IsLiteral links q bytes → q + length bytes < length links →
    Byte s ≡ slice_index_or links (q + length bytes) (Byte s) → s ≡ Rattle.sedre.specs.Sets.only byte → ((c : ℕ) → IsIn c s → c ≡ byte) → byte < 256 → after ≡ bytes ++ byte ∷ [] → IsLiteral links q after
one_longer links q byte bytes after s literal inside here sole alone fits is =
    let n = length bytes in
    let long : length after ≡ n + 1 = rw is (length-append bytes (byte ∷ [])) in
    let next : suc (q + n) ≡ q + length after = omega (arith, long) in
    let opened : drop (q + n) links ≡ Byte s ∷ drop (q + length after) links = drop-cons links (q + n) (Byte s) inside ∙ rw (← here, next) refl in
    let member : IsIn byte s = ap (λ v. has v byte) sole ∙ has-set_of (λ c. c == byte) byte fits ∙ (Decides-eqb byte byte).1 refl in (
      omega (arith, long, inside),
      λ nodes w i j within. grind (arith, opened, literal.1 nodes w i j within, member, alone, long, occurs_iff w bytes after byte i is),
    )

-- a literal of the chain
pub all_hold : (links : List Link) (q : ℕ) (bytes : List ℕ) → IsLiteral links q bytes → AllHold links bytes
all_hold links q bytes literal nodes w i j within at = let f = chain_on nodes w q links i j within at in (f.0, f.1, ((literal.1 nodes w f.0 j f.2).0 f.3).0)

module _ (e : Tree) (w : List ℕ) (p : ℕ) (n : RequiredLiteral) (required : Option RequiredLiteral) (is : required ≡ Some n) (all : IsRequired e required) where
  holds : Requires e n.finder n.is_prefix
  holds = rw is at all

  -- a text without the literal has no match
  pub required_none : (r : Option ℕ) → r ≡ None → FirstFrom (OccursAt w n.finder) p None → Narrowed e w p r
  required_none r missing none = rw missing (λ i k low within s. let h = holds w i k within s in none h.0 (omega (arith, h.1)) h.3)

  -- where each match begins with it, none begins before it
  pub required_first : (place : ℕ) → IsTrue n.is_prefix → FirstFrom (OccursAt w n.finder) p (Some place) → Narrowed e w p (Some place)
  required_first place is_prefix first = (first.0, omega (arith, first.1.fits), λ i k low lt s. grind (arith, first.1.fits, holds w i k, first.2 i))
