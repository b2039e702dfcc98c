-- What is a fault doesn't depend on whether case is folded: tokens and trees are the same but for the sets in them.
use Rattle.std.proofs.Common.{◌≡◌, ◌⊎◌, inl, inr, ℕ, zero, suc, ◌+◌, ◌-◌, false, Bool, List, [], ◌∷◌, ◌++◌, drop, Option, Some, None, Ok, Err, refl, ap, subst, sym, ◌∙◌, arith}
use Rattle.std.specs.Prelude.{nat_eq}
use Rattle.std.specs.List.{last_or}
use Rattle.sedre.specs.declared.types.Kind.{Kind}
use Rattle.sedre.specs.declared.types.ExprReason.{ExprReason}
use Rattle.sedre.specs.declared.types.ExprFault.{ExprFault}
use Rattle.sedre.specs.declared.types.TheConstants.{NO_MEMORY}
use Rattle.sedre.specs.declared.syntax.Symbol.{Symbol}
use Rattle.sedre.specs.declared.syntax.Symbol.TheVariants.{Literal, BracketOpening}
use Rattle.sedre.specs.declared.syntax.NextToken.{NextToken}
use Rattle.sedre.specs.declared.syntax.NextToken.TheVariants.{Is, Ends, Bad}
use Rattle.sedre.specs.declared.syntax.Token.{Token}
use Rattle.sedre.specs.declared.syntax.Token.TheVariants.{Byte, Open, Close, Bar, Repeat, AtBegin, AtEnd}
use Rattle.sedre.specs.Tree.{Tree, size}
use Rattle.sedre.specs.Grammar.{depth, without_alternation, concatenation, alternation, with_copies, optional, further, repetition, AreAlternatives, ArePieces, IsPiece, first, another, none, more, byte, begin_anchor, end_anchor, subexpression, repeated, CutExpression, done, next_item, open_groups, FaultRow, bad, stray, unclosed, deep, large, FaultyWith}
use Rattle.sedre.specs.Tree as t
use Rattle.sedre.specs.Brackets.{ListedBytes, judged_list, list_at, all_listed, elements_from, is_at_front}
use Rattle.sedre.specs.Tokens.{front_symbol, token_at, token_for, list_token}

-- ---- trees

data Same : Tree → Tree → Type 0 where
  sets : {m n : List Bool} → Same (t.byte_of m) (t.byte_of n)
  same : {a : Tree} → Same a a
  seqs : {a b c d : Tree} → Same a c → Same b d → Same (t.sequence a b) (t.sequence c d)
  alts : {a b c d : Tree} → Same a c → Same b d → Same (t.either_of a b) (t.either_of c d)
  groups : {k : ℕ} {a b : Tree} → Same a b → Same (t.grouped k a) (t.grouped k b)
  stars : {mark : Bool} {a b : Tree} → Same a b → Same (t.any_copies a mark) (t.any_copies b mark)
  opts : {mark : Bool} {a b : Tree} → Same a b → Same (t.one_or_none a mark) (t.one_or_none b mark)

data SameAll : List Tree → List Tree → Type 0 where
  nothing : SameAll [] []
  also : {a b : Tree} {ts us : List Tree} → Same a b → SameAll ts us → SameAll (a ∷ ts) (b ∷ us)

size-same : {a b : Tree} → Same a b → size a ≡ size b
size-same sets = refl
size-same same = refl
size-same (seqs p q) = omega (arith, size-same p, size-same q)
size-same (alts p q) = omega (arith, size-same p, size-same q)
size-same (groups p) = omega (arith, size-same p)
size-same (stars p) = omega (arith, size-same p)
size-same (opts p) = omega (arith, size-same p)

less-same : {c d : Tree} {m n : ℕ} → Same c d → m ≡ n → without_alternation c m ≡ without_alternation d n
less-same same e = ap (without_alternation _) e
less-same (alts p q) e = ap (λ m. m - 1) e
less-same _ e = e

depth-same : {a b : Tree} → Same a b → depth a ≡ depth b
depth-same sets = refl
depth-same same = refl
depth-same (seqs p q) = rw (depth-same p, depth-same q) refl
depth-same (alts p q) = omega (arith, depth-same p, less-same q (depth-same q))
depth-same (groups p) = omega (arith, depth-same p)
depth-same (stars p) = omega (arith, depth-same p)
depth-same (opts p) = omega (arith, depth-same p)

concatenation-same : {ts us : List Tree} → SameAll ts us → Same (concatenation ts) (concatenation us)
concatenation-same nothing = same
concatenation-same (also p nothing) = p
concatenation-same (also p (also q r)) = seqs p (concatenation-same (also q r))

alternation-same : {ts us : List Tree} → SameAll ts us → Same (alternation ts) (alternation us)
alternation-same nothing = same
alternation-same (also p nothing) = p
alternation-same (also p (also q r)) = alts p (alternation-same (also q r))

copies-same : (n : ℕ) {a b : Tree} {ts us : List Tree} → Same a b → SameAll ts us → SameAll (with_copies n a ts) (with_copies n b us)
copies-same zero p r = r
copies-same (suc n) p r = also p (copies-same n p r)

optional-same : (n : ℕ) (mark : Bool) {a b : Tree} → Same a b → Same (optional n a mark) (optional n b mark)
optional-same zero mark p = opts p
optional-same (suc n) mark p = opts (seqs p (optional-same n false p))

further-same : (n : ℕ) (mark : Bool) {a b : Tree} → Same a b → SameAll (further n a mark) (further n b mark)
further-same zero mark p = nothing
further-same (suc n) mark p = also (optional-same n mark p) nothing

repetition-same : (least : ℕ) (most : Option ℕ) {a b : Tree} → Same a b → Same (repetition least most a) (repetition least most b)
repetition-same least None p = concatenation-same (copies-same least p (also (stars p) nothing))
repetition-same least (Some most) p = concatenation-same (copies-same least p (further-same (most - least) (nat_eq least 0) p))

append-same : {ts us vs ws : List Tree} → SameAll ts us → SameAll vs ws → SameAll (ts ++ vs) (us ++ ws)
append-same nothing q = q
append-same (also p r) q = also p (append-same r q)

-- ---- tokens

data AlikeItem : Token → Token → Type 0 where
  bytes : {m n : List Bool} → AlikeItem (Byte m) (Byte n)
  one : {i : Token} → AlikeItem i i

data Alike : List Token → List Token → Type 0 where
  empty : Alike [] []
  next : {i j : Token} {is js : List Token} → AlikeItem i j → Alike is js → Alike (i ∷ is) (j ∷ js)

record Split (is js ks : List Token) : Type 0 where
  pub left : List Token
  pub right : List Token
  pub whole : left ++ right ≡ ks
  pub lefts : Alike is left
  pub rights : Alike js right

split : (is : List Token) {js ks : List Token} → Alike (is ++ js) ks → Split is js ks
split [] {ks = ks} a = record { left = []; right = ks; whole = refl; lefts = empty; rights = a }
split (i ∷ is) (next {j = j} x a) =
    let s = split is a in
    record { left = j ∷ s.left; right = s.right; whole = ap (λ (l : List Token). j ∷ l) s.whole; lefts = next x s.lefts; rights = s.rights }

after_bar : {js ks : List Token} → Alike (Bar ∷ js) ks → (rest : List Token) × (Bar ∷ rest ≡ ks) × Alike js rest
after_bar (next {js = rest} one a) = (rest, refl, a)

only_close : {ks : List Token} → Alike (Close ∷ []) ks → Close ∷ [] ≡ ks
only_close (next one empty) = refl

only_repeat : {least : ℕ} {most : Option ℕ} {ks : List Token} → Alike (Repeat least most ∷ []) ks → Repeat least most ∷ [] ≡ ks
only_repeat (next one empty) = refl

after_open : {js ks : List Token} → Alike (Open ∷ js) ks → (rest : List Token) × (Open ∷ rest ≡ ks) × Alike js rest
after_open (next {js = rest} one a) = (rest, refl, a)

mutual
  alternatives_alike : {g h : ℕ} {is js : List Token} {bs : List Tree} → AreAlternatives g is bs h → Alike is js → (ds : List Tree) × AreAlternatives g js ds h × SameAll bs ds
  alternatives_alike (first p) a =
      let q = pieces_alike p a in
      (concatenation q.0 ∷ [], first q.1, also (concatenation-same q.2) nothing)
  alternatives_alike {g = g} {h = h} (another {is = is} b p) a =
      let s = split is a in
      let r = after_bar s.rights in
      let c = alternatives_alike b s.lefts in
      let q = pieces_alike p r.2 in
      let R : List Token → Type 0 = λ l. AreAlternatives g l (c.0 ++ concatenation q.0 ∷ []) h in
      (c.0 ++ concatenation q.0 ∷ [], subst R (ap (λ (l : List Token). s.left ++ l) r.1 ∙ s.whole) (another c.1 q.1), append-same c.2 (also (concatenation-same q.2) nothing))

  pieces_alike : {g h : ℕ} {is js : List Token} {ts : List Tree} → ArePieces g is ts h → Alike is js → (us : List Tree) × ArePieces g js us h × SameAll ts us
  pieces_alike none empty = ([], none, nothing)
  pieces_alike {g = g} {h = h} (more {is = is} p q) a =
      let s = split is a in
      let c = pieces_alike p s.lefts in
      let d = piece_alike q s.rights in
      let R : List Token → Type 0 = λ l. ArePieces g l (c.0 ++ d.0 ∷ []) h in
      (c.0 ++ d.0 ∷ [], subst R s.whole (more c.1 d.1), append-same c.2 (also d.2 nothing))

  piece_alike : {g h : ℕ} {is js : List Token} {a : Tree} → IsPiece g is a h → Alike is js → (b : Tree) × IsPiece g js b h × Same a b
  piece_alike (byte {members = m}) (next one empty) = (t.byte_of m, byte, same)
  piece_alike byte (next (bytes {n = n}) empty) = (t.byte_of n, byte, sets)
  piece_alike begin_anchor (next one empty) = (t.text_begin, begin_anchor, same)
  piece_alike end_anchor (next one empty) = (t.text_end, end_anchor, same)
  piece_alike {g = g} {h = h} (subexpression {is = is} b) a =
      let o = after_open a in
      let s = split is o.2 in
      let c = alternatives_alike b s.lefts in
      let R : List Token → Type 0 = λ l. IsPiece g l (t.grouped (suc g) (alternation c.0)) h in
      (t.grouped (suc g) (alternation c.0), subst R (ap (λ (l : List Token). Open ∷ s.left ++ l) (only_close s.rights) ∙ ap (λ (l : List Token). Open ∷ l) s.whole ∙ o.1) (subexpression c.1), groups (alternation-same c.2))
  piece_alike {g = g} {h = h} (repeated least most {is = is} q) a =
      let s = split is a in
      let c = piece_alike q s.lefts in
      let R : List Token → Type 0 = λ l. IsPiece g l (repetition least most c.0) h in
      (repetition least most c.0, subst R (ap (λ (l : List Token). s.left ++ l) (only_repeat s.rights) ∙ s.whole) (repeated least most c.1), repetition-same least most c.2)

same_open : (i : Token) (is js : List Token) → ((n : ℕ) → open_groups n is ≡ open_groups n js) → (n : ℕ) → open_groups n (i ∷ is) ≡ open_groups n (i ∷ js)
same_open (Byte m) is js f n = f n
same_open Open is js f n = f (suc n)
same_open Close is js f zero = refl
same_open Close is js f (suc n) = f n
same_open Bar is js f n = f n
same_open (Repeat least most) is js f n = f n
same_open AtBegin is js f n = f n
same_open AtEnd is js f n = f n

open_alike : {is js : List Token} → Alike is js → (n : ℕ) → open_groups n is ≡ open_groups n js
open_alike empty n = refl
open_alike (next bytes a) n = open_alike a n
open_alike (next {is = is} {js = js} (one {i = i}) a) n = same_open i is js (open_alike a) n

-- ---- what is at a place

data AlikeHere : NextToken → NextToken → Type 0 where
  stands : {i j : Token} {n : ℕ} → AlikeItem i j → AlikeHere (Is i n) (Is j n)
  this : {h : NextToken} → AlikeHere h h

data AlikeBefore : Option Token → Option Token → Type 0 where
  nowhere : AlikeBefore None None
  there : {i j : Token} → AlikeItem i j → AlikeBefore (Some i) (Some j)

list_alike : (f g negated : Bool) (at : ℕ) (l : ListedBytes) (end : Option ℕ) → AlikeHere (list_token (judged_list f negated at l end)) (list_token (judged_list g negated at l end))
list_alike f g negated at (Err x) end = this
list_alike f g negated at (Ok set) None = this
list_alike f g negated at (Ok set) (Some end) = stands bytes

is_alike : {x y : NextToken} {i : Token} {n : ℕ} → AlikeHere x y → x ≡ Is i n → (j : Token) × (y ≡ Is j n) × AlikeItem i j
is_alike {i = i} this e = (i, e, one)
is_alike {i = i} {n = n} (stands {i = k} {j = j} {n = m} a) e =
    let items : k ≡ i = cc in
    let places : m ≡ n = cc in
    (j, ap (λ (p : ℕ). Is j p) places, subst (λ (x : Token). AlikeItem x j) items a)

ends_alike : {x y : NextToken} → AlikeHere x y → x ≡ Ends → y ≡ Ends
ends_alike this e = e
ends_alike (stands a) e = absurd cc

bad_alike : {x y : NextToken} {r : ExprFault} → AlikeHere x y → x ≡ Bad r → y ≡ Bad r
bad_alike this e = e
bad_alike (stands a) e = absurd cc

close_alike : {j : Token} → AlikeItem Close j → j ≡ Close
close_alike one = refl

module _ (kind : Kind) (f g : Bool) (delimiter : Option ℕ) (text : List ℕ) where
  folded_for : (before : Option Token) (at : ℕ) (s : Option (Symbol × ℕ)) → AlikeHere (token_for kind f delimiter text before at s) (token_for kind g delimiter text before at s)
  unfolding list_at
  folded_for before at (Some (Literal b, n)) = stands bytes
  folded_for before at (Some (BracketOpening, n)) =
      list_alike f g (is_at_front (drop (at + 1) text) 94) at (all_listed (elements_from delimiter (at + 1) (drop (at + 1) text)).0) (elements_from delimiter (at + 1) (drop (at + 1) text)).1
  folded_for before at _ = this

  after_byte : (m n : List Bool) (at : ℕ) (s : Option (Symbol × ℕ)) → token_for kind g delimiter text (Some (Byte m)) at s ≡ token_for kind g delimiter text (Some (Byte n)) at s
  after_byte m n at None = refl
  after_byte m n at _ = refl

  here_alike : {before after : Option Token} (at : ℕ) → AlikeBefore before after → AlikeHere (token_at kind f delimiter text before at) (token_at kind g delimiter text after at)
  unfolding token_at
  here_alike at nowhere = folded_for None at (front_symbol kind delimiter (drop at text))
  here_alike at (there (one {i = i})) = folded_for (Some i) at (front_symbol kind delimiter (drop at text))
  here_alike at (there (bytes {m = m} {n = n})) =
      let s = front_symbol kind delimiter (drop at text) in
      subst (λ (h : NextToken). AlikeHere (token_for kind f delimiter text (Some (Byte m)) at s) h) (after_byte m n at s) (folded_for (Some (Byte m)) at s)

  record CutAlike (before after : Option Token) (at : ℕ) (is : List Token) (to : ℕ) : Type 0 where
    pub tokens : List Token
    pub cut : CutExpression kind g delimiter text after at tokens to
    pub alike : Alike is tokens
    pub last : AlikeBefore (last_or before is) (last_or after tokens)

  cut_alike : {before after : Option Token} {at to : ℕ} {is : List Token} → CutExpression kind f delimiter text before at is to → AlikeBefore before after → CutAlike before after at is to
  cut_alike done b = record { tokens = []; cut = done; alike = empty; last = b }
  cut_alike {at = at} (next_item e c) b =
      let h = is_alike (here_alike at b) e in
      let r = cut_alike c (there h.2) in
      record { tokens = h.0 ∷ r.tokens; cut = next_item h.1 r.cut; alike = next h.2 r.alike; last = r.last }

  row_alike : {max_nodes opened to place : ℕ} {reason : ExprReason} {is js : List Token} → Alike is js → AlikeBefore (last_or None is) (last_or None js) →
      FaultRow kind f delimiter text max_nodes is opened to place reason → FaultRow kind g delimiter text max_nodes js opened to place reason
  row_alike {to = to} a b (bad e) = bad (bad_alike (here_alike to b) e)
  row_alike {to = to} a b (stray {next = n} e) =
      let h = is_alike (here_alike to b) e in
      stray (h.1 ∙ ap (λ (j : Token). Is j n) (close_alike h.2))
  row_alike {to = to} a b (unclosed e) = unclosed (ends_alike (here_alike to b) e)
  row_alike {to = to} a b (deep bs e r d) =
      let c = alternatives_alike r a in
      let s : depth (alternation bs) ≡ depth (alternation c.0) = depth-same (alternation-same c.2) in
      deep c.0 (ends_alike (here_alike to b) e) c.1 (omega (arith, d, s))
  row_alike {to = to} a b (large bs e r d n) =
      let c = alternatives_alike r a in
      let s : depth (alternation bs) ≡ depth (alternation c.0) = depth-same (alternation-same c.2) in
      let k : size (alternation bs) ≡ size (alternation c.0) = size-same (alternation-same c.2) in
      large c.0 (ends_alike (here_alike to b) e) c.1 (omega (arith, d, s)) (omega (arith, n, k))

  -- a fault is one whether case is folded or not
  pub faulty_alike : {max_nodes place : ℕ} {reason : ExprReason} → FaultyWith kind f delimiter text max_nodes place reason → FaultyWith kind g delimiter text max_nodes place reason
  faulty_alike x =
      let c = cut_alike x.cut nowhere in
      record { tokens = c.tokens; to = x.to; cut = c.cut; opened = x.opened; balanced = sym (open_alike c.alike 0) ∙ x.balanced; row = row_alike c.alike c.last x.row }

  pub fault_alike : {max_nodes : ℕ} (x : ExprFault) → FaultyWith kind f delimiter text max_nodes x.place x.reason ⊎ (x ≡ NO_MEMORY) → FaultyWith kind g delimiter text max_nodes x.place x.reason ⊎ (x ≡ NO_MEMORY)
  fault_alike x (inl h) = inl (faulty_alike h)
  fault_alike x (inr e) = inr e
