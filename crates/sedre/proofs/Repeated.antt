-- Repetitions on the stack.
use Rattle.std.proofs.Common.{◌≡◌, ℕ, zero, suc, ◌+◌, ◌-◌, ◌<◌, length, List, [], ◌∷◌, ◌++◌, Bool, true, false, ◌&&◌, refl, ap, subst, ◌∙◌, sym, append_assoc, append-nil, arith, length-append, nat_eq, inl, inr}
use Rattle.std.proofs.lemmas.Bool.Decides.{eqb_tells}
use Rattle.sedre.specs.declared.stack.Stack.{Stack}
use Rattle.sedre.specs.Tree.{Tree, sequence, any_copies, one_or_none}
use Rattle.sedre.specs.Grammar.{with_copies, optional, further}
use Rattle.sedre.specs.Stacks.{StoresTrees}
use Rattle.sedre.proofs.Stacked.{count_of}

copies_add : (m n : ℕ) (a : Tree) (bs : List Tree) → with_copies (m + n) a bs ≡ with_copies m a (with_copies n a bs)
copies_add zero n a bs = ap (λ (k : ℕ). with_copies k a bs) (let h : 0 + n ≡ n = omega arith in h)
copies_add (suc m) n a bs = ap (λ (k : ℕ). with_copies k a bs) (let h : suc m + n ≡ suc (m + n) = omega arith in h) ∙ ap (λ (r : List Tree). a ∷ r) (copies_add m n a bs)

copies-append : (n : ℕ) (a : Tree) (bs cs : List Tree) → with_copies n a bs ++ cs ≡ with_copies n a (bs ++ cs)
copies-append zero a bs cs = refl
copies-append (suc n) a bs cs = ap (λ (r : List Tree). a ∷ r) (copies-append n a bs cs)

-- after some trees and copies
copies_then : (ts : List Tree) (n : ℕ) (a : Tree) (bs : List Tree) → (ts ++ with_copies n a []) ++ bs ≡ ts ++ with_copies n a bs
copies_then ts n a bs = append_assoc ts (with_copies n a []) bs ∙ ap (λ (r : List Tree). ts ++ r) (copies-append n a [] bs)

module _ (limit : ℕ) (ts : List Tree) (a : Tree) where
  pub copies_start : (s : Stack) → StoresTrees limit s (ts ++ a ∷ []) → StoresTrees limit s ((ts ++ with_copies 0 a []) ++ a ∷ [])
  copies_start s = subst (λ (x : List Tree). StoresTrees limit s (x ++ a ∷ [])) (sym (append-nil ts))

  pub copies_step : (s : Stack) (k : ℕ) → StoresTrees limit s (((ts ++ with_copies k a []) ++ a ∷ []) ++ a ∷ []) → StoresTrees limit s ((ts ++ with_copies (k + 1) a []) ++ a ∷ [])
  copies_step s k = subst (λ (x : List Tree). StoresTrees limit s (x ++ a ∷ [])) (copies_then ts k a (a ∷ []) ∙ ap (λ (r : List Tree). ts ++ r) (sym (copies_add k 1 a [])))

  -- the innermost optional copy
  pub nest_start : (s : Stack) (count : ℕ) (first mark : Bool) → mark ≡ (first && nat_eq 0 count) → StoresTrees limit s ((ts ++ with_copies count a []) ++ one_or_none a mark ∷ []) →
      StoresTrees limit s ((ts ++ with_copies (count - 0) a []) ++ optional 0 a (first && nat_eq 0 count) ∷ [])
  nest_start s count first mark e st =
      let P : ℕ → Bool → Type 0 = λ n m. StoresTrees limit s ((ts ++ with_copies n a []) ++ one_or_none a m ∷ []) in
      subst (λ (n : ℕ). P n (first && nat_eq 0 count)) (let h : count ≡ count - 0 = omega arith in h) (subst (λ (m : Bool). P count m) e st)

  not_yet : (first : Bool) (k count : ℕ) → k < count → (first && nat_eq k count) ≡ false
  not_yet first k count h = elim (eqb_tells k count) [
    | inl w ↦ absurd (omega (arith, h, w.1))
    | inr w ↦ ap (λ (b : Bool). first && b) w.0 ∙ never first
  ]
    where
      never : (b : Bool) → (b && false) ≡ false
      never true = refl
      never false = refl

  -- the last copy and what it will hold
  pub nest_before : (s : Stack) (k count : ℕ) (first : Bool) → k < count → StoresTrees limit s ((ts ++ with_copies (count - k) a []) ++ optional k a (first && nat_eq k count) ∷ []) →
      StoresTrees limit s ((ts ++ with_copies (count - (k + 1)) a []) ++ a ∷ optional k a false ∷ [])
  nest_before s k count first h st =
      let m : ℕ = count - (k + 1) in
      let P : List Tree → Bool → Type 0 = λ x b. StoresTrees limit s (x ++ optional k a b ∷ []) in
      let one : ts ++ with_copies (count - k) a [] ≡ (ts ++ with_copies m a []) ++ a ∷ [] =
      ap (λ (n : ℕ). ts ++ with_copies n a []) (let e : count - k ≡ m + 1 = omega (arith, h) in e) ∙ ap (λ (r : List Tree). ts ++ r) (copies_add m 1 a []) ∙ sym (copies_then ts m a (a ∷ [])) in
      let Q : List Tree → Type 0 = λ x. StoresTrees limit s x in
      subst Q (append_assoc (ts ++ with_copies m a []) (a ∷ []) (optional k a false ∷ [])) (subst (λ (x : List Tree). P x false) one (subst (λ (b : Bool). P (ts ++ with_copies (count - k) a []) b) (not_yet first k count h) st))

  pub nest_step : (s : Stack) (k count : ℕ) (first mark : Bool) → mark ≡ (first && nat_eq (k + 1) count) → StoresTrees limit s ((ts ++ with_copies (count - (k + 1)) a []) ++ one_or_none (sequence a (optional k a false)) mark ∷ []) →
      StoresTrees limit s ((ts ++ with_copies (count - (k + 1)) a []) ++ optional (k + 1) a (first && nat_eq (k + 1) count) ∷ [])
  nest_step s k count first mark e st =
      let us : List Tree = ts ++ with_copies (count - (k + 1)) a [] in
      let P : Tree → Type 0 = λ x. StoresTrees limit s (us ++ x ∷ []) in
      let n : suc k ≡ k + 1 = omega arith in
      subst P (ap (λ (b : Bool). one_or_none (sequence a (optional k a false)) b) e ∙ ap (λ (i : ℕ). optional i a (first && nat_eq (k + 1) count)) n) st

  pub nest_end : (s : Stack) (k count : ℕ) (first : Bool) → k ≡ count → StoresTrees limit s ((ts ++ with_copies (count - k) a []) ++ optional k a (first && nat_eq k count) ∷ []) → StoresTrees limit s (ts ++ optional count a first ∷ [])
  nest_end s k count first h st =
      let P : ℕ → List Tree → Bool → Type 0 = λ n x b. StoresTrees limit s (x ++ optional n a b ∷ []) in
      let none : ts ++ with_copies (count - k) a [] ≡ ts = ap (λ (n : ℕ). ts ++ with_copies n a []) (let e : count - k ≡ 0 = omega (arith, h) in e) ∙ append-nil ts in
      let outer : (first && nat_eq k count) ≡ first = elim (eqb_tells k count) [ inl w ↦ ap (λ (b : Bool). first && b) w.0 ∙ always first | inr w ↦ absurd (w.1 h) ] in
      subst (λ (n : ℕ). P n ts first) h (subst (λ (b : Bool). P k ts b) outer (subst (λ (x : List Tree). P k x (first && nat_eq k count)) none st))
    where
      always : (b : Bool) → (b && true) ≡ b
      always true = refl
      always false = refl

  -- a repetition without a limit
  pub open_end : (s : Stack) (least : ℕ) (mark : Bool) → mark ≡ nat_eq least 0 → StoresTrees limit s ((ts ++ with_copies least a []) ++ any_copies a mark ∷ []) → StoresTrees limit s (ts ++ with_copies least a (any_copies a (nat_eq least 0) ∷ []))
  open_end s least mark e st =
      let P : List Tree → Type 0 = λ x. StoresTrees limit s x in
      subst P (copies_then ts least a (any_copies a mark ∷ []) ∙ ap (λ (b : Bool). ts ++ with_copies least a (any_copies a b ∷ [])) e) st

  -- a number of copies
  pub exactly : (s : Stack) (count less : ℕ) → less + 1 ≡ count → StoresTrees limit s ((ts ++ with_copies less a []) ++ a ∷ []) → StoresTrees limit s (ts ++ with_copies count a (further (count - count) a (nat_eq count 0)))
  exactly s count less e st =
      let P : List Tree → Type 0 = λ x. StoresTrees limit s x in
      subst P (copies_then ts less a (a ∷ []) ∙ ap (λ (r : List Tree). ts ++ r) (sym (copies_add less 1 a []) ∙ ap (λ (n : ℕ). with_copies n a []) e ∙ ap (λ (n : ℕ). with_copies count a (further n a (nat_eq count 0))) (let h : 0 ≡ count - count = omega arith in h))) st

  -- the optional copies come after the required ones
  pub split_copies : (s : Stack) (least more all : ℕ) → all ≡ least + more → StoresTrees limit s ((ts ++ with_copies all a []) ++ a ∷ []) → StoresTrees limit s (((ts ++ with_copies least a []) ++ with_copies more a []) ++ a ∷ [])
  split_copies s least more all e st =
      let P : List Tree → Type 0 = λ x. StoresTrees limit s (x ++ a ∷ []) in
      subst P (ap (λ (n : ℕ). ts ++ with_copies n a []) e ∙ ap (λ (r : List Tree). ts ++ r) (copies_add least more a []) ∙ sym (copies_then ts least a (with_copies more a []))) st

  pub within : (s : Stack) (least more most : ℕ) (mark : Bool) → mark ≡ nat_eq least 0 → most ≡ least + (more + 1) → StoresTrees limit s ((ts ++ with_copies least a []) ++ optional more a mark ∷ []) →
      StoresTrees limit s (ts ++ with_copies least a (further (most - least) a (nat_eq least 0)))
  within s least more most mark e em st =
      let P : List Tree → Type 0 = λ x. StoresTrees limit s x in
      subst P (copies_then ts least a (optional more a mark ∷ []) ∙ ap (λ (b : Bool). ts ++ with_copies least a (optional more a b ∷ [])) e
      ∙ ap (λ (n : ℕ). ts ++ with_copies least a (further n a (nat_eq least 0))) (let h : suc more ≡ most - least = omega (arith, em) in h)) st

  -- how many trees come before
  pub from_is : (s : Stack) (from : ℕ) → StoresTrees limit s (ts ++ a ∷ []) → from ≡ length s.parts.items - 1 → length ts ≡ from
  from_is s from st e = omega (arith, e, count_of st, length-append ts (a ∷ []))
