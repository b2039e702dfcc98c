-- A text within a longer one, behind which comes nothing or a newline: places and bytes.
use Rattle.std.proofs.Common.{◌≡◌, ℕ, zero, suc, ◌+◌, ◌-◌, ◌≤◌, cond, Bool, true, false, List, [], ◌∷◌, ◌++◌, length, Option, Some, None, refl, sym, ap, ◌∙◌, arith, slice_get, drop, take, length-drop}
use Rattle.std.specs.List.{prefix_len, take_while}
use Rattle.std.proofs.Math.Seq.{drop-append-add}
use Rattle.std.proofs.Math.ListN.{drop_of_length-le}
use Rattle.std.proofs.lemmas.Option.{slice_get_past}
use Rattle.std.proofs.lemmas.List.{drop-append-le, take-append-le}
use Rattle.std.proofs.lemmas.List.Sums.{prefix_len-le-length}
use Rattle.sedengine.proofs.Writing.{slice_get-append_add}
use Rattle.sedscript.specs.declared.bytes.Sort.{Sort}
use Rattle.sedscript.specs.declared.bytes.Sort.TheVariants.{Separator}
use Rattle.sedscript.specs.Bytes.{past, belongs, bytes_between}

-- nothing, or a newline and what follows it
abbrev pub tail_of : Option (List ℕ) → List ℕ
tail_of None = []
tail_of (Some rest) = 10 ∷ rest

pub prefix_on : (f : ℕ → Bool) (more : Option (List ℕ)) (xs : List ℕ) → f 10 ≡ false → prefix_len f (xs ++ tail_of more) ≡ prefix_len f xs
prefix_on f None [] h = refl
prefix_on f (Some rest) [] h = rw h refl
prefix_on f more (x ∷ xs) h = ap (λ n. cond (f x) (1 + n) 0) (prefix_on f more xs h)

pub taken_on : (f : ℕ → Bool) (more : Option (List ℕ)) (xs : List ℕ) → f 10 ≡ false → take_while f (xs ++ tail_of more) ≡ take_while f xs
taken_on f more xs h = ap (λ n. take n (xs ++ tail_of more)) (prefix_on f more xs h) ∙ take-append-le (prefix_len f xs) xs (tail_of more) (prefix_len-le-length f xs)

prefix_inside : (f : ℕ → Bool) (ys xs : List ℕ) (b : ℕ) → slice_get xs (prefix_len f xs) ≡ Some b → prefix_len f (xs ++ ys) ≡ prefix_len f xs
prefix_inside f ys [] b h = absurd cc
prefix_inside f ys (x ∷ xs) b h = by_test (f x) h (λ g. prefix_inside f ys xs b g)
  where
    by_test : (t : Bool) → slice_get (x ∷ xs) (cond t (1 + prefix_len f xs) 0) ≡ Some b → (slice_get xs (prefix_len f xs) ≡ Some b → prefix_len f (xs ++ ys) ≡ prefix_len f xs) →
        cond t (1 + prefix_len f (xs ++ ys)) 0 ≡ cond t (1 + prefix_len f xs) 0
    by_test true h on = let one : 1 + prefix_len f xs ≡ suc (prefix_len f xs) = omega arith in ap (λ n. 1 + n) (on (ap (slice_get (x ∷ xs)) (sym one) ∙ h))
    by_test false h on = refl

pub get_drop : (xs : List ℕ) (at n k : ℕ) → k ≡ at + n → slice_get (drop at xs) n ≡ slice_get xs k
get_drop xs zero n k e = let same : n ≡ k = omega (arith, e) in ap (slice_get xs) same
get_drop [] (suc at) n k e = ap (λ (bs : List ℕ). slice_get bs n) (drop_of_length-le [] {i = suc at} (omega arith)) ∙ (slice_get_past [] n (omega arith) ∙ sym (slice_get_past [] k (omega arith)))
get_drop (x ∷ xs) (suc at) n zero e = absurd (omega (arith, e))
get_drop (x ∷ xs) (suc at) n (suc k) e = get_drop xs at n k (omega (arith, e))

near_in : {X : Type 0} (P : Option ℕ → X) (more : Option (List ℕ)) (xs : List ℕ) (at : ℕ) → at ≤ length xs → P None ≡ P (Some 10) → P (slice_get (xs ++ tail_of more) at) ≡ P (slice_get xs at)
near_in P None [] zero le same = refl
near_in P (Some rest) [] zero le same = sym same
near_in P more [] (suc at) le same = absurd (omega (arith, le))
near_in P more (x ∷ xs) zero le same = refl
near_in P more (x ∷ xs) (suc at) le same = near_in P more xs at (omega (arith, le)) same

pub in_front : {A : Type 0} (xs ys : List A) (k : ℕ) (x : A) → slice_get xs k ≡ Some x → slice_get (xs ++ ys) k ≡ Some x
in_front [] ys zero x h = absurd cc
in_front [] ys (suc k) x h = absurd cc
in_front (y ∷ xs) ys zero x h = h
in_front (y ∷ xs) ys (suc k) x h = in_front xs ys k x h

pub past_low : (sort : Sort) (text : List ℕ) (at : ℕ) → at ≤ past sort text at
unfolding past
past_low sort text at = omega arith

pub past_high : (sort : Sort) (text : List ℕ) (at : ℕ) → at ≤ length text → past sort text at ≤ length text
unfolding past
past_high sort text at le = omega (arith, le, prefix_len-le-length (belongs sort) (drop at text), length-drop at text)

module _ (before text : List ℕ) (more : Option (List ℕ)) where
  abbrev whole : List ℕ
  whole = before ++ (text ++ tail_of more)

  abbrev base : ℕ
  base = length before

  pub rest_on : (at : ℕ) → at ≤ length text → drop (base + at) whole ≡ drop at text ++ tail_of more
  rest_on at le = drop-append-add before (text ++ tail_of more) at ∙ drop-append-le at text (tail_of more) le

  -- what asks of the end what it asks of a newline
  pub near : {X : Type 0} (P : Option ℕ → X) (at : ℕ) → at ≤ length text → P None ≡ P (Some 10) → P (slice_get whole (base + at)) ≡ P (slice_get text at)
  near P at le same = ap P (slice_get-append_add before (text ++ tail_of more) at) ∙ near_in P more text at le same

  pub there : (at b : ℕ) → slice_get text at ≡ Some b → slice_get whole (base + at) ≡ Some b
  there at b h = slice_get-append_add before (text ++ tail_of more) at ∙ in_front text (tail_of more) at b h

  pub past_on : (sort : Sort) (at : ℕ) → at ≤ length text → belongs sort 10 ≡ false → past sort whole (base + at) ≡ base + past sort text at
  unfolding past
  past_on sort at le h =
      let long : prefix_len (belongs sort) (drop (base + at) whole) ≡ prefix_len (belongs sort) (drop at text) = ap (prefix_len (belongs sort)) (rest_on at le) ∙ prefix_on (belongs sort) more (drop at text) h in
      omega (arith, long)

  -- separators that end before the text does
  pub past_separators : (at b : ℕ) → at ≤ length text → slice_get text (past Separator text at) ≡ Some b → past Separator whole (base + at) ≡ base + past Separator text at
  unfolding past
  past_separators at b le h =
      let long : prefix_len (belongs Separator) (drop (base + at) whole) ≡ prefix_len (belongs Separator) (drop at text) =
      ap (prefix_len (belongs Separator)) (rest_on at le) ∙ prefix_inside (belongs Separator) (tail_of more) (drop at text) b (get_drop text at (prefix_len (belongs Separator) (drop at text)) (past Separator text at) refl ∙ h) in
      omega (arith, long)

  pub between_on : (from to : ℕ) → from ≤ to → to ≤ length text → bytes_between whole (base + from) (base + to) ≡ bytes_between text from to
  between_on from to low high =
      let long : base + to - (base + from) ≡ to - from = omega arith in
      ap (λ n. take n (drop (base + from) whole)) long ∙ (ap (take (to - from)) (rest_on from (omega (arith, low, high)))
      ∙ take-append-le (to - from) (drop from text) (tail_of more) (omega (arith, high, length-drop from text)))
