-- What a mirrored expression matches in the text read from its end.
use Rattle.sedtext.proofs.Words.{◌+◌, ◌-◌, ◌↔◌, ◌≡◌, ◌≤◌, any_copies, arith, byte_of, common_steps, CopiesLead, either_of, get_or-reverse, gets, grouped, HasSpan, length, length-reverse, List, Matches}
use Rattle.sedtext.proofs.Words.{mirror, mirror-mirror, no_copy, one_more, one_or_none, reverse, reverse-reverse, seen, sequence, slice_get, Some, Tree, tree_at-mirror, true, WrittenExpression, ℕ}
use Rattle.sedtext.proofs.SpanLemmas.{Matches-within, CopiesLead-append}

-- a byte of the text, in the text read from its end
pub get-reverse : (w : List ℕ) (i b byte : ℕ) → i + 1 + b ≡ length w → slice_get w i ≡ Some byte → slice_get (reverse w) b ≡ Some byte
get-reverse w i b byte sum is = grind (arith, common_steps, gets, get_or-reverse)

-- the same of all numbers that come before
CopiesLead-mirror : (R S : ℕ → ℕ → Type 0) (n : ℕ) →
    ((i j a b : ℕ) → i + a ≡ n → j + b ≡ n → R i j → S b a) → ((i j : ℕ) → i ≤ n → R i j → j ≤ n) →
    (j i a b : ℕ) → i + a ≡ n → j + b ≡ n → CopiesLead R j i → CopiesLead S a b
CopiesLead-mirror R S n each within j i a b left right no_copy = grind (arith, no_copy)
CopiesLead-mirror R S n each within j i a b left right (one_more _ k lt r rest) =
    let low = within i k (omega arith) r in
    grind (arith, CopiesLead-append S (n - k) b a, CopiesLead-mirror R S n each within j k (n - k) b (omega (arith, low)) right rest, each i k a (n - k))

-- what the expression matches is matched from its end by the mirrored one
pub Matches-mirror : (e : Tree) (w : List ℕ) (i j a b : ℕ) → i + a ≡ length w → j + b ≡ length w → Matches e w i j → Matches (mirror e) (reverse w) b a
Matches-mirror (byte_of members) w i j a b left right s = grind (arith, get-reverse)
Matches-mirror (sequence x y) w i j a b left right s = grind (arith, Matches-within, Matches-mirror x w i s.0 a (length w - s.0), Matches-mirror y w s.0 j (length w - s.0) b)
Matches-mirror (either_of x y) w i j a b left right s = grind (arith, Matches-mirror x w i j a b, Matches-mirror y w i j a b)
Matches-mirror (grouped k x) w i j a b left right s = Matches-mirror x w i j a b left right s
Matches-mirror (any_copies x first) w i j a b left right s = CopiesLead-mirror (Matches x w) (Matches (mirror x) (reverse w)) (length w) (Matches-mirror x w) (Matches-within x w) j i a b left right s
Matches-mirror (one_or_none x first) w i j a b left right s = grind (arith, Matches-mirror x w i j a b)
Matches-mirror _ w i j a b left right s = grind (arith, length-reverse w)

-- and nothing else is
pub Matches-unmirror : (e : Tree) (w : List ℕ) (i j a b : ℕ) → i + a ≡ length w → j + b ≡ length w → Matches (mirror e) (reverse w) b a → Matches e w i j
Matches-unmirror e w i j a b left right s = grind (arith, Matches-mirror (mirror e) (reverse w) b a j i, length-reverse w, mirror-mirror, reverse-reverse w)

-- the same at the nodes of an expression
pub HasSpan-mirror : (e nodes : WrittenExpression) (w bytes : List ℕ) (x i j a b : ℕ) → nodes ≡ seen true e → bytes ≡ reverse w → i + a ≡ length w → j + b ≡ length w →
    HasSpan e.nodes w x i j ↔ HasSpan nodes.nodes bytes x b a
HasSpan-mirror e nodes w bytes x i j a b is_nodes is_bytes left right = grind (arith, Matches-mirror, Matches-unmirror, tree_at-mirror)
