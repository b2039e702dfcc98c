-- Spans of one length, and the cuts and copies that it decides.
use Rattle.sedpass.proofs.Words.{rules, ◌≡◌, ℕ, ◌+◌, ◌-◌, ◌<◌, List, Option, Some, arith, eqb-true, cond_some, Tree, byte_of, sequence, either_of, grouped, CopiesLead, no_copy, one_more, Matches, LastCopy, only, then_copy, CopiesLead-forward, cases_eq, sum_of, same_of, length_of}

-- all that R leads to lies n places on
abbrev pub AllLong : (ℕ → ℕ → Type 0) → ℕ → Type 0
AllLong R n = (i j : ℕ) → R i j → j ≡ i + n

-- the parts of a length that is known
pub sum_parts : (first second : Option ℕ) (n : ℕ) → sum_of first second ≡ Some n → (m : ℕ) × (k : ℕ) × (first ≡ Some m) × (second ≡ Some k) × (n ≡ m + k)
sum_parts first second n is = search rules

pub same_parts : (first second : Option ℕ) (n : ℕ) → same_of first second ≡ Some n → (first ≡ Some n) × (second ≡ Some n)
same_parts first second n is = search (rules, cond_some, eqb-true)

pub all_long : (e : Tree) (w : List ℕ) (n : ℕ) → length_of e ≡ Some n → (i j : ℕ) → Matches e w i j → j ≡ i + n
all_long (byte_of members) w n is i j s = let one_long : 1 ≡ n = cc in omega (arith, s.3)
all_long (sequence a b) w n is i j s = let parts = sum_parts (length_of a) (length_of b) n is in grind (arith, all_long a w parts.0, all_long b w parts.1)
all_long (either_of a b) w n is i j s = grind (arith, same_parts (length_of a) (length_of b) n is, all_long a w n, all_long b w n)
all_long (grouped k a) w n is i j s = all_long a w n is i j s
all_long other w n is i j s = search rules

-- of copies of one length the last one begins that much before the end
pub copies_long : (R : ℕ → ℕ → Type 0) (j n : ℕ) → AllLong R n → (i : ℕ) → i < j → CopiesLead R j i → LastCopy R j i (j - n)
copies_long R j n long i lt no_copy = absurd (omega arith)
copies_long R j n long i lt (one_more _ k up r rest) =
    let more = λ (less : k < j). copies_long R j n long k less rest in
    search (rules, cases_eq k j, CopiesLead-forward R j k rest, long, only, then_copy)
