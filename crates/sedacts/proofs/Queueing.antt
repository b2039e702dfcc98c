-- What the numbers in the queue stand for.
use Rattle.std.proofs.Common.{◌≡◌, ℕ, suc, zero, ◌<◌, ◌+◌, ◌≤◌, List, [], ◌∷◌, ◌++◌, length, drop, refl, ap, arith, length-drop, drop_of_length-le}
use Rattle.std.specs.Prelude.{slice_get, slice_index}
use Rattle.std.proofs.lemmas.List.{drop_more}
use Rattle.sedscript.specs.Program.{Program}
use Rattle.sedacts.specs.State.{Entry}
use Rattle.sedacts.specs.Keeping.{AllQueue, CommandQueues, entries_of, entry_by}

-- each of the numbers is one of a command that queues
pub queued_at : (p : Program) (is : List ℕ) (i : ℕ) → AllQueue p is → i < length is → CommandQueues (slice_get p.commands (slice_index is i))
queued_at p [] i h lt = absurd (omega arith)
queued_at p (j ∷ is) zero h lt = h.0
queued_at p (j ∷ is) (suc i) h lt = queued_at p is i h.1 (omega arith)

-- a further number
pub AllQueue-snoc : (p : Program) (is : List ℕ) (i : ℕ) → AllQueue p is → CommandQueues (slice_get p.commands i) → AllQueue p (is ++ i ∷ [])
AllQueue-snoc p [] i h q = (q, tt)
AllQueue-snoc p (j ∷ is) i h q = (h.0, AllQueue-snoc p is i h.1 q)

pub entries_of-snoc : (p : Program) (is : List ℕ) (i : ℕ) → entries_of p (is ++ i ∷ []) ≡ entries_of p is ++ entry_by p.texts (slice_get p.commands i) ∷ []
entries_of-snoc p [] i = refl
entries_of-snoc p (j ∷ is) i = ap (λ l. entry_by p.texts (slice_get p.commands j) ∷ l) (entries_of-snoc p is i)

-- as many entries as numbers
pub length-entries_of : (p : Program) (is : List ℕ) → length (entries_of p is) ≡ length is
length-entries_of p [] = refl
length-entries_of p (i ∷ is) = ap suc (length-entries_of p is)

-- the entries after the first i of them
pub entries_left : (p : Program) (is : List ℕ) (i n : ℕ) → i < length is → n ≡ slice_index is i →
    entries_of p (drop i is) ≡ entry_by p.texts (slice_get p.commands n) ∷ entries_of p (drop (i + 1) is)
entries_left p is i n lt at = rw at (ap (entries_of p) (drop_more is i 0 lt))

pub entries_none : (p : Program) (is : List ℕ) (i : ℕ) → length is ≤ i → entries_of p (drop i is) ≡ []
entries_none p is i le = ap (entries_of p) (drop_of_length-le is le)

pub entries_fewer : (p : Program) (is : List ℕ) (i : ℕ) (queue : List Entry) → queue ≡ entries_of p is → length (entries_of p (drop i is)) ≤ length queue
entries_fewer p is i queue same = omega (arith, length-entries_of p (drop i is), length-entries_of p is, length-drop i is, ap length same)
