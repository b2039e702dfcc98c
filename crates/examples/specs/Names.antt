-- Names, each once (XCU sed, "Editing Commands in sed": `r` and `w`).
use Rattle.std.specs.Prelude.{◌≡◌, ◌≤◌, ◌<◌, ℕ, List, Some, slice_get, filter_map}
use Rattle.sedscript.specs.declared.types.FileUse.{FileUse}
use Rattle.sedscript.specs.declared.items.Item.{Item}
use Rattle.sedscript.specs.Script.{file_in, name_in}

-- the names of files that the items read, or write, one after the other. That of the standard output isn't a file's,
-- where it is written to
abbrev pub names_of : FileUse → List ℕ → List Item → List (List ℕ)
names_of u text items = filter_map (λ i. file_in u (name_in u text i.verb i.argument)) items

-- a name occurs among these before another one does
abbrev pub ComesBefore : List (List ℕ) → List ℕ → List ℕ → Type 0
ComesBefore names a b = (k : ℕ) × (slice_get names k ≡ Some a) × ((j : ℕ) → j ≤ k → slice_get names j ≡ Some b → ⊥)

-- these are the names, each once, in the order in which they first occur
pub record EachOnce (names once : List (List ℕ)) : Type 0 where
  pub of_them : (i : ℕ) (a : List ℕ) → slice_get once i ≡ Some a → (k : ℕ) × (slice_get names k ≡ Some a)
  pub all : (k : ℕ) (a : List ℕ) → slice_get names k ≡ Some a → (i : ℕ) × (slice_get once i ≡ Some a)
  pub unrepeated : (i j : ℕ) (a : List ℕ) → slice_get once i ≡ Some a → slice_get once j ≡ Some a → i ≡ j
  pub in_order : (i j : ℕ) (a b : List ℕ) → i < j → slice_get once i ≡ Some a → slice_get once j ≡ Some b →
      ComesBefore names a b
