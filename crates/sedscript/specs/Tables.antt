-- Private to the proofs: no contract of a public item cites what is here.
-- The tables by which labels, blocks and files are found without searching anew.
use Rattle.std.specs.Prelude.{◌≡◌, ℕ, suc, List, [], ◌∷◌, ◌++◌, drop, Bool, true, false, not, ◌==◌, Option, Some, None, if◌then◌else◌, map}
use Rattle.std.specs.Borrow.{Bor}
use Rattle.std.specs.BTreeMap.{BTreeMap, get_by}
use Rattle.std.specs.Cmp.Lexicographic.{slice_cmp}
use Rattle.std.specs.List.{list_any, position_from}
use Rattle.std.specs.Ordering.{nat_cmp}
use Rattle.std.specs.Str.{bytes_eq}
use Rattle.sedscript.specs.declared.targets.FirstLabel.{FirstLabel}
use Rattle.sedscript.specs.declared.files.Files.{Files}
use Rattle.sedscript.specs.declared.files.NumberedFiles.{NumberedFiles}
use Rattle.sedscript.specs.Types.{Item, Verb}
use Rattle.sedscript.specs.Script.{read_files, written_files, is_label, count_with, commands_in, close_in, block_end}
use Rattle.sedscript.specs.Letters.{is_open, is_close}

-- the first item with a label of this name, and the number of the command after it, where the items begin with this
-- index and so many commands before them
abbrev pub first_labelled : List ℕ → List ℕ → ℕ → ℕ → List Item → Option FirstLabel
first_labelled text name k n [] = None
first_labelled text name k n (i ∷ is) =
    if is_label text name i.verb i.argument then Some (record { item = k; number = n })
    else first_labelled text name (suc k) (count_with n i) is

-- whether the first item with a label is another one than that at an index; false where no item has the label
abbrev pub is_earlier : ℕ → Option FirstLabel → Bool
is_earlier k None = false
is_earlier k (Some l) = not (l.item == k)

-- the value that the map has at a name
abbrev pub labelled : {V : Type 0} → BTreeMap (Bor (List ℕ)) V → List ℕ → Option V
labelled m name = get_by (λ x. slice_cmp nat_cmp name x.now) m

-- the map has the first item with a label of each name
abbrev pub LabelsAre : List ℕ → List Item → BTreeMap (Bor (List ℕ)) FirstLabel → Type 0
LabelsAre text items m = (name : List ℕ) → labelled m name ≡ first_labelled text name 0 0 items

-- where the closing braces from a function on lead that close no block opened there, in order, with `n` commands before
-- the function, given where those after it lead
abbrev pub unopened_by : ℕ → Verb → List ℕ → List ℕ
unopened_by n verb ends = if is_close verb then n ∷ ends else if is_open verb then drop 1 ends else ends

-- where the closing braces of the items lead that close no block opened there, in order, with `n` commands before them
abbrev pub unopened : ℕ → List Item → List ℕ
unopened n [] = []
unopened n (i ∷ is) = unopened_by n i.verb (unopened (count_with n i) is)

-- the number of blocks opened up to and including a function, given the number before it
abbrev pub opened : ℕ → Verb → ℕ
opened n verb = if is_open verb then suc n else n

-- how many blocks the items open
abbrev pub blocks_in : List Item → ℕ
blocks_in [] = 0
blocks_in (i ∷ is) = opened (blocks_in is) i.verb

-- the ends of blocks, with that of the block that a function opens before them, if it opens one
abbrev pub with_end : Verb → Option ℕ → List (Option ℕ) → List (Option ℕ)
with_end verb end ends = if is_open verb then end ∷ ends else ends

-- the end of each block that the items open, in order, with so many commands before them
abbrev pub ends_in : ℕ → List Item → List (Option ℕ)
ends_in n [] = []
ends_in n (i ∷ is) = with_end i.verb (close_in 0 (count_with n i) is) (ends_in (count_with n i) is)

-- where a function between these items opens a block, that ends there
abbrev pub EndIs : List Item → List Item → Verb → Option ℕ → Type 0
EndIs before after verb end = is_open verb ≡ true → end ≡ block_end before after

-- the names with one more, if it is new
abbrev pub with_name : List (List ℕ) → Option (List ℕ) → List (List ℕ)
with_name names None = names
with_name names (Some name) = if list_any (bytes_eq name) names then names else names ++ name ∷ []

-- the map has the number of each of the names, counted from the first
abbrev pub NumbersAre : ℕ → List (List ℕ) → BTreeMap (Bor (List ℕ)) ℕ → Type 0
NumbersAre first names m = (name : List ℕ) → labelled m name ≡ position_from (bytes_eq name) first names

-- these are the names of the files, and their numbers, counted from the first
pub record AreNumbered (first : ℕ) (names : List (List ℕ)) (f : NumberedFiles) : Type 0 where
  pub names_are : map (λ n. n.items) f.names.items ≡ names
  pub numbered_so : NumbersAre first names f.numbers

-- the files that the items name; 0 is the number of the standard output
pub record FilesAre (text : List ℕ) (items : List Item) (f : Files) : Type 0 where
  pub read : AreNumbered 0 (read_files text items) f.read
  pub written : AreNumbered 1 (written_files text items) f.written

-- the tables are those of all items
pub record TargetsAre (text : List ℕ) (items : List Item) (labels : BTreeMap (Bor (List ℕ)) FirstLabel)
    (ends : List (Option ℕ)) (commands : ℕ) : Type 0 where
  pub labelled_so : LabelsAre text items labels
  pub ends_are : ends ≡ ends_in 0 items
  pub commands_are : commands ≡ commands_in items
