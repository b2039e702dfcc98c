-- Blocks (XCU sed, "Editing Commands in sed": `{`).
use Rattle.std.specs.Prelude.{◌≡◌, ℕ, List, [], ◌∷◌, ◌++◌, false}
use Rattle.sedscript.specs.declared.letters.Verb.{Verb}
use Rattle.sedscript.specs.declared.letters.Verb.TheVariants.{Open, Close}
use Rattle.sedscript.specs.declared.items.Item.{Item}
use Rattle.sedscript.specs.Letters.{is_open, is_close}

-- each opening brace among the items has its closing one, and each closing one its opening one
pub data BracesMatch : List Item → Type 0 where
  none : BracesMatch []
  other : (i : Item) (rest : List Item) → is_open i.verb ≡ false → is_close i.verb ≡ false → BracesMatch rest →
      BracesMatch (i ∷ rest)
  block : (i j : Item) (inner rest : List Item) → i.verb ≡ Open → BracesMatch inner → j.verb ≡ Close →
      BracesMatch rest → BracesMatch (i ∷ inner ++ j ∷ rest)

-- this brace is at a place among the items, these come after it, and up to it all braces match
pub record BraceAt (verb : Verb) (items : List Item) (place : ℕ) (after : List Item) : Type 0 where
  pub before : List Item
  pub brace : Item
  pub are : items ≡ before ++ brace ∷ after
  pub is : brace.verb ≡ verb
  pub match : BracesMatch before
  pub there : place ≡ brace.place

-- the closing brace at this place is the first that closes nothing
abbrev pub IsStray : List Item → ℕ → Type 0
IsStray items place = (after : List Item) × BraceAt Close items place after

-- the opening brace at this place is the first that nothing closes, and so the outermost of them
abbrev pub IsUnclosed : List Item → ℕ → Type 0
IsUnclosed items place = (after : List Item) × BraceAt Open items place after
    × ((inner rest : List Item) (j : Item) → after ≡ inner ++ j ∷ rest → BracesMatch inner → j.verb ≡ Close → ⊥)
