-- What the searches for all occurrences in one text keep, and what they may cost. `Occurrences::new` and `begin` give it, and callers
-- hand it on from call to call, so that nobody has to read it.
use Rattle.std.specs.Prelude.{◌≡◌, ℕ, ◌+◌, ◌-◌, ◌*◌, ◌≤◌, ◌⊎◌, false, if◌then◌else◌, List, length, slice_get, Option, Some, None, IfSome, IsTrue}
use Rattle.sedre.specs.Steps.{Takes, TakesAtLeast, CostsWithin}
use Rattle.sedre.specs.Tree.{WrittenExpression, expression_tree}
use Rattle.sedtext.specs.Following.{CanEndEarly, OccursAfter, bytes_passed, next_span}
use Rattle.sedtext.specs.Matching.{leftmost_longest}
use Rattle.sedpass.specs.Kept.{KeptRoom}
use Rattle.sedpass.specs.Search.{SearchServes, owed_behind}
use Rattle.sedpass.specs.Table.{IsRoomy, IsTable}
use Rattle.sedpass.specs.declared.search.Seeking.{Seeking}
use Rattle.sedpass.specs.declared.table.Table.{Table}
use Rattle.sedmatch.specs.Passes.{reverse_any_way}
use Rattle.sedmatch.specs.declared.occurrences.Occurrences.{Occurrences}

-- the table is for such passes over the expression
abbrev pub IsReverseAny : WrittenExpression → Table → Type 0
IsReverseAny e t = (t.way ≡ reverse_any_way) × IsTable e t

-- the table in the list for the expression e, of number x, is for it, where there is one
abbrev pub HasOwn : ℕ → WrittenExpression → List (Option Table) → Type 0
HasOwn x e own = (t : Table) → slice_get own x ≡ Some (Some t) → IsReverseAny e t

-- there is room for texts of `text` bytes and for the expression e, of number x: the table that serves all can be fitted to it, and
-- where it has one of its own, that is for it
pub record RoomAt (text x : ℕ) (e : WrittenExpression) (o : Occurrences) : Type 0 where
  pub shared : IsRoomy (length e.nodes) o.shared × (o.shared.way ≡ reverse_any_way) × KeptRoom (length e.nodes) text o.shared o.seeking.kept
  pub few : length o.seeking.kept.edges ≤ 65536
  pub own : HasOwn x e o.own.items

-- there is room for each of these expressions
pub record RoomFor (text : ℕ) (es : List WrittenExpression) (o : Occurrences) : Type 0 where
  pub each : (x : ℕ) (e : WrittenExpression) → slice_get es x ≡ Some e → RoomAt text x e o

-- there is as much room as before for all expressions, of which e is the one that is sought
abbrev pub KeepsRoom : WrittenExpression → Occurrences → Occurrences → Type 0
KeepsRoom e old new = (new.number ≡ old.number) × ((text : ℕ) (es : List WrittenExpression) → slice_get es old.number ≡ Some e → RoomFor text es old → RoomFor text es new)

-- the table in use, the expression's own or that of all, serves it in the text
pub record HasTable (e : WrittenExpression) (w : List ℕ) (o : Occurrences) : Type 0 where
  pub own : IsTrue o.by_own → (t : Table) × (slice_get o.own.items o.number ≡ Some (Some t)) × SearchServes e w t o.seeking
  pub shared : o.by_own ≡ false → SearchServes e w o.shared o.seeking

-- there is as much room as before, also for this expression in this text, and a table serves it there
pub record IsReady (e : WrittenExpression) (w : List ℕ) (old new : Occurrences) : Type 0 where
  pub keeps : KeepsRoom e old new
  pub room : RoomAt (length w) new.number e new
  pub table : HasTable e w new

-- what is kept serves to search the text after an occurrence that ended at the place, if there is one
pub record ServesFrom (e : WrittenExpression) (w : List ℕ) (last : Option ℕ) (o : Occurrences) : Type 0 where
  pub room : RoomAt (length w) o.number e o
  pub fresh : last ≡ None → IsTrue o.is_fresh
  pub used : o.is_fresh ≡ false → HasTable e w o

-- there is as much room as before, and what is kept serves to search after the occurrence found, if there is one
abbrev pub ServesOn : WrittenExpression → List ℕ → Option (ℕ × ℕ) → Occurrences → Occurrences → Type 0
ServesOn e w r old new = KeepsRoom e old new × IfSome r (λ f. ServesFrom e w (Some f.1) new)

-- The steps that searches by passes may still take, with m nodes in a text of n bytes, after an occurrence that ended at the place.
abbrev pub owed_search : ℕ → ℕ → Option ℕ → Seeking → ℕ
owed_search m n None s = owed_behind m n s 0 + 43 * m + n
owed_search m n (Some q) s = owed_behind m n s q

-- those that looks at the text may
abbrev pub owed_direct : ℕ → Option ℕ → ℕ
owed_direct n None = 8 * (n + 1) + 4
owed_direct n (Some q) = 8 * (n + 1 - q)

-- and those that either may
abbrev pub owed : ℕ → ℕ → Option ℕ → Occurrences → ℕ
owed m n None o = 416 * m * (n + 1)
owed m n (Some q) o = if o.is_fresh then 372 * m * (n + 1) + owed_direct n (Some q) else owed_behind m n o.seeking q

abbrev pub owed_after : ℕ → ℕ → Option (ℕ × ℕ) → Occurrences → ℕ
owed_after m n None o = 0
owed_after m n (Some f) o = owed m n (Some f.1) o

-- a pass over a text that isn't short, before its first search, or none
abbrev pub IsLook : ℕ → ℕ → Option ℕ → ℕ → ℕ → Type 0
IsLook m n last before after = ((last ≡ None) × (16 ≤ n) × Takes before after (43 * m * (n + 1))) ⊎ (after ≡ before)

-- what that search takes, by itself and of what all searches in the text may, so that such a pass is paid for too
abbrev pub TakesFirst : ℕ → ℕ → Occurrences → ℕ → ℕ → Option (ℕ × ℕ) → Type 0
TakesFirst m n new before after r = CostsWithin before after (309 * m * (n + 1)) (owed_after m n r new) × Takes before after (193 * m * (n + 1))

-- what one call answers: the next occurrence after the last one; what is kept serves on, and pays for the steps
pub record AnswersNext (e : WrittenExpression) (w : List ℕ) (last : Option ℕ) (old new : Occurrences) (before after : ℕ) (r : Option (ℕ × ℕ)) : Type 0 where
  pub next : r ≡ next_span (leftmost_longest (expression_tree e) w) (length w) last
  pub occurs : IfSome r (OccursAfter (expression_tree e) w last)
  pub serves : ServesOn e w r old new
  pub cost : CostsWithin before after (owed (length e.nodes) (length w) last old) (owed_after (length e.nodes) (length w) r new)
  pub once : Takes before after (64 * length e.nodes * length e.nodes * (length w + 1) * (length w + 1))
  pub counts : IfSome r (λ f. TakesAtLeast before after (f.1 - f.0))
  pub passes : CanEndEarly (expression_tree e) → IfSome r (λ f. TakesAtLeast before after (bytes_passed last f))
