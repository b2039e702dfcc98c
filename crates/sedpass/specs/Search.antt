-- Private to the proofs: no contract that `sedmatch` makes public cites what is here.
-- Searches in one text, from places that don't fall: what they find, and what they may cost.
use Rattle.std.specs.Prelude.{◌≡◌, ℕ, max, nat_le, ◌+◌, ◌-◌, ◌*◌, ◌/◌, ◌<◌, ◌≤◌, if◌then◌else◌, List, length, Option, Some, None, IfSome, IsTrue}
use Rattle.sedre.specs.Tree.{expression_tree, Tree, WrittenExpression}
use Rattle.sedre.specs.Steps.{TakesAtLeast, CostsWithin}
use Rattle.sedtext.specs.Answer.{SpanAnswer}
use Rattle.sedtext.specs.Hints.{NoneIn}
use Rattle.sedtext.specs.Spans.{IsLeftmostLongest, NotFound}
use Rattle.sedpass.specs.Table.{IsForwardOne, SameShape}
use Rattle.sedpass.specs.Kept.{IsKept, SameSpace, owed_region}
use Rattle.sedpass.specs.declared.table.Table.{Table}
use Rattle.sedpass.specs.declared.kept.Kept.{Kept}
use Rattle.sedpass.specs.declared.kept.Region.{Region}
use Rattle.sedpass.specs.declared.search.Seeking.{Seeking}
use Rattle.sedpass.specs.declared.search.Trials.{Trials}
use Rattle.sedpass.specs.declared.search.Trials.TheVariants.{Hit, Nothing, Tired}

-- what is kept of a pass from the text's end is right
pub record SearchServes (e : WrittenExpression) (w : List ℕ) (reverse_any : Table) (s : Seeking) : Type 0 where
  pub kept : IsKept e w reverse_any s.kept
  pub all_starts : IsTrue reverse_any.way.all_starts

-- a search may be made: the table of passes forwards is right, and what is kept serves
pub record MaySearch (e : WrittenExpression) (w : List ℕ) (a b : Table) (s : Seeking) : Type 0 where
  pub forward_one : IsForwardOne e a
  pub serves : SearchServes e w b s

-- from a and b, forward_one and reverse_any, the tables came to be a' and b', of the same shapes, the first is right, and there is as
-- much room for what is kept
pub record TablesStay (e : WrittenExpression) (a a' b b' : Table) (k k' : Kept) : Type 0 where
  pub forward_one : IsForwardOne e a'
  pub forward_one_shape : SameShape a a'
  pub reverse_any_shape : SameShape b b'
  pub space : SameSpace k k'

-- a search was made, which leaves all as the next one in the text needs it
pub record Searched (e : WrittenExpression) (w : List ℕ) (a a' b b' : Table) (s s' : Seeking) : Type 0 where
  pub tables : TablesStay e a a' b b' s.kept s'.kept
  pub serves : SearchServes e w b' s'

-- what trials from the place on found
abbrev pub TrialsAnswer : Tree → List ℕ → ℕ → Trials → Type 0
TrialsAnswer e w from (Hit i j) = IsLeftmostLongest e w from i j × (j ≤ length w)
TrialsAnswer e w from Nothing = NotFound e w from
TrialsAnswer e w from (Tired k) = (from ≤ k) × (k ≤ length w) × NoneIn e w from k

-- each byte from the place on up to a match's end was looked at, and one look more was made
abbrev pub LooksFrom : ℕ → ℕ → ℕ → Option (ℕ × ℕ) → Type 0
LooksFrom from before after r = IfSome r (λ f. TakesAtLeast before after (f.1 + 1 - from))

-- so it is where trials found one, and each byte before the place that they came to was looked at
abbrev pub LooksInTrials : ℕ → ℕ → ℕ → Trials → Type 0
LooksInTrials from before after (Hit i j) = LooksFrom from before after (Some (i, j))
LooksInTrials from before after (Tired k) = TakesAtLeast before after (k - from)
LooksInTrials from before after Nothing = Unit {0}

-- what is kept is right, and the answer is the match from the place on, up to whose end each byte was looked at
pub record IsNextMatch (e : WrittenExpression) (w : List ℕ) (from : ℕ) (reverse_any : Table) (k : Kept) (before after : ℕ) (r : Option (ℕ × ℕ)) : Type 0 where
  pub kept : IsKept e w reverse_any k
  pub answer : SpanAnswer (expression_tree e) w from r
  pub counts : LooksFrom from before after r

-- Costs, with m nodes in a text of n bytes.

-- how many bytes from the text's beginning on trials looked at to see where matches can begin
abbrev pub trials_to : ℕ → Trials → ℕ
trials_to n (Hit i j) = i + 1
trials_to n Nothing = n + 1
trials_to n (Tired k) = k

-- the places that are in no match, and those of the match found
abbrev pub trials_room : ℕ → Trials → ℕ
trials_room tried (Hit i j) = tried + (j + 1 - i)
trials_room tried other = tried

-- trials from the place on found this: in so many steps, and over so many places in no match, before and after; none is made where they
-- went over more places than the text has
pub record TrialsMade (e : Tree) (w : List ℕ) (m from tried tried' before after : ℕ) (r : Trials) : Type 0 where
  pub answer : TrialsAnswer e w from r
  pub few : trials_room tried' r ≤ max tried (length w / 8) + (length w + 1 - from)
  pub cost : CostsWithin before after (40 * m * trials_room tried' r + 3 * trials_to (length w) r) (40 * m * tried + 3 * from)
  pub counts : LooksInTrials from before after r
  pub enough : length w < tried → r ≡ Tired from
  pub none : r ≡ Tired from → tried' ≡ tried

-- of one search from a place on, whatever was found out before it: by a pass from the text's end over the rest of the text, or by
-- trials over that rest and an eighth of the text besides, and by such a pass after them, from a later place on
abbrev pub search_cost : ℕ → ℕ → ℕ → ℕ
search_cost m n from = m * (5 * n + 142 * (n - from) + 40 * (n - from - 1) + 44)

-- the steps that searches from a place on may still take, over what one search takes besides: by the pass from the text's end,
abbrev pub owed_kept : ℕ → ℕ → Region → ℕ → ℕ
owed_kept m n r place = owed_region m r place + 42 * m * (n - place)

-- by that or by trials,
abbrev pub owed_seeking : ℕ → ℕ → Seeking → ℕ → ℕ
owed_seeking m n s place =
    if nat_le s.tried n then 40 * m * (2 * n + 1 - s.tried) + 142 * m * (n - place) else owed_kept m n s.kept.region place

-- and after an answer: none where there is no match
abbrev pub owed_after_search : (ℕ → ℕ) → Option (ℕ × ℕ) → ℕ
owed_after_search due None = 0
owed_after_search due (Some f) = due f.1

-- Of all occurrences in one text.

-- the steps that the searches after an occurrence that ended at the place may still take: two for each byte of the rest of the text,
-- and two more
abbrev pub owed_behind : ℕ → ℕ → Seeking → ℕ → ℕ
owed_behind m n s place = owed_seeking m n s place + 86 * m * (n + 1 - place)
