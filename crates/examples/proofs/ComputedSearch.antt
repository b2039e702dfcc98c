-- A search computed from an expression's text on: what it reads as, its leftmost-longest match and what the groups report.
use Rattle.std.proofs.Common.{◌≡◌, ℕ, ◌-◌, ◌≤◌, List, ◌∷◌, ◌++◌, length, Bool, false, true, Option, Some, None, refl, subst}
use Rattle.std.specs.Prelude.{replicate, nat_le}
use Rattle.std.proofs.lemmas.Bool.{leb-true}
use Rattle.sedre.specs.declared.types.Kind.{Kind}
use Rattle.sedre.specs.Tree.{Tree}
use Rattle.sedre.specs.Sets.{set_of}
use Rattle.sedre.specs.Tokens.{token_at, front_interval}
use Rattle.sedre.specs.Brackets.{list_at}
use Rattle.sedre.specs.Grammar.{ReadsAs}
use Rattle.examples.proofs.ComputedReading.{Outcome, reads, faulty, unfinished, outcome, rest_of, outcome_holds, Holds}
use Rattle.sedmatch.specs.Spans.{IsLeftmostLongest, NotFound}
use Rattle.sedmatch.specs.Caps.{IsReport}
use Rattle.sedmatch.specs.Groups.{SpansOfGroups}
use Rattle.sedmatch.specs.Matching.{any, greatest, copies, spans, longest, found_from, leftmost_longest, greatest_cut, first_copy, last_start, groups_after, reported_groups}
use Rattle.sedmatch.proofs.MatchingLemmas.{found-iff, not_found-iff, report-iff}

-- the whole match and the first groups, as they are reported; the other groups have no span
abbrev pub spans_are : ℕ × ℕ → List (Option (ℕ × ℕ)) → SpansOfGroups
spans_are whole groups = Some whole ∷ groups ++ replicate (9 - length groups) None

-- the expression, sought in w from place p on, matches the whole first, and its groups have these spans
pub record Finds (kind : Kind) (expression w : List ℕ) (p : ℕ) (whole : ℕ × ℕ) (groups : List (Option (ℕ × ℕ))) : Type 0 where
  pub tree : Tree
  pub count : ℕ
  pub reads_so : ReadsAs kind false None expression tree count
  pub is_found : IsLeftmostLongest tree w p whole.0 whole.1
  pub reports : IsReport tree w whole.0 whole.1 (spans_are whole groups)

-- the expression matches nothing in w from place p on
pub record FindsNothing (kind : Kind) (expression w : List ℕ) (p : ℕ) : Type 0 where
  pub tree : Tree
  pub count : ℕ
  pub reads_so : ReadsAs kind false None expression tree count
  pub is_not_found : NotFound tree w p

-- what a search comes to; no_answer where the expression has a fault, or the place is after the text's end
pub data Answer : Type 0 where
  matched : (i j : ℕ) → SpansOfGroups → Answer
  nothing : Answer
  no_answer : Answer

abbrev with_groups : Tree → List ℕ → Option (ℕ × ℕ) → Answer
with_groups e w None = nothing
with_groups e w (Some f) = matched f.0 f.1 (reported_groups e w f.0 f.1)

abbrev answer : Outcome → (within : Bool) → List ℕ → ℕ → Answer
answer (reads e count) true w p = with_groups e w (leftmost_longest e w p)
answer (reads e count) false w p = no_answer
answer (faulty place reason) within w p = no_answer
answer unfinished within w p = no_answer

-- the expression sought in w from place p on
unfoldable pub search : Kind → (expression w : List ℕ) → ℕ → Answer
unfolding outcome rest_of token_at front_interval list_at set_of any greatest copies spans longest found_from leftmost_longest greatest_cut first_copy last_start groups_after reported_groups
search kind expression w p = answer (outcome kind false None expression 65536) (nat_le p (length w)) w p

-- what the definitions say of an answer
abbrev Says : Tree → List ℕ → ℕ → Answer → Type 0
Says e w p (matched i j groups) = IsLeftmostLongest e w p i j × IsReport e w i j groups
Says e w p nothing = NotFound e w p
Says e w p no_answer = Unit {0}

says_so : (e : Tree) (w : List ℕ) (p : ℕ) → p ≤ length w → (r : Option (ℕ × ℕ)) → leftmost_longest e w p ≡ r → Says e w p (with_groups e w r)
says_so e w p fits None is = (not_found-iff e w p fits).0 is
says_so e w p fits (Some f) is =
    let there : IsLeftmostLongest e w p f.0 f.1 = (found-iff e w p f.0 f.1 fits).0 is in
    (there, (report-iff e w f.0 f.1 (reported_groups e w f.0 f.1) there.spans).0 refl)

-- what an answer to an expression's text says
abbrev SaysOf : Kind → (expression w : List ℕ) → ℕ → Answer → Type 0
SaysOf kind expression w p no_answer = Unit {0}
SaysOf kind expression w p r = (e : Tree) × (count : ℕ) × ReadsAs kind false None expression e count × Says e w p r

with_tree : (kind : Kind) (expression w : List ℕ) (p : ℕ) (e : Tree) (count : ℕ) → ReadsAs kind false None expression e count →
    (r : Answer) → Says e w p r → SaysOf kind expression w p r
with_tree kind expression w p e count h (matched i j groups) says = (e, count, h, says)
with_tree kind expression w p e count h nothing says = (e, count, h, says)
with_tree kind expression w p e count h no_answer says = tt

answer_holds : (kind : Kind) (expression w : List ℕ) (p : ℕ) (o : Outcome) (within : Bool) → nat_le p (length w) ≡ within →
    Holds kind false None expression 65536 o → SaysOf kind expression w p (answer o within w p)
answer_holds kind expression w p (reads e count) true is h =
    with_tree kind expression w p e count h.0 (with_groups e w (leftmost_longest e w p)) (says_so e w p (leb-true p (length w) is) (leftmost_longest e w p) refl)
answer_holds kind expression w p (reads e count) false is h = tt
answer_holds kind expression w p (faulty place reason) within is h = tt
answer_holds kind expression w p unfinished within is h = tt

-- what is computed is what the definitions say
search_holds : (kind : Kind) (expression w : List ℕ) (p : ℕ) → SaysOf kind expression w p (search kind expression w p)
unfolding search
search_holds kind expression w p =
    answer_holds kind expression w p (outcome kind false None expression 65536) (nat_le p (length w)) refl
    (outcome_holds kind false None expression 65536)

pub finds : {kind : Kind} {expression w : List ℕ} {p : ℕ} {whole : ℕ × ℕ} {groups : List (Option (ℕ × ℕ))} →
    search kind expression w p ≡ matched whole.0 whole.1 (spans_are whole groups) → Finds kind expression w p whole groups
finds {kind = kind} {expression = expression} {w = w} {p = p} is =
    let says = subst (SaysOf kind expression w p) is (search_holds kind expression w p) in
    record { tree = says.0; count = says.1; reads_so = says.2; is_found = says.3.0; reports = says.3.1 }

pub finds_nothing : {kind : Kind} {expression w : List ℕ} {p : ℕ} → search kind expression w p ≡ nothing → FindsNothing kind expression w p
finds_nothing {kind = kind} {expression = expression} {w = w} {p = p} is =
    let says = subst (SaysOf kind expression w p) is (search_holds kind expression w p) in
    record { tree = says.0; count = says.1; reads_so = says.2; is_not_found = says.3 }
