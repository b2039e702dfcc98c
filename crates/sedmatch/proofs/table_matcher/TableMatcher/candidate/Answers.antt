use Rattle.sedmatch.proofs.Words.{◌≡◌, ℕ, ◌+◌, ◌≤◌, List, Option, Some, arith, ◌++◌, length, length-append, rules, Tree, expression_tree, slice_get, get_or-append-add, get_or_append_left, slice_get_within, slice_get-get_or, get_or_from_slice_get, OccursAt, Matches, FirstFrom, PassesSieve, NoMatchBefore, ComesFirst, IsAnalysis}
use Rattle.sedmatch.proofs.table_matcher.TableMatcher.candidate.Goals as goal

-- A part of a text.
module _ (before line behind : List ℕ) where
  abbrev whole : List ℕ
  whole = before ++ (line ++ behind)

  byte_there : (i c : ℕ) → slice_get line i ≡ Some c → slice_get whole (length before + i) ≡ Some c
  byte_there i c is = grind (arith, length-append, get_or-append-add, get_or_append_left, slice_get_within line i c is, slice_get-get_or whole (length before + i) c, get_or_from_slice_get line i c c is)

  occurs_there : (x : List ℕ) (p : ℕ) → OccursAt line x p → OccursAt whole x (length before + p)
  occurs_there x p h = grind (arith, length-append, get_or-append-add, get_or_append_left)

-- what is true of a place in each part of a text that has a match
shown_before : (P : List ℕ → ℕ → Type 0) (e : Tree) (w : List ℕ) (r : Option ℕ) → ((before line behind : List ℕ) (i : ℕ) → P line i → P (before ++ (line ++ behind)) (length before + i)) →
    ((v : List ℕ) (i j : ℕ) → i ≤ length v → Matches e v i j → (k : ℕ) × (k ≤ length v) × P v k) → FirstFrom (P w) 0 r → NoMatchBefore e w r
shown_before P e w r there all none before line behind is ends found =
    grind (arith, is, none, ends, all line found.0 found.1 found.3 found.4, there before line behind)

pub returns-in-Stretch-clause-before : goal.returns-in-Stretch-clause-before
returns-in-Stretch-clause-before c =
    let form = rw (c.in-Stretch.is) at (rw (c.self.view_is, c.in-Direct.is) at c.self.invariant).0 in
    shown_before (ComesFirst c.in-Stretch.stretch.first) (expression_tree c.args.self.now) c.args.text.now _ (λ before line behind i at. grind (arith, byte_there before line behind))
    (λ v i j low at. (i, low, ((form v i j low).0 at).0.0)) c.find_first.ensures.first

pub returns-in-Literal-clause-before : goal.returns-in-Literal-clause-before
returns-in-Literal-clause-before c =
    let form = rw (c.in-Literal.is) at (rw (c.self.view_is, c.in-Direct.is) at c.self.invariant).0 in
    shown_before (λ v. OccursAt v c.in-Literal.finder) (expression_tree c.args.self.now) c.args.text.now _ (λ before line behind. occurs_there before line behind c.in-Literal.finder)
    (λ v i j low at. (i, low, ((form v i j low).0 at).0)) c.find_literal.ensures.first

pub returns-in-Some-default-clause-before : goal.returns-in-Some-default-clause-before
returns-in-Some-default-clause-before c =
    let literal = c.in-Some-default.required.finder in
    let analysis : IsAnalysis c.args.self.now c.deref.result.now.analysis = rw (c.deref.ensures, ← c.self.view_is) (rw c.in-Passes.is at c.self.invariant).0 in
    let required = rw c.in-Some-default.is-0 at analysis.hints.required in
    shown_before (λ v. OccursAt v literal) (expression_tree c.args.self.now) c.args.text.now _ (λ before line behind. occurs_there before line behind literal)
    (λ v i j low at. let held = required v i j low at in (held.0, omega (arith, held.3.fits), held.3)) c.find_literal-in-Some-default.ensures.first

pub returns-in-None-Before-clause-before : goal.returns-in-None-Before-clause-before
returns-in-None-Before-clause-before c =
    let s = c.in-None-Before.sieve in
    let analysis : IsAnalysis c.args.self.now c.deref.result.now.analysis = rw (c.deref.ensures, ← c.self.view_is) (rw c.in-Passes.is at c.self.invariant).0 in
    let begins = rw c.in-None-Before.is-1 at analysis.hints.begins in
    shown_before (PassesSieve s) (expression_tree c.args.self.now) c.args.text.now _ (λ before line behind i at. search (rules, byte_there before line behind)) (λ v i j low at. (i, low, begins v i j at)) c.sift.ensures.first
