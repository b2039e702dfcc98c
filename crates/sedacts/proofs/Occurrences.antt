-- The occurrences in a text, one after another.
use Rattle.std.proofs.Common.{◌≡◌, ℕ, zero, suc, ◌+◌, ◌-◌, ◌<◌, ◌≤◌, List, [], ◌∷◌, Bool, true, false, length, drop, Option, Some, None, refl, sym, subst, ap, ◌∙◌, arith, add-one}
use Rattle.std.specs.Prelude.{◌&&◌, nat_eq, nat_lt, if◌then◌else◌}
use Rattle.std.proofs.lemmas.List.{drop-drop}
use Rattle.std.proofs.Math.Seq.{drop-nil}
use Rattle.std.proofs.lemmas.Bool.Decides.{nat_tests}
use Rattle.sedre.specs.Tree.{WrittenExpression, expression_tree}
use Rattle.sedmatch.specs.Matching.{leftmost_longest, unless_null_at}
use Rattle.sedmatch.specs.Following.{EndsWithin, LiesOn, next_span}
use Rattle.sedmatch.proofs.MatchingLemmas.{found-iff, IsLeftmostLongest-within}
use Rattle.sedmatch.proofs.SpanLemmas.{Matches-forward, Matches-within}
use Rattle.sedacts.specs.Substitute.{Occurrence, occurrences_from}
use Rattle.sedacts.specs.State.{search_for, occurrence_at_span}
use Rattle.sedacts.specs.SubstituteParts.{next_occurrence, Skips, occurrences_after, pending}
use Rattle.std.specs.Option.{option_map, option_map_or}

-- the next occurrence is that of the next span
chosen : {X Y : Type 0} (f : X → Y) (b : Bool) (x y : Option X) → option_map f (if b then x else y) ≡ (if b then option_map f x else option_map f y)
chosen f true x y = refl
chosen f false x y = refl

past_null : (e : WrittenExpression) (w : List ℕ) (q : ℕ) (x y : Option (ℕ × ℕ)) → option_map (occurrence_at_span e w) (unless_null_at (λ f. f) q x y)
    ≡ unless_null_at (λ (m : Occurrence). (m.start, m.end)) q (option_map (occurrence_at_span e w) x) (option_map (occurrence_at_span e w) y)
past_null e w q None y = refl
past_null e w q (Some f) y = chosen (occurrence_at_span e w) (nat_eq f.0 q && nat_eq f.1 q) y (Some f)

pub occurrence_as : (e : WrittenExpression) (w : List ℕ) (last : Option ℕ) → option_map (occurrence_at_span e w) (next_span (leftmost_longest (expression_tree e) w) (length w) last) ≡ next_occurrence (search_for e w) (length w) last
occurrence_as e w None = refl
occurrence_as e w (Some q) =
    let search = leftmost_longest (expression_tree e) w in
    past_null e w q (search q) (if nat_lt q (length w) then search (q + 1) else None)
    ∙ ap (λ y. unless_null_at (λ (m : Occurrence). (m.start, m.end)) q (search_for e w q) y) (chosen (occurrence_at_span e w) (nat_lt q (length w)) (search (q + 1)) None)

-- a match lies in the text, after the place from which it is sought
pub found_lies : (e : WrittenExpression) (w : List ℕ) (p i j : ℕ) → p ≤ length w → leftmost_longest (expression_tree e) w p ≡ Some (i, j) →
    (p ≤ i) × (i ≤ j) × (j ≤ length w)
found_lies e w p i j fits is =
    let f = (found-iff (expression_tree e) w p i j fits).0 is in
    let within : i ≤ length w = IsLeftmostLongest-within (expression_tree e) w p i j fits f in
    (f.after, Matches-forward (expression_tree e) w i j f.spans, Matches-within (expression_tree e) w i j within f.spans)

-- a match from a place on, in a text of n bytes
abbrev LiesFrom : ℕ → ℕ → Occurrence → Type 0
LiesFrom n p m = (p ≤ m.start) × (m.start ≤ m.end) × (m.end ≤ n)

-- where matches lie that are sought in a text of n bytes
pub record Ordered (sought : ℕ → Option Occurrence) (n : ℕ) : Type 0 where
  pub lies : (p : ℕ) (m : Occurrence) → p ≤ n → sought p ≡ Some m → LiesFrom n p m

match_lies : (e : WrittenExpression) (w : List ℕ) (p : ℕ) (r : Option (ℕ × ℕ)) (m : Occurrence) → p ≤ length w →
    leftmost_longest (expression_tree e) w p ≡ r → option_map (occurrence_at_span e w) r ≡ Some m → LiesFrom (length w) p m
match_lies e w p None m fits is at = let none : None ≡ Some m = at in cc
match_lies e w p (Some span) m fits is at =
    let same : occurrence_at_span e w span ≡ m = cc in
    subst (LiesFrom (length w) p) same (found_lies e w p span.0 span.1 fits is)

ordered : (e : WrittenExpression) (w : List ℕ) → Ordered (search_for e w) (length w)
ordered e w = record { lies = λ p m fits is. match_lies e w p (leftmost_longest (expression_tree e) w p) m fits refl is }

not_empty : (s e q : ℕ) → q ≤ s → s ≤ e → (nat_eq s q && nat_eq e q) ≡ false → q < e
not_empty s e q from to test = grind (arith, nat_tests)

later_test : (n q : ℕ) (b : Bool) (other : Option Occurrence) (k m : Occurrence) → LiesFrom n q k → (b ≡ false → q < k.end) →
    ((m : Occurrence) → other ≡ Some m → LiesFrom n (q + 1) m) → (if b then other else Some k) ≡ Some m →
    (q < m.end) × (m.end ≤ n)
later_test n q true other k m here far there is = let at = there m is in omega arith
later_test n q false other k m here far there is =
    let same : k ≡ m = cc in
    subst (λ (m : Occurrence). (q < m.end) × (m.end ≤ n)) same (far refl, here.2)

later_match : (n q : ℕ) (r other : Option Occurrence) (m : Occurrence) → ((m : Occurrence) → r ≡ Some m → LiesFrom n q m) →
    ((m : Occurrence) → other ≡ Some m → LiesFrom n (q + 1) m) → unless_null_at (λ m. (m.start, m.end)) q r other ≡ Some m →
    (q < m.end) × (m.end ≤ n)
later_match n q None other m here there is = let none : None ≡ Some m = is in cc
later_match n q (Some k) other m here there is =
    let at = here k refl in
    later_test n q (nat_eq k.start q && nat_eq k.end q) other k m at (not_empty k.start k.end q at.0 at.1) there is

-- an occurrence after another ends after it
later : (sought : ℕ → Option Occurrence) (n q : ℕ) (m : Occurrence) → Ordered sought n → q ≤ n →
    next_occurrence sought n (Some q) ≡ Some m → (q < m.end) × (m.end ≤ n)
later sought n q m o fits is =
    later_match n q (sought q) (if nat_lt q n then sought (q + 1) else None) m (λ k. o.lies q k fits)
    (other (nat_lt q n) (λ yes. grind (arith, nat_tests))) is
  where
    other : (b : Bool) → (b ≡ true → q + 1 ≤ n) → (k : Occurrence) → (if b then sought (q + 1) else None) ≡ Some k →
        LiesFrom n (q + 1) k
    other true fits k is = o.lies (q + 1) k (fits refl) is
    other false fits k is = let none : None ≡ Some k = is in cc

-- an occurrence, if there is one, and those after it
abbrev pub with_rest : Option Occurrence → (Occurrence → List Occurrence) → List Occurrence
with_rest o rest = option_map_or (λ m. m ∷ rest m) o []

with_rest_none : (o : Option Occurrence) (f : Occurrence → List Occurrence) → o ≡ None → with_rest o f ≡ []
with_rest_none o f none = rw none refl

with_rest_some : (o : Option Occurrence) (f : Occurrence → List Occurrence) (m : Occurrence) → o ≡ Some m → with_rest o f ≡ m ∷ f m
with_rest_some o f m some = rw some refl

with_rest_same : (o : Option Occurrence) (f g : Occurrence → List Occurrence) → ((m : Occurrence) → o ≡ Some m → f m ≡ g m) →
    with_rest o f ≡ with_rest o g
with_rest_same None f g same = refl
with_rest_same (Some m) f g same = ap (λ (ms : List Occurrence). m ∷ ms) (same m refl)

-- no occurrence after the last place
none_left : (o : Option Occurrence) (n q : ℕ) → n ≤ q → ((m : Occurrence) → o ≡ Some m → (q < m.end) × (m.end ≤ n)) →
    (f : Occurrence → List Occurrence) → with_rest o f ≡ []
none_left None n q over lies f = refl
none_left (Some m) n q over lies f = let at = lies m refl in absurd (omega arith)

-- as many are enough as there are places left
enough : (sought : ℕ → Option Occurrence) (n : ℕ) → Ordered sought n → (most more q : ℕ) → q ≤ n → n ≤ most + q →
    n ≤ more + q → occurrences_from sought n most (Some q) ≡ occurrences_from sought n more (Some q)
unfolding occurrences_from
enough sought n o zero zero q fits some other = refl
enough sought n o zero (suc more) q fits some other =
    sym (none_left (next_occurrence sought n (Some q)) n q (omega arith) (λ m. later sought n q m o fits)
    (λ m. occurrences_from sought n more (Some m.end)))
enough sought n o (suc most) zero q fits some other =
    none_left (next_occurrence sought n (Some q)) n q (omega arith) (λ m. later sought n q m o fits)
    (λ m. occurrences_from sought n most (Some m.end))
enough sought n o (suc most) (suc more) q fits some other =
    with_rest_same (next_occurrence sought n (Some q)) (λ m. occurrences_from sought n most (Some m.end))
    (λ m. occurrences_from sought n more (Some m.end))
    (λ m is. let at = later sought n q m o fits is in
    enough sought n o most more m.end at.1 (omega arith) (omega arith))

-- where none comes next there is none
from_none : (sought : ℕ → Option Occurrence) (n most : ℕ) (last : Option ℕ) → next_occurrence sought n last ≡ None →
    occurrences_from sought n most last ≡ []
unfolding occurrences_from
from_none sought n zero last none = refl
from_none sought n (suc most) last none =
    with_rest_none (next_occurrence sought n last) (λ m. occurrences_from sought n most (Some m.end)) none

-- the one that comes next, and those after it
from_some : (sought : ℕ → Option Occurrence) (n most : ℕ) (last : Option ℕ) (m : Occurrence) → Ordered sought n → m.end ≤ n →
    n ≤ most + m.end → next_occurrence sought n last ≡ Some m →
    occurrences_from sought n (suc most) last ≡ m ∷ occurrences_from sought n (n - m.end) (Some m.end)
unfolding occurrences_from
from_some sought n most last m o fits some is =
    with_rest_some (next_occurrence sought n last) (λ m. occurrences_from sought n most (Some m.end)) m is
    ∙ ap (λ (ms : List Occurrence). m ∷ ms) (enough sought n o most (n - m.end) m.end fits some (omega arith))

-- the occurrences after a place are the one that comes next and those after it
pub after_is : (e : WrittenExpression) (w : List ℕ) (last : Option ℕ) (r : Option (ℕ × ℕ)) → EndsWithin (length w) last →
    option_map (occurrence_at_span e w) r ≡ next_occurrence (search_for e w) (length w) last →
    occurrences_after e w last ≡ pending e w true r
after_is e w None None fits is = from_none (search_for e w) (length w) (length w + 1) None (sym is)
after_is e w (Some q) None fits is = from_none (search_for e w) (length w) (length w - q) (Some q) (sym is)
after_is e w None (Some span) fits is =
    let at = (ordered e w).lies 0 (occurrence_at_span e w span) (omega arith) (sym is) in
    rw add-one (from_some (search_for e w) (length w) (length w) None (occurrence_at_span e w span) (ordered e w) at.2
    (omega arith) (sym is))
after_is e w (Some q) (Some span) fits is =
    let at = later (search_for e w) (length w) q (occurrence_at_span e w span) (ordered e w) fits (sym is) in
    let most : length w - q ≡ suc (length w - q - 1) = omega arith in
    rw most (from_some (search_for e w) (length w) (length w - q - 1) (Some q) (occurrence_at_span e w span)
    (ordered e w) at.1 (omega arith) (sym is))

drop_more : (ms : List Occurrence) (k count : ℕ) → k ≤ count → drop k ms ≡ [] → drop count ms ≡ []
drop_more ms k count more none =
    let parted : k + (count - k) ≡ count = omega arith in
    ap (λ (n : ℕ). drop n ms) (sym parted) ∙ sym (drop-drop (count - k) k ms)
    ∙ ap (drop (count - k)) none ∙ drop-nil (count - k)

-- fewer occurrences are there than are to be skipped
pub skips_none : (e : WrittenExpression) (w : List ℕ) (last : Option ℕ) (k count : ℕ) (skipped : Option (Option ℕ)) →
    skipped ≡ None → k ≤ count → EndsWithin (length w) last →
    drop k (occurrences_after e w None) ≡ occurrences_after e w last →
    option_map (occurrence_at_span e w) None ≡ next_occurrence (search_for e w) (length w) last → Skips e w count skipped
skips_none e w last k count None none more fits skipped is =
    drop_more (occurrences_after e w None) k count more (skipped ∙ after_is e w last None fits is)
skips_none e w last k count (Some place) none more fits skipped is = let never : Some place ≡ None = none in cc

-- one more is skipped
pub skips_one : (e : WrittenExpression) (w : List ℕ) (last : Option ℕ) (k : ℕ) (span : ℕ × ℕ) → EndsWithin (length w) last →
    drop k (occurrences_after e w None) ≡ occurrences_after e w last →
    option_map (occurrence_at_span e w) (Some span) ≡ next_occurrence (search_for e w) (length w) last →
    drop (k + 1) (occurrences_after e w None) ≡ occurrences_after e w (Some span.1)
skips_one e w last k span fits skipped is =
    sym (drop-drop 1 k (occurrences_after e w None)) ∙ ap (drop 1) (skipped ∙ after_is e w last (Some span) fits is)

-- an occurrence ends in the text
pub ends_in : (n : ℕ) (last : Option ℕ) (span : ℕ × ℕ) → LiesOn n last span → span.1 ≤ n
ends_in n last span lies = lies.1
