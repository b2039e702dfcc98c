-- A text that is made in a space, part by part.
use Rattle.std.proofs.Common.{◌≡◌, ℕ, ◌+◌, ◌-◌, ◌<◌, ◌≤◌, List, [], ◌++◌, Bool, true, false, length, drop, take, Option, Some, None, Result, Ok, Err, refl, sym, subst, ap, ◌∙◌, arith, append_assoc, length-append, length-drop, ◌*◌, suc}
use Rattle.std.proofs.Math.Nat.{mul-suc}
use Rattle.std.specs.Prelude.{OnOk, OnErr, IsErr, IfSome, slice_range, if◌then◌else◌}
use Rattle.std.proofs.Math.Seq.{take-length}
use Rattle.std.proofs.lemmas.Bool.{false≢true}
use Rattle.sedre.specs.Tree.{WrittenExpression, expression_tree}
use Rattle.sedmatch.specs.Groups.{SpansOfGroups}
use Rattle.sedmatch.specs.Matching.{reported_groups}
use Rattle.sedmatch.specs.Following.{LiesOn}
use Rattle.sedscript.specs.declared.substitution.Piece.{Piece}
use Rattle.sedspace.specs.Spaces.{SpaceView}
use Rattle.sedspace.specs.declared.errors.Full.{Full}
use Rattle.sedacts.specs.Substitute.{Occurrence, to_replace, each_occurrence, put_for, replaced_from}
use Rattle.sedacts.specs.State.{search_for, occurrence_at_span}
use Rattle.sedacts.specs.SubstituteParts.{next_occurrence, Appends, GroupsOf, ReplacesThese, Skips, names_group, with_groups, later_cost, occurrences_after, pending, groups_cost}
use Rattle.sedacts.proofs.Occurrences.{after_is}
use Rattle.sedacts.proofs.PieceLemmas.{put_same}
use Rattle.std.specs.Option.{option_map}

-- bytes are appended as a space does it
pub appended : (old new : SpaceView) (bytes given : List ℕ) (r : Result Unit Full) → given ≡ bytes →
    OnOk r (new ≡ record old { bytes = old.bytes ++ given }) → OnErr r (old.limit < length old.bytes + length given) →
    OnErr r (new ≡ old) → Appends old new bytes r
appended old new bytes given (Ok u) same ok full err =
    ok ∙ ap (λ (given : List ℕ). record old { bytes = old.bytes ++ given }) same
appended old new bytes given (Err f) same ok full err =
    (omega (arith, ap length same), ap (λ (s : SpaceView). s.limit) err)

-- of all that is to be appended to a space this is left
abbrev pub Due : SpaceView → SpaceView → List ℕ → List ℕ → Type 0
Due old now all rest = (now.limit ≡ old.limit) × (now.bytes ++ rest ≡ old.bytes ++ all)

-- the same by another name
pub due_as : (old mid : SpaceView) (all rest same : List ℕ) → rest ≡ same → Due old mid all rest → Due old mid all same
due_as old mid all rest same is due = subst (λ (rest : List ℕ). Due old mid all rest) is due

-- its first part was appended
pub due_less : (old mid new : SpaceView) (all part rest : List ℕ) → Due old mid all (part ++ rest) →
    new ≡ record mid { bytes = mid.bytes ++ part } → Due old new all rest
due_less old mid new all part rest due is =
    let bytes : new.bytes ≡ mid.bytes ++ part = ap (λ (s : SpaceView). s.bytes) is in
    (ap (λ (s : SpaceView). s.limit) is ∙ due.0, rw (bytes, append_assoc) due.1)

-- where its first part doesn't fit, all doesn't
pub due_full : (old mid new : SpaceView) (all part rest : List ℕ) (f : Full) (r : Result Unit Full) → IsErr r →
    Due old mid all (part ++ rest) → Appends mid new part (Err f) → Appends old new all r
due_full old mid new all part rest f (Ok u) is due full = absurd (false≢true is)
due_full old mid new all part rest f (Err g) is due full =
    let long : length mid.bytes + (length part + length rest) ≡ length old.bytes + length all =
    simp length-append at (ap length due.1) in
    (omega arith, full.1 ∙ due.0)

-- its last part was appended, or doesn't fit
due_last : (old mid new : SpaceView) (all part : List ℕ) (r : Result Unit Full) → Due old mid all part →
    Appends mid new part r → Appends old new all r
due_last old mid new all part (Ok u) due is =
    is ∙ ap (λ (bytes : List ℕ). record mid { bytes = bytes }) due.1
    ∙ ap (λ (limit : ℕ). record { bytes = old.bytes ++ all; limit = limit }) due.0
due_last old mid new all part (Err f) due full =
    let long : length mid.bytes + length part ≡ length old.bytes + length all =
    simp length-append at (ap length due.1) in
    (omega arith, full.1 ∙ due.0)

-- what comes after an occurrence that is replaced
abbrev pub rest_after : WrittenExpression → List ℕ → Bool → ℕ → List Occurrence
rest_after e w global q = if global then occurrences_after e w (Some q) else []

-- for an occurrence the text before it is due, what stands for it, and what comes after it
pub due_next : (old mid : SpaceView) (all : List ℕ) (e : WrittenExpression) (w : List ℕ) (ps : List Piece) (global : Bool)
    (at : ℕ) (groups : SpansOfGroups) (o : Option (ℕ × ℕ)) (span : ℕ × ℕ) → o ≡ Some span →
    GroupsOf e w (names_group ps) o groups → Due old mid all (replaced_from w ps at (pending e w global o)) →
    Due old mid all (slice_range w at span.0
    ++ (put_for w (with_groups span groups) ps ++ replaced_from w ps span.1 (rest_after e w global span.1)))
due_next old mid all e w ps global at groups None span is shown due = let never : None ≡ Some span = is in cc
due_next old mid all e w ps global at groups (Some this) span is shown due =
    let same : this ≡ span = cc in
    let Parts : ℕ × ℕ → List ℕ → Type 0 =
    λ s put. Due old mid all (slice_range w at s.0
    ++ (put ++ replaced_from w ps s.1 (rest_after e w global s.1))) in
    let flat : Parts this (put_for w (occurrence_at_span e w this) ps) = due_as old mid all _ _ (simp append_assoc) due in
    subst (λ (s : ℕ × ℕ). Parts s (put_for w (with_groups s groups) ps)) same
    (subst (Parts this) (sym (put_same w this groups (reported_groups (expression_tree e) w this.0 this.1) ps (λ some. (shown some).0))) flat)

-- after the text before it, what stands for it is due
pub due_cut : (old mid cut : SpaceView) (all : List ℕ) (e : WrittenExpression) (w : List ℕ) (ps qs : List Piece) (global : Bool)
    (at : ℕ) (groups : SpansOfGroups) (o : Option (ℕ × ℕ)) (span : ℕ × ℕ) → o ≡ Some span →
    GroupsOf e w (names_group ps) o groups → qs ≡ ps → Due old mid all (replaced_from w ps at (pending e w global o)) →
    cut ≡ record mid { bytes = mid.bytes ++ slice_range w at span.0 } →
    Due old cut all (put_for w (with_groups span groups) qs ++ replaced_from w ps span.1 (rest_after e w global span.1))
due_cut old mid cut all e w ps qs global at groups o span is shown same due before =
    let next = due_next old mid all e w ps global at groups o span is shown due in
    let left = due_less old mid cut all (slice_range w at span.0) _ next before in
    let rest = replaced_from w ps span.1 (rest_after e w global span.1) in
    subst (λ (qs : List Piece). Due old cut all (put_for w (with_groups span groups) qs ++ rest)) (sym same) left

-- and after that what comes after it
pub due_after : (old mid cut new : SpaceView) (all : List ℕ) (e : WrittenExpression) (w : List ℕ) (ps qs : List Piece)
    (global : Bool) (at : ℕ) (groups : SpansOfGroups) (o : Option (ℕ × ℕ)) (span : ℕ × ℕ) (ms : List Occurrence) → o ≡ Some span →
    GroupsOf e w (names_group ps) o groups → qs ≡ ps → Due old mid all (replaced_from w ps at (pending e w global o)) →
    cut ≡ record mid { bytes = mid.bytes ++ slice_range w at span.0 } →
    new ≡ record cut { bytes = cut.bytes ++ put_for w (with_groups span groups) qs } →
    rest_after e w global span.1 ≡ ms → Due old new all (replaced_from w ps span.1 ms)
due_after old mid cut new all e w ps qs global at groups o span ms is shown same due before put more =
    let left = due_cut old mid cut all e w ps qs global at groups o span is shown same due before in
    let rest_is = due_less old cut new all (put_for w (with_groups span groups) qs) _ left put in
    subst (λ (ms : List Occurrence). Due old new all (replaced_from w ps span.1 ms)) more rest_is

to_end : (w : List ℕ) (at : ℕ) → take (length w - at) (drop at w) ≡ drop at w
to_end w at = ap (λ (n : ℕ). take n (drop at w)) (sym (length-drop at w)) ∙ take-length (drop at w)

-- without an occurrence the rest of the text is due, and then all was appended or doesn't fit
pub due_rest : (old mid new : SpaceView) (all : List ℕ) (e : WrittenExpression) (w : List ℕ) (ps : List Piece) (global : Bool)
    (at : ℕ) (o : Option (ℕ × ℕ)) (r : Result Unit Full) → o ≡ None →
    Due old mid all (replaced_from w ps at (pending e w global o)) →
    Appends mid new (take (length w - at) (drop at w)) r → Appends old new all r
due_rest old mid new all e w ps global at None r is due rest =
    due_last old mid new all (drop at w) r due (subst (λ (bytes : List ℕ). Appends mid new bytes r) (to_end w at) rest)
due_rest old mid new all e w ps global at (Some span) r is due rest = let never : Some span ≡ None = is in cc

-- after an occurrence that is replaced the next one is, with the flag `g`
pub more_pending : (e : WrittenExpression) (w : List ℕ) (global : Bool) (q : ℕ) (r : Option (ℕ × ℕ)) → global ≡ true →
    q ≤ length w → option_map (occurrence_at_span e w) r ≡ next_occurrence (search_for e w) (length w) (Some q) →
    rest_after e w global q ≡ pending e w global r
more_pending e w true q r is fits next = after_is e w (Some q) r fits next
more_pending e w false q r is fits next = absurd (false≢true is)

pub none_pending : (e : WrittenExpression) (w : List ℕ) (global : Bool) (q : ℕ) → global ≡ false → rest_after e w global q ≡ []
none_pending e w true q is = absurd (false≢true (sym is))
none_pending e w false q is = refl

-- where an occurrence lies after which another was
pub lies_on : (n q : ℕ) (r : Option (ℕ × ℕ)) → IfSome r (LiesOn n (Some q)) →
    IfSome r (λ span. (q ≤ span.0) × (span.0 ≤ span.1) × (span.1 ≤ n))
lies_on n q None lies = tt
lies_on n q (Some span) lies = (lies.2.0, lies.0, lies.1)

-- the chosen occurrences are pending where the first of them comes next
pub to_replace_is : (e : WrittenExpression) (w : List ℕ) (number : ℕ) (global : Bool) (last : Option ℕ) (r : Option (ℕ × ℕ)) →
    Skips e w (number - 1) (Some last) → option_map (occurrence_at_span e w) r ≡ next_occurrence (search_for e w) (length w) last →
    to_replace number global (each_occurrence (search_for e w) (length w)) ≡ pending e w global r
to_replace_is e w number global last r skips next = by_flag global r (skips.0 ∙ after_is e w last r skips.1 next)
  where
    by_flag : (global : Bool) (r : Option (ℕ × ℕ)) →
        drop (number - 1) (each_occurrence (search_for e w) (length w)) ≡ pending e w true r →
        to_replace number global (each_occurrence (search_for e w) (length w)) ≡ pending e w global r
    by_flag true r is = is
    by_flag false None is = ap (take 1) is
    by_flag false (Some span) is = ap (take 1) is

-- what a substitution answers where the text was appended to the empty space
pub replaces_made : (w : List ℕ) (ps : List Piece) (ms ns : List Occurrence) (old empty new : SpaceView) → ms ≡ ns →
    0 < length ns → empty ≡ record old { bytes = [] } →
    new ≡ record empty { bytes = empty.bytes ++ replaced_from w ps 0 ns } → ReplacesThese w ps ms old.limit new.bytes (Ok true)
replaces_made w ps ms ns old empty new same some cleared is =
    let made : new.bytes ≡ replaced_from w ps 0 ns =
    ap (λ (s : SpaceView). s.bytes) is ∙ ap (λ (s : SpaceView). s.bytes ++ replaced_from w ps 0 ns) cleared in
    subst (λ (ms : List Occurrence). (0 < length ms) × (new.bytes ≡ replaced_from w ps 0 ms)) (sym same) (some, made)

-- and where it doesn't fit
pub replaces_full : (w : List ℕ) (ps : List Piece) (ms ns : List Occurrence) (old empty new : SpaceView) (f : Full)
    (r : Result Bool Full) → IsErr r → ms ≡ ns → 0 < length ns → empty ≡ record old { bytes = [] } →
    Appends empty new (replaced_from w ps 0 ns) (Err f) → ReplacesThese w ps ms old.limit new.bytes r
replaces_full w ps ms ns old empty new f (Ok b) is same some cleared full = absurd (false≢true is)
replaces_full w ps ms ns old empty new f (Err g) is same some cleared full =
    let over = subst (λ (s : SpaceView). s.limit < length s.bytes + length (replaced_from w ps 0 ns)) cleared full.0 in
    let longer : old.limit < length (replaced_from w ps 0 ns) = omega arith in
    subst (λ (ms : List Occurrence). (0 < length ms) × (old.limit < length (replaced_from w ps 0 ms))) (sym same)
    (some, longer)

shown_most : (span : ℕ × ℕ) (wanted : Bool) (k : ℕ) → groups_cost (Some span) wanted k ≤ k
shown_most span true k = omega arith
shown_most span false k = omega arith

-- after an occurrence is replaced, what its successor's groups took is no longer due
pub groups_paid : (k a a' b : ℕ) (e : WrittenExpression) (w : List ℕ) (global wanted : Bool) (o : Option (ℕ × ℕ)) (span : ℕ × ℕ) (r : Option (ℕ × ℕ)) →
    o ≡ Some span → rest_after e w global span.1 ≡ pending e w global r → a + later_cost k (pending e w global o) ≤ b →
    a' ≤ a + groups_cost r wanted k → a' + later_cost k (pending e w global r) ≤ b
groups_paid k a a' b e w global wanted o span None is more before cost = omega (arith, before, cost)
groups_paid k a a' b e w global wanted o span (Some next) is more before cost =
    let now : a + k * length (rest_after e w global span.1) ≤ b = subst (λ (p : Option (ℕ × ℕ)). a + later_cost k (pending e w global p) ≤ b) is before in
    let long : length (rest_after e w global span.1) ≡ suc (length (rest_after e w global next.1)) = ap length more in
    let product = ap (λ (n : ℕ). k * n) long ∙ mul-suc k (length (rest_after e w global next.1)) in
    let most = shown_most next wanted k in
    omega (arith, now, cost, product, most)

-- what the groups of all that is replaced took
pub groups_took : (k a b c : ℕ) (e : WrittenExpression) (w : List ℕ) (global wanted : Bool) (first : ℕ × ℕ) (ms : List Occurrence) →
    ms ≡ pending e w global (Some first) → (a ≤ b) × (b ≤ a + groups_cost (Some first) wanted k) →
    (b ≤ c) × (c ≤ b + later_cost k (pending e w global (Some first))) → (a ≤ c) × (c ≤ a + k * length ms)
groups_took k a b c e w global wanted first ms is shown later =
    let long : length ms ≡ suc (length (rest_after e w global first.1)) = ap length is in
    let product = ap (λ (n : ℕ). k * n) long ∙ mul-suc k (length (rest_after e w global first.1)) in
    let most = shown_most first wanted k in
    (omega (arith, shown.0, later.0), omega (arith, shown.1, later.1, product, most))
