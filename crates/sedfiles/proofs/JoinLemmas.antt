-- Laws of files that are joined.
use Rattle.std.proofs.Common.{IfSome, IsErr, Result, Ok, Err, String, append-nil, unwrap_or, ◌⊎◌, inl, inr, if◌then◌else◌, drop, ◌≡◌, ℕ, zero, suc, ◌+◌, ◌-◌, ◌<◌, ◌≤◌, Bool, true, false, not, List, [], ◌∷◌, ◌++◌, length, map, take, get_or, Option, None, Some, refl, sym, ap, ◌∙◌, arith, eqb, append_assoc, length-append}
use Rattle.std.proofs.lemmas.List.{drop_more, take_more_set, map-append}
use Rattle.std.proofs.Math.ListN.{get_or-map}
use Rattle.std.proofs.KnownBytes.{Consumes-kept, Consumes-nil, Consumes-trans}
use Rattle.std.specs.Prelude.{slice_set}
use Rattle.std.specs.String.{string_bytes}
use Rattle.std.specs.Option.{option_map, is_none}
use Rattle.std.specs.Fmt.{option_append}
use Rattle.std.specs.Io.KnownBytes.{Consumes, IsAtEnd, Keeps, ReadConsumes}
use Rattle.sedfiles.specs.Files.{FilesAhead, KeepsFiles, StillGives, due_after, concatenated, with_newline}
use Rattle.sedfiles.specs.Joining.{Joining, left_joined, left_of_current}
use Rattle.sedfiles.specs.Opening.{OpensKnown, NotesMissed, OnlyLastGives, OpensFirstFiles, OpensNext}

due_after-append : (due : Bool) (a b : List ℕ) → due_after due (a ++ b) ≡ due_after (due_after due a) b
due_after-append due [] b = refl
due_after-append due (x ∷ a) b = due_after-append (not (eqb x 10)) a b

due_after-last : (due : Bool) (bytes : List ℕ) (k : ℕ) → k < length bytes → due_after due (take (suc k) bytes) ≡ not (eqb (get_or bytes k 0) 10)
due_after-last due [] k h = absurd (omega arith)
due_after-last due (b ∷ bs) zero h = refl
due_after-last due (b ∷ bs) (suc k) h = due_after-last (not (eqb b 10)) bs k (omega arith)

-- the last of the first n bytes says whether a newline is due after them
due_after-take : (due : Bool) (bytes : List ℕ) (n : ℕ) → 0 < n → n ≤ length bytes → due_after due (take n bytes) ≡ not (eqb (get_or bytes (n - 1) 0) 10)
due_after-take due bytes n some h =
    let k = n - 1 in
    let e : n ≡ suc k = omega arith in
    ap (λ m. due_after due (take m bytes)) e ∙ due_after-last due bytes k (omega arith)

with_newline-append : (due : Bool) (a b : List ℕ) → with_newline due (a ++ b) ≡ a ++ with_newline (due_after due a) b
with_newline-append due a b = rw due_after-append (append_assoc a b _)

with_newline-read : (due after : Bool) (a b : Option (List ℕ)) (bytes : List ℕ) → after ≡ due_after due bytes → Consumes a b bytes → Consumes (option_map (with_newline due) a) (option_map (with_newline after) b) bytes
with_newline-read due after None b bytes e p = tt
with_newline-read due after (Some x) None bytes e p = absurd p
with_newline-read due after (Some x) (Some y) bytes e p = ap (with_newline due) p ∙ with_newline-append due bytes y ∙ ap (λ d. bytes ++ with_newline d y) (sym e)

-- a read of the file gave some of its bytes
pub file_read : {I : Type 0} (current : I → Option (List ℕ)) (old before : Joining I) (after : Option (List ℕ)) (buf : List ℕ) (n : ℕ) →
    before ≡ old → before.is_reading ≡ true → 0 < n → n ≤ length buf → Consumes (current before.inputs) after (take n buf) →
    Consumes (left_of_current current old) (if before.is_reading then option_map (with_newline (not (eqb (get_or buf (n - 1) 0) 10))) after else Some []) (take n buf)
file_read current old before after buf n is reading some within p =
    let e : not (eqb (get_or buf (n - 1) 0) 10) ≡ due_after before.due (take n buf) = sym (due_after-take before.due buf n some within) in
    rw (← is, reading) (with_newline-read before.due _ (current before.inputs) after (take n buf) e p)

newline_given : (a b : Option (List ℕ)) (buf : List ℕ) → 0 < length buf → Consumes a b [] → IsAtEnd b → Consumes (option_map (with_newline true) a) (Some []) (take 1 (slice_set buf 0 10))
newline_given None b buf some p end = tt
newline_given (Some x) None buf some p end = absurd p
newline_given (Some x) (Some y) [] some p end = absurd (omega arith)
newline_given (Some x) (Some y) (c ∷ buf) some p end = ap (with_newline true) (p ∙ end)

-- a read of the file found its end, and the newline was due
pub file_closed : {I : Type 0} (current : I → Option (List ℕ)) (old before : Joining I) (after : Option (List ℕ)) (buf : List ℕ) (n : ℕ) →
    before ≡ old → before.is_reading ≡ true → before.due ≡ true → 0 < length buf → n ≡ 0 → Consumes (current before.inputs) after (take n buf) → IsAtEnd after →
    Consumes (left_of_current current old) (Some []) (take 1 (slice_set buf 0 10))
file_closed current old before after buf n is reading due some none p end =
    let p' = rw none at p in
    rw (← is, reading, due) (newline_given (current before.inputs) after buf some p' end)

-- the name at a place, as bytes
pub name_at : {Z : Type 0} (items : List (String Z)) (next : ℕ) (text : String Z) (name : List ℕ) → text ≡ get_or items next text → name ≡ string_bytes text → get_or (map string_bytes items) next name ≡ name
name_at items next text name is bytes = rw bytes (get_or-map string_bytes items next text ∙ ap string_bytes (sym is))

-- the next file was opened and noted
pub next_opened : {I : Type 0} (current : I → Option (List ℕ)) (ahead : I → FilesAhead) (old before new : Joining I)
    (all : List (List ℕ)) (missed : List Bool) (next : ℕ) (name : List ℕ) (answer : Bool) →
    before ≡ old → before.names ≡ drop next all → before.missed ≡ take next missed → next < length all → length missed ≡ length all → get_or all next name ≡ name →
    new.names ≡ drop (next + 1) all → new.missed ≡ take (next + 1) (slice_set missed next (not answer)) → new.is_reading ≡ true → new.due ≡ false →
    ((names : List (List ℕ)) → OpensKnown (ahead before.inputs (name ∷ names)) answer (current new.inputs) (ahead new.inputs names)) →
    OpensNext current ahead old new
next_opened current ahead old before new all missed next name answer is names-are missed-are inside same at more noted reading due opens =
    let split : before.names ≡ name ∷ new.names = names-are ∙ drop_more all next name inside ∙ ap (λ x. x ∷ drop (next + 1) all) at ∙ ap (λ xs. name ∷ xs) (sym more) in
    let within : next < length missed = omega arith in
    let added : new.missed ≡ before.missed ++ not answer ∷ [] = noted ∙ take_more_set missed next (not answer) within ∙ ap (λ x. x ++ not answer ∷ []) (sym missed-are) in
    rw (← is) record { name = name; names = split; answer = answer; missed = added; opens = rw split (opens new.names); is_reading = reading; due = due }

-- ---- what is left of the file, and of those after it

-- what these files give, joined
abbrev pub all_joined : Option (List (Option (List ℕ))) → Option (List ℕ)
all_joined files = option_map (λ fs. concatenated (map (λ file. unwrap_or file []) fs)) files

left_read : (a b : Option (List ℕ)) (x y : Option (List (Option (List ℕ)))) (bytes : List ℕ) → Consumes a b bytes → KeepsFiles x y →
    Consumes (option_append a (all_joined x)) (option_append b (all_joined y)) bytes
left_read None b x y bytes p q = tt
left_read (Some u) b None y bytes p q = tt
left_read (Some u) None (Some x) y bytes p q = absurd p
left_read (Some u) (Some v) (Some x) y bytes p q = rw q (ap (λ z. z ++ concatenated (map (λ file. unwrap_or file []) x)) p ∙ append_assoc bytes v (concatenated (map (λ file. unwrap_or file []) x)))

left_opened : (x : Option (List (Option (List ℕ)))) (answer : Bool) (c : Option (List ℕ)) (y : Option (List (Option (List ℕ)))) → OpensKnown x answer c y →
    Consumes (option_append (Some []) (all_joined x)) (option_append (option_map (with_newline false) c) (all_joined y)) []
left_opened None answer c y o = tt
left_opened (Some []) answer c y o = absurd o
left_opened (Some (file ∷ files)) answer c y o = rw (o.1, o.2) refl

left_at_end : (a : Option (List ℕ)) (x : Option (List (Option (List ℕ)))) → IsAtEnd a → IfSome x (λ files. files ≡ []) → IsAtEnd (option_append a (all_joined x))
left_at_end None x end none = tt
left_at_end (Some u) None end none = tt
left_at_end (Some u) (Some files) end none = rw (end, none) refl

keeps_unread : (a b : Option (List ℕ)) → Consumes a b [] → Keeps a b
keeps_unread None b p = tt
keeps_unread (Some x) None p = absurd p
keeps_unread (Some x) (Some y) p = sym p

fails_unread : {E : Type 0} (a b : Option (List ℕ)) (r : Result ℕ E) (buf : List ℕ) → IsErr r → Keeps a b → ReadConsumes a b r buf
fails_unread a b (Ok n) buf failed k = cc
fails_unread a b (Err e) buf failed k = k

-- what is left of them is what their inputs have still to give
pub left-StillGives : {I : Type 0} (current : I → Option (List ℕ)) (ahead : I → FilesAhead) (j : Joining I) (inputs : I) (more : Option (List ℕ)) →
    j.inputs ≡ inputs → more ≡ left_joined current ahead j → StillGives current ahead inputs more
left-StillGives current ahead j inputs more same is = (j.is_reading, j.due, j.names, rw (← same) is)

-- ---- what was opened

-- what is left of the file being read is all of the last one opened, if any was
abbrev pub FromLast : List (Option (List ℕ)) → Option (List ℕ) → Type 0
FromLast [] left = Unit {0}
FromLast (file ∷ []) left = left ≡ Some (with_newline false (unwrap_or file []))
FromLast (file ∷ next ∷ files) left = FromLast (next ∷ files) left

abbrev AllGiveNone : List (Option (List ℕ)) → Type 0
AllGiveNone [] = Unit {0}
AllGiveNone (file ∷ files) = (unwrap_or file [] ≡ []) × AllGiveNone files

with_newline-nil : (bytes : List ℕ) → with_newline false bytes ≡ [] → bytes ≡ []
with_newline-nil [] e = refl
with_newline-nil (b ∷ bytes) e = cc

gives_none : (file : Option (List ℕ)) (left : Option (List ℕ)) → left ≡ Some (with_newline false (unwrap_or file [])) → Consumes left (Some []) [] → unwrap_or file [] ≡ []
gives_none file None e p = cc
gives_none file (Some x) e p =
    let same : x ≡ with_newline false (unwrap_or file []) = cc in
    with_newline-nil (unwrap_or file []) (sym same ∙ p)

all_give_none : (files : List (Option (List ℕ))) (left : Option (List ℕ)) → OnlyLastGives files → FromLast files left → Consumes left (Some []) [] → AllGiveNone files
all_give_none [] left o f p = tt
all_give_none (file ∷ []) left o f p = (gives_none file left f p, tt)
all_give_none (file ∷ next ∷ files) left o f p = (o.0, all_give_none (next ∷ files) left o.1 f p)

only_last_gives : (files : List (Option (List ℕ))) (file : Option (List ℕ)) → AllGiveNone files → OnlyLastGives (files ++ file ∷ [])
only_last_gives [] file h = tt
only_last_gives (x ∷ []) file h = (h.0, tt)
only_last_gives (x ∷ y ∷ files) file h = (h.0, only_last_gives (y ∷ files) file h.1)

from_last : (files : List (Option (List ℕ))) (file : Option (List ℕ)) (left : Option (List ℕ)) → left ≡ Some (with_newline false (unwrap_or file [])) → FromLast (files ++ file ∷ []) left
from_last [] file left e = e
from_last (x ∷ []) file left e = e
from_last (x ∷ y ∷ files) file left e = from_last (y ∷ files) file left e

-- the first of the files were opened and noted, and what is left of the file being read is all of the last of them
abbrev pub Notes : Option (List (Option (List ℕ))) → Option (List (Option (List ℕ))) → Option (List ℕ) → List Bool → List Bool → Type 0
Notes None new left before after = Unit {0}
Notes (Some files) new left before after =
    (first : List (Option (List ℕ))) × (rest : List (Option (List ℕ))) × (files ≡ first ++ rest) × (new ≡ Some rest)
    × (after ≡ before ++ map is_none first) × OnlyLastGives first × FromLast first left

notes_missed : (x y : Option (List (Option (List ℕ)))) (left : Option (List ℕ)) (a b : List Bool) → Notes x y left a b → NotesMissed x y a b
notes_missed None y left a b h = tt
notes_missed (Some files) y left a b h = (h.0, h.1, h.2, h.3, h.4, h.5)

notes_one : (files first rest : List (Option (List ℕ))) (z : Option (List (Option (List ℕ)))) (a b : List Bool) (answer : Bool) (c : Option (List ℕ)) →
    files ≡ first ++ rest → b ≡ a ++ map is_none first → AllGiveNone first → OpensKnown (Some rest) answer c z → Notes (Some files) z (option_map (with_newline false) c) a (b ++ not answer ∷ [])
notes_one files first [] z a b answer c e m none o = absurd o
notes_one files first (file ∷ rest) z a b answer c e m none o =
    let noted : not answer ≡ is_none file = ap not o.0 in
    let all : a ++ map is_none (first ++ file ∷ []) ≡ (a ++ map is_none first) ++ is_none file ∷ [] = rw map-append (sym (append_assoc a (map is_none first) (is_none file ∷ []))) in (
      first ++ file ∷ [],
      rest,
      e ∙ sym (append_assoc first (file ∷ []) rest),
      o.2,
      ap (λ z. z ++ not answer ∷ []) m ∙ ap (λ z. (a ++ map is_none first) ++ z ∷ []) noted ∙ sym all,
      only_last_gives first file none,
      from_last first file _ (ap (option_map (with_newline false)) o.1),
    )

notes_opened : (x y z w : Option (List (Option (List ℕ)))) (left : Option (List ℕ)) (a b : List Bool) (answer : Bool) (c : Option (List ℕ)) →
    Notes x y left a b → KeepsFiles y w → Consumes left (Some []) [] → OpensKnown w answer c z → Notes x z (option_map (with_newline false) c) a (b ++ not answer ∷ [])
notes_opened None y z w left a b answer c h k p o = tt
notes_opened (Some files) y z w left a b answer c h k p o =
    let rest = h.1 in
    let same : y ≡ Some rest = h.3 in
    let kept : w ≡ Some rest = rw same at k in
    let o' : OpensKnown (Some rest) answer c z = rw kept at o in
    notes_one files h.0 rest z a b answer c h.2 h.4 (all_give_none h.0 left h.5 h.6 p) o'

notes_kept : (x y z : Option (List (Option (List ℕ)))) (a b : List Bool) → NotesMissed x y a b → KeepsFiles y z → NotesMissed x z a b
notes_kept None y z a b h k = tt
notes_kept (Some files) y z a b h k = let kept : KeepsFiles (Some h.1) z = rw h.3 at k in (h.0, h.1, h.2, kept, h.4, h.5)

notes_none : (x : Option (List (Option (List ℕ)))) (left : Option (List ℕ)) (a : List Bool) → Notes x x left a a
notes_none None left a = tt
notes_none (Some files) left a = ([], files, refl, refl, sym (append-nil a), tt, tt)

at_end : (a b : Option (List ℕ)) → Consumes a b [] → b ≡ Some [] → IsAtEnd a
at_end None b p e = tt
at_end (Some x) None p e = absurd p
at_end (Some x) (Some y) p e = cc

-- ---- files that gave no byte

module _ {I : Type 0} (current : I → Option (List ℕ)) (ahead : I → FilesAhead) where
  -- files were opened from old to new, and gave no byte
  pub record Passed (old new : Joining I) : Type 0 where
    pub none : Consumes (left_joined current ahead old) (left_joined current ahead new) []
    pub opened : OpensFirstFiles ahead old new
    pub notes : Notes (ahead old.inputs old.names) (ahead new.inputs new.names) (left_of_current current new) old.missed new.missed
    pub waits : (new ≡ old) ⊎ IsAtEnd (left_of_current current old)

  -- a read of the file changes nothing of those after it
  pub record Reads (now new : Joining I) : Type 0 where
    pub rest : new ≡ record now { inputs = new.inputs; is_reading = new.is_reading; due = new.due }
    pub kept : (names : List (List ℕ)) → KeepsFiles (ahead now.inputs names) (ahead new.inputs names)

  pub start_kept : (now new : Joining I) → Reads now new → new.start ≡ now.start
  start_kept now new r = ap (λ j. j.start) r.rest

  waits_on : (old now mid : Joining I) → (now ≡ old) ⊎ IsAtEnd (left_of_current current old) → Consumes (left_of_current current now) (left_of_current current mid) [] → mid.is_reading ≡ false → IsAtEnd (left_of_current current old)
  waits_on old now mid (inl same) p idle = let p' = rw same at p in at_end _ _ p' (rw idle refl)
  waits_on old now mid (inr end) p idle = end

  -- the file being read had no byte left, and the next one was opened
  pub passed_next : (old now mid new : Joining I) → Passed old now → Reads now mid → Consumes (left_of_current current now) (left_of_current current mid) [] → mid.is_reading ≡ false →
      OpensNext current ahead mid new → Passed old new
  passed_next old now mid new p r c idle o =
      let first = p.opened.0.0 in
      let name = o.name in
      let noted = not o.answer ∷ [] in
      let names : mid.names ≡ now.names = ap (λ j. j.names) r.rest in
      let missed : mid.missed ≡ now.missed = ap (λ j. j.missed) r.rest in
      let added : new.missed ≡ now.missed ++ noted = o.missed ∙ ap (λ z. z ++ noted) missed in
      let split : now.names ≡ name ∷ new.names = sym names ∙ o.names in
      let more : old.names ≡ (first ++ name ∷ []) ++ new.names = p.opened.0.1 ∙ ap (λ z. first ++ z) split ∙ sym (append_assoc first (name ∷ []) new.names) in
      let size : length new.missed ≡ length old.missed + length (first ++ name ∷ []) = omega (arith, p.opened.0.2, ap length added, length-append now.missed noted, length-append first (name ∷ [])) in
      let kept : KeepsFiles (ahead now.inputs now.names) (ahead mid.inputs mid.names) = rw names (r.kept now.names) in
      let read : Consumes (left_joined current ahead now) (left_joined current ahead mid) [] = left_read _ _ _ _ [] c kept in
      let opening : Consumes (left_joined current ahead mid) (left_joined current ahead new) [] = rw (idle, o.is_reading, o.due) (left_opened _ o.answer _ _ o.opens) in
      let nothing : left_of_current current mid ≡ Some [] = rw idle refl in
      let spent : Consumes (left_of_current current now) (Some []) [] = rw nothing at c in
      let notes : Notes (ahead old.inputs old.names) (ahead new.inputs new.names) (left_of_current current new) old.missed new.missed =
      rw (added, o.is_reading, o.due) (notes_opened _ _ _ _ _ old.missed now.missed o.answer _ p.notes kept spent o.opens) in
      record {
        none = Consumes-trans _ _ _ [] [] p.none (Consumes-trans _ _ _ [] [] read opening);
        opened = ((first ++ name ∷ [], more, size), notes_missed _ _ _ _ _ notes);
        notes = notes;
        waits = inr (waits_on old now mid p.waits c idle);
      }

  -- nothing was done yet
  pub passed_none : (j : Joining I) → Passed j j
  passed_none j =
      let notes = notes_none (ahead j.inputs j.names) (left_of_current current j) j.missed in
      record { none = Consumes-nil _; opened = (([], refl, omega arith), notes_missed _ _ _ _ _ notes); notes = notes; waits = inl refl }

  module _ (old now new : Joining I) (p : Passed old now) (r : Reads now new) where
    names_kept : new.names ≡ now.names
    names_kept = ap (λ j. j.names) r.rest

    files_kept : KeepsFiles (ahead now.inputs now.names) (ahead new.inputs new.names)
    files_kept = rw names_kept (r.kept now.names)

    -- after files that gave no byte the file being read gave some
    pub given_on : (bytes : List ℕ) → Consumes (left_of_current current now) (left_of_current current new) bytes → Consumes (left_joined current ahead old) (left_joined current ahead new) bytes
    given_on bytes c = Consumes-trans _ _ _ [] bytes p.none (left_read _ _ _ _ bytes c files_kept)

    -- or a read of it failed
    pub failed_on : {E : Type 0} (result : Result ℕ E) (buf : List ℕ) → IsErr result → Keeps (left_of_current current now) (left_of_current current new) →
        ReadConsumes (left_joined current ahead old) (left_joined current ahead new) result buf
    failed_on result buf failed k = fails_unread _ _ result buf failed (keeps_unread _ _ (given_on [] (Consumes-kept _ _ _ [] (Consumes-nil _) k)))

    -- or it had none left, and no file is left to open
    pub spent_on : Consumes (left_of_current current now) (left_of_current current new) [] → IsAtEnd (left_of_current current new) → new.names ≡ [] →
        ((inputs : I) → IfSome (ahead inputs []) (λ files. files ≡ [])) → Consumes (left_joined current ahead old) (left_joined current ahead new) [] × IsAtEnd (left_joined current ahead new)
    spent_on c end empty none = (given_on [] c, left_at_end _ _ end (rw empty (none new.inputs)))

    pub opened_on : OpensFirstFiles ahead old new
    opened_on =
        let missed : new.missed ≡ now.missed = ap (λ j. j.missed) r.rest in
        let first = p.opened.0.0 in
        ((first, p.opened.0.1 ∙ ap (λ z. first ++ z) (sym names_kept), ap length missed ∙ p.opened.0.2), rw missed (notes_kept _ _ _ _ _ p.opened.1 files_kept))

    pub waited_on : (new.names ≡ old.names) ⊎ IsAtEnd (left_of_current current old)
    waited_on = elim p.waits [ inl same ↦ inl (names_kept ∙ ap (λ j. j.names) same) | inr end ↦ inr end ]
