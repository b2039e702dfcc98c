-- What a call for a line does to the lines left.
use Rattle.std.proofs.Common.{◌≡◌, ℕ, ◌+◌, ◌-◌, ◌<◌, ◌≤◌, inl, inr, Bool, true, false, max, List, [], ◌∷◌, ◌++◌, length, Option, Some, None, Result, Ok, Err, refl, sym, subst, ap, ◌∙◌, arith, rules, length-append, drop, append_assoc, append-nil, not}
use Rattle.std.specs.Prelude.{OnOk}
use Rattle.sedacts.specs.Move.{none_left}
use Rattle.std.specs.Borrow.{GName}
use Rattle.std.specs.List.{slice_split, onto_first}
use Rattle.std.specs.Option.{option_map}
use Rattle.std.specs.Io.KnownBytes.{prepend_known, Keeps}
use Rattle.std.proofs.Math.Seq.{drop-append-add}
use Rattle.std.proofs.lemmas.List.{drop-drop, drop_all}
use Rattle.std.proofs.lemmas.List.Elements.{All-drop}
use Rattle.std.proofs.lemmas.List.Splits.{slice_split-cons_yes, slice_split-cons_no, length-slice_split}
use Rattle.sedspace.specs.Lines.{split_lines, is_newline, without_empty_last, HasNoNewline}
use Rattle.sedspace.specs.Reading.{TakesAtMost}
use Rattle.sedspace.specs.Stream.{Stream, left, lines_left, FailsIfBroken, GivesLine, KeepsFault, NoLineLeft, KeepsLines, LosesPart, ReadsOn, TakesLine, AnswersLast}
use Rattle.sedspace.specs.declared.errors.LineFault.{LineFault}
use Rattle.sedspace.specs.declared.errors.LineFault.TheVariants.{Broken, TooLong}
use Rattle.sedacts.specs.Calls.{NamesNone, NoSinkFailed, ReadsAlone, ReadsLines}
use Rattle.sedacts.specs.Run.{FailedSource}
use Rattle.sedacts.specs.Ends.{LosesPartAfter, size_of}
use Rattle.sedacts.specs.Bringing.{TakesLines}
use Rattle.sedacts.specs.declared.ends.Ended.{Ended}
use Rattle.sedacts.specs.declared.ends.Ended.TheVariants.{Done, InputBroken, PatternFull, TurnsSpent}

-- there is no line only where there is no byte
some_piece : (b : ℕ) (ps : List (List ℕ)) → 0 < length ps → without_empty_last (onto_first b ps) ≡ [] → ⊥
some_piece b [] some e = omega arith
some_piece b (p ∷ ps) some e = cc

piece_before : (ps : List (List ℕ)) → 0 < length ps → without_empty_last ([] ∷ ps) ≡ [] → ⊥
piece_before [] some e = omega arith
piece_before (p ∷ ps) some e = cc

split_none : (b : ℕ) (bs : List ℕ) (is : Bool) → is_newline b ≡ is → without_empty_last (slice_split is_newline (b ∷ bs)) ≡ [] → ⊥
split_none b bs true h e =
    piece_before (slice_split is_newline bs) (omega (arith, length-slice_split is_newline bs)) (ap without_empty_last (sym (slice_split-cons_yes is_newline b bs h)) ∙ e)
split_none b bs false h e =
    some_piece b (slice_split is_newline bs) (omega (arith, length-slice_split is_newline bs)) (ap without_empty_last (sym (slice_split-cons_no is_newline b bs h)) ∙ e)

lines_none : (bytes : List ℕ) → split_lines bytes ≡ [] → bytes ≡ []
unfolding split_lines
lines_none [] e = refl
lines_none (b ∷ bs) e = absurd (split_none b bs (is_newline b) refl e)

pub TakesAtMost-none : (old : Option (List ℕ)) → TakesAtMost old old 0
TakesAtMost-none None = tt
TakesAtMost-none (Some xs) = ([], refl, omega arith)

pub TakesAtMost-kept : (old new : Option (List ℕ)) → Keeps old new → TakesAtMost old new 0
TakesAtMost-kept None new h = tt
TakesAtMost-kept (Some xs) None h = absurd h
TakesAtMost-kept (Some xs) (Some ys) h = ([], sym h, omega arith)

pub TakesAtMost-then : (a b c : Option (List ℕ)) (n m : ℕ) → TakesAtMost a b n → TakesAtMost b c m → TakesAtMost a c (n + m)
TakesAtMost-then None b c n m h i = tt
TakesAtMost-then (Some xs) None c n m h i = absurd h
TakesAtMost-then (Some xs) (Some ys) None n m h i = absurd i
TakesAtMost-then (Some xs) (Some ys) (Some zs) n m (t, e, f) (u, d, g) =
    (t ++ u, e ∙ ap (λ l. t ++ l) d ∙ sym (append_assoc t u zs), omega (arith, length-append t u))

-- The lines that are left stay.
pub lines_stay : {R : Type 0} (remaining : R → Option (List ℕ)) (old new : Stream R) (ls : List (List ℕ)) → lines_left remaining old ≡ Some ls →
    KeepsLines (lines_left remaining old) (lines_left remaining new) → Keeps (left remaining old) (left remaining new) → TakesLines remaining old new ls ls
lines_stay {R} remaining old new ls known kept bytes =
    record { known = stay ls (lines_left remaining new) (rw known at kept); lines = []; are = refl; bytes = TakesAtMost-kept _ _ bytes }
  where
    stay : (ls : List (List ℕ)) (o : Option (List (List ℕ))) → KeepsLines (Some ls) o → o ≡ Some ls
    stay ls None h = absurd h
    stay ls (Some ms) h = ap Some h

pub lines_same : {R : Type 0} (remaining : R → Option (List ℕ)) (old : Stream R) (ls : List (List ℕ)) → lines_left remaining old ≡ Some ls → TakesLines remaining old old ls ls
lines_same {R} remaining old ls known = record { known = known; lines = []; are = refl; bytes = TakesAtMost-none _ }

takes_line : (old new : Option (List ℕ)) (line : List ℕ) → TakesLine old new line → TakesAtMost old new (size_of (line ∷ []))
takes_line None new line h = tt
takes_line (Some xs) None line h = absurd h
takes_line (Some xs) (Some ys) line (none, inl at) = (line ++ 10 ∷ [], at ∙ sym (append_assoc line (10 ∷ []) ys), omega (arith, length-append line (10 ∷ [])))
takes_line (Some xs) (Some ys) line (none, inr (at, end, some)) = (line, at ∙ sym (append-nil line) ∙ ap (λ l. line ++ l) (sym end), omega arith)

gives_line : (ls : List (List ℕ)) (new : Option (List (List ℕ))) (line : List ℕ) → GivesLine (Some ls) new line → (rest : List (List ℕ)) × (new ≡ Some rest) × (ls ≡ line ∷ rest)
gives_line ls None line h = absurd h
gives_line ls (Some rest) line h = (rest, refl, h)

-- A line was taken.
pub line_taken : {R : Type 0} (remaining : R → Option (List ℕ)) (old new : Stream R) (ls : List (List ℕ)) (line : List ℕ) → lines_left remaining old ≡ Some ls →
    TakesLine (left remaining old) (left remaining new) line → GivesLine (lines_left remaining old) (lines_left remaining new) line →
    (rest : List (List ℕ)) × (ls ≡ line ∷ rest) × TakesLines remaining old new ls rest
line_taken {R} remaining old new ls line known bytes given =
    let r = gives_line ls (lines_left remaining new) line (rw known at given) in
    (r.0, r.2, record { known = r.1; lines = line ∷ []; are = r.2; bytes = takes_line _ _ line bytes })

no_lines : (o : Option (List (List ℕ))) (ls : List (List ℕ)) → o ≡ Some ls → NoLineLeft o → ls ≡ []
no_lines None ls e h = cc
no_lines (Some ms) ls e h = let same : ms ≡ ls = cc in sym same ∙ h

-- Nothing is left.
all_taken : (ahead ahead' : List ℕ) (old new : Option (List ℕ)) (n : ℕ) → TakesAtMost old new n → (ls : List (List ℕ)) → option_map split_lines (prepend_known ahead old) ≡ Some ls →
    NoLineLeft (option_map split_lines (prepend_known ahead old)) → NoLineLeft (option_map split_lines (prepend_known ahead' new)) →
    (option_map split_lines (prepend_known ahead' new) ≡ Some []) × TakesAtMost (prepend_known ahead old) (prepend_known ahead' new) 0
all_taken ahead ahead' None new n t ls known none none' = absurd (none_some ls known)
  where
    none_some : (ls : List (List ℕ)) → None ≡ Some ls → ⊥
    none_some ls e = cc
all_taken ahead ahead' (Some xs) None n t ls known none none' = absurd t
all_taken ahead ahead' (Some xs) (Some ys) n t ls known none none' =
    let old : ahead ++ xs ≡ [] = lines_none (ahead ++ xs) none in
    let new : ahead' ++ ys ≡ [] = lines_none (ahead' ++ ys) none' in
    (ap Some none', ([], old ∙ sym new, omega arith))

pub lines_end : {R : Type 0} (remaining : R → Option (List ℕ)) (old new : Stream R) (n : ℕ) (ls : List (List ℕ)) → lines_left remaining old ≡ Some ls → TakesAtMost (remaining old.source) (remaining new.source) n →
    NoLineLeft (lines_left remaining old) → NoLineLeft (lines_left remaining new) → (ls ≡ []) × TakesLines remaining old new ls []
lines_end {R} remaining old new n ls known taken none none' =
    let r = all_taken old.ahead new.ahead (remaining old.source) (remaining new.source) n taken ls known none none' in
    let nil : ls ≡ [] = no_lines _ ls known none in
    (nil, record { known = r.0; lines = []; are = nil; bytes = r.1 })

pub size_of-append : (ls ms : List (List ℕ)) → size_of (ls ++ ms) ≡ size_of ls + size_of ms
size_of-append [] ms = search rules
size_of-append (l ∷ ls) ms = let h = size_of-append ls ms in omega arith

-- lines taken one after another
pub TakesLines-then : {R : Type 0} (remaining : R → Option (List ℕ)) (a b c : Stream R) (ls ms ns : List (List ℕ)) → TakesLines remaining a b ls ms → TakesLines remaining b c ms ns → TakesLines remaining a c ls ns
TakesLines-then {R} remaining a b c ls ms ns s t = record {
  known = t.known;
  lines = s.lines ++ t.lines;
  are = s.are ∙ ap (λ l. s.lines ++ l) t.are ∙ sym (append_assoc s.lines t.lines ns);
  bytes = rw size_of-append (TakesAtMost-then _ _ _ _ _ s.bytes t.bytes);
}

FailedSource-then : {T : Type 0} (a b c : ℕ) (r : Result T Ended) → b ≡ a → FailedSource b c r → FailedSource a c r
FailedSource-then {T} a b c r same h = rw (← same) h

sound-then : {T : Type 0} (a b c : Type 0) (r : Result T Ended) → (a → b) → OnOk r (b → c) → OnOk r (a → c)
sound-then {T} a b c (Ok u) f g = λ x. g (f x)
sound-then {T} a b c (Err e) f g = tt

shrinks-then : (a b c : Option (List ℕ)) → (n : ℕ) × TakesAtMost a b n → (n : ℕ) × TakesAtMost b c n → (n : ℕ) × TakesAtMost a c n
shrinks-then a b c (n, h) (m, i) = (n + m, TakesAtMost-then a b c n m h i)

-- one call after another
pub ReadsLines-then : {R T : Type 0} (remaining : R → Option (List ℕ)) (failures : R → ℕ) (reference : R → List GName) (a b c : Stream R) (r : Result T Ended) →
    ReadsLines {T = Unit} remaining failures reference a b (Ok tt) → ReadsLines remaining failures reference b c r → ReadsLines remaining failures reference a c r
ReadsLines-then {R} {T} remaining failures reference a b c r s t =
    let h = s.ahead in
    let i = t.ahead in
    let look = s.same_read_ahead in
    record {
      same_read_ahead = t.same_read_ahead ∙ s.same_read_ahead;
      same_reference = t.same_reference ∙ s.same_reference;
      ahead = omega arith;
      shrinks = shrinks-then _ _ _ s.shrinks t.shrinks;
      sound = sound-then _ _ _ r s.sound t.sound;
      failed = λ none. FailedSource-then _ _ _ r (s.failed none) (t.failed (s.sound none));
      broken = λ is none. t.broken is (s.sound none);
    }

pub ReadsLines-none : {R : Type 0} (remaining : R → Option (List ℕ)) (failures : R → ℕ) (reference : R → List GName) (a : Stream R) → ReadsLines {T = Unit} remaining failures reference a a (Ok tt)
ReadsLines-none {R} remaining failures reference a = record {
  same_read_ahead = refl;
  same_reference = refl;
  ahead = omega arith;
  shrinks = (0, TakesAtMost-none _);
  sound = λ none. none;
  failed = λ none. refl;
  broken = λ is none. cc;
}

unread : {T : Type 0} (n : ℕ) (r : Result T Ended) → (r ≡ Err InputBroken → ⊥) → FailedSource n n r
unread {T} n (Ok x) h = refl
unread {T} n (Err InputBroken) h = absurd (h refl)
unread {T} n (Err other) h = refl

-- a call that reads nothing
pub ReadsLines-unread : {R T : Type 0} (remaining : R → Option (List ℕ)) (failures : R → ℕ) (reference : R → List GName) (a : Stream R) (r : Result T Ended) → (r ≡ Err InputBroken → ⊥) → ReadsLines remaining failures reference a a r
ReadsLines-unread {R} {T} remaining failures reference a r h = record {
  same_read_ahead = refl;
  same_reference = refl;
  ahead = omega arith;
  shrinks = (0, TakesAtMost-none _);
  sound = any_way r;
  failed = λ none. unread (failures a.source) r h;
  broken = λ is none. absurd (h is);
}
  where
    any_way : (r : Result T Ended) → OnOk r (a.fault ≡ None → a.fault ≡ None)
    any_way (Ok x) = λ none. none
    any_way (Err e) = tt

-- What left loses, the source loses with what is ahead.
pub source_takes : (ahead ahead' : List ℕ) (old new : Option (List ℕ)) (n m : ℕ) → (k : ℕ) × TakesAtMost old new k → TakesAtMost (prepend_known ahead old) (prepend_known ahead' new) n →
    length ahead' ≤ max (length ahead) m → TakesAtMost old new (n + m)
source_takes ahead ahead' None new n m shrinks h bound = tt
source_takes ahead ahead' (Some xs) None n m (k, i) h bound = absurd i
source_takes ahead ahead' (Some xs) (Some ys) n m (k, (taken, is, count)) (gone, all, most) bound =
    let first = ap length is in
    let whole = ap length all in
    (taken, is, omega (arith, first, whole, length-append taken ys, length-append ahead xs, length-append gone (ahead' ++ ys), length-append ahead' ys))

-- no line is left where that is the answer
pub last_shown : (o : Option (List (List ℕ))) (ls : List (List ℕ)) (last : Bool) → o ≡ Some ls → AnswersLast o last → last ≡ true → ls ≡ []
last_shown None ls last known shown is = cc
last_shown (Some ms) ls last known shown is =
    let same : ms ≡ ls = cc in
    let none : ms ≡ [] = grind (arith, shown) in
    sym same ∙ none

pub TakesAtMost-more : (old new : Option (List ℕ)) (n m : ℕ) → n ≤ m → TakesAtMost old new n → TakesAtMost old new m
TakesAtMost-more None new n m h t = tt
TakesAtMost-more (Some xs) None n m h t = absurd t
TakesAtMost-more (Some xs) (Some ys) n m h (t, is, most) = (t, is, omega arith)

pub some_shown : (o : Option (List (List ℕ))) (ls : List (List ℕ)) (last : Bool) → o ≡ Some ls → AnswersLast o last → last ≡ false → not (none_left ls) ≡ true
some_shown None ls last known shown is = cc
some_shown (Some ms) ls last known shown is =
    let same : ms ≡ ls = cc in
    rw (← same) (none_or_any ms last shown is)
  where
    none_or_any : (ms : List (List ℕ)) (last : Bool) → AnswersLast (Some ms) last → last ≡ false → not (none_left ms) ≡ true
    none_or_any [] last shown is = grind (arith, shown)
    none_or_any (m ∷ ms) last shown is = refl

-- a call that may read, whatever it answered
pub ReadsLines-shown : {R T : Type 0} (remaining : R → Option (List ℕ)) (failures : R → ℕ) (reference : R → List GName) (a b : Stream R) (x : T) → ReadsLines remaining failures reference a b (Ok x) → ReadsLines {T = Unit} remaining failures reference a b (Ok tt)
ReadsLines-shown {R} {T} remaining failures reference a b x h = record { same_read_ahead = h.same_read_ahead; same_reference = h.same_reference; ahead = h.ahead; shrinks = h.shrinks; sound = h.sound; failed = h.failed; broken = λ is none. cc }

pub ReadsLines-ended : {R T U : Type 0} (remaining : R → Option (List ℕ)) (failures : R → ℕ) (reference : R → List GName) (a b : Stream R) (end : Ended) → ReadsLines {T = T} remaining failures reference a b (Err end) → ReadsLines {T = U} remaining failures reference a b (Err end)
ReadsLines-ended {R} {T} {U} remaining failures reference a b end h =
    record { same_read_ahead = h.same_read_ahead; same_reference = h.same_reference; ahead = h.ahead; shrinks = h.shrinks; sound = tt; failed = h.failed; broken = λ is none. h.broken (let same : end ≡ InputBroken = cc in ap Err same) none }

-- the same of a call that writes nothing
pub ReadsAlone-shown : {R T : Type 0} {remaining : R → Option (List ℕ)} {failures : R → ℕ} {reference : R → List GName} {a b : Stream R} (x : T) → ReadsAlone remaining failures reference a b (Ok x) → ReadsAlone {T = Unit} remaining failures reference a b (Ok tt)
ReadsAlone-shown x h = record { input = ReadsLines-shown _ _ _ _ _ x h.input; output = tt }

pub ReadsAlone-ended : {R T U : Type 0} {remaining : R → Option (List ℕ)} {failures : R → ℕ} {reference : R → List GName} {a b : Stream R} (end : Ended) → ReadsAlone {T = T} remaining failures reference a b (Err end) → ReadsAlone {T = U} remaining failures reference a b (Err end)
ReadsAlone-ended end h = record { input = ReadsLines-ended _ _ _ _ _ end h.input; output = h.output }

-- where no byte is gone, no more than a part of a line is
pub LosesPart-none : (old new : Option (List ℕ)) (n : ℕ) → TakesAtMost old new 0 → LosesPart old new n
LosesPart-none None new n h = tt
LosesPart-none (Some xs) None n h = absurd h
LosesPart-none (Some xs) (Some ys) n ([], is, most) = ([], (λ j d lt. absurd (omega (arith, lt))), is, omega arith)
LosesPart-none (Some xs) (Some ys) n (b ∷ bs, is, most) = absurd (omega arith)

-- what holds no newline past a place holds none past a later one, with bytes before it
clear_past : (front gone : List ℕ) (n p : ℕ) → length front + n ≤ p → HasNoNewline (drop n gone) → HasNoNewline (drop p (front ++ gone))
clear_past front gone n p le clear =
    let k : ℕ = p - (length front + n) in
    let at : p ≡ length front + (n + k) = omega (arith, le) in
    subst (λ q. HasNoNewline (drop q (front ++ gone))) (sym at) (
    subst HasNoNewline (sym (drop-append-add front gone (n + k))) (
    subst HasNoNewline (drop-drop k n gone) (All-drop (λ b. is_newline b ≡ false) k (drop n gone) clear)
    )
    )

-- bytes, and then more bytes and a part of a line
pub LosesPartAfter-then : (a b c : Option (List ℕ)) (n m p k : ℕ) → n + m ≤ p → TakesAtMost a b n → LosesPartAfter b c m k → LosesPartAfter a c p k
LosesPartAfter-then None b c n m p k le h part = tt
LosesPartAfter-then (Some xs) None c n m p k le h part = absurd h
LosesPartAfter-then (Some xs) (Some ys) None n m p k le h part = absurd part
LosesPartAfter-then (Some xs) (Some ys) (Some zs) n m p k le (front, is, few) (gone, all, clear, most) = (
  front ++ gone,
  is ∙ ap (λ bs. front ++ bs) all ∙ sym (append_assoc front gone zs),
  clear_past front gone m p (omega (arith, few, le)) clear,
  omega (arith, length-append front gone, few, most, le),
)

-- a part of a line alone
pub LosesPartAfter-none : (a b : Option (List ℕ)) (k : ℕ) → LosesPart a b k → LosesPartAfter a b 0 k
LosesPartAfter-none None b k part = tt
LosesPartAfter-none (Some xs) None k part = absurd part
LosesPartAfter-none (Some xs) (Some ys) k (part, clear, is, most) = (part, is, clear, omega arith)

-- bytes alone
pub LosesPartAfter-bytes : (a b : Option (List ℕ)) (n : ℕ) → TakesAtMost a b n → LosesPartAfter a b n 0
LosesPartAfter-bytes None b n h = tt
LosesPartAfter-bytes (Some xs) None n h = absurd h
LosesPartAfter-bytes (Some xs) (Some ys) n (gone, is, most) =
    (gone, is, subst HasNoNewline (sym (drop_all n gone most)) (λ j d lt. absurd (omega (arith, lt))), omega (arith, most))

pub LosesPartAfter-takes : (a b : Option (List ℕ)) (n m : ℕ) → LosesPartAfter a b n m → TakesAtMost a b (n + m)
LosesPartAfter-takes None b n m h = tt
LosesPartAfter-takes (Some xs) None n m h = absurd h
LosesPartAfter-takes (Some xs) (Some ys) n m (gone, is, clear, most) = (gone, is, most)

named_none : {T : Type 0} (n m : ℕ) (r : Result T Ended) → NamesNone r → m ≡ n → FailedSource n m r
named_none {T} n m (Ok x) h same = same
named_none {T} n m (Err InputBroken) h same = absurd (h.input refl)
named_none {T} n m (Err other) h same = same

sound_ok : {T : Type 0} (r : Result T Ended) (P Q : Type 0) → Q → OnOk r (P → Q)
sound_ok {T} (Ok x) P Q q = λ p. q
sound_ok {T} (Err end) P Q q = tt

-- answers that name no device
pub names_ok : {T : Type 0} {x : T} → NamesNone {T = T} (Ok x)
names_ok = record { output = tt; input = λ is. cc }

pub names_spent : {T : Type 0} → NamesNone {T = T} (Err TurnsSpent)
names_spent = record { output = tt; input = λ is. cc }

pub names_done : {T : Type 0} → NamesNone {T = T} (Err Done)
names_done = record { output = tt; input = λ is. cc }

pub names_long : {T : Type 0} {n : ℕ} → NamesNone {T = T} (Err (PatternFull n))
names_long = record { output = tt; input = λ is. cc }

any_sound : {U : Type 0} (r : Result U Ended) (P : Type 0) → P → OnOk r P
any_sound (Ok x) P p = p
any_sound (Err end) P p = tt

-- a call that was answered, and what is answered then, which names no device
pub reads_on : {R T U : Type 0} {remaining : R → Option (List ℕ)} {failures : R → ℕ} {reference : R → List GName} {a b : Stream R} (x : T) (r : Result U Ended) → NamesNone r → ReadsAlone remaining failures reference a b (Ok x) → ReadsAlone {T = U} remaining failures reference a b r
reads_on x r none h =
    let i = h.input in
    record {
      input = record { same_read_ahead = i.same_read_ahead; same_reference = i.same_reference; ahead = i.ahead; shrinks = i.shrinks; sound = any_sound r _ i.sound; failed = λ sound. named_none _ _ r none (i.failed sound); broken = λ is sound. absurd (none.input is) };
      output = none.output;
    }

abbrev pub faulted : (A : Type 0) → LineFault → Result A LineFault
faulted A f = Err f

-- a line that is too long was reported before where that is kept, and no source that failed reports it
pub kept_long : (A : Type 0) {f : LineFault} {o : Option LineFault} → (faulted A f ≡ faulted A TooLong → o ≡ Some TooLong) → f ≡ TooLong → o ≡ None → ⊥
kept_long A kept long none = let some = kept (ap (faulted A) long) in cc

pub broken_long : {f : LineFault} {P : Type 0} → f ≡ Broken → f ≡ TooLong → P → ⊥
broken_long broken long = absurd (let same : Broken ≡ TooLong = sym broken ∙ long in cc)

-- What a call for a line, or for whether one is left, does to the lines, where its answer is passed on as r.
module _ {R T : Type 0} (A : Type 0) {remaining : R → Option (List ℕ)} {failures : R → ℕ} {reference : R → List GName} {old new : Stream R} (n : ℕ) where
  reads : {r : Result T Ended} → ReadsOn reference old new → TakesAtMost (remaining old.source) (remaining new.source) n → OnOk r (old.fault ≡ None → new.fault ≡ None) →
      (old.fault ≡ None → FailedSource (failures old.source) (failures new.source) r) → (r ≡ Err InputBroken → old.fault ≡ None → new.ahead ≡ []) → NoSinkFailed r → ReadsAlone remaining failures reference old new r
  reads on taken sound failed broken output =
      let ahead = on.0 in
      let look = on.1 in
      record { input = record { same_read_ahead = on.1; same_reference = on.2; ahead = omega arith; shrinks = (n, taken); sound = sound; failed = failed; broken = broken }; output = output }

  -- it answered
  pub reads_shown : (x : A) (r : Result T Ended) → NamesNone r → ReadsOn reference old new → TakesAtMost (remaining old.source) (remaining new.source) n → KeepsFault {T = A} (Ok x) old new →
      (old.fault ≡ None → FailsIfBroken {T = A} (Ok x) (failures old.source) (failures new.source)) → ReadsAlone remaining failures reference old new r
  reads_shown x r none on taken fault fails = reads on taken (sound_ok r _ _ fault.0) (λ sound. named_none _ _ r none (fails sound)) (λ is sound. absurd (none.input is)) none.output

  -- the line was too long
  pub reads_long : (f : LineFault) (end : Ended) → f ≡ TooLong → NamesNone {T = T} (Err end) → ReadsOn reference old new → TakesAtMost (remaining old.source) (remaining new.source) n →
      (old.fault ≡ None → FailsIfBroken {T = A} (Err f) (failures old.source) (failures new.source)) → ReadsAlone {T = T} remaining failures reference old new (Err end)
  reads_long f end long none on taken fails =
      reads on taken tt (λ sound. named_none {T = T} _ _ (Err end) none (rw long at (fails sound))) (λ is sound. absurd (none.input is)) none.output

  -- the source failed
  pub reads_broken : (f : LineFault) → (f ≡ TooLong → old.fault ≡ None → ⊥) → ReadsOn reference old new → TakesAtMost (remaining old.source) (remaining new.source) n →
      (old.fault ≡ None → FailsIfBroken {T = A} (Err f) (failures old.source) (failures new.source)) → (f ≡ Broken → old.fault ≡ None → new.ahead ≡ []) → ReadsAlone {T = T} remaining failures reference old new (Err InputBroken)
  reads_broken Broken short on taken fails broken = reads on taken tt (λ sound. let rose = fails sound in omega arith) (λ is sound. broken refl sound) tt
  reads_broken TooLong short on taken fails broken = reads on taken tt (λ sound. absurd (short refl sound)) (λ is sound. absurd (short refl sound)) tt
