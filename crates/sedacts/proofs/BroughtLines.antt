-- A further line is brought to a space.
use Rattle.std.proofs.Common.{◌≡◌, ℕ, ◌+◌, ◌<◌, ◌≤◌, Bool, true, false, List, [], ◌∷◌, ◌++◌, length, Option, Some, Result, Ok, Err, refl, subst, sym, ap, ◌∙◌, arith, length-append, ◌-◌, take}
use Rattle.std.proofs.Math.Seq.{take-append_seam}
use Rattle.std.specs.Borrow.{GName}
use Rattle.sedspace.specs.Spaces.{SpaceView}
use Rattle.sedspace.specs.Stream.{Stream, left, lines_left, FirstIsLonger, GivesLine, LosesPart, NoLineLeft, TakesLine}
use Rattle.sedspace.specs.Reading.{TakesAtMost}
use Rattle.sedspace.specs.declared.lines.Got.{Got}
use Rattle.sedspace.specs.declared.lines.Got.TheVariants.{Line, End}
use Rattle.sedacts.specs.Move.{newline, none_left}
use Rattle.sedacts.specs.Ends.{size_of}
use Rattle.sedacts.specs.Bringing.{TakesLines, BringsNext, BringsLine, AnswersLine}
use Rattle.sedacts.specs.declared.ends.Ended.{Ended}
use Rattle.sedacts.specs.declared.ends.Ended.TheVariants.{PatternFull, InputBroken}
use Rattle.sedacts.proofs.Streams.{LosesPart-none, line_taken, lines_end}

-- the line that is too long
pub longer : {n : ℕ} (ls : List (List ℕ)) → FirstIsLonger (Some ls) n → (line : List ℕ) × (rest : List (List ℕ)) × (ls ≡ line ∷ rest) × (n < length line)
longer [] h = absurd h
longer (line ∷ rest) h = (line, rest, refl, h)

pub none_taken : (xs ls : List (List ℕ)) → ls ≡ xs ++ ls → size_of xs ≡ 0
none_taken [] ls h = refl
none_taken (x ∷ xs) ls h = absurd (omega (arith, ap length h, length-append (x ∷ xs) ls))

-- what a call that brings a line answers, without whether there was one
abbrev pub shown : Result Got Ended → Result Unit Ended
shown (Ok got) = Ok tt
shown (Err end) = Err end

-- A call for a line has brought it, or there is none.
pub brings_got : {R : Type 0} (remaining : R → Option (List ℕ)) (old new : Stream R) (ls : List (List ℕ)) (number n : ℕ) (s s' : SpaceView) (got : Got) → lines_left remaining old ≡ Some ls →
    (got ≡ Line → (line : List ℕ) × (s' ≡ record s { bytes = s.bytes ++ line }) × TakesLine (left remaining old) (left remaining new) line × GivesLine (lines_left remaining old) (lines_left remaining new) line) →
    length s'.bytes ≤ s'.limit → (got ≡ End → (s' ≡ s) × NoLineLeft (lines_left remaining old) × NoLineLeft (lines_left remaining new)) → TakesAtMost (remaining old.source) (remaining new.source) n →
    BringsNext remaining old new ls s.bytes number s s' (Ok got)
brings_got {R} remaining old new ls number n s s' Line known line fits end taken =
    let (l, is, bytes, given) = line refl in
    let r = line_taken remaining old new ls l known bytes given in
    let limit : s'.limit ≡ s.limit = ap (λ (c : SpaceView). c.limit) is in
    let same = ap (λ (c : SpaceView). length c.bytes) is in
    (l, r.0, r.1, r.2, is, omega arith)
brings_got {R} remaining old new ls number n s s' End known line fits end taken =
    let (is, none, none') = end refl in
    let r = lines_end remaining old new n ls known taken none none' in
    (r.0, r.1, is)

abbrev pub answered : Got → Result Got Ended
answered got = Ok got

abbrev failed : Ended → Result Got Ended
failed end = Err end

-- what a call for a line, which answers got, leaves of a space
module _ (s s' : SpaceView) (got : Got) (line : got ≡ Line → (l : List ℕ) × (s' ≡ record s { bytes = s.bytes ++ l })) (end : got ≡ End → s' ≡ s) where
  pub got_limit : s'.limit ≡ s.limit
  got_limit = by got refl
    where
      by : (g : Got) → got ≡ g → s'.limit ≡ s.limit
      by Line is = ap (λ (c : SpaceView). c.limit) (line is).1
      by End is = ap (λ (c : SpaceView). c.limit) (end is)

  pub got_stays : (answered got ≡ Ok Line → ⊥) → s' ≡ s
  got_stays other = by got refl
    where
      by : (g : Got) → got ≡ g → s' ≡ s
      by Line is = absurd (other (ap answered is))
      by End is = end is

-- A line that is too long.
pub brings_long : {R : Type 0} (remaining : R → Option (List ℕ)) (old new : Stream R) (ls : List (List ℕ)) (number : ℕ) (s s' : SpaceView) → lines_left remaining old ≡ Some ls → FirstIsLonger (lines_left remaining old) (s.limit - length s.bytes) →
    (s' ≡ s) × LosesPart (left remaining old) (left remaining new) s.limit → BringsNext remaining old new ls s.bytes number s s' (Err (PatternFull number))
brings_long {R} remaining old new ls number s s' known long stays =
    let r = longer ls (subst (λ (o : Option (List (List ℕ))). FirstIsLonger o (s.limit - length s.bytes)) known long) in
    (refl, (r.0, r.1, r.2, omega (arith, r.3, length-append s.bytes r.0)), stays.0, stays.1)

-- Whether a line is left.
pub none_is : (ls : List (List ℕ)) → none_left ls ≡ true → ls ≡ []
none_is [] h = refl
none_is (line ∷ rest) h = cc

pub one_is : (ls : List (List ℕ)) → none_left ls ≡ false → (line : List ℕ) × (rest : List (List ℕ)) × (ls ≡ line ∷ rest)
one_is [] h = cc
one_is (line ∷ rest) h = (line, rest, refl)

-- A full space: it is asked whether a line is left.
pub brings_none : {R : Type 0} (remaining : R → Option (List ℕ)) (old new : Stream R) (ls : List (List ℕ)) (before : List ℕ) (number : ℕ) (s : SpaceView) (last : Bool) → TakesLines remaining old new ls ls → last ≡ none_left ls → last ≡ true →
    BringsNext remaining old new ls before number s s (Ok End)
brings_none {R} remaining old new ls before number s last taken shown is =
    let none = none_is ls (sym shown ∙ is) in
    let T : List (List ℕ) → Type 0 = λ ms. TakesLines remaining old new ls ms in
    (none, subst T none taken, refl)

taken_none : {R : Type 0} (remaining : R → Option (List ℕ)) (old new : Stream R) (ls : List (List ℕ)) → TakesLines remaining old new ls ls → TakesAtMost (left remaining old) (left remaining new) 0
taken_none {R} remaining old new ls taken = rw (none_taken taken.lines ls taken.are) at taken.bytes

pub brings_too_long : {R : Type 0} (remaining : R → Option (List ℕ)) (old new : Stream R) (ls : List (List ℕ)) (before : List ℕ) (number : ℕ) (s : SpaceView) (last : Bool) → TakesLines remaining old new ls ls → last ≡ none_left ls → last ≡ false → s.limit < length before →
    BringsNext remaining old new ls before number s s (Err (PatternFull number))
brings_too_long {R} remaining old new ls before number s last taken shown is more =
    let (line, rest, are) = one_is ls (sym shown ∙ is) in
    (refl, (line, rest, are, omega (arith, length-append before line)), refl, LosesPart-none _ _ _ (taken_none remaining old new ls taken))

pub brings_broken : {R : Type 0} (remaining : R → Option (List ℕ)) (old new : Stream R) (ls : List (List ℕ)) (before : List ℕ) (number : ℕ) (s : SpaceView) (end : Ended) → TakesLines remaining old new ls ls → AnswersLine (none_left ls) (Err end) →
    BringsNext remaining old new ls before number s s (Err end)
brings_broken {R} remaining old new ls before number s InputBroken taken shown = (refl, LosesPart-none _ _ _ (taken_none remaining old new ls taken))
brings_broken {R} remaining old new ls before number s other taken shown = absurd shown

pub no_line_at_end : answered End ≡ Ok Line → ⊥
no_line_at_end is = cc

pub no_line_stopped : (end : Ended) → failed end ≡ Ok Line → ⊥
no_line_stopped end is = cc

-- `N`: a line was sought for a space that a newline had been added to. Where none came that is cut off again.
module _ {R : Type 0} (remaining : R → Option (List ℕ)) (failures : R → ℕ) (reference : R → List GName) (old new : Stream R) (number : ℕ) (s s1 s2 : SpaceView) (r : Result Got Ended) (added : s1 ≡ record s { bytes = s.bytes ++ newline ∷ [] }) (h : BringsLine remaining failures reference s1.bytes number s1 s2 old new r) where
  brought_more : BringsLine remaining failures reference (s.bytes ++ newline ∷ []) number (record s { bytes = s.bytes ++ newline ∷ [] }) s2 old new r
  brought_more = subst (λ (s1 : SpaceView). BringsLine remaining failures reference s1.bytes number s1 s2 old new r) added h

  pub joins_line : r ≡ Ok Line → length s.bytes + 1 ≤ s.limit → BringsLine remaining failures reference (s.bytes ++ newline ∷ []) number s s2 old new r
  joins_line is short = record {
    brings = λ sound ls known. as_line ls r is (brought_more.brings sound ls known);
    reads = h.reads;
    limit = brought_more.limit;
    fits = λ _. brought_more.fits (omega (arith, short, length-append s.bytes (newline ∷ [])));
    stays = λ other. absurd (other is);
  }
    where
      as_line : (ls : List (List ℕ)) (r : Result Got Ended) → r ≡ Ok Line → BringsNext remaining old new ls (s.bytes ++ newline ∷ []) number (record s { bytes = s.bytes ++ newline ∷ [] }) s2 r → BringsNext remaining old new ls (s.bytes ++ newline ∷ []) number s s2 r
      as_line ls (Ok Line) is h = h
      as_line ls (Ok End) is h = cc
      as_line ls (Err end) is h = cc

  pub joins_none : (s3 : SpaceView) (len : ℕ) → len ≡ length s.bytes → s3 ≡ record s2 { bytes = take len s2.bytes } → (r ≡ Ok Line → ⊥) → BringsLine remaining failures reference (s.bytes ++ newline ∷ []) number s s3 old new r
  joins_none s3 len size cut other =
      let back : s3 ≡ s = cut ∙ ap (λ (c : SpaceView). record c { bytes = take len c.bytes }) (brought_more.stays other) ∙ ap (λ n. record s { bytes = take n (s.bytes ++ newline ∷ []) }) size ∙ ap (λ w. record s { bytes = w }) (take-append_seam s.bytes (newline ∷ [])) in
      rw back (record {
        brings = λ sound ls known. as_none ls r other (brought_more.brings sound ls known);
        reads = h.reads;
        limit = refl;
        fits = λ short. short;
        stays = λ _. refl;
      })
    where
      as_none : (ls : List (List ℕ)) (r : Result Got Ended) → (r ≡ Ok Line → ⊥) → BringsNext remaining old new ls (s.bytes ++ newline ∷ []) number (record s { bytes = s.bytes ++ newline ∷ [] }) s2 r → BringsNext remaining old new ls (s.bytes ++ newline ∷ []) number s s r
      as_none ls (Ok Line) other h = absurd (other refl)
      as_none ls (Ok End) other h = (h.0, h.1, refl)
      as_none ls (Err (PatternFull n)) other h = (h.0, h.1, refl, h.3)
      as_none ls (Err InputBroken) other h = (refl, h.1)
      as_none ls (Err end) other h = absurd h
