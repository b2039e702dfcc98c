-- What gathered parts mean for the lines to come.
use Rattle.std.proofs.Common.{◌≡◌, ◌==◌, ℕ, ◌+◌, ◌-◌, ◌<◌, ◌≤◌, List, [], ◌∷◌, ◌++◌, length, Option, None, Some, option_map, Bool, true, false, not, IsTrue, ◌↔◌, Result, Ok, Err, refl, sym, ap, ◌∙◌, arith, rules, inl, inr, ⊎_elim, length-append, append_assoc, append-nil, subst, is_ok, if◌then◌else◌, take, length-take, length-drop, drop, slice_index_or}
use Rattle.std.proofs.lemmas.Bool.Decides.{nat_tests}
use Rattle.std.proofs.Math.Seq.{take-append_seam}
use Rattle.std.specs.List.{before_first}
use Rattle.std.specs.Io.KnownBytes.{prepend_known, Consumes, IsAtEnd}
use Rattle.sedspace.specs.Lines.{split_lines, is_newline, HasNoNewline}
use Rattle.sedspace.specs.Reading.{TakesAtMost}
use Rattle.sedspace.specs.Stream.{Stream, left, lines_left, TakesLine, GivesLine, NoLineLeft, FirstIsLonger, SeesEnd, LosesPart, AnswersLast}
use Rattle.sedspace.specs.Spaces.{SpaceView}
use Rattle.sedspace.specs.declared.lines.Got.{Got}
use Rattle.sedspace.specs.declared.lines.Got.TheVariants.{Line, End}
use Rattle.sedspace.specs.declared.errors.LineFault.{LineFault}
use Rattle.sedspace.specs.declared.errors.LineFault.TheVariants.{Broken, TooLong}
use Rattle.sedspace.specs.Gathering.{Gathers}
use Rattle.sedspace.proofs.LineLemmas.{lines_at, lines_last, lines_nil, lines_none, lines_first, length-before_first-append}

pub takes_ended : (a b : Option (List ℕ)) (line : List ℕ) → Consumes a b (line ++ 10 ∷ []) → HasNoNewline line → TakesLine a b line × GivesLine (option_map split_lines a) (option_map split_lines b) line
takes_ended None b line h none = (tt, tt)
takes_ended (Some xs) None line h none = absurd h
takes_ended (Some xs) (Some ys) line h none =
    let e : xs ≡ line ++ 10 ∷ ys = h ∙ append_assoc line (10 ∷ []) ys in
    ((none, inl e), ap split_lines e ∙ lines_at line ys none)

pub takes_last : (a b : Option (List ℕ)) (line : List ℕ) → Consumes a b line → HasNoNewline line → 0 < length line → IsAtEnd b → TakesLine a b line × GivesLine (option_map split_lines a) (option_map split_lines b) line
takes_last None b line h none some end = (tt, tt)
takes_last (Some xs) None line h none some end = absurd h
takes_last (Some xs) (Some ys) line h none some end =
    let e : xs ≡ line = h ∙ ap (λ z. line ++ z) end ∙ append-nil line in
    ((none, inr (e, end, some)), ap split_lines e ∙ lines_last line none some ∙ ap (λ z. line ∷ z) (sym (ap split_lines end ∙ lines_nil)))

pub none_left : (a b : Option (List ℕ)) → Consumes a b [] → IsAtEnd b → NoLineLeft (option_map split_lines a) × NoLineLeft (option_map split_lines b)
none_left None None h end = (tt, tt)
none_left None (Some ys) h end = (tt, ap split_lines end ∙ lines_nil)
none_left (Some xs) None h end = absurd h
none_left (Some xs) (Some ys) h end = (ap split_lines (h ∙ end) ∙ lines_nil, ap split_lines end ∙ lines_nil)

first_longer : (xs : List ℕ) (n : ℕ) → n < length (before_first is_newline xs) → FirstIsLonger (Some (split_lines xs)) n
first_longer [] n h = absurd (omega arith)
first_longer (x ∷ xs) n h = subst (λ z. FirstIsLonger (Some z) n) (sym (lines_first (x ∷ xs) (omega arith))) h

pub first_is_longer : (a known : Option (List ℕ)) (part ahead : List ℕ) (n : ℕ) → Consumes a (prepend_known ahead known) part → HasNoNewline part → n < length part + length (before_first is_newline ahead) → FirstIsLonger (option_map split_lines a) n
first_is_longer None known part ahead n h none long = tt
first_is_longer (Some xs) None part ahead n h none long = absurd h
first_is_longer (Some xs) (Some ys) part ahead n h none long =
    subst (λ z. FirstIsLonger (Some (split_lines z)) n) (sym h) (
    first_longer (part ++ (ahead ++ ys)) n (omega (arith, long, length-before_first-append part ahead ys none))
    )

-- bytes between two places of a buffer are no more than those before the second
pub ahead_within : (front filled n : ℕ) (bytes : List ℕ) → filled ≤ n → length (drop front (take filled bytes)) ≤ n
ahead_within front filled n bytes most = omega (arith, length-drop front (take filled bytes), length-take filled bytes)

-- what was appended within the limit lies within it
pub appended_fits : (old new : SpaceView) (bytes : List ℕ) (count : ℕ) → new ≡ record old { bytes = old.bytes ++ bytes } → length bytes ≤ count → length old.bytes + count ≤ old.limit → length new.bytes ≤ new.limit
appended_fits old new bytes count e most fits =
    omega (arith, ap (λ (z : SpaceView). length z.bytes) e, ap (λ (z : SpaceView). z.limit) e, length-append old.bytes bytes, most, fits)

-- bytes ahead are a line to come
pub answers_more : (known : Option (List ℕ)) (ahead : List ℕ) → 0 < length ahead → AnswersLast (option_map split_lines (prepend_known ahead known)) false
answers_more None ahead some = tt
answers_more (Some ys) ahead some =
    let none : split_lines (ahead ++ ys) ≡ [] → ⊥ = λ e. absurd (omega (arith, ap length (lines_none (ahead ++ ys) e), length-append ahead ys)) in
    (λ (t : IsTrue false). absurd (search (rules, t)), λ e. absurd (none e))

answers_end : (a b : Option (List ℕ)) → Consumes a b [] → IsAtEnd b → AnswersLast (option_map split_lines a) true
answers_end None b h end = tt
answers_end (Some xs) None h end = absurd h
answers_end (Some xs) (Some ys) h end = (λ _. ap split_lines (h ∙ end) ∙ lines_nil, λ _. search rules)

answers_same : (a b : Option (List ℕ)) (last : Bool) → Consumes a b [] → AnswersLast (option_map split_lines b) last → AnswersLast (option_map split_lines a) last
answers_same None b last h t = tt
answers_same (Some xs) None last h t = absurd h
answers_same (Some xs) (Some ys) last h t = subst (λ z. AnswersLast (Some (split_lines z)) last) (sym h) t

-- what a read past an empty front answers
pub answers_read : (a known : Option (List ℕ)) (ahead : List ℕ) (more : Bool) → Consumes a (prepend_known ahead known) [] → (IsTrue more ↔ (0 < length ahead)) → (more ≡ false → IsAtEnd (prepend_known ahead known)) → AnswersLast (option_map split_lines a) (not more)
answers_read a known ahead true h given end = answers_same a _ false h (answers_more known ahead (given.0 (search rules)))
answers_read a known ahead false h given end = answers_end a _ h (end refl)

takes_at_most : (a b : Option (List ℕ)) (taken : List ℕ) (n : ℕ) → Consumes a b taken → length taken ≤ n → TakesAtMost a b n
takes_at_most None b taken n h most = tt
takes_at_most (Some xs) None taken n h most = absurd h
takes_at_most (Some xs) (Some ys) taken n h most = (taken, h, most)

loses_part : (a b : Option (List ℕ)) (part : List ℕ) (n : ℕ) → Consumes a b part → HasNoNewline part → length part ≤ n → LosesPart a b n
loses_part None b part n h none most = tt
loses_part (Some xs) None part n h none most = absurd h
loses_part (Some xs) (Some ys) part n h none most = (part, none, h, most)

seen_end : (a : Option (List ℕ)) (ended : Bool) → ended ≡ true → SeesEnd a ended
seen_end None ended e = tt
seen_end (Some xs) ended e = λ none. e

at_seam : (line ys : List ℕ) → slice_index_or (line ++ 10 ∷ ys) (length line) 0 ≡ 10
at_seam [] ys = refl
at_seam (b ∷ line) ys = at_seam line ys

newline_there : (line ys : List ℕ) → HasNoNewline (line ++ 10 ∷ ys) → ⊥
newline_there line ys h =
    let no : is_newline (slice_index_or (line ++ 10 ∷ ys) (length line) 0) ≡ false = h (length line) 0 (omega (arith, length-append line (10 ∷ ys))) in
    let never : ◌≡◌ {A = Bool} true false = rw (at_seam line ys) at no in absurd (cc)

ended_unseen : (a b : Option (List ℕ)) (line : List ℕ) (ended : Bool) → Consumes a b (line ++ 10 ∷ []) → SeesEnd a ended
ended_unseen None b line ended h = tt
ended_unseen (Some xs) None line ended h = absurd h
ended_unseen (Some xs) (Some ys) line ended h =
    let e : xs ≡ line ++ 10 ∷ ys = h ∙ append_assoc line (10 ∷ []) ys in
    λ none. absurd (newline_there line ys (rw (← e) none))

module _ (before after : SpaceView) (part : List ℕ) (e : after ≡ record { bytes = before.bytes ++ part; limit = before.limit }) where
  size_of : length after.bytes ≡ length before.bytes + length part
  size_of = ap (λ (z : SpaceView). length z.bytes) e ∙ length-append before.bytes part

  limit_of : after.limit ≡ before.limit
  limit_of = ap (λ (z : SpaceView). z.limit) e

  cut_back : (n : ℕ) → n ≡ length before.bytes → record after { bytes = take n after.bytes } ≡ before
  cut_back n is =
      ap (λ (z : SpaceView). record z { bytes = take n z.bytes }) e
      ∙ ap (λ (bytes : List ℕ). record before { bytes = bytes }) (ap (λ m. take m (before.bytes ++ part)) is ∙ take-append_seam before.bytes part)

module _ {R : Type 0} (remaining : R → Option (List ℕ)) (failures : R → ℕ) (old new : Stream R) (before after : SpaceView) where
  pub line_gathered : (r : Result Got LineFault) → Gathers remaining failures old new before after r → r ≡ Ok Line → (line : List ℕ) × (after ≡ record before { bytes = before.bytes ++ line }) × TakesLine (left remaining old) (left remaining new) line × GivesLine (lines_left remaining old) (lines_left remaining new) line
  line_gathered (Ok Line) h e =
      ⊎_elim
      (λ w. let t = takes_ended _ _ h.1 w.left_is w.line_is in (h.1, w.space, t.0, t.1))
      (λ w. let t = takes_last _ _ h.1 w.0.left_is w.0.part_is w.1 w.2 in (h.1, w.0.space, t.0, t.1))
      h.3
  line_gathered (Ok End) h e = cc
  line_gathered (Err f) h e = cc

  pub end_gathered : (r : Result Got LineFault) → Gathers remaining failures old new before after r → r ≡ Ok End → (after ≡ before) × NoLineLeft (lines_left remaining old) × NoLineLeft (lines_left remaining new) × (new.ended ≡ true)
  end_gathered (Ok Line) h e = cc
  end_gathered (Ok End) h e =
      let n = none_left _ _ h.2.left_is h.3 in
      (h.2.space ∙ ap (λ (z : List ℕ). record before { bytes = z }) (append-nil before.bytes), n.0, n.1, h.4)
  end_gathered (Err f) h e = cc

  -- a line without a newline after it shows the end
  pub last_gathered : (r : Result Got LineFault) → Gathers remaining failures old new before after r → r ≡ Ok Line → SeesEnd (left remaining old) new.ended
  last_gathered (Ok Line) h e =
      ⊎_elim
      (λ w. ended_unseen _ _ h.1 new.ended w.left_is)
      (λ w. seen_end (left remaining old) new.ended w.3)
      h.3
  last_gathered (Ok End) h e = cc
  last_gathered (Err f) h e = cc

  -- where the source fails, a part of one line was taken
  pub broken_gathered : (r : Result Got LineFault) → Gathers remaining failures old new before after r → r ≡ Err Broken → length before.bytes ≤ before.limit →
      (new.ahead ≡ []) × LosesPart (left remaining old) (left remaining new) (before.limit - length before.bytes)
  broken_gathered (Ok g) h e fits = cc
  broken_gathered (Err TooLong) h e fits = cc
  broken_gathered (Err Broken) h e fits =
      (h.5, loses_part _ _ h.1 _ h.3.left_is h.3.part_is (omega (arith, size_of before after h.1 h.3.space, limit_of before after h.1 h.3.space, h.4)))

  pub too_long_gathered : (r : Result Got LineFault) → Gathers remaining failures old new before after r → r ≡ Err TooLong → length before.bytes ≤ before.limit → FirstIsLonger (lines_left remaining old) (before.limit - length before.bytes)
  too_long_gathered (Ok g) h e fits = cc
  too_long_gathered (Err TooLong) h e fits =
      let size : length after.bytes ≡ length before.bytes + length h.1 = ap (λ (z : SpaceView). length z.bytes) h.3.space ∙ length-append before.bytes h.1 in
      let limit : after.limit ≡ before.limit = ap (λ (z : SpaceView). z.limit) h.3.space in
      first_is_longer _ _ h.1 new.ahead _ h.3.left_is h.3.part_is (omega (arith, size, limit, h.5, fits))
  too_long_gathered (Err Broken) h e fits = cc

  -- a space that is cut at its old length has its old bytes
  pub restored : (f : LineFault) → Gathers remaining failures old new before after (Err f) → (n : ℕ) → n ≡ length before.bytes → record after { bytes = take n after.bytes } ≡ before
  restored TooLong h n e = cut_back before after h.1 h.3.space n e
  restored Broken h n e = cut_back before after h.1 h.3.space n e

  -- what is lost at a fault is a part of a line, and fits into a space
  pub lost_gathered : (f : LineFault) → Gathers remaining failures old new before after (Err f) → LosesPart (left remaining old) (left remaining new) before.limit
  lost_gathered TooLong h = loses_part _ _ h.1 _ h.3.left_is h.3.part_is (omega (arith, size_of before after h.1 h.3.space, limit_of before after h.1 h.3.space, h.4))
  lost_gathered Broken h = loses_part _ _ h.1 _ h.3.left_is h.3.part_is (omega (arith, size_of before after h.1 h.3.space, limit_of before after h.1 h.3.space, h.4))

  -- how much is taken from the source
  pub taken_gathered : (r : Result Got LineFault) → Gathers remaining failures old new before after r → length new.ahead ≤ new.read_ahead → TakesAtMost (remaining old.source) (remaining new.source) (old.read_ahead + (if is_ok r then length after.bytes - length before.bytes + 1 else before.limit))
  taken_gathered (Ok Line) h ahead =
      ⊎_elim
      (λ w. takes_at_most _ _ h.2 _ w.source_is (omega (arith, size_of before after h.1 w.space, w.count, w.read_ahead_is, ahead)))
      (λ w. takes_at_most _ _ h.2 _ w.0.source_is (omega (arith, size_of before after h.1 w.0.space, w.0.count, w.0.read_ahead_is, ahead)))
      h.3
  taken_gathered (Ok End) h ahead = takes_at_most _ _ h.1 _ h.2.source_is (omega (arith, h.2.count, h.2.read_ahead_is, ahead))
  taken_gathered (Err TooLong) h ahead =
      takes_at_most _ _ h.2 _ h.3.source_is (omega (arith, size_of before after h.1 h.3.space, limit_of before after h.1 h.3.space, h.3.count, h.3.read_ahead_is, h.4, ahead))
  taken_gathered (Err Broken) h ahead =
      takes_at_most _ _ h.2 _ h.3.source_is (omega (arith, size_of before after h.1 h.3.space, limit_of before after h.1 h.3.space, h.3.count, h.3.read_ahead_is, h.4, ahead))

-- what was read ahead is used up
pub none_ahead : (ahead seen : List ℕ) → seen ≡ ahead → (length seen == 0) ≡ true → ahead ≡ []
none_ahead ahead seen is none = sym is ∙ used_up seen none
  where
    used_up : (bytes : List ℕ) → (length bytes == 0) ≡ true → bytes ≡ []
    used_up [] h = refl
    used_up (b ∷ bytes) h = absurd (grind (arith, nat_tests))
