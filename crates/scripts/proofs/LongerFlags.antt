-- A text within a longer one, behind which comes nothing or a newline: flags, names and texts.
use Rattle.std.proofs.Common.{◌≡◌, ℕ, zero, suc, ◌+◌, ◌-◌, ◌<◌, ◌≤◌, ◌&&◌, ◌==◌, Bool, true, false, not, List, [], ◌∷◌, ◌++◌, length, Option, Some, None, is_some, is_none, option_map, Result, Ok, Err, refl, sym, ap, ap₂, subst, ◌∙◌, inl, inr, arith, if◌then◌else◌, slice_get, unwrap_or, drop, length-drop}
use Rattle.std.specs.List.{prefix_len, take_while}
use Rattle.std.specs.Option.{option_or}
use Rattle.std.proofs.lemmas.Bool.Decides.{eqb_tells, nat_tests}
use Rattle.std.proofs.lemmas.List.{length-map}
use Rattle.std.proofs.lemmas.List.Sums.{prefix_len-le-length}
use Rattle.std.proofs.lemmas.Option.{slice_get_within}
use Rattle.sedscript.specs.declared.bytes.Sort.TheVariants.{Blank, Line}
use Rattle.sedscript.specs.declared.types.ScriptFault.{ScriptFault}
use Rattle.sedscript.specs.declared.types.Reason.{Reason}
use Rattle.sedscript.specs.declared.types.Reason.TheVariants.{LengthsDiffer, RepeatedFlag}
use Rattle.sedscript.specs.declared.items.Flags.{Flags}
use Rattle.sedscript.specs.declared.texts.Inside.{Inside}
use Rattle.sedscript.specs.declared.texts.Inside.TheVariants.{InLine, Escape, Due}
use Rattle.sedscript.specs.declared.transliteration.Char.{Char}
use Rattle.sedscript.specs.Bytes.{past, bytes_between, is_digit, is_byte, with_digits, fault, ◌>>=◌ as ◌then◌, fault_if}
use Rattle.sedscript.specs.Strings.{escapes, escaped_piece, exceeds, piece_fault, replacement_fault, escaped_byte, chars_from, bytes_of, string_fault, is_among, repeated_in, strings_fault, repeated_fault}
use Rattle.sedscript.specs.Arguments.{text_end, text_from, name_from, no_flags, with_flag_number, with_number, with_flag, flags_from, unless_fault, with_file, ends_flags}
use Rattle.sedscript.specs.declared.substitution.Piece.{Piece}
use Rattle.sedscript.specs.declared.substitution.Piece.TheVariants.{Literal, Whole, Group}
use Rattle.sedscript.proofs.Chars.{same_bytes}
use Rattle.scripts.proofs.LongerText.{tail_of, prefix_on, taken_on, past_low, past_high, rest_on, there, past_on}
use Rattle.scripts.proofs.LongerStrings.{FoundOn, found_if, found_later}

-- what is read in the text is read in the whole one, as it is there
abbrev pub Same : {A B : Type 0} → (A → Type 0) → (A → B) → Result A ScriptFault → Result B ScriptFault → Type 0
Same P f (Ok x) r = (r ≡ Ok (f x)) × P x
Same P f (Err e) r = Unit {0}

pub same_if : {A B : Type 0} (P : A → Type 0) (f : A → B) (t : Bool) (x y : Result A ScriptFault) (z w : Result B ScriptFault) → Same P f x z → Same P f y w → Same P f (if t then x else y) (if t then z else w)
same_if P f true x y z w h g = h
same_if P f false x y z w h g = g

pub same_then : {A B C D : Type 0} (P : A → Type 0) (f : A → B) (Q : C → Type 0) (g : C → D) (r : Result A ScriptFault) (z : Result B ScriptFault) (k : A → Result C ScriptFault) (l : B → Result D ScriptFault) →
    Same P f r z → ((x : A) → P x → Same Q g (k x) (l (f x))) → Same Q g (◌then◌ r k) (◌then◌ z l)
same_then {B = B} P f Q g (Ok x) z k l h on = subst (λ (z : Result B ScriptFault). Same Q g (k x) (◌then◌ z l)) (sym h.0) (on x h.1)
same_then P f Q g (Err e) z k l h on = tt

-- ---- faults don't depend on places

none_or : {A : Type 0} (x y : Option A) → is_none (option_or x y) ≡ (is_none x && is_none y)
none_or None y = refl
none_or (Some x) y = refl

none_or_same : {A : Type 0} (x y z w : Option A) → is_none x ≡ is_none z → is_none y ≡ is_none w → is_none (option_or x y) ≡ is_none (option_or z w)
none_or_same x y z w h g = none_or x y ∙ ap₂ (λ s t. s && t) h g ∙ sym (none_or z w)

fault_same : (t : Bool) (reason : Reason) (at place : ℕ) → is_none (fault_if t reason at) ≡ is_none (fault_if t reason place)
fault_same true reason at place = refl
fault_same false reason at place = refl

piece_same : (limit : Option ℕ) (at place : ℕ) (o : Option Piece) → is_none (piece_fault limit at o) ≡ is_none (piece_fault limit place o)
piece_same limit at place None = refl
piece_same limit at place (Some (Literal b)) = refl
piece_same limit at place (Some Whole) = refl
piece_same limit at place (Some (Group k)) = fault_same (exceeds limit k) _ at place

pub replacement_same : (d : ℕ) (limit : Option ℕ) (escaped : Bool) (at place : ℕ) (bs : List ℕ) → is_none (replacement_fault d limit escaped at bs) ≡ is_none (replacement_fault d limit escaped place bs)
replacement_same d limit escaped at place [] = refl
replacement_same d limit true at place (b ∷ bs) = none_or_same _ _ _ _ (piece_same limit (at - 1) (place - 1) (escaped_piece d b)) (replacement_same d limit false (suc at) (suc place) bs)
replacement_same d limit false at place (b ∷ bs) = replacement_same d limit (b == 92) (suc at) (suc place) bs

string_same : (d : ℕ) (escaped : Bool) (at place : ℕ) (bs : List ℕ) → is_none (string_fault d escaped at bs) ≡ is_none (string_fault d escaped place bs)
string_same d escaped at place [] = refl
string_same d escaped at place (b ∷ bs) = by_test (escaped && is_none (escaped_byte d b)) _ _ _ _ refl (string_same d (escapes escaped b) (suc at) (suc place) bs)
  where
    by_test : (t : Bool) (x y z w : Option ScriptFault) → is_none x ≡ is_none z → is_none y ≡ is_none w → is_none (if t then x else y) ≡ is_none (if t then z else w)
    by_test true x y z w h g = h
    by_test false x y z w h g = g

repeated_same : (before : List ℕ) (cs ds : List Char) → bytes_of cs ≡ bytes_of ds → is_none (repeated_fault (repeated_in before cs)) ≡ is_none (repeated_fault (repeated_in before ds))
repeated_same before [] [] e = refl
repeated_same before [] (d ∷ ds) e = absurd cc
repeated_same before (c ∷ cs) [] e = absurd cc
repeated_same before (c ∷ cs) (d ∷ ds) e =
    let byte : c.byte ≡ d.byte = cc in
    let rest : bytes_of cs ≡ bytes_of ds = cc in
    by_test (is_among before c.byte) (repeated_same (c.byte ∷ before) cs ds rest)
    ∙ ap (λ b. is_none (repeated_fault (if is_among before b then Some d.place else repeated_in (b ∷ before) ds))) byte
  where
    by_test : (t : Bool) → is_none (repeated_fault (repeated_in (c.byte ∷ before) cs)) ≡ is_none (repeated_fault (repeated_in (c.byte ∷ before) ds)) →
        is_none (repeated_fault (if t then Some c.place else repeated_in (c.byte ∷ before) cs)) ≡ is_none (repeated_fault (if t then Some d.place else repeated_in (c.byte ∷ before) ds))
    by_test true h = refl
    by_test false h = h

abbrev fault_by : (d letter from next : ℕ) (xs ys : List ℕ) → Option ScriptFault
fault_by d letter from next xs ys =
    option_or (string_fault d false from xs) (option_or (string_fault d false next ys) (option_or (repeated_fault (repeated_in [] (chars_from d false from xs)))
    (fault_if (not (length (chars_from d false from xs) == length (chars_from d false next ys))) LengthsDiffer letter)))

chars_long : (d at place : ℕ) (xs : List ℕ) → length (chars_from d false at xs) ≡ length (chars_from d false place xs)
chars_long d at place xs = sym (length-map (chars_from d false at xs) (λ (c : Char). c.byte)) ∙ ap (λ (bs : List ℕ). length bs) (same_bytes d at place false xs) ∙ length-map (chars_from d false place xs) (λ (c : Char). c.byte)

fault_by_same : (d letter from next letter' from' next' : ℕ) (xs ys : List ℕ) → is_none (fault_by d letter from next xs ys) ≡ is_none (fault_by d letter' from' next' xs ys)
fault_by_same d letter from next letter' from' next' xs ys =
    none_or_same _ _ _ _ (string_same d false from from' xs) (none_or_same _ _ _ _ (string_same d false next next' ys) (none_or_same _ _ _ _
    (repeated_same [] (chars_from d false from xs) (chars_from d false from' xs) (same_bytes d from from' false xs))
    (ap₂ (λ n m. is_none (fault_if (not (n == m)) LengthsDiffer letter)) (chars_long d from from' xs) (chars_long d next next' ys)
    ∙ fault_same (not (length (chars_from d false from' xs) == length (chars_from d false next' ys))) LengthsDiffer letter letter')))

pub strings_same : (text other : List ℕ) (d letter from middle to letter' from' middle' to' : ℕ) → bytes_between other from' middle' ≡ bytes_between text from middle → bytes_between other (middle' + 1) to' ≡ bytes_between text (middle + 1) to →
    is_none (strings_fault text d letter from middle to) ≡ is_none (strings_fault other d letter' from' middle' to')
strings_same text other d letter from middle to letter' from' middle' to' e f =
    fault_by_same d letter from (middle + 1) letter' from' (middle' + 1) (bytes_between text from middle) (bytes_between text (middle + 1) to)
    ∙ ap₂ (λ xs ys. is_none (fault_by d letter' from' (middle' + 1) xs ys)) (sym e) (sym f)

pub same_unless : {A B : Type 0} (P : A → Type 0) (f : A → B) (o p : Option ScriptFault) (r : Result A ScriptFault) (z : Result B ScriptFault) → is_none o ≡ is_none p → Same P f r z → Same P f (unless_fault o r) (unless_fault p z)
same_unless P f None None r z e h = h
same_unless P f None (Some g) r z e h = absurd cc
same_unless P f (Some g) p r z e h = tt

-- ---- spans

abbrev pub move_span : ℕ → ℕ × ℕ → ℕ × ℕ
move_span base x = (base + x.0, base + x.1)

abbrev pub SpanIn : ℕ → ℕ × ℕ → Type 0
SpanIn end x = (x.0 ≤ x.1) × (x.1 ≤ end)

-- a span that was found is found again, so much later, and goes no further than an end
abbrev pub SpanOn : (base end : ℕ) → Option (ℕ × ℕ) → Option (ℕ × ℕ) → Type 0
SpanOn base end None o = Unit {0}
SpanOn base end (Some x) o = (o ≡ Some (move_span base x)) × SpanIn end x

span_if : (base end : ℕ) (t : Bool) (x y z w : Option (ℕ × ℕ)) → SpanOn base end x z → SpanOn base end y w → SpanOn base end (if t then x else y) (if t then z else w)
span_if base end true x y z w h g = h
span_if base end false x y z w h g = g

span_to : (base end from place : ℕ) (x z : Option ℕ) → place ≡ base + from → FoundOn base from (suc end) x z → SpanOn base end (option_map (λ to. (from, to)) x) (option_map (λ to. (place, to)) z)
span_to base end from place None z e h = tt
span_to base end from place (Some to) z e h = (ap (option_map (λ to. (place, to))) h.0 ∙ ap (λ n. Some (n, base + to)) e, (h.1, omega (arith, h.2)))

text_end_on : (base : ℕ) (more : Option (List ℕ)) (how : Inside) (at place end : ℕ) (bs : List ℕ) → place ≡ base + at → at + length bs < end → FoundOn base at end (text_end how at bs) (text_end how place (bs ++ tail_of more))
text_end_on base None InLine at place end [] e le = (ap (λ n. Some n) e, omega arith, omega (arith, le))
text_end_on base (Some rest) InLine at place end [] e le = (ap (λ n. Some n) e, omega arith, omega (arith, le))
text_end_on base more Escape at place end [] e le = tt
text_end_on base more Due at place end [] e le = tt
text_end_on base more Escape at place end (b ∷ bs) e le =
    found_later base at (suc at) end _ _ (omega arith) (text_end_on base more (if b == 10 then Due else InLine) (suc at) (suc place) end bs (omega (arith, e)) (omega (arith, le)))
text_end_on base more InLine at place end (b ∷ bs) e le =
    found_if base at end (b == 10) (Some at) _ (Some place) _ (ap (λ n. Some n) e, omega arith, omega (arith, le))
    (found_later base at (suc at) end _ _ (omega arith) (text_end_on base more (if b == 92 then Escape else InLine) (suc at) (suc place) end bs (omega (arith, e)) (omega (arith, le))))
text_end_on base more Due at place end (b ∷ bs) e le =
    found_if base at end (b == 10) (Some at) _ (Some place) _ (ap (λ n. Some n) e, omega arith, omega (arith, le))
    (found_later base at (suc at) end _ _ (omega arith) (text_end_on base more (if b == 92 then Escape else InLine) (suc at) (suc place) end bs (omega (arith, e)) (omega (arith, le))))

last_byte : (xs : List ℕ) (at c : ℕ) → slice_get xs at ≡ Some c → slice_get xs (suc at) ≡ None → drop at xs ≡ c ∷ []
last_byte [] zero c e f = absurd cc
last_byte [] (suc at) c e f = absurd cc
last_byte (x ∷ []) zero c e f = let same : x ≡ c = cc in ap (λ x. x ∷ []) same
last_byte (x ∷ y ∷ xs) zero c e f = absurd cc
last_byte (x ∷ xs) (suc at) c e f = last_byte xs at c e f

pub same_test : (from to place till base : ℕ) → place ≡ base + from → till ≡ base + to → (till == place) ≡ (to == from)
same_test from to place till base e f = grind (arith, nat_tests)

-- ---- flags

abbrev pub move_flags : ℕ → Flags → Flags
move_flags base f = record f { file = option_map (move_span base) f.file }

abbrev pub move_flagged : ℕ → Flags × ℕ → Flags × ℕ
move_flagged base x = (move_flags base x.0, base + x.1)

abbrev pub FileIn : ℕ → Option (ℕ × ℕ) → Type 0
FileIn end None = Unit {0}
FileIn end (Some x) = SpanIn end x

abbrev pub FlagsIn : ℕ → Flags × ℕ → Type 0
FlagsIn end x = FileIn end x.0.file × (x.1 ≤ end)

abbrev FileOf : ℕ → Flags → Type 0
FileOf end f = FileIn end f.file

number_on : (base end : ℕ) (f : Flags) (at place : ℕ) (ds : List ℕ) → FileOf end f → Same (FileOf end) (move_flags base) (with_number f at ds) (with_number (move_flags base f) place ds)
number_on base end f at place ds h = by_test (is_some f.number) (with_digits (Some 0) ds)
  where
    by_test : (t : Bool) (n : Option ℕ) → Same (FileOf end) (move_flags base) (if t then fault RepeatedFlag at else with_flag_number f at n) (if t then fault RepeatedFlag place else with_flag_number (move_flags base f) place n)
    by_test true n = tt
    by_test false None = tt
    by_test false (Some zero) = tt
    by_test false (Some (suc n)) = (refl, h)

flag_on : (base end : ℕ) (empty : Bool) (f : Flags) (at place b : ℕ) → FileOf end f → Same (FileOf end) (move_flags base) (with_flag empty f at b) (with_flag empty (move_flags base f) place b)
flag_on base end empty f at place b h =
    same_if (FileOf end) (move_flags base) (b == 103) _ _ _ _ (same_if (FileOf end) (move_flags base) f.global _ _ _ _ tt (refl, h))
    (same_if (FileOf end) (move_flags base) (b == 112) _ _ _ _ (same_if (FileOf end) (move_flags base) f.print _ _ _ _ tt (refl, h))
    (same_if (FileOf end) (move_flags base) (b == 73) _ _ _ _ (same_if (FileOf end) (move_flags base) empty _ _ _ _ tt (same_if (FileOf end) (move_flags base) f.folded _ _ _ _ tt (refl, h))) tt))

file_on : (base end : ℕ) (f : Flags) (at place : ℕ) (x z : Option (ℕ × ℕ)) → SpanOn base end x z → Same (FlagsIn end) (move_flagged base) (with_file f at x) (with_file (move_flags base f) place z)
file_on base end f at place None z h = tt
file_on base end f at place (Some x) z h = (ap (with_file (move_flags base f) place) h.0, (h.1, h.1.1))

module _ (before text : List ℕ) (more : Option (List ℕ)) where
  abbrev whole : List ℕ
  whole = before ++ (text ++ tail_of more)

  abbrev base : ℕ
  base = length before

  abbrev end : ℕ
  end = length text

  pub name_on : (at : ℕ) → at ≤ end → SpanOn base end (name_from text at) (name_from whole (base + at))
  unfolding name_from
  name_on at le =
      let low : past Blank text at ≤ end = past_high Blank text at le in
      let begins : past Blank whole (base + at) ≡ base + past Blank text at = past_on before text more Blank at le refl in
      let ends : past Line whole (base + past Blank text at) ≡ base + past Line text (past Blank text at) = past_on before text more Line (past Blank text at) low refl in
      by_places (past Blank text at) (past Line text (past Blank text at)) (past Blank whole (base + at)) (past Line whole (past Blank whole (base + at))) begins (ap (past Line whole) begins ∙ ends)
      (past_low Line text (past Blank text at)) (past_high Line text (past Blank text at) low)
    where
      by_places : (from to place till : ℕ) → place ≡ base + from → till ≡ base + to → from ≤ to → to ≤ end →
          SpanOn base end (if to == from then None else Some (from, to)) (if till == place then None else Some (place, till))
      by_places from to place till e f low high =
          subst (λ (t : Bool). SpanOn base end (if to == from then None else Some (from, to)) (if t then None else Some (place, till))) (sym (same_test from to place till base e f))
          (span_if base end (to == from) None (Some (from, to)) None (Some (place, till)) tt (ap₂ (λ n m. Some (n, m)) e f, (low, high)))

  abbrev text_by : List ℕ → ℕ → Option ℕ → Option ℕ → Option (ℕ × ℕ)
  text_by t from o p =
      if is_byte 92 o && is_byte 10 p then option_map (λ to. (from + 2, to)) (text_end Due (from + 2) (drop (from + 2) t))
      else if unwrap_or o 10 == 10 then None
      else option_map (λ to. (from, to)) (text_end InLine from (drop from t))

  end_there : (how : Inside) (from place : ℕ) → from ≤ end → place ≡ base + from → FoundOn base from (suc end) (text_end how from (drop from text)) (text_end how place (drop place whole))
  end_there how from place le e =
      subst (λ (bs : List ℕ). FoundOn base from (suc end) (text_end how from (drop from text)) (text_end how place bs)) (sym (ap (λ (n : ℕ). drop n whole) e ∙ rest_on before text more from le))
      (text_end_on base more how from place (suc end) (drop from text) e (omega (arith, le, length-drop from text)))

  in_line : (from c : ℕ) → from ≤ end → SpanOn base end (if c == 10 then None else option_map (λ to. (from, to)) (text_end InLine from (drop from text))) (if c == 10 then None else option_map (λ to. (base + from, to)) (text_end InLine (base + from) (drop (base + from) whole)))
  in_line from c le = span_if base end (c == 10) None _ None _ tt (span_to base end from (base + from) _ _ refl (end_there InLine from (base + from) le refl))

  -- where the text ends in a backslash, no text begins there
  alone : (from c : ℕ) → from ≤ end → slice_get text from ≡ Some c → slice_get text (suc from) ≡ None → (p : Option ℕ) → SpanOn base end (text_by text from (Some c) None) (text_by whole (base + from) (Some c) p)
  alone from c le e f p = elim (eqb_tells c 92) [
    | inl h ↦ nothing (text_by text from (Some c) None) (ap (λ (c : ℕ). text_by text from (Some c) None) h.1 ∙ ap (λ (bs : List ℕ). option_map (λ (to : ℕ). (from, to)) (text_end InLine from bs)) (last_byte text from c e f ∙ ap (λ (c : ℕ). c ∷ []) h.1))
    | inr h ↦ other (c == 92) h.0
  ]
    where
      nothing : (x : Option (ℕ × ℕ)) → x ≡ None → SpanOn base end x (text_by whole (base + from) (Some c) p)
      nothing None e = tt
      nothing (Some x) e = absurd cc

      other : (t : Bool) → t ≡ false → SpanOn base end
          (if t && false then option_map (λ to. (from + 2, to)) (text_end Due (from + 2) (drop (from + 2) text)) else if c == 10 then None else option_map (λ to. (from, to)) (text_end InLine from (drop from text)))
          (if t && is_byte 10 p then option_map (λ to. (base + from + 2, to)) (text_end Due (base + from + 2) (drop (base + from + 2) whole)) else if c == 10 then None else option_map (λ to. (base + from, to)) (text_end InLine (base + from) (drop (base + from) whole)))
      other true h = absurd cc
      other false h = in_line from c le

  text_there : (from : ℕ) → from ≤ end → (o p : Option ℕ) → slice_get text from ≡ o → slice_get text (suc from) ≡ p →
      SpanOn base end (text_by text from o p) (text_by whole (base + from) (slice_get whole (base + from)) (slice_get whole (base + from + 1)))
  text_there from le None p e f = tt
  text_there from le (Some c) None e f =
      subst (λ (o : Option ℕ). SpanOn base end (text_by text from (Some c) None) (text_by whole (base + from) o (slice_get whole (base + from + 1)))) (sym (there before text more from c e))
      (alone from c le e f (slice_get whole (base + from + 1)))
  text_there from le (Some c) (Some d) e f =
      let one : base + from + 1 ≡ base + suc from = omega arith in
      let two : base + from + 2 ≡ base + (from + 2) = omega arith in
      let inner : suc from < end = slice_get_within text (suc from) d f in
      let due : from + 2 ≤ end = omega (arith, inner) in
      let next : slice_get whole (base + from + 1) ≡ Some d = ap (slice_get whole) one ∙ there before text more (suc from) d f in
      subst (λ (o : Option ℕ). SpanOn base end (text_by text from (Some c) (Some d)) (text_by whole (base + from) o (slice_get whole (base + from + 1)))) (sym (there before text more from c e))
      (subst (λ (o : Option ℕ). SpanOn base end (text_by text from (Some c) (Some d)) (text_by whole (base + from) (Some c) o)) (sym next)
      (span_if base end (c == 92 && d == 10) _ _ _ _ (span_to base end (from + 2) (base + from + 2) _ _ two (end_there Due (from + 2) (base + from + 2) due two)) (in_line from c le)))

  pub text_on : (from : ℕ) → from ≤ end → SpanOn base end (text_from text from) (text_from whole (base + from))
  unfolding text_from
  text_on from le = let one : from + 1 ≡ suc from = omega arith in text_there from le (slice_get text from) (slice_get text (from + 1)) refl (ap (slice_get text) (sym one))

  flags_there : (empty : Bool) (f : Flags) (skip at place : ℕ) (bs : List ℕ) → FileIn end f.file → place ≡ base + at → at + length bs ≡ end → skip ≤ length bs →
      Same (FlagsIn end) (move_flagged base) (flags_from text empty f skip at bs) (flags_from whole empty (move_flags base f) skip place (bs ++ tail_of more))
  flags_there empty f zero at place [] h e le few = by_more more
    where
      by_more : (more : Option (List ℕ)) → Same (FlagsIn end) (move_flagged base) (Ok (f, at)) (flags_from whole empty (move_flags base f) zero place (tail_of more))
      by_more None = (ap (λ n. Ok (move_flags base f, n)) e, (h, omega (arith, le)))
      by_more (Some rest) = (ap (λ n. Ok (move_flags base f, n)) e, (h, omega (arith, le)))
  flags_there empty f (suc skip) at place [] h e le few = absurd (omega (arith, few))
  flags_there empty f (suc skip) at place (b ∷ bs) h e le few = flags_there empty f skip (suc at) (suc place) bs h (omega (arith, e)) (omega (arith, le)) (omega (arith, few))
  flags_there empty f zero at place (b ∷ bs) h e le few =
      let next : suc place ≡ base + suc at = omega (arith, e) in
      let left : suc at + length bs ≡ end = omega (arith, le) in
      let one : place + 1 ≡ base + (at + 1) = omega (arith, e) in
      let short : at + 1 ≤ end = omega (arith, le) in
      let digits : prefix_len is_digit (bs ++ tail_of more) ≡ prefix_len is_digit bs = prefix_on is_digit more bs refl in
      let taken : take_while is_digit (bs ++ tail_of more) ≡ take_while is_digit bs = taken_on is_digit more bs refl in
      same_if (FlagsIn end) (move_flagged base) (is_digit b) _ _ _ _
      (subst (λ (n : ℕ). Same (FlagsIn end) (move_flagged base) (◌then◌ (with_number f at (b ∷ take_while is_digit bs)) (λ (g : Flags). flags_from text empty g (prefix_len is_digit bs) (suc at) bs))
      (◌then◌ (with_number (move_flags base f) place (b ∷ take_while is_digit (bs ++ tail_of more))) (λ (g : Flags). flags_from whole empty g n (suc place) (bs ++ tail_of more)))) (sym digits)
      (subst (λ (ds : List ℕ). Same (FlagsIn end) (move_flagged base) (◌then◌ (with_number f at (b ∷ take_while is_digit bs)) (λ (g : Flags). flags_from text empty g (prefix_len is_digit bs) (suc at) bs))
      (◌then◌ (with_number (move_flags base f) place (b ∷ ds)) (λ (g : Flags). flags_from whole empty g (prefix_len is_digit bs) (suc place) (bs ++ tail_of more)))) (sym taken)
      (same_then (FileOf end) (move_flags base) (FlagsIn end) (move_flagged base) (with_number f at (b ∷ take_while is_digit bs)) (with_number (move_flags base f) place (b ∷ take_while is_digit bs)) _ _
      (number_on base end f at place (b ∷ take_while is_digit bs) h)
      (λ g k. flags_there empty g (prefix_len is_digit bs) (suc at) (suc place) bs k next left (prefix_len-le-length is_digit bs)))))
      (same_if (FlagsIn end) (move_flagged base) (ends_flags b) _ _ _ _ (ap (λ n. Ok (move_flags base f, n)) e, (h, omega (arith, le)))
      (same_if (FlagsIn end) (move_flagged base) (b == 119) _ _ _ _
      (subst (λ (n : ℕ). Same (FlagsIn end) (move_flagged base) (with_file f at (name_from text (at + 1))) (with_file (move_flags base f) place (name_from whole n))) (sym one)
      (file_on base end f at place (name_from text (at + 1)) (name_from whole (base + (at + 1))) (name_on (at + 1) short)))
      (same_then (FileOf end) (move_flags base) (FlagsIn end) (move_flagged base) (with_flag empty f at b) (with_flag empty (move_flags base f) place b) _ _ (flag_on base end empty f at place b h)
      (λ g k. flags_there empty g zero (suc at) (suc place) bs k next left (omega arith)))))

  pub flags_on : (empty : Bool) (at : ℕ) → at ≤ end → Same (FlagsIn end) (move_flagged base) (flags_from text empty no_flags 0 at (drop at text)) (flags_from whole empty no_flags 0 (base + at) (drop (base + at) whole))
  flags_on empty at le =
      subst (λ (bs : List ℕ). Same (FlagsIn end) (move_flagged base) (flags_from text empty no_flags 0 at (drop at text)) (flags_from whole empty no_flags 0 (base + at) bs)) (sym (rest_on before text more at le))
      (flags_there empty no_flags 0 at (base + at) (drop at text) tt refl (omega (arith, le, length-drop at text)) (omega arith))
