-- What is so of each function that is read, and of each fault of reading.
use Rattle.std.proofs.Common.{◌≡◌, ℕ, zero, suc, ◌+◌, ◌-◌, ◌==◌, ◌&&◌, not, Bool, true, false, if◌then◌else◌, List, [], ◌∷◌, ◌++◌, length, drop, Option, Some, None, is_some, is_none, nat_lt, Result, Ok, Err, slice_get, refl, ap, subst, ◌∙◌, arith, ◌||◌, ◌⊎◌, inl, inr, sym}
use Rattle.std.specs.List.{prefix_len, take_while}
use Rattle.std.specs.Option.{option_or, option_len}
use Rattle.std.proofs.lemmas.Bool.{eqb-true}
use Rattle.std.proofs.lemmas.Bool.Decides.{nat_tests}
use Rattle.sedre.specs.declared.types.Kind.{Kind}
use Rattle.sedre.specs.Tree.{WrittenExpression}
use Rattle.sedre.specs.Brackets.{delimiter_at}
use Rattle.sedscript.specs.declared.bytes.Sort.TheVariants.{Blank, Name, Digit, Separator}
use Rattle.sedscript.specs.declared.types.ScriptFault.{ScriptFault}
use Rattle.sedscript.specs.declared.types.Reason.{Reason}
use Rattle.sedscript.specs.declared.types.Reason.TheVariants.{OpenDelimiter, RepeatedByte, MissingText, BadEscape, LengthsDiffer, GroupAbsent, OpenBlock, StrayClose, UnknownLabel, RepeatedLabel, MissingName}
use Rattle.sedscript.specs.declared.types.Address.{Address}
use Rattle.sedscript.specs.declared.types.TextUse.{TextUse}
use Rattle.sedscript.specs.declared.types.TextUse.TheVariants.{Append, Insert, Change}
use Rattle.sedscript.specs.declared.items.Strings.{Strings}
use Rattle.sedscript.specs.declared.items.Flags.{Flags}
use Rattle.sedscript.specs.declared.items.Argument.{Argument}
use Rattle.sedscript.specs.declared.items.Argument.TheVariants.{Between, FlaggedPair, Nothing, Pair}
use Rattle.sedscript.specs.declared.items.Addresses.{Addresses}
use Rattle.sedscript.specs.declared.items.Item.{Item}
use Rattle.sedscript.specs.declared.items.ItemOrEnd.{ItemOrEnd}
use Rattle.sedscript.specs.declared.items.ItemOrEnd.TheVariants.{Is, Ends}
use Rattle.sedscript.specs.declared.letters.Verb.{Verb}
use Rattle.sedscript.specs.declared.letters.Verb.TheVariants.{Branch, Close, Comment, File, Label, Open, Substitute, Text, Transliterate}
use Rattle.sedscript.specs.Bytes.{past, bytes_between, is_digit, is_byte, with_digits, or_fault, ◌>>=◌ as ◌then◌, fault_if}
use Rattle.sedscript.specs.Strings.{string_end, exceeds, replacement_fault, is_letter, chars_of, repeated_in, string_fault, strings_fault, repeated_fault}
use Rattle.sedscript.specs.Items.{Reading, plainly, expression, ◌>>=◌, Addressed, line_address, folds_at, match_at, own_match, address_of, address_at, with_second, second_at, after_first, addresses_at, with_bang, substitute_with, substitute_at, argument_with, function_at, item_from, item_at, match_to, function_after, item_with, item_of}
use Rattle.sedscript.specs.Arguments.{to_command_end, may_end, text_from, name_from, spanned, no_flags, with_flag_number, with_number, with_flag, flags_from, own_delimiter, strings_after, substitute_strings, transliterate_strings, unless_fault, flags_after, with_file, ends_flags, folds}
use Rattle.sedscript.specs.Letters.{argument_of, allowed, verb_of, most_addresses, transliterate_at, substituted}
use Rattle.sedscript.specs.Script.{written_in, branch_in, label_in, block_end, depth_after, target_fault_at, target_fault_in, target_fault, Gives, value, after_expression, IsRead, CutScript, done, next_item, Means, IsEnd}
use Rattle.sedscript.specs.FirstFault.{Fails, Faulty, own, no_expression, later, early, afterwards}
use Rattle.sedscript.specs.Program.{Program}
use Rattle.examples.specs.Blocks.{IsStray, IsUnclosed}
use Rattle.examples.specs.Escapes.{wrong_in_string, wrong_in_replacement, IsFirstWrong, FirstWrong, HasGroups, IsSubstitute, IsWrongEscape, in_first, in_second, in_replacement}
use Rattle.examples.specs.Strings.{IsTransliterate, RepeatsFirst}
use Rattle.examples.specs.Texts.{letter_of, HasNoText}
use Rattle.examples.proofs.BracesMatched.{braces_at_fault}
use Rattle.examples.proofs.FaultLemmas.{or_none}
use Rattle.examples.proofs.MissingText.{none_there}
use Rattle.examples.proofs.WrongEscapes.{string_fault_first, replacement_fault_first}
use Rattle.examples.proofs.RepeatedBytes.{Pairs, pairs, first_repeated}

-- ---- reasons

-- a reason of a wrong escape
abbrev OfEscape : Reason → Type 0
OfEscape BadEscape = Unit {0}
OfEscape GroupAbsent = Unit {0}
OfEscape differs = ⊥

-- no reason that is given for what is in a command
abbrev OfTargets : Reason → Type 0
OfTargets RepeatedByte = ⊥
OfTargets MissingText = ⊥
OfTargets BadEscape = ⊥
OfTargets GroupAbsent = ⊥
OfTargets differs = Unit {0}

of_some : (P : Reason → Type 0) (r z : Reason) → P r → ◌≡◌ {A = Option Reason} (Some r) (Some z) → P z
of_some P r z h e = let same : r ≡ z = cc in subst P same h

string_reason : (d b : ℕ) (r : Reason) → wrong_in_string d b ≡ Some r → OfEscape r
string_reason d b r e = by_test (b == d || b == 92 || b == 110 || b == 116) e
  where
    by_test : (t : Bool) → (if t then None else Some BadEscape) ≡ Some r → OfEscape r
    by_test true e = absurd cc
    by_test false e = of_some OfEscape BadEscape r tt e

replacement_reason : (d : ℕ) (groups : Option ℕ) (b : ℕ) (r : Reason) → wrong_in_replacement d groups b ≡ Some r → OfEscape r
replacement_reason d groups b r e = by_tests (b == d) (is_digit b) (exceeds groups (b - 48)) (is_letter b && not (b == 110 || b == 116)) e
  where
    by_tests : (s t u v : Bool) → (if s then None else if t then (if u then Some GroupAbsent else None) else if v then Some BadEscape else None) ≡ Some r → OfEscape r
    by_tests true t u v e = absurd cc
    by_tests false true true v e = of_some OfEscape GroupAbsent r tt e
    by_tests false true false v e = absurd cc
    by_tests false false u true e = of_some OfEscape BadEscape r tt e
    by_tests false false u false e = absurd cc

-- the fault of a brace or a label
abbrev OfTargetsIf : Option ScriptFault → Type 0
OfTargetsIf None = Unit {0}
OfTargetsIf (Some f) = OfTargets f.reason

targets_in : (text : List ℕ) (all before : List Item) (d : ℕ) (is : List Item) → OfTargetsIf (target_fault_in text all before d is)
targets_in text all before d [] = tt
targets_in text all before d (i ∷ is) = first (target_fault_at text all before d is i.place i.verb i.argument) _ (by_verb i.verb) (targets_in text all (before ++ i ∷ []) (depth_after d i.verb) is)
  where
    first : (x y : Option ScriptFault) → OfTargetsIf x → OfTargetsIf y → OfTargetsIf (option_or x y)
    first None y h g = g
    first (Some f) y h g = h

    by_test : (t : Bool) (r : Reason) → OfTargets r → OfTargetsIf (fault_if t r i.place)
    by_test true r h = h
    by_test false r h = tt

    by_verb : (verb : Verb) → OfTargetsIf (target_fault_at text all before d is i.place verb i.argument)
    by_verb Open = by_test (is_none (block_end before is)) OpenBlock tt
    by_verb Close = by_test (d == 0) StrayClose tt
    by_verb Label = by_test (is_some (label_in text (written_in text i.argument) 0 before)) RepeatedLabel tt
    by_verb (Branch u) = by_test (is_none (branch_in text all (written_in text i.argument))) UnknownLabel tt
    by_verb verb = tt

targets_reason : (text : List ℕ) (items : List Item) (f : ScriptFault) → target_fault text items ≡ Some f → OfTargets f.reason
targets_reason text items f e = subst OfTargetsIf e (targets_in text items [] 0 items)

-- in neither string of a `y` is an escape wrong
abbrev NoneWrong : List ℕ → Strings → Type 0
NoneWrong text s = FirstWrong (wrong_in_string s.delimiter) text s.from s.middle None × FirstWrong (wrong_in_string s.delimiter) text (s.middle + 1) s.to None

none_wrong : (text : List ℕ) (at : ℕ) (s : Strings) → strings_fault text s.delimiter at s.from s.middle s.to ≡ None → NoneWrong text s
none_wrong text at s e =
    let one = or_none (string_fault s.delimiter false s.from (bytes_between text s.from s.middle)) _ e in
    let two = or_none (string_fault s.delimiter false (s.middle + 1) (bytes_between text (s.middle + 1) s.to)) _ one.1 in (
      subst (FirstWrong (wrong_in_string s.delimiter) text s.from s.middle) one.0 (string_fault_first text s.delimiter s.from s.middle),
      subst (FirstWrong (wrong_in_string s.delimiter) text (s.middle + 1) s.to) two.0 (string_fault_first text s.delimiter (s.middle + 1) s.to),
    )

-- ---- reading

module _ (kind : Kind) (max_nodes : ℕ) (text : List ℕ) where
  -- what a fault of this reason says, where it is one of reading
  abbrev By : ℕ → Reason → Type 0
  By place RepeatedByte = (at : ℕ) × (s : Strings) × IsTransliterate text at s × RepeatsFirst (chars_of text s.delimiter s.from s.middle) place
  By place MissingText = (t : TextUse) × (slice_get text place ≡ Some (letter_of t)) × HasNoText text (past Blank text (place + 1))
  By place BadEscape = IsWrongEscape kind max_nodes text (record { place = place; reason = BadEscape })
  By place GroupAbsent = IsWrongEscape kind max_nodes text (record { place = place; reason = GroupAbsent })
  By place OpenBlock = ⊥
  By place StrayClose = ⊥
  By place differs = Unit {0}

  abbrev ReadsFlags : Option ScriptFault → Type 0
  ReadsFlags None = Unit {0}
  ReadsFlags (Some f) = By f.place f.reason

  -- what is so of what is read, or else of the fault
  abbrev Walk : {A : Type 0} → (A → Type 0) → Result A ScriptFault → Type 0
  Walk P (Ok x) = P x
  Walk P (Err f) = By f.place f.reason

  abbrev Any : {A : Type 0} → A → Type 0
  Any x = Unit {0}

  walk_if : {A : Type 0} (P : A → Type 0) (t : Bool) (r z : Result A ScriptFault) → Walk P r → Walk P z → Walk P (if t then r else z)
  walk_if P true r z h g = h
  walk_if P false r z h g = g

  walk_then : {A B : Type 0} (P : A → Type 0) (Q : B → Type 0) (r : Result A ScriptFault) (k : A → Result B ScriptFault) → Walk P r → ((x : A) → P x → Walk Q (k x)) → Walk Q (◌then◌ r k)
  walk_then P Q (Ok x) k h on = on x h
  walk_then P Q (Err f) k h on = h

  walk_unless : {A : Type 0} (P : A → Type 0) (o : Option ScriptFault) (r : Result A ScriptFault) → ReadsFlags o → (o ≡ None → Walk P r) → Walk P (unless_fault o r)
  walk_unless P None r shown h = h refl
  walk_unless P (Some f) r shown h = shown

  walk_read : {A : Type 0} (r : Result A ScriptFault) → Walk Any r → Walk (λ (x : A). r ≡ Ok x) r
  walk_read (Ok x) h = refl
  walk_read (Err f) h = h

  abbrev Walks : {A : Type 0} → (A → Type 0) → Reading A → Type 0
  Walks P (plainly r) = Walk P r
  Walks P (expression p k) = (e : WrittenExpression) → IsRead text kind max_nodes p e → Walks P (k e.groups)

  walks_if : {A : Type 0} (P : A → Type 0) (t : Bool) (r z : Reading A) → Walks P r → Walks P z → Walks P (if t then r else z)
  walks_if P true r z h g = h
  walks_if P false r z h g = g

  walks_then : {A B : Type 0} (P : A → Type 0) (Q : B → Type 0) (r : Reading A) (k : A → Reading B) → Walks P r → ((x : A) → P x → Walks Q (k x)) → Walks Q (r >>= k)
  walks_then P Q (plainly (Ok x)) k h on = on x h
  walks_then P Q (plainly (Err f)) k h on = h
  walks_then P Q (expression p l) k h on = λ e is. walks_then P Q (l e.groups) k (h e is) on

  gives_so : {A : Type 0} (P : A → Type 0) (r : Reading A) (es : List WrittenExpression) (x : A) → Gives text kind max_nodes r es x → Walks P r → P x
  gives_so P _ _ x value h = h
  gives_so P _ _ x (after_expression {k = k} {es = es} e is g) h = gives_so P (k e.groups) es x g (h e is)

  fails_so : {A : Type 0} (P : A → Type 0) (r : Reading A) (f : ScriptFault) → Fails text kind max_nodes r f → Walks P r → By f.place f.reason
  fails_so P _ f own h = h
  fails_so P _ _ (no_expression bad) h = tt
  fails_so P _ f (later {k = k} e is g) h = fails_so P (k e.groups) f g (h e is)

  shown_or : (x y : Option ScriptFault) → ReadsFlags x → ReadsFlags y → ReadsFlags (option_or x y)
  shown_or None y h g = g
  shown_or (Some f) y h g = h

  -- ---- addresses

  line_walk : (count from to : ℕ) (o : Option ℕ) → Walk Any (line_address count from to o)
  line_walk count from to None = tt
  line_walk count from to (Some zero) = tt
  line_walk count from to (Some (suc n)) = tt

  match_walk : (count delimiter place : ℕ) → Walks Any (match_at text count delimiter place)
  unfolding match_at
  match_walk count delimiter place = by_end (delimiter_at text (place + 1) delimiter)
    where
      by_end : (o : Option ℕ) → Walks Any (match_to text count delimiter place o)
      by_end None = tt
      by_end (Some to) = walks_if Any (to == place + 1) _ _ (walk_if Any (folds_at text (to + 1)) _ _ tt tt) (λ e is. tt)

  own_walk : (count place : ℕ) (o : Option ℕ) → Walks Any (own_match text count place o)
  own_walk count place None = tt
  own_walk count place (Some d) = match_walk count d place

  address_walk : (count at : ℕ) → Walks Any (address_at text count at)
  unfolding address_at
  address_walk count at = by_byte (slice_get text at)
    where
      by_byte : (o : Option ℕ) → Walks Any (address_of text count at o)
      by_byte None = tt
      by_byte (Some b) =
          walks_if Any (is_digit b) _ _ (line_walk count at (past Digit text at) (with_digits (Some 0) (bytes_between text at (past Digit text at))))
          (walks_if Any (b == 36) _ _ tt
          (walks_if Any (b == 47) _ _ (match_walk count 47 at)
          (walks_if Any (b == 92) _ _ (own_walk count (at + 1) (own_delimiter (slice_get text (at + 1)))) tt)))

  second_walk : (count : ℕ) (first : Address) (at : ℕ) → Walks Any (second_at text count first at)
  unfolding second_at
  second_walk count first at = walks_then Any Any (address_at text count at) (λ (x : Addressed). plainly (with_second first at x x.address)) (address_walk count at) (λ x h. by_second x x.address)
    where
      by_second : (x : Addressed) (o : Option Address) → Walk Any (with_second first at x o)
      by_second x None = tt
      by_second x (Some a) = tt

  after_walk : (count at : ℕ) (o : Option Address) → Walks Any (after_first text count at o)
  after_walk count at None = tt
  after_walk count at (Some first) = walks_if Any (is_byte 44 (slice_get text (past Blank text at))) _ _ (second_walk count first (past Blank text (past Blank text at + 1))) tt

  addresses_walk : (count at : ℕ) → Walks Any (addresses_at text count at)
  unfolding addresses_at
  addresses_walk count at = walks_then Any Any (address_at text count at) (λ (x : Addressed). after_first text x.count x.at x.address) (address_walk count at) (λ x h. after_walk x.count x.at x.address)

  -- ---- flags

  number_walk : (f : Flags) (at : ℕ) (digits : List ℕ) → Walk Any (with_number f at digits)
  number_walk f at digits = walk_if Any (is_some f.number) _ _ tt (by_number (with_digits (Some 0) digits))
    where
      by_number : (o : Option ℕ) → Walk Any (with_flag_number f at o)
      by_number None = tt
      by_number (Some zero) = tt
      by_number (Some (suc n)) = tt

  flag_walk : (empty : Bool) (f : Flags) (at b : ℕ) → Walk Any (with_flag empty f at b)
  flag_walk empty f at b =
      walk_if Any (b == 103) _ _ (walk_if Any f.global _ _ tt tt)
      (walk_if Any (b == 112) _ _ (walk_if Any f.print _ _ tt tt)
      (walk_if Any (b == 73) _ _ (walk_if Any empty _ _ tt (walk_if Any f.folded _ _ tt tt)) tt))

  flag_file_walk : (f : Flags) (at : ℕ) (o : Option (ℕ × ℕ)) → Walk Any (with_file f at o)
  flag_file_walk f at None = tt
  flag_file_walk f at (Some name) = tt

  flags_walk : (empty : Bool) (f : Flags) (skip at : ℕ) (bs : List ℕ) → Walk Any (flags_from text empty f skip at bs)
  flags_walk empty f skip at [] = tt
  flags_walk empty f (suc skip) at (b ∷ bs) = flags_walk empty f skip (suc at) bs
  flags_walk empty f zero at (b ∷ bs) =
      walk_if Any (is_digit b) _ _
      (walk_then Any Any (with_number f at (b ∷ take_while is_digit bs)) (λ (g : Flags). flags_from text empty g (prefix_len is_digit bs) (suc at) bs)
      (number_walk f at (b ∷ take_while is_digit bs)) (λ g h. flags_walk empty g (prefix_len is_digit bs) (suc at) bs))
      (walk_if Any (ends_flags b) _ _ tt
      (walk_if Any (b == 119) _ _ (flag_file_walk f at (name_from text (at + 1)))
      (walk_then Any Any (with_flag empty f at b) (λ (g : Flags). flags_from text empty g zero (suc at) bs) (flag_walk empty f at b) (λ g h. flags_walk empty g zero (suc at) bs))))

  -- ---- functions

  -- what is so of a `y` and of an `s`
  abbrev Sound : Argument → Type 0
  Sound (Pair s) = Pairs text s × NoneWrong text s
  Sound (FlaggedPair s e f) = (groups : Option ℕ) × HasGroups kind max_nodes text s groups × FirstWrong (wrong_in_replacement s.delimiter groups) text (s.middle + 1) s.to None
  Sound differs = Unit {0}

  abbrev SoundFound : Argument × ℕ → Type 0
  SoundFound x = Sound x.0

  ended_walk : (f : Argument) (at : ℕ) → Sound f → Walk SoundFound (to_command_end text f at)
  ended_walk f at h = walk_if SoundFound (may_end (slice_get text (past Blank text at))) _ _ h tt

  -- the second string, where it ends
  abbrev strings_to : ℕ → ℕ → ℕ → Option ℕ → Result Strings ScriptFault
  strings_to d from middle o = ◌then◌ (or_fault o OpenDelimiter middle) (λ (to : ℕ). Ok (record { delimiter = d; from = from; middle = middle; to = to }))

  strings_walk : (breaks : Bool) (d place : ℕ) (o : Option ℕ) → Walk Any (strings_after text breaks d place o)
  strings_walk breaks d place None = tt
  strings_walk breaks d place (Some middle) = by_end (string_end breaks d false (middle + 1) (drop (middle + 1) text))
    where
      by_end : (o : Option ℕ) → Walk Any (strings_to d (place + 1) middle o)
      by_end None = tt
      by_end (Some to) = tt

  substitute_strings_walk : (place : ℕ) (o : Option ℕ) → Walk Any (substitute_strings text place o)
  substitute_strings_walk place None = tt
  substitute_strings_walk place (Some d) = strings_walk true d place (delimiter_at text (place + 1) d)

  transliterate_strings_walk : (place : ℕ) (o : Option ℕ) → Walk Any (transliterate_strings text place o)
  transliterate_strings_walk place None = tt
  transliterate_strings_walk place (Some d) = strings_walk false d place (string_end false d false (place + 1) (drop (place + 1) text))

  -- a wrong escape is reported as such
  escape_shown : (wrong : ℕ → Option Reason) (from to : ℕ) (o : Option ScriptFault) → ((b : ℕ) (r : Reason) → wrong b ≡ Some r → OfEscape r) →
      ((f : ScriptFault) → IsFirstWrong wrong text from to f → IsWrongEscape kind max_nodes text f) → FirstWrong wrong text from to o → ReadsFlags o
  escape_shown wrong from to None of_escape stands h = tt
  escape_shown wrong from to (Some f) of_escape stands h = by_reason f.place f.reason (of_escape h.byte f.reason h.reason) (stands f h)
    where
      by_reason : (place : ℕ) (r : Reason) → OfEscape r → IsWrongEscape kind max_nodes text (record { place = place; reason = r }) → By place r
      by_reason place BadEscape is w = w
      by_reason place GroupAbsent is w = w
      by_reason place differs is w = absurd is

  repeated_shown : (at : ℕ) (s : Strings) (o : Option ℕ) → IsTransliterate text at s → repeated_in [] (chars_of text s.delimiter s.from s.middle) ≡ o → ReadsFlags (repeated_fault o)
  repeated_shown at s None there e = tt
  repeated_shown at s (Some place) there e = (at, s, there, first_repeated (chars_of text s.delimiter s.from s.middle) place e)

  lengths_shown : (t : Bool) (at : ℕ) → ReadsFlags (fault_if t LengthsDiffer at)
  lengths_shown true at = tt
  lengths_shown false at = tt

  strings_shown : (at : ℕ) (s : Strings) → IsTransliterate text at s → ReadsFlags (strings_fault text s.delimiter at s.from s.middle s.to)
  strings_shown at s there =
      shown_or (string_fault s.delimiter false s.from (bytes_between text s.from s.middle)) _
      (escape_shown (wrong_in_string s.delimiter) s.from s.middle _ (string_reason s.delimiter) (λ f h. in_first at s there h) (string_fault_first text s.delimiter s.from s.middle))
      (shown_or (string_fault s.delimiter false (s.middle + 1) (bytes_between text (s.middle + 1) s.to)) _
      (escape_shown (wrong_in_string s.delimiter) (s.middle + 1) s.to _ (string_reason s.delimiter) (λ f h. in_second at s there h) (string_fault_first text s.delimiter (s.middle + 1) s.to))
      (shown_or (repeated_fault (repeated_in [] (chars_of text s.delimiter s.from s.middle))) _ (repeated_shown at s (repeated_in [] (chars_of text s.delimiter s.from s.middle)) there refl)
      (lengths_shown (not (length (chars_of text s.delimiter s.from s.middle) == length (chars_of text s.delimiter (s.middle + 1) s.to))) at)))

  transliterate_walk : (at : ℕ) → slice_get text at ≡ Some 121 → Walk SoundFound (transliterate_at text at)
  unfolding transliterate_at
  transliterate_walk at letter =
      walk_then (λ (s : Strings). transliterate_strings text (at + 1) (own_delimiter (slice_get text (at + 1))) ≡ Ok s) SoundFound (transliterate_strings text (at + 1) (own_delimiter (slice_get text (at + 1))))
      (λ (s : Strings). unless_fault (strings_fault text s.delimiter at s.from s.middle s.to) (to_command_end text (Pair s) (s.to + 1)))
      (walk_read (transliterate_strings text (at + 1) (own_delimiter (slice_get text (at + 1)))) (transliterate_strings_walk (at + 1) (own_delimiter (slice_get text (at + 1)))))
      (λ s is. walk_unless SoundFound (strings_fault text s.delimiter at s.from s.middle s.to) (to_command_end text (Pair s) (s.to + 1)) (strings_shown at s (letter, is))
      (λ none. ended_walk (Pair s) (s.to + 1) (pairs text at s none, none_wrong text at s none)))

  letter_of_text : (u : TextUse) (letter : ℕ) → verb_of letter ≡ Some (Text u) → letter ≡ letter_of u
  letter_of_text Append letter e = grind (arith, nat_tests)
  letter_of_text Insert letter e = grind (arith, nat_tests)
  letter_of_text Change letter e = grind (arith, nat_tests)

  text_walk : (u : TextUse) (at : ℕ) (o : Option (ℕ × ℕ)) → slice_get text at ≡ Some (letter_of u) → text_from text (past Blank text (at + 1)) ≡ o → Walk SoundFound (spanned MissingText at o)
  text_walk u at None letter e = (u, letter, none_there text (past Blank text (at + 1)) e)
  text_walk u at (Some span) letter e = tt

  file_walk : (at : ℕ) (o : Option (ℕ × ℕ)) → Walk SoundFound (spanned MissingName at o)
  file_walk at None = tt
  file_walk at (Some name) = tt

  letter_of_strings : (letter : ℕ) → verb_of letter ≡ Some Transliterate → letter ≡ 121
  letter_of_strings letter e = grind (arith, nat_tests)

  argument_walk : (verb : Verb) (at letter : ℕ) → slice_get text at ≡ Some letter → verb_of letter ≡ Some verb → Walk SoundFound (argument_of text verb at)
  argument_walk Open at letter there is = tt
  argument_walk Comment at letter there is = tt
  argument_walk Label at letter there is = walk_if SoundFound (past Name text (past Blank text (at + 1)) == past Blank text (at + 1)) _ _ tt (ended_walk (Between _ _) _ tt)
  argument_walk (Branch u) at letter there is = ended_walk (Between _ _) _ tt
  argument_walk (Text u) at letter there is = text_walk u at (text_from text (past Blank text (at + 1))) (there ∙ ap (λ (b : ℕ). Some b) (letter_of_text u letter is)) refl
  argument_walk (File u) at letter there is = file_walk at (name_from text (at + 1))
  argument_walk Transliterate at letter there is = transliterate_walk at (there ∙ ap (λ (b : ℕ). Some b) (letter_of_strings letter is))
  argument_walk verb at letter there is = ended_walk Nothing (at + 1) tt

  substituted_walk : (at : ℕ) (s : Strings) (e groups : Option ℕ) → IsSubstitute text at s → HasGroups kind max_nodes text s groups → Walk SoundFound (substituted text s e groups)
  unfolding substituted
  substituted_walk at s e groups there has =
      walk_unless SoundFound (replacement_fault s.delimiter groups false (s.middle + 1) (bytes_between text (s.middle + 1) s.to)) _
      (escape_shown (wrong_in_replacement s.delimiter groups) (s.middle + 1) s.to _ (replacement_reason s.delimiter groups) (λ f h. in_replacement at s groups there has h)
      (replacement_fault_first text s.delimiter groups (s.middle + 1) s.to))
      (λ none. walk_then Any SoundFound (flags_after text s (not (is_some e))) (λ (found : Flags × ℕ). to_command_end text (FlaggedPair s e found.0) found.1)
      (flags_walk (not (is_some e)) no_flags 0 (s.to + 1) (drop (s.to + 1) text))
      (λ found h. ended_walk (FlaggedPair s e found.0) found.1
      (groups, has, subst (FirstWrong (wrong_in_replacement s.delimiter groups) text (s.middle + 1) s.to) none (replacement_fault_first text s.delimiter groups (s.middle + 1) s.to))))

  substitute_walk : (count at : ℕ) → slice_get text at ≡ Some 115 → Walks SoundFound (substitute_at text count at)
  unfolding substitute_at
  substitute_walk count at letter =
      walks_then (λ (s : Strings). substitute_strings text (at + 1) (own_delimiter (slice_get text (at + 1))) ≡ Ok s) SoundFound
      (plainly (substitute_strings text (at + 1) (own_delimiter (slice_get text (at + 1))))) (substitute_with text count)
      (walk_read (substitute_strings text (at + 1) (own_delimiter (slice_get text (at + 1)))) (substitute_strings_walk (at + 1) (own_delimiter (slice_get text (at + 1)))))
      (λ s is. by_length s (letter, is) (s.middle == s.from) refl)
    where
      by_length : (s : Strings) → IsSubstitute text at s → (t : Bool) → (s.middle == s.from) ≡ t →
          Walks SoundFound (if t then plainly (substituted text s None None)
          else expression (record { from = s.from; to = s.middle; delimiter = s.delimiter; folded = folds (flags_after text s false) }) (λ groups. plainly (substituted text s (Some count) (Some groups))))
      by_length s there true same = substituted_walk at s None None there (eqb-true s.middle s.from same)
      by_length s there false same = λ e is. substituted_walk at s (Some count) (Some e.groups) there (folds (flags_after text s false), e, is, refl)

  -- ---- items

  abbrev SoundHere : ItemOrEnd → Type 0
  SoundHere (Is i next) = Sound i.argument
  SoundHere Ends = Unit {0}

  allowed_walk : (a : Addresses) (at : ℕ) (o : Option Verb) → Walk (λ (verb : Verb). o ≡ Some verb) (allowed a at o)
  allowed_walk a at None = tt
  allowed_walk a at (Some verb) =
      walk_if (λ (v : Verb). Some verb ≡ Some v) (a.negate && most_addresses verb == 0) _ _ tt
      (walk_if (λ (v : Verb). Some verb ≡ Some v) (nat_lt (most_addresses verb) (option_len a.first + option_len a.second)) _ _ tt refl)

  letter_of_substitute : (letter : ℕ) → verb_of letter ≡ Some Substitute → letter ≡ 115
  letter_of_substitute letter e = grind (arith, nat_tests)

  verb_walk : (count : ℕ) (verb : Verb) (at letter : ℕ) → slice_get text at ≡ Some letter → verb_of letter ≡ Some verb → Walks SoundFound (argument_with text count verb at)
  verb_walk count Substitute at letter there is = substitute_walk count at (there ∙ ap (λ (b : ℕ). Some b) (letter_of_substitute letter is))
  verb_walk count verb at letter there is = argument_walk verb at letter there is

  here_walk : (count at : ℕ) (a : Addresses) → Walks SoundHere (function_at text count a at)
  unfolding function_at
  here_walk count at a = by_letter (slice_get text at) refl
    where
      by_letter : (o : Option ℕ) → slice_get text at ≡ o → Walks SoundHere (item_with text count a at o)
      by_letter None e = tt
      by_letter (Some letter) e =
          walks_then (λ (verb : Verb). verb_of letter ≡ Some verb) SoundHere (plainly (allowed a at (verb_of letter)))
          (λ (verb : Verb). argument_with text count verb at >>= λ (found : Argument × ℕ). plainly (Ok (item_of a at verb found)))
          (allowed_walk a at (verb_of letter))
          (λ verb is. walks_then SoundFound SoundHere (argument_with text count verb at) (λ (found : Argument × ℕ). plainly (Ok (item_of a at verb found))) (verb_walk count verb at letter e is) (λ x h. h))

  item_walk : (count at : ℕ) → Walks SoundHere (item_at text count at)
  unfolding item_at
  item_walk count at = by_byte (slice_get text (past Separator text at))
    where
      by_byte : (o : Option ℕ) → Walks SoundHere (item_from text count (past Separator text at) o)
      by_byte None = tt
      by_byte (Some b) =
          walks_then Any SoundHere (addresses_at text count (past Separator text at)) (function_after text) (addresses_walk count (past Separator text at))
          (λ h any. here_walk h.count (with_bang text h).at (with_bang text h).addresses)

  all_sound : (count at to : ℕ) (is : List Item) (es : List WrittenExpression) → CutScript text kind max_nodes count at is es to → (k : ℕ) (i : Item) → slice_get is k ≡ Some i → Sound i.argument
  all_sound count at to _ _ done k i e = let no : ◌≡◌ {A = Option Item} None (Some i) = e in absurd cc
  all_sound count at to _ _ (next_item {next = next} {i = i} {is = is} es fs given rest) zero j e =
      let same : i ≡ j = cc in
      subst (λ (x : Item). Sound x.argument) same (gives_so SoundHere (item_at text count at) es (Is i next) given (item_walk count at))
  all_sound count at to _ _ (next_item {next = next} {i = i} {is = is} es fs given rest) (suc k) j e = all_sound (count + length es) next to is fs rest k j e

  sound_at : (script : Program) (means : Means text kind max_nodes script) (k : ℕ) (i : Item) (f : Argument) → slice_get means.items k ≡ Some i → i.argument ≡ f → Sound f
  sound_at script means k i f at is = subst Sound is (all_sound 0 0 means.to means.items script.expressions means.judged.cut k i at)

  -- ---- faults

  shown_early : (items : List Item) (es : List WrittenExpression) (to : ℕ) (f : ScriptFault) → Fails text kind max_nodes (item_at text (length es) to) f → By f.place f.reason
  shown_early items es to f bad = fails_so SoundHere (item_at text (length es) to) f bad (item_walk (length es) to)

  known_groups : (f : ScriptFault) (r : Reason) → Faulty text kind max_nodes f → f.reason ≡ r → (OfTargets r → ⊥) → By f.place r
  known_groups f r (early items es to cut bad) is never = subst (By f.place) is (shown_early items es to f bad)
  known_groups f r (afterwards items es to cut ends found) is never = absurd (never (subst OfTargets is (targets_reason text items f found)))

  pub strings_accepted : (script : Program) (means : Means text kind max_nodes script) (k : ℕ) (i : Item) (s : Strings) → slice_get means.items k ≡ Some i → i.argument ≡ Pair s → Pairs text s
  strings_accepted script means k i s at is = (sound_at script means k i (Pair s) at is).0

  pub escapes_accepted : (script : Program) (means : Means text kind max_nodes script) (k : ℕ) (i : Item) → slice_get means.items k ≡ Some i →
      ((s : Strings) → i.argument ≡ Pair s → NoneWrong text s)
      × ((s : Strings) (e : Option ℕ) (f : Flags) → i.argument ≡ FlaggedPair s e f →
      (groups : Option ℕ) × HasGroups kind max_nodes text s groups × FirstWrong (wrong_in_replacement s.delimiter groups) text (s.middle + 1) s.to None)
  escapes_accepted script means k i at = (λ s is. (sound_at script means k i (Pair s) at is).1, λ s e f is. sound_at script means k i (FlaggedPair s e f) at is)

  pub repeated_byte : (f : ScriptFault) → Faulty text kind max_nodes f → f.reason ≡ RepeatedByte → By f.place RepeatedByte
  repeated_byte f bad is = known_groups f RepeatedByte bad is (λ no. no)

  pub text_fault : (f : ScriptFault) → Faulty text kind max_nodes f → f.reason ≡ MissingText → By f.place MissingText
  text_fault f bad is = known_groups f MissingText bad is (λ no. no)

  pub escape_fault : (f : ScriptFault) → Faulty text kind max_nodes f → (f.reason ≡ BadEscape) ⊎ (f.reason ≡ GroupAbsent) → IsWrongEscape kind max_nodes text f
  escape_fault f bad (inl is) = subst (λ (r : Reason). IsWrongEscape kind max_nodes text (record { place = f.place; reason = r })) (sym is) (known_groups f BadEscape bad is (λ no. no))
  escape_fault f bad (inr is) = subst (λ (r : Reason). IsWrongEscape kind max_nodes text (record { place = f.place; reason = r })) (sym is) (known_groups f GroupAbsent bad is (λ no. no))

  -- the braces of a script that is cut to its end
  abbrev Cut : (List Item → ℕ → Type 0) → ℕ → Type 0
  Cut P place = (items : List Item) × (es : List WrittenExpression) × (to : ℕ) × CutScript text kind max_nodes 0 0 items es to × IsEnd text to × P items place

  pub brace_faults : (f : ScriptFault) → Faulty text kind max_nodes f → (f.reason ≡ StrayClose → Cut IsStray f.place) × (f.reason ≡ OpenBlock → Cut IsUnclosed f.place)
  brace_faults f (early items es to cut bad) = (λ is. absurd (subst (By f.place) is (shown_early items es to f bad)), λ is. absurd (subst (By f.place) is (shown_early items es to f bad)))
  brace_faults f (afterwards items es to cut ends found) =
      let faults = braces_at_fault text items f found in
      (λ is. (items, es, to, cut, ends, faults.0 is), λ is. (items, es, to, cut, ends, faults.1 is))
