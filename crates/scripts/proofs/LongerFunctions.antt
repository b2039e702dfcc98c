-- A text within a longer one, behind which comes nothing or a newline: functions.
use Rattle.std.proofs.Common.{◌≡◌, ℕ, ◌+◌, ◌<◌, ◌≤◌, ◌==◌, Bool, true, false, not, List, ◌++◌, length, Option, Some, None, is_some, is_none, option_map, Result, Ok, refl, sym, ap, ap₂, subst, ◌∙◌, arith, if◌then◌else◌, slice_get, drop}
use Rattle.sedre.specs.Brackets.{delimiter_at}
use Rattle.std.proofs.lemmas.Option.{slice_get_within}
use Rattle.sedscript.specs.declared.bytes.Sort.TheVariants.{Blank, Name, Line}
use Rattle.sedscript.specs.declared.types.ScriptFault.{ScriptFault}
use Rattle.sedscript.specs.declared.types.Reason.{Reason}
use Rattle.sedscript.specs.declared.types.Reason.TheVariants.{MissingLabel, MissingName, MissingText, OpenDelimiter, TrailingBytes}
use Rattle.sedscript.specs.declared.items.Strings.{Strings}
use Rattle.sedscript.specs.declared.items.Argument.{Argument}
use Rattle.sedscript.specs.declared.items.Argument.TheVariants.{Nothing, Between, Pair, FlaggedPair}
use Rattle.sedscript.specs.declared.letters.Verb.{Verb}
use Rattle.sedscript.specs.declared.letters.Verb.TheVariants.{Open, Comment, Label, Branch, Text, File, Transliterate}
use Rattle.sedscript.specs.Bytes.{past, bytes_between, fault, or_fault, ◌>>=◌ as ◌then◌}
use Rattle.sedscript.specs.Strings.{string_end, replacement_fault}
use Rattle.sedscript.specs.Arguments.{to_command_end, may_end, text_from, name_from, spanned, no_flags, flags_from, own_delimiter, strings_after, substitute_strings, transliterate_strings, flags_after}
use Rattle.sedscript.specs.Letters.{name_at, label_at, transliterate_at, substituted, argument_of}
use Rattle.scripts.proofs.LongerText.{tail_of, past_low, past_high, near, past_on, between_on}
use Rattle.scripts.proofs.LongerStrings.{FoundOn, delimiter_on, string_there}
use Rattle.scripts.proofs.LongerFlags.{Same, same_if, same_then, same_unless, replacement_same, strings_same, SpanIn, SpanOn, same_test, move_flags, move_flagged, FileIn, FlagsIn, name_on, text_on, flags_on}

-- ---- what follows letters, so much later, with so many expressions before them

abbrev pub move_strings : ℕ → Strings → Strings
move_strings base s = record { delimiter = s.delimiter; from = base + s.from; middle = base + s.middle; to = base + s.to }

abbrev pub move_argument : (base count : ℕ) → Argument → Argument
move_argument base count Nothing = Nothing
move_argument base count (Between from to) = Between (base + from) (base + to)
move_argument base count (Pair s) = Pair (move_strings base s)
move_argument base count (FlaggedPair s e f) = FlaggedPair (move_strings base s) (option_map (λ k. count + k) e) (move_flags base f)

abbrev pub move_found : (base count : ℕ) → Argument × ℕ → Argument × ℕ
move_found base count x = (move_argument base count x.0, base + x.1)

-- strings and spans lie before an end
abbrev pub StringsIn : ℕ → Strings → Type 0
StringsIn end s = (s.from ≤ s.middle) × (s.middle < s.to) × (s.to < end)

abbrev pub ArgumentIn : ℕ → Argument → Type 0
ArgumentIn end Nothing = Unit {0}
ArgumentIn end (Between from to) = SpanIn end (from, to)
ArgumentIn end (Pair s) = StringsIn end s
ArgumentIn end (FlaggedPair s e f) = StringsIn end s × FileIn end f.file

abbrev pub EndsIn : ℕ → Argument × ℕ → Type 0
EndsIn end x = ArgumentIn end x.0 × (x.1 ≤ end)

module _ (before text : List ℕ) (more : Option (List ℕ)) (count : ℕ) where
  abbrev whole : List ℕ
  whole = before ++ (text ++ tail_of more)

  abbrev base : ℕ
  base = length before

  abbrev end : ℕ
  end = length text

  abbrev Moved : Result (Argument × ℕ) ScriptFault → Result (Argument × ℕ) ScriptFault → Type 0
  Moved r z = Same (EndsIn end) (move_found base count) r z

  ended_on : (f : Argument) (at place : ℕ) → at ≤ end → place ≡ base + at → ArgumentIn end f → Moved (to_command_end text f at) (to_command_end whole (move_argument base count f) place)
  ended_on f at place le e h =
      let after : past Blank whole place ≡ base + past Blank text at = ap (past Blank whole) e ∙ past_on before text more Blank at le refl in
      let low : past Blank text at ≤ end = past_high Blank text at le in
      let ends : may_end (slice_get whole (past Blank whole place)) ≡ may_end (slice_get text (past Blank text at)) = ap (λ (n : ℕ). may_end (slice_get whole n)) after ∙ near before text more may_end (past Blank text at) low refl in
      subst (λ (t : Bool). Moved (to_command_end text f at) (if t then Ok (move_argument base count f, past Blank whole place) else fault TrailingBytes (past Blank whole place))) (sym ends)
      (same_if (EndsIn end) (move_found base count) (may_end (slice_get text (past Blank text at))) _ _ _ _ (ap (λ n. Ok (move_argument base count f, n)) after, (h, low)) tt)

  spanned_on : (reason : Reason) (at place : ℕ) (x z : Option (ℕ × ℕ)) → SpanOn base end x z → Moved (spanned reason at x) (spanned reason place z)
  spanned_on reason at place None z h = tt
  spanned_on reason at place (Some x) z h = (ap (spanned reason place) h.0, (h.1, h.1.1))

  label_name_on : (at place : ℕ) → at ≤ end → place ≡ base + at → Moved (name_at text at) (name_at whole place)
  label_name_on at place le e =
      let after : past Name whole place ≡ base + past Name text at = ap (past Name whole) e ∙ past_on before text more Name at le refl in
      let high : past Name text at ≤ end = past_high Name text at le in
      subst (λ (f : Argument). Moved (name_at text at) (to_command_end whole f (past Name whole place))) (ap₂ Between (sym e) (sym after))
      (ended_on (Between at (past Name text at)) (past Name text at) (past Name whole place) high after (past_low Name text at, high))

  label_on : (letter letter' at place : ℕ) → at ≤ end → place ≡ base + at → Moved (label_at text letter at) (label_at whole letter' place)
  label_on letter letter' at place le e =
      let after : past Name whole place ≡ base + past Name text at = ap (past Name whole) e ∙ past_on before text more Name at le refl in
      subst (λ (t : Bool). Moved (label_at text letter at) (if t then fault MissingLabel letter' else name_at whole place)) (sym (same_test at (past Name text at) place (past Name whole place) base e after))
      (same_if (EndsIn end) (move_found base count) (past Name text at == at) _ _ _ _ tt (label_name_on at place le e))

  -- ---- strings

  abbrev Strung : Result Strings ScriptFault → Result Strings ScriptFault → Type 0
  Strung r z = Same (StringsIn end) (move_strings base) r z

  -- the second string, where it ends
  abbrev strings_to : ℕ → ℕ → ℕ → Option ℕ → Result Strings ScriptFault
  strings_to d from middle o = ◌then◌ (or_fault o OpenDelimiter middle) (λ (to : ℕ). Ok (record { delimiter = d; from = from; middle = middle; to = to }))

  to_on : (d from place middle till : ℕ) (o p : Option ℕ) → place ≡ base + from → till ≡ base + middle → from ≤ middle → FoundOn base (middle + 1) end o p → Strung (strings_to d from middle o) (strings_to d place till p)
  to_on d from place middle till None p e f le h = tt
  to_on d from place middle till (Some to) p e f le h =
      (ap (strings_to d place till) h.0 ∙ ap₂ (λ n m. Ok (record { delimiter = d; from = n; middle = m; to = base + to })) e f, (le, omega (arith, h.1), h.2))

  after_on : (breaks : Bool) (d at place : ℕ) (o p : Option ℕ) → place ≡ base + at → FoundOn base (at + 1) end o p → Strung (strings_after text breaks d at o) (strings_after whole breaks d place p)
  after_on breaks d at place None p e h = tt
  after_on breaks d at place (Some middle) p e h =
      let short : middle + 1 ≤ end = omega (arith, h.2) in
      let one : base + middle + 1 ≡ base + (middle + 1) = omega arith in
      subst (λ (p : Option ℕ). Strung (strings_after text breaks d at (Some middle)) (strings_after whole breaks d place p)) (sym h.0)
      (to_on d (at + 1) (place + 1) middle (base + middle) _ _ (omega (arith, e)) refl h.1
      (subst (λ (n : ℕ). FoundOn base (middle + 1) end (string_end breaks d false (middle + 1) (drop (middle + 1) text)) (string_end breaks d false n (drop n whole))) (sym one) (string_there before text more breaks d (middle + 1) short)))

  -- a delimiter that was found lies before the end
  own_inside : (at d : ℕ) → own_delimiter (slice_get text at) ≡ Some d → at < end
  own_inside at d e = by_byte (slice_get text at) refl e
    where
      by_byte : (o : Option ℕ) → slice_get text at ≡ o → own_delimiter o ≡ Some d → at < end
      by_byte None f e = absurd cc
      by_byte (Some b) f e = slice_get_within text at b f

  pub own_on : (at place : ℕ) → at ≤ end → place ≡ base + at → own_delimiter (slice_get whole place) ≡ own_delimiter (slice_get text at)
  own_on at place le e = ap (λ (n : ℕ). own_delimiter (slice_get whole n)) e ∙ near before text more own_delimiter at le refl

  pub own_short : (at d : ℕ) → own_delimiter (slice_get text at) ≡ Some d → at + 1 ≤ end
  own_short at d e = let h = own_inside at d e in omega (arith, h)

  pub strings_on : (at place : ℕ) → at ≤ end → place ≡ base + at → Strung (substitute_strings text at (own_delimiter (slice_get text at))) (substitute_strings whole place (own_delimiter (slice_get whole place)))
  strings_on at place le e =
      subst (λ (o : Option ℕ). Strung (substitute_strings text at (own_delimiter (slice_get text at))) (substitute_strings whole place o)) (sym (own_on at place le e)) (by_own (own_delimiter (slice_get text at)) refl)
    where
      by_own : (o : Option ℕ) → own_delimiter (slice_get text at) ≡ o → Strung (substitute_strings text at o) (substitute_strings whole place o)
      by_own None f = tt
      by_own (Some d) f =
          let one : place + 1 ≡ base + (at + 1) = omega (arith, e) in
          after_on true d at place _ _ e (subst (λ (n : ℕ). FoundOn base (at + 1) end (delimiter_at text (at + 1) d) (delimiter_at whole n d)) (sym one) (delimiter_on before text more (at + 1) d (own_short at d f)))

  two_on : (at place : ℕ) → at ≤ end → place ≡ base + at → Strung (transliterate_strings text at (own_delimiter (slice_get text at))) (transliterate_strings whole place (own_delimiter (slice_get whole place)))
  two_on at place le e =
      subst (λ (o : Option ℕ). Strung (transliterate_strings text at (own_delimiter (slice_get text at))) (transliterate_strings whole place o)) (sym (own_on at place le e)) (by_own (own_delimiter (slice_get text at)) refl)
    where
      by_own : (o : Option ℕ) → own_delimiter (slice_get text at) ≡ o → Strung (transliterate_strings text at o) (transliterate_strings whole place o)
      by_own None f = tt
      by_own (Some d) f =
          let one : place + 1 ≡ base + (at + 1) = omega (arith, e) in
          after_on false d at place _ _ e
          (subst (λ (n : ℕ). FoundOn base (at + 1) end (string_end false d false (at + 1) (drop (at + 1) text)) (string_end false d false n (drop n whole))) (sym one) (string_there before text more false d (at + 1) (own_short at d f)))

  -- the second string, and the first
  second_string : (s : Strings) → StringsIn end s → bytes_between whole (base + s.middle + 1) (base + s.to) ≡ bytes_between text (s.middle + 1) s.to
  second_string s h =
      let one : base + s.middle + 1 ≡ base + (s.middle + 1) = omega arith in
      ap (λ (n : ℕ). bytes_between whole n (base + s.to)) one ∙ between_on before text more (s.middle + 1) s.to (omega (arith, h.1)) (omega (arith, h.2))

  pub first_string : (s : Strings) → StringsIn end s → bytes_between whole (base + s.from) (base + s.middle) ≡ bytes_between text s.from s.middle
  first_string s h = between_on before text more s.from s.middle h.0 (omega (arith, h.1, h.2))

  transliterate_on : (at place : ℕ) → at < end → place ≡ base + at → Moved (transliterate_at text at) (transliterate_at whole place)
  unfolding transliterate_at
  transliterate_on at place low e =
      same_then (StringsIn end) (move_strings base) (EndsIn end) (move_found base count) (transliterate_strings text (at + 1) (own_delimiter (slice_get text (at + 1)))) (transliterate_strings whole (place + 1) (own_delimiter (slice_get whole (place + 1)))) _ _
      (two_on (at + 1) (place + 1) (omega (arith, low)) (omega (arith, e)))
      (λ s h. same_unless (EndsIn end) (move_found base count) _ _ _ _ (strings_same text whole s.delimiter at s.from s.middle s.to place (base + s.from) (base + s.middle) (base + s.to) (first_string s h) (second_string s h))
      (ended_on (Pair s) (s.to + 1) (base + s.to + 1) (omega (arith, h.2)) (omega arith) h))

  -- ---- `s`

  pub flags_there : (s : Strings) (empty : Bool) → StringsIn end s → Same (FlagsIn end) (move_flagged base) (flags_after text s empty) (flags_after whole (move_strings base s) empty)
  flags_there s empty h =
      let one : base + s.to + 1 ≡ base + (s.to + 1) = omega arith in
      subst (λ (n : ℕ). Same (FlagsIn end) (move_flagged base) (flags_after text s empty) (flags_from whole empty no_flags 0 n (drop n whole))) (sym one) (flags_on before text more empty (s.to + 1) (omega (arith, h.2)))

  some_same : (e : Option ℕ) → is_some (option_map (λ k. count + k) e) ≡ is_some e
  some_same None = refl
  some_same (Some k) = refl

  pub substituted_on : (s : Strings) (e limit : Option ℕ) → StringsIn end s → Moved (substituted text s e limit) (substituted whole (move_strings base s) (option_map (λ k. count + k) e) limit)
  unfolding substituted
  substituted_on s e limit h =
      let places = replacement_same s.delimiter limit false (s.middle + 1) (base + s.middle + 1) (bytes_between text (s.middle + 1) s.to) in
      same_unless (EndsIn end) (move_found base count) _ _ _ _ (places ∙ ap (λ (bs : List ℕ). is_none (replacement_fault s.delimiter limit false (base + s.middle + 1) bs)) (sym (second_string s h)))
      (same_then (FlagsIn end) (move_flagged base) (EndsIn end) (move_found base count) (flags_after text s (not (is_some e))) (flags_after whole (move_strings base s) (not (is_some (option_map (λ k. count + k) e)))) _ _
      (subst (λ (t : Bool). Same (FlagsIn end) (move_flagged base) (flags_after text s (not (is_some e))) (flags_after whole (move_strings base s) (not t))) (sym (some_same e)) (flags_there s (not (is_some e)) h))
      (λ x k. ended_on (FlaggedPair s e x.0) x.1 (base + x.1) k.1 refl (h, k.0)))

  -- ---- the others

  pub argument_on : (verb : Verb) (at place : ℕ) → at < end → place ≡ base + at → Moved (argument_of text verb at) (argument_of whole verb place)
  argument_on Open at place low e = let one : place + 1 ≡ base + (at + 1) = omega (arith, e) in (ap (λ n. Ok (Nothing, n)) one, (tt, omega (arith, low)))
  argument_on Comment at place low e =
      let one : place + 1 ≡ base + (at + 1) = omega (arith, e) in
      let short : at + 1 ≤ end = omega (arith, low) in
      (ap (λ n. Ok (Nothing, n)) (ap (past Line whole) one ∙ past_on before text more Line (at + 1) short refl), (tt, past_high Line text (at + 1) short))
  argument_on Label at place low e =
      let one : place + 1 ≡ base + (at + 1) = omega (arith, e) in
      let short : at + 1 ≤ end = omega (arith, low) in
      label_on at place (past Blank text (at + 1)) (past Blank whole (place + 1)) (past_high Blank text (at + 1) short) (ap (past Blank whole) one ∙ past_on before text more Blank (at + 1) short refl)
  argument_on (Branch u) at place low e =
      let one : place + 1 ≡ base + (at + 1) = omega (arith, e) in
      let short : at + 1 ≤ end = omega (arith, low) in
      label_name_on (past Blank text (at + 1)) (past Blank whole (place + 1)) (past_high Blank text (at + 1) short) (ap (past Blank whole) one ∙ past_on before text more Blank (at + 1) short refl)
  argument_on (Text u) at place low e =
      let one : place + 1 ≡ base + (at + 1) = omega (arith, e) in
      let short : at + 1 ≤ end = omega (arith, low) in
      spanned_on MissingText at place _ _
      (subst (λ (n : ℕ). SpanOn base end (text_from text (past Blank text (at + 1))) (text_from whole n)) (sym (ap (past Blank whole) one ∙ past_on before text more Blank (at + 1) short refl))
      (text_on before text more (past Blank text (at + 1)) (past_high Blank text (at + 1) short)))
  argument_on (File u) at place low e =
      let one : place + 1 ≡ base + (at + 1) = omega (arith, e) in
      spanned_on MissingName at place _ _ (subst (λ (n : ℕ). SpanOn base end (name_from text (at + 1)) (name_from whole n)) (sym one) (name_on before text more (at + 1) (omega (arith, low))))
  argument_on Transliterate at place low e = transliterate_on at place low e
  argument_on verb at place low e = ended_on Nothing (at + 1) (place + 1) (omega (arith, low)) (omega (arith, e)) tt
