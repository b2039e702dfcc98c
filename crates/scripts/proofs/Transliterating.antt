-- `y`, as it is read.
use Rattle.std.proofs.Common.{◌≡◌, ℕ, suc, ◌+◌, ◌-◌, List, [], ◌∷◌, ◌++◌, length, take, drop, Bool, false, true, not, ◌&&◌, None, Some, Ok, refl, sym, ap, ap₂, subst, ◌∙◌, arith}
use Rattle.std.specs.Prelude.{◌==◌}
use Rattle.std.proofs.Math.Seq.{drop-append_seam, take-append_seam}
use Rattle.std.proofs.lemmas.List.{length-map}
use Rattle.std.proofs.lemmas.Bool.Decides.{nat_tests}
use Rattle.sedre.specs.declared.types.Kind.TheVariants.{Basic}
use Rattle.sedscript.specs.declared.bytes.Sort.TheVariants.{Separator, Blank}
use Rattle.sedscript.specs.declared.types.Action.TheVariants as action
use Rattle.sedscript.specs.declared.transliteration.Char.{Char}
use Rattle.sedscript.specs.declared.items.ItemOrEnd.TheVariants.{Is}
use Rattle.sedscript.specs.declared.items.Strings.{Strings}
use Rattle.sedscript.specs.declared.items.Argument.{Argument}
use Rattle.sedscript.specs.declared.items.Argument.TheVariants.{Pair}
use Rattle.sedscript.specs.declared.letters.Verb.TheVariants.{Transliterate}
use Rattle.sedscript.specs.Items.{address_at, addresses_at, addresses_of, function_at, item_at, plainly, ◌>>=◌, item_of}
use Rattle.sedscript.specs.Letters.{transliterate_at}
use Rattle.sedscript.specs.Bytes.{bytes_between}
use Rattle.sedscript.specs.Script.{Means}
use Rattle.sedscript.specs.Program.{Program}
use Rattle.sedscript.specs.Strings.{string_end, bytes_of, chars_from, is_among, repeated_in, strings_fault, table_of}
use Rattle.examples.specs.Strings.{written_string}
use Rattle.examples.proofs.ScriptWords.{always}
use Rattle.examples.proofs.StringReading.{string_read}
use Rattle.examples.proofs.WrittenEnds.{string_whole}
use Rattle.examples.proofs.WrittenFaults.{string_faultless}
use Rattle.scripts.proofs.Meanings.{of_commands}
use Rattle.scripts.proofs.Once.{each_once}
use Rattle.scripts.proofs.Numbers.{drop_on, past_none, ends_there, means_one, gives_plainly, ends_command, not_quiet}

none_repeated : (before : List ℕ) (cs : List Char) → each_once before (bytes_of cs) ≡ true → repeated_in before cs ≡ None
none_repeated before [] e = refl
none_repeated before (c ∷ cs) e = by_test (is_among before c.byte) refl e (none_repeated (c.byte ∷ before) cs)
  where
    by_test : (t : Bool) → is_among before c.byte ≡ t → (not t && each_once (c.byte ∷ before) (bytes_of cs)) ≡ true →
        (each_once (c.byte ∷ before) (bytes_of cs) ≡ true → repeated_in (c.byte ∷ before) cs ≡ None) → repeated_in before (c ∷ cs) ≡ None
    by_test true is e on = absurd cc
    by_test false is e on = rw is (on e)

module _ (s1 s2 : List ℕ) (once : each_once [] s1 ≡ true) (long : length s1 ≡ length s2) where
  abbrev one : List ℕ
  one = written_string 47 s1

  abbrev two : List ℕ
  two = written_string 47 s2

  abbrev text : List ℕ
  text = 121 ∷ 47 ∷ (one ++ 47 ∷ (two ++ 47 ∷ []))

  abbrev middle : ℕ
  middle = 2 + length one

  abbrev last : ℕ
  last = middle + 1 + length two

  from_middle : drop middle text ≡ 47 ∷ (two ++ 47 ∷ [])
  from_middle = let place : 2 + length one ≡ suc (suc (length one)) = omega arith in rw place (drop-append_seam one (47 ∷ (two ++ 47 ∷ [])))

  from_two : drop (middle + 1) text ≡ two ++ 47 ∷ []
  from_two = drop_on text middle (47 ∷ []) (two ++ 47 ∷ []) from_middle

  no_more : drop (last + 1) text ≡ []
  no_more = drop_on text last (47 ∷ []) [] (drop_on text (middle + 1) two (47 ∷ []) from_two)

  abbrev strings : Strings
  strings = record { delimiter = 47; from = 2; middle = middle; to = last }

  first_ends : string_end false 47 false 2 (one ++ 47 ∷ (two ++ 47 ∷ [])) ≡ Some middle
  first_ends = string_whole 47 s1 (two ++ 47 ∷ []) 2 (λ e. absurd cc) (λ e. absurd cc)

  second_ends : string_end false 47 false (middle + 1) (drop (middle + 1) text) ≡ Some last
  second_ends = ap (string_end false 47 false (middle + 1)) from_two ∙ string_whole 47 s2 [] (middle + 1) (λ e. absurd cc) (λ e. absurd cc)

  one_is : bytes_between text 2 middle ≡ one
  one_is = let size : middle - 2 ≡ length one = omega arith in ap (λ k. take k (one ++ 47 ∷ (two ++ 47 ∷ []))) size ∙ take-append_seam one (47 ∷ (two ++ 47 ∷ []))

  two_is : bytes_between text (middle + 1) last ≡ two
  two_is = let size : last - (middle + 1) ≡ length two = omega arith in ap₂ (λ k bs. take k bs) size from_two ∙ take-append_seam two (47 ∷ [])

  read_one : bytes_of (chars_from 47 false 2 one) ≡ s1
  read_one = string_read 47 s1 2 (λ e. absurd cc)

  read_two : bytes_of (chars_from 47 false (middle + 1) two) ≡ s2
  read_two = string_read 47 s2 (middle + 1) (λ e. absurd cc)

  once_here : repeated_in [] (chars_from 47 false 2 one) ≡ None
  once_here = none_repeated [] (chars_from 47 false 2 one) (ap (each_once []) read_one ∙ once)

  same_length : (length (chars_from 47 false 2 one) == length (chars_from 47 false (middle + 1) two)) ≡ true
  same_length =
      let a : length (chars_from 47 false 2 one) ≡ length s1 = sym (length-map (chars_from 47 false 2 one) (λ (c : Char). c.byte)) ∙ ap length read_one in
      let b : length (chars_from 47 false (middle + 1) two) ≡ length s2 = sym (length-map (chars_from 47 false (middle + 1) two) (λ (c : Char). c.byte)) ∙ ap length read_two in
      let same = a ∙ long ∙ sym b in grind (arith, nat_tests)

  faultless : strings_fault text 47 0 2 middle last ≡ None
  faultless = rw (one_is, two_is, string_faultless 47 s1 2, string_faultless 47 s2 (middle + 1), once_here, same_length) refl

  abbrev argument : Argument
  argument = Pair strings

  transliterate_is : transliterate_at text 0 ≡ Ok (argument, last + 1)
  unfolding transliterate_at
  transliterate_is = rw (first_ends, second_ends, faultless) (ends_command text (last + 1) argument no_more)

  item_is : item_at text 0 0 ≡ plainly (Ok (Is (record { addresses = addresses_of None None; place = 0; verb = Transliterate; argument = argument }) (last + 1)))
  unfolding item_at addresses_at address_at function_at
  item_is =
      rw (past_none Separator text 0 121 (47 ∷ (one ++ 47 ∷ (two ++ 47 ∷ []))) refl refl, past_none Blank text 0 121 (47 ∷ (one ++ 47 ∷ (two ++ 47 ∷ []))) refl refl)
      (ap (λ r. plainly r >>= λ found. plainly (Ok (item_of (addresses_of None None) 0 Transliterate found))) transliterate_is)

  abbrev pub with_table : List ℕ → Program
  with_table table = record (of_commands (always (action.Transliterate 0) ∷ []) []) { tables = table ∷ [] }

  -- `y/string1/string2/`
  pub transliterate_means : Means text Basic 65536 (with_table (table_of s1 s2))
  transliterate_means =
      subst (λ table. Means text Basic 65536 (with_table table)) (ap₂ (λ a b. table_of (bytes_of (chars_from 47 false 2 a)) (bytes_of (chars_from 47 false (middle + 1) b))) one_is two_is ∙ ap₂ table_of read_one read_two)
      (means_one text (record { addresses = addresses_of None None; place = 0; verb = Transliterate; argument = argument }) [] (last + 1) (gives_plainly text _ _ item_is)
      (ends_there text (last + 1) no_more) refl (not_quiet 121 (47 ∷ (one ++ 47 ∷ (two ++ 47 ∷ []))) refl))
