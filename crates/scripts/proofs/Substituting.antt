-- `s/RE/text/g`, as it is read.
use Rattle.std.proofs.Common.{◌≡◌, ℕ, suc, ◌+◌, ◌-◌, List, [], ◌∷◌, ◌++◌, length, take, drop, false, true, None, Some, Ok, refl, ap, ap₂, subst, ◌∙◌, arith}
use Rattle.std.specs.Prelude.{◌==◌}
use Rattle.std.proofs.Math.Seq.{drop-append_seam, take-append_seam}
use Rattle.std.proofs.lemmas.Bool.Decides.{nat_tests}
use Rattle.sedre.specs.Brackets.{delimiter_at}
use Rattle.sedre.specs.Tree.{Tree}
use Rattle.sedre.specs.declared.types.Kind.TheVariants.{Basic}
use Rattle.sedscript.specs.declared.bytes.Sort.TheVariants.{Separator, Blank}
use Rattle.sedscript.specs.declared.types.Action.TheVariants as action
use Rattle.sedscript.specs.declared.items.Flags.{Flags}
use Rattle.sedscript.specs.declared.items.ItemOrEnd.{ItemOrEnd}
use Rattle.sedscript.specs.declared.items.Item.{Item}
use Rattle.sedscript.specs.declared.items.Strings.{Strings}
use Rattle.sedscript.specs.declared.items.Argument.{Argument}
use Rattle.sedscript.specs.declared.items.Argument.TheVariants.{FlaggedPair}
use Rattle.sedscript.specs.declared.letters.Verb.TheVariants.{Substitute}
use Rattle.sedscript.specs.declared.substitution.Piece.{Piece}
use Rattle.sedscript.specs.Items.{address_at, addresses_at, addresses_of, function_at, item_at, substitute_at, Reading, plainly, expression, ◌>>=◌, item_of}
use Rattle.sedscript.specs.Arguments.{flags_after, unless_fault, flags_from, no_flags}
use Rattle.sedscript.specs.Letters.{substituted, flagged}
use Rattle.sedscript.specs.Bytes.{bytes_between}
use Rattle.sedscript.specs.Pieces.{PieceGroupsWithin}
use Rattle.sedscript.specs.Strings.{pieces_of, replacement_fault, string_end}
use Rattle.sedscript.specs.Script.{Means}
use Rattle.sedscript.specs.Program.{Program}
use Rattle.examples.specs.WrittenReplacements.{written_pieces}
use Rattle.examples.proofs.ComputedReading.{written}
use Rattle.examples.proofs.WrittenEnds.{replacement_whole}
use Rattle.examples.proofs.WrittenFaults.{replacement_faultless}
use Rattle.examples.proofs.PieceReading.{replacement_read}
use Rattle.scripts.specs.Slashed.{IsSlashed}
use Rattle.examples.proofs.ScriptWords.{always}
use Rattle.scripts.proofs.Meanings.{of_commands}
use Rattle.scripts.proofs.Numbers.{drop_on, past_none, ends_there, means_one, ends_command, not_quiet}
use Rattle.scripts.proofs.Slashes.{pattern, is_read, gives_one, with_expression}

module _ (re : List ℕ) (e : Tree) (groups : ℕ) (is : IsSlashed re e groups) (pieces : List Piece) (nine : PieceGroupsWithin 9 pieces) (has_groups : PieceGroupsWithin groups pieces) where
  abbrev put : List ℕ
  put = written_pieces 47 pieces

  abbrev text : List ℕ
  text = 115 ∷ 47 ∷ (re ++ 47 ∷ (put ++ 47 ∷ 103 ∷ []))

  -- where the second slash and the third are
  abbrev middle : ℕ
  middle = 2 + length re

  abbrev last : ℕ
  last = middle + 1 + length put

  from_middle : drop middle text ≡ 47 ∷ (put ++ 47 ∷ 103 ∷ [])
  from_middle = let place : 2 + length re ≡ suc (suc (length re)) = omega arith in rw place (drop-append_seam re (47 ∷ (put ++ 47 ∷ 103 ∷ [])))

  from_text : drop (middle + 1) text ≡ put ++ 47 ∷ 103 ∷ []
  from_text = drop_on text middle (47 ∷ []) (put ++ 47 ∷ 103 ∷ []) from_middle

  from_last : drop last text ≡ 47 ∷ 103 ∷ []
  from_last = drop_on text (middle + 1) put (47 ∷ 103 ∷ []) from_text

  from_flag : drop (last + 1) text ≡ 103 ∷ []
  from_flag = drop_on text last (47 ∷ []) (103 ∷ []) from_last

  no_more : drop (last + 1 + 1) text ≡ []
  no_more = drop_on text (last + 1) (103 ∷ []) [] from_flag

  abbrev strings : Strings
  strings = record { delimiter = 47; from = 2; middle = middle; to = last }

  not_here : (middle == 2) ≡ false
  not_here = let some = is.some in grind (arith, nat_tests)

  text_ends : string_end true 47 false (middle + 1) (drop (middle + 1) text) ≡ Some last
  text_ends = ap (string_end true 47 false (middle + 1)) from_text ∙ replacement_whole 47 pieces (103 ∷ []) (middle + 1) (λ e. absurd cc) (λ e. absurd cc) (λ e. absurd cc)

  abbrev global : Flags
  global = record { number = None; global = true; print = false; folded = false; file = None }

  flags_are : flags_after text strings false ≡ Ok (global, last + 1 + 1)
  flags_are = let place : suc (last + 1) ≡ last + 1 + 1 = omega arith in ap (flags_from text false no_flags 0 (last + 1)) from_flag ∙ ap (λ k. Ok (global, k)) place

  text_is : bytes_between text (middle + 1) last ≡ put
  text_is = let long : last - (middle + 1) ≡ length put = omega arith in ap₂ (λ k bs. take k bs) long from_text ∙ take-append_seam put (47 ∷ 103 ∷ [])

  re_is : bytes_between text 2 middle ≡ re
  re_is = let long : middle - 2 ≡ length re = omega arith in ap (λ k. take k (re ++ 47 ∷ (put ++ 47 ∷ 103 ∷ []))) long ∙ take-append_seam re (47 ∷ (put ++ 47 ∷ 103 ∷ []))

  abbrev argument : Argument
  argument = FlaggedPair strings (Some 0) global

  flagged_is : flagged text strings (Some 0) ≡ Ok (argument, last + 1 + 1)
  flagged_is = rw flags_are (ends_command text (last + 1 + 1) argument no_more)

  substituted_is : substituted text strings (Some 0) (Some groups) ≡ Ok (argument, last + 1 + 1)
  unfolding substituted
  substituted_is =
      ap (λ bs. unless_fault (replacement_fault 47 (Some groups) false (middle + 1) bs) (flagged text strings (Some 0))) text_is
      ∙ ap (λ f. unless_fault f (flagged text strings (Some 0))) (replacement_faultless 47 groups pieces (middle + 1) nine has_groups) ∙ flagged_is

  substitute_is : substitute_at text 0 0 ≡ expression (pattern 2 middle) (λ groups. plainly (substituted text strings (Some 0) (Some groups)))
  unfolding substitute_at delimiter_at
  substitute_is = rw (is.ends 2 (put ++ 47 ∷ 103 ∷ []), text_ends, not_here, flags_are) refl

  abbrev with_item : Reading (Argument × ℕ) → Reading ItemOrEnd
  with_item r = r >>= λ found. plainly (Ok (item_of (addresses_of None None) 0 Substitute found))

  item_is : item_at text 0 0 ≡ with_item (expression (pattern 2 middle) (λ groups. plainly (substituted text strings (Some 0) (Some groups))))
  unfolding item_at addresses_at address_at function_at
  item_is =
      rw (past_none Separator text 0 115 (47 ∷ (re ++ 47 ∷ (put ++ 47 ∷ 103 ∷ []))) refl refl, past_none Blank text 0 115 (47 ∷ (re ++ 47 ∷ (put ++ 47 ∷ 103 ∷ []))) refl refl)
      (ap with_item substitute_is)

  abbrev whole_item : Item
  whole_item = record { addresses = addresses_of None None; place = 0; verb = Substitute; argument = argument }

  -- the script of one substitution
  abbrev pub substitutes : List Piece → Program
  substitutes ps = with_expression (written e groups) (record (of_commands (always (action.Substitute 0) ∷ []) []) {
    substitutions = record { expression = Some 0; replacement = ps; number = 1; global = true; print = false; file = None } ∷ [];
  })

  -- `s/RE/text/g`
  pub substitute_means : Means text Basic 65536 (substitutes pieces)
  substitute_means =
      subst (λ ps. Means text Basic 65536 (substitutes ps)) (ap (pieces_of 47) text_is ∙ replacement_read 47 pieces (λ low high. absurd (omega arith)) nine)
      (means_one text whole_item (written e groups ∷ []) (last + 1 + 1)
      (gives_one text (written e groups) (pattern 2 middle) whole_item (last + 1 + 1) _ (is_read text re e groups 2 middle is re_is) item_is (ap (λ r. with_item (plainly r)) substituted_is))
      (ends_there text (last + 1 + 1) no_more) refl (not_quiet 115 (47 ∷ (re ++ 47 ∷ (put ++ 47 ∷ 103 ∷ []))) refl))
