-- Commands with an expression between slashes, as they are read.
use Rattle.std.proofs.Common.{◌≡◌, ℕ, suc, ◌+◌, ◌-◌, List, [], ◌∷◌, ◌++◌, length, take, drop, Bool, false, true, None, Some, Ok, refl, sym, ap, subst, ◌∙◌, arith}
use Rattle.std.specs.Prelude.{slice_get, ◌==◌}
use Rattle.std.specs.List.{prefix_len}
use Rattle.std.proofs.Math.Seq.{drop-append_seam, take-append_seam}
use Rattle.std.proofs.lemmas.Bool.Decides.{nat_tests}
use Rattle.sedre.specs.Tree.{WrittenExpression, Tree}
use Rattle.sedre.specs.Brackets.{delimiter_at}
use Rattle.sedre.specs.declared.types.Kind.TheVariants.{Basic}
use Rattle.sedscript.specs.declared.bytes.Sort.TheVariants.{Blank, Separator, Bang}
use Rattle.sedscript.specs.declared.types.Address.TheVariants.{Match}
use Rattle.sedscript.specs.declared.types.Action.TheVariants as action
use Rattle.sedscript.specs.declared.types.Simple.TheVariants as simple
use Rattle.sedscript.specs.declared.items.ItemOrEnd.{ItemOrEnd}
use Rattle.sedscript.specs.declared.items.ItemOrEnd.TheVariants.{Is}
use Rattle.sedscript.specs.declared.items.Item.{Item}
use Rattle.sedscript.specs.declared.letters.Verb.TheVariants.{Plain}
use Rattle.sedscript.specs.declared.items.Argument.TheVariants.{Nothing}
use Rattle.sedscript.specs.declared.types.Simple.{Simple}
use Rattle.sedscript.specs.declared.types.Simple.TheVariants.{Print, Delete}
use Rattle.sedscript.specs.Items.{address_found, address_at, addresses_at, addresses_of, after_first, with_addresses, match_at, with_bang, function_at, item_at, PatternExtent, Reading, plainly, expression, ◌>>=◌, function_after, item_with, item_of}
use Rattle.sedscript.specs.Bytes.{past, bytes_between, is_blank, belongs}
use Rattle.sedscript.specs.Script.{IsRead, Gives, value, after_expression, Means}
use Rattle.sedscript.specs.Program.{Program}
use Rattle.examples.proofs.ComputedReading.{written, tree_of_written, nodes_of_written, no_fault_within}
use Rattle.scripts.specs.Slashed.{IsSlashed}
use Rattle.examples.proofs.ScriptWords.{at, unless}
use Rattle.scripts.proofs.Meanings.{of_commands}
use Rattle.scripts.proofs.Numbers.{byte_there, drop_on, past_none, ends_there, means_one, no_comma, no_bang, ends_command, not_quiet}

-- an expression between two places of a script
abbrev pub pattern : ℕ → ℕ → PatternExtent
pattern from to = record { from = from; to = to; delimiter = 47; folded = false }

pub is_read : (text re : List ℕ) (e : Tree) (groups from to : ℕ) → IsSlashed re e groups → bytes_between text from to ≡ re → IsRead text Basic 65536 (pattern from to) (written e groups)
is_read text re e groups from to is same = record {
  reads = rw (same, tree_of_written e groups) is.reads;
  no_fault = rw same (no_fault_within Basic false (Some 47) re 65536 {t = e} {groups = groups} (is.reads, is.shallow, is.small));
  fits = rw (nodes_of_written e) is.small;
}

-- `/RE/` at the beginning of a text
module _ (re : List ℕ) (e : Tree) (groups : ℕ) (is : IsSlashed re e groups) (b : ℕ) (rest : List ℕ) (other : (b == 73) ≡ false) (plain : (b == 44) ≡ false) (dark : is_blank b ≡ false) where
  abbrev text : List ℕ
  text = 47 ∷ (re ++ 47 ∷ b ∷ rest)

  -- where the second slash is, and the place behind it
  abbrev slash : ℕ
  slash = 1 + length re

  from_slash : drop slash text ≡ 47 ∷ b ∷ rest
  from_slash = let place : 1 + length re ≡ suc (length re) = omega arith in rw place (drop-append_seam re (47 ∷ b ∷ rest))

  pub behind_slash : drop (slash + 1) text ≡ b ∷ rest
  behind_slash = drop_on text slash (47 ∷ []) (b ∷ rest) from_slash

  between_slashes : bytes_between text 1 slash ≡ re
  between_slashes = let long : slash - 1 ≡ length re = omega arith in ap (λ k. take k (re ++ 47 ∷ b ∷ rest)) long ∙ take-append_seam re (47 ∷ b ∷ rest)

  pub read_there : IsRead text Basic 65536 (pattern 1 slash) (written e groups)
  read_there = is_read text re e groups 1 slash is between_slashes

  not_empty : (slash == 1) ≡ false
  not_empty = let some = is.some in grind (arith, nat_tests)

  abbrev matched : Reading ItemOrEnd
  matched = after_first text 1 (slash + 1) (Some (Match (Some 0))) >>= function_after text

  slashed_address : address_at text 0 0 ≡ expression (pattern 1 slash) (λ groups. plainly (address_found (Some (Match (Some 0))) (slash + 1) 1))
  unfolding address_at match_at delimiter_at
  slashed_address = rw (is.ends 1 (b ∷ rest), not_empty, byte_there text (slash + 1) b rest behind_slash, other) refl

  pub slashed_item : item_at text 0 0 ≡ expression (pattern 1 slash) (λ groups. plainly (with_addresses (Some (Match (Some 0))) None (slash + 1) 1) >>= function_after text)
  unfolding item_at addresses_at
  slashed_item =
      rw (past_none Separator text 0 47 (re ++ 47 ∷ b ∷ rest) refl refl)
      (ap (λ r. (r >>= λ x. after_first text x.count x.at x.address) >>= function_after text) slashed_address
      ∙ ap (λ r. expression (pattern 1 slash) (λ groups. r >>= function_after text)) (no_comma text 1 (slash + 1) b rest (Match (Some 0)) behind_slash dark plain))

-- `d` at the end of a text, after one address, and `!p`
abbrev one_address : Bool → ℕ → Simple → Item
one_address negate place s = record { addresses = record { first = Some (Match (Some 0)); second = None; negate = negate }; place = place; verb = Plain s; argument = Nothing }

module _ (text : List ℕ) (at count : ℕ) where
  deletes_there : drop at text ≡ 100 ∷ [] → plainly (with_addresses (Some (Match (Some 0))) None at count) >>= function_after text ≡ plainly (Ok (Is (one_address false at Delete) (at + 1)))
  unfolding function_at
  deletes_there e =
      ap (λ h. item_with text count h.addresses h.at (slice_get text h.at)) (no_bang text at count 100 (Some (Match (Some 0))) None e refl refl)
      ∙ ap (item_with text count (addresses_of (Some (Match (Some 0))) None) at) (byte_there text at 100 [] e)
      ∙ ap (λ r. plainly r >>= λ found. plainly (Ok (item_of (addresses_of (Some (Match (Some 0))) None) at (Plain Delete) found))) (ends_command text (at + 1) Nothing (drop_on text at (100 ∷ []) [] e))

  bang_passed : drop at text ≡ 33 ∷ 112 ∷ [] → past Bang text at ≡ at + 1
  unfolding past
  bang_passed e = ap (λ bs. at + prefix_len (belongs Bang) bs) e

  bang_there : drop at text ≡ 33 ∷ 112 ∷ [] → with_bang text (record { addresses = addresses_of (Some (Match (Some 0))) None; at = at; count = count })
      ≡ record { addresses = record { first = Some (Match (Some 0)); second = None; negate = true }; at = at + 1; count = count }
  bang_there e = rw (past_none Blank text at 33 (112 ∷ []) e refl, byte_there text at 33 (112 ∷ []) e, bang_passed e) refl

  prints_there : drop at text ≡ 33 ∷ 112 ∷ [] → plainly (with_addresses (Some (Match (Some 0))) None at count) >>= function_after text ≡ plainly (Ok (Is (one_address true (at + 1) Print) (at + 1 + 1)))
  unfolding function_at
  prints_there e =
      let there : drop (at + 1) text ≡ 112 ∷ [] = drop_on text at (33 ∷ []) (112 ∷ []) e in
      ap (λ h. item_with text count h.addresses h.at (slice_get text h.at)) (bang_there e)
      ∙ ap (item_with text count (record { first = Some (Match (Some 0)); second = None; negate = true }) (at + 1)) (byte_there text (at + 1) 112 [] there)
      ∙ ap (λ r. plainly r >>= λ found. plainly (Ok (item_of (record { first = Some (Match (Some 0)); second = None; negate = true }) (at + 1) (Plain Print) found))) (ends_command text (at + 1 + 1) Nothing (drop_on text (at + 1) (112 ∷ []) [] there))

-- a script of these commands with one expression
abbrev pub with_expression : WrittenExpression → Program → Program
with_expression e p = record p { expressions = e ∷ [] }

pub gives_one : (text : List ℕ) (e : WrittenExpression) (p : PatternExtent) (i : Item) (to : ℕ) (k : ℕ → Reading ItemOrEnd) → IsRead text Basic 65536 p e → item_at text 0 0 ≡ expression p k → k e.groups ≡ plainly (Ok (Is i to)) →
    Gives text Basic 65536 (item_at text 0 0) (e ∷ []) (Is i to)
gives_one text e p i to k is same last =
    subst (λ r. Gives text Basic 65536 r (e ∷ []) (Is i to)) (sym same) (after_expression e is (subst (λ r. Gives text Basic 65536 r [] (Is i to)) (sym last) value))

module _ (re : List ℕ) (e : Tree) (groups : ℕ) (is : IsSlashed re e groups) where
  -- `/RE/d`
  pub delete_means : Means (47 ∷ (re ++ 47 ∷ 100 ∷ [])) Basic 65536 (with_expression (written e groups) (of_commands (at (Match (Some 0)) (action.Plain simple.Delete) ∷ []) []))
  delete_means =
      let text : List ℕ = 47 ∷ (re ++ 47 ∷ 100 ∷ []) in
      let at : ℕ = 1 + length re + 1 in
      let there = behind_slash re e groups is 100 [] refl refl refl in
      let here = deletes_there text at 1 there in
      means_one text (one_address false at Delete) (written e groups ∷ []) (at + 1)
      (gives_one text (written e groups) (pattern 1 (1 + length re)) (one_address false at Delete) (at + 1) _ (read_there re e groups is 100 [] refl refl refl) (slashed_item re e groups is 100 [] refl refl refl) here)
      (ends_there text (at + 1) (drop_on text at (100 ∷ []) [] there)) refl (not_quiet 47 (re ++ 47 ∷ 100 ∷ []) refl)

  -- `/RE/!p`
  pub print_means : Means (47 ∷ (re ++ 47 ∷ 33 ∷ 112 ∷ [])) Basic 65536 (with_expression (written e groups) (of_commands (unless (at (Match (Some 0)) (action.Plain simple.Print)) ∷ []) []))
  print_means =
      let text : List ℕ = 47 ∷ (re ++ 47 ∷ 33 ∷ 112 ∷ []) in
      let at : ℕ = 1 + length re + 1 in
      let there = behind_slash re e groups is 33 (112 ∷ []) refl refl refl in
      let here = prints_there text at 1 there in
      means_one text (one_address true (at + 1) Print) (written e groups ∷ []) (at + 1 + 1)
      (gives_one text (written e groups) (pattern 1 (1 + length re)) (one_address true (at + 1) Print) (at + 1 + 1) _ (read_there re e groups is 33 (112 ∷ []) refl refl refl) (slashed_item re e groups is 33 (112 ∷ []) refl refl refl) here)
      (ends_there text (at + 1 + 1) (drop_on text (at + 1) (112 ∷ []) [] (drop_on text at (33 ∷ []) (112 ∷ []) there))) refl (not_quiet 47 (re ++ 47 ∷ 33 ∷ 112 ∷ []) refl)
