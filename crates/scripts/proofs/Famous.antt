-- The laws of the famous scripts.
use Rattle.std.proofs.Common.{◌≡◌, ◌≢◌, ◌⊎◌, inl, inr, ap₂, append-nil, append_assoc, ℕ, zero, suc, ◌+◌, ◌-◌, ◌^◌, ◌<◌, List, [], ◌∷◌, ◌++◌, length, map, take, drop, Bool, true, false, not, None, Some, refl, sym, ap, subst, ◌∙◌, arith}
use Rattle.std.specs.Prelude.{codes, decimal, reverse, option_map}
use Rattle.std.specs.List.{filter, flat_map}
use Rattle.sedre.specs.Tree.{WrittenExpression, expression_tree, Tree}
use Rattle.sedre.specs.declared.types.Kind.TheVariants.{Basic}
use Rattle.sedscript.specs.declared.types.Action.TheVariants as action
use Rattle.sedscript.specs.declared.types.Simple.TheVariants as simple
use Rattle.sedscript.specs.declared.types.BranchUse.TheVariants.{Always}
use Rattle.sedscript.specs.declared.types.FileUse.TheVariants.{Write}
use Rattle.sedscript.specs.declared.types.Address.TheVariants.{Line, Last, Match}
use Rattle.sedscript.specs.declared.substitution.Piece.{Piece}
use Rattle.sedscript.specs.Items.{address_at, match_at, second_at, addresses_at, function_at, item_at, substitute_at}
use Rattle.sedscript.specs.Bytes.{past}
use Rattle.sedscript.specs.Arguments.{name_from, text_from}
use Rattle.sedscript.specs.Pieces.{PieceGroupsWithin}
use Rattle.sedscript.specs.Script.{Means}
use Rattle.sedscript.specs.Program.{Program}
use Rattle.sedspace.specs.Lines.{split_lines, is_newline}
use Rattle.sedengine.specs.Move.{line_to, newline, start, to_sink}
use Rattle.std.specs.List.{list_any}
use Rattle.std.proofs.lemmas.Bool.{eqb-true}
use Rattle.sedmatch.specs.Matching.{leftmost_longest, reported_groups}
use Rattle.sedengine.specs.Ends.{bytes_of_sink}
use Rattle.sedengine.specs.Substitute.{Occurrence}
use Rattle.sedengine.proofs.Gains.{part-append, part-same, part-other}
use Rattle.sedengine.specs.State.{finds_in, search_in, occurrence_at_span}
use Rattle.sedengine.specs.Substitute.{each_occurrence, replaced_from}
use Rattle.std.proofs.Math.Path.{fun_ext}
use Rattle.sedre.specs.Brackets.{delimiter_at}
use Rattle.sedre.specs.Tokens.{front_interval, token_at}
use Rattle.sedre.specs.Sets.{set_of}
use Rattle.sedscript.specs.Letters.{substituted}
use Rattle.sedscript.specs.declared.substitution.Piece.TheVariants.{Literal}
use Rattle.examples.specs.WrittenReplacements.{written_pieces}
use Rattle.examples.proofs.ComputedReading.{outcome, rest_of, written, tree_of_written}
use Rattle.examples.proofs.ComputedScript.{verdict, cutting, walked}
use Rattle.examples.proofs.ScriptWords.{always, at, from_to, unless}
use Rattle.sededit.specs.Editing.{IsOutput}
use Rattle.scripts.specs.Edited.{EditsInto, text_of, EditsIntoLines}
use Rattle.scripts.specs.Slashed.{IsSlashed}
use Rattle.scripts.specs.Words.{by_table, numbered_lines, odd_ones, replaced, has_none, in_one, y_of}
use Rattle.scripts.proofs.Meanings.{of_commands, meant}
use Rattle.scripts.proofs.Numbers.{quit_means, cut_means}
use Rattle.scripts.proofs.Slashes.{with_expression, delete_means, print_means}
use Rattle.scripts.proofs.Plain.{empty_run, quiet_run, twice_run, once_run, number_run, delete_run, print_run, quit_run, cut_run, half_run, tee_run, twofold}
use Rattle.scripts.proofs.Holding.{turned_run, pair_run}
use Rattle.scripts.proofs.Finding.{bytes_run, deletes_run, prints_run, replaces_by, replaces_run, replacing, with_replaced}
use Rattle.sedscript.specs.Strings.{table_of}
use Rattle.examples.specs.Strings.{NoneTwice}
use Rattle.scripts.proofs.Transliterating.{with_table, transliterate_means}
use Rattle.scripts.proofs.Once.{once_of}
use Rattle.scripts.proofs.Joining.{SeeksNewlines, joins_run}
use Rattle.scripts.proofs.Newlines.{newline_alone, none_found, next_found}
use Rattle.scripts.proofs.Substituting.{substitutes, substitute_means}
use Rattle.scripts.proofs.LineLaws.{NoneBroken, lines_none_broken}
use Rattle.scripts.proofs.Cycles.{ends_there}
use Rattle.scripts.proofs.Links.{OneMeaning, sends, one_alone, setting, sought}

-- ---- what the texts mean

empty_means : Means (codes "") Basic 65536 (of_commands [] [])
unfolding verdict cutting walked item_at past function_at addresses_at address_at second_at text_from name_from
empty_means = meant _ _ refl

print_means' : Means (codes "p") Basic 65536 (of_commands (always (action.Plain simple.Print) ∷ []) [])
unfolding verdict cutting walked item_at past function_at addresses_at address_at second_at text_from name_from
print_means' = meant _ _ refl

number_means : Means (codes "=") Basic 65536 (of_commands (always (action.Plain simple.LineNumber) ∷ []) [])
unfolding verdict cutting walked item_at past function_at addresses_at address_at second_at text_from name_from
number_means = meant _ _ refl

not_last_means : Means (codes "$!d") Basic 65536 (of_commands (unless (at Last (action.Plain simple.Delete)) ∷ []) [])
unfolding verdict cutting walked item_at past function_at addresses_at address_at second_at text_from name_from
not_last_means = meant _ _ refl

last_means : Means (codes "$p") Basic 65536 (of_commands (at Last (action.Plain simple.Print) ∷ []) [])
unfolding verdict cutting walked item_at past function_at addresses_at address_at second_at text_from name_from
last_means = meant _ _ refl

half_means : Means (codes "n;d") Basic 65536 (of_commands (always (action.Plain simple.NextLine) ∷ always (action.Plain simple.Delete) ∷ []) [])
unfolding verdict cutting walked item_at past function_at addresses_at address_at second_at text_from name_from
half_means = meant _ _ refl

abbrev pub turned_program : Program
turned_program = of_commands (unless (at (Line 1) (action.Plain simple.AppendHold)) ∷ always (action.Plain simple.Hold) ∷ unless (at Last (action.Plain simple.Delete)) ∷ []) []

pub turned_means : Means (codes "1!G;h;$!d") Basic 65536 turned_program
unfolding verdict cutting walked item_at past function_at addresses_at address_at second_at text_from name_from
turned_means = meant _ _ refl

pairs_means : Means (codes "$!N;P;D") Basic 65536 (of_commands (unless (at Last (action.Plain simple.AppendNext)) ∷ always (action.Plain simple.PrintFirst) ∷ always (action.Plain simple.DeleteFirst) ∷ []) [])
unfolding verdict cutting walked item_at past function_at addresses_at address_at second_at text_from name_from
pairs_means = meant _ _ refl

file_means : Means (codes "w f") Basic 65536 (of_commands (always (action.File Write 1) ∷ []) (codes "f" ∷ []))
unfolding verdict cutting walked item_at past function_at addresses_at address_at second_at text_from name_from
file_means = meant _ _ refl

-- ---- the laws

module _ (one : OneMeaning) where
  pub empty_law : (input : List ℕ) → EditsIntoLines false (codes "") input (split_lines input) × EditsIntoLines true (codes "") input []
  empty_law input = (
    sends one false (codes "") input (to_sink 0 (text_of (split_lines input))) (of_commands [] []) empty_means (λ es files same. empty_run (finds_in es) (search_in es) files (split_lines input) 0 0),
    sends one true (codes "") input [] (of_commands [] []) empty_means (λ es files same. quiet_run (finds_in es) (search_in es) files (split_lines input) 0 0),
  )

  pub print_law : (input : List ℕ) → EditsIntoLines false (codes "p") input (flat_map (λ line. line ∷ line ∷ []) (split_lines input)) × EditsIntoLines true (codes "p") input (split_lines input)
  print_law input = (
    sends one false (codes "p") input (to_sink 0 (text_of (flat_map (λ line. line ∷ line ∷ []) (split_lines input)))) (of_commands (always (action.Plain simple.Print) ∷ []) []) print_means' (λ es files same. twice_run (finds_in es) (search_in es) files (split_lines input) 0 0),
    sends one true (codes "p") input (to_sink 0 (text_of (split_lines input))) (of_commands (always (action.Plain simple.Print) ∷ []) []) print_means' (λ es files same. once_run (finds_in es) (search_in es) files (split_lines input) 0 0),
  )

  pub number_law : (input : List ℕ) → EditsIntoLines false (codes "=") input (numbered_lines 1 (split_lines input))
  number_law input = sends one false (codes "=") input (to_sink 0 (text_of (numbered_lines 1 (split_lines input)))) (of_commands (always (action.Plain simple.LineNumber) ∷ []) []) number_means (λ es files same. number_run (finds_in es) (search_in es) files (split_lines input) 0 0)

  pub last_law : (input : List ℕ) → EditsIntoLines false (codes "$!d") input (drop (length (split_lines input) - 1) (split_lines input)) × EditsIntoLines true (codes "$p") input (drop (length (split_lines input) - 1) (split_lines input))
  last_law input = (
    sends one false (codes "$!d") input (to_sink 0 (text_of (drop (length (split_lines input) - 1) (split_lines input)))) (of_commands (unless (at Last (action.Plain simple.Delete)) ∷ []) []) not_last_means (λ es files same. delete_run (finds_in es) (search_in es) files (split_lines input) 0 0),
    sends one true (codes "$p") input (to_sink 0 (text_of (drop (length (split_lines input) - 1) (split_lines input)))) (of_commands (at Last (action.Plain simple.Print) ∷ []) []) last_means (λ es files same. print_run (finds_in es) (search_in es) files (split_lines input) 0 0),
  )

  pub half_law : (input : List ℕ) → EditsIntoLines false (codes "n;d") input (odd_ones (split_lines input))
  half_law input = sends one false (codes "n;d") input (to_sink 0 (text_of (odd_ones (split_lines input)))) (of_commands (always (action.Plain simple.NextLine) ∷ always (action.Plain simple.Delete) ∷ []) []) half_means (λ es files same. half_run (finds_in es) (search_in es) files (split_lines input) 0 0)

  pub turned_law : (input : List ℕ) → EditsIntoLines false (codes "1!G;h;$!d") input (reverse (split_lines input))
  turned_law input = sends one false (codes "1!G;h;$!d") input (to_sink 0 (text_of (reverse (split_lines input)))) (of_commands (unless (at (Line 1) (action.Plain simple.AppendHold)) ∷ always (action.Plain simple.Hold) ∷ unless (at Last (action.Plain simple.Delete)) ∷ []) []) turned_means (λ es files same. turned_run (finds_in es) (search_in es) files (split_lines input))

  pub pairs_law : (input : List ℕ) → EditsIntoLines false (codes "$!N;P;D") input (split_lines input)
  pairs_law input = sends one false (codes "$!N;P;D") input (to_sink 0 (text_of (split_lines input))) (of_commands (unless (at Last (action.Plain simple.AppendNext)) ∷ always (action.Plain simple.PrintFirst) ∷ always (action.Plain simple.DeleteFirst) ∷ []) []) pairs_means (λ es files same. pair_run (finds_in es) (search_in es) files (split_lines input) (lines_none_broken input))

  -- ---- numbers

  first_run : (n : ℕ) (input : List ℕ) → suc n < 2 ^ 64 → EditsIntoLines false (decimal (suc n) ++ codes "q") input (take (suc n) (split_lines input))
  first_run n input h = sends one false (decimal (suc n) ++ codes "q") input (to_sink 0 (text_of (take (suc n) (split_lines input)))) (of_commands (at (Line (suc n)) (action.Plain simple.Quit) ∷ []) []) (quit_means n h)
      (λ es files same. quit_run (finds_in es) (search_in es) files (suc n) n (split_lines input) 0 0 (omega arith))

  pub first_law : (n : ℕ) (input : List ℕ) → 0 < n → n < 2 ^ 64 → EditsIntoLines false (decimal n ++ codes "q") input (take n (split_lines input))
  first_law zero input some h = absurd (omega arith)
  first_law (suc n) input some h = first_run n input h

  cut_out : (n m : ℕ) (input : List ℕ) → n < m → suc n < 2 ^ 64 → suc m < 2 ^ 64 → EditsIntoLines false (decimal (suc n) ++ (codes "," ++ (decimal (suc m) ++ codes "d"))) input (take n (split_lines input) ++ drop (suc m) (split_lines input))
  cut_out n m input less h k =
      sends one false (decimal (suc n) ++ (codes "," ++ (decimal (suc m) ++ codes "d"))) input (to_sink 0 (text_of (take n (split_lines input) ++ drop (suc m) (split_lines input)))) (of_commands (from_to (Line (suc n)) (Line (suc m)) (action.Plain simple.Delete) ∷ []) []) (cut_means n m h k)
      (λ es files same. cut_run (finds_in es) (search_in es) files (suc n) (suc m) n m (split_lines input) 0 0 (omega arith) (omega arith) less)

  pub cut_law : (n m : ℕ) (input : List ℕ) → 0 < n → n < m → m < 2 ^ 64 → EditsIntoLines false (decimal n ++ (codes "," ++ (decimal m ++ codes "d"))) input (take (n - 1) (split_lines input) ++ drop m (split_lines input))
  cut_law zero m input some less h = absurd (omega arith)
  cut_law (suc n) zero input some less h = absurd (omega arith)
  cut_law (suc n) (suc m) input some less h =
      let before : suc n - 1 ≡ n = omega arith in
      subst (λ k. EditsIntoLines false (decimal (suc n) ++ (codes "," ++ (decimal (suc m) ++ codes "d"))) input (take k (split_lines input) ++ drop (suc m) (split_lines input))) (sym before) (cut_out n m input (omega arith) (omega arith) h)

  -- ---- expressions

  filtered : (t : Tree) (e : WrittenExpression) → expression_tree e ≡ t → (ls : List (List ℕ)) → filter (λ line. not (finds_in (e ∷ []) 0 line)) ls ≡ filter (has_none t) ls
  filtered t e same ls = ap (λ t. filter (has_none t) ls) same

  pub without_law : (re : List ℕ) (t : Tree) (groups : ℕ) (input : List ℕ) → IsSlashed re t groups →
      EditsIntoLines false (codes "/" ++ (re ++ codes "/d")) input (filter (has_none t) (split_lines input)) × EditsIntoLines true (codes "/" ++ (re ++ codes "/!p")) input (filter (has_none t) (split_lines input))
  without_law re t groups input is =
      let deletes = with_expression (written t groups) (of_commands (at (Match (Some 0)) (action.Plain simple.Delete) ∷ []) []) in
      let prints = with_expression (written t groups) (of_commands (unless (at (Match (Some 0)) (action.Plain simple.Print)) ∷ []) []) in (
        sends one false (codes "/" ++ (re ++ codes "/d")) input (to_sink 0 (text_of (filter (has_none t) (split_lines input)))) deletes (delete_means re t groups is)
            (λ es files same.
            let e = one_alone t es (ap (λ t. t ∷ []) (sym (tree_of_written t groups)) ∙ same) in
            subst (λ es. IsOutput (setting deletes.commands [] [] [] false es files) (start deletes.commands (split_lines input)) (to_sink 0 (text_of (filter (has_none t) (split_lines input))))) (sym e.1)
            (subst (λ ls. IsOutput (setting deletes.commands [] [] [] false (e.0 ∷ []) files) (start deletes.commands (split_lines input)) (to_sink 0 (text_of ls))) (filtered t e.0 e.2 (split_lines input)) (deletes_run (finds_in (e.0 ∷ [])) (search_in (e.0 ∷ [])) files (split_lines input) 0 (false, None, 0)))),
        sends one true (codes "/" ++ (re ++ codes "/!p")) input (to_sink 0 (text_of (filter (has_none t) (split_lines input)))) prints (print_means re t groups is)
            (λ es files same.
            let e = one_alone t es (ap (λ t. t ∷ []) (sym (tree_of_written t groups)) ∙ same) in
            subst (λ es. IsOutput (setting prints.commands [] [] [] true es files) (start prints.commands (split_lines input)) (to_sink 0 (text_of (filter (has_none t) (split_lines input))))) (sym e.1)
            (subst (λ ls. IsOutput (setting prints.commands [] [] [] true (e.0 ∷ []) files) (start prints.commands (split_lines input)) (to_sink 0 (text_of ls))) (filtered t e.0 e.2 (split_lines input)) (prints_run (finds_in (e.0 ∷ [])) (search_in (e.0 ∷ [])) files (split_lines input) 0 (false, None, 0)))),
      )

  replaced_run : (t : Tree) (pieces : List Piece) (e : WrittenExpression) → expression_tree e ≡ t → (files : ℕ → List ℕ) (ls : List (List ℕ)) →
      IsOutput (replaces_by (finds_in (e ∷ [])) (search_in (e ∷ [])) files 1 true pieces) (start (always (action.Substitute 0) ∷ []) ls) (to_sink 0 (text_of (map (replaced t pieces) ls)))
  replaced_run t pieces e same files ls =
      let alike : (w : List ℕ) → with_replaced (finds_in (e ∷ [])) (search_in (e ∷ [])) files 1 true pieces w ≡ replaced t pieces w = λ w. ap (λ f. replaced_from w pieces 0 (each_occurrence f (length w))) (sought t e same w) in
      subst (λ f. IsOutput (replaces_by (finds_in (e ∷ [])) (search_in (e ∷ [])) files 1 true pieces) (start (always (action.Substitute 0) ∷ []) ls) (to_sink 0 (text_of (map f ls)))) (fun_ext alike)
      (replaces_run (finds_in (e ∷ [])) (search_in (e ∷ [])) files 1 true pieces ls 0 (false, None, 0))

  pub replaced_law : (re : List ℕ) (t : Tree) (groups : ℕ) (pieces : List Piece) (input : List ℕ) → IsSlashed re t groups → PieceGroupsWithin 9 pieces → PieceGroupsWithin groups pieces →
      EditsIntoLines false (codes "s/" ++ (re ++ (codes "/" ++ (written_pieces 47 pieces ++ codes "/g")))) input (map (replaced t pieces) (split_lines input))
  replaced_law re t groups pieces input is nine have =
      let text : List ℕ = codes "s/" ++ (re ++ (codes "/" ++ (written_pieces 47 pieces ++ codes "/g"))) in
      let out : List (ℕ × ℕ) = to_sink 0 (text_of (map (replaced t pieces) (split_lines input))) in
      let p : Program = substitutes re t groups is pieces nine have pieces in
      sends one false text input out p (substitute_means re t groups is pieces nine have)
      (λ es files same.
      let e = one_alone t es (ap (λ t. t ∷ []) (sym (tree_of_written t groups)) ∙ same) in
      subst (λ es. IsOutput (setting p.commands [] p.substitutions [] false es files) (start p.commands (split_lines input)) out) (sym e.1) (replaced_run t pieces e.0 e.2 files (split_lines input)))

  -- ---- `:a;$!{N;ba;};s/\n/,/g`

  abbrev joining : Program
  joining = with_expression (written newline_alone 0) (record (of_commands (unless (at Last (action.Block 3)) ∷ always (action.Plain simple.AppendNext) ∷ always (action.Branch Always 0) ∷ always (action.Substitute 0) ∷ []) []) {
    substitutions = replacing 1 true (Literal 44 ∷ []) ∷ [];
  })

  joining_means : Means (codes ":a;$!{N;ba;};s/\\n/,/g") Basic 65536 joining
  unfolding verdict cutting walked item_at past function_at addresses_at address_at second_at text_from name_from match_at substitute_at substituted delimiter_at outcome rest_of token_at front_interval set_of
  joining_means = meant _ _ refl

  first_newline : (left : List ℕ) → (list_any is_newline left ≡ false) ⊎ ((before : List ℕ) × (behind : List ℕ) × (left ≡ before ++ 10 ∷ behind) × (list_any is_newline before ≡ false))
  first_newline [] = inl refl
  first_newline (b ∷ bs) = by_test (is_newline b) refl (first_newline bs)
    where
      by_test : (t : Bool) → is_newline b ≡ t → (list_any is_newline bs ≡ false) ⊎ ((before : List ℕ) × (behind : List ℕ) × (bs ≡ before ++ 10 ∷ behind) × (list_any is_newline before ≡ false)) →
          (list_any is_newline (b ∷ bs) ≡ false) ⊎ ((before : List ℕ) × (behind : List ℕ) × (b ∷ bs ≡ before ++ 10 ∷ behind) × (list_any is_newline before ≡ false))
      by_test true e rest = inr ([], bs, ap (λ c. c ∷ bs) (eqb-true b 10 e), refl)
      by_test false e (inl h) = inl (rw e h)
      by_test false e (inr h) = inr (b ∷ h.0, h.1, ap (λ (x : List ℕ). b ∷ x) h.2, rw e h.3)

  seeks_newlines : (e : WrittenExpression) → expression_tree e ≡ newline_alone → SeeksNewlines (search_in (e ∷ []))
  seeks_newlines e same passed left = elim (first_newline left) [
    | inl h ↦ inl (h, ap (λ t. option_map (occurrence_at_span e (passed ++ left)) (leftmost_longest t (passed ++ left) (length passed))) same ∙ ap (option_map (occurrence_at_span e (passed ++ left))) (none_found passed left h))
    | inr h ↦
        let w : List ℕ = passed ++ left in
        let i : ℕ = length passed + length h.0 in
        let m : Occurrence = record { start = i; end = i + 1; groups = reported_groups (expression_tree e) w i (i + 1) } in
        let there : leftmost_longest newline_alone w (length passed) ≡ Some (i, i + 1) = rw h.2 (next_found passed h.0 h.1 h.3) in
        inr (h.0, h.1, m, h.2, h.3, ap (λ t. option_map (occurrence_at_span e w) (leftmost_longest t w (length passed))) same ∙ ap (option_map (occurrence_at_span e w)) there, refl, refl)
  ]

  joins_any : (e : WrittenExpression) → expression_tree e ≡ newline_alone → (files : ℕ → List ℕ) (ls : List (List ℕ)) → NoneBroken ls →
      IsOutput (setting joining.commands [] joining.substitutions [] false (e ∷ []) files) (start joining.commands ls) (to_sink 0 (text_of (in_one ls)))
  joins_any e same files [] none = ends_there (setting joining.commands [] joining.substitutions [] false (e ∷ []) files) 0 [] false (false ∷ false ∷ false ∷ false ∷ []) None 0
  joins_any e same files (line ∷ rest) none = joins_run (search_in (e ∷ [])) (seeks_newlines e same) (finds_in (e ∷ [])) files line rest none

  pub joined_law : (input : List ℕ) → EditsIntoLines false (codes ":a;$!{N;ba;};s/\\n/,/g") input (in_one (split_lines input))
  joined_law input =
      let out : List (ℕ × ℕ) = to_sink 0 (text_of (in_one (split_lines input))) in
      sends one false (codes ":a;$!{N;ba;};s/\\n/,/g") input out joining joining_means
      (λ es files same.
      let e = one_alone newline_alone es (ap (λ t. t ∷ []) (sym (tree_of_written newline_alone 0)) ∙ same) in
      subst (λ es. IsOutput (setting joining.commands [] joining.substitutions [] false es files) (start joining.commands (split_lines input)) out) (sym e.1) (joins_any e.0 e.2 files (split_lines input) (lines_none_broken input)))

  -- ---- `w f`

  one_not_zero : ◌≢◌ {A = ℕ} 1 0
  one_not_zero e = absurd cc

  zero_not_one : ◌≢◌ {A = ℕ} 0 1
  zero_not_one e = absurd cc

  part_of_line : (k : ℕ) → (k ≡ 0) ⊎ (k ≡ 1) → (line : List ℕ) → bytes_of_sink k (line_to 1 line ++ line_to 0 line) ≡ line ++ newline ∷ []
  part_of_line k (inl e) line = rw e (part-append 0 (line_to 1 line) (line_to 0 line) ∙ ap₂ (λ x y. x ++ y) (part-other 1 0 (line ++ newline ∷ []) one_not_zero) (part-same 0 (line ++ newline ∷ [])))
  part_of_line k (inr e) line = rw e (part-append 1 (line_to 1 line) (line_to 0 line) ∙ ap₂ (λ x y. x ++ y) (part-same 1 (line ++ newline ∷ [])) (part-other 0 1 (line ++ newline ∷ []) zero_not_one) ∙ append-nil (line ++ newline ∷ []))

  part_of_lines : (k : ℕ) → (k ≡ 0) ⊎ (k ≡ 1) → (ls : List (List ℕ)) → bytes_of_sink k (twofold (λ j w. false) (λ j w from. None) (λ j. []) ls) ≡ text_of ls
  part_of_lines k is [] = refl
  part_of_lines k is (line ∷ rest) =
      part-append k (line_to 1 line ++ line_to 0 line) (twofold (λ j w. false) (λ j w from. None) (λ j. []) rest)
      ∙ ap₂ (λ x y. x ++ y) (part_of_line k is line) (part_of_lines k is rest) ∙ append_assoc line (newline ∷ []) (text_of rest)

  pub file_law : (input : List ℕ) → (out : List (ℕ × ℕ)) × EditsInto false (codes "w f") input out × (bytes_of_sink 1 out ≡ text_of (split_lines input)) × (bytes_of_sink 0 out ≡ text_of (split_lines input))
  file_law input =
      let out : List (ℕ × ℕ) = twofold (λ j w. false) (λ j w from. None) (λ j. []) (split_lines input) in (
        out,
        sends one false (codes "w f") input out (of_commands (always (action.File Write 1) ∷ []) (codes "f" ∷ [])) file_means (λ es files same. tee_run (finds_in es) (search_in es) files (split_lines input) 0 0),
        part_of_lines 1 (inr refl) (split_lines input),
        part_of_lines 0 (inl refl) (split_lines input),
      )

  -- ---- `y/string1/string2/`

  pub bytes_law : (s1 s2 input : List ℕ) → NoneTwice s1 → length s1 ≡ length s2 → EditsIntoLines false (y_of s1 s2) input (map (by_table s1 s2) (split_lines input))
  bytes_law s1 s2 input twice long =
      let once = once_of s1 twice in
      let p : Program = with_table s1 s2 once long (table_of s1 s2) in
      sends one false (y_of s1 s2) input (to_sink 0 (text_of (map (by_table s1 s2) (split_lines input)))) p (transliterate_means s1 s2 once long)
      (λ es files same. bytes_run (finds_in es) (search_in es) files (table_of s1 s2) (split_lines input) 0 (false, None, 0))
