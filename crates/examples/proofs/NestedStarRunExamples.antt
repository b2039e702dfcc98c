-- An example of a run with stars in stars, on a line of 60 bytes a: no b occurs in it, so nothing is found.
use Rattle.std.proofs.Common.{◌≡◌, ℕ, List, [], ◌∷◌, ◌++◌, Bool, false, Option, Some, None, refl, sym, ap, subst, arith}
use Rattle.std.specs.Prelude.{codes, is_some, replicate, option_map}
use Rattle.sedre.specs.declared.types.Kind.TheVariants.{Extended}
use Rattle.sedre.specs.Tree.{WrittenExpression, expression_tree, Tree}
use Rattle.sedre.specs.Brackets.{delimiter_at}
use Rattle.sedre.specs.Tokens.{token_at}
use Rattle.sedmatch.specs.Matching.{leftmost_longest}
use Rattle.sedmatch.proofs.MatchingLemmas.{not_found-iff}
use Rattle.sedscript.specs.declared.substitution.Piece.TheVariants.{Literal}
use Rattle.sedscript.specs.declared.types.Action.TheVariants.{Plain, Substitute}
use Rattle.sedscript.specs.declared.types.Simple.TheVariants.{Delete}
use Rattle.sedscript.specs.declared.types.Address.TheVariants.{Match}
use Rattle.sedscript.specs.declared.types.Command.{Command}
use Rattle.sedscript.specs.Items.{match_at, address_at, second_at, addresses_at, substitute_at, function_at, item_at}
use Rattle.sedscript.specs.Letters.{substituted}
use Rattle.sedscript.specs.Bytes.{past}
use Rattle.sedscript.specs.Arguments.{name_from, text_from}
use Rattle.sedspace.specs.Lines.{split_lines}
use Rattle.sedengine.specs.Move.{next_move, start, to_sink}
use Rattle.sedengine.specs.State.{finds_in, occurrence_at_span, search_in, Setting}
use Rattle.sedengine.specs.Select.{selects}
use Rattle.sedengine.specs.Substitute.{Occurrence, occurrences_from}
use Rattle.sedengine.specs.Types.{Done}
use Rattle.examples.proofs.ComputedEnds.{all_fit, stops_after, Stops, StopsBy}
use Rattle.examples.proofs.ComputedReading.{outcome, rest_of, written, tree_of_written}
use Rattle.examples.proofs.ComputedRun.{course, plain, no_files}
use Rattle.examples.proofs.ComputedScript.{verdict, cutting, walked, is_script}
use Rattle.examples.proofs.NestedStarExamples.{twice_nested, no_b}
use Rattle.examples.proofs.ScriptWords.{always, at, substitution}
use Rattle.examples.proofs.LimitWords.{own}

-- `/RE/d` and `s//x/`, where this says what is found
abbrev commands : List Command
commands = at (Match (Some 0)) (Plain Delete) ∷ always (Substitute 0) ∷ []

abbrev deletes_or_replaces : (ℕ → List ℕ → Bool) → (ℕ → List ℕ → ℕ → Option Occurrence) → Setting
deletes_or_replaces finds search = record {
  commands = commands;
  texts = [];
  substitutions = substitution None (Literal 120 ∷ []) ∷ [];
  tables = [];
  finds = finds;
  search = search;
  quiet = false;
  files = no_files;
}

abbrev sixty : List ℕ
sixty = replicate 60 97

-- A line in which nothing is found is written as it is.
unchanged_where_nothing_is_found : (finds : ℕ → List ℕ → Bool) (search : ℕ → List ℕ → ℕ → Option Occurrence) →
    finds 0 sixty ≡ false → search 0 sixty 0 ≡ None →
    Stops own (deletes_or_replaces finds search) (start commands (sixty ∷ [])) Done (to_sink 0 (sixty ++ 10 ∷ []))
unfolding course next_move selects all_fit occurrences_from
unchanged_where_nothing_is_found finds search no_match none =
    stops_after 12 (rw (no_match, none) refl) (rw (no_match, none) refl) (rw (no_match, none) refl) refl

none_in : (n : ℕ) → leftmost_longest (expression_tree (written twice_nested 2)) (replicate n 97) 0 ≡ None
none_in n =
    subst (λ (t : Tree). leftmost_longest t (replicate n 97) 0 ≡ None) (sym (tree_of_written twice_nested 2))
    ((not_found-iff twice_nested (replicate n 97) 0 (omega arith)).1 (λ i k from within s. no_b n s.0 k s.2))

abbrev expressions : List WrittenExpression
expressions = written twice_nested 2 ∷ []

sixty_unchanged : StopsBy own Extended plain no_files (codes "/((a*)*)*b/d;s//x/") (replicate 60 97 ++ 10 ∷ []) Done (to_sink 0 (replicate 60 97 ++ 10 ∷ []))
unfolding verdict cutting walked item_at past function_at addresses_at address_at second_at text_from name_from split_lines match_at substitute_at substituted delimiter_at outcome rest_of token_at
sixty_unchanged =
    is_script (unchanged_where_nothing_is_found (finds_in expressions) (search_in expressions) (ap is_some (none_in 60))
    (ap (option_map (occurrence_at_span (written twice_nested 2) sixty)) (none_in 60)))
