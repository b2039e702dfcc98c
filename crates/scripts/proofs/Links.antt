-- From the bytes of a script to its runs.
use Rattle.std.proofs.Common.{◌≡◌, ℕ, List, [], ◌∷◌, map, Bool, ◌||◌, Option, None, Some, refl, ap, subst, ◌∙◌}
use Rattle.std.proofs.Math.Path.{fun_ext}
use Rattle.sedre.specs.Tree.{WrittenExpression, expression_tree, Tree}
use Rattle.sedre.specs.declared.types.Kind.{Kind}
use Rattle.sedre.specs.declared.types.Kind.TheVariants.{Basic}
use Rattle.sedmatch.specs.Matching.{leftmost_longest}
use Rattle.sedscript.specs.declared.types.Command.{Command}
use Rattle.sedscript.specs.declared.substitution.Substitution.{Substitution}
use Rattle.sedscript.specs.Script.{Means}
use Rattle.sedscript.specs.Program.{Program}
use Rattle.sedspace.specs.Lines.{split_lines}
use Rattle.sedengine.specs.State.{MachineState, Setting, search_in, finds_in, occurrence_at_span}
use Rattle.sedengine.specs.Move.{start}
use Rattle.sededit.specs.Editing.{IsOutput}
use Rattle.scripts.specs.Edited.{EditsInto}
use Rattle.scripts.specs.Words.{match_with}
use Rattle.std.specs.Option.{option_map}

-- what the law `one_meaning` of sedscript says
abbrev pub OneMeaning : Type 0
OneMeaning = (text : List ℕ) (kind : Kind) (max_nodes : ℕ) (s t : Program) → Means text kind max_nodes s → Means text kind max_nodes t →
    (s.commands ≡ t.commands) × (s.texts ≡ t.texts) × (s.substitutions ≡ t.substitutions) × (s.tables ≡ t.tables)
    × (s.rfiles ≡ t.rfiles) × (s.wfiles ≡ t.wfiles) × (s.quiet ≡ t.quiet) × (s.max_nodes ≡ t.max_nodes)
    × (map expression_tree s.expressions ≡ map expression_tree t.expressions) × (map (λ e. e.groups) s.expressions ≡ map (λ e. e.groups) t.expressions)

abbrev pub setting : List Command → List (List ℕ) → List Substitution → List (List ℕ) → Bool → List WrittenExpression → (ℕ → List ℕ) → Setting
setting commands texts substitutions tables quiet expressions files = record {
  commands = commands;
  texts = texts;
  substitutions = substitutions;
  tables = tables;
  finds = finds_in expressions;
  search = search_in expressions;
  quiet = quiet;
  files = files;
}

-- what is so of the runs of some commands with their texts, substitutions and tables is so of those of equal ones
pub same_run : (P : Setting → MachineState → Type 0) (c c' : List Command) (tx tx' : List (List ℕ)) (sb sb' : List Substitution) (tb tb' : List (List ℕ)) (q q' : Bool) (es : List WrittenExpression) (files : ℕ → List ℕ) (ls : List (List ℕ)) →
    c ≡ c' → tx ≡ tx' → sb ≡ sb' → tb ≡ tb' → q ≡ q' → P (setting c tx sb tb q es files) (start c ls) → P (setting c' tx' sb' tb' q' es files) (start c' ls)
same_run P c c' tx tx' sb sb' tb tb' q q' es files ls a b d e f h =
    subst (λ c. P (setting c tx' sb' tb' q' es files) (start c ls)) a
    (subst (λ tx. P (setting c tx sb' tb' q' es files) (start c ls)) b
    (subst (λ sb. P (setting c tx sb tb' q' es files) (start c ls)) d
    (subst (λ tb. P (setting c tx sb tb q' es files) (start c ls)) e
    (subst (λ q. P (setting c tx sb tb q es files) (start c ls)) f h))))

-- The runs of any script that the text means are those of this one, whatever its expressions are as long as they have these
-- trees.
pub sends : OneMeaning → (quiet : Bool) (text input : List ℕ) (out : List (ℕ × ℕ)) (p : Program) → Means text Basic 65536 p →
    ((es : List WrittenExpression) (files : ℕ → List ℕ) → map expression_tree p.expressions ≡ map expression_tree es →
    IsOutput (setting p.commands p.texts p.substitutions p.tables (quiet || p.quiet) es files) (start p.commands (split_lines input)) out) → EditsInto quiet text input out
sends one quiet text input out p meant runs = record {
  meaning = (p, meant);
  runs = λ q files m.
      let same = one text Basic 65536 p q meant m in
      same_run (λ g s. IsOutput g s out) p.commands q.commands p.texts q.texts p.substitutions q.substitutions p.tables q.tables (quiet || p.quiet) (quiet || q.quiet) q.expressions files (split_lines input)
      same.0 same.1 same.2 same.3 (ap (λ b. quiet || b) same.6) (runs q.expressions files same.8);
}

-- one expression, by its tree
pub one_alone : (t : Tree) (es : List WrittenExpression) → t ∷ [] ≡ map expression_tree es → (e : WrittenExpression) × (es ≡ e ∷ []) × (expression_tree e ≡ t)
one_alone t [] h = absurd cc
one_alone t (e ∷ []) h = (e, refl, cc)
one_alone t (e ∷ f ∷ es) h = absurd cc

pub found_by : (e : WrittenExpression) (w : List ℕ) (o : Option (ℕ × ℕ)) → option_map (occurrence_at_span e w) o ≡ match_with (expression_tree e) w o
found_by e w None = refl
found_by e w (Some span) = refl

-- how an expression of this tree is sought
pub sought : (t : Tree) (e : WrittenExpression) → expression_tree e ≡ t → (w : List ℕ) → search_in (e ∷ []) 0 w ≡ (λ from. match_with t w (leftmost_longest t w from))
sought t e same w = fun_ext (λ from. found_by e w (leftmost_longest (expression_tree e) w from) ∙ ap (λ t. match_with t w (leftmost_longest t w from)) same)
