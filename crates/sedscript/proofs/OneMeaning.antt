-- A text means one script only.
use Rattle.std.proofs.Common.{◌≡◌, ℕ, List, [], map, sym, ap, ◌∙◌}
use Rattle.sedre.specs.declared.types.Kind.{Kind}
use Rattle.sedre.specs.Tree.{expression_tree}
use Rattle.sedscript.specs.declared.items.Item.{Item}
use Rattle.sedscript.specs.Script.{Means, commands_of, texts_of, substitutions_of, tables_of, files_in}
use Rattle.sedscript.specs.Program.{Program}
use Rattle.sedscript.specs.declared.types.FileUse.TheVariants.{Read, Write}
use Rattle.sedscript.proofs.Exclusive.{ReadsAsOne, cut_alike, cut_same}

-- a text means one script only: of an expression this is its tree and its number of groups
pub one_meaning : ReadsAsOne → (text : List ℕ) (kind : Kind) (m : ℕ) (s t : Program) → Means text kind m s → Means text kind m t →
    (s.commands ≡ t.commands) × (s.texts ≡ t.texts) × (s.substitutions ≡ t.substitutions) × (s.tables ≡ t.tables) × (s.rfiles ≡ t.rfiles) × (s.wfiles ≡ t.wfiles) × (s.quiet ≡ t.quiet) × (s.max_nodes ≡ t.max_nodes)
    × (map expression_tree s.expressions ≡ map expression_tree t.expressions) × (map (λ e. e.groups) s.expressions ≡ map (λ e. e.groups) t.expressions)
one_meaning one text kind m s t h k =
    let same : h.items ≡ k.items = cut_same text kind m h.to k.to h.items k.items s.expressions t.expressions one h.judged.cut h.judged.ends k.judged.cut k.judged.ends in (
      h.commands ∙ (ap (λ (is : List Item). commands_of text is [] is) same ∙ sym k.commands),
      h.texts ∙ (ap (texts_of text) same ∙ sym k.texts),
      h.substitutions ∙ (ap (λ (is : List Item). substitutions_of text is is) same ∙ sym k.substitutions),
      h.tables ∙ (ap (tables_of text) same ∙ sym k.tables),
      h.rfiles ∙ (ap (files_in Read text) same ∙ sym k.rfiles),
      h.wfiles ∙ (ap (files_in Write text) same ∙ sym k.wfiles),
      h.quiet ∙ sym k.quiet,
      h.nodes ∙ sym k.nodes,
      (cut_alike expression_tree text kind m 0 0 h.to k.to h.items k.items s.expressions t.expressions (λ d e same_tree same_groups. same_tree) one h.judged.cut h.judged.ends k.judged.cut k.judged.ends).1,
      (cut_alike (λ e. e.groups) text kind m 0 0 h.to k.to h.items k.items s.expressions t.expressions (λ d e same_tree same_groups. same_groups) one h.judged.cut h.judged.ends k.judged.cut k.judged.ends).1,
    )
