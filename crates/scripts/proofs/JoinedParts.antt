-- The text of two words of -e: a newline follows each.
use Rattle.std.proofs.Common.{◌≡◌, ℕ, ◌+◌, ◌≤◌, ◌||◌, ◌⊎◌, inl, inr, Bool, true, false, List, [], ◌∷◌, ◌++◌, length, map, Some, None, refl, sym, ap, subst, ◌∙◌, arith, if◌then◌else◌, append_assoc}
use Rattle.std.specs.Prelude.{nat_eq}
use Rattle.std.specs.List.{ends_with}
use Rattle.std.proofs.lemmas.List.{append-nil}
use Rattle.std.proofs.lemmas.Option.{slice_get_past}
use Rattle.sedre.specs.declared.types.Kind.{Kind}
use Rattle.sedre.specs.Tree.{WrittenExpression}
use Rattle.sedscript.specs.declared.bytes.Sort.TheVariants.{Separator}
use Rattle.sedscript.specs.declared.items.Item.{Item}
use Rattle.sedscript.specs.Bytes.{bytes_between, past}
use Rattle.sedscript.specs.Script.{label_in, Means, CutWithoutFault, done, with_part}
use Rattle.sedscript.specs.Program.{Program}
use Rattle.scripts.specs.InTurn.{in_turn}
use Rattle.scripts.specs.OneText.{LacksNewline, EachLeadsInside}
use Rattle.scripts.proofs.LongerText.{between_on}
use Rattle.scripts.proofs.LongerReading.{move_item}
use Rattle.scripts.proofs.JoinedCuts.{cut_on}
use Rattle.scripts.proofs.JoinedFaults.{named_none, names_on, none_named}
use Rattle.scripts.proofs.JoinedMeans.{ShareNone, items_in_turn, means_in_turn}

pub parts_are : (a b : List ℕ) → LacksNewline a → LacksNewline b → with_part (with_part [] a) b ≡ a ++ 10 ∷ (b ++ 10 ∷ [])
parts_are a b h k =
    ap (λ (t : Bool). ((a ++ (if ends_with nat_eq a (10 ∷ []) then [] else 10 ∷ [])) ++ b) ++ (if t then [] else 10 ∷ [])) k
    ∙ (ap (λ (t : Bool). ((a ++ (if t then [] else 10 ∷ [])) ++ b) ++ 10 ∷ []) h ∙ (append_assoc (a ++ 10 ∷ []) b (10 ∷ []) ∙ append_assoc a (10 ∷ []) (b ++ 10 ∷ [])))

-- the empty script
abbrev nothing : ℕ → Program
nothing m = record { commands = []; expressions = []; texts = []; substitutions = []; tables = []; rfiles = []; wfiles = []; quiet = false; max_nodes = m }

nothing_means : (kind : Kind) (m : ℕ) → Means [] kind m (nothing m)
nothing_means kind m = record {
  items = [];
  to = 0;
  judged = record { cut = done; ends = slice_get_past [] (past Separator [] 0) (omega arith); settled = refl };
  commands = refl;
  texts = refl;
  substitutions = refl;
  tables = refl;
  rfiles = refl;
  wfiles = refl;
  quiet = refl;
  nodes = refl;
}

module _ (a b : List ℕ) (kind : Kind) (m : ℕ) (q : Program) (k : Means b kind m q) (inside : EachLeadsInside q) where
  alone : ShareNone b k.items [] ((nothing_means kind m).items)
  unfolding nothing_means
  alone name = inr refl

  behind : Means (b ++ 10 ∷ []) kind m (in_turn q (nothing m))
  behind = means_in_turn b [] kind m q (nothing m) k (nothing_means kind m) inside (record { read = refl; write = refl }) refl alone

  -- a newline behind a text changes nothing
  pub ended_means : Means (b ++ 10 ∷ []) kind m q
  ended_means = record {
    items = behind.items;
    to = behind.to;
    judged = subst (λ (es : List WrittenExpression). CutWithoutFault (b ++ 10 ∷ []) kind m behind.items es behind.to) (append-nil q.expressions) behind.judged;
    commands = sym (append-nil q.commands) ∙ behind.commands;
    texts = sym (append-nil q.texts) ∙ behind.texts;
    substitutions = sym (append-nil q.substitutions) ∙ behind.substitutions;
    tables = sym (append-nil q.tables) ∙ behind.tables;
    rfiles = sym (append-nil q.rfiles) ∙ behind.rfiles;
    wfiles = sym (append-nil q.wfiles) ∙ behind.wfiles;
    quiet = sym (or_none q.quiet) ∙ behind.quiet;
    nodes = behind.nodes;
  }
    where
      or_none : (t : Bool) → (t || false) ≡ t
      or_none true = refl
      or_none false = refl

  -- nor do its labels
  pub share_still : (is : List Item) → ShareNone a is b k.items → ShareNone a is (b ++ 10 ∷ []) ended_means.items
  unfolding ended_means behind nothing_means
  share_still is apart name = by_text (apart name)
    where
      there : (from to : ℕ) → from ≤ to → to ≤ length b → bytes_between (b ++ 10 ∷ []) (0 + from) (0 + to) ≡ bytes_between b from to
      there from to low high = between_on [] b (Some []) from to low high

      by_text : (label_in a name 0 is ≡ None) ⊎ (label_in b name 0 k.items ≡ None) → (label_in a name 0 is ≡ None) ⊎ (label_in (b ++ 10 ∷ []) name 0 ended_means.items ≡ None)
      by_text (inl none) = inl none
      by_text (inr none) =
          let every = items_in_turn b [] kind m q (nothing m) k (nothing_means kind m) inside (record { read = refl; write = refl }) refl alone in
          let cut = cut_on [] b (Some []) 0 kind m 0 0 k.to k.items q.expressions k.judged.cut (omega arith) in
          let free = names_on b (b ++ 10 ∷ []) 0 0 0 there (λ name. Unit {0}) name k.items [] cut.1 ∙ (ap (λ (t : Bool). t || false) (none_named b name 0 k.items none)) in
          inr (subst (λ (xs : List Item). label_in (b ++ 10 ∷ []) name 0 xs ≡ None) (sym every) (named_none (b ++ 10 ∷ []) name 0 (map (move_item 0 0) k.items ++ []) free))
