-- What two texts with a newline between them mean.
use Rattle.std.proofs.Common.{bytes_eq, ◌≡◌, ℕ, suc, take, ◌+◌, ◌≤◌, ◌&&◌, ◌||◌, ◌==◌, ◌⊎◌, inl, inr, Bool, true, false, List, [], ◌∷◌, ◌++◌, length, map, Option, Some, None, refl, sym, ap, ap₂, subst, ◌∙◌, arith}
use Rattle.std.specs.List.{list_all, list_any, take_while}
use Rattle.std.specs.Prelude.{cond, nat_lt, unwrap_or}
use Rattle.std.proofs.lemmas.Bool.Decides.{eqb_tells, nat_tests}
use Rattle.std.proofs.lemmas.List.{append-nil}
use Rattle.std.proofs.lemmas.Slice.Eq.{bytes_eq-Decides}
use Rattle.sedre.specs.declared.types.Kind.{Kind}
use Rattle.sedscript.specs.declared.types.Command.{Command}
use Rattle.sedscript.specs.declared.substitution.Substitution.{Substitution}
use Rattle.sedscript.specs.declared.types.BranchUse.{BranchUse}
use Rattle.sedscript.specs.declared.types.Action.TheVariants as action
use Rattle.sedscript.specs.declared.types.FileUse.{FileUse}
use Rattle.sedscript.specs.declared.types.FileUse.TheVariants.{Read, Write}
use Rattle.sedscript.specs.declared.items.Item.{Item}
use Rattle.sedscript.specs.declared.items.Argument.{Argument}
use Rattle.sedscript.specs.declared.letters.Verb.{Verb}
use Rattle.sedscript.specs.declared.letters.Verb.TheVariants.{Label, Branch}
use Rattle.sedscript.specs.declared.bytes.Sort.TheVariants.{Line as in_line}
use Rattle.sedscript.specs.Bytes.{belongs, bytes_between}
use Rattle.sedscript.specs.Script.{distinct, files_in, number_in, written_in, commands_in, is_label, label_in, branch_in, depth_after, target_fault_in, target_fault_at, CutScript, IsEnd, Means, action_of, commands_of, texts_of, substitutions_of, tables_of, is_quiet}
use Rattle.sedscript.specs.Program.{Program}
use Rattle.scripts.specs.InTurn.{all_before, command_behind, substitution_behind, in_turn}
use Rattle.scripts.specs.OneText.{leads_inside, EachLeadsInside, ShareNoFile, apart as apart_names, ShareNoLabel}
use Rattle.scripts.proofs.LongerText.{between_on}
use Rattle.scripts.proofs.LongerReading.{move_item}
use Rattle.scripts.proofs.NoneBefore.{same_file_number, none_before, same_commands, same_substitutions}
use Rattle.scripts.proofs.JoinedCuts.{ItemsIn, same_text, joined_cut}
use Rattle.scripts.proofs.LongerStrings.{NextOn}
use Rattle.scripts.proofs.JoinedItems.{all_follow, AllClose, texts_on, tables_on, substitutions_on, NestedAs, Reaches, commands_on, BranchOn, BranchesOn, FilesOn}
use Rattle.sedscript.proofs.Bounds.{commands_length}
use Rattle.sedscript.proofs.FileTables.{any_distinct}
use Rattle.scripts.proofs.JoinedFiles.{Disjoint, disjoint, distinct_both, file_names, files_of, files_on, names_there, none_distinct, number_behind, number_front}
use Rattle.scripts.proofs.JoinedFaults.{all_close, none_open, none_named, names, LabelIs, LabelsAre, faults_on, or_parts, parts_of, Passes, leads_somewhere, label_on, label_skip, commands_moved, names_on}

-- ---- `#n`

quiet_same : (a b : List ℕ) → is_quiet (a ++ 10 ∷ b) ≡ is_quiet a
quiet_same a b = ap (λ l. bytes_eq l (35 ∷ 110 ∷ [])) (first_line a)
  where
    more : (t : Bool) (x : ℕ) (a : List ℕ) (n m : ℕ) → take n (a ++ 10 ∷ b) ≡ take m a → take (cond t (1 + n) 0) (x ∷ (a ++ 10 ∷ b)) ≡ take (cond t (1 + m) 0) (x ∷ a)
    more false x a n m h = refl
    more true x a n m h = let n_more : 1 + n ≡ suc n = omega arith in let m_more : 1 + m ≡ suc m = omega arith in rw (n_more, m_more) (ap (λ l. x ∷ l) h)

    first_line : (a : List ℕ) → take_while (belongs in_line) (a ++ 10 ∷ b) ≡ take_while (belongs in_line) a
    first_line [] = refl
    first_line (x ∷ a) = more (belongs in_line x) x a _ _ (first_line a)

not_less : (k n : ℕ) → k ≡ n → nat_lt k n ≡ true → ⊥
not_less k n e h = let no : nat_lt k n ≡ false = grind (arith, nat_tests) in absurd cc

-- ---- labels

labels_are : (Q : List ℕ → Type 0) (text : List ℕ) (is : List Item) → ((name : List ℕ) → list_any (names text name) is ≡ true → Q name) → LabelsAre Q text is
labels_are Q text [] h = tt
labels_are Q text (i ∷ is) h = (here i.verb i.argument (λ name e. h name (ap (λ t. t || list_any (names text name) is) e)), labels_are Q text is (λ name e. h name (ap (λ t. names text name i || t) e ∙ or_true (names text name i))))
  where
    or_true : (t : Bool) → (t || true) ≡ true
    or_true true = refl
    or_true false = refl

    here : (verb : Verb) (a : Argument) → ((name : List ℕ) → is_label text name verb a ≡ true → Q name) → LabelIs Q text verb a
    here Label a h = h (written_in text a) ((bytes_eq-Decides (written_in text a) (written_in text a)).1 refl)
    here other a h = tt

-- no name is a label in both texts, which have these items
abbrev pub ShareNone : (a : List ℕ) (is : List Item) (b : List ℕ) (js : List Item) → Type 0
ShareNone a is b js = (name : List ℕ) → (label_in a name 0 is ≡ None) ⊎ (label_in b name 0 js ≡ None)

pub share_none : (a b : List ℕ) (kind : Kind) (m : ℕ) (p q : Program) (h : Means a kind m p) (k : Means b kind m q) → ShareNoLabel kind m a b → ShareNone a h.items b k.items
share_none a b kind m p q h k apart name = by_labels (label_in a name 0 h.items) (label_in b name 0 k.items) refl refl
  where
    by_labels : (o r : Option ℕ) → label_in a name 0 h.items ≡ o → label_in b name 0 k.items ≡ r → (label_in a name 0 h.items ≡ None) ⊎ (label_in b name 0 k.items ≡ None)
    by_labels None r f g = inl f
    by_labels (Some i) None f g = inr g
    by_labels (Some i) (Some j) f g =
        absurd (apart name (record { items = h.items; expressions = p.expressions; to = h.to; place = i; cut = h.judged.cut; ends = h.judged.ends; label = f })
        (record { items = k.items; expressions = q.expressions; to = k.to; place = j; cut = k.judged.cut; ends = k.judged.ends; label = g }))

-- ---- both

module _ (a b : List ℕ) (kind : Kind) (m : ℕ) (p q : Program) (h : Means a kind m p) (k : Means b kind m q) (inside : EachLeadsInside p) (share : ShareNoFile p q) (loud : q.quiet ≡ false) (apart : ShareNone a h.items b k.items) where
  abbrev joined : List ℕ
  joined = a ++ 10 ∷ b

  abbrev base : ℕ
  base = length (a ++ 10 ∷ [])

  abbrev count : ℕ
  count = length p.expressions

  abbrev is : List Item
  is = h.items

  abbrev js : List Item
  js = k.items

  -- the items of the second, as they are there
  abbrev behind : List Item
  behind = map (move_item base count) js ++ []

  abbrev every : List Item
  every = map (move_item 0 0) is ++ behind

  first_there : (from to : ℕ) → from ≤ to → to ≤ length a → bytes_between joined (0 + from) (0 + to) ≡ bytes_between a from to
  first_there from to low high = between_on [] a (Some b) from to low high

  second_there : (from to : ℕ) → from ≤ to → to ≤ length b → bytes_between joined (base + from) (base + to) ≡ bytes_between b from to
  second_there from to low high = ap (λ (bs : List ℕ). bytes_between bs (base + from) (base + to)) (sym (same_text a b)) ∙ between_on (a ++ 10 ∷ []) b None from to low high

  close_p : AllClose is
  close_p = all_close a is [] 0 is h.judged.settled

  close_q : AllClose js
  close_q = all_close b js [] 0 js k.judged.settled

  cut : (end : ℕ) × CutScript joined kind m 0 0 (map (move_item 0 0) is ++ map (move_item base count) js) (p.expressions ++ q.expressions) end × IsEnd joined end × ItemsIn (length a) is × ItemsIn (length b) js
  cut = joined_cut a b kind m h.to k.to count is js p.expressions q.expressions h.judged.cut h.judged.ends k.judged.cut k.judged.ends refl

  long : length p.commands ≡ commands_in is
  long = ap (λ (cs : List Command). length cs) h.commands ∙ commands_length a is [] is

  -- ---- branches

  next_at : (more k : ℕ) (o r : Option ℕ) → NextOn more o r → o ≡ Some k → r ≡ Some (more + k)
  next_at more k None r h e = absurd cc
  next_at more k (Some i) r h e = let same : i ≡ k = cc in h ∙ ap (λ k. Some (more + k)) same

  pass_less : (u : BranchUse) (to : ℕ) → leads_inside p (action.Branch u to) ≡ true → to ≡ commands_in is → ⊥
  pass_less u to h e = let less : nat_lt to (length p.commands) ≡ true = h in not_less to (length p.commands) (e ∙ sym long) less

  first_branch : (before after : List Item) (depth : ℕ) (place : ℕ) (verb : Verb) (x : Argument) → target_fault_at a is before depth after place verb x ≡ None → Passes (leads_inside p) (action_of a is before after verb x) → BranchOn a is joined every 0 verb x
  first_branch before after depth place (Branch u) x e pass =
      let to = leads_somewhere a is before depth after place u x e in
      (to.0, to.1, by_name (written_in a x) to.1 pass)
    where
      by_name : {k : ℕ} (name : List ℕ) → branch_in a is name ≡ Some k → leads_inside p (action.Branch u (unwrap_or (branch_in a is name) 0)) ≡ true → branch_in joined every name ≡ Some (0 + k)
      by_name [] e pass = absurd (pass_less u (commands_in is) pass refl)
      by_name {k = k} (b ∷ bs) e pass = next_at 0 k (label_in a (b ∷ bs) 0 is) (label_in joined (b ∷ bs) 0 every) (label_on a joined 0 0 0 first_there (λ name. Unit {0}) (b ∷ bs) 0 0 0 is behind cut.3 refl) e
  first_branch before after depth place other x e pass = tt

  first_branches : (before xs : List Item) (depth : ℕ) → target_fault_in a is before depth xs ≡ None → list_all (λ (c : Command). leads_inside p c.action) (commands_of a is before xs) ≡ true → BranchesOn a is joined every 0 xs
  first_branches before [] depth e pass = tt
  first_branches before (i ∷ xs) depth e pass =
      let faults = or_parts (target_fault_at a is before depth xs i.place i.verb i.argument) (target_fault_in a is (before ++ i ∷ []) (depth_after depth i.verb) xs) e in
      let parts = parts_of (leads_inside p) i.addresses (action_of a is before xs i.verb i.argument) (commands_of a is (before ++ i ∷ []) xs) pass in
      (first_branch before xs depth i.place i.verb i.argument faults.0 parts.0, first_branches (before ++ i ∷ []) xs (depth_after depth i.verb) faults.1 parts.1)

  first_long : commands_in (map (move_item 0 0) is) ≡ length p.commands
  first_long =
      let all : commands_in (map (move_item 0 0) is) ≡ commands_in is + 0 = ap commands_in (sym (append-nil (map (move_item 0 0) is))) ∙ commands_moved 0 0 is [] in
      omega (arith, all, long)

  every_long : commands_in every ≡ length p.commands + commands_in js
  every_long = omega (arith, commands_moved 0 0 is behind, commands_moved base count js [], long)

  -- a label of the second, behind the items of the first
  label_there : (name : List ℕ) (k : ℕ) → label_in b name 0 js ≡ Some k → label_in joined name 0 every ≡ Some (length p.commands + k)
  label_there name k e = by_apart (apart name)
    where
      by_apart : (label_in a name 0 is ≡ None) ⊎ (label_in b name 0 js ≡ None) → label_in joined name 0 every ≡ Some (length p.commands + k)
      by_apart (inr none) = absurd cc
      by_apart (inl none) =
          let items : List Item = map (move_item 0 0) is in
          let free : list_any (names joined name) items ≡ false =
          ap (list_any (names joined name)) (sym (append-nil items)) ∙ (names_on a joined 0 0 0 first_there (λ name. Unit {0}) name is [] cut.3 ∙ ap (λ t. t || false) (none_named a name 0 is none)) in
          label_skip joined name 0 items behind free
          ∙ next_at (length p.commands) k (label_in b name 0 js) (label_in joined name (0 + commands_in items) behind)
          (label_on b joined base count (length p.commands) second_there (λ name. Unit {0}) name (length p.commands) 0 (0 + commands_in items) js [] cut.4 (omega (arith, first_long))) e

  second_branch : (before after : List Item) (depth place : ℕ) (verb : Verb) (x : Argument) → target_fault_at b js before depth after place verb x ≡ None → BranchOn b js joined every (length p.commands) verb x
  second_branch before after depth place (Branch u) x e =
      let to = leads_somewhere b js before depth after place u x e in
      (to.0, to.1, by_name (written_in b x) to.1)
    where
      by_name : {k : ℕ} (name : List ℕ) → branch_in b js name ≡ Some k → branch_in joined every name ≡ Some (length p.commands + k)
      by_name {k = k} [] e = let same : commands_in js ≡ k = cc in ap (λ n. Some n) every_long ∙ ap (λ n. Some (length p.commands + n)) same
      by_name {k = k} (c ∷ cs) e = label_there (c ∷ cs) k e
  second_branch before after depth place other x e = tt

  second_branches : (before xs : List Item) (depth : ℕ) → target_fault_in b js before depth xs ≡ None → BranchesOn b js joined every (length p.commands) xs
  second_branches before [] depth e = tt
  second_branches before (i ∷ xs) depth e =
      let faults = or_parts (target_fault_at b js before depth xs i.place i.verb i.argument) (target_fault_in b js (before ++ i ∷ []) (depth_after depth i.verb) xs) e in
      (second_branch before xs depth i.place i.verb i.argument faults.0, second_branches (before ++ i ∷ []) xs (depth_after depth i.verb) faults.1)

  branches_p : BranchesOn a is joined every 0 is
  branches_p = first_branches [] is 0 h.judged.settled (subst (λ (cs : List Command). list_all (λ (c : Command). leads_inside p c.action) cs ≡ true) h.commands inside)

  branches_q : BranchesOn b js joined every (length p.commands) js
  branches_q = second_branches [] js 0 k.judged.settled

  settled : target_fault_in joined every [] 0 every ≡ None
  settled =
      faults_on a joined 0 0 0 first_there (λ name. Unit {0}) is every [] [] is behind 0 cut.3 branches_p close_p (labels_are (λ name. Unit {0}) a is (λ name e. tt)) (λ name q e. refl) h.judged.settled
      (λ ahead after. subst (λ (d : ℕ). target_fault_in joined every ahead d behind ≡ None) (sym (none_open is close_p))
      (faults_on b joined base count (length p.commands) second_there (λ name. label_in a name 0 is ≡ None) js every [] ahead js [] 0 cut.4 branches_q close_q
      (labels_are (λ name. label_in a name 0 is ≡ None) b js (λ name e. free name e (apart name)))
      (λ name free e. after name tt refl (none_named a name 0 is free)) k.judged.settled (λ ahead after. refl)))
    where
      free : (name : List ℕ) → list_any (names b name) js ≡ true → (label_in a name 0 is ≡ None) ⊎ (label_in b name 0 js ≡ None) → label_in a name 0 is ≡ None
      free name e (inl none) = none
      free name e (inr none) = let no = none_named b name 0 js none in absurd cc

  nested_first : NestedAs a joined 0 none_before first_there every is [] []
  nested_first = record { commands = refl; counts = (refl, refl, refl) }

  nested_second : (after ahead : List Item) → Reaches a joined 0 none_before first_there is [] is after → NestedAs a joined 0 none_before first_there every is after ahead →
      NestedAs b joined base (all_before p) second_there every js [] ahead
  nested_second after ahead reaches stands = record {
    commands = omega (arith, stands.commands, reaches.commands, long);
    counts = (
      omega (arith, stands.counts.0, reaches.texts, ap (λ (xs : List (List ℕ)). length xs) h.texts),
      omega (arith, stands.counts.1, reaches.substitutions, ap (λ (xs : List Substitution). length xs) h.substitutions),
      omega (arith, stands.counts.2, reaches.tables, ap (λ (xs : List (List ℕ)). length xs) h.tables),
    );
  }

  -- ---- files

  names_both : (u : FileUse) → file_names u joined every ≡ file_names u a is ++ file_names u b js
  names_both u =
      names_there a joined 0 0 first_there u is behind cut.3
      ∙ ap (λ (ns : List (List ℕ)). file_names u a is ++ ns) (names_there b joined base count second_there u js [] cut.4 ∙ append-nil (file_names u b js))

  files_apart : (u : FileUse) → apart_names (files_in u a is) (files_in u b js) ≡ true
  files_apart Read = ap₂ (λ ns ms. apart_names ns ms) (sym h.rfiles) (sym k.rfiles) ∙ share.read
  files_apart Write = ap₂ (λ ns ms. apart_names ns ms) (sym h.wfiles) (sym k.wfiles) ∙ share.write

  none_shared : (u : FileUse) → Disjoint (file_names u a is) (file_names u b js)
  none_shared u = disjoint (file_names u a is) (file_names u b js) (files_apart u)

  files : (u : FileUse) → files_in u joined every ≡ files_in u a is ++ files_in u b js
  files u = ap distinct (names_both u) ∙ distinct_both (file_names u a is) (file_names u b js) (none_shared u)

  files_p : FilesOn a is joined every none_before is
  files_p = files_on a is joined every none_before is (all_follow a kind m p h) (λ u name among. number_front u a joined is every (files_in u b js) name (files u) (λ e. any_distinct name (file_names u a is) (among e)) ∙ sym (same_file_number u (number_in u a is name)))

  files_q : FilesOn b js joined every (all_before p) js
  files_q =
      files_on b js joined every (all_before p) js (all_follow b kind m q k)
      (λ u name among. number_behind u b joined js every (all_before p) (files_in u a is) name (files u) (counted u) (λ e. none_distinct name (file_names u a is) (not_first u name (among e))) (λ e. any_distinct name (file_names u b js) (among e)))
    where
      counted : (u : FileUse) → length (files_in u a is) ≡ files_of u (all_before p)
      counted Read = ap (λ (ns : List (List ℕ)). length ns) (sym h.rfiles)
      counted Write = ap (λ (ns : List (List ℕ)). length ns) (sym h.wfiles)

      not_first : (u : FileUse) (name : List ℕ) → list_any (bytes_eq name) (file_names u b js) ≡ true → list_any (bytes_eq name) (file_names u a is) ≡ false
      not_first u name e = by_test (list_any (bytes_eq name) (file_names u a is)) refl
        where
          by_test : (t : Bool) → list_any (bytes_eq name) (file_names u a is) ≡ t → t ≡ false
          by_test false f = refl
          by_test true f = let none : list_any (bytes_eq name) (file_names u b js) ≡ false = none_shared u name f in absurd cc

  commands : (in_turn p q).commands ≡ commands_of joined every [] every
  commands =
      let second : List Command = map (command_behind (all_before p)) q.commands in
      let rest : (after ahead : List Item) → Reaches a joined 0 none_before first_there is [] is after → NestedAs a joined 0 none_before first_there every is after ahead → commands_of joined every ahead behind ≡ second =
      λ after ahead reaches stands.
      commands_on b joined base (all_before p) second_there every js [] ahead js [] [] (nested_second after ahead reaches stands) files_q close_q cut.4 branches_q (λ after ahead reaches stands. refl)
      ∙ (append-nil (map (command_behind (all_before p)) (commands_of b js [] js)) ∙ ap (map (command_behind (all_before p))) (sym k.commands)) in
      let all = commands_on a joined 0 none_before first_there every is [] [] is behind second nested_first files_p close_p cut.3 branches_p rest in
      sym (all ∙ ap (λ (cs : List Command). cs ++ second) (same_commands (commands_of a is [] is) ∙ sym h.commands))

  texts : (in_turn p q).texts ≡ texts_of joined every
  texts =
      ap₂ (λ xs ys. xs ++ ys) h.texts (k.texts ∙ sym (append-nil (texts_of b js)) ∙ sym (texts_on b joined base (all_before p) second_there js [] cut.4))
      ∙ sym (texts_on a joined 0 none_before first_there is behind cut.3)

  tables : (in_turn p q).tables ≡ tables_of joined every
  tables =
      ap₂ (λ xs ys. xs ++ ys) h.tables (k.tables ∙ sym (append-nil (tables_of b js)) ∙ sym (tables_on b joined base (all_before p) second_there js [] cut.4))
      ∙ sym (tables_on a joined 0 none_before first_there is behind cut.3)

  substitutions : (in_turn p q).substitutions ≡ substitutions_of joined every every
  substitutions =
      let second = substitutions_on b joined base (all_before p) second_there every js js [] cut.4 files_q in
      let first = substitutions_on a joined 0 none_before first_there every is is behind cut.3 files_p in
      ap₂ (λ xs ys. xs ++ ys) (h.substitutions ∙ sym (same_substitutions (substitutions_of a is is)))
      (ap (map (substitution_behind (all_before p))) k.substitutions ∙ sym (append-nil (map (substitution_behind (all_before p)) (substitutions_of b js js))) ∙ sym second)
      ∙ sym first

  pub means_in_turn : Means joined kind m (in_turn p q)
  means_in_turn = record {
    items = every;
    to = cut.0;
    judged = record {
      cut = subst (λ (xs : List Item). CutScript joined kind m 0 0 (map (move_item 0 0) is ++ xs) (p.expressions ++ q.expressions) cut.0) (sym (append-nil (map (move_item base count) js))) cut.1;
      ends = cut.2;
      settled = settled;
    };
    commands = commands;
    texts = texts;
    substitutions = substitutions;
    tables = tables;
    rfiles = ap₂ (λ ns ms. ns ++ ms) h.rfiles k.rfiles ∙ sym (files Read);
    wfiles = ap₂ (λ ns ms. ns ++ ms) h.wfiles k.wfiles ∙ sym (files Write);
    quiet = ap₂ (λ s t. s || t) h.quiet loud ∙ (or_none (is_quiet a) ∙ sym (quiet_same a b));
    nodes = h.nodes;
  }
    where
      or_none : (t : Bool) → (t || false) ≡ t
      or_none true = refl
      or_none false = refl

  pub items_in_turn : means_in_turn.items ≡ every
  unfolding means_in_turn
  items_in_turn = refl
