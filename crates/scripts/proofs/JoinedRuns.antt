-- What a run of two texts with a newline between them writes.
use Rattle.std.proofs.Common.{◌≡◌, ℕ, List, [], ◌∷◌, ◌++◌, map, Bool, true, false, ◌&&◌, Option, None, Some, is_some, option_map, refl, sym, ap, ap₂, subst, ◌∙◌, slice_get}
use Rattle.std.specs.List.{list_all}
use Rattle.std.proofs.Math.Path.{fun_ext}
use Rattle.std.proofs.lemmas.Option.{slice_get-map}
use Rattle.sedre.specs.Tree.{WrittenExpression, expression_tree, Tree}
use Rattle.sedre.specs.declared.types.Kind.{Kind}
use Rattle.sedre.specs.declared.types.Kind.TheVariants.{Basic}
use Rattle.sedmatch.specs.Matching.{leftmost_longest}
use Rattle.sedscript.specs.declared.types.Action.{Action}
use Rattle.sedscript.specs.declared.types.Action.TheVariants.{Branch}
use Rattle.sedscript.specs.declared.types.Command.{Command}
use Rattle.sedscript.specs.Script.{Means, with_part}
use Rattle.sedscript.specs.Program.{Program}
use Rattle.sedspace.specs.Lines.{split_lines}
use Rattle.sedengine.specs.State.{Setting, finds_in, search_in, search_for}
use Rattle.sedengine.specs.Substitute.{Occurrence}
use Rattle.sedengine.specs.Move.{start, to_sink}
use Rattle.examples.proofs.ComputedEnds.{both}
use Rattle.sededit.specs.Editing.{IsOutput}
use Rattle.scripts.specs.Edited.{RunsTo, EditsInto}
use Rattle.scripts.specs.InTurn.{BreaksNoLine, EachOnlyEdits, edits_line, in_turn, only_edits, asks_own}
use Rattle.scripts.specs.OneText.{EditInTurn, LacksNewline, EachLeadsInside, ShareNoFile, ShareNoLabel, apart, leads_inside}
use Rattle.scripts.specs.Words.{match_with}
use Rattle.scripts.proofs.Links.{OneMeaning, found_by, sends}
use Rattle.scripts.proofs.Placing.{in_turn_law}
use Rattle.sedscript.specs.declared.types.FileUse.TheVariants.{Read, Write}
use Rattle.scripts.proofs.JoinedFaults.{NoFiles, no_files_all}
use Rattle.scripts.proofs.JoinedItems.{all_follow}
use Rattle.scripts.proofs.JoinedFiles.{no_files}
use Rattle.scripts.proofs.JoinedMeans.{ShareNone, means_in_turn, share_none}
use Rattle.scripts.proofs.JoinedParts.{ended_means, parts_are, share_still}
use Rattle.std.specs.Option.{option_and_then, option_map_or}

-- expressions of equal trees are found alike
same_match : (o p : Option WrittenExpression) → option_map expression_tree o ≡ option_map expression_tree p → (w : List ℕ) →
    option_map_or (λ e. is_some (leftmost_longest (expression_tree e) w 0)) o false ≡ option_map_or (λ e. is_some (leftmost_longest (expression_tree e) w 0)) p false
same_match None None e w = refl
same_match None (Some y) e w = absurd cc
same_match (Some x) None e w = absurd cc
same_match (Some x) (Some y) e w = let same : expression_tree x ≡ expression_tree y = cc in ap (λ t. has_tree t w) same
  where
    has_tree : Tree → List ℕ → Bool
    has_tree t w = is_some (leftmost_longest t w 0)

same_search : (o p : Option WrittenExpression) → option_map expression_tree o ≡ option_map expression_tree p → (w : List ℕ) (from : ℕ) →
    option_and_then (λ e. search_for e w from) o ≡ option_and_then (λ e. search_for e w from) p
same_search None None e w from = refl
same_search None (Some y) e w from = absurd cc
same_search (Some x) None e w from = absurd cc
same_search (Some x) (Some y) e w from =
    let same : expression_tree x ≡ expression_tree y = cc in
    found_by x w (leftmost_longest (expression_tree x) w from) ∙ (ap (λ t. match_with t w (leftmost_longest t w from)) same ∙ sym (found_by y w (leftmost_longest (expression_tree y) w from)))

module _ (es fs : List WrittenExpression) (same : map expression_tree es ≡ map expression_tree fs) where
  same_tree : (k : ℕ) → option_map expression_tree (slice_get es k) ≡ option_map expression_tree (slice_get fs k)
  same_tree k = sym (slice_get-map expression_tree es k) ∙ (ap (λ ts. slice_get ts k) same ∙ slice_get-map expression_tree fs k)

  finds_same : finds_in es ≡ finds_in fs
  finds_same = fun_ext (λ k. fun_ext (λ w. same_match (slice_get es k) (slice_get fs k) (same_tree k) w))

  search_same : search_in es ≡ search_in fs
  search_same = fun_ext (λ k. fun_ext (λ w. fun_ext (λ from. same_search (slice_get es k) (slice_get fs k) (same_tree k) w from)))

-- scripts that only edit have no branch and no file
leads_if_edits : (p : Program) (a : Action) → edits_line p a ≡ true → leads_inside p a ≡ true
leads_if_edits p (Branch u n) h = absurd cc
leads_if_edits p other h = refl

passes_if_edits : (test : Action → Bool) (counts : Bool) (p : Program) (cs : List Command) → ((a : Action) → edits_line p a ≡ true → test a ≡ true) → list_all (only_edits counts p) cs ≡ true → list_all (λ (c : Command). test c.action) cs ≡ true
passes_if_edits test counts p [] passes h = refl
passes_if_edits test counts p (c ∷ cs) passes h =
    let parts = both (only_edits counts p c) (list_all (only_edits counts p) cs) h in
    let one = both (asks_own counts p c.first) (asks_own counts p c.second && edits_line p c.action) parts.0 in
    let two = both (asks_own counts p c.second) (edits_line p c.action) one.1 in
    ap₂ (λ s t. s && t) (passes c.action two.1) (passes_if_edits test counts p cs passes parts.1)

all_inside : (counts : Bool) (p : Program) → EachOnlyEdits counts p → EachLeadsInside p
all_inside counts p only = passes_if_edits (leads_inside p) counts p p.commands (leads_if_edits p) only.each

none_shared : (p q : Program) (text : List ℕ) (m : ℕ) (counts : Bool) → Means text Basic m q → EachOnlyEdits counts q → ShareNoFile p q
none_shared p q text m counts k only =
    let all : list_all (λ (c : Command). edits_line q c.action) q.commands ≡ true = passes_if_edits (edits_line q) counts q q.commands (λ a e. e) only.each in
    let none : NoFiles k.items = no_files_all q text k.items [] k.items (all_follow text Basic m q k) ([], k.substitutions, refl) (subst (λ (cs : List Command). list_all (λ (c : Command). edits_line q c.action) cs ≡ true) k.commands all) in
    record {
      read = ap (apart p.rfiles) (k.rfiles ∙ no_files Read text k.items none);
      write = ap (apart p.wfiles) (k.wfiles ∙ no_files Write text k.items none);
    }

-- the two scripts in one text
joined_runs : OneMeaning → (a b input middle : List ℕ) (out : List (ℕ × ℕ)) (p q : Program) (h : Means a Basic 65536 p) (k : Means b Basic 65536 q) → EachOnlyEdits true p → EachOnlyEdits false q → BreaksNoLine p → ShareNone a h.items b k.items →
    ((files : ℕ → List ℕ) → RunsTo p files input (to_sink 0 middle)) → ((files : ℕ → List ℕ) → RunsTo q files middle out) → EditsInto false (a ++ 10 ∷ b) input out
joined_runs one a b input middle out p q h k only_p only_q breaks apart first second =
    let r : Program = in_turn p q in
    let means : Means (a ++ 10 ∷ b) Basic 65536 r = means_in_turn a b Basic 65536 p q h k (all_inside true p only_p) (none_shared p q b 65536 false k only_q) only_q.loud apart in
    sends one false (a ++ 10 ∷ b) input out r means
    (λ es files same.
    let run = in_turn_law p q files input middle out only_p only_q breaks (first files) (second files) in
    let by : (ℕ → List ℕ → Bool) → (ℕ → List ℕ → ℕ → Option Occurrence) → Setting =
    λ finds search. record { commands = r.commands; texts = r.texts; substitutions = r.substitutions; tables = r.tables; finds = finds; search = search; quiet = r.quiet; files = files } in
    subst (λ (g : Setting). IsOutput g (start r.commands (split_lines input)) out) (ap₂ by (finds_same r.expressions es same) (search_same r.expressions es same)) run)

pub means_law : (a b : List ℕ) (kind : Kind) (m : ℕ) (p q : Program) → Means a kind m p → Means b kind m q → EachLeadsInside p → ShareNoFile p q → q.quiet ≡ false → ShareNoLabel kind m a b → Means (a ++ 10 ∷ b) kind m (in_turn p q)
means_law a b kind m p q h k inside share loud apart = means_in_turn a b kind m p q h k inside share loud (share_none a b kind m p q h k apart)

pub joined_law : OneMeaning → (a b input middle : List ℕ) (out : List (ℕ × ℕ)) → EditInTurn a b → EditsInto false a input (to_sink 0 middle) → EditsInto false b middle out → EditsInto false (a ++ 10 ∷ b) input out
joined_law one a b input middle out edit first second =
    joined_runs one a b input middle out edit.p edit.q edit.first edit.second edit.first_edits edit.second_edits edit.breaks_none (share_none a b Basic 65536 edit.p edit.q edit.first edit.second edit.labels)
    (λ files. first.runs edit.p files edit.first) (λ files. second.runs edit.q files edit.second)

-- the two scripts in two words of -e
pub words_law : OneMeaning → (a b input middle : List ℕ) (out : List (ℕ × ℕ)) → EditInTurn a b → LacksNewline a → LacksNewline b → EditsInto false a input (to_sink 0 middle) → EditsInto false b middle out → EditsInto false (with_part (with_part [] a) b) input out
words_law one a b input middle out edit open_a open_b first second =
    let inside : EachLeadsInside edit.q = all_inside false edit.q edit.second_edits in
    let apart : ShareNone a edit.first.items b edit.second.items = share_none a b Basic 65536 edit.p edit.q edit.first edit.second edit.labels in
    subst (λ (text : List ℕ). EditsInto false text input out) (sym (parts_are a b open_a open_b))
    (joined_runs one a (b ++ 10 ∷ []) input middle out edit.p edit.q edit.first (ended_means a b Basic 65536 edit.q edit.second inside) edit.first_edits edit.second_edits edit.breaks_none (share_still a b Basic 65536 edit.q edit.second inside edit.first.items apart)
    (λ files. first.runs edit.p files edit.first) (λ files. second.runs edit.q files edit.second))
