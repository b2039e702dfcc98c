-- The numbers of a script are in range.
use Rattle.std.proofs.Common.{◌≡◌, ℕ, zero, suc, ◌+◌, ◌<◌, ◌≤◌, ◌&&◌, ◌==◌, Bool, true, false, cond, not, ◌||◌, List, [], ◌∷◌, ◌++◌, length, filter_map, Option, Some, None, unwrap_or, refl, sym, ap, subst, ◌∙◌, arith, if◌then◌else◌, slice_get, length-append, option_map}
use Rattle.std.specs.List.{list_any, position_from, cons_option}
use Rattle.std.specs.Bool.{then_some}
use Rattle.std.specs.Str.{bytes_eq}
use Rattle.std.proofs.lemmas.Slice.Eq.{bytes_eq-Decides}
use Rattle.std.proofs.lemmas.List.Elements.{filter_map-append}
use Rattle.std.proofs.lemmas.List.FromFn.{length-map-range_with_len}
use Rattle.sedre.specs.declared.types.Kind.{Kind}
use Rattle.sedre.specs.Tree.{WrittenExpression}
use Rattle.sedscript.specs.declared.types.Action.{Action}
use Rattle.sedscript.specs.declared.types.Action.TheVariants as action
use Rattle.sedscript.specs.declared.types.Command.{Command}
use Rattle.sedscript.specs.declared.types.FileUse.{FileUse}
use Rattle.sedscript.specs.declared.types.FileUse.TheVariants.{Read, Write}
use Rattle.sedscript.specs.Types.{Verb, Argument, Pair, FlaggedPair}
use Rattle.sedscript.specs.declared.letters.Verb.TheVariants.{Open, Branch, File, Substitute, Transliterate}
use Rattle.sedscript.specs.declared.items.Addresses.{Addresses}
use Rattle.sedscript.specs.declared.items.Item.{Item}
use Rattle.sedscript.specs.declared.items.ItemOrEnd.TheVariants.{Is}
use Rattle.sedscript.specs.Bytes.{◌>>=◌ as ◌then◌}
use Rattle.sedscript.specs.Strings.{counterpart, table_of}
use Rattle.sedscript.specs.Items.{item_at, Reading}
use Rattle.sedscript.specs.Script.{Gives, value, after_expression, CutScript, done, next_item, text_in, texts_of, substitution_in, substitutions_of, table_in, tables_of, action_of, command_of, commands_of, Means, ActionWithin, count_with, commands_in, label_in, is_label, close_in, depth_after, block_end, written_in, branch_in, is_standard_output, is_file, sink_name, name_in, file_in, files_in, number_in}
use Rattle.sedscript.specs.Letters.{becomes_command, is_close}
use Rattle.sedscript.specs.Program.{Program}
use Rattle.sedscript.specs.declared.substitution.Substitution.{Substitution}
use Rattle.sedscript.specs.Ranges.{SinkWithin, CommandWithin, SubstitutionWithin, IsWithinRanges}
use Rattle.sedscript.proofs.Labels.{commands_snoc, counted_in}
use Rattle.sedscript.proofs.FileTables.{any_distinct}
use Rattle.sedscript.proofs.Places.{if_both, Each, AddressesWithin, ArgumentWithin, Follows, ItemsWithin, cut_up_to}

-- targets

abbrev AtMost : ℕ → Option ℕ → Type 0
AtMost n None = Unit {0}
AtMost n (Some k) = k ≤ n

at_most_or : (n : ℕ) (o : Option ℕ) → AtMost n o → unwrap_or o 0 ≤ n
at_most_or n None h = omega arith
at_most_or n (Some k) h = h

close_bound : (depth n : ℕ) (is : List Item) → AtMost (n + commands_in is) (close_in depth n is)
close_bound depth n [] = tt
close_bound depth n (i ∷ is) =
    if_both (AtMost (n + commands_in (i ∷ is))) (is_close i.verb && depth == 0) (Some n) (close_in (depth_after depth i.verb) (count_with n i) is) (omega arith)
    (subst (λ (m : ℕ). AtMost m (close_in (depth_after depth i.verb) (count_with n i) is)) (counted_in n i is) (close_bound (depth_after depth i.verb) (count_with n i) is))

label_bound : (text name : List ℕ) (n : ℕ) (is : List Item) → AtMost (n + commands_in is) (label_in text name n is)
label_bound text name n [] = tt
label_bound text name n (i ∷ is) =
    if_both (AtMost (n + commands_in (i ∷ is))) (is_label text name i.verb i.argument) (Some n) (label_in text name (count_with n i) is) (omega arith)
    (subst (λ (m : ℕ). AtMost m (label_in text name (count_with n i) is)) (counted_in n i is) (label_bound text name (count_with n i) is))

-- actions

abbrev MayAct : Program → Option Action → Type 0
MayAct n None = Unit {0}
MayAct n (Some a) = ActionWithin n a

-- the name, if there is one, is among the sizes
abbrev NameWithin : List ℕ → List Item → Program → FileUse → Option (List ℕ) → Type 0
NameWithin text all n u None = Unit {0}
NameWithin text all n u (Some name) = ActionWithin n (action.File u (number_in u text all name))

-- what a function names among all items is among the sizes
abbrev FilesWithin : List ℕ → List Item → Program → Verb → Argument → Type 0
FilesWithin text all n verb a = (u : FileUse) → NameWithin text all n u (name_in u text verb a)

abbrev AllFilesWithin : List ℕ → List Item → Program → List Item → Type 0
AllFilesWithin text all n is = Each (λ i. FilesWithin text all n i.verb i.argument) is

branch_bound : (text name : List ℕ) (all : List Item) → AtMost (commands_in all) (branch_in text all name)
branch_bound text [] all = omega arith
branch_bound text (b ∷ bs) all = subst (λ (m : ℕ). AtMost m (label_in text (b ∷ bs) 0 all)) (let e : 0 + commands_in all ≡ commands_in all = omega arith in e) (label_bound text (b ∷ bs) 0 all)

-- the texts, substitutions and tables of the items before a function, of the function and of those after it come to all
-- that there are
abbrev Sums : List ℕ → List Item → Program → List Item → Verb → Argument → List Item → Type 0
Sums text all n before verb a after =
    (length (texts_of text before) + length (cons_option (text_in text verb a) (texts_of text after)) ≡ (length n.texts))
    × (length (substitutions_of text all before) + length (cons_option (substitution_in text all a) (substitutions_of text all after)) ≡ (length n.substitutions))
    × (length (tables_of text before) + length (cons_option (table_in text a) (tables_of text after)) ≡ (length n.tables))

may_act : (text : List ℕ) (all before after : List Item) (n : Program) (verb : Verb) (a : Argument) → Follows verb a → FilesWithin text all n verb a → commands_in all ≡ length n.commands →
    commands_in before + (if becomes_command verb then suc (commands_in after) else commands_in after) ≡ length n.commands → Sums text all n before verb a after →
    MayAct n (action_of text all before after verb a)
may_act text all before after n Open a follows files whole count long =
    at_most_or (length n.commands) (block_end before after)
    (subst (λ (m : ℕ). AtMost m (block_end before after)) (let e : suc (commands_in before) + commands_in after ≡ (length n.commands) = omega (arith, count) in e) (close_bound 0 (suc (commands_in before)) after))
may_act text all before after n (Branch u) a follows files whole count long =
    at_most_or (length n.commands) (branch_in text all (written_in text a))
    (subst (λ (m : ℕ). AtMost m (branch_in text all (written_in text a))) whole (branch_bound text (written_in text a) all))
may_act text all before after n (File Read) a follows files whole count long = files Read
may_act text all before after n (File Write) a follows files whole count long = files Write
may_act text all before after n Substitute (FlaggedPair s e f) follows files whole count long = omega (arith, long.1)
may_act text all before after n Substitute a follows files whole count long = absurd follows
may_act text all before after n Transliterate (Pair s) follows files whole count long = omega (arith, long.2)
may_act text all before after n Transliterate a follows files whole count long = absurd follows
may_act text all before after n verb a follows files whole count long = search arith

-- commands

each_at : {A : Type 0} (P : A → Type 0) (xs : List A) (k : ℕ) (x : A) → Each P xs → slice_get xs k ≡ Some x → P x
each_at {A} P [] k x h g = let bad : ◌≡◌ {A = Option A} None (Some x) = g in cc
each_at P (y ∷ xs) zero x h g = let same : y ≡ x = cc in subst P same h.0
each_at P (y ∷ xs) (suc k) x h g = each_at P xs k x h.1 g

with_within : (n : Program) (a : Addresses) (o : Option Action) (cs : List Command) → AddressesWithin (length n.expressions) a → MayAct n o → Each (CommandWithin n) cs → Each (CommandWithin n) (cons_option (option_map (command_of a) o) cs)
with_within n a None cs h g k = k
with_within n a (Some x) cs h g k = (record { first = h.0; second = h.1; action = g }, k)

pub length_with : {A : Type 0} (o : Option A) (xs : List A) → length (cons_option o xs) ≡ length (cons_option o []) + length xs
length_with None xs = omega arith
length_with (Some x) xs = omega arith

-- what is taken of an item is counted after it as before it
taken_on : {A : Type 0} (h : Item → Option A) (before is : List Item) (i : Item) (n : ℕ) → length (filter_map h before) + length (cons_option (h i) (filter_map h is)) ≡ n →
    length (filter_map h (before ++ i ∷ [])) + length (filter_map h is) ≡ n
taken_on h before is i n e =
    let long = ap (λ xs. length xs) (filter_map-append h before (i ∷ [])) ∙ length-append (filter_map h before) (cons_option (h i) []) in
    omega (arith, long, length_with (h i) (filter_map h is), e)

-- the texts, substitutions and tables of the items before these and of these come to all that there are
abbrev AllSums : List ℕ → List Item → Program → List Item → List Item → Type 0
AllSums text all n before is =
    (length (texts_of text before) + length (texts_of text is) ≡ (length n.texts))
    × (length (substitutions_of text all before) + length (substitutions_of text all is) ≡ (length n.substitutions))
    × (length (tables_of text before) + length (tables_of text is) ≡ (length n.tables))

commands_within : (text : List ℕ) (all before is : List Item) (n : Program) → commands_in all ≡ length n.commands → commands_in before + commands_in is ≡ length n.commands → AllSums text all n before is →
    ItemsWithin (length n.expressions) is → AllFilesWithin text all n is → Each (CommandWithin n) (commands_of text all before is)
commands_within text all before [] n whole count long h files = tt
commands_within text all before (i ∷ is) n whole count long h files =
    with_within n i.addresses (action_of text all before is i.verb i.argument) (commands_of text all (before ++ i ∷ []) is) h.0.0
    (may_act text all before is n i.verb i.argument h.0.2 files.0 whole count long)
    (commands_within text all (before ++ i ∷ []) is n whole
    (ap (λ (m : ℕ). m + commands_in is) (commands_snoc before i) ∙ (counted_in (commands_in before) i is ∙ count)) (
      taken_on (λ (j : Item). text_in text j.verb j.argument) before is i (length n.texts) long.0,
      taken_on (λ (j : Item). substitution_in text all j.argument) before is i (length n.substitutions) long.1,
      taken_on (λ (j : Item). table_in text j.argument) before is i (length n.tables) long.2,
    )
    h.1 files.1)

leaf_length : (text : List ℕ) (all before after : List Item) (n : ℕ) (a : Addresses) (verb : Verb) (follows : Argument) (cs : List Command) → length cs ≡ n →
    length (cons_option (option_map (command_of a) (action_of text all before after verb follows)) cs) ≡ (if becomes_command verb then suc n else n)
leaf_length text all before after n a Open follows cs h = omega (arith, h)
leaf_length text all before after n a verb follows cs h = omega (arith, h)

pub commands_length : (text : List ℕ) (all before is : List Item) → length (commands_of text all before is) ≡ commands_in is
commands_length text all before [] = refl
commands_length text all before (i ∷ is) =
    leaf_length text all before is (commands_in is) i.addresses i.verb i.argument (commands_of text all (before ++ i ∷ []) is) (commands_length text all (before ++ i ∷ []) is)

-- expressions

abbrev AllFit : ℕ → List WrittenExpression → Type 0
AllFit m es = Each (λ e. length e.nodes ≤ m) es

fit_append : (m : ℕ) (es fs : List WrittenExpression) → AllFit m es → AllFit m fs → AllFit m (es ++ fs)
fit_append m [] fs h g = g
fit_append m (e ∷ es) fs h g = (h.0, fit_append m es fs h.1 g)

fit_read : {A : Type 0} (text : List ℕ) (kind : Kind) (m : ℕ) (r : Reading A) (es : List WrittenExpression) (x : A) → Gives text kind m r es x → AllFit m es
fit_read text kind m _ _ x value = tt
fit_read text kind m _ _ x (after_expression {k = k} {es = es} e is g) = (is.fits, fit_read text kind m (k e.groups) es x g)

cut_fit : (text : List ℕ) (kind : Kind) (m count at to : ℕ) (is : List Item) (es : List WrittenExpression) → CutScript text kind m count at is es to → AllFit m es
cut_fit text kind m count at to _ _ done = tt
cut_fit text kind m count at to _ _ (next_item {next = next} {i = i} {is = is} es fs read rest) =
    fit_append m es fs (fit_read text kind m (item_at text count at) es (Is i next) read) (cut_fit text kind m (count + length es) next to is fs rest)

from_none : (n m : ℕ) → m ≡ n → 0 + n ≡ m
from_none n m e = omega (arith, e)

-- substitutions and tables

substitutions_within : (n : Program) (text : List ℕ) (all is : List Item) → ItemsWithin (length n.expressions) is → AllFilesWithin text all n is → Each (SubstitutionWithin n) (substitutions_of text all is)
substitutions_within n text all [] h files = tt
substitutions_within n text all (i ∷ is) h files = by_both i.verb i.argument h.0.1 h.0.2 files.0 (substitutions_within n text all is h.1 files.1)
  where
    by_file : (o : Option (List ℕ)) → NameWithin text all n Write o → SinkWithin (length n.wfiles) (option_map (number_in Write text all) o)
    by_file None v = tt
    by_file (Some name) v = v

    by_both : (verb : Verb) (a : Argument) → ArgumentWithin (length n.expressions) a → Follows verb a → FilesWithin text all n verb a → Each (SubstitutionWithin n) (substitutions_of text all is) →
        Each (SubstitutionWithin n) (cons_option (substitution_in text all a) (substitutions_of text all is))
    by_both (File u) (FlaggedPair s e f) w follows v rest = absurd follows
    by_both verb (FlaggedPair s e f) w follows v rest = (record { expression = w.0; number = w.1; file = by_file (sink_name text f) (v Write) }, rest)
    by_both verb a w follows v rest = rest

table_whole : (source target : List ℕ) → length (table_of source target) ≡ 256
unfolding table_of
table_whole source target = length-map-range_with_len (counterpart source target) 0 256

tables_whole : (text : List ℕ) (is : List Item) → Each (λ t. length t ≡ 256) (tables_of text is)
tables_whole text [] = tt
tables_whole text (i ∷ is) = by_argument i.argument (tables_whole text is)
  where
    by_argument : (a : Argument) → Each (λ t. length t ≡ 256) (tables_of text is) → Each (λ t. length t ≡ 256) (cons_option (table_in text a) (tables_of text is))
    by_argument (Pair s) rest = (table_whole _ _, rest)
    by_argument a rest = rest

-- files

abbrev names_in : FileUse → List ℕ → List Item → List (List ℕ)
names_in u text is = filter_map (λ i. file_in u (name_in u text i.verb i.argument)) is

-- a number among so many that are counted from the first
number_below : (name : List ℕ) (first : ℕ) (ns : List (List ℕ)) → list_any (bytes_eq name) ns ≡ true → unwrap_or (position_from (bytes_eq name) first ns) 0 < first + length ns
number_below name first [] h = let bad : false ≡ true = h in cc
number_below name first (n ∷ ns) h = by_same (λ h. number_below name (first + 1) ns h) (bytes_eq name n) h
  where
    by_same : (list_any (bytes_eq name) ns ≡ true → unwrap_or (position_from (bytes_eq name) (first + 1) ns) 0 < first + 1 + length ns) → (b : Bool) → (b || list_any (bytes_eq name) ns) ≡ true →
        unwrap_or (cond b (Some first) (position_from (bytes_eq name) (first + 1) ns)) 0 < first + suc (length ns)
    by_same rest true h = omega arith
    by_same rest false h = omega (arith, rest h)

-- a file that a function of the items names is one of those
file_number : (u : FileUse) (text : List ℕ) (all : List Item) (n : Program) (name : List ℕ) → (length n.rfiles) ≡ length (files_in Read text all) → (length n.wfiles) ≡ length (files_in Write text all) →
    (is_file u name ≡ true → list_any (bytes_eq name) (files_in u text all) ≡ true) → ActionWithin n (action.File u (number_in u text all name))
file_number Read text all n name r w h = omega (arith, r, number_below name 0 (files_in Read text all) (h refl))
file_number Write text all n name r w h = by_output (is_standard_output name) refl
  where
    by_output : (b : Bool) → is_standard_output name ≡ b → (if b then 0 else unwrap_or (position_from (bytes_eq name) 1 (files_in Write text all)) 0) ≤ (length n.wfiles)
    by_output true e = omega arith
    by_output false e = omega (arith, w, number_below name 1 (files_in Write text all) (h (ap not e)))

-- names are those of files of all items
abbrev Among : FileUse → List ℕ → List Item → List (List ℕ) → Type 0
Among u text all ns = (name : List ℕ) → list_any (bytes_eq name) ns ≡ true → list_any (bytes_eq name) (files_in u text all) ≡ true

-- a file's name
pub file_there : (u : FileUse) (name : List ℕ) (rest : List (List ℕ)) → is_file u name ≡ true → list_any (bytes_eq name) (cons_option (file_in u (Some name)) rest) ≡ true
file_there u name rest h =
    ap (λ (b : Bool). list_any (bytes_eq name) (cons_option (then_some b name) rest)) h
    ∙ ap (λ (b : Bool). b || list_any (bytes_eq name) rest) ((bytes_eq-Decides name name).1 refl)

pub any_more : (name : List ℕ) (o : Option (List ℕ)) (rest : List (List ℕ)) → list_any (bytes_eq name) rest ≡ true → list_any (bytes_eq name) (cons_option o rest) ≡ true
any_more name None rest h = h
any_more name (Some n) rest h = by_same (bytes_eq name n)
  where
    by_same : (b : Bool) → (b || list_any (bytes_eq name) rest) ≡ true
    by_same true = refl
    by_same false = h

files_within : (text : List ℕ) (all : List Item) (n : Program) (is : List Item) → (length n.rfiles) ≡ length (files_in Read text all) → (length n.wfiles) ≡ length (files_in Write text all) →
    ((u : FileUse) → Among u text all (names_in u text is)) → AllFilesWithin text all n is
files_within text all n [] r w among = tt
files_within text all n (i ∷ is) r w among = (
  λ u. by_name u (name_in u text i.verb i.argument) (among u),
  files_within text all n is r w (λ u name h. among u name (any_more name (file_in u (name_in u text i.verb i.argument)) (names_in u text is) h)),
)
  where
    by_name : (u : FileUse) (o : Option (List ℕ)) → Among u text all (cons_option (file_in u o) (names_in u text is)) → NameWithin text all n u o
    by_name u None h = tt
    by_name u (Some name) h = file_number u text all n name r w (λ e. h name (file_there u name (names_in u text is) e))

-- what a text means is in range
pub means_in_range : (text : List ℕ) (kind : Kind) (m : ℕ) (s : Program) → Means text kind m s → IsWithinRanges s
means_in_range text kind m s h =
    let is = h.items in
    let long : length s.commands ≡ commands_in is = ap (λ (xs : List Command). length xs) h.commands ∙ commands_length text is [] is in
    let items : ItemsWithin (length s.expressions) is = (cut_up_to text kind m 0 0 h.to (length s.expressions) is s.expressions h.judged.cut (omega arith) (omega arith)).2 in
    let texts : 0 + length (texts_of text is) ≡ length s.texts = from_none _ _ (ap (λ (xs : List (List ℕ)). length xs) h.texts) in
    let substitutions : 0 + length (substitutions_of text is is) ≡ length s.substitutions = from_none _ _ (ap (λ (xs : List Substitution). length xs) h.substitutions) in
    let tables : 0 + length (tables_of text is) ≡ length s.tables = from_none _ _ (ap (λ (xs : List (List ℕ)). length xs) h.tables) in
    let files : AllFilesWithin text is s is =
    files_within text is s is (ap (λ (xs : List (List ℕ)). length xs) h.rfiles) (ap (λ (xs : List (List ℕ)). length xs) h.wfiles)
    (λ u name g. any_distinct name (names_in u text is) g) in
    let all : Each (CommandWithin s) s.commands =
    subst (Each (CommandWithin s)) (sym h.commands)
    (commands_within text is [] is s (sym long) (omega (arith, long)) (texts, substitutions, tables)
    items files) in
    let fit : AllFit m s.expressions = cut_fit text kind m 0 0 h.to is s.expressions h.judged.cut in
    record {
      each = λ i x g. each_at (CommandWithin s) s.commands i x all g;
      nodes = λ k e g. subst (λ (n : ℕ). length e.nodes ≤ n) (sym h.nodes) (each_at (λ e. length e.nodes ≤ m) s.expressions k e fit g);
      substitutions = λ k x g. each_at (SubstitutionWithin s) _ k x (substitutions_within s text is is items files) (ap (λ ss. slice_get ss k) (sym h.substitutions) ∙ g);
      tables = λ k x g. each_at (λ t. length t ≡ 256) _ k x (tables_whole text is) (ap (λ ts. slice_get ts k) (sym h.tables) ∙ g);
    }

-- quiet or not, a script is in range
quiet_action : (p : Program) (a : Action) → ActionWithin p a → ActionWithin (record p { quiet = true }) a
quiet_action p (action.File Read k) h = h
quiet_action p (action.File Write k) h = h
quiet_action p a h = h

pub quiet_in_range : (p : Program) → IsWithinRanges p → IsWithinRanges (record p { quiet = true })
quiet_in_range p range = record {
  each = λ i c at. let h = range.each i c at in record { first = h.first; second = h.second; action = quiet_action p c.action h.action };
  nodes = range.nodes;
  substitutions = λ k s at. let h = range.substitutions k s at in record { expression = h.expression; number = h.number; file = h.file };
  tables = range.tables;
}
