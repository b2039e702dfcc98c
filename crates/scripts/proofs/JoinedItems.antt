-- What items of a text become, where it is part of a longer one with other items before them and behind.
use Rattle.std.proofs.Common.{◌≡◌, ℕ, suc, ◌+◌, ◌≤◌, ◌&&◌, ◌==◌, Bool, true, false, List, [], ◌∷◌, ◌++◌, length, map, Option, Some, None, is_none, option_map, unwrap_or, refl, sym, ap, ap₂, ◌∙◌, arith, if◌then◌else◌, filter_map, length-append}
use Rattle.std.specs.List.{cons_option}
use Rattle.std.proofs.lemmas.List.Elements.{filter_map-append}
use Rattle.sedscript.specs.declared.types.Address.{Address}
use Rattle.sedscript.specs.declared.types.Address.TheVariants.{Match, Last}
use Rattle.sedscript.specs.declared.types.Address.TheVariants as address
use Rattle.sedscript.specs.declared.types.Action.{Action}
use Rattle.sedscript.specs.declared.types.Action.TheVariants as action
use Rattle.sedscript.specs.declared.types.Command.{Command}
use Rattle.sedscript.specs.declared.substitution.Substitution.{Substitution}
use Rattle.sedscript.specs.declared.items.Addresses.{Addresses}
use Rattle.sedscript.specs.declared.types.BranchUse.{BranchUse}
use Rattle.sedscript.specs.declared.items.Flags.{Flags}
use Rattle.sedscript.specs.declared.items.Strings.{Strings}
use Rattle.sedscript.specs.declared.items.Item.{Item}
use Rattle.sedscript.specs.declared.items.Argument.{Argument}
use Rattle.sedscript.specs.declared.items.Argument.TheVariants.{Between, Pair, FlaggedPair}
use Rattle.sedscript.specs.declared.letters.Verb.{Verb}
use Rattle.sedscript.specs.declared.letters.Verb.TheVariants.{Plain, Open, Branch, Text, File, Substitute, Transliterate}
use Rattle.sedscript.specs.declared.types.FileUse.{FileUse}
use Rattle.sedscript.specs.declared.types.FileUse.TheVariants.{Write}
use Rattle.sedscript.specs.Script.{written_in, sink_name, number_in, count_with, commands_in, depth_after, close_in, block_end, branch_in, text_in, texts_of, substitution_in, substitutions_of, table_in, tables_of, action_of, command_of, commands_of, unescaped_from, Means}
use Rattle.sedscript.specs.Letters.{becomes_command, is_close}
use Rattle.sedscript.specs.Bytes.{bytes_between}
use Rattle.sedscript.specs.Strings.{pieces_of, chars_from, bytes_of, table_of}
use Rattle.sedscript.specs.Program.{Program}
use Rattle.sedre.specs.declared.types.Kind.{Kind}
use Rattle.sedscript.proofs.Chars.{same_bytes}
use Rattle.sedscript.proofs.Labels.{commands_snoc, counted_in}
use Rattle.sedscript.proofs.Bounds.{length_with}
use Rattle.sedscript.proofs.Places.{Each, Follows, ItemsWithin, cut_up_to}
use Rattle.scripts.specs.InTurn.{CountsBefore, address_behind, action_behind, command_behind, substitution_behind, file_behind, sink_behind}
use Rattle.scripts.proofs.LongerStrings.{NextOn}
use Rattle.scripts.proofs.LongerFlags.{move_span, move_flags, FileIn}
use Rattle.scripts.proofs.LongerFunctions.{move_argument, StringsIn, ArgumentIn}
use Rattle.scripts.proofs.LongerReading.{move_address, move_item}
use Rattle.scripts.proofs.JoinedCuts.{ItemsIn}

-- what follows each letter is what that takes
abbrev pub AllFollow : List Item → Type 0
AllFollow is = Each (λ i. Follows i.verb i.argument) is

pub all_follow : (text : List ℕ) (kind : Kind) (m : ℕ) (p : Program) (h : Means text kind m p) → AllFollow h.items
all_follow text kind m p h = taken h.items (cut_up_to text kind m 0 0 h.to (length p.expressions) h.items p.expressions h.judged.cut (omega arith) (omega arith)).2
  where
    taken : (is : List Item) → ItemsWithin (length p.expressions) is → AllFollow is
    taken [] g = tt
    taken (i ∷ is) g = (g.0.2, taken is g.1)

-- a block that opens there is closed by these items
abbrev pub ClosesIn : Verb → List Item → Type 0
ClosesIn Open is = (n : ℕ) → is_none (close_in 0 n is) ≡ false
ClosesIn other is = Unit {0}

abbrev pub AllClose : List Item → Type 0
AllClose [] = Unit {0}
AllClose (i ∷ is) = ClosesIn i.verb is × AllClose is

-- a branch leads so many commands later
abbrev pub BranchOn : (t : List ℕ) (all : List Item) (whole : List ℕ) (every : List Item) (more : ℕ) → Verb → Argument → Type 0
BranchOn t all whole every more (Branch u) a = (k : ℕ) × (branch_in t all (written_in t a) ≡ Some k) × (branch_in whole every (written_in t a) ≡ Some (more + k))
BranchOn t all whole every more other a = Unit {0}

abbrev pub BranchesOn : (t : List ℕ) (all : List Item) (whole : List ℕ) (every : List Item) (more : ℕ) → List Item → Type 0
BranchesOn t all whole every more [] = Unit {0}
BranchesOn t all whole every more (i ∷ is) = BranchOn t all whole every more i.verb i.argument × BranchesOn t all whole every more is

-- a name has the number that it has, where so many files come before
abbrev pub NumberOn : (t : List ℕ) (all : List Item) (whole : List ℕ) (every : List Item) → CountsBefore → FileUse → List ℕ → Type 0
NumberOn t all whole every b u name = number_in u whole every name ≡ file_behind b u (number_in u t all name)

abbrev pub SinkOn : (t : List ℕ) (all : List Item) (whole : List ℕ) (every : List Item) → CountsBefore → Option (List ℕ) → Type 0
SinkOn t all whole every b None = Unit {0}
SinkOn t all whole every b (Some name) = NumberOn t all whole every b Write name

-- so have the names of a file and of the flag `w`
abbrev pub NameOn : (t : List ℕ) (all : List Item) (whole : List ℕ) (every : List Item) → CountsBefore → Verb → Argument → Type 0
NameOn t all whole every b (File u) a = NumberOn t all whole every b u (written_in t a)
NameOn t all whole every b other a = Unit {0}

abbrev pub FlagOn : (t : List ℕ) (all : List Item) (whole : List ℕ) (every : List Item) → CountsBefore → Argument → Type 0
FlagOn t all whole every b (FlaggedPair s e f) = SinkOn t all whole every b (sink_name t f)
FlagOn t all whole every b other = Unit {0}

abbrev pub FilesOn : (t : List ℕ) (all : List Item) (whole : List ℕ) (every : List Item) → CountsBefore → List Item → Type 0
FilesOn t all whole every b [] = Unit {0}
FilesOn t all whole every b (i ∷ is) = (NameOn t all whole every b i.verb i.argument × FlagOn t all whole every b i.argument) × FilesOn t all whole every b is

module _ (base count : ℕ) where
  pub counted_same : (more n m : ℕ) (i : Item) → m ≡ more + n → count_with m (move_item base count i) ≡ more + count_with n i
  counted_same more n m i e = by_test (becomes_command i.verb)
    where
      by_test : (t : Bool) → (if t then suc m else m) ≡ more + (if t then suc n else n)
      by_test true = omega (arith, e)
      by_test false = e

  -- a block that is closed is closed there too
  pub closing_on : (depth more n m : ℕ) (is rest : List Item) → m ≡ more + n → NextOn more (close_in depth n is) (close_in depth m (map (move_item base count) is ++ rest))
  closing_on depth more n m [] rest e = tt
  closing_on depth more n m (i ∷ is) rest e =
      by_test (is_close i.verb && depth == 0) _ _ (closing_on (depth_after depth i.verb) more (count_with n i) (count_with m (move_item base count i)) is rest (counted_same more n m i e))
    where
      by_test : (t : Bool) (x y : Option ℕ) → NextOn more x y → NextOn more (if t then Some n else x) (if t then Some m else y)
      by_test true x y h = ap (λ k. Some k) e
      by_test false x y h = h

-- what is written after a letter, and the name of a sink, are the same there
module _ (t whole : List ℕ) (base count : ℕ) (between : (from to : ℕ) → from ≤ to → to ≤ length t → bytes_between whole (base + from) (base + to) ≡ bytes_between t from to) where
  pub written_same : (a : Argument) → ArgumentIn (length t) a → written_in whole (move_argument base count a) ≡ written_in t a
  written_same (Between from to) h = between from to h.0 h.1
  written_same other h = refl

  pub sink_name_same : (f : Flags) → FileIn (length t) f.file → sink_name whole (move_flags base f) ≡ sink_name t f
  sink_name_same f h = by_file f.file h
    where
      by_file : (o : Option (ℕ × ℕ)) → FileIn (length t) o → option_map (λ name. bytes_between whole name.0 name.1) (option_map (move_span base) o) ≡ option_map (λ name. bytes_between t name.0 name.1) o
      by_file None h = refl
      by_file (Some x) h = ap (λ bs. Some bs) (between x.0 x.1 h.0 h.1)

address_same : (b : CountsBefore) (a : Option Address) → move_address b.expressions a ≡ address_behind b a
address_same b None = refl
address_same b (Some (Match None)) = refl
address_same b (Some (Match (Some k))) = refl
address_same b (Some (address.Line n)) = refl
address_same b (Some Last) = refl

-- what is taken of items, with one item more
pub taken_snoc : {A : Type 0} (h : Item → Option A) (is : List Item) (i : Item) → length (filter_map h (is ++ i ∷ [])) ≡ length (filter_map h is) + length (cons_option (h i) [])
taken_snoc h is i = ap (λ xs. length xs) (filter_map-append h is (i ∷ [])) ∙ length-append (filter_map h is) (cons_option (h i) [])

-- what is taken of an item is counted after it as before it
taken_on : {A : Type 0} (h : Item → Option A) (is js : List Item) (i : Item) (k : ℕ) → k ≡ length (filter_map h (is ++ i ∷ [])) + length (filter_map h js) → k ≡ length (filter_map h is) + length (filter_map h (i ∷ js))
taken_on h is js i k e = omega (arith, e, taken_snoc h is i, length_with (h i) (filter_map h js))

-- of items before which so many more come
taken_later : {A B : Type 0} (g : Item → Option A) (h : Item → Option B) (is js : List Item) (i j : Item) (n : ℕ) → length (cons_option (h j) []) ≡ length (cons_option (g i) []) → length (filter_map h js) ≡ n + length (filter_map g is) →
    length (filter_map h (js ++ j ∷ [])) ≡ n + length (filter_map g (is ++ i ∷ []))
taken_later g h is js i j n one e = omega (arith, one, e, taken_snoc g is i, taken_snoc h js j)

module _ (t whole : List ℕ) (base : ℕ) (b : CountsBefore) (between : (from to : ℕ) → from ≤ to → to ≤ length t → bytes_between whole (base + from) (base + to) ≡ bytes_between t from to) where
  abbrev moved : Item → Item
  moved = move_item base b.expressions

  abbrev made : Argument → Argument
  made = move_argument base b.expressions

  same_written : (a : Argument) → ArgumentIn (length t) a → written_in whole (made a) ≡ written_in t a
  same_written = written_same t whole base b.expressions between

  second_string : (s : Strings) → StringsIn (length t) s → bytes_between whole (base + s.middle + 1) (base + s.to) ≡ bytes_between t (s.middle + 1) s.to
  second_string s h =
      let one : base + s.middle + 1 ≡ base + (s.middle + 1) = omega arith in
      ap (λ (n : ℕ). bytes_between whole n (base + s.to)) one ∙ between (s.middle + 1) s.to (omega (arith, h.1)) (omega (arith, h.2))

  -- ---- texts and tables

  text_same : (verb : Verb) (a : Argument) → ArgumentIn (length t) a → text_in whole verb (made a) ≡ text_in t verb a
  text_same (Text u) a h = ap (λ (bs : List ℕ). Some (unescaped_from false bs)) (same_written a h)
  text_same other a h = refl

  with_more : {A : Type 0} (o p : Option A) (xs ys zs : List A) → o ≡ p → zs ≡ xs ++ ys → cons_option o zs ≡ cons_option p xs ++ ys
  with_more {A = A} o p xs ys zs e f = ap₂ (λ o zs. cons_option o zs) e f ∙ by_item p
    where
      by_item : (p : Option A) → cons_option p (xs ++ ys) ≡ cons_option p xs ++ ys
      by_item None = refl
      by_item (Some x) = refl

  pub texts_on : (is rest : List Item) → ItemsIn (length t) is → texts_of whole (map moved is ++ rest) ≡ texts_of t is ++ texts_of whole rest
  texts_on [] rest h = refl
  texts_on (i ∷ is) rest h = with_more _ _ (texts_of t is) (texts_of whole rest) _ (text_same i.verb i.argument h.0) (texts_on is rest h.1)

  table_same : (a : Argument) → ArgumentIn (length t) a → table_in whole (made a) ≡ table_in t a
  table_same (Pair s) h =
      ap₂ (λ xs ys. Some (table_of xs ys))
      (ap (λ (bs : List ℕ). bytes_of (chars_from s.delimiter false (base + s.from) bs)) (between s.from s.middle h.0 (omega (arith, h.1, h.2))) ∙ same_bytes s.delimiter (base + s.from) s.from false (bytes_between t s.from s.middle))
      (ap (λ (bs : List ℕ). bytes_of (chars_from s.delimiter false (base + s.middle + 1) bs)) (second_string s h) ∙ same_bytes s.delimiter (base + s.middle + 1) (s.middle + 1) false (bytes_between t (s.middle + 1) s.to))
  table_same other h = refl

  pub tables_on : (is rest : List Item) → ItemsIn (length t) is → tables_of whole (map moved is ++ rest) ≡ tables_of t is ++ tables_of whole rest
  tables_on [] rest h = refl
  tables_on (i ∷ is) rest h = with_more _ _ (tables_of t is) (tables_of whole rest) _ (table_same i.argument h.0) (tables_on is rest h.1)

  -- ---- substitutions

  sink_same : (every all : List Item) (o : Option (List ℕ)) → SinkOn t all whole every b o → option_map (number_in Write whole every) o ≡ option_map (sink_behind b) (option_map (number_in Write t all) o)
  sink_same every all None on = refl
  sink_same every all (Some name) on = ap (λ k. Some k) on

  substitution_same : (every all : List Item) (s : Strings) (e : Option ℕ) (f : Flags) → StringsIn (length t) s → FileIn (length t) f.file → SinkOn t all whole every b (sink_name t f) →
      substitution_in whole every (made (FlaggedPair s e f)) ≡ option_map (substitution_behind b) (substitution_in t all (FlaggedPair s e f))
  substitution_same every all s e f h inner on =
      ap₂ (λ bs sink. Some (record {
        expression = option_map (λ k. b.expressions + k) e;
        replacement = pieces_of s.delimiter bs;
        number = unwrap_or f.number 1;
        global = f.global;
        print = f.print;
        file = sink;
      })) (second_string s h) (ap (option_map (number_in Write whole every)) (sink_name_same t whole base b.expressions between f inner) ∙ sink_same every all (sink_name t f) on)

  substitution_on : (every all : List Item) (a : Argument) (xs : List Substitution) (ys : List Substitution) → ArgumentIn (length t) a → FlagOn t all whole every b a →
      cons_option (substitution_in whole every (made a)) (map (substitution_behind b) xs ++ ys) ≡ map (substitution_behind b) (cons_option (substitution_in t all a) xs) ++ ys
  substitution_on every all (FlaggedPair s e f) xs ys h on = ap (λ o. cons_option o (map (substitution_behind b) xs ++ ys)) (substitution_same every all s e f h.0 h.1 on)
  substitution_on every all other xs ys h on = refl

  pub substitutions_on : (every all is rest : List Item) → ItemsIn (length t) is → FilesOn t all whole every b is →
      substitutions_of whole every (map moved is ++ rest) ≡ map (substitution_behind b) (substitutions_of t all is) ++ substitutions_of whole every rest
  substitutions_on every all [] rest h k = refl
  substitutions_on every all (i ∷ is) rest h k =
      ap (cons_option (substitution_in whole every (made i.argument))) (substitutions_on every all is rest h.1 k.1) ∙ substitution_on every all i.argument (substitutions_of t all is) (substitutions_of whole every rest) h.0 k.0.1

  -- ---- commands

  block_on : (before there after rest : List Item) → commands_in there ≡ b.commands + commands_in before → ((n : ℕ) → is_none (close_in 0 n after) ≡ false) →
      action.Block (unwrap_or (block_end there (map moved after ++ rest)) 0) ≡ action_behind b (action.Block (unwrap_or (block_end before after) 0))
  block_on before there after rest e closes =
      by_end (block_end before after) (block_end there (map moved after ++ rest)) (closes (suc (commands_in before))) (closing_on base b.expressions 0 b.commands (suc (commands_in before)) (suc (commands_in there)) after rest (omega (arith, e)))
    where
      by_end : (o p : Option ℕ) → is_none o ≡ false → NextOn b.commands o p → action.Block (unwrap_or p 0) ≡ action_behind b (action.Block (unwrap_or o 0))
      by_end None p h g = absurd cc
      by_end (Some k) p h g = ap (λ (o : Option ℕ). action.Block (unwrap_or o 0)) g

  branch_on : (every all : List Item) (u : BranchUse) (a : Argument) → ArgumentIn (length t) a → BranchOn t all whole every b.commands (Branch u) a →
      action.Branch u (unwrap_or (branch_in whole every (written_in whole (made a))) 0) ≡ action_behind b (action.Branch u (unwrap_or (branch_in t all (written_in t a)) 0))
  branch_on every all u a inner on =
      ap (λ (bs : List ℕ). action.Branch u (unwrap_or (branch_in whole every bs) 0)) (same_written a inner)
      ∙ (ap (λ (o : Option ℕ). action.Branch u (unwrap_or o 0)) on.2 ∙ sym (ap (λ (o : Option ℕ). action_behind b (action.Branch u (unwrap_or o 0))) on.1))

  -- so many texts, substitutions and tables come before these items and behind those before them
  abbrev pub Later : (every all before there : List Item) → Type 0
  Later every all before there =
      (length (texts_of whole there) ≡ b.texts + length (texts_of t before))
      × (length (substitutions_of whole every there) ≡ b.substitutions + length (substitutions_of t all before))
      × (length (tables_of whole there) ≡ b.tables + length (tables_of t before))

  action_on : (every all before there after rest : List Item) (verb : Verb) (a : Argument) → commands_in there ≡ b.commands + commands_in before → Later every all before there → NameOn t all whole every b verb a → ClosesIn verb after → ArgumentIn (length t) a → BranchOn t all whole every b.commands verb a →
      action_of whole every there (map moved after ++ rest) verb (made a) ≡ option_map (action_behind b) (action_of t all before after verb a)
  action_on every all before there after rest (Plain s) a e later k closes inner leads = refl
  action_on every all before there after rest Open a e later k closes inner leads = ap (λ a. Some a) (block_on before there after rest e closes)
  action_on every all before there after rest (Text u) a e later k closes inner leads = ap (λ k. Some (action.Text u k)) later.0
  action_on every all before there after rest Substitute a same later k closes inner leads = ap (λ k. Some (action.Substitute k)) later.1
  action_on every all before there after rest Transliterate a e later k closes inner leads = ap (λ k. Some (action.Transliterate k)) later.2
  action_on every all before there after rest (Branch u) a e later k closes inner leads = ap (λ a. Some a) (branch_on every all u a inner leads)
  action_on every all before there after rest (File u) a e later k closes inner leads = ap (λ k. Some (action.File u k)) (ap (number_in u whole every) (same_written a inner) ∙ k)
  action_on every all before there after rest other a e later k closes inner leads = refl

  text_once : (verb : Verb) (a : Argument) → length (cons_option (text_in whole verb (made a)) []) ≡ length (cons_option (text_in t verb a) [])
  text_once (Text u) a = refl
  text_once other a = refl

  substitution_once : (every all : List Item) (a : Argument) → length (cons_option (substitution_in whole every (made a)) []) ≡ length (cons_option (substitution_in t all a) [])
  substitution_once every all (FlaggedPair s e f) = refl
  substitution_once every all other = refl

  table_once : (a : Argument) → length (cons_option (table_in whole (made a)) []) ≡ length (cons_option (table_in t a) [])
  table_once (Pair s) = refl
  table_once other = refl

  later_on : (every all before there : List Item) (i : Item) → Later every all before there → Later every all (before ++ i ∷ []) (there ++ moved i ∷ [])
  later_on every all before there i h = (
    taken_later (λ (j : Item). text_in t j.verb j.argument) (λ (j : Item). text_in whole j.verb j.argument) before there i (moved i) b.texts (text_once i.verb i.argument) h.0,
    taken_later (λ (j : Item). substitution_in t all j.argument) (λ (j : Item). substitution_in whole every j.argument) before there i (moved i) b.substitutions (substitution_once every all i.argument) h.1,
    taken_later (λ (j : Item). table_in t j.argument) (λ (j : Item). table_in whole j.argument) before there i (moved i) b.tables (table_once i.argument) h.2,
  )

  command_on : (a : Addresses) (o : Option Action) (xs ys : List Command) →
      cons_option (option_map (command_of (record { first = move_address b.expressions a.first; second = move_address b.expressions a.second; negate = a.negate })) (option_map (action_behind b) o)) (map (command_behind b) xs ++ ys)
      ≡ map (command_behind b) (cons_option (option_map (command_of a) o) xs) ++ ys
  command_on a None xs ys = refl
  command_on a (Some does) xs ys =
      ap₂ (λ first second. record { first = first; second = second; negate = a.negate; action = action_behind b does } ∷ (map (command_behind b) xs ++ ys)) (address_same b a.first) (address_same b a.second)

  -- so many commands, texts, substitutions and tables come before these items and behind those before them
  pub record NestedAs (every all before there : List Item) : Type 0 where
    pub commands : commands_in there ≡ b.commands + commands_in before
    pub counts : Later every all before there

  stands_on : (every all before there : List Item) (i : Item) → NestedAs every all before there → NestedAs every all (before ++ i ∷ []) (there ++ moved i ∷ [])
  stands_on every all before there i h = record {
    commands = commands_snoc there (moved i) ∙ (counted_same base b.expressions b.commands (commands_in before) (commands_in there) i h.commands ∙ ap (λ (k : ℕ). b.commands + k) (sym (commands_snoc before i)));
    counts = later_on every all before there i h.counts;
  }

  -- and so many behind them
  pub record Reaches (all before is after : List Item) : Type 0 where
    pub commands : commands_in after ≡ commands_in before + commands_in is
    pub texts : length (texts_of t after) ≡ length (texts_of t before) + length (texts_of t is)
    pub substitutions : length (substitutions_of t all after) ≡ length (substitutions_of t all before) + length (substitutions_of t all is)
    pub tables : length (tables_of t after) ≡ length (tables_of t before) + length (tables_of t is)

  reaches_on : (all before is : List Item) (i : Item) (after : List Item) → Reaches all (before ++ i ∷ []) is after → Reaches all before (i ∷ is) after
  reaches_on all before is i after h = record {
    commands = h.commands ∙ (ap (λ (k : ℕ). k + commands_in is) (commands_snoc before i) ∙ counted_in (commands_in before) i is);
    texts = taken_on (λ (j : Item). text_in t j.verb j.argument) before is i _ h.texts;
    substitutions = taken_on (λ (j : Item). substitution_in t all j.argument) before is i _ h.substitutions;
    tables = taken_on (λ (j : Item). table_in t j.argument) before is i _ h.tables;
  }

  -- the commands of the items, and those of what follows them
  pub commands_on : (every all before there is rest : List Item) (more : List Command) → NestedAs every all before there → FilesOn t all whole every b is → AllClose is → ItemsIn (length t) is → BranchesOn t all whole every b.commands is →
      ((after ahead : List Item) → Reaches all before is after → NestedAs every all after ahead → commands_of whole every ahead rest ≡ more) →
      commands_of whole every there (map moved is ++ rest) ≡ map (command_behind b) (commands_of t all before is) ++ more
  commands_on every all before there [] rest more stands k closes inner leads on =
      on before there (record { commands = omega arith; texts = omega arith; substitutions = omega arith; tables = omega arith }) stands
  commands_on every all before there (i ∷ is) rest more stands k closes inner leads on =
      let cs : List Command = commands_of t all (before ++ i ∷ []) is in
      ap₂ (λ o xs. cons_option (option_map (command_of (record { first = move_address b.expressions i.addresses.first; second = move_address b.expressions i.addresses.second; negate = i.addresses.negate })) o) xs)
      (action_on every all before there is rest i.verb i.argument stands.commands stands.counts k.0.0 closes.0 inner.0 leads.0)
      (commands_on every all (before ++ i ∷ []) (there ++ moved i ∷ []) is rest more (stands_on every all before there i stands) k.1 closes.1 inner.1 leads.1
      (λ after ahead h. on after ahead (reaches_on all before is i after h)))
      ∙ command_on i.addresses (action_of t all before is i.verb i.argument) cs more
