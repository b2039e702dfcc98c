-- What a script means (XCU sed, "Extended Description", "Editing Commands in sed"), and the text that its parts make (XCU sed, Options).
use Rattle.std.specs.Prelude.{ℕ, suc, ◌+◌, ◌-◌, if◌then◌else◌, List, [], ◌∷◌, ◌++◌, nat_eq, ◌<◌, ◌≤◌, length, is_none, is_some, Some, Ok, ◌≡◌, Bool, true, false, not, ◌&&◌, Option, None, ◌==◌, codes, filter, filter_map, slice_get, unwrap_or, option_map, option_and_then}
use Rattle.std.specs.List.{cons_option, ends_with, position_from, take_while}
use Rattle.std.specs.Option.{option_or}
use Rattle.std.specs.Str.{bytes_eq}
use Rattle.std.specs.Bool.{then_some}
use Rattle.sedre.specs.Tree.{WrittenExpression, expression_tree}
use Rattle.sedre.specs.Grammar.{ReadsAs, ExprFaulty}
use Rattle.sedscript.specs.Types.{Kind, ExprReason, ScriptFault, OpenBlock, StrayClose, RepeatedLabel, UnknownLabel, Action, Command, FileUse, Flags, Strings, Verb, Argument, Between, Pair, FlaggedPair, Addresses, Item, Is, Substitution}
use Rattle.sedscript.specs.declared.letters.Verb.TheVariants.{Plain, Open, Close, Label, Branch, Text, File, Substitute, Transliterate}
use Rattle.sedscript.specs.declared.types.Action.TheVariants as action
use Rattle.sedscript.specs.declared.types.FileUse.TheVariants.{Read, Write}
use Rattle.sedscript.specs.Bytes.{bytes_between, Separator, Line, belongs, past, fault_if}
use Rattle.sedscript.specs.Strings.{pieces_of, chars_of, bytes_of, table_of}
use Rattle.sedscript.specs.Letters.{becomes_command, is_open, is_close}
use Rattle.sedscript.specs.Items.{PatternExtent, Reading, plainly, expression, item_at}
use Rattle.sedscript.specs.Program.{Program}

-- the text with one part more, and a newline where the part doesn't end with one
abbrev pub with_part : List ℕ → List ℕ → List ℕ
with_part text part = text ++ part ++ (if ends_with nat_eq part (10 ∷ []) then [] else 10 ∷ [])

-- the text of a pattern is this expression (XBD 9.3, 9.4), has no fault and no more nodes than allowed
pub record IsRead (text : List ℕ) (kind : Kind) (max_nodes : ℕ) (p : PatternExtent) (e : WrittenExpression) : Type 0 where
  pub reads : ReadsAs kind p.folded (Some p.delimiter) (bytes_between text p.from p.to) (expression_tree e) e.groups
  pub no_fault : (place : ℕ) (reason : ExprReason) →
      ExprFaulty kind (Some p.delimiter) (bytes_between text p.from p.to) max_nodes place reason → ⊥
  pub fits : length e.nodes ≤ max_nodes

-- what is read is this value, with these expressions
pub data Gives (text : List ℕ) (kind : Kind) (max_nodes : ℕ) {A : Type 0} : Reading A → List WrittenExpression → A → Type 0 where
  value : {x : A} → Gives text kind max_nodes (plainly (Ok x)) [] x
  after_expression : {p : PatternExtent} {k : ℕ → Reading A} {es : List WrittenExpression} {x : A} (e : WrittenExpression) →
      IsRead text kind max_nodes p e → Gives text kind max_nodes (k e.groups) es x →
      Gives text kind max_nodes (expression p k) (e ∷ es) x

-- the text has these items and expressions from one place, with so many expressions before it, up to another
pub data CutScript (text : List ℕ) (kind : Kind) (max_nodes : ℕ) : ℕ → ℕ → List Item → List WrittenExpression → ℕ → Type 0 where
  done : {count at : ℕ} → CutScript text kind max_nodes count at [] [] at
  next_item : {count at next to : ℕ} {i : Item} {is : List Item} (es fs : List WrittenExpression) →
      Gives text kind max_nodes (item_at text count at) es (Is i next) →
      CutScript text kind max_nodes (count + length es) next is fs to →
      CutScript text kind max_nodes count at (i ∷ is) (es ++ fs) to

-- nothing but separators follows a place
abbrev pub IsEnd : List ℕ → ℕ → Type 0
IsEnd text at = slice_get text (past Separator text at) ≡ None

-- a text without its backslashes, given whether its first byte is escaped: an escaped byte stands for itself
abbrev pub unescaped_from : Bool → List ℕ → List ℕ
unescaped_from escaped [] = []
unescaped_from escaped (b ∷ bs) = if not escaped && b == 92 then unescaped_from true bs else b ∷ unescaped_from false bs

-- the name or the text that follows a letter, as it is written; empty where none does
abbrev pub written_in : List ℕ → Argument → List ℕ
written_in text (Between from to) = bytes_between text from to
written_in text a = []

-- whether a name stands for the standard output, where it is written to (this project's own)
abbrev pub is_standard_output : List ℕ → Bool
is_standard_output name = bytes_eq name (codes "/dev/stdout")

-- whether a name is a file's: each but the standard output's where it is written (this project's own)
abbrev pub is_file : FileUse → List ℕ → Bool
is_file Read name = true
is_file Write name = not (is_standard_output name)

-- the name of the sink of an `s`, if it has one: that after its flag `w`
abbrev pub sink_name : List ℕ → Flags → Option (List ℕ)
sink_name text f = option_map (λ name. bytes_between text name.0 name.1) f.file

-- the name that a function reads or writes by, if it does so
abbrev pub name_in : FileUse → List ℕ → Verb → Argument → Option (List ℕ)
name_in Read text (File Read) a = Some (written_in text a)
name_in Write text (File Write) a = Some (written_in text a)
name_in Write text verb (FlaggedPair s e f) = sink_name text f
name_in u text verb a = None

-- the name, if it is a file's
abbrev pub file_in : FileUse → Option (List ℕ) → Option (List ℕ)
file_in u name = option_and_then (λ n. then_some (is_file u n) n) name

-- each name once, in the order in which they first occur
abbrev pub distinct : List (List ℕ) → List (List ℕ)
distinct [] = []
distinct (n ∷ ns) = n ∷ filter (λ m. not (bytes_eq n m)) (distinct ns)

-- the files that the items read, or write. Equal names are one file (this project's own)
abbrev pub files_in : FileUse → List ℕ → List Item → List (List ℕ)
files_in u text items = distinct (filter_map (λ i. file_in u (name_in u text i.verb i.argument)) items)

-- the files that the items read, and those that they write
abbrev pub read_files : List ℕ → List Item → List (List ℕ)
read_files text items = files_in Read text items

abbrev pub written_files : List ℕ → List Item → List (List ℕ)
written_files text items = files_in Write text items

-- the number of a name among the items' files: from 0 for those read, and from 1 for those written, since 0 is the standard output
abbrev pub number_in : FileUse → List ℕ → List Item → List ℕ → ℕ
number_in Read text items name = unwrap_or (position_from (bytes_eq name) 0 (files_in Read text items)) 0
number_in Write text items name =
    if is_standard_output name then 0
    else unwrap_or (position_from (bytes_eq name) 1 (files_in Write text items)) 0

-- the number of the sink of an `s`, if it has one
abbrev pub sink_of : List ℕ → List Item → Flags → Option ℕ
sink_of text items f = option_map (number_in Write text items) (sink_name text f)

-- the number of commands up to and including this item, given the number before it
abbrev pub count_with : ℕ → Item → ℕ
count_with n i = if becomes_command i.verb then suc n else n

-- how many commands the items become
abbrev pub commands_in : List Item → ℕ
commands_in [] = 0
commands_in (i ∷ is) = if becomes_command i.verb then suc (commands_in is) else commands_in is

-- whether the function is a label of this name
abbrev pub is_label : List ℕ → List ℕ → Verb → Argument → Bool
is_label text name Label a = bytes_eq (written_in text a) name
is_label text name verb a = false

-- the number of the command after the first label of this name, with so many commands before the items
abbrev pub label_in : List ℕ → List ℕ → ℕ → List Item → Option ℕ
label_in text name n [] = None
label_in text name n (i ∷ is) = if is_label text name i.verb i.argument then Some n else label_in text name (count_with n i) is

-- where a branch to this label leads: an empty one stands for the end of the script
abbrev pub branch_in : List ℕ → List Item → List ℕ → Option ℕ
branch_in text items [] = Some (commands_in items)
branch_in text items name = label_in text name 0 items

-- how many blocks are open after a function, given how many are before it
abbrev pub depth_after : ℕ → Verb → ℕ
depth_after depth verb = if is_open verb then suc depth else if is_close verb then depth - 1 else depth

-- the number of the command after the brace that closes a block, with so many inner blocks open and commands before the items
abbrev pub close_in : ℕ → ℕ → List Item → Option ℕ
close_in depth n [] = None
close_in depth n (i ∷ is) =
    if is_close i.verb && depth == 0 then Some n
    else close_in (depth_after depth i.verb) (count_with n i) is

-- the end of the block whose brace is between these items
abbrev pub block_end : List Item → List Item → Option ℕ
block_end before after = close_in 0 (suc (commands_in before)) after

-- the text of a function, if it is `a`, `i` or `c`
abbrev pub text_in : List ℕ → Verb → Argument → Option (List ℕ)
text_in text (Text t) a = Some (unescaped_from false (written_in text a))
text_in text verb a = None

-- the texts of the items, in order
abbrev pub texts_of : List ℕ → List Item → List (List ℕ)
texts_of text items = filter_map (λ i. text_in text i.verb i.argument) items

-- the substitution of an `s` with these strings, expression and flags. Without a number it begins with the first occurrence
abbrev pub substitution_of : List ℕ → List Item → Strings → Option ℕ → Flags → Substitution
substitution_of text all s e f = record {
  expression = e;
  replacement = pieces_of s.delimiter (bytes_between text (s.middle + 1) s.to);
  number = unwrap_or f.number 1;
  global = f.global;
  print = f.print;
  file = sink_of text all f;
}

-- the substitution that follows a letter, if one does
abbrev pub substitution_in : List ℕ → List Item → Argument → Option Substitution
substitution_in text all (FlaggedPair s e f) = Some (substitution_of text all s e f)
substitution_in text all a = None

-- the substitutions of items among all items, in order
abbrev pub substitutions_of : List ℕ → List Item → List Item → List Substitution
substitutions_of text all items = filter_map (λ i. substitution_in text all i.argument) items

-- the table of a `y` whose strings are there
abbrev pub table_between : List ℕ → Strings → List ℕ
table_between text s =
    table_of (bytes_of (chars_of text s.delimiter s.from s.middle)) (bytes_of (chars_of text s.delimiter (s.middle + 1) s.to))

-- the table that follows a letter, if one does
abbrev pub table_in : List ℕ → Argument → Option (List ℕ)
table_in text (Pair s) = Some (table_between text s)
table_in text a = None

-- the tables of the items, in order
abbrev pub tables_of : List ℕ → List Item → List (List ℕ)
tables_of text items = filter_map (λ i. table_in text i.argument) items

-- the action of a function, if it becomes a command. The number of a text, a substitution or a table is how many come before it
abbrev pub action_of : List ℕ → List Item → List Item → List Item → Verb → Argument → Option Action
action_of text all before after (Plain s) a = Some (action.Plain s)
action_of text all before after Open a = Some (action.Block (unwrap_or (block_end before after) 0))
action_of text all before after (Branch u) a = Some (action.Branch u (unwrap_or (branch_in text all (written_in text a)) 0))
action_of text all before after (Text t) a = Some (action.Text t (length (texts_of text before)))
action_of text all before after (File u) a = Some (action.File u (number_in u text all (written_in text a)))
action_of text all before after Substitute a = Some (action.Substitute (length (substitutions_of text all before)))
action_of text all before after Transliterate a = Some (action.Transliterate (length (tables_of text before)))
action_of text all before after verb a = None

-- an action leads to a command or the end, and has one of the texts, files, substitutions or tables; a sink is the standard
-- output or one of so many files that are written
abbrev pub ActionWithin : Program → Action → Type 0
ActionWithin p (action.Block to) = to ≤ length p.commands
ActionWithin p (action.Branch u to) = to ≤ length p.commands
ActionWithin p (action.Text t k) = k < length p.texts
ActionWithin p (action.File Read k) = k < length p.rfiles
ActionWithin p (action.File Write sink) = sink ≤ length p.wfiles
ActionWithin p (action.Substitute k) = k < length p.substitutions
ActionWithin p (action.Transliterate k) = k < length p.tables
ActionWithin p other = Unit {0}

-- the fault of a function at a place among all items, given those before it, which leave so many blocks open, and those after
-- it. That a label may not occur twice is this project's own
abbrev pub target_fault_at : List ℕ → List Item → List Item → ℕ → List Item → ℕ → Verb → Argument → Option ScriptFault
target_fault_at text all before depth after place Open a = fault_if (is_none (block_end before after)) OpenBlock place
target_fault_at text all before depth after place Close a = fault_if (depth == 0) StrayClose place
target_fault_at text all before depth after place Label a = fault_if (is_some (label_in text (written_in text a) 0 before)) RepeatedLabel place
target_fault_at text all before depth after place (Branch u) a = fault_if (is_none (branch_in text all (written_in text a))) UnknownLabel place
target_fault_at text all before depth after place verb a = None

-- the first fault of labels and blocks in the items after these, which leave so many blocks open
abbrev pub target_fault_in : List ℕ → List Item → List Item → ℕ → List Item → Option ScriptFault
target_fault_in text all before depth [] = None
target_fault_in text all before depth (i ∷ is) =
    option_or (target_fault_at text all before depth is i.place i.verb i.argument)
    (target_fault_in text all (before ++ i ∷ []) (depth_after depth i.verb) is)

-- the first fault of labels and blocks, judged once the whole text is cut (this project's own)
abbrev pub target_fault : List ℕ → List Item → Option ScriptFault
target_fault text items = target_fault_in text items [] 0 items

-- the command with these addresses and this action
abbrev pub command_of : Addresses → Action → Command
command_of a does = record { first = a.first; second = a.second; negate = a.negate; action = does }

-- the commands that the items become, in the order of their letters, given the items before them
abbrev pub commands_of : List ℕ → List Item → List Item → List Item → List Command
commands_of text all before [] = []
commands_of text all before (i ∷ is) =
    cons_option (option_map (command_of i.addresses) (action_of text all before is i.verb i.argument)) (commands_of text all (before ++ i ∷ []) is)

-- whether the first line of the whole text, whatever parts made it, is exactly `#n` (this project's own narrowing)
abbrev pub is_quiet : List ℕ → Bool
is_quiet text = bytes_eq (take_while (belongs Line) text) (codes "#n")

-- the text is cut to its end into these items and expressions, and no label or block is wrong
pub record CutWithoutFault (text : List ℕ) (kind : Kind) (max_nodes : ℕ) (items : List Item) (expressions : List WrittenExpression)
    (to : ℕ) : Type 0 where
  pub cut : CutScript text kind max_nodes 0 0 items expressions to
  pub ends : IsEnd text to
  pub settled : target_fault text items ≡ None

-- the text means this script
pub record Means (text : List ℕ) (kind : Kind) (max_nodes : ℕ) (s : Program) : Type 0 where
  pub items : List Item
  pub to : ℕ
  pub judged : CutWithoutFault text kind max_nodes items s.expressions to
  pub commands : s.commands ≡ commands_of text items [] items
  pub texts : s.texts ≡ texts_of text items
  pub substitutions : s.substitutions ≡ substitutions_of text items items
  pub tables : s.tables ≡ tables_of text items
  pub rfiles : s.rfiles ≡ read_files text items
  pub wfiles : s.wfiles ≡ written_files text items
  pub quiet : s.quiet ≡ is_quiet text
  pub nodes : s.max_nodes ≡ max_nodes
