-- Two texts with a newline between them: no label and no block is wrong there if none is in the two.
use Rattle.std.proofs.Common.{not, ◌≡◌, ℕ, zero, suc, ◌+◌, ◌-◌, ◌≤◌, ◌&&◌, ◌||◌, ◌==◌, Bool, true, false, List, [], ◌∷◌, ◌++◌, length, map, Option, Some, None, is_none, is_some, refl, sym, ap, ap₂, subst, ◌∙◌, arith, if◌then◌else◌, slice_get, zero-add, append_assoc, length-append, option_map}
use Rattle.std.specs.List.{cons_option, list_all, list_any}
use Rattle.std.specs.Option.{option_or}
use Rattle.std.specs.Str.{bytes_eq}
use Rattle.std.proofs.lemmas.Bool.Decides.{nat_tests}
use Rattle.sedscript.specs.declared.types.Reason.{Reason}
use Rattle.sedscript.specs.declared.types.Action.{Action}
use Rattle.sedscript.specs.declared.types.Command.{Command}
use Rattle.sedscript.specs.declared.substitution.Substitution.{Substitution}
use Rattle.sedscript.specs.declared.items.Addresses.{Addresses}
use Rattle.sedscript.specs.declared.types.BranchUse.{BranchUse}
use Rattle.sedscript.specs.declared.types.FileUse.TheVariants.{Read, Write}
use Rattle.sedscript.specs.declared.items.Item.{Item}
use Rattle.sedscript.specs.declared.items.Argument.{Argument}
use Rattle.sedscript.specs.declared.items.Argument.TheVariants.{FlaggedPair}
use Rattle.sedscript.specs.declared.letters.Verb.{Verb}
use Rattle.sedscript.specs.declared.letters.Verb.TheVariants.{Open, Close, Label, Branch, File, Substitute}
use Rattle.sedscript.specs.Bytes.{bytes_between, fault_if}
use Rattle.sedscript.specs.Script.{written_in, count_with, commands_in, is_label, label_in, branch_in, depth_after, close_in, number_in, target_fault_at, target_fault_in, substitution_in, substitutions_of, action_of, command_of, commands_of}
use Rattle.sedscript.specs.Letters.{becomes_command, is_close}
use Rattle.sedscript.specs.Program.{Program}
use Rattle.examples.proofs.ComputedEnds.{both}
use Rattle.scripts.specs.InTurn.{edits_line, is_own, replaces_only}
use Rattle.sedscript.proofs.Labels.{counted_in}
use Rattle.sedscript.proofs.Places.{Follows}
use Rattle.scripts.proofs.Truth.{neither}
use Rattle.scripts.proofs.LongerStrings.{NextOn}
use Rattle.scripts.proofs.LongerFunctions.{move_argument, ArgumentIn}
use Rattle.scripts.proofs.LongerReading.{move_item}
use Rattle.scripts.proofs.JoinedCuts.{ItemsIn}
use Rattle.scripts.proofs.JoinedItems.{AllFollow, BranchOn, BranchesOn, counted_same, ClosesIn, AllClose, closing_on, taken_snoc, written_same}

-- ---- blocks

pub or_parts : {A : Type 0} (x y : Option A) → option_or x y ≡ None → (x ≡ None) × (y ≡ None)
or_parts None y e = (refl, e)
or_parts (Some x) y e = absurd cc

or_none : {A : Type 0} (x y : Option A) → x ≡ None → y ≡ None → option_or x y ≡ None
or_none None y e f = f
or_none (Some x) y e f = absurd cc

not_wrong : (t : Bool) (reason : Reason) (place : ℕ) → fault_if t reason place ≡ None → t ≡ false
not_wrong true reason place e = absurd cc
not_wrong false reason place e = refl

is_right : (t : Bool) (reason : Reason) (place : ℕ) → t ≡ false → fault_if t reason place ≡ None
is_right true reason place e = absurd cc
is_right false reason place e = refl

close_any : (depth n m : ℕ) (is : List Item) → is_none (close_in depth n is) ≡ is_none (close_in depth m is)
close_any depth n m [] = refl
close_any depth n m (i ∷ is) = by_test (is_close i.verb && depth == 0) (close_any (depth_after depth i.verb) (count_with n i) (count_with m i) is)
  where
    by_test : (t : Bool) → is_none (close_in (depth_after depth i.verb) (count_with n i) is) ≡ is_none (close_in (depth_after depth i.verb) (count_with m i) is) →
        is_none (if t then Some n else close_in (depth_after depth i.verb) (count_with n i) is) ≡ is_none (if t then Some m else close_in (depth_after depth i.verb) (count_with m i) is)
    by_test true h = refl
    by_test false h = h

closes_at : (text : List ℕ) (all before : List Item) (depth : ℕ) (after : List Item) (place : ℕ) (verb : Verb) (a : Argument) → target_fault_at text all before depth after place verb a ≡ None → ClosesIn verb after
closes_at text all before depth after place Open a e = λ n. close_any 0 n (suc (commands_in before)) after ∙ not_wrong _ _ _ e
closes_at text all before depth after place other a e = tt

pub all_close : (text : List ℕ) (all before : List Item) (depth : ℕ) (is : List Item) → target_fault_in text all before depth is ≡ None → AllClose is
all_close text all before depth [] e = tt
all_close text all before depth (i ∷ is) e =
    let parts = or_parts (target_fault_at text all before depth is i.place i.verb i.argument) (target_fault_in text all (before ++ i ∷ []) (depth_after depth i.verb) is) e in
    (closes_at text all before depth is i.place i.verb i.argument parts.0, all_close text all (before ++ i ∷ []) (depth_after depth i.verb) is parts.1)

-- how many blocks are open after the items
abbrev pub depth_over : ℕ → List Item → ℕ
depth_over depth [] = depth
depth_over depth (i ∷ is) = depth_over (depth_after depth i.verb) is

more_than_none : (k : ℕ) → (suc k == 0) ≡ false
more_than_none k = grind (arith, nat_tests)

-- a text leaves no more blocks open than were, and where it closes one of these, one less
depths : (is : List Item) → AllClose is → ((d : ℕ) → depth_over d is ≤ d) × ((d k n : ℕ) → is_none (close_in k n is) ≡ false → depth_over (suc (k + d)) is ≤ d)
depths [] h = (λ d. omega arith, λ d k n e. absurd cc)
depths (i ∷ is) h = let rest = depths is h.1 in (λ d. open_low i.verb d h.0 rest.0 rest.1, λ d k n e. close_low i.verb d k n (count_with n i) h.0 e rest.0 rest.1)
  where
    open_low : (f : Verb) (d : ℕ) → ClosesIn f is → ((d : ℕ) → depth_over d is ≤ d) → ((d k n : ℕ) → is_none (close_in k n is) ≡ false → depth_over (suc (k + d)) is ≤ d) → depth_over (depth_after d f) is ≤ d
    open_low Open d closes low closed = subst (λ (k : ℕ). depth_over (suc k) is ≤ d) (zero-add d) (closed d 0 0 (closes 0))
    open_low Close d closes low closed = let less = low (d - 1) in omega (arith, less)
    open_low other d closes low closed = low d

    close_low : (f : Verb) (d k n m : ℕ) → ClosesIn f is → is_none (if is_close f && k == 0 then Some n else close_in (depth_after k f) m is) ≡ false →
        ((d : ℕ) → depth_over d is ≤ d) → ((d k n : ℕ) → is_none (close_in k n is) ≡ false → depth_over (suc (k + d)) is ≤ d) → depth_over (depth_after (suc (k + d)) f) is ≤ d
    close_low Open d k n m closes e low closed = let one : suc k + d ≡ suc (k + d) = omega arith in subst (λ (x : ℕ). depth_over (suc x) is ≤ d) one (closed d (suc k) m e)
    close_low Close d zero n m closes e low closed = let one : d ≡ suc (0 + d) - 1 = omega arith in subst (λ (x : ℕ). depth_over x is ≤ d) one (low d)
    close_low Close d (suc k) n m closes e low closed =
        let one : suc k - 1 ≡ k = omega arith in
        let two : suc (k + d) ≡ suc (suc k + d) - 1 = omega arith in
        subst (λ (x : ℕ). depth_over x is ≤ d) two (closed d k m (subst (λ (x : ℕ). is_none (close_in x m is) ≡ false) one (subst (λ (t : Bool). is_none (if t then Some n else close_in (suc k - 1) m is) ≡ false) (more_than_none k) e)))
    close_low other d k n m closes e low closed = closed d k m e

pub none_open : (is : List Item) → AllClose is → depth_over 0 is ≡ 0
none_open is h = let low = (depths is h).0 0 in omega (arith, low)

-- ---- labels

abbrev pub names : List ℕ → List ℕ → Item → Bool
names text name i = is_label text name i.verb i.argument

any_snoc : (f : Item → Bool) (xs : List Item) (x : Item) → list_any f (xs ++ x ∷ []) ≡ (list_any f xs || f x)
any_snoc f [] x = by_test (f x)
  where
    by_test : (t : Bool) → (t || false) ≡ t
    by_test true = refl
    by_test false = refl
any_snoc f (y ∷ xs) x = ap (λ t. f y || t) (any_snoc f xs x) ∙ by_test (f y) (list_any f xs) (f x)
  where
    by_test : (s t u : Bool) → (s || (t || u)) ≡ ((s || t) || u)
    by_test true t u = refl
    by_test false t u = refl

pub none_named : (text name : List ℕ) (n : ℕ) (is : List Item) → label_in text name n is ≡ None → list_any (names text name) is ≡ false
none_named text name n [] e = refl
none_named text name n (i ∷ is) e = by_test (is_label text name i.verb i.argument) e (λ e. none_named text name (count_with n i) is e)
  where
    by_test : (t : Bool) → (if t then Some n else label_in text name (count_with n i) is) ≡ None → (label_in text name (count_with n i) is ≡ None → list_any (names text name) is ≡ false) → (t || list_any (names text name) is) ≡ false
    by_test true e on = absurd cc
    by_test false e on = on e

pub named_none : (text name : List ℕ) (n : ℕ) (is : List Item) → list_any (names text name) is ≡ false → label_in text name n is ≡ None
named_none text name n [] e = refl
named_none text name n (i ∷ is) e = by_test (is_label text name i.verb i.argument) e (λ e. named_none text name (count_with n i) is e)
  where
    by_test : (t : Bool) → (t || list_any (names text name) is) ≡ false → (list_any (names text name) is ≡ false → label_in text name (count_with n i) is ≡ None) → (if t then Some n else label_in text name (count_with n i) is) ≡ None
    by_test true e on = absurd cc
    by_test false e on = on e

or_false : (s t : Bool) → s ≡ false → t ≡ false → (s || t) ≡ false
or_false true t e f = absurd cc
or_false false t e f = f

-- each label has a name that Q is so of
abbrev pub LabelIs : (List ℕ → Type 0) → List ℕ → Verb → Argument → Type 0
LabelIs Q t Label a = Q (written_in t a)
LabelIs Q t other a = Unit {0}

abbrev pub LabelsAre : (List ℕ → Type 0) → List ℕ → List Item → Type 0
LabelsAre Q t [] = Unit {0}
LabelsAre Q t (i ∷ is) = LabelIs Q t i.verb i.argument × LabelsAre Q t is

module _ (t whole : List ℕ) (base count leap : ℕ) (between : (from to : ℕ) → from ≤ to → to ≤ length t → bytes_between whole (base + from) (base + to) ≡ bytes_between t from to) (Q : List ℕ → Type 0) where
  abbrev moved : Item → Item
  moved = move_item base count

  abbrev made : Argument → Argument
  made = move_argument base count

  label_same : (name : List ℕ) (verb : Verb) (a : Argument) → ArgumentIn (length t) a → is_label whole name verb (made a) ≡ is_label t name verb a
  label_same name Label a h = ap (λ (bs : List ℕ). bytes_eq bs name) (written_same t whole base count between a h)
  label_same name other a h = refl

  -- a label that is found is found there, so many commands later
  pub label_on : (name : List ℕ) (more n m : ℕ) (is rest : List Item) → ItemsIn (length t) is → m ≡ more + n → NextOn more (label_in t name n is) (label_in whole name m (map moved is ++ rest))
  label_on name more n m [] rest h e = tt
  label_on name more n m (i ∷ is) rest h e =
      by_test (is_label t name i.verb i.argument) (is_label whole name i.verb (made i.argument)) (label_same name i.verb i.argument h.0) _ _ (label_on name more (count_with n i) (count_with m (moved i)) is rest h.1 (counted_same base count more n m i e))
    where
      by_test : (s r : Bool) → r ≡ s → (x y : Option ℕ) → NextOn more x y → NextOn more (if s then Some n else x) (if r then Some m else y)
      by_test true true same x y h = ap (λ k. Some k) e
      by_test false false same x y h = h
      by_test true false same x y h = absurd cc
      by_test false true same x y h = absurd cc

  -- the names of the items are those that they have there
  pub names_on : (name : List ℕ) (is rest : List Item) → ItemsIn (length t) is → list_any (names whole name) (map moved is ++ rest) ≡ (list_any (names t name) is || list_any (names whole name) rest)
  names_on name [] rest h = refl
  names_on name (i ∷ is) rest h =
      ap₂ (λ s t. s || t) (label_same name i.verb i.argument h.0) (names_on name is rest h.1) ∙ by_test (names t name i) (list_any (names t name) is) (list_any (names whole name) rest)
    where
      by_test : (s t u : Bool) → (s || (t || u)) ≡ ((s || t) || u)
      by_test true t u = refl
      by_test false t u = refl

  -- such a name is no label before there, if it is none before here
  abbrev pub NoNew : (before there : List Item) → Type 0
  NoNew before there = (name : List ℕ) → Q name → list_any (names t name) before ≡ false → list_any (names whole name) there ≡ false

  no_new : (before there : List Item) (i : Item) → ArgumentIn (length t) i.argument → NoNew before there → NoNew (before ++ i ∷ []) (there ++ moved i ∷ [])
  no_new before there i h old name q e =
      let parts = neither (list_any (names t name) before) (names t name i) (sym (any_snoc (names t name) before i) ∙ e) in
      any_snoc (names whole name) there (moved i) ∙ or_false _ _ (old name q parts.0) (label_same name i.verb i.argument h ∙ parts.1)

  abbrev pub Behind : (before is ahead : List Item) → Type 0
  Behind before is ahead = (name : List ℕ) → Q name → list_any (names t name) before ≡ false → list_any (names t name) is ≡ false → list_any (names whole name) ahead ≡ false

  fault_on : (all every before there after rest : List Item) (depth at place : ℕ) (verb : Verb) (a : Argument) → ArgumentIn (length t) a → BranchOn t all whole every leap verb a → ClosesIn verb after → LabelIs Q t verb a → NoNew before there → target_fault_at t all before depth after at verb a ≡ None →
      target_fault_at whole every there depth (map moved after ++ rest) place verb (made a) ≡ None
  fault_on all every before there after rest depth at place Open a h k closes q old e =
      is_right _ _ place (by_end (close_in 0 0 after) (close_in 0 (suc (commands_in there)) (map moved after ++ rest)) (closes 0) (closing_on base count 0 (suc (commands_in there)) 0 (suc (commands_in there)) after rest (omega arith)))
    where
      by_end : (o p : Option ℕ) → is_none o ≡ false → NextOn (suc (commands_in there)) o p → is_none p ≡ false
      by_end None p h g = absurd cc
      by_end (Some k) p h g = ap (λ (o : Option ℕ). is_none o) g
  fault_on all every before there after rest depth at place Close a h k closes q old e = is_right _ _ place (not_wrong _ _ at e)
  fault_on all every before there after rest depth at place Label a h k closes q old e =
      let name : List ℕ = written_in t a in
      let free : label_in t name 0 before ≡ None = none_of (label_in t name 0 before) (not_wrong _ _ at e) in
      let none : label_in whole name 0 there ≡ None = named_none whole name 0 there (old name q (none_named t name 0 before free)) in
      is_right _ _ place (ap (λ (bs : List ℕ). is_some (label_in whole bs 0 there)) (written_same t whole base count between a h) ∙ ap (λ (o : Option ℕ). is_some o) none)
    where
      none_of : (o : Option ℕ) → is_some o ≡ false → o ≡ None
      none_of None h = refl
      none_of (Some k) h = absurd cc
  fault_on all every before there after rest depth at place (Branch u) a h k closes q old e =
      is_right _ _ place (ap (λ (bs : List ℕ). is_none (branch_in whole every bs)) (written_same t whole base count between a h) ∙ ap (λ (o : Option ℕ). is_none o) k.2)
  fault_on all every before there after rest depth at place other a h k closes q old e = refl

  pub faults_on : (all every before there is rest : List Item) (depth : ℕ) → ItemsIn (length t) is → BranchesOn t all whole every leap is → AllClose is → LabelsAre Q t is → NoNew before there → target_fault_in t all before depth is ≡ None →
      ((ahead : List Item) → Behind before is ahead → target_fault_in whole every ahead (depth_over depth is) rest ≡ None) → target_fault_in whole every there depth (map moved is ++ rest) ≡ None
  faults_on all every before there [] rest depth h k closes q old e on = on there (λ name q f g. old name q f)
  faults_on all every before there (i ∷ is) rest depth h k closes q old e on =
      let parts = or_parts (target_fault_at t all before depth is i.place i.verb i.argument) (target_fault_in t all (before ++ i ∷ []) (depth_after depth i.verb) is) e in
      or_none _ _ (fault_on all every before there is rest depth i.place (base + i.place) i.verb i.argument h.0 k.0 closes.0 q.0 old parts.0)
      (faults_on all every (before ++ i ∷ []) (there ++ moved i ∷ []) is rest (depth_after depth i.verb) h.1 k.1 closes.1 q.1 (no_new before there i h.0 old) parts.1
      (λ ahead behind. on ahead (λ name p f g. let two = neither (names t name i) (list_any (names t name) is) g in behind name p (any_snoc (names t name) before i ∙ or_false _ _ f two.0) two.1)))

-- where a name is no label of these items, its label is sought behind them
pub label_skip : (text name : List ℕ) (n : ℕ) (xs ys : List Item) → list_any (names text name) xs ≡ false → label_in text name n (xs ++ ys) ≡ label_in text name (n + commands_in xs) ys
label_skip text name n [] ys e = let same : n ≡ n + 0 = omega arith in ap (λ (k : ℕ). label_in text name k ys) same
label_skip text name n (i ∷ xs) ys e =
    let parts = neither (names text name i) (list_any (names text name) xs) e in
    ap (λ (t : Bool). if t then Some n else label_in text name (count_with n i) (xs ++ ys)) parts.0 ∙ (label_skip text name (count_with n i) xs ys parts.1 ∙ ap (λ (k : ℕ). label_in text name k ys) (counted_in n i xs))

pub commands_moved : (base count : ℕ) (is rest : List Item) → commands_in (map (move_item base count) is ++ rest) ≡ commands_in is + commands_in rest
commands_moved base count [] rest = omega arith
commands_moved base count (i ∷ is) rest =
    by_test (becomes_command i.verb) (commands_moved base count is rest)
  where
    by_test : (t : Bool) → commands_in (map (move_item base count) is ++ rest) ≡ commands_in is + commands_in rest →
        (if t then suc (commands_in (map (move_item base count) is ++ rest)) else commands_in (map (move_item base count) is ++ rest)) ≡ (if t then suc (commands_in is) else commands_in is) + commands_in rest
    by_test true e = omega (arith, e)
    by_test false e = e

-- a branch that isn't wrong leads somewhere
pub leads_somewhere : (text : List ℕ) (all before : List Item) (depth : ℕ) (after : List Item) (place : ℕ) (u : BranchUse) (a : Argument) → target_fault_at text all before depth after place (Branch u) a ≡ None →
    (k : ℕ) × (branch_in text all (written_in text a) ≡ Some k)
leads_somewhere text all before depth after place u a e = by_end (branch_in text all (written_in text a)) (not_wrong _ _ place e)
  where
    by_end : (o : Option ℕ) → is_none o ≡ false → (k : ℕ) × (o ≡ Some k)
    by_end None h = absurd cc
    by_end (Some k) h = (k, refl)

-- ---- commands that pass a test

module _ (test : Action → Bool) where
  abbrev pub Passes : Option Action → Type 0
  Passes None = Unit {0}
  Passes (Some does) = test does ≡ true

  pub parts_of : (a : Addresses) (o : Option Action) (cs : List Command) → list_all (λ (c : Command). test c.action) (cons_option (option_map (command_of a) o) cs) ≡ true → Passes o × (list_all (λ (c : Command). test c.action) cs ≡ true)
  parts_of a None cs e = (tt, e)
  parts_of a (Some does) cs e = both (test does) (list_all (λ (c : Command). test c.action) cs) e

-- ---- scripts that only edit have no files

-- no file is read or written
abbrev pub NoFile : Verb → Argument → Type 0
NoFile (File u) a = ⊥
NoFile verb (FlaggedPair s e f) = f.file ≡ None
NoFile verb a = Unit {0}

abbrev pub NoFiles : List Item → Type 0
NoFiles [] = Unit {0}
NoFiles (i ∷ is) = NoFile i.verb i.argument × NoFiles is

module _ (p : Program) (text : List ℕ) (all : List Item) where
  -- the substitution that follows a letter has this number
  abbrev Numbered : ℕ → Argument → Type 0
  Numbered n (FlaggedPair s e f) = slice_get p.substitutions n ≡ substitution_in text all (FlaggedPair s e f)
  Numbered n other = Unit {0}

  at_seam : (xs ys : List Substitution) (k : ℕ) (x : Substitution) → length xs ≡ k → slice_get (xs ++ x ∷ ys) k ≡ Some x
  at_seam [] ys zero x e = refl
  at_seam [] ys (suc k) x e = absurd (omega (arith, e))
  at_seam (y ∷ xs) ys zero x e = absurd (omega (arith, e))
  at_seam (y ∷ xs) ys (suc k) x e = at_seam xs ys k x (omega (arith, e))

  abbrev Left : ℕ → List Substitution → Type 0
  Left n rest = (before : List Substitution) × (p.substitutions ≡ before ++ rest) × (length before ≡ n)

  one_left : (n : ℕ) (x : Substitution) (rest : List Substitution) → Left n (x ∷ rest) → Left (n + 1) rest × (slice_get p.substitutions n ≡ Some x)
  one_left n x rest left =
      ((left.0 ++ x ∷ [], left.1 ∙ sym (append_assoc left.0 (x ∷ []) rest), length-append left.0 (x ∷ []) ∙ ap (λ (k : ℕ). k + 1) left.2), ap (λ (xs : List Substitution). slice_get xs n) left.1 ∙ at_seam left.0 rest n x left.2)

  step : (n : ℕ) (a : Argument) (rest : List Substitution) → Left n (cons_option (substitution_in text all a) rest) → Left (n + length (cons_option (substitution_in text all a) [])) rest × Numbered n a
  step n (FlaggedPair s e f) rest left = one_left n _ rest left
  step n other rest left = ((left.0, left.1, omega (arith, left.2)), tt)

  file_none : (o : Option Substitution) (t : Substitution) → o ≡ Some t → replaces_only p o ≡ true → is_none t.file ≡ true
  file_none None t e h = absurd cc
  file_none (Some x) t e h =
      let same : x ≡ t = cc in
      let one = both (is_own p x.expression) (not x.print && is_none x.file) h in
      ap (λ (x : Substitution). is_none x.file) (sym same) ∙ (both (not x.print) (is_none x.file) one.1).1

  no_file_at : (before after : List Item) (verb : Verb) (a : Argument) → Follows verb a → Passes (edits_line p) (action_of text all before after verb a) → Numbered (length (substitutions_of text all before)) a → NoFile verb a
  no_file_at before after (File Read) a follows pass number = absurd cc
  no_file_at before after (File Write) a follows pass number = absurd cc
  no_file_at before after Substitute (FlaggedPair s e f) follows pass number = by_file f.file (file_none (slice_get p.substitutions (length (substitutions_of text all before))) _ number pass)
    where
      by_file : (o : Option (ℕ × ℕ)) → is_none (option_map (number_in Write text all) (option_map (λ name. bytes_between text name.0 name.1) o)) ≡ true → o ≡ None
      by_file None h = refl
      by_file (Some name) h = absurd cc
  no_file_at before after other (FlaggedPair s e f) follows pass number = absurd follows
  no_file_at before after other a follows pass number = tt

  pub no_files_all : (before is : List Item) → AllFollow is → Left (length (substitutions_of text all before)) (substitutions_of text all is) → list_all (λ (c : Command). edits_line p c.action) (commands_of text all before is) ≡ true → NoFiles is
  no_files_all before [] follow left e = tt
  no_files_all before (i ∷ is) follow left e =
      let parts = parts_of (edits_line p) i.addresses (action_of text all before is i.verb i.argument) (commands_of text all (before ++ i ∷ []) is) e in
      let next = step (length (substitutions_of text all before)) i.argument (substitutions_of text all is) left in
      let behind : Left (length (substitutions_of text all (before ++ i ∷ []))) (substitutions_of text all is) =
      subst (λ (n : ℕ). Left n (substitutions_of text all is)) (sym (taken_snoc (λ (j : Item). substitution_in text all j.argument) before i)) next.0 in
      (no_file_at before is i.verb i.argument follow.0 parts.0 next.1, no_files_all (before ++ i ∷ []) is follow.1 behind parts.1)
