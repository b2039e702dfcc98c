-- The files of two texts with a newline between them, where no name is a file of both.
use Rattle.std.proofs.Common.{◌≡◌, ℕ, zero, suc, ◌+◌, ◌≤◌, ◌||◌, cond, Bool, true, false, not, List, [], ◌∷◌, ◌++◌, length, map, filter, filter_map, Option, Some, None, is_some, option_map, unwrap_or, refl, sym, ap, ap₂, ◌∙◌, arith, if◌then◌else◌}
use Rattle.std.specs.List.{list_any, cons_option, position_from}
use Rattle.std.specs.Str.{bytes_eq}
use Rattle.std.proofs.lemmas.List.Elements.{filter-append}
use Rattle.std.proofs.lemmas.Slice.Eq.{bytes_eq-Decides}
use Rattle.sedscript.specs.declared.types.FileUse.{FileUse}
use Rattle.sedscript.specs.declared.types.FileUse.TheVariants.{Read, Write}
use Rattle.sedscript.specs.declared.items.Item.{Item}
use Rattle.sedscript.specs.declared.items.Argument.{Argument}
use Rattle.sedscript.specs.declared.items.Argument.TheVariants.{FlaggedPair}
use Rattle.sedscript.specs.declared.letters.Verb.{Verb}
use Rattle.sedscript.specs.declared.letters.Verb.TheVariants.{File, Substitute}
use Rattle.sedscript.specs.Bytes.{bytes_between}
use Rattle.sedscript.specs.Script.{written_in, is_standard_output, is_file, sink_name, name_in, file_in, distinct, files_in, number_in}
use Rattle.sedscript.proofs.Bounds.{any_more, file_there}
use Rattle.sedscript.proofs.FileTables.{any_distinct, any_number}
use Rattle.scripts.specs.InTurn.{CountsBefore, sink_behind}
use Rattle.scripts.specs.OneText.{apart}
use Rattle.examples.proofs.ComputedEnds.{both}
use Rattle.scripts.proofs.Truth.{neither, not_so}
use Rattle.scripts.proofs.LongerStrings.{NextOn}
use Rattle.scripts.proofs.LongerFunctions.{move_argument, ArgumentIn}
use Rattle.scripts.proofs.LongerReading.{move_item}
use Rattle.scripts.proofs.JoinedCuts.{ItemsIn}
use Rattle.scripts.proofs.JoinedFaults.{NoFile, NoFiles}
use Rattle.scripts.proofs.JoinedItems.{AllFollow, FlagOn, FilesOn, NameOn, NumberOn, SinkOn, sink_name_same, written_same}
use Rattle.sedscript.proofs.Places.{Follows}

-- ---- names, each once

or_else : (s t : Bool) → s ≡ false → t ≡ false → (s || t) ≡ false
or_else true t e f = absurd cc
or_else false t e f = f

none_filtered : (x : List ℕ) (keep : List ℕ → Bool) (ds : List (List ℕ)) → list_any (bytes_eq x) ds ≡ false → list_any (bytes_eq x) (filter keep ds) ≡ false
none_filtered x keep [] h = refl
none_filtered x keep (d ∷ ds) h = let parts = neither (bytes_eq x d) (list_any (bytes_eq x) ds) h in by_test (keep d) parts.0 (none_filtered x keep ds parts.1)
  where
    by_test : (t : Bool) → bytes_eq x d ≡ false → list_any (bytes_eq x) (filter keep ds) ≡ false → list_any (bytes_eq x) (cond t (d ∷ filter keep ds) (filter keep ds)) ≡ false
    by_test true e f = or_else _ _ e f
    by_test false e f = f

pub none_distinct : (x : List ℕ) (xs : List (List ℕ)) → list_any (bytes_eq x) xs ≡ false → list_any (bytes_eq x) (distinct xs) ≡ false
none_distinct x [] h = refl
none_distinct x (y ∷ ys) h =
    let parts = neither (bytes_eq x y) (list_any (bytes_eq x) ys) h in
    or_else _ _ parts.0 (none_filtered x (λ m. not (bytes_eq y m)) (distinct ys) (none_distinct x ys parts.1))

all_kept : (x : List ℕ) (ds : List (List ℕ)) → list_any (bytes_eq x) ds ≡ false → filter (λ m. not (bytes_eq x m)) ds ≡ ds
all_kept x [] h = refl
all_kept x (d ∷ ds) h =
    let parts = neither (bytes_eq x d) (list_any (bytes_eq x) ds) h in
    ap (λ (t : Bool). cond (not t) (d ∷ filter (λ m. not (bytes_eq x m)) ds) (filter (λ m. not (bytes_eq x m)) ds)) parts.0 ∙ ap (λ (xs : List (List ℕ)). d ∷ xs) (all_kept x ds parts.1)

-- none of the first names is among the second
abbrev pub Disjoint : List (List ℕ) → List (List ℕ) → Type 0
Disjoint xs ys = (x : List ℕ) → list_any (bytes_eq x) xs ≡ true → list_any (bytes_eq x) ys ≡ false

pub distinct_both : (xs ys : List (List ℕ)) → Disjoint xs ys → distinct (xs ++ ys) ≡ distinct xs ++ distinct ys
distinct_both [] ys h = refl
distinct_both (x ∷ xs) ys h =
    let here : list_any (bytes_eq x) ys ≡ false = h x (ap (λ t. t || list_any (bytes_eq x) xs) ((bytes_eq-Decides x x).1 refl)) in
    let other : List ℕ → Bool = λ m. not (bytes_eq x m) in
    ap (λ (ds : List (List ℕ)). x ∷ filter other ds) (distinct_both xs ys (λ y e. h y (or_true (bytes_eq y x) (list_any (bytes_eq y) xs) e)))
    ∙ (ap (λ (ds : List (List ℕ)). x ∷ ds) (filter-append other (distinct xs) (distinct ys))
    ∙ ap (λ (ds : List (List ℕ)). x ∷ (filter other (distinct xs) ++ ds)) (all_kept x (distinct ys) (none_distinct x ys here)))
  where
    or_true : (s t : Bool) → t ≡ true → (s || t) ≡ true
    or_true true t e = refl
    or_true false t e = e

-- names that are apart, each once or not
apart_at : (ps qs : List (List ℕ)) (x : List ℕ) → apart ps qs ≡ true → list_any (bytes_eq x) qs ≡ true → list_any (bytes_eq x) ps ≡ false
apart_at ps [] x h e = absurd cc
apart_at ps (q ∷ qs) x h e =
    let parts = both (not (list_any (bytes_eq q) ps)) (apart ps qs) h in by_test (bytes_eq x q) refl e parts.0 (λ e. apart_at ps qs x parts.1 e)
  where
    by_test : (t : Bool) → bytes_eq x q ≡ t → (t || list_any (bytes_eq x) qs) ≡ true → not (list_any (bytes_eq q) ps) ≡ true → (list_any (bytes_eq x) qs ≡ true → list_any (bytes_eq x) ps ≡ false) → list_any (bytes_eq x) ps ≡ false
    by_test true same e none on = let one : x ≡ q = (bytes_eq-Decides x q).0 same in ap (λ (x : List ℕ). list_any (bytes_eq x) ps) one ∙ not_so (list_any (bytes_eq q) ps) none
    by_test false same e none on = on e

pub disjoint : (xs ys : List (List ℕ)) → apart (distinct xs) (distinct ys) ≡ true → Disjoint xs ys
disjoint xs ys h x e = by_test (list_any (bytes_eq x) ys) refl
  where
    by_test : (t : Bool) → list_any (bytes_eq x) ys ≡ t → t ≡ false
    by_test false f = refl
    by_test true f =
        let none : list_any (bytes_eq x) (distinct xs) ≡ false = apart_at (distinct xs) (distinct ys) x h (any_distinct x ys f) in
        let some : list_any (bytes_eq x) (distinct xs) ≡ true = any_distinct x xs e in absurd cc

-- ---- numbers

position_front : (test : List ℕ → Bool) (n : ℕ) (xs ys : List (List ℕ)) → list_any test xs ≡ true → position_from test n (xs ++ ys) ≡ position_from test n xs
position_front test n [] ys h = absurd cc
position_front test n (x ∷ xs) ys h = by_test (test x) h (λ e. position_front test (n + 1) xs ys e)
  where
    by_test : (t : Bool) → (t || list_any test xs) ≡ true → (list_any test xs ≡ true → position_from test (n + 1) (xs ++ ys) ≡ position_from test (n + 1) xs) → cond t (Some n) (position_from test (n + 1) (xs ++ ys)) ≡ cond t (Some n) (position_from test (n + 1) xs)
    by_test true h on = refl
    by_test false h on = on h

position_behind : (test : List ℕ → Bool) (n m : ℕ) (xs ys : List (List ℕ)) → list_any test xs ≡ false → m ≡ n + length xs → position_from test n (xs ++ ys) ≡ position_from test m ys
position_behind test n m [] ys h e = let same : n ≡ m = omega (arith, e) in ap (λ (k : ℕ). position_from test k ys) same
position_behind test n m (x ∷ xs) ys h e =
    let parts = neither (test x) (list_any test xs) h in
    ap (λ (t : Bool). cond t (Some n) (position_from test (n + 1) (xs ++ ys))) parts.0 ∙ position_behind test (n + 1) m xs ys parts.1 (omega (arith, e))

position_later : (test : List ℕ → Bool) (more n m : ℕ) (xs : List (List ℕ)) → m ≡ more + n → NextOn more (position_from test n xs) (position_from test m xs)
position_later test more n m [] e = tt
position_later test more n m (x ∷ xs) e = by_test (test x) (position_later test more (n + 1) (m + 1) xs (omega (arith, e)))
  where
    by_test : (t : Bool) → NextOn more (position_from test (n + 1) xs) (position_from test (m + 1) xs) → NextOn more (cond t (Some n) (position_from test (n + 1) xs)) (cond t (Some m) (position_from test (m + 1) xs))
    by_test true h = ap (λ k. Some k) e
    by_test false h = h

abbrev AtLeast : ℕ → Option ℕ → Type 0
AtLeast n None = Unit {0}
AtLeast n (Some k) = n ≤ k

position_least : (test : List ℕ → Bool) (least n : ℕ) (xs : List (List ℕ)) → least ≤ n → AtLeast least (position_from test n xs)
position_least test least n [] h = tt
position_least test least n (x ∷ xs) h = by_test (test x) (position_least test least (n + 1) xs (omega (arith, h)))
  where
    by_test : (t : Bool) → AtLeast least (position_from test (n + 1) xs) → AtLeast least (cond t (Some n) (position_from test (n + 1) xs))
    by_test true g = h
    by_test false g = g

-- the names of files among the items
abbrev pub file_names : FileUse → List ℕ → List Item → List (List ℕ)
file_names u text is = filter_map (λ i. file_in u (name_in u text i.verb i.argument)) is

cons_append : (o : Option (List ℕ)) (xs ys : List (List ℕ)) → cons_option o (xs ++ ys) ≡ cons_option o xs ++ ys
cons_append None xs ys = refl
cons_append (Some x) xs ys = refl

module _ (t whole : List ℕ) (base count : ℕ) (between : (from to : ℕ) → from ≤ to → to ≤ length t → bytes_between whole (base + from) (base + to) ≡ bytes_between t from to) where
  abbrev moved : Item → Item
  moved = move_item base count

  abbrev made : Argument → Argument
  made = move_argument base count

  name_same : (u : FileUse) (verb : Verb) (a : Argument) → ArgumentIn (length t) a → name_in u whole verb (made a) ≡ name_in u t verb a
  name_same Read (File Read) a h = ap (λ bs. Some bs) (written_same t whole base count between a h)
  name_same Write (File Write) a h = ap (λ bs. Some bs) (written_same t whole base count between a h)
  name_same Write verb (FlaggedPair s e f) h = sink_name_same t whole base count between f h.1
  name_same u verb a h = refl

  pub names_there : (u : FileUse) (is rest : List Item) → ItemsIn (length t) is → file_names u whole (map moved is ++ rest) ≡ file_names u t is ++ file_names u whole rest
  names_there u [] rest h = refl
  names_there u (i ∷ is) rest h =
      ap₂ (λ o xs. cons_option o xs) (ap (file_in u) (name_same u i.verb i.argument h.0)) (names_there u is rest h.1) ∙ cons_append (file_in u (name_in u t i.verb i.argument)) (file_names u t is) (file_names u whole rest)

-- how many files come before, of those that are read and of those that are written
abbrev pub files_of : FileUse → CountsBefore → ℕ
files_of Read b = b.rfiles
files_of Write b = b.wfiles

abbrev of_use : FileUse → List (List ℕ) × List (List ℕ) → List (List ℕ)
of_use Read x = x.0
of_use Write x = x.1

-- ---- a name's number

some_there : (name : List ℕ) (n : ℕ) (xs : List (List ℕ)) → list_any (bytes_eq name) xs ≡ true → is_some (position_from (bytes_eq name) n xs) ≡ true
some_there name n xs h = sym (any_number name n xs) ∙ h

pub number_front : (u : FileUse) (t whole : List ℕ) (all every : List Item) (rest : List (List ℕ)) (name : List ℕ) → files_in u whole every ≡ files_in u t all ++ rest → (is_file u name ≡ true → list_any (bytes_eq name) (files_in u t all) ≡ true) →
    number_in u whole every name ≡ number_in u t all name
number_front Read t whole all every rest name e h = ap (λ ns. unwrap_or (position_from (bytes_eq name) 0 ns) 0) e ∙ ap (λ o. unwrap_or o 0) (position_front (bytes_eq name) 0 (files_in Read t all) rest (h refl))
number_front Write t whole all every rest name e h = by_test (is_standard_output name) h
  where
    by_test : (s : Bool) → (not s ≡ true → list_any (bytes_eq name) (files_in Write t all) ≡ true) →
        (if s then 0 else unwrap_or (position_from (bytes_eq name) 1 (files_in Write whole every)) 0) ≡ (if s then 0 else unwrap_or (position_from (bytes_eq name) 1 (files_in Write t all)) 0)
    by_test true h = refl
    by_test false h = ap (λ ns. unwrap_or (position_from (bytes_eq name) 1 ns) 0) e ∙ ap (λ o. unwrap_or o 0) (position_front (bytes_eq name) 1 (files_in Write t all) rest (h refl))

found_later : (more : ℕ) (o r : Option ℕ) → is_some o ≡ true → NextOn more o r → unwrap_or r 0 ≡ more + unwrap_or o 0
found_later more None r some h = absurd cc
found_later more (Some k) r some h = ap (λ o. unwrap_or o 0) h

sink_later : (b : CountsBefore) (k : ℕ) → 1 ≤ k → sink_behind b k ≡ b.wfiles + k
sink_later b zero h = absurd (omega (arith, h))
sink_later b (suc k) h = refl

low_there : (o : Option ℕ) → is_some o ≡ true → AtLeast 1 o → 1 ≤ unwrap_or o 0
low_there None some h = absurd cc
low_there (Some k) some h = h

pub number_behind : (u : FileUse) (t whole : List ℕ) (all every : List Item) (b : CountsBefore) (first : List (List ℕ)) (name : List ℕ) → files_in u whole every ≡ first ++ files_in u t all → length first ≡ files_of u b → (is_file u name ≡ true → list_any (bytes_eq name) first ≡ false) →
    (is_file u name ≡ true → list_any (bytes_eq name) (files_in u t all) ≡ true) → NumberOn t all whole every b u name
number_behind Read t whole all every b first name e long none h =
    let o : Option ℕ = position_from (bytes_eq name) 0 (files_in Read t all) in
    ap (λ ns. unwrap_or (position_from (bytes_eq name) 0 ns) 0) e
    ∙ (ap (λ o. unwrap_or o 0) (position_behind (bytes_eq name) 0 (b.rfiles + 0) first (files_in Read t all) (none refl) (omega (arith, long)))
    ∙ found_later b.rfiles o (position_from (bytes_eq name) (b.rfiles + 0) (files_in Read t all)) (some_there name 0 (files_in Read t all) (h refl)) (position_later (bytes_eq name) b.rfiles 0 (b.rfiles + 0) (files_in Read t all) refl))
number_behind Write t whole all every b first name e long none h = by_test (is_standard_output name) none h
  where
    by_test : (s : Bool) → (not s ≡ true → list_any (bytes_eq name) first ≡ false) → (not s ≡ true → list_any (bytes_eq name) (files_in Write t all) ≡ true) →
        (if s then 0 else unwrap_or (position_from (bytes_eq name) 1 (files_in Write whole every)) 0) ≡ sink_behind b (if s then 0 else unwrap_or (position_from (bytes_eq name) 1 (files_in Write t all)) 0)
    by_test true none h = refl
    by_test false none h =
        let o : Option ℕ = position_from (bytes_eq name) 1 (files_in Write t all) in
        let some : is_some o ≡ true = some_there name 1 (files_in Write t all) (h refl) in
        ap (λ ns. unwrap_or (position_from (bytes_eq name) 1 ns) 0) e
        ∙ (ap (λ o. unwrap_or o 0) (position_behind (bytes_eq name) 1 (b.wfiles + 1) first (files_in Write t all) (none refl) (omega (arith, long)))
        ∙ (found_later b.wfiles o (position_from (bytes_eq name) (b.wfiles + 1) (files_in Write t all)) some (position_later (bytes_eq name) b.wfiles 1 (b.wfiles + 1) (files_in Write t all) refl)
        ∙ sym (sink_later b (unwrap_or o 0) (low_there o some (position_least (bytes_eq name) 1 1 (files_in Write t all) (omega arith))))))

-- ---- the items' files

module _ (t : List ℕ) (all : List Item) (whole : List ℕ) (every : List Item) (b : CountsBefore) where
  -- each name among these has its number
  abbrev pub Numbers : List Item → Type 0
  Numbers is = (u : FileUse) (name : List ℕ) → (is_file u name ≡ true → list_any (bytes_eq name) (file_names u t is) ≡ true) → NumberOn t all whole every b u name

  -- what is so of a name that a function has
  abbrev Counted : List (List ℕ) × List (List ℕ) → Verb → Argument → Type 0
  Counted rest verb a = (u : FileUse) (name : List ℕ) → (is_file u name ≡ true → list_any (bytes_eq name) (cons_option (file_in u (name_in u t verb a)) (of_use u rest)) ≡ true) → NumberOn t all whole every b u name

  name_on : (verb : Verb) (a : Argument) (rest : List (List ℕ) × List (List ℕ)) → Counted rest verb a → NameOn t all whole every b verb a
  name_on (File Read) a rest on = on Read (written_in t a) (λ h. file_there Read (written_in t a) rest.0 h)
  name_on (File Write) a rest on = on Write (written_in t a) (λ h. file_there Write (written_in t a) rest.1 h)
  name_on other a rest on = tt

  flag_on : (verb : Verb) (a : Argument) (rest : List (List ℕ) × List (List ℕ)) → Follows verb a → Counted rest verb a → FlagOn t all whole every b a
  flag_on Substitute (FlaggedPair s e f) rest follows on = by_flag (sink_name t f) (λ name h. on Write name h)
    where
      by_flag : (o : Option (List ℕ)) → ((name : List ℕ) → (is_file Write name ≡ true → list_any (bytes_eq name) (cons_option (file_in Write o) rest.1) ≡ true) → NumberOn t all whole every b Write name) → SinkOn t all whole every b o
      by_flag None on = tt
      by_flag (Some name) on = on name (λ h. file_there Write name rest.1 h)
  flag_on other (FlaggedPair s e f) rest follows on = absurd follows
  flag_on other a rest follows on = tt

  pub files_on : (is : List Item) → AllFollow is → Numbers is → FilesOn t all whole every b is
  files_on [] follow on = tt
  files_on (i ∷ is) follow on = (
    (name_on i.verb i.argument (file_names Read t is, file_names Write t is) here, flag_on i.verb i.argument (file_names Read t is, file_names Write t is) follow.0 here),
    files_on is follow.1 (λ u name h. on u name (λ e. any_more name (file_in u (name_in u t i.verb i.argument)) (file_names u t is) (h e))),
  )
    where
      as_used : (u : FileUse) (name : List ℕ) → list_any (bytes_eq name) (cons_option (file_in u (name_in u t i.verb i.argument)) (of_use u (file_names Read t is, file_names Write t is))) ≡ true → list_any (bytes_eq name) (file_names u t (i ∷ is)) ≡ true
      as_used Read name h = h
      as_used Write name h = h

      here : Counted (file_names Read t is, file_names Write t is) i.verb i.argument
      here = λ u name h. on u name (λ e. as_used u name (h e))

-- ---- scripts without files

no_name : (u : FileUse) (text : List ℕ) (verb : Verb) (a : Argument) → NoFile verb a → name_in u text verb a ≡ None
no_name u text (File v) a h = absurd h
no_name Write text verb (FlaggedPair s e f) h = ap (option_map (λ name. bytes_between text name.0 name.1)) h
no_name u text verb a h = refl

pub no_files : (u : FileUse) (text : List ℕ) (is : List Item) → NoFiles is → files_in u text is ≡ []
no_files u text is h = ap distinct (none is h)
  where
    none : (is : List Item) → NoFiles is → file_names u text is ≡ []
    none [] h = refl
    none (i ∷ is) h = ap₂ (λ o ns. cons_option o ns) (ap (file_in u) (no_name u text i.verb i.argument h.0)) (none is h.1)
