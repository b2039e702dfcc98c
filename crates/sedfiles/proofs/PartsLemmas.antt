-- The parts of a script, put into order one after another.
use Rattle.std.proofs.Common.{◌≡◌, ◌∙◌, ◌⊎◌, inl, inr, ◌<◌, ◌+◌, ◌&&◌, ◌||◌, ℕ, zero, suc, Bool, true, false, not, List, [], ◌∷◌, ◌++◌, Option, Some, None, drop, map, filter_map, string_bytes, length, nat_lt, slice_get, refl, sym, ap, arith, append_assoc, append-nil, ◌≤◌}
use Rattle.std.proofs.lemmas.Bool.{ltb-false}
use Rattle.std.proofs.lemmas.List.{map-append}
use Rattle.clap.specs.Words.{Text}
use Rattle.sedfiles.specs.CommandLine.{AreParts, part_file, script_in}
use Rattle.sedfiles.specs.CommandLineParts.{precedes, first_place, given, in_order, word_place}
use Rattle.sedfiles.specs.Types.{File, Part, Script}

one_more : (i : ℕ) → i + 1 ≡ suc i
one_more i = omega arith

drop_one : {A : Type 0} (xs : List A) (i : ℕ) → drop 1 (drop i xs) ≡ drop (suc i) xs
drop_one [] zero = refl
drop_one [] (suc i) = refl
drop_one (x ∷ xs) zero = refl
drop_one (x ∷ xs) (suc i) = drop_one xs i

split_at : {A : Type 0} (xs : List A) (i : ℕ) (x : A) → slice_get xs i ≡ Some x → drop i xs ≡ x ∷ drop (suc i) xs
split_at [] zero x e = cc
split_at [] (suc i) x e = cc
split_at (y ∷ xs) zero x e = let same : y ≡ x = cc in ap (λ z. z ∷ xs) same
split_at (y ∷ xs) (suc i) x e = split_at xs i x e

-- a word that is there has its number below theirs
pub some_below : {A : Type 0} (xs : List A) (i : ℕ) (x : A) → slice_get xs i ≡ Some x → i < length xs
some_below [] zero x e = cc
some_below [] (suc i) x e = cc
some_below (y ∷ xs) zero x e = omega arith
some_below (y ∷ xs) (suc i) x e = let h = some_below xs i x e in omega (arith, h)

first-drop : (es : List ℕ) (i : ℕ) → first_place (drop i es) ≡ word_place es i
first-drop [] zero = refl
first-drop [] (suc i) = refl
first-drop (e ∷ es) zero = refl
first-drop (e ∷ es) (suc i) = first-drop es i

none_after : {A : Type 0} (xs : List A) (i : ℕ) → length xs ≤ i → drop i xs ≡ []
none_after [] zero e = refl
none_after [] (suc i) e = refl
none_after (x ∷ xs) zero e = absurd (omega (arith, e))
none_after (x ∷ xs) (suc i) e = none_after xs i (omega (arith, e))

none_left : {A : Type 0} (xs : List A) (i : ℕ) → nat_lt i (length xs) ≡ false → drop i xs ≡ []
none_left xs i e = none_after xs i (ltb-false i (length xs) e)

texts_alone : (ws : List Text) (es gs : List ℕ) → in_order ws es [] gs ≡ map inl ws
texts_alone [] es gs = refl
texts_alone (w ∷ ws) es gs = refl

-- the first of the words left is next
script_next : (left others : List Text) (es gs : List ℕ) (w : Text) (ws : List Text) → left ≡ w ∷ ws → (others ≡ []) ⊎ (nat_lt (first_place es) (first_place gs) ≡ true) →
    in_order left es others gs ≡ inl w ∷ in_order ws (drop 1 es) others gs
script_next left others es gs w ws is (inl none) = rw (is, none) (ap (λ z. inl w ∷ z) (sym (texts_alone ws (drop 1 es) gs)))
script_next left [] es gs w ws is (inr first) = rw is (ap (λ z. inl w ∷ z) (sym (texts_alone ws (drop 1 es) gs)))
script_next left (f ∷ fs) es gs w ws is (inr first) = rw (is, first) refl

-- the first of the others is
file_next : (left others : List Text) (es gs : List ℕ) (f : Text) (fs : List Text) → others ≡ f ∷ fs → (left ≡ []) ⊎ (nat_lt (first_place es) (first_place gs) ≡ false) →
    in_order left es others gs ≡ inr f ∷ in_order left es fs (drop 1 gs)
file_next left others es gs f fs is (inl none) = rw (is, none) refl
file_next [] others es gs f fs is (inr later) = rw is refl
file_next (w ∷ ws) others es gs f fs is (inr later) = rw (is, later) refl

first_of : (a b c : Bool) → a && (not b || c) ≡ true → (b ≡ false) ⊎ (c ≡ true)
first_of true true c e = inr e
first_of true false c e = inl refl
first_of false b c e = cc

later_of : (a b c : Bool) → a && (not b || c) ≡ false → (a ≡ false) ⊎ (c ≡ false)
later_of true true c e = inr e
later_of true false c e = cc
later_of false b c e = inl refl

added : (parts : List Part) (part : Part) (said : Text ⊎ Text) (rest all old : List (Text ⊎ Text)) → given part ≡ said → old ≡ said ∷ rest → map given parts ++ old ≡ all → map given (parts ++ part ∷ []) ++ rest ≡ all
added parts part said rest all old is next h =
    let h' : map given parts ++ said ∷ rest ≡ all = rw next at h in
    rw (map-append, is) (append_assoc (map given parts) (said ∷ []) rest ∙ h')

-- a script was added to the parts
pub script_added : (ws fs : List Text) (es gs : List ℕ) (i j : ℕ) (w : Text) (parts : List Part) (part : Part) (all : List (Text ⊎ Text)) →
    slice_get ws i ≡ Some w → precedes ws es i fs gs j ≡ true → given part ≡ inl w →
    map given parts ++ in_order (drop i ws) (drop i es) (drop j fs) (drop j gs) ≡ all →
    map given (parts ++ part ∷ []) ++ in_order (drop (i + 1) ws) (drop (i + 1) es) (drop j fs) (drop j gs) ≡ all
script_added ws fs es gs i j w parts part all at first is h =
    let choice : (drop j fs ≡ []) ⊎ (nat_lt (first_place (drop i es)) (first_place (drop j gs)) ≡ true) =
    elim (first_of (nat_lt i (length ws)) (nat_lt j (length fs)) _ first) [
      | inl none ↦ inl (none_left fs j none)
      | inr less ↦ inr (rw (first-drop es i, first-drop gs j) less)
    ] in
    let next : in_order (drop i ws) (drop i es) (drop j fs) (drop j gs) ≡ inl w ∷ in_order (drop (suc i) ws) (drop (suc i) es) (drop j fs) (drop j gs) =
    rw (← drop_one es i) (script_next (drop i ws) (drop j fs) (drop i es) (drop j gs) w (drop (suc i) ws) (split_at ws i w at) choice) in
    rw (one_more i) (added parts part (inl w) _ all _ is next h)

-- a file was
pub file_added : (ws fs : List Text) (es gs : List ℕ) (i j : ℕ) (f : Text) (parts : List Part) (part : Part) (all : List (Text ⊎ Text)) →
    slice_get fs j ≡ Some f → precedes ws es i fs gs j ≡ false → given part ≡ inr f →
    map given parts ++ in_order (drop i ws) (drop i es) (drop j fs) (drop j gs) ≡ all →
    map given (parts ++ part ∷ []) ++ in_order (drop i ws) (drop i es) (drop (j + 1) fs) (drop (j + 1) gs) ≡ all
file_added ws fs es gs i j f parts part all at later is h =
    let choice : (drop i ws ≡ []) ⊎ (nat_lt (first_place (drop i es)) (first_place (drop j gs)) ≡ false) =
    elim (later_of (nat_lt i (length ws)) (nat_lt j (length fs)) _ later) [
      | inl none ↦ inl (none_left ws i none)
      | inr less ↦ inr (rw (first-drop es i, first-drop gs j) less)
    ] in
    let next : in_order (drop i ws) (drop i es) (drop j fs) (drop j gs) ≡ inr f ∷ in_order (drop i ws) (drop i es) (drop (suc j) fs) (drop (suc j) gs) =
    rw (← drop_one gs j) (file_next (drop i ws) (drop j fs) (drop i es) (drop j gs) f (drop (suc j) fs) (split_at fs j f at) choice) in
    rw (one_more j) (added parts part (inr f) _ all _ is next h)

-- where no word is left, all parts are made
pub all_made : (made : List (Text ⊎ Text)) (ws : List Text) (es : List ℕ) (fs : List Text) (gs : List ℕ) (i j : ℕ) → length ws ≤ i → length fs ≤ j →
    made ++ in_order (drop i ws) (drop i es) (drop j fs) (drop j gs) ≡ in_order ws es fs gs → made ≡ in_order ws es fs gs
all_made made ws es fs gs i j p q h = let h' = rw (none_after ws i p, none_after fs j q) at h in sym (append-nil made) ∙ h'

-- the scripts among them, and the names of files
abbrev script_of : Text ⊎ Text → Option Text
script_of (inl script) = Some script
script_of (inr name) = None

abbrev name_of : Text ⊎ Text → Option Text
name_of (inl script) = None
name_of (inr name) = Some name

scripts_given : (parts : List Part) → filter_map script_in parts ≡ filter_map script_of (map given parts)
scripts_given [] = refl
scripts_given (Script s ∷ parts) = ap (λ z. string_bytes s ∷ z) (scripts_given parts)
scripts_given (File s ∷ parts) = scripts_given parts

names_given : (parts : List Part) → filter_map part_file parts ≡ filter_map name_of (map given parts)
names_given [] = refl
names_given (Script s ∷ parts) = names_given parts
names_given (File s ∷ parts) = ap (λ z. string_bytes s ∷ z) (names_given parts)

scripts_of_scripts : (ws : List Text) → filter_map script_of (map inl ws) ≡ ws
scripts_of_scripts [] = refl
scripts_of_scripts (w ∷ ws) = ap (λ z. w ∷ z) (scripts_of_scripts ws)

names_of_scripts : (ws : List Text) → filter_map name_of (map inl ws) ≡ []
names_of_scripts [] = refl
names_of_scripts (w ∷ ws) = names_of_scripts ws

scripts_of_files : (fs : List Text) → filter_map script_of (map inr fs) ≡ []
scripts_of_files [] = refl
scripts_of_files (f ∷ fs) = scripts_of_files fs

names_of_files : (fs : List Text) → filter_map name_of (map inr fs) ≡ fs
names_of_files [] = refl
names_of_files (f ∷ fs) = ap (λ z. f ∷ z) (names_of_files fs)

-- put into order, the scripts and the files are all there, each in their order
abbrev Among : List Text → List ℕ → List Text → List ℕ → Type 0
Among ws es fs gs = (filter_map script_of (in_order ws es fs gs) ≡ ws) × (filter_map name_of (in_order ws es fs gs) ≡ fs)

all_among : (ws : List Text) (es : List ℕ) (fs : List Text) (gs : List ℕ) → Among ws es fs gs
all_among [] es fs gs = (scripts_of_files fs, names_of_files fs)
all_among (w ∷ ws) es [] gs = (scripts_of_scripts (w ∷ ws), names_of_scripts (w ∷ ws))
all_among (w ∷ ws) es (f ∷ fs) gs =
    by_place (nat_lt (first_place es) (first_place gs)) refl (all_among ws (drop 1 es) (f ∷ fs) gs) (all_among (w ∷ ws) es fs (drop 1 gs))
  where
    by_place : (b : Bool) → nat_lt (first_place es) (first_place gs) ≡ b → Among ws (drop 1 es) (f ∷ fs) gs → Among (w ∷ ws) es fs (drop 1 gs) →
        Among (w ∷ ws) es (f ∷ fs) gs
    by_place true is script name = rw is (ap (λ z. w ∷ z) script.0, script.1)
    by_place false is script name = rw is (name.0, ap (λ z. f ∷ z) name.1)

-- so parts that are put into order are these scripts and these files
pub are_parts : (parts : List Part) (ws : List Text) (es : List ℕ) (fs : List Text) (gs : List ℕ) → map given parts ≡ in_order ws es fs gs → AreParts parts ws fs
are_parts parts ws es fs gs made =
    let among = all_among ws es fs gs in
    (scripts_given parts ∙ ap (filter_map script_of) made ∙ among.0, names_given parts ∙ ap (filter_map name_of) made ∙ among.1)
