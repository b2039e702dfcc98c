-- Names of files, each once.
use Rattle.std.proofs.Common.{◌≡◌, ◌⊎◌, inl, inr, ℕ, zero, suc, ◌<◌, ◌≤◌, Bool, true, false, not, cond, List, [], ◌∷◌, filter, Option, Some, None, slice_get, refl, sym, ap, subst, ◌∙◌, arith}
use Rattle.std.specs.Str.{bytes_eq}
use Rattle.std.proofs.lemmas.Bool.{cases_order}
use Rattle.std.proofs.lemmas.Slice.Eq.{bytes_eq-Decides}
use Rattle.sedre.specs.declared.types.Kind.{Kind}
use Rattle.sedscript.specs.declared.types.FileUse.TheVariants.{Read, Write}
use Rattle.sedscript.specs.Script.{distinct, Means}
use Rattle.sedscript.specs.Program.{Program}
use Rattle.examples.specs.Names.{names_of, ComesBefore, EachOnce}

abbrev Names : Type 0
Names = List (List ℕ)

abbrev At : Names → ℕ → List ℕ → Type 0
At xs k a = slice_get xs k ≡ Some a

nowhere : (k : ℕ) (a : List ℕ) → At [] k a → ⊥
nowhere k a e = let no : ◌≡◌ {A = Option (List ℕ)} None (Some a) = e in absurd cc

same_name : (a b : List ℕ) → ◌≡◌ {A = Option (List ℕ)} (Some a) (Some b) → a ≡ b
same_name a b e = cc

-- ---- what a filter keeps

kept_one : (p : List ℕ → Bool) (xs : Names) (i : ℕ) (a : List ℕ) → At (filter p xs) i a → (k : ℕ) × At xs k a × (p a ≡ true)
kept_one p [] i a e = absurd (nowhere i a e)
kept_one p (x ∷ xs) i a e = by_test (p x) refl i e (kept_one p xs)
  where
    by_test : (t : Bool) → p x ≡ t → (i : ℕ) → At (cond t (x ∷ filter p xs) (filter p xs)) i a → ((i : ℕ) (a : List ℕ) → At (filter p xs) i a → (k : ℕ) × At xs k a × (p a ≡ true)) →
        (k : ℕ) × At (x ∷ xs) k a × (p a ≡ true)
    by_test true is zero e rest = (zero, e, ap p (sym (same_name x a e)) ∙ is)
    by_test true is (suc i) e rest = let h = rest i a e in (suc h.0, h.1, h.2)
    by_test false is i e rest = let h = rest i a e in (suc h.0, h.1, h.2)

abbrev Two : (List ℕ → Bool) → Names → List ℕ → List ℕ → Type 0
Two p xs a b = (k m : ℕ) × (k < m) × At xs k a × At xs m b × (p a ≡ true) × (p b ≡ true)

kept_two : (p : List ℕ → Bool) (xs : Names) (i j : ℕ) (a b : List ℕ) → i < j → At (filter p xs) i a → At (filter p xs) j b → Two p xs a b
kept_two p [] i j a b low e f = absurd (nowhere i a e)
kept_two p (x ∷ xs) i j a b low e f = by_test (p x) refl i j low e f (λ i j. kept_two p xs i j a b)
  where
    later : Two p xs a b → Two p (x ∷ xs) a b
    later h = (suc h.0, suc h.1, omega (arith, h.2), h.3, h.4, h.5, h.6)

    by_test : (t : Bool) → p x ≡ t → (i j : ℕ) → i < j → At (cond t (x ∷ filter p xs) (filter p xs)) i a → At (cond t (x ∷ filter p xs) (filter p xs)) j b →
        ((i j : ℕ) → i < j → At (filter p xs) i a → At (filter p xs) j b → Two p xs a b) → Two p (x ∷ xs) a b
    by_test true is i zero low e f rest = absurd (omega (arith, low))
    by_test true is zero (suc j) low e f rest = let h = kept_one p xs j b f in (zero, suc h.0, omega arith, e, h.1, ap p (sym (same_name x a e)) ∙ is, h.2)
    by_test true is (suc i) (suc j) low e f rest = later (rest i j (omega (arith, low)) e f)
    by_test false is i j low e f rest = later (rest i j low e f)

kept_back : (p : List ℕ → Bool) (xs : Names) (k : ℕ) (a : List ℕ) → At xs k a → p a ≡ true → (i : ℕ) × At (filter p xs) i a
kept_back p [] k a e is = absurd (nowhere k a e)
kept_back p (x ∷ xs) zero a e is = by_test (p x) (ap p (same_name x a e) ∙ is)
  where
    by_test : (t : Bool) → t ≡ true → (i : ℕ) × At (cond t (x ∷ filter p xs) (filter p xs)) i a
    by_test true h = (zero, e)
    by_test false h = absurd cc
kept_back p (x ∷ xs) (suc k) a e is = by_test (p x) (kept_back p xs k a e is)
  where
    by_test : (t : Bool) → (i : ℕ) × At (filter p xs) i a → (i : ℕ) × At (cond t (x ∷ filter p xs) (filter p xs)) i a
    by_test true h = (suc h.0, h.1)
    by_test false h = h

-- ---- each name once

another : (n b : List ℕ) → not (bytes_eq n b) ≡ true → n ≡ b → ⊥
another n b e same = let is : bytes_eq n b ≡ true = (bytes_eq-Decides n b).1 same in absurd cc

not_before_itself : (names : Names) (a : List ℕ) → ComesBefore names a a → ⊥
not_before_itself names a h = h.2 h.0 (omega arith) h.1

apart : (names once : Names) → ((i j : ℕ) (a b : List ℕ) → i < j → At once i a → At once j b → ComesBefore names a b) → (i j : ℕ) (a : List ℕ) → At once i a → At once j a → i ≡ j
apart names once order i j a e f = by_order (cases_order i j)
  where
    by_order : (i ≡ j) ⊎ ((i < j) ⊎ (j < i)) → i ≡ j
    by_order (inl same) = same
    by_order (inr (inl low)) = absurd (not_before_itself names a (order i j a a low e f))
    by_order (inr (inr low)) = absurd (not_before_itself names a (order j i a a low f e))

nested_later : (n : List ℕ) (ns : Names) (a b : List ℕ) → (n ≡ b → ⊥) → ComesBefore ns a b → ComesBefore (n ∷ ns) a b
nested_later n ns a b other h = (suc h.0, h.1, before)
  where
    before : (j : ℕ) → j ≤ suc h.0 → At (n ∷ ns) j b → ⊥
    before zero low e = other (same_name n b e)
    before (suc j) low e = h.2 j (omega (arith, low)) e

in_order : (names : Names) (i j : ℕ) (a b : List ℕ) → i < j → At (distinct names) i a → At (distinct names) j b → ComesBefore names a b
in_order [] i j a b low e f = absurd (nowhere i a e)
in_order (n ∷ ns) i zero a b low e f = absurd (omega (arith, low))
in_order (n ∷ ns) zero (suc j) a b low e f =
    let h = kept_one (λ m. not (bytes_eq n m)) (distinct ns) j b f in
    (zero, e, λ k at g. another n b h.2 (first k at g))
  where
    first : (k : ℕ) → k ≤ 0 → At (n ∷ ns) k b → n ≡ b
    first zero at g = same_name n b g
    first (suc k) at g = absurd (omega (arith, at))
in_order (n ∷ ns) (suc i) (suc j) a b low e f =
    let h = kept_two (λ m. not (bytes_eq n m)) (distinct ns) i j a b (omega (arith, low)) e f in
    nested_later n ns a b (another n b h.6) (in_order ns h.0 h.1 a b h.2 h.3 h.4)

of_them : (names : Names) (i : ℕ) (a : List ℕ) → At (distinct names) i a → (k : ℕ) × At names k a
of_them [] i a e = absurd (nowhere i a e)
of_them (n ∷ ns) zero a e = (zero, e)
of_them (n ∷ ns) (suc i) a e =
    let h = kept_one (λ m. not (bytes_eq n m)) (distinct ns) i a e in
    let g = of_them ns h.0 a h.1 in (suc g.0, g.1)

all_there : (names : Names) (k : ℕ) (a : List ℕ) → At names k a → (i : ℕ) × At (distinct names) i a
all_there [] k a e = absurd (nowhere k a e)
all_there (n ∷ ns) zero a e = (zero, e)
all_there (n ∷ ns) (suc k) a e = by_test (bytes_eq n a) refl (all_there ns k a e)
  where
    by_test : (t : Bool) → bytes_eq n a ≡ t → (i : ℕ) × At (distinct ns) i a → (i : ℕ) × At (distinct (n ∷ ns)) i a
    by_test true is h = (zero, ap (λ (x : List ℕ). Some x) ((bytes_eq-Decides n a).0 is))
    by_test false is h = let g = kept_back (λ m. not (bytes_eq n m)) (distinct ns) h.0 a h.1 (ap not is) in (suc g.0, g.1)

each_once : (names : Names) → EachOnce names (distinct names)
each_once names = record {
  of_them = of_them names;
  all = all_there names;
  unrepeated = apart names (distinct names) (in_order names);
  in_order = in_order names;
}

pub files_once : (kind : Kind) (max_nodes : ℕ) (text : List ℕ) (script : Program) (means : Means text kind max_nodes script) →
    EachOnce (names_of Read text means.items) script.rfiles × EachOnce (names_of Write text means.items) script.wfiles
files_once kind max_nodes text script means = (
  subst (EachOnce (names_of Read text means.items)) (sym means.rfiles) (each_once (names_of Read text means.items)),
  subst (EachOnce (names_of Write text means.items)) (sym means.wfiles) (each_once (names_of Write text means.items)),
)
