-- Bytes that occur twice in the first string of a `y`.
use Rattle.std.proofs.Common.{◌≡◌, ◌⊎◌, inl, inr, ℕ, zero, suc, ◌+◌, ◌==◌, ◌||◌, not, Bool, true, false, if◌then◌else◌, List, [], ◌∷◌, ◌++◌, length, Option, Some, None, slice_get, refl, sym, ap, ◌∙◌}
use Rattle.std.proofs.lemmas.Bool.{eqb-true, eq-eqb}
use Rattle.sedscript.specs.declared.types.ScriptFault.{ScriptFault}
use Rattle.sedscript.specs.declared.types.Reason.TheVariants.{RepeatedByte, LengthsDiffer}
use Rattle.sedscript.specs.declared.transliteration.Char.{Char}
use Rattle.sedscript.specs.declared.items.Strings.{Strings}
use Rattle.sedscript.specs.Bytes.{bytes_between, ◌>>=◌ as ◌then◌}
use Rattle.sedscript.specs.Strings.{chars_of, bytes_of, is_among, repeated_in, string_fault, strings_fault, repeated_fault}
use Rattle.examples.specs.Strings.{NoneTwice, RepeatsFirst}
use Rattle.examples.proofs.BackslashLemmas.{same_byte}
use Rattle.examples.proofs.FaultLemmas.{or_none, unless_wrong}

-- ---- the bytes

-- none of the bytes is one of these
abbrev Fresh : List ℕ → List ℕ → Type 0
Fresh before bs = (k b : ℕ) → slice_get bs k ≡ Some b → is_among before b ≡ false

fresh_parts : (x b : ℕ) (before : List ℕ) → is_among (x ∷ before) b ≡ false → ((x ≡ b) → ⊥) × (is_among before b ≡ false)
fresh_parts x b before e = by_test (x == b) refl e
  where
    by_test : (t : Bool) → (x == b) ≡ t → (t || is_among before b) ≡ false → ((x ≡ b) → ⊥) × (is_among before b ≡ false)
    by_test true is e = absurd cc
    by_test false is e = (λ same. (let no : true ≡ false = sym (eq-eqb x b same) ∙ is in absurd cc), e)

fresh_cons : (before bs : List ℕ) (x : ℕ) → is_among before x ≡ false → Fresh (x ∷ before) bs → Fresh before (x ∷ bs)
fresh_cons before bs x new fresh zero b e = ap (is_among before) (sym (same_byte x b e)) ∙ new
fresh_cons before bs x new fresh (suc k) b e = (fresh_parts x b before (fresh k b e)).1

once_cons : (before bs : List ℕ) (x : ℕ) → Fresh (x ∷ before) bs → NoneTwice bs → NoneTwice (x ∷ bs)
once_cons before bs x fresh once zero zero b e f = refl
once_cons before bs x fresh once zero (suc j) b e f = absurd ((fresh_parts x b before (fresh j b f)).0 (same_byte x b e))
once_cons before bs x fresh once (suc i) zero b e f = absurd ((fresh_parts x b before (fresh i b e)).0 (same_byte x b f))
once_cons before bs x fresh once (suc i) (suc j) b e f = ap suc (once i j b e f)

none_repeated : (before : List ℕ) (cs : List Char) → repeated_in before cs ≡ None → NoneTwice (bytes_of cs) × Fresh before (bytes_of cs)
none_repeated before [] e = (λ i j b p q. (let no : ◌≡◌ {A = Option ℕ} None (Some b) = p in absurd cc), λ k b p. (let no : ◌≡◌ {A = Option ℕ} None (Some b) = p in absurd cc))
none_repeated before (c ∷ cs) e = by_test (is_among before c.byte) refl e (none_repeated (c.byte ∷ before) cs)
  where
    by_test : (t : Bool) → is_among before c.byte ≡ t → (if t then Some c.place else repeated_in (c.byte ∷ before) cs) ≡ None →
        (repeated_in (c.byte ∷ before) cs ≡ None → NoneTwice (bytes_of cs) × Fresh (c.byte ∷ before) (bytes_of cs)) → NoneTwice (bytes_of (c ∷ cs)) × Fresh before (bytes_of (c ∷ cs))
    by_test true is e rest = absurd cc
    by_test false is e rest = let h = rest e in (once_cons before (bytes_of cs) c.byte h.1 h.0, fresh_cons before (bytes_of cs) c.byte is h.1)

-- the first byte that occurs a second time, after these
record Repeats (before : List ℕ) (cs : List Char) (place : ℕ) : Type 0 where
  pub front : List Char
  pub second : Char
  pub after : List Char
  pub are : cs ≡ front ++ second ∷ after
  pub occurred : (is_among before second.byte ≡ true) ⊎ ((k : ℕ) × (slice_get (bytes_of front) k ≡ Some second.byte))
  pub once : NoneTwice (bytes_of front)
  pub fresh : Fresh before (bytes_of front)
  pub there : place ≡ second.place

repeats_here : (before : List ℕ) (c : Char) (cs : List Char) (place : ℕ) → is_among before c.byte ≡ true → place ≡ c.place → Repeats before (c ∷ cs) place
repeats_here before c cs place is e = record {
  front = [];
  second = c;
  after = cs;
  are = refl;
  occurred = inl is;
  once = λ i j b p q. (let no : ◌≡◌ {A = Option ℕ} None (Some b) = p in absurd cc);
  fresh = λ k b p. (let no : ◌≡◌ {A = Option ℕ} None (Some b) = p in absurd cc);
  there = e;
}

repeats_later : (before : List ℕ) (c : Char) (cs : List Char) (place : ℕ) → is_among before c.byte ≡ false → Repeats (c.byte ∷ before) cs place → Repeats before (c ∷ cs) place
repeats_later before c cs place is r = record {
  front = c ∷ r.front;
  second = r.second;
  after = r.after;
  are = ap (λ (xs : List Char). c ∷ xs) r.are;
  occurred = by_occurred r.occurred;
  once = once_cons before (bytes_of r.front) c.byte r.fresh r.once;
  fresh = fresh_cons before (bytes_of r.front) c.byte is r.fresh;
  there = r.there;
}
  where
    Occurred : Type 0
    Occurred = (is_among before r.second.byte ≡ true) ⊎ ((k : ℕ) × (slice_get (bytes_of (c ∷ r.front)) k ≡ Some r.second.byte))

    by_test : (t : Bool) → (c.byte == r.second.byte) ≡ t → (t || is_among before r.second.byte) ≡ true → Occurred
    by_test true same e = inr (zero, ap (λ (x : ℕ). Some x) (eqb-true c.byte r.second.byte same))
    by_test false same e = inl e

    by_occurred : (is_among (c.byte ∷ before) r.second.byte ≡ true) ⊎ ((k : ℕ) × (slice_get (bytes_of r.front) k ≡ Some r.second.byte)) → Occurred
    by_occurred (inl e) = by_test (c.byte == r.second.byte) refl e
    by_occurred (inr p) = inr (suc p.0, p.1)

repeated : (before : List ℕ) (cs : List Char) (place : ℕ) → repeated_in before cs ≡ Some place → Repeats before cs place
repeated before [] place e = absurd cc
repeated before (c ∷ cs) place e = by_test (is_among before c.byte) refl e (repeated (c.byte ∷ before) cs place)
  where
    by_test : (t : Bool) → is_among before c.byte ≡ t → (if t then Some c.place else repeated_in (c.byte ∷ before) cs) ≡ Some place →
        (repeated_in (c.byte ∷ before) cs ≡ Some place → Repeats (c.byte ∷ before) cs place) → Repeats before (c ∷ cs) place
    by_test true is e rest = repeats_here before c cs place is (same_byte place c.place (sym e))
    by_test false is e rest = repeats_later before c cs place is (rest e)

repeats_first : (cs : List Char) (place : ℕ) → Repeats [] cs place → RepeatsFirst cs place
repeats_first cs place r = let s = occurred r.occurred in record {
  before = r.front;
  second = r.second;
  after = r.after;
  are = r.are;
  first = s.0;
  stands = s.1;
  nothing_before = r.once;
  there = r.there;
}
  where
    occurred : (is_among [] r.second.byte ≡ true) ⊎ ((k : ℕ) × (slice_get (bytes_of r.front) k ≡ Some r.second.byte)) → (k : ℕ) × (slice_get (bytes_of r.front) k ≡ Some r.second.byte)
    occurred (inl e) = let no : false ≡ true = e in absurd cc
    occurred (inr p) = p

pub first_repeated : (cs : List Char) (place : ℕ) → repeated_in [] cs ≡ Some place → RepeatsFirst cs place
first_repeated cs place e = repeats_first cs place (repeated [] cs place e)

-- ---- the strings of a `y`

no_repeated : (o : Option ℕ) → repeated_fault o ≡ None → o ≡ None
no_repeated None e = refl
no_repeated (Some place) e = let no : ◌≡◌ {A = Option ScriptFault} (Some (record { place = place; reason = RepeatedByte })) None = e in absurd cc

-- what the strings of an accepted `y` are
abbrev pub Pairs : List ℕ → Strings → Type 0
Pairs text s =
    NoneTwice (bytes_of (chars_of text s.delimiter s.from s.middle))
    × (length (chars_of text s.delimiter s.from s.middle) ≡ length (chars_of text s.delimiter (s.middle + 1) s.to))

pub pairs : (text : List ℕ) (at : ℕ) (s : Strings) → strings_fault text s.delimiter at s.from s.middle s.to ≡ None → Pairs text s
pairs text at s e =
    let one = or_none (string_fault s.delimiter false s.from (bytes_between text s.from s.middle)) _ e in
    let two = or_none (string_fault s.delimiter false (s.middle + 1) (bytes_between text (s.middle + 1) s.to)) _ one.1 in
    let three = or_none (repeated_fault (repeated_in [] (chars_of text s.delimiter s.from s.middle))) _ two.1 in (
      (none_repeated [] (chars_of text s.delimiter s.from s.middle) (no_repeated _ three.0)).0,
      eqb-true _ _ (holds _ (unless_wrong (not (length (chars_of text s.delimiter s.from s.middle) == length (chars_of text s.delimiter (s.middle + 1) s.to))) LengthsDiffer at three.1)),
    )
  where
    holds : (t : Bool) → not t ≡ false → t ≡ true
    holds true e = refl
    holds false e = cc
