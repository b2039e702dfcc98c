-- What the strings of `y` say.
use Rattle.std.proofs.Common.{◌≡◌, ℕ, zero, suc, ◌+◌, ◌<◌, ◌==◌, ◌||◌, ◌&&◌, Bool, true, false, if◌then◌else◌, option_map, List, [], ◌∷◌, ◌++◌, Option, Some, None, slice_get, refl, sym, ap, ◌∙◌, arith}
use Rattle.std.proofs.lemmas.Bool.{ne_eqb, eqb-true, eq-eqb}
use Rattle.std.proofs.lemmas.Option.{slice_get-map}
use Rattle.std.specs.List.{range_with_len}
use Rattle.sedscript.specs.Strings.{counterpart, table_of, escaped_byte, chars_from, bytes_of}
use Rattle.examples.specs.Strings.{NoneTwice, written_string}

-- ---- the table

range_at : (from n k : ℕ) → k < n → slice_get (range_with_len from n) k ≡ Some (from + k)
range_at from zero k h = absurd (omega (arith, h))
range_at from (suc n) zero h = let e : from ≡ from + 0 = omega arith in ap (λ (x : ℕ). Some x) e
range_at from (suc n) (suc k) h = let e : from + 1 + k ≡ from + suc k = omega arith in range_at (from + 1) n k (omega (arith, h)) ∙ ap (λ (x : ℕ). Some x) e

table_at : (string1 string2 : List ℕ) (b : ℕ) → b < 256 → slice_get (table_of string1 string2) b ≡ Some (counterpart string1 string2 b)
unfolding table_of
table_at string1 string2 b h =
    slice_get-map (counterpart string1 string2) (range_with_len 0 256) b
    ∙ (ap (option_map (counterpart string1 string2)) (range_at 0 256 b h)
    ∙ let e : 0 + b ≡ b = omega arith in ap (λ (x : ℕ). Some (counterpart string1 string2 x)) e)

same_some : (a b : ℕ) → ◌≡◌ {A = Option ℕ} (Some a) (Some b) → a ≡ b
same_some a b e = cc

counterpart_at : (string1 string2 : List ℕ) (k s t : ℕ) → NoneTwice string1 → slice_get string1 k ≡ Some s → slice_get string2 k ≡ Some t → counterpart string1 string2 s ≡ t
counterpart_at [] string2 k s t once e f = let x : ◌≡◌ {A = Option ℕ} None (Some s) = e in absurd (cc)
counterpart_at (c ∷ string1) [] k s t once e f = let x : ◌≡◌ {A = Option ℕ} None (Some t) = f in absurd (cc)
counterpart_at (c ∷ string1) (d ∷ string2) zero s t once e f =
    let same : c ≡ s = same_some c s e in
    rw (eq-eqb c s same) (same_some d t f)
counterpart_at (c ∷ string1) (d ∷ string2) (suc k) s t once e f =
    rw (ne_eqb c s (λ same. (let z : 0 ≡ suc k = once 0 (suc k) s (ap (λ (x : ℕ). Some x) same) e in omega (arith, z))))
    (counterpart_at string1 string2 k s t (λ i j b p q. (let z : suc i ≡ suc j = once (suc i) (suc j) b p q in omega (arith, z))) e f)

counterpart_other : (string1 string2 : List ℕ) (b : ℕ) → ((k : ℕ) → slice_get string1 k ≡ Some b → ⊥) → counterpart string1 string2 b ≡ b
counterpart_other [] string2 b h = refl
counterpart_other (c ∷ string1) [] b h = refl
counterpart_other (c ∷ string1) (d ∷ string2) b h =
    rw (ne_eqb c b (λ same. h 0 (ap (λ (x : ℕ). Some x) same))) (counterpart_other string1 string2 b (λ k e. h (suc k) e))

pub table_gives : (string1 string2 : List ℕ) (k s t : ℕ) → NoneTwice string1 → s < 256 → slice_get string1 k ≡ Some s → slice_get string2 k ≡ Some t →
    slice_get (table_of string1 string2) s ≡ Some t
table_gives string1 string2 k s t once low e f = table_at string1 string2 s low ∙ ap (λ (x : ℕ). Some x) (counterpart_at string1 string2 k s t once e f)

pub table_keeps : (string1 string2 : List ℕ) (b : ℕ) → b < 256 → ((k : ℕ) → slice_get string1 k ≡ Some b → ⊥) → slice_get (table_of string1 string2) b ≡ Some b
table_keeps string1 string2 b low h = table_at string1 string2 b low ∙ ap (λ (x : ℕ). Some x) (counterpart_other string1 string2 b h)

-- ---- a string as it is written

no_escape : (t : Bool) → (t && false) ≡ false
no_escape true = refl
no_escape false = refl

escaped_read : (d at b c : ℕ) (rest bs : List ℕ) → escaped_byte d b ≡ Some c → ((n : ℕ) → bytes_of (chars_from d false n rest) ≡ bs) →
    bytes_of (chars_from d true at (b ∷ rest)) ≡ c ∷ bs
escaped_read d at b c rest bs e h = rw e (rw (no_escape (b == 92)) (ap (λ (x : List ℕ). c ∷ x) (h (suc at))))

plain_read : (d at b : ℕ) (rest bs : List ℕ) → (b == 92) ≡ false → ((n : ℕ) → bytes_of (chars_from d false n rest) ≡ bs) →
    bytes_of (chars_from d false at (b ∷ rest)) ≡ b ∷ bs
plain_read d at b rest bs e h = rw e (ap (λ (x : List ℕ). b ∷ x) (h (suc at)))

newline_escaped : (d : ℕ) → (d ≡ 110 → ⊥) → escaped_byte d 110 ≡ Some 10
newline_escaped d other = rw (ne_eqb 110 d (λ e. other (sym e))) refl

escaped_self : (d b : ℕ) → (b == d || b == 92) ≡ true → escaped_byte d b ≡ Some b
escaped_self d b e = rw e refl

right_false : (s t : Bool) → (s || t) ≡ false → t ≡ false
right_false true t e = cc
right_false false t e = e

byte_read : (s t : Bool) (d at b : ℕ) (rest bs : List ℕ) → (d ≡ 110 → ⊥) → (b == 10) ≡ s → (b == d || b == 92) ≡ t →
    ((n : ℕ) → bytes_of (chars_from d false n rest) ≡ bs) →
    bytes_of (chars_from d false at ((if s then 92 ∷ 110 ∷ [] else if t then 92 ∷ b ∷ [] else b ∷ []) ++ rest)) ≡ b ∷ bs
byte_read true t d at b rest bs other is same h =
    let ten : b ≡ 10 = eqb-true b 10 is in
    rw ten (escaped_read d (suc at) 110 10 rest bs (newline_escaped d other) h)
byte_read false true d at b rest bs other is same h = escaped_read d (suc at) b b rest bs (escaped_self d b same) h
byte_read false false d at b rest bs other is same h = plain_read d at b rest bs (right_false (b == d) (b == 92) same) h

pub string_read : (d : ℕ) (bytes : List ℕ) (at : ℕ) → (d ≡ 110 → ⊥) → bytes_of (chars_from d false at (written_string d bytes)) ≡ bytes
string_read d [] at other = refl
string_read d (b ∷ bs) at other = byte_read (b == 10) (b == d || b == 92) d at b (written_string d bs) bs other refl refl (λ n. string_read d bs n other)
