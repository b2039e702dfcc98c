-- Tables of all bytes.
use Rattle.std.proofs.Common.{◌≡◌, ◌≢◌, ℕ, zero, suc, ◌+◌, ◌<◌, List, [], ◌∷◌, ◌++◌, map, set, length, get_or, drop, replicate, min, Bool, true, false, refl, sym, ap, subst, ◌∙◌, ◌⊎◌, inl, inr, arith, drop-cons, drop_of_length-le, length-set, get_or-set_same, get_or-set_other}
use Rattle.std.specs.List.{range_with_len}
use Rattle.std.proofs.lemmas.Bool.Decides.{eqb_tells, leb_tells, Decides-eqb}
use Rattle.std.proofs.lemmas.List.{get_or-replicate}
use Rattle.std.proofs.lemmas.List.FromFn.{fill_by_all, length-map-range_with_len, get_or-map-range_with_len, length-range_with_len, get_or-range_with_len}
use Rattle.sedscript.specs.Strings.{table_of, counterpart, is_among}
use Rattle.sedscript.specs.Answers.{marks_of_bytes}

-- a list of all bytes' values with one written is that of a function that differs there
set_filled : {X : Type 0} (f g : ℕ → X) (n s : ℕ) (x : X) → s < n → g s ≡ x → ((k : ℕ) → k ≢ s → f k ≡ g k) → set (map f (range_with_len 0 n)) s x ≡ map g (range_with_len 0 n)
set_filled f g n s x lt here else_ =
    fill_by_all g (set (map f (range_with_len 0 n)) s x) n x (length-set (map f (range_with_len 0 n)) s x ∙ length-map-range_with_len f 0 n)
    (λ (k : ℕ) (small : k < n). elim (eqb_tells k s) [
      | inl h ↦ subst (λ (z : ℕ). get_or (set (map f (range_with_len 0 n)) s x) z x ≡ g z) (sym h.1)
          (get_or-set_same (map f (range_with_len 0 n)) s x x (let e : length (map f (range_with_len 0 n)) ≡ n = length-map-range_with_len f 0 n in omega (arith, e)) ∙ sym here)
      | inr h ↦ get_or-set_other (map f (range_with_len 0 n)) s k x x h.1 ∙ (get_or-map-range_with_len f 0 n k k x small (omega arith) ∙ else_ k h.1)
    ])

-- a pair before the others
pub table_more : (s t : ℕ) (string1 string2 : List ℕ) → s < 256 → set (table_of string1 string2) s t ≡ table_of (s ∷ string1) (t ∷ string2)
unfolding table_of
table_more s t string1 string2 lt =
    set_filled (counterpart string1 string2) (counterpart (s ∷ string1) (t ∷ string2)) 256 s t lt (rw ((Decides-eqb s s).1 refl) refl)
    (λ (k : ℕ) (other : k ≢ s). elim (eqb_tells s k) [ inl h ↦ absurd (other (sym h.1)) | inr h ↦ rw h.0 refl ])

-- a byte more
pub marks_more : (b : ℕ) (bs : List ℕ) → b < 256 → set (marks_of_bytes bs) b true ≡ marks_of_bytes (b ∷ bs)
unfolding marks_of_bytes
marks_more b bs lt =
    set_filled (is_among bs) (is_among (b ∷ bs)) 256 b true lt (rw ((Decides-eqb b b).1 refl) refl)
    (λ (k : ℕ) (other : k ≢ b). elim (eqb_tells b k) [ inl h ↦ absurd (other (sym h.1)) | inr h ↦ rw h.0 refl ])

pub marks_at : (b : ℕ) (bs : List ℕ) (d : Bool) → b < 256 → get_or (marks_of_bytes bs) b d ≡ is_among bs b
unfolding marks_of_bytes
marks_at b bs d lt = get_or-map-range_with_len (is_among bs) 0 256 b b d lt (omega arith)

pub table_length : (string1 string2 : List ℕ) → length (table_of string1 string2) ≡ 256
unfolding table_of
table_length string1 string2 = length-map-range_with_len (counterpart string1 string2) 0 256

-- without a pair each byte stands for itself
pub table_none : (string1 string2 : List ℕ) → string1 ≡ [] ⊎ string2 ≡ [] → range_with_len 0 256 ≡ table_of string1 string2
unfolding table_of
table_none string1 string2 h =
    fill_by_all (counterpart string1 string2) (range_with_len 0 256) 256 0 (length-range_with_len 0 256)
    (λ (k : ℕ) (lt : k < 256). get_or-range_with_len 0 256 k 0 lt ∙ (omega arith ∙ sym (same string1 string2 k h)))
  where
    same : (string1 string2 : List ℕ) (k : ℕ) → string1 ≡ [] ⊎ string2 ≡ [] → counterpart string1 string2 k ≡ k
    same string1 string2 k (inl e) = rw e refl
    same [] string2 k (inr e) = refl
    same (s ∷ string1) string2 k (inr e) = rw e refl

-- a number more
pub range_more : (a n : ℕ) → range_with_len a (n + 1) ≡ range_with_len a n ++ (a + n) ∷ []
range_more a zero = ap (λ (k : ℕ). k ∷ []) (omega arith)
range_more a (suc n) =
    ap (range_with_len a) (let e : suc n + 1 ≡ suc (n + 1) = omega arith in e)
    ∙ ap (λ (l : List ℕ). a ∷ l) (range_more (a + 1) n ∙ ap (λ (k : ℕ). range_with_len (a + 1) n ++ k ∷ []) (omega arith))

-- the pair at an index, before those after it
pub table_step : (string1 string2 : List ℕ) (k d e s t : ℕ) → k < length string1 → k < length string2 → s ≡ get_or string1 k d → t ≡ get_or string2 k e → s < 256 →
    set (table_of (drop (k + 1) string1) (drop (k + 1) string2)) s t ≡ table_of (drop k string1) (drop k string2)
table_step string1 string2 k d e s t h g is as_ lt =
    let one : k + 1 ≡ suc k = omega arith in
    let these : s ∷ drop (k + 1) string1 ≡ drop k string1 = ap (λ (z : ℕ). z ∷ drop (k + 1) string1) is ∙ (ap (λ (z : ℕ). get_or string1 k d ∷ drop z string1) one ∙ sym (drop-cons string1 k d h)) in
    let those : t ∷ drop (k + 1) string2 ≡ drop k string2 = ap (λ (z : ℕ). z ∷ drop (k + 1) string2) as_ ∙ (ap (λ (z : ℕ). get_or string2 k e ∷ drop z string2) one ∙ sym (drop-cons string2 k e g)) in
    table_more s t (drop (k + 1) string1) (drop (k + 1) string2) lt ∙ (ap (λ (z : List ℕ). table_of z (t ∷ drop (k + 1) string2)) these ∙ ap (table_of (drop k string1)) those)

-- after the shorter string no pair is left
pub table_start : (string1 string2 : List ℕ) (k : ℕ) → k ≡ min (length string1) (length string2) → range_with_len 0 256 ≡ table_of (drop k string1) (drop k string2)
table_start string1 string2 k e = table_none (drop k string1) (drop k string2) (elim (leb_tells (length string1) k)
    [ inl h ↦ inl (drop_of_length-le string1 h.1) | inr h ↦ inr (drop_of_length-le string2 (let above = h.1 in omega (arith, e, above))) ])

-- nothing is noted at first
pub no_marks : (seen : List Bool) → seen ≡ replicate 256 false → seen ≡ marks_of_bytes []
unfolding marks_of_bytes
no_marks seen e = e ∙ fill_by_all (is_among []) (replicate 256 false) 256 false refl (λ (k : ℕ) (lt : k < 256). get_or-replicate 256 k false false lt)

-- a byte is noted
pub noted : (old : List Bool) (b at : ℕ) → b < 256 → at ≡ b →
    (before : List ℕ) → old ≡ marks_of_bytes before → (get_or old at false ≡ is_among before b) × (set old at true ≡ marks_of_bytes (b ∷ before))
noted old b at lt same before e = (
  ap (λ (n : ℕ). get_or old n false) same ∙ (ap (λ (l : List Bool). get_or l b false) e ∙ marks_at b before false lt),
  ap (λ (n : ℕ). set old n true) same ∙ (ap (λ (l : List Bool). set l b true) e ∙ marks_more b before lt),
)
