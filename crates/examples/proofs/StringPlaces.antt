-- The places of the bytes of a string of `y`.
use Rattle.std.proofs.Common.{◌≡◌, ◌⊎◌, inl, inr, ℕ, zero, suc, ◌+◌, ◌-◌, ◌==◌, ◌%◌, ◌&&◌, Bool, true, false, if◌then◌else◌, List, [], ◌∷◌, drop, Option, Some, None, option_map, slice_get, refl, sym, ap, subst, ◌∙◌, arith}
use Rattle.std.specs.List.{cons_option}
use Rattle.sedscript.specs.declared.transliteration.Char.{Char}
use Rattle.sedscript.specs.Bytes.{bytes_between}
use Rattle.sedscript.specs.Strings.{chars_from, chars_of, escaped_byte}
use Rattle.examples.specs.Escapes.{IsEscape}
use Rattle.examples.proofs.BackslashLemmas.{next, get_drop, even_again, even_plain, backslash_here}
use Rattle.examples.proofs.WrongEscapes.{Escape, onto_one, get_take, within, escape_out, no_escape}

module _ (d : ℕ) where
  -- the byte is at its place among these, or its escape is, where so many backslashes come before them
  record Placed (n at : ℕ) (bs : List ℕ) (c : Char) : Type 0 where
    pub k : ℕ
    pub place : c.place ≡ at + k
    pub stands : (slice_get bs k ≡ Some c.byte) ⊎ ((b : ℕ) × Escape n bs k b × (escaped_byte d b ≡ Some c.byte))

  abbrev Each : ℕ → ℕ → List ℕ → List Char → Type 0
  Each n at bs cs = (j : ℕ) (c : Char) → slice_get cs j ≡ Some c → Placed n at bs c

  one_further : (n at b : ℕ) (bs : List ℕ) (c : Char) → Placed (next n b) (suc at) bs c → Placed n at (b ∷ bs) c
  one_further n at b bs c p = record { k = suc p.k; place = omega (arith, p.place); stands = by_place p.stands }
    where
      by_place : (slice_get bs p.k ≡ Some c.byte) ⊎ ((x : ℕ) × Escape (next n b) bs p.k x × (escaped_byte d x ≡ Some c.byte)) →
          (slice_get (b ∷ bs) (suc p.k) ≡ Some c.byte) ⊎ ((x : ℕ) × Escape n (b ∷ bs) (suc p.k) x × (escaped_byte d x ≡ Some c.byte))
      by_place (inl e) = inl e
      by_place (inr e) = inr (e.0, onto_one n b p.k e.0 bs e.1, e.2)

  -- one more byte, if it is one
  with_one : (n at : ℕ) (bs : List ℕ) (o : Option Char) (cs : List Char) → ((c : Char) → o ≡ Some c → Placed n at bs c) → Each n at bs cs → Each n at bs (cons_option o cs)
  with_one n at bs None cs first rest j c e = rest j c e
  with_one n at bs (Some x) cs first rest zero c e = first c e
  with_one n at bs (Some x) cs first rest (suc j) c e = rest j c e

  plain : (n at b : ℕ) (bs : List ℕ) (c : Char) → ◌≡◌ {A = Option Char} (Some (record { byte = b; place = at })) (Some c) → Placed n at (b ∷ bs) c
  plain n at b bs c e =
      let same : ◌≡◌ {A = Char} (record { byte = b; place = at }) c = cc in
      subst (Placed n at (b ∷ bs)) same (record { k = 0; place = omega arith; stands = inl refl })

  escaped : (n at b x : ℕ) (bs : List ℕ) (c : Char) (o : Option ℕ) → (b == 92) ≡ true → n % 2 ≡ 0 → escaped_byte d x ≡ o → option_map (λ (y : ℕ). record { byte = y; place = suc at - 1 }) o ≡ Some c → Placed n at (b ∷ x ∷ bs) c
  escaped n at b x bs c None is even found e = let no : ◌≡◌ {A = Option Char} None (Some c) = e in absurd cc
  escaped n at b x bs c (Some y) is even found e =
      let same : ◌≡◌ {A = Char} (record { byte = y; place = suc at - 1 }) c = cc in
      subst (Placed n at (b ∷ x ∷ bs)) same
      (record { k = 0; place = omega arith; stands = inr (x, record { free = backslash_here n b (x ∷ bs) is even; byte = refl }, found) })

  nothing : (n at : ℕ) (bs : List ℕ) → Each n at bs []
  nothing n at bs j c e = let no : ◌≡◌ {A = Option Char} None (Some c) = e in absurd cc

  placed : (n at : ℕ) (bs : List ℕ) → n % 2 ≡ 0 → Each n at bs (chars_from d false at bs)
  placed n at [] even = nothing n at []
  placed n at (b ∷ []) even = by_test (b == 92)
    where
      by_test : (t : Bool) → Each n at (b ∷ []) (cons_option (if t then None else Some (record { byte = b; place = at })) [])
      by_test true = nothing n at (b ∷ [])
      by_test false = with_one n at (b ∷ []) (Some (record { byte = b; place = at })) [] (plain n at b []) (nothing n at (b ∷ []))
  placed n at (b ∷ x ∷ bs) even = by_test (b == 92) refl (λ even. placed (next (next n b) x) (suc (suc at)) bs even) (λ even. placed (next n b) (suc at) (x ∷ bs) even)
    where
      two_further : Each (next (next n b) x) (suc (suc at)) bs (chars_from d false (suc (suc at)) bs) → Each n at (b ∷ x ∷ bs) (chars_from d ((x == 92) && false) (suc (suc at)) bs)
      two_further rest = rw (no_escape (x == 92)) (λ j c e. one_further n at b (x ∷ bs) c (one_further (next n b) (suc at) x bs c (rest j c e)))

      by_test : (t : Bool) → (b == 92) ≡ t → (next (next n b) x % 2 ≡ 0 → Each (next (next n b) x) (suc (suc at)) bs (chars_from d false (suc (suc at)) bs)) →
          (next n b % 2 ≡ 0 → Each (next n b) (suc at) (x ∷ bs) (chars_from d false (suc at) (x ∷ bs))) →
          Each n at (b ∷ x ∷ bs) (cons_option (if t then None else Some (record { byte = b; place = at })) (chars_from d (t && true) (suc at) (x ∷ bs)))
      by_test true is two one =
          with_one n at (b ∷ x ∷ bs) (option_map (λ (y : ℕ). record { byte = y; place = suc at - 1 }) (escaped_byte d x)) (chars_from d ((x == 92) && false) (suc (suc at)) bs)
          (λ c e. escaped n at b x bs c (escaped_byte d x) is even refl e) (two_further (two (even_again n b x is even)))
      by_test false is two one =
          with_one n at (b ∷ x ∷ bs) (Some (record { byte = b; place = at })) (chars_from d false (suc at) (x ∷ bs)) (plain n at b (x ∷ bs))
          (λ j c e. one_further n at b (x ∷ bs) c (one (even_plain n b is) j c e))

pub string_places : (text : List ℕ) (delimiter from to k : ℕ) (c : Char) → slice_get (chars_of text delimiter from to) k ≡ Some c →
    (slice_get text c.place ≡ Some c.byte) ⊎ ((b : ℕ) × IsEscape text from to c.place b × (escaped_byte delimiter b ≡ Some c.byte))
string_places text delimiter from to k c e = by_place p.stands
  where
    p : Placed delimiter 0 from (bytes_between text from to) c
    p = placed delimiter 0 from (bytes_between text from to) refl k c e

    by_place : (slice_get (bytes_between text from to) p.k ≡ Some c.byte) ⊎ ((b : ℕ) × Escape 0 (bytes_between text from to) p.k b × (escaped_byte delimiter b ≡ Some c.byte)) →
        (slice_get text c.place ≡ Some c.byte) ⊎ ((b : ℕ) × IsEscape text from to c.place b × (escaped_byte delimiter b ≡ Some c.byte))
    by_place (inl f) =
        inl
        (ap (slice_get text) p.place
        ∙ (sym (get_drop text from p.k) ∙ (sym (get_take (to - from) p.k (drop from text) (within text from to p.k c.byte f)) ∙ f)))
    by_place (inr f) = inr (f.0, subst (λ (at : ℕ). IsEscape text from to at f.0) (sym p.place) (escape_out text from to p.k f.0 f.1), f.2)
