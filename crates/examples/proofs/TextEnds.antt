-- Where a text of `a`, `i` or `c` ends.
use Rattle.std.proofs.Common.{◌≡◌, ℕ, suc, ◌+◌, ◌<◌, ◌≤◌, ◌==◌, ◌%◌, ◌⊎◌, inl, inr, ◌&&◌, Bool, true, false, if◌then◌else◌, List, [], ◌∷◌, length, drop, Option, Some, None, option_map, slice_get, refl, sym, ap, ◌∙◌, arith, length-drop, unwrap_or}
use Rattle.std.proofs.lemmas.Bool.{eqb-true, eqb-false, and_parts}
use Rattle.std.proofs.lemmas.Option.{slice_get_within, some_pair_parts}
use Rattle.sedscript.specs.declared.texts.Inside.{Inside}
use Rattle.sedscript.specs.declared.texts.Inside.TheVariants.{InLine, Escape, Due}
use Rattle.sedscript.specs.Arguments.{text_from, text_end, ends_text, inside_after}
use Rattle.sedscript.specs.Bytes.{is_byte}
use Rattle.examples.specs.Backslashes.{IsUnescaped, NoneUnescaped}
use Rattle.examples.proofs.BackslashLemmas.{Reaches, reaches_end, reaches_here, reaches_later, next, nothing_before, nested_last, odd_more, even_more}

-- a text is after a backslash that escapes exactly where an odd number of them comes before
abbrev Fits : Inside → ℕ → Type 0
Fits Escape n = n % 2 ≡ 1
Fits InLine n = n % 2 ≡ 0
Fits Due n = n % 2 ≡ 0

fits_after : (how : Inside) (n b : ℕ) → Fits how n → Fits (inside_after how b) (next n b)
fits_after Escape n b h = by_tests (b == 10) (b == 92)
  where
    by_tests : (s t : Bool) → Fits (if s then Due else InLine) (if t then suc n else 0)
    by_tests true true = even_more n h
    by_tests true false = refl
    by_tests false true = even_more n h
    by_tests false false = refl
fits_after InLine n b h = by_test (b == 92)
  where
    by_test : (t : Bool) → Fits (if t then Escape else InLine) (if t then suc n else 0)
    by_test true = odd_more n h
    by_test false = refl
fits_after Due n b h = by_test (b == 92)
  where
    by_test : (t : Bool) → Fits (if t then Escape else InLine) (if t then suc n else 0)
    by_test true = odd_more n h
    by_test false = refl

stop_here : (how : Inside) (n b : ℕ) → Fits how n → ends_text how b ≡ true → (b ≡ 10) × (n % 2 ≡ 0)
stop_here Escape n b f e = cc
stop_here InLine n b f e = (eqb-true b 10 e, f)
stop_here Due n b f e = (eqb-true b 10 e, f)

go_on : (how : Inside) (n b : ℕ) → Fits how n → ends_text how b ≡ false → b ≡ 10 → n % 2 ≡ 0 → ⊥
go_on Escape n b f e is even = let no : ◌≡◌ {A = ℕ} 1 0 = sym f ∙ even in cc
go_on InLine n b f e is even = eqb-false b 10 e is
go_on Due n b f e is even = eqb-false b 10 e is

by_stop : (how : Inside) (at n to b : ℕ) (bs : List ℕ) (rest : Option ℕ) (s : Bool) → ends_text how b ≡ s → Fits how n → (if s then Some at else rest) ≡ Some to →
    (rest ≡ Some to → Reaches true 10 (next n b) bs (suc at) to) → Reaches true 10 n (b ∷ bs) at to
by_stop how at n to b bs rest true s f e h = let x = stop_here how n b f s in reaches_here true 10 n at to b bs (cc) x.0 x.1
by_stop how at n to b bs rest false s f e h = reaches_later true 10 n at to b bs (go_on how n b f s) (h e)

text_reaches : (how : Inside) (at n to : ℕ) (bs : List ℕ) → Fits how n → text_end how at bs ≡ Some to → Reaches true 10 n bs at to
text_reaches InLine at n to [] f e = reaches_end 10 n at to cc
text_reaches Escape at n to [] f e = let x : ◌≡◌ {A = Option ℕ} None (Some to) = e in cc
text_reaches Due at n to [] f e = let x : ◌≡◌ {A = Option ℕ} None (Some to) = e in cc
text_reaches InLine at n to (b ∷ bs) f e =
    by_stop InLine at n to b bs (text_end (inside_after InLine b) (suc at) bs) (ends_text InLine b) refl f e (λ r. text_reaches (inside_after InLine b) (suc at) (next n b) to bs (fits_after InLine n b f) r)
text_reaches Escape at n to (b ∷ bs) f e =
    by_stop Escape at n to b bs (text_end (inside_after Escape b) (suc at) bs) (ends_text Escape b) refl f e (λ r. text_reaches (inside_after Escape b) (suc at) (next n b) to bs (fits_after Escape n b f) r)
text_reaches Due at n to (b ∷ bs) f e =
    by_stop Due at n to b bs (text_end (inside_after Due b) (suc at) bs) (ends_text Due b) refl f e (λ r. text_reaches (inside_after Due b) (suc at) (next n b) to bs (fits_after Due n b f) r)

-- what the law says of a span
abbrev Ends : List ℕ → ℕ → ℕ → Type 0
Ends script begin end = (begin ≤ end) × (end ≤ length script) × NoneUnescaped 10 script begin end × ((end ≡ length script) ⊎ IsUnescaped 10 script begin end)

ends_from : (script : List ℕ) (how : Inside) (begin end : ℕ) → Fits how 0 → begin ≤ length script → text_end how begin (drop begin script) ≡ Some end → Ends script begin end
ends_from script how begin end f low e =
    let r : Reaches true 10 0 (drop begin script) begin end = text_reaches how begin 0 end (drop begin script) f e in
    let long = length-drop begin script in
    (omega (arith, r.place), omega (arith, r.place, r.within, long), nothing_before true 10 script begin end r, by_last (nested_last true 10 script begin end r))
  where
    by_last : ((true ≡ true) × (length (drop begin script) + begin ≡ end)) ⊎ IsUnescaped 10 script begin end → (end ≡ length script) ⊎ IsUnescaped 10 script begin end
    by_last (inl e) = inl (omega (arith, e.1, low, length-drop begin script))
    by_last (inr u) = inr u

abbrev spanned : ℕ → ℕ → ℕ × ℕ
spanned x to = (x, to)

mapped : (x from begin end : ℕ) (o : Option ℕ) → option_map (spanned x) o ≡ Some (begin, end) → (x ≡ begin) × (o ≡ Some end)
mapped x from begin end None e = let no : ◌≡◌ {A = Option (ℕ × ℕ)} None (Some (begin, end)) = e in cc
mapped x from begin end (Some to) e = let s : ◌≡◌ {A = Option (ℕ × ℕ)} (Some (x, to)) (Some (begin, end)) = e in
    let parts = some_pair_parts x begin to end s in
    (parts.0, ap (λ (n : ℕ). Some n) parts.1)

stands_in : (script : List ℕ) (byte at : ℕ) → is_byte byte (slice_get script at) ≡ true → at < length script
stands_in script byte at h = by_byte (slice_get script at) refl h
  where
    by_byte : (o : Option ℕ) → slice_get script at ≡ o → is_byte byte o ≡ true → at < length script
    by_byte None e h = cc
    by_byte (Some b) e h = slice_get_within script at b e

open_line : (script : List ℕ) (at : ℕ) → (unwrap_or (slice_get script at) 10 == 10) ≡ false → at < length script
open_line script at h = by_byte (slice_get script at) refl h
  where
    by_byte : (o : Option ℕ) → slice_get script at ≡ o → (unwrap_or o 10 == 10) ≡ false → at < length script
    by_byte None e h = cc
    by_byte (Some b) e h = slice_get_within script at b e

pub text_ends : (script : List ℕ) (from begin end : ℕ) → text_from script from ≡ Some (begin, end) → Ends script begin end
unfolding text_from
text_ends script from begin end e = by_form (is_byte 92 (slice_get script from) && is_byte 10 (slice_get script (from + 1))) refl e
  where
    by_line : (t : Bool) → (unwrap_or (slice_get script from) 10 == 10) ≡ t → (if t then None else option_map (spanned from) (text_end InLine from (drop from script))) ≡ Some (begin, end) → Ends script begin end
    by_line true h e = let no : ◌≡◌ {A = Option (ℕ × ℕ)} None (Some (begin, end)) = e in cc
    by_line false h e =
        let m = mapped from from begin end (text_end InLine from (drop from script)) e in
        let inside = open_line script from h in
        let r : text_end InLine from (drop from script) ≡ Some end = m.1 in
        rw (← m.0) (ends_from script InLine from end refl (omega (arith, inside)) r)

    by_form : (t : Bool) → (is_byte 92 (slice_get script from) && is_byte 10 (slice_get script (from + 1))) ≡ t →
        (if t then option_map (spanned (from + 2)) (text_end Due (from + 2) (drop (from + 2) script))
        else if unwrap_or (slice_get script from) 10 == 10 then None
        else option_map (spanned from) (text_end InLine from (drop from script))) ≡ Some (begin, end) → Ends script begin end
    by_form true h e =
        let m = mapped (from + 2) from begin end (text_end Due (from + 2) (drop (from + 2) script)) e in
        let two = and_parts (is_byte 92 (slice_get script from)) (is_byte 10 (slice_get script (from + 1))) h in
        let inside = stands_in script 10 (from + 1) two.1 in
        rw (← m.0) (ends_from script Due (from + 2) end refl (omega (arith, inside)) m.1)
    by_form false h e = by_line (unwrap_or (slice_get script from) 10 == 10) refl e
