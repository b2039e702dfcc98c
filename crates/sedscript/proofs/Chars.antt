-- The bytes of a string, from one place to the next.
use Rattle.std.proofs.Common.{◌≡◌, ℕ, suc, ◌+◌, ◌-◌, ◌<◌, ◌==◌, option_map, List, [], ◌∷◌, length, get_or, drop, Option, Some, None, Bool, true, false, if◌then◌else◌, refl, sym, ap, ◌∙◌, arith, drop-cons}
use Rattle.std.specs.List.{cons_option}
use Rattle.sedscript.specs.Strings.{escapes, escaped_byte, char_of, chars_from, chars_of, bytes_of, table_of, repeated_in, is_among}
use Rattle.sedscript.specs.Types.{Char}
use Rattle.sedscript.specs.declared.items.Strings.{Strings}
use Rattle.sedscript.specs.Bytes.{bytes_between}
use Rattle.sedscript.specs.Script.{table_between}

chars_step : (d from k : ℕ) (e f : Bool) (bytes : List ℕ) (o : Option Char) → k < length bytes → o ≡ char_of d e (from + k) (get_or bytes k 0) → f ≡ escapes e (get_or bytes k 0) →
    chars_from d e (from + k) (drop k bytes) ≡ cons_option o (chars_from d f (from + (k + 1)) (drop (k + 1) bytes))
chars_step d from k e f bytes o h is force =
    ap (chars_from d e (from + k)) (drop-cons bytes k 0 h)
    ∙ (ap (λ (x : Option Char). cons_option x (chars_from d (escapes e (get_or bytes k 0)) (suc (from + k)) (drop (suc k) bytes))) (sym is)
    ∙ (ap (λ (x : Bool). cons_option o (chars_from d x (suc (from + k)) (drop (suc k) bytes))) (sym force)
    ∙ (ap (λ (n : ℕ). cons_option o (chars_from d f n (drop (suc k) bytes))) (let a : suc (from + k) ≡ from + (k + 1) = omega arith in a)
    ∙ ap (λ (n : ℕ). cons_option o (chars_from d f (from + (k + 1)) (drop n bytes))) (let a : suc k ≡ k + 1 = omega arith in a))))

-- a byte that occurs there the first time
pub repeated_more : (d from k : ℕ) (e f : Bool) (bytes before : List ℕ) (o : Option Char) (c : Char) (noted : Bool) (answer : Option ℕ) → k < length bytes →
    o ≡ char_of d e (from + k) (get_or bytes k 0) → f ≡ escapes e (get_or bytes k 0) → o ≡ Some c → noted ≡ is_among before c.byte → noted ≡ false →
    answer ≡ repeated_in before (chars_from d e (from + k) (drop k bytes)) → answer ≡ repeated_in (c.byte ∷ before) (chars_from d f (from + (k + 1)) (drop (k + 1) bytes))
repeated_more d from k e f bytes before o c noted answer h is force some among first so_far =
    so_far ∙ (ap (repeated_in before) (chars_step d from k e f bytes o h is force)
    ∙ (ap (λ (x : Option Char). repeated_in before (cons_option x (chars_from d f (from + (k + 1)) (drop (k + 1) bytes)))) some
    ∙ ap (λ (t : Bool). if t then Some c.place else repeated_in (c.byte ∷ before) (chars_from d f (from + (k + 1)) (drop (k + 1) bytes))) (sym among ∙ first)))

-- one that occurs there a second time
pub repeated_found : (d from k : ℕ) (e : Bool) (bytes before : List ℕ) (o : Option Char) (c : Char) (noted : Bool) (answer : Option ℕ) → k < length bytes →
    o ≡ char_of d e (from + k) (get_or bytes k 0) → o ≡ Some c → noted ≡ is_among before c.byte → noted ≡ true →
    answer ≡ repeated_in before (chars_from d e (from + k) (drop k bytes)) → Some c.place ≡ answer
repeated_found d from k e bytes before o c noted answer h is some among second so_far =
    sym (so_far ∙ (ap (repeated_in before) (chars_step d from k e (escapes e (get_or bytes k 0)) bytes o h is refl)
    ∙ (ap (λ (x : Option Char). repeated_in before (cons_option x (chars_from d (escapes e (get_or bytes k 0)) (from + (k + 1)) (drop (k + 1) bytes)))) some
    ∙ ap (λ (t : Bool). if t then Some c.place else repeated_in (c.byte ∷ before) (chars_from d (escapes e (get_or bytes k 0)) (from + (k + 1)) (drop (k + 1) bytes))) (sym among ∙ second))))

-- no byte ends there
pub repeated_same : (d from k : ℕ) (e f : Bool) (bytes before : List ℕ) (o : Option Char) (answer : Option ℕ) → k < length bytes →
    o ≡ char_of d e (from + k) (get_or bytes k 0) → f ≡ escapes e (get_or bytes k 0) → o ≡ None →
    answer ≡ repeated_in before (chars_from d e (from + k) (drop k bytes)) → answer ≡ repeated_in before (chars_from d f (from + (k + 1)) (drop (k + 1) bytes))
repeated_same d from k e f bytes before o answer h is force none so_far =
    so_far ∙ (ap (repeated_in before) (chars_step d from k e f bytes o h is force)
    ∙ ap (λ (x : Option Char). repeated_in before (cons_option x (chars_from d f (from + (k + 1)) (drop (k + 1) bytes)))) none)

-- the bytes of a string are the same wherever it is
same_byte : (d at n : ℕ) (e : Bool) (b : ℕ) (cs ds : List Char) → bytes_of cs ≡ bytes_of ds → bytes_of (cons_option (char_of d e at b) cs) ≡ bytes_of (cons_option (char_of d e n b) ds)
same_byte d at n true b cs ds h = by_byte (escaped_byte d b)
  where
    by_byte : (o : Option ℕ) → bytes_of (cons_option (option_map (λ (x : ℕ). record { byte = x; place = at - 1 }) o) cs) ≡ bytes_of (cons_option (option_map (λ (x : ℕ). record { byte = x; place = n - 1 }) o) ds)
    by_byte None = h
    by_byte (Some x) = ap (λ (bs : List ℕ). x ∷ bs) h
same_byte d at n false b cs ds h = by_test (b == 92)
  where
    by_test : (t : Bool) → bytes_of (cons_option (if t then None else Some (record { byte = b; place = at })) cs) ≡ bytes_of (cons_option (if t then None else Some (record { byte = b; place = n })) ds)
    by_test true = h
    by_test false = ap (λ (bs : List ℕ). b ∷ bs) h

pub same_bytes : (d at n : ℕ) (e : Bool) (bs : List ℕ) → bytes_of (chars_from d e at bs) ≡ bytes_of (chars_from d e n bs)
same_bytes d at n e [] = refl
same_bytes d at n e (b ∷ bs) = same_byte d at n e b _ _ (same_bytes d (suc at) (suc n) (escapes e b) bs)

-- the table of two strings
pub table_is : (text : List ℕ) (s : Strings) (table string1 string2 first second : List ℕ) → first ≡ bytes_between text s.from s.middle → second ≡ bytes_between text (s.middle + 1) s.to →
    string1 ≡ bytes_of (chars_from s.delimiter false 0 first) → string2 ≡ bytes_of (chars_from s.delimiter false 0 second) → table ≡ table_of string1 string2 → table ≡ table_between text s
table_is text s table string1 string2 first second one other from to is =
    is ∙ ap (λ (x : List ℕ). table_of x string2) (from ∙ (ap (λ (x : List ℕ). bytes_of (chars_from s.delimiter false 0 x)) one ∙ same_bytes s.delimiter 0 s.from false (bytes_between text s.from s.middle)))
    ∙ ap (table_of (bytes_of (chars_of text s.delimiter s.from s.middle))) (to ∙ (ap (λ (x : List ℕ). bytes_of (chars_from s.delimiter false 0 x)) other ∙ same_bytes s.delimiter 0 (s.middle + 1) false (bytes_between text (s.middle + 1) s.to)))
