-- The first escape with which something is wrong.
use Rattle.std.proofs.Common.{◌≡◌, ℕ, zero, suc, ◌+◌, ◌-◌, ◌<◌, ◌==◌, ◌%◌, ◌||◌, ◌&&◌, not, Bool, true, false, if◌then◌else◌, List, [], ◌∷◌, take, drop, Option, Some, None, option_map, slice_get, refl, sym, ap, subst, ◌∙◌, arith, take-take, length-take}
use Rattle.std.specs.Prelude.{is_none}
use Rattle.std.specs.Option.{option_or}
use Rattle.std.proofs.lemmas.Bool.{eqb-true, le-ltb}
use Rattle.std.proofs.lemmas.Option.{slice_get_within}
use Rattle.sedscript.specs.declared.types.ScriptFault.{ScriptFault}
use Rattle.sedscript.specs.declared.types.Reason.{Reason}
use Rattle.sedscript.specs.declared.types.Reason.TheVariants.{BadEscape, GroupAbsent}
use Rattle.sedscript.specs.declared.substitution.Piece.TheVariants.{Literal as literal, Whole as whole, Group as group}
use Rattle.sedscript.specs.Bytes.{bytes_between, is_digit, fault_if}
use Rattle.sedscript.specs.Strings.{string_fault, is_letter, exceeds, piece_fault, replacement_fault}
use Rattle.examples.specs.Backslashes.{backslashes}
use Rattle.examples.specs.Escapes.{wrong_in_string, wrong_in_replacement, IsEscape, FirstWrong}
use Rattle.examples.proofs.BackslashLemmas.{next, Free, get_drop, same_byte, behind, onto, not_first, escaped_first, even_again, even_plain, backslash_here}

-- ---- both definitions ask the same of each byte after a backslash

abbrev fault_at : ℕ → Reason → ScriptFault
fault_at place r = record { place = place; reason = r }

abbrev scan : (ℕ → Option Reason) → Bool → ℕ → List ℕ → Option ScriptFault
scan wrong escaped at [] = None
scan wrong true at (b ∷ bs) = option_or (option_map (fault_at (at - 1)) (wrong b)) (scan wrong false (suc at) bs)
scan wrong false at (b ∷ bs) = scan wrong (b == 92) (suc at) bs

pub no_escape : (t : Bool) → (t && false) ≡ false
no_escape true = refl
no_escape false = refl

an_escape : (t : Bool) → (t && true) ≡ t
an_escape true = refl
an_escape false = refl

string_tests : (p q r s : Bool) (b at : ℕ) (x y : Option ScriptFault) → x ≡ y →
    (if is_none (if p || q then Some b else if r then Some 10 else if s then Some 9 else None) then Some (fault_at at BadEscape) else x)
    ≡ option_or (option_map (fault_at at) (if p || q || r || s then None else Some BadEscape)) y
string_tests true q r s b at x y e = e
string_tests false true r s b at x y e = e
string_tests false false true s b at x y e = e
string_tests false false false true b at x y e = e
string_tests false false false false b at x y e = refl

string_scan : (d : ℕ) (escaped : Bool) (at : ℕ) (bs : List ℕ) → string_fault d escaped at bs ≡ scan (wrong_in_string d) escaped at bs
string_scan d escaped at [] = refl
string_scan d true at (b ∷ bs) =
    string_tests (b == d) (b == 92) (b == 110) (b == 116) b (at - 1) _ (scan (wrong_in_string d) false (suc at) bs)
    (ap (λ (t : Bool). string_fault d t (suc at) bs) (no_escape (b == 92)) ∙ string_scan d false (suc at) bs)
string_scan d false at (b ∷ bs) = ap (λ (t : Bool). string_fault d t (suc at) bs) (an_escape (b == 92)) ∙ string_scan d (b == 92) (suc at) bs

group_tests : (t : Bool) (place : ℕ) → fault_if t GroupAbsent place ≡ option_map (fault_at place) (if t then Some GroupAbsent else None)
group_tests true place = refl
group_tests false place = refl

unwrong : (t : Bool) (place : ℕ) → ◌≡◌ {A = Option ScriptFault} None (option_map (fault_at place) (if t && false then Some BadEscape else None))
unwrong true place = refl
unwrong false place = refl

piece_tests : (p q r s t u : Bool) (limit : Option ℕ) (place b : ℕ) → (q ≡ true → (r ≡ true) × (exceeds limit (b - 48) ≡ false)) →
    piece_fault limit place (if p then Some (literal b) else if q then Some whole else if r then Some (group (b - 48)) else if s then Some (literal 10) else if t then Some (literal 9) else if u then None else Some (literal b))
    ≡ option_map (fault_at place) (if p then None else if r then (if exceeds limit (b - 48) then Some GroupAbsent else None) else if u && not (s || t) then Some BadEscape else None)
piece_tests true q r s t u limit place b h = refl
piece_tests false true r s t u limit place b h = let two = h refl in rw (two.0, two.1) refl
piece_tests false false true s t u limit place b h = group_tests (exceeds limit (b - 48)) place
piece_tests false false false true t u limit place b h = unwrong u place
piece_tests false false false false true u limit place b h = unwrong u place
piece_tests false false false false false true limit place b h = refl
piece_tests false false false false false false limit place b h = refl

none_exceeds : (limit : Option ℕ) → exceeds limit 0 ≡ false
none_exceeds None = refl
none_exceeds (Some n) = le-ltb n 0 (omega arith)

whole_match : (limit : Option ℕ) (b : ℕ) → (b == 48) ≡ true → (is_digit b ≡ true) × (exceeds limit (b - 48) ≡ false)
whole_match limit b e = let same : b ≡ 48 = eqb-true b 48 e in rw same (refl, none_exceeds limit)

replacement_scan : (d : ℕ) (limit : Option ℕ) (escaped : Bool) (at : ℕ) (bs : List ℕ) → replacement_fault d limit escaped at bs ≡ scan (wrong_in_replacement d limit) escaped at bs
replacement_scan d limit escaped at [] = refl
replacement_scan d limit true at (b ∷ bs) =
    ap (λ (o : Option ScriptFault). option_or o (replacement_fault d limit false (suc at) bs)) (piece_tests (b == d) (b == 48) (is_digit b) (b == 110) (b == 116) (is_letter b) limit (at - 1) b (whole_match limit b))
    ∙ ap (option_or (option_map (fault_at (at - 1)) (wrong_in_replacement d limit b))) (replacement_scan d limit false (suc at) bs)
replacement_scan d limit false at (b ∷ bs) = replacement_scan d limit (b == 92) (suc at) bs

-- ---- where the answer lies

-- a backslash that none escapes and a byte after it, where so many backslashes come before the bytes
pub record Escape (n : ℕ) (bs : List ℕ) (k b : ℕ) : Type 0 where
  pub free : Free 92 n bs k
  pub byte : slice_get bs (suc k) ≡ Some b

record Wrong (wrong : ℕ → Option Reason) (n at : ℕ) (bs : List ℕ) (f : ScriptFault) : Type 0 where
  pub k : ℕ
  pub byte : ℕ
  pub place : f.place ≡ at + k
  pub escape : Escape n bs k byte
  pub reason : wrong byte ≡ Some f.reason
  pub first : (j b : ℕ) → j < k → Escape n bs j b → wrong b ≡ None

abbrev Scanned : (ℕ → Option Reason) → ℕ → ℕ → List ℕ → Option ScriptFault → Type 0
Scanned wrong n at bs None = (k b : ℕ) → Escape n bs k b → wrong b ≡ None
Scanned wrong n at bs (Some f) = Wrong wrong n at bs f

-- an escape after the first byte, and back
tail_of : (n b k c : ℕ) (bs : List ℕ) → Escape n (b ∷ bs) (suc k) c → Escape (next n b) bs k c
tail_of n b k c bs e = record { free = behind 92 n b k bs e.free; byte = e.byte }

pub onto_one : (n b k c : ℕ) (bs : List ℕ) → Escape (next n b) bs k c → Escape n (b ∷ bs) (suc k) c
onto_one n b k c bs e = record { free = onto 92 n b k bs e.free; byte = e.byte }

-- a byte before them with which nothing is wrong
past_byte : (wrong : ℕ → Option Reason) (n at b : ℕ) (bs : List ℕ) (o : Option ScriptFault) → ((c : ℕ) → Escape n (b ∷ bs) 0 c → wrong c ≡ None) → Scanned wrong (next n b) (suc at) bs o → Scanned wrong n at (b ∷ bs) o
past_byte wrong n at b bs None right h = each
  where
    each : (k c : ℕ) → Escape n (b ∷ bs) k c → wrong c ≡ None
    each zero c e = right c e
    each (suc k) c e = h k c (tail_of n b k c bs e)
past_byte wrong n at b bs (Some f) right h = record {
  k = suc h.k;
  byte = h.byte;
  place = omega (arith, h.place);
  escape = onto_one n b h.k h.byte bs h.escape;
  reason = h.reason;
  first = each;
}
  where
    each : (j c : ℕ) → j < suc h.k → Escape n (b ∷ bs) j c → wrong c ≡ None
    each zero c low e = right c e
    each (suc j) c low e = h.first j c (omega (arith, low)) (tail_of n b j c bs e)

wrong_here : (wrong : ℕ → Option Reason) (n at b c : ℕ) (cs : List ℕ) (r : Reason) → (b == 92) ≡ true → n % 2 ≡ 0 → wrong c ≡ Some r → Wrong wrong n at (b ∷ c ∷ cs) (fault_at (suc at - 1) r)
wrong_here wrong n at b c cs r is even e = record {
  k = 0;
  byte = c;
  place = omega arith;
  escape = record { free = backslash_here n b (c ∷ cs) is even; byte = refl };
  reason = e;
  first = λ j x low f. absurd (omega (arith, low));
}

scanned : (wrong : ℕ → Option Reason) (n at : ℕ) (bs : List ℕ) → n % 2 ≡ 0 → Scanned wrong n at bs (scan wrong false at bs)
scanned wrong n at [] even = λ k b e. (let no : ◌≡◌ {A = Option ℕ} None (Some b) = e.byte in absurd cc)
scanned wrong n at (b ∷ []) even = λ k x e. (let no : ◌≡◌ {A = Option ℕ} None (Some x) = e.byte in absurd cc)
scanned wrong n at (b ∷ c ∷ cs) even =
    by_test (b == 92) refl (λ even. scanned wrong (next (next n b) c) (suc (suc at)) cs even) (λ even. scanned wrong (next n b) (suc at) (c ∷ cs) even)
  where
    by_wrong : (o : Option Reason) → wrong c ≡ o → (b == 92) ≡ true → Scanned wrong (next (next n b) c) (suc (suc at)) cs (scan wrong false (suc (suc at)) cs) →
        Scanned wrong n at (b ∷ c ∷ cs) (option_or (option_map (fault_at (suc at - 1)) o) (scan wrong false (suc (suc at)) cs))
    by_wrong None right is rest =
        past_byte wrong n at b (c ∷ cs) (scan wrong false (suc (suc at)) cs) (λ x e. ap wrong (same_byte x c (sym e.byte)) ∙ right)
        (past_byte wrong (next n b) (suc at) c cs (scan wrong false (suc (suc at)) cs) (λ x e. absurd (escaped_first 92 n b c cs is even e.free)) rest)
    by_wrong (Some r) bad is rest = wrong_here wrong n at b c cs r is even bad

    by_test : (t : Bool) → (b == 92) ≡ t → (next (next n b) c % 2 ≡ 0 → Scanned wrong (next (next n b) c) (suc (suc at)) cs (scan wrong false (suc (suc at)) cs)) →
        (next n b % 2 ≡ 0 → Scanned wrong (next n b) (suc at) (c ∷ cs) (scan wrong false (suc at) (c ∷ cs))) → Scanned wrong n at (b ∷ c ∷ cs) (scan wrong t (suc at) (c ∷ cs))
    by_test true is two one = by_wrong (wrong c) refl is (two (even_again n b c is even))
    by_test false is two one = past_byte wrong n at b (c ∷ cs) (scan wrong false (suc at) (c ∷ cs)) (λ x e. absurd (not_first 92 n b (c ∷ cs) is e.free)) (one (even_plain n b is))

-- ---- of a script

pub get_take : (m k : ℕ) (xs : List ℕ) → k < m → slice_get (take m xs) k ≡ slice_get xs k
get_take zero k xs low = absurd (omega (arith, low))
get_take (suc m) k [] low = refl
get_take (suc m) zero (x ∷ xs) low = refl
get_take (suc m) (suc k) (x ∷ xs) low = get_take m k xs (omega (arith, low))

escape_in : (text : List ℕ) (from to at b : ℕ) → IsEscape text from to at b → Escape 0 (bytes_between text from to) (at - from) b
escape_in text from to at b e = record {
  free = record {
    stands = get_take (to - from) (at - from) (drop from text) (omega (arith, e.begins, e.ends))
        ∙ (get_drop text from (at - from) ∙ (ap (slice_get text) (let n : from + (at - from) ≡ at = omega (arith, e.begins) in n) ∙ e.backslash.stands));
    even = ap (λ (bs : List ℕ). backslashes 0 bs % 2) (take-take (at - from) (to - from) (drop from text) (omega (arith, e.begins, e.ends))) ∙ e.backslash.even;
  };
  byte = get_take (to - from) (suc (at - from)) (drop from text) (omega (arith, e.begins, e.ends))
      ∙ (get_drop text from (suc (at - from)) ∙ (ap (slice_get text) (let n : from + suc (at - from) ≡ at + 1 = omega (arith, e.begins) in n) ∙ e.next));
}

pub within : (text : List ℕ) (from to k b : ℕ) → slice_get (bytes_between text from to) k ≡ Some b → k < to - from
within text from to k b e = omega (arith, slice_get_within (bytes_between text from to) k b e, length-take (to - from) (drop from text))

pub escape_out : (text : List ℕ) (from to k b : ℕ) → Escape 0 (bytes_between text from to) k b → IsEscape text from to (from + k) b
escape_out text from to k b e =
    let low = within text from to (suc k) b e.byte in record {
      begins = omega arith;
      backslash = record {
        stands = sym (get_drop text from k) ∙ (sym (get_take (to - from) k (drop from text) (omega (arith, low))) ∙ e.free.stands);
        even = ap (λ (m : ℕ). backslashes 0 (take m (drop from text)) % 2) (let n : from + k - from ≡ k = omega arith in n)
            ∙ (ap (λ (bs : List ℕ). backslashes 0 bs % 2) (sym (take-take k (to - from) (drop from text) (omega (arith, low)))) ∙ e.free.even);
      };
      next = ap (slice_get text) (let n : from + k + 1 ≡ from + suc k = omega arith in n) ∙ (sym (get_drop text from (suc k)) ∙ (sym (get_take (to - from) (suc k) (drop from text) low) ∙ e.byte));
      ends = omega (arith, low);
    }

first_wrong : (wrong : ℕ → Option Reason) (text : List ℕ) (from to : ℕ) (o : Option ScriptFault) → Scanned wrong 0 from (bytes_between text from to) o → FirstWrong wrong text from to o
first_wrong wrong text from to None h = λ at b e. h (at - from) b (escape_in text from to at b e)
first_wrong wrong text from to (Some f) h = record {
  byte = h.byte;
  escape = subst (λ (at : ℕ). IsEscape text from to at h.byte) (sym h.place) (escape_out text from to h.k h.byte h.escape);
  reason = h.reason;
  first = λ at b low e. h.first (at - from) b (omega (arith, low, h.place, e.begins)) (escape_in text from to at b e);
}

pub string_fault_first : (script : List ℕ) (delimiter from to : ℕ) → FirstWrong (wrong_in_string delimiter) script from to (string_fault delimiter false from (bytes_between script from to))
string_fault_first script delimiter from to =
    rw (string_scan delimiter false from (bytes_between script from to)) (first_wrong (wrong_in_string delimiter) script from to _ (scanned (wrong_in_string delimiter) 0 from (bytes_between script from to) refl))

pub replacement_fault_first : (script : List ℕ) (delimiter : ℕ) (groups : Option ℕ) (from to : ℕ) →
    FirstWrong (wrong_in_replacement delimiter groups) script from to (replacement_fault delimiter groups false from (bytes_between script from to))
replacement_fault_first script delimiter groups from to =
    rw (replacement_scan delimiter groups false from (bytes_between script from to))
    (first_wrong (wrong_in_replacement delimiter groups) script from to _ (scanned (wrong_in_replacement delimiter groups) 0 from (bytes_between script from to) refl))
