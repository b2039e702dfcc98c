-- Which flags are read.
use Rattle.std.proofs.Common.{◌≡◌, ℕ, zero, suc, ◌+◌, ◌-◌, ◌*◌, ◌≤◌, ◌==◌, ◌||◌, ◌&&◌, ◌⊎◌, inl, inr, Bool, true, false, if◌then◌else◌, List, [], ◌∷◌, ◌++◌, take, drop, Option, Some, None, Result, Ok, Err, refl, sym, ap, subst, ◌∙◌, take-take, drop-drop, arith}
use Rattle.std.specs.Prelude.{◌^◌, is_some, nat_le, nat_lt, slice_get}
use Rattle.std.specs.List.{list_all, list_any, prefix_len, take_while}
use Rattle.std.proofs.lemmas.Bool.{ne_eqb, eqb-true, leb-true}
use Rattle.std.proofs.lemmas.List.{take-append-drop}
use Rattle.sedscript.specs.declared.types.ScriptFault.{ScriptFault}
use Rattle.sedscript.specs.declared.types.Reason.TheVariants.{UnknownFlag, RepeatedFlag, BadNumber, MissingName, FlagOnEmpty}
use Rattle.sedscript.specs.declared.items.Flags.{Flags}
use Rattle.sedscript.specs.Bytes.{is_digit, bytes_between, with_digits, fault, ◌>>=◌}
use Rattle.sedscript.specs.Arguments.{name_from, no_flags, with_flag_number, with_number, with_flag, flags_from, ends_flags, with_file}
use Rattle.sedscript.specs.Strings.{is_among}
use Rattle.examples.specs.Numbers.{decimal_from, WritesNumber, NumberAmong}

-- the flags after some bytes, by those before
pub record ReadsFlags (f g : Flags) (bs : List ℕ) : Type 0 where
  pub global : g.global ≡ (f.global || is_among bs 103)
  pub print : g.print ≡ (f.print || is_among bs 112)
  pub folded : g.folded ≡ (f.folded || is_among bs 73)
  pub file : g.file ≡ f.file
  pub none_named : is_among bs 119 ≡ false

or_false : (x : Bool) → x ≡ (x || false)
or_false true = refl
or_false false = refl

or_three : (x y z h g : Bool) → h ≡ (x || (y || false)) → g ≡ (h || z) → g ≡ (x || (y || z))
or_three true y z h g e f = f ∙ ap (λ (b : Bool). b || z) e
or_three false true z h g e f = f ∙ ap (λ (b : Bool). b || z) e
or_three false false z h g e f = f ∙ ap (λ (b : Bool). b || z) e

or_none : (y z : Bool) → (y || false) ≡ false → z ≡ false → (y || z) ≡ false
or_none true z e f = e
or_none false z e f = f

shown_none : (f : Flags) → ReadsFlags f f []
shown_none f = record { global = or_false f.global; print = or_false f.print; folded = or_false f.folded; file = refl; none_named = refl }

shown_then : (f h g : Flags) (b : ℕ) (bs : List ℕ) → ReadsFlags f h (b ∷ []) → ReadsFlags h g bs → ReadsFlags f g (b ∷ bs)
shown_then f h g b bs t u = record {
  global = or_three f.global (b == 103) (is_among bs 103) h.global g.global t.global u.global;
  print = or_three f.print (b == 112) (is_among bs 112) h.print g.print t.print u.print;
  folded = or_three f.folded (b == 73) (is_among bs 73) h.folded g.folded t.folded u.folded;
  file = u.file ∙ t.file;
  none_named = or_none (b == 119) (is_among bs 119) t.none_named u.none_named;
}

same_ok : {A : Type 0} (a b : A) → ◌≡◌ {A = Result A ScriptFault} (Ok a) (Ok b) → a ≡ b
same_ok a b e = cc

no_ok : {A : Type 0} (x : ScriptFault) (b : A) (P : Type 0) → ◌≡◌ {A = Result A ScriptFault} (Err x) (Ok b) → P
no_ok x b P e = absurd (cc)

-- ---- a number

digit_low : (b : ℕ) → is_digit b ≡ true → b ≤ 57
digit_low b h = by_tests (nat_le 48 b) h
  where
    by_tests : (s : Bool) → (s && nat_le b 57) ≡ true → b ≤ 57
    by_tests true h = leb-true b 57 h
    by_tests false h = absurd (cc)

shown_digit : (f h : Flags) (b : ℕ) → b ≤ 57 → h.global ≡ f.global → h.print ≡ f.print → h.folded ≡ f.folded → h.file ≡ f.file → ReadsFlags f h (b ∷ [])
shown_digit f h b low e p i n = record {
  global = rw (ne_eqb b 103 (λ x. omega (arith, x, low))) (e ∙ or_false f.global);
  print = rw (ne_eqb b 112 (λ x. omega (arith, x, low))) (p ∙ or_false f.print);
  folded = rw (ne_eqb b 73 (λ x. omega (arith, x, low))) (i ∙ or_false f.folded);
  file = n;
  none_named = rw (ne_eqb b 119 (λ x. omega (arith, x, low))) refl;
}

-- the flags with a number, where there was none
record Numbered (f h : Flags) (b : ℕ) (digits : List ℕ) : Type 0 where
  n : ℕ
  none : f.number ≡ None
  read : with_digits (Some 0) digits ≡ Some n
  is : h.number ≡ Some n
  shown : ReadsFlags f h (b ∷ [])

none_is : (o : Option ℕ) → is_some o ≡ false → o ≡ None
none_is None e = refl
none_is (Some n) e = absurd (cc)

shown_number : (f h : Flags) (at b : ℕ) (digits : List ℕ) → b ≤ 57 → with_number f at digits ≡ Ok h → Numbered f h b digits
shown_number f h at b digits low e = by_first (is_some f.number) refl e
  where
    by_number : (o : Option ℕ) → with_digits (Some 0) digits ≡ o → f.number ≡ None → with_flag_number f at o ≡ Ok h → Numbered f h b digits
    by_number None d none e = no_ok (record { place = at; reason = BadNumber }) h (Numbered f h b digits) e
    by_number (Some zero) d none e = no_ok (record { place = at; reason = BadNumber }) h (Numbered f h b digits) e
    by_number (Some (suc n)) d none e =
        let same : ◌≡◌ {A = Flags} (record f { number = Some (suc n) }) h = same_ok {A = Flags} (record f { number = Some (suc n) }) h e in
        record {
          n = suc n;
          none = none;
          read = d;
          is = ap (λ (x : Flags). x.number) (sym same);
          shown = shown_digit f h b low (ap (λ (x : Flags). x.global) (sym same)) (ap (λ (x : Flags). x.print) (sym same)) (ap (λ (x : Flags). x.folded) (sym same)) (ap (λ (x : Flags). x.file) (sym same));
        }

    by_first : (t : Bool) → is_some f.number ≡ t → (if t then fault RepeatedFlag at else with_flag_number f at (with_digits (Some 0) digits)) ≡ Ok h → Numbered f h b digits
    by_first true is e = no_ok (record { place = at; reason = RepeatedFlag }) h (Numbered f h b digits) e
    by_first false is e = by_number (with_digits (Some 0) digits) refl (none_is f.number is) e

-- ---- a letter

-- the flags after a letter
record Lettered (f h : Flags) (b : ℕ) : Type 0 where
  number : h.number ≡ f.number
  shown : ReadsFlags f h (b ∷ [])

shown_global : (f h : Flags) (at : ℕ) → (if f.global then fault RepeatedFlag at else Ok (record f { global = true })) ≡ Ok h → Lettered f h 103
shown_global f h at e = by_flag f.global refl e
  where
    by_flag : (t : Bool) → f.global ≡ t → (if t then fault RepeatedFlag at else Ok (record f { global = true })) ≡ Ok h → Lettered f h 103
    by_flag true is e = no_ok (record { place = at; reason = RepeatedFlag }) h (Lettered f h 103) e
    by_flag false is e =
        let same : ◌≡◌ {A = Flags} (record f { global = true }) h = same_ok {A = Flags} (record f { global = true }) h e in
        record {
          number = ap (λ (x : Flags). x.number) (sym same);
          shown = record {
            global = rw is (ap (λ (x : Flags). x.global) (sym same));
            print = ap (λ (x : Flags). x.print) (sym same) ∙ or_false f.print;
            folded = ap (λ (x : Flags). x.folded) (sym same) ∙ or_false f.folded;
            file = ap (λ (x : Flags). x.file) (sym same);
            none_named = refl;
          };
        }

shown_print : (f h : Flags) (at : ℕ) → (if f.print then fault RepeatedFlag at else Ok (record f { print = true })) ≡ Ok h → Lettered f h 112
shown_print f h at e = by_flag f.print refl e
  where
    by_flag : (t : Bool) → f.print ≡ t → (if t then fault RepeatedFlag at else Ok (record f { print = true })) ≡ Ok h → Lettered f h 112
    by_flag true is e = no_ok (record { place = at; reason = RepeatedFlag }) h (Lettered f h 112) e
    by_flag false is e =
        let same : ◌≡◌ {A = Flags} (record f { print = true }) h = same_ok {A = Flags} (record f { print = true }) h e in
        record {
          number = ap (λ (x : Flags). x.number) (sym same);
          shown = record {
            global = ap (λ (x : Flags). x.global) (sym same) ∙ or_false f.global;
            print = rw is (ap (λ (x : Flags). x.print) (sym same));
            folded = ap (λ (x : Flags). x.folded) (sym same) ∙ or_false f.folded;
            file = ap (λ (x : Flags). x.file) (sym same);
            none_named = refl;
          };
        }

shown_folded : (empty : Bool) (f h : Flags) (at : ℕ) → (if empty then fault FlagOnEmpty at else if f.folded then fault RepeatedFlag at else Ok (record f { folded = true })) ≡ Ok h → Lettered f h 73
shown_folded true f h at e = no_ok (record { place = at; reason = FlagOnEmpty }) h (Lettered f h 73) e
shown_folded false f h at e = by_flag f.folded refl e
  where
    by_flag : (t : Bool) → f.folded ≡ t → (if t then fault RepeatedFlag at else Ok (record f { folded = true })) ≡ Ok h → Lettered f h 73
    by_flag true is e = no_ok (record { place = at; reason = RepeatedFlag }) h (Lettered f h 73) e
    by_flag false is e =
        let same : ◌≡◌ {A = Flags} (record f { folded = true }) h = same_ok {A = Flags} (record f { folded = true }) h e in
        record {
          number = ap (λ (x : Flags). x.number) (sym same);
          shown = record {
            global = ap (λ (x : Flags). x.global) (sym same) ∙ or_false f.global;
            print = ap (λ (x : Flags). x.print) (sym same) ∙ or_false f.print;
            folded = rw is (ap (λ (x : Flags). x.folded) (sym same));
            file = ap (λ (x : Flags). x.file) (sym same);
            none_named = refl;
          };
        }

shown_letter : (empty : Bool) (f h : Flags) (at b : ℕ) → with_flag empty f at b ≡ Ok h → Lettered f h b
shown_letter empty f h at b e = by_tests (b == 103) (b == 112) (b == 73) refl refl refl e
  where
    by_tests : (r s t : Bool) → (b == 103) ≡ r → (b == 112) ≡ s → (b == 73) ≡ t →
        (if r then (if f.global then fault RepeatedFlag at else Ok (record f { global = true }))
        else if s then (if f.print then fault RepeatedFlag at else Ok (record f { print = true }))
        else if t then (if empty then fault FlagOnEmpty at else if f.folded then fault RepeatedFlag at else Ok (record f { folded = true }))
        else fault UnknownFlag at) ≡ Ok h → Lettered f h b
    by_tests true s t x y z e = rw (eqb-true b 103 x) (shown_global f h at e)
    by_tests false true t x y z e = rw (eqb-true b 112 y) (shown_print f h at e)
    by_tests false false true x y z e = rw (eqb-true b 73 z) (shown_folded empty f h at e)
    by_tests false false false x y z e = no_ok (record { place = at; reason = UnknownFlag }) h (Lettered f h b) e

-- ---- the digits of a number

-- how many digits are at the front of some bytes
abbrev run : List ℕ → ℕ
run bs = prefix_len is_digit bs

-- so many bytes at the front are digits
abbrev Digits : ℕ → List ℕ → Type 0
Digits zero bs = Unit {0}
Digits (suc n) [] = ⊥
Digits (suc n) (b ∷ bs) = (b ≤ 57) × Digits n bs

run_digits : (bs : List ℕ) → Digits (prefix_len is_digit bs) bs
run_digits [] = tt
run_digits (b ∷ bs) = by_test (is_digit b) refl (prefix_len is_digit bs) (run_digits bs)
  where
    by_test : (t : Bool) → is_digit b ≡ t → (n : ℕ) → Digits n bs → Digits (if t then 1 + n else 0) (b ∷ bs)
    by_test true e n h =
        let one : suc n ≡ 1 + n = omega arith in
        subst (λ (m : ℕ). Digits m (b ∷ bs)) one (digit_low b e, h)
    by_test false e n h = tt

-- they are all digits
run_all : (bs : List ℕ) → list_all is_digit (take_while is_digit bs) ≡ true
run_all [] = refl
run_all (b ∷ bs) = by_test (is_digit b) refl (prefix_len is_digit bs) (run_all bs)
  where
    by_test : (t : Bool) → is_digit b ≡ t → (n : ℕ) → list_all is_digit (take n bs) ≡ true → list_all is_digit (take (if t then 1 + n else 0) (b ∷ bs)) ≡ true
    by_test true e n h =
        let one : suc n ≡ 1 + n = omega arith in
        subst (λ (m : ℕ). list_all is_digit (take m (b ∷ bs)) ≡ true) one (rw e h)
    by_test false e n h = refl

no_digits_read : (ds : List ℕ) (n : ℕ) → ◌≡◌ {A = Option ℕ} (with_digits None ds) (Some n) → ⊥
no_digits_read [] n e = absurd (cc)
no_digits_read (d ∷ ds) n e = no_digits_read ds n e

-- what is read from digits is the number that they write
read_value : (ds : List ℕ) (m n : ℕ) → with_digits (Some m) ds ≡ Some n → decimal_from m ds ≡ n
read_value [] m n e = cc
read_value (d ∷ ds) m n e = by_test (nat_lt (m * 10 + (d - 48)) (2 ^ 64)) e (read_value ds (m * 10 + (d - 48)) n)
  where
    by_test : (t : Bool) → with_digits (if t then Some (m * 10 + (d - 48)) else None) ds ≡ Some n →
        (with_digits (Some (m * 10 + (d - 48))) ds ≡ Some n → decimal_from (m * 10 + (d - 48)) ds ≡ n) → decimal_from (m * 10 + (d - 48)) ds ≡ n
    by_test true e on = on e
    by_test false e on = absurd (no_digits_read ds n e)

-- ---- all flags

-- The number after some bytes, by the one before. Where there was one, so many bytes are the rest of its digits.
abbrev NumberAfter : Option ℕ → (skip : ℕ) → Option ℕ → List ℕ → Type 0
NumberAfter None skip new bs = NumberAmong bs new
NumberAfter (Some n) skip new bs = (new ≡ Some n) × (list_any is_digit (drop skip bs) ≡ false)

-- digits after a number are passed over
abbrev Skips : Option ℕ → ℕ → Type 0
Skips (Some n) skip = Unit {0}
Skips None zero = Unit {0}
Skips None (suc skip) = ⊥

skips_none : (old : Option ℕ) → Skips old 0
skips_none None = tt
skips_none (Some n) = tt

number_none : (old : Option ℕ) → NumberAfter old 0 old []
number_none None = refl
number_none (Some n) = (refl, refl)

number_skips : (old new : Option ℕ) (skip b : ℕ) (bs : List ℕ) → Skips old (suc skip) → NumberAfter old skip new bs → NumberAfter old (suc skip) new (b ∷ bs)
number_skips None new skip b bs s h = absurd s
number_skips (Some n) new skip b bs s h = h

number_letter : (old new : Option ℕ) (b : ℕ) (bs : List ℕ) → is_digit b ≡ false → NumberAfter old 0 new bs → NumberAfter old 0 new (b ∷ bs)
number_letter None None b bs e h = rw e h
number_letter None (Some n) b bs e h = record {
  before = b ∷ h.before;
  digits = h.digits;
  after = h.after;
  are = ap (λ (x : List ℕ). b ∷ x) h.are;
  nothing_before = rw e h.nothing_before;
  some = h.some;
  each = h.each;
  none_after = h.none_after;
  value = h.value;
}
number_letter (Some n) new b bs e h = (h.0, rw e h.1)

number_first : (n b : ℕ) (new : Option ℕ) (bs : List ℕ) (k : ℕ) → is_digit b ≡ true → with_digits (Some 0) (b ∷ take_while is_digit bs) ≡ Some n → run bs ≤ k →
    NumberAfter (Some n) (run bs) new (take k bs) → NumberAmong (b ∷ take k bs) new
number_first n b new bs k digit read least h =
    let these : take (run bs) (take k bs) ≡ take_while is_digit bs = take-take (run bs) k bs least in
    let split : take k bs ≡ take_while is_digit bs ++ drop (run bs) (take k bs) =
    sym (take-append-drop (run bs) (take k bs)) ∙ ap (λ (x : List ℕ). x ++ drop (run bs) (take k bs)) these in
    let number : WritesNumber (b ∷ take k bs) n = record {
      before = [];
      digits = b ∷ take_while is_digit bs;
      after = drop (run bs) (take k bs);
      are = ap (λ (x : List ℕ). b ∷ x) split;
      nothing_before = refl;
      some = omega arith;
      each = rw digit (run_all bs);
      none_after = h.1;
      value = read_value (b ∷ take_while is_digit bs) 0 n read;
    } in
    subst (λ (o : Option ℕ). NumberAmong (b ∷ take k bs) o) (sym h.0) number

-- the flags end at a place, or a file's name follows there
abbrev Ending : List ℕ → Flags → Flags → ℕ → ℕ → List ℕ → Type 0
Ending text h g at to rest =
    ((h ≡ g) × (to ≡ at))
    ⊎ ((name : ℕ × ℕ) × (◌≡◌ {A = Flags} (record h { file = Some name }) g) × (to ≡ name.1) × (name_from text (at + 1) ≡ Some name)
    × ((more : List ℕ) × (rest ≡ 119 ∷ more)))

-- so many bytes were read as flags, and then came an end
pub record Read (text : List ℕ) (f g : Flags) (skip at to : ℕ) (bs : List ℕ) : Type 0 where
  pub k : ℕ
  pub least : skip ≤ k
  pub before : Flags
  pub shown : ReadsFlags f before (take k bs)
  pub number : NumberAfter f.number skip before.number (take k bs)
  pub ending : Ending text before g (at + k) to (drop k bs)

read_none : (text : List ℕ) (f g : Flags) (at to : ℕ) (bs : List ℕ) → ◌≡◌ {A = Result (Flags × ℕ) ScriptFault} (Ok (f, at)) (Ok (g, to)) → Read text f g 0 at to bs
read_none text f g at to bs e =
    let same = same_ok {A = Flags × ℕ} (f, at) (g, to) e in
    let flags : f ≡ g = ap (λ (p : Flags × ℕ). p.0) same in
    let place : at ≡ to = ap (λ (p : Flags × ℕ). p.1) same in
    record { k = 0; least = omega arith; before = f; shown = shown_none f; number = number_none f.number; ending = inl (flags, omega (arith, place)) }

read_file : (text : List ℕ) (f g : Flags) (at to b : ℕ) (bs : List ℕ) (o : Option (ℕ × ℕ)) → (b == 119) ≡ true → name_from text (at + 1) ≡ o → with_file f at o ≡ Ok (g, to) →
    Read text f g 0 at to (b ∷ bs)
read_file text f g at to b bs None is found e = no_ok {A = Flags × ℕ} (record { place = at; reason = MissingName }) (g, to) (Read text f g 0 at to (b ∷ bs)) e
read_file text f g at to b bs (Some name) is found e =
    let same = same_ok {A = Flags × ℕ} (record f { file = Some name }, name.1) (g, to) e in
    let place : at + 0 + 1 ≡ at + 1 = omega arith in
    record {
      k = 0;
      least = omega arith;
      before = f;
      shown = shown_none f;
      number = number_none f.number;
      ending = inr (
        name,
        ap (λ (p : Flags × ℕ). p.0) same,
        ap (λ (p : Flags × ℕ). p.1) (sym same),
        ap (λ (x : ℕ). name_from text x) place ∙ found,
        (bs, ap (λ (x : ℕ). x ∷ bs) (eqb-true b 119 is)),
      );
    }

on : (text : List ℕ) (h g : Flags) (at to k : ℕ) (rest : List ℕ) → Ending text h g (suc at + k) to rest → Ending text h g (at + suc k) to rest
on text h g at to k rest e = (let place : suc at + k ≡ at + suc k = omega arith in subst (λ (x : ℕ). Ending text h g x to rest) place e)

read_skip : (text : List ℕ) (f g : Flags) (skip at to b : ℕ) (bs : List ℕ) → b ≤ 57 → Skips f.number (suc skip) → Read text f g skip (suc at) to bs → Read text f g (suc skip) at to (b ∷ bs)
read_skip text f g skip at to b bs low s r = record {
  k = suc r.k;
  least = (let e = r.least in omega (arith, e));
  before = r.before;
  shown = shown_then f f r.before b (take r.k bs) (shown_digit f f b low refl refl refl refl) r.shown;
  number = number_skips f.number r.before.number skip b (take r.k bs) s r.number;
  ending = on text r.before g at to r.k (drop r.k bs) r.ending;
}

read_letter : (text : List ℕ) (f h g : Flags) (at to b : ℕ) (bs : List ℕ) → is_digit b ≡ false → Lettered f h b → Read text h g 0 (suc at) to bs → Read text f g 0 at to (b ∷ bs)
read_letter text f h g at to b bs other l r = record {
  k = suc r.k;
  least = omega arith;
  before = r.before;
  shown = shown_then f h r.before b (take r.k bs) l.shown r.shown;
  number = number_letter f.number r.before.number b (take r.k bs) other (subst (λ (o : Option ℕ). NumberAfter o 0 r.before.number (take r.k bs)) l.number r.number);
  ending = on text r.before g at to r.k (drop r.k bs) r.ending;
}

read_number : (text : List ℕ) (f h g : Flags) (at to b : ℕ) (bs : List ℕ) → is_digit b ≡ true → Numbered f h b (b ∷ take_while is_digit bs) → Read text h g (run bs) (suc at) to bs →
    Read text f g 0 at to (b ∷ bs)
read_number text f h g at to b bs digit d r = record {
  k = suc r.k;
  least = omega arith;
  before = r.before;
  shown = shown_then f h r.before b (take r.k bs) d.shown r.shown;
  number =
      subst (λ (o : Option ℕ). NumberAfter o 0 r.before.number (b ∷ take r.k bs)) (sym d.none)
      (number_first d.n b r.before.number bs r.k digit d.read r.least
      (subst (λ (o : Option ℕ). NumberAfter o (run bs) r.before.number (take r.k bs)) d.is r.number));
  ending = on text r.before g at to r.k (drop r.k bs) r.ending;
}

then_ : (r : Result Flags ScriptFault) (next : Flags → Result (Flags × ℕ) ScriptFault) (g : Flags) (to : ℕ) (P : Type 0) →
    (r >>= next) ≡ Ok (g, to) → ((h : Flags) → r ≡ Ok h → next h ≡ Ok (g, to) → P) → P
then_ (Ok h) next g to P e on = on h refl e
then_ (Err x) next g to P e on = no_ok {A = Flags × ℕ} x (g, to) P e

by_kind : (r s t : Bool) (number letter : Result Flags ScriptFault) (o : Option (ℕ × ℕ)) (digits letters : Flags → Result (Flags × ℕ) ScriptFault)
    (text : List ℕ) (f g : Flags) (at to b : ℕ) (bs : List ℕ) →
    (if r then number >>= digits else if s then Ok (f, at) else if t then with_file f at o else letter >>= letters) ≡ Ok (g, to) → is_digit b ≡ r → (b == 119) ≡ t → name_from text (at + 1) ≡ o →
    (is_digit b ≡ true → (h : Flags) → number ≡ Ok h → digits h ≡ Ok (g, to) → Read text f g 0 at to (b ∷ bs)) →
    (is_digit b ≡ false → (h : Flags) → letter ≡ Ok h → letters h ≡ Ok (g, to) → Read text f g 0 at to (b ∷ bs)) → Read text f g 0 at to (b ∷ bs)
by_kind true s t number letter o digits letters text f g at to b bs e digit name found one others = then_ number digits g to (Read text f g 0 at to (b ∷ bs)) e (one digit)
by_kind false true t number letter o digits letters text f g at to b bs e digit name found one others = read_none text f g at to (b ∷ bs) e
by_kind false false true number letter o digits letters text f g at to b bs e digit name found one others = read_file text f g at to b bs o name found e
by_kind false false false number letter o digits letters text f g at to b bs e digit name found one others = then_ letter letters g to (Read text f g 0 at to (b ∷ bs)) e (others digit)

flags_read : (text : List ℕ) (empty : Bool) (f g : Flags) (skip at to : ℕ) (bs : List ℕ) → Digits skip bs → Skips f.number skip → flags_from text empty f skip at bs ≡ Ok (g, to) →
    Read text f g skip at to bs
flags_read text empty f g zero at to [] d s e = read_none text f g at to [] e
flags_read text empty f g (suc skip) at to [] d s e = absurd d
flags_read text empty f g (suc skip) at to (b ∷ bs) d s e =
    read_skip text f g skip at to b bs d.0 s (flags_read text empty f g skip (suc at) to bs d.1 (fewer f.number s) e)
  where
    fewer : (old : Option ℕ) → Skips old (suc skip) → Skips old skip
    fewer None s = absurd s
    fewer (Some n) s = tt
flags_read text empty f g zero at to (b ∷ bs) d s e =
    by_kind (is_digit b) (ends_flags b) (b == 119) (with_number f at (b ∷ take_while is_digit bs)) (with_flag empty f at b) (name_from text (at + 1))
    (λ h. flags_from text empty h (prefix_len is_digit bs) (suc at) bs) (λ h. flags_from text empty h zero (suc at) bs) text f g at to b bs e refl refl refl
    (λ digit h is x.
    let d : Numbered f h b (b ∷ take_while is_digit bs) = shown_number f h at b (b ∷ take_while is_digit bs) (digit_low b digit) is in
    read_number text f h g at to b bs digit d
    (flags_read text empty h g (prefix_len is_digit bs) (suc at) to bs (run_digits bs) (subst (λ (o : Option ℕ). Skips o (run bs)) (sym d.is) tt) x))
    (λ other h is x.
    read_letter text f h g at to b bs other (shown_letter empty f h at b is) (flags_read text empty h g zero (suc at) to bs tt (skips_none h.number) x))

-- what the flags say of bytes
abbrev Says : Flags → List ℕ → Type 0
Says flags bytes =
    (flags.global ≡ is_among bytes 103) × (flags.print ≡ is_among bytes 112) × (flags.folded ≡ is_among bytes 73)

all_read : (script : List ℕ) (empty : Bool) (flags : Flags) (from to : ℕ) → flags_from script empty no_flags 0 from (drop from script) ≡ Ok (flags, to) →
    Read script no_flags flags 0 from to (drop from script)
all_read script empty flags from to e = flags_read script empty no_flags flags 0 from to (drop from script) tt tt e

no_name : (name : ℕ × ℕ) (P : Type 0) → ◌≡◌ {A = Option (ℕ × ℕ)} (Some name) None → P
no_name name P e = absurd (cc)

-- ---- without a file

record Without (script : List ℕ) (flags : Flags) (from to : ℕ) : Type 0 where
  says : Says flags (bytes_between script from to)
  number : NumberAmong (bytes_between script from to) flags.number

without : (script : List ℕ) (flags : Flags) (from to : ℕ) → Read script no_flags flags 0 from to (drop from script) → flags.file ≡ None → Without script flags from to
without script flags from to r none = elim r.ending [
  | inl e ↦
      let k : r.k ≡ to - from = (let place = e.1 in omega (arith, place)) in
      let t = r.shown in
      subst (λ (g : Flags). Without script g from to) e.0
      (subst (λ (n : ℕ). Says r.before (take n (drop from script)) × NumberAmong (take n (drop from script)) r.before.number → Without script r.before from to) (sym k)
      (λ (h : Says r.before (bytes_between script from to) × NumberAmong (bytes_between script from to) r.before.number). record { says = h.0; number = h.1 })
      ((t.global, t.print, t.folded), r.number))
  | inr e ↦ no_name e.0 (Without script flags from to) (ap (λ (x : Flags). x.file) e.1 ∙ none)
]

pub flags_shown : (script : List ℕ) (empty : Bool) (flags : Flags) (from to : ℕ) → flags_from script empty no_flags 0 from (drop from script) ≡ Ok (flags, to) → flags.file ≡ None →
    (flags.global ≡ is_among (bytes_between script from to) 103) × (flags.print ≡ is_among (bytes_between script from to) 112) × (flags.folded ≡ is_among (bytes_between script from to) 73)
flags_shown script empty flags from to e none = (without script flags from to (all_read script empty flags from to e) none).says

pub number_shown : (script : List ℕ) (empty : Bool) (flags : Flags) (from to : ℕ) → flags_from script empty no_flags 0 from (drop from script) ≡ Ok (flags, to) → flags.file ≡ None →
    NumberAmong (bytes_between script from to) flags.number
number_shown script empty flags from to e none = (without script flags from to (all_read script empty flags from to e) none).number

-- ---- with a file

at_front : (bytes more : List ℕ) (i b : ℕ) → drop i bytes ≡ b ∷ more → slice_get bytes i ≡ Some b
at_front [] more zero b e = absurd (cc)
at_front [] more (suc i) b e = absurd (cc)
at_front (c ∷ bytes) more zero b e = (let same : c ≡ b = cc in ap (λ (x : ℕ). Some x) same)
at_front (c ∷ bytes) more (suc i) b e = at_front bytes more i b e

pub before_file : (script : List ℕ) (empty : Bool) (flags : Flags) (from to : ℕ) (name : ℕ × ℕ) → flags_from script empty no_flags 0 from (drop from script) ≡ Ok (flags, to) → flags.file ≡ Some name →
    (w : ℕ) × (from ≤ w) × (slice_get script w ≡ Some 119) × (is_among (bytes_between script from w) 119 ≡ false) × (name_from script (w + 1) ≡ Some name) × (to ≡ name.1)
    × (flags.global ≡ is_among (bytes_between script from w) 103) × (flags.print ≡ is_among (bytes_between script from w) 112) × (flags.folded ≡ is_among (bytes_between script from w) 73)
    × NumberAmong (bytes_between script from w) flags.number
before_file script empty flags from to name e some =
    let r = all_read script empty flags from to e in
    let t = r.shown in
    elim r.ending [
      | inl h ↦ absurd (
          let file : flags.file ≡ None = ap (λ (x : Flags). x.file) (sym h.0) ∙ t.file in
          let both : ◌≡◌ {A = Option (ℕ × ℕ)} (Some name) None = sym some ∙ file in
          no_name name ⊥ both)
      | inr h ↦
          let k : from + r.k - from ≡ r.k = omega arith in
          let same : ◌≡◌ {A = Option (ℕ × ℕ)} (Some h.0) (Some name) = ap (λ (x : Flags). x.file) h.1 ∙ some in
          let named : h.0 ≡ name = cc in
          let there : drop (from + r.k) script ≡ 119 ∷ h.4.0 = sym (drop-drop r.k from script) ∙ h.4.1 in (
            from + r.k,
            omega arith,
            at_front script h.4.0 (from + r.k) 119 there,
            rw k t.none_named,
            h.3 ∙ same,
            h.2 ∙ ap (λ (x : ℕ × ℕ). x.1) named,
            rw k (ap (λ (x : Flags). x.global) (sym h.1) ∙ t.global),
            rw k (ap (λ (x : Flags). x.print) (sym h.1) ∙ t.print),
            rw k (ap (λ (x : Flags). x.folded) (sym h.1) ∙ t.folded),
            rw k (subst (λ (o : Option ℕ). NumberAmong (take r.k (drop from script)) o) (ap (λ (x : Flags). x.number) h.1) r.number),
          )
    ]
