-- Where a text of `a`, `i` or `c` is missing.
use Rattle.std.proofs.Common.{◌≡◌, ◌⊎◌, inl, inr, ℕ, zero, suc, ◌+◌, ◌-◌, ◌<◌, ◌==◌, ◌%◌, ◌&&◌, Bool, true, false, if◌then◌else◌, List, [], ◌∷◌, length, drop, Option, Some, None, Result, Err, option_map, slice_get, refl, sym, ap, ◌∙◌, arith, length-drop, unwrap_or}
use Rattle.std.proofs.lemmas.Bool.{eqb-true, eqb-false, and_parts}
use Rattle.std.proofs.lemmas.Option.{slice_get_within}
use Rattle.sedscript.specs.declared.types.ScriptFault.{ScriptFault}
use Rattle.sedscript.specs.declared.types.Reason.TheVariants.{MissingText}
use Rattle.sedscript.specs.declared.bytes.Sort.TheVariants.{Blank}
use Rattle.sedscript.specs.declared.items.Argument.{Argument}
use Rattle.sedscript.specs.declared.types.TextUse.{TextUse}
use Rattle.sedscript.specs.declared.letters.Verb.TheVariants.{Text}
use Rattle.sedscript.specs.declared.texts.Inside.TheVariants.{InLine, Escape, Due}
use Rattle.sedscript.specs.Bytes.{past, is_byte, fault}
use Rattle.sedscript.specs.Arguments.{text_end, text_from, spanned as found_at}
use Rattle.sedscript.specs.Letters.{argument_of}
use Rattle.examples.specs.Backslashes.{NoneUnescaped}
use Rattle.examples.specs.Texts.{EndsInBackslash, HasNoText}
use Rattle.examples.proofs.BackslashLemmas.{next, Free, free_between, between_free, get_drop, same_byte, behind, onto, not_first, escaped_first, even_again, even_plain, backslash_here}

-- ---- among bytes, where so many backslashes come before them

-- no newline ends a text, and a further line has to follow
record Lacks (n : ℕ) (bs : List ℕ) : Type 0 where
  pub none : (k : ℕ) → Free 10 n bs k → ⊥
  pub k : ℕ
  pub backslash : Free 92 n bs k
  pub last : (length bs ≡ suc k) ⊎ ((length bs ≡ suc (suc k)) × (slice_get bs (suc k) ≡ Some 10))

lacks_more : (n b : ℕ) (bs : List ℕ) → (Free 10 n (b ∷ bs) 0 → ⊥) → Lacks (next n b) bs → Lacks n (b ∷ bs)
lacks_more n b bs here h = record {
  none = each;
  k = suc h.k;
  backslash = onto 92 n b h.k bs h.backslash;
  last = by_last h.last;
}
  where
    each : (k : ℕ) → Free 10 n (b ∷ bs) k → ⊥
    each zero f = here f
    each (suc k) f = h.none k (behind 10 n b k bs f)

    by_last : (length bs ≡ suc h.k) ⊎ ((length bs ≡ suc (suc h.k)) × (slice_get bs (suc h.k) ≡ Some 10)) →
        (length (b ∷ bs) ≡ suc (suc h.k)) ⊎ ((length (b ∷ bs) ≡ suc (suc (suc h.k))) × (slice_get (b ∷ bs) (suc (suc h.k)) ≡ Some 10))
    by_last (inl e) = inl (ap suc e)
    by_last (inr e) = inr (ap suc e.0, e.1)

-- the same without the first byte, where the backslash comes after it
lacks_less : (n b : ℕ) (bs : List ℕ) (h : Lacks n (b ∷ bs)) → (h.k ≡ 0 → ⊥) → Lacks (next n b) bs
lacks_less n b bs h later = by_place h.k refl h.backslash h.last
  where
    by_place : (k : ℕ) → h.k ≡ k → Free 92 n (b ∷ bs) k → (length (b ∷ bs) ≡ suc k) ⊎ ((length (b ∷ bs) ≡ suc (suc k)) × (slice_get (b ∷ bs) (suc k) ≡ Some 10)) → Lacks (next n b) bs
    by_place zero is f e = absurd (later is)
    by_place (suc k) is f e = record {
      none = λ j g. h.none (suc j) (onto 10 n b j bs g);
      k = k;
      backslash = behind 92 n b k bs f;
      last = by_last e;
    }
      where
        by_last : (length (b ∷ bs) ≡ suc (suc k)) ⊎ ((length (b ∷ bs) ≡ suc (suc (suc k))) × (slice_get (b ∷ bs) (suc (suc k)) ≡ Some 10)) →
            (length bs ≡ suc k) ⊎ ((length bs ≡ suc (suc k)) × (slice_get bs (suc k) ≡ Some 10))
        by_last (inl e) = inl (omega (arith, e))
        by_last (inr e) = inr (omega (arith, e.0), e.1)

-- it comes after a byte that is none, or an escaped one
nested_later : (n b : ℕ) (bs : List ℕ) (h : Lacks n (b ∷ bs)) → (Free 92 n (b ∷ bs) 0 → ⊥) → h.k ≡ 0 → ⊥
nested_later n b bs h other e = other (rw (← e) h.backslash)

not_newline : (b : ℕ) → (b == 92) ≡ true → (b == 10) ≡ false
not_newline b is = let same : b ≡ 92 = eqb-true b 92 is in rw same refl

newline_here : (n b : ℕ) (bs : List ℕ) → (b == 10) ≡ true → n % 2 ≡ 0 → Free 10 n (b ∷ bs) 0
newline_here n b bs is even = record { stands = ap (λ (x : ℕ). Some x) (eqb-true b 10 is); even = even }

nowhere : (byte n k : ℕ) → Free byte n [] k → ⊥
nowhere byte n k f = let no : ◌≡◌ {A = Option ℕ} None (Some byte) = f.stands in cc

lacks_one : (n b : ℕ) → (b == 92) ≡ true → n % 2 ≡ 0 → Lacks n (b ∷ [])
lacks_one n b is even = record { none = each; k = 0; backslash = backslash_here n b [] is even; last = inl refl }
  where
    each : (k : ℕ) → Free 10 n (b ∷ []) k → ⊥
    each zero f = not_first 10 n b [] (not_newline b is) f
    each (suc k) f = nowhere 10 (next n b) k (behind 10 n b k [] f)

lacks_two : (n b c : ℕ) → (b == 92) ≡ true → (c == 10) ≡ true → n % 2 ≡ 0 → Lacks n (b ∷ c ∷ [])
lacks_two n b c is newline even = record {
  none = each;
  k = 0;
  backslash = backslash_here n b (c ∷ []) is even;
  last = inr (refl, ap (λ (x : ℕ). Some x) (eqb-true c 10 newline));
}
  where
    each : (k : ℕ) → Free 10 n (b ∷ c ∷ []) k → ⊥
    each zero f = not_first 10 n b (c ∷ []) (not_newline b is) f
    each (suc zero) f = escaped_first 10 n b c [] is even (behind 10 n b 0 (c ∷ []) f)
    each (suc (suc k)) f = nowhere 10 (next (next n b) c) k (behind 10 (next n b) c k [] (behind 10 n b (suc k) (c ∷ []) f))

-- ---- the definition says so

abbrev Says : ℕ → ℕ → List ℕ → Type 0
Says n at bs = (text_end InLine at bs ≡ None → Lacks n bs) × (Lacks n bs → text_end InLine at bs ≡ None)

ended : (n at b : ℕ) (bs : List ℕ) → (b == 10) ≡ true → n % 2 ≡ 0 → (◌≡◌ {A = Option ℕ} (Some at) None → Lacks n (b ∷ bs)) × (Lacks n (b ∷ bs) → ◌≡◌ {A = Option ℕ} (Some at) None)
ended n at b bs is even = (λ e. absurd cc, λ h. absurd (h.none 0 (newline_here n b bs is even)))

says : (n at : ℕ) (bs : List ℕ) → n % 2 ≡ 0 → Says n at bs
says n at [] even = (λ e. absurd cc, λ h. absurd (nowhere 92 n h.k h.backslash))
says n at (b ∷ []) even = by_newline (b == 10) refl (b == 92) refl
  where
    by_newline : (s : Bool) → (b == 10) ≡ s → (t : Bool) → (b == 92) ≡ t →
        ((if s then Some at else text_end (if t then Escape else InLine) (suc at) []) ≡ None → Lacks n (b ∷ [])) × (Lacks n (b ∷ []) → (if s then Some at else text_end (if t then Escape else InLine) (suc at) []) ≡ None)
    by_newline true newline t is = ended n at b [] newline even
    by_newline false newline true is = (λ e. lacks_one n b is even, λ h. refl)
    by_newline false newline false is = (λ e. absurd cc, λ h. (let less = lacks_less n b [] h (nested_later n b [] h (not_first 92 n b [] is)) in absurd (nowhere 92 (next n b) less.k less.backslash)))
says n at (b ∷ c ∷ cs) even =
    by_newline (b == 10) refl (b == 92) refl (λ even. says (next (next n b) c) (suc (suc at)) cs even) (λ even. says (next n b) (suc at) (c ∷ cs) even)
  where
    -- after an escaped byte
    escaped : (t : Bool) (ds : List ℕ) → (c == 10) ≡ t → (b == 92) ≡ true → Says (next (next n b) c) (suc (suc at)) ds →
        (text_end (if t then Due else InLine) (suc (suc at)) ds ≡ None → Lacks n (b ∷ c ∷ ds)) × (Lacks n (b ∷ c ∷ ds) → text_end (if t then Due else InLine) (suc (suc at)) ds ≡ None)
    escaped true [] newline is rest = (λ e. lacks_two n b c is newline even, λ h. refl)
    escaped false [] other is rest = (λ e. absurd cc, λ h. (let no = only h.k h.backslash h.last in absurd no))
      where
        only : (k : ℕ) → Free 92 n (b ∷ c ∷ []) k → (length (b ∷ c ∷ []) ≡ suc k) ⊎ ((length (b ∷ c ∷ []) ≡ suc (suc k)) × (slice_get (b ∷ c ∷ []) (suc k) ≡ Some 10)) → ⊥
        only zero f (inl e) = omega (arith, e)
        only zero f (inr e) = eqb-false c 10 other (same_byte c 10 e.1)
        only (suc zero) f e = escaped_first 92 n b c [] is even (behind 92 n b 0 (c ∷ []) f)
        only (suc (suc k)) f e = nowhere 92 (next (next n b) c) k (behind 92 (next n b) c k [] (behind 92 n b (suc k) (c ∷ []) f))
    escaped t (d ∷ ds) is_newline is rest = (λ e. more (rest.0 (sym (same t) ∙ e)), λ h. same t ∙ rest.1 (less h))
      where
        same : (t : Bool) → text_end (if t then Due else InLine) (suc (suc at)) (d ∷ ds) ≡ text_end InLine (suc (suc at)) (d ∷ ds)
        same true = refl
        same false = refl

        more : Lacks (next (next n b) c) (d ∷ ds) → Lacks n (b ∷ c ∷ d ∷ ds)
        more h = lacks_more n b (c ∷ d ∷ ds) (not_first 10 n b (c ∷ d ∷ ds) (not_newline b is)) (lacks_more (next n b) c (d ∷ ds) (escaped_first 10 n b c (d ∷ ds) is even) h)

        -- the backslash comes before more than one byte
        not_here : (h : Lacks n (b ∷ c ∷ d ∷ ds)) → h.k ≡ 0 → ⊥
        not_here h e = by_last h.last
          where
            by_last : (length (b ∷ c ∷ d ∷ ds) ≡ suc h.k) ⊎ ((length (b ∷ c ∷ d ∷ ds) ≡ suc (suc h.k)) × (slice_get (b ∷ c ∷ d ∷ ds) (suc h.k) ≡ Some 10)) → ⊥
            by_last (inl l) = omega (arith, e, l)
            by_last (inr l) = omega (arith, e, l.0)

        less : Lacks n (b ∷ c ∷ d ∷ ds) → Lacks (next (next n b) c) (d ∷ ds)
        less h =
            let one = lacks_less n b (c ∷ d ∷ ds) h (not_here h) in
            lacks_less (next n b) c (d ∷ ds) one (nested_later (next n b) c (d ∷ ds) one (escaped_first 92 n b c (d ∷ ds) is even))

    by_newline : (s : Bool) → (b == 10) ≡ s → (t : Bool) → (b == 92) ≡ t → (next (next n b) c % 2 ≡ 0 → Says (next (next n b) c) (suc (suc at)) cs) → (next n b % 2 ≡ 0 → Says (next n b) (suc at) (c ∷ cs)) →
        ((if s then Some at else text_end (if t then Escape else InLine) (suc at) (c ∷ cs)) ≡ None → Lacks n (b ∷ c ∷ cs)) × (Lacks n (b ∷ c ∷ cs) → (if s then Some at else text_end (if t then Escape else InLine) (suc at) (c ∷ cs)) ≡ None)
    by_newline true newline t is two one = ended n at b (c ∷ cs) newline even
    by_newline false other true is two one = escaped (c == 10) cs refl is (two (even_again n b c is even))
    by_newline false other false is two one =
        let rest = one (even_plain n b is) in
        (λ e. lacks_more n b (c ∷ cs) (not_first 10 n b (c ∷ cs) other) (rest.0 e), λ h. rest.1 (lacks_less n b (c ∷ cs) h (nested_later n b (c ∷ cs) h (not_first 92 n b (c ∷ cs) is))))

-- ---- of a script

after_it : (xs : List ℕ) (k b : ℕ) → slice_get xs k ≡ Some b → drop k xs ≡ b ∷ drop (suc k) xs
after_it [] k b e = let no : ◌≡◌ {A = Option ℕ} None (Some b) = e in absurd cc
after_it (x ∷ xs) zero b e = ap (λ (y : ℕ). y ∷ xs) (same_byte x b e)
after_it (x ∷ xs) (suc k) b e = after_it xs k b e

at_byte : (byte : ℕ) (o : Option ℕ) → is_byte byte o ≡ true → o ≡ Some byte
at_byte byte None e = absurd cc
at_byte byte (Some b) e = ap (λ (x : ℕ). Some x) (eqb-true b byte e)

-- both forms of a text are read alike from where they begin
one_form : (script : List ℕ) (from : ℕ) → slice_get script from ≡ Some 92 → slice_get script (from + 1) ≡ Some 10 → text_end InLine from (drop from script) ≡ text_end Due (from + 2) (drop (from + 2) script)
one_form script from first second =
    let n : from + 1 ≡ suc from = omega arith in
    let m : suc (suc from) ≡ from + 2 = omega arith in
    ap (text_end InLine from) (after_it script from 92 first ∙ ap (λ (xs : List ℕ). 92 ∷ xs) (after_it script (suc from) 10 (sym (ap (slice_get script) n) ∙ second)))
    ∙ ap (λ (k : ℕ). text_end Due k (drop k script)) m

abbrev Unended : List ℕ → ℕ → Type 0
Unended script from = NoneUnescaped 10 script from (length script) × EndsInBackslash script from

lacks_of : (script : List ℕ) (from : ℕ) → Unended script from → Lacks 0 (drop from script)
lacks_of script from u = record {
  none = λ k f. u.0 (from + k) (omega arith) (within (slice_get_within (drop from script) k 10 f.stands)) (between_free 10 script from (from + k) k refl f);
  k = u.1.at - from;
  backslash = free_between 92 script from u.1.at (u.1.at - from) (omega (arith, u.1.begins)) u.1.backslash;
  last = by_last u.1.last;
}
  where
    within : {k : ℕ} → k < length (drop from script) → from + k < length script
    within {k} low = omega (arith, low, length-drop from script)

    by_last : (length script ≡ u.1.at + 1) ⊎ ((length script ≡ u.1.at + 2) × (slice_get script (u.1.at + 1) ≡ Some 10)) →
        (length (drop from script) ≡ suc (u.1.at - from)) ⊎ ((length (drop from script) ≡ suc (suc (u.1.at - from))) × (slice_get (drop from script) (suc (u.1.at - from)) ≡ Some 10))
    by_last (inl e) = inl (omega (arith, e, u.1.begins, length-drop from script))
    by_last (inr e) = inr (
      omega (arith, e.0, u.1.begins, length-drop from script),
      get_drop script from (suc (u.1.at - from)) ∙ (ap (slice_get script) (let n : from + suc (u.1.at - from) ≡ u.1.at + 1 = omega (arith, u.1.begins) in n) ∙ e.1),
    )

of_lacks : (script : List ℕ) (from : ℕ) → Lacks 0 (drop from script) → Unended script from
of_lacks script from h = (
  λ at low high f. h.none (at - from) (free_between 10 script from at (at - from) (omega (arith, low)) f),
  record {
    at = from + h.k;
    begins = omega arith;
    backslash = between_free 92 script from (from + h.k) h.k refl h.backslash;
    last = by_last h.last;
  },
)
  where
    there : h.k < length (drop from script)
    there = slice_get_within (drop from script) h.k 92 h.backslash.stands

    by_last : (length (drop from script) ≡ suc h.k) ⊎ ((length (drop from script) ≡ suc (suc h.k)) × (slice_get (drop from script) (suc h.k) ≡ Some 10)) →
        (length script ≡ from + h.k + 1) ⊎ ((length script ≡ from + h.k + 2) × (slice_get script (from + h.k + 1) ≡ Some 10))
    by_last (inl e) = inl (omega (arith, e, length-drop from script))
    by_last (inr e) = inr (
      omega (arith, e.0, length-drop from script),
      ap (slice_get script) (let n : from + h.k + 1 ≡ from + suc h.k = omega arith in n) ∙ (sym (get_drop script from (suc h.k)) ∙ e.1),
    )

abbrev spanned : ℕ → ℕ → ℕ × ℕ
spanned x to = (x, to)

mapped_none : (x : ℕ) (o : Option ℕ) → option_map (spanned x) o ≡ None → o ≡ None
mapped_none x None e = refl
mapped_none x (Some to) e = let no : ◌≡◌ {A = Option (ℕ × ℕ)} (Some (x, to)) None = e in absurd cc

pub none_there : (script : List ℕ) (from : ℕ) → text_from script from ≡ None → HasNoText script from
unfolding text_from
none_there script from e = by_form (is_byte 92 (slice_get script from) && is_byte 10 (slice_get script (from + 1))) refl e
  where
    unended : text_end InLine from (drop from script) ≡ None → HasNoText script from
    unended e = inr (inr (of_lacks script from ((says 0 from (drop from script) refl).0 e)))

    by_byte : (o : Option ℕ) → slice_get script from ≡ o → (unwrap_or o 10 == 10) ≡ true → HasNoText script from
    by_byte None is e = inl is
    by_byte (Some b) is e = inr (inl (is ∙ ap (λ (x : ℕ). Some x) (eqb-true b 10 e)))

    by_line : (t : Bool) → (unwrap_or (slice_get script from) 10 == 10) ≡ t → (if t then None else option_map (spanned from) (text_end InLine from (drop from script))) ≡ None → HasNoText script from
    by_line true h e = by_byte (slice_get script from) refl h
    by_line false h e = unended (mapped_none from (text_end InLine from (drop from script)) e)

    by_form : (t : Bool) → (is_byte 92 (slice_get script from) && is_byte 10 (slice_get script (from + 1))) ≡ t →
        (if t then option_map (spanned (from + 2)) (text_end Due (from + 2) (drop (from + 2) script))
        else if unwrap_or (slice_get script from) 10 == 10 then None
        else option_map (spanned from) (text_end InLine from (drop from script))) ≡ None → HasNoText script from
    by_form true h e =
        let two = and_parts (is_byte 92 (slice_get script from)) (is_byte 10 (slice_get script (from + 1))) h in
        unended (one_form script from (at_byte 92 (slice_get script from) two.0) (at_byte 10 (slice_get script (from + 1)) two.1) ∙ mapped_none (from + 2) (text_end Due (from + 2) (drop (from + 2) script)) e)
    by_form false h e = by_line (unwrap_or (slice_get script from) 10 == 10) refl e

nothing_there : (script : List ℕ) (from : ℕ) → HasNoText script from → text_from script from ≡ None
unfolding text_from
nothing_there script from (inl e) = rw e refl
nothing_there script from (inr (inl e)) = rw e refl
nothing_there script from (inr (inr u)) = by_form (is_byte 92 (slice_get script from) && is_byte 10 (slice_get script (from + 1))) refl
  where
    lacks : text_end InLine from (drop from script) ≡ None
    lacks = (says 0 from (drop from script) refl).1 (lacks_of script from u)

    by_line : (t : Bool) → (if t then None else option_map (spanned from) (text_end InLine from (drop from script))) ≡ None
    by_line true = refl
    by_line false = ap (option_map (spanned from)) lacks

    by_form : (t : Bool) → (is_byte 92 (slice_get script from) && is_byte 10 (slice_get script (from + 1))) ≡ t →
        (if t then option_map (spanned (from + 2)) (text_end Due (from + 2) (drop (from + 2) script))
        else if unwrap_or (slice_get script from) 10 == 10 then None
        else option_map (spanned from) (text_end InLine from (drop from script))) ≡ None
    by_form true h =
        let two = and_parts (is_byte 92 (slice_get script from)) (is_byte 10 (slice_get script (from + 1))) h in
        ap (option_map (spanned (from + 2))) (sym (one_form script from (at_byte 92 (slice_get script from) two.0) (at_byte 10 (slice_get script (from + 1)) two.1)) ∙ lacks)
    by_form false h = by_line (unwrap_or (slice_get script from) 10 == 10)

abbrev Found : Type 0
Found = Result (Argument × ℕ) ScriptFault

pub text_missing : (script : List ℕ) (at : ℕ) (t : TextUse) →
    ((f : ScriptFault) → argument_of script (Text t) at ≡ Err f → (f.place ≡ at) × (f.reason ≡ MissingText) × HasNoText script (past Blank script (at + 1)))
    × (HasNoText script (past Blank script (at + 1)) → argument_of script (Text t) at ≡ fault MissingText at)
text_missing script at t = (refused, λ h. ap (found_at MissingText at) (nothing_there script (past Blank script (at + 1)) h))
  where
    by_span : (f : ScriptFault) (o : Option (ℕ × ℕ)) → text_from script (past Blank script (at + 1)) ≡ o → found_at MissingText at o ≡ Err f → (f.place ≡ at) × (f.reason ≡ MissingText) × HasNoText script (past Blank script (at + 1))
    by_span f None is e =
        let same : ◌≡◌ {A = ScriptFault} (record { place = at; reason = MissingText }) f = cc in
        (sym (ap (λ (x : ScriptFault). x.place) same), sym (ap (λ (x : ScriptFault). x.reason) same), none_there script (past Blank script (at + 1)) is)
    by_span f (Some span) is e = absurd cc

    refused : (f : ScriptFault) → argument_of script (Text t) at ≡ Err f → (f.place ≡ at) × (f.reason ≡ MissingText) × HasNoText script (past Blank script (at + 1))
    refused f e = by_span f (text_from script (past Blank script (at + 1))) refl e
