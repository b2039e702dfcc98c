-- How the flags of `s` are read, a number or a file's name at once.
use Rattle.std.proofs.Common.{◌≡◌, ◌≢◌, ◌⊎◌, inl, inr, ℕ, zero, suc, ◌+◌, ◌-◌, ◌<◌, ◌≤◌, List, [], ◌∷◌, length, take, drop, get_or, Result, Ok, Err, Bool, true, false, Some, None, ◌==◌, not, refl, sym, ap, subst, ◌∙◌, arith, if◌then◌else◌, drop-cons, drop-drop}
use Rattle.std.specs.List.{prefix_len}
use Rattle.std.proofs.lemmas.Bool.Decides.{eqb_tells}
use Rattle.std.proofs.lemmas.List.Sums.{prefix_len-le-length}
use Rattle.sedscript.specs.declared.bytes.Sort.TheVariants.{Blank, Digit, Line}
use Rattle.sedscript.specs.declared.types.ScriptFault.{ScriptFault}
use Rattle.sedscript.specs.declared.items.Flags.{Flags}
use Rattle.sedscript.specs.Bytes.{is_digit, belongs, past, bytes_between, ◌>>=◌}
use Rattle.sedscript.specs.Arguments.{name_from, flags_from, with_number, with_flag, ends_flags, with_file}
use Rattle.sedscript.specs.Answers.{with_rest}

-- digits that were read are passed over
skipped : (text : List ℕ) (empty : Bool) (f : Flags) (k at : ℕ) (bs : List ℕ) → k ≤ length bs → flags_from text empty f k at bs ≡ flags_from text empty f 0 (at + k) (drop k bs)
skipped text empty f zero at bs h = ap (λ (n : ℕ). flags_from text empty f 0 n bs) (omega arith)
skipped text empty f (suc k) at [] h = absurd (omega (arith, h))
skipped text empty f (suc k) at (b ∷ bs) h = skipped text empty f k (suc at) bs (omega (arith, h)) ∙ ap (λ (n : ℕ). flags_from text empty f 0 n (drop k bs)) (omega arith)

-- the flags of a number at the front
digits_front : (text : List ℕ) (empty : Bool) (f : Flags) (at n b : ℕ) (bs : List ℕ) → is_digit b ≡ true → n ≡ prefix_len is_digit (b ∷ bs) →
    flags_from text empty f 0 at (b ∷ bs) ≡ (with_number f at (take n (b ∷ bs)) >>= λ g. flags_from text empty g 0 (at + n) (drop n (b ∷ bs)))
digits_front text empty f at n b bs d e =
    let long : n ≡ suc (prefix_len is_digit bs) = e ∙ rw d (omega arith) in
    subst (λ (k : ℕ). flags_from text empty f 0 at (b ∷ bs) ≡ (with_number f at (take k (b ∷ bs)) >>= λ g. flags_from text empty g 0 (at + k) (drop k (b ∷ bs)))) (sym long)
    (rw d (go (with_number f at (b ∷ take (prefix_len is_digit bs) bs))))
  where
    go : (r : Result Flags ScriptFault) → (r >>= λ g. flags_from text empty g (prefix_len is_digit bs) (suc at) bs) ≡ (r >>= λ g. flags_from text empty g 0 (at + suc (prefix_len is_digit bs)) (drop (prefix_len is_digit bs) bs))
    go (Ok g) = skipped text empty g (prefix_len is_digit bs) (suc at) bs (prefix_len-le-length is_digit bs) ∙ ap (λ (n : ℕ). flags_from text empty g 0 n (drop (prefix_len is_digit bs) bs)) (omega arith)
    go (Err x) = refl

-- the flags of a number at a place, up to another
number_read : (text : List ℕ) (empty : Bool) (f : Flags) (at to d : ℕ) → at < length text → is_digit (get_or text at d) ≡ true → to ≡ past Digit text at →
    flags_from text empty f 0 at (drop at text) ≡ (with_number f at (bytes_between text at to) >>= λ g. flags_from text empty g 0 to (drop to text))
unfolding past
number_read text empty f at to d h digit e =
    let long : to ≡ at + prefix_len is_digit (drop at text) = e in
    let front : drop at text ≡ get_or text at d ∷ drop (suc at) text = drop-cons text at d h in
    let n : to - at ≡ prefix_len is_digit (get_or text at d ∷ drop (suc at) text) = let same : prefix_len is_digit (drop at text) ≡ prefix_len is_digit (get_or text at d ∷ drop (suc at) text) = ap (prefix_len is_digit) front in omega (arith, long, same) in
    let back : at + (to - at) ≡ to = omega (arith, long) in
    let rest : drop (to - at) (drop at text) ≡ drop to text = drop-drop (to - at) at text ∙ ap (λ (k : ℕ). drop k text) back in
    let whole : flags_from text empty f 0 at (drop at text) ≡ (with_number f at (take (to - at) (drop at text)) >>= λ g. flags_from text empty g 0 (at + (to - at)) (drop (to - at) (drop at text))) =
    subst (λ (l : List ℕ). flags_from text empty f 0 at l ≡ (with_number f at (take (to - at) l) >>= λ g. flags_from text empty g 0 (at + (to - at)) (drop (to - at) l))) (sym front)
    (digits_front text empty f at (to - at) (get_or text at d) (drop (suc at) text) digit n) in
    subst (λ (k : ℕ). flags_from text empty f 0 at (drop at text) ≡ (with_number f at (bytes_between text at to) >>= λ g. flags_from text empty g 0 k (drop to text))) back
    (subst (λ (l : List ℕ). flags_from text empty f 0 at (drop at text) ≡ (with_number f at (bytes_between text at to) >>= λ g. flags_from text empty g 0 (at + (to - at)) l)) rest whole)

pub number_ok : (text digits : List ℕ) (empty : Bool) (f g : Flags) (at to d : ℕ) → at < length text → is_digit (get_or text at d) ≡ true → to ≡ past Digit text at → digits ≡ bytes_between text at to →
    with_number f at digits ≡ Ok g → flags_from text empty f 0 at (drop at text) ≡ with_rest text empty (Ok (g, to))
number_ok text digits empty f g at to d h digit e is r =
    number_read text empty f at to d h digit e ∙ ap (λ (r : Result Flags ScriptFault). r >>= λ g. flags_from text empty g 0 to (drop to text)) (ap (with_number f at) (sym is) ∙ r)

pub number_err : (text digits : List ℕ) (empty : Bool) (f : Flags) (x y : ScriptFault) (result : Result (Flags × ℕ) ScriptFault) (at to d : ℕ) → at < length text → is_digit (get_or text at d) ≡ true → to ≡ past Digit text at →
    digits ≡ bytes_between text at to → with_number f at digits ≡ Err x → result ≡ Err y → y ≡ x → flags_from text empty f 0 at (drop at text) ≡ with_rest text empty result
number_err text digits empty f x y result at to d h digit e is r bad same =
    number_read text empty f at to d h digit e ∙ (ap (λ (r : Result Flags ScriptFault). r >>= λ g. flags_from text empty g 0 to (drop to text)) (ap (with_number f at) (sym is) ∙ r)
    ∙ ap (with_rest text empty) (sym (bad ∙ ap (λ (z : ScriptFault). Err z) same)))

-- flags end where a line ends
line_ends : (text : List ℕ) (empty : Bool) (g : Flags) (to : ℕ) (bs : List ℕ) → flags_from text empty g 0 to (drop (prefix_len (belongs Line) bs) bs) ≡ Ok (g, to)
line_ends text empty g to [] = refl
line_ends text empty g to (b ∷ bs) = by_newline (line_ends text empty g to bs) (eqb_tells b 10)
  where
    by_newline : flags_from text empty g 0 to (drop (prefix_len (belongs Line) bs) bs) ≡ Ok (g, to) → ((b == 10) ≡ true) × (b ≡ 10) ⊎ ((b == 10) ≡ false) × (b ≢ 10) →
        flags_from text empty g 0 to (drop (if not (b == 10) then 1 + prefix_len (belongs Line) bs else 0) (b ∷ bs)) ≡ Ok (g, to)
    by_newline rest (inl h) = rw h.1 refl
    by_newline rest (inr h) =
        let one : 1 + prefix_len (belongs Line) bs ≡ suc (prefix_len (belongs Line) bs) = omega arith in
        rw h.0 (rw one rest)

-- after the name of a file flags end
name_ends : (text : List ℕ) (empty : Bool) (g : Flags) (from : ℕ) → flags_from text empty g 0 (past Line text from) (drop (past Line text from) text) ≡ Ok (g, past Line text from)
unfolding past
name_ends text empty g from =
    ap (flags_from text empty g 0 (from + prefix_len (belongs Line) (drop from text))) (sym (drop-drop (prefix_len (belongs Line) (drop from text)) from text))
    ∙ line_ends text empty g (from + prefix_len (belongs Line) (drop from text)) (drop from text)

-- the flags of a `w` at a place
pub file_read : (text : List ℕ) (empty : Bool) (f : Flags) (result : Result (Flags × ℕ) ScriptFault) (at b d : ℕ) → at < length text → get_or text at d ≡ b → is_digit b ≡ false → ends_flags b ≡ false → b ≡ 119 →
    result ≡ with_file f at (name_from text (at + 1)) → flags_from text empty f 0 at (drop at text) ≡ with_rest text empty result
unfolding name_from
file_read text empty f result at b d h is digit ends w e =
    subst (λ (l : List ℕ). flags_from text empty f 0 at l ≡ with_rest text empty result) (sym (drop-cons text at d h))
    (front ∙ (by_name (past Line text start == start) ∙ ap (with_rest text empty) (sym e)))
  where
    start : ℕ
    start = past Blank text (at + 1)

    front : flags_from text empty f 0 at (get_or text at d ∷ drop (suc at) text) ≡ with_file f at (name_from text (at + 1))
    front = rw (is ∙ w) refl

    by_name : (t : Bool) → with_file f at (if t then None else Some (start, past Line text start)) ≡ with_rest text empty (with_file f at (if t then None else Some (start, past Line text start)))
    by_name true = refl
    by_name false = sym (name_ends text empty (record f { file = Some (start, past Line text start) }) start)

-- the flag of any other byte at a place, as that byte alone says
letter_read : (text : List ℕ) (empty : Bool) (f : Flags) (r : Result Flags ScriptFault) (at b d : ℕ) → at < length text → get_or text at d ≡ b → is_digit b ≡ false → ends_flags b ≡ false → b ≢ 119 → r ≡ with_flag empty f at b →
    flags_from text empty f 0 at (drop at text) ≡ (r >>= λ g. flags_from text empty g 0 (at + 1) (drop (at + 1) text))
letter_read text empty f r at b d h is digit ends other e =
    let one : suc at ≡ at + 1 = omega arith in
    subst (λ (l : List ℕ). flags_from text empty f 0 at l ≡ (r >>= λ g. flags_from text empty g 0 (at + 1) (drop (at + 1) text))) (sym (drop-cons text at d h)) (front ∙ ap (λ (n : ℕ). r >>= λ g. flags_from text empty g 0 n (drop n text)) one)
  where
    w : (b == 119) ≡ false
    w = elim (eqb_tells b 119) [ inl h ↦ absurd (other h.1) | inr h ↦ h.0 ]

    front : flags_from text empty f 0 at (get_or text at d ∷ drop (suc at) text) ≡ (r >>= λ g. flags_from text empty g 0 (suc at) (drop (suc at) text))
    front = rw (e, is, digit, ends, w) refl

pub letter_ok : (text : List ℕ) (empty : Bool) (f g : Flags) (r : Result Flags ScriptFault) (at b d : ℕ) → at < length text → get_or text at d ≡ b → is_digit b ≡ false → ends_flags b ≡ false → b ≢ 119 → r ≡ with_flag empty f at b → r ≡ Ok g →
    flags_from text empty f 0 at (drop at text) ≡ with_rest text empty (Ok (g, at + 1))
letter_ok text empty f g r at b d h is digit ends other e ok =
    letter_read text empty f r at b d h is digit ends other e ∙ ap (λ (r : Result Flags ScriptFault). r >>= λ g. flags_from text empty g 0 (at + 1) (drop (at + 1) text)) ok

pub letter_err : (text : List ℕ) (empty : Bool) (f : Flags) (x : ScriptFault) (r : Result Flags ScriptFault) (at b d : ℕ) → at < length text → get_or text at d ≡ b → is_digit b ≡ false → ends_flags b ≡ false → b ≢ 119 → r ≡ with_flag empty f at b → r ≡ Err x →
    flags_from text empty f 0 at (drop at text) ≡ with_rest text empty (Err x)
letter_err text empty f x r at b d h is digit ends other e err =
    letter_read text empty f r at b d h is digit ends other e ∙ ap (λ (r : Result Flags ScriptFault). r >>= λ g. flags_from text empty g 0 (at + 1) (drop (at + 1) text)) err
