-- Where a label ends.
use Rattle.std.proofs.Common.{◌≡◌, ℕ, zero, suc, ◌+◌, ◌-◌, ◌<◌, ◌≤◌, ◌==◌, ◌⊎◌, inl, inr, ◌||◌, Bool, true, false, if◌then◌else◌, List, [], ◌∷◌, length, drop, Option, Some, None, slice_get, refl, sym, ap, ◌∙◌, arith, length-drop}
use Rattle.std.specs.List.{prefix_len}
use Rattle.std.proofs.lemmas.Bool.{eqb-true, or_cases, both_ways, not-false}
use Rattle.std.proofs.lemmas.List.Sums.{prefix_len-le-length}
use Rattle.sedscript.specs.Bytes.{past, belongs, is_blank}
use Rattle.sedscript.specs.declared.bytes.Sort.TheVariants.{Name}
use Rattle.examples.specs.Labels.{EndsLabel}
use Rattle.examples.proofs.BackslashLemmas.{get_drop}

ends_test : (b : ℕ) → (is_blank b || b == 10 || b == 59 || b == 125) ≡ true → EndsLabel b
ends_test b h = by_last (or_cases (is_blank b || b == 10 || b == 59) (b == 125) h)
  where
    by_blank : ((b == 32) ≡ true) ⊎ ((b == 9) ≡ true) → EndsLabel b
    by_blank (inl e) = inr (inr (inl (eqb-true b 32 e)))
    by_blank (inr e) = inr (inr (inr (inl (eqb-true b 9 e))))

    by_newline : (is_blank b ≡ true) ⊎ ((b == 10) ≡ true) → EndsLabel b
    by_newline (inl h) = by_blank (or_cases (b == 32) (b == 9) h)
    by_newline (inr e) = inl (eqb-true b 10 e)

    by_semicolon : ((is_blank b || b == 10) ≡ true) ⊎ ((b == 59) ≡ true) → EndsLabel b
    by_semicolon (inl h) = by_newline (or_cases (is_blank b) (b == 10) h)
    by_semicolon (inr e) = inr (inl (eqb-true b 59 e))

    by_last : ((is_blank b || b == 10 || b == 59) ≡ true) ⊎ ((b == 125) ≡ true) → EndsLabel b
    by_last (inl h) = by_semicolon (or_cases (is_blank b || b == 10) (b == 59) h)
    by_last (inr e) = inr (inr (inr (inr (eqb-true b 125 e))))

belongs_other : (b : ℕ) → belongs Name b ≡ true → EndsLabel b → ⊥
belongs_other b h (inl e) = let f : belongs Name b ≡ false = rw e refl in both_ways (belongs Name b) f h
belongs_other b h (inr (inl e)) = let f : belongs Name b ≡ false = rw e refl in both_ways (belongs Name b) f h
belongs_other b h (inr (inr (inl e))) = let f : belongs Name b ≡ false = rw e refl in both_ways (belongs Name b) f h
belongs_other b h (inr (inr (inr (inl e)))) = let f : belongs Name b ≡ false = rw e refl in both_ways (belongs Name b) f h
belongs_other b h (inr (inr (inr (inr e)))) = let f : belongs Name b ≡ false = rw e refl in both_ways (belongs Name b) f h

-- what a list has at its front that belongs to a label
inside_by : (t : Bool) (c : ℕ) (bs : List ℕ) (n : ℕ) → belongs Name c ≡ t → ((k b : ℕ) → k < n → slice_get bs k ≡ Some b → EndsLabel b → ⊥) →
    (k b : ℕ) → k < (if t then 1 + n else 0) → slice_get (c ∷ bs) k ≡ Some b → EndsLabel b → ⊥
inside_by false c bs n is more k b h e x = omega (arith, h)
inside_by true c bs n is more zero b h e x =
    let f : ◌≡◌ {A = Option ℕ} (Some c) (Some b) = e in
    let same : c ≡ b = cc in
    belongs_other b (ap (belongs Name) (sym same) ∙ is) x
inside_by true c bs n is more (suc k) b h e x = more k b (omega (arith, h)) e x

inside : (bs : List ℕ) (k b : ℕ) → k < prefix_len (belongs Name) bs → slice_get bs k ≡ Some b → EndsLabel b → ⊥
inside [] k b h e x = omega (arith, h)
inside (c ∷ bs) k b h e x = inside_by (belongs Name c) c bs (prefix_len (belongs Name) bs) refl (inside bs) k b h e x

end_after_by : (t : Bool) (c b : ℕ) (bs : List ℕ) (n : ℕ) → belongs Name c ≡ t → (slice_get bs n ≡ Some b → EndsLabel b) →
    slice_get (c ∷ bs) (if t then 1 + n else 0) ≡ Some b → EndsLabel b
end_after_by true c b bs n is more e =
    let one : suc n ≡ 1 + n = omega arith in
    more (ap (slice_get (c ∷ bs)) one ∙ e)
end_after_by false c b bs n is more e =
    let f : ◌≡◌ {A = Option ℕ} (Some c) (Some b) = e in
    let same : c ≡ b = cc in
    let g : (is_blank c || c == 10 || c == 59 || c == 125) ≡ true = not-false (is_blank c || c == 10 || c == 59 || c == 125) is in
    rw (← same) (ends_test c g)

end_after : (bs : List ℕ) (b : ℕ) → slice_get bs (prefix_len (belongs Name) bs) ≡ Some b → EndsLabel b
end_after [] b e = let f : ◌≡◌ {A = Option ℕ} None (Some b) = e in absurd (cc)
end_after (c ∷ bs) b e = end_after_by (belongs Name c) c b bs (prefix_len (belongs Name) bs) refl (end_after bs b) e

pub label_ends : (script : List ℕ) (from : ℕ) →
    (from ≤ past Name script from) × (from ≤ length script → past Name script from ≤ length script)
    × ((at b : ℕ) → from ≤ at → at < past Name script from → slice_get script at ≡ Some b → EndsLabel b → ⊥)
    × ((b : ℕ) → slice_get script (past Name script from) ≡ Some b → EndsLabel b)
unfolding past
label_ends script from = (
  omega arith,
  λ low. (let h = prefix_len-le-length (belongs Name) (drop from script) in omega (arith, h, length-drop from script, low)),
  (λ at b low high e x. let f : from + (at - from) ≡ at = omega (arith, low) in
      inside (drop from script) (at - from) b (omega (arith, low, high)) (get_drop script from (at - from) ∙ (ap (slice_get script) f ∙ e)) x),
  (λ b e. end_after (drop from script) b (get_drop script from (prefix_len (belongs Name) (drop from script)) ∙ e)),
)
