-- The definitions of what `s` replaces compute.
use Rattle.std.proofs.Common.{◌≡◌, ℕ, ◌+◌, [], ◌∷◌, true, false, Option, Some, None, refl}
use Rattle.std.specs.Prelude.{nat_eq, nat_lt, if◌then◌else◌}
use Rattle.sedscript.specs.declared.substitution.Piece.TheVariants.{Literal as literal, Whole as whole}
use Rattle.sedengine.specs.Substitute.{Occurrence, occurrences_from, each_occurrence, to_replace, replaced_from}

abbrev between : ℕ → ℕ → Option Occurrence
between i j = Some (record { start = i; end = j; groups = [] })

-- a period in three bytes
abbrev one_byte : ℕ → Option Occurrence
one_byte p = if nat_lt p 3 then between p (p + 1) else None

-- b* in abc
abbrev any_b : ℕ → Option Occurrence
any_b p = if nat_eq p 1 then between 1 2 else between p p

-- s/./x/g, s/./x/2 and s/./x/2g on abc
example_all : replaced_from (97 ∷ 98 ∷ 99 ∷ []) (literal 120 ∷ []) 0 (to_replace 1 true (each_occurrence one_byte 3))
    ≡ 120 ∷ 120 ∷ 120 ∷ []
unfolding occurrences_from
example_all = refl

example_second : replaced_from (97 ∷ 98 ∷ 99 ∷ []) (literal 120 ∷ []) 0 (to_replace 2 false (each_occurrence one_byte 3))
    ≡ 97 ∷ 120 ∷ 99 ∷ []
unfolding occurrences_from
example_second = refl

example_later : replaced_from (97 ∷ 98 ∷ 99 ∷ []) (literal 120 ∷ []) 0 (to_replace 2 true (each_occurrence one_byte 3))
    ≡ 97 ∷ 120 ∷ 120 ∷ []
unfolding occurrences_from
example_later = refl

-- s/b*/-/g on abc is -a-c-: no occurrence is the null string after b
example_null : replaced_from (97 ∷ 98 ∷ 99 ∷ []) (literal 45 ∷ []) 0 (to_replace 1 true (each_occurrence any_b 3))
    ≡ 45 ∷ 97 ∷ 45 ∷ 99 ∷ 45 ∷ []
unfolding occurrences_from
example_null = refl

-- s/b*/<&>/2 on abc is a<b>c
example_whole : replaced_from (97 ∷ 98 ∷ 99 ∷ []) (literal 60 ∷ whole ∷ literal 62 ∷ []) 0
    (to_replace 2 false (each_occurrence any_b 3))
    ≡ 97 ∷ 60 ∷ 98 ∷ 62 ∷ 99 ∷ []
unfolding occurrences_from
example_whole = refl
