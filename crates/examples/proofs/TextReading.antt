-- What a text is.
use Rattle.std.proofs.Common.{◌≡◌, ℕ, false, List, [], ◌∷◌, ◌++◌, suc, refl, ap, arith}
use Rattle.std.specs.Prelude.{All}
use Rattle.std.proofs.lemmas.Bool.{ne_eqb}
use Rattle.sedscript.specs.Script.{unescaped_from}
use Rattle.examples.specs.Texts.{each_backslashed}

pub escaped_bytes : (bytes rest : List ℕ) → unescaped_from false (each_backslashed bytes ++ rest) ≡ bytes ++ unescaped_from false rest
escaped_bytes [] rest = refl
escaped_bytes (b ∷ bs) rest = ap (λ (x : List ℕ). b ∷ x) (escaped_bytes bs rest)

pub plain_bytes : (bytes rest : List ℕ) → All (λ b. b ≡ 92 → ⊥) bytes → unescaped_from false (bytes ++ rest) ≡ bytes ++ unescaped_from false rest
plain_bytes [] rest h = refl
plain_bytes (b ∷ bs) rest h = rw (ne_eqb b 92 (h 0 b (omega arith))) (ap (λ (x : List ℕ). b ∷ x) (plain_bytes bs rest (λ k d m. h (suc k) d (omega (arith, m)))))
