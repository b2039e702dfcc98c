-- Steps of a reader of lines.
use Rattle.std.proofs.Common.{◌≡◌, ℕ, ◌+◌, true, List, [], ◌∷◌, ◌++◌, length, Option, None, Some, refl, sym, ap, ◌∙◌, arith, rules, inl, inr, ⊎_elim, length-append, append_assoc, append-nil, subst}
use Rattle.std.specs.Io.KnownBytes.{prepend_known, Consumes}
use Rattle.std.proofs.KnownBytes.{Consumes-nil, Consumes-trans}
use Rattle.std.proofs.lemmas.Grind.{pieces}
use Rattle.sedspace.specs.Lines.{HasNoNewline}
use Rattle.sedspace.specs.Spaces.{SpaceView}
use Rattle.sedspace.specs.Stream.{Stream, left}
use Rattle.sedspace.specs.Gathering.{Gathered, GatheredLine}

pub HasNoNewline-append : (xs ys : List ℕ) → HasNoNewline xs → HasNoNewline ys → HasNoNewline (xs ++ ys)
HasNoNewline-append xs ys p q = search (pieces, rules)

-- what moves from ahead leaves the bytes to come
prepend-moved : (known : Option (List ℕ)) (ahead moved rest : List ℕ) → ahead ≡ moved ++ rest → Consumes (prepend_known ahead known) (prepend_known rest known) moved
prepend-moved None ahead moved rest e = tt
prepend-moved (Some xs) ahead moved rest e = ap (λ z. z ++ xs) e ∙ append_assoc moved rest xs

-- what moves from ahead leaves the source, and what is read off it
pub same_source : {R A : Type 0} (f : R → A) (s t : Stream R) → t ≡ record s { ahead = t.ahead } → f t.source ≡ f s.source
same_source f s t e = ap (λ z. f z.source) e

module _ {R : Type 0} (remaining : R → Option (List ℕ)) where
  pub Gathered-start : (s : Stream R) (b : SpaceView) → Gathered remaining s s b b [] []
  Gathered-start s b =
      record {
        space = ap (λ z. record { bytes = z; limit = b.limit }) (sym (append-nil b.bytes));
        part_is = λ k d l. absurd (omega arith);
        left_is = Consumes-nil (left remaining s);
        source_is = Consumes-nil (remaining s.source);
        count = omega arith;
        read_ahead_is = refl;
        fault_is = refl;
        ended_is = λ e. (refl, e);
        whole_is = inr (refl, refl);
      }

  moved-core : (s₀ s : Stream R) (b₀ b : SpaceView) (part taken : List ℕ) → Gathered remaining s₀ s b₀ b part taken → HasNoNewline s.ahead → Gathered remaining s₀ (record s { ahead = [] }) b₀ (record b { bytes = b.bytes ++ s.ahead }) (part ++ s.ahead) taken
  moved-core s₀ s b₀ b part taken h none =
      record {
        space = ap (λ (z : SpaceView). record { bytes = z.bytes ++ s.ahead; limit = z.limit }) h.space ∙ ap (λ (z : List ℕ). record { bytes = z; limit = b₀.limit }) (append_assoc b₀.bytes part s.ahead);
        part_is = HasNoNewline-append part s.ahead h.part_is none;
        left_is = Consumes-trans _ _ _ part s.ahead h.left_is (prepend-moved (remaining s.source) s.ahead s.ahead [] (sym (append-nil s.ahead)));
        source_is = h.source_is;
        count = omega (arith, length-append part s.ahead, h.count);
        read_ahead_is = h.read_ahead_is;
        fault_is = h.fault_is;
        ended_is = h.ended_is;
        whole_is = ⊎_elim inl (λ w. inr (w.0, w.1 ∙ sym (append-nil (part ++ s.ahead)))) h.whole_is;
      }

  -- all that was ahead is moved
  pub Gathered-moved : (s₀ s t : Stream R) (b₀ b c : SpaceView) (part taken : List ℕ) → Gathered remaining s₀ s b₀ b part taken → HasNoNewline s.ahead → t.ahead ≡ [] → t ≡ record s { ahead = t.ahead } → c ≡ record b { bytes = b.bytes ++ s.ahead } → Gathered remaining s₀ t b₀ c (part ++ s.ahead) taken
  Gathered-moved s₀ s t b₀ b c part taken h none empty same grown =
      let e : t ≡ record s { ahead = [] } = same ∙ ap (λ (z : List ℕ). record s { ahead = z }) empty in
      subst (λ (z : Stream R). Gathered remaining s₀ z b₀ c (part ++ s.ahead) taken) (sym e) (
      subst (λ (z : SpaceView). Gathered remaining s₀ (record s { ahead = [] }) b₀ z (part ++ s.ahead) taken) (sym grown) (
      moved-core s₀ s b₀ b part taken h none
      )
      )

  line-core : (s₀ s : Stream R) (b₀ b : SpaceView) (part taken line rest : List ℕ) → Gathered remaining s₀ s b₀ b part taken → HasNoNewline line → s.ahead ≡ line ++ 10 ∷ rest → GatheredLine remaining s₀ (record s { ahead = rest }) b₀ (record b { bytes = b.bytes ++ line }) (part ++ line) taken
  line-core s₀ s b₀ b part taken line rest h none e =
      let ends : s.ahead ≡ (line ++ 10 ∷ []) ++ rest = e ∙ sym (append_assoc line (10 ∷ []) rest) in
      let moved = prepend-moved (remaining s.source) s.ahead (line ++ 10 ∷ []) rest ends in
      let both = Consumes-trans _ _ _ part (line ++ 10 ∷ []) h.left_is moved in
      let len : length s.ahead ≡ length line + length (10 ∷ rest) = ap length e ∙ length-append line (10 ∷ rest) in
      let len2 : length s.ahead ≡ length line + 1 + length rest = omega (arith, len) in
      record {
        space = ap (λ (z : SpaceView). record { bytes = z.bytes ++ line; limit = z.limit }) h.space ∙ ap (λ (z : List ℕ). record { bytes = z; limit = b₀.limit }) (append_assoc b₀.bytes part line);
        line_is = HasNoNewline-append part line h.part_is none;
        left_is = rw append_assoc both;
        source_is = h.source_is;
        count = omega (arith, length-append part line, h.count, len2);
        read_ahead_is = h.read_ahead_is;
        fault_is = h.fault_is;
        ended_is = h.ended_is;
        whole_is = ⊎_elim inl (λ w. inr w.0) h.whole_is;
      }

  -- the line ends in what was ahead
  pub Gathered-line : (s₀ s t : Stream R) (b₀ b c : SpaceView) (part taken line : List ℕ) → Gathered remaining s₀ s b₀ b part taken → HasNoNewline line → s.ahead ≡ line ++ 10 ∷ t.ahead → t ≡ record s { ahead = t.ahead } → c ≡ record b { bytes = b.bytes ++ line } → GatheredLine remaining s₀ t b₀ c (part ++ line) taken
  Gathered-line s₀ s t b₀ b c part taken line h none e same grown =
      subst (λ (z : Stream R). GatheredLine remaining s₀ z b₀ c (part ++ line) taken) (sym same) (
      subst (λ (z : SpaceView). GatheredLine remaining s₀ (record s { ahead = t.ahead }) b₀ z (part ++ line) taken) (sym grown) (
      line-core s₀ s b₀ b part taken line t.ahead h none e
      )
      )

  -- more is read, or the end is found
  pub Gathered-refilled : (s₀ s t : Stream R) (b₀ b : SpaceView) (part taken : List ℕ) → Gathered remaining s₀ s b₀ b part taken → s.ahead ≡ [] → Consumes (left remaining s) (left remaining t) [] → Consumes (remaining s.source) (remaining t.source) t.ahead → t.read_ahead ≡ s.read_ahead → t.fault ≡ s.fault → (s.ended ≡ true → t ≡ s) → Gathered remaining s₀ t b₀ b part (taken ++ t.ahead)
  Gathered-refilled s₀ s t b₀ b part taken h empty same read read_ahead fault done =
      let both = Consumes-trans _ _ _ part [] h.left_is same in
      let none : length s.ahead ≡ 0 = ap length empty in
      record {
        space = h.space;
        part_is = h.part_is;
        left_is = rw append-nil at both;
        source_is = Consumes-trans _ _ _ taken t.ahead h.source_is read;
        count = omega (arith, length-append taken t.ahead, h.count, none);
        read_ahead_is = read_ahead ∙ h.read_ahead_is;
        fault_is = fault ∙ h.fault_is;
        ended_is = λ e. let p = h.ended_is e in let q = done p.1 in (ap (λ (z : Stream R). z.source) q ∙ p.0, ap (λ (z : Stream R). z.ended) q ∙ p.1);
        whole_is = ⊎_elim inl (λ w. inl (subst HasNoNewline (sym (w.1 ∙ ap (λ z. part ++ z) empty ∙ append-nil part)) h.part_is)) h.whole_is;
      }
