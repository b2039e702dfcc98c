-- Sinks over memory, and the files that are created among them.
use Rattle.std.proofs.Common.{◌≡◌, ℕ, zero, suc, ◌+◌, ◌<◌, Bool, true, false, List, [], ◌∷◌, ◌++◌, take, length, Option, Some, None, Result, Ok, refl, subst, sym, ap, ◌∙◌, arith, ◌⊎◌, inl, inr, ◌≢◌, eqb}
use Rattle.std.specs.Prelude.{IfSome, slice_get, unwrap_or}
use Rattle.std.specs.Option.{option_map, option_map_or}
use Rattle.std.specs.Str.{bytes_eq}
use Rattle.std.proofs.lemmas.Slice.Eq.{bytes_eq-Decides}
use Rattle.std.proofs.lemmas.Bool.{ltb-true, ltb-false, le-ltb}
use Rattle.std.proofs.Math.Dec.{ltb}
use Rattle.std.proofs.lemmas.List.{append-nil}
use Rattle.std.proofs.lemmas.Bool.Decides.{eqb_tells}
use Rattle.std.specs.Io.KnownBytes.{Appends}
use Rattle.sedspace.specs.Memory.{Sink, HeldSinks, TakesBytes, sink_bytes, sink_failures}
use Rattle.sedspace.specs.declared.errors.Broken.{Broken}
use Rattle.sedfiles.specs.MemorySinks.{NextFails, SinkFiles, contents_of}

-- the names of the files created, and the next
pub names_grow : (names : List (List ℕ)) (k : ℕ) (name : List ℕ) → option_map_or (λ next. bytes_eq next name) (slice_get names k) false ≡ true →
    take (k + 1) names ≡ take k names ++ name ∷ []
names_grow [] k name is = absurd cc
names_grow (next ∷ names) zero name is = ap (λ n. n ∷ []) ((bytes_eq-Decides next name).0 is)
names_grow (next ∷ names) (suc k) name is =
    let more : suc k + 1 ≡ suc (k + 1) = omega arith in
    ap (λ n. take n (next ∷ names)) more ∙ ap (λ rest. next ∷ rest) (names_grow names k name is)

-- there is a next file where its name is asked for
pub next_inside : (names : List (List ℕ)) (k : ℕ) (name : List ℕ) → option_map_or (λ next. bytes_eq next name) (slice_get names k) false ≡ true → k < length names
next_inside [] k name is = absurd cc
next_inside (next ∷ names) zero name is = omega arith
next_inside (next ∷ names) (suc k) name is = omega (arith, next_inside names k name is)

empty_at : (held : List Sink) (k : ℕ) → k < length held → IfSome (slice_get held k) (λ sink. sink.bytes ≡ []) → option_map (λ sink. sink.bytes) (slice_get held k) ≡ Some []
empty_at [] k inside is = absurd (omega (arith, inside))
empty_at (sink ∷ held) zero inside is = ap Some is
empty_at (sink ∷ held) (suc k) inside is = empty_at held k (omega (arith, inside)) is

shown_at : (held : List Sink) (k : ℕ) → k < length held → (bytes : List ℕ) × (option_map (λ sink. sink.bytes) (slice_get held k) ≡ Some bytes)
shown_at [] k inside = absurd (omega (arith, inside))
shown_at (sink ∷ held) zero inside = (sink.bytes, refl)
shown_at (sink ∷ held) (suc k) inside = shown_at held k (omega (arith, inside))

none_of_none : (n : ℕ) → take {A = ℕ} n [] ≡ []
none_of_none zero = refl
none_of_none (suc n) = refl

same_appended : (x y : Option (List ℕ)) (bytes : List ℕ) (n : ℕ) → x ≡ Some bytes → Appends x y (take n []) → y ≡ x
same_appended None y bytes n is h = absurd cc
same_appended (Some xs) None bytes n is h = absurd h
same_appended (Some xs) (Some ys) bytes n is h = ap Some (h ∙ ap (λ z. xs ++ z) (none_of_none n) ∙ append-nil xs)

-- a write of no bytes leaves what sinks hold
pub kept_by_none : (old new : HeldSinks) (sink n k : ℕ) → sink < length old.held → Appends (sink_bytes old sink) (sink_bytes new sink) (take n []) →
    ((j : ℕ) → j ≢ sink → slice_get new.held j ≡ slice_get old.held j) → sink_bytes new k ≡ sink_bytes old k
kept_by_none old new sink n k inside h others = by (eqb_tells k sink)
  where
    by : ((eqb k sink ≡ true) × (k ≡ sink)) ⊎ ((eqb k sink ≡ false) × (k ≢ sink)) → sink_bytes new k ≡ sink_bytes old k
    by (inl (e, here)) = let shown = shown_at old.held sink inside in rw here (same_appended (sink_bytes old sink) (sink_bytes new sink) shown.0 n shown.1 h)
    by (inr (e, there)) = ap (λ s. option_map (λ x. x.bytes) s) (others k there)

-- and the numbers of failures, where it doesn't fail
pub failures_kept : (old new : HeldSinks) (sink k : ℕ) → sink_failures new sink ≡ sink_failures old sink →
    ((j : ℕ) → j ≢ sink → slice_get new.held j ≡ slice_get old.held j) → sink_failures new k ≡ sink_failures old k
failures_kept old new sink k h others = by (eqb_tells k sink)
  where
    by : ((eqb k sink ≡ true) × (k ≡ sink)) ⊎ ((eqb k sink ≡ false) × (k ≢ sink)) → sink_failures new k ≡ sink_failures old k
    by (inl (e, here)) = rw here h
    by (inr (e, there)) = ap (λ s. unwrap_or (option_map (λ x. x.failures) s) 0) (others k there)

sink_at : (held : List Sink) (k : ℕ) → k < length held → (s : Sink) × (slice_get held k ≡ Some s)
sink_at [] k inside = absurd (omega (arith, inside))
sink_at (sink ∷ held) zero inside = (sink, refl)
sink_at (sink ∷ held) (suc k) inside = sink_at held k (omega (arith, inside))

-- A write of no bytes that passes was not set to fail.
module _ (old new : HeldSinks) (k : ℕ) (inside : k < length old.held) (same : length new.held ≡ length old.held) where
  abbrev Takes : Result ℕ Broken → Type 0
  Takes r = IfSome (slice_get old.held k) (λ s. IfSome (slice_get new.held k) (λ t. TakesBytes s t old.most [] r))

  pub write_passes : (n : ℕ) → Takes (Ok n) → NextFails old k → ⊥
  write_passes n h (s, at, fails) =
      let t = sink_at new.held k (omega (arith, inside, same)) in
      let taken : TakesBytes s t.0 old.most [] (Ok n) = rw (at, t.1) at h in
      taken.2 (fails ∙ sym (ap (λ (x : Sink). Some x.writes) taken.3))

-- what wasn't written to is set to fail as before
pub NextFails-same : (old new : HeldSinks) (k : ℕ) → slice_get new.held k ≡ slice_get old.held k → NextFails new k → NextFails old k
NextFails-same old new k same (s, at, fails) = (s, sym same ∙ at, fails)

pub one_more_passed : (o : HeldSinks) (sink : ℕ) → ((j : ℕ) → j < sink → NextFails o j → ⊥) → (NextFails o sink → ⊥) → (k : ℕ) → k < sink + 1 → NextFails o k → ⊥
one_more_passed o sink before here k inside fails = by (ltb k sink) refl
  where
    by : (b : Bool) → ltb k sink ≡ b → ⊥
    by true e = before k (ltb-true k sink e) fails
    by false e = let is : k ≡ sink = omega (arith, inside, ltb-false k sink e) in here (subst (λ j. NextFails o j) is fails)

-- a file that is created holds nothing, as it did before
pub created_keeps : (s : SinkFiles) (k : ℕ) → s.created + 1 < length s.outputs.held → ((j : ℕ) → s.created < j → IfSome (slice_get s.outputs.held j) (λ sink. sink.bytes ≡ [])) →
    contents_of (record s { created = s.created + 1 }) k ≡ contents_of s k
created_keeps s k inside empty = by (ltb s.created k) (ltb (s.created + 1) k) refl refl
  where
    by : (b c : Bool) → ltb s.created k ≡ b → ltb (s.created + 1) k ≡ c → contents_of (record s { created = s.created + 1 }) k ≡ contents_of s k
    by false c e f = let past = ltb-false s.created k e in rw (e, le-ltb (s.created + 1) k (omega (arith, past))) refl
    by true true e f = rw (e, f) refl
    by true false e f =
        let least = ltb-true s.created k e in
        let most = ltb-false (s.created + 1) k f in
        rw (e, f) (empty_at s.outputs.held k (omega (arith, inside, most)) (empty k least))
