-- From the end of an edit to the status of the program.
use Rattle.std.proofs.Common.{◌≡◌, ◌≢◌, ◌∙◌, ◌+◌, ◌<◌, ◌∷◌, ◌++◌, ◌⊎◌, inl, inr, ℕ, zero, suc, false, List, [], Option, take, map, length, get_or, sym, ap}
use Rattle.std.proofs.lemmas.List.{map_more, take-map}
use Rattle.sedengine.specs.Ends.{SinksGain}
use Rattle.sedengine.specs.Move.{to_sink}
use Rattle.sededit.specs.Program.{SinkFailed}
use Rattle.sededit.specs.RunStatus.{Finishes, Helps}
use Rattle.sededit.specs.Types.{Done, Ended}
use Rattle.sededit.proofs.RunLemmas.{SinksGain-same, sink_failed, sink_failed-more}

-- the next of some names
pub next_name : {X : Type 0} (f : X → List ℕ) (xs : List X) (names : List (List ℕ)) (i : ℕ) (x : X) → map f xs ≡ names → i < length xs → x ≡ get_or xs i x →
    take (i + 1) names ≡ take i names ++ f x ∷ []
next_name f xs names i x are inside at =
    let more : take (i + 1) names ≡ take i names ++ f (get_or xs i x) ∷ [] = rw (← are, take-map f (i + 1) xs, take-map f i xs) (map_more f xs i x inside) in
    more ∙ ap (λ z. take i names ++ f z ∷ []) (sym at)

-- the status of a run is not that of a refusal, and one of the four
pub not_refused : (status : ℕ) → (status ≡ 0) ⊎ ((status ≡ 2) ⊎ (status ≡ 4)) → status ≡ 1 → ⊥
not_refused status (inl e) is = cc
not_refused status (inr (inl e)) is = cc
not_refused status (inr (inr e)) is = cc

pub one_of_four : (status : ℕ) → (status ≡ 0) ⊎ ((status ≡ 2) ⊎ (status ≡ 4)) → (status ≡ 0) ⊎ ((status ≡ 1) ⊎ ((status ≡ 2) ⊎ (status ≡ 4)))
one_of_four status (inl e) = inl e
one_of_four status (inr e) = inr (inr e)

-- no number has changed
pub all_kept : (old new : ℕ → ℕ) → new 0 ≡ old 0 → ((k : ℕ) → k ≢ 0 → new k ≡ old k) → (k : ℕ) → new k ≡ old k
all_kept old new first others zero = first
all_kept old new first others (suc k) = others (suc k) (λ is. cc)

-- help that was written, all of it or a part where sink 0 failed, and flushed
pub Helps-finished : (c0 c1 c2 : ℕ → Option (List ℕ)) (n0 n1 n2 : ℕ → ℕ) (names0 names1 : List (List ℕ)) (text : List ℕ) (end : Ended) (status : ℕ) →
    SinksGain c0 c1 (to_sink 0 text) → (end ≡ Done → (k : ℕ) → n1 k ≡ n0 k) → (end ≢ Done → SinkFailed n0 n1) → ((k : ℕ) → c2 k ≡ c1 k) → names1 ≡ names0 → Finishes n1 n2 false end status →
    Helps c0 c2 n0 n2 names0 names1 status
Helps-finished c0 c1 c2 n0 n1 n2 names0 names1 text end status gained well ill same names (inl (done, kept, inl (none, is))) = record {
  meaning = record { either = inl is; help = (text, SinksGain-same c0 c1 c2 _ same gained); failed = λ four. absurd (cc) };
  no_sink = λ _ k. kept k ∙ well done k;
  names = names;
}
Helps-finished c0 c1 c2 n0 n1 n2 names0 names1 text end status gained well ill same names (inl (done, kept, inr (some, is))) = absurd (cc)
Helps-finished c0 c1 c2 n0 n1 n2 names0 names1 text end status gained well ill same names (inr (is, rose, why)) = record {
  meaning = record {
    either = inr is;
    help = (text, SinksGain-same c0 c1 c2 _ same gained);
    failed = λ _. elim why [
      | inl early ↦ sink_failed-more n0 n1 n2 rose (ill early)
      | inr flushed ↦ sink_failed n0 n1 n2 (well flushed.0) flushed.1
    ];
  };
  no_sink = λ other. absurd (other is);
  names = names;
}
