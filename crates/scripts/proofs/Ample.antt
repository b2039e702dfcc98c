-- Ends of runs whose states stay within their limits.
use Rattle.std.proofs.Common.{◌≡◌, ◌⊎◌, inl, inr, ℕ, zero, suc, ◌+◌, ◌-◌, ◌<◌, ◌≤◌, List, [], ◌++◌, length, Option, None, Some, refl, sym, ap, subst, ◌∙◌, append-nil, arith}
use Rattle.sedengine.specs.State.{LimitsView, MachineState, Move, Setting}
use Rattle.sedengine.specs.Move.{after, next_move, written}
use Rattle.sedengine.specs.Ends.{WithinLimits, IsCause}
use Rattle.sedengine.specs.Types.{Ended, Done, PatternFull, HoldFull, QueueFull, TurnsSpent, NoPrevious, InputBroken, OutputBroken, OutputFull}
use Rattle.sedengine.proofs.Moves.{after-add, written-add, move_at}
use Rattle.examples.proofs.ComputedRun.{stays, stays_still}
use Rattle.scripts.specs.Ampleness.{NoDevice}
use Rattle.sedengine.specs.Steps.{next_or_stay}

module _ (g : Setting) (s : MachineState) where
  -- after an end nothing changes, and nothing is written
  pub ended_stays : (n t : ℕ) → (after g s n).tasks ≡ [] → n ≤ t → after g s t ≡ after g s n
  ended_stays n t e h =
      let at : n + (t - n) ≡ t = omega arith in
      ap (after g s) (sym at) ∙ after-add g s n (t - n) ∙ stays g (after g s n) (t - n) (move_at g (after g s n) [] e)

  pub ended_still : (n t : ℕ) → (after g s n).tasks ≡ [] → n ≤ t → written g s t ≡ written g s n
  ended_still n t e h =
      let at : n + (t - n) ≡ t = omega arith in
      ap (written g s) (sym at) ∙ written-add g s n (t - n) ∙ ap (λ w. written g s n ++ w) (stays_still g (after g s n) (t - n) (move_at g (after g s n) [] e)) ∙ append-nil (written g s n)

  pub before_or_not : (t n : ℕ) → (t < n) ⊎ (n ≤ t)
  before_or_not t zero = inr (omega arith)
  before_or_not zero (suc n) = inl (omega arith)
  before_or_not (suc t) (suc n) = elim (before_or_not t n) [ inl h ↦ inl (omega arith) | inr h ↦ inr (omega arith) ]

  pub both_ended : (n t : ℕ) → (after g s n).tasks ≡ [] → (after g s t).tasks ≡ [] → written g s t ≡ written g s n
  both_ended n t e f = elim (before_or_not t n) [ inl h ↦ sym (ended_still t n f (omega arith)) | inr h ↦ ended_still n t e h ]

  next_is : (t : ℕ) (m : Move) → next_move g (after g s t) ≡ Some m → after g s (suc t) ≡ m.next
  unfolding after
  next_is t m e = ap (next_or_stay (after g s t)) e

  -- a move is made before the end
  moves_before : (n t : ℕ) (m : Move) → (after g s n).tasks ≡ [] → next_move g (after g s t) ≡ Some m → t < n
  moves_before n t m e h = elim (before_or_not t n) [
    | inl less ↦ less
    | inr more ↦ absurd (no_move (sym h ∙ ap (next_move g) (ended_stays n t e more) ∙ move_at g (after g s n) [] e))
  ]
    where
      no_move : (◌≡◌ {A = Option Move} (Some m) None) → ⊥
      no_move e = cc

  no_move_ended : (n t : ℕ) → (after g s n).tasks ≡ [] → next_move g (after g s t) ≡ None → (after g s t).tasks ≡ []
  no_move_ended n t e h = elim (before_or_not t n) [
    | inl less ↦
        let at : t + (n - t) ≡ n = omega arith in
        ap (λ (x : MachineState). x.tasks) (sym (stays g (after g s t) (n - t) h) ∙ sym (after-add g s t (n - t)) ∙ ap (after g s) at) ∙ e
    | inr more ↦ ap (λ (x : MachineState). x.tasks) (ended_stays n t e more) ∙ e
  ]

-- A run whose states are within the limits up to its end, turns to spare, ends in the ordinary way, where no device has failed or
-- is full.
pub ends_done : (l : LimitsView) (g : Setting) (s : MachineState) (out : List (ℕ × ℕ)) (n : ℕ) (all : List (ℕ × ℕ)) → (after g s n).tasks ≡ [] → written g s n ≡ all →
    ((k : ℕ) → k ≤ n → WithinLimits l (after g s k)) → ((k : ℕ) → k ≤ n → (after g s k).turns < l.turns) → (end : Ended) (t : ℕ) → NoDevice end → IsCause l g s out end t → (end ≡ Done) × (out ≡ all)
ends_done l g s out n all ended wrote fits spare Done t free c = (refl, sym c.wrote ∙ both_ended g s n t ended c.cause ∙ wrote)
ends_done l g s out n all ended wrote fits spare (PatternFull i) t free c =
    let lead = c.cause in
    let f = fits (suc t) (moves_before g s n t lead.0 ended lead.1) in
    let low : length lead.0.next.pattern ≤ l.space = subst (λ (x : MachineState). length x.pattern ≤ l.space) (next_is g s t lead.0 lead.1) f.pattern in
    absurd (omega (arith, lead.4))
ends_done l g s out n all ended wrote fits spare (HoldFull i) t free c =
    let lead = c.cause in
    let f = fits (suc t) (moves_before g s n t lead.0 ended lead.1) in
    let low : length lead.0.next.hold ≤ l.space = subst (λ (x : MachineState). length x.hold ≤ l.space) (next_is g s t lead.0 lead.1) f.hold in
    absurd (omega (arith, lead.4))
ends_done l g s out n all ended wrote fits spare (QueueFull i) t free c =
    let lead = c.cause in
    let f = fits (suc t) (moves_before g s n t lead.0 ended lead.1) in
    let low : length lead.0.next.queue ≤ l.queue = subst (λ (x : MachineState). length x.queue ≤ l.queue) (next_is g s t lead.0 lead.1) f.queue in
    absurd (omega (arith, lead.4))
ends_done l g s out n all ended wrote fits spare TurnsSpent t free c = elim (before_or_not g s t n) [
  | inl less ↦ absurd (let few = spare t (omega arith) in omega (arith, c.cause.0))
  | inr more ↦ absurd (let few = spare n (omega arith) in let same = ap (λ (x : MachineState). x.turns) (ended_stays g s n t ended more) in omega (arith, c.cause.0, same))
]
ends_done l g s out n all ended wrote fits spare (NoPrevious i) t free c =
    absurd (c.cause.2 (no_move_ended g s n t ended c.cause.3))
ends_done l g s out n all ended wrote fits spare InputBroken t free c = absurd free
ends_done l g s out n all ended wrote fits spare (OutputBroken k) t free c = absurd free
ends_done l g s out n all ended wrote fits spare (OutputFull k) t free c = absurd free
