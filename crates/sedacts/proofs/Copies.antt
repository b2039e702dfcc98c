-- A file's bytes, written one after another.
use Rattle.std.proofs.Common.{◌≡◌, ℕ, suc, zero, ◌<◌, ◌+◌, ◌≤◌, inl, true, List, [], ◌∷◌, ◌++◌, length, take, drop, get_or, Option, Some, None, Result, Ok, Err, refl, sym, ap, ◌∙◌, arith, add-zero, length-drop, length-take-le, take-take, take-add, take_all, rules}
use Rattle.std.specs.Prelude.{slice_get, is_some, IfSome}
use Rattle.std.specs.Io.KnownBytes.{Keeps}
use Rattle.std.proofs.Math.Seq.{take-suc}
use Rattle.std.proofs.lemmas.Option.{slice_get_past, slice_get_within, slice_get-get_or}
use Rattle.sedspace.specs.Reading.{ReadsAt}
use Rattle.sedacts.specs.State.{LimitsView, Task, copy, MachineState, Setting}
use Rattle.sedacts.specs.Move.{next_move, after, written, to_sink, copies_byte, quietly}
use Rattle.sedacts.specs.Meters.{WereSent, SinkView}
use Rattle.sedacts.specs.Calls.{PutsBytes}
use Rattle.sedacts.specs.Ends.{WithinLimits, StaysWithin, BrokenOff}
use Rattle.sedacts.specs.Held.{SameLengths}
use Rattle.sedacts.specs.Run.{InOneCycle}
use Rattle.sedacts.specs.Steps.{takes_turn, Ran, RanToEnd, next_or_stay, writes_of}
use Rattle.sedacts.specs.declared.ends.Ended.{Ended}
use Rattle.sedacts.specs.declared.ends.Ended.TheVariants.{TurnsSpent}
use Rattle.sedacts.proofs.Gains.{to_sink-append, take-to_sink}
use Rattle.sedacts.proofs.Writing.{PutsBytes-append}
use Rattle.sedacts.proofs.Moves.{chain, ran_quietly, stopped_here, move_at}

-- the state in which the first o bytes of the file k were written
abbrev copied : MachineState → ℕ → List Task → ℕ → MachineState
copied s k rest o = record s { tasks = copy k o ∷ rest; turns = s.turns + o }

length-to_sink : (k : ℕ) (bs : List ℕ) → length (to_sink k bs) ≡ length bs
length-to_sink k [] = refl
length-to_sink k (b ∷ bs) = ap suc (length-to_sink k bs)

get_within : {A : Type 0} (b n : ℕ) (xs : List A) → b < n → slice_get (take n xs) b ≡ slice_get xs b
get_within b zero xs h = absurd (omega arith)
get_within b (suc n) [] h = refl
get_within zero (suc n) (x ∷ xs) h = refl
get_within (suc b) (suc n) (x ∷ xs) h = get_within b n xs (omega arith)

-- what is due of the first bytes after b of them, and those b
first_due : (k b n : ℕ) (bs : List ℕ) → b < n → slice_get (to_sink k (take (suc b) bs)) b ≡ slice_get (to_sink k (take n bs)) b
first_due k b n bs h =
    ap (λ l. slice_get l b) (sym (take-to_sink k (suc b) bs)) ∙ get_within b (suc b) (to_sink k bs) (omega arith)
    ∙ sym (get_within b n (to_sink k bs) h) ∙ ap (λ l. slice_get l b) (take-to_sink k n bs)

first_done : (k b n : ℕ) (bs : List ℕ) → b < n → take b (to_sink k (take (suc b) bs)) ≡ take b (to_sink k (take n bs))
first_done k b n bs h =
    take-to_sink k b (take (suc b) bs) ∙ ap (to_sink k) (take-take b (suc b) bs (omega arith) ∙ sym (take-take b n bs (omega arith)))
    ∙ sym (take-to_sink k b (take n bs))

-- A text whose bytes are known is read on: this is what a read gives, and where it gives none the text is at its end.
pub reads_on : (old now : Option (List ℕ)) (bytes buf : List ℕ) (o n : ℕ) → old ≡ Some bytes → Keeps old now → ReadsAt now o n buf → length buf ≡ n → o ≤ length bytes →
    (buf ≡ take n (drop o bytes)) × (o + n ≤ length bytes)
reads_on None now bytes buf o n shown keeps read len le = cc
reads_on (Some xs) None bytes buf o n shown keeps read len le = absurd keeps
reads_on (Some xs) (Some ys) bytes buf o n shown keeps read len le =
    let same : ys ≡ bytes = cc in
    let (is, within, ends) : ReadsAt (Some bytes) o n buf = rw same at read in
    (sym (take_all n buf (omega arith)) ∙ is, omega (arith, length-drop o bytes))

pub reads_end : (old now : Option (List ℕ)) (bytes : List ℕ) (o n : ℕ) → old ≡ Some bytes → Keeps old now → IfSome now (λ xs. n ≡ 0 → length xs ≤ o) → n ≡ 0 → length bytes ≤ o
reads_end None now bytes o n shown keeps ends none = cc
reads_end (Some xs) None bytes o n shown keeps ends none = absurd keeps
reads_end (Some xs) (Some ys) bytes o n shown keeps ends none =
    let same : ys ≡ bytes = cc in
    let le = ends none in
    omega (arith, ap length same)

-- the bytes written, and a piece after them
pub put_on : (old mid new : SinkView) (bytes piece : List ℕ) (o n : ℕ) (r : Result Unit Ended) → WereSent old mid (to_sink 0 (take o bytes)) → piece ≡ take n (drop o bytes) →
    PutsBytes mid new (to_sink 0 piece) r → PutsBytes old new (to_sink 0 (take (o + n) bytes)) r
put_on old mid new bytes piece o n r gained is put =
    let all : to_sink 0 (take o bytes) ++ to_sink 0 piece ≡ to_sink 0 (take (o + n) bytes) = rw (take-add, to_sink-append, is) refl in
    rw (← all) (PutsBytes-append old mid new (to_sink 0 (take o bytes)) (to_sink 0 piece) r gained put)

-- While bytes are written, lengths are as at the first of them.
same_copied : (s now : MachineState) (k : ℕ) (rest : List Task) (o : ℕ) → SameLengths s now → SameLengths (copied s k rest o) now
same_copied s now k rest o h = record { pattern = h.pattern; hold = h.hold; queue = λ goes. cc; entries = h.entries }

-- From the state s, whose first task writes the file k from its start on.
module _ (g : Setting) (s : MachineState) (k : ℕ) (rest : List Task) (at : s.tasks ≡ copy k 0 ∷ rest) where
  next_byte : (o : ℕ) → o < length (g.files k) →
      next_move g (copied s k rest o) ≡ Some (record { next = copied s k rest (suc o); writes = (0, get_or (g.files k) o 0) ∷ [] })
  next_byte o lt =
      let m : MachineState = copied s k rest o in
      let more : o + 1 ≡ suc o = omega arith in
      let turns : s.turns + o + 1 ≡ s.turns + suc o = omega arith in
      let byte : slice_get (g.files k) o ≡ Some (get_or (g.files k) o 0) = slice_get-get_or (g.files k) o 0 lt in
      move_at g m (copy k o ∷ rest) refl ∙ ap (copies_byte m rest k o) byte ∙ rw (more, turns) refl

  at_end : (o : ℕ) → length (g.files k) ≤ o → next_move g (copied s k rest o) ≡ quietly (record s { tasks = rest; turns = s.turns + o })
  at_end o le =
      let m : MachineState = copied s k rest o in
      move_at g m (copy k o ∷ rest) refl ∙ ap (copies_byte m rest k o) (slice_get_past (g.files k) o le)

  after_copied : (o : ℕ) → o ≤ length (g.files k) → after g s o ≡ copied s k rest o
  unfolding after
  after_copied zero h = rw add-zero (ap (λ ts. let t : MachineState = record s { tasks = ts } in t) at)
  after_copied (suc o) h =
      ap (λ m. next_or_stay m (next_move g m)) (after_copied o (omega arith)) ∙ ap (next_or_stay (copied s k rest o)) (next_byte o (omega arith))

  written_copied : (o : ℕ) → o ≤ length (g.files k) → written g s o ≡ to_sink 0 (take o (g.files k))
  unfolding written
  written_copied zero h = search rules
  written_copied (suc o) h =
      let so_far = written_copied o (omega arith) in
      let byte = ap (λ m. writes_of (next_move g m)) (after_copied o (omega arith)) ∙ ap writes_of (next_byte o (omega arith)) in
      rw (so_far, byte, take-suc (g.files k) o 0 (omega arith), to_sink-append) refl

  one_copied : (o : ℕ) → o ≤ length (g.files k) → InOneCycle g s (o + 1)
  one_copied o h = λ j some lt. let at_j = after_copied j (omega arith) in rw at_j refl

  within_copied : (l : LimitsView) (o : ℕ) → o ≤ length (g.files k) → WithinLimits l s → s.turns + o ≤ l.turns → StaysWithin l g s o
  unfolding StaysWithin
  within_copied l o h f turns = λ j le. let at_j = after_copied j (omega arith) in rw at_j (record { pattern = f.pattern; hold = f.hold; queue = f.queue; turns = omega arith })

  -- the file was written to its end
  pub copied_all : (l : LimitsView) (old new : SinkView) (o turns : ℕ) → WithinLimits l s → turns ≡ s.turns + o → turns ≤ l.turns →
      o ≤ length (g.files k) → length (g.files k) ≤ o → WereSent old new (to_sink 0 (take o (g.files k))) →
      Ran l g s (record s { tasks = rest; turns = turns }) old new
  copied_all l old new o turns f are fits inside all gained =
      let here : WithinLimits l (copied s k rest o) = record { pattern = f.pattern; hold = f.hold; queue = f.queue; turns = omega arith } in
      let there : WithinLimits l (record s { tasks = rest; turns = s.turns + o }) = record { pattern = f.pattern; hold = f.hold; queue = f.queue; turns = omega arith } in
      let last = ran_quietly l g (copied s k rest o) _ new here (at_end o all) there in
      rw are (chain l g s _ old new new o (Ok tt) (within_copied l o inside f (omega arith)) (one_copied o inside)
      (rw (written_copied o inside) gained) (rw (after_copied o inside) last))

  -- a further byte is due, and no turn is left
  pub copied_spent : (l : LimitsView) (now : MachineState) (old new : SinkView) (o : ℕ) → WithinLimits l s → s.turns + o ≡ l.turns → o < length (g.files k) →
      WereSent old new (to_sink 0 (take o (g.files k))) → SameLengths s now → s.lines ≡ now.lines → RanToEnd l g s now old new TurnsSpent
  copied_spent l now old new o f spent inside gained same lines =
      let m : MachineState = copied s k rest o in
      let here : WithinLimits l m = record { pattern = f.pattern; hold = f.hold; queue = f.queue; turns = omega arith } in
      let due : takes_turn g m m.tasks ≡ true = ap is_some (slice_get-get_or (g.files k) o 0 inside) in
      let last = stopped_here l g m now new TurnsSpent here refl (spent, due) (same_copied s now k rest o same) lines in
      chain l g s now old new new o (Err TurnsSpent) (within_copied l o (omega arith) f (omega arith)) (one_copied o (omega arith))
      (rw (written_copied o (omega arith)) gained) (rw (after_copied o (omega arith)) last)

  -- the sink took no more at one of the first n bytes
  pub copied_broken : (l : LimitsView) (now : MachineState) (old new : SinkView) (n : ℕ) (end : Ended) → WithinLimits l s → s.turns + n ≤ l.turns → n ≤ length (g.files k) →
      PutsBytes old new (to_sink 0 (take n (g.files k))) (Err end) → SameLengths s now → s.lines ≡ now.lines → RanToEnd l g s now old new end
  copied_broken l now old new n end f fits inside (j, b, byte, end_is, due, sent) same lines =
      let file : List ℕ = g.files k in
      let lt : b < n = let within = slice_get_within (to_sink 0 (take n file)) b (j, byte) due in omega (arith, length-to_sink 0 (take n file), length-take-le n file inside) in
      let less : b ≤ length file = omega arith in
      let more : suc b ≤ length file = omega arith in
      let due_at = first_due 0 b n file lt in
      let part = first_done 0 b n file lt in
      let cut : BrokenOff l g s (take b (to_sink 0 (take n file))) j b = record {
        within = within_copied l (suc b) more f (omega arith);
        b = b;
        byte = byte;
        past = rw (written_copied b less) (omega (arith, length-to_sink 0 (take b file), length-take-le b file less));
        due = rw (written_copied (suc b) more) (due_at ∙ due);
        wrote = rw (written_copied (suc b) more, part) refl;
      } in
      let here : SameLengths (after g s b) now = rw (after_copied b less) (same_copied s now k rest b same) in
      record {
        t = b;
        out = take b (to_sink 0 (take n file));
        sinks = sent;
        cause = rw end_is cut;
        holds = rw end_is (inl here);
        one = one_copied b less;
        lines = ap (λ (x : MachineState). x.lines) (after_copied b less) ∙ lines;
      }
