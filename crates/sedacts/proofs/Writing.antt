-- Calls that write, one after another.
use Rattle.std.proofs.Common.{◌≡◌, ℕ, suc, zero, ◌<◌, ◌+◌, ◌≤◌, List, [], ◌∷◌, ◌++◌, length, take, Some, Result, Ok, Err, refl, ◌∙◌, arith, rules}
use Rattle.std.proofs.lemmas.List.{take-append-le}
use Rattle.std.proofs.lemmas.Option.{slice_get_within}
use Rattle.std.proofs.Math.Seq.{take-append-add}
use Rattle.std.proofs.Math.Nat.{suc-add}
use Rattle.std.specs.Prelude.{slice_get}
use Rattle.sedacts.specs.Meters.{WereSent, SinkView, FullSink}
use Rattle.sedacts.specs.Move.{to_sink}
use Rattle.sedacts.specs.Ends.{named_sink}
use Rattle.sedacts.specs.Calls.{PutsBytes, Delivers, DeliversAlone, NoSinkFailed, FailedSink, WritesAll}
use Rattle.sedacts.specs.declared.ends.Ended.{Ended}
use Rattle.sedacts.specs.declared.ends.Ended.TheVariants.{InputBroken, OutputBroken, OutputFull}
use Rattle.sedacts.proofs.Sending.{WereSent-append, WereSent-none}
use Rattle.sedacts.proofs.Gains.{slice_get-to_sink, take-to_sink}

pub slice_get-append_add : {A : Type 0} (xs ys : List A) (n : ℕ) → slice_get (xs ++ ys) (length xs + n) ≡ slice_get ys n
slice_get-append_add [] ys n = search rules
slice_get-append_add (x ∷ xs) ys n = rw suc-add (slice_get-append_add xs ys n)

FailedSink-then : (a b c : ℕ → ℕ) (r : Result Unit Ended) → ((k : ℕ) → b k ≡ a k) → FailedSink b c r → FailedSink a c r
FailedSink-then a b c (Ok u) h i = λ k. i k ∙ h k
FailedSink-then a b c (Err (OutputBroken k)) h (rose, others) = let e = h k in (rw e at rose, λ j not_k. others j not_k ∙ h j)
FailedSink-then a b c (Err other) h i = λ k. i k ∙ h k

-- one call after another
pub Delivers-then : {O : Type 0} (tally : O → SinkView) (count : O → ℕ) (a b c : O) (r : Result Unit Ended) → Delivers tally count a b (Ok tt) → Delivers tally count b c r → Delivers tally count a c r
Delivers-then tally count a b c r w v = record {
  same_count = v.same_count ∙ w.same_count;
  same_frame = v.same_frame ∙ w.same_frame;
  failed = FailedSink-then (tally a).failures (tally b).failures (tally c).failures r w.failed v.failed;
  full = v.full;
}

pub Delivers-none : {O : Type 0} (tally : O → SinkView) (count : O → ℕ) (a : O) → Delivers tally count a a (Ok tt)
Delivers-none tally count a = record { same_count = refl; same_frame = refl; failed = λ k. refl; full = tt }

slice_get-append_left : {A : Type 0} (xs ys : List A) (n : ℕ) (x : A) → slice_get xs n ≡ Some x → slice_get (xs ++ ys) n ≡ Some x
slice_get-append_left [] ys zero x h = cc
slice_get-append_left [] ys (suc n) x h = cc
slice_get-append_left (y ∷ xs) ys zero x h = h
slice_get-append_left (y ∷ xs) ys (suc n) x h = slice_get-append_left xs ys n x h

-- what fails in the first part fails in the whole
pub PutsBytes-left : (old new : SinkView) (xs ys : List (ℕ × ℕ)) (end : Ended) → PutsBytes old new xs (Err end) → PutsBytes old new (xs ++ ys) (Err end)
PutsBytes-left old new xs ys end (k, b, byte, is, due, gained) =
    let lt : b < length xs = slice_get_within xs b (k, byte) due in
    let le : b ≤ length xs = omega arith in
    (k, b, byte, is, slice_get-append_left xs ys b (k, byte) due, rw (take-append-le b xs ys le) gained)

-- the second part, after the first was written
pub PutsBytes-append : (old mid new : SinkView) (xs ys : List (ℕ × ℕ)) (r : Result Unit Ended) → WereSent old mid xs → PutsBytes mid new ys r → PutsBytes old new (xs ++ ys) r
PutsBytes-append old mid new xs ys (Ok u) a h = WereSent-append a h
PutsBytes-append old mid new xs ys (Err end) a (k, b, byte, is, due, gained) =
    (k, length xs + b, byte, is, slice_get-append_add xs ys b ∙ due, rw (take-append-add xs ys b) (WereSent-append a gained))

-- so many bytes for a sink were written, and then it failed or was full
pub PutsBytes-cut : (old new : SinkView) (s n : ℕ) (bytes : List ℕ) (end : Ended) → named_sink end ≡ Some s → n < length bytes → WereSent old new (to_sink s (take n bytes)) → PutsBytes old new (to_sink s bytes) (Err end)
PutsBytes-cut old new s n bytes end named more sent = let due = slice_get-to_sink s n bytes more in (s, n, due.0, named, due.1, rw take-to_sink sent)

unwritten : (f : ℕ → ℕ) (end : Ended) → NoSinkFailed {T = Unit {0}} (Err end) → FailedSink f f (Err end)
unwritten f (OutputBroken k) h = absurd h
unwritten f other h = λ k. refl

unfilled : (t : SinkView) (end : Ended) → NoSinkFailed {T = Unit {0}} (Err end) → FullSink t (Err end)
unfilled t (OutputFull k) h = absurd h
unfilled t other h = tt

-- an end that comes without a write
pub Delivers-unwritten : {O : Type 0} (tally : O → SinkView) (count : O → ℕ) (a : O) (end : Ended) → NoSinkFailed {T = Unit {0}} (Err end) → Delivers tally count a a (Err end)
Delivers-unwritten tally count a end h = record { same_count = refl; same_frame = refl; failed = unwritten (tally a).failures end h; full = unfilled (tally a) end h }

-- a call that may end, and writes nothing
pub Delivers-quiet : {O : Type 0} (tally : O → SinkView) (count : O → ℕ) (a : O) (r : Result Unit Ended) → NoSinkFailed r → Delivers tally count a a r
Delivers-quiet tally count a (Ok u) h = Delivers-none tally count a
Delivers-quiet tally count a (Err end) h = Delivers-unwritten tally count a end h

-- a call that wrote names no source
puts_unread : (old new : SinkView) (out : List (ℕ × ℕ)) (r : Result Unit Ended) → PutsBytes old new out r → r ≡ Err InputBroken → ⊥
puts_unread old new out (Ok u) h is = cc
puts_unread old new out (Err InputBroken) h is = let named = h.3 in cc
puts_unread old new out (Err other) h is = cc

-- Of calls that write and do nothing else.
module _ {O : Type 0} {tally : O → SinkView} {count : O → ℕ} where
  pub writes_alone : {a b : O} {out : List (ℕ × ℕ)} {r : Result Unit Ended} → WritesAll tally count a b out r → DeliversAlone tally count a b r
  writes_alone h = record { output = h.devices; input = puts_unread _ _ _ _ h.puts }

  pub writes_none : {a : O} → WritesAll tally count a a [] (Ok tt)
  writes_none = record { puts = WereSent-none _; devices = Delivers-none _ _ _ }

  -- the second part, after the first was written
  pub writes_then : {a b c : O} {r : Result Unit Ended} (xs ys : List (ℕ × ℕ)) → WritesAll tally count a b xs (Ok tt) → WritesAll tally count b c ys r → WritesAll tally count a c (xs ++ ys) r
  writes_then xs ys h k = record { puts = PutsBytes-append _ _ _ _ _ _ h.puts k.puts; devices = Delivers-then _ _ _ _ _ _ h.devices k.devices }

  -- what fails in the first part fails in the whole
  pub writes_first : {a b : O} {end : Ended} (xs ys : List (ℕ × ℕ)) → WritesAll tally count a b xs (Err end) → WritesAll tally count a b (xs ++ ys) (Err end)
  writes_first xs ys h = record { puts = PutsBytes-left _ _ _ _ _ h.puts; devices = h.devices }
