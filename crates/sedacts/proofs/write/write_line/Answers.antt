use Rattle.std.proofs.Common.{◌≡◌, ◌∙◌, ◌+◌, ◌-◌, ◌≤◌, ◌++◌, ◌∷◌, [], ℕ, List, length, take, drop, ap, arith}
use Rattle.std.proofs.Math.ListN.{replicate}
use Rattle.std.proofs.Math.Seq.{take-append-add}
use Rattle.std.proofs.lemmas.List.{drop-replicate, take-replicate}
use Rattle.std.proofs.lemmas.Result.{err_from_is_err_and}
use Rattle.sedacts.specs.Move.{to_sink, newline}
use Rattle.sedacts.proofs.Gains.{to_sink-append}
use Rattle.sedacts.proofs.Writing.{writes_first, writes_then}
use Rattle.sedacts.proofs.write.write_line.Goals as goal

pub returns-in_err-write_all : goal.returns-in_err-write_all
returns-in_err-write_all g c =
    let p = err_from_is_err_and c.from_residual.result c.from_residual.ensures.1 in
    rw (p.1, p.2, to_sink-append) (writes_first (to_sink c.args.sink c.args.bytes.now) (to_sink c.args.sink (newline ∷ [])) c.in_err-write_all.ensures)

pub returns-then-bytes-gt-SHORT : goal.returns-then-bytes-gt-SHORT
returns-then-bytes-gt-SHORT g c =
    rw to_sink-append (writes_then (to_sink c.args.sink c.args.bytes.now) (to_sink c.args.sink (newline ∷ [])) c.in_ok-write_all.ensures c.write_all-then-bytes-gt-SHORT.ensures)

first_left : (n : ℕ) → n ≤ 127 → take {A = ℕ} 1 (drop n (replicate 128 10)) ≡ 10 ∷ []
first_left n few = ap (take {A = ℕ} 1) (drop-replicate n 128 10) ∙ take-replicate 1 (128 - n) 10 (omega (arith, few))

ended : (bytes copied : List ℕ) → copied ≡ bytes → length bytes ≤ 127 → take (length bytes + 1) (copied ++ drop (length bytes) (replicate 128 10)) ≡ bytes ++ 10 ∷ []
ended bytes copied same few = rw same (take-append-add bytes (drop (length bytes) (replicate 128 10)) 1 ∙ ap (λ l. bytes ++ l) (first_left (length bytes) few))

pub returns : goal.returns
returns g c =
    let whole = ended c.args.bytes.now c.copy_from_slice.new.self c.copy_from_slice.ensures.after (omega arith) in
    rw whole at c.write_all-2.ensures
