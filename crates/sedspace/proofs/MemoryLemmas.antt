-- Reading from memory.
use Rattle.std.proofs.Common.{◌≡◌, ◌+◌, ℕ, List, ◌++◌, length, take, drop, sym, ◌∙◌, take-append-drop}
use Rattle.std.proofs.lemmas.List.{drop-drop, take_at}

-- what a read places is what the source loses
pub read_front : (bytes front rest : List ℕ) (taken count : ℕ) → front ≡ take count (drop taken bytes) → length front ≡ count → drop taken bytes ≡ take count (front ++ rest) ++ drop (taken + count) bytes
read_front bytes front rest taken count placed size =
    let here : take count (front ++ rest) ≡ take count (drop taken bytes) = take_at front rest count size ∙ placed in
    let after : drop count (drop taken bytes) ≡ drop (taken + count) bytes = drop-drop count taken bytes in
    rw (here, ← after) (sym (take-append-drop count (drop taken bytes)))
