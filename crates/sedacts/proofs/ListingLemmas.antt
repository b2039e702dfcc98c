-- The listing, item by item and part by part.
use Rattle.std.proofs.Common.{◌≡◌, ℕ, ◌+◌, ◌-◌, ◌<◌, ◌≤◌, true, nat_lt, if◌then◌else◌, List, [], ◌∷◌, ◌++◌, get_or, length, take, drop, Result, Err, sym, ap, subst, ◌∙◌, append_assoc, append-nil, arith}
use Rattle.std.proofs.lemmas.Bool.Decides.{nat_tests}
use Rattle.std.proofs.lemmas.List.{length-take, take-append-drop, take-take, take_more}
use Rattle.std.proofs.lemmas.Grind.{common_steps}
use Rattle.sedacts.specs.Move.{to_sink}
use Rattle.sedacts.specs.Meters.{WereSent, SinkView}
use Rattle.sedacts.specs.Calls.{PutsBytes}
use Rattle.sedacts.specs.Listing.{listed_byte, listed, listed_from, most_listed}
use Rattle.sedacts.specs.ListingParts.{Listing, AreListedPlain, Lists, WrittenInPart, plain, with_run}
use Rattle.sedacts.specs.declared.ends.Ended.{Ended}
use Rattle.sedacts.proofs.Sending.{WereSent-append, WereSent-none}
use Rattle.sedacts.proofs.Gains.{to_sink-append}
use Rattle.sedacts.proofs.Writing.{PutsBytes-left, PutsBytes-append}

-- a plain byte is its own item
pub plain_is : (b : ℕ) → plain b ≡ true → listed_byte b ≡ b ∷ []
plain_is b h = grind (arith, nat_tests)

ArePlain-append : (xs ys : List ℕ) → AreListedPlain xs → AreListedPlain ys → AreListedPlain (xs ++ ys)
ArePlain-append [] ys p q = q
ArePlain-append (x ∷ xs) ys p q = (p.0, ArePlain-append xs ys p.1 q)

-- one more plain byte
pub plain_more : (bytes : List ℕ) (i : ℕ) → i < length bytes → AreListedPlain (take i bytes) → plain (get_or bytes i 0) ≡ true → AreListedPlain (take (i + 1) bytes)
plain_more bytes i h p q =
    let more : take (i + 1) bytes ≡ take i bytes ++ get_or bytes i 0 ∷ [] = take_more bytes i 0 h in
    subst AreListedPlain (sym more) (ArePlain-append (take i bytes) (get_or bytes i 0 ∷ []) p (plain_is (get_or bytes i 0) q, tt))

-- what the definition makes of an item
abbrev after_item : ℕ → List ℕ → List ℕ → List ℕ
after_item column rest i =
    if nat_lt most_listed (column + length i)
    then 92 ∷ 10 ∷ i ++ listed_from (length i) rest
    else i ++ listed_from (column + length i) rest

-- an item that needs no fold
no_fold : (column : ℕ) (i rest : List ℕ) → column + length i ≤ 69 → after_item column rest i ≡ i ++ listed_from (column + length i) rest
no_fold column i rest h = grind (arith, nat_tests)

run_from : (column : ℕ) (run rest : List ℕ) → AreListedPlain run → column + length run ≤ 69 → listed_from column (run ++ rest) ≡ run ++ listed_from (column + length run) rest
run_from column [] rest p h = let e : column + 0 ≡ column = omega arith in rw e
run_from column (b ∷ bs) rest p h =
    let first : after_item column (bs ++ rest) (listed_byte b) ≡ after_item column (bs ++ rest) (b ∷ []) = ap (after_item column (bs ++ rest)) p.0 in
    let here = no_fold column (b ∷ []) (bs ++ rest) (omega arith) in
    let more = run_from (column + 1) bs rest p.1 (omega arith) in
    let same : (column + 1) + length bs ≡ column + length (b ∷ bs) = omega arith in
    first ∙ here ∙ ap (λ l. b ∷ l) (more ∙ ap (λ n. bs ++ listed_from n rest) same)

-- plain bytes that need no fold
lists_run : (l : Listing) (run : List ℕ) → AreListedPlain run → l.column + length run ≤ 69 → Lists l run (with_run l run)
lists_run l run p h = λ rest. ap (λ t. l.bytes ++ t) (run_from l.column run rest p h) ∙ sym (append_assoc l.bytes run (listed_from (l.column + length run) rest))

-- a run of plain bytes found among the first of a part
pub lists_found : (l : Listing) (part : List ℕ) (run most column : ℕ) → column ≡ l.column → column ≤ 69 → most ≤ 69 - column →
    run ≤ length (take most part) → AreListedPlain (take run (take most part)) → Lists l (take run part) (with_run l (take run part))
lists_found l part run most column same bound short within p =
    let less : run ≤ most = omega (arith, length-take {A = ℕ}) in
    let taken : take run (take most part) ≡ take run part = take-take run most part less in
    let fits : l.column + length (take run part) ≤ 69 = omega (arith, length-take {A = ℕ}) in
    lists_run l (take run part) (subst AreListedPlain taken p) fits

-- what a slice from a place holds
all_after : (n : ℕ) (xs : List ℕ) → take (length xs - n) (drop n xs) ≡ drop n xs
all_after n xs = grind (arith, common_steps)

-- one part after another
pub lists_more : (old mid new : Listing) (part : List ℕ) (n : ℕ) (whole : List ℕ) →
    ((rest : List ℕ) → old.bytes ++ listed_from old.column (whole ++ rest) ≡ mid.bytes ++ listed_from mid.column (part ++ rest)) →
    Lists mid (take n part) new →
    (rest : List ℕ) → old.bytes ++ listed_from old.column (whole ++ rest)
    ≡ new.bytes ++ listed_from new.column (take (length part - n) (drop n part) ++ rest)
lists_more old mid new part n whole h s = λ rest.
    let after = take (length part - n) (drop n part) in
    let split : part ++ rest ≡ take n part ++ (after ++ rest) =
    ap (λ l. l ++ rest) (sym (take-append-drop n part) ∙ ap (λ l. take n part ++ l) (sym (all_after n part)))
    ∙ append_assoc (take n part) after rest in
    h rest ∙ ap (λ l. mid.bytes ++ listed_from mid.column l) split ∙ s (after ++ rest)

-- what is still to be written when a part was listed
due : (g l : Listing) (rest part after : List ℕ) → g.bytes ≡ [] → rest ≡ part ++ after → Lists g part l →
    listed_from g.column rest ≡ l.bytes ++ listed_from l.column after
due g l rest part after empty is s =
    ap (listed_from g.column) is ∙ ap (λ t. t ++ listed_from g.column (part ++ after)) (sym empty) ∙ s after

-- a part was written
pub written_more : (old mid new : SinkView) (bytes rest part after : List ℕ) (g l : Listing) →
    WrittenInPart old mid bytes rest g.column → g.bytes ≡ [] → rest ≡ part ++ after → Lists g part l →
    WereSent mid new (to_sink 0 l.bytes) → WrittenInPart old new bytes after l.column
written_more old mid new bytes rest part after g l w empty is s gained = record {
  beginning = w.beginning ++ l.bytes;
  sinks = rw to_sink-append (WereSent-append w.sinks gained);
  whole = append_assoc w.beginning l.bytes _ ∙ ap (λ t. w.beginning ++ t) (sym (due g l rest part after empty is s)) ∙ w.whole;
}

-- a part was not written
pub written_not : (old mid new : SinkView) (bytes rest part after : List ℕ) (g l : Listing) (end : Ended) →
    WrittenInPart old mid bytes rest g.column → g.bytes ≡ [] → rest ≡ part ++ after → Lists g part l →
    PutsBytes mid new (to_sink 0 l.bytes) (Err end) → PutsBytes old new (to_sink 0 (listed bytes)) (Err end)
written_not old mid new bytes rest part after g l end w empty is s p =
    let tail = listed_from l.column after in
    let whole : to_sink 0 (listed bytes) ≡ to_sink 0 w.beginning ++ (to_sink 0 l.bytes ++ to_sink 0 tail) =
    ap (to_sink 0) (sym w.whole ∙ ap (λ t. w.beginning ++ t) (due g l rest part after empty is s))
    ∙ to_sink-append 0 w.beginning (l.bytes ++ tail) ∙ ap (λ t. to_sink 0 w.beginning ++ t) (to_sink-append 0 l.bytes tail) in
    let left = PutsBytes-left mid new (to_sink 0 l.bytes) (to_sink 0 tail) end p in
    let all = PutsBytes-append old mid new (to_sink 0 w.beginning) (to_sink 0 l.bytes ++ to_sink 0 tail) (Err end) w.sinks left in
    subst (λ (out : List (ℕ × ℕ)). PutsBytes old new out (Err end)) (sym whole) all

-- the last part, with the end of the listing
pub written_end : (old mid new : SinkView) (bytes rest : List ℕ) (g l : Listing) (r : Result Unit Ended) →
    WrittenInPart old mid bytes rest g.column → g.bytes ≡ [] → Lists g rest l →
    PutsBytes mid new (to_sink 0 (l.bytes ++ 36 ∷ 10 ∷ [])) r → PutsBytes old new (to_sink 0 (listed bytes)) r
written_end old mid new bytes rest g l r w empty s p =
    let out = l.bytes ++ 36 ∷ 10 ∷ [] in
    let last : listed_from g.column rest ≡ out = due g l rest rest [] empty (sym (append-nil rest)) s in
    let whole : to_sink 0 (listed bytes) ≡ to_sink 0 w.beginning ++ to_sink 0 out =
    ap (to_sink 0) (sym w.whole ∙ ap (λ t. w.beginning ++ t) last) ∙ to_sink-append 0 w.beginning out in
    subst (λ (out : List (ℕ × ℕ)). PutsBytes old new out r) (sym whole)
    (PutsBytes-append old mid new (to_sink 0 w.beginning) (to_sink 0 out) r w.sinks p)

-- nothing was written yet
pub written_none : (old : SinkView) (bytes : List ℕ) (column : ℕ) → column ≡ 0 → WrittenInPart old old bytes bytes column
unfolding listed
written_none old bytes column e = record {
  beginning = [];
  sinks = WereSent-none old;
  whole = ap (λ n. listed_from n bytes) e;
}
