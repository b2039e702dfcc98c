-- The table of blocks.
use Rattle.std.proofs.Common.{◌≡◌, ℕ, zero, suc, ◌+◌, ◌-◌, ◌≤◌, ◌&&◌, ◌==◌, Bool, true, false, List, [], ◌∷◌, ◌++◌, length, take, drop, reverse, Option, Some, None, refl, sym, ap, ◌∙◌, arith, inl, inr, unwrap_or, if◌then◌else◌, slice_get, drop_of_length-le, MatchOption, option_to_list}
use Rattle.std.proofs.lemmas.Grind.{reverse_onto}
use Rattle.std.proofs.lemmas.List.{reverse-append, reverse-reverse}
use Rattle.sedscript.proofs.Labels.{take_item, drop_item, counted_in, one_each}
use Rattle.std.proofs.lemmas.Bool.Decides.{eqb_tells}
use Rattle.sedscript.specs.declared.items.Item.{Item}
use Rattle.sedscript.specs.Types.{Verb}
use Rattle.sedscript.specs.declared.letters.Verb.TheVariants.{Open, Close}
use Rattle.sedscript.specs.Script.{count_with, commands_in, close_in, depth_after, block_end}
use Rattle.sedscript.specs.Letters.{is_open, is_close, becomes_command}
use Rattle.sedscript.specs.Tables.{unopened, unopened_by, opened, blocks_in, with_end, ends_in, EndIs}

after_first : (us : List ℕ) (d : ℕ) → slice_get us (suc d) ≡ slice_get (drop 1 us) d
after_first [] d = refl
after_first (u ∷ us) d = refl

not_zero : (d : ℕ) → (suc d == 0) ≡ false
not_zero d = elim (eqb_tells (suc d) 0) [ inl h ↦ absurd (omega (arith, h.1)) | inr h ↦ h.0 ]

close_step : (f : Verb) (d n : ℕ) (us : List ℕ) (c : ℕ → Option ℕ) → ((e : ℕ) → c e ≡ slice_get us e) →
    (if is_close f && d == 0 then Some n else c (depth_after d f)) ≡ slice_get (unopened_by n f us) d
close_step Close zero n us c h = refl
close_step Close (suc d) n us c h = let e : suc d - 1 ≡ d = omega arith in rw e (rw (not_zero d) (h d))
close_step Open d n us c h = h (suc d) ∙ after_first us d
close_step f d n us c h = h d

-- a closing brace after so many inner ones is found in the list of those that close no block
pub close_is : (d n : ℕ) (is : List Item) → close_in d n is ≡ slice_get (unopened n is) d
close_is d n [] = refl
close_is d n (i ∷ is) = close_step i.verb d n (unopened (count_with n i) is) (λ (e : ℕ). close_in e (count_with n i) is) (λ e. close_is e (count_with n i) is)

-- the stack one item further back
pub unopened_step : (items : List Item) (k n next : ℕ) (i : Item) → slice_get items k ≡ Some i → n ≡ count_with next i →
    unopened_by next i.verb (unopened n (drop (k + 1) items)) ≡ unopened next (drop k items)
unopened_step items k n next i at e =
    ap (λ (m : ℕ). unopened_by next i.verb (unopened m (drop (k + 1) items))) e ∙ sym (ap (unopened next) (drop_item items k i at))

pub none_after : (items : List Item) (n : ℕ) → [] ≡ reverse (unopened n (drop (length items) items))
none_after items n = let e : drop (length items) items ≡ [] = drop_of_length-le items (omega arith) in rw e refl

-- what was taken from a stack is the first in the list that it has in reverse
pub popped_top : (us old new : List ℕ) (n left : ℕ) (o : Option ℕ) → old ≡ reverse us → old ≡ new ++ option_to_list o → n ≡ length old →
    MatchOption o ((n ≡ 0) × (left ≡ 0)) (λ x. left + 1 ≡ n) → o ≡ slice_get us 0
popped_top us old new n left None e f long cases =
    let short : length old ≤ 0 = omega (arith, long, cases.0) in
    let none : old ≡ [] = drop_of_length-le old short in
    let nothing : us ≡ [] = sym (reverse-reverse us) ∙ ap reverse (sym e ∙ none) in
    rw nothing refl
popped_top us old new n left (Some x) e f long cases =
    let turned : us ≡ x ∷ reverse new = sym (reverse-reverse us) ∙ (ap reverse (sym e ∙ f) ∙ reverse-append new (x ∷ [])) in
    rw turned refl

-- the end of one block more
pub end_pushed : (us : List ℕ) (es old new : List (Option ℕ)) (f : Verb) (end : Option ℕ) → is_open f ≡ true → end ≡ slice_get us 0 → old ≡ reverse es → new ≡ old ++ end ∷ [] →
    new ≡ reverse (with_end f (slice_get us 0) es)
end_pushed us es old new f end opens top are grown =
    rw opens (grown ∙ (ap (λ (z : List (Option ℕ)). z ++ end ∷ []) are ∙ (ap (λ (o : Option ℕ). reverse es ++ o ∷ []) top ∙ sym (reverse_onto es (slice_get us 0) []))))

-- the table one item further back
pub ends_step : (items : List Item) (k n next : ℕ) (i : Item) → slice_get items k ≡ Some i → n ≡ count_with next i →
    with_end i.verb (slice_get (unopened n (drop (k + 1) items)) 0) (ends_in n (drop (k + 1) items)) ≡ ends_in next (drop k items)
ends_step items k n next i at e =
    ap (λ (o : Option ℕ). with_end i.verb o (ends_in n (drop (k + 1) items))) (sym (close_is 0 n (drop (k + 1) items)))
    ∙ (ap (λ (m : ℕ). with_end i.verb (close_in 0 m (drop (k + 1) items)) (ends_in m (drop (k + 1) items))) e
    ∙ sym (ap (ends_in next) (drop_item items k i at)))

open_first : (f : Verb) (n : ℕ) (is : List Item) → f ≡ Open →
    slice_get (with_end f (close_in 0 (if becomes_command f then suc n else n) is) (ends_in (if becomes_command f then suc n else n) is)) 0 ≡ Some (close_in 0 (suc n) is)
open_first f n is e = rw e refl

skip_end : (b : Bool) (x : Option ℕ) (es : List (Option ℕ)) (m : ℕ) → slice_get (if b then x ∷ es else es) (if b then suc m else m) ≡ slice_get es m
skip_end true x es m = refl
skip_end false x es m = refl

-- what the table says of an item that opens a block
end_after : (items : List Item) (k n : ℕ) (i : Item) → slice_get items k ≡ Some i → i.verb ≡ Open →
    slice_get (ends_in n items) (blocks_in (take k items)) ≡ Some (close_in 0 (suc (n + commands_in (take k items))) (drop (suc k) items))
end_after [] k n i at opens = let h : ◌≡◌ {A = Option Item} None (Some i) = at in cc
end_after (j ∷ items) zero n i at opens =
    let same : j ≡ i = cc in
    let more : n ≡ n + 0 = omega arith in
    open_first j.verb n items (ap (λ (x : Item). x.verb) same ∙ opens) ∙ ap (λ (m : ℕ). Some (close_in 0 (suc m) items)) more
end_after (j ∷ items) (suc k) n i at opens =
    skip_end (is_open j.verb) (close_in 0 (count_with n j) items) (ends_in (count_with n j) items) (blocks_in (take k items))
    ∙ (end_after items k (count_with n j) i at opens ∙ ap (λ (m : ℕ). Some (close_in 0 (suc m) (drop (suc k) items))) (counted_in n j (take k items)))

end_found : (items : List Item) (ends : List (Option ℕ)) (k : ℕ) (i : Item) → ends ≡ ends_in 0 items → slice_get items k ≡ Some i → i.verb ≡ Open →
    slice_get ends (blocks_in (take k items)) ≡ Some (block_end (take k items) (drop (k + 1) items))
end_found items ends k i are at opens =
    let one : suc k ≡ k + 1 = omega arith in
    let none : 0 + commands_in (take k items) ≡ commands_in (take k items) = omega arith in
    ap (λ (es : List (Option ℕ)). slice_get es (blocks_in (take k items))) are ∙ (end_after items k 0 i at opens
    ∙ (ap (λ (m : ℕ). Some (close_in 0 (suc m) (drop (suc k) items))) none
    ∙ ap (λ (m : ℕ). Some (close_in 0 (suc (commands_in (take k items))) (drop m items))) one))

the_brace : (f : Verb) → is_open f ≡ true → f ≡ Open
the_brace Open e = refl
the_brace f e = cc

pub end_known : (items : List Item) (ends : List (Option ℕ)) (k blocks : ℕ) (i : Item) (end : Option ℕ) → ends ≡ ends_in 0 items → slice_get items k ≡ Some i →
    blocks ≡ blocks_in (take k items) → end ≡ unwrap_or (slice_get ends blocks) None → EndIs (take k items) (drop (k + 1) items) i.verb end
end_known items ends k blocks i end are at counted read = λ opens.
    read ∙ ap (λ (o : Option (Option ℕ)). unwrap_or o None) (ap (slice_get ends) counted ∙ end_found items ends k i are at (the_brace i.verb opens))

-- how many blocks are opened up to an item
blocks_snoc : (is : List Item) (i : Item) → blocks_in (is ++ i ∷ []) ≡ opened (blocks_in is) i.verb
blocks_snoc [] i = refl
blocks_snoc (j ∷ is) i = one_each (is_open j.verb) (is_open i.verb) (blocks_in (is ++ i ∷ [])) (blocks_in is) (blocks_snoc is i)

pub blocks_step : (items : List Item) (k n next : ℕ) (i : Item) → slice_get items k ≡ Some i → n ≡ blocks_in (take k items) → next ≡ opened n i.verb →
    next ≡ blocks_in (take (k + 1) items)
blocks_step items k n next i at e f =
    f ∙ (ap (λ (m : ℕ). opened m i.verb) e ∙ (sym (blocks_snoc (take k items) i) ∙ ap blocks_in (sym (take_item items k i at))))
