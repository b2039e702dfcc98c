-- Scripts of as many opening braces as one likes and as many closing ones after them: what they mean.
use Rattle.std.proofs.Common.{◌≡◌, ℕ, zero, suc, ◌+◌, ◌-◌, ◌<◌, ◌≤◌, ◌==◌, Bool, true, false, List, [], ◌∷◌, ◌++◌, length, Some, None, Ok, refl, sym, ◌∙◌, ap, subst, length-append, arith}
use Rattle.std.specs.Prelude.{replicate, slice_get, take}
use Rattle.std.specs.List.{prefix_len}
use Rattle.std.specs.Str.{bytes_eq}
use Rattle.std.proofs.lemmas.Bool.{ne_eqb}
use Rattle.std.proofs.lemmas.Option.{slice_get_past}
use Rattle.std.proofs.lemmas.List.{length-replicate, drop_all}
use Rattle.sedre.specs.declared.types.Kind.{Kind}
use Rattle.sedscript.specs.declared.bytes.Sort.TheVariants.{Separator, Blank, Line}
use Rattle.sedscript.specs.declared.types.Action.TheVariants.{Block}
use Rattle.sedscript.specs.declared.types.Command.{Command}
use Rattle.sedscript.specs.declared.types.FileUse.TheVariants.{Read, Write}
use Rattle.sedscript.specs.declared.letters.Verb.TheVariants.{Close}
use Rattle.sedscript.specs.declared.items.Argument.TheVariants.{Nothing}
use Rattle.sedscript.specs.declared.items.ItemOrEnd.{ItemOrEnd}
use Rattle.sedscript.specs.declared.items.ItemOrEnd.TheVariants.{Is}
use Rattle.sedscript.specs.declared.items.Item.{Item}
use Rattle.sedscript.specs.Items.{Headed, address_at, addresses_at, addresses_of, with_bang, function_at, item_at, Reading, plainly}
use Rattle.sedscript.specs.Bytes.{past, belongs}
use Rattle.sedscript.specs.Script.{Gives, value, CutScript, done, next_item, IsEnd, Means, commands_of, is_quiet, substitutions_of, tables_of, texts_of, target_fault_in, files_in, block_end, close_in, commands_in}
use Rattle.sedscript.specs.Letters.{becomes_command}
use Rattle.sedscript.specs.Arguments.{may_end}
use Rattle.sedscript.specs.Program.{Program}
use Rattle.examples.proofs.ManyBracesExamples.{opening, openings, braces, stays, no_addresses, gives_opening}
use Rattle.examples.proofs.ScriptWords.{always}

-- a closing brace
abbrev closing : ℕ → Item
closing place = record { addresses = addresses_of None None; place = place; verb = Close; argument = Nothing }

-- so many of them, one after the other from a place on
abbrev closings : ℕ → ℕ → List Item
closings at zero = []
closings at (suc n) = closing at ∷ closings (at + 1) n

-- so many blocks, each within the one before it
abbrev pub blocks : ℕ → List ℕ
blocks n = braces n ++ replicate n 125

-- its items
abbrev items_of : ℕ → List Item
items_of n = openings 0 n ++ closings n n

-- ---- the bytes

opened_there : (n : ℕ) (rest : List ℕ) (k : ℕ) → k < n → slice_get (braces n ++ rest) k ≡ Some 123
opened_there zero rest k below = absurd (omega arith)
opened_there (suc n) rest zero below = refl
opened_there (suc n) rest (suc k) below = opened_there n rest k (omega arith)

closed_there : (m n k to : ℕ) → m ≤ k → k < to → m + n ≡ to → slice_get (braces m ++ replicate n 125) k ≡ Some 125
closed_there zero zero k to after before e = absurd (omega arith)
closed_there zero (suc n) zero to after before e = refl
closed_there zero (suc n) (suc k) to after before e = closed_there zero n k n (omega arith) (omega (arith, before, e)) (omega arith)
closed_there (suc m) n zero to after before e = absurd (omega arith)
closed_there (suc m) n (suc k) to after before e = closed_there m n k (m + n) (omega arith) (omega (arith, before, e)) (omega arith)

long : (n : ℕ) → length (blocks n) ≡ n + n
long n = omega (arith, length-append (braces n) (replicate n 125), length-replicate {A = ℕ} n 123, length-replicate {A = ℕ} n 125)

-- ---- the items

no_address : (text : List ℕ) (at : ℕ) → slice_get text at ≡ Some 125 → addresses_at text 0 at ≡ plainly (Ok (no_addresses at))
unfolding addresses_at address_at
no_address text at there = rw there refl

no_bang : (text : List ℕ) (at : ℕ) → slice_get text at ≡ Some 125 → with_bang text (no_addresses at) ≡ no_addresses at
no_bang text at there = rw (stays Blank 125 text at refl there, there) refl

closes : (text : List ℕ) (at : ℕ) → slice_get text at ≡ Some 125 → past Blank text (at + 1) ≡ at + 1 → may_end (slice_get text (at + 1)) ≡ true →
    function_at text 0 (addresses_of None None) at ≡ plainly (Ok (Is (closing at) (at + 1)))
unfolding function_at
closes text at there blank end = rw (there, blank, end) refl

closes_after : (text : List ℕ) (at : ℕ) (h : Headed) → h ≡ no_addresses at → function_at text 0 (addresses_of None None) at ≡ plainly (Ok (Is (closing at) (at + 1))) →
    function_at text 0 h.addresses h.at ≡ plainly (Ok (Is (closing at) (at + 1)))
closes_after text at h is so = subst (λ (x : Headed). function_at text 0 x.addresses x.at ≡ plainly (Ok (Is (closing at) (at + 1)))) (sym is) so

closes_at : (text : List ℕ) (at : ℕ) → slice_get text at ≡ Some 125 → past Blank text (at + 1) ≡ at + 1 → may_end (slice_get text (at + 1)) ≡ true →
    item_at text 0 at ≡ plainly (Ok (Is (closing at) (at + 1)))
unfolding item_at
closes_at text at there blank end =
    rw (stays Separator 125 text at refl there, there, no_address text at there) (closes_after text at _ (no_bang text at there) (closes text at there blank end))

-- what follows a closing brace: another one, or the end
blank_after : (text : List ℕ) (at : ℕ) → slice_get text at ≡ Some 125 → past Blank text at ≡ at
blank_after text at there = stays Blank 125 text at refl there

blank_at_end : (text : List ℕ) (at : ℕ) → length text ≤ at → past Blank text at ≡ at
unfolding past
blank_at_end text at after = rw (drop_all at text after) (omega arith)

module _ (kind : Kind) (most : ℕ) where
  gives_closing : (text : List ℕ) (at : ℕ) → slice_get text at ≡ Some 125 → past Blank text (at + 1) ≡ at + 1 → may_end (slice_get text (at + 1)) ≡ true →
      Gives text kind most (item_at text 0 at) [] (Is (closing at) (at + 1))
  gives_closing text at there blank end = subst (λ (r : Reading ItemOrEnd). Gives text kind most r [] (Is (closing at) (at + 1))) (sym (closes_at text at there blank end)) value

  cut_closings : (text : List ℕ) (n at to : ℕ) → at + n ≡ to → length text ≡ to → ((k : ℕ) → at ≤ k → k < to → slice_get text k ≡ Some 125) →
      CutScript text kind most 0 at (closings at n) [] to
  cut_closings text zero at to e len each = subst (CutScript text kind most 0 at [] []) (omega (arith, e)) done
  cut_closings text (suc zero) at to e len each =
      next_item [] []
      (gives_closing text at (each at (omega arith) (omega (arith, e))) (blank_at_end text (at + 1) (omega (arith, e, len)))
      (ap may_end (slice_get_past text (at + 1) (omega (arith, e, len)))))
      (cut_closings text zero (at + 1) to (omega (arith, e)) len (λ k from before. each k (omega (arith, from)) before))
  cut_closings text (suc (suc n)) at to e len each =
      let next : slice_get text (at + 1) ≡ Some 125 = each (at + 1) (omega arith) (omega (arith, e)) in
      next_item [] []
      (gives_closing text at (each at (omega arith) (omega (arith, e))) (blank_after text (at + 1) next) (ap may_end next))
      (cut_closings text (suc n) (at + 1) to (omega (arith, e)) len (λ k from before. each k (omega (arith, from)) before))

  cut_openings : (text : List ℕ) (n at to end : ℕ) (is : List Item) → at + n ≡ to → ((k : ℕ) → k < to → slice_get text k ≡ Some 123) → CutScript text kind most 0 to is [] end →
      CutScript text kind most 0 at (openings at n ++ is) [] end
  cut_openings text zero at to end is e each rest = subst (λ (x : ℕ). CutScript text kind most 0 x is [] end) (omega (arith, e)) rest
  cut_openings text (suc n) at to end is e each rest =
      next_item [] [] (gives_opening kind most text at (each at (omega (arith, e)))) (cut_openings text n (at + 1) to end is (omega (arith, e)) each rest)

  cut_blocks : (n : ℕ) → CutScript (blocks n) kind most 0 0 (items_of n) [] (n + n)
  cut_blocks n =
      cut_openings (blocks n) n 0 n (n + n) (closings n n) (omega arith) (opened_there n (replicate n 125))
      (cut_closings (blocks n) n n (n + n) refl (long n) (λ k from before. closed_there n n k (n + n) from before refl))

-- ---- the blocks

close_opens : (k depth m d c at : ℕ) (rest : List Item) → depth + k ≡ d → m + k ≡ c → close_in depth m (openings at k ++ rest) ≡ close_in d c rest
close_opens zero depth m d c at rest e f =
    let a : depth ≡ d = omega (arith, e) in
    let b : m ≡ c = omega (arith, f) in
    cc
close_opens (suc k) depth m d c at rest e f = close_opens k (suc depth) (suc m) d c (at + 1) rest (omega (arith, e)) (omega (arith, f))

close_closes : (n depth m at : ℕ) → depth < n → close_in depth m (closings at n) ≡ Some m
close_closes zero depth m at below = absurd (omega arith)
close_closes (suc n) zero m at below = refl
close_closes (suc n) (suc depth) m at below =
    let some : (suc depth == 0) ≡ false = ne_eqb (suc depth) 0 (λ none. omega (arith, none)) in
    let less : suc depth - 1 ≡ depth = omega arith in
    rw (some, less) (close_closes n depth m (at + 1) (omega arith))

-- each block ends after the last of them
ends_behind : (before : List Item) (k n c at to : ℕ) → k < n → suc (commands_in before) + k ≡ c → block_end before (openings at k ++ closings to n) ≡ Some c
ends_behind before k n c at to below e = close_opens k 0 (suc (commands_in before)) k c at (closings to n) (omega arith) e ∙ close_closes n k c to below

closings_well : (text : List ℕ) (all before : List Item) (n depth at : ℕ) → n ≤ depth → target_fault_in text all before depth (closings at n) ≡ None
closings_well text all before zero depth at fits = refl
closings_well text all before (suc n) zero at fits = absurd (omega arith)
closings_well text all before (suc n) (suc depth) at fits =
    let some : (suc depth == 0) ≡ false = ne_eqb (suc depth) 0 (λ none. omega (arith, none)) in
    let less : suc depth - 1 ≡ depth = omega arith in
    rw (some, less) (closings_well text all (before ++ closing at ∷ []) n depth (at + 1) (omega arith))

blocks_well : (text : List ℕ) (all before : List Item) (k n depth at to : ℕ) → depth + k ≡ n → target_fault_in text all before depth (openings at k ++ closings to n) ≡ None
blocks_well text all before zero n depth at to e = closings_well text all before n depth to (omega (arith, e))
blocks_well text all before (suc k) n depth at to e =
    rw (ends_behind before k n (suc (commands_in before) + k) (at + 1) to (omega (arith, e)) refl)
    (blocks_well text all (before ++ opening at ∷ []) k n (suc depth) (at + 1) to (omega (arith, e)))

-- ---- the commands

commands-snoc : (before : List Item) (at : ℕ) → commands_in (before ++ opening at ∷ []) ≡ suc (commands_in before)
commands-snoc [] at = refl
commands-snoc (i ∷ is) at = by_kind (becomes_command i.verb) refl (commands-snoc is at)
  where
    by_kind : (b : Bool) → becomes_command i.verb ≡ b → commands_in (is ++ opening at ∷ []) ≡ suc (commands_in is) → commands_in (i ∷ is ++ opening at ∷ []) ≡ suc (commands_in (i ∷ is))
    by_kind true e h = rw e (ap suc h)
    by_kind false e h = rw e h

no_commands : (text : List ℕ) (all before : List Item) (n at : ℕ) → commands_of text all before (closings at n) ≡ []
no_commands text all before zero at = refl
no_commands text all before (suc n) at = no_commands text all (before ++ closing at ∷ []) n (at + 1)

commands_are : (text : List ℕ) (all before : List Item) (k n c at to : ℕ) → k ≤ n → commands_in before + k ≡ c →
    commands_of text all before (openings at k ++ closings to n) ≡ replicate k (always (Block c))
commands_are text all before zero n c at to fits e = no_commands text all before n to
commands_are text all before (suc k) n c at to fits e =
    rw (ends_behind before k n c (at + 1) to fits (omega (arith, e)))
    (ap (λ (rest : List Command). always (Block c) ∷ rest)
    (commands_are text all (before ++ opening at ∷ []) k n c (at + 1) to (omega arith) (omega (arith, e, commands-snoc before at))))

-- ---- what else the script has

no_texts : (text : List ℕ) (k n at to : ℕ) → texts_of text (openings at k ++ closings to n) ≡ []
no_texts text zero zero at to = refl
no_texts text zero (suc n) at to = no_texts text zero n at (to + 1)
no_texts text (suc k) n at to = no_texts text k n (at + 1) to

no_substitutions : (text : List ℕ) (all : List Item) (k n at to : ℕ) → substitutions_of text all (openings at k ++ closings to n) ≡ []
no_substitutions text all zero zero at to = refl
no_substitutions text all zero (suc n) at to = no_substitutions text all zero n at (to + 1)
no_substitutions text all (suc k) n at to = no_substitutions text all k n (at + 1) to

no_tables : (text : List ℕ) (k n at to : ℕ) → tables_of text (openings at k ++ closings to n) ≡ []
no_tables text zero zero at to = refl
no_tables text zero (suc n) at to = no_tables text zero n at (to + 1)
no_tables text (suc k) n at to = no_tables text k n (at + 1) to

no_read : (text : List ℕ) (k n at to : ℕ) → files_in Read text (openings at k ++ closings to n) ≡ []
no_read text zero zero at to = refl
no_read text zero (suc n) at to = no_read text zero n at (to + 1)
no_read text (suc k) n at to = no_read text k n (at + 1) to

no_written : (text : List ℕ) (k n at to : ℕ) → files_in Write text (openings at k ++ closings to n) ≡ []
no_written text zero zero at to = refl
no_written text zero (suc n) at to = no_written text zero n at (to + 1)
no_written text (suc k) n at to = no_written text k n (at + 1) to

not_quiet : (bs : List ℕ) → is_quiet (123 ∷ bs) ≡ false
not_quiet bs = starts (prefix_len (belongs Line) bs)
  where
    starts : (n : ℕ) → bytes_eq (take (1 + n) (123 ∷ bs)) (35 ∷ 110 ∷ []) ≡ false
    starts n = let more : 1 + n ≡ suc n = omega arith in rw more refl

blocks_not_quiet : (n : ℕ) → is_quiet (blocks n) ≡ false
blocks_not_quiet zero = refl
blocks_not_quiet (suc n) = not_quiet (braces n ++ replicate (suc n) 125)

-- so many commands, each of which ends after the last one
abbrev pub program : (most n : ℕ) → Program
program most n = record {
  commands = replicate n (always (Block n));
  expressions = [];
  texts = [];
  substitutions = [];
  tables = [];
  rfiles = [];
  wfiles = [];
  quiet = false;
  max_nodes = most;
}

at_end : (n : ℕ) → IsEnd (blocks n) (n + n)
unfolding past
at_end n = slice_get_past (blocks n) _ (omega (arith, long n))

pub means : (kind : Kind) (most n : ℕ) → Means (blocks n) kind most (program most n)
means kind most n = record {
  items = items_of n;
  to = n + n;
  judged = record { cut = cut_blocks kind most n; ends = at_end n; settled = blocks_well (blocks n) (items_of n) [] n n 0 0 n (omega arith) };
  commands = sym (commands_are (blocks n) (items_of n) [] n n n 0 n (omega arith) (omega arith));
  texts = sym (no_texts (blocks n) n n 0 n);
  substitutions = sym (no_substitutions (blocks n) (items_of n) n n 0 n);
  tables = sym (no_tables (blocks n) n n 0 n);
  rfiles = sym (no_read (blocks n) n n 0 n);
  wfiles = sym (no_written (blocks n) n n 0 n);
  quiet = sym (blocks_not_quiet n);
  nodes = refl;
}
