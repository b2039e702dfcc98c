-- Commands whose addresses are numbers, as they are read.
use Rattle.std.proofs.Common.{◌≡◌, ℕ, zero, suc, ◌+◌, ◌-◌, ◌*◌, ◌/◌, ◌%◌, ◌^◌, ◌<◌, ◌≤◌, List, [], ◌∷◌, ◌++◌, length, length-append, take, drop, drop-drop, Bool, false, true, Option, None, Some, Ok, refl, sym, ap, ap₂, subst, ◌∙◌, add-zero, arith}
use Rattle.std.specs.Prelude.{cond, decimal, slice_get, nat_lt, ◌==◌}
use Rattle.std.specs.Str.{bytes_eq}
use Rattle.std.specs.List.{list_all, prefix_len}
use Rattle.std.proofs.lemmas.Fmt.{decimal_by_steps}
use Rattle.std.proofs.lemmas.List.Sums.{fold-append}
use Rattle.std.proofs.lemmas.List.Folds.{list_all-append}
use Rattle.std.proofs.Math.Seq.{drop-append_seam, take-append_seam}
use Rattle.std.proofs.lemmas.Bool.Decides.{nat_tests}
use Rattle.sedscript.specs.declared.bytes.Sort.TheVariants.{Blank, Separator, Digit, Line as in_line}
use Rattle.sedscript.specs.declared.types.Address.TheVariants.{Line}
use Rattle.sedscript.specs.Items.{address_found, address_at, addresses_at, addresses_of, after_first, with_addresses, second_at, with_bang, with_second, function_at, item_at, plainly, ◌>>=◌, function_after, item_with, item_of}
use Rattle.sedscript.specs.Bytes.{past, is_digit, is_blank, bytes_between, with_digit, belongs, with_digits}
use Rattle.sedscript.specs.declared.bytes.Sort.{Sort}
use Rattle.sedscript.specs.declared.types.Address.{Address}
use Rattle.sedscript.specs.declared.items.ItemOrEnd.TheVariants.{Is}
use Rattle.sedscript.specs.declared.items.Item.{Item}
use Rattle.sedscript.specs.declared.letters.Verb.TheVariants.{Plain}
use Rattle.sedscript.specs.declared.items.Argument.TheVariants.{Nothing}
use Rattle.sedscript.specs.declared.types.Simple.{Simple}
use Rattle.sedscript.specs.declared.types.Simple.TheVariants.{Quit, Delete}
use Rattle.sedscript.specs.Script.{IsEnd, Means, next_item, done, is_quiet, Gives, value, target_fault}
use Rattle.sedscript.specs.Arguments.{to_command_end}
use Rattle.sedre.specs.Tree.{WrittenExpression}
use Rattle.sedre.specs.declared.types.Kind.TheVariants.{Basic}
use Rattle.sedscript.specs.declared.items.Argument.{Argument}
use Rattle.examples.proofs.ComputedScript.{program_of}
use Rattle.sedscript.specs.declared.types.Action.TheVariants as action
use Rattle.sedscript.specs.declared.types.Simple.TheVariants as simple
use Rattle.examples.proofs.ScriptWords.{at, from_to}
use Rattle.examples.proofs.ComputedEnds.{both}
use Rattle.scripts.proofs.Meanings.{of_commands}

-- digits that write a number
pub record WritesNumber (ds : List ℕ) (n : ℕ) : Type 0 where
  pub each : list_all is_digit ds ≡ true
  pub some : 0 < length ds
  pub value : with_digits (Some 0) ds ≡ Some n

abbrev ByDigits : ℕ → List ℕ → Type 0
ByDigits n ds = (list_all is_digit ds ≡ true) × (0 < length ds) × (n < 2 ^ 64 → with_digits (Some 0) ds ≡ Some n)

digit_is : (n : ℕ) → n < 10 → is_digit (48 + n) ≡ true
digit_is n h = grind (arith, nat_tests)

more_digits : (m d n : ℕ) → m * 10 + d ≡ n → n < 2 ^ 64 → with_digit (Some m) (48 + d) ≡ Some n
more_digits m d n e h =
    let same : m * 10 + (48 + d - 48) ≡ n = omega (arith, e) in
    let small : nat_lt n (2 ^ 64) ≡ true = grind (arith, nat_tests) in
    rw (same, small) refl

first_digit : (n : ℕ) → n < 10 → ByDigits n ((48 + n) ∷ [])
first_digit n h = (rw (digit_is n h) refl, omega arith, λ small. more_digits 0 n n (omega arith) small)

next_digit : (n : ℕ) (ds : List ℕ) → 10 ≤ n → ByDigits (n / 10) ds → ByDigits n (ds ++ ((48 + n % 10) ∷ []))
next_digit n ds h so =
    let low : n % 10 < 10 = omega arith in
    let split : n / 10 * 10 + n % 10 ≡ n = omega arith in
    let last : is_digit (48 + n % 10) ≡ true = digit_is (n % 10) low in (
      rw (list_all-append, so.0, last) refl,
      omega (arith, length-append ds ((48 + n % 10) ∷ [])),
      λ small. fold-append with_digit (Some 0) ds ((48 + n % 10) ∷ []) ∙ ap (λ o. with_digit o (48 + n % 10)) (so.2 (omega arith)) ∙ more_digits (n / 10) (n % 10) n split small,
    )

pub decimal_writes : (n : ℕ) → n < 2 ^ 64 → WritesNumber (decimal n) n
decimal_writes n h =
    let so = decimal_by_steps ByDigits first_digit next_digit n h in
    record { each = so.0; some = so.1; value = so.2 h }

-- ---- places of a text

pub byte_there : (text : List ℕ) (at b : ℕ) (rest : List ℕ) → drop at text ≡ b ∷ rest → slice_get text at ≡ Some b
byte_there [] zero b rest e = absurd cc
byte_there [] (suc at) b rest e = absurd cc
byte_there (x ∷ text) zero b rest e = cc
byte_there (x ∷ text) (suc at) b rest e = byte_there text at b rest e

pub end_there : (text : List ℕ) (at : ℕ) → drop at text ≡ [] → slice_get text at ≡ None
end_there [] zero e = refl
end_there [] (suc at) e = refl
end_there (x ∷ text) zero e = absurd cc
end_there (x ∷ text) (suc at) e = end_there text at e

pub drop_on : (text : List ℕ) (at : ℕ) (front rest : List ℕ) → drop at text ≡ front ++ rest → drop (at + length front) text ≡ rest
drop_on text at front rest e = sym (drop-drop (length front) at text) ∙ ap (drop (length front)) e ∙ drop-append_seam front rest

digits_passed : (ds : List ℕ) (b : ℕ) (rest : List ℕ) → list_all is_digit ds ≡ true → is_digit b ≡ false → prefix_len is_digit (ds ++ b ∷ rest) ≡ length ds
digits_passed [] b rest e f = rw f refl
digits_passed (d ∷ ds) b rest e f =
    let each = both (is_digit d) (list_all is_digit ds) e in
    let n : 1 + length ds ≡ suc (length ds) = omega arith in
    rw (each.0, digits_passed ds b rest each.1 f) n

first_of : (ds : List ℕ) → 0 < length ds → (d : ℕ) × (more : List ℕ) × (ds ≡ d ∷ more)
first_of [] h = absurd (omega arith)
first_of (d ∷ more) h = (d, more, refl)

all_taken : (ds rest : List ℕ) → take (length ds) (ds ++ rest) ≡ ds
all_taken ds rest = take-append_seam ds rest

-- the number of a line as an address
module _ (text : List ℕ) (count at : ℕ) (ds : List ℕ) (b : ℕ) (rest : List ℕ) (n : ℕ) (there : drop at text ≡ ds ++ b ∷ rest) (writes : WritesNumber ds (suc n)) (other : is_digit b ≡ false) where
  digits_end : past Digit text at ≡ at + length ds
  unfolding past
  digits_end = ap (λ bs. at + prefix_len is_digit bs) there ∙ ap (λ k. at + k) (digits_passed ds b rest writes.each other)

  digits_are : bytes_between text at (at + length ds) ≡ ds
  digits_are = let long : at + length ds - at ≡ length ds = omega arith in ap₂ (λ k bs. take k bs) long there ∙ all_taken ds (b ∷ rest)

  pub number_is : address_at text count at ≡ plainly (address_found (Some (Line (suc n))) (at + length ds) count)
  unfolding address_at
  number_is =
      let one = first_of ds writes.some in
      let here : slice_get text at ≡ Some one.0 = byte_there text at one.0 (one.1 ++ b ∷ rest) (there ∙ ap (λ ds. ds ++ b ∷ rest) one.2) in
      let digit : is_digit one.0 ≡ true = (both (is_digit one.0) (list_all is_digit one.1) (ap (list_all is_digit) (sym one.2) ∙ writes.each)).0 in
      rw (here, digit, digits_end, digits_are, writes.value) refl

pub past_none : (sort : Sort) (text : List ℕ) (at b : ℕ) (rest : List ℕ) → drop at text ≡ b ∷ rest → belongs sort b ≡ false → past sort text at ≡ at
unfolding past
past_none sort text at b rest e f = ap (λ bs. at + prefix_len (belongs sort) bs) e ∙ rw f (add-zero at)

pub past_end : (sort : Sort) (text : List ℕ) (at : ℕ) → drop at text ≡ [] → past sort text at ≡ at
unfolding past
past_end sort text at e = ap (λ bs. at + prefix_len (belongs sort) bs) e ∙ add-zero at

pub ends_there : (text : List ℕ) (at : ℕ) → drop at text ≡ [] → IsEnd text at
ends_there text at e = ap (slice_get text) (past_end Separator text at e) ∙ end_there text at e

abbrev plain_item : Option Address → Option Address → ℕ → Simple → Item
plain_item first second place s = record { addresses = record { first = first; second = second; negate = false }; place = place; verb = Plain s; argument = Nothing }

-- `q` and `d` at the end of a text, after their addresses
pub no_bang : (text : List ℕ) (at count b : ℕ) (first second : Option Address) → drop at text ≡ b ∷ [] → is_blank b ≡ false → (b == 33) ≡ false →
    with_bang text (record { addresses = addresses_of first second; at = at; count = count }) ≡ record { addresses = addresses_of first second; at = at; count = count }
no_bang text at count b first second e f g = rw (past_none Blank text at b [] e f, byte_there text at b [] e, g) refl

pub ends_command : (text : List ℕ) (at : ℕ) (f : Argument) → drop at text ≡ [] → to_command_end text f at ≡ Ok (f, at)
ends_command text at f e = rw (past_end Blank text at e, end_there text at e) refl

module _ (text : List ℕ) (at count : ℕ) (a : Address) where
  quits : drop at text ≡ 113 ∷ [] → function_after text (record { addresses = addresses_of (Some a) None; at = at; count = count }) ≡ plainly (Ok (Is (plain_item (Some a) None at Quit) (at + 1)))
  unfolding function_at
  quits e =
      ap (λ h. item_with text count h.addresses h.at (slice_get text h.at)) (no_bang text at count 113 (Some a) None e refl refl)
      ∙ ap (item_with text count (addresses_of (Some a) None) at) (byte_there text at 113 [] e)
      ∙ ap (λ r. plainly r >>= λ found. plainly (Ok (item_of (addresses_of (Some a) None) at (Plain Quit) found))) (ends_command text (at + 1) Nothing (drop_on text at (113 ∷ []) [] e))

  deletes : (b : Address) → drop at text ≡ 100 ∷ [] → function_after text (record { addresses = addresses_of (Some a) (Some b); at = at; count = count }) ≡ plainly (Ok (Is (plain_item (Some a) (Some b) at Delete) (at + 1)))
  unfolding function_at
  deletes b e =
      ap (λ h. item_with text count h.addresses h.at (slice_get text h.at)) (no_bang text at count 100 (Some a) (Some b) e refl refl)
      ∙ ap (item_with text count (addresses_of (Some a) (Some b)) at) (byte_there text at 100 [] e)
      ∙ ap (λ r. plainly r >>= λ found. plainly (Ok (item_of (addresses_of (Some a) (Some b)) at (Plain Delete) found))) (ends_command text (at + 1) Nothing (drop_on text at (100 ∷ []) [] e))

digit_separates : (d : ℕ) → is_digit d ≡ true → belongs Separator d ≡ false
digit_separates d h = grind (arith, nat_tests)

-- a text that begins with a number
starts_there : (text ds : List ℕ) (b : ℕ) (rest : List ℕ) (n : ℕ) → text ≡ ds ++ b ∷ rest → WritesNumber ds n → item_at text 0 0 ≡ addresses_at text 0 0 >>= function_after text
unfolding item_at
starts_there text ds b rest n e writes =
    let one = first_of ds writes.some in
    let there : drop 0 text ≡ one.0 ∷ (one.1 ++ b ∷ rest) = e ∙ ap (λ ds. ds ++ b ∷ rest) one.2 in
    let digit : is_digit one.0 ≡ true = (both (is_digit one.0) (list_all is_digit one.1) (ap (list_all is_digit) (sym one.2) ∙ writes.each)).0 in
    rw (past_none Separator text 0 one.0 (one.1 ++ b ∷ rest) there (digit_separates one.0 digit), byte_there text 0 one.0 (one.1 ++ b ∷ rest) there) refl

pub no_comma : (text : List ℕ) (count at b : ℕ) (rest : List ℕ) (first : Address) → drop at text ≡ b ∷ rest → is_blank b ≡ false → (b == 44) ≡ false →
    after_first text count at (Some first) ≡ plainly (with_addresses (Some first) None at count)
no_comma text count at b rest first e f g = rw (past_none Blank text at b rest e f, byte_there text at b rest e, g) refl

quit_item : (ds : List ℕ) (n : ℕ) → WritesNumber ds (suc n) → item_at (ds ++ 113 ∷ []) 0 0 ≡ plainly (Ok (Is (plain_item (Some (Line (suc n))) None (length ds) Quit) (length ds + 1)))
unfolding addresses_at
quit_item ds n writes =
    let text : List ℕ = ds ++ 113 ∷ [] in
    let place : 0 + length ds ≡ length ds = omega arith in
    let address : address_at text 0 0 ≡ plainly (address_found (Some (Line (suc n))) (length ds) 0) = number_is text 0 0 ds 113 [] n refl writes refl ∙ ap (λ at. plainly (address_found (Some (Line (suc n))) at 0)) place in
    let behind : drop (length ds) text ≡ 113 ∷ [] = drop-append_seam ds (113 ∷ []) in
    starts_there text ds 113 [] (suc n) refl writes
    ∙ ap (λ r. (r >>= λ x. after_first text x.count x.at x.address) >>= function_after text) address
    ∙ ap (λ r. r >>= function_after text) (no_comma text 0 (length ds) 113 [] (Line (suc n)) behind refl refl)
    ∙ quits text (length ds) 0 (Line (suc n)) behind

comma_there : (text : List ℕ) (count at b : ℕ) (rest : List ℕ) (first : Address) → drop at text ≡ 44 ∷ b ∷ rest → is_blank b ≡ false →
    after_first text count at (Some first) ≡ second_at text count first (at + 1)
comma_there text count at b rest first e f =
    let behind : drop (at + 1) text ≡ b ∷ rest = drop_on text at (44 ∷ []) (b ∷ rest) e in
    rw (past_none Blank text at 44 (b ∷ rest) e refl, byte_there text at 44 (b ∷ rest) e, past_none Blank text (at + 1) b rest behind f) refl

digit_no_blank : (d : ℕ) → is_digit d ≡ true → is_blank d ≡ false
digit_no_blank d h = grind (arith, nat_tests)

module _ (ds es : List ℕ) (n m : ℕ) (writes : WritesNumber ds (suc n)) (writes_too : WritesNumber es (suc m)) where
  abbrev cut_text : List ℕ
  cut_text = ds ++ 44 ∷ (es ++ 100 ∷ [])

  abbrev second_place : ℕ
  second_place = length ds + 1

  behind_first : drop (length ds) cut_text ≡ 44 ∷ (es ++ 100 ∷ [])
  behind_first = drop-append_seam ds (44 ∷ (es ++ 100 ∷ []))

  behind_comma : drop second_place cut_text ≡ es ++ 100 ∷ []
  behind_comma = drop_on cut_text (length ds) (44 ∷ []) (es ++ 100 ∷ []) behind_first

  behind_second : drop (second_place + length es) cut_text ≡ 100 ∷ []
  behind_second = drop_on cut_text second_place es (100 ∷ []) behind_comma

  first_address : address_at cut_text 0 0 ≡ plainly (address_found (Some (Line (suc n))) (length ds) 0)
  first_address = let place : 0 + length ds ≡ length ds = omega arith in number_is cut_text 0 0 ds 44 (es ++ 100 ∷ []) n refl writes refl ∙ ap (λ at. plainly (address_found (Some (Line (suc n))) at 0)) place

  second_address : second_at cut_text 0 (Line (suc n)) second_place ≡ plainly (with_addresses (Some (Line (suc n))) (Some (Line (suc m))) (second_place + length es) 0)
  unfolding second_at
  second_address = ap (λ r. r >>= λ x. plainly (with_second (Line (suc n)) second_place x x.address)) (number_is cut_text 0 second_place es 100 [] m behind_comma writes_too refl)

  after_comma : after_first cut_text 0 (length ds) (Some (Line (suc n))) ≡ second_at cut_text 0 (Line (suc n)) second_place
  after_comma =
      let one = first_of es writes_too.some in
      let digit : is_digit one.0 ≡ true = (both (is_digit one.0) (list_all is_digit one.1) (ap (list_all is_digit) (sym one.2) ∙ writes_too.each)).0 in
      comma_there cut_text 0 (length ds) one.0 (one.1 ++ 100 ∷ []) (Line (suc n)) (behind_first ∙ ap (λ es. 44 ∷ (es ++ 100 ∷ [])) one.2) (digit_no_blank one.0 digit)

  pub cut_item : item_at cut_text 0 0 ≡ plainly (Ok (Is (plain_item (Some (Line (suc n))) (Some (Line (suc m))) (second_place + length es) Delete) (second_place + length es + 1)))
  unfolding addresses_at
  cut_item =
      starts_there cut_text ds 44 (es ++ 100 ∷ []) (suc n) refl writes
      ∙ ap (λ r. (r >>= λ x. after_first cut_text x.count x.at x.address) >>= function_after cut_text) first_address
      ∙ ap (λ r. r >>= function_after cut_text) (after_comma ∙ second_address)
      ∙ deletes cut_text (second_place + length es) 0 (Line (suc n)) (Line (suc m)) behind_second

pub not_quiet : (b : ℕ) (rest : List ℕ) → (b == 35) ≡ false → is_quiet (b ∷ rest) ≡ false
not_quiet b rest e = starts (belongs in_line b) (prefix_len (belongs in_line) rest)
  where
    starts : (t : Bool) (n : ℕ) → bytes_eq (take (cond t (1 + n) 0) (b ∷ rest)) (35 ∷ 110 ∷ []) ≡ false
    starts false n = refl
    starts true n = let more : 1 + n ≡ suc n = omega arith in rw (more, e) refl

digit_not_quiet : (ds : List ℕ) (b : ℕ) (rest : List ℕ) (n : ℕ) → WritesNumber ds n → is_quiet (ds ++ b ∷ rest) ≡ false
digit_not_quiet ds b rest n writes =
    let one = first_of ds writes.some in
    let digit : is_digit one.0 ≡ true = (both (is_digit one.0) (list_all is_digit one.1) (ap (list_all is_digit) (sym one.2) ∙ writes.each)).0 in
    ap (λ ds. is_quiet (ds ++ b ∷ rest)) one.2 ∙ not_quiet one.0 (one.1 ++ b ∷ rest) (digit_no_hash one.0 digit)
  where
    digit_no_hash : (d : ℕ) → is_digit d ≡ true → (d == 35) ≡ false
    digit_no_hash d h = grind (arith, nat_tests)

-- a text of one item means the script of that item
pub means_one : (text : List ℕ) (i : Item) (es : List WrittenExpression) (to : ℕ) → Gives text Basic 65536 (item_at text 0 0) es (Is i to) → IsEnd text to → target_fault text (i ∷ []) ≡ None → is_quiet text ≡ false →
    Means text Basic 65536 (record (program_of text Basic 65536 (i ∷ []) (es ++ [])) { quiet = false })
means_one text i es to gives ends settled loud = record {
  items = i ∷ [];
  to = to;
  judged = record { cut = next_item es [] gives done; ends = ends; settled = settled };
  commands = refl;
  texts = refl;
  substitutions = refl;
  tables = refl;
  rfiles = refl;
  wfiles = refl;
  quiet = sym loud;
  nodes = refl;
}

pub gives_plainly : (text : List ℕ) (i : Item) (to : ℕ) → item_at text 0 0 ≡ plainly (Ok (Is i to)) → Gives text Basic 65536 (item_at text 0 0) [] (Is i to)
gives_plainly text i to e = subst (λ r. Gives text Basic 65536 r [] (Is i to)) (sym e) value

-- `Nq`
pub quit_means : (n : ℕ) → suc n < 2 ^ 64 → Means (decimal (suc n) ++ 113 ∷ []) Basic 65536 (of_commands (at (Line (suc n)) (action.Plain simple.Quit) ∷ []) [])
quit_means n h =
    let ds : List ℕ = decimal (suc n) in
    let writes = decimal_writes (suc n) h in
    means_one (ds ++ 113 ∷ []) (plain_item (Some (Line (suc n))) None (length ds) Quit) [] (length ds + 1) (gives_plainly (ds ++ 113 ∷ []) _ _ (quit_item ds n writes))
    (ends_there (ds ++ 113 ∷ []) (length ds + 1) (drop_on (ds ++ 113 ∷ []) (length ds) (113 ∷ []) [] (drop-append_seam ds (113 ∷ [])))) refl (digit_not_quiet ds 113 [] (suc n) writes)

-- `N,Md`
pub cut_means : (n m : ℕ) → suc n < 2 ^ 64 → suc m < 2 ^ 64 → Means (decimal (suc n) ++ 44 ∷ (decimal (suc m) ++ 100 ∷ [])) Basic 65536 (of_commands (from_to (Line (suc n)) (Line (suc m)) (action.Plain simple.Delete) ∷ []) [])
cut_means n m h k =
    let ds : List ℕ = decimal (suc n) in
    let es : List ℕ = decimal (suc m) in
    let writes = decimal_writes (suc n) h in
    let too = decimal_writes (suc m) k in
    let text : List ℕ = ds ++ 44 ∷ (es ++ 100 ∷ []) in
    let place : ℕ = length ds + 1 + length es in
    means_one text (plain_item (Some (Line (suc n))) (Some (Line (suc m))) place Delete) [] (place + 1) (gives_plainly text _ _ (cut_item ds es n m writes too))
    (ends_there text (place + 1) (drop_on text place (100 ∷ []) [] (behind_second ds es n m writes too))) refl (digit_not_quiet ds 44 (es ++ 100 ∷ []) (suc n) writes)
