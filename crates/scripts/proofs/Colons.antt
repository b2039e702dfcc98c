-- At the place of a label in a text there is a colon.
use Rattle.std.proofs.Common.{◌≡◌, ℕ, zero, suc, ◌+◌, ◌&&◌, ◌||◌, ◌==◌, Bool, true, false, List, [], ◌∷◌, length, Option, Some, None, Result, Ok, Err, refl, ap, ◌∙◌, arith, if◌then◌else◌, slice_get, nat_lt}
use Rattle.std.specs.Option.{option_len}
use Rattle.std.proofs.lemmas.Bool.Decides.{nat_tests}
use Rattle.sedre.specs.declared.types.Kind.{Kind}
use Rattle.sedre.specs.Tree.{WrittenExpression}
use Rattle.sedscript.specs.declared.bytes.Sort.TheVariants.{Separator}
use Rattle.sedscript.specs.declared.types.ScriptFault.{ScriptFault}
use Rattle.sedscript.specs.declared.items.Addresses.{Addresses}
use Rattle.sedscript.specs.declared.items.Item.{Item}
use Rattle.sedscript.specs.declared.items.ItemOrEnd.{ItemOrEnd}
use Rattle.sedscript.specs.declared.items.ItemOrEnd.TheVariants.{Is, Ends}
use Rattle.sedscript.specs.declared.letters.Verb.{Verb}
use Rattle.sedscript.specs.declared.letters.Verb.TheVariants.{Label}
use Rattle.sedscript.specs.Bytes.{past}
use Rattle.sedscript.specs.Strings.{is_among}
use Rattle.sedscript.specs.Items.{Reading, plainly, expression, ◌>>=◌, addresses_at, with_bang, argument_with, function_at, item_from, item_at, function_after, item_with}
use Rattle.sedscript.specs.Letters.{verb_of, most_addresses, allowed}
use Rattle.sedscript.specs.Script.{Gives, value, after_expression, CutScript, done, next_item, count_with, is_label, label_in}
use Rattle.scripts.specs.OneText.{HasLabel}

-- what is so of a value that is read
abbrev Read : {A : Type 0} → (A → Type 0) → Result A ScriptFault → Type 0
Read P (Ok x) = P x
Read P (Err f) = Unit {0}

read_if : {A : Type 0} (P : A → Type 0) (t : Bool) (r z : Result A ScriptFault) → Read P r → Read P z → Read P (if t then r else z)
read_if P true r z h g = h
read_if P false r z h g = g

abbrev Readings : {A : Type 0} → (A → Type 0) → Reading A → Type 0
Readings P (plainly r) = Read P r
Readings P (expression p k) = (groups : ℕ) → Readings P (k groups)

readings_then : {A B : Type 0} (P : A → Type 0) (Q : B → Type 0) (r : Reading A) (k : A → Reading B) → Readings P r → ((x : A) → P x → Readings Q (k x)) → Readings Q (r >>= k)
readings_then P Q (plainly (Ok x)) k h on = on x h
readings_then P Q (plainly (Err f)) k h on = tt
readings_then P Q (expression p l) k h on = λ groups. readings_then P Q (l groups) k (h groups) on

abbrev Any : {A : Type 0} → A → Type 0
Any x = Unit {0}

readings_any : {A : Type 0} (r : Reading A) → Readings Any r
readings_any (plainly (Ok x)) = tt
readings_any (plainly (Err f)) = tt
readings_any (expression p k) = λ groups. readings_any (k groups)

gives_so : {A : Type 0} (P : A → Type 0) (text : List ℕ) (kind : Kind) (m : ℕ) (r : Reading A) (es : List WrittenExpression) (x : A) → Gives text kind m r es x → Readings P r → P x
gives_so P text kind m _ _ x value h = h
gives_so P text kind m _ _ x (after_expression {k = k} {es = es} e is g) h = gives_so P text kind m (k e.groups) es x g (h e.groups)

letter_of_label : (letter : ℕ) → verb_of letter ≡ Some Label → letter ≡ 58
letter_of_label letter e = grind (arith, nat_tests)

-- at the place of a label's item there is a colon
abbrev ColonAt : List ℕ → ℕ → Verb → Type 0
ColonAt text place Label = slice_get text place ≡ Some 58
ColonAt text place other = Unit {0}

abbrev ColonHere : List ℕ → ItemOrEnd → Type 0
ColonHere text (Is i next) = ColonAt text i.place i.verb
ColonHere text Ends = Unit {0}

colon_by : (text : List ℕ) (at letter : ℕ) (verb : Verb) → slice_get text at ≡ Some letter → verb_of letter ≡ Some verb → ColonAt text at verb
colon_by text at letter Label there is = there ∙ ap (λ b. Some b) (letter_of_label letter is)
colon_by text at letter other there is = tt

allowed_is : (a : Addresses) (at : ℕ) (o : Option Verb) → Read (λ (verb : Verb). o ≡ Some verb) (allowed a at o)
allowed_is a at None = tt
allowed_is a at (Some verb) =
    read_if (λ (v : Verb). Some verb ≡ Some v) (a.negate && most_addresses verb == 0) _ _ tt (read_if (λ (v : Verb). Some verb ≡ Some v) (nat_lt (most_addresses verb) (option_len a.first + option_len a.second)) _ _ tt refl)

function_colon : (text : List ℕ) (count at : ℕ) (a : Addresses) → Readings (ColonHere text) (function_at text count a at)
unfolding function_at
function_colon text count at a = by_letter (slice_get text at) refl
  where
    by_letter : (o : Option ℕ) → slice_get text at ≡ o → Readings (ColonHere text) (item_with text count a at o)
    by_letter None e = tt
    by_letter (Some letter) e =
        readings_then (λ (verb : Verb). verb_of letter ≡ Some verb) (ColonHere text) (plainly (allowed a at (verb_of letter))) _ (allowed_is a at (verb_of letter))
        (λ verb is. readings_then Any (ColonHere text) (argument_with text count verb at) _ (readings_any (argument_with text count verb at)) (λ x h. colon_by text at letter verb e is))

item_colon : (text : List ℕ) (count at : ℕ) → Readings (ColonHere text) (item_at text count at)
unfolding item_at
item_colon text count at = by_byte (slice_get text (past Separator text at))
  where
    by_byte : (o : Option ℕ) → Readings (ColonHere text) (item_from text count (past Separator text at) o)
    by_byte None = tt
    by_byte (Some b) =
        readings_then Any (ColonHere text) (addresses_at text count (past Separator text at)) (function_after text) (readings_any (addresses_at text count (past Separator text at)))
        (λ h any. function_colon text h.count (with_bang text h).at (with_bang text h).addresses)

-- the items of a cut, and the label of a name among them
label_colon : (text : List ℕ) (kind : Kind) (m count at to : ℕ) (is : List Item) (es : List WrittenExpression) (name : List ℕ) (n k : ℕ) → CutScript text kind m count at is es to → label_in text name n is ≡ Some k → (place : ℕ) × (slice_get text place ≡ Some 58)
label_colon text kind m count at to _ _ name n k done e = absurd cc
label_colon text kind m count at to _ _ name n k (next_item {next = next} {i = i} {is = is} es fs given rest) e =
    by_verb i.verb (gives_so (ColonHere text) text kind m (item_at text count at) es (Is i next) given (item_colon text count at)) e (λ e. label_colon text kind m (count + length es) next to is fs name (count_with n i) k rest e)
  where
    by_verb : (verb : Verb) → ColonAt text i.place verb → (if is_label text name verb i.argument then Some n else label_in text name (count_with n i) is) ≡ Some k → (label_in text name (count_with n i) is ≡ Some k → (place : ℕ) × (slice_get text place ≡ Some 58)) → (place : ℕ) × (slice_get text place ≡ Some 58)
    by_verb Label here e on = (i.place, here)
    by_verb other here e on = on e

among : (xs : List ℕ) (k : ℕ) → slice_get xs k ≡ Some 58 → is_among xs 58 ≡ true
among [] zero e = absurd cc
among [] (suc k) e = absurd cc
among (x ∷ xs) zero e = let same : x ≡ 58 = cc in rw same refl
among (x ∷ xs) (suc k) e = or_true (x == 58) (is_among xs 58) (among xs k e)
  where
    or_true : (s t : Bool) → t ≡ true → (s || t) ≡ true
    or_true true t h = refl
    or_true false t h = h

pub label_law : (kind : Kind) (max_nodes : ℕ) (text name : List ℕ) → HasLabel kind max_nodes text name → is_among text 58 ≡ true
label_law kind m text name h = let there = label_colon text kind m 0 0 h.to h.items h.expressions name 0 h.place h.cut h.label in among text there.0 there.1
