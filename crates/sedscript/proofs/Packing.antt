-- What is kept of items stays what it is while the lists grow.
use Rattle.std.proofs.Common.{◌≡◌, ℕ, ◌+◌, ◌<◌, ◌≤◌, List, [], ◌∷◌, ◌++◌, length, length-append, arith, unwrap_or, slice_get, get_or, refl, sym, ap, ◌∙◌}
use Rattle.std.specs.List.{All}
use Rattle.std.proofs.lemmas.List.{map-append, get_or_append_left}
use Rattle.std.proofs.lemmas.List.Elements.{All-head, All-tail, All-weaker}
use Rattle.std.proofs.lemmas.Option.{unwrap_or-slice_get}
use Rattle.std.proofs.lemmas.Grind.{elements}
use Rattle.sedscript.specs.declared.items.Addresses.{Addresses}
use Rattle.sedscript.specs.declared.items.Argument.{Argument}
use Rattle.sedscript.specs.declared.items.Item.{Item}
use Rattle.sedscript.specs.declared.packed.PackedItem.{PackedItem}
use Rattle.sedscript.specs.declared.packed.PackedAddresses.{PackedAddresses}
use Rattle.sedscript.specs.declared.packed.PackedAddresses.TheVariants as g
use Rattle.sedscript.specs.declared.packed.PackedArgument.{PackedArgument}
use Rattle.sedscript.specs.declared.packed.PackedArgument.TheVariants as b
use Rattle.sedscript.specs.Packed.{Longer, no_addresses, unpacked_addresses, unpacked_argument, unpacked_item, unpacked_items, PacksAddresses, PacksArgument, PacksItem}

listed : {A : Type 0} (xs ys : List A) (n : ℕ) (d : A) → Longer xs ys → n < length xs → unwrap_or (slice_get ys n) d ≡ unwrap_or (slice_get xs n) d
listed xs ys n d more h =
    unwrap_or-slice_get ys n d ∙ (ap (λ zs. get_or zs n d) more.1 ∙ (get_or_append_left xs more.0 d n h ∙ sym (unwrap_or-slice_get xs n d)))

-- what is added to a list is at its end
pub added_last : {A : Type 0} (xs ys : List A) (x d : A) (n : ℕ) → ys ≡ xs ++ x ∷ [] → n ≡ length xs → (n < length ys) × (unwrap_or (slice_get ys n) d ≡ x)
added_last xs ys x d n grown end =
    let long : length ys ≡ length xs + 1 = ap length grown ∙ length-append xs (x ∷ []) in
    (omega (arith, long, end), unwrap_or-slice_get ys n d ∙ ap (λ zs. get_or zs n d) grown ∙ grind (arith, elements, end))

same_addresses : (xs ys : List Addresses) (given : PackedAddresses) (n : ℕ) → Longer xs ys → PacksAddresses (length xs) given n → unpacked_addresses ys given n ≡ unpacked_addresses xs given n
same_addresses xs ys g.Listed n more h = listed xs ys n no_addresses more h
same_addresses xs ys other n more h = refl

same_argument : (xs ys : List Argument) (brief : PackedArgument) (from to : ℕ) → Longer xs ys → PacksArgument (length xs) brief from → unpacked_argument ys brief from to ≡ unpacked_argument xs brief from to
same_argument xs ys b.Listed from to more h = listed xs ys from _ more h
same_argument xs ys other from to more h = refl

same_item : (listed_addresses hs : List Addresses) (listed_arguments ls : List Argument) (k : PackedItem) → Longer listed_addresses hs → Longer listed_arguments ls → PacksItem (length listed_addresses) (length listed_arguments) k → unpacked_item hs ls k ≡ unpacked_item listed_addresses listed_arguments k
same_item listed_addresses hs listed_arguments ls k a f is =
    let x = same_addresses listed_addresses hs k.given k.head a is.0 in
    let y = same_argument listed_arguments ls k.argument k.from k.to f is.1 in
    ap (λ z. record { addresses = z; place = k.place; verb = k.verb; argument = unpacked_argument ls k.argument k.from k.to }) x
    ∙ ap (λ z. record { addresses = unpacked_addresses listed_addresses k.given k.head; place = k.place; verb = k.verb; argument = z }) y

same_items : (listed_addresses hs : List Addresses) (listed_arguments ls : List Argument) (ks : List PackedItem) → Longer listed_addresses hs → Longer listed_arguments ls → All (PacksItem (length listed_addresses) (length listed_arguments)) ks →
    unpacked_items hs ls ks ≡ unpacked_items listed_addresses listed_arguments ks
same_items listed_addresses hs listed_arguments ls [] a f all = refl
same_items listed_addresses hs listed_arguments ls (k ∷ ks) a f all =
    let one = same_item listed_addresses hs listed_arguments ls k a f (All-head (PacksItem (length listed_addresses) (length listed_arguments)) k ks all) in
    let rest = same_items listed_addresses hs listed_arguments ls ks a f (All-tail (PacksItem (length listed_addresses) (length listed_arguments)) k ks all) in
    ap (λ i. i ∷ unpacked_items hs ls ks) one ∙ ap (λ is. unpacked_item listed_addresses listed_arguments k ∷ is) rest

-- the items with one more
pub items_more : (listed_addresses hs : List Addresses) (listed_arguments ls : List Argument) (ks ns : List PackedItem) (k : PackedItem) (i : Item) → Longer listed_addresses hs → Longer listed_arguments ls →
    All (PacksItem (length listed_addresses) (length listed_arguments)) ks → ns ≡ ks ++ k ∷ [] → unpacked_item hs ls k ≡ i → unpacked_items hs ls ns ≡ unpacked_items listed_addresses listed_arguments ks ++ i ∷ []
items_more listed_addresses hs listed_arguments ls ks ns k i a f all grown is =
    ap (unpacked_items hs ls) grown ∙ (map-append (unpacked_item hs ls) ks (k ∷ [])
    ∙ (ap (λ zs. zs ++ unpacked_item hs ls k ∷ []) (same_items listed_addresses hs listed_arguments ls ks a f all) ∙ ap (λ j. unpacked_items listed_addresses listed_arguments ks ++ j ∷ []) is))

longer_is : {A : Type 0} (xs ys : List A) → Longer xs ys → length xs ≤ length ys
longer_is xs ys more = omega (arith, ap length more.1, length-append xs more.0)

more_given : (a b : ℕ) (given : PackedAddresses) (n : ℕ) → a ≤ b → PacksAddresses a given n → PacksAddresses b given n
more_given a b g.Listed n le h = omega (arith, le, h)
more_given a b other n le h = tt

more_argument : (a c : ℕ) (brief : PackedArgument) (from : ℕ) → a ≤ c → PacksArgument a brief from → PacksArgument c brief from
more_argument a c b.Listed from le h = omega (arith, le, h)
more_argument a c other from le h = tt

-- what is listed is in the longer lists too
pub all_kept : (listed_addresses hs : List Addresses) (listed_arguments ls : List Argument) (ks : List PackedItem) → Longer listed_addresses hs → Longer listed_arguments ls → All (PacksItem (length listed_addresses) (length listed_arguments)) ks → All (PacksItem (length hs) (length ls)) ks
all_kept listed_addresses hs listed_arguments ls ks a f all =
    All-weaker (PacksItem (length listed_addresses) (length listed_arguments)) (PacksItem (length hs) (length ls))
    (λ k h. (more_given (length listed_addresses) (length hs) k.given k.head (longer_is listed_addresses hs a) h.0, more_argument (length listed_arguments) (length ls) k.argument k.from (longer_is listed_arguments ls f) h.1)) ks all
