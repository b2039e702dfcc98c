-- Private to the proofs: no contract of a public item cites what is here.
-- How the items of a script are kept in little room.
use Rattle.std.specs.Prelude.{◌≡◌, ◌<◌, ℕ, List, ◌++◌, map, false, Some, None, unwrap_or, slice_get}
use Rattle.sedscript.specs.declared.types.Address.TheVariants as address
use Rattle.sedscript.specs.Types.{Addresses, Item, Argument, Nothing, Between}
use Rattle.sedscript.specs.declared.packed.PackedItem.{PackedItem}
use Rattle.sedscript.specs.declared.packed.PackedAddresses.{PackedAddresses}
use Rattle.sedscript.specs.declared.packed.PackedAddresses.TheVariants as g
use Rattle.sedscript.specs.declared.packed.PackedArgument.{PackedArgument}
use Rattle.sedscript.specs.declared.packed.PackedArgument.TheVariants as b

-- a list with more at its end
abbrev pub Longer : {A : Type 0} → List A → List A → Type 0
Longer {A} old new = (more : List A) × (new ≡ old ++ more)

abbrev pub no_addresses : Addresses
no_addresses = record { first = None; second = None; negate = false }

-- the addresses that an item keeps in this way, with a number; a list has those that need more room
abbrev pub unpacked_addresses : List Addresses → PackedAddresses → ℕ → Addresses
unpacked_addresses listed_addresses g.Nothing n = no_addresses
unpacked_addresses listed_addresses g.Line n = record no_addresses { first = Some (address.Line n) }
unpacked_addresses listed_addresses g.Last n = record no_addresses { first = Some address.Last }
unpacked_addresses listed_addresses g.Listed n = unwrap_or (slice_get listed_addresses n) no_addresses

-- the argument that an item keeps in this way, with two places; a list has those that need more room
abbrev pub unpacked_argument : List Argument → PackedArgument → ℕ → ℕ → Argument
unpacked_argument listed_arguments b.Nothing from to = Nothing
unpacked_argument listed_arguments b.Between from to = Between from to
unpacked_argument listed_arguments b.Listed from to = unwrap_or (slice_get listed_arguments from) Nothing

-- the item of a compact form
abbrev pub unpacked_item : List Addresses → List Argument → PackedItem → Item
unpacked_item listed_addresses listed_arguments k = record {
  addresses = unpacked_addresses listed_addresses k.given k.head;
  place = k.place;
  verb = k.verb;
  argument = unpacked_argument listed_arguments k.argument k.from k.to;
}

abbrev pub unpacked_items : List Addresses → List Argument → List PackedItem → List Item
unpacked_items listed_addresses listed_arguments ks = map (unpacked_item listed_addresses listed_arguments) ks

-- where the addresses are listed, they are in a list of this length
abbrev pub PacksAddresses : ℕ → PackedAddresses → ℕ → Type 0
PacksAddresses count g.Listed n = n < count
PacksAddresses count g n = Unit {0}

-- where the argument is listed, it is in a list of this length
abbrev pub PacksArgument : ℕ → PackedArgument → ℕ → Type 0
PacksArgument count b.Listed from = from < count
PacksArgument count b from = Unit {0}

-- what is listed of an item is in lists of these lengths
abbrev pub PacksItem : ℕ → ℕ → PackedItem → Type 0
PacksItem listed_addresses listed_arguments k = PacksAddresses listed_addresses k.given k.head × PacksArgument listed_arguments k.argument k.from
