-- Examples of scripts of as many opening braces as one likes.
use Rattle.std.proofs.Common.{◌≡◌, ℕ, zero, suc, ◌+◌, ◌<◌, ◌≤◌, false, List, [], ◌∷◌, length, drop, Some, None, Ok, refl, sym, ◌∙◌, ap, subst, arith}
use Rattle.std.specs.Prelude.{replicate, slice_get}
use Rattle.std.specs.List.{prefix_len}
use Rattle.std.proofs.lemmas.Option.{slice_get_past}
use Rattle.std.proofs.lemmas.List.{length-replicate}
use Rattle.sedre.specs.declared.types.Kind.{Kind}
use Rattle.sedre.specs.declared.types.Kind.TheVariants.{Basic}
use Rattle.sedscript.specs.declared.bytes.Sort.{Sort}
use Rattle.sedscript.specs.declared.bytes.Sort.TheVariants.{Separator, Blank}
use Rattle.sedscript.specs.declared.types.Reason.TheVariants.{OpenBlock}
use Rattle.sedscript.specs.declared.items.Item.{Item}
use Rattle.sedscript.specs.declared.items.ItemOrEnd.{ItemOrEnd}
use Rattle.sedscript.specs.declared.items.ItemOrEnd.TheVariants.{Is}
use Rattle.sedscript.specs.declared.letters.Verb.TheVariants.{Open}
use Rattle.sedscript.specs.declared.items.Argument.TheVariants.{Nothing}
use Rattle.sedscript.specs.Items.{Headed, address_at, addresses_at, addresses_of, with_bang, function_at, item_at, Reading, plainly}
use Rattle.sedscript.specs.Bytes.{belongs, past}
use Rattle.sedscript.specs.Script.{Gives, value, CutScript, done, next_item, IsEnd, target_fault, close_in}
use Rattle.sedscript.specs.FirstFault.{Faulty, afterwards}
use Rattle.examples.proofs.ScriptWords.{fault_at}

-- an opening brace without addresses
abbrev pub opening : ℕ → Item
opening place = record { addresses = addresses_of None None; place = place; verb = Open; argument = Nothing }

-- so many of them, one after the other from a place on
abbrev pub openings : ℕ → ℕ → List Item
openings at zero = []
openings at (suc n) = opening at ∷ openings (at + 1) n

-- so many opening braces
abbrev pub braces : ℕ → List ℕ
braces n = replicate n 123

pub each_brace : (n k : ℕ) → k < n → slice_get (braces n) k ≡ Some 123
each_brace zero k below = absurd (omega arith)
each_brace (suc n) zero below = refl
each_brace (suc n) (suc k) below = each_brace n k (omega arith)

-- a place with a byte that isn't of the sort is the first one from there on
none_of_sort : (sort : Sort) (byte : ℕ) (text : List ℕ) (at : ℕ) → belongs sort byte ≡ false → slice_get text at ≡ Some byte → prefix_len (belongs sort) (drop at text) ≡ 0
none_of_sort sort byte [] at other there = absurd cc
none_of_sort sort byte (b ∷ bs) zero other there =
    let is : b ≡ byte = cc in
    let no : belongs sort b ≡ false = ap (belongs sort) is ∙ other in
    rw no refl
none_of_sort sort byte (b ∷ bs) (suc at) other there = none_of_sort sort byte bs at other there

pub stays : (sort : Sort) (byte : ℕ) (text : List ℕ) (at : ℕ) → belongs sort byte ≡ false → slice_get text at ≡ Some byte → past sort text at ≡ at
unfolding past
stays sort byte text at other there = rw (none_of_sort sort byte text at other there) (omega arith)

abbrev pub no_addresses : ℕ → Headed
no_addresses at = record { addresses = addresses_of None None; at = at; count = 0 }

no_address : (text : List ℕ) (at : ℕ) → slice_get text at ≡ Some 123 → addresses_at text 0 at ≡ plainly (Ok (no_addresses at))
unfolding addresses_at address_at
no_address text at there = rw there refl

no_bang : (text : List ℕ) (at : ℕ) → slice_get text at ≡ Some 123 → with_bang text (no_addresses at) ≡ no_addresses at
no_bang text at there = rw (stays Blank 123 text at refl there, there) refl

opens : (text : List ℕ) (at : ℕ) → slice_get text at ≡ Some 123 → function_at text 0 (addresses_of None None) at ≡ plainly (Ok (Is (opening at) (at + 1)))
unfolding function_at
opens text at there = rw there refl

opens_after : (text : List ℕ) (at : ℕ) (h : Headed) → slice_get text at ≡ Some 123 → h ≡ no_addresses at → function_at text 0 h.addresses h.at ≡ plainly (Ok (Is (opening at) (at + 1)))
opens_after text at h there is = subst (λ (x : Headed). function_at text 0 x.addresses x.at ≡ plainly (Ok (Is (opening at) (at + 1)))) (sym is) (opens text at there)

opens_at : (text : List ℕ) (at : ℕ) → slice_get text at ≡ Some 123 → item_at text 0 at ≡ plainly (Ok (Is (opening at) (at + 1)))
unfolding item_at
opens_at text at there =
    rw (stays Separator 123 text at refl there, there, no_address text at there) (opens_after text at _ there (no_bang text at there))

module _ (kind : Kind) (most : ℕ) where
  pub gives_opening : (text : List ℕ) (at : ℕ) → slice_get text at ≡ Some 123 → Gives text kind most (item_at text 0 at) [] (Is (opening at) (at + 1))
  gives_opening text at there = subst (λ (r : Reading ItemOrEnd). Gives text kind most r [] (Is (opening at) (at + 1))) (sym (opens_at text at there)) value

  -- the text from a place on is cut into opening braces
  cut_at : (text : List ℕ) (n at to : ℕ) → at + n ≡ to → ((k : ℕ) → k < to → slice_get text k ≡ Some 123) → CutScript text kind most 0 at (openings at n) [] to
  cut_at text zero at to e each = subst (CutScript text kind most 0 at [] []) (omega (arith, e)) done
  cut_at text (suc n) at to e each =
      next_item [] [] (gives_opening text at (each at (omega (arith, e)))) (cut_at text n (at + 1) to (omega (arith, e)) each)

pub ends : (text : List ℕ) (at : ℕ) → length text ≤ at → IsEnd text at
unfolding past
ends text at after = slice_get_past text _ (omega (arith, after))

-- none of them is closed
never_closed : (n at depth before : ℕ) → close_in depth before (openings at n) ≡ None
never_closed zero at depth before = refl
never_closed (suc n) at depth before = never_closed n (at + 1) (suc depth) (suc before)

open_fault : (text : List ℕ) (n : ℕ) → target_fault text (openings 0 (suc n)) ≡ Some (fault_at 0 OpenBlock)
open_fault text n = rw (never_closed n 1 0 1) refl

-- The first of them is named.
many_open : (n : ℕ) (kind : Kind) (most : ℕ) → 0 < n → Faulty (braces n) kind most (fault_at 0 OpenBlock)
many_open zero kind most some = absurd (omega arith)
many_open (suc n) kind most some =
    afterwards (openings 0 (suc n)) [] (suc n)
    (cut_at kind most (braces (suc n)) (suc n) 0 (suc n) (omega arith) (each_brace (suc n)))
    (ends (braces (suc n)) (suc n) (omega (arith, length-replicate {A = ℕ} (suc n) 123)))
    (open_fault (braces (suc n)) n)

ten_thousand_open : Faulty (replicate 10000 123) Basic 65536 (fault_at 0 OpenBlock)
ten_thousand_open = many_open 10000 Basic 65536 (omega arith)
