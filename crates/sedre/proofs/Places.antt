-- A fault is in the text or at its end.
use Rattle.std.proofs.Common.{◌≡◌, ℕ, zero, suc, ◌+◌, ◌-◌, ◌<◌, ◌≤◌, List, [], ◌∷◌, length, drop, Bool, true, false, not, ◌&&◌, ◌==◌, nat_le, if◌then◌else◌, Option, Some, None, Result, Ok, Err, IfErr, refl, ap, subst, arith, length-drop}
use Rattle.std.specs.List.{last_or}
use Rattle.sedre.specs.declared.types.Kind.{Kind}
use Rattle.sedre.specs.declared.types.Kind.TheVariants.{Basic, Extended}
use Rattle.sedre.specs.declared.types.ExprReason.{ExprReason}
use Rattle.sedre.specs.declared.types.ExprFault.{ExprFault}
use Rattle.sedre.specs.declared.elements.Element.{Element}
use Rattle.sedre.specs.declared.elements.Element.TheVariants.{Plain, Delimiter, OfClass, Equivalent, Collating, Wrong, Unclosed}
use Rattle.sedre.specs.declared.byte_set.ByteSet.{ByteSet}
use Rattle.sedre.specs.declared.intervals.Interval.{Interval as Bounds}
use Rattle.sedre.specs.declared.syntax.Symbol.{Symbol}
use Rattle.sedre.specs.declared.syntax.Symbol.TheVariants.{Star, Plus, Question, Interval, BracketOpening, Caret, Dollar}
use Rattle.sedre.specs.declared.syntax.Token.{Token}
use Rattle.sedre.specs.declared.syntax.Token.TheVariants.{AtBegin, AtEnd}
use Rattle.sedre.specs.declared.syntax.NextToken.{NextToken}
use Rattle.sedre.specs.declared.syntax.NextToken.TheVariants.{Is, Ends, Bad}
use Rattle.sedre.specs.Brackets.{elements, front_element, elements_from, is_at_front, is_dash, goes_on_as_range, ListedBytes, single, between_ends, range_to, range, both, all_listed, judged_list, list_at}
use Rattle.sedre.specs.Tokens.{front_interval, front_symbol, is_leading, is_repeatable, is_repeat, ends_alternative, repeats, interval_token, list_token, star_item, question_item, anchor_item, token_for, token_at}
use Rattle.sedre.specs.Grammar.{FaultRow, bad, stray, FaultyWith}

-- no element of a list is past a place
abbrev PlacesUpTo : ℕ → List (ℕ × Element) → Type 0
PlacesUpTo n [] = Unit {0}
PlacesUpTo n (x ∷ xs) = (x.0 ≤ n) × PlacesUpTo n xs

up_to_if : (n : ℕ) (t : Bool) (x y : List (ℕ × Element) × Option ℕ) → PlacesUpTo n x.0 → PlacesUpTo n y.0 → PlacesUpTo n (if t then x else y).0
up_to_if n true x y h g = h
up_to_if n false x y h g = g

elements_up_to : (delimiter : Option ℕ) (n : ℕ) (first : Bool) (skip place : ℕ) (bs : List ℕ) → place + length bs ≤ n → PlacesUpTo n (elements delimiter first skip place bs).0
elements_up_to delimiter n first skip place [] le = tt
elements_up_to delimiter n first (suc skip) place (b ∷ bs) le = elements_up_to delimiter n first skip (place + 1) bs (omega (arith, le))
elements_up_to delimiter n first zero place (b ∷ bs) le =
    up_to_if n (b == 93 && not first) _ _ tt
    (omega (arith, le), elements_up_to delimiter n false ((front_element delimiter (b ∷ bs)).1 - 1) (place + 1) bs (omega (arith, le)))

from_up_to : (delimiter : Option ℕ) (n place : ℕ) (bs : List ℕ) → place + length bs ≤ n → PlacesUpTo n (elements_from delimiter place bs).0
from_up_to delimiter n place [] le = tt
from_up_to delimiter n place (b ∷ bs) le =
    up_to_if n (b == 94) _ _ (elements_up_to delimiter n true 0 (place + 1) bs (omega (arith, le))) (elements_up_to delimiter n true 0 place (b ∷ bs) le)

-- no fault is past a place
abbrev ExprFaultUpTo : {A : Type 0} → ℕ → Result A ExprFault → Type 0
ExprFaultUpTo n r = IfErr r (λ f. f.place ≤ n)

shown_if : (n : ℕ) (t : Bool) (r s : ListedBytes) → ExprFaultUpTo n r → ExprFaultUpTo n s → ExprFaultUpTo n (if t then r else s)
shown_if n true r s h g = h
shown_if n false r s h g = g

both_shown : (n : ℕ) (r s : ListedBytes) → ExprFaultUpTo n r → ExprFaultUpTo n s → ExprFaultUpTo n (both r s)
both_shown n (Err f) s h g = h
both_shown n (Ok x) (Err f) h g = g
both_shown n (Ok x) (Ok y) h g = tt

single_shown : (n : ℕ) (x : ℕ × Element) → x.0 ≤ n → ExprFaultUpTo n (single x)
single_shown n (place, Wrong reason) h = h
single_shown n _ h = tt

between_shown : (n place : ℕ) (first last : Option ℕ) (on : Bool) → place ≤ n → ExprFaultUpTo n (between_ends place first last on)
between_shown n place None last on h = h
between_shown n place (Some a) None on h = h
between_shown n place (Some a) (Some b) on h = shown_if n (nat_le a b && not on) _ _ tt h

range_to_shown : (n place : ℕ) (first : Option ℕ) (last : ℕ × Element) (on : Bool) → place ≤ n → last.0 ≤ n → ExprFaultUpTo n (range_to place first last on)
range_to_shown n place first (at, Plain b) on h g = between_shown n place first (Some b) on h
range_to_shown n place first (at, Delimiter b) on h g = between_shown n place first (Some b) on h
range_to_shown n place first (at, OfClass class) on h g = between_shown n place first None on h
range_to_shown n place first (at, Equivalent b) on h g = between_shown n place first None on h
range_to_shown n place first (at, Collating b) on h g = between_shown n place first (Some b) on h
range_to_shown n place first (at, Wrong reason) on h g = g
range_to_shown n place first (at, Unclosed) on h g = tt

range_shown : (n : ℕ) (first last : ℕ × Element) (on : Bool) → first.0 ≤ n → last.0 ≤ n → ExprFaultUpTo n (range first last on)
range_shown n (place, Plain b) last on h g = range_to_shown n place (Some b) last on h g
range_shown n (place, Delimiter b) last on h g = range_to_shown n place (Some b) last on h g
range_shown n (place, OfClass class) last on h g = range_to_shown n place None last on h g
range_shown n (place, Equivalent b) last on h g = range_to_shown n place None last on h g
range_shown n (place, Collating b) last on h g = range_to_shown n place (Some b) last on h g
range_shown n (place, Wrong reason) last on h g = h
range_shown n (place, Unclosed) last on h g = tt

listed_shown : (n : ℕ) (xs : List (ℕ × Element)) → PlacesUpTo n xs → ExprFaultUpTo n (all_listed xs)
listed_shown n [] h = tt
listed_shown n (x ∷ []) h = both_shown n (single x) (all_listed []) (single_shown n x h.0) tt
listed_shown n (x ∷ y ∷ []) h = both_shown n (single x) (all_listed (y ∷ [])) (single_shown n x h.0) (listed_shown n (y ∷ []) h.1)
listed_shown n (x ∷ y ∷ z ∷ rest) h =
    let later : PlacesUpTo n (y ∷ z ∷ rest) = h.1 in
    let last : PlacesUpTo n (z ∷ rest) = later.1 in
    shown_if n (is_dash y.1) _ _
    (both_shown n (range x z (goes_on_as_range rest)) (all_listed rest) (range_shown n x z (goes_on_as_range rest) h.0 last.0) (listed_shown n rest last.1))
    (both_shown n (single x) (all_listed (y ∷ z ∷ rest)) (single_shown n x h.0) (listed_shown n (y ∷ z ∷ rest) later))

judged_shown : (n : ℕ) (folded negated : Bool) (at : ℕ) (r : ListedBytes) (end : Option ℕ) → at ≤ n → ExprFaultUpTo n r → ExprFaultUpTo n (judged_list folded negated at r end)
judged_shown n folded negated at (Err f) end le h = h
judged_shown n folded negated at (Ok x) None le h = le
judged_shown n folded negated at (Ok x) (Some next) le h = tt

list_shown : (folded : Bool) (delimiter : Option ℕ) (text : List ℕ) (at : ℕ) → at < length text → ExprFaultUpTo (length text) (list_at folded delimiter text at)
unfolding list_at
list_shown folded delimiter text at inside =
    let bytes = drop (at + 1) text in
    let found = elements_from delimiter (at + 1) bytes in
    judged_shown (length text) folded (is_at_front bytes 94) at (all_listed found.0) found.1 (omega (arith, inside))
    (listed_shown (length text) found.0 (from_up_to delimiter (length text) (at + 1) bytes (omega (arith, inside, length-drop (at + 1) text))))

-- what is at a place up to this one, or a fault there
abbrev HereUpTo : (n at : ℕ) → NextToken → Type 0
HereUpTo n at (Is i next) = at ≤ n
HereUpTo n at (Bad f) = f.place ≤ n
HereUpTo n at Ends = Unit {0}

repeats_here : (n at : ℕ) (may : Bool) (repeat : NextToken) → at ≤ n → HereUpTo n at repeat → HereUpTo n at (repeats may at repeat)
repeats_here n at true repeat le h = h
repeats_here n at false repeat le h = le

interval_here : (n at next : ℕ) (o : Option Bounds) → at ≤ n → HereUpTo n at (interval_token o at next)
interval_here n at next None le = le
interval_here n at next (Some i) le = le

list_here : (n at : ℕ) (r : Result (ByteSet × ℕ) ExprFault) → at ≤ n → ExprFaultUpTo n r → HereUpTo n at (list_token r)
list_here n at (Ok (members, next)) le h = le
list_here n at (Err f) le h = h

star_here : (n at next : ℕ) (kind : Kind) (may : Bool) → at ≤ n → HereUpTo n at (star_item kind may at next)
star_here n at next Basic true le = le
star_here n at next Basic false le = le
star_here n at next Extended may le = repeats_here n at may _ le le

question_here : (n at next : ℕ) (kind : Kind) (may repeated : Bool) → at ≤ n → HereUpTo n at (question_item kind may repeated at next)
question_here n at next Basic may repeated le = repeats_here n at may _ le le
question_here n at next Extended may repeated le = repeats_here n at (may && not repeated) _ le le

anchor_here : (n at next : ℕ) (kind : Kind) (stands : Bool) (b : ℕ) (anchor : Token) → at ≤ n → HereUpTo n at (anchor_item kind stands b anchor next)
anchor_here n at next Basic true b anchor le = le
anchor_here n at next Basic false b anchor le = le
anchor_here n at next Extended stands b anchor le = le

module _ (kind : Kind) (folded : Bool) (delimiter : Option ℕ) (text : List ℕ) where
  symbol_here : (before : Option Token) (at : ℕ) (s : Option (Symbol × ℕ)) → at < length text → HereUpTo (length text) at (token_for kind folded delimiter text before at s)
  symbol_here before at None inside = tt
  symbol_here before at (Some (Star, n)) inside = star_here (length text) at (at + n) kind (is_repeatable before) (omega (arith, inside))
  symbol_here before at (Some (Plus, n)) inside = repeats_here (length text) at (is_repeatable before) _ (omega (arith, inside)) (omega (arith, inside))
  symbol_here before at (Some (Question, n)) inside = question_here (length text) at (at + n) kind (is_repeatable before) (is_repeat before) (omega (arith, inside))
  symbol_here before at (Some (Interval, n)) inside =
      repeats_here (length text) at (is_repeatable before) _ (omega (arith, inside))
      (interval_here (length text) at (at + n) (front_interval kind delimiter (drop (at + n) text)) (omega (arith, inside)))
  symbol_here before at (Some (BracketOpening, n)) inside = list_here (length text) at (list_at folded delimiter text at) (omega (arith, inside)) (list_shown folded delimiter text at inside)
  symbol_here before at (Some (Caret, n)) inside = anchor_here (length text) at (at + n) kind (is_leading before) 94 AtBegin (omega (arith, inside))
  symbol_here before at (Some (Dollar, n)) inside =
      anchor_here (length text) at (at + n) kind (ends_alternative (front_symbol kind delimiter (drop (at + n) text))) 36 AtEnd (omega (arith, inside))
  symbol_here before at _ inside = omega (arith, inside)

  rest_here : (before : Option Token) (at : ℕ) (bs : List ℕ) → drop at text ≡ bs → HereUpTo (length text) at (token_for kind folded delimiter text before at (front_symbol kind delimiter bs))
  rest_here before at [] e = tt
  rest_here before at (b ∷ bs) e = symbol_here before at (front_symbol kind delimiter (b ∷ bs)) (omega (arith, length-drop at text, ap length e))

  item_here : (before : Option Token) (at : ℕ) → HereUpTo (length text) at (token_at kind folded delimiter text before at)
  unfolding token_at
  item_here before at = rest_here before at (drop at text) refl

  row_within : (max_nodes : ℕ) {is : List Token} {opened to place : ℕ} {reason : ExprReason} → FaultRow kind folded delimiter text max_nodes is opened to place reason → place ≤ length text
  row_within max_nodes (bad {is = is} {to = to} e) = subst (HereUpTo (length text) to) e (item_here (last_or None is) to)
  row_within max_nodes (stray {is = is} {to = to} e) = subst (HereUpTo (length text) to) e (item_here (last_or None is) to)
  row_within max_nodes _ = omega arith

  -- the first fault of a text is in it or at its end
  pub fault_within : (max_nodes : ℕ) {place : ℕ} {reason : ExprReason} → FaultyWith kind folded delimiter text max_nodes place reason → place ≤ length text
  fault_within max_nodes f = row_within max_nodes f.row
