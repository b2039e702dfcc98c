-- A repetition comes only after what can be repeated, and its bounds are in order.
use Rattle.std.proofs.Common.{◌≡◌, ℕ, ◌+◌, ◌≤◌, if◌then◌else◌, ◌&&◌, drop, Result, Ok, Err, List, Bool, true, false, Option, Some, None, refl, subst, arith}
use Rattle.std.specs.Prelude.{nat_le, option_and_then}
use Rattle.std.proofs.lemmas.Bool.Decides.{leb_tells}
use Rattle.std.proofs.Common.{inl, inr}
use Rattle.sedre.specs.declared.types.Kind.{Kind}
use Rattle.sedre.specs.declared.types.Kind.TheVariants.{Basic, Extended}
use Rattle.sedre.specs.declared.types.ExprFault.{ExprFault}
use Rattle.sedre.specs.declared.byte_set.ByteSet.{ByteSet}
use Rattle.sedre.specs.declared.intervals.Interval.{Interval as Bounds}
use Rattle.sedre.specs.declared.syntax.NextToken.{NextToken}
use Rattle.sedre.specs.declared.syntax.NextToken.TheVariants.{Is, Ends, Bad}
use Rattle.sedre.specs.declared.syntax.Symbol.{Symbol}
use Rattle.sedre.specs.declared.syntax.Symbol.TheVariants.{Star, Plus, Question, Interval, BracketOpening, Caret, Dollar}
use Rattle.sedre.specs.declared.syntax.Token.{Token}
use Rattle.sedre.specs.declared.syntax.Token.TheVariants.{Repeat, AtBegin, AtEnd}
use Rattle.sedre.specs.Stacks.{IsInterval}
use Rattle.sedre.specs.Brackets.{is_at_front, list_at}
use Rattle.sedre.specs.Tokens.{front_symbol, numeral, closes, limit, after_least, front_interval, token_at, token_for, is_repeatable, is_repeat, is_leading, ends_alternative, repeats, interval_token, list_token, star_item, question_item, anchor_item}

-- a repetition comes where one may, with bounds in order
abbrev pub FineItem : Bool → Token → Type 0
FineItem may (Repeat least most) = (may ≡ true) × IsInterval least most
FineItem may _ = Unit {0}

abbrev pub Fine : Bool → NextToken → Type 0
Fine may (Is i next) = FineItem may i
Fine may Ends = Unit {0}
Fine may (Bad f) = Unit {0}

abbrev pub FineBounds : Option Bounds → Type 0
FineBounds None = Unit {0}
FineBounds (Some i) = IsInterval i.least i.most

by_test : (b : Bool) (x y : Option Bounds) → (b ≡ true → FineBounds x) → FineBounds y → FineBounds (if b then x else y)
by_test true x y f g = f refl
by_test false x y f g = g

second_true : (a b : Bool) → (a && b) ≡ true → b ≡ true
second_true true b h = h
second_true false b h = absurd cc

in_order : (a b : ℕ) → nat_le a b ≡ true → a ≤ b
in_order a b h = elim (leb_tells a b) [ inl w ↦ w.1 | inr w ↦ (let f : nat_le a b ≡ false = w.0 in absurd cc) ]

fine_limit : (kind : Kind) (delimiter : Option ℕ) (least digits : ℕ) (front : List ℕ) (o : Option (ℕ × ℕ)) → FineBounds (limit kind delimiter least digits front o)
fine_limit kind delimiter least digits front None = by_test (closes kind delimiter front) _ _ (λ h. tt) tt
fine_limit kind delimiter least digits front (Some (most, more)) =
    by_test (closes kind delimiter (drop more front) && nat_le least most) _ _ (λ h. in_order least most (second_true (closes kind delimiter (drop more front)) (nat_le least most) h)) tt

fine_least : (kind : Kind) (delimiter : Option ℕ) (front : List ℕ) (o : Option (ℕ × ℕ)) → FineBounds (option_and_then (after_least kind delimiter front) o)
fine_least kind delimiter front None = tt
fine_least kind delimiter front (Some (least, digits)) =
    by_test (closes kind delimiter (drop digits front)) _ _ (λ h. omega arith)
    (by_test (is_at_front (drop digits front) 44) _ _ (λ h. fine_limit kind delimiter least digits (drop 1 (drop digits front)) (numeral (drop 1 (drop digits front)))) tt)

fine_interval : (kind : Kind) (delimiter : Option ℕ) (front : List ℕ) → FineBounds (front_interval kind delimiter front)
unfolding front_interval
fine_interval kind delimiter front = fine_least kind delimiter front (numeral front)

fine_interval_item : (may : Bool) (o : Option Bounds) (at next : ℕ) → FineBounds o → Fine may (repeats may at (interval_token o at next))
fine_interval_item true None at next h = tt
fine_interval_item true (Some i) at next h = (refl, h)
fine_interval_item false o at next h = tt

fine_list : (may : Bool) (r : Result (ByteSet × ℕ) ExprFault) → Fine may (list_token r)
fine_list may (Ok (members, next)) = tt
fine_list may (Err f) = tt

fine_star : (kind : Kind) (may : Bool) (at next : ℕ) → Fine may (star_item kind may at next)
fine_star Basic true at next = (refl, tt)
fine_star Basic false at next = tt
fine_star Extended true at next = (refl, tt)
fine_star Extended false at next = tt

fine_question : (kind : Kind) (may repeated : Bool) (at next : ℕ) → Fine may (question_item kind may repeated at next)
fine_question Basic true repeated at next = (refl, omega arith)
fine_question Basic false repeated at next = tt
fine_question Extended true true at next = tt
fine_question Extended true false at next = (refl, omega arith)
fine_question Extended false repeated at next = tt

fine_plus : (may : Bool) (at next : ℕ) → Fine may (repeats may at (Is (Repeat 1 None) next))
fine_plus true at next = (refl, tt)
fine_plus false at next = tt

fine_anchor : (kind : Kind) (may stands : Bool) (b : ℕ) (anchor : Token) (next : ℕ) → FineItem may anchor → Fine may (anchor_item kind stands b anchor next)
fine_anchor Basic may true b anchor next h = h
fine_anchor Basic may false b anchor next h = tt
fine_anchor Extended may stands b anchor next h = h

fine_for : (kind : Kind) (folded : Bool) (delimiter : Option ℕ) (text : List ℕ) (before : Option Token) (at : ℕ) (o : Option (Symbol × ℕ)) → Fine (is_repeatable before) (token_for kind folded delimiter text before at o)
fine_for kind folded delimiter text before at (Some (Star, n)) = fine_star kind (is_repeatable before) at (at + n)
fine_for kind folded delimiter text before at (Some (Plus, n)) = fine_plus (is_repeatable before) at (at + n)
fine_for kind folded delimiter text before at (Some (Question, n)) = fine_question kind (is_repeatable before) (is_repeat before) at (at + n)
fine_for kind folded delimiter text before at (Some (Interval, n)) = fine_interval_item (is_repeatable before) (front_interval kind delimiter (drop (at + n) text)) at (at + n) (fine_interval kind delimiter (drop (at + n) text))
fine_for kind folded delimiter text before at (Some (BracketOpening, n)) = fine_list (is_repeatable before) (list_at folded delimiter text at)
fine_for kind folded delimiter text before at (Some (Caret, n)) = fine_anchor kind (is_repeatable before) (is_leading before) 94 AtBegin (at + n) tt
fine_for kind folded delimiter text before at (Some (Dollar, n)) = fine_anchor kind (is_repeatable before) (ends_alternative (front_symbol kind delimiter (drop (at + n) text))) 36 AtEnd (at + n) tt
fine_for kind folded delimiter text before at _ = tt

fine_at : (kind : Kind) (folded : Bool) (delimiter : Option ℕ) (text : List ℕ) (before : Option Token) (at : ℕ) → Fine (is_repeatable before) (token_at kind folded delimiter text before at)
unfolding token_at
fine_at kind folded delimiter text before at = fine_for kind folded delimiter text before at (front_symbol kind delimiter (drop at text))

pub repeat_follows : (kind : Kind) (folded : Bool) (delimiter : Option ℕ) (text : List ℕ) (before : Option Token) (at : ℕ) {least next : ℕ} {most : Option ℕ} →
    token_at kind folded delimiter text before at ≡ Is (Repeat least most) next → (is_repeatable before ≡ true) × IsInterval least most
repeat_follows kind folded delimiter text before at h = subst (λ (x : NextToken). Fine (is_repeatable before) x) h (fine_at kind folded delimiter text before at)
