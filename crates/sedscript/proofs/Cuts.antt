-- How a text is cut.
use Rattle.std.proofs.Common.{◌≡◌, ℕ, ◌+◌, ◌<◌, ◌≤◌, List, [], ◌∷◌, ◌++◌, length, Option, Ok, refl, sym, ap, subst, ◌∙◌, append_assoc, arith, length-append}
use Rattle.std.proofs.lemmas.List.{append-nil}
use Rattle.sedre.specs.declared.types.Kind.{Kind}
use Rattle.sedre.specs.Tree.{WrittenExpression}
use Rattle.sedscript.specs.declared.items.Item.{Item}
use Rattle.sedscript.specs.declared.items.ItemOrEnd.{ItemOrEnd}
use Rattle.sedscript.specs.declared.items.ItemOrEnd.TheVariants.{Is, Ends}
use Rattle.sedscript.specs.declared.bytes.Sort.TheVariants.{Separator}
use Rattle.sedscript.specs.Bytes.{past}
use Rattle.sedscript.specs.Items.{plainly, item_at, item_from}
use Rattle.sedscript.specs.Script.{Gives, value, CutScript, done, next_item, IsEnd}
use Rattle.sedscript.specs.Answers.{IsHere}

-- one item more
pub cut_more : (text : List ℕ) (kind : Kind) (m count at to next n : ℕ) (is : List Item) (es fs : List WrittenExpression) (i : Item) → CutScript text kind m count at is es to → n ≡ count + length es →
    Gives text kind m (item_at text n to) fs (Is i next) → CutScript text kind m count at (is ++ i ∷ []) (es ++ fs) next
cut_more text kind m count at to next n _ _ fs i done e is =
    let same : n ≡ count = e ∙ omega arith in
    subst (λ (z : List WrittenExpression). CutScript text kind m count at (i ∷ []) z next) (append-nil fs)
    (next_item fs [] (subst (λ (k : ℕ). Gives text kind m (item_at text k at) fs (Is i next)) same is) done)
cut_more text kind m count at to next n _ _ gs i (next_item {i = j} {is = is} es fs f rest) e is' =
    subst (λ (z : List WrittenExpression). CutScript text kind m count at (j ∷ is ++ i ∷ []) z next) (sym (append_assoc es fs gs))
    (next_item es (fs ++ gs) f (cut_more text kind m (count + length es) _ to next n is fs gs i rest (e ∙ (ap (λ (k : ℕ). count + k) (length-append es fs) ∙ omega arith)) is'))

-- at the end no expression was read
nothing : {A : Type 0} (text : List ℕ) (kind : Kind) (m : ℕ) (x y : A) (es : List WrittenExpression) → Gives text kind m (plainly (Ok x)) es y → es ≡ []
nothing text kind m x y _ value = refl

pub ends_nothing : (text : List ℕ) (kind : Kind) (m n at : ℕ) (es : List WrittenExpression) (h : ItemOrEnd) → IsEnd text at → Gives text kind m (item_at text n at) es h → es ≡ []
unfolding item_at
ends_nothing text kind m n at es h e is = nothing text kind m Ends h es (subst (λ (o : Option ℕ). Gives text kind m (item_from text n (past Separator text at) o) es h) e is)

pub end_here : (text : List ℕ) (at : ℕ) (h : ItemOrEnd) → h ≡ Ends → IsHere text at h → IsEnd text at
end_here text at h e is = subst (IsHere text at) e is

pub next_here : (text : List ℕ) (at next : ℕ) (i : Item) (h : ItemOrEnd) → h ≡ Is i next → IsHere text at h → (at < next) × (next ≤ length text)
next_here text at next i h e is = subst (IsHere text at) e is

pub cut_ends : (text : List ℕ) (kind : Kind) (m n at : ℕ) (is : List Item) (old new : List WrittenExpression) (h : ItemOrEnd) → CutScript text kind m 0 0 is old at → IsEnd text at →
    (es : List WrittenExpression) → Gives text kind m (item_at text n at) es h → new ≡ old ++ es → CutScript text kind m 0 0 is new at
cut_ends text kind m n at is old new h c e es read grown =
    let same : new ≡ old = grown ∙ (ap (λ (z : List WrittenExpression). old ++ z) (ends_nothing text kind m n at es h e read) ∙ append-nil old) in
    subst (λ (z : List WrittenExpression). CutScript text kind m 0 0 is z at) (sym same) c

pub cut_next : (text : List ℕ) (kind : Kind) (m at next : ℕ) (is js : List Item) (old new : List WrittenExpression) (i : Item) (h : ItemOrEnd) → CutScript text kind m 0 0 is old at → h ≡ Is i next →
    (es : List WrittenExpression) → Gives text kind m (item_at text (length old) at) es h → new ≡ old ++ es → js ≡ is ++ i ∷ [] →
    CutScript text kind m 0 0 js new next
cut_next text kind m at next is js old new i h c e es read grown more =
    subst (λ (y : List Item). CutScript text kind m 0 0 y new next) (sym more)
    (subst (λ (z : List WrittenExpression). CutScript text kind m 0 0 (is ++ i ∷ []) z next) (sym grown)
    (cut_more text kind m 0 0 at next (length old) is old es i c (omega arith) (subst (Gives text kind m (item_at text (length old) at) es) e read)))

pub cut_start : (text : List ℕ) (kind : Kind) (m : ℕ) (is : List Item) (es : List WrittenExpression) → is ≡ [] → es ≡ [] → CutScript text kind m 0 0 is es 0
cut_start text kind m is es a b = subst (λ (y : List Item). CutScript text kind m 0 0 y es 0) (sym a) (subst (λ (z : List WrittenExpression). CutScript text kind m 0 0 [] z 0) (sym b) done)
