-- A text that means a script has no fault.
use Rattle.std.proofs.Common.{Bool, ◌≡◌, ℕ, suc, ◌+◌, List, [], ◌∷◌, ◌++◌, map, length, Option, Some, None, refl, sym, ap, subst, ◌∙◌, arith, length-append}
use Rattle.std.proofs.lemmas.List.{map-append}
use Rattle.sedre.specs.declared.types.Kind.{Kind}
use Rattle.sedre.specs.Tree.{WrittenExpression, expression_tree, Tree}
use Rattle.sedre.specs.Grammar.{ReadsAs}
use Rattle.sedscript.specs.declared.types.ScriptFault.{ScriptFault}
use Rattle.sedscript.specs.declared.items.Item.{Item}
use Rattle.sedscript.specs.declared.items.ItemOrEnd.{ItemOrEnd}
use Rattle.sedscript.specs.declared.items.ItemOrEnd.TheVariants.{Is, Ends}
use Rattle.sedscript.specs.declared.bytes.Sort.TheVariants.{Separator}
use Rattle.sedscript.specs.Bytes.{past, bytes_between}
use Rattle.sedscript.specs.Items.{PatternExtent, Reading, item_at, item_from}
use Rattle.sedscript.specs.Script.{IsRead, Gives, value, after_expression, CutScript, done, next_item, IsEnd, Means, CutWithoutFault, target_fault}
use Rattle.sedscript.specs.FirstFault.{Fails, no_expression, later, Faulty, early, afterwards}
use Rattle.sedscript.specs.Program.{Program}

-- a text reads as one expression, with one number of groups
abbrev pub ReadsAsOne : Type 0
ReadsAsOne = (kind : Kind) (folded : Bool) (delimiter : Option ℕ) (text : List ℕ) (one other : Tree) (groups more : ℕ) →
    ReadsAs kind folded delimiter text one groups → ReadsAs kind folded delimiter text other more → (one ≡ other) × (groups ≡ more)

-- what follows one reading of a pattern follows the other
pub as_other : (text : List ℕ) (kind : Kind) (m : ℕ) (p : PatternExtent) (d e : WrittenExpression) → ReadsAsOne → IsRead text kind m p d → IsRead text kind m p e → d.groups ≡ e.groups
as_other text kind m p d e one h g = (one kind p.folded (Some p.delimiter) (bytes_between text p.from p.to) (expression_tree d) (expression_tree e) d.groups e.groups h.reads g.reads).1

-- what is read is one value, with one number of expressions
pub gives_one : {A : Type 0} (text : List ℕ) (kind : Kind) (m : ℕ) (r : Reading A) (es fs : List WrittenExpression) (a b : A) → ReadsAsOne →
    Gives text kind m r es a → Gives text kind m r fs b → (a ≡ b) × (length es ≡ length fs)
gives_one text kind m _ _ _ _ _ one value value = (refl, refl)
gives_one text kind m _ _ _ a b one (after_expression {p = p} {k = k} {es = es} d is g) (after_expression {es = fs} e is' g') =
    let same = as_other text kind m p d e one is is' in
    let h = gives_one text kind m (k e.groups) es fs a b one (subst (λ (n : ℕ). Gives text kind m (k n) es a) same g) g' in
    (h.0, ap suc h.1)

-- what is read has no fault
pub no_fails : {A : Type 0} (text : List ℕ) (kind : Kind) (m : ℕ) (r : Reading A) (es : List WrittenExpression) (a : A) (f : ScriptFault) → ReadsAsOne →
    Gives text kind m r es a → Fails text kind m r f → ⊥
no_fails text kind m _ _ _ _ one value h = elim h [ ]
no_fails text kind m _ _ a _ one (after_expression {p = p} d is g) (no_expression {f = f} bad) = is.no_fault f.place f.reason bad
no_fails text kind m _ _ a f one (after_expression {p = p} {k = k} {es = es} d is g) (later e is' bad) =
    no_fails text kind m (k e.groups) es a f one (subst (λ (n : ℕ). Gives text kind m (k n) es a) (as_other text kind m p d e one is is') g) bad

-- at the end there is nothing else
pub end_gives : (text : List ℕ) (kind : Kind) (m n at : ℕ) → IsEnd text at → Gives text kind m (item_at text n at) [] Ends
unfolding item_at
end_gives text kind m n at e = subst (λ (o : Option ℕ). Gives text kind m (item_from text n (past Separator text at) o) [] Ends) (sym e) value

-- the items of the next place
pub is_next : (i j : Item) (a b : ℕ) → ◌≡◌ {A = ItemOrEnd} (Is i a) (Is j b) → (i ≡ j) × (a ≡ b)
is_next i j a b e = (cc, cc)

-- at the end there is no item
no_item : {X : Type 0} (text : List ℕ) (kind : Kind) (m n at next : ℕ) (i : Item) (es : List WrittenExpression) → ReadsAsOne → IsEnd text at → Gives text kind m (item_at text n at) es (Is i next) → X
no_item text kind m n at next i es one end is =
    let same = gives_one text kind m (item_at text n at) [] es Ends (Is i next) one (end_gives text kind m n at end) is in
    let g : ◌≡◌ {A = ItemOrEnd} Ends (Is i next) = same.0 in absurd cc

-- two items at one place are one, and what follows the one follows the other
pub same_rest : (text : List ℕ) (kind : Kind) (m count at next other stop : ℕ) (i j : Item) (js : List Item) (es gs hs : List WrittenExpression) → ReadsAsOne →
    Gives text kind m (item_at text count at) es (Is i next) → Gives text kind m (item_at text count at) gs (Is j other) → CutScript text kind m (count + length gs) other js hs stop →
    (i ≡ j) × (length gs ≡ length es) × CutScript text kind m (count + length es) next js hs stop
same_rest text kind m count at next other stop i j js es gs hs one is is' rest =
    let both = gives_one text kind m (item_at text count at) es gs (Is i next) (Is j other) one is is' in
    let same = is_next i j next other both.0 in
    let long : length gs ≡ length es = sym both.1 in
    (same.0, long, subst (λ (k : ℕ). CutScript text kind m (count + k) next js hs stop) long (subst (λ (k : ℕ). CutScript text kind m (count + length gs) k js hs stop) (sym same.1) rest))

-- no fault follows a cut that another cut goes on from
pub cut_no_fault : (text : List ℕ) (kind : Kind) (m count at to stop : ℕ) (is js : List Item) (es fs : List WrittenExpression) (f : ScriptFault) (n : ℕ) → ReadsAsOne →
    CutScript text kind m count at is es to → IsEnd text to → CutScript text kind m count at js fs stop → n ≡ count + length fs → Fails text kind m (item_at text n stop) f → ⊥
cut_no_fault text kind m count at to stop _ _ _ _ f n one done ends done e bad =
    no_fails text kind m (item_at text n at) [] Ends f one (end_gives text kind m n at ends) bad
cut_no_fault text kind m count at to stop _ _ _ _ f n one done ends (next_item {next = next} {i = j} es fs is rest) e bad = no_item text kind m count at next j es one ends is
cut_no_fault text kind m count at to stop _ _ _ _ f n one (next_item {next = next} {i = i} es fs is rest) ends done e bad =
    let same : n ≡ count = e ∙ omega arith in
    no_fails text kind m (item_at text count at) es (Is i next) f one is (subst (λ (k : ℕ). Fails text kind m (item_at text k at) f) same bad)
cut_no_fault text kind m count at to stop _ _ _ _ f n one (next_item {next = next} {i = i} {is = is0} es fs is rest) ends (next_item {next = other} {i = j} {is = js0} gs hs is' rest') e bad =
    let same = same_rest text kind m count at next other stop i j js0 es gs hs one is is' rest' in
    cut_no_fault text kind m (count + length es) next to stop is0 js0 fs hs f n one rest ends same.2 (e ∙ (ap (λ (k : ℕ). count + k) (length-append gs hs) ∙ omega (arith, same.1))) bad

-- what is looked at is the same of two expressions with one tree and one number of groups
abbrev pub Alike : {X : Type 0} → (WrittenExpression → X) → Type 0
Alike look = (d e : WrittenExpression) → expression_tree d ≡ expression_tree e → d.groups ≡ e.groups → look d ≡ look e

gives_alike : {A X : Type 0} (look : WrittenExpression → X) (text : List ℕ) (kind : Kind) (m : ℕ) (r : Reading A) (es fs : List WrittenExpression) (a b : A) → Alike look → ReadsAsOne →
    Gives text kind m r es a → Gives text kind m r fs b → map look es ≡ map look fs
gives_alike look text kind m _ _ _ _ _ alike one value value = refl
gives_alike look text kind m _ _ _ a b alike one (after_expression {p = p} {k = k} {es = es} d is g) (after_expression {es = fs} e is' g') =
    let both = one kind p.folded (Some p.delimiter) (bytes_between text p.from p.to) (expression_tree d) (expression_tree e) d.groups e.groups is.reads is'.reads in
    let rest = gives_alike look text kind m (k e.groups) es fs a b alike one (subst (λ (n : ℕ). Gives text kind m (k n) es a) both.1 g) g' in
    ap (λ x. x ∷ map look es) (alike d e both.0 both.1) ∙ ap (λ xs. look e ∷ xs) rest

-- two cuts up to the end have the same items, and the same expressions as far as these are looked at
pub cut_alike : {X : Type 0} (look : WrittenExpression → X) (text : List ℕ) (kind : Kind) (m count at to stop : ℕ) (is js : List Item) (es fs : List WrittenExpression) → Alike look → ReadsAsOne →
    CutScript text kind m count at is es to → IsEnd text to → CutScript text kind m count at js fs stop → IsEnd text stop → (is ≡ js) × (map look es ≡ map look fs)
cut_alike look text kind m count at to stop _ _ _ _ alike one done ends done stops = (refl, refl)
cut_alike look text kind m count at to stop _ _ _ _ alike one done ends (next_item {next = next} {i = j} es fs is rest) stops = no_item text kind m count at next j es one ends is
cut_alike look text kind m count at to stop _ _ _ _ alike one (next_item {next = next} {i = i} es fs is rest) ends done stops = no_item text kind m count at next i es one stops is
cut_alike look text kind m count at to stop _ _ _ _ alike one (next_item {next = next} {i = i} {is = is0} es fs is rest) ends (next_item {next = other} {i = j} {is = js0} gs hs is' rest') stops =
    let same = same_rest text kind m count at next other stop i j js0 es gs hs one is is' rest' in
    let here = gives_alike look text kind m (item_at text count at) es gs (Is i next) (Is j other) alike one is is' in
    let tail = cut_alike look text kind m (count + length es) next to stop is0 js0 fs hs alike one rest ends same.2 stops in (
      ap (λ (y : List Item). i ∷ y) tail.0 ∙ ap (λ (x : Item). x ∷ js0) same.0,
      map-append look es fs ∙ (ap (λ xs. xs ++ map look fs) here ∙ (ap (λ xs. map look gs ++ xs) tail.1 ∙ sym (map-append look gs hs))),
    )

pub cut_same : (text : List ℕ) (kind : Kind) (m to stop : ℕ) (is js : List Item) (es fs : List WrittenExpression) → ReadsAsOne →
    CutScript text kind m 0 0 is es to → IsEnd text to → CutScript text kind m 0 0 js fs stop → IsEnd text stop → is ≡ js
cut_same text kind m to stop is js es fs one cut ends other stops = (cut_alike expression_tree text kind m 0 0 to stop is js es fs (λ d e tree groups. tree) one cut ends other stops).0

-- a text that is cut to its end with nothing wrong has no fault
pub judged_no_fault : (text : List ℕ) (kind : Kind) (m : ℕ) (is : List Item) (fs : List WrittenExpression) (to : ℕ) (f : ScriptFault) → ReadsAsOne → CutWithoutFault text kind m is fs to → Faulty text kind m f → ⊥
judged_no_fault text kind m is fs to f one h (early items es stop cut bad) = cut_no_fault text kind m 0 0 to stop is items fs es f (length es) one h.cut h.ends cut (omega arith) bad
judged_no_fault text kind m is0 fs to f one h (afterwards items es stop cut ends is) =
    let same : is0 ≡ items = cut_same text kind m to stop is0 items fs es one h.cut h.ends cut ends in
    let g : ◌≡◌ {A = Option ScriptFault} None (Some f) = sym h.settled ∙ (ap (target_fault text) same ∙ is) in cc

-- what means a script has no fault
pub means_no_fault : ReadsAsOne → (text : List ℕ) (kind : Kind) (m : ℕ) (s : Program) (f : ScriptFault) → Means text kind m s → Faulty text kind m f → ⊥
means_no_fault one text kind m s f h bad = judged_no_fault text kind m h.items s.expressions h.to f one h.judged bad
