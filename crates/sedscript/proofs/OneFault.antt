-- A text has one first fault at most.
use Rattle.std.proofs.Common.{◌≡◌, ℕ, ◌+◌, List, length, Option, Some, refl, sym, ap, subst, ◌∙◌, arith, length-append}
use Rattle.sedre.specs.declared.types.Kind.{Kind}
use Rattle.sedre.specs.declared.types.ExprReason.{ExprReason}
use Rattle.sedre.specs.declared.types.ExprFault.{ExprFault}
use Rattle.sedre.specs.Tree.{WrittenExpression}
use Rattle.sedre.specs.Grammar.{ExprFaulty}
use Rattle.sedscript.specs.declared.types.ScriptFault.{ScriptFault}
use Rattle.sedscript.specs.declared.items.Item.{Item}
use Rattle.sedscript.specs.declared.items.ItemOrEnd.TheVariants.{Is}
use Rattle.sedscript.specs.Bytes.{bytes_between}
use Rattle.sedscript.specs.Items.{Reading, item_at}
use Rattle.sedscript.specs.FirstFault.{Fails, own, no_expression, later, in_script, Faulty, early, afterwards}
use Rattle.sedscript.specs.Script.{CutScript, done, next_item, target_fault}
use Rattle.sedscript.proofs.Exclusive.{ReadsAsOne, as_other, no_fails, same_rest, cut_no_fault, cut_same}

-- an expression's text has one first fault at most
abbrev pub OneExprFault : Type 0
OneExprFault = (kind : Kind) (delimiter : Option ℕ) (text : List ℕ) (max_nodes place more : ℕ) (reason other : ExprReason) →
    ExprFaulty kind delimiter text max_nodes place reason → ExprFaulty kind delimiter text max_nodes more other →
    (place ≡ more) × (reason ≡ other)

in_script_one : (from : ℕ) (f g : ExprFault) → (f.place ≡ g.place) × (f.reason ≡ g.reason) → in_script from f ≡ in_script from g
in_script_one from f g h =
    let place : in_script from f ≡ in_script from (record { place = g.place; reason = f.reason }) = ap (λ (p : ℕ). in_script from (record { place = p; reason = f.reason })) h.0 in
    place ∙ ap (λ (r : ExprReason). in_script from (record { place = g.place; reason = r })) h.1

-- what is read has one fault at most
pub fails_one : {A : Type 0} (text : List ℕ) (kind : Kind) (m : ℕ) (r : Reading A) (f g : ScriptFault) → ReadsAsOne → OneExprFault →
    Fails text kind m r f → Fails text kind m r g → f ≡ g
fails_one text kind m _ _ _ one once own own = refl
fails_one text kind m _ _ _ one once (no_expression {p = p} {f = f} bad) (no_expression {f = g} worse) =
    in_script_one p.from f g (once kind (Some p.delimiter) (bytes_between text p.from p.to) m f.place g.place f.reason g.reason bad worse)
fails_one text kind m _ _ _ one once (no_expression {f = f} bad) (later e is h) = absurd (is.no_fault f.place f.reason bad)
fails_one text kind m _ _ _ one once (later e is h) (no_expression {f = f} bad) = absurd (is.no_fault f.place f.reason bad)
fails_one text kind m _ f g one once (later {p = p} {k = k} d is h) (later e is' h') =
    fails_one text kind m (k e.groups) f g one once (subst (λ (n : ℕ). Fails text kind m (k n) f) (as_other text kind m p d e one is is') h) h'

-- after two cuts from one place comes one fault
pub cut_one_fault : (text : List ℕ) (kind : Kind) (m count at to stop : ℕ) (is js : List Item) (es fs : List WrittenExpression) (f g : ScriptFault) (n k : ℕ) → ReadsAsOne → OneExprFault →
    CutScript text kind m count at is es to → n ≡ count + length es → Fails text kind m (item_at text n to) f →
    CutScript text kind m count at js fs stop → k ≡ count + length fs → Fails text kind m (item_at text k stop) g → f ≡ g
cut_one_fault text kind m count at to stop _ _ _ _ f g n k one once done e bad done d worse =
    let same : k ≡ n = d ∙ sym e in
    fails_one text kind m (item_at text n at) f g one once bad (subst (λ (x : ℕ). Fails text kind m (item_at text x at) g) same worse)
cut_one_fault text kind m count at to stop _ _ _ _ f g n k one once done e bad (next_item {next = next} {i = j} es fs is rest) d worse =
    let same : n ≡ count = e ∙ omega arith in
    absurd (no_fails text kind m (item_at text count at) es (Is j next) f one is (subst (λ (x : ℕ). Fails text kind m (item_at text x at) f) same bad))
cut_one_fault text kind m count at to stop _ _ _ _ f g n k one once (next_item {next = next} {i = i} es fs is rest) e bad done d worse =
    let same : k ≡ count = d ∙ omega arith in
    absurd (no_fails text kind m (item_at text count at) es (Is i next) g one is (subst (λ (x : ℕ). Fails text kind m (item_at text x at) g) same worse))
cut_one_fault text kind m count at to stop _ _ _ _ f g n k one once (next_item {next = next} {i = i} {is = is0} es fs is rest) e bad (next_item {next = other} {i = j} {is = js0} gs hs is' rest') d worse =
    let same = same_rest text kind m count at next other stop i j js0 es gs hs one is is' rest' in
    cut_one_fault text kind m (count + length es) next to stop is0 js0 fs hs f g n k one once
    rest (e ∙ (ap (λ (x : ℕ). count + x) (length-append es fs) ∙ omega arith)) bad
    same.2 (d ∙ (ap (λ (x : ℕ). count + x) (length-append gs hs) ∙ omega (arith, same.1))) worse

-- the first fault of a text is one
pub one_fault : ReadsAsOne → OneExprFault → (text : List ℕ) (kind : Kind) (m : ℕ) (f g : ScriptFault) → Faulty text kind m f → Faulty text kind m g → f ≡ g
one_fault one once text kind m f g (early is es to cut bad) (early js fs stop cut' worse) =
    cut_one_fault text kind m 0 0 to stop is js es fs f g (length es) (length fs) one once cut (omega arith) bad cut' (omega arith) worse
one_fault one once text kind m f g (early is es to cut bad) (afterwards js fs stop cut' ends found) =
    absurd (cut_no_fault text kind m 0 0 stop to js is fs es f (length es) one cut' ends cut (omega arith) bad)
one_fault one once text kind m f g (afterwards is es to cut ends found) (early js fs stop cut' worse) =
    absurd (cut_no_fault text kind m 0 0 to stop is js es fs g (length fs) one cut ends cut' (omega arith) worse)
one_fault one once text kind m f g (afterwards is es to cut ends found) (afterwards js fs stop cut' ends' other) =
    let items : is ≡ js = cut_same text kind m to stop is js es fs one cut ends cut' ends' in
    let both : ◌≡◌ {A = Option ScriptFault} (Some f) (Some g) = sym found ∙ (ap (target_fault text) items ∙ other) in cc
