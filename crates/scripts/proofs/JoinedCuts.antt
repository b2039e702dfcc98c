-- Two texts with a newline between them are cut into the items of the one and then those of the other.
use Rattle.std.proofs.Common.{◌≡◌, ℕ, suc, ◌+◌, ◌≤◌, cond, Bool, true, false, List, [], ◌∷◌, ◌++◌, length, map, Option, Some, None, refl, sym, ap, subst, ◌∙◌, arith, slice_get, drop, append_assoc, length-append, length-drop, zero-add, add-zero}
use Rattle.std.proofs.Math.Seq.{drop-append-add}
use Rattle.std.specs.List.{prefix_len}
use Rattle.std.proofs.lemmas.List.{append-nil}
use Rattle.sedre.specs.declared.types.Kind.{Kind}
use Rattle.sedre.specs.Tree.{WrittenExpression}
use Rattle.sedengine.proofs.Writing.{slice_get-append_add}
use Rattle.sedscript.specs.declared.bytes.Sort.TheVariants.{Separator}
use Rattle.sedscript.specs.declared.items.Item.{Item}
use Rattle.sedscript.specs.declared.items.ItemOrEnd.TheVariants.{Is}
use Rattle.sedscript.specs.Bytes.{past, belongs}
use Rattle.sedscript.specs.Items.{item_at, item_from}
use Rattle.sedscript.specs.Script.{Gives, CutScript, done, next_item, IsEnd}
use Rattle.scripts.proofs.LongerText.{tail_of, get_drop, rest_on}
use Rattle.scripts.proofs.LongerFunctions.{ArgumentIn}
use Rattle.scripts.proofs.LongerReading.{move_item, item_on}

-- what items name lies in a text of this length
abbrev pub ItemsIn : ℕ → List Item → Type 0
ItemsIn end [] = Unit {0}
ItemsIn end (i ∷ is) = ArgumentIn end i.argument × ItemsIn end is

-- a cut of a text is one of a longer text
pub cut_on : (before text : List ℕ) (more : Option (List ℕ)) (n : ℕ) (kind : Kind) (m count at to : ℕ) (is : List Item) (es : List WrittenExpression) → CutScript text kind m count at is es to → at ≤ length text →
    CutScript (before ++ (text ++ tail_of more)) kind m (n + count) (length before + at) (map (move_item (length before) n) is) es (length before + to) × ItemsIn (length text) is × (to ≤ length text)
cut_on before text more n kind m count at to _ _ done le = (done, tt, le)
cut_on before text more n kind m count at to _ _ (next_item {next = next} {i = i} {is = is} es fs given rest) le =
    let here = item_on before text more n kind m count at next es i le given in
    let behind = cut_on before text more n kind m (count + length es) next to is fs rest here.2 in
    let counted : n + (count + length es) ≡ n + count + length es = omega arith in
    (next_item es fs here.0 (subst (λ (c : ℕ). CutScript (before ++ (text ++ tail_of more)) kind m c (length before + next) (map (move_item (length before) n) is) fs (length before + to)) counted behind.0), (here.1, behind.1), behind.2)

-- one cut after another
cut_then : (text : List ℕ) (kind : Kind) (m count number at mid to : ℕ) (is js : List Item) (es fs : List WrittenExpression) → CutScript text kind m count at is es mid → number ≡ count + length es → CutScript text kind m number mid js fs to →
    CutScript text kind m count at (is ++ js) (es ++ fs) to
cut_then text kind m count number at mid to _ js _ fs done e rest =
    let same : number ≡ count = e ∙ omega arith in subst (λ (c : ℕ). CutScript text kind m c at js fs to) same rest
cut_then text kind m count number at mid to _ js _ fs (next_item {next = next} {i = i} {is = is} es gs given left) e rest =
    subst (λ (z : List WrittenExpression). CutScript text kind m count at (i ∷ (is ++ js)) z to) (sym (append_assoc es gs fs))
    (next_item es (gs ++ fs) given (cut_then text kind m (count + length es) number next mid to is js gs fs left (e ∙ (ap (λ (k : ℕ). count + k) (length-append es gs) ∙ omega arith)) rest))

-- a cut may begin at another place, where only separators lie between the two
cut_from : (text : List ℕ) (kind : Kind) (m count at place to : ℕ) (is : List Item) (es : List WrittenExpression) → past Separator text place ≡ past Separator text at → CutScript text kind m count at is es to → IsEnd text to →
    (till : ℕ) × CutScript text kind m count place is es till × IsEnd text till
unfolding item_at
cut_from text kind m count at place to _ _ e done ends = (place, done, ap (slice_get text) e ∙ ends)
cut_from text kind m count at place to _ _ e (next_item {next = next} {i = i} {is = is} es fs given rest) ends =
    (to, next_item es fs (subst (λ (k : ℕ). Gives text kind m (item_from text count k (slice_get text k)) es (Is i next)) (sym e) given) rest, ends)

all_pass : (f : ℕ → Bool) (xs ys : List ℕ) → slice_get xs (prefix_len f xs) ≡ None → prefix_len f (xs ++ ys) ≡ length xs + prefix_len f ys
all_pass f [] ys h = omega arith
all_pass f (x ∷ xs) ys h = by_test (f x) h (λ g. all_pass f xs ys g)
  where
    by_test : (t : Bool) → slice_get (x ∷ xs) (cond t (1 + prefix_len f xs) 0) ≡ None → (slice_get xs (prefix_len f xs) ≡ None → prefix_len f (xs ++ ys) ≡ length xs + prefix_len f ys) →
        cond t (1 + prefix_len f (xs ++ ys)) 0 ≡ length (x ∷ xs) + prefix_len f ys
    by_test true h on = let one : 1 + prefix_len f xs ≡ suc (prefix_len f xs) = omega arith in let rest = on (ap (slice_get (x ∷ xs)) (sym one) ∙ h) in omega (arith, rest)
    by_test false h on = absurd cc

-- at the end of the text is the end of a longer one, where nothing follows the text
ends_on : (before text : List ℕ) (at : ℕ) → at ≤ length text → IsEnd text at → IsEnd (before ++ (text ++ [])) (length before + at)
unfolding past
ends_on before text at le ends =
    let long : prefix_len (belongs Separator) (drop (length before + at) (before ++ (text ++ []))) ≡ prefix_len (belongs Separator) (drop at text) = ap (prefix_len (belongs Separator)) (rest_on before text None at le ∙ append-nil (drop at text)) in
    let place : length before + at + prefix_len (belongs Separator) (drop (length before + at) (before ++ (text ++ []))) ≡ length before + past Separator text at = omega (arith, long) in
    ap (slice_get (before ++ (text ++ []))) place ∙ (slice_get-append_add before (text ++ []) (past Separator text at) ∙ (ap (λ (bs : List ℕ). slice_get bs (past Separator text at)) (append-nil text) ∙ ends))

-- the two texts with a newline between them
module _ (a b : List ℕ) where
  abbrev joined : List ℕ
  joined = a ++ 10 ∷ b

  -- where the second begins
  abbrev base : ℕ
  base = length (a ++ 10 ∷ [])

  pub same_text : (a ++ 10 ∷ []) ++ (b ++ []) ≡ joined
  same_text = append_assoc a (10 ∷ []) (b ++ []) ∙ ap (λ (bs : List ℕ). a ++ 10 ∷ bs) (append-nil b)

  base_is : base ≡ length a + 1
  base_is = length-append a (10 ∷ [])

  -- the separators behind the first text end where those before the second do
  separators_on : (to : ℕ) → IsEnd a to → to ≤ length a → past Separator joined to ≡ past Separator joined base
  unfolding past
  separators_on to ends le =
      let first : drop (0 + to) joined ≡ drop to a ++ 10 ∷ b = rest_on [] a (Some b) to le in
      let behind : drop to joined ≡ drop to a ++ 10 ∷ b = ap (λ (n : ℕ). drop n joined) (sym (zero-add to)) ∙ first in
      let second : drop base joined ≡ b = ap (λ (n : ℕ). drop n joined) base_is ∙ drop-append-add a (10 ∷ b) 1 in
      let pass : prefix_len (belongs Separator) (drop to a ++ 10 ∷ b) ≡ length (drop to a) + (1 + prefix_len (belongs Separator) b) = all_pass (belongs Separator) (drop to a) (10 ∷ b) (get_drop a to (prefix_len (belongs Separator) (drop to a)) (past Separator a to) refl ∙ ends) in
      let left : prefix_len (belongs Separator) (drop to joined) ≡ length (drop to a) + (1 + prefix_len (belongs Separator) b) = ap (prefix_len (belongs Separator)) behind ∙ pass in
      let right : prefix_len (belongs Separator) (drop base joined) ≡ prefix_len (belongs Separator) b = ap (prefix_len (belongs Separator)) second in
      omega (arith, left, right, base_is, le, length-drop to a)

  pub joined_cut : (kind : Kind) (m to till n : ℕ) (is js : List Item) (es fs : List WrittenExpression) → CutScript a kind m 0 0 is es to → IsEnd a to → CutScript b kind m 0 0 js fs till → IsEnd b till → n ≡ length es →
      (end : ℕ) × CutScript joined kind m 0 0 (map (move_item 0 0) is ++ map (move_item base n) js) (es ++ fs) end × IsEnd joined end × ItemsIn (length a) is × ItemsIn (length b) js
  joined_cut kind m to till n is js es fs first ends second stops count =
      let one = cut_on [] a (Some b) 0 kind m 0 0 to is es first (omega arith) in
      let two = cut_on (a ++ 10 ∷ []) b None n kind m 0 0 till js fs second (omega arith) in
      let begins : past Separator joined (0 + to) ≡ past Separator joined (base + 0) =
      ap (past Separator joined) (zero-add to) ∙ (separators_on to ends one.2 ∙ ap (past Separator joined) (sym (add-zero base))) in
      let there : CutScript joined kind m (n + 0) (base + 0) (map (move_item base n) js) fs (base + till) = subst (λ (t : List ℕ). CutScript t kind m (n + 0) (base + 0) (map (move_item base n) js) fs (base + till)) same_text two.0 in
      let there_ends : IsEnd joined (base + till) = subst (λ (t : List ℕ). IsEnd t (base + till)) same_text (ends_on (a ++ 10 ∷ []) b till two.2 stops) in
      let on = cut_from joined kind m (n + 0) (base + 0) (0 + to) (base + till) (map (move_item base n) js) fs begins there there_ends in
      (on.0, cut_then joined kind m 0 (n + 0) 0 (0 + to) on.0 (map (move_item 0 0) is) (map (move_item base n) js) es fs one.0 (count_so count) on.1, on.2, one.1, two.1)
    where
      count_so : n ≡ length es → n + 0 ≡ 0 + length es
      count_so e = omega (arith, e)
