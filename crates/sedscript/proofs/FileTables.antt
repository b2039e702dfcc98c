-- The tables of files.
use Rattle.std.proofs.Common.{◌≡◌, ℕ, ◌+◌, Bool, true, false, cond, not, ◌||◌, List, [], ◌∷◌, ◌++◌, length, map, filter, filter_map, take, slice_get, Option, Some, None, is_some, refl, sym, ap, subst, ◌∙◌, arith, if◌then◌else◌, Bor, Vec, Global}
use Rattle.std.specs.Str.{bytes_eq}
use Rattle.std.specs.List.{list_any, position_from, cons_option}
use Rattle.std.specs.BTreeMap.{BTreeMap, UpdatesBy}
use Rattle.std.specs.Cmp.Lexicographic.{slice_cmp}
use Rattle.std.specs.Option.{option_or}
use Rattle.std.specs.Ordering.{nat_cmp}
use Rattle.std.proofs.lemmas.List.{append-nil, map-append}
use Rattle.std.proofs.lemmas.List.Elements.{filter-append, filter_map-append}
use Rattle.std.proofs.lemmas.Slice.Eq.{bytes_eq-Decides}
use Rattle.sedscript.specs.declared.types.FileUse.{FileUse}
use Rattle.sedscript.specs.declared.items.Item.{Item}
use Rattle.sedscript.specs.Script.{name_in, file_in, distinct, files_in}
use Rattle.sedscript.specs.Tables.{labelled, with_name, NumbersAre}
use Rattle.sedscript.proofs.Labels.{take_item, label_added, none_of, option_or_if}

abbrev Numbers : Type 0
Numbers = BTreeMap (Bor (List ℕ)) ℕ

-- names

abbrev others : List ℕ → List (List ℕ) → List (List ℕ)
others y ds = filter (λ m. not (bytes_eq y m)) ds

pub same_swap : (x y : List ℕ) → bytes_eq x y ≡ bytes_eq y x
same_swap x y = by_both (bytes_eq x y) (bytes_eq y x) refl refl
  where
    by_both : (b c : Bool) → bytes_eq x y ≡ b → bytes_eq y x ≡ c → b ≡ c
    by_both true true e f = refl
    by_both false false e f = refl
    by_both true false e f = let same : x ≡ y = (bytes_eq-Decides x y).0 e in sym ((bytes_eq-Decides y x).1 (sym same)) ∙ f
    by_both false true e f = let same : y ≡ x = (bytes_eq-Decides y x).0 f in sym e ∙ (bytes_eq-Decides x y).1 (sym same)

-- another name is kept
any_kept : (x y : List ℕ) (ds : List (List ℕ)) → bytes_eq x y ≡ false → list_any (bytes_eq x) (others y ds) ≡ list_any (bytes_eq x) ds
any_kept x y [] h = refl
any_kept x y (d ∷ ds) h = by_same (any_kept x y ds h) (bytes_eq y d) refl
  where
    by_same : list_any (bytes_eq x) (others y ds) ≡ list_any (bytes_eq x) ds → (b : Bool) → bytes_eq y d ≡ b → list_any (bytes_eq x) (cond (not b) (d ∷ others y ds) (others y ds)) ≡ (bytes_eq x d || list_any (bytes_eq x) ds)
    by_same rest false e = ap (λ (t : Bool). bytes_eq x d || t) rest
    by_same rest true e =
        let same : y ≡ d = (bytes_eq-Decides y d).0 e in
        let other : bytes_eq x d ≡ false = ap (bytes_eq x) (sym same) ∙ h in
        rest ∙ sym (ap (λ (t : Bool). t || list_any (bytes_eq x) ds) other)

-- the distinct names with one more
distinct_snoc : (xs : List (List ℕ)) (x : List ℕ) → distinct (xs ++ x ∷ []) ≡ with_name (distinct xs) (Some x)
distinct_snoc [] x = refl
distinct_snoc (y ∷ ys) x =
    let ds : List (List ℕ) = distinct ys in
    ap (λ (z : List (List ℕ)). y ∷ others y z) (distinct_snoc ys x) ∙ by_same ds (bytes_eq x y) refl (list_any (bytes_eq x) ds) refl
  where
    by_same : (ds : List (List ℕ)) (b : Bool) → bytes_eq x y ≡ b → (c : Bool) → list_any (bytes_eq x) ds ≡ c →
        y ∷ others y (if c then ds else ds ++ x ∷ []) ≡ (if b || list_any (bytes_eq x) (others y ds) then y ∷ others y ds else y ∷ (others y ds ++ x ∷ []))
    by_same ds true e true f = refl
    by_same ds true e false f =
        ap (λ (z : List (List ℕ)). y ∷ z)
        (filter-append (λ (m : List ℕ). not (bytes_eq y m)) ds (x ∷ [])
        ∙ (ap (λ (t : Bool). others y ds ++ cond (not t) (x ∷ []) []) (same_swap y x ∙ e) ∙ append-nil (others y ds)))
    by_same ds false e true f = sym (ap (λ (t : Bool). if t then y ∷ others y ds else y ∷ (others y ds ++ x ∷ [])) (any_kept x y ds e ∙ f))
    by_same ds false e false f =
        ap (λ (z : List (List ℕ)). y ∷ z)
        (filter-append (λ (m : List ℕ). not (bytes_eq y m)) ds (x ∷ [])
        ∙ ap (λ (t : Bool). others y ds ++ cond (not t) (x ∷ []) []) (same_swap y x ∙ e))
        ∙ sym (ap (λ (t : Bool). if t then y ∷ others y ds else y ∷ (others y ds ++ x ∷ [])) (any_kept x y ds e ∙ f))

distinct_more : (xs : List (List ℕ)) (o : Option (List ℕ)) → distinct (xs ++ cons_option o []) ≡ with_name (distinct xs) o
distinct_more xs None = ap distinct (append-nil xs)
distinct_more xs (Some x) = distinct_snoc xs x

-- a name is kept once
pub any_distinct : (x : List ℕ) (xs : List (List ℕ)) → list_any (bytes_eq x) xs ≡ true → list_any (bytes_eq x) (distinct xs) ≡ true
any_distinct x [] h = h
any_distinct x (y ∷ ys) h = by_same (λ h. any_distinct x ys h) (bytes_eq x y) refl h
  where
    by_same : (list_any (bytes_eq x) ys ≡ true → list_any (bytes_eq x) (distinct ys) ≡ true) → (b : Bool) → bytes_eq x y ≡ b → (b || list_any (bytes_eq x) ys) ≡ true → (b || list_any (bytes_eq x) (others y (distinct ys))) ≡ true
    by_same rest true e h = refl
    by_same rest false e h = any_kept x y (distinct ys) e ∙ rest h

-- the files of one item more
pub files_step : (u : FileUse) (text : List ℕ) (items : List Item) (k : ℕ) (i : Item) → slice_get items k ≡ Some i →
    files_in u text (take (k + 1) items) ≡ with_name (files_in u text (take k items)) (file_in u (name_in u text i.verb i.argument))
files_step u text items k i at =
    ap (files_in u text) (take_item items k i at)
    ∙ (ap distinct (filter_map-append (λ (i : Item). file_in u (name_in u text i.verb i.argument)) (take k items) (i ∷ []))
    ∙ distinct_more (filter_map (λ (i : Item). file_in u (name_in u text i.verb i.argument)) (take k items)) (file_in u (name_in u text i.verb i.argument)))

-- numbers

-- the number of a name among these is that of one before the last, or else that of the last
position_snoc : (name x : List ℕ) (first at : ℕ) (ns : List (List ℕ)) → at ≡ first + length ns →
    position_from (bytes_eq name) first (ns ++ x ∷ []) ≡ option_or (position_from (bytes_eq name) first ns) (if bytes_eq name x then Some at else None)
position_snoc name x first at [] e = ap (λ (n : ℕ). if bytes_eq name x then Some n else None) (let same : first ≡ at = omega (arith, e) in same)
position_snoc name x first at (n ∷ ns) e =
    option_or_if (bytes_eq name n) first (position_from (bytes_eq name) (first + 1) (ns ++ x ∷ [])) (position_from (bytes_eq name) (first + 1) ns)
    (if bytes_eq name x then Some at else None) (position_snoc name x (first + 1) at ns (omega (arith, e)))

-- a name is one of these where it has a number
pub any_number : (x : List ℕ) (first : ℕ) (ns : List (List ℕ)) → list_any (bytes_eq x) ns ≡ is_some (position_from (bytes_eq x) first ns)
any_number x first [] = refl
any_number x first (n ∷ ns) = by_same (any_number x (first + 1) ns) (bytes_eq x n)
  where
    by_same : list_any (bytes_eq x) ns ≡ is_some (position_from (bytes_eq x) (first + 1) ns) → (b : Bool) → (b || list_any (bytes_eq x) ns) ≡ is_some (cond b (Some first) (position_from (bytes_eq x) (first + 1) ns))
    by_same rest true = refl
    by_same rest false = rest

any_found : (x : List ℕ) (first : ℕ) (ns : List (List ℕ)) (m : Numbers) (b : Bool) → b ≡ is_some (labelled m x) → NumbersAre first ns m → list_any (bytes_eq x) ns ≡ b
any_found x first ns m b found are = any_number x first ns ∙ (ap (λ (o : Option ℕ). is_some o) (sym (are x)) ∙ sym found)

-- a name that is there
pub name_kept : (first : ℕ) (ns names : List (List ℕ)) (name : List ℕ) (m : Numbers) (b : Bool) → b ≡ is_some (labelled m name) → b ≡ true → names ≡ ns → NumbersAre first ns m →
    (names ≡ with_name ns (Some name)) × NumbersAre first (with_name ns (Some name)) m
name_kept first ns names name m b found there same are =
    let kept : ns ≡ with_name ns (Some name) = sym (ap (λ (t : Bool). if t then ns else ns ++ name ∷ []) (any_found name first ns m b found are ∙ there)) in
    (same ∙ kept, subst (λ (z : List (List ℕ)). NumbersAre first z m) kept are)

-- a name that is new
pub name_added : (first number : ℕ) (ns names more : List (List ℕ)) (name : List ℕ) (old new : Numbers) (b : Bool) → b ≡ is_some (labelled old name) → b ≡ false →
    number ≡ first + length names → more ≡ names ++ name ∷ [] → UpdatesBy (λ x y. slice_cmp nat_cmp x.now y.now) (λ x. slice_cmp nat_cmp name x.now) old new (Some number) →
    names ≡ ns → NumbersAre first ns old →
    (more ≡ with_name ns (Some name)) × NumbersAre first (with_name ns (Some name)) new
name_added first number ns names more name old new b found missing count grown updates same are =
    let more_is : with_name ns (Some name) ≡ ns ++ name ∷ [] = ap (λ (t : Bool). if t then ns else ns ++ name ∷ []) (any_found name first ns old b found are ∙ missing) in
    let at : number ≡ first + length ns = count ∙ ap (λ (z : List (List ℕ)). first + length z) same in (
      grown ∙ (ap (λ (z : List (List ℕ)). z ++ name ∷ []) same ∙ sym more_is),
      subst (λ (z : List (List ℕ)). NumbersAre first z new) (sym more_is)
          (λ (x : List ℕ). label_added name number old new updates (none_of (labelled old name) b found missing) x
          ∙ (ap (λ (o : Option ℕ). option_or o (if bytes_eq name x then Some number else None)) (are x)
          ∙ (ap (λ (t : Bool). option_or (position_from (bytes_eq x) first ns) (if t then Some number else None)) (same_swap name x)
          ∙ sym (position_snoc x name first number ns at)))),
    )

-- the texts of a list with one more
pub items_pushed : (old new : List (Vec ℕ Global)) (v : Vec ℕ Global) (name : List ℕ) → new ≡ old ++ v ∷ [] → v.items ≡ name →
    map (λ (n : Vec ℕ Global). n.items) new ≡ map (λ (n : Vec ℕ Global). n.items) old ++ name ∷ []
items_pushed old new v name grown is =
    ap (map (λ (n : Vec ℕ Global). n.items)) grown ∙ (map-append (λ (n : Vec ℕ Global). n.items) old (v ∷ [])
    ∙ ap (λ (z : List ℕ). map (λ (n : Vec ℕ Global). n.items) old ++ z ∷ []) is)
