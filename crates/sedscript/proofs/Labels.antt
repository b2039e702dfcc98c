-- The table of labels.
use Rattle.std.proofs.Common.{◌≡◌, ℕ, zero, suc, ◌+◌, ◌<◌, ◌≤◌, Bool, true, false, cond, List, [], ◌∷◌, ◌++◌, length, take, drop, not, drop-cons, ◌==◌, Option, Some, None, is_some, option_map, refl, sym, ap, ◌∙◌, arith, inl, inr, length-take-le, if◌then◌else◌, slice_get, Bor}
use Rattle.std.specs.Str.{bytes_eq}
use Rattle.std.specs.BTreeMap.{BTreeMap, UpdatesBy}
use Rattle.std.specs.Cmp.Lexicographic.{slice_cmp}
use Rattle.std.specs.Option.{option_or}
use Rattle.std.specs.Ordering.{nat_cmp}
use Rattle.std.proofs.lemmas.Map.Text.{btree_map_updates_str}
use Rattle.std.proofs.lemmas.List.{take_more}
use Rattle.std.proofs.lemmas.Option.{slice_get_within, get_or_from_slice_get}
use Rattle.std.proofs.lemmas.Bool.Decides.{eqb_tells, Decides-eqb}
use Rattle.std.proofs.lemmas.Slice.Eq.{bytes_eq-Decides}
use Rattle.sedscript.specs.declared.targets.FirstLabel.{FirstLabel}
use Rattle.sedscript.specs.declared.items.Item.{Item}
use Rattle.sedscript.specs.Types.{Verb, Argument}
use Rattle.sedscript.specs.Script.{is_label, count_with, commands_in, label_in}
use Rattle.sedscript.specs.Letters.{becomes_command}
use Rattle.sedscript.specs.Tables.{labelled, first_labelled, LabelsAre, is_earlier}

abbrev Labels : Type 0
Labels = BTreeMap (Bor (List ℕ)) FirstLabel

-- one more at both ends
pub one_each : (b c : Bool) (x n : ℕ) → x ≡ (if c then suc n else n) → (if b then suc x else x) ≡ (if c then suc (if b then suc n else n) else (if b then suc n else n))
one_each true true x n e = ap suc e
one_each true false x n e = ap suc e
one_each false c x n e = e

pub commands_snoc : (is : List Item) (i : Item) → commands_in (is ++ i ∷ []) ≡ count_with (commands_in is) i
commands_snoc [] i = refl
commands_snoc (j ∷ is) i = one_each (becomes_command j.verb) (becomes_command i.verb) (commands_in (is ++ i ∷ [])) (commands_in is) (commands_snoc is i)

-- one item more
pub take_item : (items : List Item) (k : ℕ) (i : Item) → slice_get items k ≡ Some i → take (k + 1) items ≡ take k items ++ i ∷ []
take_item items k i at =
    take_more items k i (slice_get_within items k i at) ∙ ap (λ (j : Item). take k items ++ j ∷ []) (get_or_from_slice_get items k i i at)

pub drop_item : (items : List Item) (k : ℕ) (i : Item) → slice_get items k ≡ Some i → drop k items ≡ i ∷ drop (k + 1) items
drop_item items k i at =
    let one : suc k ≡ k + 1 = omega arith in
    drop-cons items k i (slice_get_within items k i at)
    ∙ (ap (λ (j : Item). j ∷ drop (suc k) items) (get_or_from_slice_get items k i i at) ∙ ap (λ (m : ℕ). i ∷ drop m items) one)

pub counted_step : (items : List Item) (k n next : ℕ) (i : Item) → slice_get items k ≡ Some i → n ≡ commands_in (take k items) → next ≡ count_with n i →
    next ≡ commands_in (take (k + 1) items)
counted_step items k n next i at e f =
    f ∙ (ap (λ (m : ℕ). count_with m i) e ∙ (sym (commands_snoc (take k items) i) ∙ ap commands_in (sym (take_item items k i at))))

counted_same : (i : Item) (m n : ℕ) → count_with m i ≡ count_with n i → m ≡ n
counted_same i m n e = by_leaf (becomes_command i.verb) e
  where
    by_leaf : (b : Bool) → (if b then suc m else m) ≡ (if b then suc n else n) → m ≡ n
    by_leaf true f = cc
    by_leaf false f = f

-- and back
pub counted_back : (items : List Item) (k n next : ℕ) (i : Item) → slice_get items k ≡ Some i → n ≡ commands_in (take (k + 1) items) → n ≡ count_with next i →
    next ≡ commands_in (take k items)
counted_back items k n next i at e f =
    counted_same i next (commands_in (take k items)) (sym f ∙ (e ∙ (ap commands_in (take_item items k i at) ∙ commands_snoc (take k items) i)))

-- an item that becomes a command is counted
pub counted_some : (items : List Item) (k n : ℕ) (i : Item) → slice_get items k ≡ Some i → n ≡ commands_in (take (k + 1) items) → becomes_command i.verb ≡ true → 1 ≤ n
counted_some items k n i at e l =
    let f : n ≡ count_with (commands_in (take k items)) i = e ∙ (ap commands_in (take_item items k i at) ∙ commands_snoc (take k items) i) in
    let g : count_with (commands_in (take k items)) i ≡ suc (commands_in (take k items)) = rw l refl in
    omega (arith, f, g)

-- the commands before and after
pub counted_in : (n : ℕ) (i : Item) (is : List Item) → count_with n i + commands_in is ≡ n + commands_in (i ∷ is)
counted_in n i is = by_leaf (becomes_command i.verb)
  where
    by_leaf : (b : Bool) → (if b then suc n else n) + commands_in is ≡ n + (if b then suc (commands_in is) else commands_in is)
    by_leaf true = omega arith
    by_leaf false = refl

pub option_or_if : {A : Type 0} (b : Bool) (p : A) (x y z : Option A) → x ≡ option_or y z → (if b then Some p else x) ≡ option_or (if b then Some p else y) z
option_or_if true p x y z e = refl
option_or_if false p x y z e = e

some_pair : (l : Bool) (k n a b : ℕ) → a ≡ k → b ≡ n → ◌≡◌ {A = Option FirstLabel} (if l then Some (record { item = k; number = n }) else None) (if l then Some (record { item = a; number = b }) else None)
some_pair false k n a b e f = refl
some_pair true k n a b e f = rw e (rw f refl)

-- the first label of a name is that of the items before, or else that of one more item
pub first_label_snoc : (text name : List ℕ) (k n a b : ℕ) (is : List Item) (i : Item) → a ≡ k + length is → b ≡ n + commands_in is →
    first_labelled text name k n (is ++ i ∷ []) ≡ option_or (first_labelled text name k n is) (if is_label text name i.verb i.argument then Some (record { item = a; number = b }) else None)
first_label_snoc text name k n a b [] i e f = some_pair (is_label text name i.verb i.argument) k n a b (e ∙ omega arith) (f ∙ omega arith)
first_label_snoc text name k n a b (j ∷ is) i e f =
    option_or_if (is_label text name j.verb j.argument) (record { item = k; number = n }) (first_labelled text name (suc k) (count_with n j) (is ++ i ∷ [])) (first_labelled text name (suc k) (count_with n j) is)
    (if is_label text name i.verb i.argument then Some (record { item = a; number = b }) else None)
    (first_label_snoc text name (suc k) (count_with n j) a b is i (e ∙ omega arith) (f ∙ sym (counted_in n j is)))

pub labels_step : (text : List ℕ) (items : List Item) (k n : ℕ) (i : Item) (old new : Labels) → slice_get items k ≡ Some i → n ≡ commands_in (take k items) → LabelsAre text (take k items) old →
    ((name : List ℕ) → labelled new name ≡ option_or (labelled old name) (if is_label text name i.verb i.argument then Some (record { item = k; number = n }) else None)) →
    LabelsAre text (take (k + 1) items) new
labels_step text items k n i old new at e are added = λ name.
    let h : k < length items = slice_get_within items k i at in
    let last : Option FirstLabel = if is_label text name i.verb i.argument then Some (record { item = k; number = n }) else None in
    let long : length (take k items) ≡ k = length-take-le k items (omega (arith, h)) in
    added name ∙ (ap (λ (o : Option FirstLabel). option_or o last) (are name)
    ∙ (sym (first_label_snoc text name 0 0 k n (take k items) i (sym long ∙ omega arith) (e ∙ omega arith))
    ∙ ap (first_labelled text name 0 0) (sym (take_item items k i at))))

pub label_of_first : (text name : List ℕ) (k n : ℕ) (is : List Item) → label_in text name n is ≡ option_map (λ (l : FirstLabel). l.number) (first_labelled text name k n is)
label_of_first text name k n [] = refl
label_of_first text name k n (i ∷ is) = by_label (is_label text name i.verb i.argument) (label_in text name (count_with n i) is) (first_labelled text name (suc k) (count_with n i) is) (label_of_first text name (suc k) (count_with n i) is)
  where
    by_label : (b : Bool) (x : Option ℕ) (y : Option FirstLabel) → x ≡ option_map (λ (l : FirstLabel). l.number) y → (if b then Some n else x) ≡ option_map (λ (l : FirstLabel). l.number) (if b then Some (record { item = k; number = n }) else y)
    by_label true x y e = refl
    by_label false x y e = e

eq_more : (j k : ℕ) → (j == j + suc k) ≡ false
eq_more j k = elim (eqb_tells j (j + suc k)) [ inl h ↦ absurd (omega (arith, h.1)) | inr h ↦ h.0 ]

-- whether an earlier item has the label follows from the index of the first that has it
pub earlier_label : (text name : List ℕ) (k j n m t : ℕ) (is : List Item) (i : Item) → slice_get is k ≡ Some i → is_label text name i.verb i.argument ≡ true → t ≡ j + k →
    is_earlier t (first_labelled text name j m is) ≡ is_some (label_in text name n (take k is))
earlier_label text name k j n m t [] i e l f = let g : ◌≡◌ {A = Option Item} None (Some i) = e in cc
earlier_label text name zero j n m t (x ∷ is) i e l f =
    let same : x ≡ i = cc in
    let lx : is_label text name x.verb x.argument ≡ true = ap (λ (y : Item). is_label text name y.verb y.argument) same ∙ l in
    let tj : t ≡ j = f ∙ omega arith in
    rw lx (rw tj (rw ((Decides-eqb j j).1 refl) refl))
earlier_label text name (suc k) j n m t (x ∷ is) i e l f =
    by_label (is_label text name x.verb x.argument) (first_labelled text name (suc j) (count_with m x) is) (label_in text name (count_with n x) (take k is))
    (earlier_label text name k (suc j) (count_with n x) (count_with m x) t is i e l (f ∙ omega arith))
  where
    by_label : (b : Bool) (y : Option FirstLabel) (z : Option ℕ) → is_earlier t y ≡ is_some z →
        is_earlier t (if b then Some (record { item = j; number = m }) else y) ≡ is_some (if b then Some n else z)
    by_label true y z h = ap not (ap (λ (u : ℕ). j == u) f ∙ eq_more j k)
    by_label false y z h = h

right_none : {A : Type 0} (o : Option A) → o ≡ option_or o None
right_none None = refl
right_none (Some x) = refl

-- a label is added where none has its name
pub label_added : {A : Type 0} (bs : List ℕ) (v : A) (old new : BTreeMap (Bor (List ℕ)) A) → UpdatesBy (λ x y. slice_cmp nat_cmp x.now y.now) (λ x. slice_cmp nat_cmp bs x.now) old new (Some v) → labelled old bs ≡ None →
    (name : List ℕ) → labelled new name ≡ option_or (labelled old name) (if bytes_eq bs name then Some v else None)
label_added bs v old new u none name =
    btree_map_updates_str bs old new (Some v) u name ∙ by_name (bytes_eq bs name) refl
  where
    by_name : (b : Bool) → bytes_eq bs name ≡ b → cond b (Some v) (labelled old name) ≡ option_or (labelled old name) (if b then Some v else None)
    by_name true e = let same : bs ≡ name = (bytes_eq-Decides bs name).0 e in
        rw (sym (ap (labelled old) same) ∙ none) refl
    by_name false e = right_none (labelled old name)

pub none_of : {A : Type 0} (o : Option A) (b : Bool) → b ≡ is_some o → b ≡ false → o ≡ None
none_of None b e f = refl
none_of (Some x) b e f = let g : true ≡ false = sym e ∙ f in cc

pub label_inserted : (text bs : List ℕ) (k n : ℕ) (verb : Verb) (a : Argument) (b : Bool) (old new : Labels) → ((name : List ℕ) → is_label text name verb a ≡ bytes_eq bs name) →
    UpdatesBy (λ x y. slice_cmp nat_cmp x.now y.now) (λ x. slice_cmp nat_cmp bs x.now) old new (Some (record { item = k; number = n })) → b ≡ is_some (labelled old bs) → b ≡ false →
    (name : List ℕ) → labelled new name ≡ option_or (labelled old name) (if is_label text name verb a then Some (record { item = k; number = n }) else None)
label_inserted text bs k n verb a b old new is u found absent = λ name.
    label_added bs (record { item = k; number = n }) old new u (none_of (labelled old bs) b found absent) name
    ∙ ap (λ (c : Bool). option_or (labelled old name) (if c then Some (record { item = k; number = n }) else None)) (sym (is name))

-- what the table says of a name
pub label_found : (text name : List ℕ) (items : List Item) (m : Labels) (o : Option FirstLabel) → LabelsAre text items m → o ≡ labelled m name → option_map (λ (l : FirstLabel). l.number) o ≡ label_in text name 0 items
label_found text name items m o are is = ap (option_map (λ (l : FirstLabel). l.number)) (is ∙ are name) ∙ sym (label_of_first text name 0 0 items)

pub label_repeated : (text name : List ℕ) (items : List Item) (m : Labels) (o : Option FirstLabel) (k : ℕ) (i : Item) → LabelsAre text items m → o ≡ labelled m name →
    slice_get items k ≡ Some i → is_label text name i.verb i.argument ≡ true → is_earlier k o ≡ is_some (label_in text name 0 (take k items))
label_repeated text name items m o k i are is e l = ap (is_earlier k) (is ∙ are name) ∙ earlier_label text name k 0 0 0 k items i e l (omega arith)
