-- How what functions answer is put together.
use Rattle.std.proofs.Common.{◌≡◌, ◌≢◌, ◌≤◌, ℕ, ◌+◌, Bool, true, false, ◌==◌, List, [], ◌∷◌, ◌++◌, length, Option, Some, None, Result, Ok, Err, IfOk, IfErr, refl, sym, ap, subst, ◌∙◌, inl, inr, ◌⊎◌, append_assoc, arith, slice_get, if◌then◌else◌}
use Rattle.std.proofs.lemmas.Bool.Decides.{eqb_tells, Decides-eqb}
use Rattle.std.specs.Result.{IsErrAnd}
use Rattle.std.proofs.lemmas.List.{append-nil, length-append}
use Rattle.sedre.specs.declared.types.Kind.{Kind}
use Rattle.sedre.specs.Tree.{WrittenExpression}
use Rattle.sedre.specs.declared.types.ExprFault.{ExprFault}
use Rattle.sedre.specs.declared.types.ExprReason.{ExprReason}
use Rattle.sedre.specs.declared.types.ExprReason.TheVariants.{NoMemory}
use Rattle.sedre.specs.declared.types.TheConstants.{NO_MEMORY as no_expr_memory}
use Rattle.sedre.specs.Brackets.{delimiter_at}
use Rattle.sedre.specs.Grammar.{ExprFaulty}
use Rattle.sedscript.specs.declared.bytes.Sort.TheVariants.{Blank, Separator, Digit}
use Rattle.sedscript.specs.declared.types.ScriptFault.{ScriptFault}
use Rattle.sedscript.specs.declared.types.Reason.TheVariants.{OpenDelimiter, BadAddress, BadDelimiter, UnknownCommand}
use Rattle.sedscript.specs.declared.types.TheConstants.{NO_MEMORY}
use Rattle.sedscript.specs.declared.types.Address.{Address}
use Rattle.sedscript.specs.declared.types.Address.TheVariants.{Last, Match}
use Rattle.sedscript.specs.declared.items.ItemOrEnd.{ItemOrEnd}
use Rattle.sedscript.specs.declared.items.ItemOrEnd.TheVariants.{Is, Ends}
use Rattle.sedscript.specs.Bytes.{bytes_between, past, is_byte, is_digit, with_digits}
use Rattle.sedscript.specs.Items.{PatternExtent, Reading, plainly, expression, ◌>>=◌, Addressed, address_found, addresses_of, with_addresses, with_second, folds_at, past_flag, match_at, own_match, addresses_at, after_first, second_at, address_at, address_of, line_address, item_at, item_from, substitute_with, substitute_at, argument_with, function_at, match_to, function_after, item_with, item_of, empty_match}
use Rattle.sedscript.specs.declared.items.Strings.{Strings}
use Rattle.sedscript.specs.Arguments.{own_delimiter, substitute_strings, flags_after, folds}
use Rattle.sedscript.specs.Letters.{argument_of, reads_expression, substituted, verb_of, allowed}
use Rattle.sedscript.specs.Types.{Verb, Argument}
use Rattle.sedscript.specs.declared.items.Addresses.{Addresses}
use Rattle.sedscript.specs.Script.{IsRead, Gives, value, after_expression}
use Rattle.sedscript.specs.FirstFault.{Fails, own, no_expression, later, in_script}
use Rattle.sedscript.specs.Answers.{as_here, as_argument, as_groups, as_addressed, as_headed, Comes, Agrees, IsItemAfter, IsHere, is_no_memory, fault_of}

not_equal : (a b : ℕ) → a ≢ b → (a == b) ≡ false
not_equal a b n = elim (eqb_tells a b) [ inl h ↦ absurd (n h.1) | inr h ↦ h.0 ]

pub if_true : {A : Type 0} (x y : A) (b : Bool) → b ≡ true → (if b then x else y) ≡ x
if_true x y true e = refl
if_true x y false e = let bad : false ≡ true = e in cc

if_false : {A : Type 0} (x y : A) (b : Bool) → b ≡ false → (if b then x else y) ≡ y
if_false x y true e = let bad : true ≡ false = e in cc
if_false x y false e = refl

-- what is read after what was read
pub gives_then : {A B : Type 0} (text : List ℕ) (kind : Kind) (m : ℕ) (r : Reading A) (f : A → Reading B) (es fs : List WrittenExpression) (a : A) (b : B) →
    Gives text kind m r es a → Gives text kind m (f a) fs b → Gives text kind m (r >>= f) (es ++ fs) b
gives_then text kind m _ f _ fs _ b value h = h
gives_then text kind m _ f _ fs a b (after_expression {k = k} {es = es} e is g) h = after_expression e is (gives_then text kind m (k e.groups) f es fs a b g h)

-- a fault after what was read
pub fails_then : {A B : Type 0} (text : List ℕ) (kind : Kind) (m : ℕ) (r : Reading A) (f : A → Reading B) (es : List WrittenExpression) (a : A) (x : ScriptFault) →
    Gives text kind m r es a → Fails text kind m (f a) x → Fails text kind m (r >>= f) x
fails_then text kind m _ f _ _ x value h = h
fails_then text kind m _ f _ a x (after_expression {k = k} {es = es} e is g) h = later e is (fails_then text kind m (k e.groups) f es a x g h)

-- a fault comes first
pub fails_first : {A B : Type 0} (text : List ℕ) (kind : Kind) (m : ℕ) (r : Reading A) (f : A → Reading B) (x : ScriptFault) →
    Fails text kind m r x → Fails text kind m (r >>= f) x
fails_first text kind m _ f _ own = own
fails_first text kind m _ f _ (no_expression {f = g} h) = no_expression {f = g} h
fails_first text kind m _ f x (later {k = k} e is h) = later e is (fails_first text kind m (k e.groups) f x h)

-- what one function read, and what another read after it
pub comes_then : {A B Y : Type 0} (text : List ℕ) (kind : Kind) (m : ℕ) (old mid new : List WrittenExpression) (r : Reading A) (f : A → Reading B) (a : A) (w : Y → ℕ → B) (result : Result Y ScriptFault) →
    (es : List WrittenExpression) × Gives text kind m r es a × (mid ≡ old ++ es) →
    Comes text kind m mid new w result (f a) → Comes text kind m old new w result (r >>= f)
comes_then text kind m old mid new r f a w (Ok y) first h =
    (first.0 ++ h.0, gives_then text kind m r f first.0 h.0 a (w y (length new)) first.1 h.1, h.2 ∙ (ap (λ (z : List WrittenExpression). z ++ h.0) first.2 ∙ append_assoc old first.0 h.0))
comes_then text kind m old mid new r f a w (Err x) first (inl h) = inl (fails_then text kind m r f first.0 a x first.1 h)
comes_then text kind m old mid new r f a w (Err x) first (inr e) = inr e

-- a fault of the first function
pub comes_err : {A B : Type 0} (text : List ℕ) (kind : Kind) (m : ℕ) (r : Reading A) (f : A → Reading B) (x : ScriptFault) →
    Fails text kind m r x ⊎ (x ≡ NO_MEMORY) → Fails text kind m (r >>= f) x ⊎ (x ≡ NO_MEMORY)
comes_err text kind m r f x (inl h) = inl (fails_first text kind m r f x h)
comes_err text kind m r f x (inr e) = inr e

-- a fault that another function answered
pub comes_as_err : {X A : Type 0} (text : List ℕ) (kind : Kind) (m : ℕ) (old new : List WrittenExpression) (w : X → ℕ → A) (result : Result X ScriptFault) (r : Reading A) (x : ScriptFault) →
    IsErrAnd result (λ (y : ScriptFault). y ≡ x) → Fails text kind m r x ⊎ (x ≡ NO_MEMORY) → Comes text kind m old new w result r
comes_as_err text kind m old new w (Ok y) r x is h = absurd is
comes_as_err text kind m old new w (Err y) r x is h = subst (λ (f : ScriptFault). Fails text kind m r f ⊎ (f ≡ NO_MEMORY)) (sym is) h

-- what reads no expression
pub comes_plain : {X A : Type 0} (text : List ℕ) (kind : Kind) (m : ℕ) (old new : List WrittenExpression) (w : X → ℕ → A) (result : Result X ScriptFault) (r : Result A ScriptFault) →
    old ≡ new → Agrees w (length new) result r → Comes text kind m old new w result (plainly r)
comes_plain {A = A} text kind m old new w (Ok x) r same h =
    ([], subst (λ (z : Result A ScriptFault). Gives text kind m (plainly z) [] (w x (length new))) (sym h) value, sym same ∙ sym (append-nil old))
comes_plain {A = A} text kind m old new w (Err x) r same h = inl (subst (λ (z : Result A ScriptFault). Fails text kind m (plainly z) x) (sym h) own)

-- a value without an expression
pub gives_plain : {A : Type 0} (text : List ℕ) (kind : Kind) (m : ℕ) (old : List WrittenExpression) (r : Reading A) (x : A) → r ≡ plainly (Ok x) →
    (es : List WrittenExpression) × Gives text kind m r es x × (old ≡ old ++ es)
gives_plain {A = A} text kind m old r x e = ([], subst (λ (z : Reading A). Gives text kind m z [] x) (sym e) value, sym (append-nil old))

pub match_open : (text : List ℕ) (kind : Kind) (m count d place : ℕ) → delimiter_at text (place + 1) d ≡ None →
    Fails text kind m (match_at text count d place) (record { place = place; reason = OpenDelimiter })
unfolding match_at
match_open text kind m count d place e =
    subst (λ (o : Option ℕ). Fails text kind m (match_to text count d place o) (record { place = place; reason = OpenDelimiter })) (sym e) own

-- a fault of the reader of expressions, by whether there was no memory
not_memory : (r : ExprReason) → is_no_memory r ≡ false → r ≡ NoMemory → ⊥
not_memory r e is = let g : true ≡ false = sym (ap is_no_memory is) ∙ e in cc

fails_in_script : {A : Type 0} (text : List ℕ) (kind : Kind) (m : ℕ) (p : PatternExtent) (k : ℕ → Reading A) (f : ExprFault) (b : Bool) → is_no_memory f.reason ≡ b →
    ExprFaulty kind (Some p.delimiter) (bytes_between text p.from p.to) m f.place f.reason ⊎ (f ≡ no_expr_memory) →
    Fails text kind m (expression p k) (if b then NO_MEMORY else in_script p.from f) ⊎ ((if b then NO_MEMORY else in_script p.from f) ≡ NO_MEMORY)
fails_in_script text kind m p k f true is h = inr refl
fails_in_script text kind m p k f false is (inl h) = inl (no_expression {f = f} h)
fails_in_script text kind m p k f false is (inr e) = absurd (not_memory f.reason is (ap (λ (g : ExprFault). g.reason) e))

-- a fault of the reader of expressions, in the script
pub fails_as_read : {A : Type 0} (text : List ℕ) (kind : Kind) (m : ℕ) (p : PatternExtent) (k : ℕ → Reading A) (f : ExprFault) →
    ExprFaulty kind (Some p.delimiter) (bytes_between text p.from p.to) m f.place f.reason ⊎ (f ≡ no_expr_memory) →
    Fails text kind m (expression p k) (fault_of p.from f) ⊎ (fault_of p.from f ≡ NO_MEMORY)
fails_as_read text kind m p k f h = fails_in_script text kind m p k f (is_no_memory f.reason) refl h

-- an expression that was read
pub expression_comes : (text : List ℕ) (kind : Kind) (m : ℕ) (p : PatternExtent) (old new : List WrittenExpression) (e : WrittenExpression) (groups : ℕ) → groups ≡ e.groups → IsRead text kind m p e → new ≡ old ++ e ∷ [] →
    Comes text kind m old new as_groups (Ok groups) (expression p (λ (groups : ℕ). plainly (Ok groups)))
expression_comes text kind m p old new e groups same read grown =
    subst (λ (n : ℕ). Comes text kind m old new as_groups (Ok n) (expression p (λ (groups : ℕ). plainly (Ok groups)))) (sym same) (e ∷ [], after_expression e read value, grown)

-- the same, where a copy was added, unless a request for memory was refused
pub copy_comes : (text : List ℕ) (kind : Kind) (m : ℕ) (p : PatternExtent) (old new : List WrittenExpression) (e : WrittenExpression) (r : Result ℕ ScriptFault) → IsRead text kind m p e →
    IfOk r (λ groups. (groups ≡ e.groups) × (new ≡ old ++ e ∷ [])) → IfErr r (λ f. f ≡ NO_MEMORY) → Comes text kind m old new as_groups r (expression p (λ (groups : ℕ). plainly (Ok groups)))
copy_comes text kind m p old new e (Ok groups) read added memory = expression_comes text kind m p old new e groups added.0 read added.1
copy_comes text kind m p old new e (Err f) read added memory = inr memory

pub copy_adds_one : {E : Type 0} → (old new : List WrittenExpression) (e : WrittenExpression) (r : Result ℕ E) → IfOk r (λ groups. (groups ≡ e.groups) × (new ≡ old ++ e ∷ [])) → IfOk r (λ groups. length new ≡ length old + 1)
copy_adds_one old new e (Ok groups) added = ap (λ (es : List WrittenExpression). length es) added.1 ∙ length-append old (e ∷ [])
copy_adds_one old new e (Err f) added = tt

-- an address with an expression is the expression alone, and what follows it
pub match_is : (text : List ℕ) (count d place to : ℕ) (folded : Bool) → delimiter_at text (place + 1) d ≡ Some to → to ≢ place + 1 → folded ≡ folds_at text (to + 1) →
    match_at text count d place ≡ (expression (record { from = place + 1; to = to; delimiter = d; folded = folded }) (λ (groups : ℕ). plainly (Ok groups)) >>= λ (groups : ℕ). plainly (address_found (Some (Match (Some count))) (past_flag text (to + 1)) (count + 1)))
unfolding match_at
match_is text count d place to folded e n f =
    subst (λ (b : Bool). match_at text count d place ≡ (expression (record { from = place + 1; to = to; delimiter = d; folded = b }) (λ (groups : ℕ). plainly (Ok groups)) >>= λ (groups : ℕ). plainly (address_found (Some (Match (Some count))) (past_flag text (to + 1)) (count + 1)))) (sym f)
    (ap (match_to text count d place) e ∙ if_false _ _ (to == place + 1) (not_equal to (place + 1) n))

match_agrees : (old new number at next : ℕ) → number ≡ old → new ≡ old + 1 → next ≡ at → Agrees as_addressed new (Ok (Some (Match (Some number)), next)) (address_found (Some (Match (Some old))) at (old + 1))
match_agrees old new number at next e f g = cc

pub match_comes : (text : List ℕ) (kind : Kind) (m d place to number groups next : ℕ) (folded : Bool) (old new : List WrittenExpression) → delimiter_at text (place + 1) d ≡ Some to → to ≢ place + 1 → folded ≡ folds_at text (to + 1) →
    number ≡ length old → length new ≡ length old + 1 → next ≡ past_flag text (to + 1) →
    Comes text kind m old new as_groups (Ok groups) (expression (record { from = place + 1; to = to; delimiter = d; folded = folded }) (λ (groups : ℕ). plainly (Ok groups))) →
    Comes text kind m old new as_addressed (Ok (Some (Match (Some number)), next)) (match_at text (length old) d place)
match_comes text kind m d place to number groups next folded old new e n f same one past h =
    subst (λ (r : Reading Addressed). Comes text kind m old new as_addressed (Ok (Some (Match (Some number)), next)) r) (sym (match_is text (length old) d place to folded e n f))
    (comes_then text kind m old new new (expression (record { from = place + 1; to = to; delimiter = d; folded = folded }) (λ (groups : ℕ). plainly (Ok groups)))
    (λ (groups : ℕ). plainly (address_found (Some (Match (Some (length old)))) (past_flag text (to + 1)) (length old + 1))) groups as_addressed (Ok (Some (Match (Some number)), next)) h
    (comes_plain text kind m new new as_addressed (Ok (Some (Match (Some number)), next)) (address_found (Some (Match (Some (length old)))) (past_flag text (to + 1)) (length old + 1)) refl
    (match_agrees (length old) (length new) number (past_flag text (to + 1)) next same one past)))

match_empty : (text : List ℕ) (count d place to : ℕ) → delimiter_at text (place + 1) d ≡ Some to → to ≡ place + 1 →
    match_at text count d place ≡ plainly (empty_match text count (to + 1))
unfolding match_at
match_empty text count d place to e same = ap (match_to text count d place) e ∙ if_true _ _ (to == place + 1) ((Decides-eqb to (place + 1)).1 same)

pub empty_comes : (text : List ℕ) (kind : Kind) (m d place to : ℕ) (old : List WrittenExpression) (result : Result (Option Address × ℕ) ScriptFault) → delimiter_at text (place + 1) d ≡ Some to → to ≡ place + 1 →
    Agrees as_addressed (length old) result (empty_match text (length old) (to + 1)) → Comes text kind m old old as_addressed result (match_at text (length old) d place)
empty_comes text kind m d place to old result e same h =
    subst (λ (r : Reading Addressed). Comes text kind m old old as_addressed result r) (sym (match_empty text (length old) d place to e same))
    (comes_plain text kind m old old as_addressed result (empty_match text (length old) (to + 1)) refl h)

pub own_none : (text : List ℕ) (kind : Kind) (m count place : ℕ) (o : Option ℕ) → o ≡ None → Fails text kind m (own_match text count place o) (record { place = place; reason = BadDelimiter })
own_none text kind m count place o e = subst (λ (o : Option ℕ). Fails text kind m (own_match text count place o) (record { place = place; reason = BadDelimiter })) (sym e) own

pub item_none : (text : List ℕ) (kind : Kind) (m : ℕ) (old new : List WrittenExpression) (place : ℕ) → slice_get text (past Separator text place) ≡ None → old ≡ new →
    Comes text kind m old new as_here (Ok Ends) (item_at text (length old) place)
unfolding item_at
item_none text kind m old new place e same =
    subst (λ (o : Option ℕ). Comes text kind m old new as_here (Ok Ends) (item_from text (length old) (past Separator text place) o)) (sym e) ([], value, sym same ∙ sym (append-nil old))

pub item_some : (text : List ℕ) (kind : Kind) (m : ℕ) (old new : List WrittenExpression) (place start b : ℕ) (result : Result ItemOrEnd ScriptFault) → start ≡ past Separator text place → slice_get text start ≡ Some b →
    Comes text kind m old new as_here result (addresses_at text (length old) start >>= function_after text) →
    Comes text kind m old new as_here result (item_at text (length old) place)
unfolding item_at
item_some text kind m old new place start b result s e h =
    subst (λ (z : ℕ). Comes text kind m old new as_here result (item_from text (length old) z (slice_get text z))) s
    (subst (λ (o : Option ℕ). Comes text kind m old new as_here result (item_from text (length old) start o)) (sym e) h)

-- the addresses that read no expression, and none
pub no_byte : (text : List ℕ) (count at : ℕ) → slice_get text at ≡ None → address_at text count at ≡ plainly (address_found None at count)
unfolding address_at
no_byte text count at e = ap (address_of text count at) e

pub last_address : (text : List ℕ) (count at b : ℕ) → slice_get text at ≡ Some b → b ≡ 36 → address_at text count at ≡ plainly (address_found (Some Last) (at + 1) count)
unfolding address_at
last_address text count at b e is = ap (address_of text count at) (e ∙ ap Some is)

pub no_address : (text : List ℕ) (count at b : ℕ) → slice_get text at ≡ Some b → is_digit b ≡ false → b ≢ 36 → b ≢ 47 → b ≢ 92 → address_at text count at ≡ plainly (address_found None at count)
unfolding address_at
no_address text count at b e d last slash other =
    ap (address_of text count at) e ∙ if_false _ _ (is_digit b) d ∙ if_false _ _ (b == 36) (not_equal b 36 last) ∙ if_false _ _ (b == 47) (not_equal b 47 slash) ∙ if_false _ _ (b == 92) (not_equal b 92 other)

pub only_first : (text : List ℕ) (count at : ℕ) (first : Address) (o : Option Address) → o ≡ Some first → is_byte 44 (slice_get text (past Blank text at)) ≡ false →
    after_first text count at o ≡ plainly (with_addresses (Some first) None at count)
only_first text count at first o e d = ap (after_first text count at) e ∙ if_false _ _ (is_byte 44 (slice_get text (past Blank text at))) d

-- a second address, which isn't there or is
pub no_second : (text : List ℕ) (kind : Kind) (m : ℕ) (first : Address) (at next : ℕ) (o : Option Address) (old mid : List WrittenExpression) →
    (es : List WrittenExpression) × Gives text kind m (address_at text (length old) at) es (as_addressed (o, next) (length mid)) × (mid ≡ old ++ es) → o ≡ None →
    Comes text kind m old mid as_headed (Err (record { place = at; reason = BadAddress })) (second_at text (length old) first at)
unfolding second_at
no_second text kind m first at next o old mid read none =
    comes_then text kind m old mid mid (address_at text (length old) at) (λ (x : Addressed). plainly (with_second first at x x.address)) (as_addressed (o, next) (length mid)) as_headed (Err (record { place = at; reason = BadAddress })) read
    (comes_plain text kind m mid mid as_headed (Err (record { place = at; reason = BadAddress })) _ refl (ap (with_second first at (as_addressed (o, next) (length mid))) none))

second_agrees : (first : Address) (place : ℕ) (x : Addressed) (second : Address) (o : Option Address) (both : Addresses) → o ≡ Some second → both ≡ addresses_of (Some first) o →
    with_second first place x o ≡ Ok (record { addresses = both; at = x.at; count = x.count })
second_agrees first place x second o both is made = rw made (rw is refl)

pub second_comes : (text : List ℕ) (kind : Kind) (m : ℕ) (first : Address) (at next : ℕ) (second : Address) (o : Option Address) (old mid : List WrittenExpression) (both : Addresses) →
    (es : List WrittenExpression) × Gives text kind m (address_at text (length old) at) es (as_addressed (o, next) (length mid)) × (mid ≡ old ++ es) → o ≡ Some second → both ≡ addresses_of (Some first) o →
    Comes text kind m old mid as_headed (Ok (both, next)) (second_at text (length old) first at)
unfolding second_at
second_comes text kind m first at next second o old mid both read is made =
    comes_then text kind m old mid mid (address_at text (length old) at) (λ (x : Addressed). plainly (with_second first at x x.address)) (as_addressed (o, next) (length mid)) as_headed (Ok (both, next)) read
    (comes_plain text kind m mid mid as_headed (Ok (both, next)) _ refl (second_agrees first at (as_addressed (o, next) (length mid)) second o both is made))

pub line_comes : (text : List ℕ) (kind : Kind) (m : ℕ) (old : List WrittenExpression) (at b : ℕ) (result : Result (Option Address × ℕ) ScriptFault) → slice_get text at ≡ Some b → is_digit b ≡ true →
    Agrees as_addressed (length old) result (line_address (length old) at (past Digit text at) (with_digits (Some 0) (bytes_between text at (past Digit text at)))) →
    Comes text kind m old old as_addressed result (address_at text (length old) at)
unfolding address_at
line_comes text kind m old at b result e d h =
    subst (λ (o : Option ℕ). Comes text kind m old old as_addressed result (address_of text (length old) at o)) (sym e)
    (rw d (comes_plain text kind m old old as_addressed result _ refl h))

pub after_here : (text : List ℕ) (at start next : ℕ) (result : Result ItemOrEnd ScriptFault) → at ≤ start → start ≤ next → IfOk result (IsItemAfter next (length text)) → IfOk result (IsHere text at)
after_here text at start next (Err x) a b h = tt
after_here text at start next (Ok (Is i to)) a b h = (omega (arith, a, b, h.0), h.1)
after_here text at start next (Ok Ends) a b h = absurd h

-- `s`

pub arguments_agree : (n : ℕ) (result r : Result (Argument × ℕ) ScriptFault) → result ≡ r → Agrees as_argument n result r
arguments_agree n (Ok x) r e = sym e
arguments_agree n (Err x) r e = sym e

pub substitute_empty : (text : List ℕ) (count : ℕ) (s : Strings) → s.middle ≡ s.from → substitute_with text count s ≡ plainly (substituted text s None None)
substitute_empty text count s e = if_true _ _ (s.middle == s.from) ((Decides-eqb s.middle s.from).1 e)

pub substitute_is : (text : List ℕ) (count : ℕ) (s : Strings) (folded : Bool) → s.middle ≢ s.from → folded ≡ folds (flags_after text s false) →
    substitute_with text count s ≡ (expression (record { from = s.from; to = s.middle; delimiter = s.delimiter; folded = folded }) (λ (groups : ℕ). plainly (Ok groups)) >>= λ (groups : ℕ). plainly (substituted text s (Some count) (Some groups)))
substitute_is text count s folded n f =
    subst (λ (b : Bool). substitute_with text count s ≡ (expression (record { from = s.from; to = s.middle; delimiter = s.delimiter; folded = b }) (λ (groups : ℕ). plainly (Ok groups)) >>= λ (groups : ℕ). plainly (substituted text s (Some count) (Some groups)))) (sym f)
    (if_false _ _ (s.middle == s.from) (not_equal s.middle s.from n))

pub substitute_comes : (text : List ℕ) (kind : Kind) (m number groups : ℕ) (s : Strings) (folded : Bool) (old new : List WrittenExpression) (result : Result (Argument × ℕ) ScriptFault) → s.middle ≢ s.from →
    folded ≡ folds (flags_after text s false) → number ≡ length old →
    Comes text kind m old new as_groups (Ok groups) (expression (record { from = s.from; to = s.middle; delimiter = s.delimiter; folded = folded }) (λ (groups : ℕ). plainly (Ok groups))) →
    result ≡ substituted text s (Some number) (Some groups) → Comes text kind m old new as_argument result (substitute_with text (length old) s)
substitute_comes text kind m number groups s folded old new result n f same h is =
    subst (λ (r : Reading (Argument × ℕ)). Comes text kind m old new as_argument result r) (sym (substitute_is text (length old) s folded n f))
    (comes_then text kind m old new new (expression (record { from = s.from; to = s.middle; delimiter = s.delimiter; folded = folded }) (λ (groups : ℕ). plainly (Ok groups)))
    (λ (groups : ℕ). plainly (substituted text s (Some (length old)) (Some groups))) groups as_argument result h
    (comes_plain text kind m new new as_argument result (substituted text s (Some (length old)) (Some groups)) refl
    (arguments_agree (length new) result _ (is ∙ ap (λ (k : ℕ). substituted text s (Some k) (Some groups)) same))))

pub substitute_fault : (text : List ℕ) (kind : Kind) (m count at : ℕ) (f : ScriptFault) → substitute_strings text (at + 1) (own_delimiter (slice_get text (at + 1))) ≡ Err f →
    Fails text kind m (substitute_at text count at) f ⊎ (f ≡ NO_MEMORY)
unfolding substitute_at
substitute_fault text kind m count at f e =
    inl (subst (λ (r : Result Strings ScriptFault). Fails text kind m (plainly r >>= substitute_with text count) f) (sym e) own)

pub substitute_goes : (text : List ℕ) (kind : Kind) (m : ℕ) (old new : List WrittenExpression) (at : ℕ) (s : Strings) (result : Result (Argument × ℕ) ScriptFault) →
    substitute_strings text (at + 1) (own_delimiter (slice_get text (at + 1))) ≡ Ok s → Comes text kind m old new as_argument result (substitute_with text (length old) s) →
    Comes text kind m old new as_argument result (substitute_at text (length old) at)
unfolding substitute_at
substitute_goes text kind m old new at s result e h =
    subst (λ (r : Result Strings ScriptFault). Comes text kind m old new as_argument result (plainly r >>= substitute_with text (length old))) (sym e) h

-- functions

-- what follows another letter
pub argument_comes : (text : List ℕ) (kind : Kind) (m at : ℕ) (old : List WrittenExpression) (verb : Verb) (result : Result (Argument × ℕ) ScriptFault) → reads_expression verb ≡ false → result ≡ argument_of text verb at →
    Comes text kind m old old as_argument result (argument_with text (length old) verb at)
argument_comes text kind m at old verb result other e =
    subst (λ (reads : Bool). Comes text kind m old old as_argument result (if reads then substitute_at text (length old) at else plainly (argument_of text verb at))) (sym other)
    (comes_plain text kind m old old as_argument result (argument_of text verb at) refl (arguments_agree (length old) result (argument_of text verb at) e))

-- the item of a function whose letter may not come there
pub item_fault : (text : List ℕ) (kind : Kind) (m count letter at : ℕ) (a : Addresses) (f : ScriptFault) → slice_get text at ≡ Some letter → allowed a at (verb_of letter) ≡ Err f →
    Fails text kind m (function_at text count a at) f ⊎ (f ≡ NO_MEMORY)
unfolding function_at
item_fault text kind m count letter at a f there e =
    subst (λ (o : Option ℕ). Fails text kind m (item_with text count a at o) f ⊎ (f ≡ NO_MEMORY)) (sym there)
    (inl (subst (λ (r : Result Verb ScriptFault). Fails text kind m (plainly r >>= λ (v : Verb). argument_with text count v at >>= λ (found : Argument × ℕ). plainly (Ok (item_of a at v found))) f) (sym e) own))

-- the item of a function that may come there
pub item_goes : (text : List ℕ) (kind : Kind) (m letter at : ℕ) (verb : Verb) (a : Addresses) (old new : List WrittenExpression) (result : Result ItemOrEnd ScriptFault) → slice_get text at ≡ Some letter →
    allowed a at (verb_of letter) ≡ Ok verb →
    Comes text kind m old new as_here result (argument_with text (length old) verb at >>= λ (found : Argument × ℕ). plainly (Ok (item_of a at verb found))) →
    Comes text kind m old new as_here result (function_at text (length old) a at)
unfolding function_at
item_goes text kind m letter at verb a old new result there e h =
    subst (λ (o : Option ℕ). Comes text kind m old new as_here result (item_with text (length old) a at o)) (sym there)
    (subst (λ (r : Result Verb ScriptFault). Comes text kind m old new as_here result (plainly r >>= λ (v : Verb). argument_with text (length old) v at >>= λ (found : Argument × ℕ). plainly (Ok (item_of a at v found)))) (sym e) h)

pub no_function : (text : List ℕ) (kind : Kind) (m count at : ℕ) (a : Addresses) → slice_get text at ≡ None →
    Fails text kind m (function_at text count a at) (record { place = at; reason = UnknownCommand }) ⊎ (◌≡◌ {A = ScriptFault} (record { place = at; reason = UnknownCommand }) NO_MEMORY)
unfolding function_at
no_function text kind m count at a e =
    inl (subst (λ (o : Option ℕ). Fails text kind m (item_with text count a at o) (record { place = at; reason = UnknownCommand })) (sym e) own)

pub item_comes : (text : List ℕ) (kind : Kind) (m at : ℕ) (verb : Verb) (a : Addresses) (old new : List WrittenExpression) (found : Argument × ℕ) (h : ItemOrEnd) → h ≡ item_of a at verb found →
    Comes text kind m old new as_argument (Ok found) (argument_with text (length old) verb at) →
    Comes text kind m old new as_here (Ok h) (argument_with text (length old) verb at >>= λ (found : Argument × ℕ). plainly (Ok (item_of a at verb found)))
item_comes text kind m at verb a old new found h is k =
    comes_then text kind m old new new (argument_with text (length old) verb at) (λ (found : Argument × ℕ). plainly (Ok (item_of a at verb found))) found as_here (Ok h) k
    (comes_plain text kind m new new as_here (Ok h) (Ok (item_of a at verb found)) refl (ap (λ (x : ItemOrEnd). Ok x) (sym is)))
