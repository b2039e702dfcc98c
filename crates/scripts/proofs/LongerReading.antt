-- A text within a longer one, behind which comes nothing or a newline: what is read in the text is read there too.
use Rattle.std.proofs.Common.{◌≡◌, ℕ, zero, suc, ◌+◌, ◌<◌, ◌≤◌, ◌&&◌, ◌==◌, Bool, true, false, List, [], ◌∷◌, ◌++◌, length, Option, Some, None, Result, Ok, Err, refl, sym, ap, ap₂, subst, ◌∙◌, arith, if◌then◌else◌, slice_get, nat_lt}
use Rattle.std.specs.Option.{option_len}
use Rattle.sedre.specs.declared.types.Kind.{Kind}
use Rattle.sedre.specs.Tree.{WrittenExpression}
use Rattle.sedre.specs.Brackets.{delimiter_at}
use Rattle.std.proofs.lemmas.Option.{slice_get_within}
use Rattle.sedscript.specs.declared.bytes.Sort.TheVariants.{Blank, Bang, Digit, Separator}
use Rattle.sedscript.specs.declared.types.ScriptFault.{ScriptFault}
use Rattle.sedscript.specs.declared.types.Reason.TheVariants.{FlagOnEmpty, UnknownCommand, TooManyAddresses}
use Rattle.sedscript.specs.declared.types.Address.{Address}
use Rattle.sedscript.specs.declared.types.Address.TheVariants.{Match, Last}
use Rattle.sedscript.specs.declared.types.Address.TheVariants as address
use Rattle.sedscript.specs.declared.items.Flags.{Flags}
use Rattle.sedscript.specs.declared.items.Strings.{Strings}
use Rattle.sedscript.specs.declared.items.Addresses.{Addresses}
use Rattle.sedscript.specs.declared.items.Item.{Item}
use Rattle.sedscript.specs.declared.items.ItemOrEnd.{ItemOrEnd}
use Rattle.sedscript.specs.declared.items.ItemOrEnd.TheVariants.{Is, Ends}
use Rattle.sedscript.specs.declared.items.Argument.{Argument}
use Rattle.sedscript.specs.declared.items.Argument.TheVariants.{FlaggedPair}
use Rattle.sedscript.specs.declared.letters.Verb.{Verb}
use Rattle.sedscript.specs.declared.letters.Verb.TheVariants.{Substitute}
use Rattle.sedscript.specs.Arguments.{to_command_end, own_delimiter, substitute_strings, unless_fault, flags_after, folds}
use Rattle.sedscript.specs.Bytes.{fault, ◌>>=◌ as ◌then◌, past, bytes_between, is_digit, is_byte, with_digits}
use Rattle.sedscript.specs.Letters.{verb_of, most_addresses, allowed, substituted, flagged}
use Rattle.sedscript.specs.Strings.{replacement_fault}
use Rattle.sedscript.specs.Items.{PatternExtent, Reading, plainly, expression, ◌>>=◌, Addressed, Headed, address_found, with_addresses, line_address, folds_at, past_flag, match_at, own_match, address_of, address_at, with_second, second_at, after_first, addresses_at, with_bang, substitute_with, substitute_at, argument_with, function_at, item_from, item_at, match_to, function_after, item_with, empty_match}
use Rattle.sedscript.specs.Script.{Gives, value, after_expression}
use Rattle.sedscript.proofs.Coming.{gives_then}
use Rattle.scripts.proofs.LongerText.{tail_of, past_low, past_high, near, there, past_on, past_separators, between_on}
use Rattle.scripts.proofs.LongerStrings.{FoundOn, delimiter_on}
use Rattle.scripts.proofs.LongerFlags.{Same, same_if, same_test, move_flagged, FlagsIn}
use Rattle.scripts.proofs.LongerFunctions.{move_strings, move_argument, move_found, StringsIn, ArgumentIn, EndsIn, own_on, own_short, strings_on, first_string, flags_there, substituted_on, argument_on}

abbrev pub move_address : ℕ → Option Address → Option Address
move_address count (Some (Match (Some k))) = Some (Match (Some (count + k)))
move_address count other = other

abbrev pub move_addresses : ℕ → Addresses → Addresses
move_addresses count a = record { first = move_address count a.first; second = move_address count a.second; negate = a.negate }

abbrev pub move_item : (base count : ℕ) → Item → Item
move_item base count i = record { addresses = move_addresses count i.addresses; place = base + i.place; verb = i.verb; argument = move_argument base count i.argument }

abbrev pub move_here : (base count : ℕ) → ItemOrEnd → ItemOrEnd
move_here base count (Is i next) = Is (move_item base count i) (base + next)
move_here base count Ends = Ends

abbrev pub HereIn : ℕ → ItemOrEnd → Type 0
HereIn end (Is i next) = ArgumentIn end i.argument × (next ≤ end)
HereIn end Ends = Unit {0}

abbrev move_addressed : (base count : ℕ) → Addressed → Addressed
move_addressed base count x = record { address = move_address count x.address; at = base + x.at; count = count + x.count }

abbrev AddressedIn : ℕ → Addressed → Type 0
AddressedIn end x = x.at ≤ end

abbrev move_headed : (base count : ℕ) → Headed → Headed
move_headed base count h = record { addresses = move_addresses count h.addresses; at = base + h.at; count = count + h.count }

abbrev HeadedIn : ℕ → Headed → Type 0
HeadedIn end h = h.at ≤ end

option_len_same : (count : ℕ) (a : Option Address) → option_len (move_address count a) ≡ option_len a
option_len_same count None = refl
option_len_same count (Some (Match None)) = refl
option_len_same count (Some (Match (Some k))) = refl
option_len_same count (Some (address.Line n)) = refl
option_len_same count (Some Last) = refl

-- what is read after what was read
pub gives_parts : {A B : Type 0} (text : List ℕ) (kind : Kind) (m : ℕ) (r : Reading A) (k : A → Reading B) (es : List WrittenExpression) (y : B) → Gives text kind m (r >>= k) es y →
    (fs : List WrittenExpression) × (gs : List WrittenExpression) × (x : A) × Gives text kind m r fs x × Gives text kind m (k x) gs y × (es ≡ fs ++ gs)
gives_parts text kind m (plainly (Ok x)) k es y g = ([], es, x, value, g, refl)
gives_parts text kind m (plainly (Err f)) k es y g = elim g [ ]
gives_parts text kind m (expression p l) k _ y (after_expression {es = es} e is g) =
    let h = gives_parts text kind m (l e.groups) k es y g in (e ∷ h.0, h.1, h.2, after_expression e is h.3, h.4, ap (λ (es : List WrittenExpression). e ∷ es) h.5)

gives_value : {A : Type 0} (text : List ℕ) (kind : Kind) (m : ℕ) (x y : A) (es : List WrittenExpression) → Gives text kind m (plainly (Ok x)) es y → y ≡ x
gives_value text kind m x y _ value = refl

module _ (before text : List ℕ) (more : Option (List ℕ)) (n : ℕ) (kind : Kind) (m : ℕ) where
  abbrev whole : List ℕ
  whole = before ++ (text ++ tail_of more)

  abbrev base : ℕ
  base = length before

  abbrev end : ℕ
  end = length text

  -- what a reading gives in the text, the other gives in the whole one, as it is there
  abbrev Stays : {A B : Type 0} → (A → Type 0) → (A → B) → Reading A → Reading B → Type 0
  Stays {A = A} P f r z = (es : List WrittenExpression) (x : A) → Gives text kind m r es x → Gives whole kind m z es (f x) × P x

  stays_plainly : {A B : Type 0} (P : A → Type 0) (f : A → B) (r : Result A ScriptFault) (z : Result B ScriptFault) → Same P f r z → Stays P f (plainly r) (plainly z)
  stays_plainly {B = B} P f (Ok x) z h _ _ value = (subst (λ (z : Result B ScriptFault). Gives whole kind m (plainly z) [] (f x)) (sym h.0) value, h.1)
  stays_plainly P f (Err e) z h es x g = elim g [ ]

  stays_fault : {A B : Type 0} (P : A → Type 0) (f : A → B) (e : ScriptFault) (z : Reading B) → Stays P f (plainly (Err e)) z
  stays_fault P f e z es x g = elim g [ ]

  stays_then : {A B C D : Type 0} (P : A → Type 0) (f : A → B) (Q : C → Type 0) (g : C → D) (r : Reading A) (z : Reading B) (k : A → Reading C) (l : B → Reading D) →
      Stays P f r z → ((x : A) → P x → Stays Q g (k x) (l (f x))) → Stays Q g (r >>= k) (z >>= l)
  stays_then {D = D} P f Q g r z k l h on es y given =
      let parts = gives_parts text kind m r k es y given in
      let first = h parts.0 parts.2 parts.3 in
      let second = on parts.2 first.1 parts.1 y parts.4 in
      (subst (λ (es : List WrittenExpression). Gives whole kind m (z >>= l) es (g y)) (sym parts.5) (gives_then whole kind m z l parts.0 parts.1 (f parts.2) (g y) first.0 second.0), second.1)

  stays_if : {A B : Type 0} (P : A → Type 0) (f : A → B) (t : Bool) (x y : Reading A) (z w : Reading B) → Stays P f x z → Stays P f y w → Stays P f (if t then x else y) (if t then z else w)
  stays_if P f true x y z w h g = h
  stays_if P f false x y z w h g = g

  -- an expression
  stays_expression : {A B : Type 0} (P : A → Type 0) (f : A → B) (from to place till d : ℕ) (folded other : Bool) (k : ℕ → Reading A) (l : ℕ → Reading B) → other ≡ folded → bytes_between whole place till ≡ bytes_between text from to →
      ((groups : ℕ) → Stays P f (k groups) (l groups)) → Stays P f (expression (record { from = from; to = to; delimiter = d; folded = folded }) k) (expression (record { from = place; to = till; delimiter = d; folded = other }) l)
  stays_expression P f from to place till d folded other k l fold same on _ x (after_expression {es = es} e is g) =
      let rest = on e.groups es x g in (
        after_expression e (record {
          reads = rw (same, fold) is.reads;
          no_fault = rw same is.no_fault;
          fits = is.fits;
        }) rest.0,
        rest.1,
      )

  -- an expression that is followed by a fault
  stays_nothing : {A B : Type 0} (P : A → Type 0) (f : A → B) (p : PatternExtent) (r : ℕ → Result A ScriptFault) (z : Reading B) → ((groups : ℕ) → (g : ScriptFault) × (r groups ≡ Err g)) → Stays P f (expression p (λ groups. plainly (r groups))) z
  stays_nothing {A = A} P f p r z bad _ x (after_expression {es = es} e is g) =
      absurd (none (bad e.groups).0 es x (subst (λ (r : Result A ScriptFault). Gives text kind m (plainly r) es x) (bad e.groups).1 g))
    where
      none : (g : ScriptFault) (es : List WrittenExpression) (x : A) → Gives text kind m (plainly (Err g)) es x → ⊥
      none g es x h = elim h [ ]

  -- ---- addresses

  abbrev AddressStays : Reading Addressed → Reading Addressed → Type 0
  AddressStays r z = Stays (AddressedIn end) (move_addressed base n) r z

  found_on : (a : Option Address) (at count place number : ℕ) → place ≡ base + at → number ≡ n + count → at ≤ end → Same (AddressedIn end) (move_addressed base n) (address_found a at count) (address_found (move_address n a) place number)
  found_on a at count place number e f le = (ap₂ (λ p c. address_found (move_address n a) p c) e f, le)

  line_on : (count from to place : ℕ) (o : Option ℕ) → to ≤ end → AddressStays (plainly (line_address count from to o)) (plainly (line_address (n + count) place (base + to) o))
  line_on count from to place None le = stays_plainly (AddressedIn end) (move_addressed base n) _ _ tt
  line_on count from to place (Some zero) le = stays_plainly (AddressedIn end) (move_addressed base n) _ _ tt
  line_on count from to place (Some (suc k)) le = stays_plainly (AddressedIn end) (move_addressed base n) _ _ (found_on (Some (address.Line (suc k))) to count (base + to) (n + count) refl refl le)

  folds_on : (at place : ℕ) → at ≤ end → place ≡ base + at → folds_at whole place ≡ folds_at text at
  folds_on at place le e = ap (folds_at whole) e ∙ near before text more (is_byte 73) at le refl

  byte_inside : (b at : ℕ) → is_byte b (slice_get text at) ≡ true → at < end
  byte_inside b at e = by_byte (slice_get text at) refl e
    where
      by_byte : (o : Option ℕ) → slice_get text at ≡ o → is_byte b o ≡ true → at < end
      by_byte None f e = absurd cc
      by_byte (Some c) f e = slice_get_within text at c f

  flag_on : (at place : ℕ) → at ≤ end → place ≡ base + at → (past_flag whole place ≡ base + past_flag text at) × (past_flag text at ≤ end)
  flag_on at place le e = by_test (folds_at whole place) (folds_at text at) (folds_on at place le e) refl
    where
      by_test : (s t : Bool) → s ≡ t → folds_at text at ≡ t → ((if s then place + 1 else place) ≡ base + (if t then at + 1 else at)) × ((if t then at + 1 else at) ≤ end)
      by_test true true h f = let low = byte_inside 73 at f in (omega (arith, e), omega (arith, low))
      by_test false false h f = (e, le)
      by_test true false h f = absurd cc
      by_test false true h f = absurd cc

  empty_on : (count at place : ℕ) → at ≤ end → place ≡ base + at → Same (AddressedIn end) (move_addressed base n) (empty_match text count at) (empty_match whole (n + count) place)
  empty_on count at place le e =
      subst (λ (t : Bool). Same (AddressedIn end) (move_addressed base n) (empty_match text count at) (if t then fault FlagOnEmpty place else address_found (Some (Match None)) place (n + count))) (sym (folds_on at place le e))
      (same_if (AddressedIn end) (move_addressed base n) (folds_at text at) _ _ _ _ tt (found_on (Some (Match None)) at count place (n + count) e refl le))

  match_on : (count d at : ℕ) → at < end → AddressStays (match_at text count d at) (match_at whole (n + count) d (base + at))
  unfolding match_at
  match_on count d at low =
      let one : base + at + 1 ≡ base + (at + 1) = omega arith in
      by_end (delimiter_at text (at + 1) d) (delimiter_at whole (base + at + 1) d)
      (subst (λ (k : ℕ). FoundOn base (at + 1) end (delimiter_at text (at + 1) d) (delimiter_at whole k d)) (sym one) (delimiter_on before text more (at + 1) d (omega (arith, low))))
    where
      there_is : (to : ℕ) → at + 1 ≤ to → to < end → AddressStays (match_to text count d at (Some to)) (match_to whole (n + count) d (base + at) (Some (base + to)))
      there_is to low high =
          let one : base + at + 1 ≡ base + (at + 1) = omega arith in
          let next : base + to + 1 ≡ base + (to + 1) = omega arith in
          let short : to + 1 ≤ end = omega (arith, high) in
          let counted : n + count + 1 ≡ n + (count + 1) = omega arith in
          let flags = flag_on (to + 1) (base + to + 1) short next in
          subst (λ (t : Bool). AddressStays (match_to text count d at (Some to)) (if t then plainly (empty_match whole (n + count) (base + to + 1))
          else expression (record { from = base + at + 1; to = base + to; delimiter = d; folded = folds_at whole (base + to + 1) })
          (λ groups. plainly (address_found (Some (Match (Some (n + count)))) (past_flag whole (base + to + 1)) (n + count + 1))))) (sym (same_test (at + 1) to (base + at + 1) (base + to) base one refl))
          (stays_if (AddressedIn end) (move_addressed base n) (to == at + 1) _ _ _ _ (stays_plainly (AddressedIn end) (move_addressed base n) _ _ (empty_on count (to + 1) (base + to + 1) short next))
          (stays_expression (AddressedIn end) (move_addressed base n) (at + 1) to (base + at + 1) (base + to) d (folds_at text (to + 1)) (folds_at whole (base + to + 1)) _ _ (folds_on (to + 1) (base + to + 1) short next)
          (ap (λ (k : ℕ). bytes_between whole k (base + to)) one ∙ between_on before text more (at + 1) to low (omega (arith, high)))
          (λ groups. stays_plainly (AddressedIn end) (move_addressed base n) _ _ (found_on (Some (Match (Some count))) (past_flag text (to + 1)) (count + 1) (past_flag whole (base + to + 1)) (n + count + 1) flags.0 counted flags.1))))

      by_end : (o z : Option ℕ) → FoundOn base (at + 1) end o z → AddressStays (match_to text count d at o) (match_to whole (n + count) d (base + at) z)
      by_end None z h = stays_fault (AddressedIn end) (move_addressed base n) _ (match_to whole (n + count) d (base + at) z)
      by_end (Some to) z h = subst (λ (z : Option ℕ). AddressStays (match_to text count d at (Some to)) (match_to whole (n + count) d (base + at) z)) (sym h.0) (there_is to h.1 h.2)

  own_match_on : (count at place : ℕ) → at ≤ end → place ≡ base + at → AddressStays (own_match text count at (own_delimiter (slice_get text at))) (own_match whole (n + count) place (own_delimiter (slice_get whole place)))
  own_match_on count at place le e =
      subst (λ (o : Option ℕ). AddressStays (own_match text count at (own_delimiter (slice_get text at))) (own_match whole (n + count) place o)) (sym (own_on before text more n at place le e))
      (subst (λ (k : ℕ). AddressStays (own_match text count at (own_delimiter (slice_get text at))) (own_match whole (n + count) k (own_delimiter (slice_get text at)))) (sym e) (by_own (own_delimiter (slice_get text at)) refl))
    where
      by_own : (o : Option ℕ) → own_delimiter (slice_get text at) ≡ o → AddressStays (own_match text count at o) (own_match whole (n + count) (base + at) o)
      by_own None f = stays_plainly (AddressedIn end) (move_addressed base n) _ _ tt
      by_own (Some d) f = let low = own_short before text more n at d f in match_on count d at (omega (arith, low))

  address_on : (count at : ℕ) → at ≤ end → AddressStays (address_at text count at) (address_at whole (n + count) (base + at))
  unfolding address_at
  address_on count at le =
      subst (λ (z : Reading Addressed). AddressStays (address_of text count at (slice_get text at)) z) (sym (near before text more (address_of whole (n + count) (base + at)) at le refl)) (by_byte (slice_get text at) refl)
    where
      by_byte : (o : Option ℕ) → slice_get text at ≡ o → AddressStays (address_of text count at o) (address_of whole (n + count) (base + at) o)
      by_byte None e = stays_plainly (AddressedIn end) (move_addressed base n) _ _ (found_on None at count (base + at) (n + count) refl refl le)
      by_byte (Some b) e =
          let low = slice_get_within text at b e in
          let one : base + at + 1 ≡ base + (at + 1) = omega arith in
          let digits : past Digit whole (base + at) ≡ base + past Digit text at = past_on before text more Digit at le refl in
          let high : past Digit text at ≤ end = past_high Digit text at le in
          stays_if (AddressedIn end) (move_addressed base n) (is_digit b) _ _ _ _
          (subst (λ (k : ℕ). AddressStays (plainly (line_address count at (past Digit text at) (with_digits (Some 0) (bytes_between text at (past Digit text at))))) (plainly (line_address (n + count) (base + at) k (with_digits (Some 0) (bytes_between whole (base + at) k))))) (sym digits)
          (subst (λ (bs : List ℕ). AddressStays (plainly (line_address count at (past Digit text at) (with_digits (Some 0) (bytes_between text at (past Digit text at))))) (plainly (line_address (n + count) (base + at) (base + past Digit text at) (with_digits (Some 0) bs)))) (sym (between_on before text more at (past Digit text at) (past_low Digit text at) high))
          (line_on count at (past Digit text at) (base + at) (with_digits (Some 0) (bytes_between text at (past Digit text at))) high)))
          (stays_if (AddressedIn end) (move_addressed base n) (b == 36) _ _ _ _ (stays_plainly (AddressedIn end) (move_addressed base n) _ _ (found_on (Some Last) (at + 1) count (base + at + 1) (n + count) one refl (omega (arith, low))))
          (stays_if (AddressedIn end) (move_addressed base n) (b == 47) _ _ _ _ (match_on count 47 at low)
          (stays_if (AddressedIn end) (move_addressed base n) (b == 92) _ _ _ _ (own_match_on count (at + 1) (base + at + 1) (omega (arith, low)) one)
          (stays_plainly (AddressedIn end) (move_addressed base n) _ _ (found_on None at count (base + at) (n + count) refl refl le)))))

  abbrev HeadStays : Reading Headed → Reading Headed → Type 0
  HeadStays r z = Stays (HeadedIn end) (move_headed base n) r z

  second_on : (count : ℕ) (first : Address) (at place : ℕ) (other : Address) → at ≤ end → place ≡ base + at → Some other ≡ move_address n (Some first) → HeadStays (second_at text count first at) (second_at whole (n + count) other place)
  unfolding second_at
  second_on count first at place other le e f =
      stays_then (AddressedIn end) (move_addressed base n) (HeadedIn end) (move_headed base n) (address_at text count at) (address_at whole (n + count) place) _ _
      (subst (λ (k : ℕ). AddressStays (address_at text count at) (address_at whole (n + count) k)) (sym e) (address_on count at le))
      (λ x h. stays_plainly (HeadedIn end) (move_headed base n) _ _ (by_address x x.address h))
    where
      both : (x : Addressed) (a b : Address) → Some b ≡ move_address n (Some a) → x.at ≤ end → Same (HeadedIn end) (move_headed base n) (with_second first at x (Some a)) (with_second other place (move_addressed base n x) (Some b))
      both x a b g h = (ap₂ (λ o p. with_addresses o p (base + x.at) (n + x.count)) f g, h)

      by_address : (x : Addressed) (o : Option Address) → x.at ≤ end → Same (HeadedIn end) (move_headed base n) (with_second first at x o) (with_second other place (move_addressed base n x) (move_address n o))
      by_address x None h = tt
      by_address x (Some (Match None)) h = both x (Match None) (Match None) refl h
      by_address x (Some (Match (Some k))) h = both x (Match (Some k)) (Match (Some (n + k))) refl h
      by_address x (Some (address.Line k)) h = both x (address.Line k) (address.Line k) refl h
      by_address x (Some Last) h = both x Last Last refl h

  after_on : (count at number : ℕ) (o : Option Address) → at ≤ end → number ≡ n + count → HeadStays (after_first text count at o) (after_first whole number (base + at) (move_address n o))
  after_on count at number o le e = subst (λ (k : ℕ). HeadStays (after_first text count at o) (after_first whole k (base + at) (move_address n o))) (sym e) (by_address o)
    where
      some : (a b : Address) → Some b ≡ move_address n (Some a) → HeadStays (after_first text count at (Some a)) (after_first whole (n + count) (base + at) (Some b))
      some a b f =
          let blanks : past Blank whole (base + at) ≡ base + past Blank text at = past_on before text more Blank at le refl in
          let high : past Blank text at ≤ end = past_high Blank text at le in
          let comma : is_byte 44 (slice_get whole (past Blank whole (base + at))) ≡ is_byte 44 (slice_get text (past Blank text at)) = ap (λ (k : ℕ). is_byte 44 (slice_get whole k)) blanks ∙ near before text more (is_byte 44) (past Blank text at) high refl in
          subst (λ (t : Bool). HeadStays (after_first text count at (Some a)) (if t then second_at whole (n + count) b (past Blank whole (past Blank whole (base + at) + 1)) else plainly (with_addresses (Some b) None (base + at) (n + count)))) (sym comma)
          (by_comma (is_byte 44 (slice_get text (past Blank text at))) refl blanks)
        where
          by_comma : (t : Bool) → is_byte 44 (slice_get text (past Blank text at)) ≡ t → past Blank whole (base + at) ≡ base + past Blank text at →
              HeadStays (if t then second_at text count a (past Blank text (past Blank text at + 1)) else plainly (with_addresses (Some a) None at count)) (if t then second_at whole (n + count) b (past Blank whole (past Blank whole (base + at) + 1)) else plainly (with_addresses (Some b) None (base + at) (n + count)))
          by_comma true g blanks =
              let low = byte_inside 44 (past Blank text at) g in
              let short : past Blank text at + 1 ≤ end = omega (arith, low) in
              let one : past Blank whole (base + at) + 1 ≡ base + (past Blank text at + 1) = omega (arith, blanks) in
              second_on count a (past Blank text (past Blank text at + 1)) (past Blank whole (past Blank whole (base + at) + 1)) b (past_high Blank text (past Blank text at + 1) short)
              (ap (past Blank whole) one ∙ past_on before text more Blank (past Blank text at + 1) short refl) f
          by_comma false g blanks = stays_plainly (HeadedIn end) (move_headed base n) _ _ (ap (λ o. with_addresses o None (base + at) (n + count)) f, le)

      by_address : (o : Option Address) → HeadStays (after_first text count at o) (after_first whole (n + count) (base + at) (move_address n o))
      by_address None = stays_plainly (HeadedIn end) (move_headed base n) _ _ (refl, le)
      by_address (Some (Match None)) = some (Match None) (Match None) refl
      by_address (Some (Match (Some k))) = some (Match (Some k)) (Match (Some (n + k))) refl
      by_address (Some (address.Line k)) = some (address.Line k) (address.Line k) refl
      by_address (Some Last) = some Last Last refl

  addresses_on : (count at : ℕ) → at ≤ end → HeadStays (addresses_at text count at) (addresses_at whole (n + count) (base + at))
  unfolding addresses_at
  addresses_on count at le =
      stays_then (AddressedIn end) (move_addressed base n) (HeadedIn end) (move_headed base n) (address_at text count at) (address_at whole (n + count) (base + at)) _ _ (address_on count at le)
      (λ x h. after_on x.count x.at (n + x.count) x.address h refl)

  -- ---- functions

  bang_on : (h : Headed) → h.at ≤ end → (with_bang whole (move_headed base n h) ≡ move_headed base n (with_bang text h)) × ((with_bang text h).at ≤ end)
  bang_on h le =
      let blanks : past Blank whole (base + h.at) ≡ base + past Blank text h.at = past_on before text more Blank h.at le refl in
      let high : past Blank text h.at ≤ end = past_high Blank text h.at le in
      let bang : is_byte 33 (slice_get whole (past Blank whole (base + h.at))) ≡ is_byte 33 (slice_get text (past Blank text h.at)) = ap (λ (k : ℕ). is_byte 33 (slice_get whole k)) blanks ∙ near before text more (is_byte 33) (past Blank text h.at) high refl in
      let bangs : past Bang whole (past Blank whole (base + h.at)) ≡ base + past Bang text (past Blank text h.at) = ap (past Bang whole) blanks ∙ past_on before text more Bang (past Blank text h.at) high refl in
      by_test (is_byte 33 (slice_get whole (past Blank whole (base + h.at)))) (is_byte 33 (slice_get text (past Blank text h.at))) bang blanks bangs high (past_high Bang text (past Blank text h.at) high)
    where
      chosen : List ℕ → Bool → Headed → Headed
      chosen t b h =
          if b
          then record { addresses = record { first = h.addresses.first; second = h.addresses.second; negate = true }; at = past Bang t (past Blank t h.at); count = h.count }
          else record { addresses = h.addresses; at = past Blank t h.at; count = h.count }

      by_test : (s t : Bool) → s ≡ t → past Blank whole (base + h.at) ≡ base + past Blank text h.at → past Bang whole (past Blank whole (base + h.at)) ≡ base + past Bang text (past Blank text h.at) → past Blank text h.at ≤ end → past Bang text (past Blank text h.at) ≤ end →
          (chosen whole s (move_headed base n h) ≡ move_headed base n (chosen text t h)) × ((chosen text t h).at ≤ end)
      by_test true true e f g low high = (ap (λ p. record { addresses = record { first = move_address n h.addresses.first; second = move_address n h.addresses.second; negate = true }; at = p; count = n + h.count }) g, high)
      by_test false false e f g low high = (ap (λ p. record { addresses = move_addresses n h.addresses; at = p; count = n + h.count }) f, low)
      by_test true false e f g low high = absurd cc
      by_test false true e f g low high = absurd cc

  abbrev ArgumentStays : Reading (Argument × ℕ) → Reading (Argument × ℕ) → Type 0
  ArgumentStays r z = Stays (EndsIn end) (move_found base n) r z

  -- where the flags have a fault, the substitution has one
  no_flags_read : (s : Strings) (count : ℕ) (limit : Option ℕ) (f : ScriptFault) → flags_after text s false ≡ Err f → (g : ScriptFault) × (substituted text s (Some count) limit ≡ Err g)
  unfolding substituted
  no_flags_read s count limit f e = by_fault (replacement_fault s.delimiter limit false (s.middle + 1) (bytes_between text (s.middle + 1) s.to))
    where
      by_fault : (o : Option ScriptFault) → (g : ScriptFault) × (unless_fault o (flagged text s (Some count)) ≡ Err g)
      by_fault None = (f, ap (λ (r : Result (Flags × ℕ) ScriptFault). ◌then◌ r (λ (x : Flags × ℕ). to_command_end text (FlaggedPair s (Some count) x.0) x.1)) e)
      by_fault (Some g) = (g, refl)

  substitute_on : (count : ℕ) (s : Strings) → StringsIn end s → ArgumentStays (substitute_with text count s) (substitute_with whole (n + count) (move_strings base s))
  substitute_on count s h =
      subst (λ (t : Bool). ArgumentStays (substitute_with text count s) (if t then plainly (substituted whole (move_strings base s) None None) else expression
      (record { from = base + s.from; to = base + s.middle; delimiter = s.delimiter; folded = folds (flags_after whole (move_strings base s) false) }) (λ groups. plainly (substituted whole (move_strings base s) (Some (n + count)) (Some groups)))))
      (sym (same_test s.from s.middle (base + s.from) (base + s.middle) base refl refl))
      (stays_if (EndsIn end) (move_found base n) (s.middle == s.from) _ _ _ _ (stays_plainly (EndsIn end) (move_found base n) _ _ (substituted_on before text more n s None None h))
      (by_flags (flags_after text s false) (flags_after whole (move_strings base s) false) refl (flags_there before text more n s false h)))
    where
      by_flags : (r z : Result (Flags × ℕ) ScriptFault) → flags_after text s false ≡ r → Same (FlagsIn end) (move_flagged base) r z →
          ArgumentStays (expression (record { from = s.from; to = s.middle; delimiter = s.delimiter; folded = folds r }) (λ groups. plainly (substituted text s (Some count) (Some groups))))
          (expression (record { from = base + s.from; to = base + s.middle; delimiter = s.delimiter; folded = folds z }) (λ groups. plainly (substituted whole (move_strings base s) (Some (n + count)) (Some groups))))
      by_flags (Ok x) z e same =
          stays_expression (EndsIn end) (move_found base n) s.from s.middle (base + s.from) (base + s.middle) s.delimiter x.0.folded (folds z) _ _ (ap folds same.0) (first_string before text more n s h)
          (λ groups. stays_plainly (EndsIn end) (move_found base n) _ _ (substituted_on before text more n s (Some count) (Some groups) h))
      by_flags (Err f) z e same = stays_nothing (EndsIn end) (move_found base n) _ (λ groups. substituted text s (Some count) (Some groups)) _ (λ groups. no_flags_read s count (Some groups) f e)

  substitute_at_on : (count at : ℕ) → at < end → ArgumentStays (substitute_at text count at) (substitute_at whole (n + count) (base + at))
  unfolding substitute_at
  substitute_at_on count at low =
      stays_then (StringsIn end) (move_strings base) (EndsIn end) (move_found base n) (plainly (substitute_strings text (at + 1) (own_delimiter (slice_get text (at + 1))))) (plainly (substitute_strings whole (base + at + 1) (own_delimiter (slice_get whole (base + at + 1))))) _ _
      (stays_plainly (StringsIn end) (move_strings base) _ _ (strings_on before text more n (at + 1) (base + at + 1) (omega (arith, low)) (omega arith))) (λ s h. substitute_on count s h)

  argument_with_on : (count at : ℕ) (verb : Verb) → at < end → ArgumentStays (argument_with text count verb at) (argument_with whole (n + count) verb (base + at))
  argument_with_on count at Substitute low = substitute_at_on count at low
  argument_with_on count at verb low = stays_plainly (EndsIn end) (move_found base n) _ _ (argument_on before text more n verb at (base + at) low refl)

  abbrev Any : Verb → Type 0
  Any verb = Unit {0}

  allowed_on : (a : Addresses) (at place : ℕ) (o : Option Verb) → Same Any (λ (verb : Verb). verb) (allowed a at o) (allowed (move_addresses n a) place o)
  allowed_on a at place None = tt
  allowed_on a at place (Some verb) =
      subst (λ (k : ℕ). Same Any (λ (verb : Verb). verb) (allowed a at (Some verb)) (if a.negate && most_addresses verb == 0 then fault UnknownCommand place else if nat_lt (most_addresses verb) k then fault TooManyAddresses place else Ok verb))
      (sym (ap₂ (λ i j. i + j) (option_len_same n a.first) (option_len_same n a.second)))
      (same_if Any (λ (verb : Verb). verb) (a.negate && most_addresses verb == 0) _ _ _ _ tt (same_if Any (λ (verb : Verb). verb) (nat_lt (most_addresses verb) (option_len a.first + option_len a.second)) _ _ _ _ tt (refl, tt)))

  abbrev HereStays : Reading ItemOrEnd → Reading ItemOrEnd → Type 0
  HereStays r z = Stays (HereIn end) (move_here base n) r z

  function_at_on : (count at : ℕ) (a : Addresses) → HereStays (function_at text count a at) (function_at whole (n + count) (move_addresses n a) (base + at))
  unfolding function_at
  function_at_on count at a = by_letter (slice_get text at) refl
    where
      by_letter : (o : Option ℕ) → slice_get text at ≡ o → HereStays (item_with text count a at o) (item_with whole (n + count) (move_addresses n a) (base + at) (slice_get whole (base + at)))
      by_letter None e = stays_fault (HereIn end) (move_here base n) _ _
      by_letter (Some letter) e =
          let low = slice_get_within text at letter e in
          subst (λ (o : Option ℕ). HereStays (item_with text count a at (Some letter)) (item_with whole (n + count) (move_addresses n a) (base + at) o)) (sym (there before text more at letter e))
          (stays_then Any (λ (verb : Verb). verb) (HereIn end) (move_here base n) (plainly (allowed a at (verb_of letter))) (plainly (allowed (move_addresses n a) (base + at) (verb_of letter))) _ _
          (stays_plainly Any (λ (verb : Verb). verb) _ _ (allowed_on a at (base + at) (verb_of letter)))
          (λ verb h. stays_then (EndsIn end) (move_found base n) (HereIn end) (move_here base n) (argument_with text count verb at) (argument_with whole (n + count) verb (base + at)) _ _ (argument_with_on count at verb low)
          (λ x k. stays_plainly (HereIn end) (move_here base n) _ _ (refl, k))))

  pub item_on : (count at next : ℕ) (es : List WrittenExpression) (i : Item) → at ≤ end → Gives text kind m (item_at text count at) es (Is i next) →
      Gives whole kind m (item_at whole (n + count) (base + at)) es (Is (move_item base n i) (base + next)) × ArgumentIn end i.argument × (next ≤ end)
  unfolding item_at
  item_on count at next es i le given = by_byte (slice_get text (past Separator text at)) refl given
    where
      by_byte : (o : Option ℕ) → slice_get text (past Separator text at) ≡ o → Gives text kind m (item_from text count (past Separator text at) o) es (Is i next) →
          Gives whole kind m (item_from whole (n + count) (past Separator whole (base + at)) (slice_get whole (past Separator whole (base + at)))) es (Is (move_item base n i) (base + next)) × ArgumentIn end i.argument × (next ≤ end)
      by_byte None e g = let same : ◌≡◌ {A = ItemOrEnd} (Is i next) Ends = gives_value text kind m Ends (Is i next) es g in absurd cc
      by_byte (Some b) e g =
          let begins : past Separator whole (base + at) ≡ base + past Separator text at = past_separators before text more at b le e in
          let high : past Separator text at ≤ end = past_high Separator text at le in
          let given = stays_then (HeadedIn end) (move_headed base n) (HereIn end) (move_here base n) (addresses_at text count (past Separator text at)) (addresses_at whole (n + count) (base + past Separator text at)) (function_after text) (function_after whole) (addresses_on count (past Separator text at) high)
          (λ h k. let banged = bang_on h k in
          subst (λ (x : Headed). HereStays (function_after text h) (function_at whole (n + h.count) x.addresses x.at)) (sym banged.0) (function_at_on h.count (with_bang text h).at (with_bang text h).addresses)) es (Is i next) g in (
            subst (λ (k : ℕ). Gives whole kind m (item_from whole (n + count) k (slice_get whole k)) es (Is (move_item base n i) (base + next))) (sym begins)
                (subst (λ (o : Option ℕ). Gives whole kind m (item_from whole (n + count) (base + past Separator text at) o) es (Is (move_item base n i) (base + next))) (sym (there before text more (past Separator text at) b e)) given.0),
            given.1.0,
            given.1.1,
          )
