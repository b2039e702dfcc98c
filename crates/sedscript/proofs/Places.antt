-- Faults are in the text or at its end, and what is read names expressions that were read.
use Rattle.std.proofs.Common.{◌≡◌, ℕ, zero, suc, ◌+◌, ◌-◌, ◌<◌, ◌≤◌, ◌&&◌, ◌==◌, Bool, true, false, not, List, [], ◌∷◌, ◌++◌, length, Option, Some, None, is_some, is_none, option_map, option_and_then, Result, Ok, Err, refl, sym, subst, ◌∙◌, arith, if◌then◌else◌, slice_get, drop, nat_lt, length-take, length-drop, length-append, ◌⊎◌, inl, inr, OnOk, unwrap_or}
use Rattle.std.specs.Option.{option_len, option_or}
use Rattle.sedre.specs.declared.types.Kind.{Kind}
use Rattle.sedre.specs.declared.types.ExprReason.{ExprReason}
use Rattle.sedre.specs.Tree.{WrittenExpression}
use Rattle.sedre.specs.Grammar.{ExprFaulty}
use Rattle.sedre.specs.Brackets.{first_delimiter, next_place, delimiter_at}
use Rattle.sedscript.specs.declared.bytes.Sort.{Sort}
use Rattle.sedscript.specs.declared.bytes.Sort.TheVariants.{Blank, Name, Bang, Digit, Separator, Line}
use Rattle.sedscript.specs.declared.types.ScriptFault.{ScriptFault}
use Rattle.sedscript.specs.declared.types.Reason.TheVariants.{OpenDelimiter}
use Rattle.sedscript.specs.declared.types.TheConstants.{NO_MEMORY}
use Rattle.sedscript.specs.declared.types.Reason.{Reason}
use Rattle.sedscript.specs.declared.types.Reason.TheVariants.{LengthsDiffer}
use Rattle.sedscript.specs.declared.types.Address.{Address}
use Rattle.sedscript.specs.declared.types.Address.TheVariants.{Line as line, Match}
use Rattle.sedscript.specs.declared.items.Flags.{Flags}
use Rattle.sedscript.specs.declared.items.Strings.{Strings}
use Rattle.sedscript.specs.Types.{Verb, Argument, Between, Pair, FlaggedPair, Piece, group}
use Rattle.sedscript.specs.declared.letters.Verb.TheVariants.{Open, Close, Comment, Label, Branch, Text, File, Substitute, Transliterate}
use Rattle.sedscript.specs.declared.items.Addresses.{Addresses}
use Rattle.sedscript.specs.declared.items.Item.{Item}
use Rattle.sedscript.specs.declared.items.ItemOrEnd.{ItemOrEnd}
use Rattle.sedscript.specs.declared.items.ItemOrEnd.TheVariants.{Is, Ends}
use Rattle.sedscript.specs.declared.texts.Inside.{Inside}
use Rattle.sedscript.specs.declared.texts.Inside.TheVariants.{InLine, Escape, Due}
use Rattle.sedscript.specs.declared.transliteration.Char.{Char}
use Rattle.std.specs.List.{cons_option, prefix_len, take_while}
use Rattle.std.proofs.lemmas.List.Sums.{prefix_len-le-length}
use Rattle.sedscript.specs.Bytes.{past, belongs, bytes_between, is_digit, is_byte, with_digits, or_fault, ◌>>=◌ as ◌then◌, fault_if}
use Rattle.sedscript.specs.Strings.{escapes, string_end, escaped_piece, exceeds, piece_fault, replacement_fault, escaped_byte, char_of, chars_from, chars_of, string_fault, is_among, repeated_in, strings_fault, repeated_fault}
use Rattle.sedscript.specs.Arguments.{to_command_end, may_end, text_end, text_from, name_from, spanned, no_flags, with_flag_number, with_number, with_flag, flags_from, own_delimiter, strings_after, substitute_strings, transliterate_strings, unless_fault, flags_after, with_file, ends_flags}
use Rattle.sedscript.specs.Items.{Reading, plainly, expression, ◌>>=◌, Addressed, Headed, with_addresses, line_address, folds_at, past_flag, match_at, own_match, address_of, address_at, with_second, second_at, after_first, addresses_at, with_bang, substitute_with, substitute_at, argument_with, function_at, item_from, item_at, item_of, match_to, function_after, item_with}
use Rattle.sedscript.specs.Letters.{verb_of, most_addresses, allowed, label_at, transliterate_at, substituted, argument_of}
use Rattle.sedscript.specs.Script.{Gives, value, after_expression, CutScript, done, next_item, target_fault_at, target_fault_in, depth_after, block_end, written_in, branch_in, label_in}
use Rattle.sedscript.specs.FirstFault.{Fails, own, no_expression, later, Faulty, early, afterwards}
use Rattle.sedscript.specs.Ranges.{IsOneOf, AddressWithin}

-- what holds of both sides of a test holds of the one that it takes
pub if_both : {A : Type 0} (P : A → Type 0) (t : Bool) (x y : A) → P x → P y → P (if t then x else y)
if_both P true x y h g = h
if_both P false x y h g = g

-- places

-- a byte that is there comes before the end
inside : (xs : List ℕ) (i x : ℕ) → slice_get xs i ≡ Some x → i < length xs
inside [] zero x e = cc
inside [] (suc i) x e = cc
inside (y ∷ xs) zero x e = omega arith
inside (y ∷ xs) (suc i) x e = let h = inside xs i x e in omega (arith, h)

byte_inside : (b : ℕ) (text : List ℕ) (at : ℕ) → is_byte b (slice_get text at) ≡ true → at < length text
byte_inside b text at e = by_byte (slice_get text at) refl e
  where
    by_byte : (o : Option ℕ) → slice_get text at ≡ o → is_byte b o ≡ true → at < length text
    by_byte None f e = cc
    by_byte (Some c) f e = inside text at c f

past_up_to : (sort : Sort) (text : List ℕ) (at : ℕ) → at ≤ length text → past sort text at ≤ length text
unfolding past
past_up_to sort text at le = omega (arith, le, prefix_len-le-length (belongs sort) (drop at text), length-drop at text)

between_short : (text : List ℕ) (from to : ℕ) → from ≤ to → from + length (bytes_between text from to) ≤ to
between_short text from to le = omega (arith, le, length-take (to - from) (drop from text))

-- a place that was found lies from one place on and before another
abbrev FoundIn : (from end : ℕ) → Option ℕ → Type 0
FoundIn from end None = Unit {0}
FoundIn from end (Some to) = (from ≤ to) × (to < end)

found_later : (from next end : ℕ) (o : Option ℕ) → from ≤ next → FoundIn next end o → FoundIn from end o
found_later from next end None le h = tt
found_later from next end (Some to) le h = (omega (arith, le, h.0), h.1)

found_then : (from end : ℕ) (f : ℕ → Option ℕ) (o : Option ℕ) → ((n : ℕ) → FoundIn from end (f n)) → FoundIn from end (option_and_then f o)
found_then from end f None h = tt
found_then from end f (Some n) h = h n

first_in : (d skip at end : ℕ) (bs : List ℕ) → at + length bs ≤ end → FoundIn at end (first_delimiter d skip at bs)
first_in d skip at end [] le = tt
first_in d (suc skip) at end (b ∷ bs) le =
    if_both (FoundIn at end) (b == 10) _ _ tt (found_later at (at + 1) end _ (omega arith) (first_in d skip (at + 1) end bs (omega (arith, le))))
first_in d zero at end (b ∷ bs) le =
    if_both (FoundIn at end) (b == 10) _ _ tt
    (if_both (FoundIn at end) (b == d) _ _ (omega arith, omega (arith, le))
    (found_then at end (λ next. first_delimiter d (next - (at + 1)) (at + 1) bs) (next_place d at (b ∷ bs))
    (λ next. found_later at (at + 1) end _ (omega arith) (first_in d (next - (at + 1)) (at + 1) end bs (omega (arith, le))))))

delimiter_in : (text : List ℕ) (at d : ℕ) → at ≤ length text → FoundIn at (length text) (delimiter_at text at d)
unfolding delimiter_at
delimiter_in text at d le = first_in d 0 at (length text) (drop at text) (omega (arith, le, length-drop at text))

string_in : (breaks : Bool) (d : ℕ) (escaped : Bool) (at end : ℕ) (bs : List ℕ) → at + length bs ≤ end → FoundIn at end (string_end breaks d escaped at bs)
string_in breaks d escaped at end [] le = tt
string_in breaks d escaped at end (b ∷ bs) le =
    if_both (FoundIn at end) (b == 10 && not (breaks && escaped)) _ _ tt
    (if_both (FoundIn at end) escaped _ _ (found_later at (suc at) end _ (omega arith) (string_in breaks d false (suc at) end bs (omega (arith, le))))
    (if_both (FoundIn at end) (b == d) _ _ (omega arith, omega (arith, le))
    (found_later at (suc at) end _ (omega arith) (string_in breaks d (b == 92) (suc at) end bs (omega (arith, le))))))

text_in : (how : Inside) (at end : ℕ) (bs : List ℕ) → at + length bs < end → FoundIn at end (text_end how at bs)
text_in InLine at end [] le = (omega arith, omega (arith, le))
text_in how at end [] le = tt
text_in Escape at end (b ∷ bs) le =
    found_later at (suc at) end (text_end (if b == 10 then Due else InLine) (suc at) bs) (omega arith) (text_in (if b == 10 then Due else InLine) (suc at) end bs (omega (arith, le)))
text_in how at end (b ∷ bs) le =
    let here : FoundIn at end (Some at) = (omega arith, omega (arith, le)) in
    if_both (FoundIn at end) (b == 10) (Some at) (text_end (if b == 92 then Escape else InLine) (suc at) bs) here
    (found_later at (suc at) end (text_end (if b == 92 then Escape else InLine) (suc at) bs) (omega arith) (text_in (if b == 92 then Escape else InLine) (suc at) end bs (omega (arith, le))))

-- faults

-- a fault, where there is one, is not past a place
abbrev FaultUpTo : ℕ → Option ScriptFault → Type 0
FaultUpTo n None = Unit {0}
FaultUpTo n (Some f) = f.place ≤ n

fault_if_up_to : (n : ℕ) (t : Bool) (reason : Reason) (place : ℕ) → place ≤ n → FaultUpTo n (fault_if t reason place)
fault_if_up_to n true reason place le = le
fault_if_up_to n false reason place le = tt

fault_or : (n : ℕ) (x y : Option ScriptFault) → FaultUpTo n x → FaultUpTo n y → FaultUpTo n (option_or x y)
fault_or n None y h g = g
fault_or n (Some f) y h g = h

piece_up_to : (n : ℕ) (limit : Option ℕ) (place : ℕ) (o : Option Piece) → place ≤ n → FaultUpTo n (piece_fault limit place o)
piece_up_to n limit place None le = le
piece_up_to n limit place (Some (group k)) le = fault_if_up_to n (exceeds limit k) _ place le
piece_up_to n limit place other le = tt

replacement_up_to : (n d : ℕ) (limit : Option ℕ) (escaped : Bool) (at : ℕ) (bs : List ℕ) → at + length bs ≤ n → FaultUpTo n (replacement_fault d limit escaped at bs)
replacement_up_to n d limit escaped at [] le = tt
replacement_up_to n d limit true at (b ∷ bs) le =
    fault_or n _ _ (piece_up_to n limit (at - 1) (escaped_piece d b) (omega (arith, le))) (replacement_up_to n d limit false (suc at) bs (omega (arith, le)))
replacement_up_to n d limit false at (b ∷ bs) le = replacement_up_to n d limit (b == 92) (suc at) bs (omega (arith, le))

string_up_to : (n d : ℕ) (escaped : Bool) (at : ℕ) (bs : List ℕ) → at + length bs ≤ n → FaultUpTo n (string_fault d escaped at bs)
string_up_to n d escaped at [] le = tt
string_up_to n d escaped at (b ∷ bs) le =
    if_both (FaultUpTo n) (escaped && is_none (escaped_byte d b)) _ _ (omega (arith, le)) (string_up_to n d (escapes escaped b) (suc at) bs (omega (arith, le)))

-- each of a list is as it should be
abbrev pub Each : {A : Type 0} → (A → Type 0) → List A → Type 0
Each P [] = Unit {0}
Each P (x ∷ xs) = P x × Each P xs

abbrev CharsUpTo : ℕ → List Char → Type 0
CharsUpTo n cs = Each (λ c. c.place ≤ n) cs

abbrev CharUpTo : ℕ → Option Char → Type 0
CharUpTo n None = Unit {0}
CharUpTo n (Some c) = c.place ≤ n

char_up_to : (n d : ℕ) (escaped : Bool) (at b : ℕ) → at ≤ n → CharUpTo n (char_of d escaped at b)
char_up_to n d true at b le = by_byte (escaped_byte d b)
  where
    by_byte : (o : Option ℕ) → CharUpTo n (option_map (λ x. record { byte = x; place = at - 1 }) o)
    by_byte None = tt
    by_byte (Some x) = omega (arith, le)
char_up_to n d false at b le = by_slash (b == 92)
  where
    by_slash : (t : Bool) → CharUpTo n (if t then None else Some (record { byte = b; place = at }))
    by_slash true = tt
    by_slash false = le

with_up_to : (n : ℕ) (o : Option Char) (cs : List Char) → CharUpTo n o → CharsUpTo n cs → CharsUpTo n (cons_option o cs)
with_up_to n None cs h g = g
with_up_to n (Some c) cs h g = (h, g)

chars_up_to : (n d : ℕ) (escaped : Bool) (at : ℕ) (bs : List ℕ) → at + length bs ≤ n → CharsUpTo n (chars_from d escaped at bs)
chars_up_to n d escaped at [] le = tt
chars_up_to n d escaped at (b ∷ bs) le =
    with_up_to n (char_of d escaped at b) _ (char_up_to n d escaped at b (omega (arith, le))) (chars_up_to n d (escapes escaped b) (suc at) bs (omega (arith, le)))

repeated_up_to : (n : ℕ) (before : List ℕ) (cs : List Char) → CharsUpTo n cs → FaultUpTo n (repeated_fault (repeated_in before cs))
repeated_up_to n before [] h = tt
repeated_up_to n before (c ∷ cs) h = by_test (is_among before c.byte) (repeated_up_to n (c.byte ∷ before) cs h.1)
  where
    by_test : (t : Bool) → FaultUpTo n (repeated_fault (repeated_in (c.byte ∷ before) cs)) → FaultUpTo n (repeated_fault (if t then Some c.place else repeated_in (c.byte ∷ before) cs))
    by_test true g = h.0
    by_test false g = g

strings_up_to : (text : List ℕ) (d letter from middle to n : ℕ) → letter ≤ n → from ≤ middle → middle < to → to ≤ n → FaultUpTo n (strings_fault text d letter from middle to)
strings_up_to text d letter from middle to n low a b high =
    fault_or n _ _ (string_up_to n d false from (bytes_between text from middle) (omega (arith, b, high, between_short text from middle a)))
    (fault_or n _ _ (string_up_to n d false (middle + 1) (bytes_between text (middle + 1) to) (omega (arith, high, between_short text (middle + 1) to (omega (arith, b)))))
    (fault_or n _ _ (repeated_up_to n [] (chars_of text d from middle) (chars_up_to n d false from (bytes_between text from middle) (omega (arith, b, high, between_short text from middle a))))
    (fault_if_up_to n (not (length (chars_of text d from middle) == length (chars_of text d (middle + 1) to))) LengthsDiffer letter low)))

-- what is read

-- a value is as it should be, and a fault is not past a place
abbrev ReadUpTo : {A : Type 0} → (A → Type 0) → ℕ → Result A ScriptFault → Type 0
ReadUpTo P n (Ok x) = P x
ReadUpTo P n (Err f) = f.place ≤ n

read_then : {A B : Type 0} (P : A → Type 0) (Q : B → Type 0) (n : ℕ) (r : Result A ScriptFault) (f : A → Result B ScriptFault) → ReadUpTo P n r → ((x : A) → P x → ReadUpTo Q n (f x)) →
    ReadUpTo Q n (◌then◌ r f)
read_then P Q n (Ok x) f h g = g x h
read_then P Q n (Err e) f h g = h

unless_up_to : {A : Type 0} (P : A → Type 0) (n : ℕ) (o : Option ScriptFault) (r : Result A ScriptFault) → FaultUpTo n o → ReadUpTo P n r → ReadUpTo P n (unless_fault o r)
unless_up_to P n None r h g = g
unless_up_to P n (Some f) r h g = h

-- a value of which nothing is said
abbrev Any : {A : Type 0} → A → Type 0
Any x = Unit {0}

-- strings lie before a place
abbrev StringsIn : ℕ → Strings → Type 0
StringsIn n s = (s.from ≤ s.middle) × (s.middle < s.to) × (s.to < n)

-- the second string, where it ends
abbrev strings_to : ℕ → ℕ → ℕ → Option ℕ → Result Strings ScriptFault
strings_to d from middle o = ◌then◌ (or_fault o OpenDelimiter middle) (λ (to : ℕ). Ok (record { delimiter = d; from = from; middle = middle; to = to }))

strings_to_read : (n d from middle : ℕ) (o : Option ℕ) → from ≤ middle → middle < n → FoundIn (middle + 1) n o → ReadUpTo (StringsIn n) n (strings_to d from middle o)
strings_to_read n d from middle None a b h = omega (arith, b)
strings_to_read n d from middle (Some to) a b h = (a, omega (arith, h.0), h.1)

strings_after_read : (text : List ℕ) (breaks : Bool) (d place : ℕ) (o : Option ℕ) → place < length text → FoundIn (place + 1) (length text) o →
    ReadUpTo (StringsIn (length text)) (length text) (strings_after text breaks d place o)
strings_after_read text breaks d place None le h = omega (arith, le)
strings_after_read text breaks d place (Some middle) le h =
    strings_to_read (length text) d (place + 1) middle (string_end breaks d false (middle + 1) (drop (middle + 1) text)) h.0 h.1
    (string_in breaks d false (middle + 1) (length text) (drop (middle + 1) text) (omega (arith, h.1, length-drop (middle + 1) text)))

own_inside : (text : List ℕ) (place d : ℕ) → own_delimiter (slice_get text place) ≡ Some d → place < length text
own_inside text place d e = by_byte (slice_get text place) refl e
  where
    by_byte : (o : Option ℕ) → slice_get text place ≡ o → own_delimiter o ≡ Some d → place < length text
    by_byte None f e = cc
    by_byte (Some b) f e = inside text place b f

substitute_strings_read : (text : List ℕ) (place : ℕ) → place ≤ length text → ReadUpTo (StringsIn (length text)) (length text) (substitute_strings text place (own_delimiter (slice_get text place)))
substitute_strings_read text place le = by_delimiter (own_delimiter (slice_get text place)) refl
  where
    by_delimiter : (o : Option ℕ) → own_delimiter (slice_get text place) ≡ o → ReadUpTo (StringsIn (length text)) (length text) (substitute_strings text place o)
    by_delimiter None e = le
    by_delimiter (Some d) e =
        let there = own_inside text place d e in
        strings_after_read text true d place (delimiter_at text (place + 1) d) there (delimiter_in text (place + 1) d (omega (arith, there)))

transliterate_strings_read : (text : List ℕ) (place : ℕ) → place ≤ length text → ReadUpTo (StringsIn (length text)) (length text) (transliterate_strings text place (own_delimiter (slice_get text place)))
transliterate_strings_read text place le = by_delimiter (own_delimiter (slice_get text place)) refl
  where
    by_delimiter : (o : Option ℕ) → own_delimiter (slice_get text place) ≡ o → ReadUpTo (StringsIn (length text)) (length text) (transliterate_strings text place o)
    by_delimiter None e = le
    by_delimiter (Some d) e =
        let there = own_inside text place d e in
        strings_after_read text false d place (string_end false d false (place + 1) (drop (place + 1) text)) there
        (string_in false d false (place + 1) (length text) (drop (place + 1) text) (omega (arith, there, length-drop (place + 1) text)))

-- what follows letters

-- the expression of an `s` is one of so many, and its number counts from 1
abbrev pub ArgumentWithin : ℕ → Argument → Type 0
ArgumentWithin n (FlaggedPair s e f) = IsOneOf n e × (1 ≤ unwrap_or f.number 1)
ArgumentWithin n a = Unit {0}

-- an `s` has its strings and flags, a `y` its strings, and no other letter has these
abbrev pub Follows : Verb → Argument → Type 0
Follows Substitute (FlaggedPair s e f) = Unit {0}
Follows Substitute a = ⊥
Follows Transliterate (Pair s) = Unit {0}
Follows Transliterate a = ⊥
Follows verb (FlaggedPair s e f) = ⊥
Follows verb (Pair s) = ⊥
Follows verb a = Unit {0}

-- what follows a letter is what that takes, within so many expressions, and ends up to a place
abbrev EndsUpTo : ℕ → Verb → ℕ → Argument × ℕ → Type 0
EndsUpTo n verb count found = Follows verb found.0 × ArgumentWithin count found.0 × (found.1 ≤ n)

ended_read : (text : List ℕ) (verb : Verb) (count : ℕ) (a : Argument) (at : ℕ) → Follows verb a → ArgumentWithin count a → at ≤ length text → ReadUpTo (EndsUpTo (length text) verb count) (length text) (to_command_end text a at)
ended_read text verb count a at f h le =
    if_both (ReadUpTo (EndsUpTo (length text) verb count) (length text)) (may_end (slice_get text (past Blank text at))) _ _ (f, h, past_up_to Blank text at le) (past_up_to Blank text at le)

label_read : (text : List ℕ) (count place from : ℕ) → place ≤ length text → from ≤ length text → ReadUpTo (EndsUpTo (length text) Label count) (length text) (label_at text place from)
label_read text count place from low le =
    if_both (ReadUpTo (EndsUpTo (length text) Label count) (length text)) (past Name text from == from) _ _ low (ended_read text Label count _ (past Name text from) tt tt (past_up_to Name text from le))

-- the span of a text or a name ends up to a place
abbrev SpanUpTo : ℕ → Option (ℕ × ℕ) → Type 0
SpanUpTo n None = Unit {0}
SpanUpTo n (Some span) = span.1 ≤ n

mapped_up_to : (from n x : ℕ) (o : Option ℕ) → FoundIn from (suc n) o → SpanUpTo n (option_map (λ to. (x, to)) o)
mapped_up_to from n x None h = tt
mapped_up_to from n x (Some to) h = omega (arith, h.1)

right_true : (s t : Bool) → (s && t) ≡ true → t ≡ true
right_true true t e = e
right_true false t e = cc

text_from_up_to : (text : List ℕ) (from : ℕ) → from ≤ length text → SpanUpTo (length text) (text_from text from)
unfolding text_from
text_from_up_to text from le = by_form (is_byte 92 (slice_get text from) && is_byte 10 (slice_get text (from + 1))) (unwrap_or (slice_get text from) 10 == 10) refl
  where
    by_form : (s t : Bool) → (is_byte 92 (slice_get text from) && is_byte 10 (slice_get text (from + 1))) ≡ s →
        SpanUpTo (length text) (if s then option_map (λ to. (from + 2, to)) (text_end Due (from + 2) (drop (from + 2) text)) else if t then None else option_map (λ to. (from, to)) (text_end InLine from (drop from text)))
    by_form true t e =
        let there = byte_inside 10 text (from + 1) (right_true (is_byte 92 (slice_get text from)) (is_byte 10 (slice_get text (from + 1))) e) in
        mapped_up_to (from + 2) (length text) (from + 2) (text_end Due (from + 2) (drop (from + 2) text)) (text_in Due (from + 2) (suc (length text)) (drop (from + 2) text) (omega (arith, there, length-drop (from + 2) text)))
    by_form false true e = tt
    by_form false false e = mapped_up_to from (length text) from (text_end InLine from (drop from text)) (text_in InLine from (suc (length text)) (drop from text) (omega (arith, le, length-drop from text)))

name_up_to : (text : List ℕ) (at : ℕ) → at ≤ length text → SpanUpTo (length text) (name_from text at)
unfolding name_from
name_up_to text at le = by_test (past Line text (past Blank text at) == past Blank text at)
  where
    by_test : (t : Bool) → SpanUpTo (length text) (if t then None else Some (past Blank text at, past Line text (past Blank text at)))
    by_test true = tt
    by_test false = past_up_to Line text (past Blank text at) (past_up_to Blank text at le)

spanned_read : (n : ℕ) (verb : Verb) (count place : ℕ) (reason : Reason) (o : Option (ℕ × ℕ)) → ((from to : ℕ) → Follows verb (Between from to)) → place ≤ n → SpanUpTo n o → ReadUpTo (EndsUpTo n verb count) n (spanned reason place o)
spanned_read n verb count place reason None f le h = le
spanned_read n verb count place reason (Some span) f le h = (f span.0 span.1, tt, h)

allowed_read : (n : ℕ) (a : Addresses) (at : ℕ) (o : Option Verb) → at ≤ n → ReadUpTo Any n (allowed a at o)
allowed_read n a at None le = le
allowed_read n a at (Some verb) le =
    if_both (ReadUpTo Any n) (a.negate && most_addresses verb == 0) _ _ le (if_both (ReadUpTo Any n) (nat_lt (most_addresses verb) (option_len a.first + option_len a.second)) _ _ le tt)

transliterate_read : (text : List ℕ) (count at : ℕ) → at < length text → ReadUpTo (EndsUpTo (length text) Transliterate count) (length text) (transliterate_at text at)
unfolding transliterate_at
transliterate_read text count at there =
    read_then (StringsIn (length text)) (EndsUpTo (length text) Transliterate count) (length text) (transliterate_strings text (at + 1) (own_delimiter (slice_get text (at + 1))))
    _ (transliterate_strings_read text (at + 1) (omega (arith, there)))
    (λ s h. unless_up_to (EndsUpTo (length text) Transliterate count) (length text) (strings_fault text s.delimiter at s.from s.middle s.to) _
    (strings_up_to text s.delimiter at s.from s.middle s.to (length text) (omega (arith, there)) h.0 h.1 (omega (arith, h.2)))
    (ended_read text Transliterate count _ (s.to + 1) tt tt (omega (arith, h.2))))

argument_read : (text : List ℕ) (count at : ℕ) (verb : Verb) → (verb ≡ Substitute → ⊥) → at < length text → ReadUpTo (EndsUpTo (length text) verb count) (length text) (argument_of text verb at)
argument_read text count at Open other there = (tt, tt, omega (arith, there))
argument_read text count at Comment other there = (tt, tt, past_up_to Line text (at + 1) (omega (arith, there)))
argument_read text count at Label other there = label_read text count at (past Blank text (at + 1)) (omega (arith, there)) (past_up_to Blank text (at + 1) (omega (arith, there)))
argument_read text count at (Branch u) other there =
    ended_read text (Branch u) count _ (past Name text (past Blank text (at + 1))) tt tt
    (past_up_to Name text (past Blank text (at + 1)) (past_up_to Blank text (at + 1) (omega (arith, there))))
argument_read text count at (Text t) other there =
    spanned_read (length text) (Text t) count at _ (text_from text (past Blank text (at + 1))) (λ from to. tt) (omega (arith, there)) (text_from_up_to text (past Blank text (at + 1)) (past_up_to Blank text (at + 1) (omega (arith, there))))
argument_read text count at (File u) other there =
    spanned_read (length text) (File u) count at _ (name_from text (at + 1)) (λ from to. tt) (omega (arith, there)) (name_up_to text (at + 1) (omega (arith, there)))
argument_read text count at Transliterate other there = transliterate_read text count at there
argument_read text count at Substitute other there = absurd (other refl)
argument_read text count at verb other there = ended_read text verb count _ (at + 1) tt tt (omega (arith, there))

-- flags of `s`

-- a number of flags counts from 1
abbrev FlagsWithin : Flags → Type 0
FlagsWithin f = 1 ≤ unwrap_or f.number 1

abbrev FlagsUpTo : ℕ → Flags × ℕ → Type 0
FlagsUpTo n found = FlagsWithin found.0 × (found.1 ≤ n)

numbered_read : (n : ℕ) (f : Flags) (at : ℕ) (o : Option ℕ) → at ≤ n → ReadUpTo FlagsWithin n (with_flag_number f at o)
numbered_read n f at (Some (suc k)) le = omega arith
numbered_read n f at other le = le

number_read : (n : ℕ) (f : Flags) (at : ℕ) (digits : List ℕ) → at ≤ n → ReadUpTo FlagsWithin n (with_number f at digits)
number_read n f at digits le = if_both (ReadUpTo FlagsWithin n) (is_some f.number) _ _ le (numbered_read n f at (with_digits (Some 0) digits) le)

flag_read : (n : ℕ) (empty : Bool) (f : Flags) (at b : ℕ) → FlagsWithin f → at ≤ n → ReadUpTo FlagsWithin n (with_flag empty f at b)
flag_read n empty f at b h le =
    if_both (ReadUpTo FlagsWithin n) (b == 103) _ _ (if_both (ReadUpTo FlagsWithin n) f.global _ _ le h)
    (if_both (ReadUpTo FlagsWithin n) (b == 112) _ _ (if_both (ReadUpTo FlagsWithin n) f.print _ _ le h)
    (if_both (ReadUpTo FlagsWithin n) (b == 73) _ _ (if_both (ReadUpTo FlagsWithin n) empty _ _ le (if_both (ReadUpTo FlagsWithin n) f.folded _ _ le h)) le))

file_flag_read : (n : ℕ) (f : Flags) (at : ℕ) (o : Option (ℕ × ℕ)) → FlagsWithin f → at ≤ n → SpanUpTo n o → ReadUpTo (FlagsUpTo n) n (with_file f at o)
file_flag_read n f at None h le up = le
file_flag_read n f at (Some name) h le up = (h, up)

flags_read : (text : List ℕ) (empty : Bool) (f : Flags) (skip at : ℕ) (bs : List ℕ) → FlagsWithin f → at + length bs ≤ length text → ReadUpTo (FlagsUpTo (length text)) (length text) (flags_from text empty f skip at bs)
flags_read text empty f skip at [] h le = (h, omega (arith, le))
flags_read text empty f (suc skip) at (b ∷ bs) h le = flags_read text empty f skip (suc at) bs h (omega (arith, le))
flags_read text empty f zero at (b ∷ bs) h le =
    if_both (ReadUpTo (FlagsUpTo (length text)) (length text)) (is_digit b) _ _
    (read_then FlagsWithin (FlagsUpTo (length text)) (length text) (with_number f at (b ∷ take_while is_digit bs)) (λ (g : Flags). flags_from text empty g (prefix_len is_digit bs) (suc at) bs)
    (number_read (length text) f at (b ∷ take_while is_digit bs) (omega (arith, le)))
    (λ g w. flags_read text empty g (prefix_len is_digit bs) (suc at) bs w (omega (arith, le))))
    (if_both (ReadUpTo (FlagsUpTo (length text)) (length text)) (ends_flags b) _ _ (h, omega (arith, le))
    (if_both (ReadUpTo (FlagsUpTo (length text)) (length text)) (b == 119) _ _
    (file_flag_read (length text) f at (name_from text (at + 1)) h (omega (arith, le)) (name_up_to text (at + 1) (omega (arith, le))))
    (read_then FlagsWithin (FlagsUpTo (length text)) (length text) (with_flag empty f at b) (λ (g : Flags). flags_from text empty g zero (suc at) bs)
    (flag_read (length text) empty f at b h (omega (arith, le)))
    (λ g w. flags_read text empty g zero (suc at) bs w (omega (arith, le))))))

substituted_read : (text : List ℕ) (count : ℕ) (s : Strings) (e limit : Option ℕ) → IsOneOf count e → StringsIn (length text) s → ReadUpTo (EndsUpTo (length text) Substitute count) (length text) (substituted text s e limit)
unfolding substituted
substituted_read text count s e limit one h =
    unless_up_to (EndsUpTo (length text) Substitute count) (length text) (replacement_fault s.delimiter limit false (s.middle + 1) (bytes_between text (s.middle + 1) s.to)) _
    (replacement_up_to (length text) s.delimiter limit false (s.middle + 1) (bytes_between text (s.middle + 1) s.to) (omega (arith, h.2, between_short text (s.middle + 1) s.to (omega (arith, h.1)))))
    (read_then (FlagsUpTo (length text)) (EndsUpTo (length text) Substitute count) (length text) (flags_after text s (not (is_some e))) _
    (flags_read text (not (is_some e)) no_flags 0 (s.to + 1) (drop (s.to + 1) text) (omega arith) (omega (arith, h.2, length-drop (s.to + 1) text)))
    (λ found g. ended_read text Substitute count _ found.1 tt (one, g.0) g.1))

-- readings

-- the same of a reading, whose expressions lie up to the place: the value is as it should be for so many expressions
abbrev ReadingUpTo : {A : Type 0} → (ℕ → A → Type 0) → ℕ → ℕ → Reading A → Type 0
ReadingUpTo P n count (plainly r) = ReadUpTo (P count) n r
ReadingUpTo P n count (expression p k) = (p.from ≤ p.to) × (p.to ≤ n) × ((groups : ℕ) → ReadingUpTo P n (suc count) (k groups))

reading_plain : {A B : Type 0} (P : A → Type 0) (Q : ℕ → B → Type 0) (n count : ℕ) (r : Result A ScriptFault) (f : A → Reading B) → ReadUpTo P n r → ((x : A) → P x → ReadingUpTo Q n count (f x)) →
    ReadingUpTo Q n count (plainly r >>= f)
reading_plain P Q n count (Ok x) f h g = g x h
reading_plain P Q n count (Err e) f h g = h

reading_then : {A B : Type 0} (P : ℕ → A → Type 0) (Q : ℕ → B → Type 0) (n count : ℕ) (r : Reading A) (f : A → Reading B) → ReadingUpTo P n count r →
    ((k : ℕ) (x : A) → count ≤ k → P k x → ReadingUpTo Q n k (f x)) → ReadingUpTo Q n count (r >>= f)
reading_then P Q n count (plainly (Ok x)) f h g = g count x (omega arith) h
reading_then P Q n count (plainly (Err e)) f h g = h
reading_then P Q n count (expression p k) f h g = (h.0, h.1, λ groups. reading_then P Q n (suc count) (k groups) f (h.2 groups) (λ j x le. g j x (omega (arith, le))))

-- what is given is as it should be for the count after all its expressions
reading_gives : {A : Type 0} (P : ℕ → A → Type 0) (n : ℕ) (text : List ℕ) (kind : Kind) (m count : ℕ) (r : Reading A) (es : List WrittenExpression) (x : A) → Gives text kind m r es x → ReadingUpTo P n count r → P (count + length es) x
reading_gives P n text kind m count _ _ x value h = subst (λ (k : ℕ). P k x) (let e : count ≡ count + 0 = omega arith in e) h
reading_gives P n text kind m count _ _ x (after_expression {k = k} {es = es} e is g) h =
    subst (λ (j : ℕ). P j x) (let same : suc count + length es ≡ count + suc (length es) = omega arith in same) (reading_gives P n text kind m (suc count) (k e.groups) es x g (h.2 e.groups))

-- the first fault of an expression's text is in it or at its end
abbrev pub ExprFaultWithin : Type 0
ExprFaultWithin = (kind : Kind) (delimiter : Option ℕ) (text : List ℕ) (max_nodes place : ℕ) (reason : ExprReason) → ExprFaulty kind delimiter text max_nodes place reason → place ≤ length text

reading_fails : {A : Type 0} (P : ℕ → A → Type 0) (text : List ℕ) (kind : Kind) (m count : ℕ) (r : Reading A) (f : ScriptFault) → ExprFaultWithin → Fails text kind m r f → ReadingUpTo P (length text) count r → f.place ≤ length text
reading_fails P text kind m count _ _ shown own h = h
reading_fails P text kind m count _ _ shown (no_expression {p = p} {f = f} bad) h =
    let low = shown kind (Some p.delimiter) (bytes_between text p.from p.to) m f.place f.reason bad in
    omega (arith, low, h.0, h.1, between_short text p.from p.to h.0)
reading_fails P text kind m count _ f shown (later {k = k} e is bad) h = reading_fails P text kind m (suc count) (k e.groups) f shown bad (h.2 e.groups)

-- addresses

abbrev pub AddressesWithin : ℕ → Addresses → Type 0
AddressesWithin n a = AddressWithin n a.first × AddressWithin n a.second

address_more : (m n : ℕ) (a : Option Address) → m ≤ n → AddressWithin m a → AddressWithin n a
address_more m n (Some (line k)) le h = h
address_more m n (Some (Match (Some k))) le h = omega (arith, le, h)
address_more m n other le h = tt

addresses_more : (m n : ℕ) (a : Addresses) → m ≤ n → AddressesWithin m a → AddressesWithin n a
addresses_more m n a le h = (address_more m n a.first le h.0, address_more m n a.second le h.1)

abbrev AddressedUpTo : ℕ → ℕ → Addressed → Type 0
AddressedUpTo n count x = (x.count ≡ count) × AddressWithin count x.address × (x.at ≤ n)

abbrev HeadedUpTo : ℕ → ℕ → Headed → Type 0
HeadedUpTo n count h = (h.count ≡ count) × AddressesWithin count h.addresses × (h.at ≤ n)

line_read : (n count from to : ℕ) (o : Option ℕ) → from ≤ n → to ≤ n → ReadUpTo (AddressedUpTo n count) n (line_address count from to o)
line_read n count from to (Some (suc k)) low high = (refl, omega arith, high)
line_read n count from to other low high = low

flag_up_to : (text : List ℕ) (at : ℕ) → at ≤ length text → past_flag text at ≤ length text
flag_up_to text at le = by_flag (folds_at text at) refl
  where
    by_flag : (t : Bool) → folds_at text at ≡ t → (if t then at + 1 else at) ≤ length text
    by_flag true e = let there = byte_inside 73 text at e in omega (arith, there)
    by_flag false e = le

match_read : (text : List ℕ) (count d place : ℕ) → place < length text → ReadingUpTo (AddressedUpTo (length text)) (length text) count (match_at text count d place)
unfolding match_at
match_read text count d place there = by_end (delimiter_at text (place + 1) d) (delimiter_in text (place + 1) d (omega (arith, there)))
  where
    by_end : (o : Option ℕ) → FoundIn (place + 1) (length text) o → ReadingUpTo (AddressedUpTo (length text)) (length text) count (match_to text count d place o)
    by_end None h = omega (arith, there)
    by_end (Some to) h =
        if_both (ReadingUpTo (AddressedUpTo (length text)) (length text) count) (to == place + 1) _ _
        (if_both (ReadUpTo (AddressedUpTo (length text) count) (length text)) (folds_at text (to + 1)) _ _ (omega (arith, h.1)) (refl, tt, omega (arith, h.1)))
        (h.0, omega (arith, h.1), λ groups. (omega arith, omega arith, flag_up_to text (to + 1) (omega (arith, h.1))))

own_read : (text : List ℕ) (count place : ℕ) → place ≤ length text → ReadingUpTo (AddressedUpTo (length text)) (length text) count (own_match text count place (own_delimiter (slice_get text place)))
own_read text count place le = by_delimiter (own_delimiter (slice_get text place)) refl
  where
    by_delimiter : (o : Option ℕ) → own_delimiter (slice_get text place) ≡ o → ReadingUpTo (AddressedUpTo (length text)) (length text) count (own_match text count place o)
    by_delimiter None e = le
    by_delimiter (Some d) e = match_read text count d place (own_inside text place d e)

address_read : (text : List ℕ) (count at : ℕ) → at ≤ length text → ReadingUpTo (AddressedUpTo (length text)) (length text) count (address_at text count at)
unfolding address_at
address_read text count at le = by_byte (slice_get text at) refl
  where
    by_byte : (o : Option ℕ) → slice_get text at ≡ o → ReadingUpTo (AddressedUpTo (length text)) (length text) count (address_of text count at o)
    by_byte None e = (refl, tt, le)
    by_byte (Some b) e =
        let there = inside text at b e in
        if_both (ReadingUpTo (AddressedUpTo (length text)) (length text) count) (is_digit b) _ _
        (line_read (length text) count at (past Digit text at) (with_digits (Some 0) (bytes_between text at (past Digit text at))) le (past_up_to Digit text at le))
        (if_both (ReadingUpTo (AddressedUpTo (length text)) (length text) count) (b == 36) _ _ (refl, tt, omega (arith, there))
        (if_both (ReadingUpTo (AddressedUpTo (length text)) (length text) count) (b == 47) _ _ (match_read text count 47 at there)
        (if_both (ReadingUpTo (AddressedUpTo (length text)) (length text) count) (b == 92) _ _ (own_read text count (at + 1) (omega (arith, there))) (refl, tt, le))))

with_second_read : (n count : ℕ) (first : Address) (place : ℕ) (x : Addressed) (o : Option Address) → x.count ≡ count → AddressWithin count (Some first) → AddressWithin count o → place ≤ n → x.at ≤ n →
    ReadUpTo (HeadedUpTo n count) n (with_second first place x o)
with_second_read n count first place x None e h g low le = low
with_second_read n count first place x (Some a) e h g low le = (e, (h, g), le)

second_read : (text : List ℕ) (count : ℕ) (first : Address) (at : ℕ) → AddressWithin count (Some first) → at ≤ length text → ReadingUpTo (HeadedUpTo (length text)) (length text) count (second_at text count first at)
unfolding second_at
second_read text count first at h le =
    reading_then (AddressedUpTo (length text)) (HeadedUpTo (length text)) (length text) count (address_at text count at) (λ (x : Addressed). plainly (with_second first at x x.address))
    (address_read text count at le) (λ k x more p. with_second_read (length text) k first at x x.address p.0 (address_more count k (Some first) more h) p.1 le p.2)

after_read : (text : List ℕ) (count at : ℕ) (o : Option Address) → AddressWithin count o → at ≤ length text → ReadingUpTo (HeadedUpTo (length text)) (length text) count (after_first text count at o)
after_read text count at None h le = (refl, (tt, tt), le)
after_read text count at (Some first) h le = by_comma (is_byte 44 (slice_get text (past Blank text at))) refl
  where
    by_comma : (t : Bool) → is_byte 44 (slice_get text (past Blank text at)) ≡ t →
        ReadingUpTo (HeadedUpTo (length text)) (length text) count (if t then second_at text count first (past Blank text (past Blank text at + 1)) else plainly (with_addresses (Some first) None at count))
    by_comma true e =
        let there = byte_inside 44 text (past Blank text at) e in
        second_read text count first (past Blank text (past Blank text at + 1)) h (past_up_to Blank text (past Blank text at + 1) (omega (arith, there)))
    by_comma false e = (refl, (h, tt), le)

addresses_read : (text : List ℕ) (count at : ℕ) → at ≤ length text → ReadingUpTo (HeadedUpTo (length text)) (length text) count (addresses_at text count at)
unfolding addresses_at
addresses_read text count at le =
    reading_then (AddressedUpTo (length text)) (HeadedUpTo (length text)) (length text) count (address_at text count at) (λ (x : Addressed). after_first text x.count x.at x.address)
    (address_read text count at le)
    (λ k x more p. subst (λ (j : ℕ). ReadingUpTo (HeadedUpTo (length text)) (length text) j (after_first text x.count x.at x.address)) p.0
    (after_read text x.count x.at x.address (address_more k x.count x.address (omega (arith, p.0)) p.1) p.2))

bang_up_to : (text : List ℕ) (h : Headed) (n : ℕ) → AddressesWithin n h.addresses → h.at ≤ length text → AddressesWithin n (with_bang text h).addresses × ((with_bang text h).at ≤ length text)
bang_up_to text h n g le = by_bang (is_byte 33 (slice_get text (past Blank text h.at)))
  where
    Of : Headed → Type 0
    Of x = AddressesWithin n x.addresses × (x.at ≤ length text)

    by_bang : (b : Bool) → Of
        (if b then record { addresses = record { first = h.addresses.first; second = h.addresses.second; negate = true }; at = past Bang text (past Blank text h.at); count = h.count }
        else record { addresses = h.addresses; at = past Blank text h.at; count = h.count })
    by_bang true = (g, past_up_to Bang text (past Blank text h.at) (past_up_to Blank text h.at le))
    by_bang false = (g, past_up_to Blank text h.at le)

-- items

abbrev pub ItemWithin : ℕ → Item → Type 0
ItemWithin n i = AddressesWithin n i.addresses × ArgumentWithin n i.argument × Follows i.verb i.argument

item_more : (m n : ℕ) (i : Item) → m ≤ n → ItemWithin m i → ItemWithin n i
item_more m n i le h = (addresses_more m n i.addresses le h.0, by_argument i.argument h.1, h.2)
  where
    by_argument : (a : Argument) → ArgumentWithin m a → ArgumentWithin n a
    by_argument (FlaggedPair s (Some k) f) g = (omega (arith, le, g.0), g.1)
    by_argument (FlaggedPair s None f) g = g
    by_argument a g = tt

abbrev HereUpTo : ℕ → ℕ → ItemOrEnd → Type 0
HereUpTo n count (Is i next) = ItemWithin count i × (i.place ≤ n) × (next ≤ n)
HereUpTo n count Ends = Unit {0}

substitute_read : (text : List ℕ) (count : ℕ) (s : Strings) → StringsIn (length text) s → ReadingUpTo (EndsUpTo (length text) Substitute) (length text) count (substitute_with text count s)
substitute_read text count s h =
    if_both (ReadingUpTo (EndsUpTo (length text) Substitute) (length text) count) (s.middle == s.from) _ _ (substituted_read text count s None None tt h)
    (h.0, omega (arith, h.1, h.2), λ groups. substituted_read text (suc count) s (Some count) (Some groups) (omega arith) h)

argument_with_read : (text : List ℕ) (count at : ℕ) (verb : Verb) → at < length text → ReadingUpTo (EndsUpTo (length text) verb) (length text) count (argument_with text count verb at)
unfolding substitute_at
argument_with_read text count at Substitute there =
    reading_plain (StringsIn (length text)) (EndsUpTo (length text) Substitute) (length text) count (substitute_strings text (at + 1) (own_delimiter (slice_get text (at + 1)))) (substitute_with text count)
    (substitute_strings_read text (at + 1) (omega (arith, there))) (λ s h. substitute_read text count s h)
argument_with_read text count at verb there = argument_read text count at verb (λ same. cc) there

function_at_read : (text : List ℕ) (count : ℕ) (a : Addresses) (at : ℕ) → AddressesWithin count a → at ≤ length text → ReadingUpTo (HereUpTo (length text)) (length text) count (function_at text count a at)
unfolding function_at
function_at_read text count a at within le = by_letter (slice_get text at) refl
  where
    by_letter : (o : Option ℕ) → slice_get text at ≡ o → ReadingUpTo (HereUpTo (length text)) (length text) count (item_with text count a at o)
    by_letter None e = le
    by_letter (Some letter) e =
        let there = inside text at letter e in
        reading_plain Any (HereUpTo (length text)) (length text) count (allowed a at (verb_of letter))
        (λ (verb : Verb). argument_with text count verb at >>= λ (found : Argument × ℕ). plainly (Ok (item_of a at verb found)))
        (allowed_read (length text) a at (verb_of letter) le)
        (λ verb h. reading_then (EndsUpTo (length text) verb) (HereUpTo (length text)) (length text) count (argument_with text count verb at) (λ (found : Argument × ℕ). plainly (Ok (item_of a at verb found)))
        (argument_with_read text count at verb there) (λ k found more g. ((addresses_more count k a more within, g.1, g.0), le, g.2)))

item_read : (text : List ℕ) (count at : ℕ) → at ≤ length text → ReadingUpTo (HereUpTo (length text)) (length text) count (item_at text count at)
unfolding item_at
item_read text count at le = by_byte (slice_get text (past Separator text at))
  where
    after : (k : ℕ) (h : Headed) → HeadedUpTo (length text) k h → ReadingUpTo (HereUpTo (length text)) (length text) k (function_after text h)
    after k h p =
        let bang = bang_up_to text h h.count (subst (λ (j : ℕ). AddressesWithin j h.addresses) (sym p.0) p.1) p.2 in
        subst (λ (j : ℕ). ReadingUpTo (HereUpTo (length text)) (length text) j (function_after text h)) p.0 (function_at_read text h.count (with_bang text h).addresses (with_bang text h).at bang.0 bang.1)

    by_byte : (o : Option ℕ) → ReadingUpTo (HereUpTo (length text)) (length text) count (item_from text count (past Separator text at) o)
    by_byte None = tt
    by_byte (Some b) =
        reading_then (HeadedUpTo (length text)) (HereUpTo (length text)) (length text) count (addresses_at text count (past Separator text at)) (function_after text)
        (addresses_read text count (past Separator text at) (past_up_to Separator text at le)) (λ k h more p. after k h p)

abbrev ItemsUpTo : ℕ → List Item → Type 0
ItemsUpTo n is = Each (λ i. i.place ≤ n) is

abbrev pub ItemsWithin : ℕ → List Item → Type 0
ItemsWithin n is = Each (ItemWithin n) is

-- the items of a cut lie within the text, and what they name is among its expressions
pub cut_up_to : (text : List ℕ) (kind : Kind) (m count at to n : ℕ) (is : List Item) (es : List WrittenExpression) → CutScript text kind m count at is es to → at ≤ length text → n ≡ count + length es →
    (to ≤ length text) × ItemsUpTo (length text) is × ItemsWithin n is
cut_up_to text kind m count at to n _ _ done le e = (le, tt, tt)
cut_up_to text kind m count at to n _ _ (next_item {next = next} {i = i} {is = is} es fs read rest) le e =
    let here = reading_gives (HereUpTo (length text)) (length text) text kind m count (item_at text count at) es (Is i next) read (item_read text count at le) in
    let rest_of = cut_up_to text kind m (count + length es) next to n is fs rest here.2 (e ∙ omega (arith, length-append es fs)) in
    let more : count + length es ≤ n = omega (arith, e, length-append es fs) in
    (rest_of.0, (here.1, rest_of.1), (item_more (count + length es) n i more here.0, rest_of.2))

target_at_up_to : (n : ℕ) (text : List ℕ) (all before : List Item) (depth : ℕ) (after : List Item) (place : ℕ) (verb : Verb) (a : Argument) → place ≤ n → FaultUpTo n (target_fault_at text all before depth after place verb a)
target_at_up_to n text all before depth after place Open a le = fault_if_up_to n (is_none (block_end before after)) _ place le
target_at_up_to n text all before depth after place Close a le = fault_if_up_to n (depth == 0) _ place le
target_at_up_to n text all before depth after place Label a le = fault_if_up_to n (is_some (label_in text (written_in text a) 0 before)) _ place le
target_at_up_to n text all before depth after place (Branch u) a le = fault_if_up_to n (is_none (branch_in text all (written_in text a))) _ place le
target_at_up_to n text all before depth after place verb a le = tt

target_up_to : (n : ℕ) (text : List ℕ) (all before : List Item) (depth : ℕ) (is : List Item) → ItemsUpTo n is → FaultUpTo n (target_fault_in text all before depth is)
target_up_to n text all before depth [] h = tt
target_up_to n text all before depth (i ∷ is) h =
    fault_or n _ _ (target_at_up_to n text all before depth is i.place i.verb i.argument h.0) (target_up_to n text all (before ++ i ∷ []) (depth_after depth i.verb) is h.1)

-- the first fault of a text is in it or at its end
pub fault_within : ExprFaultWithin → (text : List ℕ) (kind : Kind) (m : ℕ) (f : ScriptFault) → Faulty text kind m f → f.place ≤ length text
fault_within shown text kind m f (early is es to cut bad) =
    let reached = cut_up_to text kind m 0 0 to (length es) is es cut (omega arith) (omega arith) in
    reading_fails (HereUpTo (length text)) text kind m (length es) (item_at text (length es) to) f shown bad (item_read text (length es) to reached.0)
fault_within shown text kind m f (afterwards is es to cut ends found) =
    let reached = cut_up_to text kind m 0 0 to (length es) is es cut (omega arith) (omega arith) in
    subst (FaultUpTo (length text)) found (target_up_to (length text) text is [] 0 is reached.1)

pub faulty_within : ExprFaultWithin → (text : List ℕ) (kind : Kind) (m : ℕ) (f : ScriptFault) → Faulty text kind m f ⊎ (f ≡ NO_MEMORY) → f.place ≤ length text
faulty_within shown text kind m f (inl bad) = fault_within shown text kind m f bad
faulty_within shown text kind m f (inr none) = rw none (omega arith)

-- what holds anyway holds where an answer is no fault
pub holds_anyway : {A : Type 0} {P : Type 0} (r : Result A ScriptFault) → P → OnOk r P
holds_anyway (Ok x) p = p
holds_anyway (Err f) p = tt
