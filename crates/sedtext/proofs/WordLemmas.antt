-- Marks as words of 64, and the lowest bits of words.
use Rattle.std.specs.Prelude.{min}
use Rattle.sedtext.proofs.Words.{Blend, blended, common_steps, ap, ext_get_or, sym, ◌++◌, ◌∷◌, ◌%◌, ◌&&◌, ◌*◌, ◌+◌, ◌-◌, ◌/◌, ◌<◌, ◌^◌, ◌↔◌, ◌∙◌, ◌≡◌, ◌≢◌, ◌≤◌, ◌⊎◌, [], arith, bit_and, bit_at, bit_at_not, bit_at_or, bit_not, bit_or, not, ◌||◌, bit_at-lt, bit_at-trailing_zeros, bit_at-zero, bit_at_and, Bool, cases_eq, cases_lt, eqb}
use Rattle.sedtext.proofs.Words.{eqb-true, false, get_or-map-range_with_len, get_or-replicate, get_or-set_other, get_or-set_same, get_or_default, get_or_past, Inside, is_set, IsTrue, KeepsRows, length}
use Rattle.sedtext.proofs.Words.{length-map-range_with_len, length-replicate, length-set, List, mul-le-mul_left, padded, replicate, row_at, row_of, rows_of, slice_index_or, slice_set, tabulated, trailing_zeros, w64, ℕ}

-- the bit of a number
pub set_at : (words : List ℕ) (c x k : ℕ) → c ≡ 64 * x + k → k < 64 → is_set words c ≡ eqb (bit_at (slice_index_or words x 0) k) 1
unfolding is_set
set_at words c x k e lt = grind arith

-- the mark is set in both
abbrev pub Meet : List Bool → List Bool → ℕ → ℕ → Type 0
Meet marks others count c = (c < count) × IsTrue (slice_index_or marks c false) × IsTrue (slice_index_or others c false)

-- marks that are bits of a word, and the lowest bits that it has in common with another
module _ (marks others : List Bool) (count x word two low : ℕ)
    (mine : (k : ℕ) → k < 64 → 64 * x + k < count → IsTrue (slice_index_or marks (64 * x + k) false) ↔ (bit_at word k ≡ 1))
    (theirs : (k : ℕ) → k < 64 → 64 * x + k < count → IsTrue (slice_index_or others (64 * x + k) false) ↔ (bit_at two k ≡ 1)) (lowest : (i : ℕ) → i < count - 64 * x → bit_at low i ≡ bit_at (bit_and word two) i) where
  pub meet_here : low ≢ 0 → low < 2 ^ 64 → ((i : ℕ) → count - 64 * x ≤ i → bit_at low i ≡ 0) → (c : ℕ) × Meet marks others count c
  meet_here some fits none =
      let k = trailing_zeros w64 low in
      (64 * x + k, grind (arith, bit_at-trailing_zeros w64 low (omega (arith, some)) fits, none k, lowest k, bit_at_and word two k, bit_at-lt word k, bit_at-lt two k, mine k, theirs k))

  pub meet_later : low ≡ 0 → ((c : ℕ) → c < 64 * x → Meet marks others count c → ⊥) → (c : ℕ) → c < 64 * (x + 1) → Meet marks others count c → ⊥
  meet_later none before c up met =
      let k = c - 64 * x in grind (arith, before c, bit_at_and word two k, bit_at-zero k, lowest k, mine k, theirs k)

-- words of which one isn't in memory have nothing in common
pub meet_past : (marks others : List Bool) (words more : List ℕ) (count c : ℕ) → ((k : ℕ) → k < 64 → 64 * (c / 64) + k < count → IsTrue (slice_index_or marks (64 * (c / 64) + k) false) ↔ (bit_at (slice_index_or words (c / 64) 0) k ≡ 1)) →
    ((k : ℕ) → k < 64 → 64 * (c / 64) + k < count → IsTrue (slice_index_or others (64 * (c / 64) + k) false) ↔ (bit_at (slice_index_or more (c / 64) 0) k ≡ 1)) → min (length words) (length more) ≤ c / 64 → Meet marks others count c → ⊥
meet_past marks others words more count c mine theirs past met = let k = c % 64 in grind (arith, get_or_past, bit_at-zero k, mine k, theirs k)

-- the bits of two words
pub either_bits : (a b k : ℕ) → eqb (bit_at (bit_or a b) k) 1 ≡ (eqb (bit_at a k) 1 || eqb (bit_at b k) 1)
either_bits a b k = grind (arith, bit_at_or a b k, bit_at-lt a k, bit_at-lt b k)

pub other_bits : (a b k : ℕ) → b < 2 ^ 64 → k < 64 → eqb (bit_at (bit_and a (bit_not w64 b)) k) 1 ≡ (eqb (bit_at a k) 1 && not (eqb (bit_at b k) 1))
other_bits a b k small low = grind (arith, bit_at_and a (bit_not w64 b) k, bit_at_not w64 b k small low, bit_at-lt a k, bit_at-lt b k)

length-table : {X : Type 0} → (f : ℕ → X) (n : ℕ) → length (tabulated f n) ≡ n
unfolding tabulated
length-table f n = length-map-range_with_len f 0 n

table-get : {X : Type 0} → (f : ℕ → X) (n i : ℕ) (d : X) → i < n → slice_index_or (tabulated f n) i d ≡ f i
unfolding tabulated
table-get f n i d lt = get_or-map-range_with_len f 0 n i i d lt (omega arith)

-- the list that has these values
table-is : (f : ℕ → Bool) (n : ℕ) (xs : List Bool) → length xs ≡ n → ((k : ℕ) → k < n → f k ≡ slice_index_or xs k false) → tabulated f n ≡ xs
table-is f n xs long same = grind (arith, ext_get_or false, length-table, table-get)

table-set : (f g : ℕ → Bool) (n i : ℕ) (v : Bool) → i < n → g i ≡ v → ((k : ℕ) → k < n → k ≢ i → g k ≡ f k) → tabulated g n ≡ slice_set (tabulated f n) i v
table-set f g n i v lt here other = table-is g n _ (simp (length-set, length-table)) (λ k low. grind (arith, other k low, cases_eq k i, length-table, get_or-set_same, get_or-set_other, table-get))

pub zero_unmarked : (words : List ℕ) (i : ℕ) → slice_index_or words (i / 64) 0 ≡ 0 → is_set words i ≡ false
unfolding is_set
zero_unmarked words i is = grind (arith, bit_at-zero)

-- words that aren't written are 0
pub length-padded : (words : List ℕ) (n : ℕ) → length (padded words n) ≡ n
unfolding padded
length-padded words n = length-table _ n

pub padded-get : (words : List ℕ) (n i : ℕ) → length words ≤ n → slice_index_or (padded words n) i 0 ≡ slice_index_or words i 0
unfolding padded
padded-get words n i few = grind (arith, cases_lt i n, get_or_past, length-table, table-get)

padded-is : (words more : List ℕ) (n : ℕ) → length words ≤ n → length more ≡ n → ((k : ℕ) → k < n → slice_index_or words k 0 ≡ slice_index_or more k 0) → padded words n ≡ more
padded-is words more n few long same = ext_get_or 0 _ _ (length-padded words n ∙ sym long) (λ k lt. padded-get words n k few ∙ same k (omega (arith, lt, length-padded words n)))

-- a 0 more
pub zero_more : (words : List ℕ) (k : ℕ) → slice_index_or (words ++ (0 ∷ [])) k 0 ≡ slice_index_or words k 0
zero_more words k = grind (arith, common_steps, get_or_past, cases_lt k (length words))

pub padded-none : (n : ℕ) → padded [] n ≡ replicate n 0
padded-none n = padded-is [] (replicate n 0) n (omega arith) (length-replicate n 0) (λ k lt. sym (get_or-replicate n k 0 0 lt))

pub padded-same : (words more : List ℕ) (n : ℕ) → length words ≤ n → length more ≤ n → ((k : ℕ) → slice_index_or words k 0 ≡ slice_index_or more k 0) → padded words n ≡ padded more n
padded-same words more n few few' same = padded-is words (padded more n) n few (length-padded more n) (λ k lt. same k ∙ sym (padded-get more n k few'))

pub padded-set : (words : List ℕ) (n i word : ℕ) → length words ≤ n → i < length words → padded (slice_set words i word) n ≡ slice_set (padded words n) i word
padded-set words n i word few lt =
    padded-is (slice_set words i word) (slice_set (padded words n) i word) n (simp length-set few) (simp (length-set, length-padded)) (λ k low. grind (arith, cases_eq k i, get_or-set_same, get_or-set_other, length-padded, padded-get))

-- a mark of a row
pub length-rows_of : (words : List ℕ) (width marks n : ℕ) → length (rows_of words width marks n) ≡ n
unfolding rows_of
length-rows_of words width marks n = length-table (row_at words width marks) n

rows_of-get : (words : List ℕ) (width marks n q : ℕ) → q < n → row_of (rows_of words width marks n) q ≡ row_at words width marks q
unfolding rows_of
rows_of-get words width marks n q lt = table-get (row_at words width marks) n q [] lt

pub length-row : (words : List ℕ) (width marks n q : ℕ) → q < n → length (row_of (rows_of words width marks n) q) ≡ marks
unfolding row_at
length-row words width marks n q lt = simp (rows_of-get, length-table)

-- a row of no marks
pub row_clear : (words : List ℕ) (width n : ℕ) → n ≤ 64 * width → words ≡ replicate width 0 → row_of (rows_of words width n 1) 0 ≡ replicate n false
unfolding row_at
row_clear words width n fits is = rows_of-get words width n 1 0 (omega arith) ∙ table-is _ n _ (length-replicate n false) (λ k lt. grind (arith, zero_unmarked, get_or-replicate))

-- one bit of a row is written
row_at-set : (words : List ℕ) (width marks q i old word : ℕ) (v : Bool) → i < marks → width * q + i / 64 < length words → old ≡ slice_index_or words (width * q + i / 64) 0 →
    eqb (bit_at word (i % 64)) 1 ≡ v → ((b : ℕ) → b < 64 → b ≢ i % 64 → bit_at word b ≡ bit_at old b) →
    row_at (slice_set words (width * q + i / 64) word) width marks q ≡ slice_set (row_at words width marks q) i v
unfolding row_at
row_at-set words width marks q i old word v lt inside is same other =
    let bit = λ (k : ℕ) (ws : List ℕ). set_at ws k (k / 64) (k % 64) (omega arith) (omega arith) in
    grind (arith, get_or-set_same, get_or-set_other, bit, set_at (slice_set words (width * q + i / 64) word) (64 * (width * q) + i) (width * q + i / 64) (i % 64), table-set)

-- the same words, wherever they are, have the same marks
pub marked_same : (words other : List ℕ) (base from i : ℕ) → slice_index_or words (base + i / 64) 0 ≡ slice_index_or other (from + i / 64) 0 → is_set words (64 * base + i) ≡ is_set other (64 * from + i)
unfolding is_set
marked_same words other base from i same = grind arith

-- a row whose words are the same is the same
row_kept : (words after : List ℕ) (width marks q : ℕ) → marks ≤ 64 * width →
    ((k : ℕ) → k < width → slice_index_or after (width * q + k) 0 ≡ slice_index_or words (width * q + k) 0) → row_at after width marks q ≡ row_at words width marks q
unfolding row_at is_set
row_kept words after width marks q low same = table-is _ marks _ (length-table _ marks) (λ i lt. grind (arith, table-get, same (i / 64)))

-- words of one row are not those of another
pub row_apart : (width q p k c : ℕ) → k < width → c ≤ width → q ≢ p → (width * q + k < width * p) ⊎ (width * p + c ≤ width * q + k)
row_apart width q p k c lt low apart = grind (arith, cases_lt q p, mul-le-mul_left {m = q + 1} {n = p} width, mul-le-mul_left {m = p + 1} {n = q} width)

-- the first x words of a row were written, each so that P is true of it, and no others
pub record Written (P : ℕ → ℕ → Type 0) (initial words : List ℕ) (to x : ℕ) : Type 0 where
  pub long : length words ≡ length initial
  pub each : (k : ℕ) → k < x → P k (slice_index_or words (to + k) 0)
  pub before : (k : ℕ) → k < to → slice_index_or words k 0 ≡ slice_index_or initial k 0
  pub rest : (k : ℕ) → to + x ≤ k → slice_index_or words k 0 ≡ slice_index_or initial k 0

-- a word that isn't of the row, or comes later, isn't written
pub unwritten : (P : ℕ → ℕ → Type 0) (initial words : List ℕ) (x width row other : ℕ) → Written P initial words (width * row) x → x < width → slice_index_or words (width * other + x) 0 ≡ slice_index_or initial (width * other + x) 0
unwritten P initial words x width row other old less = grind (arith, cases_eq row other, old.before (width * other + x), old.rest (width * other + x), row_apart width other row x x less)

-- the word's bits are made so of those of two others
abbrev pub Blended : Blend → List ℕ → ℕ → ℕ → ℕ → ℕ → Type 0
Blended how words one two k word = (i : ℕ) → i < 64 → eqb (bit_at word i) 1 ≡ blended how (eqb (bit_at (slice_index_or words (one + k) 0) i) 1) (eqb (bit_at (slice_index_or words (two + k) 0) i) 1)

-- what is known of the words of a row, for rows that contracts see as a list
module _ (r : Inside) (seen : List (List Bool)) (is : rows_of r.words.all r.width r.marks r.count ≡ seen) (inside : (r.marks ≤ 64 * r.width) × (r.width * r.count ≤ length r.words.all) × (length r.words.all < 2 ^ 63)) where
  pub rows_seen : r.count ≡ length seen
  rows_seen = grind (arith, length-rows_of)

  pub row_seen : (q : ℕ) → q < length seen → row_at r.words.all r.width r.marks q ≡ row_of seen q
  row_seen q lt = grind (arith, rows_seen, rows_of-get)

  pub marks_seen : (q : ℕ) → q < length seen → r.marks ≡ length (row_of seen q)
  marks_seen q lt = grind (arith, is, length-row r.words.all r.width r.marks r.count q, rows_seen)

  -- the words of a row are there, and are enough for its marks
  pub row_there : (q : ℕ) → q < length seen → (r.width * q < 2 ^ 63) × (r.width * q + r.width ≤ length r.words.all) × (r.width * q + r.width < 2 ^ 63) × (length (row_of seen q) ≤ 64 * r.width)
  row_there q lt = grind (arith, marks_seen, rows_seen)

  -- a mark of a row is a bit, whatever was written
  pub new_bit : (words : List ℕ) (q i : ℕ) → q < length seen → i < length (row_of seen q) → slice_index_or (row_of (rows_of words r.width r.marks r.count) q) i false ≡ is_set words (64 * (r.width * q) + i)
  unfolding row_at
  new_bit words q i lt low = grind (arith, marks_seen, rows_of-get, rows_seen, table-get)

  pub row_bit : (q c : ℕ) → q < length seen → c ≤ length (row_of seen q) → (i : ℕ) → i < c → slice_index_or (row_of seen q) i false ≡ is_set r.words.all (64 * (r.width * q) + i)
  row_bit q c lt low i under = grind (arith, new_bit r.words.all)

  -- the marks in a word of a row
  pub word_at : (q count x word : ℕ) → q < length seen → count ≤ length (row_of seen q) → word ≡ slice_index_or r.words.all (r.width * q + x) 0 →
      (k : ℕ) → k < 64 → 64 * x + k < count → IsTrue (slice_index_or (row_of seen q) (64 * x + k) false) ↔ (bit_at word k ≡ 1)
  word_at q count x word lt few read k small under = grind (arith, get_or_default, eqb-true, set_at r.words.all (64 * (r.width * q) + (64 * x + k)) (r.width * q + x) k, row_bit q count lt few, row_there q lt)

  -- a mark of a row is read
  pub mark_read : (q i word : ℕ) → q < length seen → i < length (row_of seen q) → word ≡ slice_index_or r.words.all (r.width * q + i / 64) 0 → eqb (bit_at word (i % 64)) 1 ≡ slice_index_or (row_of seen q) i false
  mark_read q i word lt low read = grind (arith, get_or_default, row_there q lt, row_bit q (i + 1) lt, set_at r.words.all (64 * (r.width * q) + i) (r.width * q + i / 64) (i % 64))

  -- a mark of a row is written
  pub mark_written : (q i old word : ℕ) (v : Bool) → q < length seen → i < length (row_of seen q) → old ≡ slice_index_or r.words.all (r.width * q + i / 64) 0 →
      eqb (bit_at word (i % 64)) 1 ≡ v → ((b : ℕ) → b < 64 → b ≢ i % 64 → bit_at word b ≡ bit_at old b) →
      row_of (rows_of (slice_set r.words.all (r.width * q + i / 64) word) r.width r.marks r.count) q ≡ slice_set (row_of seen q) i v
  mark_written q i old word v lt low read same other = grind (arith, marks_seen, row_at-set, row_seen, row_there, rows_of-get, rows_seen)

  -- where words of one row alone were written, the others are as they were
  others_kept : (after : List ℕ) (p x : ℕ) → x ≤ r.width → ((k : ℕ) → k < r.width * p → slice_index_or after k 0 ≡ slice_index_or r.words.all k 0) →
      ((k : ℕ) → r.width * p + x ≤ k → slice_index_or after k 0 ≡ slice_index_or r.words.all k 0) → KeepsRows (λ q. q ≢ p) seen (rows_of after r.width r.marks r.count)
  others_kept after p x narrow before rest = grind (arith, get_or_past, length-row, length-rows_of, marks_seen, row_apart, row_kept, row_seen, rows_of-get, rows_seen)

  pub row_written : (P : ℕ → ℕ → Type 0) (initial after : List ℕ) (p x : ℕ) → initial ≡ r.words.all → x ≤ r.width → Written P initial after (r.width * p) x → KeepsRows (λ q. q ≢ p) seen (rows_of after r.width r.marks r.count)
  row_written P initial after p x is narrow wrote = others_kept after p x narrow (rw is at wrote.before) (rw is at wrote.rest)

  pub mark_keeps : (p i word : ℕ) → p < length seen → i < length (row_of seen p) → KeepsRows (λ q. q ≢ p) seen (rows_of (slice_set r.words.all (r.width * p + i / 64) word) r.width r.marks r.count)
  mark_keeps p i word lt low =
      let there = row_there p lt in
      let other = λ (k : ℕ). get_or-set_other r.words.all (r.width * p + i / 64) k word 0 in
      others_kept _ p r.width (omega arith) (λ k under. other k (omega arith)) (λ k over. other k (omega arith))

  -- one more word of it
  pub row_more : (P : ℕ → ℕ → Type 0) (initial words : List ℕ) (p x count word : ℕ) → initial ≡ r.words.all → p < length seen → count ≤ length (row_of seen p) → 64 * x < count → P x word → Written P initial words (r.width * p) x →
      Written P initial (slice_set words (r.width * p + x) word) (r.width * p) (x + 1)
  row_more P initial words p x count word is lt few inside here old =
      let there : r.width * p + x < length words = omega (arith, old.long, ap length is, row_there p lt) in record {
        long = length-set words (r.width * p + x) word ∙ old.long;
        each = λ k low. grind (arith, cases_eq k x, get_or-set_same, get_or-set_other, here, there, old.each k);
        before = λ k low. grind (arith, get_or-set_other, old.before k);
        rest = λ k high. grind (arith, get_or-set_other, old.rest k);
      }

  -- marks whose words were made so of those of two rows were made so too
  pub row_blended : (how : Blend) (initial words : List ℕ) (p one two count x : ℕ) → initial ≡ r.words.all → p < length seen → one < length seen → two < length seen → count ≤ length (row_of seen p) → count ≤ 64 * x →
      Written (Blended how initial (r.width * one) (r.width * two)) initial words (r.width * p) x → (c : ℕ) → c < count →
      slice_index_or (row_of (rows_of words r.width r.marks r.count) p) c false ≡ blended how (slice_index_or (row_of seen one) c false) (slice_index_or (row_of seen two) c false)
  row_blended how initial words p one two count x is lt lt1 lt2 few past made c low =
      let bit = λ (ws : List ℕ) (q : ℕ). set_at ws (64 * (r.width * q) + c) (r.width * q + c / 64) (c % 64) (omega arith) (omega arith) in
      let had = λ (q : ℕ) (lt' : q < length seen). row_bit q (c + 1) lt' (omega (arith, low, few, marks_seen q lt', marks_seen p lt)) c (omega arith) in
      let each = rw is at (made.each (c / 64) (omega arith) (c % 64) (omega arith)) in
      rw (new_bit words p c lt (omega arith), had one lt1, had two lt2, bit words p, bit r.words.all one, bit r.words.all two) each

  -- marks of a word that isn't set there
  pub none_more : (q count x from least word : ℕ) → q < length seen → count ≤ length (row_of seen q) → word ≡ slice_index_or r.words.all (r.width * q + x) 0 →
      ((i : ℕ) → from ≤ i → i < least → bit_at word i ≡ 0) → least ≤ 64 → (c : ℕ) → 64 * x + from ≤ c → c < 64 * x + least → c < count → slice_index_or (row_of seen q) c false ≡ false
  none_more q count x from least word lt low read none few c from' to under = let k = c - 64 * x in grind (arith, word_at q count x word lt low read k, none k)
