-- Braces that match, and those that don't.
use Rattle.std.proofs.Common.{◌≡◌, ℕ, zero, suc, ◌+◌, ◌-◌, ◌≤◌, ◌==◌, Bool, true, false, if◌then◌else◌, List, [], ◌∷◌, ◌++◌, Option, Some, None, is_none, is_some, refl, sym, ap, subst, ◌∙◌, arith, append_assoc, append-nil}
use Rattle.std.specs.Option.{option_or}
use Rattle.std.proofs.lemmas.Bool.{ne_eqb}
use Rattle.sedre.specs.declared.types.Kind.{Kind}
use Rattle.sedscript.specs.declared.types.ScriptFault.{ScriptFault}
use Rattle.sedscript.specs.declared.types.Reason.{Reason}
use Rattle.sedscript.specs.declared.types.Reason.TheVariants.{UnknownLabel, RepeatedLabel, OpenBlock, StrayClose}
use Rattle.sedscript.specs.declared.letters.Verb.{Verb}
use Rattle.sedscript.specs.declared.letters.Verb.TheVariants.{Open, Close, Label, Branch}
use Rattle.sedscript.specs.declared.items.Argument.{Argument}
use Rattle.sedscript.specs.declared.items.Item.{Item}
use Rattle.sedscript.specs.Script.{Means, target_fault_at, target_fault_in, target_fault, count_with, commands_in, written_in, branch_in, label_in, depth_after, close_in, block_end}
use Rattle.sedscript.specs.Program.{Program}
use Rattle.sedscript.specs.Letters.{becomes_command, is_open, is_close}
use Rattle.sedscript.specs.Bytes.{fault_if}
use Rattle.sedscript.proofs.Labels.{counted_in}
use Rattle.examples.specs.Blocks.{BracesMatch, none, other, block, IsStray, IsUnclosed}
use Rattle.examples.proofs.FaultLemmas.{or_none, unless_wrong, Another, another_if, past_another}

abbrev Items : Type 0
Items = List Item

-- ---- items that close so many blocks which are open before them

abbrev Closes : ℕ → Items → Type 0
Closes zero is = BracesMatch is
Closes (suc d) is = (front : Items) × (j : Item) × (rest : Items) × (is ≡ front ++ j ∷ rest) × BracesMatch front × (j.verb ≡ Close) × Closes d rest

plain_first : (d : ℕ) (i : Item) (is : Items) → is_open i.verb ≡ false → is_close i.verb ≡ false → Closes d is → Closes d (i ∷ is)
plain_first zero i is o c h = other i is o c h
plain_first (suc d) i is o c h = (i ∷ h.0, h.1, h.2, ap (λ (xs : Items). i ∷ xs) h.3, other i h.0 o c h.4, h.5, h.6)

close_first : (d : ℕ) (i : Item) (is : Items) → i.verb ≡ Close → Closes d is → Closes (suc d) (i ∷ is)
close_first d i is c h = ([], i, is, refl, none, c, h)

open_first : (d : ℕ) (i : Item) (is : Items) → i.verb ≡ Open → Closes (suc d) is → Closes d (i ∷ is)
open_first zero i is o h = subst (λ (xs : Items). BracesMatch (i ∷ xs)) (sym h.3) (block i h.1 h.0 h.2 o h.4 h.5 h.6)
open_first (suc d) i is o h = (
  i ∷ h.0 ++ h.1 ∷ g.0,
  g.1,
  g.2,
  ap (λ (xs : Items). i ∷ xs) (h.3 ∙ (ap (λ (xs : Items). h.0 ++ h.1 ∷ xs) g.3 ∙ sym (append_assoc h.0 (h.1 ∷ g.0) (g.1 ∷ g.2)))),
  block i h.1 h.0 g.0 o h.4 h.5 g.4,
  g.5,
  g.6,
)
  where
    g : Closes (suc d) h.2
    g = h.6

-- ---- where a block ends

some_more : (d : ℕ) → (suc d == 0) ≡ false
some_more d = ne_eqb (suc d) 0 (λ e. omega (arith, e))

one_less : (d : ℕ) → suc d - 1 ≡ d
one_less d = omega arith

open_step : (d n : ℕ) (i : Item) (is : Items) → i.verb ≡ Open → close_in d n (i ∷ is) ≡ close_in (suc d) (suc n) is
open_step d n i is o = rw o refl

close_step : (d n : ℕ) (j : Item) (is : Items) → j.verb ≡ Close → close_in (suc d) n (j ∷ is) ≡ close_in d n is
close_step d n j is c = rw (c, some_more d, one_less d) refl

plain_step : (d n : ℕ) (i : Item) (is : Items) → is_open i.verb ≡ false → is_close i.verb ≡ false → close_in d n (i ∷ is) ≡ close_in d (count_with n i) is
plain_step d n i is o c = rw (o, c) refl

close_here : (n : ℕ) (j : Item) (is : Items) → j.verb ≡ Close → close_in 0 n (j ∷ is) ≡ Some n
close_here n j is c = rw c refl

commands_append : (xs ys : Items) → commands_in (xs ++ ys) ≡ commands_in xs + commands_in ys
commands_append [] ys = omega arith
commands_append (i ∷ xs) ys = by_leaf (becomes_command i.verb) (commands_append xs ys)
  where
    by_leaf : (t : Bool) → commands_in (xs ++ ys) ≡ commands_in xs + commands_in ys → (if t then suc (commands_in (xs ++ ys)) else commands_in (xs ++ ys)) ≡ (if t then suc (commands_in xs) else commands_in xs) + commands_in ys
    by_leaf true e = omega (arith, e)
    by_leaf false e = e

open_counts : (i : Item) (is : Items) → i.verb ≡ Open → commands_in (i ∷ is) ≡ suc (commands_in is)
open_counts i is o = rw o refl

close_counts : (j : Item) (is : Items) → j.verb ≡ Close → commands_in (j ∷ is) ≡ commands_in is
close_counts j is c = rw c refl

-- a closing brace is sought past items whose braces match
past_matching : (is : Items) → BracesMatch is → (d n : ℕ) (rest : Items) → close_in d n (is ++ rest) ≡ close_in d (n + commands_in is) rest
past_matching _ none d n rest = ap (λ (k : ℕ). close_in d k rest) (let e : n ≡ n + 0 = omega arith in e)
past_matching _ (other i is o c m) d n rest =
    plain_step d n i (is ++ rest) o c ∙ (past_matching is m d (count_with n i) rest ∙ ap (λ (k : ℕ). close_in d k rest) (counted_in n i is))
past_matching _ (block i j inner after o m c g) d n rest =
    open_step d n i ((inner ++ j ∷ after) ++ rest) o
    ∙ (ap (close_in (suc d) (suc n)) (append_assoc inner (j ∷ after) rest)
    ∙ (past_matching inner m (suc d) (suc n) (j ∷ after ++ rest)
    ∙ (close_step d (suc n + commands_in inner) j (after ++ rest) c
    ∙ (past_matching after g d (suc n + commands_in inner) rest
    ∙ ap (λ (k : ℕ). close_in d k rest)
    (let e : suc n + commands_in inner + commands_in after ≡ n + commands_in (i ∷ inner ++ j ∷ after) =
    omega (arith, open_counts i (inner ++ j ∷ after) o, commands_append inner (j ∷ after), close_counts j after c) in e)))))

none_closes : (is : Items) (n : ℕ) → BracesMatch is → close_in 0 n is ≡ None
none_closes is n m = ap (close_in 0 n) (sym (append-nil is)) ∙ past_matching is m 0 n []

closes_there : (inner rest : Items) (j : Item) (n : ℕ) → BracesMatch inner → j.verb ≡ Close → close_in 0 n (inner ++ j ∷ rest) ≡ Some (n + commands_in inner)
closes_there inner rest j n m c = past_matching inner m 0 n (j ∷ rest) ∙ close_here (n + commands_in inner) j rest c

pub block_leads : (before inner after : Items) (i j : Item) → i.verb ≡ Open → BracesMatch inner → j.verb ≡ Close →
    block_end before (inner ++ j ∷ after) ≡ Some (commands_in (before ++ i ∷ inner))
block_leads before inner after i j o m c =
    closes_there inner after j (suc (commands_in before)) m c
    ∙ ap (λ (k : ℕ). Some k) (let e : suc (commands_in before) + commands_in inner ≡ commands_in (before ++ i ∷ inner) = omega (arith, commands_append before (i ∷ inner), open_counts i inner o) in e)

-- where no brace closes the nearest block, none closes one round it
none_deeper : (is : Items) (d n m : ℕ) → close_in d n is ≡ None → close_in (suc d) m is ≡ None
none_deeper [] d n m e = refl
none_deeper (i ∷ is) d n m e = by_verb i.verb refl (none_deeper is) d e
  where
    by_verb : (f : Verb) → i.verb ≡ f → ((d n m : ℕ) → close_in d n is ≡ None → close_in (suc d) m is ≡ None) → (d : ℕ) → close_in d n (i ∷ is) ≡ None → close_in (suc d) m (i ∷ is) ≡ None
    by_verb Open o rest d e = open_step (suc d) m i is o ∙ rest (suc d) (suc n) (suc m) (sym (open_step d n i is o) ∙ e)
    by_verb Close c rest zero e = let no : ◌≡◌ {A = Option ℕ} (Some n) None = sym (close_here n i is c) ∙ e in absurd cc
    by_verb Close c rest (suc d) e = close_step (suc d) m i is c ∙ rest d n m (sym (close_step d n i is c) ∙ e)
    by_verb f p rest d e =
        plain_step (suc d) m i is (ap is_open p) (ap is_close p) ∙ rest d (count_with n i) (count_with m i) (sym (plain_step d n i is (ap is_open p) (ap is_close p)) ∙ e)

-- ---- where nothing is wrong

-- the items close at most so many blocks
abbrev ClosesUpTo : ℕ → Items → Type 0
ClosesUpTo d is = (k : ℕ) × (k ≤ d) × Closes k is

-- a block that is closed somewhere, and closes no more than are open
open_more : (d k n : ℕ) (i : Item) (is : Items) → i.verb ≡ Open → k ≤ suc d → Closes k is → is_none (close_in 0 n is) ≡ false → ClosesUpTo d (i ∷ is)
open_more d zero n i is o low h ends = let no : true ≡ false = sym (ap (λ (x : Option ℕ). is_none x) (none_closes is n h)) ∙ ends in absurd cc
open_more d (suc k) n i is o low h ends = (k, omega (arith, low), open_first k i is o h)

settled : (text : List ℕ) (all before : Items) (d : ℕ) (is : Items) → target_fault_in text all before d is ≡ None → ClosesUpTo d is
settled text all before d [] e = (zero, omega arith, none)
settled text all before d (i ∷ is) e =
    let two = or_none (target_fault_at text all before d is i.place i.verb i.argument) _ e in
    by_verb i.verb refl d two.0 two.1 (λ d. settled text all (before ++ i ∷ []) d is)
  where
    by_verb : (f : Verb) → i.verb ≡ f → (d : ℕ) → target_fault_at text all before d is i.place f i.argument ≡ None → target_fault_in text all (before ++ i ∷ []) (depth_after d f) is ≡ None →
        ((d : ℕ) → target_fault_in text all (before ++ i ∷ []) d is ≡ None → ClosesUpTo d is) → ClosesUpTo d (i ∷ is)
    by_verb Open o d e later rest =
        let h = rest (suc d) later in open_more d h.0 (suc (commands_in before)) i is o h.1 h.2 (unless_wrong (is_none (block_end before is)) OpenBlock i.place e)
    by_verb Close c zero e later rest = let no : true ≡ false = unless_wrong true StrayClose i.place e in absurd cc
    by_verb Close c (suc d) e later rest = let h = rest (suc d - 1) later in (suc h.0, omega (arith, h.1), close_first h.0 i is c h.2)
    by_verb f p d e later rest = let h = rest d later in (h.0, h.1, plain_first h.0 i is (ap is_open p) (ap is_close p) h.2)

all_match : (text : List ℕ) (is : Items) → target_fault text is ≡ None → BracesMatch is
all_match text is e = none_open (settled text is [] 0 is e)
  where
    none_open : ClosesUpTo 0 is → BracesMatch is
    none_open h = subst (λ (k : ℕ). Closes k is) (let e : h.0 ≡ 0 = omega (arith, h.1) in e) h.2

pub braces_match : (kind : Kind) (max_nodes : ℕ) (text : List ℕ) (script : Program) (means : Means text kind max_nodes script) → BracesMatch means.items
braces_match kind max_nodes text script means = all_match text means.items means.judged.settled

-- ---- where something is wrong

-- what is wrong with a label or a branch is no reason of a brace
label_another : (r : Reason) (text : List ℕ) (all before after : Items) (d place : ℕ) (f : Verb) (a : Argument) → (UnknownLabel ≡ r → ⊥) → (RepeatedLabel ≡ r → ⊥) → is_open f ≡ false → is_close f ≡ false →
    Another r (target_fault_at text all before d after place f a)
label_another r text all before after d place Open a u l o c = absurd cc
label_another r text all before after d place Close a u l o c = absurd cc
label_another r text all before after d place Label a u l o c = another_if r RepeatedLabel (is_some (label_in text (written_in text a) 0 before)) place l
label_another r text all before after d place (Branch how) a u l o c =
    another_if r UnknownLabel (is_none (branch_in text all (written_in text a))) place u
label_another r text all before after d place f a u l o c = tt

-- the first brace that closes nothing, where so many blocks are open before the items
record Stray (d : ℕ) (is : Items) (place : ℕ) : Type 0 where
  pub front : Items
  pub brace : Item
  pub after : Items
  pub are : is ≡ front ++ brace ∷ after
  pub closes : brace.verb ≡ Close
  pub match : Closes d front
  pub there : place ≡ brace.place

stray_later : (d k : ℕ) (i : Item) (is : Items) (place : ℕ) (s : Stray k is place) → Closes d (i ∷ s.front) → Stray d (i ∷ is) place
stray_later d k i is place s h = record {
  front = i ∷ s.front;
  brace = s.brace;
  after = s.after;
  are = ap (λ (xs : Items). i ∷ xs) s.are;
  closes = s.closes;
  match = h;
  there = s.there;
}

stray : (text : List ℕ) (all before : Items) (d : ℕ) (is : Items) (f : ScriptFault) → f.reason ≡ StrayClose → target_fault_in text all before d is ≡ Some f → Stray d is f.place
stray text all before d [] f is_stray e = absurd cc
stray text all before d (i ∷ is) f is_stray e = by_verb i.verb refl d e (λ d. stray text all (before ++ i ∷ []) d is f is_stray)
  where
    close_at : (d : ℕ) → i.verb ≡ Close → option_or (fault_if (d == 0) StrayClose i.place) (target_fault_in text all (before ++ i ∷ []) (d - 1) is) ≡ Some f →
        ((d : ℕ) → target_fault_in text all (before ++ i ∷ []) d is ≡ Some f → Stray d is f.place) → Stray d (i ∷ is) f.place
    close_at zero c e rest =
        let same : ◌≡◌ {A = ScriptFault} (record { place = i.place; reason = StrayClose }) f = cc in
        record { front = []; brace = i; after = is; are = refl; closes = c; match = none; there = ap (λ (x : ScriptFault). x.place) (sym same) }
    close_at (suc d) c e rest =
        let on : target_fault_in text all (before ++ i ∷ []) (suc d - 1) is ≡ Some f = sym (ap (λ (t : Bool). option_or (fault_if t StrayClose i.place) (target_fault_in text all (before ++ i ∷ []) (suc d - 1) is)) (some_more d)) ∙ e in
        let s : Stray d is f.place = rest d (sym (ap (λ (k : ℕ). target_fault_in text all (before ++ i ∷ []) k is) (one_less d)) ∙ on) in
        stray_later (suc d) d i is f.place s (close_first d i s.front c s.match)

    by_verb : (g : Verb) → i.verb ≡ g → (d : ℕ) → option_or (target_fault_at text all before d is i.place g i.argument) (target_fault_in text all (before ++ i ∷ []) (depth_after d g) is) ≡ Some f →
        ((d : ℕ) → target_fault_in text all (before ++ i ∷ []) d is ≡ Some f → Stray d is f.place) → Stray d (i ∷ is) f.place
    by_verb Open o d e rest =
        let s = rest (suc d) (past_another StrayClose (fault_if (is_none (block_end before is)) OpenBlock i.place) (target_fault_in text all (before ++ i ∷ []) (suc d) is) f (another_if StrayClose OpenBlock (is_none (block_end before is)) i.place (λ no. absurd cc)) is_stray e) in
        stray_later d (suc d) i is f.place s (open_first d i s.front o s.match)
    by_verb Close c d e rest = close_at d c e rest
    by_verb g p d e rest =
        let s = rest d (past_another StrayClose (target_fault_at text all before d is i.place g i.argument) (target_fault_in text all (before ++ i ∷ []) d is) f (label_another StrayClose text all before is d i.place g i.argument (λ no. absurd cc) (λ no. absurd cc) refl refl) is_stray e) in
        stray_later d d i is f.place s (plain_first d i s.front (ap is_open p) (ap is_close p) s.match)

-- the first brace that nothing closes, where at most so many blocks are open before the items
record Unclosed (d : ℕ) (is : Items) (place : ℕ) : Type 0 where
  pub front : Items
  pub brace : Item
  pub after : Items
  pub are : is ≡ front ++ brace ∷ after
  pub opens : brace.verb ≡ Open
  pub k : ℕ
  pub low : k ≤ d
  pub match : Closes k front
  pub n : ℕ
  pub never : close_in 0 n after ≡ None
  pub there : place ≡ brace.place

unclosed_later : (d k m : ℕ) (i : Item) (is : Items) (place : ℕ) (u : Unclosed k is place) → m ≤ d → Closes m (i ∷ u.front) → Unclosed d (i ∷ is) place
unclosed_later d k m i is place u low h = record {
  front = i ∷ u.front;
  brace = u.brace;
  after = u.after;
  are = ap (λ (xs : Items). i ∷ xs) u.are;
  opens = u.opens;
  k = m;
  low = low;
  match = h;
  n = u.n;
  never = u.never;
  there = u.there;
}

-- a brace that nothing closes within a block which would be closed
within_none : (d n : ℕ) (is : Items) (place : ℕ) (u : Unclosed d is place) → BracesMatch u.front → is_none (close_in 0 n is) ≡ false → ⊥
within_none d n is place u m ends =
    let e : close_in 0 n is ≡ None =
    ap (close_in 0 n) u.are ∙ (past_matching u.front m 0 n (u.brace ∷ u.after)
    ∙ (open_step 0 (n + commands_in u.front) u.brace u.after u.opens ∙ none_deeper u.after 0 u.n (suc (n + commands_in u.front)) u.never)) in
    let no : true ≡ false = sym (ap (λ (x : Option ℕ). is_none x) e) ∙ ends in cc

unclosed : (text : List ℕ) (all before : Items) (d : ℕ) (is : Items) (f : ScriptFault) → f.reason ≡ OpenBlock → target_fault_in text all before d is ≡ Some f → Unclosed d is f.place
unclosed text all before d [] f is_unclosed e = absurd cc
unclosed text all before d (i ∷ is) f is_unclosed e = by_verb i.verb refl d e (λ d. unclosed text all (before ++ i ∷ []) d is f is_unclosed)
  where
    open_inside : (d k : ℕ) (u : Unclosed (suc d) is f.place) → i.verb ≡ Open → k ≤ suc d → Closes k u.front → is_none (block_end before is) ≡ false → Unclosed d (i ∷ is) f.place
    open_inside d zero u o low h ends = absurd (within_none (suc d) (suc (commands_in before)) is f.place u h ends)
    open_inside d (suc k) u o low h ends = unclosed_later d (suc d) k i is f.place u (omega (arith, low)) (open_first k i u.front o h)

    open_at : (d : ℕ) (t : Bool) → i.verb ≡ Open → is_none (block_end before is) ≡ t → option_or (fault_if t OpenBlock i.place) (target_fault_in text all (before ++ i ∷ []) (suc d) is) ≡ Some f →
        (target_fault_in text all (before ++ i ∷ []) (suc d) is ≡ Some f → Unclosed (suc d) is f.place) → Unclosed d (i ∷ is) f.place
    open_at d true o ends e rest =
        let same : ◌≡◌ {A = ScriptFault} (record { place = i.place; reason = OpenBlock }) f = cc in
        record {
          front = [];
          brace = i;
          after = is;
          are = refl;
          opens = o;
          k = zero;
          low = omega arith;
          match = none;
          n = suc (commands_in before);
          never = no_end (block_end before is) ends;
          there = ap (λ (x : ScriptFault). x.place) (sym same);
        }
      where
        no_end : (o : Option ℕ) → is_none o ≡ true → o ≡ None
        no_end None e = refl
        no_end (Some x) e = absurd cc
    open_at d false o ends e rest = let u = rest e in open_inside d u.k u o u.low u.match ends

    close_at : (d : ℕ) → i.verb ≡ Close → target_fault_in text all (before ++ i ∷ []) (d - 1) is ≡ Some f → (d == 0) ≡ false →
        ((d : ℕ) → target_fault_in text all (before ++ i ∷ []) d is ≡ Some f → Unclosed d is f.place) → Unclosed d (i ∷ is) f.place
    close_at zero c e more rest = let no : true ≡ false = more in absurd cc
    close_at (suc d) c e more rest =
        let u : Unclosed (suc d - 1) is f.place = rest (suc d - 1) e in
        unclosed_later (suc d) (suc d - 1) (suc u.k) i is f.place u (omega (arith, u.low)) (close_first u.k i u.front c u.match)

    not_first : (t : Bool) → Another OpenBlock (fault_if t StrayClose i.place)
    not_first t = another_if OpenBlock StrayClose t i.place (λ no. absurd cc)

    some_open : (d : ℕ) (t : Bool) → (d == 0) ≡ t → option_or (fault_if t StrayClose i.place) (target_fault_in text all (before ++ i ∷ []) (d - 1) is) ≡ Some f → t ≡ false
    some_open d false is_not e = refl
    some_open d true is_not e =
        let same : ◌≡◌ {A = ScriptFault} (record { place = i.place; reason = StrayClose }) f = cc in
        let no : StrayClose ≡ OpenBlock = ap (λ (x : ScriptFault). x.reason) same ∙ is_unclosed in absurd cc

    by_verb : (g : Verb) → i.verb ≡ g → (d : ℕ) → option_or (target_fault_at text all before d is i.place g i.argument) (target_fault_in text all (before ++ i ∷ []) (depth_after d g) is) ≡ Some f →
        ((d : ℕ) → target_fault_in text all (before ++ i ∷ []) d is ≡ Some f → Unclosed d is f.place) → Unclosed d (i ∷ is) f.place
    by_verb Open o d e rest = open_at d (is_none (block_end before is)) o refl e (rest (suc d))
    by_verb Close c d e rest =
        close_at d c (past_another OpenBlock (fault_if (d == 0) StrayClose i.place) (target_fault_in text all (before ++ i ∷ []) (d - 1) is) f (not_first (d == 0)) is_unclosed e) (some_open d (d == 0) refl e) rest
    by_verb g p d e rest =
        let u = rest d (past_another OpenBlock (target_fault_at text all before d is i.place g i.argument) (target_fault_in text all (before ++ i ∷ []) d is) f (label_another OpenBlock text all before is d i.place g i.argument (λ no. absurd cc) (λ no. absurd cc) refl refl) is_unclosed e) in
        unclosed_later d d u.k i is f.place u u.low (plain_first u.k i u.front (ap is_open p) (ap is_close p) u.match)

is_stray : (items : Items) (place : ℕ) → Stray 0 items place → IsStray items place
is_stray items place s = (s.after, record { before = s.front; brace = s.brace; are = s.are; is = s.closes; match = s.match; there = s.there })

is_unclosed : (items : Items) (place : ℕ) → Unclosed 0 items place → IsUnclosed items place
is_unclosed items place u = (
  u.after,
  record {
    before = u.front;
    brace = u.brace;
    are = u.are;
    is = u.opens;
    match = subst (λ (k : ℕ). Closes k u.front) (let e : u.k ≡ 0 = omega (arith, u.low) in e) u.match;
    there = u.there;
  },
  λ inner rest j are m c. (let no : ◌≡◌ {A = Option ℕ} None (Some (u.n + commands_in inner)) = sym u.never ∙ (ap (close_in 0 u.n) are ∙ closes_there inner rest j u.n m c) in absurd cc),
)

pub braces_at_fault : (text : List ℕ) (items : Items) (f : ScriptFault) → target_fault text items ≡ Some f →
    (f.reason ≡ StrayClose → IsStray items f.place) × (f.reason ≡ OpenBlock → IsUnclosed items f.place)
braces_at_fault text items f e = (λ is. is_stray items f.place (stray text items [] 0 items f is e), λ is. is_unclosed items f.place (unclosed text items [] 0 items f is e))
