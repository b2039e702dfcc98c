-- What reporting the groups of the occurrences in a text takes together.
use Rattle.std.proofs.Common.{◌≡◌, ℕ, ◌+◌, ◌-◌, ◌*◌, ◌≤◌, length, Option, Some, None, subst, arith, mul-le-mul_left}
use Rattle.std.specs.Prelude.{IfSome}
use Rattle.sedre.specs.Steps.{Takes, CostsWithin}
use Rattle.sedre.specs.Tree.{WrittenExpression, expression_tree}
use Rattle.sedmatch.specs.Groups.{group_depth}
use Rattle.sedmatch.specs.Following.{LiesOn}
use Rattle.sedacts.specs.SubstituteParts.{owed_groups, owed_groups_after, place_cost}

-- an occurrence of `long` bytes pays by the places that it takes
by_places : (k t long places rest : ℕ) → long ≤ places → 1 ≤ places → k * long + t + (k + t) * rest ≤ (k + t) * (rest + places)
by_places k t long places rest most some = omega (arith, mul-le-mul_left k most, mul-le-mul_left t some)

-- the first one may take no place
at_first : (k t long places rest : ℕ) → long ≤ places → k * long + t + (k + t) * rest ≤ (k + t) * (rest + places) + t
at_first k t long places rest most = omega (arith, mul-le-mul_left k most)

-- the groups of the occurrence that comes next are paid by the places up to its end
pub shown_paid : (e : WrittenExpression) (n s t : ℕ) (last : Option ℕ) (span : ℕ × ℕ) → LiesOn n last span →
    Takes s t (172 * length e.nodes * group_depth (expression_tree e) * (span.1 - span.0) + 2 * length e.nodes) →
    CostsWithin s t (owed_groups e n last) (owed_groups_after e n (Some span))
shown_paid e n s t None span lies shown =
    let m = length e.nodes in
    let parted : n - span.1 + span.1 ≡ n = omega (arith, lies.1) in
    let paid = at_first (172 * m * group_depth (expression_tree e)) (2 * m) (span.1 - span.0) span.1 (n - span.1) (omega arith) in
    let all = subst (λ (places : ℕ). 172 * m * group_depth (expression_tree e) * (span.1 - span.0) + 2 * m + place_cost e * (n - span.1)
    ≤ place_cost e * places + 2 * m) parted paid in
    (shown.0, omega (arith, shown.1, all))
shown_paid e n s t (Some q) span lies shown =
    let m = length e.nodes in
    let parted : n - span.1 + (span.1 - q) ≡ n - q = omega (arith, lies.1, lies.2.1) in
    let paid = by_places (172 * m * group_depth (expression_tree e)) (2 * m) (span.1 - span.0) (span.1 - q) (n - span.1) (omega (arith, lies.2.0))
    (omega (arith, lies.2.1)) in
    let all = subst (λ (places : ℕ). 172 * m * group_depth (expression_tree e) * (span.1 - span.0) + 2 * m + place_cost e * (n - span.1)
    ≤ place_cost e * places) parted paid in
    (shown.0, omega (arith, shown.1, all))

-- where none are reported, no more is owed after the occurrence that comes next
pub none_paid : (e : WrittenExpression) (n s : ℕ) (last : Option ℕ) (r : Option (ℕ × ℕ)) → IfSome r (LiesOn n last) →
    CostsWithin s s (owed_groups e n last) (owed_groups_after e n r)
none_paid e n s last None lies = (omega arith, omega arith)
none_paid e n s None (Some span) lies =
    let fewer : n - span.1 ≤ n = omega arith in
    (omega arith, omega (arith, mul-le-mul_left (place_cost e) fewer))
none_paid e n s (Some q) (Some span) lies =
    let fewer : n - span.1 ≤ n - q = omega (arith, lies.2.1) in
    (omega arith, omega (arith, mul-le-mul_left (place_cost e) fewer))

-- the most that is owed
owed_most : (e : WrittenExpression) (n : ℕ) (last : Option ℕ) → owed_groups e n last ≤ 172 * length e.nodes * (group_depth (expression_tree e) + 1) * (n + 1)
owed_most e n None = omega arith
owed_most e n (Some q) =
    let fewer : n - q ≤ n = omega arith in
    omega (arith, mul-le-mul_left (place_cost e) fewer)

-- what reporting the groups of all that is replaced takes
pub all_took : (e : WrittenExpression) (n a b c : ℕ) (last : Option ℕ) (first : ℕ × ℕ) →
    CostsWithin a b (owed_groups e n last) (owed_groups_after e n (Some first)) → Takes b c (owed_groups e n (Some first.1)) →
    Takes a c (172 * length e.nodes * (group_depth (expression_tree e) + 1) * (n + 1))
all_took e n a b c last first paid later =
    (omega (arith, paid.0, later.0), omega (arith, paid.1, later.1, owed_most e n last))

-- what searches and groups take together
pub together : (m d n a b s t : ℕ) → Takes a b (416 * m * (n + 1)) → Takes s t (172 * m * (d + 1) * (n + 1)) → b + t ≤ a + s + 588 * m * (d + 1) * (n + 1)
together m d n a b s t searches groups = omega (arith, searches.1, groups.1)

-- what searches take, one after another
pub searches_two : {a b c : ℕ} (x y z : ℕ) → CostsWithin a b x y → CostsWithin b c y z → Takes a c x
searches_two x y z h i = (omega (arith, h, i), omega (arith, h, i))

pub searches_three : {a b c d : ℕ} (x y z : ℕ) → CostsWithin a b x y → CostsWithin b c y z → Takes c d z → Takes a d x
searches_three x y z h i j = (omega (arith, h, i, j), omega (arith, h, i, j))

pub takes_none : {a b : ℕ} (n : ℕ) → b ≡ a → Takes a b n
takes_none n is = (omega arith, omega arith)

pub takes_few : {a b c : ℕ} (n : ℕ) → b ≡ a → Takes b c 0 → Takes a c n
takes_few n is h = (omega (arith, h), omega (arith, h))

-- what is owed at the end is less than what was
pub takes_paid : {a b : ℕ} (k n : ℕ) → a ≤ b → b + k ≤ a + n → Takes a b n
takes_paid k n grows paid = (grows, omega arith)

pub searches_none : {s t : ℕ} (n : ℕ) → CostsWithin s t n 0 → Takes s t n
searches_none n h = (h.0, omega (arith, h.1))

pub le_same : {n : ℕ} → n ≤ n
le_same = omega arith

pub le_zero : {n : ℕ} → 0 ≤ n
le_zero = omega arith

pub le_added : {m n : ℕ} (k : ℕ) → m ≡ n + k → n ≤ m
le_added k is = omega arith

pub le_more : {m : ℕ} (n : ℕ) → m ≤ m + n
le_more n = omega arith
