-- What looks into a kept pass may still cost.
use Rattle.sedpass.proofs.Words.{◌≡◌, ℕ, zero, suc, ◌+◌, ◌-◌, ◌*◌, ◌<◌, ◌≤◌, ◌⊎◌, List, ap, subst, arith, mul-le-mul_left, rules, common_steps, CostsWithin, Node, Region, Matched, Apart, deeper, match_cost, region_cost, task_cost, due_place, owed_region}
use Rattle.sedpass.specs.Kept.{again}

-- What is made again.

again_falls : (m c d : ℕ) → c ≤ d → again m c ≤ again m d
again_falls m c d up = grind (arith, mul-le-mul_left (59 * m) up)

again_few : (m d : ℕ) → again m d ≤ 59 * m * d + 13 * m
again_few m d = grind arith

again_small : (m d : ℕ) → again m d ≤ 100 * m * d
again_small m zero = omega arith
again_small m (suc d) = omega arith

again_some : (m d : ℕ) → 1 ≤ d → again m d ≡ 59 * m * d + 13 * m
again_some m d some = grind arith

-- a block up to another one, or up to the region's end
again_paid : (m d e s t a : ℕ) → 1 ≤ d → a ≤ s + 33 * m → (1 ≤ e → a ≤ s + 20 * m) → t ≤ a + 35 * m * d → t + again m e ≤ s + again m (d + e)
again_paid m d zero s t a some first inside pass = search (rules, again_some, mul-le-mul_left)
again_paid m d (suc e) s t a some first inside pass = search (rules, again_some, mul-le-mul_left)

pub again_cost : (m low to end s a t : ℕ) → low < to → to ≤ end → a ≤ s + 33 * m → (to < end → a ≤ s + 20 * m) → t + 35 * m * low ≤ a + 35 * m * to → t + again m (end - to) ≤ s + again m (end - low)
again_cost m low to end s a t some within first inside pass =
    let all : (to - low) + (end - to) ≡ end - low = omega arith in
    let passed : 35 * m * to ≡ 35 * m * (low + (to - low)) = ap (λ v. 35 * m * v) (omega arith) in
    subst (λ v. t + again m (end - to) ≤ s + again m v) all (again_paid m (to - low) (end - to) s t a (omega arith) first (λ more. inside (omega arith)) (omega (arith, pass, passed)))

-- What is owed.

-- never more than for the whole rest of the region
pub owed_small : (m : ℕ) (r : Region) (i : ℕ) → owed_region m r i ≤ 100 * m * (r.end - i)
owed_small m r i = grind (arith, common_steps, again_small)

pub owed_falls : (m : ℕ) (r : Region) (i k : ℕ) → i ≤ k → owed_region m r k ≤ owed_region m r i
owed_falls m r i k up =
    let less : r.end - k ≤ r.end - i = omega arith in
    grind (arith, common_steps, owed_small m r k, mul-le-mul_left (100 * m) less, again_falls m (r.end - due_place r k) (r.end - due_place r i))

-- the region is made down to the place, which is in the table
pub owed_made : (m : ℕ) (old new : Region) (place s t : ℕ) → place < old.low → place < old.end → new.low ≡ place → new.from ≡ place → place < new.to → new.end ≡ old.end → s ≤ t →
    t ≤ s + (33 * m + 39 * m * (old.end - place)) → CostsWithin s t (owed_region m old place) (owed_region m new place)
owed_made m old new place s t below before low from to end grows cost =
    let less : new.end - new.to + 1 ≤ old.end - place = omega arith in
    grind (arith, common_steps, again_few m (new.end - new.to), mul-le-mul_left (59 * m) less)

-- the rest of the place's block is made again
pub owed_again : (m : ℕ) (old new : Region) (place s t : ℕ) → old.low ≤ place → (place < old.from) ⊎ (old.to ≤ place) → new.low ≡ old.low → new.end ≡ old.end → new.from ≡ place → place < new.to →
    CostsWithin s t (again m (old.end - place)) (again m (old.end - new.to)) → CostsWithin s t (owed_region m old place) (owed_region m new place)
owed_again m old new place s t above out low end from to paid = search rules

-- looks that go on as far as a place
pub owed_free : (m : ℕ) (r : Region) (i k s : ℕ) → i ≤ k → CostsWithin s s (owed_region m r i + 72 * m * k + 1) (owed_region m r k + 72 * m * i)
owed_free m r i k s up = omega (arith, owed_falls m r i k up, mul-le-mul_left (72 * m) up)

pub two_each : (m i k : ℕ) → 1 ≤ m → i ≤ k → 72 * m * i + 2 * k ≤ 72 * m * k + 2 * i
two_each zero i k some up = absurd (omega arith)
two_each (suc m) i k some up = omega (arith, mul-le-mul_left (72 * m + 70) up)

-- What is left for a match in a region.

region_paid : (m depth long owed : ℕ) → owed ≤ 100 * m * long → region_cost m depth long owed ≤ 172 * m * depth * long
region_paid m zero long owed few = omega arith
region_paid m (suc depth) long owed few = omega (arith, few)

-- a region of its own is paid by the task
pub begun_paid : (nodes : List Node) (r : Region) (here : Matched) → r.end ≡ here.stop → match_cost nodes r here ≤ task_cost nodes (Apart here)
begun_paid nodes r here end = search (rules, region_paid, owed_small)

-- a part in the same region, over the same bytes, after a look into it
pub inner_paid : (m d e long owed less p q s t : ℕ) → 1 ≤ e → d ≤ e → p + 1 ≤ q → t + less ≤ s + (owed + 1) → t + (region_cost m d long less + 2 * p + 1) ≤ s + (region_cost m e long owed + 2 * q)
inner_paid m d zero long owed less p q s t some deep fewer paid = absurd (omega arith)
inner_paid m zero (suc e) long owed less p q s t some deep fewer paid = omega (arith, fewer, paid)
inner_paid m (suc d) (suc e) long owed less p q s t some deep fewer paid = omega (arith, fewer, paid, mul-le-mul_left (172 * m * long) deep)

-- a left part in a region of its own, and the right one in the same region
parted : (m d a b l r owed less p q s t : ℕ) → a ≤ d → b ≤ suc d → t + less ≤ s + (owed + 72 * m * l + 1) →
    t + (region_cost m b r less + 2 * q + (172 * m * a * l + 2 * p) + 1) ≤ s + (region_cost m (suc d) (l + r) owed + 2 * (1 + p + q))
parted m d a zero l r owed less p q s t left right paid = omega (arith, paid, mul-le-mul_left (172 * m * l) left)
parted m d a (suc b) l r owed less p q s t left right paid = omega (arith, paid, mul-le-mul_left (172 * m * l) left, mul-le-mul_left (172 * m * r) right)

pub parts_paid : (m d a b start k stop owed less p q n s t : ℕ) → 1 ≤ d → deeper a ≤ d → b ≤ d → start ≤ k → k ≤ stop → 1 + p + q ≤ n → t + (less + 72 * m * start) ≤ s + (owed + 72 * m * k + 1) →
    t + (region_cost m b (stop - k) less + 2 * q + (172 * m * a * (k - start) + 2 * p + 1)) ≤ s + (region_cost m d (stop - start) owed + 2 * n)
parts_paid m zero a b start k stop owed less p q n s t some left right low high fewer paid = absurd (omega arith)
parts_paid m (suc d) a b start k stop owed less p q n s t some left right low high fewer paid =
    let cut : 72 * m * k ≡ 72 * m * (start + (k - start)) = ap (λ v. 72 * m * v) (omega arith) in
    let all : (k - start) + (stop - k) ≡ stop - start = omega arith in
    let two = parted m d a b (k - start) (stop - k) owed less p q s t (grind (arith, left)) right (omega (arith, paid, cut)) in
    rw (← all) (omega (arith, two, fewer))

-- the last copy of a repetition, in a region of its own
pub copy_paid : (m d a long short owed x p q s t : ℕ) → 1 ≤ d → d ≡ deeper a → short ≤ long → x ≤ 172 * m * a * short + 2 * p → p + 1 ≤ q → t ≤ s + (owed + 72 * m * long + 1) → t + (x + 1) ≤ s + (region_cost m d long owed + 2 * q)
copy_paid m d a long short owed x p q s t some is less begun fewer paid = grind (arith, mul-le-mul_left (172 * m * a) less)
