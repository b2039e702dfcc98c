use Rattle.sedmatch.proofs.Words.{◌≡◌, ℕ, ◌+◌, ◌-◌, ◌*◌, ◌/◌, ◌<◌, ◌≤◌, length, ap, arith, cases_lt, lt-div-mul-add, mul-le-mul_right, roomy_fewer}
use Rattle.sedmatch.proofs.occurrences.Occurrences.new.Goals as goal

-- two rows for each block, in which a table has a state for each place and one more, are enough
blocks_fit : (text width room edges b : ℕ) → 1 ≤ width → room - 1 ≡ width → edges ≡ 2 * (text / width + 1) → b * (room - 1) ≤ text → 2 * b + 1 < edges
blocks_fit text width room edges b some is rows low = grind (arith, lt-div-mul-add {a = text} {b = width} some, mul-le-mul_right, cases_lt b (edges / 2))

pub returns : goal.returns
returns c =
    let of = c.in_ok-kept.ensures in
    let table = c.in_ok-shared.ensures.table in
    let width = c.width_for-width.ensures in
    record {
      each = λ x e is. let less = c.requires.fit x e is in record {
        shared = (
          roomy_fewer (length e.nodes) c.args.max_nodes c.in_ok-shared.shared less table.0,
          table.1,
          record {
            mirrored = ap (λ v. v.mirrored) table.1;
            places = of.places;
            blocks = λ b low. blocks_fit c.args.max_text c.width_for-width.result c.in_ok-shared.shared.room _ b (omega (arith, width.least)) (omega (arith, table.2)) of.edges low;
            marks = λ q low. omega (arith, of.marks q low, less);
          },
        );
        few = omega (arith, of.edges, width.blocks c.requires.text);
        own = c.loop-x.invariant.0.each x e is;
      };
    }
