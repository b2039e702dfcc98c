use Rattle.sedpass.proofs.Words.{rules, refl, arith}
use Rattle.sedpass.proofs.TableLemmas.{has_parts, same_all}
use Rattle.sedpass.proofs.table.Table.with_room.Goals as goal

pub returns : goal.returns
returns c = record {
  table = (
    λ layout small tight. has_parts _ refl (search (rules, c.in_ok-new.ensures, c.in_ok-vec.ensures.len)) small tight (rw c.min.ensures at c.in_ok-with_capacity.ensures.capacity) (omega (arith, c.in_ok-vec-4.ensures.len, c.in_ok-vec-4.field-0.ok))
        (omega (arith, c.in_ok-vec-2.ensures.len, c.in_ok-vec-2.field-0.ok)) (λ root kind low. grind (arith, c.in_ok-vec-3.ensures.len)) (λ i. search (rules, c.in_ok-vec-3.ensures.items_if_clones_equal (λ y h. h), same_all)),
    refl,
    refl,
  );
}
