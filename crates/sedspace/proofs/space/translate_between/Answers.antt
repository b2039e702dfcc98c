use Rattle.std.proofs.Common.{◌≡◌, ◌-◌, map, ap, sym, ◌∙◌, arith, length}
use Rattle.std.specs.Prelude.{slice_get, slice_index_or}
use Rattle.std.proofs.lemmas.List.{length-map}
use Rattle.std.proofs.lemmas.Slice.{between-put_mid, between_is, drop-put_mid}
use Rattle.sedspace.proofs.SpaceLemmas.{first_of_drop}
use Rattle.sedspace.proofs.space.translate_between.Goals as goal

pub returns-clause-bytes : goal.returns-clause-bytes
returns-clause-bytes c =
    let held = c.args.held.now in
    let front = c.args.front in
    let end = c.args.end in
    let long : length c.translate_all.new.bytes ≡ end - front = ap length c.translate_all.ensures.bytes ∙ length-map _ _ ∙ omega (arith, c.requires.order, c.requires.inside) in
    sym (between_is _ front end) ∙ between-put_mid front (end - front) held c.translate_all.new.bytes end (omega (arith, c.requires.order, c.requires.inside)) long
    ∙ c.translate_all.ensures.bytes ∙ ap (λ z. map (λ b. slice_index_or c.args.table.now b b) z) (between_is held front end)

pub returns-clause-after : goal.returns-clause-after
returns-clause-after c =
    let held = c.args.held.now in
    let front = c.args.front in
    let end = c.args.end in
    let long : length c.translate_all.new.bytes ≡ end - front = ap length c.translate_all.ensures.bytes ∙ length-map _ _ ∙ omega (arith, c.requires.order, c.requires.inside) in
    sym (first_of_drop _ end) ∙ ap (λ z. slice_get z 0) (drop-put_mid front (end - front) held c.translate_all.new.bytes end (omega (arith, c.requires.order)) (omega (arith, c.requires.order, c.requires.inside)) long) ∙ first_of_drop held end
