use Rattle.sedpass.proofs.Words.{Enters-from, arith, false, nodes_of, refl, seen-arena, sym, true≢false}
use Rattle.sedpass.proofs.FactLemmas.{inside_seen, null_shows}
use Rattle.sedpass.proofs.FollowLemmas.{row_of_place}
use Rattle.sedpass.proofs.TableLemmas.{adds_rows, keeps_made, names_map, table_rows}
use Rattle.sedpass.proofs.table.Table.make_first.Goals as goal

pub intern-requires-clause-table : goal.intern-requires-clause-table
intern-requires-clause-table c = table_rows _ _ _ (keeps_made _ _ _ _ c.forget.ensures.keeps c.descend.ensures.keeps) c.make_room.ensures.table c.make_room.ensures.room

pub returns-clause-codes : goal.returns-clause-codes
returns-clause-codes c =
    let act = c.args.act in
    let e = act.prepared.now in
    let nodes = nodes_of act.way e in
    let codes = c.intern.ensures.codes in
    let row = c.descend.ensures.alone refl (λ n. false) c.forget.ensures.ended in
    record {
      table = codes.table;
      adds = c.make_room.ensures.adds c.intern.new.self (adds_rows e c.make_room.new.self c.descend.new.rows (keeps_made _ _ _ _ c.forget.ensures.keeps c.descend.ensures.keeps) c.intern.new.self codes.adds);
      names = names_map _ _ _ _ _ (λ a has. (
        has.0,
        λ w s there some. rw (has.1, has.2)
            (row_of_place _ _ _ _ _ (seen-arena act.way.mirrored e codes.table.expr.arena) (inside_seen act.way.mirrored e act.root c.requires.root) _ _ _ _ (null_shows act.way.mirrored e act.kind w s.first there) ((λ h. (omega arith, some)), (λ h. refl))
            (λ n members in_tree is. (λ h. absurd (true≢false (sym h)), λ took. absurd (omega (arith, took.1, Enters-from _ w _ s n took.0 took.2)))) _ _ row),
      )) codes.names;
    }
