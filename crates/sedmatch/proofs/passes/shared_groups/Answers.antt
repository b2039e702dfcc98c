use Rattle.sedmatch.proofs.Words.{refl, rules}
use Rattle.sedmatch.proofs.RoomLemmas.{desk_still, unused, used}
use Rattle.sedmatch.proofs.passes.shared_groups.Goals as goal

pub returns-clause-desk : goal.returns-clause-desk
returns-clause-desk c =
    let d = c.args.desk.now in
    let p = c.args.subject.prepared.now in
    let fit = c.fit.ensures in
    let new = c.groups_with.new in
    let done = c.groups_with.ensures.room in
    desk_still p d (record d { room = new.room; shared = new.tables }) c.requires.desk.0 refl refl done.space c.groups_with.ensures.none done.tasks (unused p d.reverse_any)
    (used p d.shared.forward_any c.fit.new.self.forward_any new.tables.forward_any fit.room.forward_any (search rules) (search rules)) (used p d.shared.reverse_one c.fit.new.self.reverse_one new.tables.reverse_one fit.room.reverse_one done.shape.reverse_one done.desk.reverse_one)
    (used p d.shared.forward_one c.fit.new.self.forward_one new.tables.forward_one fit.room.forward_one (search rules) (search rules)) (used p d.shared.forward_part c.fit.new.self.forward_part new.tables.forward_part fit.room.forward_part done.shape.forward_part done.desk.forward_part.table)
