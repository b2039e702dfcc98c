use Rattle.std.proofs.Common.{◌≡◌, ◌++◌, drop, length, true}
use Rattle.sedscript.specs.Pieces.{PieceGroupsWithin, pieces_in}
use Rattle.sedacts.specs.Substitute.{put_for}
use Rattle.sedacts.specs.SubstituteParts.{GroupsIn, names_group, with_groups}
use Rattle.sedacts.proofs.substitute.put.Given as goal

abbrev pub invariant-loop-part : goal.invariant-loop-part
invariant-loop-part l = record {
  limit : l.build.limit ≡ l.fn.build.limit;
  within : PieceGroupsWithin 9 (pieces_in (drop l.part-index l.parts));
  groups_in : names_group (pieces_in (drop l.part-index l.parts)) ≡ true → GroupsIn (length l.text) l.groups;
  put : l.build.bytes ++ put_for l.text (with_groups l.span l.groups) (pieces_in (drop l.part-index l.parts))
      ≡ l.fn.build.bytes ++ put_for l.text (with_groups l.span l.groups) (pieces_in l.parts);
}
