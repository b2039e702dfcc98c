use Rattle.sedpass.proofs.Words.{ℕ, ◌+◌, ◌≡◌, ◌-◌, ◌≤◌, false, IsOffset, PassIs}
use Rattle.sedpass.proofs.table.Table.follow.Given as goal

abbrev pub invariant-loop-at : goal.invariant-loop-at
invariant-loop-at l = record {
  code : l.code ≡ l.at.offset + 536870912;
  offset : IsOffset l.self l.at.offset;
  after : l.fn.from.place ≤ l.at.place;
  within : l.at.place ≤ l.to;
  over : l.at.over ≡ false;
  passes : (start : ℕ) → PassIs l.prepared l.self l.text start l.fn.from → PassIs l.prepared l.self l.text start l.at;
  looks : l.looks ≡ l.at.place - l.fn.from.place;
}

abbrev pub decreases-loop-at : goal.decreases-loop-at
decreases-loop-at l = l.to - l.at.place
