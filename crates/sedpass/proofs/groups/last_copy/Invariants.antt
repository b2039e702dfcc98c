use Rattle.sedpass.proofs.Words.{◌≡◌, ◌⊎◌, ◌+◌, ◌-◌, ◌*◌, ◌<◌, ℕ, length, Ascending, LastCopy, TakesAtLeast, CostsWithin, HasSpan, CopiesLead, owed_region, EndsRegion, KeepsGroupDesk, nodes_in, subject_text}
use Rattle.sedpass.proofs.groups.last_copy.Given as goal

abbrev pub invariant-copies : goal.invariant-copies
invariant-copies l = record {
  desk : KeepsGroupDesk l.subject l.initial.tables l.tables l.initial.kept l.kept;
  ends : EndsRegion l.subject l.kept.region l.here;
  order : Ascending l.here.start l.end l.here.stop;
  rest : CopiesLead (HasSpan (nodes_in l.subject) (subject_text l.subject) l.fn.a.index) l.here.stop l.end;
  walk : (c : ℕ) → ((l.end < l.here.stop) × LastCopy (HasSpan (nodes_in l.subject) (subject_text l.subject) l.fn.a.index) l.here.stop l.end c) ⊎ ((l.end ≡ l.here.stop) × (c ≡ l.copy)) →
      LastCopy (HasSpan (nodes_in l.subject) (subject_text l.subject) l.fn.a.index) l.here.stop l.here.start c;
  cost : CostsWithin l.initial.steps l.steps (owed_region (length (nodes_in l.subject)) l.initial.kept.region l.here.start + 72 * length (nodes_in l.subject) * (l.here.stop - l.here.start))
      (owed_region (length (nodes_in l.subject)) l.kept.region l.end + 72 * length (nodes_in l.subject) * (l.here.stop - l.end));
  counts : TakesAtLeast l.initial.steps l.steps (l.end - l.here.start);
}

abbrev pub decreases-copies : goal.decreases-copies
decreases-copies l = l.here.stop - l.end
