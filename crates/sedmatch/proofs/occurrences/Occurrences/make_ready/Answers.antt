use Rattle.sedmatch.proofs.Words.{◌≡◌, ◌∙◌, None, Some, ap, true, true≢false, false, arith, inl, inr, refl, sym, slice_get-get_or}
use Rattle.sedmatch.proofs.OccurrenceLemmas.{still_ready}
use Rattle.sedmatch.proofs.RoomLemmas.{unused}
use Rattle.sedmatch.proofs.occurrences.Occurrences.make_ready.Goals as goal

pub returns-in-Some-Some-clause-ready : goal.returns-in-Some-Some-clause-ready
returns-in-Some-Some-clause-ready c =
    let o = c.args.self.now in
    let begun = c.begin_text.ensures in
    let at = rw c.deref.ensures.value at c.in-Some-Some.ensures.lookup.3 in
    let there = slice_get-get_or o.own.items o.number None at.0 ∙ ap (λ z. Some z) (sym (at.1 None) ∙ c.in-Some-Some.field-0-is) in
    still_ready c.args.prepared.now c.args.text.now o (record o { seeking = c.begin_text.new.seeking; by_own = true; is_fresh = false }) refl begun.space
    (unused c.args.prepared.now o.shared) (λ x u is. inl is) c.requires.room (record { own = λ h. (c.in-Some-Some.own, there, begun.serves); shared = λ h. absurd (true≢false h) })

pub returns-in_default-clause-ready : goal.returns-in_default-clause-ready
returns-in_default-clause-ready c =
    let o = c.args.self.now in
    let begun = c.begin_text-in_default.ensures in
    let is : c.in_default.self ≡ record o { is_fresh = false } = grind (arith, c.in_default.branch) in
    rw is (still_ready c.args.prepared.now c.args.text.now o (record o { seeking = c.begin_text-in_default.new.seeking; shared = c.fit.new.self; by_own = false; is_fresh = false }) refl
    (rw is at begun.space) (rw is at c.fit.ensures.room, inr begun.serves.kept.region.table) (λ x u is. inl is) c.requires.room (record { own = λ h. absurd (true≢false (sym h)); shared = λ h. begun.serves }))
