use Rattle.std.proofs.Common.{rules, ◌≡◌, ◌≤◌, ◌+◌, ◌-◌, ap, ◌∙◌, arith, take, drop, length, length-append, length-drop, length-take}
use Rattle.std.proofs.lemmas.List.{drop_all}
use Rattle.sedspace.proofs.MemoryLemmas.{read_front}
use Rattle.sedspace.proofs.memory.source.MemorySourceByteSource.read.Goals as goal

pub returns-clause-bytes : goal.returns-clause-bytes
returns-clause-bytes c =
    let s = c.self.inside in
    let n = c.min-count.result in
    let end = c.next_end.ensures in
    let size : s.taken + n - s.taken ≡ n = omega arith in
    let placed : c.copy_from_slice.new.self ≡ take n (drop s.taken s.bytes.items) = c.copy_from_slice.ensures.after ∙ ap (λ z. take z (drop s.taken c.deref.result.now)) size ∙ ap (λ z. take n (drop s.taken z)) c.deref.ensures.value in
    let len : length c.copy_from_slice.new.self ≡ n = omega (arith, ap length placed, length-take n (drop s.taken s.bytes.items), length-drop s.taken s.bytes.items, c.min-count.ensures, end.within) in (
      rw (← c.self.view_is) (read_front s.bytes.items c.copy_from_slice.new.self _ s.taken n placed len),
      λ none some.
          let past : length s.bytes.items ≤ s.taken + n = omega (arith, end.past, c.min-count.ensures, none, some, len, length-append c.copy_from_slice.new.self (drop n c.args.buf.now), length-drop n c.args.buf.now) in
          drop_all (s.taken + n) s.bytes.items past,
    )

pub returns-then-eq-clause-failed : goal.returns-then-eq-clause-failed
returns-then-eq-clause-failed c = search rules
