use Rattle.std.proofs.Common.{◌≡◌, ◌≤◌, ◌+◌, ◌-◌, ap, ◌∙◌, arith, take, drop, length, length-append, length-drop, length-take}
use Rattle.std.proofs.lemmas.List.{drop_all}
use Rattle.sedspace.proofs.MemoryLemmas.{read_front}
use Rattle.sedfiles.specs.MemoryFiles.{all_of}
use Rattle.sedfiles.proofs.memory_inputs.MemoryInputsInputs.read.Goals as goal

pub returns-clause-bytes : goal.returns-clause-bytes
returns-clause-bytes c =
    let s = c.self.inside in
    let n = c.min-count.result in
    let all = all_of s.files.items s.standard.items s.current in
    let whole : c.all_of-bytes.result.now ≡ all = c.all_of-bytes.ensures ∙ ap (λ z. all_of z c.as_slice-2.result.now s.current) c.as_slice.ensures.value ∙ ap (λ z. all_of s.files.items z s.current) c.as_slice-2.ensures.value in
    let size : s.place + n - s.place ≡ n = omega arith in
    let placed : c.copy_from_slice.new.self ≡ take n (drop s.place all) = c.copy_from_slice.ensures.after ∙ ap (λ z. take z (drop s.place c.all_of-bytes.result.now)) size ∙ ap (λ z. take n (drop s.place z)) whole in
    let within : n ≤ length all - s.place = omega (arith, c.min-count.ensures, ap length whole) in
    let len : length c.copy_from_slice.new.self ≡ n = omega (arith, ap length placed, length-take n (drop s.place all), length-drop s.place all) in (
      rw (← c.self.view_is) (read_front all c.copy_from_slice.new.self _ s.place n placed len),
      λ none some.
          let past : length all ≤ s.place + n = omega (arith, c.min-count.ensures, ap length whole, none, some, len, length-append c.copy_from_slice.new.self (drop n c.args.buf.now), length-drop n c.args.buf.now) in
          drop_all (s.place + n) all past,
    )
