use Rattle.std.proofs.Common.{ap, inl, inr, refl}
use Rattle.sededit.proofs.ProgramLemmas.{not_refused, one_of_four}
use Rattle.sededit.proofs.ReadingLemmas.{OnlyReads-none}
use Rattle.sededit.proofs.program.command.Goals as goal

pub returns-in-Ok-clause-status : goal.returns-in-Ok-clause-status
returns-in-Ok-clause-status g c = elim c.run_line.ensures [
  | inl refused ↦ inr (inl refused.says_refused)
  | inr ran ↦ one_of_four _ ran.2.1.is_one
]

pub returns-in-Ok-clause-means : goal.returns-in-Ok-clause-means
returns-in-Ok-clause-means g c = λ runs. elim c.run_line.ensures [
  | inl refused ↦ absurd (runs refused.says_refused)
  | inr ran ↦ inl (c.in-Ok.ensures.sound, (c.in-Ok.line, c.in-Ok.ensures.line, (ran.0, ran.1, (ran.2.0, ran.2.1.meaning))))
]

pub returns-in-Ok-clause-no_sink : goal.returns-in-Ok-clause-no_sink
returns-in-Ok-clause-no_sink g c = λ goes_on k. elim c.run_line.ensures [
  | inl refused ↦ refused.failures k
  | inr ran ↦ ran.2.1.no_sink goes_on k
]

pub returns-in-Ok-clause-refused : goal.returns-in-Ok-clause-refused
returns-in-Ok-clause-refused g c = λ is k. elim c.run_line.ensures [
  | inl refused ↦ refused.contents k
  | inr ran ↦ absurd (not_refused _ ran.2.1.is_one is)
]

pub returns-in-Ok-clause-unread : goal.returns-in-Ok-clause-unread
returns-in-Ok-clause-unread g c = λ is. elim c.run_line.ensures [
  | inl refused ↦ refused.unread
  | inr ran ↦ absurd (not_refused _ ran.2.1.is_one is)
]

pub returns-in-Ok-clause-created : goal.returns-in-Ok-clause-created
returns-in-Ok-clause-created g c = λ is. elim c.run_line.ensures [
  | inl refused ↦ elim refused.created [
    | inl none ↦ inl none
    | inr some ↦ inr (c.in-Ok.ensures.sound, (c.in-Ok.line, c.in-Ok.ensures.line, some))
  ]
  | inr ran ↦ absurd (not_refused _ ran.2.1.is_one is)
]

pub returns-in-Err-NoMemory-clause-status : goal.returns-in-Err-NoMemory-clause-status
returns-in-Err-NoMemory-clause-status g c = inr (inl c.out_of_memory.ensures)

pub returns-in-Err-NoMemory-clause-means : goal.returns-in-Err-NoMemory-clause-means
returns-in-Err-NoMemory-clause-means g c = λ runs. absurd (runs c.out_of_memory.ensures)

pub returns-in-Err-NoMemory-clause-unread : goal.returns-in-Err-NoMemory-clause-unread
returns-in-Err-NoMemory-clause-unread g c = λ _. OnlyReads-none g.I.Inputs.current g.I.Inputs.ahead g.I.Inputs.text g.I.Inputs.refusals g.I.Inputs.failures g.I.Inputs.reference c.args.inputs.now

pub returns-in-Err-NoMemory-clause-created : goal.returns-in-Err-NoMemory-clause-created
returns-in-Err-NoMemory-clause-created g c = λ _. inl refl

pub returns-in-Err-Words-clause-status : goal.returns-in-Err-Words-clause-status
returns-in-Err-Words-clause-status g c = elim c.answer_words.ensures [
  | inl refused ↦ inr (inl refused.0)
  | inr helps ↦ elim helps.1.meaning.either [ inl well ↦ inl well | inr ill ↦ inr (inr (inr ill)) ]
]

pub returns-in-Err-Words-clause-no_sink : goal.returns-in-Err-Words-clause-no_sink
returns-in-Err-Words-clause-no_sink g c = λ goes_on k. elim c.answer_words.ensures [
  | inl refused ↦ ap (λ sinks. g.O.Outputs.failures sinks k) refused.1
  | inr helps ↦ helps.1.no_sink goes_on k
]

pub returns-in-Err-Words-clause-unread : goal.returns-in-Err-Words-clause-unread
returns-in-Err-Words-clause-unread g c = λ _. OnlyReads-none g.I.Inputs.current g.I.Inputs.ahead g.I.Inputs.text g.I.Inputs.refusals g.I.Inputs.failures g.I.Inputs.reference c.args.inputs.now
