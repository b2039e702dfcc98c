use Rattle.std.proofs.Common.{◌≡◌, ◌+◌, ◌++◌, ◌∷◌, Some, None, rules, arith, [], length-take, ap, sym, ◌∙◌, take, drop, position}
use Rattle.std.proofs.lemmas.List.{drop-drop, drop_all}
use Rattle.sedspace.specs.Lines.{is_newline}
use Rattle.sedspace.proofs.LineLemmas.{newline_none, newline_at}
use Rattle.sedspace.proofs.StreamFacts.{ahead_within, appended_fits}
use Rattle.sedspace.proofs.lines.Lines.move_ahead.Goals as goal

pub returns-in_ok-append_clear-in-Some-clause-line : goal.returns-in_ok-append_clear-in-Some-clause-line
returns-in_ok-append_clear-in-Some-clause-line g c = λ _.
    let ahead = c.args.self.now.ahead in
    let s = c.self.inside in
    let found : Some c.in-Some.at ≡ position is_newline ahead = rw c.ahead-ahead.ensures.value at c.in-Some.ensures in
    let n = newline_at ahead c.in-Some.at found in
    let rest : drop (c.in-Some.at + 1) ahead ≡ drop (s.front + (c.in-Some.at + 1)) (take s.filled s.buffer.items) =
    ap (λ z. drop (c.in-Some.at + 1) z) (ap (λ z. z.ahead) (sym c.self.view_is)) ∙ drop-drop (c.in-Some.at + 1) s.front (take s.filled s.buffer.items) in
    (take c.in-Some.at ahead, n.none_before, n.parts ∙ ap (λ z. take c.in-Some.at ahead ++ 10 ∷ z) rest, search rules)

pub returns-in_ok-append-in-None-clause-all : goal.returns-in_ok-append-in-None-clause-all
returns-in_ok-append-in-None-clause-all g c = λ _.
    let ahead = c.args.self.now.ahead in
    let found : None ≡ position is_newline ahead = rw c.ahead-ahead.ensures.value at c.in-None.ensures in
    let filled = c.self.inside.filled in
    let read = take filled c.self.inside.buffer.items in
    let empty : drop filled read ≡ [] = drop_all filled read (omega (arith, length-take filled c.self.inside.buffer.items)) in
    (newline_none ahead found, empty, search rules)

pub returns-in_ok-append_clear-in-Some-clause-bound : goal.returns-in_ok-append_clear-in-Some-clause-bound
returns-in_ok-append_clear-in-Some-clause-bound g c =
    let s = c.self.inside in
    ahead_within (s.front + (c.in-Some.at + 1)) s.filled _ s.buffer.items (omega arith)

pub returns-in_ok-append-in-None-clause-bound : goal.returns-in_ok-append-in-None-clause-bound
returns-in_ok-append-in-None-clause-bound g c =
    let s = c.self.inside in
    ahead_within s.filled s.filled _ s.buffer.items (omega arith)

pub returns-in_ok-append_clear-in-Some-clause-fits : goal.returns-in_ok-append_clear-in-Some-clause-fits
returns-in_ok-append_clear-in-Some-clause-fits g c =
    let e = c.in_ok-append_clear-in-Some.ensures in
    appended_fits c.args.space.now c.append_clear.new.self _ c.in-Some.at e.ok (omega (arith, length-take c.in-Some.at c.ahead-ahead.result.now)) e.fits

pub returns-in_ok-append-in-None-clause-fits : goal.returns-in_ok-append-in-None-clause-fits
returns-in_ok-append-in-None-clause-fits g c =
    let e = c.in_ok-append-in-None.ensures in
    appended_fits c.args.space.now c.append.new.self _ _ e.ok (omega arith) e.fits

pub append_clear-requires-clause-clear : goal.append_clear-requires-clause-clear
append_clear-requires-clause-clear g c =
    let ahead = c.ahead-ahead.result.now in
    (newline_at ahead c.in-Some.at c.in-Some.ensures).none_before
