use Rattle.std.proofs.Common.{◌≡◌, ◌≢◌, ◌<◌, ◌+◌, length, arith, ap, subst, ◌∙◌, sym, inl, []}
use Rattle.sedre.specs.declared.syntax.NextToken.TheVariants.{Is}
use Rattle.sedre.specs.declared.syntax.Token.{Token}
use Rattle.sedre.specs.declared.syntax.Token.TheVariants.{Close}
use Rattle.sedre.specs.declared.syntax.NextToken.{NextToken}
use Rattle.sedre.specs.Tokens.{token_at}
use Rattle.sedre.specs.Finished.{IsTokenAfter}
use Rattle.sedre.specs.Tree.{size}
use Rattle.sedre.specs.Stacks.{Nesting, no_nesting, step}
use Rattle.sedre.proofs.Represented.{represents_count}
use Rattle.sedre.proofs.Reading.{reading_start, reading_step, reading_bad, reading_stray, reading_unclosed, reading_whole}
use Rattle.sedre.proofs.Ended.{ok_of, if_err, can_take, finished_reads, finished_no_fault, over_limit, limit_within, no_length, reads_numbered}
use Rattle.sedre.proofs.reader.read_into.Goals as goal

pub tokens-init : goal.tokens-init
tokens-init c = record { within = omega arith; few = omega (arith, (c.requires.empty.1).opened); state = (no_nesting, λ max_nodes r. r, reading_start c.args.kind c.args.folded c.args.delimiter c.args.text.now) }

pub returns-in-Bad-clause-fault : goal.returns-in-Bad-clause-fault
returns-in-Bad-clause-fault c = λ max_nodes r. inl (reading_bad c.args.kind c.args.folded c.args.delimiter c.args.text.now max_nodes c.tokens.invariant.state.2 (sym c.token_at.ensures.item ∙ c.in-Bad.is))

pub returns-then-len-gt0-clause-fault : goal.returns-then-len-gt0-clause-fault
returns-then-len-gt0-clause-fault c =
    let s : Nesting = c.tokens.invariant.state.0 in
    let some : 0 < length s.below = omega (arith, represents_count (c.requires.empty.0 + 1) c.tokens.builder s (c.tokens.invariant.state.1 c.requires.empty.0 c.requires.empty.1)) in
    λ max_nodes r. inl (reading_unclosed c.args.kind c.args.folded c.args.delimiter c.args.text.now max_nodes c.tokens.invariant.state.2 (sym c.token_at.ensures.item ∙ c.in-Ends.is) some)

pub returns-then-is_stray-clause-fault : goal.returns-then-is_stray-clause-fault
returns-then-is_stray-clause-fault c =
    let s : Nesting = c.tokens.invariant.state.0 in
    let h = c.if-is_stray.ensures.stray in
    let none : s.below ≡ [] = no_length s.below (omega (arith, represents_count (c.requires.empty.0 + 1) c.tokens.builder s (c.tokens.invariant.state.1 c.requires.empty.0 c.requires.empty.1), h.1)) in
    λ max_nodes r. inl (reading_stray c.args.kind c.args.folded c.args.delimiter c.args.text.now max_nodes c.tokens.invariant.state.2 (sym c.token_at.ensures.item ∙ c.in-Is.is ∙ ap (λ (i : Token). Is i c.in-Is.next) h.0) none)

pub take-requires-clause-some : goal.take-requires-clause-some
take-requires-clause-some c =
    let s : Nesting = c.tokens.invariant.state.0 in
    let closes : c.in-Is.token ≡ Close → s.below ≢ [] = λ e none. omega (arith, c.if-is_stray.ensures.fine e, represents_count (c.requires.empty.0 + 1) c.tokens.builder s (c.tokens.invariant.state.1 c.requires.empty.0 c.requires.empty.1), ap length none) in
    (c.requires.empty.0 + 1, s, (c.tokens.invariant.state.1 c.requires.empty.0 c.requires.empty.1), can_take c.args.kind c.args.folded c.args.delimiter c.args.text.now c.in-Is.token c.tokens.invariant.state.2 (sym c.token_at.ensures.item ∙ c.in-Is.is) closes)

pub tokens-preserved : goal.tokens-preserved
tokens-preserved c =
    let s : Nesting = c.tokens.invariant.state.0 in
    let closes : c.in-Is.token ≡ Close → s.below ≢ [] = λ e none. omega (arith, c.if-is_stray.ensures.fine e, represents_count (c.requires.empty.0 + 1) c.tokens.builder s (c.tokens.invariant.state.1 c.requires.empty.0 c.requires.empty.1), ap length none) in
    let f : token_at c.args.kind c.args.folded c.args.delimiter c.args.text.now c.tokens.before c.tokens.at ≡ Is c.in-Is.token c.in-Is.next = sym c.token_at.ensures.item ∙ c.in-Is.is in
    let can = can_take c.args.kind c.args.folded c.args.delimiter c.args.text.now c.in-Is.token c.tokens.invariant.state.2 f closes in
    let after : IsTokenAfter c.tokens.at (length c.args.text.now) (Is c.in-Is.token c.in-Is.next) = subst (λ (h : NextToken). IsTokenAfter c.tokens.at (length c.args.text.now) h) c.in-Is.is c.token_at.ensures.after in
    record {
      within = after.1;
      few = omega (arith, after.0, c.in_default.ensures.opened);
      state = (
        step c.in-Is.token s,
        λ max_nodes r. c.in_default.ensures.state (max_nodes + 1) s (c.tokens.invariant.state.1 max_nodes r) can,
        reading_step c.args.kind c.args.folded c.args.delimiter c.args.text.now c.tokens.invariant.state.2 f closes,
      );
    }

pub finish-requires : goal.finish-requires
finish-requires c =
    let s : Nesting = c.tokens.invariant.state.0 in
    let none : s.below ≡ [] = no_length s.below (omega (arith, represents_count (c.requires.empty.0 + 1) c.tokens.builder s (c.tokens.invariant.state.1 c.requires.empty.0 c.requires.empty.1))) in
    (c.requires.empty.0 + 1, s, (c.tokens.invariant.state.1 c.requires.empty.0 c.requires.empty.1), none, reads_numbered c.args.kind c.args.folded c.args.delimiter c.args.text.now (reading_whole c.args.kind c.args.folded c.args.delimiter c.args.text.now c.tokens.invariant.state.2 (sym c.token_at.ensures.item ∙ c.in-Ends.is) none), omega arith)

pub returns-in-Ends-clause-reads : goal.returns-in-Ends-clause-reads
returns-in-Ends-clause-reads c =
    let s : Nesting = c.tokens.invariant.state.0 in
    let none : s.below ≡ [] = no_length s.below (omega (arith, represents_count (c.requires.empty.0 + 1) c.tokens.builder s (c.tokens.invariant.state.1 c.requires.empty.0 c.requires.empty.1))) in
    ok_of c.finish.result c.finish.ensures.ok (λ p. finished_reads c.args.kind c.args.folded c.args.delimiter c.args.text.now s (c.requires.empty.0 + 1) _ c.tokens.invariant.state.2 (sym c.token_at.ensures.item ∙ c.in-Ends.is) none (p (c.requires.empty.0 + 1) s (c.tokens.invariant.state.1 c.requires.empty.0 c.requires.empty.1) none))

pub returns-in-Ends-clause-size : goal.returns-in-Ends-clause-size
returns-in-Ends-clause-size c =
    let s : Nesting = c.tokens.invariant.state.0 in
    let none : s.below ≡ [] = no_length s.below (omega (arith, represents_count (c.requires.empty.0 + 1) c.tokens.builder s (c.tokens.invariant.state.1 c.requires.empty.0 c.requires.empty.1))) in
    ok_of c.finish.result c.finish.ensures.ok (λ p max_nodes r. let d = p (max_nodes + 1) s (c.tokens.invariant.state.1 max_nodes r) none in (d.count ∙ ap size (sym d.tree_is), omega (arith, d.count, d.small)))

pub returns-in-Ends-clause-no_fault : goal.returns-in-Ends-clause-no_fault
returns-in-Ends-clause-no_fault c =
    let s : Nesting = c.tokens.invariant.state.0 in
    let none : s.below ≡ [] = no_length s.below (omega (arith, represents_count (c.requires.empty.0 + 1) c.tokens.builder s (c.tokens.invariant.state.1 c.requires.empty.0 c.requires.empty.1))) in
    ok_of c.finish.result c.finish.ensures.ok (λ p max_nodes r. finished_no_fault c.args.kind c.args.folded c.args.delimiter c.args.text.now s max_nodes _ c.tokens.invariant.state.2 (sym c.token_at.ensures.item ∙ c.in-Ends.is) none (p (max_nodes + 1) s (c.tokens.invariant.state.1 max_nodes r) none))

pub returns-in-Ends-clause-fault : goal.returns-in-Ends-clause-fault
returns-in-Ends-clause-fault c =
    let s : Nesting = c.tokens.invariant.state.0 in
    let none : s.below ≡ [] = no_length s.below (omega (arith, represents_count (c.requires.empty.0 + 1) c.tokens.builder s (c.tokens.invariant.state.1 c.requires.empty.0 c.requires.empty.1))) in
    if_err _ _ c.finish.result (λ f p max_nodes r. over_limit c.args.kind c.args.folded c.args.delimiter c.args.text.now s max_nodes f c.tokens.invariant.state.2 (sym c.token_at.ensures.item ∙ c.in-Ends.is) none (p (max_nodes + 1) s (c.tokens.invariant.state.1 max_nodes r) none)) c.finish.ensures.err

pub returns-in-Ends-clause-within : goal.returns-in-Ends-clause-within
returns-in-Ends-clause-within c =
    let s : Nesting = c.tokens.invariant.state.0 in
    let none : s.below ≡ [] = no_length s.below (omega (arith, represents_count (c.requires.empty.0 + 1) c.tokens.builder s (c.tokens.invariant.state.1 c.requires.empty.0 c.requires.empty.1))) in
    if_err _ _ c.finish.result (λ f p. limit_within s (c.requires.empty.0 + 1) (length c.args.text.now) f (p (c.requires.empty.0 + 1) s (c.tokens.invariant.state.1 c.requires.empty.0 c.requires.empty.1) none)) c.finish.ensures.err
