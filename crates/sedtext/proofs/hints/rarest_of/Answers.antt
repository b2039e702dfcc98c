use Rattle.sedtext.proofs.hints.rarest_of.Goals as goal

pub loop-offset-preserved : goal.loop-offset-preserved
loop-offset-preserved c nodes e are =
    c.with_fixed.ensures e (c.loop-offset.invariant nodes e are) (λ w i j spans. let h = c.in-Some.ensures nodes e are w i j spans in (h.0, h.1, c.of.ensures h.0 h.2))
