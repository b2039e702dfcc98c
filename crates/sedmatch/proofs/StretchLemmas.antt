-- Stretches: which chains lead over one, and where one occurs first.
use Rattle.sedmatch.proofs.Words.{◌<◌, add-one, common_steps, ◌≡◌, ℕ, max, ◌+◌, ◌≤◌, ◌↔◌, Bool, List, length, Option, Some, None, sym, arith, ◌⊎◌, ◌∷◌, drop, drop-cons, suc, take, ap, ◌∙◌, cases_lt, WrittenExpression, expression_tree, slice_get_within, IfSome, slice_index_or, FirstFrom, MemberAt, ComesFirst, FirstOf, Follow, StretchSpans, behind_first, AtEnd, Stretch, CopiesLead-forward, repeated_cut, take_all, IsExpr, Node, AreAlternatives, ChainLeads, IsChain, LinkLeads, Link, IsDirect}
use Rattle.sedmatch.specs.declared.direct.DirectForm.TheVariants.{Stretch as StretchForm}

-- a chain and the link before it
pub one_link_more : (links : List Link) (x next : ℕ) (link : Link) (behind stretch : Stretch) → next ≡ x + 1 → next ≤ length links → link ≡ slice_index_or links x link →
    ((nodes : List Node) (w : List ℕ) (i j : ℕ) → StretchSpans stretch stretch.ends w i j ↔ ((k : ℕ) × LinkLeads nodes w link i k × StretchSpans behind behind.ends w k j)) →
    ((nodes : List Node) (w : List ℕ) (i j : ℕ) → ChainLeads nodes w (drop next links) i j ↔ StretchSpans behind behind.ends w i j) →
    (nodes : List Node) (w : List ℕ) (i j : ℕ) → ChainLeads nodes w (drop x links) i j ↔ StretchSpans stretch stretch.ends w i j
one_link_more links x next link behind stretch up inside here is rest nodes w i j =
    let opened : drop x links ≡ link ∷ drop next links = rw (up, add-one) (drop-cons links x link (omega arith) ∙ ap (λ v. v ∷ drop (suc x) links) (sym here)) in
    grind (arith, opened, is nodes w i j, rest nodes w)

-- two alternatives whose chains lead over the stretch together
pub either_direct : (e : WrittenExpression) (links left right : List Link) (s : Stretch) → IsChain e.nodes (expression_tree e) links → length links ≤ 1 → AreAlternatives e.nodes (take 1 links) left right →
    ((nodes : List Node) (w : List ℕ) (i j : ℕ) → (ChainLeads nodes w left i j ⊎ ChainLeads nodes w right i j) ↔ StretchSpans s s.ends w i j) → e.groups ≡ 0 → IsExpr e.nodes e.groups → IsDirect e (StretchForm s)
either_direct e links left right s chain alone ways leads none expr = grind (arith, common_steps, take_all)

-- a byte that is found is in the text
pub first_within : (s : List Bool) (w : List ℕ) (p : ℕ) (r : Option ℕ) → FirstFrom (MemberAt s w) p r → IfSome r (λ k. k + 1 ≤ length w)
first_within s w p r first = grind (arith, slice_get_within)

-- what comes first goes forward
pub first_forward : (first : Option (List Bool)) (i : ℕ) → i ≤ behind_first first i
first_forward first i = grind arith

-- what follows goes forward, and can be cut
pub follow_on : (rest : Option (List Bool)) (w : List ℕ) (i j : ℕ) → Follow rest w i j → i ≤ j
follow_on rest w i j on = grind (arith, CopiesLead-forward)

follow_cut : (rest : Option (List Bool)) (w : List ℕ) (i m j : ℕ) → i ≤ m → m ≤ j → Follow rest w i j → Follow rest w m j
follow_cut None w i m j low high on = omega (arith, low, high, on)
follow_cut (Some members) w i m j low high on = (repeated_cut members w m j i low high on).1

-- at the end of the text: what follows begins at b there, and what comes first is sought from the first place from which it reaches b
pub end_one : (s : Stretch) (w : List ℕ) (p b from start i k : ℕ) → (p ≤ b) × (b ≤ length w) × Follow s.rest w b (length w) × ((h : ℕ) → p ≤ h → h < b → Follow s.rest w h (length w) → ⊥) → ((i : ℕ) → b ≤ behind_first s.first i ↔ start ≤ i) →
    from ≡ max start p → k ≡ length w → FirstFrom (ComesFirst s.first w) from (Some i) → behind_first s.first i ≤ length w → FirstOf (StretchSpans s (Some AtEnd) w) (length w) p (Some (i, k))
end_one s w p b from start i k follow reaches from_is end here inside = grind (arith, follow_cut, first_forward, cases_lt)
