-- Room to search, after other searches in it.
use Rattle.sedmatch.proofs.Words.{rules, ◌≡◌, ℕ, ◌≤◌, ◌⊎◌, ◌∙◌, List, [], arith, inl, inr, refl, vec_capacity, WrittenExpression, SameSpace, IsRoomy, IsTable, SameRoom, SameShape, Table, space_again, roomy_still, RoomFor, IsDesk, KeepsDesk, Occurrences, Desk}

-- room for longer texts is room for shorter ones
pub room_within : (text more : ℕ) (es : List WrittenExpression) (o : Occurrences) → text ≤ more → RoomFor more es o → RoomFor text es o
room_within text more es o short h = record { each = λ x e at. grind (arith, h.each x e at) }

-- a table has as much room as before: it is the same, or was used for the expression
abbrev pub IsUsed : WrittenExpression → Table → Table → Type 0
IsUsed p t u = SameRoom t u × ((u ≡ t) ⊎ IsTable p u)

pub unused : (p : WrittenExpression) (t : Table) → IsUsed p t t
unused p t = ((refl, refl, refl, refl), inl refl)

-- it was fitted, and served
pub used : (p : WrittenExpression) (t fitted after : Table) → SameRoom t fitted → SameShape fitted after → IsTable p after → IsUsed p t after
used p t fitted after fit shape table = ((shape.0 ∙ fit.0, shape.1 ∙ fit.1, shape.3 ∙ fit.2, shape.4 ∙ fit.3), inr table)

pub used_so : (p : WrittenExpression) (t fitted after : Table) → SameRoom t fitted → SameRoom fitted after → IsTable p after → IsUsed p t after
used_so p t fitted after fit room table = ((room.0 ∙ fit.0, room.1 ∙ fit.1, room.2 ∙ fit.2, room.3 ∙ fit.3), inr table)

pub roomy : (m : ℕ) (p : WrittenExpression) (t u : Table) → IsRoomy m t → IsUsed p t u → IsRoomy m u
roomy m p t u has is = grind (arith, roomy_still)

pub desk_still : (p : WrittenExpression) (a b : Desk) → IsDesk a → b.max_text ≡ a.max_text → b.max_nodes ≡ a.max_nodes → SameSpace a.room.kept b.room.kept → b.room.tasks.items ≡ [] → vec_capacity a.room.tasks ≤ vec_capacity b.room.tasks →
    IsUsed p a.reverse_any b.reverse_any → IsUsed p a.shared.forward_any b.shared.forward_any → IsUsed p a.shared.reverse_one b.shared.reverse_one → IsUsed p a.shared.forward_one b.shared.forward_one → IsUsed p a.shared.forward_part b.shared.forward_part →
    KeepsDesk a b
desk_still p a b is text nodes space none tasks any one two three four =
    rw (text, nodes) (search (rules, is, any, one, two, three, four, roomy a.max_nodes p, rw (← two.0.1) at (space_again a.max_text _ a.max_nodes a.room b.room is.space space none tasks), space.edges))
