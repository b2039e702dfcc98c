-- Which input files count as missed.
use Rattle.std.proofs.Common.{◌≡◌, true, false, [], ◌∷◌, Some, None, length, ap, arith, length-append, refl}
use Rattle.sedfiles.specs.Opening.{NotesMissed}

-- The next of the files can't be opened: it is noted, and no byte comes of it.
missed_file_noted : NotesMissed (Some (None ∷ [])) (Some []) (false ∷ []) (false ∷ true ∷ [])
missed_file_noted = (None ∷ [], [], refl, refl, refl, tt)

-- After it the one that follows is opened, and isn't missed.
next_file_after_it : NotesMissed (Some (None ∷ Some (97 ∷ []) ∷ [])) (Some []) [] (true ∷ false ∷ [])
next_file_after_it = (None ∷ Some (97 ∷ []) ∷ [], [], refl, refl, refl, (refl, tt))

-- A file that the run doesn't reach isn't opened.
file_not_reached : NotesMissed (Some (None ∷ [])) (Some (None ∷ [])) (false ∷ []) (false ∷ [])
file_not_reached = ([], None ∷ [], refl, refl, refl, tt)

-- So it doesn't count as missed.
file_not_noted : NotesMissed (Some (None ∷ [])) (Some (None ∷ [])) (false ∷ []) (false ∷ true ∷ []) → ⊥
file_not_noted ([], rest, are, left, noted, last) = absurd cc
file_not_noted (file ∷ first, rest, are, left, noted, last) =
    let rest_is : None ∷ [] ≡ rest = cc in
    absurd (omega (arith, ap length are, length-append first rest, ap length rest_is))
