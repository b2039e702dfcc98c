-- `:a;$!{N;ba;};s/\n/,/g`.
use Rattle.std.proofs.Common.{◌≡◌, ◌⊎◌, inl, inr, ℕ, suc, zero, ◌+◌, ◌-◌, ◌<◌, List, [], ◌∷◌, ◌++◌, length, length-append, map, take, Bool, true, false, ◌&&◌, ◌||◌, eqb, Option, None, Some, refl, sym, ap, ap₂, subst, ◌∙◌, append_assoc, append-nil, arith}
use Rattle.std.specs.Prelude.{nat_eq, slice_range, if◌then◌else◌}
use Rattle.std.specs.List.{list_any, join_with_byte}
use Rattle.std.proofs.lemmas.List.{map-append}
use Rattle.std.proofs.lemmas.Bool.Decides.{nat_tests}
use Rattle.std.proofs.Math.Seq.{drop-append_seam, take-append_seam}
use Rattle.sedspace.specs.Lines.{is_newline}
use Rattle.sedscript.specs.declared.types.Action.TheVariants.{Block, Branch, Plain, Substitute}
use Rattle.sedscript.specs.declared.types.BranchUse.TheVariants.{Always}
use Rattle.sedscript.specs.declared.types.Simple.TheVariants.{AppendNext}
use Rattle.sedscript.specs.declared.types.Address.TheVariants.{Last}
use Rattle.sedscript.specs.declared.substitution.Piece.{Piece}
use Rattle.sedscript.specs.declared.substitution.Piece.TheVariants.{Literal}
use Rattle.sedengine.specs.State.{MachineState, Setting}
use Rattle.sedengine.specs.Substitute.{Occurrence, each_occurrence, occurrences_from, replaced_from, to_replace}
use Rattle.sedengine.specs.SubstituteParts.{next_occurrence}
use Rattle.sedengine.specs.Select.{selects}
use Rattle.sedengine.specs.Move.{next_move, after, written, newline, line_to}
use Rattle.sededit.specs.Editing.{IsOutput}
use Rattle.scripts.proofs.Cycles.{Goes, goes_one, ends_on, between, within, begins_line, ends_line, ends_there}
use Rattle.examples.proofs.ScriptWords.{always, at, unless}
use Rattle.scripts.proofs.LineLaws.{NoneBroken}
use Rattle.scripts.proofs.Finding.{seeks, replacing, with_replaced}
use Rattle.std.specs.Option.{option_map_or}

-- a comma for a newline
abbrev pub comma : ℕ → ℕ
comma b = if nat_eq b 10 then 44 else b

abbrev pub commas : List Piece
commas = Literal 44 ∷ []

-- what is found from a place on, from where these bytes are left: the first newline among them
abbrev pub IsNextNewline : Option Occurrence → ℕ → List ℕ → Type 0
IsNextNewline found place left =
    ((list_any is_newline left ≡ false) × (found ≡ None)) ⊎
    ((before : List ℕ) × (behind : List ℕ) × (m : Occurrence) × (left ≡ before ++ 10 ∷ behind) × (list_any is_newline before ≡ false) × (found ≡ Some m)
    × (m.start ≡ place + length before) × (m.end ≡ place + length before + 1))

abbrev pub SeeksNewlines : (ℕ → List ℕ → ℕ → Option Occurrence) → Type 0
SeeksNewlines search = (passed left : List ℕ) → IsNextNewline (search 0 (passed ++ left) (length passed)) (length passed) left

no_comma : (bytes : List ℕ) → list_any is_newline bytes ≡ false → map comma bytes ≡ bytes
no_comma [] e = refl
no_comma (b ∷ bs) e = by_test (is_newline b) refl e (no_comma bs)
  where
    by_test : (t : Bool) → is_newline b ≡ t → (t || list_any is_newline bs) ≡ false → (list_any is_newline bs ≡ false → map comma bs ≡ bs) → map comma (b ∷ bs) ≡ b ∷ bs
    by_test true is none on = absurd cc
    by_test false is none on = rw is (ap (λ (x : List ℕ). b ∷ x) (on none))

-- where the last match ended, or none was before
abbrev EndedAt : Option ℕ → ℕ → Type 0
EndedAt last place = (last ≡ Some place) ⊎ ((last ≡ None) × (place ≡ 0))

and_false : (a b : Bool) → b ≡ false → (a && b) ≡ false
and_false true b e = e
and_false false b e = refl

module _ (search : ℕ → List ℕ → ℕ → Option Occurrence) (seeks_them : SeeksNewlines search) where
  next_none : (w : List ℕ) (place : ℕ) (last : Option ℕ) → EndedAt last place → search 0 w place ≡ None → next_occurrence (search 0 w) (length w) last ≡ None
  next_none w place last (inl e) h = rw (e, h) refl
  next_none w place last (inr e) h = rw e.0 (ap (search 0 w) (sym e.1) ∙ h)

  next_some : (w : List ℕ) (place : ℕ) (last : Option ℕ) (m : Occurrence) → EndedAt last place → search 0 w place ≡ Some m → place < m.end → next_occurrence (search 0 w) (length w) last ≡ Some m
  next_some w place last m (inl e) h less =
      let other : eqb m.end place ≡ false = grind (arith, nat_tests) in rw (e, h, and_false (eqb m.start place) (eqb m.end place) other) refl
  next_some w place last m (inr e) h less = rw e.0 (ap (search 0 w) (sym e.1) ∙ h)

  -- from a place on, commas stand for the newlines
  replaced_there : (most : ℕ) (passed left : List ℕ) (last : Option ℕ) → length left < most → EndedAt last (length passed) →
      replaced_from (passed ++ left) commas (length passed) (occurrences_from (search 0 (passed ++ left)) (length (passed ++ left)) most last) ≡ map comma left
  unfolding occurrences_from
  replaced_there zero passed left last short at = absurd (omega arith)
  replaced_there (suc most) passed left last short at = elim (seeks_them passed left) [
    | inl h ↦
        let none = next_none (passed ++ left) (length passed) last at h.1 in
        ap (λ (o : Option Occurrence). replaced_from (passed ++ left) commas (length passed) (option_map_or (λ (m : Occurrence). m ∷ occurrences_from (search 0 (passed ++ left)) (length (passed ++ left)) most (Some m.end)) o [])) none
        ∙ drop-append_seam passed left ∙ sym (no_comma left h.0)
    | inr h ↦
        let before : List ℕ = h.0 in
        let behind : List ℕ = h.1 in
        let m : Occurrence = h.2 in
        let less : length passed < m.end = omega (arith, h.7) in
        let some = next_some (passed ++ left) (length passed) last m at h.5 less in
        let to : List ℕ = passed ++ (before ++ 10 ∷ []) in
        let all : passed ++ left ≡ to ++ behind = ap (λ bs. passed ++ bs) (h.3 ∙ sym (append_assoc before (10 ∷ []) behind)) ∙ sym (append_assoc passed (before ++ 10 ∷ []) behind) in
        let end : m.end ≡ length to = omega (arith, h.7, length-append passed (before ++ 10 ∷ []), length-append before (10 ∷ [])) in
        let fewer : length behind < most = omega (arith, short, ap length h.3, length-append before (10 ∷ behind)) in
        let rest = replaced_there most to behind (Some (length to)) fewer (inl refl) in
        let tail : replaced_from (passed ++ left) commas m.end (occurrences_from (search 0 (passed ++ left)) (length (passed ++ left)) most (Some m.end)) ≡ map comma behind = rw (all, end) rest in
        let count : m.start - length passed ≡ length before = omega (arith, h.6) in
        let front : slice_range (passed ++ left) (length passed) m.start ≡ before = ap₂ (λ k bs. take k bs) count (drop-append_seam passed left ∙ h.3) ∙ take-append_seam before (10 ∷ behind) in
        ap (λ (o : Option Occurrence). replaced_from (passed ++ left) commas (length passed) (option_map_or (λ (m : Occurrence). m ∷ occurrences_from (search 0 (passed ++ left)) (length (passed ++ left)) most (Some m.end)) o [])) some
        ∙ ap₂ (λ (x y : List ℕ). (x ++ (44 ∷ [])) ++ y) front tail ∙ append_assoc before (44 ∷ []) (map comma behind)
        ∙ sym (ap (map comma) h.3 ∙ map-append comma before (10 ∷ behind) ∙ ap (λ (x : List ℕ). x ++ (44 ∷ map comma behind)) (no_comma before h.4))
  ]

  pub commas_are : (w : List ℕ) → with_replaced (λ k w. false) search (λ k. []) 1 true commas w ≡ map comma w
  commas_are w = replaced_there (length w + 1) [] w None (omega arith) (inr (refl, refl))

  module _ (finds : ℕ → List ℕ → Bool) (files : ℕ → List ℕ) where
    abbrev pub joins_all : Setting
    joins_all = seeks finds search files false (unless (at Last (Block 3)) ∷ always (Plain AppendNext) ∷ always (Branch Always 0) ∷ always (Substitute 0) ∷ []) (replacing 1 true commas ∷ []) []

    abbrev loop_at : List (List ℕ) → ℕ → List ℕ → ℕ → ℕ → MachineState
    loop_at lines number pattern k turns = within lines number pattern [] false (false ∷ false ∷ false ∷ false ∷ []) None k turns

    loops : (number : ℕ) (pattern next : List ℕ) (rest : List (List ℕ)) (turns : ℕ) →
        Goes joins_all (loop_at (next ∷ rest) number pattern 0 turns) (loop_at rest (number + 1) (pattern ++ newline ∷ next) 0 (turns + 1 + 1 + 1)) []
    unfolding next_move after written selects
    loops number pattern next rest turns = record { moves = 5; is = refl; wrote = refl }

    leaves_loop : (number : ℕ) (pattern : List ℕ) (turns : ℕ) → Goes joins_all (loop_at [] number pattern 0 turns) (loop_at [] number pattern 3 (turns + 1)) []
    unfolding next_move selects
    leaves_loop number pattern turns = goes_one refl

    any_replaced : List Occurrence → Bool
    any_replaced [] = false
    any_replaced (m ∷ ms) = true

    replaces_all : (number : ℕ) (pattern : List ℕ) (turns : ℕ) (ms : List Occurrence) → to_replace 1 true (each_occurrence (search 0 pattern) (length pattern)) ≡ ms →
        Goes joins_all (loop_at [] number pattern 3 turns)
        (within [] number (replaced_from pattern commas 0 ms) [] (any_replaced ms) (false ∷ false ∷ false ∷ false ∷ []) (Some 0) 4 (turns + 1)) []
    unfolding next_move selects any_replaced
    replaces_all number pattern turns [] e = goes_one (rw e refl)
    replaces_all number pattern turns (m ∷ ms) e = goes_one (rw e refl)

    loop_ends : (number : ℕ) (pattern : List ℕ) (turns : ℕ) → IsOutput joins_all (loop_at [] number pattern 0 turns) (line_to 0 (map comma pattern))
    loop_ends number pattern turns =
        let ms : List Occurrence = to_replace 1 true (each_occurrence (search 0 pattern) (length pattern)) in
        let r : Bool = any_replaced ms in
        let four : List Bool = false ∷ false ∷ false ∷ false ∷ [] in
        subst (IsOutput joins_all (loop_at [] number pattern 0 turns)) (append-nil (line_to 0 (replaced_from pattern commas 0 ms)) ∙ ap (line_to 0) (commas_are pattern))
        (ends_on (leaves_loop number pattern turns) (ends_on (replaces_all number pattern (turns + 1) ms refl)
        (ends_on (ends_line joins_all [] number (replaced_from pattern commas 0 ms) [] r four (Some 0) 4 (turns + 1 + 1) refl) (ends_there joins_all number [] r four (Some 0) (turns + 1 + 1)))))

    -- lines, each with a newline before it
    abbrev behind_newlines : List (List ℕ) → List ℕ
    behind_newlines [] = []
    behind_newlines (line ∷ rest) = newline ∷ (line ++ behind_newlines rest)

    joins_loop : (rest : List (List ℕ)) (number : ℕ) (pattern : List ℕ) (turns : ℕ) → IsOutput joins_all (loop_at rest number pattern 0 turns) (line_to 0 (map comma (pattern ++ behind_newlines rest)))
    joins_loop [] number pattern turns = subst (λ (w : List ℕ). IsOutput joins_all (loop_at [] number pattern 0 turns) (line_to 0 (map comma w))) (sym (append-nil pattern)) (loop_ends number pattern turns)
    joins_loop (next ∷ rest) number pattern turns =
        subst (λ (w : List ℕ). IsOutput joins_all (loop_at (next ∷ rest) number pattern 0 turns) (line_to 0 (map comma w))) (append_assoc pattern (newline ∷ next) (behind_newlines rest))
        (ends_on (loops number pattern next rest turns) (joins_loop rest (number + 1) (pattern ++ newline ∷ next) (turns + 1 + 1 + 1)))

    joined_with : (line : List ℕ) (rest : List (List ℕ)) → NoneBroken (line ∷ rest) → map comma (line ++ behind_newlines rest) ≡ join_with_byte 44 (line ∷ rest)
    joined_with line [] none = ap (map comma) (append-nil line) ∙ no_comma line none.0
    joined_with line (next ∷ rest) none =
        map-append comma line (newline ∷ (next ++ behind_newlines rest)) ∙ ap₂ (λ (x y : List ℕ). x ++ (44 ∷ y)) (no_comma line none.0) (joined_with next rest none.1)

    joins_start : (line : List ℕ) (rest : List (List ℕ)) → Goes joins_all (between (line ∷ rest) 0 [] false (false ∷ false ∷ false ∷ false ∷ []) None 0) (loop_at rest 1 line 0 1) []
    joins_start line rest = begins_line joins_all line rest 0 [] false (false ∷ false ∷ false ∷ false ∷ []) None 0

    pub joins_run : (line : List ℕ) (rest : List (List ℕ)) → NoneBroken (line ∷ rest) →
        IsOutput joins_all (between (line ∷ rest) 0 [] false (false ∷ false ∷ false ∷ false ∷ []) None 0) (line_to 0 (join_with_byte 44 (line ∷ rest)))
    joins_run line rest none =
        subst (λ (w : List ℕ). IsOutput joins_all (between (line ∷ rest) 0 [] false (false ∷ false ∷ false ∷ false ∷ []) None 0) (line_to 0 w)) (joined_with line rest none)
        (ends_on (joins_start line rest) (joins_loop rest 1 line 1))
