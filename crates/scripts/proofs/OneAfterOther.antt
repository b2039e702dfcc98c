-- Two scripts that only edit their lines, one after the other: what their joint run writes.
use Rattle.std.proofs.Common.{◌≡◌, ◌≢◌, ℕ, ◌+◌, ◌<◌, List, [], ◌∷◌, ◌++◌, Bool, false, Option, None, Some, refl, sym, ap, subst, ◌∙◌, add-zero, arith}
use Rattle.std.specs.Prelude.{slice_get}
use Rattle.sedspace.specs.Lines.{split_lines}
use Rattle.sedengine.specs.State.{begin, do_at, MachineState, Setting}
use Rattle.sedengine.specs.Move.{line_to, to_sink}
use Rattle.sedengine.specs.Ends.{bytes_of_sink}
use Rattle.sedengine.proofs.Gains.{part-same}
use Rattle.sededit.specs.Editing.{IsOutput}
use Rattle.scripts.specs.Edited.{text_of}
use Rattle.scripts.proofs.Ample.{both_ended}
use Rattle.scripts.proofs.Cycles.{Goes, goes_on, ends_on, between, within, printed, begins_line, ends_line, deletes_line, ends_there, line_first}
use Rattle.scripts.proofs.Edits.{Between, Within, Deleted, Leads}
use Rattle.scripts.proofs.EditedLines.{AreAlike, Both, EndsThen, Follows, GoodResult, RangesAgree, cycle, ends_then, keeps_matches, result_at}
use Rattle.scripts.proofs.LineLaws.{NoneBroken, lines_none_broken}
use Rattle.scripts.proofs.Unbroken.{Unbroken, lines_again}

-- a state leads to one between two cycles, and this is written
abbrev Finishes : Setting → ℕ → List (List ℕ) → List Bool → List (ℕ × ℕ) → MachineState → Type 0
Finishes g n ls ra out s = (now : MachineState) × Goes g s now out × Between n ls ra now

begins : (g : Setting) (n : ℕ) (line : List ℕ) (rest : List (List ℕ)) (ra : List Bool) (s : MachineState) → Between n (line ∷ rest) ra s → (now : MachineState) × Goes g s now [] × Within (n + 1) rest ra 0 line now
begins g n line rest ra s at =
    let goes = begins_line g line rest n at.hold at.replaced ra at.used at.turns in
    let now : MachineState = within rest (n + 1) line at.hold false ra at.used 0 (at.turns + 1) in (
      now,
      subst (λ (x : MachineState). Goes g x now []) (sym at.is) goes,
      record { hold = at.hold; replaced = false; used = at.used; turns = at.turns + 1; is = refl },
    )

finishes_deleted : (g : Setting) (n : ℕ) (ls : List (List ℕ)) (ra : List Bool) (s : MachineState) → Deleted n ls ra s → Finishes g n ls ra [] s
finishes_deleted g n ls ra s at =
    let goes = deletes_line g ls n at.hold at.replaced ra at.used at.turns in
    let now : MachineState = between ls n at.hold at.replaced ra at.used at.turns in (
      now,
      subst (λ (x : MachineState). Goes g x now []) (sym at.is) goes,
      record { hold = at.hold; replaced = at.replaced; used = at.used; turns = at.turns; is = refl },
    )

finishes_kept : (g : Setting) (n : ℕ) (ls : List (List ℕ)) (ra : List Bool) (k : ℕ) (w : List ℕ) (s : MachineState) → g.quiet ≡ false → slice_get g.commands k ≡ None → Within n ls ra k w s → Finishes g n ls ra (line_to 0 w) s
finishes_kept g n ls ra k w s loud none at =
    let goes = ends_line g ls n w at.hold at.replaced ra at.used k at.turns none in
    let now : MachineState = between ls n at.hold at.replaced ra at.used at.turns in (
      now,
      subst (λ (out : List (ℕ × ℕ)). Goes g s now out) (ap (λ quiet. printed quiet w) loud) (subst (λ (x : MachineState). Goes g x now (printed g.quiet w)) (sym at.is) goes),
      record { hold = at.hold; replaced = at.replaced; used = at.used; turns = at.turns; is = refl },
    )

-- what is written of a line
abbrev of_result : Option (List ℕ) → List (ℕ × ℕ)
of_result None = []
of_result (Some w) = line_to 0 w

finishes : (g : Setting) (n : ℕ) (ls : List (List ℕ)) (ra : List Bool) (count : ℕ) (result : Option (List ℕ)) (s : MachineState) → g.quiet ≡ false → slice_get g.commands count ≡ None → Leads g n ls ra (result_at count result) s →
    Finishes g n ls ra (of_result result) s
finishes g n ls ra count None s loud none leads = let f = finishes_deleted g n ls ra leads.0 leads.2 in (f.0, goes_on leads.1 f.1, f.2)
finishes g n ls ra count (Some w) s loud none leads = let f = finishes_kept g n ls ra count w leads.0 loud none leads.2 in (f.0, goes_on leads.1 f.1, f.2)

-- a run over no lines
ends_at_once : (g : Setting) (n : ℕ) (ra : List Bool) (s : MachineState) → Between n [] ra s → IsOutput g s []
ends_at_once g n ra s at = subst (λ (x : MachineState). IsOutput g x []) (sym at.is) (ends_there g n at.hold at.replaced ra at.used at.turns)

wrote_none : (g : Setting) (n : ℕ) (ra : List Bool) (s : MachineState) (out : List (ℕ × ℕ)) → Between n [] ra s → IsOutput g s out → out ≡ []
wrote_none g n ra s out at ends = let once = ends_at_once g n ra s at in sym ends.wrote ∙ both_ended g s once.moves ends.moves once.ended ends.ended ∙ once.wrote

-- on from a state between two cycles, and from one within a cycle
then_between : {g : Setting} {s now : MachineState} {before out : List (ℕ × ℕ)} (n : ℕ) (ls : List (List ℕ)) (ra : List Bool) → Goes g s now before → Between n ls ra now → IsOutput g s out → EndsThen g now before out
then_between n ls ra goes at ends = ends_then begin [] goes (ap (λ (x : MachineState). x.tasks) at.is) ends

then_within : {g : Setting} {s now : MachineState} {before out : List (ℕ × ℕ)} (n : ℕ) (ls : List (List ℕ)) (ra : List Bool) (k : ℕ) (w : List ℕ) → Goes g s now before → Within n ls ra k w now → IsOutput g s out → EndsThen g now before out
then_within n ls ra k w goes at ends = ends_then (do_at k) [] goes (ap (λ (x : MachineState). x.tasks) at.is) ends

-- the first script gets the lines that the joint run gets; those of the second are any
abbrev pub SameLines : AreAlike
SameLines n ls m rest = (m ≡ n) × (rest ≡ ls)

abbrev pub AnyLines : AreAlike
AnyLines n ls m rest = Unit {0}

-- two settings, and the one of both scripts
module _ (g1 g2 g : Setting) (n m : ℕ) (loud1 : g1.quiet ≡ false) (loud2 : g2.quiet ≡ false) (loud : g.quiet ≡ false)
    (none1 : slice_get g1.commands n ≡ None) (none2 : slice_get g2.commands m ≡ None) (none : slice_get g.commands (n + m) ≡ None)
    (first : (k : ℕ) → k < n → Both SameLines g1 g n (λ k. k) Unbroken k) (second : (k : ℕ) → k < m → Both AnyLines g2 g m (λ k. n + k) (λ w. Unit {0}) k) where
  abbrev second_at : ℕ → ℕ
  second_at k = n + k

  next_second : (k : ℕ) → n + k + 1 ≡ n + (k + 1)
  next_second k = omega arith

  apart_second : (i j : ℕ) → n + i ≡ n + j → i ≡ j
  apart_second i j e = omega (arith, e)

  first_not_second : (k j : ℕ) → k < n → j < m → k ≢ n + j
  first_not_second k j low less e = omega (arith, low, e)

  second_not_first : (k j : ℕ) → k < m → j < n → n + k ≢ j
  second_not_first k j low less e = omega (arith, less, e)

  -- the ranges of the first script and of the second, and those of the joint run
  record Ranges (ra rb all : List Bool) : Type 0 where
    of_first : RangesAgree (λ k. k) n ra all
    of_second : RangesAgree second_at m rb all

  -- what the second writes over lines is what the joint run writes over the lines of which the first makes them
  abbrev Hands : ℕ → List (List ℕ) → List Bool → List (List ℕ) → Type 0
  Hands i ls ra mids = (j : ℕ) (rb all : List Bool) (t u : MachineState) (out : List (ℕ × ℕ)) → Ranges ra rb all → Between i ls all t → Between j mids rb u → IsOutput g2 u out → IsOutput g t out

  record Made (i : ℕ) (ls : List (List ℕ)) (ra : List Bool) (out : List (ℕ × ℕ)) : Type 0 where
    mids : List (List ℕ)
    wrote : out ≡ to_sink 0 (text_of mids)
    whole : NoneBroken mids
    hands : Hands i ls ra mids

  -- the second script's cycle over one line
  second_cycle : (i j : ℕ) (w : List ℕ) (rest mids : List (List ℕ)) (ra rb all : List Bool) (t u : MachineState) (out : List (ℕ × ℕ)) → Ranges ra rb all → Within i rest all n w t → Between j (w ∷ mids) rb u → Hands i rest ra mids → IsOutput g2 u out → IsOutput g t out
  second_cycle i j w rest mids ra rb all t u out ranges at_t at_u hands ends =
      let starts = begins g2 j w mids rb u at_u in
      let e = then_within (j + 1) mids rb 0 w starts.1 starts.2 ends in
      let c = cycle AnyLines g2 g m second_at next_second apart_second (λ w. Unit {0}) second e.ends.moves (j + 1) mids rb 0 w starts.0 starts.2 (omega arith) tt e.ends.ended in
      let there = c.there i rest all t tt ranges.of_second (subst (λ k. Within i rest all k w t) (sym (add-zero n)) at_t) in
      let mine = finishes g2 (j + 1) mids c.ranges m c.result starts.0 loud2 none2 c.here in
      let ours = finishes g i rest there.after (n + m) c.result t loud none there.leads in
      let left = then_between (j + 1) mids c.ranges mine.1 mine.2 e.ends in
      let kept : Ranges ra c.ranges there.after = record { of_first = keeps_matches (λ k. k) second_at n m ra all there.after ranges.of_first there.keeps first_not_second; of_second = there.matches } in
      let goes_so = ends_on ours.1 (hands (j + 1) c.ranges there.after ours.0 mine.0 left.more kept ours.2 mine.2 left.ends) in
      let whole : out ≡ of_result c.result ++ left.more = e.all ∙ left.all in
      subst (λ (out : List (ℕ × ℕ)). IsOutput g t out) (sym whole) goes_so

  -- the first script's cycle over one line
  first_cycle : (i : ℕ) (line : List ℕ) (rest : List (List ℕ)) (ra now : List Bool) (result : Option (List ℕ)) (out more : List (ℕ × ℕ)) → GoodResult Unbroken result → out ≡ of_result result ++ more → Made (i + 1) rest now more →
      ((all : List Bool) (t : MachineState) → RangesAgree (λ k. k) n ra all → Within (i + 1) rest all 0 line t → Follows g (i + 1) rest (λ k. k) n now all (result_at n result) t) → Made i (line ∷ rest) ra out
  first_cycle i line rest ra now None out more good all made there = record {
    mids = made.mids;
    wrote = all ∙ made.wrote;
    whole = made.whole;
    hands = λ j rb ranges t u out match at_t at_u ends.
        let starts = begins g i line rest ranges t at_t in
        let on = there ranges starts.0 match.of_first starts.2 in
        let f = finishes_deleted g (i + 1) rest on.after on.leads.0 on.leads.2 in
        let kept : Ranges now rb on.after = record { of_first = on.matches; of_second = keeps_matches second_at (λ k. k) m n rb ranges on.after match.of_second on.keeps second_not_first } in
        ends_on starts.1 (ends_on on.leads.1 (ends_on f.1 (made.hands j rb on.after f.0 u out kept f.2 at_u ends)));
  }
  first_cycle i line rest ra now (Some w) out more good all made there = record {
    mids = w ∷ made.mids;
    wrote = all ∙ ap (λ (bs : List (ℕ × ℕ)). line_to 0 w ++ bs) made.wrote ∙ line_first w made.mids;
    whole = (good, made.whole);
    hands = λ j rb ranges t u out match at_t at_u ends.
        let starts = begins g i line rest ranges t at_t in
        let on = there ranges starts.0 match.of_first starts.2 in
        let kept : Ranges now rb on.after = record { of_first = on.matches; of_second = keeps_matches second_at (λ k. k) m n rb ranges on.after match.of_second on.keeps second_not_first } in
        ends_on starts.1 (ends_on on.leads.1 (second_cycle (i + 1) j w rest made.mids now rb on.after on.leads.0 u out kept on.leads.2 at_u made.hands ends));
  }

  made_of : (ls : List (List ℕ)) (i : ℕ) (ra : List Bool) (s : MachineState) (out : List (ℕ × ℕ)) → NoneBroken ls → Between i ls ra s → IsOutput g1 s out → Made i ls ra out
  made_of [] i ra s out none_broken at ends = record {
    mids = [];
    wrote = wrote_none g1 i ra s out at ends;
    whole = tt;
    hands = λ j rb all t u out ranges at_t at_u ends. subst (λ (out : List (ℕ × ℕ)). IsOutput g t out) (sym (wrote_none g2 j rb u out at_u ends)) (ends_at_once g i all t at_t);
  }
  made_of (line ∷ rest) i ra s out none_broken at ends =
      let starts = begins g1 i line rest ra s at in
      let e = then_within (i + 1) rest ra 0 line starts.1 starts.2 ends in
      let c = cycle SameLines g1 g n (λ k. k) (λ k. refl) (λ i j same. same) Unbroken first e.ends.moves (i + 1) rest ra 0 line starts.0 starts.2 (omega arith) none_broken.0 e.ends.ended in
      let mine = finishes g1 (i + 1) rest c.ranges n c.result starts.0 loud1 none1 c.here in
      let left = then_between (i + 1) rest c.ranges mine.1 mine.2 e.ends in
      first_cycle i line rest ra c.ranges c.result out left.more c.good (e.all ∙ left.all) (made_of rest (i + 1) c.ranges mine.0 left.more none_broken.1 mine.2 left.ends)
      (λ all t match at_t. c.there (i + 1) rest all t (refl, refl) match at_t)

  -- from the bytes of the input to what the joint run writes
  pub in_turn_run : (input middle : List ℕ) (out : List (ℕ × ℕ)) (ra rb all : List Bool) (s t u : MachineState) → RangesAgree (λ k. k) n ra all → RangesAgree (λ k. n + k) m rb all →
      Between 0 (split_lines input) ra s → Between 0 (split_lines input) all t → Between 0 (split_lines middle) rb u → IsOutput g1 s (to_sink 0 middle) → IsOutput g2 u out → IsOutput g t out
  in_turn_run input middle out ra rb all s t u one two at_s at_t at_u a b =
      let made = made_of (split_lines input) 0 ra s (to_sink 0 middle) (lines_none_broken input) at_s a in
      let middle_is : middle ≡ text_of made.mids = sym (part-same 0 middle) ∙ ap (bytes_of_sink 0) made.wrote ∙ part-same 0 (text_of made.mids) in
      let same : split_lines middle ≡ made.mids = ap split_lines middle_is ∙ lines_again made.mids made.whole in
      made.hands 0 rb all t u out (record { of_first = one; of_second = two }) at_t (subst (λ (ls : List (List ℕ)). Between 0 ls rb u) same at_u) b
