-- The meaning of scripts as a computation, so that examples of it can be computed: the items of a text one after the
-- other, and what they come to.
use Rattle.std.proofs.Common.{◌≡◌, ◌≤◌, ℕ, zero, suc, ◌+◌, List, [], ◌∷◌, ◌++◌, length, Option, Some, None, Ok, Err, refl, subst, sym, arith}
use Rattle.std.specs.Prelude.{slice_get}
use Rattle.sedre.specs.declared.types.Kind.{Kind}
use Rattle.sedre.specs.Tree.{WrittenExpression, Tree}
use Rattle.sedre.specs.Grammar.{ReadsAs}
use Rattle.examples.proofs.ComputedReading.{Outcome, outcome, reads, faulty as bad_expression, unfinished, Holds, outcome_holds, written, tree_of_written, nodes_of_written, fault_either_way, no_fault_within}
use Rattle.sedscript.specs.declared.types.ScriptFault.{ScriptFault}
use Rattle.sedscript.specs.declared.items.Item.{Item}
use Rattle.sedscript.specs.declared.items.ItemOrEnd.{ItemOrEnd}
use Rattle.sedscript.specs.declared.items.ItemOrEnd.TheVariants.{Is, Ends}
use Rattle.sedscript.specs.declared.types.FileUse.TheVariants.{Read, Write}
use Rattle.sedscript.specs.declared.bytes.Sort.TheVariants.{Separator}
use Rattle.sedscript.specs.Bytes.{bytes_between, past}
use Rattle.sedscript.specs.Items.{PatternExtent, Reading, plainly, expression, item_at}
use Rattle.sedscript.specs.Script.{IsRead, Gives, value, after_expression, CutScript, done, IsEnd, texts_of, substitutions_of, tables_of, commands_of, is_quiet, Means, target_fault, files_in}
use Rattle.sedscript.specs.FirstFault.{in_script, Fails, own, no_expression, later, Faulty, early, afterwards}
use Rattle.sedscript.specs.Program.{Program}
use Rattle.sedscript.proofs.Cuts.{cut_more}

-- what reading comes to: expressions and a value, or a fault
pub data Found (A : Type 0) : Type 0 where
  found : List WrittenExpression → A → Found A
  failed : ScriptFault → Found A
  unsettled : Found A

-- with an expression before those that are found
abbrev pub with_expression : {A : Type 0} → WrittenExpression → Found A → Found A
with_expression e (found es x) = found (e ∷ es) x
with_expression e (failed f) = failed f
with_expression e unsettled = unsettled

-- what is found from an expression on, by what its text comes to
abbrev pub found_after : {A : Type 0} → PatternExtent → (ℕ → Found A) → Outcome → Found A
found_after p rest (reads t groups) = with_expression (written t groups) (rest groups)
found_after p rest (bad_expression place reason) = failed (in_script p.from (record { place = place; reason = reason }))
found_after p rest unfinished = unsettled

-- how a text is cut: into items and expressions up to a place, or up to a fault
pub data Cutting : Type 0 where
  cut_to : List Item → List WrittenExpression → ℕ → Cutting
  stopped : ScriptFault → Cutting
  endless : Cutting

-- what is at a place, where the separators before it end at this byte or at the end of the text
abbrev pub met : (Item → List WrittenExpression → ℕ → Cutting) → List Item → List WrittenExpression → ℕ → Found ItemOrEnd → Option ℕ → Cutting
met rest is es at here None = cut_to is es at
met rest is es at (found fs (Is i next)) (Some b) = rest i fs next
met rest is es at (found fs Ends) (Some b) = endless
met rest is es at (failed f) (Some b) = stopped f
met rest is es at unsettled (Some b) = endless

-- what a text comes to: a script or a fault
pub data Verdict : Type 0 where
  means : Program → Verdict
  faulty : ScriptFault → Verdict
  unknown : Verdict

module _ (text : List ℕ) (kind : Kind) (max_nodes : ℕ) where
  -- what reading comes to, with the expressions that occur in it
  unfoldable pub walked : {A : Type 0} → Reading A → Found A
  walked (plainly (Ok x)) = found [] x
  walked (plainly (Err f)) = failed f
  walked (expression p k) =
      found_after p (λ groups. walked (k groups))
      (outcome kind p.folded (Some p.delimiter) (bytes_between text p.from p.to) max_nodes)

  -- the text from a place on, after these items and expressions, with at most so many items
  unfoldable pub cutting : ℕ → List Item → List WrittenExpression → ℕ → Cutting
  cutting zero is es at = endless
  cutting (suc n) is es at =
      met (λ i fs next. cutting n (is ++ i ∷ []) (es ++ fs) next) is es at (walked (item_at text (length es) at))
      (slice_get text (past Separator text at))

  -- the script of these items and expressions
  abbrev pub program_of : List Item → List WrittenExpression → Program
  program_of is es = record {
    commands = commands_of text is [] is;
    expressions = es;
    texts = texts_of text is;
    substitutions = substitutions_of text is is;
    tables = tables_of text is;
    rfiles = files_in Read text is;
    wfiles = files_in Write text is;
    quiet = is_quiet text;
    max_nodes = max_nodes;
  }

  abbrev pub judged_targets : List Item → List WrittenExpression → Option ScriptFault → Verdict
  judged_targets is es None = means (program_of is es)
  judged_targets is es (Some f) = faulty f

  abbrev pub judged : Cutting → Verdict
  judged (cut_to is es at) = judged_targets is es (target_fault text is)
  judged (stopped f) = faulty f
  judged endless = unknown

  -- a whole text, each item of which has a byte at least
  unfoldable pub verdict : Verdict
  verdict = judged (cutting (length text + 1) [] [] 0)

  -- what the definitions say where reading comes to this
  abbrev pub Says : {A : Type 0} → Reading A → Found A → Type 0
  Says r (found es x) = Gives text kind max_nodes r es x
  Says r (failed f) = Fails text kind max_nodes r f
  Says r unsettled = Unit {0}

  read_so : (p : PatternExtent) (t : Tree) (groups : ℕ) →
      Holds kind p.folded (Some p.delimiter) (bytes_between text p.from p.to) max_nodes (reads t groups) →
      IsRead text kind max_nodes p (written t groups)
  read_so p t groups h = record {
    reads = subst (λ (s : Tree). ReadsAs kind p.folded (Some p.delimiter) (bytes_between text p.from p.to) s groups)
        (sym (tree_of_written t groups)) h.0;
    no_fault = no_fault_within kind p.folded (Some p.delimiter) (bytes_between text p.from p.to) max_nodes h;
    fits = subst (λ (n : ℕ). n ≤ max_nodes) (sym (nodes_of_written t)) h.2;
  }

  after_expression_says : {A : Type 0} (p : PatternExtent) (k : ℕ → Reading A) (e : WrittenExpression) → IsRead text kind max_nodes p e →
      (rest : Found A) → Says (k e.groups) rest → Says (expression p k) (with_expression e rest)
  after_expression_says p k e is (found es x) h = after_expression e is h
  after_expression_says p k e is (failed f) h = later e is h
  after_expression_says p k e is unsettled h = tt

  after_says : {A : Type 0} (p : PatternExtent) (k : ℕ → Reading A) (rest : ℕ → Found A) (o : Outcome) →
      Holds kind p.folded (Some p.delimiter) (bytes_between text p.from p.to) max_nodes o →
      ((groups : ℕ) → Says (k groups) (rest groups)) → Says (expression p k) (found_after p rest o)
  after_says p k rest (reads t groups) h on =
      after_expression_says p k (written t groups) (read_so p t groups h) (rest groups) (on groups)
  after_says p k rest (bad_expression place reason) h on =
      no_expression {f = record { place = place; reason = reason }}
      (fault_either_way kind p.folded (Some p.delimiter) (bytes_between text p.from p.to) max_nodes h)
  after_says p k rest unfinished h on = tt

  walked_says : {A : Type 0} (r : Reading A) → Says r (walked r)
  unfolding walked
  walked_says (plainly (Ok x)) = value
  walked_says (plainly (Err f)) = own
  walked_says (expression p k) =
      after_says p k (λ groups. walked (k groups))
      (outcome kind p.folded (Some p.delimiter) (bytes_between text p.from p.to) max_nodes)
      (outcome_holds kind p.folded (Some p.delimiter) (bytes_between text p.from p.to) max_nodes)
      (λ groups. walked_says (k groups))

  -- what they say where cutting comes to this
  abbrev pub CutsTo : Cutting → Type 0
  CutsTo (cut_to is es at) = CutScript text kind max_nodes 0 0 is es at × IsEnd text at
  CutsTo (stopped f) = Faulty text kind max_nodes f
  CutsTo endless = Unit {0}

  met_cuts : (rest : Item → List WrittenExpression → ℕ → Cutting) (is : List Item) (es : List WrittenExpression) (at : ℕ) (here : Found ItemOrEnd)
      (byte : Option ℕ) → CutScript text kind max_nodes 0 0 is es at → Says (item_at text (length es) at) here →
      slice_get text (past Separator text at) ≡ byte →
      ((i : Item) (fs : List WrittenExpression) (next : ℕ) → CutScript text kind max_nodes 0 0 (is ++ i ∷ []) (es ++ fs) next →
      CutsTo (rest i fs next)) →
      CutsTo (met rest is es at here byte)
  met_cuts rest is es at here None c h e on = (c, e)
  met_cuts rest is es at (found fs (Is i next)) (Some b) c h e on =
      on i fs next (cut_more text kind max_nodes 0 0 at next (length es) is es fs i c (omega arith) h)
  met_cuts rest is es at (found fs Ends) (Some b) c h e on = tt
  met_cuts rest is es at (failed f) (Some b) c h e on = early is es at c h
  met_cuts rest is es at unsettled (Some b) c h e on = tt

  cutting_cuts : (n : ℕ) (is : List Item) (es : List WrittenExpression) (at : ℕ) → CutScript text kind max_nodes 0 0 is es at →
      CutsTo (cutting n is es at)
  unfolding cutting
  cutting_cuts zero is es at c = tt
  cutting_cuts (suc n) is es at c =
      met_cuts (λ i fs next. cutting n (is ++ i ∷ []) (es ++ fs) next) is es at (walked (item_at text (length es) at))
      (slice_get text (past Separator text at)) c (walked_says (item_at text (length es) at)) refl
      (λ i fs next d. cutting_cuts n (is ++ i ∷ []) (es ++ fs) next d)

  -- what they say where the text comes to this
  abbrev pub IsSo : Verdict → Type 0
  IsSo (means s) = Means text kind max_nodes s
  IsSo (faulty f) = Faulty text kind max_nodes f
  IsSo unknown = Unit {0}

  targets_so : (is : List Item) (es : List WrittenExpression) (at : ℕ) (o : Option ScriptFault) → CutsTo (cut_to is es at) →
      target_fault text is ≡ o → IsSo (judged_targets is es o)
  targets_so is es at None c e = record {
    items = is;
    to = at;
    judged = record { cut = c.0; ends = c.1; settled = e };
    commands = refl;
    texts = refl;
    substitutions = refl;
    tables = refl;
    rfiles = refl;
    wfiles = refl;
    quiet = refl;
    nodes = refl;
  }
  targets_so is es at (Some f) c e = afterwards is es at c.0 c.1 e

  judged_so : (c : Cutting) → CutsTo c → IsSo (judged c)
  judged_so (cut_to is es at) h = targets_so is es at (target_fault text is) h refl
  judged_so (stopped f) h = h
  judged_so endless h = tt

  -- what is computed is what the definitions say
  pub verdict_so : IsSo verdict
  unfolding verdict
  verdict_so = judged_so (cutting (length text + 1) [] [] 0) (cutting_cuts (length text + 1) [] [] 0 done)

-- where the computation comes to a fault, the text has this one first
pub has_fault : {text : List ℕ} {kind : Kind} {max_nodes : ℕ} {f : ScriptFault} →
    verdict text kind max_nodes ≡ faulty f → Faulty text kind max_nodes f
has_fault {text = text} {kind = kind} {max_nodes = max_nodes} e =
    subst (IsSo text kind max_nodes) e (verdict_so text kind max_nodes)

-- the text means a script of which this is true
pub record Script (text : List ℕ) (kind : Kind) (Fits : Program → Type 0) : Type 0 where
  pub program : Program
  pub meant : Means text kind 65536 program
  pub is : Fits program

-- whether the computation comes to a script of which this is true
abbrev pub ComesTo : (Program → Type 0) → Verdict → Type 0
ComesTo Fits (means s) = Fits s
ComesTo Fits (faulty f) = ⊥
ComesTo Fits unknown = ⊥

script_so : (text : List ℕ) (kind : Kind) (Fits : Program → Type 0) (v : Verdict) → IsSo text kind 65536 v → ComesTo Fits v →
    Script text kind Fits
script_so text kind Fits (means s) h e = record { program = s; meant = h; is = e }
script_so text kind Fits (faulty f) h e = absurd e
script_so text kind Fits unknown h e = absurd e

pub is_script : {text : List ℕ} {kind : Kind} {Fits : Program → Type 0} → ComesTo Fits (verdict text kind 65536) →
    Script text kind Fits
is_script {text = text} {kind = kind} {Fits = Fits} e =
    script_so text kind Fits (verdict text kind 65536) (verdict_so text kind 65536) e
