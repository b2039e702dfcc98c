use Rattle.std.proofs.Common.{◌≡◌, ◌∙◌, ℕ, List, Option, Some, unwrap_or, length, map, ap, sym, arith, Vec, Global}
use Rattle.std.proofs.lemmas.List.{length-map}
use Rattle.sedscript.specs.declared.types.Action.TheVariants.{Block, Branch, Text}
use Rattle.sedscript.specs.Types.{Verb}
use Rattle.sedscript.specs.Script.{action_of, branch_in}
use Rattle.sedscript.specs.Letters.{is_open}
use Rattle.sedscript.proofs.commands.action_of.Goals as goal

pub returns-in-Open : goal.returns-in-Open
returns-in-Open c = λ all before after t f o end.
    ap (λ (k : ℕ). Some (Block k)) (c.unwrap_or.ensures ∙ ap (λ (o : Option ℕ). unwrap_or o 0) (end (ap is_open c.in-Open.is))) ∙ ap (λ (v : Verb). action_of c.args.text.now all before after v c.args.item.argument) (sym c.in-Open.is)

pub returns-in-Branch : goal.returns-in-Branch
returns-in-Branch c = λ all before after t f o end.
    ap (λ (k : ℕ). Some (Branch c.in-Branch.branch_use k)) (c.unwrap_or-in-Branch.ensures ∙ ap (λ (o : Option ℕ). unwrap_or o 0)
    (c.branch-targets.ensures c.args.text.now all t ∙ ap (branch_in c.args.text.now all) c.written_in-written.ensures))
    ∙ ap (λ (v : Verb). action_of c.args.text.now all before after v c.args.item.argument) (sym c.in-Branch.is)

pub returns-in-Text : goal.returns-in-Text
returns-in-Text c = λ all before after t f o end.
    let texts : List (Vec ℕ Global) = c.args.operands.now.texts.items in
    let count : c.len.result ≡ length (map (λ (v : Vec ℕ Global). v.items) texts) = omega (arith, c.len.ensures, c.args.operands.now.texts.ok, length-map texts (λ (v : Vec ℕ Global). v.items)) in
    ap (λ (k : ℕ). Some (Text c.in-Text.text_use k)) (count ∙ ap (λ (ts : List (List ℕ)). length ts) o.texts) ∙ ap (λ (v : Verb). action_of c.args.text.now all before after v c.args.item.argument) (sym c.in-Text.is)
