-- Examples of the fault where a request for memory was refused (this project's own). Its place is 0, and no text here has
-- it: what a text reads as, or its first fault, leaves no room for it.
use Rattle.std.proofs.Common.{◌≡◌, ℕ, List, Bool, true, false, None, refl}
use Rattle.std.specs.Prelude.{codes}
use Rattle.sedre.specs.declared.types.Kind.{Kind}
use Rattle.sedre.specs.declared.types.Kind.TheVariants.{Basic, Extended}
use Rattle.sedre.specs.declared.types.ExprReason.TheVariants.{NoMemory}
use Rattle.sedre.specs.declared.types.TheConstants.{NO_MEMORY}
use Rattle.sedre.specs.Grammar.{ExprFaulty}
use Rattle.sedre.specs.Tokens.{token_at}
use Rattle.sedre.specs.Reasons.{number, name}
use Rattle.examples.proofs.ComputedReading.{Outcome, outcome, rest_of, reads, faulty, unfinished, outcome_holds, Holds, no_fault_within}
use Rattle.sedre.proofs.OneFault.{one_fault}

shown_at_0 : NO_MEMORY ≡ record { place = 0; reason = NoMemory }
shown_at_0 = refl

number_14 : number NO_MEMORY.reason ≡ 14
number_14 = refl

named : name NO_MEMORY.reason ≡ codes "NoMemory"
named = refl

-- whether a text comes to an expression, or to a fault of the text
abbrev settled : Outcome → Bool
settled (reads t groups) = true
settled (faulty place NoMemory) = false
settled (faulty place reason) = true
settled unfinished = false

not_this : (kind : Kind) (text : List ℕ) (most place : ℕ) (o : Outcome) → Holds kind false None text most o → settled o ≡ true →
    ExprFaulty kind None text most place NoMemory → ⊥
not_this kind text most place (reads t groups) h e f = no_fault_within kind false None text most h place NoMemory f
not_this kind text most place (faulty p reason) h e f =
    let same : reason ≡ NoMemory = (one_fault kind false None text most h f).1 in
    let wrong : false ≡ true = rw same at e in
    absurd cc
not_this kind text most place unfinished h e f = absurd cc

-- the text has another answer than want of memory
abbrev Other : Kind → List ℕ → ℕ → Type 0
Other kind text most = (place : ℕ) → ExprFaulty kind None text most place NoMemory → ⊥

other : {kind : Kind} {text : List ℕ} {most : ℕ} → settled (outcome kind false None text most) ≡ true → Other kind text most
other {kind = kind} {text = text} {most = most} e place = not_this kind text most place (outcome kind false None text most) (outcome_holds kind false None text most) e

not_of_an_expression : Other Extended (codes "(a*)+") 65536
unfolding outcome rest_of token_at
not_of_an_expression = other refl

not_of_an_open_group : Other Basic (codes "\\(") 65536
unfolding outcome rest_of token_at
not_of_an_open_group = other refl

not_of_too_many_nodes : Other Extended (codes "ab") 2
unfolding outcome rest_of token_at
not_of_too_many_nodes = other refl
