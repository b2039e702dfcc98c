-- Examples of the fault where a request for memory was refused (this project's own). A script has it at 0, also where it was
-- refused to a regular expression; no text here has it as its first fault.
use Rattle.std.proofs.Common.{◌≡◌, false, ℕ, List, refl, ap}
use Rattle.std.specs.Prelude.{codes}
use Rattle.sedre.specs.declared.types.Kind.TheVariants.{Basic}
use Rattle.sedre.specs.declared.types.ExprReason.TheVariants as expression
use Rattle.sedre.specs.declared.types.TheConstants as expressions
use Rattle.sedre.proofs.Exclusive.{reads_one, reads_groups}
use Rattle.sedre.proofs.OneFault.{one_fault as one_expression_fault}
use Rattle.sedscript.specs.declared.types.Reason.TheVariants.{NoMemory, UnknownCommand}
use Rattle.sedscript.specs.declared.types.ScriptFault.{ScriptFault}
use Rattle.sedscript.specs.declared.types.TheConstants.{NO_MEMORY}
use Rattle.sedscript.specs.Items.{address_at, second_at, addresses_at, function_at, item_at}
use Rattle.sedscript.specs.Answers.{fault_of}
use Rattle.sedscript.specs.Bytes.{past}
use Rattle.sedscript.specs.Faults.{number_of, name_of}
use Rattle.sedscript.specs.Arguments.{name_from, text_from}
use Rattle.sedscript.specs.FirstFault.{Faulty}
use Rattle.examples.proofs.ComputedScript.{Script, verdict, cutting, walked, is_script, has_fault}
use Rattle.sedscript.proofs.Exclusive.{ReadsAsOne, means_no_fault}
use Rattle.sedscript.proofs.OneFault.{OneExprFault, one_fault}
use Rattle.examples.proofs.ScriptWords.{fault_at, expression_fault_at}

shown_at_0 : NO_MEMORY ≡ fault_at 0 NoMemory
shown_at_0 = refl

number_22 : number_of NO_MEMORY.reason ≡ 22
number_22 = refl

named : name_of NO_MEMORY.reason ≡ codes "NoMemory"
named = refl

-- of an expression that begins at place 5
of_an_expression : fault_of 5 expressions.NO_MEMORY ≡ fault_at 0 NoMemory
of_an_expression = refl

-- where another fault is reported with its place in the script
other_fault_of_an_expression : fault_of 5 (record { place = 2; reason = expression.OpenGroup }) ≡ expression_fault_at 7 2 expression.OpenGroup
other_fault_of_an_expression = refl

as_one : ReadsAsOne
as_one kind folded delimiter text one other groups more h k = (reads_one kind folded delimiter text h k, reads_groups kind folded delimiter text h k)

-- a text that means a script has another answer
not_of_a_script : {text : List ℕ} → Script text Basic (λ p. Unit {0}) → Faulty text Basic 65536 NO_MEMORY → ⊥
not_of_a_script {text = text} s f = means_no_fault as_one text Basic 65536 s.program NO_MEMORY s.meant f

not_of_two_commands : Faulty (codes "2p;d") Basic 65536 NO_MEMORY → ⊥
unfolding verdict cutting walked item_at past function_at addresses_at address_at second_at text_from name_from
not_of_two_commands f = not_of_a_script {text = codes "2p;d"} (is_script tt) f

one_of_each : OneExprFault
one_of_each kind delimiter text most place more reason other f g = one_expression_fault kind false delimiter text most f g

not_of_an_unknown_command : Faulty (codes "k") Basic 65536 NO_MEMORY → ⊥
unfolding verdict cutting walked item_at past function_at addresses_at address_at
not_of_an_unknown_command f =
    let unknown : Faulty (codes "k") Basic 65536 (fault_at 0 UnknownCommand) = has_fault refl in
    let same : fault_at 0 UnknownCommand ≡ NO_MEMORY = one_fault as_one one_of_each (codes "k") Basic 65536 _ _ unknown f in
    let reasons : UnknownCommand ≡ NoMemory = ap (λ (x : ScriptFault). x.reason) same in
    absurd cc
