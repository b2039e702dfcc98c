-- The command line that `clap` is given.
use Rattle.std.proofs.Common.{◌≡◌, ◌≢◌, ◌∙◌, inl, inr, List, [], Option, None, Some, Result, Ok, Err, IfOk, IfErr, false, true, refl, ap, ap₂, map, unwrap_or, option_map}
use Rattle.std.specs.Borrow.{Bor}
use Rattle.clap.specs.Words.{AddsArg, App, Rule, Text, app_of, found_of, matched_of, raw_values, is_simple, is_simple_and_free, kind_of, fault_of, matches_of, rows_of, rule_of, takes, with_rule, FailsBy, HasKind, HasMatchesOf}
use Rattle.clap.specs.declared.builder.arg.Arg.{Arg}
use Rattle.clap.specs.declared.builder.command.Command.{Command}
use Rattle.clap.specs.declared.error.Error.{Error}
use Rattle.clap.specs.declared.error.kind.ErrorKind.TheVariants.{OutOfMemory}
use Rattle.clap.specs.declared.parser.matches.ArgMatches.{ArgMatches}
use Rattle.clap.proofs.WalkLemmas.{raw_values-rows}
use Rattle.sedfiles.specs.CommandLine.{AsksParts, given_to, sed_command}
use Rattle.sedfiles.specs.Refusals.{IsRefusal}
use Rattle.sedfiles.specs.Types.{NoMemory, Part, Refused, Words}

-- it has a rule more with each argument
pub rule_added : {E : Type 0} (old : Command) (arg : Arg) (a : App) (rule : Rule) (r : Result Command E) → app_of old ≡ a → rule_of arg ≡ rule → arg.global ≡ false → IfOk r (AddsArg old arg) →
    IfOk r (λ c. app_of c ≡ with_rule a rule)
rule_added old arg a rule (Ok c) is same local h = h.shape local ∙ ap₂ with_rule is same
rule_added old arg a rule (Err e) is same local h = tt

-- its words are read one by one
pub is_simple-sed_command : is_simple sed_command ≡ true
unfolding sed_command
is_simple-sed_command = refl

-- so its matches are known
pub rows_of-sed_command : {E : Type 0} (words : List Text) (a : App) (r : Result ArgMatches E) → a ≡ sed_command → IfOk r (HasMatchesOf a words) →
    IfOk r (λ m. rows_of (found_of m) ≡ matches_of sed_command words)
rows_of-sed_command words a (Ok m) is h = let h' = rw is at h in (h' is_simple-sed_command).0
rows_of-sed_command words a (Err e) is h = tt

-- and so is when it is read
pub takes-sed_command : {T : Type 0} (words : List Text) (a : App) (r : Result T Error) → a ≡ sed_command → IfErr r (λ e. takes a words ≡ true → kind_of e ≡ OutOfMemory) →
    IfErr r (λ e. takes sed_command words ≡ true → kind_of e ≡ OutOfMemory)
takes-sed_command words a (Ok m) is h = tt
takes-sed_command words a (Err e) is h = rw is at h

-- the faults that it finds are known too
pub is_simple_and_free-sed_command : is_simple_and_free sed_command ≡ true
unfolding sed_command
is_simple_and_free-sed_command = refl

pub fault_of-sed_command : {T : Type 0} (words : List Text) (a : App) (r : Result T Error) → a ≡ sed_command →
    (is_simple_and_free a ≡ true → FailsBy (fault_of a words) r) → FailsBy (fault_of sed_command words) r
fault_of-sed_command words a r is h = let h' = rw is at h in h' is_simple_and_free-sed_command

-- what a refusal says
pub refusal_of : (words : List Text) (e : Error) (r : Refused) → HasKind (fault_of sed_command words) e →
    (kind_of e ≡ OutOfMemory → r ≡ NoMemory) → (kind_of e ≢ OutOfMemory → r ≡ Words e) → IsRefusal words r
refusal_of words e NoMemory h memory other = tt
refusal_of words e (Words x) h memory other =
    let wanting : kind_of e ≢ OutOfMemory = λ is. let bad : Words x ≡ NoMemory = memory is in cc in
    let same : x ≡ e = let is : Words x ≡ Words e = other wanting in cc in
    elim h [ inl is ↦ absurd (wanting is) | inr among ↦ rw same among ]

-- what an option or the operands were given, from the matches
pub given_to-matches : (m : ArgMatches) (id : Text) (given : Option (Bor (List (Bor Text)))) (none words : Bor (List (Bor Text))) → option_map (λ s. map (λ v. v.now) s.now) given ≡ option_map raw_values (matched_of (found_of m) id) →
    none.now ≡ [] → words ≡ unwrap_or given none → map (λ v. v.now) words.now ≡ given_to id (rows_of (found_of m))
given_to-matches m id None none words is empty e = rw (e, empty) (ap (λ t. unwrap_or t []) (is ∙ raw_values-rows (found_of m) id))
given_to-matches m id (Some given) none words is empty e = rw e (ap (λ t. unwrap_or t []) (is ∙ raw_values-rows (found_of m) id))

-- what is asked for by the same words
pub AsksParts-same : (scripts files operands scripts' files' operands' : List Text) (parts : List Part) (names : List Text) → scripts ≡ scripts' → files ≡ files' → operands ≡ operands' →
    AsksParts scripts files operands parts names → AsksParts scripts' files' operands' parts names
AsksParts-same scripts files operands scripts' files' operands' parts names s f o asks = rw (← s, ← f, ← o) asks
