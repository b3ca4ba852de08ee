-- The printed texts of faults, where they stand, and of which nothing is printed.
use Rattle.std.specs.Prelude.{ℕ, List, [], ◌∷◌, codes, Bool, false, Option, None}
use Rattle.just_text.specs.Fields.{with_fields}
use Rattle.just_text.specs.Tokens.{lexeme}
use Rattle.just_text.specs.declared.token.Token.{Token}
use Rattle.just_host.specs.Failures.{status_text, unconfirmed_text}
use Rattle.just_host.specs.Faults as host
use Rattle.just_host.specs.declared.host.Status.TheVariants as ends
use Rattle.evaluate_context.specs.Errors.{error_text}
use Rattle.just_resolve.specs.Refusals.{refusal_place, refusal_text}
use Rattle.analyze_words.specs.Faults as words
use Rattle.run_tasks.specs.Faulted.{command_text}
use Rattle.just_run.specs.declared.fault.Fault.{Fault}
use Rattle.just_run.specs.declared.fault.Fault.TheVariants.{OutOfMemory, NoRootForWord, Justfile, Words, Dotenv, Opening, Evaluation, Code, Signal, CouldNotStart, NotConfirmed, Command, Write, NotPrintable}

-- the rule that is broken; no text of other faults
abbrev pub rule_text : Fault → List ℕ
rule_text (NoRootForWord word) = with_fields (codes "no root for word") (word ∷ [])
rule_text (Justfile refusal) = refusal_text refusal
rule_text (Words fault) = words.fault_text fault
rule_text (NotPrintable path) = with_fields (codes "not printable") (path ∷ [])
rule_text _ = []

-- why a recipe or a command failed; no text of other faults
abbrev pub failure_text : Fault → List ℕ
failure_text (Code recipe code is_silent) = status_text (lexeme recipe.token) (ends.Code code)
failure_text (Signal recipe signal is_silent) = status_text (lexeme recipe.token) (ends.Signal signal)
failure_text (CouldNotStart recipe) = status_text (lexeme recipe.token) ends.NotStarted
failure_text (NotConfirmed recipe) = unconfirmed_text (lexeme recipe.token)
failure_text (Command fault) = command_text fault
failure_text _ = []

abbrev pub fault_text : Fault → List ℕ
fault_text OutOfMemory = codes "out of memory"
fault_text Write = codes "write"
fault_text (Dotenv fault) = with_fields (codes "dotenv") (host.fault_text fault ∷ [])
fault_text (Opening error) = with_fields (codes "opening") (error_text error ∷ [])
fault_text (Evaluation error) = with_fields (codes "evaluation") (error_text error ∷ [])
fault_text (NoRootForWord word) = rule_text (NoRootForWord word)
fault_text (Justfile refusal) = rule_text (Justfile refusal)
fault_text (Words fault) = rule_text (Words fault)
fault_text (NotPrintable path) = rule_text (NotPrintable path)
fault_text fault = failure_text fault

-- the token at whose beginning a fault stands, if it has a place
abbrev pub fault_place : Fault → Option Token
fault_place (Justfile refusal) = refusal_place refusal
fault_place _ = None

-- a command failed, and its exit has no message
abbrev pub is_silent_fault : Fault → Bool
is_silent_fault (Code recipe code is_silent) = is_silent
is_silent_fault (Signal recipe signal is_silent) = is_silent
is_silent_fault (Command fault) = fault.is_silent
is_silent_fault _ = false
