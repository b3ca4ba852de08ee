-- Commands by `shell`.
use Rattle.std.proofs.Common.{◌≡◌, ℕ, false, true, List, [], ◌∷◌, map, Result, Ok, Err, IsErr, IsErrAnd, refl, sym, ap, subst, ◌∙◌}
use Rattle.just_host.specs.declared.entry.Entry.{Entry}
use Rattle.just_host.specs.declared.host.HostFault.{HostFault}
use Rattle.just_host.specs.declared.host.Question.{Question}
use Rattle.just_host.specs.declared.host.Question.TheVariants.{Command}
use Rattle.evaluate_context.specs.Surroundings.{job_of, surroundings_of}
use Rattle.evaluate_functions.specs.Functions.{first_text, text_at}
use Rattle.evaluate_functions.specs.declared.fault.FunctionFault.{FunctionFault}
use Rattle.evaluate_functions.specs.declared.fault.FunctionFault.TheVariants.{OutOfMemory}
use Rattle.meaning_dialogues.specs.Answers.{IsAnswered, MayAsk, text_in}
use Rattle.meaning_dialogues.specs.Dialogue.{Ends, Asks, Evaluates, Reading}
use Rattle.meaning_dialogues.specs.Evaluation.{Value}
use Rattle.meaning_dialogues.proofs.Dialogues.{ends, whole_begins}
use Rattle.evaluate_builtins.specs.declared.site.CallSite.{CallSite}
use Rattle.evaluate_builtins.specs.Builtins.{shell_dialogue, shell_told, text_told, unrun_call}
use Rattle.evaluate_builtins.specs.Commands.{command_question, printed_in, trimmed}
use Rattle.evaluate_builtins.specs.Named.{IsNamed, named}
use Rattle.evaluate_builtins.specs.Sites.{standing_of}
use Rattle.evaluate_builtins.proofs.Asking.{may_be_asked_goes}

told_same : (name : List ℕ) (told : Result (List ℕ) HostFault) → text_told name [] (trimmed told) ≡ shell_told name told
told_same name (Ok text) = refl
told_same name (Err fault) = refl

-- a command that was run, and what it printed
shell_goes : {reading : Reading} {question : Question} {old new : List Entry} {told : Result (List ℕ) HostFault} {given : Result Value FunctionFault} (name : List ℕ) → IsAnswered question printed_in old new told → IsNamed name given (text_told name [] told) → Evaluates reading (Asks question (λ answer. Ends (shell_told name (text_in answer)))) old new (named name given)
shell_goes {reading = reading} {question = question} {old = old} {new = new} name a is = record {
  goes = λ n. (a.answer, (a.entries, is.is n ∙ (ap (λ told. text_told name [] told) a.is ∙ told_same name (text_in a.answer))));
  begins = whole_begins reading (Asks question (λ answer. Ends (shell_told name (text_in answer)))) old new (shell_told name (text_in a.answer)) (a.answer, (a.entries, refl));
}

-- the call where it is run
pub shell_runs : {reading : Reading} {old new : List Entry} {told : Result (List ℕ) HostFault} {given : Result Value FunctionFault} (name : List ℕ) (site : CallSite) (values : List Value) (command : List ℕ) (positional : List (List ℕ))
    → site.context.now.config.now.dry_run ≡ false → command ≡ text_at values 0 → positional ≡ map first_text values → IsAnswered (command_question site.context.now site.env.now site.scope.now command positional) printed_in old new told → IsNamed name given (text_told name [] told)
    → Evaluates reading (shell_dialogue name (surroundings_of site.context.now) (standing_of site) values site.context.now.config.now.dry_run) old new (named name given)
shell_runs {reading = reading} {old = old} {new = new} {given = given} name site values command positional dry c p a is =
    let around = surroundings_of site.context.now in
    let standing = standing_of site in
    subst (λ d. Evaluates reading (shell_dialogue name around standing values d) old new (named name given)) (sym dry)
    (subst (λ command. Evaluates reading (Asks (Command (job_of around standing command (map first_text values))) (λ answer. Ends (shell_told name (text_in answer)))) old new (named name given)) c
    (subst (λ positional. Evaluates reading (Asks (Command (job_of around standing command positional)) (λ answer. Ends (shell_told name (text_in answer)))) old new (named name given)) p (shell_goes name a is)))

-- the call where nothing is run
pub shell_unrun : {reading : Reading} {old : List Entry} (name : List ℕ) (site : CallSite) (values : List Value) (value : Value) → site.context.now.config.now.dry_run ≡ true → value ≡ unrun_call values ∷ []
    → Evaluates reading (shell_dialogue name (surroundings_of site.context.now) (standing_of site) values site.context.now.config.now.dry_run) old old (named name (Ok value))
shell_unrun {reading = reading} {old = old} name site values value dry e =
    rw (dry, e) (ends {reading = reading} {old = old} (Ok (unrun_call values ∷ [])) (λ n. refl))

-- memory ran out about the call
pub shell_begins : {reading : Reading} {old new : List Entry} (name : List ℕ) (site : CallSite) (values : List Value) (command : List ℕ) (positional : List (List ℕ)) (given : Result Value FunctionFault)
    → site.context.now.config.now.dry_run ≡ false → command ≡ text_at values 0 → positional ≡ map first_text values → IsErr given × IsErrAnd given (λ fault. fault ≡ OutOfMemory) → MayAsk (command_question site.context.now site.env.now site.scope.now command positional) old new
    → Evaluates reading (shell_dialogue name (surroundings_of site.context.now) (standing_of site) values site.context.now.config.now.dry_run) old new (named name given)
shell_begins {reading = reading} {old = old} {new = new} name site values command positional given dry c p is m =
    let around = surroundings_of site.context.now in
    let standing = standing_of site in
    subst (λ d. Evaluates reading (shell_dialogue name around standing values d) old new (named name given)) (sym dry)
    (subst (λ command. Evaluates reading (Asks (Command (job_of around standing command (map first_text values))) (λ answer. Ends (shell_told name (text_in answer)))) old new (named name given)) c
    (subst (λ positional. Evaluates reading (Asks (Command (job_of around standing command positional)) (λ answer. Ends (shell_told name (text_in answer)))) old new (named name given)) p
    (may_be_asked_goes name (λ answer. Ends (shell_told name (text_in answer))) given is refl m)))
