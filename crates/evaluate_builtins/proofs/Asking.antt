-- Where memory ran out about a question.
use Rattle.std.proofs.Common.{◌≡◌, ◌==◌, ℕ, Bool, true, false, length, eqb-true, arith, List, [], ◌∷◌, ◌++◌, Option, Result, Ok, Err, IsErr, IsErrAnd, append-nil, inl, inr, refl, sym, ap, subst}
use Rattle.just_host.specs.declared.entry.Entry.{Entry}
use Rattle.just_host.specs.declared.entry.Entry.TheVariants.{Asked, Line, Script, Confirm, Show, Dotenv}
use Rattle.just_host.specs.declared.host.Question.{Question}
use Rattle.just_host.specs.declared.host.Answer.{Answer}
use Rattle.just_host.specs.declared.host.Question.TheVariants.{Environment, Exists}
use Rattle.just_host.specs.declared.job.Pair.{Pair}
use Rattle.just_host.specs.Follows.{Begins, Follows, unanswered}
use Rattle.just_host.specs.Record.{Record}
use Rattle.just_value.specs.Paths.{join}
use Rattle.evaluate_context.specs.Surroundings.{Surroundings}
use Rattle.evaluate_functions.specs.declared.fault.FunctionFault.{FunctionFault}
use Rattle.evaluate_functions.specs.declared.fault.FunctionFault.TheVariants.{OutOfMemory}
use Rattle.meaning_dialogues.specs.Answers.{IsAnswered, MayAsk, asked, not_asked, optional_in, truth_in}
use Rattle.meaning_dialogues.specs.Dialogue.{Dialogue, Asks, Ends, Evaluates, Reading}
use Rattle.meaning_dialogues.specs.Evaluation.{Value}
use Rattle.meaning_dialogues.proofs.Answered.{may_ask_begins, may_ask_goes}
use Rattle.meaning_dialogues.proofs.Dialogues.{begins_here, not_begun}
use Rattle.evaluate_builtins.specs.Builtins.{exists_dialogue, looked_up, truth_told}
use Rattle.just_host.specs.declared.host.HostFault.{HostFault}
use Rattle.evaluate_functions.specs.Functions.{Answers}
use Rattle.evaluate_functions.specs.Values.{boolean}
use Rattle.evaluate_builtins.specs.Named.{IsNamed, named}
use Rattle.evaluate_builtins.proofs.Named.{answer_goes, question_goes, value_named}
use Rattle.evaluate_builtins.specs.Variables.{IsAskedFor, IsLookedUp, asked_variable, one_variable}

module _ (question : Question) (answer : Answer) (old : List Entry) where
  kept_only : (kept : Entry) → Asked question answer ≡ unanswered kept → MayAsk question old (old ++ kept ∷ [])
  kept_only (Asked q a) e = asked a (ap (λ q. old ++ Asked q a ∷ []) (cc))
  kept_only (Dotenv q a) e = absurd cc
  kept_only (Line q a) e = absurd cc
  kept_only (Script q a) e = absurd cc
  kept_only (Confirm q a) e = absurd cc
  kept_only (Show q) e = absurd cc

  part_asked : (part : List Entry) → Begins part (Asked question answer ∷ []) → MayAsk question old (old ++ part)
  part_asked [] h = not_asked (append-nil old)
  part_asked (kept ∷ []) h = elim h [ inl k ↦ asked answer (ap (λ e. old ++ e ∷ []) (sym k.0)) | inr k ↦ kept_only kept k.0 ]
  part_asked (kept ∷ more ∷ rest) h = elim h [ inl k ↦ absurd k.1 | inr k ↦ absurd cc ]

-- the record grew by the question, or not at all
pub may_ask : {H : Type 0} (goes : H → List Entry → H → Type 0) (question : Question) (answer : Answer) (old new : Record H) → Follows goes old (Asked question answer ∷ []) new → MayAsk question old.entries new.entries
may_ask goes question answer old new f = subst (λ n. MayAsk question old.entries n) (sym f.entries) (part_asked question answer old.entries f.part f.begins)

-- memory ran out before the question
pub never_asked : (question : Question) (old : List Entry) → MayAsk question old old
never_asked question old = not_asked refl

-- the same of an equal question
pub asked_same : {question : Question} {old new : List Entry} (put : Question) → put ≡ question → MayAsk put old new → MayAsk question old new
asked_same {old = old} {new = new} put same m = subst (λ q. MayAsk q old new) same m

-- what is given where memory ran out
memory_given : {A : Type 0} (given : Result A FunctionFault) → IsErrAnd given (λ fault. fault ≡ OutOfMemory) → given ≡ Err OutOfMemory
memory_given (Ok value) is = absurd is
memory_given (Err fault) is = ap (λ f. Err f) is

-- memory ran out before anything was asked
pub not_asked_goes : {reading : Reading} (name : List ℕ) (dialogue : Dialogue Value) (old : List Entry) (given : Result Value FunctionFault) → IsErr given × IsErrAnd given (λ fault. fault ≡ OutOfMemory) → Evaluates reading dialogue old old (named name given)
not_asked_goes name dialogue old given is = let e = memory_given given is.1 in rw e (not_begun dialogue old)

-- memory ran out about the question that is asked first
pub may_be_asked_goes : {reading : Reading} {put question : Question} {old new : List Entry} (name : List ℕ) (next : Answer → Dialogue Value) (given : Result Value FunctionFault) → IsErr given × IsErrAnd given (λ fault. fault ≡ OutOfMemory) → put ≡ question → MayAsk put old new → Evaluates reading (Asks question next) old new (named name given)
may_be_asked_goes name next given is same m = let e = memory_given given is.1 in rw (e, ← same) (may_ask_goes next m)

-- memory ran out about the question whether there is something at a path
pub existence_goes : {reading : Reading} {put : Question} {old new : List Entry} (name : List ℕ) (around : Surroundings) (path : List ℕ) (given : Result Value FunctionFault) → (path ≡ [] → ⊥) → IsErr given × IsErrAnd given (λ fault. fault ≡ OutOfMemory) → put ≡ Exists (join around.folder path) → MayAsk put old new → Evaluates reading (exists_dialogue name around path) old new (named name given)
existence_goes name around [] given some is same m = absurd (some refl)
existence_goes name around (byte ∷ bytes) given some is same m = may_be_asked_goes name (λ answer. Ends (truth_told name around.lists (truth_in answer))) given is same m

-- the environment was asked for a variable, or memory ran out before
pub asked_without_memory : (variable : List ℕ) (put : Question) (old new : List Entry) (given : Result (Option (List ℕ)) FunctionFault) → IsErr given × IsErrAnd given (λ fault. fault ≡ OutOfMemory) → put ≡ Environment variable → MayAsk put old new → IsAskedFor variable old new given
asked_without_memory variable put old new given is same m =
    let e = memory_given given is.1 in
    let begun : MayAsk (Environment variable) old new = subst (λ q. MayAsk q old new) same m in
    rw e (record { leads = λ name reading rest. may_ask_begins reading (λ answer. looked_up name variable rest (optional_in answer)) old new begun })

-- memory ran out before the environment was asked
pub not_asked_for : (variable : List ℕ) (old : List Entry) (given : Result (Option (List ℕ)) FunctionFault) → IsErr given × IsErrAnd given (λ fault. fault ≡ OutOfMemory) → IsAskedFor variable old old given
not_asked_for variable old given is = let e = memory_given given is.1 in rw e (record { leads = λ name reading rest. begins_here reading (asked_variable name variable rest) old })

-- memory ran out about a variable that files have
pub without_memory : (dotenv : List Pair) (variable : List ℕ) (old : List Entry) (given : Result (Option (List ℕ)) FunctionFault) → IsErr given × IsErrAnd given (λ fault. fault ≡ OutOfMemory) → IsLookedUp dotenv variable old old given
without_memory dotenv variable old given is = let e = memory_given given is.1 in rw e (record { leads = λ name reading rest. begins_here reading (one_variable name dotenv variable rest) old })

-- a path of no bytes, and one of some
pub no_path : (path : List ℕ) → (length path == 0) ≡ true → path ≡ []
no_path [] e = refl
no_path (byte ∷ bytes) e = absurd (omega (arith, eqb-true (length (byte ∷ bytes)) 0 e))

pub some_path : (path : List ℕ) → (length path == 0) ≡ false → path ≡ [] → ⊥
some_path path some none = let f : (length {A = ℕ} [] == 0) ≡ false = subst (λ l. (length l == 0) ≡ false) none some in absurd (cc f)

-- there is nothing at the empty path
pub existence_none : {reading : Reading} {old : List Entry} (name : List ℕ) (around : Surroundings) (path : List ℕ) (given : Result Value FunctionFault) → path ≡ [] → Answers (Ok (boolean around.lists false)) given → Evaluates reading (exists_dialogue name around path) old old (named name given)
existence_none name around path given none a = rw none (answer_goes name (Ok (boolean around.lists false)) (value_named name (boolean around.lists false) given a))

-- whether there is something at another path was asked and told
pub existence_told : {reading : Reading} {put : Question} {old new : List Entry} {told : Result Bool HostFault} (name : List ℕ) (around : Surroundings) (path : List ℕ) (given : Result Value FunctionFault) → (path ≡ [] → ⊥) → put ≡ Exists (join around.folder path)
    → IsAnswered put truth_in old new told → IsNamed name given (truth_told name around.lists told) → Evaluates reading (exists_dialogue name around path) old new (named name given)
existence_told name around [] given some same answered is = absurd (some refl)
existence_told name around (byte ∷ bytes) given some same answered is = rw (← same) (question_goes name (truth_told name around.lists) answered is)
