-- Variables that are looked up one after another.
use Rattle.std.proofs.Common.{◌≡◌, ℕ, suc, ◌+◌, ◌<◌, ◌≤◌, String, Global, length, get_or, drop, map, drop-cons, add-one, List, [], ◌∷◌, ◌++◌, Option, Some, None, Result, Ok, Err, refl, sym, ap, subst, ◌∙◌}
use Rattle.std.specs.String.{string_bytes}
use Rattle.std.proofs.lemmas.List.{drop_all}
use Rattle.just_host.specs.declared.entry.Entry.{Entry}
use Rattle.just_host.specs.declared.entry.Entry.TheVariants.{Asked}
use Rattle.just_host.specs.declared.host.HostFault.{HostFault}
use Rattle.just_host.specs.declared.host.Question.TheVariants.{Environment}
use Rattle.just_host.specs.declared.job.Pair.{Pair}
use Rattle.evaluate_context.specs.Environment.{last_of}
use Rattle.evaluate_functions.specs.declared.fault.FunctionFault.{FunctionFault}
use Rattle.evaluate_functions.specs.declared.fault.FunctionFault.TheVariants.{OutOfMemory, Message}
use Rattle.meaning_dialogues.specs.Answers.{IsAnswered, optional_in}
use Rattle.meaning_dialogues.specs.Dialogue.{Dialogue, Begins, DialogueGoes, Ends, Evaluates, Reading}
use Rattle.meaning_dialogues.specs.Evaluation.{Value}
use Rattle.meaning_dialogues.specs.Faults.{Fault, function_failed}
use Rattle.meaning_dialogues.proofs.Answered.{answered_asks, may_ask_begins}
use Rattle.meaning_dialogues.proofs.Dialogues.{whole_begins}
use Rattle.evaluate_builtins.specs.Builtins.{first_variable, looked_up}
use Rattle.evaluate_builtins.specs.Named.{IsNamed, named}
use Rattle.evaluate_builtins.specs.Variables.{Finds, IsAskedFor, IsLookedUp, LeadsOn, asked_variable}

found_leads : (name : List ℕ) (reading : Reading) (rest : Dialogue Value) (variable : List ℕ) (old new : List Entry) (told : Result (Option (List ℕ)) HostFault) (result : Result (Option (List ℕ)) FunctionFault)
    → IsAnswered (Environment variable) optional_in old new told → Finds variable told result → LeadsOn name reading (asked_variable name variable rest) rest old new result
found_leads name reading rest variable old new told (Ok (Some text)) a finds =
    (a.answer, subst (λ o. DialogueGoes reading (looked_up name variable rest o) (old ++ Asked (Environment variable) a.answer ∷ []) new (Ok (text ∷ []))) (sym finds ∙ a.is) (a.entries, refl))
found_leads name reading rest variable old new told (Ok None) a finds =
    λ last end goes. (a.answer, subst (λ o. DialogueGoes reading (looked_up name variable rest o) (old ++ Asked (Environment variable) a.answer ∷ []) last end) (sym finds ∙ a.is) (subst (λ now. DialogueGoes reading rest now last end) a.entries goes))
found_leads name reading rest variable old new (Ok found) (Err (Message text)) a finds = absurd finds
found_leads name reading rest variable old new (Err fault) (Err (Message text)) a finds =
    (a.answer, subst (λ o. DialogueGoes reading (looked_up name variable rest o) (old ++ Asked (Environment variable) a.answer ∷ []) new (Err (function_failed name text))) a.is (a.entries, ap (λ t. Err (function_failed name t)) (sym finds)))
found_leads name reading rest variable old new told (Err OutOfMemory) a finds = may_ask_begins reading (λ answer. looked_up name variable rest (optional_in answer)) old new (answered_asks a)

-- a question for a variable, and what is found in its answer
pub asked_for : (variable : List ℕ) (old new : List Entry) (told : Result (Option (List ℕ)) HostFault) (result : Result (Option (List ℕ)) FunctionFault) → IsAnswered (Environment variable) optional_in old new told → Finds variable told result → IsAskedFor variable old new result
asked_for variable old new told result a finds = record { leads = λ name reading rest. found_leads name reading rest variable old new told result a finds }

pub in_the_files : (dotenv : List Pair) (variable text : List ℕ) (old : List Entry) → last_of variable dotenv ≡ Some text → IsLookedUp dotenv variable old old (Ok (Some text))
in_the_files dotenv variable text old e = record { leads = λ name reading rest. rw e (refl, refl) }

pub in_the_environment : (dotenv : List Pair) (variable : List ℕ) (old new : List Entry) (result : Result (Option (List ℕ)) FunctionFault) → last_of variable dotenv ≡ None → IsAskedFor variable old new result → IsLookedUp dotenv variable old new result
in_the_environment dotenv variable old new result e h = record { leads = λ name reading rest. rw e (h.leads name reading rest) }

-- whatever the variables that are left lead to, all lead to
pub record IsLedOn (dotenv : List Pair) (all left : List (List ℕ)) (old now : List Entry) : Type 0 where
  pub on : (name : List ℕ) (reading : Reading) (rest : Dialogue Value) (last : List Entry) (end : Result Value Fault) → DialogueGoes reading (first_variable name dotenv rest left) now last end → DialogueGoes reading (first_variable name dotenv rest all) old last end

pub led_first : (dotenv : List Pair) (all : List (List ℕ)) (old : List Entry) → IsLedOn dotenv all all old old
led_first dotenv all old = record { on = λ name reading rest last end goes. goes }

pub led_more : (dotenv : List Pair) (all left others : List (List ℕ)) (variable : List ℕ) (old now new : List Entry) → IsLedOn dotenv all left old now → left ≡ variable ∷ others → IsLookedUp dotenv variable now new (Ok None) → IsLedOn dotenv all others old new
led_more dotenv all left others variable old now new led e h =
    record { on = λ name reading rest last end goes. led.on name reading rest last end (rw e (h.leads name reading (first_variable name dotenv rest others) last end goes)) }

-- what begins the dialogue of the variables that are left begins that of all
led_begins : (dotenv : List Pair) (all left : List (List ℕ)) (old now new : List Entry) (name : List ℕ) (reading : Reading) (rest : Dialogue Value)
    → IsLedOn dotenv all left old now → Begins reading (first_variable name dotenv rest left) now new → Begins reading (first_variable name dotenv rest all) old new
led_begins dotenv all left old now new name reading rest led b = record { rest = b.rest; result = b.result; goes = led.on name reading rest (new ++ b.rest) b.result b.goes }

pub led_found : (dotenv : List Pair) (all left others : List (List ℕ)) (variable text : List ℕ) (old now new : List Entry) (given : Result Value FunctionFault) (name : List ℕ) (reading : Reading) (rest : Dialogue Value)
    → IsLedOn dotenv all left old now → left ≡ variable ∷ others → IsLookedUp dotenv variable now new (Ok (Some text)) → IsNamed name given (Ok (text ∷ [])) → Evaluates reading (first_variable name dotenv rest all) old new (named name given)
led_found dotenv all left others variable text old now new given name reading rest led e h is =
    let whole : DialogueGoes reading (first_variable name dotenv rest all) old new (Ok (text ∷ [])) = led.on name reading rest new (Ok (text ∷ [])) (rw e (h.leads name reading (first_variable name dotenv rest others))) in
    record { goes = λ n. subst (λ r. DialogueGoes reading (first_variable name dotenv rest all) old new r) (sym (is.is n)) whole; begins = whole_begins reading (first_variable name dotenv rest all) old new (Ok (text ∷ [])) whole }

pub led_refused : (dotenv : List Pair) (all left others : List (List ℕ)) (variable : List ℕ) (fault : FunctionFault) (old now new : List Entry) (name : List ℕ) (reading : Reading) (rest : Dialogue Value)
    → IsLedOn dotenv all left old now → left ≡ variable ∷ others → IsLookedUp dotenv variable now new (Err fault) → Evaluates reading (first_variable name dotenv rest all) old new (named name (Err fault))
led_refused dotenv all left others variable (Message text) old now new name reading rest led e h =
    let whole : DialogueGoes reading (first_variable name dotenv rest all) old new (Err (function_failed name text)) = led.on name reading rest new (Err (function_failed name text)) (rw e (h.leads name reading (first_variable name dotenv rest others))) in
    record { goes = λ n. whole; begins = whole_begins reading (first_variable name dotenv rest all) old new (Err (function_failed name text)) whole }
led_refused dotenv all left others variable OutOfMemory old now new name reading rest led e h =
    let begun : Begins reading (first_variable name dotenv rest left) now new = rw e (h.leads name reading (first_variable name dotenv rest others)) in
    record { goes = λ n. absurd (n refl); begins = led_begins dotenv all left old now new name reading rest led begun }

pub led_to_end : (dotenv : List Pair) (all left : List (List ℕ)) (old new : List Entry) (name : List ℕ) (reading : Reading) (given : Result Value FunctionFault) (said : Result Value Fault)
    → IsLedOn dotenv all left old new → left ≡ [] → IsNamed name given said → Evaluates reading (first_variable name dotenv (Ends said) all) old new (named name given)
led_to_end dotenv all left old new name reading given said led e is =
    let whole : DialogueGoes reading (first_variable name dotenv (Ends said) all) old new said = led.on name reading (Ends said) new said (rw e (refl, refl)) in
    record { goes = λ n. subst (λ r. DialogueGoes reading (first_variable name dotenv (Ends said) all) old new r) (sym (is.is n)) whole; begins = whole_begins reading (first_variable name dotenv (Ends said) all) old new said whole }

-- the variables that are left at a place
pub left_at : (items : List (String Global)) (i : ℕ) (item : String Global) (text : List ℕ) → i < length items → item ≡ get_or items i item → text ≡ string_bytes item → map string_bytes (drop i items) ≡ text ∷ map string_bytes (drop (i + 1) items)
left_at items i item text h is e =
    let there : drop i items ≡ item ∷ drop (i + 1) items = (let d = drop-cons items i item h in rw add-one (d ∙ ap (λ y. y ∷ drop (suc i) items) (sym is))) in
    ap (map string_bytes) there ∙ ap (λ t. t ∷ map string_bytes (drop (i + 1) items)) (sym e)

pub none_left : (items : List (String Global)) (i : ℕ) → length items ≤ i → map string_bytes (drop i items) ≡ []
none_left items i h = ap (map string_bytes) (drop_all i items h)
