-- A run by functions that differ in the numbers of variables alone has dialogues that are alike.
use Rattle.std.proofs.Common.{ℕ, zero, suc, List, Option, Some, None, Err, refl, sym, ap, subst}
use Rattle.evaluate_functions.specs.Arguments.{takes_text}
use Rattle.evaluate_functions.specs.Names.{function_of}
use Rattle.evaluate_functions.specs.declared.function.Function.{Function}
use Rattle.evaluate_context.specs.Surroundings.{Surroundings, Standing}
use Rattle.evaluate_builtins.specs.Builtins.{builtin}
use Rattle.meaning_dialogues.specs.Faults.{too_deep}
use Rattle.meaning_dialogues.specs.Dialogue.{Dialogue, Ends, Asks, Reads, Lookup, around, in_module, Variable}
use Rattle.meaning_dialogues.specs.Evaluation.{Value, row, dialogue}
use Rattle.meaning_dialogues.specs.Calls.{DefinedFunction, empty, with_parameters, arguments, call_defined, function_named}
use Rattle.meaning_dialogues.specs.Terms.{Term}
use Rattle.meaning_dialogues.proofs.Soundness.{Sound, Any}
use Rattle.laws_evaluation.specs.Terms.Alike.{Alike, AreAlike}
use Rattle.laws_evaluation.specs.Terms.Renumbering.{renumbered}
use Rattle.laws_evaluation.proofs.Terms.Alike.{then_alike, row_alike, arguments_alike, inside_alike, alike}
use Rattle.meaning_evaluation.specs.Stages.Stages.{call_builtin, call_named, command_dialogue, run_stage, calls_left}
use Rattle.meaning_evaluation.proofs.Stages.Tables.{builtin_sound, command_sound}
use Rattle.laws_evaluation.proofs.Opening.Names.{AnyCall, InBodies, CorrespondIn, SameFunction, SameIfThere, SameFunctions}

abbrev ReadsNone : Lookup → Variable → Type 0
ReadsNone place x = ⊥

-- what reads nothing is alike to itself
pub alike_itself : {A : Type 0} (C : Lookup → Variable → Variable → Type 0) (t : Dialogue A) → Sound ReadsNone Any t → Alike C t t
alike_itself C (Ends r) h = refl
alike_itself C (Asks q next) h = (refl, λ answer. alike_itself C (next answer) (h answer))
alike_itself C (Reads place x next) h = absurd h.0

module _ (m : Surroundings) (in_body : Standing) where
  builtin_alike : (C : Lookup → Variable → Variable → Type 0) (s : Standing) (o : Option Function) (name file : List ℕ) (ds es : List (Dialogue Value)) → AreAlike C ds es → Alike C (call_builtin m s o name file ds) (call_builtin m s o name file es)
  builtin_alike C s None name file ds es h = refl
  builtin_alike C s (Some f) name file ds es h =
      then_alike C (arguments (takes_text f) name 0 ds) (arguments (takes_text f) name 0 es) _ _ (arguments_alike C (takes_text f) name 0 ds es h)
      (λ values. alike_itself C (builtin m s name file f values) (builtin_sound ReadsNone m s name file f values))

  module _ (C : Lookup → Variable → Variable → Type 0) (fs gs : List DefinedFunction) (same : SameFunctions C fs gs) where
    -- calls of that depth are alike, where what corresponds in the module does
    abbrev AlikeAt : ℕ → Type 1
    AlikeAt n = (D : Lookup → Variable → Variable → Type 0) → ((x y : Variable) → C in_module x y → D in_module x y) → (f g : DefinedFunction) → SameFunction C f g → (ds es : List (Dialogue Value)) → AreAlike D ds es
        → Alike D (call_defined (calls_left m fs in_body n) f ds) (call_defined (calls_left m gs in_body n) g es)

    named_alike : (n : ℕ) → AlikeAt n → (D : Lookup → Variable → Variable → Type 0) → ((x y : Variable) → C in_module x y → D in_module x y) → (s : Standing) (o p : Option DefinedFunction) → SameIfThere C o p → (name file : List ℕ) (ds es : List (Dialogue Value)) → AreAlike D ds es
        → Alike D (call_named m s (calls_left m fs in_body n) o name file ds) (call_named m s (calls_left m gs in_body n) p name file es)
    named_alike n go D up s (Some f) (Some g) one name file ds es h = go D up f g one ds es h
    named_alike n go D up s None None one name file ds es h = builtin_alike D s (function_of name) name file ds es h
    named_alike n go D up s None (Some g) one name file ds es h = absurd one
    named_alike n go D up s (Some f) None one name file ds es h = absurd one

    called_alike : (n : ℕ) → AlikeAt n
    called_alike zero D up f g one ds es h = ap (λ name. Err (too_deep name)) one.name
    called_alike (suc n) D up f g one ds es h =
        then_alike D (row ds) (row es) _ _ (row_alike D ds es h)
        (λ vs. inside_alike D (InBodies C f g) (with_parameters empty f.parameters vs) (with_parameters empty g.parameters vs) (λ x y c. (c.0 vs, up x y c.1)) (λ x y c. up x y c)
        (dialogue (run_stage m fs in_body (calls_left m fs in_body n)) f.body) (dialogue (run_stage m gs in_body (calls_left m gs in_body n)) g.body)
        (subst (λ (t : Term). Alike (InBodies C f g) (dialogue (run_stage m fs in_body (calls_left m fs in_body n)) f.body) (dialogue (run_stage m gs in_body (calls_left m gs in_body n)) t)) (sym one.body)
        (alike (InBodies C f g) one.numbers (λ x. InBodies C f g around x (record { name = x.name; number = one.numbers x.name })) AnyCall (run_stage m fs in_body (calls_left m fs in_body n)) (run_stage m gs in_body (calls_left m gs in_body n))
        (λ x c. c) refl (λ contents text. alike_itself (InBodies C f g) (command_dialogue m in_body m.dry_run contents text) (command_sound ReadsNone m in_body m.dry_run contents text))
        (λ name file xs ys a. named_alike n (called_alike n) (InBodies C f g) (λ x y c. c) in_body (function_named name fs) (function_named name gs) (same.each name) name file xs ys a)
        f.body one.variables)))

    -- calls by a name are alike, as `alike_by_names` of terms wants
    pub calls_by_names : (n : ℕ) (s : Standing) (name file : List ℕ) (ds es : List (Dialogue Value)) → AreAlike C ds es
        → Alike C (call_named m s (calls_left m fs in_body n) (function_named name fs) name file ds) (call_named m s (calls_left m gs in_body n) (function_named name gs) name file es)
    calls_by_names n s name file ds es h = named_alike n (called_alike n) C (λ x y c. c) s (function_named name fs) (function_named name gs) (same.each name) name file ds es h

    -- by functions that differ in the numbers of variables alone, the dialogues of a term and of that term with other numbers are alike
    pub terms_by_names : (n : ℕ) (s : Standing) (numbers : List ℕ → Option ℕ) (t : Term) → CorrespondIn C numbers t
        → Alike C (dialogue (run_stage m fs s (calls_left m fs in_body n)) t) (dialogue (run_stage m gs s (calls_left m gs in_body n)) (renumbered numbers t))
    terms_by_names n s numbers t h =
        alike C numbers (λ x. C around x (record { name = x.name; number = numbers x.name })) AnyCall (run_stage m fs s (calls_left m fs in_body n)) (run_stage m gs s (calls_left m gs in_body n))
        (λ x c. c) refl (λ contents text. alike_itself C (command_dialogue m s m.dry_run contents text) (command_sound ReadsNone m s m.dry_run contents text)) (calls_by_names n s) t h
