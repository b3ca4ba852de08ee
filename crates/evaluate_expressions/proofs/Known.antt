-- No evaluation of names that are known ends with `internal`.
use Rattle.std.proofs.Common.{◌≡◌, ℕ, Bool, true, false, List, [], Result}
use Rattle.std.specs.BTreeSet.{contains}
use Rattle.std.specs.Ordering.{nat_cmp}
use Rattle.just_host.specs.declared.entry.Entry.{Entry}
use Rattle.evaluate_context.specs.Surroundings.{surroundings_of, standing_in}
use Rattle.meaning_dialogues.specs.Calls.{DefinedFunction}
use Rattle.meaning_dialogues.specs.Dialogue.{Dialogue, Evaluates}
use Rattle.meaning_dialogues.specs.Evaluation.{Value, dialogue, dialogues, text_dialogue, interpreter_dialogue}
use Rattle.meaning_dialogues.specs.Faults.{Fault, TextPlace}
use Rattle.meaning_dialogues.specs.Terms.{Term, Terms, end, more}
use Rattle.meaning_dialogues.proofs.Soundness.{Any}
use Rattle.meaning_evaluation.specs.Stages.Lines.{interpolation, piece_dialogue}
use Rattle.laws_evaluation.specs.Soundness.Endings.{NotInternal, Proper}
use Rattle.laws_evaluation.specs.Soundness.Known.{IsBoundAt, IsReadAt}
use Rattle.laws_evaluation.proofs.Soundness.Endings.{AllProper, then_proper, wider}
use Rattle.laws_evaluation.proofs.Soundness.Results.{comes_to}
use Rattle.laws_evaluation.proofs.Soundness.Terms.{text_proper, interpreter_proper}
use Rattle.laws_evaluation.proofs.Soundness.Constants.{constant_proper}
use Rattle.laws_evaluation.proofs.Soundness.Frames.{read_proper, bound_at, evaluates_properly, names_proper}
use Rattle.evaluate_expressions.specs.Situations.{functions_in, around_body, is_non_const, stage_of, stage_at, reading_at}
use Rattle.evaluate_expressions.specs.Known.{IsReadBy, TermKnownIn, BodiesKnownIn, TermKnownBy, BodiesKnownBy, TermsKnownBy, EachTerm}
use Rattle.evaluate_expressions.specs.declared.evaluator.Evaluator.{Evaluator}
use Rattle.evaluate_expressions.specs.declared.evaluator.Stage.{Stage as StageOf}
use Rattle.evaluate_expressions.specs.declared.evaluator.Stage.TheVariants.{Const, Run}

module _ (reached : DefinedFunction → Bool) where
  proper_in : (stage : StageOf) (e : Evaluator) → BodiesKnownIn stage e reached → (term : Term) → TermKnownIn stage e reached term → Proper (IsReadBy stage e) (dialogue (stage_of stage e) term)
  proper_in (Const lists non_const) e bodies term known = constant_proper lists (IsReadAt (contains nat_cmp non_const.now) e.scope.now e.module_scope.now) term known
  proper_in (Run context) e bodies term known =
      wider (IsBoundAt e.scope.now e.module_scope.now) (IsReadAt (λ number. false) e.scope.now e.module_scope.now) NotInternal (bound_at (λ number. false) e.scope.now e.module_scope.now) (dialogue (stage_of (Run context) e) term)
      (names_proper (surroundings_of context.now) (functions_in context.now) (λ f. reached f ≡ true) (standing_in context.now [] (around_body e.module_scope.now) e.is_dependency e.recipe) (standing_in context.now e.env.now e.scope.now e.is_dependency e.recipe) e.calls_left
      e.scope.now e.module_scope.now bodies term known)

  module _ (e : Evaluator) (bodies : BodiesKnownBy e reached) where
    term_proper : (term : Term) → TermKnownBy e reached term → Proper (IsReadBy e.stage e) (dialogue (stage_at e) term)
    term_proper term known = proper_in e.stage e bodies term known

    terms_proper : (terms : Terms) → TermsKnownBy e reached terms → AllProper (IsReadBy e.stage e) (dialogues (stage_at e) terms)
    terms_proper end known = tt
    terms_proper (more term terms) known = (term_proper term known.0, terms_proper terms known.1)

    -- what reads such variables alone and never ends with `internal` is not evaluated to it
    not_internal : {A : Type 0} (t : Dialogue A) (old new : List Entry) (r : Result A Fault) → Proper (IsReadBy e.stage e) t → Evaluates (reading_at e) t old new r → NotInternal r
    not_internal t old new r proper evaluated =
        evaluates_properly Any t old new r (λ goes. comes_to (IsReadBy e.stage e) NotInternal (reading_at e) (read_proper (is_non_const e.stage) e.scope.now e.module_scope.now) t old new r proper goes) evaluated

    pub value_known : (term : Term) (old new : List Entry) (r : Result Value Fault) → TermKnownBy e reached term → Evaluates (reading_at e) (dialogue (stage_at e) term) old new r → NotInternal r
    value_known term old new r known evaluated = not_internal (dialogue (stage_at e) term) old new r (term_proper term known) evaluated

    pub text_known : (place : TextPlace) (term : Term) (old new : List Entry) (r : Result (List ℕ) Fault) → TermKnownBy e reached term → Evaluates (reading_at e) (text_dialogue place (dialogue (stage_at e) term)) old new r → NotInternal r
    text_known place term old new r known evaluated = not_internal (text_dialogue place (dialogue (stage_at e) term)) old new r (text_proper (IsReadBy e.stage e) place (dialogue (stage_at e) term) (term_proper term known)) evaluated

    pub joined_known : (term : Term) (old new : List Entry) (r : Result (List ℕ) Fault) → TermKnownBy e reached term → Evaluates (reading_at e) (piece_dialogue (stage_at e) false (interpolation term)) old new r → NotInternal r
    joined_known term old new r known evaluated =
        not_internal (piece_dialogue (stage_at e) false (interpolation term)) old new r (then_proper (IsReadBy e.stage e) (dialogue (stage_at e) term) _ (term_proper term known) (λ value. tt)) evaluated

    pub words_known : (setting : List ℕ) (terms : Terms) (old new : List Entry) (r : Result (List ℕ × List (List ℕ)) Fault) → TermsKnownBy e reached terms → Evaluates (reading_at e) (interpreter_dialogue setting (dialogues (stage_at e) terms)) old new r → NotInternal r
    words_known setting terms old new r known evaluated =
        not_internal (interpreter_dialogue setting (dialogues (stage_at e) terms)) old new r (interpreter_proper (IsReadBy e.stage e) setting (dialogues (stage_at e) terms) (terms_proper terms known)) evaluated
