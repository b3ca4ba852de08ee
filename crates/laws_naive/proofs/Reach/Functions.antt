-- Expressions are evaluated alike over functions of which those are the same that they call, through any chain.
use Rattle.std.proofs.Common.{◌≡◌, ℕ, zero, suc, List, map, Option, Some, None, refl, sym, ap, ◌∙◌}
use Rattle.std.proofs.Math.Path.{fun_ext}
use Rattle.std.specs.Prelude.{Contains}
use Rattle.std.specs.Option.{option_map}
use Rattle.tree_expressions.specs.Shape.{Shape}
use Rattle.parse_expressions.specs.Literals.{Expansion}
use Rattle.evaluate_context.specs.Surroundings.{Surroundings, Standing}
use Rattle.meaning_dialogues.specs.Dialogue.{Dialogue, ◌>>=◌, Variable}
use Rattle.meaning_dialogues.specs.Evaluation.{Value, row, dialogue}
use Rattle.meaning_dialogues.specs.Calls.{DefinedFunction, call_defined, function_named, empty, with_parameters, inside}
use Rattle.meaning_dialogues.specs.Written.{term_in, numbered, numbers_from}
use Rattle.meaning_evaluation.specs.Stages.Stages.{call_named, command_dialogue, run_stage, calls_left}
use Rattle.meaning_rules.specs.Naming.{Occurrence, a_variable, a_call, occurrences}
use Rattle.meaning_evaluation.specs.Named.{FunctionRow}
use Rattle.meaning_evaluation.specs.Scopes.{defined_in}
use Rattle.just_meaning.specs.Reading.{itself, function_row}
use Rattle.laws_agreement.proofs.Agreement.Lists.{all_more, all_contained}
use Rattle.laws_agreement.proofs.Agreement.Terms.{Says, each_term}
use Rattle.laws_agreement.proofs.Agreement.Functions.{function_is}
use Rattle.laws_agreement.proofs.Agreement.Same.{same_dialogue}
use Rattle.laws_naive.proofs.Reach.Reached.{SameCalls, inside_call}

module _ (expansion : Expansion) (rows rows' : List FunctionRow) (m : Surroundings) (in_body : Standing) where
  abbrev functions : List DefinedFunction
  functions = map (defined_in expansion) rows

  abbrev functions' : List DefinedFunction
  functions' = map (defined_in expansion) rows'

  -- the calls of that depth are the same
  abbrev SameAt : ℕ → Type 0
  SameAt n = (f : FunctionRow) (ds : List (Dialogue Value)) → SameCalls rows rows' f.body f.parameters
      → call_defined (calls_left m functions in_body n) (defined_in expansion f) ds ≡ call_defined (calls_left m functions' in_body n) (defined_in expansion f) ds

  by_row : (n : ℕ) (s : Standing) (o : Option FunctionRow) (name : List ℕ) → ((f : FunctionRow) (ds : List (Dialogue Value)) → o ≡ Some f → call_defined (calls_left m functions in_body n) (defined_in expansion f) ds ≡ call_defined (calls_left m functions' in_body n) (defined_in expansion f) ds)
      → (file : List ℕ) (ds : List (Dialogue Value)) → call_named m s (calls_left m functions in_body n) (option_map (defined_in expansion) o) name file ds ≡ call_named m s (calls_left m functions' in_body n) (option_map (defined_in expansion) o) name file ds
  by_row n s (Some f) name go file ds = go f ds refl
  by_row n s None name go file ds = refl

  same_named : (n : ℕ) (s : Standing) (name : List ℕ) → function_row name rows ≡ function_row name rows' → ((f : FunctionRow) (ds : List (Dialogue Value)) → function_row name rows ≡ Some f → call_defined (calls_left m functions in_body n) (defined_in expansion f) ds ≡ call_defined (calls_left m functions' in_body n) (defined_in expansion f) ds)
      → (file : List ℕ) (ds : List (Dialogue Value)) → call_named m s (calls_left m functions in_body n) (function_named name functions) name file ds ≡ call_named m s (calls_left m functions' in_body n) (function_named name functions') name file ds
  same_named n s name same go file ds =
      ap (λ o. call_named m s (calls_left m functions in_body n) o name file ds) (function_is expansion name rows)
      ∙ (by_row n s (function_row name rows) name go file ds
      ∙ ap (λ o. call_named m s (calls_left m functions' in_body n) o name file ds) (ap (option_map (defined_in expansion)) same ∙ sym (function_is expansion name rows')))

  -- a call is the same by both
  abbrev Alike : ℕ → Standing → List ℕ → ℕ → Type 0
  Alike n s name count = (at : List ℕ) (ds : List (Dialogue Value)) → call_named m s (calls_left m functions in_body n) (function_named name functions) name at ds ≡ call_named m s (calls_left m functions' in_body n) (function_named name functions') name at ds

  abbrev Anything : Variable → Type 0
  Anything x = Unit {0}

  same_term : (n : ℕ) → SameAt n → (s : Standing) (file : List ℕ) (numbers : List ℕ → Option ℕ) (e : Shape) (hidden : List (List ℕ)) → SameCalls rows rows' e hidden
      → dialogue (run_stage m functions s (calls_left m functions in_body n)) (term_in expansion file numbers e) ≡ dialogue (run_stage m functions' s (calls_left m functions' in_body n)) (term_in expansion file numbers e)
  same_term n go s file numbers e hidden h =
      same_dialogue m.lists (λ contents written. command_dialogue m s m.dry_run contents written) (λ contents written. command_dialogue m s m.dry_run contents written)
      (λ name at ds. call_named m s (calls_left m functions in_body n) (function_named name functions) name at ds)
      (λ name at ds. call_named m s (calls_left m functions' in_body n) (function_named name functions') name at ds)
      (λ contents written. refl) (term_in expansion file numbers e)
      (each_term expansion file numbers Anything (Alike n s) e (all_more (Contains (occurrences e)) _ says (occurrences e) (all_contained (occurrences e))))
    where
      says : (o : Occurrence) → Contains (occurrences e) o → Says expansion file numbers Anything (Alike n s) o
      says (a_variable name) c = tt
      says (a_call name count) c = same_named n s name (h.same e hidden name count itself c) (λ f ds there. go f ds (inside_call rows rows' name count f h c there))

  same_at : (n : ℕ) → SameAt n
  same_at zero f ds h = refl
  same_at (suc n) f ds h =
      ap (λ k. row ds >>= k) (fun_ext (λ values. ap (inside (with_parameters empty (numbers_from 0 f.parameters) values)) (same_term n (same_at n) in_body f.file (numbered f.parameters) f.body f.parameters h)))

  -- What calls the same functions is evaluated alike.
  pub same_expression : (n : ℕ) (s : Standing) (file : List ℕ) (numbers : List ℕ → Option ℕ) (e : Shape) (hidden : List (List ℕ)) → SameCalls rows rows' e hidden
      → dialogue (run_stage m functions s (calls_left m functions in_body n)) (term_in expansion file numbers e) ≡ dialogue (run_stage m functions' s (calls_left m functions' in_body n)) (term_in expansion file numbers e)
  same_expression n s file numbers e hidden h = same_term n (same_at n) s file numbers e hidden h
