-- Terms, and calls however deep they lie, by functions that differ in the numbers of variables alone, at two places that are the same.
use Rattle.std.proofs.Common.{ℕ, zero, suc, List, Option, Some, None, Err, sym, ap, subst}
use Rattle.evaluate_functions.specs.Names.{function_of}
use Rattle.evaluate_context.specs.Surroundings.{Surroundings, Standing}
use Rattle.meaning_dialogues.specs.Faults.{too_deep}
use Rattle.meaning_dialogues.specs.Dialogue.{Dialogue, Lookup, around, in_module, Variable}
use Rattle.meaning_dialogues.specs.Evaluation.{Value, dialogue, row}
use Rattle.meaning_dialogues.specs.Calls.{DefinedFunction, call_defined, empty, function_named, with_parameters}
use Rattle.meaning_dialogues.specs.Terms.{Term}
use Rattle.meaning_dialogues.proofs.Soundness.{Each}
use Rattle.meaning_evaluation.specs.Stages.Stages.{call_named, calls_left, run_stage}
use Rattle.laws_evaluation.specs.Terms.Alike.{Alike, AreAlike}
use Rattle.laws_evaluation.specs.Terms.Renumbering.{renumbered}
use Rattle.laws_evaluation.proofs.Terms.Alike.{alike, inside_alike, row_alike, then_alike}
use Rattle.laws_evaluation.proofs.Opening.Names.{AnyCall, InBodies, SameFunction, SameFunctions, SameIfThere}
use Rattle.laws_runs.specs.ByName.Places.{SameModule, SamePlace}
use Rattle.laws_runs.proofs.ByName.Builtins.{builtin_alike, command_alike}

module _ (m n : Surroundings) (same_module : SameModule m n) (body other : Standing) (in_bodies : SamePlace m n body other) (C : Lookup → Variable → Variable → Type 0) (fs gs : List DefinedFunction) (same : SameFunctions C fs gs) where
  -- calls of that depth are alike, where what corresponds in the module does
  abbrev AlikeAt : ℕ → Type 1
  AlikeAt k = (D : Lookup → Variable → Variable → Type 0) → ((x y : Variable) → C in_module x y → D in_module x y) → (f g : DefinedFunction) → SameFunction C f g → (ds es : List (Dialogue Value)) → AreAlike D ds es
      → Alike D (call_defined (calls_left m fs body k) f ds) (call_defined (calls_left n gs other k) g es)

  named_alike : (k : ℕ) → AlikeAt k → (D : Lookup → Variable → Variable → Type 0) → ((x y : Variable) → C in_module x y → D in_module x y) → (s t : Standing) → SamePlace m n s t → (o p : Option DefinedFunction) → SameIfThere C o p
      → (name file : List ℕ) (ds es : List (Dialogue Value)) → AreAlike D ds es → Alike D (call_named m s (calls_left m fs body k) o name file ds) (call_named n t (calls_left n gs other k) p name file es)
  named_alike k go D up s t at (Some f) (Some g) one name file ds es h = go D up f g one ds es h
  named_alike k go D up s t at None None one name file ds es h = builtin_alike D m n same_module s t at (function_of name) name file ds es h
  named_alike k go D up s t at None (Some g) one name file ds es h = absurd one
  named_alike k go D up s t at (Some f) None one name file ds es h = absurd one

  -- a term of which each variable corresponds to the one of its name is alike to that term with other numbers, where calls of that depth are
  term_with : (k : ℕ) → AlikeAt k → (D : Lookup → Variable → Variable → Type 0) → ((x y : Variable) → C in_module x y → D in_module x y) → (V : Variable → Type 0) (K : List ℕ → ℕ → Type 0) (numbers : List ℕ → Option ℕ)
      → ((x : Variable) → V x → D around x (record { name = x.name; number = numbers x.name })) → (s t : Standing) → SamePlace m n s t → (e : Term) → Each V K e
      → Alike D (dialogue (run_stage m fs s (calls_left m fs body k)) e) (dialogue (run_stage n gs t (calls_left n gs other k)) (renumbered numbers e))
  term_with k go D up V K numbers named s t at e h =
      alike D numbers V K (run_stage m fs s (calls_left m fs body k)) (run_stage n gs t (calls_left n gs other k)) named same_module.lists (λ contents text. command_alike D m n same_module s t at contents text)
      (λ name file ds es a. named_alike k go D up s t at (function_named name fs) (function_named name gs) (same.each name) name file ds es a) e h

  called_alike : (k : ℕ) → AlikeAt k
  called_alike zero D up f g one ds es h = ap (λ name. Err (too_deep name)) one.name
  called_alike (suc k) D up f g one ds es h =
      then_alike D (row ds) (row es) _ _ (row_alike D ds es h)
      (λ values. inside_alike D (InBodies C f g) (with_parameters empty f.parameters values) (with_parameters empty g.parameters values) (λ x y c. (c.0 values, up x y c.1)) (λ x y c. up x y c)
      (dialogue (run_stage m fs body (calls_left m fs body k)) f.body) (dialogue (run_stage n gs other (calls_left n gs other k)) g.body)
      (subst (λ (e : Term). Alike (InBodies C f g) (dialogue (run_stage m fs body (calls_left m fs body k)) f.body) (dialogue (run_stage n gs other (calls_left n gs other k)) e)) (sym one.body)
      (term_with k (called_alike k) (InBodies C f g) (λ x y c. c) (λ x. InBodies C f g around x (record { name = x.name; number = one.numbers x.name })) AnyCall one.numbers (λ x c. c) body other in_bodies f.body one.variables)))

  -- Each term, where each variable corresponds to the one of its name.
  pub term_alike : (k : ℕ) (V : Variable → Type 0) (K : List ℕ → ℕ → Type 0) (numbers : List ℕ → Option ℕ) → ((x : Variable) → V x → C around x (record { name = x.name; number = numbers x.name })) → (s t : Standing) → SamePlace m n s t → (e : Term) → Each V K e
      → Alike C (dialogue (run_stage m fs s (calls_left m fs body k)) e) (dialogue (run_stage n gs t (calls_left n gs other k)) (renumbered numbers e))
  term_alike k V K numbers named s t at e h = term_with k (called_alike k) C (λ x y c. c) V K numbers named s t at e h
