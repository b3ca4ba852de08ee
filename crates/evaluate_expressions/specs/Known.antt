-- Names that are known where an evaluator stands.
use Rattle.std.specs.Prelude.{◌≡◌, ℕ, Bool, true, List}
use Rattle.std.specs.BTreeSet.{contains}
use Rattle.std.specs.Ordering.{nat_cmp}
use Rattle.meaning_dialogues.specs.Calls.{DefinedFunction}
use Rattle.meaning_dialogues.specs.Dialogue.{Lookup, Variable}
use Rattle.meaning_dialogues.specs.Terms.{Term, Terms, end, more}
use Rattle.meaning_dialogues.proofs.Soundness.{Each}
use Rattle.laws_evaluation.specs.Soundness.Known.{IsBoundIn, IsReadIn, IsReadAt, NamesKnown, BodiesKnown}
use Rattle.evaluate_expressions.specs.Situations.{functions_in, is_non_const}
use Rattle.evaluate_expressions.specs.declared.evaluator.Evaluator.{Evaluator}
use Rattle.evaluate_expressions.specs.declared.evaluator.Stage.{Stage as StageOf}
use Rattle.evaluate_expressions.specs.declared.evaluator.Stage.TheVariants.{Const, Run}

-- the variables that are bound in its frames, or no constants
abbrev pub IsReadBy : StageOf → Evaluator → Lookup → Variable → Type 0
IsReadBy stage e = IsReadAt (is_non_const stage) e.scope.now e.module_scope.now

-- the names in a term are known: each variable is bound in the frames, or no constant; and in a run each call names a function that may be reached, with as many arguments as it has parameters, or a built-in one
abbrev pub TermKnownIn : StageOf → Evaluator → (DefinedFunction → Bool) → Term → Type 0
TermKnownIn (Const lists non_const) e reached term = Each (λ x. IsReadIn (contains nat_cmp non_const.now) e.scope.now x.number) (λ name arguments. Unit {0}) term
TermKnownIn (Run context) e reached term = NamesKnown (functions_in context.now) (λ f. reached f ≡ true) (λ x. IsBoundIn e.scope.now x.number) term

-- so are those in the bodies of functions that may be reached, whose variables are parameters or bound in the module's frames; a constant calls none
abbrev pub BodiesKnownIn : StageOf → Evaluator → (DefinedFunction → Bool) → Type 0
BodiesKnownIn (Const lists non_const) e reached = Unit {0}
BodiesKnownIn (Run context) e reached = BodiesKnown (functions_in context.now) (λ f. reached f ≡ true) (λ x. IsBoundIn e.module_scope.now x.number)

-- each of these terms is so
abbrev pub EachTerm : (Term → Type 0) → Terms → Type 0
EachTerm K end = Unit {0}
EachTerm K (more term terms) = K term × EachTerm K terms

-- what functions that may be reached name is known
abbrev pub BodiesKnownBy : Evaluator → (DefinedFunction → Bool) → Type 0
BodiesKnownBy e reached = BodiesKnownIn e.stage e reached

-- the names are known in a term, in each of these terms, and in each part of a line
abbrev pub TermKnownBy : Evaluator → (DefinedFunction → Bool) → Term → Type 0
TermKnownBy e reached term = TermKnownIn e.stage e reached term

abbrev pub TermsKnownBy : Evaluator → (DefinedFunction → Bool) → Terms → Type 0
TermsKnownBy e reached terms = EachTerm (TermKnownBy e reached) terms
