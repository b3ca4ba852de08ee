-- The arguments of functions that tell variables.
use Rattle.std.proofs.Common.{◌≡◌, ℕ, ◌<◌, ◌≤◌, List, [], ◌∷◌, length, get_or, Some, None, refl, ap, arith}
use Rattle.just_host.specs.declared.job.Pair.{Pair}
use Rattle.meaning_dialogues.specs.Dialogue.{Ends}
use Rattle.meaning_dialogues.specs.Evaluation.{Value}
use Rattle.evaluate_builtins.specs.Builtins.{environment_dialogue, first_variable}
use Rattle.evaluate_builtins.specs.Variables.{default_told}

pub one_argument : (name : List ℕ) (dotenv : List Pair) (values : List Value) (variables : Value) → 1 ≤ length values → length values < 2 → variables ≡ get_or values 0 variables → first_variable name dotenv (Ends (default_told name variables None)) variables ≡ environment_dialogue name dotenv values
one_argument name dotenv [] variables h g e = absurd (omega (arith, h))
one_argument name dotenv (v ∷ []) variables h g e = ap (λ vs. first_variable name dotenv (Ends (default_told name vs None)) vs) e
one_argument name dotenv (v ∷ w ∷ ws) variables h g e = absurd (omega (arith, g))

pub two_arguments : (name : List ℕ) (dotenv : List Pair) (values : List Value) (variables default : Value) → 2 ≤ length values → variables ≡ get_or values 0 variables → default ≡ get_or values 1 default → first_variable name dotenv (Ends (default_told name variables (Some default))) variables ≡ environment_dialogue name dotenv values
two_arguments name dotenv [] variables default h e d = absurd (omega (arith, h))
two_arguments name dotenv (v ∷ []) variables default h e d = absurd (omega (arith, h))
two_arguments name dotenv (v ∷ w ∷ ws) variables default h e d = rw (e, d) refl
