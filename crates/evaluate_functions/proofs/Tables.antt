-- A part of a text answers by the table.
use Rattle.std.proofs.Common.{ℕ, List, [], ◌∷◌, ◌≡◌, Bool, Some}
use Rattle.std.specs.Option.{option_or}
use Rattle.std.specs.Prelude.{Result, Ok}
use Rattle.evaluate_functions.specs.declared.fault.FunctionFault.{FunctionFault}
use Rattle.evaluate_functions.specs.declared.function.Function.{Function}
use Rattle.evaluate_functions.specs.Functions.{Answers, AnswersAny, pure, stripped, text_at, trimmed}

pub part_answers : (lists : Bool) (function : Function) (values : List (List (List ℕ))) (part : List ℕ) (given : Result (List (List ℕ)) FunctionFault)
    → Some part ≡ option_or (trimmed function (text_at values 0)) (stripped function (text_at values 1) (text_at values 0)) → Answers (Ok (part ∷ [])) given → AnswersAny (pure lists function values) (Some given)
part_answers lists function values part given e h = rw (← e) h
