-- The function of a name, as evaluation finds it and as it is defined.
use Rattle.std.proofs.Common.{◌≡◌, ℕ, Bool, true, false, cond, List, [], ◌∷◌, Option, Some, None, refl, ap, ◌∙◌}
use Rattle.std.specs.Borrow.{Bor}
use Rattle.std.specs.Option.{option_map}
use Rattle.std.specs.Str.{bytes_eq}
use Rattle.just_text.specs.Tokens.{lexeme}
use Rattle.tree_items.specs.declared.item.FunctionDefinition.{FunctionDefinition}
use Rattle.evaluate_context.specs.Functions.{first_named}
use Rattle.evaluate_context.specs.declared.context.FunctionRef.{FunctionRef}
use Rattle.meaning_dialogues.specs.Calls.{function_named}
use Rattle.meaning_evaluation.specs.Stages.Stages.{defined_of, definitions}

chosen : (t : Bool) (f : FunctionDefinition) (o : Option FunctionDefinition) → option_map defined_of (cond t (Some f) o) ≡ cond t (Some (defined_of f)) (option_map defined_of o)
chosen true f o = refl
chosen false f o = refl

first_defined : (name : List ℕ) (fs : List FunctionRef) → option_map defined_of (first_named name fs) ≡ function_named name (definitions fs)
first_defined name [] = refl
first_defined name (f ∷ fs) =
    let same = bytes_eq (lexeme f.definition.now.name.token) name in
    chosen same f.definition.now (first_named name fs) ∙ ap (λ later. cond same (Some (defined_of f.definition.now)) later) (first_defined name fs)

borrowed : (o : Option (Bor FunctionDefinition)) → option_map (λ f. defined_of f.now) o ≡ option_map defined_of (option_map (λ f. f.now) o)
borrowed None = refl
borrowed (Some f) = refl

pub found_defined : (name : List ℕ) (fs : List FunctionRef) (o : Option (Bor FunctionDefinition)) → option_map (λ f. f.now) o ≡ first_named name fs → option_map (λ f. defined_of f.now) o ≡ function_named name (definitions fs)
found_defined name fs o is = borrowed o ∙ (ap (option_map defined_of) is ∙ first_defined name fs)
