-- The first function of a name, among those that are not seen yet.
use Rattle.std.proofs.Common.{◌≡◌, ℕ, ◌+◌, ◌<◌, false, cond, List, ◌∷◌, length, get_or, drop, Some, refl, ap, ◌∙◌, add-one, drop-cons}
use Rattle.std.specs.Str.{bytes_eq}
use Rattle.just_text.specs.Tokens.{lexeme}
use Rattle.evaluate_context.specs.Functions.{first_named}
use Rattle.evaluate_context.specs.declared.context.FunctionRef.{FunctionRef}

at_place : (fs : List FunctionRef) (i : ℕ) (f : FunctionRef) → i < length fs → f ≡ get_or fs i f → drop i fs ≡ f ∷ drop (i + 1) fs
at_place fs i f lt is = rw (add-one, drop-cons fs i f lt, ← is) refl

pub first_later : (name : List ℕ) (fs : List FunctionRef) (i : ℕ) (f : FunctionRef) → i < length fs → f ≡ get_or fs i f → bytes_eq (lexeme f.definition.now.name.token) name ≡ false
    → first_named name fs ≡ first_named name (drop i fs) → first_named name fs ≡ first_named name (drop (i + 1) fs)
first_later name fs i f lt is other so_far = so_far ∙ (ap (first_named name) (at_place fs i f lt is) ∙ ap (λ same. cond same (Some f.definition.now) (first_named name (drop (i + 1) fs))) other)
