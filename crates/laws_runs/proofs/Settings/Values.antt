-- An expression of a setting has one value.
use Rattle.std.proofs.Common.{◌≡◌, refl, sym, ◌∙◌, ap, Bool, true, false, List, Some, Ok}
use Rattle.tree_expressions.specs.Shape.{Shape}
use Rattle.meaning_dialogues.specs.Evaluation.{Value}
use Rattle.meaning_rules.specs.Worlds.Given.{Overrides, Text, World}
use Rattle.meaning_rules.specs.Constants.{HasValue, meant, said_by}
use Rattle.meaning_rules.proofs.Meaning.{means_at_most_one, same_meant}

-- truth values are the same where each is true if the other is
pub bool_same : (b c : Bool) → (b ≡ true → c ≡ true) → (c ≡ true → b ≡ true) → b ≡ c
bool_same true c f g = sym (f refl)
bool_same false true f g = g refl
bool_same false false f g = refl

-- the values that stand for an expression are one
pub one_value : (w : World) (o : Overrides) (path : List Text) (own : Text) (e : Shape) (value value' : Value) → HasValue w o path own e value → HasValue w o path own e value' → value ≡ value'
one_value w o path own e value value' h k =
    let on : h.lists ≡ k.lists = bool_same h.lists k.lists (λ e. k.are_lists.1 (h.are_lists.0 e)) (λ e. h.are_lists.1 (k.are_lists.0 e)) in
    let same : Some (Ok value) ≡ Some (Ok value') =
    sym h.is
    ∙ same_meant h.variables k.variables w.expansion h.lists e (λ x c. means_at_most_one w o path own x (h.variables x) (k.variables x) (h.mean x c) (k.mean x c))
    ∙ ap (λ q. meant w.expansion q k.variables (said_by w.expansion q k.variables e)) on
    ∙ k.is in
    cc same
