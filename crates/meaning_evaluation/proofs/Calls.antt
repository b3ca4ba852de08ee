-- Whether two calls are the same is decided.
use Rattle.std.proofs.Common.{◌≡◌, Bool, refl, ap, ◌∙◌}
use Rattle.std.specs.Bool.{Decides}
use Rattle.std.specs.Str.{bytes_eq}
use Rattle.std.specs.Cmp.Lexicographic.{pointwise}
use Rattle.std.proofs.lemmas.Slice.Eq.{slice_eq-Decides, bytes_eq-Decides}
use Rattle.meaning_evaluation.specs.Named.{RecipeName, Call, same_recipe, same_call}
use Rattle.meaning_runs.proofs.Pieces.{and_both}

recipe_from : (a b : RecipeName) → a.path ≡ b.path → a.recipe ≡ b.recipe → a ≡ b
recipe_from a b e f =
    ap (λ p. let r : RecipeName = record { path = p; recipe = a.recipe } in r) e ∙ ap (λ n. let r : RecipeName = record { path = b.path; recipe = n } in r) f

call_from : (a b : Call) → a.recipe ≡ b.recipe → a.groups ≡ b.groups → a ≡ b
call_from a b e f =
    ap (λ n. let r : Call = record { recipe = n; groups = a.groups } in r) e ∙ ap (λ g. let r : Call = record { recipe = b.recipe; groups = g } in r) f

decided_by : {P Q : Type 0} (r : Bool) → Decides r P → (P → Q) → (Q → P) → Decides r Q
decided_by r d f g = (λ e. f (d.0 e), λ q. d.1 (g q))

recipes_decide : (a b : RecipeName) → Decides (same_recipe a b) (a ≡ b)
recipes_decide a b =
    decided_by (same_recipe a b) (and_both (pointwise bytes_eq a.path b.path) (bytes_eq a.recipe b.recipe) (slice_eq-Decides bytes_eq-Decides a.path b.path _ refl) (bytes_eq-Decides a.recipe b.recipe))
    (λ h. recipe_from a b h.0 h.1) (λ e. (ap (λ x. x.path) e, ap (λ x. x.recipe) e))

-- one recipe with equal groups is one call
pub calls_decide : (a b : Call) → Decides (same_call a b) (a ≡ b)
calls_decide a b =
    decided_by (same_call a b)
    (and_both (same_recipe a.recipe b.recipe) (pointwise (pointwise bytes_eq) a.groups b.groups) (recipes_decide a.recipe b.recipe)
    (slice_eq-Decides (λ x y. slice_eq-Decides bytes_eq-Decides x y _ refl) a.groups b.groups _ refl))
    (λ h. call_from a b h.0 h.1) (λ e. (ap (λ x. x.recipe) e, ap (λ x. x.groups) e))
