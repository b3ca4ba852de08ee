-- What recipes and items break.
use Rattle.std.proofs.Common.{◌≡◌, ◌∙◌, ◌<◌, ◌-◌, ℕ, zero, suc, Bool, true, false, ◌&&◌, List, Some, None, sym, ap, subst, refl, arith}
use Rattle.std.specs.Prelude.{slice_get, codes}
use Rattle.just_text.specs.declared.compile_error.CompileErrorKind.{CompileErrorKind}
use Rattle.tree_attributes.specs.declared.attribute.AttributeKind.TheVariants.{Cache, ExitMessage, NoCd, NoExitMessage, Script, WorkingDirectory}
use Rattle.tree_attributes.specs.Attributes.{AttributeShape}
use Rattle.tree_items.specs.Recipes.{RecipeShape}
use Rattle.meaning_rules.specs.Worlds.Given.{World}
use Rattle.meaning_rules.specs.Rules.{Rule, syntax, Excludes, by_folder, by_script, by_message, begins_shebang, has, last_of}
use Rattle.tree_items.specs.Lines.{Piece, is_continuation}
use Rattle.just_modules.specs.declared.truths.Truths.{Truths}
use Rattle.just_modules.specs.ItemRules.{BreaksBody, BreaksPlace, BreaksRecipe, body, cache, conflict, continues, goes_on, is_script}
use Rattle.just_modules.proofs.Outcomes.{and_true, not_both, not_true}

pub none_exclude : (attributes : List AttributeShape) (r : RecipeShape) → (has NoCd attributes && has WorkingDirectory attributes) ≡ false → (has Script attributes && begins_shebang r.body) ≡ false → (has ExitMessage attributes && has NoExitMessage attributes) ≡ false
    → (one other : List ℕ) → Excludes attributes r one other → ⊥
none_exclude attributes r f s m one other (by_folder a b) = not_both _ _ f a b
none_exclude attributes r f s m one other (by_script a b) = not_both _ _ s a b
none_exclude attributes r f s m one other (by_message a b) = not_both _ _ m a b

pub folders_exclude : (attributes : List AttributeShape) (r : RecipeShape) → (has NoCd attributes && has WorkingDirectory attributes) ≡ true → Excludes attributes r (codes "no-cd") (codes "working-directory")
folders_exclude attributes r e = let both = and_true _ _ e in by_folder both.0 both.1

pub scripts_exclude : (attributes : List AttributeShape) (r : RecipeShape) → (has Script attributes && begins_shebang r.body) ≡ true → Excludes attributes r (codes "script") (codes "#!")
scripts_exclude attributes r e = let both = and_true _ _ e in by_script both.0 both.1

pub messages_exclude : (attributes : List AttributeShape) (r : RecipeShape) → (has ExitMessage attributes && has NoExitMessage attributes) ≡ true → Excludes attributes r (codes "exit-message") (codes "no-exit-message")
messages_exclude attributes r e = let both = and_true _ _ e in by_message both.0 both.1

-- a line that doesn't go on with the one before
before_own : (w : World) (r : RecipeShape) (line : List Piece) (place : ℕ) → slice_get r.body place ≡ Some line → goes_on r.body place ≡ false → (before : List Piece) → 0 < place → slice_get r.body (place - 1) ≡ Some before → is_continuation (last_of before) ≡ false
before_own w r line zero at own before lt e = absurd (omega arith)
before_own w r line (suc k) at own before lt e =
    let back : suc k - 1 ≡ k = omega arith in
    sym (ap continues (sym (ap (slice_get r.body) back) ∙ e)) ∙ own

pub own_line : (w : World) (guards : Bool) (r : RecipeShape) (place : ℕ) (kind : CompileErrorKind) → BreaksPlace guards r.body place kind → BreaksBody w guards r kind
own_line w guards r place kind (line, at, own, b) = (line, record { place = place; at = at; own = before_own w r line place at own }, b)

stands : (w : World) (r : RecipeShape) (line : List Piece) (place : ℕ) → ((before : List Piece) → 0 < place → slice_get r.body (place - 1) ≡ Some before → is_continuation (last_of before) ≡ false) → goes_on r.body place ≡ false
stands w r line zero own = refl
stands w r line (suc k) own =
    let back : suc k - 1 ≡ k = omega arith in
    elim (slice_get r.body k) as (λ o. slice_get r.body k ≡ o → continues o ≡ false) [
      | None ↦ λ e. refl
      | Some before ↦ λ e. own before (omega arith) (ap (slice_get r.body) back ∙ e)
    ] refl

pub place_of_line : (w : World) (guards : Bool) (r : RecipeShape) (kind : CompileErrorKind) → BreaksBody w guards r kind → (place : ℕ) × BreaksPlace guards r.body place kind
place_of_line w guards r kind (line, own, b) = (own.place, (line, own.at, stands w r line own.place own.own, b))

pub recipe_is_clear : (w : World) (truths : Truths) (attributes : List AttributeShape) (r : RecipeShape) → (is_script truths attributes r ≡ false → (w : World) (kind : CompileErrorKind) → BreaksBody w truths.guards r kind → ⊥)
    → has Cache attributes ≡ false → ((one other : List ℕ) → Excludes attributes r one other → ⊥) → (rule : Rule) → BreaksRecipe w truths attributes r rule → ⊥
recipe_is_clear w truths attributes r lines uncached apart rule (body plain b) = lines plain w _ b
recipe_is_clear w truths attributes r lines uncached apart rule (cache e) = not_true _ uncached e
recipe_is_clear w truths attributes r lines uncached apart rule (conflict x) = apart _ _ x

pub lines_are_clear : (guards : Bool) (lines : List (List Piece)) (r : RecipeShape) → lines ≡ r.body → ((place : ℕ) (kind : CompileErrorKind) → BreaksPlace guards lines place kind → ⊥) → (w : World) (kind : CompileErrorKind) → BreaksBody w guards r kind → ⊥
lines_are_clear guards lines r is clear w kind b =
    let p = place_of_line w guards r kind b in
    clear p.0 kind (subst (λ ls. BreaksPlace guards ls p.0 kind) (sym is) p.1)

pub lines_break : (w : World) (truths : Truths) (attributes : List AttributeShape) (r : RecipeShape) (lines : List (List Piece)) (place : ℕ) (kind : CompileErrorKind) → is_script truths attributes r ≡ false → lines ≡ r.body → BreaksPlace truths.guards lines place kind → BreaksRecipe w truths attributes r (syntax kind)
lines_break w truths attributes r lines place kind plain is b = body plain (own_line w truths.guards r place kind (subst (λ ls. BreaksPlace truths.guards ls place kind) is b))
