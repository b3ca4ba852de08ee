-- Menus of their parts.
use Rattle.std.proofs.Common.{◌≡◌, ◌⊎◌, inl, inr, ℕ, zero, suc, ◌<◌, ◌≤◌, cond, List, [], ◌∷◌, length, map, Option, Some, None, refl, sym, ap, ◌∙◌, arith}
use Rattle.std.specs.Prelude.{slice_get}
use Rattle.std.specs.BTreeSet.{BTreeSet}
use Rattle.std.specs.Borrow.{Bor}
use Rattle.std.specs.Option.{option_and_then, option_or}
use Rattle.evaluate_context.specs.declared.settings.Settings.{Settings}
use Rattle.modules_compilation.specs.declared.compilation.Compilation.{Compilation}
use Rattle.modules_compilation.specs.declared.module_node.ModuleNode.{ModuleNode}
use Rattle.resolve_analysis.specs.declared.recipes.RecipeTable.{RecipeTable}
use Rattle.resolve_analysis.specs.declared.recipes.ResolvedRecipe.{ResolvedRecipe}
use Rattle.analyze_words.specs.Menus.{has, meaning}
use Rattle.analyze_words.specs.Worded.{slot_of}
use Rattle.analyze_words.specs.declared.menu.Callable.{Callable}
use Rattle.analyze_words.specs.declared.menu.Meaning.TheVariants.{Recipe}
use Rattle.analyze_words.specs.declared.menu.Menu.{Menu}
use Rattle.analyze_words.specs.declared.menu.Menus.{Menus}
use Rattle.justfile_analyzer.specs.MenusOf.{AreMenusOf, IsCallableOf, IsMeant, called_in, default_at, has_name, is_wanted, lists_by, meaning_at, meant_in, slots_at, submodule_meant}
use Rattle.justfile_analyzer.specs.MenuRows.{AreCallables, AreMenus, AreNamedBy, EachIs, IsCallable, IsNamedBy}
use Rattle.justfile_analyzer.proofs.MenuRows.{by_test}

-- what stands at a place of two rows of one length
record BothAt {X Y : Type 0} (Is : ℕ → X → Y → Type 0) (xs : List X) (ys : List Y) (place : ℕ) : Type 0 where
  pub one : X
  pub other : Y
  pub one_at : slice_get xs place ≡ Some one
  pub other_at : slice_get ys place ≡ Some other
  pub is : Is place one other

past_one : {X : Type 0} (xs : List X) (place : ℕ) → slice_get xs place ≡ None → length xs ≤ place
past_one [] place e = omega arith
past_one (x ∷ xs) zero e = absurd (cc e)
past_one (x ∷ xs) (suc place) e = let h = past_one xs place e in omega (arith, h)

within_one : {X : Type 0} (xs : List X) (place : ℕ) (x : X) → slice_get xs place ≡ Some x → place < length xs
within_one [] place x e = absurd (cc e)
within_one (y ∷ xs) zero x e = omega arith
within_one (y ∷ xs) (suc place) x e = let h = within_one xs place x e in omega (arith, h)

both_at : {X Y : Type 0} {Is : ℕ → X → Y → Type 0} (xs : List X) (ys : List Y) (place : ℕ) → EachIs Is xs ys → BothAt Is xs ys place ⊎ ((slice_get xs place ≡ None) × (slice_get ys place ≡ None))
both_at {Is = Is} xs ys place all = by (slice_get xs place) (slice_get ys place) refl refl
  where
    by : (a : Option _) (b : Option _) → slice_get xs place ≡ a → slice_get ys place ≡ b → BothAt Is xs ys place ⊎ ((slice_get xs place ≡ None) × (slice_get ys place ≡ None))
    by (Some x) (Some y) e f = inl (record { one = x; other = y; one_at = e; other_at = f; is = all.each place x y e f })
    by None None e f = inr (e, f)
    by (Some x) None e f = let many = all.many in let h = within_one xs place x e in let g = past_one ys place f in absurd (omega (arith, many, h, g))
    by None (Some y) e f = let many = all.many in let h = past_one xs place e in let g = within_one ys place y f in absurd (omega (arith, many, h, g))

none_of : {X Y : Type 0} (xs : List X) (f : X → Y) → map f xs ≡ [] → xs ≡ []
none_of [] f e = refl
none_of (x ∷ xs) f e = absurd (cc e)

no_some : {X : Type 0} (x : X) → None ≡ Some x → ⊥
no_some x e = absurd (cc e)

module _ (compilation : Compilation) (table : RecipeTable) (words : List (List ℕ)) (wanted : BTreeSet (Bor (List ℕ))) (menus : List Menu) (same : (name : List ℕ) → has_name wanted name ≡ is_wanted words name) (are : AreMenus compilation table (has_name wanted) compilation.modules.items menus) where
  meant_so : (place : ℕ) (node : ModuleNode) (name : List ℕ) → meant_in compilation table (has_name wanted) place node name ≡ meant_in compilation table (is_wanted words) place node name
  meant_so place node name = ap (λ b. option_or (submodule_meant compilation.modules.items node.submodules.items name) (cond b (called_in compilation table place node name) None)) (same name)

  pub meaning_there : (place : ℕ) (name : List ℕ) → option_and_then (λ menu. meaning menu name) (slice_get menus place) ≡ meaning_at compilation table words place name
  meaning_there place name = elim (both_at compilation.modules.items menus place are) [
    | inl b ↦ ap (option_and_then (λ menu. meaning menu name)) b.other_at ∙ b.is.names name ∙ meant_so place b.one name ∙ sym (ap (option_and_then (λ node. meant_in compilation table (is_wanted words) place node name)) b.one_at)
    | inr n ↦ ap (option_and_then (λ menu. meaning menu name)) n.1 ∙ sym (ap (option_and_then (λ node. meant_in compilation table (is_wanted words) place node name)) n.0)
  ]

  pub default_there : (place : ℕ) → option_and_then (λ menu. menu.default) (slice_get menus place) ≡ default_at compilation table place
  default_there place = elim (both_at compilation.modules.items menus place are) [
    | inl b ↦ ap (option_and_then (λ (menu : Menu). menu.default)) b.other_at ∙ b.is.default ∙ sym (ap (option_and_then _) b.one_at)
    | inr n ↦ ap (option_and_then (λ (menu : Menu). menu.default)) n.1 ∙ sym (ap (option_and_then _) n.0)
  ]

  meant_named : (rank : ℕ) → IsMeant compilation table words rank → IsNamedBy menus rank
  meant_named rank m = by (slice_get menus m.0) refl
    where
      by : (o : Option Menu) → slice_get menus m.0 ≡ o → IsNamedBy menus rank
      by (Some menu) e = (
        m.0,
        menu,
        e,
        elim m.1 [
          | inl d ↦ inl (sym (ap (option_and_then (λ (menu : Menu). menu.default)) e) ∙ default_there m.0 ∙ d)
          | inr n ↦ inr (n.0, sym (ap (option_and_then (λ menu. meaning menu n.0)) e) ∙ meaning_there m.0 n.0 ∙ n.1)
        ],
      )
      by None e = elim m.1 [
        | inl d ↦ absurd (no_some rank (sym (ap (option_and_then (λ (menu : Menu). menu.default)) e) ∙ default_there m.0 ∙ d))
        | inr n ↦ absurd (no_some (Recipe rank) (sym (ap (option_and_then (λ menu. meaning menu n.0)) e) ∙ meaning_there m.0 n.0 ∙ n.1))
      ]

  named_meant : (rank : ℕ) → IsNamedBy menus rank → IsMeant compilation table words rank
  named_meant rank n = (
    n.0,
    elim n.3 [
      | inl d ↦ inl (sym (default_there n.0) ∙ ap (option_and_then (λ (menu : Menu). menu.default)) n.2 ∙ d)
      | inr m ↦ inr (m.0, sym (meaning_there n.0 m.0) ∙ ap (option_and_then (λ menu. meaning menu m.0)) n.2 ∙ m.1)
    ],
  )

  pub callable_there : (named : BTreeSet ℕ) (rank : ℕ) (resolved : ResolvedRecipe) (callable : Callable) → AreNamedBy menus named → IsCallable compilation (has named rank) resolved callable → IsCallableOf compilation resolved (IsMeant compilation table words rank) callable
  callable_there named rank resolved callable so is = record {
    name = is.name;
    shown = λ m. is.slots ∙ ap (λ b. cond b (slots_at compilation resolved.place) []) (so.there rank (meant_named rank m));
    hidden = λ not. by_test (has named rank)
        (λ t. absurd (not (named_meant rank (so.sound rank t))))
        (λ f. none_of callable.slots.items slot_of (is.slots ∙ ap (λ b. cond b (slots_at compilation resolved.place) []) f));
  }

pub menus_made : (compilation : Compilation) (table : RecipeTable) (settings : List Settings) (words : List (List ℕ)) (wanted : BTreeSet (Bor (List ℕ))) (named : BTreeSet ℕ) (menus : Menus)
    → ((name : List ℕ) → has_name wanted name ≡ is_wanted words name) → AreMenus compilation table (has_name wanted) compilation.modules.items menus.modules.items
    → AreNamedBy menus.modules.items named → AreCallables compilation named table.recipes.items menus.recipes.items → menus.default_list ≡ lists_by (slice_get settings 0) → AreMenusOf compilation table settings words menus
menus_made compilation table settings words wanted named menus same are so callables lists = record {
  many = are.many;
  meanings = meaning_there compilation table words wanted menus.modules.items same are;
  defaults = default_there compilation table words wanted menus.modules.items same are;
  count = callables.many;
  recipes = λ rank resolved callable at there. callable_there compilation table words wanted menus.modules.items same are named rank resolved callable so (callables.each rank resolved callable at there);
  lists = lists;
}
