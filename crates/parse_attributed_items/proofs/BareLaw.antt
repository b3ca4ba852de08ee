-- An item without its attributes is read where it is spelled, and only there.
use Rattle.std.proofs.Common.{◌≡◌, ℕ, List, [], ◌∷◌, map, Ok, refl}
use Rattle.just_text.specs.Tokens.{Word}
use Rattle.tree_attributes.specs.declared.item_kind.ItemKind.{ItemKind}
use Rattle.tree_attributes.specs.declared.item_kind.ItemKind.TheVariants.{Alias, Assignment, Comment, Function, Import, Module, Newline, Recipe, Set, Unexport}
use Rattle.tree_items.specs.Files.{ItemShape, alias_item, assignment_item, comment_item, function_item, import_item, module_item, newline_item, recipe_item, set_item, unexport_item, kind_of as item_kind_of}
use Rattle.parse_expressions.specs.Literals.{Expansion}
use Rattle.parse_expressions.specs.Reading.{◌>>=◌}
use Rattle.parse_expressions.proofs.Taken.{bind_ok, turned}
use Rattle.parse_recipes.specs.Laws.{RecipesExactly}
use Rattle.parse_recipes.specs.Reading.{recipe_at}
use Rattle.parse_items.specs.Items.{IsItem}
use Rattle.parse_items.specs.Laws.{ItemsExactly}
use Rattle.parse_items.specs.Reading.{alias_at, unexport_at, assignment_at, function_at, import_at, module_at, kind_at, item_of}
use Rattle.parse_items.specs.SettingLaws.{SetsExactly}
use Rattle.parse_items.specs.SettingReading.{set_at}
use Rattle.semver.specs.declared.Version.{Version}
use Rattle.parse_attributed_items.specs.Bare.{IsBare, bare_of}

module _ {T : Type 0} (word : T → Word) (expansion : Expansion) (current : Version) where
  -- ---- kinds

  -- what is read is of the kind that is told
  item_kind : (kind : ItemKind) (ts : List T) (y : ItemShape × List T) → item_of word expansion kind ts ≡ Ok y → kind ≡ item_kind_of y.0
  unfolding item_of
  item_kind Alias ts y h = let i = bind_ok (alias_at word ts) _ y h in turned (λ (z : ItemShape × List T). Alias ≡ item_kind_of z.0) (alias_item [] i.0.0, i.0.1) y i.2 refl
  item_kind Assignment ts y h = let i = bind_ok (assignment_at word expansion ts) _ y h in turned (λ (z : ItemShape × List T). Assignment ≡ item_kind_of z.0) (assignment_item [] i.0.0, i.0.1) y i.2 refl
  item_kind Comment ts y h = absurd cc
  item_kind Function ts y h = let i = bind_ok (function_at word expansion ts) _ y h in turned (λ (z : ItemShape × List T). Function ≡ item_kind_of z.0) (function_item i.0.0, i.0.1) y i.2 refl
  item_kind Import ts y h = let i = bind_ok (import_at word expansion ts) _ y h in turned (λ (z : ItemShape × List T). Import ≡ item_kind_of z.0) (import_item i.0.0, i.0.1) y i.2 refl
  item_kind Module ts y h = let i = bind_ok (module_at word expansion ts) _ y h in turned (λ (z : ItemShape × List T). Module ≡ item_kind_of z.0) (module_item [] i.0.0, i.0.1) y i.2 refl
  item_kind Newline ts y h = absurd cc
  item_kind Recipe ts y h = absurd cc
  item_kind Set ts y h = absurd cc
  item_kind Unexport ts y h = let i = bind_ok (unexport_at word ts) _ y h in turned (λ (z : ItemShape × List T). Unexport ≡ item_kind_of z.0) (unexport_item i.0.0, i.0.1) y i.2 refl

  -- an item that is neither a recipe nor a setting, without attributes
  item_bare : (i : ItemShape) (words rest : List Word) → IsItem expansion i words rest → IsBare expansion current i 0 words rest
  item_bare (alias_item as' a) words rest h = (h, refl)
  item_bare (assignment_item as' a) words rest h = (h, refl)
  item_bare (comment_item text) words rest h = (h, refl)
  item_bare (function_item f) words rest h = (h, refl)
  item_bare (import_item i) words rest h = (h, refl)
  item_bare (module_item as' m) words rest h = (h, refl)
  item_bare newline_item words rest h = (h, refl)
  item_bare (recipe_item as' r) words rest h = absurd h
  item_bare (set_item as' s) words rest h = absurd h
  item_bare (unexport_item name) words rest h = (h, refl)

  -- no recipe and no setting is read among the other items
  no_recipe : (ts : List T) (y : ItemShape × List T) → item_of word expansion Recipe ts ≡ Ok y → ⊥
  unfolding item_of
  no_recipe ts y h = absurd cc

  no_set : (ts : List T) (y : ItemShape × List T) → item_of word expansion Set ts ≡ Ok y → ⊥
  unfolding item_of
  no_set ts y h = absurd cc

  -- an item that is read is read alike among all, with no blank lines after it
  bare_item : (kind : ItemKind) (ts : List T) (y : ItemShape × List T) → item_of word expansion kind ts ≡ Ok y → bare_of word expansion current kind ts ≡ Ok ((y.0, 0), y.1)
  unfolding bare_of
  bare_item Alias ts y h = rw h refl
  bare_item Assignment ts y h = rw h refl
  bare_item Comment ts y h = rw h refl
  bare_item Function ts y h = rw h refl
  bare_item Import ts y h = rw h refl
  bare_item Module ts y h = rw h refl
  bare_item Newline ts y h = rw h refl
  bare_item Recipe ts y h = absurd (no_recipe ts y h)
  bare_item Set ts y h = absurd (no_set ts y h)
  bare_item Unexport ts y h = rw h refl

  module _ (recipes : RecipesExactly word expansion) (items : ItemsExactly word expansion) (sets : SetsExactly word expansion current) where
    -- ---- what is read

    -- what was read is spelled there, and of that kind
    abbrev Sound : ItemKind → List T → (ItemShape × ℕ) × List T → Type 0
    Sound kind ts z = IsBare expansion current z.0.0 z.0.1 (map word ts) (map word z.1) × (kind ≡ item_kind_of z.0.0)

    item_found : (kind : ItemKind) (ts : List T) (y : (ItemShape × ℕ) × List T) → kind_at word ts ≡ kind → (item_of word expansion kind ts >>= λ i. Ok ((i.0, 0), i.1)) ≡ Ok y → Sound kind ts y
    item_found kind ts y k h =
        let i = bind_ok (item_of word expansion kind ts) _ y h in
        let is = items.found ts i.0.1 i.0.0 (rw k i.1) in
        turned (Sound kind ts) ((i.0.0, 0), i.0.1) y i.2 (item_bare i.0.0 (map word ts) (map word i.0.1) is, item_kind kind ts i.0 i.1)

    bare_found_of : (kind : ItemKind) (ts : List T) (y : (ItemShape × ℕ) × List T) → kind_at word ts ≡ kind → bare_of word expansion current kind ts ≡ Ok y → Sound kind ts y
    unfolding bare_of
    bare_found_of Alias ts y k h = item_found Alias ts y k h
    bare_found_of Assignment ts y k h = item_found Assignment ts y k h
    bare_found_of Comment ts y k h = item_found Comment ts y k h
    bare_found_of Function ts y k h = item_found Function ts y k h
    bare_found_of Import ts y k h = item_found Import ts y k h
    bare_found_of Module ts y k h = item_found Module ts y k h
    bare_found_of Newline ts y k h = item_found Newline ts y k h
    bare_found_of Recipe ts y k h =
        let r = bind_ok (recipe_at word expansion ts) _ y h in
        turned (Sound Recipe ts) ((recipe_item [] r.0.0.0, r.0.0.1), r.0.1) y r.2 (recipes.found ts r.0.1 r.0.0.0 r.0.0.1 r.1, refl)
    bare_found_of Set ts y k h =
        let s = bind_ok (set_at word expansion current ts) _ y h in
        turned (Sound Set ts) ((set_item [] s.0.0, 0), s.0.1) y s.2 ((sets.found ts s.0.1 s.0.0 k s.1, refl), refl)
    bare_found_of Unexport ts y k h = item_found Unexport ts y k h

    pub bare_found : (ts : List T) (y : (ItemShape × ℕ) × List T) → bare_of word expansion current (kind_at word ts) ts ≡ Ok y → Sound (kind_at word ts) ts y
    bare_found ts y h = bare_found_of (kind_at word ts) ts y refl h

    -- ---- what is spelled

    -- the item is read here, of the kind that is told, and these words are left
    pub record IsRead (i : ItemShape) (blanks : ℕ) (ts : List T) (ws : List Word) : Type 0 where
      pub rest : List T
      pub is : bare_of word expansion current (kind_at word ts) ts ≡ Ok ((i, blanks), rest)
      pub kind : kind_at word ts ≡ item_kind_of i
      pub others : map word rest ≡ ws

    item_again : (i : ItemShape) (blanks : ℕ) (ts : List T) (ws : List Word) → IsItem expansion i (map word ts) ws → blanks ≡ 0 → IsRead i blanks ts ws
    item_again i blanks ts ws h none =
        let r = items.only ts ws i h in
        let kind = kind_at word ts in
        record { rest = r.0; is = rw none (bare_item kind ts (i, r.0) r.1); kind = item_kind kind ts (i, r.0) r.1; others = r.2 }

    pub bare_again : (i : ItemShape) (blanks : ℕ) (ts : List T) (ws : List Word) → IsBare expansion current i blanks (map word ts) ws → IsRead i blanks ts ws
    unfolding bare_of
    bare_again (alias_item as' a) blanks ts ws h = item_again (alias_item as' a) blanks ts ws h.0 h.1
    bare_again (assignment_item as' a) blanks ts ws h = item_again (assignment_item as' a) blanks ts ws h.0 h.1
    bare_again (comment_item text) blanks ts ws h = item_again (comment_item text) blanks ts ws h.0 h.1
    bare_again (function_item f) blanks ts ws h = item_again (function_item f) blanks ts ws h.0 h.1
    bare_again (import_item i) blanks ts ws h = item_again (import_item i) blanks ts ws h.0 h.1
    bare_again (module_item as' m) blanks ts ws h = item_again (module_item as' m) blanks ts ws h.0 h.1
    bare_again newline_item blanks ts ws h = item_again newline_item blanks ts ws h.0 h.1
    bare_again (recipe_item [] r) blanks ts ws h =
        let a = recipes.only ts ws r blanks h in
        let k = items.recipes ts ws r blanks h in
        record { rest = a.0; is = rw (k, a.1) refl; kind = k; others = a.2 }
    bare_again (recipe_item (x ∷ xs) r) blanks ts ws h = absurd h.0
    bare_again (set_item [] s) blanks ts ws h =
        let a = sets.only ts ws s h.0 in
        let k = sets.told ts ws s h.0 in
        record { rest = a.0; is = rw (k, a.1, h.1) refl; kind = k; others = a.2 }
    bare_again (set_item (x ∷ xs) s) blanks ts ws h = absurd h.0
    bare_again (unexport_item name) blanks ts ws h = item_again (unexport_item name) blanks ts ws h.0 h.1
