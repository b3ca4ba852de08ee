-- Aliases that a module keeps, and the recipes that they stand for.
use Rattle.std.proofs.Common.{◌≡◌, sym, ◌∙◌, ap, subst, Bool, true, false, cond, List, [], ◌∷◌, ℕ, Option, Some, None, Result, Ok, Err, refl, arith, reverse}
use Rattle.std.specs.Prelude.{Contains, slice_get, bytes_eq}
use Rattle.std.specs.List.{cons_option, filter_map, find}
use Rattle.std.specs.Option.{option_and_then, option_map, option_or}
use Rattle.std.proofs.lemmas.Option.{none-some, same_Some, slice_get_within}
use Rattle.std.proofs.lemmas.Slice.Eq.{bytes_eq-Decides}
use Rattle.just_text.specs.Tokens.{lexeme}
use Rattle.just_text.specs.declared.name.Name.{Name}
use Rattle.tree_attributes.specs.Sets.Sets.{shapes_in}
use Rattle.tree_items.specs.Files.{ItemShape, alias_item, item_shape}
use Rattle.tree_items.specs.Items.{AliasShape, alias_shape}
use Rattle.tree_items.specs.declared.ast.Item.{Item}
use Rattle.tree_items.specs.declared.ast.Item.TheVariants.{Alias, Assignment, Comment, Function, Import, Module, Newline, Recipe, Set, Unexport}
use Rattle.tree_items.specs.declared.item.Alias.{Alias as AliasOf}
use Rattle.modules_compilation.specs.Places.{item_at, name_of, text_of}
use Rattle.modules_compilation.specs.declared.compilation.Compilation.{Compilation}
use Rattle.modules_compilation.specs.declared.compilation.Target.{Target}
use Rattle.modules_compilation.specs.declared.compilation.Target.TheVariants.{Recipe as RecipeTarget, Module as ModuleTarget, Nothing as NoTarget}
use Rattle.modules_compilation.specs.declared.module_node.ModuleNode.{ModuleNode}
use Rattle.modules_compilation.specs.declared.place.Place.{Place}
use Rattle.resolve_recipes.specs.Aliases as aliases
use Rattle.resolve_recipes.specs.Aliases.{alias_at, alias_before, alias_of, rank_of, rank_or}
use Rattle.resolve_recipes.specs.Leading.{target_in}
use Rattle.resolve_recipes.specs.Named.{first_named, text_at}
use Rattle.resolve_recipes.specs.Refusals.{Refusal}
use Rattle.resolve_recipes.specs.Resolving.{named_by, named_in, places_before, recipe_or_nothing}
use Rattle.resolve_recipes.specs.Standing.{place_in}
use Rattle.resolve_recipes.specs.declared.aliases.ResolvedAlias.{ResolvedAlias}
use Rattle.resolve_recipes.specs.declared.item_places.ItemPlaces.{ItemPlaces}
use Rattle.resolve_recipes.specs.declared.recipe_resolver.Named.{Named}
use Rattle.resolve_recipes.specs.declared.recipe_resolver.Named.TheVariants as named
use Rattle.meaning_rules.specs.Worlds.Given.{Text, World}
use Rattle.meaning_rules.specs.Worlds.Keeping.{Defines, an_alias}
use Rattle.meaning_rules.specs.Worlds.Compiled.{IsAt}
use Rattle.meaning_rules.proofs.Worlds.Places.{contains_first, contains_later, place_of}
use Rattle.meaning_rules.specs.Worlds.Views.{node_view}
use Rattle.laws_modules.specs.Names.Names.{HasNode, IsOfWorld, nodes, views}
use Rattle.laws_modules.proofs.Names.Found.{found_at, there_within}
use Rattle.laws_modules.proofs.Names.Named.{node_is}
use Rattle.laws_modules.proofs.Names.Standing.{alias_there}
use Rattle.laws_runs.specs.Resolved.Definitions.{shape_at}
use Rattle.laws_runs.proofs.Menus.Apart.{is_alias}
use Rattle.laws_runs.proofs.Menus.Lists.{IsOnce, found_behind, one_place}

-- ---- the alias at a place

-- the item of an alias
alias_back : (o : Option Item) (alias : AliasOf (List Name)) → alias_of o ≡ Some alias → o ≡ Some (Alias alias)
alias_back None alias e = absurd (none-some alias e)
alias_back (Some (Alias b)) alias e = ap (λ x. Some (Alias x)) (same_Some b alias e)
alias_back (Some (Assignment b)) alias e = absurd (none-some alias e)
alias_back (Some (Comment text)) alias e = absurd (none-some alias e)
alias_back (Some (Function f)) alias e = absurd (none-some alias e)
alias_back (Some (Import i)) alias e = absurd (none-some alias e)
alias_back (Some (Module m)) alias e = absurd (none-some alias e)
alias_back (Some Newline) alias e = absurd (none-some alias e)
alias_back (Some (Recipe q)) alias e = absurd (none-some alias e)
alias_back (Some (Set s)) alias e = absurd (none-some alias e)
alias_back (Some (Unexport u)) alias e = absurd (none-some alias e)

alias_text : (compilation : Compilation) (place : Place) (alias : AliasOf (List Name)) → alias_at compilation place ≡ Some alias → text_at compilation place ≡ lexeme alias.name.token
alias_text compilation place alias e = ap (λ o. text_of (option_and_then name_of o)) (alias_back (item_at compilation place) alias e)

alias_named_so : (compilation : Compilation) (place : Place) (alias : AliasOf (List Name)) (a : AliasShape) (name : Text) → alias_at compilation place ≡ Some alias → alias_shape alias ≡ a → a.name ≡ name → text_at compilation place ≡ name
alias_named_so compilation place alias a name e shape named = alias_text compilation place alias e ∙ ap (λ (x : AliasShape). x.name) shape ∙ named

pub alias_shaped : (compilation : Compilation) (place : Place) (alias : AliasOf (List Name)) → alias_at compilation place ≡ Some alias → shape_at compilation place ≡ Some (alias_item (shapes_in alias.attributes) (alias_shape alias))
alias_shaped compilation place alias e = ap (option_map item_shape) (alias_back (item_at compilation place) alias e)

module _ (w : World) (compilation : Compilation) (is : IsOfWorld w compilation) (k : ℕ) (node : ModuleNode) (here : HasNode w compilation k node) where
  -- the alias at a place of the module's list
  pub record IsListed (i : ℕ) (place : Place) : Type 0 where
    pub alias : AliasOf (List Name)
    pub there : alias_at compilation place ≡ Some alias
    pub name : Text
    pub at_name : slice_get (node_is w compilation is k node here).aliases.0 i ≡ Some name
    pub named : text_at compilation place ≡ name
    pub key : Text
    pub at : ℕ
    pub item : ItemShape
    pub defines : Defines w node.source.now an_alias name key at item

  pub listed : (i : ℕ) (place : Place) → slice_get node.aliases.items i ≡ Some place → IsListed i place
  listed i place e =
      let l = (node_is w compilation is k node here).aliases in
      let lt = slice_get_within node.aliases.items i place e in
      let many = l.1.many in
      let n = there_within l.0 i (omega (arith, lt, many)) in
      let s = l.1.sound i n.0 place n.1 e in
      of_sound n.0 n.1 s.0 s.1 s.2 s.3 s.4.defines
    where
      of_alias : (name : Text) → slice_get (node_is w compilation is k node here).aliases.0 i ≡ Some name → (key : Text) (at : ℕ) (item : ItemShape) → Defines w node.source.now an_alias name key at item
          → (a : AliasShape) → a.name ≡ name → (alias : AliasOf (List Name)) → alias_at compilation place ≡ Some alias → alias_shape alias ≡ a → IsListed i place
      of_alias name at_name key at item defines a named alias there shape = record {
        alias = alias;
        there = there;
        name = name;
        at_name = at_name;
        named = alias_named_so compilation place alias a name there shape named;
        key = key;
        at = at;
        item = item;
        defines = defines;
      }

      of_sound : (name : Text) → slice_get (node_is w compilation is k node here).aliases.0 i ≡ Some name → (key : Text) (at : ℕ) (item : ItemShape)
          → IsAt w (views w compilation) (nodes w compilation) (node_view node) place key at item → Defines w node.source.now an_alias name key at item → IsListed i place
      of_sound name at_name key at item there defines =
          let a = is_alias w.os item name defines.is in
          let t = alias_there w compilation (node_view node) place key at a.0 a.1 (subst (IsAt w (views w compilation) (nodes w compilation) (node_view node) place key at) a.2 there) in
          of_alias name at_name key at item defines a.1 a.3 t.0 t.1 t.2

  pub each_alias : (place : Place) → Contains node.aliases.items place → (alias : AliasOf (List Name)) × (alias_at compilation place ≡ Some alias)
  each_alias place c =
      let p = place_of node.aliases.items place c in
      let l = listed p.0 place p.1 in
      (l.alias, l.there)

  -- no name stands twice
  pub once : (name : Text) → IsOnce (λ p. bytes_eq (text_at compilation p) name) node.aliases.items
  once name i j x y e f p q =
      let a = listed i x e in
      let b = listed j y f in
      let first : a.name ≡ name = sym a.named ∙ (bytes_eq-Decides (text_at compilation x) name).0 p in
      let second : b.name ≡ name = sym b.named ∙ (bytes_eq-Decides (text_at compilation y) name).0 q in
      let l = (node_is w compilation is k node here).aliases in
      one_place l.0 i j name l.1.sorted (a.at_name ∙ ap (λ n. Some n) first) (b.at_name ∙ ap (λ n. Some n) second)

  -- the alias of a name is defined
  pub defined_alias : (name : Text) (place : Place) → first_named (text_at compilation) node.aliases.items name ≡ Some place → (key : Text) × (at : ℕ) × (item : ItemShape) × Defines w node.source.now an_alias name key at item
  defined_alias name place e =
      let f = found_at (λ p. bytes_eq (text_at compilation p) name) node.aliases.items place e in
      let a = listed f.0 place f.1 in
      let same : a.name ≡ name = sym a.named ∙ (bytes_eq-Decides (text_at compilation place) name).0 f.2 in
      (a.key, a.at, a.item, subst (λ n. Defines w node.source.now an_alias n a.key a.at a.item) same a.defines)

-- ---- resolved aliases

module _ (compilation : Compilation) (places : ItemPlaces) (ranks : List ℕ) (k : ℕ) where
  -- the row is what the alias at the place resolves to
  pub record IsResolved (place : Place) (row : ResolvedAlias) : Type 0 where
    pub alias : AliasOf (List Name)
    pub there : alias_at compilation place ≡ Some alias
    pub gives : rank_of ranks (named_in compilation places k alias.target) alias ≡ Ok row.recipe
    pub named : row.name ≡ alias.name

  abbrev pub Alike : Option Place → Option ResolvedAlias → Type 0
  Alike None None = Unit {0}
  Alike None (Some row) = ⊥
  Alike (Some place) None = ⊥
  Alike (Some place) (Some row) = IsResolved place row

  alike_or : (a c : Option Place) (b d : Option ResolvedAlias) → Alike a b → Alike c d → Alike (option_or a c) (option_or b d)
  alike_or None c None d h k = k
  alike_or None c (Some row) d h k = absurd h
  alike_or (Some place) c None d h k = absurd h
  alike_or (Some place) c (Some row) d h k = h

  alike_if : (b : Bool) (place : Place) (row : ResolvedAlias) → IsResolved place row → Alike (cond b (Some place) None) (cond b (Some row) None)
  alike_if true place row h = h
  alike_if false place row h = tt

  -- the first row, and the others
  record IsFirst (alias : AliasOf (List Name)) (rest : Result (List ResolvedAlias) Refusal) (rows : List ResolvedAlias) : Type 0 where
    pub rank : ℕ
    pub others : List ResolvedAlias
    pub gives : rank_of ranks (named_in compilation places k alias.target) alias ≡ Ok rank
    pub behind : rest ≡ Ok others
    pub whole : (record { name = alias.name; recipe = rank }) ∷ others ≡ rows

  others_case : (row : ResolvedAlias) (rest : Result (List ResolvedAlias) Refusal) (rows : List ResolvedAlias) → places_before (row ∷ []) rest ≡ Ok rows → (others : List ResolvedAlias) × (rest ≡ Ok others) × (row ∷ others ≡ rows)
  others_case row (Ok others) rows e = (others, refl, cc e)
  others_case row (Err refusal) rows e = absurd (cc e)

  first_case : (alias : AliasOf (List Name)) (rest : Result (List ResolvedAlias) Refusal) (rows : List ResolvedAlias) (given : Result ℕ Refusal)
      → rank_of ranks (named_in compilation places k alias.target) alias ≡ given → alias_before given alias.name rest ≡ Ok rows → IsFirst alias rest rows
  first_case alias rest rows (Ok rank) is e =
      let o = others_case (record { name = alias.name; recipe = rank }) rest rows e in
      record { rank = rank; others = o.0; gives = is; behind = o.1; whole = o.2 }
  first_case alias rest rows (Err refusal) is e = absurd (cc e)

  -- the last row of a name is that of the last alias of the name
  pub alike : (name : Text) (items : List Place) (rows : List ResolvedAlias) → ((p : Place) → Contains items p → (alias : AliasOf (List Name)) × (alias_at compilation p ≡ Some alias)) → aliases.resolved_at compilation places ranks k items ≡ Ok rows
      → Alike (find (λ p. bytes_eq (text_at compilation p) name) (reverse items)) (find (λ (row : ResolvedAlias). bytes_eq (lexeme row.name.token) name) (reverse rows))
  alike name [] [] all e = tt
  alike name [] (row ∷ rows) all e = absurd (cc e)
  alike name (p ∷ items) rows all e =
      let a = all p (contains_first p items) in
      let told = sym (ap (λ o. aliases.resolved compilation places ranks k (cons_option o (filter_map (alias_at compilation) items))) a.1) ∙ e in
      let f = first_case a.0 (aliases.resolved_at compilation places ranks k items) rows (rank_of ranks (named_in compilation places k a.0.target) a.0) refl told in
      let row : ResolvedAlias = record { name = a.0.name; recipe = f.rank } in
      let behind = alike name items f.others (λ q c. all q (contains_later p items q c)) f.behind in
      let text = alias_text compilation p a.0 a.1 in
      let here = alike_if (bytes_eq (text_at compilation p) name) p row (record { alias = a.0; there = a.1; gives = f.gives; named = refl }) in
      let here' = subst (λ t. Alike (cond (bytes_eq (text_at compilation p) name) (Some p) None) (cond (bytes_eq t name) (Some row) None)) text here in
      let both = alike_or (find (λ q. bytes_eq (text_at compilation q) name) (reverse items)) (cond (bytes_eq (text_at compilation p) name) (Some p) None)
      (find (λ (r : ResolvedAlias). bytes_eq (lexeme r.name.token) name) (reverse f.others)) (cond (bytes_eq (lexeme row.name.token) name) (Some row) None) behind here' in
      let left = subst (λ o. Alike o (option_or (find (λ (r : ResolvedAlias). bytes_eq (lexeme r.name.token) name) (reverse f.others)) (cond (bytes_eq (lexeme row.name.token) name) (Some row) None)))
      (sym (found_behind (λ q. bytes_eq (text_at compilation q) name) p items)) both in
      let right = subst (Alike (find (λ q. bytes_eq (text_at compilation q) name) (reverse (p ∷ items)))) (sym (found_behind (λ (r : ResolvedAlias). bytes_eq (lexeme r.name.token) name) row f.others)) left in
      subst (λ rs. Alike (find (λ q. bytes_eq (text_at compilation q) name) (reverse (p ∷ items))) (find (λ (r : ResolvedAlias). bytes_eq (lexeme r.name.token) name) (reverse rs))) f.whole right

-- ---- what a rank is of

-- a rank is that of a recipe with a place
rank_case : (ranks : List ℕ) (to : Named) (alias : AliasOf (List Name)) (rank : ℕ) → rank_of ranks to alias ≡ Ok rank → (q : ℕ) × (to ≡ named.Recipe q) × (slice_get ranks q ≡ Some rank)
rank_case ranks (named.Recipe q) alias rank e = by_option (slice_get ranks q) refl e
  where
    by_option : (o : Option ℕ) → slice_get ranks q ≡ o → rank_or o alias ≡ Ok rank → (q' : ℕ) × (named.Recipe q ≡ named.Recipe q') × (slice_get ranks q' ≡ Some rank)
    by_option (Some r) is e = let same : r ≡ rank = cc e in (q, refl, is ∙ ap (λ n. Some n) same)
    by_option None is e = absurd (cc e)
rank_case ranks named.Module alias rank e = absurd (cc e)
rank_case ranks named.Nothing alias rank e = absurd (cc e)

target_case : (places : ItemPlaces) (target : Target) (q : ℕ) → named_by places target ≡ named.Recipe q → (keeper : ℕ) × (item : Place) × (target ≡ RecipeTarget keeper item) × (place_in places item ≡ Some q)
target_case places (RecipeTarget keeper item) q e = by_option (place_in places item) refl e
  where
    by_option : (o : Option ℕ) → place_in places item ≡ o → recipe_or_nothing o ≡ named.Recipe q → (keeper' : ℕ) × (item' : Place) × (RecipeTarget keeper item ≡ RecipeTarget keeper' item') × (place_in places item' ≡ Some q)
    by_option (Some p) is e = let same : p ≡ q = cc e in (keeper, item, refl, is ∙ ap (λ n. Some n) same)
    by_option None is e = absurd (cc e)
target_case places (ModuleTarget inner) q e = absurd (cc e)
target_case places NoTarget q e = absurd (cc e)

-- the rank of a target that is a recipe, by where the recipe stands
pub record LeadsToRank (compilation : Compilation) (places : ItemPlaces) (ranks : List ℕ) (k : ℕ) (target : List Name) (rank : ℕ) : Type 0 where
  pub keeper : ℕ
  pub item : Place
  pub to : target_in compilation k target ≡ RecipeTarget keeper item
  pub q : ℕ
  pub placed : place_in places item ≡ Some q
  pub ranked : slice_get ranks q ≡ Some rank

pub leads_to_rank : (compilation : Compilation) (places : ItemPlaces) (ranks : List ℕ) (k : ℕ) (alias : AliasOf (List Name)) (rank : ℕ)
    → rank_of ranks (named_in compilation places k alias.target) alias ≡ Ok rank → LeadsToRank compilation places ranks k alias.target rank
leads_to_rank compilation places ranks k alias rank e =
    let r = rank_case ranks (named_in compilation places k alias.target) alias rank e in
    let t = target_case places (target_in compilation k alias.target) r.0 r.1 in
    record { keeper = t.0; item = t.1; to = t.2; q = r.0; placed = t.3; ranked = r.2 }
