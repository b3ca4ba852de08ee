-- Paths that lead to disabled recipes.
use Rattle.std.proofs.Common.{◌≡◌, ◌⊎◌, inl, inr, sym, ◌∙◌, ap, ap₂, subst, false, true≢false, List, [], ◌∷◌, ◌++◌, ◌-◌, ◌<◌, ◌≤◌, ℕ, Option, Some, None, refl, arith}
use Rattle.std.specs.Prelude.{slice_get}
use Rattle.std.specs.Str.{bytes_eq}
use Rattle.std.proofs.lemmas.Option.{none-some, same_Some}
use Rattle.std.proofs.lemmas.Slice.Eq.{bytes_eq-Decides}
use Rattle.just_text.specs.Tokens.{lexeme}
use Rattle.just_text.specs.declared.name.Name.{Name}
use Rattle.tree_attributes.specs.Attributes.{AttributeShape}
use Rattle.tree_items.specs.Files.{ItemShape, recipe_item}
use Rattle.tree_items.specs.Paths.{path_names}
use Rattle.tree_items.specs.Recipes.{RecipeShape}
use Rattle.modules_compilation.specs.declared.compilation.Compilation.{Compilation}
use Rattle.modules_compilation.specs.declared.module_node.ModuleNode.{ModuleNode}
use Rattle.modules_compilation.specs.declared.place.Place.{Place}
use Rattle.resolve_recipes.specs.Disabled.{disabled_by, disabled_from}
use Rattle.resolve_recipes.specs.Named.{first_named, submodule_in, text_at}
use Rattle.meaning_rules.specs.Worlds.Given.{Text, World}
use Rattle.meaning_rules.specs.Worlds.Sources.{Has, IsFileOf, IsSubmodule}
use Rattle.meaning_rules.specs.Worlds.Modules.{IsReadingOrder}
use Rattle.meaning_rules.specs.Worlds.Keeping.{IsDisabled}
use Rattle.meaning_rules.proofs.Worlds.Reading.{orders_are_unique}
use Rattle.meaning_rules.specs.Depending.{IsDisabledPath, LeadsTo, takes}
use Rattle.meaning_rules.specs.Rules.{FirstDisabledTakesOther}
use Rattle.laws_modules.specs.Names.Names.{AreSingle, HasNode, IsOfWorld, IsSubmoduleOf}
use Rattle.laws_modules.specs.Names.Targets.{LeadsFrom}
use Rattle.laws_modules.proofs.Names.Found.{none_found, snoc_empty, snoc_same}
use Rattle.laws_modules.proofs.Names.Modules.{submodules_are_found}
use Rattle.laws_modules.proofs.Names.Named.{node_is}
use Rattle.laws_modules.proofs.Names.Paths.{first_into, leads_here, leads_into, stays}
use Rattle.laws_names.proofs.Depending.Disabled.{IsFirstOf, disabled_listed}
use Rattle.laws_names.proofs.Depending.Ranks.{own_key, own_keys}

module _ (w : World) (compilation : Compilation) (is : IsOfWorld w compilation) (single : AreSingle w compilation) where
  -- the path leads to the disabled recipe at the place
  pub record IsDisabledThere (k : ℕ) (node : ModuleNode) (path : List Text) (item : Place) : Type 0 where
    pub modules : List Text
    pub name : Text
    pub whole : path ≡ modules ++ name ∷ []
    pub inner : ℕ
    pub submodule : ModuleNode
    pub leads : LeadsFrom w compilation k node modules inner submodule
    pub found : first_named (text_at compilation) submodule.disabled.items name ≡ Some item

  none_from : (names : List Name) → disabled_from compilation None names ≡ None
  none_from [] = refl
  none_from (name ∷ []) = refl
  none_from (name ∷ other ∷ names) = none_from (other ∷ names)

  -- what is found of a path is there
  pub there_of : (names : List Name) (k : ℕ) (node : ModuleNode) → HasNode w compilation k node → (item : Place) → disabled_from compilation (Some k) names ≡ Some item → IsDisabledThere k node (path_names names) item
  there_of [] k node here item e = absurd (none-some item e)
  there_of (name ∷ []) k node here item e = record {
    modules = [];
    name = lexeme name.token;
    whole = refl;
    inner = k;
    submodule = node;
    leads = leads_here w compilation is single k node here;
    found = ap (λ o. first_named (text_at compilation) (disabled_by o) (lexeme name.token)) (sym here) ∙ e;
  }
  there_of (name ∷ other ∷ names) k node here item e =
      by_submodule (submodule_in compilation.modules.items k (lexeme name.token)) (submodules_are_found w compilation is single k node here (lexeme name.token)) (λ j n at f. there_of (other ∷ names) j n at item f) e
    where
      by_submodule : (o : Option ℕ) → IsSubmoduleOf w compilation k node (lexeme name.token) o → ((j : ℕ) (n : ModuleNode) → HasNode w compilation j n → disabled_from compilation (Some j) (other ∷ names) ≡ Some item
          → IsDisabledThere j n (path_names (other ∷ names)) item)
          → disabled_from compilation o (other ∷ names) ≡ Some item → IsDisabledThere k node (path_names (name ∷ other ∷ names)) item
      by_submodule None none more e = absurd (none-some item (sym (none_from (other ∷ names)) ∙ e))
      by_submodule (Some inner) (submodule, i) more e =
          let r = more inner submodule i.there e in
          record {
            modules = lexeme name.token ∷ r.modules;
            name = r.name;
            whole = ap (λ ns. lexeme name.token ∷ ns) r.whole;
            inner = r.inner;
            submodule = r.submodule;
            leads = leads_into w compilation is single k node here (lexeme name.token) inner submodule i r.modules r.inner r.submodule r.leads;
            found = r.found;
          }

  -- where none is found, the path leads to none
  pub none_of : (names : List Name) (k : ℕ) (node : ModuleNode) → HasNode w compilation k node → disabled_from compilation (Some k) names ≡ None
      → (inner key : Text) (place : ℕ) (attributes : List AttributeShape) (r : RecipeShape) → IsDisabledPath w node.source.now (path_names names) inner key place attributes r → ⊥
  none_of [] k node here e inner key place attributes r d = snoc_empty d.modules r.name d.names.whole
  none_of (name ∷ []) k node here e inner key place attributes r d =
      let p = snoc_same [] d.modules (lexeme name.token) r.name d.names.whole in
      let own = stays w node.source.now inner d.modules (sym p.0) d.names.leads in
      let l = disabled_listed w compilation is k node here key place attributes r (subst (λ o. IsDisabled w o key place attributes r) (sym own) d.disabled) in
      let no_text = none_found (λ x. bytes_eq (text_at compilation x) (lexeme name.token)) node.disabled.items (ap (λ o. first_named (text_at compilation) (disabled_by o) (lexeme name.token)) (sym here) ∙ e) l.n l.item l.listed in
      true≢false (sym ((bytes_eq-Decides (text_at compilation l.item) (lexeme name.token)).1 (l.named ∙ sym p.1)) ∙ no_text)
  none_of (name ∷ other ∷ names) k node here e inner key place attributes r d = by_modules d.modules d.names.whole d.names.leads (λ j n at f path. none_of (other ∷ names) j n at f inner key place attributes r path)
    where
      by_submodule : (o : Option ℕ) → IsSubmoduleOf w compilation k node (lexeme name.token) o → disabled_from compilation o (other ∷ names) ≡ None → ((j : ℕ) (n : ModuleNode) → HasNode w compilation j n
          → disabled_from compilation (Some j) (other ∷ names) ≡ None → IsDisabledPath w n.source.now (path_names (other ∷ names)) inner key place attributes r → ⊥) → (file between : Text) → IsFileOf w node.source.now file
          → IsSubmodule w file (lexeme name.token) between
          → (ms : List Text) → path_names (other ∷ names) ≡ ms ++ r.name ∷ [] → LeadsTo w between ms inner → ⊥
      by_submodule None none e more file between of s ms rest l = none file between of s
      by_submodule (Some j) (submodule, i) e more file between of s ms rest l =
          more j submodule i.there e (record { modules = ms; names = record { whole = rest; leads = subst (λ o. LeadsTo w o ms inner) (i.alone file between of s) l }; disabled = d.disabled })

      by_modules : (modules : List Text) → lexeme name.token ∷ path_names (other ∷ names) ≡ modules ++ r.name ∷ [] → LeadsTo w node.source.now modules inner → ((j : ℕ) (n : ModuleNode) → HasNode w compilation j n
          → disabled_from compilation (Some j) (other ∷ names) ≡ None → IsDisabledPath w n.source.now (path_names (other ∷ names)) inner key place attributes r → ⊥) → ⊥
      by_modules [] f l more =
          let rest : path_names (other ∷ names) ≡ [] = cc f in
          absurd (cc rest)
      by_modules (m ∷ ms) f l more =
          let first : m ≡ lexeme name.token = cc f in
          let rest : path_names (other ∷ names) ≡ ms ++ r.name ∷ [] = cc f in
          let i = first_into w node.source.now m inner ms l in
          by_submodule (submodule_in compilation.modules.items k (lexeme name.token)) (submodules_are_found w compilation is single k node here (lexeme name.token)) e more
          i.file i.inner i.of (subst (λ x. IsSubmodule w i.file x i.inner) first i.is) ms rest i.leads

  -- ---- the first in reading order

  module _ (k : ℕ) (node : ModuleNode) (path : List Text) (item : Place) (t : IsDisabledThere k node path item) (f : IsFirstOf w compilation is t.inner t.submodule t.leads.there t.name item) where
    abbrev keys : List Text
    keys = own_keys w compilation is t.inner t.submodule t.leads.there

    abbrev rank : ℕ
    rank = item.file - t.submodule.first_file

    -- the path leads to it in the world
    pub disabled_path : IsDisabledPath w node.source.now path t.submodule.source.now f.found.key f.found.at f.found.attributes f.found.r
    disabled_path = record {
      modules = t.modules;
      names = record { whole = t.whole ∙ ap (λ n. t.modules ++ n ∷ []) (sym f.is_named); leads = t.leads.leads };
      disabled = f.found.is_disabled;
    }

    key_at : slice_get keys rank ≡ Some f.found.key
    key_at = own_key w compilation is t.inner t.submodule t.leads.there item f.found.key f.found.at (recipe_item f.found.attributes f.found.r) f.found.there

    same_name : (key : Text) (place : ℕ) (attributes : List AttributeShape) (r : RecipeShape) (inner : Text) → IsDisabledPath w node.source.now path inner key place attributes r → r.name ≡ t.name
    same_name key place attributes r inner d = (snoc_same d.modules t.modules r.name t.name (sym d.names.whole ∙ t.whole)).1

    pub takes_other : (count : ℕ) → takes w f.found.attributes f.found.r count ≡ false → FirstDisabledTakesOther w node.source.now path count
    takes_other count e = record {
      inner = t.submodule.source.now;
      key = f.found.key;
      place = f.found.at;
      attributes = f.found.attributes;
      r = f.found.r;
      leads = disabled_path;
      files = keys;
      order = (node_is w compilation is t.inner t.submodule t.leads.there).own_files.order;
      at = rank;
      found = key_at;
      first = λ at' key' place' attributes' r' found' d. f.first at' key' place' attributes' r' found' d.disabled (same_name key' place' attributes' r' t.submodule.source.now d);
      other = e;
    }

    one_item : (key key' : Text) (place place' : ℕ) (a b : ItemShape) → key ≡ key' → place ≡ place' → Has w key place a → Has w key' place' b → a ≡ b
    one_item key key' place place' a b keys_same places h h' =
        let items : h.items ≡ h'.items = same_Some h.items h'.items (sym h.says ∙ ap w.said keys_same ∙ h'.says) in
        same_Some a b (sym h.at ∙ ap₂ (λ xs n. slice_get xs n) items places ∙ h'.at)

    one_first : (a b m n : ℕ) → (a < b) ⊎ ((a ≡ b) × (m ≤ n)) → (b < a) ⊎ ((b ≡ a) × (n ≤ m)) → (a ≡ b) × (m ≡ n)
    one_first a b m n (inl p) (inl q) = absurd (omega (arith, p, q))
    one_first a b m n (inl p) (inr (e, q)) = absurd (omega (arith, p, e))
    one_first a b m n (inr (e, p)) (inl q) = absurd (omega (arith, q, e))
    one_first a b m n (inr (e, p)) (inr (e', q)) = (e, omega (arith, p, q))

    -- no other comes first
    pub only_first : (count : ℕ) → FirstDisabledTakesOther w node.source.now path count → takes w f.found.attributes f.found.r count ≡ false
    only_first count g =
        let p = snoc_same g.leads.modules t.modules g.r.name t.name (sym g.leads.names.whole ∙ t.whole) in
        let inner = t.leads.alone g.inner (subst (λ ms. LeadsTo w node.source.now ms g.inner) p.0 g.leads.names.leads) in
        let files : g.files ≡ keys = orders_are_unique w g.inner g.files keys g.order (subst (λ o. IsReadingOrder w o keys) (sym inner) (node_is w compilation is t.inner t.submodule t.leads.there).own_files.order) in
        let one = f.first g.at g.key g.place g.attributes g.r (ap (λ xs. slice_get xs g.at) (sym files) ∙ g.found) (subst (λ o. IsDisabled w o g.key g.place g.attributes g.r) inner g.leads.disabled) p.1 in
        let other = g.first rank f.found.key f.found.at f.found.attributes f.found.r (ap (λ xs. slice_get xs rank) files ∙ key_at)
        (subst (λ o. IsDisabledPath w node.source.now path o f.found.key f.found.at f.found.attributes f.found.r) (sym inner) disabled_path) in
        let both = one_first rank g.at f.found.at g.place one other in
        let keys_same = same_Some f.found.key g.key (sym key_at ∙ ap (slice_get keys) both.0 ∙ ap (λ xs. slice_get xs g.at) (sym files) ∙ g.found) in
        let same = one_item f.found.key g.key f.found.at g.place (recipe_item f.found.attributes f.found.r) (recipe_item g.attributes g.r) keys_same both.1 f.found.is_disabled.has g.leads.disabled.has in
        let attributes_same : f.found.attributes ≡ g.attributes = cc same in
        let recipes_same : f.found.r ≡ g.r = cc same in
        ap₂ (λ a r. takes w a r count) attributes_same recipes_same ∙ g.other
