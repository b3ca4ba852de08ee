-- Disabled recipes to which paths lead.
use Rattle.std.proofs.Common.{◌≡◌, ◌⊎◌, inl, inr, sym, ◌∙◌, ap, subst, Bool, true, false, cond, true≢false, List, [], ◌∷◌, ◌-◌, ◌<◌, ◌≤◌, ℕ, zero, suc, Some, refl, arith}
use Rattle.std.specs.Prelude.{Contains, slice_get, find}
use Rattle.std.specs.Cmp.{tied_itself}
use Rattle.std.specs.Str.{bytes_eq}
use Rattle.std.specs.declared.cmp.Ordering.TheVariants.{Less, Equal}
use Rattle.std.proofs.lemmas.Bool.Decides.{leb_tells}
use Rattle.std.proofs.lemmas.Cmp.{nat_list_cmp_total}
use Rattle.std.proofs.lemmas.Option.{none-some, same_Some}
use Rattle.std.proofs.lemmas.Slice.Eq.{bytes_eq-Decides}
use Rattle.tree_attributes.specs.Attributes.{AttributeShape}
use Rattle.tree_items.specs.Files.{recipe_item}
use Rattle.tree_items.specs.Recipes.{RecipeShape}
use Rattle.modules_compilation.specs.Tables.{text_cmp}
use Rattle.modules_compilation.specs.declared.compilation.Compilation.{Compilation}
use Rattle.modules_compilation.specs.declared.module_node.ModuleNode.{ModuleNode}
use Rattle.modules_compilation.specs.declared.place.Place.{Place}
use Rattle.resolve_recipes.specs.Named.{first_named, text_at}
use Rattle.meaning_rules.specs.Worlds.Given.{Text, World}
use Rattle.meaning_rules.specs.Worlds.Keeping.{IsDisabled}
use Rattle.meaning_rules.specs.Worlds.Compiled.{AreDisabled, HasDisabled, IsBefore}
use Rattle.meaning_rules.proofs.Worlds.Places.{contains_at, place_of}
use Rattle.meaning_rules.proofs.Worlds.Reading.{orders_have_once}
use Rattle.meaning_rules.specs.Worlds.Views.{node_view}
use Rattle.laws_modules.specs.Names.Names.{HasNode, IsOfWorld, nodes, views}
use Rattle.laws_modules.proofs.Names.Found.{mapped, mapped_at}
use Rattle.laws_modules.proofs.Names.Named.{node_is}
use Rattle.laws_modules.proofs.Names.Standing.{text_there}
use Rattle.laws_names.proofs.Depending.Ranks.{AtPlace, own_key, own_keys, place_there, rank_at_most}

-- ---- the first that passes

module _ {X : Type 0} (test : X → Bool) where
  -- no earlier one passes
  pub record IsFirst (xs : List X) (x : X) : Type 0 where
    pub k : ℕ
    pub here : slice_get xs k ≡ Some x
    pub passes : test x ≡ true
    pub first : (j : ℕ) (y : X) → slice_get xs j ≡ Some y → test y ≡ true → k ≤ j

  first_if : (y : X) (ys : List X) (x : X) (b : Bool) → test y ≡ b → (find test ys ≡ Some x → IsFirst ys x) → cond b (Some y) (find test ys) ≡ Some x → IsFirst (y ∷ ys) x
  first_if y ys x true is later e = record { k = 0; here = e; passes = sym (ap test (same_Some y x e)) ∙ is; first = λ j z at p. omega arith }
  first_if y ys x false is later e =
      let r = later e in
      record { k = suc r.k; here = r.here; passes = r.passes; first = λ j z at p. behind r j z at p }
    where
      behind : (r : IsFirst ys x) (j : ℕ) (z : X) → slice_get (y ∷ ys) j ≡ Some z → test z ≡ true → suc r.k ≤ j
      behind r zero z at p = absurd (true≢false (sym p ∙ ap test (sym (same_Some y z at)) ∙ is))
      behind r (suc j) z at p = let le = r.first j z at p in omega (arith, le)

  pub first_found : (xs : List X) (x : X) → find test xs ≡ Some x → IsFirst xs x
  first_found [] x e = absurd (none-some x e)
  first_found (y ∷ ys) x e = first_if y ys x (test y) refl (first_found ys x) e

module _ (w : World) (compilation : Compilation) (is : IsOfWorld w compilation) (k : ℕ) (node : ModuleNode) (here : HasNode w compilation k node) where
  -- ---- the disabled recipes of one module

  pub disabled : AreDisabled w (views w compilation) (nodes w compilation) (node_view node)
  disabled = (node_is w compilation is k node here).disabled

  -- a disabled recipe of the module is one of the world
  pub record IsDisabledAt (item : Place) : Type 0 where
    pub key : Text
    pub at : ℕ
    pub attributes : List AttributeShape
    pub r : RecipeShape
    pub there : AtPlace w compilation is k node here item key at (recipe_item attributes r)
    pub is_disabled : IsDisabled w node.source.now key at attributes r

  -- the row of a disabled recipe
  record HasRow (n : ℕ) (item : Place) : Type 0 where
    pub name : Text
    pub at_row : slice_get disabled.rows n ≡ Some (name, item)
    pub is_there : HasDisabled w (views w compilation) (nodes w compilation) (node_view node) name item

  row_at : (n : ℕ) (item : Place) → slice_get node.disabled.items n ≡ Some item → HasRow n item
  row_at n item e =
      let m = mapped_at (λ (row : Text × Place). row.1) disabled.rows n item (ap (λ xs. slice_get xs n) disabled.are ∙ e) in
      let row : slice_get disabled.rows n ≡ Some (m.0.0, item) = m.1 ∙ ap (λ p. Some (m.0.0, p)) m.2 in
      record { name = m.0.0; at_row = row; is_there = (disabled.each m.0.0 item).0 (contains_at disabled.rows n (m.0.0, item) row) }

  pub disabled_at : (item : Place) → Contains node.disabled.items item → IsDisabledAt item
  disabled_at item c =
      let p = place_of node.disabled.items item c in
      let r = (row_at p.0 item p.1).is_there in
      record { key = r.0; at = r.1; attributes = r.2; r = r.3; there = r.4; is_disabled = r.5 }

  -- a disabled recipe of the world stands in the module's list
  pub record IsListed (key : Text) (at : ℕ) (attributes : List AttributeShape) (r : RecipeShape) : Type 0 where
    pub item : Place
    pub there : AtPlace w compilation is k node here item key at (recipe_item attributes r)
    pub n : ℕ
    pub at_row : slice_get disabled.rows n ≡ Some (r.name, item)
    pub listed : slice_get node.disabled.items n ≡ Some item
    pub named : text_at compilation item ≡ r.name

  pub disabled_listed : (key : Text) (at : ℕ) (attributes : List AttributeShape) (r : RecipeShape) → IsDisabled w node.source.now key at attributes r → IsListed key at attributes r
  disabled_listed key at attributes r d =
      let p = place_there w compilation is k node here key at (recipe_item attributes r) d.of d.has in
      let c = (disabled.each r.name p.0).1 (key, at, attributes, r, p.1, d, refl) in
      let q = place_of disabled.rows (r.name, p.0) c in
      record {
        item = p.0;
        there = p.1;
        n = q.0;
        at_row = q.1;
        listed = ap (λ xs. slice_get xs q.0) (sym disabled.are) ∙ mapped (λ (row : Text × Place). row.1) disabled.rows q.0 (r.name, p.0) q.1;
        named = text_there w compilation (node_view node) p.0 key at attributes r p.1;
      }

  -- a place is no later than another
  abbrev Earlier : Place → Place → Type 0
  Earlier item other = (item.file < other.file) ⊎ ((item.file ≡ other.file) × (item.item ≤ other.item))

  -- the first of a name stands no later than another of the name
  pub record IsFirstOf (name : Text) (item : Place) : Type 0 where
    pub found : IsDisabledAt item
    pub is_named : found.r.name ≡ name
    pub first : (at' : ℕ) (key' : Text) (place' : ℕ) (attributes' : List AttributeShape) (r' : RecipeShape) → slice_get (own_keys w compilation is k node here) at' ≡ Some key' → IsDisabled w node.source.now key' place' attributes' r'
        → r'.name ≡ name
        → ((item.file - node.first_file) < at') ⊎ (((item.file - node.first_file) ≡ at') × (found.at ≤ place'))

  not_less : (name : Text) (a b : Text) → a ≡ name → b ≡ name → text_cmp a b ≡ Less → ⊥
  not_less name a b e f less =
      let same : Less ≡ Equal = sym less ∙ ap (λ x. text_cmp x b) (e ∙ sym f) ∙ tied_itself nat_list_cmp_total b in
      cc same

  pub first_of : (name : Text) (item : Place) → first_named (text_at compilation) node.disabled.items name ≡ Some item → IsFirstOf name item
  first_of name item e =
      let f = first_found (λ x. bytes_eq (text_at compilation x) name) node.disabled.items item e in
      let row = row_at f.k item f.here in
      let h = row.is_there in
      let text : text_at compilation item ≡ name = (bytes_eq-Decides (text_at compilation item) name).0 f.passes in
      let found : IsDisabledAt item = record { key = h.0; at = h.1; attributes = h.2; r = h.3; there = h.4; is_disabled = h.5 } in
      record {
        found = found;
        is_named = sym (text_there w compilation (node_view node) item h.0 h.1 h.2 h.3 h.4) ∙ text;
        first = λ at' key' place' attributes' r' found' d named'.
            let l = disabled_listed key' place' attributes' r' d in
            let le = f.first l.n l.item l.listed ((bytes_eq-Decides (text_at compilation l.item) name).1 (l.named ∙ named')) in
            let rowed : row.name ≡ name = sym h.6 ∙ sym (text_there w compilation (node_view node) item h.0 h.1 h.2 h.3 h.4) ∙ text in
            ranked h.0 h.1 h.2 h.3 h.4 l.item key' place' attributes' r' l.there at' found' (earlier f.k l.n row.name r'.name l.item le row.at_row l.at_row rowed named');
      }
    where
      before : (a b : Text) (other : Place) → a ≡ name → b ≡ name → IsBefore (a, item) (b, other) → Earlier item other
      before a b other e f (inl less) = absurd (not_less name a b e f less)
      before a b other e f (inr (same, inl lt)) = inl lt
      before a b other e f (inr (same, inr (file, lt))) = inr (file, omega (arith, lt))

      earlier : (i j : ℕ) (a b : Text) (other : Place) → i ≤ j → slice_get disabled.rows i ≡ Some (a, item) → slice_get disabled.rows j ≡ Some (b, other) → a ≡ name → b ≡ name → Earlier item other
      earlier i j a b other le at at' e f = elim (leb_tells j i) [
        | inl p ↦
            let ge = p.1 in
            let one : i ≡ j = omega (arith, le, ge) in
            let same = same_Some (a, item) (b, other) (sym at ∙ ap (slice_get disabled.rows) one ∙ at') in
            let places : item ≡ other = ap (λ (x : Text × Place). x.1) same in
            inr (ap (λ (x : Place). x.file) places, subst (λ (x : Place). item.item ≤ x.item) places (omega arith))
        | inr p ↦ before a b other e f (disabled.sorted i j (a, item) (b, other) p.1 at at')
      ]

      ranked : (key : Text) (at : ℕ) (attributes : List AttributeShape) (r : RecipeShape) (h : AtPlace w compilation is k node here item key at (recipe_item attributes r))
          (other : Place) (key' : Text) (place' : ℕ) (attributes' : List AttributeShape) (r' : RecipeShape)
          → AtPlace w compilation is k node here other key' place' (recipe_item attributes' r') → (at' : ℕ) → slice_get (own_keys w compilation is k node here) at' ≡ Some key' → Earlier item other
          → ((item.file - node.first_file) < at') ⊎ (((item.file - node.first_file) ≡ at') × (at ≤ place'))
      ranked key at attributes r h other key' place' attributes' r' h' at' found' sooner = by_file sooner
        where
          same_at : (other.file - node.first_file) ≡ at'
          same_at = orders_have_once w node.source.now (own_keys w compilation is k node here) (node_is w compilation is k node here).own_files.order (other.file - node.first_file) at' key'
              (own_key w compilation is k node here other key' place' (recipe_item attributes' r') h') found'

          by_file : Earlier item other → ((item.file - node.first_file) < at') ⊎ (((item.file - node.first_file) ≡ at') × (at ≤ place'))
          by_file (inl lt) = let same = same_at in let from = h.from in inl (omega (arith, lt, same, from))
          by_file (inr (files, le)) = inr (ap (λ n. n - node.first_file) files ∙ same_at, rank_at_most w compilation is k node here item other key key' at place' (recipe_item attributes r) (recipe_item attributes' r') h h' files le)
