-- The recipes that a module of a compilation offers are those that its world offers.
use Rattle.std.proofs.Common.{◌≡◌, ◌∙◌, ap, sym, subst, refl, ℕ, Bool, true, false, if◌then◌else◌, List, [], ◌∷◌, map, length, take, Option, Some, None}
use Rattle.std.specs.Prelude.{Contains, find, slice_get}
use Rattle.std.specs.List.{filter_map}
use Rattle.std.specs.List.Sorted.{IsStrictlySortedBy}
use Rattle.std.specs.Option.{option_and_then, option_map}
use Rattle.std.proofs.lemmas.List.Elements.{All-contains}
use Rattle.std.proofs.lemmas.Option.{none-some, same_Some}
use Rattle.just_text.specs.Tokens.{lexeme}
use Rattle.tree_attributes.specs.Attributes.{AttributeShape}
use Rattle.tree_attributes.specs.declared.attribute.AttributeKind.TheVariants.{Doc as DocKind}
use Rattle.tree_attributes.specs.Sets.Sets.{is_of, items_of as attributes_in, shapes_in}
use Rattle.tree_items.specs.declared.ast.Item.{Item}
use Rattle.tree_items.specs.declared.ast.Item.TheVariants as items
use Rattle.tree_items.specs.Files.{ItemShape, item_shape, item_shapes, recipe_item}
use Rattle.tree_items.specs.Recipes.{RecipeShape, parameter_shapes, recipe_shape}
use Rattle.justfile_syntax.specs.Laws.{SaysAtMostOne}
use Rattle.justfile_syntax.specs.Reads.{Reads}
use Rattle.modules_compilation.specs.Places.{item_at, items_of, name_of, text_of}
use Rattle.modules_compilation.specs.Tables.{text_cmp}
use Rattle.modules_compilation.specs.declared.compilation.Compilation.{Compilation}
use Rattle.modules_compilation.specs.declared.module_node.ModuleNode.{ModuleNode}
use Rattle.modules_compilation.specs.declared.place.Place.{Place}
use Rattle.resolve_recipes.specs.Named.{text_at}
use Rattle.meaning_rules.specs.Worlds.Compiled.{FileView, IsAt}
use Rattle.meaning_rules.specs.Worlds.Laws.{IsRead}
use Rattle.meaning_rules.specs.Worlds.Docs.{doc_at, doc_in, or_comment}
use Rattle.meaning_rules.specs.Worlds.Given.{Given, Text, World, filled}
use Rattle.meaning_rules.specs.Worlds.Keeping.{KeepsAt, a_recipe}
use Rattle.meaning_rules.proofs.Worlds.Places.{contains_at}
use Rattle.meaning_rules.specs.Worlds.Views.{file_view, node_view}
use Rattle.laws_modules.specs.Names.Names.{HasNode, nodes, views}
use Rattle.laws_modules.proofs.Names.Found.{mapped_at}
use Rattle.laws_modules.proofs.Names.Standing.{item_there}
use Rattle.laws_runs.proofs.Resolved.Items.{is_item}
use Rattle.laws_runs.proofs.Resolved.Listed.{kept_found, listed_at, names_sorted}
use Rattle.laws_runs.proofs.Resolved.Lists.{given_back, given_there}
use Rattle.laws_runs.proofs.Resolved.Recipes.{recipe_list}
use Rattle.just_meaning.specs.Defining.{is_private as private_said}
use Rattle.justfile_analyzer.specs.Listings.{comment_of, doc, above, said_by}
use Rattle.justfile_analyzer.specs.Offers.{Written, is_private, offered_at, public_recipe}
use Rattle.meaning_texts.specs.Laws.{IsCompiledFrom}
use Rattle.meaning_rules.specs.Worlds.Matching.{HoldsTexts}
use Rattle.meaning_texts.specs.Listings.{AreOffered, IsDoc, IsOffered, OfferedRecipe}
use Rattle.meaning_texts.proofs.Blanks.{comment_from, comment_is}
use Rattle.meaning_texts.proofs.Said.{doc_is, private_is}
use Rattle.meaning_texts.proofs.Sorted.{made_back, made_there, sorted_given}

-- ---- docs

module _ (one : SaysAtMostOne) (source : Given) (key : Text) (at : ℕ) (attributes : List AttributeShape) (shape : RecipeShape) where
  -- what is said, by the place without blank lines
  doc_told : (d : Option Text) (a : IsDoc source key at attributes shape d) → d ≡ or_comment (doc_in source.expansion attributes) (comment_from None a.items at)
  doc_told d a =
      a.is ∙ ap (or_comment (doc_in source.expansion attributes)) (comment_is a.items a.place (recipe_item attributes shape) a.there refl ∙ ap (comment_from None a.items) a.rank)

  -- one thing is said of a recipe
  pub doc_once : (d e : Option Text) → IsDoc source key at attributes shape d → IsDoc source key at attributes shape e → d ≡ e
  doc_once d e a b =
      let texts : a.says.0 ≡ b.says.0 = same_Some a.says.0 b.says.0 (sym a.says.1 ∙ b.says.1) in
      let same : a.items ≡ b.items = one source.expansion source.version b.says.0 a.items b.items (subst (λ t. Reads source.expansion source.version t a.items) texts a.says.2) b.says.2 in
      doc_told d a ∙ ap (λ xs. or_comment (doc_in source.expansion attributes) (comment_from None xs at)) same ∙ sym (doc_told e b)

-- ---- recipes that are offered

module _ (compilation : Compilation) (place : Place) where
  -- the recipe that is offered at a place stands there, and is not private
  pub record IsOpen (recipe : Written) : Type 0 where
    pub there : item_at compilation place ≡ Some (items.Recipe recipe)
    pub shown : is_private (lexeme recipe.name.token) (attributes_in recipe.attributes) ≡ false

  abbrev as_offered : Option Item → Option (Written × Place)
  as_offered o = option_map (λ recipe. (recipe, place)) (public_recipe o)

  offered_back : (r : Written × Place) → offered_at compilation place ≡ Some r → (recipe : Written) × (r ≡ (recipe, place)) × IsOpen recipe
  offered_back r e = by_item (item_at compilation place) refl e
    where
      by_test : (recipe : Written) (b : Bool) → is_private (lexeme recipe.name.token) (attributes_in recipe.attributes) ≡ b → item_at compilation place ≡ Some (items.Recipe recipe)
          → option_map (λ recipe. (recipe, place)) (if b then None else Some recipe) ≡ Some r → (recipe : Written) × (r ≡ (recipe, place)) × IsOpen recipe
      by_test recipe true p is e = absurd (none-some r e)
      by_test recipe false p is e = (recipe, sym (same_Some (recipe, place) r e), record { there = is; shown = p })

      by_item : (o : Option Item) → item_at compilation place ≡ o → as_offered o ≡ Some r → (recipe : Written) × (r ≡ (recipe, place)) × IsOpen recipe
      by_item None is e = absurd (none-some r e)
      by_item (Some (items.Alias a)) is e = absurd (none-some r e)
      by_item (Some (items.Assignment a)) is e = absurd (none-some r e)
      by_item (Some (items.Comment text)) is e = absurd (none-some r e)
      by_item (Some (items.Function f)) is e = absurd (none-some r e)
      by_item (Some (items.Import i)) is e = absurd (none-some r e)
      by_item (Some (items.Module m)) is e = absurd (none-some r e)
      by_item (Some items.Newline) is e = absurd (none-some r e)
      by_item (Some (items.Recipe recipe)) is e = by_test recipe (is_private (lexeme recipe.name.token) (attributes_in recipe.attributes)) refl is e
      by_item (Some (items.Set s)) is e = absurd (none-some r e)
      by_item (Some (items.Unexport u)) is e = absurd (none-some r e)

  offered_so : (recipe : Written) → IsOpen recipe → offered_at compilation place ≡ Some (recipe, place)
  offered_so recipe o = ap as_offered o.there ∙ ap (λ b. option_map (λ recipe. (recipe, place)) (if b then None else Some recipe)) o.shown

-- an item that says a recipe is one
recipe_shaped : (item : Item) (attributes : List AttributeShape) (shape : RecipeShape) → item_shape item ≡ recipe_item attributes shape
    → (recipe : Written) × (item ≡ items.Recipe recipe) × (shapes_in recipe.attributes ≡ attributes) × (recipe_shape recipe ≡ shape)
recipe_shaped (items.Alias a) attributes shape e = absurd (cc e)
recipe_shaped (items.Assignment a) attributes shape e = absurd (cc e)
recipe_shaped (items.Comment text) attributes shape e = absurd (cc e)
recipe_shaped (items.Function f) attributes shape e = absurd (cc e)
recipe_shaped (items.Import i) attributes shape e = absurd (cc e)
recipe_shaped (items.Module m) attributes shape e = absurd (cc e)
recipe_shaped items.Newline attributes shape e = absurd (cc e)
recipe_shaped (items.Recipe r) attributes shape e =
    let a : shapes_in r.attributes ≡ attributes = cc e in
    let s : recipe_shape r ≡ shape = cc e in
    (r, refl, a, s)
recipe_shaped (items.Set s) attributes shape e = absurd (cc e)
recipe_shaped (items.Unexport u) attributes shape e = absurd (cc e)

module _ (one : SaysAtMostOne) (source : Given) (w : World) (compilation : Compilation) (told : IsCompiledFrom source w compilation) (k : ℕ) (node : ModuleNode) (here : HasNode w compilation k node) where
  abbrev pub row_of : Written × Place → OfferedRecipe
  row_of r = record { name = lexeme r.0.name.token; parameters = parameter_shapes r.0.parameters.items; doc = doc compilation r.1 r.0 }

  abbrev pub offered_here : List (Written × Place)
  offered_here = filter_map (offered_at compilation) node.recipes.items

  abbrev pub rows_here : List OfferedRecipe
  rows_here = map row_of offered_here

  abbrev Stands : Place → Text → ℕ → ItemShape → Type 0
  Stands place key at item = IsAt w (views w compilation) (nodes w compilation) (node_view node) place key at item

  -- what is said of a recipe at a place
  doc_here : (place : Place) (key : Text) (at : ℕ) (attributes : List AttributeShape) (shape : RecipeShape) → Stands place key at (recipe_item attributes shape)
      → (recipe : Written) → item_at compilation place ≡ Some (items.Recipe recipe) → shapes_in recipe.attributes ≡ attributes → IsDoc source key at attributes shape (doc compilation place recipe)
  doc_here place key at attributes shape there recipe e same =
      let f = mapped_at file_view compilation.files.items place.file there.file there.found in
      let own : f.0.key.now ≡ key = ap (λ (v : FileView). v.key) f.2 ∙ there.is in
      let all : List Item = f.0.ast.items.items in
      let listed : slice_get all place.item ≡ Some (items.Recipe recipe) = sym (ap (λ o. slice_get (items_of o) place.item) f.1) ∙ e in
      let said = told.sources place.file f.0 f.1 in
      let texts = All-contains (HoldsTexts source.expansion) all (items.Recipe recipe) said.texts (contains_at all place.item (items.Recipe recipe) listed) in
      record {
        items = item_shapes all;
        says = subst (λ q. IsRead source q (item_shapes all)) own said.says;
        place = place.item;
        there = ap (λ (v : FileView). slice_get v.items place.item) f.2 ∙ there.there;
        rank = ap (λ (v : FileView). length (filled (take place.item v.items))) f.2 ∙ there.rank;
        is =
            ap (λ xs. said_by (option_map (λ item. item.attribute) (find (is_of DocKind) (attributes_in recipe.attributes))) (comment_of (above xs place.item))) (ap items_of f.1)
            ∙ doc_is source.expansion all place.item (attributes_in recipe.attributes) texts
            ∙ ap (doc_at source.expansion (item_shapes all) place.item) same;
      }

  -- the name at a place
  named_here : (place : Place) (recipe : Written) → item_at compilation place ≡ Some (items.Recipe recipe) → text_at compilation place ≡ lexeme recipe.name.token
  named_here place recipe e = ap (λ o. text_of (option_and_then name_of o)) e

  to_world : (place : Place) → Contains node.recipes.items place → (recipe : Written) → IsOpen compilation place recipe → IsOffered source w node.source.now (row_of (recipe, place))
  to_world place c recipe o =
      let l = listed_at w compilation told.of k node here a_recipe node.recipes.items (recipe_list w compilation told.of k node here) place c in
      let i = item_there w compilation (node_view node) place l.1.key l.1.at l.1.item l.1.there in
      let same : i.0 ≡ items.Recipe recipe = same_Some i.0 (items.Recipe recipe) (sym i.1 ∙ o.there) in
      let shaped : l.1.item ≡ recipe_item (shapes_in recipe.attributes) (recipe_shape recipe) = sym i.2 ∙ ap item_shape same in
      let named : l.0 ≡ lexeme recipe.name.token = sym l.1.texted ∙ named_here place recipe o.there in
      record {
        key = l.1.key;
        at = l.1.at;
        attributes = shapes_in recipe.attributes;
        shape = recipe_shape recipe;
        kept = subst (λ t. KeepsAt w node.source.now a_recipe t l.1.key l.1.at (recipe_item (shapes_in recipe.attributes) (recipe_shape recipe))) named (subst (KeepsAt w node.source.now a_recipe l.0 l.1.key l.1.at) shaped l.1.keeps);
        shown = sym (private_is (lexeme recipe.name.token) (attributes_in recipe.attributes)) ∙ o.shown;
        parameters = refl;
        doc = doc_here place l.1.key l.1.at (shapes_in recipe.attributes) (recipe_shape recipe) (subst (Stands place l.1.key l.1.at) shaped l.1.there) recipe o.there refl;
      }

  from_world : (row : OfferedRecipe) → IsOffered source w node.source.now row → Contains rows_here row
  from_world row h =
      let f = kept_found w compilation told.of k node here a_recipe node.recipes.items (recipe_list w compilation told.of k node here) row.name h.key h.at (recipe_item h.attributes h.shape) h.kept in
      let i = item_there w compilation (node_view node) f.place h.key h.at (recipe_item h.attributes h.shape) f.there in
      let r = recipe_shaped i.0 h.attributes h.shape i.2 in
      let there : item_at compilation f.place ≡ Some (items.Recipe r.0) = i.1 ∙ ap (λ x. Some x) r.1 in
      let q = is_item a_recipe row.name w.os (recipe_item h.attributes h.shape) h.kept.defines.is in
      let own : recipe_item h.attributes h.shape ≡ recipe_item q.0 q.1 = q.2 in
      let shape : h.shape ≡ q.1 = cc own in
      let named : lexeme r.0.name.token ≡ row.name = ap (λ (s : RecipeShape). s.name) r.3 ∙ ap (λ (s : RecipeShape). s.name) shape ∙ q.3 in
      let shown : is_private (lexeme r.0.name.token) (attributes_in r.0.attributes) ≡ false =
      private_is (lexeme r.0.name.token) (attributes_in r.0.attributes) ∙ ap (λ xs. private_said xs (lexeme r.0.name.token)) r.2 ∙ ap (private_said h.attributes) named ∙ h.shown in
      let given = given_there (offered_at compilation) node.recipes.items f.place (r.0, f.place) f.contained (offered_so compilation f.place r.0 (record { there = there; shown = shown })) in
      let parameters : parameter_shapes r.0.parameters.items ≡ row.parameters = ap (λ (s : RecipeShape). s.parameters) r.3 ∙ sym h.parameters in
      let said : doc compilation f.place r.0 ≡ row.doc =
      doc_once one source h.key h.at h.attributes h.shape (doc compilation f.place r.0) row.doc (doc_here f.place h.key h.at h.attributes h.shape f.there r.0 there r.2) h.doc in
      let same : row_of (r.0, f.place) ≡ row = λ i. record { name = named i; parameters = parameters i; doc = said i } in
      subst (Contains rows_here) same (made_there row_of offered_here (r.0, f.place) given)

  -- these are the recipes that the module offers in the world
  pub are_offered : AreOffered source w node.source.now rows_here
  are_offered = record {
    sorted =
        subst (IsStrictlySortedBy text_cmp) (map_twice offered_here)
        (sorted_given (offered_at compilation) (text_at compilation) (λ (r : Written × Place). lexeme r.0.name.token) node.recipes.items names
        (names_sorted w compilation told.of k node here a_recipe node.recipes.items (recipe_list w compilation told.of k node here)));
    each = λ row. (
      λ c.
          let m = made_back row_of offered_here row c in
          let g = given_back (offered_at compilation) node.recipes.items m.0 m.1 in
          let b = offered_back compilation g.0 m.0 g.2 in
          subst (IsOffered source w node.source.now) (ap row_of (sym b.1) ∙ m.2) (to_world g.0 g.1 b.0 b.2),
      from_world row,
    );
  }
    where
      map_twice : (xs : List (Written × Place)) → map (λ (r : Written × Place). lexeme r.0.name.token) xs ≡ map (λ (row : OfferedRecipe). row.name) (map row_of xs)
      map_twice [] = refl
      map_twice (x ∷ xs) = ap (λ more. lexeme x.0.name.token ∷ more) (map_twice xs)

      names : (place : Place) (r : Written × Place) → Contains node.recipes.items place → offered_at compilation place ≡ Some r → lexeme r.0.name.token ≡ text_at compilation place
      names place r c e = let b = offered_back compilation place r e in ap (λ (x : Written × Place). lexeme x.0.name.token) b.1 ∙ sym (named_here place b.0 b.2.there)
