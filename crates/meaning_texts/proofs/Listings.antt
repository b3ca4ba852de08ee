-- The list of a module of a compilation is that of its world, which has one.
use Rattle.std.proofs.Common.{◌≡◌, ◌∙◌, ap, sym, refl, ℕ, List, [], ◌∷◌, ◌++◌, map}
use Rattle.std.specs.Prelude.{filter}
use Rattle.std.specs.List.{filter_map}
use Rattle.justfile_syntax.specs.Laws.{SaysAtMostOne}
use Rattle.modules_compilation.specs.declared.compilation.Compilation.{Compilation}
use Rattle.modules_compilation.specs.declared.module_node.ModuleNode.{ModuleNode}
use Rattle.modules_compilation.specs.declared.place.Place.{Place}
use Rattle.meaning_rules.specs.Worlds.Given.{Given, Text, World}
use Rattle.meaning_rules.specs.Worlds.Modules.{inside}
use Rattle.laws_modules.specs.Names.Names.{HasNode}
use Rattle.laws_agreement.proofs.Unique.Lists.{same_rows, same_texts}
use Rattle.justfile_analyzer.specs.Listings.{listed_modules, listed_recipe, listing, listing_text}
use Rattle.justfile_analyzer.specs.Offers.{Written, is_public, module_name, offered_at, recipes_of, submodules_of}
use Rattle.meaning_texts.specs.Laws.{IsCompiledFrom, ListingsAreOne, ListingsStand, OfferedModulesAreDefined}
use Rattle.meaning_texts.specs.Listings.{IsListing, OfferedRecipe, listed_row}
use Rattle.meaning_texts.proofs.Recipes as recipes
use Rattle.meaning_texts.proofs.Submodules as submodules

module _ (one : SaysAtMostOne) (source : Given) (w : World) (compilation : Compilation) (told : IsCompiledFrom source w compilation) (k : ℕ) (node : ModuleNode) (here : HasNode w compilation k node) where
  abbrev rows : List OfferedRecipe
  rows = recipes.rows_here one source w compilation told k node here

  abbrev names : List Text
  names = submodules.names_here w compilation told.of told.single k node here

  rows_are : (xs : List (Written × Place)) → map (listed_recipe compilation) xs ≡ map listed_row (map (recipes.row_of one source w compilation told k node here) xs)
  rows_are [] = refl
  rows_are (x ∷ xs) = ap (λ more. listed_recipe compilation x ∷ more) (rows_are xs)

  stands : IsListing source w node.source.now (listing compilation k)
  stands = record {
    rows = rows;
    recipes = recipes.are_offered one source w compilation told k node here;
    names = names;
    submodules = submodules.are_offered w compilation told.of told.single k node here;
    is =
        ap (λ xs. listing_text xs (listed_modules compilation k)) (ap (λ o. map (listed_recipe compilation) (filter_map (offered_at compilation) (recipes_of o))) here ∙ rows_are (recipes.offered_here one source w compilation told k node here))
        ∙ ap (listing_text (map listed_row rows)) (ap (λ o. map (module_name compilation) (filter (is_public compilation) (submodules_of o))) here);
  }

pub listings_stand : ListingsStand
listings_stand one source w compilation told k node here = stands one source w compilation told k node here

pub listings_are_one : ListingsAreOne
listings_are_one source w own text other a b =
    let rows : a.rows ≡ b.rows = same_rows (λ (row : OfferedRecipe). row.name) a.rows b.rows a.recipes.sorted b.recipes.sorted (λ z c. (b.recipes.each z).1 ((a.recipes.each z).0 c)) (λ z c. (a.recipes.each z).1 ((b.recipes.each z).0 c)) in
    let names : a.names ≡ b.names = same_texts a.names b.names a.submodules.sorted b.submodules.sorted (λ z c. (b.submodules.each z).1 ((a.submodules.each z).0 c)) (λ z c. (a.submodules.each z).1 ((b.submodules.each z).0 c)) in
    a.is ∙ ap (λ xs. listing_text (map listed_row xs) a.names) rows ∙ ap (listing_text (map listed_row b.rows)) names ∙ sym b.is

pub offered_modules_are_defined : OfferedModulesAreDefined
offered_modules_are_defined w o base working defined are path own name m h = (are.tree (path ++ name ∷ [])).1 (h.key, inside m h.of h.is)
