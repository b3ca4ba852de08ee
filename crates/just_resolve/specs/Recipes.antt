-- Recipes with the places of what they depend on and read.
use Rattle.std.specs.Prelude.{ℕ, drop, take, List, Option, Some, None, Result, Ok, Err, length, slice_get}
use Rattle.std.specs.List.{filter_map}
use Rattle.std.specs.Option.{option_map}
use Rattle.just_text.specs.declared.name.Name.{Name}
use Rattle.modules_compilation.specs.declared.place.Place.{Place}
use Rattle.resolve_references.specs.ItemReferences.{references_of_recipe}
use Rattle.resolve_references.specs.Places.{places_of}
use Rattle.resolve_references.specs.declared.read_fault.ReadFault.{ReadFault}
use Rattle.resolve_references.specs.declared.variable_resolver.VariableResolver.{VariableResolver}
use Rattle.resolve_recipes.specs.Nodes.{Kept}
use Rattle.resolve_analysis.specs.declared.module_reads.ModuleReads.{ModuleReads}
use Rattle.resolve_analysis.specs.declared.recipes.ResolvedRecipe.{ResolvedRecipe}
use Rattle.just_resolve.specs.Gathered.{gathered}

-- a recipe, the module that keeps it, where it stands, and the places of what it depends on and reads
pub record Resolved : Type 0 where
  pub name : Name
  pub home : ℕ
  pub place : Place
  pub priors : List ℕ
  pub subsequents : List ℕ
  pub reads : List ℕ

abbrev pub seen : ResolvedRecipe → Resolved
seen recipe = record { name = recipe.name; home = recipe.module; place = recipe.place; priors = recipe.priors.items; subsequents = recipe.subsequents.items; reads = recipe.reads.items }

-- the ranks of the places that have one
abbrev pub ranks_at : List ℕ → List ℕ → List ℕ
ranks_at ranks places = filter_map (slice_get ranks) places

-- of what it needs, as many as it has priors come first, and the subsequents after them
abbrev pub resolved_recipe : List ℕ → Kept → List ℕ → List ℕ → Resolved
resolved_recipe ranks kept needs reads = record {
  name = kept.2.name;
  home = kept.0;
  place = kept.1;
  priors = ranks_at ranks (take (length kept.2.priors.items) needs);
  subsequents = ranks_at ranks (drop (length kept.2.priors.items) needs);
  reads = reads;
}

abbrev pub with_reads : List ℕ → Kept → List ℕ → Result (List ℕ) ReadFault → Result Resolved ReadFault
with_reads ranks kept needs (Ok reads) = Ok (resolved_recipe ranks kept needs reads)
with_reads ranks kept needs (Err fault) = Err fault

-- the recipe with the ranks of what it needs and with what it reads, or the fault of what it reads or calls
abbrev pub resolved : VariableResolver → List ℕ → Kept → List ℕ → Result Resolved ReadFault
resolved resolver ranks kept needs = with_reads ranks kept needs (places_of resolver (references_of_recipe kept.2))

abbrev pub resolved_with : List ModuleReads → List ℕ → Option Kept → Option (List ℕ) → Option (Result Resolved ReadFault)
resolved_with reads ranks (Some kept) (Some needs) = option_map (λ (home : ModuleReads). resolved home.resolver ranks kept needs) (slice_get reads kept.0)
resolved_with reads ranks _ _ = None

-- that of the recipe at a place, which has its row of needs there
abbrev pub resolved_at : List Kept → List ModuleReads → List (List ℕ) → List ℕ → ℕ → Option (Result Resolved ReadFault)
resolved_at recipes reads needs ranks place = resolved_with reads ranks (slice_get recipes place) (slice_get needs place)

-- those of the recipes at these places, in their order
abbrev pub resolved_in : List Kept → List ModuleReads → List (List ℕ) → List ℕ → List ℕ → Result (List Resolved) ReadFault
resolved_in recipes reads needs ranks order = gathered (λ found. found) (filter_map (resolved_at recipes reads needs ranks) order)
