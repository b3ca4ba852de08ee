-- Recipes stand in their table, and after what they depend on.
use Rattle.std.proofs.Common.{◌≡◌, ◌<◌, ◌≤◌, ◌++◌, ◌∷◌, [], ℕ, zero, suc, List, Option, Some, None, Result, Ok, Err, inl, inr, drop, length, map, take, refl, sym, ap, subst, ◌∙◌, arith}
use Rattle.std.specs.List.{slice_get, Contains}
use Rattle.std.specs.Option.{option_map}
use Rattle.std.proofs.lemmas.List.{take-append-drop}
use Rattle.std.proofs.lemmas.List.Elements.{Contains-append_cases, Contains-append_left, Contains-append_right}
use Rattle.std.proofs.lemmas.Option.{none-some, same_Some, slice_get-get_or, slice_get-map, slice_get_within, get_or_from_slice_get}
use Rattle.modules_compilation.specs.declared.compilation.Compilation.{Compilation}
use Rattle.resolve_order.specs.Order.{IsOrder}
use Rattle.resolve_references.specs.ItemReferences.{references_of_recipe}
use Rattle.resolve_references.specs.Places.{places_of}
use Rattle.resolve_references.specs.declared.read_fault.ReadFault.{ReadFault}
use Rattle.resolve_recipes.specs.Nodes.{Kept, all_kept, view}
use Rattle.resolve_recipes.specs.Ranks.{AreRanks}
use Rattle.resolve_analysis.specs.declared.module_reads.ModuleReads.{ModuleReads}
use Rattle.resolve_analysis.specs.declared.recipes.RecipeTable.{RecipeTable}
use Rattle.resolve_analysis.specs.declared.recipes.ResolvedRecipe.{ResolvedRecipe}
use Rattle.just_resolve.specs.Recipes.{Resolved, ranks_at, resolved, resolved_at, resolved_recipe, resolved_with, seen, with_reads}
use Rattle.just_resolve.specs.Table.{IsTable}
use Rattle.laws_runs.specs.Tables.Tables.{Stands}
use Rattle.laws_runs.proofs.Tables.Gathered.{comes_of, goes_to, is_given}
use Rattle.laws_runs.proofs.Tables.Kept.{as_many, home_within}
use Rattle.laws_runs.proofs.Tables.Ranked.{at_most, has_rank, rank_is}

-- the row that a recipe at a place has, and its needs by their ranks
pub record HasRow (needs : List (List ℕ)) (ranks : List ℕ) (place : ℕ) (a : Resolved) : Type 0 where
  pub row : List ℕ
  pub here : slice_get needs place ≡ Some row
  pub count : ℕ
  pub priors : a.priors ≡ ranks_at ranks (take count row)
  pub subsequents : a.subsequents ≡ ranks_at ranks (drop count row)

read_case : (ranks : List ℕ) (kept : Kept) (row : List ℕ) (r : Result (List ℕ) ReadFault) (a : Resolved) → with_reads ranks kept row r ≡ Ok a → (reads : List ℕ) × (resolved_recipe ranks kept row reads ≡ a)
read_case ranks kept row (Ok reads) a e = (reads, cc e)
read_case ranks kept row (Err fault) a e = absurd (cc e)

home_case : (ranks : List ℕ) (kept : Kept) (row : List ℕ) (home : Option ModuleReads) (a : Resolved) → option_map (λ (h : ModuleReads). resolved h.resolver ranks kept row) home ≡ Some (Ok a) → (reads : List ℕ) × (resolved_recipe ranks kept row reads ≡ a)
home_case ranks kept row None a e = absurd (none-some (Ok a) e)
home_case ranks kept row (Some home) a e = read_case ranks kept row (places_of home.resolver (references_of_recipe kept.2)) a (same_Some (resolved home.resolver ranks kept row) (Ok a) e)

row_case : (reads : List ModuleReads) (ranks : List ℕ) (kept : Option Kept) (row : Option (List ℕ)) (needs : List (List ℕ)) (place : ℕ) (a : Resolved) → slice_get needs place ≡ row → resolved_with reads ranks kept row ≡ Some (Ok a) → HasRow needs ranks place a
row_case reads ranks None row needs place a is e = absurd (none-some (Ok a) e)
row_case reads ranks (Some kept) None needs place a is e = absurd (none-some (Ok a) e)
row_case reads ranks (Some kept) (Some row) needs place a is e =
    let whole = home_case ranks kept row (slice_get reads kept.0) a e in
    record { row = row; here = is; count = length kept.2.priors.items; priors = ap (λ (r : Resolved). r.priors) (sym whole.1); subsequents = ap (λ (r : Resolved). r.subsequents) (sym whole.1) }

-- what is there isn't nothing
gives_case : (reads : List ModuleReads) (ranks : List ℕ) (recipes : List Kept) (needs : List (List ℕ)) (place : ℕ) (kept : Kept) (row : List ℕ) (home : ModuleReads) → slice_get recipes place ≡ Some kept → slice_get needs place ≡ Some row → slice_get reads kept.0 ≡ Some home
    → resolved_at recipes reads needs ranks place ≡ None → ⊥
gives_case reads ranks recipes needs place kept row home one two three none =
    none-some (resolved home.resolver ranks kept row)
    (sym none
    ∙ ap (λ k. resolved_with reads ranks k (slice_get needs place)) one
    ∙ ap (resolved_with reads ranks (Some kept)) two
    ∙ ap (option_map (λ (h : ModuleReads). resolved h.resolver ranks kept row)) three)

get_there : {X : Type 0} (xs : List X) (place : ℕ) → place < length xs → (x : X) × (slice_get xs place ≡ Some x)
get_there [] place lt = absurd (omega (arith, lt))
get_there (x ∷ xs) zero lt = (x, refl)
get_there (x ∷ xs) (suc place) lt = get_there xs place (omega (arith, lt))

-- a rank among those of a row
from_row : (ranks row some : List ℕ) (needed : ℕ) → ((need : ℕ) → Contains some need → Contains row need) → Contains (ranks_at ranks some) needed → (need : ℕ) × Contains row need × (slice_get ranks need ≡ Some needed)
from_row ranks row some needed within h =
    let given = is_given (slice_get ranks) some h.0 needed (slice_get-get_or (ranks_at ranks some) h.0 needed h.1 ∙ ap (λ n. Some n) h.2) in
    (given.x, within given.x (listed some given.place given.x given.here), given.given)
  where
    listed : (xs : List ℕ) (k x : ℕ) → slice_get xs k ≡ Some x → Contains xs x
    listed xs k x e = (k, slice_get_within xs k x e, get_or_from_slice_get xs k x x e)

pub needed_rank : (needs : List (List ℕ)) (ranks : List ℕ) (place needed : ℕ) (a : Resolved) (h : HasRow needs ranks place a) → Contains (a.priors ++ a.subsequents) needed → (need : ℕ) × Contains h.row need × (slice_get ranks need ≡ Some needed)
needed_rank needs ranks place needed a h some = elim (Contains-append_cases a.priors a.subsequents needed some) [
  | inl p ↦ from_row ranks h.row (take h.count h.row) needed (λ need there. subst (λ xs. Contains xs need) (take-append-drop h.count h.row) (Contains-append_left (take h.count h.row) (drop h.count h.row) need there)) (subst (λ xs. Contains xs needed) h.priors p)
  | inr p ↦ from_row ranks h.row (drop h.count h.row) needed (λ need there. subst (λ xs. Contains xs need) (take-append-drop h.count h.row) (Contains-append_right (take h.count h.row) (drop h.count h.row) need there)) (subst (λ xs. Contains xs needed) h.subsequents p)
]

pub stands_before : (needs : List (List ℕ)) (order ranks : List ℕ) (rank place needed : ℕ) (row : List ℕ) (need : ℕ) → IsOrder needs order → AreRanks order ranks → slice_get order rank ≡ Some place → slice_get needs place ≡ Some row → Contains row need → slice_get ranks need ≡ Some needed → needed < rank
stands_before needs order ranks rank place needed row need ordered are at here listed is =
    let has = has_rank order ranks need needed are is in
    let few = at_most order (length needs) (λ i j x a b. ordered.distinct i j x a b) (λ i x there. ordered.within i x there) in
    let less = has.0 in
    let there : need < length needs = omega (arith, less, few) in
    let before = ordered.ranked rank place need at (record { row = row; here = here; listed = listed; there = there }) in
    let same = rank_is order need before.at needed (λ i j x a b. ordered.distinct i j x a b) before.found has.1 in
    let earlier = before.earlier in
    omega (arith, same, earlier)

-- each recipe of the order is there, with its row and what its module reads
pub all_give : (compilation : Compilation) (reads : List ModuleReads) (recipes : List Kept) (needs : List (List ℕ)) (ranks order : List ℕ) → length compilation.modules.items ≤ length reads → length needs ≡ length recipes → recipes ≡ all_kept compilation
    → ((i place : ℕ) → slice_get order i ≡ Some place → place < length needs) → (i place : ℕ) → slice_get order i ≡ Some place → resolved_at recipes reads needs ranks place ≡ None → ⊥
all_give compilation reads recipes needs ranks order many rows kept_are within i place at none =
    let less = within i place at in
    let row = get_there needs place less in
    let kept = get_there recipes place (omega (arith, less, rows)) in
    let kept_is : Contains (all_kept compilation) kept.0 = subst (λ ks. Contains ks kept.0) kept_are (place, slice_get_within recipes place kept.0 kept.1, get_or_from_slice_get recipes place kept.0 kept.0 kept.1) in
    let home = home_within compilation 0 compilation.modules.items kept.0 kept_is in
    let read = get_there reads kept.0.0 (omega (arith, home, many)) in
    gives_case reads ranks recipes needs place kept.0 row.0 read.0 kept.1 row.1 read.1 none

pub before : (compilation : Compilation) (reads : List ModuleReads) (table : RecipeTable) → length compilation.modules.items ≤ length reads → IsTable compilation reads table
    → (rank needed : ℕ) (recipe : ResolvedRecipe) → slice_get table.recipes.items rank ≡ Some recipe → Contains (recipe.priors.items ++ recipe.subsequents.items) needed → needed < rank
before compilation reads table many t rank needed recipe here some =
    let sorted = t.is_for.sorted in
    let inside = sorted.is_in in
    let recipes = map view t.nodes in
    let needs = sorted.needs in
    let order = sorted.order in
    let ranks = inside.ranks in
    let rows : length needs ≡ length recipes = as_many compilation t.is_for.resolver recipes needs sorted.needed in
    let a : slice_get inside.all rank ≡ Some (seen recipe) = ap (λ found. slice_get found rank) (sym inside.is_of.recipes_are) ∙ slice_get-map seen table.recipes.items rank ∙ ap (option_map seen) here in
    let comes = comes_of (resolved_at recipes reads needs ranks) order inside.all (all_give compilation reads recipes needs ranks order many rows t.kept sorted.ordered.within) inside.resolved rank (seen recipe) a in
    let row = row_case reads ranks (slice_get recipes comes.x) (slice_get needs comes.x) needs comes.x (seen recipe) refl comes.gives in
    let need = needed_rank needs ranks comes.x needed (seen recipe) row some in
    stands_before needs order ranks rank comes.x needed row.row need.0 sorted.ordered inside.ranked comes.here row.here need.1 need.2

-- what a resolved recipe has of the recipe that is kept
pub record IsOf (recipes : List Kept) (place : ℕ) (a : Resolved) : Type 0 where
  pub kept : Kept
  pub here : slice_get recipes place ≡ Some kept
  pub named : a.name ≡ kept.2.name
  pub home : a.home ≡ kept.0
  pub standing : a.place ≡ kept.1

pub is_of : (reads : List ModuleReads) (ranks : List ℕ) (kept : Option Kept) (row : Option (List ℕ)) (recipes : List Kept) (place : ℕ) (a : Resolved) → slice_get recipes place ≡ kept → resolved_with reads ranks kept row ≡ Some (Ok a) → IsOf recipes place a
is_of reads ranks None row recipes place a is e = absurd (none-some (Ok a) e)
is_of reads ranks (Some kept) None recipes place a is e = absurd (none-some (Ok a) e)
is_of reads ranks (Some kept) (Some row) recipes place a is e =
    let whole = home_case ranks kept row (slice_get reads kept.0) a e in
    record { kept = kept; here = is; named = ap (λ (r : Resolved). r.name) (sym whole.1); home = ap (λ (r : Resolved). r.home) (sym whole.1); standing = ap (λ (r : Resolved). r.place) (sym whole.1) }

-- the recipe that is seen so
pub seen_case : (found : Option ResolvedRecipe) (a : Resolved) → option_map seen found ≡ Some a → (recipe : ResolvedRecipe) × (found ≡ Some recipe) × (seen recipe ≡ a)
seen_case None a e = absurd (none-some a e)
seen_case (Some recipe) a e = (recipe, refl, same_Some (seen recipe) a e)

pub stands : (compilation : Compilation) (reads : List ModuleReads) (table : RecipeTable) → length compilation.modules.items ≤ length reads → IsTable compilation reads table → (kept : Kept) → Contains (all_kept compilation) kept → Stands table kept
stands compilation reads table many t kept listed =
    let sorted = t.is_for.sorted in
    let inside = sorted.is_in in
    let recipes = map view t.nodes in
    let needs = sorted.needs in
    let order = sorted.order in
    let ranks = inside.ranks in
    let rows : length needs ≡ length recipes = as_many compilation t.is_for.resolver recipes needs sorted.needed in
    let among : Contains recipes kept = subst (λ ks. Contains ks kept) (sym t.kept) listed in
    let k = among.0 in
    let inside_recipes = among.1 in
    let at_k : slice_get recipes k ≡ Some kept = slice_get-get_or recipes k kept among.1 ∙ ap (λ n. Some n) among.2 in
    let ordered = sorted.ordered.complete k (omega (arith, rows, inside_recipes)) in
    let goes = goes_to (resolved_at recipes reads needs ranks) order inside.all (all_give compilation reads recipes needs ranks order many rows t.kept sorted.ordered.within) inside.resolved ordered.at k ordered.found in
    let is = is_of reads ranks (slice_get recipes k) (slice_get needs k) recipes k goes.a refl goes.gives in
    let same : is.kept ≡ kept = same_Some is.kept kept (sym is.here ∙ at_k) in
    let found = seen_case (slice_get table.recipes.items ordered.at) goes.a (sym (slice_get-map seen table.recipes.items ordered.at) ∙ ap (λ resolved. slice_get resolved ordered.at) inside.is_of.recipes_are ∙ goes.here) in
    record {
      place = ordered.at;
      recipe = found.0;
      here = found.1;
      named = ap (λ (r : Resolved). r.name) found.2 ∙ is.named ∙ ap (λ (k : Kept). k.2.name) same;
      home = ap (λ (r : Resolved). r.home) found.2 ∙ is.home ∙ ap (λ (k : Kept). k.0) same;
      standing = ap (λ (r : Resolved). r.place) found.2 ∙ is.standing ∙ ap (λ (k : Kept). k.1) same;
    }
