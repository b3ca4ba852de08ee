-- Calls that run by their names: no two have one name, and their subsequents share what was done by places and by names.
use Rattle.std.proofs.Common.{◌≡◌, ◌∙◌, sym, ap, ap₂, refl, ℕ, Bool, false, List, Option, Some}
use Rattle.std.specs.Prelude.{slice_get}
use Rattle.std.specs.String.{string_bytes}
use Rattle.std.proofs.lemmas.Option.{same_Some}
use Rattle.just_host.specs.declared.config.Config.{Config}
use Rattle.just_value.specs.declared.positional.Override.{Override}
use Rattle.modules_compilation.specs.declared.compilation.Compilation.{Compilation}
use Rattle.modules_compilation.specs.declared.module_node.ModuleNode.{ModuleNode}
use Rattle.resolve_recipes.specs.Named.{recipe_of}
use Rattle.resolve_analysis.specs.declared.analysis.Analysis.{Analysis}
use Rattle.analyze_calls.specs.Calls.{CallRow}
use Rattle.analyze_calls.specs.Calls as by_place
use Rattle.analyze_calls.specs.declared.plan.Runner.{Runner}
use Rattle.analyze_calls.proofs.Joined.{same_decides as place_decides}
use Rattle.analyze_calls.specs.Runs.Steps.{shares_at, shares_of}
use Rattle.laws_runs.specs.Alike.Alike.{Decides as AllDecide}
use Rattle.meaning_rules.specs.Worlds.Given.{Text, World}
use Rattle.meaning_rules.specs.Overrides.{overrides_of}
use Rattle.meaning_evaluation.proofs.Calls.{calls_decide}
use Rattle.meaning_evaluation.specs.Named.{Call, ModuleRow, RecipeName, RecipeRow, same_call}
use Rattle.meaning_evaluation.specs.Calling.{Ground, at as at_call, met}
use Rattle.just_meaning.specs.Opening.{Opened}
use Rattle.just_meaning.specs.Runs.{steps}
use Rattle.laws_runs.specs.Resolved.Definitions.{place_of, row_at}
use Rattle.laws_runs.specs.Settings.Settled.{AllSettle}
use Rattle.just_meaning.specs.Configured.{configuration_of}
use Rattle.laws_runs.specs.Running.Steps.{IsRunning, RestsOn, defined, named}
use Rattle.laws_runs.proofs.Running.Steps.Standing.{Stands, called_so, found, own_name, own_row, placed, ranked, reads_many, recipe_found, row_is, stands}
use Rattle.laws_runs.proofs.Running.Steps.Modules.{at, ground, inside_is, own_module, settings_are}
use Rattle.laws_runs.proofs.Running.Steps.Once.{one_rank}

-- ---- calls are the same exactly where they are equal

-- by names, and by places
pub decides_by_name : AllDecide same_call
decides_by_name a b = calls_decide a b

pub decides_by_place : AllDecide by_place.same_call
decides_by_place a b = place_decides a b

module _ (w : World) (compilation : Compilation) (given : List Override) (base : Text) (analysis : Analysis) (settled : AllSettle w (overrides_of given) compilation analysis.values.value.settings.items) (config : Config) (root_key : List ℕ)
    (called : List ℕ) (is_read : ℕ → Bool) (runner : Runner) (opened : List Opened) (rests : RestsOn w compilation given base analysis settled config root_key called is_read runner opened) where
  abbrev Standing : ℕ → Type 0
  Standing rank = Stands w compilation given base analysis settled config root_key called is_read runner opened rests rank

  -- a call that runs stands in the table
  pub running_stands : (call : CallRow) → IsRunning w compilation given base analysis settled config root_key called call → Standing call.recipe
  running_stands call runs = stands w compilation given base analysis settled config root_key called is_read runner opened rests call.recipe
      (ranked w compilation given base analysis settled config root_key called is_read runner opened rests call.recipe runs)

  module _ (rank : ℕ) (s : Standing rank) where
    abbrev pub name_here : RecipeName
    name_here = own_name w compilation given base analysis settled config root_key called is_read runner opened rests rank s (at w compilation given base analysis settled config root_key called is_read runner opened rests rank s)

    abbrev pub row_here : RecipeRow
    row_here = own_row w compilation given base analysis settled config root_key called is_read runner opened rests rank s

    abbrev pub module_here : ModuleRow
    module_here = own_module w compilation given base analysis settled config root_key called is_read runner opened rests rank s

    abbrev pub ground_here : Ground
    ground_here = ground w compilation given base analysis settled config root_key called is_read runner opened rests rank s

    abbrev pub call_here : List (List (List ℕ)) → Call
    call_here groups = record { recipe = name_here; groups = groups }

    -- the call by its name
    pub named_so : (call : CallRow) → call.recipe ≡ rank → named w compilation given base analysis settled config root_key call ≡ call_here call.groups
    named_so call e =
        ap (λ n. named w compilation given base analysis settled config root_key (let c : CallRow = record { recipe = n; groups = call.groups } in c)) e
        ∙ ap (λ r. let c : Call = record { recipe = r; groups = call.groups } in c) (called_so w compilation given base analysis settled config root_key called is_read runner opened rests rank s)

    -- what it does is by its row and its module's
    pub met_here : {X : Type 0} (unknown : X) (known : RecipeRow → ModuleRow → X) (groups : List (List (List ℕ))) → at_call ground_here unknown (call_here groups) known ≡ known row_here module_here
    met_here unknown known groups =
        ap (λ r. met ground_here unknown r (row_at compilation settled.settle base (string_bytes config.working_directory) name_here.path) known)
        (row_is w compilation given base analysis settled config root_key called is_read runner opened rests rank s)
        ∙ ap (λ m. met ground_here unknown (Some row_here) m known) (inside_is w compilation given base analysis settled config root_key called is_read runner opened rests rank s)

  -- ---- names

  same_modules : (a b : ℕ) (s : Standing a) (t : Standing b) → name_here a s ≡ name_here b t → s.resolved.module ≡ t.resolved.module
  same_modules a b s t e =
      same_Some s.resolved.module t.resolved.module (
      sym (found w compilation given base analysis settled config root_key called is_read runner opened rests a s)
      ∙ ap (λ (r : RecipeName). place_of_path r.path) e
      ∙ found w compilation given base analysis settled config root_key called is_read runner opened rests b t)
    where
      place_of_path : List Text → Option ℕ
      place_of_path p = place_of compilation p

  same_places : (a b : ℕ) (s : Standing a) (t : Standing b) → name_here a s ≡ name_here b t → s.resolved.place ≡ t.resolved.place
  same_places a b s t e =
      let node : s.node ≡ t.node = same_Some s.node t.node (sym s.home ∙ ap (slice_get compilation.modules.items) (same_modules a b s t e) ∙ t.home) in
      same_Some s.resolved.place t.resolved.place (
      sym (recipe_found w compilation given base analysis settled config root_key called is_read runner opened rests a s)
      ∙ ap₂ (λ (n : ModuleNode) (r : RecipeName). recipe_of compilation (Some n) r.recipe) node e
      ∙ recipe_found w compilation given base analysis settled config root_key called is_read runner opened rests b t)

  one_name : (a b : ℕ) (s : Standing a) (t : Standing b) → name_here a s ≡ name_here b t → a ≡ b
  one_name a b s t e =
      one_rank w compilation rests.numbered.of analysis.variables.reads.items analysis.table.value (reads_many w compilation given base analysis settled config root_key called is_read runner opened rests) rests.known.recipes_are
      a b s.resolved t.resolved s.here t.here (same_modules a b s t e) (same_places a b s t e)

  -- no two calls that run have one name
  pub injective : (a b : CallRow) → IsRunning w compilation given base analysis settled config root_key called a → IsRunning w compilation given base analysis settled config root_key called b
      → named w compilation given base analysis settled config root_key a ≡ named w compilation given base analysis settled config root_key b → a ≡ b
  injective a b runs runs' e =
      let s = running_stands a runs in
      let t = running_stands b runs' in
      let both : call_here a.recipe s a.groups ≡ call_here b.recipe t b.groups = sym (named_so a.recipe s a refl) ∙ e ∙ named_so b.recipe t b refl in
      ap₂ (λ r g. let c : CallRow = record { recipe = r; groups = g } in c) (one_name a.recipe b.recipe s t (ap (λ (c : Call). c.recipe) both)) (ap (λ (c : Call). c.groups) both)

  -- whether its subsequents share what was done
  pub shares_same : (call : CallRow) → IsRunning w compilation given base analysis settled config root_key called call
      → (steps (configuration_of config root_key w.expansion) (defined w compilation given base analysis settled config root_key) opened).shares (named w compilation given base analysis settled config root_key call) ≡ shares_at runner call
  shares_same call runs =
      let s = running_stands call runs in
      let g = ground_here call.recipe s in
      ap (λ c. at_call g false c (λ recipe row. row.shares)) (named_so call.recipe s call refl)
      ∙ met_here call.recipe s false (λ recipe row. row.shares) call.groups
      ∙ (settings_are w compilation given base analysis settled config root_key called is_read runner opened rests call.recipe s).share_subsequents
      ∙ sym (ap shares_of (placed w compilation given base analysis settled config root_key called is_read runner opened rests call.recipe s))
