-- What is steady by places is what is steady by names.
use Rattle.std.specs.Prelude.{List}
use Rattle.just_value.specs.declared.positional.Override.{Override}
use Rattle.modules_compilation.specs.declared.compilation.Compilation.{Compilation}
use Rattle.resolve_analysis.specs.declared.analysis.Analysis.{Analysis}
use Rattle.just_resolve.specs.Analysis.{IsAnalysis}
use Rattle.just_resolve.specs.Rules.{IsResolvable}
use Rattle.justfile_analyzer.specs.Steady.{AreSteadyAt}
use Rattle.meaning_rules.specs.Worlds.Given.{Given, Text, World}
use Rattle.meaning_rules.specs.Worlds.Standing.{StandsFor}
use Rattle.meaning_rules.specs.Overrides.{overrides_of}
use Rattle.meaning_evaluation.specs.Named.{Definitions}
use Rattle.just_meaning.specs.Steady.{AreSteady}
use Rattle.laws_runs.specs.Resolved.Definitions.{definitions_of}
use Rattle.laws_runs.specs.Settings.Settled.{AllSettle}

-- a justfile that was analyzed is steady by what is written at places
abbrev pub IsSteadyAt : Compilation → Analysis → Type 0
IsSteadyAt compilation analysis = AreSteadyAt compilation analysis.table.value.recipes.items analysis.variables.lists.items analysis.values.value.settings.items

-- by names and by places the same is steady; from names to places an attribute that stands once is not to be repeated, which holds in a world that arguments stand for
pub record StandsAlike (w : World) (compilation : Compilation) (analysis : Analysis) (defined : Definitions) : Type 0 where
  pub named : IsSteadyAt compilation analysis → AreSteady defined
  pub placed : (source : Given) → StandsFor source w → AreSteady defined → IsSteadyAt compilation analysis

-- so it is of each analysis of a justfile, in each world that the justfile stands for
abbrev pub SteadinessStands : Type 0
SteadinessStands = (w : World) (compilation : Compilation) → IsResolvable w compilation → (given : List Override) (base working : Text) (analysis : Analysis) → IsAnalysis compilation base given analysis
    → (settled : AllSettle w (overrides_of given) compilation analysis.values.value.settings.items)
    → StandsAlike w compilation analysis (definitions_of compilation w.expansion (overrides_of given) settled.settle base working)
