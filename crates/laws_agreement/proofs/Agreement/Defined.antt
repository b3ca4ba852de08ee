-- What is asked of what is defined, of what the modules of a world keep.
use Rattle.std.proofs.Common.{◌≡◌, List}
use Rattle.std.specs.Prelude.{Contains, Some}
use Rattle.meaning_rules.specs.Worlds.Given.{Text, World, Overrides}
use Rattle.meaning_evaluation.specs.Named.{ModuleRow, Definitions, paths_of}
use Rattle.just_meaning.specs.Defining.{AreDefined}
use Rattle.laws_agreement.specs.Agreement.Opened.{AreListed}

module _ (w : World) (o : Overrides) (base working : Text) (defined : Definitions) (are : AreDefined w o base working defined) where
  -- The names of a module's variables are all listed.
  pub defined_listed : AreListed defined
  defined_listed = record {
    lists = λ x row there.
        let r = (are.variables x row).0 there in
        (((are.names x.path r.own r.is).each x.name).1 (record { key = r.key; place = r.place; item = _; defines = r.kept.defines }));
  }

  -- No module is elsewhere than in the tree.
  pub defined_inside : (path : List Text) (row : ModuleRow) → defined.inside path ≡ Some row → Contains (paths_of defined.modules) path
  defined_inside path row there = let r = (are.modules path row).0 there in (are.tree path).1 (r.own, r.is)
