-- The row of a module that a compilation gives is that of the world.
use Rattle.std.proofs.Common.{◌≡◌, ◌↔◌, refl, sym, ◌∙◌, ap, subst, arith, true≢false, true, false, List, [], ◌∷◌, ℕ, length, map, Option, Some, None}
use Rattle.std.specs.Prelude.{slice_get, Contains}
use Rattle.std.specs.Option.{option_and_then}
use Rattle.std.proofs.lemmas.Option.{none-some, same_Some, slice_get_within}
use Rattle.tree_attributes.specs.Settings.{SetShape, ValueShape}
use Rattle.evaluate_context.specs.declared.settings.Settings.{Settings}
use Rattle.modules_compilation.specs.declared.compilation.Compilation.{Compilation}
use Rattle.modules_compilation.specs.declared.module_node.ModuleNode.{ModuleNode}
use Rattle.meaning_rules.specs.Worlds.Given.{Overrides, Text, World}
use Rattle.meaning_rules.specs.Constants.{HasSetting, HasValue, IsPartOf}
use Rattle.meaning_rules.specs.Fixed.{value_of}
use Rattle.meaning_rules.specs.Naming.{Part, parts_of_value}
use Rattle.meaning_rules.specs.Worlds.Views.{name_text}
use Rattle.laws_modules.specs.Names.Names.{AreSetOnce, AreSingle, HasNode, IsOfWorld}
use Rattle.laws_modules.proofs.Names.Found.{there_within}
use Rattle.laws_modules.proofs.Names.Named.{node_is}
use Rattle.meaning_evaluation.specs.Named.{ModuleRow}
use Rattle.just_meaning.specs.Defining.{AreUnexported, IsModuleRow}
use Rattle.just_meaning.specs.Rows.{module_row, setting_named}
use Rattle.laws_runs.specs.Resolved.Definitions.{is_root, place_of, row_at, row_of, sets_of}
use Rattle.laws_runs.specs.Resolved.Modules.{ModulesStand, PathsLead}
use Rattle.laws_runs.specs.Settings.Settled.{AllSettle, AreOfWorld}
use Rattle.laws_runs.specs.Settings.Rows.{RowsStand}
use Rattle.laws_runs.proofs.Settings.Said.{Agree, row_same}
use Rattle.laws_runs.proofs.Settings.OneSet.{named_same, named_set, one_set}
use Rattle.laws_runs.proofs.Settings.Sorted.{sorted_same}
use Rattle.laws_runs.proofs.Settings.Values.{bool_same, one_value}

-- the root is the module at the empty path
is_rooted : (path : List Text) → (is_root path ≡ true) ↔ (path ≡ [])
is_rooted [] = (λ e. refl, λ e. refl)
is_rooted (name ∷ names) = (λ e. absurd (true≢false (sym e)), λ e. absurd (cc e))

module _ (modules_stand : ModulesStand) (paths_lead : PathsLead) (w : World) (compilation : Compilation) (is : IsOfWorld w compilation) (single : AreSingle w compilation) (set_once : AreSetOnce w compilation)
    (o : Overrides) (all : List Settings) (many : length all ≡ length compilation.modules.items) (settled : AllSettle w o compilation all)
    (base working : Text) (path : List Text) (row : ModuleRow) where
  module _ (k : ℕ) (node : ModuleNode) (found : place_of compilation path ≡ Some k) (here : HasNode w compilation k node) where
    abbrev own : Text
    own = node.source.now

    abbrev unexports : List Text
    unexports = map name_text node.unexports.items

    abbrev sets : List SetShape
    sets = sets_of compilation node

    -- the settings of the module are those of the world
    of_world : (settings : Settings) × AreOfWorld w o compilation path node (settled.settle k) settings
    of_world =
        let lt = slice_get_within compilation.modules.items k node here in
        let t = there_within all k (omega (arith, lt, many)) in
        (t.0, settled.each k node path t.0 here ((paths_lead w compilation is single path k).0 found) t.1)

    -- so are the names that it doesn't export
    unexported : AreUnexported w o own unexports
    unexported =
        let u = (node_is w compilation is k node here).unexports in
        record { sorted = u.sorted; each = u.each }

    abbrev row_here : ModuleRow
    row_here = module_row (settled.settle k) base working (is_root path) own unexports sets

    -- the row at the path is that of the node
    row_there : row_at compilation settled.settle base working path ≡ Some row_here
    row_there =
        ap (option_and_then (λ k. row_of compilation settled.settle base working path k (slice_get compilation.modules.items k))) found
        ∙ ap (row_of compilation settled.settle base working path k) here

    -- where it is the row, it is the world's
    to_world : row_here ≡ row → IsModuleRow w o base working path row
    to_world e = record {
      own = own;
      is = (modules_stand w compilation is single path own).1 (record { k = k; node = node; found = found; here = here; is = refl });
      unexports = unexports;
      unexported = unexported;
      sets = sets;
      settings = of_world.1.sets;
      value = settled.settle k;
      values = of_world.1.values;
      is_root = is_root path;
      rooted = is_rooted path;
      says = sym e;
    }

    module _ (h : IsModuleRow w o base working path row) (same : h.own ≡ own) where
      -- what the row of the world says of the module, of the node
      unexported' : AreUnexported w o own h.unexports
      unexported' = subst (λ q. AreUnexported w o q h.unexports) same h.unexported

      settings' : (s : SetShape) → Contains h.sets s ↔ HasSetting w o path own s
      settings' = subst (λ q. (s : SetShape) → Contains h.sets s ↔ HasSetting w o path q s) same h.settings

      values' : (s : SetShape) (p : Part) → Contains h.sets s → IsPartOf w o path own s p → HasValue w o path own p.said (h.value p.said)
      values' = subst (λ q. (s : SetShape) (p : Part) → Contains h.sets s → IsPartOf w o path q s p → HasValue w o path q p.said (h.value p.said)) same h.values

      -- the same settings are among both
      to : (s : SetShape) → Contains sets s → Contains h.sets s
      to s c = (settings' s).1 ((of_world.1.sets s).0 c)

      from : (s : SetShape) → Contains h.sets s → Contains sets s
      from s c = (of_world.1.sets s).1 ((settings' s).0 c)

      -- so a name has the same value
      named : (name : Text) → setting_named name sets ≡ setting_named name h.sets
      named name = named_same sets h.sets to from (λ s t c d. one_set w o path own (set_once k node here) s t ((of_world.1.sets s).0 c) ((of_world.1.sets t).0 d)) name

      -- whose expressions have the same values
      agree : (name : Text) → Agree (value_of w.expansion) (settled.settle k) h.value (setting_named name sets)
      agree name = by_found (setting_named name sets) refl
        where
          by_found : (found : Option ValueShape) → setting_named name sets ≡ found → Agree (value_of w.expansion) (settled.settle k) h.value found
          by_found None e = tt
          by_found (Some value) e =
              let s = named_set name sets value e in
              λ p c.
              let part : IsPartOf w o path own s.set p = subst (λ v. Contains (parts_of_value (value_of w.expansion) v) p) (sym s.is) c in
              one_value w o path own p.said (settled.settle k p.said) (h.value p.said) (of_world.1.values s.set p s.among part) (values' s.set p (to s.set s.among) part)

      -- both are the root or neither is
      root_same : is_root path ≡ h.is_root
      root_same = bool_same (is_root path) h.is_root (λ e. h.rooted.1 ((is_rooted path).0 e)) (λ e. (is_rooted path).1 (h.rooted.0 e))

      -- both don't export the same names
      unexports_same : unexports ≡ h.unexports
      unexports_same = sorted_same unexports h.unexports unexported.sorted unexported'.sorted (λ z c. (unexported'.each z).1 ((unexported.each z).0 c)) (λ z c. (unexported.each z).1 ((unexported'.each z).0 c))

      -- so the rows are the same
      from_world : row_here ≡ row
      from_world =
          row_same base working (is_root path) own unexports (value_of w.expansion) (settled.settle k) h.value sets h.sets named agree
          ∙ ap (λ r. module_row h.value base working r own unexports h.sets) root_same
          ∙ ap (λ q. module_row h.value base working h.is_root q unexports h.sets) (sym same)
          ∙ ap (λ u. module_row h.value base working h.is_root h.own u h.sets) unexports_same
          ∙ sym h.says

  -- a row that is found is the world's
  to_row : row_at compilation settled.settle base working path ≡ Some row → IsModuleRow w o base working path row
  to_row e = by_place (place_of compilation path) refl e
    where
      by_node : (k : ℕ) → place_of compilation path ≡ Some k → (found : Option ModuleNode) → slice_get compilation.modules.items k ≡ found → row_of compilation settled.settle base working path k found ≡ Some row
          → IsModuleRow w o base working path row
      by_node k p None here e = absurd (none-some row e)
      by_node k p (Some node) here e = to_world k node p here (same_Some (row_here k node p here) row e)

      by_place : (found : Option ℕ) → place_of compilation path ≡ found → option_and_then (λ k. row_of compilation settled.settle base working path k (slice_get compilation.modules.items k)) found ≡ Some row
          → IsModuleRow w o base working path row
      by_place None p e = absurd (none-some row e)
      by_place (Some k) p e = by_node k p (slice_get compilation.modules.items k) refl e

  -- and the world's is found
  from_row : IsModuleRow w o base working path row → row_at compilation settled.settle base working path ≡ Some row
  from_row h =
      let p = (modules_stand w compilation is single path h.own).0 h.is in
      row_there p.k p.node p.found p.here ∙ ap (λ r. Some r) (from_world p.k p.node p.found p.here h (sym p.is))

module _ (modules_stand : ModulesStand) (paths_lead : PathsLead) where
  -- the row that is found at a path is the world's
  pub rows_stand : RowsStand
  rows_stand w compilation is single set_once o all many settled base working path row =
      (to_row modules_stand paths_lead w compilation is single set_once o all many settled base working path row, from_row modules_stand paths_lead w compilation is single set_once o all many settled base working path row)
