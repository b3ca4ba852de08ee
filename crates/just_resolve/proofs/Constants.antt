-- Where constants and settings of modules are known, the rule on constants is not broken; where one is refused, it is.
use Rattle.std.proofs.Common.{◌≡◌, ◌∙◌, ◌↔◌, ℕ, Bool, List, [], Option, Some, None, String, inl, inr, refl, subst, sym, ap}
use Rattle.std.specs.Prelude.{Contains}
use Rattle.std.specs.BTreeMap.{BTreeMap}
use Rattle.std.specs.BTreeSet.{BTreeSet, contains}
use Rattle.std.specs.Option.{option_and_then}
use Rattle.std.specs.Ordering.{nat_cmp}
use Rattle.std.proofs.lemmas.Option.{none-some, same_Some}
use Rattle.just_text.specs.Tokens.{lexeme}
use Rattle.tree_attributes.specs.declared.setting.Setting.{Setting}
use Rattle.tree_attributes.specs.declared.setting.Setting.TheVariants.{DotenvCommand, DotenvFilename, DotenvPath, Indentation, MinimumVersion, ScriptInterpreter, Shell, Tempdir, Truth, WindowsShell, WorkingDirectory}
use Rattle.tree_attributes.specs.declared.truth_setting.TruthSetting.TheVariants.{AllowDuplicateRecipes, AllowDuplicateVariables, DefaultList, DefaultScript, DotenvLoad, DotenvOverride, DotenvRequired, Export, Fallback, Guards, IgnoreComments, Lazy, Lists, NoCd, NoExitMessage, PositionalArguments, Quiet, ShareSubsequents, Unstable, WindowsPowershell}
use Rattle.tree_items.specs.declared.ast.Item.{Item}
use Rattle.tree_items.specs.declared.set.Set.{Set}
use Rattle.just_value.specs.Frames.{Frames}
use Rattle.just_value.specs.declared.positional.Override.{Override}
use Rattle.evaluate_context.specs.Defaults.{defaults}
use Rattle.evaluate_context.specs.declared.settings.Settings.{Settings}
use Rattle.evaluate_variables.specs.SettingValues.{IsRefusedFor, IsSet}
use Rattle.evaluate_variables.specs.Settled.{reading_in}
use Rattle.modules_compilation.specs.Places.{item_at}
use Rattle.modules_compilation.specs.declared.compilation.Compilation.{Compilation}
use Rattle.modules_compilation.specs.declared.module_node.ModuleNode.{ModuleNode}
use Rattle.modules_compilation.specs.declared.place.Place.{Place}
use Rattle.resolve_order.specs.Flooded.{AreReached}
use Rattle.resolve_order.specs.Needs.{rows}
use Rattle.resolve_analysis.specs.Lists.{Kept}
use Rattle.resolve_analysis.specs.Reads.{overridden_by}
use Rattle.resolve_analysis.specs.declared.variables.ModuleVariables.{ModuleVariables}
use Rattle.meaning_dialogues.specs.Dialogue.{Reading}
use Rattle.meaning_dialogues.specs.Faults.{Fault}
use Rattle.meaning_rules.specs.Worlds.Compiled.{HasPath}
use Rattle.meaning_rules.specs.Worlds.Given.{Text, World}
use Rattle.meaning_rules.proofs.Worlds.Places.{contains_cases, contains_first, contains_later, contains_none}
use Rattle.meaning_rules.specs.Constants.{BreaksConstants}
use Rattle.meaning_rules.specs.Rules.{Broken, const_error}
use Rattle.laws_modules.specs.Names.Names.{HasNode, nodes, views}
use Rattle.laws_modules.proofs.Names.Modules.{reached_are_said}
use Rattle.laws_modules.proofs.Names.Named.{node_is}
use Rattle.laws_names.proofs.Depending.Lists.{given_there}
use Rattle.meaning_rules.specs.Overrides.{overrides_of}
use Rattle.laws_names.specs.Constants.Broken.{AreFoundIn, ConstantsAreTold}
use Rattle.laws_names.specs.Constants.Lists.{IsSaidOfLists}
use Rattle.laws_names.specs.Constants.Sought.{AreSought, IsListedSet, IsSettledModule}
use Rattle.just_resolve.specs.Overrides.{AreGiven}
use Rattle.just_resolve.specs.Rules.{IsResolvable}
use Rattle.just_resolve.specs.Settling as settling
use Rattle.just_resolve.specs.Settling.{AreConstantFrames, AreConstantly, AreConstants, AreNotSet, AreSet, AreUnsettledBy, lists_at, lists_of, set_at, set_lists, set_of, sets_at}
use Rattle.just_resolve.specs.Table.{first_of}
use Rattle.just_resolve.proofs.Answered.{none_answers}
use Rattle.just_resolve.proofs.ClearReads.{are_settled}
use Rattle.just_resolve.proofs.Keeping.{IsModuleOf, graph_few, order_of_names, resolver_is, rows_are}
use Rattle.just_resolve.proofs.Laws.{Laws}
use Rattle.just_resolve.proofs.Refusing.{first_answered, kept_comes}
use Rattle.just_resolve.proofs.Standing.{set_there}

-- ---- settings in order

module _ (reading : Reading) (lists : Bool) where
  -- each of settings that are set is set
  pub each_set : (sets : List Set) (old new : Settings) → AreSet reading lists sets old new → (s : Set) → Contains sets s → (before : Settings) × (after : Settings) × IsSet reading lists (lexeme s.name.token) s.value before after
  each_set _ _ _ settling.all_set s h = absurd (contains_none [] s refl h)
  each_set _ _ _ (settling.one_set {set} {sets} {old} {between} {new} one rest) s h = elim (contains_cases set sets s h) [
    | inl same ↦ subst (λ (t : Set). (before : Settings) × (after : Settings) × IsSet reading lists (lexeme t.name.token) t.value before after) same (old, between, one)
    | inr later ↦ each_set sets between new rest s later
  ]

  -- where they are not set, one of them is refused
  one_refused : (sets : List Set) (old : Settings) (fault : Fault) → AreNotSet reading lists sets old fault → (s : Set) × Contains sets s × IsRefusedFor reading lists (lexeme s.name.token) s.value fault
  one_refused _ _ _ (settling.refused {set} {sets} {old} {fault} one) = (set, contains_first set sets, one)
  one_refused _ _ _ (settling.later {set} {sets} {old} {between} {fault} one rest) =
      let more = one_refused sets between fault rest in
      (more.0, contains_later set sets more.0 more.1, more.2)

-- ---- settings that a module lists

-- a setting that says whether lists are on is one of lists
lists_there : (setting : Setting) (value : Bool) → lists_of setting ≡ Some value → setting ≡ Truth Lists value
lists_there (Truth AllowDuplicateRecipes x) value e = absurd (none-some value e)
lists_there (Truth AllowDuplicateVariables x) value e = absurd (none-some value e)
lists_there (Truth DefaultList x) value e = absurd (none-some value e)
lists_there (Truth DefaultScript x) value e = absurd (none-some value e)
lists_there (Truth DotenvLoad x) value e = absurd (none-some value e)
lists_there (Truth DotenvOverride x) value e = absurd (none-some value e)
lists_there (Truth DotenvRequired x) value e = absurd (none-some value e)
lists_there (Truth Export x) value e = absurd (none-some value e)
lists_there (Truth Fallback x) value e = absurd (none-some value e)
lists_there (Truth Guards x) value e = absurd (none-some value e)
lists_there (Truth IgnoreComments x) value e = absurd (none-some value e)
lists_there (Truth Lazy x) value e = absurd (none-some value e)
lists_there (Truth Lists x) value e = ap (Truth Lists) (same_Some x value e)
lists_there (Truth NoCd x) value e = absurd (none-some value e)
lists_there (Truth NoExitMessage x) value e = absurd (none-some value e)
lists_there (Truth PositionalArguments x) value e = absurd (none-some value e)
lists_there (Truth Quiet x) value e = absurd (none-some value e)
lists_there (Truth ShareSubsequents x) value e = absurd (none-some value e)
lists_there (Truth Unstable x) value e = absurd (none-some value e)
lists_there (Truth WindowsPowershell x) value e = absurd (none-some value e)
lists_there (DotenvCommand x) value e = absurd (none-some value e)
lists_there (DotenvFilename x) value e = absurd (none-some value e)
lists_there (DotenvPath x) value e = absurd (none-some value e)
lists_there (Indentation x) value e = absurd (none-some value e)
lists_there (MinimumVersion x) value e = absurd (none-some value e)
lists_there (ScriptInterpreter x) value e = absurd (none-some value e)
lists_there (Shell x) value e = absurd (none-some value e)
lists_there (Tempdir x) value e = absurd (none-some value e)
lists_there (WindowsShell x) value e = absurd (none-some value e)
lists_there (WorkingDirectory x) value e = absurd (none-some value e)

module _ (compilation : Compilation) (node : ModuleNode) where
  -- the settings at the module's places are those that it lists
  pub sets_are : (s : Set) → Contains (sets_at compilation node.sets.items) s ↔ IsListedSet compilation node s
  sets_are s = (
    λ h. let comes = kept_comes (set_at compilation) node.sets.items s h in (comes.x, comes.listed, set_there (item_at compilation comes.x) s comes.is),
    λ listed. given_there (set_at compilation) node.sets.items listed.0 s listed.1 (ap set_of listed.2),
  )

  said_there : (place : Place) → Contains node.sets.items place → (value : Bool) → lists_at compilation place ≡ Some value → IsSaidOfLists compilation node (Some value)
  said_there place listed value e = by_set (set_at compilation place) refl e
    where
      by_set : (found : Option Set) → set_at compilation place ≡ found → option_and_then (λ (set : Set). lists_of set.value) found ≡ Some value → IsSaidOfLists compilation node (Some value)
      by_set None is so = absurd (none-some value so)
      by_set (Some s) is so = (s, (place, listed, set_there (item_at compilation place) s is), lists_there s.value value so)

  -- the first setting of lists says whether they are on
  pub lists_said : (found : Option Bool) → first_of (lists_at compilation) node.sets.items ≡ found → IsSaidOfLists compilation node found
  lists_said (Some value) e = let comes = first_answered (lists_at compilation) node.sets.items value e in said_there comes.x comes.listed value comes.is
  lists_said None e = λ s value listed is.
      let says : lists_at compilation listed.0 ≡ Some value = ap (λ (item : Option Item). option_and_then (λ (set : Set). lists_of set.value) (set_of item)) listed.2 ∙ ap lists_of is in
      none-some value (sym (none_answers (lists_at compilation) node.sets.items e listed.0 listed.1) ∙ says)

-- ---- the constants of a module

module _ (laws : Laws) (w : World) (compilation : Compilation) (is : IsResolvable w compilation) (words : List Override) {A : Type 0} (overrides : BTreeMap ℕ (String A)) (given : AreGiven compilation words overrides) (variables : ModuleVariables)
    (k : ℕ) (node : ModuleNode) (here : HasNode w compilation k node) (m : IsModuleOf overrides compilation variables k node) where
  abbrev sets : List Set
  sets = sets_at compilation node.sets.items

  module _ (numbers : BTreeSet ℕ) (read : AreConstants m.lists m.reads sets numbers) where
    -- they are found by what the module keeps and reads
    sought : AreSought compilation node words overrides m.lists.assignments.items m.order.items sets (contains nat_cmp numbers)
    sought = record {
      variables_are = ap (λ (kept : Kept). kept.variables) m.same;
      sets_are = sets_are compilation node;
      given = given.texts;
      resolver = m.reads.resolver;
      of = resolver_is overrides compilation variables k node m;
      graph = rows m.reads.graph.items;
      rows = rows_are overrides compilation variables k node m;
      small = graph_few overrides compilation variables k node m;
      ordered = order_of_names overrides compilation variables k node m;
      places = read.places;
      read = read.read;
      marks = read.marks;
      reached = subst (λ given. AreReached (rows m.reads.graph.items) given read.places read.marks) (m.reads_are.overridden ∙ ap (λ (kept : Kept). overridden_by overrides kept.variables) m.same) read.reached;
      are_read = read.are;
    }

    module _ (path : List Text) (has_path : HasPath w (views w compilation) (nodes w compilation) k path) (constants : Frames) (language : AreConstantFrames constants) where
      settled_module : IsSettledModule w compilation k node path
      settled_module = record { numbered = is.numbered; here = here; has_path = has_path }

      -- and they tell the rule
      told : ConstantsAreTold w compilation k node path words overrides m.lists.assignments.items m.order.items sets (contains nat_cmp numbers) constants (set_lists compilation node.sets.items)
      told =
          let found : AreFoundIn w compilation k node path words overrides m.lists.assignments.items m.order.items sets (contains nat_cmp numbers) constants (set_lists compilation node.sets.items) = record {
            module' = settled_module;
            sought = sought;
            language = language.bound;
            lists_are = laws.lists w compilation k node path settled_module (overrides_of words) (first_of (lists_at compilation) node.sets.items) (lists_said compilation node (first_of (lists_at compilation) node.sets.items) refl);
          } in
          laws.constants overrides w compilation k node path words m.lists.assignments.items m.order.items sets (contains nat_cmp numbers) constants (set_lists compilation node.sets.items) found

      unsettled_breaks : (fault : Fault) → AreUnsettledBy constants overrides compilation node.sets.items m.lists.assignments.items m.order.items numbers fault → BreaksConstants w (overrides_of words) path node.source.now
      unsettled_breaks fault (settling.variable fails) = told.failed fault fails
      unsettled_breaks fault (settling.setting known found unset) =
          let one = one_refused (reading_in known) known.lists sets defaults fault unset in
          told.refused known found one.0 one.1 (fault, one.2)

    -- where they or the settings are refused, the rule is broken
    pub unsettled_broken : (constants : Frames) → AreConstantFrames constants → (fault : Fault) → AreUnsettledBy constants overrides compilation node.sets.items m.lists.assignments.items m.order.items numbers fault → Broken w (overrides_of words) const_error
    unsettled_broken constants language fault unsettled =
        let n = node_is w compilation is.numbered.of k node here in
        record {
          said = λ e. reached_are_said w compilation is.numbered.of is.numbered.single;
          breaks = (n.path, node.source.now, n.is, unsettled_breaks n.path n.has_path constants language fault unsettled);
        }

  -- where the settings are known, it is not
  pub settled_clear : (settings : List Settings) → AreConstantly compilation variables.lists.items variables.reads.items variables.orders.items overrides settings
      → (path : List Text) → HasPath w (views w compilation) (nodes w compilation) k path → BreaksConstants w (overrides_of words) path node.source.now → ⊥
  settled_clear settings are path has_path breaks =
      let settled = (are_settled overrides compilation variables k node here m settings are).1 in
      let by = settled.settled in
      (told settled.numbers settled.read path has_path are.constants are.language).clear by.known by.found
      (λ s listed. each_set (reading_in by.known) by.known.lists sets defaults (are_settled overrides compilation variables k node here m settings are).0 by.set s listed) breaks
