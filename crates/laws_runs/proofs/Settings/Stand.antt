-- The settings of each module stand in the world.
use Rattle.std.proofs.Common.{◌≡◌, refl, sym, ◌∙◌, ap, subst, Bool, List, [], ◌∷◌, Option, Some, None, Ok, Err, String, ℕ}
use Rattle.std.specs.Prelude.{slice_get, Contains}
use Rattle.std.specs.BTreeMap.{BTreeMap}
use Rattle.std.specs.BTreeSet.{contains}
use Rattle.std.specs.Ordering.{nat_cmp}
use Rattle.std.proofs.lemmas.Option.{none-some, same_Some}
use Rattle.parse_expressions.specs.Literals.{Expansion, from_file}
use Rattle.tree_expressions.specs.Shape.{Shape, shape_of}
use Rattle.tree_items.specs.Items.{set_shape}
use Rattle.tree_items.specs.declared.set.Set.{Set}
use Rattle.just_value.specs.Frames.{Frames}
use Rattle.just_value.specs.declared.positional.Override.{Override}
use Rattle.evaluate_context.specs.Defaults.{defaults}
use Rattle.evaluate_context.specs.declared.context.AssignmentRef.{AssignmentRef}
use Rattle.evaluate_context.specs.declared.settings.Settings.{Settings}
use Rattle.evaluate_variables.specs.SettingValues.{value_of}
use Rattle.evaluate_variables.specs.Settled.{const_reading, excluded_in, reading_in, values_in}
use Rattle.evaluate_variables.specs.declared.const_evaluator.ConstEvaluator.{ConstEvaluator}
use Rattle.modules_compilation.specs.declared.compilation.Compilation.{Compilation}
use Rattle.modules_compilation.specs.declared.module_node.ModuleNode.{ModuleNode}
use Rattle.resolve_order.specs.Flooded.{AreReached}
use Rattle.resolve_order.specs.Needs.{rows}
use Rattle.resolve_references.specs.Seen.{Seen, seen_in_setting}
use Rattle.resolve_analysis.specs.Bound.{bindings_of}
use Rattle.resolve_analysis.specs.Lists.{Kept}
use Rattle.resolve_analysis.specs.Reads.{overridden_by}
use Rattle.resolve_analysis.specs.declared.variables.ModuleVariables.{ModuleVariables}
use Rattle.meaning_dialogues.specs.Constants.{constant}
use Rattle.meaning_dialogues.specs.Dialogue.{Reading}
use Rattle.meaning_dialogues.specs.Evaluation.{Value}
use Rattle.meaning_dialogues.specs.Meaning.{Meaning}
use Rattle.meaning_rules.specs.Worlds.Compiled.{HasPath}
use Rattle.meaning_rules.specs.Worlds.Given.{Text, World}
use Rattle.meaning_rules.specs.Constants.{HasValue, IsPartOf, meant, said_by}
use Rattle.meaning_rules.specs.Naming.{Part}
use Rattle.laws_modules.specs.Names.Names.{nodes, views}
use Rattle.meaning_rules.specs.Overrides.{overrides_of}
use Rattle.laws_names.specs.Reading.Meant.{IsNumberedWorld}
use Rattle.laws_names.specs.Constants.Broken.{AreFoundIn, Finds}
use Rattle.laws_names.specs.Constants.Expressions.{known}
use Rattle.laws_names.specs.Constants.Sought.{AreSought, IsListedSet, IsSettledModule}
use Rattle.laws_names.proofs.Constants.Broken.{file, name_means, own_name, part_found, same, written}
use Rattle.laws_names.proofs.Constants.Expressions.{constants_tell_names, expressions_settle}
use Rattle.laws_names.proofs.Constants.Lists.{lists_are_said}
use Rattle.just_resolve.specs.Overrides.{AreGiven}
use Rattle.just_resolve.specs.Settling.{AreConstantly, AreSet, AreSettled, lists_at, set_lists, sets_at}
use Rattle.just_resolve.specs.Table.{first_of}
use Rattle.just_resolve.specs.Variables.{AreVariables}
use Rattle.just_resolve.proofs.Constants.{each_set, lists_said, sets_are}
use Rattle.just_resolve.proofs.Keeping.{IsModuleOf, graph_few, of_module, order_of_names, resolver_is, rows_are}
use Rattle.laws_runs.specs.Settings.Settled.{AreOfWorld, AreSettledAs, SettingsStand}
use Rattle.laws_runs.proofs.Settings.Ended.{each_ends}
use Rattle.laws_runs.proofs.Settings.Sets.{of_set, same_sets, set_name, sets_of_world, sets_sorted}
use Rattle.laws_runs.proofs.Settings.Told.{AreTold, settled_as}

-- ---- what stands for an expression

abbrev pub value_or_none : Meaning Value → Value
value_or_none (Some (Ok value)) = value
value_or_none (Some (Err fault)) = []
value_or_none None = []

-- its value, by what variables mean
abbrev pub settle_by : Expansion → Bool → (Text → Meaning Value) → Shape → Value
settle_by expansion lists variables e = value_or_none (meant expansion lists variables (said_by expansion lists variables e))

-- what variables of a module mean by the constants that are found
abbrev pub meaning_by : Compilation → ModuleNode → Frames → ConstEvaluator → Text → Meaning Value
meaning_by compilation node constants c = known (const_reading (constants.own ∷ constants.outer) (values_in c) (excluded_in c)) (bindings_of compilation node)

module _ {A : Type 0} (overrides : BTreeMap ℕ (String A)) (w : World) (compilation : Compilation) (k : ℕ) (node : ModuleNode) (path : List Text) (words : List Override) (variables : List AssignmentRef) (order : List ℕ)
    (is_read : ℕ → Bool) (constants : Frames) (lists : Bool) (f : AreFoundIn w compilation k node path words overrides variables order (sets_at compilation node.sets.items) is_read constants lists)
    (c : ConstEvaluator) (finds : Finds w compilation k node path words overrides variables order (sets_at compilation node.sets.items) is_read constants lists c) where
  abbrev sets : List Set
  sets = sets_at compilation node.sets.items

  abbrev own : Text
  own = node.source.now

  abbrev reading : Reading
  reading = const_reading (constants.own ∷ constants.outer) (values_in c) (excluded_in c)

  abbrev so_far : Text → Meaning Value
  so_far = meaning_by compilation node constants c

  abbrev settle : Shape → Value
  settle = settle_by w.expansion lists so_far

  listed : (s : Set) → Contains sets s → IsListedSet compilation node s
  listed s among = (sets_are compilation node s).0 among

  module _ (s : Set) (among : Contains sets s) (x : Seen) (seen : Contains (seen_in_setting s.value) x) where
    -- what an expression of a setting settles to by numbers, it means by names
    value_means : (value : Value) → value_of reading lists x.expression ≡ Some (Ok value) → meant w.expansion lists so_far (said_by w.expansion lists so_far (shape_of x.expression)) ≡ Some (Ok value)
    value_means value e =
        let origin = from_file (file overrides w compilation k node path words variables order sets is_read constants lists f c finds s (listed s among)) w.expansion in
        let is = written overrides w compilation k node path words variables order sets is_read constants lists f c finds s (listed s among) x seen in
        ap constant (sym (expressions_settle origin (bindings_of compilation node) reading (constants_tell_names (constants.own ∷ constants.outer) (values_in c) (excluded_in c)) lists so_far x.expression is (λ name occurs. refl)) ∙ e)

    value_stands : (value : Value) → value_of reading lists x.expression ≡ Some (Ok value) → settle (shape_of x.expression) ≡ value
    value_stands value e = ap value_or_none (value_means value e)

    -- and has that value
    has_value : (value : Value) → value_of reading lists x.expression ≡ Some (Ok value) → HasValue w (overrides_of words) path own (shape_of x.expression) (settle (shape_of x.expression))
    has_value value e = record {
      lists = lists;
      are_lists = f.lists_are;
      variables = so_far;
      mean = λ other occurs. name_means overrides w compilation k node path words variables order sets is_read constants lists f c finds s (listed s among) x seen other occurs;
      is = value_means value e ∙ ap (λ v. Some (Ok v)) (sym (value_stands value e));
    }

  module _ (settings : Settings) (set : AreSet (reading_in c) c.lists sets defaults settings) where
    set_so : AreSet reading lists sets defaults settings
    set_so =
        let by_lists = subst (λ (r : Reading). AreSet r c.lists sets defaults settings) (same overrides w compilation k node path words variables order sets is_read constants lists f c finds) set in
        subst (λ b. AreSet reading b sets defaults settings) finds.0 by_lists

    part_has_value : (t : Set) → Contains sets t → (p : Part) → IsPartOf w (overrides_of words) path own (set_shape t) p → HasValue w (overrides_of words) path own p.said (settle p.said)
    part_has_value t among p part =
        let x = part_found overrides w compilation k node path words variables order sets is_read constants lists f c finds t (listed t among) p part in
        let one = each_set reading lists sets defaults settings set_so t among in
        let end = each_ends reading lists (set_name t) t.value one.0 one.1 one.2 x.0 x.1 in
        subst (λ (q : Part). HasValue w (overrides_of words) path own q.said (settle q.said)) x.2 (has_value t among x.0 x.1 end.value end.is)

    are_told : AreTold reading lists settle sets
    are_told = record {
      sorted = sets_sorted w compilation k node path f.module';
      named = λ s among. own_name overrides w compilation k node path words variables order sets is_read constants lists f c finds s (listed s among);
      stand = λ s among x seen value e. value_stands s among x seen value e;
    }

    pub of_world : AreOfWorld w (overrides_of words) compilation path node settle settings
    of_world = record {
      sets = sets_of_world w compilation k node path f.module' (overrides_of words);
      values = λ s p among part.
          let t = of_set w compilation k node path f.module' s among in
          part_has_value t.0 t.1 p (subst (λ shape. IsPartOf w (overrides_of words) path own shape p) (sym t.2) part);
      settled = subst (λ shapes. AreSettledAs settle shapes settings) (sym (same_sets compilation node)) (settled_as reading lists settle sets settings set_so are_told);
    }

-- ---- the settings of each module

module _ {A : Type 0} (overrides : BTreeMap ℕ (String A)) (w : World) (compilation : Compilation) (is : IsNumberedWorld w compilation) (words : List Override) (given : AreGiven compilation words overrides)
    (variables : ModuleVariables) (are : AreVariables overrides compilation variables)
    (all : List Settings) (constantly : AreConstantly compilation variables.lists.items variables.reads.items variables.orders.items overrides all) where
  module _ (k : ℕ) (node : ModuleNode) (here : slice_get compilation.modules.items k ≡ Some node) where
    abbrev m : IsModuleOf overrides compilation variables k node
    m = of_module overrides compilation variables are k node here

    abbrev own_sets : List Set
    own_sets = sets_at compilation node.sets.items

    abbrev AreOwn : Settings → Type 0
    AreOwn settings = AreSettled constantly.constants overrides compilation node.sets.items m.lists m.reads m.order.items settings

    settled : (settings : Settings) → slice_get all k ≡ Some settings → AreOwn settings
    settled settings e = constantly.settled.each k settings e node m.lists m.reads m.order (record { node_there = here; lists_there = m.lists_there; reads_there = m.reads_there; order_there = m.order_there })

    abbrev settle_in : (settings : Settings) → AreOwn settings → Shape → Value
    settle_in settings s = settle_by w.expansion (set_lists compilation node.sets.items) (meaning_by compilation node constantly.constants s.settled.known)

    module _ (path : List Text) (has_path : HasPath w (views w compilation) (nodes w compilation) k path) (settings : Settings) (s : AreOwn settings) where
      sought : AreSought compilation node words overrides m.lists.assignments.items m.order.items own_sets (contains nat_cmp s.numbers)
      sought = record {
        variables_are = ap (λ (kept : Kept). kept.variables) m.same;
        sets_are = sets_are compilation node;
        given = given.texts;
        resolver = m.reads.resolver;
        of = resolver_is overrides compilation variables k node m;
        graph = rows m.reads.graph.items;
        rows = rows_are overrides compilation variables k node m;
        small = graph_few overrides compilation variables k node m;
        ordered = order_of_names overrides compilation variables k node m;
        places = s.read.places;
        read = s.read.read;
        marks = s.read.marks;
        reached = subst (λ given. AreReached (rows m.reads.graph.items) given s.read.places s.read.marks) (m.reads_are.overridden ∙ ap (λ (kept : Kept). overridden_by overrides kept.variables) m.same) s.read.reached;
        are_read = s.read.are;
      }

      settled_module : IsSettledModule w compilation k node path
      settled_module = record { numbered = is; here = here; has_path = has_path }

      found : AreFoundIn w compilation k node path words overrides m.lists.assignments.items m.order.items own_sets (contains nat_cmp s.numbers) constantly.constants (set_lists compilation node.sets.items)
      found = record {
        module' = settled_module;
        sought = sought;
        language = constantly.language.bound;
        lists_are = lists_are_said w compilation k node path settled_module (overrides_of words) (first_of (lists_at compilation) node.sets.items) (lists_said compilation node (first_of (lists_at compilation) node.sets.items) refl);
      }

      stand_in : AreOfWorld w (overrides_of words) compilation path node (settle_in settings s) settings
      stand_in =
          of_world overrides w compilation k node path words m.lists.assignments.items m.order.items (contains nat_cmp s.numbers) constantly.constants (set_lists compilation node.sets.items) found
          s.settled.known s.settled.found settings s.settled.set

  -- by what stands at the place of a module
  abbrev settle_at : (k : ℕ) (node : Option ModuleNode) → slice_get compilation.modules.items k ≡ node → (settings : Option Settings) → slice_get all k ≡ settings → Shape → Value
  settle_at k None here settings there = λ e. []
  settle_at k (Some node) here None there = λ e. []
  settle_at k (Some node) here (Some settings) there = settle_in k node here settings (settled k node here settings there)

  abbrev Stand : ℕ → ModuleNode → List Text → Settings → (Shape → Value) → Type 0
  Stand k node path settings settle = AreOfWorld w (overrides_of words) compilation path node settle settings

  stand_at : (k : ℕ) (path : List Text) → HasPath w (views w compilation) (nodes w compilation) k path
      → (node : Option ModuleNode) (here : slice_get compilation.modules.items k ≡ node) (settings : Option Settings) (there : slice_get all k ≡ settings)
      → (n : ModuleNode) → node ≡ Some n → (s : Settings) → settings ≡ Some s → Stand k n path s (settle_at k node here settings there)
  stand_at k path has_path None here settings there n is s are = absurd (none-some n is)
  stand_at k path has_path (Some node) here None there n is s are = absurd (none-some s are)
  stand_at k path has_path (Some node) here (Some settings) there n is s are =
      let own = settled k node here settings there in
      subst (λ t. Stand k n path t (settle_in k node here settings own)) (same_Some settings s are)
      (subst (λ m. Stand k m path settings (settle_in k node here settings own)) (same_Some node n is) (stand_in k node here path has_path settings own))

pub settings_stand : {A : Type 0} (overrides : BTreeMap ℕ (String A)) → SettingsStand overrides
settings_stand overrides w compilation is words given variables are all constantly = record {
  settle = λ k. settle_at overrides w compilation is words given variables are all constantly k (slice_get compilation.modules.items k) refl (slice_get all k) refl;
  each = λ k node path settings here has_path there.
      stand_at overrides w compilation is words given variables are all constantly k path has_path (slice_get compilation.modules.items k) refl (slice_get all k) refl node here settings there;
}
