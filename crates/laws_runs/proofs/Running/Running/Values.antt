-- The text of values by places is that by names.
use Rattle.std.proofs.Common.{◌≡◌, ◌∙◌, refl, sym, ap, ap₂, subst, Bool, true, false, cond, if◌then◌else◌, nat_lt, List, [], ◌∷◌, ◌++◌, map, length, Option, Some, None, ℕ, arith}
use Rattle.std.specs.Prelude.{Contains, find, max, slice_get}
use Rattle.std.specs.List.{flat_map}
use Rattle.std.specs.Option.{option_map}
use Rattle.std.specs.Str.{bytes_eq}
use Rattle.std.proofs.Math.Nat.{zero-max}
use Rattle.std.proofs.lemmas.Bool.{ltb-false, ltb-true}
use Rattle.std.proofs.lemmas.Option.{none-some, same_Some, slice_get_within}
use Rattle.std.proofs.lemmas.Slice.Eq.{bytes_eq-Decides}
use Rattle.tree_expressions.specs.Shape.{Shape}
use Rattle.just_value.specs.Frames.{BoundRow, Frames, look_up}
use Rattle.just_value.specs.declared.positional.Override.{Override}
use Rattle.modules_compilation.specs.Modulepaths.{path_in}
use Rattle.modules_compilation.specs.declared.compilation.Compilation.{Compilation}
use Rattle.evaluate_context.specs.declared.context.AssignmentRef.{AssignmentRef}
use Rattle.evaluate_context.specs.declared.context.ExecutionContext.{ExecutionContext}
use Rattle.resolve_analysis.specs.declared.analysis.Analysis.{Analysis}
use Rattle.resolve_analysis.specs.declared.module_lists.ModuleLists.{ModuleLists}
use Rattle.just_resolve.specs.Analysis.{IsAnalysis}
use Rattle.justfile_analyzer.specs.Targets.{has_name, number_named}
use Rattle.justfile_analyzer.specs.Variables.{longest, value_line, variable_line, variables_text}
use Rattle.justfile_analyzer.specs.declared.target.EvaluationTarget.TheVariants.{Module, Variable}
use Rattle.run_tasks.specs.Tasks.{joined_text, module_text, value_text}
use Rattle.meaning_dialogues.specs.Evaluation.{Value}
use Rattle.meaning_rules.specs.Worlds.Given.{Text, World}
use Rattle.meaning_rules.proofs.Worlds.Places.{contains_first, contains_later}
use Rattle.laws_modules.proofs.Names.Found.{there_within}
use Rattle.meaning_rules.specs.Overrides.{overrides_of}
use Rattle.laws_names.specs.Reading.Meant.{IsNumberedWorld}
use Rattle.meaning_evaluation.specs.Named.{Definitions, VariableName, VariableRow}
use Rattle.just_meaning.specs.Actions.{evaluated_text, greater, joined_or_none, of_module, of_variable, public_names, value_lines, widest}
use Rattle.just_meaning.specs.Actions as actions
use Rattle.just_meaning.specs.Opening.{Held, Opened, held, named, variable_says}
use Rattle.just_meaning.specs.Runs.{values_at}
use Rattle.laws_runs.specs.Resolved.Definitions.{definitions_of}
use Rattle.laws_agreement.specs.Grounds.Alike.{AreOpenAlike, IsOpenAlike}
use Rattle.laws_runs.specs.Running.Told.{ValuesAreNamed}
use Rattle.laws_runs.proofs.Running.Opening.Values.{name_of, number_of}
use Rattle.laws_runs.proofs.Running.Opening.Views.{lists_many}
use Rattle.laws_runs.proofs.Running.Running.Modules.{listed, looked_up, names_are, values_found, variable_row}

-- ---- lines

greater_is : (a b : ℕ) → greater a b ≡ max a b
greater_is a b = by_test (nat_lt a b) refl
  where
    by_test : (t : Bool) → nat_lt a b ≡ t → cond t b a ≡ max a b
    by_test true e = let lt = ltb-true a b e in omega (arith, lt)
    by_test false e = let le = ltb-false a b e in omega (arith, le)

same_line : (column : ℕ) (name : Text) (value : Option Value) → actions.value_line column name value ≡ value_line column name value
same_line column name None = refl
same_line column name (Some value) = refl

same_joined : (value : Option Value) → joined_text value ≡ joined_or_none value
same_joined None = refl
same_joined (Some value) = refl

module _ (defined : Definitions) (path : List Text) (frames : Frames) (values : List Held) where
  -- a variable is private by its row where it is so in its tree, and its value is the same
  pub record IsListedSo (lent : AssignmentRef) : Type 0 where
    pub private : variable_says (defined.variable (named path (name_of lent))) (λ (row : VariableRow). row.private) ≡ lent.assignment.now.private
    pub value : option_map (λ (row : BoundRow). row.value) (look_up frames (number_of lent)) ≡ held (name_of lent) values

  abbrev names : List AssignmentRef → List Text
  names list = public_names defined path (map name_of list)

  abbrev line : ℕ → Text → Text
  line column name = actions.value_line column name (held name values)

  widest_same : (list : List AssignmentRef) → ((lent : AssignmentRef) → Contains list lent → IsListedSo lent) → widest (names list) ≡ longest list
  widest_same [] all = refl
  widest_same (x ∷ xs) all =
      ap (λ b. widest (cond b (names xs) (name_of x ∷ names xs))) (all x (contains_first x xs)).private
      ∙ by_private x.assignment.now.private (widest_same xs (λ lent c. all lent (contains_later x xs lent c)))
    where
      by_private : (b : Bool) → widest (names xs) ≡ longest xs → widest (cond b (names xs) (name_of x ∷ names xs)) ≡ max (if b then 0 else length (name_of x)) (longest xs)
      by_private true later = later ∙ sym (zero-max (longest xs))
      by_private false later = greater_is (length (name_of x)) (widest (names xs)) ∙ ap (max (length (name_of x))) later

  lines_same : (column : ℕ) (list : List AssignmentRef) → ((lent : AssignmentRef) → Contains list lent → IsListedSo lent) → flat_map (line column) (names list) ≡ flat_map (variable_line frames column) list
  lines_same column [] all = refl
  lines_same column (x ∷ xs) all =
      ap (λ b. flat_map (line column) (cond b (names xs) (name_of x ∷ names xs))) (all x (contains_first x xs)).private
      ∙ by_private x.assignment.now.private (lines_same column xs (λ lent c. all lent (contains_later x xs lent c)))
    where
      value : Option Value
      value = option_map (λ (row : BoundRow). row.value) (look_up frames (number_of x))

      same : line column (name_of x) ≡ value_line column (name_of x) value
      same = same_line column (name_of x) (held (name_of x) values) ∙ ap (value_line column (name_of x)) (sym (all x (contains_first x xs)).value)

      by_private : (b : Bool) → flat_map (line column) (names xs) ≡ flat_map (variable_line frames column) xs
          → flat_map (line column) (cond b (names xs) (name_of x ∷ names xs)) ≡ (if b then [] else value_line column (name_of x) value) ++ flat_map (variable_line frames column) xs
      by_private true later = later
      by_private false later = ap₂ (λ a b. a ++ b) same later

  -- the lines of all of them are the same
  pub text_same : (list : List AssignmentRef) → ((lent : AssignmentRef) → Contains list lent → IsListedSo lent) → value_lines values (names list) ≡ variables_text frames list
  text_same list all = ap (λ column. flat_map (line column) (names list)) (widest_same list all) ∙ lines_same (longest list) list all

-- ---- a variable by its name

-- the number of a name is that of a variable with the name
lent_named : (list : List AssignmentRef) (name : Text) (number : ℕ) → number_named list name ≡ Some number → (lent : AssignmentRef) × Contains list lent × (name_of lent ≡ name) × (number_of lent ≡ number)
lent_named [] name number e = absurd (none-some number e)
lent_named (x ∷ xs) name number e = by_test (bytes_eq (name_of x) name) refl e (λ f. lent_named xs name number f)
  where
    by_test : (b : Bool) → bytes_eq (name_of x) name ≡ b → option_map (λ (lent : AssignmentRef). lent.assignment.now.number) (cond b (Some x) (find (has_name name) xs)) ≡ Some number
        → (number_named xs name ≡ Some number → (lent : AssignmentRef) × Contains xs lent × (name_of lent ≡ name) × (number_of lent ≡ number))
        → (lent : AssignmentRef) × Contains (x ∷ xs) lent × (name_of lent ≡ name) × (number_of lent ≡ number)
    by_test true is f later = (x, contains_first x xs, (bytes_eq-Decides (name_of x) name).0 is, same_Some (number_of x) number f)
    by_test false is f later = let l = later f in (l.0, contains_later x xs l.0 l.1, l.2, l.3)

-- ---- the text of what is told

module _ (w : World) (compilation : Compilation) (n : IsNumberedWorld w compilation) (given : List Override) (base : Text) (analysis : Analysis) (known : IsAnalysis compilation base given analysis)
    (settle : ℕ → Shape → Value) (working : Text) (contexts : List ExecutionContext) (opened : List Opened) (alike : AreOpenAlike compilation analysis contexts opened) where
  abbrev defined : Definitions
  defined = definitions_of compilation w.expansion (overrides_of given) settle base working

  abbrev path_of : ℕ → List Text
  path_of k = path_in compilation.modules.items k

  module _ (k : ℕ) (here : ExecutionContext) (there : slice_get contexts k ≡ Some here) where
    abbrev o : Opened
    o = (alike.each k here there).0

    among : Contains opened o
    among = (alike.each k here there).1

    abbrev is : IsOpenAlike compilation analysis k here o
    is = (alike.each k here there).2

    values_are : values_at (path_of k) opened ≡ o.values
    values_are = values_found (path_of k) opened o among is.path (λ other c same. alike.apart other o c among (same ∙ sym is.path))

    listed_so : (lent : AssignmentRef) → Contains is.lists.assignments.items lent → IsListedSo defined (path_of k) here.scope.now o.values lent
    listed_so lent c =
        let row = variable_row w compilation n given base analysis known k here o is lent c in
        record {
          private = ap (λ found. variable_says found (λ (r : VariableRow). r.private)) row.is ∙ row.private;
          value = looked_up w compilation n given base analysis known k here o is lent c;
        }

    -- of a module
    module_told : module_text (Some here) ≡ evaluated_text defined opened (of_module (path_of k))
    module_told =
        ap (variables_text here.scope.now) (listed w compilation n given base analysis known k here o is)
        ∙ sym (text_same defined (path_of k) here.scope.now o.values is.lists.assignments.items listed_so)
        ∙ sym (ap₂ (λ values list. value_lines values (public_names defined (path_of k) list)) values_are (names_are w compilation n given base analysis known k here o is))

    -- of a variable
    variable_told : (x : VariableName) (number : ℕ) (kept : ModuleLists) → slice_get analysis.variables.lists.items k ≡ Some kept → x.path ≡ path_of k → number_named kept.assignments.items x.name ≡ Some number
        → value_text number (Some here) ≡ evaluated_text defined opened (of_variable x)
    variable_told x number kept kept_there path number_is =
        let same : kept ≡ is.lists = same_Some kept is.lists (sym kept_there ∙ is.kept) in
        let l = lent_named is.lists.assignments.items x.name number (subst (λ (lists : ModuleLists). number_named lists.assignments.items x.name ≡ Some number) same number_is) in
        ap (λ m. joined_text (option_map (λ (row : BoundRow). row.value) (look_up here.scope.now m))) (sym l.3)
        ∙ ap joined_text (looked_up w compilation n given base analysis known k here o is l.0 l.1)
        ∙ same_joined (held (name_of l.0) o.values)
        ∙ ap₂ (λ name values. joined_or_none (held name values)) l.2 (sym values_are ∙ ap (λ at. values_at at opened) (sym path))

pub values_are_named : ValuesAreNamed
values_are_named w compilation n given base analysis known settle working contexts opened alike (Module k) within (of_module path) is =
    let many = alike.many in
    let here = there_within contexts k (omega (arith, within, many)) in
    ap module_text here.1
    ∙ module_told w compilation n given base analysis known settle working contexts opened alike k here.0 here.1
    ∙ ap (λ at. evaluated_text (definitions_of compilation w.expansion (overrides_of given) settle base working) opened (of_module at)) (sym is)
values_are_named w compilation n given base analysis known settle working contexts opened alike (Variable k number) within (of_variable x) is =
    let many = alike.many in
    let listed_many = lists_many compilation base given analysis known in
    let listed_within = slice_get_within analysis.variables.lists.items k is.0 is.1 in
    let here = there_within contexts k (omega (arith, listed_within, many, listed_many)) in
    ap (value_text number) here.1
    ∙ variable_told w compilation n given base analysis known settle working contexts opened alike k here.0 here.1 x number is.0 is.1 is.2 is.3
values_are_named w compilation n given base analysis known settle working contexts opened alike (Module k) within (of_variable x) is = absurd is
values_are_named w compilation n given base analysis known settle working contexts opened alike (Variable k number) within (of_module path) is = absurd is
