-- What a run evaluates has, with a variable, what the variable reads.
use Rattle.std.proofs.Common.{◌≡◌, inl, inr, refl, sym, ◌∙◌, ap, subst, Bool, false, if◌then◌else◌, is_some, List, [], ◌∷◌, length, Option, Some, None, ℕ, suc, ◌≤◌, ◌<◌, arith}
use Rattle.std.specs.Prelude.{slice_get, Contains, String}
use Rattle.std.specs.BTreeMap.{BTreeMap, get}
use Rattle.std.specs.List.{flat_map}
use Rattle.std.specs.List.Sorted.{IsStrictlySortedBy}
use Rattle.std.specs.Option.{option_map}
use Rattle.std.specs.Ordering.{nat_cmp}
use Rattle.std.specs.String.{string_bytes}
use Rattle.std.specs.declared.cmp.Ordering.TheVariants.{Less}
use Rattle.std.proofs.lemmas.Bool.Decides.{leb_tells}
use Rattle.std.proofs.lemmas.Cmp.{nat_cmp_total, tied_itself}
use Rattle.std.proofs.lemmas.List.{get_or_past, length-append, length-map}
use Rattle.std.proofs.lemmas.List.Folds.{flat_map-map}
use Rattle.std.proofs.lemmas.Option.{none-some, same_Some, slice_get_within, get_or_from_slice_get}
use Rattle.just_text.specs.Tokens.{lexeme}
use Rattle.tree_expressions.specs.declared.expression.Expression.{Expression}
use Rattle.tree_items.specs.declared.ast.Item.{Item}
use Rattle.tree_items.specs.declared.ast.Item.TheVariants.{Assignment}
use Rattle.tree_items.specs.declared.item.Binding.{Binding}
use Rattle.parse_items.specs.Numbered.{binding_numbers}
use Rattle.justfile_syntax.specs.Numbered.{bindings_in}
use Rattle.evaluate_context.specs.declared.context.AssignmentRef.{AssignmentRef}
use Rattle.evaluate_context.specs.declared.settings.Settings.{Settings}
use Rattle.evaluate_variables.specs.Opened.{overridden}
use Rattle.modules_compilation.specs.Places.{item_at, items_of}
use Rattle.modules_compilation.specs.declared.compilation.Compilation.{Compilation}
use Rattle.modules_compilation.specs.declared.module_node.File.{File}
use Rattle.modules_compilation.specs.declared.module_node.ModuleNode.{ModuleNode}
use Rattle.modules_compilation.specs.declared.place.Place.{Place}
use Rattle.resolve_order.specs.Flooded.{is_stop, leads_of}
use Rattle.resolve_order.specs.Needs.{Needs, rows}
use Rattle.resolve_order.specs.Reads.{ReadsThrough, directly, through}
use Rattle.resolve_analysis.specs.Lists.{Kept, kept_by, kept_in, numbers_in, variables_in}
use Rattle.resolve_analysis.specs.Opening.{IsEvaluated, IsOpened, IsReadByRecipe, Runs, by_recipe, by_variable, exports_all}
use Rattle.resolve_analysis.specs.Reads.{bodies, expressions_of, overridden_by, right_sides}
use Rattle.resolve_analysis.specs.declared.module_lists.ModuleLists.{ModuleLists}
use Rattle.resolve_analysis.specs.declared.module_reads.ModuleReads.{ModuleReads}
use Rattle.resolve_analysis.specs.declared.recipes.ResolvedRecipe.{ResolvedRecipe}
use Rattle.resolve_analysis.specs.declared.variables.ModuleVariables.{ModuleVariables}
use Rattle.just_resolve.specs.Variables.{AreVariables, IsReads}
use Rattle.meaning_rules.specs.Worlds.Compiled.{FileView}
use Rattle.meaning_rules.specs.Worlds.Given.{World}
use Rattle.meaning_rules.proofs.Worlds.Places.{contains_at, contains_first}
use Rattle.meaning_rules.specs.Worlds.Views.{file_view, node_view}
use Rattle.laws_modules.specs.Names.Names.{HasNode}
use Rattle.laws_modules.proofs.Names.Found.{mapped, mapped_at}
use Rattle.laws_names.specs.Reading.Meant.{IsNumberedWorld}
use Rattle.laws_names.proofs.Reading.Bindings.{numbered_once}
use Rattle.laws_names.proofs.Reading.Lists.{contains_flat, piece_once}
use Rattle.laws_names.proofs.Reading.Module.{variable_kept, variable_once, variables as variables_of}
use Rattle.laws_names.proofs.Reading.Outcomes.{as_many_rows}
use Rattle.laws_runs.specs.Views.Read.{AreEvaluated, AreReadFrom, EvaluatedAreClosed, RunningAreRead}
use Rattle.laws_runs.proofs.Views.Views.{node_there}

-- ---- a number stands in one file, which is one module's

number_apart : (number : ℕ) → nat_cmp number number ≡ Less → ⊥
number_apart number e = let both = sym (tied_itself nat_cmp_total number) ∙ e in cc both

file_of : (compilation : Compilation) (place : Place) (item : Item) → item_at compilation place ≡ Some item
    → (file : File) × (slice_get compilation.files.items place.file ≡ Some file) × (slice_get file.ast.items.items place.item ≡ Some item)
file_of compilation place item e = by_file (slice_get compilation.files.items place.file) refl e
  where
    by_file : (o : Option File) → slice_get compilation.files.items place.file ≡ o → slice_get (items_of o) place.item ≡ Some item
        → (file : File) × (slice_get compilation.files.items place.file ≡ Some file) × (slice_get file.ast.items.items place.item ≡ Some item)
    by_file None is e = absurd (none-some item e)
    by_file (Some file) is e = (file, is, e)

module _ (w : World) (compilation : Compilation) (n : IsNumberedWorld w compilation) where
  abbrev in_file : File → List ℕ
  in_file file = bindings_in file.ast.items.items

  all_sorted : IsStrictlySortedBy nat_cmp (flat_map in_file compilation.files.items)
  all_sorted = subst (IsStrictlySortedBy nat_cmp) (flat_map-map (λ (f : FileView). f.bindings) file_view compilation.files.items) n.of.bindings

  one_file : (p q : Place) (v u : Binding Expression) → item_at compilation p ≡ Some (Assignment v) → item_at compilation q ≡ Some (Assignment u) → v.number ≡ u.number → p.file ≡ q.file
  one_file p q v u e f same =
      let x = file_of compilation p (Assignment v) e in
      let y = file_of compilation q (Assignment u) f in
      let first : Contains (in_file x.0) v.number = contains_flat binding_numbers x.0.ast.items.items (Assignment v) v.number (contains_at x.0.ast.items.items p.item (Assignment v) x.2) (contains_first v.number []) in
      let second : Contains (in_file y.0) v.number = subst (Contains (in_file y.0)) (sym same) (contains_flat binding_numbers y.0.ast.items.items (Assignment u) u.number (contains_at y.0.ast.items.items q.item (Assignment u) y.2) (contains_first u.number [])) in
      piece_once nat_cmp number_apart in_file compilation.files.items all_sorted p.file q.file x.0 y.0 v.number x.1 y.1 first second

  -- modules that have one file are one
  never : (file i j : ℕ) (a b : ModuleNode) → HasNode w compilation i a → HasNode w compilation j b → a.first_file ≤ file → file < a.end_file → b.first_file ≤ file → file < b.end_file → i < j → ⊥
  never file i j a b at_i at_j from to from' to' lt = elim (n.of.apart i j (node_view a) (node_view b) (mapped node_view compilation.modules.items i a at_i) (mapped node_view compilation.modules.items j b at_j) lt) [
    | inl p ↦ absurd (omega (arith, p, to, from'))
    | inr p ↦ absurd (omega (arith, p, to', from))
  ]

  one_node : (file i j : ℕ) (a b : ModuleNode) → HasNode w compilation i a → HasNode w compilation j b → a.first_file ≤ file → file < a.end_file → b.first_file ≤ file → file < b.end_file → i ≡ j
  one_node file i j a b at_i at_j from to from' to' = elim (leb_tells (suc i) j) [
    | inl p ↦ absurd (never file i j a b at_i at_j from to from' to' p.1)
    | inr p ↦ elim (leb_tells (suc j) i) [
      | inl q ↦ absurd (never file j i b a at_j at_i from' to' from to q.1)
      | inr q ↦ let less = p.1 in let more = q.1 in omega (arith, less, more)
    ]
  ]

  -- variables of modules with one number are one, in one module
  one_home : (i j : ℕ) (a b : ModuleNode) (at_i : HasNode w compilation i a) (at_j : HasNode w compilation j b) (p q : ℕ) (v u : Binding Expression)
      → slice_get (variables_of w compilation n i a at_i) p ≡ Some v → slice_get (variables_of w compilation n j b at_j) q ≡ Some u → v.number ≡ u.number → i ≡ j
  one_home i j a b at_i at_j p q v u e f same =
      let x = variable_kept w compilation n i a at_i p v e in
      let y = variable_kept w compilation n j b at_j q u f in
      let files = one_file x.0 y.0 v u x.3.there y.3.there same in
      let from = y.3.from in
      let to = y.3.to in
      one_node x.0.file i j a b at_i at_j x.3.from x.3.to (omega (arith, files, from)) (omega (arith, files, to))

  one_place : (k : ℕ) (node : ModuleNode) (here : HasNode w compilation k node) (p q : ℕ) (v u : Binding Expression) → slice_get (variables_of w compilation n k node here) p ≡ Some v → slice_get (variables_of w compilation n k node here) q ≡ Some u
      → v.number ≡ u.number → p ≡ q
  one_place k node here p q v u e f same =
      let x = variable_kept w compilation n k node here p v e in
      let y = variable_kept w compilation n k node here q u f in
      let items = numbered_once w compilation n x.0 y.0 (Assignment v) (Assignment u) x.3.there y.3.there u.number (subst (Contains (v.number ∷ [])) same (contains_first v.number [])) (contains_first u.number []) in
      let both : v ≡ u = cc items in
      variable_once w compilation n k node here p q v u e f (ap (λ (v : Binding Expression). lexeme v.name.token) both)

-- ---- what is opened along chains of functions

module _ (all : Bool) (lists : ModuleLists) (reads : ModuleReads) (IsRead : ℕ → Type 0) where
  abbrev graph : List (List ℕ)
  graph = rows reads.graph.items

  abbrev count : ℕ
  count = length lists.assignments.items

  abbrev Opened : ℕ → Type 0
  Opened place = IsOpened all lists reads IsRead place

  opened_next : (place other : ℕ) → Opened place → is_stop reads.overridden.items place ≡ false → Needs graph place other → Opened other
  opened_next place other o free needs =
      let row : leads_of graph place ≡ needs.row = get_or_from_slice_get graph place needs.row [] needs.here in
      by_variable o (subst (λ (b : Bool). Contains (if b then [] else leads_of graph place) other) (sym free) (subst (λ xs. Contains xs other) (sym row) needs.listed))

  opened_through : ((place : ℕ) → count ≤ place → is_stop reads.overridden.items place ≡ false) → (place other : ℕ) → ReadsThrough graph count place other → Opened place → is_stop reads.overridden.items place ≡ false → Opened other
  opened_through free place other (directly needs) o is = opened_next place other o is needs
  opened_through free place other (through {function} needs le more) o is = opened_through free function other more (opened_next place function o is needs) (free function le)

  read_within : (place other : ℕ) → ReadsThrough graph count place other → other < length graph
  read_within place other (directly needs) = needs.there
  read_within place other (through {function} needs le more) = read_within function other more

-- a variable that has no text is no stop
no_text : {X Y : Type 0} (f : X → Y) (o : Option X) → option_map f o ≡ None → is_some o ≡ false
no_text f None e = refl
no_text f (Some x) e = absurd (none-some (f x) (sym e))

module _ {A : Type 0} (overrides : BTreeMap ℕ (String A)) (lists : ModuleLists) (reads : ModuleReads) (r : IsReads overrides lists reads) where
  variable_free : (place : ℕ) (v : Binding Expression) → slice_get (variables_in lists.assignments.items) place ≡ Some v → overridden overrides v.number ≡ None → is_stop reads.overridden.items place ≡ false
  variable_free place v at none =
      ap (λ stops. is_stop stops place) r.overridden
      ∙ get_or_from_slice_get (overridden_by overrides (kept_in lists).variables) place (is_some (get nat_cmp overrides v.number)) false (mapped (λ (x : Binding Expression). is_some (get nat_cmp overrides x.number)) (kept_in lists).variables place v at)
      ∙ no_text string_bytes (get nat_cmp overrides v.number) none

  function_free : (place : ℕ) → length lists.assignments.items ≤ place → is_stop reads.overridden.items place ≡ false
  function_free place le =
      let many = length-map (kept_in lists).variables (λ (x : Binding Expression). is_some (get nat_cmp overrides x.number)) in
      let lent = length-map lists.assignments.items (λ (lent : AssignmentRef). lent.assignment.now) in
      ap (λ stops. is_stop stops place) r.overridden ∙ get_or_past (overridden_by overrides (kept_in lists).variables) place false (omega (arith, many, lent, le))

  -- the graph has a row for each variable
  pub variable_within : (other number : ℕ) → slice_get (numbers_in lists.assignments.items) other ≡ Some number → other < length reads.graph.items
  variable_within other number at =
      let lt = slice_get_within (numbers_in lists.assignments.items) other number at in
      let numbers = length-map lists.assignments.items (λ (lent : AssignmentRef). lent.assignment.now.number) in
      let lent = length-map lists.assignments.items (λ (lent : AssignmentRef). lent.assignment.now) in
      let kept = kept_in lists in
      let sides = length-map kept.variables (λ (x : Binding Expression). x.value) in
      let both = length-append (right_sides kept.variables) (bodies kept.functions) in
      let all = as_many_rows reads.resolver (expressions_of kept) (rows reads.graph.items) r.graph in
      let graph = length-map reads.graph.items (λ row. row.items) in
      omega (arith, lt, numbers, lent, sides, both, all, graph)

-- ---- the law

module _ {A : Type 0} (overrides : BTreeMap ℕ (String A)) (w : World) (compilation : Compilation) (n : IsNumberedWorld w compilation) (variables : ModuleVariables) (are : AreVariables overrides compilation variables) where
  -- a number in the lists of a module is that of a variable that it keeps
  record IsKept (k number place : ℕ) : Type 0 where
    pub node : ModuleNode
    pub here : HasNode w compilation k node
    pub v : Binding Expression
    pub at : slice_get (variables_of w compilation n k node here) place ≡ Some v
    pub numbered : v.number ≡ number

  kept : (k number place : ℕ) (lists : ModuleLists) → slice_get variables.lists.items k ≡ Some lists → slice_get (numbers_in lists.assignments.items) place ≡ Some number → IsKept k number place
  kept k number place lists there at =
      let node = node_there overrides w compilation n variables are k lists there in
      let l = mapped_at (λ (lent : AssignmentRef). lent.assignment.now.number) lists.assignments.items place number at in
      let lent = mapped (λ (lent : AssignmentRef). lent.assignment.now) lists.assignments.items place l.0 l.1 in
      record { node = node.0; here = node.1; v = l.0.assignment.now; at = ap (λ (kept : Kept). slice_get kept.variables place) node.2 ∙ lent; numbered = l.2 }

  same_home : (i j number p q : ℕ) → IsKept i number p → IsKept j number q → i ≡ j
  same_home i j number p q a b = one_home w compilation n i j a.node b.node a.here b.here p q a.v b.v a.at b.at (a.numbered ∙ sym b.numbered)

  same_place : (k number p q : ℕ) → IsKept k number p → IsKept k number q → p ≡ q
  same_place k number p q a b =
      let nodes : b.node ≡ a.node = same_Some b.node a.node (sym b.here ∙ a.here) in
      let at : slice_get (kept_by compilation a.node).variables q ≡ Some b.v = subst (λ node. slice_get (kept_by compilation node).variables q ≡ Some b.v) nodes b.at in
      one_place w compilation n k a.node a.here p q a.v b.v a.at at (a.numbered ∙ sym b.numbered)

  module _ (recipes : List ResolvedRecipe) (settings : List Settings) (called : List ℕ) (no_dependencies : Bool) where
    abbrev OpenedIn : ℕ → ModuleLists → ModuleReads → ℕ → Type 0
    OpenedIn home lists reads place = IsOpened (exports_all (slice_get settings home)) lists reads (IsReadByRecipe recipes no_dependencies called home) place

    module _ (k : ℕ) (lists : ModuleLists) (reads : ModuleReads) (there : slice_get variables.lists.items k ≡ Some lists) (known : slice_get variables.reads.items k ≡ Some reads) where
      abbrev Evaluated : ℕ → Type 0
      Evaluated number = IsEvaluated variables recipes settings called no_dependencies number

      -- a variable of the module that is evaluated is opened there
      pub opened_here : (place number : ℕ) → slice_get (numbers_in lists.assignments.items) place ≡ Some number → Evaluated number → OpenedIn k lists reads place
      opened_here place number at e =
          let home : e.home ≡ k = same_home e.home k number e.opened.place place (kept e.home number e.opened.place e.lists e.kept e.opened.here) (kept k number place lists there at) in
          let lists_same : e.lists ≡ lists = same_Some e.lists lists (sym e.kept ∙ ap (slice_get variables.lists.items) home ∙ there) in
          let reads_same : e.reads ≡ reads = same_Some e.reads reads (sym e.known ∙ ap (slice_get variables.reads.items) home ∙ known) in
          let here : slice_get (numbers_in lists.assignments.items) e.opened.place ≡ Some number = subst (λ (l : ModuleLists). slice_get (numbers_in l.assignments.items) e.opened.place ≡ Some number) lists_same e.opened.here in
          let places : e.opened.place ≡ place = same_place k number e.opened.place place (kept k number e.opened.place lists there here) (kept k number place lists there at) in
          subst (OpenedIn k lists reads) places
          (subst (λ r. OpenedIn k lists r e.opened.place) reads_same
          (subst (λ l. OpenedIn k l e.reads e.opened.place) lists_same
          (subst (λ h. OpenedIn h e.lists e.reads e.opened.place) home e.opened.opened)))

      -- and what it reads is evaluated
      evaluated_too : (place other number read : ℕ) → slice_get (numbers_in lists.assignments.items) place ≡ Some number → slice_get (numbers_in lists.assignments.items) other ≡ Some read → Evaluated number → overridden overrides number ≡ None
          → ReadsThrough (rows reads.graph.items) (length lists.assignments.items) place other → Evaluated read
      evaluated_too place other number read at at' e none reads_it =
          let r = are.of.reads.each k reads known lists there in
          let l = mapped_at (λ (lent : AssignmentRef). lent.assignment.now.number) lists.assignments.items place number at in
          let lent = mapped (λ (lent : AssignmentRef). lent.assignment.now) lists.assignments.items place l.0 l.1 in
          let free = variable_free overrides lists reads r place l.0.assignment.now lent (ap (overridden overrides) l.2 ∙ none) in
          let within = read_within (exports_all (slice_get settings k)) lists reads (IsReadByRecipe recipes no_dependencies called k) place other reads_it in
          let many = length-map reads.graph.items (λ row. row.items) in
          record {
            home = k;
            lists = lists;
            kept = there;
            reads = reads;
            known = known;
            opened = record {
              place = other;
              here = at';
              there = omega (arith, within, many);
              opened = opened_through (exports_all (slice_get settings k)) lists reads (IsReadByRecipe recipes no_dependencies called k) (function_free overrides lists reads r) place other reads_it (opened_here place number at e) free;
            };
          }

pub evaluated_are_closed : {A : Type 0} (overrides : BTreeMap ℕ (String A)) → EvaluatedAreClosed overrides
evaluated_are_closed overrides w compilation n variables are recipes settings called no_dependencies is_read evaluated k lists reads there known place other number read at at' is none reads_it =
    (evaluated read).1 (evaluated_too overrides w compilation n variables are recipes settings called no_dependencies k lists reads there known place other number read at at' ((evaluated number).0 is) none reads_it)

-- ---- what recipes read that run

module _ {A : Type 0} (overrides : BTreeMap ℕ (String A)) (compilation : Compilation) (variables : ModuleVariables) (are : AreVariables overrides compilation variables)
    (recipes : List ResolvedRecipe) (settings : List Settings) (called : List ℕ) (no_dependencies : Bool) (place : ℕ) (recipe : ResolvedRecipe) (here : slice_get recipes place ≡ Some recipe) (runs : Runs recipes no_dependencies called place)
    (lists : ModuleLists) (reads : ModuleReads) (there : slice_get variables.lists.items recipe.module ≡ Some lists) (known : slice_get variables.reads.items recipe.module ≡ Some reads) where
  abbrev IsReadHere : ℕ → Type 0
  IsReadHere read = IsReadByRecipe recipes no_dependencies called recipe.module read

  is_read_here : (read : ℕ) → Contains recipe.reads.items read → IsReadHere read
  is_read_here read listed = record { place = place; recipe = recipe; here = here; runs = runs; inside = refl; reads = listed }

  r : IsReads overrides lists reads
  r = are.of.reads.each recipe.module reads known lists there

  pub evaluated_there : (other number : ℕ) → slice_get (numbers_in lists.assignments.items) other ≡ Some number → IsOpened (exports_all (slice_get settings recipe.module)) lists reads IsReadHere other
      → IsEvaluated variables recipes settings called no_dependencies number
  evaluated_there other number at opened = record {
    home = recipe.module;
    lists = lists;
    kept = there;
    reads = reads;
    known = known;
    opened = record { place = other; here = at; there = variable_within overrides lists reads r other number at; opened = opened };
  }

  pub recipe_read : (is_read : ℕ → Bool) → AreEvaluated variables recipes settings called no_dependencies is_read → AreReadFrom lists reads recipe.reads.items is_read
  recipe_read is_read evaluated = record {
    variable = λ other number listed at. (evaluated number).1 (evaluated_there other number at (by_recipe (is_read_here other listed)));
    function = λ function other number listed le reads_it at.
        (evaluated number).1 (evaluated_there other number at
        (opened_through (exports_all (slice_get settings recipe.module)) lists reads IsReadHere (function_free overrides lists reads r) function other reads_it (by_recipe (is_read_here function listed)) (function_free overrides lists reads r function le)));
  }

pub running_are_read : {A : Type 0} (overrides : BTreeMap ℕ (String A)) → RunningAreRead overrides
running_are_read overrides compilation variables are recipes settings called no_dependencies is_read evaluated place recipe here runs lists reads there known =
    recipe_read overrides compilation variables are recipes settings called no_dependencies place recipe here runs lists reads there known is_read evaluated
