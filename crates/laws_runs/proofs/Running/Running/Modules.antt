-- A module that is open by places and by names: where it is found, and its variables.
use Rattle.std.proofs.Common.{◌≡◌, ◌≤◌, ◌∙◌, inl, inr, refl, sym, ap, ap₂, Bool, true, false, true≢false, cond, List, [], ◌∷◌, map, length, Option, Some, None, ℕ}
use Rattle.std.specs.Prelude.{Contains, slice_get}
use Rattle.std.specs.Bool.{Decides}
use Rattle.std.specs.Cmp.Lexicographic.{bytes_decides, pointwise_decides}
use Rattle.std.specs.List.{cons_option}
use Rattle.std.specs.Option.{option_and_then, option_map, option_or}
use Rattle.std.specs.Str.{bytes_eq}
use Rattle.std.proofs.lemmas.Option.{none-some, same_Some}
use Rattle.std.proofs.lemmas.Slice.Eq.{bytes_eq-Decides}
use Rattle.just_text.specs.Tokens.{lexeme}
use Rattle.just_value.specs.Constants.{constant_rows}
use Rattle.just_value.specs.Frames.{BoundRow, bound_in, constant_binding, found_in, look_up}
use Rattle.just_value.specs.declared.positional.Override.{Override}
use Rattle.tree_expressions.specs.declared.expression.Expression.{Expression}
use Rattle.tree_items.specs.declared.item.Binding.{Binding}
use Rattle.modules_compilation.specs.Modulepaths.{path_in}
use Rattle.modules_compilation.specs.Places as places
use Rattle.modules_compilation.specs.declared.compilation.Compilation.{Compilation}
use Rattle.modules_compilation.specs.declared.module_node.ModuleNode.{ModuleNode}
use Rattle.modules_compilation.specs.declared.place.Place.{Place}
use Rattle.evaluate_context.specs.declared.context.AssignmentRef.{AssignmentRef}
use Rattle.evaluate_context.specs.declared.context.ExecutionContext.{ExecutionContext}
use Rattle.resolve_recipes.specs.Named.{text_at}
use Rattle.resolve_analysis.specs.Lists.{variable_of, variables_at, variables_in}
use Rattle.resolve_analysis.specs.Views.{seen}
use Rattle.resolve_analysis.specs.declared.analysis.Analysis.{Analysis}
use Rattle.resolve_analysis.specs.declared.module_lists.ModuleLists.{ModuleLists}
use Rattle.just_resolve.specs.Analysis.{IsAnalysis}
use Rattle.meaning_dialogues.specs.Evaluation.{Value}
use Rattle.meaning_rules.specs.Worlds.Compiled.{HasPath}
use Rattle.meaning_rules.specs.Worlds.Given.{Text, World}
use Rattle.meaning_rules.proofs.Worlds.Places.{contains_cases, contains_first, contains_later, contains_none}
use Rattle.laws_modules.specs.Names.Names.{nodes, views}
use Rattle.laws_names.specs.Reading.Meant.{IsNumberedWorld}
use Rattle.just_meaning.specs.Opening.{Held, Opened, held}
use Rattle.just_meaning.specs.Runs.{pairs_at, same_path, values_at}
use Rattle.laws_runs.specs.Resolved.Definitions.{key_at, names_at, rows_of}
use Rattle.laws_runs.proofs.Resolved.Leading.{leads_to}
use Rattle.laws_runs.proofs.Resolved.Own.{has_own_path}
use Rattle.laws_runs.proofs.Menus.Variables.{HasVariable, variables_stand}
use Rattle.laws_agreement.specs.Grounds.Alike.{IsOpenAlike}
use Rattle.laws_runs.proofs.Running.Opening.Module as kept
use Rattle.laws_runs.proofs.Running.Opening.Reading.{beyond}
use Rattle.laws_runs.proofs.Running.Opening.Requests.{IsViewOf, listed_in, view_parts}
use Rattle.laws_runs.proofs.Running.Opening.Values.{HoldAlike, name_of, number_of}
use Rattle.laws_runs.proofs.Running.Opening.Views.{variables_here}

-- ---- modules that are open, by their paths

path_decides : (a b : List Text) → Decides (same_path a b) (a ≡ b)
path_decides a b = pointwise_decides bytes_decides a b

-- where one is open at a path, its pairs and its values are found there
module _ (at : List Text) where
  abbrev pub IsOne : List Opened → Opened → Type 0
  IsOne os o = (other : Opened) → Contains os other → other.path ≡ at → other ≡ o

  pub pairs_found : (os : List Opened) (o : Opened) → Contains os o → o.path ≡ at → IsOne os o → pairs_at at os ≡ o.pairs
  pairs_found [] o c e one = absurd (contains_none [] o refl c)
  pairs_found (x ∷ os) o c e one = by_test (same_path x.path at) refl (λ d. pairs_found os o d e (λ other d same. one other (contains_later x os other d) same))
    where
      by_test : (b : Bool) → same_path x.path at ≡ b → (Contains os o → pairs_at at os ≡ o.pairs) → cond b x.pairs (pairs_at at os) ≡ o.pairs
      by_test true is more = ap (λ (y : Opened). y.pairs) (one x (contains_first x os) ((path_decides x.path at).0 is))
      by_test false is more = elim (contains_cases x os o c) [
        | inl same ↦ absurd (true≢false (sym ((path_decides x.path at).1 (ap (λ (y : Opened). y.path) same ∙ e)) ∙ is))
        | inr d ↦ more d
      ]

  pub values_found : (os : List Opened) (o : Opened) → Contains os o → o.path ≡ at → IsOne os o → values_at at os ≡ o.values
  values_found [] o c e one = absurd (contains_none [] o refl c)
  values_found (x ∷ os) o c e one = by_test (same_path x.path at) refl (λ d. values_found os o d e (λ other d same. one other (contains_later x os other d) same))
    where
      by_test : (b : Bool) → same_path x.path at ≡ b → (Contains os o → values_at at os ≡ o.values) → cond b x.values (values_at at os) ≡ o.values
      by_test true is more = ap (λ (y : Opened). y.values) (one x (contains_first x os) ((path_decides x.path at).0 is))
      by_test false is more = elim (contains_cases x os o c) [
        | inl same ↦ absurd (true≢false (sym ((path_decides x.path at).1 (ap (λ (y : Opened). y.path) same ∙ e)) ∙ is))
        | inr d ↦ more d
      ]

-- ---- lists of variables

-- the names at places are those of the variables there
names_at_places : (compilation : Compilation) (places : List Place) → ((place : Place) → Contains places place → HasVariable compilation place)
    → map (text_at compilation) places ≡ map (λ (v : Binding Expression). lexeme v.name.token) (variables_at compilation places)
names_at_places compilation [] each = refl
names_at_places compilation (place ∷ others) each =
    let v = each place (contains_first place others) in
    let text : text_at compilation place ≡ lexeme v.0.name.token = ap (λ o. places.text_of (option_and_then places.name_of o)) v.1 in
    ap₂ (λ t ts. t ∷ ts) text (names_at_places compilation others (λ p c. each p (contains_later place others p c)))
    ∙ sym (ap (λ o. map (λ (b : Binding Expression). lexeme b.name.token) (cons_option (variable_of o) (variables_at compilation others))) v.1)

names_lent : (lent : List AssignmentRef) → map (λ (v : Binding Expression). lexeme v.name.token) (variables_in lent) ≡ map name_of lent
names_lent [] = refl
names_lent (x ∷ xs) = ap (λ l. name_of x ∷ l) (names_lent xs)

-- ---- what is held

or_none : (o : Option BoundRow) → option_or o None ≡ o
or_none None = refl
or_none (Some row) = refl

-- what is held of a name is among what is held
among_held : (name : Text) (hs : List Held) (value : Value) → held name hs ≡ Some value → (h : Held) × Contains hs h × (h.name ≡ name)
among_held name [] value e = absurd (none-some value e)
among_held name (h ∷ hs) value e = by_test (bytes_eq h.name name) refl e (λ f. among_held name hs value f)
  where
    by_test : (b : Bool) → bytes_eq h.name name ≡ b → cond b (Some h.value) (held name hs) ≡ Some value → (held name hs ≡ Some value → (g : Held) × Contains hs g × (g.name ≡ name)) → (g : Held) × Contains (h ∷ hs) g × (g.name ≡ name)
    by_test true is f later = (h, contains_first h hs, (bytes_eq-Decides h.name name).0 is)
    by_test false is f later = let r = later f in (r.0, contains_later h hs r.0 r.1, r.2)

module _ (w : World) (compilation : Compilation) (n : IsNumberedWorld w compilation) (given : List Override) (base : Text) (analysis : Analysis) (known : IsAnalysis compilation base given analysis)
    (k : ℕ) (here : ExecutionContext) (o : Opened) (alike : IsOpenAlike compilation analysis k here o) where
  abbrev pub path : List Text
  path = path_in compilation.modules.items k

  pub v : IsViewOf compilation.modules.items analysis.variables analysis.values.value k (seen here.module.now)
  v = view_parts compilation.modules.items analysis.variables analysis.values.value k (seen here.module.now) alike.view

  pub has : HasPath w (views w compilation) (nodes w compilation) k path
  has = has_own_path w compilation n.of k v.node v.here

  abbrev pub assignments : List AssignmentRef
  assignments = alike.lists.assignments.items

  pub kept_are : variables_in assignments ≡ variables_at compilation v.node.assignments.items
  kept_are = variables_here compilation base given analysis known k v.node alike.lists v.here alike.kept

  -- its view lists them
  pub listed : here.module.now.assignments.now ≡ assignments
  listed =
      listed_in compilation.modules.items analysis.variables analysis.values.value k (seen here.module.now) v
      ∙ ap (λ (l : ModuleLists). l.assignments.items) (same_Some v.lists alike.lists (sym v.kept ∙ alike.kept))

  -- the names that are defined in it are theirs
  pub names_are : names_at compilation path ≡ map name_of assignments
  names_are =
      ap (λ found. map (text_at compilation) (rows_of (λ (m : ModuleNode). m.assignments.items) (option_and_then (slice_get compilation.modules.items) found))) (leads_to w compilation n.of n.single k path has)
      ∙ ap (λ node. map (text_at compilation) (rows_of (λ (m : ModuleNode). m.assignments.items) node)) v.here
      ∙ names_at_places compilation v.node.assignments.items (variables_stand w compilation n.of k v.node v.here)
      ∙ ap (map (λ (b : Binding Expression). lexeme b.name.token)) (sym kept_are)
      ∙ names_lent assignments

  -- the row of a variable by its name
  pub variable_row : (lent : AssignmentRef) (c : Contains assignments lent)
      → kept.HasVariableRow w compilation n k v.node v.here path has assignments kept_are lent (key_at compilation (kept.stands w compilation n k v.node v.here path has assignments kept_are lent c).place)
  variable_row lent c = kept.variable_row w compilation n k v.node v.here path has assignments kept_are given lent c

  no_constant : (number : ℕ) → length constant_rows ≤ number → bound_in alike.constants number ≡ None
  no_constant number le = alike.language number ∙ ap (option_map (constant_binding number)) (beyond constant_rows number le)

  -- what its frames have at the number of a variable is held of its name
  pub looked_up : (lent : AssignmentRef) → Contains assignments lent → option_map (λ (row : BoundRow). row.value) (look_up here.scope.now (number_of lent)) ≡ held (name_of lent) o.values
  looked_up lent c =
      ap (λ outer. option_map (λ (row : BoundRow). row.value) (option_or (bound_in here.scope.now.own (number_of lent)) (found_in outer (number_of lent)))) alike.outer
      ∙ ap (λ last. option_map (λ (row : BoundRow). row.value) (option_or (bound_in here.scope.now.own (number_of lent)) (option_or last None)))
      (no_constant (number_of lent) (kept.above w compilation n k v.node v.here path has assignments kept_are lent c))
      ∙ ap (option_map (λ (row : BoundRow). row.value)) (or_none (bound_in here.scope.now.own (number_of lent)))
      ∙ alike.values lent c

  -- its frame and its values hold the same, where what is held is of its variables
  pub hold_alike : ((h : Held) → Contains o.values h → (lent : AssignmentRef) × Contains assignments lent × (name_of lent ≡ h.name)) → HoldAlike assignments here.module.now.settings.now.export here.scope.now.own o.values
  hold_alike only = record {
    same = alike.values;
    rows = alike.rows;
    once = alike.once;
    only = λ name value e.
        let h = among_held name o.values value e in
        let l = only h.0 h.1 in
        (l.0, l.1, l.2 ∙ h.2);
  }
