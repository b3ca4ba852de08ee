-- The variables of a module by their names: in a list, and at places.
use Rattle.std.proofs.Common.{◌≡◌, sym, ◌∙◌, ap, Bool, true, false, cond, List, [], ◌∷◌, ℕ, Option, Some, None, refl}
use Rattle.std.specs.Prelude.{Contains, find}
use Rattle.std.specs.List.{cons_option}
use Rattle.std.specs.Option.{option_and_then, option_map}
use Rattle.std.specs.Str.{bytes_eq}
use Rattle.std.proofs.lemmas.Option.{none-some, same_Some}
use Rattle.just_text.specs.Tokens.{lexeme}
use Rattle.tree_attributes.specs.Attributes.{AttributeShape}
use Rattle.tree_attributes.specs.Sets.Sets.{shapes_in}
use Rattle.tree_expressions.specs.declared.expression.Expression.{Expression}
use Rattle.tree_items.specs.Files.{assignment_item, item_shape}
use Rattle.tree_items.specs.Items.{AssignmentShape, assignment_shape}
use Rattle.tree_items.specs.declared.ast.Item.{Item}
use Rattle.tree_items.specs.declared.ast.Item.TheVariants.{Alias, Assignment, Comment, Function, Import, Module, Newline, Recipe, Set, Unexport}
use Rattle.tree_items.specs.declared.item.Binding.{Binding}
use Rattle.modules_compilation.specs.Places.{item_at, name_of, text_of}
use Rattle.modules_compilation.specs.declared.compilation.Compilation.{Compilation}
use Rattle.modules_compilation.specs.declared.module_node.ModuleNode.{ModuleNode}
use Rattle.modules_compilation.specs.declared.place.Place.{Place}
use Rattle.resolve_recipes.specs.Named.{first_named, text_at}
use Rattle.evaluate_context.specs.declared.context.AssignmentRef.{AssignmentRef}
use Rattle.resolve_analysis.specs.Lists.{variable_at, variables_at, variables_in}
use Rattle.resolve_analysis.specs.Lists.{variable_of as binding_of}
use Rattle.justfile_analyzer.specs.Targets.{has_name, number_named}
use Rattle.meaning_rules.specs.Worlds.Given.{Text, World}
use Rattle.meaning_rules.specs.Worlds.Keeping.{a_variable}
use Rattle.meaning_rules.proofs.Worlds.Places.{contains_first, contains_later}
use Rattle.laws_modules.specs.Names.Names.{HasNode, IsOfWorld}
use Rattle.laws_modules.proofs.Names.Named.{node_is}
use Rattle.meaning_evaluation.specs.Named.{VariableRow}
use Rattle.just_meaning.specs.Defining.{is_private}
use Rattle.laws_runs.specs.Resolved.Definitions.{variable_of}
use Rattle.laws_runs.proofs.Resolved.Items.{is_item}
use Rattle.laws_runs.proofs.Resolved.Listed.{listed_at}

-- ---- assignments

-- an item of the shape of an assignment is one
shaped : (item : Item) (attributes : List AttributeShape) (a : AssignmentShape) → item_shape item ≡ assignment_item attributes a → (variable : Binding Expression) × (item ≡ Assignment variable)
shaped (Alias b) attributes a e = absurd (cc e)
shaped (Assignment b) attributes a e = (b, refl)
shaped (Comment text) attributes a e = absurd (cc e)
shaped (Function f) attributes a e = absurd (cc e)
shaped (Import i) attributes a e = absurd (cc e)
shaped (Module m) attributes a e = absurd (cc e)
shaped Newline attributes a e = absurd (cc e)
shaped (Recipe r) attributes a e = absurd (cc e)
shaped (Set s) attributes a e = absurd (cc e)
shaped (Unexport u) attributes a e = absurd (cc e)

there_shaped : (o : Option Item) (attributes : List AttributeShape) (a : AssignmentShape) → option_map item_shape o ≡ Some (assignment_item attributes a) → (variable : Binding Expression) × (o ≡ Some (Assignment variable))
there_shaped None attributes a e = absurd (none-some (assignment_item attributes a) e)
there_shaped (Some item) attributes a e =
    let s = shaped item attributes a (same_Some (item_shape item) (assignment_item attributes a) e) in
    (s.0, ap (λ i. Some i) s.1)

-- it has a row
pub has_row : (key : Text) (variable : Binding Expression) → (row : VariableRow) × (variable_of key (Some (item_shape (Assignment variable))) ≡ Some row)
has_row key variable =
    let a : AssignmentShape = assignment_shape variable in
    (record { file = key; value = a.value; export = a.export; eager = a.eager; private = is_private (shapes_in variable.attributes) a.name }, refl)

-- a variable stands at the place
abbrev pub HasVariable : Compilation → Place → Type 0
HasVariable compilation place = (variable : Binding Expression) × (item_at compilation place ≡ Some (Assignment variable))

-- at each place of a module's variables one stands
pub variables_stand : (w : World) (compilation : Compilation) (is : IsOfWorld w compilation) (k : ℕ) (node : ModuleNode) → HasNode w compilation k node → (place : Place) → Contains node.assignments.items place → HasVariable compilation place
variables_stand w compilation is k node here place c =
    let l = listed_at w compilation is k node here a_variable node.assignments.items (node_is w compilation is k node here).assignments place c in
    let v = is_item a_variable l.0 w.os l.1.item l.1.keeps.defines.is in
    there_shaped (item_at compilation place) v.0 v.1 (l.1.shaped ∙ ap (λ i. Some i) v.2)

-- ---- the first of a name

module _ (name : Text) where
  abbrev pub is_named : Binding Expression → Bool
  is_named variable = bytes_eq (lexeme variable.name.token) name

  abbrev pub number_in : Option (Binding Expression) → Option ℕ
  number_in found = option_map (λ variable. variable.number) found

  -- the number in a list is that of the first variable of the name
  pub lent_number : (list : List AssignmentRef) → number_named list name ≡ number_in (find is_named (variables_in list))
  lent_number [] = refl
  lent_number (lent ∷ list) = by_test (is_named lent.assignment.now) (lent_number list)
    where
      by_test : (b : Bool) → number_named list name ≡ number_in (find is_named (variables_in list))
          → option_map (λ lent. lent.assignment.now.number) (cond b (Some lent) (find (has_name name) list)) ≡ number_in (cond b (Some lent.assignment.now) (find is_named (variables_in list)))
      by_test true later = refl
      by_test false later = later

  module _ (compilation : Compilation) where
    one_more : (place : Place) (variable : Binding Expression) (b c : Bool) (rest : Option (Binding Expression)) (found : Option Place)
        → b ≡ c → variable_at compilation place ≡ Some variable → rest ≡ option_and_then (variable_at compilation) found
        → cond b (Some variable) rest ≡ option_and_then (variable_at compilation) (cond c (Some place) found)
    one_more place variable true true rest found same there later = sym there
    one_more place variable true false rest found same there later = absurd (cc same)
    one_more place variable false true rest found same there later = absurd (cc same)
    one_more place variable false false rest found same there later = later

    -- which is the one at the first place of the name
    pub first_there : (places : List Place) → ((place : Place) → Contains places place → HasVariable compilation place)
        → find is_named (variables_at compilation places) ≡ option_and_then (variable_at compilation) (first_named (text_at compilation) places name)
    first_there [] each = refl
    first_there (place ∷ places) each =
        let v = each place (contains_first place places) in
        let text : text_at compilation place ≡ lexeme v.0.name.token = ap (λ o. text_of (option_and_then name_of o)) v.1 in
        ap (λ o. find is_named (cons_option (binding_of o) (variables_at compilation places))) v.1
        ∙ one_more place v.0 (is_named v.0) (bytes_eq (text_at compilation place) name) (find is_named (variables_at compilation places)) (first_named (text_at compilation) places name)
        (ap (λ t. bytes_eq t name) (sym text)) (ap binding_of v.1) (first_there places (λ p c. each p (contains_later place places p c)))
