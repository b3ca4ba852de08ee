-- The variables that a module keeps, by their places and names.
use Rattle.std.proofs.Common.{◌≡◌, sym, ◌∙◌, ap, subst, Bool, true, false, if◌then◌else◌, List, ℕ, Option, Some, None, refl, arith, true≢false}
use Rattle.std.specs.Prelude.{slice_get}
use Rattle.std.specs.Option.{option_and_then}
use Rattle.std.specs.Str.{bytes_eq}
use Rattle.std.proofs.lemmas.Cmp.{nat_list_cmp_total}
use Rattle.std.proofs.lemmas.Option.{none-some, same_Some, slice_get_within}
use Rattle.std.proofs.lemmas.Slice.Eq.{bytes_eq-Decides}
use Rattle.just_text.specs.Tokens.{lexeme}
use Rattle.just_text.specs.declared.os.Os.{Os}
use Rattle.tree_expressions.specs.declared.expression.Expression.{Expression}
use Rattle.tree_attributes.specs.Sets.Sets.{shapes_in}
use Rattle.tree_items.specs.Files.{item_shape}
use Rattle.tree_items.specs.declared.ast.Item.{Item}
use Rattle.tree_items.specs.declared.ast.Item.TheVariants.{Alias, Assignment, Comment, Function, Import, Module, Newline, Recipe, Set, Unexport}
use Rattle.tree_items.specs.declared.item.Binding.{Binding}
use Rattle.modules_compilation.specs.Places.{item_at, name_of, text_of}
use Rattle.modules_compilation.specs.declared.compilation.Compilation.{Compilation}
use Rattle.modules_compilation.specs.declared.module_node.ModuleNode.{ModuleNode}
use Rattle.modules_compilation.specs.declared.place.Place.{Place}
use Rattle.resolve_recipes.specs.Leading.{variable_of}
use Rattle.resolve_recipes.specs.Named.{text_at}
use Rattle.resolve_analysis.specs.Lists as lists
use Rattle.meaning_rules.specs.Worlds.Given.{Text, World}
use Rattle.meaning_rules.specs.Worlds.Keeping.{IsDefined, Kind, a_recipe, an_alias, a_function, a_setting, a_submodule, a_variable, an_unexport, defined_by, KeepsAt}
use Rattle.meaning_rules.specs.Worlds.Sources.{enabled}
use Rattle.meaning_rules.specs.Worlds.Compiled.{IsAt, IsList}
use Rattle.meaning_rules.proofs.Worlds.Places.{contains_at, place_of}
use Rattle.meaning_rules.specs.Worlds.Views.{node_view}
use Rattle.laws_modules.specs.Names.Names.{HasNode, IsOfWorld, nodes, views}
use Rattle.laws_modules.proofs.Names.Defined.{none_defined}
use Rattle.laws_modules.proofs.Names.Found.{found_at, none_found, there_within}
use Rattle.laws_modules.proofs.Names.Named.{node_is}
use Rattle.laws_modules.proofs.Names.Standing.{item_there}
use Rattle.laws_names.specs.Overriding.Variables.{KeepsVariable}
use Rattle.laws_names.proofs.Overriding.Numbers.{assignment_of}
use Rattle.laws_names.proofs.Overriding.Places.{one_place}

module _ (name : Text) where
  abbrev said : Kind → Text → Option (Kind × Text)
  said kind text = Some (kind, text)

  other_kind : (kind : Kind) (text : Text) → said kind text ≡ said a_variable name → kind ≡ a_variable
  other_kind kind text e = ap (λ (p : Kind × Text). p.0) (same_Some (kind, text) (a_variable, name) e)

  other_if : (b : Bool) (kind : Kind) (text : Text) → (if b then said kind text else None) ≡ said a_variable name → (kind ≡ a_variable → ⊥) → ⊥
  other_if true kind text e other = other (other_kind kind text e)
  other_if false kind text e other = none-some (a_variable, name) e

  named_if : (b : Bool) (text : Text) → (if b then said a_variable text else None) ≡ said a_variable name → text ≡ name
  named_if true text e = ap (λ (p : Kind × Text). p.1) (same_Some (a_variable, text) (a_variable, name) e)
  named_if false text e = absurd (none-some (a_variable, name) e)

-- what defines a variable is an assignment
is_variable : (os : Os) (item : Item) (name : Text) → defined_by os (item_shape item) ≡ Some (a_variable, name) → (variable : Binding Expression) × (item ≡ Assignment variable) × (lexeme variable.name.token ≡ name)
is_variable os (Alias a) name e = let k = other_kind name an_alias (lexeme a.name.token) e in absurd (cc k)
is_variable os (Assignment a) name e = (a, refl, named_if name (enabled os (shapes_in a.attributes)) (lexeme a.name.token) e)
is_variable os (Comment text) name e = absurd (none-some (a_variable, name) e)
is_variable os (Function f) name e = let k = other_kind name a_function (lexeme f.name.token) e in absurd (cc k)
is_variable os (Import i) name e = absurd (none-some (a_variable, name) e)
is_variable os (Module m) name e = absurd (other_if name (enabled os (shapes_in m.attributes)) a_submodule (lexeme m.name.token) e (λ s. cc s))
is_variable os Newline name e = absurd (none-some (a_variable, name) e)
is_variable os (Recipe r) name e = absurd (other_if name (enabled os (shapes_in r.attributes)) a_recipe (lexeme r.name.token) e (λ s. cc s))
is_variable os (Set s) name e = absurd (other_if name (enabled os (shapes_in s.attributes)) a_setting (lexeme s.name.token) e (λ s. cc s))
is_variable os (Unexport u) name e = let k = other_kind name an_unexport (lexeme u.name.token) e in absurd (cc k)

module _ (w : World) (compilation : Compilation) (is : IsOfWorld w compilation) (k : ℕ) (node : ModuleNode) (here : HasNode w compilation k node) where
  abbrev names : List Text
  names = (node_is w compilation is k node here).assignments.0

  abbrev variables : IsList w (views w compilation) (nodes w compilation) (node_view node) a_variable names node.assignments.items
  variables = (node_is w compilation is k node here).assignments.1

  -- the variable that stands at a place of the list has the name there
  listed : (n : ℕ) (name : Text) (place : Place) → slice_get names n ≡ Some name → slice_get node.assignments.items n ≡ Some place → KeepsVariable w compilation node name place
  listed n name place e f =
      let s = variables.sound n name place e f in
      let i = item_there w compilation (node_view node) place s.0 s.1 s.2 s.3 in
      let v = is_variable w.os i.0 name (ap (defined_by w.os) i.2 ∙ s.4.defines.is) in
      let shape : s.2 ≡ item_shape (Assignment v.0) = sym i.2 ∙ ap item_shape v.1 in
      record {
        listed = contains_at node.assignments.items n place f;
        variable = v.0;
        stands = ap lists.variable_of (i.1 ∙ ap (λ (x : Item). Some x) v.1);
        is_named = v.2;
        key = s.0;
        at = s.1;
        there = subst (IsAt w (views w compilation) (nodes w compilation) (node_view node) place s.0 s.1) shape s.3;
        keeps = subst (KeepsAt w node.source.now a_variable name s.0 s.1) shape s.4;
      }

  -- a place of the list has a variable of some name
  pub listed_at : (n : ℕ) (place : Place) → slice_get node.assignments.items n ≡ Some place → (name : Text) × (slice_get names n ≡ Some name) × KeepsVariable w compilation node name place
  listed_at n place e =
      let lt = slice_get_within node.assignments.items n place e in
      let many = variables.many in
      let t = there_within names n (omega (arith, lt, many)) in
      (t.0, t.1, listed n t.0 place t.1 e)

  -- a name of the list has a variable at some place
  named_at : (n : ℕ) (name : Text) → slice_get names n ≡ Some name → (place : Place) × (slice_get node.assignments.items n ≡ Some place) × KeepsVariable w compilation node name place
  named_at n name e =
      let lt = slice_get_within names n name e in
      let many = variables.many in
      let t = there_within node.assignments.items n (omega (arith, lt, many)) in
      (t.0, t.1, listed n name t.0 e t.1)

  -- the text at the place is the variable's name
  text_is : (name : Text) (place : Place) → KeepsVariable w compilation node name place → text_at compilation place ≡ name
  text_is name place h = by_item (item_at compilation place) h.stands ∙ h.is_named
    where
      by_item : (o : Option Item) → lists.variable_of o ≡ Some h.variable → text_of (option_and_then name_of o) ≡ lexeme h.variable.name.token
      by_item o e = ap (λ o. text_of (option_and_then name_of o)) (assignment_of o h.variable e)

  -- a module keeps one variable of a name at one place of the list
  pub one_kept : (name : Text) (p q : Place) → KeepsVariable w compilation node name p → KeepsVariable w compilation node name q → p ≡ q
  one_kept name p q h g =
      let i = place_of node.assignments.items p h.listed in
      let j = place_of node.assignments.items q g.listed in
      let a = listed_at i.0 p i.1 in
      let b = listed_at j.0 q j.1 in
      let first : a.0 ≡ name = sym (text_is a.0 p a.2) ∙ text_is name p h in
      let second : b.0 ≡ name = sym (text_is b.0 q b.2) ∙ text_is name q g in
      let places = one_place nat_list_cmp_total names i.0 j.0 name variables.sorted (a.1 ∙ ap (λ (t : Text). Some t) first) (b.1 ∙ ap (λ (t : Text). Some t) second) in
      same_Some p q (sym i.1 ∙ ap (slice_get node.assignments.items) places ∙ j.1)

  -- the place of the variable that the module keeps, or none where it defines none
  abbrev pub IsKept : Text → Option Place → Type 0
  IsKept name (Some place) = KeepsVariable w compilation node name place
  IsKept name None = IsDefined w node.source.now a_variable name → ⊥

  pub kept_is : (name : Text) (found : Option Place) → variable_of compilation (Some node) name ≡ found → IsKept name found
  kept_is name (Some place) e =
      let f = found_at (λ p. bytes_eq (text_at compilation p) name) node.assignments.items place e in
      let l = listed_at f.0 place f.1 in
      let same : l.0 ≡ name = sym (text_is l.0 place l.2) ∙ (bytes_eq-Decides (text_at compilation place) name).0 f.2 in
      subst (λ t. KeepsVariable w compilation node t place) same l.2
  kept_is name None e = none_defined w node.source.now a_variable name _ (node_is w compilation is k node here).own_files.order (λ item h.
      let p = place_of names name (variables.complete name item h) in
      let q = named_at p.0 name p.1 in
      let no_text = none_found (λ p. bytes_eq (text_at compilation p) name) node.assignments.items e p.0 q.0 q.1 in
      true≢false (sym ((bytes_eq-Decides (text_at compilation q.0) name).1 (text_is name q.0 q.2)) ∙ no_text))
