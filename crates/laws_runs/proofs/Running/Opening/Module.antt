-- The variables that a module keeps: their numbers, their rows and what is given for them.
use Rattle.std.proofs.Common.{◌≡◌, refl, sym, ◌∙◌, ap, subst, Bool, true, false, List, [], ◌∷◌, map, length, Option, Some, None, ℕ, ◌≤◌}
use Rattle.std.specs.Prelude.{Contains, ◌||◌, String, codes, slice_get}
use Rattle.std.specs.BTreeMap.{BTreeMap}
use Rattle.std.specs.List.{list_any}
use Rattle.std.specs.Option.{option_map, option_or}
use Rattle.std.proofs.lemmas.List.Elements.{All-contains}
use Rattle.std.proofs.lemmas.Option.{none-some, same_Some}
use Rattle.just_text.specs.Tokens.{lexeme}
use Rattle.just_value.specs.Constants.{constant_rows}
use Rattle.just_value.specs.declared.positional.Override.{Override}
use Rattle.tree_attributes.specs.declared.attribute.AttributeKind.{AttributeKind}
use Rattle.tree_attributes.specs.declared.attribute.AttributeKind.TheVariants.{Private}
use Rattle.tree_attributes.specs.Sets.Order.{item_shape as attribute_item_shape}
use Rattle.tree_attributes.specs.Sets.Sets.{is_of, items_of as attributes_in, shapes_in}
use Rattle.tree_attributes.specs.declared.attribute_item.AttributeItem.{AttributeItem}
use Rattle.tree_expressions.specs.Cutting.{begins}
use Rattle.tree_expressions.specs.Shape.{shape_of}
use Rattle.tree_expressions.specs.declared.expression.Expression.{Expression}
use Rattle.tree_items.specs.Contexts.{last_named}
use Rattle.tree_items.specs.Files.{item_shape}
use Rattle.tree_items.specs.Items.{assignment_shape}
use Rattle.tree_items.specs.declared.ast.Item.{Item}
use Rattle.tree_items.specs.declared.ast.Item.TheVariants.{Assignment}
use Rattle.tree_items.specs.declared.item.Binding.{Binding}
use Rattle.parse_expressions.specs.Literals.{IsCooked, from_file}
use Rattle.evaluate_context.specs.declared.context.AssignmentRef.{AssignmentRef}
use Rattle.evaluate_variables.specs.Opened.{overridden}
use Rattle.modules_compilation.specs.Places.{item_at, items_of}
use Rattle.modules_compilation.specs.declared.compilation.Compilation.{Compilation}
use Rattle.modules_compilation.specs.declared.module_node.File.{File}
use Rattle.modules_compilation.specs.declared.module_node.ModuleNode.{ModuleNode}
use Rattle.modules_compilation.specs.declared.place.Place.{Place}
use Rattle.resolve_references.specs.References.{references_of}
use Rattle.resolve_references.specs.Seen.{Seen, seeing, seen_in}
use Rattle.resolve_references.specs.declared.references.Reference.{Reference}
use Rattle.resolve_references.specs.declared.references.Reference.TheVariants.{Call, Variable}
use Rattle.resolve_analysis.specs.Bound.{binding_number, bindings_of, constant_number}
use Rattle.resolve_analysis.specs.Lists.{variable_of, variables_at, variables_in}
use Rattle.resolve_analysis.specs.Overriding.{text_given}
use Rattle.just_resolve.specs.Overrides.{AreGiven}
use Rattle.meaning_dialogues.specs.Terms.{term_of}
use Rattle.meaning_dialogues.proofs.Soundness.{Each}
use Rattle.laws_evaluation.proofs.Opening.Names.{AnyCall}
use Rattle.meaning_rules.specs.Worlds.Compiled.{HasPath}
use Rattle.meaning_rules.specs.Worlds.Given.{Text, World}
use Rattle.meaning_rules.specs.Worlds.Keeping.{KeepsAt, a_variable}
use Rattle.meaning_rules.proofs.Worlds.Places.{contains_at, contains_first, place_of}
use Rattle.meaning_rules.specs.Overriding.{IsOverriddenBy}
use Rattle.meaning_rules.specs.Rules.{has}
use Rattle.laws_modules.specs.Names.Names.{HasNode, nodes, views}
use Rattle.laws_modules.proofs.Names.Found.{mapped}
use Rattle.laws_modules.proofs.Names.Modules.{module_at, one_module}
use Rattle.laws_names.specs.Overriding.Texts.{IsGivenBy}
use Rattle.meaning_rules.specs.Overrides.{overrides_of}
use Rattle.laws_names.proofs.Overriding.Texts.{given_texts_override}
use Rattle.laws_names.specs.Reading.Meant.{AreSeenCooked, IsNumberedWorld}
use Rattle.laws_names.specs.Reading.Places.{IsItemOf}
use Rattle.laws_names.proofs.Reading.Bindings.{above_constants, bound_in, own_item}
use Rattle.laws_names.proofs.Reading.Kept.{IsKept}
use Rattle.laws_names.proofs.Reading.Module.{is_node, variable_kept, variable_once, variables}
use Rattle.laws_names.proofs.Reading.Numbers.{number_of as number_meant}
use Rattle.laws_names.specs.Constants.Sought.{IsSettledModule}
use Rattle.laws_names.proofs.Constants.Kept.{number_once}
use Rattle.meaning_evaluation.specs.Named.{VariableRow}
use Rattle.just_meaning.specs.Defining.{IsVariableRow, is_private}
use Rattle.just_meaning.specs.Opening.{named}
use Rattle.laws_runs.specs.Resolved.Definitions.{key_at, key_of, override_of, variable_named}
use Rattle.laws_runs.proofs.Resolved.Listed.{IsListed, listed as listed_there}
use Rattle.laws_runs.proofs.Resolved.Overrides.{overrides_stand}
use Rattle.laws_runs.proofs.Resolved.Variables.{variables_stand}
use Rattle.laws_runs.proofs.Views.Terms.{IsSo, each_so}
use Rattle.laws_runs.proofs.Running.Opening.Reading.{numbered}
use Rattle.laws_runs.proofs.Running.Opening.Values.{AreApart, name_of, number_of}

-- the expressions of an item that stands at a place are cooked in the file there
pub cooked_there : (w : World) (compilation : Compilation) → IsNumberedWorld w compilation → (place : Place) (item : Item) → item_at compilation place ≡ Some item
    → (s : Seen) → Contains (seen_in item) s → IsCooked (from_file (key_at compilation place) w.expansion) s.expression
cooked_there w compilation n place item there s c = by_file (slice_get compilation.files.items place.file) refl there
  where
    by_file : (o : Option File) → slice_get compilation.files.items place.file ≡ o → slice_get (items_of o) place.item ≡ Some item → IsCooked (from_file (key_of (slice_get compilation.files.items place.file)) w.expansion) s.expression
    by_file None is e = absurd (none-some item e)
    by_file (Some file) is e =
        let cooked = All-contains (AreSeenCooked (from_file file.key.now w.expansion)) file.ast.items.items item (n.cooked place.file file is) (contains_at file.ast.items.items place.item item e) in
        subst (λ o. IsCooked (from_file (key_of o) w.expansion) s.expression) (sym is) (All-contains (λ (s : Seen). IsCooked (from_file file.key.now w.expansion) s.expression) (seen_in item) s cooked c)

-- whether there is an attribute of a kind, by places and by shapes
attribute_there : (kind : AttributeKind) (items : List AttributeItem) → list_any (is_of kind) items ≡ has kind (map attribute_item_shape items)
attribute_there kind [] = refl
attribute_there kind (item ∷ items) = ap (λ b. is_of kind item || b) (attribute_there kind items)

or_turned : (a b : Bool) → (a || b) ≡ (b || a)
or_turned true true = refl
or_turned true false = refl
or_turned false true = refl
or_turned false false = refl

module _ (w : World) (compilation : Compilation) (n : IsNumberedWorld w compilation) (k : ℕ) (node : ModuleNode) (here : HasNode w compilation k node) (path : List Text) (has : HasPath w (views w compilation) (nodes w compilation) k path)
    (assignments : List AssignmentRef) (kept : variables_in assignments ≡ variables_at compilation node.assignments.items) where
  abbrev vs : List (Binding Expression)
  vs = variables w compilation n k node here

  abbrev settled_here : IsSettledModule w compilation k node path
  settled_here = record { numbered = n; here = here; has_path = has }

  -- a variable of the module stands at a place of its list
  pub record StandsAt (lent : AssignmentRef) : Type 0 where
    pub i : ℕ
    pub at : slice_get assignments i ≡ Some lent
    pub variable : slice_get vs i ≡ Some lent.assignment.now
    pub place : Place
    pub listed : slice_get node.assignments.items i ≡ Some place
    pub is_kept : IsKept w compilation node a_variable (name_of lent) place (Assignment lent.assignment.now)
    pub there : IsListed w compilation node a_variable (name_of lent) place

  pub variable_here : (i : ℕ) (lent : AssignmentRef) → slice_get assignments i ≡ Some lent → slice_get (variables_at compilation node.assignments.items) i ≡ Some lent.assignment.now
  variable_here i lent e = ap (λ l. slice_get l i) (sym kept) ∙ mapped (λ (x : AssignmentRef). x.assignment.now) assignments i lent e

  pub at_index : (i : ℕ) (lent : AssignmentRef) → slice_get assignments i ≡ Some lent → StandsAt lent
  at_index i lent e =
      let v : slice_get vs i ≡ Some lent.assignment.now = variable_here i lent e in
      let r = variable_kept w compilation n k node here i lent.assignment.now v in
      record {
        i = i;
        at = e;
        variable = v;
        place = r.0;
        listed = r.1;
        is_kept = r.3;
        there = listed_there w compilation n.of k node here a_variable node.assignments.items (is_node w compilation n k node here).assignments i (name_of lent) r.0 r.2 r.1;
      }

  pub stands : (lent : AssignmentRef) → Contains assignments lent → StandsAt lent
  stands lent c = let p = place_of assignments lent c in at_index p.0 lent p.1

  -- ---- numbers

  -- no number is a constant's
  pub above : (lent : AssignmentRef) → Contains assignments lent → length constant_rows ≤ number_of lent
  above lent c = let s = stands lent c in above_constants w compilation n s.place (Assignment lent.assignment.now) s.is_kept.there (number_of lent) (contains_first (number_of lent) [])

  -- two at places of the list stand at one where they have one name, or one number
  pub one_by_name : (i j : ℕ) (lent other : AssignmentRef) → slice_get assignments i ≡ Some lent → slice_get assignments j ≡ Some other → name_of lent ≡ name_of other → i ≡ j
  one_by_name i j lent other e f same = variable_once w compilation n k node here i j lent.assignment.now other.assignment.now (variable_here i lent e) (variable_here j other f) same

  pub one_by_number : (i j : ℕ) (lent other : AssignmentRef) → slice_get assignments i ≡ Some lent → slice_get assignments j ≡ Some other → number_of lent ≡ number_of other → i ≡ j
  one_by_number i j lent other e f same = number_once w compilation k node path settled_here i j lent.assignment.now other.assignment.now (variable_here i lent e) (variable_here j other f) same

  pub apart : (export : Bool) → AreApart assignments export
  apart export = record {
    numbers = λ lent other c d same.
        let p = place_of assignments lent c in
        let q = place_of assignments other d in
        let one = one_by_name p.0 q.0 lent other p.1 q.1 same in
        ap number_of (same_Some lent other (sym p.1 ∙ ap (slice_get assignments) one ∙ q.1));
    names = λ lent other c d same.
        let p = place_of assignments lent c in
        let q = place_of assignments other d in
        let one = one_by_number p.0 q.0 lent other p.1 q.1 same in
        ap name_of (same_Some lent other (sym p.1 ∙ ap (slice_get assignments) one ∙ q.1));
  }

  pairs_same : (xs : List AssignmentRef) → map binding_number (variables_in xs) ≡ map (λ lent. (name_of lent, number_of lent)) xs
  pairs_same [] = refl
  pairs_same (x ∷ xs) = ap (λ l. (name_of x, number_of x) ∷ l) (pairs_same xs)

  -- the number that a name has in the module's expressions
  pub numbered_same : (name : Text) → bindings_of compilation node name ≡ numbered assignments name
  numbered_same name = ap (λ l. option_or (last_named name l) (constant_number name)) (ap (map binding_number) (sym kept) ∙ pairs_same assignments)

  -- ---- right sides

  -- each variable of a right side has the number of its name
  pub side_numbers : (lent : AssignmentRef) → Contains assignments lent → Each (λ x. x.number ≡ numbered assignments x.name) AnyCall (term_of lent.assignment.now.value)
  side_numbers lent c = each_so (λ x. x.number ≡ numbered assignments x.name) AnyCall lent.assignment.now.value so
    where
      s : StandsAt lent
      s = stands lent c

      e : Seen
      e = seeing [] lent.assignment.now.value

      item : IsItemOf compilation node (Assignment lent.assignment.now)
      item = record { place = s.place; from = s.is_kept.from; to = s.is_kept.to; there = s.is_kept.there }

      so : (r : Reference) → Contains (references_of lent.assignment.now.value) r → IsSo (λ x. x.number ≡ numbered assignments x.name) AnyCall r
      so (Call name arguments) d = tt
      so (Variable name number) d =
          number_meant (bindings_of compilation node) (seeing [] lent.assignment.now.value) (bound_in w compilation n k node here (Assignment lent.assignment.now) item (seeing [] lent.assignment.now.value) (contains_first (seeing [] lent.assignment.now.value) [])) name number d
          ∙ numbered_same (lexeme name.token)

  pub side_cooked : (lent : AssignmentRef) (c : Contains assignments lent) → IsCooked (from_file (key_at compilation (stands lent c).place) w.expansion) lent.assignment.now.value
  side_cooked lent c =
      let s = stands lent c in
      cooked_there w compilation n s.place (Assignment lent.assignment.now) s.is_kept.there (seeing [] lent.assignment.now.value) (contains_first (seeing [] lent.assignment.now.value) [])

  -- ---- rows and overrides

  -- the row of the variable by its name
  pub record HasVariableRow (lent : AssignmentRef) (key : Text) : Type 0 where
    pub row : VariableRow
    pub is : variable_named compilation (named path (name_of lent)) ≡ Some row
    pub file : row.file ≡ key
    pub value : row.value ≡ shape_of lent.assignment.now.value
    pub export : row.export ≡ lent.assignment.now.export
    pub eager : row.eager ≡ lent.assignment.now.eager
    pub private : row.private ≡ lent.assignment.now.private

  module _ (given : List Override) where
    pub variable_row : (lent : AssignmentRef) (c : Contains assignments lent) → HasVariableRow lent (key_at compilation (stands lent c).place)
    variable_row lent c =
        let s = stands lent c in
        let shape : s.there.item ≡ item_shape (Assignment lent.assignment.now) = same_Some _ _ (sym s.there.shaped ∙ ap (option_map item_shape) s.is_kept.there) in
        let row : VariableRow = record {
          file = s.there.key;
          value = shape_of lent.assignment.now.value;
          export = lent.assignment.now.export;
          eager = lent.assignment.now.eager;
          private = is_private (shapes_in lent.assignment.now.attributes) (name_of lent);
        } in
        let of_world : IsVariableRow w (overrides_of given) (named path (name_of lent)) row = record {
          own = node.source.now;
          is = module_at w compilation n.of k node path here has;
          key = s.there.key;
          place = s.there.at;
          attributes = shapes_in lent.assignment.now.attributes;
          shape = assignment_shape lent.assignment.now;
          kept = subst (KeepsAt w node.source.now a_variable (name_of lent) s.there.key s.there.at) shape s.there.keeps;
          says = refl;
        } in
        record {
          row = row;
          is = (variables_stand w compilation n.of n.single (overrides_of given) (named path (name_of lent)) row).1 of_world;
          file = sym s.there.keyed;
          value = refl;
          export = refl;
          eager = refl;
          private =
              let own = own_item w compilation n s.place (Assignment lent.assignment.now) s.is_kept.there in
              let attributes = attributes_in lent.assignment.now.attributes in
              ap (λ b. b || begins (name_of lent) (codes "_")) (sym (attribute_there Private attributes))
              ∙ or_turned (list_any (is_of Private) attributes) (begins (name_of lent) (codes "_"))
              ∙ sym own.private;
        }

    -- its override by its name is that of its number
    module _ {A : Type 0} (overrides : BTreeMap ℕ (String A)) (are : AreGiven compilation given overrides) where
      pub override_same : (lent : AssignmentRef) → Contains assignments lent → override_of compilation (overrides_of given) (named path (name_of lent)) ≡ overridden overrides (number_of lent)
      override_same lent c =
          by_text (text_given compilation given (number_of lent)) refl
          (given_texts_override w compilation n.of n.single k node path here has (stands lent c).place lent.assignment.now (contains_at node.assignments.items (stands lent c).i (stands lent c).place (stands lent c).listed)
          (ap variable_of (stands lent c).is_kept.there) given)
          ∙ sym (are.texts (number_of lent))
        where
          refused : ((text : Text) → IsOverriddenBy w (overrides_of given) path node.source.now (name_of lent) text → ⊥) → (o : Option Text) → override_of compilation (overrides_of given) (named path (name_of lent)) ≡ o → o ≡ None
          refused none None e = refl
          refused none (Some text) e =
              let h = (overrides_stand w compilation n.of n.single (overrides_of given) (named path (name_of lent)) text).0 e in
              let own = one_module w compilation n.of n.single k node path here has h.own h.overridden.names.is in
              absurd (none text (subst (λ q. IsOverriddenBy w (overrides_of given) path q (name_of lent) text) own h.overridden))

          by_text : (t : Option Text) → text_given compilation given (number_of lent) ≡ t → IsGivenBy w (overrides_of given) path node.source.now (name_of lent) (text_given compilation given (number_of lent))
              → override_of compilation (overrides_of given) (named path (name_of lent)) ≡ text_given compilation given (number_of lent)
          by_text (Some text) is g =
              (overrides_stand w compilation n.of n.single (overrides_of given) (named path (name_of lent)) text).1 (record { own = node.source.now; overridden = subst (IsGivenBy w (overrides_of given) path node.source.now (name_of lent)) is g })
              ∙ sym is
          by_text None is g =
              let none : IsGivenBy w (overrides_of given) path node.source.now (name_of lent) None = subst (IsGivenBy w (overrides_of given) path node.source.now (name_of lent)) is g in
              refused none (override_of compilation (overrides_of given) (named path (name_of lent))) refl ∙ sym is
