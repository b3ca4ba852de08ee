-- Settings that read or call what is not there, or are refused with their constants.
use Rattle.std.proofs.Common.{◌≡◌, ◌∙◌, ℕ, List, [], ◌∷◌, flat_map, Result, Ok, Err, String, inr, refl, subst, sym, ap}
use Rattle.std.specs.Prelude.{Contains}
use Rattle.std.specs.BTreeMap.{BTreeMap}
use Rattle.tree_items.specs.declared.ast.Item.TheVariants as items
use Rattle.tree_items.specs.declared.set.Set.{Set}
use Rattle.just_value.specs.declared.positional.Override.{Override}
use Rattle.evaluate_context.specs.Refusals.{fault_of}
use Rattle.modules_compilation.specs.Places.{item_at}
use Rattle.modules_compilation.specs.declared.compilation.Compilation.{Compilation}
use Rattle.modules_compilation.specs.declared.module_node.ModuleNode.{ModuleNode}
use Rattle.resolve_references.specs.ItemReferences.{references_of_set}
use Rattle.resolve_references.specs.Places.{places_before, places_of}
use Rattle.resolve_references.specs.declared.read_fault.ReadFault.{ReadFault}
use Rattle.resolve_references.specs.declared.variable_resolver.VariableResolver.{VariableResolver}
use Rattle.resolve_analysis.specs.Lists.{kept_by}
use Rattle.resolve_analysis.specs.Reads.{IsResolverOf}
use Rattle.resolve_analysis.specs.declared.variables.ModuleVariables.{ModuleVariables}
use Rattle.meaning_rules.specs.Worlds.Given.{Overrides, World}
use Rattle.meaning_rules.proofs.Worlds.Places.{contains_first, contains_later}
use Rattle.laws_modules.specs.Names.Names.{HasNode}
use Rattle.meaning_rules.specs.Overrides.{overrides_of}
use Rattle.laws_names.specs.Reading.Meant.{IsNumberedWorld}
use Rattle.laws_names.specs.Reading.Told.{KeepsItem}
use Rattle.just_resolve.specs.Faults.{reading_error}
use Rattle.just_resolve.specs.Overrides.{AreGiven}
use Rattle.just_resolve.specs.Rules.{IsNamed, IsResolvable}
use Rattle.just_resolve.specs.Settling.{AreUnknown, AreUnsettled, evaluated, reading, set_at, sets_at}
use Rattle.just_resolve.specs.Variables.{AreVariables}
use Rattle.just_resolve.specs.declared.error.Error.{Error}
use Rattle.just_resolve.proofs.Constants.{unsettled_broken}
use Rattle.just_resolve.proofs.Keeping.{resolver_is, there}
use Rattle.just_resolve.proofs.Laws.{Laws}
use Rattle.just_resolve.proofs.Naming.{constant_named, reading_named}
use Rattle.just_resolve.proofs.Reading.{both_read, first_refused}
use Rattle.just_resolve.proofs.Refusing.{kept_comes}
use Rattle.just_resolve.proofs.Standing.{set_there}

-- ---- which setting is refused

rest_refused : (row : List ℕ) (others : Result (List ℕ) ReadFault) (fault : ReadFault) → places_before row others ≡ Err fault → others ≡ Err fault
rest_refused row (Ok all) fault e = absurd (cc e)
rest_refused row (Err other) fault e = e

module _ (resolver : VariableResolver) where
  -- a setting of these reads or calls what is not there
  pub record IsSetRefused (sets : List Set) (fault : ReadFault) : Type 0 where
    pub set : Set
    pub listed : Contains sets set
    pub refused : places_of resolver (references_of_set set) ≡ Err fault

  set_refused : (sets : List Set) (fault : ReadFault) → places_of resolver (flat_map references_of_set sets) ≡ Err fault → IsSetRefused sets fault
  set_refused [] fault e = absurd (cc e)
  set_refused (set ∷ sets) fault e = by_result (places_of resolver (references_of_set set)) refl (set_refused sets fault)
    where
      by_result : (r : Result (List ℕ) ReadFault) → places_of resolver (references_of_set set) ≡ r → (places_of resolver (flat_map references_of_set sets) ≡ Err fault → IsSetRefused sets fault) → IsSetRefused (set ∷ sets) fault
      by_result (Ok row) is later =
          let rest = places_of resolver (flat_map references_of_set sets) in
          let more = later (rest_refused row rest fault (sym (both_read resolver (references_of_set set) (flat_map references_of_set sets) row is) ∙ e)) in
          record { set = more.set; listed = contains_later set sets more.set more.listed; refused = more.refused }
      by_result (Err other) is later = record {
        set = set;
        listed = contains_first set sets;
        refused = is ∙ sym (first_refused resolver (references_of_set set) (flat_map references_of_set sets) other is) ∙ e;
      }

-- ---- where it stands

module _ (laws : Laws) (w : World) (compilation : Compilation) (is : IsNumberedWorld w compilation) (o : Overrides) where
  -- the fault of a setting tells a rule that is broken
  read_refused : (place : ℕ) (node : ModuleNode) → HasNode w compilation place node → (resolver : VariableResolver) → IsResolverOf (kept_by compilation node) resolver
      → (fault : ReadFault) → IsSetRefused resolver (sets_at compilation node.sets.items) fault → IsNamed w o (reading_error fault)
  read_refused place node here resolver of fault refused =
      let comes = kept_comes (set_at compilation) node.sets.items refused.set refused.listed in
      let keeps : KeepsItem compilation node (items.Set refused.set) = record { place = comes.x; kept = inr (inr (inr comes.listed)); there = set_there (item_at compilation comes.x) refused.set comes.is } in
      reading_named w o fault
      (laws.reads w o compilation is place node here resolver of (items.Set refused.set) keeps fault (ap (places_of resolver) (sym (laws.setting_references refused.set)) ∙ refused.refused))

module _ (laws : Laws) (w : World) (compilation : Compilation) (is : IsResolvable w compilation) (words : List Override) {A : Type 0} (overrides : BTreeMap ℕ (String A)) (given : AreGiven compilation words overrides)
    (variables : ModuleVariables) (are : AreVariables overrides compilation variables) where
  abbrev o : Overrides
  o = overrides_of words

  -- the rule on what expressions read is broken, or the one on constants
  pub settings_named : (error : Error) → AreUnknown compilation variables.lists.items variables.reads.items variables.orders.items overrides error → IsNamed w o error
  settings_named error refused = by_case refused.refused.unsettled
    where
      by_case : AreUnsettled refused.constants overrides compilation refused.refused.node.sets.items refused.refused.lists refused.refused.reads refused.refused.order.items error → IsNamed w o error
      by_case (reading fault refuses tells) =
          let one = refused.refused in
          let m = there overrides compilation variables are one.place one.node one.lists one.reads one.order one.at in
          subst (IsNamed w o) (sym tells)
          (read_refused laws w compilation is.numbered o one.place one.node one.at.node_there one.reads.resolver (resolver_is overrides compilation variables one.place one.node m) fault
          (set_refused one.reads.resolver (sets_at compilation one.node.sets.items) fault refuses))
      by_case (evaluated numbers refusal read unsettled tells) =
          let one = refused.refused in
          let m = there overrides compilation variables are one.place one.node one.lists one.reads one.order one.at in
          subst (IsNamed w o) (sym tells)
          (constant_named w o refusal (λ some.
          unsettled_broken laws w compilation is words overrides given variables one.place one.node one.at.node_there m numbers read refused.constants refused.language (fault_of refusal) (unsettled some)))
