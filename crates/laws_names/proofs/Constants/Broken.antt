-- Where settings are set, the rule on constants is not broken; where a variable or a setting is refused, it is.
use Rattle.std.proofs.Common.{◌≡◌, inl, inr, refl, sym, ◌∙◌, ap, subst, Bool, true, false, List, [], ◌∷◌, ℕ}
use Rattle.std.specs.Prelude.{Contains, String}
use Rattle.std.specs.BTreeMap.{BTreeMap}
use Rattle.just_text.specs.Tokens.{lexeme}
use Rattle.parse_expressions.specs.Literals.{from_file}
use Rattle.tree_attributes.specs.Settings.{value_shape}
use Rattle.tree_expressions.specs.Shape.{shape_of}
use Rattle.tree_items.specs.Items.{set_shape}
use Rattle.tree_items.specs.declared.ast.Item.TheVariants.{Set as set_item}
use Rattle.tree_items.specs.declared.set.Set.{Set}
use Rattle.parse_items.specs.Names.{setting_name}
use Rattle.just_value.specs.Frames.{BoundRow, Frames}
use Rattle.just_value.specs.declared.positional.Override.{Override}
use Rattle.evaluate_context.specs.declared.context.AssignmentRef.{AssignmentRef}
use Rattle.evaluate_variables.specs.SettingValues.{IsRefusedFor, IsSet}
use Rattle.evaluate_variables.specs.Settled.{const_reading, excluded_in, reading_in, values_in}
use Rattle.evaluate_variables.specs.declared.const_evaluator.ConstEvaluator.{ConstEvaluator}
use Rattle.evaluate_variables.proofs.Settling.{same_reading}
use Rattle.modules_compilation.specs.declared.compilation.Compilation.{Compilation}
use Rattle.modules_compilation.specs.declared.module_node.ModuleNode.{ModuleNode}
use Rattle.resolve_references.specs.Seen.{Seen, seeing, seen_in, seen_in_setting}
use Rattle.resolve_analysis.specs.Bound.{bindings_of}
use Rattle.meaning_dialogues.specs.Dialogue.{Reading}
use Rattle.meaning_dialogues.specs.Evaluation.{Value}
use Rattle.meaning_dialogues.specs.Meaning.{Meaning}
use Rattle.laws_evaluation.specs.Terms.Own.{IsWrittenIn}
use Rattle.meaning_rules.specs.Worlds.Given.{Text, World}
use Rattle.meaning_rules.specs.Worlds.Keeping.{Keeps, a_variable}
use Rattle.meaning_rules.proofs.Worlds.Places.{contains_none}
use Rattle.meaning_rules.specs.Constants.{HasAnswer, IsPartOf, IsReadBySettings, LacksAnswer, Means, directly}
use Rattle.meaning_rules.specs.Naming.{Part, occurrences}
use Rattle.meaning_rules.specs.Naming as naming
use Rattle.meaning_rules.specs.Reading.{named}
use Rattle.meaning_rules.proofs.Meaning.{means_at_most_one}
use Rattle.meaning_rules.specs.Overrides.{overrides_of}
use Rattle.laws_names.specs.Reading.Parts.{part_of}
use Rattle.laws_names.proofs.Reading.Bindings.{own_item}
use Rattle.laws_names.proofs.Reading.Items.{part_seen, seen_part}
use Rattle.laws_names.proofs.Reading.Module.{keeps_variable}
use Rattle.tree_items.specs.Files.{item_shape}
use Rattle.tree_items.specs.declared.ast.Item.TheVariants.{Assignment}
use Rattle.laws_names.specs.Constants.Broken.{AreFoundIn, Finds, FoundConstantsAreTold, FoundSettingsAnswer, RefusesOne, SetsOne}
use Rattle.laws_names.specs.Constants.Expressions.{known}
use Rattle.laws_names.specs.Constants.Sought.{IsListedSet}
use Rattle.laws_names.proofs.Constants.Expressions.{constants_tell_names}
use Rattle.laws_names.proofs.Constants.Kept.{cooked_at, setting_item, setting_kept, setting_there}
use Rattle.laws_names.proofs.Constants.Marked.{read_number, reference_given}
use Rattle.laws_names.proofs.Constants.Named.{is_written, name_stands}
use Rattle.laws_names.proofs.Constants.Ordered.{constant_means, variable_means}
use Rattle.laws_names.proofs.Constants.Seen.{setting_plain}
use Rattle.laws_names.proofs.Constants.Settings.{refused_ones_lack, set_ones_answer}
use Rattle.laws_names.proofs.Constants.Variables.{constants_mean}

same_truth : (b c : Bool) → ((b ≡ true) → c ≡ true) → ((c ≡ true) → b ≡ true) → b ≡ c
same_truth true c f g = sym (f refl)
same_truth false true f g = g refl
same_truth false false f g = refl

module _ {A : Type 0} (overrides : BTreeMap ℕ (String A)) (w : World) (compilation : Compilation) (k : ℕ) (node : ModuleNode) (path : List Text) (words : List Override) (variables : List AssignmentRef) (order : List ℕ) (sets : List Set)
    (is_read : ℕ → Bool) (constants : Frames) (lists : Bool) (f : AreFoundIn w compilation k node path words overrides variables order sets is_read constants lists) where
  abbrev pub own : Text
  own = node.source.now

  abbrev pub outer : List (List BoundRow)
  outer = constants.own ∷ constants.outer

  module _ (c : ConstEvaluator) (finds : Finds w compilation k node path words overrides variables order sets is_read constants lists c) where
    abbrev pub reading : Reading
    reading = const_reading outer (values_in c) (excluded_in c)

    pub same : reading_in c ≡ reading
    same = same_reading c ∙ ap (λ o. const_reading o (values_in c) (excluded_in c)) finds.1

    abbrev pub so_far : Text → Meaning Value
    so_far = known reading (bindings_of compilation node)

    module _ (s : Set) (listed : IsListedSet compilation node s) where
      pub own_name : setting_name s.value ≡ lexeme s.name.token
      own_name = own_item w compilation f.module'.numbered listed.0 (set_item s) listed.2

      abbrev pub file : Text
      file = (cooked_at w compilation f.module'.numbered listed.0 (set_item s) listed.2).0

      -- an expression of the setting is seen without parameters
      plain : (x : Seen) → Contains (seen_in_setting s.value) x → Contains (seen_in (set_item s)) (seeing [] x.expression)
      plain x d = subst (Contains (seen_in (set_item s))) (sym (setting_plain s.value x d)) d

      pub written : (x : Seen) → Contains (seen_in_setting s.value) x → IsWrittenIn (from_file file w.expansion) (bindings_of compilation node) x.expression
      written x d =
          let i = setting_item w compilation k node path f.module' s listed in
          is_written w compilation k node path f.module' (set_item s) i x.expression (plain x d) file ((cooked_at w compilation f.module'.numbered listed.0 (set_item s) listed.2).1 x d)

      -- what a name in the setting means
      pub name_means : (x : Seen) → Contains (seen_in_setting s.value) x → (name : Text) → Contains (occurrences (shape_of x.expression)) (naming.a_variable name) → Means w (overrides_of words) path own name (so_far name)
      name_means x d name occurs =
          let i = setting_item w compilation k node path f.module' s listed in
          let here = plain x d in
          elim (name_stands w compilation k node path f.module' (set_item s) i x.expression here f.sought.resolver
          (λ r e. let g = reference_given w compilation k node path f.module' words overrides variables order sets is_read f.sought s listed x d r e in (g.0, g.1)) name occurs) [
            | inl v ↦
                let reads = named (record {
                  occurs = occurs;
                  seen = λ e. contains_none [] name refl e;
                  item = item_shape (Assignment v.1);
                  kept = subst (λ t. Keeps w own a_variable t (item_shape (Assignment v.1))) v.3 (keeps_variable w compilation f.module'.numbered k node f.module'.here v.0 v.1 v.2);
                }) in
                let read : IsReadBySettings w (overrides_of words) path own name = directly {s = set_shape s} {p = part_of (seeing [] x.expression)}
                (setting_there w compilation k node path f.module' (overrides_of words) s listed)
                (seen_part w compilation f.module'.numbered listed.0 (set_item s) listed.2 (seeing [] x.expression) here) reads in
                let n = read_number w compilation k node path f.module' words overrides variables order sets is_read f.sought name read in
                subst (λ t. Means w (overrides_of words) path own t (so_far t)) n.3
                (variable_means w compilation k node path f.module' words overrides variables order sets is_read f.sought constants f.language lists f.lists_are finds.2 n.0 n.1 n.2 n.4)
            | inr v ↦ constant_means w compilation k node path f.module' words overrides variables order sets is_read f.sought constants f.language lists f.lists_are finds.2 name v.0 v.1.0 v.1.1 v.1.2
          ]

      -- a part of the setting is one of its expressions
      pub part_found : (p : Part) → IsPartOf w (overrides_of words) path own (set_shape s) p → (x : Seen) × Contains (seen_in_setting s.value) x × (part_of x ≡ p)
      part_found p d = part_seen w compilation f.module'.numbered listed.0 (set_item s) listed.2 p d

      lacks : RefusesOne w compilation k node path words overrides variables order sets is_read constants lists c s → LacksAnswer w (overrides_of words) path own (set_shape s)
      lacks refused = record {
        lists = lists;
        are_lists = f.lists_are;
        variables = so_far;
        mean = λ p other d occurs. let x = part_found p d in name_means x.0 x.1 other (subst (λ (q : Part). Contains (occurrences q.said) (naming.a_variable other)) (sym x.2) occurs);
        bad = λ h.
            let by_lists = subst (λ (r : Reading). IsRefusedFor r c.lists (lexeme s.name.token) s.value refused.0) same refused.1 in
            let by_name = subst (λ b. IsRefusedFor reading b (lexeme s.name.token) s.value refused.0) finds.0 by_lists in
            let given = subst (λ t. IsRefusedFor reading lists t s.value refused.0) (sym own_name) by_name in
            refused_ones_lack w (overrides_of words) path own file (bindings_of compilation node) reading lists so_far s.value
            (record { tells = constants_tell_names outer (values_in c) (excluded_in c); written = written; named = λ x d name occurs. refl }) refused.0 given
            (subst (λ t. HasAnswer w (overrides_of words) path own lists so_far t (value_shape s.value)) (sym own_name) h);
      }

      answers : SetsOne w compilation k node path words overrides variables order sets is_read constants lists c s → LacksAnswer w (overrides_of words) path own (set_shape s) → ⊥
      answers one lack =
          let on : lists ≡ lack.lists = same_truth lists lack.lists (λ e. lack.are_lists.1 (f.lists_are.0 e)) (λ e. f.lists_are.1 (lack.are_lists.0 e)) in
          let by_lists = subst (λ (r : Reading). IsSet r c.lists (lexeme s.name.token) s.value one.0 one.1) same one.2 in
          let by_name = subst (λ b. IsSet reading b (lexeme s.name.token) s.value one.0 one.1) (finds.0 ∙ on) by_lists in
          let given = subst (λ t. IsSet reading lack.lists t s.value one.0 one.1) (sym own_name) by_name in
          let answer = set_ones_answer w (overrides_of words) path own file (bindings_of compilation node) reading lack.lists lack.variables s.value
          (record {
            tells = constants_tell_names outer (values_in c) (excluded_in c);
            written = written;
            named = λ x d name occurs.
                means_at_most_one w (overrides_of words) path own name (so_far name) (lack.variables name) (name_means x d name occurs)
                (lack.mean (part_of x) name (seen_part w compilation f.module'.numbered listed.0 (set_item s) listed.2 x d) occurs);
          }) one.0 one.1 given in
          lack.bad (subst (λ t. HasAnswer w (overrides_of words) path own lack.lists lack.variables t (value_shape s.value)) own_name answer)

pub settings_answer : {A : Type 0} (overrides : BTreeMap ℕ (String A)) → FoundSettingsAnswer overrides
settings_answer overrides w compilation k node path words variables order sets is_read constants lists f = record {
  set = λ c finds s there one lack. answers overrides w compilation k node path words variables order sets is_read constants lists f c finds s ((f.sought.sets_are s).0 there) one lack;
  refused = λ c finds s there one.
      let listed = (f.sought.sets_are s).0 there in
      (setting_there w compilation k node path f.module' (overrides_of words) s listed, lacks overrides w compilation k node path words variables order sets is_read constants lists f c finds s listed one);
}

pub constants_are_told : {A : Type 0} (overrides : BTreeMap ℕ (String A)) → FoundConstantsAreTold overrides
constants_are_told overrides w compilation k node path words variables order sets is_read constants lists f =
    let settings = settings_answer overrides w compilation k node path words variables order sets is_read constants lists f in
    let mean = constants_mean overrides w compilation k node path f.module' words variables order sets is_read f.sought constants f.language lists f.lists_are in
    record {
      clear = λ c finds all b. elim b [
        | inl one ↦
            let t = setting_kept w compilation k node path f.module' (overrides_of words) one.0 one.1 in
            let there = (f.sought.sets_are t.0).1 t.1 in
            settings.set c finds t.0 there (all t.0 there) (subst (LacksAnswer w (overrides_of words) path node.source.now) (sym t.2) one.2)
        | inr one ↦ (mean.settled (values_in c) (excluded_in c) finds.2).faultless one.0 one.1 one.2 one.3
      ];
      failed = λ fault fails. let v = mean.failed fails.frame fails.excluded fault fails.settles in inr (v.0, fault, v.1, v.2);
      refused = λ c finds s there one. let r = settings.refused c finds s there one in inl (set_shape s, r.0, r.1);
    }
