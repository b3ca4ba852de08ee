-- What a recipe asks for by places it asks for by names.
use Rattle.std.proofs.Common.{◌≡◌, sym, ap, subst, refl, ℕ, Bool, true, false, List, [], ◌∷◌, Option, Some, None, Result, Ok, Err}
use Rattle.std.specs.Prelude.{Contains, find}
use Rattle.std.proofs.lemmas.Option.{none-some, same_Some}
use Rattle.just_host.specs.declared.config.Config.{Config}
use Rattle.just_host.specs.declared.entry.Entry.{Entry}
use Rattle.just_value.specs.Values.{joined}
use Rattle.just_value.specs.declared.positional.Override.{Override}
use Rattle.tree_expressions.specs.Shape.{shape_of}
use Rattle.tree_expressions.specs.declared.expression.Expression.{Expression}
use Rattle.tree_attributes.specs.declared.attribute.Attribute.{Attribute}
use Rattle.tree_attributes.specs.declared.attribute.Attribute.TheVariants as attributes
use Rattle.tree_attributes.specs.declared.attribute.AttributeKind.TheVariants.{Confirm}
use Rattle.tree_attributes.specs.Sets.Sets.{is_of, items_of}
use Rattle.tree_items.specs.declared.recipe.Recipe.{Recipe}
use Rattle.tree_items.specs.declared.recipe.UnresolvedDependency.{UnresolvedDependency}
use Rattle.modules_compilation.specs.declared.compilation.Compilation.{Compilation}
use Rattle.resolve_references.specs.Seen.{seeing, seen_in_attribute}
use Rattle.resolve_analysis.specs.Opening.{Runs}
use Rattle.resolve_analysis.specs.declared.analysis.Analysis.{Analysis}
use Rattle.justfile_evaluator.specs.Bodies.{NamedBody}
use Rattle.justfile_evaluator.specs.Sites.{attribute_in}
use Rattle.analyze_calls.specs.Around.{asked_unless, confirmation, own_reading, own_stage}
use Rattle.analyze_calls.specs.Confirming as by_place
use Rattle.analyze_calls.specs.Confirming.{prompt_in}
use Rattle.analyze_calls.specs.Entered.{EnteredRow}
use Rattle.analyze_calls.specs.declared.plan.Runner.{Runner}
use Rattle.meaning_dialogues.specs.Dialogue.{Dialogue, Reading}
use Rattle.meaning_dialogues.specs.Evaluation.{dialogue}
use Rattle.meaning_dialogues.specs.Terms.{term_of}
use Rattle.meaning_evaluation.specs.Stages.Parameters.{Bound}
use Rattle.meaning_runs.specs.Failures.{Failure, confirmed}
use Rattle.meaning_runs.specs.Task.{Task, TaskLeads, confirms, ends, lift, ◌>>=◌}
use Rattle.meaning_runs.proofs.Tasks.{lift_goes}
use Rattle.meaning_rules.specs.Worlds.Given.{Text, World}
use Rattle.meaning_rules.proofs.Worlds.Places.{contains_at, contains_first}
use Rattle.laws_modules.proofs.Names.Found.{found_at}
use Rattle.meaning_rules.specs.Overrides.{overrides_of}
use Rattle.meaning_evaluation.specs.Calling as by_name
use Rattle.meaning_evaluation.specs.Scopes.{valued}
use Rattle.just_meaning.specs.Opening.{Opened}
use Rattle.laws_runs.specs.Settings.Settled.{AllSettle}
use Rattle.laws_runs.specs.ByName.Evaluators.{IsKnown}
use Rattle.laws_runs.proofs.ByName.Goes.{GoesAs}
use Rattle.laws_runs.proofs.ByName.Lines.{expression_goes, run}
use Rattle.laws_runs.specs.Running.Entered.{IsEnteredIn}
use Rattle.laws_runs.specs.Running.Steps.{RestsOn}
use Rattle.laws_runs.proofs.Running.Steps.Attributes.{prompt_same, prompt_shape}
use Rattle.laws_runs.proofs.Running.Steps.Blocks.{body_now, place_now, stands_there}
use Rattle.laws_runs.proofs.Running.Steps.Expressions.{is_known}
use Rattle.laws_runs.proofs.Running.Steps.Known.{has_functions}
use Rattle.laws_runs.proofs.Running.Steps.Lines.{every, of_attribute, of_found}
use Rattle.laws_runs.proofs.Running.Steps.Modules.{has_config}
use Rattle.laws_runs.proofs.Running.Steps.Standing.{Stands}
use Rattle.laws_runs.proofs.Running.Steps.Tasks.{lifted_leads, stops_leads, task_parted, then_leads}

module _ (first second : Reading) where
  -- the second task leads by its reading wherever the first does by its own
  abbrev pub LeadsAs : {A : Type 0} → Task A → Task A → Type 0
  LeadsAs {A = A} t u = (old new : List Entry) (r : Result A Failure) → TaskLeads first t old new r → TaskLeads second u old new r

  pub lift_as : {A : Type 0} (t u : Dialogue A) → GoesAs first second t u → LeadsAs (lift t) (lift u)
  lift_as t u go old new r h =
      let l = lifted_leads first t old new r h in
      subst (λ x. TaskLeads second (lift u) old new x) (sym l.1) (lift_goes second u old new l.0 (go old new l.0 l.2))

  pub then_as : {A B : Type 0} (t u : Task A) (k l : A → Task B) → LeadsAs t u → ((a : A) → LeadsAs (k a) (l a)) → LeadsAs (t >>= k) (u >>= l)
  then_as t u k l h g old new r d =
      task_parted first (TaskLeads second (u >>= l) old new r) t k old new r
      (λ a mid e f. then_leads second u l old mid new a r (h old mid (Ok a) e) (g a mid new r f))
      (λ failure e is. subst (λ x. TaskLeads second (u >>= l) old new x) (sym is) (stops_leads second u l old new failure (h old new (Err failure) e))) d

  pub ends_as : {A : Type 0} (end : Result A Failure) → LeadsAs (ends end) (ends end)
  ends_as end old new r h = record { piece = h.piece; entries = h.entries; goes = h.goes }

  asks_as : (name text : Text) → LeadsAs (confirms text (λ answer. ends (confirmed name answer))) (confirms text (λ answer. ends (confirmed name answer)))
  asks_as name text old new r h = record { piece = h.piece; entries = h.entries; goes = h.goes }

-- the attribute that has a prompt
prompt_of : (o : Option Attribute) (e : Expression) → prompt_in o ≡ Some (Some e) → (a : Attribute) × (o ≡ Some a) × ((all : List (Text × ℕ)) → seen_in_attribute all a ≡ seeing all e ∷ [])
prompt_of None e is = absurd (none-some (Some e) is)
prompt_of (Some (attributes.Confirm None)) e is = absurd (none-some e (same_Some None (Some e) is))
prompt_of (Some (attributes.Confirm (Some x))) e is = (attributes.Confirm (Some x), refl, λ all. ap (λ y. seeing all y ∷ []) (same_Some x e (same_Some (Some x) (Some e) is)))
prompt_of (Some other) e is = absurd (none-some e (same_Some None (Some e) is))

module _ (w : World) (compilation : Compilation) (given : List Override) (base : Text) (analysis : Analysis) (settled : AllSettle w (overrides_of given) compilation analysis.values.value.settings.items) (config : Config) (root_key : List ℕ)
    (called : List ℕ) (is_read : ℕ → Bool) (runner : Runner) (opened : List Opened) (rests : RestsOn w compilation given base analysis settled config root_key called is_read runner opened)
    (rank : ℕ) (s : Stands w compilation given base analysis settled config root_key called is_read runner opened rests rank)
    (runs : Runs analysis.table.value.recipes.items config.no_dependencies called rank) (flag : Bool) (entered : EnteredRow) (bound : Bound) (is : IsEnteredIn s.planned s.context entered bound) where
  abbrev recipe : Recipe UnresolvedDependency
  recipe = s.planned.recipe.now

  abbrev b : NamedBody
  b = body_now w compilation given base analysis settled config root_key called is_read runner opened rests rank s runs flag entered bound is

  abbrev first : Reading
  first = own_reading s.planned s.context flag entered

  prompt_known : (e : Expression) → prompt_in (attribute_in Confirm recipe.attributes) ≡ Some (Some e) → IsKnown b (place_now w compilation given base analysis settled config root_key called is_read runner opened rests rank s runs flag
      entered bound is) e
  prompt_known e has =
      let a = prompt_of (attribute_in Confirm recipe.attributes) e has in
      let f = of_found (find (is_of Confirm) (items_of recipe.attributes)) a.0 a.1 in
      let at = found_at (is_of Confirm) (items_of recipe.attributes) f.0 f.1 in
      is_known w compilation given base analysis settled config root_key called is_read runner opened rests rank s runs flag entered bound is (seeing (every recipe) e)
      (of_attribute recipe f.0 (contains_at (items_of recipe.attributes) at.0 f.0 at.1) (seeing (every recipe) e)
      (subst (λ x. Contains (seen_in_attribute (every recipe) x) (seeing (every recipe) e)) (sym f.2) (subst (λ xs. Contains xs (seeing (every recipe) e)) (sym (a.2 (every recipe))) (contains_first (seeing (every recipe) e) [])))) refl

  confirming_as : (yes : Bool) (o : Option (Option Expression)) → ((e : Expression) → o ≡ Some (Some e) → IsKnown b (place_now w compilation given base analysis settled config root_key called is_read runner opened rests rank s runs flag
      entered bound is) e)
      → LeadsAs first b.reading (asked_unless yes (by_place.confirming (own_stage s.planned s.context flag entered) b.name o)) (by_name.confirming b.configuration b.scene b.name b.recipe b.flag yes (prompt_shape o) bound)
  confirming_as true o known = ends_as first b.reading (Ok tt)
  confirming_as false None known = ends_as first b.reading (Ok tt)
  confirming_as false (Some None) known = then_as first b.reading _ _ _ _ (ends_as first b.reading (Ok (by_place.usual_prompt b.name))) (λ text. asks_as first b.reading b.name text)
  confirming_as false (Some (Some e)) known =
      then_as first b.reading (by_place.prompt_text (own_stage s.planned s.context flag entered) b.name (Some e)) (by_name.prompt_text b.configuration b.scene b.name b.recipe b.flag bound (Some (shape_of e))) _ _
      (then_as first b.reading (lift (dialogue (run b (place_now w compilation given base analysis settled config root_key called is_read runner opened rests rank s runs flag entered bound is)) (term_of e)))
      (lift (valued b.configuration b.scene b.name b.recipe b.flag bound (shape_of e))) _ _
      (lift_as first b.reading (dialogue (run b (place_now w compilation given base analysis settled config root_key called is_read runner opened rests rank s runs flag entered bound is)) (term_of e))
      (valued b.configuration b.scene b.name b.recipe b.flag bound (shape_of e))
      (expression_goes b (place_now w compilation given base analysis settled config root_key called is_read runner opened rests rank s runs flag entered bound is)
      (stands_there w compilation given base analysis settled config root_key called is_read runner opened rests rank s runs flag entered bound is)
      (has_functions w compilation given base analysis settled config root_key called is_read runner opened rests rank s runs flag entered bound is) e (known e refl)))
      (λ texts. ends_as first b.reading (Ok (joined texts))))
      (λ text. asks_as first b.reading b.name text)

  -- its confirmation
  pub confirm_leads : LeadsAs first b.reading (confirmation runner s.planned s.context.config.now (own_stage s.planned s.context flag entered))
      (by_name.confirming b.configuration b.scene b.name b.recipe b.flag b.configuration.yes b.recipe.confirm bound)
  confirm_leads =
      subst (λ (c : Config). LeadsAs first b.reading (asked_unless c.yes (by_place.confirming (own_stage s.planned s.context flag entered) b.name (prompt_in (attribute_in Confirm recipe.attributes))))
      (by_name.confirming b.configuration b.scene b.name b.recipe b.flag config.yes b.recipe.confirm bound)) (sym (has_config w compilation given base analysis settled config root_key called is_read runner opened rests rank s))
      (subst (λ o. LeadsAs first b.reading (asked_unless config.yes (by_place.confirming (own_stage s.planned s.context flag entered) b.name (prompt_in (attribute_in Confirm recipe.attributes))))
      (by_name.confirming b.configuration b.scene b.name b.recipe b.flag config.yes o bound)) (prompt_same w.expansion recipe.attributes)
      (confirming_as config.yes (prompt_in (attribute_in Confirm recipe.attributes)) prompt_known))
