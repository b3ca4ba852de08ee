-- What a recipe is bound to by places it is bound to by names.
use Rattle.std.proofs.Common.{◌≡◌, ◌⊎◌, inl, inr, ◌∙◌, ◌+◌, ◌<◌, ◌≤◌, sym, ap, subst, refl, ℕ, zero, suc, Bool, true, false, List, [], ◌∷◌, ◌++◌, length, map, Option, Some, None, Result, arith, eq-eqb}
use Rattle.std.specs.Prelude.{Contains, bytes_eq, cond, filter_map, if◌then◌else◌, slice_get}
use Rattle.std.specs.List.{cons_option, position_from}
use Rattle.std.specs.Option.{option_or}
use Rattle.std.proofs.lemmas.Bool.Decides.{leb_tells, nat_tests}
use Rattle.std.proofs.lemmas.Iterator.Adapters.{position_from-zero}
use Rattle.std.proofs.lemmas.List.{length-append}
use Rattle.std.proofs.lemmas.Option.{none-some, same_Some, slice_get_within}
use Rattle.std.proofs.lemmas.Slice.Eq.{bytes_eq-Decides}
use Rattle.just_text.specs.Tokens.{lexeme}
use Rattle.just_host.specs.declared.config.Config.{Config}
use Rattle.just_host.specs.declared.job.Pair.{Pair}
use Rattle.just_value.specs.declared.positional.Override.{Override}
use Rattle.tree_expressions.specs.Shape.{Shape, shape_of}
use Rattle.tree_expressions.specs.declared.expression.Expression.{Expression}
use Rattle.tree_attributes.specs.Attributes.{attribute_shape}
use Rattle.tree_attributes.specs.declared.attribute.Attribute.{Attribute}
use Rattle.tree_attributes.specs.declared.attribute.Attribute.TheVariants as attributes
use Rattle.tree_attributes.specs.Sets.Order.{item_shape}
use Rattle.tree_attributes.specs.Sets.Sets.{items_of}
use Rattle.tree_attributes.specs.declared.attribute_item.AttributeItem.{AttributeItem}
use Rattle.tree_items.specs.Contexts.{last_named, parameter_number}
use Rattle.tree_items.specs.declared.ast.Item.TheVariants.{Assignment, Recipe as RecipeItem}
use Rattle.tree_items.specs.declared.item.Binding.{Binding}
use Rattle.tree_items.specs.declared.recipe.Parameter.{Parameter}
use Rattle.tree_items.specs.declared.recipe.Recipe.{Recipe}
use Rattle.tree_items.specs.declared.recipe.UnresolvedDependency.{UnresolvedDependency}
use Rattle.parse_expressions.specs.Literals.{Expansion}
use Rattle.modules_compilation.specs.declared.compilation.Compilation.{Compilation}
use Rattle.resolve_references.specs.Seen.{seeing, seen_in, seen_in_attribute}
use Rattle.resolve_analysis.specs.Bound.{bindings_of}
use Rattle.resolve_analysis.specs.Opening.{Runs}
use Rattle.resolve_analysis.specs.declared.analysis.Analysis.{Analysis}
use Rattle.analyze_calls.specs.declared.plan.Runner.{Runner}
use Rattle.meaning_dialogues.specs.Calls.{Frame, bound, in_frame}
use Rattle.meaning_dialogues.specs.Dialogue.{Dialogue, Ends, Lookup, Variable, around, in_module}
use Rattle.meaning_dialogues.specs.Evaluation.{Value, dialogue, text_dialogue}
use Rattle.meaning_dialogues.specs.Faults.{Fault, env_key}
use Rattle.meaning_dialogues.specs.Terms.{Term, term_of}
use Rattle.meaning_dialogues.specs.Written.{numbered, unnumbered}
use Rattle.meaning_evaluation.specs.Parameters.Bindings.{env_term, env_terms}
use Rattle.meaning_evaluation.specs.Stages.Parameters.{env_dialogue}
use Rattle.meaning_evaluation.proofs.Stages.Depth.{HasNumber, IsIn}
use Rattle.laws_evaluation.specs.Soundness.Known.{IsBoundIn}
use Rattle.laws_evaluation.specs.Soundness.Opening.{IsNumbered}
use Rattle.laws_evaluation.specs.Terms.Alike.{Alike}
use Rattle.laws_evaluation.proofs.Terms.Alike.{goes_alike}
use Rattle.meaning_rules.specs.Worlds.Given.{Text, World}
use Rattle.meaning_rules.proofs.Worlds.Places.{contains_at, contains_first, contains_later, place_of, push_here, push_left}
use Rattle.laws_modules.proofs.Names.Found.{mapped, mapped_at, there_within}
use Rattle.meaning_rules.specs.Overrides.{overrides_of}
use Rattle.laws_names.proofs.Reading.Finding.{last_named_there, none_named}
use Rattle.meaning_evaluation.specs.Scopes.{free_term, parameter_names, term}
use Rattle.just_meaning.specs.Opening.{Opened}
use Rattle.just_meaning.specs.Rows.{pair_in}
use Rattle.laws_runs.specs.Settings.Settled.{AllSettle}
use Rattle.laws_runs.proofs.ByName.Goes.{GoesAs, then_goes_as}
use Rattle.laws_runs.specs.Running.Steps.{RestsOn}
use Rattle.laws_runs.proofs.Running.Steps.Expressions.{IsBoundNumber, name_there, names_at, position_named}
use Rattle.laws_runs.proofs.Running.Steps.Free.{free_apart, reads_inside}
use Rattle.laws_runs.proofs.Running.Steps.Known.{to_bound}
use Rattle.laws_runs.proofs.Running.Steps.Lines.{of_attribute}
use Rattle.laws_runs.proofs.Running.Steps.Places.{apart, parameters}
use Rattle.laws_runs.proofs.Running.Steps.Sites.{configured_so, row, scene}
use Rattle.laws_runs.proofs.Running.Steps.Standing.{Stands}
use Rattle.laws_runs.proofs.Running.Steps.Terms.{Same, Sees, by_names, by_numbers, name_now, names_stage, places_stage, seen_alike}

-- ---- lists and frames

bound_other : (frame : Frame) (m : ℕ) (v : Value) (n : ℕ) → (n ≡ m → ⊥) → bound frame m v n ≡ frame n
bound_other frame m v n ne = grind (arith, nat_tests)

bound_same : (frame : Frame) (m : ℕ) (v : Value) (n : ℕ) → n ≡ m → bound frame m v n ≡ Some v
bound_same frame m v n e = rw (eq-eqb n m e) refl

last_case : (done : List Parameter) (p : Parameter) (j : ℕ) (q : Parameter) → slice_get (done ++ p ∷ []) j ≡ Some q → (slice_get done j ≡ Some q) ⊎ ((j ≡ length done) × (p ≡ q))
last_case [] p zero q e = inr (refl, same_Some p q e)
last_case [] p (suc j) q e = absurd (none-some q e)
last_case (x ∷ done) p zero q e = inl e
last_case (x ∷ done) p (suc j) q e = elim (last_case done p j q e) [
  | inl h ↦ inl h
  | inr h ↦ inr (ap suc h.0, h.1)
]

in_done : (n : ℕ) (qs : List Parameter) → IsIn n (map (λ (p : Text × ℕ). p.1) (map parameter_number qs)) → (j : ℕ) × (q : Parameter) × (slice_get qs j ≡ Some q) × (n ≡ q.number)
in_done n [] h = absurd h
in_done n (p ∷ ps) h = elim h [
  | inl e ↦ (zero, p, refl, e)
  | inr later ↦ let r = in_done n ps later in (suc r.0, r.1, r.2, r.3)
]

position_back : (i : ℕ) (names : List Text) (x : Text) (j : ℕ) → position_from (bytes_eq x) i names ≡ Some j → (k : ℕ) × (slice_get names k ≡ Some x) × (j ≡ i + k)
position_back i [] x j e = absurd (none-some j e)
position_back i (y ∷ names) x j e = by_test (bytes_eq x y) refl e (λ f. position_back (i + 1) names x j f)
  where
    by_test : (b : Bool) → bytes_eq x y ≡ b → cond b (Some i) (position_from (bytes_eq x) (i + 1) names) ≡ Some j → (position_from (bytes_eq x) (i + 1) names ≡ Some j → (k : ℕ) × (slice_get names k ≡ Some x) × (j ≡ (i + 1) + k))
        → (k : ℕ) × (slice_get (y ∷ names) k ≡ Some x) × (j ≡ i + k)
    by_test true is f more =
        let same = same_Some i j f in
        let n : j ≡ i + zero = omega (arith, same) in
        (zero, ap (λ t. Some t) (sym ((bytes_eq-Decides x y).0 is)), n)
    by_test false is f more =
        let r = more f in
        let n = r.2 in
        let m : j ≡ i + suc r.0 = omega (arith, n) in
        (suc r.0, r.1, m)

no_number : (o : Option ℕ) → HasNumber [] o → ⊥
no_number None h = h
no_number (Some n) h = h

no_assignment : (r : Recipe UnresolvedDependency) (v : Binding Expression) → RecipeItem r ≡ Assignment v → ⊥
no_assignment r v e = cc e

-- the values of the parameters so far are in both frames, by their numbers and by their places
pub record Holds (done : List Parameter) (frame other : Frame) : Type 0 where
  pub bound_at : (j : ℕ) (p : Parameter) → slice_get done j ≡ Some p → (v : Value) × (frame p.number ≡ Some v) × (other j ≡ Some v)
  pub unbound_at : (n : ℕ) → ((j : ℕ) (p : Parameter) → slice_get done j ≡ Some p → p.number ≡ n → ⊥) → frame n ≡ None
  pub later : (n : ℕ) → length done ≤ n → other n ≡ None

pub one_more : (done : List Parameter) (p : Parameter) (frame other : Frame) (v : Value) → ((j : ℕ) (q : Parameter) → slice_get done j ≡ Some q → q.number ≡ p.number → ⊥) → Holds done frame other
    → Holds (done ++ p ∷ []) (bound frame p.number v) (bound other (length done) v)
one_more done p frame other v apart h = record {
  bound_at = λ j q e. at j q (last_case done p j q e);
  unbound_at = λ n none.
      bound_other frame p.number v n (λ same. none (length done) p (push_here done p []) (sym same)) ∙ h.unbound_at n (λ j q e. none j q (push_left done (p ∷ []) j q e));
  later = λ n le.
      let many = length-append done (p ∷ []) in
      bound_other other (length done) v n (λ same. omega (arith, le, many, same)) ∙ h.later n (omega (arith, le, many));
}
  where
    at : (j : ℕ) (q : Parameter) → (slice_get done j ≡ Some q) ⊎ ((j ≡ length done) × (p ≡ q)) → (u : Value) × (bound frame p.number v q.number ≡ Some u) × (bound other (length done) v j ≡ Some u)
    at j q (inl d) =
        let b = h.bound_at j q d in
        let lt = slice_get_within done j q d in
        (b.0, bound_other frame p.number v q.number (λ same. apart j q d same) ∙ b.1, bound_other other (length done) v j (λ same. omega (arith, lt, same)) ∙ b.2)
    at j q (inr d) = (v, bound_same frame p.number v q.number (ap (λ (r : Parameter). r.number) (sym d.1)), bound_same other (length done) v j d.0)

-- an `env` attribute, or another
env_case : (expansion : Expansion) (a : Attribute) → ((key : Expression) × (value : Expression) × (env_term a ≡ Some (term_of key, term_of value)) × (pair_in expansion (attribute_shape a) ≡ Some (shape_of key, shape_of value)) ×
    ((all : List (Text × ℕ)) → seen_in_attribute all a ≡ seeing [] key ∷ seeing [] value ∷ []))
    ⊎ ((env_term a ≡ None) × (pair_in expansion (attribute_shape a) ≡ None))
env_case expansion (attributes.Env key value) = inl (key, value.value, refl, refl, λ all. refl)
env_case expansion (attributes.Script None) = inr (refl, refl)
env_case expansion (attributes.Script (Some i)) = inr (refl, refl)
env_case expansion (attributes.Confirm None) = inr (refl, refl)
env_case expansion (attributes.Confirm (Some e)) = inr (refl, refl)
env_case expansion (attributes.Doc None) = inr (refl, refl)
env_case expansion (attributes.Doc (Some text)) = inr (refl, refl)
env_case expansion other = inr (refl, refl)

module _ (w : World) (compilation : Compilation) (given : List Override) (base : Text) (analysis : Analysis) (settled : AllSettle w (overrides_of given) compilation analysis.values.value.settings.items) (config : Config) (root_key : List ℕ)
    (called : List ℕ) (is_read : ℕ → Bool) (runner : Runner) (opened : List Opened) (rests : RestsOn w compilation given base analysis settled config root_key called is_read runner opened)
    (rank : ℕ) (s : Stands w compilation given base analysis settled config root_key called is_read runner opened rests rank)
    (runs : Runs analysis.table.value.recipes.items config.no_dependencies called rank) (flag : Bool) where
  abbrev recipe : Recipe UnresolvedDependency
  recipe = s.planned.recipe.now

  abbrev all : List Parameter
  all = parameters w compilation given base analysis settled config root_key called is_read runner opened rests rank s

  abbrev pub names : List Text
  names = parameter_names (row w compilation given base analysis settled config root_key called is_read runner opened rests rank s)

  abbrev pub Both : {X : Type 0} → Dialogue X → Dialogue X → Type 0
  Both t u = GoesAs (by_numbers w compilation given base analysis settled config root_key called is_read runner opened rests rank s runs flag)
      (by_names w compilation given base analysis settled config root_key called is_read runner opened rests rank s runs flag) t u

  pub ends_both : {X : Type 0} (a b : Result X Fault) → a ≡ b → Both (Ends a) (Ends b)
  ends_both a b same old new r d = (d.0, d.1 ∙ same)

  pub if_both : {X : Type 0} (a b : Bool) (t u e : Dialogue X) → a ≡ b → Both t u → Both e e → Both (if a then t else e) (if b then u else e)
  if_both true true t u e same h g = h
  if_both false false t u e same h g = g
  if_both true false t u e same h g = absurd (cc same)
  if_both false true t u e same h g = absurd (cc same)

  -- ---- pairs of attributes

  abbrev Free : Variable → Variable → Type 0
  Free x y = by_numbers w compilation given base analysis settled config root_key called is_read runner opened rests rank s runs flag around x ≡ by_names
      w compilation given base analysis settled config root_key called is_read runner opened rests rank s runs flag around y

  free_same : (place : Lookup) (x y : Variable) → Same w compilation given base analysis settled config root_key called is_read runner opened rests rank s runs flag Free place x y
      → by_numbers w compilation given base analysis settled config root_key called is_read runner opened rests rank s runs flag place x ≡ by_names
      w compilation given base analysis settled config root_key called is_read runner opened rests rank s runs flag place y
  free_same around x y h = h.0
  free_same in_module x y h = h.0 h.1

  abbrev pub free : Shape → Term
  free e = free_term (configured_so w compilation given base analysis settled config root_key called is_read runner opened rests rank s)
      (scene w compilation given base analysis settled config root_key called is_read runner opened rests rank s) (name_now w compilation given base analysis settled config root_key called is_read runner opened rests rank s runs flag)
      (row w compilation given base analysis settled config root_key called is_read runner opened rests rank s) flag e

  free_go : (env : List Pair) (e : Expression) → Contains (seen_in (RecipeItem recipe)) (seeing [] e) → Both (dialogue (places_stage w compilation given base analysis settled config root_key called is_read runner opened rests rank s
      runs flag env) (term_of e)) (dialogue (names_stage w compilation given base analysis settled config root_key called is_read runner opened rests rank s runs flag env) (free (shape_of e)))
  free_go env e c old new r d =
      goes_alike (Same w compilation given base analysis settled config root_key called is_read runner opened rests rank s runs flag Free)
      (by_numbers w compilation given base analysis settled config root_key called is_read runner opened rests rank s runs flag)
      (by_names w compilation given base analysis settled config root_key called is_read runner opened rests rank s runs flag) free_same
      (dialogue (places_stage w compilation given base analysis settled config root_key called is_read runner opened rests rank s runs flag env) (term_of e))
      (dialogue (names_stage w compilation given base analysis settled config root_key called is_read runner opened rests rank s runs flag env) (free (shape_of e))) old new r
      (seen_alike w compilation given base analysis settled config root_key called is_read runner opened rests rank s runs flag Free env unnumbered (seeing [] e) c
      (λ x sees. reads_inside w compilation given base analysis settled config root_key called is_read runner opened rests rank s x.name x.number sees.1 (is_bound x sees.0))) d
    where
      is_bound : (x : Variable) → HasNumber [] x.number ⊎ IsNumbered (IsBoundNumber w compilation given base analysis settled config root_key called is_read runner opened rests rank s) x.number → IsBoundIn s.context.scope.now x.number
      is_bound x (inl h) = absurd (no_number x.number h)
      is_bound x (inr h) = to_bound w compilation given base analysis settled config root_key called is_read runner opened rests rank s x.number h

  abbrev pub free_pair : Shape × Shape → Term × Term
  free_pair pair = (free pair.0, free pair.1)

  abbrev PairsGo : List AttributeItem → List Pair → Type 0
  PairsGo items so_far = Both (env_dialogue (places_stage w compilation given base analysis settled config root_key called is_read runner opened rests rank s runs flag) so_far (env_terms items))
      (env_dialogue (names_stage w compilation given base analysis settled config root_key called is_read runner opened rests rank s runs flag) so_far (map free_pair (filter_map (pair_in w.expansion) (map item_shape items))))

  one_pair : (items : List AttributeItem) (so_far : List Pair) → ((after : List Pair) → PairsGo items after) → (key value : Expression) → Contains (seen_in (RecipeItem recipe)) (seeing [] key)
      → Contains (seen_in (RecipeItem recipe)) (seeing [] value)
      → Both (env_dialogue (places_stage w compilation given base analysis settled config root_key called is_read runner opened rests rank s runs flag) so_far ((term_of key, term_of value) ∷ env_terms items))
      (env_dialogue (names_stage w compilation given base analysis settled config root_key called is_read runner opened rests rank s runs flag) so_far
      ((free (shape_of key), free (shape_of value)) ∷ map free_pair (filter_map (pair_in w.expansion) (map item_shape items))))
  one_pair items so_far more key value c d =
      then_goes_as (by_numbers w compilation given base analysis settled config root_key called is_read runner opened rests rank s runs flag)
      (by_names w compilation given base analysis settled config root_key called is_read runner opened rests rank s runs flag)
      (text_dialogue env_key (dialogue (places_stage w compilation given base analysis settled config root_key called is_read runner opened rests rank s runs flag so_far) (term_of key)))
      (text_dialogue env_key (dialogue (names_stage w compilation given base analysis settled config root_key called is_read runner opened rests rank s runs flag so_far) (free (shape_of key)))) _ _
      (then_goes_as (by_numbers w compilation given base analysis settled config root_key called is_read runner opened rests rank s runs flag)
      (by_names w compilation given base analysis settled config root_key called is_read runner opened rests rank s runs flag)
      (dialogue (places_stage w compilation given base analysis settled config root_key called is_read runner opened rests rank s runs flag so_far) (term_of key))
      (dialogue (names_stage w compilation given base analysis settled config root_key called is_read runner opened rests rank s runs flag so_far) (free (shape_of key))) _ _ (free_go so_far key c) (λ v old new r e. e))
      (λ name. then_goes_as (by_numbers w compilation given base analysis settled config root_key called is_read runner opened rests rank s runs flag)
      (by_names w compilation given base analysis settled config root_key called is_read runner opened rests rank s runs flag)
      (dialogue (places_stage w compilation given base analysis settled config root_key called is_read runner opened rests rank s runs flag so_far) (term_of value))
      (dialogue (names_stage w compilation given base analysis settled config root_key called is_read runner opened rests rank s runs flag so_far) (free (shape_of value))) _ _ (free_go so_far value d) (λ v. more _))

  one_item : (item : AttributeItem) (items : List AttributeItem) (so_far : List Pair) → Contains (items_of recipe.attributes) item → ((after : List Pair) → PairsGo items after) → PairsGo (item ∷ items) so_far
  one_item item items so_far c more = elim (env_case w.expansion item.attribute) [
    | inl p ↦
        subst (λ o. Both (env_dialogue (places_stage w compilation given base analysis settled config root_key called is_read runner opened rests rank s runs flag) so_far (cons_option o (env_terms items)))
        (env_dialogue (names_stage w compilation given base analysis settled config root_key called is_read runner opened rests rank s runs flag) so_far
        (map free_pair (filter_map (pair_in w.expansion) (map item_shape (item ∷ items)))))) (sym p.2)
        (subst (λ o. Both (env_dialogue (places_stage w compilation given base analysis settled config root_key called is_read runner opened rests rank s runs flag) so_far ((term_of p.0, term_of p.1) ∷ env_terms items))
        (env_dialogue (names_stage w compilation given base analysis settled config root_key called is_read runner opened rests rank s runs flag) so_far
        (map free_pair (cons_option o (filter_map (pair_in w.expansion) (map item_shape items)))))) (sym p.3)
        (one_pair items so_far more p.0 p.1
        (of_attribute recipe item c (seeing [] p.0) (subst (λ xs. Contains xs (seeing [] p.0)) (sym (p.4 (map parameter_number all))) (contains_first (seeing [] p.0) (seeing [] p.1 ∷ []))))
        (of_attribute recipe item c (seeing [] p.1) (subst (λ xs. Contains xs (seeing [] p.1)) (sym (p.4 (map parameter_number all))) (contains_later (seeing [] p.0) (seeing [] p.1 ∷ []) (seeing [] p.1) (contains_first (seeing [] p.1) []))))))
    | inr p ↦
        subst (λ o. Both (env_dialogue (places_stage w compilation given base analysis settled config root_key called is_read runner opened rests rank s runs flag) so_far (cons_option o (env_terms items)))
        (env_dialogue (names_stage w compilation given base analysis settled config root_key called is_read runner opened rests rank s runs flag) so_far
        (map free_pair (filter_map (pair_in w.expansion) (map item_shape (item ∷ items)))))) (sym p.0)
        (subst (λ o. Both (env_dialogue (places_stage w compilation given base analysis settled config root_key called is_read runner opened rests rank s runs flag) so_far (env_terms items))
        (env_dialogue (names_stage w compilation given base analysis settled config root_key called is_read runner opened rests rank s runs flag) so_far
        (map free_pair (cons_option o (filter_map (pair_in w.expansion) (map item_shape items)))))) (sym p.1)
        (more so_far))
  ]

  -- the pairs of its attributes
  pub env_go : (items : List AttributeItem) → ((item : AttributeItem) → Contains items item → Contains (items_of recipe.attributes) item) → (so_far : List Pair) → PairsGo items so_far
  env_go [] up so_far = λ old new r d. d
  env_go (item ∷ items) up so_far = one_item item items so_far (up item (contains_first item items)) (λ after. env_go items (λ i c. up i (contains_later item items i c)) after)

  -- ---- what a variable corresponds to among the parameters before

  abbrev pub earlier : List Parameter → List (Text × ℕ)
  earlier done = map parameter_number done

  abbrev pub numbers : Text → Option ℕ
  numbers name = numbered names name

  abbrev pub Around : Frame → Frame → Variable → Variable → Type 0
  Around frame other x y = (in_frame frame x.number ≡ in_frame other y.number) × (in_frame frame x.number ≡ None → by_numbers w compilation given base analysis settled config root_key called is_read runner opened rests rank s runs flag
      around x ≡ by_names w compilation given base analysis settled config root_key called is_read runner opened rests rank s runs flag around y)

  module _ (done ps : List Parameter) (whole : all ≡ done ++ ps) (frame other : Frame) (holds : Holds done frame other) where
    at_whole : (j : ℕ) (q : Parameter) → slice_get done j ≡ Some q → slice_get all j ≡ Some q
    at_whole j q e = ap (λ l. slice_get l j) whole ∙ push_left done ps j q e

    not_free : (name : Text) (n j : ℕ) (q : Parameter) → bindings_of compilation s.node name ≡ Some n → slice_get done j ≡ Some q → q.number ≡ n → ⊥
    not_free name n j q e d same =
        free_apart w compilation given base analysis settled config root_key called is_read runner opened rests rank s s.resolved.place (RecipeItem recipe) s.is_planned.recipe (no_assignment recipe) name n e
        (contains_at (map (λ (r : Parameter). r.number) all) j n (mapped (λ (r : Parameter). r.number) all j q (at_whole j q d) ∙ ap (λ m. Some m) same))

    as_earlier : (x : Variable) (m : ℕ) → last_named x.name (earlier done) ≡ Some m → x.number ≡ Some m → Around frame other x (record { name = x.name; number = numbers x.name })
    as_earlier x m last has =
        let c = place_of (earlier done) (x.name, m) (last_named_there x.name (earlier done) m last) in
        let q = mapped_at parameter_number done c.0 (x.name, m) c.1 in
        let named : lexeme q.0.name.token ≡ x.name = ap (λ (p : Text × ℕ). p.0) q.2 in
        let number : q.0.number ≡ m = ap (λ (p : Text × ℕ). p.1) q.2 in
        let there = at_whole c.0 q.0 q.1 in
        let from_zero : 0 + c.0 ≡ c.0 = omega arith in
        let position : numbers x.name ≡ Some c.0 =
        position_from-zero (bytes_eq x.name) names
        ∙ position_named 0 names c.0 x.name (name_there w compilation given base analysis settled config root_key called is_read runner opened rests rank s c.0 q.0 there ∙ ap (λ t. Some t) named)
        (λ j e. let p = names_at w compilation given base analysis settled config root_key called is_read runner opened rests rank s j x.name e in
        (apart w compilation given base analysis settled config root_key called is_read runner opened rests rank s).names j c.0 p.0 q.0 p.1 there (p.2 ∙ sym named))
        ∙ ap (λ n. Some n) from_zero in
        let h = holds.bound_at c.0 q.0 q.1 in
        let first : in_frame frame x.number ≡ Some h.0 = ap (in_frame frame) has ∙ ap frame (sym number) ∙ h.1 in
        let second : in_frame other (numbers x.name) ≡ Some h.0 = ap (in_frame other) position ∙ h.2 in
        (first ∙ sym second, λ none. absurd (none-some h.0 (sym none ∙ first)))

    as_free : (x : Variable) → last_named x.name (earlier done) ≡ None → HasNumber (map (λ (p : Text × ℕ). p.1) (earlier done)) x.number ⊎ IsNumbered
        (IsBoundNumber w compilation given base analysis settled config root_key called is_read runner opened rests rank s) x.number → x.number ≡ bindings_of compilation s.node x.name
        → Around frame other x (record { name = x.name; number = numbers x.name })
    as_free x none known is = (
      by_number x.number is ∙ sym (by_name (numbers x.name) refl),
      λ nothing. reads_inside w compilation given base analysis settled config root_key called is_read runner opened rests rank s x.name x.number is
          (is_bound known),
    )
      where
        by_number : (o : Option ℕ) → o ≡ bindings_of compilation s.node x.name → in_frame frame o ≡ None
        by_number None e = refl
        by_number (Some n) e = holds.unbound_at n (λ j q d same. not_free x.name n j q (sym e) d same)

        by_name : (o : Option ℕ) → numbers x.name ≡ o → in_frame other o ≡ None
        by_name None e = refl
        by_name (Some j) e = elim (leb_tells (suc j) (length done)) [
          | inl p ↦ let lt = p.1 in absurd (named_twice (omega (arith, lt)))
          | inr p ↦ let more = p.1 in holds.later j (omega (arith, more))
        ]
          where
            named_twice : j < length done → ⊥
            named_twice lt =
                let f = position_back 0 names x.name j (sym (position_from-zero (bytes_eq x.name) names) ∙ e) in
                let n = f.2 in
                let same : f.0 ≡ j = omega (arith, n) in
                let q = there_within done j lt in
                let named : lexeme q.0.name.token ≡ x.name = same_Some (lexeme q.0.name.token) x.name (sym (name_there w compilation given base analysis settled config root_key called is_read runner opened rests rank s j q.0
                (at_whole j q.0 q.1)) ∙ ap (slice_get names) (sym same) ∙ f.1) in
                none_named x.name (earlier done) none (contains_at (map (λ (p : Text × ℕ). p.0) (earlier done)) j x.name (mapped (λ (p : Text × ℕ). p.0) (earlier done) j (parameter_number q.0) (mapped parameter_number done j q.0 q.1) ∙
                ap (λ t. Some t) named))

        by_both : (o : Option ℕ) → o ≡ bindings_of compilation s.node x.name → HasNumber (map (λ (p : Text × ℕ). p.1) (earlier done)) o → ⊥
        by_both None e h = h
        by_both (Some n) e h = let d = in_done n done h in not_free x.name n d.0 d.1 (sym e) d.2 (sym d.3)

        is_bound : HasNumber (map (λ (p : Text × ℕ). p.1) (earlier done)) x.number ⊎ IsNumbered (IsBoundNumber w compilation given base analysis settled config root_key called is_read runner opened rests rank s) x.number
            → IsBoundIn s.context.scope.now x.number
        is_bound (inl h) = absurd (by_both x.number is h)
        is_bound (inr h) = to_bound w compilation given base analysis settled config root_key called is_read runner opened rests rank s x.number h

    corresponds : (e : Expression) (x : Variable) → Sees w compilation given base analysis settled config root_key called is_read runner opened rests rank s runs flag (seeing (earlier done) e) x
        → Around frame other x (record { name = x.name; number = numbers x.name })
    corresponds e x sees = by_last (last_named x.name (earlier done)) refl
      where
        by_last : (o : Option ℕ) → last_named x.name (earlier done) ≡ o → Around frame other x (record { name = x.name; number = numbers x.name })
        by_last (Some m) last = as_earlier x m last (sees.1 ∙ ap (λ o. option_or o (bindings_of compilation s.node x.name)) last)
        by_last None last = as_free x last sees.0 (sees.1 ∙ ap (λ o. option_or o (bindings_of compilation s.node x.name)) last)

    -- an expression that is seen with the parameters before
    pub expression_alike : (env : List Pair) (e : Expression) → Contains (seen_in (RecipeItem recipe)) (seeing (earlier done) e)
        → Alike (Same w compilation given base analysis settled config root_key called is_read runner opened rests rank s runs flag (Around frame other))
        (dialogue (places_stage w compilation given base analysis settled config root_key called is_read runner opened rests rank s runs flag env) (term_of e))
        (dialogue (names_stage w compilation given base analysis settled config root_key called is_read runner opened rests rank s runs flag env)
        (term (configured_so w compilation given base analysis settled config root_key called is_read runner opened rests rank s)
        (scene w compilation given base analysis settled config root_key called is_read runner opened rests rank s) (name_now w compilation given base analysis settled config root_key called is_read runner opened rests rank s runs
        flag) (row w compilation given base analysis settled config root_key called is_read runner opened rests rank s) flag (shape_of e)))
    expression_alike env e c = seen_alike w compilation given base analysis settled config root_key called is_read runner opened rests rank s runs flag (Around frame other) env numbers (seeing (earlier done) e) c (λ x sees. corresponds e x sees)
