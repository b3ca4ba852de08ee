-- Calls are steady where what recipes evaluate before their bodies doesn't ask whether they are dependencies.
use Rattle.std.proofs.Common.{◌≡◌, ℕ, suc, ◌==◌, List, [], ◌∷◌, ◌++◌, map, length, Bool, true, false, cond, if◌then◌else◌, codes, Option, Some, None, Ok, Err, refl, sym, ap, ap₂, subst}
use Rattle.std.proofs.Math.Path.{fun_ext}
use Rattle.std.proofs.lemmas.List.Elements.{Contains-append_left, Contains-append_right}
use Rattle.std.specs.Prelude.{Contains, slice_get}
use Rattle.std.specs.Option.{option_map}
use Rattle.std.specs.List.{AllByRecursion, flat_map}
use Rattle.tree_expressions.specs.Shape.{Shape}
use Rattle.tree_items.specs.Recipes.{ArgumentShape}
use Rattle.just_host.specs.declared.job.Pair.{Pair}
use Rattle.just_value.specs.Values.{joined}
use Rattle.evaluate_context.specs.Surroundings.{by_name}
use Rattle.meaning_dialogues.specs.Faults.{env_key, internal}
use Rattle.meaning_dialogues.specs.Dialogue.{Dialogue, Ends, ◌>>=◌, Lookup, Variable}
use Rattle.meaning_dialogues.specs.Evaluation.{Value, dialogue, row, text_dialogue}
use Rattle.meaning_dialogues.specs.Meaning.{Meaning}
use Rattle.meaning_dialogues.specs.Written.{numbered, unnumbered}
use Rattle.meaning_dialogues.specs.Calls.{Frame, empty, bound}
use Rattle.meaning_evaluation.specs.Stages.Parameters.{Formal, Bound, under, bound_value, pair_of, given_dialogue, default_dialogue, parameter_dialogue, counted, values_dialogue, env_dialogue}
use Rattle.meaning_runs.specs.Task.{ends, confirms, lift}
use Rattle.meaning_runs.specs.Task as tasks
use Rattle.meaning_runs.specs.Told.{Answers}
use Rattle.meaning_runs.specs.Meant.{task_meaning}
use Rattle.meaning_runs.specs.Naive.{IsSteady}
use Rattle.meaning_runs.specs.Failures.{confirmed}
use Rattle.meaning_runs.specs.Acts.{meaning_of}
use Rattle.meaning_evaluation.specs.Named.{Call, ParameterRow, DependencyRow, RecipeRow, ModuleRow}
use Rattle.meaning_evaluation.specs.Scopes.{Configuration, Scene, may_count, parameter_names, around, stage_at, term, free_term, formal_in, formals_from, formals, binding, frame_of, own_pairs, valued}
use Rattle.meaning_evaluation.specs.Groups.{call_of, rows_of, each, brings, block}
use Rattle.meaning_evaluation.specs.Calling.{Ground, scene_of, met, no_task, no_dialogue, confirming, head_task, block_calls, acts}
use Rattle.just_meaning.specs.Steady.{looked, EvaluatesFirst, default, key, value, prompt, argument, AreSteady}
use Rattle.laws_agreement.specs.Agreement.Unasked.{IsUnasked}
use Rattle.laws_agreement.proofs.Agreement.Lists.{all_more, all_contained}
use Rattle.laws_agreement.proofs.Agreement.Same.{same_expression}

module _ (g : Ground) (path : List (List ℕ)) (row' : ModuleRow) (name : List ℕ) (recipe : RecipeRow) where
  abbrev c' : Configuration
  c' = g.configuration

  abbrev scene : Scene
  scene = scene_of g path row'

  -- an expression of the module that doesn't ask
  abbrev pub Still : Shape → Type 0
  Still e = IsUnasked (g.defined.functions path) e []

  -- ---- expressions

  same_term : (own env : List Pair) (e : Shape) → Still e → dialogue (stage_at c' scene name recipe true own env) (term c' scene name recipe true e) ≡ dialogue (stage_at c' scene name recipe false own env) (term c' scene name recipe false e)
  same_term own env e h = same_expression c'.expansion (g.defined.functions path) (around c' scene name recipe true) (scene.exported ++ []) [] (Some name) true false _ (scene.exported ++ own) env recipe.file (numbered (parameter_names recipe)) e [] h

  same_free : (own env : List Pair) (e : Shape) → Still e → dialogue (stage_at c' scene name recipe true own env) (free_term c' scene name recipe true e) ≡ dialogue (stage_at c' scene name recipe false own env) (free_term c' scene name recipe false e)
  same_free own env e h = same_expression c'.expansion (g.defined.functions path) (around c' scene name recipe true) (scene.exported ++ []) [] (Some name) true false _ (scene.exported ++ own) env recipe.file unnumbered e [] h

  same_valued : (b : Bound) (e : Shape) → Still e → valued c' scene name recipe true b e ≡ valued c' scene name recipe false b e
  same_valued b e h = ap (under (frame_of c' scene name recipe true b)) (same_term (own_pairs c' scene name recipe true b) b.env e h)

  -- ---- the binding

  same_env : (so_far : List Pair) (pairs : List (Shape × Shape)) → AllByRecursion (λ pair. Still pair.0 × Still pair.1) pairs
      → env_dialogue (stage_at c' scene name recipe true []) so_far (map (λ pair. (free_term c' scene name recipe true pair.0, free_term c' scene name recipe true pair.1)) pairs)
      ≡ env_dialogue (stage_at c' scene name recipe false []) so_far (map (λ pair. (free_term c' scene name recipe false pair.0, free_term c' scene name recipe false pair.1)) pairs)
  same_env so_far [] h = refl
  same_env so_far ((k, v) ∷ pairs) h =
      ap₂ (λ d next. text_dialogue env_key d >>= next) (same_free [] so_far k h.0.0) (fun_ext (λ text. ap₂ (λ d next. d >>= next) (same_free [] so_far v h.0.1) (fun_ext (λ given. same_env (so_far ++ pair_of text given) pairs h.1))))

  -- what a parameter evaluates doesn't ask, and its option stands for no value of its own
  pub record IsStill (p : ParameterRow) : Type 0 where
    pub unasked : (e : Shape) → p.default ≡ Some e → Still e
    pub unvalued : p.value ≡ None

  module _ (env : List Pair) (check : Formal → ℕ → Bool) (lists : Bool) where
    same_default : (formal : Formal) (o : Option Shape) → ((e : Shape) → o ≡ Some e → Still e)
        → default_dialogue (stage_at c' scene name recipe true [] env) true name formal (option_map (term c' scene name recipe true) o) ≡ default_dialogue (stage_at c' scene name recipe false [] env) false name formal (option_map (term c' scene name recipe false) o)
    same_default formal None h = refl
    same_default formal (Some e) h = same_term [] env e (h e refl)

    same_given : (group : Value) (o : Option Shape) → o ≡ None
        → given_dialogue (stage_at c' scene name recipe true [] env) true name group (option_map (term c' scene name recipe true) o) true ≡ given_dialogue (stage_at c' scene name recipe false [] env) false name group (option_map (term c' scene name recipe false) o) false
    same_given group None e = refl
    same_given group (Some x) e = absurd (cc)

    same_parameter : (n : ℕ) (p : ParameterRow) (group : Value) → IsStill p
        → parameter_dialogue (stage_at c' scene name recipe true [] env) true name (formal_in c' scene name recipe true n p) group ≡ parameter_dialogue (stage_at c' scene name recipe false [] env) false name (formal_in c' scene name recipe false n p) group
    same_parameter n p [] h = same_default (formal_in c' scene name recipe true n p) p.default h.unasked
    same_parameter n p (text ∷ texts) h = same_given (text ∷ texts) p.value h.unvalued

    same_values : (ps : List ParameterRow) (n : ℕ) (frame : Frame) (groups : List Value) → AllByRecursion IsStill ps
        → values_dialogue (stage_at c' scene name recipe true [] env) true name check lists frame (formals_from c' scene name recipe true n ps) groups ≡ values_dialogue (stage_at c' scene name recipe false [] env) false name check lists frame (formals_from c' scene name recipe false n ps) groups
    same_values [] n frame groups h = refl
    same_values (p ∷ ps) n frame [] h = refl
    same_values (p ∷ ps) n frame (group ∷ groups) h =
        ap₂ (λ d next. under frame d >>= next) (same_parameter n p group h.0)
        (fun_ext (λ given. ap (λ next. Ends (counted (stage_at c' scene name recipe true [] env) true name check (formal_in c' scene name recipe true n p) given) >>= next)
        (fun_ext (λ v. ap (λ d. d >>= λ values. Ends (Ok (v ∷ values))) (same_values ps (suc n) (bound frame n (bound_value lists v)) groups h.1)))))

  same_binding : (groups : List Value) → AllByRecursion IsStill recipe.parameters → AllByRecursion (λ pair. Still pair.0 × Still pair.1) recipe.env → binding c' scene name recipe true groups ≡ binding c' scene name recipe false groups
  same_binding groups h k =
      ap₂ (λ d next. d >>= next) (same_env [] recipe.env k)
      (fun_ext (λ env. ap (λ d. (if length groups == length (formals c' scene name recipe true) then d else Ends (Err (internal (codes "arguments do not match parameter count")))) >>= λ values. Ends (Ok (let b : Bound = record { env = by_name env; values = values } in b)))
      (same_values env (λ formal n. may_count (slice_get recipe.parameters formal.number) n) row'.lists recipe.parameters 0 empty groups h)))

  -- ---- the head

  same_confirming : (yes : Bool) (o : Option (Option Shape)) (b : Bound) → ((e : Shape) → o ≡ Some (Some e) → Still e) → confirming c' scene name recipe true yes o b ≡ confirming c' scene name recipe false yes o b
  same_confirming true o b h = refl
  same_confirming false None b h = refl
  same_confirming false (Some None) b h = refl
  same_confirming false (Some (Some e)) b h = ap (λ d. tasks.◌>>=◌ (tasks.◌>>=◌ (lift d) (λ texts. ends (Ok (joined texts)))) (λ text. confirms text (λ answer. ends (confirmed name answer)))) (same_valued b e (h e refl))

  same_head : (groups : List Value) → AllByRecursion IsStill recipe.parameters → AllByRecursion (λ pair. Still pair.0 × Still pair.1) recipe.env → ((e : Shape) → recipe.confirm ≡ Some (Some e) → Still e) → head_task c' scene name recipe true groups ≡ head_task c' scene name recipe false groups
  same_head groups h k l =
      ap₂ (λ d next. tasks.◌>>=◌ (lift d) next) (same_binding groups h k) (fun_ext (λ b. ap (λ t. tasks.◌>>=◌ t (λ u. ends (Ok b))) (same_confirming c'.yes recipe.confirm b l)))

  -- ---- blocks

  module _ (b : Bound) where
    abbrev argued : Bool → ArgumentShape → Dialogue Value
    argued flag a = valued c' scene name recipe flag b a.expression

    same_arguments : (as' : List ArgumentShape) → AllByRecursion (λ a. Still a.expression) as' → map (argued true) as' ≡ map (argued false) as'
    same_arguments [] h = refl
    same_arguments (a ∷ as') h = ap₂ ◌∷◌ (same_valued b a.expression h.0) (same_arguments as' h.1)

    -- a dependency whose arguments don't ask
    abbrev pub StillRow : DependencyRow → Type 0
    StillRow d = AllByRecursion (λ a. Still a.expression) d.arguments

    same_brings : (ds : List DependencyRow) → AllByRecursion StillRow ds → map (brings g.defined (argued true)) ds ≡ map (brings g.defined (argued false)) ds
    same_brings [] h = refl
    same_brings (d ∷ ds) h = ap₂ ◌∷◌ (ap (λ vs. row vs >>= λ values. Ends (Ok (map (call_of g.defined d.on) (rows_of d.arguments values)))) (same_arguments d.arguments h.0)) (same_brings ds h.1)

    same_block_by : (leaves_out : Bool) (ds : List DependencyRow) → AllByRecursion StillRow ds → block leaves_out g.defined (argued true) ds ≡ block leaves_out g.defined (argued false) ds
    same_block_by true ds h = refl
    same_block_by false ds h = ap (λ calls. each calls >>= λ cs. Ends (Ok (flat_map (λ xs. xs) cs))) (same_brings ds h)

    same_block : (ds : List DependencyRow) → AllByRecursion StillRow ds → block_calls c' scene name recipe true g.defined b ds ≡ block_calls c' scene name recipe false g.defined b ds
    same_block ds h = same_block_by c'.no_dependencies ds h

-- ---- calls

module _ (g : Ground) (steady : AreSteady g.defined) (call : Call) where
  -- what both flags evaluate alike in each recipe that is met, they do at a call
  both_met : {X : Type 0} (unknown : X) (o : Option RecipeRow) (p : Option ModuleRow) (first second : RecipeRow → ModuleRow → X) → g.defined.recipe call.recipe ≡ o → g.defined.inside call.recipe.path ≡ p
      → ((recipe : RecipeRow) (row : ModuleRow) → g.defined.recipe call.recipe ≡ Some recipe → g.defined.inside call.recipe.path ≡ Some row → first recipe row ≡ second recipe row) → met g unknown o p first ≡ met g unknown o p second
  both_met unknown (Some recipe) (Some row) first second e f go = go recipe row e f
  both_met unknown (Some recipe) None first second e f go = refl
  both_met unknown None p first second e f go = refl

  -- the same where the module's subsequents share what is done
  both_late : {X : Type 0} (unknown : X) (o : Option RecipeRow) (p : Option ModuleRow) (first second : RecipeRow → ModuleRow → X) → g.defined.recipe call.recipe ≡ o → g.defined.inside call.recipe.path ≡ p → met g false o p (λ recipe row. row.shares) ≡ true
      → ((recipe : RecipeRow) (row : ModuleRow) → g.defined.recipe call.recipe ≡ Some recipe → g.defined.inside call.recipe.path ≡ Some row → row.shares ≡ true → first recipe row ≡ second recipe row) → met g unknown o p first ≡ met g unknown o p second
  both_late unknown (Some recipe) (Some row) first second e f shares go = go recipe row e f shares
  both_late unknown (Some recipe) None first second e f shares go = refl
  both_late unknown None p first second e f shares go = refl

  still : (recipe : RecipeRow) (row : ModuleRow) → g.defined.recipe call.recipe ≡ Some recipe → g.defined.inside call.recipe.path ≡ Some row → (e : Shape) → EvaluatesFirst recipe row e → Still g call.recipe.path row call.recipe.recipe recipe e
  still recipe row e f x first = record {
    unasked = λ inner others count reached stands free. steady.unasked call.recipe recipe row x e f first (record { inner = inner; others = others; reached = reached; count = count; named = stands; free = free });
  }

  still_rows : (recipe : RecipeRow) (row : ModuleRow) → g.defined.recipe call.recipe ≡ Some recipe → g.defined.inside call.recipe.path ≡ Some row → (b : Bound) (ds : List DependencyRow) → ((d : DependencyRow) → Contains ds d → Contains (looked recipe row) d)
      → AllByRecursion (StillRow g call.recipe.path row call.recipe.recipe recipe b) ds
  still_rows recipe row e f b ds go =
      all_more (Contains ds) _ (λ d stands. all_more (Contains d.arguments) _ (λ a there. still recipe row e f a.expression (argument (go d stands) there)) d.arguments (all_contained d.arguments)) ds (all_contained ds)

  same_heads : (acts g).head call true ≡ (acts g).head call false
  same_heads =
      both_met (no_task g) (g.defined.recipe call.recipe) (g.defined.inside call.recipe.path) _ _ refl refl
      (λ recipe row e f. same_head g call.recipe.path row call.recipe.recipe recipe call.groups
      (all_more (Contains recipe.parameters) _ (λ p stands. record { unasked = λ x is. still recipe row e f x (default stands is); unvalued = steady.unvalued call.recipe recipe p e stands }) recipe.parameters (all_contained recipe.parameters))
      (all_more (Contains recipe.env) _ (λ pair stands. (still recipe row e f pair.0 (key stands), still recipe row e f pair.1 (value stands))) recipe.env (all_contained recipe.env))
      (λ x is. still recipe row e f x (prompt is)))

  same_priors : (b : Bound) → (acts g).priors call true b ≡ (acts g).priors call false b
  same_priors b =
      both_met (no_dialogue g) (g.defined.recipe call.recipe) (g.defined.inside call.recipe.path) _ _ refl refl
      (λ recipe row e f. same_block g call.recipe.path row call.recipe.recipe recipe b recipe.priors (still_rows recipe row e f b recipe.priors (λ d stands. Contains-append_left recipe.priors (cond row.shares recipe.subsequents []) d stands)))

  same_subsequents : (b : Bound) → (acts g).shares call ≡ true → (acts g).subsequents call true b ≡ (acts g).subsequents call false b
  same_subsequents b shares =
      both_late (no_dialogue g) (g.defined.recipe call.recipe) (g.defined.inside call.recipe.path) _ _ refl refl shares
      (λ recipe row e f late. same_block g call.recipe.path row call.recipe.recipe recipe b recipe.subsequents
      (still_rows recipe row e f b recipe.subsequents (λ d stands. Contains-append_right recipe.priors (cond row.shares recipe.subsequents []) d (subst (λ l. Contains (cond l recipe.subsequents []) d) (sym late) stands))))

  -- Each call is steady, whatever variables mean.
  pub calls_steady : (f : Answers) (variables : Call → Lookup → Variable → Meaning Value) → IsSteady (acts g).shares (meaning_of (acts g) f variables) call
  calls_steady f variables = record {
    heads = ap (task_meaning f (variables call)) same_heads;
    groups = λ b e. ap (λ d. (task_meaning f (variables call) (lift d)).end) (same_priors b);
    late = λ shares b e. ap (λ d. (task_meaning f (variables call) (lift d)).end) (same_subsequents b shares);
  }
