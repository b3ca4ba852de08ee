use Rattle.std.proofs.Common.{rules, ◌≡◌, ◌≢◌, ℕ, List, false, length, map, subst, sym}
use Rattle.std.proofs.lemmas.List.{length-map}
use Rattle.std.proofs.lemmas.Result.{err_from_is_err_and}
use Rattle.just_text.specs.Tokens.{lexeme}
use Rattle.just_host.specs.declared.job.Pair.{Pair}
use Rattle.tree_attributes.specs.Sets.Sets.{items_of}
use Rattle.evaluate_context.specs.Refusals.{fault_of}
use Rattle.meaning_dialogues.specs.Calls.{reading_in_frames}
use Rattle.meaning_evaluation.specs.Stages.Parameters.{formal_of}
use Rattle.meaning_evaluation.specs.Parameters.Bindings.{env_terms}
use Rattle.meaning_evaluation.proofs.Parameters.Whole.{bound_pairs_stop, bound_uncounted, bound_values_stop, bound_gives}
use Rattle.evaluate_variables.specs.Given.{AreCounted, passes_in, stage_with}
use Rattle.evaluate_variables.proofs.parameters.bind_recipe.Goals as goal

pub returns-in_err-env-clause-evaluates : goal.returns-in_err-env-clause-evaluates
returns-in_err-env-clause-evaluates g c = λ may counts always counted none.
    let context = c.args.context.now in
    let recipe = c.args.recipe.now in
    let here = c.args.scope.now in
    let reading = reading_in_frames (λ (number : ℕ). false) here context.scope.now in
    let stages = λ (pairs : List Pair). stage_with context c.args.is_dependency recipe.name pairs here in
    let lists = context.module.now.settings.now.lists in
    let attributes = env_terms (items_of recipe.attributes) in
    let formals = map formal_of recipe.parameters.items in
    let groups = c.args.groups.now in
    let e = err_from_is_err_and c.from_residual.result c.from_residual.ensures.1 in
    rw (e.1, e.2) (bound_pairs_stop reading stages c.args.is_dependency (lexeme recipe.name.token) counts lists attributes formals groups _ _ _ c.in_err-env.ensures.evaluates)

pub returns-then-groups-len-clause-evaluates : goal.returns-then-groups-len-clause-evaluates
returns-then-groups-len-clause-evaluates g c = λ may counts always counted none.
    let context = c.args.context.now in
    let recipe = c.args.recipe.now in
    let here = c.args.scope.now in
    let reading = reading_in_frames (λ (number : ℕ). false) here context.scope.now in
    let stages = λ (pairs : List Pair). stage_with context c.args.is_dependency recipe.name pairs here in
    let lists = context.module.now.settings.now.lists in
    let attributes = env_terms (items_of recipe.attributes) in
    let formals = map formal_of recipe.parameters.items in
    let groups = c.args.groups.now in
    let other : length groups ≢ length formals = rw (length-map recipe.parameters.items formal_of) (search rules) in
    bound_uncounted reading stages c.args.is_dependency (lexeme recipe.name.token) counts lists attributes formals groups _ _ _ c.in_ok-env.ensures.evaluates other (fault_of c.internal.result) c.internal.ensures

pub returns-in_err-positional-clause-evaluates : goal.returns-in_err-positional-clause-evaluates
returns-in_err-positional-clause-evaluates g c = λ may counts always counted none.
    let context = c.args.context.now in
    let recipe = c.args.recipe.now in
    let here = c.args.scope.now in
    let reading = reading_in_frames (λ (number : ℕ). false) here context.scope.now in
    let stages = λ (pairs : List Pair). stage_with context c.args.is_dependency recipe.name pairs here in
    let lists = context.module.now.settings.now.lists in
    let attributes = env_terms (items_of recipe.attributes) in
    let formals = map formal_of recipe.parameters.items in
    let groups = c.args.groups.now in
    let same : length groups ≡ length formals = rw (length-map recipe.parameters.items formal_of) (search rules) in
    let env : c.as_slice.result.now ≡ c.in_ok-env.env.items = search rules in
    let ps : c.deref.result.now ≡ recipe.parameters.items = search rules in
    let all = subst (AreCounted may counts) (sym ps) counted in
    let e = err_from_is_err_and c.from_residual-in_err-positional.result c.from_residual-in_err-positional.ensures.1 in
    rw (e.1, e.2) (bound_values_stop reading stages c.args.is_dependency (lexeme recipe.name.token) counts lists attributes formals groups _ _ _ c.in_ok-env.env.items _ c.in_ok-env.ensures.evaluates same (rw (env, ps) at (c.in_err-positional.ensures.evaluates may counts always all none)))

pub returns-clause-evaluates : goal.returns-clause-evaluates
returns-clause-evaluates g c = λ may counts always counted none.
    let context = c.args.context.now in
    let recipe = c.args.recipe.now in
    let here = c.args.scope.now in
    let reading = reading_in_frames (λ (number : ℕ). false) here context.scope.now in
    let stages = λ (pairs : List Pair). stage_with context c.args.is_dependency recipe.name pairs here in
    let lists = context.module.now.settings.now.lists in
    let attributes = env_terms (items_of recipe.attributes) in
    let formals = map formal_of recipe.parameters.items in
    let groups = c.args.groups.now in
    let same : length groups ≡ length formals = rw (length-map recipe.parameters.items formal_of) (search rules) in
    let env : c.as_slice.result.now ≡ c.in_ok-env.env.items = search rules in
    let ps : c.deref.result.now ≡ recipe.parameters.items = search rules in
    let all = subst (AreCounted may counts) (sym ps) counted in
    let passes : c.passes_words.result ≡ passes_in context.module.now.settings.now recipe.attributes = c.passes_words.ensures in
    bound_gives reading stages c.args.is_dependency (lexeme recipe.name.token) counts lists attributes formals groups _ _ _ _ _ _ c.in_ok-env.env.items c.in_ok-env.ensures.evaluates same (rw (env, ps, passes) at (c.in_ok-positional.ensures.evaluates may counts always all none))

pub returns-clause-rows : goal.returns-clause-rows
returns-clause-rows g c = λ none.
    let ps : c.deref.result.now ≡ c.args.recipe.now.parameters.items = search rules in
    rw ps at (c.in_ok-positional.ensures.rows none)

pub returns-clause-asks : goal.returns-clause-asks
returns-clause-asks g c = λ kinds has start asked. c.in_ok-positional.ensures.asks kinds has start (c.in_ok-env.ensures.asks kinds has start asked)
