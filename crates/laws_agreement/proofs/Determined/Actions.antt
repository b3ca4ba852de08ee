-- What is evaluated, and the command that is handed over, behind openings that agree with one set of answers.
use Rattle.std.proofs.Common.{◌≡◌, ℕ, List, [], ◌∷◌, ◌++◌, Bool, true, false, not, cond, filter, is_some, Some, None, Ok, refl, sym, ap, ap₂, ◌∙◌, subst}
use Rattle.std.proofs.Math.Path.{fun_ext}
use Rattle.std.specs.List.{flat_map}
use Rattle.std.specs.Option.{option_or}
use Rattle.just_host.specs.declared.job.CommandJob.{CommandJob}
use Rattle.just_host.specs.declared.job.Pair.{Pair}
use Rattle.tree_items.specs.Lines.{no_sigils}
use Rattle.evaluate_context.specs.Environment.{last_of, is_among, without}
use Rattle.evaluate_context.specs.Surroundings.{given, removed, sorted_names}
use Rattle.evaluate_context.proofs.ByName.{by_name_same, last_append}
use Rattle.meaning_runs.specs.Failures.{next_by}
use Rattle.meaning_runs.specs.Task.{Task, ends, hands, line, TaskGoes}
use Rattle.meaning_runs.specs.Told.{Answers}
use Rattle.meaning_evaluation.specs.Calling.{without_next}
use Rattle.meaning_evaluation.specs.Named.{ModuleRow, Definitions, paths_of}
use Rattle.meaning_evaluation.specs.Scopes.{Configuration, Scene, surroundings_in}
use Rattle.just_meaning.specs.Actions.{Target, of_module, of_variable, value_line, widest, public_names, joined_or_none, evaluated_text, command_job, command_by, command_task}
use Rattle.just_meaning.specs.Opening.{pairs_of, reading_in, opening_standing, scene_in, Opened}
use Rattle.just_meaning.specs.Runs.{pairs_at, values_at}
use Rattle.laws_agreement.specs.Determined.Determined.{LeadsAlike, EvaluationsAreDetermined, CommandsAreDetermined}
use Rattle.laws_agreement.proofs.Determined.Exported.{last_without}
use Rattle.laws_agreement.proofs.Determined.Openings.{EachAlike, all_once, same_pairs_at, same_held, same_last, run_variables, kept_variables}
use Rattle.laws_agreement.proofs.Determined.Runs.{behind_piece}
use Rattle.laws_agreement.proofs.Determined.Tasks.{task_once}

-- ---- what is evaluated

text_same : (defined : Definitions) (os os' : List Opened) → EachAlike os os' → (target : Target) → evaluated_text defined os target ≡ evaluated_text defined os' target
text_same defined os os' h (of_module path) =
    ap (λ find. flat_map (λ name. value_line (widest (public_names defined path (defined.names path))) name (find name)) (public_names defined path (defined.names path))) (fun_ext (λ name. same_held path os os' h name))
text_same defined os os' h (of_variable x) = ap joined_or_none (same_held x.path os os' h x.name)

pub evaluations_are_determined : EvaluationsAreDetermined
evaluations_are_determined f c defined listed fit old new os opens a old' new' os' opens' b target =
    text_same defined os os' (all_once c defined _ f listed (kept_variables defined) fit (paths_of defined.modules) old new (Ok os) opens a old' new' (Ok os') opens' b) target

-- ---- the command

module _ (c : Configuration) (defined : Definitions) (row : ModuleRow) where
  -- the scene of the root, by its pairs and what its frame exports
  abbrev scene_with : List Pair → List Pair → Scene
  scene_with pairs out = scene_in c defined [] row pairs out

  abbrev given_with : List Pair → List Pair → List Pair
  given_with pairs out = given (surroundings_in c (scene_with pairs out)) (opening_standing out)

  abbrev outside : List (List ℕ)
  outside = sorted_names row.unexports

  last_given : (pairs out : List Pair) (name : List ℕ) → last_of name (given_with pairs out) ≡ option_or None (cond (is_among outside name) None (option_or (last_of name out) (last_of name pairs)))
  last_given pairs out name =
      last_append name (without outside (pairs ++ out)) []
      ∙ ap (option_or None) (last_without outside name (pairs ++ out) ∙ ap (cond (is_among outside name) None) (last_append name pairs out))

  module _ (os os' : List Opened) (h : EachAlike os os') where
    abbrev pairs : List Pair
    pairs = pairs_at [] os

    abbrev pairs' : List Pair
    pairs' = pairs_at [] os'

    abbrev out : List Pair
    out = pairs_of defined [] (values_at [] os)

    abbrev out' : List Pair
    out' = pairs_of defined [] (values_at [] os')

    given_same : (name : List ℕ) → last_of name (given_with pairs out) ≡ last_of name (given_with pairs' out')
    given_same name =
        last_given pairs out name
        ∙ (ap₂ (λ o p. option_or None (cond (is_among outside name) None (option_or o p))) (same_last [] defined os os' h name) (ap (last_of name) (same_pairs_at [] os os' h))
        ∙ sym (last_given pairs' out' name))

    removed_same : removed (surroundings_in c (scene_with pairs out)) (opening_standing out) ≡ removed (surroundings_in c (scene_with pairs' out')) (opening_standing out')
    removed_same = ap (λ test. filter test outside) (fun_ext (λ name. ap (λ o. not (is_some o)) (given_same name)))

    job_same : (command : List ℕ) (words : List (List ℕ)) → command_job c defined row os command words ≡ command_job c defined row os' command words
    job_same command words =
        ap₂ (λ (ps : List Pair) (lacking : List (List ℕ)). let job : CommandJob = record { shell = []; command = command; positional = words; pairs = ps; removed = lacking; folder = Some row.folder; quiet = c.quiet } in job)
        (by_name_same (given_with pairs out) (given_with pairs' out') given_same) removed_same

    command_same : (dry : Bool) (words : List (List ℕ)) → command_by c defined row os dry words ≡ command_by c defined row os' dry words
    command_same true [] = refl
    command_same false [] = refl
    command_same true (command ∷ words) = refl
    command_same false (command ∷ words) = ap (λ job. hands (line job) (λ status. ends (without_next (next_by command no_sigils status)))) (job_same command words)

leads_alike : (f : Answers) (task task' : Task (Unit {0})) → task ≡ task' → LeadsAlike f task task'
leads_alike f task task' e mid new end leads a mid' new' end' leads' b =
    task_once (reading_in []) f task leads.piece leads'.piece end end' (behind_piece f mid new leads.piece a leads.entries) (behind_piece f mid' new' leads'.piece b leads'.entries) leads.goes
    (subst (λ t. TaskGoes (reading_in []) t leads'.piece end') (sym e) leads'.goes)

pub commands_are_determined : CommandsAreDetermined
commands_are_determined f c defined listed fit old mid os opens a old' mid' os' opens' b row words =
    let h = all_once c defined _ f listed (run_variables defined c.no_dependencies []) fit (paths_of defined.modules) old mid (Ok os) opens a old' mid' (Ok os') opens' b in
    let same : command_task c defined row os words ≡ command_task c defined row os' words = command_same c defined row os os' h c.dry_run words in
    (same, leads_alike f (command_task c defined row os words) (command_task c defined row os' words) same)
