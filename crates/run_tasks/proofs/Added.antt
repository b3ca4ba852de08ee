-- Which kinds of entries a task adds, over contexts that have one configuration.
use Rattle.std.proofs.Common.{◌≡◌, ◌∙◌, ◌∷◌, [], Bool, List, sym, ap, arith}
use Rattle.std.specs.List.{All}
use Rattle.std.specs.Prelude.{slice_get}
use Rattle.std.proofs.lemmas.List.Elements.{All-contains}
use Rattle.just_host.specs.declared.config.Config.{Config}
use Rattle.just_host.specs.declared.entry.Entry.{Entry}
use Rattle.evaluate_context.specs.declared.context.ExecutionContext.{ExecutionContext}
use Rattle.run_tasks.specs.Kinds.{MayAdd, MayAddIn, RootHasWork}
use Rattle.run_tasks.specs.declared.task.Task.{Task}
use Rattle.run_tasks.specs.declared.task.Task.TheVariants as tasks

-- what the task may add by the one configuration it may add over the contexts
pub within : (contexts : List ExecutionContext) (config : Config) (task : Task) (kinds : Entry → Bool) → All (λ context. context.config.now ≡ config) contexts → MayAdd task config.dry_run kinds → MayAddIn contexts task kinds
within contexts config (tasks.Run calls) kinds same may = (may.0, λ context has dry. may.1 (ap (λ (c : Config). c.dry_run) (sym (All-contains (λ context. context.config.now ≡ config) contexts context same has)) ∙ dry))
within contexts config (tasks.Evaluate target) kinds same may = tt
within contexts config (tasks.Command words) kinds same may = by contexts same
  where
    by : (contexts : List ExecutionContext) → All (λ context. context.config.now ≡ config) contexts → RootHasWork (slice_get contexts 0) kinds
    by [] same = tt
    by (root ∷ others) same = λ dry. may (ap (λ (c : Config). c.dry_run) (sym (same 0 root (omega arith))) ∙ dry)
