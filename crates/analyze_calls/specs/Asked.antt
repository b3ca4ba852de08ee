-- What calls of recipes ask of the host.
use Rattle.std.specs.Prelude.{◌≡◌, Bool, false, List}
use Rattle.std.specs.List.{Contains}
use Rattle.just_host.specs.declared.entry.Entry.{Entry}
use Rattle.just_host.specs.Asking.{Asks}
use Rattle.just_host.specs.Kinds.{HaveQuestions, HaveUser, HaveWork, Only}
use Rattle.just_host.specs.Record.{Record}
use Rattle.evaluate_context.specs.declared.context.ExecutionContext.{ExecutionContext}

-- questions, and what the user is shown and asked
abbrev pub AsksUser : {H : Type 0} → (H → List Entry → H → Type 0) → Record H → Record H → Type 0
AsksUser goes old new = (kinds : Entry → Bool) → HaveQuestions kinds → HaveUser kinds → Asks (Only kinds goes) old new

-- the same, and commands and scripts where one of the contexts is of no dry run
abbrev pub AsksIn : {H : Type 0} → List ExecutionContext → (H → List Entry → H → Type 0) → Record H → Record H → Type 0
AsksIn contexts goes old new =
    (kinds : Entry → Bool) → HaveQuestions kinds → HaveUser kinds
    → ((context : ExecutionContext) → Contains contexts context → context.config.now.dry_run ≡ false → HaveWork kinds)
    → Asks (Only kinds goes) old new
