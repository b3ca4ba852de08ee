-- Fixed answers, and which records agree with them.
use Rattle.std.specs.Prelude.{◌≡◌, ℕ, List, not, Option, Some, filter, Result}
use Rattle.std.specs.List.{list_any, AllByRecursion}
use Rattle.std.specs.Str.{bytes_eq}
use Rattle.just_host.specs.declared.entry.Entry.{Entry}
use Rattle.just_host.specs.declared.entry.Entry.TheVariants.{Asked, Line, Script, Confirm, Show, Dotenv}
use Rattle.just_host.specs.declared.host.Question.{Question}
use Rattle.just_host.specs.declared.host.Question.TheVariants.{Command, Environment, Read, Exists, Canonicalize, Which, Fact}
use Rattle.just_host.specs.declared.host.Answer.{Answer}
use Rattle.just_host.specs.declared.host.Status.{Status}
use Rattle.just_host.specs.declared.host.Confirmation.{Confirmation}
use Rattle.just_host.specs.declared.host.HostFault.{HostFault}
use Rattle.just_host.specs.declared.job.CommandJob.{CommandJob}
use Rattle.just_host.specs.declared.job.ScriptJob.{ScriptJob}
use Rattle.just_host.specs.declared.job.DotenvRequest.{DotenvRequest}
use Rattle.just_host.specs.declared.job.Pair.{Pair}

-- A map from tagged questions to answers; what it lacks is unanswered. A question of evaluation has one of two tags: `variable` for what variables
-- ask, in the opening or wherever they mean something, and else `recipe`.
pub record Answers : Type 0 where
  pub variable : Question → Option Answer
  pub recipe : Question → Option Answer
  pub dotenv : DotenvRequest → Option (Result (List Pair) HostFault)
  pub line : CommandJob → Option Status
  pub script : ScriptJob → Option Status
  pub confirm : List ℕ → Option Confirmation

-- the pairs without those of these names
abbrev pub left_out : List (List ℕ) → List Pair → List Pair
left_out names pairs = filter (λ pair. not (list_any (λ name. bytes_eq name pair.name) names)) pairs

-- the question of a variable, as it is looked up: without the pairs of the names that the variables of its module export
abbrev pub taken : List (List ℕ) → Question → Question
taken names (Command job) = Command (record job { pairs = left_out names job.pairs })
taken names (Environment key) = Environment key
taken names (Read path) = Read path
taken names (Exists path) = Exists path
taken names (Canonicalize path) = Canonicalize path
taken names (Which name folder) = Which name folder
taken names (Fact fact) = Fact fact

-- what answers the questions of variables of a module, which exports these names
abbrev pub of_variables : Answers → List (List ℕ) → Question → Option Answer
of_variables f names question = f.variable (taken names question)

-- The answers hold an entry, told to a recipe, or to the variables of a module that exports these names.
abbrev pub holds : Answers → (Question → Option Answer) → Entry → Type 0
holds f answer (Asked question given) = answer question ≡ Some given
holds f answer (Dotenv request given) = f.dotenv request ≡ Some given
holds f answer (Line job status) = f.line job ≡ Some status
holds f answer (Script job status) = f.script job ≡ Some status
holds f answer (Confirm prompt given) = f.confirm prompt ≡ Some given
holds f answer (Show text) = Unit {0}

-- a piece that a recipe's task leaves agrees with the answers
abbrev pub Agrees : Answers → List Entry → Type 0
Agrees f piece = AllByRecursion (holds f f.recipe) piece

-- a piece that is told to the variables of a module agrees with them
abbrev pub AgreesThere : Answers → List (List ℕ) → List Entry → Type 0
AgreesThere f names piece = AllByRecursion (holds f (of_variables f names)) piece
