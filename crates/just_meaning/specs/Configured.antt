-- Modules that are open by numbers and by names, and what a run over them rests on.
use Rattle.std.specs.Prelude.{ℕ, List, map}
use Rattle.std.specs.Option.{option_map}
use Rattle.std.specs.String.{string_bytes}
use Rattle.semver.specs.Identifiers.{version_text}
use Rattle.just_host.specs.declared.config.Config.{Config}
use Rattle.parse_expressions.specs.Literals.{Expansion}
use Rattle.meaning_evaluation.specs.Scopes.{Configuration}

-- the configuration as the meaning of a run has it, with the key of the root file and what strings expand to
abbrev pub configuration_of : Config → List ℕ → Expansion → Configuration
configuration_of config root expansion = record {
  arch = string_bytes config.arch;
  base = string_bytes config.base;
  working_directory = string_bytes config.working_directory;
  invocation_directory = string_bytes config.invocation_directory;
  dry_run = config.dry_run;
  yes = config.yes;
  no_dependencies = config.no_dependencies;
  quiet = config.quiet;
  loquacious = config.loquacious;
  jobs = config.jobs;
  shell = option_map string_bytes config.shell;
  shell_args = option_map (λ arguments. map string_bytes arguments.items) config.shell_args;
  limit = config.recursion_limit;
  os = config.os;
  version = version_text config.version;
  root = root;
  expansion = expansion;
}
