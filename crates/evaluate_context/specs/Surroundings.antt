-- What evaluation in a module rests on, without places and numbers.
use Rattle.std.specs.Prelude.{ℕ, Bool, not, if◌then◌else◌, is_some, filter, List, [], ◌∷◌, ◌++◌, map, Option, Some}
use Rattle.std.specs.Cmp.Lexicographic.{slice_cmp}
use Rattle.std.specs.FinMap.Entries.{put}
use Rattle.std.specs.Option.{option_map}
use Rattle.std.specs.Ordering.{nat_cmp}
use Rattle.std.specs.String.{string_bytes}
use Rattle.semver.specs.Identifiers.{version_text}
use Rattle.just_text.specs.Names.{joined_names}
use Rattle.just_text.specs.declared.os.Os.{Os}
use Rattle.modules_compilation.specs.Modulepaths.{path_in}
use Rattle.just_host.specs.declared.job.Pair.{Pair}
use Rattle.just_host.specs.declared.job.CommandJob.{CommandJob}
use Rattle.just_text.specs.Tokens.{lexeme}
use Rattle.just_text.specs.declared.name.Name.{Name}
use Rattle.just_value.specs.Frames.{BoundRow, Frames}
use Rattle.evaluate_context.specs.Environment.{last_of, without, frames_pairs, pair_at, variable, texts}
use Rattle.evaluate_context.specs.Folders.{folder_below}
use Rattle.evaluate_context.specs.Shells.{shell_words}
use Rattle.evaluate_context.specs.declared.context.ExecutionContext.{ExecutionContext}

-- of a module and the configuration
pub record Surroundings : Type 0 where
  pub arch : List ℕ
  pub base : List ℕ
  pub dotenv : List Pair
  pub dry_run : Bool
  pub export : Bool
  -- where commands in expressions run
  pub folder : List ℕ
  pub invocation_directory : List ℕ
  pub jobs : Option ℕ
  -- so many calls of functions may not lie in each other
  pub limit : ℕ
  pub lists : Bool
  pub module_path : List ℕ
  pub os : Os
  pub quiet : Bool
  -- the keys of the root file and of the module's file
  pub root : List ℕ
  pub source : List ℕ
  -- the words that commands stand after
  pub shell : List (List ℕ)
  -- the names that are not exported, each once, in byte order
  pub unexports : List (List ℕ)
  pub version : List ℕ

-- of the place in it: the exported bindings around it, the pairs of `env` attributes, whether its recipe runs as a dependency, and which recipe it is
pub record Standing : Type 0 where
  pub exported : List Pair
  pub env : List Pair
  pub is_dependency : Bool
  pub recipe : Option (List ℕ)

abbrev pub surroundings_of : ExecutionContext → Surroundings
surroundings_of context = record {
  arch = string_bytes context.config.now.arch;
  base = string_bytes context.config.now.base;
  dotenv = map variable context.dotenv.now.entries;
  dry_run = context.config.now.dry_run;
  export = context.module.now.settings.now.export;
  folder = folder_below (if context.module.now.is_submodule then context.module.now.working_directory.now else string_bytes context.config.now.working_directory) context.module.now.settings.now.working_directory;
  invocation_directory = string_bytes context.config.now.invocation_directory;
  jobs = context.config.now.jobs;
  limit = context.config.now.recursion_limit;
  lists = context.module.now.settings.now.lists;
  module_path = joined_names (path_in context.module.now.modules.now context.module.now.place);
  os = context.config.now.os;
  quiet = context.config.now.quiet;
  root = context.root.now;
  source = context.module.now.source.now;
  shell = shell_words (option_map string_bytes context.config.now.shell) (option_map (λ arguments. map string_bytes arguments.items) context.config.now.shell_args) (option_map (λ i. i.command ∷ i.arguments.items) context.module.now.settings.now.shell);
  unexports = texts context.module.now.unexports.now;
  version = version_text context.config.now.version;
}

-- the exported bindings of frames, innermost first
abbrev pub exported_in : Bool → List (List BoundRow) → List Pair
exported_in export frames = frames_pairs export frames

-- in a module's frames, with these pairs of attributes: what the frames around the innermost one export is seen
abbrev pub standing_in : ExecutionContext → List Pair → Frames → Bool → Option Name → Standing
standing_in context env frames is_dependency recipe = record {
  exported = exported_in context.module.now.settings.now.export frames.outer;
  env = env;
  is_dependency = is_dependency;
  recipe = option_map (λ name. lexeme name.token) recipe;
}

abbrev pub entry_of : Pair → List ℕ × List ℕ
entry_of pair = (pair.name, pair.value)

-- each name once, in byte order, with the value that is given last
abbrev pub entries_by_name : List (List ℕ × List ℕ) → List Pair → List (List ℕ × List ℕ)
entries_by_name so_far [] = so_far
entries_by_name so_far (pair ∷ pairs) = entries_by_name (put (slice_cmp nat_cmp) pair.name pair.value so_far) pairs

abbrev pub by_name : List Pair → List Pair
by_name pairs = map pair_at (entries_by_name [] pairs)

-- names, each once, in byte order
abbrev pub sorted_names : List (List ℕ) → List (List ℕ)
sorted_names names = map (λ entry. entry.0) (entries_by_name [] (map (λ name. let p : Pair = record { name = name; value = [] } in p) names))

-- what commands are given: the variables of files and the exported bindings, without the names that are not exported, and then the pairs of attributes
abbrev pub given : Surroundings → Standing → List Pair
given around standing = without around.unexports (around.dotenv ++ standing.exported) ++ standing.env

-- the names that are not exported and have no pair
abbrev pub removed : Surroundings → Standing → List (List ℕ)
removed around standing = filter (λ name. not (is_some (last_of name (given around standing)))) around.unexports

-- the job of a command in a folder
abbrev pub job_in : Surroundings → Standing → Option (List ℕ) → List ℕ → List (List ℕ) → CommandJob
job_in around standing folder command positional = record {
  shell = around.shell;
  command = command;
  positional = positional;
  pairs = by_name (given around standing);
  removed = removed around standing;
  folder = folder;
  quiet = around.quiet;
}

-- the job of a command in an expression
abbrev pub job_of : Surroundings → Standing → List ℕ → List (List ℕ) → CommandJob
job_of around standing command positional = job_in around standing (Some around.folder) command positional
