-- The built-in functions by their names.
use Rattle.std.specs.Prelude.{ℕ, List, [], ◌∷◌, codes, cond, Option, Some, None}
use Rattle.std.specs.Borrow.{Bor}
use Rattle.std.specs.Str.{bytes_eq}
use Rattle.evaluate_functions.specs.declared.function.Function.{Function}
use Rattle.evaluate_functions.specs.declared.function.Function.TheVariants.{Append, Arch, Bool, CacheDirectory, Canonicalize, Capitalize, ConfigDirectory, ConfigLocalDirectory, DataDirectory, DataLocalDirectory, EncodeUriComponent, Env, EnvVar, EnvVarOrDefault, Error, ExecutableDirectory, Extension, FileName, FileStem, HomeDirectory, InvocationDirectory, InvocationDirectoryNative, IsDependency, Join, JoinList, JustExecutable, JustPid, JustVersion, Justfile, JustfileDirectory, Len, Lowercase, ModuleDirectory, ModuleFile, ModulePath, NumCpus, NumJobs, Os, OsFamily, ParentDirectory, PathExists, Prepend, Quote, Read, RecipeName, Replace, Require, RuntimeDirectory, Shell, Show, SourceDirectory, SourceFile, Split, Trim, TrimEnd, TrimEndMatch, TrimEndMatches, TrimStart, TrimStartMatch, TrimStartMatches, Uppercase, Which, WithoutExtension}

-- the names, each with its function; `_dir` may stand for `_directory`
unfoldable pub function_names : List (List ℕ × Function)
function_names =
    (codes "append", Append)
    ∷ (codes "arch", Arch)
    ∷ (codes "bool", Bool)
    ∷ (codes "cache_directory", CacheDirectory)
    ∷ (codes "cache_dir", CacheDirectory)
    ∷ (codes "canonicalize", Canonicalize)
    ∷ (codes "capitalize", Capitalize)
    ∷ (codes "config_directory", ConfigDirectory)
    ∷ (codes "config_dir", ConfigDirectory)
    ∷ (codes "config_local_directory", ConfigLocalDirectory)
    ∷ (codes "config_local_dir", ConfigLocalDirectory)
    ∷ (codes "data_directory", DataDirectory)
    ∷ (codes "data_dir", DataDirectory)
    ∷ (codes "data_local_directory", DataLocalDirectory)
    ∷ (codes "data_local_dir", DataLocalDirectory)
    ∷ (codes "encode_uri_component", EncodeUriComponent)
    ∷ (codes "env", Env)
    ∷ (codes "env_var", EnvVar)
    ∷ (codes "env_var_or_default", EnvVarOrDefault)
    ∷ (codes "error", Error)
    ∷ (codes "executable_directory", ExecutableDirectory)
    ∷ (codes "executable_dir", ExecutableDirectory)
    ∷ (codes "extension", Extension)
    ∷ (codes "file_name", FileName)
    ∷ (codes "file_stem", FileStem)
    ∷ (codes "home_directory", HomeDirectory)
    ∷ (codes "home_dir", HomeDirectory)
    ∷ (codes "invocation_directory", InvocationDirectory)
    ∷ (codes "invocation_dir", InvocationDirectory)
    ∷ (codes "invocation_directory_native", InvocationDirectoryNative)
    ∷ (codes "invocation_dir_native", InvocationDirectoryNative)
    ∷ (codes "is_dependency", IsDependency)
    ∷ (codes "join", Join)
    ∷ (codes "join_list", JoinList)
    ∷ (codes "just_executable", JustExecutable)
    ∷ (codes "just_pid", JustPid)
    ∷ (codes "just_version", JustVersion)
    ∷ (codes "justfile", Justfile)
    ∷ (codes "justfile_directory", JustfileDirectory)
    ∷ (codes "justfile_dir", JustfileDirectory)
    ∷ (codes "len", Len)
    ∷ (codes "lowercase", Lowercase)
    ∷ (codes "module_directory", ModuleDirectory)
    ∷ (codes "module_dir", ModuleDirectory)
    ∷ (codes "module_file", ModuleFile)
    ∷ (codes "module_path", ModulePath)
    ∷ (codes "num_cpus", NumCpus)
    ∷ (codes "num_jobs", NumJobs)
    ∷ (codes "os", Os)
    ∷ (codes "os_family", OsFamily)
    ∷ (codes "parent_directory", ParentDirectory)
    ∷ (codes "parent_dir", ParentDirectory)
    ∷ (codes "path_exists", PathExists)
    ∷ (codes "prepend", Prepend)
    ∷ (codes "quote", Quote)
    ∷ (codes "read", Read)
    ∷ (codes "recipe_name", RecipeName)
    ∷ (codes "replace", Replace)
    ∷ (codes "require", Require)
    ∷ (codes "runtime_directory", RuntimeDirectory)
    ∷ (codes "runtime_dir", RuntimeDirectory)
    ∷ (codes "shell", Shell)
    ∷ (codes "show", Show)
    ∷ (codes "source_directory", SourceDirectory)
    ∷ (codes "source_dir", SourceDirectory)
    ∷ (codes "source_file", SourceFile)
    ∷ (codes "split", Split)
    ∷ (codes "trim", Trim)
    ∷ (codes "trim_end", TrimEnd)
    ∷ (codes "trim_end_match", TrimEndMatch)
    ∷ (codes "trim_end_matches", TrimEndMatches)
    ∷ (codes "trim_start", TrimStart)
    ∷ (codes "trim_start_match", TrimStartMatch)
    ∷ (codes "trim_start_matches", TrimStartMatches)
    ∷ (codes "uppercase", Uppercase)
    ∷ (codes "which", Which)
    ∷ (codes "without_extension", WithoutExtension)
    ∷ []

-- the function of the first row with this name
abbrev pub row_with : List ℕ → List (List ℕ × Function) → Option Function
row_with name [] = None
row_with name (row ∷ rows) = cond (bytes_eq row.0 name) (Some row.1) (row_with name rows)

abbrev pub function_of : List ℕ → Option Function
function_of name = row_with name function_names

-- a name and a function, without where they lie
abbrev pub row_of : Bor (List ℕ) × Function → List ℕ × Function
row_of row = (row.0.now, row.1)
