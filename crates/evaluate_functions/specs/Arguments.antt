-- How many arguments the built-in functions take, and which of these are texts.
use Rattle.std.specs.Prelude.{ℕ, ◌^◌, ◌-◌, ◌==◌, Bool, true, false, not}
use Rattle.evaluate_functions.specs.declared.count.ArgumentCount.{ArgumentCount}
use Rattle.evaluate_functions.specs.declared.function.Function.{Function}
use Rattle.evaluate_functions.specs.declared.function.Function.TheVariants.{Append, Arch, Bool as BoolOf, CacheDirectory, Canonicalize, Capitalize, ConfigDirectory, ConfigLocalDirectory, DataDirectory, DataLocalDirectory, EncodeUriComponent, Env, EnvVar, EnvVarOrDefault, Error, ExecutableDirectory, Extension, FileName, FileStem, HomeDirectory, InvocationDirectory, InvocationDirectoryNative, IsDependency, Join, JoinList, JustExecutable, JustPid, JustVersion, Justfile, JustfileDirectory, Len, Lowercase, ModuleDirectory, ModuleFile, ModulePath, NumCpus, NumJobs, Os, OsFamily, ParentDirectory, PathExists, Prepend, Quote, Read, RecipeName, Replace, Require, RuntimeDirectory, Shell, Show, SourceDirectory, SourceFile, Split, Trim, TrimEnd, TrimEndMatch, TrimEndMatches, TrimStart, TrimStartMatch, TrimStartMatches, Uppercase, Which, WithoutExtension}

abbrev pub exactly : ℕ → ArgumentCount
exactly count = record { least = count; most = count }

-- at least so many, and any greater number
abbrev pub from : ℕ → ArgumentCount
from count = record { least = count; most = 2 ^ 64 - 1 }

abbrev pub expected : Function → ArgumentCount
expected Append = exactly 2
expected BoolOf = exactly 1
expected Canonicalize = exactly 1
expected Capitalize = exactly 1
expected EncodeUriComponent = exactly 1
expected Env = record { least = 1; most = 2 }
expected EnvVar = exactly 1
expected EnvVarOrDefault = exactly 2
expected Error = exactly 1
expected Extension = exactly 1
expected FileName = exactly 1
expected FileStem = exactly 1
expected Join = from 2
expected JoinList = record { least = 1; most = 2 }
expected Len = exactly 1
expected Lowercase = exactly 1
expected ParentDirectory = exactly 1
expected PathExists = exactly 1
expected Prepend = exactly 2
expected Quote = exactly 1
expected Read = exactly 1
expected Replace = exactly 3
expected Require = exactly 1
expected Shell = from 1
expected Show = exactly 1
expected Split = record { least = 1; most = 2 }
expected Trim = exactly 1
expected TrimEnd = exactly 1
expected TrimEndMatch = exactly 2
expected TrimEndMatches = exactly 2
expected TrimStart = exactly 1
expected TrimStartMatch = exactly 2
expected TrimStartMatches = exactly 2
expected Uppercase = exactly 1
expected Which = exactly 1
expected WithoutExtension = exactly 1
expected Arch = exactly 0
expected CacheDirectory = exactly 0
expected ConfigDirectory = exactly 0
expected ConfigLocalDirectory = exactly 0
expected DataDirectory = exactly 0
expected DataLocalDirectory = exactly 0
expected ExecutableDirectory = exactly 0
expected HomeDirectory = exactly 0
expected InvocationDirectory = exactly 0
expected InvocationDirectoryNative = exactly 0
expected IsDependency = exactly 0
expected JustExecutable = exactly 0
expected JustPid = exactly 0
expected JustVersion = exactly 0
expected Justfile = exactly 0
expected JustfileDirectory = exactly 0
expected ModuleDirectory = exactly 0
expected ModuleFile = exactly 0
expected ModulePath = exactly 0
expected NumCpus = exactly 0
expected NumJobs = exactly 0
expected Os = exactly 0
expected OsFamily = exactly 0
expected RecipeName = exactly 0
expected RuntimeDirectory = exactly 0
expected SourceDirectory = exactly 0
expected SourceFile = exactly 0

-- a text stands at the place; else any value may
abbrev pub takes_text : Function → ℕ → Bool
takes_text BoolOf index = false
takes_text Env index = false
takes_text EnvVar index = false
takes_text EnvVarOrDefault index = false
takes_text Len index = false
takes_text Quote index = false
takes_text Show index = false
takes_text Append index = index == 0
takes_text Prepend index = index == 0
takes_text JoinList index = not (index == 0)
takes_text Arch index = true
takes_text CacheDirectory index = true
takes_text Canonicalize index = true
takes_text Capitalize index = true
takes_text ConfigDirectory index = true
takes_text ConfigLocalDirectory index = true
takes_text DataDirectory index = true
takes_text DataLocalDirectory index = true
takes_text EncodeUriComponent index = true
takes_text Error index = true
takes_text ExecutableDirectory index = true
takes_text Extension index = true
takes_text FileName index = true
takes_text FileStem index = true
takes_text HomeDirectory index = true
takes_text InvocationDirectory index = true
takes_text InvocationDirectoryNative index = true
takes_text IsDependency index = true
takes_text Join index = true
takes_text JustExecutable index = true
takes_text JustPid index = true
takes_text JustVersion index = true
takes_text Justfile index = true
takes_text JustfileDirectory index = true
takes_text Lowercase index = true
takes_text ModuleDirectory index = true
takes_text ModuleFile index = true
takes_text ModulePath index = true
takes_text NumCpus index = true
takes_text NumJobs index = true
takes_text Os index = true
takes_text OsFamily index = true
takes_text ParentDirectory index = true
takes_text PathExists index = true
takes_text Read index = true
takes_text RecipeName index = true
takes_text Replace index = true
takes_text Require index = true
takes_text RuntimeDirectory index = true
takes_text Shell index = true
takes_text SourceDirectory index = true
takes_text SourceFile index = true
takes_text Split index = true
takes_text Trim index = true
takes_text TrimEnd index = true
takes_text TrimEndMatch index = true
takes_text TrimEndMatches index = true
takes_text TrimStart index = true
takes_text TrimStartMatch index = true
takes_text TrimStartMatches index = true
takes_text Uppercase index = true
takes_text Which index = true
takes_text WithoutExtension index = true
