-- What the place of a call alone determines.
use Rattle.std.specs.Prelude.{◌≡◌, ◌≢◌, ⊤, ℕ, Bool, true, false, List, [], ◌∷◌, Option, Some, None, Result, Ok, Err, codes}
use Rattle.std.specs.Option.{option_map, option_or}
use Rattle.just_value.specs.Paths.{join, parent}
use Rattle.evaluate_context.specs.Refusals.{seen}
use Rattle.evaluate_context.specs.Surroundings.{Surroundings, Standing}
use Rattle.evaluate_context.specs.declared.error.Error.{Error}
use Rattle.evaluate_functions.specs.Values.{boolean}
use Rattle.evaluate_functions.specs.declared.function.Function.{Function}
use Rattle.evaluate_functions.specs.declared.function.Function.TheVariants.{Arch, InvocationDirectory, InvocationDirectoryNative, IsDependency, JustVersion, Justfile, JustfileDirectory, ModuleDirectory, ModuleFile, ModulePath, NumJobs, Os, OsFamily, RecipeName, SourceDirectory, SourceFile}
use Rattle.meaning_dialogues.specs.Evaluation.{Value}
use Rattle.meaning_dialogues.specs.Faults.{Fault, memory}
use Rattle.evaluate_builtins.specs.Builtins.{folder_told, number_told, recipe_told}
use Rattle.evaluate_builtins.specs.Facts.{is_folder, os_name}

-- the key of the file that a function tells, or of the one whose folder it tells
abbrev pub file_of : Surroundings → List ℕ → Function → Option (List ℕ)
file_of around file Justfile = Some around.root
file_of around file JustfileDirectory = Some around.root
file_of around file ModuleFile = Some around.source
file_of around file ModuleDirectory = Some around.source
file_of around file SourceFile = Some file
file_of around file SourceDirectory = Some file
file_of around file _ = None

-- the text that a function tells
abbrev pub text_of : Surroundings → Function → Option (List ℕ)
text_of around Arch = Some around.arch
text_of around InvocationDirectory = Some around.invocation_directory
text_of around InvocationDirectoryNative = Some around.invocation_directory
text_of around Os = Some (os_name around.os)
text_of around OsFamily = Some (codes "unix")
text_of around _ = None

-- what the configuration, the module or the recipe tells
abbrev pub said_of : Surroundings → Standing → List ℕ → Function → Option (Result Value Fault)
said_of around standing name IsDependency = Some (Ok (boolean around.lists standing.is_dependency))
said_of around standing name JustVersion = Some (Ok (around.version ∷ []))
said_of around standing name ModulePath = Some (Ok (around.module_path ∷ []))
said_of around standing name NumJobs = Some (Ok (number_told around.jobs))
said_of around standing name RecipeName = Some (recipe_told name standing.recipe)
said_of around standing name _ = None

-- a path, or its folder
abbrev pub path_said : Bool → List ℕ → Result Value Fault
path_said true path = folder_told path (parent path)
path_said false path = Ok (path ∷ [])

-- what a function says by its place alone, called by this name in this file
abbrev pub said_at : Surroundings → Standing → List ℕ → List ℕ → Function → Option (Result Value Fault)
said_at around standing name file function =
    option_or (option_map (λ key. path_said (is_folder function) (join around.base key)) (file_of around file function))
    (option_or (option_map (λ text. Ok (text ∷ [])) (text_of around function)) (said_of around standing name function))

-- the result is this one, unless memory runs out
pub record IsSaid (said : Result Value Fault) (result : Result Value Error) : Type 0 where
  pub is : seen result ≢ Err memory → seen result ≡ said

-- the result is this one, or there is none
abbrev pub SaidAny : Option (Result Value Fault) → Option (Result Value Error) → Type 0
SaidAny (Some said) (Some result) = IsSaid said result
SaidAny (Some said) None = ⊥
SaidAny None (Some result) = ⊥
SaidAny None None = ⊤
