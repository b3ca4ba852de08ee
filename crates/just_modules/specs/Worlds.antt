-- What is compiled, by the worlds that a call stands for.
use Rattle.std.specs.Prelude.{◌≡◌, Bool, true, List, ℕ, map}
use Rattle.std.specs.BTreeMap.{BTreeMap}
use Rattle.std.specs.declared.string.String.{String}
use Rattle.just_text.specs.declared.os.Os.{Os}
use Rattle.parse_expressions.specs.Literals.{Expansion}
use Rattle.semver.specs.declared.Version.{Version}
use Rattle.modules_compilation.specs.declared.compilation.Compilation.{Compilation}
use Rattle.modules_compilation.specs.declared.error.Error.{Error}
use Rattle.meaning_rules.specs.Worlds.Given.{Overrides, World}
use Rattle.meaning_rules.specs.Worlds.Standing.{StandsFor}
use Rattle.meaning_rules.specs.Worlds.Compiled.{IsCompiled}
use Rattle.meaning_rules.specs.Rules.{Broken, Rule, is_of_sources}
use Rattle.meaning_rules.specs.Told.{IsTold}
use Rattle.meaning_rules.specs.Worlds.Views.{file_view, given_of, node_view}

-- this is so in each world that a call stands for which compiles the file at the key `root` of these sources
abbrev pub InEachWorld : {Y Z : Type 0} → Os → Bool → BTreeMap (String Y) (String Z) → Expansion → Version → List ℕ → (World → Type 0) → Type 0
InEachWorld os unstable sources expansion version root IsSo = (w : World) → StandsFor (given_of sources os unstable expansion version root) w → IsSo w

-- there is a world that such a call stands for
abbrev pub HasWorld : {Y Z : Type 0} → Os → Bool → BTreeMap (String Y) (String Z) → Expansion → Version → List ℕ → Type 0
HasWorld os unstable sources expansion version root = (w : World) × StandsFor (given_of sources os unstable expansion version root) w

-- the compilation is one of the world's modules
abbrev pub IsCompilationOf : Compilation → World → Type 0
IsCompilationOf compilation w = IsCompiled w (map file_view compilation.files.items) (map node_view compilation.modules.items)

-- the world breaks no rule on files, modules and what they define, whatever overrides there are
abbrev pub BreaksNone : World → Type 0
BreaksNone w = (o : Overrides) (rule : Rule) → is_of_sources rule ≡ true → Broken w o rule → ⊥

-- it breaks a rule that the refusal names, unless memory or numbers ran out
abbrev pub BreaksTold : Error → World → Type 0
BreaksTold error w = (o : Overrides) → IsTold (Broken w o) error
