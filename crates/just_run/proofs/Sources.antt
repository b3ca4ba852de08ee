-- The root file that was read, as the file that modules are loaded from.
use Rattle.std.proofs.Common.{◌≡◌, ◌≤◌, ◌⊎◌, length, sym, ◌∙◌, ap, Bool, true, false, cond, ℕ, List, Option, Some, None, Result, IsUtf8, refl, subst}
use Rattle.std.specs.Prelude.{String}
use Rattle.std.specs.BTreeMap.{BTreeMap, get_by_text}
use Rattle.std.specs.Option.{option_map}
use Rattle.std.specs.String.{string_bytes}
use Rattle.std.proofs.lemmas.Option.{none-some, same_Some}
use Rattle.std.proofs.lemmas.Str.{IsUtf8-string_bytes}
use Rattle.just_text.specs.Numbers.{Numbers}
use Rattle.just_text.specs.declared.os.Os.{Os}
use Rattle.parse_expressions.specs.Literals.{Expansion}
use Rattle.just_value.specs.Constants.{constant_rows}
use Rattle.just_value.specs.declared.positional.Positional.{Positional}
use Rattle.semver.specs.declared.Version.{Version}
use Rattle.modules_compilation.specs.Paths.{is_clean}
use Rattle.modules_files.specs.Found.{source_of}
use Rattle.modules_sources.specs.Loaded.{IsRootRead}
use Rattle.modules_sources.specs.declared.load.Parsed.{Parsed}
use Rattle.just_run.specs.Root.{Inputs, IsFileRead, given, reader_of, text_at}
use Rattle.meaning_rules.specs.Worlds.Given.{Given, Text, World}
use Rattle.meaning_rules.specs.Worlds.Standing.{StandsFor}
use Rattle.meaning_rules.specs.Worlds.Inhabited.{HasTexts, HasWorld}
use Rattle.meaning_rules.specs.Worlds.Views.{given_of}
use Rattle.just_run.specs.Named.{Left}
use Rattle.just_run.specs.Sources.{AnswersSources, Asked, TellsSources, read}
use Rattle.just_run.specs.declared.fault.Fault.{Fault}
use Rattle.just_run.specs.declared.outcome.Outcome.{Outcome}

-- a text at a clean path is one of the sources
text_is_source : {A B : Type 0} (sources : BTreeMap (String A) (String B)) (path text : List ℕ) → text_at sources path ≡ Some text → source_of sources path ≡ Some text
text_is_source sources path text = by_test (is_clean path)
  where
    by_test : (b : Bool) → cond b (source_of sources path) None ≡ Some text → source_of sources path ≡ Some text
    by_test true e = e
    by_test false e = absurd (none-some text e)

-- what sources have at a key is a text
string_is_text : {Z : Type 0} (found : Option (String Z)) (text : Text) → option_map string_bytes found ≡ Some text → IsUtf8 text
string_is_text None text e = absurd (none-some text e)
string_is_text (Some s) text e = subst IsUtf8 (same_Some (string_bytes s) text e) (IsUtf8-string_bytes s)

sources_are_texts : {A B : Type 0} (sources : BTreeMap (String A) (String B)) (os : Os) (unstable : Bool) (expansion : Expansion) (version : Version) (root : Text) → HasTexts (given_of sources os unstable expansion version root)
sources_are_texts sources os unstable expansion version root key text e = string_is_text (get_by_text sources key) text e

module _ {A B C D : Type 0} (sources : BTreeMap (String A) (String B)) (roots : BTreeMap (Option (String C)) (String D)) (words : Positional) (expansion : Expansion) (version : Version) where
  abbrev inputs : Inputs
  inputs = given (reader_of expansion version) sources roots words

  -- modules are loaded from the file that was read
  root_read : (path : List ℕ) (parsed : Parsed) (f : IsFileRead inputs path parsed) → IsRootRead sources expansion version f.start path parsed
  root_read path parsed f = record { text = f.text; there = text_is_source sources path f.text f.there; says = f.says; whole = f.whole; numbered = f.numbered }

  -- what is told of them is told of the root at its path, and there is a world for it
  pub told_of_root : ((given : Given) → HasTexts given → HasWorld given) → (os : Os) (unstable : Bool) (asked : Asked) (path : List ℕ) (parsed : Parsed) (left : Left) (result : Result Outcome Fault)
      → IsFileRead inputs path parsed
      → ((start : Numbers) → length constant_rows ≤ start.bindings → IsRootRead sources expansion version start path parsed → (w : World) → StandsFor (given_of sources os unstable expansion version path) w → TellsSources (given_of sources os unstable expansion version path) asked path left result w)
      → AnswersSources (given_of sources os unstable expansion version) inputs asked left result
  told_of_root worlds os unstable asked path parsed left result f tells = read path f.rooted (worlds (given_of sources os unstable expansion version path) (sources_are_texts sources os unstable expansion version path)) (tells f.start f.above (root_read path parsed f))
