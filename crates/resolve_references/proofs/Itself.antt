-- What is as it was is numbered.
use Rattle.std.proofs.Common.{refl}
use Rattle.tree_attributes.specs.declared.setting.Setting.{Setting}
use Rattle.tree_attributes.specs.declared.setting.Setting.TheVariants as settings
use Rattle.tree_items.specs.declared.ast.Item.{Item}
use Rattle.tree_items.specs.declared.ast.Item.TheVariants.{Alias, Assignment, Comment, Function, Import, Module, Newline, Recipe, Set, Unexport}
use Rattle.resolve_references.specs.Numbered.{IsNumberedItem, IsSameSetting}

-- a setting is the same as itself
same_setting : (setting : Setting) → IsSameSetting setting setting
same_setting (settings.Truth which value) = refl
same_setting (settings.DotenvCommand value) = (value, refl)
same_setting (settings.DotenvFilename value) = (value, refl)
same_setting (settings.DotenvPath value) = (value, refl)
same_setting (settings.Indentation value) = refl
same_setting (settings.MinimumVersion value) = refl
same_setting (settings.ScriptInterpreter value) = (value, refl)
same_setting (settings.Shell value) = (value, refl)
same_setting (settings.Tempdir value) = (value, refl)
same_setting (settings.WindowsShell value) = (value, refl)
same_setting (settings.WorkingDirectory value) = (value, refl)

-- an item is the same as itself
pub numbered_itself : (item : Item) → IsNumberedItem item item
numbered_itself (Alias a) = refl
numbered_itself (Assignment a) = (a.value, refl)
numbered_itself (Comment c) = refl
numbered_itself (Function f) = (f.body, refl)
numbered_itself (Import i) = refl
numbered_itself (Module m) = refl
numbered_itself Newline = refl
numbered_itself (Recipe r) = (r, refl, record { name = refl; number = refl; quiet = refl; parameters = refl; attributes = refl })
numbered_itself (Set s) = (s, refl, refl, same_setting s.value)
numbered_itself (Unexport u) = refl
