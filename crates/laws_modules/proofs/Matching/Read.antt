-- What files that were read hold is what is told of them.
use Rattle.std.proofs.Common.{◌≡◌, ◌∙◌, sym, subst, List, Option, Some, None, All}
use Rattle.std.proofs.lemmas.List.Elements.{All-weaker}
use Rattle.tree_attributes.specs.declared.attribute.Attribute.{Attribute}
use Rattle.tree_attributes.specs.declared.attribute.Attribute.TheVariants as attributes
use Rattle.tree_attributes.specs.declared.setting.Setting.{Setting}
use Rattle.tree_attributes.specs.declared.setting.Setting.TheVariants as settings
use Rattle.tree_attributes.specs.Sets.Sets.{items_of}
use Rattle.tree_attributes.specs.declared.attribute_item.AttributeItem.{AttributeItem}
use Rattle.tree_items.specs.declared.ast.Item.{Item}
use Rattle.tree_items.specs.declared.ast.Item.TheVariants as items
use Rattle.tree_items.specs.Files.{item_shapes}
use Rattle.parse_attributes.specs.Cooked.{IsCookedAttribute}
use Rattle.parse_attributed_items.specs.Held.{IsItemCooked, IsOwnItem, IsWholeAttribute}
use Rattle.parse_expressions.specs.Literals.{Origin, from_file}
use Rattle.parse_items.specs.SettingCooked.{IsCookedSetting}
use Rattle.modules_compilation.specs.declared.module_node.File.{File}
use Rattle.meaning_rules.specs.Worlds.Given.{Given}
use Rattle.meaning_rules.specs.Worlds.Laws.{IsRead}
use Rattle.meaning_rules.specs.Worlds.Matching.{DocText, HasDocText, HasIndentationText, HoldsTexts, MatchesSource}
use Rattle.laws_modules.specs.Matching.Laws.{ReadFilesMatch}

module _ (origin : Origin) where
  doc_held : (item : AttributeItem) → IsWholeAttribute origin item → HasDocText origin.expansion item
  doc_held item h = by_attribute item.attribute h.0
    where
      by_attribute : (a : Attribute) → IsCookedAttribute origin a → DocText origin.expansion a
      by_attribute attributes.Android h = tt
      by_attribute (attributes.Arg options) h = tt
      by_attribute attributes.Cache h = tt
      by_attribute (attributes.Confirm None) h = tt
      by_attribute (attributes.Confirm (Some e)) h = tt
      by_attribute attributes.Default h = tt
      by_attribute (attributes.Doc None) h = tt
      by_attribute (attributes.Doc (Some s)) h = h.text
      by_attribute attributes.Dragonfly h = tt
      by_attribute (attributes.Env key value) h = tt
      by_attribute attributes.ExitMessage h = tt
      by_attribute (attributes.Extension s) h = tt
      by_attribute attributes.Freebsd h = tt
      by_attribute (attributes.Group s) h = tt
      by_attribute attributes.Linux h = tt
      by_attribute attributes.Macos h = tt
      by_attribute (attributes.Metadata first others) h = tt
      by_attribute attributes.Netbsd h = tt
      by_attribute attributes.NoCd h = tt
      by_attribute attributes.NoExitMessage h = tt
      by_attribute attributes.NoQuiet h = tt
      by_attribute attributes.Openbsd h = tt
      by_attribute attributes.Parallel h = tt
      by_attribute attributes.PositionalArguments h = tt
      by_attribute attributes.Private h = tt
      by_attribute (attributes.Script None) h = tt
      by_attribute (attributes.Script (Some i)) h = tt
      by_attribute attributes.Unix h = tt
      by_attribute attributes.Windows h = tt
      by_attribute (attributes.WorkingDirectory s) h = tt

  setting_held : (value : Setting) → IsCookedSetting origin value → HasIndentationText origin.expansion value
  setting_held (settings.Truth which value) h = tt
  setting_held (settings.DotenvCommand value) h = tt
  setting_held (settings.DotenvFilename value) h = tt
  setting_held (settings.DotenvPath value) h = tt
  setting_held (settings.Indentation value) h = h.text
  setting_held (settings.MinimumVersion value) h = tt
  setting_held (settings.ScriptInterpreter value) h = tt
  setting_held (settings.Shell value) h = tt
  setting_held (settings.Tempdir value) h = tt
  setting_held (settings.WindowsShell value) h = tt
  setting_held (settings.WorkingDirectory value) h = tt

  -- the strings of an item that was read hold what they stand for
  pub item_held : (item : Item) → IsItemCooked origin item → HoldsTexts origin.expansion item
  item_held (items.Alias a) h = tt
  item_held (items.Assignment a) h = tt
  item_held (items.Comment text) h = tt
  item_held (items.Function f) h = tt
  item_held (items.Import i) h = tt
  item_held (items.Module m) h = tt
  item_held items.Newline h = tt
  item_held (items.Recipe r) h = All-weaker (IsWholeAttribute origin) (HasDocText origin.expansion) doc_held (items_of r.attributes) h.attributes
  item_held (items.Set s) h = setting_held s.value h.inside
  item_held (items.Unexport u) h = tt

-- so a file that was read matches its source
pub read_file_matches : ReadFilesMatch
read_file_matches source file says own cooked =
    record { says = says; own = own; texts = All-weaker (IsItemCooked (from_file file.key.now source.expansion)) (HoldsTexts source.expansion) (item_held (from_file file.key.now source.expansion)) file.ast.items.items cooked }
