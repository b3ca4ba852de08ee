-- The texts that are made of the root file, by what its text says.
use Rattle.std.specs.Prelude.{◌≡◌, ◌&&◌, if◌then◌else◌, List, Option, Some, None, codes, unwrap_or}
use Rattle.std.specs.Option.{option_and_then}
use Rattle.std.specs.Str.{bytes_eq}
use Rattle.just_text.specs.declared.os.Os.{Os}
use Rattle.tree_expressions.specs.Cooking.{cooked}
use Rattle.tree_attributes.specs.Settings.{ValueShape, string}
use Rattle.tree_items.specs.FileIndentation.{first_given, known}
use Rattle.tree_items.specs.Files.{ItemShape, file_text, set_item}
use Rattle.tree_items.specs.Printable.{printable}
use Rattle.parse_expressions.specs.Literals.{Expansion, text_or_none}
use Rattle.meaning_rules.specs.Worlds.Given.{Given, Text}
use Rattle.meaning_rules.specs.Worlds.Laws.{IsRead}
use Rattle.meaning_rules.specs.Worlds.Sources.{enabled}

-- ---- the indentation

-- what a string stands for, where a setting's value is one
abbrev pub string_said : Expansion → ValueShape → Option Text
string_said expansion (string written) = Some (text_or_none (cooked expansion written))
string_said expansion other = None

-- the text of the indentation that an item sets where it is enabled
abbrev pub indentation_said : Os → Expansion → ItemShape → Option Text
indentation_said os expansion (set_item attributes s) = if enabled os attributes && bytes_eq s.name (codes "indentation") then string_said expansion s.value else None
indentation_said os expansion other = None

-- that of the first item that sets one, if it is one tab or one to eight spaces; else four spaces
abbrev pub indentation_in : Os → Expansion → List ItemShape → Text
indentation_in os expansion items = unwrap_or (option_and_then known (first_given (indentation_said os expansion) items)) (codes "    ")

-- ---- the root file

-- a file's text in its indentation
abbrev pub text_in : Os → Expansion → List ItemShape → Text
text_in os expansion items = file_text (indentation_in os expansion items) items

-- the same, where it is printed so that it is read as it was
abbrev pub answer_in : Os → Expansion → List ItemShape → Option Text
answer_in os expansion items = if printable items then Some (text_in os expansion items) else None

module _ (source : Given) where
  -- the text is that of the root's items, among which blank lines stand too
  pub record IsDump (text : Text) : Type 0 where
    pub items : List ItemShape
    pub says : IsRead source source.root items
    pub is : text ≡ text_in source.os source.expansion items

  -- so is the one that is answered, and there is none exactly where the root can't be printed
  pub record IsAnswer (answer : Option Text) : Type 0 where
    pub items : List ItemShape
    pub says : IsRead source source.root items
    pub is : answer ≡ answer_in source.os source.expansion items
