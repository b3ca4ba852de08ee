-- For the texts of each call there is a world that they stand for.
use Rattle.justfile_syntax.specs.Laws.{FilesHold}
use Rattle.meaning_rules.specs.Worlds.Given.{Given}
use Rattle.meaning_rules.specs.Worlds.Inhabited.{HasTexts, HasWorld}

-- Whatever UTF-8 texts a call is given, there is a world that they stand for, also where a file has a fault of the syntax, and where the root is missing. The premise is a law of the parser: it reads what is derived, and what it reads is derived.
abbrev pub WorldsAreGiven : Type 0
WorldsAreGiven = FilesHold → (given : Given) → HasTexts given → HasWorld given
