-- Whether there is a world that the texts of a call stand for.
use Rattle.std.specs.Prelude.{◌≡◌, Some, IsUtf8}
use Rattle.meaning_rules.specs.Worlds.Given.{Given, Text, World}
use Rattle.meaning_rules.specs.Worlds.Standing.{StandsFor}

-- each source that the call is given is UTF-8
abbrev pub HasTexts : Given → Type 0
HasTexts given = (key text : Text) → given.source key ≡ Some text → IsUtf8 text

-- there is a world that the call's texts stand for
abbrev pub HasWorld : Given → Type 0
HasWorld given = (w : World) × StandsFor given w
