-- The expressions of a setting see no parameter.
use Rattle.std.proofs.Common.{◌≡◌, inl, inr, refl, subst, List, [], ◌∷◌, map}
use Rattle.std.specs.Prelude.{Contains}
use Rattle.tree_attributes.specs.declared.setting.Setting.{Setting}
use Rattle.tree_attributes.specs.declared.setting.Setting.TheVariants.{DotenvCommand, DotenvFilename, DotenvPath, Indentation, MinimumVersion, ScriptInterpreter, Shell, Tempdir, Truth, WindowsShell, WorkingDirectory}
use Rattle.tree_expressions.specs.declared.expression.Expression.{Expression}
use Rattle.resolve_references.specs.Seen.{Seen, seeing, seen_in_setting}
use Rattle.meaning_rules.proofs.Worlds.Places.{contains_cases, contains_none}

-- it sees no parameter
abbrev pub IsPlain : Seen → Type 0
IsPlain s = seeing [] s.expression ≡ s

row_plain : (es : List Expression) (s : Seen) → Contains (map (seeing []) es) s → IsPlain s
row_plain [] s c = absurd (contains_none [] s refl c)
row_plain (e ∷ es) s c = elim (contains_cases (seeing [] e) (map (seeing []) es) s c) [
  | inl same ↦ subst IsPlain same refl
  | inr d ↦ row_plain es s d
]

none_plain : (s : Seen) → Contains [] s → IsPlain s
none_plain s c = absurd (contains_none [] s refl c)

pub setting_plain : (setting : Setting) (s : Seen) → Contains (seen_in_setting setting) s → IsPlain s
setting_plain (Truth which b) s c = none_plain s c
setting_plain (DotenvCommand e) s c = row_plain (e ∷ []) s c
setting_plain (DotenvFilename e) s c = row_plain (e ∷ []) s c
setting_plain (DotenvPath e) s c = row_plain (e ∷ []) s c
setting_plain (Indentation t) s c = none_plain s c
setting_plain (MinimumVersion t) s c = none_plain s c
setting_plain (ScriptInterpreter i) s c = row_plain (i.command ∷ i.arguments.items) s c
setting_plain (Shell i) s c = row_plain (i.command ∷ i.arguments.items) s c
setting_plain (Tempdir e) s c = row_plain (e ∷ []) s c
setting_plain (WindowsShell i) s c = row_plain (i.command ∷ i.arguments.items) s c
setting_plain (WorkingDirectory e) s c = row_plain (e ∷ []) s c
