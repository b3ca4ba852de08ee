-- Which rule a refusal names.
use Rattle.std.specs.Prelude.{◌≡◌, ◌≢◌, ◌⊎◌, Option, Some, None}
use Rattle.just_text.specs.Tokens.{lexeme}
use Rattle.just_text.specs.declared.compile_error.CompileErrorKind.TheVariants.{NumbersUsed}
use Rattle.tree_items.specs.Paths.{path_names}
use Rattle.modules_compilation.specs.declared.error.Error.{Error}
use Rattle.modules_compilation.specs.declared.error.Error.TheVariants.{OutOfMemory, Syntax, MissingRoot, MissingImport, CircularImport, MissingModule, AmbiguousModule, Redefinition, DuplicateVariable, DuplicateSet, DuplicateUnexport, ExportUnexported, UnknownAliasTarget, UnstableFeature as UnstableError, ListsNeeded, CacheLeftOut, AttributeConflict}
use Rattle.meaning_rules.specs.Rules.{Rule, syntax, missing_root, missing_import, circular_import, missing_module, ambiguous_module, redefinition, duplicate_variable, duplicate_set, duplicate_unexport, export_unexported, unknown_alias_target, unstable_feature, lists_needed, cache_left_out, attribute_conflict}

-- the rule that a refusal names, with its fields
abbrev pub rule_of : Error → Option Rule
rule_of OutOfMemory = None
rule_of (Syntax refusal) = Some (syntax refusal.kind)
rule_of (MissingRoot key) = Some (missing_root key.now)
rule_of (MissingImport key) = Some (missing_import key)
rule_of (CircularImport current import) = Some (circular_import current.now import.now)
rule_of (MissingModule name) = Some (missing_module (lexeme name.token))
rule_of (AmbiguousModule name found) = Some (ambiguous_module (lexeme name.token) found)
rule_of (Redefinition name) = Some (redefinition (lexeme name.token))
rule_of (DuplicateVariable name) = Some (duplicate_variable (lexeme name.token))
rule_of (DuplicateSet name) = Some (duplicate_set (lexeme name.token))
rule_of (DuplicateUnexport name) = Some (duplicate_unexport (lexeme name.token))
rule_of (ExportUnexported name) = Some (export_unexported (lexeme name.token))
rule_of (UnknownAliasTarget alias target) = Some (unknown_alias_target (lexeme alias.token) (path_names target))
rule_of (UnstableError feature token) = Some (unstable_feature feature)
rule_of (ListsNeeded feature token) = Some (lists_needed feature)
rule_of (CacheLeftOut recipe) = Some (cache_left_out (lexeme recipe.token))
rule_of (AttributeConflict recipe one other) = Some (attribute_conflict (lexeme recipe.token) one.now other.now)

-- the refusal names a rule that is broken
abbrev pub IsNamedBy : (Rule → Type 0) → Error → Type 0
IsNamedBy Breaks refusal = (rule : Rule) × (rule_of refusal ≡ Some rule) × Breaks rule

-- the same, unless memory ran out
abbrev pub IsRefusedBy : (Rule → Type 0) → Error → Type 0
IsRefusedBy Breaks refusal = refusal ≢ OutOfMemory → IsNamedBy Breaks refusal

-- memory or numbers ran out
abbrev pub IsWant : Error → Type 0
IsWant OutOfMemory = Unit {0}
IsWant (Syntax refusal) = refusal.kind ≡ NumbersUsed
IsWant other = ⊥

-- the refusal names a rule that is broken, unless memory or numbers ran out
abbrev pub IsTold : (Rule → Type 0) → Error → Type 0
IsTold Breaks refusal = IsWant refusal ⊎ IsNamedBy Breaks refusal
