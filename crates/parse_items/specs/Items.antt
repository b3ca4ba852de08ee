-- The grammar of items but recipes and settings, without attributes.
use Rattle.std.specs.Prelude.{ℕ, ◌≡◌, ◌⊎◌, Bool, true, false, List, [], ◌∷◌, Option, Some, None}
use Rattle.just_text.specs.Tokens.{Word}
use Rattle.just_text.specs.declared.token_kind.TokenKind.TheVariants.{ColonEquals, Comma, Identifier, ParenL, ParenR, QuestionMark, StringToken}
use Rattle.tree_items.specs.Files.{ItemShape, alias_item, assignment_item, function_item, import_item, module_item, unexport_item}
use Rattle.tree_items.specs.Items.{AliasShape, AssignmentShape, FunctionShape, ImportShape, ModuleShape}
use Rattle.parse_expressions.specs.Words.{Begins, Mark}
use Rattle.parse_expressions.specs.Literals.{Expansion, Cooks}
use Rattle.parse_expressions.specs.LineEnds.{IsEol}
use Rattle.parse_recipes.specs.Headers.{AreDistinct, IsPath}
use Rattle.parse_items.specs.Keywords.{alias_keyword, eager_keyword, export_keyword, import_keyword, mod_keyword, unexport_keyword}
use Rattle.parse_expressions.specs.Strings.{IsExpression, IsString}

-- up to rest there is the alias
abbrev pub IsAlias : AliasShape → List Word → List Word → Type 0
IsAlias a words rest =
    (b c d e : List Word) × Begins Identifier alias_keyword words b × Begins Identifier a.name b c × Mark ColonEquals c d × IsPath a.target d e × IsEol e rest

-- the words before the name of an assignment: whether it is exported, and whether it is eager, in either order
abbrev pub AreWords : Bool → Bool → List Word → List Word → Type 0
AreWords false false words rest = words ≡ rest
AreWords true false words rest = Begins Identifier export_keyword words rest
AreWords false true words rest = Begins Identifier eager_keyword words rest
AreWords true true words rest =
    ((a : List Word) × Begins Identifier export_keyword words a × Begins Identifier eager_keyword a rest)
    ⊎ ((a : List Word) × Begins Identifier eager_keyword words a × Begins Identifier export_keyword a rest)

-- up to rest there are these names and a closing parenthesis, a comma after each, which the last may lack
abbrev pub AreNames : List (List ℕ) → List Word → List Word → Type 0
AreNames [] words rest = Mark ParenR words rest
AreNames (name ∷ names) words rest =
    (a : List Word) × Begins Identifier name words a × (((b : List Word) × Mark Comma a b × AreNames names b rest) ⊎ ((names ≡ []) × Mark ParenR a rest))

-- `?` after the word of an item whose file may be missing
abbrev pub IsOptional : Bool → List Word → List Word → Type 0
IsOptional true words rest = Mark QuestionMark words rest
IsOptional false words rest = words ≡ rest

-- up to rest a name is not exported
abbrev pub IsUnexport : List ℕ → List Word → List Word → Type 0
IsUnexport name words rest = (b c : List Word) × Begins Identifier unexport_keyword words b × Begins Identifier name b c × IsEol c rest

module _ (expansion : Expansion) where
  -- up to rest there is the assignment
  abbrev pub IsAssignment : AssignmentShape → List Word → List Word → Type 0
  IsAssignment a words rest =
      (b c d e : List Word) × AreWords a.export a.eager words b × Begins Identifier a.name b c × Mark ColonEquals c d × IsExpression expansion a.value d e × IsEol e rest

  -- up to rest there is the function, whose parameters' names differ
  abbrev pub IsFunction : FunctionShape → List Word → List Word → Type 0
  IsFunction f words rest =
      (b c d e g : List Word) × Begins Identifier f.name words b × Mark ParenL b c × AreNames f.parameters c d × AreDistinct f.parameters
      × Mark ColonEquals d e × IsExpression expansion f.body e g × IsEol g rest

  -- up to rest there is the import
  abbrev pub IsImport : ImportShape → List Word → List Word → Type 0
  IsImport i words rest =
      (b c d : List Word) × Begins Identifier import_keyword words b × IsOptional i.optional b c × IsString expansion i.path c d × IsEol d rest

  -- up to rest there is the file of a submodule, or nothing where none is named
  abbrev pub IsFile : Option (List ℕ) → List Word → List Word → Type 0
  IsFile None words rest = words ≡ rest
  IsFile (Some path) words rest = IsString expansion path words rest

  -- up to rest there is the submodule
  abbrev pub IsModule : ModuleShape → List Word → List Word → Type 0
  IsModule m words rest =
      (b c d e : List Word) × Begins Identifier mod_keyword words b × IsOptional m.optional b c × Begins Identifier m.name c d × IsFile m.path d e × IsEol e rest

  -- up to rest there is the item, which is neither a recipe nor a setting and has no attributes
  abbrev pub IsItem : ItemShape → List Word → List Word → Type 0
  IsItem (alias_item [] a) words rest = IsAlias a words rest
  IsItem (assignment_item [] a) words rest = IsAssignment a words rest
  IsItem (function_item f) words rest = IsFunction f words rest
  IsItem (import_item i) words rest = IsImport i words rest
  IsItem (module_item [] m) words rest = IsModule m words rest
  IsItem (unexport_item name) words rest = IsUnexport name words rest
  IsItem other words rest = ⊥
