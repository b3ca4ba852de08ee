-- The printed texts of refusals, and where they stand.
use Rattle.std.specs.Prelude.{ℕ, List, [], ◌∷◌, ◌++◌, codes, Option, Some, None}
use Rattle.just_text.specs.Fields.{fields_behind}
use Rattle.just_text.specs.Names.{path_text}
use Rattle.just_text.specs.Texts.{error_text as text_refusal}
use Rattle.just_text.specs.Tokens.{lexeme, place_of}
use Rattle.just_text.specs.declared.name.Name.{Name}
use Rattle.just_text.specs.declared.token.Token.{Token}
use Rattle.tree_items.specs.Files.{list_text, unstable_text}
use Rattle.modules_compilation.specs.declared.error.Error.{Error}
use Rattle.modules_compilation.specs.declared.error.Error.TheVariants.{OutOfMemory, Syntax, MissingRoot, MissingImport, CircularImport, MissingModule, AmbiguousModule, Redefinition, DuplicateVariable, DuplicateSet, DuplicateUnexport, ExportUnexported, UnknownAliasTarget, UnstableFeature, ListsNeeded, CacheLeftOut, AttributeConflict}

-- the name of a refusal; that of a text alone has none of its own
abbrev pub refusal_name : Error → List ℕ
refusal_name OutOfMemory = codes "out of memory"
refusal_name (Syntax _) = []
refusal_name (MissingRoot _) = codes "missing root"
refusal_name (MissingImport _) = codes "missing import"
refusal_name (CircularImport _ _) = codes "circular import"
refusal_name (MissingModule _) = codes "missing module"
refusal_name (AmbiguousModule _ _) = codes "ambiguous module"
refusal_name (Redefinition _) = codes "redefinition"
refusal_name (DuplicateVariable _) = codes "duplicate variable"
refusal_name (DuplicateSet _) = codes "duplicate set"
refusal_name (DuplicateUnexport _) = codes "duplicate unexport"
refusal_name (ExportUnexported _) = codes "export unexported"
refusal_name (UnknownAliasTarget _ _) = codes "unknown alias target"
refusal_name (UnstableFeature _ _) = codes "unstable feature"
refusal_name (ListsNeeded _ _) = codes "lists needed"
refusal_name (CacheLeftOut _) = codes "cache left out"
refusal_name (AttributeConflict _ _ _) = codes "attribute conflict"

-- what a refusal names, in order
abbrev pub refusal_fields : Error → List (List ℕ)
refusal_fields OutOfMemory = []
refusal_fields (Syntax _) = []
refusal_fields (MissingRoot key) = key.now ∷ []
refusal_fields (MissingImport key) = key ∷ []
refusal_fields (CircularImport current import) = current.now ∷ import.now ∷ []
refusal_fields (MissingModule name) = lexeme name.token ∷ []
refusal_fields (AmbiguousModule name found) = lexeme name.token ∷ found
refusal_fields (Redefinition name) = lexeme name.token ∷ []
refusal_fields (DuplicateVariable name) = lexeme name.token ∷ []
refusal_fields (DuplicateSet name) = lexeme name.token ∷ []
refusal_fields (DuplicateUnexport name) = lexeme name.token ∷ []
refusal_fields (ExportUnexported name) = lexeme name.token ∷ []
refusal_fields (UnknownAliasTarget name target) = lexeme name.token ∷ path_text target ∷ []
refusal_fields (UnstableFeature feature _) = unstable_text feature ∷ []
refusal_fields (ListsNeeded feature _) = list_text feature ∷ []
refusal_fields (CacheLeftOut recipe) = lexeme recipe.token ∷ []
refusal_fields (AttributeConflict recipe one other) = lexeme recipe.token ∷ one.now ∷ other.now ∷ []

-- the text after the name: what is named, or the refusal of a text alone
abbrev pub behind_name : Error → List ℕ
behind_name (Syntax refusal) = text_refusal refusal.kind
behind_name refusal = fields_behind (refusal_fields refusal)

-- the whole text
abbrev pub refusal_text : Error → List ℕ
refusal_text refusal = refusal_name refusal ++ behind_name refusal

-- where a token begins: its file, its line and column, and its first byte
abbrev pub start_of : Token → List ℕ × ℕ × ℕ × ℕ
start_of token = (token.path.now, token.line, token.column, token.offset)

-- the token of the path's first name
abbrev pub first_of : List Name → Option Token
first_of [] = None
first_of (name ∷ names) = Some name.token

-- the token at whose beginning a refusal stands, if it has a place
abbrev pub refusal_place : Error → Option Token
refusal_place OutOfMemory = None
refusal_place (Syntax refusal) = place_of refusal
refusal_place (MissingRoot _) = None
refusal_place (MissingImport _) = None
refusal_place (CircularImport _ _) = None
refusal_place (MissingModule _) = None
refusal_place (AmbiguousModule _ _) = None
refusal_place (Redefinition name) = Some name.token
refusal_place (DuplicateVariable name) = Some name.token
refusal_place (DuplicateSet name) = Some name.token
refusal_place (DuplicateUnexport name) = Some name.token
refusal_place (ExportUnexported name) = Some name.token
refusal_place (UnknownAliasTarget _ target) = first_of target
refusal_place (UnstableFeature _ token) = Some token
refusal_place (ListsNeeded _ token) = Some token
refusal_place (CacheLeftOut recipe) = Some recipe.token
refusal_place (AttributeConflict recipe _ _) = Some recipe.token
