-- What a parser of files answers.
use Rattle.std.specs.Prelude.{ℕ, ◌≡◌, ◌-◌, List, [], ◌∷◌, length, slice_get, Option, Some, None, Result, Ok, Err}
use Rattle.std.specs.List.{All}
use Rattle.just_text.specs.Tokens.{Word, word_of}
use Rattle.just_text.specs.declared.compile_error.CompileError.{CompileError}
use Rattle.just_text.specs.declared.compile_error.CompileErrorKind.{CompileErrorKind}
use Rattle.just_text.specs.declared.compile_error.CompileErrorKind.TheVariants.{OutOfMemory, NumbersUsed, UnexpectedToken}
use Rattle.just_text.specs.declared.token.Token.{Token}
use Rattle.just_text.specs.declared.token_kind.TokenKind.TheVariants.{Eof}
use Rattle.tree_items.specs.declared.ast.Ast.{Ast}
use Rattle.tree_items.specs.Files.{ItemShape, item_shapes}
use Rattle.parse_expressions.specs.Literals.{Expansion, Origin}
use Rattle.parse_expressions.specs.Reading.{Stop, unexpected, refused, shown}
use Rattle.parse_attributed_items.specs.Halting.{Halt, stopped, broken}
use Rattle.parse_attributed_items.specs.Held.{IsItemCooked, IsOwnItem}
use Rattle.justfile_syntax.specs.Features.{features_of}
use Rattle.justfile_syntax.specs.Files.{Derives, Entry}
use Rattle.justfile_syntax.specs.Reading.{file_at}
use Rattle.semver.specs.declared.Version.{Version}

-- want of memory, or of numbers where none is left
abbrev pub IsWant : Type 0 → CompileErrorKind → Type 0
IsWant used OutOfMemory = Unit {0}
IsWant used NumbersUsed = used
IsWant used other = ⊥

-- where numbers ran out there were few
abbrev pub IfNumbersUsed : Type 0 → CompileErrorKind → Type 0
IfNumbersUsed few NumbersUsed = few
IfNumbersUsed few other = Unit {0}

-- the tree of these items, unless memory or numbers ran out
abbrev pub GivesItems : Type 0 → Result Ast CompileError → List ItemShape → Type 0
GivesItems used (Ok ast) items = item_shapes ast.items.items ≡ items
GivesItems used (Err e) items = IsWant used e.kind

-- nothing is derived, unless memory or numbers ran out
abbrev pub RefusalHolds : Type 0 → Expansion → Version → List Word → CompileErrorKind → Type 0
RefusalHolds used expansion current words OutOfMemory = Unit {0}
RefusalHolds used expansion current words NumbersUsed = used
RefusalHolds used expansion current words kind = (items : List ItemShape) → Derives expansion current words items → ⊥

-- where tokens end too early: at the last of them
abbrev pub IsTooFew : Option Token → Token → CompileErrorKind → Type 0
IsTooFew None token kind = kind ≡ UnexpectedToken Eof
IsTooFew (Some last) token kind = (token ≡ last) × (kind ≡ UnexpectedToken last.kind)

abbrev pub last_token : List Token → Option Token
last_token tokens = slice_get tokens (length tokens - 1)

-- the path of the first token; empty where there is none
abbrev pub path_ahead : List Token → List ℕ
path_ahead [] = []
path_ahead (t ∷ ts) = t.path.now

-- why reading these tokens stops, at which token: one that no rule takes, or one that breaks a rule; where they end too early, at the last
abbrev pub IsStop : List Token → Stop Token → Token → CompileErrorKind → Type 0
IsStop tokens (unexpected None) token kind = IsTooFew (last_token tokens) token kind
IsStop tokens (unexpected (Some t)) token kind = (token ≡ t) × (kind ≡ UnexpectedToken t.kind)
IsStop tokens (refused t k) token kind = (token ≡ t) × (kind ≡ k)

-- why reading halts
abbrev pub IsHalt : List Token → Halt Token → Token → CompileErrorKind → Type 0
IsHalt tokens (stopped stop) token kind = IsStop tokens stop token kind
IsHalt tokens (broken k) token kind = kind ≡ k

abbrev pub HaltsBy : List Token → Result (List Entry) (Halt Token) → Token → CompileErrorKind → Type 0
HaltsBy tokens (Ok es) token kind = ⊥
HaltsBy tokens (Err halt) token kind = IsHalt tokens halt token kind

-- the refusal is that which reading the tokens in order meets first, unless memory or numbers ran out
abbrev pub IsReason : Expansion → Version → List Token → Token → CompileErrorKind → Type 0
IsReason expansion current tokens token OutOfMemory = Unit {0}
IsReason expansion current tokens token NumbersUsed = Unit {0}
IsReason expansion current tokens token kind = HaltsBy tokens (file_at word_of expansion current (shown tokens)) token kind

-- What a tree holds beside its shape: the texts of its strings, what attributes make of items, and its features.
pub record IsWhole (origin : Origin) (ast : Ast) : Type 0 where
  pub cooked : All (IsItemCooked origin) ast.items.items
  pub own : All (IsOwnItem origin.expansion) ast.items.items
  pub features : ast.unstable_features.items ≡ features_of (item_shapes ast.items.items)
