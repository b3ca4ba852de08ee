-- What a text says, by its tokens.
use Rattle.std.proofs.Common.{◌≡◌, ℕ, List, [], ◌∷◌, Result, Ok, Err, map, refl, sym, subst, ap, ◌∙◌, inl, inr}
use Rattle.std.specs.Prelude.{IfOk, IfErr}
use Rattle.just_text.specs.Tokens.{Word, words_of, word_of}
use Rattle.just_text.specs.declared.token.Token.{Token}
use Rattle.just_text.specs.declared.compile_error.CompileError.{CompileError}
use Rattle.just_text.specs.declared.compile_error.CompileErrorKind.{CompileErrorKind}
use Rattle.just_text.specs.declared.compile_error.CompileErrorKind.TheVariants as kinds
use Rattle.just_lexer.specs.Lexed.{AllBorrow, FaultStands}
use Rattle.just_lexer.specs.Lexes.{Piece, pieces, piece_word, Lexes}
use Rattle.tree_items.specs.declared.ast.Ast.{Ast}
use Rattle.tree_items.specs.Files.{ItemShape, item_shapes}
use Rattle.parse_expressions.specs.Literals.{Expansion}
use Rattle.parse_expressions.specs.Reading.{shown}
use Rattle.justfile_syntax.specs.Files.{Derives}
use Rattle.justfile_syntax.specs.Parsed.{GivesItems, HaltsBy, IsReason, RefusalHolds}
use Rattle.justfile_syntax.specs.Reading.{file_at}
use Rattle.justfile_syntax.specs.Reads.{Halts, IsRefusal, Reads, Stands}
use Rattle.semver.specs.declared.Version.{Version}

words_are : (ts : List Token) → words_of ts ≡ map piece_word (pieces ts)
words_are [] = refl
words_are (t ∷ ts) = ap (λ (l : List Word). word_of t ∷ l) (words_are ts)

module _ (expansion : Expansion) (current : Version) (used : Type 0) (text : List ℕ) where
  -- by the tokens that the lexer found and handed over
  module _ (found handed : List Token) (same : handed ≡ found) (lexed : Lexes text (pieces found)) where
    words : words_of handed ≡ map piece_word (pieces found)
    words = ap words_of same ∙ words_are found

    pub said : (result : Result Ast CompileError) → IfOk result (λ ast. Derives expansion current (words_of handed) (item_shapes ast.items.items)) → IfOk result (λ ast. Reads expansion current text (item_shapes ast.items.items))
    said (Ok ast) derived = record { tokens = pieces found; lexed = lexed; derived = subst (λ (ws : List Word). Derives expansion current ws (item_shapes ast.items.items)) words derived }
    said (Err e) derived = tt

    pub only_said : (result : Result Ast CompileError) → ((us : List Piece) → Lexes text us → pieces found ≡ us) → ((items : List ItemShape) → Derives expansion current (words_of handed) items → GivesItems used result items) → (items : List ItemShape)
        → Reads expansion current text items → GivesItems used result items
    only_said result one only items reads =
        let e : words_of handed ≡ map piece_word reads.tokens = words ∙ ap (map piece_word) (one reads.tokens reads.lexed) in
        only items (subst (λ (ws : List Word). Derives expansion current ws items) (sym e) reads.derived)

    halts : (token : Token) (kind : CompileErrorKind) → HaltsBy handed (file_at word_of expansion current (shown handed)) token kind → Halts expansion current text kind
    halts token kind by = record { tokens = found; lexed = lexed; token = token; halts = rw same at by }

    refused_by : (token : Token) (kind : CompileErrorKind) → RefusalHolds used expansion current (words_of handed) kind → IsReason expansion current handed token kind → IsRefusal expansion current used text kind
    refused_by token kinds.OutOfMemory holds why = tt
    refused_by token kinds.NumbersUsed holds why = holds
    refused_by token kind holds why = inr (halts token kind why)

    pub refused_said : (result : Result Ast CompileError) → IfErr result (λ e. RefusalHolds used expansion current (words_of handed) e.kind) → IfErr result (λ e. IsReason expansion current handed e.token e.kind)
        → IfErr result (λ e. IsRefusal expansion current used text e.kind)
    refused_said (Ok ast) holds why = tt
    refused_said (Err e) holds why = refused_by e.token e.kind holds why

    module _ (path : List ℕ) (borrowed : AllBorrow path text found) where
      stands_by : (token : Token) (kind : CompileErrorKind) → IsReason expansion current handed token kind → Stands expansion current path text token kind
      stands_by token kinds.OutOfMemory why = tt
      stands_by token kinds.NumbersUsed why = tt
      stands_by token kind why = inr (record { tokens = found; lexed = lexed; borrowed = borrowed; halts = rw same at why })

      pub stands_read : (result : Result Ast CompileError) → IfErr result (λ e. IsReason expansion current handed e.token e.kind) → IfErr result (λ e. Stands expansion current path text e.token e.kind)
      stands_read (Ok ast) why = tt
      stands_read (Err e) why = stands_by e.token e.kind why

-- a fault of the lexer stands where it says
pub stands_lexed : (expansion : Expansion) (current : Version) (path text : List ℕ) (token : Token) (kind : CompileErrorKind) → FaultStands path text kind token → Stands expansion current path text token kind
stands_lexed expansion current path text token kinds.OutOfMemory at = tt
stands_lexed expansion current path text token kinds.NumbersUsed at = tt
stands_lexed expansion current path text token kind at = inl at
