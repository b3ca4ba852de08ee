-- Words and texts say the items of one file at most, and a text that is refused says nothing.
use Rattle.std.proofs.Common.{◌≡◌, ℕ, List, [], ◌∷◌, Result, Ok, Err, map, refl, sym, ap, subst, ◌∙◌, inl, inr}
use Rattle.just_lexer.specs.Lexes.{Piece, pieces, piece_word, Lexes}
use Rattle.just_lexer.specs.Lexed.{HasFault}
use Rattle.just_lexer.specs.declared.position.Position.{Position}
use Rattle.just_text.specs.Tokens.{Word, word_of, words_of}
use Rattle.just_text.specs.declared.compile_error.CompileErrorKind.{CompileErrorKind}
use Rattle.just_text.specs.declared.compile_error.CompileErrorKind.TheVariants.{OutOfMemory, NumbersUsed}
use Rattle.just_text.specs.declared.token.Token.{Token}
use Rattle.tree_items.specs.Files.{ItemShape}
use Rattle.parse_expressions.specs.Words.{is_significant, significant}
use Rattle.parse_expressions.specs.Literals.{Expansion}
use Rattle.parse_expressions.specs.Reading.{shown}
use Rattle.parse_expressions.proofs.TokensTaken.{same_words}
use Rattle.parse_attributed_items.specs.Halting.{Halt}
use Rattle.semver.specs.declared.Version.{Version}
use Rattle.justfile_syntax.specs.Files.{Entry, items_in, Derives}
use Rattle.justfile_syntax.specs.Parsed.{HaltsBy}
use Rattle.justfile_syntax.specs.Reading.{file_at}
use Rattle.justfile_syntax.specs.Reads.{Reads, Halts, IsSyntaxFault}
use Rattle.justfile_syntax.specs.Laws.{AreFile, FilesExactly, AtMostOne, SaysAtMostOne, FaultsSayNothing}
use Rattle.parse_expressions.proofs.Taken.{test, ok_is}

-- the words of tokens that are not white space are their words that are not
pub shown_words : (ts : List Token) → map word_of (shown ts) ≡ significant (words_of ts)
shown_words [] = refl
shown_words (t ∷ ts) =
    elim (test (is_significant (word_of t))) [
      | inl h ↦ let s = shown_words ts in rw (h, s) refl
      | inr h ↦ let s = shown_words ts in rw (h, s) refl
    ]

pub words_are : (ts : List Token) → words_of ts ≡ map piece_word (pieces ts)
words_are [] = refl
words_are (t ∷ ts) = ap (λ ws. word_of t ∷ ws) (words_are ts)

pub spelled : (expansion : Expansion) (current : Version) (words : List Word) (items : List ItemShape) → (d : Derives expansion current words items) → AreFile expansion current d.entries (significant words)
spelled expansion current words items d = record { behind_mark = d.behind_mark; start = d.start; stand = d.stand }

no_halt : (ts : List Token) (read : Result (List Entry) (Halt Token)) (es : List Entry) (token : Token) (kind : CompileErrorKind) → read ≡ Ok es → HaltsBy ts read token kind → ⊥
no_halt ts (Ok xs) es token kind e h = h
no_halt ts (Err halt) es token kind e h = absurd cc

module _ (words_read : (expansion : Expansion) (current : Version) → FilesExactly (λ (w : Word). w) expansion current) where
  read_again : (expansion : Expansion) (current : Version) (words : List Word) (items : List ItemShape) → (d : Derives expansion current words items) → file_at (λ (w : Word). w) expansion current (significant words) ≡ Ok d.entries
  read_again expansion current words items d =
      let exactly = words_read expansion current in
      let file = spelled expansion current words items d in exactly.only (significant words) d.entries (rw (same_words (significant words)) file)

  pub one_file : AtMostOne
  one_file expansion current words items others d e =
      let same : d.entries ≡ e.entries = ok_is _ _ (sym (read_again expansion current words items d) ∙ read_again expansion current words others e) in d.whole ∙ ap items_in same ∙ sym e.whole

  module _ (one_row : (text : List ℕ) (ts us : List Piece) → Lexes text ts → Lexes text us → ts ≡ us) where
    pub one_saying : SaysAtMostOne
    one_saying expansion current text items others r s =
        let same = one_row text s.tokens r.tokens s.lexed r.lexed in
        one_file expansion current (map piece_word r.tokens) items others r.derived (subst (λ (ts : List Piece). Derives expansion current (map piece_word ts) others) same s.derived)

-- ---- faults

module _ (tokens_read : (expansion : Expansion) (current : Version) → FilesExactly word_of expansion current) (one_row : (text : List ℕ) (ts us : List Piece) → Lexes text ts → Lexes text us → ts ≡ us)
    (faultless : (text : List ℕ) (ts : List Piece) (kind : CompileErrorKind) (at : Position) → Lexes text ts → HasFault text kind at → ⊥) where
  module _ (expansion : Expansion) (current : Version) (text : List ℕ) (items : List ItemShape) (r : Reads expansion current text items) where
    never_halts : (kind : CompileErrorKind) → Halts expansion current text kind → ⊥
    never_halts kind h =
        let same : words_of h.tokens ≡ map piece_word r.tokens = words_are h.tokens ∙ ap (map piece_word) (one_row text (pieces h.tokens) r.tokens h.lexed r.lexed) in
        let d : Derives expansion current (words_of h.tokens) items = rw same r.derived in
        let file = spelled expansion current (words_of h.tokens) items d in
        let exactly = tokens_read expansion current in
        no_halt h.tokens (file_at word_of expansion current (shown h.tokens)) d.entries h.token kind (exactly.only (shown h.tokens) d.entries (rw (shown_words h.tokens) file)) h.halts

    never_faulty : (kind : CompileErrorKind) → IsSyntaxFault expansion current text kind → ⊥
    never_faulty OutOfMemory h = h
    never_faulty NumbersUsed h = h
    never_faulty kind h =
        elim h [
          | inl f ↦ faultless text r.tokens kind f.0 r.lexed f.1
          | inr f ↦ never_halts kind f
        ]

  pub faults_say_nothing : FaultsSayNothing
  faults_say_nothing expansion current text kind fault items r = never_faulty expansion current text items r kind fault
