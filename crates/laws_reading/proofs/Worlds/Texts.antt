-- What a text says, and for which reasons it is refused, can be told.
use Rattle.std.proofs.Common.{◌≡◌, ℕ, Option, Some, None, Result, Ok, Err, List, [], map, IsUtf8, refl, sym, ap, ◌∙◌, subst, inl, inr}
use Rattle.std.specs.Prelude.{◌↔◌}
use Rattle.std.proofs.lemmas.Str.{IsCharBoundary-start}
use Rattle.std.proofs.lemmas.Option.{none-some, same_Some}
use Rattle.just_text.specs.Tokens.{word_of}
use Rattle.just_text.specs.declared.compile_error.CompileErrorKind.{CompileErrorKind}
use Rattle.just_text.specs.declared.compile_error.CompileErrorKind.TheVariants.{OutOfMemory, NumbersUsed, UnexpectedToken}
use Rattle.just_text.specs.declared.token.Token.{Token}
use Rattle.just_text.specs.declared.token_kind.TokenKind.TheVariants.{Eof}
use Rattle.just_lexer.specs.Lexes.{Piece, piece_word, pieces, Lexes}
use Rattle.just_lexer.proofs.Loop.{faultless, these_are_all}
use Rattle.tree_items.specs.Files.{ItemShape}
use Rattle.parse_expressions.specs.Literals.{Expansion}
use Rattle.parse_expressions.specs.Reading.{unexpected, refused, shown}
use Rattle.parse_expressions.specs.Words.{significant}
use Rattle.parse_expressions.proofs.Taken.{ok_is}
use Rattle.parse_attributed_items.specs.Halting.{Halt, stopped, broken}
use Rattle.justfile_syntax.specs.Files.{Entry, items_in}
use Rattle.justfile_syntax.specs.Laws.{AreFile, FilesHold}
use Rattle.justfile_syntax.specs.Parsed.{HaltsBy, IsTooFew, last_token}
use Rattle.justfile_syntax.specs.Reading.{file_at}
use Rattle.justfile_syntax.specs.Reads.{Halts, IsSyntaxFault, Reads}
use Rattle.justfile_syntax.proofs.TextsSaid.{shown_words, words_are, spelled}
use Rattle.semver.specs.declared.Version.{Version}
use Rattle.laws_reading.specs.Tokens.Laws.{HasTokens, Decidable}
use Rattle.laws_reading.proofs.Tokens.Decidable.{faults_are_decidable, or_told, told_by, texts_lex}
use Rattle.laws_reading.proofs.Words.Halts.{halts_alike}
use Rattle.laws_reading.proofs.Worlds.Reasons.{kinds_are_told}

-- ---- where reading halts

-- some token, where none is told
some_token : (text : List ℕ) → IsUtf8 text → Token
some_token text utf8 = record {
  column = 0;
  kind = Eof;
  length = 0;
  line = 0;
  offset = 0;
  path = record { ref_ptr = (0, 0); now = [] };
  src = record { ref_ptr = (0, 0); now = text };
  begins = IsCharBoundary-start text utf8;
  ends = IsCharBoundary-start text utf8;
}

abbrev Somewhere : List Token → Result (List Entry) (Halt Token) → CompileErrorKind → Type 0
Somewhere ts read kind = (token : Token) × HaltsBy ts read token kind

few_told : (some : Token) (last : Option Token) (kind : CompileErrorKind) → Decidable ((token : Token) × IsTooFew last token kind)
few_told some None kind = told_by (λ e. (some, e)) (λ h. h.1) (kinds_are_told kind (UnexpectedToken Eof))
few_told some (Some last) kind = told_by (λ e. (last, (refl, e))) (λ h. h.1.1) (kinds_are_told kind (UnexpectedToken last.kind))

halts_there : (some : Token) (ts : List Token) (read : Result (List Entry) (Halt Token)) (kind : CompileErrorKind) → Decidable (Somewhere ts read kind)
halts_there some ts (Ok es) kind = inr (λ h. h.1)
halts_there some ts (Err (stopped (unexpected None))) kind = few_told some (last_token ts) kind
halts_there some ts (Err (stopped (unexpected (Some t)))) kind = told_by (λ e. (t, (refl, e))) (λ h. h.1.1) (kinds_are_told kind (UnexpectedToken t.kind))
halts_there some ts (Err (stopped (refused t k))) kind = told_by (λ e. (t, (refl, e))) (λ h. h.1.1) (kinds_are_told kind k)
halts_there some ts (Err (broken k)) kind = told_by (λ e. (some, e)) (λ h. h.1) (kinds_are_told kind k)

one_row : (text : List ℕ) (ts us : List Piece) → Lexes text ts → Lexes text us → ts ≡ us
one_row text ts us a b = these_are_all text ts us a.each a.whole b

module _ (tokens_read : FilesHold) (expansion : Expansion) (version : Version) (text : List ℕ) where
  read_of : List Token → Result (List Entry) (Halt Token)
  read_of ts = file_at word_of expansion version (shown ts)

  -- ---- what the text says

  -- so the text says
  abbrev pub IsSaid : Option (List ItemShape) → Type 0
  IsSaid said = (all : List ItemShape) → (said ≡ Some all) ↔ Reads expansion version text all

  module _ (t : HasTokens text) where
    words_same : map word_of (shown t.tokens) ≡ significant (map piece_word (pieces t.tokens))
    words_same = shown_words t.tokens ∙ ap significant (words_are t.tokens)

    derived : (es : List Entry) → read_of t.tokens ≡ Ok es → Reads expansion version text (items_in es)
    unfolding read_of
    derived es e =
        let f : AreFile expansion version es (significant (map piece_word (pieces t.tokens))) = subst (AreFile expansion version es) words_same ((tokens_read expansion version).found (shown t.tokens) es e) in
        record { tokens = pieces t.tokens; lexed = t.lexed; derived = record { entries = es; behind_mark = f.behind_mark; start = f.start; stand = f.stand; whole = refl } }

    read_again : (all : List ItemShape) → (r : Reads expansion version text all) → read_of t.tokens ≡ Ok r.derived.entries
    unfolding read_of
    read_again all r =
        let same : map piece_word r.tokens ≡ map piece_word (pieces t.tokens) = ap (map piece_word) (one_row text r.tokens (pieces t.tokens) r.lexed t.lexed) in
        let f : AreFile expansion version r.derived.entries (significant (map piece_word r.tokens)) = spelled expansion version (map piece_word r.tokens) all r.derived in
        (tokens_read expansion version).only (shown t.tokens) r.derived.entries (subst (AreFile expansion version r.derived.entries) (ap significant same ∙ sym words_same) f)

    said_by : (read : Result (List Entry) (Halt Token)) → read_of t.tokens ≡ read → (said : Option (List ItemShape)) × IsSaid said
    said_by (Ok es) e = (
      Some (items_in es),
      λ all. (
        λ s. subst (Reads expansion version text) (same_Some (items_in es) all s) (derived es e),
        λ r. ap Some (ap items_in (ok_is _ _ (sym e ∙ read_again all r)) ∙ sym r.derived.whole),
      ),
    )
    said_by (Err halt) e = (None, λ all. (λ s. absurd (none-some all s), λ r. absurd (let clash = sym e ∙ read_again all r in cc)))

  pub said_of : IsUtf8 text → (said : Option (List ItemShape)) × IsSaid said
  said_of utf8 =
      elim (texts_lex text utf8) [
        | inl t ↦ said_by t (read_of t.tokens) refl
        | inr f ↦ (None, λ all. (λ s. absurd (none-some all s), λ r. absurd (faultless text r.tokens f.0 f.1.0 r.lexed f.1.1)))
      ]

  -- ---- why it is refused

  halts_told : IsUtf8 text → (kind : CompileErrorKind) → Decidable (Halts expansion version text kind)
  unfolding read_of
  halts_told utf8 kind =
      elim (texts_lex text utf8) [
        | inl t ↦ told_by
            (λ (s : Somewhere t.tokens (read_of t.tokens) kind). record { tokens = t.tokens; lexed = t.lexed; token = s.0; halts = s.1 })
            (λ h. halts_alike expansion version h.tokens t.tokens (one_row text (pieces h.tokens) (pieces t.tokens) h.lexed t.lexed) h.token kind h.halts)
            (halts_there (some_token text utf8) t.tokens (read_of t.tokens) kind)
        | inr f ↦ inr (λ h. faultless text (pieces h.tokens) f.0 f.1.0 h.lexed f.1.1)
      ]

  pub refusal_told : IsUtf8 text → (kind : CompileErrorKind) → Decidable (IsSyntaxFault expansion version text kind)
  refusal_told utf8 OutOfMemory = inr (λ h. h)
  refusal_told utf8 NumbersUsed = inr (λ h. h)
  refusal_told utf8 kind = or_told (faults_are_decidable text utf8 kind) (halts_told utf8 kind)
