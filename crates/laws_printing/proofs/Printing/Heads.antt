-- The kinds of first words.
use Rattle.std.proofs.Common.{◌≡◌, ◌≢◌, ℕ, true, false, List, [], ◌∷◌, Option, Some, None, refl, sym, ap, ◌∙◌, arith}
use Rattle.std.specs.Str.{bytes_eq}
use Rattle.just_text.specs.Tokens.{Word}
use Rattle.just_text.specs.declared.token_kind.TokenKind.{TokenKind}
use Rattle.just_text.specs.declared.token_kind.TokenKind.TheVariants.{Backtick, Bang, BracketL, FormatStringStart, Identifier, ParenL, Slash, StringToken}
use Rattle.tree_expressions.specs.Shape.{Shape, literal, command, format, variable, call, assertion, assertion_alone, group, listing, choice, choice_alone, negation, rooted, binary}
use Rattle.tree_items.specs.Printable.{begins_with_else}
use Rattle.parse_expressions.specs.Words.{Begins, Mark, Lacks, LacksKeyword, if_keyword, else_keyword, assert_keyword}
use Rattle.parse_expressions.specs.Operators.{sign}
use Rattle.parse_expressions.specs.Literals.{Expansion}
use Rattle.parse_expressions.specs.Grammar.{Is}
use Rattle.std.proofs.lemmas.Slice.Eq.{bytes_eq-Decides}
use Rattle.laws_printing.specs.Printing.Words.{word}
use Rattle.laws_printing.specs.Printing.Laws.{Quieter}

-- the first word's kind
abbrev pub head : List Word → Option TokenKind
head [] = None
head (w ∷ ws) = Some w.kind

pub head_mark : (kind : TokenKind) (words rest : List Word) → Mark kind words rest → head words ≡ Some kind
head_mark kind words rest m = ap head m.1

pub head_word : (kind : TokenKind) (text : List ℕ) (words rest : List Word) → Begins kind text words rest → head words ≡ Some kind
head_word kind text words rest b = ap head b

-- the kind with which an expression begins
abbrev pub first_of : Shape → TokenKind
first_of (literal s) = StringToken
first_of (command s) = Backtick
first_of (format s hs) = FormatStringStart
first_of (group e) = ParenL
first_of (listing es) = BracketL
first_of (negation e) = Bang
first_of (rooted e) = Slash
first_of (binary operator l r) = first_of l
first_of e = Identifier

-- a word that comes first has that kind
kind_is : (k j : TokenKind) (words : List Word) → head words ≡ Some k → (rest : List Word) → Mark j words rest → k ≡ j
kind_is k j words h rest m = let p = sym h ∙ head_mark j words rest m in cc

-- what begins alike lacks alike
pub lacks_alike : (k : TokenKind) (before after : List Word) → head before ≡ head after → Lacks k before → Lacks k after
lacks_alike k [] after h l r m = let p = h ∙ head_mark k after r m in absurd cc
lacks_alike k (w ∷ ws) after h l r m =
    let p : Some w.kind ≡ Some k = h ∙ head_mark k after r m in
    let same : w.kind ≡ k = cc in
    l ws (w.text, ap (λ (kind : TokenKind). record { kind = kind; text = w.text } ∷ ws) same)

pub quiet_alike : (before after : List Word) → head before ≡ head after → Quieter before after
quiet_alike before after h = record { calls = lacks_alike ParenL before after h; operators = λ operator. lacks_alike (sign operator) before after h }

pub lacks_other : (k j : TokenKind) (words : List Word) → head words ≡ Some k → k ≢ j → Lacks j words
lacks_other k j words h d rest m = d (kind_is k j words h rest m)

pub no_else : (k : TokenKind) (words : List Word) → head words ≡ Some k → k ≢ Identifier → LacksKeyword else_keyword words
no_else k words h d rest b = d (kind_is k Identifier words h rest (else_keyword, b))

-- a name that isn't `else`
pub other_name : (name : List ℕ) (words rest : List Word) → Begins Identifier name words rest → bytes_eq name else_keyword ≡ false → LacksKeyword else_keyword words
other_name name words rest b n r e =
    let p : word Identifier name ∷ rest ≡ word Identifier else_keyword ∷ r = sym b ∙ e in
    let one : word Identifier name ≡ word Identifier else_keyword = cc in
    let same : name ≡ else_keyword = ap (λ (w : Word). w.text) one in
    let t : bytes_eq else_keyword else_keyword ≡ true = grind (arith, bytes_eq-Decides else_keyword else_keyword) in
    let q = rw same at n in
    absurd cc

module _ (expansion : Expansion) where
  pub head_is : (e : Shape) (words rest : List Word) → Is expansion e words rest → head words ≡ Some (first_of e)
  head_is (literal s) words rest i = ap head i.0
  head_is (command s) words rest i = ap head i.0
  head_is (format s hs) words rest i = ap head i.1
  head_is (variable x) words rest i = ap head i.0
  head_is (call f es) words rest i = ap head i.2
  head_is (assertion c m) words rest i = ap head i.5
  head_is (assertion_alone c) words rest i = ap head i.3
  head_is (group e) words rest i = ap head i.2.1
  head_is (listing es) words rest i = ap head i.1.1
  head_is (choice c t o) words rest i = ap head i.3
  head_is (choice_alone c t) words rest i = ap head i.2
  head_is (negation e) words rest i = ap head i.1.1
  head_is (rooted e) words rest i = ap head i.1.1
  head_is (binary operator l r) words rest i = head_is l words i.0 i.2

  pub lacks_else : (e : Shape) (words rest : List Word) → Is expansion e words rest → begins_with_else e ≡ false → LacksKeyword else_keyword words
  unfolding begins_with_else
  lacks_else (literal s) words rest i n = no_else StringToken words (head_is (literal s) words rest i) (λ p. absurd cc)
  lacks_else (command s) words rest i n = no_else Backtick words (head_is (command s) words rest i) (λ p. absurd cc)
  lacks_else (format s hs) words rest i n = no_else FormatStringStart words (head_is (format s hs) words rest i) (λ p. absurd cc)
  lacks_else (variable x) words rest i n = other_name x words rest i.0 n
  lacks_else (call f es) words rest i n = other_name f words i.0 i.2 n
  lacks_else (assertion c m) words rest i n = other_name assert_keyword words i.0 i.5 refl
  lacks_else (assertion_alone c) words rest i n = other_name assert_keyword words i.0 i.3 refl
  lacks_else (group e) words rest i n = no_else ParenL words (head_is (group e) words rest i) (λ p. absurd cc)
  lacks_else (listing es) words rest i n = no_else BracketL words (head_is (listing es) words rest i) (λ p. absurd cc)
  lacks_else (choice c t o) words rest i n = other_name if_keyword words i.0 i.3 refl
  lacks_else (choice_alone c t) words rest i n = other_name if_keyword words i.0 i.2 refl
  lacks_else (negation e) words rest i n = no_else Bang words (head_is (negation e) words rest i) (λ p. absurd cc)
  lacks_else (rooted e) words rest i n = no_else Slash words (head_is (rooted e) words rest i) (λ p. absurd cc)
  lacks_else (binary operator l r) words rest i n = lacks_else l words i.0 i.2 n
