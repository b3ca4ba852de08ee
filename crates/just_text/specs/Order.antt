-- The orders of tokens and of names. Two tokens, or two names, are equal only where all that can be seen of them is the same.
use Rattle.std.specs.Prelude.{◌≡◌, ℕ, List, [], ◌∷◌, Bool, ◌==◌, ◌&&◌}
use Rattle.std.specs.declared.cmp.Ordering.{Ordering}
use Rattle.std.specs.declared.cmp.Ordering.TheVariants.{Less, Equal, Greater}
use Rattle.std.specs.Ordering.{nat_cmp, on, then_cmp, ordering_then, eq_of_both, is_eq, eq_by_cmp}
use Rattle.std.specs.Cmp.Lexicographic.{slice_cmp, pointwise, texts_ties, lists_ties}
use Rattle.std.proofs.Common.{ap, ◌∙◌}
use Rattle.just_text.specs.contracts.token_kind.TokenKind.{the_type}
use Rattle.just_text.specs.declared.token.Token.{Token}
use Rattle.just_text.specs.declared.name.Name.{Name}
use Rattle.just_text.specs.Tokens.{lexeme}
use denote.Enum.Declared.{tag_of}

-- numbers one after the other, as the bytes of texts
abbrev pub numbers_cmp : List ℕ → List ℕ → Ordering
numbers_cmp = slice_cmp nat_cmp

abbrev pub numbers_eq : List ℕ → List ℕ → Bool
numbers_eq = pointwise (λ a b. a == b)

-- where a token stands, and which of all kinds it has
abbrev pub place : Token → List ℕ
place t = t.offset ∷ t.line ∷ t.column ∷ t.length ∷ tag_of the_type t.kind ∷ []

-- tokens by path, then by place and kind, and last by the whole source
abbrev pub token_cmp : Token → Token → Ordering
token_cmp = then_cmp (then_cmp (on (λ t. t.path.now) numbers_cmp) (on place numbers_cmp)) (on (λ t. t.src.now) numbers_cmp)

abbrev pub token_eq : Token → Token → Bool
token_eq = eq_of_both (eq_of_both (on (λ t. t.path.now) numbers_eq) (on place numbers_eq)) (on (λ t. t.src.now) numbers_eq)

-- names by their texts, then by where they are written
abbrev pub name_cmp : Name → Name → Ordering
name_cmp = then_cmp (on (λ n. lexeme n.token) numbers_cmp) (on (λ n. n.token) token_cmp)

abbrev pub name_eq : Name → Name → Bool
name_eq = eq_of_both (on (λ n. lexeme n.token) numbers_eq) (on (λ n. n.token) token_eq)

-- two equalities hold where two orders, one after the other, tell nothing apart
pub both_tie : (o p : Ordering) (a b : Bool) → a ≡ is_eq o → b ≡ is_eq p → (a && b) ≡ is_eq (ordering_then o p)
both_tie Less p a b first second = ap (λ v. v && b) first
both_tie Equal p a b first second = ap (λ v. v && b) first ∙ second
both_tie Greater p a b first second = ap (λ v. v && b) first

pub token_ties : (x y : Token) → token_eq x y ≡ eq_by_cmp token_cmp x y
token_ties x y =
    both_tie _ _ _ _ (both_tie _ _ _ _ (texts_ties x.path.now y.path.now) (texts_ties (place x) (place y)))
    (texts_ties x.src.now y.src.now)

pub name_ties : (x y : Name) → name_eq x y ≡ eq_by_cmp name_cmp x y
name_ties x y = both_tie _ _ _ _ (texts_ties (lexeme x.token) (lexeme y.token)) (token_ties x.token y.token)

-- paths name by name
abbrev pub names_cmp : List Name → List Name → Ordering
names_cmp = slice_cmp name_cmp

abbrev pub names_eq : List Name → List Name → Bool
names_eq = pointwise name_eq

pub names_ties : (xs ys : List Name) → names_eq xs ys ≡ eq_by_cmp names_cmp xs ys
names_ties = lists_ties name_cmp name_ties
