-- Attributes.
use Rattle.std.proofs.Common.{◌≡◌, ℕ, zero, suc, Bool, Option, Some, None, Ok, List, [], ◌∷◌, map, length, refl, sym, ap, inl, inr}
use Rattle.std.specs.Prelude.{codes}
use Rattle.std.specs.Str.{bytes_eq}
use Rattle.just_text.specs.Tokens.{Word}
use Rattle.just_text.specs.declared.token_kind.TokenKind.TheVariants.{BracketL, BracketR, Colon, Comment, Eol, Equals, Identifier, ParenL, ParenR}
use Rattle.tree_attributes.specs.declared.attribute.AttributeKind.{AttributeKind}
use Rattle.parse_expressions.specs.Literals.{Expansion}
use Rattle.parse_expressions.specs.Words.{is_kind}
use Rattle.parse_expressions.specs.Reading.{on, Read, accept}
use Rattle.parse_expressions.specs.Rows.{more_at}
use Rattle.parse_expressions.proofs.Taken.{test}
use Rattle.parse_attributes.specs.Lines.{behind_comments}
use Rattle.parse_attributes.specs.Arguments.{Sort, of_strings, of_expressions, of_parameter, sort_of, Arguments}
use Rattle.tree_attributes.specs.Forms.{form_of}
use Rattle.parse_attributes.specs.Reading.{kind_named, follow_at, line_end_at, another_at, whole_at, text_at, assigned_at, long_at, value_at, unknown_at, named_at, option_at, others_at, inside_at, arguments_at, counted, known_at, attribute_at, attributes_at}
use Rattle.laws_reading.specs.Words.Mapped.{MapsTo, map_stop}
use Rattle.laws_reading.proofs.Words.Steps.{accepts, aside, bind, by, choose, either, expects, first_stops, length_there, ok, seen, stops}
use Rattle.laws_reading.proofs.Words.Expressions.{Gives, expression_goes, more_goes, string_goes}

module _ {T S : Type 0} (f : T → S) (word : S → Word) where
  comments_there : (ts : List T) → behind_comments word (map f ts) ≡ map f (behind_comments (seen f word) ts)
  unfolding behind_comments
  comments_there [] = refl
  comments_there (t ∷ []) = elim (test (is_kind (word (f t)).kind Comment)) [ inl h ↦ rw h refl | inr h ↦ rw h refl ]
  comments_there (t ∷ u ∷ us) =
      elim (test (is_kind (word (f t)).kind Comment)) [
        | inl h ↦ elim (test (is_kind (word (f u)).kind Eol)) [ inl j ↦ let e = comments_there us in rw (h, j) e | inr j ↦ rw (h, j) refl ]
        | inr h ↦ rw h refl
      ]

  module _ {A : Type 0} (item : List T → Read T A) (other : List S → Read S A) (both : (ts : List T) → Gives f word (item ts) (other (map f ts)))
      (more : List T → Read T Bool) (others : List S → Read S Bool) (mores : (ts : List T) → Gives f word (more ts) (others (map f ts))) where
    follow_goes : (n : ℕ) (ts : List T) → Gives f word (follow_at (seen f word) item more n ts) (follow_at word other others n (map f ts))
    unfolding follow_at
    follow_goes zero ts = first_stops f ts
    follow_goes (suc n) ts = bind _ (mores ts) (λ m. either refl (bind _ (both m.1) (λ x. bind _ (follow_goes n x.1) (λ xs. ok))) ok)

    pub follow_turns : (ts : List T) → Gives f word (follow_at (seen f word) item more (suc (length ts)) ts) (follow_at word other others (suc (length (map f ts))) (map f ts))
    follow_turns ts = rw (length_there f ts) (follow_goes (suc (length ts)) ts)

  line_end_goes : (ts : List T) → MapsTo (map_stop f) (map f) (line_end_at (seen f word) ts) (line_end_at word (map f ts))
  unfolding line_end_at
  line_end_goes ts =
      let a : List T = on (accept (seen f word) Comment ts) ts (λ p. p.1) in
      rw (aside f word Comment ts) (bind _ (expects f word Eol a) (λ e. record { is = ap Ok (sym (comments_there e.1)) }))

  another_goes : (ts : List T) → Gives f word (another_at (seen f word) ts) (another_at word (map f ts))
  unfolding another_at
  another_goes ts = bind _ (more_goes f word BracketR ts) (λ m. either refl ok (bind _ (line_end_goes m.1) (λ rest. choose _ (accepts f word BracketL rest) ok (λ o. ok))))

  module _ (expansion : Expansion) where
    whole_goes : (ts : List T) → Gives f word (whole_at (seen f word) expansion ts) (whole_at word expansion (map f ts))
    whole_goes ts = expression_goes f word expansion 256 6 ts

    text_goes : (ts : List T) → Gives f word (text_at (seen f word) expansion ts) (text_at word expansion (map f ts))
    text_goes ts = string_goes f word expansion ts

    assigned_goes : (ts : List T) → Gives f word (assigned_at (seen f word) expansion ts) (assigned_at word expansion (map f ts))
    unfolding assigned_at
    assigned_goes ts = bind _ (expects f word Equals ts) (λ q. text_goes q.1)

    long_goes : (ts : List T) → Gives f word (long_at (seen f word) expansion ts) (long_at word expansion (map f ts))
    unfolding long_at
    long_goes ts = choose _ (accepts f word Equals ts) ok (λ q. bind _ (text_goes q.1) (λ s. ok))

    value_goes : (ts : List T) → Gives f word (value_at (seen f word) expansion ts) (value_at word expansion (map f ts))
    unfolding value_at
    value_goes ts = bind _ (expects f word Equals ts) (λ q. whole_goes q.1)

    unknown_goes : (ts : List T) → MapsTo (map_stop f) (map f) (unknown_at (seen f word) expansion ts) (unknown_at word expansion (map f ts))
    unfolding unknown_at
    unknown_goes ts = choose _ (accepts f word Equals ts) ok (λ q. bind _ (whole_goes q.1) (λ e. ok))

    named_goes : (name : List ℕ) (ts : List T) → Gives f word (named_at (seen f word) expansion name ts) (named_at word expansion name (map f ts))
    unfolding named_at
    named_goes name ts =
        by (bytes_eq name (codes "flag")) ok
        (by (bytes_eq name (codes "multiple")) ok
        (by (bytes_eq name (codes "long")) (bind _ (long_goes ts) (λ l. ok))
        (by (bytes_eq name (codes "help")) (bind _ (assigned_goes ts) (λ s. ok))
        (by (bytes_eq name (codes "max")) (bind _ (assigned_goes ts) (λ s. ok))
        (by (bytes_eq name (codes "min")) (bind _ (assigned_goes ts) (λ s. ok))
        (by (bytes_eq name (codes "short")) (bind _ (assigned_goes ts) (λ s. ok))
        (by (bytes_eq name (codes "value")) (bind _ (value_goes ts) (λ s. ok))
        (bind _ (unknown_goes ts) (λ rest. ok)))))))))

    option_goes : (ts : List T) → Gives f word (option_at (seen f word) expansion ts) (option_at word expansion (map f ts))
    unfolding option_at
    option_goes ts = bind _ (expects f word Identifier ts) (λ t. named_goes (word (f t.0)).text t.1)

    others_goes : {A : Type 0} (item : List T → Read T A) (other : List S → Read S A) (both : (ts : List T) → Gives f word (item ts) (other (map f ts))) (ts : List T)
        → Gives f word (others_at (seen f word) expansion item ts) (others_at word expansion other (map f ts))
    others_goes item other both ts = follow_turns item other both (more_at (seen f word) ParenR) (more_at word ParenR) (more_goes f word ParenR) ts

    inside_goes : (sort : Sort) (ts : List T) → Gives f word (inside_at (seen f word) expansion sort ts) (inside_at word expansion sort (map f ts))
    unfolding inside_at
    inside_goes of_strings ts = bind _ (text_goes ts) (λ s. bind _ (others_goes (text_at (seen f word) expansion) (text_at word expansion) text_goes s.1) (λ ss. ok))
    inside_goes of_expressions ts = bind _ (whole_goes ts) (λ s. bind _ (others_goes (whole_at (seen f word) expansion) (whole_at word expansion) whole_goes s.1) (λ ss. ok))
    inside_goes of_parameter ts = bind _ (text_goes ts) (λ s. bind _ (others_goes (option_at (seen f word) expansion) (option_at word expansion) option_goes s.1) (λ ss. ok))

    arguments_goes : (sort : Sort) (ts : List T) → Gives f word (arguments_at (seen f word) expansion sort ts) (arguments_at word expansion sort (map f ts))
    unfolding arguments_at
    arguments_goes sort ts = choose _ (accepts f word ParenL ts) (choose _ (accepts f word Colon ts) ok (λ c. bind _ (text_goes c.1) (λ s. ok))) (λ o. inside_goes sort o.1)

    counted_goes : (t : T) (kind : AttributeKind) (arguments : Arguments) (ts : List T) → Gives f word (counted (seen f word) expansion t kind arguments ts) (counted word expansion (f t) kind arguments (map f ts))
    counted_goes t kind arguments ts = either refl ok stops

    known_goes : (t : T) (kind : Option AttributeKind) (ts : List T) → Gives f word (known_at (seen f word) expansion t kind ts) (known_at word expansion (f t) kind (map f ts))
    unfolding known_at
    known_goes t None ts = stops
    known_goes t (Some kind) ts = bind _ (arguments_goes (sort_of (form_of kind)) ts) (λ x. counted_goes t kind x.0 x.1)

    attribute_goes : (ts : List T) → Gives f word (attribute_at (seen f word) expansion ts) (attribute_at word expansion (map f ts))
    unfolding attribute_at
    attribute_goes ts = bind _ (expects f word Identifier ts) (λ t. known_goes t.0 (kind_named (word (f t.0)).text) t.1)

    pub attributes_goes : (ts : List T) → Gives f word (attributes_at (seen f word) expansion ts) (attributes_at word expansion (map f ts))
    unfolding attributes_at
    attributes_goes ts =
        choose _ (accepts f word BracketL ts) ok
        (λ o. bind _ (attribute_goes o.1) (λ x. bind _ (follow_turns (attribute_at (seen f word) expansion) (attribute_at word expansion) attribute_goes (another_at (seen f word)) (another_at word) another_goes x.1) (λ xs. ok)))
