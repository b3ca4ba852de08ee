-- Attributes are read where they are spelled, and only there.
use Rattle.std.proofs.Common.{◌≡◌, suc, true, List, [], ◌∷◌, length, map, Ok, Option, Some, None, refl, sym, inl, inr}
use Rattle.just_text.specs.Tokens.{Word}
use Rattle.just_text.specs.declared.token_kind.TokenKind.TheVariants.{BracketL, Identifier}
use Rattle.tree_attributes.specs.declared.attribute.AttributeKind.{AttributeKind}
use Rattle.tree_attributes.specs.Attributes.{AttributeShape, kind_name}
use Rattle.tree_attributes.specs.Forms.{form_of, takes}
use Rattle.parse_expressions.specs.Words.{Begins, Mark, Lacks}
use Rattle.parse_expressions.specs.Literals.{Expansion}
use Rattle.parse_expressions.specs.Laws.{Exactly}
use Rattle.parse_expressions.specs.Reading.{accept, expect}
use Rattle.parse_expressions.proofs.Taken.{bind_ok, inspect, test, turned, accept_mark, accept_none, expect_is, taken, marked, lacks_accept}
use Rattle.parse_attributes.specs.Rows.{Follow, IfGiven}
use Rattle.parse_attributes.specs.Arguments.{sort_of, Arguments, count, made}
use Rattle.parse_attributes.specs.Lines.{IsBetween, IsLast, AreArguments, IsAttribute, AreAttributes}
use Rattle.parse_attributes.specs.Reading.{kind_named, another_at, follow_at, arguments_at, known_at, attribute_at, attributes_at}
use Rattle.parse_attributes.specs.Laws.{AttributesExactly}
use Rattle.parse_attributes.proofs.Rest.{given_takes, between_takes, attribute_takes}
use Rattle.parse_attributes.proofs.RowsExact.{UnlessNone, some_follow, follow_some, Found, Again, turns_enough, follow_found, follow_again}
use Rattle.parse_expressions.proofs.TokensTaken.{Reads}
use Rattle.parse_attributes.proofs.KindNames.{has_name, found_by_name}
use Rattle.parse_attributes.proofs.ArgumentsExact.{made_known, arguments_found, arguments_again}
use Rattle.parse_attributes.proofs.LineEndsExact.{another_found, another_again}

module _ {T : Type 0} (word : T → Word) (expansion : Expansion) (expressions : Exactly word expansion 256 6) where
  -- ---- one attribute

  -- what is made of arguments that were read is an attribute
  made_found : (kind : AttributeKind) (ws : List Word) (ts : List T) (p : Arguments × List T) (o : Option AttributeShape) → Begins Identifier (kind_name kind) ws (map word ts) → arguments_at word expansion (sort_of (form_of kind)) ts ≡ Ok p
      → takes (form_of kind) (count p.0) ≡ true → made expansion kind p.0 ≡ o → UnlessNone (IsAttribute expansion) o ws (map word p.1)
  made_found kind ws ts p None name h enough makes = tt
  made_found kind ws ts p (Some x) name h enough makes =
      record { kind = kind; arguments = p.0; behind_name = map word ts; name = name; stand = arguments_found word expansion expressions (sort_of (form_of kind)) ts p h (made_known expansion kind p.0 x makes); taken = enough; makes = makes }

  known_found : (t : T) (kind : Option AttributeKind) (ws : List Word) (ts : List T) (p : Option AttributeShape × List T) → Begins Identifier (word t).text ws (map word ts) → kind_named (word t).text ≡ kind
      → known_at word expansion t kind ts ≡ Ok p → UnlessNone (IsAttribute expansion) p.0 ws (map word p.1)
  unfolding known_at
  known_found t None ws ts p first found h = absurd cc
  known_found t (Some kind) ws ts p first found h =
      let as' = bind_ok (arguments_at word expansion (sort_of (form_of kind)) ts) _ p h in
      let name : Begins Identifier (kind_name kind) ws (map word ts) = rw (has_name (word t).text kind found) first in
      elim (test (takes (form_of kind) (count as'.0.0))) [
        | inl w ↦
            let i = made_found kind ws ts as'.0 (made expansion kind as'.0.0) name as'.1 w refl in
            turned (λ (z : Option AttributeShape × List T). UnlessNone (IsAttribute expansion) z.0 ws (map word z.1)) (made expansion kind as'.0.0, as'.0.1) p (rw w at as'.2) i
        | inr w ↦ let q = rw w at as'.2 in absurd cc
      ]

  attribute_found : Found word (UnlessNone (IsAttribute expansion)) (attribute_at word expansion)
  unfolding attribute_at
  attribute_found ts p h = let t = bind_ok (expect word Identifier ts) _ p h in known_found t.0.0 (kind_named (word t.0.0).text) (map word ts) t.0.1 p (expect_is word Identifier ts t.0 t.1) refl t.2

  known_again : (t : T) (found : Option AttributeKind) (kind : AttributeKind) (arguments : Arguments) (x : AttributeShape) (ts : List T) (ws : List Word) → found ≡ Some kind → AreArguments expansion (sort_of (form_of kind)) arguments (map word ts) ws
      → takes (form_of kind) (count arguments) ≡ true → made expansion kind arguments ≡ Some x → Reads word (known_at word expansion t found ts) (Some x) ws
  unfolding known_at
  known_again t found kind arguments x ts ws is i enough makes =
      let r = arguments_again word expansion expressions (sort_of (form_of kind)) arguments ts ws i in
      record { rest = r.rest; is = rw (is, r.is, enough, makes) refl; others = r.others }

  attribute_again : (x : AttributeShape) (ts : List T) (ws : List Word) → IsAttribute expansion x (map word ts) ws → Reads word (attribute_at word expansion ts) (Some x) ws
  unfolding attribute_at
  attribute_again x ts ws i =
      let t = taken word Identifier (kind_name i.kind) ts i.behind_name i.name in
      let found = found_by_name i.kind (word t.token).text (sym t.says) in
      let r = known_again t.token (kind_named (word t.token).text) i.kind i.arguments x t.rest ws found (rw t.others i.stand) i.taken i.makes in
      record { rest = r.rest; is = rw t.expects r.is; others = r.others }

  given_again : Again word (IfGiven (IsAttribute expansion)) (attribute_at word expansion)
  given_again None ts ws i = absurd i
  given_again (Some x) ts ws i = attribute_again x ts ws i

  -- ---- all attributes

  -- up to rest there are lines of these attributes, as far as each is one
  abbrev AreLines : List (Option AttributeShape) → List Word → List Word → Type 0
  AreLines [] words rest = (words ≡ rest) × Lacks BracketL words
  AreLines (o ∷ os) words rest = (a b : List Word) × Mark BracketL words a × UnlessNone (IsAttribute expansion) o a b × Follow (UnlessNone (IsAttribute expansion)) IsBetween IsLast os b rest

  lines_found : Found word AreLines (attributes_at word expansion)
  unfolding attributes_at
  lines_found ts p h =
      elim (inspect (accept word BracketL ts)) [
        | inl w ↦ turned (λ (z : List (Option AttributeShape) × List T). AreLines z.0 (map word ts) (map word z.1)) ([], ts) p (rw w at h) (refl, accept_none word BracketL ts w)
        | inr w ↦
            let x = bind_ok (attribute_at word expansion w.0.1) _ p (rw w.1 at h) in
            let xs = bind_ok (follow_at word (attribute_at word expansion) (another_at word) (suc (length x.0.1)) x.0.1) _ p x.2 in
            let f = follow_found word (UnlessNone (IsAttribute expansion)) IsBetween IsLast (attribute_at word expansion) (another_at word) attribute_found (another_found word) (suc (length x.0.1)) x.0.1 xs.0 xs.1 in
            turned (λ (z : List (Option AttributeShape) × List T). AreLines z.0 (map word ts) (map word z.1)) (x.0.0 ∷ xs.0.0, xs.0.1) p xs.2
            (map word w.0.1, map word x.0.1, accept_mark word BracketL ts w.0 w.1, attribute_found w.0.1 x.0 x.1, f)
      ]

  lines_attributes : (xs : List AttributeShape) (words rest : List Word) → AreLines (map Some xs) words rest → AreAttributes expansion xs words rest
  lines_attributes [] words rest i = i
  lines_attributes (x ∷ xs) words rest (a, b, m, i, f) = (a, b, m, i, some_follow (IsAttribute expansion) IsBetween IsLast xs b rest f)

  attributes_again : (xs : List AttributeShape) (ts : List T) (ws : List Word) → AreAttributes expansion xs (map word ts) ws → Reads word (attributes_at word expansion ts) (map Some xs) ws
  unfolding attributes_at
  attributes_again [] ts ws (same, l) = record { rest = ts; is = rw (lacks_accept word BracketL ts l) refl; others = same }
  attributes_again (x ∷ xs) ts ws (a, b, m, i, f) =
      let o = marked word BracketL ts a m in
      let y = attribute_again x o.rest b (rw o.others i) in
      let each = given_takes (IsAttribute expansion) (attribute_takes expansion) in
      let r = follow_again word (IfGiven (IsAttribute expansion)) IsBetween IsLast (attribute_at word expansion) (another_at word) given_again (another_again word) each between_takes
      (map Some xs) (suc (length y.rest)) y.rest ws (turns_enough word y.rest) (rw y.others (follow_some (IsAttribute expansion) IsBetween IsLast xs b ws f)) in
      record { rest = r.rest; is = rw (o.accepts, y.is, r.is) refl; others = r.others }

  pub attributes_exactly : AttributesExactly word expansion
  attributes_exactly = record {
    found = λ ts rest xs h. lines_attributes xs (map word ts) (map word rest) (lines_found ts (map Some xs, rest) h);
    only = λ ts rest xs i. let r = attributes_again xs ts rest i in (r.rest, r.is, r.others);
  }
