-- Where a whole expression is cooked, its outermost level is, and each part.
use Rattle.std.proofs.Common.{◌≡◌, ℕ, suc, List, [], ◌∷◌, ◌++◌, length, map, Some, None, refl, sym, ap, ◌∙◌}
use Rattle.std.specs.List.{AllByRecursion, flat_map}
use Rattle.std.proofs.lemmas.List.Folds.{flat_map-map}
use Rattle.just_text.specs.Tokens.{lexeme}
use Rattle.tree_expressions.specs.declared.string_literal.StringLiteral.{StringLiteral}
use Rattle.tree_expressions.specs.declared.string_kind.StringKind.{StringKind}
use Rattle.tree_expressions.specs.declared.expression.Expression.{Expression, roll-Expression, map-Expression}
use Rattle.tree_expressions.specs.declared.expression.Expression.TheOpen.{Expression-F}
use Rattle.tree_expressions.specs.declared.expression.Expression.TheFolds.{fold-roll-Expression}
use Rattle.tree_expressions.specs.Kinds.{kind_of}
use Rattle.tree_expressions.specs.Parts.{cooked_part}
use Rattle.tree_expressions.specs.Shape.{Shape, shape_step, shape_of, shapes_of, interpolations_of, written}
use Rattle.parse_expressions.specs.Literals.{Origin, Held, of_string, of_command, of_assertion, of_call, string_held, held_step, held_by, held_by_interpolations, cooked_in, cooked_in_all, cooked_in_interpolations, text_or_none, IsCooked, AreCooked, AreInterpolationsCooked}
use Rattle.parse_expressions.specs.Words.{assert_keyword}
use Rattle.laws_evaluation.specs.Terms.Parts.{EachPart, TrueOfParts}
use Rattle.laws_evaluation.specs.Terms.Own.{HasText, IsPartCooked, IsLevelCooked}
use Rattle.laws_evaluation.proofs.Terms.Induction.{induction}
use Rattle.laws_evaluation.proofs.Terms.Splitting.{lengths, split}

-- where what is held is equal, what it is of is
string_is : (kind : StringKind) (text : List ℕ) (s : StringLiteral) (a b : List Held) → string_held s ∷ a ≡ of_string kind text ∷ b → HasText kind text s × (a ≡ b)
string_is kind text s a b h = (record { kind_is = cc; text_is = cc }, cc)

assertion_is : (one other : List ℕ) (a b : List Held) → of_assertion one ∷ a ≡ of_assertion other ∷ b → (one ≡ other) × (a ≡ b)
assertion_is one other a b h = (cc, cc)

command_is : (one other : List ℕ) → of_command one ∷ [] ≡ of_command other ∷ [] → one ≡ other
command_is one other h = cc

call_is : (one other : List ℕ) (a b : List Held) → of_call one ∷ a ≡ of_call other ∷ b → (one ≡ other) × (a ≡ b)
call_is one other a b h = (cc, cc)

module _ (x : Origin) where
  -- what a level holds, and what it is to hold
  abbrev held : Expression-F Expression → List Held
  held level = held_step (map-Expression Expression (List Held) held_by level)

  abbrev wanted : Expression-F Expression → List Held
  wanted level = cooked_in x (shape_step (map-Expression Expression Shape shape_of level))

  held_is : (level : Expression-F Expression) → held_by (roll-Expression level) ≡ held level
  held_is level = fold-roll-Expression (List Held) held_step level

  wanted_is : (level : Expression-F Expression) → cooked_in x (shape_of (roll-Expression level)) ≡ wanted level
  wanted_is level = ap (cooked_in x) (fold-roll-Expression Shape shape_step level)

  -- it holds as much as it is to hold
  abbrev HoldsEnough : Expression → Type 0
  HoldsEnough e = length (held_by e) ≡ length (cooked_in x (shape_of e))

  row_length : (es : List Expression) → AllByRecursion HoldsEnough es → length (flat_map (λ inside. inside) (map held_by es)) ≡ length (cooked_in_all x (shapes_of es))
  row_length [] h = refl
  row_length (e ∷ es) h = lengths (held_by e) _ (cooked_in x (shape_of e)) _ h.0 (row_length es h.1)

  interpolations_length : (kind : StringKind) (es : List (Expression × StringLiteral)) → AllByRecursion (λ (e : Expression × StringLiteral). HoldsEnough e.0) es
      → length (held_by_interpolations (map (λ e. (held_by e.0, e.1)) es)) ≡ length (cooked_in_interpolations x kind (interpolations_of es))
  interpolations_length kind [] h = refl
  interpolations_length kind (e ∷ es) h =
      lengths (held_by e.0) (string_held e.1 ∷ held_by_interpolations (map (λ e. (held_by e.0, e.1)) es)) (cooked_in x (shape_of e.0)) (of_string kind (text_or_none (cooked_part kind (written e.1))) ∷ cooked_in_interpolations x kind (interpolations_of es)) h.0
      (ap suc (interpolations_length kind es h.1))

  level_length : (level : Expression-F Expression) → EachPart HoldsEnough level → length (held level) ≡ length (wanted level)
  level_length (Expression-F.And l r) h = lengths _ _ _ _ h.0 h.1
  level_length (Expression-F.Assert c None name) h = ap suc h
  level_length (Expression-F.Assert c (Some m) name) h = ap suc (lengths _ _ _ _ h.0 h.1)
  level_length (Expression-F.Backtick contents token) h = refl
  level_length (Expression-F.Call name es) h = ap suc (row_length es.items h)
  level_length (Expression-F.Comparison l operator r token) h = lengths _ _ _ _ h.0 h.1
  level_length (Expression-F.Concatenation l token r) h = lengths _ _ _ _ h.0 h.1
  level_length (Expression-F.Conditional c t None) h = lengths _ _ _ _ h.0 h.1
  level_length (Expression-F.Conditional c t (Some o)) h = lengths _ _ _ _ (lengths _ _ _ _ h.0 h.1) h.2
  level_length (Expression-F.FormatString start es) h = ap suc (interpolations_length (kind_of (written start)) es.items h)
  level_length (Expression-F.Group e) h = h
  level_length (Expression-F.Join None token r) h = h
  level_length (Expression-F.Join (Some l) token r) h = lengths _ _ _ _ h.0 h.1
  level_length (Expression-F.List es token) h = row_length es.items h
  level_length (Expression-F.ListConcatenation l token r) h = lengths _ _ _ _ h.0 h.1
  level_length (Expression-F.Not e) h = h
  level_length (Expression-F.Or l r) h = lengths _ _ _ _ h.0 h.1
  level_length (Expression-F.StringLiteral s) h = refl
  level_length (Expression-F.Variable name number) h = refl

  pub holds_enough : (e : Expression) → HoldsEnough e
  holds_enough = induction HoldsEnough (λ level h. ap length (held_is level) ∙ level_length level h ∙ sym (ap length (wanted_is level)))

  -- where what two expressions hold is what both are to hold, each is cooked
  two : (l r : Expression) → held_by l ++ held_by r ≡ cooked_in x (shape_of l) ++ cooked_in x (shape_of r) → IsCooked x l × IsCooked x r
  two l r h = split (held_by l) (held_by r) (cooked_in x (shape_of l)) (cooked_in x (shape_of r)) (holds_enough l) h

  three : (c t o : Expression) → (held_by c ++ held_by t) ++ held_by o ≡ (cooked_in x (shape_of c) ++ cooked_in x (shape_of t)) ++ cooked_in x (shape_of o) → IsCooked x c × IsCooked x t × IsCooked x o
  three c t o h =
      let parts = split (held_by c ++ held_by t) (held_by o) (cooked_in x (shape_of c) ++ cooked_in x (shape_of t)) (cooked_in x (shape_of o)) (lengths _ _ _ _ (holds_enough c) (holds_enough t)) h in
      let first = two c t parts.0 in
      (first.0, first.1, parts.1)

  -- where a row is cooked, its first expression is, and the others are
  pub row_parts : (e : Expression) (es : List Expression) → AreCooked x (e ∷ es) → IsCooked x e × AreCooked x es
  row_parts e es h = split (held_by e) (flat_map held_by es) (cooked_in x (shape_of e)) (cooked_in_all x (shapes_of es)) (holds_enough e) h

  -- so each is
  pub row_cooked : (es : List Expression) → AreCooked x es → AllByRecursion (IsCooked x) es
  row_cooked [] h = tt
  row_cooked (e ∷ es) h = let parts = row_parts e es h in (parts.0, row_cooked es parts.1)

  -- where interpolations are cooked, the first one's expression is, the part after it is, and the others are
  pub interpolation_parts : (kind : StringKind) (e : Expression × StringLiteral) (es : List (Expression × StringLiteral)) → AreInterpolationsCooked x kind (e ∷ es)
      → IsCooked x e.0 × IsPartCooked kind e.1 × AreInterpolationsCooked x kind es
  interpolation_parts kind e es h =
      let parts = split (held_by e.0) _ (cooked_in x (shape_of e.0)) _ (holds_enough e.0) h in
      let part = string_is kind _ e.1 _ _ parts.1 in
      (parts.0, part.0, part.1)

  -- so each expression is
  pub interpolations_cooked : (kind : StringKind) (es : List (Expression × StringLiteral)) → AreInterpolationsCooked x kind es → AllByRecursion (λ (e : Expression × StringLiteral). IsCooked x e.0) es
  interpolations_cooked kind [] h = tt
  interpolations_cooked kind (e ∷ es) h = let parts = interpolation_parts kind e es h in (parts.0, interpolations_cooked kind es parts.2)

  -- and each part is
  pub parts_cooked : (kind : StringKind) (es : List (Expression × StringLiteral)) → AreInterpolationsCooked x kind es → AllByRecursion (λ (e : Expression × StringLiteral). IsPartCooked kind e.1) es
  parts_cooked kind [] h = tt
  parts_cooked kind (e ∷ es) h = let parts = interpolation_parts kind e es h in (parts.1, parts_cooked kind es parts.2)

  level_parts : (level : Expression-F Expression) → held level ≡ wanted level → IsLevelCooked x level × EachPart (IsCooked x) level
  level_parts (Expression-F.And l r) h = (tt, two l.value r.value h)
  level_parts (Expression-F.Assert c None name) h = assertion_is _ _ _ _ h
  level_parts (Expression-F.Assert c (Some m) name) h = let parts = assertion_is (lexeme name.token) assert_keyword _ _ h in (parts.0, two c.value m.value parts.1)
  level_parts (Expression-F.Backtick contents token) h = (command_is _ _ h, tt)
  level_parts (Expression-F.Call name es) h =
      let parts = call_is name.token.path.now x.path _ _ h in
      (parts.0, row_cooked es.items (sym (flat_map-map (λ inside. inside) held_by es.items) ∙ parts.1))
  level_parts (Expression-F.Comparison l operator r token) h = (tt, two l.value r.value h)
  level_parts (Expression-F.Concatenation l token r) h = (tt, two l.value r.value h)
  level_parts (Expression-F.Conditional c t None) h = (tt, two c.value t.value h)
  level_parts (Expression-F.Conditional c t (Some o)) h = (tt, three c.value t.value o.value h)
  level_parts (Expression-F.FormatString start es) h =
      let parts = string_is (kind_of (written start)) _ start _ _ h in
      ((parts.0, parts_cooked (kind_of (written start)) es.items parts.1), interpolations_cooked (kind_of (written start)) es.items parts.1)
  level_parts (Expression-F.Group e) h = (tt, h)
  level_parts (Expression-F.Join None token r) h = (tt, h)
  level_parts (Expression-F.Join (Some l) token r) h = (tt, two l.value r.value h)
  level_parts (Expression-F.List es token) h = (tt, row_cooked es.items (sym (flat_map-map (λ inside. inside) held_by es.items) ∙ h))
  level_parts (Expression-F.ListConcatenation l token r) h = (tt, two l.value r.value h)
  level_parts (Expression-F.Not e) h = (tt, h)
  level_parts (Expression-F.Or l r) h = (tt, two l.value r.value h)
  level_parts (Expression-F.StringLiteral s) h = ((string_is _ _ s [] [] h).0, tt)
  level_parts (Expression-F.Variable name number) h = (tt, tt)

  -- where an expression is cooked, its level is, and each part
  pub cooked : TrueOfParts (IsCooked x) (IsLevelCooked x)
  cooked = record { at = λ level h. level_parts level (sym (held_is level) ∙ h ∙ wanted_is level) }
