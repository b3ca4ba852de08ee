-- What a term names is what the references of its expression name.
use Rattle.std.proofs.Common.{◌≡◌, refl, sym, ap, subst, List, [], ◌∷◌, ◌++◌, map, length, Some, None, ℕ, suc}
use Rattle.std.specs.Prelude.{Contains}
use Rattle.std.specs.List.{AllByRecursion, flat_map}
use Rattle.std.proofs.lemmas.List.Elements.{Contains-append_left, Contains-append_right}
use Rattle.just_text.specs.Tokens.{lexeme}
use Rattle.tree_expressions.specs.declared.string_literal.StringLiteral.{StringLiteral}
use Rattle.tree_expressions.specs.Numbering.{beside}
use Rattle.tree_expressions.specs.declared.expression.Expression.{Expression, map-Expression, roll-Expression}
use Rattle.tree_expressions.specs.declared.expression.Expression.TheOpen.{Expression-F}
use Rattle.tree_expressions.specs.declared.expression.Expression.TheFolds.{fold-roll-Expression}
use Rattle.resolve_references.specs.References.{references_of, references_step}
use Rattle.resolve_references.specs.declared.references.Reference.{Reference}
use Rattle.resolve_references.specs.declared.references.Reference.TheVariants.{Call, Variable}
use Rattle.meaning_dialogues.specs.Dialogue.{Variable as NamedVariable}
use Rattle.meaning_dialogues.specs.Terms.{Term, holes_of, term_of, term_step, terms_of}
use Rattle.meaning_dialogues.proofs.Soundness.{Each, EachHole, EachOf, count}
use Rattle.laws_evaluation.specs.Terms.Parts.{EachPart}
use Rattle.laws_evaluation.proofs.Terms.Induction.{induction}
use Rattle.meaning_rules.proofs.Worlds.Places.{contains_first, contains_later}

module _ (V : NamedVariable → Type 0) (C : List ℕ → ℕ → Type 0) where
  -- a reference is a variable that is such, or a call that is such
  abbrev pub IsSo : Reference → Type 0
  IsSo (Call name arguments) = C (lexeme name.token) arguments
  IsSo (Variable name number) = V (record { name = lexeme name.token; number = number })

  abbrev AreSo : List Reference → Type 0
  AreSo rs = (r : Reference) → Contains rs r → IsSo r

  abbrev Follows : Expression → Type 0
  Follows e = AreSo (references_of e) → Each V C (term_of e)

  left : (a b : List Reference) → AreSo (a ++ b) → AreSo a
  left a b all r c = all r (Contains-append_left a b r c)

  right : (a b : List Reference) → AreSo (a ++ b) → AreSo b
  right a b all r c = all r (Contains-append_right a b r c)

  row : (es : List Expression) → AllByRecursion Follows es → AreSo (flat_map (λ e. e) (map references_of es)) → EachOf V C (terms_of es)
  row [] h all = tt
  row (e ∷ es) h all = (h.0 (left (references_of e) (flat_map (λ e. e) (map references_of es)) all), row es h.1 (right (references_of e) (flat_map (λ e. e) (map references_of es)) all))

  parts : (es : List (Expression × StringLiteral)) → AllByRecursion (λ (e : Expression × StringLiteral). Follows e.0) es → AreSo (flat_map (λ (e : List Reference × StringLiteral). e.0) (map (beside references_of) es)) → EachHole V C (holes_of es)
  parts [] h all = tt
  parts (e ∷ es) h all =
      let others = flat_map (λ (e : List Reference × StringLiteral). e.0) (map (beside references_of) es) in
      (h.0 (left (references_of e.0) others all), parts es h.1 (right (references_of e.0) others all))

  as_many : (es : List Expression) → length (map references_of es) ≡ count (terms_of es)
  as_many [] = refl
  as_many (e ∷ es) = ap suc (as_many es)

  sides : (l r : Expression) → Follows l → Follows r → AreSo (references_of l ++ references_of r) → Each V C (term_of l) × Each V C (term_of r)
  sides l r h g all = (h (left (references_of l) (references_of r) all), g (right (references_of l) (references_of r) all))

  level_so : (level : Expression-F Expression) → EachPart Follows level → AreSo (references_step (map-Expression Expression (List Reference) references_of level)) → Each V C (term_step (map-Expression Expression Term term_of level))
  level_so (Expression-F.And l r) h all = sides l.value r.value h.0 h.1 all
  level_so (Expression-F.Assert c None name) h all = h all
  level_so (Expression-F.Assert c (Some m) name) h all = sides c.value m.value h.0 h.1 all
  level_so (Expression-F.Backtick contents token) h all = tt
  level_so (Expression-F.Call name es) h all =
      let inside = flat_map (λ e. e) (map references_of es.items) in
      let call = Call name (length (map references_of es.items)) in
      (subst (C (lexeme name.token)) (as_many es.items) (all call (contains_first call inside)), row es.items h (λ r c. all r (contains_later call inside r c)))
  level_so (Expression-F.Comparison l operator r token) h all = sides l.value r.value h.0 h.1 all
  level_so (Expression-F.Concatenation l token r) h all = sides l.value r.value h.0 h.1 all
  level_so (Expression-F.Conditional c t None) h all = sides c.value t.value h.0 h.1 all
  level_so (Expression-F.Conditional c t (Some o)) h all =
      let first = references_of c.value ++ references_of t.value in
      let both = sides c.value t.value h.0 h.1 (left first (references_of o.value) all) in
      (both.0, both.1, h.2 (right first (references_of o.value) all))
  level_so (Expression-F.FormatString start es) h all = parts es.items h all
  level_so (Expression-F.Group e) h all = h all
  level_so (Expression-F.Join None token r) h all = h all
  level_so (Expression-F.Join (Some l) token r) h all = sides l.value r.value h.0 h.1 all
  level_so (Expression-F.List es token) h all = row es.items h all
  level_so (Expression-F.ListConcatenation l token r) h all = sides l.value r.value h.0 h.1 all
  level_so (Expression-F.Not e) h all = h all
  level_so (Expression-F.Or l r) h all = sides l.value r.value h.0 h.1 all
  level_so (Expression-F.StringLiteral s) h all = tt
  level_so (Expression-F.Variable name number) h all = all (Variable name number) (contains_first (Variable name number) [])

  step : (level : Expression-F Expression) → EachPart Follows level → Follows (roll-Expression level)
  step level inside all =
      subst (Each V C) (sym (fold-roll-Expression Term term_step level))
      (level_so level inside (subst AreSo (fold-roll-Expression (List Reference) references_step level) all))

  -- where the references of an expression are such, what its term names is
  pub each_so : (e : Expression) → ((r : Reference) → Contains (references_of e) r → IsSo r) → Each V C (term_of e)
  each_so = induction Follows step
