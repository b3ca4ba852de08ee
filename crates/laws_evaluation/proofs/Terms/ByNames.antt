-- The dialogue of an expression of the tree is that of its shape, numbers of variables apart.
use Rattle.std.proofs.Common.{◌≡◌, ℕ, List, Option, refl, sym, subst}
use Rattle.tree_expressions.specs.declared.expression.Expression.{Expression}
use Rattle.tree_expressions.specs.Shape.{shape_of}
use Rattle.parse_expressions.specs.Literals.{Origin}
use Rattle.meaning_dialogues.specs.Dialogue.{Dialogue, Lookup, around, Variable}
use Rattle.meaning_dialogues.specs.Evaluation.{Value, Stage, dialogue}
use Rattle.meaning_dialogues.specs.Terms.{Term, Terms, Holes, term_of, literal, command, format, variable, call, assertion, assertion_alone, both, either, negation, comparison, paired, rooted, appended, choice, choice_alone, listing, group, end, more, closed, hole}
use Rattle.meaning_dialogues.specs.Written.{term_in}
use Rattle.meaning_dialogues.proofs.Soundness.{Each, EachOf, EachHole}
use Rattle.laws_evaluation.specs.Terms.Alike.{Alike, AreAlike}
use Rattle.laws_evaluation.specs.Terms.Own.{HasNumbers, IsWrittenIn}
use Rattle.laws_evaluation.specs.Terms.Renumbering.{renumbered, renumbered_all, renumbered_holes}
use Rattle.laws_evaluation.proofs.Terms.Alike.{alike}
use Rattle.laws_evaluation.proofs.Terms.Renumbered.{kept}
use Rattle.laws_evaluation.proofs.Terms.Terms.{term_by_names}

module _ (number : List ℕ → Option ℕ) where
  -- a variable has the number of its name
  abbrev IsNumberedVariable : Variable → Type 0
  IsNumberedVariable x = x.number ≡ number x.name

  abbrev AnyCall : List ℕ → ℕ → Type 0
  AnyCall name count = Unit {0}

  mutual
    each : (t : Term) → Each IsNumberedVariable AnyCall (renumbered number t)
    each (literal cooked text) = tt
    each (command contents text) = tt
    each (format cooked text tripled holes) = each_hole holes
    each (variable name old) = refl
    each (call name file es) = (tt, each_of es)
    each (assertion c m) = (each c, each m)
    each (assertion_alone c) = each c
    each (both l r) = (each l, each r)
    each (either l r) = (each l, each r)
    each (negation e) = each e
    each (comparison operator l r) = (each l, each r)
    each (paired operator l r) = (each l, each r)
    each (rooted r) = each r
    each (appended l r) = (each l, each r)
    each (choice c t o) = (each c, each t, each o)
    each (choice_alone c t) = (each c, each t)
    each (listing es) = each_of es
    each (group e) = each e

    each_of : (es : Terms) → EachOf IsNumberedVariable AnyCall (renumbered_all number es)
    each_of end = tt
    each_of (more e es) = (each e, each_of es)

    each_hole : (hs : Holes) → EachHole IsNumberedVariable AnyCall (renumbered_holes number hs)
    each_hole closed = tt
    each_hole (hole e cooked text hs) = (each e, each_hole hs)

  -- where each variable of an expression has the number of its name, each of its term has
  pub each_variable : (e : Expression) → HasNumbers number e → Each IsNumberedVariable AnyCall (term_of e)
  each_variable e h = subst (Each IsNumberedVariable AnyCall) (kept number e h) (each (term_of e))

-- Two stages whose commands and calls are alike: by them the dialogues of an expression that is written in a file and of its shape are alike, the first with the numbers of the tree, the second with others, where the two numbers of each name correspond.
pub alike_by_names : (C : Lookup → Variable → Variable → Type 0) (x : Origin) (number names : List ℕ → Option ℕ) (first second : Stage)
    → ((name : List ℕ) → C around (record { name = name; number = number name }) (record { name = name; number = names name }))
    → first.lists ≡ second.lists
    → ((contents text : List ℕ) → Alike C (first.command contents text) (second.command contents text))
    → ((name file : List ℕ) (ds es : List (Dialogue Value)) → AreAlike C ds es → Alike C (first.call name file ds) (second.call name file es))
    → (e : Expression) → IsWrittenIn x number e → Alike C (dialogue first (term_of e)) (dialogue second (term_in x.expansion x.path names (shape_of e)))
alike_by_names C x number names first second corresponds lists commands calls e h =
    subst (λ (t : Term). Alike C (dialogue first (term_of e)) (dialogue second t)) (term_by_names x names e h.cooked)
    (alike C names (IsNumberedVariable number) (AnyCall number) first second
    (λ v is. subst (λ (n : Option ℕ). C around (record { name = v.name; number = n }) (record { name = v.name; number = names v.name })) (sym is) (corresponds v.name))
    lists commands calls (term_of e) (each_variable number e h.numbered))
