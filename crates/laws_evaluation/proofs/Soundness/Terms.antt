-- No term ends with `internal` whose commands and calls don't.
use Rattle.std.proofs.Common.{◌≡◌, ℕ, suc, List, [], ◌∷◌, ◌++◌, length, Option, Some, None, Ok, Err, refl, ap, subst}
use Rattle.std.specs.List.{flat_map}
use Rattle.tree_expressions.specs.declared.operator.ListOperator.{ListOperator}
use Rattle.tree_expressions.specs.declared.operator.ListOperator.TheVariants.{Join}
use Rattle.tree_expressions.specs.declared.operator.ConditionalOperator.{ConditionalOperator}
use Rattle.tree_expressions.specs.declared.operator.ConditionalOperator.TheVariants.{Equality, Inequality, RegexMatch, RegexMismatch}
use Rattle.tree_expressions.specs.Operators.{list_separator}
use Rattle.just_value.specs.Values.{joined, applied}
use Rattle.meaning_dialogues.specs.Faults.{TextPlace, assertion_failed, list_operation}
use Rattle.meaning_dialogues.specs.Dialogue.{Dialogue, Lookup, around, Variable}
use Rattle.meaning_dialogues.specs.Evaluation.{Value, Stage, row, sides, comparing, holding, failing, asserted, ticked, or_fault, operated, compared, one_text, dialogue, dialogues, filled, is_truthy, text_dialogue, interpreter_words, interpreter_dialogue}
use Rattle.meaning_dialogues.specs.Terms.{Term, Terms, Holes, literal, command, format, variable, call, assertion, assertion_alone, both, either, negation, comparison, paired, rooted, appended, choice, choice_alone, listing, group, end, more, closed, hole, printed}
use Rattle.meaning_dialogues.proofs.Soundness.{Each, EachOf, EachHole, count}
use Rattle.laws_evaluation.specs.Soundness.Endings.{NotInternal, Proper}
use Rattle.laws_evaluation.proofs.Soundness.Endings.{AllProper, then_proper, then_properly, choice_proper, either_proper, sides_proper, row_proper}

compared_proper : (operator : ConditionalOperator) (a b : Value) → NotInternal (compared operator a b)
compared_proper Equality a b = tt
compared_proper Inequality a b = tt
compared_proper RegexMatch a b = refl
compared_proper RegexMismatch a b = refl

value_proper : (o : Option Value) (a : Value) (operator : ListOperator) (b : Value) → NotInternal (or_fault o (list_operation a operator b))
value_proper (Some value) a operator b = tt
value_proper None a operator b = refl

operated_proper : (operator : ListOperator) (a b : Value) → NotInternal (operated operator a b)
operated_proper operator a b = value_proper (applied (list_separator operator) a b) a operator b

one_text_proper : (place : TextPlace) (value : Value) → NotInternal (one_text place value)
one_text_proper place [] = refl
one_text_proper place (t ∷ []) = tt
one_text_proper place (t ∷ s ∷ ts) = refl

words_proper : (setting : List ℕ) (value : Value) → NotInternal (interpreter_words setting value)
words_proper setting [] = refl
words_proper setting (first ∷ others) = tt

module _ (W : Lookup → Variable → Type 0) where
  -- one text never ends with `internal` where its value doesn't
  pub text_proper : (place : TextPlace) (given : Dialogue Value) → Proper W given → Proper W (text_dialogue place given)
  text_proper place given h = then_proper W given _ h (λ value. one_text_proper place value)

  -- nor does an interpreter where none of its elements does
  pub interpreter_proper : (setting : List ℕ) (given : List (Dialogue Value)) → AllProper W given → Proper W (interpreter_dialogue setting given)
  interpreter_proper setting given h = then_properly W _ (row given) _ (row_proper W given h) (λ values e. words_proper setting (flat_map (λ value. value) values))

-- the variables that the terms name may be read, and commands and calls don't end with `internal`
module _ (W : Lookup → Variable → Type 0) (V : Variable → Type 0) (C : List ℕ → ℕ → Type 0) (stage : Stage)
    (named : (x : Variable) → V x → W around x)
    (commands : (contents text : List ℕ) → Proper W (stage.command contents text))
    (calls : (name file : List ℕ) (ds : List (Dialogue Value)) → C name (length ds) → AllProper W ds → Proper W (stage.call name file ds)) where
  abbrev d : Term → Dialogue Value
  d t = dialogue stage t

  mutual
    -- a term whose variables and calls are such reads only such variables, and never ends with `internal`
    pub proper : (t : Term) → Each V C t → Proper W (dialogue stage t)
    proper (literal cooked text) h = tt
    proper (command contents text) h = commands contents text
    proper (format cooked text tripled holes) h = then_proper W (filled stage cooked holes) _ (holes_proper cooked holes h) (λ whole. tt)
    proper (variable name number) h = (named (record { name = name; number = number }) h, λ value. tt)
    proper (call name file es) h = calls name file (dialogues stage es) (subst (C name) (counted es) h.0) (all_proper es h.1)
    proper (assertion c m) h = then_proper W (d c) _ (proper c h.0) (λ v. choice_proper W (is_truthy v) _ (failing (d m)) tt (then_proper W (d m) _ (proper m h.1) (λ w. refl)))
    proper (assertion_alone c) h = then_proper W (d c) _ (proper c h) (λ v. either_proper (is_truthy v) (Ok (asserted stage.lists v)) (Err (assertion_failed (ticked (printed c)))) tt refl)
    proper (both l r) h = then_proper W (d l) _ (proper l h.0) (λ v. choice_proper W (is_truthy v) (d r) _ (proper r h.1) tt)
    proper (either l r) h = then_proper W (d l) _ (proper l h.0) (λ v. choice_proper W (is_truthy v) _ (d r) tt (proper r h.1))
    proper (negation e) h = then_proper W (d e) _ (proper e h) (λ v. tt)
    proper (comparison operator l r) h = then_proper W (comparing operator (d l) (d r)) _ (then_proper W (sides (d l) (d r)) _ (sides_proper W (d l) (d r) (proper l h.0) (proper r h.1)) (λ vs. compared_proper operator vs.0 vs.1)) (λ holds. tt)
    proper (paired operator l r) h = then_proper W (sides (d l) (d r)) _ (sides_proper W (d l) (d r) (proper l h.0) (proper r h.1)) (λ vs. operated_proper operator vs.0 vs.1)
    proper (rooted r) h = then_proper W (d r) _ (proper r h) (λ v. operated_proper Join ([] ∷ []) v)
    proper (appended l r) h = then_proper W (sides (d l) (d r)) _ (sides_proper W (d l) (d r) (proper l h.0) (proper r h.1)) (λ vs. tt)
    proper (choice c t o) h = then_proper W (holding (d c)) _ (then_proper W (d c) _ (proper c h.0) (λ v. tt)) (λ holds. choice_proper W holds (d t) (d o) (proper t h.1) (proper o h.2))
    proper (choice_alone c t) h = then_proper W (holding (d c)) _ (then_proper W (d c) _ (proper c h.0) (λ v. tt)) (λ holds. choice_proper W holds (d t) _ (proper t h.1) tt)
    proper (listing es) h = then_properly W _ (row (dialogues stage es)) _ (row_proper W (dialogues stage es) (all_proper es h)) (λ vs e. tt)
    proper (group e) h = proper e h

    -- so are the terms of a row
    pub all_proper : (es : Terms) → EachOf V C es → AllProper W (dialogues stage es)
    all_proper end h = tt
    all_proper (more e es) h = (proper e h.0, all_proper es h.1)

    holes_proper : (so_far : List ℕ) (hs : Holes) → EachHole V C hs → Proper W (filled stage so_far hs)
    holes_proper so_far closed h = tt
    holes_proper so_far (hole e cooked text hs) h = then_proper W (d e) _ (proper e h.0) (λ v. holes_proper (so_far ++ (joined v ++ cooked)) hs h.1)

    counted : (es : Terms) → count es ≡ length (dialogues stage es)
    counted end = refl
    counted (more e es) = ap suc (counted es)
