-- A term whose variables have other numbers.
use Rattle.std.specs.Prelude.{ℕ, List, Option}
use Rattle.meaning_dialogues.specs.Terms.{Term, Terms, Holes, literal, command, format, variable, call, assertion, assertion_alone, both, either, negation, comparison, paired, rooted, appended, choice, choice_alone, listing, group, end, more, closed, hole}

module _ (number : List ℕ → Option ℕ) where
  abbrev mutual
    -- each variable has the number of its name
    pub renumbered : Term → Term
    renumbered (literal cooked text) = literal cooked text
    renumbered (command contents text) = command contents text
    renumbered (format cooked text tripled holes) = format cooked text tripled (renumbered_holes holes)
    renumbered (variable name old) = variable name (number name)
    renumbered (call name file es) = call name file (renumbered_all es)
    renumbered (assertion c m) = assertion (renumbered c) (renumbered m)
    renumbered (assertion_alone c) = assertion_alone (renumbered c)
    renumbered (both l r) = both (renumbered l) (renumbered r)
    renumbered (either l r) = either (renumbered l) (renumbered r)
    renumbered (negation e) = negation (renumbered e)
    renumbered (comparison operator l r) = comparison operator (renumbered l) (renumbered r)
    renumbered (paired operator l r) = paired operator (renumbered l) (renumbered r)
    renumbered (rooted r) = rooted (renumbered r)
    renumbered (appended l r) = appended (renumbered l) (renumbered r)
    renumbered (choice c t o) = choice (renumbered c) (renumbered t) (renumbered o)
    renumbered (choice_alone c t) = choice_alone (renumbered c) (renumbered t)
    renumbered (listing es) = listing (renumbered_all es)
    renumbered (group e) = group (renumbered e)

    pub renumbered_all : Terms → Terms
    renumbered_all end = end
    renumbered_all (more e es) = more (renumbered e) (renumbered_all es)

    pub renumbered_holes : Holes → Holes
    renumbered_holes closed = closed
    renumbered_holes (hole e cooked text hs) = hole (renumbered e) cooked text (renumbered_holes hs)
