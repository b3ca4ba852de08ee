-- What a term names is what stands in its shape.
use Rattle.std.proofs.Common.{◌≡◌, ℕ, suc, List, ◌++◌, Option, refl, sym, ap, subst}
use Rattle.std.specs.List.{AllByRecursion}
use Rattle.tree_expressions.specs.Operators.{Binary, disjunction, conjunction, comparison, appending, concatenation, joining}
use Rattle.tree_expressions.specs.Shape.{Shape, Shapes, Interpolations, literal, command, format, variable, call, assertion, assertion_alone, group, listing, choice, choice_alone, negation, rooted, binary, end, more, closed, interpolation}
use Rattle.tree_expressions.specs.declared.string_kind.StringKind.{StringKind}
use Rattle.tree_expressions.specs.Kinds.{kind_of}
use Rattle.parse_expressions.specs.Literals.{Expansion}
use Rattle.meaning_dialogues.specs.Dialogue.{Variable}
use Rattle.meaning_dialogues.specs.Terms.{Term}
use Rattle.meaning_dialogues.specs.Written.{by_operator, term_in, terms_in, holes_in}
use Rattle.meaning_dialogues.proofs.Soundness.{Each, EachOf, EachHole, count}
use Rattle.meaning_rules.specs.Naming.{Occurrence, a_variable, a_call, count_of, occurrences, occurrences_in, occurrences_between}
use Rattle.laws_agreement.proofs.Agreement.Lists.{all_left, all_right}

module _ (expansion : Expansion) (file : List ℕ) (numbers : List ℕ → Option ℕ) (V : Variable → Type 0) (C : List ℕ → ℕ → Type 0) where
  -- an occurrence names such a variable, or is such a call
  abbrev pub Says : Occurrence → Type 0
  Says (a_variable name) = V (record { name = name; number = numbers name })
  Says (a_call name arguments) = C name arguments

  each_operator : (op : Binary) (l r : Term) → Each V C l → Each V C r → Each V C (by_operator op l r)
  each_operator disjunction l r h g = (h, g)
  each_operator conjunction l r h g = (h, g)
  each_operator (comparison operator) l r h g = (h, g)
  each_operator appending l r h g = (h, g)
  each_operator concatenation l r h g = (h, g)
  each_operator joining l r h g = (h, g)

  counted : (es : Shapes) → count (terms_in expansion file numbers es) ≡ count_of es
  counted end = refl
  counted (more e es) = ap suc (counted es)

  mutual
    unfolding occurrences

    -- what holds of each occurrence in the shape holds of what the term names
    pub each_term : (e : Shape) → AllByRecursion Says (occurrences e) → Each V C (term_in expansion file numbers e)
    each_term (literal s) h = tt
    each_term (command s) h = tt
    each_term (format s hs) h = each_hole (kind_of s) hs h
    each_term (variable x) h = h.0
    each_term (call f es) h = (subst (C f) (sym (counted es)) h.0, each_of es h.1)
    each_term (assertion c m) h = (each_term c (all_left Says (occurrences c) (occurrences m) h), each_term m (all_right Says (occurrences c) (occurrences m) h))
    each_term (assertion_alone c) h = each_term c h
    each_term (group e) h = each_term e h
    each_term (listing es) h = each_of es h
    each_term (choice c t o) h =
        let front = all_left Says (occurrences c ++ occurrences t) (occurrences o) h in
        (each_term c (all_left Says (occurrences c) (occurrences t) front), each_term t (all_right Says (occurrences c) (occurrences t) front), each_term o (all_right Says (occurrences c ++ occurrences t) (occurrences o) h))
    each_term (choice_alone c t) h = (each_term c (all_left Says (occurrences c) (occurrences t) h), each_term t (all_right Says (occurrences c) (occurrences t) h))
    each_term (negation e) h = each_term e h
    each_term (rooted e) h = each_term e h
    each_term (binary op l r) h = each_operator op _ _ (each_term l (all_left Says (occurrences l) (occurrences r) h)) (each_term r (all_right Says (occurrences l) (occurrences r) h))

    each_of : (es : Shapes) → AllByRecursion Says (occurrences_in es) → EachOf V C (terms_in expansion file numbers es)
    each_of end h = tt
    each_of (more e es) h = (each_term e (all_left Says (occurrences e) (occurrences_in es) h), each_of es (all_right Says (occurrences e) (occurrences_in es) h))

    each_hole : (kind : StringKind) (hs : Interpolations) → AllByRecursion Says (occurrences_between hs) → EachHole V C (holes_in expansion file numbers kind hs)
    each_hole kind closed h = tt
    each_hole kind (interpolation e part hs) h = (each_term e (all_left Says (occurrences e) (occurrences_between hs) h), each_hole kind hs (all_right Says (occurrences e) (occurrences_between hs) h))
