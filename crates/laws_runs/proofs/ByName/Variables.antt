-- Variables that have the numbers of their names give by number what these give by name.
use Rattle.std.proofs.Common.{◌≡◌, ◌<◌, inl, inr, ℕ, zero, suc, List, [], ◌∷◌, length, map, find, cond, Bool, true, false, Option, Some, None, Result, refl, sym, ap, subst, ◌∙◌, arith}
use Rattle.std.proofs.lemmas.List.{length-map}
use Rattle.std.specs.Prelude.{slice_get}
use Rattle.std.specs.Option.{option_map, option_or}
use Rattle.std.specs.Str.{bytes_eq}
use Rattle.just_value.specs.Frames.{BoundRow, bound_in, found_in}
use Rattle.tree_expressions.specs.declared.expression.Expression.{Expression}
use Rattle.parse_expressions.specs.Literals.{IsCooked, from_file}
use Rattle.evaluate_expressions.specs.Situations.{functions_in}
use Rattle.meaning_dialogues.specs.Calls.{DefinedFunction, Frame, empty, function_named, in_frame, read_in, value_found, with_parameters}
use Rattle.meaning_dialogues.specs.Dialogue.{Variable, around, in_module}
use Rattle.meaning_dialogues.specs.Evaluation.{Value}
use Rattle.meaning_dialogues.specs.Faults.{Fault}
use Rattle.meaning_dialogues.specs.Terms.{Term, Terms, Holes, literal, command, format, variable, call, assertion, assertion_alone, both, either, negation, comparison, paired, rooted, appended, choice, choice_alone, listing, group, end, more, closed, hole, term_of}
use Rattle.meaning_dialogues.specs.Written.{numbered, numbers_from}
use Rattle.meaning_dialogues.proofs.Soundness.{Each, EachOf, EachHole}
use Rattle.meaning_evaluation.specs.Stages.Parameters.{bound_value}
use Rattle.meaning_evaluation.specs.Named.{FunctionRow}
use Rattle.meaning_evaluation.specs.Scopes.{defined_in, frame_of, parameter_names}
use Rattle.laws_evaluation.proofs.Opening.Names.{AnyCall, InBodies, SameFunction, SameFunctions, SameIfThere}
use Rattle.laws_evaluation.specs.Soundness.Known.{IsCallable, NamesKnown, OneForEach}
use Rattle.justfile_evaluator.specs.Bodies.{NamedBody}
use Rattle.laws_runs.specs.ByName.Evaluators.{GivesAlike, IsKnown, IsNamed, RunPlace, by_number, number_of, or_else}
use Rattle.laws_runs.specs.ByName.Variables.{HasParameters, HasRows, IsFunctionIfThere, IsFunctionOf, IsOther, IsParameter, IsSeen, IsVariable, unnumbered}
use Rattle.laws_runs.proofs.ByName.Frames.{apart, at_place, below, same_value}

-- what is so of each variable of a term is so of it where this follows
module _ (V W : Variable → Type 0) (K : List ℕ → ℕ → Type 0) (up : (x : Variable) → V x → W x) where
  mutual
    pub each_up : (t : Term) → Each V K t → Each W K t
    each_up (literal cooked text) h = tt
    each_up (command contents text) h = tt
    each_up (format cooked text tripled holes) h = holes_up holes h
    each_up (variable name number) h = up (record { name = name; number = number }) h
    each_up (call name file es) h = (h.0, all_up es h.1)
    each_up (assertion c m) h = (each_up c h.0, each_up m h.1)
    each_up (assertion_alone c) h = each_up c h
    each_up (both l r) h = (each_up l h.0, each_up r h.1)
    each_up (either l r) h = (each_up l h.0, each_up r h.1)
    each_up (negation e) h = each_up e h
    each_up (comparison operator l r) h = (each_up l h.0, each_up r h.1)
    each_up (paired operator l r) h = (each_up l h.0, each_up r h.1)
    each_up (rooted r) h = each_up r h
    each_up (appended l r) h = (each_up l h.0, each_up r h.1)
    each_up (choice c t o) h = (each_up c h.0, each_up t h.1, each_up o h.2)
    each_up (choice_alone c t) h = (each_up c h.0, each_up t h.1)
    each_up (listing es) h = all_up es h
    each_up (group e) h = each_up e h

    all_up : (es : Terms) → EachOf V K es → EachOf W K es
    all_up end h = tt
    all_up (more e es) h = (each_up e h.0, all_up es h.1)

    holes_up : (hs : Holes) → EachHole V K hs → EachHole W K hs
    holes_up closed h = tt
    holes_up (hole e cooked text hs) h = (each_up e h.0, holes_up hs h.1)

found_first : (name : List ℕ) (o q : Option BoundRow) → value_found name (option_or o q) ≡ or_else (option_map (λ binding. binding.value) o) (value_found name q)
found_first name None q = refl
found_first name (Some binding) q = refl

there_is : (values : List Value) (k : ℕ) → k < length values → (v : Value) × (slice_get values k ≡ Some v)
there_is [] k lt = absurd (omega (arith, lt))
there_is (v ∷ vs) zero lt = (v, refl)
there_is (v ∷ vs) (suc k) lt = there_is vs k (omega (arith, lt))

module _ (b : NamedBody) (p : RunPlace) where
  module _ (numbers : List ℕ) (own : List BoundRow) (others : List (List BoundRow)) (h : HasParameters b p numbers own others) where
    abbrev values : List Value
    values = map (bound_value b.scene.row.lists) b.bound.values

    abbrev frame : Frame
    frame = with_parameters empty numbers values

    abbrev named : Frame
    named = frame_of b.configuration b.scene b.name b.recipe b.flag b.bound

    abbrev elsewhere : List ℕ → Option ℕ → Result Value Fault
    elsewhere name number = read_in (λ n. false) (record { own = []; outer = others }) name number

    -- a number gives the parameter's value that it has, or else what the other frames give
    read_first : (name : List ℕ) (number : Option ℕ) (n : ℕ) → number ≡ Some n → by_number b p around (record { name = name; number = number }) ≡ or_else (frame n) (elsewhere name (Some n))
    read_first name number n e =
        ap (λ o. by_number b p around (record { name = name; number = o })) e
        ∙ (found_first name (bound_in p.here.own n) (found_in p.here.outer n)
        ∙ (ap (λ o. or_else o (value_found name (found_in p.here.outer n))) (h.nothing.at n)
        ∙ (ap (λ frames. value_found name (found_in frames n)) h.lies
        ∙ (found_first name (bound_in own n) (found_in others n)
        ∙ ap (λ o. or_else o (value_found name (found_in others n))) (h.values.at n)))))

    is_parameter : (x : Variable) → IsParameter (parameter_names b.recipe) numbers x → IsNamed b p x
    is_parameter x r =
        let lt = below numbers r.place r.number r.stands in
        let v = there_is values r.place (omega (arith, lt, h.count, length-map b.bound.values (bound_value b.scene.row.lists))) in
        let here : frame r.number ≡ Some v.0 = at_place numbers values empty r.place r.number h.parameters.distinct r.stands ∙ ap (λ o. option_or o None) v.1 in
        let there : in_frame named (number_of b p x.name) ≡ Some v.0
        = ap (in_frame named) r.named ∙ (sym (same_value numbers b.recipe.parameters values r.place r.number h.parameters.distinct (h.parameters.count ∙ length-map b.recipe.parameters (λ parameter. parameter.name)) r.stands) ∙ here) in
        read_first x.name x.number r.number r.has ∙ (ap (λ o. or_else o (elsewhere x.name (Some r.number))) here ∙ sym (ap (λ o. or_else o (b.reading around (record { name = x.name; number = number_of b p x.name }))) there))

    is_other : (x : Variable) → IsOther (parameter_names b.recipe) numbers x → elsewhere x.name x.number ≡ b.reading around (unnumbered x) → IsNamed b p x
    is_other x r gives =
        read_first x.name x.number r.number r.has
        ∙ (ap (λ o. or_else o (elsewhere x.name (Some r.number))) (apart numbers values empty r.number r.apart)
        ∙ (ap (elsewhere x.name) (sym r.has) ∙ (gives ∙ sym (ap (λ o. or_else (in_frame named o) (b.reading around (record { name = x.name; number = o }))) r.unnamed))))

    is_named : (x : Variable) → IsVariable b p numbers others x → IsNamed b p x
    is_named x (inl r) = is_parameter x r
    is_named x (inr r) = is_other x r.0 r.1

    -- An expression of which each variable is a parameter, or gives elsewhere what its name gives.
    pub expression_known : (e : Expression) → IsCooked (from_file b.recipe.file b.configuration.expansion) e → NamesKnown (functions_in p.context) (λ f. p.reached f ≡ true) (IsVariable b p numbers others) (term_of e) → IsKnown b p e
    expression_known e cooked names = record {
      cooked = cooked;
      names = each_up (IsVariable b p numbers others) (IsNamed b p) (λ name arguments. IsCallable (OneForEach (λ (f : DefinedFunction). p.reached f ≡ true)) (function_named name (functions_in p.context)) name arguments) is_named (term_of e) names;
    }

  module _ (f : DefinedFunction) (row : FunctionRow) (h : IsFunctionOf b p f row) where
    abbrev function : DefinedFunction
    function = defined_in b.configuration.expansion row

    abbrev Corresponds : Variable → Type 0
    Corresponds x = InBodies (GivesAlike b p) f function around x (record { name = x.name; number = numbered row.parameters x.name })

    in_body : (x : Variable) → IsSeen b p f row x → Corresponds x
    in_body x (inl (r, free)) = (
      λ values. ap (in_frame (with_parameters empty f.parameters values)) r.has
          ∙ (same_value f.parameters row.parameters values r.place r.number h.parameters.distinct h.parameters.count r.stands ∙ sym (ap (in_frame (with_parameters empty (numbers_from 0 row.parameters) values)) r.named)),
      λ bound. absurd (free bound),
    )
    in_body x (inr (r, gives)) = (
      λ values. ap (in_frame (with_parameters empty f.parameters values)) r.has
          ∙ (apart f.parameters values empty r.number r.apart ∙ sym (ap (in_frame (with_parameters empty (numbers_from 0 row.parameters) values)) r.unnamed)),
      subst (λ o. GivesAlike b p in_module x (record { name = x.name; number = o })) (sym r.unnamed) gives,
    )

    -- a function that is that of its row is the same by name
    function_same : SameFunction (GivesAlike b p) f function
    function_same = record {
      name = h.name;
      numbers = numbered row.parameters;
      body = sym h.body;
      variables = each_up (IsSeen b p f row) Corresponds AnyCall in_body f.body h.variables;
    }

  first_row : (name : List ℕ) (rows : List FunctionRow) → function_named name (map (defined_in b.configuration.expansion) rows) ≡ option_map (defined_in b.configuration.expansion) (find (λ row. bytes_eq row.name name) rows)
  first_row name [] = refl
  first_row name (row ∷ rows) = by_test (bytes_eq row.name name) (first_row name rows)
    where
      by_test : (t : Bool) → function_named name (map (defined_in b.configuration.expansion) rows) ≡ option_map (defined_in b.configuration.expansion) (find (λ other. bytes_eq other.name name) rows)
          → cond t (Some (defined_in b.configuration.expansion row)) (function_named name (map (defined_in b.configuration.expansion) rows)) ≡ option_map (defined_in b.configuration.expansion) (cond t (Some row) (find (λ other. bytes_eq other.name name) rows))
      by_test true e = refl
      by_test false e = e

  same_if_there : (o : Option DefinedFunction) (row : Option FunctionRow) → IsFunctionIfThere b p o row → SameIfThere (GivesAlike b p) o (option_map (defined_in b.configuration.expansion) row)
  same_if_there None None h = tt
  same_if_there (Some f) (Some row) h = function_same f row h
  same_if_there None (Some row) h = absurd h
  same_if_there (Some f) None h = absurd h

  -- The functions of a module that are those of rows are the same by name.
  pub functions_same : (rows : List FunctionRow) → HasRows b p rows → SameFunctions (GivesAlike b p) (functions_in p.context) b.scene.functions
  functions_same rows h = record {
    each = λ name. subst (λ gs. SameIfThere (GivesAlike b p) (function_named name (functions_in p.context)) (function_named name gs)) (sym h.scene)
        (subst (λ o. SameIfThere (GivesAlike b p) (function_named name (functions_in p.context)) o) (sym (first_row name rows)) (same_if_there (function_named name (functions_in p.context)) (find (λ row. bytes_eq row.name name) rows) (h.each name)));
  }
