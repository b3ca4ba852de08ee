-- Expressions whose names stand for something don't end with `internal`, through the functions that they call too.
use Rattle.std.proofs.Common.{◌≡◌, ℕ, List, [], append-nil, map, length, false, Option, Some, None, ◌⊎◌, inl, inr, ⊎_elim, refl, sym, ap, ◌∙◌, subst, arith}
use Rattle.std.specs.Prelude.{IsSome, Contains}
use Rattle.std.specs.Option.{option_map}
use Rattle.std.specs.List.{list_any}
use Rattle.std.specs.Str.{bytes_eq}
use Rattle.tree_expressions.specs.Shape.{Shape}
use Rattle.parse_expressions.specs.Literals.{Expansion}
use Rattle.evaluate_functions.specs.Names.{function_of}
use Rattle.evaluate_context.specs.Surroundings.{Surroundings, Standing}
use Rattle.meaning_dialogues.specs.Dialogue.{Lookup, around, in_module, Variable}
use Rattle.meaning_dialogues.specs.Evaluation.{Value, dialogue}
use Rattle.meaning_dialogues.specs.Calls.{DefinedFunction, function_named, empty, with_parameters, in_frame}
use Rattle.meaning_dialogues.specs.Written.{term_in, numbered, numbers_from}
use Rattle.meaning_dialogues.proofs.Soundness.{Each}
use Rattle.meaning_evaluation.specs.Stages.Stages.{run_stage, calls_left}
use Rattle.meaning_evaluation.proofs.Stages.Depth.{HasNumber, has_value}
use Rattle.meaning_rules.specs.Naming.{Occurrence, a_variable, a_call, occurrences}
use Rattle.meaning_evaluation.specs.Named.{FunctionRow}
use Rattle.meaning_evaluation.specs.Scopes.{defined_in}
use Rattle.just_meaning.specs.Reading.{Reaches, itself, through, function_row}
use Rattle.laws_agreement.specs.Agreement.Readable.{IsReadable}
use Rattle.laws_agreement.proofs.Agreement.Lists.{all_more, all_contained}
use Rattle.laws_agreement.proofs.Agreement.Terms.{Says, each_term}
use Rattle.laws_agreement.proofs.Agreement.Numbers.{StandsBefore, before, nowhere, numbered_before, is_in_numbers}
use Rattle.laws_agreement.proofs.Agreement.Functions.{length_numbers, function_is}
use Rattle.laws_evaluation.specs.Soundness.Endings.{Proper}
use Rattle.laws_evaluation.specs.Soundness.Known.{IsCallable}
use Rattle.laws_evaluation.proofs.Soundness.Calls.{run_proper}

-- a readable expression, whose calls are of functions of the justfile or of built-in ones
pub record IsCertain (rows : List FunctionRow) (Named : List ℕ → Type 0) (e : Shape) (hidden : List (List ℕ)) : Type 0 where
  pub readable : IsReadable rows Named e hidden
  pub builtin : (inner : Shape) (others : List (List ℕ)) (name : List ℕ) (count : ℕ) → Reaches rows e hidden inner others → Contains (occurrences inner) (a_call name count) → function_row name rows ≡ None → IsSome (function_of name)

module _ (expansion : Expansion) (rows : List FunctionRow) (Named : List ℕ → Type 0) where
  -- the functions of the rows
  abbrev functions : List DefinedFunction
  functions = map (defined_in expansion) rows

  -- a function of a row with so many parameters, whose body is such an expression
  pub record Takes (f : DefinedFunction) (arguments : ℕ) : Type 0 where
    pub row : FunctionRow
    pub is : f ≡ defined_in expansion row
    pub count : arguments ≡ length row.parameters
    pub certain : IsCertain rows Named row.body row.parameters

  -- a call of such a function with so many arguments, or of a built-in one
  abbrev pub Callable : List ℕ → ℕ → Type 0
  Callable name arguments = IsCallable Takes (function_named name functions) name arguments

  -- a call is so whose function has such a row, or none and is built in
  callable : (name : List ℕ) (arguments : ℕ) → ((f : FunctionRow) → function_row name rows ≡ Some f → (arguments ≡ length f.parameters) × IsCertain rows Named f.body f.parameters)
      → (function_row name rows ≡ None → IsSome (function_of name)) → Callable name arguments
  callable name arguments there absent = subst (λ o. IsCallable Takes o name arguments) (sym (function_is expansion name rows)) (by_row (function_row name rows) refl)
    where
      by_row : (o : Option FunctionRow) → function_row name rows ≡ o → IsCallable Takes (option_map (defined_in expansion) o) name arguments
      by_row (Some f) e = let h = there f e in record { row = f; is = refl; count = h.0; certain = h.1 }
      by_row None e = absent e

  -- what such an expression names has such a name where it isn't hidden, and its calls can be called
  pub certain_each : (file : List ℕ) (numbers : List ℕ → Option ℕ) (V : Variable → Type 0) (e : Shape) (hidden : List (List ℕ)) → IsCertain rows Named e hidden
      → ((name : List ℕ) → V (record { name = name; number = numbers name }) ⊎ (list_any (λ other. bytes_eq other name) hidden ≡ false))
      → ((name : List ℕ) → Named name → V (record { name = name; number = numbers name }))
      → Each V Callable (term_in expansion file numbers e)
  certain_each file numbers V e hidden h sees named =
      each_term expansion file numbers V Callable e (all_more (Contains (occurrences e)) _ says (occurrences e) (all_contained (occurrences e)))
    where
      says : (o : Occurrence) → Contains (occurrences e) o → Says expansion file numbers V Callable o
      says (a_variable name) c = ⊎_elim (λ v. v) (λ free. named name (h.readable.reads name (record { inner = e; others = hidden; reached = itself; named = c; free = free }))) (sees name)
      says (a_call name arguments) c =
          callable name arguments
          (λ f there. (
            h.readable.fits e hidden name arguments f itself c there,
            record {
              readable = record {
                reads = λ other r. h.readable.reads other (record { inner = r.inner; others = r.others; reached = through c there r.reached; named = r.named; free = r.free });
                fits = λ inner others other count g r d at. h.readable.fits inner others other count g (through c there r) d at;
              };
              builtin = λ inner others other count r d at. h.builtin inner others other count (through c there r) d at;
            },
          ))
          (λ absent. h.builtin e hidden name arguments itself c absent)

  module _ (m : Surroundings) (in_body : Standing) (P : Variable → Type 0) (meant : (name : List ℕ) (number : Option ℕ) → Named name → P (record { name = name; number = number })) where
    -- in a body a parameter is seen, and what is read in the module
    abbrev V : DefinedFunction → Variable → Type 0
    V f x = HasNumber f.parameters x.number ⊎ P x

    -- wherever it is read
    abbrev Everywhere : Lookup → Variable → Type 0
    Everywhere place x = P x

    -- a parameter of a function has a value where the function takes so many
    binds : (f : DefinedFunction) (values : List Value) (x : Variable) → Takes f (length values) → V f x → IsSome (in_frame (with_parameters empty f.parameters values) x.number) ⊎ P x
    binds f values x taken v =
        let e : length values ≡ length f.parameters = taken.count ∙ (sym (length_numbers taken.row.parameters 0) ∙ sym (ap (λ g. length g.parameters) taken.is)) in
        ⊎_elim (λ i. inl (has_value f.parameters values x.number e i)) (λ p. inr p) v

    -- a name in a body is seen, or hidden by no parameter
    in_body_sees : (f : FunctionRow) (name : List ℕ) → V (defined_in expansion f) (record { name = name; number = numbered f.parameters name }) ⊎ (list_any (λ other. bytes_eq other name) f.parameters ≡ false)
    in_body_sees f name = by_place (numbered_before name f.parameters [])
      where
        by_place : StandsBefore name f.parameters [] → V (defined_in expansion f) (record { name = name; number = numbered f.parameters name }) ⊎ (list_any (λ other. bytes_eq other name) f.parameters ≡ false)
        by_place (before k lt is) =
            let e : numbered f.parameters name ≡ Some k = ap (λ l. numbered l name) (sym (append-nil f.parameters)) ∙ is in
            inl (inl (subst (HasNumber (numbers_from 0 f.parameters)) (sym e) (is_in_numbers f.parameters 0 k (omega arith) (omega (arith, lt)))))
        by_place (nowhere free) = inr free

    -- what the body of such a function names is seen, and its calls can be called
    body_names : (f : DefinedFunction) (arguments : ℕ) → Takes f arguments → Each (V f) Callable f.body
    body_names f arguments taken =
        let row = taken.row in
        subst (λ g. Each (V g) Callable g.body) (sym taken.is)
        (certain_each row.file (numbered row.parameters) (V (defined_in expansion row)) row.body row.parameters taken.certain (in_body_sees row) (λ name u. inr (meant name (numbered row.parameters name) u)))

    -- Such an expression reads what has such a name and what it sees, and never ends with `internal`.
    pub expression_proper : (s : Standing) (n : ℕ) (file : List ℕ) (numbers : List ℕ → Option ℕ) (Q : Lookup → Variable → Type 0) (e : Shape) (hidden : List (List ℕ)) → ((x : Variable) → P x → Q in_module x) → ((x : Variable) → P x → Q around x)
        → IsCertain rows Named e hidden → ((name : List ℕ) → Q around (record { name = name; number = numbers name }) ⊎ (list_any (λ other. bytes_eq other name) hidden ≡ false))
        → Proper Q (dialogue (run_stage m functions s (calls_left m functions in_body n)) (term_in expansion file numbers e))
    expression_proper s n file numbers Q e hidden up over h sees =
        run_proper m functions in_body Everywhere V Takes binds (λ name f arguments there taken. body_names f arguments taken) s n Q (λ x. Q around x) up (λ x q. q) (term_in expansion file numbers e)
        (certain_each file numbers (λ x. Q around x) e hidden h sees (λ name u. over (record { name = name; number = numbers name }) (meant name (numbers name) u)))
