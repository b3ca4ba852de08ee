-- What calls of functions read, however deep they lie: what is readable in their bodies, and what their arguments read.
use Rattle.std.proofs.Common.{◌≡◌, ℕ, zero, suc, ◌+◌, List, [], ◌∷◌, append-nil, map, length, Bool, true, false, cond, Option, Some, None, ◌⊎◌, inl, inr, ⊎_elim, refl, sym, ap, ◌∙◌, subst, arith}
use Rattle.std.specs.Prelude.{Contains}
use Rattle.std.specs.Option.{option_map}
use Rattle.std.specs.List.{list_any}
use Rattle.std.specs.Str.{bytes_eq}
use Rattle.tree_expressions.specs.Shape.{Shape}
use Rattle.parse_expressions.specs.Literals.{Expansion}
use Rattle.evaluate_functions.specs.Names.{function_of}
use Rattle.evaluate_context.specs.Surroundings.{Surroundings, Standing}
use Rattle.meaning_dialogues.specs.Dialogue.{Dialogue, Lookup, around, in_module, Variable}
use Rattle.meaning_dialogues.specs.Evaluation.{Value, dialogue, row}
use Rattle.meaning_dialogues.specs.Calls.{DefinedFunction, call_defined, function_named, empty, with_parameters}
use Rattle.meaning_dialogues.specs.Written.{term_in, numbered, numbers_from}
use Rattle.meaning_dialogues.proofs.Soundness.{Sound, Any, AllSound, then_sound, row_sound, Each, sound, inside_sound}
use Rattle.meaning_evaluation.specs.Stages.Stages.{call_named, run_stage, calls_left}
use Rattle.meaning_evaluation.proofs.Stages.Tables.{command_sound, call_builtin_sound}
use Rattle.meaning_evaluation.proofs.Stages.Depth.{HasNumber, has_value}
use Rattle.meaning_rules.specs.Naming.{Occurrence, a_variable, a_call, occurrences}
use Rattle.meaning_evaluation.specs.Named.{FunctionRow}
use Rattle.meaning_evaluation.specs.Scopes.{defined_in}
use Rattle.just_meaning.specs.Reading.{itself, through, function_row}
use Rattle.laws_agreement.specs.Agreement.Readable.{IsReadable}
use Rattle.laws_agreement.proofs.Agreement.Lists.{all_more, all_contained}
use Rattle.laws_agreement.proofs.Agreement.Terms.{Says, each_term}
use Rattle.laws_agreement.proofs.Agreement.Numbers.{StandsBefore, before, nowhere, numbered_before, is_in_numbers}

pub length_numbers : {A : Type 0} (xs : List A) (n : ℕ) → length (numbers_from n xs) ≡ length xs
length_numbers [] n = refl
length_numbers (x ∷ xs) n = ap suc (length_numbers xs (n + 1))

-- the function of a name is that of its row
pub function_is : (expansion : Expansion) (name : List ℕ) (rows : List FunctionRow) → function_named name (map (defined_in expansion) rows) ≡ option_map (defined_in expansion) (function_row name rows)
function_is expansion name [] = refl
function_is expansion name (f ∷ fs) = by_name (bytes_eq f.name name) refl (function_is expansion name fs)
  where
    by_name : (b : Bool) → bytes_eq f.name name ≡ b → function_named name (map (defined_in expansion) fs) ≡ option_map (defined_in expansion) (function_row name fs) → cond (bytes_eq f.name name) (Some (defined_in expansion f)) (function_named name (map (defined_in expansion) fs)) ≡ option_map (defined_in expansion) (cond (bytes_eq f.name name) (Some f) (function_row name fs))
    by_name true e r = rw e refl
    by_name false e r = rw e r

module _ (expansion : Expansion) (rows : List FunctionRow) (Named : List ℕ → Type 0) where
  -- a call of a function of the justfile that fits, and whose body is readable
  abbrev pub IsReadableCall : List ℕ → ℕ → Type 0
  IsReadableCall name arguments = (f : FunctionRow) → function_row name rows ≡ Some f → (arguments ≡ length f.parameters) × IsReadable rows Named f.body f.parameters

  -- what a readable expression names has such a name where it isn't hidden, and its calls are readable
  pub readable_each : (file : List ℕ) (numbers : List ℕ → Option ℕ) (V : Variable → Type 0) (e : Shape) (hidden : List (List ℕ)) → IsReadable rows Named e hidden
      → ((name : List ℕ) → V (record { name = name; number = numbers name }) ⊎ (list_any (λ other. bytes_eq other name) hidden ≡ false))
      → ((name : List ℕ) → Named name → V (record { name = name; number = numbers name }))
      → Each V IsReadableCall (term_in expansion file numbers e)
  readable_each file numbers V e hidden h sees named =
      each_term expansion file numbers V IsReadableCall e (all_more (Contains (occurrences e)) _ says (occurrences e) (all_contained (occurrences e)))
    where
      says : (o : Occurrence) → Contains (occurrences e) o → Says expansion file numbers V IsReadableCall o
      says (a_variable name) c = ⊎_elim (λ v. v) (λ free. named name (h.reads name (record { inner = e; others = hidden; reached = itself; named = c; free = free }))) (sees name)
      says (a_call name arguments) c =
          λ f there. (
            h.fits e hidden name arguments f itself c there,
            record {
              reads = λ other r. h.reads other (record { inner = r.inner; others = r.others; reached = through c there r.reached; named = r.named; free = r.free });
              fits = λ inner others other count g r d at. h.fits inner others other count g (through c there r) d at;
            },
          )

  module _ (m : Surroundings) (in_body : Standing) (P : Variable → Type 0) (meant : (name : List ℕ) (number : Option ℕ) → Named name → P (record { name = name; number = number })) where
    abbrev functions : List DefinedFunction
    functions = map (defined_in expansion) rows

    -- in a body what is no parameter is read in the module
    abbrev W : FunctionRow → Lookup → Variable → Type 0
    W f around x = HasNumber (numbers_from 0 f.parameters) x.number ⊎ P x
    W f in_module x = P x

    -- the calls of that depth read only these
    abbrev ReadsAt : ℕ → Type 1
    ReadsAt n = (f : FunctionRow) (ds : List (Dialogue Value)) (Q : Lookup → Variable → Type 0) → ((x : Variable) → P x → Q in_module x) → length ds ≡ length f.parameters → IsReadable rows Named f.body f.parameters → AllSound Q ds
        → Sound Q Any (call_defined (calls_left m functions in_body n) (defined_in expansion f) ds)

    by_row : (n : ℕ) → ReadsAt n → (o : Option FunctionRow) (name file : List ℕ) (ds : List (Dialogue Value)) (Q : Lookup → Variable → Type 0) (s : Standing) → ((x : Variable) → P x → Q in_module x)
        → ((f : FunctionRow) → o ≡ Some f → (length ds ≡ length f.parameters) × IsReadable rows Named f.body f.parameters) → AllSound Q ds
        → Sound Q Any (call_named m s (calls_left m functions in_body n) (option_map (defined_in expansion) o) name file ds)
    by_row n go (Some f) name file ds Q s up h all = let fits = h f refl in go f ds Q up fits.0 fits.1 all
    by_row n go None name file ds Q s up h all = call_builtin_sound Q m s (function_of name) name file ds all

    pub named : (n : ℕ) → ReadsAt n → (name file : List ℕ) (ds : List (Dialogue Value)) (Q : Lookup → Variable → Type 0) (s : Standing) → ((x : Variable) → P x → Q in_module x) → IsReadableCall name (length ds) → AllSound Q ds
        → Sound Q Any (call_named m s (calls_left m functions in_body n) (function_named name functions) name file ds)
    named n go name file ds Q s up h all =
        subst (λ o. Sound Q Any (call_named m s (calls_left m functions in_body n) o name file ds)) (sym (function_is expansion name rows)) (by_row n go (function_row name rows) name file ds Q s up h all)

    in_body_sees : (f : FunctionRow) (name : List ℕ) → (HasNumber (numbers_from 0 f.parameters) (numbered f.parameters name) ⊎ P (record { name = name; number = numbered f.parameters name })) ⊎ (list_any (λ other. bytes_eq other name) f.parameters ≡ false)
    in_body_sees f name = by_place (numbered_before name f.parameters [])
      where
        by_place : StandsBefore name f.parameters [] → (HasNumber (numbers_from 0 f.parameters) (numbered f.parameters name) ⊎ P (record { name = name; number = numbered f.parameters name })) ⊎ (list_any (λ other. bytes_eq other name) f.parameters ≡ false)
        by_place (before k lt is) =
            let e : numbered f.parameters name ≡ Some k = ap (λ l. numbered l name) (sym (append-nil f.parameters)) ∙ is in
            inl (inl (subst (HasNumber (numbers_from 0 f.parameters)) (sym e) (is_in_numbers f.parameters 0 k (omega arith) (omega (arith, lt)))))
        by_place (nowhere free) = inr free

    pub called : (n : ℕ) → ReadsAt n
    called zero f ds Q up e h all = tt
    called (suc n) f ds Q up e h all =
        then_sound Q (λ vs. length vs ≡ length ds) Any (row ds) _ (row_sound Q ds all)
        (λ vs len. inside_sound Q (W f) Any (with_parameters empty (numbers_from 0 f.parameters) vs)
        (λ x w. ⊎_elim (λ i. inl (has_value (numbers_from 0 f.parameters) vs x.number (len ∙ (e ∙ sym (length_numbers f.parameters 0))) i)) (λ p. inr (up x p)) w) (λ x p. up x p)
        (dialogue (run_stage m functions in_body (calls_left m functions in_body n)) (defined_in expansion f).body)
        (sound (W f) (λ x. HasNumber (numbers_from 0 f.parameters) x.number ⊎ P x) IsReadableCall
        (run_stage m functions in_body (calls_left m functions in_body n)) (λ x w. w)
        (command_sound (W f) m in_body m.dry_run) (λ name file es fits others. named n (called n) name file es (W f) in_body (λ x p. p) fits others) (defined_in expansion f).body
        (readable_each f.file (numbered f.parameters) (λ x. HasNumber (numbers_from 0 f.parameters) x.number ⊎ P x) f.body f.parameters h (in_body_sees f) (λ name u. inr (meant name (numbered f.parameters name) u)))))

    -- A readable expression reads what has such a name, and what it sees.
    pub expression_sound : (s : Standing) (n : ℕ) (file : List ℕ) (numbers : List ℕ → Option ℕ) (Q : Lookup → Variable → Type 0) (e : Shape) (hidden : List (List ℕ)) → ((x : Variable) → P x → Q in_module x) → ((x : Variable) → P x → Q around x)
        → IsReadable rows Named e hidden → ((name : List ℕ) → Q around (record { name = name; number = numbers name }) ⊎ (list_any (λ other. bytes_eq other name) hidden ≡ false))
        → Sound Q Any (dialogue (run_stage m functions s (calls_left m functions in_body n)) (term_in expansion file numbers e))
    expression_sound s n file numbers Q e hidden up over h sees =
        sound Q (λ x. Q around x) IsReadableCall (run_stage m functions s (calls_left m functions in_body n)) (λ x q. q) (command_sound Q m s m.dry_run)
        (λ name written es fits others. named n (called n) name written es Q s up fits others) (term_in expansion file numbers e)
        (readable_each file numbers (λ x. Q around x) e hidden h sees (λ name u. over (record { name = name; number = numbers name }) (meant name (numbers name) u)))
