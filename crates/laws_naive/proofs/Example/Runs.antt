-- A run of it, and one whose opening is refused, with answers that they agree with.
use Rattle.std.specs.Prelude.{◌≡◌, cond, ℕ, List, [], ◌∷◌, ◌++◌, Bool, true, false, Some, None, Ok, Err, Contains, codes}
use Rattle.std.proofs.Common.{arith, ◌||◌, refl, inl, inr, subst, sym, ap}
use Rattle.std.specs.Str.{bytes_eq}
use Rattle.std.proofs.lemmas.Option.{same_Some, none-some}
use Rattle.tree_expressions.specs.Cooking.{command}
use Rattle.tree_expressions.specs.Indentation.{unindented, lines_of, all_kept}
use Rattle.tree_expressions.specs.Parts.{halved_behind}
use Rattle.tree_expressions.specs.Shape.{Shape}
use Rattle.meaning_rules.specs.Naming.{a_variable, occurrences}
use Rattle.just_meaning.specs.Reading.{ReadsIn, Reaches, itself, through, VariableReads}
use Rattle.laws_agreement.proofs.Determined.Openings.{run_variables}
use Rattle.std.proofs.lemmas.Slice.Eq.{bytes_eq-Decides}
use Rattle.just_host.specs.declared.entry.Entry.{Entry}
use Rattle.just_host.specs.declared.entry.Entry.TheVariants.{Asked, Line}
use Rattle.just_host.specs.declared.host.Answer.{Answer}
use Rattle.just_host.specs.declared.host.Status.TheVariants.{Code}
use Rattle.meaning_dialogues.specs.Faults.{Fault}
use Rattle.meaning_rules.proofs.Worlds.Places.{contains_cases, contains_first, contains_none}
use Rattle.meaning_evaluation.specs.Requests.{opening, unasked}
use Rattle.just_host.specs.declared.job.CommandJob.{CommandJob}
use Rattle.tree_items.specs.Lines.{read_sigils}
use Rattle.tree_attributes.specs.Sets.Order.{sorted}
use Rattle.meaning_evaluation.specs.Stages.Parameters.{Bound}
use Rattle.meaning_runs.specs.Failures.{Failure}
use Rattle.meaning_runs.specs.Parts.{Parts, is_met}
use Rattle.meaning_runs.specs.Goes.{Goes, over, entered}
use Rattle.meaning_evaluation.specs.Named.{Call, FunctionRow, VariableName, VariableRow, same_call}
use Rattle.meaning_evaluation.proofs.Calls.{calls_decide}
use Rattle.std.proofs.lemmas.Bool.Decides.{same_from_decides}
use Rattle.just_meaning.specs.Agreement.{AgreesRun}
use Rattle.just_meaning.specs.Opening.{Held, Opened, all, has_value, has_none, IsOpened, IsOrder, not_lazy, OpensAll, opened, refused, none_left, one_more, fault_here, named}
use Rattle.just_meaning.specs.Runs.{HasRun, Runs, ran, not_opened, steps}
use Rattle.just_meaning.specs.Runs as runs
use Rattle.just_meaning.specs.Determined.{nothing}
use Rattle.laws_naive.specs.Example.Justfile.{a, answers, call, configuration, defined, failed, of_root, question, settings, told, variable}

abbrev pub Open : VariableName → Type 0
Open = IsOpened defined false (a ∷ [])

-- the one variable opens
v_opens : Open (named [] (codes "v"))
v_opens = not_lazy {row = variable} refl refl

variable_stands : (name : List ℕ) (b : Bool) → bytes_eq name (codes "v") ≡ b → (row : VariableRow) → of_root [] (cond b (Some variable) None) ≡ Some row → (name ≡ codes "v") × (variable ≡ row)
variable_stands name true e row there = ((bytes_eq-Decides name (codes "v")).0 e, same_Some _ _ there)
variable_stands name false e row there = absurd (none-some _ there)

only_v : (name : List ℕ) → Open (named [] name) → name ≡ codes "v"
only_v name o = let s = (run_variables defined false (a ∷ [])).stands (named [] name) o in (variable_stands name _ refl s.0 s.1).0

-- what an expression reads where nothing occurs in it
reads_none : (functions : List FunctionRow) (e : Shape) (hidden : List (List ℕ)) (name : List ℕ) → occurrences e ≡ [] → ReadsIn functions e hidden name → ⊥
reads_none functions e hidden name none r = by_way r.inner r.others r.reached r.named
  where
    by_way : (inner : Shape) (others : List (List ℕ)) → Reaches functions e hidden inner others → Contains (occurrences inner) (a_variable name) → ⊥
    by_way inner others itself there = contains_none _ _ none there
    by_way inner others (through there is more) found = contains_none _ _ none there

v_reads_none : (other : List ℕ) → VariableReads defined (named [] (codes "v")) other → ⊥
unfolding occurrences
v_reads_none other r = let s = variable_stands (codes "v") _ refl r.row r.there in
    reads_none [] variable.value [] other refl (subst (λ (q : VariableRow). ReadsIn [] q.value [] other) (sym s.1) r.reads)

-- a list of one element, cut at an element
cut_one : {X : Type 0} (x : X) (earlier : List X) (name : X) (later : List X) → x ∷ [] ≡ earlier ++ name ∷ later → name ≡ x
cut_one x [] name later e = cc
cut_one x (y ∷ []) name later e = absurd cc
cut_one x (y ∷ z ∷ ys) name later e = absurd cc

order : IsOrder defined Open [] (codes "v" ∷ [])
order = record {
  once = refl;
  all = λ name o. subst (Contains (codes "v" ∷ [])) (sym (only_v name o)) (contains_first _ []);
  only = λ name there. elim (contains_cases (codes "v") [] name there) [ inl e ↦ subst (λ n. Open (named [] n)) e v_opens | inr none ↦ absurd (contains_none [] name refl none) ];
  behind = λ earlier name later e no_override other row there reads.
      absurd (v_reads_none other (subst (λ n. VariableReads defined (named [] n) other) (cut_one (codes "v") earlier name later e) reads));
}

-- ---- a run that hands a command over

abbrev pub asked : Answer → Entry
asked given = Asked question given

abbrev pub held_v : Held
held_v = record { name = codes "v"; value = codes "y" ∷ [] }

abbrev pub root_opened : Opened
root_opened = record { path = []; pairs = []; values = held_v ∷ [] }

opens : OpensAll configuration defined Open ([] ∷ []) [] (asked told ∷ []) (Ok (root_opened ∷ []))
unfolding command unindented lines_of all_kept
opens = one_more (opened {row = settings} refl unasked order (has_value (codes "y" ∷ []) refl (told, (refl, refl)) all)) none_left

pub refuses : (fault : Fault) × OpensAll configuration defined Open ([] ∷ []) [] (asked failed ∷ []) (Err (opening fault))
unfolding command unindented lines_of all_kept
refuses = (_, fault_here (refused {row = settings} refl unasked order (has_none refl (failed, (refl, refl)))))

-- the steps over what was opened
abbrev pub parts : Parts Call Bound Entry Failure
parts = steps configuration defined (root_opened ∷ [])

pub begins : (bound : Bound) × parts.Begins call false (asked told ∷ []) (asked told ∷ []) (Ok (bound, []))
unfolding sorted
begins = (_, record { piece = []; entries = refl; goes = (refl, refl) })

pub ends : (job : CommandJob) × parts.Ends call false begins.0 (asked told ∷ []) (asked told ∷ Line job (Code 0) ∷ []) (Ok [])
unfolding begins read_sigils sorted halved_behind
ends = (_, record { piece = _; entries = refl; goes = (Code 0, record { rest = []; is = refl; behind = (refl, refl) }) })

abbrev pub record_of : CommandJob → List Entry
record_of job = asked told ∷ Line job (Code 0) ∷ []

-- equality looks the same from both sides
joins_alone : (c : Call) → is_met same_call c (call ∷ []) ≡ (same_call call c || false)
joins_alone c = let d = calls_decide call c in ap (λ (b : Bool). b || false) (same_from_decides {P = c ≡ call} (same_call c call) (same_call call c) (calls_decide c call) (λ e. sym (d.0 e), λ h. d.1 (sym h)))

goes : Goes parts false [] (asked told ∷ []) nothing (call ∷ []) (call ∷ []) (record_of ends.0) (record { calls = 1; entered = 1 }) None
unfolding sorted
goes = entered {subsequents = []} refl begins.1 over ends.1 over joins_alone over

has_run : HasRun configuration defined (root_opened ∷ []) (call ∷ []) (asked told ∷ []) nothing (record_of ends.0) (record { calls = 1; entered = 1 }) None
unfolding sorted goes
has_run = record { done = call ∷ []; run = goes; counted = record { few = omega arith; here = refl; below = (tt, (refl, tt), tt) } }

-- the run, which hands the command over
abbrev pub Run : Type 0
Run = Runs {Rule = ⊥} configuration defined (call ∷ []) [] nothing (record_of ends.0) (record { calls = 1; entered = 1 }) ran

pub a_run : Run
a_run = runs.opened opens has_run

-- it agrees with the answers
pub a_run_agrees : AgreesRun (answers told) configuration defined a_run
unfolding a_run opens has_run
a_run_agrees = (((record { piece = []; entries = refl; agrees = tt }, (record { piece = _; entries = refl; agrees = (refl, tt) }, tt)), tt), record { piece = _; entries = refl; agrees = (refl, tt) })

-- ---- a run whose opening is refused

pub a_refusal : Runs {Rule = ⊥} configuration defined (call ∷ []) [] nothing (asked failed ∷ []) nothing (not_opened (opening refuses.0))
a_refusal = runs.refused refuses.1

pub a_refusal_agrees : AgreesRun (answers failed) configuration defined a_refusal
unfolding a_refusal refuses
a_refusal_agrees = (record { piece = []; entries = refl; agrees = tt }, record { piece = _; entries = refl; agrees = (refl, tt) })
