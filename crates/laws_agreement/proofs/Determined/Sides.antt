-- What a variable stands for gives the same value among two lists of values in which all that it reads is held alike.
use Rattle.std.proofs.Common.{◌≡◌, ℕ, ◌-◌, List, [], ◌∷◌, ◌++◌, map, Bool, true, false, cond, ◌||◌, Option, Some, None, Result, ◌⊎◌, inl, inr, refl, sym, ap, ◌∙◌, subst}
use Rattle.std.specs.Prelude.{Contains}
use Rattle.std.specs.Str.{bytes_eq}
use Rattle.std.proofs.lemmas.Slice.Eq.{bytes_eq-Decides}
use Rattle.just_host.specs.declared.entry.Entry.{Entry}
use Rattle.just_host.specs.declared.job.Pair.{Pair}
use Rattle.just_value.specs.Constants.{constant_rows}
use Rattle.evaluate_context.specs.Environment.{is_among}
use Rattle.evaluate_context.specs.Surroundings.{Surroundings}
use Rattle.meaning_dialogues.specs.Faults.{Fault}
use Rattle.meaning_dialogues.specs.Meaning.{QuestionAnswers}
use Rattle.meaning_dialogues.specs.Dialogue.{Dialogue, DialogueGoes, Lookup, around, in_module, Variable}
use Rattle.meaning_dialogues.specs.Evaluation.{Value}
use Rattle.meaning_dialogues.specs.Calls.{DefinedFunction}
use Rattle.meaning_dialogues.specs.Terms.{Term}
use Rattle.meaning_dialogues.specs.Written.{term_in, unnumbered}
use Rattle.meaning_dialogues.proofs.Soundness.{Sound, Any}
use Rattle.meaning_runs.specs.Told.{Answers, of_variables}
use Rattle.meaning_evaluation.specs.Named.{VariableName, VariableRow, FunctionRow, ModuleRow, Definitions}
use Rattle.meaning_evaluation.specs.Scopes.{Configuration, defined_in, surroundings_in, exported_pair}
use Rattle.just_meaning.specs.Agreement.{AgreesFrom}
use Rattle.just_meaning.specs.Opening.{Held, named, held, text_named, read_by, reading_in, pairs_of, is_exported, exported_from, exported_names, Side, stands, evaluates, side_by, side_of, side_dialogue, scene_in, opening_standing}
use Rattle.just_meaning.specs.Reading.{ReadsIn}
use Rattle.laws_evaluation.specs.Opening.Alike.{AnsweredAlike, HaveNames, StandAlike}
use Rattle.laws_evaluation.proofs.Opening.Alike.{places_alike}
use Rattle.laws_evaluation.proofs.Opening.Exported.{exported_alike}
use Rattle.laws_agreement.specs.Agreement.Readable.{IsReadable}
use Rattle.laws_agreement.proofs.Agreement.Functions.{expression_sound}
use Rattle.meaning_rules.proofs.Worlds.Places.{contains_cases, contains_first, contains_later, contains_none}
use Rattle.laws_agreement.specs.Determined.Fit.{AreFit}
use Rattle.laws_agreement.proofs.Determined.Dialogues.{each_piece, goes_alike}
use Rattle.laws_agreement.proofs.Determined.Held.{names_of}

module _ (c : Configuration) (defined : Definitions) (path : List (List ℕ)) where
  -- ---- exported pairs have exported names

  -- an exported name of these is among the exported of these
  among_exported : (xs : List (List ℕ)) (name : List ℕ) → is_exported defined (named path name) ≡ true → Contains xs name → is_among (exported_from defined path xs) name ≡ true
  among_exported [] name e there = absurd (contains_none [] name refl there)
  among_exported (x ∷ xs) name e there = by_place (contains_cases x xs name there) (λ g. among_exported xs name e g)
    where
      or_right : (b : Bool) → b || true ≡ true
      or_right true = refl
      or_right false = refl

      with_first : (b : Bool) → is_among (exported_from defined path xs) name ≡ true → is_among (cond b (x ∷ exported_from defined path xs) (exported_from defined path xs)) name ≡ true
      with_first true g = rw g (or_right (bytes_eq x name))
      with_first false g = g

      by_place : (x ≡ name) ⊎ Contains xs name → (Contains xs name → is_among (exported_from defined path xs) name ≡ true)
          → is_among (cond (is_exported defined (named path x)) (x ∷ exported_from defined path xs) (exported_from defined path xs)) name ≡ true
      by_place (inl same) go =
          let t : is_exported defined (named path x) ≡ true = ap (λ y. is_exported defined (named path y)) same ∙ e in
          let u : bytes_eq x name ≡ true = (bytes_eq-Decides x name).1 same in
          rw (t, u) refl
      by_place (inr later) go = with_first (is_exported defined (named path x)) (go later)

  -- exported pairs of what is held have exported names, where all that is held is listed
  pairs_named : (hs : List Held) → ((name : List ℕ) → Contains (names_of hs) name → Contains (defined.names path) name) → HaveNames (exported_names defined path) (pairs_of defined path hs)
  pairs_named [] listed = tt
  pairs_named (h ∷ hs) listed =
      by_test (is_exported defined (named path h.name)) refl (pairs_named hs (λ name k. listed name (contains_later h.name (names_of hs) name k)))
    where
      by_test : (b : Bool) → is_exported defined (named path h.name) ≡ b → HaveNames (exported_names defined path) (pairs_of defined path hs) → HaveNames (exported_names defined path) (exported_pair b h.name h.value ++ pairs_of defined path hs)
      by_test true e rest = (among_exported (defined.names path) h.name e (listed h.name (contains_first h.name (names_of hs))), rest)
      by_test false e rest = rest

  -- ---- what is evaluated

  pub data IsRight (name : List ℕ) (term : Term) : Type 0 where
    right : (row : VariableRow) → defined.override (named path name) ≡ None → defined.variable (named path name) ≡ Some row → term_in c.expansion row.file unnumbered row.value ≡ term → IsRight name term

  is_right : (name : List ℕ) (term : Term) (o : Option (List ℕ)) (p : Option VariableRow) (k : Option (List ℕ)) → defined.override (named path name) ≡ o → defined.variable (named path name) ≡ p
      → side_by c defined path o p k ≡ Some (evaluates term) → IsRight name term
  is_right name term (Some text) p k free there e = absurd (cc)
  is_right name term None (Some row) k free there e = right row free there (cc)
  is_right name term None None (Some text) free there e = absurd (cc)
  is_right name term None None None free there e = absurd (cc)

  module _ (f : Answers) (Open : VariableName → Type 0) (fit : AreFit defined Open) (row : ModuleRow) (pairs : List Pair) (before before' : List Held)
      (listed : (name : List ℕ) → Contains (names_of before) name → Contains (defined.names path) name) (listed' : (name : List ℕ) → Contains (names_of before') name → Contains (defined.names path) name) where
    abbrev here : Surroundings
    here = surroundings_in c (scene_in c defined path row pairs (pairs_of defined path before))

    abbrev rows : List FunctionRow
    rows = defined.functions path

    abbrev functions : List DefinedFunction
    functions = map (defined_in c.expansion) rows

    -- what is told to the variables of the module, and what one of them goes by among these values
    abbrev told : QuestionAnswers
    told = of_variables f (exported_names defined path)

    abbrev dialogue_by : List Held → Side → Dialogue Value
    dialogue_by hs side = side_dialogue c (scene_in c defined path row pairs (pairs_of defined path hs)) side

    -- it is answered alike
    answered : (term : Term) → AnsweredAlike told (dialogue_by before (evaluates term)) (dialogue_by before' (evaluates term))
    answered term =
        let out : StandAlike told here (opening_standing []) (opening_standing []) = exported_alike f (exported_names defined path) here (opening_standing []) (opening_standing []) tt tt refl refl refl in
        let bodies : StandAlike told here (opening_standing (pairs_of defined path before)) (opening_standing (pairs_of defined path before')) =
        exported_alike f (exported_names defined path) here (opening_standing (pairs_of defined path before)) (opening_standing (pairs_of defined path before')) (pairs_named before listed) (pairs_named before' listed') refl refl refl in
        places_alike told here functions (opening_standing (pairs_of defined path before)) (opening_standing (pairs_of defined path before')) bodies (c.limit - 1) (opening_standing []) (opening_standing []) out term

    abbrev SameRead : Variable → Type 0
    SameRead x = (place : Lookup) → reading_in before place x ≡ reading_in before' place x

    -- it reads what is held alike
    reads_same : (name : List ℕ) (right_row : VariableRow) → Open (named path name) → defined.variable (named path name) ≡ Some right_row → defined.override (named path name) ≡ None
        → ((x : List ℕ) → ReadsIn rows right_row.value [] x → held x before ≡ held x before')
        → Sound (λ place x. reading_in before place x ≡ reading_in before' place x) Any (dialogue_by before (evaluates (term_in c.expansion right_row.file unnumbered right_row.value)))
    reads_same name right_row opens there free same =
        let readable : IsReadable rows (ReadsIn rows right_row.value []) right_row.value [] = record {
          reads = λ x reads. reads;
          fits = λ inner others called count g reached stands_in at. fit.fits (named path name) right_row inner others called count g opens there free reached stands_in at;
        } in
        expression_sound c.expansion rows (ReadsIn rows right_row.value []) here (opening_standing (pairs_of defined path before)) SameRead (λ x number reads place. ap (λ o. read_by o (text_named x constant_rows) x) (same x reads))
        (opening_standing []) (c.limit - 1) right_row.file unnumbered (λ place x. reading_in before place x ≡ reading_in before' place x) right_row.value [] (λ x p. p in_module) (λ x p. p around) readable (λ x. inr refl)

    -- Its value is the same.
    pub side_once : (name : List ℕ) → Open (named path name) → (side : Side) → side_of c defined path (record { name = name; number = None }) ≡ Some side
        → ((right_row : VariableRow) → defined.variable (named path name) ≡ Some right_row → defined.override (named path name) ≡ None → (x : List ℕ) → ReadsIn rows right_row.value [] x → held x before ≡ held x before')
        → (old new old' new' : List Entry) (r r' : Result Value Fault) → AgreesFrom f (exported_names defined path) old new → AgreesFrom f (exported_names defined path) old' new'
        → DialogueGoes (reading_in before) (side_dialogue c (scene_in c defined path row pairs (pairs_of defined path before)) side) old new r
        → DialogueGoes (reading_in before') (side_dialogue c (scene_in c defined path row pairs (pairs_of defined path before')) side) old' new' r' → r ≡ r'
    side_once name opens (stands text) is same old new old' new' r r' a b h g = h.1 ∙ sym g.1
    side_once name opens (evaluates term) is same old new old' new' r r' a b h g =
        by_right (is_right name term (defined.override (named path name)) (defined.variable (named path name)) (text_named name constant_rows) refl refl is)
      where
        by_right : IsRight name term → r ≡ r'
        by_right (right right_row free there e) =
            goes_alike f (exported_names defined path) (reading_in before) (reading_in before') (answered term)
            (subst (λ t. Sound (λ place x. reading_in before place x ≡ reading_in before' place x) Any (dialogue_by before (evaluates t))) e (reads_same name right_row opens there free (same right_row there free)))
            old new old' new' r r' (each_piece f (exported_names defined path) old new a) (each_piece f (exported_names defined path) old' new' b) h g
