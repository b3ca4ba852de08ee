-- The variables of a module, each evaluated behind what it reads, have the values that they mean.
use Rattle.std.proofs.Common.{◌≡◌, ◌≤◌, ℕ, zero, suc, ◌-◌, List, [], ◌∷◌, ◌++◌, append_assoc, map, Option, Some, None, Result, Ok, Err, ◌⊎◌, inl, inr, refl, sym, ap, ◌∙◌, subst, arith}
use Rattle.std.specs.Prelude.{Contains, option_and_then}
use Rattle.std.specs.List.{AllByRecursion}
use Rattle.std.specs.Option.{option_map}
use Rattle.std.proofs.lemmas.List.Elements.{Contains-append_left, Contains-append_right}
use Rattle.just_host.specs.declared.entry.Entry.{Entry}
use Rattle.just_host.specs.declared.entry.Entry.TheVariants.{Asked, Line, Script, Confirm, Show, Dotenv}
use Rattle.just_host.specs.declared.job.Pair.{Pair}
use Rattle.just_value.specs.Constants.{constant_rows}
use Rattle.evaluate_context.specs.Surroundings.{Surroundings}
use Rattle.meaning_dialogues.specs.Faults.{Fault}
use Rattle.meaning_dialogues.specs.Dialogue.{Dialogue, Ends, Asks, Reads, DialogueGoes, Lookup, around, in_module as in_module_alone, Variable}
use Rattle.meaning_dialogues.specs.Evaluation.{Value}
use Rattle.meaning_dialogues.specs.Meaning.{QuestionAnswers, meaning, variable_meaning, AgreesWith}
use Rattle.meaning_dialogues.specs.Calls.{DefinedFunction}
use Rattle.meaning_dialogues.specs.Terms.{Term}
use Rattle.meaning_dialogues.specs.Written.{term_in, unnumbered}
use Rattle.meaning_dialogues.proofs.Soundness.{Sound, Any}
use Rattle.meaning_runs.specs.Told.{Answers, holds, of_variables}
use Rattle.meaning_evaluation.specs.Named.{VariableName, VariableRow, ModuleRow, Definitions}
use Rattle.meaning_evaluation.specs.Scopes.{Configuration, defined_in, surroundings_in}
use Rattle.laws_evaluation.specs.Opening.Alike.{AnsweredAlike, StandAlike}
use Rattle.laws_evaluation.specs.Opening.Opened.{ReadsOnly, Means}
use Rattle.laws_evaluation.proofs.Opening.Alike.{alike_means, places_alike}
use Rattle.laws_evaluation.proofs.Opening.Exported.{exported_alike}
use Rattle.laws_evaluation.proofs.Opening.Depths.{means_by}
use Rattle.laws_evaluation.proofs.Opening.Followed.{ReadsMeant, followed}
use Rattle.just_meaning.specs.Agreement.{AgreesFrom, AgreesFills}
use Rattle.just_meaning.specs.Opening.{Held, named, held, text_named, read_by, reading_in, pairs_of, exported_names, Side, stands, evaluates, side_by, side_of, side_dialogue, scene_in, opening_standing, IsOrder, Fills, all, has_value, has_none}
use Rattle.just_meaning.specs.Reading.{ReadsIn, VariableReads}
use Rattle.just_meaning.specs.Meanings.{in_module, pairs_asked, side_at}
use Rattle.laws_agreement.specs.Agreement.Opened.{AreListed, StandsFor, a_variable, a_constant}
use Rattle.laws_agreement.specs.Agreement.Readable.{IsReadable}
use Rattle.laws_agreement.proofs.Agreement.Functions.{expression_sound}
use Rattle.laws_agreement.proofs.Agreement.Openings.{held_named}
use Rattle.laws_agreement.specs.Certain.Certain.{AreCertainVariables}
use Rattle.laws_agreement.specs.Determined.Fit.{AreVariables}
use Rattle.laws_agreement.proofs.Determined.Dialogues.{each_piece}
use Rattle.laws_agreement.proofs.Determined.Held.{names_of, names_append, held_cases, held_some}
use Rattle.laws_naive.proofs.Naive.Sides.{IsRight, right, is_right, pairs_named}
use Rattle.meaning_rules.proofs.Worlds.Places.{contains_first}

-- what is sound reads only what it is to read
reads_of : {A : Type 0} (P : Lookup → Variable → Type 0) (d : Dialogue A) → Sound P Any d → ReadsOnly P d
reads_of P (Ends (Ok a)) h = tt
reads_of P (Ends (Err fault)) h = tt
reads_of P (Asks q next) h = λ answer. reads_of P (next answer) (h answer)
reads_of P (Reads place x next) h = (h.0, λ value. reads_of P (next value) (h.1 value))

-- questions that the answers hold are answered so
answered_there : (f : Answers) (told : QuestionAnswers) (piece : List Entry) → AllByRecursion (holds f told) piece → AgreesWith told piece
answered_there f told [] h = tt
answered_there f told (Asked q a ∷ es) h = (h.0, answered_there f told es h.1)
answered_there f told (Line j s ∷ es) h = answered_there f told es h.1
answered_there f told (Script j s ∷ es) h = answered_there f told es h.1
answered_there f told (Confirm p a ∷ es) h = answered_there f told es h.1
answered_there f told (Show t ∷ es) h = answered_there f told es h.1
answered_there f told (Dotenv r a ∷ es) h = answered_there f told es h.1

module _ (f : Answers) (c : Configuration) (defined : Definitions) (path : List (List ℕ)) (row : ModuleRow) (inside : defined.inside path ≡ Some row)
    (Open : VariableName → Type 0) (listed : AreListed defined) (variables : AreVariables defined Open) (certain : AreCertainVariables defined Open) where
  -- what answers the module's variables, its pairs by the answers, and what its variables stand for
  abbrev told : QuestionAnswers
  told = of_variables f (exported_names defined path)

  abbrev pairs : List Pair
  pairs = pairs_asked c defined f row.request

  abbrev right_side : Variable → Option (Dialogue Value)
  right_side = side_at c defined f path

  abbrev plain : List ℕ → Variable
  plain name = record { name = name; number = None }

  abbrev MeansSo : List ℕ → Result Value Fault → Type 0
  MeansSo name r = Means right_side told (plain name) r

  -- each value that is held is what its variable means
  abbrev pub AreMeant : List Held → Type 0
  AreMeant hs = (x : List ℕ) (v : Value) → held x hs ≡ Some v → MeansSo x (Ok v)

  same_number : (n : ℕ) (place : Lookup) (name : List ℕ) (number : Option ℕ) → variable_meaning right_side told n place (record { name = name; number = number }) ≡ variable_meaning right_side told n place (plain name)
  same_number zero place name number = refl
  same_number (suc n) place name number = refl

  numbered_means : (name : List ℕ) (number : Option ℕ) (r : Result Value Fault) → MeansSo name r → Means right_side told (record { name = name; number = number }) r
  numbered_means name number r m = record { deep = m.deep; is = λ n place le. same_number n place name number ∙ m.is n place le }

  -- what a variable's right side is by what it stands for
  side_is : (name : List ℕ) (side : Side) → side_of c defined path (plain name) ≡ Some side → right_side (plain name) ≡ Some (side_dialogue c (scene_in c defined path row pairs []) side)
  side_is name side is =
      ap (λ i. in_module c defined f None i (λ r. option_map (side_dialogue c (scene_in c defined path r (pairs_asked c defined f r.request) [])) (side_of c defined path (plain name)))) inside
      ∙ ap (option_map (side_dialogue c (scene_in c defined path row pairs []))) is

  -- a text that a variable stands for is its value
  stands_means : (name text : List ℕ) → side_of c defined path (plain name) ≡ Some (stands text) → MeansSo name (Ok (text ∷ []))
  stands_means name text is = record { deep = 1; is = at }
    where
      at : (n : ℕ) (place : Lookup) → 1 ≤ n → variable_meaning right_side told n place (plain name) ≡ Some (Ok (text ∷ []))
      at zero place le = absurd (omega (arith, le))
      at (suc n) place le = ap (option_and_then (λ side. meaning told (variable_meaning right_side told n) side)) (side_is name (stands text) is)

  module _ (names : List (List ℕ)) (order : IsOrder defined Open path names) where
    left : (xs ys : List (List ℕ)) → names ≡ xs ++ ys → (x : List ℕ) → Contains xs x → Contains names x
    left xs ys e x k = subst (λ l. Contains l x) (sym e) (Contains-append_left xs ys x k)

    -- what is held of the order is listed
    held_listed : (hs : List Held) → ((x : List ℕ) → Contains (names_of hs) x → Contains names x) → (x : List ℕ) → Contains (names_of hs) x → Contains (defined.names path) x
    held_listed hs among x k = let r = variables.stands (named path x) (order.only x (among x k)) in listed.lists (named path x) r.0 r.1

    -- a name without a variable isn't held
    held_not : (hs : List Held) → ((x : List ℕ) → Contains (names_of hs) x → Contains names x) → (x : List ℕ) → defined.variable (named path x) ≡ None → (o : Option Value) → held x hs ≡ o → o ≡ None
    held_not hs among x absent None e = refl
    held_not hs among x absent (Some v) e = absurd (let r = variables.stands (named path x) (order.only x (among x (held_named x hs v e))) in let there = r.1 in cc)

    module _ (hs : List Held) (done : List (List ℕ)) (name : List ℕ) (rest : List (List ℕ)) (is : names ≡ done ++ name ∷ rest) (named_so : names_of hs ≡ done) (meant : AreMeant hs) where
      among : (x : List ℕ) → Contains (names_of hs) x → Contains names x
      among x k = left done (name ∷ rest) is x (subst (λ l. Contains l x) named_so k)

      opens : Open (named path name)
      opens = order.only name (subst (λ l. Contains l name) (sym is) (Contains-append_right done (name ∷ rest) name (contains_first name rest)))

      abbrev ReadSo : Variable → Type 0
      ReadSo x = (place : Lookup) → ReadsMeant right_side told (reading_in hs) place x

      -- what the right side reads means what is read
      read_meant : (right_row : VariableRow) → defined.variable (named path name) ≡ Some right_row → defined.override (named path name) ≡ None → (x : List ℕ) (number : Option ℕ) → ReadsIn (defined.functions path) right_row.value [] x
          → StandsFor defined path x → ReadSo (record { name = x; number = number })
      read_meant right_row there free x number reads (a_variable {row = found} is_there) = λ place.
          let it_reads : VariableReads defined (named path name) x = record { row = right_row; there = there; reads = reads } in
          let h = held_some x hs (subst (λ l. Contains l x) (sym named_so) (order.behind done name rest is free x found is_there it_reads)) in
          record {
            value = h.0;
            read = ap (λ o. read_by o (text_named x constant_rows) x) h.1;
            means = numbered_means x number (Ok h.0) (meant x h.0 h.1);
          }
      read_meant right_row there free x number reads (a_constant {text = text} absent unbound constant) = λ place.
          record {
            value = text ∷ [];
            read = ap (λ o. read_by o (text_named x constant_rows) x) (held_not hs among x absent (held x hs) refl) ∙ ap (λ o. read_by None o x) constant;
            means = numbered_means x number (Ok (text ∷ []))
                (stands_means x text (ap (λ o. side_by c defined path o (defined.variable (named path x)) (text_named x constant_rows)) unbound ∙ (ap (λ o. side_by c defined path None o (text_named x constant_rows)) absent ∙ ap (λ o. side_by c defined path None None o) constant)));
          }

      abbrev here : Surroundings
      here = surroundings_in c (scene_in c defined path row pairs (pairs_of defined path hs))

      abbrev functions : List DefinedFunction
      functions = map (defined_in c.expansion) (defined.functions path)

      abbrev dialogue_by : List Pair → Side → Dialogue Value
      dialogue_by out side = side_dialogue c (scene_in c defined path row pairs out) side

      -- it is answered alike where nothing is exported
      answered : (term : Term) → AnsweredAlike told (dialogue_by (pairs_of defined path hs) (evaluates term)) (dialogue_by [] (evaluates term))
      answered term =
          let out : StandAlike told here (opening_standing []) (opening_standing []) = exported_alike f (exported_names defined path) here (opening_standing []) (opening_standing []) tt tt refl refl refl in
          let bodies : StandAlike told here (opening_standing (pairs_of defined path hs)) (opening_standing []) =
          exported_alike f (exported_names defined path) here (opening_standing (pairs_of defined path hs)) (opening_standing []) (pairs_named c defined path hs (held_listed hs among)) tt refl refl refl in
          places_alike told here functions (opening_standing (pairs_of defined path hs)) (opening_standing []) bodies (c.limit - 1) (opening_standing []) (opening_standing []) out term

      -- it reads what means what is read
      reads_so : (right_row : VariableRow) → defined.variable (named path name) ≡ Some right_row → defined.override (named path name) ≡ None
          → ReadsOnly (ReadsMeant right_side told (reading_in hs)) (dialogue_by (pairs_of defined path hs) (evaluates (term_in c.expansion right_row.file unnumbered right_row.value)))
      reads_so right_row there free =
          let readable : IsReadable (defined.functions path) (ReadsIn (defined.functions path) right_row.value []) right_row.value [] = record {
            reads = λ x reads. reads;
            fits = λ inner others called count g reached stands_in at. certain.fits (named path name) right_row inner others called count g opens free there reached stands_in at;
          } in
          reads_of (ReadsMeant right_side told (reading_in hs)) (dialogue_by (pairs_of defined path hs) (evaluates (term_in c.expansion right_row.file unnumbered right_row.value)))
          (expression_sound c.expansion (defined.functions path) (ReadsIn (defined.functions path) right_row.value []) here (opening_standing (pairs_of defined path hs)) ReadSo
          (λ x number reads. read_meant right_row there free x number reads (certain.names (named path name) x opens free (record { row = right_row; there = there; reads = reads })))
          (opening_standing []) (c.limit - 1) right_row.file unnumbered (ReadsMeant right_side told (reading_in hs)) right_row.value [] (λ x p. p in_module_alone) (λ x p. p around) readable (λ x. inr refl))

      -- What it is evaluated to is what it means.
      pub one_means : (side : Side) → side_of c defined path (plain name) ≡ Some side → (from till : List Entry) (r : Result Value Fault) → AgreesFrom f (exported_names defined path) from till
          → DialogueGoes (reading_in hs) (dialogue_by (pairs_of defined path hs) side) from till r → MeansSo name r
      one_means (stands text) is_side from till r agrees goes = subst (MeansSo name) (sym goes.1) (stands_means name text is_side)
      one_means (evaluates term) is_side from till r agrees goes =
          by_right (is_right c defined path name term (defined.override (named path name)) (defined.variable (named path name)) (text_named name constant_rows) refl refl is_side)
        where
          by_right : IsRight c defined path name term → MeansSo name r
          by_right (right right_row free there e) =
              let m = followed right_side told (reading_in hs) (dialogue_by (pairs_of defined path hs) (evaluates term)) from till r
              (subst (λ t. ReadsOnly (ReadsMeant right_side told (reading_in hs)) (dialogue_by (pairs_of defined path hs) (evaluates t))) e (reads_so right_row there free))
              (λ piece k. answered_there f told piece (each_piece f (exported_names defined path) from till agrees piece k)) goes in
              means_by right_side told (plain name) (dialogue_by (pairs_of defined path hs) (evaluates term)) r m.deep
              (record { side = dialogue_by [] (evaluates term); is = side_is name (evaluates term) is_side; alike = λ n. alike_means told (variable_meaning right_side told n) (answered term) })
              m.is

    -- what a row of variables comes to: values that they mean, or one that means the fault
    abbrev pub FillsMeant : Result (List Held) Fault → Type 0
    FillsMeant (Ok values) = AreMeant values
    FillsMeant (Err fault) = (name : List ℕ) × Contains names name × MeansSo name (Err fault)

    -- Variables in order come to what they mean.
    pub fills_meant : (hs : List Held) (done rest : List (List ℕ)) → names ≡ done ++ rest → names_of hs ≡ done → AreMeant hs → (old new : List Entry) (r : Result (List Held) Fault) (fills : Fills c defined path row pairs hs rest old new r) → AgreesFills f c defined fills → FillsMeant r
    fills_meant hs done [] is named_so meant old new r all agrees = meant
    fills_meant hs done (name ∷ rest) is named_so meant old new r (has_value {mid = mid} {side = side} value stands_so goes others) agrees =
        fills_meant (hs ++ (record { name = name; value = value }) ∷ []) (done ++ name ∷ []) rest (is ∙ sym (append_assoc done (name ∷ []) rest))
        (names_append hs ((record { name = name; value = value }) ∷ []) ∙ ap (λ l. l ++ name ∷ []) named_so) (λ x v e. by_case x v (held_cases x hs (record { name = name; value = value }) v e)) mid new r others agrees.1
      where
        this : MeansSo name (Ok value)
        this = one_means hs done name rest is named_so meant side stands_so old mid (Ok value) agrees.0 goes

        by_case : (x : List ℕ) (v : Value) → (held x hs ≡ Some v) ⊎ ((name ≡ x) × (value ≡ v)) → MeansSo x (Ok v)
        by_case x v (inl e) = meant x v e
        by_case x v (inr e) = subst (λ y. MeansSo y (Ok v)) e.0 (subst (λ w. MeansSo name (Ok w)) e.1 this)
    fills_meant hs done (name ∷ rest) is named_so meant old new r (has_none {side = side} {fault = fault} stands_so goes) agrees =
        (name, subst (λ l. Contains l name) (sym is) (Contains-append_right done (name ∷ rest) name (contains_first name rest)), one_means hs done name rest is named_so meant side stands_so old new (Err fault) agrees goes)
