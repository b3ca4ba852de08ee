-- Two orders of the variables of one module, each by those before it: where one is filled, so is the other, with the same values.
use Rattle.std.proofs.Common.{◌≡◌, ℕ, List, [], ◌∷◌, ◌++◌, append-nil, append_assoc, Option, Some, None, Result, Ok, Err, ◌⊎◌, inl, inr, refl, sym, ap, ◌∙◌, subst}
use Rattle.std.specs.Prelude.{Contains}
use Rattle.std.proofs.lemmas.List.Elements.{Contains-append_left, Contains-append_right}
use Rattle.just_host.specs.declared.entry.Entry.{Entry}
use Rattle.just_host.specs.declared.job.Pair.{Pair}
use Rattle.meaning_dialogues.specs.Faults.{Fault}
use Rattle.meaning_dialogues.specs.Dialogue.{DialogueGoes}
use Rattle.meaning_dialogues.specs.Evaluation.{Value}
use Rattle.meaning_runs.specs.Told.{Answers}
use Rattle.meaning_evaluation.specs.Named.{VariableName, VariableRow, ModuleRow, Definitions}
use Rattle.meaning_evaluation.specs.Scopes.{Configuration}
use Rattle.just_meaning.specs.Agreement.{AgreesFrom, AgreesFills}
use Rattle.just_meaning.specs.Opening.{Held, named, held, reading_in, pairs_of, exported_names, Side, side_of, side_dialogue, scene_in, IsOrder, Fills, all, has_value, has_none}
use Rattle.just_meaning.specs.Reading.{ReadsIn, VariableReads}
use Rattle.laws_agreement.specs.Agreement.Opened.{AreListed}
use Rattle.laws_agreement.proofs.Agreement.Openings.{held_named}
use Rattle.meaning_rules.proofs.Worlds.Places.{contains_first}
use Rattle.laws_agreement.specs.Determined.Fit.{AreFit, AreVariables}
use Rattle.laws_agreement.proofs.Determined.Held.{names_of, names_append, held_before, held_cases, held_some}
use Rattle.laws_agreement.proofs.Determined.Sides.{side_once}

module _ (f : Answers) (c : Configuration) (defined : Definitions) (path : List (List ℕ)) where
  abbrev with_one : List ℕ → Value → Held
  with_one name value = record { name = name; value = value }

  more_names : (hs : List Held) (name : List ℕ) (value : Value) (done : List (List ℕ)) → names_of hs ≡ done → names_of (hs ++ with_one name value ∷ []) ≡ done ++ name ∷ []
  more_names hs name value done e = names_append hs (with_one name value ∷ []) ∙ ap (λ l. l ++ name ∷ []) e

  module _ (row : ModuleRow) (pairs : List Pair) where
    -- the names of what is held at the end: those that were held, and these
    pub fills_names : (hs : List Held) (names : List (List ℕ)) (old new : List Entry) (last : List Held) → Fills c defined path row pairs hs names old new (Ok last) → names_of last ≡ names_of hs ++ names
    fills_names hs [] old new last all = sym (append-nil (names_of hs))
    fills_names hs (name ∷ names) old new last (has_value {mid = mid} value side goes others) =
        fills_names (hs ++ with_one name value ∷ []) names mid new last others ∙ (ap (λ l. l ++ names) (more_names hs name value (names_of hs) refl) ∙ append_assoc (names_of hs) (name ∷ []) names)

    -- what is held stays held
    fills_keep : (hs : List Held) (names : List (List ℕ)) (old new : List Entry) (last : List Held) → Fills c defined path row pairs hs names old new (Ok last) → (x : List ℕ) (v : Value) → held x hs ≡ Some v → held x last ≡ Some v
    fills_keep hs [] old new last all x v e = e
    fills_keep hs (name ∷ names) old new last (has_value {mid = mid} value side goes others) x v e =
        fills_keep (hs ++ with_one name value ∷ []) names mid new last others x v (held_before x hs (with_one name value ∷ []) v e)

    -- the place where a variable of the order got its value
    pub record HasPlace (full : List (List ℕ)) (last : List Held) (name : List ℕ) (value : Value) : Type 0 where
      pub earlier : List (List ℕ)
      pub later : List (List ℕ)
      pub before : List Held
      pub side : Side
      pub from : List Entry
      pub till : List Entry
      pub order : full ≡ earlier ++ name ∷ later
      pub names : names_of before ≡ earlier
      pub kept : (x : List ℕ) (v : Value) → held x before ≡ Some v → held x last ≡ Some v
      pub is : side_of c defined path (record { name = name; number = None }) ≡ Some side
      pub goes : DialogueGoes (reading_in before) (side_dialogue c (scene_in c defined path row pairs (pairs_of defined path before)) side) from till (Ok value)
      pub agrees : AgreesFrom f (exported_names defined path) from till

    -- what is held at the end was held before, or has its place
    pub has_place : (full : List (List ℕ)) (hs : List Held) (done names : List (List ℕ)) (old new : List Entry) (last : List Held) (fills : Fills c defined path row pairs hs names old new (Ok last)) → AgreesFills f c defined fills
        → full ≡ done ++ names → names_of hs ≡ done → (x : List ℕ) (v : Value) → held x last ≡ Some v → (held x hs ≡ Some v) ⊎ HasPlace full last x v
    has_place full hs done [] old new last all agrees order is x v e = inl e
    has_place full hs done (name ∷ names) old new last (has_value {mid = mid} {side = side} value stands goes others) agrees order is x v e =
        by_rest (has_place full (hs ++ with_one name value ∷ []) (done ++ name ∷ []) names mid new last others agrees.1 (order ∙ sym (append_assoc done (name ∷ []) names)) (more_names hs name value done is) x v e)
      where
        place : HasPlace full last name value
        place = record {
          earlier = done;
          later = names;
          before = hs;
          side = side;
          from = old;
          till = mid;
          order = order;
          names = is;
          kept = λ y w g. fills_keep (hs ++ with_one name value ∷ []) names mid new last others y w (held_before y hs (with_one name value ∷ []) w g);
          is = stands;
          goes = goes;
          agrees = agrees.0;
        }

        by_case : (held x hs ≡ Some v) ⊎ ((name ≡ x) × (value ≡ v)) → (held x hs ≡ Some v) ⊎ HasPlace full last x v
        by_case (inl g) = inl g
        by_case (inr g) = inr (subst (λ y. HasPlace full last y v) g.0 (subst (λ w. HasPlace full last name w) g.1 place))

        by_rest : (held x (hs ++ with_one name value ∷ []) ≡ Some v) ⊎ HasPlace full last x v → (held x hs ≡ Some v) ⊎ HasPlace full last x v
        by_rest (inl g) = by_case (held_cases x hs (with_one name value) v g)
        by_rest (inr p) = inr p

  -- ---- two orders

  module _ (Open : VariableName → Type 0) (listed : AreListed defined) (variables : AreVariables defined Open) (fit : AreFit defined Open) where
    -- what is held of variables that open is listed
    held_listed : (names xs : List (List ℕ)) → IsOrder defined Open path names → ((x : List ℕ) → Contains xs x → Contains names x) → (x : List ℕ) → Contains xs x → Contains (defined.names path) x
    held_listed names xs order among x k = let row = variables.stands (named path x) (order.only x (among x k)) in listed.lists (named path x) row.0 row.1

    -- a name without a variable isn't held
    held_not : (names : List (List ℕ)) (hs : List Held) → IsOrder defined Open path names → ((x : List ℕ) → Contains (names_of hs) x → Contains names x)
        → (x : List ℕ) → defined.variable (named path x) ≡ None → (o : Option Value) → held x hs ≡ o → o ≡ None
    held_not names hs order among x absent None e = refl
    held_not names hs order among x absent (Some v) e = absurd (let row = variables.stands (named path x) (order.only x (among x (held_named x hs v e))) in let there = row.1 in cc)

    module _ (row row' : ModuleRow) (pairs pairs' : List Pair) (same_row : row ≡ row') (same_pairs : pairs ≡ pairs') (names names' : List (List ℕ)) (order : IsOrder defined Open path names) (order' : IsOrder defined Open path names')
        (old new : List Entry) (last : List Held) (fills : Fills c defined path row pairs [] names old new (Ok last)) (agrees : AgreesFills f c defined fills) where
      -- the other order is filled too, and holds what the first holds
      pub record Follows (r : Result (List Held) Fault) : Type 0 where
        pub values : List Held
        pub is : r ≡ Ok values
        pub names_are : names_of values ≡ names'
        pub holds : (x : List ℕ) (v : Value) → held x values ≡ Some v → held x last ≡ Some v

      -- what a variable reads is held alike
      same_read : (hs : List Held) (done : List (List ℕ)) (name : List ℕ) (rest : List (List ℕ)) → names' ≡ done ++ name ∷ rest → names_of hs ≡ done → ((x : List ℕ) (v : Value) → held x hs ≡ Some v → held x last ≡ Some v)
          → (v : Value) (p : HasPlace row pairs names last name v) → ((x : List ℕ) → Contains (names_of p.before) x → Contains names x) → ((x : List ℕ) → Contains (names_of hs) x → Contains names' x)
          → (right_row : VariableRow) → defined.variable (named path name) ≡ Some right_row → defined.override (named path name) ≡ None → (x : List ℕ) → ReadsIn (defined.functions path) right_row.value [] x → held x p.before ≡ held x hs
      same_read hs done name rest is named_so holds v p among among' right_row there free x reads = by_variable (defined.variable (named path x)) refl
        where
          it_reads : VariableReads defined (named path name) x
          it_reads = record { row = right_row; there = there; reads = reads }

          by_variable : (o : Option VariableRow) → defined.variable (named path x) ≡ o → held x p.before ≡ held x hs
          by_variable None absent = held_not names p.before order among x absent (held x p.before) refl ∙ sym (held_not names' hs order' among' x absent (held x hs) refl)
          by_variable (Some found) is_there =
              let a = held_some x p.before (subst (λ l. Contains l x) (sym p.names) (order.behind p.earlier name p.later p.order free x found is_there it_reads)) in
              let b = held_some x hs (subst (λ l. Contains l x) (sym named_so) (order'.behind done name rest is free x found is_there it_reads)) in
              a.1 ∙ (sym (p.kept x a.0 a.1) ∙ (holds x b.0 b.1 ∙ sym b.1))

      -- one variable has the same value in both
      same_value : (hs : List Held) (done : List (List ℕ)) (name : List ℕ) (rest : List (List ℕ)) → names' ≡ done ++ name ∷ rest → names_of hs ≡ done → ((x : List ℕ) (v : Value) → held x hs ≡ Some v → held x last ≡ Some v)
          → (side : Side) → side_of c defined path (record { name = name; number = None }) ≡ Some side → (from till : List Entry) (r : Result Value Fault) → AgreesFrom f (exported_names defined path) from till
          → DialogueGoes (reading_in hs) (side_dialogue c (scene_in c defined path row' pairs' (pairs_of defined path hs)) side) from till r → (v : Value) × (held name last ≡ Some v) × (Ok v ≡ r)
      same_value hs done name rest is named_so holds side stands from till r told goes =
          by_place (has_place row pairs names [] [] names old new last fills agrees refl refl name here.0 here.1)
        where
          opens : Open (named path name)
          opens = order'.only name (subst (λ l. Contains l name) (sym is) (Contains-append_right done (name ∷ rest) name (contains_first name rest)))

          here : (v : Value) × (held name last ≡ Some v)
          here = held_some name last (subst (λ l. Contains l name) (sym (fills_names row pairs [] names old new last fills)) (order.all name opens))

          left : (all_names xs ys : List (List ℕ)) → all_names ≡ xs ++ ys → (x : List ℕ) → Contains xs x → Contains all_names x
          left all_names xs ys e x k = subst (λ l. Contains l x) (sym e) (Contains-append_left xs ys x k)

          by_place : (held name [] ≡ Some here.0) ⊎ HasPlace row pairs names last name here.0 → (v : Value) × (held name last ≡ Some v) × (Ok v ≡ r)
          by_place (inl e) = absurd (cc)
          by_place (inr p) =
              let among : (x : List ℕ) → Contains (names_of p.before) x → Contains names x = λ x k. left names p.earlier (name ∷ p.later) p.order x (subst (λ l. Contains l x) p.names k) in
              let among' : (x : List ℕ) → Contains (names_of hs) x → Contains names' x = λ x k. left names' done (name ∷ rest) is x (subst (λ l. Contains l x) named_so k) in
              let one : p.side ≡ side = let e = sym p.is ∙ stands in cc in (
                here.0,
                here.1,
                side_once c defined path f Open fit row pairs p.before hs (held_listed names (names_of p.before) order among) (held_listed names' (names_of hs) order' among') name opens side stands
                    (same_read hs done name rest is named_so holds here.0 p among among') p.from p.till from till (Ok here.0) r p.agrees told
                    (subst (λ s. DialogueGoes (reading_in p.before) (side_dialogue c (scene_in c defined path row pairs (pairs_of defined path p.before)) s) p.from p.till (Ok here.0)) one p.goes)
                    (subst (λ m. DialogueGoes (reading_in hs) (side_dialogue c (scene_in c defined path m pairs (pairs_of defined path hs)) side) from till r) (sym same_row)
                    (subst (λ m. DialogueGoes (reading_in hs) (side_dialogue c (scene_in c defined path row' m (pairs_of defined path hs)) side) from till r) (sym same_pairs) goes)),
              )

      -- The other order is filled, with values that the first holds.
      pub follows : (hs : List Held) (done rest : List (List ℕ)) → names' ≡ done ++ rest → names_of hs ≡ done → ((x : List ℕ) (v : Value) → held x hs ≡ Some v → held x last ≡ Some v)
          → (from till : List Entry) (r : Result (List Held) Fault) (others : Fills c defined path row' pairs' hs rest from till r) → AgreesFills f c defined others → Follows r
      follows hs done [] is named_so holds from till r all told = record { values = hs; is = refl; names_are = named_so ∙ (sym (append-nil done) ∙ sym is); holds = holds }
      follows hs done (name ∷ rest) is named_so holds from till r (has_value {mid = mid} {side = side} value stands goes others) told =
          follows (hs ++ with_one name value ∷ []) (done ++ name ∷ []) rest (is ∙ sym (append_assoc done (name ∷ []) rest)) (more_names hs name value done named_so)
          (λ x v e. by_case x v (held_cases x hs (with_one name value) v e)) mid till r others told.1
        where
          one : (v : Value) × (held name last ≡ Some v) × (let r : Result Value Fault = Ok value in Ok v ≡ r)
          one = same_value hs done name rest is named_so holds side stands from mid (Ok value) told.0 goes

          by_case : (x : List ℕ) (v : Value) → (held x hs ≡ Some v) ⊎ ((name ≡ x) × (value ≡ v)) → held x last ≡ Some v
          by_case x v (inl e) = holds x v e
          by_case x v (inr e) =
              let same : one.0 ≡ value = let g = one.2 in cc in
              subst (λ y. held y last ≡ Some v) e.0 (one.1 ∙ ap Some (same ∙ e.1))
      follows hs done (name ∷ rest) is named_so holds from till r (has_none {side = side} {fault = fault} stands goes) told =
          absurd (let one = same_value hs done name rest is named_so holds side stands from till (Err fault) told goes in let e = one.2 in cc)

      -- Both hold the same.
      pub holds_both : (r : Result (List Held) Fault) (s : Follows r) (x : List ℕ) → held x last ≡ held x s.values
      holds_both r s x = by_held (held x s.values) refl (held x last) refl
        where
          by_held : (o : Option Value) → held x s.values ≡ o → (p : Option Value) → held x last ≡ p → held x last ≡ held x s.values
          by_held (Some v) e p g = s.holds x v e ∙ sym e
          by_held None e None g = g ∙ sym e
          by_held None e (Some v) g =
              let among : Contains names x = subst (λ l. Contains l x) (fills_names row pairs [] names old new last fills) (held_named x last v g) in
              absurd (let k = held_some x s.values (subst (λ l. Contains l x) (sym s.names_are) (order'.all x (order.only x among))) in let h = k.1 in cc)
