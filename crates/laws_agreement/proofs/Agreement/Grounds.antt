-- What a run rests on is what variables mean, where what was opened is.
use Rattle.std.proofs.Common.{◌≡◌, ℕ, List, [], ◌∷◌, ◌++◌, map, Bool, true, false, not, ◌&&◌, ◌||◌, cond, Option, Some, None, Ok, Err, refl, sym, ap, ap₂, ◌∙◌, subst}
use Rattle.std.proofs.Math.Path.{fun_ext}
use Rattle.std.specs.Option.{option_map, option_or}
use Rattle.std.specs.List.{list_any}
use Rattle.std.specs.Str.{bytes_eq}
use Rattle.std.proofs.lemmas.Slice.Eq.{bytes_eq-Decides}
use Rattle.just_value.specs.Values.{joined}
use Rattle.evaluate_context.specs.Environment.{last_of}
use Rattle.evaluate_context.specs.Surroundings.{by_name}
use Rattle.meaning_dialogues.specs.Dialogue.{around}
use Rattle.meaning_dialogues.specs.Evaluation.{Value}
use Rattle.meaning_dialogues.specs.Meaning.{Meaning}
use Rattle.meaning_runs.specs.Told.{Answers}
use Rattle.meaning_runs.specs.Counts.{each_once}
use Rattle.meaning_runs.specs.Parts.{is_met}
use Rattle.meaning_evaluation.specs.Named.{RecipeName, VariableRow, Definitions}
use Rattle.meaning_evaluation.specs.Scopes.{Configuration, exported_pair}
use Rattle.meaning_evaluation.specs.Calling.{Ground}
use Rattle.just_meaning.specs.Opening.{Opened, Held, exported, named, is_exported, variable_says, module_says, exported_from, exported_names, held, pairs_of}
use Rattle.just_meaning.specs.Runs.{pairs_at, values_at, ground_of}
use Rattle.just_meaning.specs.Meanings.{dotenv_at, variables_at, pair_meant, pairs_meant, meant_ground}
use Rattle.laws_agreement.specs.Agreement.Opened.{AreOpened, AreListed}
use Rattle.evaluate_context.proofs.ByName.{by_name_same, last_append, or_none}
use Rattle.laws_agreement.proofs.Agreement.Names.{same_bytes, contains_any}

and_front : (a b : Bool) → a && b ≡ true → a ≡ true
and_front true b h = refl
and_front false b h = h

and_rear : (a b : Bool) → a && b ≡ true → b ≡ true
and_rear true b h = h
and_rear false b h = absurd (cc)

not_true : (b : Bool) → not b ≡ true → b ≡ false
not_true true h = absurd (cc)
not_true false h = refl

none_of : (b : Bool) → (let o : Option (List ℕ) = None in o) ≡ cond b None None
none_of true = refl
none_of false = refl

-- a name that none of these has isn't held
held_none : (name : List ℕ) (hs : List Held) → list_any (λ other. bytes_eq name other) (map (λ h. h.name) hs) ≡ false → held name hs ≡ None
held_none name [] h = refl
held_none name (x ∷ xs) h = by_test (bytes_eq x.name name) refl (λ g. held_none name xs g)
  where
    by_test : (b : Bool) → bytes_eq x.name name ≡ b → (list_any (λ other. bytes_eq name other) (map (λ h. h.name) xs) ≡ false → held name xs ≡ None) → cond (bytes_eq x.name name) (Some x.value) (held name xs) ≡ None
    by_test true e go =
        let s : bytes_eq name x.name ≡ true = (bytes_eq-Decides name x.name).1 (sym ((bytes_eq-Decides x.name name).0 e)) in
        absurd (let g : true || list_any (λ other. bytes_eq name other) (map (λ h. h.name) xs) ≡ false = subst (λ b. b || list_any (λ other. bytes_eq name other) (map (λ h. h.name) xs) ≡ false) s h in cc)
    by_test false e go = rw e (go (or_rear (bytes_eq name x.name) _ h))
      where
        or_rear : (a b : Bool) → a || b ≡ false → b ≡ false
        or_rear true b h = absurd (cc)
        or_rear false b h = h

module _ (c : Configuration) (defined : Definitions) (f : Answers) (n : ℕ) (path : List (List ℕ)) where
  -- ---- what is held

  abbrev Exports : List ℕ → Bool
  Exports name = is_exported defined (named path name)

  -- the last value of a name among the exported pairs of what is held
  last_held : (name : List ℕ) (hs : List Held) → each_once bytes_eq (map (λ h. h.name) hs) ≡ true → last_of name (pairs_of defined path hs) ≡ cond (Exports name) (option_map joined (held name hs)) None
  last_held name [] once = none_of (Exports name)
  last_held name (h ∷ hs) once =
      by_test (bytes_eq h.name name) refl (last_held name hs (and_rear (not (is_met bytes_eq h.name (map (λ x. x.name) hs))) _ once)) (held_none h.name hs (not_true _ (and_front (not (is_met bytes_eq h.name (map (λ x. x.name) hs))) _ once)))
    where
      here : (b e : Bool) (o p : Option (List ℕ)) → o ≡ cond e p None → last_of name (exported_pair e h.name h.value) ≡ cond e (cond b (Some (joined h.value)) None) None → (b ≡ true → p ≡ None) → option_or o (last_of name (exported_pair e h.name h.value)) ≡ cond e (cond b (Some (joined h.value)) p) None
      here true true o p q g u = rw (q, g, u refl) refl
      here false true o p q g u = rw (q, g) (or_none p)
      here b false o p q g u = rw (q, g) refl

      pair_last : (e : Bool) → last_of name (exported_pair e h.name h.value) ≡ cond e (cond (bytes_eq h.name name) (Some (joined h.value)) None) None
      pair_last true = refl
      pair_last false = refl

      moved : (b : Bool) → option_map joined (cond b (Some h.value) (held name hs)) ≡ cond b (Some (joined h.value)) (option_map joined (held name hs))
      moved true = refl
      moved false = refl

      by_test : (b : Bool) → bytes_eq h.name name ≡ b → last_of name (pairs_of defined path hs) ≡ cond (Exports name) (option_map joined (held name hs)) None → held h.name hs ≡ None
          → last_of name (exported_pair (Exports h.name) h.name h.value ++ pairs_of defined path hs) ≡ cond (Exports name) (option_map joined (cond (bytes_eq h.name name) (Some h.value) (held name hs))) None
      by_test true e rest free =
          let same : h.name ≡ name = (bytes_eq-Decides h.name name).0 e in
          last_append name (exported_pair (Exports h.name) h.name h.value) (pairs_of defined path hs)
          ∙ (here true (Exports h.name) _ (option_map joined (held name hs)) (rest ∙ ap (λ x. cond (Exports x) (option_map joined (held name hs)) None) (sym same)) (pair_last (Exports h.name) ∙ ap (λ b. cond (Exports h.name) (cond b (Some (joined h.value)) None) None) e) (λ u. ap (option_map joined) (ap (λ x. held x hs) (sym same) ∙ free))
          ∙ (ap (λ x. cond (Exports x) (Some (joined h.value)) None) same
          ∙ ap (λ b. cond (Exports name) (option_map joined (cond b (Some h.value) (held name hs))) None) (sym e)))
      by_test false e rest free = by_export (Exports h.name)
        where
          by_export : (x : Bool) → last_of name (exported_pair x h.name h.value ++ pairs_of defined path hs) ≡ cond (Exports name) (option_map joined (cond (bytes_eq h.name name) (Some h.value) (held name hs))) None
          by_export true = rw e (or_none (last_of name (pairs_of defined path hs)) ∙ rest)
          by_export false = rw e rest

  -- ---- what is meant

  abbrev Means : List ℕ → Meaning Value
  Means name = variables_at c defined f n path around (record { name = name; number = None })

  -- the text of a meaning, where it is a value
  abbrev text_meant : Meaning Value → Option (List ℕ)
  text_meant (Some (Ok value)) = Some (joined value)
  text_meant (Some (Err fault)) = None
  text_meant None = None

  meant_here : (name x : List ℕ) (m : Meaning Value) → last_of name (pair_meant c defined f n x m) ≡ cond (bytes_eq x name) (text_meant m) None
  meant_here name x (Some (Ok value)) = refl
  meant_here name x (Some (Err fault)) = none_of (bytes_eq x name)
  meant_here name x None = none_of (bytes_eq x name)

  -- the last value of a name among the pairs of exported names
  last_meant : (name : List ℕ) (xs : List (List ℕ)) → last_of name (pairs_meant c defined f n path (exported_from defined path xs)) ≡ cond (Exports name && list_any (λ x. bytes_eq x name) xs) (text_meant (Means name)) None
  last_meant name [] = neither (Exports name)
    where
      neither : (b : Bool) → (let o : Option (List ℕ) = None in o) ≡ cond (b && false) (text_meant (Means name)) None
      neither true = refl
      neither false = refl
  last_meant name (x ∷ xs) = by_test (bytes_eq x name) refl (last_meant name xs)
    where
      twice : (e a : Bool) (o v : Option (List ℕ)) → o ≡ cond (e && a) v None → e ≡ true → option_or o v ≡ cond (e && (true || a)) v None
      twice true true o None q u = rw q refl
      twice true true o (Some t) q u = rw q refl
      twice true false o v q u = rw q refl
      twice false a o v q u = absurd (cc)

      without : (e a : Bool) (o v : Option (List ℕ)) → o ≡ cond (e && a) v None → e ≡ false → o ≡ cond (e && (true || a)) v None
      without true a o v q u = absurd (cc)
      without false a o v q u = q

      at_other : (e : Bool) → bytes_eq x name ≡ false → last_of name (pairs_meant c defined f n path (exported_from defined path xs)) ≡ cond (Exports name && list_any (λ y. bytes_eq y name) xs) (text_meant (Means name)) None
          → last_of name (pairs_meant c defined f n path (cond e (x ∷ exported_from defined path xs) (exported_from defined path xs))) ≡ cond (Exports name && (bytes_eq x name || list_any (λ y. bytes_eq y name) xs)) (text_meant (Means name)) None
      at_other true e rest =
          last_append name (pair_meant c defined f n x (Means x)) (pairs_meant c defined f n path (exported_from defined path xs))
          ∙ (ap (option_or (last_of name (pairs_meant c defined f n path (exported_from defined path xs)))) (meant_here name x (Means x) ∙ ap (λ b. cond b (text_meant (Means x)) None) e)
          ∙ (or_none (last_of name (pairs_meant c defined f n path (exported_from defined path xs)))
          ∙ (rest ∙ ap (λ b. cond (Exports name && (b || list_any (λ y. bytes_eq y name) xs)) (text_meant (Means name)) None) (sym e))))
      at_other false e rest = rest ∙ ap (λ b. cond (Exports name && (b || list_any (λ y. bytes_eq y name) xs)) (text_meant (Means name)) None) (sym e)

      at_same : (e : Bool) → Exports name ≡ e → x ≡ name → last_of name (pairs_meant c defined f n path (exported_from defined path xs)) ≡ cond (Exports name && list_any (λ y. bytes_eq y name) xs) (text_meant (Means name)) None
          → last_of name (pairs_meant c defined f n path (cond e (x ∷ exported_from defined path xs) (exported_from defined path xs))) ≡ cond (Exports name && (true || list_any (λ y. bytes_eq y name) xs)) (text_meant (Means name)) None
      at_same true k same rest =
          last_append name (pair_meant c defined f n x (Means x)) (pairs_meant c defined f n path (exported_from defined path xs))
          ∙ (ap (option_or (last_of name (pairs_meant c defined f n path (exported_from defined path xs)))) (meant_here name x (Means x) ∙ (ap (λ b. cond b (text_meant (Means x)) None) (ap (λ y. bytes_eq y name) same ∙ same_bytes name) ∙ ap (λ y. text_meant (Means y)) same))
          ∙ twice (Exports name) (list_any (λ y. bytes_eq y name) xs) _ (text_meant (Means name)) rest k)
      at_same false k same rest = without (Exports name) (list_any (λ y. bytes_eq y name) xs) _ (text_meant (Means name)) rest k

      by_test : (b : Bool) → bytes_eq x name ≡ b → last_of name (pairs_meant c defined f n path (exported_from defined path xs)) ≡ cond (Exports name && list_any (λ y. bytes_eq y name) xs) (text_meant (Means name)) None
          → last_of name (pairs_meant c defined f n path (cond (Exports x) (x ∷ exported_from defined path xs) (exported_from defined path xs))) ≡ cond (Exports name && (bytes_eq x name || list_any (λ y. bytes_eq y name) xs)) (text_meant (Means name)) None
      by_test true e rest =
          let same : x ≡ name = (bytes_eq-Decides x name).0 e in
          at_same (Exports x) (ap Exports (sym same)) same rest ∙ ap (λ b. cond (Exports name && (b || list_any (λ y. bytes_eq y name) xs)) (text_meant (Means name)) None) (sym e)
      by_test false e rest = at_other (Exports x) e rest

  -- ---- both

  exports_there : (name : List ℕ) (o : Option VariableRow) → defined.variable (named path name) ≡ o → variable_says o (λ row. row.export || module_says (defined.inside path) (λ m. m.export)) ≡ true → (row : VariableRow) × (defined.variable (named path name) ≡ Some row)
  exports_there name None e h = absurd (cc)
  exports_there name (Some row) e h = (row, e)

  module _ (opened : List Opened) (invoked : List RecipeName) (are : AreOpened c defined f n opened invoked) (listed : AreListed defined) where
    same_last : (name : List ℕ) → cond (Exports name) (option_map joined (held name (values_at path opened))) None ≡ cond (Exports name && list_any (λ x. bytes_eq x name) (defined.names path)) (text_meant (Means name)) None
    same_last name = by_export (Exports name) refl
      where
        by_export : (b : Bool) → Exports name ≡ b → cond b (option_map joined (held name (values_at path opened))) None ≡ cond (b && list_any (λ x. bytes_eq x name) (defined.names path)) (text_meant (Means name)) None
        by_export false e = refl
        by_export true e =
            let there = exports_there name (defined.variable (named path name)) refl e in
            let h = are.means (named path name) (exported there.1 e) in
            let among : list_any (λ x. bytes_eq x name) (defined.names path) ≡ true = contains_any (defined.names path) name (listed.lists (named path name) there.0 there.1) in
            ap (option_map joined) h.holds ∙ (sym (ap text_meant h.means) ∙ ap (λ b. cond b (text_meant (Means name)) None) (sym among))

    -- the exported pairs of what is held are those of what variables mean
    pub same_exported : by_name (pairs_of defined path (values_at path opened)) ≡ by_name (pairs_meant c defined f n path (exported_names defined path))
    same_exported =
        by_name_same (pairs_of defined path (values_at path opened)) (pairs_meant c defined f n path (exported_names defined path))
        (λ name. last_held name (values_at path opened) (are.once path) ∙ (same_last name ∙ sym (last_meant name (defined.names path))))

-- What a run rests on is what variables mean: where what was opened is, and modules' pairs are those that are answered.
pub grounds_agree : (c : Configuration) (defined : Definitions) (f : Answers) (n : ℕ) (opened : List Opened) (invoked : List RecipeName) → AreOpened c defined f n opened invoked → AreListed defined → ((path : List (List ℕ)) → pairs_at path opened ≡ dotenv_at c defined f path)
    → ground_of c defined opened ≡ meant_ground c defined f n
grounds_agree c defined f n opened invoked are listed pairs =
    ap₂ (λ d e. let g : Ground = record { configuration = c; defined = defined; dotenv = d; exported = e } in g) (fun_ext pairs) (fun_ext (λ path. same_exported c defined f n path opened invoked are listed))
