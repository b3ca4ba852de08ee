-- What parts of a setting settle to, where the setting is set.
use Rattle.std.proofs.Common.{◌≡◌, refl, sym, ◌∙◌, ap, subst, Bool, List, [], ◌∷◌, ◌++◌, map, Option, Some, None, Result, Ok, Err, ℕ, inl, inr}
use Rattle.std.specs.Prelude.{Contains}
use Rattle.std.specs.List.{flat_map}
use Rattle.std.proofs.lemmas.Option.{none-some, same_Some}
use Rattle.tree_attributes.specs.declared.setting.Interpreter.{Interpreter}
use Rattle.tree_attributes.specs.declared.setting.Setting.{Setting}
use Rattle.tree_attributes.specs.declared.setting.Setting.TheVariants.{DotenvCommand, DotenvFilename, DotenvPath, Indentation, MinimumVersion, ScriptInterpreter, Shell, Tempdir, Truth, WindowsShell, WorkingDirectory}
use Rattle.tree_expressions.specs.Shape.{Shape, shape_of}
use Rattle.tree_expressions.specs.declared.expression.Expression.{Expression}
use Rattle.resolve_references.specs.Seen.{Seen, seeing, seen_in_setting}
use Rattle.evaluate_context.specs.declared.settings.Settings.{Settings}
use Rattle.evaluate_variables.specs.SettingValues.{IsSet, text_of, value_of, words_in}
use Rattle.meaning_dialogues.specs.Calls.{const_stage}
use Rattle.meaning_dialogues.specs.Constants.{settled}
use Rattle.meaning_dialogues.specs.Dialogue.{Dialogue, Ends, Reading, ◌>>=◌}
use Rattle.meaning_dialogues.specs.Evaluation.{Value, dialogue, dialogues, interpreter_dialogue, interpreter_words, one_text, row, text_dialogue}
use Rattle.meaning_dialogues.specs.Faults.{Fault, TextPlace, setting_of}
use Rattle.meaning_dialogues.specs.Terms.{term_of, terms_of}
use Rattle.meaning_rules.proofs.Worlds.Places.{contains_cases, contains_first, contains_later, contains_none}
use Rattle.laws_names.proofs.Constants.Forms.{going_on, then_settled}

-- ---- what is settled before a value

before : {A B : Type 0} (o : Option (Result A Fault)) (next : A → Option (Result B Fault)) (b : B) → going_on o next ≡ Some (Ok b) → (a : A) × (o ≡ Some (Ok a)) × (next a ≡ Some (Ok b))
before None next b e = absurd (none-some (Ok b) e)
before (Some (Err fault)) next b e = absurd (cc e)
before (Some (Ok a)) next b e = (a, refl, e)

text_alone : (place : TextPlace) (value : Value) (text : List ℕ) → one_text place value ≡ Ok text → value ≡ text ∷ []
text_alone place [] text e = absurd (cc e)
text_alone place (t ∷ []) text e = let same : t ≡ text = cc e in ap (λ t. t ∷ []) same
text_alone place (t ∷ u ∷ us) text e = absurd (cc e)

words_alone : (setting : List ℕ) (value : Value) (words : List ℕ × List (List ℕ)) → interpreter_words setting value ≡ Ok words → value ≡ words.0 ∷ words.1
words_alone setting [] words e = absurd (cc e)
words_alone setting (first ∷ others) words e = let same : (first, others) ≡ words = cc e in ap (λ (pair : List ℕ × List (List ℕ)). pair.0 ∷ pair.1) same

module _ (reading : Reading) where
  then_before : {A B : Type 0} (d : Dialogue A) (next : A → Dialogue B) (b : B) → settled reading (d >>= next) ≡ Some (Ok b) → (a : A) × (settled reading d ≡ Some (Ok a)) × (settled reading (next a) ≡ Some (Ok b))
  then_before d next b e = before (settled reading d) (λ a. settled reading (next a)) b (sym (then_settled reading d next) ∙ e)

  -- a text that is settled is what the dialogue settles to
  pub text_before : (place : TextPlace) (d : Dialogue Value) (text : List ℕ) → settled reading (text_dialogue place d) ≡ Some (Ok text) → settled reading d ≡ Some (Ok (text ∷ []))
  text_before place d text e =
      let r = then_before d (λ value. Ends (one_text place value)) text e in
      r.1 ∙ ap (λ value. Some (Ok value)) (text_alone place r.0 text (same_Some (one_text place r.0) (Ok text) r.2))

  -- each of these settles to its value
  abbrev pub AreEnded : List (Dialogue Value) → List Value → Type 0
  AreEnded [] [] = Unit {0}
  AreEnded (d ∷ ds) (value ∷ values) = (settled reading d ≡ Some (Ok value)) × AreEnded ds values
  AreEnded [] (value ∷ values) = ⊥
  AreEnded (d ∷ ds) [] = ⊥

  row_before : (ds : List (Dialogue Value)) (values : List Value) → settled reading (row ds) ≡ Some (Ok values) → AreEnded ds values
  row_before [] values e = let none : [] ≡ values = cc e in subst (AreEnded []) none tt
  row_before (d ∷ ds) values e =
      let r = then_before d (λ value. row ds >>= λ others. Ends (Ok (value ∷ others))) values e in
      let q = then_before (row ds) (λ others. Ends (Ok (r.0 ∷ others))) values r.2 in
      let q2 = q.2 in
      let same : r.0 ∷ q.0 ≡ values = cc q2 in
      subst (AreEnded (d ∷ ds)) same (r.1, row_before ds q.0 q.1)

  -- words that are settled are what the dialogues settle to, one after another
  pub words_before : (setting : List ℕ) (ds : List (Dialogue Value)) (words : List ℕ × List (List ℕ)) → settled reading (interpreter_dialogue setting ds) ≡ Some (Ok words)
      → (values : List Value) × AreEnded ds values × (flat_map (λ value. value) values ≡ words.0 ∷ words.1)
  words_before setting ds words e =
      let r = then_before (row ds) (λ values. Ends (interpreter_words setting (flat_map (λ value. value) values))) words e in
      let all = flat_map (λ (value : Value). value) r.0 in
      (r.0, row_before ds r.0 r.1, words_alone setting all words (same_Some (interpreter_words setting all) (Ok words) r.2))

-- ---- expressions of a setting

module _ (reading : Reading) (lists : Bool) where
  abbrev pub dialogues_of : List Expression → List (Dialogue Value)
  dialogues_of es = dialogues (const_stage lists) (terms_of es)

  -- the expression settles to a value
  pub record HasEnd (e : Expression) : Type 0 where
    pub value : Value
    pub is : value_of reading lists e ≡ Some (Ok value)

  row_ends : (es : List Expression) (values : List Value) → AreEnded reading (dialogues_of es) values → (s : Seen) → Contains (map (seeing []) es) s → HasEnd s.expression
  row_ends [] values h s c = absurd (contains_none [] s refl c)
  row_ends (e ∷ es) [] h s c = absurd h
  row_ends (e ∷ es) (value ∷ values) h s c = elim (contains_cases (seeing [] e) (map (seeing []) es) s c) [
    | inl same ↦ subst (λ (x : Seen). HasEnd x.expression) same (record { value = value; is = h.0 })
    | inr later ↦ row_ends es values h.1 s later
  ]

  one_ends : (e : Expression) (value : Value) → value_of reading lists e ≡ Some (Ok value) → (s : Seen) → Contains (seeing [] e ∷ []) s → HasEnd s.expression
  one_ends e value is s c = row_ends (e ∷ []) (value ∷ []) (is, tt) s c

  module _ (name : List ℕ) where
    words_end : (i : Interpreter Expression) (words : List ℕ × List (List ℕ)) → words_in reading lists name i ≡ Some (Ok words) → (s : Seen) → Contains (map (seeing []) (i.command ∷ i.arguments.items)) s → HasEnd s.expression
    words_end i words is s c =
        let r = words_before reading name (dialogues_of (i.command ∷ i.arguments.items)) words is in
        row_ends (i.command ∷ i.arguments.items) r.0 r.1 s c

    text_ends : (e : Expression) (text : List ℕ) → text_of reading lists name e ≡ Some (Ok text) → (s : Seen) → Contains (seeing [] e ∷ []) s → HasEnd s.expression
    text_ends e text is s c = one_ends e (text ∷ []) (text_before reading (setting_of name) (dialogue (const_stage lists) (term_of e)) text is) s c

    none_ends : (s : Seen) → Contains [] s → HasEnd s.expression
    none_ends s c = absurd (contains_none [] s refl c)

    -- each expression of a setting that is set settles to a value
    pub each_ends : (setting : Setting) (old new : Settings) → IsSet reading lists name setting old new → (s : Seen) → Contains (seen_in_setting setting) s → HasEnd s.expression
    each_ends (Truth which b) old new h s c = none_ends s c
    each_ends (DotenvCommand e) old new h s c = one_ends e h.0 h.1 s c
    each_ends (DotenvFilename e) old new h s c = one_ends e h.0 h.1 s c
    each_ends (DotenvPath e) old new h s c = one_ends e h.0 h.1 s c
    each_ends (Indentation t) old new h s c = none_ends s c
    each_ends (MinimumVersion t) old new h s c = none_ends s c
    each_ends (ScriptInterpreter i) old new h s c = words_end i _ h.1 s c
    each_ends (Shell i) old new h s c = words_end i _ h.1 s c
    each_ends (Tempdir e) old new h s c = text_ends e h.0 h.1 s c
    each_ends (WindowsShell i) old new h s c = words_end i _ h.1 s c
    each_ends (WorkingDirectory e) old new h s c = text_ends e h.0 h.1 s c

  -- ---- by names

  module _ (settle : Shape → Value) where
    -- this value stands for the expression
    abbrev pub Stands : Expression → Type 0
    Stands e = (value : Value) → value_of reading lists e ≡ Some (Ok value) → settle (shape_of e) ≡ value

    row_stands : (es : List Expression) → ((s : Seen) → Contains (map (seeing []) es) s → Stands s.expression) → (values : List Value) → AreEnded reading (dialogues_of es) values
        → flat_map settle (map shape_of es) ≡ flat_map (λ value. value) values
    row_stands [] stand [] h = refl
    row_stands [] stand (value ∷ values) h = absurd h
    row_stands (e ∷ es) stand [] h = absurd h
    row_stands (e ∷ es) stand (value ∷ values) h =
        ap (λ first. first ++ flat_map settle (map shape_of es)) (stand (seeing [] e) (contains_first (seeing [] e) (map (seeing []) es)) value h.0)
        ∙ ap (λ others. value ++ others) (row_stands es (λ s c. stand s (contains_later (seeing [] e) (map (seeing []) es) s c)) values h.1)

    -- the words of an interpreter are what stands for its expressions, one after another
    pub words_stand : (name : List ℕ) (i : Interpreter Expression) (words : List ℕ × List (List ℕ)) → ((s : Seen) → Contains (map (seeing []) (i.command ∷ i.arguments.items)) s → Stands s.expression)
        → words_in reading lists name i ≡ Some (Ok words) → settle (shape_of i.command) ++ flat_map settle (map shape_of i.arguments.items) ≡ words.0 ∷ words.1
    words_stand name i words stand is =
        let r = words_before reading name (dialogues_of (i.command ∷ i.arguments.items)) words is in
        row_stands (i.command ∷ i.arguments.items) stand r.0 r.1 ∙ r.2

    -- and a text what stands for its expression
    pub text_stands : (name : List ℕ) (e : Expression) (text : List ℕ) → Stands e → text_of reading lists name e ≡ Some (Ok text) → settle (shape_of e) ≡ text ∷ []
    text_stands name e text stands is = stands (text ∷ []) (text_before reading (setting_of name) (dialogue (const_stage lists) (term_of e)) text is)
