-- Items and settings.
use Rattle.std.proofs.Common.{◌≡◌, ℕ, zero, suc, Bool, false, ◌||◌, Option, Some, None, Result, Ok, Err, List, [], ◌∷◌, map, length, refl, ap}
use Rattle.std.specs.Str.{bytes_eq}
use Rattle.just_text.specs.Tokens.{Word}
use Rattle.just_text.specs.declared.compile_error.CompileErrorKind.{CompileErrorKind}
use Rattle.just_text.specs.declared.token_kind.TokenKind.TheVariants.{BracketL, BracketR, ColonEquals, Comma, Identifier, ParenL, ParenR, QuestionMark, StringToken}
use Rattle.tree_expressions.specs.Cooking.{cooked}
use Rattle.tree_attributes.specs.declared.item_kind.ItemKind.{ItemKind}
use Rattle.tree_attributes.specs.declared.item_kind.ItemKind.TheVariants.{Alias, Assignment, Function, Import, Module, Recipe, Set, Unexport}
use Rattle.parse_expressions.specs.Literals.{Expansion}
use Rattle.parse_expressions.specs.Reading.{on, accept, expression_at}
use Rattle.parse_recipes.specs.Reading.{marked_at}
use Rattle.parse_items.specs.Keywords.{eager_keyword, export_keyword}
use Rattle.parse_items.specs.Reading.{is_ok, ends_here, is_named_value, kind_by_two, kind_by_one, kind_at, alias_at, unexport_at, words_at, names_at, value_at, assignment_at, function_at, import_at, file_at, module_at, item_of}
use Rattle.parse_items.specs.SettingReading.{truth_at, flag_at, unless_fault, checked_if, checked_at, arguments_at, interpreter_at, setting_at, known_at, set_at, indentation_fault, version_fault, true_keyword, false_keyword}
use Rattle.parse_items.specs.SettingReading as settings
use Rattle.parse_items.specs.declared.form.Form.{Form}
use Rattle.parse_items.specs.declared.form.Form.TheVariants.{Indentation, Interpreter, Truth, Value, Version}
use Rattle.parse_items.specs.Names.{form_named}
use Rattle.parse_attributed_items.specs.Bare.{bare_of}
use Rattle.semver.specs.declared.Version.{Version as SemanticVersion}
use Rattle.laws_reading.specs.Words.Mapped.{map_result}
use Rattle.laws_reading.proofs.Words.Steps.{accepts, bind, choose, either, expects, first_stops, keywords, length_there, nexts, ok, on_same, seen, stops}
use Rattle.laws_reading.proofs.Words.Expressions.{Gives, elements_turns, eol_goes, expression_goes, string_goes}
use Rattle.laws_reading.proofs.Words.Recipes.{marked_there, path_goes, recipe_goes}

ok_there : {E F A B : Type 0} (s : E → F) (g : A → B) (m : Result A E) (n : Result B F) → map_result s g m ≡ n → is_ok m ≡ is_ok n
ok_there s g (Ok x) n e = ap is_ok e
ok_there s g (Err r) n e = ap is_ok e

module _ {T S : Type 0} (f : T → S) (word : S → Word) where
  ends_there : (ts : List T) → ends_here (seen f word) ts ≡ ends_here word (map f ts)
  ends_there ts = ok_there _ _ _ _ (eol_goes f word ts).is

  named_value : (ts : List T) → is_named_value (seen f word) ts ≡ is_named_value word (map f ts)
  unfolding is_named_value
  named_value ts = on_same _ (accepts f word Identifier ts) refl (λ p. nexts f word ColonEquals p.1)

  two_there : (a b : List ℕ) (ts : List T) → kind_by_two (seen f word) a b ts ≡ kind_by_two word a b (map f ts)
  unfolding kind_by_two
  two_there a b ts = rw (nexts f word ColonEquals ts, ends_there ts, nexts f word StringToken ts, named_value ts) refl

  third : (a : List ℕ) (ts : List T) → on (accept (seen f word) Identifier ts) Recipe (λ p. kind_by_two (seen f word) a (word (f p.0)).text p.1) ≡ on (accept word Identifier (map f ts)) Recipe (λ p. kind_by_two word a (word p.0).text p.1)
  third a ts = on_same _ (accepts f word Identifier ts) refl (λ p. two_there a (word (f p.0)).text p.1)

  one_there : (a : List ℕ) (ts : List T) → kind_by_one (seen f word) a ts ≡ kind_by_one word a (map f ts)
  unfolding kind_by_one
  one_there a ts = rw (nexts f word ColonEquals ts, nexts f word ParenL ts, nexts f word StringToken ts, nexts f word QuestionMark ts, third a ts) refl

  pub item_kinds : (ts : List T) → kind_at (seen f word) ts ≡ kind_at word (map f ts)
  unfolding kind_at
  item_kinds ts = on_same _ (accepts f word Identifier ts) refl (λ p. one_there (word (f p.0)).text p.1)

  alias_goes : (ts : List T) → Gives f word (alias_at (seen f word) ts) (alias_at word (map f ts))
  unfolding alias_at
  alias_goes ts =
      bind _ (expects f word Identifier ts) (λ k. bind _ (expects f word Identifier k.1) (λ n. bind _ (expects f word ColonEquals n.1) (λ c. bind _ (path_goes f word c.1) (λ p. bind _ (eol_goes f word p.1) (λ rest. ok)))))

  unexport_goes : (ts : List T) → Gives f word (unexport_at (seen f word) ts) (unexport_at word (map f ts))
  unfolding unexport_at
  unexport_goes ts = bind _ (expects f word Identifier ts) (λ k. bind _ (expects f word Identifier k.1) (λ n. bind _ (eol_goes f word n.1) (λ rest. ok)))

  words_goes : (export eager : Bool) (n : ℕ) (ts : List T) → Gives f word (words_at (seen f word) export eager n ts) (words_at word export eager n (map f ts))
  unfolding words_at
  words_goes export eager zero ts = first_stops f ts
  words_goes export eager (suc n) ts =
      either (named_value ts) ok
      (bind _ (expects f word Identifier ts) (λ k. words_goes (export || bytes_eq (word (f k.0)).text export_keyword) (eager || bytes_eq (word (f k.0)).text eager_keyword) n k.1))

  words_turns : (ts : List T) → Gives f word (words_at (seen f word) false false (suc (length ts)) ts) (words_at word false false (suc (length (map f ts))) (map f ts))
  words_turns ts = rw (length_there f ts) (words_goes false false (suc (length ts)) ts)

  names_goes : (n : ℕ) (before : List (List ℕ)) (ts : List T) → Gives f word (names_at (seen f word) n before ts) (names_at word n before (map f ts))
  unfolding names_at
  names_goes zero before ts = first_stops f ts
  names_goes (suc n) before ts =
      choose _ (accepts f word ParenR ts)
      (bind _ (expects f word Identifier ts) (λ t. either refl stops
      (choose _ (accepts f word Comma t.1)
      (bind _ (expects f word ParenR t.1) (λ p. ok))
      (λ c. bind _ (names_goes n ((word (f t.0)).text ∷ before) c.1) (λ ns. ok)))))
      (λ p. ok)

  names_turns : (ts : List T) → Gives f word (names_at (seen f word) (suc (length ts)) [] ts) (names_at word (suc (length (map f ts))) [] (map f ts))
  names_turns ts = rw (length_there f ts) (names_goes (suc (length ts)) [] ts)

  -- ---- settings without expressions

  truth_goes : (ts : List T) → Gives f word (truth_at (seen f word) ts) (truth_at word (map f ts))
  unfolding truth_at
  truth_goes ts =
      either (keywords f word true_keyword ts) (bind _ (expects f word Identifier ts) (λ p. ok))
      (either (keywords f word false_keyword ts) (bind _ (expects f word Identifier ts) (λ p. ok)) (first_stops f ts))

  flag_goes : (ts : List T) → Gives f word (flag_at (seen f word) ts) (flag_at word (map f ts))
  unfolding flag_at
  flag_goes ts = choose _ (accepts f word ColonEquals ts) ok (λ c. truth_goes c.1)

  unless_goes : (t : T) (o : Option CompileErrorKind) (ts : List T) → Gives f word (unless_fault (seen f word) t o ts) (unless_fault word (f t) o (map f ts))
  unless_goes t None ts = ok
  unless_goes t (Some kind) ts = stops

  module _ (expansion : Expansion) where
    value_goes : (ts : List T) → Gives f word (value_at (seen f word) expansion ts) (value_at word expansion (map f ts))
    unfolding value_at
    value_goes ts = bind _ (expects f word ColonEquals ts) (λ c. bind _ (expression_goes f word expansion 256 6 c.1) (λ e. bind _ (eol_goes f word e.1) (λ rest. ok)))

    assignment_goes : (ts : List T) → Gives f word (assignment_at (seen f word) expansion ts) (assignment_at word expansion (map f ts))
    unfolding assignment_at
    assignment_goes ts = bind _ (words_turns ts) (λ w. bind _ (expects f word Identifier w.1) (λ n. bind _ (value_goes n.1) (λ v. ok)))

    function_goes : (ts : List T) → Gives f word (function_at (seen f word) expansion ts) (function_at word expansion (map f ts))
    unfolding function_at
    function_goes ts = bind _ (expects f word Identifier ts) (λ n. bind _ (expects f word ParenL n.1) (λ o. bind _ (names_turns o.1) (λ ps. bind _ (value_goes ps.1) (λ v. ok))))

    import_goes : (ts : List T) → Gives f word (import_at (seen f word) expansion ts) (import_at word expansion (map f ts))
    unfolding import_at
    import_goes ts =
        bind _ (expects f word Identifier ts) (λ k.
        rw (marked_there f word QuestionMark k.1)
        (bind _ (string_goes f word expansion (marked_at (seen f word) QuestionMark k.1).1) (λ s. bind _ (eol_goes f word s.1) (λ rest. ok))))

    file_goes : (ts : List T) → Gives f word (file_at (seen f word) expansion ts) (file_at word expansion (map f ts))
    unfolding file_at
    file_goes ts = either (nexts f word StringToken ts) (bind _ (string_goes f word expansion ts) (λ s. ok)) ok

    module_goes : (ts : List T) → Gives f word (module_at (seen f word) expansion ts) (module_at word expansion (map f ts))
    unfolding module_at
    module_goes ts =
        bind _ (expects f word Identifier ts) (λ k.
        rw (marked_there f word QuestionMark k.1)
        (bind _ (expects f word Identifier (marked_at (seen f word) QuestionMark k.1).1) (λ n. bind _ (file_goes n.1) (λ s. bind _ (eol_goes f word s.1) (λ rest. ok)))))

    item_goes : (kind : ItemKind) (ts : List T) → Gives f word (item_of (seen f word) expansion kind ts) (item_of word expansion kind (map f ts))
    unfolding item_of
    item_goes Alias ts = bind _ (alias_goes ts) (λ x. ok)
    item_goes Assignment ts = bind _ (assignment_goes ts) (λ x. ok)
    item_goes Function ts = bind _ (function_goes ts) (λ x. ok)
    item_goes Import ts = bind _ (import_goes ts) (λ x. ok)
    item_goes Module ts = bind _ (module_goes ts) (λ x. ok)
    item_goes Unexport ts = bind _ (unexport_goes ts) (λ x. ok)
    item_goes other ts = first_stops f ts

    -- ---- settings

    checked_if_goes : (fault : List ℕ → Option CompileErrorKind) (t : T) (text : Result (List ℕ) CompileErrorKind) (ts : List T)
        → Gives f word (checked_if (seen f word) expansion fault t text ts) (checked_if word expansion fault (f t) text (map f ts))
    checked_if_goes fault t (Ok text) ts = unless_goes t (fault text) ts
    checked_if_goes fault t (Err kind) ts = stops

    checked_goes : (fault : List ℕ → Option CompileErrorKind) (ts : List T) → Gives f word (checked_at (seen f word) expansion fault ts) (checked_at word expansion fault (map f ts))
    unfolding checked_at
    checked_goes fault ts =
        bind _ (expects f word ColonEquals ts) (λ c. bind _ (expects f word StringToken c.1) (λ t. checked_if_goes fault t.0 (cooked expansion (word (f t.0)).text) t.1))

    arguments_goes : (ts : List T) → Gives f word (arguments_at (seen f word) expansion ts) (arguments_at word expansion (map f ts))
    unfolding arguments_at
    arguments_goes ts =
        choose _ (accepts f word Comma ts)
        (bind _ (expects f word BracketR ts) (λ p. ok))
        (λ c. bind _ (elements_turns f word expansion (expression_at (seen f word) expansion 256) (expression_at word expansion 256) (expression_goes f word expansion 256) BracketR c.1) (λ es. ok))

    interpreter_goes : (ts : List T) → Gives f word (interpreter_at (seen f word) expansion ts) (interpreter_at word expansion (map f ts))
    unfolding interpreter_at
    interpreter_goes ts =
        bind _ (expects f word ColonEquals ts) (λ c. bind _ (expects f word BracketL c.1) (λ b. bind _ (expression_goes f word expansion 256 6 b.1) (λ e. bind _ (arguments_goes e.1) (λ es. ok))))

    set_value_goes : (ts : List T) → Gives f word (settings.value_at (seen f word) expansion ts) (settings.value_at word expansion (map f ts))
    unfolding settings.value_at
    set_value_goes ts = bind _ (expects f word ColonEquals ts) (λ c. expression_goes f word expansion 256 6 c.1)

    module _ (current : SemanticVersion) where
      setting_goes : (name : List ℕ) (form : Form) (ts : List T) → Gives f word (setting_at (seen f word) expansion current name form ts) (setting_at word expansion current name form (map f ts))
      unfolding setting_at
      setting_goes name Truth ts = bind _ (flag_goes ts) (λ x. ok)
      setting_goes name Value ts = bind _ (set_value_goes ts) (λ x. ok)
      setting_goes name Interpreter ts = bind _ (interpreter_goes ts) (λ x. ok)
      setting_goes name Indentation ts = bind _ (checked_goes (indentation_fault name) ts) (λ x. ok)
      setting_goes name Version ts = bind _ (checked_goes (version_fault current name) ts) (λ x. ok)

      known_goes : (t : T) (form : Option Form) (ts : List T) → Gives f word (known_at (seen f word) expansion current t form ts) (known_at word expansion current (f t) form (map f ts))
      unfolding known_at
      known_goes t None ts = stops
      known_goes t (Some form) ts = setting_goes (word (f t)).text form ts

      set_goes : (ts : List T) → Gives f word (set_at (seen f word) expansion current ts) (set_at word expansion current (map f ts))
      unfolding set_at
      set_goes ts =
          bind _ (expects f word Identifier ts) (λ k. bind _ (expects f word Identifier k.1) (λ n. bind _ (known_goes n.0 (form_named (word (f n.0)).text) n.1) (λ v. bind _ (eol_goes f word v.1) (λ rest. ok))))

      pub bare_goes : (kind : ItemKind) (ts : List T) → Gives f word (bare_of (seen f word) expansion current kind ts) (bare_of word expansion current kind (map f ts))
      unfolding bare_of
      bare_goes Recipe ts = bind _ (recipe_goes f word expansion ts) (λ x. ok)
      bare_goes Set ts = bind _ (set_goes ts) (λ x. ok)
      bare_goes kind ts = bind _ (item_goes kind ts) (λ x. ok)
