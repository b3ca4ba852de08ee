-- How settings are read.
use Rattle.std.specs.Prelude.{ℕ, zero, suc, List, [], ◌∷◌, length, Bool, true, false, Option, Some, None, Result, Ok, Err, codes, if◌then◌else◌}
use Rattle.just_text.specs.Tokens.{Word}
use Rattle.just_text.specs.declared.compile_error.CompileErrorKind.{CompileErrorKind}
use Rattle.just_text.specs.declared.compile_error.CompileErrorKind.TheVariants as kinds
use Rattle.just_text.specs.declared.token_kind.TokenKind.TheVariants.{BracketL, BracketR, ColonEquals, Comma, Identifier, StringToken}
use Rattle.tree_expressions.specs.Cooking.{cooked}
use Rattle.tree_attributes.specs.Settings.{ValueShape, truth, expression, interpreter, string, SetShape, InterpreterShape}
use Rattle.tree_expressions.specs.Shape.{Shape, Shapes, end, more}
use Rattle.parse_expressions.specs.Literals.{Expansion}
use Rattle.parse_expressions.specs.Reading.{◌>>=◌, on, Read, unexpected, refused, first, accept, expect, is_keyword, elements_at, expression_at}
use Rattle.parse_expressions.specs.LineEnds.{eol_at}
use Rattle.tree_attributes.specs.Sets.Indentations.{is_indentation}
use Rattle.semver.specs.declared.Version.{Version as SemanticVersion}
use Rattle.semver.specs.Identifiers.{version_text}
use Rattle.semver.specs.Parse.{Parts, version_parts}
use Rattle.semver.specs.declared.Error.{Error}
use Rattle.parse_items.specs.declared.form.Form.{Form}
use Rattle.parse_items.specs.declared.form.Form.TheVariants.{Indentation, Interpreter, Truth, Value, Version}
use Rattle.parse_items.specs.Names.{form_named}
use Rattle.parse_items.specs.Versions.{is_above}

-- the row of expressions as a list
abbrev pub shapes_in : Shapes → List Shape
shapes_in end = []
shapes_in (more e es) = e ∷ shapes_in es

abbrev pub true_keyword : List ℕ
true_keyword = codes "true"

abbrev pub false_keyword : List ℕ
false_keyword = codes "false"

-- why a text is no value of that setting, where it has to be an indentation
abbrev pub indentation_fault : List ℕ → List ℕ → Option CompileErrorKind
indentation_fault name text = if is_indentation text then None else Some (kinds.InvalidSetting name text)

abbrev pub version_fault_of : SemanticVersion → List ℕ → List ℕ → Result Parts Error → Option CompileErrorKind
version_fault_of current name text (Ok parts) = if is_above parts current then Some (kinds.MinimumVersion text (version_text current)) else None
version_fault_of current name text (Err e) = Some (kinds.InvalidSetting name text)

-- the same where it has to be a version that is not above the current one
abbrev pub version_fault : SemanticVersion → List ℕ → List ℕ → Option CompileErrorKind
version_fault current name text = version_fault_of current name text (version_parts text)

module _ {T : Type 0} (word : T → Word) where
  -- `true` or `false`
  unfoldable pub truth_at : List T → Read T Bool
  truth_at ts =
      if is_keyword word true_keyword ts then (expect word Identifier ts >>= λ p. Ok (true, p.1))
      else if is_keyword word false_keyword ts then (expect word Identifier ts >>= λ p. Ok (false, p.1))
      else Err (unexpected (first ts))

  -- a truth value, which is true where it is left out
  unfoldable pub flag_at : List T → Read T Bool
  flag_at ts = on (accept word ColonEquals ts) (Ok (true, ts)) (λ c. truth_at c.1)

  -- the token, unless its text is at fault
  abbrev pub unless_fault : T → Option CompileErrorKind → List T → Read T (List ℕ)
  unless_fault t None ts = Ok ((word t).text, ts)
  unless_fault t (Some kind) ts = Err (refused t kind)

  module _ (expansion : Expansion) where
    -- a string, if it can be cooked and its text is not at fault
    abbrev pub checked_if : (List ℕ → Option CompileErrorKind) → T → Result (List ℕ) CompileErrorKind → List T → Read T (List ℕ)
    checked_if fault t (Ok text) ts = unless_fault t (fault text) ts
    checked_if fault t (Err kind) ts = Err (refused t kind)

    unfoldable pub checked_at : (List ℕ → Option CompileErrorKind) → List T → Read T (List ℕ)
    checked_at fault ts =
        expect word ColonEquals ts >>= λ c. expect word StringToken c.1 >>= λ t. checked_if fault t.0 (cooked expansion (word t.0).text) t.1

    -- the token with what its text stands for, if it can be cooked
    abbrev pub cooked_if : T → Result (List ℕ) CompileErrorKind → List T → Read T (T × List ℕ)
    cooked_if t (Ok text) ts = Ok ((t, text), ts)
    cooked_if t (Err kind) ts = Err (refused t kind)

    -- the token of a string, and what it stands for
    unfoldable pub set_string_at : List T → Read T (T × List ℕ)
    set_string_at ts = expect word ColonEquals ts >>= λ c. expect word StringToken c.1 >>= λ t. cooked_if t.0 (cooked expansion (word t.0).text) t.1

    -- what stands after the first expression of an interpreter
    unfoldable pub arguments_at : List T → Read T (List Shape)
    arguments_at ts =
        on (accept word Comma ts)
        (expect word BracketR ts >>= λ p. Ok ([], p.1))
        (λ c. elements_at word expansion (expression_at word expansion 256) (suc (length c.1)) BracketR c.1 >>= λ es. Ok (shapes_in es.0, es.1))

    unfoldable pub interpreter_at : List T → Read T InterpreterShape
    interpreter_at ts =
        expect word ColonEquals ts >>= λ c. expect word BracketL c.1 >>= λ b. expression_at word expansion 256 6 b.1 >>= λ e. arguments_at e.1 >>= λ es.
        Ok (record { command = e.0; arguments = es.0 }, es.1)

    unfoldable pub value_at : List T → Read T Shape
    value_at ts = expect word ColonEquals ts >>= λ c. expression_at word expansion 256 6 c.1

    -- a value of that form of the setting with that name
    unfoldable pub setting_at : SemanticVersion → List ℕ → Form → List T → Read T ValueShape
    setting_at current name Truth ts = flag_at ts >>= λ b. Ok (truth b.0, b.1)
    setting_at current name Value ts = value_at ts >>= λ e. Ok (expression e.0, e.1)
    setting_at current name Interpreter ts = interpreter_at ts >>= λ i. Ok (interpreter i.0, i.1)
    setting_at current name Indentation ts = checked_at (indentation_fault name) ts >>= λ s. Ok (string s.0, s.1)
    setting_at current name Version ts = checked_at (version_fault current name) ts >>= λ s. Ok (string s.0, s.1)

    -- the value of the setting whose name that token is, if there is such a setting
    unfoldable pub known_at : SemanticVersion → T → Option Form → List T → Read T ValueShape
    known_at current t None ts = Err (refused t (kinds.UnknownSetting (word t).text))
    known_at current t (Some form) ts = setting_at current (word t).text form ts

    unfoldable pub set_at : SemanticVersion → List T → Read T SetShape
    set_at current ts =
        expect word Identifier ts >>= λ k. expect word Identifier k.1 >>= λ n. known_at current n.0 (form_named (word n.0).text) n.1 >>= λ v. eol_at word v.1 >>= λ rest.
        Ok (record { name = (word n.0).text; value = v.0 }, rest)
