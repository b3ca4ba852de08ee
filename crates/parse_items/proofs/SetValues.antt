-- The value of a setting is read where it is spelled, and only there.
use Rattle.std.proofs.Common.{◌≡◌, ℕ, true, List, map, Ok, refl, inl, inr, ◌⊎◌}
use Rattle.just_text.specs.Tokens.{Word}
use Rattle.just_text.specs.declared.token_kind.TokenKind.TheVariants.{ColonEquals}
use Rattle.tree_attributes.specs.Settings.{ValueShape, truth, expression, interpreter, string}
use Rattle.tree_expressions.specs.Shape.{Shape}
use Rattle.parse_expressions.specs.Words.{Mark, Lacks}
use Rattle.parse_expressions.specs.Literals.{Expansion}
use Rattle.parse_expressions.specs.Laws.{Exactly}
use Rattle.parse_expressions.proofs.Taken.{bind_ok, turned, expect_mark, marked}
use Rattle.parse_expressions.proofs.TokensTaken.{Reads}
use Rattle.tree_attributes.specs.Sets.Indentations.{is_indentation}
use Rattle.semver.specs.declared.Version.{Version as SemanticVersion}
use Rattle.parse_items.specs.declared.form.Form.{Form}
use Rattle.parse_items.specs.declared.form.Form.TheVariants.{Indentation, Interpreter, Truth, Value, Version}
use Rattle.parse_items.specs.Settings.{IsVersion, IsValue}
use Rattle.parse_items.specs.SettingReading.{indentation_fault, version_fault, value_at, setting_at}
use Rattle.parse_items.proofs.Truths.{flag_found, flag_again}
use Rattle.parse_items.proofs.SetStrings.{no_indentation_fault, indentation_taken, no_version_fault, version_taken, checked_found, checked_again}
use Rattle.parse_items.proofs.Interpreters.{interpreter_found, interpreter_again}
use Rattle.parse_expressions.specs.Strings.{IsExpression}

-- a value begins with `:=`, or takes no words
pub value_first : (expansion : Expansion) (current : SemanticVersion) (form : Form) (v : ValueShape) (ws rest : List Word) → IsValue expansion current form v ws rest
    → ((a : List Word) × Mark ColonEquals ws a) ⊎ ((ws ≡ rest) × Lacks ColonEquals ws)
value_first expansion current Truth (truth b) ws rest (inl i) = inr (i.1, i.2)
value_first expansion current Truth (truth b) ws rest (inr i) = inl (i.0, i.1)
value_first expansion current Value (expression e) ws rest i = inl (i.0, i.1)
value_first expansion current Interpreter (interpreter s) ws rest i = inl (i.0, i.2)
value_first expansion current Indentation (string s) ws rest i = inl (i.0, i.2)
value_first expansion current Version (string s) ws rest i = inl (i.0, i.2)
value_first expansion current form v ws rest i = absurd i

module _ {T : Type 0} (word : T → Word) (expansion : Expansion) (expressions : Exactly word expansion 256 6) where
  -- up to rest there is `:=` and an expression
  abbrev IsExpressionValue : Shape → List Word → List Word → Type 0
  IsExpressionValue e words rest = (a : List Word) × Mark ColonEquals words a × IsExpression expansion e a rest

  expression_value_found : (ts : List T) (p : Shape × List T) → value_at word expansion ts ≡ Ok p → IsExpressionValue p.0 (map word ts) (map word p.1)
  unfolding value_at
  expression_value_found ts p h = let c = bind_ok _ _ p h in (map word c.0.1, expect_mark word ColonEquals ts c.0 c.1, expressions.found c.0.1 p.1 p.0 c.2)

  expression_value_again : (e : Shape) (ts : List T) (ws : List Word) → IsExpressionValue e (map word ts) ws → Reads word (value_at word expansion ts) e ws
  unfolding value_at
  expression_value_again e ts ws (a, m, i) =
      let c = marked word ColonEquals ts a m in
      let x = expressions.only c.rest ws e (rw c.others i) in
      record { rest = x.0; is = rw c.expects x.1; others = x.2 }

  module _ (current : SemanticVersion) (name : List ℕ) where
    pub value_found : (form : Form) (ts : List T) (p : ValueShape × List T) → setting_at word expansion current name form ts ≡ Ok p → IsValue expansion current form p.0 (map word ts) (map word p.1)
    unfolding setting_at
    value_found Truth ts p h =
        let v = bind_ok _ _ p h in
        turned (λ (z : ValueShape × List T). IsValue expansion current Truth z.0 (map word ts) (map word z.1)) (truth v.0.0, v.0.1) p v.2 (flag_found word ts v.0 v.1)
    value_found Value ts p h =
        let v = bind_ok _ _ p h in
        turned (λ (z : ValueShape × List T). IsValue expansion current Value z.0 (map word ts) (map word z.1)) (expression v.0.0, v.0.1) p v.2 (expression_value_found ts v.0 v.1)
    value_found Interpreter ts p h =
        let v = bind_ok _ _ p h in
        turned (λ (z : ValueShape × List T). IsValue expansion current Interpreter z.0 (map word ts) (map word z.1)) (interpreter v.0.0, v.0.1) p v.2 (interpreter_found word expansion expressions ts v.0 v.1)
    value_found Indentation ts p h =
        let v = bind_ok _ _ p h in
        turned (λ (z : ValueShape × List T). IsValue expansion current Indentation z.0 (map word ts) (map word z.1)) (string v.0.0, v.0.1) p v.2
        (checked_found word expansion (indentation_fault name) (λ text. is_indentation text ≡ true) (no_indentation_fault name) ts v.0 v.1)
    value_found Version ts p h =
        let v = bind_ok _ _ p h in
        turned (λ (z : ValueShape × List T). IsValue expansion current Version z.0 (map word ts) (map word z.1)) (string v.0.0, v.0.1) p v.2
        (checked_found word expansion (version_fault current name) (IsVersion current) (no_version_fault current name) ts v.0 v.1)

    pub value_again : (form : Form) (v : ValueShape) (ts : List T) (ws : List Word) → IsValue expansion current form v (map word ts) ws → Reads word (setting_at word expansion current name form ts) v ws
    unfolding setting_at
    value_again Truth (truth b) ts ws i = let r = flag_again word b ts ws i in record { rest = r.rest; is = rw r.is refl; others = r.others }
    value_again Value (expression e) ts ws i = let r = expression_value_again e ts ws i in record { rest = r.rest; is = rw r.is refl; others = r.others }
    value_again Interpreter (interpreter s) ts ws i = let r = interpreter_again word expansion expressions s ts ws i in record { rest = r.rest; is = rw r.is refl; others = r.others }
    value_again Indentation (string s) ts ws i =
        let r = checked_again word expansion (indentation_fault name) (λ text. is_indentation text ≡ true) (indentation_taken name) s ts ws i in
        record { rest = r.rest; is = rw r.is refl; others = r.others }
    value_again Version (string s) ts ws i =
        let r = checked_again word expansion (version_fault current name) (IsVersion current) (version_taken current name) s ts ws i in
        record { rest = r.rest; is = rw r.is refl; others = r.others }
    value_again form v ts ws i = absurd i
