-- What a text's tokens say of the settings and attributes that they derive.
use Rattle.std.proofs.Common.{◌≡◌, ℕ, Bool, true, ◌&&◌, List, [], ◌∷◌, ◌++◌, Option, Some, None, refl, sym, ap, subst, inl, inr, ◌⊎◌}
use Rattle.std.specs.Prelude.{codes, not, ◌||◌, is_some}
use Rattle.std.specs.List.{list_all}
use Rattle.std.proofs.lemmas.Bool.{and_parts}
use Rattle.just_text.specs.Tokens.{Word}
use Rattle.just_text.specs.declared.delimiter.Delimiter.TheVariants.{Bracket, Paren}
use Rattle.just_text.specs.declared.token_kind.TokenKind.TheVariants.{BracketL, BracketR, ColonEquals, Comma, Comment, Eol, Equals, Identifier, ParenL, ParenR, StringToken}
use Rattle.just_lexer.specs.declared.mode.Open.{Open}
use Rattle.just_lexer.specs.declared.mode.Open.TheVariants.{Bracket as BracketOpen}
use Rattle.tree_expressions.specs.Shape.{Shape}
use Rattle.tree_attributes.specs.declared.attribute.AttributeKind.{AttributeKind}
use Rattle.tree_attributes.specs.Attributes.{AttributeShape, OptionsShape, with_options, kind_name}
use Rattle.tree_attributes.specs.declared.argument_form.ArgumentForm.{ArgumentForm}
use Rattle.tree_attributes.specs.declared.argument_form.ArgumentForm.TheVariants.{Expressions, Nothing, OneString, OptionalExpression, OptionalString, Parameter, Strings, TwoExpressions}
use Rattle.tree_attributes.specs.Forms.{form_of}
use Rattle.tree_attributes.specs.Settings.{ValueShape, truth, expression, interpreter, string, SetShape, truth_text}
use Rattle.parse_attributes.specs.Arguments.{Sort, of_strings, of_expressions, of_parameter, sort_of, Arguments, nothing, strings, expressions, parameter, lone, of_texts, of_values, made}
use Rattle.parse_attributes.specs.Lines.{behind_comments, behind_one, IsLineEnd, IsBracketEnd, IsBetween, IsLast, IsAssigned, IsOption, AreInside, IsBehindColon, AreArguments, IsAttribute, AreAttributes}
use Rattle.parse_attributes.specs.Options.{OptionShape, flag, multiple, long, help, max, min, short, value, text, is_count, is_short, without_options, with_option, with_all, is_whole, options_of}
use Rattle.parse_attributes.specs.Rows.{Follow, IfGiven}
use Rattle.parse_expressions.specs.Grammar.{Closes}
use Rattle.parse_expressions.specs.Literals.{Expansion}
use Rattle.parse_expressions.specs.Rows.{IsComma}
use Rattle.parse_expressions.specs.Strings.{IsExpression, IsString}
use Rattle.parse_expressions.specs.Words.{is_kind, Mark}
use Rattle.parse_expressions.proofs.Taken.{test, some_is, inspect, is_kind-same}
use Rattle.parse_items.specs.declared.form.Form.{Form}
use Rattle.parse_items.specs.declared.form.Form.TheVariants as forms
use Rattle.parse_items.specs.Settings.{AreElements, IsValue, IsSet}
use Rattle.semver.specs.declared.Version.{Version}
use Rattle.laws_printing.specs.Printing.Attributes.{AllOf}
use Rattle.laws_printing.specs.Printing.Lexed.{is_written}
use Rattle.laws_printing.proofs.Printing.Held.{into, out_of, closes_after, is_one, paren_opens, paren_closes, bracket_opens, bracket_closes}
use Rattle.laws_printing.specs.Formatting.Written.{is_name, is_string, if_there_written, is_long_written, is_value_written, are_options_written, is_attribute_written}
use Rattle.laws_printing.proofs.Formatting.ItemsLexed.{all_so}
use Rattle.laws_printing.proofs.Formatting.AttributesLexed.{is_option_written, is_given_written, are_arguments_written}
use Rattle.laws_printing.proofs.Formatted.Seen.{Out}
use Rattle.laws_printing.proofs.Formatted.SourceItems.{step, begun, passed, name_out, string_out, colon_out, eol_mark, aside_out, eol_out, expression_out}

module _ (expansion : Expansion) where
  -- ---- settings

  elements_out : (es : List Shape) (words rest : List Word) → AreElements expansion es words rest → Out ([] ++ BracketOpen Bracket ∷ []) words → Out [] rest × (list_all is_written es ≡ true)
  elements_out [] words rest i s = (out_of Out step [] BracketR (BracketOpen Bracket) words rest bracket_closes i s, refl)
  elements_out (e ∷ es) words rest (a, d, inl i) s =
      let one = expression_out ([] ++ BracketOpen Bracket ∷ []) expansion e words a d s in
      let others = elements_out es i.0 rest i.2 (passed ([] ++ BracketOpen Bracket ∷ []) Comma a i.0 refl i.1 one.0) in
      (others.0, all_so (is_written e) (list_all is_written es) one.1 others.1)
  elements_out (e ∷ es) words rest (a, d, inr i) s =
      let one = expression_out ([] ++ BracketOpen Bracket ∷ []) expansion e words a d s in
      (out_of Out step [] BracketR (BracketOpen Bracket) a rest bracket_closes i.1 one.0, all_so (is_written e) (list_all is_written es) one.1 (rw i.0 refl))

  value_out : (version : Version) (form : Form) (v : ValueShape) (words rest : List Word) → IsValue expansion version form v words rest → Out [] words → Out [] rest × (is_value_written v ≡ true)
  value_out version forms.Truth (truth b) words rest (inl i) s = (subst (Out []) i.1 s, refl)
  value_out version forms.Truth (truth b) words rest (inr i) s = (begun [] Identifier (truth_text b) i.0 rest refl i.2 (passed [] ColonEquals words i.0 refl i.1 s), refl)
  value_out version forms.Value (expression e) words rest i s = expression_out [] expansion e i.0 rest i.2 (passed [] ColonEquals words i.0 refl i.1 s)
  value_out version forms.Interpreter (interpreter p) words rest i s = elements_out (p.command ∷ p.arguments) i.1 rest i.4 (into Out step [] BracketL (BracketOpen Bracket) i.0 i.1 bracket_opens i.3 (passed [] ColonEquals words i.0 refl i.2 s))
  value_out version forms.Indentation (string t) words rest i s =
      let p = passed [] ColonEquals words i.0 refl i.2 s in
      (begun [] StringToken t i.0 rest refl i.3.0 p, is_one Out step [] StringToken t i.0 rest refl refl refl i.3.0 p)
  value_out version forms.Version (string t) words rest i s =
      let p = passed [] ColonEquals words i.0 refl i.2 s in
      (begun [] StringToken t i.0 rest refl i.3.0 p, is_one Out step [] StringToken t i.0 rest refl refl refl i.3.0 p)
  value_out version forms.Truth (expression e) words rest i s = absurd i
  value_out version forms.Truth (interpreter p) words rest i s = absurd i
  value_out version forms.Truth (string t) words rest i s = absurd i
  value_out version forms.Value (truth b) words rest i s = absurd i
  value_out version forms.Value (interpreter p) words rest i s = absurd i
  value_out version forms.Value (string t) words rest i s = absurd i
  value_out version forms.Interpreter (truth b) words rest i s = absurd i
  value_out version forms.Interpreter (expression e) words rest i s = absurd i
  value_out version forms.Interpreter (string t) words rest i s = absurd i
  value_out version forms.Indentation (truth b) words rest i s = absurd i
  value_out version forms.Indentation (expression e) words rest i s = absurd i
  value_out version forms.Indentation (interpreter p) words rest i s = absurd i
  value_out version forms.Version (truth b) words rest i s = absurd i
  value_out version forms.Version (expression e) words rest i s = absurd i
  value_out version forms.Version (interpreter p) words rest i s = absurd i

  pub set_out : (version : Version) (t : SetShape) (words rest : List Word) → IsSet expansion version t words rest → Out [] words → Out [] rest × (is_name t.name && is_value_written t.value ≡ true)
  set_out version t words rest i s =
      let n = name_out [] t.name i.behind_set i.behind_name i.name (begun [] Identifier (codes "set") words i.behind_set refl i.set s) in
      let v = value_out version i.form t.value i.behind_name i.behind_value i.value n.0 in
      (eol_out [] i.behind_value rest i.eol v.0, all_so (is_name t.name) (is_value_written t.value) n.1 v.1)

  -- ---- the arguments of an attribute

  abbrev In : List Open
  In = [] ++ BracketOpen Bracket ∷ []

  abbrev Inside : List Open
  Inside = In ++ BracketOpen Paren ∷ []

  -- one element of a row
  abbrev Each : {A : Type 0} → (A → List Word → List Word → Type 0) → (A → Bool) → Type 0
  Each {A} Is ok = (x : A) (words rest : List Word) → Is x words rest → Out Inside words → Out Inside rest × (ok x ≡ true)

  row_out : {A : Type 0} (Is : A → List Word → List Word → Type 0) (ok : A → Bool) → Each Is ok → (xs : List A) (words rest : List Word) → Follow Is (IsComma ParenR) (Closes ParenR) xs words rest → Out Inside words → Out In rest × (list_all ok xs ≡ true)
  row_out Is ok each [] words rest i s = (closes_after Out step In ParenR (BracketOpen Paren) words rest paren_closes i s, refl)
  row_out Is ok each (x ∷ xs) words rest i s =
      let one = each x i.0 i.1 i.3 (passed Inside Comma words i.0 refl i.2.0 s) in
      let others = row_out Is ok each xs i.1 rest i.4 one.0 in
      (others.0, all_so (ok x) (list_all ok xs) one.1 others.1)

  each_string : Each (IsString expansion) is_string
  each_string t words rest i s = string_out Inside expansion t words rest i s

  each_expression : Each (IsExpression expansion) is_written
  each_expression e words rest i s = expression_out Inside expansion e words rest i s

  assigned_out : (name t : List ℕ) (words rest : List Word) → IsAssigned expansion name t words rest → Out Inside words → Out Inside rest × (is_string t ≡ true)
  assigned_out name t words rest i s = string_out Inside expansion t i.1 rest i.4 (passed Inside Equals i.0 i.1 refl i.3 (begun Inside Identifier name words i.0 refl i.2 s))

  option_out : (p : OptionShape) (words rest : List Word) → IsOption expansion p words rest → Out Inside words → Out Inside rest × (is_option_written p ≡ true)
  option_out flag words rest i s = (begun Inside Identifier (codes "flag") words rest refl i s, refl)
  option_out multiple words rest i s = (begun Inside Identifier (codes "multiple") words rest refl i s, refl)
  option_out (long None) words rest i s = (begun Inside Identifier (codes "long") words rest refl i.0 s, refl)
  option_out (long (Some t)) words rest i s = assigned_out (codes "long") t words rest i s
  option_out (help t) words rest i s = assigned_out (codes "help") t words rest i s
  option_out (max t) words rest i s = assigned_out (codes "max") t words rest i s
  option_out (min t) words rest i s = assigned_out (codes "min") t words rest i s
  option_out (short t) words rest i s = assigned_out (codes "short") t words rest i s
  option_out (value e) words rest i s = expression_out Inside expansion e i.1 rest i.4 (passed Inside Equals i.0 i.1 refl i.3 (begun Inside Identifier (codes "value") words i.0 refl i.2 s))

  each_given : Each (IfGiven (IsOption expansion)) is_given_written
  each_given None words rest i s = absurd i
  each_given (Some p) words rest i s = option_out p words rest i s

  inside_out : (sort : Sort) (as' : Arguments) (words rest : List Word) → AreInside expansion sort as' words rest → Out Inside words → Out In rest × (are_arguments_written as' ≡ true)
  inside_out of_strings (strings t ts) words rest i s =
      let one = each_string t words i.0 i.1 s in
      let others = row_out (IsString expansion) is_string each_string ts i.0 rest i.2 one.0 in
      (others.0, all_so (is_string t) (list_all is_string ts) one.1 others.1)
  inside_out of_expressions (expressions e es) words rest i s =
      let one = each_expression e words i.0 i.1 s in
      let others = row_out (IsExpression expansion) is_written each_expression es i.0 rest i.2 one.0 in
      (others.0, all_so (is_written e) (list_all is_written es) one.1 others.1)
  inside_out of_parameter (parameter name ps) words rest i s =
      let one = each_string name words i.0 i.1 s in
      let others = row_out (IfGiven (IsOption expansion)) is_given_written each_given ps i.0 rest i.2 one.0 in
      (others.0, all_so (is_string name) (list_all is_given_written ps) one.1 others.1)
  inside_out of_strings nothing words rest i s = absurd i
  inside_out of_strings (expressions e es) words rest i s = absurd i
  inside_out of_strings (parameter name ps) words rest i s = absurd i
  inside_out of_expressions nothing words rest i s = absurd i
  inside_out of_expressions (strings t ts) words rest i s = absurd i
  inside_out of_expressions (parameter name ps) words rest i s = absurd i
  inside_out of_parameter nothing words rest i s = absurd i
  inside_out of_parameter (strings t ts) words rest i s = absurd i
  inside_out of_parameter (expressions e es) words rest i s = absurd i

  lone_written : (sort : Sort) (t : List ℕ) → is_string t ≡ true → are_arguments_written (lone sort t) ≡ true
  lone_written of_strings t w = rw w refl
  lone_written of_expressions t w = rw w refl
  lone_written of_parameter t w = rw w refl

  either_out : (sort : Sort) (as' : Arguments) (words rest : List Word) → (IsBehindColon expansion sort as' words rest ⊎ ((a : List Word) × Mark ParenL words a × AreInside expansion sort as' a rest)) → Out In words → Out In rest × (are_arguments_written as' ≡ true)
  either_out sort as' words rest (inl i) s =
      let t = string_out In expansion i.0 i.1 rest i.3 (colon_out In words i.1 i.2 s) in
      (t.0, rw i.4 (lone_written sort i.0 t.1))
  either_out sort as' words rest (inr i) s = inside_out sort as' i.0 rest i.2 (into Out step In ParenL (BracketOpen Paren) words i.0 paren_opens i.1 s)

  arguments_out : (sort : Sort) (as' : Arguments) (words rest : List Word) → AreArguments expansion sort as' words rest → Out In words → Out In rest × (are_arguments_written as' ≡ true)
  arguments_out sort nothing words rest i s = (subst (Out In) i.0 s, refl)
  arguments_out sort (strings t ts) words rest i s = either_out sort (strings t ts) words rest i s
  arguments_out sort (expressions e es) words rest i s = either_out sort (expressions e es) words rest i s
  arguments_out sort (parameter name ps) words rest i s = either_out sort (parameter name ps) words rest i s

  -- ---- what is made of them

  record Whole (o : OptionsShape) : Type 0 where
    name : is_string o.name ≡ true
    help : if_there_written is_string o.help ≡ true
    long : if_there_written is_long_written o.long ≡ true
    max : if_there_written is_string o.max ≡ true
    min : if_there_written is_string o.min ≡ true
    short : if_there_written is_string o.short ≡ true
    value : if_there_written is_written o.value ≡ true

  whole_written : (o : OptionsShape) → Whole o → are_options_written o ≡ true
  whole_written o w = rw (w.name, w.help, w.long, w.max, w.min, w.short, w.value) refl

  whole_with : (o q : OptionsShape) (p : OptionShape) → Whole o → is_option_written p ≡ true → with_option expansion o p ≡ Some q → Whole q
  whole_with o q flag g k e =
      elim (test o.flag) [
        | inl h ↦ let n = rw h at e in absurd cc
        | inr h ↦ subst Whole (some_is _ q (rw h at e)) (record { name = g.name; help = g.help; long = g.long; max = g.max; min = g.min; short = g.short; value = g.value })
      ]
  whole_with o q multiple g k e =
      elim (test o.multiple) [
        | inl h ↦ let n = rw h at e in absurd cc
        | inr h ↦ subst Whole (some_is _ q (rw h at e)) (record { name = g.name; help = g.help; long = g.long; max = g.max; min = g.min; short = g.short; value = g.value })
      ]
  whole_with o q (long t) g k e =
      elim (test (is_some o.long || not true)) [
        | inl h ↦ let n = rw h at e in absurd cc
        | inr h ↦ subst Whole (some_is _ q (rw h at e)) (record { name = g.name; help = g.help; long = k; max = g.max; min = g.min; short = g.short; value = g.value })
      ]
  whole_with o q (help t) g k e =
      elim (test (is_some o.help || not true)) [
        | inl h ↦ let n = rw h at e in absurd cc
        | inr h ↦ subst Whole (some_is _ q (rw h at e)) (record { name = g.name; help = k; long = g.long; max = g.max; min = g.min; short = g.short; value = g.value })
      ]
  whole_with o q (max t) g k e =
      elim (test (is_some o.max || not (is_count (text expansion t)))) [
        | inl h ↦ let n = rw h at e in absurd cc
        | inr h ↦ subst Whole (some_is _ q (rw h at e)) (record { name = g.name; help = g.help; long = g.long; max = k; min = g.min; short = g.short; value = g.value })
      ]
  whole_with o q (min t) g k e =
      elim (test (is_some o.min || not (is_count (text expansion t)))) [
        | inl h ↦ let n = rw h at e in absurd cc
        | inr h ↦ subst Whole (some_is _ q (rw h at e)) (record { name = g.name; help = g.help; long = g.long; max = g.max; min = k; short = g.short; value = g.value })
      ]
  whole_with o q (short t) g k e =
      elim (test (is_some o.short || not (is_short (text expansion t)))) [
        | inl h ↦ let n = rw h at e in absurd cc
        | inr h ↦ subst Whole (some_is _ q (rw h at e)) (record { name = g.name; help = g.help; long = g.long; max = g.max; min = g.min; short = k; value = g.value })
      ]
  whole_with o q (value v) g k e =
      elim (test (is_some o.value || not true)) [
        | inl h ↦ let n = rw h at e in absurd cc
        | inr h ↦ subst Whole (some_is _ q (rw h at e)) (record { name = g.name; help = g.help; long = g.long; max = g.max; min = g.min; short = g.short; value = k })
      ]

  whole_all : (ps : List (Option OptionShape)) (o q : OptionsShape) → Whole o → list_all is_given_written ps ≡ true → with_all expansion o ps ≡ Some q → Whole q
  whole_all [] o q g k e = subst Whole (some_is o q e) g
  whole_all (None ∷ ps) o q g k e = absurd cc
  whole_all (Some p ∷ ps) o q g k e =
      let b = and_parts (is_option_written p) (list_all is_given_written ps) k in
      elim (inspect (with_option expansion o p)) [
        | inl w ↦ let n = rw w at e in absurd cc
        | inr w ↦ whole_all ps w.0 q (whole_with o w.0 p g b.0 w.1) b.1 (rw w.1 at e)
      ]

  options_whole : (name : List ℕ) (ps : List (Option OptionShape)) (o : OptionsShape) → is_string name ≡ true → list_all is_given_written ps ≡ true → options_of expansion name ps ≡ Some o → are_options_written o ≡ true
  options_whole name ps o n k e =
      elim (inspect (with_all expansion (without_options name) ps)) [
        | inl w ↦ let no = rw w at e in absurd cc
        | inr w ↦
            elim (test (is_whole expansion w.0)) [
              | inl h ↦
                  let same : w.0 ≡ o = some_is w.0 o (rw (w.1, h) at e) in
                  whole_written o (subst Whole same (whole_all ps (without_options name) w.0 (record { name = n; help = refl; long = refl; max = refl; min = refl; short = refl; value = refl }) k w.1))
              | inr h ↦ let no = rw (w.1, h) at e in absurd cc
            ]
      ]

  texts_written : (form : ArgumentForm) (kind : AttributeKind) (t : List ℕ) (ts : List (List ℕ)) → is_string t && list_all is_string ts ≡ true → is_attribute_written (of_texts form kind t ts) ≡ true
  texts_written Strings kind t ts w = w
  texts_written Expressions kind t ts w = (and_parts (is_string t) (list_all is_string ts) w).0
  texts_written Nothing kind t ts w = (and_parts (is_string t) (list_all is_string ts) w).0
  texts_written OneString kind t ts w = (and_parts (is_string t) (list_all is_string ts) w).0
  texts_written OptionalExpression kind t ts w = (and_parts (is_string t) (list_all is_string ts) w).0
  texts_written OptionalString kind t ts w = (and_parts (is_string t) (list_all is_string ts) w).0
  texts_written Parameter kind t ts w = (and_parts (is_string t) (list_all is_string ts) w).0
  texts_written TwoExpressions kind t ts w = (and_parts (is_string t) (list_all is_string ts) w).0

  values_written : (form : ArgumentForm) (e : Shape) (es : List Shape) → is_written e && list_all is_written es ≡ true → is_attribute_written (of_values form e es) ≡ true
  values_written Expressions e es w = w
  values_written TwoExpressions e [] w = (and_parts (is_written e) true w).0
  values_written TwoExpressions e (f ∷ es) w =
      let a = and_parts (is_written e) (is_written f && list_all is_written es) w in
      all_so (is_written e) (is_written f) a.0 (and_parts (is_written f) (list_all is_written es) a.1).0
  values_written Strings e es w = (and_parts (is_written e) (list_all is_written es) w).0
  values_written Nothing e es w = (and_parts (is_written e) (list_all is_written es) w).0
  values_written OneString e es w = (and_parts (is_written e) (list_all is_written es) w).0
  values_written OptionalExpression e es w = (and_parts (is_written e) (list_all is_written es) w).0
  values_written OptionalString e es w = (and_parts (is_written e) (list_all is_written es) w).0
  values_written Parameter e es w = (and_parts (is_written e) (list_all is_written es) w).0

  made_written : (kind : AttributeKind) (as' : Arguments) (x : AttributeShape) → are_arguments_written as' ≡ true → made expansion kind as' ≡ Some x → is_attribute_written x ≡ true
  made_written kind nothing x w m = subst (λ y. is_attribute_written y ≡ true) (some_is _ x m) refl
  made_written kind (strings t ts) x w m = subst (λ y. is_attribute_written y ≡ true) (some_is _ x m) (texts_written (form_of kind) kind t ts w)
  made_written kind (expressions e es) x w m = subst (λ y. is_attribute_written y ≡ true) (some_is _ x m) (values_written (form_of kind) e es w)
  made_written kind (parameter name ps) x w m =
      let a = and_parts (is_string name) (list_all is_given_written ps) w in
      elim (inspect (options_of expansion name ps)) [
        | inl o ↦ let no = rw o at m in absurd cc
        | inr o ↦ subst (λ y. is_attribute_written y ≡ true) (some_is (with_options o.0) x (rw o.1 at m)) (options_whole name ps o.0 a.0 a.1 o.1)
      ]

  attribute_out : (x : AttributeShape) (words rest : List Word) → IsAttribute expansion x words rest → Out In words → Out In rest × (is_attribute_written x ≡ true)
  attribute_out x words rest i s =
      let as' = arguments_out (sort_of (form_of i.kind)) i.arguments i.behind_name rest i.stand (begun In Identifier (kind_name i.kind) words i.behind_name refl i.name s) in
      (as'.0, made_written i.kind i.arguments x as'.1 i.makes)

  -- ---- lines of attributes

  mutual
    unfolding behind_comments behind_one

    comments_out : (words : List Word) → Out [] words → Out [] (behind_comments (λ (w : Word). w) words)
    comments_out [] s = s
    comments_out (w ∷ ws) s =
        elim (test (is_kind w.kind Comment)) [
          | inl h ↦ rw h (one_out w ws (is_kind-same w.kind Comment h) s)
          | inr h ↦ rw h s
        ]

    one_out : (w : Word) (ws : List Word) → w.kind ≡ Comment → Out [] (w ∷ ws) → Out [] (behind_one (λ (w : Word). w) w ws)
    one_out w [] c s = s
    one_out w (v ∷ vs) c s =
        elim (test (is_kind v.kind Eol)) [
          | inl h ↦
              let after : Out [] (v ∷ vs) = passed [] Comment (w ∷ v ∷ vs) (v ∷ vs) refl (w.text, ap (λ k. record { kind = k; text = w.text } ∷ v ∷ vs) c) s in
              rw h (comments_out vs (eol_mark [] (v ∷ vs) vs (v.text, ap (λ k. record { kind = k; text = v.text } ∷ vs) (is_kind-same v.kind Eol h)) after))
          | inr h ↦ rw h s
        ]

  line_end_out : (words rest : List Word) → IsLineEnd words rest → Out [] words → Out [] rest
  line_end_out words rest i s = subst (Out []) (sym i.4) (comments_out i.1 (eol_mark [] i.0 i.1 i.3 (aside_out [] words i.0 i.2 s)))

  bracket_end_out : (words rest : List Word) → IsBracketEnd words rest → Out In words → Out [] rest
  bracket_end_out words rest i s = line_end_out i.0 rest i.2 (closes_after Out step [] BracketR (BracketOpen Bracket) words i.0 bracket_closes i.1 s)

  between_out : (words rest : List Word) → IsBetween words rest → Out In words → Out In rest
  between_out words rest (inl i) s = passed In Comma words rest refl i.0 s
  between_out words rest (inr i) s = into Out step [] BracketL (BracketOpen Bracket) i.0 rest bracket_opens i.2 (bracket_end_out words i.0 i.1 s)

  abbrev AreWritten : List AttributeShape → Type 0
  AreWritten xs = AllOf (λ x. is_attribute_written x ≡ true) xs

  follow_out : (xs : List AttributeShape) (words rest : List Word) → Follow (IsAttribute expansion) IsBetween IsLast xs words rest → Out In words → Out [] rest × AreWritten xs
  follow_out [] words rest i s = (bracket_end_out words rest i.0 s, tt)
  follow_out (x ∷ xs) words rest i s =
      let one = attribute_out x i.0 i.1 i.3 (between_out words i.0 i.2 s) in
      let others = follow_out xs i.1 rest i.4 one.0 in
      (others.0, (one.1, others.1))

  pub attributes_out : (xs : List AttributeShape) (words rest : List Word) → AreAttributes expansion xs words rest → Out [] words → Out [] rest × AreWritten xs
  attributes_out [] words rest i s = (subst (Out []) i.0 s, tt)
  attributes_out (x ∷ xs) words rest i s =
      let one = attribute_out x i.0 i.1 i.3 (into Out step [] BracketL (BracketOpen Bracket) words i.0 bracket_opens i.2 s) in
      let others = follow_out xs i.1 rest i.4 one.0 in
      (others.0, (one.1, others.1))
