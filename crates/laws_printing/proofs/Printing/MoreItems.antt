-- Functions, submodules, unexports and settings are derived again.
use Rattle.std.proofs.Common.{ℕ, List, [], ◌∷◌, Option, Some, None, refl, inl, inr}
use Rattle.std.specs.Prelude.{codes}
use Rattle.just_text.specs.Tokens.{Word}
use Rattle.just_text.specs.declared.token_kind.TokenKind.TheVariants.{BracketR, Comma, Eol}
use Rattle.tree_expressions.specs.Shape.{Shape}
use Rattle.tree_attributes.specs.Settings.{ValueShape, truth, expression, interpreter, string, SetShape}
use Rattle.tree_items.specs.Items.{FunctionShape, ModuleShape}
use Rattle.parse_expressions.specs.Words.{significant}
use Rattle.parse_expressions.specs.Literals.{Expansion}
use Rattle.parse_items.specs.declared.form.Form.{Form}
use Rattle.parse_items.specs.declared.form.Form.TheVariants.{Indentation, Interpreter, Truth, Value, Version}
use Rattle.parse_items.specs.Items.{AreNames, IsFunction, IsFile, IsModule, IsUnexport}
use Rattle.parse_items.specs.Settings.{AreElements, IsValue, IsSet}
use Rattle.parse_expressions.specs.Strings.{IsExpression}
use Rattle.semver.specs.declared.Version.{Version as SemanticVersion}
use Rattle.laws_printing.specs.Printing.Words.{word, space, words_of}
use Rattle.laws_printing.specs.Printing.ItemWords.{newline, assigned}
use Rattle.laws_printing.specs.Printing.MoreItems.{unexport_words, file_words, module_words, names_words, function_words, other_elements, value_words, set_words}
use Rattle.laws_printing.proofs.Printing.Quiet.{ends, quiet_end, closed_end}
use Rattle.laws_printing.proofs.Printing.Items.{eol_spelled, optional_spelled}
use Rattle.laws_printing.proofs.Printing.Spelled.{derived}

pub unexport_spelled : (name : List ℕ) (words rest after : List Word) → IsUnexport name words rest → IsUnexport name (significant (unexport_words name (newline ∷ after))) (significant after)
unexport_spelled name words rest after i = (_, _, refl, refl, eol_spelled after)

names_again : (names : List (List ℕ)) (after : List Word) → AreNames names (significant (names_words names after)) (significant after)
names_again [] after = (codes ")", refl)
names_again (name ∷ []) after = (_, refl, inr (refl, (codes ")", refl)))
names_again (name ∷ next ∷ names) after = (_, refl, inl (_, (codes ",", refl), names_again (next ∷ names) after))

module _ (expansion : Expansion) where
  ended : (e : Shape) (words old after : List Word) → IsExpression expansion e words old → IsExpression expansion e (significant (words_of e (newline ∷ after))) (significant (newline ∷ after))
  unfolding ends
  ended e words old after d = derived expansion 256 6 words old (newline ∷ after) e d (quiet_end Eol (codes "\n") old (significant after) refl) (closed_end e Eol (codes "\n") (significant after) refl)

  file_again : (path : Option (List ℕ)) (words rest after : List Word) → IsFile expansion path words rest → IsFile expansion path (significant (file_words path after)) (significant after)
  file_again None words rest after i = refl
  file_again (Some path) words rest after i = (refl, i.1)

  pub module_spelled : (m : ModuleShape) (words rest after : List Word) → IsModule expansion m words rest → IsModule expansion m (significant (module_words m (newline ∷ after))) (significant after)
  module_spelled m words rest after i = (_, _, _, _, refl, optional_spelled m.optional _, refl, file_again m.path i.2 i.3 (newline ∷ after) i.7, eol_spelled after)

  pub function_spelled : (f : FunctionShape) (words rest after : List Word) → IsFunction expansion f words rest → IsFunction expansion f (significant (function_words f (newline ∷ after))) (significant after)
  function_spelled f words rest after i =
      (_, _, _, _, _, refl, (codes "(", refl), names_again f.parameters (assigned (words_of f.body (newline ∷ after))), i.8, (codes ":=", refl), ended f.body i.3 i.4 after i.10, eol_spelled after)

  -- elements of an interpreter
  element_again : (e : Shape) (es : List Shape) (words rest after : List Word) → AreElements expansion (e ∷ es) words rest → AreElements expansion (e ∷ es) (significant (words_of e (other_elements es after))) (significant after)
  unfolding ends
  element_again e [] words rest after i =
      (_, derived expansion 256 6 words i.0 (word BracketR (codes "]") ∷ after) e i.1 (quiet_end BracketR (codes "]") i.0 (significant after) refl) (closed_end e BracketR (codes "]") (significant after) refl), inr (refl, (codes "]", refl)))
  element_again e (f ∷ es) words rest after (a, is, inl w) =
      let ws = space ∷ words_of f (other_elements es after) in
      (_, derived expansion 256 6 words a (word Comma (codes ",") ∷ ws) e is (quiet_end Comma (codes ",") a (significant ws) refl) (closed_end e Comma (codes ",") (significant ws) refl), inl (_, (codes ",", refl), element_again f es w.0 rest after w.2))
  element_again e (f ∷ es) words rest after (a, is, inr w) = let p = w.0 in absurd cc

  value_again : (current : SemanticVersion) (form : Form) (v : ValueShape) (words rest after : List Word) → IsValue expansion current form v words rest → IsValue expansion current form v (significant (assigned (value_words v (newline ∷ after)))) (significant (newline ∷ after))
  value_again current Truth (truth b) words rest after i = inr (_, (codes ":=", refl), refl)
  value_again current Value (expression e) words rest after i = (_, (codes ":=", refl), ended e i.0 rest after i.2)
  value_again current Interpreter (interpreter n) words rest after i = (_, _, (codes ":=", refl), (codes "[", refl), element_again n.command n.arguments i.1 rest (newline ∷ after) i.4)
  value_again current Indentation (string s) words rest after i = (_, i.1, (codes ":=", refl), (refl, i.3.1), i.4)
  value_again current Version (string s) words rest after i = (_, i.1, (codes ":=", refl), (refl, i.3.1), i.4)
  value_again current Truth (expression e) words rest after i = absurd i
  value_again current Truth (interpreter n) words rest after i = absurd i
  value_again current Truth (string s) words rest after i = absurd i
  value_again current Value (truth b) words rest after i = absurd i
  value_again current Value (interpreter n) words rest after i = absurd i
  value_again current Value (string s) words rest after i = absurd i
  value_again current Interpreter (truth b) words rest after i = absurd i
  value_again current Interpreter (expression e) words rest after i = absurd i
  value_again current Interpreter (string s) words rest after i = absurd i
  value_again current Indentation (truth b) words rest after i = absurd i
  value_again current Indentation (expression e) words rest after i = absurd i
  value_again current Indentation (interpreter n) words rest after i = absurd i
  value_again current Version (truth b) words rest after i = absurd i
  value_again current Version (expression e) words rest after i = absurd i
  value_again current Version (interpreter n) words rest after i = absurd i

  pub set_spelled : (current : SemanticVersion) (s : SetShape) (words rest after : List Word) → IsSet expansion current s words rest → IsSet expansion current s (significant (set_words s (newline ∷ after))) (significant after)
  set_spelled current s words rest after i = record {
    form = i.form;
    behind_set = _;
    behind_name = _;
    behind_value = significant (newline ∷ after);
    set = refl;
    name = refl;
    known = i.known;
    value = value_again current i.form s.value i.behind_name i.behind_value after i.value;
    eol = eol_spelled after;
  }
