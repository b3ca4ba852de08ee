-- What a text's tokens say of the items that they derive: names, strings and commands are tokens by themselves.
use Rattle.std.proofs.Common.{◌≡◌, ℕ, Bool, true, false, ◌&&◌, List, [], ◌∷◌, ◌++◌, Option, Some, None, refl, subst, inl, inr}
use Rattle.std.specs.Prelude.{codes}
use Rattle.std.specs.List.{list_all}
use Rattle.just_text.specs.Tokens.{Word}
use Rattle.just_text.specs.declared.delimiter.Delimiter.TheVariants.{Paren}
use Rattle.just_text.specs.declared.token_kind.TokenKind.{TokenKind}
use Rattle.just_text.specs.declared.token_kind.TokenKind.TheVariants.{AmpersandAmpersand, Asterisk, At, Colon, ColonColon, ColonEquals, Comma, Comment, Dollar, Eol, Equals, Identifier, Indent, ParenL, ParenR, Plus as PlusMark, QuestionMark, StringToken}
use Rattle.just_lexer.specs.declared.mode.Open.{Open}
use Rattle.just_lexer.specs.declared.mode.Open.TheVariants.{Bracket as BracketOpen}
use Rattle.just_lexer.specs.Longest.{is_indent}
use Rattle.just_lexer.specs.Modes.{innermost, open_after}
use Rattle.tree_expressions.specs.Shape.{Shape}
use Rattle.tree_items.specs.declared.recipe.ParameterKind.{ParameterKind}
use Rattle.tree_items.specs.declared.recipe.ParameterKind.TheVariants.{Plus, Singular, Star}
use Rattle.tree_items.specs.Items.{AliasShape, AssignmentShape, FunctionShape, ImportShape, ModuleShape}
use Rattle.tree_items.specs.Recipes.{ParameterShape, ArgumentShape, DependencyShape}
use Rattle.parse_expressions.specs.LineEnds.{IsEol}
use Rattle.parse_expressions.specs.Literals.{Expansion}
use Rattle.parse_expressions.specs.Strings.{IsAside, IsExpression, IsString}
use Rattle.parse_expressions.specs.Words.{Begins, Mark}
use Rattle.parse_recipes.specs.Headers.{IsPath, IsKind, IsExported, IsDefault, AreParameters, IsStarred, AreArguments, IsDependency, AreDependencies, AreSubsequents, IsQuiet}
use Rattle.parse_items.specs.Items.{IsAlias, AreWords, AreNames, IsOptional, IsUnexport, IsAssignment, IsFunction, IsImport, IsFile, IsModule}
use Rattle.justfile_syntax.specs.Fits.{is_lexeme}
use Rattle.justfile_syntax.specs.InCode.{is_plain}
use Rattle.laws_printing.specs.Printing.Words.{word}
use Rattle.laws_printing.specs.Printing.Held.{is_lexed}
use Rattle.laws_printing.specs.Printing.Lexed.{is_written}
use Rattle.laws_printing.specs.Printing.LinesLexed.{are_names}
use Rattle.laws_printing.proofs.Printing.Held.{stays, held, past, past_mark, is_one, into, out_of, paren_opens, paren_closes}
use Rattle.laws_printing.specs.Formatting.Written.{is_name, is_string, if_there_written, is_parameter_written, is_argument_written, is_path_written, is_dependency_written}
use Rattle.laws_printing.proofs.Formatting.ItemsLexed.{all_so}
use Rattle.laws_printing.proofs.Formatted.Seen.{Out, out_step}

stays_out : (k : TokenKind) → stays k ≡ true → is_indent k ≡ false
stays_out Indent h = absurd cc
stays_out k h = refl

-- outside bodies each word in a line leads to what is open after it
pub step : (opened : List Open) (w : Word) (ws : List Word) → Out opened (w ∷ ws) → stays w.kind ≡ true → (is_lexed w.kind ≡ true → is_lexeme (innermost opened) w.kind w.text ≡ true) × Out (open_after opened w.kind w.text) ws
step opened w ws s h = out_step opened w ws s (stays_out w.kind h)

-- after a plain word with that text
pub begun : (os : List Open) (k : TokenKind) (text : List ℕ) (words rest : List Word) → is_plain k ≡ true → Begins k text words rest → Out os words → Out os rest
begun os k text words rest p b s = past Out step os k text words rest p b s

pub passed : (os : List Open) (k : TokenKind) (words rest : List Word) → is_plain k ≡ true → Mark k words rest → Out os words → Out os rest
passed os k words rest p m s = past_mark Out step os k words rest p m s

pub name_out : (os : List Open) (name : List ℕ) (words rest : List Word) → Begins Identifier name words rest → Out os words → Out os rest × (is_name name ≡ true)
name_out os name words rest b s = (begun os Identifier name words rest refl b s, is_one Out step os Identifier name words rest refl refl refl b s)

pub string_out : (os : List Open) (expansion : Expansion) (text : List ℕ) (words rest : List Word) → IsString expansion text words rest → Out os words → Out os rest × (is_string text ≡ true)
string_out os expansion text words rest i s = (begun os StringToken text words rest refl i.0 s, is_one Out step os StringToken text words rest refl refl refl i.0 s)

pub colon_out : (os : List Open) (words rest : List Word) → Mark Colon words rest → Out os words → Out os rest
unfolding open_after
colon_out os words rest m s = (step os (word Colon m.0) rest (subst (Out os) m.1 s) refl).1

pub eol_mark : (os : List Open) (words rest : List Word) → Mark Eol words rest → Out os words → Out os rest
unfolding open_after
eol_mark os words rest m s = (out_step os (word Eol m.0) rest (subst (Out os) m.1 s) refl).1

pub aside_out : (os : List Open) (words rest : List Word) → IsAside words rest → Out os words → Out os rest
aside_out os words rest (inl m) s = passed os Comment words rest refl m s
aside_out os words rest (inr e) s = subst (Out os) e.0 s

pub eol_out : (os : List Open) (words rest : List Word) → IsEol words rest → Out os words → Out os rest
eol_out os words rest (a, i, inl m) s = eol_mark os a rest m (aside_out os words a i s)
eol_out os words rest (a, i, inr e) s = subst (Out os) e.0 (aside_out os words a i s)

pub expression_out : (os : List Open) (expansion : Expansion) (e : Shape) (words rest : List Word) → IsExpression expansion e words rest → Out os words → Out os rest × (is_written e ≡ true)
expression_out os expansion e words rest d s = held Out step expansion e words rest os d.is s

pub path_out : (os : List Open) (path : List (List ℕ)) (words rest : List Word) → IsPath path words rest → Out os words → Out os rest × (is_path_written path ≡ true)
path_out os [] words rest i s = absurd i
path_out os (name ∷ []) words rest i s = let n = name_out os name words rest i.0 s in (n.0, all_so (is_name name) true n.1 refl)
path_out os (name ∷ next ∷ names) words rest i s =
    let n = name_out os name words i.0 i.2 s in
    let others = path_out os (next ∷ names) i.1 rest i.4 (passed os ColonColon i.0 i.1 refl i.3 n.0) in
    (others.0, all_so (is_name name) (are_names (next ∷ names)) n.1 others.1)

path_names : (path : List (List ℕ)) → is_path_written path ≡ true → are_names path ≡ true
path_names [] w = absurd cc
path_names (name ∷ names) w = w

pub alias_out : (a : AliasShape) (words rest : List Word) → IsAlias a words rest → Out [] words → Out [] rest × (is_name a.name && are_names a.target ≡ true)
alias_out a words rest i s =
    let n = name_out [] a.name i.0 i.1 i.5 (begun [] Identifier (codes "alias") words i.0 refl i.4 s) in
    let p = path_out [] a.target i.2 i.3 i.7 (passed [] ColonEquals i.1 i.2 refl i.6 n.0) in
    (eol_out [] i.3 rest i.8 p.0, all_so (is_name a.name) (are_names a.target) n.1 (path_names a.target p.1))

pub unexport_out : (name : List ℕ) (words rest : List Word) → IsUnexport name words rest → Out [] words → Out [] rest × (is_name name ≡ true)
unexport_out name words rest i s =
    let n = name_out [] name i.0 i.1 i.3 (begun [] Identifier (codes "unexport") words i.0 refl i.2 s) in
    (eol_out [] i.1 rest i.4 n.0, n.1)

keywords_out : (export eager : Bool) (words rest : List Word) → AreWords export eager words rest → Out [] words → Out [] rest
keywords_out false false words rest i s = subst (Out []) i s
keywords_out true false words rest i s = begun [] Identifier (codes "export") words rest refl i s
keywords_out false true words rest i s = begun [] Identifier (codes "eager") words rest refl i s
keywords_out true true words rest (inl i) s = begun [] Identifier (codes "eager") i.0 rest refl i.2 (begun [] Identifier (codes "export") words i.0 refl i.1 s)
keywords_out true true words rest (inr i) s = begun [] Identifier (codes "export") i.0 rest refl i.2 (begun [] Identifier (codes "eager") words i.0 refl i.1 s)

optional_out : (b : Bool) (words rest : List Word) → IsOptional b words rest → Out [] words → Out [] rest
optional_out true words rest i s = passed [] QuestionMark words rest refl i s
optional_out false words rest i s = subst (Out []) i s

names_out : (os : List Open) (names : List (List ℕ)) (words rest : List Word) → AreNames names words rest → Out (os ++ BracketOpen Paren ∷ []) words → Out os rest × (are_names names ≡ true)
names_out os [] words rest i s = (out_of Out step os ParenR (BracketOpen Paren) words rest paren_closes i s, refl)
names_out os (name ∷ names) words rest (a, b, inl i) s =
    let n = name_out (os ++ BracketOpen Paren ∷ []) name words a b s in
    let others = names_out os names i.0 rest i.2 (passed (os ++ BracketOpen Paren ∷ []) Comma a i.0 refl i.1 n.0) in
    (others.0, all_so (is_name name) (are_names names) n.1 others.1)
names_out os (name ∷ names) words rest (a, b, inr i) s =
    let n = name_out (os ++ BracketOpen Paren ∷ []) name words a b s in
    (out_of Out step os ParenR (BracketOpen Paren) a rest paren_closes i.1 n.0, rw i.0 (all_so (is_name name) true n.1 refl))

module _ (expansion : Expansion) where
  pub assignment_out : (a : AssignmentShape) (words rest : List Word) → IsAssignment expansion a words rest → Out [] words → Out [] rest × (is_name a.name && is_written a.value ≡ true)
  assignment_out a words rest i s =
      let n = name_out [] a.name i.0 i.1 i.5 (keywords_out a.export a.eager words i.0 i.4 s) in
      let e = expression_out [] expansion a.value i.2 i.3 i.7 (passed [] ColonEquals i.1 i.2 refl i.6 n.0) in
      (eol_out [] i.3 rest i.8 e.0, all_so (is_name a.name) (is_written a.value) n.1 e.1)

  pub import_out : (m : ImportShape) (words rest : List Word) → IsImport expansion m words rest → Out [] words → Out [] rest × (is_string m.path ≡ true)
  import_out m words rest i s =
      let p = string_out [] expansion m.path i.1 i.2 i.5 (optional_out m.optional i.0 i.1 i.4 (begun [] Identifier (codes "import") words i.0 refl i.3 s)) in
      (eol_out [] i.2 rest i.6 p.0, p.1)

  file_out : (path : Option (List ℕ)) (words rest : List Word) → IsFile expansion path words rest → Out [] words → Out [] rest × (if_there_written is_string path ≡ true)
  file_out None words rest i s = (subst (Out []) i s, refl)
  file_out (Some path) words rest i s = string_out [] expansion path words rest i s

  pub module_out : (m : ModuleShape) (words rest : List Word) → IsModule expansion m words rest → Out [] words → Out [] rest × (is_name m.name && if_there_written is_string m.path ≡ true)
  module_out m words rest i s =
      let n = name_out [] m.name i.1 i.2 i.6 (optional_out m.optional i.0 i.1 i.5 (begun [] Identifier (codes "mod") words i.0 refl i.4 s)) in
      let f = file_out m.path i.2 i.3 i.7 n.0 in
      (eol_out [] i.3 rest i.8 f.0, all_so (is_name m.name) (if_there_written is_string m.path) n.1 f.1)

  pub function_out : (f : FunctionShape) (words rest : List Word) → IsFunction expansion f words rest → Out [] words → Out [] rest × (is_name f.name && are_names f.parameters && is_written f.body ≡ true)
  function_out f words rest i s =
      let n = name_out [] f.name words i.0 i.5 s in
      let ps = names_out [] f.parameters i.1 i.2 i.7 (into Out step [] ParenL (BracketOpen Paren) i.0 i.1 paren_opens i.6 n.0) in
      let e = expression_out [] expansion f.body i.3 i.4 i.10 (passed [] ColonEquals i.2 i.3 refl i.9 ps.0) in
      (eol_out [] i.4 rest i.11 e.0, all_so (is_name f.name && are_names f.parameters) (is_written f.body) (all_so (is_name f.name) (are_names f.parameters) n.1 ps.1) e.1)

  -- ---- headers

  kind_out : (kind : ParameterKind) (words rest : List Word) → IsKind kind words rest → Out [] words → Out [] rest
  kind_out Plus words rest i s = passed [] PlusMark words rest refl i s
  kind_out Singular words rest i s = subst (Out []) i s
  kind_out Star words rest i s = passed [] Asterisk words rest refl i s

  exported_out : (b : Bool) (words rest : List Word) → IsExported b words rest → Out [] words → Out [] rest
  exported_out true words rest i s = passed [] Dollar words rest refl i s
  exported_out false words rest i s = subst (Out []) i s

  default_out : (o : Option Shape) (words rest : List Word) → IsDefault expansion o words rest → Out [] words → Out [] rest × (if_there_written is_written o ≡ true)
  default_out None words rest i s = (subst (Out []) i.0 s, refl)
  default_out (Some e) words rest i s = held Out step expansion e i.0 rest [] i.2.is (passed [] Equals words i.0 refl i.1 s)

  pub parameters_out : (ps : List ParameterShape) (words rest : List Word) → AreParameters expansion ps words rest → Out [] words → Out [] rest × (list_all is_parameter_written ps ≡ true)
  parameters_out [] words rest i s = (subst (Out []) i s, refl)
  parameters_out (p ∷ ps) words rest i s =
      let q = i.1 in
      let n = name_out [] p.name q.behind_dollar q.behind_name q.name (exported_out p.export q.behind_mark q.behind_dollar q.export (kind_out p.kind words q.behind_mark q.kind s)) in
      let d = default_out p.default q.behind_name i.0 q.default n.0 in
      let others = parameters_out ps i.0 rest i.2 d.0 in
      (others.0, all_so (is_parameter_written p) (list_all is_parameter_written ps) (all_so (is_name p.name) (if_there_written is_written p.default) n.1 d.1) others.1)

  star_out : (os : List Open) (b : Bool) (words rest : List Word) → IsStarred b words rest → Out os words → Out os rest
  star_out os true words rest i s = passed os Asterisk words rest refl i s
  star_out os false words rest i s = subst (Out os) i s

  arguments_out : (xs : List ArgumentShape) (words rest : List Word) → AreArguments expansion xs words rest → Out ([] ++ BracketOpen Paren ∷ []) words → Out [] rest × (list_all is_argument_written xs ≡ true)
  arguments_out [] words rest i s = (out_of Out step [] ParenR (BracketOpen Paren) words rest paren_closes i s, refl)
  arguments_out (x ∷ xs) words rest i s =
      let e = expression_out ([] ++ BracketOpen Paren ∷ []) expansion x.expression i.1.0 i.0 i.1.2 (star_out ([] ++ BracketOpen Paren ∷ []) x.starred words i.1.0 i.1.1 s) in
      let others = arguments_out xs i.0 rest i.2 e.0 in
      (others.0, all_so (is_argument_written x) (list_all is_argument_written xs) e.1 others.1)

  dependency_out : (d : DependencyShape) (words rest : List Word) → IsDependency expansion d words rest → Out [] words → Out [] rest × (is_dependency_written d ≡ true)
  dependency_out d words rest (inl w) s =
      let p = path_out [] d.path words rest w.0 s in
      (p.0, all_so (is_path_written d.path) (list_all is_argument_written d.arguments) p.1 (rw w.1 refl))
  dependency_out d words rest (inr w) s =
      let p = path_out ([] ++ BracketOpen Paren ∷ []) d.path w.0 w.1 w.3 (into Out step [] ParenL (BracketOpen Paren) words w.0 paren_opens w.2 s) in
      let xs = arguments_out d.arguments w.1 rest w.4 p.0 in
      (xs.0, all_so (is_path_written d.path) (list_all is_argument_written d.arguments) p.1 xs.1)

  pub dependencies_out : (ds : List DependencyShape) (words rest : List Word) → AreDependencies expansion ds words rest → Out [] words → Out [] rest × (list_all is_dependency_written ds ≡ true)
  dependencies_out [] words rest i s = (subst (Out []) i s, refl)
  dependencies_out (d ∷ ds) words rest i s =
      let one = dependency_out d words i.0 i.1 s in
      let others = dependencies_out ds i.0 rest i.2 one.0 in
      (others.0, all_so (is_dependency_written d) (list_all is_dependency_written ds) one.1 others.1)

  pub subsequents_out : (ds : List DependencyShape) (words rest : List Word) → AreSubsequents expansion ds words rest → Out [] words → Out [] rest × (list_all is_dependency_written ds ≡ true)
  subsequents_out [] words rest i s = (subst (Out []) i s, refl)
  subsequents_out (d ∷ ds) words rest i s = dependencies_out (d ∷ ds) i.0 rest i.2 (passed [] AmpersandAmpersand words i.0 refl i.1 s)

  pub quiet_out : (b : Bool) (words rest : List Word) → IsQuiet b words rest → Out [] words → Out [] rest
  quiet_out true words rest i s = passed [] At words rest refl i s
  quiet_out false words rest i s = subst (Out []) i s
