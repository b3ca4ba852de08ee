-- The root file, among the lists of files and modules, and why it can't be read.
use Rattle.std.proofs.Common.{◌≡◌, ℕ, ◌<◌, List, length, get_or, slice_get, Option, Some, None, sym, ap, ap₂, ◌∙◌, refl, subst}
use Rattle.std.proofs.lemmas.Option.{slice_get-get_or}
use Rattle.just_text.specs.Numbers.{Numbers}
use Rattle.just_text.specs.declared.compile_error.CompileError.{CompileError}
use Rattle.just_text.specs.declared.compile_error.CompileErrorKind.{CompileErrorKind}
use Rattle.just_text.specs.declared.compile_error.CompileErrorKind.TheVariants as kinds
use Rattle.parse_recipes.specs.Numbering.{AreUsed}
use Rattle.justfile_syntax.specs.Reads.{IsRefusal}
use Rattle.modules_compilation.specs.declared.compilation.Compilation.{Compilation}
use Rattle.modules_compilation.specs.declared.module_node.File.{File}
use Rattle.modules_compilation.specs.declared.module_node.ModuleNode.{ModuleNode}
use Rattle.just_run.specs.Root.{Inputs, IsMissing, IsNoJustfile, IsRootless, IsUnread, by_kind, by_syntax}
use Rattle.just_run.specs.Texts.{file_place, root_file}
use Rattle.just_run.specs.declared.root.RootFault.{RootFault}
use Rattle.just_run.specs.declared.root.RootFault.TheVariants as roots

pub root_is : (compilation : Compilation) (files : List File) (modules : List ModuleNode) (place : ℕ) (file : File) → files ≡ compilation.files.items → modules ≡ compilation.modules.items
    → place ≡ file_place (slice_get modules 0) → place < length files → root_file compilation ≡ Some (get_or files place file)
root_is compilation files modules place file same_files same_modules is_place within =
    ap₂ slice_get (sym same_files) (ap (λ ms. file_place (slice_get ms 0)) (sym same_modules) ∙ sym is_place) ∙ slice_get-get_or files place file within

-- a search directory without a root is told
pub rootless_told : (i : Inputs) (fault : RootFault) → IsRootless i.words.search_directory i.root fault → IsUnread i fault
rootless_told i roots.OutOfMemory h = tt
rootless_told i (roots.NoRootForWord word) h = h
rootless_told i (roots.MissingRoot path) h = absurd h
rootless_told i (roots.Syntax error) h = absurd h

-- a text that is not there is told
pub missing_told : (i : Inputs) (path : List ℕ) (fault : RootFault) → i.root ≡ Some path → IsMissing path (i.source path) fault → IsUnread i fault
missing_told i path roots.OutOfMemory rooted h = absurd h
missing_told i path (roots.NoRootForWord word) rooted h = absurd h
missing_told i path (roots.MissingRoot missing) rooted h = subst (λ p. (i.root ≡ Some p) × (i.source p ≡ None)) (sym h.1) (rooted, h.0)
missing_told i path (roots.Syntax error) rooted h = absurd h

kind_told : (next : Numbers) (i : Inputs) (path text : List ℕ) (kind : CompileErrorKind) (e : CompileError) → kind ≡ e.kind → i.root ≡ Some path → i.source path ≡ Some text → IsRefusal i.reader.expansion i.reader.version (AreUsed next) text kind → IsUnread i (by_kind kind e)
kind_told next i path text kinds.OutOfMemory e is rooted there h = tt
kind_told next i path text (kinds.UnknownStartOfToken c) e is rooted there h = subst (IsNoJustfile i) is (record { path = path; text = text; rooted = rooted; there = there; next = next; refused = h })
kind_told next i path text kinds.UnpairedCarriageReturn e is rooted there h = subst (IsNoJustfile i) is (record { path = path; text = text; rooted = rooted; there = there; next = next; refused = h })
kind_told next i path text (kinds.UnexpectedCharacter expected) e is rooted there h = subst (IsNoJustfile i) is (record { path = path; text = text; rooted = rooted; there = there; next = next; refused = h })
kind_told next i path text kinds.UnterminatedString e is rooted there h = subst (IsNoJustfile i) is (record { path = path; text = text; rooted = rooted; there = there; next = next; refused = h })
kind_told next i path text kinds.UnterminatedBacktick e is rooted there h = subst (IsNoJustfile i) is (record { path = path; text = text; rooted = rooted; there = there; next = next; refused = h })
kind_told next i path text kinds.UnterminatedInterpolation e is rooted there h = subst (IsNoJustfile i) is (record { path = path; text = text; rooted = rooted; there = there; next = next; refused = h })
kind_told next i path text (kinds.InvalidEscapeSequence escape) e is rooted there h = subst (IsNoJustfile i) is (record { path = path; text = text; rooted = rooted; there = there; next = next; refused = h })
kind_told next i path text (kinds.MismatchedClosingDelimiter opener closer) e is rooted there h = subst (IsNoJustfile i) is (record { path = path; text = text; rooted = rooted; there = there; next = next; refused = h })
kind_told next i path text (kinds.UnexpectedClosingDelimiter closer) e is rooted there h = subst (IsNoJustfile i) is (record { path = path; text = text; rooted = rooted; there = there; next = next; refused = h })
kind_told next i path text (kinds.ShellExpansion refused) e is rooted there h = subst (IsNoJustfile i) is (record { path = path; text = text; rooted = rooted; there = there; next = next; refused = h })
kind_told next i path text kinds.MixedLeadingWhitespace e is rooted there h = subst (IsNoJustfile i) is (record { path = path; text = text; rooted = rooted; there = there; next = next; refused = h })
kind_told next i path text kinds.InconsistentLeadingWhitespace e is rooted there h = subst (IsNoJustfile i) is (record { path = path; text = text; rooted = rooted; there = there; next = next; refused = h })
kind_told next i path text kinds.ExtraLeadingWhitespace e is rooted there h = subst (IsNoJustfile i) is (record { path = path; text = text; rooted = rooted; there = there; next = next; refused = h })
kind_told next i path text (kinds.UnexpectedToken found) e is rooted there h = subst (IsNoJustfile i) is (record { path = path; text = text; rooted = rooted; there = there; next = next; refused = h })
kind_told next i path text kinds.ParsingRecursionDepthExceeded e is rooted there h = subst (IsNoJustfile i) is (record { path = path; text = text; rooted = rooted; there = there; next = next; refused = h })
kind_told next i path text kinds.BacktickShebang e is rooted there h = subst (IsNoJustfile i) is (record { path = path; text = text; rooted = rooted; there = there; next = next; refused = h })
kind_told next i path text (kinds.UnknownSetting name) e is rooted there h = subst (IsNoJustfile i) is (record { path = path; text = text; rooted = rooted; there = there; next = next; refused = h })
kind_told next i path text (kinds.UnknownAttribute name) e is rooted there h = subst (IsNoJustfile i) is (record { path = path; text = text; rooted = rooted; there = there; next = next; refused = h })
kind_told next i path text (kinds.AttributeArgumentCount name found) e is rooted there h = subst (IsNoJustfile i) is (record { path = path; text = text; rooted = rooted; there = there; next = next; refused = h })
kind_told next i path text (kinds.InvalidAttribute name item) e is rooted there h = subst (IsNoJustfile i) is (record { path = path; text = text; rooted = rooted; there = there; next = next; refused = h })
kind_told next i path text (kinds.DuplicateAttribute name) e is rooted there h = subst (IsNoJustfile i) is (record { path = path; text = text; rooted = rooted; there = there; next = next; refused = h })
kind_told next i path text (kinds.DuplicateParameter name) e is rooted there h = subst (IsNoJustfile i) is (record { path = path; text = text; rooted = rooted; there = there; next = next; refused = h })
kind_told next i path text (kinds.ParameterFollowsVariadic name) e is rooted there h = subst (IsNoJustfile i) is (record { path = path; text = text; rooted = rooted; there = there; next = next; refused = h })
kind_told next i path text (kinds.RequiredParameterFollowsDefault name) e is rooted there h = subst (IsNoJustfile i) is (record { path = path; text = text; rooted = rooted; there = there; next = next; refused = h })
kind_told next i path text (kinds.MinimumVersion required current) e is rooted there h = subst (IsNoJustfile i) is (record { path = path; text = text; rooted = rooted; there = there; next = next; refused = h })
kind_told next i path text kinds.GuardAndInfallible e is rooted there h = subst (IsNoJustfile i) is (record { path = path; text = text; rooted = rooted; there = there; next = next; refused = h })
kind_told next i path text kinds.TwoStars e is rooted there h = subst (IsNoJustfile i) is (record { path = path; text = text; rooted = rooted; there = there; next = next; refused = h })
kind_told next i path text (kinds.InvalidSetting name given) e is rooted there h = subst (IsNoJustfile i) is (record { path = path; text = text; rooted = rooted; there = there; next = next; refused = h })
kind_told next i path text kinds.NumbersUsed e is rooted there h = subst (IsNoJustfile i) is (record { path = path; text = text; rooted = rooted; there = there; next = next; refused = h })

-- a text that is no justfile is told
pub syntax_told : (next : Numbers) (i : Inputs) (path text : List ℕ) (e : CompileError) → i.root ≡ Some path → i.source path ≡ Some text → IsRefusal i.reader.expansion i.reader.version (AreUsed next) text e.kind → IsUnread i (by_syntax e)
syntax_told next i path text e rooted there h = kind_told next i path text e.kind e refl rooted there h
