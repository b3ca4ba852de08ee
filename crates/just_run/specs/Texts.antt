-- Texts that are written or answered.
use Rattle.std.specs.Prelude.{◌≡◌, ℕ, List, [], Option, Some, None, codes, slice_get, unwrap_or, Result, Ok, Err, if◌then◌else◌}
use Rattle.std.specs.String.{string_bytes}
use Rattle.std.specs.Str.{IsUtf8}
use Rattle.just_text.specs.declared.os.Os.{Os}
use Rattle.tree_items.specs.declared.ast.Item.{Item}
use Rattle.tree_items.specs.Files.{file_text, item_shapes}
use Rattle.tree_items.specs.Printable.{printable}
use Rattle.tree_items.specs.FileIndentation.{file_indentation}
use Rattle.parse_expressions.specs.Literals.{Expansion}
use Rattle.justfile_syntax.specs.Reads.{Reads}
use Rattle.semver.specs.declared.Version.{Version}
use Rattle.laws_printing.specs.Printing.Normal.{normal}
use Rattle.modules_compilation.specs.declared.compilation.Compilation.{Compilation}
use Rattle.modules_compilation.specs.declared.module_node.File.{File}
use Rattle.modules_compilation.specs.declared.module_node.ModuleNode.{ModuleNode}
use Rattle.run_tasks.specs.declared.task.Performed.{Performed}
use Rattle.run_tasks.specs.declared.task.Performed.TheVariants.{Ran, Evaluated}
use Rattle.just_host.specs.Out.{Sent}
use Rattle.justfile_analyzer.specs.Listings.{listing}
use Rattle.run_tasks.specs.declared.request.RootText.{RootText}
use Rattle.run_tasks.specs.declared.request.RootText.TheVariants as texts
use Rattle.just_run.specs.Writes.{Writes}
use Rattle.just_run.specs.declared.fault.Fault.{Fault}
use Rattle.just_run.specs.declared.fault.Fault.TheVariants.{OutOfMemory, NotPrintable}
use Rattle.just_run.specs.declared.outcome.Outcome.{Outcome}
use Rattle.just_run.specs.declared.outcome.Outcome.TheVariants as outcomes

-- a file's text in the indentation that it sets, else with four spaces
abbrev pub formatted_text : Os → List Item → List ℕ
formatted_text os items = file_text (unwrap_or (file_indentation os items) (codes "    ")) (item_shapes items)

-- the same, where the file can be printed so that it is read as it was
abbrev pub printed_text : Os → List Item → Option (List ℕ)
printed_text os items = if printable (item_shapes items) then Some (formatted_text os items) else None

-- the place of a module's file among all files; that of the first where there is no module
abbrev pub file_place : Option ModuleNode → ℕ
file_place None = 0
file_place (Some node) = node.first_file

-- the root file, if there is one
abbrev pub root_file : Compilation → Option File
root_file compilation = slice_get compilation.files.items (file_place (slice_get compilation.modules.items 0))

-- what is written of the root file
abbrev pub dumped_text : Os → Option File → List ℕ
dumped_text os None = []
dumped_text os (Some file) = formatted_text os file.ast.items.items

-- what is answered of the root file, where it can be printed so that it is read as it was
abbrev pub answered_text : Os → Option File → Option (List ℕ)
answered_text os None = None
answered_text os (Some file) = printed_text os file.ast.items.items

-- what is written of what came of a task
abbrev pub performed_text : Performed → List ℕ
performed_text Ran = []
performed_text (Evaluated text) = string_bytes text

-- what is answered of what came of a task
abbrev pub performed_outcome : Performed → Outcome
performed_outcome Ran = outcomes.Ran
performed_outcome (Evaluated text) = outcomes.Evaluated

-- The path and the text are answered where there is a text; the path is refused where there is none, unless memory ran out.
abbrev pub IsFormatted : List ℕ → Option (List ℕ) → Result Outcome Fault → Type 0
IsFormatted path (Some text) (Ok outcome) = outcome ≡ outcomes.Formatted path text
IsFormatted path None (Ok outcome) = ⊥
IsFormatted path text (Err OutOfMemory) = Unit {0}
IsFormatted path None (Err (NotPrintable refused)) = refused ≡ path
IsFormatted path text (Err fault) = ⊥

-- The answered text says what the file says, but for blank lines: whatever text of UTF-8 says the file's items, the answered text says their normal shape.
abbrev pub IsReadAgain : Option File → Result Outcome Fault → Type 0
IsReadAgain (Some file) (Ok (outcomes.Formatted path text)) =
    (expansion : Expansion) (version : Version) (source : List ℕ) → IsUtf8 source → Reads expansion version source (item_shapes file.ast.items.items)
    → Reads expansion version text (normal (item_shapes file.ast.items.items))
IsReadAgain file result = Unit {0}

-- what is written or answered of a text of the root, by places
abbrev pub TellsRoot : Compilation → Os → List ℕ → RootText → Sent → Result Outcome Fault → Sent → Type 0
TellsRoot compilation os root texts.List sent result sends = Writes sent (listing compilation 0) outcomes.Listed result sends
TellsRoot compilation os root texts.Dump sent result sends = Writes sent (dumped_text os (root_file compilation)) outcomes.Dumped result sends
TellsRoot compilation os root texts.Format sent result sends = IsFormatted root (answered_text os (root_file compilation)) result × (sends.written ≡ sent.written)
