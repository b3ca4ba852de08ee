-- The submodules of a file that is there, or of none.
use Rattle.std.proofs.Common.{get_or, ◌≡◌, ◌∙◌, List, ℕ, Some, ap, map, refl, sym, subst, arith, ◌<◌, length}
use Rattle.std.specs.Prelude.{slice_get}
use Rattle.std.proofs.lemmas.Result.{IfOk-weaker, IfErr-weaker}
use Rattle.std.proofs.lemmas.Option.{same_Some, slice_get_past, slice_get_read}
use Rattle.just_text.specs.declared.os.Os.{Os}
use Rattle.tree_items.specs.declared.ast.Item.{Item}
use Rattle.modules_compilation.specs.Places.{items_in}
use Rattle.modules_compilation.specs.declared.error.Error.{Error}
use Rattle.modules_files.specs.declared.search.Files.{Files}
use Rattle.modules_sources.specs.Items.{key_of}
use Rattle.modules_compilation.specs.declared.module_node.File.{File as LoadedFile}
use Rattle.modules_sources.specs.Submodules.{AreFound, Found, IsRefused, found_none, found_view}
use Rattle.modules_sources.proofs.submodules.submodules_at.Goals as goal

-- what is found of a file is found of the one at its place
found_there : (files : Files) (os : Os) (all : List LoadedFile) (place : ℕ) (file : LoadedFile) (items : List Item) (found : List Found)
    → slice_get all place ≡ Some file → items ≡ file.ast.items.items → AreFound files os file.key.now items found → AreFound files os (key_of (slice_get all place)) (items_in all place) found
found_there files os all place file items found read same h = rw read (subst (λ its. AreFound files os file.key.now its found) same h)

refused_there : (files : Files) (os : Os) (all : List LoadedFile) (place : ℕ) (file : LoadedFile) (items : List Item) (refusal : Error)
    → slice_get all place ≡ Some file → items ≡ file.ast.items.items → IsRefused files os file.key.now items refusal → IsRefused files os (key_of (slice_get all place)) (items_in all place) refusal
refused_there files os all place file items refusal read same h = rw read (subst (λ its. IsRefused files os file.key.now its refusal) same h)

pub returns-then-place-all-clause-found : goal.returns-then-place-all-clause-found
returns-then-place-all-clause-found c = rw (slice_get_past c.args.all.now c.args.place c.if-place-all.true, c.new.ensures.items) found_none

pub returns-clause-found : goal.returns-clause-found
returns-clause-found c =
    let within : c.args.place < length c.args.all.now = omega (arith, c.if-place-all.false) in
    let read : slice_get c.args.all.now c.args.place ≡ Some c.index-all-place.result = slice_get_read c.args.all.now _ c.args.place c.index-all-place.result refl within c.index-all-place.is in
    let file = get_or c.args.all.now c.args.place c.index-all-place.result in
    let held : slice_get c.args.all.now c.args.place ≡ Some file = read ∙ ap Some c.index-all-place.is in
    let again : slice_get c.args.all.now c.args.place ≡ Some c.index-all-place-2.result = slice_get_read c.args.all.now _ c.args.place c.index-all-place-2.result refl within c.index-all-place-2.is in
    let same : c.items_of.result.now ≡ file.ast.items.items = c.items_of.ensures ∙ ap (λ (f : LoadedFile). f.ast.items.items) (same_Some c.index-all-place-2.result file (sym again ∙ held)) in
    IfOk-weaker c.submodules_among.result _ _ (λ found given. found_there c.args.files.now c.args.os c.args.all.now c.args.place file c.items_of.result.now (map found_view found.items) held same given) c.submodules_among.ensures.found

pub returns-clause-refused : goal.returns-clause-refused
returns-clause-refused c =
    let within : c.args.place < length c.args.all.now = omega (arith, c.if-place-all.false) in
    let read : slice_get c.args.all.now c.args.place ≡ Some c.index-all-place.result = slice_get_read c.args.all.now _ c.args.place c.index-all-place.result refl within c.index-all-place.is in
    let file = get_or c.args.all.now c.args.place c.index-all-place.result in
    let held : slice_get c.args.all.now c.args.place ≡ Some file = read ∙ ap Some c.index-all-place.is in
    let again : slice_get c.args.all.now c.args.place ≡ Some c.index-all-place-2.result = slice_get_read c.args.all.now _ c.args.place c.index-all-place-2.result refl within c.index-all-place-2.is in
    let same : c.items_of.result.now ≡ file.ast.items.items = c.items_of.ensures ∙ ap (λ (f : LoadedFile). f.ast.items.items) (same_Some c.index-all-place-2.result file (sym again ∙ held)) in
    IfErr-weaker c.submodules_among.result _ _ (λ refusal given n. refused_there c.args.files.now c.args.os c.args.all.now c.args.place file c.items_of.result.now refusal held same (given n)) c.submodules_among.ensures.refused
