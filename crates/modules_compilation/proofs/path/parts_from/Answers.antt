-- The folder of the file, and then the path.
use Rattle.std.proofs.Common.{◌≡◌, ◌∙◌, [], sym, rules, Some, None}
use Rattle.modules_compilation.specs.Paths.{walk, but_last, components, behind_front}
use Rattle.modules_compilation.specs.Tables.{texts}
use Rattle.modules_compilation.proofs.Keys.{parts_led}
use Rattle.modules_compilation.proofs.path.parts_from.Goals as goal

pub returns-then-is_none : goal.returns-then-is_none
returns-then-is_none c =
    let e : walk [] (but_last (components (behind_front c.args.file.now))) ≡ None = search rules in
    sym (parts_led c.args.file.now c.args.path.now None e)

pub returns-then-branch : goal.returns-then-branch
returns-then-branch c =
    let e : walk [] (but_last (components (behind_front c.args.file.now))) ≡ Some (texts c.enter_folder.new.parts.items) = search rules in
    let all : walk (texts c.enter_folder.new.parts.items) (components c.args.path.now) ≡ Some (texts c.enter_all.new.parts.items) = search rules in
    sym (parts_led c.args.file.now c.args.path.now (Some (texts c.enter_folder.new.parts.items)) e ∙ all)

pub returns : goal.returns
returns c =
    let e : walk [] (but_last (components (behind_front c.args.file.now))) ≡ Some (texts c.enter_folder.new.parts.items) = search rules in
    let all : walk (texts c.enter_folder.new.parts.items) (components c.args.path.now) ≡ None = search rules in
    sym (parts_led c.args.file.now c.args.path.now (Some (texts c.enter_folder.new.parts.items)) e ∙ all)
