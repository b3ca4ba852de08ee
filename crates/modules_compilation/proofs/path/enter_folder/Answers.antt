-- Component by component.
use Rattle.std.proofs.Common.{◌≡◌, ◌∙◌, rules, Some, None}
use Rattle.modules_compilation.specs.Paths.{enter}
use Rattle.modules_compilation.specs.Tables.{texts}
use Rattle.modules_compilation.proofs.Walks.{walk_on, walk_off, walk_end}
use Rattle.modules_compilation.proofs.path.enter_folder.Goals as goal

pub loop-component-preserved : goal.loop-component-preserved
loop-component-preserved c =
    let e : enter (texts c.loop-component.parts.items) c.in-Some.component.now ≡ Some (texts c.enter.new.parts.items) = search rules in
    let on = walk_on (texts c.loop-component.parts.items) (texts c.enter.new.parts.items) c.loop-component.rest.now c.in-Some.component c.in-Some.others c.in-Some.ensures.cases e in
    (search rules, c.loop-component.invariant.1 ∙ on.0, c.loop-component.invariant.2 ∙ on.1)

pub returns-then-not-branch-clause-folder : goal.returns-then-not-branch-clause-folder
returns-then-not-branch-clause-folder c =
    let e : enter (texts c.loop-component.parts.items) c.in-Some.component.now ≡ None = search rules in
    c.loop-component.invariant.1 ∙ (walk_off (texts c.loop-component.parts.items) c.loop-component.rest.now c.in-Some.component c.in-Some.others c.in-Some.ensures.cases e).0

pub returns-then-not-branch-clause-whole : goal.returns-then-not-branch-clause-whole
returns-then-not-branch-clause-whole c =
    let e : enter (texts c.loop-component.parts.items) c.in-Some.component.now ≡ None = search rules in
    c.loop-component.invariant.2 ∙ (walk_off (texts c.loop-component.parts.items) c.loop-component.rest.now c.in-Some.component c.in-Some.others c.in-Some.ensures.cases e).1

pub returns-clause-folder : goal.returns-clause-folder
returns-clause-folder c =
    c.loop-component.invariant.1 ∙ (walk_end (texts c.loop-component.parts.items) c.loop-component.rest.now c.split_once.result c.split_once.ensures.cases c.in_default.not-Some).0

pub returns-clause-whole : goal.returns-clause-whole
returns-clause-whole c =
    c.loop-component.invariant.2 ∙ (walk_end (texts c.loop-component.parts.items) c.loop-component.rest.now c.split_once.result c.split_once.ensures.cases c.in_default.not-Some).1
