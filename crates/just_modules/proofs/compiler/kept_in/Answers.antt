-- The definitions are those of the module.
use Rattle.just_modules.specs.Keeping.{AreDefinitionsOf}
use Rattle.just_modules.proofs.Keeping.{are_of, keeps_by, kept_gives, refused_by}
use Rattle.just_modules.proofs.Outcomes.{err_gives}
use Rattle.std.proofs.Common.{rules, inl}
use Rattle.just_modules.proofs.compiler.kept_in.Goals as goal

pub returns-in_err-definitions-clause-refused : goal.returns-in_err-definitions-clause-refused
returns-in_err-definitions-clause-refused c = search (rules, inl)

pub returns-clause-kept : goal.returns-clause-kept
returns-clause-kept c =
    let os = c.args.config.now.os in
    let unstable = c.args.config.now.unstable in
    let files = c.args.files.now in
    let modules = c.args.modules.now in
    let node = c.args.node.now in
    let ds = c.as_slice.result.now in
    let are : AreDefinitionsOf os unstable files modules node ds = are_of os unstable files modules node c.as_slice-submodules.result.now c.in_ok-definitions.definitions.items ds c.as_slice-submodules.ensures.value c.as_slice.ensures.value c.in_ok-definitions.ensures.each c.in_ok-definitions.ensures.order c.in_ok-definitions.ensures.apart in
    kept_gives c.kept_of.result c.kept_of.ensures.kept (λ kept k. keeps_by os unstable files modules node ds are kept.items k)

pub returns-clause-refused : goal.returns-clause-refused
returns-clause-refused c =
    let os = c.args.config.now.os in
    let unstable = c.args.config.now.unstable in
    let files = c.args.files.now in
    let modules = c.args.modules.now in
    let node = c.args.node.now in
    let ds = c.as_slice.result.now in
    let are : AreDefinitionsOf os unstable files modules node ds = are_of os unstable files modules node c.as_slice-submodules.result.now c.in_ok-definitions.definitions.items ds c.as_slice-submodules.ensures.value c.as_slice.ensures.value c.in_ok-definitions.ensures.each c.in_ok-definitions.ensures.order c.in_ok-definitions.ensures.apart in
    err_gives c.kept_of.result c.kept_of.ensures.refused (refused_by os unstable files modules node ds are)
