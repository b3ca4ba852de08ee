-- The variables have their numbers, or memory ran out.
use Rattle.std.proofs.Common.{All, Err, ap, subst}
use Rattle.parse_attributed_items.specs.Held.{IsOwnItem}
use Rattle.laws_names.proofs.Reading.Matching.{numbered_files_match}
use Rattle.laws_names.proofs.Reading.Carried.{numbered_world}
use Rattle.just_resolve.specs.declared.error.Error.TheVariants.{OutOfMemory}
use Rattle.just_run.specs.Sources.{broken}
use Rattle.just_run.proofs.driver.drive_compilation.Goals as goal

pub returns-in-Ok-clause-names : goal.returns-in-Ok-clause-names
returns-in-Ok-clause-names g c = λ all source w stands same_os none meant told.
    let numbered = numbered_world w c.args.compilation c.number_variables.new.compilation meant c.number_variables.ensures.numbered c.in-Ok.ensures.bound in
    c.drive_modules-driven.ensures.names source w stands same_os none (record { numbered = numbered; by_name = c.number_variables.ensures.by_name all })
    (numbered_files_match source c.args.compilation c.number_variables.new.compilation c.number_variables.ensures.numbered (λ k file e. subst (λ x. All (IsOwnItem x) file.ast.items.items) stands.same_expansion (numbered.options k file e)) told)

pub returns-clause-names : goal.returns-clause-names
returns-clause-names g c = λ all source w stands same_os none meant told. broken OutOfMemory (ap Err c.from.ensures) tt
