-- A name more.
use Rattle.std.proofs.Common.{rules}
use Rattle.std.specs.Prelude.{◌||◌}
use Rattle.modules_compilation.specs.Modulepaths.{pieces}
use Rattle.resolve_recipes.proofs.Pieces.{first_piece, pieces_lacks}
use Rattle.justfile_analyzer.specs.MenusOf.{has_name, is_among}
use Rattle.justfile_analyzer.proofs.MenuRows.{last_added, name_added, piece_added}
use Rattle.justfile_analyzer.proofs.names.add_names.Goals as goal

pub loop-name-preserved : goal.loop-name-preserved
loop-name-preserved c =
    let cases = c.in-Some.ensures.cases in
    let name = c.in-Some.name.now in
    let others = c.in-Some.others.now in (
      search rules,
      piece_added c.loop-name.names c.insert.new.self c.loop-name.rest.now name others (λ text. has_name c.args.names.now text || is_among (pieces c.args.path.now) text)
          (first_piece c.loop-name.rest.now name others cases.0 cases.1 cases.2.0 cases.2.1.split cases.3 cases.4)
          (name_added c.loop-name.names c.insert.new.self name c.in_ok-insert.ensures.updates) c.loop-name.invariant.1,
    )

pub returns : goal.returns
returns c =
    last_added c.loop-name.names c.insert-2.new.self c.loop-name.rest.now (λ text. has_name c.args.names.now text || is_among (pieces c.args.path.now) text)
    (pieces_lacks c.loop-name.rest.now c.in_default.ensures.cases) (name_added c.loop-name.names c.insert-2.new.self c.loop-name.rest.now c.in_ok-insert-2.ensures.updates) c.loop-name.invariant.1
