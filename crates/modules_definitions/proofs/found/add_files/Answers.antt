-- One more file, and all of them.
use Rattle.std.proofs.Common.{arith, refl}
use Rattle.modules_definitions.proofs.Apart.{more_files_apart}
use Rattle.modules_definitions.proofs.Finding.{all_files, more_files, no_files}
use Rattle.modules_definitions.proofs.found.add_files.Goals as goal

pub loop-place-init : goal.loop-place-init
loop-place-init c = record { each = (no_files c.args.os c.args.files.now c.args.range.first c.args.range.first c.args.found.now.items (omega arith), λ le. refl); apart = λ elsewhere apart. apart }

pub loop-place-preserved : goal.loop-place-preserved
loop-place-preserved c =
    let from = c.loop-place.auto.place in
    let to = c.loop-place-test.true in
    record {
      each = (
        more_files c.args.os c.args.files.now c.args.range.first c.loop-place.place c.args.found.now.items c.loop-place.found.items c.add_file.new.found.items from c.loop-place.invariant.each.0 c.in_ok-add_file.ensures.each,
        λ le. absurd (omega arith),
      );
      apart = more_files_apart c.args.os c.args.files.now c.args.range.first c.loop-place.place c.args.found.now.items c.loop-place.found.items c.add_file.new.found.items from c.loop-place.invariant.each.0 c.loop-place.invariant.apart c.in_ok-add_file.ensures.apart;
    }

pub returns-clause-each : goal.returns-clause-each
returns-clause-each c = all_files c.args.os c.args.files.now c.args.range.first c.args.range.end c.loop-place.place c.args.found.now.items c.loop-place.found.items c.loop-place-test.false c.loop-place.auto.place-end c.loop-place.invariant.each

pub returns-clause-apart : goal.returns-clause-apart
returns-clause-apart c = c.loop-place.invariant.apart
