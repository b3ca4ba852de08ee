-- One key after the other.
use Rattle.std.proofs.Common.{[], ◌||◌, ap, ◌∙◌}
use Rattle.std.specs.List.{list_any}
use Rattle.std.specs.Str.{bytes_eq}
use Rattle.std.proofs.lemmas.List.{take_all}
use Rattle.modules_files.specs.Found.{borrowed, has_text}
use Rattle.modules_files.proofs.Sets.{or_none, put_more}
use Rattle.modules_files.proofs.folders.put_all.Goals as goal

pub loop-key-init : goal.loop-key-init
loop-key-init c = λ other. or_none (has_text c.args.found.now other)

pub loop-key-preserved : goal.loop-key-preserved
loop-key-preserved c =
    put_more c.args.found.now c.loop-key.found c.put.new.found c.args.keys.now c.loop-key.key-index (record { ref_ptr = (0, 0); now = [] }) c.loop-key-test.true c.loop-key.invariant c.in_ok-put.ensures

pub returns : goal.returns
returns c = λ other.
    c.loop-key.invariant other ∙ ap (λ ks. has_text c.args.found.now other || list_any (bytes_eq other) (borrowed ks)) (take_all c.loop-key.key-index c.args.keys.now c.loop-key-test.false)
