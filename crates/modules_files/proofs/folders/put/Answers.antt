use Rattle.modules_files.proofs.Sets.{put_one}
use Rattle.modules_files.proofs.folders.put.Goals as goal

pub returns : goal.returns
returns c = put_one c.args.found.now c.insert.new.self c.args.key.now c.in_ok-insert.ensures.updates
