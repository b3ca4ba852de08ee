-- The last `/` cuts the key.
use Rattle.std.proofs.Common.{Some, None, sym, ◌∙◌, arith}
use Rattle.std.proofs.lemmas.Str.Pattern.{rfind_char}
use Rattle.modules_files.proofs.Cuts.{cut_at, no_slash, none_in}
use Rattle.modules_files.proofs.folders.cut_name.Goals as goal

pub returns-in-Some-clause-folder : goal.returns-in-Some-clause-folder
returns-in-Some-clause-folder c = c.split_at.ensures.front ∙ sym (cut_at c.args.key.now c.in-Some.slash (rfind_char 47 c.args.key.now (Some c.in-Some.slash) c.in-Some.ensures.cases (omega arith))).0

pub returns-in-Some-clause-name : goal.returns-in-Some-clause-name
returns-in-Some-clause-name c = c.split_at.ensures.back ∙ sym (cut_at c.args.key.now c.in-Some.slash (rfind_char 47 c.args.key.now (Some c.in-Some.slash) c.in-Some.ensures.cases (omega arith))).1

pub returns-in-None-clause-folder : goal.returns-in-None-clause-folder
returns-in-None-clause-folder c = sym (none_in c.args.key.now (no_slash c.args.key.now (rfind_char 47 c.args.key.now None c.in-None.ensures.cases (omega arith)))).0

pub returns-in-None-clause-name : goal.returns-in-None-clause-name
returns-in-None-clause-name c = sym (none_in c.args.key.now (no_slash c.args.key.now (rfind_char 47 c.args.key.now None c.in-None.ensures.cases (omega arith)))).1
