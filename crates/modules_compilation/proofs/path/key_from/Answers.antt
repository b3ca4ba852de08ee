-- A path that stands alone, or one that leads on from a folder.
use Rattle.std.proofs.Common.{◌≡◌, ◌∙◌, ap, sym, rules, true, false, Some, None}
use Rattle.modules_compilation.specs.Paths.{stands_alone, parts_from}
use Rattle.modules_compilation.specs.Tables.{texts}
use Rattle.modules_compilation.proofs.Keys.{key_alone, key_led}
use Rattle.modules_compilation.proofs.path.key_from.Goals as goal

pub returns-then-stands_alone : goal.returns-then-stands_alone
returns-then-stands_alone c =
    let e : stands_alone c.args.path.now ≡ true = search rules in
    ap Some c.in_ok-from_str.ensures.ok ∙ sym (key_alone c.args.file.now c.args.path.now e)

pub returns-in-Some : goal.returns-in-Some
returns-in-Some c =
    let e : stands_alone c.args.path.now ≡ false = search rules in
    let led : Some (texts c.in-Some.parts.items) ≡ parts_from c.args.file.now c.args.path.now = search rules in
    let key = key_led c.args.file.now c.args.path.now (Some (texts c.in-Some.parts.items)) e led in
    rw key (search rules)

pub returns-in-None : goal.returns-in-None
returns-in-None c =
    let e : stands_alone c.args.path.now ≡ false = search rules in
    let led : None ≡ parts_from c.args.file.now c.args.path.now = search rules in
    sym (key_led c.args.file.now c.args.path.now None e led)
