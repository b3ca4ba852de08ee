-- ASCII is recased, and other texts are refused.
use Rattle.evaluate_functions.specs.Functions.{letters}
use Rattle.evaluate_functions.proofs.Ascii.{recased_ascii, refused_other}
use Rattle.evaluate_functions.proofs.cases.cased.Goals as goal

pub returns-then-not-is_ascii : goal.returns-then-not-is_ascii
returns-then-not-is_ascii c = rw (c.from_string.ensures, c.in_ok-message.ensures.ok) (refused_other (letters c.args.case) c.args.text.now c.if-not-is_ascii.ensures.cases)

pub returns : goal.returns
returns c =
    rw (c.in_ok-from_string.ensures, c.in_ok-text.ensures c.if-not-is_ascii.ensures.cases) (recased_ascii (letters c.args.case) c.args.text.now c.if-not-is_ascii.ensures.cases)
