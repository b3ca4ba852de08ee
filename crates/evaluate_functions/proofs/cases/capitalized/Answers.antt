-- The first letter, and the others.
use Rattle.std.proofs.Common.{sym, ◌∙◌}
use Rattle.evaluate_functions.proofs.Ascii.{capitalized_is}
use Rattle.evaluate_functions.proofs.cases.capitalized.Goals as goal

pub returns : goal.returns
returns c = λ ascii.
    rw (c.in_ok-push_str.ensures.bytes, c.in_ok-push.ensures.bytes, c.new-made.ensures.bytes, c.to_ascii_uppercase.ensures.value, c.as_str-2.ensures.value, c.in_ok-others.ensures.ok, c.as_str.ensures)
    (capitalized_is c.args.text.now c.next.new.self.rest.now c.in-Some.first ascii (sym c.chars-characters.ensures.rest ∙ c.in-Some.ensures.steps.0))
