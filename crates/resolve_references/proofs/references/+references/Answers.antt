-- What each form has, after what was found before.
use Rattle.std.proofs.Common.{rules, append_assoc}
use Rattle.resolve_references.proofs.Gathered.{call_has, conditional_has, interpolations_have, join_has, listing_has}
use Rattle.resolve_references.proofs.references.+references.Goals as goal

pub push-returns-in-Call : goal.push-returns-in-Call
push-returns-in-Call t c = rw (c.in-Call.is, call_has) (search rules)

pub push-returns-in_ok-push_both-in-Conditional : goal.push-returns-in_ok-push_both-in-Conditional
push-returns-in_ok-push_both-in-Conditional t c = rw (c.in-Conditional.is, conditional_has) (search (rules, append_assoc))

pub push-returns-in-FormatString : goal.push-returns-in-FormatString
push-returns-in-FormatString t c = rw (c.in-FormatString.is, interpolations_have) (search rules)

pub push-returns-in_ok-push_if_there-in-Join : goal.push-returns-in_ok-push_if_there-in-Join
push-returns-in_ok-push_if_there-in-Join t c = rw (c.in-Join.is, join_has) (search (rules, append_assoc))

pub push-returns-in-List : goal.push-returns-in-List
push-returns-in-List t c = rw (c.in-List.is, listing_has) (search rules)
