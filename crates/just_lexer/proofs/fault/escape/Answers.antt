-- The loop goes over the first two characters.
use Rattle.std.proofs.Common.{sym, ap, ◌∙◌}
use Rattle.std.specs.Prelude.{encode_utf8}
use Rattle.std.specs.List.{flat_map}
use Rattle.std.proofs.lemmas.List.{map-id}
use Rattle.std.proofs.lemmas.Iterator.{YieldsList-from_chars, YieldsList-from_take}
use Rattle.std.proofs.lemmas.Iterator.Consumers.{YieldsList-end}
use Rattle.just_lexer.proofs.fault.escape.Goals as goal

pub returns : goal.returns
returns c =
    let t = YieldsList-end (YieldsList-from_take 2 (YieldsList-from_chars c.args.rest.now c.utf8.rest cc) cc) c.loop-character.yielded _ c.loop-character.yielded_by _ _ c.in-None.is c.next.ensures.steps in
    c.from_string.ensures ∙ c.loop-character.invariant ∙ ap (flat_map encode_utf8) (sym (map-id c.loop-character.yielded) ∙ t.0)
