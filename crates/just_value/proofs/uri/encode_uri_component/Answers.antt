-- What is escaped byte by byte is the whole text.
use Rattle.std.proofs.Common.{arith}
use Rattle.just_value.proofs.EscapedBytes.{escaped_is}
use Rattle.just_value.proofs.uri.encode_uri_component.Goals as goal

pub returns : goal.returns
returns c =
    rw (c.in_ok-append_to.ensures.ok, c.new-encoded.ensures.bytes, c.utf8_percent_encode.ensures.text)
    (escaped_is c.args.text.now (λ i l. omega (arith, c.type_inv.text i)))
