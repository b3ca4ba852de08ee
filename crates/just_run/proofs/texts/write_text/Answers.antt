use Rattle.std.proofs.Common.{refl, sym, []}
use Rattle.std.proofs.lemmas.List.{append-nil}
use Rattle.just_run.proofs.texts.write_text.Goals as goal

pub returns-then-failures-eq18446744073709551615-clause-part : goal.returns-then-failures-eq18446744073709551615-clause-part
returns-then-failures-eq18446744073709551615-clause-part g c = record { rest = c.args.text.now; went = record { sent = []; split = refl; bytes = sym (append-nil (g.O.Out.written c.args.out.now)) } }
