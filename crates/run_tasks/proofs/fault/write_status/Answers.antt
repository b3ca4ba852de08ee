-- Each sentence is the definition's.
use Rattle.std.proofs.Common.{subst}
use Rattle.std.specs.Fmt.{HasWritten, IsPlainFormatter}
use Rattle.std.specs.Result.{IsOk}
use Rattle.run_tasks.proofs.Sentences.{code_text, not_started_text}
use Rattle.run_tasks.proofs.fault.write_status.Goals as goal

pub returns-in-Code : goal.returns-in-Code
returns-in-Code g c =
    rw c.in-Code.is (subst (λ text. IsPlainFormatter {W = g.row.W.Denot} c.args.f.now → IsOk c.write.result → HasWritten {W = g.row.W.Denot} g.W.Write.write_str_gives c.args.f.now text c.write.new.self) (code_text c.args.word.now c.in-Code.code) c.write.ensures.writes)

pub returns-in-NotStarted : goal.returns-in-NotStarted
returns-in-NotStarted g c =
    rw c.in-NotStarted.is (subst (λ text. IsPlainFormatter {W = g.row.W.Denot} c.args.f.now → IsOk c.write-in-NotStarted.result → HasWritten {W = g.row.W.Denot} g.W.Write.write_str_gives c.args.f.now text c.write-in-NotStarted.new.self) (not_started_text c.args.word.now) c.write-in-NotStarted.ensures.writes)
