use Rattle.std.proofs.Common.{rules, ◌≡◌, ℕ, false, true, length, refl, arith}
use Rattle.std.specs.String.{string_bytes, string_len}
use Rattle.tree_items.specs.Lines.{pieces_of}
use Rattle.meaning_evaluation.specs.Bodies.{goes_on_below}
use Rattle.justfile_evaluator.proofs.Cut.{slash_cut}
use Rattle.justfile_evaluator.proofs.body.Command.end_line.Goals as goal

pub returns-then-not-self-clause-text : goal.returns-then-not-self-clause-text
returns-then-not-self-clause-text c = λ slashed.
    let e : goes_on_below (pieces_of c.args.line.now) ≡ false = search rules in
    rw e refl

pub returns-clause-text : goal.returns-clause-text
returns-clause-text c = λ slashed.
    let e : goes_on_below (pieces_of c.args.line.now) ≡ true = search rules in
    let old = c.args.self.now.text in
    let long : string_len old ≡ length (string_bytes old) = omega (arith, old.bytes.ok.0) in
    rw e (slash_cut (string_bytes old) (string_bytes c.pop-backslash.new.self) (string_len old) long (slashed e) c.pop-backslash.ensures.ascii_bytes)
