-- All words, unless none ask for the list.
use Rattle.std.proofs.Common.{◌∙◌, length, sym, ap, eqb-true}
use Rattle.std.proofs.lemmas.Bool.{eqb-false}
use Rattle.analyze_words.specs.Worded.{words_of}
use Rattle.meaning_runs.specs.Invokes.{IsAsked}
use Rattle.analyze_words.proofs.Invoking.{all_read, none_read}
use Rattle.analyze_words.proofs.parser.InvocationParser.parse_invocations.Goals as goal
use Rattle.analyze_words.proofs.parser.InvocationParser.parse_invocations.Goals.{else-is_empty-via-then-is_empty+else-menus, else-is_empty-via-else-is_empty}

pub returns-then-menus-clause-found : goal.returns-then-menus-clause-found
returns-then-menus-clause-found c = none_read (words_of c.args.menus.now) c.args.words.now _ (eqb-true _ 0 (sym c.is_empty.ensures ∙ c.if-is_empty.true)) c.if-menus.true c.new-invocations.ensures.items

pub returns-in-Ok-clause-found : goal.returns-in-Ok-clause-found
returns-in-Ok-clause-found c =
    let w = words_of c.args.menus.now in
    let asked : IsAsked w c.args.words.now = elim c.else-is_empty.branch [
      | else-is_empty-via-then-is_empty+else-menus g ↦ λ e. g.if-menus.false
      | else-is_empty-via-else-is_empty g ↦ λ e. absurd (eqb-false _ 0 (sym c.is_empty.ensures ∙ g.if-is_empty.false) (ap length e))
    ] in
    all_read w c.args.words.now c.new-invocations.result.items _ c.new-invocations.ensures.items (c.in-Ok.ensures.found asked)

pub returns-in-Err-clause-refused : goal.returns-in-Err-clause-refused
returns-in-Err-clause-refused c =
    let w = words_of c.args.menus.now in
    let asked : IsAsked w c.args.words.now = elim c.else-is_empty.branch [
      | else-is_empty-via-then-is_empty+else-menus g ↦ λ e. g.if-menus.false
      | else-is_empty-via-else-is_empty g ↦ λ e. absurd (eqb-false _ 0 (sym c.is_empty.ensures ∙ g.if-is_empty.false) (ap length e))
    ] in
    c.in-Err.ensures.refused asked
