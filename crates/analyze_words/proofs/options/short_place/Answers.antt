-- One letter after a dash.
use Rattle.std.proofs.Common.{◌≡◌, ◌∙◌, ◌++◌, ap, sym}
use Rattle.std.specs.Prelude.{codes}
use Rattle.analyze_words.proofs.Names.{no_dash, not_dashed, no_letter, more_letters, short_named, letters_follow, no_letters_follow}
use Rattle.analyze_words.proofs.options.short_place.Goals as goal

pub returns-in_default : goal.returns-in_default
returns-in_default c = λ slots p long. sym (not_dashed slots c.args.name.now long (no_dash c.args.name.now c.in_default.ensures.cases))

pub returns-in_default-next : goal.returns-in_default-next
returns-in_default-next c = λ slots p long.
    let cases = c.in-Some.ensures.cases in
    let dash = cases.1.1 ∙ ap (λ bs. codes "-" ++ bs) (sym cases.2) in
    sym (no_letter slots c.args.name.now c.in-Some.letters.now long dash (sym c.chars-letters.ensures.len ∙ c.in_default-next.ensures.steps.0.0))

pub returns-then-is_some : goal.returns-then-is_some
returns-then-is_some c = λ slots p long.
    let cases = c.in-Some.ensures.cases in
    let dash = cases.1.1 ∙ ap (λ bs. codes "-" ++ bs) (sym cases.2) in
    let rest = c.next.new.self.rest.now in
    let more = letters_follow (c.next-2.new.self ≡ c.next.new.self) c.next-2.result rest c.next-2.new.self.rest.now (sym c.is_some.ensures ∙ c.if-is_some.true) c.next-2.ensures.steps.0 in
    sym (more_letters slots c.args.name.now c.in-Some.letters.now rest c.in-Some-next.letter long dash (sym c.chars-letters.ensures.rest ∙ c.in-Some-next.ensures.steps.0) more)

pub returns : goal.returns
returns c = λ slots p long.
    let cases = c.in-Some.ensures.cases in
    let dash = cases.1.1 ∙ ap (λ bs. codes "-" ++ bs) (sym cases.2) in
    let rest = c.next.new.self.rest.now in
    let over = no_letters_follow (c.next-2.new.self ≡ c.next.new.self) c.next-2.result rest c.next-2.new.self.rest.now (sym c.is_some.ensures ∙ c.if-is_some.false) c.next-2.ensures.steps.0 in
    c.short.ensures ∙ p.short c.in-Some-next.letter
    ∙ sym (short_named slots c.args.name.now c.in-Some.letters.now rest c.in-Some-next.letter long dash (sym c.chars-letters.ensures.rest ∙ c.in-Some-next.ensures.steps.0) over)
