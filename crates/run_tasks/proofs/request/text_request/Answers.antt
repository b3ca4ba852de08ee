use Rattle.std.proofs.Common.{◌∙◌, Some, refl, sym, ap}
use Rattle.std.specs.Option.{option_copied}
use Rattle.analyze_words.specs.declared.fault.WordFault.TheVariants.{ExtraWord}
use Rattle.just_meaning.specs.Actions.{BreaksText, extra_word}
use Rattle.run_tasks.proofs.Requested.Refused.{refused_by, text_extra}
use Rattle.run_tasks.proofs.request.text_request.Goals as goal

pub returns-in-Some-clause-refused : goal.returns-in-Some-clause-refused
returns-in-Some-clause-refused c =
    refused_by (BreaksText c.args.words.now) (ExtraWord c.as_str.result.now) c.extra_word.result (extra_word c.as_str.result.now) c.extra_word.ensures refl
    (text_extra c.args.words.now c.as_str.result.now (sym c.first.ensures.value ∙ ap option_copied c.in-Some.is ∙ ap Some (sym c.as_str.ensures)))
