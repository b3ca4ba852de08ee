use Rattle.std.proofs.Common.{◌∙◌, Some, refl, sym, ap, subst}
use Rattle.std.specs.Option.{option_copied}
use Rattle.analyze_words.specs.declared.fault.WordFault.TheVariants.{ExtraWord, UnknownVariable}
use Rattle.just_meaning.specs.Actions.{extra_word, unknown_variable}
use Rattle.justfile_analyzer.specs.Targets.{target_of}
use Rattle.run_tasks.specs.Requested.Words.{BreaksValuesAt}
use Rattle.run_tasks.proofs.Requested.Refused.{no_first, refused_by, values_extra, values_unknown}
use Rattle.run_tasks.proofs.request.target.Goals as goal

pub returns-in-Some-first-clause-refused : goal.returns-in-Some-first-clause-refused
returns-in-Some-first-clause-refused c = λ ordered.
    refused_by (BreaksValuesAt c.args.modules.now c.args.lists.now c.args.words.now) (ExtraWord c.as_str.result.now) c.extra_word.result (extra_word c.as_str.result.now) c.extra_word.ensures refl
    (values_extra c.args.modules.now c.args.lists.now c.args.words.now c.in-Some.others.now c.in-Some.word.now c.as_str.result.now c.in-Some.ensures.cases.0
    (sym c.first.ensures.value ∙ ap option_copied c.in-Some-first.is ∙ ap Some (sym c.as_str.ensures)))

pub returns-in-None-clause-refused : goal.returns-in-None-clause-refused
returns-in-None-clause-refused c = λ ordered.
    let word = c.in-Some.word.now in
    refused_by (BreaksValuesAt c.args.modules.now c.args.lists.now c.args.words.now) (UnknownVariable c.as_str-in-None.result.now) c.unknown_variable.result (unknown_variable c.as_str-in-None.result.now) c.unknown_variable.ensures refl
    (subst (λ w. BreaksValuesAt c.args.modules.now c.args.lists.now c.args.words.now (unknown_variable w)) (sym c.as_str-in-None.ensures)
    (values_unknown c.args.modules.now c.args.lists.now c.args.words.now c.in-Some.others.now word c.in-Some.ensures.cases.0 (no_first c.in-Some.others.now c.first.result c.first.ensures.value c.in_default-first.not-Some)
    (ap (target_of c.args.modules.now c.args.lists.now) (sym c.as_str-2.ensures) ∙ sym (c.evaluation_target.ensures ordered) ∙ c.in-None.is)))
