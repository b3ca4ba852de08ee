-- Part by part.
use Rattle.std.proofs.Common.{◌∙◌, ap, refl, rules, subst, sym}
use Rattle.analyze_words.specs.Broken.{PathBreaks, rule_of}
use Rattle.meaning_runs.specs.Invokes as spec
use Rattle.analyze_words.specs.Worded.{words_of}
use Rattle.analyze_words.proofs.Paths.{first_piece, follow_inner, follow_last, follow_lost, pieces_lacks}
use Rattle.analyze_words.proofs.parser.InvocationParser.resolve.Goals as goal

pub loop-name-preserved : goal.loop-name-preserved
loop-name-preserved c =
    let w = words_of c.args.self.now.menus.now in
    let cases = c.in-Some.ensures.cases in
    let path = c.loop-name.path.now in
    let name = c.in-Some.name.now in
    let others = c.in-Some.others.now in
    (search rules, c.loop-name.invariant.1 ∙ follow_inner w c.loop-name.here c.in-Some-submodule.inner path name others (first_piece path name others cases.0 cases.1 cases.2.0 cases.2.1.split cases.3 cases.4) (sym c.in-Some-submodule.ensures))

pub returns-in_default-submodule-clause-refused : goal.returns-in_default-submodule-clause-refused
returns-in_default-submodule-clause-refused c =
    let w = words_of c.args.self.now.menus.now in
    let cases = c.in-Some.ensures.cases in
    let path = c.loop-name.path.now in
    let name = c.in-Some.name.now in
    let others = c.in-Some.others.now in
    let lost = c.loop-name.invariant.1 ∙ follow_lost w c.loop-name.here path name others (first_piece path name others cases.0 cases.1 cases.2.0 cases.2.1.split cases.3 cases.4) (sym c.in_default-submodule.ensures) in
    λ some. (spec.unknown_module c.args.word.now, (ap rule_of (c.unknown_module.ensures some), subst (λ f. PathBreaks c.args.word.now f (spec.unknown_module c.args.word.now)) (sym lost) refl))

pub returns-in-Some-word_meaning-clause-found : goal.returns-in-Some-word_meaning-clause-found
returns-in-Some-word_meaning-clause-found c =
    let w = words_of c.args.self.now.menus.now in
    let path = c.loop-name.path.now in
    c.loop-name.invariant.1 ∙ follow_last w c.loop-name.here path (pieces_lacks path c.in_default.ensures.cases) ∙ ap spec.means (sym c.in-Some-word_meaning.ensures.meaning)

pub returns-in-None-clause-refused : goal.returns-in-None-clause-refused
returns-in-None-clause-refused c =
    let w = words_of c.args.self.now.menus.now in
    let path = c.loop-name.path.now in
    let none = c.loop-name.invariant.1 ∙ follow_last w c.loop-name.here path (pieces_lacks path c.in_default.ensures.cases) ∙ ap spec.means (sym c.in-None.ensures.meaning) in
    λ some. (spec.unknown_recipe c.args.word.now, (ap rule_of (c.unknown_recipe.ensures some), subst (λ f. PathBreaks c.args.word.now f (spec.unknown_recipe c.args.word.now)) (sym none) refl))
