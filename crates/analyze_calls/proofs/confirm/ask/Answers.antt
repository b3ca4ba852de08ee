use Rattle.just_text.specs.Tokens.{lexeme}
use Rattle.just_host.specs.KindsLaws.{prompt_asked}
use Rattle.analyze_calls.proofs.Asking.{performs_asked}
use Rattle.analyze_calls.proofs.confirm.ask.Goals as goal

pub returns : goal.returns
returns g c = record {
  asks = λ kinds questions user. prompt_asked kinds g.H.Host.goes g.met.H.Host.joins c.args.host.now c.confirm-answer.new.self user c.args.prompt.now c.confirm-answer.result c.confirm-answer.ensures.followed;
  performs = λ reading. performs_asked reading g.H.Host.goes (lexeme c.args.recipe.token) c.args.prompt.now c.args.host.now c.confirm-answer.new.self c.confirm-answer.result _ c.confirm-answer.ensures.followed c.judged.ensures.is;
  told = c.judged.ensures.told;
}
