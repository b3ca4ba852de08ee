use Rattle.std.proofs.Common.{◌∙◌}
use Rattle.just_host.specs.KindsLaws.{request_asked}
use Rattle.analyze_calls.proofs.Openings.{answered}
use Rattle.analyze_calls.proofs.Beginnings.{may_be_told}
use Rattle.analyze_calls.proofs.opening.ask_dotenv.Goals as goal

pub returns : goal.returns
returns g c = record {
  asks = λ kinds questions requests. request_asked kinds g.H.Host.goes g.met.H.Host.joins c.args.host.now c.dotenv-asked.new.self requests c.args.request.now c.dotenv-asked.result c.dotenv-asked.ensures.followed;
  requests =
      answered g.H.Host.goes c.args.host.now c.dotenv-asked.new.self c.args.request.now c.dotenv-asked.result _ c.dotenv-asked.ensures.followed c.dotenv-asked.ensures.refused
      (λ e. c.told.ensures.open (c.exhausted.ensures ∙ e)) (λ e. c.told.ensures.exhausted (c.exhausted.ensures ∙ e));
  begun = may_be_told g.H.Host.goes c.args.host.now c.dotenv-asked.new.self c.args.request.now c.dotenv-asked.result c.dotenv-asked.ensures.followed;
}
