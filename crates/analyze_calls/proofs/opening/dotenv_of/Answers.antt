use Rattle.analyze_calls.proofs.opening.dotenv_of.Goals as goal

pub returns-clause-begun : goal.returns-clause-begun
returns-clause-begun g c = rw (← c.context-context.ensures.config, ← c.context-context.ensures.view) c.read_dotenv.ensures.begun
