-- What was asked so far, and what is bound so far; the frames around are as they were, and what is left are some of the parameters.
use Rattle.std.proofs.Common.{◌≡◌, ℕ, Bool, map}
use Rattle.std.specs.Fn.{AlwaysReturns}
use Rattle.std.specs.List.{All, Contains}
use Rattle.std.specs.Slice.Iter.{iter_rest}
use Rattle.std.specs.String.{string_bytes}
use Rattle.just_text.specs.Tokens.{lexeme}
use Rattle.tree_items.specs.declared.recipe.Parameter.{Parameter}
use Rattle.just_host.specs.Kinds.{AsksQuestions}
use Rattle.meaning_dialogues.specs.Calls.{HasValues, empty}
use Rattle.meaning_evaluation.specs.Stages.Parameters.{Formal, formal_of}
use Rattle.meaning_evaluation.proofs.Parameters.Parameters.{BindsParameters}
use Rattle.evaluate_variables.specs.Given.{AreCounted, HasRowsOf, lists_of, stage_for}
use Rattle.evaluate_variables.proofs.parameters.bind_parameters.Given as goal

abbrev pub invariant-loop-parameter : goal.invariant-loop-parameter
invariant-loop-parameter g l = record {
  asks : AsksQuestions g.H.Host.goes l.initial.host l.host;
  lies : l.scope.outer ≡ l.initial.scope.outer;
  binds : (may : Parameter → ℕ → Bool) (counts : Formal → ℕ → Bool) → AlwaysReturns g.F.Fn (λ a r. r ≡ may a.0.now a.1.0) l.fn.check → AreCounted may counts l.fn.parameters → HasValues l.fn.scope.own empty
      → AreCounted may counts (iter_rest l.parameter-iterator.a) × BindsParameters l.fn.scope l.fn.site.context.now.scope.now (stage_for l.fn.site l.fn.env l.fn.scope) l.fn.site.is_dependency (lexeme l.fn.site.recipe.token) counts l.fn.site.passes_words (lists_of l.fn.site) (map formal_of l.fn.parameters) l.fn.groups (map formal_of (iter_rest l.parameter-iterator.a)) (iter_rest l.parameter-iterator.b) l.fn.host.entries l.host.entries l.scope.own (map string_bytes l.positional.items);
  left : All (Contains l.fn.parameters) (iter_rest l.parameter-iterator.a);
  rows : HasValues l.fn.scope.own empty → HasRowsOf l.fn.parameters l.scope.own;
}
