use Rattle.std.proofs.Common.{rules, ◌≡◌, ◌∷◌, ◌∙◌, ap, arith, length, map, refl, subst, suc, sym}
use Rattle.std.proofs.lemmas.List.Elements.{All-contains_itself}
use Rattle.std.proofs.lemmas.Result.{err_from_is_err_and}
use Rattle.std.proofs.lemmas.Slice.Zip.{either_empty_from_Zip}
use Rattle.std.specs.List.{All, Contains}
use Rattle.std.specs.Slice.Iter.{iter_rest}
use Rattle.just_text.specs.Tokens.{lexeme}
use Rattle.just_value.specs.Frames.{value_binding}
use Rattle.meaning_evaluation.specs.Stages.Parameters.{bound_value, formal_of}
use Rattle.meaning_evaluation.proofs.Parameters.Parameters.{binds_first, binds_memory, binds_more, binds_stop, binds_refused, binds_end, none_left}
use Rattle.evaluate_variables.specs.Given.{AreCounted, lists_of, stage_for}
use Rattle.evaluate_variables.proofs.Rows.{more_rows, no_rows}
use Rattle.evaluate_variables.proofs.SameStage.{same_stage}
use Rattle.evaluate_variables.proofs.parameters.bind_parameters.Goals as goal

pub loop-parameter-init : goal.loop-parameter-init
loop-parameter-init g c =
    let ps : iter_rest c.into_iter-parameter-iterator.result.a ≡ c.args.parameters.now = search rules in
    let qs : iter_rest c.into_iter-parameter-iterator.result.b ≡ c.args.groups.now = search rules in
    record {
      asks = λ kinds has start asked. asked;
      lies = refl;
      binds = λ may counts always counted none. rw (ps, qs) (counted, binds_first _ _ _ _ _ _ _ _ _ _ _ _ _ none (search rules));
      left = rw ps (All-contains_itself c.args.parameters.now);
      rows = λ none. no_rows c.args.parameters.now c.args.scope.now.own none;
    }

pub returns-in_err-value-clause-evaluates : goal.returns-in_err-value-clause-evaluates
returns-in_err-value-clause-evaluates g c = λ may counts always counted none.
    let l = c.loop-parameter in
    let site = c.args.site.now in
    let here = c.args.scope.now in
    let there = site.context.now.scope.now in
    let stage = stage_for site c.args.env.now here in
    let formals = map formal_of c.args.parameters.now in
    let groups = c.args.groups.now in
    let p = c.in-Some.parameter.now in
    let q = c.in-Some.group.now in
    let ps : iter_rest l.parameter-iterator.a ≡ p ∷ iter_rest c.next.new.self.a = search rules in
    let qs : iter_rest l.parameter-iterator.b ≡ q ∷ iter_rest c.next.new.self.b = search rules in
    let h = l.invariant.binds may counts always counted none in
    let e = err_from_is_err_and c.from_residual.result c.from_residual.ensures.1 in
    let given = rw (same_stage site c.args.env.now l.scope here l.invariant.lies) at c.in_err-value.ensures.evaluates in
    rw (e.1, e.2) (binds_stop here there stage site.is_dependency (lexeme site.recipe.token) counts site.passes_words (lists_of site) formals groups none l.scope l.invariant.lies _ _ _ _ _ _ h.1 (formal_of p) _ q _ (ap (map formal_of) ps) qs _ given)

pub returns-in_err-check_count-clause-evaluates : goal.returns-in_err-check_count-clause-evaluates
returns-in_err-check_count-clause-evaluates g c = λ may counts always counted none.
    let l = c.loop-parameter in
    let site = c.args.site.now in
    let here = c.args.scope.now in
    let there = site.context.now.scope.now in
    let stage = stage_for site c.args.env.now here in
    let formals = map formal_of c.args.parameters.now in
    let groups = c.args.groups.now in
    let p = c.in-Some.parameter.now in
    let q = c.in-Some.group.now in
    let ps : iter_rest l.parameter-iterator.a ≡ p ∷ iter_rest c.next.new.self.a = search rules in
    let qs : iter_rest l.parameter-iterator.b ≡ q ∷ iter_rest c.next.new.self.b = search rules in
    let h = l.invariant.binds may counts always counted none in
    let e = err_from_is_err_and c.from_residual-in_err-check_count.result c.from_residual-in_err-check_count.ensures.1 in
    let v = c.in_ok-value.value in
    let long : c.len.result ≡ length v = search rules in
    let given = rw (same_stage site c.args.env.now l.scope here l.invariant.lies) at c.in_ok-value.ensures.evaluates in
    let now = subst (AreCounted may counts) ps h.0 in
    let refused = sym (now.0 (length v)) ∙ (ap (may p) (sym long) ∙ c.in_err-check_count.ensures.refused may always) in
    let stopped = binds_refused here there stage site.is_dependency (lexeme site.recipe.token) counts site.passes_words (lists_of site) formals groups none l.scope l.invariant.lies _ _ _ _ _ _ h.1 (formal_of p) _ q _ (ap (map formal_of) ps) qs v given refused in
    rw (e.1, e.2, c.in_err-check_count.ensures.fault, long) stopped

pub returns-in_err-bind_parameter-clause-evaluates : goal.returns-in_err-bind_parameter-clause-evaluates
returns-in_err-bind_parameter-clause-evaluates g c = λ may counts always counted none.
    let l = c.loop-parameter in
    let site = c.args.site.now in
    let here = c.args.scope.now in
    let there = site.context.now.scope.now in
    let stage = stage_for site c.args.env.now here in
    let formals = map formal_of c.args.parameters.now in
    let groups = c.args.groups.now in
    let p = c.in-Some.parameter.now in
    let q = c.in-Some.group.now in
    let ps : iter_rest l.parameter-iterator.a ≡ p ∷ iter_rest c.next.new.self.a = search rules in
    let qs : iter_rest l.parameter-iterator.b ≡ q ∷ iter_rest c.next.new.self.b = search rules in
    let h = l.invariant.binds may counts always counted none in
    let e = err_from_is_err_and c.from_residual-in_err-bind_parameter.result c.from_residual-in_err-bind_parameter.ensures.1 in
    let given = rw (same_stage site c.args.env.now l.scope here l.invariant.lies) at c.in_ok-value.ensures.evaluates in
    rw (e.1, e.2) (binds_memory here there stage site.is_dependency (lexeme site.recipe.token) counts site.passes_words (lists_of site) formals groups none l.scope l.invariant.lies _ _ _ _ _ _ h.1 (formal_of p) _ q _ (ap (map formal_of) ps) qs _ given)

pub loop-parameter-preserved : goal.loop-parameter-preserved
loop-parameter-preserved g c =
    let l = c.loop-parameter in
    let site = c.args.site.now in
    let here = c.args.scope.now in
    let there = site.context.now.scope.now in
    let stage = stage_for site c.args.env.now here in
    let formals = map formal_of c.args.parameters.now in
    let groups = c.args.groups.now in
    let p = c.in-Some.parameter.now in
    let q = c.in-Some.group.now in
    let ps : iter_rest l.parameter-iterator.a ≡ p ∷ iter_rest c.next.new.self.a = search rules in
    let qs : iter_rest l.parameter-iterator.b ≡ q ∷ iter_rest c.next.new.self.b = search rules in
    let v = c.in_ok-value.value in
    let long : c.len.result ≡ length v = search rules in
    let given = rw (same_stage site c.args.env.now l.scope here l.invariant.lies) at c.in_ok-value.ensures.evaluates in
    let all = subst (All (Contains c.args.parameters.now)) ps l.invariant.left in
    record {
      asks = λ kinds has start asked. c.in_ok-value.ensures.asks kinds has start (l.invariant.asks kinds has start asked);
      lies = search rules;
      binds = λ may counts always counted none.
          let h = l.invariant.binds may counts always counted none in
          let now = subst (AreCounted may counts) ps h.0 in
          let passed = sym (now.0 (length v)) ∙ (ap (may p) (sym long) ∙ c.in_ok-check_count.ensures.passed may always) in
          (now.1, binds_more here there stage site.is_dependency (lexeme site.recipe.token) counts site.passes_words (lists_of site) formals groups none l.scope l.invariant.lies _ _ _ _ _ _ h.1 (formal_of p) _ q _ (ap (map formal_of) ps) qs _ _ (value_binding p.name p.number p.export (bound_value (lists_of site) v)) v given passed (search rules) refl refl (search rules));
      left = λ k d lt. all (suc k) d (omega arith);
      rows = λ none. more_rows c.args.parameters.now l.scope.own p (bound_value (lists_of site) v) _ (l.invariant.rows none) (all 0 p (omega arith)) (search rules) c.in_ok-bind_parameter.ensures.sorted;
    }

pub returns-clause-evaluates : goal.returns-clause-evaluates
returns-clause-evaluates g c = λ may counts always counted none.
    let l = c.loop-parameter in
    let over = either_empty_from_Zip l.parameter-iterator c.next.new.self c.next.result (search rules) (search rules) in
    binds_end _ _ _ _ _ _ _ _ _ _ _ _ _ _ _ _ (l.invariant.binds may counts always counted none).1 (none_left _ _ over)

pub returns-in_err-value-clause-asks : goal.returns-in_err-value-clause-asks
returns-in_err-value-clause-asks g c = λ kinds has start asked. c.in_err-value.ensures.asks kinds has start (c.loop-parameter.invariant.asks kinds has start asked)

pub returns-in_err-check_count-clause-asks : goal.returns-in_err-check_count-clause-asks
returns-in_err-check_count-clause-asks g c = λ kinds has start asked. c.in_ok-value.ensures.asks kinds has start (c.loop-parameter.invariant.asks kinds has start asked)

pub returns-in_err-bind_parameter-clause-asks : goal.returns-in_err-bind_parameter-clause-asks
returns-in_err-bind_parameter-clause-asks g c = λ kinds has start asked. c.in_ok-value.ensures.asks kinds has start (c.loop-parameter.invariant.asks kinds has start asked)
