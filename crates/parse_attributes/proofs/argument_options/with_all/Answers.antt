-- Each turn adds an option.
use Rattle.std.proofs.Common.{◌≡◌, ◌+◌, suc, List, ◌∷◌, length, map, Option, None, ap, subst, sym, rules, arith}
use Rattle.std.specs.List.{All}
use Rattle.std.specs.Vec.Iter.{into_iter_items, into_iter_len}
use Rattle.tree_attributes.specs.Attributes.{options_shape}
use Rattle.tree_expressions.specs.Shape.{written}
use Rattle.parse_expressions.specs.Literals.{Origin}
use Rattle.parse_attributes.specs.declared.parameter_option.OptionRead.{OptionRead}
use Rattle.parse_attributes.specs.Held.{IsCookedGiven, given_shape}
use Rattle.parse_attributes.specs.Options.{with_all, without_options}
use Rattle.parse_attributes.proofs.Adding.{adds, stops, all_first, all_others}
use Rattle.parse_attributes.proofs.argument_options.with_all.Goals as goal

pub loop-option-preserved : goal.loop-option-preserved
loop-option-preserved c =
    let l = c.loop-option in
    let i = l.invariant in
    let p = c.in-Some.option in
    let rest = into_iter_items c.next.new.self in
    let items : into_iter_items l.option-iterator ≡ p ∷ rest = c.in-Some.ensures.steps.0 in
    let fewer : into_iter_len c.next.new.self + 1 ≡ into_iter_len l.option-iterator = c.in-Some.ensures.steps.1 in
    let more : length (into_iter_items l.option-iterator) ≡ suc (length rest) = ap length items in
    let all_left : (x : Origin) → All (IsCookedGiven x) c.args.given.items → All (IsCookedGiven x) (p ∷ rest) = λ x all. subst (All (IsCookedGiven x)) items (i.others x all) in
    let here : (x : Origin) → All (IsCookedGiven x) c.args.given.items → IsCookedGiven x p = λ x all. all_first (IsCookedGiven x) p rest (all_left x all) in
    record {
      can = tt;
      finite = tt;
      count = omega (arith, fewer, more, i.count);
      so_far = λ x all.
          adds x.expansion (options_shape l.options) (options_shape c.in_ok-options.options) p rest (with_all x.expansion (without_options (written c.args.name)) (map given_shape c.args.given.items)) (sym (c.in_ok-options.ensures.shape x (here x all)))
          (subst (λ (xs : List (Option OptionRead)). with_all x.expansion (options_shape l.options) (map given_shape xs) ≡ with_all x.expansion (without_options (written c.args.name)) (map given_shape c.args.given.items)) items (i.so_far x all));
      these = λ x name all. c.in_ok-options.ensures.cooked x (i.these x name all) (here x all);
      others = λ x all. all_others (IsCookedGiven x) p rest (all_left x all);
    }

pub returns-in_err-options-clause-shape : goal.returns-in_err-options-clause-shape
returns-in_err-options-clause-shape c = λ x all.
    let l = c.loop-option in
    let i = l.invariant in
    let p = c.in-Some.option in
    let rest = into_iter_items c.next.new.self in
    let items : into_iter_items l.option-iterator ≡ p ∷ rest = c.in-Some.ensures.steps.0 in
    let here : IsCookedGiven x p = all_first (IsCookedGiven x) p rest (subst (All (IsCookedGiven x)) items (i.others x all)) in
    let none : c.from_residual.result ≡ None = search rules in
    rw none
    (stops x.expansion (options_shape l.options) p rest (with_all x.expansion (without_options (written c.args.name)) (map given_shape c.args.given.items)) (sym (c.in_err-options.ensures.shape x here))
    (subst (λ (xs : List (Option OptionRead)). with_all x.expansion (options_shape l.options) (map given_shape xs) ≡ with_all x.expansion (without_options (written c.args.name)) (map given_shape c.args.given.items)) items (i.so_far x all)))
