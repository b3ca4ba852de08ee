-- What is counted is made an attribute, and its options are those of the second reading.
use Rattle.std.proofs.Common.{◌≡◌, ◌∙◌, Ok, Option, sym, ap, subst}
use Rattle.std.specs.Prelude.{IfOk, IfSome, Result, option_map}
use Rattle.std.specs.declared.alloc.AllocError.{AllocError}
use Rattle.std.proofs.lemmas.Result.{err_from_is_err_and}
use Rattle.parse_expressions.proofs.Together.{both_given, second_refused}
use Rattle.just_text.specs.Tokens.{lexeme, word_of}
use Rattle.tree_attributes.specs.Attributes.{AttributeShape, attribute_shape, options_shape}
use Rattle.tree_attributes.specs.declared.attribute.ArgumentOptions.{ArgumentOptions}
use Rattle.tree_attributes.specs.declared.attribute.Attribute.{Attribute}
use Rattle.parse_expressions.specs.Origins.{origin_of}
use Rattle.parse_expressions.specs.Reading.{ahead}
use Rattle.parse_attributes.specs.Arguments.{made}
use Rattle.parse_attributes.specs.Held.{GivesOptions, IsCookedArguments, arguments_shape}
use Rattle.parse_attributes.specs.Cooked.{AreCookedOptions, IsCookedAttribute}
use Rattle.parse_attributes.specs.declared.arguments.ArgumentsRead.{ArgumentsRead}
use Rattle.parse_attributes.specs.Seen.{options_in}
use Rattle.parse_attributes.proofs.Known.{counted_read, known_so, not_counted, refused_again}
use Rattle.parse_attributes.proofs.Named.{named_so}
use Rattle.parse_attributes.proofs.attribute.known.Goals as goal

pub returns-in_err-arguments-clause-gives : goal.returns-in_err-arguments-clause-gives
returns-in_err-arguments-clause-gives g c =
    let p = err_from_is_err_and c.from_residual.result c.from_residual.ensures.1 in
    rw (p.1, p.2) (not_counted (g.E.Expander.expansion c.args.context.now.expander.now) c.args.name.token c.args.kind (ahead c.args.cursor.now) c.in_err-arguments.field-0.0 c.in_err-arguments.ensures.gives)

pub returns-in_err-arguments-2-clause-gives : goal.returns-in_err-arguments-2-clause-gives
returns-in_err-arguments-2-clause-gives g c =
    let x = g.E.Expander.expansion c.args.context.now.expander.now in
    let a = arguments_shape c.in_ok-arguments.arguments in
    let rest = ahead c.counted.new.cursor in
    let read = counted_read x c.args.name.token c.args.kind (ahead c.args.cursor.now) a rest c.in_ok-arguments.ensures.gives in
    let refused = second_refused c.in_ok-arguments.arguments c.options_again-options.result c.in_err-arguments-2.field-0.0 c.in_err-arguments-2.ensures in
    let gives = subst (λ r. GivesOptions r (options_in (made x c.args.kind a))) refused (c.options_again-options.ensures.gives a rest c.in_ok-arguments.ensures.sort read) in
    let p = err_from_is_err_and c.from_residual-in_err-arguments-2.result c.from_residual-in_err-arguments-2.ensures.1 in
    rw (p.1, p.2) (refused_again (options_in (made x c.args.kind a)) c.in_err-arguments-2.field-0.0 _ gives)

pub returns-clause-gives : goal.returns-clause-gives
returns-clause-gives g c =
    let x = g.E.Expander.expansion c.args.context.now.expander.now in
    let rest = ahead c.counted.new.cursor in
    let given = both_given c.in_ok-arguments.arguments c.options_again-options.result (c.in_ok-arguments-2.arguments, c.in_ok-arguments-2.options) c.in_ok-arguments-2.ensures in
    let cooked : IsCookedArguments (origin_of g.E.Expander.expansion c.args.context.now) c.in_ok-arguments-2.arguments = rw given.0 c.in_ok-arguments.ensures.cooked in
    let last = both_given c.in_ok-arguments-2.options c.made-made.result (c.in_ok-options.options, c.in_ok-options.attribute) c.in_ok-options.ensures in
    let is : option_map attribute_shape c.in_ok-options.attribute ≡ made x c.args.kind (arguments_shape c.in_ok-arguments-2.arguments) =
    subst (λ (r : Result (Option Attribute) AllocError). IfOk r (λ a. option_map attribute_shape a ≡ made x c.args.kind (arguments_shape c.in_ok-arguments-2.arguments))) last.1 (c.made-made.ensures.shape (origin_of g.E.Expander.expansion c.args.context.now) cooked) in
    known_so x c.args.name.token c.args.kind (ahead c.args.cursor.now) (arguments_shape c.in_ok-arguments.arguments) rest c.in_ok-arguments.ensures.gives
    ∙ ap (λ (o : Option AttributeShape). Ok (o, rest)) (ap (λ (r : ArgumentsRead). made x c.args.kind (arguments_shape r)) (sym given.0) ∙ sym is)

pub returns-clause-whole : goal.returns-clause-whole
returns-clause-whole g c =
    let x = g.E.Expander.expansion c.args.context.now.expander.now in
    let a = arguments_shape c.in_ok-arguments.arguments in
    let rest = ahead c.counted.new.cursor in
    let read = counted_read x c.args.name.token c.args.kind (ahead c.args.cursor.now) a rest c.in_ok-arguments.ensures.gives in
    let given = both_given c.in_ok-arguments.arguments c.options_again-options.result (c.in_ok-arguments-2.arguments, c.in_ok-arguments-2.options) c.in_ok-arguments-2.ensures in
    let cooked : IsCookedArguments (origin_of g.E.Expander.expansion c.args.context.now) c.in_ok-arguments-2.arguments = rw given.0 c.in_ok-arguments.ensures.cooked in
    let gives = subst (λ r. GivesOptions r (options_in (made x c.args.kind a))) given.1 (c.options_again-options.ensures.gives a rest c.in_ok-arguments.ensures.sort read) in
    let last = both_given c.in_ok-arguments-2.options c.made-made.result (c.in_ok-options.options, c.in_ok-options.attribute) c.in_ok-options.ensures in
    let is : option_map attribute_shape c.in_ok-options.attribute ≡ made x c.args.kind (arguments_shape c.in_ok-arguments-2.arguments) =
    subst (λ (r : Result (Option Attribute) AllocError). IfOk r (λ a. option_map attribute_shape a ≡ made x c.args.kind (arguments_shape c.in_ok-arguments-2.arguments))) last.1 (c.made-made.ensures.shape (origin_of g.E.Expander.expansion c.args.context.now) cooked) in
    record {
      named =
          named_so x c.args.kind a (lexeme c.args.name.token) c.in_ok-options.attribute c.requires c.in_ok-arguments.ensures.sort c.in_ok-arguments.ensures.taken
          (is ∙ ap (λ (r : ArgumentsRead). made x c.args.kind (arguments_shape r)) given.0);
      again = ap (option_map options_shape) last.0 ∙ gives ∙ ap options_in (ap (λ (r : ArgumentsRead). made x c.args.kind (arguments_shape r)) (sym given.0) ∙ sym is);
      cooked = subst (λ (r : Result (Option Attribute) AllocError). IfOk r (λ a. IfSome a (IsCookedAttribute (origin_of g.E.Expander.expansion c.args.context.now)))) last.1 (c.made-made.ensures.cooked (origin_of g.E.Expander.expansion c.args.context.now) cooked);
      cooked_options =
          subst (λ (o : Option ArgumentOptions). IfSome o (AreCookedOptions (origin_of g.E.Expander.expansion c.args.context.now))) (sym last.0)
          (subst (λ r. IfOk r (λ o. IfSome o (AreCookedOptions (origin_of g.E.Expander.expansion c.args.context.now)))) given.1 c.options_again-options.ensures.cooked);
    }
