-- Each turn reads an attribute.
use Rattle.std.proofs.Common.{◌≡◌, ◌-◌, ◌++◌, ◌∷◌, [], Ok, refl, ap, ◌∙◌, suc, length, true, false, rules, arith}
use Rattle.std.proofs.lemmas.Result.{err_from_is_err_and}
use Rattle.just_text.specs.Tokens.{word_of}
use Rattle.just_text.specs.declared.token_kind.TokenKind.TheVariants.{BracketL}
use Rattle.parse_attributes.specs.Seen.{IsWholeRead, read_shape}
use Rattle.parse_expressions.specs.Origins.{origin_of}
use Rattle.parse_expressions.specs.Reading.{ahead}
use Rattle.parse_attributes.specs.Reading.{attribute_at, another_at, attributes_at}
use Rattle.parse_attributes.proofs.Fewer.{another_shorter, attribute_shorter}
use Rattle.parse_attributes.proofs.Follow.{all_more, all_none, all_one, at_end, goes_on, no_item, refused_so, untold}
use Rattle.parse_attributes.proofs.Rows.{first_read, no_first}
use Rattle.parse_attributes.proofs.attribute.read_all.Goals as goal
use Rattle.parse_expressions.proofs.Elements.{taken}

pub returns-then-is_none-clause-gives : goal.returns-then-is_none-clause-gives
unfolding attributes_at
returns-then-is_none-clause-gives g c = rw c.requires.fresh (search rules)

pub returns-then-is_none-clause-whole : goal.returns-then-is_none-clause-whole
returns-then-is_none-clause-whole g c = all_none (IsWholeRead (origin_of g.E.Expander.expansion c.args.context.now)) _ c.requires.fresh

pub returns-in_err-push_read-clause-gives : goal.returns-in_err-push_read-clause-gives
returns-in_err-push_read-clause-gives g c =
    let x = g.E.Expander.expansion c.args.context.now.expander.now in
    let e = c.in_err-push_read.field-0.0 in
    let bracket = taken BracketL (ahead c.args.cursor.now) c.accept.result (ahead c.accept.new.self) c.accept.ensures.accepted (search rules) in
    let p = err_from_is_err_and c.from_residual.result c.from_residual.ensures.1 in
    let fails = refused_so _ c.attribute.result (attribute_at word_of x (ahead c.accept.new.self)) e c.attribute.ensures.gives (c.in_err-push_read.ensures.refused e refl) in
    rw (p.1, p.2) (no_first x (ahead c.args.cursor.now) bracket.0 (ahead c.accept.new.self) bracket.1 e fails)

pub loop-attributes-init : goal.loop-attributes-init
loop-attributes-init g c =
    let x = g.E.Expander.expansion c.args.context.now.expander.now in
    let bracket = taken BracketL (ahead c.args.cursor.now) c.accept.result (ahead c.accept.new.self) c.accept.ensures.accepted (search rules) in
    let b = ahead c.attribute.new.cursor in
    let s = c.in_ok-push_read.ensures.stored in
    let gives : attribute_at word_of x (ahead c.accept.new.self) ≡ Ok (read_shape s.0, b) = rw s.1 at c.attribute.ensures.gives in
    let whole : IsWholeRead (origin_of g.E.Expander.expansion c.args.context.now) s.0 = rw s.1 at c.attribute.ensures.whole in
    let pushed : c.push_read.new.items.items ≡ s.0 ∷ [] = s.2 ∙ ap (λ xs. xs ++ s.0 ∷ []) c.requires.fresh in
    record {
      turns = suc (length b);
      fuel = omega arith;
      so_far = rw pushed (first_read x (ahead c.args.cursor.now) bracket.0 (ahead c.accept.new.self) bracket.1 s.0 b gives);
      whole = rw pushed (all_one (IsWholeRead (origin_of g.E.Expander.expansion c.args.context.now)) s.0 whole);
    }

pub returns-in_err-is_another-clause-gives : goal.returns-in_err-is_another-clause-gives
returns-in_err-is_another-clause-gives g c =
    let l = c.loop-attributes in
    let i = l.invariant in
    let x = g.E.Expander.expansion c.args.context.now.expander.now in
    let p = err_from_is_err_and c.from_residual-in_err-is_another.result c.from_residual-in_err-is_another.ensures.1 in
    rw (p.1, p.2) (untold read_shape (attribute_at word_of x) (another_at word_of) l.attributes.items i.turns (ahead l.cursor) _ i.fuel i.so_far c.in_err-is_another.field-0.0 c.in_err-is_another.ensures)

pub returns-in_err-push_read-2-clause-gives : goal.returns-in_err-push_read-2-clause-gives
returns-in_err-push_read-2-clause-gives g c =
    let l = c.loop-attributes in
    let i = l.invariant in
    let x = g.E.Expander.expansion c.args.context.now.expander.now in
    let e = c.in_err-push_read-2.field-0.0 in
    let comes : another_at word_of (ahead l.cursor) ≡ Ok (true, ahead c.is_another.new.cursor) = rw c.if-branch.true at c.in_ok-is_another.ensures in
    let p = err_from_is_err_and c.from_residual-in_err-push_read-2.result c.from_residual-in_err-push_read-2.ensures.1 in
    let fails = refused_so _ c.attribute-in-loop-attributes.result (attribute_at word_of x (ahead c.is_another.new.cursor)) e c.attribute-in-loop-attributes.ensures.gives (c.in_err-push_read-2.ensures.refused e refl) in
    rw (p.1, p.2) (no_item read_shape (attribute_at word_of x) (another_at word_of) l.attributes.items i.turns (ahead l.cursor) _ i.fuel i.so_far (ahead c.is_another.new.cursor) comes e fails)

pub loop-attributes-smaller : goal.loop-attributes-smaller
loop-attributes-smaller g c =
    let l = c.loop-attributes in
    let x = g.E.Expander.expansion c.args.context.now.expander.now in
    let a = ahead c.is_another.new.cursor in
    let b = ahead c.attribute-in-loop-attributes.new.cursor in
    let comes : another_at word_of (ahead l.cursor) ≡ Ok (true, a) = rw c.if-branch.true at c.in_ok-is_another.ensures in
    let s = c.in_ok-push_read-2.ensures.stored in
    let gives : attribute_at word_of x a ≡ Ok (read_shape s.0, b) = rw s.1 at c.attribute-in-loop-attributes.ensures.gives in
    let less = another_shorter word_of (ahead l.cursor) (true, a) comes in
    let fewer = attribute_shorter word_of x a (read_shape s.0, b) gives in
    omega (arith, less, fewer)

pub loop-attributes-preserved : goal.loop-attributes-preserved
loop-attributes-preserved g c =
    let l = c.loop-attributes in
    let i = l.invariant in
    let x = g.E.Expander.expansion c.args.context.now.expander.now in
    let a = ahead c.is_another.new.cursor in
    let b = ahead c.attribute-in-loop-attributes.new.cursor in
    let comes : another_at word_of (ahead l.cursor) ≡ Ok (true, a) = rw c.if-branch.true at c.in_ok-is_another.ensures in
    let s = c.in_ok-push_read-2.ensures.stored in
    let gives : attribute_at word_of x a ≡ Ok (read_shape s.0, b) = rw s.1 at c.attribute-in-loop-attributes.ensures.gives in
    let whole : IsWholeRead (origin_of g.E.Expander.expansion c.args.context.now) s.0 = rw s.1 at c.attribute-in-loop-attributes.ensures.whole in
    let less = another_shorter word_of (ahead l.cursor) (true, a) comes in
    let fewer = attribute_shorter word_of x a (read_shape s.0, b) gives in
    record {
      turns = i.turns - 1;
      fuel = omega (arith, less, fewer, i.fuel);
      so_far = rw s.2 (goes_on read_shape (attribute_at word_of x) (another_at word_of) l.attributes.items i.turns (ahead l.cursor) _ i.fuel i.so_far a comes s.0 b gives);
      whole = rw s.2 (all_more (IsWholeRead (origin_of g.E.Expander.expansion c.args.context.now)) l.attributes.items s.0 i.whole whole);
    }

pub returns-clause-gives : goal.returns-clause-gives
returns-clause-gives g c =
    let l = c.loop-attributes in
    let i = l.invariant in
    let x = g.E.Expander.expansion c.args.context.now.expander.now in
    let ends : another_at word_of (ahead l.cursor) ≡ Ok (false, ahead c.is_another.new.cursor) = rw c.if-branch.false at c.in_ok-is_another.ensures in
    at_end read_shape (attribute_at word_of x) (another_at word_of) l.attributes.items i.turns (ahead l.cursor) _ i.fuel i.so_far (ahead c.is_another.new.cursor) ends

pub returns-clause-whole : goal.returns-clause-whole
returns-clause-whole g c = c.loop-attributes.invariant.whole
