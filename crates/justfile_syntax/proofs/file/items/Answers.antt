-- Each turn reads an entry, and adds its item and its blank lines.
use Rattle.std.proofs.Common.{◌≡◌, ◌-◌, ◌++◌, ◌∷◌, None, Ok, refl, replicate, rules, arith}
use Rattle.std.proofs.lemmas.Result.{err_from_is_err_and}
use Rattle.just_text.specs.Tokens.{word_of}
use Rattle.just_text.specs.declared.token_kind.TokenKind.TheVariants.{Eof}
use Rattle.tree_items.specs.declared.ast.Item.TheVariants.{Newline}
use Rattle.tree_items.specs.Files.{item_shape}
use Rattle.parse_expressions.specs.Origins.{origin_of}
use Rattle.parse_expressions.specs.Reading.{accept, ahead}
use Rattle.parse_recipes.specs.Numbering.{AreUsed, IsFrugal}
use Rattle.parse_recipes.proofs.Frugal.{unused}
use Rattle.parse_attributed_items.specs.Halting.{HaltsUnless}
use Rattle.parse_attributed_items.specs.Held.{IsItemCooked, IsOwnItem}
use Rattle.justfile_syntax.specs.Reading.{entry_at}
use Rattle.justfile_syntax.proofs.EntryTurns.{all_read, begun, entry_fewer, goes_on, more_behind, no_entry, not_ended, taken}
use Rattle.justfile_syntax.proofs.Frugal.{items_first, no_items, one_item}
use Rattle.justfile_syntax.proofs.InOrder.{in_order, none_in_order}
use Rattle.justfile_syntax.proofs.ItemsHeld.{blank_cooked, none_held, one_held}
use Rattle.justfile_syntax.proofs.file.items.Goals as goal

pub loop-alloc-init : goal.loop-alloc-init
loop-alloc-init g c =
    let x = g.E.Expander.expansion c.args.context.now.expander.now in
    let items = c.new-items.result.items in
    let b = begun x c.args.current.now (ahead c.args.cursor.now) (ahead c.accept-mark.new.self) c.accept-mark.result items c.accept-mark.ensures.accepted c.accept-mark.ensures.none (search rules) in
    record {
      turns = _;
      fuel = b.fuel;
      so_far = b.so_far;
      numbers = none_in_order c.args.numerator.now items (search rules);
      room = let f = b.fuel in no_items items (ahead c.accept-mark.new.self) (ahead c.args.cursor.now) (search rules) (omega (arith, f));
      own = none_held (IsOwnItem x) items (search rules);
      cooked = none_held (IsItemCooked (origin_of g.E.Expander.expansion c.args.context.now)) items (search rules);
    }

pub returns-in_err-read-clause-gives : goal.returns-in_err-read-clause-gives
returns-in_err-read-clause-gives g c =
    let l = c.loop-alloc in
    let i = l.invariant in
    let x = g.E.Expander.expansion c.args.context.now.expander.now in
    let no_end : accept word_of Eof (ahead l.cursor) ≡ None = grind arith in
    let same : ahead c.accept.new.self ≡ ahead l.cursor = grind arith in
    let halted : HaltsUnless (AreUsed c.entry.new.numerator) c.in_err-read.field-0.0 (entry_at word_of x c.args.current.now (ahead l.cursor)) = rw same at c.in_err-read.ensures.gives in
    let p = err_from_is_err_and c.from_residual.result c.from_residual.ensures.1 in
    rw (p.1, p.2) (no_entry x c.args.current.now l.items.items i.turns (ahead l.cursor) _ i.fuel i.so_far no_end _ c.in_err-read.field-0.0 halted)

pub loop-alloc-smaller : goal.loop-alloc-smaller
loop-alloc-smaller g c =
    let l = c.loop-alloc in
    let x = g.E.Expander.expansion c.args.context.now.expander.now in
    let read = c.in_ok-read.read in
    let same : ahead c.accept.new.self ≡ ahead l.cursor = grind arith in
    let is : entry_at word_of x c.args.current.now (ahead l.cursor) ≡ Ok ((item_shape read.item, read.blank_lines), ahead c.entry.new.cursor) = rw same at c.in_ok-read.ensures.gives in
    let less = entry_fewer x c.args.current.now c.recipe_law.ensures.ends.tokens (c.law.ensures.items x c.args.current.now) (ahead l.cursor) (item_shape read.item, read.blank_lines) (ahead c.entry.new.cursor) is in omega (arith, less)

pub loop-alloc-preserved : goal.loop-alloc-preserved
loop-alloc-preserved g c =
    let l = c.loop-alloc in
    let i = l.invariant in
    let x = g.E.Expander.expansion c.args.context.now.expander.now in
    let read = c.in_ok-read.read in
    let none = not_ended (ahead l.cursor) c.accept.result (ahead c.accept.new.self) c.accept.ensures.accepted c.accept.ensures.none c.loop-alloc-test.ensures in
    let no_end = none.0 in
    let same = none.1 in
    let is : entry_at word_of x c.args.current.now (ahead l.cursor) ≡ Ok ((item_shape read.item, read.blank_lines), ahead c.entry.new.cursor) = rw same at c.in_ok-read.ensures.gives in
    let less = entry_fewer x c.args.current.now c.recipe_law.ensures.ends.tokens (c.law.ensures.items x c.args.current.now) (ahead l.cursor) (item_shape read.item, read.blank_lines) (ahead c.entry.new.cursor) is in
    let pushed : c.push_entry.new.items.items ≡ l.items.items ++ read.item ∷ replicate read.blank_lines Newline = search rules in
    record {
      turns = i.turns - 1;
      fuel = omega (arith, less, i.fuel);
      so_far = rw pushed (goes_on x c.args.current.now l.items.items i.turns (ahead l.cursor) _ i.fuel i.so_far read.item read.blank_lines (ahead c.entry.new.cursor) no_end is);
      numbers = rw pushed (in_order c.args.numerator.now l.numerator c.entry.new.numerator l.items.items read.item read.blank_lines i.numbers c.in_ok-read.ensures.numbers);
      room = rw pushed (one_item l.items.items read.item read.blank_lines (ahead l.cursor) (ahead c.entry.new.cursor) (ahead c.args.cursor.now) i.room less);
      own = rw pushed (one_held (IsOwnItem x) tt l.items.items read.item read.blank_lines i.own c.in_ok-read.ensures.own);
      cooked = rw pushed (one_held (IsItemCooked (origin_of g.E.Expander.expansion c.args.context.now)) (blank_cooked (origin_of g.E.Expander.expansion c.args.context.now)) l.items.items read.item read.blank_lines i.cooked c.in_ok-read.ensures.cooked);
    }

pub returns-in_err-check_end-clause-gives : goal.returns-in_err-check_end-clause-gives
returns-in_err-check_end-clause-gives g c =
    let l = c.loop-alloc in
    let i = l.invariant in
    let x = g.E.Expander.expansion c.args.context.now.expander.now in
    let end = taken (ahead l.cursor) c.accept.result (ahead c.accept.new.self) c.accept.ensures.accepted (search rules) in
    let p = err_from_is_err_and c.from_residual-in_err-check_end.result c.from_residual-in_err-check_end.ensures.1 in
    rw (p.1, p.2) (more_behind x c.args.current.now l.items.items i.turns (ahead l.cursor) _ i.fuel i.so_far end.0 (ahead c.accept.new.self) end.1 _ c.in_err-check_end.field-0.0 c.in_err-check_end.ensures)

pub returns-clause-gives : goal.returns-clause-gives
returns-clause-gives g c =
    let l = c.loop-alloc in
    let i = l.invariant in
    let x = g.E.Expander.expansion c.args.context.now.expander.now in
    let end = taken (ahead l.cursor) c.accept.result (ahead c.accept.new.self) c.accept.ensures.accepted (search rules) in
    all_read x c.args.current.now l.items.items i.turns (ahead l.cursor) _ i.fuel i.so_far end.0 (ahead c.accept.new.self) end.1 c.in_ok-check_end.ensures

pub returns-in_err-read-clause-frugal : goal.returns-in_err-read-clause-frugal
returns-in_err-read-clause-frugal g c =
    let l = c.loop-alloc in
    let same : ahead c.accept.new.self ≡ ahead l.cursor = grind arith in
    let frugal : IsFrugal (ahead l.cursor) l.numerator c.entry.new.numerator = rw same at c.in_err-read.ensures.frugal in
    items_first c.args.numerator.now l.numerator c.entry.new.numerator l.items.items (ahead l.cursor) (ahead c.args.cursor.now) l.invariant.numbers l.invariant.room frugal

pub returns-in_err-push_entry-clause-frugal : goal.returns-in_err-push_entry-clause-frugal
returns-in_err-push_entry-clause-frugal g c =
    let l = c.loop-alloc in
    let same : ahead c.accept.new.self ≡ ahead l.cursor = grind arith in
    let frugal : IsFrugal (ahead l.cursor) l.numerator c.entry.new.numerator = rw same at c.in_ok-read.ensures.frugal in
    items_first c.args.numerator.now l.numerator c.entry.new.numerator l.items.items (ahead l.cursor) (ahead c.args.cursor.now) l.invariant.numbers l.invariant.room frugal

pub returns-in_err-check_end-clause-frugal : goal.returns-in_err-check_end-clause-frugal
returns-in_err-check_end-clause-frugal g c =
    let l = c.loop-alloc in
    items_first c.args.numerator.now l.numerator l.numerator l.items.items (ahead l.cursor) (ahead c.args.cursor.now) l.invariant.numbers l.invariant.room (unused (ahead l.cursor) l.numerator l.numerator refl)

pub returns-clause-frugal : goal.returns-clause-frugal
returns-clause-frugal g c =
    let l = c.loop-alloc in
    items_first c.args.numerator.now l.numerator l.numerator l.items.items (ahead l.cursor) (ahead c.args.cursor.now) l.invariant.numbers l.invariant.room (unused (ahead l.cursor) l.numerator l.numerator refl)
