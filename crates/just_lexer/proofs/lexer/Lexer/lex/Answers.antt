-- What the loop keeps, where it stops, and where it refuses.
use Rattle.std.proofs.Common.{◌≡◌, Ok, Err, false, sym, refl, ◌∙◌}
use Rattle.just_lexer.specs.Modes.{innermost, is_over}
use Rattle.just_lexer.specs.Lexing.{token_at}
use Rattle.just_lexer.proofs.Loop.{at_boundary, ends, takes, lexed_next, only_these, none_lexes, refusal_stands}
use Rattle.just_lexer.proofs.lexer.Lexer.lex.Goals as goal
use Rattle.just_lexer.proofs.lexer.Lexer.lex.Goals.{In-Ok, In-Err}

on : (c : In-Ok) → is_over c.loop-lexer.lexer.line ≡ false
on c = sym c.is_over.ensures ∙ c.loop-lexer-test.true

found : (c : In-Ok) → token_at c.loop-lexer.lexer.line (innermost c.loop-lexer.opened.items) c.loop-lexer.lexer.rest.now ≡ Ok (c.in-Ok.found.0, c.in-Ok.found.1)
found c = rw (← c.as_bytes.ensures.value, ← c.as_slice.ensures.value, ← c.innermost-inner.ensures) (sym c.in-Ok.ensures)

going : (c : In-Err) → is_over c.loop-lexer.lexer.line ≡ false
going c = sym c.is_over.ensures ∙ c.loop-lexer-test.true

fault : (c : In-Err) → token_at c.loop-lexer.lexer.line (innermost c.loop-lexer.opened.items) c.loop-lexer.lexer.rest.now ≡ Err c.in-Err.fault
fault c = rw (← c.as_bytes.ensures.value, ← c.as_slice.ensures.value, ← c.innermost-inner.ensures) (sym c.in-Err.ensures)

pub refusal-requires : goal.refusal-requires
refusal-requires c = at_boundary c.loop-lexer.invariant

pub returns-in-Err-clause-only : goal.returns-in-Err-clause-only
returns-in-Err-clause-only c = λ us all. let d = (goal.at.returns-in-Err-clause-only c).In-Err in absurd (none_lexes d.loop-lexer.invariant d.in-Err.fault (going d) (fault d) us all)

pub returns-in-Err-clause-fault : goal.returns-in-Err-clause-fault
returns-in-Err-clause-fault c =
    let d = (goal.at.returns-in-Err-clause-fault c).In-Err in
    refusal_stands d.loop-lexer.invariant d.in-Err.fault (going d) (fault d) c.refusal.result.kind c.refusal.result.token (c.refusal.ensures.kind ∙ c.in_ok-kind-in-Err.ensures) c.refusal.ensures.at c.refusal.ensures.empty c.refusal.ensures.of_path c.refusal.ensures.of_src

pub split_at-requires : goal.split_at-requires
split_at-requires c = let d = (goal.at.split_at-requires c).In-Ok in (takes d.loop-lexer.invariant d.in-Ok.found.0 d.in-Ok.found.1 (on d) (found d)).boundary

pub invariant_of-token : goal.invariant_of-token
invariant_of-token c =
    let d = (goal.at.invariant_of-token c).In-Ok in
    record {
      begins = at_boundary d.loop-lexer.invariant;
      ends = ends d.loop-lexer.invariant d.in-Ok.found.0 d.in-Ok.found.1 (on d) (found d);
    }

pub loop-lexer-smaller : goal.loop-lexer-smaller
loop-lexer-smaller c =
    let d = (goal.at.loop-lexer-smaller c).In-Ok in
    rw (c.after.ensures, c.innermost-inner.ensures, c.as_slice.ensures.value, c.split_at.ensures.front, c.split_at.ensures.back) (takes d.loop-lexer.invariant d.in-Ok.found.0 d.in-Ok.found.1 (on d) (found d)).smaller

pub loop-lexer-preserved : goal.loop-lexer-preserved
loop-lexer-preserved c =
    let d = (goal.at.loop-lexer-preserved c).In-Ok in
    rw (c.in_ok-push.ensures.items, c.after.ensures, c.innermost-inner.ensures, c.as_slice.ensures.value, c.in_ok-step_open.ensures, c.moved.ensures, c.split_at.ensures.front, c.split_at.ensures.back) (lexed_next d.loop-lexer.invariant d.in-Ok.found.0 d.in-Ok.found.1 (on d) (found d) _ refl refl refl refl refl)

pub returns-clause-only : goal.returns-clause-only
returns-clause-only c = λ us all. only_these c.loop-lexer.invariant (sym c.is_over.ensures ∙ c.loop-lexer-test.false) us all
