-- Each turn reads one character.
use Rattle.std.proofs.Common.{◌≡◌, ◌++◌, sym, ap, ◌∙◌, refl}
use Rattle.std.specs.Prelude.{string_bytes, Ok}
use Rattle.std.specs.Char.{encode_utf8}
use Rattle.std.proofs.lemmas.List.{nil_from_length}
use Rattle.std.proofs.lemmas.Str.{IsUtf8-past_char}
use Rattle.tree_expressions.proofs.Turns.{starts, reads, skips, adds, breaks, breaks_at, refused, ends, ends_inside}
use Rattle.tree_expressions.proofs.escapes.unescape.Goals as goal

pub loop-c-init : goal.loop-c-init
loop-c-init c = (c.utf8.text, rw (c.new-unescaped.ensures.bytes, c.chars-rest.ensures.rest) (starts c.args.text.now c.utf8.text))

pub loop-c-preserved-in-Reads : goal.loop-c-preserved-in-Reads
loop-c-preserved-in-Reads c = (
  c.loop-c.invariant.0,
  reads (string_bytes c.loop-c.unescaped) c.loop-c.escape c.in-Reads.next c.loop-c.begun.now _ _ c.in-Some.c _ c.in-Some.ensures.steps.0
      (IsUtf8-past_char _ _ _ c.loop-c.invariant.1.utf8 c.in-Some.ensures.steps.0) (sym c.in-Reads.ensures.step) c.in-Reads.ensures.place c.loop-c.invariant.1,
)

pub refusal-requires : goal.refusal-requires
refusal-requires c =
    rw c.as_str.ensures (breaks_at (string_bytes c.loop-c.unescaped) c.loop-c.escape c.loop-c.begun.now _ _ c.in-Some.c _ c.in-Some.ensures.steps.0
    (IsUtf8-past_char _ _ _ c.loop-c.invariant.1.utf8 c.in-Some.ensures.steps.0) c.loop-c.invariant.1)

pub returns-in-Breaks : goal.returns-in-Breaks
returns-in-Breaks c =
    refused _ _ c.refusal.result
    (rw c.as_str.ensures (breaks (string_bytes c.loop-c.unescaped) c.loop-c.escape c.loop-c.begun.now _ _ c.in-Some.c _ c.in-Some.ensures.steps.0
    (IsUtf8-past_char _ _ _ c.loop-c.invariant.1.utf8 c.in-Some.ensures.steps.0) (sym c.in-Breaks.ensures.step) c.loop-c.invariant.1))
    c.refusal.ensures

pub loop-c-preserved-in-Skips : goal.loop-c-preserved-in-Skips
loop-c-preserved-in-Skips c = (
  c.as_str-begun.utf8,
  rw c.as_str-begun.ensures (skips (string_bytes c.loop-c.unescaped) c.loop-c.escape c.loop-c.begun.now _ _ c.in-Some.c _ c.in-Some.ensures.steps.0
      (IsUtf8-past_char _ _ _ c.loop-c.invariant.1.utf8 c.in-Some.ensures.steps.0) (sym c.in-Skips.ensures.step) c.loop-c.invariant.1),
)

pub loop-c-preserved : goal.loop-c-preserved
loop-c-preserved c =
    let pushed : string_bytes c.push.new.self ≡ string_bytes c.loop-c.unescaped ++ encode_utf8 c.in-Adds.d = c.push.ensures.bytes ∙ rw (c.is_err.ensures.negation, c.if-is_err.false) refl in (
      c.as_str-begun-in-Adds.utf8,
      rw (c.as_str-begun-in-Adds.ensures, pushed) (adds (string_bytes c.loop-c.unescaped) c.loop-c.escape c.loop-c.begun.now _ _ c.in-Some.c c.in-Adds.d _ c.in-Some.ensures.steps.0
          (IsUtf8-past_char _ _ _ c.loop-c.invariant.1.utf8 c.in-Some.ensures.steps.0) (sym c.in-Adds.ensures.step) c.loop-c.invariant.1),
    )

pub returns-in-Outside : goal.returns-in-Outside
returns-in-Outside c =
    ends (string_bytes c.loop-c.unescaped) c.loop-c.escape c.loop-c.begun.now c.loop-c.rest.rest.now _ (nil_from_length _ c.in_default.ensures.steps.0.0) c.in-Outside.is c.loop-c.invariant.1
    ∙ ap Ok (sym c.from_string.ensures)

pub returns-in_default-escape : goal.returns-in_default-escape
returns-in_default-escape c =
    refused _ _ c.refusal-in_default-escape.result
    (ends_inside (string_bytes c.loop-c.unescaped) c.loop-c.escape c.loop-c.begun.now c.loop-c.rest.rest.now _ (nil_from_length _ c.in_default.ensures.steps.0.0) c.in_default-escape.not-Outside c.loop-c.invariant.1)
    c.refusal-in_default-escape.ensures
