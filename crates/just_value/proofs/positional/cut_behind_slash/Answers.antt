use Rattle.std.proofs.Common.{arith, ◌≡◌, ◌+◌, ◌-◌, Some, take, drop, ap, ◌∙◌, sym}
use Rattle.std.proofs.lemmas.Bool.{eq-eqb}
use Rattle.std.proofs.lemmas.List.Folds.{list_any_at}
use Rattle.std.proofs.lemmas.Str.Pattern.{rfind_char}
use Rattle.just_value.specs.Words.{is_slash, slash_end}
use Rattle.just_value.proofs.Cuts.{stands_nowhere, stands_last}
use Rattle.just_value.proofs.positional.cut_behind_slash.Goals as goal

pub returns-in_default : goal.returns-in_default
returns-in_default c = let m = rfind_char 47 c.args.word.now c.rfind.result c.rfind.ensures.cases (omega arith) in stands_nowhere 47 c.args.word.now (rw c.in_default.is at m)

pub returns : goal.returns
returns c =
    let m = rfind_char 47 c.args.word.now (Some c.in-Some.slash) c.in-Some.ensures.cases (omega arith) in
    let cut : slash_end c.args.word.now ≡ c.in-Some.slash + 1 = stands_last c.args.word.now c.in-Some.slash m.0 m.1 m.2 in (
      list_any_at is_slash c.args.word.now c.in-Some.slash 0 m.0 (eq-eqb _ 47 m.1),
      c.range.ensures.value ∙ (let same : c.in-Some.slash + 1 - 0 ≡ slash_end c.args.word.now = omega (arith, cut) in ap (λ k. take k c.args.word.now) same),
      c.range_from.ensures.value ∙ ap (λ k. drop k c.args.word.now) (sym cut),
    )
