-- A text with a tilde at its front, and one without.
use Rattle.std.proofs.Common.{◌≡◌, ◌≢◌, ℕ, List, ◌∷◌, arith}
use Rattle.std.proofs.lemmas.Str.Pattern.{strip_prefix_char}
use Rattle.program_system.proofs.Taking.{plainly, behind_folder, without_folder}
use Rattle.program_system.proofs.expansion.expander.EnvironmentExpander.expand.Goals as goal

pub returns-in_default : goal.returns-in_default
returns-in_default c =
    let m = strip_prefix_char 126 c.args.text.now c.strip_prefix.result c.strip_prefix.ensures.cases (omega arith) in
    let no_tilde : (rest : List ℕ) → c.args.text.now ≢ 126 ∷ rest = rw c.in_default.is at m in
    plainly _ _ _ _ c.new.ensures.bytes no_tilde c.read_all.ensures

pub returns-in_ok-from_str-in-Some-value : goal.returns-in_ok-from_str-in-Some-value
returns-in_ok-from_str-in-Some-value c =
    let m = strip_prefix_char 126 c.args.text.now c.strip_prefix.result c.strip_prefix.ensures.cases (omega arith) in
    let tilde : c.args.text.now ≡ 126 ∷ c.in-Some.rest.now = rw c.in-Some.is at m in
    behind_folder _ _ _ _ _ _ tilde c.in-Some-value.ensures c.in_ok-from_str-in-Some-value.ensures.ok c.read_all-in-Some-value.ensures

pub returns-in_ok-from_text-in-None : goal.returns-in_ok-from_text-in-None
returns-in_ok-from_text-in-None c =
    let m = strip_prefix_char 126 c.args.text.now c.strip_prefix.result c.strip_prefix.ensures.cases (omega arith) in
    let tilde : c.args.text.now ≡ 126 ∷ c.in-Some.rest.now = rw c.in-Some.is at m in
    without_folder _ _ _ _ tilde c.in-None.ensures c.in_ok-from_text-in-None.ensures
