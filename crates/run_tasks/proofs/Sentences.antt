-- The sentences on a command that failed, as they are written.
use Rattle.std.proofs.Common.{◌≡◌, ℕ, List, ◌++◌, codes, sym, ap, ◌∙◌, append_assoc}
use Rattle.std.specs.Fmt.{decimal}
use Rattle.just_host.specs.Failures.{status_text}
use Rattle.just_host.specs.declared.host.Status.TheVariants.{Code, NotStarted}

-- a name between backticks, and a text after it
apart : (name rest : List ℕ) → codes "recipe `" ++ (name ++ (codes "`" ++ rest)) ≡ codes "recipe `" ++ ((name ++ codes "`") ++ rest)
apart name rest = ap (λ text. codes "recipe `" ++ text) (sym (append_assoc name (codes "`") rest))

pub code_text : (name : List ℕ) (code : ℕ) → codes "recipe `" ++ (name ++ (codes "` failed with exit code " ++ decimal code)) ≡ status_text name (Code code)
code_text name code =
    let why = codes " failed with exit code " in
    apart name (why ++ decimal code) ∙ ap (λ text. codes "recipe `" ++ text) (sym (append_assoc (name ++ codes "`") why (decimal code)))

pub not_started_text : (name : List ℕ) → codes "recipe `" ++ (name ++ codes "` could not start its command") ≡ status_text name NotStarted
not_started_text name = apart name (codes " could not start its command")
