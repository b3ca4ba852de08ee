-- What the parts of items use of numbers, and which tokens they leave.
use Rattle.std.proofs.Common.{◌≡◌, ℕ, zero, suc, ◌+◌, ◌<◌, ◌||◌, Bool, List, [], ◌∷◌, ◌++◌, length, Ok, ap, ◌∙◌, arith, inl, inr, length-append}
use Rattle.std.specs.Str.{bytes_eq}
use Rattle.std.proofs.lemmas.List.{map-append}
use Rattle.just_text.specs.declared.name.Name.{Name}
use Rattle.just_text.specs.Tokens.{word_of}
use Rattle.just_text.specs.declared.token.Token.{Token}
use Rattle.just_text.specs.declared.token_kind.TokenKind.TheVariants.{Identifier}
use Rattle.parse_expressions.proofs.Shorter.{expect_shorter, ended}
use Rattle.parse_expressions.proofs.Taken.{bind_ok, test}
use Rattle.parse_items.specs.Numbered.{parameter_numbers}
use Rattle.parse_items.specs.Keywords.{eager_keyword, export_keyword}
use Rattle.parse_items.specs.Reading.{is_named_value, words_at}

pub words_taken : (export eager : Bool) (n : ℕ) (ts : List Token) (p : (Bool × Bool) × List Token) → words_at word_of export eager n ts ≡ Ok p → length p.1 < suc (length ts)
unfolding words_at
words_taken export eager zero ts p h = absurd cc
words_taken export eager (suc n) ts p h =
    elim (test (is_named_value word_of ts)) [
      | inl e ↦ ended (export, eager) ts p (suc (length ts)) (rw e at h) (omega arith)
      | inr e ↦
          let k = bind_ok _ _ p (rw e at h) in
          let less = expect_shorter word_of Identifier ts k.0 k.1 in
          let others = words_taken (export || bytes_eq (word_of k.0.0).text export_keyword) (eager || bytes_eq (word_of k.0.0).text eager_keyword) n k.0.1 p k.2 in omega (arith, less, others)
    ]

-- one parameter has one number
pub one_parameter : (ps : List (Name × ℕ)) (p : Name × ℕ) → length (parameter_numbers (ps ++ p ∷ [])) ≡ length (parameter_numbers ps) + 1
one_parameter ps p = ap (λ (ns : List ℕ). length ns) (map-append (λ (q : Name × ℕ). q.1) ps (p ∷ [])) ∙ length-append (parameter_numbers ps) (p.1 ∷ [])
