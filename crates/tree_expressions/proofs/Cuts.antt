-- What `strip_prefix` and `strip_suffix` leave is the text without its front or its back.
use Rattle.std.proofs.Common.{◌≡◌, ℕ, true, false, List, [], Option, Some, None, refl, arith}
use Rattle.std.specs.Option.{MatchOption, option_copied, unwrap_or}
use Rattle.std.specs.Str.Pattern.{FindsTextPrefix, FindsTextSuffix, StripsPrefix, StripsSuffix}
use Rattle.std.proofs.lemmas.Str.Pattern.{starts_text, ends_text}
use denote.Ref.{Bor}
use Rattle.tree_expressions.specs.Cutting.{without_front, without_back}

pub stripped_front : (front : List ℕ) (text : Bor (List ℕ)) (r : Option (Bor (List ℕ))) → MatchOption r (FindsTextPrefix front text.now None) (λ x. StripsPrefix (FindsTextPrefix front) text.now x.now)
    → (unwrap_or r text).now ≡ without_front front text.now
stripped_front front text None lacks = let e = starts_text false front text.now lacks in rw (← e) refl
stripped_front front text (Some x) (n, found, is, len) =
    let e = starts_text true front text.now (n, found, rw found.0 found.2) in rw (← e, is, found.0) refl

pub stripped_back : (back : List ℕ) (text : Bor (List ℕ)) (r : Option (Bor (List ℕ))) → MatchOption r (FindsTextSuffix back text.now None) (λ x. StripsSuffix (FindsTextSuffix back) text.now x.now)
    → (unwrap_or r text).now ≡ without_back back text.now
stripped_back back text None lacks = let e = ends_text false back text.now lacks in rw (← e) refl
stripped_back back text (Some x) (n, found, is, len) =
    let e = ends_text true back text.now (n, found, omega arith, rw found.0 found.2) in rw (← e, is, found.0) refl

-- a missing text is the empty one
pub copied_or_nil : (r : Option (Bor (List ℕ))) (other : Bor (List ℕ)) → other.now ≡ [] → (unwrap_or r other).now ≡ unwrap_or (option_copied r) []
copied_or_nil None other e = e
copied_or_nil (Some x) other e = refl
