-- A text without all marks at its front, or at its end.
use Rattle.std.proofs.Common.{ℕ, List, [], ◌∷◌, ◌++◌, ◌≡◌, ◌≢◌, ◌-◌, cond, length, reverse, Some, None, refl, arith, sym, ap, ◌∙◌}
use Rattle.std.proofs.lemmas.List.{reverse-append, reverse-reverse, length-reverse}
use Rattle.std.specs.Str.Pattern.{FindsTextPrefix, FindsTextSuffix, CutsPrefixes, CutsSuffixes, IsFullyTrimmed, IsTrimStartMatches, IsTrimEndMatches}
use Rattle.evaluate_functions.specs.Functions.{without_fronts, without_all_fronts, without_all_backs}
use Rattle.evaluate_functions.proofs.Between.{begins_front, lacks_front}

-- the bytes of a mark that is read already
past_mark : (mark front rest : List ℕ) → without_fronts mark (length front) (front ++ rest) ≡ without_fronts mark 0 rest
past_mark mark [] rest = refl
past_mark mark (b ∷ front) rest = past_mark mark front rest

front_cut : (mark rest : List ℕ) → without_all_fronts mark (mark ++ rest) ≡ without_all_fronts mark rest
front_cut [] rest = refl
front_cut (b ∷ bs) rest =
    let one : length (b ∷ bs) - 1 ≡ length bs = omega arith in
    ap (λ t. cond t (without_fronts (b ∷ bs) (length (b ∷ bs) - 1) (bs ++ rest)) ((b ∷ bs) ++ rest)) (begins_front (b ∷ bs) rest)
    ∙ ap (λ n. without_fronts (b ∷ bs) n (bs ++ rest)) one ∙ past_mark (b ∷ bs) bs rest

no_front : (mark text : List ℕ) → ((rest : List ℕ) → text ≢ mark ++ rest) → without_all_fronts mark text ≡ text
no_front [] text lacks = refl
no_front (b ∷ bs) [] lacks = refl
no_front (b ∷ bs) (c ∷ text) lacks = ap (λ t. cond t (without_fronts (b ∷ bs) (length (b ∷ bs) - 1) text) (c ∷ text)) (lacks_front (b ∷ bs) (c ∷ text) lacks)

no_mark : (mark text : List ℕ) → length mark ≡ 0 → without_all_fronts mark text ≡ text
no_mark [] text e = refl
no_mark (b ∷ bs) text e = absurd (omega (arith, e))

cut_fronts : (mark text rest ns : List ℕ) → CutsPrefixes (FindsTextPrefix mark) text ns rest → without_all_fronts mark text ≡ without_all_fronts mark rest
cut_fronts mark text rest [] same = ap (without_all_fronts mark) (sym same)
cut_fronts mark text rest (n ∷ ns) (more, cuts, found, is) =
    cut_fronts mark text more ns cuts ∙ ap (without_all_fronts mark) (found.1 ∙ ap (λ l. mark ++ l) (sym is)) ∙ front_cut mark rest

trimmed_front : (mark rest : List ℕ) → IsFullyTrimmed (FindsTextPrefix mark) rest → without_all_fronts mark rest ≡ rest
trimmed_front mark rest (None, lacks, none) = no_front mark rest lacks
trimmed_front mark rest (Some n, found, none) = no_mark mark rest (sym found.0 ∙ none)

pub all_fronts : (mark text rest : List ℕ) → IsTrimStartMatches (FindsTextPrefix mark) text rest → rest ≡ without_all_fronts mark text
all_fronts mark text rest ((ns, cuts), trimmed) = sym (cut_fronts mark text rest ns cuts ∙ trimmed_front mark rest trimmed)

cut_backs : (mark text rest ns : List ℕ) → CutsSuffixes (FindsTextSuffix mark) text ns rest → without_all_fronts (reverse mark) (reverse text) ≡ without_all_fronts (reverse mark) (reverse rest)
cut_backs mark text rest [] same = ap (λ l. without_all_fronts (reverse mark) (reverse l)) (sym same)
cut_backs mark text rest (n ∷ ns) (more, cuts, found, is) =
    cut_backs mark text more ns cuts
    ∙ ap (without_all_fronts (reverse mark)) (ap reverse (found.1 ∙ ap (λ l. l ++ mark) (sym is)) ∙ reverse-append rest mark) ∙ front_cut (reverse mark) (reverse rest)

trimmed_back : (mark rest : List ℕ) → IsFullyTrimmed (FindsTextSuffix mark) rest → without_all_fronts (reverse mark) (reverse rest) ≡ reverse rest
trimmed_back mark rest (None, lacks, none) =
    no_front (reverse mark) (reverse rest)
    (λ more e. lacks (reverse more) (sym (reverse-reverse rest) ∙ ap reverse e ∙ reverse-append (reverse mark) more ∙ ap (λ l. reverse more ++ l) (reverse-reverse mark)))
trimmed_back mark rest (Some n, found, none) = no_mark (reverse mark) (reverse rest) (length-reverse mark ∙ sym found.0 ∙ none)

pub all_backs : (mark text rest : List ℕ) → IsTrimEndMatches (FindsTextSuffix mark) text rest → rest ≡ without_all_backs mark text
all_backs mark text rest ((ns, cuts), trimmed) = sym (ap reverse (cut_backs mark text rest ns cuts ∙ trimmed_back mark rest trimmed) ∙ reverse-reverse rest)
