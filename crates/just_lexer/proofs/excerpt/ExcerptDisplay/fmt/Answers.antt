-- The four lines are written one after the other.
use Rattle.std.proofs.Common.{◌≡◌, ℕ, List, [], ◌∷◌, ◌++◌, ap, ◌∙◌, append_assoc}
use Rattle.std.proofs.Output.{has_written_of_eq}
use Rattle.just_lexer.specs.Excerpts.{margin, place_line, source_line, mark_line}
use Rattle.just_lexer.proofs.excerpt.ExcerptDisplay.fmt.Goals as goal

-- the same lines, grouped otherwise
four_lines : (a b c d : List ℕ) → a ++ (10 ∷ (b ++ (32 ∷ 124 ∷ 10 ∷ (c ++ (10 ∷ d))))) ≡ a ++ (10 ∷ []) ++ b ++ (32 ∷ 124 ∷ 10 ∷ []) ++ c ++ (10 ∷ []) ++ d
four_lines a b c d = simp append_assoc

pub returns-clause-writes : goal.returns-clause-writes
returns-clause-writes g c =
    λ p ok.
    let t = c.args.self.now.0.now in
    has_written_of_eq _ _ _ _ _ (ap (λ m. place_line t ++ (10 ∷ (m ++ (32 ∷ 124 ∷ 10 ∷ (source_line t ++ (10 ∷ mark_line t)))))) c.margin-margin.ensures
    ∙ four_lines (place_line t) (margin t) (source_line t) (mark_line t))
    (c.write.ensures.writes p ok)
