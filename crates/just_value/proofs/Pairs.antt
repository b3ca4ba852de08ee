-- Of two lists of one length each text goes with the one at its place.
use Rattle.std.proofs.Common.{◌≡◌, ◌<◌, ℕ, zero, suc, cond, List, [], ◌∷◌, ◌++◌, length, get_or, Some, None, refl, sym, ap, subst, ◌∙◌, arith, eq-eqb, append-nil}
use Rattle.just_value.specs.Values.{pairwise, applied, JoinedAlone, GoPairwise}

-- both lists are of one length, and each text is the two at its place
abbrev ArePairs : List ℕ → List (List ℕ) → List (List ℕ) → List (List ℕ) → Type 0
ArePairs separator texts others both = (length both ≡ length texts) × ((i : ℕ) → i < length texts → get_or both i [] ≡ get_or texts i [] ++ (separator ++ get_or others i []))

pairs_more : (separator text other : List ℕ) (texts others both : List (List ℕ)) → ArePairs separator texts others both → ArePairs separator (text ∷ texts) (other ∷ others) ((text ++ (separator ++ other)) ∷ both)
pairs_more separator text other texts others both h = (
  omega (arith, h.0),
  λ i. elim i as (λ n. n < length (text ∷ texts) → get_or ((text ++ (separator ++ other)) ∷ both) n [] ≡ get_or (text ∷ texts) n [] ++ (separator ++ get_or (other ∷ others) n [])) [
    | zero ↦ λ l. refl
    | suc n ↦ λ l. h.1 n (omega (arith, l))
  ],
)

pairwise_are : (separator : List ℕ) (texts others : List (List ℕ)) → length texts ≡ length others → ArePairs separator texts others (pairwise separator texts others)
pairwise_are separator [] [] e = (refl, λ i l. absurd (omega (arith, l)))
pairwise_are separator [] (other ∷ others) e = absurd (omega (arith, e))
pairwise_are separator (text ∷ texts) [] e = absurd (omega (arith, e))
pairwise_are separator (text ∷ texts) (other ∷ others) e = pairs_more separator text other texts others (pairwise separator texts others) (pairwise_are separator texts others (omega (arith, e)))

-- lists of one length are applied pairwise
applied_pairwise : (separator : List ℕ) (texts others : List (List ℕ)) → length texts ≡ length others → applied separator texts others ≡ Some (pairwise separator texts others)
applied_pairwise separator [] [] e = refl
applied_pairwise separator [] (other ∷ others) e = absurd (omega (arith, e))
applied_pairwise separator (text ∷ texts) [] e = absurd (omega (arith, e))
applied_pairwise separator (text ∷ []) (other ∷ []) e = refl
applied_pairwise separator (text ∷ []) (other ∷ another ∷ others) e = absurd (omega (arith, e))
applied_pairwise separator (text ∷ more ∷ texts) (other ∷ []) e = absurd (omega (arith, e))
applied_pairwise separator (text ∷ more ∷ texts) (other ∷ another ∷ others) e =
    ap (λ b. cond b (Some (pairwise separator (text ∷ more ∷ texts) (other ∷ another ∷ others))) None) (eq-eqb (length (text ∷ more ∷ texts)) (length (other ∷ another ∷ others)) e)

pub go_pairwise : GoPairwise
go_pairwise separator texts others both e is =
    let same : Some (pairwise separator texts others) ≡ Some both = sym (applied_pairwise separator texts others e) ∙ is in
    let same_both : pairwise separator texts others ≡ both = cc in
    subst (ArePairs separator texts others) same_both (pairwise_are separator texts others e)

pub joined_alone : JoinedAlone
joined_alone text = append-nil text
