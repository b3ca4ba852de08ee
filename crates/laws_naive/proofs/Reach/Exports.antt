-- Inputs that agree on reach export the same names.
use Rattle.std.proofs.Common.{◌≡◌, ℕ, List, [], ◌∷◌, ◌++◌, Bool, true, false, not, ◌&&◌, ◌||◌, cond, filter, Option, Some, None, refl, sym, ap, ap₂, ◌∙◌, subst}
use Rattle.std.proofs.Math.Path.{fun_ext}
use Rattle.std.specs.List.{AllByRecursion, list_any}
use Rattle.std.specs.Str.{bytes_eq}
use Rattle.std.proofs.lemmas.Slice.Eq.{bytes_eq-Decides}
use Rattle.just_host.specs.declared.entry.Entry.{Entry}
use Rattle.just_host.specs.declared.host.Question.{Question}
use Rattle.just_host.specs.declared.host.Question.TheVariants.{Command, Environment, Read, Exists, Canonicalize, Which, Fact}
use Rattle.just_host.specs.declared.job.Pair.{Pair}
use Rattle.meaning_runs.specs.Told.{Answers, left_out, taken, holds}
use Rattle.meaning_evaluation.specs.Named.{RecipeName, VariableName, VariableRow, Definitions}
use Rattle.meaning_evaluation.specs.Scopes.{exported_pair}
use Rattle.just_meaning.specs.Agreement.{AgreesFrom}
use Rattle.just_meaning.specs.Opening.{Held, IsOpened, exported, named, module_says, variable_says, is_exported, exported_from, exported_names, pairs_of}
use Rattle.just_meaning.specs.Reach.{SameVariable, neither, both, AgreeOnReach}
use Rattle.laws_agreement.specs.Agreement.Opened.{AreListed}
use Rattle.laws_agreement.proofs.Agreement.Lists.{all_more, of_contained}

-- what is exported is a variable, and opens
module _ (defined : Definitions) (no_dependencies : Bool) (invoked : List RecipeName) (x : VariableName) where
  pub record IsThere : Type 0 where
    pub row : VariableRow
    pub there : defined.variable x ≡ Some row

  pub exported_there : is_exported defined x ≡ true → IsThere
  exported_there e = by_row (defined.variable x) refl e
    where
      by_row : (o : Option VariableRow) → defined.variable x ≡ o → variable_says o (λ row. row.export || module_says (defined.inside x.path) (λ m. m.export)) ≡ true → IsThere
      by_row None is f = absurd (cc)
      by_row (Some row) is f = record { row = row; there = is }

  pub exported_opens : is_exported defined x ≡ true → IsOpened defined no_dependencies invoked x
  exported_opens e = exported (exported_there e).there e

-- ---- names among the exported

-- each is among them
among_all : (xs : List (List ℕ)) → AllByRecursion (λ x. list_any (λ y. bytes_eq y x) xs ≡ true) xs
among_all [] = tt
among_all (x ∷ xs) = (ap (λ b. b || list_any (λ y. bytes_eq y x) xs) ((bytes_eq-Decides x x).1 refl), all_more (λ z. list_any (λ y. bytes_eq y z) xs ≡ true) _ (λ z e. ap (λ b. bytes_eq x z || b) e ∙ or_true (bytes_eq x z)) xs (among_all xs))
  where
    or_true : (b : Bool) → b || true ≡ true
    or_true true = refl
    or_true false = refl

and_true : (b : Bool) → b && true ≡ b
and_true true = refl
and_true false = refl

module _ (defined : Definitions) (path : List (List ℕ)) (name : List ℕ) where
  any_from : (names : List (List ℕ)) → list_any (λ n. bytes_eq n name) (exported_from defined path names) ≡ (is_exported defined (named path name) && list_any (λ n. bytes_eq n name) names)
  any_from [] = none (is_exported defined (named path name))
    where
      none : (b : Bool) → false ≡ b && false
      none true = refl
      none false = refl
  any_from (n ∷ names) = by_test (bytes_eq n name) (is_exported defined (named path n)) refl refl (any_from names)
    where
      by_test : (b e : Bool) → bytes_eq n name ≡ b → is_exported defined (named path n) ≡ e → list_any (λ m. bytes_eq m name) (exported_from defined path names) ≡ (is_exported defined (named path name) && list_any (λ m. bytes_eq m name) names)
          → list_any (λ m. bytes_eq m name) (cond (is_exported defined (named path n)) (n ∷ exported_from defined path names) (exported_from defined path names)) ≡ (is_exported defined (named path name) && (bytes_eq n name || list_any (λ m. bytes_eq m name) names))
      by_test true true t e rest =
          let same : is_exported defined (named path name) ≡ true = ap (λ m. is_exported defined (named path m)) (sym ((bytes_eq-Decides n name).0 t)) ∙ e in
          rw (e, t, same) refl
      by_test true false t e rest =
          let same : is_exported defined (named path name) ≡ false = ap (λ m. is_exported defined (named path m)) (sym ((bytes_eq-Decides n name).0 t)) ∙ e in
          rw (e, t, same) (rest ∙ ap (λ b. b && list_any (λ m. bytes_eq m name) names) same)
      by_test false true t e rest = rw (e, t) rest
      by_test false false t e rest = rw (e, t) rest

  -- a name is among the exported exactly where its variable is exported
  any_exported : AreListed defined → list_any (λ n. bytes_eq n name) (exported_names defined path) ≡ is_exported defined (named path name)
  any_exported listed = any_from (defined.names path) ∙ by_export (is_exported defined (named path name)) refl
    where
      by_export : (b : Bool) → is_exported defined (named path name) ≡ b → b && list_any (λ n. bytes_eq n name) (defined.names path) ≡ b
      by_export true e =
          let v = exported_there defined true [] (named path name) e in
          of_contained (λ m. list_any (λ n. bytes_eq n m) (defined.names path) ≡ true) (defined.names path) name (among_all (defined.names path)) (listed.lists (named path name) v.row v.there)
      by_export false e = refl

module _ (no_dependencies : Bool) (invoked : List RecipeName) (a b : Definitions) (h : AgreeOnReach no_dependencies invoked a b) where
  same_export : (x : VariableName) → IsOpened a no_dependencies invoked x → is_exported a x ≡ is_exported b x
  same_export x u = says (h.variables x u).0 ∙ ap (λ m. variable_says (b.variable x) (λ row. row.export || module_says m (λ i. i.export))) (h.inside x.path)
    where
      says : {o p : Option VariableRow} → SameVariable o p → variable_says o (λ row. row.export || module_says (a.inside x.path) (λ i. i.export)) ≡ variable_says p (λ row. row.export || module_says (a.inside x.path) (λ i. i.export))
      says neither = refl
      says (both file value export) = ap (λ e. e || module_says (a.inside x.path) (λ i. i.export)) export

  -- The same variables are exported.
  pub exports_alike : (x : VariableName) → is_exported a x ≡ is_exported b x
  exports_alike x = by_both (is_exported a x) (is_exported b x) refl refl
    where
      by_both : (p q : Bool) → is_exported a x ≡ p → is_exported b x ≡ q → is_exported a x ≡ is_exported b x
      by_both true q e f = same_export x (exported_opens a no_dependencies invoked x e)
      by_both false true e f = same_export x ((h.opened x).1 (exported_opens b no_dependencies invoked x f))
      by_both false false e f = e ∙ sym f

  pub pairs_alike : (path : List (List ℕ)) (values : List Held) → pairs_of a path values ≡ pairs_of b path values
  pairs_alike path [] = refl
  pairs_alike path (v ∷ vs) = ap₂ (λ e rest. exported_pair e v.name v.value ++ rest) (exports_alike (named path v.name)) (pairs_alike path vs)

  module _ (listed : AreListed a) (listed' : AreListed b) (path : List (List ℕ)) where
    among_alike : (name : List ℕ) → list_any (λ n. bytes_eq n name) (exported_names a path) ≡ list_any (λ n. bytes_eq n name) (exported_names b path)
    among_alike name = any_exported a path name listed ∙ (exports_alike (named path name) ∙ sym (any_exported b path name listed'))

    left_alike : (pairs : List Pair) → left_out (exported_names a path) pairs ≡ left_out (exported_names b path) pairs
    left_alike pairs = ap (λ p. filter p pairs) (fun_ext (λ pair. ap not (among_alike pair.name)))

    taken_alike : (q : Question) → taken (exported_names a path) q ≡ taken (exported_names b path) q
    taken_alike (Command job) = ap (λ pairs. Command (record job { pairs = pairs })) (left_alike job.pairs)
    taken_alike (Environment key) = refl
    taken_alike (Read at) = refl
    taken_alike (Exists at) = refl
    taken_alike (Canonicalize at) = refl
    taken_alike (Which name folder) = refl
    taken_alike (Fact fact) = refl

    -- What agrees with the answers of a module's variables by the one does by the other.
    pub from_alike : (f : Answers) (old new : List Entry) → AgreesFrom f (exported_names a path) old new → AgreesFrom f (exported_names b path) old new
    from_alike f old new k = record { piece = k.piece; entries = k.entries; agrees = subst (λ answer. AllByRecursion (holds f answer) k.piece) (fun_ext (λ q. ap f.variable (taken_alike q))) k.agrees }
