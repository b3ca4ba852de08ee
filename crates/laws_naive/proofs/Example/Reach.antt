-- A second input, with a recipe that no one reaches: it agrees on reach, and the run is one by it too.
use Rattle.std.proofs.Common.{◌≡◌, ◌∙◌, ◌++◌, ap, subst, sym, cond, Bool, true, false, List, [], ◌∷◌, map, Option, Some, None, refl}
use Rattle.std.specs.Prelude.{Contains, codes}
use Rattle.std.proofs.Common.{inl, inr}
use Rattle.std.specs.Str.{bytes_eq}
use Rattle.std.proofs.lemmas.Option.{same_Some, none-some}
use Rattle.std.proofs.lemmas.Slice.Eq.{bytes_eq-Decides}
use Rattle.tree_attributes.specs.Sets.Order.{sorted}
use Rattle.meaning_rules.specs.Worlds.Given.{Text}
use Rattle.meaning_rules.proofs.Worlds.Places.{contains_cases, contains_first, contains_none}
use Rattle.meaning_evaluation.specs.Named.{RecipeName, RecipeRow, VariableName, VariableRow}
use Rattle.just_meaning.specs.Opening.{IsOpened, IsReached, by_words, by_recipe, not_lazy, named}
use Rattle.just_meaning.specs.Reach.{AgreeOnReach, SameVariable, neither, both}
use Rattle.just_meaning.specs.Agreement.{AgreesRun}
use Rattle.laws_agreement.specs.Agreement.Opened.{AreListed}
use Rattle.just_meaning.specs.Determined.{nothing}
use Rattle.laws_agreement.proofs.Determined.Openings.{run_variables}
use Rattle.laws_naive.specs.Reach.Alike.{IsRunToo}
use Rattle.laws_naive.proofs.Reach.Runs.{runs_move}
use Rattle.laws_naive.specs.Example.Justfile.{a, call, configuration, defined, of_root, other, row, variable}
use Rattle.laws_naive.proofs.Example.Runs.{a_run, ends, record_of}
use Rattle.laws_naive.proofs.Example.Naive.{all_ran}

reaches_a : (r : RecipeName) → IsReached defined false (a ∷ []) r → r ≡ a
unfolding sorted
reaches_a r (by_words c) = elim (contains_cases a [] r c) [ inl e ↦ sym e | inr n ↦ absurd (contains_none [] r refl n) ]
reaches_a r (by_recipe {r = s} {row = given} deep reached there c) =
    let e = reaches_a s reached in
    let same : row ≡ given = same_Some _ _ (sym (ap (λ (q : RecipeName). defined.recipe q) e) ∙ there) in
    absurd (contains_none (map (λ dependency. dependency.on) (given.priors ++ given.subsequents)) r (sym (ap (λ (q : RecipeRow). map (λ dependency. dependency.on) (q.priors ++ q.subsequents)) same)) c)

variable_is : (path : List Text) (name : Text) (b : Bool) → bytes_eq name (codes "v") ≡ b → (given : VariableRow) → of_root path (cond b (Some variable) None) ≡ Some given → named path name ≡ named [] (codes "v")
variable_is [] name true e given h = ap (named []) ((bytes_eq-Decides name (codes "v")).0 e)
variable_is [] name false e given h = absurd (none-some _ h)
variable_is (p ∷ ps) name b e given h = absurd (none-some _ h)

opens_v : (x : VariableName) → IsOpened defined false (a ∷ []) x → x ≡ named [] (codes "v")
opens_v x o = let s = (run_variables defined false (a ∷ [])).stands x o in variable_is x.path x.name _ refl s.0 s.1

opens_v_too : (x : VariableName) → IsOpened other false (a ∷ []) x → x ≡ named [] (codes "v")
opens_v_too x o = let s = (run_variables other false (a ∷ [])).stands x o in variable_is x.path x.name _ refl s.0 s.1

same : (o : Option VariableRow) → SameVariable o o
same None = neither
same (Some given) = both refl refl refl

pub agree : AgreeOnReach false (a ∷ []) defined other
agree = record {
  modules = refl;
  inside = λ path. refl;
  recipes = λ r reached. let e = reaches_a r reached in ap (λ (q : RecipeName). defined.recipe q) e ∙ sym (ap (λ (q : RecipeName). other.recipe q) e);
  opened = λ x. (λ o. subst (IsOpened other false (a ∷ [])) (sym (opens_v x o)) (not_lazy {row = variable} refl refl), λ o. subst (IsOpened defined false (a ∷ [])) (sym (opens_v_too x o)) (not_lazy {row = variable} refl refl));
  variables = λ x o. (same (defined.variable x), refl);
  names = λ path e hidden name play reads. (same (defined.variable (named path name)), refl);
  functions = λ path e inner hidden others name count play reaches c. refl;
}

is_listed : (path : List Text) (name : Text) (b : Bool) → bytes_eq name (codes "v") ≡ b → (given : VariableRow) → of_root path (cond b (Some variable) None) ≡ Some given → Contains (defined.names path) name
is_listed [] name true e given h = subst (Contains (codes "v" ∷ [])) (sym ((bytes_eq-Decides name (codes "v")).0 e)) (contains_first _ [])
is_listed [] name false e given h = absurd (none-some _ h)
is_listed (p ∷ ps) name b e given h = absurd (none-some _ h)

listed : AreListed defined
listed = record { lists = λ x given there. is_listed x.path x.name _ refl given there }

listed_too : AreListed other
listed_too = record { lists = λ x given there. is_listed x.path x.name _ refl given there }

-- the run is one by the other input, and agrees with the same answers there
pub moved : IsRunToo configuration other (call ∷ []) [] (record_of ends.0) nothing (record { calls = 1; entered = 1 }) all_ran (λ f. AgreesRun f configuration defined a_run)
moved = runs_move ⊥ configuration defined other (call ∷ []) agree listed listed_too [] (record_of ends.0) nothing (record { calls = 1; entered = 1 }) all_ran a_run
