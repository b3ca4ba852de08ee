-- What reached recipes read means what is read, where what was opened is what variables mean.
use Rattle.std.proofs.Common.{◌≡◌, ℕ, zero, suc, List, [], ◌∷◌, Option, Some, None, Ok, refl, ap, ◌∙◌}
use Rattle.just_value.specs.Constants.{constant_rows}
use Rattle.meaning_dialogues.specs.Dialogue.{Lookup, around}
use Rattle.meaning_dialogues.specs.Evaluation.{Value}
use Rattle.meaning_dialogues.specs.Meaning.{meaning}
use Rattle.meaning_dialogues.proofs.Unfolding.{IsMeant}
use Rattle.std.specs.Option.{option_map}
use Rattle.std.specs.Prelude.{option_and_then}
use Rattle.meaning_runs.specs.Told.{Answers, of_variables}
use Rattle.meaning_evaluation.specs.Named.{RecipeName, VariableName, ModuleRow, Definitions}
use Rattle.meaning_evaluation.specs.Scopes.{Configuration}
use Rattle.just_meaning.specs.Opening.{IsReached, IsOpened, not_lazy, eager, exported, by_recipe, by_variable, Opened, named, text_named, held, read_by, reading_in, side_by, side_of, side_dialogue, scene_in, exported_names}
use Rattle.just_meaning.specs.Reading.{RecipeReads}
use Rattle.just_meaning.specs.Runs.{values_at}
use Rattle.just_meaning.specs.Meanings.{in_module, pairs_asked, variables_at}
use Rattle.laws_agreement.specs.Agreement.Readable.{AreReadable}
use Rattle.laws_agreement.specs.Agreement.Opened.{StandsFor, a_variable, a_constant, AreResolved, HoldsMeaning, AreOpened}

module _ (c : Configuration) (defined : Definitions) (f : Answers) (opened : List Opened) (invoked : List RecipeName) where
  abbrev Of : RecipeName → Type 0
  Of = IsReached defined c.no_dependencies invoked

  -- a name of a module: a variable that opens, or a constant in a module that is there
  pub data IsReadName (path : List (List ℕ)) (name : List ℕ) : Type 0 where
    opens : IsOpened defined c.no_dependencies invoked (named path name) → IsReadName path name
    stands_for : {row : ModuleRow} {text : List ℕ} → defined.inside path ≡ Some row → defined.variable (named path name) ≡ None → defined.override (named path name) ≡ None → text_named name constant_rows ≡ Some text → IsReadName path name

  -- What reached recipes read are such names.
  pub resolved_readable : AreResolved defined Of → AreReadable defined Of IsReadName
  resolved_readable resolved = record {
    reads = λ r name those reads. by_name r name those reads (resolved.modules r those) (resolved.names r name those reads);
    fits = resolved.fits;
  }
    where
      by_name : (r : RecipeName) (name : List ℕ) → Of r → RecipeReads defined r name → (row : ModuleRow) × (defined.inside r.path ≡ Some row) → StandsFor defined r.path name → IsReadName r.path name
      by_name r name those reads module_row (a_variable there) = opens (by_recipe there those refl reads)
      by_name r name those reads module_row (a_constant absent free text) = stands_for module_row.1 absent free text

  -- each variable that opens is defined
  opened_defined : (x : VariableName) → IsOpened defined c.no_dependencies invoked x → defined.variable x ≡ None → ⊥
  opened_defined x (not_lazy there h) e = cc
  opened_defined x (eager there h) e = cc
  opened_defined x (exported there h) e = cc
  opened_defined x (by_recipe there h i j) e = cc
  opened_defined x (by_variable there h i j k) e = cc

  -- a variable means the same wherever it is read, and whatever its number
  same_meaning : (n : ℕ) (path : List (List ℕ)) (place : Lookup) (name : List ℕ) (number : Option ℕ) → variables_at c defined f n path place (record { name = name; number = number }) ≡ variables_at c defined f n path around (record { name = name; number = None })
  same_meaning zero path place name number = refl
  same_meaning (suc n) path place name number = refl

  module _ (n : ℕ) (are : AreOpened c defined f n opened invoked) where
    from_held : (path : List (List ℕ)) (name : List ℕ) (number : Option ℕ) (place : Lookup) → HoldsMeaning c defined f n opened (named path name) → IsMeant (reading_in (values_at path opened)) (variables_at c defined f n path) place (record { name = name; number = number })
    from_held path name number place h = record {
      value = h.value;
      read = ap (λ o. read_by o (text_named name constant_rows) name) h.holds;
      means = same_meaning n path place name number ∙ h.means;
    }

    unheld : (path : List (List ℕ)) (name : List ℕ) (o : Option Value) → held name (values_at path opened) ≡ o → defined.variable (named path name) ≡ None → o ≡ None
    unheld path name None e absent = refl
    unheld path name (Some value) e absent = absurd (opened_defined (named path name) (are.only (named path name) value e) absent)

    constant_means : (k : ℕ) (path : List (List ℕ)) (name text : List ℕ) (row : ModuleRow) → defined.inside path ≡ Some row → defined.variable (named path name) ≡ None → defined.override (named path name) ≡ None → text_named name constant_rows ≡ Some text
        → variables_at c defined f (suc k) path around (record { name = name; number = None }) ≡ Some (Ok (text ∷ []))
    constant_means k path name text row inside absent free is =
        ap (λ o. option_and_then (λ side. meaning (of_variables f (exported_names defined path)) (variables_at c defined f k path) side)
        (in_module c defined f None o (λ r. option_map (side_dialogue c (scene_in c defined path r (pairs_asked c defined f r.request) [])) (side_of c defined path (record { name = name; number = None }))))) inside
        ∙ ap (λ o. option_and_then (λ side. meaning (of_variables f (exported_names defined path)) (variables_at c defined f k path) side)
        (option_map (side_dialogue c (scene_in c defined path row (pairs_asked c defined f row.request) [])) (side_by c defined path o.0 o.1 o.2))) (triple free absent is)
      where
        triple : {A B C : Type 0} {a a' : A} {b b' : B} {d d' : C} → a ≡ a' → b ≡ b' → d ≡ d' → (let p : A × B × C = (a, b, d) in p) ≡ (a', b', d')
        triple e g h = λ i. (e i, g i, h i)

    from_constant : (k : ℕ) → n ≡ suc k → (path : List (List ℕ)) (name text : List ℕ) (number : Option ℕ) (place : Lookup) (row : ModuleRow) → defined.inside path ≡ Some row → defined.variable (named path name) ≡ None → defined.override (named path name) ≡ None → text_named name constant_rows ≡ Some text
        → IsMeant (reading_in (values_at path opened)) (variables_at c defined f n path) place (record { name = name; number = number })
    from_constant k deep path name text number place row inside absent free is = record {
      value = text ∷ [];
      read = ap (λ o. read_by o (text_named name constant_rows) name) (unheld path name (held name (values_at path opened)) refl absent) ∙ ap (λ o. read_by None o name) is;
      means = same_meaning n path place name number ∙ (ap (λ d. variables_at c defined f d path around (record { name = name; number = None })) deep ∙ constant_means k path name text row inside absent free is);
    }

    -- Such a name means what is read of it, from depth 1 on.
    pub names_meant : (k : ℕ) → n ≡ suc k → (path : List (List ℕ)) (name : List ℕ) (number : Option ℕ) → IsReadName path name → (place : Lookup) → IsMeant (reading_in (values_at path opened)) (variables_at c defined f n path) place (record { name = name; number = number })
    names_meant k deep path name number (opens h) place = from_held path name number place (are.means (named path name) h)
    names_meant k deep path name number (stands_for inside absent free is) place = from_constant k deep path name _ number place _ inside absent free is
