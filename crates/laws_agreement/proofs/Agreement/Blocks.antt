-- The calls of a block are those of its dependencies.
use Rattle.std.proofs.Common.{◌≡◌, List, [], ◌∷◌, map, Bool, true, false, refl}
use Rattle.std.specs.List.{AllByRecursion}
use Rattle.tree_items.specs.Recipes.{ArgumentShape}
use Rattle.meaning_dialogues.specs.Dialogue.{Dialogue}
use Rattle.meaning_dialogues.specs.Evaluation.{Value, row}
use Rattle.meaning_dialogues.proofs.Soundness.{Sound, Any, then_sound}
use Rattle.meaning_evaluation.specs.Named.{Call, DependencyRow, Definitions}
use Rattle.meaning_evaluation.specs.Groups.{call_of, rows_of, each, brings, block}
use Rattle.laws_agreement.proofs.Agreement.Given.{Free, free_any}
use Rattle.laws_agreement.proofs.Agreement.Lists.{all_flat, all_map, all_of, all_more}

pub each_gives : {A : Type 0} (Q : A → Type 0) (ds : List (Dialogue A)) → AllByRecursion (λ d. Sound Free Q d) ds → Sound Free (AllByRecursion Q) (each ds)
each_gives Q [] h = tt
each_gives Q (d ∷ ds) h = then_sound Free Q (AllByRecursion Q) d _ h.0 (λ a q. then_sound Free (AllByRecursion Q) (AllByRecursion Q) (each ds) _ (each_gives Q ds h.1) (λ as' r. (q, r)))

module _ (defined : Definitions) (valued : ArgumentShape → Dialogue Value) (Of : Call → Type 0) where
  -- each call of what the dependency names is of the kind
  abbrev pub Names : DependencyRow → Type 0
  Names d = (values : List Value) → Of (call_of defined d.on values)

  brings_gives : (d : DependencyRow) → Names d → Sound Free (AllByRecursion Of) (brings defined valued d)
  brings_gives d h =
      then_sound Free Any (AllByRecursion Of) (row (map valued d.arguments)) _ (free_any (row (map valued d.arguments)))
      (λ values u. all_map Of (call_of defined d.on) (rows_of d.arguments values) (all_of _ h (rows_of d.arguments values)))

  -- the calls of a block are of the kind, where those of what its dependencies name are; dependencies that are left out give none
  pub block_gives : (leaves_out : Bool) (ds : List DependencyRow) → (leaves_out ≡ false → AllByRecursion Names ds) → Sound Free (AllByRecursion Of) (block leaves_out defined valued ds)
  block_gives true ds h = tt
  block_gives false ds h =
      then_sound Free (AllByRecursion (AllByRecursion Of)) (AllByRecursion Of) (each (map (brings defined valued) ds)) _
      (each_gives (AllByRecursion Of) (map (brings defined valued) ds) (all_map _ (brings defined valued) ds (all_more Names _ brings_gives ds (h refl))))
      (λ calls g. all_flat Of calls g)
