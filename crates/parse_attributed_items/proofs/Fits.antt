-- The rules of attributes, one after the other.
use Rattle.std.proofs.Common.{◌≡◌, ℕ, true, false, List, [], ◌∷◌, map, Option, Some, None, Result, Ok, Err, refl, ap, ◌∙◌}
use Rattle.std.specs.Prelude.{IfOk, if◌then◌else◌}
use Rattle.std.specs.List.{list_all}
use Rattle.std.specs.Option.{option_map}
use Rattle.just_text.specs.Tokens.{word_of}
use Rattle.just_text.specs.declared.compile_error.CompileErrorKind.{CompileErrorKind}
use Rattle.just_text.specs.declared.compile_error.CompileErrorKind.TheVariants as kinds
use Rattle.just_text.specs.declared.token.Token.{Token}
use Rattle.tree_attributes.specs.declared.item_kind.ItemKind.{ItemKind}
use Rattle.tree_attributes.specs.Attributes.{AttributeShape}
use Rattle.tree_items.specs.Files.{ItemShape, item_shape, kind_of}
use Rattle.tree_items.specs.FileIndentation.{or_next}
use Rattle.parse_expressions.specs.declared.fault.Fault.{Fault}
use Rattle.parse_expressions.specs.declared.fault.Fault.TheVariants as faults
use Rattle.parse_expressions.specs.Literals.{Expansion}
use Rattle.parse_attributes.specs.Seen.{read_shapes}
use Rattle.parse_attributed_items.specs.Options.{GivesOrRefuses}
use Rattle.parse_attributed_items.specs.Rules.{arg_keyword}
use Rattle.parse_attributed_items.specs.declared.bare.ItemRead.{ItemRead}
use Rattle.parse_attributed_items.specs.declared.item.PartsRead.{PartsRead}
use Rattle.parse_attributed_items.specs.Fitting.{argument_fault, duplicate, fault_before, fault_in, invalid, is_one, known, misfit, name_of, repeated}
use Rattle.parse_attributed_items.specs.Halting.{GivesOrHalts}
use Rattle.parse_attributed_items.specs.Reading.{attributed_at, joined, parts_at}
use Rattle.parse_attributed_items.specs.Refusals.{head_fault, known_fault}
use Rattle.parse_attributed_items.specs.Seen.{parts_of, read_of}
use Rattle.parse_attributed_items.proofs.Faults.{broken_so}
use Rattle.semver.specs.declared.Version.{Version}

next_again : {B : Type 0} (a b c : Option B) → or_next a (or_next b c) ≡ or_next (or_next a b) c
next_again None b c = refl
next_again (Some x) b c = refl

none_or : {B : Type 0} (b c : Option B) → b ≡ None → or_next b c ≡ c
none_or None c h = refl
none_or (Some x) c h = absurd cc

all_known : (as' : List (Option AttributeShape)) → list_all is_one as' ≡ true → as' ≡ map Some (known as')
all_known [] h = refl
all_known (None ∷ as') h = absurd cc
all_known (Some a ∷ as') h = ap (λ (xs : List (Option AttributeShape)). Some a ∷ xs) (all_known as' h)

-- attributes that no rule of theirs refuses are known
pub head_known : (kind : ItemKind) (name : List ℕ) (as' : List (Option AttributeShape)) → head_fault kind name as' ≡ None → as' ≡ map Some (known as')
head_known kind name as' h =
    elim (list_all is_one as') as (λ b. list_all is_one as' ≡ b → (if b then known_fault kind name (known as') else Some (kinds.InvalidAttribute arg_keyword name)) ≡ None → as' ≡ map Some (known as')) [
      | true ↦ λ all k. all_known as' all
      | false ↦ λ some k. absurd cc
    ] refl h

module _ (expansion : Expansion) (as' : List (Option AttributeShape)) (i : ItemShape) where
  fault_parts : fault_in expansion as' i ≡ or_next (head_fault (kind_of i) (name_of i) as') (argument_fault expansion (known as') i)
  fault_parts =
      elim (list_all is_one as') as (λ b. (if b then fault_before expansion (known as') i else Some (kinds.InvalidAttribute arg_keyword (name_of i)))
      ≡ or_next (if b then known_fault (kind_of i) (name_of i) (known as') else Some (kinds.InvalidAttribute arg_keyword (name_of i))) (argument_fault expansion (known as') i)) [
        | true ↦ next_again (option_map (invalid (name_of i)) (misfit (kind_of i) (known as'))) (option_map duplicate (repeated (known as'))) (argument_fault expansion (known as') i)
        | false ↦ refl
      ]

  -- the attributes' own rules come first
  pub head_refused : (X Y : Type 0) (e : Fault) → (let r : Result X Fault = Err e in GivesOrRefuses r (head_fault (kind_of i) (name_of i) as')) → (let r : Result Y Fault = Err e in GivesOrRefuses r (fault_in expansion as' i))
  head_refused X Y faults.OutOfMemory h = h
  head_refused X Y faults.NumbersUsed h = h
  head_refused X Y (faults.Unexpected found) h = h
  head_refused X Y (faults.Refused token kind) h = fault_parts ∙ ap (λ (o : Option CompileErrorKind). or_next o (argument_fault expansion (known as') i)) h

  -- then those of `arg`s
  pub head_passed : head_fault (kind_of i) (name_of i) as' ≡ None → fault_in expansion as' i ≡ argument_fault expansion (known as') i
  head_passed h = fault_parts ∙ none_or _ _ h

-- an item fits or is refused as reading has it
pub fitted_so : (used : Type 0) (expansion : Expansion) (current : Version) (ts : List Token) (p : PartsRead) (rest : List Token) (r : Result ItemRead Fault)
    → parts_at word_of expansion current ts ≡ Ok (parts_of p, rest) → GivesOrRefuses r (fault_in expansion (read_shapes p.attributes.items) (item_shape p.read.item))
    → IfOk r (λ i. read_of i ≡ (joined (parts_of p), p.read.blank_lines))
    → GivesOrHalts used (λ (i : ItemRead). (read_of i, rest)) r (attributed_at word_of expansion current ts)
unfolding attributed_at
fitted_so used expansion current ts p rest (Ok i) read fits shape = rw (read, fits, shape) refl
fitted_so used expansion current ts p rest (Err e) read broken shape = rw read (broken_so used e (fault_in expansion (read_shapes p.attributes.items) (item_shape p.read.item)) _ broken)
