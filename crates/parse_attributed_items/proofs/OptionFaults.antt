-- The rules in their order: what is refused by one is refused by all.
use Rattle.std.proofs.Common.{◌≡◌, ℕ, Bool, true, false, List, [], map, Some, None, Option, Err, Result, refl, ap, ◌∙◌}
use Rattle.std.specs.Prelude.{not, filter_map, if◌then◌else◌}
use Rattle.std.specs.Option.{option_map, option_or}
use Rattle.just_text.specs.declared.compile_error.CompileErrorKind.{CompileErrorKind}
use Rattle.just_text.specs.declared.compile_error.CompileErrorKind.TheVariants as kinds
use Rattle.tree_attributes.specs.Attributes.{OptionsShape}
use Rattle.tree_items.specs.Recipes.{ParameterShape}
use Rattle.parse_expressions.specs.declared.fault.Fault.{Fault}
use Rattle.parse_expressions.specs.declared.fault.Fault.TheVariants as faults
use Rattle.parse_expressions.specs.Literals.{Expansion}
use Rattle.parse_attributed_items.specs.declared.names.NameKind.TheVariants as named
use Rattle.parse_attributed_items.specs.Names.{are_new, name_of, repeated_fault}
use Rattle.parse_attributed_items.specs.Options.{GivesOrRefuses}
use Rattle.parse_attributed_items.specs.Rules.{are_distinct, arg_keyword, fault_of, for_name, late, long_name, name_parameters, names_of, short_name}
use Rattle.parse_attributed_items.proofs.New.{all_named, new_if_distinct}

-- ---- one rule before others

abbrev Kinds : Type 0
Kinds = Option CompileErrorKind

stopped : (e : Fault) (first others : Kinds) → GivesOrRefuses {X = Unit {0}} (Err e) first → GivesOrRefuses {X = Unit {0}} (Err e) (option_or first others)
stopped faults.OutOfMemory first others h = tt
stopped faults.NumbersUsed first others h = absurd h
stopped (faults.Unexpected found) first others h = absurd h
stopped (faults.Refused token kind) first others h = rw h refl

passed : (r : Result (Unit {0}) Fault) (first others : Kinds) → first ≡ None → GivesOrRefuses r others → GivesOrRefuses r (option_or first others)
passed r first others none h = rw none h

unless : (b : Bool) (kind : CompileErrorKind) (others : Kinds) → (let k : Kinds = if not b then Some kind else others in k) ≡ option_or (let k : Kinds = if b then None else Some kind in k) others
unless true kind others = refl
unless false kind others = refl

-- ---- all rules

module _ (expansion : Expansion) (recipe : List ℕ) (os : List OptionsShape) (ps : List ParameterShape) where
  abbrev late_fault : Kinds
  late_fault = option_map kinds.RequiredParameterFollowsDefault (late expansion os ps)

  -- the rules on names, in order
  abbrev names_fault : Kinds
  names_fault =
      option_or (repeated_fault expansion named.Parameter recipe os)
      (option_or (repeated_fault expansion named.Long recipe os)
      (option_or (repeated_fault expansion named.Short recipe os) late_fault))

  distinct : are_new (name_of expansion named.Parameter) [] os ≡ are_distinct (map (for_name expansion) os)
  distinct = new_if_distinct (name_of expansion named.Parameter) os ∙ ap are_distinct (all_named (for_name expansion) os)

  in_order : name_parameters expansion (names_of ps) os ≡ true → fault_of expansion recipe os ps ≡ names_fault
  in_order known =
      rw (
        known,
        distinct,
        new_if_distinct (name_of expansion named.Long) os,
        new_if_distinct (name_of expansion named.Short) os,
        unless (are_distinct (map (for_name expansion) os)) (kinds.DuplicateAttribute arg_keyword),
        unless (are_distinct (filter_map (long_name expansion) os)) (kinds.InvalidAttribute arg_keyword recipe),
        unless (are_distinct (filter_map (short_name expansion) os)) (kinds.InvalidAttribute arg_keyword recipe),
      )
      refl

  so : (b : Bool) → false ≡ not b → b ≡ true
  so true h = refl
  so false h = absurd cc

  module _ (known : false ≡ not (name_parameters expansion (names_of ps) os)) where
    pub at_parameter : (e : Fault) → GivesOrRefuses {X = Unit {0}} (Err e) (repeated_fault expansion named.Parameter recipe os) → GivesOrRefuses {X = Unit {0}} (Err e) (fault_of expansion recipe os ps)
    at_parameter e h = rw (in_order (so _ known)) (stopped e (repeated_fault expansion named.Parameter recipe os) _ h)

    module _ (first : repeated_fault expansion named.Parameter recipe os ≡ None) where
      pub at_long : (e : Fault) → GivesOrRefuses {X = Unit {0}} (Err e) (repeated_fault expansion named.Long recipe os) → GivesOrRefuses {X = Unit {0}} (Err e) (fault_of expansion recipe os ps)
      at_long e h =
          rw (in_order (so _ known))
          (passed (Err e) (repeated_fault expansion named.Parameter recipe os) _ first
          (stopped e (repeated_fault expansion named.Long recipe os) _ h))

      module _ (second : repeated_fault expansion named.Long recipe os ≡ None) where
        pub at_short : (e : Fault) → GivesOrRefuses {X = Unit {0}} (Err e) (repeated_fault expansion named.Short recipe os) → GivesOrRefuses {X = Unit {0}} (Err e) (fault_of expansion recipe os ps)
        at_short e h =
            rw (in_order (so _ known))
            (passed (Err e) (repeated_fault expansion named.Parameter recipe os) _ first
            (passed (Err e) (repeated_fault expansion named.Long recipe os) _ second
            (stopped e (repeated_fault expansion named.Short recipe os) _ h)))

        pub at_default : (r : Result (Unit {0}) Fault) → repeated_fault expansion named.Short recipe os ≡ None → GivesOrRefuses r late_fault → GivesOrRefuses r (fault_of expansion recipe os ps)
        at_default r third h =
            rw (in_order (so _ known))
            (passed r (repeated_fault expansion named.Parameter recipe os) _ first
            (passed r (repeated_fault expansion named.Long recipe os) _ second
            (passed r (repeated_fault expansion named.Short recipe os) _ third h)))
