-- What parameters and `env` attributes of recipes name is known where they are evaluated.
use Rattle.std.proofs.Common.{◌≡◌, ◌⊎◌, inl, inr, sym, ◌∙◌, subst, Bool, true, List, [], ◌∷◌, ◌++◌, map, Option, Some, None, option_map, ℕ}
use Rattle.std.specs.Prelude.{Contains}
use Rattle.std.specs.List.{AllByRecursion, cons_option}
use Rattle.std.proofs.lemmas.List.{length-map}
use Rattle.std.proofs.lemmas.List.Elements.{Contains-append_left, Contains-append_right}
use Rattle.std.proofs.lemmas.Option.{none-some, same_Some}
use Rattle.tree_expressions.specs.declared.expression.Expression.{Expression}
use Rattle.tree_attributes.specs.declared.attribute.Attribute.{Attribute}
use Rattle.tree_attributes.specs.declared.attribute.Attribute.TheVariants.{Android, Arg, Cache, Confirm, Default, Doc, Dragonfly, Env, ExitMessage, Extension, Freebsd, Group, Linux, Macos, Metadata, Netbsd, NoCd, NoExitMessage, NoQuiet, Openbsd, Parallel, PositionalArguments, Private, Script, Unix, Windows, WorkingDirectory}
use Rattle.tree_attributes.specs.declared.attribute_item.AttributeItem.{AttributeItem}
use Rattle.tree_attributes.specs.Sets.Sets.{items_of}
use Rattle.tree_items.specs.Contexts.{parameter_number}
use Rattle.tree_items.specs.declared.recipe.Parameter.{Parameter}
use Rattle.just_value.specs.Frames.{Frames}
use Rattle.evaluate_expressions.specs.Situations.{functions_in}
use Rattle.resolve_references.specs.Seen.{Seen, seeing, seeing_if_there, seen_in_attribute, seen_in_attributes, seen_in_body, seen_in_dependencies, seen_in_parameters}
use Rattle.meaning_dialogues.specs.Calls.{DefinedFunction, function_named}
use Rattle.meaning_dialogues.specs.Dialogue.{Variable}
use Rattle.meaning_dialogues.specs.Terms.{Holes, Term, Terms, appended, assertion, assertion_alone, both, call, choice, choice_alone, closed, command, comparison, either, end, format, group, hole, listing, literal, more, negation, paired, rooted, term_of, variable}
use Rattle.meaning_dialogues.proofs.Soundness.{Each, EachHole, EachOf}
use Rattle.meaning_evaluation.proofs.Stages.Depth.{HasNumber, IsIn}
use Rattle.meaning_evaluation.specs.Stages.Parameters.{formal_of}
use Rattle.meaning_evaluation.specs.Parameters.Bindings.{env_term, env_terms}
use Rattle.laws_evaluation.specs.Soundness.Known.{FormalsKnown, IsBoundIn, IsCallable, NamesKnown, OneForEach, PairKnown}
use Rattle.laws_evaluation.specs.Soundness.Opening.{IsNumbered}
use Rattle.meaning_rules.specs.Worlds.Given.{Text}
use Rattle.meaning_rules.proofs.Worlds.Places.{contains_first, contains_later}
use Rattle.laws_runs.specs.Views.Recipes.{AreBoundIn, IsConstantOrRead, ParametersAreKnown}

-- ---- terms whose variables are such

module _ (V W : Variable → Type 0) (C : List ℕ → ℕ → Type 0) (up : (x : Variable) → V x → W x) where
  mutual
    each_more : (t : Term) → Each V C t → Each W C t
    each_more (literal cooked text) h = tt
    each_more (command contents text) h = tt
    each_more (format cooked text tripled holes) h = holes_more holes h
    each_more (variable name number) h = up (record { name = name; number = number }) h
    each_more (call name file es) h = (h.0, all_more es h.1)
    each_more (assertion c m) h = (each_more c h.0, each_more m h.1)
    each_more (assertion_alone c) h = each_more c h
    each_more (both l r) h = (each_more l h.0, each_more r h.1)
    each_more (either l r) h = (each_more l h.0, each_more r h.1)
    each_more (negation e) h = each_more e h
    each_more (comparison operator l r) h = (each_more l h.0, each_more r h.1)
    each_more (paired operator l r) h = (each_more l h.0, each_more r h.1)
    each_more (rooted r) h = each_more r h
    each_more (appended l r) h = (each_more l h.0, each_more r h.1)
    each_more (choice c t o) h = (each_more c h.0, each_more t h.1, each_more o h.2)
    each_more (choice_alone c t) h = (each_more c h.0, each_more t h.1)
    each_more (listing es) h = all_more es h
    each_more (group e) h = each_more e h

    all_more : (es : Terms) → EachOf V C es → EachOf W C es
    all_more end h = tt
    all_more (more e es) h = (each_more e h.0, all_more es h.1)

    holes_more : (hs : Holes) → EachHole V C hs → EachHole W C hs
    holes_more closed h = tt
    holes_more (hole e cooked text hs) h = (each_more e h.0, holes_more hs h.1)

-- a number that is numbered so is bound
bound_number : (N : ℕ → Type 0) (frames : Frames) → AreBoundIn N frames → (number : Option ℕ) → IsNumbered N number → IsBoundIn frames number
bound_number N frames bound None h = absurd h
bound_number N frames bound (Some number) h = bound number h

-- the number of the last parameter, or of one before it
last_or_before : (pairs : List (Text × ℕ)) (pair : Text × ℕ) (number : ℕ) → IsIn number (map (λ p. p.1) (pairs ++ pair ∷ [])) → (number ≡ pair.1) ⊎ IsIn number (map (λ p. p.1) pairs)
last_or_before [] pair number (inl same) = inl same
last_or_before [] pair number (inr none) = absurd none
last_or_before (p ∷ pairs) pair number (inl same) = inr (inl same)
last_or_before (p ∷ pairs) pair number (inr later) = elim (last_or_before pairs pair number later) [
  | inl same ↦ inl same
  | inr is ↦ inr (inr is)
]

module _ (functions : List DefinedFunction) (reached : DefinedFunction → Bool) (N : ℕ → Type 0) (here : Frames) (bound : AreBoundIn N here) where
  abbrev IsSeenKnown : Seen → Type 0
  IsSeenKnown s = NamesKnown functions (λ f. reached f ≡ true) (λ x. HasNumber (map (λ p. p.1) s.parameters) x.number ⊎ IsNumbered N x.number) (term_of s.expression)

  abbrev AreSeenKnown : List Seen → Type 0
  AreSeenKnown ss = (s : Seen) → Contains ss s → IsSeenKnown s

  abbrev K : List ℕ → Term → Type 0
  K numbers t = NamesKnown functions (λ f. reached f ≡ true) (λ x. HasNumber numbers x.number ⊎ IsBoundIn here x.number) t

  left : (a b : List Seen) → AreSeenKnown (a ++ b) → AreSeenKnown a
  left a b all s c = all s (Contains-append_left a b s c)

  right : (a b : List Seen) → AreSeenKnown (a ++ b) → AreSeenKnown b
  right a b all s c = all s (Contains-append_right a b s c)

  -- an expression that sees these parameters, by numbers among which theirs are
  seen_known : (earlier : List (Text × ℕ)) (numbers : List ℕ) → ((number : ℕ) → IsIn number (map (λ p. p.1) earlier) → IsIn number numbers) → (e : Expression) → IsSeenKnown (seeing earlier e) → K numbers (term_of e)
  seen_known earlier numbers among e h = each_more
      (λ x. HasNumber (map (λ p. p.1) earlier) x.number ⊎ IsNumbered N x.number)
      (λ x. HasNumber numbers x.number ⊎ IsBoundIn here x.number)
      (λ name arguments. IsCallable (OneForEach (λ f. reached f ≡ true)) (function_named name functions) name arguments) (λ x k. either_way x.number k) (term_of e) h
    where
      either_way : (number : Option ℕ) → HasNumber (map (λ p. p.1) earlier) number ⊎ IsNumbered N number → HasNumber numbers number ⊎ IsBoundIn here number
      either_way None (inl none) = absurd none
      either_way (Some m) (inl is) = inl (among m is)
      either_way number (inr is) = inr (bound_number N here bound number is)

  -- ---- `env` attributes

  alone : (e : Expression) → IsSeenKnown (seeing [] e) → K [] (term_of e)
  alone e h = seen_known [] [] (λ number is. is) e h

  by_attribute : (all : List (Text × ℕ)) (a : Attribute) (rest : List (Term × Term)) → AreSeenKnown (seen_in_attribute all a) → AllByRecursion (PairKnown (K [])) rest → AllByRecursion (PairKnown (K [])) (cons_option (env_term a) rest)
  by_attribute all Android rest known others = others
  by_attribute all (Arg options) rest known others = others
  by_attribute all Cache rest known others = others
  by_attribute all (Confirm prompt) rest known others = others
  by_attribute all Default rest known others = others
  by_attribute all (Doc text) rest known others = others
  by_attribute all Dragonfly rest known others = others
  by_attribute all (Env key value) rest known others = (
    (alone key (known (seeing [] key) (contains_first (seeing [] key) (seeing [] value.value ∷ []))), alone value.value (known (seeing [] value.value) (contains_later (seeing [] key) (seeing [] value.value ∷ []) (seeing [] value.value) (contains_first (seeing [] value.value) [])))),
    others,
  )
  by_attribute all ExitMessage rest known others = others
  by_attribute all (Extension text) rest known others = others
  by_attribute all Freebsd rest known others = others
  by_attribute all (Group text) rest known others = others
  by_attribute all Linux rest known others = others
  by_attribute all Macos rest known others = others
  by_attribute all (Metadata text texts) rest known others = others
  by_attribute all Netbsd rest known others = others
  by_attribute all NoCd rest known others = others
  by_attribute all NoExitMessage rest known others = others
  by_attribute all NoQuiet rest known others = others
  by_attribute all Openbsd rest known others = others
  by_attribute all Parallel rest known others = others
  by_attribute all PositionalArguments rest known others = others
  by_attribute all Private rest known others = others
  by_attribute all (Script interpreter) rest known others = others
  by_attribute all Unix rest known others = others
  by_attribute all Windows rest known others = others
  by_attribute all (WorkingDirectory text) rest known others = others

  env_known : (all : List (Text × ℕ)) (xs : List AttributeItem) → AreSeenKnown (seen_in_attributes all xs) → AllByRecursion (PairKnown (K [])) (env_terms xs)
  env_known all [] known = tt
  env_known all (item ∷ xs) known =
      by_attribute all item.attribute (env_terms xs) (left (seen_in_attribute all item.attribute) (seen_in_attributes all xs) known)
      (env_known all xs (right (seen_in_attribute all item.attribute) (seen_in_attributes all xs) known))

  -- ---- parameters

  if_there : (earlier : List (Text × ℕ)) (numbers : List ℕ) → ((number : ℕ) → IsIn number (map (λ p. p.1) earlier) → IsIn number numbers) → (o : Option Expression) → AreSeenKnown (seeing_if_there earlier o) → (e : Term) → option_map term_of o ≡ Some e → K numbers e
  if_there earlier numbers among None known e is = absurd (none-some e is)
  if_there earlier numbers among (Some d) known e is = subst (K numbers) (same_Some (term_of d) e is) (seen_known earlier numbers among d (known (seeing earlier d) (contains_first (seeing earlier d) [])))

  formals_known : (earlier : List (Text × ℕ)) (numbers : List ℕ) → ((number : ℕ) → IsIn number (map (λ p. p.1) earlier) → IsIn number numbers) → (ps : List Parameter) → AreSeenKnown (seen_in_parameters earlier ps) → FormalsKnown K numbers (map formal_of ps)
  formals_known earlier numbers among [] known = tt
  formals_known earlier numbers among (p ∷ ps) known =
      let defaults = seeing_if_there earlier p.default in
      let values = seeing_if_there earlier p.value in
      let others = seen_in_parameters (earlier ++ parameter_number p ∷ []) ps in
      let own = left (defaults ++ values) others known in (
        record { default = if_there earlier numbers among p.default (left defaults values own); value = if_there earlier numbers among p.value (right defaults values own) },
        formals_known (earlier ++ parameter_number p ∷ []) (p.number ∷ numbers)
            (λ number is. elim (last_or_before earlier (parameter_number p) number is) [ inl same ↦ inl same | inr is ↦ inr (among number is) ])
            ps (right (defaults ++ values) others known),
      )

-- ---- the law

pub parameters_are_known : ParametersAreKnown
parameters_are_known context lists is_read recipe known bound_there here bound_here groups many =
    let N = IsConstantOrRead lists is_read in
    let functions = functions_in context in
    let all = map parameter_number recipe.parameters.items in
    let attributes = seen_in_attributes all (items_of recipe.attributes) in
    let parameters = seen_in_parameters [] recipe.parameters.items in
    let priors = seen_in_dependencies all recipe.priors.items in
    let subsequents = seen_in_dependencies all recipe.subsequents.items in
    let body = seen_in_body all recipe.body.items in
    let first = left functions known.reached N here bound_here (attributes ++ parameters) priors (left functions known.reached N here bound_here (attributes ++ parameters ++ priors) subsequents (left functions known.reached N here bound_here (attributes ++ parameters ++ priors ++ subsequents) body known.names)) in
    record {
      reached = known.reached;
      bodies = record {
        body = λ name f e is. each_more
            (λ x. HasNumber f.parameters x.number ⊎ IsNumbered N x.number)
            (λ x. HasNumber f.parameters x.number ⊎ IsBoundIn context.scope.now x.number)
            (λ name arguments. IsCallable (OneForEach (λ f. known.reached f ≡ true)) (function_named name functions) name arguments)
            (λ x k. elim k [ inl is ↦ inl is | inr is ↦ inr (bound_number N context.scope.now bound_there x.number is) ]) f.body (known.bodies.body name f e is);
      };
      names = record {
        env = env_known functions known.reached N here bound_here all (items_of recipe.attributes) (left functions known.reached N here bound_here attributes parameters first);
        parameters = formals_known functions known.reached N here bound_here [] [] (λ number is. is) recipe.parameters.items (right functions known.reached N here bound_here attributes parameters first);
        count = many ∙ sym (length-map recipe.parameters.items formal_of);
      };
    }
