-- Parameters, of which each sees the earlier ones.
use Rattle.std.proofs.Common.{◌≡◌, ◌∙◌, ℕ, Bool, true, false, List, [], ◌∷◌, ◌++◌, map, Option, Some, None, refl, sym, ap, subst, append_assoc, append-nil}
use Rattle.std.specs.Prelude.{if◌then◌else◌}
use Rattle.std.specs.List.{All}
use Rattle.std.specs.Option.{option_or}
use Rattle.std.specs.Str.{bytes_eq}
use Rattle.std.proofs.lemmas.List.{map-append}
use Rattle.std.proofs.lemmas.List.Elements.{All-append}
use Rattle.tree_items.specs.Contexts.{last_named, number_in, parameter_number}
use Rattle.tree_items.specs.declared.recipe.Parameter.{Parameter}
use Rattle.tree_items.specs.declared.variables.context.ExpressionContext.{ExpressionContext}
use Rattle.resolve_references.specs.Seen.{AreNumberedBy, HasNumbers, Seen, StandsFor, seeing_if_there, seen_in_parameters}

-- ---- names with one more at their end

option_or_assoc : {A : Type 0} (a b c : Option A) → option_or (option_or a b) c ≡ option_or a (option_or b c)
option_or_assoc None b c = refl
option_or_assoc (Some x) b c = refl

option_or_none : {A : Type 0} (a : Option A) → option_or a None ≡ a
option_or_none None = refl
option_or_none (Some x) = refl

abbrev number_if_named : List ℕ → List ℕ × ℕ → Option ℕ
number_if_named name pair = if bytes_eq pair.0 name then Some pair.1 else None

last_hides : (name : List ℕ) (names : List (List ℕ × ℕ)) (pair : List ℕ × ℕ) → last_named name (names ++ pair ∷ []) ≡ option_or (number_if_named name pair) (last_named name names)
last_hides name [] pair = sym (option_or_none (number_if_named name pair))
last_hides name (first ∷ names) pair =
    ap (λ o. option_or o (number_if_named name first)) (last_hides name names pair)
    ∙ option_or_assoc (number_if_named name pair) (last_named name names) (number_if_named name first)

either : (test : Bool) (number : ℕ) (others : Option ℕ) → (if test then Some number else others) ≡ option_or (if test then Some number else None) others
either true number others = refl
either false number others = refl

-- a context that is given one more name stands for the names with that one at their end
pub stands_more : (old new : ExpressionContext) (names : List (List ℕ × ℕ)) (pair : List ℕ × ℕ) → StandsFor old names
    → ((other : List ℕ) → number_in new other ≡ (if bytes_eq pair.0 other then Some pair.1 else number_in old other)) → StandsFor new (names ++ pair ∷ [])
stands_more old new names pair stands more name =
    more name
    ∙ ap (λ o. if bytes_eq pair.0 name then Some pair.1 else o) (stands name)
    ∙ either (bytes_eq pair.0 name) pair.1 (last_named name names)
    ∙ sym (last_hides name names pair)

-- the same of names above others
pub over_more : (old new : ExpressionContext) (names : List (List ℕ × ℕ)) (pair : List ℕ × ℕ) (under : List ℕ → Option ℕ) → ((name : List ℕ) → number_in old name ≡ option_or (last_named name names) (under name))
    → ((other : List ℕ) → number_in new other ≡ (if bytes_eq pair.0 other then Some pair.1 else number_in old other)) → (name : List ℕ) → number_in new name ≡ option_or (last_named name (names ++ pair ∷ [])) (under name)
over_more old new names pair under stands more name =
    more name
    ∙ ap (λ o. if bytes_eq pair.0 name then Some pair.1 else o) (stands name)
    ∙ either (bytes_eq pair.0 name) pair.1 (option_or (last_named name names) (under name))
    ∙ sym (option_or_assoc (number_if_named name pair) (last_named name names) (under name))
    ∙ ap (λ o. option_or o (under name)) (sym (last_hides name names pair))

-- ---- parameters with one more at their end

-- what one parameter holds
abbrev pub own : List (List ℕ × ℕ) → Parameter → List Seen
own names p = seeing_if_there names p.default ++ seeing_if_there names p.value

seen_more : (names : List (List ℕ × ℕ)) (ps : List Parameter) (q : Parameter) → seen_in_parameters names (ps ++ q ∷ []) ≡ seen_in_parameters names ps ++ own (names ++ map parameter_number ps) q
seen_more names [] q = append-nil (own names q) ∙ ap (λ ns. own ns q) (sym (append-nil names))
seen_more names (p ∷ ps) q =
    let now = names ++ parameter_number p ∷ [] in
    let later = own (names ++ map parameter_number (p ∷ ps)) q in
    ap (λ l. own names p ++ l) (seen_more now ps q ∙ ap (λ ns. seen_in_parameters now ps ++ own ns q) (append_assoc names (parameter_number p ∷ []) (map parameter_number ps)))
    ∙ sym (append_assoc (own names p) (seen_in_parameters now ps) later)

module _ (bindings : ExpressionContext) where
  -- the first parameters have the numbers of what they see, and the context stands for them
  pub record AreNumberedSoFar (earlier : ExpressionContext) (ps : List Parameter) : Type 0 where
    pub stands : StandsFor earlier (map parameter_number ps)
    pub numbers : All (HasNumbers (number_in bindings)) (seen_in_parameters [] ps)

  pub parameters_more : (old new : ExpressionContext) (ps : List Parameter) (q : Parameter) → AreNumberedSoFar old ps
      → AreNumberedBy old bindings (λ names. own names q)
      → ((other : List ℕ) → number_in new other ≡ (if bytes_eq (parameter_number q).0 other then Some (parameter_number q).1 else number_in old other))
      → AreNumberedSoFar new (ps ++ q ∷ [])
  parameters_more old new ps q far numbers more = record {
    stands = subst (StandsFor new) (sym (map-append parameter_number ps (q ∷ []))) (stands_more old new (map parameter_number ps) (parameter_number q) far.stands more);
    numbers = subst (All (HasNumbers (number_in bindings))) (sym (seen_more [] ps q)) (All-append (HasNumbers (number_in bindings)) (seen_in_parameters [] ps) (own (map parameter_number ps) q) far.numbers (numbers (map parameter_number ps) far.stands));
  }
