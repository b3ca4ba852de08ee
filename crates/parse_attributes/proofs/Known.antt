-- An attribute of a known kind, and its options once more.
use Rattle.std.proofs.Common.{◌≡◌, ℕ, Bool, true, false, List, [], ◌∷◌, Result, Ok, Err, Option, Some, None, refl, sym, ap, subst, ◌∙◌, inl, inr, if◌then◌else◌}
use Rattle.std.specs.Prelude.{option_map}
use Rattle.just_text.specs.Tokens.{word_of, lexeme}
use Rattle.just_text.specs.declared.token.Token.{Token}
use Rattle.tree_attributes.specs.declared.attribute.ArgumentOptions.{ArgumentOptions}
use Rattle.tree_attributes.specs.declared.attribute.AttributeKind.{AttributeKind}
use Rattle.tree_attributes.specs.declared.attribute.AttributeKind.TheVariants.{Arg}
use Rattle.tree_attributes.specs.Attributes.{AttributeShape, OptionsShape, with_options, options_shape}
use Rattle.tree_expressions.specs.Shape.{Shape}
use Rattle.tree_attributes.specs.declared.argument_form.ArgumentForm.{ArgumentForm}
use Rattle.tree_attributes.specs.declared.argument_form.ArgumentForm.TheVariants.{Expressions, Parameter, Strings, TwoExpressions}
use Rattle.tree_attributes.specs.Forms.{form_of, takes}
use Rattle.parse_expressions.specs.declared.fault.Fault.{Fault}
use Rattle.parse_expressions.specs.declared.fault.Fault.TheVariants as faults
use Rattle.parse_expressions.specs.Literals.{Expansion}
use Rattle.parse_expressions.specs.Reading.{◌>>=◌, Read, Stop, Fails}
use Rattle.parse_expressions.proofs.Taken.{test, ok_is}
use Rattle.parse_attributes.specs.Arguments.{Arguments, nothing, strings, expressions, parameter, count, made, of_texts, of_values, sort_of}
use Rattle.parse_attributes.specs.Held.{GivesOptions, counted_at, if_taken_by, is_of_sort}
use Rattle.parse_attributes.specs.Options.{OptionShape, options_of}
use Rattle.parse_attributes.specs.Reading.{arguments_at, counted, known_at}
use Rattle.parse_attributes.specs.Seen.{options_in}

-- ---- whose options there are

-- what are not the arguments of a parameter has no options
no_texts : (form : ArgumentForm) (kind : AttributeKind) (s : List ℕ) (ss : List (List ℕ)) → options_in (Some (of_texts form kind s ss)) ≡ None
no_texts Strings kind s ss = refl
no_texts other kind s ss = refl

no_values : (form : ArgumentForm) (e : Shape) (es : List Shape) → options_in (Some (of_values form e es)) ≡ None
no_values Expressions e es = refl
no_values TwoExpressions e [] = refl
no_values TwoExpressions e (f ∷ es) = refl
no_values other e es = refl

only_arg : (kind : AttributeKind) (name : List ℕ) (ps : List (Option OptionShape)) → is_of_sort (sort_of (form_of kind)) (parameter name ps) ≡ true → kind ≡ Arg
only_arg Arg name ps h = refl
only_arg other name ps h = absurd cc

pub no_options : (expansion : Expansion) (kind : AttributeKind) (a : Arguments) → (kind ≡ Arg → ⊥) → is_of_sort (sort_of (form_of kind)) a ≡ true → options_in (made expansion kind a) ≡ None
no_options expansion kind nothing other h = refl
no_options expansion kind (strings s ss) other h = no_texts (form_of kind) kind s ss
no_options expansion kind (expressions e es) other h = no_values (form_of kind) e es
no_options expansion kind (parameter name ps) other h = absurd (other (only_arg kind name ps h))

inside : (o : Option OptionsShape) → o ≡ options_in (option_map with_options o)
inside (Some o) = refl
inside None = refl

pub parameter_so : (expansion : Expansion) (kind : AttributeKind) (name : List ℕ) (ps : List (Option OptionShape)) (o : Option OptionsShape) → o ≡ options_of expansion name ps → o ≡ options_in (made expansion kind (parameter name ps))
parameter_so expansion kind name ps o h = h ∙ inside (options_of expansion name ps)

-- ---- a second reading

module _ (expansion : Expansion) (kind : AttributeKind) (ts : List Token) (a : Arguments) (rest : List Token) (read : arguments_at word_of expansion (sort_of (form_of kind)) ts ≡ Ok (a, rest)) where
  -- it fails as little as the first
  pub fails_alike : (options : Option OptionsShape) (e : Fault) → Fails e (arguments_at word_of expansion (sort_of (form_of kind)) ts) → GivesOptions (Err e) options
  fails_alike options faults.OutOfMemory h = tt
  fails_alike options faults.NumbersUsed h = h
  fails_alike options (faults.Unexpected found) h = let q = sym read ∙ h in absurd cc
  fails_alike options (faults.Refused token why) h = let q = sym read ∙ h in absurd cc

  -- it gives the same
  pub same_again : (b : Arguments) (end : List Token) → arguments_at word_of expansion (sort_of (form_of kind)) ts ≡ Ok (b, end) → a ≡ b
  same_again b end again = ap (λ (p : Arguments × List Token). p.0) (ok_is {A = Arguments × List Token} {E = Stop Token} (a, rest) (b, end) (sym read ∙ again))

-- the options of an `arg` are those of its second reading
pub again_so : (expansion : Expansion) (kind : AttributeKind) (ts : List Token) (a b : Arguments) (rest end : List Token) (o : Option OptionsShape) → kind ≡ Arg → arguments_at word_of expansion (sort_of Parameter) ts ≡ Ok (b, end)
    → o ≡ options_in (made expansion Arg b) → arguments_at word_of expansion (sort_of (form_of kind)) ts ≡ Ok (a, rest) → o ≡ options_in (made expansion kind a)
again_so expansion kind ts a b rest end o is first shown second =
    let at_arg : arguments_at word_of expansion (sort_of (form_of Arg)) ts ≡ Ok (a, rest) = subst (λ k. arguments_at word_of expansion (sort_of (form_of k)) ts ≡ Ok (a, rest)) is second in
    let same : b ≡ a = same_again expansion Arg ts b end first a rest at_arg in
    shown ∙ ap (λ x. options_in (made expansion Arg x)) same ∙ ap (λ k. options_in (made expansion k a)) (sym is)

-- what the second reading refuses is refused
pub refused_again : {A : Type 0} (options : Option OptionsShape) (e : Fault) (read : Read Token A) → GivesOptions (Err e) options → Fails e read
refused_again options faults.OutOfMemory read h = tt
refused_again options faults.NumbersUsed read h = absurd h
refused_again options (faults.Unexpected found) read h = absurd h
refused_again options (faults.Refused token why) read h = absurd h

-- ---- the count

module _ (expansion : Expansion) (t : Token) (kind : AttributeKind) (ts : List Token) where
  -- arguments are counted, and then an attribute is made of them
  known_is : known_at word_of expansion t (Some kind) ts ≡ (counted_at expansion t kind ts >>= λ a. Ok (made expansion kind a.0, a.1))
  unfolding known_at counted_at
  known_is = by (arguments_at word_of expansion (sort_of (form_of kind)) ts)
    where
      each : (a : Arguments × List Token) → counted word_of expansion t kind a.0 a.1 ≡ (if_taken_by t kind a >>= λ a. Ok (made expansion kind a.0, a.1))
      each a = elim (test (takes (form_of kind) (count a.0))) [ inl e ↦ rw e refl | inr e ↦ rw e refl ]

      by : (read : Read Token Arguments) → (read >>= λ a. counted word_of expansion t kind a.0 a.1) ≡ ((read >>= if_taken_by t kind) >>= λ a. Ok (made expansion kind a.0, a.1))
      by (Ok a) = each a
      by (Err e) = refl

  pub not_counted : (e : Fault) → Fails e (counted_at expansion t kind ts) → Fails e (known_at word_of expansion t (Some kind) ts)
  not_counted faults.OutOfMemory h = h
  not_counted faults.NumbersUsed h = h
  not_counted (faults.Unexpected found) h = rw (known_is, h) refl
  not_counted (faults.Refused token why) h = rw (known_is, h) refl

  module _ (a : Arguments) (rest : List Token) (read : counted_at expansion t kind ts ≡ Ok (a, rest)) where
    pub known_so : known_at word_of expansion t (Some kind) ts ≡ Ok (made expansion kind a, rest)
    known_so = rw (known_is, read) refl

    -- what is counted is read
    pub counted_read : arguments_at word_of expansion (sort_of (form_of kind)) ts ≡ Ok (a, rest)
    unfolding counted_at
    counted_read = by (arguments_at word_of expansion (sort_of (form_of kind)) ts) read
      where
        by : (r : Read Token Arguments) → (r >>= if_taken_by t kind) ≡ Ok (a, rest) → r ≡ Ok (a, rest)
        by (Err e) h = absurd cc
        by (Ok p) h = elim (test (takes (form_of kind) (count p.0))) [ inl e ↦ rw e at h | inr e ↦ let q = rw e at h in absurd cc ]
