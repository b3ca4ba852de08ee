-- Options that are made one by one have texts of the form that `arg` asks for.
use Rattle.std.proofs.Common.{◌≡◌, ℕ, Bool, true, false, List, [], ◌∷◌, Option, Some, None, refl, subst}
use Rattle.std.specs.Prelude.{if◌then◌else◌}
use Rattle.std.specs.Option.{option_and_then}
use Rattle.tree_attributes.specs.Attributes.{OptionsShape}
use Rattle.parse_expressions.specs.Literals.{Expansion}
use Rattle.parse_attributes.specs.Options.{OptionShape, flag, multiple, long, help, max, min, short, value, if_new, if_whole, is_count, is_short, is_whole, options_of, text, with_all, with_option, without_options}
use Rattle.parse_attributed_items.specs.Whole.{AreWholeOptions}

unset : {X : Type 0} (b : Bool) (x y : X) → (let r : Option X = if b then None else Some x in r) ≡ Some y → x ≡ y
unset true x y h = absurd cc
unset false x y h = cc

set : {X : Type 0} (b : Bool) (x y : X) → (let r : Option X = if b then Some x else None in r) ≡ Some y → x ≡ y
set true x y h = cc
set false x y h = absurd cc

new : {A : Type 0} (old : Option A) (may : Bool) (o q : OptionsShape) → if_new old may o ≡ Some q → (may ≡ true) × (o ≡ q)
new None true o q h = (refl, cc)
new None false o q h = absurd cc
new (Some x) may o q h = absurd cc

module _ (expansion : Expansion) where
  one_more : (o q : OptionsShape) (p : OptionShape) → with_option expansion o p ≡ Some q → AreWholeOptions expansion o → AreWholeOptions expansion q
  one_more o q flag h w = subst (AreWholeOptions expansion) (unset o.flag (record o { flag = true }) q h) (record { max = w.max; min = w.min; short = w.short })
  one_more o q multiple h w = subst (AreWholeOptions expansion) (unset o.multiple (record o { multiple = true }) q h) (record { max = w.max; min = w.min; short = w.short })
  one_more o q (long name) h w = subst (AreWholeOptions expansion) (new o.long true (record o { long = Some name }) q h).1 (record { max = w.max; min = w.min; short = w.short })
  one_more o q (help s) h w = subst (AreWholeOptions expansion) (new o.help true (record o { help = Some s }) q h).1 (record { max = w.max; min = w.min; short = w.short })
  one_more o q (max s) h w = let n = new o.max (is_count (text expansion s)) (record o { max = Some s }) q h in subst (AreWholeOptions expansion) n.1 (record { max = n.0; min = w.min; short = w.short })
  one_more o q (min s) h w = let n = new o.min (is_count (text expansion s)) (record o { min = Some s }) q h in subst (AreWholeOptions expansion) n.1 (record { max = w.max; min = n.0; short = w.short })
  one_more o q (short s) h w = let n = new o.short (is_short (text expansion s)) (record o { short = Some s }) q h in subst (AreWholeOptions expansion) n.1 (record { max = w.max; min = w.min; short = n.0 })
  one_more o q (value e) h w = subst (AreWholeOptions expansion) (new o.value true (record o { value = Some e }) q h).1 (record { max = w.max; min = w.min; short = w.short })

  behind : (next : Option OptionsShape) (o q : OptionsShape) (p : OptionShape) (ps : List (Option OptionShape)) → ((r : OptionsShape) → with_all expansion r ps ≡ Some q → AreWholeOptions expansion r → AreWholeOptions expansion q)
      → with_option expansion o p ≡ next → option_and_then (λ r. with_all expansion r ps) next ≡ Some q → AreWholeOptions expansion o → AreWholeOptions expansion q
  behind None o q p ps others e h w = absurd cc
  behind (Some r) o q p ps others e h w = others r h (one_more o r p e w)

  all_more : (ps : List (Option OptionShape)) (o q : OptionsShape) → with_all expansion o ps ≡ Some q → AreWholeOptions expansion o → AreWholeOptions expansion q
  all_more [] o q h w = let e : o ≡ q = cc in subst (AreWholeOptions expansion) e w
  all_more (None ∷ ps) o q h w = absurd cc
  all_more (Some p ∷ ps) o q h w = behind (with_option expansion o p) o q p ps (λ r. all_more ps r q) refl h w

  made_whole : (all : Option OptionsShape) (name : List ℕ) (o : OptionsShape) (ps : List (Option OptionShape)) → with_all expansion (without_options name) ps ≡ all → option_and_then (if_whole expansion) all ≡ Some o → AreWholeOptions expansion o
  made_whole None name o ps e h = absurd cc
  made_whole (Some q) name o ps e h = subst (AreWholeOptions expansion) (set (is_whole expansion q) q o h) (all_more ps (without_options name) q e (record { max = tt; min = tt; short = tt }))

  -- what is read as the options of an `arg` is of that form
  pub options_whole : (name : List ℕ) (o : OptionsShape) (ps : List (Option OptionShape)) → options_of expansion name ps ≡ Some o → AreWholeOptions expansion o
  options_whole name o ps h = made_whole (with_all expansion (without_options name) ps) name o ps refl h
