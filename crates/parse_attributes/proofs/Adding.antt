-- An option more, and all options one after the other.
use Rattle.std.proofs.Common.{◌≡◌, ℕ, suc, ◌+◌, Bool, true, false, List, [], ◌∷◌, length, map, Option, Some, None, refl, sym, ap, subst, ◌∙◌, arith}
use Rattle.std.specs.Prelude.{not, ◌&&◌, is_some, option_map, IfSome, if◌then◌else◌}
use Rattle.std.specs.List.{All}
use Rattle.std.specs.Option.{option_and_then}
use Rattle.tree_expressions.specs.declared.string_literal.StringLiteral.{StringLiteral}
use Rattle.tree_attributes.specs.declared.attribute.ArgumentOptions.{ArgumentOptions}
use Rattle.tree_attributes.specs.Attributes.{OptionsShape, options_shape}
use Rattle.tree_expressions.specs.Shape.{written}
use Rattle.parse_expressions.specs.Literals.{Expansion, text_or_none}
use Rattle.parse_expressions.specs.Strings.{IsCookedString}
use Rattle.parse_attributes.specs.declared.parameter_option.OptionRead.{OptionRead}
use Rattle.parse_attributes.specs.Held.{added, given_shape, may_add, with_given, IsCookedGiven, IsCookedOption}
use Rattle.parse_attributes.specs.Options.{OptionShape, flag, multiple, long, help, max, min, short, value, if_new, if_whole, is_count, is_short, is_whole, options_of, text, with_all, with_option, without_options}

-- what the string stands for is what it holds
pub text_is : (expansion : Expansion) (s : StringLiteral) → IsCookedString expansion s → text expansion (written s) ≡ s.cooked
text_is expansion s c = ap text_or_none c.text

-- ---- one option

new_so : {A : Type 0} (old : Option A) (may : Bool) (o : OptionsShape) → (not (is_some old) && may) ≡ true → if_new old may o ≡ Some o
new_so None true o h = refl
new_so None false o h = absurd cc
new_so (Some x) may o h = absurd cc

old_so : {A : Type 0} (old : Option A) (may : Bool) (o : OptionsShape) → (not (is_some old) && may) ≡ false → if_new old may o ≡ None
old_so None true o h = absurd cc
old_so None false o h = refl
old_so (Some x) may o h = refl

first_so : {A : Type 0} (old : Option A) (o : OptionsShape) → not (is_some old) ≡ true → if_new old true o ≡ Some o
first_so None o h = refl
first_so (Some x) o h = absurd cc

again_so : {A : Type 0} (old : Option A) (o : OptionsShape) → not (is_some old) ≡ false → if_new old true o ≡ None
again_so None o h = absurd cc
again_so (Some x) o h = refl

unset_so : (b : Bool) (o : OptionsShape) → not b ≡ true → (let r : Option OptionsShape = if b then None else Some o in r) ≡ Some o
unset_so true o h = absurd cc
unset_so false o h = refl

set_so : (b : Bool) (o : OptionsShape) → not b ≡ false → (let r : Option OptionsShape = if b then None else Some o in r) ≡ None
set_so true o h = refl
set_so false o h = absurd cc

pub may_so : (expansion : Expansion) (o : OptionsShape) (p : OptionShape) → may_add expansion o p ≡ true → with_option expansion o p ≡ Some (added o p)
may_so expansion o flag h = unset_so o.flag _ h
may_so expansion o multiple h = unset_so o.multiple _ h
may_so expansion o (long name) h = first_so o.long _ h
may_so expansion o (help s) h = first_so o.help _ h
may_so expansion o (max s) h = new_so o.max (is_count (text expansion s)) _ h
may_so expansion o (min s) h = new_so o.min (is_count (text expansion s)) _ h
may_so expansion o (short s) h = new_so o.short (is_short (text expansion s)) _ h
may_so expansion o (value e) h = first_so o.value _ h

pub may_not_so : (expansion : Expansion) (o : OptionsShape) (p : OptionShape) → may_add expansion o p ≡ false → with_option expansion o p ≡ None
may_not_so expansion o flag h = set_so o.flag (record o { flag = true }) h
may_not_so expansion o multiple h = set_so o.multiple (record o { multiple = true }) h
may_not_so expansion o (long name) h = again_so o.long (record o { long = Some name }) h
may_not_so expansion o (help s) h = again_so o.help (record o { help = Some s }) h
may_not_so expansion o (max s) h = old_so o.max (is_count (text expansion s)) (record o { max = Some s }) h
may_not_so expansion o (min s) h = old_so o.min (is_count (text expansion s)) (record o { min = Some s }) h
may_not_so expansion o (short s) h = old_so o.short (is_short (text expansion s)) (record o { short = Some s }) h
may_not_so expansion o (value e) h = again_so o.value (record o { value = Some e }) h

-- ---- all options

-- of a row the first fact, and the others
pub all_first : {X : Type 0} (P : X → Type 0) (x : X) (xs : List X) → All P (x ∷ xs) → P x
all_first P x xs all = all 0 x (omega arith)

pub all_others : {X : Type 0} (P : X → Type 0) (x : X) (xs : List X) → All P (x ∷ xs) → All P xs
all_others P x xs all k d h = all (suc k) d (omega arith)

-- an option is there that is not known or may not be added
pub stops : (expansion : Expansion) (o : OptionsShape) (p : Option OptionRead) (xs : List (Option OptionRead)) (total : Option OptionsShape) → with_given expansion o (given_shape p) ≡ None
    → with_all expansion o (map given_shape (p ∷ xs)) ≡ total → None ≡ total
stops expansion o None xs total none h = h
stops expansion o (Some p) xs total none h = rw none at h

-- an option is added
pub adds : (expansion : Expansion) (o next : OptionsShape) (p : Option OptionRead) (xs : List (Option OptionRead)) (total : Option OptionsShape) → with_given expansion o (given_shape p) ≡ Some next
    → with_all expansion o (map given_shape (p ∷ xs)) ≡ total → with_all expansion next (map given_shape xs) ≡ total
adds expansion o next None xs total some h = absurd cc
adds expansion o next (Some p) xs total some h = rw some at h

-- ---- whether they may stand together

if_so : (b : Bool) (o : OptionsShape) → b ≡ true → (let r : Option OptionsShape = if b then Some o else None in r) ≡ Some o
if_so true o h = refl
if_so false o h = absurd cc

if_not_so : (b : Bool) (o : OptionsShape) → b ≡ false → (let r : Option OptionsShape = if b then Some o else None in r) ≡ None
if_not_so true o h = absurd cc
if_not_so false o h = refl

module _ (expansion : Expansion) (name : List ℕ) (ps : List (Option OptionShape)) (o : OptionsShape) (added : Some o ≡ with_all expansion (without_options name) ps) where
  whole_if : options_of expansion name ps ≡ if_whole expansion o
  whole_if = ap (option_and_then (if_whole expansion)) (sym added)

  pub whole_so : is_whole expansion o ≡ true → Some o ≡ options_of expansion name ps
  whole_so h = sym (whole_if ∙ if_so (is_whole expansion o) o h)

  pub not_whole_so : is_whole expansion o ≡ false → None ≡ options_of expansion name ps
  not_whole_so h = sym (whole_if ∙ if_not_so (is_whole expansion o) o h)
