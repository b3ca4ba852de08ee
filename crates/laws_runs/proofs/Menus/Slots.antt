-- Parameters as words see them, of a tree and of its row.
use Rattle.std.proofs.Common.{◌≡◌, sym, ◌∙◌, ap, Bool, not, List, [], ◌∷◌, ◌<◌, ℕ, Option, Some, None, refl, map}
use Rattle.std.specs.Prelude.{Contains, is_some, filter_map, ◌||◌}
use Rattle.std.specs.List.{All, cons_option}
use Rattle.std.specs.Char.{encode_utf8}
use Rattle.std.specs.Option.{option_map}
use Rattle.std.proofs.lemmas.List.Elements.{All-contains}
use Rattle.std.proofs.lemmas.Str.{encode_ascii}
use Rattle.just_text.specs.Tokens.{lexeme}
use Rattle.tree_attributes.specs.Attributes.{AttributeShape, plain, with_interpreter, with_options, with_pair, with_prompt, with_string, with_strings}
use Rattle.tree_attributes.specs.Sets.Order.{in_order, is_before, item_shape, items_in_order}
use Rattle.tree_attributes.specs.Sets.Sets.{items_of, shapes_in}
use Rattle.tree_attributes.specs.declared.attribute_set.AttributeSet.{AttributeSet}
use Rattle.tree_attributes.proofs.Sets.InOrder.{sorted_items}
use Rattle.tree_attributes.proofs.Sets.Sorted.{map_sorted}
use Rattle.tree_expressions.specs.Shape.{shape_of}
use Rattle.tree_items.specs.Recipes.{is_variadic, parameter_shape, parameter_shapes}
use Rattle.tree_items.specs.declared.recipe.Parameter.{Parameter}
use Rattle.parse_attributes.specs.Seen.{options_in as options_seen}
use Rattle.parse_attributed_items.specs.Fitting.{options_among}
use Rattle.parse_attributed_items.specs.Options.{HasOptions, HaveOptions, ParameterOptions, meant_for}
use Rattle.parse_expressions.specs.Literals.{Expansion}
use Rattle.meaning_evaluation.specs.Stages.Parameters.{is_star}
use Rattle.meaning_rules.specs.Fixed.{options_in}
use Rattle.meaning_runs.specs.Words.{Slot}
use Rattle.meaning_rules.proofs.Worlds.Places.{contains_first, contains_later}
use Rattle.just_meaning.specs.Menus.{slot_of}
use Rattle.just_meaning.specs.Rows.{parameter_row}
use Rattle.justfile_analyzer.specs.MenusOf.{slot_row}

-- ---- attributes

-- the attributes of a set stand in their order
pub in_order_already : (set : AttributeSet) → in_order (shapes_in set) ≡ shapes_in set
in_order_already set =
    let same : items_of set ≡ items_in_order (items_of set) = sorted_items (items_of set) (items_of set) set.in_order (λ x. refl) in
    sym (map_sorted item_shape is_before (items_of set)) ∙ ap (map item_shape) (sym same)

options_alike : (a : AttributeShape) → options_in a ≡ options_seen (Some a)
options_alike (plain k) = refl
options_alike (with_options o) = refl
options_alike (with_prompt e) = refl
options_alike (with_pair k v) = refl
options_alike (with_string k t) = refl
options_alike (with_strings t ts) = refl
options_alike (with_interpreter i) = refl

same_options : (given : List AttributeShape) → filter_map options_in given ≡ options_among given
same_options [] = refl
same_options (a ∷ given) = ap (λ o. cons_option o (filter_map options_in given)) (options_alike a) ∙ ap (cons_option (options_seen (Some a))) (same_options given)

-- ---- parameters

some_alike : {A B : Type 0} (f : A → B) (o : Option A) → is_some (option_map f o) ≡ is_some o
some_alike f None = refl
some_alike f (Some a) = refl

short_alike : (short : Option ℕ) → ((letter : ℕ) → short ≡ Some letter → letter < 128) → option_map (λ c. c ∷ []) short ≡ option_map encode_utf8 short
short_alike None low = refl
short_alike (Some letter) low = ap (λ t. Some t) (sym (encode_ascii letter (low letter refl)))

-- a parameter with the options that are meant for it
abbrev slot_with : Parameter → ParameterOptions → Slot
slot_with p o = record {
  long = o.long;
  short = o.short;
  takes_value = not (o.flag || is_some o.value);
  multiple = o.multiple;
  variadic = is_variadic p.kind;
  required = not ((is_some (option_map shape_of p.default) || o.flag) || is_star p.kind);
}

abbrev slot_from : Parameter → Option (List ℕ) → Bool → Bool → Slot
slot_from p short valued defaulted = record {
  long = p.long;
  short = short;
  takes_value = not (p.flag || valued);
  multiple = p.multiple;
  variadic = is_variadic p.kind;
  required = not ((defaulted || p.flag) || is_star p.kind);
}

module _ (expansion : Expansion) (set : AttributeSet) where
  -- a parameter with the options of its `arg` is seen alike in its tree and in its row
  slot_alike : (p : Parameter) → HasOptions expansion (options_among (shapes_in set)) p → ((letter : ℕ) → p.short ≡ Some letter → letter < 128) → slot_of (parameter_row expansion (in_order (shapes_in set)) (parameter_shape p)) ≡ slot_row p
  slot_alike p has low =
      ap (λ attributes. slot_with p (meant_for expansion (filter_map options_in attributes) (lexeme p.name.token))) (in_order_already set)
      ∙ ap (λ os. slot_with p (meant_for expansion os (lexeme p.name.token))) (same_options (shapes_in set))
      ∙ ap (slot_with p) (sym has)
      ∙ ap (λ short. slot_from p short (is_some (option_map shape_of p.value)) (is_some (option_map shape_of p.default))) (short_alike p.short low)
      ∙ ap (λ valued. slot_from p (option_map encode_utf8 p.short) valued (is_some (option_map shape_of p.default))) (some_alike shape_of p.value)
      ∙ ap (slot_from p (option_map encode_utf8 p.short) (is_some p.value)) (some_alike shape_of p.default)

  each_alike : (ps : List Parameter) → ((p : Parameter) → Contains ps p → slot_of (parameter_row expansion (in_order (shapes_in set)) (parameter_shape p)) ≡ slot_row p)
      → map slot_of (map (parameter_row expansion (in_order (shapes_in set))) (parameter_shapes ps)) ≡ map slot_row ps
  each_alike [] all = refl
  each_alike (p ∷ ps) all =
      ap (λ s. s ∷ map slot_of (map (parameter_row expansion (in_order (shapes_in set))) (parameter_shapes ps))) (all p (contains_first p ps))
      ∙ ap (λ ss. slot_row p ∷ ss) (each_alike ps (λ q c. all q (contains_later p ps q c)))

  pub slots_alike : (ps : List Parameter) → HaveOptions expansion (options_among (shapes_in set)) ps → ((p : Parameter) (letter : ℕ) → Contains ps p → p.short ≡ Some letter → letter < 128)
      → map slot_of (map (parameter_row expansion (in_order (shapes_in set))) (parameter_shapes ps)) ≡ map slot_row ps
  slots_alike ps have low = each_alike ps (λ p c. slot_alike p (All-contains (HasOptions expansion (options_among (shapes_in set))) ps p have c) (λ letter e. low p letter c e))
