-- What is told of files stays told where variables get their numbers.
use Rattle.std.proofs.Common.{◌≡◌, ◌∙◌, refl, sym, ap, subst, ℕ, suc, arith, List, [], ◌∷◌, map, length, Ok, Option, Some, None, All}
use Rattle.std.specs.Prelude.{slice_get}
use Rattle.std.proofs.lemmas.List.Elements.{All-cons, All-head, All-nil, All-tail}
use Rattle.std.proofs.lemmas.List.{length-map}
use Rattle.std.proofs.lemmas.Option.{slice_get_within}
use Rattle.tree_expressions.specs.Cooking.{cooked}
use Rattle.tree_attributes.specs.Attributes.{AttributeShape, attribute_shape, plain, with_interpreter, with_options, with_pair, with_prompt, with_string, with_strings}
use Rattle.tree_attributes.specs.declared.attribute.Attribute.{Attribute}
use Rattle.tree_attributes.specs.declared.attribute.Attribute.TheVariants as attributes
use Rattle.tree_attributes.specs.declared.attribute.AttributeKind.TheVariants.{Doc as DocKind}
use Rattle.tree_attributes.specs.declared.setting.Setting.{Setting}
use Rattle.tree_attributes.specs.declared.setting.Setting.TheVariants as settings
use Rattle.tree_attributes.specs.Sets.Numbering.{texts_of}
use Rattle.tree_attributes.specs.Sets.Order.{item_shape as shape_held}
use Rattle.tree_attributes.specs.Sets.Sets.{items_of}
use Rattle.tree_attributes.specs.declared.attribute_item.AttributeItem.{AttributeItem}
use Rattle.tree_items.specs.declared.ast.Item.{Item}
use Rattle.tree_items.specs.declared.ast.Item.TheVariants as items
use Rattle.tree_items.specs.Files.{item_shape, item_shapes}
use Rattle.parse_attributed_items.specs.Held.{IsOwnItem}
use Rattle.parse_expressions.specs.Literals.{Expansion}
use Rattle.modules_compilation.specs.declared.compilation.Compilation.{Compilation}
use Rattle.modules_compilation.specs.declared.module_node.File.{File}
use Rattle.resolve_references.specs.Numbered.{IsNumberedItem, IsSameSetting, seen_attribute, seen_attributes}
use Rattle.resolve_analysis.specs.Numbered.{AreSameItems, FileNames, IsNumbered, file_names}
use Rattle.meaning_rules.specs.Worlds.Given.{Given}
use Rattle.meaning_rules.specs.Worlds.Laws.{IsRead}
use Rattle.laws_modules.proofs.Names.Found.{mapped, mapped_at, there_within}
use Rattle.meaning_rules.specs.Worlds.Matching.{MatchSources, DocText, HasDocText, HasIndentationText, HoldsTexts, MatchesSource}
use Rattle.laws_names.specs.Reading.Matching.{NumberedFilesMatch}

module _ (expansion : Expansion) where
  -- the string of a `doc` stands for the text
  abbrev Stands : AttributeShape → List (List ℕ) → Type 0
  Stands (with_string DocKind text) texts = map (cooked expansion) (text ∷ []) ≡ map (λ t. Ok t) texts
  Stands other texts = Unit {0}

  to_stands : (a : Attribute) → DocText expansion a → Stands (attribute_shape a) (texts_of a)
  to_stands attributes.Android h = tt
  to_stands (attributes.Arg options) h = tt
  to_stands attributes.Cache h = tt
  to_stands (attributes.Confirm None) h = tt
  to_stands (attributes.Confirm (Some e)) h = tt
  to_stands attributes.Default h = tt
  to_stands (attributes.Doc None) h = tt
  to_stands (attributes.Doc (Some s)) h = ap (λ r. r ∷ []) h
  to_stands attributes.Dragonfly h = tt
  to_stands (attributes.Env key value) h = tt
  to_stands attributes.ExitMessage h = tt
  to_stands (attributes.Extension s) h = tt
  to_stands attributes.Freebsd h = tt
  to_stands (attributes.Group s) h = tt
  to_stands attributes.Linux h = tt
  to_stands attributes.Macos h = tt
  to_stands (attributes.Metadata first others) h = tt
  to_stands attributes.Netbsd h = tt
  to_stands attributes.NoCd h = tt
  to_stands attributes.NoExitMessage h = tt
  to_stands attributes.NoQuiet h = tt
  to_stands attributes.Openbsd h = tt
  to_stands attributes.Parallel h = tt
  to_stands attributes.PositionalArguments h = tt
  to_stands attributes.Private h = tt
  to_stands (attributes.Script None) h = tt
  to_stands (attributes.Script (Some i)) h = tt
  to_stands attributes.Unix h = tt
  to_stands attributes.Windows h = tt
  to_stands (attributes.WorkingDirectory s) h = tt

  from_stands : (a : Attribute) → Stands (attribute_shape a) (texts_of a) → DocText expansion a
  from_stands attributes.Android h = tt
  from_stands (attributes.Arg options) h = tt
  from_stands attributes.Cache h = tt
  from_stands (attributes.Confirm None) h = tt
  from_stands (attributes.Confirm (Some e)) h = tt
  from_stands attributes.Default h = tt
  from_stands (attributes.Doc None) h = tt
  from_stands (attributes.Doc (Some s)) h = cc h
  from_stands attributes.Dragonfly h = tt
  from_stands (attributes.Env key value) h = tt
  from_stands attributes.ExitMessage h = tt
  from_stands (attributes.Extension s) h = tt
  from_stands attributes.Freebsd h = tt
  from_stands (attributes.Group s) h = tt
  from_stands attributes.Linux h = tt
  from_stands attributes.Macos h = tt
  from_stands (attributes.Metadata first others) h = tt
  from_stands attributes.Netbsd h = tt
  from_stands attributes.NoCd h = tt
  from_stands attributes.NoExitMessage h = tt
  from_stands attributes.NoQuiet h = tt
  from_stands attributes.Openbsd h = tt
  from_stands attributes.Parallel h = tt
  from_stands attributes.PositionalArguments h = tt
  from_stands attributes.Private h = tt
  from_stands (attributes.Script None) h = tt
  from_stands (attributes.Script (Some i)) h = tt
  from_stands attributes.Unix h = tt
  from_stands attributes.Windows h = tt
  from_stands (attributes.WorkingDirectory s) h = tt

  docs_kept : (old new : List AttributeItem) → seen_attributes new ≡ seen_attributes old → All (HasDocText expansion) old → All (HasDocText expansion) new
  docs_kept [] [] e h = All-nil (HasDocText expansion)
  docs_kept [] (y ∷ ys) e h = absurd (cc e)
  docs_kept (x ∷ xs) [] e h = absurd (cc e)
  docs_kept (x ∷ xs) (y ∷ ys) e h =
      let first : seen_attribute y ≡ seen_attribute x = cc e in
      let later : seen_attributes ys ≡ seen_attributes xs = cc e in
      let shape : shape_held y ≡ shape_held x = ap (λ a. a.1) first in
      let texts : texts_of y.attribute ≡ texts_of x.attribute = ap (λ a. a.2) first in
      let stands : Stands (shape_held y) (texts_of y.attribute) =
      subst (λ s. Stands s (texts_of y.attribute)) (sym shape) (subst (Stands (shape_held x)) (sym texts) (to_stands x.attribute (All-head (HasDocText expansion) x xs h))) in
      All-cons (HasDocText expansion) y ys (from_stands y.attribute stands) (docs_kept xs ys later (All-tail (HasDocText expansion) x xs h))

  setting_kept : (old new : Setting) → IsSameSetting old new → HasIndentationText expansion old → HasIndentationText expansion new
  setting_kept (settings.Truth which value) new same h = subst (HasIndentationText expansion) (sym same) h
  setting_kept (settings.MinimumVersion value) new same h = subst (HasIndentationText expansion) (sym same) h
  setting_kept (settings.Indentation value) new same h = subst (HasIndentationText expansion) (sym same) h
  setting_kept (settings.DotenvCommand value) new same h = subst (HasIndentationText expansion) (sym same.1) tt
  setting_kept (settings.DotenvFilename value) new same h = subst (HasIndentationText expansion) (sym same.1) tt
  setting_kept (settings.DotenvPath value) new same h = subst (HasIndentationText expansion) (sym same.1) tt
  setting_kept (settings.ScriptInterpreter value) new same h = subst (HasIndentationText expansion) (sym same.1) tt
  setting_kept (settings.Shell value) new same h = subst (HasIndentationText expansion) (sym same.1) tt
  setting_kept (settings.Tempdir value) new same h = subst (HasIndentationText expansion) (sym same.1) tt
  setting_kept (settings.WindowsShell value) new same h = subst (HasIndentationText expansion) (sym same.1) tt
  setting_kept (settings.WorkingDirectory value) new same h = subst (HasIndentationText expansion) (sym same.1) tt

  texts_kept : (old new : Item) → IsNumberedItem old new → HoldsTexts expansion old → HoldsTexts expansion new
  texts_kept (items.Alias a) new same h = subst (HoldsTexts expansion) (sym same) tt
  texts_kept (items.Assignment a) new same h = subst (HoldsTexts expansion) (sym same.1) tt
  texts_kept (items.Comment text) new same h = subst (HoldsTexts expansion) (sym same) tt
  texts_kept (items.Function f) new same h = subst (HoldsTexts expansion) (sym same.1) tt
  texts_kept (items.Import i) new same h = subst (HoldsTexts expansion) (sym same) tt
  texts_kept (items.Module m) new same h = subst (HoldsTexts expansion) (sym same) tt
  texts_kept items.Newline new same h = subst (HoldsTexts expansion) (sym same) tt
  texts_kept (items.Recipe r) new same h = subst (HoldsTexts expansion) (sym same.1) (docs_kept (items_of r.attributes) (items_of same.0.attributes) same.2.attributes h)
  texts_kept (items.Set s) new same h = subst (HoldsTexts expansion) (sym same.1) (setting_kept s.value same.0.value same.3 h)
  texts_kept (items.Unexport u) new same h = subst (HoldsTexts expansion) (sym same) tt

  all_kept : (old new : List Item) → AreSameItems old new → All (HoldsTexts expansion) old → All (HoldsTexts expansion) new
  all_kept old new same = by_place old new same.many (λ place x y e f. (same.each place x y e f).numbered)
    where
      by_place : (old new : List Item) → length new ≡ length old → ((place : ℕ) (x y : Item) → slice_get old place ≡ Some x → slice_get new place ≡ Some y → IsNumberedItem x y) → All (HoldsTexts expansion) old → All (HoldsTexts expansion) new
      by_place [] [] many each h = All-nil (HoldsTexts expansion)
      by_place [] (y ∷ ys) many each h = absurd (omega (arith, many))
      by_place (x ∷ xs) [] many each h = absurd (omega (arith, many))
      by_place (x ∷ xs) (y ∷ ys) many each h =
          All-cons (HoldsTexts expansion) y ys (texts_kept x y (each 0 x y refl refl) (All-head (HoldsTexts expansion) x xs h))
          (by_place xs ys (omega (arith, many)) (λ place. each (suc place)) (All-tail (HoldsTexts expansion) x xs h))

-- items that are as they were but for numbers have the shapes that they had
shapes_kept : (old new : List Item) → AreSameItems old new → item_shapes new ≡ item_shapes old
shapes_kept old new same = by_place old new same.many (λ place x y e f. (same.each place x y e f).shape)
  where
    by_place : (old new : List Item) → length new ≡ length old → ((place : ℕ) (x y : Item) → slice_get old place ≡ Some x → slice_get new place ≡ Some y → item_shape y ≡ item_shape x) → item_shapes new ≡ item_shapes old
    by_place [] [] many each = refl
    by_place [] (y ∷ ys) many each = absurd (omega (arith, many))
    by_place (x ∷ xs) [] many each = absurd (omega (arith, many))
    by_place (x ∷ xs) (y ∷ ys) many each =
        let first = each 0 x y refl refl in
        let later = by_place xs ys (omega (arith, many)) (λ place. each (suc place)) in
        ap (λ s. s ∷ item_shapes ys) first ∙ ap (λ ss. item_shape x ∷ ss) later

-- once variables have their numbers, files match their sources as before
pub numbered_files_match : NumberedFilesMatch
numbered_files_match source before after n own told k file e =
    let names : slice_get (map file_names before.files.items) k ≡ Some (file_names file) = ap (λ xs. slice_get xs k) (sym n.files) ∙ mapped file_names after.files.items k file e in
    let old = mapped_at file_names before.files.items k (file_names file) names in
    let t = told k old.0 old.1 in
    let key : old.0.key.now ≡ file.key.now = ap (λ (f : FileNames). f.key) old.2 in
    let same = n.items k old.0 file old.1 e in
    record {
      says = subst (λ q. IsRead source q (item_shapes file.ast.items.items)) key (subst (IsRead source old.0.key.now) (sym (shapes_kept old.0.ast.items.items file.ast.items.items same)) t.says);
      own = own k file e;
      texts = all_kept source.expansion old.0.ast.items.items file.ast.items.items same t.texts;
    }
