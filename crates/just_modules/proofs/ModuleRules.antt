-- An item of a module's files breaks a rule exactly where an item of the module does.
use Rattle.std.proofs.Common.{◌≡◌, inl, inr, sym, ◌∙◌, ap, subst, Bool, true, false, ◌||◌, [], ℕ, List, refl}
use Rattle.std.specs.Prelude.{◌↔◌, Contains, codes}
use Rattle.std.proofs.lemmas.Bool.{false≢true}
use Rattle.std.proofs.lemmas.List.Elements.{All-contains}
use Rattle.just_text.specs.declared.compile_error.CompileErrorKind.{CompileErrorKind}
use Rattle.just_text.specs.declared.compile_error.CompileErrorKind.TheVariants as kinds
use Rattle.just_text.specs.declared.os.Os.{Os}
use Rattle.tree_attributes.specs.declared.attribute.AttributeKind.TheVariants.{Script}
use Rattle.tree_attributes.specs.Attributes.{AttributeShape}
use Rattle.tree_attributes.specs.Sets.Sets.{shapes_in}
use Rattle.tree_items.specs.declared.ast.Item.{Item}
use Rattle.tree_items.specs.declared.ast.Item.TheVariants.{Alias, Assignment, Comment, Function, Import, Module, Newline, Recipe as RecipeItem, Set, Unexport}
use Rattle.tree_items.specs.declared.ast.ListFeature.{ListFeature}
use Rattle.tree_items.specs.declared.ast.UnstableFeature.{UnstableFeature}
use Rattle.tree_items.specs.Files.{ItemShape, is_blank, item_shape, item_shapes, recipe_item}
use Rattle.tree_items.specs.Lines.{Piece}
use Rattle.tree_items.specs.Recipes.{RecipeShape, recipe_shape}
use Rattle.modules_compilation.specs.declared.module_node.File.{File}
use Rattle.parse_attributed_items.specs.Held.{IsOwnItem}
use Rattle.meaning_rules.specs.Worlds.Given.{Overrides, Text, World}
use Rattle.meaning_rules.specs.Worlds.Modules.{IsModule}
use Rattle.meaning_rules.specs.Worlds.Sources.{AreSaid, is_enabled}
use Rattle.meaning_rules.proofs.Worlds.Places.{contains_none}
use Rattle.meaning_rules.specs.Told.{IsNamedBy}
use Rattle.modules_compilation.specs.declared.error.Error.{Error}
use Rattle.meaning_rules.specs.Rules.{Breaks, Broken, InModule, IsBodyFault, IsOwnLine, IsScript, Rule, UsesList, UsesUnstable, begins_shebang, has, caching, defining, setting_lists, syntax, missing_root, missing_import, circular_import, missing_module, ambiguous_module, redefinition, duplicate_variable, duplicate_set, duplicate_unexport, export_unexported, unknown_alias_target, unstable_feature, lists_needed, cache_left_out, attribute_conflict, undefined_variable, unknown_function, function_argument_count, circular_variable, unknown_dependency, circular_recipe, dependency_argument_count, const_error, unknown_override, module_as_recipe}
use Rattle.laws_modules.specs.Files.Files.{AreFiles}
use Rattle.just_modules.specs.Settings.{is_on, truths_of}
use Rattle.just_modules.specs.Lists.{lists_of}
use Rattle.just_modules.specs.ItemRules.{BreaksEnabled, BreaksFiles, BreaksIfRecipe, BreaksItem, BreaksLine, BreaksRecipe, body, cache, conflict, is_script, lists, marks, recipe, space, there, unstable}
use Rattle.just_modules.specs.declared.truths.Truths.{Truths}
use Rattle.just_modules.proofs.Outcomes.{not_true}
use Rattle.just_modules.specs.Fitting.{IsParsed}
use Rattle.just_modules.specs.ModuleRules.{BreaksOwn, BreaksOwnBody, is_of_items}
use Rattle.just_modules.proofs.Contained.{mapped}
use Rattle.just_modules.proofs.ItemLists.{lists_used, used_lists}
use Rattle.just_modules.proofs.ModuleFiles.{has_place, is_file_of, is_item_of}
use Rattle.just_modules.proofs.ModuleSettings.{is_on_if, is_on_then, none_on, not_on}
use Rattle.just_modules.proofs.ItemsRead.{read_fits}

-- ---- items that use something are no blank lines

unstable_no_blank : (shape : ItemShape) (feature : UnstableFeature) → UsesUnstable shape feature → is_blank shape ≡ false
unstable_no_blank shape feature defining = refl
unstable_no_blank shape feature (caching e) = refl
unstable_no_blank shape feature (setting_lists e) = refl

lists_no_blank : (item : Item) (feature : ListFeature) → Contains (lists_of item) feature → is_blank (item_shape item) ≡ false
lists_no_blank (Alias a) feature c = refl
lists_no_blank (Assignment a) feature c = refl
lists_no_blank (Comment t) feature c = refl
lists_no_blank (Function f) feature c = refl
lists_no_blank (Import i) feature c = refl
lists_no_blank (Module m) feature c = refl
lists_no_blank Newline feature c = absurd (contains_none [] feature refl c)
lists_no_blank (RecipeItem r) feature c = refl
lists_no_blank (Set s) feature c = refl
lists_no_blank (Unexport u) feature c = refl

-- ---- one or the other

neither : (a b : Bool) → (a || b) ≡ false → (a ≡ false) × (b ≡ false)
neither false b e = (refl, e)
neither true b e = absurd (false≢true (sym e))

one_off : (a b : Bool) → a ≡ false → b ≡ false → (a || b) ≡ false
one_off a b p q = ap (λ c. c || b) p ∙ q

off_unless : (a : Bool) → (a ≡ true → ⊥) → a ≡ false
off_unless true h = absurd (h refl)
off_unless false h = refl

-- what the tree of an item has that is read its shape uses
pub lists_are_used : (w : World) (file : File) → IsParsed w.expansion file → (item : Item) → Contains file.ast.items.items item → (feature : ListFeature) → Contains (lists_of item) feature ↔ UsesList w (item_shape item) feature
lists_are_used w file p item c feature =
    let own : IsOwnItem w.expansion item = All-contains (IsOwnItem w.expansion) file.ast.items.items item p.whole.own c in
    let fits = read_fits w.expansion p.version p.text (item_shapes file.ast.items.items) p.says (item_shape item) (mapped item_shape file.ast.items.items item c) in
    (lists_used w item feature own fits, used_lists w item feature own)

module _ (w : World) (owner : ℕ) (own : Text) (files : List File) (are : AreFiles w owner own files)
    (whole : (file : File) → Contains files file → IsParsed w.expansion file) where
  abbrev truths : Truths
  truths = truths_of w.os w.unstable files

  -- a recipe of the module is no script
  no_script : (attributes : List AttributeShape) (r : RecipeShape) → is_script truths attributes r ≡ false → IsScript w own attributes r → ⊥
  no_script attributes r e s =
      let first = neither (is_on w.os files (codes "default-script") || has Script attributes) (begins_shebang r.body) e in
      let second = neither (is_on w.os files (codes "default-script")) (has Script attributes) first.0 in
      elim s [
        | inl on ↦ not_on w owner own files are (codes "default-script") second.0 on
        | inr rest ↦ elim rest [
          | inl is ↦ not_true (has Script attributes) second.1 is
          | inr is ↦ not_true (begins_shebang r.body) first.1 is
        ]
      ]

  script_off : (attributes : List AttributeShape) (r : RecipeShape) → (IsScript w own attributes r → ⊥) → is_script truths attributes r ≡ false
  script_off attributes r none =
      one_off (is_on w.os files (codes "default-script") || has Script attributes) (begins_shebang r.body)
      (one_off (is_on w.os files (codes "default-script")) (has Script attributes) (none_on w owner own files are (codes "default-script") (λ on. none (inl on))) (off_unless (has Script attributes) (λ is. none (inr (inl is)))))
      (off_unless (begins_shebang r.body) (λ is. none (inr (inr is))))

  -- ---- from the files to the module

  module _ (path : List Text) (is_module : IsModule w path own) (file : File) (c : Contains files file) (item : Item) (d : Contains file.ast.items.items item) where
    in_module : is_blank (item_shape item) ≡ false → InModule w own (item_shape item)
    in_module e =
        let p = has_place w owner own files are file c item d e in
        record { path = path; is = is_module; file = file.key.now; of = is_file_of w owner own files are file c; place = p.0; has = p.1 }

    line_own : (attributes : List AttributeShape) (r : RecipeShape) → InModule w own (recipe_item attributes r) × (is_enabled w.os (recipe_item attributes r) ≡ true) → (IsScript w own attributes r → ⊥)
        → (line : List Piece) → IsOwnLine w r line → (kind : CompileErrorKind) → BreaksLine truths.guards line kind → BreaksOwnBody w own kind
    line_own attributes r stands plain line here kind (space e) = (attributes, (r, stands, plain, (line, here, e)))
    line_own attributes r stands plain line here kind (marks on guard infallible) = (attributes, (r, stands, plain, (line, here, (is_on_then w owner own files are (codes "guards") on, guard, infallible))))

    recipe_own : (attributes : List AttributeShape) (r : RecipeShape) → InModule w own (recipe_item attributes r) × (is_enabled w.os (recipe_item attributes r) ≡ true)
        → (rule : Rule) → BreaksRecipe w truths attributes r rule → BreaksOwn w own rule
    recipe_own attributes r stands rule (body {kind} plain (line, here, b)) = line_own attributes r stands (no_script attributes r plain) line here kind b
    recipe_own attributes r stands rule (cache e) = (attributes, r, stands, refl, e)
    recipe_own attributes r stands rule (conflict x) = (attributes, r, stands, refl, x)

  if_recipe_own : (path : List Text) → IsModule w path own → (file : File) → Contains files file → (item : Item) → Contains file.ast.items.items item → is_enabled w.os (item_shape item) ≡ true
      → (rule : Rule) → BreaksIfRecipe w truths item rule → BreaksOwn w own rule
  if_recipe_own path m file c (RecipeItem r) d on rule b = recipe_own path m file c (RecipeItem r) d (shapes_in r.attributes) (recipe_shape r) (in_module path m file c (RecipeItem r) d refl, on) rule b
  if_recipe_own path m file c (Alias a) d on rule b = absurd b
  if_recipe_own path m file c (Assignment a) d on rule b = absurd b
  if_recipe_own path m file c (Comment t) d on rule b = absurd b
  if_recipe_own path m file c (Function f) d on rule b = absurd b
  if_recipe_own path m file c (Import i) d on rule b = absurd b
  if_recipe_own path m file c (Module n) d on rule b = absurd b
  if_recipe_own path m file c Newline d on rule b = absurd b
  if_recipe_own path m file c (Set s) d on rule b = absurd b
  if_recipe_own path m file c (Unexport u) d on rule b = absurd b

  enabled_own : (path : List Text) → IsModule w path own → (file : File) → Contains files file → (item : Item) → Contains file.ast.items.items item → is_enabled w.os (item_shape item) ≡ true
      → (rule : Rule) → BreaksEnabled w truths item rule → BreaksOwn w own rule
  enabled_own path m file c item d on rule (lists {feature} off f) =
      (item_shape item, (in_module path m file c item d (lists_no_blank item feature f), on), (lists_are_used w file (whole file c) item d feature).0 f, not_on w owner own files are (codes "lists") off)
  enabled_own path m file c item d on rule (recipe b) = if_recipe_own path m file c item d on rule b

  item_own : (path : List Text) → IsModule w path own → (file : File) → Contains files file → (item : Item) → Contains file.ast.items.items item → (rule : Rule) → BreaksItem w truths item rule → BreaksOwn w own rule
  item_own path m file c item d rule (unstable {feature} off uses) =
      let both = neither w.unstable (is_on w.os files (codes "unstable")) off in
      (item_shape item, in_module path m file c item d (unstable_no_blank (item_shape item) feature uses), uses, both.0, not_on w owner own files are (codes "unstable") both.1)
  item_own path m file c item d rule (there on b) = enabled_own path m file c item d on rule b

  -- what an item of the files breaks an item of the module breaks
  pub files_own : (path : List Text) → IsModule w path own → (rule : Rule) → BreaksFiles w truths files rule → BreaksOwn w own rule
  files_own path m rule (file, c, (item, d, b)) = item_own path m file c item d rule b

  -- ---- and back

  recipe_files : (attributes : List AttributeShape) (r : RecipeShape) (rule : Rule) → InModule w own (recipe_item attributes r) → is_enabled w.os (recipe_item attributes r) ≡ true
      → BreaksRecipe w truths attributes r rule → BreaksFiles w truths files rule
  recipe_files attributes r rule m on b =
      let i = is_item_of w owner own files are m.file m.place (recipe_item attributes r) m.of m.has in
      (i.file, i.among, (i.item, i.there, there (ap (is_enabled w.os) i.is ∙ on) (recipe (by_item i.item i.is))))
    where
      by_item : (item : Item) → item_shape item ≡ recipe_item attributes r → BreaksIfRecipe w truths item rule
      by_item (RecipeItem s) e =
          let given : shapes_in s.attributes ≡ attributes = cc e in
          let same : recipe_shape s ≡ r = cc e in
          subst (λ q. BreaksRecipe w truths (shapes_in s.attributes) q rule) (sym same) (subst (λ as'. BreaksRecipe w truths as' r rule) (sym given) b)
      by_item (Alias a) e = absurd (cc e)
      by_item (Assignment a) e = absurd (cc e)
      by_item (Comment t) e = absurd (cc e)
      by_item (Function f) e = absurd (cc e)
      by_item (Import i) e = absurd (cc e)
      by_item (Module n) e = absurd (cc e)
      by_item Newline e = absurd (cc e)
      by_item (Set s) e = absurd (cc e)
      by_item (Unexport u) e = absurd (cc e)

  body_files : (kind : CompileErrorKind) → BreaksOwnBody w own kind → BreaksFiles w truths files (syntax kind)
  body_files kinds.ExtraLeadingWhitespace (attributes, (r, (m, on), plain, (line, here, e))) =
      recipe_files attributes r (syntax kinds.ExtraLeadingWhitespace) m on (body (script_off attributes r plain) (line, here, space e))
  body_files kinds.GuardAndInfallible (attributes, (r, (m, on), plain, (line, here, (guards, guard, infallible)))) =
      recipe_files attributes r (syntax kinds.GuardAndInfallible) m on (body (script_off attributes r plain) (line, here, marks (is_on_if w owner own files are (codes "guards") guards) guard infallible))
  body_files kinds.OutOfMemory b = absurd b
  body_files kinds.NumbersUsed b = absurd b
  body_files (kinds.UnknownStartOfToken c) b = absurd b
  body_files (kinds.UnexpectedCharacter c) b = absurd b
  body_files kinds.UnterminatedString b = absurd b
  body_files kinds.UnterminatedBacktick b = absurd b
  body_files kinds.UnterminatedInterpolation b = absurd b
  body_files (kinds.InvalidEscapeSequence c) b = absurd b
  body_files (kinds.MismatchedClosingDelimiter c d) b = absurd b
  body_files (kinds.UnexpectedClosingDelimiter c) b = absurd b
  body_files (kinds.ShellExpansion c) b = absurd b
  body_files kinds.UnpairedCarriageReturn b = absurd b
  body_files kinds.MixedLeadingWhitespace b = absurd b
  body_files kinds.InconsistentLeadingWhitespace b = absurd b
  body_files (kinds.UnexpectedToken c) b = absurd b
  body_files kinds.ParsingRecursionDepthExceeded b = absurd b
  body_files kinds.BacktickShebang b = absurd b
  body_files (kinds.UnknownSetting c) b = absurd b
  body_files (kinds.UnknownAttribute c) b = absurd b
  body_files (kinds.AttributeArgumentCount c d) b = absurd b
  body_files (kinds.InvalidAttribute c d) b = absurd b
  body_files (kinds.DuplicateAttribute c) b = absurd b
  body_files (kinds.DuplicateParameter c) b = absurd b
  body_files (kinds.ParameterFollowsVariadic c) b = absurd b
  body_files (kinds.RequiredParameterFollowsDefault c) b = absurd b
  body_files (kinds.MinimumVersion c d) b = absurd b
  body_files kinds.TwoStars b = absurd b
  body_files (kinds.InvalidSetting c d) b = absurd b

  -- what an item of the module breaks an item of the files breaks
  pub own_files : (rule : Rule) → BreaksOwn w own rule → BreaksFiles w truths files rule
  own_files (syntax kind) b = body_files kind b
  own_files (unstable_feature feature) (shape, m, uses, off, none) =
      let i = is_item_of w owner own files are m.file m.place shape m.of m.has in
      (i.file, i.among, (i.item, i.there, unstable (one_off w.unstable (is_on w.os files (codes "unstable")) off (none_on w owner own files are (codes "unstable") none)) (subst (λ s. UsesUnstable s feature) (sym i.is) uses)))
  own_files (lists_needed feature) (shape, (m, on), uses, none) =
      let i = is_item_of w owner own files are m.file m.place shape m.of m.has in
      let used = (lists_are_used w i.file (whole i.file i.among) i.item i.there feature).1 (subst (λ s. UsesList w s feature) (sym i.is) uses) in
      (i.file, i.among, (i.item, i.there, there (ap (is_enabled w.os) i.is ∙ on) (lists (none_on w owner own files are (codes "lists") none) used)))
  own_files (cache_left_out name) (attributes, r, (m, on), is, e) =
      subst (λ n. BreaksFiles w truths files (cache_left_out n)) is (recipe_files attributes r (cache_left_out r.name) m on (cache e))
  own_files (attribute_conflict name one other) (attributes, r, (m, on), is, x) =
      subst (λ n. BreaksFiles w truths files (attribute_conflict n one other)) is (recipe_files attributes r (attribute_conflict r.name one other) m on (conflict x))
  own_files (missing_root key) b = absurd b
  own_files (missing_import path) b = absurd b
  own_files (circular_import one other) b = absurd b
  own_files (missing_module name) b = absurd b
  own_files (ambiguous_module name found) b = absurd b
  own_files (redefinition name) b = absurd b
  own_files (duplicate_variable name) b = absurd b
  own_files (duplicate_set name) b = absurd b
  own_files (duplicate_unexport name) b = absurd b
  own_files (export_unexported name) b = absurd b
  own_files (unknown_alias_target name path) b = absurd b
  own_files (undefined_variable name) b = absurd b
  own_files (unknown_function name) b = absurd b
  own_files (function_argument_count name count) b = absurd b
  own_files (circular_variable names) b = absurd b
  own_files (unknown_dependency name path) b = absurd b
  own_files (circular_recipe names) b = absurd b
  own_files (dependency_argument_count name path count) b = absurd b
  own_files const_error b = absurd b
  own_files (unknown_override text) b = absurd b
  own_files (module_as_recipe path) b = absurd b

-- ---- rules that are broken in a world

own_fault : (w : World) (own : Text) (kind : CompileErrorKind) → BreaksOwnBody w own kind → IsBodyFault w kind
own_fault w own kinds.ExtraLeadingWhitespace b = (own, b)
own_fault w own kinds.GuardAndInfallible b = (own, b)
own_fault w own kinds.OutOfMemory b = absurd b
own_fault w own kinds.NumbersUsed b = absurd b
own_fault w own (kinds.UnknownStartOfToken c) b = absurd b
own_fault w own (kinds.UnexpectedCharacter c) b = absurd b
own_fault w own kinds.UnterminatedString b = absurd b
own_fault w own kinds.UnterminatedBacktick b = absurd b
own_fault w own kinds.UnterminatedInterpolation b = absurd b
own_fault w own (kinds.InvalidEscapeSequence c) b = absurd b
own_fault w own (kinds.MismatchedClosingDelimiter c d) b = absurd b
own_fault w own (kinds.UnexpectedClosingDelimiter c) b = absurd b
own_fault w own (kinds.ShellExpansion c) b = absurd b
own_fault w own kinds.UnpairedCarriageReturn b = absurd b
own_fault w own kinds.MixedLeadingWhitespace b = absurd b
own_fault w own kinds.InconsistentLeadingWhitespace b = absurd b
own_fault w own (kinds.UnexpectedToken c) b = absurd b
own_fault w own kinds.ParsingRecursionDepthExceeded b = absurd b
own_fault w own kinds.BacktickShebang b = absurd b
own_fault w own (kinds.UnknownSetting c) b = absurd b
own_fault w own (kinds.UnknownAttribute c) b = absurd b
own_fault w own (kinds.AttributeArgumentCount c d) b = absurd b
own_fault w own (kinds.InvalidAttribute c d) b = absurd b
own_fault w own (kinds.DuplicateAttribute c) b = absurd b
own_fault w own (kinds.DuplicateParameter c) b = absurd b
own_fault w own (kinds.ParameterFollowsVariadic c) b = absurd b
own_fault w own (kinds.RequiredParameterFollowsDefault c) b = absurd b
own_fault w own (kinds.MinimumVersion c d) b = absurd b
own_fault w own kinds.TwoStars b = absurd b
own_fault w own (kinds.InvalidSetting c d) b = absurd b

-- a fault of a body is one of a module
pub fault_of_own : (w : World) (kind : CompileErrorKind) → IsBodyFault w kind → (own : Text) × BreaksOwnBody w own kind
fault_of_own w kinds.ExtraLeadingWhitespace b = b
fault_of_own w kinds.GuardAndInfallible b = b
fault_of_own w kinds.OutOfMemory b = absurd b
fault_of_own w kinds.NumbersUsed b = absurd b
fault_of_own w (kinds.UnknownStartOfToken c) b = absurd b
fault_of_own w (kinds.UnexpectedCharacter c) b = absurd b
fault_of_own w kinds.UnterminatedString b = absurd b
fault_of_own w kinds.UnterminatedBacktick b = absurd b
fault_of_own w kinds.UnterminatedInterpolation b = absurd b
fault_of_own w (kinds.InvalidEscapeSequence c) b = absurd b
fault_of_own w (kinds.MismatchedClosingDelimiter c d) b = absurd b
fault_of_own w (kinds.UnexpectedClosingDelimiter c) b = absurd b
fault_of_own w (kinds.ShellExpansion c) b = absurd b
fault_of_own w kinds.UnpairedCarriageReturn b = absurd b
fault_of_own w kinds.MixedLeadingWhitespace b = absurd b
fault_of_own w kinds.InconsistentLeadingWhitespace b = absurd b
fault_of_own w (kinds.UnexpectedToken c) b = absurd b
fault_of_own w kinds.ParsingRecursionDepthExceeded b = absurd b
fault_of_own w kinds.BacktickShebang b = absurd b
fault_of_own w (kinds.UnknownSetting c) b = absurd b
fault_of_own w (kinds.UnknownAttribute c) b = absurd b
fault_of_own w (kinds.AttributeArgumentCount c d) b = absurd b
fault_of_own w (kinds.InvalidAttribute c d) b = absurd b
fault_of_own w (kinds.DuplicateAttribute c) b = absurd b
fault_of_own w (kinds.DuplicateParameter c) b = absurd b
fault_of_own w (kinds.ParameterFollowsVariadic c) b = absurd b
fault_of_own w (kinds.RequiredParameterFollowsDefault c) b = absurd b
fault_of_own w (kinds.MinimumVersion c d) b = absurd b
fault_of_own w kinds.TwoStars b = absurd b
fault_of_own w (kinds.InvalidSetting c d) b = absurd b

-- what a module breaks is broken
pub own_broken : (w : World) (own : Text) (o : Overrides) (rule : Rule) → AreSaid w → BreaksOwn w own rule → Broken w o rule
own_broken w own o (syntax kind) said b = record { said = λ e. said; breaks = inr (said, own_fault w own kind b) }
own_broken w own o (unstable_feature feature) said b = record { said = λ e. said; breaks = (own, b.0, b.1, b.2, b.3, b.4) }
own_broken w own o (lists_needed feature) said b = record { said = λ e. said; breaks = (own, b.0, b.1, b.2, b.3) }
own_broken w own o (cache_left_out name) said b = record { said = λ e. said; breaks = (own, b.0, b.1, b.2, b.3, b.4) }
own_broken w own o (attribute_conflict name one other) said b = record { said = λ e. said; breaks = (own, b.0, b.1, b.2, b.3, b.4) }
own_broken w own o (missing_root key) said b = absurd b
own_broken w own o (missing_import path) said b = absurd b
own_broken w own o (circular_import one other) said b = absurd b
own_broken w own o (missing_module name) said b = absurd b
own_broken w own o (ambiguous_module name found) said b = absurd b
own_broken w own o (redefinition name) said b = absurd b
own_broken w own o (duplicate_variable name) said b = absurd b
own_broken w own o (duplicate_set name) said b = absurd b
own_broken w own o (duplicate_unexport name) said b = absurd b
own_broken w own o (export_unexported name) said b = absurd b
own_broken w own o (unknown_alias_target name path) said b = absurd b
own_broken w own o (undefined_variable name) said b = absurd b
own_broken w own o (unknown_function name) said b = absurd b
own_broken w own o (function_argument_count name count) said b = absurd b
own_broken w own o (circular_variable names) said b = absurd b
own_broken w own o (unknown_dependency name path) said b = absurd b
own_broken w own o (circular_recipe names) said b = absurd b
own_broken w own o (dependency_argument_count name path count) said b = absurd b
own_broken w own o const_error said b = absurd b
own_broken w own o (unknown_override text) said b = absurd b
own_broken w own o (module_as_recipe path) said b = absurd b

-- a rule on single items that is broken is broken by a module
pub own_of : (w : World) (o : Overrides) (rule : Rule) → is_of_items rule ≡ true → Breaks w o rule → (own : Text) × BreaksOwn w own rule
own_of w o (unstable_feature feature) is b = (b.0, (b.1, b.2, b.3, b.4, b.5))
own_of w o (lists_needed feature) is b = (b.0, (b.1, b.2, b.3, b.4))
own_of w o (cache_left_out name) is b = (b.0, (b.1, b.2, b.3, b.4, b.5))
own_of w o (attribute_conflict name one other) is b = (b.0, (b.1, b.2, b.3, b.4, b.5))
own_of w o (syntax kind) is b = absurd (false≢true is)
own_of w o (missing_root key) is b = absurd (false≢true is)
own_of w o (missing_import path) is b = absurd (false≢true is)
own_of w o (circular_import one other) is b = absurd (false≢true is)
own_of w o (missing_module name) is b = absurd (false≢true is)
own_of w o (ambiguous_module name found) is b = absurd (false≢true is)
own_of w o (redefinition name) is b = absurd (false≢true is)
own_of w o (duplicate_variable name) is b = absurd (false≢true is)
own_of w o (duplicate_set name) is b = absurd (false≢true is)
own_of w o (duplicate_unexport name) is b = absurd (false≢true is)
own_of w o (export_unexported name) is b = absurd (false≢true is)
own_of w o (unknown_alias_target name path) is b = absurd (false≢true is)
own_of w o (undefined_variable name) is b = absurd (false≢true is)
own_of w o (unknown_function name) is b = absurd (false≢true is)
own_of w o (function_argument_count name count) is b = absurd (false≢true is)
own_of w o (circular_variable names) is b = absurd (false≢true is)
own_of w o (unknown_dependency name path) is b = absurd (false≢true is)
own_of w o (circular_recipe names) is b = absurd (false≢true is)
own_of w o (dependency_argument_count name path count) is b = absurd (false≢true is)
own_of w o const_error is b = absurd (false≢true is)
own_of w o (unknown_override text) is b = absurd (false≢true is)
own_of w o (module_as_recipe path) is b = absurd (false≢true is)

own_body_of : (w : World) (own : Text) (kind : CompileErrorKind) → BreaksOwnBody w own kind → (path : List Text) × IsModule w path own
own_body_of w own kinds.ExtraLeadingWhitespace (attributes, (r, (m, on), plain, l)) = (m.path, m.is)
own_body_of w own kinds.GuardAndInfallible (attributes, (r, (m, on), plain, l)) = (m.path, m.is)
own_body_of w own kinds.OutOfMemory b = absurd b
own_body_of w own kinds.NumbersUsed b = absurd b
own_body_of w own (kinds.UnknownStartOfToken c) b = absurd b
own_body_of w own (kinds.UnexpectedCharacter c) b = absurd b
own_body_of w own kinds.UnterminatedString b = absurd b
own_body_of w own kinds.UnterminatedBacktick b = absurd b
own_body_of w own kinds.UnterminatedInterpolation b = absurd b
own_body_of w own (kinds.InvalidEscapeSequence c) b = absurd b
own_body_of w own (kinds.MismatchedClosingDelimiter c d) b = absurd b
own_body_of w own (kinds.UnexpectedClosingDelimiter c) b = absurd b
own_body_of w own (kinds.ShellExpansion c) b = absurd b
own_body_of w own kinds.UnpairedCarriageReturn b = absurd b
own_body_of w own kinds.MixedLeadingWhitespace b = absurd b
own_body_of w own kinds.InconsistentLeadingWhitespace b = absurd b
own_body_of w own (kinds.UnexpectedToken c) b = absurd b
own_body_of w own kinds.ParsingRecursionDepthExceeded b = absurd b
own_body_of w own kinds.BacktickShebang b = absurd b
own_body_of w own (kinds.UnknownSetting c) b = absurd b
own_body_of w own (kinds.UnknownAttribute c) b = absurd b
own_body_of w own (kinds.AttributeArgumentCount c d) b = absurd b
own_body_of w own (kinds.InvalidAttribute c d) b = absurd b
own_body_of w own (kinds.DuplicateAttribute c) b = absurd b
own_body_of w own (kinds.DuplicateParameter c) b = absurd b
own_body_of w own (kinds.ParameterFollowsVariadic c) b = absurd b
own_body_of w own (kinds.RequiredParameterFollowsDefault c) b = absurd b
own_body_of w own (kinds.MinimumVersion c d) b = absurd b
own_body_of w own kinds.TwoStars b = absurd b
own_body_of w own (kinds.InvalidSetting c d) b = absurd b

-- what breaks a rule so is a module
pub own_is_module : (w : World) (own : Text) (rule : Rule) → BreaksOwn w own rule → (path : List Text) × IsModule w path own
own_is_module w own (syntax kind) b = own_body_of w own kind b
own_is_module w own (unstable_feature feature) (item, m, uses, off, none) = (m.path, m.is)
own_is_module w own (lists_needed feature) (item, (m, on), uses, none) = (m.path, m.is)
own_is_module w own (cache_left_out name) (attributes, r, (m, on), is, e) = (m.path, m.is)
own_is_module w own (attribute_conflict name one other) (attributes, r, (m, on), is, x) = (m.path, m.is)
own_is_module w own (missing_root key) b = absurd b
own_is_module w own (missing_import path) b = absurd b
own_is_module w own (circular_import one other) b = absurd b
own_is_module w own (missing_module name) b = absurd b
own_is_module w own (ambiguous_module name found) b = absurd b
own_is_module w own (redefinition name) b = absurd b
own_is_module w own (duplicate_variable name) b = absurd b
own_is_module w own (duplicate_set name) b = absurd b
own_is_module w own (duplicate_unexport name) b = absurd b
own_is_module w own (export_unexported name) b = absurd b
own_is_module w own (unknown_alias_target name path) b = absurd b
own_is_module w own (undefined_variable name) b = absurd b
own_is_module w own (unknown_function name) b = absurd b
own_is_module w own (function_argument_count name count) b = absurd b
own_is_module w own (circular_variable names) b = absurd b
own_is_module w own (unknown_dependency name path) b = absurd b
own_is_module w own (circular_recipe names) b = absurd b
own_is_module w own (dependency_argument_count name path count) b = absurd b
own_is_module w own const_error b = absurd b
own_is_module w own (unknown_override text) b = absurd b
own_is_module w own (module_as_recipe path) b = absurd b

module _ (w : World) (owner : ℕ) (own : Text) (os : Os) (is_unstable : Bool) (files : List File) (are : AreFiles w owner own files)
    (whole : (file : File) → Contains files file → IsParsed w.expansion file) (same_os : w.os ≡ os) (same_unstable : w.unstable ≡ is_unstable) where
  truths_same : truths_of w.os w.unstable files ≡ truths_of os is_unstable files
  truths_same = ap (λ s. truths_of s w.unstable files) same_os ∙ ap (λ u. truths_of os u files) same_unstable

  -- a rule that an item of the files breaks is broken
  pub files_broken : (path : List Text) → IsModule w path own → AreSaid w → (o : Overrides) (rule : Rule) → BreaksFiles w (truths_of os is_unstable files) files rule → Broken w o rule
  files_broken path m said o rule b = own_broken w own o rule said (files_own w owner own files are whole path m rule (subst (λ t. BreaksFiles w t files rule) (sym truths_same) b))

  -- where none does no item of the module breaks a rule
  pub files_clear : ((rule : Rule) → BreaksFiles w (truths_of os is_unstable files) files rule → ⊥) → (rule : Rule) → BreaksOwn w own rule → ⊥
  files_clear none rule b = none rule (subst (λ t. BreaksFiles w t files rule) truths_same (own_files w owner own files are whole rule b))

  -- a refusal that names a rule that an item of the files breaks names one that is broken
  pub named_broken : (path : List Text) → IsModule w path own → AreSaid w → (o : Overrides) (error : Error) → IsNamedBy (BreaksFiles w (truths_of os is_unstable files) files) error → IsNamedBy (Broken w o) error
  named_broken path m said o error (rule, is, b) = (rule, is, files_broken path m said o rule b)
