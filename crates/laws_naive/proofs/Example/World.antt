-- The world of the small justfile breaks no rule.
use Rattle.std.specs.Prelude.{◌≡◌, ◌<◌, ◌++◌, cond, ℕ, zero, suc, List, [], ◌∷◌, length, Bool, true, false, Some, None, Contains, codes, slice_get}
use Rattle.std.proofs.Common.{arith, refl, ◌⊎◌, inl, inr, subst, sym, ap, ◌∙◌}
use Rattle.std.specs.Str.{bytes_eq}
use Rattle.std.proofs.lemmas.Option.{same_Some, none-some}
use Rattle.std.proofs.lemmas.Slice.Eq.{bytes_eq-Decides}
use Rattle.just_text.specs.declared.compile_error.CompileErrorKind.{CompileErrorKind}
use Rattle.just_text.specs.declared.compile_error.CompileErrorKind.TheVariants as kinds
use Rattle.tree_attributes.specs.Attributes.{AttributeShape}
use Rattle.tree_attributes.specs.declared.attribute.AttributeKind.{AttributeKind}
use Rattle.tree_attributes.specs.declared.attribute.AttributeKind.TheVariants.{Cache, ExitMessage, NoCd, Script}
use Rattle.tree_expressions.specs.Shape.{command}
use Rattle.tree_items.specs.Files.{ItemShape, assignment_item, recipe_item, import_item, module_item, alias_item, unexport_item}
use Rattle.tree_items.specs.Items.{ImportShape, ModuleShape, AliasShape}
use Rattle.tree_items.specs.Lines.{Piece, begins_with_space, text}
use Rattle.tree_items.specs.Recipes.{RecipeShape, DependencyShape}
use Rattle.tree_items.specs.declared.ast.UnstableFeature.{UnstableFeature}
use Rattle.tree_items.specs.declared.ast.ListFeature.{ListFeature}
use Rattle.modules_compilation.specs.Paths.{is_clean}
use Rattle.meaning_rules.specs.Worlds.Given.{Text}
use Rattle.meaning_rules.specs.Worlds.Sources.{Has, Imports, IsSubmodule, Leads, itself, further, Reached, root as at_root, imported, submodule}
use Rattle.meaning_rules.specs.Worlds.Modules.{IsModule, root as root_module, inside}
use Rattle.meaning_rules.specs.Worlds.Keeping.{Kind, a_recipe, a_setting, a_variable, Defines, IsOn, IsTwice, space_of, defined_by}
use Rattle.meaning_rules.proofs.Worlds.Places.{contains_cases, contains_none}
use Rattle.meaning_rules.specs.Naming.{Part, Occurrence, occurrences, part, parts_of}
use Rattle.meaning_rules.specs.Fixed.{value_of}
use Rattle.meaning_rules.specs.Reading.{PartReads, VariableWalk, named, called}
use Rattle.meaning_rules.specs.Constants.{BreaksConstants, IsReadBySettings, directly, through}
use Rattle.meaning_rules.specs.Depending.{RecipeWalk}
use Rattle.meaning_rules.specs.Rules.{Rule, Breaks, BreaksDependency, of_kept, of_disabled, Excludes, by_folder, by_script, by_message, HasAlias, HasLine, HasPart, looked, IsBodyFault, IsLooked, IsRound, UsesList, in_part, by_star, UsesUnstable, defining, caching, setting_lists, lists_in, has_star}
use Rattle.meaning_rules.specs.Rules as rules
use Rattle.just_meaning.specs.Known.{BreaksNoRule}
use Rattle.laws_naive.specs.Example.Justfile.{assignment, items, recipe, root, world}

-- ---- what the file says

abbrev pub i0 : ItemShape
i0 = assignment_item [] assignment

abbrev pub i1 : ItemShape
i1 = recipe_item [] recipe

said_at : (key : Text) (b : Bool) → bytes_eq key root ≡ b → (its : List ItemShape) → cond b (Some items) None ≡ Some its → (key ≡ root) × (items ≡ its)
said_at key true e its h = ((bytes_eq-Decides key root).0 e, same_Some _ _ h)
said_at key false e its h = absurd (none-some _ h)

at_place : (P : ℕ → ItemShape → Type 0) → P 0 i0 → P 1 i1 → (place : ℕ) (item : ItemShape) → slice_get items place ≡ Some item → P place item
at_place P first second zero item e = subst (P 0) (same_Some _ _ e) first
at_place P first second (suc zero) item e = subst (P 1) (same_Some _ _ e) second
at_place P first second (suc (suc k)) item e = absurd (none-some _ e)

-- what holds of both items holds of each that there is
pub by_item : (P : ℕ → ItemShape → Type 0) → P 0 i0 → P 1 i1 → (key : Text) (place : ℕ) (item : ItemShape) → Has world key place item → P place item
by_item P first second key place item h = let s = said_at key _ refl h.items h.says in at_place P first second place item (subst (λ its. slice_get its place ≡ Some item) (sym s.1) h.at)

pub key_is : (key : Text) (place : ℕ) (item : ItemShape) → Has world key place item → key ≡ root
key_is key place item h = (said_at key _ refl h.items h.says).0

-- ---- no file leads to another

no_import : (file : Text) (place : ℕ) (line : ImportShape) → Has world file place (import_item line) → ⊥
no_import file place line h = by_item (λ p item. item ≡ import_item line → ⊥) (λ e. cc) (λ e. cc) file place (import_item line) h refl

no_module : (file : Text) (place : ℕ) (attributes : List AttributeShape) (m : ModuleShape) → Has world file place (module_item attributes m) → ⊥
no_module file place attributes m h = by_item (λ p item. item ≡ module_item attributes m → ⊥) (λ e. cc) (λ e. cc) file place (module_item attributes m) h refl

no_imports : (file other : Text) → Imports world file other → ⊥
no_imports file other i = no_import file i.place i.line.line i.line.has

no_submodule : (file name key : Text) → IsSubmodule world file name key → ⊥
no_submodule file name key s = no_module file s.place s.has.attributes s.line s.has.has

pub leads_home : (own : Text) (count : ℕ) (file : Text) → Leads world own count file → file ≡ own
leads_home own count file itself = refl
leads_home own count file (further l i) = absurd (no_imports _ _ i)

pub reached_root : (key : Text) → Reached world key → key ≡ root
reached_root key at_root = refl
reached_root key (imported r i) = absurd (no_imports _ _ i)
reached_root key (submodule r s) = absurd (no_submodule _ _ _ s)

pub module_root : (path : List Text) (own : Text) → IsModule world path own → (path ≡ []) × (own ≡ root)
module_root path own root_module = (refl, refl)
module_root path own (inside m f s) = absurd (no_submodule _ _ _ s)

-- ---- what is defined

abbrev pub Def : Kind → Text → ℕ → ItemShape → Type 0
Def kind name place item = ((kind ≡ a_variable) × (name ≡ codes "v") × (place ≡ 0) × (item ≡ i0)) ⊎ ((kind ≡ a_recipe) × (name ≡ codes "a") × (place ≡ 1) × (item ≡ i1))

pub def_is : (own : Text) (kind : Kind) (name key : Text) (place : ℕ) (item : ItemShape) → Defines world own kind name key place item → Def kind name place item
def_is own kind name key place item d = by_item (λ p i. defined_by world.os i ≡ Some (kind, name) → Def kind name p i)
    (λ e. let s = same_Some _ _ e in inl (sym (ap (λ t. t.0) s), sym (ap (λ t. t.1) s), refl, refl)) (λ e. let s = same_Some _ _ e in inr (sym (ap (λ t. t.0) s), sym (ap (λ t. t.1) s), refl, refl)) key place item d.has d.is

pub no_setting : (own name key : Text) (place : ℕ) (item : ItemShape) → Defines world own a_setting name key place item → ⊥
no_setting own name key place item d = by_def (def_is own a_setting name key place item d)
  where
    by_def : Def a_setting name place item → ⊥
    by_def (inl h) = let e : a_setting ≡ a_variable = h.0 in cc
    by_def (inr h) = let e : a_setting ≡ a_recipe = h.0 in cc

pub not_on : (own name : Text) → IsOn world own name → ⊥
not_on own name s = no_setting own name s.key s.place _ s.defines

abbrev attributes_in : ItemShape → List AttributeShape
attributes_in (recipe_item attributes r) = attributes
attributes_in other = []

abbrev recipe_in : ItemShape → RecipeShape
recipe_in (recipe_item attributes r) = r
recipe_in other = recipe

pub recipe_is : (key : Text) (place : ℕ) (attributes : List AttributeShape) (r : RecipeShape) → Has world key place (recipe_item attributes r) → (attributes ≡ []) × (r ≡ recipe)
recipe_is key place attributes r h = by_item (λ p item. item ≡ recipe_item attributes r → (attributes ≡ []) × (r ≡ recipe)) (λ e. absurd cc) (λ e. (sym (ap attributes_in e), sym (ap recipe_in e))) key place (recipe_item attributes r) h refl

-- ---- rules

twice_none : (own : Text) (kind : Kind) (name : Text) → IsTwice world own kind name → ⊥
twice_none own kind name t = by_defs (def_is own kind name t.key t.place t.item t.defines) (def_is own t.kind' name t.key' t.place' t.item' t.defines') t.spaces t.others
  where
    by_places : (t.key ≡ t.key' → ⊥) ⊎ (t.place ≡ t.place' → ⊥) → t.place ≡ t.place' → ⊥
    by_places (inl n) e = n (key_is t.key t.place t.item t.defines.has ∙ sym (key_is t.key' t.place' t.item' t.defines'.has))
    by_places (inr n) e = n e

    by_defs : Def kind name t.place t.item → Def t.kind' name t.place' t.item' → space_of kind ≡ space_of t.kind' → (t.key ≡ t.key' → ⊥) ⊎ (t.place ≡ t.place' → ⊥) → ⊥
    by_defs (inl h) (inl k) s o = by_places o (h.2 ∙ sym k.2)
    by_defs (inr h) (inr k) s o = by_places o (h.2 ∙ sym k.2)
    by_defs (inl h) (inr k) s o = let e : space_of a_variable ≡ space_of a_recipe = sym (ap space_of h.0) ∙ s ∙ ap space_of k.0 in cc
    by_defs (inr h) (inl k) s o = let e : space_of a_recipe ≡ space_of a_variable = sym (ap space_of h.0) ∙ s ∙ ap space_of k.0 in cc

has_none : (kind : AttributeKind) (attributes : List AttributeShape) → attributes ≡ [] → rules.has kind attributes ≡ true → ⊥
has_none kind attributes e h = let f : rules.has kind [] ≡ true = subst (λ l. rules.has kind l ≡ true) e h in cc

unstable_none : (item : ItemShape) (feature : UnstableFeature) → UsesUnstable item feature → (item ≡ i0) ⊎ (item ≡ i1) → ⊥
unstable_none item feature defining (inl e) = cc
unstable_none item feature defining (inr e) = cc
unstable_none item feature (caching h) (inl e) = cc
unstable_none item feature (caching {attributes = attributes} h) (inr e) = has_none Cache attributes (ap attributes_in e) h
unstable_none item feature (setting_lists h) (inl e) = cc
unstable_none item feature (setting_lists h) (inr e) = cc

pub which : (key : Text) (place : ℕ) (item : ItemShape) → Has world key place item → (item ≡ i0) ⊎ (item ≡ i1)
which key place item h = by_item (λ p i. (i ≡ i0) ⊎ (i ≡ i1)) (inl refl) (inr refl) key place item h

-- the one part that there is
pub part_is : (key : Text) (place : ℕ) (item : ItemShape) → Has world key place item → (p : Part) → Contains (parts_of (value_of world.expansion) item) p → p ≡ part [] (command (codes "`x`"))
part_is key place item h = by_item (λ q i. (p : Part) → Contains (parts_of (value_of world.expansion) i) p → p ≡ part [] (command (codes "`x`")))
    (λ p c. elim (contains_cases (part [] (command (codes "`x`"))) [] p c) [ inl e ↦ sym e | inr n ↦ absurd (contains_none [] p refl n) ]) (λ p c. absurd (contains_none [] p refl c)) key place item h

lists_none : (key : Text) (place : ℕ) (item : ItemShape) → Has world key place item → (feature : ListFeature) → UsesList world item feature → ⊥
unfolding lists_in
lists_none key place item h feature (in_part {p = p} there uses) = let e = part_is key place item h p there in contains_none (lists_in false p.said) feature (ap (λ (q : Part). lists_in false q.said) e) uses
lists_none key place item h feature (by_star {attributes = attributes} {r = r} star) = let e = recipe_is key place attributes r h in let f : has_star recipe ≡ true = subst (λ s. has_star s ≡ true) e.1 star in cc

occurs_none : (p : Part) (o : Occurrence) → p ≡ part [] (command (codes "`x`")) → Contains (occurrences p.said) o → ⊥
unfolding occurrences
occurs_none p o e c = contains_none (occurrences p.said) o (ap (λ (q : Part). occurrences q.said) e) c

has_part : (own : Text) (p : Part) → HasPart world own p → p ≡ part [] (command (codes "`x`"))
has_part own p h = by_looked h.0 h.1 h.2
  where
    by_looked : (item : ItemShape) → IsLooked world own item → Contains (parts_of (value_of world.expansion) item) p → p ≡ part [] (command (codes "`x`"))
    by_looked item (looked m k) there = part_is k.key k.place item k.kept.defines.has p there

reads_none : (own : Text) (p : Part) (name : Text) → p ≡ part [] (command (codes "`x`")) → PartReads world own p name → ⊥
reads_none own p name e (named n) = occurs_none p _ e n.occurs
reads_none own p name e (called c r) = occurs_none p _ e c.occurs

-- the recipe has no dependency
no_dependency : (key : Text) (place : ℕ) (attributes : List AttributeShape) (r : RecipeShape) → Has world key place (recipe_item attributes r) → (d : DependencyShape) → Contains (r.priors ++ r.subsequents) d → ⊥
no_dependency key place attributes r h d c = contains_none (r.priors ++ r.subsequents) d (ap (λ (s : RecipeShape). s.priors ++ s.subsequents) (recipe_is key place attributes r h).1) c

dependencies_none : (rule : Rule) → BreaksDependency world rule → ⊥
dependencies_none rule (of_kept h m) = no_dependency h.there.key h.there.place h.attributes h.recipe h.there.kept.defines.has _ h.listed
dependencies_none rule (of_disabled h m) = no_dependency h.there.0.file h.there.0.place h.attributes h.recipe h.there.0.has _ h.listed

alias_none : (own : Text) (a : AliasShape) → HasAlias world own a → ⊥
alias_none own a h = let k = h.1.1 in by_item (λ p i. i ≡ alias_item h.1.0 a → ⊥) (λ e. cc) (λ e. cc) k.key k.place _ k.kept.defines.has refl

read_by_none : (path : List Text) (own name : Text) → IsReadBySettings world [] path own name → ⊥
read_by_none path own name (directly h p r) = no_setting own _ h.key h.place _ h.defines
read_by_none path own name (through r o k) = read_by_none path own _ r

constants_none : (path : List Text) (own : Text) → BreaksConstants world [] path own → ⊥
constants_none path own (inl h) = no_setting own _ h.1.key h.1.place _ h.1.defines
constants_none path own (inr h) = read_by_none path own h.0 h.2

excludes_none : (attributes : List AttributeShape) (r : RecipeShape) (one other : Text) → attributes ≡ [] → Excludes attributes r one other → ⊥
excludes_none attributes r one other e (by_folder h k) = has_none NoCd attributes e h
excludes_none attributes r one other e (by_script h k) = has_none Script attributes e h
excludes_none attributes r one other e (by_message h k) = has_none ExitMessage attributes e h

line_is : (r : RecipeShape) (place : ℕ) (line : List Piece) → r ≡ recipe → slice_get r.body place ≡ Some line → line ≡ text (codes "echo a") ∷ []
line_is r place line e at = by_place place (subst (λ (s : RecipeShape). slice_get s.body place ≡ Some line) e at)
  where
    by_place : (place : ℕ) → slice_get recipe.body place ≡ Some line → line ≡ text (codes "echo a") ∷ []
    by_place zero f = sym (same_Some _ _ f)
    by_place (suc k) f = absurd (none-some _ f)

-- no line begins with a space
extra_none : (own : Text) → HasLine world own (λ line. begins_with_space (rules.first_of line) ≡ true) → ⊥
extra_none own h =
    let r = h.1 in
    let s = r.1 in
    let e = recipe_is s.0.file s.0.place h.0 r.0 s.0.has in
    let l = r.3 in
    let line = line_is r.0 l.1.place l.0 e.1 l.1.at in
    let f : begins_with_space (rules.first_of (text (codes "echo a") ∷ [])) ≡ true = subst (λ q. begins_with_space (rules.first_of q) ≡ true) line l.2 in cc

body_none : (kind : CompileErrorKind) → IsBodyFault world kind → ⊥
body_none kinds.ExtraLeadingWhitespace b = extra_none b.0 b.1
body_none kinds.GuardAndInfallible b = let l = b.1.1.3 in not_on _ _ l.2.0
body_none kinds.OutOfMemory b = b
body_none kinds.NumbersUsed b = b
body_none (kinds.UnknownStartOfToken x0) b = b
body_none (kinds.UnexpectedCharacter x0) b = b
body_none kinds.UnterminatedString b = b
body_none kinds.UnterminatedBacktick b = b
body_none kinds.UnterminatedInterpolation b = b
body_none (kinds.InvalidEscapeSequence x0) b = b
body_none (kinds.MismatchedClosingDelimiter x0 x1) b = b
body_none (kinds.UnexpectedClosingDelimiter x0) b = b
body_none (kinds.ShellExpansion x0) b = b
body_none kinds.UnpairedCarriageReturn b = b
body_none kinds.MixedLeadingWhitespace b = b
body_none kinds.InconsistentLeadingWhitespace b = b
body_none (kinds.UnexpectedToken x0) b = b
body_none kinds.ParsingRecursionDepthExceeded b = b
body_none kinds.BacktickShebang b = b
body_none (kinds.UnknownSetting x0) b = b
body_none (kinds.UnknownAttribute x0) b = b
body_none (kinds.AttributeArgumentCount x0 x1) b = b
body_none (kinds.InvalidAttribute x0 x1) b = b
body_none (kinds.DuplicateAttribute x0) b = b
body_none (kinds.DuplicateParameter x0) b = b
body_none (kinds.ParameterFollowsVariadic x0) b = b
body_none (kinds.RequiredParameterFollowsDefault x0) b = b
body_none (kinds.MinimumVersion x0 x1) b = b
body_none kinds.TwoStars b = b
body_none (kinds.InvalidSetting x0 x1) b = b

clean : is_clean root ≡ true
unfolding is_clean
clean = refl

pub breaks_none : (rule : Rule) → Breaks world [] rule → ⊥
breaks_none (rules.syntax kind) (inl h) = let e : false ≡ true = h.2 in cc
breaks_none (rules.syntax kind) (inr h) = body_none kind h.1
breaks_none (rules.missing_root key) h = by_root h.0 h.1
  where
    by_root : key ≡ root → (is_clean key ≡ false) ⊎ (world.there key ≡ false) → ⊥
    by_root e (inl n) = let f : is_clean root ≡ false = subst (λ k. is_clean k ≡ false) e n in let g : true ≡ false = sym clean ∙ f in cc
    by_root e (inr n) = let f : world.there root ≡ false = subst (λ k. world.there k ≡ false) e n in cc
breaks_none (rules.missing_import told) h = no_import h.0 h.1 h.4.line h.4.has
breaks_none (rules.circular_import current other) h = by_way h.1
  where
    by_way : IsRound world current other → ⊥
    by_way (inl i) = no_imports _ _ i.0
    by_way (inr s) = no_submodule _ _ _ s.0.1
breaks_none (rules.missing_module name) h = no_module h.0 h.1 h.4.attributes h.2 h.4.has
breaks_none (rules.ambiguous_module name found) h = no_module h.0 h.1 h.4.attributes h.2 h.4.has
breaks_none (rules.redefinition name) (inl h) = twice_none _ _ _ h.2
breaks_none (rules.redefinition name) (inr (inl h)) = twice_none _ _ _ h.2
breaks_none (rules.redefinition name) (inr (inr (inl h))) = twice_none _ _ _ h.2
breaks_none (rules.redefinition name) (inr (inr (inr h))) = twice_none _ _ _ h.2
breaks_none (rules.duplicate_variable name) h = twice_none _ _ _ h.2
breaks_none (rules.duplicate_set name) h = twice_none _ _ _ h.2
breaks_none (rules.duplicate_unexport name) h = twice_none _ _ _ h.2
breaks_none (rules.export_unexported name) h = let m = h.6 in by_item (λ p i. i ≡ unexport_item name → ⊥) (λ e. cc) (λ e. cc) m.file m.place _ m.has refl
breaks_none (rules.unknown_alias_target alias target) h = alias_none h.0 h.1 h.2
breaks_none (rules.unstable_feature feature) h = unstable_none h.1 feature h.3 (which h.2.file h.2.place h.1 h.2.has)
breaks_none (rules.lists_needed feature) h = lists_none h.2.0.file h.2.0.place h.1 h.2.0.has feature h.3
breaks_none (rules.cache_left_out name) h = has_none Cache h.1 (recipe_is h.3.0.file h.3.0.place h.1 h.2 h.3.0.has).0 h.5
breaks_none (rules.attribute_conflict name one other) h = excludes_none h.1 h.2 one other (recipe_is h.3.0.file h.3.0.place h.1 h.2 h.3.0.has).0 h.5
breaks_none (rules.undefined_variable name) h = occurs_none h.1 _ (has_part h.0 h.1 h.2) h.3
breaks_none (rules.unknown_function name) h = occurs_none h.1 _ (has_part h.0 h.1 h.3) h.4
breaks_none (rules.function_argument_count name count) h = occurs_none h.1 _ (has_part h.0 h.1 h.2) h.3
breaks_none (rules.circular_variable names) h = by_names names h.2.long h.2.walk
  where
    by_names : (names : List Text) → 1 < length names → VariableWalk world h.0 names → ⊥
    by_names [] long walk = absurd (omega (arith, long))
    by_names (x ∷ []) long walk = absurd (omega (arith, long))
    by_names (x ∷ y ∷ others) long walk = let k = walk.0 in let r = k.reads in reads_none h.0 r.0 y (part_is k.kept.key k.kept.place k.item k.kept.kept.defines.has r.0 r.1) r.2
breaks_none (rules.unknown_dependency name path) h = dependencies_none _ h
breaks_none (rules.circular_recipe names) h = by_recipes h.0 h.1.long h.1.walk
  where
    by_recipes : (recipes : List (List Text × Text)) → 1 < length recipes → RecipeWalk world recipes → ⊥
    by_recipes [] long walk = absurd (omega (arith, long))
    by_recipes (x ∷ []) long walk = absurd (omega (arith, long))
    by_recipes (x ∷ y ∷ others) long walk = let d = walk.0 in no_dependency d.kept.key d.kept.place d.attributes d.recipe d.kept.kept.defines.has d.dependency d.listed
breaks_none (rules.dependency_argument_count name path count) h = dependencies_none _ h
breaks_none rules.const_error h = constants_none h.0 h.1 h.3
breaks_none (rules.unknown_override written) h = contains_none [] written refl h.0
breaks_none (rules.module_as_recipe path) (inl h) = dependencies_none _ h
breaks_none (rules.module_as_recipe path) (inr h) = alias_none h.0 h.1 h.2

pub no_rule : BreaksNoRule world []
no_rule rule broken = breaks_none rule broken.breaks
