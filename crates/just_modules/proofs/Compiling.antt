-- A justfile is compiled where no rule of sources is broken, and names and numbers are read from what is compiled; where it is refused, the refusal names one that is.
use Rattle.std.proofs.Common.{◌≡◌, inl, inr, sym, ◌∙◌, ap, subst, Bool, true, false, ℕ, List, Some, refl, arith, ◌<◌, ◌≤◌, length, map}
use Rattle.std.specs.Prelude.{◌≢◌, slice_get}
use Rattle.std.specs.BTreeMap.{BTreeMap}
use Rattle.std.specs.List.{All}
use Rattle.std.specs.declared.string.String.{String}
use Rattle.std.proofs.lemmas.Bool.{false≢true}
use Rattle.std.proofs.lemmas.Option.{same_Some, slice_get_within}
use Rattle.just_text.specs.Numbers.{Numbers}
use Rattle.just_text.specs.Tokens.{lexeme}
use Rattle.just_text.specs.declared.os.Os.{Os}
use Rattle.tree_items.specs.Paths.{path_names}
use Rattle.parse_expressions.specs.Literals.{Expansion, from_file}
use Rattle.parse_attributed_items.specs.Held.{IsItemCooked, IsOwnItem}
use Rattle.justfile_syntax.specs.Laws.{FaultsSayNothing, SaysAtMostOne}
use Rattle.semver.specs.declared.Version.{Version}
use Rattle.just_value.specs.Constants.{constant_rows}
use Rattle.modules_compilation.specs.declared.compilation.Compilation.{Compilation}
use Rattle.modules_compilation.specs.declared.error.Error.{Error}
use Rattle.modules_compilation.specs.declared.error.Error.TheVariants.{OutOfMemory, Syntax, MissingRoot, MissingImport, CircularImport, MissingModule, AmbiguousModule, Redefinition, DuplicateVariable, DuplicateSet, DuplicateUnexport, ExportUnexported, UnknownAliasTarget, UnstableFeature, ListsNeeded, CacheLeftOut, AttributeConflict}
use Rattle.modules_compilation.specs.declared.module_node.File.{File}
use Rattle.modules_compilation.specs.declared.module_node.ModuleNode.{ModuleNode}
use Rattle.modules_definitions.specs.Lists.{IsSameModule}
use Rattle.modules_sources.specs.Loaded.{AreLoaded, first_numbers}
use Rattle.meaning_rules.specs.Worlds.Given.{Overrides, Text, World}
use Rattle.meaning_rules.specs.Worlds.Sources.{IsFileOf}
use Rattle.meaning_rules.specs.Worlds.Modules.{IsModule}
use Rattle.meaning_rules.specs.Worlds.Compiled.{FileView}
use Rattle.meaning_rules.specs.Worlds.Standing.{StandsFor}
use Rattle.meaning_rules.proofs.Worlds.There.{worlds_are_there}
use Rattle.meaning_rules.specs.Worlds.Keeping.{Kind, an_alias, a_function, a_recipe, a_setting, a_submodule, a_variable, an_unexport, IsTwice}
use Rattle.meaning_rules.specs.Rules.{Breaks, Broken, Rule, circular_import, is_of_sources, unknown_alias_target}
use Rattle.meaning_rules.specs.Told.{IsTold, rule_of}
use Rattle.meaning_rules.specs.Worlds.Views.{file_view, given_of}
use Rattle.laws_modules.proofs.Files.Loaded.{loaded_are_files}
use Rattle.laws_modules.proofs.Submodules.Files.{found_are_submodules}
use Rattle.laws_modules.proofs.Modules.Loaded.{complete, of_module}
use Rattle.laws_modules.proofs.Modules.Numbers.{bindings_above}
use Rattle.laws_modules.proofs.Modules.Ranges.{there_within}
use Rattle.laws_modules.proofs.Modules.Said.{each_read}
use Rattle.laws_modules.proofs.Modules.There.{world_is_there}
use Rattle.laws_modules.proofs.Modules.Rounds.{no_round}
use Rattle.laws_modules.specs.Names.Meant.{AreFilesCooked, IsMeantWhole}
use Rattle.laws_modules.specs.Names.Names.{AreSetOnce, AreSingle, HasNode, IsOfWorld, views}
use Rattle.laws_modules.proofs.Names.Aliases.{leading_aliases_are_known, other_aliases_are_unknown}
use Rattle.meaning_rules.specs.Worlds.Matching.{MatchSources}
use Rattle.laws_modules.proofs.Matching.Read.{read_file_matches}
use Rattle.just_modules.specs.Aliases.{AllAliasesLead, IsAliasUnknown}
use Rattle.just_modules.specs.Keeping.{AreFilled}
use Rattle.just_modules.specs.Worlds.{HasWorld}
use Rattle.just_modules.specs.Refused.{alias_refused, IsRefused, loading_refused, module_refused}
use Rattle.just_modules.proofs.Clear.{breaks_none, twice_clear}
use Rattle.just_modules.proofs.InWorld.{are_said, is_loaded, modules}
use Rattle.just_modules.proofs.LoadingRefused.{loading_told}
use Rattle.just_modules.proofs.Made.{made}
use Rattle.just_modules.proofs.Unsettled.{unsettled_told}

module _ {Y Z : Type 0} (sources : BTreeMap (String Y) (String Z)) (expansion : Expansion) (version : Version) (os : Os) (unstable : Bool) (start : Numbers) (root : Text) where
  module _ (loaded compilation : Compilation) (are : AreLoaded sources expansion version os start true root loaded) (filled : AreFilled os unstable loaded compilation) (w : World) (stands : StandsFor (given_of sources os unstable expansion version root) w) where
    of_world : IsOfWorld w compilation
    of_world = made sources expansion version os unstable start root loaded compilation are filled w stands

    -- a module was there as it was loaded
    before : (k : ℕ) (node : ModuleNode) → slice_get compilation.modules.items k ≡ Some node → (b : ModuleNode) × (slice_get loaded.modules.items k ≡ Some b) × IsSameModule b node
    before k node e =
        let lt = slice_get_within compilation.modules.items k node e in
        let many = filled.count in
        let b = there_within loaded.modules.items k (omega (arith, lt, many)) in
        let t = filled.each k b.0 b.1 in
        (b.0, b.1, subst (IsSameModule b.0) (same_Some t.0 node (sym t.1 ∙ e)) t.2.gains.same)

    -- no module has two definitions of a name
    twice_in_node : (k : ℕ) (node : ModuleNode) → slice_get compilation.modules.items k ≡ Some node → (kind : Kind) (name : Text) → IsTwice w node.source.now kind name → ⊥
    twice_in_node k node here kind name twice =
        let b = before k node here in
        let m = (modules sources expansion version os unstable start root loaded are w stands).each k b.0 b.1 in
        twice_clear sources expansion version os unstable start root loaded compilation are filled w stands kind name (b.0.source.now, (m.path, m.is), subst (λ own. IsTwice w own kind name) (ap (λ s. s.now) b.2.source) twice)

    single : AreSingle w compilation
    single k node here kind name space twice = twice_in_node k node here kind name twice

    -- nor two settings of a name
    set_once : AreSetOnce w compilation
    set_once k node here name twice = twice_in_node k node here a_setting name twice

    -- each item is what its attributes make of it
    own_items : (k : ℕ) (file : File) → slice_get compilation.files.items k ≡ Some file → All (IsOwnItem w.expansion) file.ast.items.items
    own_items k file e =
        let r = each_read sources expansion version os start loaded.files.items loaded.modules.items are.modules are.linked.covered k file (subst (λ fs. slice_get fs k ≡ Some file) filled.files e) in
        subst (λ x. All (IsOwnItem x) file.ast.items.items) (sym stands.same_expansion) r.1.whole.own

    -- and holds what its strings stand for
    cooked : AreFilesCooked w compilation
    cooked k file e =
        let r = each_read sources expansion version os start loaded.files.items loaded.modules.items are.modules are.linked.covered k file (subst (λ fs. slice_get fs k ≡ Some file) filled.files e) in
        subst (λ x. All (IsItemCooked (from_file file.key.now x)) file.ast.items.items) (sym stands.same_expansion) r.1.whole.cooked

    -- no number of a binding is less than the first one
    numbers_above : (low : ℕ) → low ≤ start.bindings → (k : ℕ) (view : FileView) → slice_get (views w compilation) k ≡ Some view → All (λ number. low ≤ number) view.bindings
    numbers_above low le k view e =
        bindings_above start are.numbers loaded.files.items (are.numbered refl) low le k view (subst (λ fs. slice_get (map file_view fs) k ≡ Some view) filled.files e)

    -- names and numbers are read from the compilation, where numbers begin after those of the constants
    pub meant : length constant_rows ≤ start.bindings → IsMeantWhole w compilation
    meant le = record { meant = record { of = of_world; single = single; settings = set_once; options = own_items; above = numbers_above (length constant_rows) le }; cooked = cooked }

    -- no file leads back to itself
    no_circle : (o : Overrides) (current other : Text) → Breaks w o (circular_import current other) → ⊥
    no_circle o current other (reached, inl (imports, (count, leads))) =
        let h = is_loaded sources expansion version os unstable start root loaded are w stands in
        let m = of_module sources (loaded_are_files sources) (found_are_submodules sources) w loaded h current reached in
        let p = complete sources (loaded_are_files sources) (found_are_submodules sources) w loaded h m.0 m.1 m.2 in
        ((modules sources expansion version os unstable start root loaded are w stands).each p.k p.node p.there).own_files.no_round current other count (subst (λ own. IsFileOf w own current) (sym p.source) m.3) imports leads
    no_circle o current other (reached, inr ((name, sub), comes)) =
        no_round sources (loaded_are_files sources) (found_are_submodules sources) w loaded (is_loaded sources expansion version os unstable start root loaded are w stands) current other name reached sub comes

    -- no rule of sources is broken
    pub none_broken : FaultsSayNothing → AllAliasesLead compilation → (o : Overrides) (rule : Rule) → is_of_sources rule ≡ true → Broken w o rule → ⊥
    none_broken faultless lead o rule is broken =
        breaks_none sources expansion version os unstable start root loaded compilation are filled w stands faultless o (no_circle o)
        (leading_aliases_are_known w compilation of_world single (λ k alias keeps. lead k keeps.node keeps.here keeps.i keeps.place keeps.listed alias keeps.there) o) rule is broken.breaks

    -- an alias that stands for nothing is told
    alias_told : (o : Overrides) (error : Error) → IsAliasUnknown compilation error → IsTold (Broken w o) error
    alias_told o error h =
        let u = h.unknown.unknown in
        inr (
          unknown_alias_target (lexeme u.alias.name.token) (path_names u.alias.target),
          ap rule_of u.told,
          other_aliases_are_unknown w compilation of_world single (are_said sources expansion version os unstable start root loaded are w stands) o h.place u.alias
              (record { node = h.node; here = h.there; i = h.unknown.i; place = h.unknown.at; listed = h.unknown.there; there = u.there }) u.nowhere,
        )

  -- the files that were loaded are told
  pub files_told : (loaded compilation : Compilation) → AreLoaded sources expansion version os start true root loaded → AreFilled os unstable loaded compilation → MatchSources (given_of sources os unstable expansion version root) compilation
  files_told loaded compilation are filled k file e =
      let r = each_read sources expansion version os start loaded.files.items loaded.modules.items are.modules are.linked.covered k file (subst (λ fs. slice_get fs k ≡ Some file) filled.files e) in
      read_file_matches (given_of sources os unstable expansion version root) file (r.1.text, r.1.there, r.1.says) r.1.whole.own r.1.whole.cooked

  -- there is a world that what was loaded stands for
  pub has_world : SaysAtMostOne → FaultsSayNothing → (loaded : Compilation) → AreLoaded sources expansion version os start true root loaded → HasWorld os unstable sources expansion version root
  has_world one faultless loaded are = world_is_there sources (loaded_are_files sources) (found_are_submodules sources) worlds_are_there one faultless os unstable expansion version root start loaded are

  -- a justfile that is refused is told
  pub refused_told : (w : World) → StandsFor (given_of sources os unstable expansion version root) w → (o : Overrides) (error : Error) → IsRefused os unstable sources expansion version start true root error → IsTold (Broken w o) error
  refused_told w stands o error (loading_refused h) = loading_told sources expansion version os unstable start root w stands o error h
  refused_told w stands o error (module_refused loaded are h) = unsettled_told sources expansion version os unstable start root loaded are w stands o error h
  refused_told w stands o error (alias_refused loaded filled are f h) = alias_told loaded filled are f w stands o error h

-- the first numbers are those after the constants
pub after_constants : length constant_rows ≤ first_numbers.bindings
after_constants = omega arith

-- want of memory is one of those that are told
pub told_unless : (P : Rule → Type 0) (error : Error) → (error ≢ OutOfMemory → IsTold P error) → IsTold P error
told_unless P OutOfMemory h = inl tt
told_unless P (Syntax e) h = h (λ is. absurd (cc is))
told_unless P (MissingRoot key) h = h (λ is. absurd (cc is))
told_unless P (MissingImport key) h = h (λ is. absurd (cc is))
told_unless P (CircularImport current other) h = h (λ is. absurd (cc is))
told_unless P (MissingModule name) h = h (λ is. absurd (cc is))
told_unless P (AmbiguousModule name found) h = h (λ is. absurd (cc is))
told_unless P (Redefinition name) h = h (λ is. absurd (cc is))
told_unless P (DuplicateVariable name) h = h (λ is. absurd (cc is))
told_unless P (DuplicateSet name) h = h (λ is. absurd (cc is))
told_unless P (DuplicateUnexport name) h = h (λ is. absurd (cc is))
told_unless P (ExportUnexported name) h = h (λ is. absurd (cc is))
told_unless P (UnknownAliasTarget alias target) h = h (λ is. absurd (cc is))
told_unless P (UnstableFeature feature token) h = h (λ is. absurd (cc is))
told_unless P (ListsNeeded feature token) h = h (λ is. absurd (cc is))
told_unless P (CacheLeftOut recipe) h = h (λ is. absurd (cc is))
told_unless P (AttributeConflict recipe one other) h = h (λ is. absurd (cc is))
