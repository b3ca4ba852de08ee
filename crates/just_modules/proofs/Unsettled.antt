-- Where a module that is loaded is refused, the refusal names a rule that is broken.
use Rattle.std.proofs.Common.{◌≡◌, inl, inr, sym, subst, true, Bool, ℕ, List, Some, refl}
use Rattle.std.specs.Prelude.{slice_get}
use Rattle.std.specs.BTreeMap.{BTreeMap}
use Rattle.std.specs.declared.string.String.{String}
use Rattle.std.proofs.lemmas.Option.{none-some, same_Some}
use Rattle.just_text.specs.Numbers.{Numbers}
use Rattle.just_text.specs.Tokens.{lexeme}
use Rattle.just_text.specs.declared.os.Os.{Os}
use Rattle.parse_expressions.specs.Literals.{Expansion}
use Rattle.semver.specs.declared.Version.{Version}
use Rattle.modules_compilation.specs.declared.compilation.Compilation.{Compilation}
use Rattle.modules_compilation.specs.declared.error.Error.{Error}
use Rattle.modules_compilation.specs.declared.module_node.ModuleNode.{ModuleNode}
use Rattle.modules_definitions.specs.Keeping.{refusal_of}
use Rattle.modules_definitions.specs.declared.definition.Definition.{Definition}
use Rattle.modules_definitions.specs.declared.definition.Kind.{Kind as FoundKind}
use Rattle.modules_definitions.specs.declared.definition.Kind.TheVariants as found
use Rattle.modules_sources.specs.Loaded.{AreLoaded}
use Rattle.meaning_rules.specs.Worlds.Given.{Overrides, Text, World}
use Rattle.meaning_rules.specs.Worlds.Keeping.{IsTwice, Kind, an_alias, a_function, a_recipe, a_setting, a_submodule, a_variable, an_unexport}
use Rattle.meaning_rules.specs.Worlds.Modules.{IsModule}
use Rattle.meaning_rules.specs.Worlds.Sources.{AreSaid}
use Rattle.meaning_rules.specs.Worlds.Standing.{StandsFor}
use Rattle.meaning_rules.proofs.Worlds.Places.{contains_at}
use Rattle.meaning_rules.specs.Rules.{Broken, redefinition, duplicate_variable, duplicate_set, duplicate_unexport}
use Rattle.meaning_rules.specs.Told.{IsNamedBy, IsTold}
use Rattle.meaning_rules.specs.Worlds.Views.{given_of}
use Rattle.laws_modules.specs.Definitions.Kinds.{kind_of}
use Rattle.laws_modules.proofs.Definitions.Twice.{duplicates_are_twice}
use Rattle.just_modules.specs.Keeping.{AreDefinitionsOf, AreRefused, AreRefusedIn, by_item, by_definition, duplicate, export, IsFirstRefused, files_of, range_of, truths_in}
use Rattle.just_modules.specs.Settings.{allowed_by}
use Rattle.just_modules.proofs.ModuleExports.{export_broken}
use Rattle.just_modules.proofs.ModuleRules.{named_broken}
use Rattle.just_modules.proofs.InWorld.{are_said, modules, node_allowed, node_apart, node_files, node_found, node_parsed}

-- the definition, of this kind
abbrev with_kind : Definition → FoundKind → Definition
with_kind d kind = record { space = d.space; front = d.front; text = d.text; place = d.place; kind = kind; name = d.name }

-- the refusal of a definition names the rule that a module breaks where a name has two of its kind
module _ (w : World) (o : Overrides) (said : AreSaid w) (path : List Text) (own : Text) (is : IsModule w path own) (d : Definition) where
  named_kind : (found_kind : FoundKind) (kind : Kind) → kind_of found_kind ≡ Some kind → IsTwice w own kind (lexeme d.name.now.token) → IsNamedBy (Broken w o) (refusal_of (with_kind d found_kind))
  named_kind found.Alias kind e t = let same = same_Some an_alias kind e in (
    redefinition (lexeme d.name.now.token),
    refl,
    record { said = λ f. said; breaks = inl (own, (path, is), subst (λ k. IsTwice w own k (lexeme d.name.now.token)) (sym same) t) },
  )
  named_kind found.Disabled kind e t = absurd (none-some kind e)
  named_kind found.Function kind e t = let same = same_Some a_function kind e in (
    redefinition (lexeme d.name.now.token),
    refl,
    record { said = λ f. said; breaks = inr (inl (own, (path, is), subst (λ k. IsTwice w own k (lexeme d.name.now.token)) (sym same) t)) },
  )
  named_kind (found.Module inner) kind e t = let same = same_Some a_submodule kind e in (
    redefinition (lexeme d.name.now.token),
    refl,
    record { said = λ f. said; breaks = inr (inr (inr (own, (path, is), subst (λ k. IsTwice w own k (lexeme d.name.now.token)) (sym same) t))) },
  )
  named_kind found.Recipe kind e t = let same = same_Some a_recipe kind e in (
    redefinition (lexeme d.name.now.token),
    refl,
    record { said = λ f. said; breaks = inr (inr (inl (own, (path, is), subst (λ k. IsTwice w own k (lexeme d.name.now.token)) (sym same) t))) },
  )
  named_kind found.Set kind e t = let same = same_Some a_setting kind e in (
    duplicate_set (lexeme d.name.now.token),
    refl,
    record { said = λ f. said; breaks = (own, (path, is), subst (λ k. IsTwice w own k (lexeme d.name.now.token)) (sym same) t) },
  )
  named_kind found.Unexport kind e t = let same = same_Some an_unexport kind e in (
    duplicate_unexport (lexeme d.name.now.token),
    refl,
    record { said = λ f. said; breaks = (own, (path, is), subst (λ k. IsTwice w own k (lexeme d.name.now.token)) (sym same) t) },
  )
  named_kind found.Variable kind e t = let same = same_Some a_variable kind e in (
    duplicate_variable (lexeme d.name.now.token),
    refl,
    record { said = λ f. said; breaks = (own, (path, is), subst (λ k. IsTwice w own k (lexeme d.name.now.token)) (sym same) t) },
  )

  pub named_twice : (kind : Kind) → kind_of d.kind ≡ Some kind → IsTwice w own kind (lexeme d.name.now.token) → IsNamedBy (Broken w o) (refusal_of d)
  named_twice kind e t = named_kind d.kind kind e t

module _ {Y Z : Type 0} (sources : BTreeMap (String Y) (String Z)) (expansion : Expansion) (version : Version) (os : Os) (unstable : Bool) (start : Numbers) (root : Text) (loaded : Compilation)
    (are : AreLoaded sources expansion version os start true root loaded) (w : World) (stands : StandsFor (given_of sources os unstable expansion version root) w) (o : Overrides) where
  module _ (k : ℕ) (node : ModuleNode) (e : slice_get loaded.modules.items k ≡ Some node) (definitions : List Definition) (defined : AreDefinitionsOf os unstable loaded.files.items loaded.modules.items node definitions) where
    by_definitions : (error : Error) → AreRefused loaded.files.items (allowed_by (truths_in os unstable loaded.files.items (range_of node))) definitions error → IsNamedBy (Broken w o) error
    by_definitions error (export {d} first) =
        let here = (modules sources expansion version os unstable start root loaded are w stands).each k node e in
        export_broken w k node.source.now os unstable loaded.files.items loaded.modules.items node definitions stands.same_os (node_files sources expansion version os unstable start root loaded are w stands k node e) defined
        here.path here.is (are_said sources expansion version os unstable start root loaded are w stands) o d first
    by_definitions error (duplicate {second} none h) =
        let here = (modules sources expansion version os unstable start root loaded are w stands).each k node e in
        let t = duplicates_are_twice w os loaded.files.items loaded.modules.items k node definitions (allowed_by (truths_in os unstable loaded.files.items (range_of node))) second
        (node_found sources expansion version os unstable start root loaded are w stands k node e definitions defined)
        (node_apart sources expansion version os unstable start root loaded are w stands k node e definitions defined)
        (node_allowed sources expansion version os unstable start root loaded are w stands k node e) h in
        let text : second.text.now ≡ lexeme second.name.now.token = (defined.each.sound second (contains_at definitions h.j second h.is)).1.text_is in
        named_twice w o (are_said sources expansion version os unstable start root loaded are w stands) here.path node.source.now here.is second t.0 t.1 (subst (IsTwice w node.source.now t.0) text t.2)

    refused_named : (error : Error) → AreRefusedIn os unstable loaded.files.items (range_of node) definitions error → IsNamedBy (Broken w o) error
    refused_named error (by_item named) =
        let here = (modules sources expansion version os unstable start root loaded are w stands).each k node e in
        named_broken w k node.source.now os unstable (files_of loaded.files.items (range_of node)) (node_files sources expansion version os unstable start root loaded are w stands k node e)
        (node_parsed sources expansion version os unstable start root loaded are w stands k node e) stands.same_os stands.same_unstable here.path here.is
        (are_said sources expansion version os unstable start root loaded are w stands) o error (named w stands.same_os)
    refused_named error (by_definition whole refused) = by_definitions error refused

  pub unsettled_named : (error : Error) → IsFirstRefused os unstable loaded error → IsNamedBy (Broken w o) error
  unsettled_named error h = refused_named h.place h.node h.found h.refused.definitions h.refused.are error h.refused.refused

  -- a module that is refused is told
  pub unsettled_told : (error : Error) → IsFirstRefused os unstable loaded error → IsTold (Broken w o) error
  unsettled_told error h = inr (unsettled_named error h)
