-- Aliases that lead somewhere, and those that don't.
use Rattle.std.proofs.Common.{◌≡◌, sym, ◌∙◌, ap, subst, List, ℕ, Option, Some, inr, refl, arith}
use Rattle.std.proofs.lemmas.Option.{same_Some, slice_get_within}
use Rattle.just_text.specs.Tokens.{lexeme}
use Rattle.just_text.specs.declared.name.Name.{Name}
use Rattle.tree_attributes.specs.Sets.Sets.{shapes_in}
use Rattle.tree_items.specs.Files.{alias_item}
use Rattle.tree_items.specs.Items.{AliasShape, alias_shape}
use Rattle.tree_items.specs.Paths.{path_names}
use Rattle.tree_items.specs.declared.item.Alias.{Alias}
use Rattle.modules_compilation.specs.declared.compilation.Compilation.{Compilation}
use Rattle.meaning_rules.specs.Worlds.Given.{Text, World}
use Rattle.meaning_rules.specs.Worlds.Keeping.{Keeps, Kind, KeepsAt, an_alias}
use Rattle.meaning_rules.specs.Worlds.Compiled.{IsAt}
use Rattle.meaning_rules.proofs.Worlds.Kept.{keeps_at_most_one}
use Rattle.meaning_rules.proofs.Worlds.Places.{place_of}
use Rattle.meaning_rules.specs.Worlds.Views.{node_view}
use Rattle.meaning_rules.specs.Depending.{IsModulePath, IsRecipePath}
use Rattle.meaning_rules.specs.Rules.{HasAlias}
use Rattle.laws_modules.specs.Names.Names.{AreSingle, IsOfWorld, nodes, views}
use Rattle.laws_modules.specs.Names.Targets.{KeepsAlias, LeadingAliasesAreKnown, ModuleAliasesAreRefused, OtherAliasesAreUnknown}
use Rattle.laws_modules.proofs.Names.Found.{there_within}
use Rattle.laws_modules.proofs.Names.Modules.{one_module, node_of}
use Rattle.laws_modules.proofs.Names.Named.{node_is}
use Rattle.laws_modules.proofs.Names.Paths.{targets_are_exact}
use Rattle.laws_modules.proofs.Names.Standing.{alias_there, shape_there}

abbrev said_alias : Text → Option (Kind × Text)
said_alias name = Some (an_alias, name)

module _ (w : World) (compilation : Compilation) (is : IsOfWorld w compilation) (single : AreSingle w compilation) where
  -- an alias of the compilation is one of the world
  alias_kept : (k : ℕ) (alias : Alias (List Name)) → (h : KeepsAlias w compilation k alias) → HasAlias w h.node.source.now (alias_shape alias)
  alias_kept k alias h =
      let n = node_is w compilation is k h.node h.here in
      let l = n.aliases.1 in
      let lt = slice_get_within h.node.aliases.items h.i h.place h.listed in
      let many = l.many in
      let t = there_within n.aliases.0 h.i (omega (arith, lt, many)) in
      let s = l.sound h.i t.0 h.place t.1 h.listed in
      let shape = shape_there w compilation (node_view h.node) h.place s.0 s.1 s.2 alias s.3 h.there in
      let kept = subst (KeepsAt w h.node.source.now an_alias t.0 s.0 s.1) shape s.4 in
      let named : t.0 ≡ lexeme alias.name.token = sym (same_name (lexeme alias.name.token) t.0 kept.defines.is) in
      ((n.path, n.is), (shapes_in alias.attributes, record { key = s.0; place = s.1; kept = subst (λ name. KeepsAt w h.node.source.now an_alias name s.0 s.1 (alias_item (shapes_in alias.attributes) (alias_shape alias))) named kept }))
    where
      same_name : (a b : Text) → said_alias a ≡ said_alias b → a ≡ b
      same_name a b e = ap (λ (p : Kind × Text). p.1) (same_Some (an_alias, a) (an_alias, b) e)

  -- an alias of the world is one of the compilation
  pub record IsAliasHere (own : Text) (a : AliasShape) : Type 0 where
    pub k : ℕ
    pub alias : Alias (List Name)
    pub keeps : KeepsAlias w compilation k alias
    pub source : keeps.node.source.now ≡ own
    pub shape : alias_shape alias ≡ a

  pub alias_here : (own : Text) (a : AliasShape) → HasAlias w own a → IsAliasHere own a
  alias_here own a ((path, m), (attributes, kept)) =
      let c = is.complete path own m in
      let node = node_of w compilation is c.0 path c.1 in
      let own_is = one_module w compilation is single c.0 node.0 path node.1 c.1 own m in
      let n = node_is w compilation is c.0 node.0 node.1 in
      let l = n.aliases.1 in
      let kept' = subst (λ o. Keeps w o an_alias a.name (alias_item attributes a)) own_is kept in
      let p = place_of n.aliases.0 a.name (l.complete a.name (alias_item attributes a) kept') in
      let lt = slice_get_within n.aliases.0 p.0 a.name p.1 in
      let many = l.many in
      let q = there_within node.0.aliases.items p.0 (omega (arith, lt, many)) in
      let s = l.sound p.0 a.name q.0 p.1 q.1 in
      let same = keeps_at_most_one w node.0.source.now an_alias a.name s.0 kept'.key s.1 kept'.place s.2 (alias_item attributes a) s.4 kept'.kept in
      let there = subst (IsAt w (views w compilation) (nodes w compilation) (node_view node.0) q.0 s.0 s.1) same.2 s.3 in
      let t = alias_there w compilation (node_view node.0) q.0 s.0 s.1 attributes a there in
      record {
        k = c.0;
        alias = t.0;
        keeps = record { node = node.0; here = node.1; i = p.0; place = q.0; listed = q.1; there = t.1 };
        source = sym own_is;
        shape = t.2;
      }

pub leading_aliases_are_known : LeadingAliasesAreKnown
leading_aliases_are_known w compilation is single all o alias target (own, a, has, name, to, no_recipe, no_module) =
    let h = alias_here w compilation is single own a has in
    let e = targets_are_exact w compilation is single h.k h.keeps.node h.keeps.here h.alias.target in
    let path : path_names h.alias.target ≡ target = ap (λ (x : AliasShape). x.target) h.shape ∙ to in
    all h.k h.alias h.keeps (e.nothing
    (λ r. no_recipe (subst (λ p. IsRecipePath w own p) path (subst (λ q. IsRecipePath w q (path_names h.alias.target)) h.source r)))
    (λ m. no_module (subst (λ p. IsModulePath w own p) path (subst (λ q. IsModulePath w q (path_names h.alias.target)) h.source m))))

pub other_aliases_are_unknown : OtherAliasesAreUnknown
other_aliases_are_unknown w compilation is single said o k alias h none =
    let e = targets_are_exact w compilation is single k h.node h.here alias.target in
    let n = e.from_nothing none in
    record { said = λ b. said; breaks = (h.node.source.now, alias_shape alias, alias_kept w compilation is single k alias h, refl, refl, n.0, n.1) }

pub module_aliases_are_refused : ModuleAliasesAreRefused
module_aliases_are_refused w compilation is single said o k alias h inner to =
    let e = targets_are_exact w compilation is single k h.node h.here alias.target in
    record { said = λ b. said; breaks = inr (h.node.source.now, alias_shape alias, alias_kept w compilation is single k alias h, refl, e.from_module inner to) }
