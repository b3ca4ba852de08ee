-- A submodule that is refused breaks a rule of the world.
use Rattle.std.proofs.Common.{◌≡◌, ◌⊎◌, inl, inr, ◌∙◌, ap, ◌<◌, ℕ, false, List, [], Option, Some, None, Err, refl, length, take}
use Rattle.std.specs.Prelude.{◌↔◌, Contains}
use Rattle.std.specs.BTreeMap.{BTreeMap}
use Rattle.std.specs.declared.string.String.{String}
use Rattle.just_text.specs.declared.os.Os.{Os}
use Rattle.tree_items.specs.Files.{item_shapes}
use Rattle.tree_items.specs.declared.ast.Item.{Item}
use Rattle.parse_expressions.specs.Literals.{Expansion}
use Rattle.modules_compilation.specs.declared.error.Error.{Error}
use Rattle.modules_compilation.specs.declared.error.Error.TheVariants.{AmbiguousModule, MissingModule}
use Rattle.modules_files.specs.declared.search.Files.{Files}
use Rattle.modules_sources.specs.Items.{ModuleParts, module_of}
use Rattle.modules_sources.specs.Submodules.{Gives, IsRefused}
use Rattle.meaning_rules.specs.Worlds.Given.{Overrides, Text, World, filled}
use Rattle.meaning_rules.specs.Worlds.Sources.{MayMean, Reached}
use Rattle.meaning_rules.proofs.Worlds.Places.{contains_none}
use Rattle.meaning_rules.specs.Rules.{Broken, ambiguous_module, missing_module}
use Rattle.meaning_rules.specs.Told.{IsNamedBy, rule_of}
use Rattle.meaning_rules.specs.Worlds.Views.{name_text}
use Rattle.laws_modules.specs.Submodules.Submodules.{IsFileOfWorld, RefusalsAreTold}
use Rattle.laws_modules.proofs.Submodules.Files.{IsModuleOf, keys_are, module_is}
use Rattle.laws_modules.proofs.Submodules.Finding.{Answers, refused_keys}

module _ {Y Z : Type 0} (sources : BTreeMap (String Y) (String Z)) (expansion : Expansion) (w : World) (os : Os) (lookup : Files) (key : Text) (items : List Item) (of : IsFileOfWorld sources expansion w os lookup key items) where
  module _ (reached : Reached w key) (o : Overrides) where
    -- the rule that the answer to a module names is broken
    of_answer : (place : ℕ) (parts : ModuleParts) (refusal : Error) → IsModuleOf sources expansion w os lookup key items of place parts → Answers lookup os key parts (Err refusal) → IsNamedBy (Broken w o) refusal
    of_answer place parts refusal m a = by_keys (refused_keys lookup.sources.now parts.0 parts.2 a.keys refusal a.is)
      where
        mean : (k : Text) → Contains a.keys k ↔ MayMean w key m.line k
        mean = keys_are sources expansion w os lookup key items of parts m.line a.keys m.named m.path a.are

        by_keys : ((a.keys ≡ []) × (parts.2 ≡ false) × (refusal ≡ MissingModule parts.0)) ⊎ ((1 < length a.keys) × (refusal ≡ AmbiguousModule parts.0 a.keys)) → IsNamedBy (Broken w o) refusal
        by_keys (inl p) = (
          missing_module (name_text parts.0),
          ap rule_of p.2,
          record {
            said = λ e. absurd (cc e);
            breaks = (key, length (filled (take place (item_shapes items))), m.line, reached, m.has, m.optional ∙ p.1, m.named, λ k h. contains_none a.keys k p.0 ((mean k).1 h));
          },
        )
        by_keys (inr q) = (
          ambiguous_module (name_text parts.0) a.keys,
          ap rule_of q.1,
          record {
            said = λ e. absurd (cc e);
            breaks = (key, length (filled (take place (item_shapes items))), m.line, reached, m.has, m.named, q.0, a.are.sorted, λ k. ((mean k).1, (mean k).0));
          },
        )

    -- so is that of a refused item
    pub named_rule : (refusal : Error) → IsRefused lookup os key items refusal → IsNamedBy (Broken w o) refusal
    named_rule refusal r = by_line (module_of os r.item) refl r.refused
      where
        by_line : (line : Option ModuleParts) → module_of os r.item ≡ line → Gives lookup os key line (Err refusal) → IsNamedBy (Broken w o) refusal
        by_line None is a = absurd (cc a)
        by_line (Some parts) is a = of_answer r.place parts refusal (module_is sources expansion w os lookup key items of r.place r.item parts r.there is) a

pub refusals_are_told : {Y Z : Type 0} (sources : BTreeMap (String Y) (String Z)) → RefusalsAreTold sources
refusals_are_told sources expansion w os lookup key items refusal of reached refused o = inr (named_rule sources expansion w os lookup key items of reached o refusal refused)
