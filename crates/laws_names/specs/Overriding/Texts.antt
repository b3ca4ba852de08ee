-- The texts that words give for variables of a compilation, and the overrides of a world that the compilation stands for.
use Rattle.std.specs.Prelude.{◌≡◌, ◌≢◌, ℕ, List, Option, Some, None, Contains, map}
use Rattle.just_text.specs.Tokens.{lexeme}
use Rattle.tree_expressions.specs.declared.expression.Expression.{Expression}
use Rattle.tree_items.specs.declared.item.Binding.{Binding}
use Rattle.just_value.specs.declared.positional.Override.{Override}
use Rattle.modules_compilation.specs.declared.compilation.Compilation.{Compilation}
use Rattle.modules_compilation.specs.declared.module_node.ModuleNode.{ModuleNode}
use Rattle.modules_compilation.specs.declared.place.Place.{Place}
use Rattle.resolve_analysis.specs.Lists.{variable_at}
use Rattle.resolve_analysis.specs.Overriding.{number_of, text_given}
use Rattle.meaning_rules.specs.Worlds.Given.{Overrides, Text, World}
use Rattle.meaning_rules.specs.Worlds.Compiled.{HasPath}
use Rattle.meaning_rules.specs.Overriding.{IsOverriddenBy}
use Rattle.meaning_rules.specs.Rules.{Broken, unknown_override}
use Rattle.laws_modules.specs.Names.Names.{AreSingle, HasNode, IsOfWorld, nodes, views}
use Rattle.meaning_rules.specs.Overrides.{overrides_of}

-- an override that has no variable's number names no variable
abbrev pub UnnamedOverridesAreUnknown : Type 0
UnnamedOverridesAreUnknown = (w : World) (compilation : Compilation) → IsOfWorld w compilation → AreSingle w compilation
    → (o : Overrides) (written : Text) → Contains (map (λ p. p.0) o) written → number_of compilation written ≡ None → Broken w o (unknown_override written)

-- where each override has a variable's number, none names no variable
abbrev pub NamedOverridesAreKnown : Type 0
NamedOverridesAreKnown = (w : World) (compilation : Compilation) → IsOfWorld w compilation → AreSingle w compilation
    → (o : Overrides) → ((written : Text) → Contains (map (λ p. p.0) o) written → number_of compilation written ≢ None) → (text : Text) → Broken w o (unknown_override text) → ⊥

-- the last override that names the variable gives it this text, or there is none that names it
abbrev pub IsGivenBy : World → Overrides → List Text → Text → Text → Option Text → Type 0
IsGivenBy w o path own name (Some text) = IsOverriddenBy w o path own name text
IsGivenBy w o path own name None = (text : Text) → IsOverriddenBy w o path own name text → ⊥

-- the text given for the number of a variable that a module keeps is that of the last override that names it
abbrev pub GivenTextsOverride : Type 0
GivenTextsOverride = (w : World) (compilation : Compilation) → IsOfWorld w compilation → AreSingle w compilation
    → (k : ℕ) (node : ModuleNode) (path : List Text) → HasNode w compilation k node → HasPath w (views w compilation) (nodes w compilation) k path
    → (place : Place) (variable : Binding Expression) → Contains node.assignments.items place → variable_at compilation place ≡ Some variable
    → (words : List Override) → IsGivenBy w (overrides_of words) path node.source.now (lexeme variable.name.token) (text_given compilation words variable.number)
