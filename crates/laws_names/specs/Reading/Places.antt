-- What a reference of an item reads or calls, by the rules.
use Rattle.std.specs.Prelude.{◌≡◌, ◌≤◌, ◌<◌, ◌+◌, ◌^◌, ℕ, List, Option, Some, None, Result, Ok, Err, Contains, length, map}
use Rattle.just_text.specs.Tokens.{lexeme}
use Rattle.tree_items.specs.declared.ast.Item.{Item}
use Rattle.modules_compilation.specs.Places.{item_at}
use Rattle.modules_compilation.specs.declared.compilation.Compilation.{Compilation}
use Rattle.modules_compilation.specs.declared.module_node.ModuleNode.{ModuleNode}
use Rattle.modules_compilation.specs.declared.place.Place.{Place}
use Rattle.resolve_references.specs.Places.{place_of}
use Rattle.resolve_references.specs.References.{references_of}
use Rattle.resolve_references.specs.Seen.{Seen, seen_in}
use Rattle.resolve_references.specs.declared.read_fault.ReadFault.{ReadFault}
use Rattle.resolve_references.specs.declared.references.Reference.{Reference}
use Rattle.resolve_references.specs.declared.variable_resolver.VariableResolver.{VariableResolver}
use Rattle.resolve_analysis.specs.Lists.{kept_by}
use Rattle.resolve_analysis.specs.Reads.{IsResolverOf}
use Rattle.meaning_rules.specs.Worlds.Given.{Text, World}
use Rattle.meaning_rules.specs.Fixed.{constants}
use Rattle.meaning_rules.specs.Graph.{IsPlaceOf}
use Rattle.meaning_rules.specs.Naming.{Occurrence, Part, a_call, a_variable}
use Rattle.meaning_rules.specs.Rules.{IsNoFunction, IsVariable, Rule, TakesOther, function_argument_count, undefined_variable, unknown_function}
use Rattle.laws_modules.specs.Names.Names.{HasNode}
use Rattle.laws_modules.specs.References.Occurrences.{occurrence_of}
use Rattle.laws_names.specs.Reading.Meant.{IsNumberedWorld, rule_of_fault}
use Rattle.laws_names.specs.Reading.Parts.{part_of}

-- an item stands in a file of the module
pub record IsItemOf (compilation : Compilation) (node : ModuleNode) (item : Item) : Type 0 where
  pub place : Place
  pub from : node.first_file ≤ place.file
  pub to : place.file < node.end_file
  pub there : item_at compilation place ≡ Some item

-- the names of the variables that a module keeps, and of its functions
abbrev pub variable_names : Compilation → ModuleNode → List Text
variable_names compilation node = map (λ variable. lexeme variable.name.token) (kept_by compilation node).variables

abbrev pub function_names : Compilation → ModuleNode → List Text
function_names compilation node = map (λ function. lexeme function.name.token) (kept_by compilation node).functions

-- an occurrence in a part of an item of a module breaks a rule
pub data Refuses (w : World) (own : Text) (p : Part) : Occurrence → Rule → Type 0 where
  is_undefined : {name : Text} → (Contains p.sees name → ⊥) → (IsVariable w own name → ⊥) → (Contains constants name → ⊥) → Refuses w own p (a_variable name) (undefined_variable name)
  is_unknown : {name : Text} {count : ℕ} → IsNoFunction w own name → Refuses w own p (a_call name count) (unknown_function name)
  takes_other : {name : Text} {count : ℕ} → TakesOther w own name count → Refuses w own p (a_call name count) (function_argument_count name count)

module _ (w : World) (compilation : Compilation) (node : ModuleNode) where
  abbrev pub IsNamed : Part → Occurrence → ℕ → Type 0
  IsNamed p o place = IsPlaceOf (variable_names compilation node) (function_names compilation node) p o place

  abbrev pub IsClearIn : Part → Occurrence → Type 0
  IsClearIn p o = (rule : Rule) → Refuses w node.source.now p o rule → ⊥

  -- there are no more variables and functions than there are numbers of places
  abbrev pub AreFew : Type 0
  AreFew = length (variable_names compilation node) + length (function_names compilation node) ≤ 2 ^ 64

  -- a place is that of the named variable or function; without a place none is named; and a fault tells the rule that is broken
  abbrev pub IsPlaceMeant : Part → Occurrence → Result (Option ℕ) ReadFault → Type 0
  IsPlaceMeant p o (Ok (Some place)) = IsClearIn p o × IsNamed p o place
  IsPlaceMeant p o (Ok None) = IsClearIn p o × (AreFew → (place : ℕ) → IsNamed p o place → ⊥)
  IsPlaceMeant p o (Err fault) = (rule : Rule) × (rule_of_fault fault ≡ Some rule) × Refuses w node.source.now p o rule

-- what the references of an item read and call is what the rules say
abbrev pub PlacesAreMeant : Type 0
PlacesAreMeant = (w : World) (compilation : Compilation) → IsNumberedWorld w compilation → (k : ℕ) (node : ModuleNode) → HasNode w compilation k node
    → (resolver : VariableResolver) → IsResolverOf (kept_by compilation node) resolver
    → (item : Item) → IsItemOf compilation node item → (s : Seen) → Contains (seen_in item) s → (r : Reference) → Contains (references_of s.expression) r
    → IsPlaceMeant w compilation node (part_of s) (occurrence_of r) (place_of resolver r)
