-- Modules above others, by their files, and the chain that leads to the one that was loaded last.
use Rattle.std.specs.Prelude.{◌≡◌, ◌↔◌, ◌⊎◌, ◌<◌, ◌≤◌, ℕ, suc, true, List, Option, Some, None, slice_get}
use Rattle.modules_files.specs.Found.{has_text}
use Rattle.modules_compilation.specs.declared.module_node.ModuleNode.{ModuleNode}
use Rattle.modules_sources.specs.Queue.{IsChain}
use Rattle.modules_sources.specs.Submodules.{Above, Waiting}
use Rattle.modules_sources.specs.declared.queue.Loaded.{Loaded}
use Rattle.modules_sources.specs.declared.queue.Queue.{Queue}

-- the file of the module at a place has this key, or that of one above it
pub data IsAbove (modules : List ModuleNode) (key : List ℕ) : ℕ → Type 0 where
  above_own : {place : ℕ} {node : ModuleNode} → slice_get modules place ≡ Some node → node.source.now ≡ key → IsAbove modules key place
  above_parent : {place parent : ℕ} {node : ModuleNode} → slice_get modules place ≡ Some node → node.parent ≡ Some parent → IsAbove modules key parent → IsAbove modules key place

-- these are the keys of the file of the module at a place, and of those above it
abbrev pub AreAbove : List ModuleNode → ℕ → Above → Type 0
AreAbove modules place above = (key : List ℕ) → (has_text above key ≡ true) ↔ IsAbove modules key place

-- the same of a module with this file that is not loaded yet, below one that may be there
abbrev pub AreAboveNext : List ModuleNode → Option ℕ → List ℕ → Above → Type 0
AreAboveNext modules parent own above = (key : List ℕ) → (has_text above key ≡ true) ↔ ((own ≡ key) ⊎ ((place : ℕ) × (parent ≡ Some place) × IsAbove modules key place))

-- no module has the file of one above it
abbrev pub HaveOwnFiles : List ModuleNode → Type 0
HaveOwnFiles modules = (place parent : ℕ) (node : ModuleNode) → slice_get modules place ≡ Some node → node.parent ≡ Some parent → IsAbove modules node.source.now parent → ⊥

-- the chain leads from a module without a parent to another, each the parent of the next, with the keys of their files
pub record AreChained (modules : List ModuleNode) (chain : List Loaded) : Type 0 where
  pub each : (i : ℕ) (loaded : Loaded) → slice_get chain i ≡ Some loaded → (node : ModuleNode) × (slice_get modules loaded.module ≡ Some node) × (node.source.now ≡ loaded.key.now)
  pub first : (loaded : Loaded) (node : ModuleNode) → slice_get chain 0 ≡ Some loaded → slice_get modules loaded.module ≡ Some node → node.parent ≡ None
  pub next : (i : ℕ) (loaded below : Loaded) (node : ModuleNode) → slice_get chain i ≡ Some loaded → slice_get chain (suc i) ≡ Some below → slice_get modules below.module ≡ Some node → node.parent ≡ Some loaded.module

-- what waits are submodules of modules of the chain, those of later ones last
pub record AreOnChain (chain : List Loaded) (waits : List Waiting) : Type 0 where
  pub each : (j : ℕ) (waiting : Waiting) → slice_get waits j ≡ Some waiting → (i : ℕ) × (loaded : Loaded) × (slice_get chain i ≡ Some loaded) × (waiting.parent ≡ Some loaded.module)
  pub order : (j k place later : ℕ) (waiting other : Waiting) → j < k → slice_get waits j ≡ Some waiting → slice_get waits k ≡ Some other → waiting.parent ≡ Some place → other.parent ≡ Some later → place ≤ later

-- none that waits has the file of a module above
abbrev pub AreFresh : List ModuleNode → List Waiting → Type 0
AreFresh modules waits = (j parent : ℕ) (waiting : Waiting) → slice_get waits j ≡ Some waiting → waiting.parent ≡ Some parent → IsAbove modules waiting.file.0 parent → ⊥

-- the chain of the queue leads to the modules whose submodules wait, and none of these has the file of one above
pub record AreQueued (modules : List ModuleNode) (queue : Queue) (waits : List Waiting) : Type 0 where
  pub chained : AreChained modules queue.chain.items
  pub keys : IsChain queue
  pub on_chain : AreOnChain queue.chain.items waits
  pub fresh : AreFresh modules waits
