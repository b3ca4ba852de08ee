-- Two places of a run where the same is asked and answered.
use Rattle.std.specs.Prelude.{◌≡◌, ℕ, List}
use Rattle.evaluate_context.specs.Environment.{last_of}
use Rattle.evaluate_context.specs.Surroundings.{Surroundings, Standing, by_name, given, removed}

-- Two modules, each with the configuration, give the same to functions and commands. A name has one value in the files of variables of both, whatever the order.
pub record SameModule (m n : Surroundings) : Type 0 where
  pub arch : m.arch ≡ n.arch
  pub base : m.base ≡ n.base
  pub dotenv : (name : List ℕ) → last_of name m.dotenv ≡ last_of name n.dotenv
  pub dry_run : m.dry_run ≡ n.dry_run
  pub folder : m.folder ≡ n.folder
  pub invocation_directory : m.invocation_directory ≡ n.invocation_directory
  pub jobs : m.jobs ≡ n.jobs
  pub limit : m.limit ≡ n.limit
  pub lists : m.lists ≡ n.lists
  pub module_path : m.module_path ≡ n.module_path
  pub os : m.os ≡ n.os
  pub quiet : m.quiet ≡ n.quiet
  pub root : m.root ≡ n.root
  pub shell : m.shell ≡ n.shell
  pub source : m.source ≡ n.source
  pub version : m.version ≡ n.version

-- Two places in them are in the same recipe, as a dependency or not, and commands are given the same environment: pairs may stand in another order.
pub record SamePlace (m n : Surroundings) (s t : Standing) : Type 0 where
  pub pairs : by_name (given m s) ≡ by_name (given n t)
  pub lacking : removed m s ≡ removed n t
  pub is_dependency : s.is_dependency ≡ t.is_dependency
  pub recipe : s.recipe ≡ t.recipe
