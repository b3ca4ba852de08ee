-- The module's files before the place are followed.
use Rattle.std.proofs.Common.{◌≡◌, ◌≤◌, ◌-◌, ◌++◌, ℕ, List, length, drop}
use Rattle.just_text.specs.Numbers.{Numbers}
use Rattle.modules_compilation.specs.declared.module_node.File.{File as LoadedFile}
use Rattle.modules_sources.specs.ReadingOrder.{AreNoted, AreNumbered}
use Rattle.modules_sources.proofs.load.Loader.load_reached.Given as goal

abbrev pub invariant-loop-place : goal.invariant-loop-place
invariant-loop-place g l = record {
  numbers : (start : Numbers) → AreNumbered start l.initial.files.items l.initial.numerator → AreNumbered start l.files.items l.numerator;
  grown : (more : List LoadedFile) × (l.files.items ≡ l.initial.files.items ++ more);
  noted : (own : List ℕ) → l.first ≤ length l.initial.files.items → AreNoted l.self.files.sources.now (g.E.Expander.expansion l.self.expander.now) l.self.config.now.version l.module own 0 (drop l.first l.initial.files.items) l.initial.reached
      → AreNoted l.self.files.sources.now (g.E.Expander.expansion l.self.expander.now) l.self.config.now.version l.module own (l.place - l.first) (drop l.first l.files.items) l.reached;
}
