-- Texts of the root that are told by places are those that its files say.
use Rattle.std.proofs.Common.{◌≡◌, ◌∙◌, ap, refl, sym, subst, ℕ, List, Option, Some, Result}
use Rattle.std.specs.Prelude.{slice_get}
use Rattle.just_host.specs.Out.{Sent}
use Rattle.just_text.specs.declared.os.Os.{Os}
use Rattle.justfile_syntax.specs.Laws.{SaysAtMostOne}
use Rattle.modules_compilation.specs.declared.compilation.Compilation.{Compilation}
use Rattle.modules_compilation.specs.declared.module_node.File.{File}
use Rattle.modules_compilation.specs.declared.module_node.ModuleNode.{ModuleNode}
use Rattle.justfile_analyzer.specs.Listings.{listing}
use Rattle.run_tasks.specs.declared.request.RootText.{RootText}
use Rattle.run_tasks.specs.declared.request.RootText.TheVariants as texts
use Rattle.meaning_rules.specs.Worlds.Compiled.{NodeView}
use Rattle.meaning_rules.specs.Worlds.Given.{Given, Text, World}
use Rattle.meaning_rules.proofs.Worlds.Reached.{compilations_have_root}
use Rattle.meaning_rules.specs.Worlds.Views.{node_view}
use Rattle.laws_modules.specs.Names.Names.{nodes, views}
use Rattle.laws_modules.proofs.Names.Found.{mapped_at}
use Rattle.meaning_texts.specs.Laws.{HasRootTexts, IsCompiledFrom}
use Rattle.meaning_texts.specs.Listings.{IsListing}
use Rattle.meaning_texts.specs.Texts.{IsAnswer, IsDump}
use Rattle.meaning_texts.proofs.Listings.{listings_stand}
use Rattle.meaning_texts.proofs.Roots.{root_texts_stand}
use Rattle.just_run.specs.Named.{IsAnswered, IsDumped, IsListed, Left}
use Rattle.just_run.specs.Texts.{IsFormatted, TellsRoot, answered_text, dumped_text, file_place, root_file}
use Rattle.just_run.specs.Writes.{Writes}
use Rattle.just_run.specs.declared.fault.Fault.{Fault}
use Rattle.just_run.specs.declared.outcome.Outcome.{Outcome}
use Rattle.just_run.specs.declared.outcome.Outcome.TheVariants as outcomes

module _ (one : SaysAtMostOne) (source : Given) (w : World) (compilation : Compilation) (told : IsCompiledFrom source w compilation) (os : Os) (same_os : source.os ≡ os) (root : Text) (left : Left) (result : Result Outcome Fault) where
  -- what is so of the root by places
  abbrev Tells : RootText → Type 0
  Tells text = TellsRoot compilation os root text left.sent result left.sends

  -- the list by places is the root's
  root_listing : IsListing source w w.root (listing compilation 0)
  root_listing =
      let r = compilations_have_root w (views w compilation) (nodes w compilation) told.of in
      let m = mapped_at node_view compilation.modules.items 0 r.0 r.1 in
      let own : m.0.source.now ≡ w.root = ap (λ (v : NodeView). v.source) m.2 ∙ r.3 in
      subst (λ q. IsListing source w q (listing compilation 0)) own (listings_stand one source w compilation told 0 m.0 m.1)

  root_texts : HasRootTexts source compilation
  root_texts = root_texts_stand source w compilation told

  -- the root's file by places
  root_there : root_file compilation ≡ Some root_texts.file
  root_there = ap (λ (o : Option ModuleNode). slice_get compilation.files.items (file_place o)) root_texts.first ∙ root_texts.there

  pub told_listed : Tells texts.List → IsListed source w root left result
  told_listed h = (listing compilation 0, root_listing, h)

  dump_told : IsDump source (dumped_text os (root_file compilation))
  dump_told = subst (λ (o : Option File). IsDump source (dumped_text os o)) (sym root_there) (subst (λ o. IsDump source (dumped_text o (Some root_texts.file))) same_os root_texts.dump)

  pub told_dumped : Tells texts.Dump → IsDumped source w root left result
  told_dumped h = (dumped_text os (root_file compilation), dump_told, h)

  answer_told : IsAnswer source (answered_text os (root_file compilation))
  answer_told = subst (λ (o : Option File). IsAnswer source (answered_text os o)) (sym root_there) (subst (λ o. IsAnswer source (answered_text o (Some root_texts.file))) same_os root_texts.answer)

  pub told_answered : Tells texts.Format → IsAnswered source w root left result
  told_answered h = (answered_text os (root_file compilation), answer_told, h.0, h.1)

-- what `tell` ensures of each text, as one
pub told_by : (compilation : Compilation) (os : Os) (root : Text) (text : RootText) (sent : Sent) (result : Result Outcome Fault) (sends : Sent)
    → (text ≡ texts.List → TellsRoot compilation os root texts.List sent result sends) → (text ≡ texts.Dump → TellsRoot compilation os root texts.Dump sent result sends)
    → (text ≡ texts.Format → TellsRoot compilation os root texts.Format sent result sends) → TellsRoot compilation os root text sent result sends
told_by compilation os root texts.List sent result sends listed dumped formatted = listed refl
told_by compilation os root texts.Dump sent result sends listed dumped formatted = dumped refl
told_by compilation os root texts.Format sent result sends listed dumped formatted = formatted refl
