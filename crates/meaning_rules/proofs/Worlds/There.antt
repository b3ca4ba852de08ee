-- The world of files that were read.
use Rattle.std.proofs.Common.{◌≡◌, sym, ◌∙◌, ap, subst, true, false, Option, Some, None, List, refl}
use Rattle.std.specs.Map.{lookup}
use Rattle.std.specs.Option.{option_map}
use Rattle.std.specs.Str.{bytes_eq}
use Rattle.std.proofs.lemmas.Option.{none-some, same_Some}
use Rattle.justfile_syntax.specs.Reads.{Reads}
use Rattle.justfile_syntax.specs.Laws.{FaultsSayNothing, SaysAtMostOne}
use Rattle.just_text.specs.declared.compile_error.CompileErrorKind.{CompileErrorKind}
use Rattle.tree_items.specs.Files.{ItemShape}
use Rattle.meaning_rules.specs.Worlds.Given.{Text, Given, filled}
use Rattle.meaning_rules.specs.Worlds.Sources.{Reached}
use Rattle.meaning_rules.specs.Worlds.Standing.{SaysFilled, IsFaultAt}
use Rattle.meaning_rules.specs.Worlds.Laws.{AreAllRead, IsRead, Row, WorldsAreThere, world_of}

module _ (one : SaysAtMostOne) (faultless : FaultsSayNothing) (given : Given) (rows : List Row) (a : AreAllRead given rows) where
  to_text : (key : Text) (items : List ItemShape) (row : Option (List ItemShape)) → lookup (bytes_eq key) rows ≡ row → option_map filled row ≡ Some items → SaysFilled given key items
  to_text key items None is e = absurd (none-some items e)
  to_text key items (Some all) is e =
      let r = a.each key all is in
      record { text = r.0; found = r.1; all = all; reads = r.2; are = same_Some (filled all) items e }

  from_text : (key : Text) (items : List ItemShape) → Reached (world_of given rows) key → SaysFilled given key items → option_map filled (lookup (bytes_eq key) rows) ≡ Some items
  from_text key items r s =
      let p = a.all key r in
      let q : IsRead given key p.0 = a.each key p.0 p.1 in
      let texts : q.0 ≡ s.text = same_Some q.0 s.text (sym q.1 ∙ s.found) in
      let same : p.0 ≡ s.all = one given.expansion given.version s.text p.0 s.all (subst (λ t. Reads given.expansion given.version t p.0) texts q.2) s.reads in
      ap (option_map filled) p.1 ∙ ap (λ xs. Some (filled xs)) same ∙ ap (λ xs. Some xs) s.are

  no_fault : (key : Text) (kind : CompileErrorKind) → Reached (world_of given rows) key → IsFaultAt given key kind → false ≡ true
  no_fault key kind r f =
      let p = a.all key r in
      let q : IsRead given key p.0 = a.each key p.0 p.1 in
      let texts : q.0 ≡ f.text = same_Some q.0 f.text (sym q.1 ∙ f.found) in
      absurd (faultless given.expansion given.version f.text kind f.fault p.0 (subst (λ t. Reads given.expansion given.version t p.0) texts q.2))

pub worlds_are_there : WorldsAreThere
worlds_are_there one faultless given rows a = record {
  same_os = refl;
  same_unstable = refl;
  same_expansion = refl;
  same_root = refl;
  there = λ key. refl;
  said = λ key r items. (to_text one faultless given rows a key items (lookup (bytes_eq key) rows) refl, from_text one faultless given rows a key items r);
  refused = λ key r kind. (λ e. absurd (let t : false ≡ true = e in cc), no_fault one faultless given rows a key kind r);
}
