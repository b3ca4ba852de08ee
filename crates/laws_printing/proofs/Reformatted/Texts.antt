-- A file's formatted text says what the file says, and a call stands for the same worlds.
use Rattle.std.proofs.Common.{◌≡◌, inl, inr, ◌∙◌, Option, sym, ap, subst, List}
use Rattle.std.specs.Prelude.{is_some}
use Rattle.tree_items.specs.Files.{ItemShape, file_text}
use Rattle.parse_expressions.specs.Literals.{Expansion}
use Rattle.justfile_syntax.specs.Reads.{Reads}
use Rattle.semver.specs.declared.Version.{Version}
use Rattle.laws_printing.specs.Printing.Normal.{normal}
use Rattle.laws_printing.proofs.Printing.Normal.{fills_alike}
use Rattle.laws_printing.proofs.Formatted.PrintedBack.{prints_back}
use Rattle.meaning_rules.specs.Worlds.Given.{Given, Text, World, filled}
use Rattle.meaning_rules.specs.Worlds.Standing.{DifferInLayout, SaysAlike, one_text, two_texts}
use Rattle.meaning_rules.proofs.Worlds.Blanks.{layout_is_unseen}
use Rattle.meaning_rules.proofs.Worlds.Worlds.{unseen_is_unsaid}
use Rattle.meaning_rules.specs.Worlds.Reformatted.{IsFormattedAt, IsReformatted, ReformattedStandAlike}

-- the normal shape has the items of the file, but for blank lines
pub normal_is_filled : (items : List ItemShape) → filled (normal items) ≡ filled items
unfolding filled
normal_is_filled items = fills_alike items

-- what the formatted text says
pub reads_formatted : (expansion : Expansion) (version : Version) (source other : Text → Option Text) (key : Text) (f : IsFormattedAt expansion version source other key) → Reads expansion version (file_text f.indentation f.items) (normal f.items)
reads_formatted expansion version source other key f = prints_back expansion version f.indentation f.text f.items f.indents f.valid f.reads f.printed

-- a text that is equal says the same under an equal expander and version
reads_too : (e f : Expansion) (v u : Version) (text : Text) (items : List ItemShape) → e ≡ f → v ≡ u → Reads e v text items → Reads f u text items
reads_too e f v u text items p q r = subst (λ z. Reads f z text items) q (subst (λ z. Reads z v text items) p r)

module _ (given other : Given) (r : IsReformatted given other) where
  alike : (key : Text) → SaysAlike given other key
  alike key = elim (r.formats key) [
    | inl same ↦ one_text same
    | inr f ↦ two_texts f.text (file_text f.indentation f.items) f.items (normal f.items) f.found f.formatted f.reads (reads_formatted given.expansion given.version given.source other.source key f) (sym (normal_is_filled f.items))
  ]

  back : (key : Text) → SaysAlike other given key
  back key = elim (r.formats key) [
    | inl same ↦ one_text (sym same)
    | inr f ↦ two_texts (file_text f.indentation f.items) f.text (normal f.items) f.items f.formatted f.found
        (reads_too given.expansion other.expansion given.version other.version (file_text f.indentation f.items) (normal f.items) r.same_expansion r.same_version (reads_formatted given.expansion given.version given.source other.source key f))
        (reads_too given.expansion other.expansion given.version other.version f.text f.items r.same_expansion r.same_version f.reads) (normal_is_filled f.items)
  ]

  there : (key : Text) → is_some (given.source key) ≡ is_some (other.source key)
  there key = elim (r.formats key) [ inl same ↦ ap is_some same | inr f ↦ ap is_some f.found ∙ sym (ap is_some f.formatted) ]

  differ : (w : World) → DifferInLayout w given other
  differ w = record {
    same_os = r.same_os;
    same_unstable = r.same_unstable;
    same_expansion = r.same_expansion;
    same_version = r.same_version;
    same_root = r.same_root;
    there = there;
    alike = λ key reached. alike key;
  }

  differ_back : (w : World) → DifferInLayout w other given
  differ_back w = record {
    same_os = sym r.same_os;
    same_unstable = sym r.same_unstable;
    same_expansion = sym r.same_expansion;
    same_version = sym r.same_version;
    same_root = sym r.same_root;
    there = λ key. sym (there key);
    alike = λ key reached. back key;
  }

pub stand_alike : ReformattedStandAlike
stand_alike one faultless given other r w = (
  λ stands. unseen_is_unsaid given other w (layout_is_unseen one faultless w given other (differ given other r w)) stands,
  λ stands. unseen_is_unsaid other given w (layout_is_unseen one faultless w other given (differ_back given other r w)) stands,
)
