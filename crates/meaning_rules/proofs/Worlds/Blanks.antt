-- Layout is unseen.
use Rattle.std.proofs.Common.{◌≡◌, sym, ◌∙◌, ap, subst, Some, List}
use Rattle.std.specs.Prelude.{◌↔◌}
use Rattle.std.proofs.lemmas.Option.{same_Some}
use Rattle.justfile_syntax.specs.Laws.{FaultsSayNothing, SaysAtMostOne}
use Rattle.justfile_syntax.specs.Reads.{Reads, IsSyntaxFault}
use Rattle.just_text.specs.declared.compile_error.CompileErrorKind.{CompileErrorKind}
use Rattle.parse_expressions.specs.Literals.{Expansion}
use Rattle.tree_items.specs.Files.{ItemShape}
use Rattle.semver.specs.declared.Version.{Version}
use Rattle.meaning_rules.specs.Worlds.Given.{Text, Given, filled}
use Rattle.meaning_rules.specs.Worlds.Standing.{SaysFilled, IsFaultAt, SaysAlike, one_text, two_texts, LayoutIsUnseen}

-- ---- from one expander and version to an equal one

reads_too : (e f : Expansion) (v u : Version) (text : Text) (items : List ItemShape) → e ≡ f → v ≡ u → Reads e v text items → Reads f u text items
reads_too e f v u text items p q r = subst (λ z. Reads f z text items) q (subst (λ z. Reads z v text items) p r)

faults_too : (e f : Expansion) (v u : Version) (text : Text) (kind : CompileErrorKind) → e ≡ f → v ≡ u → IsSyntaxFault e v text kind → IsSyntaxFault f u text kind
faults_too e f v u text kind p q r = subst (λ z. IsSyntaxFault f z text kind) q (subst (λ z. IsSyntaxFault z v text kind) p r)

module _ (one : SaysAtMostOne) (faultless : FaultsSayNothing) where
  -- what a text says that says these items
  says_these : (given : Given) (key a : Text) (xs items : List ItemShape) → given.source key ≡ Some a → Reads given.expansion given.version a xs → SaysFilled given key items → filled xs ≡ items
  says_these given key a xs items at reads s =
      let texts : s.text ≡ a = same_Some s.text a (sym s.found ∙ at) in
      let same : s.all ≡ xs = one given.expansion given.version a s.all xs (subst (λ t. Reads given.expansion given.version t s.all) texts s.reads) reads in
      sym (ap filled same) ∙ s.are

  no_fault : (given : Given) (key a : Text) (xs : List ItemShape) (kind : CompileErrorKind) → given.source key ≡ Some a → Reads given.expansion given.version a xs → IsFaultAt given key kind → ⊥
  no_fault given key a xs kind at reads f =
      let texts : a ≡ f.text = same_Some a f.text (sym at ∙ f.found) in
      faultless given.expansion given.version f.text kind f.fault xs (subst (λ t. Reads given.expansion given.version t xs) texts reads)

  module _ (given other : Given) (expansions : given.expansion ≡ other.expansion) (versions : given.version ≡ other.version) (key : Text) where
    carried : (text : Text) (items : List ItemShape) → Reads given.expansion given.version text items → Reads other.expansion other.version text items
    carried text items r = reads_too given.expansion other.expansion given.version other.version text items expansions versions r

    said_alike : SaysAlike given other key → (items : List ItemShape) → SaysFilled given key items ↔ SaysFilled other key items
    said_alike (one_text same) items = (
      λ s. record { text = s.text; found = sym same ∙ s.found; all = s.all; reads = carried s.text s.all s.reads; are = s.are },
      λ s. record { text = s.text; found = same ∙ s.found; all = s.all; reads = reads_too other.expansion given.expansion other.version given.version s.text s.all (sym expansions) (sym versions) s.reads; are = s.are },
    )
    said_alike (two_texts a b xs ys at bt reads reads' same) items = (
      λ s. record { text = b; found = bt; all = ys; reads = carried b ys reads'; are = sym same ∙ says_these given key a xs items at reads s },
      λ s. record { text = a; found = at; all = xs; reads = reads; are = same ∙ says_these other key b ys items bt (carried b ys reads') s },
    )

    refused_alike : SaysAlike given other key → (kind : CompileErrorKind) → IsFaultAt given key kind ↔ IsFaultAt other key kind
    refused_alike (one_text same) kind = (
      λ f. record { text = f.text; found = sym same ∙ f.found; fault = faults_too given.expansion other.expansion given.version other.version f.text kind expansions versions f.fault },
      λ f. record { text = f.text; found = same ∙ f.found; fault = faults_too other.expansion given.expansion other.version given.version f.text kind (sym expansions) (sym versions) f.fault },
    )
    refused_alike (two_texts a b xs ys at bt reads reads' same) kind =
        (λ f. absurd (no_fault given key a xs kind at reads f), λ f. absurd (no_fault other key b ys kind bt (carried b ys reads') f))

pub layout_is_unseen : LayoutIsUnseen
layout_is_unseen one faultless w given other d = record {
  same_os = d.same_os;
  same_unstable = d.same_unstable;
  same_expansion = d.same_expansion;
  same_root = d.same_root;
  there = d.there;
  said = λ key r. said_alike one faultless given other d.same_expansion d.same_version key (d.alike key r);
  refused = λ key r. refused_alike one faultless given other d.same_expansion d.same_version key (d.alike key r);
}
