-- What is found, one after the other.
use Rattle.std.proofs.Common.{◌≡◌, ◌∙◌, ◌⊎◌, ◌++◌, ◌∷◌, [], inl, inr, List, sym, ap, subst, refl}
use Rattle.std.specs.Prelude.{Contains}
use Rattle.std.proofs.lemmas.List.Elements.{Contains-append_left, Contains-push, Contains-push_cases}
use Rattle.just_text.specs.Tokens.{lexeme}
use Rattle.just_text.specs.declared.name.Name.{Name}
use Rattle.modules_compilation.specs.declared.place.Place.{Place}
use Rattle.modules_definitions.specs.declared.definition.Definition.{Definition}
use Rattle.modules_definitions.specs.declared.definition.Kind.{Kind}
use Rattle.modules_definitions.specs.Defining.{IsNew, space_of}
use Rattle.modules_definitions.specs.Gathering.{Gathers}

abbrev pub Standing : Type 1
Standing = Kind → Name → Place → Type 0

-- a definition is that of its own kind, name and place
pub own : {kind : Kind} {name : Name} {place : Place} (d : Definition) → IsNew kind name place d → IsNew d.kind d.name.now d.place d
own d w = record {
  kind_is = refl;
  name_is = refl;
  place_is = refl;
  space_is = w.space_is ∙ ap space_of (sym w.kind_is);
  text_is = w.text_is ∙ ap (λ n. lexeme n.token) (sym w.name_is);
  front_is = w.front_is;
  bytes = w.bytes;
}

pub nothing_found : (S : Standing) → ((kind : Kind) (name : Name) (place : Place) → S kind name place → ⊥) → (xs : List Definition) → Gathers S xs xs
nothing_found S none xs = record { kept = λ d c. c; sound = λ d c. inl c; complete = λ kind name place s. absurd (none kind name place s) }

pub one_found : (S : Standing) (kind : Kind) (name : Name) (place : Place) (d : Definition) (xs : List Definition) → S kind name place
    → ((k : Kind) (n : Name) (p : Place) → S k n p → (k ≡ kind) × (n ≡ name) × (p ≡ place)) → IsNew kind name place d → Gathers S xs (xs ++ d ∷ [])
one_found S kind name place d xs s alone w = record {
  kept = λ e c. Contains-append_left xs (d ∷ []) e c;
  sound = λ e c. elim (Contains-push_cases xs d e c) [
    | inl old ↦ inl old
    | inr is ↦ inr (subst (λ e. S e.kind e.name.now e.place × IsNew e.kind e.name.now e.place e) is
        (subst (λ k. S k d.name.now d.place) (sym w.kind_is) (subst (λ n. S kind n d.place) (sym w.name_is) (subst (S kind name) (sym w.place_is) s)), own d w))
  ];
  complete = λ k n p t.
      let same = alone k n p t in
      (d, Contains-push xs d, subst (λ k. IsNew k n p d) (sym same.0) (subst (λ n. IsNew kind n p d) (sym same.1) (subst (λ p. IsNew kind name p d) (sym same.2) w)));
}

pub more_found : (S T U : Standing) (xs ys zs : List Definition) → ((k : Kind) (n : Name) (p : Place) → S k n p → U k n p) → ((k : Kind) (n : Name) (p : Place) → T k n p → U k n p) → ((k : Kind) (n : Name) (p : Place) → U k n p → S k n p ⊎ T k n p)
    → Gathers S xs ys → Gathers T ys zs → Gathers U xs zs
more_found S T U xs ys zs f g back a b = record {
  kept = λ d c. b.kept d (a.kept d c);
  sound = λ d c. elim (b.sound d c) [
    | inl old ↦ elim (a.sound d old) [ inl first ↦ inl first | inr s ↦ inr (f d.kind d.name.now d.place s.0, s.1) ]
    | inr t ↦ inr (g d.kind d.name.now d.place t.0, t.1)
  ];
  complete = λ k n p u. elim (back k n p u) [
    | inl s ↦ let w = a.complete k n p s in (w.0, b.kept w.0 w.1, w.2)
    | inr t ↦ b.complete k n p t
  ];
}

pub as_found : (S T : Standing) (xs ys : List Definition) → ((k : Kind) (n : Name) (p : Place) → S k n p → T k n p) → ((k : Kind) (n : Name) (p : Place) → T k n p → S k n p) → Gathers S xs ys → Gathers T xs ys
as_found S T xs ys f g a = record {
  kept = a.kept;
  sound = λ d c. elim (a.sound d c) [ inl old ↦ inl old | inr s ↦ inr (f d.kind d.name.now d.place s.0, s.1) ];
  complete = λ k n p t. a.complete k n p (g k n p t);
}
