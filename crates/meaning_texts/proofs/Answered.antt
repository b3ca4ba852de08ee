-- The root's text that is answered is its formatted text, which may stand in its place.
use Rattle.std.proofs.Common.{◌≡◌, ◌∙◌, ◌⊎◌, inl, inr, ◌&&◌, ◌||◌, ap, sym, subst, refl, ℕ, Bool, true, false, if◌then◌else◌, List, [], ◌∷◌, Option, Some, None, codes}
use Rattle.std.specs.Prelude.{unwrap_or}
use Rattle.std.specs.List.{list_all, list_any}
use Rattle.std.specs.Option.{option_and_then}
use Rattle.std.specs.Str.{IsUtf8, bytes_eq}
use Rattle.std.proofs.lemmas.Option.{none-some, same_Some}
use Rattle.std.proofs.lemmas.Slice.Eq.{bytes_eq-Decides}
use Rattle.tree_attributes.specs.Sets.Indentations as one_of
use Rattle.tree_items.specs.FileIndentation.{first_given, known}
use Rattle.tree_items.specs.Printable.{printable}
use Rattle.justfile_syntax.specs.Bodies.{is_indentation}
use Rattle.justfile_syntax.specs.Reads.{Reads}
use Rattle.meaning_rules.specs.Worlds.Given.{Given, Text}
use Rattle.meaning_rules.specs.Worlds.Reformatted.{IsFormattedAt}
use Rattle.meaning_texts.specs.Laws.{AnswersAreFormatted, AnswersFormatSome}
use Rattle.meaning_texts.specs.Texts.{IsAnswer, indentation_in, indentation_said, text_in}

-- ---- bodies are printed with an indentation (these lemmas stand in just_run/proofs/Again, and may move here)

both : (a b : Bool) → (a && b) ≡ true → (a ≡ true) × (b ≡ true)
both true true h = (refl, refl)
both true false h = absurd (let f : false ≡ true = h in cc)
both false b h = absurd (let f : false ≡ true = h in cc)

one_of_all : (text : List ℕ) (xs : List (List ℕ)) → list_any (bytes_eq text) xs ≡ true → list_all is_indentation xs ≡ true → is_indentation text ≡ true
one_of_all text [] h all = absurd (let f : false ≡ true = h in cc)
one_of_all text (x ∷ xs) h all = by_test (bytes_eq text x) refl h (λ g. one_of_all text xs g (both (is_indentation x) (list_all is_indentation xs) all).1)
  where
    by_test : (b : Bool) → bytes_eq text x ≡ b → (b || list_any (bytes_eq text) xs) ≡ true → (list_any (bytes_eq text) xs ≡ true → is_indentation text ≡ true) → is_indentation text ≡ true
    by_test true e g more = subst (λ t. is_indentation t ≡ true) (sym ((bytes_eq-Decides text x).0 e)) (both (is_indentation x) (list_all is_indentation xs) all).0
    by_test false e g more = more g

known_is_one : (text : List ℕ) (b : Bool) → one_of.is_indentation text ≡ b → is_indentation (unwrap_or (if b then Some text else None) (codes "    ")) ≡ true
known_is_one text true h = one_of_all text one_of.indentations h refl
known_is_one text false h = refl

given_is_one : (given : Option (List ℕ)) → is_indentation (unwrap_or (option_and_then known given) (codes "    ")) ≡ true
given_is_one None = refl
given_is_one (Some text) = known_is_one text (one_of.is_indentation text) refl

-- ---- what is answered

module _ (source : Given) (text answer : Text) (found : source.source source.root ≡ Some text) (valid : IsUtf8 text) (a : IsAnswer source (Some answer)) where
  printed_so : (b : Bool) → printable a.items ≡ b → Some answer ≡ (if b then Some (text_in source.os source.expansion a.items) else None) → (printable a.items ≡ true) × (answer ≡ text_in source.os source.expansion a.items)
  printed_so true e is = (e, same_Some answer (text_in source.os source.expansion a.items) is)
  printed_so false e is = absurd (none-some answer (sym is))

  reads_so : Reads source.expansion source.version text a.items
  reads_so = subst (λ t. Reads source.expansion source.version t a.items) (same_Some a.says.0 text (sym a.says.1 ∙ found)) a.says.2

  formatted_so : (other : Text → Option Text) → other source.root ≡ Some answer → IsFormattedAt source.expansion source.version source.source other source.root
  formatted_so other at =
      let p = printed_so (printable a.items) refl a.is in
      record {
        text = text;
        found = found;
        valid = valid;
        items = a.items;
        reads = reads_so;
        printed = p.0;
        indentation = indentation_in source.os source.expansion a.items;
        indents = given_is_one (first_given (indentation_said source.os source.expansion) a.items);
        formatted = at ∙ ap (λ t. Some t) p.1;
      }

pub answers_are_formatted : AnswersAreFormatted
answers_are_formatted source other text answer found valid a at = formatted_so source text answer found valid a other at

pub answers_format_some : AnswersFormatSome
answers_format_some source other text answer found valid a each key = elim (each key) [
  | inl same ↦ inl (sym same)
  | inr there ↦
      let at : other source.root ≡ Some answer = ap other (sym there.0) ∙ there.1 in
      inr (subst (IsFormattedAt source.expansion source.version source.source other) (sym there.0) (formatted_so source text answer found valid a other at))
]
