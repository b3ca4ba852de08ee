-- What is answered is read again.
use Rattle.std.proofs.Common.{◌≡◌, ◌⊎◌, inl, inr, ℕ, Bool, ◌&&◌, ◌||◌, true, false, List, [], ◌∷◌, codes, Option, Some, None, Result, Ok, Err, if◌then◌else◌, unwrap_or, refl, sym, subst}
use Rattle.std.specs.List.{list_any, list_all}
use Rattle.std.specs.Option.{option_and_then}
use Rattle.std.specs.Str.{bytes_eq}
use Rattle.std.proofs.lemmas.Slice.Eq.{bytes_eq-Decides}
use Rattle.just_text.specs.declared.os.Os.{Os}
use Rattle.tree_attributes.specs.Sets.Indentations as one_of
use Rattle.tree_items.specs.Files.{item_shapes}
use Rattle.tree_items.specs.FileIndentation.{file_indentation, first_given, item_indentation, known}
use Rattle.tree_items.specs.Printable.{printable}
use Rattle.tree_items.specs.declared.ast.Item.{Item}
use Rattle.justfile_syntax.specs.Bodies.{is_indentation}
use Rattle.modules_compilation.specs.declared.module_node.File.{File}
use Rattle.laws_printing.specs.Formatted.Formatted.{PrintsBack}
use Rattle.just_run.specs.Texts.{IsFormatted, IsReadAgain, answered_text, formatted_text}
use Rattle.just_run.specs.declared.fault.Fault.{Fault}
use Rattle.just_run.specs.declared.outcome.Outcome.{Outcome}

decided : (b : Bool) (P : Type 0) → (b ≡ true → P) → (P → b ≡ true) → ((b ≡ true) × P) ⊎ ((b ≡ false) × (P → ⊥))
decided true P t f = inl (refl, t refl)
decided false P t f = inr (refl, λ p. let e : false ≡ true = f p in cc)

-- two texts are the same or not
bytes_eq_cases : (a b : List ℕ) → ((bytes_eq a b ≡ true) × (a ≡ b)) ⊎ ((bytes_eq a b ≡ false) × (a ≡ b → ⊥))
bytes_eq_cases a b = let d = bytes_eq-Decides a b in decided (bytes_eq a b) (a ≡ b) d.0 d.1

pub both : (a b : Bool) → (a && b) ≡ true → (a ≡ true) × (b ≡ true)
both true true h = (refl, refl)
both true false h = absurd (let f : false ≡ true = h in cc)
both false b h = absurd (let f : false ≡ true = h in cc)

pub one_of_all : (text : List ℕ) (xs : List (List ℕ)) → list_any (bytes_eq text) xs ≡ true → list_all is_indentation xs ≡ true → is_indentation text ≡ true
one_of_all text [] h all = absurd (let f : false ≡ true = h in cc)
one_of_all text (x ∷ xs) h all =
    let p = both (is_indentation x) (list_all is_indentation xs) all in
    elim (bytes_eq_cases text x) [
      | inl same ↦ subst (λ t. is_indentation t ≡ true) (sym same.1) p.0
      | inr other ↦ one_of_all text xs (subst (λ b. (b || list_any (bytes_eq text) xs) ≡ true) other.0 h) p.1
    ]

-- each text that a file may set is an indentation
pub all_one : list_all is_indentation one_of.indentations ≡ true
all_one = refl

pub is_one : (text : List ℕ) → one_of.is_indentation text ≡ true → is_indentation text ≡ true
is_one text h = one_of_all text one_of.indentations h all_one

known_is_one : (text : List ℕ) (b : Bool) → one_of.is_indentation text ≡ b → is_indentation (unwrap_or (if b then Some text else None) (codes "    ")) ≡ true
known_is_one text true h = is_one text h
known_is_one text false h = refl

given_is_one : (given : Option (List ℕ)) → is_indentation (unwrap_or (option_and_then known given) (codes "    ")) ≡ true
given_is_one None = refl
given_is_one (Some text) = known_is_one text (one_of.is_indentation text) refl

-- bodies are printed with an indentation
pub printed_with_one : (os : Os) (items : List Item) → is_indentation (unwrap_or (file_indentation os items) (codes "    ")) ≡ true
printed_with_one os items = given_is_one (first_given (item_indentation os) items)

answered_again : PrintsBack → (os : Os) (path : List ℕ) (file : File) (outcome : Outcome) (b : Bool) → printable (item_shapes file.ast.items.items) ≡ b
    → IsFormatted path (if b then Some (formatted_text os file.ast.items.items) else None) (Ok outcome) → IsReadAgain (Some file) (Ok outcome)
answered_again prints os path file outcome true p h = subst (λ o. IsReadAgain (Some file) (Ok o)) (sym h)
    (λ expansion version source utf8 reads. prints expansion version (unwrap_or (file_indentation os file.ast.items.items) (codes "    ")) source (item_shapes file.ast.items.items)
    (printed_with_one os file.ast.items.items) utf8 reads p)
answered_again prints os path file outcome false p h = absurd h

-- what is answered says what the file says
pub read_again : PrintsBack → (os : Os) (path : List ℕ) (file : Option File) (result : Result Outcome Fault) → IsFormatted path (answered_text os file) result → IsReadAgain file result
read_again prints os path None result h = tt
read_again prints os path (Some file) (Err fault) h = tt
read_again prints os path (Some file) (Ok outcome) h = answered_again prints os path file outcome (printable (item_shapes file.ast.items.items)) refl h

-- nothing is answered by a refusal
pub refused_again : (file : Option File) (fault : Fault) → IsReadAgain file (Err fault)
refused_again None fault = tt
refused_again (Some file) fault = tt
