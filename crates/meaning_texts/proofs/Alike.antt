-- Texts of files of which some stand in their formatted text.
use Rattle.std.proofs.Common.{◌≡◌, ◌∙◌, ◌⊎◌, inl, inr, ◌==◌, ◌+◌, arith, ap, sym, subst, refl, ℕ, zero, suc, Bool, true, false, if◌then◌else◌, List, [], ◌∷◌, ◌++◌, Option, Some, None, codes}
use Rattle.std.specs.Prelude.{slice_get, unwrap_or}
use Rattle.std.specs.Option.{option_and_then}
use Rattle.std.proofs.lemmas.Bool.Decides.{eqb_tells}
use Rattle.std.proofs.lemmas.Option.{same_Some}
use Rattle.just_text.specs.declared.os.Os.{Os}
use Rattle.tree_attributes.specs.Attributes.{AttributeShape}
use Rattle.tree_items.specs.FileIndentation.{first_given, known, or_next}
use Rattle.tree_items.specs.Files.{ItemShape, alias_item, assignment_item, comment_item, file_text, function_item, import_item, is_blank, module_item, newline_item, recipe_item, set_item, unexport_item}
use Rattle.tree_items.specs.Printable.{printable}
use Rattle.tree_items.specs.Recipes.{RecipeShape}
use Rattle.parse_expressions.specs.Literals.{Expansion}
use Rattle.justfile_syntax.specs.Files.{newlines}
use Rattle.justfile_syntax.specs.Laws.{SaysAtMostOne}
use Rattle.justfile_syntax.specs.Reads.{Reads}
use Rattle.laws_printing.specs.Printing.Normal.{NormalFillsAlike, NormalIsPrintable, NormalPrintsAlike, cut, normal, normal_after}
use Rattle.laws_printing.specs.Printing.Normal as printing
use Rattle.meaning_rules.specs.Worlds.Docs.{comment_above, comment_of, doc_in, or_comment}
use Rattle.meaning_rules.specs.Worlds.Given.{Given, Text, World, filled}
use Rattle.meaning_rules.specs.Worlds.Laws.{IsRead}
use Rattle.meaning_rules.specs.Worlds.Reformatted.{IsReformatted}
use Rattle.laws_printing.specs.Formatted.Formatted.{PrintsBack}
use Rattle.laws_printing.proofs.Printing.Normal.{fills_alike, prints_alike, normal_printable}
use Rattle.meaning_texts.specs.Laws.{AnswersStayAlike, DumpsStayAlike, ListingsStayAlike}
use Rattle.meaning_texts.specs.Listings.{IsDoc, IsListing, IsOffered, OfferedRecipe}
use Rattle.meaning_texts.specs.Texts.{IsAnswer, IsDump, answer_in, indentation_in, indentation_said, text_in}
use Rattle.meaning_texts.proofs.Blanks.{comment_from, comment_is, filled_at, from_blank, from_item, pick, place_at, rank}

-- ---- comments in the normal shape

-- what stands above after blank lines
abbrev behind : ℕ → Option Text → Option Text
behind zero before = before
behind (suc n) before = None

behind_none : (n : ℕ) → behind n None ≡ None
behind_none zero = refl
behind_none (suc n) = refl

behind_newlines : (m : ℕ) (before : Option Text) (ys : List ItemShape) (n : ℕ) → comment_from before (newlines m ++ ys) n ≡ comment_from (behind m before) ys n
behind_newlines zero before ys n = refl
behind_newlines (suc m) before ys n = from_blank before newline_item (newlines m ++ ys) n refl ∙ behind_newlines m None ys n ∙ ap (λ c. comment_from c ys n) (behind_none m)

behind_cut : (n : ℕ) (before : Option Text) → behind (cut n) before ≡ behind n before
behind_cut zero before = refl
behind_cut (suc n) before = elim (eqb_tells (suc n) 0) [
  | inl p ↦ let e = p.1 in absurd (omega (arith, e))
  | inr p ↦ ap (λ b. behind (if b then 0 else if suc n == 1 then 1 else 2) before) p.0 ∙ by_one (suc n == 1)
]
  where
    by_one : (b : Bool) → behind (if b then 1 else 2) before ≡ None
    by_one true = refl
    by_one false = refl

normal_blank : (b : ℕ) (x : ItemShape) (xs : List ItemShape) → is_blank x ≡ true → normal_after b (x ∷ xs) ≡ normal_after (b + 1) xs
unfolding normal_after
normal_blank b x xs e = rw e refl

normal_item : (b : ℕ) (x : ItemShape) (xs : List ItemShape) → is_blank x ≡ false → normal_after b (x ∷ xs) ≡ newlines (cut b) ++ x ∷ normal_after 0 xs
unfolding normal_after
normal_item b x xs e = rw e refl

normal_none : (b : ℕ) → normal_after b [] ≡ []
unfolding normal_after
normal_none b = refl

from_none : (before : Option Text) (n : ℕ) → comment_from before [] n ≡ None
unfolding comment_from
from_none before n = refl

pick_alike : (before : Option Text) (f g : ℕ → Option Text) → ((n : ℕ) → f n ≡ g n) → (n : ℕ) → pick before f n ≡ pick before g n
pick_alike before f g same zero = refl
pick_alike before f g same (suc n) = same n

comment_normal : (items : List ItemShape) (b : ℕ) (before : Option Text) (n : ℕ) → comment_from before (normal_after b items) n ≡ comment_from (behind b before) items n
comment_normal [] b before n = ap (λ ys. comment_from before ys n) (normal_none b) ∙ from_none before n ∙ sym (from_none (behind b before) n)
comment_normal (x ∷ xs) b before n = by_blank (is_blank x) refl (comment_normal xs)
  where
    by_blank : (q : Bool) → is_blank x ≡ q → ((b : ℕ) (before : Option Text) (n : ℕ) → comment_from before (normal_after b xs) n ≡ comment_from (behind b before) xs n)
        → comment_from before (normal_after b (x ∷ xs)) n ≡ comment_from (behind b before) (x ∷ xs) n
    by_blank true e more =
        let next : b + 1 ≡ suc b = omega arith in
        ap (λ ys. comment_from before ys n) (normal_blank b x xs e) ∙ more (b + 1) before n ∙ ap (λ m. comment_from (behind m before) xs n) next ∙ sym (from_blank (behind b before) x xs n e)
    by_blank false e more =
        ap (λ ys. comment_from before ys n) (normal_item b x xs e) ∙ behind_newlines (cut b) before (x ∷ normal_after 0 xs) n ∙ ap (λ c. comment_from c (x ∷ normal_after 0 xs) n) (behind_cut b before)
        ∙ from_item (behind b before) x (normal_after 0 xs) n e
        ∙ pick_alike (behind b before) (comment_from (comment_of (Some x)) (normal_after 0 xs)) (comment_from (comment_of (Some x)) xs) (λ m. more 0 (comment_of (Some x)) m) n
        ∙ sym (from_item (behind b before) x xs n e)

-- ---- indentations

-- what blank lines don't give is given by the other items
first_filled : {B : Type 0} (f : ItemShape → Option B) → f newline_item ≡ None → (items : List ItemShape) → first_given f items ≡ first_given f (filled items)
unfolding first_given filled
first_filled f none [] = refl
first_filled f none (alias_item attributes a ∷ xs) = ap (or_next (f (alias_item attributes a))) (first_filled f none xs)
first_filled f none (assignment_item attributes a ∷ xs) = ap (or_next (f (assignment_item attributes a))) (first_filled f none xs)
first_filled f none (comment_item text ∷ xs) = ap (or_next (f (comment_item text))) (first_filled f none xs)
first_filled f none (function_item d ∷ xs) = ap (or_next (f (function_item d))) (first_filled f none xs)
first_filled f none (import_item i ∷ xs) = ap (or_next (f (import_item i))) (first_filled f none xs)
first_filled f none (module_item attributes m ∷ xs) = ap (or_next (f (module_item attributes m))) (first_filled f none xs)
first_filled f none (newline_item ∷ xs) = ap (λ o. or_next o (first_given f xs)) none ∙ first_filled f none xs
first_filled f none (recipe_item attributes r ∷ xs) = ap (or_next (f (recipe_item attributes r))) (first_filled f none xs)
first_filled f none (set_item attributes s ∷ xs) = ap (or_next (f (set_item attributes s))) (first_filled f none xs)
first_filled f none (unexport_item u ∷ xs) = ap (or_next (f (unexport_item u))) (first_filled f none xs)

same_filled : (items : List ItemShape) → filled items ≡ printing.filled items
unfolding filled
same_filled items = refl

-- ---- two files that differ in blank lines alone

-- (laws of printing: in meaning_printing and meaning_formatted)
module _ (fills : NormalFillsAlike) (prints : NormalPrintsAlike) (is_printable : NormalIsPrintable) (back : PrintsBack) (one : SaysAtMostOne) where
  -- without blank lines they are the same, and the same comments stand directly above
  pub record DifferInBlanks (items others : List ItemShape) : Type 0 where
    pub same : filled items ≡ filled others
    pub comments : (n : ℕ) → comment_from None items n ≡ comment_from None others n

  differ_back : (items others : List ItemShape) → DifferInBlanks items others → DifferInBlanks others items
  differ_back items others d = record { same = sym d.same; comments = λ n. sym (d.comments n) }

  normal_filled : (items : List ItemShape) → filled (normal items) ≡ filled items
  normal_filled items = same_filled (normal items) ∙ fills items ∙ sym (same_filled items)

  differ_normal : (items : List ItemShape) → DifferInBlanks items (normal items)
  differ_normal items = record { same = sym (normal_filled items); comments = λ n. sym (comment_normal items 0 None n) }

  indentation_alike : (os : Os) (expansion : Expansion) (items others : List ItemShape) → filled items ≡ filled others → indentation_in os expansion items ≡ indentation_in os expansion others
  indentation_alike os expansion items others same =
      ap (λ o. unwrap_or (option_and_then known o) (codes "    "))
      (first_filled (indentation_said os expansion) refl items ∙ ap (first_given (indentation_said os expansion)) same ∙ sym (first_filled (indentation_said os expansion) refl others))

  text_normal : (os : Os) (expansion : Expansion) (items : List ItemShape) → text_in os expansion items ≡ text_in os expansion (normal items)
  text_normal os expansion items =
      sym (prints (indentation_in os expansion items) items) ∙ ap (λ i. file_text i (normal items)) (indentation_alike os expansion items (normal items) (sym (normal_filled items)))

  module _ (source other : Given) (r : IsReformatted source other) where
    -- what a text says, by the other's readers
    said_alike : (text : Text) (items : List ItemShape) → Reads source.expansion source.version text items → Reads other.expansion other.version text items
    said_alike text items h = subst (λ x. Reads x other.version text items) r.same_expansion (subst (λ v. Reads source.expansion v text items) r.same_version h)

    -- a file says the same, or its normal shape
    pub data SaysOf (key : Text) (items : List ItemShape) : Type 0 where
      itself : IsRead other key items → SaysOf key items
      normally : IsRead other key (normal items) → SaysOf key items

    said_by : (key : Text) (items : List ItemShape) → IsRead source key items → SaysOf key items
    said_by key items (text, found, reads) = elim (r.formats key) [
      | inl same ↦ itself (text, sym same ∙ found, said_alike text items reads)
      | inr f ↦
          let texts : text ≡ f.text = same_Some text f.text (sym found ∙ f.found) in
          let same : f.items ≡ items = one source.expansion source.version f.text f.items items f.reads (subst (λ t. Reads source.expansion source.version t items) texts reads) in
          normally (subst (λ xs. IsRead other key (normal xs)) same
          (file_text f.indentation f.items, f.formatted, said_alike (file_text f.indentation f.items) (normal f.items) (back source.expansion source.version f.indentation f.text f.items f.indents f.valid f.reads f.printed)))
    ]

    -- ---- the root's texts

    dump_alike : (text : Text) → IsDump source text → IsDump other text
    dump_alike text d =
        let root : IsRead source other.root d.items = subst (λ q. IsRead source q d.items) r.same_root d.says in
        let here : text ≡ text_in other.os other.expansion d.items = d.is ∙ ap (λ o. text_in o source.expansion d.items) r.same_os ∙ ap (λ x. text_in other.os x d.items) r.same_expansion in
        by_said (said_by other.root d.items root) here
      where
        by_said : SaysOf other.root d.items → text ≡ text_in other.os other.expansion d.items → IsDump other text
        by_said (itself h) e = record { items = d.items; says = h; is = e }
        by_said (normally h) e = record { items = normal d.items; says = h; is = e ∙ text_normal other.os other.expansion d.items }

    answer_alike : (answer : Option Text) → IsAnswer source answer → IsAnswer other answer
    answer_alike answer d =
        let root : IsRead source other.root d.items = subst (λ q. IsRead source q d.items) r.same_root d.says in
        let here : answer ≡ answer_in other.os other.expansion d.items = d.is ∙ ap (λ o. answer_in o source.expansion d.items) r.same_os ∙ ap (λ x. answer_in other.os x d.items) r.same_expansion in
        by_said (said_by other.root d.items root) here
      where
        by_said : SaysOf other.root d.items → answer ≡ answer_in other.os other.expansion d.items → IsAnswer other answer
        by_said (itself h) e = record { items = d.items; says = h; is = e }
        by_said (normally h) e = record {
          items = normal d.items;
          says = h;
          is = e ∙ ap (λ b. if b then Some (text_in other.os other.expansion d.items) else None) (sym (is_printable d.items)) ∙ ap (λ text. if printable (normal d.items) then Some text else None) (text_normal other.os other.expansion d.items);
        }

    -- ---- docs

    abbrev DocOf : Given → Text → ℕ → List AttributeShape → RecipeShape → Option Text → Type 0
    DocOf given key at attributes shape doc = IsDoc given key at attributes shape doc

    -- what is said stays where blank lines come or go
    doc_moves : (from to : Given) → from.expansion ≡ to.expansion → (key : Text) (at : ℕ) (attributes : List AttributeShape) (shape : RecipeShape) (doc : Option Text) (d : DocOf from key at attributes shape doc)
        → (others : List ItemShape) → IsRead to key others → DifferInBlanks d.items others → DocOf to key at attributes shape doc
    doc_moves from to same key at attributes shape doc d others says differ =
        let item = recipe_item attributes shape in
        let filled_there : slice_get (filled others) at ≡ Some item = ap (slice_get (filled others)) (sym d.rank) ∙ ap (λ ys. slice_get ys (rank d.items d.place)) (sym differ.same) ∙ filled_at d.items d.place item d.there refl in
        let p = place_at others at item filled_there in
        record {
          items = others;
          says = says;
          place = p.0;
          there = p.1;
          rank = p.2;
          is =
              d.is ∙ ap (λ x. or_comment (doc_in x attributes) (comment_above d.items d.place)) same
              ∙ ap (or_comment (doc_in to.expansion attributes))
              (comment_is d.items d.place item d.there refl ∙ ap (comment_from None d.items) d.rank ∙ differ.comments at ∙ ap (comment_from None others) (sym p.2) ∙ sym (comment_is others p.0 item p.1 refl));
        }

    differ_itself : (items : List ItemShape) → DifferInBlanks items items
    differ_itself items = record { same = refl; comments = λ n. refl }

    doc_alike : (key : Text) (at : ℕ) (attributes : List AttributeShape) (shape : RecipeShape) (doc : Option Text) → DocOf source key at attributes shape doc → DocOf other key at attributes shape doc
    doc_alike key at attributes shape doc d = by_said (said_by key d.items d.says)
      where
        by_said : SaysOf key d.items → DocOf other key at attributes shape doc
        by_said (itself h) = doc_moves source other r.same_expansion key at attributes shape doc d d.items h (differ_itself d.items)
        by_said (normally h) = doc_moves source other r.same_expansion key at attributes shape doc d (normal d.items) h (differ_normal d.items)

    said_back : (text : Text) (items : List ItemShape) → Reads other.expansion other.version text items → Reads source.expansion source.version text items
    said_back text items h = subst (λ x. Reads x source.version text items) (sym r.same_expansion) (subst (λ v. Reads other.expansion v text items) (sym r.same_version) h)

    doc_back : (key : Text) (at : ℕ) (attributes : List AttributeShape) (shape : RecipeShape) (doc : Option Text) → DocOf other key at attributes shape doc → DocOf source key at attributes shape doc
    doc_back key at attributes shape doc d = elim (r.formats key) [
      | inl same ↦
          let says : IsRead source key d.items = (d.says.0, same ∙ d.says.1, said_back d.says.0 d.items d.says.2) in
          doc_moves other source (sym r.same_expansion) key at attributes shape doc d d.items says (differ_itself d.items)
      | inr f ↦
          let texts : d.says.0 ≡ file_text f.indentation f.items = same_Some d.says.0 (file_text f.indentation f.items) (sym d.says.1 ∙ f.formatted) in
          let says : IsRead source key f.items = (f.text, f.found, f.reads) in
          let printed = back source.expansion source.version f.indentation f.text f.items f.indents f.valid f.reads f.printed in
          let same : normal f.items ≡ d.items =
          one source.expansion source.version (file_text f.indentation f.items) (normal f.items) d.items printed (subst (λ t. Reads source.expansion source.version t d.items) texts (said_back d.says.0 d.items d.says.2)) in
          doc_moves other source (sym r.same_expansion) key at attributes shape doc d f.items says (subst (λ xs. DifferInBlanks xs f.items) same (differ_back f.items (normal f.items) (differ_normal f.items)))
    ]

    offered_alike : (w : World) (own : Text) (row : OfferedRecipe) → IsOffered source w own row → IsOffered other w own row
    offered_alike w own row h = record { key = h.key; at = h.at; attributes = h.attributes; shape = h.shape; kept = h.kept; shown = h.shown; parameters = h.parameters; doc = doc_alike h.key h.at h.attributes h.shape row.doc h.doc }

    offered_back : (w : World) (own : Text) (row : OfferedRecipe) → IsOffered other w own row → IsOffered source w own row
    offered_back w own row h = record { key = h.key; at = h.at; attributes = h.attributes; shape = h.shape; kept = h.kept; shown = h.shown; parameters = h.parameters; doc = doc_back h.key h.at h.attributes h.shape row.doc h.doc }

    listing_alike : (w : World) (own text : Text) → IsListing source w own text → IsListing other w own text
    listing_alike w own text l = record {
      rows = l.rows;
      recipes = record { sorted = l.recipes.sorted; each = λ row. (λ c. offered_alike w own row ((l.recipes.each row).0 c), λ h. (l.recipes.each row).1 (offered_back w own row h)) };
      names = l.names;
      submodules = l.submodules;
      is = l.is;
    }

-- with the laws of printing
pub listings_stay_alike : ListingsStayAlike
listings_stay_alike back one source other r w own text l = listing_alike fills_alike prints_alike normal_printable back one source other r w own text l

pub dumps_stay_alike : DumpsStayAlike
dumps_stay_alike back one source other r text d = dump_alike fills_alike prints_alike normal_printable back one source other r text d

pub answers_stay_alike : AnswersStayAlike
answers_stay_alike back one source other r answer d = answer_alike fills_alike prints_alike normal_printable back one source other r answer d
