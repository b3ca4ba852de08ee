-- Blank lines of files.
use Rattle.std.proofs.Common.{◌≡◌, ℕ, zero, suc, ◌+◌, Bool, true, false, ◌&&◌, List, [], ◌∷◌, ◌++◌, refl, sym, ap, ◌∙◌, arith, inl, inr, eqb-true}
use Rattle.std.specs.Prelude.{◌==◌, ◌||◌}
use Rattle.std.specs.List.{list_all, list_any}
use Rattle.tree_items.specs.Printable.{is_item_printable, printable}
use Rattle.tree_items.specs.Files.{ItemShape, alias_item, assignment_item, comment_item, function_item, import_item, module_item, newline_item, recipe_item, set_item, unexport_item, is_blank, blank_lines, item_text, text_behind, file_text_behind, file_text}
use Rattle.parse_expressions.proofs.Taken.{test}
use Rattle.justfile_syntax.specs.Features.{features_of, is_cached, is_function, sets_lists}
use Rattle.justfile_syntax.specs.Files.{newlines}
use Rattle.laws_printing.specs.Printing.Normal.{cut, normal_after, normal, filled}

after_newlines : (indentation : List ℕ) (b n : ℕ) (items : List ItemShape) → file_text_behind indentation b (newlines n ++ items) ≡ file_text_behind indentation (b + n) items
unfolding file_text_behind
after_newlines indentation b zero items = let p : b + 0 ≡ b = omega arith in ap (λ k. file_text_behind indentation k items) (sym p)
after_newlines indentation b (suc n) items = let p : b + 1 + n ≡ b + suc n = omega arith in after_newlines indentation (b + 1) n items ∙ ap (λ k. file_text_behind indentation k items) p

cut_alike : (n : ℕ) → blank_lines (cut n) ≡ blank_lines n
cut_alike n =
    elim (test (n == 0)) [
      | inl a ↦ let p : n ≡ 0 = eqb-true n 0 a in rw p refl
      | inr a ↦ elim (test (n == 1)) [
        | inl b ↦ let p : n ≡ 1 = eqb-true n 1 b in rw p refl
        | inr b ↦ rw (a, b) refl
      ]
    ]

none_more : (n : ℕ) → 0 + n ≡ n
none_more n = omega arith

not_blank : (indentation : List ℕ) (b : ℕ) (item : ItemShape) (items : List ItemShape) → is_blank item ≡ false → file_text_behind indentation b (item ∷ items) ≡ text_behind indentation b item ++ file_text_behind indentation 0 items
unfolding file_text_behind
not_blank indentation b item items h = rw h refl

empty : (indentation : List ℕ) (b : ℕ) (item : ItemShape) (items : List ItemShape) → is_blank item ≡ true → file_text_behind indentation b (item ∷ items) ≡ file_text_behind indentation (b + 1) items
unfolding file_text_behind
empty indentation b item items h = rw h refl

normal_filled : (b : ℕ) (item : ItemShape) (items : List ItemShape) → is_blank item ≡ false → normal_after b (item ∷ items) ≡ newlines (cut b) ++ item ∷ normal_after 0 items
unfolding normal_after
normal_filled b item items h = rw h refl

normal_empty : (b : ℕ) (item : ItemShape) (items : List ItemShape) → is_blank item ≡ true → normal_after b (item ∷ items) ≡ normal_after (b + 1) items
unfolding normal_after
normal_empty b item items h = rw h refl

alike : (indentation : List ℕ) (b : ℕ) (items : List ItemShape) → file_text_behind indentation 0 (normal_after b items) ≡ file_text_behind indentation b items
unfolding normal_after file_text_behind
alike indentation b [] = refl
alike indentation b (item ∷ items) =
    elim (test (is_blank item)) [
      | inl h ↦ ap (file_text_behind indentation 0) (normal_empty b item items h) ∙ alike indentation (b + 1) items ∙ sym (empty indentation b item items h)
      | inr h ↦
          ap (file_text_behind indentation 0) (normal_filled b item items h) ∙ after_newlines indentation 0 (cut b) (item ∷ normal_after 0 items) ∙ ap (λ k. file_text_behind indentation k (item ∷ normal_after 0 items)) (none_more (cut b)) ∙ not_blank indentation (cut b) item (normal_after 0 items) h
          ∙ ap (λ t. text_behind indentation (cut b) item ++ t) (alike indentation 0 items) ∙ ap (λ t. t ++ item_text indentation item ++ (10 ∷ []) ++ file_text_behind indentation 0 items) (cut_alike b) ∙ sym (not_blank indentation b item items h)
    ]

pub prints_alike : (indentation : List ℕ) (items : List ItemShape) → file_text indentation (normal items) ≡ file_text indentation items
prints_alike indentation items = alike indentation 0 items

filled_newlines : (n : ℕ) (items : List ItemShape) → filled (newlines n ++ items) ≡ filled items
filled_newlines zero items = refl
filled_newlines (suc n) items = filled_newlines n items

filled_after : (b : ℕ) (items : List ItemShape) → filled (normal_after b items) ≡ filled items
unfolding normal_after
filled_after b [] = refl
filled_after b (item ∷ items) =
    elim (test (is_blank item)) [
      | inl h ↦ rw h (filled_after (b + 1) items)
      | inr h ↦ rw h (filled_newlines (cut b) (item ∷ normal_after 0 items) ∙ rw h (ap (λ is. item ∷ is) (filled_after 0 items)))
    ]

pub fills_alike : (items : List ItemShape) → filled (normal items) ≡ filled items
fills_alike items = filled_after 0 items

any_newlines : (f : ItemShape → Bool) (n : ℕ) (items : List ItemShape) → f newline_item ≡ false → list_any f (newlines n ++ items) ≡ list_any f items
any_newlines f zero items e = refl
any_newlines f (suc n) items e = rw e (any_newlines f n items e)

all_newlines : (f : ItemShape → Bool) (n : ℕ) (items : List ItemShape) → f newline_item ≡ true → list_all f (newlines n ++ items) ≡ list_all f items
all_newlines f zero items e = refl
all_newlines f (suc n) items e = rw e (all_newlines f n items e)

blank_is : (item : ItemShape) → is_blank item ≡ true → item ≡ newline_item
blank_is newline_item h = refl
blank_is (alias_item as' a) h = absurd cc
blank_is (assignment_item as' a) h = absurd cc
blank_is (comment_item t) h = absurd cc
blank_is (function_item f) h = absurd cc
blank_is (import_item i) h = absurd cc
blank_is (module_item as' m) h = absurd cc
blank_is (recipe_item as' r) h = absurd cc
blank_is (set_item as' s) h = absurd cc
blank_is (unexport_item name) h = absurd cc

-- a test that blank lines don't pass, and one that they do
normal_any : (f : ItemShape → Bool) (b : ℕ) (items : List ItemShape) → f newline_item ≡ false → list_any f (normal_after b items) ≡ list_any f items
unfolding normal_after
normal_any f b [] e = refl
normal_any f b (item ∷ items) e =
    elim (test (is_blank item)) [
      | inl h ↦ let none : f item ≡ false = ap f (blank_is item h) ∙ e in rw (h, none) (normal_any f (b + 1) items e)
      | inr h ↦ rw h (any_newlines f (cut b) (item ∷ normal_after 0 items) e ∙ ap (λ t. f item || t) (normal_any f 0 items e))
    ]

normal_all : (f : ItemShape → Bool) (b : ℕ) (items : List ItemShape) → f newline_item ≡ true → list_all f (normal_after b items) ≡ list_all f items
unfolding normal_after
normal_all f b [] e = refl
normal_all f b (item ∷ items) e =
    elim (test (is_blank item)) [
      | inl h ↦ let passes : f item ≡ true = ap f (blank_is item h) ∙ e in rw (h, passes) (normal_all f (b + 1) items e)
      | inr h ↦ rw h (all_newlines f (cut b) (item ∷ normal_after 0 items) e ∙ ap (λ t. f item && t) (normal_all f 0 items e))
    ]

pub uses_alike : (items : List ItemShape) → features_of (normal items) ≡ features_of items
uses_alike items = rw (normal_any is_cached 0 items refl, normal_any is_function 0 items refl, normal_any sets_lists 0 items refl) refl

pub normal_printable : (items : List ItemShape) → printable (normal items) ≡ printable items
normal_printable items = normal_all is_item_printable 0 items refl
