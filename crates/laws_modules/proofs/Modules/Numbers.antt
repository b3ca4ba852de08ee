-- Numbers rise through all files.
use Rattle.std.proofs.Common.{◌≡◌, inl, inr, sym, ◌∙◌, ap, subst, ◌<◌, ◌≤◌, ◌+◌, ◌++◌, ◌∷◌, [], ℕ, zero, suc, List, Some, refl, append_assoc, arith, length, length-append, map}
use Rattle.std.specs.Prelude.{slice_get}
use Rattle.std.specs.Cmp.{nat_cmp_is}
use Rattle.std.specs.List.{All, AllByRecursion, flat_map}
use Rattle.std.specs.List.Sorted.{IsStrictlySortedBy}
use Rattle.std.specs.Ordering.{nat_cmp}
use Rattle.std.specs.declared.cmp.Ordering.TheVariants.{Less}
use Rattle.std.proofs.lemmas.List.{append-nil}
use Rattle.std.proofs.lemmas.List.Elements.{All-cons, All-nil}
use Rattle.std.proofs.lemmas.Option.{none-some}
use Rattle.just_text.specs.Numbers.{Numbers}
use Rattle.parse_recipes.specs.Numbering.{count_from}
use Rattle.justfile_syntax.specs.Numbered.{bindings_in, recipes_in}
use Rattle.modules_compilation.specs.declared.module_node.File.{File}
use Rattle.modules_sources.specs.ReadingOrder.{AreNumbered, numbered_more, numbered_none}
use Rattle.modules_sources.proofs.Reaching.{end_cases}
use Rattle.meaning_rules.specs.Worlds.Compiled.{FileView}
use Rattle.meaning_rules.specs.Worlds.Views.{file_view}
use Rattle.laws_modules.proofs.Files.Lists.{mapped_at}

-- ---- numbers one after the other

above : (low start n : ℕ) → low < start → AllByRecursion (λ y. nat_cmp low y ≡ Less) (count_from start n)
above low start zero lt = tt
above low start (suc n) lt = (sym (nat_cmp_is low start Less lt), above low (start + 1) n (omega (arith, lt)))

sorted : (start n : ℕ) → IsStrictlySortedBy nat_cmp (count_from start n)
unfolding IsStrictlySortedBy
sorted start zero = tt
sorted start (suc n) = (above start (start + 1) n (omega arith), sorted (start + 1) n)

both : (start a b : ℕ) → count_from start a ++ count_from (start + a) b ≡ count_from start (a + b)
both start zero b =
    let same : start + zero ≡ start = omega arith in
    let none : b ≡ zero + b = omega arith in
    ap (λ s. count_from s b) same ∙ ap (count_from start) none
both start (suc a) b =
    let same : start + suc a ≡ (start + 1) + a = omega arith in
    let more : suc (a + b) ≡ suc a + b = omega arith in
    ap (λ s. start ∷ (count_from (start + 1) a ++ count_from s b)) same ∙ ap (λ xs. start ∷ xs) (both (start + 1) a b) ∙ ap (count_from start) more

in_row : (start : ℕ) (xs ys : List ℕ) → xs ≡ count_from start (length xs) → ys ≡ count_from (start + length xs) (length ys) → xs ++ ys ≡ count_from start (length (xs ++ ys))
in_row start xs ys e f = ap (λ zs. zs ++ ys) e ∙ ap (λ zs. count_from start (length xs) ++ zs) f ∙ both start (length xs) (length ys) ∙ ap (count_from start) (sym (length-append xs ys))

-- ---- the numbers of all files

abbrev bindings_of : List File → List ℕ
bindings_of files = flat_map (λ file. bindings_in file.ast.items.items) files

abbrev recipes_of : List File → List ℕ
recipes_of files = flat_map (λ file. recipes_in file.ast.items.items) files

more_bindings : (files : List File) (file : File) → bindings_of (files ++ file ∷ []) ≡ bindings_of files ++ bindings_in file.ast.items.items
more_bindings [] file = append-nil (bindings_in file.ast.items.items)
more_bindings (f ∷ files) file = ap (λ ns. bindings_in f.ast.items.items ++ ns) (more_bindings files file) ∙ sym (append_assoc (bindings_in f.ast.items.items) (bindings_of files) (bindings_in file.ast.items.items))

more_recipes : (files : List File) (file : File) → recipes_of (files ++ file ∷ []) ≡ recipes_of files ++ recipes_in file.ast.items.items
more_recipes [] file = append-nil (recipes_in file.ast.items.items)
more_recipes (f ∷ files) file = ap (λ ns. recipes_in f.ast.items.items ++ ns) (more_recipes files file) ∙ sym (append_assoc (recipes_in f.ast.items.items) (recipes_of files) (recipes_in file.ast.items.items))

-- they follow one another, and the next numbers are those behind them
record AreCounted (start : Numbers) (files : List File) (next : Numbers) : Type 0 where
  bindings : bindings_of files ≡ count_from start.bindings (length (bindings_of files))
  recipes : recipes_of files ≡ count_from start.recipes (length (recipes_of files))
  next_binding : next.bindings ≡ start.bindings + length (bindings_of files)
  next_recipe : next.recipes ≡ start.recipes + length (recipes_of files)

counted : {start next : Numbers} {files : List File} → AreNumbered start files next → AreCounted start files next
counted (numbered_none {numbers}) = record { bindings = refl; recipes = refl; next_binding = omega arith; next_recipe = omega arith }
counted (numbered_more {old} {now} {new} {files} file so in_order) =
    let r = counted so in
    let bs = bindings_in file.ast.items.items in
    let rs = recipes_in file.ast.items.items in
    let b = ap length (more_bindings files file) ∙ length-append (bindings_of files) bs in
    let c = ap length (more_recipes files file) ∙ length-append (recipes_of files) rs in
    let n = r.next_binding in
    let m = r.next_recipe in
    let gone_b : new.bindings ≡ now.bindings + length bs = ap (λ x. x.bindings) in_order.gone_on in
    let gone_r : new.recipes ≡ now.recipes + length rs = ap (λ x. x.recipes) in_order.gone_on in
    record {
      bindings = more_bindings files file ∙ in_row old.bindings (bindings_of files) bs r.bindings (in_order.bindings ∙ ap (λ k. count_from k (length bs)) n) ∙ ap (λ ns. count_from old.bindings (length ns)) (sym (more_bindings files file));
      recipes = more_recipes files file ∙ in_row old.recipes (recipes_of files) rs r.recipes (in_order.recipes ∙ ap (λ k. count_from k (length rs)) m) ∙ ap (λ ns. count_from old.recipes (length ns)) (sym (more_recipes files file));
      next_binding = omega (arith, b, n, gone_b);
      next_recipe = omega (arith, c, m, gone_r);
    }

view_bindings : (files : List File) → flat_map (λ f. f.bindings) (map file_view files) ≡ bindings_of files
view_bindings [] = refl
view_bindings (file ∷ files) = ap (λ ns. bindings_in file.ast.items.items ++ ns) (view_bindings files)

view_recipes : (files : List File) → flat_map (λ f. f.recipes) (map file_view files) ≡ recipes_of files
view_recipes [] = refl
view_recipes (file ∷ files) = ap (λ ns. recipes_in file.ast.items.items ++ ns) (view_recipes files)

pub bindings_rise : (start next : Numbers) (files : List File) → AreNumbered start files next → IsStrictlySortedBy nat_cmp (flat_map (λ f. f.bindings) (map file_view files))
bindings_rise start next files so = subst (IsStrictlySortedBy nat_cmp) (sym (view_bindings files ∙ (counted so).bindings)) (sorted start.bindings (length (bindings_of files)))

pub recipes_rise : (start next : Numbers) (files : List File) → AreNumbered start files next → IsStrictlySortedBy nat_cmp (flat_map (λ f. f.recipes) (map file_view files))
recipes_rise start next files so = subst (IsStrictlySortedBy nat_cmp) (sym (view_recipes files ∙ (counted so).recipes)) (sorted start.recipes (length (recipes_of files)))

-- ---- none is less than the first

at_least : (low start n : ℕ) → low ≤ start → All (λ number. low ≤ number) (count_from start n)
at_least low start zero le = All-nil (λ number. low ≤ number)
at_least low start (suc n) le = All-cons (λ number. low ≤ number) start (count_from (start + 1) n) le (at_least low (start + 1) n (omega (arith, le)))

file_above : {start next : Numbers} {files : List File} → AreNumbered start files next → (low : ℕ) → low ≤ start.bindings
    → (k : ℕ) (file : File) → slice_get files k ≡ Some file → All (λ number. low ≤ number) (bindings_in file.ast.items.items)
file_above (numbered_none {numbers}) low le k file e = absurd (none-some file e)
file_above (numbered_more {old} {now} {new} {files} last so in_order) low le k file e = elim (end_cases files last k file e) [
  | inl there ↦ file_above so low le k file there
  | inr at ↦
      let n = (counted so).next_binding in
      subst (λ f. All (λ number. low ≤ number) (bindings_in f.ast.items.items)) at.1
      (subst (All (λ number. low ≤ number)) (sym in_order.bindings) (at_least low now.bindings (length (bindings_in last.ast.items.items)) (omega (arith, le, n))))
]

pub bindings_above : (start next : Numbers) (files : List File) → AreNumbered start files next → (low : ℕ) → low ≤ start.bindings
    → (k : ℕ) (view : FileView) → slice_get (map file_view files) k ≡ Some view → All (λ number. low ≤ number) view.bindings
bindings_above start next files so low le k view e =
    let at = mapped_at file_view files k view e in
    subst (λ v. All (λ number. low ≤ number) v.bindings) at.2 (file_above so low le k at.0 at.1)
