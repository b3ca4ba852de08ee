-- Keys in order, and the file that is chosen.
use Rattle.std.proofs.Common.{◌≡◌, sym, ◌∙◌, ap, ◌||◌, List, [], ◌∷◌, ℕ, Option, refl}
use Rattle.std.specs.Prelude.{Result, Ok, Err}
use Rattle.std.specs.BTreeMap.{is_at}
use Rattle.std.specs.Borrow.{Bor}
use Rattle.std.specs.Cmp.Lexicographic.{slice_cmp}
use Rattle.std.specs.List.{AllByRecursion, list_any}
use Rattle.std.specs.List.Sorted.{IsStrictlySortedBy}
use Rattle.std.specs.Ordering.{is_eq, nat_cmp}
use Rattle.std.specs.Str.{bytes_eq}
use Rattle.std.specs.declared.cmp.Ordering.TheVariants.{Less}
use Rattle.std.proofs.lemmas.Map.Text.{is_eq-slice_cmp}
use Rattle.modules_compilation.specs.Tables.{text_cmp}
use Rattle.modules_compilation.specs.declared.error.Error.{Error}
use Rattle.modules_compilation.specs.declared.error.Error.TheVariants.{OutOfMemory}
use Rattle.modules_compilation.specs.declared.source.Source.{Source}
use Rattle.modules_files.specs.Chosen.{UnlessMemory}
use Rattle.modules_files.specs.Found.{borrowed}

abbrev Text : Type 0
Text = List ℕ

all_texts : (key : Bor Text) (ks : List (Bor Text)) → AllByRecursion (λ other. slice_cmp nat_cmp key.now other.now ≡ Less) ks → AllByRecursion (λ other. text_cmp key.now other ≡ Less) (borrowed ks)
all_texts key [] h = h
all_texts key (k ∷ ks) h = (h.0, all_texts key ks h.1)

-- borrowed texts in order are texts in order
pub sorted_texts : (ks : List (Bor Text)) → IsStrictlySortedBy (λ x y. slice_cmp nat_cmp x.now y.now) ks → IsStrictlySortedBy text_cmp (borrowed ks)
unfolding IsStrictlySortedBy
sorted_texts [] h = h
sorted_texts (k ∷ ks) h = (all_texts k ks h.0, sorted_texts ks h.1)

-- a set has the texts of its keys
pub has_listed : (text : Text) (ks : List (Bor Text)) → list_any (bytes_eq text) (borrowed ks) ≡ list_any (is_at (λ k. slice_cmp nat_cmp text k.now)) ks
has_listed text [] = refl
has_listed text (k ∷ ks) =
    ap (λ b. b || list_any (bytes_eq text) (borrowed ks)) (sym (is_eq-slice_cmp text k.now)) ∙ ap (λ b. is_eq (slice_cmp nat_cmp text k.now) || b) (has_listed text ks)

-- what holds, holds unless memory ran out
pub unless : (result : Result (Option Source) Error) (Holds : Type 0) → Holds → UnlessMemory result Holds
unless (Ok found) Holds h = h
unless (Err OutOfMemory) Holds h = tt
unless (Err refusal) Holds h = h
