-- Names that are not to be exported, and variables that are exported.
use Rattle.std.proofs.Common.{◌≡◌, ◌∙◌, ◌<◌, ◌≤◌, ◌+◌, ℕ, suc, length, get_or, drop, drop-cons, take, add-one, ◌||◌, ◌&&◌, Bool, true, false, cond, List, [], ◌∷◌, Some, None, ap, subst, sym, refl}
use Rattle.std.specs.Prelude.{find, bytes_eq}
use Rattle.std.specs.BTreeSet.{BTreeSet, UpdatesBy}
use Rattle.std.specs.Borrow.{Bor}
use Rattle.std.specs.Cmp.Lexicographic.{slice_cmp}
use Rattle.std.specs.List.{list_any}
use Rattle.std.specs.Ordering.{is_eq, nat_cmp}
use Rattle.std.proofs.lemmas.List.{drop_all, take_all, take_more}
use Rattle.std.proofs.lemmas.List.Folds.{list_any-append}
use Rattle.std.proofs.lemmas.Map.Text.{is_eq-slice_cmp}
use Rattle.modules_definitions.specs.Lists.{is_same_kind}
use Rattle.modules_definitions.specs.declared.definition.Definition.{Definition}
use Rattle.modules_definitions.specs.declared.definition.Kind.TheVariants.{Unexport}
use Rattle.modules_compilation.specs.declared.module_node.File.{File}
use Rattle.just_modules.specs.Exports.{exports, has_text, is_refused, is_unexported}

-- ---- names that are put into a set

or_last : (b x : Bool) → cond b true x ≡ (x || b)
or_last true true = refl
or_last true false = refl
or_last false true = refl
or_last false false = refl

or_false : (a : Bool) → a ≡ (a || false)
or_false true = refl
or_false false = refl

pub put_text : (old new : BTreeSet (Bor (List ℕ))) (key : List ℕ) → UpdatesBy (λ x y. slice_cmp nat_cmp x.now y.now) (λ k. slice_cmp nat_cmp key k.now) old new true → (text : List ℕ) → has_text new text ≡ (has_text old text || bytes_eq key text)
put_text old new key updates text =
    let at : Bor (List ℕ) = record { ref_ptr = (0, 0); now = text } in
    updates.0 at ∙ ap (λ b. cond b true (has_text old text)) (is_eq-slice_cmp key text) ∙ or_last (bytes_eq key text) (has_text old text)

pub put_if : (old new : BTreeSet (Bor (List ℕ))) (d : Definition) → is_same_kind Unexport d.kind ≡ true → ((text : List ℕ) → has_text new text ≡ (has_text old text || bytes_eq d.text.now text))
    → (text : List ℕ) → has_text new text ≡ (has_text old text || (is_same_kind Unexport d.kind && bytes_eq d.text.now text))
put_if old new d is h text = h text ∙ ap (λ b. has_text old text || (b && bytes_eq d.text.now text)) (sym is)

pub not_put : (old : BTreeSet (Bor (List ℕ))) (d : Definition) → is_same_kind Unexport d.kind ≡ false → (text : List ℕ) → has_text old text ≡ (has_text old text || (is_same_kind Unexport d.kind && bytes_eq d.text.now text))
not_put old d is text = or_false (has_text old text) ∙ ap (λ b. has_text old text || (b && bytes_eq d.text.now text)) (sym is)

-- the names of the first definitions
abbrev pub AreNoted : List Definition → BTreeSet (Bor (List ℕ)) → Type 0
AreNoted definitions names = (text : List ℕ) → has_text names text ≡ is_unexported definitions text

pub none_noted : (names : BTreeSet (Bor (List ℕ))) → names.keys ≡ [] → AreNoted [] names
none_noted names e text = ap (λ keys. list_any (λ k. is_eq (slice_cmp nat_cmp text k.now)) keys) e

pub more_noted : (before after : BTreeSet (Bor (List ℕ))) (ds : List Definition) (i : ℕ) (d : Definition) → i < length ds → d ≡ get_or ds i d → AreNoted (take i ds) before
    → ((text : List ℕ) → has_text after text ≡ (has_text before text || (is_same_kind Unexport d.kind && bytes_eq d.text.now text)))
    → AreNoted (take (i + 1) ds) after
more_noted before after ds i d lt is h k text =
    let says : Definition → Bool = λ e. is_same_kind Unexport e.kind && bytes_eq e.text.now text in
    let here : has_text after text ≡ (has_text before text || says (get_or ds i d)) = k text ∙ ap (λ e. has_text before text || says e) is in
    here ∙ ap (λ b. b || says (get_or ds i d)) (h text) ∙ ap (λ b. list_any says (take i ds) || b) (or_false (says (get_or ds i d)))
    ∙ sym (list_any-append says (take i ds) (get_or ds i d ∷ [])) ∙ ap (list_any says) (sym (take_more ds i d lt))

pub all_noted : (names : BTreeSet (Bor (List ℕ))) (ds : List Definition) (i : ℕ) → length ds ≤ i → AreNoted (take i ds) names → AreNoted ds names
all_noted names ds i le h = subst (λ xs. AreNoted xs names) (take_all i ds le) h

-- ---- the first of a row

module _ {X : Type 0} (p : X → Bool) (xs : List X) where
  cut : (i : ℕ) (x : X) → i < length xs → x ≡ get_or xs i x → find p (drop i xs) ≡ cond (p x) (Some x) (find p (drop (suc i) xs))
  cut i x lt is = ap (find p) (drop-cons xs i x lt) ∙ ap (λ y. cond (p y) (Some y) (find p (drop (suc i) xs))) (sym is)

  pub goes_on : (i : ℕ) (x : X) → find p xs ≡ find p (drop i xs) → i < length xs → x ≡ get_or xs i x → p x ≡ false → find p xs ≡ find p (drop (i + 1) xs)
  goes_on i x h lt is off = h ∙ cut i x lt is ∙ ap (λ b. cond b (Some x) (find p (drop (suc i) xs))) off ∙ ap (λ k. find p (drop k xs)) (sym (add-one i))

  pub found : (i : ℕ) (x : X) → find p xs ≡ find p (drop i xs) → i < length xs → x ≡ get_or xs i x → p x ≡ true → find p xs ≡ Some x
  found i x h lt is on = h ∙ cut i x lt is ∙ ap (λ b. cond b (Some x) (find p (drop (suc i) xs))) on

  pub none_found : (i : ℕ) → find p xs ≡ find p (drop i xs) → length xs ≤ i → find p xs ≡ None
  none_found i h le = h ∙ ap (find p) (drop_all i xs le)

-- ---- an exported variable

-- what is tested is what is said
pub refused_is : (files : List File) (ds : List Definition) (names : BTreeSet (Bor (List ℕ))) (d : Definition) (r b : Bool) → AreNoted ds names → r ≡ (exports files d && has_text names d.text.now) → r ≡ b → is_refused files ds d ≡ b
refused_is files ds names d r b noted e is = ap (λ x. exports files d && x) (sym (noted d.text.now)) ∙ sym e ∙ is
