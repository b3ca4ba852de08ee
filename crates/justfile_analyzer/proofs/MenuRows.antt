-- Names that are put on a menu, and what is made place by place.
use Rattle.std.proofs.Common.{◌≡◌, ◌⊎◌, inl, inr, ℕ, zero, suc, ◌+◌, ◌<◌, ◌≤◌, Bool, true, false, cond, List, [], ◌∷◌, ◌++◌, length, get_or, take, reverse, map, Option, Some, None, refl, sym, ap, subst, ◌∙◌, arith}
use Rattle.std.specs.Prelude.{◌||◌, bytes_eq, find, slice_get}
use Rattle.std.specs.BTreeMap.{insert_entry, is_at}
use Rattle.std.specs.BTreeSet.{BTreeSet, UpdatesBy}
use Rattle.std.specs.Borrow.{Bor}
use Rattle.std.specs.Cmp.Lexicographic.{slice_cmp}
use Rattle.std.specs.List.{list_any}
use Rattle.std.specs.Map.{lookup}
use Rattle.std.specs.Option.{option_and_then, option_map, option_or}
use Rattle.std.specs.Ordering.{is_eq, match_ordering, nat_cmp}
use Rattle.std.specs.declared.cmp.Ordering.{Ordering}
use Rattle.std.specs.declared.cmp.Ordering.TheVariants.{Equal, Greater, Less}
use Rattle.std.proofs.lemmas.Bool.{false_from_ne_true}
use Rattle.std.proofs.lemmas.List.{take_all, take_more, reverse-append, length-append, map-append, append_assoc, append-nil}
use Rattle.std.proofs.lemmas.List.Folds.{list_any-append}
use Rattle.std.proofs.lemmas.Map.Text.{is_eq-slice_cmp}
use Rattle.std.proofs.lemmas.Slice.Eq.{bytes_eq-Decides}
use Rattle.std.specs.Global.{Vec}
use Rattle.std.proofs.lemmas.Option.{same_Some, slice_get-get_or, slice_get_past}
use Rattle.just_text.specs.Tokens.{lexeme}
use Rattle.just_text.specs.declared.name.Name.{Name}
use Rattle.modules_compilation.specs.Modulepaths.{pieces}
use Rattle.modules_compilation.specs.declared.compilation.Compilation.{Compilation}
use Rattle.modules_compilation.specs.declared.module_node.ModuleNode.{ModuleNode}
use Rattle.modules_compilation.specs.declared.place.Place.{Place}
use Rattle.resolve_recipes.specs.Named.{first_named, recipe_of, text_at}
use Rattle.resolve_recipes.specs.declared.aliases.ResolvedAlias.{ResolvedAlias}
use Rattle.resolve_analysis.specs.declared.recipes.RecipeTable.{RecipeTable}
use Rattle.analyze_words.specs.Menus.{AddsRecipes, Names, meaning}
use Rattle.analyze_words.specs.declared.menu.Meaning.{Meaning}
use Rattle.analyze_words.specs.declared.menu.Meaning.TheVariants.{Recipe}
use Rattle.analyze_words.specs.declared.menu.Menu.{Menu}
use Rattle.justfile_analyzer.specs.MenusOf.{alias_meant, aliases_at, rows_of, has_name, is_among, is_text, is_wanted, rank_at, recipe_meant}
use Rattle.justfile_analyzer.specs.MenuRows.{AreNamedBy, EachIs, Gains, IsNamedBy, put_at}

pub by_test : {G : Type 0} (b : Bool) → (b ≡ true → G) → (b ≡ false → G) → G
by_test true holds fails = holds refl
by_test false holds fails = fails refl

pub same_text : (a b : List ℕ) → bytes_eq a b ≡ true → a ≡ b
same_text a b e = (bytes_eq-Decides a b).0 e

pub text_same : (a b : List ℕ) → a ≡ b → bytes_eq a b ≡ true
text_same a b e = (bytes_eq-Decides a b).1 e

pub text_turned : (a b : List ℕ) → bytes_eq a b ≡ bytes_eq b a
text_turned a b = by_test (bytes_eq b a)
    (λ e. text_same a b (sym (same_text b a e)) ∙ sym e)
    (λ e. false_from_ne_true (bytes_eq a b) (λ f. let g : true ≡ false = sym (text_same b a (sym (same_text a b f))) ∙ e in cc g) ∙ sym e)

-- ---- a name more

abbrev looked : List (Bor (List ℕ) × Meaning) → List ℕ → Option Meaning
looked entries name = lookup (is_at (λ key. slice_cmp nat_cmp name key.now)) entries

passes_by : (b c : Bool) (m v : Option Meaning) (rest found : Option Meaning) → (b ≡ true → c ≡ false) → found ≡ cond c m rest → cond b v found ≡ cond c m (cond b v rest)
passes_by true true m v rest found apart e = let f : true ≡ false = apart refl in absurd (cc f)
passes_by true false m v rest found apart e = refl
passes_by false c m v rest found apart e = e

put_first : (b c : Bool) (m v rest : Option Meaning) → b ≡ c → cond b m rest ≡ cond c m (cond b v rest)
put_first true true m v rest e = refl
put_first true false m v rest e = absurd (cc e)
put_first false true m v rest e = absurd (cc e)
put_first false false m v rest e = refl

put_before : (b c : Bool) (m rest : Option Meaning) → b ≡ c → cond b m rest ≡ cond c m rest
put_before b c m rest e = ap (λ x. cond x m rest) e

behind : (r : Ordering) (key : Bor (List ℕ)) (m : Meaning) (x : Bor (List ℕ) × Meaning) (xs rest : List (Bor (List ℕ) × Meaning)) (name : List ℕ) → is_eq r ≡ bytes_eq key.now x.0.now
    → looked rest name ≡ cond (bytes_eq key.now name) (Some m) (looked xs name)
    → looked (match_ordering r ((key, m) ∷ x ∷ xs) ((x.0, m) ∷ xs) (x ∷ rest)) name ≡ cond (bytes_eq key.now name) (Some m) (looked (x ∷ xs) name)
behind Less key m x xs rest name same others = put_before (is_eq (slice_cmp nat_cmp name key.now)) (bytes_eq key.now name) (Some m) (looked (x ∷ xs) name) (is_eq-slice_cmp name key.now ∙ text_turned name key.now)
behind Equal key m x xs rest name same others =
    let e : key.now ≡ x.0.now = same_text key.now x.0.now (sym same) in
    put_first (is_eq (slice_cmp nat_cmp name x.0.now)) (bytes_eq key.now name) (Some m) (Some x.1) (looked xs name) (is_eq-slice_cmp name x.0.now ∙ text_turned name x.0.now ∙ ap (λ t. bytes_eq t name) (sym e))
behind Greater key m x xs rest name same others = passes_by (is_eq (slice_cmp nat_cmp name x.0.now)) (bytes_eq key.now name) (Some m) (Some x.1) (looked xs name) (looked rest name)
    (λ here. false_from_ne_true (bytes_eq key.now name) (λ f.
    let one : name ≡ x.0.now = same_text name x.0.now (sym (is_eq-slice_cmp name x.0.now) ∙ here) in
    let g : false ≡ true = same ∙ text_same key.now x.0.now (same_text key.now name f ∙ one) in
    cc g))
    others

looked_put : (entries : List (Bor (List ℕ) × Meaning)) (key : Bor (List ℕ)) (m : Meaning) (name : List ℕ)
    → looked (insert_entry (λ x y. slice_cmp nat_cmp x.now y.now) entries key m) name ≡ cond (bytes_eq key.now name) (Some m) (looked entries name)
looked_put [] key m name = put_before (is_eq (slice_cmp nat_cmp name key.now)) (bytes_eq key.now name) (Some m) None (is_eq-slice_cmp name key.now ∙ text_turned name key.now)
looked_put (x ∷ xs) key m name = behind (slice_cmp nat_cmp key.now x.0.now) key m x xs (insert_entry (λ x y. slice_cmp nat_cmp x.now y.now) xs key m) name (is_eq-slice_cmp key.now x.0.now) (looked_put xs key m name)

or_behind : (c : Bool) (m : Meaning) (rest : Option Meaning) → cond c (Some m) rest ≡ option_or (cond c (Some m) None) rest
or_behind true m rest = refl
or_behind false m rest = refl

-- a name was put
pub name_put : (before after : Menu) (key : Bor (List ℕ)) (m : Meaning) → after.names.entries ≡ insert_entry (λ x y. slice_cmp nat_cmp x.now y.now) before.names.entries key m → Gains (λ name. cond (bytes_eq key.now name) (Some m) None) before after
name_put before after key m e = record { names = λ name. ap (λ entries. looked entries name) e ∙ looked_put before.names.entries key m name ∙ or_behind (bytes_eq key.now name) m (meaning before name) }

-- ---- gains

pub gains_same : {f g : List ℕ → Option Meaning} (before after : Menu) → ((name : List ℕ) → f name ≡ g name) → Gains f before after → Gains g before after
gains_same before after same h = record { names = λ name. h.names name ∙ ap (λ o. option_or o (meaning before name)) (same name) }

pub gains_none : {f : List ℕ → Option Meaning} (menu : Menu) → ((name : List ℕ) → f name ≡ None) → Gains f menu menu
gains_none menu none = record { names = λ name. sym (ap (λ o. option_or o (meaning menu name)) (none name)) }

or_assoc : (a b c : Option Meaning) → option_or a (option_or b c) ≡ option_or (option_or a b) c
or_assoc None b c = refl
or_assoc (Some x) b c = refl

pub gains_then : {f g h : List ℕ → Option Meaning} (before between after : Menu) → ((name : List ℕ) → option_or (g name) (f name) ≡ h name) → Gains f before between → Gains g between after → Gains h before after
gains_then {f} {g} before between after same one two = record { names = λ name. two.names name ∙ ap (option_or (g name)) (one.names name) ∙ or_assoc (g name) (f name) (meaning before name) ∙ ap (λ o. option_or o (meaning before name)) (same name) }

-- ---- the last of a row

last_case : {X : Type 0} (f : X → Meaning) (b : Bool) (x : X) (rest : Option X) → option_or (cond b (Some (f x)) None) (option_map f rest) ≡ option_map f (cond b (Some x) rest)
last_case f true x rest = refl
last_case f false x rest = refl

-- with one more it is this, or else the last so far
pub last_more : {X : Type 0} (test : X → Bool) (f : X → Meaning) (xs : List X) (i : ℕ) (d x : X) → i < length xs → x ≡ get_or xs i d
    → option_or (cond (test x) (Some (f x)) None) (option_map f (find test (reverse (take i xs)))) ≡ option_map f (find test (reverse (take (i + 1) xs)))
last_more test f xs i d x lt is =
    last_case f (test x) x (find test (reverse (take i xs)))
    ∙ ap (λ row. option_map f (find test row)) (sym (reverse-append (take i xs) (x ∷ [])) ∙ ap reverse (ap (λ y. take i xs ++ y ∷ []) is ∙ sym (take_more xs i d lt)))

-- the same of what counts
pub last_more_if : {X : Type 0} (counts : Bool) (test : X → Bool) (f : X → Meaning) (xs : List X) (i : ℕ) (d x : X) → i < length xs → x ≡ get_or xs i d
    → option_or (cond counts (cond (test x) (Some (f x)) None) None) (cond counts (option_map f (find test (reverse (take i xs)))) None) ≡ cond counts (option_map f (find test (reverse (take (i + 1) xs)))) None
last_more_if true test f xs i d x lt is = last_more test f xs i d x lt is
last_more_if false test f xs i d x lt is = refl

-- ---- one of a row

-- one more, or one of those so far
pub any_more : {X : Type 0} (test : X → Bool) (xs : List X) (i : ℕ) (x : X) → i < length xs → x ≡ get_or xs i x → list_any test (take (i + 1) xs) ≡ (list_any test (take i xs) || (test x || false))
any_more test xs i x lt is = ap (list_any test) (take_more xs i x lt ∙ ap (λ y. take i xs ++ y ∷ []) (sym is)) ∙ list_any-append test (take i xs) (x ∷ [])

-- ---- place by place

slice_pushed : {Y : Type 0} (ys : List Y) (y z : Y) (place : ℕ) → slice_get (ys ++ y ∷ []) place ≡ Some z → (slice_get ys place ≡ Some z) ⊎ ((place ≡ length ys) × (y ≡ z))
slice_pushed [] y z zero e = inr (refl, cc e)
slice_pushed [] y z (suc place) e = absurd (cc e)
slice_pushed (x ∷ ys) y z zero e = inl e
slice_pushed (x ∷ ys) y z (suc place) e = elim (slice_pushed ys y z place e) [ inl h ↦ inl h | inr h ↦ inr (ap suc h.0, h.1) ]

slice_kept : {Y : Type 0} (ys zs : List Y) (place : ℕ) (y : Y) → slice_get ys place ≡ Some y → slice_get (ys ++ zs) place ≡ Some y
slice_kept [] zs place y e = absurd (cc e)
slice_kept (x ∷ ys) zs zero y e = e
slice_kept (x ∷ ys) zs (suc place) y e = slice_kept ys zs place y e

slice_last : {Y : Type 0} (ys : List Y) (y : Y) → slice_get (ys ++ y ∷ []) (length ys) ≡ Some y
slice_last [] y = refl
slice_last (x ∷ ys) y = slice_last ys y

slice_within : {Y : Type 0} (ys : List Y) (z : Y) (place : ℕ) → slice_get ys place ≡ Some z → place < length ys
slice_within [] z place e = absurd (cc e)
slice_within (y ∷ ys) z zero e = omega arith
slice_within (y ∷ ys) z (suc place) e = let h = slice_within ys z place e in omega (arith, h)

pub each_none : {X Y : Type 0} {Is : ℕ → X → Y → Type 0} (made : List Y) → made ≡ [] → EachIs Is [] made
each_none made none = record { many = ap length none; each = λ place x y e f. absurd (cc e) }

pub each_pushed : {X Y : Type 0} {Is : ℕ → X → Y → Type 0} (xs : List X) (ys : List Y) (x : X) (y : Y) → EachIs Is xs ys → Is (length xs) x y → EachIs Is (xs ++ x ∷ []) (ys ++ y ∷ [])
each_pushed {Is = Is} xs ys x y all is = record {
  many = let many = all.many in omega (arith, many, length-append xs (x ∷ []), length-append ys (y ∷ []));
  each = λ place a b at there. elim (slice_pushed xs x a place at) [
    | inl before ↦ elim (slice_pushed ys y b place there) [
      | inl h ↦ all.each place a b before h
      | inr h ↦ let many = all.many in let lt = slice_within xs a place before in let last = h.0 in absurd (omega (arith, many, lt, last))
    ]
    | inr here ↦ elim (slice_pushed ys y b place there) [
      | inl h ↦ let many = all.many in let lt = slice_within ys b place h in let last = here.0 in absurd (omega (arith, many, lt, last))
      | inr h ↦ subst (λ p. Is p a b) (sym here.0) (subst (λ c. Is (length xs) a c) h.1 (subst (λ c. Is (length xs) c y) here.1 is))
    ]
  ];
}

taken_many : {X : Type 0} (xs : List X) (i : ℕ) → i < length xs → length (take i xs) ≡ i
taken_many [] i lt = absurd (omega (arith, lt))
taken_many (x ∷ xs) zero lt = refl
taken_many (x ∷ xs) (suc i) lt = ap suc (taken_many xs i (omega (arith, lt)))

-- one more
pub each_more : {X Y : Type 0} {Is : ℕ → X → Y → Type 0} (xs : List X) (ys : List Y) (i : ℕ) (x : X) (y : Y) → i < length xs → x ≡ get_or xs i x → EachIs Is (take i xs) ys → Is i x y → EachIs Is (take (i + 1) xs) (ys ++ y ∷ [])
each_more {Is = Is} xs ys i x y lt is all here =
    subst (λ row. EachIs Is row (ys ++ y ∷ [])) (ap (λ z. take i xs ++ z ∷ []) is ∙ sym (take_more xs i x lt))
    (each_pushed (take i xs) ys x y all (subst (λ p. Is p x y) (sym (taken_many xs i lt)) here))

-- the same of what was made by a push
pub each_made : {X Y : Type 0} {Is : ℕ → X → Y → Type 0} (xs : List X) (ys made : List Y) (i : ℕ) (x : X) (y : Y) → made ≡ ys ++ y ∷ [] → i < length xs → x ≡ get_or xs i x → EachIs Is (take i xs) ys → Is i x y → EachIs Is (take (i + 1) xs) made
each_made {Is = Is} xs ys made i x y e lt is all here = subst (λ zs. EachIs Is (take (i + 1) xs) zs) (sym e) (each_more xs ys i x y lt is all here)

pub each_all : {X Y : Type 0} {Is : ℕ → X → Y → Type 0} (xs : List X) (ys : List Y) (i : ℕ) → length xs ≤ i → EachIs Is (take i xs) ys → EachIs Is xs ys
each_all {Is = Is} xs ys i le all = subst (λ row. EachIs Is row ys) (take_all i xs le) all

-- ---- what is put

-- what names a module or an alias
pub called_so : (own : Option Name) (name : Name) (key : Bor (List ℕ)) → own ≡ Some name → key.now ≡ lexeme name.token → (text : List ℕ) → bytes_eq key.now text ≡ is_text own text
called_so own name key is reads text = ap (λ t. bytes_eq t text) reads ∙ sym (ap (λ o. is_text o text) is)

-- what has no name is put under none
pub uncalled : (own : Option Name) (text : List ℕ) (m : Option Meaning) → own ≡ None → cond (is_text own text) m None ≡ None
uncalled own text m is = ap (λ o. cond (is_text o text) m None) is

counted_row : (counts here : Bool) (m : Option Meaning) → (here ≡ true → counts ≡ true) → cond here m None ≡ cond counts (cond here m None) None
counted_row true here m all = refl
counted_row false true m all = let e : false ≡ true = all refl in absurd (cc e)
counted_row false false m all = refl

uncounted_row : (counts here : Bool) (m : Option Meaning) → (here ≡ true → counts ≡ false) → cond counts (cond here m None) None ≡ None
uncounted_row true true m none = let e : true ≡ false = none refl in absurd (cc e)
uncounted_row true false m none = refl
uncounted_row false here m none = refl

-- a name that is wanted is put, and no other
pub wanted_row : (wanted : BTreeSet (Bor (List ℕ))) (key text : List ℕ) (m : Option Meaning) → has_name wanted key ≡ true → cond (bytes_eq key text) m None ≡ cond (has_name wanted text) (cond (bytes_eq key text) m None) None
wanted_row wanted key text m e = counted_row (has_name wanted text) (bytes_eq key text) m (λ h. ap (has_name wanted) (sym (same_text key text h)) ∙ e)

pub unwanted_row : (wanted : BTreeSet (Bor (List ℕ))) (key text : List ℕ) (m : Option Meaning) → has_name wanted key ≡ false → cond (has_name wanted text) (cond (bytes_eq key text) m None) None ≡ None
unwanted_row wanted key text m e = uncounted_row (has_name wanted text) (bytes_eq key text) m (λ h. ap (has_name wanted) (sym (same_text key text h)) ∙ e)

-- the recipe at the place was put under its name
pub ranked_row : (compilation : Compilation) (table : RecipeTable) (place : Place) (rank : ℕ) (key : Bor (List ℕ)) → Some rank ≡ rank_at table place → key.now ≡ text_at compilation place
    → (name : List ℕ) → cond (bytes_eq key.now name) (Some (Recipe rank)) None ≡ put_at compilation table place name
ranked_row compilation table place rank key is reads name = ap (λ t. cond (bytes_eq t name) (Some (Recipe rank)) None) reads ∙ ap (λ r. cond (bytes_eq (text_at compilation place) name) (option_map Recipe r) None) is

abbrev nothing : Option Meaning
nothing = None

pub never : (b : Bool) → cond b nothing nothing ≡ nothing
never true = refl
never false = refl

pub unranked_row : (compilation : Compilation) (table : RecipeTable) (place : Place) → None ≡ rank_at table place → (name : List ℕ) → put_at compilation table place name ≡ None
unranked_row compilation table place is name = ap (λ r. cond (bytes_eq (text_at compilation place) name) (option_map Recipe r) None) (sym is) ∙ never (bytes_eq (text_at compilation place) name)

-- what is found has the name that is sought
found_so : {X : Type 0} (text : X → List ℕ) (xs : List X) (name : List ℕ) (x : X) → first_named text xs name ≡ Some x → text x ≡ name
found_so text [] name x e = absurd (cc e)
found_so text (y ∷ ys) name x e = by_test (bytes_eq (text y) name)
    (λ t. let is : y ≡ x = same_Some y x (sym (ap (λ b. cond b (Some y) (first_named text ys name)) t) ∙ e) in ap text (sym is) ∙ same_text (text y) name t)
    (λ t. found_so text ys name x (sym (ap (λ b. cond b (Some y) (first_named text ys name)) t) ∙ e))

-- the recipe that was found under a name is put under it
pub named_row : (compilation : Compilation) (table : RecipeTable) (node : ModuleNode) (name : List ℕ) (place : Place) → Some place ≡ recipe_of compilation (Some node) name
    → (other : List ℕ) → put_at compilation table place other ≡ cond (bytes_eq other name) (recipe_meant compilation table node other) None
named_row compilation table node name place found other =
    let text : text_at compilation place ≡ name = found_so (text_at compilation) node.recipes.items name place (sym found) in
    let meant : option_map Recipe (rank_at table place) ≡ recipe_meant compilation table node name = ap (λ p. option_map Recipe (option_and_then (rank_at table) p)) found in
    by_test (bytes_eq other name)
    (λ e.
    let same : other ≡ name = same_text other name e in
    ap (λ b. cond b (option_map Recipe (rank_at table place)) None) (text_same (text_at compilation place) other (text ∙ sym same))
    ∙ meant ∙ ap (recipe_meant compilation table node) (sym same) ∙ sym (ap (λ b. cond b (recipe_meant compilation table node other) None) e))
    (λ e.
    ap (λ b. cond b (option_map Recipe (rank_at table place)) None) (ap (λ t. bytes_eq t other) text ∙ text_turned name other ∙ e)
    ∙ sym (ap (λ b. cond b (recipe_meant compilation table node other) None) e))

pub unnamed_row : (compilation : Compilation) (table : RecipeTable) (node : ModuleNode) (name : List ℕ) → None ≡ recipe_of compilation (Some node) name
    → (other : List ℕ) → cond (bytes_eq other name) (recipe_meant compilation table node other) None ≡ None
unnamed_row compilation table node name none other = by_test (bytes_eq other name)
    (λ e. ap (λ b. cond b (recipe_meant compilation table node other) None) e ∙ ap (recipe_meant compilation table node) (same_text other name e) ∙ ap (λ p. option_map Recipe (option_and_then (rank_at table) p)) (sym none))
    (λ e. ap (λ b. cond b (recipe_meant compilation table node other) None) e)

-- ---- names of a set so far

-- one of the first keys is the name
abbrev pub is_before : List (Bor (List ℕ)) → List ℕ → Bool
is_before keys name = list_any (is_at (λ key. slice_cmp nat_cmp name key.now)) keys

one_or_more : (here before : Bool) (m : Option Meaning) → option_or (cond here m None) (cond before m None) ≡ cond (before || (here || false)) m None
one_or_more true true None = refl
one_or_more true true (Some m) = refl
one_or_more true false None = refl
one_or_more true false (Some m) = refl
one_or_more false true m = refl
one_or_more false false m = refl

-- the recipes under the names so far are on the menu, and the other names are left
pub record ArePutOf (meant : List ℕ → Option Meaning) (before after : Menu) (met rest all : List (Bor (List ℕ))) : Type 0 where
  pub gains : Gains (λ name. cond (is_before met name) (meant name) None) before after
  pub names : met ++ rest ≡ all

pub none_put : {meant : List ℕ → Option Meaning} (menu : Menu) (rest all : List (Bor (List ℕ))) → rest ≡ all → ArePutOf meant menu menu [] rest all
none_put menu rest all e = record { gains = gains_none menu (λ name. refl); names = e }

pub one_put : {meant : List ℕ → Option Meaning} (before between after : Menu) (met : List (Bor (Bor (List ℕ)))) (key : Bor (Bor (List ℕ))) (rest left all : List (Bor (List ℕ))) → rest ≡ key.now ∷ left
    → ArePutOf meant before between (map (λ k. k.now) met) rest all → Gains (λ name. cond (bytes_eq name key.now.now) (meant name) None) between after → ArePutOf meant before after (map (λ k. k.now) (met ++ key ∷ [])) left all
one_put {meant} before between after met key rest left all next so gained =
    let row : map (λ (k : Bor (Bor (List ℕ))). k.now) (met ++ key ∷ []) ≡ map (λ (k : Bor (Bor (List ℕ))). k.now) met ++ key.now ∷ [] = map-append (λ (k : Bor (Bor (List ℕ))). k.now) met (key ∷ []) in
    let keys : List (Bor (List ℕ)) = map (λ k. k.now) met in
    record {
      gains = gains_then before between after (λ name.
          ap (λ b. option_or (cond b (meant name) None) (cond (is_before keys name) (meant name) None)) (sym (is_eq-slice_cmp name key.now.now))
          ∙ one_or_more (is_eq (slice_cmp nat_cmp name key.now.now)) (is_before keys name) (meant name)
          ∙ ap (λ b. cond b (meant name) None) (sym (ap (λ ks. is_before ks name) row ∙ list_any-append (is_at (λ key. slice_cmp nat_cmp name key.now)) keys (key.now ∷ []))))
          so.gains gained;
      names = ap (λ ks. ks ++ left) row ∙ append_assoc keys (key.now ∷ []) left ∙ ap (λ ks. keys ++ ks) (sym next) ∙ so.names;
    }

pub all_put : {meant : List ℕ → Option Meaning} (before after : Menu) (met rest : List (Bor (List ℕ))) (wanted : BTreeSet (Bor (List ℕ))) → rest ≡ [] → ArePutOf meant before after met rest wanted.keys → Gains (λ name. cond (has_name wanted name) (meant name) None) before after
all_put {meant} before after met rest wanted none so =
    let all : met ≡ wanted.keys = sym (append-nil met) ∙ ap (λ ks. met ++ ks) (sym none) ∙ so.names in
    gains_same before after (λ name. ap (λ ks. cond (is_before ks name) (meant name) None) all) so.gains

-- ---- names of recipes so far

-- one of these places has the name
abbrev pub is_kept : Compilation → List Place → List ℕ → Bool
is_kept compilation places name = list_any (λ place. bytes_eq (text_at compilation place) name) places

-- what the names of these places mean that are wanted
abbrev pub kept_meant : Compilation → BTreeSet (Bor (List ℕ)) → List Place → (List ℕ → Option Meaning) → List ℕ → Option Meaning
kept_meant compilation wanted places meant name = cond (has_name wanted name) (cond (is_kept compilation places name) (meant name) None) None

put_row : (wanted here before : Bool) (m : Option Meaning) → (here ≡ true → wanted ≡ true) → option_or (cond here m None) (cond wanted (cond before m None) None) ≡ cond wanted (cond (before || (here || false)) m None) None
put_row true here before m all = one_or_more here before m
put_row false true before m all = let e : false ≡ true = all refl in absurd (cc e)
put_row false false before m all = refl

left_row : (wanted here before : Bool) (m : Option Meaning) → (here ≡ true → wanted ≡ false) → cond wanted (cond before m None) None ≡ cond wanted (cond (before || (here || false)) m None) None
left_row true true before m none = let e : true ≡ false = none refl in absurd (cc e)
left_row true false true m none = refl
left_row true false false m none = refl
left_row false here before m none = refl

module _ (compilation : Compilation) (wanted : BTreeSet (Bor (List ℕ))) (places : List Place) (i : ℕ) (d : Place) (key : List ℕ) (lt : i < length places) (reads : key ≡ text_at compilation (get_or places i d)) where
  has_it : (name : List ℕ) → bytes_eq (text_at compilation (get_or places i d)) name ≡ true → has_name wanted name ≡ has_name wanted key
  has_it name same = ap (has_name wanted) (sym (reads ∙ same_text (text_at compilation (get_or places i d)) name same))

  one_more : (name : List ℕ) → (is_kept compilation (take i places) name || (bytes_eq (text_at compilation (get_or places i d)) name || false)) ≡ is_kept compilation (take (i + 1) places) name
  one_more name = sym (ap (λ row. is_kept compilation row name) (take_more places i d lt) ∙ list_any-append (λ place. bytes_eq (text_at compilation place) name) (take i places) (get_or places i d ∷ []))

  -- a name more that is wanted
  pub kept_put : (meant : List ℕ → Option Meaning) (before between after : Menu) → has_name wanted key ≡ true
      → Gains (kept_meant compilation wanted (take i places) meant) before between → Gains (λ name. cond (bytes_eq name key) (meant name) None) between after
      → Gains (kept_meant compilation wanted (take (i + 1) places) meant) before after
  kept_put meant before between after here so gained = gains_then before between after (λ name.
      ap (λ b. option_or (cond b (meant name) None) (kept_meant compilation wanted (take i places) meant name)) (text_turned name key ∙ ap (λ t. bytes_eq t name) reads)
      ∙ put_row (has_name wanted name) (bytes_eq (text_at compilation (get_or places i d)) name) (is_kept compilation (take i places) name) (meant name) (λ same. has_it name same ∙ here)
      ∙ ap (λ b. cond (has_name wanted name) (cond b (meant name) None) None) (one_more name))
      so gained

  -- and one that isn't
  pub kept_left : (meant : List ℕ → Option Meaning) (before after : Menu) → has_name wanted key ≡ false → Gains (kept_meant compilation wanted (take i places) meant) before after → Gains (kept_meant compilation wanted (take (i + 1) places) meant) before after
  kept_left meant before after here so = gains_same before after (λ name.
      left_row (has_name wanted name) (bytes_eq (text_at compilation (get_or places i d)) name) (is_kept compilation (take i places) name) (meant name) (λ same. has_it name same ∙ here)
      ∙ ap (λ b. cond (has_name wanted name) (cond b (meant name) None) None) (one_more name))
      so

found_case : {X : Type 0} (f : Option X → Option Meaning) (here there : Bool) (x : X) (rest : Option X) → cond there (f rest) None ≡ f rest → cond (here || there) (f (cond here (Some x) rest)) None ≡ f (cond here (Some x) rest)
found_case f true there x rest e = refl
found_case f false there x rest e = e

-- what a test finds passes it
found_there : {X : Type 0} (test : X → Bool) (f : Option X → Option Meaning) (xs : List X) → f None ≡ None → cond (list_any test xs) (f (find test xs)) None ≡ f (find test xs)
found_there test f [] none = sym none
found_there test f (x ∷ xs) none = found_case f (test x) (list_any test xs) x (find test xs) (found_there test f xs none)

-- a module keeps recipes under the names alone that they have
pub kept_all : (compilation : Compilation) (table : RecipeTable) (wanted : BTreeSet (Bor (List ℕ))) (node : ModuleNode) (i : ℕ) (before after : Menu) → length node.recipes.items ≤ i
    → Gains (kept_meant compilation wanted (take i node.recipes.items) (recipe_meant compilation table node)) before after → Gains (λ name. cond (has_name wanted name) (recipe_meant compilation table node name) None) before after
kept_all compilation table wanted node i before after le so = gains_same before after (λ name.
    ap (λ places. kept_meant compilation wanted places (recipe_meant compilation table node) name) (take_all i node.recipes.items le)
    ∙ ap (λ m. cond (has_name wanted name) m None) (found_there (λ place. bytes_eq (text_at compilation place) name) (λ p. option_map Recipe (option_and_then (rank_at table) p)) node.recipes.items refl))
    so

-- ---- a module's menu

or_none : (a : Option Meaning) → option_or a None ≡ a
or_none None = refl
or_none (Some m) = refl

pub either_row : (wanted : Bool) (alias recipe : Option Meaning) → option_or (cond wanted alias None) (cond wanted recipe None) ≡ cond wanted (option_or alias recipe) None
either_row true alias recipe = refl
either_row false alias recipe = refl

pub menu_made : {f g : List ℕ → Option Meaning} (new between after : Menu) → new.names.entries ≡ [] → Gains f new between → Gains g between after → (name : List ℕ) → meaning after name ≡ option_or (g name) (f name)
menu_made {f} {g} new between after none one two name =
    two.names name ∙ ap (option_or (g name)) (one.names name ∙ ap (option_or (f name)) (ap (λ entries. looked entries name) none) ∙ or_none (f name))

-- ---- the recipes that menus name

pub none_named : (places : BTreeSet ℕ) → places.keys ≡ [] → AreNamedBy [] places
none_named places none = record {
  there = λ recipe n. absurd (cc (n.2));
  sound = λ recipe h. let e : true ≡ false = sym h ∙ ap (list_any (is_at (nat_cmp recipe))) none in absurd (cc e);
}

named_later : (menus : List Menu) (menu : Menu) (recipe : ℕ) → IsNamedBy menus recipe → IsNamedBy (menus ++ menu ∷ []) recipe
named_later menus menu recipe n = (n.0, n.1, slice_kept menus (menu ∷ []) n.0 n.1 n.2, n.3)

pub more_named : (menus : List Menu) (i : ℕ) (menu : Menu) (before after : BTreeSet ℕ) → i < length menus → menu ≡ get_or menus i menu → AreNamedBy (take i menus) before → AddsRecipes menu before after → AreNamedBy (take (i + 1) menus) after
more_named menus i menu before after lt is so adds = subst (λ ms. AreNamedBy ms after) (ap (λ m. take i menus ++ m ∷ []) is ∙ sym (take_more menus i menu lt)) (record {
  there = λ recipe n. elim (slice_pushed (take i menus) menu n.1 n.0 n.2) [
    | inl h ↦ adds.kept recipe (so.there recipe (n.0, n.1, h, n.3))
    | inr h ↦ adds.added recipe (subst (λ m. Names m recipe) (sym h.1) n.3)
  ];
  sound = λ recipe h. elim (adds.sound recipe h) [
    | inl old ↦ named_later (take i menus) menu recipe (so.sound recipe old)
    | inr new ↦ (length (take i menus), menu, slice_last (take i menus) menu, new)
  ];
})

-- ---- names that are put into a set

or_last : (b x : Bool) → cond b true x ≡ (x || b)
or_last true true = refl
or_last true false = refl
or_last false true = refl
or_last false false = refl

or_false : (a b : Bool) → (a || b) ≡ (a || (b || false))
or_false true b = refl
or_false false true = refl
or_false false false = refl

or_moved : (a b c : Bool) → ((a || b) || c) ≡ (a || (b || c))
or_moved true b c = refl
or_moved false b c = refl

pub name_added : (old new : BTreeSet (Bor (List ℕ))) (key : List ℕ) → UpdatesBy (λ x y. slice_cmp nat_cmp x.now y.now) (λ k. slice_cmp nat_cmp key k.now) old new true → (name : List ℕ) → has_name new name ≡ (has_name old name || bytes_eq key name)
name_added old new key updates name =
    let at : Bor (List ℕ) = record { ref_ptr = (0, 0); now = name } in
    updates.0 at ∙ ap (λ b. cond b true (has_name old name)) (is_eq-slice_cmp key name) ∙ or_last (bytes_eq key name) (has_name old name)

-- a piece goes from the rest into the set
pub piece_added : (old new : BTreeSet (Bor (List ℕ))) (rest key others : List ℕ) (all : List ℕ → Bool) → pieces rest ≡ key ∷ pieces others → ((name : List ℕ) → has_name new name ≡ (has_name old name || bytes_eq key name))
    → ((name : List ℕ) → (has_name old name || is_among (pieces rest) name) ≡ all name) → (name : List ℕ) → (has_name new name || is_among (pieces others) name) ≡ all name
piece_added old new rest key others all first added so name =
    ap (λ b. b || is_among (pieces others) name) (added name) ∙ or_moved (has_name old name) (bytes_eq key name) (is_among (pieces others) name)
    ∙ ap (λ ps. has_name old name || is_among ps name) (sym first) ∙ so name

-- the last piece
pub last_added : (old new : BTreeSet (Bor (List ℕ))) (rest : List ℕ) (all : List ℕ → Bool) → pieces rest ≡ rest ∷ [] → ((name : List ℕ) → has_name new name ≡ (has_name old name || bytes_eq rest name))
    → ((name : List ℕ) → (has_name old name || is_among (pieces rest) name) ≡ all name) → (name : List ℕ) → has_name new name ≡ all name
last_added old new rest all first added so name = added name ∙ or_false (has_name old name) (bytes_eq rest name) ∙ ap (λ ps. has_name old name || is_among ps name) (sym first) ∙ so name

pub no_words : (names : BTreeSet (Bor (List ℕ))) → names.keys ≡ [] → (name : List ℕ) → has_name names name ≡ is_wanted [] name
no_words names e name = ap (λ keys. list_any (is_at (λ key. slice_cmp nat_cmp name key.now)) keys) e

pub word_more : (before after : BTreeSet (Bor (List ℕ))) (words : List (List ℕ)) (i : ℕ) (word : List ℕ) → i < length words → word ≡ get_or words i word → ((name : List ℕ) → has_name before name ≡ is_wanted (take i words) name)
    → ((name : List ℕ) → has_name after name ≡ (has_name before name || is_among (pieces word) name)) → (name : List ℕ) → has_name after name ≡ is_wanted (take (i + 1) words) name
word_more before after words i word lt is so added name =
    added name ∙ ap (λ b. b || is_among (pieces word) name) (so name) ∙ or_false (is_wanted (take i words) name) (is_among (pieces word) name)
    ∙ sym (any_more (λ w. is_among (pieces w) name) words i word lt is)

-- one more of a row
pub row_more : {X Y Z : Type 0} (f : X → Z) (g : Y → Z) (made : List X) (xs : List Y) (i : ℕ) (x : Y) (y : X) → i < length xs → x ≡ get_or xs i x → map f made ≡ map g (take i xs) → f y ≡ g x → map f (made ++ y ∷ []) ≡ map g (take (i + 1) xs)
row_more f g made xs i x y lt is so here =
    map-append f made (y ∷ []) ∙ (λ k. so k ++ here k ∷ []) ∙ sym (map-append g (take i xs) (x ∷ [])) ∙ ap (map g) (ap (λ z. take i xs ++ z ∷ []) is ∙ sym (take_more xs i x lt))

-- the aliases of a module that is there, and of one that is not
pub aliases_there : (table : RecipeTable) (rows : List (Vec ResolvedAlias)) (place : ℕ) (aliases : Vec ResolvedAlias) → rows ≡ table.aliases.items → place < length rows → aliases ≡ get_or rows place aliases → aliases.items ≡ aliases_at table place
aliases_there table rows place aliases same lt is = sym (ap (λ rs. rows_of (slice_get rs place)) (sym same) ∙ ap rows_of (slice_get-get_or rows place aliases lt ∙ ap (λ a. Some a) (sym is)))

pub no_aliases : (table : RecipeTable) (rows : List (Vec ResolvedAlias)) (place : ℕ) → rows ≡ table.aliases.items → length rows ≤ place → (b : Bool) (name : List ℕ) → cond b (alias_meant (aliases_at table place) name) None ≡ None
no_aliases table rows place same le b name =
    ap (λ row. cond b (alias_meant row name) None) (ap (λ rs. rows_of (slice_get rs place)) (sym same) ∙ ap rows_of (slice_get_past rows place le)) ∙ never b
