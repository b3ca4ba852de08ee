-- Folders that paths name, and the files in them.
use Rattle.std.proofs.Common.{◌≡◌, ◌⊎◌, inl, inr, sym, ◌∙◌, ap, subst, Bool, true, false, cond, ◌==◌, eqb-true, List, [], ◌∷◌, ◌++◌, Option, Some, None, map, refl, append_assoc, append-nil}
use Rattle.std.specs.Prelude.{codes, bytes_eq}
use Rattle.std.specs.Char.{to_ascii_lowercase}
use Rattle.std.specs.List.{flat_map}
use Rattle.std.specs.Option.{option_map}
use Rattle.std.proofs.lemmas.Bool.{and_from, and_parts, false≢true, or_cases, or_left, or_right}
use Rattle.std.proofs.lemmas.Option.{none-some, same_Some}
use Rattle.std.proofs.lemmas.Slice.Eq.{bytes_eq-Decides}
use Rattle.modules_compilation.specs.Paths.{begins, folder_from, folder_text, front, parts_from, stands_alone}
use Rattle.modules_compilation.proofs.Keys.{folder_alone, folder_led}
use Rattle.modules_files.specs.Found.{folder_of, has_slash, is_justfile, is_of, name_of}
use Rattle.modules_files.proofs.Cuts.{none_in, some_in}
use Rattle.meaning_rules.specs.Worlds.Given.{Text}
use Rattle.meaning_rules.specs.Worlds.Sources.{IsOfFolder}

abbrev slash : Text
slash = codes "/"

-- a folder is empty or ends in `/`
abbrev pub IsFolder : Text → Type 0
IsFolder folder = (folder ≡ []) ⊎ ((rest : Text) × (folder ≡ rest ++ slash))

-- ---- the folder of a path

behind : (before after : Text) → IsFolder before → IsFolder after → IsFolder (before ++ after)
behind before after b (inr q) = inr (before ++ q.0, ap (λ t. before ++ t) q.1 ∙ sym (append_assoc before q.0 slash))
behind before after (inl p) (inl q) = inl (ap (λ t. t ++ after) p ∙ q)
behind before after (inr p) (inl q) = inr (p.0, ap (λ t. before ++ t) q ∙ append-nil before ∙ p.1)

parts_end : (parts : List Text) → IsFolder (flat_map (λ part. part ++ slash) parts)
parts_end [] = inl refl
parts_end (part ∷ parts) = behind (part ++ slash) (flat_map (λ p. p ++ slash) parts) (inr (part, refl)) (parts_end parts)

front_ends : (text : Text) → IsFolder (front text)
front_ends text = by_test (begins text (codes "/")) (begins text (codes "~/"))
  where
    by_test : (a b : Bool) → IsFolder (cond a (codes "/") (cond b (codes "~/") []))
    by_test true b = inr ([], refl)
    by_test false true = inr (codes "~", refl)
    by_test false false = inl refl

-- the folder that a path names is one
pub named_folder : (file path folder : Text) → folder_from file path ≡ Some folder → IsFolder folder
named_folder file path folder e = by_test (stands_alone path) refl
  where
    by_parts : (parts : Option (List Text)) → option_map (folder_text (front file)) parts ≡ Some folder → IsFolder folder
    by_parts None e = absurd (none-some folder e)
    by_parts (Some parts) e = subst IsFolder (same_Some (folder_text (front file) parts) folder e) (behind (front file) (flat_map (λ part. part ++ slash) parts) (front_ends file) (parts_end parts))

    by_test : (b : Bool) → stands_alone path ≡ b → IsFolder folder
    by_test true alone = inr (path, sym (same_Some (path ++ slash) folder (sym (folder_alone file path alone) ∙ e)))
    by_test false alone = by_parts (parts_from file path) (sym (folder_led file path (parts_from file path) alone refl) ∙ e)

-- ---- a name in a folder

cut_behind : (rest name : Text) → has_slash name ≡ false → (folder_of (rest ++ 47 ∷ name) ≡ rest ++ 47 ∷ []) × (name_of (rest ++ 47 ∷ name) ≡ name) × (has_slash (rest ++ 47 ∷ name) ≡ true)
cut_behind [] name e =
    let p = some_in 47 name refl in
    let n = none_in name e in
    (p.0 ∙ ap (λ f. 47 ∷ f) n.0, p.1 ∙ n.1, refl)
cut_behind (b ∷ rest) name e =
    let n = cut_behind rest name e in
    let there = or_right (b == 47) (has_slash (rest ++ 47 ∷ name)) n.2 in
    let p = some_in b (rest ++ 47 ∷ name) there in
    (p.0 ∙ ap (λ f. b ∷ f) n.0, p.1 ∙ n.1, there)

-- a key is cut into the folder and the name that it is made of
pub cut : (folder name : Text) → IsFolder folder → has_slash name ≡ false → (folder_of (folder ++ name) ≡ folder) × (name_of (folder ++ name) ≡ name)
cut folder name (inl p) e =
    let n = none_in name e in
    (ap (λ f. folder_of (f ++ name)) p ∙ n.0 ∙ sym p, ap (λ f. name_of (f ++ name)) p ∙ n.1)
cut folder name (inr q) e =
    let n = cut_behind q.0 name e in
    let whole : folder ++ name ≡ q.0 ++ 47 ∷ name = ap (λ f. f ++ name) q.1 ∙ append_assoc q.0 slash name in
    (ap folder_of whole ∙ n.0 ∙ sym q.1, ap name_of whole ∙ n.1)

-- what a key is cut into is the whole key
pub joined : (key : Text) → folder_of key ++ name_of key ≡ key
joined [] = refl
joined (b ∷ bs) = by_test (has_slash (b ∷ bs)) refl (joined bs)
  where
    by_test : (t : Bool) → has_slash (b ∷ bs) ≡ t → folder_of bs ++ name_of bs ≡ bs → folder_of (b ∷ bs) ++ name_of (b ∷ bs) ≡ b ∷ bs
    by_test true e others = let p = some_in b bs e in ap (λ f. f ++ name_of (b ∷ bs)) p.0 ∙ ap (λ n. b ∷ (folder_of bs ++ n)) p.1 ∙ ap (λ t. b ∷ t) others
    by_test false e others = let p = none_in (b ∷ bs) e in ap (λ f. f ++ name_of (b ∷ bs)) p.0 ∙ p.1

-- ---- names of justfiles

lowered : (name : Text) → has_slash name ≡ true → has_slash (map to_ascii_lowercase name) ≡ true
lowered [] e = e
lowered (b ∷ bs) e = elim (or_cases (b == 47) (has_slash bs) e) [
  | inl p ↦ or_left (to_ascii_lowercase b == 47) (has_slash (map to_ascii_lowercase bs)) (ap (λ c. to_ascii_lowercase c == 47) (eqb-true b 47 p))
  | inr q ↦ or_right (to_ascii_lowercase b == 47) (has_slash (map to_ascii_lowercase bs)) (lowered bs q)
]

-- the name of a justfile has no `/`
pub justfile_slash : (name : Text) → is_justfile name ≡ true → has_slash name ≡ false
justfile_slash name is = by_test (has_slash name) refl
  where
    none : (text : Text) → has_slash text ≡ false → bytes_eq (map to_ascii_lowercase name) text ≡ true → has_slash name ≡ true → ⊥
    none text lacks same has = false≢true (sym lacks ∙ sym (ap has_slash ((bytes_eq-Decides (map to_ascii_lowercase name) text).0 same)) ∙ lowered name has)

    by_test : (b : Bool) → has_slash name ≡ b → has_slash name ≡ false
    by_test true has = elim (or_cases (bytes_eq (map to_ascii_lowercase name) (codes "justfile")) (bytes_eq (map to_ascii_lowercase name) (codes ".justfile")) is) [
      | inl p ↦ absurd (none (codes "justfile") refl p has)
      | inr q ↦ absurd (none (codes ".justfile") refl q has)
    ]
    by_test false lacks = lacks

-- ---- justfiles of a folder

-- a file of this name stands right in the folder
pub is_justfile_of : (folder key name : Text) → IsFolder folder → key ≡ folder ++ name → is_justfile name ≡ true → is_of folder key ≡ true
is_justfile_of folder key name f whole is =
    let c = cut folder name f (justfile_slash name is) in
    and_from (bytes_eq folder (folder_of key)) (is_justfile (name_of key)) ((bytes_eq-Decides folder (folder_of key)).1 (sym (ap folder_of whole ∙ c.0))) (ap is_justfile (ap name_of whole ∙ c.1) ∙ is)

-- a key that stands for a justfile of the folder is one of the folder
pub of_folder : (folder key : Text) → is_of folder key ≡ true → IsOfFolder folder key
of_folder folder key e =
    let p = and_parts (bytes_eq folder (folder_of key)) (is_justfile (name_of key)) e in
    record { name = name_of key; whole = sym (joined key) ∙ ap (λ f. f ++ name_of key) (sym ((bytes_eq-Decides folder (folder_of key)).0 p.0)); is = inr p.1 }
