-- The parts of a path are what std's calls go by.
use Rattle.std.proofs.Common.{◌≡◌, ℕ, zero, suc, ◌+◌, ◌-◌, ◌≤◌, ◌<◌, Bool, true, false, cond, not, ◌&&◌, ◌||◌, eqb, ltb, List, [], ◌∷◌, ◌++◌, length, get_or, take, drop, filter, Some, None, MatchOption, ◌⊎◌, ◌≢◌, inl, inr, refl, sym, ap, ap₂, ◌∙◌, ⊎_elim, arith, eqb-true, ne_eqb, take_all, append-nil, append_assoc, ltb-true, length-take, length-append, eq-eqb, lt-ltb, take-append-drop, get_or-drop, get_or-take, length-drop}
use Rattle.std.specs.Option.{option_map, option_flatten, option_and_then}
use Rattle.std.specs.declared.option.Option.{Option}
use Rattle.std.specs.Str.{bytes_eq}
use Rattle.std.specs.Path.{root_dir, is_name as is_std_name, is_trailing, trimmed_len, trim_trailing, rsplit_once, parent_before_slash, parent_and_last, split_last_component, path_parent, path_file_name, path_file_stem, path_extension, path_join, normal_name, stem_of_split, extension_of_split, rfind_below}
use Rattle.std.proofs.lemmas.Paths.{take_parent}
use Rattle.std.proofs.lemmas.List.Elements.{filter-append}
use Rattle.std.proofs.lemmas.List.{take_more, get_or_at, get_or-append-add, nil_from_length, length_push, drop_more}
use Rattle.std.proofs.lemmas.Bool.{eqb-false, cases_eq, cond-true, cond-false, and_parts, or_cases, or_parts, cond_both, or_left, or_right, and_from, and_right, both_ways}
use Rattle.std.proofs.lemmas.Slice.Eq.{bytes_eq-Decides}
use Rattle.just_value.specs.Paths as spec
use Rattle.just_value.specs.Paths.{Part, first_piece, later_pieces, pieces, is_part, parts_from, root_part, parts, end_of, but_last, has_parent, last_name}

pub by_test : {G : Type 0} (b : Bool) → (b ≡ true → G) → (b ≡ false → G) → G
by_test true holds fails = holds refl
by_test false holds fails = fails refl

abbrev pub part_at : ℕ → List ℕ → Part
part_at place text = record { start = place; text = text }

-- ---- the last place of a byte

-- no byte is c
abbrev pub Lacks : ℕ → List ℕ → Type 0
Lacks c text = (i : ℕ) → i < length text → get_or text i 0 ≡ c → ⊥

-- r, if it is there, is a place of c below n
abbrev Found : ℕ → List ℕ → ℕ → Option ℕ → Type 0
Found c text n r = MatchOption r (Unit {0}) (λ k. (k < n) × (get_or text k 0 ≡ c))

Found-wider : (c : ℕ) (text : List ℕ) (n : ℕ) (r : Option ℕ) → Found c text n r → Found c text (suc n) r
Found-wider c text n None h = tt
Found-wider c text n (Some k) h = (omega arith, h.1)

rfind_below-Found : (c : ℕ) (text : List ℕ) (n : ℕ) → Found c text n (rfind_below c text n)
rfind_below-Found c text zero = tt
rfind_below-Found c text (suc n) =
    cond_both (eqb (get_or text n 0) c) (Some n) (rfind_below c text n) (Found c text (suc n))
    (λ e. (omega arith, eqb-true _ c e)) (λ _. Found-wider c text n _ (rfind_below-Found c text n))

-- and no c stands after it
abbrev IsLast : ℕ → List ℕ → ℕ → Option ℕ → Type 0
IsLast c text n r = MatchOption r ((i : ℕ) → i < n → get_or text i 0 ≡ c → ⊥) (λ k. (i : ℕ) → k < i → i < n → get_or text i 0 ≡ c → ⊥)

IsLast-wider : (c : ℕ) (text : List ℕ) (n : ℕ) (r : Option ℕ) → (get_or text n 0 ≡ c → ⊥) → IsLast c text n r → IsLast c text (suc n) r
IsLast-wider c text n None other h = λ i l e. ⊎_elim (λ here. other (ap (λ j. get_or text j 0) (sym here) ∙ e)) (λ below. h i (omega arith) e) (cases_eq i n)
IsLast-wider c text n (Some k) other h = λ i a l e. ⊎_elim (λ here. other (ap (λ j. get_or text j 0) (sym here) ∙ e)) (λ below. h i a (omega arith) e) (cases_eq i n)

rfind_below-IsLast : (c : ℕ) (text : List ℕ) (n : ℕ) → IsLast c text n (rfind_below c text n)
rfind_below-IsLast c text zero = λ i l. absurd (omega arith)
rfind_below-IsLast c text (suc n) =
    cond_both (eqb (get_or text n 0) c) (Some n) (rfind_below c text n) (IsLast c text (suc n))
    (λ _ i a l. absurd (omega arith)) (λ e. IsLast-wider c text n _ (eqb-false _ c e) (rfind_below-IsLast c text n))

-- there is no c, or the text is cut at the last one
abbrev pub CutsAtLast : ℕ → List ℕ → Option (List ℕ × List ℕ) → Type 0
CutsAtLast c text r = MatchOption r (Lacks c text) (λ split. (text ≡ split.0 ++ c ∷ split.1) × Lacks c split.1)

cuts_at : (c : ℕ) (text : List ℕ) (r : Option ℕ) → Found c text (length text) r → IsLast c text (length text) r → CutsAtLast c text (option_map (λ i. (take i text, drop (i + 1) text)) r)
cuts_at c text None found last = last
cuts_at c text (Some k) found last = (
  sym (take-append-drop k text) ∙ ap (λ l. take k text ++ l) (drop_more text k 0 found.0 ∙ ap (λ b. b ∷ drop (k + 1) text) found.1),
  λ i l e. last ((k + 1) + i) (omega arith) (omega (arith, length-drop (k + 1) text)) (sym (get_or-drop (k + 1) text i 0) ∙ e),
)

pub rsplit_once_cuts : (c : ℕ) (text : List ℕ) → CutsAtLast c text (rsplit_once c text)
unfolding rsplit_once
rsplit_once_cuts c text = cuts_at c text _ (rfind_below-Found c text (length text)) (rfind_below-IsLast c text (length text))

-- ---- what is left where nothing trails

trimmed_len_ends : (path : List ℕ) (n : ℕ) → (trimmed_len path n ≤ n) × (0 < n → 0 < trimmed_len path n) × (0 < trimmed_len path n → is_trailing path (trimmed_len path n - 1) ≡ false)
trimmed_len_ends path zero = (omega arith, (λ l. l), λ l. absurd (omega arith))
trimmed_len_ends path (suc n) =
    cond_both (is_trailing path n) (trimmed_len path n) (suc n) (λ k. (k ≤ suc n) × (0 < suc n → 0 < k) × (0 < k → is_trailing path (k - 1) ≡ false))
    (λ e.
    let below = trimmed_len_ends path n in
    let some = ltb-true 0 n (and_parts (ltb 0 n) _ e).0 in
    (omega (arith, below.0), (λ _. below.1 some), below.2))
    (λ e. (omega arith, (λ l. l), λ _. ap (is_trailing path) {x = suc n - 1} {y = n} (omega arith) ∙ e))

trim_trailing_some : (path : List ℕ) → 0 < length path → 0 < length (trim_trailing path)
unfolding trim_trailing
trim_trailing_some path l =
    let ends = trimmed_len_ends path (length path) in
    omega (arith, ends.0, ends.1 l, length-take (trimmed_len path (length path)) path)

trim_trailing_ends : (path : List ℕ) → 0 < length (trim_trailing path) → is_trailing (trim_trailing path) (length (trim_trailing path) - 1) ≡ false
unfolding trim_trailing
trim_trailing_ends path l =
    let k = trimmed_len path (length path) in
    let ends = trimmed_len_ends path (length path) in
    let long : length (take k path) ≡ k = omega (arith, ends.0, length-take k path) in
    let here = get_or-take k path (k - 1) 0 (omega arith) in
    let before = get_or-take k path ((k - 1) - 1) 0 (omega arith) in
    ap (λ n. is_trailing (take k path) (n - 1)) long ∙ ap₂ (λ a b. ltb 0 (k - 1) && (eqb a 47 || (eqb a 46 && eqb b 47))) here before ∙ ends.2 (omega arith)

-- ---- a text with a `/` in it

first_piece-append : (xs ys : List ℕ) → first_piece (xs ++ 47 ∷ ys) ≡ first_piece xs
first_piece-append [] ys = refl
first_piece-append (x ∷ xs) ys = ap (λ l. cond (eqb x 47) [] (x ∷ l)) (first_piece-append xs ys)

pub later_pieces-append : (k m : ℕ) (xs ys : List ℕ) → m ≡ (k + length xs) + 1 → later_pieces k (xs ++ 47 ∷ ys) ≡ later_pieces k xs ++ pieces m ys
later_pieces-append k m [] ys e = ap (λ n. pieces n ys) {x = k + 1} {y = m} (omega (arith, e))
later_pieces-append k m (x ∷ xs) ys e =
    let more : later_pieces (k + 1) (xs ++ 47 ∷ ys) ≡ later_pieces (k + 1) xs ++ pieces m ys = later_pieces-append (k + 1) m xs ys (omega (arith, e)) in
    by_test (eqb x 47)
    (λ t. rw t (ap₂ (λ a b. part_at (k + 1) a ∷ b) (first_piece-append xs ys) more))
    (λ t. rw t more)

parts_from-append : (k m : ℕ) (xs ys : List ℕ) → m ≡ (k + length xs) + 1 → parts_from k (xs ++ 47 ∷ ys) ≡ parts_from k xs ++ parts_from m ys
parts_from-append k m xs ys e =
    ap (filter is_part) (ap₂ (λ a b. part_at k a ∷ b) (first_piece-append xs ys) (later_pieces-append k m xs ys e))
    ∙ filter-append is_part (pieces k xs) (pieces m ys)

root_part-append : (xs ys : List ℕ) → 0 < length xs → root_part (xs ++ 47 ∷ ys) ≡ root_part xs
root_part-append [] ys l = absurd (omega (arith, l))
root_part-append (x ∷ xs) ys l = refl

pub parts-append : (xs ys : List ℕ) → 0 < length xs → parts (xs ++ 47 ∷ ys) ≡ parts xs ++ parts_from (length xs + 1) ys
unfolding parts
parts-append xs ys l =
    ap₂ ◌++◌ (root_part-append xs ys l) (parts_from-append 0 (length xs + 1) xs ys (omega arith))
    ∙ sym (append_assoc (root_part xs) (parts_from 0 xs) (parts_from (length xs + 1) ys))

pub parts_at_root : (ys : List ℕ) → parts (47 ∷ ys) ≡ part_at 0 (47 ∷ []) ∷ parts_from 1 ys
unfolding parts
parts_at_root ys = refl

pub parts_none : parts [] ≡ []
unfolding parts
parts_none = refl

pub parts_root : parts (47 ∷ []) ≡ part_at 0 (47 ∷ []) ∷ []
unfolding parts
parts_root = refl

-- ---- a text without a `/`

rest_lacks : (x : ℕ) (xs : List ℕ) → Lacks 47 (x ∷ xs) → Lacks 47 xs
rest_lacks x xs h = λ i l. h (suc i) (omega arith)

pub first_piece_whole : (xs : List ℕ) → Lacks 47 xs → first_piece xs ≡ xs
first_piece_whole [] h = refl
first_piece_whole (x ∷ xs) h = cond-false _ _ _ (ne_eqb x 47 (h 0 (omega arith))) ∙ ap (λ l. x ∷ l) (first_piece_whole xs (rest_lacks x xs h))

later_pieces_none : (k : ℕ) (xs : List ℕ) → Lacks 47 xs → later_pieces k xs ≡ []
later_pieces_none k [] h = refl
later_pieces_none k (x ∷ xs) h = cond-false _ _ _ (ne_eqb x 47 (h 0 (omega arith))) ∙ later_pieces_none (k + 1) xs (rest_lacks x xs h)

pub parts_from_one : (k : ℕ) (name : List ℕ) → Lacks 47 name → is_part (part_at k name) ≡ true → parts_from k name ≡ part_at k name ∷ []
parts_from_one k name h e =
    ap (filter is_part) (ap₂ (λ a b. part_at k a ∷ b) (first_piece_whole name h) (later_pieces_none k name h)) ∙ cond-true _ _ _ e

pub parts_one : (name : List ℕ) → 0 < length name → Lacks 47 name → parts name ≡ part_at 0 name ∷ []
unfolding parts
parts_one [] l h = absurd (omega (arith, l))
parts_one (x ∷ xs) l h =
    ap₂ ◌++◌ (cond-false _ _ _ (ne_eqb x 47 (h 0 (omega arith))))
    (parts_from_one 0 (x ∷ xs) h (ap (λ b. not (b || false)) (ne_eqb (length (x ∷ xs)) 0 (λ z. omega (arith, z)))))

pub named : (k : ℕ) (name : List ℕ) → 0 < k → is_std_name name ≡ true → is_part (part_at k name) ≡ true
named k name l e = rw (lt-ltb 0 k l) e

-- ---- a path without its trailing `/` and `.`

parts_slash : (xs : List ℕ) → 0 < length xs → parts (xs ++ 47 ∷ []) ≡ parts xs
parts_slash xs l = parts-append xs [] l ∙ append-nil (parts xs)

parts_dot : (xs : List ℕ) → parts (xs ++ 47 ∷ 46 ∷ []) ≡ parts (xs ++ 47 ∷ [])
parts_dot [] = parts_at_root (46 ∷ []) ∙ sym (parts_at_root [])
parts_dot (x ∷ xs) =
    parts-append (x ∷ xs) (46 ∷ []) (omega arith)
    ∙ ap (λ l. parts (x ∷ xs) ++ l) (rw (lt-ltb 0 (length (x ∷ xs) + 1) (omega arith)) refl)
    ∙ sym (parts-append (x ∷ xs) [] (omega arith))

keeps_trailing : (path : List ℕ) (n : ℕ) → n < length path → is_trailing path n ≡ true → parts (take (n + 1) path) ≡ parts (take n path)
keeps_trailing path n l e =
    let b = get_or path n 0 in
    let before = get_or path (n - 1) 0 in
    let both = and_parts (ltb 0 n) (eqb b 47 || (eqb b 46 && eqb before 47)) e in
    let some = ltb-true 0 n both.0 in
    let more : (x : ℕ) → b ≡ x → take (n + 1) path ≡ take n path ++ x ∷ [] = λ x is. take_more path n 0 l ∙ ap (λ y. take n path ++ y ∷ []) is in
    ⊎_elim
    (λ is_slash. ap parts (more 47 (eqb-true b 47 is_slash)) ∙ parts_slash (take n path) (omega (arith, length-take n path)))
    (λ is_dot.
    let dots = and_parts (eqb b 46) (eqb before 47) is_dot in
    let front = take (n - 1) path in
    let ends : take n path ≡ front ++ 47 ∷ [] =
    ap (λ k. take k path) {x = n} {y = (n - 1) + 1} (omega arith) ∙ take_more path (n - 1) 0 (omega arith) ∙ ap (λ y. front ++ y ∷ []) (eqb-true before 47 dots.1) in
    ap parts (more 46 (eqb-true b 46 dots.0) ∙ ap (λ xs. xs ++ 46 ∷ []) ends ∙ append_assoc front (47 ∷ []) (46 ∷ []))
    ∙ parts_dot front ∙ ap parts (sym ends))
    (or_cases (eqb b 47) (eqb b 46 && eqb before 47) both.1)

keeps_trimmed_len : (path : List ℕ) (n : ℕ) → n ≤ length path → parts (take (trimmed_len path n) path) ≡ parts (take n path)
keeps_trimmed_len path zero l = refl
keeps_trimmed_len path (suc n) l =
    by_test (is_trailing path n)
    (λ e. ap (λ k. parts (take k path)) (cond-true _ _ _ e) ∙ keeps_trimmed_len path n (omega arith)
    ∙ sym (keeps_trailing path n (omega arith) e) ∙ ap (λ k. parts (take k path)) {x = n + 1} {y = suc n} (omega arith))
    (λ e. ap (λ k. parts (take k path)) (cond-false _ _ _ e))

parts-trim : (path : List ℕ) → parts (trim_trailing path) ≡ parts path
unfolding trim_trailing
parts-trim path = keeps_trimmed_len path (length path) (omega arith) ∙ ap parts (take_all (length path) path (omega arith))

-- ---- the last part

is_name_long : (a b : ℕ) (rest : List ℕ) → is_std_name (a ∷ b ∷ rest) ≡ true
is_name_long a b rest = ap₂ (λ s t. not (s || t)) (ne_eqb (length (a ∷ b ∷ rest)) 0 (λ z. omega (arith, z))) (and_right (eqb a 46) false refl)

-- what stands after the last `/` of a path that nothing trails
name_behind : (dir last : List ℕ) → is_trailing (dir ++ 47 ∷ last) (length (dir ++ 47 ∷ last) - 1) ≡ false → bytes_eq (dir ++ 47 ∷ last) (47 ∷ []) ≡ false → is_std_name last ≡ true
name_behind [] [] ends other = absurd (both_ways true other refl)
name_behind (d ∷ ds) [] ends other =
    let dir = d ∷ ds in
    let path = dir ++ 47 ∷ [] in
    let n : length path - 1 ≡ length dir = omega (arith, length-append dir (47 ∷ [])) in
    let is_slash = eq-eqb (get_or path (length dir) 0) 47 (get_or_at dir 47 [] 0 (length dir) refl) in
    absurd (both_ways _ ends (ap (is_trailing path) n ∙ and_from _ _ (lt-ltb 0 (length dir) (omega arith)) (or_left _ _ is_slash)))
name_behind dir (a ∷ []) ends other =
    let path = dir ++ 47 ∷ a ∷ [] in
    let n : length path - 1 ≡ length dir + 1 = omega (arith, length-append dir (47 ∷ a ∷ [])) in
    let back : (length dir + 1) - 1 ≡ length dir = omega arith in
    let is_slash = eq-eqb (get_or path ((length dir + 1) - 1) 0) 47 (ap (λ k. get_or path k 0) back ∙ get_or_at dir 47 (a ∷ []) 0 (length dir) refl) in
    by_test (eqb a 46)
    (λ e.
    let is_dot = ap (λ x. eqb x 46) (get_or-append-add dir (47 ∷ a ∷ []) 1 0) ∙ e in
    absurd (both_ways _ ends (ap (is_trailing path) n ∙ and_from _ _ (lt-ltb 0 (length dir + 1) (omega arith)) (or_right _ _ (and_from _ _ is_dot is_slash)))))
    (λ e. ap (λ t. not (t && true)) e)
name_behind dir (a ∷ b ∷ rest) ends other = is_name_long a b rest

pub parts_at_slash : (dir last : List ℕ) → Lacks 47 last → is_std_name last ≡ true → parts (dir ++ 47 ∷ last) ≡ parts (parent_before_slash dir) ++ part_at (length dir + 1) last ∷ []
parts_at_slash [] last h e = parts_at_root last ∙ ap (λ l. part_at 0 (47 ∷ []) ∷ l) (parts_from_one 1 last h e) ∙ ap (λ l. l ++ part_at 1 last ∷ []) (sym parts_root)
parts_at_slash (d ∷ ds) last h e =
    let dir = d ∷ ds in
    let before : parent_before_slash dir ≡ trim_trailing dir = cond-false _ _ _ (ne_eqb (length dir) 0 (λ z. omega (arith, z))) in
    parts-append dir last (omega arith)
    ∙ ap₂ ◌++◌ (sym (parts-trim dir) ∙ ap parts (sym before)) (parts_from_one (length dir + 1) last h (named (length dir + 1) last (omega arith) e))

pub end_of_push : (found : List Part) (last : Part) → end_of (found ++ last ∷ []) ≡ spec.stop last
end_of_push [] last = refl
end_of_push (part ∷ []) last = refl
end_of_push (part ∷ other ∷ others) last = end_of_push (other ∷ others) last

-- where nothing trails, the last part ends with the path
ends_by : (path : List ℕ) (r : Option (List ℕ × List ℕ)) → CutsAtLast 47 path r
    → 0 < length path → is_trailing path (length path - 1) ≡ false → bytes_eq path (47 ∷ []) ≡ false → end_of (parts path) ≡ length path
ends_by path None h some ends other = ap end_of (parts_one path some h) ∙ omega arith
ends_by path (Some split) h some ends other =
    let is_last = name_behind split.0 split.1 (ap (λ p. is_trailing p (length p - 1)) (sym h.0) ∙ ends) (ap (λ p. bytes_eq p (47 ∷ [])) (sym h.0) ∙ other) in
    ap (λ p. end_of (parts p)) h.0 ∙ ap end_of (parts_at_slash split.0 split.1 h.1 is_last) ∙ end_of_push (parts (parent_before_slash split.0)) (part_at (length split.0 + 1) split.1)
    ∙ omega (arith, ap length h.0, length-append split.0 (47 ∷ split.1))

ends_with_path : (path : List ℕ) → 0 < length path → is_trailing path (length path - 1) ≡ false → end_of (parts path) ≡ length path
ends_with_path path some ends =
    by_test (bytes_eq path (47 ∷ []))
    (λ e. let root : path ≡ 47 ∷ [] = (bytes_eq-Decides path (47 ∷ [])).0 e in ap (λ p. end_of (parts p)) root ∙ ap end_of parts_root ∙ ap length (sym root))
    (λ e. ends_by path _ (rsplit_once_cuts 47 path) some ends e)

ends_with_parent : (dir : List ℕ) → end_of (parts (parent_before_slash dir)) ≡ length (parent_before_slash dir)
ends_with_parent [] = ap end_of parts_root
ends_with_parent (d ∷ ds) =
    let before : parent_before_slash (d ∷ ds) ≡ trim_trailing (d ∷ ds) = cond-false _ _ _ (ne_eqb (length (d ∷ ds)) 0 (λ z. omega (arith, z))) in
    let some = trim_trailing_some (d ∷ ds) (omega arith) in
    ap (λ p. end_of (parts p)) before ∙ ends_with_path (trim_trailing (d ∷ ds)) some (trim_trailing_ends (d ∷ ds) some) ∙ ap length (sym before)

-- the parts are those of the first, and then the second, which is not the root; the last part of the first ends where that does
abbrev SplitsParts : List ℕ → List ℕ × List ℕ → Type 0
SplitsParts path split = (place : ℕ) × (parts path ≡ parts split.0 ++ part_at place split.1 ∷ []) × (split.1 ≢ root_dir) × (end_of (parts split.0) ≡ length split.0)

pub not_root : (name : List ℕ) → Lacks 47 name → name ≢ root_dir
not_root name h = λ e. h 0 (omega (arith, ap length e)) (ap (λ l. get_or l 0 0) e)

splits_by : (path : List ℕ) (r : Option (List ℕ × List ℕ)) → CutsAtLast 47 path r
    → 0 < length path → is_trailing path (length path - 1) ≡ false → bytes_eq path (47 ∷ []) ≡ false → SplitsParts path (parent_and_last path r)
splits_by path None h some ends other = (0, parts_one path some h ∙ ap (λ l. l ++ part_at 0 path ∷ []) (sym parts_none), not_root path h, ap end_of parts_none)
splits_by path (Some split) h some ends other =
    let is_last = name_behind split.0 split.1 (ap (λ p. is_trailing p (length p - 1)) (sym h.0) ∙ ends) (ap (λ p. bytes_eq p (47 ∷ [])) (sym h.0) ∙ other) in
    (length split.0 + 1, ap parts h.0 ∙ parts_at_slash split.0 split.1 h.1 is_last, not_root split.1 h.1, ends_with_parent split.0)

-- there is no part but the root
abbrev IsBare : List ℕ → Type 0
IsBare path = (parts path ≡ []) ⊎ (parts path ≡ part_at 0 root_dir ∷ [])

split_parts : (path : List ℕ) → MatchOption (split_last_component path) (IsBare path) (SplitsParts path)
unfolding split_last_component
split_parts path =
    let trimmed = trim_trailing path in
    let empty = eqb (length trimmed) 0 in
    let root = bytes_eq trimmed (47 ∷ []) in
    let same = sym (parts-trim path) in
    cond_both (empty || root) None (Some (parent_and_last trimmed (rsplit_once 47 trimmed))) (λ r. MatchOption r (IsBare path) (SplitsParts path))
    (λ e. ⊎_elim
    (λ z. inl (same ∙ ap parts (nil_from_length trimmed (eqb-true _ 0 z)) ∙ parts_none))
    (λ s. inr (same ∙ ap parts ((bytes_eq-Decides trimmed (47 ∷ [])).0 s) ∙ parts_root))
    (or_cases empty root e))
    (λ e.
    let neither = or_parts empty root e in
    let some : 0 < length trimmed = omega (arith, eqb-false (length trimmed) 0 neither.0) in
    let split = splits_by trimmed _ (rsplit_once_cuts 47 trimmed) some (trim_trailing_ends path some) neither.1 in
    (split.0, same ∙ split.1, split.2, split.3))

-- ---- the parent

pub has_parent_push : (found : List Part) (last : Part) → last.text ≢ root_dir → has_parent (found ++ last ∷ []) ≡ true
has_parent_push [] last other = by_test (bytes_eq last.text (47 ∷ [])) (λ e. absurd (other ((bytes_eq-Decides last.text (47 ∷ [])).0 e))) (λ e. ap not e)
has_parent_push (part ∷ []) last other = refl
has_parent_push (part ∷ another ∷ others) last other = refl

pub take_front : {A : Type 0} (found others : List A) → take (length found) (found ++ others) ≡ found
take_front [] others = refl
take_front (first ∷ found) others = ap (λ l. first ∷ l) (take_front found others)

pub but_last_push : (found : List Part) (last : Part) → but_last (found ++ last ∷ []) ≡ found
but_last_push found last =
    ap (λ n. take n (found ++ last ∷ [])) {x = length (found ++ last ∷ []) - 1} {y = length found} (omega (arith, length_push found last)) ∙ take_front found (last ∷ [])

parent_by : (path : List ℕ) (r : Option (List ℕ × List ℕ)) → MatchOption r (IsBare path) (SplitsParts path) → path_parent path ≡ option_map (λ split. split.0) r → option_map (λ split. split.0) r ≡ spec.parent path
unfolding spec.parent
parent_by path None bare given =
    sym (⊎_elim (λ e. rw e refl) (λ e. rw e refl) bare)
parent_by path (Some split) h given =
    let last = part_at h.0 split.1 in
    let long : end_of (but_last (parts split.0 ++ last ∷ [])) ≡ length split.0 = ap end_of (but_last_push (parts split.0) last) ∙ h.3 in
    let beginning : take (end_of (but_last (parts split.0 ++ last ∷ []))) path ≡ split.0 = ap (λ n. take n path) long ∙ take_parent path split.0 given in
    sym (rw (h.1, has_parent_push (parts split.0) last h.2) (ap (λ t. Some t) beginning))

pub parent_is : (path : List ℕ) → path_parent path ≡ spec.parent path
unfolding path_parent
parent_is path = parent_by path _ (split_parts path) refl

-- ---- the file name

pub last_name_push : (found : List Part) (last : Part) → last_name (found ++ last ∷ []) ≡ cond (spec.is_name last.text) (Some last.text) None
last_name_push [] last = refl
last_name_push (part ∷ []) last = refl
last_name_push (part ∷ other ∷ others) last = last_name_push (other ∷ others) last

named_by : (name : List ℕ) (root dots : Bool) → root ≡ false → cond (not (root || dots)) (Some name) None ≡ cond dots None (Some name)
named_by name root true e = rw e refl
named_by name root false e = rw e refl

not_read_as_root : (name : List ℕ) → name ≢ root_dir → bytes_eq name root_dir ≡ false
not_read_as_root name other = by_test (bytes_eq name root_dir) (λ e. absurd (other ((bytes_eq-Decides name root_dir).0 e))) (λ e. e)

name_by : (path : List ℕ) (r : Option (List ℕ × List ℕ)) → MatchOption r (IsBare path) (SplitsParts path) → option_flatten (option_map (λ split. normal_name split.1) r) ≡ spec.file_name path
unfolding spec.file_name
name_by path None bare = sym (⊎_elim (λ e. rw e refl) (λ e. rw e refl) bare)
name_by path (Some split) h =
    sym (ap last_name h.1 ∙ last_name_push (parts split.0) (part_at h.0 split.1) ∙ named_by split.1 _ _ (not_read_as_root split.1 h.2))

pub file_name_is : (path : List ℕ) → path_file_name path ≡ spec.file_name path
unfolding path_file_name
file_name_is path = name_by path _ (split_parts path)

-- ---- the last dot of a name

cut_nowhere : (text : List ℕ) → Lacks 46 text → spec.cut_at_dot text ≡ None
cut_nowhere [] h = refl
cut_nowhere (b ∷ bs) h = rw (cut_nowhere bs (λ i l. h (suc i) (omega arith)), ne_eqb b 46 (h 0 (omega arith))) refl

cut_last : (before behind : List ℕ) → Lacks 46 behind → spec.cut_at_dot (before ++ 46 ∷ behind) ≡ Some (before, behind)
cut_last [] behind h = rw (cut_nowhere behind h) refl
cut_last (b ∷ before) behind h = rw (cut_last before behind h) refl

cut_by : (name : List ℕ) (r : Option (List ℕ × List ℕ)) → CutsAtLast 46 name r → r ≡ spec.cut_at_dot name
cut_by name None h = sym (cut_nowhere name h)
cut_by name (Some cut) h = sym (ap spec.cut_at_dot h.0 ∙ cut_last cut.0 cut.1 h.1)

cut_is : (name : List ℕ) → rsplit_once 46 name ≡ spec.cut_at_dot name
cut_is name = cut_by name _ (rsplit_once_cuts 46 name)

stem_of : (r : Option (List ℕ)) → option_map (λ name. stem_of_split name (rsplit_once 46 name)) r ≡ option_map (λ name. spec.stem_by name (spec.cut_at_dot name)) r
stem_of None = refl
stem_of (Some name) = ap (λ cut. Some (stem_of_split name cut)) (cut_is name)

extension_of : (r : Option (List ℕ)) → option_flatten (option_map (λ name. extension_of_split (rsplit_once 46 name)) r) ≡ option_and_then (λ name. spec.extension_by (spec.cut_at_dot name)) r
extension_of None = refl
extension_of (Some name) = ap extension_of_split (cut_is name)

pub file_stem_is : (path : List ℕ) → path_file_stem path ≡ spec.file_stem path
unfolding path_file_stem spec.file_stem
file_stem_is path = stem_of (path_file_name path) ∙ ap (option_map (λ name. spec.stem_by name (spec.cut_at_dot name))) (file_name_is path)

pub extension_is : (path : List ℕ) → path_extension path ≡ spec.extension path
unfolding path_extension spec.extension
extension_is path = extension_of (path_file_name path) ∙ ap (option_and_then (λ name. spec.extension_by (spec.cut_at_dot name))) (file_name_is path)

-- ---- joins

takes_more_is : (text : List ℕ) → (eqb (length text) 0 || eqb (get_or text (length text - 1) 0) 47) ≡ spec.takes_more text
takes_more_is [] = refl
takes_more_is (b ∷ []) = refl
takes_more_is (b ∷ c ∷ bs) =
    let last : get_or (b ∷ c ∷ bs) (length (b ∷ c ∷ bs) - 1) 0 ≡ get_or (c ∷ bs) (length (c ∷ bs) - 1) 0 =
    ap (λ k. get_or (b ∷ c ∷ bs) k 0) {x = length (b ∷ c ∷ bs) - 1} {y = suc (length (c ∷ bs) - 1)} (omega arith) in
    let longer = ne_eqb (length (b ∷ c ∷ bs)) 0 (λ z. omega (arith, z)) in
    let long = ne_eqb (length (c ∷ bs)) 0 (λ z. omega (arith, z)) in
    ap₂ (λ s k. s || eqb k 47) (longer ∙ sym long) last ∙ takes_more_is (c ∷ bs)

absolute_is : (text : List ℕ) → eqb (get_or text 0 0) 47 ≡ spec.is_absolute text
absolute_is [] = refl
absolute_is (b ∷ bs) = refl

separated : (more : Bool) (left right : List ℕ) → cond more left (left ++ 47 ∷ []) ++ right ≡ left ++ (cond more [] (47 ∷ []) ++ right)
separated true left right = refl
separated false left right = append_assoc left (47 ∷ []) right

pub join_is : (left right : List ℕ) → path_join left right ≡ spec.join left right
unfolding path_join spec.join
join_is left right =
    ap₂ (λ absolute joined. cond absolute right joined) (absolute_is right)
    (ap (λ more. cond more left (left ++ 47 ∷ []) ++ right) (takes_more_is left) ∙ separated (spec.takes_more left) left right)
