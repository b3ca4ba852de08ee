-- A path with neither an empty part nor `.` after a `/` is its parent joined with its file name.
use Rattle.std.proofs.Common.{◌≡◌, ℕ, suc, ◌+◌, ◌<◌, ◌≢◌, Bool, true, false, cond, not, ◌||◌, eqb, List, [], ◌∷◌, ◌++◌, length, take, Some, None, refl, sym, ap, ap₂, subst, ◌∙◌, arith, ne_eqb, length-append}
use Rattle.std.proofs.lemmas.Bool.{or_parts, cond-false, both_ways}
use Rattle.std.proofs.lemmas.List.Folds.{list_any-append}
use Rattle.std.specs.declared.option.Option.{Option}
use Rattle.std.specs.List.{list_any}
use Rattle.std.specs.Path.{is_name as is_std_name, parent_before_slash, root_dir}
use Rattle.std.specs.Str.{bytes_eq}
use Rattle.just_value.proofs.PathParts.{Lacks, CutsAtLast, rsplit_once_cuts, part_at, later_pieces-append, first_piece_whole, parts-append, parts_from_one, parts_one, parts_at_root, named, end_of_push, but_last_push, has_parent_push, last_name_push, parts_at_slash, not_root, take_front}
use Rattle.just_value.specs.Paths as spec
use Rattle.just_value.specs.Paths.{Part, first_piece, later_pieces, pieces, parts_from, parts, end_of, but_last, has_parent, last_name, takes_more, is_absolute, IsPlain}

abbrev left_out : Part → Bool
left_out piece = eqb (length piece.text) 0 || bytes_eq piece.text (46 ∷ [])

-- the two pieces beside the last `/` of a plain text
plain_parts : (dir name : List ℕ) → Lacks 47 name → IsPlain (dir ++ 47 ∷ name) → IsPlain dir × (is_std_name name ≡ true)
plain_parts dir name h plain =
    let both : (list_any left_out (later_pieces 0 dir) || list_any left_out (pieces (length dir + 1) name)) ≡ false =
    sym (ap (list_any left_out) (later_pieces-append 0 (length dir + 1) dir name (omega arith)) ∙ list_any-append left_out (later_pieces 0 dir) (pieces (length dir + 1) name)) ∙ plain in
    let apart = or_parts _ _ both in
    let first = or_parts (left_out (part_at (length dir + 1) (first_piece name))) (list_any left_out (later_pieces (length dir + 1) name)) apart.1 in
    (apart.0, ap (λ text. is_std_name text) (sym (first_piece_whole name h)) ∙ ap not first.0)

some_in : (name : List ℕ) → is_std_name name ≡ true → 0 < length name
some_in [] e = absurd (both_ways false refl e)
some_in (b ∷ bs) e = omega arith

not_absolute : (name : List ℕ) → Lacks 47 name → is_absolute name ≡ false
not_absolute [] h = refl
not_absolute (b ∷ bs) h = ne_eqb b 47 (h 0 (omega arith))

takes_no_more : (name : List ℕ) → 0 < length name → Lacks 47 name → takes_more name ≡ false
takes_no_more [] l h = absurd (omega (arith, l))
takes_no_more (b ∷ []) l h = ne_eqb b 47 (h 0 (omega arith))
takes_no_more (b ∷ c ∷ bs) l h = takes_no_more (c ∷ bs) (omega arith) (λ i m. h (suc i) (omega (arith, m)))

takes_more_behind : (dir : List ℕ) (name : List ℕ) → 0 < length name → takes_more (dir ++ name) ≡ takes_more name
takes_more_behind [] name l = refl
takes_more_behind (b ∷ []) [] l = absurd (omega (arith, l))
takes_more_behind (b ∷ []) (c ∷ bs) l = refl
takes_more_behind (b ∷ d ∷ dir) name l = takes_more_behind (d ∷ dir) name l

-- the last part of a plain text ends it, and takes a `/` after it
ends_by : (dir : List ℕ) (r : Option (List ℕ × List ℕ)) → CutsAtLast 47 dir r → 0 < length dir → IsPlain dir → (end_of (parts dir) ≡ length dir) × (takes_more dir ≡ false)
ends_by dir None h some plain = (ap end_of (parts_one dir some h) ∙ omega arith, takes_no_more dir some h)
ends_by dir (Some cut) h some plain =
    let beside = plain_parts cut.0 cut.1 h.1 (subst IsPlain h.0 plain) in
    let more : takes_more (cut.0 ++ 47 ∷ cut.1) ≡ takes_more cut.1 =
    takes_more_behind cut.0 (47 ∷ cut.1) (omega arith) ∙ takes_more_behind (47 ∷ []) cut.1 (some_in cut.1 beside.1) in (
      ap (λ p. end_of (parts p)) h.0 ∙ ap end_of (parts_at_slash cut.0 cut.1 h.1 beside.1) ∙ end_of_push (parts (parent_before_slash cut.0)) (part_at (length cut.0 + 1) cut.1) ∙ omega (arith, ap length h.0, length-append cut.0 (47 ∷ cut.1)),
      ap takes_more h.0 ∙ more ∙ takes_no_more cut.1 (some_in cut.1 beside.1) h.1,
    )

name_from : (b : Bool) (last name : List ℕ) → cond b (Some last) None ≡ Some name → name ≡ last
name_from true last name e = let same : Some last ≡ Some name = e in cc
name_from false last name e = absurd (let never : None ≡ Some name = e in cc)

-- the parent and the file name by the parts before the last, and the last
told_by : (path dir name : List ℕ) (front : List Part) (place : ℕ) (last : List ℕ) → parts path ≡ front ++ part_at place last ∷ [] → last ≢ root_dir → spec.parent path ≡ Some dir → spec.file_name path ≡ Some name
    → (dir ≡ take (end_of front) path) × (name ≡ last)
unfolding spec.parent spec.file_name
told_by path dir name front place last are other above below =
    let there : has_parent (parts path) ≡ true = ap has_parent are ∙ has_parent_push front (part_at place last) other in
    let beginning : take (end_of (but_last (parts path))) path ≡ take (end_of front) path = ap (λ found. take (end_of found) path) (ap but_last are ∙ but_last_push front (part_at place last)) in
    let same : Some (take (end_of (but_last (parts path))) path) ≡ Some dir = sym (ap (λ b. cond b (Some (take (end_of (but_last (parts path))) path)) None) there) ∙ above in
    let at_front : take (end_of (but_last (parts path))) path ≡ dir = cc in
    (sym at_front ∙ beginning, name_from (spec.is_name last) last name (sym (ap last_name are ∙ last_name_push front (part_at place last)) ∙ below))

join_plain : (dir name : List ℕ) → is_absolute name ≡ false → spec.join dir name ≡ dir ++ (cond (takes_more dir) [] (47 ∷ []) ++ name)
unfolding spec.join
join_plain dir name e = cond-false _ _ _ e

no_parent : (dir : List ℕ) → spec.parent [] ≡ Some dir → ⊥
unfolding spec.parent parts
no_parent dir e = let never : None ≡ Some dir = e in cc

alone : (path dir name : List ℕ) → Lacks 47 path → 0 < length path → spec.parent path ≡ Some dir → spec.file_name path ≡ Some name → spec.join dir name ≡ path
alone path dir name h some above below =
    let told = told_by path dir name [] 0 path (parts_one path some h) (not_root path h) above below in
    ap₂ spec.join told.0 told.1 ∙ join_plain [] path (not_absolute path h)

behind_root : (last dir name : List ℕ) → Lacks 47 last → is_std_name last ≡ true → spec.parent (47 ∷ last) ≡ Some dir → spec.file_name (47 ∷ last) ≡ Some name → spec.join dir name ≡ 47 ∷ last
behind_root last dir name h kept above below =
    let are = parts_at_root last ∙ ap (λ l. part_at 0 (47 ∷ []) ∷ l) (parts_from_one 1 last h kept) in
    let told = told_by (47 ∷ last) dir name (part_at 0 (47 ∷ []) ∷ []) 1 last are (not_root last h) above below in
    ap₂ spec.join told.0 told.1 ∙ join_plain (47 ∷ []) last (not_absolute last h)

behind_slash : (front last dir name : List ℕ) → 0 < length front → Lacks 47 last → is_std_name last ≡ true → (end_of (parts front) ≡ length front) × (takes_more front ≡ false)
    → spec.parent (front ++ 47 ∷ last) ≡ Some dir → spec.file_name (front ++ 47 ∷ last) ≡ Some name → spec.join dir name ≡ front ++ 47 ∷ last
behind_slash front last dir name some h kept ends above below =
    let are = parts-append front last some ∙ ap (λ l. parts front ++ l) (parts_from_one (length front + 1) last h (named (length front + 1) last (omega arith) kept)) in
    let told = told_by (front ++ 47 ∷ last) dir name (parts front) (length front + 1) last are (not_root last h) above below in
    let whole : dir ≡ front = told.0 ∙ ap (λ n. take n (front ++ 47 ∷ last)) ends.0 ∙ take_front front (47 ∷ last) in
    ap₂ spec.join whole told.1 ∙ join_plain front last (not_absolute last h) ∙ ap (λ b. front ++ (cond b [] (47 ∷ []) ++ last)) ends.1

joined_by : (path dir name : List ℕ) (r : Option (List ℕ × List ℕ)) → CutsAtLast 47 path r → IsPlain path → spec.parent path ≡ Some dir → spec.file_name path ≡ Some name → spec.join dir name ≡ path
joined_by [] dir name None h plain above below = absurd (no_parent dir above)
joined_by (b ∷ bs) dir name None h plain above below = alone (b ∷ bs) dir name h (omega arith) above below
joined_by path dir name (Some ([], last)) h plain above below =
    let beside = plain_parts [] last h.1 (subst IsPlain h.0 plain) in
    behind_root last dir name h.1 beside.1 (sym (ap spec.parent h.0) ∙ above) (sym (ap spec.file_name h.0) ∙ below) ∙ sym h.0
joined_by path dir name (Some (b ∷ bs, last)) h plain above below =
    let beside = plain_parts (b ∷ bs) last h.1 (subst IsPlain h.0 plain) in
    let ends = ends_by (b ∷ bs) _ (rsplit_once_cuts 47 (b ∷ bs)) (omega arith) beside.0 in
    behind_slash (b ∷ bs) last dir name (omega arith) h.1 beside.1 ends (sym (ap spec.parent h.0) ∙ above) (sym (ap spec.file_name h.0) ∙ below) ∙ sym h.0

pub joined_again : spec.JoinedAgain
joined_again path dir name = joined_by path dir name _ (rsplit_once_cuts 47 path)
