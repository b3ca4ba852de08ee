-- A path's printed text is read as the same path.
use Rattle.std.proofs.Common.{◌≡◌, ◌==◌, ◌&&◌, ◌||◌, ℕ, Bool, true, false, cond, List, [], ◌∷◌, ◌++◌, codes, flat_map, Some, None, refl, sym, ap, subst, ◌∙◌}
use Rattle.std.specs.Char.{is_ascii_digit}
use Rattle.std.specs.List.{list_all, onto_first}
use Rattle.std.proofs.lemmas.Bool.{eqb-true}
use Rattle.std.proofs.lemmas.List.{append_assoc, append-nil}
use Rattle.just_text.specs.Names.{joined_names}
use Rattle.modules_compilation.specs.Modulepaths.{is_continue, is_name, is_start, names, path_of_word, pieces}

both : (a b : Bool) → (a && b) ≡ true → (a ≡ true) × (b ≡ true)
both true true h = (refl, refl)
both true false h = absurd (let f : false ≡ true = h in cc)
both false b h = absurd (let f : false ≡ true = h in cc)

-- a colon stands in no name
no_colon : (byte : ℕ) (is : Bool) → (byte == 58) ≡ is → is_continue byte ≡ true → (byte == 58) ≡ false
no_colon byte false e h = e
no_colon byte true e h = absurd (let f : false ≡ true = subst (λ b. is_continue b ≡ true) (eqb-true byte 58 e) h in cc)

start_continues : (byte : ℕ) → is_start byte ≡ true → is_continue byte ≡ true
start_continues byte h = ap (λ s. (s || is_ascii_digit byte) || (byte == 45)) h

-- what stands before a colon that isn't there
uncut : (byte next : ℕ) (rest : List ℕ) → (byte == 58) ≡ false → pieces (byte ∷ next ∷ rest) ≡ onto_first byte (pieces (next ∷ rest))
uncut byte next rest e = ap (λ b. cond (b && (next == 58)) ([] ∷ pieces rest) (onto_first byte (pieces (next ∷ rest)))) e

-- one name is one piece
alone : (name : List ℕ) → list_all is_continue name ≡ true → pieces name ≡ name ∷ []
alone [] h = refl
alone (byte ∷ []) h = refl
alone (byte ∷ next ∷ name) h =
    let p = both (is_continue byte) (list_all is_continue (next ∷ name)) h in
    uncut byte next name (no_colon byte (byte == 58) refl p.0) ∙ ap (onto_first byte) (alone (next ∷ name) p.1)

-- a name before two colons is the first piece
before : (name rest : List ℕ) → list_all is_continue name ≡ true → pieces (name ++ codes "::" ++ rest) ≡ name ∷ pieces rest
before [] rest h = refl
before (byte ∷ []) rest h =
    let p = both (is_continue byte) true h in
    uncut byte 58 (58 ∷ rest) (no_colon byte (byte == 58) refl p.0)
before (byte ∷ next ∷ name) rest h =
    let p = both (is_continue byte) (list_all is_continue (next ∷ name)) h in
    uncut byte next (name ++ codes "::" ++ rest) (no_colon byte (byte == 58) refl p.0) ∙ ap (onto_first byte) (before (next ∷ name) rest p.1)

name_continues : (name : List ℕ) → is_name name ≡ true → list_all is_continue name ≡ true
name_continues [] h = absurd (let f : false ≡ true = h in cc)
name_continues (byte ∷ name) h =
    let p = both (is_start byte) (list_all is_continue name) h in
    ap (λ c. c && list_all is_continue name) (start_continues byte p.0) ∙ p.1

joins : (name other : List ℕ) (others : List (List ℕ)) → joined_names (name ∷ other ∷ others) ≡ name ++ codes "::" ++ joined_names (other ∷ others)
joins name other others = ap (λ l. name ++ l) (append_assoc (codes "::") other (flat_map (λ n. codes "::" ++ n) others)) ∙ sym (append_assoc name (codes "::") (joined_names (other ∷ others)))

more : (name : List ℕ) (others : List (List ℕ)) → list_all is_name (name ∷ others) ≡ true → pieces (joined_names (name ∷ others)) ≡ name ∷ others
more name [] h = let p = both (is_name name) true h in
    ap pieces (append-nil name) ∙ alone name (name_continues name p.0)
more name (other ∷ others) h = let p = both (is_name name) (list_all is_name (other ∷ others)) h in
    ap pieces (joins name other others) ∙ before name (joined_names (other ∷ others)) (name_continues name p.0) ∙ ap (λ ps. name ∷ ps) (more other others p.1)

pub read_back : (name : List ℕ) (others : List (List ℕ)) → list_all is_name (name ∷ others) ≡ true → path_of_word (joined_names (name ∷ others)) ≡ Some (name ∷ others)
unfolding path_of_word
read_back name others h = ap names (more name others h) ∙ ap (λ b. cond b (Some (name ∷ others)) None) h

some_same : {A : Type 0} (x y : A) → Some x ≡ Some y → x ≡ y
some_same x y h = cc

pub distinct : (name other : List ℕ) (ones others : List (List ℕ)) → list_all is_name (name ∷ ones) ≡ true → list_all is_name (other ∷ others) ≡ true
    → joined_names (name ∷ ones) ≡ joined_names (other ∷ others) → (name ∷ ones) ≡ (other ∷ others)
distinct name other ones others first second same =
    some_same (name ∷ ones) (other ∷ others) (sym (read_back name ones first) ∙ ap path_of_word same ∙ read_back other others second)
