-- The fronts and the texts of keys.
use Rattle.std.proofs.Common.{◌≡◌, ℕ, ◌<◌, Bool, true, false, cond, List, [], ◌∷◌, ◌++◌, take, drop, length, Some, refl, sym, ap, ◌∙◌, arith, append_assoc}
use Rattle.std.specs.Prelude.{codes}
use Rattle.std.specs.List.{flat_map, join_with_byte}
use Rattle.std.specs.Str.Pattern.{LacksTextAt}
use Rattle.std.specs.declared.option.Option.{Option}
use Rattle.std.proofs.lemmas.List.{take-append-drop, length-append}
use Rattle.std.proofs.lemmas.Slice.Eq.{bytes_eq-Decides}
use Rattle.std.specs.Option.{option_and_then, option_map}
use Rattle.modules_compilation.specs.Paths.{begins, front, behind_front, key_text, folder_text, stands_alone, parts_from, key_from, folder_from, walk, but_last, components}
use Rattle.modules_compilation.proofs.Walks.{walk-append}

by_test : {G : Type 0} (b : Bool) → (b ≡ true → G) → (b ≡ false → G) → G
by_test true holds fails = holds refl
by_test false holds fails = fails refl

begun : (text mark : List ℕ) → begins text mark ≡ true → text ≡ mark ++ drop (length mark) text
begun text mark e =
    let same : mark ≡ take (length mark) text = (bytes_eq-Decides mark (take (length mark) text)).0 e in
    sym (take-append-drop (length mark) text) ∙ ap (λ m. m ++ drop (length mark) text) (sym same)

begun_by : (text mark : List ℕ) (b : Bool) (other : List ℕ) → begins text mark ≡ b → (b ≡ false → text ≡ other ++ drop (length other) text)
    → text ≡ cond b mark other ++ drop (length (cond b mark other)) text
begun_by text mark true other e h = begun text mark e
begun_by text mark false other e h = h refl

-- a text is its front and what stands after it
front_leads : (text : List ℕ) → text ≡ front text ++ behind_front text
front_leads text = begun_by text (codes "/") (begins text (codes "/")) (cond (begins text (codes "~/")) (codes "~/") []) refl (λ _. begun_by text (codes "~/") (begins text (codes "~/")) [] refl (λ _. refl))

pub front_there : (text mark : List ℕ) → mark ≡ front text → LacksTextAt mark text 0 → ⊥
front_there text mark e lacks = lacks (behind_front text) (front_leads text ∙ ap (λ m. m ++ behind_front text) (sym e))

abbrev with_slash : List ℕ → List ℕ
with_slash part = part ++ codes "/"

one_more : (part : List ℕ) (parts : List (List ℕ)) (last : List ℕ) → join_with_byte 47 (part ∷ (parts ++ last ∷ [])) ≡ with_slash part ++ join_with_byte 47 (parts ++ last ∷ [])
one_more part [] last = sym (append_assoc part (codes "/") last)
one_more part (p ∷ ps) last = sym (append_assoc part (codes "/") (join_with_byte 47 (p ∷ (ps ++ last ∷ []))))

joined : (parts : List (List ℕ)) (last : List ℕ) → join_with_byte 47 (parts ++ last ∷ []) ≡ flat_map with_slash parts ++ last
joined [] last = refl
joined (part ∷ parts) last =
    one_more part parts last ∙ ap (λ more. with_slash part ++ more) (joined parts last) ∙ sym (append_assoc (with_slash part) (flat_map with_slash parts) last)

of_some : (before : List ℕ) (parts : List (List ℕ)) → 0 < length parts → key_text before parts ≡ Some (before ++ join_with_byte 47 parts)
of_some before [] some = absurd (omega (arith, some))
of_some before (part ∷ parts) some = refl

-- a key is the folder that it lies in, and its last part
pub key_is : (before : List ℕ) (parts : List (List ℕ)) (last : List ℕ) → key_text before (parts ++ last ∷ []) ≡ Some (folder_text before parts ++ last)
key_is before parts last =
    of_some before (parts ++ last ∷ []) (omega (arith, length-append parts (last ∷ [])))
    ∙ ap (λ text. Some (before ++ text)) (joined parts last) ∙ ap Some (sym (append_assoc before (flat_map with_slash parts) last))

pub key_alone : (file path : List ℕ) → stands_alone path ≡ true → key_from file path ≡ Some path
unfolding key_from
key_alone file path alone = ap (λ b. cond b (Some path) (option_and_then (key_text (front file)) (parts_from file path))) alone

pub key_led : (file path : List ℕ) (parts : Option (List (List ℕ))) → stands_alone path ≡ false → parts ≡ parts_from file path → key_from file path ≡ option_and_then (key_text (front file)) parts
unfolding key_from
key_led file path parts alone led = ap (λ b. cond b (Some path) (option_and_then (key_text (front file)) (parts_from file path))) alone ∙ ap (option_and_then (key_text (front file))) (sym led)

pub folder_alone : (file path : List ℕ) → stands_alone path ≡ true → folder_from file path ≡ Some (path ++ codes "/")
unfolding folder_from
folder_alone file path alone = ap (λ b. cond b (Some (path ++ codes "/")) (option_map (folder_text (front file)) (parts_from file path))) alone

pub folder_led : (file path : List ℕ) (parts : Option (List (List ℕ))) → stands_alone path ≡ false → parts ≡ parts_from file path → folder_from file path ≡ option_map (folder_text (front file)) parts
unfolding folder_from
folder_led file path parts alone led = ap (λ b. cond b (Some (path ++ codes "/")) (option_map (folder_text (front file)) (parts_from file path))) alone ∙ ap (option_map (folder_text (front file))) (sym led)

-- the parts of a path, from the folder of the file on
pub parts_led : (file path : List ℕ) (folder : Option (List (List ℕ))) → walk [] (but_last (components (behind_front file))) ≡ folder → parts_from file path ≡ option_and_then (λ parts. walk parts (components path)) folder
unfolding parts_from
parts_led file path folder led = walk-append [] (but_last (components (behind_front file))) (components path) ∙ ap (option_and_then (λ parts. walk parts (components path))) led
