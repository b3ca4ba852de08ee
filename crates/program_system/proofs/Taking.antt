-- How a text is read, character by character.
use Rattle.std.proofs.Common.{◌≡◌, ◌≢◌, ℕ, List, [], ◌∷◌, ◌++◌, refl, sym, ap, subst, ◌∙◌}
use Rattle.std.specs.Prelude.{Result, Ok, Err, Some, None}
use Rattle.std.specs.Char.{encode_utf8}
use Rattle.std.specs.Str.{IsUtf8, chars}
use Rattle.std.proofs.lemmas.Bool.{ne_eqb}
use Rattle.std.proofs.lemmas.Str.{chars_past_char, chars-nil}
use Rattle.just_text.specs.declared.expander.ExpandFault.{ExpandFault}
use Rattle.just_text.specs.declared.expander.ExpandFault.TheVariants.{Refused, OutOfMemory}
use Rattle.just_text.specs.Expansion.{IsExpansion}
use Rattle.program_system.specs.declared.expansion.environment.Environment.{Environment}
use Rattle.program_system.specs.Expanded.{Read, LeadsTo, begun, taken, finished, read, value, home, behind_home, expansion}

-- a character that is taken
pub steps : (e : Environment) (r next : Read) (bs rest : List ℕ) (c : ℕ) → IsUtf8 bs → bs ≡ encode_utf8 c ++ rest → taken e r c ≡ Ok next → read e r (chars bs) ≡ read e next (chars rest)
unfolding read
steps e r next bs rest c u s t = rw (chars_past_char bs rest c u s) (rw t refl)

-- a character that is refused
stops : (e : Environment) (r : Read) (bs rest text : List ℕ) (c : ℕ) → IsUtf8 bs → bs ≡ encode_utf8 c ++ rest → taken e r c ≡ Err text → read e r (chars bs) ≡ Err text
unfolding read
stops e r bs rest text c u s t = rw (chars_past_char bs rest c u s) (rw t refl)

pub refuses : (e : Environment) (r next : Read) (bs rest : List ℕ) (c : ℕ) (fault : ExpandFault) (total : Result (List ℕ) (List ℕ))
    → IsUtf8 bs → bs ≡ encode_utf8 c ++ rest → LeadsTo {A = Unit {0}} (taken e r c) (Err fault) next → read e r (chars bs) ≡ total → IsExpansion total (Err fault)
refuses e r next bs rest c (Refused text) total u s t so_far = sym so_far ∙ stops e r bs rest text c u s t
refuses e r next bs rest c OutOfMemory total u s t so_far = tt

-- the end of the text
at_end : (e : Environment) (r : Read) → read e r (chars []) ≡ finished e r
unfolding read
at_end e r = rw chars-nil refl

pub ends : (e : Environment) (r : Read) (rest : List ℕ) (total : Result (List ℕ) (List ℕ)) (result : Result (List ℕ) ExpandFault)
    → rest ≡ [] → read e r (chars rest) ≡ total → IsExpansion (finished e r) result → IsExpansion total result
ends e r rest total result nil so_far answer =
    let whole : finished e r ≡ total = sym (at_end e r) ∙ (ap (λ l. read e r (chars l)) (sym nil) ∙ so_far) in
    subst (λ given. IsExpansion given result) whole answer

without_tilde : (e : Environment) (text : List ℕ) → ((rest : List ℕ) → text ≢ 126 ∷ rest) → expansion e text ≡ read e (begun []) (chars text)
unfolding expansion
without_tilde e [] h = refl
without_tilde e (b ∷ bs) h = rw (ne_eqb b 126 (λ same. h bs (ap (λ x. x ∷ bs) same))) refl

with_tilde : (e : Environment) (text rest : List ℕ) → text ≡ 126 ∷ rest → expansion e text ≡ behind_home e (value e home) rest
unfolding expansion
with_tilde e text rest s = rw s refl

-- a text that no tilde begins
pub plainly : (e : Environment) (text before : List ℕ) (result : Result (List ℕ) ExpandFault) → before ≡ [] → ((rest : List ℕ) → text ≢ 126 ∷ rest) → IsExpansion (read e (begun before) (chars text)) result → IsExpansion (expansion e text) result
plainly e text before result nil h answer =
    let whole : read e (begun before) (chars text) ≡ expansion e text = ap (λ b. read e (begun b) (chars text)) nil ∙ sym (without_tilde e text h) in
    subst (λ given. IsExpansion given result) whole answer

-- a text after a tilde, where there is a folder
pub behind_folder : (e : Environment) (text rest before folder : List ℕ) (result : Result (List ℕ) ExpandFault) → text ≡ 126 ∷ rest → Some folder ≡ value e home → before ≡ folder → IsExpansion (read e (begun before) (chars rest)) result → IsExpansion (expansion e text) result
behind_folder e text rest before folder result s found same answer =
    let whole : read e (begun before) (chars rest) ≡ expansion e text = ap (λ b. read e (begun b) (chars rest)) same ∙ (ap (λ o. behind_home e o rest) found ∙ sym (with_tilde e text rest s)) in
    subst (λ given. IsExpansion given result) whole answer

-- a text after a tilde, where there is none
pub without_folder : (e : Environment) (text rest name : List ℕ) → text ≡ 126 ∷ rest → None ≡ value e home → name ≡ home → expansion e text ≡ Err name
without_folder e text rest name s unset same = with_tilde e text rest s ∙ (ap (λ o. behind_home e o rest) (sym unset) ∙ ap Err (sym same))
