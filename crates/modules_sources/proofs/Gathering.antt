-- Submodules, one item after the other.
use Rattle.std.proofs.Common.{◌≡◌, ◌≢◌, sym, ◌∙◌, ap, subst, ◌<◌, ◌+◌, ◌++◌, ◌∷◌, [], ℕ, List, Option, Some, None, Result, Ok, Err, refl, arith, length, take, get_or}
use Rattle.std.specs.Prelude.{option_map}
use Rattle.std.proofs.lemmas.List.{append-nil, length-take-le, take_more}
use Rattle.std.proofs.lemmas.Option.{slice_get_read}
use Rattle.just_text.specs.Tokens.{lexeme}
use Rattle.just_text.specs.declared.os.Os.{Os}
use Rattle.tree_items.specs.declared.ast.Item.{Item}
use Rattle.modules_compilation.specs.declared.error.Error.{Error}
use Rattle.modules_compilation.specs.declared.error.Error.TheVariants.{OutOfMemory}
use Rattle.modules_compilation.specs.declared.source.Source.{Source}
use Rattle.modules_files.specs.Chosen.{File, Gives as GivesFile, IsChosen, UnlessMemory, module_answer, view}
use Rattle.modules_files.specs.declared.lines.ModuleLine.{ModuleLine}
use Rattle.modules_files.specs.declared.search.Files.{Files}
use Rattle.modules_sources.specs.Items.{ModuleParts, line_of_module, module_of}
use Rattle.modules_sources.specs.Submodules.{AreFound, Found, Gives, IsAnswer, IsRefused, found_at, found_more}

-- a refusal is the answer's, unless it is want of memory
pub refusal_given : (e : Error) (answer : Result (Option File) Error) → e ≢ OutOfMemory → GivesFile (Err e) answer → answer ≡ Err e
refusal_given OutOfMemory answer n g = absurd (n refl)
refusal_given e answer n g = sym g

module _ (files : Files) (os : Os) (key : List ℕ) where
  -- what was chosen for a submodule
  abbrev pub Chosen : ModuleLine → Result (Option Source) Error → Type 0
  Chosen line result = IsChosen files.sources.now files.folders.now.justfiles key (lexeme line.name.token) (option_map (λ path. path.now) line.path) line.name line.optional result

  pub chosen_answers : (line : ModuleLine) (source : Option Source) → Chosen line (Ok source) → IsAnswer files os key (line_of_module line) (Ok (option_map view source))
  chosen_answers line source h = record { keys = h.keys; are = h.are; is = h.gives }

  unless_memory : (e : Error) (Holds : Type 0) → e ≢ OutOfMemory → UnlessMemory (Err e) Holds → Holds
  unless_memory OutOfMemory Holds n h = absurd (n refl)
  unless_memory e Holds n h = h

  pub chosen_refuses : (line : ModuleLine) (e : Error) → e ≢ OutOfMemory → UnlessMemory (Err e) (Chosen line (Err e)) → IsAnswer files os key (line_of_module line) (Err e)
  chosen_refuses line e n h =
      let k : Chosen line (Err e) = unless_memory e (Chosen line (Err e)) n h in
      record { keys = k.keys; are = k.are; is = sym (refusal_given e (module_answer files.sources.now line.name line.optional k.keys) n k.gives) }

  -- an item adds what it gives
  abbrev pub Adds : Option ModuleParts → ℕ → List Found → List Found → Type 0
  Adds line place old new = (source : Option File) × Gives files os key line (Ok source) × (new ≡ old ++ found_at place line source)

  pub adds_nothing : (line : Option ModuleParts) (place : ℕ) (found : List Found) → None ≡ line → Adds line place found found
  adds_nothing line place found e = subst (λ l. Adds l place found found) e (None, refl, sym (append-nil found))

  pub adds_none : (line : Option ModuleParts) (parts : ModuleParts) (place : ℕ) (found : List Found) → Some parts ≡ line → IsAnswer files os key parts (Ok None) → Adds line place found found
  adds_none line parts place found e h = subst (λ l. Adds l place found found) e (None, h, sym (append-nil found))

  pub adds_one : (line : Option ModuleParts) (parts : ModuleParts) (place : ℕ) (old new : List Found) (file : File) → Some parts ≡ line → IsAnswer files os key parts (Ok (Some file))
      → new ≡ old ++ record { file = file; item = place; name = parts.0 } ∷ [] → Adds line place old new
  adds_one line parts place old new file e h is = subst (λ l. Adds l place old new) e (Some file, h, is)

  pub refuses : (line : Option ModuleParts) (parts : ModuleParts) (e : Error) → Some parts ≡ line → IsAnswer files os key parts (Err e) → Gives files os key line (Err e)
  refuses line parts e is h = subst (λ l. Gives files os key l (Err e)) is h

  -- one item more
  pub found_further : (items : List Item) (place : ℕ) (item : Item) (found after : List Found) → place < length items → item ≡ get_or items place item → AreFound files os key (take place items) found
      → Adds (module_of os item) place found after → AreFound files os key (take (place + 1) items) after
  found_further items place item found after lt is so adds =
      let long : length (take place items) ≡ place = length-take-le place items (omega (arith, lt)) in
      let whole : take (place + 1) items ≡ take place items ++ item ∷ [] = take_more items place item lt ∙ ap (λ x. take place items ++ x ∷ []) (sym is) in
      let more : AreFound files os key (take place items ++ item ∷ []) (found ++ found_at place (module_of os item) adds.0) =
      subst (λ n. AreFound files os key (take place items ++ item ∷ []) (found ++ found_at n (module_of os item) adds.0)) long (found_more item adds.0 so adds.1) in
      subst (λ is. AreFound files os key is after) (sym whole) (subst (AreFound files os key (take place items ++ item ∷ [])) (sym adds.2) more)

  pub refused_further : (items : List Item) (place : ℕ) (item : Item) (found : List Found) (e : Error) → place < length items → item ≡ get_or items place item → AreFound files os key (take place items) found
      → Gives files os key (module_of os item) (Err e) → IsRefused files os key items e
  refused_further items place item found e lt is so refused = record {
    place = place;
    item = item;
    there = slice_get_read items (length items) place item refl lt is;
    earlier = found;
    found = so;
    refused = refused;
  }
