-- The text of a line that begins `#!` begins so too.
use Rattle.std.proofs.Common.{◌≡◌, ℕ, ◌==◌, Bool, true, false, ◌&&◌, List, [], ◌∷◌, ◌++◌, map, Option, Ok, codes, refl, ap, ◌∙◌}
use Rattle.std.proofs.lemmas.Bool.{eqb-true}
use Rattle.just_host.specs.declared.entry.Entry.{Entry}
use Rattle.tree_items.specs.Lines.{Piece, text, interpolation, is_shebang}
use Rattle.tree_expressions.specs.Cutting.{begins}
use Rattle.tree_expressions.specs.Parts.{halved}
use Rattle.parse_expressions.specs.Literals.{Expansion}
use Rattle.meaning_dialogues.specs.Written.{numbered}
use Rattle.meaning_dialogues.specs.Dialogue.{Dialogue, Ends, Evaluates, Reading, ◌>>=◌}
use Rattle.meaning_dialogues.specs.Evaluation.{Stage}
use Rattle.meaning_evaluation.specs.Stages.Lines.{line_dialogue}
use Rattle.meaning_evaluation.specs.Stages.Parameters.{Bound}
use Rattle.meaning_evaluation.specs.Named.{RecipeRow}
use Rattle.meaning_evaluation.specs.Scopes.{Configuration, Scene, piece_in, parameter_names, body_stage, frame_of}
use Rattle.meaning_evaluation.specs.Bodies.{first_of, has_shebang, line_text, script_texts}
use Rattle.meaning_evaluation.specs.Groups.{each}
use Rattle.laws_evaluation.specs.Bodies.Marked.{BeginsAs, BeginsShebang, Gives}
use Rattle.laws_evaluation.proofs.Bodies.Marks.{both, kept_at}
use Rattle.laws_evaluation.proofs.Bodies.Texts.{Grows, line_grows, gives_any, gives_then, gives_weaker, goes_gives, gives_under}

halved_shebang : (t : List ℕ) → begins t (codes "#!") ≡ true → BeginsShebang (halved t)
halved_shebang [] e = absurd (cc e)
halved_shebang (a ∷ []) e = let f : false ≡ true = (both (35 == a) false e).1 in absurd (cc f)
halved_shebang (a ∷ b ∷ bs) e =
    let f = both (35 == a) ((33 == b) && true) e in
    let one : 35 ≡ a = eqb-true 35 a f.0 in
    let two : 33 ≡ b = eqb-true 33 b (both (33 == b) true f.1).0 in
    record { rest = halved bs; is = rw (← one, ← two) (kept_at 35 (33 ∷ bs) refl ∙ ap (λ l. 35 ∷ l) (kept_at 33 bs refl)) }

shebang_longer : (first all : List ℕ) → BeginsShebang first → (more : List ℕ) × (all ≡ first ++ more) → BeginsShebang all
shebang_longer first all h g = record { rest = h.rest ++ g.0; is = g.1 ∙ ap (λ l. l ++ g.0) h.is }

module _ (expansion : Expansion) (file : List ℕ) (numbers : List ℕ → Option ℕ) (stage : Stage) where
  line_shebang : (line : List Piece) → is_shebang (first_of line) ≡ true → Gives BeginsShebang (line_dialogue stage false [] (map (piece_in expansion file numbers) line))
  line_shebang [] e = absurd (cc e)
  line_shebang (text t ∷ parts) e =
      gives_weaker (Grows (halved t)) BeginsShebang (line_dialogue stage false (halved t) (map (piece_in expansion file numbers) parts)) (λ all g. shebang_longer (halved t) all (halved_shebang t e) g) (line_grows stage false (halved t) (map (piece_in expansion file numbers) parts))
  line_shebang (interpolation i ∷ parts) e = absurd (cc e)

-- the text of a line that begins `#!` begins so too
pub first_shebang : (c : Configuration) (scene : Scene) (name : List ℕ) (recipe : RecipeRow) (flag : Bool) (bound : Bound) (reading : Reading) (line : List Piece) (old new : List Entry) (all : List ℕ)
    → is_shebang (first_of line) ≡ true → Evaluates reading (line_text c scene name recipe flag bound false line) old new (Ok all) → BeginsShebang all
first_shebang c scene name recipe flag bound reading line old new all e h =
    goes_gives reading BeginsShebang (line_text c scene name recipe flag bound false line) old new all
    (gives_under BeginsShebang (frame_of c scene name recipe flag bound) (line_dialogue (body_stage c scene name recipe flag bound) false [] (map (piece_in c.expansion recipe.file (numbered (parameter_names recipe))) line))
    (line_shebang c.expansion recipe.file (numbered (parameter_names recipe)) (body_stage c scene name recipe flag bound) line e))
    (h.goes (λ q. cc))

module _ (c : Configuration) (scene : Scene) (name : List ℕ) (recipe : RecipeRow) (flag : Bool) (bound : Bound) where
  abbrev Text : List Piece → Dialogue (List ℕ)
  Text = line_text c scene name recipe flag bound false

  text_shebang : (line : List Piece) → is_shebang (first_of line) ≡ true → Gives BeginsShebang (Text line)
  text_shebang line e =
      gives_under BeginsShebang (frame_of c scene name recipe flag bound) (line_dialogue (body_stage c scene name recipe flag bound) false [] (map (piece_in c.expansion recipe.file (numbered (parameter_names recipe))) line))
      (line_shebang c.expansion recipe.file (numbered (parameter_names recipe)) (body_stage c scene name recipe flag bound) line e)

  after_first : (b : Bool) (d : Dialogue (List ℕ)) (ds : List (Dialogue (List ℕ))) → (b ≡ true → Gives BeginsShebang d) → Gives (BeginsAs b) (each (d ∷ ds))
  after_first true d ds h =
      gives_then BeginsShebang (BeginsAs true) d (λ text. each ds >>= λ texts. Ends (Ok (text ∷ texts))) (h refl)
      (λ text begins. gives_then (λ texts. Unit {0}) (BeginsAs true) (each ds) (λ texts. Ends (Ok (text ∷ texts))) (gives_any (each ds)) (λ texts u. begins))
  after_first false d ds h = gives_weaker (λ texts. Unit {0}) (BeginsAs false) (each (d ∷ ds)) (λ texts u. tt) (gives_any (each (d ∷ ds)))

  all_shebang : (lines : List (List Piece)) → Gives (BeginsAs (has_shebang c scene name recipe flag bound lines)) (each (map Text lines))
  all_shebang [] = tt
  all_shebang (line ∷ lines) = after_first (is_shebang (first_of line)) (Text line) (map Text lines) (text_shebang line)

  -- where a body begins `#!`, so does the first of its texts
  pub texts_shebang : (reading : Reading) (old new : List Entry) (texts : List (List ℕ)) → Evaluates reading (script_texts c scene name recipe flag bound) old new (Ok texts) → BeginsAs (has_shebang c scene name recipe flag bound recipe.body) texts
  texts_shebang reading old new texts h = goes_gives reading (BeginsAs (has_shebang c scene name recipe flag bound recipe.body)) (script_texts c scene name recipe flag bound) old new texts (all_shebang recipe.body) (h.goes (λ q. cc))
