-- What a recipe's parameters and `env` attributes leave: the frame, the words and the pairs.
use Rattle.std.specs.Prelude.{◌≡◌, ℕ, ◌++◌, List, [], ◌∷◌, map, filter_map, Option, Some, None, Ok, Bool, false, if◌then◌else◌}
use Rattle.just_host.specs.declared.entry.Entry.{Entry}
use Rattle.just_host.specs.declared.job.Pair.{Pair}
use Rattle.tree_attributes.specs.declared.attribute.Attribute.{Attribute}
use Rattle.tree_attributes.specs.declared.attribute.Attribute.TheVariants.{Env}
use Rattle.tree_attributes.specs.declared.attribute_item.AttributeItem.{AttributeItem}
use Rattle.just_value.specs.Frames.{BoundRow, Frames}
use Rattle.evaluate_context.specs.Surroundings.{by_name}
use Rattle.meaning_dialogues.specs.Faults.{env_key}
use Rattle.meaning_dialogues.specs.Dialogue.{Dialogue, Ends, ◌>>=◌, Evaluates, Reading}
use Rattle.meaning_dialogues.specs.Terms.{Term, term_of}
use Rattle.meaning_dialogues.specs.Evaluation.{Value, Stage, dialogue, text_dialogue}
use Rattle.meaning_dialogues.specs.Calls.{Frame, HasValues, empty, with_parameters, reading_in_frames}
use Rattle.meaning_evaluation.specs.Stages.Parameters.{Formal, Bound, bound_value, pair_of, positional_words}

-- what variables give in a run: in the frames where an expression stands, and in those of the module
abbrev pub run_reading : Frames → Frames → Reading
run_reading here there = reading_in_frames (λ number. false) here there

-- the key and the value of an `env` attribute
abbrev pub env_term : Attribute → Option (Term × Term)
env_term (Env key value) = Some (term_of key, term_of value.value)
env_term other = None

-- the keys and the values of `env` attributes, in order
abbrev pub env_terms : List AttributeItem → List (Term × Term)
env_terms items = filter_map (λ item. env_term item.attribute) items

-- the pair of a key and a value, but none where the value has no element
abbrev pub pair_dialogue : Stage → Term → Term → Dialogue (List Pair)
pair_dialogue stage key value = do
  name ← text_dialogue env_key (dialogue stage key)
  given ← dialogue stage value
  Ends (Ok (pair_of name given))

-- the pair of an `env` attribute, and none of another attribute
abbrev pub attribute_dialogue : Stage → Option (Term × Term) → Dialogue (List Pair)
attribute_dialogue stage (Some (key, value)) = pair_dialogue stage key value
attribute_dialogue stage None = Ends (Ok [])

-- the frame of parameters with their values, in order
abbrev pub frame_after : Bool → List Formal → List Value → Frame
frame_after lists formals values = with_parameters empty (map (λ formal. formal.number) formals) (map (bound_value lists) values)

-- the words that parameters give with their values, in order
abbrev pub words_for : List Formal → List Value → List (List ℕ)
words_for [] values = []
words_for (formal ∷ formals) [] = []
words_for (formal ∷ formals) (value ∷ values) = positional_words formal value ++ words_for formals values

-- the words of the parameters, where they are passed to commands
abbrev pub words_passed : Bool → List Formal → List Value → List (List ℕ)
words_passed passes formals values = if passes then words_for formals values else []

-- the values of parameters are in the innermost frame, and their words are these
pub record HasParameters (passes lists : Bool) (formals : List Formal) (values : List Value) (own : List BoundRow) (words : List (List ℕ)) : Type 0 where
  pub has : HasValues own (frame_after lists formals values)
  pub passed : words ≡ words_passed passes formals values

-- an evaluation by a dialogue gives the values of parameters, which are in the innermost frame and in the words
pub record GivesParameters (reading : Reading) (values_of : Dialogue (List Value)) (old new : List Entry) (passes lists : Bool) (formals : List Formal) (own : List BoundRow) (words : List (List ℕ)) : Type 0 where
  pub values : List Value
  pub evaluates : Evaluates reading values_of old new (Ok values)
  pub is : HasParameters passes lists formals values own words

-- what a recipe is bound to is in the innermost frame, in the words and in the pairs
pub record IsBound (passes lists : Bool) (formals : List Formal) (bound : Bound) (own : List BoundRow) (words : List (List ℕ)) (pairs : List Pair) : Type 0 where
  pub env : bound.env ≡ by_name pairs
  pub parameters : HasParameters passes lists formals bound.values own words

-- an evaluation by a dialogue gives what a recipe is bound to, which is in the innermost frame, in the words and in the pairs
pub record GivesBound (reading : Reading) (bound_of : Dialogue Bound) (old new : List Entry) (passes lists : Bool) (formals : List Formal) (own : List BoundRow) (words : List (List ℕ)) (pairs : List Pair) : Type 0 where
  pub bound : Bound
  pub evaluates : Evaluates reading bound_of old new (Ok bound)
  pub is : IsBound passes lists formals bound own words pairs
