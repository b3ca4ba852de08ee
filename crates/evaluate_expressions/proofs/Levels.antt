-- The terms of expressions by their kinds, and the reading of a variable.
use Rattle.std.proofs.Common.{◌≡◌, ◌≢◌, ℕ, List, Option, Result, Ok, Err, refl, rules, MatchResult}
use Rattle.std.specs.Result.{result_map_both}
use Rattle.std.specs.Global.{Box}
use Rattle.just_text.specs.Tokens.{lexeme}
use Rattle.just_text.specs.declared.name.Name.{Name}
use Rattle.just_text.specs.declared.token.Token.{Token}
use Rattle.just_host.specs.declared.entry.Entry.{Entry}
use Rattle.just_value.specs.Values.{joined}
use Rattle.tree_expressions.specs.Shape.{written}
use Rattle.tree_expressions.specs.declared.string_literal.StringLiteral.{StringLiteral as StringOf}
use Rattle.tree_expressions.specs.declared.operator.ListOperator.TheVariants.{Concatenate}
use Rattle.tree_expressions.specs.declared.expression.Expression.{Expression, And, Backtick, Concatenation, Group, ListConcatenation, Not, Or, StringLiteral, Variable, the_lemmas}
use Rattle.meaning_dialogues.specs.Faults.{Fault, memory}
use Rattle.meaning_dialogues.specs.Dialogue.{Ends, Reads, Evaluates, Reading, around}
use Rattle.meaning_dialogues.specs.Evaluation.{Value}
use Rattle.meaning_dialogues.proofs.Dialogues.{begins_here}
use Rattle.meaning_dialogues.specs.Terms.{term_of, literal, command, variable, both, either, negation, paired, appended, group}

pub and_term : (l r : Box Expression) → term_of (And l r) ≡ both (term_of l.value) (term_of r.value)
and_term l r = search (rules, the_lemmas)

pub backtick_term : (contents : List ℕ) (token : Token) → term_of (Backtick contents token) ≡ command contents (lexeme token)
backtick_term contents token = search (rules, the_lemmas)

pub concatenation_term : (l : Box Expression) (token : Token) (r : Box Expression) → term_of (Concatenation l token r) ≡ paired Concatenate (term_of l.value) (term_of r.value)
concatenation_term l token r = search (rules, the_lemmas)

pub group_term : (e : Box Expression) → term_of (Group e) ≡ group (term_of e.value)
group_term e = search (rules, the_lemmas)

pub list_concatenation_term : (l : Box Expression) (token : Token) (r : Box Expression) → term_of (ListConcatenation l token r) ≡ appended (term_of l.value) (term_of r.value)
list_concatenation_term l token r = search (rules, the_lemmas)

pub not_term : (e : Box Expression) → term_of (Not e) ≡ negation (term_of e.value)
not_term e = search (rules, the_lemmas)

pub or_term : (l r : Box Expression) → term_of (Or l r) ≡ either (term_of l.value) (term_of r.value)
or_term l r = search (rules, the_lemmas)

pub literal_term : (s : StringOf) → term_of (StringLiteral s) ≡ literal s.cooked (written s)
literal_term s = search (rules, the_lemmas)

pub variable_term : (name : Name) (number : Option ℕ) → term_of (Variable name number) ≡ variable (lexeme name.token) number
variable_term name number = search (rules, the_lemmas)

read_goes : (old : List Entry) (seen r : Result Value Fault) → r ≡ seen → MatchResult seen (λ value. (old ≡ old) × (r ≡ Ok value)) (λ fault. (old ≡ old) × (r ≡ Err fault))
read_goes old (Ok value) r e = (refl, e)
read_goes old (Err fault) r e = (refl, e)

-- a variable that is read
pub reads : {reading : Reading} {old : List Entry} {r : Result Value Fault} (name : List ℕ) (number : Option ℕ) → (r ≢ Err memory → r ≡ reading around (record { name = name; number = number })) → Evaluates reading (Reads around (record { name = name; number = number }) (λ value. Ends (Ok value))) old old r
reads {reading = reading} {old = old} {r = r} name number e = record {
  goes = λ n. read_goes old (reading around (record { name = name; number = number })) r (e n);
  begins = begins_here reading (Reads around (record { name = name; number = number }) (λ value. Ends (Ok value))) old;
}

joined_goes : (old : List Entry) (seen : Result Value Fault) (r : Result (List ℕ) Fault) → r ≡ result_map_both joined (λ fault. fault) seen → MatchResult seen (λ value. (old ≡ old) × (r ≡ Ok (joined value))) (λ fault. (old ≡ old) × (r ≡ Err fault))
joined_goes old (Ok value) r e = (refl, e)
joined_goes old (Err fault) r e = (refl, e)

-- a variable whose value is joined
pub reads_joined : {reading : Reading} {old : List Entry} {r : Result (List ℕ) Fault} (name : List ℕ) (number : Option ℕ) → (r ≢ Err memory → r ≡ result_map_both joined (λ fault. fault) (reading around (record { name = name; number = number })))
    → Evaluates reading (Reads around (record { name = name; number = number }) (λ value. Ends (Ok (joined value)))) old old r
reads_joined {reading = reading} {old = old} {r = r} name number e = record {
  goes = λ n. joined_goes old (reading around (record { name = name; number = number })) r (e n);
  begins = begins_here reading (Reads around (record { name = name; number = number }) (λ value. Ends (Ok (joined value)))) old;
}
