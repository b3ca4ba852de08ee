-- Rows of expressions as lists.
use Rattle.std.proofs.Common.{◌≡◌, suc, List, [], ◌∷◌, length, map, Result, Ok, Err, Some, refl, ap}
use Rattle.std.specs.Global.{Vec}
use Rattle.just_text.specs.Tokens.{word_of}
use Rattle.just_text.specs.declared.token.Token.{Token}
use Rattle.just_text.specs.declared.token_kind.TokenKind.TheVariants.{BracketR, Comma}
use Rattle.tree_expressions.specs.declared.expression.Expression.{Expression}
use Rattle.tree_expressions.specs.Shape.{Shape, Shapes, shape_of, shapes_of, shapes_from}
use Rattle.parse_expressions.specs.declared.fault.Fault.{Fault}
use Rattle.parse_expressions.specs.declared.fault.Fault.TheVariants as faults
use Rattle.parse_expressions.specs.Literals.{Expansion}
use Rattle.parse_expressions.specs.Reading.{◌>>=◌, Read, Gives, accept, elements_at, expression_at}
use Rattle.parse_items.specs.SettingReading.{shapes_in, arguments_at}

pub same_shapes : (es : List Shape) → shapes_in (shapes_from es) ≡ es
same_shapes [] = refl
same_shapes (e ∷ es) = ap (λ (fs : List Shape). e ∷ fs) (same_shapes es)

-- what gives the row gives the list
pub gives_list : (read : Result (Vec Expression) Fault) (rest : List Token) (row : Read Token Shapes) →
    Gives {Y = Shapes × List Token} (λ es. (shapes_of es.items, rest)) read row → Gives {Y = List Shape × List Token} (λ es. (map shape_of es.items, rest)) read (row >>= λ es. Ok (shapes_in es.0, es.1))
gives_list (Ok es) rest row h = rw h (ap (λ (fs : List Shape). Ok (fs, rest)) (same_shapes (map shape_of es.items)))
gives_list (Err faults.OutOfMemory) rest row h = tt
gives_list (Err faults.NumbersUsed) rest row h = absurd h
gives_list (Err (faults.Unexpected found)) rest row h = rw h refl
gives_list (Err (faults.Refused token kind)) rest row h = rw h refl

-- after a comma the row stands
pub behind_comma : (x : Expansion) (ts : List Token) (t : Token) (rest after : List Token) (read : Result (Vec Expression) Fault) → accept word_of Comma ts ≡ Some (t, rest) →
    Gives {Y = Shapes × List Token} (λ es. (shapes_of es.items, after)) read (elements_at word_of x (expression_at word_of x 256) (suc (length rest)) BracketR rest) → Gives {Y = List Shape × List Token} (λ es. (map shape_of es.items, after)) read (arguments_at word_of x ts)
unfolding arguments_at
behind_comma x ts t rest after read comma h = rw comma (gives_list read after _ h)
