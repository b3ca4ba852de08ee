use Rattle.std.proofs.Common.{◌≡◌, List, map, sym, ap, ◌∙◌, map-id}
use Rattle.just_text.specs.Tokens.{Word, word_of}
use Rattle.tree_expressions.specs.Shape.{Shape}
use Rattle.parse_expressions.proofs.Taken.{ok_is}
use Rattle.parse_expressions.proofs.Found.{found}
use Rattle.parse_expressions.proofs.Again.{again}
use Rattle.parse_expressions.proofs.Stable.{never, told}
use Rattle.parse_expressions.proofs.law.law.Goals as goal

pub returns-clause-exactly : goal.returns-clause-exactly
returns-clause-exactly c expansion levels k = record {
  found = λ ts rest e h. found word_of expansion levels k ts (e, rest) h;
  only = λ ts rest e h. let r = again word_of expansion levels k ts rest e h in (r.rest, r.is, r.others);
}

pub returns-clause-words : goal.returns-clause-words
returns-clause-words c expansion levels k = record {
  found = λ ts rest e h. found (λ (w : Word). w) expansion levels k ts (e, rest) h;
  only = λ ts rest e h. let r = again (λ (w : Word). w) expansion levels k ts rest e h in (r.rest, r.is, r.others);
}

-- words are read as they are
itself : Word → Word
itself w = w

map_itself : (words : List Word) → map itself words ≡ words
unfolding itself
map_itself words = map-id words

pub returns-clause-one : goal.returns-clause-one
returns-clause-one c expansion levels k words rest rest' e e' h h' =
    let r = again itself expansion levels k words rest e (rw map_itself h) in
    let r' = again itself expansion levels k words rest' e' (rw map_itself h') in
    let p = ok_is (e, r.rest) (e', r'.rest) (sym r.is ∙ r'.is) in
    let same : r.rest ≡ r'.rest = ap (λ (y : Shape × List Word). y.1) p in
    (ap (λ (y : Shape × List Word). y.0) p, sym r.others ∙ ap (map itself) same ∙ r'.others)

pub returns-clause-why : goal.returns-clause-why
returns-clause-why c expansion levels k = record {
  unexpected = λ ts rest e others place h d. never word_of expansion levels k ts rest e others place h d;
  too_deep = λ ts rest e others d deep. told word_of expansion levels k ts rest e others d deep;
}
