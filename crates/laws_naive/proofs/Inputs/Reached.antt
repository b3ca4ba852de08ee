-- By the run that the other input has too.
use Rattle.std.proofs.Common.{map}
use Rattle.laws_naive.proofs.Naive.Ranks.{dependencies_fall}
use Rattle.just_meaning.proofs.Naively.{refused_exactly}
use Rattle.laws_naive.proofs.Naive.Worlds.{invoked_go_naively}
use Rattle.laws_naive.proofs.Reach.Worlds.{runs_are_of_reached}
use Rattle.laws_naive.specs.Inputs.Reached.{ReachedGoNaively, RefusalsAgree}

pub reached_go_naively : (Rule : Type 0) → ReachedGoNaively Rule
reached_go_naively Rule w w' o o' base working base' working' defined other clear clear' c words words' invocations invoke invoke' agree f old new t outcome run agrees =
    let too = runs_are_of_reached Rule w w' o o' base working base' working' defined other clear clear' c words words' invocations invoke invoke' agree old new _ t outcome run in
    invoked_go_naively dependencies_fall Rule w' o' clear'.none clear'.read clear'.order base' working' other clear'.are clear'.rows c words' invocations invoke' f old new t outcome too.run (too.agrees f agrees)

pub refusals_agree : (Rule : Type 0) → RefusalsAgree Rule
refusals_agree Rule w w' o o' base working base' working' defined other clear clear' c words words' invocations invoke invoke' agree f old new t outcome run agrees =
    let own = refused_exactly Rule f c defined (map _ invocations) old new outcome (invoked_go_naively dependencies_fall Rule w o clear.none clear.read clear.order base working defined clear.are clear.rows c words invocations invoke f old new t outcome run agrees) in
    let of_other = refused_exactly Rule f c other (map _ invocations) old new outcome (reached_go_naively Rule w w' o o' base working base' working' defined other clear clear' c words words' invocations invoke invoke' agree f old new t outcome run agrees) in
    (λ is. of_other.1 (own.0 is), λ is. own.1 (of_other.0 is))
