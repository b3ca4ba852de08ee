-- Modules below a path.
use Rattle.std.proofs.Common.{sym, subst, [], ◌∷◌, ◌++◌, append_assoc}
use Rattle.std.proofs.lemmas.List.{append-nil}
use Rattle.meaning_rules.specs.Worlds.Modules.{IsModule, inside}
use Rattle.meaning_rules.specs.Depending.{here, into}
use Rattle.meaning_rules.specs.Laws.{DependenciesStandBelow, ModulesStandBelow}

pub modules_stand_below : ModulesStandBelow
modules_stand_below w path names own key m here = subst (λ p. IsModule w p own) (sym (append-nil path)) m
modules_stand_below w path names own key m (into {file = file} {name = name} {inner = inner} {names = more} f s l) =
    subst (λ p. IsModule w p key) (append_assoc path (name ∷ []) more) (modules_stand_below w (path ++ name ∷ []) more inner key (inside m f s) l)

pub dependencies_stand_below : DependenciesStandBelow
dependencies_stand_below w path path' name name' d =
    subst (λ p. IsModule w p d.leads.inner) (sym d.below) (modules_stand_below w path d.modules d.own d.leads.inner d.is d.leads.names.leads)
