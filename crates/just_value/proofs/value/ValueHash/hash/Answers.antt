use Rattle.std.proofs.Common.{◌≡◌, ◌++◌, ◌∙◌, List, ap, map, sym}
use Rattle.std.proofs.lemmas.List.Folds.{flat_map-map}
use Rattle.std.proofs.lemmas.List.{length-map}
use Rattle.std.specs.Hash.{fed_along, slice, str, usize}
use Rattle.std.specs.declared.string.String.{String}
use Rattle.std.specs.String.{string_bytes}
use Rattle.just_value.proofs.value.ValueHash.hash.Goals as goal

-- texts are fed as their bytes are
as_bytes : {A : Type 0} (texts : List (String A)) → slice (λ text. str (string_bytes text)) texts ≡ slice str (map string_bytes texts)
as_bytes texts = λ i. usize (sym (length-map texts string_bytes) i) ++ sym (flat_map-map str string_bytes texts) i

pub returns : goal.returns
returns g c = fed_along g.H.Hasher.write c.args.state.now c.hash.new.state (as_bytes c.self.inside.elements.items ∙ ap (slice str) c.self.view_is) c.hash.ensures
