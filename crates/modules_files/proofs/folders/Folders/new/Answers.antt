-- All files were looked at.
use Rattle.std.proofs.Common.{◌≡◌, map, sym, ap, ◌∙◌, subst, rules, string_bytes}
use Rattle.std.specs.Map.Iter.{deref_pair}
use Rattle.std.proofs.lemmas.Map.Iter.{iter_end}
use Rattle.std.proofs.lemmas.Simd.{map-map}
use Rattle.modules_files.specs.Found.{AreGrouped}
use Rattle.modules_files.proofs.folders.Folders.new.Goals as goal

pub returns : goal.returns
returns c =
    let e : map deref_pair c.loop-key.yielded ≡ c.args.sources.now.entries = search (rules, iter_end) in
    subst (λ keys. AreGrouped keys c.loop-key.folders.justfiles) (sym (map-map (λ entry. string_bytes entry.0) deref_pair c.loop-key.yielded) ∙ ap (map (λ entry. string_bytes entry.0)) e) c.loop-key.invariant
