-- The root's text is that of its key.
use Rattle.std.proofs.Common.{sym, ap, ◌∙◌, inl, inr, refl}
use Rattle.std.specs.Prelude.{option_map}
use Rattle.modules_sources.proofs.Ordering.{root_found}
use Rattle.modules_sources.proofs.load.root_source.Goals as goal

pub returns-in-Some-clause-found : goal.returns-in-Some-clause-found
returns-in-Some-clause-found c = root_found c.args.sources.now c.args.root.now c.in-Some.source (ap (option_map (λ source. (source.key.now, source.text.now))) (sym c.in-Some.is) ∙ c.file_at.ensures)

pub returns-then-not-is_clean-clause-missing : goal.returns-then-not-is_clean-clause-missing
returns-then-not-is_clean-clause-missing c = record { missing = inl (sym c.is_clean.ensures ∙ c.if-not-is_clean.true); told = refl }

pub returns-in-None-clause-missing : goal.returns-in-None-clause-missing
returns-in-None-clause-missing c = record { missing = inr (sym (ap (option_map (λ source. (source.key.now, source.text.now))) (sym c.in-None.is) ∙ c.file_at.ensures)); told = refl }

pub returns-in-Some-clause-clean : goal.returns-in-Some-clause-clean
returns-in-Some-clause-clean c = sym c.is_clean.ensures ∙ c.if-not-is_clean.false
