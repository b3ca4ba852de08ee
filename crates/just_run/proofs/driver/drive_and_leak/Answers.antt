use Rattle.just_run.proofs.Formatted.{formatted_drives}
use Rattle.just_run.proofs.driver.drive_and_leak.Goals as goal

pub returns-clause-drives : goal.returns-clause-drives
returns-clause-drives g c = record {
  early = c.drive_words.ensures.early;
  sources = c.drive_words.ensures.sources;
  silent = c.drive_words.ensures.silent;
  kept = c.drive_words.ensures.kept;
  unfailed = c.drive_words.ensures.unfailed;
  planned = c.drive_words.ensures.planned;
  asked = c.drive_words.ensures.asked;
}

pub returns-clause-formatted : goal.returns-clause-formatted
returns-clause-formatted g c = λ other formats.
    formatted_drives c.file_law.ensures.texts c.file_law.ensures.faults c.formatted_texts_say_the_same.ensures.prints (g.E.Expander.expansion c.args.expander.now) c.args.sources.now other c.args.roots.now c.args.words.now c.args.config.now formats g.H.Host.goes c.args.action _ c.drive_words.result _ (returns-clause-drives g c)
