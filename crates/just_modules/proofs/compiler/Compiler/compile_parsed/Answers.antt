-- What was loaded is settled.
use Rattle.std.proofs.Common.{◌≡◌, Bool, true, false}
use Rattle.std.proofs.lemmas.Bool.{false≢true}
use Rattle.just_text.specs.Numbers.{Numbers}
use Rattle.modules_compilation.specs.declared.compilation.Compilation.{Compilation}
use Rattle.modules_sources.specs.Loaded.{AreLoaded, IsRootRead, first_numbers}
use Rattle.just_modules.specs.Refused.{IsRefused}
use Rattle.just_modules.proofs.Refusing.{refused_by_either, refused_under}
use Rattle.just_modules.proofs.ByName.{all_by_name, fresh_of}
use Rattle.meaning_rules.specs.Rules.{Broken}
use Rattle.just_modules.proofs.Compiling.{files_told, has_world, meant, none_broken, refused_told, told_unless}
use Rattle.just_modules.proofs.Made.{made}
use Rattle.just_modules.proofs.Keeping.{filled_whole, kept_both, kept_gives, kept_says, ok_holds, refusal_gives}
use Rattle.just_modules.proofs.compiler.Compiler.compile_parsed.Goals as goal

pub returns-clause-filled : goal.returns-clause-filled
returns-clause-filled g c = kept_gives c.settled.result c.settled.ensures.filled (λ compilation h start is_read read.
    let sources = c.args.sources.now in
    let expansion = g.E.Expander.expansion c.args.expander.now in
    let version = c.args.config.now.version in
    let loaded = ok_holds (λ (loaded : Compilation). (start : Numbers) (is_read : Bool) → (is_read ≡ true → IsRootRead sources expansion version start c.args.root.now c.args.parsed) → AreLoaded sources expansion version c.args.config.now.os start is_read c.args.root.now loaded)
    c.load_modules-loaded.result h.0 h.1 c.load_modules-loaded.ensures.loaded in
    (h.0, loaded start is_read read, h.2))

pub returns-clause-by_name : goal.returns-clause-by_name
returns-clause-by_name g c = kept_gives c.settled.result c.settled.ensures.filled (λ compilation h.
    let sources = c.args.sources.now in
    let expansion = g.E.Expander.expansion c.args.expander.now in
    let version = c.args.config.now.version in
    let loaded = ok_holds (λ (loaded : Compilation). (start : Numbers) (is_read : Bool) → (is_read ≡ true → IsRootRead sources expansion version start c.args.root.now c.args.parsed) → AreLoaded sources expansion version c.args.config.now.os start is_read c.args.root.now loaded)
    c.load_modules-loaded.result h.0 h.1 c.load_modules-loaded.ensures.loaded in
    all_by_name c.args.config.now.os c.args.config.now.unstable h.0 compilation h.2
    (fresh_of sources expansion version c.args.config.now.os first_numbers false c.args.root.now h.0 (loaded first_numbers false (λ e. absurd (false≢true e)))))

pub returns-clause-whole : goal.returns-clause-whole
returns-clause-whole g c = kept_gives c.settled.result c.settled.ensures.filled (λ compilation h. filled_whole c.args.config.now.os c.args.config.now.unstable h.0 compilation h.2)

pub returns-clause-aliases : goal.returns-clause-aliases
returns-clause-aliases g c = kept_both c.settled.result (returns-clause-by_name g c) c.settled.ensures.aliases (λ compilation all lead. lead all)

pub returns-clause-refused : goal.returns-clause-refused
returns-clause-refused g c =
    let sources = c.args.sources.now in
    let expansion = g.E.Expander.expansion c.args.expander.now in
    let version = c.args.config.now.version in
    let os = c.args.config.now.os in
    let root = c.args.root.now in
    refused_under (λ start is_read. is_read ≡ true → IsRootRead sources expansion version start root c.args.parsed) (λ start is_read. IsRefused os c.args.config.now.unstable sources expansion version start is_read root) c.settled.result (λ start is_read read.
    refused_by_either sources expansion version os c.args.config.now.unstable start is_read root c.load_modules-loaded.result c.settled.result (kept_gives c.load_modules-loaded.result c.load_modules-loaded.ensures.loaded (λ loaded are. are start is_read read))
    (refusal_gives c.load_modules-loaded.result c.load_modules-loaded.ensures.refused (λ e refused n. refused n start is_read read)) c.settled.ensures.refused c.settled.ensures.unsettled)

pub returns-clause-made : goal.returns-clause-made
returns-clause-made g c = kept_gives c.settled.result c.settled.ensures.filled (λ compilation h start read w stands.
    let sources = c.args.sources.now in
    let expansion = g.E.Expander.expansion c.args.expander.now in
    let version = c.args.config.now.version in
    let os = c.args.config.now.os in
    let loaded = ok_holds (λ (loaded : Compilation). (start : Numbers) (is_read : Bool) → (is_read ≡ true → IsRootRead sources expansion version start c.args.root.now c.args.parsed) → AreLoaded sources expansion version os start is_read c.args.root.now loaded)
    c.load_modules-loaded.result h.0 h.1 c.load_modules-loaded.ensures.loaded in
    made sources expansion version os c.args.config.now.unstable start c.args.root.now h.0 compilation (loaded start true (λ e. read)) h.2 w stands)

pub returns-clause-meant : goal.returns-clause-meant
returns-clause-meant g c = kept_gives c.settled.result c.settled.ensures.filled (λ compilation h start after read w stands.
    let sources = c.args.sources.now in
    let expansion = g.E.Expander.expansion c.args.expander.now in
    let version = c.args.config.now.version in
    let os = c.args.config.now.os in
    let loaded = ok_holds (λ (loaded : Compilation). (start : Numbers) (is_read : Bool) → (is_read ≡ true → IsRootRead sources expansion version start c.args.root.now c.args.parsed) → AreLoaded sources expansion version os start is_read c.args.root.now loaded)
    c.load_modules-loaded.result h.0 h.1 c.load_modules-loaded.ensures.loaded in
    meant sources expansion version os c.args.config.now.unstable start c.args.root.now h.0 compilation (loaded start true (λ e. read)) h.2 w stands after)

pub returns-clause-there : goal.returns-clause-there
returns-clause-there g c = kept_says c.settled.result c.settled.ensures.filled (returns-clause-aliases g c) (λ compilation filled lead start read.
    let sources = c.args.sources.now in
    let expansion = g.E.Expander.expansion c.args.expander.now in
    let version = c.args.config.now.version in
    let os = c.args.config.now.os in
    let loaded = ok_holds (λ (loaded : Compilation). (start : Numbers) (is_read : Bool) → (is_read ≡ true → IsRootRead sources expansion version start c.args.root.now c.args.parsed) → AreLoaded sources expansion version os start is_read c.args.root.now loaded)
    c.load_modules-loaded.result filled.0 filled.1 c.load_modules-loaded.ensures.loaded in
    has_world sources expansion version os c.args.config.now.unstable start c.args.root.now c.file_law.ensures.texts c.file_law.ensures.faults filled.0 (loaded start true (λ e. read)))

pub returns-clause-clear : goal.returns-clause-clear
returns-clause-clear g c = kept_says c.settled.result c.settled.ensures.filled (returns-clause-aliases g c) (λ compilation filled lead start read w stands.
    let sources = c.args.sources.now in
    let expansion = g.E.Expander.expansion c.args.expander.now in
    let version = c.args.config.now.version in
    let os = c.args.config.now.os in
    let loaded = ok_holds (λ (loaded : Compilation). (start : Numbers) (is_read : Bool) → (is_read ≡ true → IsRootRead sources expansion version start c.args.root.now c.args.parsed) → AreLoaded sources expansion version os start is_read c.args.root.now loaded)
    c.load_modules-loaded.result filled.0 filled.1 c.load_modules-loaded.ensures.loaded in
    none_broken sources expansion version os c.args.config.now.unstable start c.args.root.now filled.0 compilation (loaded start true (λ e. read)) filled.2 w stands c.file_law.ensures.faults lead)

pub returns-clause-broken : goal.returns-clause-broken
returns-clause-broken g c = refusal_gives c.settled.result (returns-clause-refused g c) (λ e refused start read w stands o. told_unless (Broken w o) e (λ n.
    refused_told c.args.sources.now (g.E.Expander.expansion c.args.expander.now) c.args.config.now.version c.args.config.now.os c.args.config.now.unstable start c.args.root.now w stands o e (refused n start true (λ is. read))))

pub returns-clause-told : goal.returns-clause-told
returns-clause-told g c = kept_gives c.settled.result c.settled.ensures.filled (λ compilation h start read.
    let sources = c.args.sources.now in
    let expansion = g.E.Expander.expansion c.args.expander.now in
    let version = c.args.config.now.version in
    let os = c.args.config.now.os in
    let loaded = ok_holds (λ (loaded : Compilation). (start : Numbers) (is_read : Bool) → (is_read ≡ true → IsRootRead sources expansion version start c.args.root.now c.args.parsed) → AreLoaded sources expansion version os start is_read c.args.root.now loaded)
    c.load_modules-loaded.result h.0 h.1 c.load_modules-loaded.ensures.loaded in
    files_told sources expansion version os c.args.config.now.unstable start c.args.root.now h.0 compilation (loaded start true (λ e. read)) h.2)
