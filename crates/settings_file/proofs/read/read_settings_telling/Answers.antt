use Rattle.settings_file.proofs.LimitLemmas.{limits_kept}
use Rattle.settings_file.proofs.TomlFault.{no_toml_kept}
use Rattle.settings_file.proofs.read.read_settings_telling.Goals as goal

pub returns-clause-within_limits : goal.returns-clause-within_limits
returns-clause-within_limits c = limits_kept c.args.text.now c.read_text.result c.read_text.ensures

pub returns-clause-no_toml : goal.returns-clause-no_toml
returns-clause-no_toml c = no_toml_kept c.args.text.now c.read_text.result c.read_text.ensures
