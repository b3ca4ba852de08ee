-- What holds where a module sets nothing.
use Rattle.std.specs.Prelude.{false, [], None}
use Rattle.evaluate_context.specs.declared.settings.Settings.{Settings}

-- all are false, empty or none
abbrev pub defaults : Settings
defaults = record {
  allow_duplicate_recipes = false;
  allow_duplicate_variables = false;
  default_list = false;
  default_script = false;
  dotenv_command = [];
  dotenv_filename = [];
  dotenv_load = false;
  dotenv_override = false;
  dotenv_path = [];
  dotenv_required = false;
  export = false;
  fallback = false;
  guards = false;
  ignore_comments = false;
  indentation = None;
  lazy = false;
  lists = false;
  no_cd = false;
  no_exit_message = false;
  positional_arguments = false;
  quiet = false;
  script_interpreter = None;
  share_subsequents = false;
  shell = None;
  tempdir = None;
  unstable = false;
  windows_powershell = false;
  windows_shell = None;
  working_directory = None;
}
