-- Attributes: what they say, and how they are printed.
use Rattle.std.specs.Prelude.{ℕ, Bool, true, false, if◌then◌else◌, List, ◌++◌, map, Option, Some, None, codes}
use Rattle.std.specs.List.{flat_map}
use Rattle.std.specs.Option.{option_map}
use Rattle.tree_expressions.specs.declared.string_literal.StringLiteral.{StringLiteral}
use Rattle.tree_attributes.specs.declared.attribute.AttributeKind.{AttributeKind}
use Rattle.tree_attributes.specs.declared.attribute.AttributeKind.TheVariants.{Android as AndroidKind, Arg as ArgKind, Cache as CacheKind, Confirm as ConfirmKind, Default as DefaultKind, Doc as DocKind, Dragonfly as DragonflyKind, Env as EnvKind, ExitMessage as ExitMessageKind, Extension as ExtensionKind, Freebsd as FreebsdKind, Group as GroupKind, Linux as LinuxKind, Macos as MacosKind, Metadata as MetadataKind, Netbsd as NetbsdKind, NoCd as NoCdKind, NoExitMessage as NoExitMessageKind, NoQuiet as NoQuietKind, Openbsd as OpenbsdKind, Parallel as ParallelKind, PositionalArguments as PositionalArgumentsKind, Private as PrivateKind, Script as ScriptKind, Unix as UnixKind, Windows as WindowsKind, WorkingDirectory as WorkingDirectoryKind}
use Rattle.tree_attributes.specs.declared.attribute.LongName.{LongName}
use Rattle.tree_attributes.specs.declared.attribute.LongName.TheVariants.{Absent, Named, OfParameter}
use Rattle.tree_attributes.specs.declared.attribute.ArgumentOptions.{ArgumentOptions}
use Rattle.tree_attributes.specs.declared.attribute.Attribute.{Attribute}
use Rattle.tree_attributes.specs.declared.attribute.Attribute.TheVariants.{Android, Arg, Cache, Confirm, Default, Doc, Dragonfly, Env, ExitMessage, Extension, Freebsd, Group, Linux, Macos, Metadata, Netbsd, NoCd, NoExitMessage, NoQuiet, Openbsd, Parallel, PositionalArguments, Private, Script, Unix, Windows, WorkingDirectory}
use Rattle.tree_expressions.specs.declared.expression.Expression.{Expression}
use Rattle.tree_attributes.specs.declared.setting.Interpreter.{Interpreter}
use Rattle.tree_expressions.specs.Shape.{Shape, shape_of, written as text_written}
use Rattle.tree_expressions.specs.Printing.{text_of}
use Rattle.tree_attributes.specs.Settings.{InterpreterShape, interpreter_shape as shape_of_interpreter, elements_text}

-- a string as it is written
abbrev pub written : StringLiteral → List ℕ
written = text_written

abbrev pub interpreter_shape : Interpreter Expression → InterpreterShape
interpreter_shape = shape_of_interpreter

-- the names
abbrev pub kind_name : AttributeKind → List ℕ
kind_name AndroidKind = codes "android"
kind_name ArgKind = codes "arg"
kind_name CacheKind = codes "cache"
kind_name ConfirmKind = codes "confirm"
kind_name DefaultKind = codes "default"
kind_name DocKind = codes "doc"
kind_name DragonflyKind = codes "dragonfly"
kind_name EnvKind = codes "env"
kind_name ExitMessageKind = codes "exit-message"
kind_name ExtensionKind = codes "extension"
kind_name FreebsdKind = codes "freebsd"
kind_name GroupKind = codes "group"
kind_name LinuxKind = codes "linux"
kind_name MacosKind = codes "macos"
kind_name MetadataKind = codes "metadata"
kind_name NetbsdKind = codes "netbsd"
kind_name NoCdKind = codes "no-cd"
kind_name NoExitMessageKind = codes "no-exit-message"
kind_name NoQuietKind = codes "no-quiet"
kind_name OpenbsdKind = codes "openbsd"
kind_name ParallelKind = codes "parallel"
kind_name PositionalArgumentsKind = codes "positional-arguments"
kind_name PrivateKind = codes "private"
kind_name ScriptKind = codes "script"
kind_name UnixKind = codes "unix"
kind_name WindowsKind = codes "windows"
kind_name WorkingDirectoryKind = codes "working-directory"

-- an item may have more than one of these
abbrev pub is_repeatable : AttributeKind → Bool
is_repeatable ArgKind = true
is_repeatable EnvKind = true
is_repeatable GroupKind = true
is_repeatable MetadataKind = true
is_repeatable other = false

-- the long name of an option: none, the parameter's, or a string
abbrev pub long_shape : LongName → Option (Option (List ℕ))
long_shape Absent = None
long_shape (Named name) = Some (Some (written name))
long_shape OfParameter = Some None

abbrev pub long_text : Option (Option (List ℕ)) → List ℕ
long_text None = codes ""
long_text (Some None) = codes ", long"
long_text (Some (Some name)) = codes ", long=" ++ name

-- an option with a string, if it is there
abbrev pub assigned_text : List ℕ → Option (List ℕ) → List ℕ
assigned_text name None = codes ""
assigned_text name (Some value) = codes ", " ++ name ++ codes "=" ++ value

-- a parameter's name and its options, whatever their order
pub record OptionsShape : Type 0 where
  pub name : List ℕ
  pub flag : Bool
  pub help : Option (List ℕ)
  pub long : Option (Option (List ℕ))
  pub max : Option (List ℕ)
  pub min : Option (List ℕ)
  pub multiple : Bool
  pub short : Option (List ℕ)
  pub value : Option Shape

abbrev pub options_shape : ArgumentOptions → OptionsShape
options_shape o = record {
  name = written o.name;
  flag = o.flag;
  help = option_map written o.help;
  long = long_shape o.long;
  max = option_map written o.max;
  min = option_map written o.min;
  multiple = o.multiple;
  short = option_map written o.short;
  value = option_map shape_of o.value;
}

abbrev pub options_front : OptionsShape → List ℕ
options_front o = o.name ++ (if o.flag then codes ", flag" else codes "") ++ assigned_text (codes "help") o.help ++ long_text o.long

abbrev pub options_middle : OptionsShape → List ℕ
options_middle o = assigned_text (codes "max") o.max ++ assigned_text (codes "min") o.min ++ (if o.multiple then codes ", multiple" else codes "") ++ assigned_text (codes "short") o.short

abbrev pub value_end : Option Shape → List ℕ
value_end None = codes ""
value_end (Some e) = codes ", value=" ++ text_of e

abbrev pub options_end : OptionsShape → List ℕ
options_end o = value_end o.value

-- the name and the options, in byte order of the options' names
abbrev pub options_text : OptionsShape → List ℕ
options_text o = options_front o ++ options_middle o ++ options_end o

abbrev pub strings_of : List StringLiteral → List (List ℕ)
strings_of texts = map written texts

abbrev pub comma_string : List ℕ → List ℕ
comma_string text = codes ", " ++ text

-- strings, each after a comma and a space
abbrev pub strings_text : List (List ℕ) → List ℕ
strings_text texts = flat_map comma_string texts

-- expressions with a comma and a space between two
abbrev pub expressions_text : InterpreterShape → List ℕ
expressions_text i = text_of i.command ++ elements_text i.arguments

-- an attribute without places
pub data AttributeShape : Type 0 where
  plain : AttributeKind → AttributeShape
  with_options : OptionsShape → AttributeShape
  with_prompt : Shape → AttributeShape
  with_pair : Shape → Shape → AttributeShape
  with_string : AttributeKind → List ℕ → AttributeShape
  with_strings : List ℕ → List (List ℕ) → AttributeShape
  with_interpreter : InterpreterShape → AttributeShape

abbrev pub attribute_shape : Attribute → AttributeShape
attribute_shape Android = plain AndroidKind
attribute_shape (Arg options) = with_options (options_shape options.value)
attribute_shape Cache = plain CacheKind
attribute_shape (Confirm None) = plain ConfirmKind
attribute_shape (Confirm (Some prompt)) = with_prompt (shape_of prompt)
attribute_shape Default = plain DefaultKind
attribute_shape (Doc None) = plain DocKind
attribute_shape (Doc (Some text)) = with_string DocKind (written text)
attribute_shape Dragonfly = plain DragonflyKind
attribute_shape (Env key value) = with_pair (shape_of key) (shape_of value.value)
attribute_shape ExitMessage = plain ExitMessageKind
attribute_shape (Extension text) = with_string ExtensionKind (written text)
attribute_shape Freebsd = plain FreebsdKind
attribute_shape (Group text) = with_string GroupKind (written text)
attribute_shape Linux = plain LinuxKind
attribute_shape Macos = plain MacosKind
attribute_shape (Metadata first others) = with_strings (written first) (strings_of others.items)
attribute_shape Netbsd = plain NetbsdKind
attribute_shape NoCd = plain NoCdKind
attribute_shape NoExitMessage = plain NoExitMessageKind
attribute_shape NoQuiet = plain NoQuietKind
attribute_shape Openbsd = plain OpenbsdKind
attribute_shape Parallel = plain ParallelKind
attribute_shape PositionalArguments = plain PositionalArgumentsKind
attribute_shape Private = plain PrivateKind
attribute_shape (Script None) = plain ScriptKind
attribute_shape (Script (Some i)) = with_interpreter (interpreter_shape i.value)
attribute_shape Unix = plain UnixKind
attribute_shape Windows = plain WindowsKind
attribute_shape (WorkingDirectory text) = with_string WorkingDirectoryKind (written text)

-- which attribute it is
abbrev pub kind_of : AttributeShape → AttributeKind
kind_of (plain k) = k
kind_of (with_options o) = ArgKind
kind_of (with_prompt e) = ConfirmKind
kind_of (with_pair k v) = EnvKind
kind_of (with_string k text) = k
kind_of (with_strings text texts) = MetadataKind
kind_of (with_interpreter i) = ScriptKind

-- the name, and the arguments in parentheses if there are any
abbrev pub attribute_text : AttributeShape → List ℕ
attribute_text (plain k) = kind_name k
attribute_text (with_options o) = codes "arg(" ++ options_text o ++ codes ")"
attribute_text (with_prompt e) = codes "confirm(" ++ text_of e ++ codes ")"
attribute_text (with_pair k v) = codes "env(" ++ text_of k ++ codes ", " ++ text_of v ++ codes ")"
attribute_text (with_string k text) = kind_name k ++ codes "(" ++ text ++ codes ")"
attribute_text (with_strings text texts) = codes "metadata(" ++ text ++ strings_text texts ++ codes ")"
attribute_text (with_interpreter i) = codes "script(" ++ expressions_text i ++ codes ")"

abbrev pub attribute_shapes : List Attribute → List AttributeShape
attribute_shapes = map attribute_shape

abbrev pub attribute_row : AttributeShape → List ℕ
attribute_row a = codes "[" ++ attribute_text a ++ codes "]\n"

-- attributes, one a line, each in brackets
abbrev pub attributes_text : List AttributeShape → List ℕ
attributes_text attributes = flat_map attribute_row attributes
