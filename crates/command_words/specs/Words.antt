-- The words of a command line, over the definition of a simple command in `clap`.
use Rattle.std.specs.Prelude.{Bool, true, false, List, [], ◌∷◌, Option, Some, None, if◌then◌else◌, bytes_eq, codes}
use Rattle.std.specs.Option.{option_map_or}
use Rattle.clap.specs.Words.{App, Kinds, Row, Rule, Text, fault_of, first_of, matches_of, new_app, new_rule}
use Rattle.clap.specs.declared.builder.action.ArgAction.TheVariants.{Set, SetTrue}
use Rattle.command_words.specs.declared.argument.Argument.{Argument}
use Rattle.command_words.specs.declared.argument.Form.{Form}
use Rattle.command_words.specs.declared.argument.Form.TheVariants.{Position, Value, Flag}

-- ---- arguments as clap reads them

-- a word by its place
abbrev pub position : Text → Rule
position name = record (new_rule name) { action = Some Set }

-- `--NAME VALUE` or `--NAME=VALUE`
abbrev pub value : Text → Rule
value name = record (new_rule name) { long = Some name; action = Some Set }

-- `--NAME`
abbrev pub flag : Text → Rule
flag name = record (new_rule name) { long = Some name; action = Some SetTrue }

abbrev pub rule_of_form : Form → Text → Rule
rule_of_form Position name = position name
rule_of_form Value name = value name
rule_of_form Flag name = flag name

-- an argument that must be there
abbrev pub needed : Rule → Rule
needed rule = record rule { required = true }

abbrev pub rule_for : Argument → Rule
rule_for a = record (rule_of_form a.form a.name.now) { required = a.required }

-- the simple command with these arguments, its help and version flags off
abbrev pub command_app : Text → List Rule → App
command_app name rules = record (new_app name) {
  top = record (new_app name).top {
    disable_help_flag = true;
    disable_version_flag = true;
    rules = rules;
  };
}

-- ---- words

abbrev pub is_no_kind : Kinds → Bool
is_no_kind [] = true
is_no_kind (kind ∷ kinds) = false

-- the command takes the words: clap finds no fault in them
abbrev pub is_taken : App → List Text → Bool
is_taken app words = is_no_kind (fault_of app words)

-- what the words give for each argument, where the command takes them
abbrev pub rows_given : App → List Text → Option (List Row)
rows_given app words = if is_taken app words then Some (matches_of app words) else None

-- a flag is among the words
abbrev pub is_set : Text → List Row → Bool
is_set name rows = option_map_or (λ word. bytes_eq word (codes "true")) (first_of name rows) false
