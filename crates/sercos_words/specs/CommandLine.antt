-- The command line as `clap` reads it: two words in turn, no flag, and no help or version of its own.
use Rattle.std.specs.Prelude.{true, codes}
use Rattle.clap.specs.Words.{App, Shape, new_app, new_rule, with_rule}
use Rattle.clap.specs.Simple.{on_top}

abbrev pub without_extras : Shape → Shape
without_extras s = record s { no_binary_name = true; disable_help_flag = true; disable_version_flag = true }

abbrev pub command_line : App
command_line =
    with_rule (with_rule (on_top without_extras (new_app (codes "sercos"))) (new_rule (codes "command"))) (new_rule (codes "number"))
