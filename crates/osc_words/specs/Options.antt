-- The options that commands have.
use Rattle.std.specs.Prelude.{ℕ, ◌≤◌, true, List, Some, codes}
use Rattle.clap.specs.Words.{Rule, new_rule}
use Rattle.clap.specs.declared.builder.action.ArgAction.TheVariants.{SetTrue}
use Rattle.osc_words.specs.declared.options.Flag.{Flag}
use Rattle.osc_words.specs.declared.options.Flag.TheVariants.{Bytes, Tcp, Play, Watch}
use Rattle.osc_words.specs.declared.options.Quantity.{Quantity}
use Rattle.osc_words.specs.declared.options.Quantity.TheVariants.{Units, Blocks, Methods, Nodes}
use Rattle.osc_words.specs.declared.options.Quantity.TheVariants.{Recording, Seed, Lines, Port}
use Rattle.osc_words.specs.declared.options.Quantity.TheVariants.{Links, Count, Idle}
use Rattle.osc_words.specs.declared.options.Parameter.{Parameter}
use Rattle.osc_words.specs.declared.options.Parameter.TheVariants as parameter

-- an option that takes a number: its name, the least and the most that the number may be, and what
-- it is where it isn't given
pub record NumberOption : Type 0 where
  pub name : List ℕ
  pub least : ℕ
  pub most : ℕ
  pub default : ℕ

abbrev number_option : List ℕ → ℕ → ℕ → ℕ → NumberOption
number_option name least most default =
    record { name = name; least = least; most = most; default = default }

-- The table of options that take a number.
abbrev pub row_of : Quantity → NumberOption
row_of Units = number_option (codes "units") 1 1048576 4096
row_of Blocks = number_option (codes "blocks") 1 1048576 16384
row_of Methods = number_option (codes "methods") 1 65536 1024
row_of Nodes = number_option (codes "nodes") 1 1048576 4096
row_of Recording = number_option (codes "recording") 60 1073741824 67108864
row_of Seed = number_option (codes "seed") 0 18446744073709551615 1
row_of Lines = number_option (codes "lines") 1 100000 20000
row_of Port = number_option (codes "port") 1 65535 9000
row_of Links = number_option (codes "links") 1 8 1
row_of Count = number_option (codes "count") 1 1000000 1000000
row_of Idle = number_option (codes "idle") 1 1000000 1000000

-- the number lies in the range of its option
abbrev pub IsInRange : Quantity → ℕ → Type 0
IsInRange quantity number = ((row_of quantity).least ≤ number) × (number ≤ (row_of quantity).most)

abbrev pub flag_name : Flag → List ℕ
flag_name Bytes = codes "bytes"
flag_name Tcp = codes "tcp"
flag_name Play = codes "play"
flag_name Watch = codes "watch"

-- the option that says what becomes of late units
abbrev pub late_name : List ℕ
late_name = codes "late"

-- how each is told to clap: a flag, a number and a policy by a long name, the old file as a word
-- that has to stand, and the file as another, after which no option is read and no other word may
-- stand
abbrev pub rule_for : Parameter → Rule
rule_for (parameter.Flag flag) =
    record (new_rule (flag_name flag)) { long = Some (flag_name flag); action = Some SetTrue }
rule_for (parameter.Number quantity) =
    record (new_rule (row_of quantity).name) { long = Some (row_of quantity).name }
rule_for parameter.Late = record (new_rule late_name) { long = Some late_name }
rule_for parameter.Old = record (new_rule (codes "OLD")) { required = true }
rule_for parameter.File =
    record (new_rule (codes "FILE")) { required = true; trailing_var_arg = true }
