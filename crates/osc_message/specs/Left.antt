-- The arguments that an iterator has left.
use Rattle.std.specs.Prelude.{List}
use Rattle.osc_message.specs.declared.args.Args.{Args}
use Rattle.osc_message.specs.Messages.{Argument}
use Rattle.osc_message.specs.ArgumentReading.{arguments_of}

-- those under the tags that are left, from the place on
abbrev pub left : Args → List Argument
left args = arguments_of args.tags.now args.bytes.now args.place
