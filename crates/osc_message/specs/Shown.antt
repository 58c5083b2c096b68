-- What an argument of the code stands for.
use Rattle.osc_message.specs.declared.argument.Arg.{Arg}
use Rattle.osc_message.specs.declared.argument.Arg.TheVariants.{Int, Float, Str, Blob, Long, Time}
use Rattle.osc_message.specs.declared.argument.Arg.TheVariants.{Double, Symbol, Char, Rgba, Midi}
use Rattle.osc_message.specs.declared.argument.Arg.TheVariants.{True, False, Nil, Infinitum}
use Rattle.osc_message.specs.declared.argument.Arg.TheVariants.{ArrayStart, ArrayEnd}
use Rattle.osc_message.specs.Messages.{Argument, integer, float, text, content, long, time, double}
use Rattle.osc_message.specs.Messages.{symbol, character, rgba, midi, true_, false_, nil, infinitum}
use Rattle.osc_message.specs.Messages.{array_start, array_end}

-- the argument itself
abbrev pub shown : Arg → Argument
shown (Int number) = integer number
shown (Float bits) = float bits
shown (Str bytes) = text bytes.now
shown (Blob bytes) = content bytes.now
shown (Long number) = long number
shown (Time number) = time number
shown (Double bits) = double bits
shown (Symbol bytes) = symbol bytes.now
shown (Char number) = character number
shown (Rgba number) = rgba number
shown (Midi number) = midi number
shown True = true_
shown False = false_
shown Nil = nil
shown Infinitum = infinitum
shown ArrayStart = array_start
shown ArrayEnd = array_end
