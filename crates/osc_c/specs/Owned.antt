-- What a spot owns: a box of a state, or nothing.
use base.Fml.{Fml, ftrue}
use base.Stored.{Coded}
use denote.RawPtr.{Ptr}
use Rattle.std.specs.Box.Ownership.{box_owns}
use Rattle.std.specs.Global.{Global}
use Rattle.std.specs.declared.option.Option.{Option}
use Rattle.std.specs.declared.option.Option.TheVariants.{None, Some}
use Rattle.std.specs.contracts.option.Option.{the_row as option_row}
use Rattle.std.specs.contracts.impls.GlobalAllocator.TheImpl.{ghosts}
use Rattle.osc_c.specs.contracts.state.State.{the_row}

abbrev pub owned : Global → Ptr → Option the_row.Denot → Fml
owned alloc p None = ftrue
owned alloc p (Some x) = box_owns (ghosts.dealloc_token alloc) the_row p x

abbrev pub held_coded : Coded (Option the_row.Denot)
held_coded = (option_row the_row).coded
