-- A spot that holds a state, and its parts, own what a box at the same types owns.
use mir.Syntax.{impl, tnil, dnil}
use mathlib.Core.List.{[]}
use denote.Signature.{Slot, plain}
use Rattle.std_alloc.proofs.BoxSteps.Form.{Bx}
use Rattle.std.specs.contracts.alloc.Global as Heap
use Rattle.std.specs.contracts.impls.GlobalAllocator.TheImpl.{ghosts, dict}
use Rattle.std.proofs.alloc.Global.TheLaws as heap
use Rattle.osc_c.specs.contracts.state.State as State
use Rattle.osc_c.proofs.state.State.TheLaws as state
use Rattle.osc_c.specs.contracts.spot.parts.Parts as Parts
use Rattle.osc_c.specs.contracts.spot.Spot as Spot

abbrev pub E : Bx
E = record { row = State.the_row; laws = state.the_row_laws; al = record { row = Heap.the_row; laws = heap.the_row_laws; g = ghosts; d = dict; drops = impl [] tnil dnil } }

abbrev pub FromParts : Slot 0
FromParts = plain (λ _. Parts.the_row State.the_row Heap.the_row ghosts)

abbrev pub FromSpot : Slot 0
FromSpot = plain (λ _. Spot.the_row)
