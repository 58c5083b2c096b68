use Rattle.std.proofs.Common.{◌≡◌, ◌+◌, ◌≤◌, ◌++◌, length, map, vec_len, vec_capacity}
use Rattle.std.specs.Vec.Iter.{into_iter_items}
use Rattle.osc_live.specs.declared.guest.Guest.{Guest}
use Rattle.osc_live.proofs.close.hand_guests.Given as goal

-- the passes so far, and those that are left, are all
abbrev pub invariant-loop-guest : goal.invariant-loop-guest
invariant-loop-guest l = record {
  items : l.passes.items ++ map (λ (one : Guest). one.pass) (into_iter_items l.guest-iterator)
      ≡ l.initial.passes.items ++ map (λ (one : Guest). one.pass) l.fn.guests.items;
  room : vec_len l.passes + length (into_iter_items l.guest-iterator) ≤ vec_capacity l.passes;
  capacity : vec_capacity l.passes ≡ vec_capacity l.initial.passes;
}
