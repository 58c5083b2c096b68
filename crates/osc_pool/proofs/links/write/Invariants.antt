use Rattle.std.proofs.Common.{◌≡◌, ℕ, ◌≤◌, length, vec_capacity}
use Rattle.osc_pool.specs.Holding.{blocks_for}
use Rattle.osc_pool.specs.Paths.{filled_up, path, times}
use Rattle.osc_pool.proofs.Writing.{IsWriting}
use Rattle.osc_pool.proofs.links.write.Given as goal

abbrev pub invariant-loop-rest : goal.invariant-loop-rest
invariant-loop-rest l = record {
  writing : IsWriting (filled_up (length l.next) l.initial.blocks.items) (filled_up (length l.next) l.blocks.items) l.next l.first l.block l.bytes l.rest;
  reached : (b : ℕ) → length l.blocks.items ≤ b
      → times b (path l.next (blocks_for (length l.bytes)) l.first) ≡ times b (path l.next (blocks_for (length l.rest)) l.block);
  more : length l.initial.blocks.items ≤ length l.blocks.items;
  few : length l.blocks.items ≤ length l.next;
  capacity : vec_capacity l.initial.blocks ≤ vec_capacity l.blocks;
}

abbrev pub decreases-loop-rest : goal.decreases-loop-rest
decreases-loop-rest l = length l.rest
