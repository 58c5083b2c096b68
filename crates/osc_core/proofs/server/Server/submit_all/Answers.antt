use Rattle.std.proofs.Common.{◌≡◌, ◌-◌, length, refl, arith}
use Rattle.osc_packet.specs.Reading.{units_read}
use Rattle.osc_model.specs.Counts.{queued_blocks}
use Rattle.osc_core.specs.Views.{units_of}
use Rattle.osc_core.specs.contracts.server.Server.{the_view}
use Rattle.osc_core.proofs.Submits.{finds_the_pool_full, queues_the_units}
use Rattle.osc_core.proofs.server.Server.submit_all.Goals as goal

pub returns-then-need-free-clause-answer : goal.returns-then-need-free-clause-answer
returns-then-need-free-clause-answer c =
    let s = c.self.inside in
    let places : c.free_places-places.result ≡ s.waiting.queue.limit - length (units_of s.waiting) = omega (arith, c.free_places-places.ensures) in
    let free : c.free_blocks-free.result ≡ length s.waiting.store - queued_blocks (units_of s.waiting) = omega (arith, c.free_blocks-free.ensures) in
    let full = finds_the_pool_full (the_view s) (units_read c.args.packet.now) c.free_places-places.result c.free_blocks-free.result places free (omega arith)
    (omega arith) in
    rw (
      ← c.self.view_is,
      full,
      c.new-then-need-free.ensures.need,
      c.new-then-need-free.ensures.free,
      c.from-then-need-free.ensures,
      c.from-then-need-free-2.ensures,
      c.need_of-count.ensures.blocks,
    )
    refl

pub returns-then-need-free-clause-state : goal.returns-then-need-free-clause-state
returns-then-need-free-clause-state c =
    let s = c.self.inside in
    let places : c.free_places-places.result ≡ s.waiting.queue.limit - length (units_of s.waiting) = omega (arith, c.free_places-places.ensures) in
    let free : c.free_blocks-free.result ≡ length s.waiting.store - queued_blocks (units_of s.waiting) = omega (arith, c.free_blocks-free.ensures) in
    let full = finds_the_pool_full (the_view s) (units_read c.args.packet.now) c.free_places-places.result c.free_blocks-free.result places free (omega arith)
    (omega arith) in
    rw (← c.self.view_is, full) refl

pub returns-clause-answer : goal.returns-clause-answer
returns-clause-answer c =
    let s = c.self.inside in
    let places : c.free_places-places.result ≡ s.waiting.queue.limit - length (units_of s.waiting) = omega (arith, c.free_places-places.ensures) in
    let free : c.free_blocks-free.result ≡ length s.waiting.store - queued_blocks (units_of s.waiting) = omega (arith, c.free_blocks-free.ensures) in
    let enters = queues_the_units (the_view s) (units_read c.args.packet.now) c.free_places-places.result c.free_blocks-free.result places free (omega arith) (omega arith) in
    rw (← c.self.view_is, enters, c.need_of-count.ensures.count, c.need_of-count.ensures.places) refl

pub returns-clause-state : goal.returns-clause-state
returns-clause-state c =
    let s = c.self.inside in
    let places : c.free_places-places.result ≡ s.waiting.queue.limit - length (units_of s.waiting) = omega (arith, c.free_places-places.ensures) in
    let free : c.free_blocks-free.result ≡ length s.waiting.store - queued_blocks (units_of s.waiting) = omega (arith, c.free_blocks-free.ensures) in
    let enters = queues_the_units (the_view s) (units_read c.args.packet.now) c.free_places-places.result c.free_blocks-free.result places free (omega arith) (omega arith) in
    rw (
      ← c.self.view_is,
      enters,
      c.enter_all.ensures.units,
      c.enter_all.ensures.places,
      c.enter_all.ensures.limit,
      c.from-2.ensures,
      c.need_of-count.ensures.count,
    )
    refl
