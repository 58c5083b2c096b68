use Rattle.std.proofs.Common.{◌≡◌, length, All}
use Rattle.left_right.specs.Sides.{view}
use Rattle.osc_watch.specs.declared.watcher.Watcher.{Watcher}
use Rattle.osc_watch.proofs.open.deal.Given as goal

-- so many watchers are told of what is published
abbrev pub invariant-loop : goal.invariant-loop
invariant-loop l = record {
  shown : l.writer.desk.shown ≡ l.initial.writer.desk.shown;
  log : l.writer.log ≡ l.initial.writer.log;
  behind : l.writer.behind ≡ l.initial.writer.behind;
  view : view l.writer.desk.place ≡ view l.initial.writer.desk.place;
  as_many : length l.dealt.items ≡ l.counter;
  told : All (λ (watcher : Watcher). watcher.told.reached ≡ l.initial.writer.desk.shown.value.reached) l.dealt.items;
}
