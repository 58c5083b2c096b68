use Rattle.std.proofs.Common.{◌≡◌, ◌+◌, ◌++◌, length, map}
use Rattle.std.specs.Option.{option_map, option_or}
use Rattle.std.specs.Vec.Iter.{into_iter_items}
use Rattle.osc_record.specs.Shown.{room_of}
use Rattle.osc_links.specs.Serves.{link_in, faults_from, failed_from, stop_of_all}
use Rattle.osc_links.proofs.link_ends.gather.Given as goal

abbrev pub invariant-loop-end : goal.invariant-loop-end
invariant-loop-end g l = record {
  links : l.links.items ++ map link_in (into_iter_items l.end-iterator) ≡ map link_in l.fn.ends.items;
  faults : l.faults.items ++ faults_from l.link (into_iter_items l.end-iterator) ≡ faults_from 0 l.fn.ends.items;
  failed : option_or l.failed (failed_from l.link (into_iter_items l.end-iterator)) ≡ failed_from 0 l.fn.ends.items;
  stop : option_or (option_map room_of l.stop) (stop_of_all (into_iter_items l.end-iterator) l.fn.ticker_end)
      ≡ stop_of_all l.fn.ends.items l.fn.ticker_end;
  count : l.link + length (into_iter_items l.end-iterator) ≡ length l.fn.ends.items;
}
