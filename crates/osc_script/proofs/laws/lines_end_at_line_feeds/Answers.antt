use Rattle.osc_script.proofs.Cutting.{feed_ends, return_dropped, last_line}
use Rattle.osc_script.proofs.laws.lines_end_at_line_feeds.Goals as goal

pub returns : goal.returns
returns c = record { ended = feed_ends; returned = return_dropped; last = last_line }
