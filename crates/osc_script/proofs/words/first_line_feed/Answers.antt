use Rattle.osc_script.proofs.Places.{first_byte}
use Rattle.osc_script.proofs.words.first_line_feed.Goals as goal

pub returns : goal.returns
returns c = first_byte 10 c.args.rest.now c.memchr.result c.memchr.ensures
