use Rattle.osc_story.proofs.Unique.{one_following}
use Rattle.osc_story.proofs.laws.pieces_make_no_difference.Goals as goal

pub returns : goal.returns
returns c =
    one_following (record { header = c.sizes.ensures.header; entry = c.sizes.ensures.entry; differ = c.headers_differ.ensures })
    c.a_written_entry_is_read_again.ensures
