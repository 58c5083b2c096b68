use Rattle.osc_story.proofs.Unique.{whole_following}
use Rattle.osc_story.proofs.laws.a_whole_recording_is_seen.Goals as goal

pub returns : goal.returns
returns c = λ caps history follower legal caught.
    c.pieces_make_no_difference.ensures _ follower _ caught
    (whole_following (record { header = c.sizes.ensures.header; entry = c.sizes.ensures.entry; differ = c.headers_differ.ensures }) caps history legal.0
    (c.a_legal_history_is_recordable.ensures.all caps history legal) (c.a_legal_history_agrees.ensures caps history legal)
    (c.a_legal_history_is_recordable.ensures.within caps history legal))
