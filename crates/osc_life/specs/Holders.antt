-- Who holds a token, and how a history goes on from what its token has seen.
use Rattle.std.specs.Prelude.{◌≡◌, ℕ, List}
use Rattle.osc_model.specs.Limits.{Limits}
use Rattle.osc_turn.specs.declared.view.Entry.{Entry as Seen}
use Rattle.osc_turn.specs.declared.view.View.{View}
use Rattle.osc_turn.specs.History.{StartsWith, own}
use Rattle.osc_turn.specs.Rule.{number_of}
use Rattle.osc_turn.specs.Passes.{view}
use Rattle.osc_live.specs.declared.caller.Caller.{Caller}

-- who holds a token: the server's limits, the number of the token, and the number of its caller
pub record Holder : Type 0 where
  pub caps : Limits
  pub token : ℕ
  pub caller : ℕ

-- what is found goes on from what was seen, with no further entry of the token
abbrev pub Onward : ℕ → List Seen → List Seen → Type 0
Onward token seen found = StartsWith found seen × (own token found ≡ own token seen)

-- what the caller's token has seen
abbrev pub seen_by : Caller → List Seen
seen_by caller = (view caller.pass).seen

-- a caller of a server with these limits, as the holder of its token
abbrev pub holder_of : Limits → Caller → Holder
holder_of caps caller =
    record { caps = caps; token = number_of (view caller.pass); caller = caller.number }

-- the caller with this number, whose token has the same number
abbrev pub holder_at : Limits → ℕ → Holder
holder_at caps caller = record { caps = caps; token = caller; caller = caller }

-- The token was told of what others have seen, and is otherwise as it was.
pub record Learns (v w : View) : Type 0 where
  pub same : w ≡ record v { seen = w.seen; olds = w.olds }
  pub goes_on : StartsWith w.seen v.seen
  pub own_same : own (number_of v) w.seen ≡ own (number_of v) v.seen

-- The token has seen no less than it had, and has no further entry.
pub record Stays (v w : View) : Type 0 where
  pub token : number_of w ≡ number_of v
  pub starts : StartsWith w.seen v.seen
  pub own_same : own (number_of v) w.seen ≡ own (number_of v) v.seen
