-- What comes back where a server isn't closed.
use Rattle.std.specs.Prelude.{◌≡◌, ◌≢◌, ◌+◌, List, length, All}
use Rattle.osc_method.specs.declared.method.Method.{Ghosts}
use Rattle.osc_live.specs.declared.caller.Caller.{Caller}
use Rattle.osc_live.specs.declared.guest.Guest.{Guest}
use Rattle.osc_live.specs.declared.live.Live.{Live}
use Rattle.osc_live.specs.declared.close.LiveOut.{LiveOut}
use Rattle.osc_live.specs.declared.close.LiveOut.TheVariants.{NoMemory, StillOut}
use Rattle.osc_model.specs.Limits.{Limits}
use Rattle.osc_live.specs.Tokens.{IsOurs, IsOurGuest}
use Rattle.osc_live.specs.Closing.{made_by, StartsAtZero}

module _ {M : Type 0} {G : Ghosts M} where
  -- the server that comes back
  abbrev pub live_back : LiveOut M G → Live M G
  live_back (NoMemory live callers guests) = live
  live_back (StillOut made handed live callers guests) = live

  -- the tokens that come back
  abbrev pub callers_back : LiveOut M G → List Caller
  callers_back (NoMemory live callers guests) = callers.items
  callers_back (StillOut made handed live callers guests) = callers.items

  abbrev pub guests_back : LiveOut M G → List Guest
  guests_back (NoMemory live callers guests) = guests.items
  guests_back (StillOut made handed live callers guests) = guests.items

  -- as many tokens were made as caller 0 knows, and another number of them was handed in
  abbrev pub TellsMade : LiveOut M G → List Caller → List Guest → Type 0
  TellsMade (NoMemory live callers guests) first others = Unit {0}
  TellsMade (StillOut made handed live callers guests) first others =
      (made ≡ made_by first) × (handed ≡ length first + length others) × (made ≢ handed)

  -- all that comes back belongs together: the tokens are the server's, whose limits are these, and
  -- caller 0 is the first
  abbrev pub AreOurs : LiveOut M G → Limits → Type 0
  AreOurs (NoMemory live callers guests) caps = (live.caps ≡ caps)
      × All (IsOurs live) callers.items × All (IsOurGuest live) guests.items
      × StartsAtZero callers.items
  AreOurs (StillOut made handed live callers guests) caps = (live.caps ≡ caps)
      × All (IsOurs live) callers.items × All (IsOurGuest live) guests.items
      × StartsAtZero callers.items
