-- The tokens of a server.
use Rattle.osc_method.specs.declared.method.Method.{Ghosts}
use Rattle.osc_live.specs.declared.caller.Caller.{Caller}
use Rattle.osc_live.specs.declared.guest.Guest.{Guest}
use Rattle.osc_live.specs.declared.live.Live.{Live}
use Rattle.osc_live.specs.Seen.{IsTokenOf}

module _ {M : Type 0} {G : Ghosts M} where
  -- the caller's token is one of this server's
  abbrev pub IsOurs : Live M G → Caller → Type 0
  IsOurs live caller = IsTokenOf live.turn live.caps caller.pass

  -- the guest's token is one of this server's
  abbrev pub IsOurGuest : Live M G → Guest → Type 0
  IsOurGuest live guest = IsTokenOf live.turn live.caps guest.pass
