-- The number that a fader was sent, by what its box tells.
use Rattle.std.proofs.Common.{◌≡◌, ℕ, Bool, true, false, cond, List, [], length, Option, Some, None, IfSome, Contains, sym, subst}
use Rattle.std.specs.Int.{w32, from_be_bytes}
use Rattle.osc_model.specs.Heard.{Told}
use Rattle.osc_uses.specs.Host.{TellsLevel}

pub tells_level : (ids : List ℕ) (boxes : List Told) (id : ℕ) (sent : Bool) (last : List ℕ) (level : Option ℕ)
    → level ≡ cond sent (Some (from_be_bytes w32 last)) None → IfSome level (λ _. length last ≡ 4)
    → Contains boxes (record { id = id; keep = record { most = 4; name = []; outlets = [] }; heard = Some (cond sent last []) }) → TellsLevel ids boxes id level
tells_level ids boxes id true last level is size told =
    subst (TellsLevel ids boxes id) (sym is) (last, subst (λ (l : Option ℕ). IfSome l (λ _. length last ≡ 4)) is size, λ i. from_be_bytes w32 last, told)
tells_level ids boxes id false last level is size told = subst (TellsLevel ids boxes id) (sym is) (λ there. told)
