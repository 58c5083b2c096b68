-- A stream of which as many bytes were taken as can be counted.
use Rattle.std.proofs.Common.{◌≡◌, ◌^◌, ◌≤◌, true, ap, arith}
use Rattle.std.proofs.lemmas.Bool.{ltb-true}
use Rattle.std.specs.Prelude.{nat_lt}
use Rattle.osc_stream.specs.declared.state.StreamState.{StreamState}
use Rattle.osc_stream.specs.declared.state.StreamState.TheVariants.{Clean}
use Rattle.osc_stream.specs.Feeding.{StreamView, taken}

not_full : (first stream : StreamView) → (2 ^ 63 ≤ taken first → stream ≡ first) → nat_lt (taken stream) (2 ^ 63) ≡ true → 2 ^ 63 ≤ taken first → ⊥
not_full first stream same less full = omega (arith, full, ap taken (same full), ltb-true (taken stream) (2 ^ 63) less)

-- while bytes can be taken the stream wasn't full at first
pub full_same : (first stream new : StreamView) → (2 ^ 63 ≤ taken first → stream ≡ first) → nat_lt (taken stream) (2 ^ 63) ≡ true → 2 ^ 63 ≤ taken first
    → new ≡ first
full_same first stream new same less full = absurd (not_full first stream same less full)

pub full_state : (first stream : StreamView) (found : StreamState) → (2 ^ 63 ≤ taken first → stream ≡ first) → nat_lt (taken stream) (2 ^ 63) ≡ true
    → 2 ^ 63 ≤ taken first → found ≡ Clean
full_state first stream found same less full = absurd (not_full first stream same less full)

pub ruleset limits = (full_same, full_state)
