-- How an upgrade ends.
use Rattle.std.proofs.Common.{◌≡◌, ◌⊎◌, inl, inr, ℕ, ◌≤◌, List, length, Ok, Err, subst, arith}
use Rattle.osc_model.specs.Limits.{Limits, max_recording}
use Rattle.osc_model.specs.Events.{Entry}
use Rattle.osc_replay.specs.declared.upgrade_text.UpgradeFault.{UpgradeFault}
use Rattle.osc_replay.specs.declared.upgrade_text.UpgradeFault.TheVariants.{Malformed, TooLarge}
use Rattle.osc_replay.specs.Old.{IsOldRecordingOf, OldLegal}
use Rattle.osc_replay.specs.Upgrading.{DisagreesThere, IsUpgradedUnlessShort, PrintsTheSame, upgraded_text}
use Rattle.osc_ends.specs.Ends.{EndsText}
use Rattle.osc_ends.specs.Recordings.{EndsRecording, RefusesUpgrade, UpgradesTo}
use Rattle.osc_ends.specs.Sinks.{SinkChange}

module _ (bytes text : List ℕ) where
  pub upgrades_to : (caps : Limits) × (history : List Entry) × IsOldRecordingOf bytes caps history × (text ≡ upgraded_text max_recording caps history)
      → ((caps : Limits) (history : List Entry) → IsOldRecordingOf bytes caps history → IsUpgradedUnlessShort (Ok text) max_recording caps history)
      → ((caps : Limits) (history : List Entry) → IsOldRecordingOf bytes caps history → OldLegal caps history
      → PrintsTheSame text max_recording caps history)
      → ((caps : Limits) (history : List Entry) → IsOldRecordingOf bytes caps history → DisagreesThere text max_recording caps history)
      → UpgradesTo bytes text
  upgrades_to (caps, history, is, text_is) complete legal illegal = let made = complete caps history is in
      record {
        caps = caps;
        history = history;
        recording_of = is;
        text_is = text_is;
        few = made.1;
        formed = made.2;
        legal = legal caps history is;
        illegal = illegal caps history is;
      }

  pub upgrade_ends : (status : ℕ) (shown : List ℕ) (out : SinkChange) → shown ≡ text → UpgradesTo bytes text → EndsText 0 status shown out
      → EndsRecording UpgradesTo RefusesUpgrade status bytes out
  upgrade_ends status shown out same to shown_ends =
      let ends : EndsText 0 status text out = subst (λ (t : List ℕ). EndsText 0 status t out) same shown_ends in
      record {
        known = known_so ends.known;
        done = λ zero_is. (text, to, ends.done zero_is);
        refused = λ one_is. absurd (not_one ends.known one_is);
        cut_short = λ five_is. (text, to, ends.cut_short five_is);
      }
    where
      known_so : (status ≡ 0) ⊎ (status ≡ 3) ⊎ (status ≡ 5) → (status ≡ 0) ⊎ (status ≡ 1) ⊎ (status ≡ 3) ⊎ (status ≡ 5)
      known_so (inl is) = inl is
      known_so (inr (inl is)) = inr (inr (inl is))
      known_so (inr (inr is)) = inr (inr (inr is))

      not_one : (status ≡ 0) ⊎ (status ≡ 3) ⊎ (status ≡ 5) → status ≡ 1 → ⊥
      not_one (inl is) one_is = omega (arith, is, one_is)
      not_one (inr (inl is)) one_is = omega (arith, is, one_is)
      not_one (inr (inr is)) one_is = omega (arith, is, one_is)

-- a recording that is upgraded where there is memory is neither malformed nor too large
pub not_malformed : (fault : UpgradeFault) (at limit : ℕ) (caps : Limits) (history : List Entry) → fault ≡ Malformed at
    → IsUpgradedUnlessShort (Err fault) limit caps history → ⊥
not_malformed fault at limit caps history is upgraded =
    subst (λ (f : UpgradeFault). IsUpgradedUnlessShort (Err f) limit caps history) is upgraded

pub not_too_large : (fault : UpgradeFault) (need most limit : ℕ) (caps : Limits) (history : List Entry) → fault ≡ TooLarge need most
    → IsUpgradedUnlessShort (Err fault) limit caps history → length (upgraded_text limit caps history) ≤ limit → ⊥
not_too_large fault need most limit caps history is upgraded few =
    let large = subst (λ (f : UpgradeFault). IsUpgradedUnlessShort (Err f) limit caps history) is upgraded in
    omega (arith, large.0, large.2, few)
