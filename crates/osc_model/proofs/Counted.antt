-- The numbers of a server are within the bytes that it has recorded.
use Rattle.std.proofs.Common.{◌≡◌, ℕ, zero, suc, ◌+◌, ◌-◌, ◌<◌, ◌≤◌, Bool, true, false, cond, List, [], ◌∷◌, ◌++◌, length, length-append, length-drop, drop}
use Rattle.std.proofs.Common.{take, Option, Some, None, inl, inr, refl, sym, ◌∙◌, ap, subst, arith}
use Rattle.std.specs.List.{filter, flat_map}
use Rattle.std.proofs.lemmas.Bool.{cases_lt}
use Rattle.std.proofs.lemmas.List.{take-append-drop}
use Rattle.osc_packet.specs.Packets.{effective_tag}
use Rattle.osc_packet.specs.Units.{TimedUnit}
use Rattle.osc_packet.specs.Reading.{is_bundle, bundle_tag, first_size, first_element, after_first, elements_in, bundle_read, enclosed_read, units_read}
use Rattle.osc_packet.proofs.Steps.{bundle_step}
use Rattle.osc_packet.proofs.Walks.{enclosed_step, enclosed_end, one_first}
use Rattle.osc_packet.proofs.Few.{one_few}
use Rattle.osc_model.specs.Limits.{Limits, AreInRange}
use Rattle.osc_model.specs.State.{State, opening}
use Rattle.osc_model.specs.Counts.{free_bytes}
use Rattle.osc_model.specs.Recordings.{entry_size}
use Rattle.osc_model.specs.Events.{Event, Entry}
use Rattle.osc_model.specs.Step.{Stepped, step, decided}
use Rattle.osc_model.specs.History.{Legal, IsCounted, after}
use Rattle.osc_model.proofs.Stepping.{step_so, decided_so}
use Rattle.osc_model.proofs.Refusals.{decided_none}

-- A bundle has no more units than bytes.

abbrev BundleFew : ℕ → Type 0
BundleFew left = (outer : Option ℕ) (bytes : List ℕ) → is_bundle bytes ≡ true → length (bundle_read left outer bytes) ≤ length bytes

-- a first element and what follows it are together shorter than the whole
parts_fit : (bytes : List ℕ) → 0 < length bytes → length (first_element bytes) + length (after_first bytes) < length bytes
parts_fit bytes some = omega (arith, length-take-drop (first_size bytes) (drop 4 bytes), length-drop 4 bytes) where
  length-take-drop : (n : ℕ) (xs : List ℕ) → length (take n xs) + length (drop n xs) ≤ length xs
  length-take-drop n xs = omega (arith, ap length (take-append-drop n xs), length-append (take n xs) (drop n xs))

enclosed_few : (left : ℕ) → BundleFew left → (bound effective : ℕ) (bytes : List ℕ) → length bytes ≤ bound
    → length (enclosed_read left effective bytes) ≤ length bytes
enclosed_few left each zero effective bytes few = rw (enclosed_end left effective bytes (omega arith)) (omega arith)
enclosed_few left each (suc bound) effective bytes few = elim (cases_lt 0 (length bytes)) [
  | inr none ↦ rw (enclosed_end left effective bytes (omega arith)) (omega arith)
  | inl some ↦
      let f : List ℕ → List TimedUnit = bundle_read left (Some effective) in
      let fit = parts_fit bytes some in
      let one = one_few f (is_bundle (first_element bytes)) (first_element bytes) (each (Some effective) (first_element bytes)) in
      let rest = enclosed_few left each bound effective (after_first bytes) (omega arith) in
      let split : enclosed_read left effective bytes ≡ flat_map f (cond (is_bundle (first_element bytes)) (first_element bytes ∷ []) [])
      ++ enclosed_read left effective (after_first bytes) =
      enclosed_step left effective bytes some
      ∙ one_first f (is_bundle (first_element bytes)) (first_element bytes) (filter is_bundle (elements_in (after_first bytes))) in
      omega (
        arith,
        ap length split,
        length-append (flat_map f (cond (is_bundle (first_element bytes)) (first_element bytes ∷ []) []))
            (enclosed_read left effective (after_first bytes)),
      )
]

bundle_some : (bytes : List ℕ) → is_bundle bytes ≡ true → 0 < length bytes
bundle_some [] is = absurd (cc)
bundle_some (b ∷ bytes) is = omega arith

none_opened : (outer : Option ℕ) (bytes : List ℕ) → bundle_read 0 outer bytes ≡ []
unfolding bundle_read
none_opened outer bytes = refl

bundle_few : (left : ℕ) → BundleFew left
bundle_few zero outer bytes is = omega (arith, ap length (none_opened outer bytes))
bundle_few (suc left) outer bytes is =
    let inner = enclosed_few (suc left - 1) (subst BundleFew (omega arith) (bundle_few left)) (length (drop 16 bytes)) (effective_tag outer (bundle_tag bytes))
    (drop 16 bytes) (omega arith) in
    omega (arith, ap length (bundle_step (suc left) outer bytes (omega arith)), length-drop 16 bytes, bundle_some bytes is)

-- no bytes have more units than there are bytes, but for a message of none
pub units_fit : (bytes : List ℕ) → length (units_read bytes) ≤ 1 + length bytes
units_fit bytes = go (is_bundle bytes) refl where
  go : (test : Bool) → is_bundle bytes ≡ test
      → length (cond test (bundle_read 16 None bytes) (record { tag = 1; messages = bytes ∷ [] } ∷ [])) ≤ 1 + length bytes
  go true is = omega (arith, bundle_few 16 None bytes is)
  go false is = omega arith

-- An event gives no more numbers than its entry has bytes.

record Grows (state : State) (size : ℕ) (stepped : Stepped) : Type 0 where
  pub caps : stepped.state.caps ≡ state.caps
  pub ids : stepped.state.next_id ≤ state.next_id + size
  pub units : stepped.state.next_unit ≤ state.next_unit + size

decided_grows : (state : State) (event : Event) → Grows state (entry_size event (decided state event).answer) (decided state event)
decided_grows state event =
    decided_so (λ event stepped. Grows state (entry_size event stepped.answer) stepped) state event
    (record {
      refused = λ event answer is.
          record { caps = refl; ids = more state.next_id (entry_size event answer); units = more state.next_unit (entry_size event answer) };
      enrolled = record { caps = refl; ids = omega arith; units = omega arith };
      queued = λ packet. record { caps = refl; ids = more state.next_id _; units = omega (arith, units_fit packet) };
      added = λ address. record { caps = refl; ids = omega arith; units = omega arith };
      removed = λ address id. record { caps = refl; ids = omega arith; units = omega arith };
      ticked = λ now later. record { caps = refl; ids = omega arith; units = omega arith };
      released = λ unit units first. record { caps = refl; ids = omega arith; units = omega arith };
    })
  where
    more : (number size : ℕ) → number ≤ number + size
    more number size = omega arith

step_counted : (state : State) (event : Event) → IsCounted state → IsCounted (step state event).state
step_counted state event counted =
    step_so (λ stepped. IsCounted stepped.state) state event
    (record {
      silent = λ none. subst IsCounted (sym (decided_none state event none)) counted;
      full = λ some full. counted;
      room = λ some fits. noted_counted state (entry_size event (decided state event).answer) (decided state event) counted fits (decided_grows state event);
    })
  where
    noted_counted : (state : State) (size : ℕ) (stepped : Stepped) → IsCounted state → size ≤ free_bytes state → Grows state size stepped
        → IsCounted (record stepped.state { recorded = state.recorded + size })
    noted_counted state size stepped counted fits grows =
        let header = counted.header in
        let within = counted.within in
        let ids = counted.ids in
        let units = counted.units in
        record {
          header = omega arith;
          within = subst (λ (caps : Limits). state.recorded + size ≤ caps.recording) (sym grows.caps) (omega arith);
          ids = omega (arith, grows.ids);
          units = omega (arith, grows.units);
        }

-- A history.

after_counted : (state : State) (history : List Entry) → IsCounted state → IsCounted (after state history)
after_counted state [] counted = counted
after_counted state (entry ∷ entries) counted = after_counted (step state entry.event).state entries (step_counted state entry.event counted)

opening_counted : (caps : Limits) → AreInRange caps → IsCounted (opening caps)
opening_counted caps ranges = let recording = ranges.recording.above in
    record { header = omega arith; within = omega arith; ids = omega arith; units = omega arith }

pub history_counted : (caps : Limits) (history : List Entry) → Legal caps history → IsCounted (after (opening caps) history)
history_counted caps history legal = after_counted (opening caps) history (opening_counted caps legal.0)
