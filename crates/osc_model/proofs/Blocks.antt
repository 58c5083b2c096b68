-- The units of a packet take no more blocks than it has bytes.
use Rattle.std.proofs.Common.{◌≡◌, ℕ, zero, suc, ◌+◌, ◌-◌, ◌/◌, ◌<◌, ◌≤◌, Bool, true, false, not, cond, List, [], ◌∷◌, ◌++◌, length, length-drop, drop, filter}
use Rattle.std.proofs.Common.{Option, Some, None, is_none, IsTrue, inl, inr, refl, ap, subst, ◌∙◌, arith}
use Rattle.std.specs.List.{flat_map}
use Rattle.std.proofs.lemmas.Bool.{cases_lt}
use Rattle.std.proofs.lemmas.List.{length-take-le, append-nil}
use Rattle.osc_packet.specs.Packets.{effective_tag}
use Rattle.osc_packet.specs.Units.{TimedUnit, stored_size, blocks_of}
use Rattle.osc_packet.specs.Reading.{is_bundle, is_packet, bundle_tag, packet_fault, element_fault, body_fault, first_size, first_element, after_first, elements_in}
use Rattle.osc_packet.specs.Reading.{messages_in, bundle_read, enclosed_read, units_read}
use Rattle.osc_packet.proofs.Steps.{bundle_step}
use Rattle.osc_packet.proofs.Bodies.{silent_step, messages_step, messages_end}
use Rattle.osc_packet.proofs.Walks.{enclosed_step, enclosed_end, one_first}
use Rattle.osc_packet.proofs.Entering.{opened}
use Rattle.osc_packet.proofs.Few.{Sound, sound}

pub blocks_joined : (first more : List TimedUnit) → blocks_of (first ++ more) ≡ blocks_of first + blocks_of more
blocks_joined [] more = omega arith
blocks_joined (unit ∷ first) more = omega (arith, blocks_joined first more)

-- a unit takes no more blocks than bytes
pub blocks_few : (size : ℕ) → (size + 63) / 64 ≤ size
blocks_few size = omega arith

abbrev BundleFew : ℕ → Type 0
BundleFew left = (outer : Option ℕ) (at : ℕ) (bytes : List ℕ) → element_fault left outer at bytes ≡ None → is_bundle bytes ≡ true
    → blocks_of (bundle_read left outer bytes) ≤ length bytes

-- the messages among elements, each after its size, and the units of the bundles among them
abbrev taken : ℕ → ℕ → List ℕ → ℕ
taken left effective bytes = stored_size (messages_in bytes) + blocks_of (enclosed_read left effective bytes)

none_taken : (left effective : ℕ) (bytes : List ℕ) → length bytes ≡ 0 → taken left effective bytes ≤ length bytes
none_taken left effective bytes none = rw (messages_end bytes none, enclosed_end left effective bytes none) (omega arith)

-- one element more
one_taken : (f : List ℕ → List TimedUnit) (test : Bool) (x : List ℕ) (messages : List (List ℕ)) (more size : ℕ) → (test ≡ true → blocks_of (f x) ≤ length x)
    → stored_size messages + more ≤ size
    → stored_size (cond (not test) (x ∷ messages) messages) + (blocks_of (flat_map f (cond test (x ∷ []) [])) + more) ≤ 4 + length x + size
one_taken f true x messages more size few rest = omega (arith, few refl, ap blocks_of (append-nil (f x)))
one_taken f false x messages more size few rest = omega arith

enclosed_few : (left : ℕ) → BundleFew left → (bound effective at : ℕ) (bytes : List ℕ) → length bytes ≤ bound
    → body_fault (element_fault left (Some effective)) at bytes ≡ None → taken left effective bytes ≤ length bytes
enclosed_few left each zero effective at bytes few silent = none_taken left effective bytes (omega arith)
enclosed_few left each (suc bound) effective at bytes few silent = elim (cases_lt 0 (length bytes)) [
  | inr none ↦ none_taken left effective bytes (omega arith)
  | inl some ↦
      let f : List ℕ → List TimedUnit = bundle_read left (Some effective) in
      let x : List ℕ = first_element bytes in
      let step = silent_step (element_fault left (Some effective)) at bytes some silent in
      let size : length (first_element bytes) ≡ first_size bytes =
      length-take-le (first_size bytes) (drop 4 bytes) (omega (arith, length-drop 4 bytes, step.size.inside)) in
      let others : length (after_first bytes) ≡ length bytes - 4 - first_size bytes =
      length-drop (first_size bytes) (drop 4 bytes) ∙ ap (λ (n : ℕ). n - first_size bytes) (length-drop 4 bytes) in
      let rest = enclosed_few left each bound effective (at + 4 + first_size bytes) (after_first bytes) (omega (arith, step.size.positive)) step.rest in
      let one = one_taken f (is_bundle x) x (messages_in (after_first bytes)) (blocks_of (enclosed_read left effective (after_first bytes)))
      (length (after_first bytes)) (each (Some effective) (at + 4) x step.one) rest in
      let split : enclosed_read left effective bytes ≡ flat_map f (cond (is_bundle x) (x ∷ []) []) ++ enclosed_read left effective (after_first bytes) =
      enclosed_step left effective bytes some ∙ one_first f (is_bundle x) x (filter is_bundle (elements_in (after_first bytes))) in
      let joined : blocks_of (enclosed_read left effective bytes)
      ≡ blocks_of (flat_map f (cond (is_bundle x) (x ∷ []) [])) + blocks_of (enclosed_read left effective (after_first bytes)) =
      ap blocks_of split ∙ blocks_joined (flat_map f (cond (is_bundle x) (x ∷ []) [])) (enclosed_read left effective (after_first bytes)) in
      omega (arith, one, joined, ap stored_size (messages_step bytes some), size, others, step.size.inside)
]

few_by : (left : ℕ) → (0 < left → BundleFew (left - 1)) → BundleFew left
few_by left each outer at bytes silent hash =
    let open_ = opened left outer at bytes silent hash in
    let tag = effective_tag outer (bundle_tag bytes) in
    let inner = enclosed_few (left - 1) (each open_.room) (length (drop 16 bytes)) tag (at + 16) (drop 16 bytes) (omega arith) open_.silent in
    omega (
      arith,
      ap blocks_of (bundle_step left outer bytes open_.room),
      length-drop 16 bytes,
      open_.long,
      blocks_few
          (stored_size (messages_in (drop 16 bytes))),
    )

bundle_few : (left : ℕ) → BundleFew left
bundle_few zero = few_by zero (λ room. absurd (omega arith))
bundle_few (suc left) = few_by (suc left) (λ room. subst BundleFew (omega arith) (bundle_few left))

-- a packet's units take few blocks
pub packet_few : (bytes : List ℕ) → packet_fault 65504 bytes ≡ None → blocks_of (units_read bytes) ≤ 65508
packet_few bytes silent = go (is_bundle bytes) refl where
  whole : Sound bytes
  whole = sound bytes silent

  go : (test : Bool) → is_bundle bytes ≡ test → blocks_of (cond test (bundle_read 16 None bytes) (record { tag = 1; messages = bytes ∷ [] } ∷ [])) ≤ 65508
  go true is = omega (arith, bundle_few 16 None 0 bytes whole.silent is, whole.short)
  go false is = omega (arith, whole.short, blocks_few (4 + length bytes + 0))

-- where a packet is valid, it has no fault
pub no_fault : (packet : List ℕ) → IsTrue (is_packet 65504 packet) → packet_fault 65504 packet ≡ None
no_fault packet lawful = go (packet_fault 65504 packet) lawful where
  go : {F : Type 0} (o : Option F) → is_none o ≡ true → o ≡ None
  go None is = refl
  go (Some fault) is = absurd (cc)

-- a valid packet's units take few blocks
pub valid_few : (packet : List ℕ) → IsTrue (is_packet 65504 packet) → blocks_of (units_read packet) ≤ 65508
valid_few packet lawful = packet_few packet (no_fault packet lawful)
