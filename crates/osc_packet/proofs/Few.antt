-- A packet has no more units than bytes.
use Rattle.std.proofs.Common.{◌≡◌, ℕ, zero, suc, ◌+◌, ◌-◌, ◌%◌, ◌<◌, ◌≤◌, ◌==◌, Bool, true, false, cond, List, [], ◌∷◌, ◌++◌, length, drop, Option, Some, None}
use Rattle.std.proofs.Common.{refl, ◌∙◌, ap, subst, inl, inr, arith, length-drop, length-append}
use Rattle.std.specs.Prelude.{nat_lt}
use Rattle.std.specs.List.{filter, flat_map}
use Rattle.std.proofs.lemmas.Bool.{cases_lt, ltb-false}
use Rattle.std.proofs.lemmas.List.{length-take-le}
use Rattle.osc_packet.specs.Packets.{effective_tag}
use Rattle.osc_atoms.specs.Faults.{empty, too_long, not_four}
use Rattle.osc_packet.specs.Units.{TimedUnit}
use Rattle.osc_packet.specs.Reading.{is_bundle, bundle_tag, packet_fault, element_fault, body_fault, first_size, first_element, after_first, elements_in}
use Rattle.osc_packet.specs.Reading.{bundle_read, enclosed_read, units_read}
use Rattle.osc_packet.proofs.Steps.{bundle_step, some_none}
use Rattle.osc_packet.proofs.Heads.{some_left}
use Rattle.osc_packet.proofs.Bodies.{silent_step}
use Rattle.osc_packet.proofs.Walks.{enclosed_step, enclosed_end, one_first}
use Rattle.osc_packet.proofs.Entering.{opened}

-- a packet without a fault is one element without a fault
pub record Sound (bytes : List ℕ) : Type 0 where
  pub some : 0 < length bytes
  pub short : length bytes ≤ 65504
  pub silent : element_fault 16 None 0 bytes ≡ None

pub sound : (bytes : List ℕ) → packet_fault 65504 bytes ≡ None → Sound bytes
sound bytes = go (length bytes == 0) (nat_lt 65504 (length bytes)) (length bytes % 4 == 0) refl refl where
  go : (a b c : Bool) → (length bytes == 0) ≡ a → nat_lt 65504 (length bytes) ≡ b
      → cond a (Some empty) (cond b (Some (too_long 65504)) (cond c (element_fault 16 None 0 bytes) (Some (not_four (length bytes))))) ≡ None → Sound bytes
  go true b c is_a is_b e = absurd (some_none e)
  go false true c is_a is_b e = absurd (some_none e)
  go false false false is_a is_b e = absurd (some_none e)
  go false false true is_a is_b e = record { some = some_left (length bytes) is_a; short = ltb-false 65504 (length bytes) is_b; silent = e }

abbrev BundleFew : ℕ → Type 0
BundleFew left = (outer : Option ℕ) (at : ℕ) (bytes : List ℕ) → element_fault left outer at bytes ≡ None → is_bundle bytes ≡ true
    → length (bundle_read left outer bytes) ≤ length bytes

pub one_few : (f : List ℕ → List TimedUnit) (test : Bool) (x : List ℕ) → (test ≡ true → length (f x) ≤ length x)
    → length (flat_map f (cond test (x ∷ []) [])) ≤ length x
one_few f true x few = omega (arith, few refl, length-append (f x) [])
one_few f false x few = omega arith

enclosed_few : (left : ℕ) → BundleFew left → (bound effective at : ℕ) (bytes : List ℕ) → length bytes ≤ bound
    → body_fault (element_fault left (Some effective)) at bytes ≡ None → length (enclosed_read left effective bytes) ≤ length bytes
enclosed_few left each zero effective at bytes few silent = rw (enclosed_end left effective bytes (omega arith)) (omega arith)
enclosed_few left each (suc bound) effective at bytes few silent = elim (cases_lt 0 (length bytes)) [
  | inr none ↦ rw (enclosed_end left effective bytes (omega arith)) (omega arith)
  | inl some ↦
      let f : List ℕ → List TimedUnit = bundle_read left (Some effective) in
      let step = silent_step (element_fault left (Some effective)) at bytes some silent in
      let size : length (first_element bytes) ≡ first_size bytes =
      length-take-le (first_size bytes) (drop 4 bytes) (omega (arith, length-drop 4 bytes, step.size.inside)) in
      let others : length (after_first bytes) ≡ length bytes - 4 - first_size bytes =
      length-drop (first_size bytes) (drop 4 bytes) ∙ ap (λ (n : ℕ). n - first_size bytes) (length-drop 4 bytes) in
      let rest = enclosed_few left each bound effective (at + 4 + first_size bytes) (after_first bytes) (omega (arith, step.size.positive)) step.rest in
      let one = one_few f (is_bundle (first_element bytes)) (first_element bytes) (each (Some effective) (at + 4) (first_element bytes) step.one) in
      let split : enclosed_read left effective bytes ≡ flat_map f (cond (is_bundle (first_element bytes)) (first_element bytes ∷ []) [])
      ++ enclosed_read left effective (after_first bytes) =
      enclosed_step left effective bytes some
      ∙ one_first f (is_bundle (first_element bytes)) (first_element bytes) (filter is_bundle (elements_in (after_first bytes))) in
      omega (
        arith,
        ap length split,
        length-append (flat_map f (cond (is_bundle (first_element bytes)) (first_element bytes ∷ []) []))
            (enclosed_read left effective (after_first bytes)),
        step.size.inside,
        step.size.positive,
      )
]

few_by : (left : ℕ) → (0 < left → BundleFew (left - 1)) → BundleFew left
few_by left each outer at bytes silent hash =
    let open_ = opened left outer at bytes silent hash in
    let inner = enclosed_few (left - 1) (each open_.room) (length (drop 16 bytes)) (effective_tag outer (bundle_tag bytes)) (at + 16) (drop 16 bytes)
    (omega arith) open_.silent in
    omega (arith, ap length (bundle_step left outer bytes open_.room), length-drop 16 bytes, open_.long)

bundle_few : (left : ℕ) → BundleFew left
bundle_few zero = few_by zero (λ room. absurd (omega arith))
bundle_few (suc left) = few_by (suc left) (λ room. subst BundleFew (omega arith) (bundle_few left))

-- a packet has no more units than bytes
pub units_few : (bytes : List ℕ) → packet_fault 65504 bytes ≡ None → length (units_read bytes) ≤ 65504
units_few bytes silent = go (is_bundle bytes) refl where
  whole : Sound bytes
  whole = sound bytes silent

  go : (test : Bool) → is_bundle bytes ≡ test → length (cond test (bundle_read 16 None bytes) (record { tag = 1; messages = bytes ∷ [] } ∷ [])) ≤ 65504
  go true is = omega (arith, bundle_few 16 None 0 bytes whole.silent is, whole.short)
  go false is = omega arith
