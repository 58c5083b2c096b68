-- A release takes the least unit.
use Rattle.std.proofs.Common.{◌≡◌, ℕ, ◌+◌, ◌*◌, ◌≤◌, inl, inr, Bool, true, false, cond, nat_le, List, [], ◌∷◌, length, Some, None, refl, ap, arith, leb-true}
use Rattle.std.proofs.Common.{leb-false}
use Rattle.std.proofs.lemmas.List.{length-map}
use Rattle.std.proofs.lemmas.List.Sorted.{IsPermutation-refl}
use Rattle.osc_queue.specs.Timed.{due_of, IsInOrder}
use Rattle.osc_queue.proofs.Orders.{head_least, none_is_due}
use Rattle.osc_model.specs.State.{Queued, State}
use Rattle.osc_model.specs.Counts.{free_bytes}
use Rattle.osc_model.specs.Recordings.{entry_size}
use Rattle.osc_model.specs.Events.{Call, Hit, release, nothing_due, record_full, adds_entry}
use Rattle.osc_model.specs.Step.{Stepped, step, leaves, calls_of_unit, hits_of, releases, recorded_as}
use Rattle.osc_model.specs.Releases.{ReleasesLeast, release_size}
use Rattle.osc_model.proofs.Stepping.{recorded_so}

-- a state with another queue
abbrev pub with_queue : State → List Queued → State
with_queue state queue = record state { queue = queue }

-- the bytes of a release's entry, counted by its hits
abbrev size_by_hits : State → Queued → ℕ
size_by_hits state unit = 44 + 8 * length (hits_of (calls_of_unit state.methods unit))

same_size : (state : State) (unit : Queued) → size_by_hits state unit ≡ release_size state unit
same_size state unit =
    ap (λ (n : ℕ). 44 + 8 * n)
    (length-map (calls_of_unit state.methods unit) (λ (call : Call). let hit : Hit = record { index = call.index; id = call.id } in hit))

-- a first unit that is due is taken where there is room for the entry
first_taken : (state : State) (unit : Queued) (units : List Queued) → IsInOrder (unit ∷ units) → due_of unit ≤ state.clock
    → ReleasesLeast (with_queue state (unit ∷ units))
    (recorded_as (with_queue state (unit ∷ units)) (size_by_hits state unit) (releases (with_queue state (unit ∷ units)) unit units))
first_taken state unit units ordered due =
    let whole = with_queue state (unit ∷ units) in
    let same : size_by_hits state unit ≡ release_size state unit = same_size state unit in
    recorded_so (ReleasesLeast whole) whole (size_by_hits state unit) (releases whole unit units)
    (record {
      silent = λ none. absurd (cc);
      full = λ some full.
          inr (inr (record {
            unit = unit;
            queued = (0, omega arith, refl);
            due = due;
            least = head_least unit units ordered;
            full = omega arith;
            answer = ap (λ (n : ℕ). record_full (record { need = n; free = free_bytes state })) same;
            kept = refl;
            none = refl;
          }));
      room = λ some fits.
          inl (record {
            unit = unit;
            due = due;
            least = head_least unit units ordered;
            others = IsPermutation-refl (unit ∷ units);
            room = omega arith;
            kept = ap (λ (n : ℕ). let taken : State = record state { queue = units; recorded = state.recorded + n } in taken) same;
            answer = refl;
            invoked = refl;
          });
    })

pub releases_least : (state : State) (queue : List Queued) → IsInOrder queue → ReleasesLeast (with_queue state queue) (step (with_queue state queue) release)
releases_least state [] ordered = inr (inl (record { later = tt; next = None; answer = refl; first = refl; kept = refl; none = refl }))
releases_least state (unit ∷ units) ordered = go (nat_le (due_of unit) state.clock) refl where
  whole : State
  whole = with_queue state (unit ∷ units)

  either : Bool → Stepped
  either t = cond t (releases whole unit units) (leaves whole (nothing_due (Some (due_of unit))))

  go : (t : Bool) → nat_le (due_of unit) state.clock ≡ t
      → ReleasesLeast whole (cond (adds_entry (either t).answer) (recorded_as whole (entry_size release (either t).answer) (either t)) (either t))
  go true e = first_taken state unit units ordered (leb-true _ _ e)
  go false e =
      inr (inl (record {
        later = none_is_due state.clock unit units ordered (leb-false _ _ e);
        next = Some (due_of unit);
        answer = refl;
        first = (unit, (0, omega arith, refl), head_least unit units ordered, refl);
        kept = refl;
        none = refl;
      }))
