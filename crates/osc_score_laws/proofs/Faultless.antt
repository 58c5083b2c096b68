-- No line of the script of a score is at fault, and as many add a method as there are addresses.
use Rattle.osc_atoms.specs.declared.limits.TheConstants.{MAX_PACKET}
use Rattle.std.proofs.Common.{◌≡◌, ℕ, zero, suc, ◌+◌, true, List, [], ◌∷◌, ◌++◌, length, take, drop, Option, Some, None, refl, sym, ap, subst, arith, take-append-drop}
use Rattle.std.specs.Prelude.{is_none}
use Rattle.std.specs.List.{AllByRecursion}
use Rattle.osc_packet.specs.Reading.{packet_fault}
use Rattle.osc_script.specs.declared.act.Act.{Act}
use Rattle.osc_script.specs.Adds.{adds_of, count_adds}
use Rattle.osc_script.specs.Written.{numbered}
use Rattle.osc_player.specs.Plain.{fault_at}
use Rattle.osc_score.specs.Scores.{Note, Group, groups_of, addresses_of, bundle_text, IsScore}
use Rattle.osc_score.specs.Scripted.{batch, batches, score_acts}
use Rattle.osc_score.proofs.Acts.{adds, sends, ticks}
use Rattle.osc_score_laws.specs.Known.{Known}
use Rattle.osc_score_laws.proofs.Playing.{IsFaultless}
use Rattle.osc_score_laws.proofs.Grouped.{groups_run}
use Rattle.osc_score_laws.proofs.Bundles.{IsPlayable, all_playable, run_accepted}
use Rattle.osc_score_laws.proofs.Lists.{all_on, all_front, all_back}

abbrev AreFaultless : List Act → Type 0
AreFaultless acts = AllByRecursion IsFaultless acts

adds_faultless : (addresses : List (List ℕ)) → AreFaultless (adds addresses)
adds_faultless [] = tt
adds_faultless (address ∷ addresses) = (λ number. refl, adds_faultless addresses)

none_is : {X : Type 0} (o : Option X) → is_none o ≡ true → o ≡ None
none_is None is = refl
none_is (Some x) is = absurd (cc)

sends_faultless : Known → (groups : List Group) → AllByRecursion IsPlayable groups → AreFaultless (sends groups)
sends_faultless known [] all = tt
sends_faultless known (group ∷ groups) all = (
  λ number. ap (fault_at number) (none_is (packet_fault MAX_PACKET (bundle_text group)) (run_accepted known group all.0)),
  sends_faultless known groups all.1,
)

ticks_faultless : (groups : List Group) → AreFaultless (ticks groups)
ticks_faultless [] = tt
ticks_faultless (group ∷ groups) = (λ number. refl, (λ number. refl, ticks_faultless groups))

batches_faultless : Known → (count : ℕ) (groups : List Group) → AllByRecursion IsPlayable groups → AreFaultless (batches count groups)
batches_faultless known zero groups all = tt
batches_faultless known (suc count) groups all =
    let first : List Group = take 16 groups in
    let more : List Group = drop 16 groups in
    let whole : AllByRecursion IsPlayable (first ++ more) = subst (AllByRecursion IsPlayable) (sym (take-append-drop 16 groups)) all in
    all_on IsFaultless (batch first) (batches count more)
    (all_on IsFaultless (sends first) (ticks first) (sends_faultless known first (all_front IsPlayable first more whole)) (ticks_faultless first))
    (batches_faultless known count more (all_back IsPlayable first more whole))

pub score_faultless : Known → (notes : List Note) → IsScore notes → AreFaultless (score_acts notes)
score_faultless known notes is =
    all_on IsFaultless (adds (addresses_of notes)) (batches (length (groups_of notes)) (groups_of notes)) (adds_faultless (addresses_of notes))
    (batches_faultless known (length (groups_of notes)) (groups_of notes) (all_playable (groups_of notes) (groups_run notes is.lawful) is.short))

-- Adds.

-- an act that adds no method
abbrev AddsNone : Act → Type 0
AddsNone act = adds_of act ≡ 0

abbrev AddNone : List Act → Type 0
AddNone acts = AllByRecursion AddsNone acts

sends_none : (groups : List Group) → AddNone (sends groups)
sends_none [] = tt
sends_none (group ∷ groups) = (refl, sends_none groups)

ticks_none : (groups : List Group) → AddNone (ticks groups)
ticks_none [] = tt
ticks_none (group ∷ groups) = (refl, (refl, ticks_none groups))

batches_none : (count : ℕ) (groups : List Group) → AddNone (batches count groups)
batches_none zero groups = tt
batches_none (suc count) groups =
    all_on AddsNone (batch (take 16 groups)) (batches count (drop 16 groups))
    (all_on AddsNone (sends (take 16 groups)) (ticks (take 16 groups)) (sends_none (take 16 groups)) (ticks_none (take 16 groups)))
    (batches_none count (drop 16 groups))

none_count : (number : ℕ) (acts : List Act) → AddNone acts → count_adds (numbered number acts) ≡ 0
none_count number [] none = refl
none_count number (act ∷ acts) none = omega (arith, none.0, none_count (number + 1) acts none.1)

adds_count : (number : ℕ) (addresses : List (List ℕ)) (acts : List Act) → AddNone acts
    → count_adds (numbered number (adds addresses ++ acts)) ≡ length addresses
adds_count number [] acts none = none_count number acts none
adds_count number (address ∷ addresses) acts none = omega (arith, adds_count (number + 1) addresses acts none)

pub score_adds : (notes : List Note) → count_adds (numbered 1 (score_acts notes)) ≡ length (addresses_of notes)
score_adds notes =
    adds_count 1 (addresses_of notes) (batches (length (groups_of notes)) (groups_of notes)) (batches_none (length (groups_of notes)) (groups_of notes))
