-- A walk goes on into the next bundle.
use Rattle.std.proofs.Common.{◌≡◌, ℕ, zero, suc, ◌+◌, ◌-◌, ◌<◌, ◌≤◌, ◌==◌, Bool, true, false, cond, List, ◌∷◌, ◌++◌, length, drop, set, Option, Some, None}
use Rattle.std.proofs.Common.{Result, Ok, Err, refl, sym, ◌∙◌, ap, subst, arith}
use Rattle.std.specs.Prelude.{slice_index}
use Rattle.std.proofs.lemmas.Bool.{cond-false}
use Rattle.std.proofs.lemmas.Bool.Decides.{nat_tests}
use Rattle.std.proofs.lemmas.List.{get_or-set_same, get_or-set_other}
use Rattle.osc_atoms.specs.declared.fault.Fault.{Fault}
use Rattle.osc_packet.specs.declared.walk.OpenBundle.{OpenBundle}
use Rattle.osc_packet.specs.declared.walk.Found.{Found}
use Rattle.osc_packet.specs.Packets.{effective_tag}
use Rattle.osc_atoms.specs.Faults.{start}
use Rattle.osc_packet.specs.Units.{TimedUnit}
use Rattle.osc_packet.specs.Wants.{part}
use Rattle.osc_packet.specs.Contents.{own_fault}
use Rattle.osc_packet.specs.Reading.{is_bundle, bundle_tag, head_read, fault_or, message_fault_at, element_fault, body_fault, messages_in, enclosed_read}
use Rattle.osc_packet.specs.Walks.{bundle_at, units_from, IsWalk, IsNext}
use Rattle.osc_packet.proofs.Steps.{element_fault_is, bundle_step, some_none}
use Rattle.osc_packet.proofs.Heads.{head_ok}
use Rattle.osc_packet.proofs.Parts.{part_length, part_rest}
use Rattle.osc_packet.proofs.Bodies.{weaker, message_anywhere}

-- a bundle that is read without a fault
pub record Opened (left : ℕ) (outer : Option ℕ) (at : ℕ) (bytes : List ℕ) : Type 0 where
  pub long : 16 ≤ length bytes
  pub room : 0 < left
  pub silent : body_fault (element_fault (left - 1) (Some (effective_tag outer (bundle_tag bytes)))) (at + 16) (drop 16 bytes) ≡ None

pub opened : (left : ℕ) (outer : Option ℕ) (at : ℕ) (bytes : List ℕ) → element_fault left outer at bytes ≡ None → is_bundle bytes ≡ true
    → Opened left outer at bytes
opened left outer at bytes silent hash = go (head_read left outer at bytes) refl
    (ap (λ (b : Bool). cond b (fault_or (head_read left outer at bytes) inner) (Some (start at))) (sym hash) ∙ sym (cond-false _ _ _ no_slash)
    ∙ sym (element_fault_is left outer at bytes) ∙ silent)
  where
    inner : ℕ → Option Fault
    inner effective = body_fault (element_fault (left - 1) (Some effective)) (at + 16) (drop 16 bytes)

    no_slash : (slice_index bytes 0 == 47) ≡ false
    no_slash = grind (arith, nat_tests)

    go : (r : Result ℕ Fault) → head_read left outer at bytes ≡ r → fault_or (head_read left outer at bytes) inner ≡ None → Opened left outer at bytes
    go (Err fault) is e = absurd (some_none (ap (λ (r : Result ℕ Fault). fault_or r inner) (sym is) ∙ e))
    go (Ok effective) is e =
        let head = head_ok left outer at bytes effective is in
        record {
          long = head.long;
          room = head.room;
          silent = ap inner (sym head.is) ∙ ap (λ (r : Result ℕ Fault). fault_or r inner) (sym is) ∙ e;
        }

-- an element without a fault is a bundle or a message
pub element_own : (left : ℕ) (outer : Option ℕ) (at to : ℕ) (bytes : List ℕ) → element_fault left outer at bytes ≡ None → own_fault to bytes ≡ None
element_own left outer at to bytes silent = go (slice_index bytes 0 == 47) (is_bundle bytes) (sym (element_fault_is left outer at bytes) ∙ silent) where
  inner : ℕ → Option Fault
  inner effective = body_fault (element_fault (left - 1) (Some effective)) (at + 16) (drop 16 bytes)

  go : (s h : Bool) → cond s (message_fault_at at bytes) (cond h (fault_or (head_read left outer at bytes) inner) (Some (start at))) ≡ None
      → cond h None (message_fault_at to bytes) ≡ None
  go s true e = refl
  go true false e = message_anywhere at to bytes e
  go false false e = absurd (some_none e)

pub body_own : (left effective at : ℕ) (bytes : List ℕ) → body_fault (element_fault left (Some effective)) at bytes ≡ None → body_fault own_fault 0 bytes ≡ None
body_own left effective at bytes silent =
    weaker (element_fault left (Some effective)) own_fault (λ from to element fine. element_own left (Some effective) from to element fine) at 0 bytes silent

module _ (bytes : List ℕ) (bundles : List OpenBundle) (at : ℕ) (new : OpenBundle) where
  -- the bundles below are as they were
  pub below_same : (depth : ℕ) → depth < at → bundle_at (set bundles at new) depth ≡ bundle_at bundles depth
  below_same depth below = get_or-set_other bundles at depth new (record { end = 0; tag = 0 }) (λ e. absurd (omega arith))

  pub walk_same : (depth place : ℕ) → depth ≤ at → IsWalk bytes bundles depth place → IsWalk bytes (set bundles at new) depth place
  walk_same zero place few walk = tt
  walk_same (suc depth) place few walk =
      let P : OpenBundle → Type 0 = λ b. (place ≤ b.end) × (b.end ≤ length bytes)
      × (body_fault (element_fault (16 - suc depth) (Some b.tag)) place (part bytes place b.end) ≡ None) × IsWalk bytes (set bundles at new) depth b.end in
      subst P (sym (below_same depth (omega arith))) (walk.0, walk.1, walk.2, walk_same depth (bundle_at bundles depth).end (omega arith) walk.3)

  pub units_same : (depth place : ℕ) → depth ≤ at → units_from bytes (set bundles at new) depth place ≡ units_from bytes bundles depth place
  units_same zero place few = refl
  units_same (suc depth) place few =
      ap (λ (b : OpenBundle). enclosed_read (16 - suc depth) b.tag (part bytes place b.end) ++ units_from bytes (set bundles at new) depth b.end)
      (below_same depth (omega arith))
      ∙ ap (λ (l : List TimedUnit). enclosed_read (16 - suc depth) (bundle_at bundles depth).tag (part bytes place (bundle_at bundles depth).end) ++ l)
      (units_same depth (bundle_at bundles depth).end (omega arith))

-- the walk in the bundle that was found
pub record Entered (bytes : List ℕ) (bundles : List OpenBundle) (depth place : ℕ) (found : Found) (effective : ℕ) : Type 0 where
  pub shallow : found.depth < 16
  pub long : 16 ≤ length (part bytes found.place found.end)
  pub sound : body_fault own_fault 0 (drop 16 (part bytes found.place found.end)) ≡ None
  pub walk : IsWalk bytes (set bundles found.depth (record { end = found.end; tag = effective })) (suc found.depth) (found.place + 16)
  pub units : units_from bytes bundles depth place
      ≡ record { tag = effective; messages = messages_in (drop 16 (part bytes found.place found.end)) }
      ∷ units_from bytes (set bundles found.depth (record { end = found.end; tag = effective })) (suc found.depth) (found.place + 16)

pub entered : (bytes : List ℕ) (bundles : List OpenBundle) (depth place : ℕ) (found : Found) (effective : ℕ) → length bundles ≡ 16
    → IsNext bytes bundles depth place found
    → effective ≡ effective_tag (Some (bundle_at bundles (found.depth - 1)).tag) (bundle_tag (part bytes found.place found.end))
    → Entered bytes bundles depth place found effective
entered bytes bundles depth place found effective size next is =
    let own : List ℕ = part bytes found.place found.end in
    let outer : ℕ = (bundle_at bundles (found.depth - 1)).tag in
    let left : ℕ = 16 - found.depth in
    let new : OpenBundle = record { end = found.end; tag = effective } in
    let open_ = opened left (Some outer) found.place own next.silent next.bundle in
    let few : found.depth < 16 = omega (arith, open_.room) in
    let long : found.place + 16 ≤ found.end = omega (arith, open_.long, part_length bytes found.place found.end next.inside) in
    let here : bundle_at (set bundles found.depth new) found.depth ≡ new =
    get_or-set_same bundles found.depth new (record { end = 0; tag = 0 }) (omega arith) in
    let rest_is : drop 16 own ≡ part bytes (found.place + 16) found.end = part_rest bytes found.place found.end 16 long in
    let same_left : left - 1 ≡ 16 - suc found.depth = omega arith in
    let silent : body_fault (element_fault (left - 1) (Some effective)) (found.place + 16) (drop 16 own) ≡ None =
    ap (λ (n : ℕ). body_fault (element_fault (left - 1) (Some n)) (found.place + 16) (drop 16 own)) is ∙ open_.silent in
    let silent_there : body_fault (element_fault (16 - suc found.depth) (Some effective)) (found.place + 16) (part bytes (found.place + 16) found.end) ≡ None =
    ap (λ (n : ℕ). body_fault (element_fault n (Some effective)) (found.place + 16) (part bytes (found.place + 16) found.end)) (sym same_left)
    ∙ ap (body_fault (element_fault (left - 1) (Some effective)) (found.place + 16)) (sym rest_is) ∙ silent in
    let P : OpenBundle → Type 0 = λ b. (found.place + 16 ≤ b.end) × (b.end ≤ length bytes)
    × (body_fault (element_fault (16 - suc found.depth) (Some b.tag)) (found.place + 16) (part bytes (found.place + 16) b.end) ≡ None)
    × IsWalk bytes (set bundles found.depth new) found.depth b.end in
    record {
      shallow = few;
      long = open_.long;
      sound = body_own (left - 1) effective (found.place + 16) (drop 16 own) silent;
      walk = subst P (sym here) (long, next.inside, silent_there, walk_same bytes bundles found.depth new found.depth found.end (omega arith) next.rest);
      units =
          next.units
          ∙ ap (λ (l : List TimedUnit). l ++ units_from bytes bundles found.depth found.end) (bundle_step left (Some outer) own open_.room)
          ∙ ap (λ (n : ℕ). record { tag = n; messages = messages_in (drop 16 own) }
          ∷ (enclosed_read (left - 1) n (drop 16 own) ++ units_from bytes bundles found.depth found.end)) (sym is)
          ∙ ap (λ (l : List TimedUnit). record { tag = effective; messages = messages_in (drop 16 own) } ∷ l)
          (ap (λ (n : ℕ). enclosed_read n effective (drop 16 own) ++ units_from bytes bundles found.depth found.end) same_left
          ∙ ap (λ (l : List ℕ). enclosed_read (16 - suc found.depth) effective l ++ units_from bytes bundles found.depth found.end) rest_is
          ∙ ap (λ (l : List TimedUnit). enclosed_read (16 - suc found.depth) effective (part bytes (found.place + 16) found.end) ++ l)
          (sym (units_same bytes bundles found.depth new found.depth found.end (omega arith)))
          ∙ ap (λ (b : OpenBundle). enclosed_read (16 - suc found.depth) b.tag (part bytes (found.place + 16) b.end)
          ++ units_from bytes (set bundles found.depth new) found.depth b.end) (sym here));
    }
