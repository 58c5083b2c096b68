-- What the boxes of a bank have heard after one more add, and after more calls.
use Rattle.std.proofs.Common.{◌≡◌, ℕ, ◌-◌, ◌<◌, ◌==◌, Bool, false, cond, List, [], ◌∷◌, ◌++◌, map, length, drop, refl, sym, ap, subst}
use Rattle.std.proofs.Common.{◌∙◌, arith, append_assoc}
use Rattle.std.specs.Option.{option_map}
use Rattle.std.specs.List.{AllByRecursion, flat_map}
use Rattle.std.proofs.lemmas.Bool.Decides.{nat_tests}
use Rattle.std.proofs.lemmas.List.{append-nil, map-append, drop_all}
use Rattle.std.proofs.lemmas.List.Sums.{sum_by-cons}
use Rattle.osc_method.specs.Heard.{last_of}
use Rattle.osc_model.specs.Events.{Answer, added, Invocation}
use Rattle.osc_model.specs.Heard.{Told, bytes_of, heard_of, reset, hear, hear_all}
use Rattle.osc_model.proofs.Boxes.{none_called, hearing, same_id}
use Rattle.osc_player.specs.Bank.{Meaning, box_heard, box_left, boxes_heard}
use Rattle.osc_player.specs.Tally.{IsRising, refused_boxes}
use Rattle.osc_player.proofs.Rising.{all_weaker, count, times, one_if}

-- what is known of boxes that hear calls
pub record HearsCalls : Type 0 where
  pub fresh : (told : Told) (calls : List Invocation)
      → hear_all calls (reset told) ≡ record told { heard = option_map (λ _. heard_of calls told.id told.keep.most) told.heard }
  pub on : (told : Told) (first more : List Invocation) → hear_all (first ++ more) told ≡ hear_all more (hear_all first told)

-- a box under an id
abbrev pub told_at : ℕ → Meaning → Told
told_at id box = record { id = id; keep = box.keep; heard = box.heard }

-- One add more, which gets the first box that waits.

pub heard_push : (calls : List Invocation) (answers : List Answer) (answer : Answer) (bank : List Meaning) (box : Meaning) (more : List Meaning)
    → drop (length answers) bank ≡ box ∷ more → boxes_heard calls (answers ++ answer ∷ []) bank ≡ boxes_heard calls answers bank ++ box_heard calls answer box
heard_push calls [] answer bank box more is = ap (boxes_heard calls (answer ∷ [])) is ∙ append-nil (box_heard calls answer box)
heard_push calls (first ∷ answers) answer [] box more is = absurd (cc)
heard_push calls (first ∷ answers) answer (one ∷ bank) box more is =
    ap (λ (l : List Told). box_heard calls first one ++ l) (heard_push calls answers answer bank box more is)
    ∙ sym (append_assoc (box_heard calls first one) (boxes_heard calls answers bank) (box_heard calls answer box))

pub refused_push : {X : Type 0} (answers : List Answer) (answer : Answer) (bank : List X) (box : X) (more : List X) → drop (length answers) bank ≡ box ∷ more
    → refused_boxes (answers ++ answer ∷ []) bank ≡ refused_boxes answers bank ++ box_left answer box
refused_push [] answer bank box more is = ap (refused_boxes (answer ∷ [])) is ∙ append-nil (box_left answer box)
refused_push (first ∷ answers) answer [] box more is = absurd (cc)
refused_push {X} (first ∷ answers) answer (one ∷ bank) box more is =
    ap (λ (l : List X). box_left first one ++ l) (refused_push answers answer bank box more is)
    ∙ sym (append_assoc (box_left first one) (refused_boxes answers bank) (box_left answer box))

pub waiting_push : {X : Type 0} (answers : List Answer) (answer : Answer) (bank : List X) (box : X) (more : List X) → drop (length answers) bank ≡ box ∷ more
    → more ≡ drop (length (answers ++ answer ∷ [])) bank
waiting_push {X} [] answer bank box more is = sym (ap (drop 1) is)
waiting_push (first ∷ answers) answer [] box more is = absurd (cc)
waiting_push (first ∷ answers) answer (one ∷ bank) box more is = waiting_push answers answer bank box more is

-- the box of an id that no call has yet has heard nothing
pub fresh_box : (id : ℕ) (calls : List Invocation) (box : Meaning) → AllByRecursion (λ call. call.call.id < id) calls
    → box_heard calls (added id) box ≡ reset (told_at id box) ∷ []
fresh_box id calls box below =
    let nothing : heard_of calls id box.keep.most ≡ [] = ap (λ (l : List Invocation). last_of box.keep.most (flat_map bytes_of l)) (none_called id calls below)
    ∙ drop_all (0 - box.keep.most) [] (omega arith) in
    ap (λ (l : List ℕ). let told : Told = record { id = id; keep = box.keep; heard = option_map (λ _. l) box.heard } in told ∷ []) nothing

-- More calls.

one_heard : HearsCalls → (calls more : List Invocation) (answer : Answer) (box : Meaning)
    → box_heard (calls ++ more) answer box ≡ map (hear_all more) (box_heard calls answer box)
one_heard law calls more (added id) box =
    ap (λ (told : Told). told ∷ [])
    (sym (law.fresh (told_at id box) (calls ++ more)) ∙ law.on (reset (told_at id box)) calls more ∙ ap (hear_all more) (law.fresh (told_at id box) calls))
one_heard law calls more _ box = refl

pub heard_more : HearsCalls → (calls more : List Invocation) (answers : List Answer) (bank : List Meaning)
    → boxes_heard (calls ++ more) answers bank ≡ map (hear_all more) (boxes_heard calls answers bank)
heard_more law calls more [] bank = refl
heard_more law calls more (answer ∷ answers) [] = refl
heard_more law calls more (answer ∷ answers) (box ∷ bank) =
    ap (λ (l : List Told). l ++ boxes_heard (calls ++ more) answers bank) (one_heard law calls more answer box)
    ∙ ap (λ (l : List Told). map (hear_all more) (box_heard calls answer box) ++ l) (heard_more law calls more answers bank)
    ∙ sym (map-append (hear_all more) (box_heard calls answer box) (boxes_heard calls answers bank))

pub below_map : (next : ℕ) (calls : List Invocation) (boxes : List Told) → AllByRecursion (λ box. box.id < next) boxes
    → AllByRecursion (λ box. box.id < next) (map (hear_all calls) boxes)
below_map next calls [] below = tt
below_map next calls (box ∷ boxes) below = (omega (arith, same_id calls box, below.0), below_map next calls boxes below.1)

above_map : (id : ℕ) (calls : List Invocation) (boxes : List Told) → AllByRecursion (λ box. id < box.id) boxes
    → AllByRecursion (λ box. id < box.id) (map (hear_all calls) boxes)
above_map id calls [] above = tt
above_map id calls (box ∷ boxes) above = (omega (arith, same_id calls box, above.0), above_map id calls boxes above.1)

pub rising_map : (calls : List Invocation) (boxes : List Told) → IsRising boxes → IsRising (map (hear_all calls) boxes)
rising_map calls [] rising = tt
rising_map calls (box ∷ boxes) rising = (
  subst (λ (n : ℕ). AllByRecursion (λ other. n < other.id) (map (hear_all calls) boxes)) (sym (same_id calls box))
      (above_map box.id calls boxes rising.0),
  rising_map calls boxes rising.1,
)

-- boxes whose ids are not called stay as they are
not_heard : (calls : List Invocation) (box : Told) → AllByRecursion (λ call. (call.call.id == box.id) ≡ false) calls → hear_all calls box ≡ box
not_heard [] box none = refl
not_heard (call ∷ calls) box none =
    let same : hear box call ≡ box = ap (λ (t : Bool). cond t (hearing box call) box) none.0 in
    ap (hear_all calls) same ∙ not_heard calls box none.1

other_test : (a b : ℕ) → one_if (a == b) ≡ 0 → (b == a) ≡ false
other_test a b differs = grind (arith, nat_tests)

pub none_hear : (calls : List Invocation) (boxes : List Told) → AllByRecursion (λ call. count call.call.id boxes ≡ 0) calls → map (hear_all calls) boxes ≡ boxes
none_hear calls [] none = refl
none_hear calls (box ∷ boxes) none =
    let here : hear_all calls box ≡ box =
    not_heard calls box
    (all_weaker (λ (call : Invocation). count call.call.id (box ∷ boxes) ≡ 0) (λ (call : Invocation). (call.call.id == box.id) ≡ false) calls
    (λ call zero_times. other_test box.id call.call.id (omega (arith, sum_by-cons (times call.call.id) box boxes, zero_times))) none) in
    let behind : map (hear_all calls) boxes ≡ boxes =
    none_hear calls boxes
    (all_weaker (λ (call : Invocation). count call.call.id (box ∷ boxes) ≡ 0) (λ (call : Invocation). count call.call.id boxes ≡ 0) calls
    (λ call zero_times. omega (arith, sum_by-cons (times call.call.id) box boxes, zero_times)) none) in
    ap (λ (b : Told). b ∷ map (hear_all calls) boxes) here ∙ ap (λ (l : List Told). box ∷ l) behind
