-- What became of the boxes, one event on.
use Rattle.std.proofs.Common.{◌≡◌, ℕ, ◌+◌, ◌<◌, ◌≤◌, List, [], ◌∷◌, ◌++◌, map, length, drop, sym, ap, subst, ◌∙◌, arith, append_assoc}
use Rattle.std.specs.List.{AllByRecursion, Contains}
use Rattle.std.specs.List.Sorted.{IsPermutation}
use Rattle.std.proofs.lemmas.List.{append-nil, map-append, drop-map}
use Rattle.std.proofs.lemmas.List.Sums.{sum_by-append}
use Rattle.std.proofs.lemmas.List.Elements.{All-from_recursion, recursion_from_All}
use Rattle.std.proofs.lemmas.List.Sorted.{IsPermutation-sym, IsPermutation-trans, IsPermutation-map, IsPermutation-append_left, IsPermutation-to_front}
use Rattle.std.proofs.lemmas.List.Sorted.{IsPermutation-middle, All-permutation, sum_by-IsPermutation}
use Rattle.osc_model.specs.Events.{Answer, added, Invocation}
use Rattle.osc_model.specs.Heard.{Told, reset, hear_all}
use Rattle.osc_model.specs.Heard.{all_hear, without_id}
use Rattle.osc_model.proofs.Calls.{all_append}
use Rattle.osc_laws.proofs.Places.{all_split}
use Rattle.osc_player.specs.Bank.{Meaning, box_left, box_heard, boxes_heard}
use Rattle.osc_player.specs.Tally.{IsRising, refused_boxes, Tally}
use Rattle.osc_player.proofs.Rising.{all_weaker, count, times, once, id_counted, id_below, one_moved, rising_push}
use Rattle.osc_player.proofs.Hearing.{HearsCalls, told_at, heard_push, refused_push, waiting_push, fresh_box, heard_more, below_map, rising_map}
use Rattle.osc_player.proofs.Hearing.{none_hear}

module _ {X : Type 0} (meaning : X → Meaning) where
  -- the next answer is given the first box that waits
  next_meaning : (answers : List Answer) (bank : List X) (box : X) (more : List X) → box ∷ more ≡ drop (length answers) bank
      → drop (length answers) (map meaning bank) ≡ meaning box ∷ map meaning more
  next_meaning answers bank box more waiting = drop-map meaning (length answers) bank ∙ ap (map meaning) (sym waiting)

  pub tally_refused : (calls : List Invocation) (answers : List Answer) (answer : Answer) (bank : List X) (next : ℕ) (boxes removed : List Told) (left : List X)
      (box : X) (more : List X)
      → ((b : X) → box_left answer b ≡ b ∷ []) → ((b : Meaning) → box_heard calls answer b ≡ [])
      → Tally meaning calls answers bank next boxes removed left (box ∷ more)
      → Tally meaning calls (answers ++ answer ∷ []) bank next boxes removed (left ++ box ∷ []) more
  tally_refused calls answers answer bank next boxes removed left box more stays silent tally =
      let heard = boxes_heard calls answers (map meaning bank) in
      let same : boxes_heard calls (answers ++ answer ∷ []) (map meaning bank) ≡ heard =
      heard_push calls answers answer (map meaning bank) (meaning box) (map meaning more) (next_meaning answers bank box more tally.waiting)
      ∙ ap (λ (l : List Told). heard ++ l) (silent (meaning box)) ∙ append-nil heard in
      record {
        refused =
            ap (λ (l : List X). l ++ box ∷ []) tally.refused ∙ ap (λ (l : List X). refused_boxes answers bank ++ l) (sym (stays box))
            ∙ sym (refused_push answers answer bank box more (sym tally.waiting));
        waiting = waiting_push answers answer bank box more (sym tally.waiting);
        told = subst (λ (l : List Told). IsPermutation l (boxes ++ removed)) (sym same) tally.told;
        rising = subst IsRising (sym same) tally.rising;
        below = subst (AllByRecursion (λ b. b.id < next)) (sym same) tally.below;
        given = tally.given;
      }

  pub tally_added : (calls : List Invocation) (answers : List Answer) (bank : List X) (next next' : ℕ) (boxes removed : List Told) (left : List X) (box : X)
      (more : List X)
      → next' ≡ next + 1
      → Tally meaning calls answers bank next boxes removed left (box ∷ more)
      → Tally meaning calls (answers ++ added next ∷ []) bank next' (boxes ++ reset (told_at next (meaning box)) ∷ []) removed left more
  tally_added calls answers bank next next' boxes removed left box more one_on tally =
      let heard = boxes_heard calls answers (map meaning bank) in
      let new = reset (told_at next (meaning box)) in
      let pushed : boxes_heard calls (answers ++ added next ∷ []) (map meaning bank) ≡ heard ++ new ∷ [] =
      heard_push calls answers (added next) (map meaning bank) (meaning box) (map meaning more) (next_meaning answers bank box more tally.waiting)
      ∙ ap (λ (l : List Told). heard ++ l) (fresh_box next calls (meaning box) tally.given) in
      let front : IsPermutation (heard ++ new ∷ []) ((boxes ++ removed) ++ new ∷ []) =
      IsPermutation-append_left (new ∷ []) heard (boxes ++ removed) tally.told in
      let moved : IsPermutation ((boxes ++ removed) ++ new ∷ []) (boxes ++ new ∷ removed) =
      IsPermutation-trans ((boxes ++ removed) ++ new ∷ []) (new ∷ (boxes ++ removed)) (boxes ++ new ∷ removed)
      (IsPermutation-to_front (boxes ++ removed) new)
      (IsPermutation-sym (boxes ++ new ∷ removed) (new ∷ (boxes ++ removed)) (IsPermutation-middle boxes new removed)) in
      let all : IsPermutation (heard ++ new ∷ []) ((boxes ++ new ∷ []) ++ removed) =
      subst (λ (l : List Told). IsPermutation (heard ++ new ∷ []) l) (sym (append_assoc boxes (new ∷ []) removed))
      (IsPermutation-trans (heard ++ new ∷ []) ((boxes ++ removed) ++ new ∷ []) (boxes ++ new ∷ removed) front moved) in
      record {
        refused = tally.refused ∙ sym (refused_push answers (added next) bank box more (sym tally.waiting) ∙ append-nil (refused_boxes answers bank));
        waiting = waiting_push answers (added next) bank box more (sym tally.waiting);
        told = subst (λ (l : List Told). IsPermutation l ((boxes ++ new ∷ []) ++ removed)) (sym pushed) all;
        rising = subst IsRising (sym pushed) (rising_push heard new tally.rising tally.below);
        below = subst (AllByRecursion (λ b. b.id < next')) (sym pushed)
            (all_append (λ (b : Told). b.id < next') heard (new ∷ [])
            (all_weaker (λ (b : Told). b.id < next) (λ (b : Told). b.id < next') heard (λ b lt. omega arith) tally.below) (omega arith, tt));
        given = all_weaker (λ (call : Invocation). call.call.id < next) (λ (call : Invocation). call.call.id < next') calls
            (λ call lt. omega arith) tally.given;
      }

  pub tally_same : (calls : List Invocation) (answers : List Answer) (bank : List X) (next next' : ℕ) (boxes removed : List Told) (left rest : List X)
      → next' ≡ next → Tally meaning calls answers bank next boxes removed left rest → Tally meaning calls answers bank next' boxes removed left rest
  tally_same calls answers bank next next' boxes removed left rest same tally =
      subst (λ (n : ℕ). Tally meaning calls answers bank n boxes removed left rest) (sym same) tally

  -- how often an id stands among the boxes
  count_once : (calls : List Invocation) (answers : List Answer) (bank : List X) (next : ℕ) (boxes removed : List Told) (left rest : List X)
      → Tally meaning calls answers bank next boxes removed left rest → (id : ℕ) → count id boxes + count id removed ≤ 1
  count_once calls answers bank next boxes removed left rest tally id =
      omega (
        arith,
        once id (boxes_heard calls answers (map meaning bank)) tally.rising,
        sum_by-IsPermutation (times id)
            (boxes_heard calls answers (map meaning bank)) (boxes ++ removed) tally.told,
        sum_by-append (times id) boxes removed,
      )

  pub tally_removed : (calls : List Invocation) (answers : List Answer) (bank : List X) (next : ℕ) (boxes removed : List Told) (left rest : List X) (box : Told)
      → Contains boxes box
      → Tally meaning calls answers bank next boxes removed left rest
      → Tally meaning calls answers bank next (without_id box.id boxes) (removed ++ box ∷ []) left rest
  tally_removed calls answers bank next boxes removed left rest box there tally =
      let heard = boxes_heard calls answers (map meaning bank) in
      let few : count box.id boxes ≤ 1 = omega (arith, count_once calls answers bank next boxes removed left rest tally box.id) in
      record {
        refused = tally.refused;
        waiting = tally.waiting;
        told = IsPermutation-trans heard (boxes ++ removed) (without_id box.id boxes ++ (removed ++ box ∷ [])) tally.told
            (one_moved boxes removed box there few);
        rising = tally.rising;
        below = tally.below;
        given = tally.given;
      }

  pub tally_released : HearsCalls
      → (calls more : List Invocation) (answers : List Answer) (bank : List X) (next : ℕ) (boxes removed : List Told) (left rest : List X)
      → AllByRecursion (λ call. Contains (map (λ box. box.id) boxes) call.call.id) more
      → Tally meaning calls answers bank next boxes removed left rest → Tally meaning (calls ++ more) answers bank next (all_hear more boxes) removed left rest
  tally_released law calls more answers bank next boxes removed left rest there tally =
      let heard = boxes_heard calls answers (map meaning bank) in
      let hears : boxes_heard (calls ++ more) answers (map meaning bank) ≡ map (hear_all more) heard = heard_more law calls more answers (map meaning bank) in
      let silent : map (hear_all more) removed ≡ removed =
      none_hear more removed
      (all_weaker (λ (call : Invocation). Contains (map (λ (box : Told). box.id) boxes) call.call.id)
      (λ (call : Invocation). count call.call.id removed ≡ 0) more
      (λ call inside. omega (arith, count_once calls answers bank next boxes removed left rest tally call.call.id, id_counted boxes call.call.id inside))
      there) in
      let within : AllByRecursion (λ box. box.id < next) boxes =
      (all_split (λ (box : Told). box.id < next) boxes removed
      (recursion_from_All (λ (box : Told). box.id < next) (boxes ++ removed)
      (All-permutation (λ (box : Told). box.id < next) heard (boxes ++ removed) tally.told
      (All-from_recursion (λ (box : Told). box.id < next) heard tally.below)))).0 in
      let both : map (hear_all more) (boxes ++ removed) ≡ all_hear more boxes ++ removed =
      map-append (hear_all more) boxes removed ∙ ap (λ (l : List Told). map (hear_all more) boxes ++ l) silent in
      record {
        refused = tally.refused;
        waiting = tally.waiting;
        told = subst (λ (l : List Told). IsPermutation l (all_hear more boxes ++ removed)) (sym hears)
            (subst (IsPermutation (map (hear_all more) heard)) both (IsPermutation-map (hear_all more) heard (boxes ++ removed) tally.told));
        rising = subst IsRising (sym hears) (rising_map more heard tally.rising);
        below = subst (AllByRecursion (λ box. box.id < next)) (sym hears) (below_map next more heard tally.below);
        given = all_append (λ (call : Invocation). call.call.id < next) calls more tally.given
            (all_weaker (λ (call : Invocation). Contains (map (λ (box : Told). box.id) boxes) call.call.id) (λ (call : Invocation). call.call.id < next) more
            (λ call inside. id_below boxes call.call.id next inside within) there);
      }
