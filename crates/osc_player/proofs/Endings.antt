-- What has become of the boxes when a server ends.
use Rattle.std.proofs.Common.{◌≡◌, ℕ, ◌<◌, ◌≤◌, true, nat_lt, Option, arith, List, [], ◌∷◌, ◌++◌, map, length, drop, refl, sym, ap, subst}
use Rattle.std.proofs.Common.{◌∙◌, append_assoc}
use Rattle.std.specs.List.{list_all, AllByRecursion}
use Rattle.std.specs.List.Sorted.{IsPermutation, IsNonDecreasingBy}
use Rattle.std.proofs.lemmas.Bool.Decides.{nat_tests}
use Rattle.std.proofs.lemmas.Bool.{and_from}
use Rattle.std.proofs.lemmas.List.{map-append}
use Rattle.std.proofs.lemmas.List.Sorted.{IsPermutation-map, IsPermutation-sym, IsPermutation-trans, Contains-permutation, sum_by-IsPermutation}
use Rattle.osc_method.specs.Heard.{Fixed}
use Rattle.osc_model.specs.Limits.{Limits}
use Rattle.osc_model.specs.Events.{Answer, Entry}
use Rattle.osc_model.specs.Heard.{Told}
use Rattle.osc_model.specs.History.{Performance, Legal, invoked_in}
use Rattle.osc_core.specs.Ids.{is_ascending}
use Rattle.osc_core.specs.Telling.{told}
use Rattle.osc_script.specs.declared.line.Line.{Line}
use Rattle.osc_laws.specs.Laws.{KeepsTheLaws}
use Rattle.osc_player.specs.Bank.{meaning, IsAccounted, add_answers, box_left, boxes_left, boxes_heard}
use Rattle.osc_script.specs.Adds.{count_adds}
use Rattle.osc_player.specs.Plain.{plain}
use Rattle.osc_player.specs.Tally.{IsOver, IsRising, refused_boxes}
use Rattle.osc_player.specs.Tallied.{AreParted}
use Rattle.osc_player.proofs.Rising.{times, ascending_told, same_rising}

is_below : (id other number : ℕ) → other ≡ number → id < other → nat_lt id number ≡ true
is_below id other number same below = grind (arith, nat_tests)

-- the boxes of the server and those of the removed methods, in another order
gathered : {P : Type 0} (tell : P → Told) (boxes : List Told) (kept removed joined sorted : List P) → map tell kept ≡ boxes → joined ≡ kept ++ removed
    → IsPermutation joined sorted → IsPermutation (boxes ++ map tell removed) (map tell sorted)
gathered tell boxes kept removed joined sorted heard all moved =
    subst (λ (l : List Told). IsPermutation l (map tell sorted))
    (ap (map tell) all ∙ map-append tell kept removed ∙ ap (λ (l : List Told). l ++ map tell removed) heard) (IsPermutation-map tell joined sorted moved)

-- the boxes that are left: those of the refused adds, and those that no add has taken
pub left_parts : {X : Type 0} (answers : List Answer) (bank : List X) → boxes_left answers bank ≡ refused_boxes answers bank ++ drop (length answers) bank
left_parts [] bank = refl
left_parts (answer ∷ answers) [] = refl
left_parts {X} (answer ∷ answers) (box ∷ bank) =
    ap (λ (l : List X). box_left answer box ++ l) (left_parts answers bank)
    ∙ sym (append_assoc (box_left answer box) (refused_boxes answers bank) (drop (length answers) bank))

below_ids : {P : Type 0} (tell : P → Told) (number : P → ℕ) → ((one : P) → (tell one).id ≡ number one) → (id : ℕ) (ones : List P)
    → AllByRecursion (λ other. id < other.id) (map tell ones) → list_all (nat_lt id) (map number ones) ≡ true
below_ids tell number numbered id [] below = refl
below_ids tell number numbered id (one ∷ ones) below =
    and_from (nat_lt id (number one)) (list_all (nat_lt id) (map number ones)) (is_below id (tell one).id (number one) (numbered one) below.0)
    (below_ids tell number numbered id ones below.1)

-- boxes whose ids rise have ascending ids
pub rising_ids : {P : Type 0} (tell : P → Told) (number : P → ℕ) → ((one : P) → (tell one).id ≡ number one) → (ones : List P) → IsRising (map tell ones)
    → is_ascending (map number ones) ≡ true
rising_ids tell number numbered [] rising = refl
rising_ids {P} tell number numbered (one ∷ ones) rising =
    let below = below_ids tell number numbered (number one) ones
    (subst (λ (n : ℕ). AllByRecursion (λ other. n < other.id) (map tell ones)) (numbered one) rising.0) in
    and_from (list_all (nat_lt (number one)) (map number ones)) (is_ascending (map number ones)) below (rising_ids tell number numbered ones rising.1)

module _ {M : Type 0} (keep : M → Fixed) (heard : M → Option (List ℕ)) where
  -- what is told of a box under its id
  abbrev tell : ℕ × M → Told
  tell one = record { id = one.0; keep = keep one.1; heard = heard one.1 }

  pub ended : (bank : List M) (performance : Performance) (boxes : List Told) (removed kept joined sorted : List (ℕ × M)) (left rest left' : List M)
      → told keep heard kept ≡ boxes → joined ≡ kept ++ removed → IsPermutation joined sorted → IsNonDecreasingBy (λ one. one.0) sorted → left' ≡ left ++ rest
      → IsOver (meaning keep heard) bank performance boxes (told keep heard removed) left rest
      → AreParted keep heard performance bank sorted left'
  ended bank performance boxes removed kept joined sorted left rest left' heard_so all moved ascending behind over =
      let calls = boxes_heard (invoked_in performance) (add_answers performance.history) (map (meaning keep heard) bank) in
      let same : IsPermutation calls (map tell sorted) =
      IsPermutation-trans calls (boxes ++ map tell removed) (map tell sorted) over.told
      (gathered tell boxes kept removed joined sorted heard_so all moved) in
      let is : map tell sorted ≡ calls =
      same_rising (map tell sorted) calls (ascending_told (λ one. one.0) tell (λ one. refl) sorted ascending) over.rising
      (λ id. sum_by-IsPermutation (times id) calls (map tell sorted) same)
      (λ box there. Contains-permutation (map tell sorted) calls box (IsPermutation-sym calls (map tell sorted) same) there) in
      record {
        boxes = is;
        ascending = rising_ids tell (λ one. one.0) (λ one. refl) sorted (subst IsRising (sym is) over.rising);
        others = behind ∙ over.others;
      }

  -- so each box of the bank is accounted for
  pub accounted : (caps : Limits) (lines : List Line) (performance : Performance) (bank : List M) (added : List (ℕ × M)) (left : List M)
      → performance ≡ record { caps = caps; history = (plain caps lines).history } → count_adds lines ≤ length bank
      → ((limits : Limits) (history : List Entry) → Legal limits history → KeepsTheLaws limits history)
      → Legal performance.caps performance.history → AreParted keep heard performance bank added left
      → IsAccounted keep heard caps lines bank added left
  accounted caps lines performance bank added left is enough keeps legal parted =
      let there = subst (λ (p : Performance). Legal p.caps p.history × AreParted keep heard p bank added left) is (legal, parted) in
      record {
        enough = enough;
        legal = there.0;
        laws = keeps caps (plain caps lines).history there.0;
        boxes = there.1.boxes;
        others = there.1.others;
      }
