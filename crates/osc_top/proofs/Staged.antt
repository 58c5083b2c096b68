-- What became of lanes, or of links, and of their boxes, put together.
use Rattle.std.proofs.Common.{◌≡◌, ℕ, ◌<◌, ◌≤◌, Bool, true, nat_lt, List, [], ◌∷◌, ◌++◌, map, length, take, drop, All, Option, None, refl, sym, ap}
use Rattle.std.proofs.Common.{subst, ◌∙◌, append_assoc, arith}
use Rattle.std.specs.List.{list_all, AllByRecursion, flat_map}
use Rattle.std.specs.List.Sorted.{IsPermutation, IsNonDecreasingBy}
use Rattle.std.specs.Option.{option_map, option_or}
use Rattle.std.proofs.lemmas.Bool.Decides.{nat_tests}
use Rattle.std.proofs.lemmas.Bool.{and_parts}
use Rattle.std.proofs.lemmas.List.{append-nil, length-take-le, map-append}
use Rattle.std.proofs.lemmas.List.Elements.{All-from_recursion, recursion_from_All, All-head, All-tail}
use Rattle.std.proofs.lemmas.List.Sorted.{IsPermutation-map, IsPermutation-trans, IsPermutation-sym, All-permutation, Contains-permutation}
use Rattle.std.proofs.lemmas.List.Sorted.{sum_by-IsPermutation}
use Rattle.osc_method.specs.Heard.{Fixed}
use Rattle.osc_record.specs.Shown.{room_of}
use Rattle.osc_core.specs.Ids.{is_ascending}
use Rattle.osc_core.specs.Standing.{history_in, CarriesMark, mark_of}
use Rattle.osc_core.specs.Telling.{told}
use Rattle.osc_links.specs.declared.run.Hosted.{Hosted}
use Rattle.osc_links.specs.declared.served.Bounds.{Bounds}
use Rattle.osc_links.specs.Hosts.{Hosts}
use Rattle.osc_links.specs.Links.{LinkTurn}
use Rattle.osc_life.specs.Lives.{added_ids}
use Rattle.osc_lanes.specs.Performs.{removed_ids, told_of, IsWhole}
use Rattle.osc_lanes.specs.Later.{IsClosedLater}
use Rattle.osc_lanes.specs.Shares.{Account, IsRemovedAt, known_of}
use Rattle.osc_links.specs.Ticks.{ClockRead}
use Rattle.osc_live.specs.Seen.{performance_in}
use Rattle.osc_model.specs.Events.{Room}
use Rattle.osc_model.specs.Limits.{Limits}
use Rattle.osc_model.specs.Heard.{Told}
use Rattle.osc_model.specs.History.{HasHeard, invoked_in}
use Rattle.osc_model.proofs.Calls.{all_append}
use Rattle.osc_replay.specs.Printed.{printed}
use Rattle.osc_script.specs.declared.line.Line.{Line}
use Rattle.osc_ends.specs.declared.outcome.Outcome.{Outcome}
use Rattle.osc_top.specs.Lanes.{HaveHeardAll, PlaysLanes, parts_of, first_stop, lane_faults}
use Rattle.osc_top.specs.Served.{served}
use Rattle.osc_ends.specs.Outcomes.{stopped}
use Rattle.osc_script.specs.Adds.{count_adds}
use Rattle.osc_ends.specs.Printing.{last_text}
use Rattle.osc_top.specs.Served.{PlaysLinks, adds_part, link_faults}
use Rattle.osc_top.specs.Staged.{IsStaged, PerformsWatched}
use Rattle.osc_top.specs.Watched.{watched_text}
use Rattle.osc_player.specs.Tally.{IsRising}
use Rattle.osc_turn.specs.declared.view.Entry.{Entry as Seen}
use Rattle.osc_turn.specs.History.{texts}
use Rattle.osc_player.proofs.Rising.{all_weaker, ascending_told, same_rising, times}

-- Ids, ascending.

-- a box of which nothing but its id is known
abbrev named : ℕ → Told
named id = record { id = id; keep = record { most = 0; name = []; outlets = [] }; heard = None }

above_named : (id : ℕ) (ids : List ℕ) → list_all (nat_lt id) ids ≡ true → AllByRecursion (λ other. id < other.id) (map named ids)
above_named id [] above = tt
above_named id (other ∷ ids) above =
    let both = and_parts (nat_lt id other) (list_all (nat_lt id) ids) above in
    let first = both.0 in
    (grind (arith, nat_tests), above_named id ids both.1)

rising_named : (ids : List ℕ) → is_ascending ids ≡ true → IsRising (map named ids)
rising_named [] ascending = tt
rising_named (id ∷ ids) ascending =
    let both = and_parts (list_all (nat_lt id) ids) (is_ascending ids) ascending in
    (above_named id ids both.0, rising_named ids both.1)

ids_named : (ids : List ℕ) → map (λ box. box.id) (map named ids) ≡ ids
ids_named [] = refl
ids_named (id ∷ ids) = ap (λ (l : List ℕ). id ∷ l) (ids_named ids)

module _ {X : Type 0} (number : X → ℕ) where
  all_named : (xs : List X) → map named (map number xs) ≡ map (λ x. named (number x)) xs
  all_named [] = refl
  all_named (x ∷ xs) = ap (λ (l : List Told). named (number x) ∷ l) (all_named xs)

  -- sorted items have ascending numbers in their order
  pub same_ids : (ids : List ℕ) (sorted : List X) → is_ascending ids ≡ true → IsPermutation ids (map number sorted) → IsNonDecreasingBy number sorted
      → map number sorted ≡ ids
  same_ids ids sorted ascending moved ordered =
      let there : IsPermutation (map named ids) (map (λ x. named (number x)) sorted) =
      subst (IsPermutation (map named ids)) (all_named sorted) (IsPermutation-map named ids (map number sorted) moved) in
      let back = IsPermutation-sym (map named ids) (map (λ x. named (number x)) sorted) there in
      let is : map (λ x. named (number x)) sorted ≡ map named ids =
      same_rising (map (λ x. named (number x)) sorted) (map named ids) (ascending_told number (λ x. named (number x)) (λ x. refl) sorted ordered)
      (rising_named ids ascending)
      (λ id. sum_by-IsPermutation (times id) (map named ids) (map (λ x. named (number x)) sorted) there)
      (λ box held. Contains-permutation (map (λ x. named (number x)) sorted) (map named ids) box back held) in
      sym (ids_named (map number sorted)) ∙ ap (map (λ (box : Told). box.id)) (all_named sorted ∙ is) ∙ ids_named ids

-- Boxes of lanes.

-- where none were removed before
pub none_gone : {X : Type 0} (kept more sorted gone : List X) → IsPermutation (kept ++ (gone ++ more)) sorted → gone ≡ [] → IsPermutation (kept ++ more) sorted
none_gone {X} kept more sorted gone each none = subst (λ (l : List X). IsPermutation (kept ++ (l ++ more)) sorted) none each

module _ {M : Type 0} where
  -- the boxes that lanes removed
  abbrev pub all_removed : List (Account M) → List (ℕ × M)
  all_removed accounts = flat_map (λ account. account.removed) accounts

  pub ids_removed : (accounts : List (Account M)) → map (λ one. one.0) (all_removed accounts) ≡ removed_ids accounts
  ids_removed [] = refl
  ids_removed (account ∷ accounts) =
      map-append (λ (one : ℕ × M). one.0) account.removed (all_removed accounts)
      ∙ ap (λ (l : List ℕ). map (λ one. one.0) account.removed ++ l) (ids_removed accounts)

  pub each_removed : (P : ℕ × M → Type 0) (accounts : List (Account M)) → All (λ account. AllByRecursion P account.removed) accounts
      → AllByRecursion P (all_removed accounts)
  each_removed P [] each = tt
  each_removed P (account ∷ accounts) each =
      all_append P account.removed (all_removed accounts) (All-head (λ (a : Account M). AllByRecursion P a.removed) account accounts each)
      (each_removed P accounts (All-tail (λ (a : Account M). AllByRecursion P a.removed) account accounts each))

  pub each_moved : (P : ℕ × M → Type 0) (xs ys : List (ℕ × M)) → IsPermutation xs ys → AllByRecursion P xs → AllByRecursion P ys
  each_moved P xs ys moved each = recursion_from_All P ys (All-permutation P xs ys moved (All-from_recursion P xs each))

  module _ (keep : M → Fixed) (heard : M → Option (List ℕ)) where
    pub told_each : (P : Told → Type 0) (xs : List (ℕ × M)) → AllByRecursion P (told keep heard xs)
        → AllByRecursion (λ one. P (known_of keep heard one.0 one.1)) xs
    told_each P [] each = tt
    told_each P (x ∷ xs) each = (each.0, told_each P xs each.1)

    pub each_told : (P : Told → Type 0) (xs : List (ℕ × M)) → AllByRecursion (λ one. P (known_of keep heard one.0 one.1)) xs
        → AllByRecursion P (told keep heard xs)
    each_told P [] each = tt
    each_told P (x ∷ xs) each = (each.0, each_told P xs each.1)

    pub both_each : (P Q : ℕ × M → Type 0) (xs : List (ℕ × M)) → AllByRecursion P xs → AllByRecursion Q xs → AllByRecursion (λ one. P one × Q one) xs
    both_each P Q [] p q = tt
    both_each P Q (x ∷ xs) p q = ((p.0, q.0), both_each P Q xs p.1 q.1)

    -- the boxes of a server that was closed, put together
    module _ (caps : Limits) (history : List Seen) (recording : List ℕ) (kept : List (ℕ × M)) (accounts : List (Account M)) (added : List (ℕ × M))
        (closed : IsClosedLater keep heard caps [] history recording kept accounts) (moved : IsPermutation (kept ++ all_removed accounts) added)
        (ordered : IsNonDecreasingBy (λ one. one.0) added) where
      ids_are : map (λ one. one.0) added ≡ added_ids (history_in (texts history))
      ids_are =
          let ids = added_ids (history_in (texts history)) in
          let parts : map (λ one. one.0) (kept ++ all_removed accounts) ≡ map (λ one. one.0) kept ++ removed_ids accounts =
          map-append (λ (one : ℕ × M). one.0) kept (all_removed accounts)
          ∙ ap (λ (l : List ℕ). map (λ one. one.0) kept ++ l) (ids_removed accounts) in
          let here : IsPermutation ids (map (λ one. one.0) (kept ++ all_removed accounts)) = subst (IsPermutation ids) (sym parts) closed.ids in
          same_ids (λ (one : ℕ × M). one.0) ids added closed.ascending
          (IsPermutation-trans ids (map (λ one. one.0) (kept ++ all_removed accounts)) (map (λ one. one.0) added) here
          (IsPermutation-map (λ (one : ℕ × M). one.0) (kept ++ all_removed accounts) added moved)) ordered

      abbrev heard_so : Told → Type 0
      heard_so box = HasHeard (invoked_in (performance_in caps (texts history))) box

      abbrev marked_so : Told → Type 0
      marked_so box = CarriesMark (texts history) box.id (mark_of box)

      kept_are : AllByRecursion (IsRemovedAt keep heard caps history) kept
      kept_are =
          both_each (λ one. marked_so (known_of keep heard one.0 one.1)) (λ one. heard_so (known_of keep heard one.0 one.1)) kept
          (told_each marked_so kept closed.kept_marked) (told_each heard_so kept closed.kept_heard.heard)

      added_are : AllByRecursion (IsRemovedAt keep heard caps history) added
      added_are =
          let is = IsRemovedAt keep heard caps history in
          each_moved is (kept ++ all_removed accounts) added moved
          (all_append is kept (all_removed accounts) kept_are (each_removed is accounts closed.removed))

      pub all_heard : HaveHeardAll keep heard caps history added
      all_heard = record {
        ids = ids_are;
        have_heard =
            all_weaker (IsRemovedAt keep heard caps history) (λ one. heard_so (known_of keep heard one.0 one.1)) added (λ one is. is.1) added_are;
        marked =
            each_told marked_so added
            (all_weaker (IsRemovedAt keep heard caps history) (λ one. marked_so (known_of keep heard one.0 one.1)) added (λ one is. is.0) added_are);
      }

    -- the boxes that were added stand by their ids
    ascending_ids : (caps : Limits) (history : List Seen) (recording : List ℕ) (kept added : List (ℕ × M)) (accounts : List (Account M))
        → IsClosedLater keep heard caps [] history recording kept accounts → HaveHeardAll keep heard caps history added
        → is_ascending (map (λ one. one.0) added) ≡ true
    ascending_ids caps history recording kept added accounts closed boxes = subst (λ (l : List ℕ). is_ascending l ≡ true) (sym boxes.ids) closed.ascending

    pub lanes_ascending : (caps : Limits) (watched : Bool) (bank : List M) (added : List (ℕ × M)) (left : List M) (lines : List Line) (recording text : List ℕ)
        (outcome : Outcome) → PlaysLanes keep heard caps watched bank added left lines recording text outcome → is_ascending (map (λ one. one.0) added) ≡ true
    lanes_ascending caps watched bank added left lines recording text outcome plays =
        ascending_ids caps plays.performs.history recording plays.kept added plays.accounts plays.performs.closed plays.boxes

    -- lanes were played
    pub lanes_staged : (caps : Limits) (watched : Bool) (lines : List Line) (bank : List M) (recording : List ℕ) (kept : List (ℕ × M))
        (accounts : List (Account M)) (unenrolled : Option Room) (list : List ℕ) (added : List (ℕ × M))
        → PerformsWatched keep heard caps watched (parts_of lines bank) recording kept accounts unenrolled list
        → IsPermutation (kept ++ all_removed accounts) added → IsNonDecreasingBy (λ one. one.0) added → (left rest : List M) (said : List ℕ)
        (outcome : Outcome) → left ≡ flat_map (λ account. account.back) accounts ++ rest → rest ≡ drop (count_adds lines) bank
        → said ≡ lane_faults accounts ++ list → outcome ≡ stopped (option_or unenrolled (first_stop accounts))
        → IsStaged (PlaysLanes keep heard caps watched bank added left lines) caps recording said outcome
    lanes_staged caps watched lines bank recording kept accounts unenrolled list added played moved ordered left rest said outcome left_so rest_so said_so
        outcome_so =
        let performs = played.performs in
        let history = history_in (texts performs.history) in
        record {
          history = history;
          recording_of = record { legal = performs.stage.legal; text = performs.closed.recorded };
          played = record {
            kept = kept;
            accounts = accounts;
            unenrolled = unenrolled;
            performs = performs;
            boxes = all_heard caps performs.history recording kept accounts added performs.closed moved ordered;
            left_is = left_so ∙ ap (λ (l : List M). flat_map (λ account. account.back) accounts ++ l) rest_so;
            outcome_is = outcome_so;
            text_is =
                ap (λ (l : List ℕ). printed caps history ++ (l ++ last_text outcome)) (said_so ∙ ap (λ (l : List ℕ). lane_faults accounts ++ l) played.list_is)
                ∙ ap (λ (l : List ℕ). printed caps history ++ l) (append_assoc (lane_faults accounts) (watched_text watched history) (last_text outcome));
          };
        }

    -- links were served
    module _ {L : Type 0} (turns : L → Option (List LinkTurn)) (faults : L → ℕ) where
      pub links_ascending : (caps : Limits) (bounds : Bounds) (bank : List M) (links : List L) (clock : ClockRead) (added : List (ℕ × M)) (rest : List M)
          (links_after : List L) (lines : List Line) (recording text : List ℕ) (outcome : Outcome)
          → PlaysLinks keep heard turns faults caps bounds bank links clock added rest links_after lines recording text outcome
          → is_ascending (map (λ one. one.0) added) ≡ true
      links_ascending caps bounds bank links clock added rest links_after lines recording text outcome plays =
          ascending_ids caps plays.hosts.history plays.hosted.closed.bytes.items plays.hosted.closed.kept.items added (told_of plays.hosted.opening ∷ [])
          plays.hosts.closed plays.boxes

      pub links_staged : (caps : Limits) (bounds : Bounds) (lines : List Line) (bank : List M) (links : List L) (clock : ClockRead) (hosted : Hosted M L)
          (added : List (ℕ × M)) → Hosts turns faults keep heard caps bounds (adds_part lines bank) links clock hosted
          → IsPermutation (hosted.closed.kept.items ++ hosted.opening.removed.items) added → IsNonDecreasingBy (λ one. one.0) added → (left rest : List M)
          (links_after : List L) (recording said : List ℕ) (outcome : Outcome) → recording ≡ hosted.closed.bytes.items
          → left ≡ hosted.opening.back.items ++ rest → rest ≡ drop (count_adds lines) bank
          → links_after ≡ hosted.links.links.items → said ≡ link_faults hosted.links.faults.items
          → outcome ≡ served hosted.links.failed hosted.links.clock_failed
          (option_map room_of (option_or hosted.opening.stop (option_or hosted.unenrolled hosted.links.stop)))
          → IsStaged (PlaysLinks keep heard turns faults caps bounds bank links clock added left links_after lines) caps recording said outcome
      links_staged caps bounds lines bank links clock hosted added hosts moved ordered left rest links_after recording said outcome bytes_so left_so rest_so
          links_so said_so outcome_so =
          let accounts = told_of hosted.opening ∷ [] in
          let here : IsPermutation (hosted.closed.kept.items ++ all_removed accounts) added =
          subst (λ (l : List (ℕ × M)). IsPermutation (hosted.closed.kept.items ++ l) added) (sym (append-nil hosted.opening.removed.items)) moved in
          record {
            history = history_in (texts hosts.history);
            recording_of = record { legal = hosts.stage.legal; text = bytes_so ∙ hosts.closed.recorded };
            played = record {
              hosted = hosted;
              hosts = hosts;
              recorded = bytes_so;
              boxes = all_heard caps hosts.history hosted.closed.bytes.items hosted.closed.kept.items accounts added hosts.closed here ordered;
              links_are = links_so;
              left_is = left_so ∙ ap (λ (l : List M). hosted.opening.back.items ++ l) rest_so;
              outcome_is = outcome_so;
              text_is = ap (λ (l : List ℕ). printed caps (history_in (texts hosts.history)) ++ (l ++ last_text outcome)) said_so;
            };
          }

-- the front of a bank has a box for each add
pub adds_whole : {M : Type 0} (lines : List Line) (bank boxes : List M) → count_adds lines ≤ length bank → boxes ≡ take (count_adds lines) bank
    → IsWhole (record { lines = lines; boxes = boxes })
adds_whole {M} lines bank boxes enough are =
    omega (arith, ap (λ (l : List M). length l) are, length-take-le (count_adds lines) bank enough)
