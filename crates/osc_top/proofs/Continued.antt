-- What became of lanes after a past, and of the boxes of both, put together.
use Rattle.std.proofs.Common.{◌≡◌, ◌≢◌, ℕ, zero, suc, ◌+◌, ◌<◌, ◌≤◌, ◌==◌, Bool, true, cond, nat_lt, ne_eqb, List, [], ◌∷◌, ◌++◌, map, length}
use Rattle.std.proofs.Common.{drop, filter, Option, Some, None, append_assoc, refl, sym, ap, subst, ◌∙◌, arith}
use Rattle.std.specs.Prelude.{slice_get}
use Rattle.std.specs.List.{list_all, AllByRecursion, Contains, cons_option, flat_map}
use Rattle.std.specs.List.Sorted.{IsPermutation, IsNonDecreasingBy}
use Rattle.std.specs.Option.{option_map, option_or}
use Rattle.std.proofs.lemmas.Bool.Decides.{nat_tests}
use Rattle.std.proofs.lemmas.Bool.{and_parts}
use Rattle.std.proofs.lemmas.List.{append-nil, drop-drop, length-drop, length-map, map-append}
use Rattle.std.proofs.lemmas.List.Elements.{All-contains_itself, Contains-append_left, Contains-append_right, filter-append, filter_map-append}
use Rattle.std.proofs.lemmas.List.Elements.{recursion_from_All}
use Rattle.std.proofs.lemmas.List.Sorted.{IsPermutation-map, IsPermutation-trans, Contains-permutation}
use Rattle.osc_method.specs.Heard.{Fixed, last_of}
use Rattle.osc_model.specs.Limits.{Limits}
use Rattle.osc_model.specs.State.{State, opening}
use Rattle.osc_model.specs.Events.{Answer, Entry, Invocation, Room, removed}
use Rattle.osc_model.specs.Enrolled.{callers_in}
use Rattle.osc_model.specs.Heard.{Told, bytes_of}
use Rattle.osc_model.specs.History.{Legal, HasHeard, after, invocations, invoked_in}
use Rattle.osc_model.proofs.Calls.{all_append}
use Rattle.osc_model.proofs.Onward.{after_more, invoked_more}
use Rattle.osc_laws.proofs.Members.{sent, sent_from}
use Rattle.osc_record.specs.Reading.{entry_in}
use Rattle.osc_core.specs.Ids.{is_ascending}
use Rattle.osc_core.specs.Standing.{history_in, CarriesMark, mark_of, text_with}
use Rattle.osc_turn.specs.declared.view.Entry.{Entry as Seen}
use Rattle.osc_turn.specs.declared.view.View.{View}
use Rattle.osc_turn.specs.Passes.{view}
use Rattle.osc_turn.specs.History.{entries_of, text_of, texts}
use Rattle.osc_live.specs.Resuming.{HasMarkOf, HaveHeardAll, Resumes, added_in, all_resumed, others_resumed, removed_id, removed_in}
use Rattle.osc_live.specs.Seen.{performance_in}
use Rattle.osc_live.specs.Closing.{known}
use Rattle.osc_live.specs.declared.caller.Caller.{Caller}
use Rattle.osc_live.proofs.Resumed.{RemovedLaw, opened_texts}
use Rattle.osc_lanes.specs.Shares.{Account, IsRemovedAt, known_of}
use Rattle.osc_lanes.specs.declared.part.LanePart.{LanePart}
use Rattle.osc_life.specs.Lives.{added_ids}
use Rattle.osc_lanes.specs.Performs.{Part, part_of, removed_ids}
use Rattle.osc_lanes.specs.Later.{IsClosedLater, PerformsLater}
use Rattle.osc_player.proofs.Rising.{all_weaker}
use Rattle.osc_replay.specs.Printed.{printed}
use Rattle.osc_script.specs.Adds.{count_adds}
use Rattle.osc_script.specs.declared.line.Line.{Line}
use Rattle.osc_ends.specs.declared.outcome.Outcome.{Outcome}
use Rattle.osc_ends.specs.Outcomes.{stopped}
use Rattle.osc_ends.specs.Printing.{last_text}
use Rattle.osc_top.specs.Lanes.{first_stop, lane_count, lane_faults, parts_of}
use Rattle.osc_top.specs.Resumed.{HaveHeardSince, PlaysResumed, boxes_for}
use Rattle.osc_top.specs.Staged.{IsStaged}
use Rattle.osc_top.proofs.Dealt.{parts_length}
use Rattle.osc_top.proofs.Staged.{all_removed, both_each, each_moved, each_removed, ids_removed, same_ids, told_each}

-- One id is that of one box.

module _ {X : Type 0} where
  above : (id : ℕ) (xs : List (ℕ × X)) (b : ℕ × X) → list_all (nat_lt id) (map (λ one. one.0) xs) ≡ true → Contains xs b → id < b.0
  above id [] b all (k, within, is) = absurd (omega arith)
  above id (x ∷ xs) b all (zero, within, is) =
      let first = (and_parts (nat_lt id x.0) (list_all (nat_lt id) (map (λ one. one.0) xs)) all).0 in
      let less : id < x.0 = grind (arith, nat_tests) in
      let same : x.0 ≡ b.0 = ap (λ (one : ℕ × X). one.0) is in
      omega (arith, less, same)
  above id (x ∷ xs) b all (suc k, within, is) =
      above id xs b (and_parts (nat_lt id x.0) (list_all (nat_lt id) (map (λ one. one.0) xs)) all).1 (k, omega arith, is)

  one_box : (xs : List (ℕ × X)) → is_ascending (map (λ one. one.0) xs) ≡ true → (a b : ℕ × X) → Contains xs a → Contains xs b → a.0 ≡ b.0 → a ≡ b
  one_box [] ascending a b (k, within, is) there same = absurd (omega arith)
  one_box (x ∷ xs) ascending a b (zero, within, is) (zero, inside, at) same = sym is ∙ at
  one_box (x ∷ xs) ascending a b (zero, within, is) (suc k, inside, at) same =
      let both = and_parts (list_all (nat_lt x.0) (map (λ one. one.0) xs)) (is_ascending (map (λ one. one.0) xs)) ascending in
      let first : x.0 ≡ a.0 = ap (λ (one : ℕ × X). one.0) is in
      absurd (omega (arith, above x.0 xs b both.0 (k, omega arith, at), first, same))
  one_box (x ∷ xs) ascending a b (suc k, within, is) (zero, inside, at) same =
      let both = and_parts (list_all (nat_lt x.0) (map (λ one. one.0) xs)) (is_ascending (map (λ one. one.0) xs)) ascending in
      let first : x.0 ≡ b.0 = ap (λ (one : ℕ × X). one.0) at in
      absurd (omega (arith, above x.0 xs a both.0 (k, omega arith, is), first, same))
  one_box (x ∷ xs) ascending a b (suc k, within, is) (suc j, inside, at) same =
      let both = and_parts (list_all (nat_lt x.0) (map (λ one. one.0) xs)) (is_ascending (map (λ one. one.0) xs)) ascending in
      one_box xs both.1 a b (k, omega arith, is) (j, omega arith, at) same

each_at : {X : Type 0} (P : X → Type 0) (xs : List X) → ((x : X) → Contains xs x → P x) → AllByRecursion P xs
each_at P xs each = all_weaker (Contains xs) P xs each (recursion_from_All (Contains xs) xs (All-contains_itself xs))

one_at : {X : Type 0} (P : X → Type 0) (xs : List X) (x : X) → AllByRecursion P xs → Contains xs x → P x
one_at P [] x all (k, within, is) = absurd (omega arith)
one_at P (y ∷ xs) x all (zero, within, is) = subst P is all.0
one_at P (y ∷ xs) x all (suc k, within, is) = one_at P xs x all.1 (k, omega arith, is)

all_after : {X : Type 0} (P : X → Type 0) (xs ys : List X) → AllByRecursion P (xs ++ ys) → AllByRecursion P ys
all_after P [] ys all = all
all_after P (x ∷ xs) ys all = all_after P xs ys all.1

-- Nothing calls the id of a method after a past that removed it.

pub removed_so : (answer : Answer) (id : ℕ) → removed_id answer ≡ Some id → answer ≡ removed id
removed_so (removed other) id is = let same : other ≡ id = cc in ap removed same
removed_so _ id is = absurd (cc)

-- the place where a history removes the id
abbrev RemovesAt : List Entry → ℕ → Type 0
RemovesAt history id =
    (first : List Entry) × (entry : Entry) × (later : List Entry) × (history ≡ first ++ entry ∷ later) × (entry.answer ≡ removed id)

removed_place : (history : List Entry) (id : ℕ) → Contains (removed_in history) id → RemovesAt history id
removed_place [] id (k, within, is) = absurd (omega arith)
removed_place (entry ∷ history) id held = go (removed_id entry.answer) refl held (removed_place history id) where
  later : RemovesAt history id → RemovesAt (entry ∷ history) id
  later (first, one, rest, is, removes) = (entry ∷ first, one, rest, ap (λ (l : List Entry). entry ∷ l) is, removes)

  go : (r : Option ℕ) → removed_id entry.answer ≡ r → Contains (cons_option r (removed_in history)) id
      → (Contains (removed_in history) id → RemovesAt history id) → RemovesAt (entry ∷ history) id
  go None is held rest = later (rest held)
  go (Some other) is (zero, within, at) rest = ([], entry, history, refl, removed_so entry.answer id (is ∙ ap Some at))
  go (Some other) is (suc k, within, at) rest = later (rest (k, omega arith, at))

none_called : (id : ℕ) (calls : List Invocation) → AllByRecursion (λ call. call.call.id ≢ id) calls
    → filter (λ (call : Invocation). call.call.id == id) calls ≡ []
none_called id [] all = refl
none_called id (call ∷ calls) all =
    ap (λ (t : Bool). cond t (call ∷ filter (λ (call : Invocation). call.call.id == id) calls) (filter (λ (call : Invocation). call.call.id == id) calls))
    (ne_eqb call.call.id id all.0)
    ∙ none_called id calls all.1

module _ (law : RemovedLaw) (caps : Limits) (before since : List Entry) (legal : Legal caps (before ++ since)) where
  silent_after : (id : ℕ) → Contains (removed_in before) id
      → AllByRecursion (λ call. call.call.id ≢ id) (invocations (after (opening caps) before) since)
  silent_after id held =
      let place = removed_place before id held in
      let first = place.0 in
      let entry = place.1 in
      let later = place.2 in
      let whole : before ++ since ≡ first ++ entry ∷ (later ++ since) =
      ap (λ (l : List Entry). l ++ since) place.3 ∙ append_assoc first (entry ∷ later) since in
      let start = after (opening caps) (first ++ entry ∷ []) in
      let all = recursion_from_All (λ call. call.call.id ≢ id) (invocations start (later ++ since))
      (law caps first (later ++ since) entry id (subst (Legal caps) whole legal) place.4) in
      let there : after start later ≡ after (opening caps) before =
      sym (after_more (opening caps) (first ++ entry ∷ []) later)
      ∙ ap (after (opening caps)) (append_assoc first (entry ∷ []) later ∙ sym place.3) in
      subst (λ (s : State). AllByRecursion (λ call. call.call.id ≢ id) (invocations s since)) there
      (all_after (λ call. call.call.id ≢ id) (invocations start later) (invocations (after start later) since)
      (subst (AllByRecursion (λ call. call.call.id ≢ id)) (invoked_more start later since) all))

  heard_after : (told : Told) → Contains (removed_in before) told.id → HasHeard (invocations (opening caps) before) told
      → HasHeard (invocations (opening caps) (before ++ since)) told
  heard_after told held heard =
      let p : Invocation → Bool = λ call. call.call.id == told.id in
      let first = invocations (opening caps) before in
      let more = invocations (after (opening caps) before) since in
      let same : filter p (invocations (opening caps) (before ++ since)) ≡ filter p first =
      ap (filter p) (invoked_more (opening caps) before since) ∙ filter-append p first more
      ∙ ap (λ (l : List Invocation). filter p first ++ l) (none_called told.id more (silent_after told.id held)) ∙ append-nil (filter p first) in
      heard ∙ ap (λ (l : List Invocation). option_map (λ _. last_of told.keep.most (flat_map bytes_of l)) told.heard) (sym same)

-- A mark that texts carry is carried by more of them.
carried_on : (past more : List (List ℕ)) (id : ℕ) (mark : List ℕ) → CarriesMark past id mark → CarriesMark (past ++ more) id mark
carried_on past more id mark (one, adds, read, written) = (
  one,
  adds,
  subst (λ (h : List Entry). Contains h one) (sym (filter_map-append entry_in past more))
      (Contains-append_left (history_in past) (history_in more) one read),
  Contains-append_left past more (text_with mark one) written,
)

-- The texts of a history that goes on from a past.
texts_since : (past : List (List ℕ)) (history since : List Seen) → history ≡ entries_of past ++ since → texts history ≡ past ++ texts since
texts_since past history since goes_on =
    ap texts goes_on ∙ map-append text_of (entries_of past) since ∙ ap (λ (l : List (List ℕ)). l ++ texts since) (opened_texts past)

pub history_since : (past : List (List ℕ)) (before : List Entry) (history since : List Seen) → history_in past ≡ before
    → history ≡ entries_of past ++ since → history_in (texts history) ≡ before ++ history_in (texts since)
history_since past before history since past_is goes_on =
    ap history_in (texts_since past history since goes_on) ∙ filter_map-append entry_in past (texts since)
    ∙ ap (λ (l : List Entry). l ++ history_in (texts since)) past_is

-- there are as many parts as lanes
pub parts_counted : {M : Type 0} (lines : List Line) (bank : List M) (parts : List (LanePart M)) → map part_of parts ≡ parts_of lines bank
    → length parts ≡ lane_count lines
parts_counted {M} lines bank parts dealt =
    omega (
      arith,
      length-map parts (part_of {M = M}),
      ap (λ (l : List (Part M)). length l) dealt,
      parts_length 0 (lane_count lines) lines bank,
    )

module _ {M : Type 0} (keep : M → Fixed) (heard : M → Option (List ℕ)) where
  -- The boxes of a server that was closed, and those that were removed in the past.
  module _ (caps : Limits) (before : List Entry) (bank : List M) (past : List (List ℕ)) (history since : List Seen) (recording : List ℕ)
      (kept gone added : List (ℕ × M)) (accounts : List (Account M)) (past_is : history_in past ≡ before) (goes_on : history ≡ entries_of past ++ since)
      (closed : IsClosedLater keep heard caps past history recording kept accounts) (gone_ids : map (λ one. one.0) gone ≡ removed_in before)
      (moved : IsPermutation (kept ++ (gone ++ all_removed accounts)) added) (ordered : IsNonDecreasingBy (λ one. one.0) added) where
    ids_since : map (λ one. one.0) added ≡ added_ids (history_in (texts history))
    ids_since =
        let ids = added_ids (history_in (texts history)) in
        let boxes = kept ++ (gone ++ all_removed accounts) in
        let parts : map (λ one. one.0) boxes ≡ map (λ one. one.0) kept ++ (removed_in (history_in past) ++ removed_ids accounts) =
        map-append (λ (one : ℕ × M). one.0) kept (gone ++ all_removed accounts)
        ∙ ap (λ (l : List ℕ). map (λ one. one.0) kept ++ l)
        (map-append (λ (one : ℕ × M). one.0) gone (all_removed accounts)
        ∙ (λ i. (gone_ids ∙ ap removed_in (sym past_is)) i ++ ids_removed accounts i)) in
        let here : IsPermutation ids (map (λ one. one.0) boxes) = subst (IsPermutation ids) (sym parts) closed.ids in
        same_ids (λ (one : ℕ × M). one.0) ids added closed.ascending
        (IsPermutation-trans ids (map (λ one. one.0) boxes) (map (λ one. one.0) added) here
        (IsPermutation-map (λ (one : ℕ × M). one.0) boxes added moved)) ordered

    pub ascending_since : is_ascending (map (λ one. one.0) added) ≡ true
    ascending_since = subst (λ (l : List ℕ). is_ascending l ≡ true) (sym ids_since) closed.ascending

    abbrev heard_so : ℕ × M → Type 0
    heard_so one = HasHeard (invoked_in (performance_in caps (texts history))) (known_of keep heard one.0 one.1)

    abbrev carries_so : ℕ × M → Type 0
    carries_so one = CarriesMark (texts history) one.0 (mark_of (known_of keep heard one.0 one.1))

    abbrev is_gone : ℕ × M → Type 0
    is_gone one = Contains (removed_in before) one.0

    -- what holds of the boxes that are registered at the end, of those that were removed before, and of those that lanes removed
    each_box : (P : ℕ × M → Type 0) → ((one : ℕ × M) → IsRemovedAt keep heard caps history one → P one) → AllByRecursion P gone → AllByRecursion P added
    each_box P here old =
        let there = IsRemovedAt keep heard caps history in
        let marked : AllByRecursion carries_so kept =
        told_each keep heard (λ told. CarriesMark (texts history) told.id (mark_of told)) kept closed.kept_marked in
        let hears : AllByRecursion heard_so kept =
        told_each keep heard (HasHeard (invoked_in (performance_in caps (texts history)))) kept closed.kept_heard.heard in
        each_moved P (kept ++ (gone ++ all_removed accounts)) added moved
        (all_append P kept (gone ++ all_removed accounts) (all_weaker there P kept here (both_each keep heard carries_so heard_so kept marked hears))
        (all_append P gone (all_removed accounts) old
        (all_weaker there P (all_removed accounts) here (each_removed there accounts closed.removed))))

    -- each box that was removed before has the id of one that the past removed
    gone_is : (one : ℕ × M) → Contains gone one → is_gone one
    gone_is one held = subst (λ (l : List ℕ). Contains l one.0) gone_ids (sent (λ (one : ℕ × M). one.0) gone one held)

    pub boxes_since : RemovedLaw → Legal caps (history_in (texts history)) → AllByRecursion (HasMarkOf keep heard bank) gone
        → AllByRecursion (λ one. HasHeard (invocations (opening caps) before) (known_of keep heard one.0 one.1)) gone
        → HaveHeardSince keep heard caps before bank history added
    boxes_since law legal marks hears =
        let more = history_in (texts since) in
        let whole : history_in (texts history) ≡ before ++ more = history_since past before history since past_is goes_on in
        let old_heard : AllByRecursion heard_so gone =
        each_at heard_so gone
        (λ one held. subst (λ (h : List Entry). HasHeard (invocations (opening caps) h) (known_of keep heard one.0 one.1)) (sym whole)
        (heard_after law caps before more (subst (Legal caps) whole legal) (known_of keep heard one.0 one.1) (gone_is one held)
        (one_at (λ one. HasHeard (invocations (opening caps) before) (known_of keep heard one.0 one.1)) gone one hears held))) in
        record {
          ids = ids_since;
          have_heard = each_box heard_so (λ one is. is.1) old_heard;
          old_marks =
              each_at (λ one. is_gone one → HasMarkOf keep heard bank one) added
              (λ one held is.
              let from = sent_from (λ (one : ℕ × M). one.0) gone one.0 (subst (λ (l : List ℕ). Contains l one.0) (sym gone_ids) is) in
              let there : Contains added from.0 =
              Contains-permutation (kept ++ (gone ++ all_removed accounts)) added from.0 moved
              (Contains-append_right kept (gone ++ all_removed accounts) from.0 (Contains-append_left gone (all_removed accounts) from.0 from.1)) in
              subst (HasMarkOf keep heard bank) (one_box added ascending_since from.0 one there held from.2)
              (one_at (HasMarkOf keep heard bank) gone from.0 marks from.1));
          marked =
              each_box (λ one. (is_gone one → ⊥) → carries_so one) (λ one is _. is.0)
              (each_at (λ one. (is_gone one → ⊥) → carries_so one) gone (λ one held other. absurd (other (gone_is one held))));
        }

  -- the boxes stand by their ids
  pub resumed_ascending : (caps : Limits) (before : List Entry) (bank : List M) (added : List (ℕ × M)) (left : List M) (lines : List Line)
      (recording text : List ℕ) (outcome : Outcome) → PlaysResumed keep heard caps before bank added left lines recording text outcome
      → is_ascending (map (λ one. one.0) added) ≡ true
  resumed_ascending caps before bank added left lines recording text outcome plays =
      subst (λ (l : List ℕ). is_ascending l ≡ true) (sym plays.boxes.ids) plays.performs.closed.ascending

  -- The server that goes on from a past.
  module _ (caps : Limits) (before : List Entry) (room : ℕ) (bank : List M) (limits : Limits) (opened : List (List ℕ)) (callers : List Caller)
      (gone : List (ℕ × M)) (left : List M) (is : Resumes keep heard caps before room bank limits opened (known callers) gone left) where
    pub resumed_legal : Legal limits (history_in opened)
    resumed_legal = subst (Legal limits) (sym is.read) is.legal

    pub resumed_tokens : known callers ≡ all_resumed limits opened (callers_in (history_in opened))
    resumed_tokens = is.tokens ∙ ap (λ (h : List Entry). all_resumed limits opened (callers_in h)) (sym is.read)

    others_long : (first count : ℕ) → length (others_resumed limits opened first count) ≡ count
    others_long first zero = refl
    others_long first (suc count) = ap suc (others_long (first + 1) count)

    all_long : (count : ℕ) → length (all_resumed limits opened count) ≡ count
    all_long zero = refl
    all_long (suc count) = ap suc (others_long 1 count)

    pub resumed_callers : length callers ≡ callers_in before
    resumed_callers =
        let one : Caller → ℕ × View = λ caller. (caller.number, view caller.pass) in
        omega (
          arith,
          length-map callers one,
          ap (λ (l : List (ℕ × View)). length l) is.tokens,
          all_long (callers_in before),
        )

    pub resumed_boxes : (lines : List Line) → boxes_for before lines ≤ length bank → count_adds lines ≤ length left
    resumed_boxes lines enough = omega (arith, enough, ap length is.rest, length-drop (added_in before) bank)

    -- lanes were played after it
    module _ (lines : List Line) (recording : List ℕ) (kept added : List (ℕ × M)) (accounts : List (Account M)) (unenrolled : Option Room)
        (performs : PerformsLater keep heard limits opened (parts_of lines (drop (added_in before) bank)) recording kept accounts unenrolled)
        (moved : IsPermutation (kept ++ (gone ++ all_removed accounts)) added) (ordered : IsNonDecreasingBy (λ one. one.0) added) where
      resumed_have_heard : RemovedLaw → HaveHeardAll keep heard limits before gone → HaveHeardSince keep heard limits before bank performs.history added
      resumed_have_heard law hears =
          boxes_since limits before bank opened performs.history performs.stage.since recording kept gone added accounts is.read performs.stage.goes_on
          performs.closed is.out_ids moved ordered law performs.stage.legal (recursion_from_All (HasMarkOf keep heard bank) gone is.out_marks)
          (recursion_from_All (λ one. HasHeard (invocations (opening limits) before) (known_of keep heard one.0 one.1)) gone hears)

      resumed_marks : (id : ℕ) (method : M) → slice_get bank id ≡ Some method
          → Contains (map (λ one. one.id) (after (opening limits) before).methods) id
          → CarriesMark (texts performs.history) id (mark_of (known_of keep heard id method))
      resumed_marks id method there held =
          subst (λ (l : List (List ℕ)). CarriesMark l id (mark_of (known_of keep heard id method)))
          (sym (texts_since opened performs.history performs.stage.since performs.stage.goes_on))
          (carried_on opened (texts performs.stage.since) id (mark_of (known_of keep heard id method)) (is.marked id method there held))

      pub resumed_staged : RemovedLaw → HaveHeardAll keep heard limits before gone → (boxes_left rest : List M) (said : List ℕ) (outcome : Outcome)
          → boxes_left ≡ flat_map (λ account. account.back) accounts ++ rest → rest ≡ drop (count_adds lines) left → said ≡ lane_faults accounts
          → outcome ≡ stopped (option_or unenrolled (first_stop accounts))
          → IsStaged (PlaysResumed keep heard limits before bank added boxes_left lines) limits recording said outcome
      resumed_staged law hears boxes_left rest said outcome left_so rest_so said_so outcome_so =
          let dropped : drop (count_adds lines) left ≡ drop (boxes_for before lines) bank =
          ap (drop (count_adds lines)) is.rest ∙ drop-drop (count_adds lines) (added_in before) bank
          ∙ ap (λ (n : ℕ). drop n bank) (omega arith) in
          record {
            history = history_in (texts performs.history);
            recording_of = record { legal = performs.stage.legal; text = performs.closed.recorded };
            played = record {
              past = opened;
              past_is = is.read;
              kept = kept;
              accounts = accounts;
              unenrolled = unenrolled;
              performs = performs;
              boxes = resumed_have_heard law hears;
              bank_marks = resumed_marks;
              left_is = left_so ∙ ap (λ (l : List M). flat_map (λ account. account.back) accounts ++ l) (rest_so ∙ dropped);
              outcome_is = outcome_so;
              text_is = ap (λ (l : List ℕ). printed limits (history_in (texts performs.history)) ++ (l ++ last_text outcome)) said_so;
            };
          }
