-- From the life of a server with lanes to what their performance comes to.
use Rattle.std.proofs.Common.{◌≡◌, ◌≢◌, inl, inr, ℕ, zero, suc, ◌+◌, ◌<◌, ◌≤◌, cond, List, [], ◌∷◌, ◌++◌, length, get_or, map, Option, None, Some, All}
use Rattle.std.proofs.Common.{refl, sym, ap, subst, ◌∙◌, arith, append-nil, append_assoc, ne_eqb, flat_map}
use Rattle.std.specs.Prelude.{MatchOption}
use Rattle.std.specs.List.{AllByRecursion}
use Rattle.std.specs.List.Sorted.{IsPermutation}
use Rattle.std.proofs.lemmas.List.{length-map}
use Rattle.std.proofs.lemmas.List.Concat.{flat_map-append}
use Rattle.std.proofs.lemmas.List.Elements.{All-from_recursion, recursion_from_All}
use Rattle.std.proofs.lemmas.List.Sorted.{IsPermutation-refl, IsPermutation-trans, IsPermutation-append_right}
use Rattle.osc_method.specs.Heard.{Fixed}
use Rattle.osc_model.specs.Limits.{Limits}
use Rattle.osc_model.specs.Events.{Entry, Room}
use Rattle.osc_model.specs.Heard.{Told}
use Rattle.osc_model.specs.History.{Legal}
use Rattle.osc_core.specs.Standing.{history_in}
use Rattle.osc_core.specs.Telling.{told}
use Rattle.osc_turn.specs.declared.view.Entry.{Entry as Seen}
use Rattle.osc_turn.specs.declared.view.View.{View}
use Rattle.osc_turn.specs.History.{texts, own}
use Rattle.osc_live.specs.declared.caller.Caller.{Caller}
use Rattle.osc_live.specs.Resuming.{removed_in}
use Rattle.osc_live.specs.Seen.{history_of}
use Rattle.osc_life.specs.Crews.{IsLeft, enrolments}
use Rattle.osc_life.specs.Holders.{Holder, holder_at}
use Rattle.osc_life.specs.Lives.{AreShares, IsAtWork, IsLife, IsClosed, HasNoRoomToEnrol, Numbered, added_ids, id_in}
use Rattle.osc_life.proofs.Balance.{gone_ids}
use Rattle.osc_life.proofs.Ending.{gone_is}
use Rattle.osc_life.proofs.Enrolling.{left_history}
use Rattle.osc_lanes.specs.declared.part.LaneTold.{LaneTold}
use Rattle.osc_lanes.specs.declared.work.LaneWork.{LaneWork}
use Rattle.osc_lanes.specs.Shares.{Account, IsRemovedAt, LaneAfter, LaneOf, Plays, ended}
use Rattle.osc_lanes.specs.Performs.{Part, told_of, removed_ids}
use Rattle.osc_lanes.specs.Later.{old_callers, IsLaterStage, IsClosedLater, PerformsLater, Performs}
use Rattle.osc_lanes.specs.Works.{part_at}
use Rattle.osc_lanes.proofs.Parting.{given_by, given_in, parted}
use Rattle.osc_lanes.proofs.Removals.{gone, gone_in, lane_gone, told_ids}
use Rattle.osc_lanes.proofs.Staying.{StaySilent, removed_later}

-- The ids of removed methods.

enrolments_keep : (first count : ℕ) → gone_ids (enrolments first count) ≡ []
enrolments_keep first zero = refl
enrolments_keep first (suc count) = enrolments_keep (first + 1) count

-- enrolments after a history remove nothing
pub gone_enrolled : (history : List Entry) (first count : ℕ) → gone_ids (history ++ enrolments first count) ≡ removed_in history
gone_enrolled history first count =
    flat_map-append (λ (one : Entry). id_in one.answer) history (enrolments first count)
    ∙ ap (λ (l : List ℕ). gone_ids history ++ l) (enrolments_keep first count) ∙ append-nil (gone_ids history) ∙ gone_is history

pub given_joined : (history : List Seen) (first count more total : ℕ) → total ≡ count + more
    → given_in gone history first total ≡ given_in gone history first count ++ given_in gone history (first + count) more
given_joined history first zero more total is =
    let at : first ≡ first + 0 = omega arith in
    let all : total ≡ more = omega (arith, is) in
    λ i. given_in gone history (at i) (all i)
given_joined history first (suc count) more zero is = absurd (omega (arith, is))
given_joined history first (suc count) more (suc total) is =
    ap (λ (l : List ℕ). given_by gone history first ++ l)
    (given_joined history (first + 1) count more total (omega (arith, is))
    ∙ ap (λ (n : ℕ). given_in gone history (first + 1) count ++ given_in gone history n more) (let e : (first + 1) + count ≡ first + suc count = omega arith in e))
    ∙ sym (append_assoc (given_by gone history first) (given_in gone history (first + 1) count) (given_in gone history (first + suc count) more))

-- a number that no entry has has no own entries
own_none : (number : ℕ) (history : List Seen) → AllByRecursion (λ one. one.number ≢ number) history → own number history ≡ []
own_none number [] others = refl
own_none number (one ∷ history) others =
    ap (λ t. cond t (one ∷ own number history) (own number history)) (ne_eqb one.number number others.0) ∙ own_none number history others.1

-- callers who aren't at work remove nothing
none_given : (history : List Seen) (first count : ℕ) → ((number : ℕ) → first ≤ number → number < first + count → own number history ≡ [])
    → given_in gone history first count ≡ []
none_given history first zero none = refl
none_given history first (suc count) none = λ i.
    ap (flat_map gone) (none first (omega arith) (omega arith)) i
    ++ none_given history (first + 1) count (λ number from to. none number (omega (arith, from)) (omega (arith, to))) i

not_at_work : (next callers number token : ℕ) → 1 ≤ number → number < next → IsAtWork next callers token → token ≢ number
not_at_work next callers number token from below (inl is) same = omega (arith, is, same, from)
not_at_work next callers number token from below (inr at) same = omega (arith, at.0, same, below)

module _ {M : Type 0} (keep : M → Fixed) (heard : M → Option (List ℕ)) where
  -- what a lane plays as a work
  abbrev pub lane_plays : LaneWork M → LaneTold M → Holder → List Seen → List Seen → Type 0
  lane_plays work end holder here there = Plays keep heard holder work.part.lines.items work.part.boxes.items (told_of end) here there

  module _ (caps : Limits) (first history : List Seen) where
    abbrev pub IsAfter : ℕ → Part M → Account M → Type 0
    IsAfter number part account = LaneAfter keep heard (holder_at caps number) part.lines part.boxes account first history

    abbrev pub IsShare : ℕ → Part M → Account M → Type 0
    IsShare number part account = LaneOf keep heard (holder_at caps number) part.lines part.boxes account history

    lanes_of : (next : ℕ) (works : List (LaneWork M)) (ends : List (LaneTold M)) (tokens : List (List Seen))
        → AreShares lane_plays caps first history next works ends tokens → Numbered IsAfter next (map part_at works) (map told_of ends)
    lanes_of next [] [] [] all = tt
    lanes_of next (work ∷ works) (end ∷ ends) (there ∷ tokens) all =
        ((all.0.here, there, all.0.comes_after, all.0.fresh, all.0.played, all.0.onward), lanes_of (next + 1) works ends tokens all.1)
    lanes_of next [] [] (there ∷ tokens) all = absurd all
    lanes_of next [] (end ∷ ends) tokens all = absurd all
    lanes_of next (work ∷ works) [] tokens all = absurd all
    lanes_of next (work ∷ works) (end ∷ ends) [] all = absurd all

    -- a lane's share after these entries is its share
    pub shares_after : (next : ℕ) (parts : List (Part M)) (accounts : List (Account M)) → Numbered IsAfter next parts accounts
        → Numbered IsShare next parts accounts
    shares_after next [] [] all = tt
    shares_after next [] (account ∷ accounts) all = absurd all
    shares_after next (part ∷ parts) [] all = absurd all
    shares_after next (part ∷ parts) (account ∷ accounts) all = (
      (all.0.0, all.0.1, all.0.3, all.0.4, all.0.5),
      shares_after (next + 1) parts accounts all.1,
    )

    -- the ids that the history removes are those that the lanes tell
    gone_of : (next : ℕ) (parts : List (Part M)) (accounts : List (Account M)) → Numbered IsShare next parts accounts
        → Numbered (λ n part account. given_by gone history n ≡ map (λ one. one.0) account.removed) next parts accounts
    gone_of next [] [] all = tt
    gone_of next [] (account ∷ accounts) all = absurd all
    gone_of next (part ∷ parts) [] all = absurd all
    gone_of next (part ∷ parts) (account ∷ accounts) all =
        (lane_gone (holder_at caps next) keep heard part.lines part.boxes account history all.0, gone_of (next + 1) parts accounts all.1)

    -- the boxes that were removed have heard what the history says
    removed_all : StaySilent → Legal caps (history_in (texts history)) → (next : ℕ) (parts : List (Part M)) (accounts : List (Account M))
        → Numbered IsShare next parts accounts
        → AllByRecursion (λ account. AllByRecursion (IsRemovedAt keep heard caps history) account.removed) accounts
    removed_all law legal next [] [] all = tt
    removed_all law legal next [] (account ∷ accounts) all = absurd all
    removed_all law legal next (part ∷ parts) [] all = absurd all
    removed_all law legal next (part ∷ parts) (account ∷ accounts) all = (
      removed_later keep heard (holder_at caps next) law part.lines part.boxes account all.0.0 all.0.1 history all.0.3 all.0.4.0 legal,
      removed_all law legal (next + 1) parts accounts all.1,
    )

  ids_kept : (kept : List (ℕ × M)) → map (λ (box : Told). box.id) (told keep heard kept) ≡ map (λ one. one.0) kept
  ids_kept [] = refl
  ids_kept (one ∷ kept) = ap (λ (l : List ℕ). one.0 ∷ l) (ids_kept kept)

  nothing_removed : (parts : List (Part M)) → removed_ids (map (λ part. ended part.boxes None) parts) ≡ []
  nothing_removed [] = refl
  nothing_removed (part ∷ parts) = nothing_removed parts

  none_removed : (caps : Limits) (history : List Seen) (parts : List (Part M))
      → AllByRecursion (λ account. AllByRecursion (IsRemovedAt keep heard caps history) account.removed) (map (λ part. ended part.boxes None) parts)
  none_removed caps history [] = tt
  none_removed caps history (part ∷ parts) = (tt, none_removed caps history parts)

  module _ (caps : Limits) (past : List (List ℕ)) (history : List Seen) (recording : List ℕ) (kept : List (ℕ × M))
      (closed : IsClosed caps history recording (told keep heard kept)) where
    -- the ids that were added, where these were removed
    all_added : (all : List ℕ) → IsPermutation (removed_in (history_in (texts history))) all
        → IsPermutation (added_ids (history_in (texts history))) (map (λ one. one.0) kept ++ all)
    all_added all removed_are =
        let entries = history_in (texts history) in
        subst (λ (l : List ℕ). IsPermutation (added_ids entries) (l ++ all)) (ids_kept kept)
        (IsPermutation-trans (added_ids entries) (map (λ (box : Told). box.id) (told keep heard kept) ++ removed_in entries)
        (map (λ (box : Told). box.id) (told keep heard kept) ++ all) closed.ids
        (IsPermutation-append_right (map (λ (box : Told). box.id) (told keep heard kept)) (removed_in entries) all removed_are))

    pub closed_later : (accounts : List (Account M))
        → IsPermutation (gone_ids (history_in (texts history))) (removed_in (history_in past) ++ removed_ids accounts)
        → AllByRecursion (λ account. AllByRecursion (IsRemovedAt keep heard caps history) account.removed) accounts
        → IsClosedLater keep heard caps past history recording kept accounts
    closed_later accounts gone_are boxes =
        let entries = history_in (texts history) in
        let all = removed_in (history_in past) ++ removed_ids accounts in
        let removed_are : IsPermutation (removed_in entries) all = subst (λ (l : List ℕ). IsPermutation l all) (gone_is entries) gone_are in
        record {
          recorded = closed.recorded;
          ids = all_added all removed_are;
          ascending = closed.ascending;
          kept_heard = closed.heard;
          kept_marked = closed.marked;
          removed = All-from_recursion (λ account. AllByRecursion (IsRemovedAt keep heard caps history) account.removed) accounts boxes;
        }

    module _ (callers : ℕ) (stage : IsLaterStage caps past callers history) where
      gone_first : given_by gone history 0 ≡ removed_in (history_in past)
      gone_first = gone_in (own 0 history) ∙ ap gone_ids stage.enrolled ∙ gone_enrolled (history_in past) (old_callers past) callers

      -- none but caller 0 and the new callers have entries
      quiet : (number : ℕ) → 1 ≤ number → number < old_callers past → own number history ≡ []
      quiet number from below =
          own_none number history
          (recursion_from_All (λ (one : Seen). one.number ≢ number) history
          (λ k d inside. not_at_work (old_callers past) callers number (get_or history k d).number from below (stage.within k d inside)))

      below_all : (old number : ℕ) → old_callers past ≡ 1 + old → IsAtWork (old_callers past) callers number → number < suc (old + callers)
      below_all old number counted (inl is) = omega (arith, is)
      below_all old number counted (inr (from, to)) = omega (arith, counted, to)

      -- those that the history removes are those of the past and those that the lanes tell
      gone_later : (old : ℕ) → old_callers past ≡ 1 + old → (parts : List (Part M)) (accounts : List (Account M)) → callers ≡ length parts
          → Numbered (IsShare caps (own 0 history) history) (old_callers past) parts accounts
          → IsPermutation (gone_ids (history_in (texts history))) (removed_in (history_in past) ++ removed_ids accounts)
      gone_later old counted parts accounts many all =
          let mine : given_in gone history (1 + old) callers ≡ removed_ids accounts =
          ap (λ (n : ℕ). given_in gone history (1 + old) n) many
          ∙ told_ids history (1 + old) parts accounts
          (gone_of caps (own 0 history) history (1 + old) parts accounts
          (subst (λ (n : ℕ). Numbered (IsShare caps (own 0 history) history) n parts accounts) counted all)) in
          let olds : given_in gone history 1 old ≡ [] =
          none_given history 1 old (λ number from to. quiet number from (omega (arith, counted, to))) in
          let whole : given_in gone history 0 (suc (old + callers)) ≡ removed_in (history_in past) ++ removed_ids accounts =
          (λ i. gone_first i ++ given_joined history 1 old callers (old + callers) refl i)
          ∙ (λ i. removed_in (history_in past) ++ (olds i ++ mine i)) in
          let below : AllByRecursion (λ (one : Seen). one.number < suc (old + callers)) history =
          recursion_from_All (λ (one : Seen). one.number < suc (old + callers)) history
          (λ k d inside. below_all old (get_or history k d).number counted (stage.within k d inside)) in
          subst (λ (q : List ℕ × List ℕ). IsPermutation q.0 q.1) (λ i. (gone_in history i, whole i)) (parted gone (suc (old + callers)) history below)

      -- all lanes were played
      pub performs_all : StaySilent → (old : ℕ) → old_callers past ≡ 1 + old → (works : List (LaneWork M)) (ends : List (LaneTold M))
          (tokens : List (List Seen)) → callers ≡ length works
          → AreShares lane_plays caps (own 0 history) history (old_callers past) works ends tokens
          → (later : PerformsLater keep heard caps past (map part_at works) recording kept (map told_of ends) None) × (later.history ≡ history)
      performs_all law old counted works ends tokens many all =
          let parts = map part_at works in
          let accounts = map told_of ends in
          let number : callers ≡ length parts = many ∙ sym (length-map works part_at) in
          let lanes_after = lanes_of caps (own 0 history) history (old_callers past) works ends tokens all in
          let shared = shares_after caps (own 0 history) history (old_callers past) parts accounts lanes_after in (
            record {
              history = history;
              callers = callers;
              stage = stage;
              closed = closed_later accounts (gone_later old counted parts accounts number shared)
                  (removed_all caps (own 0 history) history law stage.legal (old_callers past) parts accounts shared);
              shares = (number, lanes_after);
            },
            refl,
          )

      -- there was no room for an enrolment
      pub performs_none : (works : List (LaneWork M)) (room : Room) → callers < length works → HasNoRoomToEnrol caps history room
          → (later : PerformsLater keep heard caps past (map part_at works) recording kept (map (λ part. ended part.boxes None) (map part_at works)) (Some room))
          × (later.history ≡ history)
      performs_none works room few none =
          let parts = map part_at works in
          let accounts : List (Account M) = map (λ part. ended part.boxes None) parts in
          let gone_are : gone_ids (history_in (texts history)) ≡ removed_in (history_in past) ++ removed_ids accounts =
          sym (gone_in history) ∙ ap (flat_map gone) (sym none.1) ∙ gone_first
          ∙ sym (append-nil (removed_in (history_in past))) ∙ ap (λ (l : List ℕ). removed_in (history_in past) ++ l) (sym (nothing_removed parts)) in (
            record {
              history = history;
              callers = callers;
              stage = stage;
              closed = closed_later accounts
                  (subst (IsPermutation (gone_ids (history_in (texts history)))) gone_are (IsPermutation-refl (gone_ids (history_in (texts history)))))
                  (none_removed caps history parts);
              shares = (omega (arith, few, length-map works part_at), none, refl);
            },
            refl,
          )

-- the stage of a life that goes on from a past
pub later_stage : (caps : Limits) (past : List (List ℕ)) (v : View) (others : List Caller) (callers : ℕ) (history : List Seen) → IsLeft past v others
    → IsLife caps past (history_of v) v.made callers history → IsLaterStage caps past callers history
later_stage caps past v others callers history left stage =
    subst (λ (q : List Entry × ℕ). IsLife caps past q.0 q.1 callers history)
    (λ i. (left_history past v others left i, (left.made_is ∙ sym left.old.counted) i)) stage

-- the callers of a life without a past are caller 0 and those that it enrolled
pub below : (n number : ℕ) → IsAtWork 1 n number → number ≤ n
below n number (inl is) = omega (arith, is)
below n number (inr (from, to)) = omega (arith, to)

-- where the past is none
pub fresh_performs : {M : Type 0} (keep : M → Fixed) (heard : M → Option (List ℕ)) (caps : Limits) (past : List (List ℕ)) (parts : List (Part M))
    (bytes : List ℕ) (kept : List (ℕ × M)) (accounts : List (Account M)) (unenrolled : Option Room) → past ≡ []
    → (later : PerformsLater keep heard caps past parts bytes kept accounts unenrolled)
    → (performs : Performs keep heard caps parts bytes kept accounts unenrolled) × (performs.history ≡ later.history)
fresh_performs keep heard caps past parts bytes kept accounts unenrolled none later = (
  record {
    history = later.history;
    callers = later.callers;
    stage = subst (λ (l : List (List ℕ)). IsLaterStage caps l later.callers later.history) none later.stage;
    closed = subst (λ (l : List (List ℕ)). IsClosedLater keep heard caps l later.history bytes kept accounts) none later.closed;
    shares = subst (λ (l : List (List ℕ)). MatchOption unenrolled
        ((later.callers ≡ length parts)
        × Numbered
        (λ number part account. LaneAfter keep heard (holder_at caps number) part.lines part.boxes account (own 0 later.history) later.history)
        (old_callers l) parts accounts)
        (λ room. (later.callers < length parts) × HasNoRoomToEnrol caps later.history room × (accounts ≡ map (λ part. ended part.boxes None) parts)))
        none later.shares;
  },
  refl,
)
