-- The result of a server's life: one history, and each worker's share of it.
use Rattle.std.specs.Prelude.{◌≡◌, ◌⊎◌, ℕ, ◌+◌, ◌<◌, ◌≤◌, true, IsTrue, List, [], ◌∷◌, ◌++◌, length}
use Rattle.std.specs.Prelude.{map, All, Option, Some, None}
use Rattle.std.specs.List.{flat_map}
use Rattle.std.specs.List.Sorted.{IsPermutation}
use Rattle.osc_model.specs.Limits.{Limits}
use Rattle.osc_model.specs.Events.{Answer, Entry, Room, enrol, added, removed, record_full}
use Rattle.osc_model.specs.Recordings.{record_text}
use Rattle.osc_model.specs.Heard.{Told}
use Rattle.osc_model.specs.History.{Legal, HaveHeard, stepped_in}
use Rattle.osc_laws.specs.Laws.{KeepsTheLaws}
use Rattle.osc_record.specs.Shown.{room_of}
use Rattle.osc_core.specs.Ids.{is_ascending}
use Rattle.osc_core.specs.Standing.{history_in, AreMarked}
use Rattle.osc_turn.specs.declared.view.Entry.{Entry as Seen}
use Rattle.osc_turn.specs.declared.view.View.{View}
use Rattle.osc_turn.specs.History.{StartsWith, texts, entries_of, own}
use Rattle.osc_live.specs.Resuming.{removed_in}
use Rattle.osc_live.specs.Seen.{history_of, performance_in, names}
use Rattle.osc_life.specs.declared.life.Played.{Played}
use Rattle.osc_life.specs.declared.life.Played.TheVariants.{Each, NoRoom}
use Rattle.osc_life.specs.Crews.{enrolments}
use Rattle.osc_life.specs.Holders.{Holder, holder_at}
use Rattle.osc_life.specs.Works.{HasShare}

-- the id of a method that was added, if one was
abbrev pub added_id : Answer → List ℕ
added_id (added id) = id ∷ []
added_id _ = []

-- the ids of the methods that a history adds, in order
abbrev pub added_ids : List Entry → List ℕ
added_ids entries = flat_map (λ entry. added_id entry.answer) entries

-- the id of the method that was removed, if one was
abbrev pub id_in : Answer → List ℕ
id_in (removed id) = id ∷ []
id_in _ = []

-- the token is caller 0's, or that of one of so many callers from this number on
abbrev pub IsAtWork : ℕ → ℕ → ℕ → Type 0
IsAtWork next callers token = (token ≡ 0) ⊎ ((next ≤ token) × (token < next + callers))

-- The history of a server with these limits that goes on from the entries of a past. Caller 0 has
-- these first entries, then enrolled so many callers, from this number on, and did nothing else;
-- with these the history begins. It is legal and keeps the four laws. Nobody else but these callers
-- has an entry since the past, and each entry since then is of the caller whose number its token
-- has.
pub record IsLife (caps : Limits) (past : List (List ℕ)) (first : List Entry) (next callers : ℕ)
    (history : List Seen) : Type 0 where
  pub since : List Seen
  pub goes_on : history ≡ entries_of past ++ since
  pub legal : Legal caps (history_in (texts history))
  pub laws : KeepsTheLaws caps (history_in (texts history))
  pub begins : StartsWith history (own 0 history)
  pub enrolled : history_in (texts (own 0 history)) ≡ first ++ enrolments next callers
  pub named : All (λ one. names one.number one ≡ true) since
  pub within : All (λ one. IsAtWork next callers one.number) history

-- The history is recorded. The ids that it adds are those of the boxes that are kept and those that
-- it removes, each once; and the boxes that are kept have heard it, each with the mark of its id's
-- entry.
pub record IsClosed (caps : Limits) (history : List Seen) (recording : List ℕ)
    (kept : List Told) : Type 0 where
  pub recorded : recording ≡ record_text caps (history_in (texts history))
  pub ids : IsPermutation (added_ids (history_in (texts history)))
      (map (λ one. one.id) kept ++ removed_in (history_in (texts history)))
  pub ascending : IsTrue (is_ascending (added_ids (history_in (texts history))))
  pub heard : HaveHeard (performance_in caps (texts history)) kept
  pub marked : AreMarked (texts history) kept

-- there was no room for an enrolment after this history, which is caller 0's alone
abbrev pub HasNoRoomToEnrol : Limits → List Seen → Room → Type 0
HasNoRoomToEnrol caps history room =
    (record_full room ≡ (stepped_in (performance_in caps (texts history)) enrol).answer)
    × (own 0 history ≡ history)

-- Each item of one list has this relation to the item in its place of the other, where the first
-- items have this number.
abbrev pub Numbered : {X Y : Type 0} → (ℕ → X → Y → Type 0) → ℕ → List X → List Y → Type 0
Numbered relation first [] [] = Unit {0}
Numbered relation first (x ∷ xs) (y ∷ ys) =
    relation first x y × Numbered relation (first + 1) xs ys
Numbered relation first _ _ = ⊥

-- Something else was done under the token of this holder, which came in after these entries, and in
-- the end after all that these tokens have seen: the history has no other entry of it, and the
-- token has seen all of it.
pub record IsUnder {X F : Type 0}
    (ends : X → X → F → Holder → List (List Seen) → View → View → Type 0)
    (holder : Holder) (first history : List Seen) (tokens : List (List Seen)) (before after : X)
    (end : F) : Type 0 where
  pub start : View
  pub last : View
  pub comes_after : StartsWith start.seen first
  pub fresh : own holder.token start.seen ≡ []
  pub ended : ends before after end holder tokens start last
  pub whole : last.seen ≡ history

module _ {P E : Type 0} (plays : P → E → Holder → List Seen → List Seen → Type 0) where
  -- Each work has its share of the history, to what its token has seen, under the caller in its
  -- place from this number on.
  abbrev pub AreShares : Limits → List Seen → List Seen → ℕ → List P → List E → List (List Seen)
      → Type 0
  AreShares caps first history next [] [] [] = Unit {0}
  AreShares caps first history next (work ∷ works) (end ∷ ends) (there ∷ tokens) =
      HasShare plays (holder_at caps next) first history work end there
      × AreShares caps first history (next + 1) works ends tokens
  AreShares caps first history next _ _ _ = ⊥

  -- Each work has its share of the history; or there was no room for an enrolment: then no work was
  -- played, and all come back.
  abbrev pub HasPlayed : Limits → ℕ → ℕ → List Seen → List P → List (List Seen) → Played P E
      → Type 0
  HasPlayed caps next callers history works tokens (Each ends) =
      (callers ≡ length works)
      × AreShares caps (own 0 history) history next works ends.items tokens
  HasPlayed caps next callers history works tokens (NoRoom room back) =
      (callers < length works) × HasNoRoomToEnrol caps history (room_of room)
      × (back.items ≡ works)

  -- The works were played at the same time on a server that goes on from a past, each under a
  -- caller of its own, and something else meanwhile, by caller 0, whose token knew `first` before.
  -- There is one history, with which the server was closed; in the end the meanwhile's token has
  -- seen all of it.
  pub record Lives {X F : Type 0}
      (ends : X → X → F → Holder → List (List Seen) → View → View → Type 0)
      (caps : Limits) (past : List (List ℕ)) (first : View) (works : List P) (before after : X)
      (recording : List ℕ) (kept : List Told) (played : Played P E) (end : F) : Type 0 where
    pub history : List Seen
    pub callers : ℕ
    pub tokens : List (List Seen)
    pub goes_on : StartsWith (own 0 history) first.seen
    pub stage : IsLife caps past (history_of first) first.made callers history
    pub closed : IsClosed caps history recording kept
    pub played_so : HasPlayed caps first.made callers history works tokens played
    pub start : View
    pub last : View
    pub ended : ends before after end (holder_at caps 0) tokens start last
    pub whole : last.seen ≡ history

  -- The same of works and of something else that was done by one caller more, after those of the
  -- works; or there was no room for an enrolment: then nothing was done.
  abbrev pub HasPlayedUnder : {X F : Type 0}
      → (X → X → F → Holder → List (List Seen) → View → View → Type 0)
      → Limits → ℕ → ℕ → List Seen → List P → X → X → Played P E → Option F → Type 0
  HasPlayedUnder ends caps next callers history works before after (Each all) (Some end) =
      (callers ≡ length works + 1) × (tokens : List (List Seen))
      × AreShares caps (own 0 history) history next works all.items tokens
      × IsUnder ends (holder_at caps (next + length works)) (own 0 history) history tokens before
      after end
  HasPlayedUnder ends caps next callers history works before after (NoRoom room back) None =
      (callers < length works + 1) × HasNoRoomToEnrol caps history (room_of room)
      × (back.items ≡ works) × (after ≡ before)
  HasPlayedUnder ends caps next callers history works before after _ _ = ⊥

  -- The works were played at the same time, and something else meanwhile, under a token of its own.
  pub record LivesUnder {X F : Type 0}
      (ends : X → X → F → Holder → List (List Seen) → View → View → Type 0)
      (caps : Limits) (past : List (List ℕ)) (first : View) (works : List P) (before after : X)
      (recording : List ℕ) (kept : List Told) (played : Played P E) (end : Option F) : Type 0 where
    pub history : List Seen
    pub callers : ℕ
    pub goes_on : StartsWith (own 0 history) first.seen
    pub stage : IsLife caps past (history_of first) first.made callers history
    pub closed : IsClosed caps history recording kept
    pub played_so : HasPlayedUnder ends caps first.made callers history works before after played
        end
