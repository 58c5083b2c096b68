-- Each method of a server with links stands where its line added it.
use Rattle.std.proofs.Common.{◌≡◌, inl, inr, ℕ, zero, suc, ◌+◌, ◌<◌, ◌≤◌, Bool, true, false, cond, eqb, List, [], ◌∷◌, length, Option, Some, None, refl, sym, ap, subst, ◌∙◌, arith}
use Rattle.std.specs.Prelude.{MatchOption, drop}
use Rattle.std.specs.List.{AllByRecursion, Contains, cons_option}
use Rattle.std.proofs.lemmas.Bool.{eq-eqb}
use Rattle.std.proofs.lemmas.List.Elements.{recursion_from_All}
use mathlib.Core.Logic.{dite}
use native.Mathlib.Decide.{dec_le}
use Rattle.osc_atoms.specs.declared.room.Room.{Room as CodeRoom}
use Rattle.osc_method.specs.Heard.{Fixed}
use Rattle.osc_model.specs.Limits.{Limits}
use Rattle.osc_model.specs.Events.{Entry, Room}
use Rattle.osc_model.proofs.Calls.{all_append}
use Rattle.osc_record.specs.Reading.{entry_in}
use Rattle.osc_record.specs.Shown.{room_of}
use Rattle.osc_core.specs.Standing.{history_in, AreMarked, CarriesMark, mark_of}
use Rattle.osc_core.specs.Telling.{told}
use Rattle.osc_core.proofs.Texts.{TextLaws}
use Rattle.osc_turn.specs.declared.view.Entry.{Entry as Seen}
use Rattle.osc_turn.specs.History.{StartsWith, texts, own}
use Rattle.osc_turn.proofs.Histories.{starts_on}
use Rattle.osc_life.specs.Crews.{enrolments}
use Rattle.osc_life.specs.Holders.{Holder, holder_at}
use Rattle.osc_life.specs.Lives.{HasNoRoomToEnrol, IsAtWork}
use Rattle.osc_life.proofs.Enrolling.{own_before}
use Rattle.osc_script.specs.declared.act.Act.TheVariants.{Send}
use Rattle.osc_lanes.specs.Performs.{Part, told_of}
use Rattle.osc_lanes.specs.Shares.{Account, known_of, then_told}
use Rattle.osc_lanes.proofs.AddedAt.{IsAddedAt}
use Rattle.osc_lanes.proofs.OneMark.{one_mark, read_again}
use Rattle.osc_lanes.proofs.OwnBoxes.{HasBox, AddsItsBox, AddTheirBoxes, LinesFit, all_later, boxes_act, boxes_onward, boxes_played, boxes_same}
use Rattle.osc_links.specs.declared.run.Hosted.{Hosted}
use Rattle.osc_links.specs.declared.link_work.LinkEnd.{LinkEnd}
use Rattle.osc_links.specs.declared.link_work.Over.{Over}
use Rattle.osc_links.specs.declared.served.Bounds.{Bounds}
use Rattle.osc_links.specs.declared.served.TickerEnd.{TickerEnd}
use Rattle.osc_links.specs.declared.served.TickerEnd.TheVariants.{Done, ClockFailed, Full}
use Rattle.osc_links.specs.Hosts.{AreServed, Hosts, IsUnserved, ServesAll}
use Rattle.osc_links.specs.Links.{LinkTurn, PlaysTurns, stop_by}
use Rattle.osc_links.specs.Ticks.{ClockRead, EndsTicks, PlaysLast, PlaysRound, PlaysRounds, TickOf, is_later, last_after, pump_line, round_lines, tick_line}

-- own entries are their own
own_twice : (token : ℕ) (history : List Seen) → own token (own token history) ≡ own token history
own_twice token [] = refl
own_twice token (one ∷ history) = go (eqb one.number token) refl (own_twice token history) where
  go : (test : Bool) → eqb one.number token ≡ test → own token (own token history) ≡ own token history
      → own token (cond test (one ∷ own token history) (own token history)) ≡ cond test (one ∷ own token history) (own token history)
  go true is rest = ap (λ t. cond t (one ∷ own token (own token history)) (own token (own token history))) is ∙ ap (λ (l : List Seen). one ∷ l) rest
  go false is rest = rest

-- What holds of each token's own entries holds of all of them.
module _ (Q : Entry → Type 0) where
  abbrev Hold : List Seen → Type 0
  Hold seen = AllByRecursion Q (history_in (texts seen))

  -- of the first, and of the rest
  holds_first : (one : Seen) (seen : List Seen) → Hold (one ∷ seen) → Hold (one ∷ [])
  holds_first one seen all = go (entry_in one.text) all where
    go : (read : Option Entry) → AllByRecursion Q (cons_option read (history_in (texts seen))) → AllByRecursion Q (cons_option read [])
    go None all = tt
    go (Some entry) all = (all.0, tt)

  holds_rest : (one : Seen) (seen : List Seen) → Hold (one ∷ seen) → Hold seen
  holds_rest one seen all = go (entry_in one.text) all where
    go : (read : Option Entry) → AllByRecursion Q (cons_option read (history_in (texts seen))) → Hold seen
    go None all = all
    go (Some entry) all = all.1

  holds_both : (one : Seen) (seen : List Seen) → Hold (one ∷ []) → Hold seen → Hold (one ∷ seen)
  holds_both one seen first all = go (entry_in one.text) first where
    go : (read : Option Entry) → AllByRecursion Q (cons_option read []) → AllByRecursion Q (cons_option read (history_in (texts seen)))
    go None first = all
    go (Some entry) first = (first.0, all)

  own_rest : (token : ℕ) (one : Seen) (seen : List Seen) → Hold (own token (one ∷ seen)) → Hold (own token seen)
  own_rest token one seen all = go (eqb one.number token) all where
    go : (test : Bool) → Hold (cond test (one ∷ own token seen) (own token seen)) → Hold (own token seen)
    go true all = holds_rest one (own token seen) all
    go false all = all

  own_first : (one : Seen) (seen : List Seen) → Hold (own one.number (one ∷ seen)) → Hold (one ∷ [])
  own_first one seen all =
      holds_first one (own one.number seen)
      (subst (λ (t : Bool). Hold (cond t (one ∷ own one.number seen) (own one.number seen))) (eq-eqb one.number one.number refl) all)

  pub holds_all : (W : ℕ → Type 0) (seen : List Seen) → AllByRecursion (λ one. W one.number) seen
      → ((token : ℕ) → W token → Hold (own token seen)) → Hold seen
  holds_all W [] at_work each = tt
  holds_all W (one ∷ seen) at_work each =
      holds_both one seen (own_first one seen (each one.number at_work.0))
      (holds_all W seen at_work.1 (λ token works. own_rest token one seen (each token works)))

holds_of : {X : Type 0} (Q : X → Type 0) (xs : List X) (x : X) → AllByRecursion Q xs → Contains xs x → Q x
holds_of Q [] x all (k, within, is) = absurd (omega (arith, within))
holds_of Q (y ∷ xs) x all (zero, within, is) = subst Q is all.0
holds_of Q (y ∷ xs) x all (suc k, within, is) = holds_of Q xs x all.1 (k, omega (arith, within), is)

module _ {M : Type 0} (keep : M → Fixed) (heard : M → Option (List ℕ)) (P : List ℕ → M → Type 0) where
  -- a link's turns add no method
  boxes_turned : (holder : Holder) (bounds : Bounds) (taken quiets : ℕ) (turns : List LinkTurn) (over : Over) (account : Account M) (here there : List Seen)
      → PlaysTurns keep heard holder bounds taken quiets turns over account here there → AddTheirBoxes keep heard P holder.token here
      → AddTheirBoxes keep heard P holder.token there
  boxes_turned holder bounds taken quiets [] over account here there (ends, is, same) all = boxes_same keep heard P holder.token here there same all
  boxes_turned holder bounds taken quiets (None ∷ turns) over account here there (within, plays) all =
      boxes_turned holder bounds taken (quiets + 1) turns over account here there plays all
  boxes_turned holder bounds taken quiets (Some bytes ∷ turns) over account here there (within, first, place, one, more) all =
      go first.stop more (boxes_act keep heard P holder (taken + 1) (Send bytes) [] [] first here place one tt all).0
      (λ rest plays at. boxes_turned holder bounds (taken + 1) 0 turns over rest place there plays at)
    where
      go : (stop : Option Room)
          → MatchOption stop
          ((rest : Account M) × (account ≡ then_told first rest)
          × PlaysTurns keep heard holder bounds (taken + 1) 0 turns over rest place there)
          (λ room. (turns ≡ []) × (stop_by over ≡ Some room) × (account ≡ first) × (there ≡ place))
          → AddTheirBoxes keep heard P holder.token place
          → ((rest : Account M) → PlaysTurns keep heard holder bounds (taken + 1) 0 turns over rest place there
          → AddTheirBoxes keep heard P holder.token place → AddTheirBoxes keep heard P holder.token there)
          → AddTheirBoxes keep heard P holder.token there
      go None (rest, is, plays) at later = later rest plays at
      go (Some room) (none, stops, is, same) at later = boxes_same keep heard P holder.token place there same at

  -- and so do the ticker's rounds
  round_fits : (last : Option ℕ) (moment : ℕ) → LinesFit P (round_lines last moment) []
  round_fits last moment = go (is_later last moment) where
    go : (test : Bool) → LinesFit P (cond test (tick_line moment ∷ pump_line ∷ []) (pump_line ∷ [])) []
    go true = (tt, (tt, tt))
    go false = (tt, tt)

  boxes_round : (holder : Holder) (last : Option ℕ) (moment : ℕ) (stop : Option Room) (here there : List Seen)
      → PlaysRound keep heard holder last moment stop here there → AddTheirBoxes keep heard P holder.token here
      → AddTheirBoxes keep heard P holder.token there
  boxes_round holder last moment stop here there plays all =
      boxes_played keep heard P holder (round_lines last moment) [] _ here there plays (round_fits last moment) all

  boxes_rounds : (holder : Holder) (first : Option ℕ) (moments : List ℕ) (last : Option ℕ) (here there : List Seen)
      → PlaysRounds keep heard holder first moments last here there → AddTheirBoxes keep heard P holder.token here
      → AddTheirBoxes keep heard P holder.token there
  boxes_rounds holder first [] last here there (is, same) all = boxes_same keep heard P holder.token here there same all
  boxes_rounds holder first (moment ∷ moments) last here there (place, one, more) all =
      boxes_rounds holder (last_after first moment) moments last place there more (boxes_round holder first moment None here place one all)

  boxes_last : (holder : Holder) (last : Option ℕ) (stop : Option Room) (tokens : List (List Seen)) (before after : Option (List ℕ)) (here there : List Seen)
      → PlaysLast keep heard holder last stop tokens before after here there → AddTheirBoxes keep heard P holder.token here
      → AddTheirBoxes keep heard P holder.token there
  boxes_last holder last stop tokens before after here there (moment, start, gives, onward, seen, round) all =
      boxes_round holder last moment stop start there round (boxes_onward keep heard P holder.token here start onward all)

  boxes_ended : (holder : Holder) (last : Option ℕ) (tokens : List (List Seen)) (before : Option (List ℕ)) (clock : ClockRead) (end : TickerEnd)
      (here there : List Seen) → EndsTicks keep heard holder last tokens before clock end here there → AddTheirBoxes keep heard P holder.token here
      → AddTheirBoxes keep heard P holder.token there
  boxes_ended holder last tokens before clock Done here there (still, plays) all =
      boxes_last holder last None tokens before clock.after here there plays all
  boxes_ended holder last tokens before clock ClockFailed here there (rose, gives, onward) all =
      boxes_onward keep heard P holder.token here there onward all
  boxes_ended holder last tokens before clock (Full room) here there (still, plays) all =
      boxes_last holder last _ [] before clock.after here there plays all

  -- none of its own entries
  none_yet : (token : ℕ) (here : List Seen) → own token here ≡ [] → AddTheirBoxes keep heard P token here
  none_yet token here none = subst (λ (l : List Seen). AllByRecursion (AddsItsBox keep heard P here) (history_in (texts l))) (sym none) tt

  boxes_ticked : (holder : Holder) (tokens : List (List Seen)) (clock : ClockRead) (end : TickerEnd) (history : List Seen)
      → TickOf keep heard holder tokens clock end history → AddTheirBoxes keep heard P holder.token history
  boxes_ticked holder tokens clock end history (here, there, none, ticks, onward) =
      boxes_onward keep heard P holder.token there history onward
      (boxes_ended holder ticks.last tokens ticks.between clock end ticks.place there ticks.ends
      (boxes_rounds holder None ticks.moments ticks.last here ticks.place ticks.rounds (none_yet holder.token here none)))

  module _ {L : Type 0} (left : L → Option (List LinkTurn)) (faults : L → ℕ) (caps : Limits) (bounds : Bounds) where
    -- each link's token
    boxes_served : (history : List Seen) (first : ℕ) (links : List L) (ends : List (LinkEnd L)) (tokens : List (List Seen))
        → AreServed left faults keep heard caps bounds history first links ends tokens
        → (token : ℕ) → first ≤ token → token < first + length links → AddTheirBoxes keep heard P token history
    boxes_served history first [] [] [] served token least below = absurd (omega (arith, least, below))
    boxes_served history first (link ∷ links) (end ∷ ends) (there ∷ tokens) (one, more) token least below =
        dite (dec_le (first + 1) token) (λ far. boxes_served history (first + 1) links ends tokens more token far (omega (arith, below)))
        (λ near. subst (λ (n : ℕ). AddTheirBoxes keep heard P n history) (omega (arith, least, near)) here)
      where
        here : AddTheirBoxes keep heard P first history
        here =
            let share = one.share in
            boxes_onward keep heard P first share.1 history share.4
            (boxes_turned (holder_at caps first) bounds 0 0 one.turns end.over _ share.0 share.1 share.3 (none_yet first share.0 share.2))
    boxes_served history first [] (end ∷ ends) tokens served token least below = absurd served
    boxes_served history first [] [] (there ∷ tokens) served token least below = absurd served
    boxes_served history first (link ∷ links) [] tokens served token least below = absurd served
    boxes_served history first (link ∷ links) (end ∷ ends) [] served token least below = absurd served

    enrolled_none : (history : List Seen) (first count : ℕ) → AllByRecursion (AddsItsBox keep heard P history) (enrolments first count)
    enrolled_none history first zero = tt
    enrolled_none history first (suc count) = (λ id is. absurd (cc), enrolled_none history (first + 1) count)

    module _ (part : Part M) (links : List L) (clock : ClockRead) (hosted : Hosted M L)
        (hosts : Hosts left faults keep heard caps bounds part links clock hosted) (lines_fit : LinesFit P part.lines part.boxes) where
      -- caller 0's entries
      boxes_first : AddTheirBoxes keep heard P 0 hosts.history
      boxes_first =
          let mine : List Seen = own 0 hosts.history in
          let alone : own 0 hosts.opened ≡ hosts.opened = own_before 0 mine hosts.opened hosts.begins (own_twice 0 hosts.history) in
          let opened : AddTheirBoxes keep heard P 0 hosts.opened =
          boxes_played keep heard P (holder_at caps 0) part.lines part.boxes (told_of hosted.opening) [] hosts.opened hosts.plays lines_fit tt in
          let starts : StartsWith hosts.history hosts.opened = starts_on hosts.history mine hosts.opened hosts.stage.begins hosts.begins in
          let entries : List Entry = history_in (texts hosts.opened) in
          let those : AllByRecursion (AddsItsBox keep heard P hosts.history) entries =
          all_later keep heard P hosts.opened hosts.history starts entries
          (subst (λ (l : List Seen). AllByRecursion (AddsItsBox keep heard P hosts.opened) (history_in (texts l))) alone opened) in
          subst (AllByRecursion (AddsItsBox keep heard P hosts.history)) (sym hosts.stage.enrolled)
          (all_append (AddsItsBox keep heard P hosts.history) entries (enrolments 1 hosts.callers) those
          (enrolled_none hosts.history 1 hosts.callers))

      -- the entries of each token
      boxes_each : (callers : ℕ) → callers ≡ length links + 1 → ServesAll left faults keep heard caps bounds hosts.history links clock hosted.links
          → (token : ℕ) → IsAtWork 1 callers token → AddTheirBoxes keep heard P token hosts.history
      boxes_each callers are serves token (inl same) = subst (λ (n : ℕ). AddTheirBoxes keep heard P n hosts.history) (sym same) boxes_first
      boxes_each callers are serves token (inr (least, below)) =
          dite (dec_le (length links + 1) token)
          (λ far.
          let same : length links + 1 ≡ token = omega (arith, far, below, are) in
          subst (λ (n : ℕ). AddTheirBoxes keep heard P n hosts.history) same
          (boxes_ticked (holder_at caps (length links + 1)) serves.tokens clock serves.ticker_end hosts.history serves.ticks))
          (λ near. boxes_served hosts.history 1 links serves.ends serves.tokens serves.shares token least (omega (arith, near)))

      -- all entries
      pub boxes_all : AllByRecursion (AddsItsBox keep heard P hosts.history) (history_in (texts hosts.history))
      boxes_all = go hosted.opening.stop hosted.unenrolled hosts.shares where
        Q : Entry → Type 0
        Q = AddsItsBox keep heard P hosts.history

        alone : own 0 hosts.history ≡ hosts.history → AllByRecursion Q (history_in (texts hosts.history))
        alone same = subst (λ (l : List Seen). AllByRecursion Q (history_in (texts l))) same boxes_first

        go : (stop unenrolled : Option CodeRoom) → MatchOption stop
            (MatchOption unenrolled
            ((hosts.callers ≡ length links + 1) × ServesAll left faults keep heard caps bounds hosts.history links clock hosted.links)
            (λ room. (hosts.callers < length links + 1) × HasNoRoomToEnrol caps hosts.history (room_of room) × IsUnserved links clock hosted.links))
            (λ room. (hosts.callers ≡ 0) × (hosted.unenrolled ≡ None) × (own 0 hosts.history ≡ hosts.history) × IsUnserved links clock hosted.links)
            → AllByRecursion Q (history_in (texts hosts.history))
        go None None (are, serves) =
            holds_all Q (IsAtWork 1 hosts.callers) hosts.history (recursion_from_All (λ one. IsAtWork 1 hosts.callers one.number) hosts.history hosts.stage.within)
            (λ token works. boxes_each hosts.callers are serves token works)
        go None (Some room) (few, no_room, unserved) = alone no_room.1
        go (Some room) unenrolled (none, no_enrolment, same, unserved) = alone same

      -- Each method that is registered at the end was added with a box of its name, at an address that fits that box.
      pub record IsPlaced (one : ℕ × M) : Type 0 where
        pub address : List ℕ
        pub box : M
        pub fits : P address box
        pub named : (keep box).name ≡ (keep one.1).name
        pub added : IsAddedAt (history_in (texts hosts.history)) one.0 address

      kept_placed : TextLaws → (boxes : List (ℕ × M)) → AreMarked (texts hosts.history) (told keep heard boxes) → AllByRecursion IsPlaced boxes
      kept_placed laws [] marked = tt
      kept_placed laws (one ∷ boxes) marked = (go marked.0, kept_placed laws boxes marked.1) where
        go : CarriesMark (texts hosts.history) one.0 (mark_of (known_of keep heard one.0 one.1)) → IsPlaced one
        go (entry, adds, held, there) =
            let has : HasBox keep heard P hosts.history one.0 entry =
            holds_of (AddsItsBox keep heard P hosts.history) (history_in (texts hosts.history)) entry boxes_all held one.0 adds in
            let same : mark_of (known_of keep heard one.0 has.box) ≡ mark_of (known_of keep heard one.0 one.1) =
            one_mark (texts hosts.history) one.0 _ _ (read_again laws caps (texts hosts.history) hosts.stage.legal) hosts.closed.ascending has.marked
            (entry, adds, held, there) in
            record { address = has.address; box = has.box; fits = has.fits; named = ap (drop 1) same; added = (entry, adds, has.event_is, held) }

      pub placed : TextLaws → AllByRecursion IsPlaced hosted.closed.kept.items
      placed laws = kept_placed laws hosted.closed.kept.items hosts.closed.kept_marked
