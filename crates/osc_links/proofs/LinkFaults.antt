-- What failed of links and a clock, by what is reported of them, and that all links come back.
use Rattle.std.proofs.Common.{◌≡◌, ◌⊎◌, inl, inr, ℕ, suc, ◌+◌, ◌<◌, Bool, true, false, List, [], ◌∷◌, map, length, take, Option, Some, None}
use Rattle.std.proofs.Common.{if◌then◌else◌, refl, sym, ap, subst, ◌∙◌, arith}
use Rattle.std.specs.Prelude.{MatchOption}
use Rattle.std.proofs.lemmas.List.{length-map}
use Rattle.osc_edge.specs.Faults.{Rose}
use Rattle.osc_atoms.specs.declared.room.Room.{Room as CodeRoom}
use Rattle.osc_method.specs.Heard.{Fixed}
use Rattle.osc_model.specs.Limits.{Limits}
use Rattle.osc_record.specs.Shown.{room_of}
use Rattle.osc_turn.specs.declared.view.Entry.{Entry as Seen}
use Rattle.osc_turn.specs.History.{own}
use Rattle.osc_links.specs.declared.run.Hosted.{Hosted}
use Rattle.osc_links.specs.declared.link_work.LinkEnd.{LinkEnd}
use Rattle.osc_links.specs.declared.link_work.Over.{Over}
use Rattle.osc_links.specs.declared.link_work.Over.TheVariants.{Count, Idle, End, Failed, Full as OverFull}
use Rattle.osc_links.specs.declared.served.Bounds.{Bounds}
use Rattle.osc_links.specs.declared.served.TickerEnd.{TickerEnd}
use Rattle.osc_links.specs.declared.served.TickerEnd.TheVariants.{Done as TickerDone, ClockFailed as TickerFailed, Full as TickerFull}
use Rattle.osc_links.specs.Hosts.{AreServed, IsUnserved, ServesAll, Hosts}
use Rattle.osc_links.specs.Links.{LinkTurn, HasEndCause}
use Rattle.osc_life.specs.Holders.{Holder, holder_at}
use Rattle.osc_life.specs.Lives.{HasNoRoomToEnrol}
use Rattle.osc_lanes.specs.Performs.{Part}
use Rattle.osc_links.specs.Serves.{failed_from, has_failed, is_clock_failed, link_in}
use Rattle.osc_links.specs.Ticks.{ClockRead, EndsTicks}
use Rattle.osc_links.specs.Faults.{HasLinkRisen}

-- What a count of faults does, by how a link or the ticker ended.

over_still : (over : Over) (left : Option (List LinkTurn)) (before now : ℕ) → HasEndCause over left before now → has_failed over ≡ false → now ≡ before
over_still Count left before now cause is = cause
over_still Idle left before now cause is = cause
over_still End left before now cause is = cause.1
over_still Failed left before now cause is = absurd (cc)
over_still (OverFull room) left before now cause is = cause

over_risen : (over : Over) (left : Option (List LinkTurn)) (before now : ℕ) → HasEndCause over left before now → has_failed over ≡ true → Rose before now
over_risen Count left before now cause is = absurd (cc)
over_risen Idle left before now cause is = absurd (cc)
over_risen End left before now cause is = absurd (cc)
over_risen Failed left before now cause is = cause
over_risen (OverFull room) left before now cause is = absurd (cc)

module _ {M : Type 0} (keep : M → Fixed) (heard : M → Option (List ℕ)) where
  ticks_still : (player : Holder) (last : Option ℕ) (tokens : List (List Seen)) (before : Option (List ℕ)) (clock : ClockRead) (end : TickerEnd)
      (here there : List Seen) → EndsTicks keep heard player last tokens before clock end here there → is_clock_failed end ≡ false → clock.now ≡ clock.faults
  ticks_still player last tokens before clock TickerDone here there ends is = ends.0
  ticks_still player last tokens before clock TickerFailed here there ends is = absurd (cc)
  ticks_still player last tokens before clock (TickerFull room) here there ends is = ends.0

  ticks_risen : (player : Holder) (last : Option ℕ) (tokens : List (List Seen)) (before : Option (List ℕ)) (clock : ClockRead) (end : TickerEnd)
      (here there : List Seen) → EndsTicks keep heard player last tokens before clock end here there → is_clock_failed end ≡ true
      → Rose clock.faults clock.now
  ticks_risen player last tokens before clock TickerDone here there ends is = absurd (cc)
  ticks_risen player last tokens before clock TickerFailed here there ends is = ends.0
  ticks_risen player last tokens before clock (TickerFull room) here there ends is = absurd (cc)

module _ {M L : Type 0} (left : L → Option (List LinkTurn)) (faults : L → ℕ) (keep : M → Fixed) (heard : M → Option (List ℕ)) (caps : Limits) (bounds : Bounds) where
  module _ (history : List Seen) where
    abbrev Served : ℕ → List L → List (LinkEnd L) → List (List Seen) → Type 0
    Served number links ends tokens = AreServed left faults keep heard caps bounds history number links ends tokens

    -- each link has an end
    ends_many : (number : ℕ) (links : List L) (ends : List (LinkEnd L)) (tokens : List (List Seen)) → Served number links ends tokens
        → length ends ≡ length links
    ends_many number [] [] [] served = refl
    ends_many number [] [] (there ∷ tokens) served = absurd served
    ends_many number [] (end ∷ ends) tokens served = absurd served
    ends_many number (link ∷ links) [] tokens served = absurd served
    ends_many number (link ∷ links) (end ∷ ends) [] served = absurd served
    ends_many number (link ∷ links) (end ∷ ends) (there ∷ tokens) served = ap suc (ends_many (number + 1) links ends tokens served.1)

    -- no link failed
    links_still : (number first : ℕ) (links : List L) (ends : List (LinkEnd L)) (tokens : List (List Seen)) → Served number links ends tokens
        → failed_from first ends ≡ None → map faults (map link_in ends) ≡ map faults links
    links_still number first [] [] [] shares none = refl
    links_still number first [] [] (there ∷ tokens) shares none = absurd shares
    links_still number first [] (end ∷ ends) tokens shares none = absurd shares
    links_still number first (link ∷ links) [] tokens shares none = absurd shares
    links_still number first (link ∷ links) (end ∷ ends) [] shares none = absurd shares
    links_still number first (link ∷ links) (end ∷ ends) (there ∷ tokens) shares none =
        go (has_failed end.over) refl none (links_still (number + 1) (first + 1) links ends tokens shares.1) where
          go : (test : Bool) → has_failed end.over ≡ test → (if test then Some first else failed_from (first + 1) ends) ≡ None
              → (failed_from (first + 1) ends ≡ None → map faults (map link_in ends) ≡ map faults links)
              → faults end.from ∷ map faults (map link_in ends) ≡ faults link ∷ map faults links
          go true is none rest = absurd (cc)
          go false is none rest =
              ap (λ (n : ℕ). n ∷ map faults (map link_in ends)) (over_still end.over (left end.from) (faults link) (faults end.from) shares.0.cause is)
              ∙ ap (λ (l : List ℕ). faults link ∷ l) (rest none)

    -- The place of the link that is told, among those from this one on: its count of faults rose, and that of none before it.
    record RisenFrom (first link : ℕ) (links : List L) (ends : List (LinkEnd L)) : Type 0 where
      place : ℕ
      link_is : link ≡ first + place
      risen : HasLinkRisen faults place links (map link_in ends)
      before : map faults (take place (map link_in ends)) ≡ map faults (take place links)

    link_risen : (number first link : ℕ) (links : List L) (ends : List (LinkEnd L)) (tokens : List (List Seen)) → Served number links ends tokens
        → failed_from first ends ≡ Some link → RisenFrom first link links ends
    link_risen number first link [] [] tokens shares is = absurd (cc)
    link_risen number first link [] (end ∷ ends) tokens shares is = absurd shares
    link_risen number first link (one ∷ links) [] tokens shares is = absurd shares
    link_risen number first link (one ∷ links) (end ∷ ends) [] shares is = absurd shares
    link_risen number first link (one ∷ links) (end ∷ ends) (there ∷ tokens) shares is =
        go (has_failed end.over) refl is (link_risen (number + 1) (first + 1) link links ends tokens shares.1) where
          same : Some first ≡ Some link → link ≡ first + 0
          same told = let equal : first ≡ link = cc in omega (arith, equal)

          go : (test : Bool) → has_failed end.over ≡ test → (if test then Some first else failed_from (first + 1) ends) ≡ Some link
              → (failed_from (first + 1) ends ≡ Some link → RisenFrom (first + 1) link links ends) → RisenFrom first link (one ∷ links) (end ∷ ends)
          go true failed told rest = record {
            place = 0;
            link_is = same told;
            risen = over_risen end.over (left end.from) (faults one) (faults end.from) shares.0.cause failed;
            before = refl;
          }
          go false sound told rest =
              let later = rest told in
              let steady : faults end.from ≡ faults one = over_still end.over (left end.from) (faults one) (faults end.from) shares.0.cause sound in
              record {
                place = suc later.place;
                link_is = omega (arith, later.link_is);
                risen = later.risen;
                before =
                    ap (λ (n : ℕ). n ∷ map faults (take later.place (map link_in ends))) steady ∙ ap (λ (l : List ℕ). faults one ∷ l) later.before;
              }

  module _ (part : Part M) (links : List L) (clock : ClockRead) (hosted : Hosted M L)
      (hosts : Hosts left faults keep heard caps bounds part links clock hosted) where
    abbrev Serving : Type 0
    Serving = ServesAll left faults keep heard caps bounds hosts.history links clock hosted.links

    served_or_not : Serving ⊎ IsUnserved links clock hosted.links
    served_or_not = go hosted.opening.stop hosted.unenrolled hosts.shares where
      go : (stop unenrolled : Option CodeRoom)
          → MatchOption stop
          (MatchOption unenrolled ((hosts.callers ≡ length links + 1) × Serving)
          (λ room. (hosts.callers < length links + 1) × HasNoRoomToEnrol caps hosts.history (room_of room) × IsUnserved links clock hosted.links))
          (λ room. (hosts.callers ≡ 0) × (hosted.unenrolled ≡ None) × (own 0 hosts.history ≡ hosts.history) × IsUnserved links clock hosted.links)
          → Serving ⊎ IsUnserved links clock hosted.links
      go None None shares = inl shares.1
      go None (Some room) shares = inr shares.2
      go (Some room) unenrolled shares = inr shares.3

    -- as many links come back as were served
    pub links_back : length hosted.links.links.items ≡ length links
    links_back = go served_or_not where
      go : Serving ⊎ IsUnserved links clock hosted.links → length hosted.links.links.items ≡ length links
      go (inr unserved) = ap length unserved.links_are
      go (inl serves) =
          ap length serves.tells.links_are ∙ length-map serves.ends link_in ∙ ends_many hosts.history 1 links serves.ends serves.tokens serves.shares

    pub links_steady : hosted.links.failed ≡ None → map faults hosted.links.links.items ≡ map faults links
    links_steady none = go served_or_not where
      go : Serving ⊎ IsUnserved links clock hosted.links → map faults hosted.links.links.items ≡ map faults links
      go (inr unserved) = ap (map faults) unserved.links_are
      go (inl serves) =
          ap (map faults) serves.tells.links_are ∙ links_still hosts.history 1 0 links serves.ends serves.tokens serves.shares (sym serves.tells.failed_is ∙ none)

    pub clock_steady : hosted.links.clock_failed ≡ false → clock.now ≡ clock.faults
    clock_steady sound = go served_or_not where
      go : Serving ⊎ IsUnserved links clock hosted.links → clock.now ≡ clock.faults
      go (inr unserved) = unserved.clock_is.1
      go (inl serves) =
          ticks_still keep heard (holder_at caps (length links + 1)) serves.ticks.3.last serves.tokens serves.ticks.3.between clock serves.ticker_end
          serves.ticks.3.place serves.ticks.1 serves.ticks.3.ends (sym serves.tells.clock_failed_is ∙ sound)

    -- of the link that is told the count of faults rose, and of none before it
    pub hosts_link_risen : (link : ℕ) → hosted.links.failed ≡ Some link
        → HasLinkRisen faults link links hosted.links.links.items
        × (map faults (take link hosted.links.links.items) ≡ map faults (take link links))
    hosts_link_risen link is = go served_or_not where
      go : Serving ⊎ IsUnserved links clock hosted.links
          → HasLinkRisen faults link links hosted.links.links.items
          × (map faults (take link hosted.links.links.items) ≡ map faults (take link links))
      go (inr unserved) = let none : None ≡ Some link = sym unserved.failed_is ∙ is in absurd (cc)
      go (inl serves) =
          let risen = link_risen hosts.history 1 0 link links serves.ends serves.tokens serves.shares (sym serves.tells.failed_is ∙ is) in
          let same : risen.place ≡ link = omega (arith, risen.link_is) in
          subst (λ (l : List L). HasLinkRisen faults link links l × (map faults (take link l) ≡ map faults (take link links))) (sym serves.tells.links_are)
          (subst (λ (n : ℕ). HasLinkRisen faults n links (map link_in serves.ends)
          × (map faults (take n (map link_in serves.ends)) ≡ map faults (take n links))) same (risen.risen, risen.before))

    pub hosts_clock_risen : hosted.links.clock_failed ≡ true → Rose clock.faults clock.now
    hosts_clock_risen is = go served_or_not where
      go : Serving ⊎ IsUnserved links clock hosted.links → Rose clock.faults clock.now
      go (inr unserved) = let none : false ≡ true = sym unserved.clock_failed_is ∙ is in absurd (cc)
      go (inl serves) =
          ticks_risen keep heard (holder_at caps (length links + 1)) serves.ticks.3.last serves.tokens serves.ticks.3.between clock
          serves.ticker_end serves.ticks.3.place serves.ticks.1 serves.ticks.3.ends (sym serves.tells.clock_failed_is ∙ is)
