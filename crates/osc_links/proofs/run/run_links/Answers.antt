use Rattle.std.proofs.Common.{◌≡◌, ◌+◌, ℕ, List, [], length, map, None, Some, refl, sym, ap, subst, ◌∙◌, arith}
use Rattle.osc_model.specs.Limits.{Limits}
use Rattle.osc_turn.specs.declared.view.Entry.{Entry as Seen}
use Rattle.osc_turn.specs.declared.view.View.{View}
use Rattle.osc_turn.specs.History.{own, entries_of}
use Rattle.osc_turn.specs.Passes.{view}
use Rattle.osc_live.specs.Seen.{past_of, history_of}
use Rattle.osc_life.specs.declared.life.Played.TheVariants.{NoRoom}
use Rattle.osc_life.specs.Holders.{holder_at, seen_by}
use Rattle.osc_life.specs.Lives.{AreShares, HasPlayedUnder, IsLife, IsUnder}
use Rattle.osc_life.proofs.Learning.{learns_stays}
use Rattle.osc_lanes.proofs.Parting.{given_by}
use Rattle.osc_lanes.proofs.Removals.{gone}
use Rattle.osc_lanes.specs.Performs.{part_of, told_of}
use Rattle.osc_lanes.specs.Shares.{Plays}
use Rattle.osc_links.specs.declared.run.Hosted.{Hosted}
use Rattle.osc_links.specs.Hosts.{Hosts}
use Rattle.osc_links.specs.Serves.{link_of}
use Rattle.osc_links.specs.Ticks.{clock_read}
use Rattle.osc_links.specs.Works.{link_plays, clock_ends}
use Rattle.osc_ends.specs.Sinks.{change}
use Rattle.osc_growing.specs.declared.growth.Growth.{Growth}
use Rattle.osc_growing.specs.declared.growth.Growth.TheVariants.{Written}
use Rattle.osc_growing.specs.Growing.{HasGrown}
use Rattle.osc_growing.proofs.Growths.{grown_none, looked_grown}
use Rattle.osc_links.proofs.Hosting.{all_served, ticker_served, hosts_beside, hosts_alone, none_else, no_callers, not_there, given_more, works_ready, works_links, shares_long, works_many}
use Rattle.osc_links.proofs.Opening.{plays_enrol_none}
use Rattle.osc_links.proofs.Tickings.{none_ticked}
use Rattle.osc_links.proofs.run.run_links.Goals as goal
use Rattle.osc_links.proofs.run.run_links.Goals.{In_ok-life, In_ok-works-in-None}

pub play_first-requires-clause-enrols_none : goal.play_first-requires-clause-enrols_none
play_first-requires-clause-enrols_none g c κs within end here there plays alone =
    plays_enrol_none g.M.Method.keep g.M.Method.heard c.in_ok-new.new.live.caps c.args.host.opening.lines.items c.args.host.opening.boxes.items (told_of end) here there
    plays alone

-- The server, after caller 0's lines.

same_caps : (g : _) (c : In_ok-life g) → c.in_ok-life.life.live.caps ≡ c.args.host.caps
same_caps g c = (λ i. (c.in_ok-life.ensures.live i).caps) ∙ c.in_ok-new.ensures.caps

no_past : (g : _) (c : In_ok-life g) → past_of c.in_ok-life.life.live.turn ≡ []
no_past g c = (λ i. past_of (c.in_ok-life.ensures.live i).turn) ∙ c.in_ok-new.ensures.past

no_others : (g : _) (c : In_ok-life g) → length c.in_ok-life.life.others.items ≡ 0
no_others g c = ap length (λ i. (c.in_ok-life.ensures.others i).items) ∙ ap length c.in_ok-new.ensures.alone

made_one : (g : _) (c : In_ok-life g) → (view c.in_ok-life.life.first.pass).made ≡ 1
made_one g c = omega (arith, c.in_ok-life.ensures.whole.counted.made_is, no_others g c)

-- caller 0's lines were played on a new server
opened : (g : _) (c : In_ok-life g)
    → Plays g.M.Method.keep g.M.Method.heard (holder_at c.in_ok-life.life.live.caps 0) c.args.host.opening.lines.items c.args.host.opening.boxes.items
    (told_of c.in_ok-life.opening) [] (seen_by c.in_ok-life.life.first)
opened g c =
    let none : seen_by c.in_ok-new.new.first ≡ [] = c.in_ok-new.ensures.left.seen_is ∙ ap entries_of c.in_ok-new.ensures.past in
    subst (λ (q : Limits × List Seen). Plays g.M.Method.keep g.M.Method.heard (holder_at q.0 0) c.args.host.opening.lines.items c.args.host.opening.boxes.items
    (told_of c.in_ok-life.opening) q.1 (seen_by c.in_ok-life.life.first))
    (λ i. (sym (λ j. (c.in_ok-life.ensures.live j).caps) i, none i)) c.in_ok-life.ensures.played

-- the life of a new server
new_life : (caps : Limits) (past : List (List ℕ)) (v : View) (callers : ℕ) (history : List Seen) → past ≡ [] → v.made ≡ 1
    → IsLife caps past (history_of v) v.made callers history → IsLife caps [] (history_of v) 1 callers history
new_life caps past v callers history none one life =
    subst (λ (q : List (List ℕ) × ℕ). IsLife caps q.0 (history_of v) q.1 callers history) (λ i. (none i, one i)) life

pub live_on-requires-clause-room : goal.live_on-requires-clause-room
live_on-requires-clause-room g c =
    let at = (goal.at.live_on-requires-clause-room g c).In_ok-life in
    omega (arith, no_others g at, ap length c.new-works.ensures.items, ap (λ (l : Limits). l.callers) (same_caps g at), c.requires.callers)

pub live_on-requires-clause-few : goal.live_on-requires-clause-few
live_on-requires-clause-few g c =
    let at = (goal.at.live_on-requires-clause-few g c).In_ok-life in omega (arith, no_others g at, ap length c.new-works.ensures.items)

pub live_on-requires-clause-stays : goal.live_on-requires-clause-stays
live_on-requires-clause-stays g c κs within after end tokens v w learns = learns_stays v w learns

many : (g : _) (c : In_ok-works-in-None g) → length c.in_ok-works-in-None.works.items ≡ length c.args.host.links.from.items
many g c = works_many c.args.host.links.bounds c.args.host.links.from.items c.in_ok-works-in-None.works.items c.in_ok-works-in-None.ensures

pub live_under-requires-clause-room : goal.live_under-requires-clause-room
live_under-requires-clause-room g c =
    let at = goal.at.live_under-requires-clause-room g c in
    omega (
      arith,
      no_others g at.In_ok-life,
      many g at.In_ok-works-in-None,
      ap (λ (l : Limits). l.callers) (same_caps g at.In_ok-life),
      c.requires.callers,
    )

pub live_under-requires-clause-few : goal.live_under-requires-clause-few
live_under-requires-clause-few g c =
    let at = goal.at.live_under-requires-clause-few g c in omega (arith, no_others g at.In_ok-life, many g at.In_ok-works-in-None, c.requires.few)

pub live_under-requires-clause-ready : goal.live_under-requires-clause-ready
live_under-requires-clause-ready g c κs within =
    works_ready c.args.host.links.bounds c.requires.count c.requires.idle c.args.host.links.from.items c.in_ok-works-in-None.works.items c.in_ok-works-in-None.ensures

pub live_under-requires-clause-begun : goal.live_under-requires-clause-begun
live_under-requires-clause-begun g c κs within holder v =
    none_ticked g.M.Method.keep g.M.Method.heard holder (g.C.Clock.left c.args.clock.now) (g.C.Clock.faults c.args.clock.now) v.seen

pub returns-in_ok-lived-in-Some-clause-hosts : goal.returns-in_ok-lived-in-Some-clause-hosts
returns-in_ok-lived-in-Some-clause-hosts g c =
    let at = (goal.at.returns-in_ok-lived-in-Some-clause-hosts g c).In_ok-life in
    let keep = g.M.Method.keep in
    let heard = g.M.Method.heard in
    let left = g.L.Link.left in
    let faults = g.L.Link.faults in
    let life = c.in_ok-life.life in
    let live = life.live in
    let v = view life.first.pass in
    let lives = c.in_ok-lived-in-Some.ensures in
    let lived = c.in_ok-lived-in-Some.lived in
    let part = part_of c.args.host.opening in
    let links = c.args.host.links.from.items in
    let clock = clock_read g.C.Clock.left g.C.Clock.faults c.args.clock.now c.args.clock.now in
    let hosted : Hosted g.row.M.Denot g.row.L.Denot =
    record { closed = lived.closed; opening = c.in_ok-life.opening; unenrolled = None; links = c.unserved-links.result; growth = Written 0 } in
    let new = new_life live.caps (past_of live.turn) v lives.callers lives.history (no_past g at) (made_one g at) lives.stage in
    let none =
    no_callers (link_plays keep heard left faults) live.caps v.made lives.callers lives.history lives.tokens lived.works
    (rw c.new-works.ensures.items at lives.played_so) in
    let alone = none_else left faults keep heard live.caps c.args.host.links.bounds part links clock hosted c.a_method_is_called_while_it_is_registered.ensures.removed
    (seen_by life.first) (opened g at) lives.history lives.callers lives.goes_on new lives.closed none in
    subst (λ (h : Hosted g.row.M.Denot g.row.L.Denot). Hosts left faults keep heard c.args.host.caps c.args.host.links.bounds part links clock h) (sym c.put_together.ensures)
    (subst (λ (caps : Limits). Hosts left faults keep heard caps c.args.host.links.bounds part links clock hosted) (same_caps g at)
    (hosts_alone left faults keep heard live.caps c.args.host.links.bounds part links clock hosted c.a_method_is_called_while_it_is_registered.ensures.removed
    (seen_by life.first) (opened g at) lives.history lives.callers lives.goes_on new lives.closed alone
    (rw c.in-Some.is (
      none,
      refl,
      alone,
      record {
        links_are = (λ i. (c.unserved-links.ensures.links i).items);
        clock_is = (refl, refl);
        faults_are = c.unserved-links.ensures.faults;
        failed_is = c.unserved-links.ensures.failed;
        clock_failed_is = c.unserved-links.ensures.clock;
        stop_is = c.unserved-links.ensures.stop;
      },
    ))))

pub unreachable-requires : goal.unreachable-requires
unreachable-requires g c = absurd (rw c.in_default.is at (rw c.in-Each.is at c.in_ok-lived-in-None.ensures.lives.played_so))

pub gather-requires : goal.gather-requires
gather-requires g c =
    let at = goal.at.gather-requires g c in
    let lives = c.in_ok-lived-in-None.ensures.lives in
    let played = rw c.in-Some-end.is at (rw c.in-Each.is at lives.played_so) in
    omega (
      arith,
      shares_long g.L.Link.left g.L.Link.faults g.M.Method.keep g.M.Method.heard c.in_ok-life.life.live.caps lives.history (own 0 lives.history)
          (view c.in_ok-life.life.first.pass).made c.in_ok-works-in-None.works.items c.in-Each.ends.items played.1 played.2,
      many g at.In_ok-works-in-None,
      c.requires.few,
    )

pub returns-in_ok-links-in-Each-clause-hosts : goal.returns-in_ok-links-in-Each-clause-hosts
returns-in_ok-links-in-Each-clause-hosts g c =
    let at = goal.at.returns-in_ok-links-in-Each-clause-hosts g c in
    let keep = g.M.Method.keep in
    let heard = g.M.Method.heard in
    let left = g.L.Link.left in
    let faults = g.L.Link.faults in
    let clock_left = g.C.Clock.left in
    let clock_faults = g.C.Clock.faults in
    let life = c.in_ok-life.life in
    let live = life.live in
    let v = view life.first.pass in
    let lives = c.in_ok-lived-in-None.ensures.lives in
    let lived = c.in_ok-lived-in-None.lived in
    let history = lives.history in
    let part = part_of c.args.host.opening in
    let bounds = c.args.host.links.bounds in
    let links = c.args.host.links.from.items in
    let works = c.in_ok-works-in-None.works.items in
    let ends = c.in-Each.ends.items in
    let end = c.in-Some-end.end in
    let before = c.args.clock.now in
    let after = c.live_under.new.on in
    let clock = clock_read clock_left clock_faults before after in
    let hosted : Hosted g.row.M.Denot g.row.L.Denot =
    record { closed = lived.closed; opening = c.in_ok-life.opening; unenrolled = None; links = c.in_ok-links-in-Each.links; growth = c.growth_of-growth.result } in
    let new = new_life live.caps (past_of live.turn) v lives.callers history (no_past g at.In_ok-life) (made_one g at.In_ok-life) lives.stage in
    let played = rw c.in-Some-end.is at (rw c.in-Each.is at lives.played_so) in
    let tokens = played.1 in
    let one = made_one g at.In_ok-life in
    let count = many g at.In_ok-works-in-None in
    let served =
    all_served left faults keep heard live.caps history bounds 1 links works ends tokens c.in_ok-works-in-None.ensures
    (subst (λ (n : ℕ). AreShares (link_plays keep heard left faults) live.caps (own 0 history) history n works ends tokens) one played.2) in
    let at_end : v.made + length works ≡ length links + 1 = omega (arith, one, count) in
    let ticker =
    ticker_served left faults keep heard live.caps history clock_left clock_faults before after end (length links + 1) tokens
    (subst (λ (n : ℕ). IsUnder (clock_ends keep heard clock_left clock_faults) (holder_at live.caps n) (own 0 history) history tokens before after end)
    at_end played.3) in
    let callers : lives.callers ≡ length links + 1 = omega (arith, played.0, count) in
    subst (λ (h : Hosted g.row.M.Denot g.row.L.Denot). Hosts left faults keep heard c.args.host.caps bounds part links clock h) (sym c.put_together-in-Each.ensures)
    (subst (λ (caps : Limits). Hosts left faults keep heard caps bounds part links clock hosted) (same_caps g at.In_ok-life)
    (hosts_beside left faults keep heard live.caps bounds part links clock hosted c.a_method_is_called_while_it_is_registered.ensures.removed
    (seen_by life.first) (opened g at.In_ok-life) history lives.callers lives.goes_on new lives.closed (length links + 1) callers
    (given_more history 1 (length links) served.1
    (subst (λ (n : ℕ). given_by gone history n ≡ []) (let e : length links + 1 ≡ 1 + length links = omega arith in e) ticker.kept))
    (rw c.in-None.is (
      callers,
      record {
        ends = ends;
        tokens = tokens;
        ticker_end = end;
        shares = served.0;
        ticks = ticker.ticks;
        comes_after = ticker.comes_after;
        settled = ticker.settled;
        tells = c.in_ok-links-in-Each.ensures;
      },
    ))))

pub returns-in_ok-links-in-NoRoom-clause-hosts : goal.returns-in_ok-links-in-NoRoom-clause-hosts
returns-in_ok-links-in-NoRoom-clause-hosts g c =
    let at = goal.at.returns-in_ok-links-in-NoRoom-clause-hosts g c in
    let keep = g.M.Method.keep in
    let heard = g.M.Method.heard in
    let left = g.L.Link.left in
    let faults = g.L.Link.faults in
    let clock_left = g.C.Clock.left in
    let clock_faults = g.C.Clock.faults in
    let life = c.in_ok-life.life in
    let live = life.live in
    let v = view life.first.pass in
    let lives = c.in_ok-lived-in-None.ensures.lives in
    let lived = c.in_ok-lived-in-None.lived in
    let history = lives.history in
    let part = part_of c.args.host.opening in
    let bounds = c.args.host.links.bounds in
    let links = c.args.host.links.from.items in
    let works = c.in_ok-works-in-None.works.items in
    let room = c.in-NoRoom.room in
    let before = c.args.clock.now in
    let after = c.live_under.new.on in
    let clock = clock_read clock_left clock_faults before after in
    let told = c.unserved-links-in-NoRoom.result in
    let hosted : Hosted g.row.M.Denot g.row.L.Denot =
    record { closed = lived.closed; opening = c.in_ok-life.opening; unenrolled = Some room; links = told; growth = c.growth_of-growth.result } in
    let new = new_life live.caps (past_of live.turn) v lives.callers history (no_past g at.In_ok-life) (made_one g at.In_ok-life) lives.stage in
    let none =
    not_there (HasPlayedUnder (link_plays keep heard left faults) (clock_ends keep heard clock_left clock_faults) live.caps v.made lives.callers history works
    before after (NoRoom room c.in-NoRoom.works)) lived.end (λ one holds. holds) (rw c.in-NoRoom.is at lives.played_so) in
    let still = c.unserved-links-in-NoRoom.ensures in
    subst (λ (h : Hosted g.row.M.Denot g.row.L.Denot). Hosts left faults keep heard c.args.host.caps bounds part links clock h) (sym c.put_together-in-NoRoom.ensures)
    (subst (λ (caps : Limits). Hosts left faults keep heard caps bounds part links clock hosted) (same_caps g at.In_ok-life)
    (hosts_alone left faults keep heard live.caps bounds part links clock hosted c.a_method_is_called_while_it_is_registered.ensures.removed
    (seen_by life.first) (opened g at.In_ok-life) history lives.callers lives.goes_on new lives.closed none.1.1
    (rw c.in-None.is (
      omega (arith, none.0, many g at.In_ok-works-in-None),
      none.1,
      record {
        links_are = (λ i. (still.links i).items) ∙ c.in_ok-links-in-NoRoom.ensures ∙ ap (map link_of) none.2
            ∙ works_links bounds links works c.in_ok-works-in-None.ensures;
        clock_is = (ap clock_left none.3, ap clock_faults none.3);
        faults_are = still.faults;
        failed_is = still.failed;
        clock_failed_is = still.clock;
        stop_is = still.stop;
      },
    ))))

-- How far the recording was written.

pub returns-in_ok-lived-in-Some-clause-grown : goal.returns-in_ok-lived-in-Some-clause-grown
returns-in_ok-lived-in-Some-clause-grown g c =
    subst (λ (h : Hosted g.row.M.Denot g.row.L.Denot). HasGrown h.growth
    (change g.R.Sink c.args.rec.now c.args.rec.now) h.closed.bytes.items) (sym c.put_together.ensures)
    (grown_none (g.R.Sink.held c.args.rec.now) (g.R.Sink.faults c.args.rec.now) c.in_ok-lived-in-Some.lived.closed.bytes.items)

pub returns-in_ok-links-in-Each-clause-grown : goal.returns-in_ok-links-in-Each-clause-grown
returns-in_ok-links-in-Each-clause-grown g c =
    let sink = change g.R.Sink c.args.rec.now c.live_under.new.lent in
    let bytes = c.in_ok-lived-in-None.lived.closed.bytes.items in
    subst (λ (h : Hosted g.row.M.Denot g.row.L.Denot). HasGrown h.growth sink h.closed.bytes.items) (sym c.put_together-in-Each.ensures)
    (subst (λ (growth : Growth). HasGrown growth sink bytes) (sym c.growth_of-growth.ensures)
    (looked_grown g.R.Sink c.in_ok-life.life.live.caps c.args.rec.now c.live_under.new.lent bytes c.in_ok-lived-in-None.looked
    c.in_ok-lived-in-None.ensures.looked))

pub returns-in_ok-links-in-NoRoom-clause-grown : goal.returns-in_ok-links-in-NoRoom-clause-grown
returns-in_ok-links-in-NoRoom-clause-grown g c =
    let sink = change g.R.Sink c.args.rec.now c.live_under.new.lent in
    let bytes = c.in_ok-lived-in-None.lived.closed.bytes.items in
    subst (λ (h : Hosted g.row.M.Denot g.row.L.Denot). HasGrown h.growth sink h.closed.bytes.items) (sym c.put_together-in-NoRoom.ensures)
    (subst (λ (growth : Growth). HasGrown growth sink bytes) (sym c.growth_of-growth.ensures)
    (looked_grown g.R.Sink c.in_ok-life.life.live.caps c.args.rec.now c.live_under.new.lent bytes c.in_ok-lived-in-None.looked
    c.in_ok-lived-in-None.ensures.looked))
