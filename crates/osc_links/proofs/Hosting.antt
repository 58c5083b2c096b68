-- From the life of a server with links to its contract.
use Rattle.std.proofs.Common.{◌≡◌, ℕ, suc, ◌+◌, ◌<◌, Bool, true, false, cond, eqb, List, [], ◌∷◌, ◌++◌, length, map, flat_map, All, Option, Some, None, refl, sym, ap, subst, ◌∙◌, arith}
use Rattle.std.proofs.Common.{append-nil, get_or}
use Rattle.std.specs.Prelude.{MatchOption}
use Rattle.std.specs.List.{AllByRecursion}
use Rattle.std.specs.List.Sorted.{IsPermutation}
use Rattle.std.proofs.lemmas.List.{length-map}
use Rattle.std.proofs.lemmas.List.Elements.{All-from_recursion, recursion_from_All}
use Rattle.std.proofs.lemmas.List.Sorted.{IsPermutation-refl}
use Rattle.osc_method.specs.Heard.{Fixed}
use Rattle.osc_model.specs.Limits.{Limits}
use Rattle.osc_record.specs.Shown.{room_of}
use Rattle.osc_core.specs.Standing.{history_in}
use Rattle.osc_core.specs.Telling.{told}
use Rattle.osc_turn.specs.declared.view.Entry.{Entry as Seen}
use Rattle.osc_turn.specs.History.{StartsWith, texts, own}
use Rattle.osc_turn.proofs.Histories.{starts_on}
use Rattle.osc_life.specs.declared.life.Played.{Played}
use Rattle.osc_life.specs.declared.life.Played.TheVariants.{Each, NoRoom}
use Rattle.osc_life.specs.Holders.{Holder, Onward, holder_at}
use Rattle.osc_life.specs.Lives.{AreShares, HasPlayed, IsLife, IsClosed, IsUnder, HasNoRoomToEnrol}
use Rattle.osc_life.specs.Works.{HasShare}
use Rattle.osc_life.proofs.Balance.{gone_ids}
use Rattle.osc_life.proofs.Ending.{gone_is}
use Rattle.osc_life.proofs.Enrolling.{own_before}
use Rattle.osc_life.proofs.Enrolments.{all_own}
use Rattle.osc_lanes.specs.Performs.{Part, removed_ids, told_of}
use Rattle.osc_lanes.specs.Shares.{Account, Plays}
use Rattle.osc_lanes.proofs.Parting.{given_by, given_in, parted}
use Rattle.osc_lanes.proofs.Performing.{below, closed_later, given_joined, gone_enrolled}
use Rattle.osc_lanes.proofs.Removals.{gone, gone_in, plays_gone}
use Rattle.osc_lanes.proofs.Staying.{StaySilent, removed_later}
use Rattle.osc_links.specs.declared.link_work.LinkEnd.{LinkEnd}
use Rattle.osc_links.specs.declared.link_work.LinkWork.{LinkWork}
use Rattle.osc_links.specs.declared.run.Hosted.{Hosted}
use Rattle.osc_links.specs.declared.served.Bounds.{Bounds}
use Rattle.osc_links.specs.declared.served.TickerEnd.{TickerEnd}
use Rattle.osc_links.specs.declared.served.TickerEnd.TheVariants.{Done}
use Rattle.osc_links.specs.Hosts.{IsServed, AreServed, IsSettled, IsUnserved, ServesAll, Hosts}
use Rattle.osc_links.specs.Links.{LinkTurn, ServesLink}
use Rattle.osc_links.specs.Serves.{link_at, bound_to, link_of}
use Rattle.osc_links.specs.Ticks.{ClockRead, Ticks, TickOf, clock_read}
use Rattle.osc_links.specs.Works.{link_plays, clock_ends}
use Rattle.osc_links.proofs.Keeping.{link_gone, ticks_gone}
use Rattle.osc_links.proofs.Settling.{done_settles}

-- own entries are their own
own_twice : (number : ℕ) (history : List Seen) → own number (own number history) ≡ own number history
own_twice number [] = refl
own_twice number (one ∷ history) = go (eqb one.number number) refl (own_twice number history) where
  go : (test : Bool) → eqb one.number number ≡ test → own number (own number history) ≡ own number history
      → own number (cond test (one ∷ own number history) (own number history)) ≡ cond test (one ∷ own number history) (own number history)
  go true is rest =
      ap (λ t. cond t (one ∷ own number (own number history)) (own number (own number history))) is ∙ ap (λ (l : List Seen). one ∷ l) rest
  go false is rest = rest

-- where there was no work, no caller was enrolled
pub no_callers : {P E : Type 0} (plays : P → E → Holder → List Seen → List Seen → Type 0) (caps : Limits) (next callers : ℕ) (history : List Seen)
    (tokens : List (List Seen)) (played : Played P E) → HasPlayed plays caps next callers history [] tokens played → callers ≡ 0
no_callers plays caps next callers history tokens (Each ends) is = is.0
no_callers plays caps next callers history tokens (NoRoom room back) is = absurd (omega (arith, is.0))

-- what holds of an option, but of none that is there
pub not_there : {F : Type 0} (Q : Option F → Type 0) (end : Option F) → ((one : F) → Q (Some one) → ⊥) → Q end → Q None
not_there Q None never holds = holds
not_there Q (Some one) never holds = absurd (never one holds)

-- Links as works.

abbrev CanServe : {L : Type 0} → LinkWork L → Type 0
CanServe work = (0 < work.bounds.count) × (0 < work.bounds.idle)

ready_each : {L : Type 0} (bounds : Bounds) → 0 < bounds.count → 0 < bounds.idle → (links : List L) (works : List (LinkWork L))
    → map link_at works ≡ map (bound_to bounds) links → AllByRecursion CanServe works
ready_each bounds count idle [] [] are = tt
ready_each bounds count idle [] (work ∷ works) are = absurd (cc)
ready_each bounds count idle (link ∷ links) [] are = absurd (cc)
ready_each {L} bounds count idle (link ∷ links) (work ∷ works) are =
    let head : link_at work ≡ bound_to bounds link = cc in
    let rest : map link_at works ≡ map (bound_to bounds) links = cc in (
      subst (λ (b : Bounds). (0 < b.count) × (0 < b.idle)) (sym (ap (λ (q : L × Bounds). q.1) head)) (count, idle),
      ready_each bounds count idle links works rest,
    )

pub works_ready : {L : Type 0} (bounds : Bounds) → 0 < bounds.count → 0 < bounds.idle → (links : List L) (works : List (LinkWork L))
    → map link_at works ≡ map (bound_to bounds) links → All CanServe works
works_ready bounds count idle links works are = All-from_recursion CanServe works (ready_each bounds count idle links works are)

-- there are as many works as links
pub works_many : {L : Type 0} (bounds : Bounds) (links : List L) (works : List (LinkWork L)) → map link_at works ≡ map (bound_to bounds) links
    → length works ≡ length links
works_many bounds links works are = sym (length-map works link_at) ∙ ap length are ∙ length-map links (bound_to bounds)

-- the works' links are the links
pub works_links : {L : Type 0} (bounds : Bounds) (links : List L) (works : List (LinkWork L)) → map link_at works ≡ map (bound_to bounds) links
    → map link_of works ≡ links
works_links bounds [] [] are = refl
works_links bounds [] (work ∷ works) are = absurd (cc)
works_links bounds (link ∷ links) [] are = absurd (cc)
works_links {L} bounds (link ∷ links) (work ∷ works) are =
    let head : link_at work ≡ bound_to bounds link = cc in
    let rest : map link_at works ≡ map (bound_to bounds) links = cc in
    λ i. (ap (λ (q : L × Bounds). q.0) head) i ∷ works_links bounds links works rest i

-- what these numbers give, and one more
pub given_more : (history : List Seen) (first count : ℕ) → given_in gone history first count ≡ [] → given_by gone history (first + count) ≡ []
    → given_in gone history first (count + 1) ≡ []
given_more history first count some one =
    given_joined history first count 1 (count + 1) refl ∙ (λ i. some i ++ (one i ++ []))

module _ {M L : Type 0} (left : L → Option (List LinkTurn)) (faults : L → ℕ) (keep : M → Fixed) (heard : M → Option (List ℕ)) (caps : Limits)
    (history : List Seen) where
  link_served : (bounds : Bounds) (number : ℕ) (link : L) (work : LinkWork L) (end : LinkEnd L) (there : List Seen) → link_at work ≡ bound_to bounds link
      → HasShare (link_plays keep heard left faults) (holder_at caps number) (own 0 history) history work end there
      → IsServed left faults keep heard caps bounds history number link end there × (given_by gone history number ≡ [])
  link_served bounds number link work end there is share =
      let holder = holder_at caps number in
      let serves : ServesLink keep heard left faults holder bounds link end share.here there =
      subst (λ (q : L × Bounds). ServesLink keep heard left faults holder q.1 q.0 end share.here there) is share.played in (
        record {
          turns = serves.turns;
          share = (share.here, there, share.fresh, serves.plays, share.onward);
          comes_after = share.comes_after;
          there_is = refl;
          taken = serves.taken;
          cause = serves.cause;
        },
        ap (flat_map gone) share.onward.1 ∙ link_gone holder keep heard bounds serves.turns end.over _ share.here there refl serves.plays
            ∙ ap (flat_map gone) share.fresh,
      )

  -- the shares of links as works are those of links, who removed nothing
  pub all_served : (bounds : Bounds) (number : ℕ) (links : List L) (works : List (LinkWork L)) (ends : List (LinkEnd L)) (tokens : List (List Seen))
      → map link_at works ≡ map (bound_to bounds) links
      → AreShares (link_plays keep heard left faults) caps (own 0 history) history number works ends tokens
      → AreServed left faults keep heard caps bounds history number links ends tokens × (given_in gone history number (length links) ≡ [])
  all_served bounds number [] [] [] [] are all = (tt, refl)
  all_served bounds number (link ∷ links) (work ∷ works) (end ∷ ends) (there ∷ tokens) are all =
      let head : link_at work ≡ bound_to bounds link = cc in
      let rest : map link_at works ≡ map (bound_to bounds) links = cc in
      let one = link_served bounds number link work end there head all.0 in
      let more = all_served bounds (number + 1) links works ends tokens rest all.1 in ((one.0, more.0), λ i. one.1 i ++ more.1 i)
  all_served bounds number [] (work ∷ works) ends tokens are all = absurd (cc)
  all_served bounds number (link ∷ links) [] ends tokens are all = absurd (cc)
  all_served bounds number [] [] [] (there ∷ tokens) are all = absurd all
  all_served bounds number [] [] (end ∷ ends) tokens are all = absurd all
  all_served bounds number (link ∷ links) (work ∷ works) [] tokens are all = absurd all
  all_served bounds number (link ∷ links) (work ∷ works) (end ∷ ends) [] are all = absurd all

  -- there are as many ends as works
  pub shares_long : (first : List Seen) (number : ℕ) (works : List (LinkWork L)) (ends : List (LinkEnd L)) (tokens : List (List Seen))
      → AreShares (link_plays keep heard left faults) caps first history number works ends tokens → length ends ≡ length works
  shares_long first number [] [] [] all = refl
  shares_long first number (work ∷ works) (end ∷ ends) (there ∷ tokens) all =
      ap suc (shares_long first (number + 1) works ends tokens all.1)
  shares_long first number [] [] (there ∷ tokens) all = absurd all
  shares_long first number [] (end ∷ ends) tokens all = absurd all
  shares_long first number (work ∷ works) [] tokens all = absurd all
  shares_long first number (work ∷ works) (end ∷ ends) [] all = absurd all

  -- the ticker's share, and that it removed nothing
  pub record TickerServed (number : ℕ) (tokens : List (List Seen)) (clock : ClockRead) (end : TickerEnd) : Type 0 where
    pub ticks : TickOf keep heard (holder_at caps number) tokens clock end history
    pub comes_after : StartsWith ticks.0 (own 0 history)
    pub settled : end ≡ Done → IsSettled caps history
    pub kept : given_by gone history number ≡ []

  pub ticker_served : {C : Type 0} (clock_left : C → Option (List ℕ)) (clock_faults : C → ℕ) (before after : C) (end : TickerEnd) (number : ℕ)
      (tokens : List (List Seen))
      → IsUnder (clock_ends keep heard clock_left clock_faults) (holder_at caps number) (own 0 history) history tokens before after end
      → TickerServed number tokens (clock_read clock_left clock_faults before after) end
  ticker_served clock_left clock_faults before after end number tokens under =
      let holder = holder_at caps number in
      let clock = clock_read clock_left clock_faults before after in
      let ended = under.ended in
      let here = under.start.seen in
      let onward : Onward number ended.0 history = subst (Onward number ended.0) under.whole ended.2 in
      record {
        ticks = (here, ended.0, under.fresh, ended.1, onward);
        comes_after = under.comes_after;
        settled = λ done.
            subst (IsSettled caps) (sym (ended.3 done) ∙ under.whole)
            (done_settles keep heard holder tokens clock here ended.0
            (subst (λ (e : TickerEnd). Ticks keep heard holder tokens clock e here ended.0) done ended.1)).2;
        kept = ap (flat_map gone) onward.1 ∙ ticks_gone holder keep heard tokens clock end here ended.0 ended.1 ∙ ap (flat_map gone) under.fresh;
      }

module _ {M L : Type 0} (left : L → Option (List LinkTurn)) (faults : L → ℕ) (keep : M → Fixed) (heard : M → Option (List ℕ)) (caps : Limits) (bounds : Bounds)
    (part : Part M) (links : List L) (clock : ClockRead) (hosted : Hosted M L) (silent : StaySilent) (opened : List Seen)
    (plays : Plays keep heard (holder_at caps 0) part.lines part.boxes (told_of hosted.opening) [] opened) (history : List Seen) (callers : ℕ)
    (begins : StartsWith (own 0 history) opened) (life : IsLife caps [] (history_in (texts opened)) 1 callers history)
    (closed : IsClosed caps history hosted.closed.bytes.items (told keep heard hosted.closed.kept.items)) where
  -- how the links of a history were served, or why they weren't
  abbrev Serving : Type 0
  Serving =
      MatchOption hosted.opening.stop
      (MatchOption hosted.unenrolled
      ((callers ≡ length links + 1) × ServesAll left faults keep heard caps bounds history links clock hosted.links)
      (λ room. (callers < length links + 1) × HasNoRoomToEnrol caps history (room_of room) × IsUnserved links clock hosted.links))
      (λ room. (callers ≡ 0) × (hosted.unenrolled ≡ None) × (own 0 history ≡ history) × IsUnserved links clock hosted.links)

  abbrev account : Account M
  account = told_of hosted.opening

  -- what caller 0 removed
  first_gone : given_by gone history 0 ≡ map (λ one. one.0) account.removed
  first_gone =
      let entries = history_in (texts opened) in
      let mine = own_before 0 (own 0 history) opened begins (own_twice 0 history) in
      gone_in (own 0 history) ∙ ap gone_ids life.enrolled ∙ gone_enrolled entries 1 callers ∙ sym (gone_is entries)
      ∙ sym (gone_in opened) ∙ ap (flat_map gone) (sym mine)
      ∙ plays_gone (holder_at caps 0) keep heard part.lines part.boxes account [] opened plays

  hosts : IsPermutation (gone_ids (history_in (texts history))) (removed_ids (account ∷ [])) → Serving
      → Hosts left faults keep heard caps bounds part links clock hosted
  hosts removed_are serving = record {
    history = history;
    callers = callers;
    opened = opened;
    plays = plays;
    begins = begins;
    stage = life;
    closed = closed_later keep heard caps [] history hosted.closed.bytes.items hosted.closed.kept.items closed (account ∷ []) removed_are (
      removed_later keep heard (holder_at caps 0) silent part.lines part.boxes account [] opened history plays
          (starts_on history (own 0 history) opened life.begins begins) life.legal,
      tt,
    );
    shares = serving;
  }

  -- the others removed nothing
  pub hosts_beside : (others : ℕ) → callers ≡ others → given_in gone history 1 others ≡ [] → Serving
      → Hosts left faults keep heard caps bounds part links clock hosted
  hosts_beside others is none serving =
      let whole : given_in gone history 0 (suc others) ≡ removed_ids (account ∷ []) = λ i. first_gone i ++ none i in
      let below : AllByRecursion (λ (one : Seen). one.number < suc others) history =
      recursion_from_All (λ (one : Seen). one.number < suc others) history (λ k d within. omega (arith, below callers (get_or history k d).number (life.within k d within), is)) in
      hosts (subst (λ (q : List ℕ × List ℕ). IsPermutation q.0 q.1) (λ i. (gone_in history i, whole i)) (parted gone (suc others) history below)) serving

  -- there are no entries but caller 0's
  pub hosts_alone : own 0 history ≡ history → Serving → Hosts left faults keep heard caps bounds part links clock hosted
  hosts_alone alone serving =
      let same : gone_ids (history_in (texts history)) ≡ removed_ids (account ∷ []) =
      sym (gone_in history) ∙ ap (flat_map gone) (sym alone) ∙ first_gone ∙ sym (append-nil (map (λ one. one.0) account.removed)) in
      hosts (subst (IsPermutation (gone_ids (history_in (texts history)))) same (IsPermutation-refl (gone_ids (history_in (texts history))))) serving

  -- where none was enrolled
  pub none_else : callers ≡ 0 → own 0 history ≡ history
  none_else none =
      all_own 0 history
      (recursion_from_All (λ (one : Seen). one.number ≡ 0) history (λ k d within. omega (arith, below callers (get_or history k d).number (life.within k d within), none)))
