use Rattle.std.proofs.Common.{◌≡◌, ◌<◌, ◌∷◌, ◌++◌, ℕ, List, [], length, map, All, sym, ap, subst, ◌∙◌, arith, length-append}
use Rattle.std.specs.List.{AllByRecursion}
use Rattle.std.proofs.lemmas.List.{length-map}
use Rattle.std.proofs.lemmas.List.Elements.{All-push, All-from_recursion, recursion_from_All}
use Rattle.std.proofs.lemmas.Slice.Zip.{AllZip-long}
use Rattle.osc_turn.specs.declared.view.View.{View}
use Rattle.osc_turn.specs.Passes.{view}
use Rattle.osc_live.specs.declared.caller.Caller.{Caller}
use Rattle.osc_live.specs.Closing.{known}
use Rattle.osc_live.specs.Seen.{IsTokenOf}
use Rattle.osc_life.specs.Works.{IsDone, work_of, caller_in, end_in}
use Rattle.osc_life.proofs.Ending.{all_split, known_joined}
use Rattle.osc_life.proofs.Finishing.{all_playable}
use Rattle.osc_links.specs.declared.link_work.LinkWork.{LinkWork}
use Rattle.osc_links.specs.declared.link_work.LinkEnd.{LinkEnd}
use Rattle.osc_links.specs.Serves.{link_at, TellsLinks}
use Rattle.osc_links.specs.Works.{link_plays}
use Rattle.osc_links.proofs.Hosting.{works_ready, works_many}
use Rattle.osc_links.proofs.Tickings.{none_ticked}
use Rattle.osc_links.proofs.links.serve.Goals as goal
use Rattle.osc_links.proofs.links.serve.Goals.{In-Some, In_ok-both}

-- the callers of the links, and the ticker's
parted : (g : _) (c : In-Some g) → c.args.callers.items ≡ c.pop.new.self.items ++ c.in-Some.ticker ∷ []
parted g c = c.in-Some.ensures.items

both_ours : (g : _) (c : In-Some g)
    → AllByRecursion (λ (one : Caller). IsTokenOf c.args.live.now.turn c.args.live.now.caps one.pass) c.pop.new.self.items
    × AllByRecursion (λ (one : Caller). IsTokenOf c.args.live.now.turn c.args.live.now.caps one.pass) (c.in-Some.ticker ∷ [])
both_ours g c =
    let Ours : Caller → Type 0 = λ one. IsTokenOf c.args.live.now.turn c.args.live.now.caps one.pass in
    all_split Ours c.pop.new.self.items (c.in-Some.ticker ∷ [])
    (recursion_from_All Ours (c.pop.new.self.items ++ c.in-Some.ticker ∷ []) (subst (All Ours) (parted g c) c.requires.ours))

pub make_jobs-requires : goal.make_jobs-requires
make_jobs-requires g c =
    let at = goal.at.make_jobs-requires g c in
    omega (
      arith,
      ap length (parted g at.In-Some),
      length-append c.pop.new.self.items (c.in-Some.ticker ∷ []),
      c.requires.many,
      works_many c.args.bounds c.args.links.items c.in_ok-works.works.items c.in_ok-works.ensures,
    )

pub play_beside-requires-clause-jobs : goal.play_beside-requires-clause-jobs
play_beside-requires-clause-jobs g c κs within =
    let Ours : Caller → Type 0 = λ one. IsTokenOf c.args.live.now.turn c.args.live.now.caps one.pass in
    all_playable c.args.live.now (λ (work : LinkWork g.row.L.Denot). (0 < work.bounds.count) × (0 < work.bounds.idle)) c.in_ok-jobs.jobs.items
    c.pop.new.self.items c.in_ok-works.works.items c.in_ok-jobs.ensures.callers c.in_ok-jobs.ensures.works
    (All-from_recursion Ours c.pop.new.self.items (both_ours g (goal.at.play_beside-requires-clause-jobs g c).In-Some).0)
    (works_ready c.args.bounds c.requires.count c.requires.idle c.args.links.items c.in_ok-works.works.items c.in_ok-works.ensures)

pub play_beside-requires-clause-goes : goal.play_beside-requires-clause-goes
play_beside-requires-clause-goes g c κs within =
    let ticker = c.in-Some.ticker in
    record {
      ours = (both_ours g (goal.at.play_beside-requires-clause-goes g c).In-Some).1.0;
      before = c.args.clock.now;
      start = view ticker.pass;
      played = none_ticked g.M.Method.keep g.M.Method.heard _ (g.C.Clock.left c.args.clock.now) (g.C.Clock.faults c.args.clock.now) (view ticker.pass).seen;
    }

pub gather-requires : goal.gather-requires
gather-requires g c =
    let both = c.in_ok-both.ensures in
    omega (
      arith,
      ap length both.ends_are,
      length-map both.all end_in,
      AllZip-long (IsDone (link_plays g.M.Method.keep g.M.Method.heard g.L.Link.left g.L.Link.faults) c.args.live.now.caps) c.in_ok-jobs.jobs.items both.all
          both.done,
      ap length c.in_ok-jobs.ensures.works,
      length-map c.in_ok-jobs.jobs.items work_of,
      works_many c.args.bounds c.args.links.items c.in_ok-works.works.items c.in_ok-works.ensures,
      c.requires.few,
    )

pub returns-clause-ours : goal.returns-clause-ours
returns-clause-ours g c =
    let Ours : Caller → Type 0 = λ one. IsTokenOf c.args.live.now.turn c.args.live.now.caps one.pass in
    let out = c.in_ok-both.both in
    let over = c.in_ok-both.ensures.over in
    subst (All Ours) (sym c.in_ok-push.ensures.items) (All-push Ours out.crew.callers.items out.crew.first over.others_ours over.ours)

pub returns-clause-serves : goal.returns-clause-serves
returns-clause-serves g c =
    let at = goal.at.returns-clause-serves g c in
    let keep = g.M.Method.keep in
    let heard = g.M.Method.heard in
    let both = c.in_ok-both.ensures in
    let over = both.over in
    let out = c.in_ok-both.both in
    let ticker = c.in-Some.ticker in
    let jobs = c.in_ok-jobs.jobs.items in
    let others = map caller_in both.all in
    record {
      jobs = jobs;
      all = both.all;
      ticker = ticker;
      ticker_after = out.crew.first;
      ticker_end = out.end;
      callers_are = parted g at.In-Some ∙ ap (λ (l : List Caller). l ++ ticker ∷ []) (sym c.in_ok-jobs.ensures.callers);
      callers_then = ap known c.in_ok-push.ensures.items ∙ known_joined out.crew.callers.items (out.crew.first ∷ [])
          ∙ ap (λ (l : List (ℕ × View)). l ++ known (out.crew.first ∷ [])) over.same ∙ sym (known_joined others (out.crew.first ∷ []));
      links_are = ap (map link_at) c.in_ok-jobs.ensures.works ∙ c.in_ok-works.ensures;
      served = both.done;
      ticker_holder = over.holder;
      ticker_made = over.made;
      ticks = over.ended c.args.clock.now (view ticker.pass)
          (none_ticked keep heard _ (g.C.Clock.left c.args.clock.now) (g.C.Clock.faults c.args.clock.now) (view ticker.pass).seen);
      tells = subst (λ (l : List (LinkEnd g.row.L.Denot)). TellsLinks l out.end c.in_ok-told.told) both.ends_are c.in_ok-told.ensures;
    }
