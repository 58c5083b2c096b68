-- Rounds, one after another.
use Rattle.std.proofs.Common.{List, map, refl, sym, subst, ◌∙◌}
use Rattle.osc_method.specs.declared.method.Method.{Ghosts}
use Rattle.osc_turn.specs.declared.view.Entry.{Entry as Seen}
use Rattle.osc_turn.specs.declared.view.View.{View}
use Rattle.osc_turn.specs.Passes.{view}
use Rattle.osc_turn.proofs.Histories.{starts_here, starts_on}
use Rattle.osc_live.specs.declared.caller.Caller.{Caller}
use Rattle.osc_live.specs.declared.live.Live.{Live}
use Rattle.osc_live.specs.Tokens.{IsOurs}
use Rattle.osc_life.specs.Holders.{Holder, seen_by}
use Rattle.osc_life.specs.Works.{CanGoOn, PlaysOn, IsOver}

module _ {M : Type 0} {G : Ghosts M} (live : Live M G) {X T : Type 0} (rounds : X → X → T → Holder → View → View → Type 0) where
  pub none_played : (on : X) (state : T) (caller : Caller) → IsOurs live caller → PlaysOn live rounds on on state state caller caller
  none_played on state caller ours = record { ours = ours; holder = refl; made = refl; starts = starts_here (seen_by caller); goes_on = λ before v played. played }

  pub more_played : (on middle after : X) (state between then : T) (caller next last : Caller) → PlaysOn live rounds on middle state between caller next
      → PlaysOn live rounds middle after between then next last → PlaysOn live rounds on after state then caller last
  more_played on middle after state between then caller next last first second = record {
    ours = second.ours;
    holder = second.holder ∙ first.holder;
    made = second.made ∙ first.made;
    starts = starts_on (seen_by last) (seen_by next) (seen_by caller) second.starts first.starts;
    goes_on = λ before v played.
        subst (λ (h : Holder). rounds before after then h v (view last.pass)) first.holder
        (second.goes_on before v
        (subst (λ (h : Holder). rounds before middle between h v (view next.pass)) (sym first.holder) (first.goes_on before v played)));
  }

  pub still_goes : (on after : X) (state then : T) (caller next : Caller) → CanGoOn live rounds on state caller
      → PlaysOn live rounds on after state then caller next → CanGoOn live rounds after then next
  still_goes on after state then caller next goes plays = record {
    ours = plays.ours;
    before = goes.before;
    start = goes.start;
    played = subst (λ (h : Holder). rounds goes.before after then h goes.start (view next.pass)) (sym plays.holder)
        (plays.goes_on goes.before goes.start goes.played);
  }

  -- rounds, and then they were ended
  pub over_more : {F : Type 0} (ends : X → X → F → Holder → List (List Seen) → View → View → Type 0) (on middle after : X) (state between : T) (end : F)
      (caller next last : Caller) (others back : List Caller) → PlaysOn live rounds on middle state between caller next
      → IsOver live rounds ends middle after between end next last others back → IsOver live rounds ends on after state end caller last others back
  over_more ends on middle after state between end caller next last others back plays over = record {
    ours = over.ours;
    others_ours = over.others_ours;
    holder = over.holder ∙ plays.holder;
    made = over.made ∙ plays.made;
    starts = starts_on (seen_by last) (seen_by next) (seen_by caller) over.starts plays.starts;
    same = over.same;
    told = over.told;
    ended = λ before v played.
        subst (λ (h : Holder). ends before after end h (map seen_by others) v (view last.pass)) plays.holder
        (over.ended before v (subst (λ (h : Holder). rounds before middle between h v (view next.pass)) (sym plays.holder) (plays.goes_on before v played)));
  }
