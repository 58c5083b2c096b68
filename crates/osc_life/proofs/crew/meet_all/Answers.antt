use Rattle.std.proofs.Common.{◌≡◌, ℕ, List, [], ◌∷◌, ◌++◌, All, sym, ap, subst, ◌∙◌, append_assoc}
use Rattle.std.specs.Vec.Iter.{into_iter_items}
use Rattle.std.proofs.lemmas.List.{map-append}
use Rattle.std.proofs.lemmas.List.Elements.{All-push, All-head, All-rest}
use Rattle.osc_turn.specs.declared.view.View.{View}
use Rattle.osc_turn.specs.History.{own, StartsWith}
use Rattle.osc_turn.specs.Rule.{number_of}
use Rattle.osc_turn.specs.Passes.{view}
use Rattle.osc_live.specs.declared.caller.Caller.{Caller}
use Rattle.osc_live.specs.Seen.{IsTokenOf}
use Rattle.osc_life.specs.Crews.{names_of, IsSilent, HasSeen}
use Rattle.osc_life.proofs.crew.meet_all.Goals as goal

-- the names so far, one more, and those that are left
names_on : (met rest left all : List Caller) (caller told : Caller) → names_of met ++ names_of left ≡ names_of all → left ≡ caller ∷ rest
    → told.number ≡ caller.number → number_of (view told.pass) ≡ number_of (view caller.pass)
    → names_of (met ++ told ∷ []) ++ names_of rest ≡ names_of all
names_on met rest left all caller told is next number token =
    let name : ◌≡◌ {A = ℕ × ℕ} (told.number, number_of (view told.pass)) (caller.number, number_of (view caller.pass)) = λ i. (number i, token i) in
    ap (λ (l : List (ℕ × ℕ)). l ++ names_of rest) (map-append (λ (one : Caller). (one.number, number_of (view one.pass))) met (told ∷ []))
    ∙ append_assoc (names_of met) (names_of (told ∷ [])) (names_of rest)
    ∙ ap (λ (p : ℕ × ℕ). names_of met ++ p ∷ names_of rest) name
    ∙ ap (λ (l : List Caller). names_of met ++ names_of l) (sym next) ∙ is

-- a caller that met another has no entries still
silent_met : (caller told : Caller) → number_of (view told.pass) ≡ number_of (view caller.pass)
    → own (number_of (view caller.pass)) (view told.pass).seen ≡ own (number_of (view caller.pass)) (view caller.pass).seen → IsSilent caller
    → IsSilent told
silent_met caller told token kept silent = ap (λ (n : ℕ). own n (view told.pass).seen) token ∙ kept ∙ silent

pub loop-caller-preserved : goal.loop-caller-preserved
loop-caller-preserved g c =
    let inv = c.loop-caller.invariant in
    let meets = c.meet-next.ensures in
    let next = c.in-Some.ensures.steps.0 in
    let caller = c.in-Some.caller in
    let told = c.meet-next.result.1 in
    let met = c.loop-caller.met.items in
    let left = into_iter_items c.loop-caller.caller-iterator in
    let rest = into_iter_items c.next.new.self in
    let items = c.in_ok-push.ensures.items in
    let Ours : Caller → Type 0 = λ one. IsTokenOf c.args.live.now.turn c.args.live.now.caps one.pass in
    let token : number_of (view told.pass) ≡ number_of (view caller.pass) = ap number_of meets.into in
    let seen : HasSeen (view c.args.crew.first.pass).seen told = subst (λ (v : View). StartsWith (view told.pass).seen v.seen) inv.same meets.told in
    record {
      ours = meets.from_ours;
      number = meets.numbers.0 ∙ inv.number;
      same = meets.from ∙ inv.same;
      names = ap (λ (l : List Caller). names_of l ++ names_of rest) items
          ∙ names_on met rest left c.args.crew.callers.items caller told inv.names next meets.numbers.1 token;
      callers_ours = subst (All Ours) (sym items) (All-push Ours met told inv.callers_ours meets.into_ours);
      silent = subst (All IsSilent) (sym items)
          (All-push IsSilent met told inv.silent
          (silent_met caller told token meets.none_added (All-head IsSilent caller rest (subst (All IsSilent) next inv.left_silent))));
      told = subst (All (HasSeen (view c.args.crew.first.pass).seen)) (sym items) (All-push (HasSeen (view c.args.crew.first.pass).seen) met told inv.told seen);
      left_ours = All-rest Ours caller rest left next inv.left_ours;
      left_silent = All-rest IsSilent caller rest left next inv.left_silent;
    }

pub meet-next-requires-clause-from_ours : goal.meet-next-requires-clause-from_ours
meet-next-requires-clause-from_ours g c = c.loop-caller.invariant.ours
