-- What a token has seen that is told of others, one after another.
use Rattle.std.proofs.Common.{◌≡◌, ℕ, List, [], ◌∷◌, ◌++◌, get_or, All, sym, ap, subst, ◌∙◌}
use Rattle.std.proofs.lemmas.List.Elements.{All-push}
use Rattle.osc_turn.specs.declared.view.Entry.{Entry as Seen}
use Rattle.osc_turn.specs.declared.view.View.{View}
use Rattle.osc_turn.specs.History.{StartsWith, own}
use Rattle.osc_turn.specs.Rule.{number_of}
use Rattle.osc_turn.specs.Passes.{met_by}
use Rattle.osc_turn.proofs.Histories.{starts_on}
use Rattle.osc_life.specs.Holders.{Learns, Stays}

-- it has seen what each of these has seen
abbrev pub HasHeard : List Seen → ℕ × View → Type 0
HasHeard seen one = StartsWith seen one.1.seen

pub heard_more : (seen more : List Seen) (knows : List (ℕ × View)) (one : ℕ × View) → StartsWith more seen → All (HasHeard seen) knows
    → HasHeard more one → All (HasHeard more) (knows ++ one ∷ [])
heard_more seen more knows one on heard last =
    All-push (HasHeard more) knows one (λ k d within. starts_on more seen (get_or knows k d).1.seen on (heard k d within)) last

pub learns_on : (v w u : View) → Learns v w → Learns w u → Learns v u
learns_on v w u first next =
    let number : number_of w ≡ number_of v = ap number_of first.same in
    record {
      same = next.same ∙ ap (λ (z : View). record z { seen = u.seen; olds = u.olds }) first.same;
      goes_on = starts_on u.seen w.seen v.seen next.goes_on first.goes_on;
      own_same = subst (λ (n : ℕ). own n u.seen ≡ own n w.seen) number next.own_same ∙ first.own_same;
    }

-- what another had seen is told
pub learns_told : (v w other : View) → w ≡ met_by v other → StartsWith w.seen v.seen → own (number_of v) w.seen ≡ own (number_of v) v.seen → Learns v w
learns_told v w other is starts own_same = record {
  same = is ∙ (λ i. record v { seen = sym (ap (λ (z : View). z.seen) is) i; olds = sym (ap (λ (z : View). z.olds) is) i });
  goes_on = starts;
  own_same = own_same;
}

-- and it stays
pub learns_stays : (v w : View) → Learns v w → Stays v w
learns_stays v w learns = record { token = ap number_of learns.same; starts = learns.goes_on; own_same = learns.own_same }
