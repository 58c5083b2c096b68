-- What the server of a light plays, turn by turn.
use Rattle.std.proofs.Common.{◌≡◌, ℕ, zero, suc, ◌+◌, ◌-◌, ◌<◌, Bool, true, false, cond, List}
use Rattle.std.proofs.Common.{[], ◌∷◌, ◌++◌, map, Option, Some, None, refl, sym, ap, ◌∙◌, append_assoc, arith}
use Rattle.std.specs.List.{flat_map}
use Rattle.std.specs.Option.{option_map}
use Rattle.osc_atoms.specs.declared.limits.TheConstants.{MAX_PACKET}
use Rattle.osc_edge.specs.declared.link.Datagram.{Datagram}
use Rattle.osc_edge.specs.declared.link.Datagram.TheVariants.{Got, Quiet, End, Failed}
use Rattle.osc_edge.specs.Link.{TakesTurn}
use Rattle.osc_packet.specs.Reading.{is_packet}
use Rattle.osc_model.specs.Events.{submit, tick, release, adds_entry}
use Rattle.osc_model.specs.History.{Performance, stepped_in, onward}
use Rattle.osc_core.specs.declared.answers.Releasing.{Releasing}
use Rattle.osc_core.specs.declared.answers.Releasing.TheVariants as releasing
use Rattle.osc_core.specs.Answers.{TellsRelease}
use Rattle.osc_uses.specs.declared.light.TheConstants.{RELEASES}
use Rattle.osc_uses.specs.Played.{played}
use Rattle.osc_uses.specs.Light.{Round, SetsClock, PlaysRound, ServesLight, packets_in, turn_of, tick_at, round_events, releases}
use Rattle.osc_uses.proofs.Playing.{played_then, played_bytes}

-- the clock stays
pub clock_stays : (before : Performance) → SetsClock before before
unfolding played
clock_stays before = (None, refl)

-- it is set
pub clock_set : (before after : Performance) (moment : ℕ) → after ≡ onward before 0 (tick moment) → SetsClock before after
unfolding played
clock_set before after moment ticks = (Some moment, ticks)

-- no release is left
pub none_left : (performance : Performance) (left : ℕ) → left ≡ 0 → played performance (releases left) ≡ performance
unfolding played releases
none_left performance left none = ap (λ (n : ℕ). played performance (releases n)) none

-- one was made
pub one_made : (now next : Performance) (all made : ℕ) → made < all → next ≡ onward now 0 release
    → played next (releases (all - (made + 1))) ≡ played now (releases (all - made))
unfolding played releases
one_made now next all made within is =
    let one : all - made ≡ suc (all - (made + 1)) = omega (arith, within) in
    ap (λ (p : Performance). played p (releases (all - (made + 1)))) is ∙ sym (ap (λ (n : ℕ). played now (releases n)) one)

rests : (performance : Performance) (left : ℕ) → onward performance 0 release ≡ performance → played performance (releases left) ≡ performance
unfolding played releases
rests performance zero still = refl
rests performance (suc left) still = ap (λ (p : Performance). played p (releases left)) still ∙ rests performance left still

no_entry : (performance : Performance) → adds_entry (stepped_in performance release).answer ≡ false → onward performance 0 release ≡ performance
no_entry performance none = rw none refl

-- one that releases nothing changes nothing, and so do those that are left
pub at_rest : (now next : Performance) (answer : Releasing) (left : ℕ) → ((unit calls : ℕ) → answer ≡ releasing.Released unit calls → ⊥)
    → TellsRelease answer (stepped_in now release).answer → next ≡ onward now 0 release → next ≡ played now (releases left)
at_rest now next (releasing.Released unit calls) left none tells is = absurd (none unit calls refl)
at_rest now next (releasing.NothingDue due) left none tells is =
    let still = no_entry now (ap adds_entry tells) in
    is ∙ still ∙ sym (rests now left still)
at_rest now next (releasing.RecordFull room) left none tells is =
    let still = no_entry now (ap adds_entry tells) in
    is ∙ still ∙ sym (rests now left still)

-- the packets of a turn, and then the clock and the releases
pub a_round : (packets : List (List ℕ)) (before submitted set after : Performance) → submitted ≡ played before (map submit packets) → SetsClock submitted set
    → after ≡ played set (releases RELEASES) → PlaysRound packets before after
a_round packets before submitted set after submits sets released = (
  sets.0,
  released ∙ ap (λ (p : Performance). played p (releases RELEASES)) (sets.1 ∙ ap (λ (p : Performance). played p (tick_at sets.0)) submits)
      ∙ played_then (played before (map submit packets)) (tick_at sets.0) (releases RELEASES)
      ∙ played_then before (map submit packets) (tick_at sets.0 ++ releases RELEASES),
)

-- a datagram that is a packet is submitted
pub a_packet : (before after : Performance) (packet datagram : List ℕ) → is_packet MAX_PACKET datagram ≡ true → packet ≡ datagram
    → after ≡ onward before 0 (submit packet) → after ≡ played before (map submit (packets_in (Some datagram ∷ [])))
a_packet before after packet datagram is alike submits =
    played_bytes before after packet datagram submits alike
    ∙ ap (λ (t : Bool). played before (map submit (cond t (datagram ∷ []) []))) (sym is)

-- one that is none does nothing
pub no_packet : (before : Performance) (datagram : List ℕ) → is_packet MAX_PACKET datagram ≡ false
    → before ≡ played before (map submit (packets_in (Some datagram ∷ [])))
unfolding played
no_packet before datagram isnt = ap (λ (t : Bool). played before (map submit (cond t (datagram ∷ []) []))) (sym isnt)

no_datagram : (datagram : Datagram) (space : List ℕ) → ((count : ℕ) → datagram ≡ Got count → ⊥) → packets_in (turn_of datagram space) ≡ []
no_datagram (Got count) space none = absurd (none count refl)
no_datagram Quiet space none = refl
no_datagram End space none = refl
no_datagram Failed space none = refl

-- what is no datagram does nothing
pub no_turn : (before : Performance) (datagram : Datagram) (space : List ℕ) → ((count : ℕ) → datagram ≡ Got count → ⊥)
    → before ≡ played before (map submit (packets_in (turn_of datagram space)))
unfolding played
no_turn before datagram space none = ap (λ (p : List (List ℕ)). played before (map submit p)) (sym (no_datagram datagram space none))

same : {X : Type 0} (left : Option (List X)) → left ≡ option_map (λ l. [] ++ l) left
same None = refl
same (Some left) = refl

both : {X : Type 0} (first more : List X) (left : Option (List X))
    → option_map (λ l. first ++ l) (option_map (λ l. more ++ l) left) ≡ option_map (λ l. (first ++ more) ++ l) left
both first more None = refl
both first more (Some left) = ap (λ (l : List _). Some l) (sym (append_assoc first more left))

first_turn : (datagram : Datagram) (space : List ℕ) (before after : Option (List (Option (List ℕ)))) → TakesTurn before after datagram space
    → before ≡ option_map (λ l. turn_of datagram space ++ l) after
first_turn (Got count) space before after takes = takes
first_turn Quiet space before after takes = takes
first_turn End space before after takes = sym takes.0 ∙ same after
first_turn Failed space before after takes = sym takes ∙ same after

packets_then : (turns more : List (Option (List ℕ))) → packets_in (turns ++ more) ≡ packets_in turns ++ packets_in more
packets_then [] more = refl
packets_then (None ∷ turns) more = packets_then turns more
packets_then (Some datagram ∷ turns) more = go (is_packet MAX_PACKET datagram) (packets_then turns more) where
  go : (test : Bool) → packets_in (turns ++ more) ≡ packets_in turns ++ packets_in more
      → cond test (datagram ∷ packets_in (turns ++ more)) (packets_in (turns ++ more))
      ≡ cond test (datagram ∷ packets_in turns) (packets_in turns) ++ packets_in more
  go true is = ap (λ (l : List (List ℕ)). datagram ∷ l) is
  go false is = is

-- no turn is served
pub none_served : (first last : Option (List (Option (List ℕ)))) (before after : Performance) → last ≡ first → after ≡ before
    → ServesLight first last before after
unfolding played
none_served first last before after left plays = record { turns = []; rounds = []; taken = sym left ∙ same last; plays = plays; packets = refl }

-- one turn is served, and then more
pub one_served : (datagram : Datagram) (space : List ℕ) (first then last : Option (List (Option (List ℕ)))) (before between after : Performance)
    → TakesTurn first then datagram space → PlaysRound (packets_in (turn_of datagram space)) before between → ServesLight then last between after
    → ServesLight first last before after
one_served datagram space first then last before between after takes plays rest =
    let round : Round = record { packets = packets_in (turn_of datagram space); moment = plays.0 } in
    record {
      turns = turn_of datagram space ++ rest.turns;
      rounds = round ∷ rest.rounds;
      taken = first_turn datagram space first then takes ∙ ap (option_map (λ l. turn_of datagram space ++ l)) rest.taken
          ∙ both (turn_of datagram space) rest.turns last;
      plays = rest.plays ∙ ap (λ (p : Performance). played p (flat_map round_events rest.rounds)) plays.1
          ∙ played_then before (round_events round) (flat_map round_events rest.rounds);
      packets = ap (λ (l : List (List ℕ)). packets_in (turn_of datagram space) ++ l) rest.packets
          ∙ sym (packets_then (turn_of datagram space) rest.turns);
    }
