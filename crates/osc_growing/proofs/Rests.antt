-- How what is left of a recording is written.
use Rattle.std.proofs.Common.{ℕ, List, length, take, drop, inl, inr, refl, sym, subst, ◌∙◌, arith}
use Rattle.std.proofs.lemmas.List.{take_all, take-append-drop}
use Rattle.osc_edge.specs.Faults.{Rose}
use Rattle.osc_ends.specs.Ends.{EndsText}
use Rattle.osc_ends.specs.Sinks.{SinkChange}
use Rattle.osc_growing.specs.declared.growth.Growth.TheVariants.{Written, Failed}
use Rattle.osc_growing.specs.Growing.{HasGrown}
use Rattle.osc_growing.proofs.Fronts.{Gained, Front, gained_both, front_both}
use Rattle.osc_growing.proofs.Growths.{Follows, then_changed}

-- the rest was written after what was written, or a front of it
pub rest_written : (one other : SinkChange) (text : List ℕ) (at status : ℕ) → Follows one other → HasGrown (Written at) one text
    → EndsText 0 status (drop at text) other → EndsText 0 status text (then_changed one other)
rest_written one other text at status follows grown ends =
    let rest = drop at text in
    record {
      known = ends.known;
      done = λ is.
          let gains = ends.done is in (
            subst (λ (l : List ℕ). Gained one.held other.held_after l) (take-append-drop at text)
                (gained_both one.held one.held_after other.held_after (take at text) rest grown.1.0
                (subst (λ (h : _). Gained h other.held_after rest) follows.held gains.0)),
            gains.1 ∙ follows.faults ∙ grown.1.1,
          );
      cut_short = λ is.
          let part = ends.cut_short is in (
            front_both one.held one.held_after other.held_after text at (length rest) grown.1.0
                (subst (λ (h : _). Front h other.held_after (take (length rest) rest)) follows.held
                (subst (λ (l : List ℕ). Front other.held other.held_after l) (sym (take_all (length rest) rest (omega arith))) part.0)),
            subst (λ (n : ℕ). Rose n other.faults_after) (follows.faults ∙ grown.1.1) part.1,
          );
    }

-- nothing was written after a failure
pub rest_failed : (sink : SinkChange) (text : List ℕ) → HasGrown Failed sink text → EndsText 0 5 text sink
rest_failed sink text grown = record { known = inr (inr refl); done = λ is. absurd (omega (arith, is)); cut_short = λ is. grown }

pub rest_short : (sink : SinkChange) (text : List ℕ) → EndsText 0 3 text sink
rest_short sink text = record { known = inr (inl refl); done = λ is. absurd (omega (arith, is)); cut_short = λ is. absurd (omega (arith, is)) }
