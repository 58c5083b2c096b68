use Rattle.std.proofs.Common.{ℕ, List, refl, subst}
use Rattle.std.proofs.lemmas.List.{take_rest}
use Rattle.osc_ends.specs.Ends.{EndsText}
use Rattle.osc_ends.specs.Sinks.{change}
use Rattle.osc_growing.specs.declared.growth.Growth.{Growth}
use Rattle.osc_growing.specs.Growing.{HasGrown}
use Rattle.osc_growing.proofs.Growths.{Follows}
use Rattle.osc_growing.proofs.Rests.{rest_written, rest_failed, rest_short}
use Rattle.osc_growing.proofs.rest.write_rest.Goals as goal

pub returns-in-Written : goal.returns-in-Written
returns-in-Written g c = λ start grown.
    let one = change g.R.Sink start c.args.rec.now in
    let other = change g.R.Sink c.args.rec.now c.write_text.new.out in
    let follows : Follows one other = record { held = refl; faults = refl } in
    rest_written one other c.args.recording.now c.in-Written.at c.write_text.result follows
    (subst (λ (t : Growth). HasGrown t one c.args.recording.now) c.in-Written.is grown)
    (subst (λ (piece : List ℕ). EndsText 0 c.write_text.result piece other) (take_rest c.args.recording.now c.in-Written.at) c.write_text.ensures)

pub returns-in-Failed : goal.returns-in-Failed
returns-in-Failed g c = λ start grown.
    rest_failed (change g.R.Sink start c.args.rec.now) c.args.recording.now
    (subst (λ (t : Growth). HasGrown t (change g.R.Sink start c.args.rec.now) c.args.recording.now) c.in-Failed.is grown)

pub returns-in-NoMemory : goal.returns-in-NoMemory
returns-in-NoMemory g c = λ start grown. rest_short (change g.R.Sink start c.args.rec.now) c.args.recording.now
