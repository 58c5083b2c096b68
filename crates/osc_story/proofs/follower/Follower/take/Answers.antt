use Rattle.std.proofs.Common.{◌≡◌, List, ℕ, ◌++◌, Option, Result, Ok, Err, OnOk, sym, ap, subst}
use Rattle.osc_story.specs.declared.follower.TakeFault.{TakeFault}
use Rattle.osc_story.specs.KeptBytes.{Kept}
use Rattle.osc_story.specs.Standings.{Standing}
use Rattle.osc_story.specs.Following.{Following, HasCome}
use Rattle.osc_story.proofs.Pieces.{piece_come}
use Rattle.osc_story.proofs.follower.Follower.take.Goals as goal

-- a follower that keeps these bytes
abbrev with_kept : Option Standing → Kept → Following
with_kept standing kept = record { bytes = kept.bytes; passed = kept.passed; standing = standing }

taken_come : (taken : Result (Unit {0}) TakeFault) (came piece : List ℕ) (standing : Option Standing) (old new : Kept)
    → OnOk taken (new ≡ record old { bytes = old.bytes ++ piece }) → HasCome came (with_kept standing old) → OnOk taken (HasCome (came ++ piece) (with_kept standing new))
taken_come (Ok done) came piece standing old new is has = piece_come came piece (with_kept standing old) (with_kept standing new) (ap (with_kept standing) is) has
taken_come (Err fault) came piece standing old new is has = tt

pub returns-clause-came : goal.returns-clause-came
returns-clause-came c = λ came has.
    taken_come c.take.result came c.args.piece.now c.self.inside.story c.self.inside.kept c.take.new.self c.take.ensures.ok (subst (HasCome came) (sym c.self.view_is) has)
