use Rattle.std.proofs.Common.{◌≡◌, List, ℕ, ◌++◌, Option, Result, Ok, Err, OnOk, sym, ap, subst}
use Rattle.osc_story.specs.declared.follower.TakeFault.{TakeFault}
use Rattle.osc_story.specs.KeptBytes.{Kept}
use Rattle.osc_board.specs.Pasts.{Past}
use Rattle.osc_board.specs.Sights.{Sight}
use Rattle.osc_board.specs.Watching.{Watching, HasCome}
use Rattle.osc_board.proofs.Pieces.{piece_come}
use Rattle.osc_board.proofs.watcher.Watcher.take.Goals as goal

-- a watcher that keeps these bytes
abbrev with_kept : Option Sight → Past → Kept → Watching
with_kept sight past kept = record { bytes = kept.bytes; passed = kept.passed; sight = sight; past = past }

taken_come : (taken : Result (Unit {0}) TakeFault) (came piece : List ℕ) (sight : Option Sight) (past : Past) (old new : Kept)
    → OnOk taken (new ≡ record old { bytes = old.bytes ++ piece }) → HasCome came (with_kept sight past old) → OnOk taken (HasCome (came ++ piece) (with_kept sight past new))
taken_come (Ok done) came piece sight past old new is has = piece_come came piece (with_kept sight past old) (with_kept sight past new) (ap (with_kept sight past) is) has
taken_come (Err fault) came piece sight past old new is has = tt

pub returns-clause-came : goal.returns-clause-came
returns-clause-came c = λ came has.
    taken_come c.take.result came c.args.piece.now c.self.inside.sight c.self.inside.past c.self.inside.kept c.take.new.self c.take.ensures.ok (subst (HasCome came) (sym c.self.view_is) has)
