use Rattle.std.proofs.Common.{◌≡◌, ℕ, ◌+◌, List, Option, length, ap, subst, ◌∙◌, arith}
use Rattle.osc_record.specs.Reading.{HasNoHeader}
use Rattle.osc_board.specs.Sights.{Sight}
use Rattle.osc_board.specs.Watching.{Watching}
use Rattle.osc_story.specs.KeptBytes.{Kept}
use Rattle.osc_board.proofs.Pieces.{malformed, malformed_size, too_long, progressed, saw_same, past_same}
use Rattle.osc_board.proofs.watcher.Watcher.follow.Goals as goal

pub returns-in-Malformed-clause-progress : goal.returns-in-Malformed-clause-progress
returns-in-Malformed-clause-progress c = λ came has. (
  malformed_size came c.args.self.now has (subst (λ (l : List ℕ). HasNoHeader l 0) (c.bytes-2.ensures ∙ ap (λ (f : Watching). f.bytes) c.self.view_is) c.in-Malformed.ensures.0)
      (omega (arith, c.if-bytes.false, ap length (c.bytes.ensures ∙ ap (λ (f : Watching). f.bytes) c.self.view_is))),
  malformed (record { header = c.sizes.ensures.header; entry = c.sizes.ensures.entry; differ = c.headers_differ.ensures }) came c.args.self.now has
      (subst (λ (l : List ℕ). HasNoHeader l 0) (c.bytes-2.ensures ∙ ap (λ (f : Watching). f.bytes) c.self.view_is) c.in-Malformed.ensures.0),
  ap (λ (s : Option Sight). record { bytes = c.self.inside.kept.bytes; passed = c.self.inside.kept.passed; sight = s; past = c.self.inside.past }) c.in-Malformed.ensures.1
      ∙ c.self.view_is,
)

pub returns-in-TooLong-clause-progress : goal.returns-in-TooLong-clause-progress
returns-in-TooLong-clause-progress c = λ came has.
    let bytes : c.bytes-2.result.now ≡ c.args.self.now.bytes = c.bytes-2.ensures ∙ ap (λ (f : Watching). f.bytes) c.self.view_is in
    let all : c.came-came.result ≡ c.args.self.now.passed + length c.args.self.now.bytes =
    c.came-came.ensures.value ∙ ap (λ (f : Watching). f.passed + length f.bytes) c.self.view_is
    in (
      too_long (record { header = c.sizes.ensures.header; entry = c.sizes.ensures.entry; differ = c.headers_differ.ensures }) came c.args.self.now has
          (past_same c.bytes-2.result.now c.args.self.now.bytes c.came-came.result (c.args.self.now.passed + length c.args.self.now.bytes)
          bytes all c.in-TooLong.ensures.0),
      ap (λ (s : Option Sight). record { bytes = c.self.inside.kept.bytes; passed = c.self.inside.kept.passed; sight = s; past = c.self.inside.past }) c.in-TooLong.ensures.1
          ∙ c.self.view_is,
    )

pub returns-in-Saw-clause-progress : goal.returns-in-Saw-clause-progress
returns-in-Saw-clause-progress c = λ came has.
    let bytes : c.bytes-2.result.now ≡ c.args.self.now.bytes = c.bytes-2.ensures ∙ ap (λ (f : Watching). f.bytes) c.self.view_is in
    let all : c.came-came.result ≡ c.args.self.now.passed + length c.args.self.now.bytes =
    c.came-came.ensures.value ∙ ap (λ (f : Watching). f.passed + length f.bytes) c.self.view_is
    in
    let stood : c.self.inside.sight ≡ c.args.self.now.sight = ap (λ (f : Watching). f.sight) c.self.view_is in
    let view : Kept → Watching = λ kept. record { bytes = kept.bytes; passed = kept.passed; sight = c.look_at.new.sight; past = c.self.inside.past } in
    progressed (record { header = c.sizes.ensures.header; entry = c.sizes.ensures.entry; differ = c.headers_differ.ensures }) came c.args.self.now (view c.self.inside.kept)
    (view c.keep_after.new.self) c.in-Saw.stop c.keep_after.result c.look_at.new.sight has
    (saw_same c.bytes-2.result.now c.args.self.now.bytes c.came-came.result (c.args.self.now.passed + length c.args.self.now.bytes)
    c.self.inside.sight c.args.self.now.sight c.in-Saw.stop c.look_at.new.sight bytes all stood c.in-Saw.ensures)
    (ap (λ (f : Watching). record f { sight = c.look_at.new.sight }) c.self.view_is) (ap view c.keep_after.ensures.kept) c.keep_after.ensures.said
