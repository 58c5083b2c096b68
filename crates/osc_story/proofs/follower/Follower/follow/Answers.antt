use Rattle.std.proofs.Common.{◌≡◌, ℕ, ◌+◌, List, Option, length, ap, subst, ◌∙◌, arith}
use Rattle.osc_record.specs.Reading.{HasNoHeader}
use Rattle.osc_story.specs.Standings.{Standing}
use Rattle.osc_story.specs.Following.{Following}
use Rattle.osc_story.specs.KeptBytes.{Kept}
use Rattle.osc_story.proofs.Pieces.{malformed, malformed_size, too_long, progressed, saw_same, past_same}
use Rattle.osc_story.proofs.follower.Follower.follow.Goals as goal

pub returns-in-Malformed : goal.returns-in-Malformed
returns-in-Malformed c = λ came has. (
  malformed_size came c.args.self.now has (subst (λ (l : List ℕ). HasNoHeader l 0) (c.bytes-2.ensures ∙ ap (λ (f : Following). f.bytes) c.self.view_is) c.in-Malformed.ensures.0)
      (omega (arith, c.if-bytes.false, ap length (c.bytes.ensures ∙ ap (λ (f : Following). f.bytes) c.self.view_is))),
  malformed (record { header = c.sizes.ensures.header; entry = c.sizes.ensures.entry; differ = c.headers_differ.ensures }) came c.args.self.now has
      (subst (λ (l : List ℕ). HasNoHeader l 0) (c.bytes-2.ensures ∙ ap (λ (f : Following). f.bytes) c.self.view_is) c.in-Malformed.ensures.0),
  ap (λ (s : Option Standing). record { bytes = c.self.inside.kept.bytes; passed = c.self.inside.kept.passed; standing = s }) c.in-Malformed.ensures.1
      ∙ c.self.view_is,
)

pub returns-in-TooLong : goal.returns-in-TooLong
returns-in-TooLong c = λ came has.
    let bytes : c.bytes-2.result.now ≡ c.args.self.now.bytes = c.bytes-2.ensures ∙ ap (λ (f : Following). f.bytes) c.self.view_is in
    let all : c.came-came.result ≡ c.args.self.now.passed + length c.args.self.now.bytes =
    c.came-came.ensures.value ∙ ap (λ (f : Following). f.passed + length f.bytes) c.self.view_is
    in (
      too_long (record { header = c.sizes.ensures.header; entry = c.sizes.ensures.entry; differ = c.headers_differ.ensures }) came c.args.self.now has
          (past_same c.bytes-2.result.now c.args.self.now.bytes c.came-came.result (c.args.self.now.passed + length c.args.self.now.bytes)
          bytes all c.in-TooLong.ensures.0),
      ap (λ (s : Option Standing). record { bytes = c.self.inside.kept.bytes; passed = c.self.inside.kept.passed; standing = s }) c.in-TooLong.ensures.1
          ∙ c.self.view_is,
    )

pub returns-in-Saw : goal.returns-in-Saw
returns-in-Saw c = λ came has.
    let bytes : c.bytes-2.result.now ≡ c.args.self.now.bytes = c.bytes-2.ensures ∙ ap (λ (f : Following). f.bytes) c.self.view_is in
    let all : c.came-came.result ≡ c.args.self.now.passed + length c.args.self.now.bytes =
    c.came-came.ensures.value ∙ ap (λ (f : Following). f.passed + length f.bytes) c.self.view_is
    in
    let stood : c.self.inside.story ≡ c.args.self.now.standing = ap (λ (f : Following). f.standing) c.self.view_is in
    let view : Kept → Following = λ kept. record { bytes = kept.bytes; passed = kept.passed; standing = c.look_at.new.story } in
    progressed (record { header = c.sizes.ensures.header; entry = c.sizes.ensures.entry; differ = c.headers_differ.ensures }) came c.args.self.now (view c.self.inside.kept)
    (view c.keep_after.new.self) c.in-Saw.stop c.keep_after.result c.look_at.new.story has
    (saw_same c.bytes-2.result.now c.args.self.now.bytes c.came-came.result (c.args.self.now.passed + length c.args.self.now.bytes)
    c.self.inside.story c.args.self.now.standing c.in-Saw.stop c.look_at.new.story bytes all stood c.in-Saw.ensures)
    (ap (λ (f : Following). record f { standing = c.look_at.new.story }) c.self.view_is) (ap view c.keep_after.ensures.kept) c.keep_after.ensures.said
