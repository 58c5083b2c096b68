use Rattle.std.proofs.Common.{◌≡◌, ℕ, length, length-append, length-drop, ap, ◌∙◌, take, drop, arith}
use Rattle.std.proofs.lemmas.List.{length-take}
use Rattle.osc_story.specs.KeptBytes.{Kept, place_of}
use Rattle.osc_story.proofs.kept_bytes.KeptBytes.keep_after.Goals as goal

pub invariant_of-self : goal.invariant_of-self
invariant_of-self c =
    let bytes = c.self.inside.bytes.items in
    let place = c.place_of-place.result in
    let same : length bytes ≡ length c.args.self.now.bytes = ap (λ (k : Kept). length k.bytes) c.self.view_is in
    let all : c.len.result ≡ length c.args.self.now.bytes = omega (arith, c.len.ensures, same) in
    omega (
      arith,
      c.self.invariant,
      c.place_of-place.ensures ∙ ap (λ (n : ℕ). place_of n c.args.stop) all,
      c.requires.after,
      c.requires.within,
      same,
      ap length c.cut.ensures,
      length-append (take 60 bytes) (drop place bytes),
      length-take 60 bytes,
      length-drop place bytes,
    )
