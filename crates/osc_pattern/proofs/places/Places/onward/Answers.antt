use Rattle.std.proofs.Common.{◌<◌, ◌==◌, ◌^◌, sym, ap, ◌∙◌, arith, rules}
use Rattle.std.specs.Int.{bit_at}
use Rattle.std.proofs.lemmas.Nat.Bits.{bit_at-zero}
use Rattle.osc_pattern.specs.Views.{is_place_of}
use Rattle.osc_pattern.proofs.Onward.{from_none, bits-onward}
use Rattle.osc_pattern.proofs.places.Places.onward.Goals as goal

pub returns-then-self-eq0 : goal.returns-then-self-eq0
returns-then-self-eq0 c place within =
    c.none.ensures place
    ∙ sym (from_none (is_place_of c.args.self.now)
    (λ other. ap (λ bits. bit_at bits other == 1) c.if-self-eq0.true ∙ ap (λ bit. bit == 1) (bit_at-zero other)) 0 place)

pub returns : goal.returns
returns c place within =
    let small : c.args.self.now.bits < 2 ^ 64 = search rules in
    bits-onward c.args.self.now.bits place (omega (arith, c.if-self-eq0.false)) small within
