use Rattle.std.proofs.Common.{◌≡◌, ℕ, ◌*◌, ◌-◌, List, [], ◌∷◌, length, take, drop, get_or, sym, ap, subst, arith}
use Rattle.std.proofs.lemmas.Bool.{eqb-true}
use Rattle.std.proofs.lemmas.List.{length-append}
use Rattle.hex.specs.Hex.{decode_pairs}
use Rattle.hex.proofs.Pairs.{prepend}
use Rattle.osc_script.proofs.Pairs.{two_and_rest, pair_read, pairs_read}
use Rattle.osc_script.proofs.digits.read_digits.Goals as goal

pub loop-rest-preserved : goal.loop-rest-preserved
loop-rest-preserved c =
    let text = c.args.text.now in
    let bytes = c.loop-rest.bytes.items in
    let rest = c.loop-rest.rest.now in
    let others = take (length rest - 2) (drop 2 rest) in
    let long = c.in-len2-up.len_at_least in
    let pushed = c.in_ok-push.ensures.items in
    let read = pair_read text bytes rest others (get_or rest 0 0) (get_or rest 1 0) c.in-Some.byte (two_and_rest rest long)
    (c.in-Some.ensures (2 * length bytes)) c.loop-rest.invariant.0 in (
      subst (λ (l : List ℕ). decode_pairs 0 text ≡ prepend l (decode_pairs (2 * length l) others)) (sym pushed) read,
      omega (arith, c.loop-rest.invariant.1, ap length (two_and_rest rest long), ap length pushed, length-append bytes (c.in-Some.byte ∷ [])),
    )

pub returns-then-is_empty : goal.returns-then-is_empty
returns-then-is_empty c =
    pairs_read c.args.text.now c.loop-rest.bytes.items c.loop-rest.rest.now (eqb-true (length c.loop-rest.rest.now) 0 (sym c.if-is_empty.ensures))
    c.loop-rest.invariant.1 c.loop-rest.invariant.0
