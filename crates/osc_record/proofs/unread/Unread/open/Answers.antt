use Rattle.std.proofs.Common.{length, ap, sym, arith, length-drop}
use Rattle.osc_model.specs.Limits.{header_size}
use Rattle.osc_record.specs.declared.version.Version.TheVariants.{Second}
use Rattle.osc_record.proofs.Spelled.{header_long}
use Rattle.osc_record.proofs.Stops.{no_header}
use Rattle.osc_record.proofs.Remaining.{opened, rest_kept}
use Rattle.osc_record.proofs.unread.Unread.open.Goals as goal

pub returns-in_default-clause-err : goal.returns-in_default-clause-err
returns-in_default-clause-err c = no_header Second c.args.bytes.now (sym c.in_default.ensures)

pub split_at-requires : goal.split_at-requires
split_at-requires c = header_long Second c.args.bytes.now c.in-Some.caps (λ i. omega (arith, c.type_inv.bytes i)) (sym c.in-Some.ensures)

pub invariant_of-result : goal.invariant_of-result
invariant_of-result c = record {
  bytes = rest_kept header_size c.args.bytes.now c.split_at.result.1.now (λ i. omega (arith, c.type_inv.bytes i)) c.split_at.ensures.back;
  small = omega (
    arith,
    ap length c.split_at.ensures.back,
    length-drop header_size c.args.bytes.now,
    c.requires,
    header_long Second c.args.bytes.now c.in-Some.caps
        (λ i. omega (arith, c.type_inv.bytes i)) (sym c.in-Some.ensures),
  );
}

pub returns-clause-ok : goal.returns-clause-ok
returns-clause-ok c =
    opened c.args.bytes.now c.in-Some.caps c.split_at.result.1.now (λ i. omega (arith, c.type_inv.bytes i)) (sym c.in-Some.ensures) c.split_at.ensures.back
