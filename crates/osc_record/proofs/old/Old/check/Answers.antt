use Rattle.std.proofs.Common.{◌≡◌, Ok, Err, inl, inr, sym, drop, arith}
use Rattle.osc_record.specs.Versions.{header_size_of}
use Rattle.osc_record.specs.declared.version.Version.TheVariants.{First}
use Rattle.osc_record.specs.Reading.{entries_at, entries_after, outcome, placed_in, record_read}
use Rattle.osc_record.proofs.Checked.{read_after, err_after, record_ok, record_err, complete_ok, complete_err, complete_header}
use Rattle.osc_record.proofs.Spelled.{header_long}
use Rattle.osc_record.proofs.EntriesRead.{record_was}
use Rattle.osc_record.proofs.Stops.{no_header, no_entry}
use Rattle.osc_record.proofs.old.Old.check.Goals as goal

pub returns-in_default-clause-complete : goal.returns-in_default-clause-complete
returns-in_default-clause-complete c = λ limits entries is same. complete_header First c.args.bytes.now (sym c.in_default.ensures) limits entries is same

pub check_entries-requires-clause-long : goal.check_entries-requires-clause-long
check_entries-requires-clause-long c = header_long First c.args.bytes.now c.in-Some.limits (λ i. omega (arith, c.type_inv.bytes i))
    (sym c.in-Some.ensures)

walked : (c : goal.In-Ok) → Ok tt ≡ outcome (entries_at First c.in-Some.limits.recording (header_size_of First) (drop (header_size_of First) c.args.bytes.now))
walked c = c.in-Ok.ensures

pub invariant_of-result : goal.invariant_of-result
invariant_of-result c = record {
  header = sym c.in-Some.ensures;
  entries = read_after First c.in-Some.limits c.args.bytes.now (walked c);
  long = header_long First c.args.bytes.now c.in-Some.limits (λ i. omega (arith, c.type_inv.bytes i)) (sym c.in-Some.ensures);
  small = c.requires;
}

pub returns-in-Ok-clause-ok : goal.returns-in-Ok-clause-ok
returns-in-Ok-clause-ok c = record_ok First c.args.bytes.now c.in-Some.limits (sym c.in-Some.ensures) (walked c)

pub returns-in-Ok-clause-written : goal.returns-in-Ok-clause-written
returns-in-Ok-clause-written c =
    let was = record_was First c.args.bytes.now c.in-Some.limits (λ i. omega (arith, c.type_inv.bytes i)) (sym c.in-Some.ensures)
    (read_after First c.in-Some.limits c.args.bytes.now (walked c)) in
    (was.lawful, was.text)

pub returns-in-Ok-clause-complete : goal.returns-in-Ok-clause-complete
returns-in-Ok-clause-complete c =
    complete_ok First c.args.bytes.now c.in-Some.limits (placed_in (entries_after First c.in-Some.limits c.args.bytes.now))
    (record_ok First c.args.bytes.now c.in-Some.limits (sym c.in-Some.ensures) (walked c))

failed : (c : goal.In-Err) → record_read First c.args.bytes.now ≡ Err c.in-Err.at
failed c = record_err First c.args.bytes.now c.in-Some.limits c.in-Err.at (sym c.in-Some.ensures)
    (c.in-Err.ensures)

pub returns-in-Err-clause-err : goal.returns-in-Err-clause-err
returns-in-Err-clause-err c = failed c

pub returns-in-Err-clause-complete : goal.returns-in-Err-clause-complete
returns-in-Err-clause-complete c = complete_err First c.args.bytes.now c.in-Err.at (failed c)

pub returns-in-Err-clause-first : goal.returns-in-Err-clause-first
returns-in-Err-clause-first c =
    inr (no_entry First c.args.bytes.now c.in-Some.limits c.in-Err.at (λ i. omega (arith, c.type_inv.bytes i)) (sym c.in-Some.ensures)
    (err_after First c.in-Some.limits c.args.bytes.now c.in-Err.at
    (c.in-Err.ensures)))

pub returns-in_default-clause-first : goal.returns-in_default-clause-first
returns-in_default-clause-first c = inl (no_header First c.args.bytes.now (sym c.in_default.ensures))
