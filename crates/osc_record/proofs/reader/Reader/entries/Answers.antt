use Rattle.std.proofs.Common.{◌∙◌, sym, ap, drop, ℕ}
use Rattle.std.specs.Prelude.{is_ok}
use Rattle.osc_model.specs.Limits.{header_size}
use Rattle.osc_record.specs.declared.version.Version.TheVariants.{Second}
use Rattle.osc_record.specs.Reading.{entries_at, placed_in, ReadRecord}
use Rattle.osc_record.proofs.Walks.{after_is}
use Rattle.osc_record.proofs.reader.Reader.entries.Goals as goal

pub new-requires-clause-readable : goal.new-requires-clause-readable
new-requires-clause-readable c =
    let f = c.self.inside in
    ap (λ (n : ℕ). is_ok (entries_at Second n header_size (drop header_size f.bytes.now))) c.recording.ensures.value
    ∙ sym (ap is_ok (after_is Second f.caps f.bytes.now))
    ∙ c.self.invariant.entries

pub returns : goal.returns
returns c =
    let f = c.self.inside in
    c.new.ensures
    ∙ ap (λ (n : ℕ). placed_in (entries_at Second n header_size (drop header_size f.bytes.now))) c.recording.ensures.value
    ∙ sym (ap placed_in (after_is Second f.caps f.bytes.now))
    ∙ ap (λ (r : ReadRecord). r.entries) c.self.view_is
