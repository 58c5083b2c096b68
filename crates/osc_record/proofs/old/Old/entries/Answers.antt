use Rattle.std.proofs.Common.{◌∙◌, sym, ap}
use Rattle.std.specs.Prelude.{is_ok}
use Rattle.osc_record.specs.declared.version.Version.TheVariants.{First}
use Rattle.osc_record.specs.Reading.{placed_in, ReadRecord}
use Rattle.osc_record.proofs.Walks.{after_is}
use Rattle.osc_record.proofs.old.Old.entries.Goals as goal

pub new-requires-clause-readable : goal.new-requires-clause-readable
new-requires-clause-readable c =
    let f = c.self.inside in
    sym (ap is_ok (after_is First f.limits f.bytes.now)) ∙ c.self.invariant.entries

pub returns : goal.returns
returns c =
    let f = c.self.inside in
    c.new.ensures ∙ sym (ap placed_in (after_is First f.limits f.bytes.now)) ∙ ap (λ (r : ReadRecord). r.entries) c.self.view_is
