use Rattle.std.proofs.Common.{◌≡◌, Err, subst, rules}
use Rattle.osc_print.specs.Dumps.{dumped}
use Rattle.osc_replay.specs.declared.dump_text.DumpFault.{DumpFault}
use Rattle.osc_replay.specs.declared.dump_text.DumpFault.TheVariants.{Malformed}
use Rattle.osc_replay.specs.Dumping.{IsDumpUnlessShort}
use Rattle.osc_ends.proofs.prints.write_dump.Goals as goal

pub returns-in-Err-Malformed-clause-complete : goal.returns-in-Err-Malformed-clause-complete
returns-in-Err-Malformed-clause-complete g c = λ caps entries formed is.
    let known : c.in-Err-Malformed.field-0 ≡ Malformed c.in-Err-Malformed.at = search rules in
    absurd
    (subst (λ (fault : DumpFault). IsDumpUnlessShort (Err fault) (dumped caps entries)) known (c.in-Err-Malformed.ensures.complete caps entries formed is))
