use Rattle.osc_atoms.specs.Atoms.{word, string}
use Rattle.osc_record.proofs.AddressRows.{five}
use Rattle.osc_record.proofs.rows.append_address_row.Goals as goal

pub returns-clause-out : goal.returns-clause-out
returns-clause-out c =
    five c.args.out.now.items _ _ _ _ _ (word c.args.size) c.args.front.now (word c.args.caller) (string c.args.address.now) (word c.args.code)
    c.append_word.ensures.out c.append_bytes.ensures.out c.append_word-2.ensures.out c.append_string.ensures.out c.append_word-3.ensures.out
