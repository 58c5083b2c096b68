use Rattle.std.proofs.Common.{◌∙◌, ◌++◌, ℕ, length, length-append, replicate, ap, arith}
use Rattle.std.proofs.lemmas.List.{length-replicate}
use Rattle.osc_atoms.specs.Atoms.{word, string, string_end}
use Rattle.osc_record.specs.declared.entry_messages.TheConstants.{REMOVE}
use Rattle.osc_record.proofs.AddressRows.{remove_shape, one_more}
use Rattle.osc_record.proofs.rows.append_remove.Goals as goal

pub returns-clause-out : goal.returns-clause-out
returns-clause-out c =
    let address = c.args.address.now in
    let padding = string_end (length address) in
    one_more c.args.out.now.items _ _ (word _) REMOVE (word c.args.caller) (string address) (word c.args.code) (word c.args.id)
    c.append_address_row.ensures.out c.append_word.ensures.out
    ∙ ap (λ l. c.args.out.now.items ++ l)
    (remove_shape c.args.caller address c.args.code c.args.id _
    (omega (arith, c.string_size.ensures, length-append address (replicate padding 0), length-replicate {A = ℕ} padding 0)))
