use Rattle.std.proofs.Common.{◌∙◌, ◌++◌, ℕ, length, length-append, replicate, ap, arith}
use Rattle.std.proofs.lemmas.List.{length-replicate}
use Rattle.osc_atoms.specs.Atoms.{word, string, string_end}
use Rattle.osc_record.specs.declared.entry_messages.TheConstants.{ADD}
use Rattle.osc_record.proofs.AddressRows.{add_shape, two_more}
use Rattle.osc_record.proofs.rows.append_add.Goals as goal

pub returns-clause-out : goal.returns-clause-out
returns-clause-out c =
    let address = c.args.address.now in
    let padding = string_end (length address) in
    two_more c.args.out.now.items _ _ _ (word _) ADD (word c.args.caller) (string address) (word c.args.code) (word c.args.first) (word c.args.second)
    c.append_address_row.ensures.out c.append_word.ensures.out c.append_word-2.ensures.out
    ∙ ap (λ l. c.args.out.now.items ++ l)
    (add_shape c.args.caller address c.args.code c.args.first c.args.second _
    (omega (arith, c.string_size.ensures, length-append address (replicate padding 0), length-replicate {A = ℕ} padding 0)))
