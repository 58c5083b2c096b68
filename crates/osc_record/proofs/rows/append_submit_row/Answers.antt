use Rattle.std.proofs.Common.{◌≡◌, List, ℕ, ◌++◌, length, replicate, ap, ◌∙◌, append_assoc}
use Rattle.osc_atoms.specs.Atoms.{word, tag, blob_end}
use Rattle.osc_record.specs.declared.entry_messages.TheConstants.{SUBMIT}
use Rattle.osc_record.proofs.rows.append_submit_row.Goals as goal

three : (o o1 o2 o3 a b c d p e : List ℕ) → o1 ≡ o ++ (a ++ (b ++ (c ++ d))) → o2 ≡ o1 ++ p → o3 ≡ o2 ++ e
    → o3 ≡ o ++ (a ++ (b ++ (c ++ ((d ++ p) ++ e))))
three o o1 o2 o3 a b c d p e p1 p2 p3 = p3 ∙ ap (λ l. l ++ e) (p2 ∙ ap (λ l. l ++ p) p1) ∙ regroup
  where
    regroup : ((o ++ (a ++ (b ++ (c ++ d)))) ++ p) ++ e ≡ o ++ (a ++ (b ++ (c ++ ((d ++ p) ++ e))))
    regroup = simp append_assoc

pub returns-clause-out : goal.returns-clause-out
returns-clause-out c =
    let packet : List ℕ = c.args.packet.now in
    three c.args.out.now.items _ _ _ (word c.args.size) SUBMIT (word c.args.caller) (word (length packet))
    (packet ++ replicate (blob_end (length packet)) 0) (word c.args.answer.code
    ++ (tag c.args.answer.first ++ (word c.args.answer.second ++ word c.args.answer.third)))
    (c.append_bytes.ensures.out ∙ ap (λ l. c.args.out.now.items ++ l) c.submit_front.ensures) c.append_padded.ensures.out
    (c.append_bytes-2.ensures.out ∙ ap (λ l. c.append_padded.new.out.items ++ l) c.submit_back.ensures)
