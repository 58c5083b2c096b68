use Rattle.std.proofs.Common.{ℕ, List, ◌≡◌, ◌%◌, ◌+◌, ◌≤◌, ◌++◌, length, vec_len, vec_capacity, arith, ap, ◌∙◌, sym, subst}
use Rattle.osc_atoms.specs.Atoms.{AreBytes}
use Rattle.osc_message.specs.Messages.{AllFit}
use Rattle.osc_model.specs.Recordings.{release_row, row_text, sized, hits_text, hits_in}
use Rattle.osc_record.proofs.RowsRead.{hits_back}
use Rattle.osc_record.proofs.sized_entry.append_released.Goals as goal

-- what holds of the bytes of the hits holds of the bytes that they stand in
moved : (P : List ℕ → Type 0) (hits : List ℕ) → AreBytes hits → length hits % 8 ≡ 0 → P (hits_text (hits_in hits)) → P hits
moved P hits small whole p = subst P (hits_back hits small whole).0 p

pub append_release-requires-clause-fits : goal.append_release-requires-clause-fits
append_release-requires-clause-fits c =
    moved (λ h. AllFit (release_row c.args.caller c.args.unit h).arguments) c.args.hits.now
    (λ i. omega (arith, c.type_inv.hits i)) c.requires.whole c.requires.fits

pub append_release-requires-clause-small : goal.append_release-requires-clause-small
append_release-requires-clause-small c =
    moved (λ h. length (row_text (release_row c.args.caller c.args.unit h)) ≤ 1073741824) c.args.hits.now
    (λ i. omega (arith, c.type_inv.hits i)) c.requires.whole (omega (arith, c.requires.small))

pub append_release-requires-clause-room : goal.append_release-requires-clause-room
append_release-requires-clause-room c =
    moved (λ h. vec_len c.args.out.now + length (sized (row_text (release_row c.args.caller c.args.unit h))) ≤ vec_capacity c.args.out.now) c.args.hits.now
    (λ i. omega (arith, c.type_inv.hits i)) c.requires.whole c.requires.room

pub returns-clause-out : goal.returns-clause-out
returns-clause-out c = c.append_release.ensures.out
    ∙ sym (ap (λ h. c.args.out.now.items ++ sized (row_text (release_row c.args.caller c.args.unit h)))
    (hits_back c.args.hits.now (λ i. omega (arith, c.type_inv.hits i)) c.requires.whole).0)
