use Rattle.std.proofs.Common.{◌≡◌, ◌-◌, ◌++◌, ◌∷◌, [], ℕ, List, length, drop, Some, None, sym, ap, ◌∙◌, arith, append-nil}
use Rattle.std.proofs.lemmas.Bool.{cond-true}
use Rattle.std.proofs.lemmas.List.{take_all, length-drop}
use Rattle.osc_packet.specs.Wants.{part}
use Rattle.osc_packet.specs.Contents.{own_fault}
use Rattle.osc_packet.specs.Reading.{bundle_tag, body_fault, element_fault, messages_in, enclosed_read}
use Rattle.osc_packet.proofs.Steps.{bundle_step}
use Rattle.osc_packet.proofs.Entering.{opened, body_own}
use Rattle.osc_packet.proofs.Few.{sound}
use Rattle.osc_packet.proofs.units.Units.of_bundle.Goals as goal

-- all that follows the head
rest_whole : (bytes : List ℕ) → part bytes 16 (length bytes) ≡ drop 16 bytes
rest_whole bytes = take_all (length bytes - 16) (drop 16 bytes) (omega (arith, length-drop 16 bytes))

pub bundle_tag-tag-requires : goal.bundle_tag-tag-requires
bundle_tag-tag-requires c =
    let whole = sound c.args.bytes.now c.requires.packet in
    let open_ = opened 16 None 0 c.args.bytes.now whole.silent c.requires.bundle in
    open_.long

pub bundle_elements-requires : goal.bundle_elements-requires
bundle_elements-requires c =
    let whole = sound c.args.bytes.now c.requires.packet in
    let open_ = opened 16 None 0 c.args.bytes.now whole.silent c.requires.bundle in
    open_.long

pub new-requires : goal.new-requires
new-requires c =
    let whole = sound c.args.bytes.now c.requires.packet in
    let open_ = opened 16 None 0 c.args.bytes.now whole.silent c.requires.bundle in
    let rest : c.bundle_elements.result.now ≡ drop 16 c.args.bytes.now = c.bundle_elements.ensures in (
      ap (body_fault own_fault 0) rest ∙ body_own 15 (bundle_tag c.args.bytes.now) 16 (drop 16 c.args.bytes.now) open_.silent,
      omega (arith, ap length rest, length-drop 16 c.args.bytes.now, whole.short),
    )

pub invariant_of-result : goal.invariant_of-result
invariant_of-result c =
    let whole = sound c.args.bytes.now c.requires.packet in
    let open_ = opened 16 None 0 c.args.bytes.now whole.silent c.requires.bundle in
    let tag_is : c.bundle_tag-tag.result ≡ bundle_tag c.args.bytes.now = c.bundle_tag-tag.ensures in (
      whole.short,
      omega arith,
      (
        open_.long,
        omega arith,
        ap (λ (n : ℕ). body_fault (element_fault 15 (Some n)) 16 (part c.args.bytes.now 16 (length c.args.bytes.now))) tag_is
            ∙ ap (body_fault (element_fault 15 (Some (bundle_tag c.args.bytes.now))) 16) (rest_whole c.args.bytes.now) ∙ open_.silent,
        tt,
      ),
    )

pub returns : goal.returns
returns c =
    let rest : c.bundle_elements.result.now ≡ drop 16 c.args.bytes.now = c.bundle_elements.ensures in
    let tag_is : c.bundle_tag-tag.result ≡ bundle_tag c.args.bytes.now = c.bundle_tag-tag.ensures in
    let unit_is : c.new.result ≡ record { tag = bundle_tag c.args.bytes.now; messages = messages_in (drop 16 c.args.bytes.now) } =
    c.new.ensures ∙ (λ i. record { tag = tag_is i; messages = messages_in (rest i) }) in
    let others : enclosed_read 15 c.bundle_tag-tag.result (part c.args.bytes.now 16 (length c.args.bytes.now)) ++ []
    ≡ enclosed_read 15 (bundle_tag c.args.bytes.now) (drop 16 c.args.bytes.now) =
    append-nil (enclosed_read 15 c.bundle_tag-tag.result (part c.args.bytes.now 16 (length c.args.bytes.now)))
    ∙ ap (λ (n : ℕ). enclosed_read 15 n (part c.args.bytes.now 16 (length c.args.bytes.now))) tag_is
    ∙ ap (enclosed_read 15 (bundle_tag c.args.bytes.now)) (rest_whole c.args.bytes.now) in
    (λ i. unit_is i ∷ others i)
    ∙ sym (bundle_step 16 None c.args.bytes.now (omega arith))
    ∙ sym (cond-true _ _ _ c.requires.bundle)
