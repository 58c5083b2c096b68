-- Each unit of a packet can be sent by itself, and is read again as that unit alone.
use Rattle.osc_atoms.specs.declared.limits.TheConstants.{MAX_PACKET}
use Rattle.std.proofs.Common.{◌≡◌, ℕ, ◌+◌, ◌<◌, ◌≤◌, ◌^◌, ◌==◌, Bool, true, false, cond, List, [], ◌∷◌, ◌++◌, length, Option, Some, None, refl, sym, ap, ◌∙◌}
use Rattle.std.proofs.Common.{subst, inl, inr, arith, length-append}
use Rattle.std.specs.Prelude.{is_none}
use Rattle.std.specs.List.{AllByRecursion, flat_map}
use Rattle.std.proofs.lemmas.Bool.Decides.{nat_tests}
use Rattle.osc_atoms.specs.Atoms.{AreBytes, word, tag}
use Rattle.osc_message.specs.Messages.{Form, message_text, IsLawful}
use Rattle.osc_packet.specs.Packets.{Packet, Elements, message, bundle, none, more, bundle_word, packet_text, elements_text, effective_tag, AreLawfulIn}
use Rattle.osc_packet.specs.Packets.{IsValid, IsPacket}
use Rattle.osc_packet.specs.Units.{TimedUnit, own_messages, bundle_units, enclosed_units, units_of, stored_size}
use Rattle.osc_packet.specs.Reading.{is_packet, packet_fault, units_read}
use Rattle.osc_packet.specs.Bundling.{Bundling, bundled, sized, IsSpelled}
use Rattle.osc_packet.specs.Known.{OfMessages}
use Rattle.osc_packet.proofs.Again.{units_again}
use Rattle.osc_packet.proofs.Found.{packet_found}
use Rattle.osc_packet.proofs.Silent.{valid_silent}
use Rattle.osc_packet.proofs.Bundlings.{IsOneUnit, one_unit}
use Rattle.osc_score_laws.proofs.Lists.{all_on}
use Rattle.osc_carry.specs.Carried.{packet_with, packet_of}
use Rattle.osc_carry.specs.Waiting.{CanBeSent, IsShort}
use Rattle.osc_carry.proofs.Bytes.{fore_bytes, back_bytes}

few_bytes : MAX_PACKET < 2 ^ 32
few_bytes = omega arith

form_spelled : (form : Form) → IsLawful form → IsSpelled (message_text form)
form_spelled form lawful = record { form = form; lawful = lawful; spelled = refl; short = omega arith }

-- the bytes of a first element, and of those after it
first_small : (packet : Packet) (elements : Elements) → AreBytes (elements_text (more packet elements)) → AreBytes (packet_text packet)
first_small packet elements all =
    let text : List ℕ = packet_text packet in
    fore_bytes text (elements_text elements) (back_bytes (word (length text)) (text ++ elements_text elements) all)

later_small : (packet : Packet) (elements : Elements) → AreBytes (elements_text (more packet elements)) → AreBytes (elements_text elements)
later_small packet elements all =
    let text : List ℕ = packet_text packet in
    back_bytes text (elements_text elements) (back_bytes (word (length text)) (text ++ elements_text elements) all)

inner_small : (own : ℕ) (elements : Elements) → AreBytes (packet_text (bundle own elements)) → AreBytes (elements_text elements)
inner_small own elements all =
    back_bytes (tag own) (elements_text elements) (back_bytes bundle_word (tag own ++ elements_text elements) all)

own_spelled : (outer : ℕ) (elements : Elements) → AreLawfulIn outer elements → AllByRecursion IsSpelled (own_messages elements)
own_spelled outer none lawful = tt
own_spelled outer (more (message form) elements) lawful = (form_spelled form lawful.0, own_spelled outer elements lawful.1)
own_spelled outer (more (bundle own inner) elements) lawful = own_spelled outer elements lawful.1

own_small : (elements : Elements) → AreBytes (elements_text elements) → AllByRecursion AreBytes (own_messages elements)
own_small none all = tt
own_small (more (message form) elements) all =
    let text : List ℕ = message_text form in
    let here : AreBytes (text ++ elements_text elements) = back_bytes (word (length text)) (text ++ elements_text elements) all in
    (fore_bytes text (elements_text elements) here, own_small elements (back_bytes text (elements_text elements) here))
own_small (more (bundle own inner) elements) all = own_small elements (later_small (bundle own inner) elements all)

more_length : (packet : Packet) (elements : Elements) → length (elements_text (more packet elements)) ≡ 4 + length (packet_text packet) + length
    (elements_text elements)
more_length packet elements = omega (arith, length-append (packet_text packet) (elements_text elements))

own_few : (elements : Elements) → stored_size (own_messages elements) ≤ length (elements_text elements)
own_few none = omega arith
own_few (more (message form) elements) = omega (arith, own_few elements, more_length (message form) elements)
own_few (more (bundle own inner) elements) = omega (arith, own_few elements, more_length (bundle own inner) elements)

bundle_length : (own : ℕ) (elements : Elements) → length (packet_text (bundle own elements)) ≡ 16 + length (elements_text elements)
bundle_length own elements = omega arith

tag_fits : (outer : ℕ) (own : ℕ) → outer < 2 ^ 64 → own < 2 ^ 64 → effective_tag (Some outer) own < 2 ^ 64
tag_fits outer own one two = go (own == 1) where
  go : (t : Bool) → cond t outer own < 2 ^ 64
  go true = one
  go false = two

enclosed_sent : (outer : ℕ) (elements : Elements) → outer < 2 ^ 64 → AreLawfulIn outer elements
    → length (elements_text elements) ≤ MAX_PACKET → AreBytes (elements_text elements) → AllByRecursion CanBeSent (enclosed_units outer elements)
enclosed_sent outer none fits lawful short all = tt
enclosed_sent outer (more (message form) elements) fits lawful short all =
    enclosed_sent outer elements fits lawful.1 (omega (arith, more_length (message form) elements)) (later_small (message form) elements all)
enclosed_sent outer (more (bundle own inner) elements) fits lawful short all =
    let small : AreBytes (elements_text inner) = inner_small own inner (first_small (bundle own inner) elements all) in
    let effective : ℕ = effective_tag (Some outer) own in
    let here : effective < 2 ^ 64 = tag_fits outer own fits (lawful.0).0 in
    all_on CanBeSent (bundle_units (Some outer) (bundle own inner)) (enclosed_units outer elements) (
      record {
        fits = here;
        spelled = own_spelled effective inner (lawful.0).2;
        small = own_small inner small;
        short = inl (omega (arith, own_few inner, more_length (bundle own inner) elements, bundle_length own inner));
      },
      enclosed_sent effective inner here (lawful.0).2 (omega (arith, more_length (bundle own inner) elements, bundle_length own inner)) small,
    )
    (enclosed_sent outer elements fits lawful.1 (omega (arith, more_length (bundle own inner) elements)) (later_small (bundle own inner) elements all))

valid_sent : (packet : Packet) → IsValid MAX_PACKET packet → AreBytes (packet_text packet) → AllByRecursion CanBeSent (units_of packet)
valid_sent (message form) valid all = (
  record {
    fits = omega arith;
    spelled = (form_spelled form valid.lawful, tt);
    small = (all, tt);
    short = inr (message_text form, refl, refl, valid.short);
  },
  tt,
)
valid_sent (bundle own elements) valid all =
    let short = valid.short in
    let lawful = valid.lawful in
    let small : AreBytes (elements_text elements) = inner_small own elements all in (
      record {
        fits = lawful.0;
        spelled = own_spelled own elements lawful.2;
        small = own_small elements small;
        short = inl (omega (arith, own_few elements, bundle_length own elements));
      },
      enclosed_sent own elements lawful.0 lawful.2 (omega (arith, bundle_length own elements)) small,
    )

no_fault : (packet : List ℕ) → is_packet MAX_PACKET packet ≡ true → packet_fault MAX_PACKET packet ≡ None
no_fault packet is = go (packet_fault MAX_PACKET packet) is where
  go : {X : Type 0} (o : Option X) → is_none o ≡ true → o ≡ None
  go None is = refl
  go (Some x) is = absurd (cc)

pub packet_sent : OfMessages → (packet : List ℕ) → AreBytes packet → is_packet MAX_PACKET packet ≡ true → AllByRecursion CanBeSent (units_read packet)
packet_sent known packet bytes is =
    let found : IsPacket MAX_PACKET packet = packet_found known MAX_PACKET packet bytes (no_fault packet is) in
    let whole : Packet = found.packet in
    let valid = found.valid in
    let short = valid.short in
    let again : units_read packet ≡ units_of whole =
    ap units_read found.spelled ∙ units_again known whole valid.shallow valid.lawful (omega arith) in
    subst (AllByRecursion CanBeSent) (sym again) (valid_sent whole valid (subst AreBytes found.spelled bytes))

-- A unit by itself.

-- the packet of a unit is accepted, and read as that unit
pub record IsReadAlone (unit : TimedUnit) : Type 0 where
  pub read : is_packet MAX_PACKET (packet_of unit) ≡ true
  pub alone : units_read (packet_of unit) ≡ unit ∷ []

abbrev ReadsAs : List ℕ → TimedUnit → Type 0
ReadsAs bytes unit = (is_packet MAX_PACKET bytes ≡ true) × (units_read bytes ≡ unit ∷ [])

message_alone : OfMessages → (bytes : List ℕ) → IsSpelled bytes → length bytes ≤ MAX_PACKET → ReadsAs bytes (record { tag = 1; messages = bytes ∷ [] })
message_alone known bytes is short =
    let form : Form = is.form in
    let valid : IsValid MAX_PACKET (message form) = record {
      short = subst (λ (l : List ℕ). length l ≤ MAX_PACKET) is.spelled short;
      shallow = omega arith;
      lawful = is.lawful;
    } in
    let packet : IsPacket MAX_PACKET bytes = record { packet = message form; valid = valid; spelled = is.spelled } in
    let few = valid.short in (
      ap is_none (valid_silent known MAX_PACKET bytes few_bytes packet),
      ap units_read is.spelled ∙ units_again known (message form) valid.shallow valid.lawful (omega arith)
          ∙ ap (λ (l : List ℕ). let u : TimedUnit = record { tag = 1; messages = l ∷ [] } in u ∷ []) (sym is.spelled),
    )

sized_few : (messages : List (List ℕ)) → length (flat_map sized messages) ≡ stored_size messages
sized_few [] = refl
sized_few (bytes ∷ messages) = omega (
  arith,
  sized_few messages,
  length-append (sized bytes) (flat_map sized messages),
  length-append (word
      (length bytes)) bytes,
)

bundle_alone : OfMessages → (own : ℕ) (messages : List (List ℕ)) → own < 2 ^ 64 → AllByRecursion IsSpelled messages → 16 + stored_size messages ≤ MAX_PACKET
    → ReadsAs (bundled (record { tag = own; messages = messages })) (record { tag = own; messages = messages })
bundle_alone known own messages fits spelled short =
    let bundling : Bundling = record { tag = own; messages = messages } in
    let one : IsOneUnit bundling = one_unit known bundling fits spelled (omega (arith, sized_few messages)) in
    (one.read, one.unit)

false-true : true ≡ false → ⊥
false-true e = cc

abbrev first_of : List (List ℕ) → List ℕ
first_of [] = []
first_of (bytes ∷ messages) = bytes

is_one : (n : ℕ) → (n == 1) ≡ true → n ≡ 1
is_one n e = grind (arith, nat_tests)

with_one : OfMessages → (own : ℕ) (bytes : List ℕ) → own < 2 ^ 64 → IsSpelled bytes → IsShort (record { tag = own; messages = bytes ∷ [] })
    → ReadsAs (packet_with own (bytes ∷ [])) (record { tag = own; messages = bytes ∷ [] })
with_one known own bytes fits spelled short = go (own == 1) refl where
  go : (t : Bool) → (own == 1) ≡ t
      → ReadsAs (cond t bytes (bundled (record { tag = own; messages = bytes ∷ [] }))) (record { tag = own; messages = bytes ∷ [] })
  go true e = subst (λ (n : ℕ). ReadsAs bytes (record { tag = n; messages = bytes ∷ [] })) (sym (is_one own e)) (message_alone known bytes spelled
      (few short)) where
        few : IsShort (record { tag = own; messages = bytes ∷ [] }) → length bytes ≤ MAX_PACKET
        few (inl little) = omega arith
        few (inr (text, is, same, little)) = subst (λ (l : List (List ℕ)). length (first_of l) ≤ MAX_PACKET) (sym same) little
  go false e = bundle_alone known own (bytes ∷ []) fits (spelled, tt) (few short) where
    few : IsShort (record { tag = own; messages = bytes ∷ [] }) → 16 + stored_size (bytes ∷ []) ≤ MAX_PACKET
    few (inl little) = little
    few (inr (text, is, same, little)) = absurd (false-true (sym (ap (λ (n : ℕ). n == 1) is) ∙ e))

many : (own : ℕ) (one other : List ℕ) (messages : List (List ℕ)) → IsShort (record { tag = own; messages = one ∷ other ∷ messages })
    → 16 + stored_size (one ∷ other ∷ messages) ≤ MAX_PACKET
many own one other messages (inl little) = little
many own one other messages (inr (text, is, same, little)) = absurd (cc)

none_short : (own : ℕ) → 16 + stored_size [] ≤ MAX_PACKET
none_short own = omega arith

sent_alone : OfMessages → (own : ℕ) (messages : List (List ℕ)) → CanBeSent (record { tag = own; messages = messages })
    → ReadsAs (packet_with own messages) (record { tag = own; messages = messages })
sent_alone known own [] sent = bundle_alone known own [] sent.fits tt (none_short own)
sent_alone known own (bytes ∷ []) sent = with_one known own bytes sent.fits (sent.spelled).0 sent.short
sent_alone known own (one ∷ other ∷ messages) sent =
    bundle_alone known own (one ∷ other ∷ messages) sent.fits sent.spelled (many own one other messages sent.short)

pub read_alone : OfMessages → (unit : TimedUnit) → CanBeSent unit → IsReadAlone unit
read_alone known unit sent = let both = sent_alone known unit.tag unit.messages sent in record { read = both.0; alone = both.1 }
