-- A valid packet's text is read without a fault.
use Rattle.std.proofs.Common.{◌≡◌, ℕ, ◌+◌, ◌-◌, ◌%◌, ◌<◌, ◌≤◌, ◌^◌, Bool, true, false, cond, not, nat_lt, ◌==◌, List, [], ◌++◌, length, take, drop, Option}
use Rattle.std.proofs.Common.{Some, None, Result, Ok, Err, refl, sym, ◌∙◌, ap, subst, arith, length-append}
use Rattle.std.specs.Prelude.{slice_index, option_map}
use Rattle.std.specs.Option.{option_or}
use Rattle.std.specs.List.{starts_with}
use Rattle.std.proofs.lemmas.Bool.{cond-true, cond-false, le-ltb, eq-eqb}
use Rattle.std.proofs.lemmas.Bool.Decides.{nat_tests}
use Rattle.std.proofs.lemmas.List.{take_at, drop_at}
use Rattle.std.proofs.lemmas.Nat.{from_be_bytes-to_be_bytes_4, from_be_bytes-to_be_bytes_8}
use Rattle.osc_atoms.specs.declared.fault.Fault.{Fault}
use Rattle.osc_atoms.specs.Atoms.{word}
use Rattle.osc_message.specs.Messages.{Form, message_text, IsLawful, IsMessage}
use Rattle.osc_packet.specs.Packets.{Packet, Elements, message, bundle, none, more, packet_text, elements_text, depth, elements_depth, bundle_word}
use Rattle.osc_packet.specs.Packets.{effective_tag, IsInTime, IsLawfulIn, AreLawfulIn, IsPacket}
use Rattle.osc_packet.specs.Faults.{no_bundle_word, no_bundle_head, too_deep, tag_before, moved}
use Rattle.osc_packet.specs.Wants.{IsSize}
use Rattle.osc_packet.specs.Reading.{packet_fault, element_fault, body_fault, head_read, fault_or, is_early, bundle_tag, first_size, first_element, after_first}
use Rattle.osc_packet.specs.Known.{OfMessages}
use Rattle.osc_packet.proofs.Steps.{body_step, body_end, element_fault_is}
use Rattle.osc_packet.proofs.Heads.{word_again, not_early}
use Rattle.osc_packet.proofs.Told.{size_is}

pub is_message_text : (form : Form) → IsLawful form → IsMessage (length (message_text form)) (message_text form)
is_message_text form lawful = record { form = form; lawful = lawful; spelled = refl; short = omega arith }

mutual
  pub packet_sized : OfMessages → (packet : Packet) (outer : Option ℕ) → IsLawfulIn outer packet
      → (4 ≤ length (packet_text packet)) × (length (packet_text packet) % 4 ≡ 0)
  packet_sized known (message form) outer lawful =
      let is = is_message_text form lawful in
      let some : 0 < length (message_text form) = known.some _ _ is in
      let four : length (message_text form) % 4 ≡ 0 = known.fourfold _ _ is in
      (omega arith, four)
  packet_sized known (bundle own elements) outer lawful =
      let four = elements_sized known elements (effective_tag outer own) lawful.2 in
      (omega arith, omega arith)

  elements_sized : OfMessages → (elements : Elements) (effective : ℕ) → AreLawfulIn effective elements → length (elements_text elements) % 4 ≡ 0
  elements_sized known none effective lawful = refl
  elements_sized known (more packet elements) effective lawful =
      let one = packet_sized known packet (Some effective) lawful.0 in
      let rest = elements_sized known elements effective lawful.1 in
      omega (arith, one.1, length-append (packet_text packet) (elements_text elements))

-- a size that is written is read again
pub size_again : (front rest : List ℕ) → length front < 2 ^ 32 → first_size (word (length front) ++ (front ++ rest)) ≡ length front
size_again front rest small = from_be_bytes-to_be_bytes_4 (length front) small

pub element_again : (front rest : List ℕ) → length front < 2 ^ 32 → first_element (word (length front) ++ (front ++ rest)) ≡ front
element_again front rest small = ap (λ (n : ℕ). take n (front ++ rest)) (size_again front rest small) ∙ take_at front rest (length front) refl

pub rest_again : (front rest : List ℕ) → length front < 2 ^ 32 → after_first (word (length front) ++ (front ++ rest)) ≡ rest
rest_again front rest small = ap (λ (n : ℕ). drop n (front ++ rest)) (size_again front rest small) ∙ drop_at front rest (length front) refl

-- a tag that is written is read again
pub tag_again : (own : ℕ) (elements : Elements) → own < 2 ^ 64 → bundle_tag (packet_text (bundle own elements)) ≡ own
tag_again own elements fits = from_be_bytes-to_be_bytes_8 own fits

passed : {a b c d : Bool} (w x y z : Fault) {n : ℕ} → a ≡ false → b ≡ false → c ≡ false → d ≡ false
    → cond a (Err w) (cond b (Err x) (cond c (Err y) (cond d (Err z) (Ok n)))) ≡ Ok n
passed {a} {b} {c} {d} w x y z {n} is_a is_b is_c is_d =
    ap (λ (t : Bool). cond t (Err w) (cond b (Err x) (cond c (Err y) (cond d (Err z) (Ok n))))) is_a
    ∙ ap (λ (t : Bool). cond t (Err x) (cond c (Err y) (cond d (Err z) (Ok n)))) is_b
    ∙ ap (λ (t : Bool). cond t (Err y) (cond d (Err z) (Ok n))) is_c
    ∙ ap (λ (t : Bool). cond t (Err z) (Ok n)) is_d

head_again : (left : ℕ) (outer : Option ℕ) (at own : ℕ) (elements : Elements) → 0 < left → own < 2 ^ 64 → IsInTime outer own
    → head_read left outer at (packet_text (bundle own elements)) ≡ Ok (effective_tag outer own)
head_again left outer at own elements room fits time =
    let text : List ℕ = packet_text (bundle own elements) in
    let named : starts_with ◌==◌ text bundle_word ≡ true = word_again text refl in
    let is_named : not (starts_with ◌==◌ text bundle_word) ≡ false = ap not named in
    let is_long : nat_lt (length text) 16 ≡ false = le-ltb (length text) 16 (omega arith) in
    let has_room : (left == 0) ≡ false = grind (arith, nat_tests) in
    let is_own : bundle_tag text ≡ own = tag_again own elements fits in
    let in_time : is_early outer (bundle_tag text) ≡ false = ap (is_early outer) is_own ∙ not_early outer own time in
    passed (no_bundle_word at) (no_bundle_head (at + 8)) (too_deep at) (tag_before (at + 8)) is_named is_long has_room in_time
    ∙ ap (λ (n : ℕ). Ok (effective_tag outer n)) is_own

mutual
  pub packet_silent : OfMessages → (packet : Packet) (left : ℕ) (outer : Option ℕ) (at : ℕ) → depth packet ≤ left → IsLawfulIn outer packet
      → length (packet_text packet) < 2 ^ 32 → element_fault left outer at (packet_text packet) ≡ None
  packet_silent known (message form) left outer at shallow lawful small =
      let is = is_message_text form lawful in
      let slash : slice_index (message_text form) 0 ≡ 47 = known.slash _ _ is in
      element_fault_is left outer at (message_text form)
      ∙ cond-true _ _ _ (eq-eqb _ _ slash)
      ∙ ap (option_map (moved at)) (known.written _ _ is)
  packet_silent known (bundle own elements) left outer at shallow lawful small =
      element_fault_is left outer at (packet_text (bundle own elements))
      ∙ ap (λ (r : Result ℕ Fault). fault_or r (λ effective. body_fault (element_fault (left - 1) (Some effective)) (at + 16) (elements_text elements)))
      (head_again left outer at own elements (omega arith) lawful.0 lawful.1)
      ∙ elements_silent known elements (left - 1) (effective_tag outer own) (at + 16) (omega arith) lawful.2 (omega arith)

  elements_silent : OfMessages → (elements : Elements) (left effective at : ℕ) → elements_depth elements ≤ left → AreLawfulIn effective elements
      → length (elements_text elements) < 2 ^ 32 → body_fault (element_fault left (Some effective)) at (elements_text elements) ≡ None
  elements_silent known none left effective at shallow lawful small = body_end (element_fault left (Some effective)) at [] refl
  elements_silent known (more packet elements) left effective at shallow lawful small =
      let front : List ℕ = packet_text packet in
      let rest : List ℕ = elements_text elements in
      let text : List ℕ = word (length front) ++ (front ++ rest) in
      let f : ℕ → List ℕ → Option Fault = element_fault left (Some effective) in
      let long : length text ≡ 4 + (length front + length rest) = omega (arith, length-append front rest) in
      let sized = packet_sized known packet (Some effective) lawful.0 in
      let few : length front < 2 ^ 32 = omega arith in
      let size = size_again front rest few in
      let is : IsSize (first_size text) (length text - 4) =
      record { positive = omega (arith, sized.0); fourfold = subst (λ (n : ℕ). n % 4 ≡ 0) (sym size) sized.1; inside = omega arith } in
      body_step f at text (omega arith)
      ∙ cond-true _ _ _ (size_is (first_size text) (length text - 4) is)
      ∙ ap (λ (l : List ℕ). option_or (f (at + 4) l) (body_fault f (at + 4 + first_size text) (after_first text))) (element_again front rest few)
      ∙ ap (λ (o : Option Fault). option_or o (body_fault f (at + 4 + first_size text) (after_first text)))
      (packet_silent known packet left (Some effective) (at + 4) (omega arith) lawful.0 few)
      ∙ ap (λ (l : List ℕ). body_fault f (at + 4 + first_size text) l) (rest_again front rest few)
      ∙ elements_silent known elements left effective (at + 4 + first_size text) (omega arith) lawful.1 (omega arith)

-- a valid packet's text is read without a fault
pub valid_silent : OfMessages → (most : ℕ) (bytes : List ℕ) → most < 2 ^ 32 → IsPacket most bytes → packet_fault most bytes ≡ None
valid_silent known most bytes few is =
    let text : List ℕ = packet_text is.packet in
    let sized = packet_sized known is.packet None is.valid.lawful in
    let some : (length text == 0) ≡ false = grind (arith, nat_tests, sized.0) in
    let short : nat_lt most (length text) ≡ false = le-ltb most (length text) is.valid.short in
    let four : (length text % 4 == 0) ≡ true = eq-eqb _ _ sized.1 in
    subst (λ (l : List ℕ). packet_fault most l ≡ None) (sym is.spelled)
    (cond-false _ _ _ some ∙ cond-false _ _ _ short ∙ cond-true _ _ _ four
    ∙ packet_silent known is.packet 16 None 0 is.valid.shallow is.valid.lawful (omega (arith, is.valid.short)))
