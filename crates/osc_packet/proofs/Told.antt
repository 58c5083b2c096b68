-- What the reading tells is the first fault.
use Rattle.std.proofs.Common.{◌≡◌, ℕ, zero, suc, ◌+◌, ◌-◌, ◌%◌, ◌<◌, ◌≤◌, Bool, true, false, cond, not, nat_lt, nat_le, ◌&&◌, ◌==◌, List, [], ◌∷◌, length, take}
use Rattle.std.proofs.Common.{drop, Option, Some, None, Result, Ok, Err, refl, sym, ◌∙◌, ap, subst, inl, inr, arith}
use Rattle.std.specs.Prelude.{slice_index, option_map}
use Rattle.std.specs.Option.{option_or}
use Rattle.std.specs.List.{starts_with}
use Rattle.std.specs.Int.{w32, w64, from_be_bytes}
use Rattle.std.proofs.lemmas.Bool.{cond-true, cond-false, cases_lt, false≢true, eqb-true, eqb-false, lt-ltb, ltb-true, ltb-false, le-ltb, not-false, not-true}
use Rattle.std.proofs.lemmas.Bool.Decides.{nat_tests}
use Rattle.std.proofs.lemmas.List.{take_all}
use Rattle.osc_atoms.specs.declared.fault.Fault.{Fault}
use Rattle.osc_atoms.specs.Atoms.{AreBytes}
use Rattle.osc_message.specs.Messages.{IsMessage}
use Rattle.osc_message.specs.Reading.{message_fault}
use Rattle.osc_packet.specs.Packets.{bundle_word, effective_tag, IsInTime}
use Rattle.osc_atoms.specs.Faults.{empty, too_long, not_four, start}
use Rattle.osc_atoms.proofs.AllBytes.{front_bytes, rest_bytes}
use Rattle.osc_packet.specs.Faults.{no_bundle_word, no_bundle_head, too_deep, tag_before, moved, element_size}
use Rattle.osc_packet.specs.Wants.{Want, Element, Frame, some_byte, within, fourfold, begun, is_message, named_bundle, headed, shallow, in_time, sized, Stands}
use Rattle.osc_packet.specs.Wants.{next_of, after, announced, opened, own_tag, tag_around, word_of, part, bytes_of, IsSize, Reaches, first, later, FirstFault}
use Rattle.osc_packet.specs.Reading.{packet_fault, fault_or, message_fault_at, head_read, is_early, bundle_tag, element_fault, body_fault, first_size}
use Rattle.osc_packet.specs.Reading.{first_element, after_first, begins_with_size}
use Rattle.osc_packet.specs.Known.{OfMessages}
use Rattle.osc_packet.proofs.Chains.{Ended}
use Rattle.osc_packet.proofs.Heads.{word_there, word_again, in_time_is, early_is, some_left}
use Rattle.osc_packet.proofs.Steps.{joined, element_fault_is, body_step, body_end, some_none}
use Rattle.osc_packet.proofs.Parts.{part_length, part_front, part_taken, part_rest, part_first}

-- the reading goes on with the next want, or all is read
abbrev pub Then : List ℕ → ℕ → Option Want → Type 0
Then bytes most None = Ended bytes most
Then bytes most (Some want) = Reaches bytes most want

-- the reading tells the first fault, or goes on
abbrev pub Outcome : List ℕ → ℕ → Option Want → Option Fault → Type 0
Outcome bytes most next None = Then bytes most next
Outcome bytes most next (Some fault) = FirstFault bytes most fault

go_on : {bytes : List ℕ} {most : ℕ} {want : Want} → Reaches bytes most want → Stands bytes most want → (next : Option Want) → next_of bytes want ≡ next
    → Then bytes most next
go_on {bytes} {most} {want} reached stands None last = record { want = want; reached = reached; stands = stands; last = last }
go_on reached stands (Some next) is = later reached stands is

-- the message of an element
message_told : OfMessages → (bytes : List ℕ) (most : ℕ) → AreBytes bytes → (element : Element) → element.end ≤ length bytes
    → Reaches bytes most (is_message element) → Outcome bytes most (after element.end element.around) (message_fault_at element.place (bytes_of bytes element))
message_told known bytes most small element inside reached = go (message_fault (length own) own) refl where
  own : List ℕ
  own = bytes_of bytes element

  size : length own ≡ element.end - element.place
  size = part_length bytes element.place element.end inside

  are_bytes : AreBytes own
  are_bytes = front_bytes (element.end - element.place) (drop element.place bytes) (rest_bytes element.place bytes small)

  go : (read : Option Fault) → message_fault (length own) own ≡ read
      → Outcome bytes most (after element.end element.around) (option_map (moved element.place) read)
  go None is = go_on reached (subst (λ (n : ℕ). IsMessage n own) size (known.read (length own) own are_bytes is)) (after element.end element.around) refl
  go (Some fault) is =
      let read : message_fault (element.end - element.place) own ≡ Some fault = ap (λ (n : ℕ). message_fault n own) (sym size) ∙ is in
      record {
        want = is_message element;
        reached = reached;
        fails = λ message. some_none (sym read ∙ known.written (element.end - element.place) own message);
        named = (fault, known.told (element.end - element.place) own fault are_bytes read, refl);
      }

-- a bundle's head without a fault
pub record HeadStands (bytes : List ℕ) (most left : ℕ) (element : Element) (effective : ℕ) : Type 0 where
  pub reached : Reaches bytes most (in_time element)
  pub stands : Stands bytes most (in_time element)
  pub inside : element.place + 16 ≤ element.end
  pub room : 0 < left
  pub is : effective ≡ (opened bytes element).tag

abbrev pub HeadOutcome : List ℕ → ℕ → ℕ → Element → Result ℕ Fault → Type 0
HeadOutcome bytes most left element (Ok effective) = HeadStands bytes most left element effective
HeadOutcome bytes most left element (Err fault) = FirstFault bytes most fault

-- the head of a bundle
head_told : (bytes : List ℕ) (most left : ℕ) (element : Element) → left + length element.around ≡ 16 → element.place < element.end → element.end ≤ length bytes
    → Reaches bytes most (named_bundle element)
    → HeadOutcome bytes most left element (head_read left (tag_around element.around) element.place (bytes_of bytes element))
head_told bytes most left element count some inside reached =
    go (not (starts_with ◌==◌ own bundle_word)) (nat_lt (length own) 16) (left == 0) (is_early (tag_around element.around) (bundle_tag own)) refl refl refl refl
  where
    own : List ℕ
    own = bytes_of bytes element

    size : length own ≡ element.end - element.place
    size = part_length bytes element.place element.end inside

    same_tag : element.place + 16 ≤ element.end → bundle_tag own ≡ own_tag bytes element
    same_tag long =
        ap (λ (l : List ℕ). from_be_bytes w64 (take 8 l)) (part_rest bytes element.place element.end 8 (omega arith))
        ∙ ap (from_be_bytes w64) (part_taken bytes (element.place + 8) element.end 8 (omega arith))

    go : (a b c d : Bool) → not (starts_with ◌==◌ own bundle_word) ≡ a → nat_lt (length own) 16 ≡ b → (left == 0) ≡ c
        → is_early (tag_around element.around) (bundle_tag own) ≡ d
        → HeadOutcome bytes most left element
        (cond a (Err (no_bundle_word element.place))
        (cond b (Err (no_bundle_head (element.place + 8)))
        (cond c (Err (too_deep element.place))
        (cond d (Err (tag_before (element.place + 8))) (Ok (effective_tag (tag_around element.around) (bundle_tag own)))))))
    go true b c d is_a is_b is_c is_d =
        record {
          want = named_bundle element;
          reached = reached;
          fails = λ stands. absurd (false≢true (sym (not-true _ is_a) ∙ word_again own stands));
          named = refl;
        }
    go false true c d is_a is_b is_c is_d =
        let named : Stands bytes most (named_bundle element) = word_there own (not-false _ is_a) in
        record {
          want = headed element;
          reached = later reached named refl;
          fails = λ stands. absurd (omega (arith, ltb-true (length own) 16 is_b, size));
          named = refl;
        }
    go false false true d is_a is_b is_c is_d =
        let named : Stands bytes most (named_bundle element) = word_there own (not-false _ is_a) in
        let long : element.place + 16 ≤ element.end = omega (arith, ltb-false (length own) 16 is_b, size) in
        let none : left ≡ 0 = eqb-true left 0 is_c in
        record { want = shallow element; reached = later (later reached named refl) long refl; fails = λ stands. absurd (omega arith); named = refl }
    go false false false true is_a is_b is_c is_d =
        let named : Stands bytes most (named_bundle element) = word_there own (not-false _ is_a) in
        let long : element.place + 16 ≤ element.end = omega (arith, ltb-false (length own) 16 is_b, size) in
        let room : 0 < left = some_left left is_c in
        let few : length element.around < 16 = omega arith in
        record {
          want = in_time element;
          reached = later (later (later reached named refl) long refl) few refl;
          fails = λ stands. early_is (tag_around element.around) (bundle_tag own) is_d
              (subst (IsInTime (tag_around element.around)) (sym (same_tag long)) stands);
          named = refl;
        }
    go false false false false is_a is_b is_c is_d =
        let named : Stands bytes most (named_bundle element) = word_there own (not-false _ is_a) in
        let long : element.place + 16 ≤ element.end = omega (arith, ltb-false (length own) 16 is_b, size) in
        let room : 0 < left = some_left left is_c in
        let few : length element.around < 16 = omega arith in
        record {
          reached = later (later (later reached named refl) long refl) few refl;
          stands = subst (IsInTime (tag_around element.around)) (same_tag long) (in_time_is (tag_around element.around) (bundle_tag own) is_d);
          inside = long;
          room = room;
          is = ap (effective_tag (tag_around element.around)) (same_tag long);
        }

-- an element that is read at a place in bundles, by how many may still be opened
abbrev pub ElementTold : List ℕ → ℕ → ℕ → Type 0
ElementTold bytes most left = (element : Element) → left + length element.around ≡ 16 → element.place < element.end → element.end ≤ length bytes
    → (element.end - element.place) % 4 ≡ 0
    → Reaches bytes most (begun element)
    → Outcome bytes most (after element.end element.around) (element_fault left (tag_around element.around) element.place (bytes_of bytes element))

joined_told : (bytes : List ℕ) (most : ℕ) (first second : Option Want) (r s : Option Fault) → Outcome bytes most first r
    → (Then bytes most first → Outcome bytes most second s) → Outcome bytes most second (option_or r s)
joined_told bytes most next second None s one two = two one
joined_told bytes most next second (Some fault) s one two = one

pub is_size : (size n : ℕ) → (nat_le 4 size && size % 4 == 0 && nat_le size n) ≡ true → IsSize size n
is_size size n is = record { positive = grind (arith, nat_tests); fourfold = grind (arith, nat_tests); inside = grind (arith, nat_tests) }

pub size_is : (size n : ℕ) → IsSize size n → (nat_le 4 size && size % 4 == 0 && nat_le size n) ≡ true
size_is size n is = grind (arith, nat_tests, is.positive, is.fourfold, is.inside)

-- where the bundle goes on, its next size is wanted
goes_on : (place : ℕ) (frame : Frame) (around : List Frame) → place < frame.end → after place (frame ∷ around) ≡ Some (sized place frame around)
goes_on place frame around more = cond-true _ _ _ (lt-ltb place frame.end more)

-- where it ends, what is around it goes on
ends_there : (place : ℕ) (frame : Frame) (around : List Frame) → place ≡ frame.end → after place (frame ∷ around) ≡ after frame.end around
ends_there place frame around same = cond-false _ _ _ (le-ltb place frame.end (omega arith)) ∙ ap (λ (n : ℕ). after n around) same

-- the size at a place, its element, and the elements that follow
sized_told : (bytes : List ℕ) (most left : ℕ) → ElementTold bytes most left → (bound place : ℕ) (frame : Frame) (around : List Frame)
    → left + suc (length around) ≡ 16 → frame.end ≤ length bytes → (frame.end - place) % 4 ≡ 0 → frame.end - place ≤ suc bound → place < frame.end
    → Reaches bytes most (sized place frame around)
    → ((next : ℕ) (frame : Frame) (around : List Frame) → left + suc (length around) ≡ 16 → next ≤ frame.end → frame.end ≤ length bytes
    → (frame.end - next) % 4 ≡ 0 → frame.end - next ≤ bound
    → Then bytes most (after next (frame ∷ around))
    → Outcome bytes most (after frame.end around) (body_fault (element_fault left (Some frame.tag)) next (part bytes next frame.end)))
    → Outcome bytes most (after frame.end around)
    (joined (element_fault left (Some frame.tag)) place (part bytes place frame.end)
    (body_fault (element_fault left (Some frame.tag)) (place + 4 + first_size (part bytes place frame.end)) (after_first (part bytes place frame.end))))
sized_told bytes most left told bound place frame around count inside four few more reached rest = go (begins_with_size own) refl where
  own : List ℕ
  own = part bytes place frame.end

  size : ℕ
  size = word_of bytes place

  size_same : first_size own ≡ size
  size_same = ap (from_be_bytes w32) (part_taken bytes place frame.end 4 (omega arith))

  long : length own ≡ frame.end - place
  long = part_length bytes place frame.end inside

  test_same : begins_with_size own ≡ (nat_le 4 size && size % 4 == 0 && nat_le size (frame.end - place - 4))
  test_same = ap (λ (n : ℕ). nat_le 4 n && n % 4 == 0 && nat_le n (length own - 4)) size_same
      ∙ ap (λ (n : ℕ). nat_le 4 size && size % 4 == 0 && nat_le size (n - 4)) long

  element : Element
  element = announced bytes place frame around

  go : (test : Bool) → begins_with_size own ≡ test
      → Outcome bytes most (after frame.end around)
      (cond test (option_or (element_fault left (Some frame.tag) (place + 4) (first_element own))
      (body_fault (element_fault left (Some frame.tag)) (place + 4 + first_size own) (after_first own))) (Some (element_size place)))
  go false is =
      record {
        want = sized place frame around;
        reached = reached;
        fails = λ stands. absurd (false≢true (sym is ∙ test_same ∙ size_is size (frame.end - place - 4) stands));
        named = refl;
      }
  go true is =
      let stands : IsSize size (frame.end - place - 4) = is_size size (frame.end - place - 4) (sym test_same ∙ is) in
      let fits : place + 4 + size ≤ frame.end = omega (arith, stands.inside, stands.positive) in
      let begin : Reaches bytes most (begun element) = later reached stands refl in
      let element_same : first_element own ≡ bytes_of bytes element =
      ap (λ (n : ℕ). take n (drop 4 own)) size_same ∙ ap (take size) (part_rest bytes place frame.end 4 (omega arith))
      ∙ part_front bytes (place + 4) frame.end size (omega arith) in
      let rest_same : after_first own ≡ part bytes (place + 4 + size) frame.end =
      ap (λ (n : ℕ). drop n (drop 4 own)) size_same ∙ ap (drop size) (part_rest bytes place frame.end 4 (omega arith))
      ∙ part_rest bytes (place + 4) frame.end size (omega arith) in
      let one : Outcome bytes most (after element.end (frame ∷ around)) (element_fault left (Some frame.tag) (place + 4) (first_element own)) =
      subst (λ (l : List ℕ). Outcome bytes most (after element.end (frame ∷ around)) (element_fault left (Some frame.tag) (place + 4) l)) (sym element_same)
      (told element count (omega (arith, stands.positive)) (omega arith) (omega (arith, stands.fourfold)) begin) in
      let two : Then bytes most (after element.end (frame ∷ around))
      → Outcome bytes most (after frame.end around) (body_fault (element_fault left (Some frame.tag)) (place + 4 + first_size own) (after_first own)) =
      λ goes. subst
      (λ (n : ℕ). Outcome bytes most (after frame.end around) (body_fault (element_fault left (Some frame.tag)) (place + 4 + n) (after_first own)))
      (sym size_same)
      (subst (λ (l : List ℕ). Outcome bytes most (after frame.end around) (body_fault (element_fault left (Some frame.tag)) (place + 4 + size) l))
      (sym rest_same)
      (rest (place + 4 + size) frame around count fits inside (omega (arith, stands.fourfold)) (omega (arith, stands.positive)) goes)) in
      joined_told bytes most (after element.end (frame ∷ around)) (after frame.end around) _ _ one two

-- the elements from a place to the end of the innermost bundle
elements_told : (bytes : List ℕ) (most left : ℕ) → ElementTold bytes most left → (bound place : ℕ) (frame : Frame) (around : List Frame)
    → left + suc (length around) ≡ 16 → place ≤ frame.end → frame.end ≤ length bytes → (frame.end - place) % 4 ≡ 0 → frame.end - place ≤ bound
    → Then bytes most (after place (frame ∷ around))
    → Outcome bytes most (after frame.end around) (body_fault (element_fault left (Some frame.tag)) place (part bytes place frame.end))
elements_told bytes most left told zero place frame around count order inside four few goes =
    let none : length (part bytes place frame.end) ≡ 0 = omega (arith, part_length bytes place frame.end inside) in
    subst (Outcome bytes most (after frame.end around)) (sym (body_end (element_fault left (Some frame.tag)) place (part bytes place frame.end) none))
    (subst (Then bytes most) (ends_there place frame around (omega arith)) goes)
elements_told bytes most left told (suc bound) place frame around count order inside four few goes = elim (cases_lt place frame.end) [
  | inr same ↦
      let none : length (part bytes place frame.end) ≡ 0 = omega (arith, part_length bytes place frame.end inside) in
      subst (Outcome bytes most (after frame.end around)) (sym (body_end (element_fault left (Some frame.tag)) place (part bytes place frame.end) none))
      (subst (Then bytes most) (ends_there place frame around (omega arith)) goes)
  | inl more ↦
      let some : 0 < length (part bytes place frame.end) = omega (arith, part_length bytes place frame.end inside) in
      subst (Outcome bytes most (after frame.end around)) (sym (body_step (element_fault left (Some frame.tag)) place (part bytes place frame.end) some))
      (sized_told bytes most left told bound place frame around count inside four few more (subst (Then bytes most) (goes_on place frame around more) goes)
      (elements_told bytes most left told bound))
]

-- an element, by those in it
element_by : OfMessages → (bytes : List ℕ) (most left : ℕ) → AreBytes bytes → (0 < left → ElementTold bytes most (left - 1)) → ElementTold bytes most left
element_by known bytes most left small told element count some inside four reached =
    subst (Outcome bytes most (after element.end element.around)) (sym (element_fault_is left (tag_around element.around) element.place own))
    (go (slice_index own 0 == 47) (slice_index own 0 == 35) refl refl)
  where
    own : List ℕ
    own = bytes_of bytes element

    byte_same : slice_index own 0 ≡ slice_index bytes element.place
    byte_same = part_first bytes element.place element.end some

    inner : ℕ → Option Fault
    inner effective = body_fault (element_fault (left - 1) (Some effective)) (element.place + 16) (drop 16 own)

    in_head : (r : Result ℕ Fault) → HeadOutcome bytes most left element r → Outcome bytes most (after element.end element.around) (fault_or r inner)
    in_head (Err fault) head = head
    in_head (Ok effective) head =
        let frame : Frame = opened bytes element in
        let goes : Then bytes most (after (element.place + 16) (frame ∷ element.around)) =
        go_on head.reached head.stands (after (element.place + 16) (frame ∷ element.around)) refl in
        let read = elements_told bytes most (left - 1) (told head.room) (element.end - (element.place + 16)) (element.place + 16) frame element.around
        (omega (arith, head.room)) head.inside inside (omega (arith, head.inside)) (omega arith) goes in
        subst (λ (n : ℕ). Outcome bytes most (after element.end element.around)
        (body_fault (element_fault (left - 1) (Some n)) (element.place + 16) (drop 16 own))) (sym head.is)
        (subst (λ (l : List ℕ). Outcome bytes most (after element.end element.around)
        (body_fault (element_fault (left - 1) (Some frame.tag)) (element.place + 16) l))
        (sym (part_rest bytes element.place element.end 16 head.inside)) read)

    go : (s h : Bool) → (slice_index own 0 == 47) ≡ s → (slice_index own 0 == 35) ≡ h
        → Outcome bytes most (after element.end element.around)
        (cond s (message_fault_at element.place own)
        (cond h (fault_or (head_read left (tag_around element.around) element.place own) inner) (Some (start element.place))))
    go true h is_s is_h =
        let byte : slice_index bytes element.place ≡ 47 = sym byte_same ∙ eqb-true (slice_index own 0) 47 is_s in
        let other : (slice_index bytes element.place == 35) ≡ false = ap (λ (n : ℕ). n == 35) byte in
        message_told known bytes most small element inside (later reached (inl byte) (ap (λ (w : Want). Some w) (cond-false _ _ _ other)))
    go false true is_s is_h =
        let byte : slice_index bytes element.place ≡ 35 = sym byte_same ∙ eqb-true (slice_index own 0) 35 is_h in
        let hash : (slice_index bytes element.place == 35) ≡ true = ap (λ (n : ℕ). n == 35) byte in
        in_head (head_read left (tag_around element.around) element.place own)
        (head_told bytes most left element count some inside (later reached (inr byte) (ap (λ (w : Want). Some w) (cond-true _ _ _ hash))))
    go false false is_s is_h = record {
      want = begun element;
      reached = reached;
      fails = λ stands. elim stands [
        | inl slash ↦ eqb-false (slice_index own 0) 47 is_s (byte_same ∙ slash)
        | inr hash ↦ eqb-false (slice_index own 0) 35 is_h (byte_same ∙ hash)
      ];
      named = refl;
    }

element_told : OfMessages → (bytes : List ℕ) (most : ℕ) → AreBytes bytes → (left : ℕ) → ElementTold bytes most left
element_told known bytes most small zero = element_by known bytes most zero small (λ room. absurd (omega arith))
element_told known bytes most small (suc left) =
    element_by known bytes most (suc left) small (λ room. subst (ElementTold bytes most) (omega arith) (element_told known bytes most small left))

-- the reading of a packet tells the first fault, or ends
pub packet_told : OfMessages → (bytes : List ℕ) (most : ℕ) → AreBytes bytes → Outcome bytes most None (packet_fault most bytes)
packet_told known bytes most small = go (length bytes == 0) (nat_lt most (length bytes)) (length bytes % 4 == 0) refl refl refl where
  all : Element
  all = record { place = 0; end = length bytes; around = [] }

  go : (a b c : Bool) → (length bytes == 0) ≡ a → nat_lt most (length bytes) ≡ b → (length bytes % 4 == 0) ≡ c
      → Outcome bytes most None (cond a (Some empty) (cond b (Some (too_long most)) (cond c (element_fault 16 None 0 bytes) (Some (not_four (length bytes))))))
  go true b c is_a is_b is_c =
      let none : length bytes ≡ 0 = eqb-true (length bytes) 0 is_a in
      record { want = some_byte; reached = first; fails = λ stands. absurd (omega arith); named = refl }
  go false true c is_a is_b is_c =
      let some : 0 < length bytes = some_left (length bytes) is_a in
      let long : most < length bytes = ltb-true most (length bytes) is_b in
      record { want = within; reached = later first some refl; fails = λ stands. absurd (omega arith); named = refl }
  go false false false is_a is_b is_c =
      let some : 0 < length bytes = some_left (length bytes) is_a in
      let short : length bytes ≤ most = ltb-false most (length bytes) is_b in
      record { want = fourfold; reached = later (later first some refl) short refl; fails = λ stands. eqb-false (length bytes % 4) 0 is_c stands; named = refl }
  go false false true is_a is_b is_c =
      let some : 0 < length bytes = some_left (length bytes) is_a in
      let short : length bytes ≤ most = ltb-false most (length bytes) is_b in
      let four : length bytes % 4 ≡ 0 = eqb-true (length bytes % 4) 0 is_c in
      let whole : bytes_of bytes all ≡ bytes = take_all (length bytes - 0) bytes (omega arith) in
      subst (λ (l : List ℕ). Outcome bytes most None (element_fault 16 None 0 l)) whole
      (element_told known bytes most small 16 all (omega arith) some (omega arith) (omega arith) (later (later (later first some refl) short refl) four refl))
