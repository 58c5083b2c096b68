-- Old recordings whose packets and addresses are lawful, and the first place where bytes aren't one.
use Rattle.std.proofs.Common.{◌≡◌, ℕ, ◌+◌, Bool, true, false, cond, List, [], ◌∷◌, ◌++◌, length, take, Some, None, inl, inr, refl, sym}
use Rattle.std.proofs.Common.{ap, subst, ◌∙◌, arith, length-append, append-nil, append_assoc}
use Rattle.std.specs.List.{flat_map}
use Rattle.std.proofs.lemmas.Grind.{flat_map-append}
use Rattle.std.proofs.lemmas.Option.{same_Some, none-some}
use Rattle.osc_model.specs.Limits.{Limits}
use Rattle.osc_model.specs.Events.{Entry}
use Rattle.osc_model.specs.History.{IsLawful}
use Rattle.osc_record.specs.declared.version.Version.TheVariants.{First}
use Rattle.osc_record.specs.Versions.{header_size_of, header_text_in, text_in, IsOldRecordable}
use Rattle.osc_record.specs.Reading.{Placed, placed_by, unplaced, IsRecordIn, HasNoEntryIn, IsMalformedIn}
use Rattle.osc_record.proofs.Again.{take_front}
use Rattle.osc_record.proofs.Kept.{unplaced_by}
use Rattle.osc_record.proofs.Written.{some_in, header_length, range_below}
use Rattle.osc_replay.specs.Lawful.{is_lawful}
use Rattle.osc_replay.specs.Old.{IsOldRecordingOf, old_text, HasOldUnformed, IsOldUnformedAt}
use Rattle.osc_replay.specs.Unlawful.{first_unlawful_in}
use Rattle.osc_replay.proofs.Formed.{AreLawful, all_behind, all_front, lawful_is, not_lawful, same_first}

abbrev OldRecordable : Entry → Type 0
OldRecordable e = IsOldRecordable e.caller e.event e.answer

abbrev texts : List Entry → List ℕ
texts entries = flat_map (λ (e : Entry). text_in First e.caller e.event e.answer) entries

-- an entry that is unlawful, behind lawful ones
pub record Found (place : ℕ) (entries : List Entry) (at : ℕ) : Type 0 where
  pub before : List Entry
  pub entry : Entry
  pub later : List Entry
  pub split : entries ≡ before ++ entry ∷ later
  pub lawful : AreLawful before
  pub place_is : at ≡ place + length (texts before)
  pub unlawful : is_lawful entry.event ≡ false

pub found : (place : ℕ) (entries : List Entry) (at : ℕ) → first_unlawful_in (placed_by First place entries) ≡ Some at → Found place entries at
found place [] at is = absurd (none-some at is)
found place (entry ∷ entries) at is =
    go (is_lawful entry.event) refl is (found (place + length (text_in First entry.caller entry.event entry.answer)) entries at) where
      go : (t : Bool) → is_lawful entry.event ≡ t
          → cond t (first_unlawful_in (placed_by First (place + length (text_in First entry.caller entry.event entry.answer)) entries)) (Some place) ≡ Some at
          → (first_unlawful_in (placed_by First (place + length (text_in First entry.caller entry.event entry.answer)) entries) ≡ Some at
          → Found (place + length (text_in First entry.caller entry.event entry.answer)) entries at)
          → Found place (entry ∷ entries) at
      go false lawful here more = record {
        before = [];
        entry = entry;
        later = entries;
        split = refl;
        lawful = tt;
        place_is = omega (arith, sym (same_Some place at here));
        unlawful = lawful;
      }
      go true lawful here more =
          let rest = more here in
          let behind = rest.place_is in
          record {
            before = entry ∷ rest.before;
            entry = rest.entry;
            later = rest.later;
            split = ap (λ (l : List Entry). entry ∷ l) rest.split;
            lawful = (lawful_is entry.event lawful, rest.lawful);
            place_is = omega (arith, behind, length-append (text_in First entry.caller entry.event entry.answer) (texts rest.before));
            unlawful = rest.unlawful;
          }

-- where none is found all are lawful
pub all_lawful : (place : ℕ) (entries : List Entry) → first_unlawful_in (placed_by First place entries) ≡ None → AreLawful entries
all_lawful place [] is = tt
all_lawful place (entry ∷ entries) is =
    go (is_lawful entry.event) refl is (all_lawful (place + length (text_in First entry.caller entry.event entry.answer)) entries) where
      go : (t : Bool) → is_lawful entry.event ≡ t
          → cond t (first_unlawful_in (placed_by First (place + length (text_in First entry.caller entry.event entry.answer)) entries)) (Some place) ≡ None
          → (first_unlawful_in (placed_by First (place + length (text_in First entry.caller entry.event entry.answer)) entries) ≡ None → AreLawful entries)
          → AreLawful (entry ∷ entries)
      go true lawful none more = (lawful_is entry.event lawful, more none)
      go false lawful none more = absurd (none-some place (sym none))

-- so none is found where all are
pub none_found : (place : ℕ) (entries : List Entry) (at : ℕ) → AreLawful entries → first_unlawful_in (placed_by First place entries) ≡ Some at → ⊥
none_found place entries at all is =
    let f = found place entries at is in
    not_lawful f.entry.event f.unlawful (all_behind (λ (e : Entry). IsLawful e.event) f.before (f.entry ∷ f.later) (subst AreLawful f.split all)).0

-- the bytes aren't formed from the unlawful entry on
pub unformed_at : (bytes : List ℕ) (caps : Limits) (entries : List Entry) (rest : List ℕ) (at : ℕ) → IsRecordIn First caps entries
    → bytes ≡ old_text caps entries ++ rest → first_unlawful_in (placed_by First (header_size_of First) entries) ≡ Some at → HasOldUnformed bytes at
unformed_at bytes caps entries rest at is same none =
    let f = found (header_size_of First) entries at none in
    let whole = subst (IsRecordIn First caps) f.split is in
    let all = all_behind OldRecordable f.before (f.entry ∷ f.later) whole.all in
    let front = header_text_in First caps ++ texts f.before in
    let own = text_in First f.entry.caller f.entry.event f.entry.answer in
    let split : texts (f.before ++ f.entry ∷ f.later) ≡ texts f.before ++ (own ++ texts f.later) =
    flat_map-append (λ (e : Entry). text_in First e.caller e.event e.answer) f.before (f.entry ∷ f.later) in
    let size : length front ≡ 56 + length (texts f.before) =
    length-append (header_text_in First caps) (texts f.before) ∙ ap (λ (n : ℕ). n + length (texts f.before)) (header_length First caps) in
    let lengths : length (old_text caps (f.before ++ f.entry ∷ f.later)) ≡ 56 + (length (texts f.before) + (length own + length (texts f.later))) =
    omega (
      arith,
      header_length First caps,
      length-append (header_text_in First caps) (texts (f.before ++ f.entry ∷ f.later)),
      ap length split,
      length-append (texts f.before) (own ++ texts f.later),
      length-append own (texts f.later),
    ) in
    let fits = whole.fits in
    let below = range_below First caps whole.lawful in
    let place = f.place_is in
    record {
      limits = caps;
      entries = f.before;
      rest = (own ++ texts f.later) ++ rest;
      formed = record {
        record_ = record { lawful = whole.lawful; all = all_front OldRecordable f.before (f.entry ∷ f.later) whole.all; fits = omega arith };
        lawful = f.lawful;
      };
      text = same ∙ ap (λ (l : List Entry). old_text caps l ++ rest) f.split
          ∙ ap (λ (l : List ℕ). (header_text_in First caps ++ l) ++ rest) split
          ∙ ap (λ (l : List ℕ). l ++ rest) (sym (append_assoc (header_text_in First caps) (texts f.before) (own ++ texts f.later)))
          ∙ append_assoc front (own ++ texts f.later) rest;
      place = omega arith;
      some = omega (
        arith,
        some_in First f.entry.caller f.entry.event f.entry.answer all.0,
        length-append (own ++ texts f.later) rest,
        length-append own (texts f.later),
      );
      none = λ entry more recordable lawful within begins.
          (let one = same_first First caps.recording at f.entry entry (texts f.later ++ rest) more all.0 recordable (omega arith) within below
          (sym (append_assoc own (texts f.later) rest) ∙ begins) in
          not_lawful f.entry.event f.unlawful (subst (λ (e : Entry). IsLawful e.event) (sym one) lawful));
    }

-- nor from the place on where they aren't read
pub unread_at : (bytes : List ℕ) (at : ℕ) (none : HasNoEntryIn First bytes at) → AreLawful none.entries → HasOldUnformed bytes at
unread_at bytes at none lawful = record {
  limits = none.limits;
  entries = none.entries;
  rest = none.rest;
  formed = record { record_ = none.lawful; lawful = lawful };
  text = none.text;
  place = none.place;
  some = none.some;
  none = λ entry more recordable lawful within begins. none.none entry more recordable within begins;
}

-- What is told where the bytes stop being a recording.

whole_is : (bytes whole : List ℕ) (at : ℕ) (none : HasNoEntryIn First bytes at) → whole ≡ take at bytes → whole ≡ old_text none.limits none.entries
whole_is bytes whole at none is =
    is ∙ (λ i. take (none.place i) (none.text i)) ∙ take_front (old_text none.limits none.entries) none.rest

pub fault_default : (bytes whole : List ℕ) (at : ℕ) → whole ≡ take at bytes → IsMalformedIn First bytes at
    → ((limits : Limits) (entries : List Entry) → IsRecordIn First limits entries → whole ≡ old_text limits entries → ⊥) → IsOldUnformedAt bytes at
fault_default bytes whole at is (inl header) never = inl header
fault_default bytes whole at is (inr none) never = absurd (never none.limits none.entries none.lawful (whole_is bytes whole at none is))

-- what a recording that is read is
abbrev ReadsAll : List ℕ → Limits → List Placed → Type 0
ReadsAll whole caps placed = (limits : Limits) (entries : List Entry) → IsRecordIn First limits entries → whole ≡ old_text limits entries
    → (caps ≡ limits) × (placed ≡ placed_by First (header_size_of First) entries)

pub fault_some : (bytes whole : List ℕ) (at found : ℕ) (caps : Limits) (placed : List Placed) → whole ≡ take at bytes → IsMalformedIn First bytes at
    → whole ≡ old_text caps (unplaced placed) → ReadsAll whole caps placed → Some found ≡ first_unlawful_in placed → IsOldUnformedAt bytes found
fault_some bytes whole at found caps placed is (inl header) text reads some =
    let none : whole ≡ [] = is ∙ ap (λ (n : ℕ). take n bytes) header.first in
    absurd (omega (
      arith,
      ap length (sym none ∙ text),
      header_length First caps,
      length-append (header_text_in First caps) (texts (unplaced placed)),
    ))
fault_some bytes whole at found caps placed is (inr none) text reads some =
    let both = reads none.limits none.entries none.lawful (whole_is bytes whole at none is) in
    inr (unformed_at bytes none.limits none.entries none.rest found none.lawful none.text (sym (some ∙ ap first_unlawful_in both.1)))

pub fault_none : (bytes whole : List ℕ) (at : ℕ) (caps : Limits) (placed : List Placed) → whole ≡ take at bytes → IsMalformedIn First bytes at
    → ReadsAll whole caps placed → None ≡ first_unlawful_in placed → IsOldUnformedAt bytes at
fault_none bytes whole at caps placed is (inl header) reads none = inl header
fault_none bytes whole at caps placed is (inr stop) reads none =
    let both = reads stop.limits stop.entries stop.lawful (whole_is bytes whole at stop is) in
    inr (unread_at bytes at stop (all_lawful (header_size_of First) stop.entries (sym (none ∙ ap first_unlawful_in both.1))))

-- What is told of a whole recording.

pub formed_all : (bytes : List ℕ) (caps : Limits) (placed : List Placed) → IsRecordIn First caps (unplaced placed) → bytes ≡ old_text caps (unplaced placed)
    → ReadsAll bytes caps placed → None ≡ first_unlawful_in placed → IsOldRecordingOf bytes caps (unplaced placed)
formed_all bytes caps placed is text reads none =
    let both = reads caps (unplaced placed) is text in
    record {
      formed = record {
        record_ = is;
        lawful = all_lawful (header_size_of First) (unplaced placed) (sym (none ∙ ap first_unlawful_in both.1));
      };
      text = text;
    }

pub unformed_in : (bytes : List ℕ) (at : ℕ) (caps : Limits) (placed : List Placed) → IsRecordIn First caps (unplaced placed)
    → bytes ≡ old_text caps (unplaced placed) → ReadsAll bytes caps placed → Some at ≡ first_unlawful_in placed → IsOldUnformedAt bytes at
unformed_in bytes at caps placed is text reads some =
    let both = reads caps (unplaced placed) is text in
    inr (unformed_at bytes caps (unplaced placed) [] at is (text ∙ sym (append-nil (old_text caps (unplaced placed))))
    (sym (some ∙ ap first_unlawful_in both.1)))

-- an old recording has no unlawful entry
pub never_unlawful : (bytes : List ℕ) (at : ℕ) (own caps : Limits) (placed : List Placed) (entries : List Entry) → ReadsAll bytes own placed
    → IsOldRecordingOf bytes caps entries → Some at ≡ first_unlawful_in placed → ⊥
never_unlawful bytes at own caps placed entries reads is some =
    let both = reads caps entries is.formed.record_ is.text in
    none_found (header_size_of First) entries at is.formed.lawful (sym (some ∙ ap first_unlawful_in both.1))

pub same_entries : (bytes : List ℕ) (own caps : Limits) (placed : List Placed) (entries : List Entry) → ReadsAll bytes own placed
    → IsOldRecordingOf bytes caps entries → (own ≡ caps) × (unplaced placed ≡ entries)
same_entries bytes own caps placed entries reads is =
    let both = reads caps entries is.formed.record_ is.text in
    (both.0, ap unplaced both.1 ∙ unplaced_by First (header_size_of First) entries)
