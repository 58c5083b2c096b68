-- What a server stands for: its entries' texts, with the marks of its boxes.
use Rattle.std.specs.Prelude.{◌≡◌, ℕ, ◌+◌, ◌<◌, ◌^◌, ◌==◌, if◌then◌else◌, is_some, List, [], ◌∷◌}
use Rattle.std.specs.Prelude.{◌++◌, length, map}
use Rattle.std.proofs.Common.{refl, sym, ◌∙◌, arith}
use Rattle.std.specs.List.{filter_map, AllByRecursion, Contains}
use Rattle.osc_turn.specs.Jobs.{StandsNext}
use Rattle.osc_model.specs.Events.{Answer, added, Event, adds_entry, Entry}
use Rattle.osc_model.specs.Recordings.{entry_text}
use Rattle.osc_model.specs.Heard.{Told}
use Rattle.osc_model.specs.History.{Legal, Performance, stepped_in, HaveHeard}
use Rattle.osc_record.specs.Reading.{entry_in}

-- the mark of a box: one more than what it keeps, or 0 where it tells nothing, and its name
abbrev pub mark_of : Told → List ℕ
mark_of told = (if is_some told.heard then told.keep.most + 1 else 0) ∷ told.keep.name

-- what follows an entry's bytes: a mark, where a method was added
abbrev pub mark_after : Answer → List ℕ → List ℕ
mark_after (added id) mark = mark
mark_after _ mark = []

-- an entry's text: its bytes, and a mark where a method was added
abbrev pub text_with : List ℕ → Entry → List ℕ
text_with mark entry =
    entry_text entry.caller entry.event entry.answer ++ mark_after entry.answer mark

-- each text is that of an entry, with some mark
abbrev pub AreTexts : List Entry → List (List ℕ) → Type 0
AreTexts [] [] = Unit {0}
AreTexts (entry ∷ entries) (text ∷ texts) =
    ((mark : List ℕ) × (text ≡ text_with mark entry)) × AreTexts entries texts
AreTexts _ _ = ⊥

-- so there are as many texts as entries
pub as_many : (entries : List Entry) (texts : List (List ℕ)) → AreTexts entries texts
    → length texts ≡ length entries
as_many [] [] are = refl
as_many [] (text ∷ texts) are = absurd are
as_many (entry ∷ entries) [] are = absurd are
as_many (entry ∷ entries) (text ∷ texts) are = omega (arith, as_many entries texts are.1)

-- the entries that texts begin with
abbrev pub history_in : List (List ℕ) → List Entry
history_in texts = filter_map entry_in texts

-- the entry that added the method with the id has this mark
abbrev pub CarriesMark : List (List ℕ) → ℕ → List ℕ → Type 0
CarriesMark texts id mark = (entry : Entry) × (entry.answer ≡ added id)
    × Contains (history_in texts) entry × Contains texts (text_with mark entry)

-- each box has the mark of its id's entry
abbrev pub AreMarked : List (List ℕ) → List Told → Type 0
AreMarked texts boxes = AllByRecursion (λ told. CarriesMark texts told.id (mark_of told)) boxes

-- The texts are those of a server's history, which is legal and which its boxes have heard, and
-- each box has the mark of its id's entry; and there are so few that the turn can count them.
pub record StandsFor (performance : Performance) (boxes : List Told)
    (texts : List (List ℕ)) : Type 0 where
  pub legal : Legal performance.caps performance.history
  pub written : AreTexts performance.history texts
  pub read : history_in texts ≡ performance.history
  pub heard : HaveHeard performance boxes
  pub marked : AreMarked texts boxes
  pub few : length texts < 2 ^ 62

-- what a server stood for before an event, it stands for then, with one text more where the event
-- adds an entry
abbrev pub GoesOn : Event → Performance → List Told → Performance → List Told → Type 0
GoesOn event before boxes after left = (texts : List (List ℕ)) → StandsFor before boxes texts
    → StandsNext (StandsFor after left) (adds_entry (stepped_in before event).answer) texts

-- all lists of texts that a server stands for have one length
pub one_length : (performance : Performance) (boxes : List Told) (texts others : List (List ℕ))
    → StandsFor performance boxes texts → StandsFor performance boxes others
    → length texts ≡ length others
one_length performance boxes texts others one two =
    as_many performance.history texts one.written
    ∙ sym (as_many performance.history others two.written)

-- the mark of the box with the id
abbrev pub mark_in : List Told → ℕ → List ℕ
mark_in [] id = []
mark_in (told ∷ boxes) id = if told.id == id then mark_of told else mark_in boxes id

-- the mark that an answer's text has, where boxes that left have none
abbrev pub mark_by : List Told → Answer → List ℕ
mark_by boxes (added id) = mark_in boxes id
mark_by boxes _ = []

-- the texts of a server's history, where boxes that left have no mark
abbrev pub texts_of : List Told → List Entry → List (List ℕ)
texts_of boxes entries = map (λ entry. text_with (mark_by boxes entry.answer) entry) entries
