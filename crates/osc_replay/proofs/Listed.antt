-- Recordings that are dumped up to an entry.
use Rattle.std.proofs.Common.{◌≡◌, ℕ, ◌+◌, List, [], ◌∷◌, ◌++◌, length, inr, sym, ap, ◌∙◌, arith, length-append, append_assoc}
use Rattle.std.proofs.lemmas.List.{append-nil}
use Rattle.std.proofs.lemmas.Grind.{flat_map-append}
use Rattle.std.specs.List.{flat_map}
use Rattle.osc_print.specs.Dumps.{limits_text, placed_text, dumped}
use Rattle.osc_model.specs.Limits.{Limits, header_size}
use Rattle.osc_model.specs.Events.{Entry}
use Rattle.osc_model.specs.Recordings.{entry_text, record_text}
use Rattle.osc_model.specs.History.{IsLawful}
use Rattle.osc_record.specs.Reading.{Placed, placed_from}
use Rattle.osc_record.specs.Unread.{Remaining, HasHeader, Reads}
use Rattle.osc_record.proofs.Readings.{texts_differ}
use Rattle.osc_replay.specs.Formed.{IsFormed, IsFormedTo, IsUnformedAt, HasNoLawful}
use Rattle.osc_replay.proofs.Formed.{texts, record_length, opened, formed_more, stuck_here}

-- the entries so far are formed, and the text is their dump
pub record IsListed (bytes : List ℕ) (left : Remaining) (text : List ℕ) : Type 0 where
  pub caps : Limits
  pub before : List Entry
  pub formed : IsFormedTo bytes caps before left
  pub text_is : text ≡ dumped caps before

pub listed_none : (bytes : List ℕ) (left : Remaining) → HasHeader bytes left → IsListed bytes left (limits_text left.caps)
listed_none bytes left is = record {
  caps = left.caps;
  before = [];
  formed = opened bytes left is;
  text_is = sym (append-nil (limits_text left.caps));
}

-- the places of some entries and of one more
placed_more : (place : ℕ) (xs : List Entry) (x : Entry)
    → placed_from place (xs ++ x ∷ []) ≡ placed_from place xs ++ record { at = place + length (texts xs); entry = x } ∷ []
placed_more place [] x =
    let here : ℕ → List Placed = λ n. record { at = n; entry = x } ∷ [] in
    let same : place ≡ place + 0 = omega arith in
    ap here same
placed_more place (y ∷ xs) x =
    let own : List ℕ = entry_text y.caller y.event y.answer in
    let far : place + length own + length (texts xs) ≡ place + length (own ++ texts xs) = omega (arith, length-append own (texts xs)) in
    ap (λ (l : List Placed). record { at = place; entry = y } ∷ l)
    (placed_more (place + length own) xs x ∙ ap (λ (n : ℕ). placed_from (place + length own) xs ++ record { at = n; entry = x } ∷ []) far)

-- the dump of some entries and of one more
dumped_more : (caps : Limits) (before : List Entry) (placed : Placed) → placed.at ≡ header_size + length (texts before)
    → dumped caps before ++ placed_text placed ≡ dumped caps (before ++ placed.entry ∷ [])
dumped_more caps before placed at =
    let lines : List ℕ = flat_map placed_text (placed_from header_size before) in
    let here : ℕ → Placed = λ n. record { at = n; entry = placed.entry } in
    append_assoc (limits_text caps) lines (placed_text placed)
    ∙ ap (λ (n : ℕ). limits_text caps ++ (lines ++ placed_text (here n))) at
    ∙ ap (λ (l : List ℕ). limits_text caps ++ (lines ++ l)) (sym (append-nil (placed_text (here (header_size + length (texts before))))))
    ∙ ap (λ (l : List ℕ). limits_text caps ++ l)
    (sym (flat_map-append placed_text (placed_from header_size before) (here (header_size + length (texts before)) ∷ [])))
    ∙ ap (λ (l : List Placed). limits_text caps ++ flat_map placed_text l) (sym (placed_more header_size before placed.entry))

-- one more entry is dumped
pub listed_more : (bytes : List ℕ) (left rest : Remaining) (placed : Placed) (text more : List ℕ) → IsListed bytes left text → Reads left placed rest
    → IsLawful placed.entry.event → more ≡ text ++ placed_text placed → IsListed bytes rest more
listed_more bytes left rest placed text more is reads lawful adds = record {
  caps = is.caps;
  before = is.before ++ placed.entry ∷ [];
  formed = formed_more bytes is.caps is.before left rest placed is.formed reads lawful;
  text_is = adds ∙ ap (λ (l : List ℕ). l ++ placed_text placed) is.text_is
      ∙ dumped_more is.caps is.before placed (reads.at_is ∙ is.formed.place ∙ record_length is.caps is.before);
}

-- a place where nothing lawful is left is malformed
pub not_listed : (bytes : List ℕ) (left : Remaining) (text : List ℕ) (at : ℕ) → IsListed bytes left text → HasNoLawful left at → IsUnformedAt bytes at
not_listed bytes left text at is none = inr (stuck_here left at none bytes is.caps is.before is.formed)

-- the bytes are one recording
pub one_dump : (bytes text : List ℕ) (caps other : Limits) (entries others : List Entry) → IsFormed caps entries → bytes ≡ record_text caps entries
    → text ≡ dumped caps entries → IsFormed other others → bytes ≡ record_text other others → text ≡ dumped other others
one_dump bytes text caps other entries others one first is two second =
    let same = texts_differ caps other entries others one.record_ two.record_ (sym first ∙ second) in
    is ∙ ap (λ (l : Limits). dumped l entries) same.0 ∙ ap (dumped other) same.1
