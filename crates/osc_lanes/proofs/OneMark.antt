-- One id is added once: by one text, with one mark.
use Rattle.std.proofs.Common.{◌≡◌, ℕ, zero, suc, ◌<◌, Bool, true, nat_lt, List, [], ◌∷◌, ◌++◌, Option, Some, None, append_assoc, refl, sym, ap, subst, ◌∙◌, arith}
use Rattle.std.specs.List.{list_all, Contains, cons_option}
use Rattle.std.proofs.lemmas.Bool.{and_parts}
use Rattle.std.proofs.lemmas.Bool.Decides.{nat_tests}
use Rattle.osc_model.specs.Limits.{Limits}
use Rattle.osc_model.specs.State.{opening}
use Rattle.osc_model.specs.Events.{Answer, Entry, added}
use Rattle.osc_model.specs.History.{Legal, LegalFrom}
use Rattle.osc_model.specs.Recordings.{entry_text}
use Rattle.osc_model.proofs.Onward.{legal_split}
use Rattle.osc_record.specs.Reading.{entry_in}
use Rattle.osc_core.specs.Ids.{is_ascending}
use Rattle.osc_core.specs.Standing.{CarriesMark, history_in, mark_after, text_with}
use Rattle.osc_core.proofs.Texts.{TextLaws, last_read}
use Rattle.osc_life.specs.Lives.{added_id, added_ids}

ascends_after : (ids others : List ℕ) → is_ascending (ids ++ others) ≡ true → is_ascending others ≡ true
ascends_after [] others all = all
ascends_after (id ∷ ids) others all = ascends_after ids others (and_parts (list_all (nat_lt id) (ids ++ others)) (is_ascending (ids ++ others)) all).1

all_after : (p : ℕ → Bool) (ids others : List ℕ) → list_all p (ids ++ others) ≡ true → list_all p others ≡ true
all_after p [] others all = all
all_after p (id ∷ ids) others all = all_after p ids others (and_parts (p id) (list_all p (ids ++ others)) all).1

abbrev first_ids : Option Entry → List ℕ
first_ids None = []
first_ids (Some entry) = added_id entry.answer

ids_split : (read : Option Entry) (entries : List Entry) → added_ids (cons_option read entries) ≡ first_ids read ++ added_ids entries
ids_split None entries = refl
ids_split (Some entry) entries = refl

module _ (id : ℕ) where
  -- a text is that of an entry that adds a method under the id
  abbrev Adds : List ℕ → Type 0
  Adds text = (entry : Entry) × (entry_in text ≡ Some entry) × (entry.answer ≡ added id)

  ids_of_adding : (text : List ℕ) → Adds text → first_ids (entry_in text) ≡ id ∷ []
  ids_of_adding text (entry, reads, is) = ap first_ids reads ∙ ap added_id is

  none_above : (texts : List (List ℕ)) (text : List ℕ) → Adds text → Contains texts text → list_all (nat_lt id) (added_ids (history_in texts)) ≡ true → ⊥
  none_above [] text adds (k, within, is) all = absurd (omega (arith, within))
  none_above (first ∷ texts) text adds (zero, within, is) all =
      let here : list_all (nat_lt id) (first_ids (entry_in first) ++ added_ids (history_in texts)) ≡ true =
      subst (λ (l : List ℕ). list_all (nat_lt id) l ≡ true) (ids_split (entry_in first) (history_in texts)) all in
      let own : first_ids (entry_in first) ≡ id ∷ [] = ap (λ (t : List ℕ). first_ids (entry_in t)) is ∙ ids_of_adding text adds in
      let both = subst (λ (l : List ℕ). list_all (nat_lt id) (l ++ added_ids (history_in texts)) ≡ true) own here in
      let less : nat_lt id id ≡ true = (and_parts (nat_lt id id) (list_all (nat_lt id) (added_ids (history_in texts))) both).0 in
      let below : id < id = grind (arith, nat_tests) in
      omega (arith, below)
  none_above (first ∷ texts) text adds (suc k, within, is) all =
      none_above texts text adds (k, omega (arith, within), is)
      (all_after (nat_lt id) (first_ids (entry_in first)) (added_ids (history_in texts))
      (subst (λ (l : List ℕ). list_all (nat_lt id) l ≡ true) (ids_split (entry_in first) (history_in texts)) all))

  later_above : (first : List ℕ) (texts : List (List ℕ)) → Adds first → is_ascending (added_ids (history_in (first ∷ texts))) ≡ true
      → list_all (nat_lt id) (added_ids (history_in texts)) ≡ true
  later_above first texts adds all =
      let here = subst (λ (l : List ℕ). is_ascending l ≡ true) (ids_split (entry_in first) (history_in texts)) all in
      let both = subst (λ (l : List ℕ). is_ascending (l ++ added_ids (history_in texts)) ≡ true) (ids_of_adding first adds) here in
      (and_parts (list_all (nat_lt id) (added_ids (history_in texts))) (is_ascending (added_ids (history_in texts))) both).0

  one_text : (texts : List (List ℕ)) (text other : List ℕ) → is_ascending (added_ids (history_in texts)) ≡ true → Adds text → Adds other
      → Contains texts text → Contains texts other → text ≡ other
  one_text [] text other all adds also (k, within, is) there = absurd (omega (arith, within))
  one_text (first ∷ texts) text other all adds also (zero, within, is) (zero, inside, at) = sym is ∙ at
  one_text (first ∷ texts) text other all adds also (zero, within, is) (suc k, inside, at) =
      absurd (none_above texts other also (k, omega (arith, inside), at) (later_above first texts (subst Adds (sym is) adds) all))
  one_text (first ∷ texts) text other all adds also (suc k, within, is) (zero, inside, at) =
      absurd (none_above texts text adds (k, omega (arith, within), is) (later_above first texts (subst Adds (sym at) also) all))
  one_text (first ∷ texts) text other all adds also (suc j, within, is) (suc k, inside, at) =
      one_text texts text other
      (ascends_after (first_ids (entry_in first)) (added_ids (history_in texts))
      (subst (λ (l : List ℕ). is_ascending l ≡ true) (ids_split (entry_in first) (history_in texts)) all))
      adds also (j, omega (arith, within), is) (k, omega (arith, inside), at)

last_same : (xs m n : List ℕ) → xs ++ m ≡ xs ++ n → m ≡ n
last_same [] m n is = is
last_same (x ∷ xs) m n is = let later : xs ++ m ≡ xs ++ n = cc in last_same xs m n later

-- each entry of a history is read from its text, whatever mark stands after it
abbrev pub AreReadAgain : List (List ℕ) → Type 0
AreReadAgain texts = (entry : Entry) (mark : List ℕ) → Contains (history_in texts) entry → entry_in (text_with mark entry) ≡ Some entry

-- and one mark
pub one_mark : (texts : List (List ℕ)) (id : ℕ) (m n : List ℕ) → AreReadAgain texts → is_ascending (added_ids (history_in texts)) ≡ true → CarriesMark texts id m
    → CarriesMark texts id n → m ≡ n
one_mark texts id m n reads all (entry, adds, held, there) (other, also, kept, at) =
    let first = reads entry m held in
    let second = reads other n kept in
    let same : text_with m entry ≡ text_with n other =
    one_text id texts (text_with m entry) (text_with n other) all (entry, first, adds) (other, second, also) there at in
    let whole : Some entry ≡ Some other = sym first ∙ (ap entry_in same ∙ second) in
    let one : entry ≡ other = cc in
    let ends : entry_text entry.caller entry.event entry.answer ++ mark_after entry.answer m
    ≡ entry_text entry.caller entry.event entry.answer ++ mark_after entry.answer n =
    same ∙ ap (λ (e : Entry). text_with n e) (sym one) in
    last_same (entry_text entry.caller entry.event entry.answer) m n
    (subst (λ (a : Answer). entry_text entry.caller entry.event entry.answer ++ mark_after a m
    ≡ entry_text entry.caller entry.event entry.answer ++ mark_after a n) adds ends)

split_at : (xs : List Entry) (x : Entry) → Contains xs x → (before : List Entry) × (later : List Entry) × (xs ≡ before ++ x ∷ later)
split_at [] x (k, within, is) = absurd (omega (arith, within))
split_at (y ∷ xs) x (zero, within, is) = ([], xs, ap (λ (e : Entry). e ∷ xs) is)
split_at (y ∷ xs) x (suc k, within, is) =
    let there = split_at xs x (k, omega (arith, within), is) in
    (y ∷ there.0, there.1, ap (λ (l : List Entry). y ∷ l) there.2)

pub read_again : TextLaws → (caps : Limits) (texts : List (List ℕ)) → Legal caps (history_in texts) → AreReadAgain texts
read_again laws caps texts legal entry mark held =
    let there = split_at (history_in texts) entry held in
    let whole : history_in texts ≡ (there.0 ++ entry ∷ []) ++ there.1 = there.2 ∙ sym (append_assoc there.0 (entry ∷ []) there.1) in
    let front = legal_split (opening caps) (there.0 ++ entry ∷ []) there.1 (subst (LegalFrom (opening caps)) whole legal.1) in
    last_read laws caps there.0 entry mark (legal.0, front.0)

-- One id has one entry.

-- no entry adds a method under an id that is less than all that are added
no_more : (id : ℕ) (entries : List Entry) (entry : Entry) → entry.answer ≡ added id → Contains entries entry
    → list_all (nat_lt id) (added_ids entries) ≡ true → ⊥
no_more id [] entry adds (k, within, is) all = absurd (omega (arith, within))
no_more id (first ∷ entries) entry adds (zero, within, is) all =
    let own : added_id first.answer ≡ id ∷ [] = ap (λ (e : Entry). added_id e.answer) is ∙ ap added_id adds in
    let both = subst (λ (l : List ℕ). list_all (nat_lt id) (l ++ added_ids entries) ≡ true) own all in
    let less : nat_lt id id ≡ true = (and_parts (nat_lt id id) (list_all (nat_lt id) (added_ids entries)) both).0 in
    let below : id < id = grind (arith, nat_tests) in
    omega (arith, below)
no_more id (first ∷ entries) entry adds (suc k, within, is) all =
    no_more id entries entry adds (k, omega (arith, within), is) (all_after (nat_lt id) (added_id first.answer) (added_ids entries) all)

above_first : (id : ℕ) (first : Entry) (entries : List Entry) → first.answer ≡ added id → is_ascending (added_ids (first ∷ entries)) ≡ true
    → list_all (nat_lt id) (added_ids entries) ≡ true
above_first id first entries adds all =
    let both = subst (λ (l : List ℕ). is_ascending (l ++ added_ids entries) ≡ true) (ap added_id adds) all in
    (and_parts (list_all (nat_lt id) (added_ids entries)) (is_ascending (added_ids entries)) both).0

pub one_entry : (id : ℕ) (entries : List Entry) (entry other : Entry) → is_ascending (added_ids entries) ≡ true → entry.answer ≡ added id
    → other.answer ≡ added id → Contains entries entry → Contains entries other → entry ≡ other
one_entry id [] entry other all adds also (k, within, is) there = absurd (omega (arith, within))
one_entry id (first ∷ entries) entry other all adds also (zero, within, is) (zero, inside, at) = sym is ∙ at
one_entry id (first ∷ entries) entry other all adds also (zero, within, is) (suc k, inside, at) =
    absurd (no_more id entries other also (k, omega (arith, inside), at) (above_first id first entries (ap (λ (e : Entry). e.answer) is ∙ adds) all))
one_entry id (first ∷ entries) entry other all adds also (suc k, within, is) (zero, inside, at) =
    absurd (no_more id entries entry adds (k, omega (arith, within), is) (above_first id first entries (ap (λ (e : Entry). e.answer) at ∙ also) all))
one_entry id (first ∷ entries) entry other all adds also (suc j, within, is) (suc k, inside, at) =
    one_entry id entries entry other (ascends_after (added_id first.answer) (added_ids entries) all) adds also (j, omega (arith, within), is)
    (k, omega (arith, inside), at)
