-- Entries that are read one after another.
use Rattle.std.proofs.Common.{◌≡◌, ℕ, ◌+◌, ◌<◌, false, List, [], ◌∷◌, ◌++◌, length, length-append, refl, sym, ap, subst, ◌∙◌, append_assoc, append-nil, arith, Some, None}
use Rattle.std.proofs.lemmas.List.{map-append}
use Rattle.std.specs.List.{AllByRecursion}
use Rattle.osc_model.specs.Events.{Entry}
use Rattle.osc_record.specs.Reading.{Placed}
use Rattle.osc_record.specs.Unread.{Remaining, Reads}
use Rattle.osc_story.specs.Seen.{CanBe, bytes_of, text_of, HasNoEntry}
use Rattle.osc_story.proofs.Onward.{can_append, text_append}
use Rattle.osc_report.specs.declared.stretch.Shown.{Shown}
use Rattle.osc_report.specs.declared.stretch.Shown.TheVariants.{Stretch, All, NotWhole}
use Rattle.osc_report.specs.Moments.{ends_stretch}
use Rattle.osc_report.specs.Stretches.{GoesOn, EndsSo, HasRead, told, clock_at, clock_after, ReadsNone, ReadsNext}
use Rattle.osc_report.proofs.Clocks.{clock_on}

-- these entries were read, and the clock stands there after them
pub record ReadSo (left : Remaining) (start : ℕ) (now : Remaining) (entries : List Entry) (clock : ℕ) : Type 0 where
  pub text : left.rest ≡ text_of entries ++ now.rest
  pub can_be : AllByRecursion CanBe entries
  pub place : now.at ≡ left.at + length (text_of entries)
  pub caps : now.caps ≡ left.caps
  pub clock_is : clock ≡ clock_after start entries

pub none_read : (left : Remaining) (start : ℕ) → ReadSo left start left [] start
none_read left start = record { text = refl; can_be = tt; place = omega arith; caps = refl; clock_is = refl }

-- one more
one_read : (left : Remaining) (start : ℕ) (was now : Remaining) (entries : List Entry) (placed : Placed) (clock next : ℕ)
    → ReadSo left start was entries clock → Reads was placed now → next ≡ clock_at clock placed.entry.event placed.entry.answer
    → ReadSo left start now (entries ++ placed.entry ∷ []) next
one_read left start was now entries placed clock next so reads next_is =
    let entry = placed.entry in
    let one : text_of (entries ++ entry ∷ []) ≡ text_of entries ++ bytes_of entry =
    text_append entries (entry ∷ []) ∙ ap (λ (l : List ℕ). text_of entries ++ l) (append-nil (bytes_of entry)) in
    record {
      text = so.text ∙ ap (λ (l : List ℕ). text_of entries ++ l) reads.text
          ∙ sym (append_assoc (text_of entries) (bytes_of entry) now.rest)
          ∙ ap (λ (l : List ℕ). l ++ now.rest) (sym one);
      can_be = can_append entries (entry ∷ []) so.can_be (reads.recordable, tt);
      place = omega (arith, reads.moved, so.place, ap length one, length-append (text_of entries) (bytes_of entry));
      caps = reads.caps_stay ∙ so.caps;
      clock_is = next_is ∙ ap (λ (n : ℕ). clock_at n entry.event entry.answer) so.clock_is ∙ sym (clock_on start entries entry);
    }

goes_append : (entries : List Entry) (entry : Entry) → GoesOn entries → ends_stretch entry.event ≡ false → GoesOn (entries ++ entry ∷ [])
goes_append [] entry on ends = (ends, tt)
goes_append (first ∷ entries) entry on ends = (on.0, goes_append entries entry on.1 ends)

told_on : (before after : List Placed) (placed : Placed) → after ≡ before ++ placed ∷ [] → told after ≡ told before ++ placed.entry ∷ []
told_on before after placed is = ap told is ∙ map-append (λ (p : Placed). p.entry) before (placed ∷ [])

-- so far, and none ends a stretch
abbrev pub Goes : Remaining → ℕ → Remaining → List Placed → ℕ → Type 0
Goes left start now entries clock = ReadSo left start now (told entries) clock × GoesOn (told entries)

pub goes_one : (left : Remaining) (start : ℕ) (was now : Remaining) (before after : List Placed) (clock next : ℕ)
    → Goes left start was before clock → ReadsNext None was now before after clock next → Goes left start now after next
goes_one left start was now before after clock next (so, on) one =
    let is = told_on before after one.placed one.entries in (
      subst (λ (l : List Entry). ReadSo left start now l next) (sym is) (one_read left start was now (told before) one.placed clock next so one.reads one.clock_is),
      subst (λ (l : List Entry). GoesOn l) (sym is) (goes_append (told before) one.placed.entry on one.ends),
    )

-- how they end
read_so : (left : Remaining) (start : ℕ) (now : Remaining) (entries : List Entry) (clock : ℕ) (shown : Shown) → ReadSo left start now entries clock
    → EndsSo shown now.caps now.at entries now.rest → HasRead left entries shown now × (clock ≡ clock_after start entries)
read_so left start now entries clock shown so ends =
    (record { text = so.text; can_be = so.can_be; place = so.place; caps = so.caps; ends = ends }, so.clock_is)

-- nothing more was read
same_read : (left : Remaining) (start : ℕ) (was now : Remaining) (before after : List Placed) (clock next : ℕ)
    → ReadSo left start was (told before) clock → ReadsNone was now before after clock next → ReadSo left start now (told after) next
same_read left start was now before after clock next so none =
    subst (λ (r : Remaining). ReadSo left start r (told after) next) (sym none.left_is)
    (subst (λ (l : List Placed). ReadSo left start was (told l) next) (sym none.entries)
    (subst (λ (n : ℕ). ReadSo left start was (told before) n) (sym none.clock_is) so))

pub read_ends : (left : Remaining) (start : ℕ) (was now : Remaining) (before after : List Placed) (clock next : ℕ) (shown : Shown)
    → Goes left start was before clock → ReadsNext (Some shown) was now before after clock next
    → HasRead left (told after) shown now × (next ≡ clock_after start (told after))
read_ends left start was now before after clock next Stretch (so, on) one =
    let is = told_on before after one.placed one.entries in
    read_so left start now (told after) next Stretch
    (subst (λ (l : List Entry). ReadSo left start now l next) (sym is) (one_read left start was now (told before) one.placed clock next so one.reads one.clock_is))
    (told before, one.placed.entry, on, one.ends, is)
read_ends left start was now before after clock next All (so, on) (none, all) =
    read_so left start now (told after) next All (same_read left start was now before after clock next so none)
    (subst (λ (l : List Placed). GoesOn (told l)) (sym none.entries) on, ap (λ (r : Remaining). r.rest) none.left_is ∙ all)
read_ends left start was now before after clock next (NotWhole place) (so, on) (none, at, some, nothing) =
    let there = subst (λ (r : Remaining). (place ≡ r.at) × (0 < length r.rest) × HasNoEntry r.caps r.at r.rest) (sym none.left_is) (at, some, nothing) in
    read_so left start now (told after) next (NotWhole place) (same_read left start was now before after clock next so none)
    (subst (λ (l : List Placed). GoesOn (told l)) (sym none.entries) on, there.0, there.1, there.2)
