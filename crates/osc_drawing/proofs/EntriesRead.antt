-- Entries that are read one after another.
use Rattle.std.proofs.Common.{◌≡◌, ℕ, ◌+◌, List, [], ◌∷◌, ◌++◌, length, length-append, refl, sym, ap, subst, ◌∙◌, append_assoc, append-nil, arith, Option}
use Rattle.std.proofs.lemmas.List.{map-append}
use Rattle.std.specs.List.{AllByRecursion}
use Rattle.osc_model.specs.Events.{Entry}
use Rattle.osc_record.specs.declared.event.Entry.{Entry as Read}
use Rattle.osc_record.specs.Left.{placed_of}
use Rattle.osc_record.specs.Unread.{Remaining, Reads}
use Rattle.osc_story.specs.Seen.{CanBe, bytes_of, text_of}
use Rattle.osc_story.proofs.Onward.{can_append, text_append}
use Rattle.osc_drawing.specs.Sketches.{entry_of, told}
use Rattle.osc_drawing.specs.Readings.{EndsSo, HasReadAll}

-- these entries were read
pub record ReadSo (left : Remaining) (entries : List Read) (now : Remaining) : Type 0 where
  pub text : left.rest ≡ text_of (told entries) ++ now.rest
  pub can_be : AllByRecursion CanBe (told entries)
  pub place : now.at ≡ left.at + length (text_of (told entries))
  pub caps : now.caps ≡ left.caps

pub none_read : (left : Remaining) → ReadSo left [] left
none_read left = record { text = refl; can_be = tt; place = omega arith; caps = refl }

-- one more
pub one_read : (left was now : Remaining) (entries after : List Read) (read : Read) → ReadSo left entries was → Reads was (placed_of read) now
    → after ≡ entries ++ read ∷ [] → ReadSo left after now
one_read left was now entries after read so reads is =
    let entry = entry_of read in
    let all : told (entries ++ read ∷ []) ≡ told entries ++ entry ∷ [] = map-append entry_of entries (read ∷ []) in
    let one : text_of (told (entries ++ read ∷ [])) ≡ text_of (told entries) ++ bytes_of entry =
    ap text_of all ∙ text_append (told entries) (entry ∷ []) ∙ ap (λ (l : List ℕ). text_of (told entries) ++ l) (append-nil (bytes_of entry)) in
    subst (λ (l : List Read). ReadSo left l now) (sym is) (record {
      text = so.text ∙ ap (λ (l : List ℕ). text_of (told entries) ++ l) reads.text
          ∙ sym (append_assoc (text_of (told entries)) (bytes_of entry) now.rest)
          ∙ ap (λ (l : List ℕ). l ++ now.rest) (sym one);
      can_be = subst (λ (l : List Entry). AllByRecursion CanBe l) (sym all)
          (can_append (told entries) (entry ∷ []) so.can_be (reads.recordable, tt));
      place = omega (arith, reads.moved, so.place, ap length one, length-append (text_of (told entries)) (bytes_of entry));
      caps = reads.caps_stay ∙ so.caps;
    })

pub all_read : (left now : Remaining) (entries : List Read) (cut : Option ℕ) → ReadSo left entries now → EndsSo cut now
    → HasReadAll left entries cut now
all_read left now entries cut so ends =
    record { text = so.text; can_be = so.can_be; place = so.place; caps = so.caps; ends = ends }
