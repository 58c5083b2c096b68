-- The last call is the last that was told.
use Rattle.std.proofs.Common.{◌≡◌, ℕ, ◌==◌, Bool, true, false, cond, List, [], ◌∷◌, ◌++◌, map, Option, Some, refl, sym, ap, ◌∙◌}
use Rattle.std.specs.Option.{option_map}
use Rattle.osc_model.specs.Events.{Answer, Call, Entry, Invocation, released}
use Rattle.osc_model.specs.Step.{invocations_of}
use Rattle.osc_story.specs.Standings.{Standing, called, calls_told, all_called}
use Rattle.osc_board.specs.declared.last.Last.{Last}
use Rattle.osc_board.specs.declared.note.Note.{Note}
use Rattle.osc_board.specs.Sights.{Sight, note_of, last_of, noted, all_noted, last_words, seen, seen_all}
use Rattle.osc_board.proofs.Counts.{last_noted}

abbrev words_in : Option Last → Option (List ℕ)
words_in last = option_map (λ (one : Last). one.words) last

-- the words of the last of notes, after those before
abbrev words_after : ℕ → Option (List ℕ) → List Note → Option (List ℕ)
words_after id before [] = before
words_after id before (note ∷ notes) = words_after id (cond (note.id == id) (Some note.words) before) notes

words_cond : (b : Bool) (one : Last) (other : Option Last) → words_in (cond b (Some one) other) ≡ cond b (Some one.words) (words_in other)
words_cond true one other = refl
words_cond false one other = refl

words_all : (at : ℕ) (notes : List Note) (lasts : List Last) (id : ℕ) (before : Option (List ℕ)) → words_in (last_of lasts id) ≡ before
    → words_in (last_of (all_noted at notes lasts) id) ≡ words_after id before notes
words_all at [] lasts id before is = is
words_all at (note ∷ notes) lasts id before is =
    words_all at notes (noted at note lasts) id (cond (note.id == id) (Some note.words) before)
    (ap words_in (last_noted at note lasts id) ∙ words_cond (note.id == id) _ (last_of lasts id)
    ∙ ap (λ (o : Option (List ℕ)). cond (note.id == id) (Some note.words) o) is)

told_words : (unit : ℕ) (calls : List Call) (id : ℕ) (before : Option (List ℕ)) → words_after id before (map note_of calls) ≡ last_words id before (invocations_of unit calls)
told_words unit [] id before = refl
told_words unit (call ∷ calls) id before = told_words unit calls id (cond (call.id == id) (Some (note_of call).words) before)

told_by : (standing : Standing) (answer : Answer) (id : ℕ) (before : Option (List ℕ)) → words_after id before (map note_of (calls_told standing answer)) ≡ last_words id before (called standing answer)
told_by standing (released unit hits) id before = told_words unit (calls_told standing (released unit hits)) id before
told_by standing _ id before = refl

one_after_another : (id : ℕ) (before : Option (List ℕ)) (xs ys : List Invocation) → last_words id before (xs ++ ys) ≡ last_words id (last_words id before xs) ys
one_after_another id before [] ys = refl
one_after_another id before (x ∷ xs) ys = one_after_another id (cond (x.call.id == id) (Some (note_of x.call).words) before) xs ys

pub last_on : (sight : Sight) (entries : List Entry) (id : ℕ) (before : Option (List ℕ)) → words_in (last_of sight.lasts id) ≡ before
    → words_in (last_of (seen_all sight entries).lasts id) ≡ last_words id before (all_called sight.standing entries)
last_on sight [] id before is = is
last_on sight (entry ∷ entries) id before is =
    let here = called sight.standing entry.answer in
    let after = seen sight entry in
    last_on after entries id (last_words id before here)
    (words_all sight.standing.clock (map note_of (calls_told sight.standing entry.answer)) sight.lasts id before is ∙ told_by sight.standing entry.answer id before)
    ∙ sym (one_after_another id before here (all_called after.standing entries))
