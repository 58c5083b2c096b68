-- Tags of words alone, each of which has four bytes.
use Rattle.std.proofs.Common.{◌≡◌, ℕ, ◌+◌, ◌*◌, ◌≤◌, true, false, ◌==◌, nat_le, None, Ok, List, [], ◌∷◌, length, refl, arith, ap, ◌∙◌, find, drop, Some}
use Rattle.std.specs.List.{list_all, list_any}
use Rattle.std.proofs.lemmas.Bool.{and_parts}
use Rattle.std.proofs.lemmas.Bool.Decides.{nat_tests}
use Rattle.osc_atoms.specs.Reading.{string_read}
use Rattle.osc_message.specs.Tags.{is_word_tag, is_unknown}
use Rattle.osc_message.specs.Reading.{brackets_read, tags_read, tagged_read}
use Rattle.osc_message.specs.ArgumentReading.{arguments_end}

word_known : (tag : ℕ) → is_word_tag tag ≡ true → is_unknown tag ≡ false
word_known tag word = rw word refl

word_opens : (tag : ℕ) → is_word_tag tag ≡ true → (tag == 91) ≡ false
word_opens tag word = grind (arith, nat_tests)

word_closes : (tag : ℕ) → is_word_tag tag ≡ true → (tag == 93) ≡ false
word_closes tag word = grind (arith, nat_tests)

pub words_known : (tags : List ℕ) → list_all is_word_tag tags ≡ true → list_any is_unknown tags ≡ false
words_known [] words = refl
words_known (tag ∷ tags) words =
    let both = and_parts (is_word_tag tag) (list_all is_word_tag tags) words in rw (word_known tag both.0) (words_known tags both.1)

pub words_balance : (tags : List ℕ) (outer place : ℕ) → list_all is_word_tag tags ≡ true → brackets_read 0 outer tags place ≡ Ok tt
words_balance [] outer place words = refl
words_balance (tag ∷ tags) outer place words =
    let both = and_parts (is_word_tag tag) (list_all is_word_tag tags) words in
    rw (word_opens tag both.0, word_closes tag both.0) (words_balance tags outer (place + 1) both.1)

pub words_end : (tags bytes : List ℕ) (at : ℕ) → list_all is_word_tag tags ≡ true → at + 4 * length tags ≤ length bytes
    → arguments_end tags bytes at ≡ Ok (at + 4 * length tags)
words_end [] bytes at words fits = ap Ok (omega arith)
words_end (tag ∷ tags) bytes at words fits =
    let both = and_parts (is_word_tag tag) (list_all is_word_tag tags) words in
    let here : nat_le (at + 4) (length bytes) ≡ true = grind (arith, nat_tests) in
    rw (both.0, here) (words_end tags bytes (at + 4) both.1 (omega arith) ∙ ap Ok (omega arith))

pub words_none : (tags : List ℕ) → list_all is_word_tag tags ≡ true → find is_unknown tags ≡ None
words_none [] words = refl
words_none (tag ∷ tags) words =
    let both = and_parts (is_word_tag tag) (list_all is_word_tag tags) words in rw (word_known tag both.0) (words_none tags both.1)

pub words_read : (tags bytes : List ℕ) (place at : ℕ) → list_all is_word_tag tags ≡ true → (at + 4 * length tags == length bytes) ≡ true
    → tags_read bytes place tags at ≡ Ok tt
words_read tags bytes place at words filled =
    rw (words_known tags words, words_balance tags place place words, words_end tags bytes at words (grind (arith, nat_tests)), filled) refl

pub tagged_as : (bytes pattern text tags : List ℕ) (at place : ℕ) → tags ≡ drop 1 text → string_read bytes at ≡ Ok (text, place)
    → tags_read bytes (at + 1) tags place ≡ Ok tt
    → tagged_read bytes pattern at ≡ Ok (record { pattern = pattern; tags = Some tags; place = place })
tagged_as bytes pattern text tags at place same string read = rw (string, ← same) (rw read refl)
