-- What comments and blanks say.
use Rattle.std.proofs.Common.{◌≡◌, ◌∙◌, ℕ, suc, ◌-◌, Bool, true, false, cond, nat_eq, not, ◌&&◌, ◌==◌, List, [], ◌∷◌, length, take, drop, filter, None, Ok}
use Rattle.std.proofs.Common.{refl, ap, arith}
use Rattle.std.specs.List.{slice_split, onto_first, take_while}
use Rattle.std.specs.Cmp.Lexicographic.{pointwise}
use Rattle.std.proofs.lemmas.Bool.Decides.{nat_tests}
use Rattle.osc_patch.specs.Words.{is_blank, is_word, is_said, without_return}
use Rattle.osc_patch.specs.Entries.{words_say, line_says}

-- A line without its carriage return.

-- a byte before others stays
stays : (byte next : ℕ) (text : List ℕ) → without_return (byte ∷ next ∷ text) ≡ byte ∷ without_return (next ∷ text)
stays byte next text =
    let long : length (byte ∷ next ∷ text) - 1 ≡ suc (length text) = omega arith in
    let less : length (next ∷ text) - 1 ≡ length text = omega arith in
    rw (long, less) (go (pointwise nat_eq (13 ∷ []) (drop (length text) (next ∷ text))))
  where
    go : (t : Bool) → cond t (byte ∷ take (length text) (next ∷ text)) (byte ∷ next ∷ text) ≡ byte ∷ cond t (take (length text) (next ∷ text)) (next ∷ text)
    go true = refl
    go false = refl

-- and so does one that is alone and no carriage return
alone : (byte : ℕ) → nat_eq 13 byte ≡ false → without_return (byte ∷ []) ≡ byte ∷ []
alone byte other = ap (λ b. cond (b && true) (take 0 (byte ∷ [])) (byte ∷ [])) other

first_stays : (byte : ℕ) (text : List ℕ) → nat_eq 13 byte ≡ false → without_return (byte ∷ text) ≡ byte ∷ without_return text
first_stays byte [] other = alone byte other
first_stays byte (next ∷ text) other = stays byte next text

-- A line that begins with a blank.

abbrev cut : List ℕ → List (List ℕ)
cut text = take_while is_said (filter is_word (slice_split is_blank text))

blank_drops : (byte : ℕ) (text : List ℕ) → is_blank byte ≡ true → cut (byte ∷ text) ≡ cut text
blank_drops byte text is = ap (λ t. take_while is_said (filter is_word (cond t ([] ∷ slice_split is_blank text) (onto_first byte (slice_split is_blank text))))) is

no_return : (byte : ℕ) → is_blank byte ≡ true → nat_eq 13 byte ≡ false
no_return byte is = grind (arith, nat_tests)

pub blank : (line byte : ℕ) (text : List ℕ) → is_blank byte ≡ true → line_says line (byte ∷ text) ≡ line_says line text
blank line byte text is =
    ap (λ l. words_say line (cut l)) (first_stays byte text (no_return byte is)) ∙ ap (words_say line) (blank_drops byte (without_return text) is)

-- A comment.

starts : (parts : List (List ℕ)) → take_while is_said (filter is_word (onto_first 35 parts)) ≡ []
starts [] = refl
starts (part ∷ parts) = go (length part) where
  kept : (n : ℕ) → not (suc n == 0) ≡ true
  kept n = grind (arith, nat_tests)

  go : (n : ℕ) → take_while is_said (filter is_word ((35 ∷ part) ∷ parts)) ≡ []
  go n = ap (λ b. take_while is_said (cond b ((35 ∷ part) ∷ filter is_word parts) (filter is_word parts))) (kept (length part))

pub comment : (line : ℕ) (rest : List ℕ) → line_says line (35 ∷ rest) ≡ Ok None
comment line rest =
    ap (λ l. words_say line (cut l)) (first_stays 35 rest refl) ∙ ap (words_say line) (starts (slice_split is_blank (without_return rest)))
