-- How the first line and the first word are cut off.
use Rattle.std.proofs.Common.{◌≡◌, ℕ, suc, ◌+◌, ◌-◌, ◌<◌, ◌≤◌, Bool, true, false, cond, not, eqb, nat_le, List, [], ◌∷◌, length, take, drop, filter, position}
use Rattle.std.proofs.Common.{Some, None, refl, sym, ap, ◌∙◌, arith, one-add, subst, length-take, length-drop, ◌++◌, length-append, All}
use Rattle.std.specs.List.{slice_split, position_or_len, onto_first}
use Rattle.std.proofs.lemmas.List.{take_all, drop_all}
use Rattle.std.proofs.Math.Seq.{take-append_seam, drop-append_seam}
use Rattle.std.proofs.lemmas.Bool.Decides.{nat_tests}
use Rattle.std.proofs.lemmas.List.Splits.{slice_split_first, slice_split_at, slice_split_none}
use Rattle.osc_script.specs.Words.{is_space, is_no_space, is_line_feed, is_word, words_of, without_return, lines_from, lines_of}
use Rattle.osc_script.proofs.Places.{position_some, position_none}

onto_parts : {X : Type 0} (x : X) (t : Bool) (parts : List (List X))
    → (first : List X) × (rest : List (List X)) × (cond t ([] ∷ parts) (onto_first x parts) ≡ first ∷ rest)
onto_parts x true parts = ([], parts, refl)
onto_parts x false [] = (x ∷ [], [], refl)
onto_parts x false (part ∷ parts) = (x ∷ part, parts, refl)

-- there is at least one part
parts_are : {X : Type 0} (p : X → Bool) (xs : List X) → (first : List X) × (rest : List (List X)) × (slice_split p xs ≡ first ∷ rest)
parts_are p [] = ([], [], refl)
parts_are p (x ∷ xs) = onto_parts x (p x) (slice_split p xs)

split_none : {X : Type 0} (p : X → Bool) (xs : List X) → length xs ≤ position_or_len p xs → slice_split p xs ≡ xs ∷ []
split_none p [] none = refl
split_none {X} p (x ∷ xs) none = go (p x) none (split_none p xs) where
  go : (t : Bool) → suc (length xs) ≤ cond (not t) (1 + position_or_len p xs) 0 → (length xs ≤ position_or_len p xs → slice_split p xs ≡ xs ∷ [])
      → cond {A = List (List X)} t ([] ∷ slice_split p xs) (onto_first x (slice_split p xs)) ≡ (x ∷ xs) ∷ []
  go true long more = absurd (omega arith)
  go false long more = ap (onto_first x) (more (omega arith))

-- the parts around the first place that passes
split_found : {X : Type 0} (p : X → Bool) (xs : List X) (k : ℕ) (d : X) → position p xs ≡ Some k
    → slice_split p xs ≡ take k xs ∷ slice_split p (drop (k + 1) xs)
split_found p xs k d is =
    let found = position_some p xs k is in
    slice_split_first p xs d (omega (arith, found.0, found.1)) ∙ ap (λ n. take n xs ∷ slice_split p (drop (n + 1) xs)) found.0

more_lines : (part : List ℕ) (parts : List (List ℕ)) (first : List ℕ) (rest : List (List ℕ)) → parts ≡ first ∷ rest
    → lines_from (part ∷ parts) ≡ without_return part ∷ lines_from parts
more_lines part parts first rest is = ap (λ l. lines_from (part ∷ l)) is ∙ ap (λ l. without_return part ∷ lines_from l) (sym is)

line_ended : (bytes : List ℕ) (k : ℕ) → position is_line_feed bytes ≡ Some k → lines_of bytes ≡ without_return (take k bytes) ∷ lines_of (drop (k + 1) bytes)
line_ended bytes k is =
    let after = parts_are is_line_feed (drop (k + 1) bytes) in
    ap lines_from (split_found is_line_feed bytes k 0 is) ∙ more_lines (take k bytes) (slice_split is_line_feed (drop (k + 1) bytes)) after.0 after.1 after.2

one_part : (bytes : List ℕ) → 0 < length bytes → lines_from (bytes ∷ []) ≡ bytes ∷ []
one_part [] some = absurd (omega arith)
one_part (first ∷ bytes) some = ap (λ t. cond t [] ((first ∷ bytes) ∷ [])) (suc_is_not (length bytes)) where
  suc_is_not : (n : ℕ) → eqb (suc n) 0 ≡ false
  suc_is_not n = grind (arith, nat_tests)

pub line_unended : (bytes : List ℕ) → position is_line_feed bytes ≡ None → 0 < length bytes → lines_of bytes ≡ bytes ∷ lines_of []
line_unended bytes none some = ap lines_from (split_none is_line_feed bytes (position_none is_line_feed bytes none)) ∙ one_part bytes some

-- what a slice from a place on holds
to_end : (n : ℕ) (xs : List ℕ) → take (length xs - n) (drop n xs) ≡ drop n xs
to_end n xs = take_all (length xs - n) (drop n xs) (omega (arith, length-drop n xs))

pub line_cut : (bytes line : List ℕ) (k : ℕ) → Some k ≡ position is_line_feed bytes → line ≡ without_return (take k bytes)
    → lines_of bytes ≡ line ∷ lines_of (take (length bytes - (k + 1)) (drop (k + 1) bytes))
line_cut bytes line k is cut = rw (to_end (k + 1) bytes) (line_ended bytes k (sym is) ∙ ap (λ l. l ∷ lines_of (drop (k + 1) bytes)) (sym cut))

pub ruleset lines = (line_unended)

space_dropped : (byte : ℕ) (bytes : List ℕ) → is_space byte ≡ true → words_of (byte ∷ bytes) ≡ words_of bytes
space_dropped byte bytes is = ap (λ t. filter is_word (cond t ([] ∷ slice_split is_space bytes) (onto_first byte (slice_split is_space bytes)))) is

-- spaces before the first word tell nothing
spaces_dropped : (bytes : List ℕ) → words_of (drop (position_or_len is_no_space bytes) bytes) ≡ words_of bytes
spaces_dropped [] = refl
spaces_dropped (byte ∷ bytes) = go (is_space byte) refl (spaces_dropped bytes) where
  go : (t : Bool) → is_space byte ≡ t → words_of (drop (position_or_len is_no_space bytes) bytes) ≡ words_of bytes
      → words_of (drop (cond (not (not t)) (1 + position_or_len is_no_space bytes) 0) (byte ∷ bytes)) ≡ words_of (byte ∷ bytes)
  go true is more = rw one-add (more ∙ sym (space_dropped byte bytes is))
  go false is more = refl

-- what begins there doesn't begin with a space
begins : (bytes : List ℕ) → position_or_len is_no_space bytes < length bytes → 0 < position_or_len is_space (drop (position_or_len is_no_space bytes) bytes)
begins [] some = absurd (omega arith)
begins (byte ∷ bytes) some = go (is_space byte) refl some (begins bytes) where
  go : (t : Bool) → is_space byte ≡ t → cond (not (not t)) (1 + position_or_len is_no_space bytes) 0 < suc (length bytes)
      → (position_or_len is_no_space bytes < length bytes → 0 < position_or_len is_space (drop (position_or_len is_no_space bytes) bytes))
      → 0 < position_or_len is_space (drop (cond (not (not t)) (1 + position_or_len is_no_space bytes) 0) (byte ∷ bytes))
  go true is less more = rw one-add (more (omega arith))
  go false is less more = rw is (omega arith)

pub words_none : (text : List ℕ) → position is_no_space text ≡ None → words_of text ≡ []
words_none text none = sym (spaces_dropped text) ∙ ap words_of (drop_all (position_or_len is_no_space text) text (position_none is_no_space text none))

word_kept : (word : List ℕ) (words : List (List ℕ)) → 0 < length word → filter is_word (word ∷ words) ≡ word ∷ filter is_word words
word_kept [] words some = absurd (omega arith)
word_kept (byte ∷ word) words some = ap (λ t. cond t ((byte ∷ word) ∷ filter is_word words) (filter is_word words)) (suc_is_more (length word)) where
  suc_is_more : (n : ℕ) → nat_le 1 (suc n) ≡ true
  suc_is_more n = grind (arith, nat_tests)

-- what follows the spaces, and how far its first word goes at least
begun : (text : List ℕ) (k : ℕ) → position is_no_space text ≡ Some k → (words_of text ≡ words_of (drop k text)) × (0 < position_or_len is_space (drop k text))
begun text k is =
    let found = position_some is_no_space text k is in
    let some : position_or_len is_no_space text < length text = omega (arith, found.0, found.1) in
    (sym (spaces_dropped text) ∙ ap (λ n. words_of (drop n text)) found.0, subst (λ n. 0 < position_or_len is_space (drop n text)) found.0 (begins text some))

word_ended : (text : List ℕ) (k e : ℕ) → position is_no_space text ≡ Some k → position is_space (drop k text) ≡ Some e
    → words_of text ≡ take e (drop k text) ∷ words_of (drop (e + 1) (drop k text))
word_ended text k e is ends =
    let from = begun text k is in
    let end = position_some is_space (drop k text) e ends in
    from.0 ∙ ap (filter is_word) (split_found is_space (drop k text) e 0 ends)
    ∙ word_kept (take e (drop k text)) (slice_split is_space (drop (e + 1) (drop k text)))
    (omega (arith, length-take e (drop k text), from.1, end.0, end.1))

word_unended : (text : List ℕ) (k : ℕ) → position is_no_space text ≡ Some k → position is_space (drop k text) ≡ None → words_of text ≡ drop k text ∷ words_of []
word_unended text k is ends =
    let from = begun text k is in
    let found = position_some is_no_space text k is in
    from.0 ∙ ap (filter is_word) (split_none is_space (drop k text) (position_none is_space (drop k text) ends))
    ∙ word_kept (drop k text) [] (omega (arith, length-drop k text, found.1))

pub word_cut : (text word : List ℕ) (k e : ℕ) → Some k ≡ position is_no_space text → word ≡ take (length text - k) (drop k text)
    → Some e ≡ position is_space word → words_of text ≡ take e word ∷ words_of (take (length word - (e + 1)) (drop (e + 1) word))
word_cut text word k e is cut ends =
    let same : word ≡ drop k text = cut ∙ to_end k text in
    rw (to_end (e + 1) word)
    (word_ended text k e (sym is) (ap (position is_space) (sym same) ∙ sym ends) ∙ ap (λ l. take e l ∷ words_of (drop (e + 1) l)) (sym same))

pub word_last : (text word : List ℕ) (k : ℕ) → Some k ≡ position is_no_space text → word ≡ take (length text - k) (drop k text) → None ≡ position is_space word
    → words_of text ≡ word ∷ []
word_last text word k is cut ends =
    let same : word ≡ drop k text = cut ∙ to_end k text in
    word_unended text k (sym is) (ap (position is_space) (sym same) ∙ sym ends) ∙ ap (λ l. l ∷ []) (sym same)

pub ruleset words = (words_none)

pub feed_ends : (line rest : List ℕ) → All (λ byte. is_line_feed byte ≡ false) line → lines_of (line ++ 10 ∷ rest) ≡ without_return line ∷ lines_of rest
feed_ends line rest none =
    let after = parts_are is_line_feed rest in
    ap lines_from (slice_split_at is_line_feed line 10 rest none refl) ∙ more_lines line (slice_split is_line_feed rest) after.0 after.1 after.2

pub last_line : (line : List ℕ) → All (λ byte. is_line_feed byte ≡ false) line → 0 < length line → lines_of line ≡ line ∷ []
last_line line none some = ap lines_from (slice_split_none is_line_feed line none) ∙ one_part line some

pub return_dropped : (line : List ℕ) → without_return (line ++ 13 ∷ []) ≡ line
return_dropped line =
    let long : length (line ++ 13 ∷ []) - 1 ≡ length line = omega (arith, length-append line (13 ∷ [])) in
    let end : drop (length (line ++ 13 ∷ []) - 1) (line ++ 13 ∷ []) ≡ 13 ∷ [] = ap (λ n. drop n (line ++ 13 ∷ [])) long ∙ drop-append_seam line (13 ∷ []) in
    rw end (ap (λ n. take n (line ++ 13 ∷ [])) long ∙ take-append_seam line (13 ∷ []))

pub space_tells_nothing : (text : List ℕ) → words_of (32 ∷ text) ≡ words_of text
space_tells_nothing text = space_dropped 32 text refl

pub space_ends : (word rest : List ℕ) → All (λ byte. is_space byte ≡ false) word → 0 < length word → words_of (word ++ 32 ∷ rest) ≡ word ∷ words_of rest
space_ends word rest none some = ap (filter is_word) (slice_split_at is_space word 32 rest none refl) ∙ word_kept word (slice_split is_space rest) some

pub last_word : (word : List ℕ) → All (λ byte. is_space byte ≡ false) word → 0 < length word → words_of word ≡ word ∷ []
last_word word none some = ap (filter is_word) (slice_split_none is_space word none) ∙ word_kept word [] some
