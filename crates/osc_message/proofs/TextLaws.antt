-- What the texts of messages are read as, and that no two messages have one.
use Rattle.std.proofs.Common.{◌≡◌, ℕ, false, List, [], ◌∷◌, drop, map, None, option_and_then, refl, sym, ◌∙◌, ap}
use Rattle.std.specs.Prelude.{find}
use Rattle.std.specs.List.{list_any, flat_map}
use Rattle.std.specs.Option.{option_map_or}
use Rattle.std.proofs.lemmas.Bool.{cond-true, cond-false, both_ways}
use Rattle.std.proofs.lemmas.Option.{same_Some, none-some}
use Rattle.osc_message.specs.Tags.{is_unknown}
use Rattle.osc_message.specs.Messages.{Argument, tag_of, atom_of, Form, bare, known, unknown, IsLawful, message_text}
use Rattle.osc_message.specs.Reading.{parts_of, pattern_of}
use Rattle.osc_message.specs.Arguments.{tags_of, unknown_of, arguments_in, message_arguments}
use Rattle.osc_message.proofs.MessageLaws.{arguments_again, known_tags, parts_in, parts_again, behind_tags, text_fours, placed_first}
use Rattle.osc_message.proofs.Steps.{known_head}
use Rattle.osc_message.proofs.Patterns.{pattern_read}

pub pattern_again : (form : Form) → IsLawful form → pattern_of (message_text form) ≡ (parts_in 0 form).pattern
pattern_again form lawful = sym (pattern_read (message_text form) (parts_in 0 form) (parts_again form lawful))

pub tags_again : (form : Form) → IsLawful form → tags_of (message_text form) ≡ (parts_in 0 form).tags
tags_again form lawful = ap (option_and_then (λ parts. parts.tags)) (parts_again form lawful)

pub none_unknown : (tags : List ℕ) → list_any is_unknown tags ≡ false → find is_unknown tags ≡ None
none_unknown [] none = refl
none_unknown (tag ∷ tags) none = let both = known_head tag tags none in cond-false _ _ _ both.0 ∙ none_unknown tags both.1

pub unknown_again : (pattern : List ℕ) (listed : List Argument) → IsLawful (known pattern listed) → unknown_of (message_text (known pattern listed)) ≡ None
unknown_again pattern listed lawful =
    ap (option_and_then (λ tags. find is_unknown tags)) (tags_again (known pattern listed) lawful) ∙ none_unknown (map tag_of listed) (known_tags listed)

arguments_from : (form : Form) → IsLawful form → message_arguments (message_text form) ≡ arguments_in (message_text form) (parts_in 0 form)
arguments_from form lawful = ap (λ p. option_map_or (arguments_in (message_text form)) p []) (parts_again form lawful)

pub bare_arguments : (pattern : List ℕ) → IsLawful (bare pattern) → message_arguments (message_text (bare pattern)) ≡ []
bare_arguments pattern lawful = arguments_from (bare pattern) lawful

pub known_arguments_again : (pattern : List ℕ) (listed : List Argument) → IsLawful (known pattern listed)
    → message_arguments (message_text (known pattern listed)) ≡ listed
known_arguments_again pattern listed lawful =
    let bytes : List ℕ = message_text (known pattern listed) in
    let start = placed_first bytes (text_fours (known pattern listed) lawful) in
    let last = behind_tags bytes 0 pattern (map tag_of listed) (flat_map atom_of listed) start refl in
    arguments_from (known pattern listed) lawful
    ∙ cond-false _ _ _ (known_tags listed)
    ∙ (arguments_again bytes (parts_in 0 (known pattern listed)).place listed last.0 lawful.1 last.1).1

pub unknown_arguments_again : (pattern tags rest : List ℕ) → IsLawful (unknown pattern tags rest)
    → message_arguments (message_text (unknown pattern tags rest)) ≡ []
unknown_arguments_again pattern tags rest lawful = arguments_from (unknown pattern tags rest) lawful ∙ cond-true _ _ _ lawful.2

-- the bytes after the tags
rest_of : List ℕ → List ℕ
rest_of bytes = option_map_or (λ parts. drop parts.place bytes) (parts_of bytes) []

rest_again : (pattern tags rest : List ℕ) → IsLawful (unknown pattern tags rest) → rest_of (message_text (unknown pattern tags rest)) ≡ rest
unfolding rest_of
rest_again pattern tags rest lawful =
    let bytes : List ℕ = message_text (unknown pattern tags rest) in
    let start = placed_first bytes (text_fours (unknown pattern tags rest) lawful) in
    ap (λ p. option_map_or (λ parts. drop parts.place bytes) p []) (parts_again (unknown pattern tags rest) lawful)
    ∙ (behind_tags bytes 0 pattern tags rest start refl).1

pub texts_differ : (one other : Form) → IsLawful one → IsLawful other → message_text one ≡ message_text other → one ≡ other
texts_differ one other lawful_one lawful_other same = go one other lawful_one lawful_other same patterns tags where
  patterns : (parts_in 0 one).pattern ≡ (parts_in 0 other).pattern
  patterns = sym (pattern_again one lawful_one) ∙ ap pattern_of same ∙ pattern_again other lawful_other

  tags : (parts_in 0 one).tags ≡ (parts_in 0 other).tags
  tags = sym (tags_again one lawful_one) ∙ ap tags_of same ∙ tags_again other lawful_other

  go : (a b : Form) → IsLawful a → IsLawful b → message_text a ≡ message_text b → (parts_in 0 a).pattern ≡ (parts_in 0 b).pattern
      → (parts_in 0 a).tags ≡ (parts_in 0 b).tags → a ≡ b
  go (bare p) (bare q) la lb s ps ts = ap bare ps
  go (bare p) (known q m) la lb s ps ts = absurd (none-some (map tag_of m) ts)
  go (bare p) (unknown q t r) la lb s ps ts = absurd (none-some t ts)
  go (known p l) (bare q) la lb s ps ts = absurd (none-some (map tag_of l) (sym ts))
  go (known p l) (known q m) la lb s ps ts =
      let listed : l ≡ m = sym (known_arguments_again p l la) ∙ ap message_arguments s ∙ known_arguments_again q m lb in
      λ i. known (ps i) (listed i)
  go (known p l) (unknown q t r) la lb s ps ts =
      absurd (both_ways (list_any is_unknown t) (ap (list_any is_unknown) (sym (same_Some (map tag_of l) t ts)) ∙ known_tags l) lb.2)
  go (unknown p t r) (bare q) la lb s ps ts = absurd (none-some t (sym ts))
  go (unknown p t r) (known q m) la lb s ps ts =
      absurd (both_ways (list_any is_unknown t) (ap (list_any is_unknown) (same_Some t (map tag_of m) ts) ∙ known_tags m) la.2)
  go (unknown p t r) (unknown q u v) la lb s ps ts =
      let tagged : t ≡ u = same_Some t u ts in
      let rests : r ≡ v = sym (rest_again p t r la) ∙ ap rest_of s ∙ rest_again q u v lb in
      λ i. unknown (ps i) (tagged i) (rests i)
