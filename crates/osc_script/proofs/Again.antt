-- Each line that is written is read as its act.
use Rattle.osc_script.specs.declared.script.TheConstants.{MAX_SCRIPT}
use Rattle.std.proofs.Common.{◌≡◌, ◌∙◌, ℕ, ◌+◌, ◌<◌, ◌≤◌, true, false, cond, nat_lt, List, [], ◌∷◌, ◌++◌, map, length, Some, refl, ap, ap₂, arith, append_assoc}
use Rattle.std.proofs.Common.{codes, Option, Result, Ok, Err}
use Rattle.std.specs.Prelude.{◌&&◌}
use Rattle.std.specs.List.{AllByRecursion, list_all}
use Rattle.std.proofs.lemmas.Bool.{le-ltb}
use Rattle.std.proofs.lemmas.List.Folds.{list_all-append}
use Rattle.hex.specs.Hex.{encode_lower, lower_digits}
use Rattle.hex.proofs.HexLemmas.{length-encode_with}
use Rattle.osc_atoms.specs.Atoms.{tag}
use Rattle.osc_pattern.specs.Addresses.{is_address}
use Rattle.osc_script.specs.Acts.{act_of, address_of, and_then}
use Rattle.osc_script.specs.Scripts.{line_says, line_from, on_lane, onto, script_from, said_of, script_of, words_by}
use Rattle.osc_script.specs.Words.{lines_of, words_of}
use Rattle.osc_script.specs.declared.act.Act.{Act}
use Rattle.osc_script.specs.declared.said.Said.{Said}
use Rattle.osc_script.specs.declared.act.Act.TheVariants.{Add, Remove, Send, Tick, Pump}
use Rattle.osc_script.specs.declared.fault.ScriptFaultKind.{ScriptFaultKind}
use Rattle.osc_script.specs.declared.fault.ScriptFaultKind.TheVariants as kinds
use Rattle.osc_script.specs.declared.mode.Mode.TheVariants.{Plain}
use Rattle.osc_script.proofs.Cutting.{feed_ends, space_ends, last_word}
use Rattle.osc_script.proofs.Operands.{lower_again, moment_again}
use Rattle.osc_script.specs.Written.{IsWritable, act_text, numbered, written}
use Rattle.osc_script.proofs.Inked.{is_inked, is_inside, all_inside, no_spaces, no_feeds, kept_whole, digits_inked, address_inked, moment_bytes}

-- a word and an operand, of inked bytes
two_words : (word operand : List ℕ) → list_all is_inked word ≡ true → 0 < length word → list_all is_inked operand ≡ true → 0 < length operand
    → words_of (word ++ 32 ∷ operand) ≡ word ∷ operand ∷ []
two_words word operand first some second more =
    space_ends word operand (no_spaces word first) some ∙ ap (λ words. word ∷ words) (last_word operand (no_spaces operand second) more)

two_inside : (word operand : List ℕ) → list_all is_inked word ≡ true → list_all is_inked operand ≡ true → list_all is_inside (word ++ 32 ∷ operand) ≡ true
two_inside word operand first second =
    list_all-append is_inside word (32 ∷ operand) ∙ ap₂ (λ a b. a && b) (all_inside word first) (all_inside operand second)

-- what a line says, and that it is one line
record Reads (act : Act) : Type 0 where
  says : line_says Plain (act_text act) ≡ Ok (Some (record { lane = 0; act = act }))
  inside : list_all is_inside (act_text act) ≡ true

digits_some : (bytes : List ℕ) → 0 < length bytes → 0 < length (encode_lower bytes)
digits_some bytes some = omega (arith, length-encode_with lower_digits bytes)

address_read : (address : List ℕ) → is_address address ≡ true → address_of (address ∷ []) ≡ Ok address
address_read address is = ap (λ b. cond b (Ok address) (Err kinds.Address)) is

-- what a line of an act says
abbrev spoken : Result Act ScriptFaultKind → Result (Option Said) ScriptFaultKind
spoken read = and_then (on_lane 0 read) (λ said. Ok (Some said))

each_read : (act : Act) → IsWritable act → Reads act
unfolding act_of
each_read (Add address) is =
    let inked = address_inked address is in
    record {
      says = ap (words_by (said_of Plain)) (two_words (codes "add") address refl (omega arith) inked.0 inked.1)
          ∙ ap (λ r. spoken (and_then r (λ address. Ok (Add address)))) (address_read address is);
      inside = two_inside (codes "add") address refl inked.0;
    }
each_read (Remove address) is =
    let inked = address_inked address is in
    record {
      says = ap (words_by (said_of Plain)) (two_words (codes "remove") address refl (omega arith) inked.0 inked.1)
          ∙ ap (λ r. spoken (and_then r (λ address. Ok (Remove address)))) (address_read address is);
      inside = two_inside (codes "remove") address refl inked.0;
    }
each_read (Send packet) is =
    let inked = digits_inked packet is.0 in
    record {
      says = ap (words_by (said_of Plain)) (two_words (codes "send") (encode_lower packet) refl (omega arith) inked (digits_some packet is.1))
          ∙ ap (λ r. spoken (and_then r (λ packet. Ok (Send packet)))) (lower_again packet is.0);
      inside = two_inside (codes "send") (encode_lower packet) refl inked;
    }
each_read (Tick moment) is =
    let inked = digits_inked (tag moment) (moment_bytes moment) in
    record {
      says = ap (words_by (said_of Plain)) (two_words (codes "tick") (encode_lower (tag moment)) refl (omega arith) inked (digits_some (tag moment) (omega arith)))
          ∙ ap (λ r. spoken (and_then r (λ moment. Ok (Tick moment)))) (moment_again moment is);
      inside = two_inside (codes "tick") (encode_lower (tag moment)) refl inked;
    }
each_read Pump is = record { says = refl; inside = refl }

lines_are : (acts : List Act) → AllByRecursion IsWritable acts → lines_of (written acts) ≡ map act_text acts
lines_are [] all = refl
lines_are (act ∷ acts) all =
    let read = each_read act all.0 in
    ap lines_of (append_assoc (act_text act) (10 ∷ []) (written acts))
    ∙ feed_ends (act_text act) (written acts) (no_feeds (act_text act) read.inside)
    ∙ ap₂ (λ line lines. line ∷ lines) (kept_whole (act_text act) read.inside) (lines_are acts all.1)

all_read : (acts : List Act) (number : ℕ) → AllByRecursion IsWritable acts → script_from Plain number (map act_text acts) ≡ Ok (numbered number acts)
all_read [] number all = refl
all_read (act ∷ acts) number all =
    ap₂ onto (ap (line_from number) (each_read act all.0).says) (all_read acts (number + 1) all.1)

pub script_again : (acts : List Act) → AllByRecursion IsWritable acts → length (written acts) ≤ MAX_SCRIPT
    → script_of Plain (written acts) ≡ Ok (numbered 1 acts)
script_again acts all short =
    let fits : nat_lt MAX_SCRIPT (length (written acts)) ≡ false = le-ltb MAX_SCRIPT (length (written acts)) short in
    ap (λ b. cond b (Err (record { line = 0; kind = 1 })) (script_from Plain 1 (lines_of (written acts)))) fits
    ∙ ap (script_from Plain 1) (lines_are acts all) ∙ all_read acts 1 all
