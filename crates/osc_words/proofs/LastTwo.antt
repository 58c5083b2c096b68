-- The files of a `resume` are its last two words.
use Rattle.std.proofs.Common.{◌≡◌, ◌∙◌, ℕ, ◌+◌, Bool, true, false, cond, nat_le, List, Option, Some, None, refl, sym, ap, codes}
use Rattle.std.specs.Prelude.{◌&&◌, option_and_then, option_map}
use Rattle.std.specs.Option.{option_map_or}
use Rattle.std.specs.Str.{bytes_eq}
use Rattle.std.proofs.lemmas.Bool.{and_parts}
use Rattle.std.proofs.lemmas.Slice.Eq.{bytes_eq-Decides}
use Rattle.clap.specs.Words.{Row, first_of}
use Rattle.osc_words.specs.Names.{before_last_two, last_two}
use Rattle.osc_words.specs.Reading.{are_options, found_by}
use Rattle.osc_words.specs.Commands.{EndsInFiles, are_last_two, caps_of, command_of, first_verb, gen_of, is_found, number_of, plain_by, resume_command_of, resume_in}
use Rattle.osc_words.specs.Commands.{said_by, said_in, serve_from, stands_in_place, transport_of}
use Rattle.osc_words.specs.declared.options.Quantity.TheVariants.{Port, Links, Count, Idle}
use Rattle.osc_words.specs.declared.verb.Verb.{Verb}
use Rattle.osc_words.specs.declared.verb.Verb.TheVariants.{Run, Replay, Dump, Upgrade, Score, Gen, Lanes, Serve, Resume}
use Rattle.osc_words.specs.declared.command.TheConstants.{PORTS}
use Rattle.osc_words.specs.declared.command.Capacities.{Capacities}
use Rattle.osc_words.specs.declared.command.Transport.{Transport}
use Rattle.osc_words.specs.declared.command.ResumeCommand.{ResumeCommand}
use Rattle.osc_words.specs.declared.command.Command.{Command}
use Rattle.osc_words.specs.declared.command.Command.TheVariants.{Live, Plain}
use Rattle.osc_words.specs.declared.command.PlainCommand.{PlainCommand}
use Rattle.osc_words.specs.declared.command.LiveCommand.{LiveCommand}
use Rattle.osc_words.specs.declared.command.LiveCommand.TheVariants as live

no_caps : (f : Capacities → Command) (caps : Option Capacities) (command : ResumeCommand) → ((c : Capacities) → resume_in (f c) ≡ None)
    → option_and_then resume_in (option_map f caps) ≡ Some command → ⊥
no_caps f None command other is = cc
no_caps f (Some caps) command other is = cc (sym (other caps) ∙ is)

no_plain : (plain : Option PlainCommand) (command : ResumeCommand) → option_and_then resume_in (option_map Plain plain) ≡ Some command → ⊥
no_plain None command is = cc
no_plain (Some plain) command is = cc

no_live : (t : Bool) (said : LiveCommand) (command : ResumeCommand) → option_and_then resume_in (cond t (Some (Live said)) None) ≡ Some command → ⊥
no_live true said command is = cc
no_live false said command is = cc

no_serve : (carried : Transport) (a b c d : Option ℕ) (e : Option Capacities) (command : ResumeCommand)
    → option_and_then resume_in (serve_from carried a b c d e) ≡ Some command → ⊥
no_serve carried None b c d e command is = cc
no_serve carried (Some a) None c d e command is = cc
no_serve carried (Some a) (Some b) None d e command is = cc
no_serve carried (Some a) (Some b) (Some c) None e command is = cc
no_serve carried (Some a) (Some b) (Some c) (Some d) None command is = cc
no_serve carried (Some a) (Some b) (Some c) (Some d) (Some e) command is =
    no_live (nat_le (a + b) PORTS) (live.Serve carried a b c d e) command is

found_is : (text : Option (List ℕ)) (word : List ℕ) → option_map_or (λ t. bytes_eq t word) text false ≡ true → text ≡ Some word
found_is None word e = absurd (cc)
found_is (Some text) word e = ap (λ (t : List ℕ). Some t) ((bytes_eq-Decides text word).0 e)

files_stand : (words : List (List ℕ)) (rows : List Row) → found_by Resume words ≡ Some rows → stands_in_place Resume words rows ≡ true → EndsInFiles words
files_stand words rows found stands = go (last_two words) refl parts.0 where
  parts : (are_last_two words rows ≡ true) × (are_options (before_last_two words) ≡ true)
  parts = and_parts (are_last_two words rows) (are_options (before_last_two words)) stands

  go : (both : Option (List ℕ × List ℕ)) → last_two words ≡ both
      → option_map_or (λ b. is_found (codes "OLD") b.0 rows && is_found (codes "FILE") b.1 rows) both false ≡ true → EndsInFiles words
  go None last e = absurd (cc)
  go (Some (old, file)) last e =
      let each = and_parts (is_found (codes "OLD") old rows) (is_found (codes "FILE") file rows) e in
      record {
        rows = rows;
        old = old;
        file = file;
        found = found;
        last = last;
        is_old = found_is (first_of (codes "OLD") rows) old each.0;
        is_file = found_is (first_of (codes "FILE") rows) file each.1;
        options = parts.1;
      }

by_verb : (words : List (List ℕ)) (verb : Verb) (rows : List Row) (command : ResumeCommand) → found_by verb words ≡ Some rows
    → option_and_then resume_in (said_in words verb rows) ≡ Some command → EndsInFiles words
by_verb words Run rows command found is = absurd (no_plain (plain_by Run rows) command is)
by_verb words Replay rows command found is = absurd (cc)
by_verb words Dump rows command found is = absurd (cc)
by_verb words Upgrade rows command found is = absurd (cc)
by_verb words Score rows command found is = absurd (cc)
by_verb words Gen rows command found is = absurd (no_plain (gen_of rows) command is)
by_verb words Lanes rows command found is = absurd (no_caps _ (caps_of rows) command (λ c. refl) is)
by_verb words Serve rows command found is = absurd
    (no_serve (transport_of rows) (number_of Port rows) (number_of Links rows) (number_of Count rows) (number_of Idle rows) (caps_of rows) command is)
by_verb words Resume rows command found is = go (stands_in_place Resume words rows) refl is where
  go : (t : Bool) → stands_in_place Resume words rows ≡ t → option_and_then resume_in (cond t (said_by Resume rows) None) ≡ Some command → EndsInFiles words
  go true stands is = files_stand words rows found stands
  go false stands is = absurd (cc)

pub files_are_last : (words : List (List ℕ)) (command : ResumeCommand) → resume_command_of words ≡ Some command → EndsInFiles words
unfolding command_of
files_are_last words command is = first (first_verb words) is where
  second : (verb : Verb) (rows : Option (List Row)) → found_by verb words ≡ rows
      → option_and_then resume_in (option_and_then (said_in words verb) rows) ≡ Some command → EndsInFiles words
  second verb None found is = absurd (cc)
  second verb (Some rows) found is = by_verb words verb rows command found is

  first : (verb : Option Verb)
      → option_and_then resume_in (option_and_then (λ v. option_and_then (said_in words v) (found_by v words)) verb) ≡ Some command → EndsInFiles words
  first None is = absurd (cc)
  first (Some verb) is = second verb (found_by verb words) refl is

pub ruleset last_two_files = (files_are_last)
