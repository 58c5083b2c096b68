-- What a builder keeps, and what is pushed.
use Rattle.std.proofs.Common.{◌≡◌, ℕ, ◌+◌, ◌<◌, ◌≤◌, true, false, cond, leb, List, [], ◌∷◌, ◌++◌, length, drop, map, Option, Some, None, Result, Ok, Err, is_ok}
use Rattle.std.proofs.Common.{refl, sym, ◌∙◌, ap, subst, inl, inr, arith, length-append, append_assoc, eqb-true, le-leb}
use Rattle.std.specs.List.{flat_map}
use Rattle.std.specs.Result.{result_err}
use Rattle.std.proofs.lemmas.Bool.{cond-true, cond-false, lt-leb}
use Rattle.osc_atoms.specs.declared.fault.Fault.{Fault}
use Rattle.osc_atoms.specs.Atoms.{AreBytes, string, has_no_zero}
use Rattle.osc_message.specs.declared.build_fault.BuildFault.TheVariants.{TooLong}
use Rattle.osc_pattern.specs.Patterns.{IsPattern}
use Rattle.osc_message.specs.Messages.{Argument, tag_of, atom_of, Fits, AllFit, IsMessage, known, tag_string, message_text}
use Rattle.osc_message.specs.Wants.{arguments}
use Rattle.osc_message.specs.ArgumentReading.{arguments_of}
use Rattle.osc_message.specs.Reading.{brackets_read, arguments_read}
use Rattle.osc_message.specs.Tags.{Balanced}
use Rattle.osc_message.specs.Building.{pushed, finished, null_in, push_refusal, refused_null, IsKept, building_of}
use Rattle.osc_message.proofs.FirstFaults.{arguments_end_in, fault_is_read}
use Rattle.osc_message.proofs.MessageLaws.{arguments_again, known_tags, nonzero_tags, all_fours, placed_first}
use Rattle.osc_message.proofs.ArrayBrackets.{balance_seen, balance_again, bracket_fault_again}
use Rattle.osc_message.proofs.LawfulPatterns.{pattern_nonzero}

-- the arguments that the kept bytes stand for
pub record Listed (tags atoms : List ℕ) : Type 0 where
  pub listed : List Argument
  pub tagged : tags ≡ 44 ∷ map tag_of listed
  pub fit : AllFit listed
  pub parts : atoms ≡ flat_map atom_of listed
  pub is : arguments_of (drop 1 tags) atoms 0 ≡ listed

ok_silent : {X : Type 0} (r : Result X Fault) (f : Fault) → is_ok r ≡ true → result_err r ≡ Some f → ⊥
ok_silent (Ok x) f is e = cc
ok_silent (Err g) f is e = cc

pub kept_listed : (pattern tags atoms : List ℕ) → IsKept pattern tags atoms → Listed tags atoms
kept_listed pattern [] atoms kept = absurd (let e = kept.comma in cc (e))
kept_listed pattern (x ∷ tags) atoms kept =
    let placed = placed_first atoms kept.whole in
    elim (arguments_end_in atoms kept.bytes tags 0 (kept.all_known, placed)) [
      | inl found ↦ absurd
          (ok_silent (arguments_read atoms tags 0) found.fault kept.readable
          (fault_is_read atoms (arguments tags 0) found.fault (kept.all_known, placed) found.found))
      | inr all ↦
          let comma : x ≡ 44 = eqb-true x 44 kept.comma in
          record {
            listed = all.listed;
            tagged = λ i. comma i ∷ sym all.tagged i;
            fit = all.fit;
            parts = all.parts;
            is = ap (λ (t : List ℕ). arguments_of t atoms 0) (sym all.tagged) ∙ (arguments_again atoms 0 all.listed placed all.fit all.parts).1;
          }
    ]

-- arguments that fit are kept, up to the greatest size
pub kept_of : (pattern : List ℕ) (listed : List Argument) → IsPattern pattern → AllFit listed → AreBytes (flat_map atom_of listed)
    → length (string pattern) + length (tag_string (map tag_of listed)) + length (flat_map atom_of listed) ≤ 65504
    → IsKept pattern (44 ∷ map tag_of listed) (flat_map atom_of listed)
kept_of pattern listed lawful fit bytes short = record {
  lawful = lawful;
  comma = refl;
  all_known = known_tags listed;
  bytes = bytes;
  whole = all_fours listed;
  readable = ap is_ok (arguments_again (flat_map atom_of listed) 0 listed (placed_first (flat_map atom_of listed) (all_fours listed)) fit refl).0;
  short = short;
}

map_push : (listed : List Argument) (argument : Argument) → map tag_of (listed ++ argument ∷ []) ≡ map tag_of listed ++ tag_of argument ∷ []
map_push [] argument = refl
map_push (first ∷ listed) argument = ap (λ (l : List ℕ). tag_of first ∷ l) (map_push listed argument)

append_nil : (l : List ℕ) → l ++ [] ≡ l
append_nil [] = refl
append_nil (x ∷ l) = ap (λ (r : List ℕ). x ∷ r) (append_nil l)

atoms_push : (listed : List Argument) (argument : Argument) → flat_map atom_of (listed ++ argument ∷ []) ≡ flat_map atom_of listed ++ atom_of argument
atoms_push [] argument = append_nil (atom_of argument)
atoms_push (first ∷ listed) argument =
    ap (λ (l : List ℕ). atom_of first ++ l) (atoms_push listed argument) ∙ sym (append_assoc (atom_of first) (flat_map atom_of listed) (atom_of argument))

fit_push : (listed : List Argument) (argument : Argument) → AllFit listed → Fits argument → AllFit (listed ++ argument ∷ [])
fit_push [] argument fit one = (one, tt)
fit_push (first ∷ listed) argument fit one = (fit.0, fit_push listed argument fit.1 one)

-- with one more argument
pub record Pushed (pattern tags atoms new_tags new_atoms : List ℕ) (argument : Argument) : Type 0 where
  pub kept : IsKept pattern new_tags new_atoms
  pub stands : building_of pattern new_tags new_atoms ≡ pushed (building_of pattern tags atoms) argument

pub pushed_on : (pattern tags atoms new_tags new_atoms : List ℕ) (argument : Argument) → AreBytes new_atoms → IsKept pattern tags atoms → Fits argument
    → new_tags ≡ tags ++ tag_of argument ∷ [] → new_atoms ≡ atoms ++ atom_of argument
    → length (string pattern) + length (string (tags ++ tag_of argument ∷ [])) + length atoms + length (atom_of argument) ≤ 65504
    → Pushed pattern tags atoms new_tags new_atoms argument
pushed_on pattern tags atoms new_tags new_atoms argument small kept fits tags_are atoms_are short =
    let old = kept_listed pattern tags atoms kept in
    let listed : List Argument = old.listed ++ argument ∷ [] in
    let fit = fit_push old.listed argument old.fit fits in
    let all_tags : tags ++ tag_of argument ∷ [] ≡ 44 ∷ map tag_of listed =
    ap (λ (l : List ℕ). l ++ tag_of argument ∷ []) old.tagged ∙ ap (λ (l : List ℕ). 44 ∷ l) (sym (map_push old.listed argument)) in
    let all_atoms : atoms ++ atom_of argument ≡ flat_map atom_of listed =
    ap (λ (l : List ℕ). l ++ atom_of argument) old.parts ∙ sym (atoms_push old.listed argument) in
    let sized : length (flat_map atom_of listed) ≡ length atoms + length (atom_of argument) =
    ap length (sym all_atoms) ∙ length-append atoms (atom_of argument) in
    let tag_size : length (tag_string (map tag_of listed)) ≡ length (string (tags ++ tag_of argument ∷ [])) =
    ap (λ (l : List ℕ). length (string l)) (sym all_tags) in
    let whole = kept_of pattern listed kept.lawful fit (subst AreBytes (atoms_are ∙ all_atoms) small) (omega arith) in
    let new_kept : IsKept pattern new_tags new_atoms =
    subst (λ (t : List ℕ). IsKept pattern t new_atoms) (sym (tags_are ∙ all_tags))
    (subst (λ (a : List ℕ). IsKept pattern (44 ∷ map tag_of listed) a) (sym (atoms_are ∙ all_atoms)) whole) in
    let read : arguments_of (map tag_of listed) (flat_map atom_of listed) 0 ≡ listed =
    (arguments_again (flat_map atom_of listed) 0 listed (placed_first (flat_map atom_of listed) (all_fours listed)) fit refl).1 in
    let new_read : arguments_of (drop 1 new_tags) new_atoms 0 ≡ arguments_of (drop 1 tags) atoms 0 ++ argument ∷ [] =
    ap (λ (t : List ℕ). arguments_of (drop 1 t) new_atoms 0) (tags_are ∙ all_tags)
    ∙ ap (λ (a : List ℕ). arguments_of (map tag_of listed) a 0) (atoms_are ∙ all_atoms) ∙ read
    ∙ ap (λ (l : List Argument). l ++ argument ∷ []) (sym old.is) in
    record { kept = new_kept; stands = λ i. record { pattern = pattern; arguments = new_read i } }

-- the size of the finished message
finished_size_is : (pattern tags atoms : List ℕ) (argument : Argument) → IsKept pattern tags atoms
    → length (message_text (finished (pushed (building_of pattern tags atoms) argument)))
    ≡ length (string pattern) + length (string (tags ++ tag_of argument ∷ [])) + length atoms + length (atom_of argument)
finished_size_is pattern tags atoms argument kept =
    let old = kept_listed pattern tags atoms kept in
    let now : List Argument = arguments_of (drop 1 tags) atoms 0 ++ argument ∷ [] in
    let now_is : now ≡ old.listed ++ argument ∷ [] = ap (λ (l : List Argument). l ++ argument ∷ []) old.is in
    let all_tags : 44 ∷ map tag_of now ≡ tags ++ tag_of argument ∷ [] =
    ap (λ (l : List Argument). 44 ∷ map tag_of l) now_is ∙ ap (λ (l : List ℕ). 44 ∷ l) (map_push old.listed argument)
    ∙ ap (λ (l : List ℕ). l ++ tag_of argument ∷ []) (sym old.tagged) in
    let all_atoms : flat_map atom_of now ≡ atoms ++ atom_of argument =
    ap (flat_map atom_of) now_is ∙ atoms_push old.listed argument ∙ ap (λ (l : List ℕ). l ++ atom_of argument) (sym old.parts) in
    let whole : length (message_text (known pattern now)) ≡ length (string pattern) + length (tag_string (map tag_of now) ++ flat_map atom_of now) =
    length-append (string pattern) (tag_string (map tag_of now) ++ flat_map atom_of now) in
    let behind : length (tag_string (map tag_of now) ++ flat_map atom_of now) ≡ length (tag_string (map tag_of now)) + length (flat_map atom_of now) =
    length-append (tag_string (map tag_of now)) (flat_map atom_of now) in
    let tag_size : length (tag_string (map tag_of now)) ≡ length (string (tags ++ tag_of argument ∷ [])) = ap (λ (l : List ℕ). length (string l)) all_tags in
    let atom_size : length (flat_map atom_of now) ≡ length atoms + length (atom_of argument) = ap length all_atoms ∙ length-append atoms (atom_of argument) in
    omega arith

pub refused_long : (pattern tags atoms : List ℕ) (argument : Argument) → IsKept pattern tags atoms → null_in argument ≡ None
    → 65504 < length (string pattern) + length (string (tags ++ tag_of argument ∷ [])) + length atoms + length (atom_of argument)
    → push_refusal (building_of pattern tags atoms) argument ≡ Some TooLong
refused_long pattern tags atoms argument kept none long =
    let size : ℕ = length (message_text (finished (pushed (building_of pattern tags atoms) argument))) in
    let is = finished_size_is pattern tags atoms argument kept in
    ap (λ (o : Option ℕ). refused_null o (cond (leb size 65504) None (Some TooLong))) none
    ∙ cond-false (leb size 65504) None (Some TooLong) (lt-leb size 65504 (omega (arith, is)))

pub not_refused : (pattern tags atoms : List ℕ) (argument : Argument) → IsKept pattern tags atoms → null_in argument ≡ None
    → length (string pattern) + length (string (tags ++ tag_of argument ∷ [])) + length atoms + length (atom_of argument) ≤ 65504
    → push_refusal (building_of pattern tags atoms) argument ≡ None
not_refused pattern tags atoms argument kept none short =
    let size : ℕ = length (message_text (finished (pushed (building_of pattern tags atoms) argument))) in
    let is = finished_size_is pattern tags atoms argument kept in
    ap (λ (o : Option ℕ). refused_null o (cond (leb size 65504) None (Some TooLong))) none
    ∙ cond-true (leb size 65504) None (Some TooLong) (le-leb size 65504 (omega (arith, is)))

-- the tags are those of the arguments
tags_kept : (pattern tags atoms : List ℕ) → IsKept pattern tags atoms → map tag_of (arguments_of (drop 1 tags) atoms 0) ≡ drop 1 tags
tags_kept pattern tags atoms kept = let old = kept_listed pattern tags atoms kept in ap (map tag_of) old.is ∙ ap (drop 1) (sym old.tagged)

pub unbalanced : (pattern tags atoms : List ℕ) → IsKept pattern tags atoms → is_ok (brackets_read 0 0 (drop 1 tags) 0) ≡ false
    → Balanced (map tag_of (arguments_of (drop 1 tags) atoms 0)) → ⊥
unbalanced pattern tags atoms kept failed balanced =
    no_error (brackets_read 0 0 (drop 1 tags) 0) failed (balance_again 0 (drop 1 tags) (subst Balanced (tags_kept pattern tags atoms kept) balanced))
  where
    no_error : (r : Result (Unit {0}) Fault) → is_ok r ≡ false → r ≡ Ok tt → ⊥
    no_error r is ok = cc

pub balanced : (pattern tags atoms : List ℕ) → IsKept pattern tags atoms → is_ok (brackets_read 0 0 (drop 1 tags) 0) ≡ true
    → Balanced (map tag_of (arguments_of (drop 1 tags) atoms 0))
balanced pattern tags atoms kept passed = elim (balance_seen 0 (drop 1 tags)) [
  | inl even ↦ subst Balanced (sym (tags_kept pattern tags atoms kept)) even
  | inr fault ↦ absurd (error (brackets_read 0 0 (drop 1 tags) 0) fault.0 passed (bracket_fault_again 0 (drop 1 tags) fault.0 fault.1))
]
  where
    error : (r : Result (Unit {0}) Fault) (f : Fault) → is_ok r ≡ true → r ≡ Err f → ⊥
    error r f is e = cc

pub nonzero_pattern : (pattern tags atoms : List ℕ) → IsKept pattern tags atoms → has_no_zero pattern ≡ true
nonzero_pattern pattern tags atoms kept = pattern_nonzero pattern kept.lawful

pub nonzero_kept : (pattern tags atoms : List ℕ) → IsKept pattern tags atoms → has_no_zero tags ≡ true
nonzero_kept pattern tags atoms kept =
    let old = kept_listed pattern tags atoms kept in
    let first : has_no_zero (44 ∷ map tag_of old.listed) ≡ true = nonzero_tags old.listed in
    ap has_no_zero old.tagged ∙ first

-- the kept bytes, put together, are the message's text
pub finished_text : (pattern tags atoms : List ℕ) → IsKept pattern tags atoms
    → string pattern ++ (string tags ++ atoms) ≡ message_text (finished (building_of pattern tags atoms))
finished_text pattern tags atoms kept =
    let old = kept_listed pattern tags atoms kept in
    ap (λ (t : List ℕ). string pattern ++ (string t ++ atoms)) old.tagged
    ∙ ap (λ (a : List ℕ). string pattern ++ (tag_string (map tag_of old.listed) ++ a)) old.parts
    ∙ ap (λ (l : List Argument). message_text (known pattern l)) (sym old.is)

pub finished_message : (pattern tags atoms : List ℕ) → IsKept pattern tags atoms → is_ok (brackets_read 0 0 (drop 1 tags) 0) ≡ true
    → IsMessage 65504 (string pattern ++ (string tags ++ atoms))
finished_message pattern tags atoms kept passed =
    let old = kept_listed pattern tags atoms kept in
    let short = kept.short in
    let long : length (string pattern ++ (string tags ++ atoms)) ≡ length (string pattern) + (length (string tags) + length atoms) =
    length-append (string pattern) (string tags ++ atoms) ∙ ap (λ (n : ℕ). length (string pattern) + n) (length-append (string tags) atoms) in
    record {
      form = finished (building_of pattern tags atoms);
      lawful = (kept.lawful, subst AllFit (sym old.is) old.fit, balanced pattern tags atoms kept passed);
      spelled = finished_text pattern tags atoms kept;
      short = omega arith;
    }
