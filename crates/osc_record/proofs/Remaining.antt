-- What is left of a recording that is read entry by entry.
use Rattle.std.proofs.Common.{◌≡◌, ℕ, ◌+◌, ◌<◌, ◌≤◌, List, [], ◌∷◌, ◌++◌, length, drop, Some, None, false, ◌==◌, refl, sym, ap, subst, ◌∙◌, arith, length-drop}
use Rattle.std.proofs.lemmas.Option.{none-some}
use Rattle.osc_atoms.specs.Atoms.{AreBytes}
use Rattle.osc_atoms.proofs.AllBytes.{rest_bytes}
use Rattle.osc_model.specs.Limits.{Limits, header_size}
use Rattle.osc_model.specs.Events.{Entry as Recorded}
use Rattle.osc_model.specs.Recordings.{entry_text, header_text}
use Rattle.osc_record.specs.declared.version.Version.TheVariants.{Second}
use Rattle.osc_record.specs.Reading.{entry_first, header_read}
use Rattle.osc_record.specs.Unread.{Remaining, HasHeader, Reads, HasNoNext}
use Rattle.osc_record.proofs.Again.{first_more, entry_first_again}
use Rattle.osc_record.proofs.EntriesRead.{entry_first_was, header_first_was}

abbrev pub from : Limits → ℕ → List ℕ → Remaining
from caps at rest = record { caps = caps; at = at; rest = rest }

-- the header is read
pub opened : (bytes : List ℕ) (caps : Limits) (rest : List ℕ) → AreBytes bytes → header_read Second bytes ≡ Some caps → rest ≡ drop header_size bytes
    → HasHeader bytes (from caps header_size rest)
opened bytes caps rest small header is =
    let first = header_first_was Second bytes caps small header in
    record { lawful = first.range; text = first.text ∙ ap (λ (l : List ℕ). header_text caps ++ l) (sym is); at_is = refl }

-- one entry more is read
pub read_one : (caps : Limits) (at : ℕ) (rest more : List ℕ) (entry : Recorded) (size : ℕ) → AreBytes rest → at + length rest ≤ 1073741824
    → entry_first Second caps.recording at rest ≡ Some (entry, size) → more ≡ drop size rest
    → Reads (from caps at rest) (record { at = at; entry = entry }) (from caps (at + size) more)
read_one caps at rest more entry size all small found is =
    let was = entry_first_was Second caps.recording at rest (entry, size) all found in
    let within = was.within in
    let bounds = first_more Second caps.recording at rest [] (entry, size) found in
    record {
      at_is = refl;
      recordable = was.lawful;
      text = was.text ∙ ap (λ (l : List ℕ). entry_text entry.caller entry.event entry.answer ++ l) (sym is);
      moved = ap (λ (n : ℕ). at + n) (sym was.size);
      within = within;
      caps_stay = refl;
      small = small;
      shorter = omega (arith, ap length is, length-drop size rest, bounds.1, bounds.2);
    }

-- no entry stands first
pub none_next : (caps : Limits) (at : ℕ) (rest : List ℕ) → caps.recording ≤ 1073741824 → 0 < length rest → entry_first Second caps.recording at rest ≡ None
    → HasNoNext (from caps at rest) at
none_next caps at rest below some none = record {
  at_is = refl;
  some = some;
  none = λ entry more recordable fits same.
      none-some (entry, length (entry_text entry.caller entry.event entry.answer))
      (sym none ∙ ap (entry_first Second caps.recording at) same
      ∙ entry_first_again Second entry.caller entry.event entry.answer more caps.recording at recordable fits below);
}

-- bytes that aren't none
pub filled : (rest : List ℕ) → (length rest == 0) ≡ false → 0 < length rest
filled [] is = absurd (cc)
filled (byte ∷ rest) is = omega arith

-- what is behind some bytes is bytes
pub rest_kept : (size : ℕ) (bytes rest : List ℕ) → AreBytes bytes → rest ≡ drop size bytes → AreBytes rest
rest_kept size bytes rest all is = subst AreBytes (sym is) (rest_bytes size bytes all)
