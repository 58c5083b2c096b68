-- What a check answers, by the recording that is read.
use Rattle.std.proofs.Common.{◌≡◌, ℕ, List, drop, true, Some, None, Ok, Err, Result, Option, refl, sym, ap, ◌∙◌}
use Rattle.std.specs.Prelude.{IsTrue, is_ok, ⊤}
use Rattle.std.specs.List.{flat_map}
use Rattle.osc_model.specs.Limits.{Limits}
use Rattle.osc_model.specs.Events.{Entry as Recorded}
use Rattle.osc_record.specs.declared.version.Version.{Version}
use Rattle.osc_record.specs.Versions.{header_size_of, text_in, record_text_in}
use Rattle.osc_record.specs.Reading.{Placed, entries_at, entries_after, outcome, placed_in, header_read, with_entries, record_read, placed_by, IsRecordIn}
use Rattle.osc_record.proofs.Walks.{after_is}
use Rattle.osc_record.proofs.Readings.{header_again, record_again}
use Rattle.osc_record.proofs.Again.{ok_is}

ok_entries : (limits : Limits) (r : Result (List Placed) ℕ) → Ok tt ≡ outcome r → is_ok r ≡ true
ok_entries limits (Ok entries) is = refl
ok_entries limits (Err at) is = absurd (cc)

-- the entries are read where a walk ends well
pub read_after : (version : Version) (limits : Limits) (bytes : List ℕ)
    → Ok tt ≡ outcome (entries_at version limits.recording (header_size_of version) (drop (header_size_of version) bytes))
    → IsTrue (is_ok (entries_after version limits bytes))
read_after version limits bytes is = ok_entries limits (entries_after version limits bytes) (is ∙ sym (ap outcome (after_is version limits bytes)))

err_entries : (at : ℕ) (r : Result (List Placed) ℕ) → Err at ≡ outcome r → r ≡ Err at
err_entries at (Ok entries) is = absurd (cc)
err_entries at (Err place) is = same at place is where
  same : (a b : ℕ) → ◌≡◌ {A = Result ⊤ ℕ} (Err a) (Err b) → ◌≡◌ {A = Result (List Placed) ℕ} (Err b) (Err a)
  same a b e = cc

-- the place where a walk ends
pub err_after : (version : Version) (limits : Limits) (bytes : List ℕ) (at : ℕ)
    → Err at ≡ outcome (entries_at version limits.recording (header_size_of version) (drop (header_size_of version) bytes))
    → entries_after version limits bytes ≡ Err at
err_after version limits bytes at is = err_entries at (entries_after version limits bytes) (is ∙ sym (ap outcome (after_is version limits bytes)))

read_at : (version : Version) (bytes : List ℕ) (limits : Limits) → header_read version bytes ≡ Some limits → (r : Result (List Placed) ℕ)
    → entries_after version limits bytes ≡ r
    → record_read version bytes ≡ elim r [ Ok entries ↦ Ok (limits, entries) | Err at ↦ Err at ]
read_at version bytes limits header r is =
    ap (with_entries version bytes) header ∙ ap (λ (e : Result (List Placed) ℕ). elim e [ Ok entries ↦ Ok (limits, entries) | Err at ↦ Err at ]) is

pub record_ok : (version : Version) (bytes : List ℕ) (limits : Limits) → header_read version bytes ≡ Some limits
    → Ok tt ≡ outcome (entries_at version limits.recording (header_size_of version) (drop (header_size_of version) bytes))
    → record_read version bytes ≡ Ok (limits, placed_in (entries_after version limits bytes))
record_ok version bytes limits header is = go (entries_after version limits bytes) refl (is ∙ sym (ap outcome (after_is version limits bytes))) where
  go : (r : Result (List Placed) ℕ) → entries_after version limits bytes ≡ r → Ok tt ≡ outcome r
      → record_read version bytes ≡ Ok (limits, placed_in (entries_after version limits bytes))
  go (Ok entries) e o = read_at version bytes limits header (Ok entries) e ∙ ap (λ (r : Result (List Placed) ℕ). Ok (limits, placed_in r)) (sym e)
  go (Err at) e o = absurd (cc)

pub record_err : (version : Version) (bytes : List ℕ) (limits : Limits) (at : ℕ) → header_read version bytes ≡ Some limits
    → Err at ≡ outcome (entries_at version limits.recording (header_size_of version) (drop (header_size_of version) bytes)) → record_read version bytes ≡ Err at
record_err version bytes limits at header is = go (entries_after version limits bytes) refl (is ∙ sym (ap outcome (after_is version limits bytes))) where
  go : (r : Result (List Placed) ℕ) → entries_after version limits bytes ≡ r → Err at ≡ outcome r → record_read version bytes ≡ Err at
  go (Ok entries) e o = absurd (cc)
  go (Err place) e o = read_at version bytes limits header (Err place) e ∙ same place at o where
    same : (a b : ℕ) → ◌≡◌ {A = Result ⊤ ℕ} (Err b) (Err a) → ◌≡◌ {A = Result (Limits × List Placed) ℕ} (Err a) (Err b)
    same a b e = cc

-- a recording is read as itself
pub complete_ok : (version : Version) (bytes : List ℕ) (caps : Limits) (placed : List Placed) → record_read version bytes ≡ Ok (caps, placed)
    → (limits : Limits) (entries : List Recorded)
    → IsRecordIn version limits entries → bytes ≡ record_text_in version limits entries
    → (caps ≡ limits) × (placed ≡ placed_by version (header_size_of version) entries)
complete_ok version bytes caps placed read limits entries is same =
    let both = ok_is (caps, placed) (limits, placed_by version (header_size_of version) entries) (sym read ∙ ap (record_read version) same
    ∙ record_again version limits entries is) in
    (ap (λ (p : Limits × List Placed). p.0) both, ap (λ (p : Limits × List Placed). p.1) both)

pub complete_err : (version : Version) (bytes : List ℕ) (at : ℕ) → record_read version bytes ≡ Err at → (limits : Limits) (entries : List Recorded)
    → IsRecordIn version limits entries
    → bytes ≡ record_text_in version limits entries → ⊥
complete_err version bytes at read limits entries is same =
    clash (limits, placed_by version (header_size_of version) entries) (sym read ∙ ap (record_read version) same ∙ record_again version limits entries is) where
      clash : (x : Limits × List Placed) → ◌≡◌ {A = Result (Limits × List Placed) ℕ} (Err at) (Ok x) → ⊥
      clash x e = cc

pub complete_header : (version : Version) (bytes : List ℕ) → header_read version bytes ≡ None → (limits : Limits) (entries : List Recorded)
    → IsRecordIn version limits entries
    → bytes ≡ record_text_in version limits entries → ⊥
complete_header version bytes none limits entries is same =
    clash limits (sym none ∙ ap (header_read version) same
    ∙ header_again version limits (flat_map (λ (e : Recorded). text_in version e.caller e.event e.answer) entries) is.lawful)
  where
    clash : (x : Limits) → ◌≡◌ {A = Option Limits} None (Some x) → ⊥
    clash x e = cc
