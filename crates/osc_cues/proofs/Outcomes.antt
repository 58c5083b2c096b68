-- What a sheet is read as, where lines are wrong.
use Rattle.std.proofs.Common.{◌≡◌, ◌∙◌, ℕ, ◌<◌, ◌≤◌, Bool, true, false, cond, nat_lt, List, [], ◌∷◌, length, Result, Err, refl, sym}
use Rattle.std.proofs.Common.{ap, arith}
use Rattle.std.proofs.lemmas.Bool.Decides.{nat_tests}
use Rattle.osc_cues.specs.declared.limits.TheConstants.{MAX_SHEET}
use Rattle.osc_cues.specs.declared.setting.Setting.{Setting}
use Rattle.osc_cues.specs.Plans.{Plan}
use Rattle.osc_cues.specs.declared.wrong_line.WrongLine.{WrongLine}
use Rattle.osc_cues.specs.declared.wrong_line.SheetError.{SheetError}
use Rattle.osc_cues.specs.declared.wrong_line.SheetError.TheVariants.{TooLong, Lines}
use Rattle.osc_cues.specs.declared.draft.Draft.{Draft}
use Rattle.osc_cues.specs.Words.{lines_of}
use Rattle.osc_cues.specs.Sheets.{read_from, unread, outcome, outcome_of, sheet_of}

outcome_wrong : (plan : Plan) (wrong : List WrongLine) → 0 < length wrong → outcome plan wrong ≡ Err (Lines wrong)
outcome_wrong plan [] some = absurd (omega arith)
outcome_wrong plan (line ∷ lines) some = refl

short_only : (bytes : List ℕ) (read : Result Plan SheetError) → length bytes ≤ MAX_SHEET
    → cond (nat_lt MAX_SHEET (length bytes)) (Err TooLong) read ≡ read
short_only bytes read short = go (nat_lt MAX_SHEET (length bytes)) refl where
  go : (t : Bool) → nat_lt MAX_SHEET (length bytes) ≡ t → cond t (Err TooLong) read ≡ read
  go true long = absurd (let more : MAX_SHEET < length bytes = grind (arith, nat_tests) in omega arith)
  go false long = refl

pub read_wrong : (methods : List (List ℕ)) (setting : Setting) (bytes : List ℕ) (draft : Draft) (wrong : List WrongLine)
    → draft ≡ read_from methods setting 1 unread (lines_of bytes) → wrong ≡ draft.wrong → length bytes ≤ MAX_SHEET → 0 < length wrong
    → sheet_of methods setting bytes ≡ Err (Lines draft.wrong)
read_wrong methods setting bytes draft wrong is same short some =
    short_only bytes (outcome_of (read_from methods setting 1 unread (lines_of bytes))) short
    ∙ ap outcome_of (sym is)
    ∙ outcome_wrong (record { cues = draft.cues; tempo = draft.first }) draft.wrong (omega (arith, some, ap length same))
