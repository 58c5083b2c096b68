-- How the commands end that read a score.
use Rattle.std.proofs.Common.{◌≡◌, ◌≢◌, ◌⊎◌, inl, inr, ℕ, ◌≤◌, true, false, List, length, Option, IfOk, IsOkAnd, IsSome, Result, Ok, sym, ap, subst, ◌∙◌, arith}
use Rattle.std.specs.Prelude.{IsErrAnd}
use Rattle.osc_script.specs.declared.line.Line.{Line}
use Rattle.osc_score.specs.declared.limits.TheConstants.{MAX_SCORE}
use Rattle.osc_score.specs.declared.fault.ScoreFault.{ScoreFault}
use Rattle.osc_script.specs.declared.mode.Mode.TheVariants.{Plain}
use Rattle.osc_script.specs.Adds.{count_adds}
use Rattle.osc_script.specs.Scripts.{script_of}
use Rattle.osc_model.specs.Events.{Room}
use Rattle.osc_score.specs.Scores.{Note, addresses_of, IsScore, score_size}
use Rattle.osc_score.specs.Scripted.{score_script}
use Rattle.osc_score.specs.Plans.{Plan, plan_of, plan_script}
use Rattle.osc_score.specs.Reading.{IsScored, score_of}
use Rattle.osc_score_laws.specs.Heard.{IsRoomy, PlaysScore, score_lines}
use Rattle.osc_ends.specs.Ends.{EndsText}
use Rattle.osc_ends.proofs.Inputs.{refused_bytes}
use Rattle.osc_ends.specs.Inputs.{OfInput, RefusesScore}
use Rattle.osc_ends.specs.Printing.{score_fault_text}
use Rattle.osc_ends.specs.Sinks.{SinkChange, GainsUnless}
use Rattle.osc_plain.specs.declared.report.Report.TheVariants.{Text}
use Rattle.osc_plain.specs.Commands.{default_limits}
use Rattle.osc_plain.specs.Runs.{EndsLines}
use Rattle.osc_plain.proofs.Tops.{lines_sound, notes_short}
use Rattle.osc_plain.specs.Scores.{EndsNotes, EndsPlayedScore, EndsPlaying, EndsScore, IsScriptWith}

-- the script of the notes is lawful, and has these lines
abbrev IsScriptOf : List Note → Type 0
IsScriptOf notes = script_of Plain (score_script notes) ≡ Ok (score_lines notes)

-- what the laws of scores say
pub record ScoreLaws : Type 0 where
  pub kept : (notes : List Note) → plan_script (plan_of notes) ≡ score_script notes
  pub scored : (bytes : List ℕ) → IfOk (score_of bytes) (IsScored (length bytes))
  pub scripted : (notes : List Note) → IsScore notes → score_size notes ≤ MAX_SCORE → script_of Plain (score_script notes) ≡ Ok (score_lines notes)

-- the default limits are enough for each score
pub roomy : IsRoomy default_limits MAX_SCORE
roomy = record { units = omega arith; blocks = omega arith; methods = omega arith; nodes = omega arith; recording = omega arith }

module _ (laws : ScoreLaws) (bytes : List ℕ) (notes : List Note) (plan : Plan) (is : score_of bytes ≡ Ok notes) (kept : plan ≡ plan_of notes) where
  text_is : plan_script plan ≡ score_script notes
  text_is = ap plan_script kept ∙ laws.kept notes

  scripted : IsScriptOf notes
  scripted = let scored = subst (λ (r : Result (List Note) ScoreFault). IfOk r (IsScored (length bytes))) is (laws.scored bytes) in
      laws.scripted notes scored.score (omega (arith, scored.short, scored.within))

  pub script_with : IsScriptWith plan (score_lines notes)
  script_with = ap (λ (text : List ℕ). script_of Plain text) text_is ∙ scripted

  notes_end : (Ends : List Note → Type 0) (status : ℕ) (out : SinkChange) → (status ≡ 1 → ⊥) → Ends notes → EndsNotes Ends status bytes out
  notes_end Ends status out sound ends = record {
    refused = λ one_is. absurd (sound one_is);
    lawful = λ _ _. subst (λ (r : Result (List Note) ScoreFault). IsOkAnd r (λ notes. IsScriptOf notes × Ends notes)) (sym is) (scripted, ends);
  }

  pub score_ends : (status : ℕ) (out : SinkChange) → EndsText 0 status (plan_script plan) out → EndsScore status bytes out
  score_ends status out ends =
      notes_end (λ notes. EndsText 0 status (score_script notes) out) status out (not_one ends.known)
      (subst (λ (text : List ℕ). EndsText 0 status text out) text_is ends)
    where
      not_one : (status ≡ 0) ⊎ (status ≡ 3) ⊎ (status ≡ 5) → status ≡ 1 → ⊥
      not_one (inl at) one_is = omega (arith, at, one_is)
      not_one (inr (inl at)) one_is = omega (arith, at, one_is)
      not_one (inr (inr at)) one_is = omega (arith, at, one_is)

module _ (bytes : List ℕ) (notes : List Note) (status have : ℕ) (out : SinkChange) (plays : PlaysScore default_limits (length bytes) notes)
    (adds : count_adds (score_lines notes) ≡ length (addresses_of notes)) (run : EndsLines Text default_limits status have (score_lines notes) out) where
  pub never_full : status ≢ 6
  never_full six_is = let clash : false ≡ true = subst (λ (stop : Option Room). IsSome stop) plays.goes_on (run.full six_is).0 in
      absurd (cc (clash))

  pub play_ends : (Ends : List Line → Type 0) → Ends (score_lines notes) → ScoreLaws → (plan : Plan) → score_of bytes ≡ Ok notes → plan ≡ plan_of notes
      → EndsPlayedScore Ends status bytes out
  play_ends Ends ends laws plan is kept =
      notes_end laws bytes notes plan is kept (EndsPlaying Ends status (length bytes)) status out
      (lines_sound Text default_limits status have (score_lines notes) out run)
      (record { run = ends; adds = adds; plays = plays; roomy = never_full })

  pub can_play : score_of bytes ≡ Ok notes → IsOkAnd (score_of bytes) (λ notes. length (addresses_of notes) ≤ have)
      → (status ≡ 0) ⊎ (status ≡ 3) ⊎ (status ≡ 5)
  can_play is can =
      go run.known (subst (λ (r : Result (List Note) ScoreFault). IsOkAnd r (λ notes. length (addresses_of notes) ≤ have)) is can)
    where
      go : (status ≡ 0) ⊎ (status ≡ 3) ⊎ (status ≡ 5) ⊎ (status ≡ 6) ⊎ (status ≡ 8) → length (addresses_of notes) ≤ have
          → (status ≡ 0) ⊎ (status ≡ 3) ⊎ (status ≡ 5)
      go (inl at) few = inl at
      go (inr (inl at)) few = inr (inl at)
      go (inr (inr (inl at))) few = inr (inr at)
      go (inr (inr (inr (inl at)))) few = absurd (never_full at)
      go (inr (inr (inr (inr at)))) few = absurd (omega (arith, (run.bank_short at).0, adds, few))

-- a score that is refused
pub refused_ends : (Ends : List ℕ → List Note → Type 0) (status : ℕ) (left : Option (List ℕ)) (out : SinkChange) → RefusesScore status left out
    → (status ≡ 4 → ⊥) → OfInput left (λ score. EndsNotes (Ends score) status score out)
refused_ends Ends status left out refuses =
    refused_bytes status left (λ score. IsErrAnd (score_of score) (λ fault. GainsUnless out (score_fault_text fault)))
    (λ score. EndsNotes (Ends score) status score out) refuses
    (λ score one refused. record { refused = λ _. refused; lawful = λ lawful _. absurd (lawful one) })
    (λ score three. notes_short (Ends score) status score out three)

-- one that was to be played
pub score_refused : (Ends : List Line → Type 0) (status decided : ℕ) (input : Option (List ℕ)) (out : SinkChange) → status ≡ decided
    → RefusesScore decided input out → (status ≡ 4 → ⊥) → OfInput input (λ score. EndsPlayedScore Ends status score out)
score_refused Ends status decided input out same given =
    refused_ends (λ score. EndsPlaying Ends status (length score)) status input out
    (subst (λ (s : ℕ). RefusesScore s input out) (sym same) given)

-- the score that is read is played
pub played_so : (bytes : List ℕ) (notes : List Note) → score_of bytes ≡ Ok notes → IfOk (score_of bytes) (PlaysScore default_limits (length bytes))
    → PlaysScore default_limits (length bytes) notes
played_so bytes notes is played = subst (λ (r : Result (List Note) ScoreFault). IfOk r (PlaysScore default_limits (length bytes))) is played

module _ {S : Type 0} where
  pub moved : {x y : S} → x ≡ y → (holds : S → Type 0) → holds x → holds y
  moved same holds so = subst holds same so
