use Rattle.std.proofs.Common.{ℕ, ◌+◌, length, sym, ap, subst, ◌∙◌, arith, length-drop}
use Rattle.osc_record.specs.Reading.{entry_first}
use Rattle.osc_record.specs.Shown.{parts_of}
use Rattle.osc_record.specs.Unread.{Remaining, Reads, HasNoNext}
use Rattle.osc_record.specs.declared.version.Version.TheVariants.{Second}
use Rattle.osc_record.proofs.Remaining.{from, read_one, none_next, filled, rest_kept}
use Rattle.osc_record.proofs.unread.Unread.next_entry.Goals as goal

pub invariant_of-self : goal.invariant_of-self
invariant_of-self c =
    let s = c.self.inside in
    let within = c.in-Some.ensures.within in
    let small = c.self.invariant.small in
    record {
      bytes = rest_kept c.in-Some.size s.rest.now c.split_at.result.1.now c.self.invariant.bytes c.split_at.ensures.back;
      small = omega (arith, ap length c.split_at.ensures.back, length-drop c.in-Some.size s.rest.now, within.0);
    }

pub returns-in_default-clause-err : goal.returns-in_default-clause-err
returns-in_default-clause-err c =
    let s = c.self.inside in
    let limited = c.recording.ensures.range.recording.below in
    subst (λ (left : Remaining). HasNoNext left s.at) c.self.view_is
    (none_next s.caps s.at s.rest.now (omega arith) (filled s.rest.now (sym c.is_empty.ensures ∙ c.if-is_empty.false))
    (sym (c.in_default.ensures.value ∙ ap (λ (n : ℕ). entry_first Second n s.at s.rest.now) c.recording.ensures.value)))

pub returns-clause-read : goal.returns-clause-read
returns-clause-read c =
    let s = c.self.inside in
    subst (λ (old : Remaining). Reads old (record { at = s.at; entry = parts_of c.in-Some.parts })
    (from s.caps (s.at + c.in-Some.size) c.split_at.result.1.now)) c.self.view_is
    (read_one s.caps s.at s.rest.now c.split_at.result.1.now (parts_of c.in-Some.parts) c.in-Some.size c.self.invariant.bytes c.self.invariant.small
    (sym (c.in-Some.ensures.value ∙ ap (λ (n : ℕ). entry_first Second n s.at s.rest.now) c.recording.ensures.value)) c.split_at.ensures.back)
