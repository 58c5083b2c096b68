-- What is finished is the message of what was pushed, where the brackets balance.
use Rattle.std.proofs.Common.{◌≡◌, drop, true, false, is_ok, rules, refl, ◌∙◌, inl}
use Rattle.osc_message.specs.Reading.{brackets_read}
use Rattle.osc_message.proofs.Buildings.{unbalanced, balanced, nonzero_pattern, nonzero_kept, finished_text, finished_message}
use Rattle.osc_message.proofs.builder.Builder.finish.Goals as goal

pub returns-then-not-tags_balance-clause-cause : goal.returns-then-not-tags_balance-clause-cause
returns-then-not-tags_balance-clause-cause c =
    let failed : is_ok (brackets_read 0 0 (drop 1 c.self.inside.tags.items) 0) ≡ false = search rules in
    inl (refl, rw (← c.self.view_is) (unbalanced c.self.inside.pattern.items c.self.inside.tags.items c.self.inside.atoms.items c.self.invariant failed))

pub message_bytes-requires-clause-pattern : goal.message_bytes-requires-clause-pattern
message_bytes-requires-clause-pattern c =
    rw c.as_slice-pattern.ensures.value (nonzero_pattern c.self.inside.pattern.items c.self.inside.tags.items c.self.inside.atoms.items c.self.invariant)

pub message_bytes-requires-clause-tags : goal.message_bytes-requires-clause-tags
message_bytes-requires-clause-tags c =
    rw c.as_slice-tags.ensures.value (nonzero_kept c.self.inside.pattern.items c.self.inside.tags.items c.self.inside.atoms.items c.self.invariant)

pub returns-in_err-message_bytes-clause-refused : goal.returns-in_err-message_bytes-clause-refused
returns-in_err-message_bytes-clause-refused c =
    let passed : is_ok (brackets_read 0 0 (drop 1 c.self.inside.tags.items) 0) ≡ true = search rules in
    rw (← c.self.view_is)
    (λ not. absurd (not (balanced c.self.inside.pattern.items c.self.inside.tags.items c.self.inside.atoms.items c.self.invariant passed)))

pub returns-clause-ok : goal.returns-clause-ok
returns-clause-ok c =
    rw (← c.self.view_is)
    (c.of.ensures ∙ c.in_ok-message_bytes.ensures ∙ rw (c.as_slice-pattern.ensures.value, c.as_slice-tags.ensures.value, c.as_slice-atoms.ensures.value)
    (finished_text c.self.inside.pattern.items c.self.inside.tags.items c.self.inside.atoms.items c.self.invariant))

pub returns-clause-message : goal.returns-clause-message
returns-clause-message c =
    let passed : is_ok (brackets_read 0 0 (drop 1 c.self.inside.tags.items) 0) ≡ true = search rules in
    rw (c.of.ensures, c.in_ok-message_bytes.ensures, c.as_slice-pattern.ensures.value, c.as_slice-tags.ensures.value, c.as_slice-atoms.ensures.value)
    (finished_message c.self.inside.pattern.items c.self.inside.tags.items c.self.inside.atoms.items c.self.invariant passed)

pub returns-clause-refused : goal.returns-clause-refused
returns-clause-refused c =
    let passed : is_ok (brackets_read 0 0 (drop 1 c.self.inside.tags.items) 0) ≡ true = search rules in
    rw (← c.self.view_is)
    (λ not. absurd (not (balanced c.self.inside.pattern.items c.self.inside.tags.items c.self.inside.atoms.items c.self.invariant passed)))
