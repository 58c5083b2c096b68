use Rattle.std.proofs.Common.{◌≡◌, None, codes, sym, ap, ◌∙◌, arith, rules}
use Rattle.std.specs.Prelude.{option_map}
use Rattle.osc_record.specs.Reading.{enrol_read, add_read, remove_read, tick_read}
use Rattle.osc_record.specs.Shown.{parts_of}
use Rattle.osc_record.proofs.Fronts.{front_some, front_none, other_none, enrol_bytes, add_bytes, remove_bytes, tick_bytes}
use Rattle.osc_record.proofs.Fronts.{enrol_front, add_front, remove_front, tick_front}
use Rattle.osc_record.proofs.entry_messages.read_other.Goals as goal

pub returns-in_err-read-clause-value : goal.returns-in_err-read-clause-value
returns-in_err-read-clause-value c =
    let none : c.from_residual.result ≡ None = search rules in
    ap (option_map parts_of) none
    ∙ sym (front_none c.args.version tick_bytes (codes "/osc/tick") (codes "itit") tick_front c.args.bytes.now
    (sym c.starts_with.ensures.value ∙ c.if-starts_with.true) c.requires.fours c.requires.small (sym c.in_err-read.ensures.exact))

pub returns-in_ok-read-clause-value : goal.returns-in_ok-read-clause-value
returns-in_ok-read-clause-value c =
    c.read_tick.ensures.value ∙ ap tick_read c.in_ok-read.ensures.read
    ∙ sym (front_some c.args.version tick_bytes (codes "/osc/tick") (codes "itit") tick_front c.args.bytes.now
    (sym c.starts_with.ensures.value ∙ c.if-starts_with.true) c.requires.fours c.requires.small (sym c.in_ok-read.ensures.exact))

pub returns-in_err-read-2-clause-value : goal.returns-in_err-read-2-clause-value
returns-in_err-read-2-clause-value c =
    let none : c.from_residual-in_err-read-2.result ≡ None = search rules in
    ap (option_map parts_of) none
    ∙ sym (front_none c.args.version add_bytes (codes "/osc/add") (codes "isiii") add_front c.args.bytes.now
    (sym c.starts_with-else-starts_with.ensures.value ∙ c.if-starts_with-2.true) c.requires.fours c.requires.small (sym c.in_err-read-2.ensures.exact))

pub returns-in_ok-read-2-clause-value : goal.returns-in_ok-read-2-clause-value
returns-in_ok-read-2-clause-value c =
    c.read_add.ensures.value ∙ ap add_read c.in_ok-read-2.ensures.read
    ∙ sym (front_some c.args.version add_bytes (codes "/osc/add") (codes "isiii") add_front c.args.bytes.now
    (sym c.starts_with-else-starts_with.ensures.value ∙ c.if-starts_with-2.true) c.requires.fours c.requires.small (sym c.in_ok-read-2.ensures.exact))

pub returns-in_err-read-3-clause-value : goal.returns-in_err-read-3-clause-value
returns-in_err-read-3-clause-value c =
    let none : c.from_residual-in_err-read-3.result ≡ None = search rules in
    ap (option_map parts_of) none
    ∙ sym (front_none c.args.version remove_bytes (codes "/osc/remove") (codes "isii") remove_front c.args.bytes.now
    (sym c.starts_with-else-starts_with-2.ensures.value ∙ c.if-starts_with-3.true) c.requires.fours c.requires.small (sym c.in_err-read-3.ensures.exact))

pub returns-in_ok-read-3-clause-value : goal.returns-in_ok-read-3-clause-value
returns-in_ok-read-3-clause-value c =
    c.read_remove.ensures.value ∙ ap remove_read c.in_ok-read-3.ensures.read
    ∙ sym (front_some c.args.version remove_bytes (codes "/osc/remove") (codes "isii") remove_front c.args.bytes.now
    (sym c.starts_with-else-starts_with-2.ensures.value ∙ c.if-starts_with-3.true) c.requires.fours c.requires.small (sym c.in_ok-read-3.ensures.exact))

pub returns-in_err-read-4-clause-value : goal.returns-in_err-read-4-clause-value
returns-in_err-read-4-clause-value c =
    let none : c.from_residual-in_err-read-4.result ≡ None = search rules in
    ap (option_map parts_of) none
    ∙ sym (front_none c.args.version enrol_bytes (codes "/osc/enrol") (codes "ii") enrol_front c.args.bytes.now
    (sym c.starts_with-else-starts_with-3.ensures.value ∙ c.if-starts_with-4.true) c.requires.fours c.requires.small (sym c.in_err-read-4.ensures.exact))

pub returns-in_ok-read-4-clause-value : goal.returns-in_ok-read-4-clause-value
returns-in_ok-read-4-clause-value c =
    c.read_enrol.ensures.value ∙ ap enrol_read c.in_ok-read-4.ensures.read
    ∙ sym (front_some c.args.version enrol_bytes (codes "/osc/enrol") (codes "ii") enrol_front c.args.bytes.now
    (sym c.starts_with-else-starts_with-3.ensures.value ∙ c.if-starts_with-4.true) c.requires.fours c.requires.small (sym c.in_ok-read-4.ensures.exact))

pub returns-else-starts_with-4-clause-value : goal.returns-else-starts_with-4-clause-value
returns-else-starts_with-4-clause-value c =
    other_none c.args.version c.args.bytes.now (λ i. omega (arith, c.type_inv.bytes i)) (record {
      submit_none = c.requires.no_submit;
      release_none = c.requires.no_release;
      tick_none = sym c.starts_with.ensures.value ∙ c.if-starts_with.false;
      add_none = sym c.starts_with-else-starts_with.ensures.value ∙ c.if-starts_with-2.false;
      remove_none = sym c.starts_with-else-starts_with-2.ensures.value ∙ c.if-starts_with-3.false;
      enrol_none = sym c.starts_with-else-starts_with-3.ensures.value ∙ c.if-starts_with-4.false;
    })
