use Rattle.std.proofs.Common.{◌≡◌, ◌++◌, OnOk, option_map, ℕ, List, Some, sym, ap, subst, ◌∙◌}
use Rattle.osc_pattern.specs.Methods.{Method}
use Rattle.osc_model.specs.Events.{Answer, record_full, number, callers_full, queued, units_full, pool_full, added, refused, removed, not_there}
use Rattle.osc_model.specs.Events.{ticked, clock_back, released, nothing_due}
use Rattle.osc_record.specs.Shown.{answer_of}
use Rattle.osc_report.specs.declared.front.Front.{Front}
use Rattle.osc_report.specs.declared.options.Options.{Options}
use Rattle.osc_report.specs.Notes.{named_note, refused_words, why_not, add_text}
use Rattle.osc_report.proofs.note.add_add.Goals as goal

-- why it wasn't added is the tail of its line
told_why : (options : Options) (front : Front) (methods : List Method) (address words : List ℕ) (answer : Answer) → Some words ≡ why_not methods answer
    → named_note options front 33 address words ≡ add_text options front methods address answer
told_why options front methods address words (number n) is = absurd (cc)
told_why options front methods address words callers_full is = absurd (cc)
told_why options front methods address words (queued first count late) is = absurd (cc)
told_why options front methods address words (units_full room) is = absurd (cc)
told_why options front methods address words (pool_full room) is = absurd (cc)
told_why options front methods address words (added id) is = absurd (cc)
told_why options front methods address words (refused why) is =
    let same : words ≡ refused_words methods why = cc in
    ap (named_note options front 33 address) same
told_why options front methods address words (removed id) is = absurd (cc)
told_why options front methods address words not_there is = absurd (cc)
told_why options front methods address words ticked is = absurd (cc)
told_why options front methods address words (clock_back kept) is = absurd (cc)
told_why options front methods address words (released unit hits) is = absurd (cc)
told_why options front methods address words (nothing_due next) is = absurd (cc)
told_why options front methods address words (record_full room) is = absurd (cc)

pub returns-in-Some : goal.returns-in-Some
returns-in-Some c =
    let options = c.args.options.now in
    let front = c.args.front in
    let address = c.args.address.now in
    let why = sym (ap (option_map (λ words. words.items)) c.in-Some.is) ∙ c.in_ok-why.ensures in
    subst (λ (l : List ℕ). OnOk c.add_named-in-Some.result (c.add_named-in-Some.new.out.items ≡ c.args.out.now.items ++ l))
    (ap (named_note options front 33 address) c.deref.ensures.value
    ∙ told_why options front c.args.methods.now address c.in-Some.why.items (answer_of c.args.answer) why)
    c.add_named-in-Some.ensures
