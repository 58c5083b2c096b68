use Rattle.std.proofs.Common.{◌∙◌, ℕ, List, IfOk, sym, ap, subst}
use Rattle.osc_message.specs.Messages.{AllFit}
use Rattle.osc_cues.specs.declared.scan.Span.{Span}
use Rattle.osc_cues.specs.Cues.{arguments_at}
use Rattle.osc_cues.specs.LineAnswers.{onto}
use Rattle.osc_cues.proofs.Putting.{word_on, fit_on}
use Rattle.osc_cues.proofs.message.put_words.Goals as goal

pub loop-span-preserved : goal.loop-span-preserved
loop-span-preserved c =
    let line : List ℕ = c.args.line.now in
    let split = c.in-Some.ensures.cases.0 in
    record {
      read = word_on line c.in-Some.span.now c.in-Some.others.now c.loop-span.tags.items c.loop-span.atoms.items c.put_at.new.tags.items
          c.put_at.new.atoms.items c.in-Ok.ensures
          ∙ ap (λ (l : List Span). onto c.loop-span.tags.items c.loop-span.atoms.items (arguments_at line l)) (sym split)
          ∙ c.loop-span.invariant.read;
      fit = λ fit. c.loop-span.invariant.fit
          (subst (λ (l : List Span). IfOk (arguments_at line l) AllFit) (sym split)
          (fit_on line c.in-Some.span.now c.in-Some.others.now c.loop-span.tags.items c.loop-span.atoms.items c.put_at.new.tags.items
          c.put_at.new.atoms.items c.in-Ok.ensures fit));
    }
