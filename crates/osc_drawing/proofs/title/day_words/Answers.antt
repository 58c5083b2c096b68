use Rattle.osc_drawing.proofs.Naming.{day_of_line}
use Rattle.osc_drawing.proofs.title.day_words.Goals as goal

pub returns : goal.returns
returns c =
    day_of_line c.plain_look.result c.args.clock c.args.moment c.new-line.result.items c.day_line.new.text.items c.deref.result.now c.inner.result.now
    c.in_ok-words.words.items c.plain_look.ensures.clock c.plain_look.ensures.colours c.new-line.ensures.items c.in_ok-day_line.ensures.ok
    c.deref.ensures.value c.inner.ensures c.in_ok-words.ensures.items
