use Rattle.std.proofs.Common.{[]}
use Rattle.osc_shown_laws.proofs.Messages.{known_again, known_cut, bare_again, bare_alike, none_even}
use Rattle.osc_shown_laws.proofs.laws.a_shown_message_is_read_again.Goals as goal

pub returns : goal.returns
returns c = record {
  known = λ methods front pattern words arguments between lawful bytes whole address is.
      known_again (c.written_is_read_again.ensures.of_known pattern arguments lawful) methods front words between lawful bytes whole address is;
  cut = λ methods front pattern words arguments between lawful bytes cut address is.
      known_cut (c.written_is_read_again.ensures.of_known pattern arguments lawful) methods front words between lawful bytes cut address is;
  bare = λ methods front pattern words between lawful address is.
      bare_again (c.written_is_read_again.ensures.of_bare pattern lawful) methods front words between address is;
  alike = λ pattern words lawful is.
      bare_alike (c.written_is_read_again.ensures.of_bare pattern lawful)
      (c.written_is_read_again.ensures.of_known pattern [] (lawful, tt, none_even)) words is;
}
