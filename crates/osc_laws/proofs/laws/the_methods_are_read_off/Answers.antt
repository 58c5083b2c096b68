use Rattle.osc_laws.proofs.Methods.{methods_are}
use Rattle.osc_laws.proofs.laws.the_methods_are_read_off.Goals as goal

pub returns : goal.returns
returns c caps history method legal = methods_are c.a_server_stays_sound.ensures.step c.a_server_stays_sound.ensures.opening caps history legal method
