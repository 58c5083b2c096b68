use Rattle.osc_carry.proofs.Leads.{leads_there}
use Rattle.osc_carry.proofs.laws.a_carried_script_leads_there.Goals as goal

pub returns : goal.returns
returns c =
    leads_there (record {
      messages = c.known.ensures;
      addresses = λ address is. (c.tests_are_exact.ensures.address address).1 is;
      scripts = c.written_scripts_are_read_again.ensures;
      alike = c.alike_servers_stay_alike.ensures.events;
      sound = c.a_server_stays_sound.ensures.after;
    })
