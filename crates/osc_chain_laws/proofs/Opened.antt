-- What a server has played first, before its callers came in.
use Rattle.std.proofs.Common.{◌≡◌, ℕ, Bool, true, false, cond, eqb, List, [], ◌∷◌, ◌++◌, drop, Option, None, refl, ap, ◌∙◌, append_assoc}
use Rattle.std.proofs.lemmas.List.Elements.{filter_map-append}
use Rattle.osc_method.specs.Heard.{Fixed}
use Rattle.osc_model.specs.Limits.{Limits}
use Rattle.osc_model.specs.Events.{Entry}
use Rattle.osc_record.specs.Reading.{entry_in}
use Rattle.osc_core.specs.Standing.{history_in}
use Rattle.osc_script.specs.declared.line.Line.{Line}
use Rattle.osc_script.specs.Adds.{count_adds}
use Rattle.osc_score_laws.specs.Heard.{NoneIsRefused}
use Rattle.osc_player.specs.Plain.{plain}
use Rattle.osc_turn.specs.declared.view.Entry.{Entry as Seen}
use Rattle.osc_turn.specs.History.{texts, own}
use Rattle.osc_turn.proofs.Histories.{texts_append}
use Rattle.osc_life.specs.Crews.{enrolments}
use Rattle.osc_life.specs.Holders.{holder_at}
use Rattle.osc_life.proofs.Enrolling.{own_before}
use Rattle.osc_lanes.specs.Performs.{Part, told_of}
use Rattle.osc_lanes.specs.Shares.{Account, Plays}
use Rattle.osc_links.specs.declared.run.Hosted.{Hosted}
use Rattle.osc_links.specs.declared.served.Bounds.{Bounds}
use Rattle.osc_links.specs.Hosts.{Hosts}
use Rattle.osc_links.specs.Links.{LinkTurn}
use Rattle.osc_links.specs.Ticks.{ClockRead}
use Rattle.osc_chain_laws.specs.Openings.{IsPlain, BeginsWith}
use Rattle.osc_chain_laws.proofs.Added.{plays_back}
use Rattle.osc_chain_laws.proofs.Alone.{plays_alone}

-- own entries are their own
own_twice : (number : ℕ) (history : List Seen) → own number (own number history) ≡ own number history
own_twice number [] = refl
own_twice number (one ∷ history) = go (eqb one.number number) refl (own_twice number history) where
  go : (test : Bool) → eqb one.number number ≡ test → own number (own number history) ≡ own number history
      → own number (cond test (one ∷ own number history) (own number history)) ≡ cond test (one ∷ own number history) (own number history)
  go true is rest =
      ap (λ t. cond t (one ∷ own number (own number history)) (own number (own number history))) is ∙ ap (λ (l : List Seen). one ∷ l) rest
  go false is rest = rest

read_on : (first more : List Seen) → history_in (texts (first ++ more)) ≡ history_in (texts first) ++ history_in (texts more)
read_on first more = ap history_in (texts_append first more) ∙ filter_map-append entry_in (texts first) (texts more)

module _ {M : Type 0} (keep : M → Fixed) (heard : M → Option (List ℕ)) where
  pub plays_plain : (caps : Limits) (lines : List Line) (boxes : List M) (told : Account M) (opened : List Seen)
      → Plays keep heard (holder_at caps 0) lines boxes told [] opened → own 0 opened ≡ opened → IsPlain caps lines told (history_in (texts opened))
  plays_plain caps lines boxes told opened plays alone =
      let runs = plays_alone caps keep heard lines boxes told [] opened plays alone in
      record { history = runs.adds; stop = runs.stop; faults = runs.faults }

  module _ {L : Type 0} (left : L → Option (List LinkTurn)) (faults : L → ℕ) (caps : Limits) (bounds : Bounds) (part : Part M) (links : List L)
      (clock : ClockRead) (hosted : Hosted M L) (hosts : Hosts left faults keep heard caps bounds part links clock hosted) where
    pub hosted_back : (plain caps part.lines).stop ≡ None → NoneIsRefused (plain caps part.lines).history
        → (told_of hosted.opening).back ≡ drop (count_adds part.lines) part.boxes
    hosted_back goes_on accepted =
        plays_back caps keep heard part.lines part.boxes (told_of hosted.opening) [] hosts.opened hosts.plays
        (own_before 0 (own 0 hosts.history) hosts.opened hosts.begins (own_twice 0 hosts.history)) goes_on accepted

    pub hosted_plain : IsPlain caps part.lines (told_of hosted.opening) (history_in (texts hosts.opened))
    hosted_plain =
        plays_plain caps part.lines part.boxes (told_of hosted.opening) hosts.opened hosts.plays
        (own_before 0 (own 0 hosts.history) hosts.opened hosts.begins (own_twice 0 hosts.history))

    pub hosted_begins : BeginsWith caps part.lines hosts.callers (history_in (texts hosts.history))
    hosted_begins =
        let mine : List Seen = own 0 hosts.history in
        let rest : List Seen = hosts.stage.begins.0 in
        let front : List Entry = history_in (texts hosts.opened) in
        let enrolled : List Entry = enrolments 1 hosts.callers in
        record {
          rest = history_in (texts rest);
          is = ap (λ (l : List Seen). history_in (texts l)) hosts.stage.begins.1
              ∙ read_on mine rest
              ∙ ap (λ (l : List Entry). l ++ history_in (texts rest)) hosts.stage.enrolled
              ∙ append_assoc front enrolled (history_in (texts rest))
              ∙ ap (λ (l : List Entry). l ++ (enrolled ++ history_in (texts rest))) hosted_plain.history;
        }
