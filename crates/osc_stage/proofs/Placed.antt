-- The relays that are registered at the end are the methods of the server, each at its own address.
use Rattle.std.proofs.Common.{◌≡◌, ℕ, true, List, [], ◌∷◌, map, refl, sym, ap, subst, ◌∙◌}
use Rattle.std.specs.List.{AllByRecursion}
use Rattle.osc_pattern.specs.Methods.{Method}
use Rattle.osc_method.specs.Heard.{Fixed}
use Rattle.std.specs.Prelude.{Option}
use Rattle.osc_model.specs.Limits.{Limits}
use Rattle.osc_model.specs.State.{opening}
use Rattle.osc_model.specs.Events.{Entry}
use Rattle.osc_model.specs.Heard.{Told}
use Rattle.osc_model.specs.History.{after}
use Rattle.osc_core.specs.Ids.{is_ascending}
use Rattle.osc_core.specs.Standing.{history_in}
use Rattle.osc_core.specs.Telling.{told}
use Rattle.osc_core.proofs.Texts.{TextLaws}
use Rattle.osc_turn.specs.History.{texts}
use Rattle.osc_life.specs.Lives.{added_ids}
use Rattle.osc_script.specs.declared.act.Act.TheVariants.{Add, Remove, Send, Tick, Pump}
use Rattle.osc_script.specs.declared.act.Act.{Act}
use Rattle.osc_script.specs.declared.line.Line.{Line}
use Rattle.osc_lanes.specs.Performs.{Part}
use Rattle.osc_lanes.proofs.AddedAt.{IsAddedAt, methods_added_at, one_address}
use Rattle.osc_lanes.proofs.OwnBoxes.{LinesFit}
use Rattle.osc_links.specs.declared.run.Hosted.{Hosted}
use Rattle.osc_links.specs.declared.served.Bounds.{Bounds}
use Rattle.osc_links.specs.Hosts.{Hosts}
use Rattle.osc_links.specs.Links.{LinkTurn}
use Rattle.osc_links.specs.Ticks.{ClockRead}
use Rattle.osc_links.proofs.Boxes.{IsPlaced, placed}
use Rattle.osc_relay.specs.declared.outlet.Outlet.{Ghosts}
use Rattle.osc_relay.specs.declared.relay.Relay.{Relay}
use Rattle.osc_stage.specs.Lines.{added_in}
use Rattle.osc_stage.specs.Stages.{AddsAtOwn, method_of}

module _ {O : Type 0} {G : Ghosts O} where
  -- a relay's own address
  abbrev pub IsOwn : List ℕ → Relay O G → Type 0
  IsOwn address relay = address ≡ relay.address

  -- lines that add each relay at its own address
  lines_fit : (lines : List Line) (relays : List (Relay O G)) → added_in lines ≡ map (λ relay. relay.address) relays → LinesFit IsOwn lines relays
  lines_fit [] relays is = tt
  lines_fit (line ∷ lines) relays is = go line.act relays is (λ others same. lines_fit lines others same) where
    go : (act : Act) (relays : List (Relay O G)) → added_in (record line { act = act } ∷ lines) ≡ map (λ relay. relay.address) relays
        → ((others : List (Relay O G)) → added_in lines ≡ map (λ relay. relay.address) others → LinesFit IsOwn lines others)
        → LinesFit IsOwn (record line { act = act } ∷ lines) relays
    go (Add address) [] is rest = absurd (cc)
    go (Add address) (relay ∷ relays) is rest =
        let own : address ≡ relay.address = cc in
        let others : added_in lines ≡ map (λ (one : Relay O G). one.address) relays = cc in
        ((λ box left same. let first : relay ≡ box = cc in own ∙ ap (λ (one : Relay O G). one.address) first), rest relays others)
    go (Remove address) relays is rest = (tt, rest relays is)
    go (Send bytes) relays is rest = (tt, rest relays is)
    go (Tick moment) relays is rest = (tt, rest relays is)
    go Pump relays is rest = (tt, rest relays is)

  -- lists of one method each, by their ids
  same_methods : (history : List Entry) → is_ascending (added_ids history) ≡ true → (relays : List (ℕ × Relay O G)) (methods : List Method)
      → map (λ one. one.0) relays ≡ map (λ method. method.id) methods
      → AllByRecursion (λ one. IsAddedAt history one.0 one.1.address) relays
      → AllByRecursion (λ method. IsAddedAt history method.id method.address) methods → map method_of relays ≡ methods
  same_methods history all [] [] ids are stand = refl
  same_methods history all [] (method ∷ methods) ids are stand = absurd (cc)
  same_methods history all (one ∷ relays) [] ids are stand = absurd (cc)
  same_methods history all (one ∷ relays) (method ∷ methods) ids are stand =
      let same : one.0 ≡ method.id = cc in
      let rest : map (λ (o : ℕ × Relay O G). o.0) relays ≡ map (λ (m : Method). m.id) methods = cc in
      let at : one.1.address ≡ method.address =
      one_address history method.id one.1.address method.address all
      (subst (λ (n : ℕ). IsAddedAt history n one.1.address) same are.0) stand.0 in
      λ i. record { id = same i; address = at i } ∷ same_methods history all relays methods rest are.1 stand.1 i

module _ {O : Type 0} {G : Ghosts O} (keep : Relay O G → Fixed) (heard : Relay O G → Option (List ℕ)) where
  ids_told : (relays : List (ℕ × Relay O G)) → map (λ (one : Told). one.id) (told keep heard relays) ≡ map (λ one. one.0) relays
  ids_told [] = refl
  ids_told (one ∷ relays) = ap (λ (l : List ℕ). one.0 ∷ l) (ids_told relays)

  module _ {L : Type 0} (left : L → Option (List LinkTurn)) (faults : L → ℕ) (caps : Limits) (bounds : Bounds) (part : Part (Relay O G)) (links : List L)
      (clock : ClockRead) (hosted : Hosted (Relay O G) L) (hosts : Hosts left faults keep heard caps bounds part links clock hosted) where
    pub placed_methods : TextLaws → ((relay : Relay O G) → (keep relay).name ≡ relay.address) → AddsAtOwn part
        → map method_of hosted.closed.kept.items ≡ (after (opening caps) (history_in (texts hosts.history))).methods
    placed_methods laws named adds =
        same_methods history hosts.closed.ascending hosted.closed.kept.items (after (opening caps) history).methods
        (sym (ids_told hosted.closed.kept.items) ∙ hosts.closed.kept_heard.ids)
        (own_each hosted.closed.kept.items
        (placed keep heard IsOwn left faults caps bounds part links clock hosted hosts (lines_fit part.lines part.boxes adds) laws))
        (methods_added_at caps history hosts.stage.legal)
      where
        history : List Entry
        history = history_in (texts hosts.history)

        fits : LinesFit IsOwn part.lines part.boxes
        fits = lines_fit part.lines part.boxes adds

        own_each : (relays : List (ℕ × Relay O G))
            → AllByRecursion (IsPlaced keep heard IsOwn left faults caps bounds part links clock hosted hosts fits) relays
            → AllByRecursion (λ one. IsAddedAt history one.0 one.1.address) relays
        own_each [] all = tt
        own_each (one ∷ relays) all =
            let own : all.0.address ≡ one.1.address = all.0.fits ∙ (sym (named all.0.box) ∙ (all.0.named ∙ named one.1)) in
            (subst (λ (a : List ℕ). IsAddedAt history one.0 a) own all.0.added, own_each relays all.1)
