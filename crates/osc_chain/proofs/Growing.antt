-- A show that goes on.
use Rattle.std.proofs.Common.{◌≡◌, ◌⊎◌, ℕ, List, [], ◌∷◌, ◌++◌, map, Option, Some, None, refl, sym, ap, subst, ◌∙◌}
use Rattle.std.specs.Prelude.{IfOk, IfSome, IsSomeAnd, Result, Ok, Err}
use Rattle.std.specs.List.{AllByRecursion}
use Rattle.osc_method.specs.Heard.{Fixed}
use Rattle.osc_model.specs.Events.{Entry}
use Rattle.osc_model.specs.Limits.{Limits}
use Rattle.osc_replay.specs.Disagreeing.{IsRecordingOf}
use Rattle.osc_links.specs.Links.{LinkTurn}
use Rattle.osc_relay.specs.declared.outlet.Outlet.{Ghosts}
use Rattle.osc_relay.specs.declared.relay.Relay.{Relay}
use Rattle.osc_stage.specs.declared.stage.Stage.{Stage}
use Rattle.osc_stage.specs.declared.stage.Staged.{Staged}
use Rattle.osc_stage.specs.Stages.{IsStaged}
use Rattle.osc_chain_laws.specs.Shows.{Scene, TurnsOver, IsShow, IsChain}
use Rattle.osc_chain.specs.declared.part.Part.{Part}
use Rattle.osc_chain.specs.declared.part.Part.TheVariants.{GoesOn, Over}
use Rattle.osc_chain.specs.declared.part.ShowEnd.{ShowEnd}
use Rattle.osc_chain.specs.declared.seam.SeamFault.{SeamFault}
use Rattle.osc_chain.specs.declared.seam.SeamFault.TheVariants.{NoRoom, TooLong, Unlike}
use Rattle.osc_chain.specs.Seams.{IsSeamFault, TakesOver}
use Rattle.osc_chain.specs.Shows.{AllTakeOver, CanPlay, OpensAtOwn, last_of, GoesOnFrom, IsPlayed, IsShowFault, PlaysPart, PlaysShow}

-- what no call of a relay changes, and what it has heard
abbrev pub fixed_of : {O : Type 0} {G : Ghosts O} → Relay O G → Fixed
fixed_of {G} relay = record { most = relay.trace.bytes.capacity; name = relay.address; outlets = map G.mark relay.outlets.items }

abbrev pub heard_of : {O : Type 0} {G : Ghosts O} → Relay O G → Option (List ℕ)
heard_of relay = Some relay.trace.bytes.items

module _ {O L : Type 0} {G : Ghosts O} where
  last_added : (first : Scene O L G) (scenes : List (Scene O L G)) (scene : Scene O L G) → last_of first (scenes ++ scene ∷ []) ≡ scene
  last_added first [] scene = refl
  last_added first (next ∷ scenes) scene = last_added next scenes scene

  all_added : (P : Scene O L G → Type 0) (scenes : List (Scene O L G)) (scene : Scene O L G) → AllByRecursion P scenes → P scene
      → AllByRecursion P (scenes ++ scene ∷ [])
  all_added P [] scene all one = (one, tt)
  all_added P (next ∷ scenes) scene all one = (all.0, all_added P scenes scene all.1 one)

  over_added : (first : Scene O L G) (scenes : List (Scene O L G)) (scene : Scene O L G) → AllTakeOver first scenes
      → TakesOver (last_of first scenes).stage.caps (last_of first scenes).stage.links.bounds (last_of first scenes).staged scene.stage
      → AllTakeOver first (scenes ++ scene ∷ [])
  over_added first [] scene all one = (one, tt)
  over_added first (next ∷ scenes) scene all one = (all.0, over_added next scenes scene all.1 one)

  module _ (keep : Relay O G → Fixed) (heard : Relay O G → Option (List ℕ)) (gone : L → Option (List LinkTurn)) (faults : L → ℕ) where
    show_added : (first : Scene O L G) (scenes : List (Scene O L G)) (scene : Scene O L G) → IsShow keep heard gone faults first scenes
        → IsStaged keep heard gone faults scene.stage scene.clock scene.staged → TurnsOver (last_of first scenes) scene
        → IsShow keep heard gone faults first (scenes ++ scene ∷ [])
    show_added first [] scene show staged turns = (staged, turns, tt)
    show_added first (next ∷ scenes) scene show staged turns = (show.0, show.1, show_added next scenes scene show.2 staged turns)

    module _ (sent : O → Option (List (List ℕ))) (losses : O → ℕ) where
      -- scenes were played that begin with this stage
      pub record HasPlayed (begin : Stage O L G) : Type 0 where
        pub first : Scene O L G
        pub scenes : List (Scene O L G)
        pub begins : first.stage ≡ begin
        pub first_played : IsPlayed keep heard gone faults sent losses first
        pub played : AllByRecursion (IsPlayed keep heard gone faults sent losses) scenes
        pub taken_over : AllTakeOver first scenes
        pub show : OpensAtOwn begin → IsShow keep heard gone faults first scenes

      -- the last of them
      abbrev pub last_scene : (begin : Stage O L G) → HasPlayed begin → Scene O L G
      last_scene begin so = last_of so.first so.scenes

      -- what is known of a stage that is played next, after what was played
      pub record Carried (begin stage : Stage O L G) : Type 0 where
        pub so : HasPlayed begin
        pub own : OpensAtOwn stage
        pub caps_are : stage.caps ≡ begin.caps
        pub over : TakesOver (last_scene begin so).stage.caps (last_scene begin so).stage.links.bounds (last_scene begin so).staged stage
        pub turns : OpensAtOwn begin → (next : Scene O L G) → next.stage ≡ stage → TurnsOver (last_scene begin so) next

      -- a stage is the first of a show, or carries it on
      pub data IsNext (begin stage : Stage O L G) : Type 0 where
        first_one : stage ≡ begin → IsNext begin stage
        carries_on : Carried begin stage → IsNext begin stage

      -- scenes were played, and this one was the last
      pub record Ended (begin : Stage O L G) (scene : Scene O L G) : Type 0 where
        pub so : HasPlayed begin
        pub last : last_scene begin so ≡ scene

      pub then_played : (begin stage : Stage O L G) (scene : Scene O L G) → IsNext begin stage → scene.stage ≡ stage
          → IsPlayed keep heard gone faults sent losses scene → Ended begin scene
      then_played begin stage scene (first_one same) is played = record {
        so = record { first = scene; scenes = []; begins = is ∙ same; first_played = played; played = tt; taken_over = tt; show = λ own. tt };
        last = refl;
      }
      then_played begin stage scene (carries_on on) is played = record {
        so = record {
          first = on.so.first;
          scenes = on.so.scenes ++ scene ∷ [];
          begins = on.so.begins;
          first_played = on.so.first_played;
          played = all_added (IsPlayed keep heard gone faults sent losses) on.so.scenes scene on.so.played played;
          taken_over = over_added on.so.first on.so.scenes scene on.so.taken_over
              (subst (λ (s : Stage O L G). TakesOver (last_scene begin on.so).stage.caps (last_scene begin on.so).stage.links.bounds
              (last_scene begin on.so).staged s) (sym is) on.over);
          show = λ own. show_added on.so.first on.so.scenes scene (on.so.show own) played.staged (on.turns own scene is);
        };
        last = last_added on.so.first on.so.scenes scene;
      }

      -- where the first stage's opening adds each relay at its own address, so does that of each
      opens_own : (begin stage : Stage O L G) → IsNext begin stage → OpensAtOwn begin → OpensAtOwn stage
      opens_own begin stage (first_one same) own = subst OpensAtOwn (sym same) own
      opens_own begin stage (carries_on on) own = on.own

      -- the limits stay
      same_caps : (begin stage : Stage O L G) → IsNext begin stage → stage.caps ≡ begin.caps
      same_caps begin stage (first_one same) = ap (λ (s : Stage O L G). s.caps) same
      same_caps begin stage (carries_on on) = on.caps_are

      pub then_on : (begin stage next : Stage O L G) (scene : Scene O L G) → IsNext begin stage → scene.stage ≡ stage
          → IsPlayed keep heard gone faults sent losses scene → OpensAtOwn next
          → TakesOver stage.caps stage.links.bounds scene.staged next
          → (OpensAtOwn stage → (after : Scene O L G) → after.stage ≡ next → TurnsOver scene after)
          → IsNext begin next
      then_on begin stage next scene before is played own over turns =
          let ended : Ended begin scene = then_played begin stage scene before is played in
          carries_on (record {
            so = ended.so;
            own = own;
            caps_are = over.caps_are ∙ same_caps begin stage before;
            over = subst (λ (s : Scene O L G). TakesOver s.stage.caps s.stage.links.bounds s.staged next) (sym ended.last)
                (subst (λ (s : Stage O L G). TakesOver s.caps s.links.bounds scene.staged next) (sym is) over);
            turns = λ begins after same. subst (λ (s : Scene O L G). TurnsOver s after) (sym ended.last)
                (turns (opens_own begin stage before begins) after same);
          })

      pub then_over : ((first : Scene O L G) (scenes : List (Scene O L G)) → IsStaged keep heard gone faults first.stage first.clock first.staged
          → IsShow keep heard gone faults first scenes → IsChain first scenes)
          → (begin stage : Stage O L G) (scene : Scene O L G) (last : Staged O L G) → IsNext begin stage → scene.stage ≡ stage
          → IsPlayed keep heard gone faults sent losses scene → scene.staged ≡ last → PlaysShow keep heard gone faults sent losses begin last
      then_over law begin stage scene last before is played same =
          let ended : Ended begin scene = then_played begin stage scene before is played in
          record {
            first = ended.so.first;
            scenes = ended.so.scenes;
            begins = ended.so.begins;
            played = (ended.so.first_played, ended.so.played);
            taken_over = ended.so.taken_over;
            ends = ap (λ (s : Scene O L G). s.staged) ended.last ∙ same;
            show = ended.so.show;
            chain = λ own. law ended.so.first ended.so.scenes ended.so.first_played.staged (ended.so.show own);
          }

      -- What comes after a stage, once it was played.

      show_fault : (caps : Limits) (recording : List ℕ) (history : List Entry) → IsRecordingOf recording caps history → (fault : SeamFault)
          → IsSeamFault caps recording fault → IsShowFault caps recording fault
      show_fault caps recording history is NoRoom why = why
      show_fault caps recording history is TooLong why = why
      show_fault caps recording history is Unlike why = absurd (why caps history is)

      show_faults : (caps : Limits) (recording : List ℕ) (history : List Entry) → IsRecordingOf recording caps history → (fault : Option SeamFault)
          → IfSome fault (λ fault. IsSeamFault caps recording fault) → IfSome fault (λ fault. IsShowFault caps recording fault)
      show_faults caps recording history is None why = tt
      show_faults caps recording history is (Some fault) why = show_fault caps recording history is fault why

      -- why a show ended, by what its last stage recorded
      end_fault : (stage : Stage O L G) (scene : Scene O L G) → scene.stage ≡ stage → IsPlayed keep heard gone faults sent losses scene
          → (end : ShowEnd O L G) → end.staged ≡ scene.staged
          → IfSome end.fault (λ fault. IsSeamFault stage.caps scene.staged.recording.items fault)
          → IfSome end.fault (λ fault. IsShowFault stage.caps end.staged.recording.items fault)
      end_fault stage scene is played end same why =
          let recorded : IsRecordingOf scene.staged.recording.items scene.stage.caps played.records.history =
          record { legal = played.records.legal; text = played.records.recording } in
          let at : IsRecordingOf scene.staged.recording.items stage.caps played.records.history =
          subst (λ (s : Stage O L G). IsRecordingOf scene.staged.recording.items s.caps played.records.history) is recorded in
          subst (λ (s : Staged O L G). IfSome end.fault (λ fault. IsShowFault stage.caps s.recording.items fault)) (sym same)
          (show_faults stage.caps scene.staged.recording.items played.records.history at end.fault why)

      part_played : (stage : Stage O L G) (scene : Scene O L G) → scene.stage ≡ stage → IsPlayed keep heard gone faults sent losses scene
          → (part : Part O L G) → GoesOnFrom keep heard gone faults sent losses stage.caps stage.links.bounds scene.staged part
          → PlaysPart keep heard gone faults sent losses stage part
      part_played stage scene is played (GoesOn next) goes = (
        scene,
        is,
        played,
        goes.0,
        goes.1,
        goes.2,
        λ own after same. goes.3 scene after played.rec refl (ap (λ (s : Stage O L G). s.caps) is) played.staged played.records
            (subst OpensAtOwn (sym is) own) same,
      )
      part_played stage scene is played (Over end) ended =
          (scene, is, played, sym ended.0, end_fault stage scene is played end ended.0 ended.1)

      pub parts_played : {E : Type 0} (stage : Stage O L G) (scene : Scene O L G) → scene.stage ≡ stage
          → IsPlayed keep heard gone faults sent losses scene → (result : Result (Part O L G) E)
          → IfOk result (λ part. GoesOnFrom keep heard gone faults sent losses stage.caps stage.links.bounds scene.staged part)
          → IfOk result (λ part. PlaysPart keep heard gone faults sent losses stage part)
      parts_played stage scene is played (Ok part) goes = part_played stage scene is played part goes
      parts_played stage scene is played (Err error) goes = tt

      -- One turn of a show.

      abbrev pub IsLeft : Stage O L G → Option (Stage O L G) → Type 0
      IsLeft begin left = IsSomeAnd left (λ stage. CanPlay stage × IsNext begin stage)

      next_of : (begin stage : Stage O L G) (left : Option (Stage O L G)) → IsLeft begin left → left ≡ Some stage → IsNext begin stage
      next_of begin stage left inv is = (subst (λ (o : Option (Stage O L G)). IsLeft begin o) is inv).1

      pub loop_on : (begin stage next : Stage O L G) (left : Option (Stage O L G)) → IsLeft begin left → left ≡ Some stage
          → (part : Part O L G) → PlaysPart keep heard gone faults sent losses stage part → part ≡ GoesOn next → CanPlay next × IsNext begin next
      loop_on begin stage next left inv is part plays on =
          let (scene, same, played, can, own, over, turns) = subst (λ (p : Part O L G). PlaysPart keep heard gone faults sent losses stage p) on plays in
          (can, then_on begin stage next scene (next_of begin stage left inv is) same played own over turns)

      pub loop_over : ((first : Scene O L G) (scenes : List (Scene O L G)) → IsStaged keep heard gone faults first.stage first.clock first.staged
          → IsShow keep heard gone faults first scenes → IsChain first scenes)
          → (begin stage : Stage O L G) (left : Option (Stage O L G)) → IsLeft begin left → left ≡ Some stage
          → (part : Part O L G) (end : ShowEnd O L G) → PlaysPart keep heard gone faults sent losses stage part → part ≡ Over end
          → PlaysShow keep heard gone faults sent losses begin end.staged
      loop_over law begin stage left inv is part end plays over =
          let (scene, same, played, last, why) = subst (λ (p : Part O L G). PlaysPart keep heard gone faults sent losses stage p) over plays in
          then_over law begin stage scene end.staged (next_of begin stage left inv is) same played last

      pub fault_over : (begin stage : Stage O L G) (left : Option (Stage O L G)) → IsLeft begin left → left ≡ Some stage
          → (part : Part O L G) (end : ShowEnd O L G) → PlaysPart keep heard gone faults sent losses stage part → part ≡ Over end
          → IfSome end.fault (λ fault. IsShowFault begin.caps end.staged.recording.items fault)
      fault_over begin stage left inv is part end plays over =
          let (scene, same, played, last, why) = subst (λ (p : Part O L G). PlaysPart keep heard gone faults sent losses stage p) over plays in
          subst (λ (c : Limits). IfSome end.fault (λ fault. IsShowFault c end.staged.recording.items fault))
          (same_caps begin stage (next_of begin stage left inv is)) why
