-- What a release leaves of a performance.
use Rattle.std.proofs.Common.{◌≡◌, ℕ, ◌+◌, ◌*◌, ◌<◌, List, length, refl, sym, ap, subst, ◌∙◌}
use Rattle.osc_model.specs.State.{State}
use Rattle.osc_model.specs.Events.{release, adds_entry}
use Rattle.osc_model.specs.Recordings.{entry_size}
use Rattle.osc_model.specs.Step.{decided, calls_from, invocations_of}
use Rattle.osc_pattern.specs.Methods.{Method}
use Rattle.osc_model.specs.History.{Performance, state_of, stepped_in, onward}
use Rattle.osc_record.specs.Writing.{Recording, with_release}
use Rattle.osc_core.specs.Answers.{TellsRelease, OnReleased}
use Rattle.osc_core.specs.Due.{Releases, made_by}
use Rattle.osc_core.specs.Playing.{IsPlaying, performance_of}
use Rattle.osc_core.specs.declared.answers.Releasing.{Releasing}
use Rattle.osc_core.specs.declared.answers.Releasing.TheVariants as releasing
use Rattle.osc_core.proofs.Played.{PlayedLaw, FullLaw, refuses, releases_on, idle_answer, idle_silent, stays}

-- how many entries there are after a release that is answered so
abbrev pub entries_after : Releasing → ℕ → ℕ
entries_after (releasing.Released unit calls) entries = entries + 1
entries_after _ entries = entries

pub record IsLeft (answer : Releasing) (now : Performance) (caller : ℕ) (server next : State) (recorder : Recording) (entries : ℕ) : Type 0 where
  pub told : TellsRelease answer (stepped_in now release).answer
  pub performance : performance_of recorder ≡ onward now caller release
  pub playing : IsPlaying next recorder entries
  pub invocations : (stepped_in now release).invocations ≡ made_by answer (decided server release).invocations

same_playing : (server next : State) (before after : Recording) (entries : ℕ) → next ≡ server → after ≡ before → IsPlaying server before entries
    → IsPlaying next after entries
same_playing server next before after entries s r playing =
    subst (λ (t : State). IsPlaying t after entries) (sym s) (subst (λ (t : Recording). IsPlaying server t entries) (sym r) playing)

pub release_leaves : PlayedLaw → FullLaw → (answer : Releasing) (server next : State) (before after : Recording) (entries caller : ℕ) (now : Performance)
    → IsPlaying server before entries → performance_of before ≡ now → caller < (state_of now).callers
    → Releases answer caller server next before after → IsLeft answer now caller server next after (entries_after answer entries)
release_leaves played full (releasing.Released unit calls) server next before after entries caller now playing view enrolled is =
    let on = releases_on played server before entries caller unit calls is.hits next
    (with_release before caller unit calls) after now playing view enrolled is.due is.many is.fits is.state refl is.recorder in
    record { told = (is.hits, on.0.answer_is, is.many); performance = on.0.performance; playing = on.0.playing; invocations = on.1 }
release_leaves played full (releasing.NothingDue least) server next before after entries caller now playing view enrolled is =
    let answer = idle_answer server before entries now least playing view is.none in
    record {
      told = answer;
      performance = ap performance_of is.recorder ∙ view ∙ sym (stays now caller release (ap adds_entry answer));
      playing = same_playing server next before after entries is.state is.recorder playing;
      invocations = idle_silent server before entries now least playing view is.none;
    }
release_leaves played full (releasing.RecordFull room) server next before after entries caller now playing view enrolled is =
    let sized : 44 + 8 * length is.hits ≡ entry_size release (decided server release).answer = sym (ap (entry_size release) is.due) in
    let kept = refuses full server before entries caller release room (44 + 8 * length is.hits) now playing view (ap adds_entry is.due) sized is.wanting in
    record {
      told = kept.answer;
      performance = ap performance_of is.recorder ∙ view ∙ sym kept.stays;
      playing = same_playing server next before after entries is.state is.recorder playing;
      invocations = kept.silent;
    }

-- what was read of a unit is what its release invokes
pub read_leaves : (answer : Releasing) (now : Performance) (server : State) (read : List (List ℕ))
    → (stepped_in now release).invocations ≡ made_by answer (decided server release).invocations → server.methods ≡ (state_of now).methods
    → OnReleased answer (λ unit. (decided server release).invocations ≡ invocations_of unit (calls_from server.methods 0 read))
    → OnReleased answer (λ unit. (stepped_in now release).invocations ≡ invocations_of unit (calls_from (state_of now).methods 0 read))
read_leaves (releasing.Released unit calls) now server read invocations methods is =
    invocations ∙ is ∙ ap (λ (l : List Method). invocations_of unit (calls_from l 0 read)) methods
read_leaves (releasing.NothingDue least) now server read invocations methods is = tt
read_leaves (releasing.RecordFull room) now server read invocations methods is = tt
