-- A release that is begun: with each hit it is kept, and with the last it is an entry.
use Rattle.std.proofs.Common.{◌≡◌, ℕ, ◌+◌, ◌-◌, ◌*◌, ◌<◌, ◌≤◌, ◌^◌, Bool, true, false, cond, ◌==◌, List, [], ◌∷◌, ◌++◌, length, take, drop, Option, Some, None}
use Rattle.std.proofs.Common.{refl, sym, ap, ◌∙◌, subst, arith, length-append, codes, eqb-true, append_assoc, append-nil, take-append-drop}
use Rattle.std.specs.List.{AllByRecursion}
use Rattle.std.proofs.lemmas.Bool.{cond-true, cond-false, ne_eqb}
use Rattle.std.proofs.lemmas.List.{length-take-le}
use Rattle.osc_atoms.specs.Atoms.{word, tag, string}
use Rattle.osc_message.specs.Messages.{tag_string}
use Rattle.osc_model.specs.Events.{Hit, release, released}
use Rattle.osc_model.specs.Limits.{Limits}
use Rattle.osc_model.specs.Events.{Entry as Recorded}
use Rattle.osc_model.specs.Recordings.{row_text, release_row, sized, entry_text, IsHit, IsRecordable, hit_text, hits_text, hits_in}
use Rattle.osc_record.specs.Writing.{Begun, Recording, release_head, begun_text, settled, with_hit, entries_in, begun_in, recording_of, AreWhole, IsKept}
use Rattle.osc_model.proofs.Sizes.{length-hits_text, eights}
use Rattle.osc_record.proofs.Lawful.{hits_again}
use Rattle.osc_record.proofs.Again.{take_front, drop_front}
use Rattle.osc_record.proofs.Kept.{whole_more, whole_kept, whole_view, all_whole}

pub release_shape : (caller unit : ℕ) (content : List ℕ) (k : ℕ) → length content ≡ 8 * k
    → release_head caller unit k ++ content ≡ sized (row_text (release_row caller unit content))
release_shape caller unit content k is =
    let body : List ℕ = string (codes "/osc/release") ++ (tag_string (codes "ihb") ++ (word caller ++ (tag unit ++ (word (8 * k) ++ content)))) in
    let text : row_text (release_row caller unit content) ≡ body =
    ap (λ l. string (codes "/osc/release") ++ (tag_string (codes "ihb") ++ (word caller ++ (tag unit ++ l)))) (eights content k is) in
    let size : length (row_text (release_row caller unit content)) ≡ 40 + 8 * k = ap length text ∙ omega arith in
    λ i. word (sym size i) ++ sym text i

-- a release with all its hits is an entry
pub release_text : (caller unit : ℕ) (hits : List Hit)
    → release_head caller unit (length hits) ++ hits_text hits ≡ entry_text caller release (released unit hits)
release_text caller unit hits = release_shape caller unit (hits_text hits) (length hits) (length-hits_text hits)

pub record Settles (limits : Limits) (old : Recording) (begun : Begun) (new : List ℕ) (end after : ℕ) : Type 0 where
  pub kept : IsKept limits new end begun.caller begun.unit begun.owed after
  pub view : recording_of limits new end begun.caller begun.unit begun.owed ≡ settled old begun

pub settle : (limits : Limits) (old : Recording) (front : List ℕ) (begun : Begun) (new : List ℕ) (end after : ℕ) → old.caps ≡ limits
    → old.entries ≡ entries_in limits front → AreWhole limits front
    → AllByRecursion IsHit begun.hits → begun.caller < 2 ^ 31 → begun.unit < 2 ^ 63 → length new + 8 * begun.owed ≤ limits.recording
    → limits.recording ≤ 1073741824 → limits.recording ≤ after
    → new ≡ front ++ (release_head begun.caller begun.unit (length begun.hits + begun.owed) ++ hits_text begun.hits)
    → end ≡ cond (begun.owed == 0) (length new) (length front) → Settles limits old begun new end after
settle limits old front begun new end after caps entries whole hits caller_fits unit_fits room small reserved out ends = go (begun.owed == 0) refl ends where
  go : (t : Bool) → (begun.owed == 0) ≡ t → end ≡ cond t (length new) (length front) → Settles limits old begun new end after
  go true is there =
      let owes : begun.owed ≡ 0 = eqb-true begun.owed 0 is in
      let text : List ℕ = entry_text begun.caller release (released begun.unit begun.hits) in
      let count : length begun.hits + begun.owed ≡ length begun.hits = omega arith in
      let text_is : new ≡ front ++ text = out ∙ ap (λ n. front ++ (release_head begun.caller begun.unit n ++ hits_text begun.hits)) count
      ∙ ap (λ l. front ++ l) (release_text begun.caller begun.unit begun.hits) in
      let entry : Recorded = record { caller = begun.caller; event = release; answer = released begun.unit begun.hits } in
      let size : length begun.hits * 8 ≤ 1073741824 =
      omega (
        arith,
        length-hits_text begun.hits,
        ap length out,
        length-append front
            (release_head begun.caller begun.unit (length begun.hits + begun.owed) ++ hits_text begun.hits),
        length-append
            (release_head begun.caller begun.unit (length begun.hits + begun.owed)) (hits_text begun.hits),
      ) in
      let lawful : IsRecordable begun.caller release (released begun.unit begun.hits) =
      record { fits = (record { sfits = caller_fits }, (record { sfits = unit_fits }, (omega (arith, length-hits_text begun.hits), tt))); sound = hits } in
      let grown = whole_more limits front entry whole lawful (omega (arith, ap length text_is, length-append front text)) small in
      let all : AreWhole limits new = subst (AreWhole limits) (sym text_is) grown.whole in
      record {
        kept = whole_kept limits new end begun.caller begun.unit begun.owed after all there owes (omega arith) small reserved caller_fits unit_fits;
        view = whole_view limits new end begun.caller begun.unit begun.owed there owes
            ∙ (λ i. record {
              caps = sym caps i;
              entries = (ap (entries_in limits) text_is ∙ grown.entries ∙ ap (λ (l : List Recorded). l ++ entry ∷ []) (sym entries)) i;
              begun = None;
            })
            ∙ sym (cond-true (begun.owed == 0) _ _ is);
      }
  go false is there =
      let tail : List ℕ = release_head begun.caller begun.unit (length begun.hits + begun.owed) ++ hits_text begun.hits in
      let fore : take end new ≡ front = (λ i. take (there i) (out i)) ∙ take_front front tail in
      let rest : drop end new ≡ tail = (λ i. drop (there i) (out i)) ∙ drop_front front tail in
      let read : hits_in (drop 44 (drop end new)) ≡ begun.hits = ap (λ l. hits_in (drop 44 l)) rest ∙ hits_again begun.hits hits in
      let seen : begun_in begun.caller begun.unit begun.owed (drop end new) ≡ Some begun =
      cond-false (begun.owed == 0) _ _ is ∙ (λ i. Some (record { caller = begun.caller; unit = begun.unit; hits = read i; owed = begun.owed })) in
      record {
        kept = record {
          whole = subst (AreWhole limits) (sym fore) whole;
          begun = rest ∙ sym (ap begun_text seen);
          hits = subst (AllByRecursion IsHit) (sym read) hits;
          started = omega (arith, ap length out, length-append front tail);
          room = room;
          small = small;
          reserved = reserved;
          caller_fits = caller_fits;
          unit_fits = unit_fits;
        };
        view = (λ i. record { caps = sym caps i; entries = (ap (entries_in limits) fore ∙ sym entries) i; begun = seen i })
            ∙ sym (cond-false (begun.owed == 0) _ _ is);
      }

-- a release is begun behind whole entries
pub release_keeps : (limits : Limits) (bytes : List ℕ) (start c u owed capacity caller unit hits : ℕ) (new : List ℕ) (end after : ℕ)
    → IsKept limits bytes start c u owed capacity → (recording_of limits bytes start c u owed).begun ≡ None
    → caller < 2 ^ 31 → unit < 2 ^ 63 → length bytes + (44 + 8 * hits) ≤ limits.recording → new ≡ bytes ++ release_head caller unit hits
    → end ≡ cond (hits == 0) (length new) start → capacity ≤ after
    → Settles limits (recording_of limits bytes start c u owed) (record { caller = caller; unit = unit; hits = []; owed = hits }) new end after
release_keeps limits bytes start c u owed capacity caller unit hits new end after kept none caller_fits unit_fits room out ends more =
    let all = all_whole limits bytes start c u owed capacity kept none in
    let whole : AreWhole limits bytes = subst (AreWhole limits) all kept.whole in
    let begun : Begun = record { caller = caller; unit = unit; hits = []; owed = hits } in
    let start_is : start ≡ length bytes = sym (length-take-le start bytes kept.started) ∙ ap length all in
    let count : 0 + hits ≡ hits = omega arith in
    let text : new ≡ bytes ++ (release_head caller unit (0 + hits) ++ []) =
    out ∙ ap (λ l. bytes ++ l) (sym (append-nil (release_head caller unit hits)) ∙ ap (λ n. release_head caller unit n ++ []) (sym count)) in
    let small = kept.small in
    let reserved = kept.reserved in
    settle limits (recording_of limits bytes start c u owed) bytes begun new end after refl (ap (entries_in limits) all) whole tt caller_fits unit_fits
    (omega (arith, ap length out, length-append bytes (release_head caller unit hits))) small (omega arith) text
    (ends ∙ ap (cond (hits == 0) (length new)) start_is)

hits_more : (hits : List Hit) (hit : Hit) → hits_text (hits ++ hit ∷ []) ≡ hits_text hits ++ hit_text hit
hits_more [] hit = append-nil (hit_text hit)
hits_more (h ∷ hits) hit = ap (λ (l : List ℕ). hit_text h ++ l) (hits_more hits hit) ∙ sym (append_assoc (hit_text h) (hits_text hits) (hit_text hit))

all_more : (hits : List Hit) (hit : Hit) → AllByRecursion IsHit hits → IsHit hit → AllByRecursion IsHit (hits ++ hit ∷ [])
all_more [] hit all is = (is, tt)
all_more (h ∷ hits) hit all is = (all.0, all_more hits hit all.1 is)

pub record HitKeeps (limits : Limits) (bytes : List ℕ) (start caller unit owed : ℕ) (hit : Hit) (new : List ℕ) (end left after : ℕ) : Type 0 where
  pub kept : IsKept limits new end caller unit left after
  pub view : recording_of limits new end caller unit left ≡ with_hit (recording_of limits bytes start caller unit owed) hit

pub hit_keeps : (limits : Limits) (bytes : List ℕ) (start caller unit owed capacity : ℕ) (hit : Hit) (new : List ℕ) (end left after : ℕ)
    → IsKept limits bytes start caller unit owed capacity → 0 < owed → IsHit hit
    → new ≡ bytes ++ hit_text hit → left ≡ owed - 1 → end ≡ cond (left == 0) (length new) start → capacity ≤ after
    → HitKeeps limits bytes start caller unit owed hit new end left after
hit_keeps limits bytes start caller unit owed capacity hit new end left after kept some is out lefts ends more =
    let old : List Hit = hits_in (drop 44 (drop start bytes)) in
    let was : Begun = record { caller = caller; unit = unit; hits = old; owed = owed } in
    let seen : begun_in caller unit owed (drop start bytes) ≡ Some was = cond-false (owed == 0) _ _ (ne_eqb owed 0 (λ e. omega arith)) in
    let begun : Begun = record { caller = caller; unit = unit; hits = old ++ hit ∷ []; owed = left } in
    let front : List ℕ = take start bytes in
    let head : List ℕ = release_head caller unit (length old + owed) in
    let rest : drop start bytes ≡ head ++ hits_text old = kept.begun ∙ ap begun_text seen in
    let whole : bytes ≡ front ++ (head ++ hits_text old) = sym (take-append-drop start bytes) ∙ ap (λ l. front ++ l) rest in
    let count : length old + owed ≡ length (old ++ hit ∷ []) + left = omega (arith, length-append old (hit ∷ [])) in
    let text : new ≡ front ++ (release_head caller unit (length (old ++ hit ∷ []) + left) ++ hits_text (old ++ hit ∷ [])) =
    out ∙ ap (λ l. l ++ hit_text hit) whole ∙ append_assoc front (head ++ hits_text old) (hit_text hit)
    ∙ ap (λ l. front ++ l) (append_assoc head (hits_text old) (hit_text hit))
    ∙ (λ i. front ++ (release_head caller unit (count i) ++ sym (hits_more old hit) i)) in
    let room = kept.room in
    let reserved = kept.reserved in
    let done = settle limits (recording_of limits bytes start caller unit owed) front begun new end after refl refl kept.whole
    (all_more old hit kept.hits is) kept.caller_fits kept.unit_fits
    (omega (arith, ap length out, length-append bytes (hit_text hit))) kept.small (omega arith) text
    (ends ∙ ap (cond (left == 0) (length new)) (sym (length-take-le start bytes kept.started))) in
    record {
      kept = done.kept;
      view = done.view
          ∙ ap (λ (n : ℕ). settled (recording_of limits bytes start caller unit owed)
          (record { caller = caller; unit = unit; hits = old ++ hit ∷ []; owed = n })) lefts
          ∙ sym (ap (hit_onto (recording_of limits bytes start caller unit owed)) seen);
    }
  where
    hit_onto : Recording → Option Begun → Recording
    hit_onto recording None = recording
    hit_onto recording (Some b) = settled recording (record { caller = b.caller; unit = b.unit; hits = b.hits ++ hit ∷ []; owed = b.owed - 1 })
