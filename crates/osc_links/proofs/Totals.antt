-- What links come to together, link by link.
use Rattle.std.proofs.Common.{◌≡◌, ℕ, ◌+◌, Bool, true, false, List, [], ◌∷◌, ◌++◌, map, Option, Some, None, refl, sym, ap, ◌∙◌}
use Rattle.std.proofs.Common.{append_assoc}
use Rattle.std.specs.Prelude.{if◌then◌else◌}
use Rattle.std.specs.Option.{option_map, option_or}
use Rattle.osc_atoms.specs.declared.fault.Fault.{Fault}
use Rattle.osc_atoms.specs.declared.room.Room.{Room as CodeRoom}
use Rattle.osc_model.specs.Events.{Room}
use Rattle.osc_record.specs.Shown.{room_of}
use Rattle.osc_links.specs.declared.link_work.LinkEnd.{LinkEnd}
use Rattle.osc_links.specs.declared.served.TickerEnd.{TickerEnd}
use Rattle.osc_links.specs.Links.{stop_by}
use Rattle.osc_links.specs.Serves.{has_failed, faults_from, failed_from, stop_of_all}

pub mapped_on : {E X : Type 0} (f : E → X) (one : E) (rest before : List E) (old new all : List X) → new ≡ old ++ f one ∷ [] → before ≡ one ∷ rest
    → old ++ map f before ≡ all → new ++ map f rest ≡ all
mapped_on {X = X} f one rest before old new all items steps so_far =
    ap (λ (l : List X). l ++ map f rest) items ∙ append_assoc old (f one ∷ []) (map f rest) ∙ ap (λ b. old ++ map f b) (sym steps) ∙ so_far

first_or : (failed rest : Option ℕ) (link : ℕ) (test : Bool)
    → option_or (option_or failed (if test then Some link else None)) rest ≡ option_or failed (if test then Some link else rest)
first_or None rest link true = refl
first_or None rest link false = refl
first_or (Some other) rest link test = refl

stop_or : (stop one : Option CodeRoom) (rest : Option Room)
    → option_or (option_map room_of (option_or stop one)) rest ≡ option_or (option_map room_of stop) (option_or (option_map room_of one) rest)
stop_or None one rest = refl
stop_or (Some room) one rest = refl

module _ {L : Type 0} (end : LinkEnd L) (rest before : List (LinkEnd L)) (steps : before ≡ end ∷ rest) where
  pub faults_on : (link : ℕ) (old new all : List (ℕ × ℕ × Fault)) → new ≡ old ++ map (λ (one : ℕ × Fault). (link, one.0, one.1)) end.faults.items
      → old ++ faults_from link before ≡ all → new ++ faults_from (link + 1) rest ≡ all
  faults_on link old new all items so_far =
      ap (λ (l : List (ℕ × ℕ × Fault)). l ++ faults_from (link + 1) rest) items
      ∙ append_assoc old (map (λ (one : ℕ × Fault). (link, one.0, one.1)) end.faults.items) (faults_from (link + 1) rest)
      ∙ ap (λ (b : List (LinkEnd L)). old ++ faults_from link b) (sym steps) ∙ so_far

  pub failed_on : (link : ℕ) (failed one new all : Option ℕ) → new ≡ option_or failed one → one ≡ (if has_failed end.over then Some link else None)
      → option_or failed (failed_from link before) ≡ all → option_or new (failed_from (link + 1) rest) ≡ all
  failed_on link failed one new all is so so_far =
      ap (λ (n : Option ℕ). option_or n (failed_from (link + 1) rest)) (is ∙ ap (option_or failed) so)
      ∙ first_or failed (failed_from (link + 1) rest) link (has_failed end.over)
      ∙ ap (λ (b : List (LinkEnd L)). option_or failed (failed_from link b)) (sym steps) ∙ so_far

  pub stop_on : (ticker : TickerEnd) (stop one new : Option CodeRoom) (all : Option Room) → new ≡ option_or stop one → option_map room_of one ≡ stop_by end.over
      → option_or (option_map room_of stop) (stop_of_all before ticker) ≡ all → option_or (option_map room_of new) (stop_of_all rest ticker) ≡ all
  stop_on ticker stop one new all is so so_far =
      ap (λ (n : Option CodeRoom). option_or (option_map room_of n) (stop_of_all rest ticker)) is
      ∙ stop_or stop one (stop_of_all rest ticker)
      ∙ ap (λ (o : Option Room). option_or (option_map room_of stop) (option_or o (stop_of_all rest ticker))) so
      ∙ ap (λ (b : List (LinkEnd L)). option_or (option_map room_of stop) (stop_of_all b ticker)) (sym steps) ∙ so_far
