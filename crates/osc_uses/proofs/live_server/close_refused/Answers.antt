use Rattle.std.proofs.Common.{rules, ◌≡◌, List, [], ◌∷◌, ◌++◌, map, All, Option, Some, None, IfSome, sym, ap, subst, ◌∙◌}
use Rattle.std.specs.Option.{option_to_list}
use Rattle.std.proofs.lemmas.List.Elements.{All-cons, All-nil}
use Rattle.osc_turn.specs.Passes.{view}
use Rattle.osc_core.specs.Telling.{told}
use Rattle.osc_live.specs.declared.caller.Caller.{Caller}
use Rattle.osc_live.specs.declared.guest.Guest.{Guest}
use Rattle.osc_live.specs.Closing.{Closes, known, views_of}
use Rattle.osc_live.specs.Tokens.{IsOurs}
use Rattle.osc_uses.proofs.Alone.{refused_cause}
use Rattle.osc_uses.proofs.live_server.close_refused.Goals as goal

both_all : (P : Caller → Type 0) (first : Caller) (second : Option Caller) → P first → IfSome second P → All P (first ∷ option_to_list second)
both_all P first None one two = All-cons P first [] one (All-nil P)
both_all P first (Some second) one two = All-cons P first (second ∷ []) one (All-cons P second [] two (All-nil P))

pub close-requires-clause-callers_ours : goal.close-requires-clause-callers_ours
close-requires-clause-callers_ours g c =
    subst (All (IsOurs c.args.live)) (sym c.in-Ok.ensures)
    (both_all (IsOurs c.args.live) c.args.back.first c.args.second c.requires.ours.0 c.requires.second_ours)

-- what all tokens know
views_are : (callers : List Caller) (guests : List Guest) (first : Caller) (guest : Guest) (second : Option Caller)
    → callers ≡ first ∷ option_to_list second → guests ≡ guest ∷ []
    → views_of callers guests ≡ view first.pass ∷ (map (λ caller. view caller.pass) (option_to_list second) ++ view guest.pass ∷ [])
views_are callers guests first guest second are is =
    ap (λ (l : List Caller). views_of l guests) are ∙ ap (λ (l : List Guest). views_of (first ∷ option_to_list second) l) is

pub returns-in-Ok-close-clause-cause : goal.returns-in-Ok-close-clause-cause
returns-in-Ok-close-clause-cause g c =
    let guests : c.push_reserved.new.self.items ≡ c.args.back.guest ∷ [] = search rules in
    refused_cause c.args.live.caps c.args.second c.args.back.refusal (view c.args.back.first.pass) (view c.args.back.guest.pass) _ _ _ _ c.requires.refused
    (views_are c.in-Ok.callers.items c.push_reserved.new.self.items c.args.back.first c.args.back.guest c.args.second c.in-Ok.ensures guests)
    (subst (λ past. Closes c.args.live.caps past (known c.in-Ok.callers.items) (views_of c.in-Ok.callers.items c.push_reserved.new.self.items)
    c.in-Ok-close.field-0.bytes.items (told g.M.Method.keep g.M.Method.heard c.in-Ok-close.field-0.kept.items)) c.requires.empty c.in-Ok-close.ensures.closes)
