-- The file of each command that has one is the last word.
use Rattle.std.proofs.Common.{◌≡◌, ◌∙◌, ℕ, List, [], ◌∷◌, Some, None, refl, sym, ap, drop, cond, map}
use Rattle.std.specs.Prelude.{unwrap_or}
use Rattle.std.specs.List.{last_or}
use Rattle.clap.specs.Words.{Kinds, Row, built, fault_of, first_of, matches_of, new_rule}
use Rattle.clap.specs.Walk.{arg_by_index, nothing_held}
use Rattle.clap.proofs.FaultLemmas.{leaf_fault}
use Rattle.osc_words.specs.Reading.{app_for, file_stands_last, found_by, plain_app_for, plain_found_by, unless_refused}
use Rattle.osc_words.proofs.Alike.{Alike}
use Rattle.osc_words.proofs.Plain.{alike, as_plain, untrailed}
use Rattle.osc_words.specs.declared.verb.Verb.TheVariants.{Lanes, Serve}
use Rattle.osc_words.proofs.LastWord.{HasFile, file_id, last_word}

unrefused : (kinds : Kinds) (rows found : List Row) → unless_refused kinds rows ≡ Some found → (kinds ≡ []) × (rows ≡ found)
unrefused [] rows found e = (refl, cc)
unrefused (kind ∷ kinds) rows found e = absurd (cc)

lanes_has_file : HasFile (built (app_for Lanes)).top.rules
lanes_has_file = record {
  file = unwrap_or (arg_by_index (built (app_for Lanes)).top.rules 1) (new_rule []);
  first = refl;
  second = refl;
  named = refl;
  id = refl;
  trails = refl;
  single = refl;
  set = refl;
  options = refl;
  defaults = refl;
  wanted = refl;
}

serve_has_file : HasFile (built (app_for Serve)).top.rules
serve_has_file = record {
  file = unwrap_or (arg_by_index (built (app_for Serve)).top.rules 1) (new_rule []);
  first = refl;
  second = refl;
  named = refl;
  id = refl;
  trails = refl;
  single = refl;
  set = refl;
  options = refl;
  defaults = refl;
  wanted = refl;
}

pub of_lanes : (words : List (List ℕ)) (rows : List Row) → found_by Lanes words ≡ Some rows → first_of file_id rows ≡ last_or None (drop 1 words)
unfolding found_by
of_lanes words rows found =
    let parts = unrefused (fault_of (app_for Lanes) words) (matches_of (app_for Lanes) words) rows found in
    ap (first_of file_id) (sym parts.1)
    ∙ last_word (built (app_for Lanes)).top lanes_has_file (drop 1 words) (sym (leaf_fault (built (app_for Lanes)) nothing_held (drop 1 words) refl) ∙ parts.0)

pub of_serve : (words : List (List ℕ)) (rows : List Row) → found_by Serve words ≡ Some rows → first_of file_id rows ≡ last_or None (drop 1 words)
unfolding found_by
of_serve words rows found =
    let parts = unrefused (fault_of (app_for Serve) words) (matches_of (app_for Serve) words) rows found in
    ap (first_of file_id) (sym parts.1)
    ∙ last_word (built (app_for Serve)).top serve_has_file (drop 1 words) (sym (leaf_fault (built (app_for Serve)) nothing_held (drop 1 words) refl) ∙ parts.0)

plain_lanes : Alike (built (app_for Lanes)).top.rules (map untrailed (built (app_for Lanes)).top.rules)
plain_lanes = alike (built (app_for Lanes)).top.rules (λ name. refl) (λ x. refl)

plain_serve : Alike (built (app_for Serve)).top.rules (map untrailed (built (app_for Serve)).top.rules)
plain_serve = alike (built (app_for Serve)).top.rules (λ name. refl) (λ x. refl)

pub lanes_plainly : (words : List (List ℕ)) → found_by Lanes words ≡ cond (file_stands_last Lanes words) (plain_found_by Lanes words) None
unfolding found_by plain_found_by file_stands_last
lanes_plainly words =
    ap (λ kinds. unless_refused kinds (matches_of (app_for Lanes) words)) (leaf_fault (built (app_for Lanes)) nothing_held (drop 1 words) refl)
    ∙ as_plain (built (app_for Lanes)).top lanes_has_file plain_lanes (drop 1 words)
    ∙ ap (λ kinds. cond (file_stands_last Lanes words) (unless_refused kinds (matches_of (plain_app_for Lanes) words)) None)
    (sym (leaf_fault (built (plain_app_for Lanes)) nothing_held (drop 1 words) refl))

pub serve_plainly : (words : List (List ℕ)) → found_by Serve words ≡ cond (file_stands_last Serve words) (plain_found_by Serve words) None
unfolding found_by plain_found_by file_stands_last
serve_plainly words =
    ap (λ kinds. unless_refused kinds (matches_of (app_for Serve) words)) (leaf_fault (built (app_for Serve)) nothing_held (drop 1 words) refl)
    ∙ as_plain (built (app_for Serve)).top serve_has_file plain_serve (drop 1 words)
    ∙ ap (λ kinds. cond (file_stands_last Serve words) (unless_refused kinds (matches_of (plain_app_for Serve) words)) None)
    (sym (leaf_fault (built (plain_app_for Serve)) nothing_held (drop 1 words) refl))

pub ruleset files = (of_lanes, of_serve, lanes_plainly, serve_plainly)
