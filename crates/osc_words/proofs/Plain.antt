-- What is found is what clap finds by the plain command, where no positional stands before the last word.
use Rattle.std.proofs.Common.{◌≡◌, ◌∙◌, ◌⊎◌, inl, inr, ℕ, suc, ◌+◌, ◌-◌, ◌≤◌, ◌==◌, min, Bool, true, false, cond, List, [], ◌∷◌, Option, Some, None, map, take}
use Rattle.std.proofs.Common.{length, refl, sym, ap, arith, subst}
use Rattle.std.specs.Prelude.{not, ◌&&◌, fold, is_some, option_map}
use Rattle.std.specs.List.{list_any}
use Rattle.std.specs.Option.{option_map_or}
use Rattle.std.specs.Str.{bytes_eq}
use Rattle.std.proofs.lemmas.Bool.Decides.{nat_tests}
use Rattle.clap.specs.Lexer.{long_of, short_of}
use Rattle.osc_words.specs.Reading.{unless_refused}
use Rattle.clap.specs.Walk.{Outcome, after_flag, bundle, done, idle, long_met, long_or_other, option, plain, plain_word, positional, refused, short_or_plain}
use Rattle.clap.specs.Walk.{subcommand_or_other, waits}
use Rattle.clap.specs.Walk.{Held, Row, Rule, Step, Text, Waiting, Walk, action_of, after_step, arg_by_id, arg_by_index, arg_by_long, arg_by_short, finished}
use Rattle.clap.specs.Walk.{is_multiple, is_pending, next, nothing_held, option_word, pushed, rows_after, settled, settled_rows, subcommand, subcommand_met}
use Rattle.clap.specs.Walk.{takes_several, to_positional, trailing, used_by_id, value, walk, walk_from, walked, walked_from, with_default, word_met}
use Rattle.clap.specs.Words.{Kinds}
use Rattle.clap.specs.Kinds.{or_else, check_kinds}
use Rattle.clap.specs.Takes.{is_given}
use Rattle.clap.specs.Facts.{explicit_source}
use Rattle.clap.specs.Faults.{action_fault, check_fault, default_fault, defaults_fault, level_fault, positional_fault, settle_fault, step_fault, stray_fault}
use Rattle.clap.specs.Faults.{turn_fault, use_fault, walk_fault}
use Rattle.clap.specs.Simple.{Shape}
use Rattle.clap.specs.declared.builder.action.ArgAction.{ArgAction}
use Rattle.clap.specs.declared.builder.action.ArgAction.TheVariants as action
use Rattle.clap.proofs.WalkLemmas.{find-map, list_any-map}
use Rattle.osc_words.proofs.Alike.{Alike, word_same, word_fault_same}
use Rattle.osc_words.proofs.LastWord.{Clean, Done, HasFile, Safe, SafeStep, met, or_else_parts, or_true, placed, refuses_strays, stray}

-- an argument behind which options are read
abbrev pub untrailed : Rule → Rule
untrailed a = record a { trailing_var_arg = false }

by_id : (c : List Rule) (id : Text) → arg_by_id (map untrailed c) id ≡ option_map untrailed (arg_by_id c id)
by_id c id = sym (find-map (λ a. bytes_eq a.id id) untrailed c)

same_used : (o : Option Rule) (values : List Text) (rows : List Row) → used_by_id o values rows ≡ used_by_id (option_map untrailed o) values rows
same_used None values rows = refl
same_used (Some a) values rows = refl

same_rows : (c : List Rule) (pending : Option (Text × List Text)) (rows : List Row) → settled_rows c pending rows ≡ settled_rows (map untrailed c) pending rows
same_rows c None rows = refl
same_rows c (Some p) rows = same_used (arg_by_id c p.0) p.1 rows ∙ sym (ap (λ o. used_by_id o p.1 rows) (by_id c p.0))

same_action : (x : ArgAction) (again : Bool) (a : Rule) (values : List Text) (rows : List Row)
    → action_fault x again a values rows ≡ action_fault x again (untrailed a) values rows
same_action action.Set again a values rows = refl
same_action action.SetTrue again a values rows = refl
same_action action.SetFalse again a values rows = refl
same_action action.Append again a values rows = refl
same_action action.Count again a [] rows = refl
same_action action.Count again a (v ∷ vs) rows = refl
same_action action.Help again a values rows = refl
same_action action.HelpShort again a values rows = refl
same_action action.HelpLong again a values rows = refl
same_action action.Version again a values rows = refl

same_use : (again : Bool) (a : Rule) (values : List Text) (rows : List Row) → use_fault again a values rows ≡ use_fault again (untrailed a) values rows
same_use again a [] rows = ap (or_else _) (same_action (action_of a) again a a.missing rows)
same_use again a (v ∷ vs) rows = ap (or_else _) (same_action (action_of a) again a (v ∷ vs) rows)

same_fault : (c : List Rule) (again : Bool) (pending : Option (Text × List Text)) (rows : List Row)
    → option_map_or (λ p. option_map_or (λ a. use_fault again a p.1 rows) (arg_by_id c p.0) []) pending []
    ≡ option_map_or (λ p. option_map_or (λ a. use_fault again a p.1 rows) (arg_by_id (map untrailed c) p.0) []) pending []
same_fault c again None rows = refl
same_fault c again (Some p) rows = go (arg_by_id c p.0) ∙ sym (ap (λ o. option_map_or (λ a. use_fault again a p.1 rows) o []) (by_id c p.0))
  where
    go : (o : Option Rule) → option_map_or (λ a. use_fault again a p.1 rows) o [] ≡ option_map_or (λ a. use_fault again a p.1 rows) (option_map untrailed o) []
    go None = refl
    go (Some a) = same_use again a p.1 rows

same_word : (o : Option Rule) (id word : Text) (h : Held) → option_word o id word h ≡ option_word (option_map untrailed o) id word h
same_word None id word h = refl
same_word (Some a) id word h = refl

pub alike : (c : List Rule) → ((name : Text) → arg_by_long c name ≡ arg_by_long (map untrailed c) name)
    → ((x : ℕ) → arg_by_short c x ≡ arg_by_short (map untrailed c) x)
    → Alike c (map untrailed c)
alike c long short = record {
  long = long;
  short = short;
  settle = λ h. ap (λ (rows : List Row). record h { rows = rows; pending = None }) (same_rows c h.pending h.rows);
  fault = λ again h. same_fault c again h.pending h.rows;
  word = λ id word h. same_word (arg_by_id c id) id word h ∙ sym (ap (λ o. option_word o id word h) (by_id c id));
}

same_finished : (c : List Rule) (rows : List Row) → fold with_default rows c ≡ fold with_default rows (map untrailed c)
same_finished [] rows = refl
same_finished (a ∷ c) rows = same_finished c (with_default rows a)

same_defaults : (c : List Rule) (rows : List Row) → defaults_fault rows c ≡ defaults_fault rows (map untrailed c)
unfolding defaults_fault
same_defaults [] rows = refl
same_defaults (a ∷ c) rows = ap (or_else (default_fault rows a)) (same_defaults c (with_default rows a))

abbrev pub bare : Shape → Shape
bare s = record s { rules = map untrailed s.rules }

same_checks : (s : Shape) (rows : List Row) → check_fault s rows false ≡ check_fault (bare s) rows false
same_checks s rows =
    ap (λ b. check_kinds (not false && (s.arg_required_else_help && not (list_any (λ r. explicit_source r.source) rows))) (not false && s.subcommand_required)
    (not (s.subcommand_negates_reqs && false) && b))
    (list_any-map (λ (a : Rule). a.required && not (is_given a.id rows)) untrailed s.rules)

module _ (s : Shape) (f : HasFile s.rules) (l : Alike s.rules (map untrailed s.rules)) where
  at_first : arg_by_index (map untrailed s.rules) 1 ≡ Some (untrailed f.file)
  at_first = sym (find-map (λ (a : Rule). option_map_or (λ k. k == 1) a.index false) untrailed s.rules) ∙ ap (option_map untrailed) f.first

  -- the walks go on together, or the file was met
  record Same (word : Text) (a b : Walk) : Type 0 where
    clean : Clean a
    same : a ≡ b

  record Met (word : Text) (a b : Walk) : Type 0 where
    done : Done a word
    same : a ≡ record b { is_trailing = true }

  together : (w : Walk) (word : Text) (h : Held) (step : Step) → Clean w → Safe h → SafeStep step
      → Same word (after_step s.rules word w h step) (after_step (map untrailed s.rules) word w h step)
      ⊎ Met word (after_step s.rules word w h step) (after_step (map untrailed s.rules) word w h step)
  together w word h (next waiting) clean safe free =
      inl (record { clean = record { held = safe; waiting = free; position = clean.position; running = clean.running }; same = refl })
  together w word h (trailing position) clean safe first =
      inl (record { clean = record { held = safe; waiting = clean.waiting; position = first; running = clean.running }; same = refl })
  together w word h (subcommand name) clean safe never = absurd never
  together w word h value clean safe any =
      let here : Some f.file ≡ arg_by_index s.rules w.position = sym (ap (arg_by_index s.rules) clean.position ∙ f.first) in
      let there : Some (untrailed f.file) ≡ arg_by_index (map untrailed s.rules) w.position =
      sym (ap (arg_by_index (map untrailed s.rules)) clean.position ∙ at_first) in
      let start : Met word (to_positional s.rules (Some f.file) word w h) (to_positional (map untrailed s.rules) (Some (untrailed f.file)) word w h) = record {
        done = placed s.rules f w word h clean.position safe;
        same = (λ i. record (to_positional s.rules (Some f.file) word w h) {
          held = pushed f.file.id word (cond (is_pending f.file h.pending && takes_several f.file) h (l.settle h i));
          is_trailing = or_true w.is_trailing f.file.trailing_var_arg f.trails i;
        });
      } in
      inr (subst (λ (o : Option Rule). Met word (to_positional s.rules o word w h)
      (to_positional (map untrailed s.rules) (arg_by_index (map untrailed s.rules) w.position) word w h)) here
      (subst (λ (o : Option Rule). Met word (to_positional s.rules (Some f.file) word w h) (to_positional (map untrailed s.rules) o word w h)) there start))

  simulate : (w : Walk) (word : Text) → Clean w
      → Same word (walked s.rules [] w word) (walked (map untrailed s.rules) [] w word)
      ⊎ Met word (walked s.rules [] w word) (walked (map untrailed s.rules) [] w word)
  unfolding walked
  simulate w word clean =
      let m = met s.rules f w word w.is_trailing clean in
      let here = word_met s.rules [] w.is_trailing w.waiting w.position word w.held in
      let same : word_met s.rules [] w.is_trailing w.waiting w.position word w.held
      ≡ word_met (map untrailed s.rules) [] w.is_trailing w.waiting w.position word w.held =
      word_same s.rules (map untrailed s.rules) l w.is_trailing w.waiting w.position word w.held in
      subst (λ (o : Option (Text × List Text)). Same word (walked_from s.rules [] o w word) (walked_from (map untrailed s.rules) [] o w word)
      ⊎ Met word (walked_from s.rules [] o w word) (walked_from (map untrailed s.rules) [] o w word)) (sym clean.running)
      (subst (λ (n : Held × Step). Same word (after_step s.rules word w here.0 here.1) (after_step (map untrailed s.rules) word w n.0 n.1)
      ⊎ Met word (after_step s.rules word w here.0 here.1) (after_step (map untrailed s.rules) word w n.0 n.1)) same
      (together w word here.0 here.1 clean m.held m.step))

  same_step_fault : (position : ℕ) (h : Held) (step : Step) → position ≡ 1 → step_fault s position h step ≡ step_fault (bare s) position h step
  same_step_fault position h (next waiting) first = refl
  same_step_fault position h (trailing p) first = refl
  same_step_fault position h (subcommand name) first = refl
  same_step_fault position h value first =
      ap (λ o. option_map_or (λ a. positional_fault s.rules s.args_override_self a h) o (stray_fault s)) (ap (arg_by_index s.rules) first ∙ f.first)
      ∙ ap (λ ks. cond (is_pending f.file h.pending && takes_several f.file) [] ks) (l.fault s.args_override_self h)
      ∙ sym (ap (λ o. option_map_or (λ a. positional_fault (map untrailed s.rules) s.args_override_self a h) o (stray_fault s))
      (ap (arg_by_index (map untrailed s.rules)) first ∙ at_first))

  same_turn : (w : Walk) (word : Text) → Clean w → turn_fault s [] w word ≡ turn_fault (bare s) [] w word
  same_turn w word clean =
      let here = word_met s.rules [] w.is_trailing w.waiting w.position word w.held in
      let same = word_same s.rules (map untrailed s.rules) l w.is_trailing w.waiting w.position word w.held in
      let step = same_step_fault w.position here.0 here.1 clean.position ∙ ap (λ (n : Held × Step). step_fault (bare s) w.position n.0 n.1) same in
      (λ i. cond (is_some w.stopped) [] (or_else (word_fault_same s (map untrailed s.rules) l w.is_trailing w.waiting word w.held i) (step i)))

-- ---- behind the first positional

abbrev High : Step → Type 0
High (trailing position) = 2 ≤ position
High _ = Unit {0}

high_plain : (c : List Rule) (waiting : Waiting) (word : Text) (h : Held) → High (plain_word c waiting word h).1
high_plain c (option id) word h = tt
high_plain c idle word h = tt
high_plain c positional word h = tt

high_after : (c : List Rule) (waiting : Waiting) (word : Text) (h : Held) (o : Outcome) → High (after_flag c waiting word h o).1
high_after c waiting word h done = tt
high_after c waiting word h (waits id) = tt
high_after c waiting word h plain = high_plain c waiting word h
high_after c waiting word h refused = high_plain c waiting word h

high_other : (c : List Rule) (waiting : Waiting) (word : Text) (o : Option (Text × Option Text)) (h : Held) → High (long_or_other c waiting word o h).1
high_other c waiting word (Some p) h = high_after c waiting word (long_met c (arg_by_long c p.0) p.1 h).0 (long_met c (arg_by_long c p.0) p.1 h).1
high_other c waiting word None h = go (short_of word)
  where
    go : (o : Option Text) → High (short_or_plain c waiting word o h).1
    go (Some flags) = high_after c waiting word (bundle c flags h).0 (bundle c flags h).1
    go None = high_plain c waiting word h

high_word : (c : List Rule) (t : Bool) (waiting : Waiting) (position : ℕ) (word : Text) (h : Held) → 2 ≤ position
    → High (word_met c [] t waiting position word h).1
high_word c true waiting position word h le = tt
high_word c false waiting position word h le = go (subcommand_met [] waiting word)
  where
    either : (b : Bool) → High (cond b (h, trailing position) (long_or_other c waiting word (long_of word) h)).1
    either true = le
    either false = high_other c waiting word (long_of word) h

    go : (o : Option Text) → High (subcommand_or_other c o waiting position word h).1
    go (Some name) = tt
    go None = either (bytes_eq word (45 ∷ 45 ∷ []))

high_step : (c : List Rule) (w : Walk) (word : Text) (h : Held) (step : Step) → 2 ≤ w.position → High step → 2 ≤ (after_step c word w h step).position
high_step c w word h (next waiting) le high = le
high_step c w word h (trailing position) le high = high
high_step c w word h (subcommand name) le high = le
high_step c w word h value le high = go (arg_by_index c w.position)
  where
    over : (b : Bool) → 2 ≤ cond b w.position (min (w.position + 1) 18446744073709551615)
    over true = le
    over false = omega arith

    go : (o : Option Rule) → 2 ≤ (to_positional c o word w h).position
    go None = le
    go (Some a) = over (is_multiple a)

high_walked : (c : List Rule) (w : Walk) (word : Text) → 2 ≤ w.position → 2 ≤ (walked c [] w word).position
unfolding walked
high_walked c w word le = go w.stopped
  where
    go : (o : Option (Text × List Text)) → 2 ≤ (walked_from c [] o w word).position
    go (Some p) = le
    go None = high_step c w word (word_met c [] w.is_trailing w.waiting w.position word w.held).0
        (word_met c [] w.is_trailing w.waiting w.position word w.held).1 le
        (high_word c w.is_trailing w.waiting w.position word w.held le)

high_walk : (c : List Rule) (words : List Text) (w : Walk) → 2 ≤ w.position → 2 ≤ (fold (walked c []) w words).position
high_walk c [] w le = le
high_walk c (word ∷ words) w le = high_walk c words (walked c [] w word) (high_walked c w word le)

-- where a walk stands before the last word
abbrev pub before : List Rule → Walk → List Text → ℕ
before c w words = (fold (walked c []) w (take (length words - 1) words)).position

before_one : (c : List Rule) (w : Walk) (word : Text) → before c w (word ∷ []) ≡ w.position
before_one c w word =
    let none : length (word ∷ []) - 1 ≡ 0 = omega arith in
    ap (λ (n : ℕ). (fold (walked c []) w (take n (word ∷ []))).position) none

before_more : (c : List Rule) (w : Walk) (word behind : Text) (words : List Text)
    → before c w (word ∷ behind ∷ words) ≡ before c (walked c [] w word) (behind ∷ words)
before_more c w word behind words =
    let here : length (word ∷ behind ∷ words) - 1 ≡ suc (length (behind ∷ words) - 1) = omega arith in
    ap (λ (n : ℕ). (fold (walked c []) w (take n (word ∷ behind ∷ words))).position) here

module _ (s : Shape) (f : HasFile s.rules) (l : Alike s.rules (map untrailed s.rules)) where
  record Through (w : Walk) (words : List Text) : Type 0 where
    held : (fold (walked s.rules []) w words).held ≡ (fold (walked (map untrailed s.rules) []) w words).held
    faults : walk_fault s [] w words ≡ walk_fault (bare s) [] w words
    last : before (map untrailed s.rules) w words ≡ 1

  record Stopped (w : Walk) (words : List Text) : Type 0 where
    fails : walk_fault s [] w words ≡ [] → ⊥
    past : 2 ≤ before (map untrailed s.rules) w words

  go_on : (w : Walk) (word : Text) (words : List Text) → Clean w → Same s f l word (walked s.rules [] w word) (walked (map untrailed s.rules) [] w word)
      → Through (walked s.rules [] w word) words ⊎ Stopped (walked s.rules [] w word) words → Through w (word ∷ words) ⊎ Stopped w (word ∷ words)
  unfolding walk_fault
  go_on w word words clean same (inl rest) = inl (record {
    held = rest.held ∙ ap (λ (v : Walk). (fold (walked (map untrailed s.rules) []) v words).held) same.same;
    faults = (λ i. or_else (same_turn s f l w word clean i) ((rest.faults ∙ ap (λ (v : Walk). walk_fault (bare s) [] v words) same.same) i));
    last = stands words rest.last;
  })
    where
      stands : (words : List Text) → before (map untrailed s.rules) (walked s.rules [] w word) words ≡ 1 → before (map untrailed s.rules) w (word ∷ words) ≡ 1
      stands [] is = before_one (map untrailed s.rules) w word ∙ clean.position
      stands (behind ∷ words) is =
          before_more (map untrailed s.rules) w word behind words ∙ sym (ap (λ (v : Walk). before (map untrailed s.rules) v (behind ∷ words)) same.same) ∙ is
  go_on w word words clean same (inr rest) = inr (record {
    fails = λ e. rest.fails (or_else_parts (turn_fault s [] w word) (walk_fault s [] (walked s.rules [] w word) words) e).1;
    past = stands words rest.past;
  })
    where
      stands : (words : List Text) → 2 ≤ before (map untrailed s.rules) (walked s.rules [] w word) words → 2 ≤ before (map untrailed s.rules) w (word ∷ words)
      stands [] le = let first : (walked s.rules [] w word).position ≡ 1 = same.clean.position in absurd (omega arith)
      stands (behind ∷ words) le =
          subst (λ (n : ℕ). 2 ≤ n) (sym (before_more (map untrailed s.rules) w word behind words))
          (subst (λ (v : Walk). 2 ≤ before (map untrailed s.rules) v (behind ∷ words)) same.same le)

  met_file : (w : Walk) (word : Text) (words : List Text) → Clean w → Met s f l word (walked s.rules [] w word) (walked (map untrailed s.rules) [] w word)
      → Through w (word ∷ words) ⊎ Stopped w (word ∷ words)
  unfolding walk_fault
  met_file w word [] clean m = inl (record {
    held = ap (λ (v : Walk). v.held) m.same;
    faults = ap (λ ks. or_else ks []) (same_turn s f l w word clean);
    last = before_one (map untrailed s.rules) w word ∙ clean.position;
  })
  met_file w word (behind ∷ words) clean m = inr (record {
    fails = λ e.
        let rest = (or_else_parts (turn_fault s [] w word) (walk_fault s [] (walked s.rules [] w word) (behind ∷ words)) e).1 in
        let turn = (or_else_parts (turn_fault s [] (walked s.rules [] w word) behind)
        (walk_fault s [] (walked s.rules [] (walked s.rules [] w word) behind) words) rest).0 in
        refuses_strays s f (sym (stray s f (walked s.rules [] w word) word behind m.done) ∙ turn);
    past =
        let two : (walked (map untrailed s.rules) [] w word).position ≡ 2 = sym (ap (λ (v : Walk). v.position) m.same) ∙ m.done.position in
        subst (λ (n : ℕ). 2 ≤ n) (sym (before_more (map untrailed s.rules) w word behind words))
        (high_walk (map untrailed s.rules) (take (length (behind ∷ words) - 1) (behind ∷ words)) (walked (map untrailed s.rules) [] w word) (omega arith));
  })

  classify : (words : List Text) (w : Walk) → Clean w → Through w words ⊎ Stopped w words
  unfolding walk_fault
  classify [] w clean = inl (record { held = refl; faults = refl; last = clean.position })
  classify (word ∷ words) w clean = go (simulate s f l w word clean) (classify words (walked s.rules [] w word))
    where
      go : Same s f l word (walked s.rules [] w word) (walked (map untrailed s.rules) [] w word)
          ⊎ Met s f l word (walked s.rules [] w word) (walked (map untrailed s.rules) [] w word)
          → (Clean (walked s.rules [] w word) → Through (walked s.rules [] w word) words ⊎ Stopped (walked s.rules [] w word) words)
          → Through w (word ∷ words) ⊎ Stopped w (word ∷ words)
      go (inl same) later = go_on w word words clean same (later same.clean)
      go (inr m) later = met_file w word words clean m

  pub as_plain : (words : List Text)
      → unless_refused (level_fault s [] nothing_held words false []) (rows_after s.rules [] words)
      ≡ cond (before (map untrailed s.rules) (walk_from nothing_held) words == 1)
      (unless_refused (level_fault (bare s) [] nothing_held words false []) (rows_after (map untrailed s.rules) [] words)) None
  as_plain words = go (classify words (walk_from nothing_held)
      (record { held = record { rows = refl; pending = refl }; waiting = refl; position = refl; running = refl }))
    where
      go : Through (walk_from nothing_held) words ⊎ Stopped (walk_from nothing_held) words
          → unless_refused (level_fault s [] nothing_held words false []) (rows_after s.rules [] words)
          ≡ cond (before (map untrailed s.rules) (walk_from nothing_held) words == 1)
          (unless_refused (level_fault (bare s) [] nothing_held words false []) (rows_after (map untrailed s.rules) [] words)) None
      go (inl through) =
          let h = (walk s.rules [] nothing_held words).held in
          let settles : settled s.rules h ≡ settled (map untrailed s.rules) (walk (map untrailed s.rules) [] nothing_held words).held = l.settle h
          ∙ ap (settled (map untrailed s.rules)) through.held in
          let ends : finished s.rules h ≡ finished (map untrailed s.rules) (walk (map untrailed s.rules) [] nothing_held words).held =
          same_finished s.rules (settled s.rules h).rows ∙ ap (λ (t : Held). fold with_default t.rows (map untrailed s.rules)) settles in
          let level : level_fault s [] nothing_held words false [] ≡ level_fault (bare s) [] nothing_held words false [] =
          (λ i. or_else (through.faults i)
          (or_else [] (or_else ((l.fault s.args_override_self h ∙ ap (settle_fault (map untrailed s.rules) s.args_override_self) through.held) i)
          (or_else ((same_defaults s.rules (settled s.rules h).rows ∙ ap (λ (t : Held). defaults_fault t.rows (map untrailed s.rules)) settles) i)
          ((same_checks s (finished s.rules h) ∙ ap (λ rows. check_fault (bare s) rows false) ends) i))))) in
          let one : (before (map untrailed s.rules) (walk_from nothing_held) words == 1) ≡ true = ap (λ n. n == 1) through.last in
          (λ i. unless_refused (level i) (ends i))
          ∙ sym (ap (λ b. cond b
          (unless_refused (level_fault (bare s) [] nothing_held words false []) (rows_after (map untrailed s.rules) [] words)) None) one)
      go (inr stopped) =
          let n = before (map untrailed s.rules) (walk_from nothing_held) words in
          let le : 2 ≤ n = stopped.past in
          let other : (n == 1) ≡ false = not_one n le in
          let none : unless_refused (level_fault s [] nothing_held words false []) (rows_after s.rules [] words) ≡ None =
          fails (walk_fault s [] (walk_from nothing_held) words) _ (rows_after s.rules [] words) stopped.fails in
          none ∙ sym (ap (λ b. cond b
          (unless_refused (level_fault (bare s) [] nothing_held words false []) (rows_after (map untrailed s.rules) [] words)) None) other)
        where
          not_one : (n : ℕ) → 2 ≤ n → (n == 1) ≡ false
          not_one n le = grind (arith, nat_tests)

          fails : (a b : Kinds) (rows : List Row) → (a ≡ [] → ⊥) → unless_refused (or_else a b) rows ≡ None
          fails [] b rows never = absurd (never refl)
          fails (k ∷ ks) b rows never = refl
