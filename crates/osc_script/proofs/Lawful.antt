-- What a script that isn't refused holds.
use Rattle.std.proofs.Common.{◌≡◌, ℕ, ◌+◌, ◌*◌, ◌<◌, ◌≤◌, ◌^◌, Bool, true, false, cond, eqb, IsTrue, List, [], ◌∷◌, length, Option, Some, None, ok_or, Result}
use Rattle.std.proofs.Common.{Ok, Err, IfOk, codes, refl, sym, ap, subst, ◌∙◌, arith, nat_lt}
use Rattle.std.proofs.lemmas.Bool.{ltb-false, ltb-true}
use Rattle.std.proofs.lemmas.List.{append-nil}
use Rattle.std.specs.List.{slice_split, onto_first, starts_with}
use Rattle.std.specs.Int.{w64, from_be_bytes}
use Rattle.std.specs.Str.{bytes_eq}
use Rattle.hex.specs.Hex.{decode_sized, IsBytes}
use Rattle.hex.specs.declared.error.FromHexError.{FromHexError}
use Rattle.hex.proofs.HexLemmas.{decode_of-ok, decode_sized-ok, decode_sized-twice}
use Rattle.osc_pattern.specs.Addresses.{is_address}
use Rattle.osc_script.specs.declared.act.Act.{Act}
use Rattle.osc_script.specs.declared.act.Act.TheVariants.{Add, Remove, Send, Tick, Pump}
use Rattle.osc_script.specs.declared.said.Said.{Said}
use Rattle.osc_script.specs.declared.line.Line.{Line}
use Rattle.osc_script.specs.declared.mode.Mode.{Mode}
use Rattle.osc_script.specs.declared.mode.Mode.TheVariants.{Plain, Lanes, Serve}
use Rattle.osc_script.specs.declared.fault.ScriptFault.{ScriptFault}
use Rattle.osc_script.specs.declared.fault.ScriptFaultKind.{ScriptFaultKind}
use Rattle.osc_script.specs.declared.fault.ScriptFaultKind.TheVariants as kinds
use Rattle.osc_script.specs.Words.{words_of, is_line_feed, lines_from, lines_of}
use Rattle.osc_script.specs.Acts.{and_then, only_of, pump_of, decoded, address_of, packet_of, moment_of, act_of, is_known, has_count, served_of, IsLawfulAct}
use Rattle.osc_script.specs.Lanes.{number_of, within_lanes, lane_of}
use Rattle.osc_script.specs.Scripts.{on_lane, in_lane, said_of, words_by, line_says, line_from, onto, script_from, script_of, AreLawful, IsOf, AreOf}
use Rattle.osc_script.proofs.Lines.{after_front}

-- where a step on what was read gives a value, there was one
step_ok : {X Y K : Type 0} (read : Result X K) (next : X → Result Y K) (value : Y) → and_then read next ≡ Ok value
    → (x : X) × (read ≡ Ok x) × (next x ≡ Ok value)
step_ok (Ok x) next value is = (x, refl, is)
step_ok (Err kind) next value is = absurd (cc)

lawful_operand : (operand address : List ℕ)
    → cond {A = Result (List ℕ) ScriptFaultKind} (is_address operand) (Ok operand) (Err kinds.Address) ≡ Ok address
    → IsTrue (is_address address)
lawful_operand operand address is = go (is_address operand) refl is where
  go : (t : Bool) → is_address operand ≡ t
      → cond {A = Result (List ℕ) ScriptFaultKind} t (Ok operand) (Err kinds.Address) ≡ Ok address → IsTrue (is_address address)
  go true lawful so = let same : operand ≡ address = cc in subst (λ a. IsTrue (is_address a)) same lawful
  go false lawful so = absurd (cc)

address_lawful : (address : List ℕ) (words : List (List ℕ)) → address_of words ≡ Ok address → IsTrue (is_address address)
address_lawful address words is =
    let got = step_ok (only_of words) (λ operand. cond (is_address operand) (Ok operand) (Err kinds.Address)) address is in
    lawful_operand got.0 address got.2

decoded_ok : (kind : ScriptFaultKind) (read : Result (List ℕ) FromHexError) (bytes : List ℕ) → decoded kind read ≡ Ok bytes → read ≡ Ok bytes
decoded_ok kind (Ok more) bytes is = let same : more ≡ bytes = cc in ap Ok same
decoded_ok kind (Err fault) bytes is = absurd (cc)

-- eight bytes are a number of 64 bits
eight_bytes : (bytes : List ℕ) (moment : ℕ) → IsBytes bytes → moment ≡ from_be_bytes w64 bytes → moment < 2 ^ 64
eight_bytes bytes moment each is = omega (arith, is, each 0, each 1, each 2, each 3, each 4, each 5, each 6, each 7)

moment_small : (words : List (List ℕ)) (moment : ℕ) → moment_of words ≡ Ok moment → moment < 2 ^ 64
moment_small words moment is =
    let got = step_ok (only_of words) (λ digits. and_then (decoded kinds.Tag (decode_sized digits 8)) (λ bytes. Ok (from_be_bytes w64 bytes))) moment is in
    let digits : List ℕ = got.0 in
    let read = step_ok (decoded kinds.Tag (decode_sized digits 8)) (λ bytes. Ok (from_be_bytes w64 bytes)) moment got.2 in
    let bytes : List ℕ = read.0 in
    let sized : decode_sized digits 8 ≡ Ok bytes = decoded_ok kinds.Tag (decode_sized digits 8) bytes read.1 in
    let long : length digits ≡ 2 * 8 = decode_sized-ok digits 8 bytes sized in
    let parts = decode_of-ok digits bytes (sym (decode_sized-twice digits 8 long) ∙ sized) in
    let same : from_be_bytes w64 bytes ≡ moment = cc in
    eight_bytes bytes moment parts.3 (sym same)

pump_lawful : (words : List (List ℕ)) (act : Act) → pump_of words ≡ Ok act → IsLawfulAct act
pump_lawful [] act is = let same : Pump ≡ act = cc in subst IsLawfulAct same tt
pump_lawful (word ∷ words) act is = absurd (cc)

act_lawful : (word : List ℕ) (words : List (List ℕ)) (act : Act) → act_of word words ≡ Ok act → IsLawfulAct act
unfolding act_of
act_lawful word words act said =
    go (bytes_eq word (codes "add")) (bytes_eq word (codes "remove")) (bytes_eq word (codes "send")) (bytes_eq word (codes "tick"))
    (bytes_eq word (codes "pump")) said where
      go : (adds removes sends ticks pumps : Bool)
          → cond adds (and_then (address_of words) (λ address. Ok (Add address)))
          (cond removes (and_then (address_of words) (λ address. Ok (Remove address)))
          (cond sends (and_then (packet_of words) (λ packet. Ok (Send packet)))
          (cond ticks (and_then (moment_of words) (λ moment. Ok (Tick moment)))
          (cond {A = Result Act ScriptFaultKind} pumps (pump_of words) (Err kinds.Word))))) ≡ Ok act
          → IsLawfulAct act
      go true removes sends ticks pumps so =
          let got = step_ok (address_of words) (λ address. Ok (Add address)) act so in
          let same : Add got.0 ≡ act = cc in
          subst IsLawfulAct same (address_lawful got.0 words got.1)
      go false true sends ticks pumps so =
          let got = step_ok (address_of words) (λ address. Ok (Remove address)) act so in
          let same : Remove got.0 ≡ act = cc in
          subst IsLawfulAct same (address_lawful got.0 words got.1)
      go false false true ticks pumps so =
          let got = step_ok (packet_of words) (λ packet. Ok (Send packet)) act so in
          let same : Send got.0 ≡ act = cc in
          subst IsLawfulAct same tt
      go false false false true pumps so =
          let got = step_ok (moment_of words) (λ moment. Ok (Tick moment)) act so in
          let same : Tick got.0 ≡ act = cc in
          subst IsLawfulAct same (moment_small words got.0 got.1)
      go false false false false true so = pump_lawful words act so
      go false false false false false so = absurd (cc)

where_true : {X : Type 0} (t : Bool) (x y z : X) → t ≡ true → cond t x y ≡ z → x ≡ z
where_true true x y z is so = so
where_true false x y z is so = absurd (cc)

-- a line of `add` adds a method
added : (word : List ℕ) (words : List (List ℕ)) (act : Act) → bytes_eq word (codes "add") ≡ true → act_of word words ≡ Ok act
    → (address : List ℕ) × (act ≡ Add address)
unfolding act_of
added word words act adds so =
    let got = step_ok (address_of words) (λ address. Ok (Add address)) act (where_true (bytes_eq word (codes "add")) _ _ (Ok act) adds so) in
    (got.0, (cc))

served_lawful : (word : List ℕ) (words : List (List ℕ)) (act : Act) → served_of word words ≡ Ok act
    → IsLawfulAct act × ((address : List ℕ) × (act ≡ Add address))
unfolding served_of
served_lawful word words act said = go (bytes_eq word (codes "add")) refl (is_known word) (has_count word (length words)) said where
  go : (adds : Bool) → bytes_eq word (codes "add") ≡ adds → (known counted : Bool)
      → cond adds (act_of word words)
      (cond known (cond {A = Result Act ScriptFaultKind} counted (Err kinds.NotHere) (Err kinds.Count)) (Err kinds.Word)) ≡ Ok act
      → IsLawfulAct act × ((address : List ℕ) × (act ≡ Add address))
  go true adds known counted so = (act_lawful word words act so, added word words act adds so)
  go false adds true true so = absurd (cc)
  go false adds true false so = absurd (cc)
  go false adds false counted so = absurd (cc)

-- an act in a lane is that act in that lane
laned : (lane : ℕ) (read : Result Act ScriptFaultKind) (said : Said) → on_lane lane read ≡ Ok said → (read ≡ Ok said.act) × (said.lane ≡ lane)
laned lane (Ok act) said is = let same : record { lane = lane; act = act } ≡ said = cc in
    (ap (λ (s : Said). Ok s.act) same, sym (ap (λ (s : Said). s.lane) same))
laned lane (Err kind) said is = absurd (cc)

lane_small : (number : Option ℕ) (lane : ℕ) → ok_or (within_lanes number) kinds.Lane ≡ Ok lane → lane < 16
lane_small None lane is = absurd (cc)
lane_small (Some number) lane is = go (nat_lt number 16) refl is where
  go : (t : Bool) → nat_lt number 16 ≡ t → ok_or (cond t (Some number) None) kinds.Lane ≡ Ok lane → lane < 16
  go true small so = let same : number ≡ lane = cc in subst (λ n. n < 16) same (ltb-true number 16 small)
  go false small so = absurd (cc)

in_lane_lawful : (lane : ℕ) (words : List (List ℕ)) (said : Said) → in_lane lane words ≡ Ok said → IsLawfulAct said.act × (said.lane ≡ lane)
in_lane_lawful lane [] said is = absurd (cc)
in_lane_lawful lane (word ∷ operands) said is =
    let got = laned lane (act_of word operands) said is in
    (act_lawful word operands said.act got.0, got.1)

-- what holds of a line in this mode
abbrev Fits : Mode → Line → Type 0
Fits mode line = IsLawfulAct line.act × IsOf mode line

abbrev numbered : ℕ → Said → Line
numbered number said = record { number = number; lane = said.lane; act = said.act }

said_fits : (mode : Mode) (number : ℕ) (word : List ℕ) (words : List (List ℕ)) (said : Said) → said_of mode word words ≡ Ok said
    → Fits mode (numbered number said)
said_fits Plain number word words said is =
    let got = laned 0 (act_of word words) said is in
    (act_lawful word words said.act got.0, got.1)
said_fits Lanes number word words said is =
    let got = step_ok (ok_or (lane_of word) kinds.Lane) (λ lane. in_lane lane words) said is in
    let on = in_lane_lawful got.0 words said got.2 in
    (on.0, subst (λ n. n < 16) (sym on.1) (lane_small (number_of word) got.0 got.1))
said_fits Serve number word words said is =
    let got = laned 0 (served_of word words) said is in
    let adds = served_lawful word words said.act got.0 in
    (adds.0, (got.1, adds.1))

words_fit : (mode : Mode) (number : ℕ) (words : List (List ℕ)) (said : Said) → words_by (said_of mode) words ≡ Ok (Some said) → Fits mode (numbered number said)
words_fit mode number [] said is = absurd (cc)
words_fit mode number (word ∷ operands) said is =
    let got = step_ok (said_of mode word operands) (λ one. Ok (Some one)) (Some said) is in
    let same : got.0 ≡ said = cc in
    said_fits mode number word operands said (got.1 ∙ ap Ok same)

text_fits : (mode : Mode) (number : ℕ) (text : List ℕ) (said : Said) → line_says mode text ≡ Ok (Some said) → Fits mode (numbered number said)
text_fits mode number text said is = go (starts_with eqb text (codes "#")) is where
  go : (t : Bool) → cond {A = Result (Option Said) ScriptFaultKind} t (Ok None) (words_by (said_of mode) (words_of text)) ≡ Ok (Some said)
      → Fits mode (numbered number said)
  go true so = absurd (cc)
  go false so = words_fit mode number (words_of text) said so

-- one line more
onto_fits : (mode : Mode) (number : ℕ) (read : Result (Option Said) ScriptFaultKind) (others : Result (List Line) ScriptFault) (lines : List Line)
    → ((said : Said) → read ≡ Ok (Some said) → Fits mode (numbered number said))
    → ((more : List Line) → others ≡ Ok more → AreLawful more × AreOf mode more) → onto (line_from number read) others ≡ Ok lines
    → AreLawful lines × AreOf mode lines
onto_fits mode number (Err kind) others lines one rest is = absurd (cc)
onto_fits mode number (Ok None) others lines one rest is = rest lines is
onto_fits mode number (Ok (Some said)) (Err fault) lines one rest is = absurd (cc)
onto_fits mode number (Ok (Some said)) (Ok more) lines one rest is =
    let same : numbered number said ∷ more ≡ lines = cc in
    let first = one said refl in
    let others = rest more refl in
    subst (λ l. AreLawful l × AreOf mode l) same ((first.0, others.0), (first.1, others.1))

texts_fit : (mode : Mode) (number : ℕ) (texts : List (List ℕ)) (lines : List Line) → script_from mode number texts ≡ Ok lines
    → AreLawful lines × AreOf mode lines
texts_fit mode number [] lines is = let same : [] ≡ lines = cc in subst (λ l. AreLawful l × AreOf mode l) same (tt, tt)
texts_fit mode number (text ∷ texts) lines is =
    onto_fits mode number (line_says mode text) (script_from mode (number + 1) texts) lines (text_fits mode number text) (texts_fit mode (number + 1) texts) is

-- the lines that were read when nothing is left are lawful, and of their mode
pub lines_fit : (mode : Mode) (lines : List Line) (number : ℕ) (rest : List ℕ) (texts : List (List ℕ)) → length rest ≡ 0
    → after_front lines (script_from mode number (lines_of rest)) ≡ script_from mode 1 texts → AreLawful lines × AreOf mode lines
lines_fit mode lines number [] texts none is = texts_fit mode 1 texts lines (sym is ∙ ap Ok (append-nil lines))
lines_fit mode lines number (byte ∷ rest) texts none is = absurd (omega arith)

-- how many lines there are

onto_few : (number : ℕ) (read : Result (Option Said) ScriptFaultKind) (others : Result (List Line) ScriptFault) (lines : List Line) (most : ℕ)
    → ((more : List Line) → others ≡ Ok more → length more ≤ most) → onto (line_from number read) others ≡ Ok lines → length lines ≤ 1 + most
onto_few number (Err kind) others lines most rest is = absurd (cc)
onto_few number (Ok None) others lines most rest is = omega (arith, rest lines is)
onto_few number (Ok (Some said)) (Err fault) lines most rest is = absurd (cc)
onto_few number (Ok (Some said)) (Ok more) lines most rest is =
    let same : numbered number said ∷ more ≡ lines = cc in
    omega (arith, rest more refl, ap length same)

texts_few : (mode : Mode) (number : ℕ) (texts : List (List ℕ)) (lines : List Line) → script_from mode number texts ≡ Ok lines → length lines ≤ length texts
texts_few mode number [] lines is = let same : [] ≡ lines = cc in omega (arith, ap length same)
texts_few mode number (text ∷ texts) lines is =
    omega (arith, onto_few number (line_says mode text) (script_from mode (number + 1) texts) lines (length texts) (texts_few mode (number + 1) texts) is)

-- the bytes of parts
abbrev size : List (List ℕ) → ℕ
size [] = 0
size (part ∷ parts) = length part + size parts

sized_first : (byte bytes : ℕ) (parts : List (List ℕ)) (t : Bool) → size parts + length parts ≡ bytes + 1
    → size (cond t ([] ∷ parts) (onto_first byte parts)) + length (cond t ([] ∷ parts) (onto_first byte parts)) ≡ 1 + bytes + 1
sized_first byte bytes parts true is = omega (arith, is)
sized_first byte bytes [] false is = absurd (omega (arith, is))
sized_first byte bytes (part ∷ parts) false is = omega (arith, is)

split_sized : (bytes : List ℕ) → size (slice_split is_line_feed bytes) + length (slice_split is_line_feed bytes) ≡ length bytes + 1
split_sized [] = refl
split_sized (byte ∷ bytes) = omega (arith, sized_first byte (length bytes) (slice_split is_line_feed bytes) (is_line_feed byte) (split_sized bytes))

lines_within : (part : List ℕ) (parts : List (List ℕ)) → length (lines_from (part ∷ parts)) ≤ size (part ∷ parts) + length parts
lines_within [] [] = omega arith
lines_within (byte ∷ bytes) [] = some (eqb (length (byte ∷ bytes)) 0) where
  some : (t : Bool) → length (cond t [] ((byte ∷ bytes) ∷ [])) ≤ length (byte ∷ bytes) + 0 + 0
  some true = omega arith
  some false = omega arith
lines_within part (next ∷ parts) = omega (arith, lines_within next parts)

at_most : (parts : List (List ℕ)) (bytes : ℕ) → size parts + length parts ≡ bytes + 1 → length (lines_from parts) ≤ bytes
at_most [] bytes is = absurd (omega (arith, is))
at_most (part ∷ parts) bytes is = omega (arith, is, lines_within part parts)

lines_few : (bytes : List ℕ) → length (lines_of bytes) ≤ length bytes
lines_few bytes = at_most (slice_split is_line_feed bytes) (length bytes) (split_sized bytes)

-- a script that isn't refused isn't too long, and its lines are read
script_ok : (mode : Mode) (bytes : List ℕ) (lines : List Line) → script_of mode bytes ≡ Ok lines
    → (length bytes ≤ 67108864) × (script_from mode 1 (lines_of bytes) ≡ Ok lines)
script_ok mode bytes lines is = go (nat_lt 67108864 (length bytes)) refl is where
  go : (t : Bool) → nat_lt 67108864 (length bytes) ≡ t
      → cond {A = Result (List Line) ScriptFault} t (Err (record { line = 0; kind = 1 })) (script_from mode 1 (lines_of bytes)) ≡ Ok lines
      → (length bytes ≤ 67108864) × (script_from mode 1 (lines_of bytes) ≡ Ok lines)
  go true long so = absurd (cc)
  go false long so = (ltb-false 67108864 (length bytes) long, so)

if_ok : {X E : Type 0} (read : Result X E) (P : X → Type 0) → ((value : X) → read ≡ Ok value → P value) → IfOk read P
if_ok (Ok value) P holds = holds value refl
if_ok (Err error) P holds = tt

pub script_lawful : (mode : Mode) (bytes : List ℕ) → IfOk (script_of mode bytes) AreLawful
script_lawful mode bytes = if_ok (script_of mode bytes) AreLawful (λ lines is. (texts_fit mode 1 (lines_of bytes) lines (script_ok mode bytes lines is).1).0)

pub script_fits : (mode : Mode) (bytes : List ℕ) → IfOk (script_of mode bytes) (AreOf mode)
script_fits mode bytes = if_ok (script_of mode bytes) (AreOf mode) (λ lines is. (texts_fit mode 1 (lines_of bytes) lines (script_ok mode bytes lines is).1).1)

pub script_few : (mode : Mode) (bytes : List ℕ) → IfOk (script_of mode bytes) (λ lines. length lines ≤ length bytes)
script_few mode bytes =
    if_ok (script_of mode bytes) (λ lines. length lines ≤ length bytes)
    (λ lines is. omega (arith, texts_few mode 1 (lines_of bytes) lines (script_ok mode bytes lines is).1, lines_few bytes))
