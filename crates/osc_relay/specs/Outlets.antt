-- What a call of an outlet leaves.
use Rattle.std.specs.Prelude.{◌≡◌, ℕ, ◌+◌, ◌-◌, ◌^◌, min, List, [], ◌∷◌, ◌++◌, Option, None, Some}
use Rattle.std.specs.Prelude.{unwrap_or}
use Rattle.std.specs.Option.{option_map}
use Rattle.osc_relay.specs.declared.outlet.Sending.{Sending}
use Rattle.osc_relay.specs.declared.outlet.Sending.TheVariants.{Sent, Failed}

-- the datagrams sent so far: one that is sent goes to the end, where the outlet tells
abbrev pub after_sending : Sending → List ℕ → Option (List (List ℕ)) → Option (List (List ℕ))
after_sending Sent datagram sent = option_map (λ before. before ++ datagram ∷ []) sent
after_sending Failed datagram sent = sent

-- a counter of 64 bits, one up or at its last value
abbrev pub one_up : ℕ → ℕ
one_up count = min (count + 1) (2 ^ 64 - 1)

-- how many were lost so far: one more where the outlet failed
abbrev pub losses_after : Sending → ℕ → ℕ
losses_after Sent losses = losses
losses_after Failed losses = one_up losses

-- how many datagrams it was handed then: one more, where there is one
abbrev pub tries_after : Option (List ℕ) → ℕ → ℕ
tries_after None tries = tries
tries_after (Some datagram) tries = one_up tries

-- What each outlet does, by what it has sent, where it tells, how many it has lost, how many datagrams it was
-- handed, and its mark.
module _ {O : Type 0} (sent : O → Option (List (List ℕ))) (losses tries : O → ℕ) (mark : O → List ℕ) where
  -- it has forgotten both
  pub record IsReset (old new : O) : Type 0 where
    pub none_sent : sent new ≡ option_map (λ _. []) (sent old)
    pub none_lost : losses new ≡ 0
    pub same_tries : tries new ≡ tries old
    pub same_mark : mark new ≡ mark old

  -- it was handed a datagram, which it sent or lost; where there is none, it lost a message
  pub record Takes (datagram : Option (List ℕ)) (old new : O) : Type 0 where
    pub sending : Sending
    pub if_none : datagram ≡ None → sending ≡ Failed
    pub has_sent : sent new ≡ after_sending sending (unwrap_or datagram []) (sent old)
    pub has_lost : losses new ≡ losses_after sending (losses old)
    pub has_tried : tries new ≡ tries_after datagram (tries old)
    pub has_mark : mark new ≡ mark old
