-- What waits, as a queue: what steps put behind the others, and what they take out.
use Rattle.std.specs.Prelude.{◌≡◌, ◌≢◌, ℕ, List, [], ◌∷◌, ◌++◌, map, slice_index, if◌then◌else◌}
use Rattle.std.specs.List.{flat_map}
use Rattle.arrayvec.specs.ArrayVec.{ArrayVec}
use Rattle.xcp_daq.specs.Sample.{sampled}
use Rattle.xcp_slave.specs.Outcomes.{Answer}
use Rattle.xcp_slave.specs.declared.outcome.Outcome.TheVariants as answers
use Rattle.xcp_slave.specs.declared.exchange.Exchange.{Exchange}
use Rattle.xcp_slave.specs.declared.request.Request.{Request}
use Rattle.xcp_slave.specs.declared.request.Request.TheVariants as requests
use Rattle.xcp_slave.specs.SlaveValue.{SlaveValue}
use Rattle.xcp_slave.specs.Step.{Answers, outbox_size, store_event, with_overload, with_signals}

-- the data packets of an event of this channel with these signals: its sample, once the signals are in their place
abbrev pub event_packets : SlaveValue → ℕ → List ℕ → List (ArrayVec ℕ)
event_packets v channel signals = sampled channel v.time (with_signals signals v).transfer.pages v.daq

-- The packets that a step puts behind those that wait: an event that is sampled all of its own, behind the event packet that
-- tells of a lost sample, where the tool has to be told; a finished store the event packet that tells of it, where a tool is
-- connected; any other step none.
-- (ASAM MCD-1 XCP, protocol layer: data packets, event packets.)
abbrev pub put_in : SlaveValue → Request → Answer → List (ArrayVec ℕ)
put_in v (requests.Event channel signals) (answers.Sampled n) = with_overload (outbox_size v) v.overloaded (event_packets v channel signals.items)
put_in v requests.FinishStore (answers.Stored n) = if v.connected then store_event ∷ [] else []
put_in v _ _ = []

-- the packets that a step takes out: those that a drain answers
abbrev pub taken_out : Request → Answer → List (ArrayVec ℕ)
taken_out requests.Drain (answers.Packets packets) = map (λ p. record { items = p }) packets
taken_out _ _ = []

-- the packets that exchanges take out, in order
abbrev pub all_taken : List Exchange → List (ArrayVec ℕ)
all_taken xs = flat_map (λ x. taken_out x.request x.answer) xs

-- the exchanges lead from v to w, and these are the packets that they put in, in order
abbrev pub PutsIn : SlaveValue → List Exchange → List (ArrayVec ℕ) → SlaveValue → Type 0
PutsIn v [] packets w = (packets ≡ []) × (w ≡ v)
PutsIn v (x ∷ xs) packets w =
    (mid : SlaveValue) × (rest : List (ArrayVec ℕ)) × Answers v x.request x.answer mid
    × (packets ≡ put_in v x.request x.answer ++ rest) × PutsIn mid xs rest w

-- the request ends no session: it is no DISCONNECT (FE) and no hangup
abbrev pub IsWithin : Request → Type 0
IsWithin (requests.Command packet) = slice_index packet.items 0 ≢ 0xFE
IsWithin requests.Hangup = ⊥
IsWithin _ = Unit {0}
