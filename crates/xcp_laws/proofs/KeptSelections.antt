-- Requests that keep the selection of lists.
use Rattle.std.proofs.Common.{◌≡◌, ℕ, zero, suc, ◌+◌, Bool, true, false, List, [], ◌∷◌, get_or, length, map, refl, ap, ◌∙◌, nat_lt, nat_le}
use Rattle.xcp_memory.specs.Signals.{takes_signals}
use Rattle.std.specs.Prelude.{◌==◌, ◌&&◌, ◌%◌, if◌then◌else◌}
use Rattle.arrayvec.specs.ArrayVec.{ArrayVec}
use Rattle.xcp_daq.specs.DaqLists.{DaqList, DaqValue, list_at, no_list}
use Rattle.xcp_daq.specs.Sample.{after_event, counted}
use Rattle.xcp_slave.specs.DueLists.{KeepsLists}
use Rattle.xcp_slave.specs.PacketQueue.{event_packets}
use Rattle.xcp_slave.specs.SlaveValue.{SlaveValue, layout_of}
use Rattle.xcp_slave.specs.Step.{Answers, Fires, outbox_size, with_overload}
use Rattle.xcp_slave.specs.Outcomes.{Answer}
use Rattle.xcp_slave.specs.declared.Request.{Request}
use Rattle.xcp_slave.specs.declared.Request.TheVariants as requests
use Rattle.xcp_slave.proofs.StepLaws.{either}
use Rattle.xcp_slave.proofs.UnaffectedPartLaws.{lists-kept}

-- whether list i is selected
abbrev is_selected : DaqValue → ℕ → Bool
is_selected d i = (list_at d i).selected

same-selected : (x y : DaqValue) (i : ℕ) → x ≡ y → is_selected x i ≡ is_selected y i
same-selected x y i e = ap (λ (d : DaqValue). is_selected d i) e

counted-selected : (l : DaqList) (b : Bool) (n : ℕ) → (if b then record l { since = n } else l).selected ≡ l.selected
counted-selected l true n = refl
counted-selected l false n = refl

counts-selected : (channel : ℕ) (lists : List DaqList) (i : ℕ) → (get_or (map (counted channel) lists) i no_list).selected ≡ (get_or lists i no_list).selected
counts-selected channel [] i = refl
counts-selected channel (l ∷ lists) zero = counted-selected l (l.running && (l.event == channel)) ((l.since + 1) % l.prescaler)
counts-selected channel (l ∷ lists) (suc i) = counts-selected channel lists i

fired : (v : SlaveValue) (channel : ℕ) (signals : ArrayVec ℕ) (a : Answer) (w : SlaveValue) (i : ℕ) → Fires channel signals.items v a w → is_selected w.daq i ≡ is_selected v.daq i
fired v channel signals a w i k =
    let once : is_selected (after_event channel v.daq) i ≡ is_selected v.daq i = counts-selected channel v.daq.lists i in
    either (nat_lt channel (length (layout_of v).events)) _ _ _ k
    (λ m. either (takes_signals (layout_of v) (length signals.items)) _ _ _ m
    (λ n. either (nat_le (length v.outbox + length (with_overload (outbox_size v) v.overloaded (event_packets v channel signals.items))) (outbox_size v)) _ _ _ n
    (λ o. same-selected w.daq (after_event channel v.daq) i (ap (λ (x : SlaveValue). x.daq) o.1) ∙ once)
    (λ o. same-selected w.daq (after_event channel v.daq) i (ap (λ (x : SlaveValue). x.daq) o.1) ∙ once))
    (λ n. same-selected w.daq v.daq i (ap (λ (x : SlaveValue). x.daq) n.1)))
    (λ m. same-selected w.daq v.daq i (ap (λ (x : SlaveValue). x.daq) m.1))

pub selection-kept : (v : SlaveValue) (q : Request) (a : Answer) (w : SlaveValue) (i : ℕ) → KeepsLists q → Answers v q a w → (list_at w.daq i).selected ≡ (list_at v.daq i).selected
selection-kept v (requests.Command p) a w i b k = same-selected w.daq v.daq i (lists-kept v (requests.Command p) a w b tt (λ e. cc) k)
selection-kept v (requests.Event channel signals) a w i b k = fired v channel signals a w i k
selection-kept v requests.Drain a w i b k = same-selected w.daq v.daq i (lists-kept v requests.Drain a w tt tt (λ e. cc) k)
selection-kept v (requests.Time time) a w i b k = same-selected w.daq v.daq i (lists-kept v (requests.Time time) a w tt tt (λ e. cc) k)
selection-kept v (requests.Signals place bytes) a w i b k = same-selected w.daq v.daq i (lists-kept v (requests.Signals place bytes) a w tt tt (λ e. cc) k)
selection-kept v requests.FinishStore a w i b k = same-selected w.daq v.daq i (lists-kept v requests.FinishStore a w tt tt (λ e. cc) k)
selection-kept v requests.Hangup a w i b k = absurd b
