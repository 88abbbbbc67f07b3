-- No request changes the layout.
use Rattle.std.proofs.Common.{◌≡◌, ℕ, ◌+◌, Bool, true, false, List, [], ◌∷◌, length, ◌==◌, ◌&&◌, nat_le, nat_lt, refl, ap, ◌∙◌, Option, Some, None, Result, Ok, Err, ◌||◌}
use Rattle.std.specs.Prelude.{if◌then◌else◌}
use Rattle.arrayvec.specs.ArrayVec.{ArrayVec}
use Rattle.xcp_packet.specs.declared.Command.{Command}
use Rattle.xcp_packet.specs.declared.Command.TheVariants as commands
use Rattle.xcp_packet.specs.declared.Refuse.{Refuse}
use Rattle.xcp_packet.specs.declared.Refuse.TheVariants as refuses
use Rattle.xcp_packet.specs.declared.Reply.{Reply}
use Rattle.xcp_memory.specs.Layout.{LayoutValue}
use Rattle.xcp_memory.specs.Signals.{takes_signals}
use Rattle.xcp_memory.specs.Pages.{PagesValue}
use Rattle.xcp_memory.specs.ComputedAccess.{written_by}
use Rattle.xcp_transfer.specs.declared.Mta.{Mta}
use Rattle.xcp_transfer.specs.declared.Mta.TheVariants.{Nowhere, Memory, Text}
use Rattle.xcp_transfer.specs.TransferValue.{BlockValue, TransferValue}
use Rattle.xcp_transfer.specs.MtaAccess.{written_at}
use Rattle.xcp_packet.specs.Rows.{Meets}
use Rattle.xcp_transfer.specs.Downloads.{next_row}
use Rattle.xcp_slave.specs.declared.request.Request.{Request}
use Rattle.xcp_slave.specs.declared.request.Request.TheVariants as requests
use Rattle.xcp_slave.specs.Outcomes.{Answer}
use Rattle.xcp_slave.specs.SlaveValue.{SlaveValue, layout_of, noblock}
use Rattle.xcp_slave.specs.Rows.{row}
use Rattle.xcp_slave.specs.Step.{Answers, Heeds, Drains, Stores, Samples, Fires, outbox_size, stored, with_loss, with_overload, with_sample, with_signals, found_by, is_connect}
use Rattle.xcp_slave.proofs.StepLaws.{either}

written_by-layout : (o : Option ℕ) (p : PagesValue) (a : ℕ) (bytes : List ℕ) → (written_by o p a bytes).layout ≡ p.layout
written_by-layout None p a bytes = refl
written_by-layout (Some i) p a bytes = refl

written_at-layout : (p : PagesValue) (m : Mta) (bytes : List ℕ) → (written_at p m bytes).layout ≡ p.layout
written_at-layout p Nowhere bytes = refl
written_at-layout p (Memory a) bytes = written_by-layout _ p a bytes
written_at-layout p (Text id place) bytes = refl

-- whichever of two values it is
chosen-layout : (t : Bool) (x y : TransferValue) (l : LayoutValue) → x.pages.layout ≡ l → y.pages.layout ≡ l → (if t then x else y).pages.layout ≡ l
chosen-layout true x y l h k = h
chosen-layout false x y l h k = k

next-layout : (o : Option BlockValue) (remaining : ℕ) (bytes : List ℕ) (t : TransferValue) → (next_row o remaining bytes t).after.pages.layout ≡ t.pages.layout
next-layout None remaining bytes t = refl
next-layout (Some b) remaining bytes t = chosen-layout _ _ _ t.pages.layout (written_at-layout t.pages (Memory b.address) _) refl

-- no command's row changes the layout
pub row-layout : (c : Command) (v : SlaveValue) → layout_of (row c v).after ≡ layout_of v
row-layout (commands.Download n bytes) v = chosen-layout _ _ _ (layout_of v) (written_at-layout v.transfer.pages v.transfer.mta _) refl
row-layout (commands.DownloadNext remaining bytes) v = next-layout v.transfer.block remaining bytes.items v.transfer
row-layout (commands.DownloadMax bytes) v = written_at-layout v.transfer.pages v.transfer.mta _
row-layout (commands.ShortDownload n extension address bytes) v = written_at-layout v.transfer.pages (Memory address) _
row-layout (commands.ModifyBits s ma mx) v = written_at-layout v.transfer.pages v.transfer.mta _
row-layout _ v = refl

-- the slave as a command finds it has the same layout
pub found_by-layout : (c : Command) (v : SlaveValue) → layout_of (found_by c v) ≡ layout_of v
found_by-layout (commands.DownloadNext remaining bytes) v = refl
found_by-layout _ v = refl

meets-layout : (c : Command) (v : SlaveValue) (x : Result (Option Reply) Reply) (w : SlaveValue) → Meets (row c (found_by c v)) (noblock v) x w → layout_of w ≡ layout_of v
meets-layout c v (Ok reply) w h = ap (λ (x : SlaveValue). layout_of x) h.2 ∙ row-layout c (found_by c v) ∙ found_by-layout c v
meets-layout c v (Err e) w h = ap (λ (x : SlaveValue). layout_of x) h.1

same-layout : (v w : SlaveValue) → w ≡ v → layout_of w ≡ layout_of v
same-layout v w h = ap (λ (x : SlaveValue). layout_of x) h

heeds-layout : (v : SlaveValue) (d : Result Command Refuse) (a : Answer) (w : SlaveValue) → Heeds v d a w → layout_of w ≡ layout_of v
heeds-layout v (Ok c) a w h = either (v.connected || is_connect c) _ _ _ h (λ k. meets-layout c v k.0 w k.1) (λ k. same-layout v w k.1)
heeds-layout v (Err refuses.Empty) a w h = same-layout v w h.1
heeds-layout v (Err refuses.Unknown) a w h = either v.connected _ _ _ h (λ k. ap (λ (x : SlaveValue). layout_of x) k.1) (λ k. same-layout v w k.1)
heeds-layout v (Err refuses.Short) a w h = either v.connected _ _ _ h (λ k. ap (λ (x : SlaveValue). layout_of x) k.1) (λ k. same-layout v w k.1)

-- a value whose layout is v's
led-layout : (v u w : SlaveValue) → layout_of u ≡ layout_of v → w ≡ u → layout_of w ≡ layout_of v
led-layout v u w e h = ap (λ (x : SlaveValue). layout_of x) h ∙ e

drains-layout : (o : List (ArrayVec ℕ)) (v : SlaveValue) (a : Answer) (w : SlaveValue) → Drains o v a w → layout_of w ≡ layout_of v
drains-layout [] v a w h = same-layout v w h.1
drains-layout (packet ∷ rest) v a w h = led-layout v (record v { outbox = rest }) w refl h.1

stores-layout : (v : SlaveValue) (a : Answer) (w : SlaveValue) → Stores v a w → layout_of w ≡ layout_of v
stores-layout v a w h = either (v.connected && nat_le (outbox_size v) (length v.outbox)) _ _ _ h (λ k. same-layout v w k.1) (λ k. led-layout v (stored v) w refl k.1)

samples-layout : (channel : ℕ) (packets : List (ArrayVec ℕ)) (v : SlaveValue) (a : Answer) (w : SlaveValue) → Samples channel packets v a w → layout_of w ≡ layout_of v
samples-layout channel packets v a w h =
    either (nat_le (length v.outbox + length (with_overload (outbox_size v) v.overloaded packets)) (outbox_size v)) _ _ _ h
    (λ k. led-layout v (with_sample channel packets v) w refl k.1)
    (λ k. led-layout v (with_loss channel v) w refl k.1)

fires-layout : (channel : ℕ) (signals : List ℕ) (v : SlaveValue) (a : Answer) (w : SlaveValue) → Fires channel signals v a w → layout_of w ≡ layout_of v
fires-layout channel signals v a w h =
    either (nat_lt channel (length (layout_of v).events)) _ _ _ h
    (λ k. either (takes_signals (layout_of v) (length signals)) _ _ _ k (samples-layout channel _ (with_signals signals v) a w) (λ l. same-layout v w l.1))
    (λ k. same-layout v w k.1)

-- no request changes the layout
pub answers-layout : (v : SlaveValue) (q : Request) (a : Answer) (w : SlaveValue) → Answers v q a w → layout_of w ≡ layout_of v
answers-layout v (requests.Command p) a w h = heeds-layout v h.0 a w h.2
answers-layout v (requests.Event channel signals) a w h = fires-layout channel signals.items v a w h
answers-layout v requests.Drain a w h = drains-layout v.outbox v a w h
answers-layout v requests.FinishStore a w h = either v.store _ _ _ h (stores-layout v a w) (λ k. same-layout v w k.1)
answers-layout v requests.Hangup a w h = ap (λ (x : SlaveValue). layout_of x) h.1
answers-layout v (requests.Time time) a w h = ap (λ (x : SlaveValue). layout_of x) h.1
answers-layout v (requests.Signals place bytes) a w h =
    either (nat_le (place + length bytes.items) (layout_of v).signals_length) _ _ _ h (λ k. ap (λ (x : SlaveValue). layout_of x) k.1) (λ k. same-layout v w k.1)
