-- Parts of a slave that requests leave alone.
use Rattle.std.proofs.Common.{◌≡◌, ◌≢◌, ℕ, ◌+◌, Bool, true, false, List, [], ◌∷◌, length, Option, Some, None, Result, Ok, Err, ap, sym, ◌∙◌, refl, subst, arith, nat_le, nat_lt}
use Rattle.std.specs.Prelude.{◌==◌, ◌&&◌, ◌||◌, if◌then◌else◌}
use Rattle.std.proofs.lemmas.Bool.Decides.{nat_tests}
use Rattle.arrayvec.specs.ArrayVec.{ArrayVec}
use Rattle.xcp_packet.specs.CommandForms.{code}
use Rattle.xcp_packet.specs.ByteOrder.{byte_at}
use Rattle.xcp_packet.specs.Decoding.{Decodes}
use Rattle.xcp_packet.specs.Rows.{Meets}
use Rattle.xcp_packet.specs.declared.Command.{Command}
use Rattle.xcp_packet.specs.declared.Command.TheVariants as commands
use Rattle.xcp_packet.specs.declared.Refuse.{Refuse}
use Rattle.xcp_packet.specs.declared.Refuse.TheVariants as refuses
use Rattle.xcp_packet.specs.declared.Reply.{Reply}
use Rattle.xcp_packet.proofs.ByteOrderLemmas.{length-bytes_of}
use Rattle.xcp_memory.specs.Layout.{LayoutValue, ExtrasValue, IsPlain, epk, description}
use Rattle.xcp_memory.specs.Signals.{takes_signals}
use Rattle.xcp_memory.specs.Memory.{Writes}
use Rattle.xcp_memory.specs.Pages.{PagesValue}
use Rattle.xcp_transfer.specs.declared.mta.Mta.TheVariants.{Nowhere, Memory, Text}
use Rattle.xcp_transfer.specs.declared.mta.TextId.{TextId}
use Rattle.xcp_transfer.specs.declared.mta.TextId.TheVariants.{Id, Name, A2lName, A2lFile, Epk}
use Rattle.xcp_transfer.specs.TransferValue.{text_of}
use Rattle.xcp_transfer.specs.Uploads.{text_of_kind, text_start, with_bytes}
use Rattle.xcp_slave.specs.declared.request.Request.{Request}
use Rattle.xcp_slave.specs.declared.request.Request.TheVariants as requests
use Rattle.xcp_slave.specs.Outcomes.{Answer}
use Rattle.xcp_slave.specs.SlaveValue.{SlaveValue, layout_of, noblock}
use Rattle.xcp_slave.specs.Rows.{row}
use Rattle.xcp_slave.specs.Step.{Answers, AnswersPacket, Heeds, Drains, Fires, outbox_size, stored, with_event, with_overload, with_signals, found_by, is_connect}
use Rattle.xcp_slave.specs.SlaveInvariant.{IsSlave}
use Rattle.xcp_slave.specs.AcceptedCommands.{Accepts}
use Rattle.xcp_slave.specs.CodesByEffect.{IsNone, IsBeside, IsNoEvent, mta_codes, session_codes, list_codes, store_codes}
use Rattle.xcp_slave.proofs.StepLaws.{either, hands-part}
use Rattle.xcp_slave.proofs.AcceptedCommandLaws.{accepted}
use Rattle.xcp_slave.proofs.MemoryLaws.{bits-writes}

-- a part that a command's row and the end of a block leave

meets-part : {A : Type 0} (f : SlaveValue → A) (c : Command) (v : SlaveValue) (x : Result (Option Reply) Reply) (w : SlaveValue) → f (noblock v) ≡ f v → f (row c (found_by c v)).after ≡ f v → Meets (row c (found_by c v)) (noblock v) x w → f w ≡ f v
meets-part f c v (Ok o) w n r m = ap f m.2 ∙ r
meets-part f c v (Err e) w n r m = ap f m.1 ∙ n

heeds-part : {A : Type 0} (f : SlaveValue → A) (P : ℕ → Type 0) (v : SlaveValue) (p : List ℕ) (d : Result Command Refuse) (a : Answer) (w : SlaveValue) → f (noblock v) ≡ f v → ((c : Command) → P (code c) → f (row c (found_by c v)).after ≡ f v) → P (byte_at 0 p) → Decodes (layout_of v).order p d → Heeds v d a w → f w ≡ f v
heeds-part f P v p (Ok c) a w n r h s k = either (v.connected || is_connect c) _ _ _ k (λ m. meets-part f c v m.0 w n (r c (subst P s.0.first h)) m.1) (λ m. ap f m.1)
heeds-part f P v p (Err refuses.Empty) a w n r h s k = ap f k.1
heeds-part f P v p (Err refuses.Unknown) a w n r h s k = either v.connected _ _ _ k (λ m. ap f m.1 ∙ n) (λ m. ap f m.1)
heeds-part f P v p (Err refuses.Short) a w n r h s k = either v.connected _ _ _ k (λ m. ap f m.1 ∙ n) (λ m. ap f m.1)

-- what the end of a block and each command of certain codes leave, a packet of such a code leaves too
pub packet-part : {A : Type 0} (f : SlaveValue → A) (P : ℕ → Type 0) (v : SlaveValue) (p : List ℕ) (a : Answer) (w : SlaveValue) → f (noblock v) ≡ f v → ((c : Command) → P (code c) → f (row c (found_by c v)).after ≡ f v) → P (byte_at 0 p) → AnswersPacket v p a w → f w ≡ f v
packet-part f P v p a w n r h k = heeds-part f P v p k.0 a w n r h k.1 k.2

-- a part that the other requests leave

-- a drain leaves each part that doesn't depend on the packets that wait
pub drains-part : {A : Type 0} (f : SlaveValue → A) (o : List (ArrayVec ℕ)) (v : SlaveValue) (a : Answer) (w : SlaveValue) → ((rest : List (ArrayVec ℕ)) → f (record v { outbox = rest }) ≡ f v) → Drains o v a w → f w ≡ f v
drains-part f [] v a w h k = ap f k.1
drains-part f (p ∷ rest) v a w h k = ap f k.1 ∙ h rest

-- an event leaves each part that its signals, counts of events, other packets that wait and what has to be told don't change
pub fires-part : {A : Type 0} (f : SlaveValue → A) (channel : ℕ) (signals : List ℕ) (v : SlaveValue) (a : Answer) (w : SlaveValue) → ((packets : List (ArrayVec ℕ)) (lost : Bool) → f (record (with_event channel (with_signals signals v)) { outbox = packets; overloaded = lost }) ≡ f v) → Fires channel signals v a w → f w ≡ f v
fires-part f channel signals v a w h k =
    either (nat_lt channel (length (layout_of v).events)) _ _ _ k
    (λ m. either (takes_signals (layout_of v) (length signals)) _ _ _ m
    (λ n. either (nat_le (length v.outbox + length (with_overload (outbox_size v) v.overloaded _)) (outbox_size v)) _ _ _ n (λ o. ap f o.1 ∙ h _ _) (λ o. ap f o.1 ∙ h v.outbox _))
    (λ n. ap f n.1))
    (λ m. ap f m.1)

-- FinishStore leaves each part that a finished store doesn't change
pub stores-part : {A : Type 0} (f : SlaveValue → A) (v : SlaveValue) (a : Answer) (w : SlaveValue) → f (stored v) ≡ f v → Answers v requests.FinishStore a w → f w ≡ f v
stores-part f v a w h k = either v.store _ _ _ k (λ m. either (v.connected && nat_le (outbox_size v) (length v.outbox)) _ _ _ m (λ n. ap f n.1) (λ n. ap f n.1 ∙ h)) (λ m. ap f m.1)

-- the MTA

row-mta : (c : Command) (v : SlaveValue) → IsNone mta_codes (code c) → (row c (found_by c v)).after.transfer.mta ≡ v.transfer.mta
row-mta (commands.Connect mode) v h = cc
row-mta commands.Disconnect v h = cc
row-mta (commands.GetId kind) v h = cc
row-mta (commands.SetMta extension address) v h = cc
row-mta (commands.Upload n) v h = cc
row-mta (commands.ShortUpload n extension address) v h = cc
row-mta (commands.BuildChecksum size) v h = cc
row-mta (commands.Download n bytes) v h = cc
row-mta (commands.DownloadNext remaining bytes) v h = cc
row-mta (commands.DownloadMax bytes) v h = cc
row-mta (commands.ShortDownload n extension address bytes) v h = cc
row-mta (commands.GetDaqEventInfo channel) v h = cc
row-mta _ v h = refl

-- a request that is no hangup and no command that moves the MTA keeps the MTA
pub mta-kept : (v : SlaveValue) (q : Request) (a : Answer) (w : SlaveValue) → IsBeside mta_codes q → q ≢ requests.Hangup → Answers v q a w → w.transfer.mta ≡ v.transfer.mta
mta-kept v (requests.Command p) a w b n k = packet-part (λ x. x.transfer.mta) (IsNone mta_codes) v p.items a w refl (λ c h. row-mta c v h) b k
mta-kept v (requests.Event channel signals) a w b n k = fires-part (λ x. x.transfer.mta) channel signals.items v a w (λ o lost. refl) k
mta-kept v requests.Drain a w b n k = drains-part (λ x. x.transfer.mta) v.outbox v a w (λ o. refl) k
mta-kept v requests.FinishStore a w b n k = stores-part (λ x. x.transfer.mta) v a w refl k
mta-kept v requests.Hangup a w b n k = absurd (n refl)
mta-kept v (requests.Time time) a w b n k = ap (λ (x : SlaveValue). x.transfer.mta) k.1
mta-kept v (requests.Signals place bytes) a w b n k = hands-part (λ x. x.transfer.mta) place bytes.items v a w refl k

-- whether a tool is connected

row-session : (c : Command) (v : SlaveValue) → IsNone session_codes (code c) → (row c (found_by c v)).after.connected ≡ v.connected
row-session (commands.Connect mode) v h = cc
row-session commands.Disconnect v h = cc
row-session _ v h = refl

-- a request that is no CONNECT, DISCONNECT or hangup keeps whether a tool is connected
pub session-kept : (v : SlaveValue) (q : Request) (a : Answer) (w : SlaveValue) → IsBeside session_codes q → q ≢ requests.Hangup → Answers v q a w → w.connected ≡ v.connected
session-kept v (requests.Command p) a w b n k = packet-part (λ x. x.connected) (IsNone session_codes) v p.items a w refl (λ c h. row-session c v h) b k
session-kept v (requests.Event channel signals) a w b n k = fires-part (λ x. x.connected) channel signals.items v a w (λ o lost. refl) k
session-kept v requests.Drain a w b n k = drains-part (λ x. x.connected) v.outbox v a w (λ o. refl) k
session-kept v requests.FinishStore a w b n k = stores-part (λ x. x.connected) v a w refl k
session-kept v requests.Hangup a w b n k = absurd (n refl)
session-kept v (requests.Time time) a w b n k = ap (λ (x : SlaveValue). x.connected) k.1
session-kept v (requests.Signals place bytes) a w b n k = hands-part (λ x. x.connected) place bytes.items v a w refl k

-- the DAQ lists

row-lists : (c : Command) (v : SlaveValue) → IsNone list_codes (code c) → (row c (found_by c v)).after.daq ≡ v.daq
row-lists commands.Disconnect v h = cc
row-lists (commands.ClearDaqList list) v h = cc
row-lists (commands.SetDaqPtr list odt entry) v h = cc
row-lists (commands.WriteDaq offset size extension address) v h = cc
row-lists (commands.WriteDaqMultiple bytes) v h = cc
row-lists (commands.SetDaqListMode mode list event prescaler priority) v h = cc
row-lists (commands.StartStopDaqList mode list) v h = cc
row-lists (commands.StartStopSynch mode) v h = cc
row-lists commands.ReadDaq v h = cc
row-lists commands.FreeDaq v h = cc
row-lists (commands.AllocDaq count) v h = cc
row-lists (commands.AllocOdt list count) v h = cc
row-lists (commands.AllocOdtEntry list odt count) v h = cc
row-lists _ v h = refl

-- a request that is no event, no hangup and no command that changes the DAQ lists or their pointer keeps both
pub lists-kept : (v : SlaveValue) (q : Request) (a : Answer) (w : SlaveValue) → IsBeside list_codes q → IsNoEvent q → q ≢ requests.Hangup → Answers v q a w → w.daq ≡ v.daq
lists-kept v (requests.Command p) a w b e n k = packet-part (λ x. x.daq) (IsNone list_codes) v p.items a w refl (λ c h. row-lists c v h) b k
lists-kept v (requests.Event channel signals) a w b e n k = absurd e
lists-kept v requests.Drain a w b e n k = drains-part (λ x. x.daq) v.outbox v a w (λ o. refl) k
lists-kept v requests.FinishStore a w b e n k = stores-part (λ x. x.daq) v a w refl k
lists-kept v requests.Hangup a w b e n k = absurd (n refl)
lists-kept v (requests.Time time) a w b e n k = ap (λ (x : SlaveValue). x.daq) k.1
lists-kept v (requests.Signals place bytes) a w b e n k = hands-part (λ x. x.daq) place bytes.items v a w refl k

-- the store request

row-store : (c : Command) (v : SlaveValue) → IsNone store_codes (code c) → (row c (found_by c v)).after.store ≡ v.store
row-store (commands.SetRequest mode id) v h = cc
row-store _ v h = refl

-- a request that is no SET_REQUEST and no FinishStore keeps the store request
pub store-kept : (v : SlaveValue) (q : Request) (a : Answer) (w : SlaveValue) → IsBeside store_codes q → q ≢ requests.FinishStore → Answers v q a w → w.store ≡ v.store
store-kept v (requests.Command p) a w b n k = packet-part (λ x. x.store) (IsNone store_codes) v p.items a w refl (λ c h. row-store c v h) b k
store-kept v (requests.Event channel signals) a w b n k = fires-part (λ x. x.store) channel signals.items v a w (λ o lost. refl) k
store-kept v requests.Drain a w b n k = drains-part (λ x. x.store) v.outbox v a w (λ o. refl) k
store-kept v requests.FinishStore a w b n k = absurd (n refl)
store-kept v requests.Hangup a w b n k = ap (λ (x : SlaveValue). x.store) k.1
store-kept v (requests.Time time) a w b n k = ap (λ (x : SlaveValue). x.store) k.1
store-kept v (requests.Signals place bytes) a w b n k = hands-part (λ x. x.store) place bytes.items v a w refl k

-- what a command changes, and nothing else

-- an accepted GET_ID of kind 0 sets the MTA to the identification, gives a block up, and changes nothing else
pub id-alone : (v w : SlaveValue) (bytes : List ℕ) → Accepts v (commands.GetId 0) bytes w → w ≡ record v { transfer = record v.transfer { mta = Text Id 0; block = None } }
id-alone v w bytes h = (accepted (commands.GetId 0) v bytes w h).after

starts-at : SlaveValue → Option TextId → SlaveValue
starts-at v id = record v { transfer = record v.transfer { mta = text_start v.transfer.mta id; block = None } }

-- an accepted GET_ID of a kind that there is sets the MTA to its text, gives a block up, and changes nothing else
pub text-alone : (v w : SlaveValue) (kind : ℕ) (id : TextId) (bytes : List ℕ) → text_of_kind (layout_of v) kind ≡ Some id → Accepts v (commands.GetId kind) bytes w → w ≡ record v { transfer = record v.transfer { mta = Text id 0; block = None } }
unfolding starts-at
text-alone v w kind id bytes e h = (accepted (commands.GetId kind) v bytes w h).after ∙ ap (λ (t : Option TextId). starts-at v t) e

-- an accepted GET_ID of another kind gives a block up, and changes nothing else
pub text-none : (v w : SlaveValue) (kind : ℕ) (bytes : List ℕ) → text_of_kind (layout_of v) kind ≡ None → Accepts v (commands.GetId kind) bytes w → w ≡ record v { transfer = record v.transfer { block = None } }
unfolding starts-at
text-none v w kind bytes e h = (accepted (commands.GetId kind) v bytes w h).after ∙ ap (λ (t : Option TextId). starts-at v t) e

not-that : (kind n : ℕ) → kind ≢ n → (kind == n) ≡ false
not-that kind n h = grind (arith, nat_tests, h)

-- where no kind has a text
none-at : (zero one four five : Bool) (a b c d : Option TextId) → zero ≡ false → b ≡ None → c ≡ None → d ≡ None → (if zero then a else (if one then b else (if four then c else (if five then d else None)))) ≡ None
none-at zero true four five a b c d h i j k = rw h i
none-at zero false true five a b c d h i j k = rw h j
none-at zero false false true a b c d h i j k = rw h k
none-at zero false false false a b c d h i j k = rw h refl

none-there : (l : LayoutValue) (id : TextId) → text_of l id ≡ [] → with_bytes l id ≡ None
none-there l id h = ap (λ (t : List ℕ). if length t == 0 then None else Some id) h

-- A plain layout has the identification alone.
pub plain-texts : (l : LayoutValue) (kind : ℕ) → IsPlain l → kind ≢ 0 → text_of_kind l kind ≡ None
plain-texts l kind h n =
    none-at (kind == 0) (kind == 1) (kind == 4) (kind == 5) (Some Id) (with_bytes l A2lName) (with_bytes l A2lFile) (with_bytes l Epk) (not-that kind 0 n)
    (none-there l A2lName (ap (λ (e : ExtrasValue). e.a2l) h))
    (none-there l A2lFile (ap (λ (e : ExtrasValue). description e) h))
    (none-there l Epk (ap (λ (e : ExtrasValue). epk e) h))

-- an accepted GET_ID of another kind than 0, of a plain layout
pub id-none : (v w : SlaveValue) (kind : ℕ) (bytes : List ℕ) → IsPlain (layout_of v) → kind ≢ 0 → Accepts v (commands.GetId kind) bytes w → w ≡ record v { transfer = record v.transfer { block = None } }
id-none v w kind bytes p n h = text-none v w kind bytes (plain-texts (layout_of v) kind p n) h

-- an accepted GET_DAQ_EVENT_INFO sets the MTA to its channel's name, gives a block up, and changes nothing else
pub event-alone : (v w : SlaveValue) (channel : ℕ) (bytes : List ℕ) → Accepts v (commands.GetDaqEventInfo channel) bytes w → w ≡ record v { transfer = record v.transfer { mta = Text (Name channel) 0; block = None } }
event-alone v w channel bytes h = (accepted (commands.GetDaqEventInfo channel) v bytes w h).after

-- the slave with other pages, and with no block
paged : SlaveValue → PagesValue → SlaveValue
paged v p = record v { transfer = record v.transfer { pages = p; block = None } }

-- an accepted MODIFY_BITS writes four bytes at the MTA's address, gives a block up, and changes nothing else
pub bits-alone : (v w : SlaveValue) (s ma mx a : ℕ) (bytes : List ℕ) → IsSlave v → v.transfer.mta ≡ Memory a → Accepts v (commands.ModifyBits s ma mx) bytes w → (four : List ℕ) × (length four ≡ 4) × Writes v.transfer.pages a four w.transfer.pages × (w ≡ record v { transfer = record v.transfer { pages = w.transfer.pages; block = None } })
unfolding paged
bits-alone v w s ma mx a bytes h e k =
    let r = bits-writes v w s ma mx a bytes h e k in
    let after = (accepted (commands.ModifyBits s ma mx) v bytes w k).after in
    (_, length-bytes_of (layout_of v).order 4 _, r.2, after ∙ sym (ap (λ (x : SlaveValue). paged v x.transfer.pages) after))

-- an accepted CONNECT begins a session, with the MTA nowhere and no block, and changes nothing else
pub connect-alone : (v w : SlaveValue) (mode : ℕ) (bytes : List ℕ) → Accepts v (commands.Connect mode) bytes w → w ≡ record v { connected = true; transfer = record v.transfer { mta = Nowhere; block = None } }
connect-alone v w mode bytes h = (accepted (commands.Connect mode) v bytes w h).after

-- an accepted DISCONNECT ends the session with its MTA, block, DAQ lists and outbox, and changes nothing else
pub disconnect-alone : (v w : SlaveValue) (bytes : List ℕ) → Accepts v commands.Disconnect bytes w → w ≡ record v { connected = false; transfer = record v.transfer { mta = Nowhere; block = None }; daq = record { class = v.daq.class; lists = []; pointer = None; last = None }; outbox = []; overloaded = false }
disconnect-alone v w bytes h = (accepted commands.Disconnect v bytes w h).after

-- the same for a hangup
pub hangup-alone : (v w : SlaveValue) (a : Answer) → Answers v requests.Hangup a w → w ≡ record v { connected = false; transfer = record v.transfer { mta = Nowhere; block = None }; daq = record { class = v.daq.class; lists = []; pointer = None; last = None }; outbox = []; overloaded = false }
hangup-alone v w a h = h.1
