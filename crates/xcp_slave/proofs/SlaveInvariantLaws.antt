-- What is true of a slave at any time, step by step.
use Rattle.std.proofs.Common.{◌≡◌, ℕ, zero, suc, ◌+◌, ◌<◌, ◌≤◌, Bool, true, false, List, [], ◌∷◌, ◌++◌, length, Option, None, Result, Ok, Err, ap, sym, ◌∙◌, refl, subst, arith, length-append, All, nat_le, nat_lt}
use Rattle.std.specs.Prelude.{◌==◌, ◌&&◌, ◌||◌, if◌then◌else◌, MatchBool, replicate}
use Rattle.std.proofs.lemmas.List.{length-replicate}
use Rattle.std.proofs.lemmas.Bool.Decides.{nat_tests}
use Rattle.std.proofs.lemmas.List.Elements.{All-get_or}
use Rattle.arrayvec.specs.ArrayVec.{ArrayVec}
use Rattle.xcp_packet.specs.ByteOrder.{byte_at}
use Rattle.xcp_packet.specs.CommandSpelling.{spells}
use Rattle.xcp_packet.specs.Decoding.{Decodes}
use Rattle.xcp_packet.specs.declared.Order.{Order}
use Rattle.xcp_packet.specs.declared.Command.{Command}
use Rattle.xcp_packet.specs.declared.Command.TheVariants as commands
use Rattle.xcp_packet.specs.declared.Refuse.{Refuse}
use Rattle.xcp_packet.specs.declared.Refuse.TheVariants as refuses
use Rattle.xcp_packet.specs.declared.Reply.{Reply}
use Rattle.xcp_packet.specs.declared.Code.TheVariants.{OutOfRange}
use Rattle.xcp_memory.specs.ClassLimits.{limits_of}
use Rattle.xcp_memory.specs.Layout.{LayoutValue, IsLayout}
use Rattle.xcp_memory.specs.Signals.{takes_signals}
use Rattle.xcp_memory.specs.PageSwitch.{switch_refusal}
use Rattle.xcp_memory.specs.PageCopy.{copy_refusal}
use Rattle.xcp_memory.specs.Freeze.{set_freeze_refusal}
use Rattle.xcp_memory.proofs.OpeningPageLemmas.{is_pages-opening}
use Rattle.xcp_packet.specs.Rows.{Meets, first_holding}
use Rattle.xcp_transfer.specs.Laws.{IsLawful}
use Rattle.xcp_daq.specs.Allocating.{alloc_daq_refusal, alloc_odt_refusal, alloc_odt_entry_refusal}
use Rattle.xcp_daq.specs.Configuring.{clear_daq_list_refusal, set_daq_ptr_refusal, write_daq_refusal, set_daq_list_mode_refusal}
use Rattle.xcp_daq.specs.Starting.{start_stop_daq_list_refusal, start_stop_synch_refusal}
use Rattle.xcp_daq.specs.DaqInfo.{event_info_refusal}
use Rattle.xcp_daq.specs.Sample.{sampled}
use Rattle.xcp_slave.specs.declared.request.Request.{Request}
use Rattle.xcp_slave.specs.declared.request.Request.TheVariants as requests
use Rattle.xcp_slave.specs.Outcomes.{Answer}
use Rattle.xcp_slave.specs.declared.exchange.Exchange.{Exchange}
use Rattle.xcp_slave.specs.SlaveValue.{SlaveValue, layout_of, noblock, ended, opening}
use Rattle.xcp_slave.specs.Rows.{row}
use Rattle.xcp_slave.specs.Step.{Answers, Heeds, Drains, Stores, Samples, Fires, outbox_size, stored, store_event, still_overloaded, with_loss, with_overload, with_sample, with_signals, found_by, is_connect, at_time, with_part}
use Rattle.xcp_slave.specs.Run.{Run}
use Rattle.xcp_slave.specs.SlaveInvariant.{IsLists, IsWaiting, IsSlave, IsOfBytes}
use Rattle.xcp_slave.proofs.StepLaws.{either}
use Rattle.xcp_slave.proofs.LayoutKeptLemmas.{row-layout}
use Rattle.xcp_slave.proofs.ListInvariantLemmas as lists
use Rattle.xcp_slave.proofs.ListInvariantLemmas.{NoneHolds, none-holds, is_below}
use Rattle.xcp_slave.proofs.TransferInvariantLemmas as transfers
use Rattle.xcp_slave.proofs.TransferInvariantLemmas.{none-refused}
use Rattle.xcp_slave.proofs.OutboxInvariantLemmas.{sample, sample-waits, event-waits, rest-waits}

-- the numbers of a command that are bytes
abbrev HasBytes : Command → Type 0
HasBytes (commands.SetDaqListMode mode list event prescaler priority) = (prescaler ≤ 255) × (priority ≤ 255)
HasBytes _ = Unit {0}

byte-below : (p : List ℕ) (k n : ℕ) → All (λ byte. byte < 256) p → k < length p → n ≡ byte_at k p → n ≤ 255
byte-below p k n h below e = let b = All-get_or (λ (byte : ℕ). byte < 256) p k 0 below h in omega (arith, b, e)

has-bytes : (order : Order) (c : Command) (p : List ℕ) → All (λ byte. byte < 256) p → spells order c p → HasBytes c
has-bytes order (commands.SetDaqListMode mode list event prescaler priority) p h s =
    (byte-below p 6 prescaler h (omega (arith, s.0.enough)) s.1.1.1.1.0, byte-below p 7 priority h (omega (arith, s.0.enough)) s.1.1.1.1.1.0)
has-bytes order _ p h s = tt

row-transfer : (c : Command) (v : SlaveValue) → IsLawful v.transfer → first_holding (row c v).refusals ≡ None → IsLawful (row c v).after.transfer
row-transfer (commands.Connect mode) v h r = transfers.nowhere v.transfer h
row-transfer commands.Disconnect v h r = transfers.nowhere v.transfer h
row-transfer commands.GetStatus v h r = h
row-transfer commands.Synch v h r = h
row-transfer commands.GetCommModeInfo v h r = h
row-transfer (commands.GetId kind) v h r = transfers.get-id kind v.transfer h
row-transfer (commands.SetMta extension address) v h r = transfers.set-mta address v.transfer h
row-transfer (commands.Upload n) v h r = transfers.upload n v.transfer h r
row-transfer (commands.ShortUpload n extension address) v h r = transfers.short-upload n extension address v.transfer h
row-transfer (commands.BuildChecksum size) v h r = transfers.build-checksum size v.transfer h r
row-transfer (commands.Download n bytes) v h r = transfers.download n bytes.items v.transfer h r
row-transfer (commands.DownloadNext remaining bytes) v h r = transfers.download-next remaining bytes.items v.transfer h r
row-transfer (commands.DownloadMax bytes) v h r = transfers.download-max bytes.items v.transfer h r
row-transfer (commands.ShortDownload n extension address bytes) v h r = transfers.short-download n extension address bytes.items v.transfer h r
row-transfer (commands.ModifyBits s ma mx) v h r = transfers.modify-bits s ma mx v.transfer h
row-transfer (commands.SetCalPage mode segment page) v h r = transfers.switched-kept v.transfer mode segment page h (none-refused (switch_refusal mode segment page v.transfer.pages) r)
row-transfer (commands.SetSegmentMode mode segment) v h r = transfers.mode-kept v.transfer mode segment h (none-refused (set_freeze_refusal mode segment v.transfer.pages) r)
row-transfer (commands.CopyCalPage source source_page target target_page) v h r = transfers.copied-kept v.transfer source source_page target target_page h (none-refused (copy_refusal source source_page target target_page v.transfer.pages) r)
row-transfer (commands.GetDaqEventInfo channel) v h r =
    let a = none-holds ((nat_le (length (layout_of v).events) channel, OutOfRange) ∷ []) (none-refused (event_info_refusal (layout_of v) channel) r) in
    transfers.event-name channel v.transfer h (is_below _ _ a.0)
row-transfer _ v h r = transfers.without v.transfer h

row-lists : (c : Command) (v : SlaveValue) → HasBytes c → IsLayout (layout_of v) → IsLists (layout_of v) v.daq → first_holding (row c v).refusals ≡ None → IsLists (layout_of v) (row c v).after.daq
row-lists commands.Disconnect v b l h r = lists.no-lists (layout_of v) v.daq.class None h.class
row-lists (commands.ClearDaqList list) v b l h r = lists.clear-list (layout_of v) list v.daq h (none-refused (clear_daq_list_refusal list v.daq) r)
row-lists (commands.SetDaqPtr list odt entry) v b l h r = lists.set-pointer (layout_of v) list odt entry v.daq h (none-refused (set_daq_ptr_refusal list odt entry v.daq) r)
row-lists (commands.WriteDaq offset size extension address) v b l h r = lists.write-daq (layout_of v) offset size extension address v.daq l h (none-refused (write_daq_refusal (layout_of v) offset size extension address v.daq) r)
row-lists (commands.WriteDaqMultiple bytes) v b l h r = lists.write-multiple (layout_of v) bytes.items v.daq l h
row-lists (commands.SetDaqListMode mode list event prescaler priority) v b l h r = lists.set-mode (layout_of v) mode list event prescaler priority v.daq l h b.0 b.1 (none-refused (set_daq_list_mode_refusal (layout_of v) mode list event prescaler v.daq) r)
row-lists (commands.StartStopDaqList mode list) v b l h r = lists.start-stop (layout_of v) mode list v.daq l h (none-refused (start_stop_daq_list_refusal (layout_of v) mode list v.daq) r)
row-lists (commands.StartStopSynch mode) v b l h r = lists.synch (layout_of v) mode v.daq l h (none-refused (start_stop_synch_refusal (layout_of v) mode v.daq) r)
row-lists commands.ReadDaq v b l h r = lists.read-daq (layout_of v) v.daq h
row-lists commands.FreeDaq v b l h r = lists.no-lists (layout_of v) v.daq.class _ h.class
row-lists (commands.AllocDaq count) v b l h r = lists.alloc-daq (layout_of v) count v.daq h (none-refused (alloc_daq_refusal count v.daq) r)
row-lists (commands.AllocOdt list count) v b l h r = lists.alloc-odt (layout_of v) list count v.daq h (none-refused (alloc_odt_refusal list count v.daq) r)
row-lists (commands.AllocOdtEntry list odt count) v b l h r = lists.alloc-entry (layout_of v) list odt count v.daq h (none-refused (alloc_odt_entry_refusal list odt count v.daq) r)
row-lists _ v b l h r = h

-- no more packets wait than have room, and each may
record Waits (l : LayoutValue) (o : List (ArrayVec ℕ)) : Type 0 where
  few : length o ≤ (limits_of l.class).packets
  waiting : All (IsWaiting l) o

row-outbox : (c : Command) (v : SlaveValue) → Waits (layout_of v) v.outbox → Waits (layout_of v) (row c v).after.outbox
row-outbox commands.Disconnect v h = record { few = omega arith; waiting = λ k d below. absurd (omega arith) }
row-outbox _ v h = h

idle-no : (b : Bool) → (b || false) ≡ true → b ≡ false → ⊥
idle-no true h e = cc
idle-no false h e = cc

row-idle : (c : Command) (v : SlaveValue) → (v.connected || is_connect c) ≡ true → (row c v).after.connected ≡ false → (row c v).after ≡ ended (row c v).after
row-idle (commands.Connect mode) v h e = cc
row-idle commands.Disconnect v h e = refl
row-idle _ v h e = absurd (idle-no v.connected h e)

-- a slave within its limits is so without its block too
pub noblock-kept : (v : SlaveValue) → IsSlave v → IsSlave (noblock v)
noblock-kept v h = record { transfer = transfers.without v.transfer h.transfer; lists = h.lists; few = h.few; waiting = h.waiting; asked = h.asked; idle = λ e. ap noblock (h.idle e) }

-- and so it is as a command finds it
pub found-kept : (c : Command) (v : SlaveValue) → IsSlave v → IsSlave (found_by c v)
found-kept (commands.DownloadNext remaining bytes) v h = h
found-kept _ v h = noblock-kept v h

found-connected : (c : Command) (v : SlaveValue) → (found_by c v).connected ≡ v.connected
found-connected (commands.DownloadNext remaining bytes) v = refl
found-connected _ v = refl

row-asked : (c : Command) (v : SlaveValue) → (row c v).after.overloaded ≡ true → v.overloaded ≡ true
row-asked commands.Disconnect v e = cc
row-asked _ v e = e

row-kept : (c : Command) (v : SlaveValue) → HasBytes c → IsSlave v → (v.connected || is_connect c) ≡ true → first_holding (row c v).refusals ≡ None → IsSlave (row c v).after
row-kept c v b h on r =
    let same = row-layout c v in
    let waits : Waits (layout_of v) (row c v).after.outbox = row-outbox c v (record { few = h.few; waiting = h.waiting }) in
    record {
      transfer = row-transfer c v h.transfer r;
      lists = subst (λ (l : LayoutValue). IsLists l (row c v).after.daq) (sym same) (row-lists c v b h.transfer.layout h.lists r);
      few = subst (λ (l : LayoutValue). length (row c v).after.outbox ≤ (limits_of l.class).packets) (sym same) waits.few;
      waiting = subst (λ (l : LayoutValue). All (IsWaiting l) (row c v).after.outbox) (sym same) waits.waiting;
      asked = λ e. ap (λ (l : LayoutValue). l.extras.tells_overload) same ∙ h.asked (row-asked c v e);
      idle = row-idle c v on;
    }

same-kept : (v w : SlaveValue) → IsSlave v → w ≡ v → IsSlave w
same-kept v w h e = subst IsSlave (sym e) h

meets-kept : (c : Command) (v : SlaveValue) (x : Result (Option Reply) Reply) (w : SlaveValue) → HasBytes c → IsSlave v → (v.connected || is_connect c) ≡ true → Meets (row c (found_by c v)) (noblock v) x w → IsSlave w
meets-kept c v (Ok reply) w b h on m = same-kept _ w (row-kept c (found_by c v) b (found-kept c v h) (ap (λ (t : Bool). t || is_connect c) (found-connected c v) ∙ on) m.0) m.2
meets-kept c v (Err e) w b h on m = same-kept _ w (noblock-kept v h) m.1

-- whichever way a test goes
pub either-test : (t : Bool) (P Q R : Type 0) → (t ≡ true → P → R) → (t ≡ false → Q → R) → MatchBool t P Q → R
either-test true P Q R p q h = p refl h
either-test false P Q R p q h = q refl h

heeds-kept : (v : SlaveValue) (p : List ℕ) (d : Result Command Refuse) (a : Answer) (w : SlaveValue) → ((c : Command) → d ≡ Ok c → HasBytes c) → IsSlave v → Heeds v d a w → IsSlave w
heeds-kept v p (Ok c) a w b h k = either-test (v.connected || is_connect c) _ _ _ (λ on m. meets-kept c v m.0 w (b c refl) h on m.1) (λ off m. same-kept v w h m.1) k
heeds-kept v p (Err refuses.Empty) a w b h k = same-kept v w h k.1
heeds-kept v p (Err refuses.Unknown) a w b h k = either v.connected _ _ _ k (λ m. same-kept _ w (noblock-kept v h) m.1) (λ m. same-kept v w h m.1)
heeds-kept v p (Err refuses.Short) a w b h k = either v.connected _ _ _ k (λ m. same-kept _ w (noblock-kept v h) m.1) (λ m. same-kept v w h m.1)

-- a slave that nobody is connected to keeps so
moved-idle : (f : SlaveValue → SlaveValue) (v : SlaveValue) → ((x : SlaveValue) → f (ended x) ≡ ended (f x)) → v ≡ ended v → f v ≡ ended (f v)
moved-idle f v same e = ap f e ∙ same v

drains-kept : (o : List (ArrayVec ℕ)) (v : SlaveValue) (a : Answer) (w : SlaveValue) → v.outbox ≡ o → IsSlave v → Drains o v a w → IsSlave w
drains-kept [] v a w e h k = same-kept v w h k.1
drains-kept (packet ∷ rest) v a w e h k =
    let all : All (IsWaiting (layout_of v)) (packet ∷ rest) = subst (All (IsWaiting (layout_of v))) e h.waiting in
    let few : length (packet ∷ rest) ≤ outbox_size v = subst (λ (ps : List (ArrayVec ℕ)). length ps ≤ outbox_size v) e h.few in
    same-kept _ w (record {
      transfer = h.transfer;
      lists = h.lists;
      few = omega arith;
      waiting = rest-waits (layout_of v) packet rest all;
      asked = h.asked;
      idle = λ off. (let none : v.outbox ≡ [] = ap (λ (x : SlaveValue). x.outbox) (h.idle off) in let both : [] ≡ packet ∷ rest = sym none ∙ e in cc);
    }) k.1

stored-few : (size : ℕ) (on : Bool) (o : List (ArrayVec ℕ)) → length o ≤ size → (on && nat_le size (length o)) ≡ false → length (if on then o ++ store_event ∷ [] else o) ≤ size
stored-few size true o h t = let short : length o < size = is_below (length o) size t in omega (arith, length-append o (store_event ∷ []))
stored-few size false o h t = h

stored-waits : (l : LayoutValue) (on : Bool) (o : List (ArrayVec ℕ)) → All (IsWaiting l) o → All (IsWaiting l) (if on then o ++ store_event ∷ [] else o)
stored-waits l true o h = event-waits l o h
stored-waits l false o h = h

stores-kept : (v : SlaveValue) (a : Answer) (w : SlaveValue) → IsSlave v → Stores v a w → IsSlave w
stores-kept v a w h k =
    either-test (v.connected && nat_le (outbox_size v) (length v.outbox)) _ _ _
    (λ full m. same-kept v w h m.1)
    (λ room m. same-kept (stored v) w (record {
      transfer = transfers.frozen-kept v.transfer h.transfer;
      lists = h.lists;
      few = stored-few (outbox_size v) v.connected v.outbox h.few room;
      waiting = stored-waits (layout_of v) v.connected v.outbox h.waiting;
      asked = h.asked;
      idle = λ off. moved-idle stored v (λ x. refl) (h.idle off);
    }) m.1)
    k

part-kept : (place : ℕ) (bytes : List ℕ) (v : SlaveValue) → IsSlave v → place + length bytes ≤ (layout_of v).signals_length → IsSlave (with_part place bytes v)
part-kept place bytes v h e = record { transfer = transfers.part-kept v.transfer place bytes h.transfer e; lists = h.lists; few = h.few; waiting = h.waiting; asked = h.asked; idle = λ off. moved-idle (with_part place bytes) v (λ x. refl) (h.idle off) }

signals-kept : (signals : List ℕ) (v : SlaveValue) → IsSlave v → takes_signals (layout_of v) (length signals) ≡ true → IsSlave (with_signals signals v)
signals-kept signals v h e = part-kept 0 signals v h (transfers.taken-fit (layout_of v).class (length signals) (layout_of v).signals_length e)

-- with the packets of an event
sampled-by : ℕ → SlaveValue → SlaveValue
sampled-by channel v = with_sample channel (sampled channel v.time v.transfer.pages v.daq) v

sampled-idle : (channel : ℕ) (v : SlaveValue) → v ≡ ended v → sampled-by channel v ≡ ended (sampled-by channel v)
unfolding sampled-by
sampled-idle channel v e = moved-idle (sampled-by channel) v (λ x. refl) e

-- what an event puts has room
abbrev has_room : ℕ → SlaveValue → Bool
has_room channel v = nat_le (length v.outbox + length (with_overload (outbox_size v) v.overloaded (sampled channel v.time v.transfer.pages v.daq))) (outbox_size v)

no-more : (n : ℕ) → nat_le 0 n ≡ true
no-more n = grind (arith, nat_tests)

-- so it has while nobody is connected: it is nothing
idle-room : (channel : ℕ) (v : SlaveValue) → v ≡ ended v → has_room channel v ≡ false → ⊥
idle-room channel v e full =
    let none : has_room channel (ended v) ≡ true = no-more (outbox_size (ended v)) in
    let t : true ≡ false = sym (ap (has_room channel) e ∙ none) ∙ full in
    cc

was-overloaded : (size : ℕ) (overloaded : Bool) (ps : List (ArrayVec ℕ)) → still_overloaded size overloaded ps ≡ true → overloaded ≡ true
was-overloaded size true ps e = refl
was-overloaded size false ps e = cc

samples-kept : (channel : ℕ) (v : SlaveValue) (a : Answer) (w : SlaveValue) → IsSlave v → Samples channel (sampled channel v.time v.transfer.pages v.daq) v a w → IsSlave w
unfolding sampled-by
samples-kept channel v a w h k =
    let new : List (ArrayVec ℕ) = sampled channel v.time v.transfer.pages v.daq in
    let all : List (ArrayVec ℕ) = with_overload (outbox_size v) v.overloaded new in
    either-test (has_room channel v) _ _ _
    (λ room m. same-kept (sampled-by channel v) w (record {
      transfer = h.transfer;
      lists = lists.event (layout_of v) channel v.daq h.lists;
      few = (let long = length-append v.outbox all in let fits : length v.outbox + length all ≤ outbox_size v = grind (arith, nat_tests, room) in omega arith);
      waiting = sample-waits (layout_of v) v.overloaded v.outbox new h.asked h.waiting (sample (layout_of v) channel v.time v.transfer.pages v.daq h.lists);
      asked = λ e. h.asked (was-overloaded (outbox_size v) v.overloaded new e);
      idle = λ off. sampled-idle channel v (h.idle off);
    }) m.1)
    (λ full m. same-kept (with_loss channel v) w (record {
      transfer = h.transfer;
      lists = lists.event (layout_of v) channel v.daq h.lists;
      few = h.few;
      waiting = h.waiting;
      asked = λ e. e;
      idle = λ off. absurd (idle-room channel v (h.idle off) full);
    }) m.1)
    k

fires-kept : (channel : ℕ) (signals : List ℕ) (v : SlaveValue) (a : Answer) (w : SlaveValue) → IsSlave v → Fires channel signals v a w → IsSlave w
fires-kept channel signals v a w h k =
    either (nat_lt channel (length (layout_of v).events)) _ _ _ k
    (λ m. either-test (takes_signals (layout_of v) (length signals)) _ _ _
    (λ long n. samples-kept channel (with_signals signals v) a w (signals-kept signals v h long) n)
    (λ off n. same-kept v w h n.1)
    m)
    (λ m. same-kept v w h m.1)

time-kept : (time : ℕ) (v : SlaveValue) → IsSlave v → IsSlave (at_time time v)
time-kept time v h = record { transfer = h.transfer; lists = h.lists; few = h.few; waiting = h.waiting; asked = h.asked; idle = λ off. moved-idle (at_time time) v (λ x. refl) (h.idle off) }

ended-kept : (v : SlaveValue) → IsSlave v → IsSlave (ended v)
ended-kept v h = record { transfer = transfers.nowhere v.transfer h.transfer; lists = lists.no-lists (layout_of v) v.daq.class None h.lists.class; few = omega arith; waiting = λ k d below. absurd (omega arith); asked = λ e. cc; idle = λ off. refl }

spelt : (order : Order) (p : List ℕ) (d : Result Command Refuse) → All (λ byte. byte < 256) p → Decodes order p d → (c : Command) → d ≡ Ok c → HasBytes c
spelt order p d b k c e = has-bytes order c p b (subst (Decodes order p) e k)

-- each step keeps a slave within its limits, where a command packet is made of bytes
pub answers-kept : (v : SlaveValue) (q : Request) (a : Answer) (w : SlaveValue) → IsOfBytes q → IsSlave v → Answers v q a w → IsSlave w
answers-kept v (requests.Command p) a w b h k = heeds-kept v p.items k.0 a w (spelt (layout_of v).order p.items k.0 b k.1) h k.2
answers-kept v (requests.Event channel signals) a w b h k = fires-kept channel signals.items v a w h k
answers-kept v requests.Drain a w b h k = drains-kept v.outbox v a w refl h k
answers-kept v requests.FinishStore a w b h k = either v.store _ _ _ k (stores-kept v a w h) (λ m. same-kept v w h m.1)
answers-kept v requests.Hangup a w b h k = same-kept (ended v) w (ended-kept v h) k.1
answers-kept v (requests.Time time) a w b h k = same-kept (at_time time v) w (time-kept time v h) k.1
answers-kept v (requests.Signals place bytes) a w b h k =
    either-test (nat_le (place + length bytes.items) (layout_of v).signals_length) _ _ _
    (λ fits m. same-kept (with_part place bytes.items v) w (part-kept place bytes.items v h (grind (arith, nat_tests, fits))) m.1)
    (λ off m. same-kept v w h m.1)
    k

-- a slave at its opening is within its limits, where its layout is
pub opening-slave : (l : LayoutValue) → IsLayout l → IsSlave (opening l)
opening-slave l h = record {
  transfer = record { layout = h; pages = is_pages-opening l (replicate l.signals_length 0) h (length-replicate l.signals_length 0); transfer = record { mta = tt; block = tt } };
  lists = lists.no-lists l l.class None refl;
  few = omega arith;
  waiting = λ k d below. absurd (omega arith);
  asked = λ e. cc;
  idle = λ off. refl;
}

-- each run keeps a slave within its limits, where its command packets are made of bytes
pub run-kept : (v : SlaveValue) (xs : List Exchange) (w : SlaveValue) → IsSlave v → All (λ (x : Exchange). IsOfBytes x.request) xs → Run v xs w → IsSlave w
run-kept v [] w h b r = same-kept v w h r
run-kept v (x ∷ xs) w h b r = run-kept r.0 xs w (answers-kept v x.request x.answer r.0 (b zero x (omega arith)) h r.1) (λ k d below. b (suc k) d (omega arith)) r.2

-- so each run from the opening, with a layout within its limits, leads to a slave within its limits
pub run-slave : (l : LayoutValue) (xs : List Exchange) (w : SlaveValue) → IsLayout l → All (λ (x : Exchange). IsOfBytes x.request) xs → Run (opening l) xs w → IsSlave w
run-slave l xs w h b r = run-kept (opening l) xs w (opening-slave l h) b r
