-- Which ODT a packet identifier names.
use Rattle.std.proofs.Common.{◌≡◌, ℕ, zero, suc, ◌+◌, ◌<◌, ◌≤◌, List, [], ◌∷◌, length, take, drop, get_or, Option, Some, ap, sym, ◌∙◌, refl, arith, length-append, lt_of_not-le}
use Rattle.xcp_packet.specs.declared.Command.TheVariants as commands
use Rattle.xcp_packet.specs.declared.Reply.{Reply}
use Rattle.xcp_packet.specs.declared.Reply.TheVariants as replies
use Rattle.xcp_packet.specs.ReplyPacket.{layout}
use Rattle.xcp_daq.specs.DaqLists.{DaqValue, DaqList, no_list, list_at, all_odts, first_pid}
use Rattle.xcp_slave.specs.AcceptedCommands.{Accepts}
use Rattle.xcp_slave.specs.SlaveValue.{SlaveValue, layout_of}
use Rattle.xcp_slave.proofs.AcceptedCommandLaws.{accepted}

-- the ODTs of a list stand behind those of the lists before it, and before those of each later one
front-below : (lists : List DaqList) (i k : ℕ) → i < k → length (all_odts (take i lists)) + length (get_or lists i no_list).odts ≤ length (all_odts (take k lists))
front-below [] zero zero h = omega (arith, h)
front-below [] zero (suc k) h = omega arith
front-below [] (suc i) zero h = omega (arith, h)
front-below [] (suc i) (suc k) h = omega arith
front-below (x ∷ lists) i zero h = omega (arith, h)
front-below (x ∷ lists) zero (suc k) h = let e = length-append x.odts (all_odts (take k lists)) in omega arith
front-below (x ∷ lists) (suc i) (suc k) h =
    let r = front-below lists i k (omega (arith, h)) in
    let a = length-append x.odts (all_odts (take i lists)) in
    let b = length-append x.odts (all_odts (take k lists)) in
    omega arith

later : (v : DaqValue) (i j k l : ℕ) → j < length (list_at v i).odts → first_pid i v + j ≡ first_pid k v + l → suc i ≤ k → ⊥
later v i j k l h e b = let r = front-below v.lists i k (omega (arith, b)) in omega (arith, h)

same-odt : (v : DaqValue) (i j k l : ℕ) → i ≡ k → first_pid i v + j ≡ first_pid k v + l → j ≡ l
same-odt v i j k l s e = let f : first_pid i v ≡ first_pid k v = ap (λ n. first_pid n v) s in omega arith

-- of two ODTs with one PID the lists are the same, and the places in them
pub identified : (v : SlaveValue) (i j k l : ℕ) → j < length (list_at v.daq i).odts → l < length (list_at v.daq k).odts → first_pid i v.daq + j ≡ first_pid k v.daq + l → (i ≡ k) × (j ≡ l)
identified v i j k l h g e =
    let a : k < suc i = lt_of_not-le (later v.daq i j k l h e) in
    let b : i < suc k = lt_of_not-le (later v.daq k l i j g (sym e)) in
    let s : i ≡ k = omega arith in
    (s, same-odt v.daq i j k l s e)

-- the first list's first ODT has PID 0
pub first-zero : (v : SlaveValue) → first_pid 0 v.daq ≡ 0
first-zero v = refl

more-odts : (lists : List DaqList) (i : ℕ) → i < length lists → length (all_odts (take (suc i) lists)) ≡ length (all_odts (take i lists)) + length (get_or lists i no_list).odts
more-odts [] i h = omega (arith, h)
more-odts (x ∷ lists) zero h = let e = length-append x.odts [] in omega arith
more-odts (x ∷ lists) (suc i) h =
    let r = more-odts lists i (omega (arith, h)) in
    let a = length-append x.odts (all_odts (take (suc i) lists)) in
    let b = length-append x.odts (all_odts (take i lists)) in
    omega arith

-- the PIDs of a list's ODTs are followed by those of the next list's
pub next-pid : (v : SlaveValue) (i : ℕ) → i < length v.daq.lists → first_pid (i + 1) v.daq ≡ first_pid i v.daq + length (list_at v.daq i).odts
next-pid v i h = ap (λ n. length (all_odts (take n v.daq.lists))) (let e : i + 1 ≡ suc i = omega arith in e) ∙ more-odts v.daq.lists i h

reply-in : Option Reply → Reply
reply-in (Some r) = r
reply-in _ = replies.Done

-- START_STOP_DAQ_LIST is answered by the PID of the list's first ODT
pub told-pid : (v w : SlaveValue) (mode i : ℕ) (bytes : List ℕ) → Accepts v (commands.StartStopDaqList mode i) bytes w → bytes ≡ first_pid i v.daq ∷ []
unfolding reply-in
told-pid v w mode i bytes h =
    let k = accepted (commands.StartStopDaqList mode i) v bytes w h in
    let r : k.reply ≡ replies.FirstPid (first_pid i v.daq) = sym (ap (λ (o : Option Reply). reply-in o) k.replied) in
    k.sent ∙ ap (λ (reply : Reply). drop 1 (layout (layout_of v).order reply)) r
