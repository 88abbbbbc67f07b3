-- Why commands are refused first.
use Rattle.std.proofs.Common.{◌≡◌, ◌≢◌, ◌+◌, ℕ, Bool, true, false, List, [], ◌∷◌, length, Option, Some, None, Result, Ok, Err, refl, sym, ap, subst, ◌∙◌, nat_lt}
use Rattle.std.specs.Prelude.{◌==◌, ◌||◌, not, MatchBool}
use Rattle.arrayvec.specs.ArrayVec.{ArrayVec}
use Rattle.xcp_packet.proofs.DecodingLaws.{decodes_once}
use Rattle.xcp_packet.specs.CommandSpelling.{spells}
use Rattle.xcp_packet.specs.Rows.{first_holding, refused}
use Rattle.xcp_packet.specs.declared.Code.{Code}
use Rattle.xcp_packet.specs.declared.Code.TheVariants.{Sequence, DaqActive, OutOfRange, MemoryOverflow}
use Rattle.xcp_packet.specs.declared.Command.{Command}
use Rattle.xcp_packet.specs.declared.Command.TheVariants as commands
use Rattle.xcp_packet.specs.declared.Refuse.{Refuse}
use Rattle.xcp_packet.specs.declared.Reply.{Reply}
use Rattle.xcp_packet.specs.declared.Reply.TheVariants as replies
use Rattle.xcp_memory.specs.ClassLimits.{limits_of}
use Rattle.xcp_daq.specs.AllocationSequence.{may_follow}
use Rattle.xcp_daq.specs.DaqLists.{all_entries, all_odts, any_running, lacks_list, lacks_odt, list_at}
use Rattle.xcp_daq.specs.declared.Allocation.{Allocation}
use Rattle.xcp_daq.specs.declared.Allocation.TheVariants.{FreeDaq, AllocDaq, AllocOdt, AllocOdtEntry}
use Rattle.xcp_slave.specs.Rows.{row}
use Rattle.xcp_slave.specs.SlaveValue.{SlaveValue, layout_of}
use Rattle.xcp_slave.specs.Step.{Answers, Executes, Heeds, answer_of, found_by, is_connect}
use Rattle.xcp_slave.specs.Outcomes.{Answer}
use Rattle.xcp_slave.specs.declared.Outcome.TheVariants as answers
use Rattle.xcp_slave.specs.declared.Request.TheVariants as requests

-- a test that holds has its first case
pub first_case : (t : Bool) (P Q : Type 0) → t ≡ true → MatchBool t P Q → P
first_case true P Q e h = h
first_case false P Q e h = cc

-- while a tool is connected a packet that spells a command has that command executed
pub executes : (c : Command) (v w : SlaveValue) (packet : ArrayVec ℕ) (a : Answer) → v.connected ≡ true → spells (layout_of v).order c packet.items → Answers v (requests.Command packet) a w → Executes c v a w
executes c v w packet a on spelt h =
    let same : h.0 ≡ Ok c = decodes_once (layout_of v).order packet.items h.0 (Ok c) h.1 spelt in
    let heeds : Heeds v (Ok c) a w = subst (λ (d : Result Command Refuse). Heeds v d a w) same h.2 in
    first_case (v.connected || is_connect c) _ _ (ap (λ (b : Bool). b || is_connect c) on) heeds

-- a row none of whose refusals holds is answered by its reply
pub replied : (c : Command) (v w : SlaveValue) (a : Answer) → first_holding (row c (found_by c v)).refusals ≡ None → Executes c v a w → a ≡ answer_of (layout_of v) (row c (found_by c v)).reply
replied c v w a none (Ok o, m, s) = s ∙ ap (answer_of (layout_of v)) m.1
replied c v w a none (Err f, m, s) = absurd (let z : ◌≡◌ {A = Option Reply} None (Some f) = sym none ∙ m.0 in cc)

pub stop-all-answered : (v w : SlaveValue) (packet : ArrayVec ℕ) (a : Answer) → v.connected ≡ true → spells (layout_of v).order (commands.StartStopSynch 0) packet.items → Answers v (requests.Command packet) a w → a ≡ answers.Packets ((0xFF ∷ []) ∷ [])
stop-all-answered v w packet a on spelt h = replied (commands.StartStopSynch 0) v w a refl (executes (commands.StartStopSynch 0) v w packet a on spelt h)

pub stop-selected-answered : (v w : SlaveValue) (packet : ArrayVec ℕ) (a : Answer) → v.connected ≡ true → spells (layout_of v).order (commands.StartStopSynch 2) packet.items → Answers v (requests.Command packet) a w → a ≡ answers.Packets ((0xFF ∷ []) ∷ [])
stop-selected-answered v w packet a on spelt h = replied (commands.StartStopSynch 2) v w a refl (executes (commands.StartStopSynch 2) v w packet a on spelt h)

told-some : (f e : Reply) (v : SlaveValue) → ◌≡◌ {A = Option Reply} (Some f) (Some e) → answer_of (layout_of v) (Some f) ≡ answer_of (layout_of v) (Some e)
told-some f e v h = ap (answer_of (layout_of v)) h

-- a row whose first refusal is out of sequence is answered by that
out-of-sequence : (c : Command) (v w : SlaveValue) (a : Answer) → first_holding (row c (found_by c v)).refusals ≡ Some (replies.Error Sequence) → Executes c v a w → a ≡ answers.Packets ((0xFE ∷ 0x29 ∷ []) ∷ [])
out-of-sequence c v w a r (Ok o, m, s) = absurd (let z : ◌≡◌ {A = Option Reply} None (Some (replies.Error Sequence)) = sym m.0 ∙ r in cc)
out-of-sequence c v w a r (Err f, m, s) = s ∙ told-some f (replies.Error Sequence) v (sym m.0 ∙ r)

sequence-first : (t : Bool) (rest : List (Bool × Code)) → t ≡ false → first_holding (refused (first_holding ((not t, Sequence) ∷ rest))) ≡ Some (replies.Error Sequence)
sequence-first true rest e = cc
sequence-first false rest e = refl

-- what may not come before each

no-lists : (last : Option Allocation) → last ≢ Some FreeDaq → last ≢ Some AllocDaq → may_follow last AllocDaq ≡ false
no-lists None h k = refl
no-lists (Some FreeDaq) h k = absurd (h refl)
no-lists (Some AllocDaq) h k = absurd (k refl)
no-lists (Some AllocOdt) h k = refl
no-lists (Some AllocOdtEntry) h k = refl

no-odts : (last : Option Allocation) → last ≢ Some AllocDaq → last ≢ Some AllocOdt → may_follow last AllocOdt ≡ false
no-odts None h k = refl
no-odts (Some FreeDaq) h k = refl
no-odts (Some AllocDaq) h k = absurd (h refl)
no-odts (Some AllocOdt) h k = absurd (k refl)
no-odts (Some AllocOdtEntry) h k = refl

no-entries : (last : Option Allocation) → last ≢ Some AllocOdt → last ≢ Some AllocOdtEntry → may_follow last AllocOdtEntry ≡ false
no-entries None h k = refl
no-entries (Some FreeDaq) h k = refl
no-entries (Some AllocDaq) h k = refl
no-entries (Some AllocOdt) h k = absurd (h refl)
no-entries (Some AllocOdtEntry) h k = absurd (k refl)

pub daq-in-sequence : (v w : SlaveValue) (count : ℕ) (packet : ArrayVec ℕ) (a : Answer) → v.connected ≡ true → v.daq.last ≢ Some FreeDaq → v.daq.last ≢ Some AllocDaq → spells (layout_of v).order (commands.AllocDaq count) packet.items → Answers v (requests.Command packet) a w → a ≡ answers.Packets ((0xFE ∷ 0x29 ∷ []) ∷ [])
daq-in-sequence v w count packet a on p q spelt h =
    out-of-sequence (commands.AllocDaq count) v w a (sequence-first (may_follow v.daq.last AllocDaq) ((any_running v.daq, DaqActive) ∷ (count == 0, OutOfRange) ∷ (nat_lt (limits_of v.daq.class).lists (length v.daq.lists + count), MemoryOverflow) ∷ []) (no-lists v.daq.last p q)) (executes (commands.AllocDaq count) v w packet a on spelt h)

pub odt-in-sequence : (v w : SlaveValue) (list count : ℕ) (packet : ArrayVec ℕ) (a : Answer) → v.connected ≡ true → v.daq.last ≢ Some AllocDaq → v.daq.last ≢ Some AllocOdt → spells (layout_of v).order (commands.AllocOdt list count) packet.items → Answers v (requests.Command packet) a w → a ≡ answers.Packets ((0xFE ∷ 0x29 ∷ []) ∷ [])
odt-in-sequence v w list count packet a on p q spelt h =
    out-of-sequence (commands.AllocOdt list count) v w a (sequence-first (may_follow v.daq.last AllocOdt) ((lacks_list v.daq list, OutOfRange) ∷ (any_running v.daq, DaqActive) ∷ (count == 0, OutOfRange) ∷ (nat_lt (limits_of v.daq.class).odts (length (all_odts v.daq.lists) + count), MemoryOverflow) ∷ []) (no-odts v.daq.last p q)) (executes (commands.AllocOdt list count) v w packet a on spelt h)

pub entry-in-sequence : (v w : SlaveValue) (list odt count : ℕ) (packet : ArrayVec ℕ) (a : Answer) → v.connected ≡ true → v.daq.last ≢ Some AllocOdt → v.daq.last ≢ Some AllocOdtEntry → spells (layout_of v).order (commands.AllocOdtEntry list odt count) packet.items → Answers v (requests.Command packet) a w → a ≡ answers.Packets ((0xFE ∷ 0x29 ∷ []) ∷ [])
entry-in-sequence v w list odt count packet a on p q spelt h =
    out-of-sequence (commands.AllocOdtEntry list odt count) v w a (sequence-first (may_follow v.daq.last AllocOdtEntry) ((lacks_list v.daq list, OutOfRange) ∷ (lacks_odt v.daq list odt, OutOfRange) ∷ ((list_at v.daq list).running, DaqActive) ∷ (count == 0, OutOfRange) ∷ (nat_lt (limits_of v.daq.class).entries (length (all_entries v.daq.lists) + count), MemoryOverflow) ∷ []) (no-entries v.daq.last p q)) (executes (commands.AllocOdtEntry list odt count) v w packet a on spelt h)
