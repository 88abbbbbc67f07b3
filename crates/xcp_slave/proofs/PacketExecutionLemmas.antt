-- What comes of a packet that is executed code by code is what the step relation answers.
use Rattle.std.proofs.Common.{◌≡◌, ◌≢◌, ◌≤◌, ◌<◌, ◌&&◌, ◌||◌, ◌==◌, ◌∙◌, ℕ, Bool, true, false, List, [], ◌∷◌, length, refl, sym, ap, subst, arith, Option, Some, None, Result, Ok, Err, MatchBool, MatchOption}
use Rattle.std.proofs.lemmas.Bool.Decides.{nat_tests}
use Rattle.std.proofs.lemmas.Option.{none-some, same_Some}
use Rattle.std.specs.Prelude.{nat_le, nat_lt}
use Rattle.xcp_packet.specs.CommandForms.{code, least, parameters}
use Rattle.xcp_packet.specs.ReplyPacket.{layout}
use Rattle.xcp_packet.specs.ByteOrder.{byte_at}
use Rattle.xcp_packet.specs.private.DecodeByCode.{readings, coded, ReadsCode}
use Rattle.xcp_packet.specs.Decoding.{Decodes}
use Rattle.xcp_packet.specs.CommandSpelling.{AllStand, spells}
use Rattle.xcp_packet.specs.declared.Order.{Order}
use Rattle.xcp_packet.specs.declared.Command.{Command}
use Rattle.xcp_packet.specs.declared.Command.TheVariants as commands
use Rattle.xcp_packet.specs.declared.Refuse.{Refuse}
use Rattle.xcp_packet.specs.declared.Refuse.TheVariants as refuses
use Rattle.xcp_packet.specs.declared.Sent.{Sent}
use Rattle.xcp_packet.specs.declared.CommandError.{CommandError}
use Rattle.xcp_packet.specs.declared.CommandError.TheVariants as faults
use Rattle.xcp_packet.specs.declared.Code.TheVariants.{CmdSyntax}
use Rattle.xcp_packet.proofs.ParameterLemmas.{reading, coded-code, least-positive}
use Rattle.xcp_packet.proofs.DecodingLaws.{exactly, decodes_total, spelling_begins}
use Rattle.xcp_slave.specs.Outcomes.{Answer}
use Rattle.xcp_slave.specs.declared.outcome.Outcome.TheVariants as answers
use Rattle.xcp_slave.specs.SlaveValue.{SlaveValue, layout_of, noblock}
use Rattle.xcp_slave.specs.private.TellsRow.{TellsRow}
use Rattle.xcp_slave.specs.Step.{AnswersPacket, Executes, Heeds, Ignores, found_by, is_connect}
use Rattle.xcp_slave.specs.private.AnswerSaid.{answer_said}
use Rattle.xcp_slave.specs.private.ExecuteByCode.{TellsCoded, heeded}
use Rattle.xcp_slave.proofs.CommandExecutionLemmas.{obeyed}

-- a packet of some bytes is ignored only while nobody is connected
nobody : (b : Bool) (p : List ℕ) → heeded b p ≡ false → 0 < length p → b ≡ false
nobody true p h some = grind (arith, nat_tests)
nobody false p h some = refl

filled : (p : List ℕ) → p ≢ [] → 0 < length p
filled [] some = absurd (some refl)
filled (x ∷ xs) some = omega arith

some_bytes : (p : List ℕ) → 0 < length p → p ≢ []
some_bytes [] h e = omega arith
some_bytes (x ∷ xs) h e = absurd (cc)

-- while nobody is connected no CONNECT is ignored
no_connect : (order : Order) (p : List ℕ) (c : Command) → heeded false p ≡ false → spells order c p → is_connect c ≡ false
no_connect order p (commands.Connect mode) h s =
    let b : (byte_at 0 p ≡ 0xFF) × (2 ≤ length p) = spelling_begins order (commands.Connect mode) p s in
    grind (arith, nat_tests, b.0, b.1)
no_connect order p _ h s = refl

silent_in : (connected : Bool) (v : SlaveValue) (X : Type 0) → connected ≡ false → MatchBool connected X (Ignores v answers.Silent v)
silent_in true v X e = absurd (cc)
silent_in false v X e = (refl, refl)

neither : (b c : Bool) → b ≡ false → c ≡ false → (b || c) ≡ false
neither true c h k = absurd (cc)
neither false c h k = k

ignored : (v : SlaveValue) (p : List ℕ) (d : Result Command Refuse) → heeded v.connected p ≡ false → Decodes (layout_of v).order p d → Heeds v d answers.Silent v
ignored v p (Ok c) h s =
    let b : (byte_at 0 p ≡ code c) × (least c ≤ length p) = spelling_begins (layout_of v).order c p s in
    let positive : 0 < least c = least-positive c in
    let e : v.connected ≡ false = nobody v.connected p h (omega (arith, b.1, positive)) in
    let k : heeded false p ≡ false = subst (λ (b : Bool). heeded b p ≡ false) e h in
    silent_in (v.connected || is_connect c) v _ (neither v.connected (is_connect c) e (no_connect (layout_of v).order p c k s))
ignored v p (Err refuses.Empty) h s = (refl, refl)
ignored v p (Err refuses.Unknown) h s = silent_in v.connected v _ (nobody v.connected p h (filled p s.0))
ignored v p (Err refuses.Short) h s = silent_in v.connected v _ (nobody v.connected p h (filled p s.0))

-- a packet that isn't heeded has no answer
pub unheeded : (v : SlaveValue) (p : List ℕ) → heeded v.connected p ≡ false → AnswersPacket v p answers.Silent v
unheeded v p h =
    let d = decodes_total (layout_of v).order p in
    (d.0, d.1, ignored v p d.0 h d.1)

-- while nobody is connected, what is heeded is a CONNECT
is_first : (p : List ℕ) → heeded false p ≡ true → (byte_at 0 p ≡ 0xFF) × (2 ≤ length p)
is_first p h = (grind (arith, nat_tests), grind (arith, nat_tests))

connects : (order : Order) (p : List ℕ) → heeded false p ≡ true → coded (byte_at 0 p) (readings order p) ≡ Some (commands.Connect (byte_at 1 p))
connects order p h = ap (λ (x : ℕ). coded x (readings order p)) (is_first p h).0

heeded_some : (b : Bool) (p : List ℕ) → heeded b p ≡ true → 0 < length p
heeded_some true p h = grind (arith, nat_tests)
heeded_some false p h = let two : 2 ≤ length p = (is_first p h).1 in omega arith

in_true : (b : Bool) (X Y : Type 0) → b ≡ true → X → MatchBool b X Y
in_true true X Y e x = x
in_true false X Y e x = absurd (cc)

-- a command whose parameters are read of a packet that is long enough is spelt by it
read_spelt : (order : Order) (p : List ℕ) (c : Command) → coded (byte_at 0 p) (readings order p) ≡ Some c → least c ≤ length p → spells order c p
read_spelt order p c e enough =
    let first : byte_at 0 p ≡ code c = coded-code (readings order p) (byte_at 0 p) c e in
    let r = reading order p c in
    let same : r.0 ≡ c = same_Some _ _ (sym r.1 ∙ ap (λ (x : ℕ). coded x (readings order p)) (sym first) ∙ e) in
    (record { first = first; enough = enough }, subst (λ (d : Command). AllStand order (parameters d) p) same r.4)

unknown : (order : Order) (p : List ℕ) (b : Bool) → coded (byte_at 0 p) (readings order p) ≡ None → heeded b p ≡ true → b ≡ true
unknown order p true e h = refl
unknown order p false e h = absurd (none-some _ (sym e ∙ connects order p h))

short : (order : Order) (p : List ℕ) (c : Command) (b : Bool) → coded (byte_at 0 p) (readings order p) ≡ Some c → length p < least c → heeded b p ≡ true → b ≡ true
short order p c true e less h = refl
short order p c false e less h =
    let same : c ≡ commands.Connect (byte_at 1 p) = same_Some _ _ (sym e ∙ connects order p h) in
    let two : 2 ≤ length p = (is_first p h).1 in
    let least_is : least c ≡ 2 = ap least same in
    absurd (omega arith)

known : (order : Order) (p : List ℕ) (c : Command) (b : Bool) → coded (byte_at 0 p) (readings order p) ≡ Some c → heeded b p ≡ true → (b || is_connect c) ≡ true
known order p c true e h = refl
known order p c false e h = ap is_connect (same_Some _ _ (sym e ∙ connects order p h))

coded_by : (v w : SlaveValue) (p : List ℕ) (a : Answer) (r : Result Sent CommandError) (bytes : List ℕ) (c : Command) (b : Bool) → nat_lt (length p) (least c) ≡ b → coded (byte_at 0 p) (readings (layout_of v).order p) ≡ Some c → heeded v.connected p ≡ true → MatchBool b ((r ≡ Err (faults.Code CmdSyntax)) × (w ≡ noblock v)) (TellsRow c (found_by c v) r bytes w) → a ≡ answer_said (layout_of v).order r bytes → AnswersPacket v p a w
coded_by v w p a r bytes c true lt e h t s =
    let order = (layout_of v).order in
    let less : length p < least c = grind (arith, nat_tests, lt) in
    let d : Decodes order p (Err refuses.Short) = (some_bytes p (heeded_some v.connected p h), (c, coded-code (readings order p) (byte_at 0 p) c e, less)) in
    (Err refuses.Short, d, in_true v.connected _ _ (short order p c v.connected e less h) (s ∙ ap (λ (x : Result Sent CommandError). answer_said order x bytes) t.0, t.1))
coded_by v w p a r bytes c false lt e h t s =
    let order = (layout_of v).order in
    let enough : least c ≤ length p = grind (arith, nat_tests, lt) in
    (Ok c, read_spelt order p c e enough, in_true (v.connected || is_connect c) _ _ (known order p c v.connected e h) (obeyed c v (found_by c v) w a r bytes refl t s))

answered_by : (v w : SlaveValue) (p : List ℕ) (a : Answer) (r : Result Sent CommandError) (bytes : List ℕ) (o : Option Command) → coded (byte_at 0 p) (readings (layout_of v).order p) ≡ o → heeded v.connected p ≡ true → TellsCoded o p v r bytes w → a ≡ answer_said (layout_of v).order r bytes → AnswersPacket v p a w
answered_by v w p a r bytes None e h t s =
    let order = (layout_of v).order in
    let some = some_bytes p (heeded_some v.connected p h) in
    let d : Decodes order p (Err refuses.Unknown) = (exactly order p (Err refuses.Unknown) (some, e) (Err refuses.Unknown)).0 refl in
    (Err refuses.Unknown, d, in_true v.connected _ _ (unknown order p v.connected e h) (s ∙ ap (λ (x : Result Sent CommandError). answer_said order x bytes) t.0, t.1))
answered_by v w p a r bytes (Some c) e h t s = coded_by v w p a r bytes c (nat_lt (length p) (least c)) refl e h t s

-- and one that is heeded has the answer of its command
pub answered : (v w : SlaveValue) (p : List ℕ) (a : Answer) (r : Result Sent CommandError) (bytes : List ℕ) → heeded v.connected p ≡ true → TellsCoded (coded (byte_at 0 p) (readings (layout_of v).order p)) p v r bytes w → a ≡ answer_said (layout_of v).order r bytes → AnswersPacket v p a w
answered v w p a r bytes h t s = answered_by v w p a r bytes (coded (byte_at 0 p) (readings (layout_of v).order p)) refl h t s
