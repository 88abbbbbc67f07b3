-- What comes of packets that are no command, of those that come before a CONNECT, and of SYNCH.
use Rattle.std.proofs.Common.{◌≡◌, ◌≢◌, ℕ, ◌<◌, Bool, true, false, List, [], ◌∷◌, length, Option, Some, None, Result, Ok, Err, refl, ap, subst, ◌∙◌}
use Rattle.std.specs.Prelude.{◌||◌, slice_index}
use Rattle.arrayvec.specs.ArrayVec.{ArrayVec}
use Rattle.xcp_packet.proofs.DecodingLaws.{decodes_once}
use Rattle.xcp_packet.specs.CommandForms.{code, least}
use Rattle.xcp_packet.specs.CommandSpelling.{spells}
use Rattle.xcp_packet.specs.Decoding.{Decodes}
use Rattle.xcp_packet.specs.declared.Command.{Command}
use Rattle.xcp_packet.specs.declared.Command.TheVariants as commands
use Rattle.xcp_packet.specs.declared.Order.{Order}
use Rattle.xcp_packet.specs.declared.Refuse.{Refuse}
use Rattle.xcp_packet.specs.declared.Refuse.TheVariants as refuses
use Rattle.xcp_packet.specs.declared.Reply.{Reply}
use Rattle.xcp_slave.specs.Outcomes.{Answer}
use Rattle.xcp_slave.specs.SlaveValue.{SlaveValue, layout_of, noblock}
use Rattle.xcp_slave.specs.Step.{Answers, Executes, Heeds, answer_of, is_connect}
use Rattle.xcp_slave.specs.declared.Outcome.TheVariants as answers
use Rattle.xcp_slave.specs.declared.Request.TheVariants as requests
use Rattle.xcp_laws.proofs.EventAnswers.{other_case}
use Rattle.xcp_laws.proofs.FirstRefusals.{executes, first_case}
use Rattle.xcp_laws.specs.AskedCommands.{IsAsked}

-- a packet that decodes so is heeded so
heeded : (v w : SlaveValue) (packet : ArrayVec ℕ) (a : Answer) (d : Result Command Refuse) → Decodes (layout_of v).order packet.items d → Answers v (requests.Command packet) a w → Heeds v d a w
heeded v w packet a d spelt h = subst (λ (x : Result Command Refuse). Heeds v x a w) (decodes_once (layout_of v).order packet.items h.0 d h.1 spelt) h.2

pub unknown-refused : (v w : SlaveValue) (packet : ArrayVec ℕ) (a : Answer) → v.connected ≡ true → packet.items ≢ [] → ((c : Command) → slice_index packet.items 0 ≢ code c) → Answers v (requests.Command packet) a w → (a ≡ answers.Packets ((0xFE ∷ 0x20 ∷ []) ∷ [])) × (w ≡ noblock v)
unknown-refused v w packet a on some none h = first_case v.connected _ _ on (heeded v w packet a (Err refuses.Unknown) (some, none) h)

pub short-refused : (v w : SlaveValue) (c : Command) (packet : ArrayVec ℕ) (a : Answer) → v.connected ≡ true → packet.items ≢ [] → slice_index packet.items 0 ≡ code c → length packet.items < least c → Answers v (requests.Command packet) a w → (a ≡ answers.Packets ((0xFE ∷ 0x21 ∷ []) ∷ [])) × (w ≡ noblock v)
short-refused v w c packet a on some first few h = first_case v.connected _ _ on (heeded v w packet a (Err refuses.Short) (some, (c, first, few)) h)

pub empty-ignored : (v w : SlaveValue) (packet : ArrayVec ℕ) (a : Answer) → packet.items ≡ [] → Answers v (requests.Command packet) a w → (a ≡ answers.Silent) × (w ≡ v)
empty-ignored v w packet a none h = heeded v w packet a (Err refuses.Empty) none h

-- before a CONNECT

not-connect : (c : Command) (order : Order) (p : List ℕ) → spells order c p → ((mode : ℕ) → spells order (commands.Connect mode) p → ⊥) → is_connect c ≡ false
not-connect (commands.Connect mode) order p h f = absurd (f mode h)
not-connect _ order p h f = refl

neither-is : (a b : Bool) → a ≡ false → b ≡ false → (a || b) ≡ false
neither-is true b e f = cc
neither-is false b e f = f

ignored : (d : Result Command Refuse) (v w : SlaveValue) (packet : ArrayVec ℕ) (a : Answer) → v.connected ≡ false → ((mode : ℕ) → spells (layout_of v).order (commands.Connect mode) packet.items → ⊥) → Decodes (layout_of v).order packet.items d → Heeds v d a w → (a ≡ answers.Silent) × (w ≡ v)
ignored (Ok c) v w packet a off f spelt h = other_case (v.connected || is_connect c) _ _ (neither-is v.connected (is_connect c) off (not-connect c (layout_of v).order packet.items spelt f)) h
ignored (Err refuses.Empty) v w packet a off f spelt h = h
ignored (Err refuses.Unknown) v w packet a off f spelt h = other_case v.connected _ _ off h
ignored (Err refuses.Short) v w packet a off f spelt h = other_case v.connected _ _ off h

pub silent-before : (v w : SlaveValue) (packet : ArrayVec ℕ) (a : Answer) → v.connected ≡ false → ((mode : ℕ) → spells (layout_of v).order (commands.Connect mode) packet.items → ⊥) → Answers v (requests.Command packet) a w → (a ≡ answers.Silent) × (w ≡ v)
silent-before v w packet a off f h = ignored h.0 v w packet a off f h.1 h.2

synched : (v w : SlaveValue) (a : Answer) → Executes commands.Synch v a w → (a ≡ answers.Packets ((0xFE ∷ 0x00 ∷ []) ∷ [])) × (w ≡ noblock v)
synched v w a (Ok o, m, s) = (s ∙ ap (λ (x : Option Reply). answer_of (layout_of v) x) m.1, m.2)
synched v w a (Err f, m, s) = absurd (let z : ◌≡◌ {A = Option Reply} None (Some f) = m.0 in cc)

pub synch-answered : (v w : SlaveValue) (a : Answer) → IsAsked v commands.Synch a w → (a ≡ answers.Packets ((0xFE ∷ 0x00 ∷ []) ∷ [])) × (w ≡ noblock v)
synch-answered v w a h = synched v w a (executes commands.Synch v w h.packet a h.connected h.spelt h.answered)
