-- How many packets an answer has, and how long each is.
use Rattle.std.proofs.Common.{◌≡◌, ℕ, ◌-◌, ◌<◌, ◌≤◌, List, [], ◌∷◌, length, refl, sym, ap, subst, ◌∙◌, Option, Some, None, Result, Ok, Err, ◌||◌}
use Rattle.std.specs.Prelude.{All, ◌⊎◌, slice_index}
use Rattle.arrayvec.specs.ArrayVec.{ArrayVec}
use Rattle.xcp_packet.specs.ReplyInBytes.{packets_of}
use Rattle.xcp_packet.proofs.ReplyPacketLaws.{Within, packets_some, packets_shape, packets_within}
use Rattle.xcp_packet.specs.declared.Command.{Command}
use Rattle.xcp_packet.specs.declared.Refuse.{Refuse}
use Rattle.xcp_packet.specs.declared.Refuse.TheVariants as refuses
use Rattle.xcp_packet.specs.declared.Reply.{Reply}
use Rattle.xcp_packet.specs.declared.Reply.TheVariants as replies
use Rattle.xcp_packet.specs.declared.Code.{Code}
use Rattle.xcp_packet.specs.declared.Code.TheVariants.{CmdUnknown, CmdSyntax}
use Rattle.xcp_memory.specs.Layout.{IsLayout}
use Rattle.xcp_transfer.specs.TransferValue.{response_room}
use Rattle.xcp_slave.specs.declared.request.Request.TheVariants as requests
use Rattle.xcp_slave.specs.declared.outcome.Outcome.TheVariants as answers
use Rattle.xcp_slave.specs.SlaveValue.{SlaveValue, layout_of}
use Rattle.xcp_slave.specs.Step.{Answers, Heeds, Ignores, Refuses, sent_reply, answer_of, is_connect}
use Rattle.xcp_slave.proofs.StepLaws.{either}
use Rattle.xcp_slave.proofs.RefusalLaws.{packets_told}

-- the packets of a reply
Replies : SlaveValue → List (List ℕ) → Type 0
Replies v ps = (reply : Reply) × (ps ≡ packets_of (layout_of v).order (response_room (layout_of v)) reply)

answered : (v : SlaveValue) (o : Option Reply) (ps : List (List ℕ)) → answers.Packets ps ≡ answer_of (layout_of v) o → Replies v ps
unfolding Replies
answered v None ps e = cc
answered v (Some reply) ps e = (reply, ap packets_told e)

ignored : (v w : SlaveValue) (ps : List (List ℕ)) (R : Type 0) → Ignores v (answers.Packets ps) w → R
ignored v w ps R h = let e = h.0 in cc

refused : (v w : SlaveValue) (e : Code) (ps : List (List ℕ)) → Refuses v e (answers.Packets ps) w → Replies v ps
refused v w e ps h = answered v (Some (replies.Error e)) ps h.0

heeds-replies : (v : SlaveValue) (d : Result Command Refuse) (ps : List (List ℕ)) (w : SlaveValue) → Heeds v d (answers.Packets ps) w → Replies v ps
heeds-replies v (Ok c) ps w h = either (v.connected || is_connect c) _ _ _ h (λ k. answered v (sent_reply k.0) ps k.2) (ignored v w ps _)
heeds-replies v (Err refuses.Empty) ps w h = ignored v w ps _ h
heeds-replies v (Err refuses.Unknown) ps w h = either v.connected _ _ _ h (refused v w CmdUnknown ps) (ignored v w ps _)
heeds-replies v (Err refuses.Short) ps w h = either v.connected _ _ _ h (refused v w CmdSyntax ps) (ignored v w ps _)

-- an answer to a command has at least one packet
pub answers-some : (v : SlaveValue) (packet : ArrayVec ℕ) (ps : List (List ℕ)) (w : SlaveValue) → Answers v (requests.Command packet) (answers.Packets ps) w → 0 < length ps
unfolding Replies
answers-some v packet ps w h =
    let r = heeds-replies v h.0 ps w h.2 in
    subst (λ (xs : List (List ℕ)). 0 < length xs) (sym r.1) (packets_some (layout_of v).order (response_room (layout_of v)) r.0)

-- each of its packets has at least one byte and at most MAX_CTO
pub answers-length : (v : SlaveValue) (packet : ArrayVec ℕ) (ps : List (List ℕ)) (w : SlaveValue) → IsLayout (layout_of v) → Answers v (requests.Command packet) (answers.Packets ps) w → All (λ p. (0 < length p) × (length p ≤ (layout_of v).max_cto)) ps
unfolding Replies
answers-length v packet ps w l h =
    let r = heeds-replies v h.0 ps w h.2 in
    subst (λ (xs : List (List ℕ)). All (Within (layout_of v).max_cto) xs) (sym r.1) (packets_within (layout_of v).order (layout_of v).max_cto r.0 l.cto_least)

-- and of several packets none is an error packet
pub answers-shape : (v : SlaveValue) (packet : ArrayVec ℕ) (ps : List (List ℕ)) (w : SlaveValue) → Answers v (requests.Command packet) (answers.Packets ps) w → ((p : List ℕ) × (ps ≡ p ∷ [])) ⊎ All (λ p. slice_index p 0 ≡ 0xFF) ps
unfolding Replies
answers-shape v packet ps w h =
    let r = heeds-replies v h.0 ps w h.2 in
    subst (λ (xs : List (List ℕ)). ((p : List ℕ) × (xs ≡ p ∷ [])) ⊎ All (λ p. slice_index p 0 ≡ 0xFF) xs) (sym r.1) (packets_shape (layout_of v).order (response_room (layout_of v)) r.0)
