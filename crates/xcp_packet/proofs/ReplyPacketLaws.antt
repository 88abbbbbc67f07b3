-- How long the layouts of replies are.
use Rattle.std.proofs.Common.{◌≡◌, ◌≤◌, ◌<◌, ◌+◌, ◌-◌, ◌++◌, ◌∙◌, ℕ, List, [], ◌∷◌, length, drop, refl, sym, ap, inl, inr, arith, length-append}
use Rattle.std.specs.Prelude.{slice_index, All, ◌⊎◌}
use Rattle.std.specs.List.{flat_map}
use Rattle.std.proofs.lemmas.List.{append-nil}
use Rattle.std.proofs.lemmas.List.Elements.{All-cons, All-nil}
use Rattle.xcp_packet.specs.BlockPacketLemmas.{block_begins, block_joined, block_positive, block_sized}
use Rattle.xcp_packet.specs.ReplyPacket.{layout, data_length}
use Rattle.xcp_packet.specs.ReplyInBytes.{TellsNoRead, packets_of}
use Rattle.xcp_packet.proofs.ByteOrderLemmas.{length-bytes_of}
use Rattle.xcp_packet.specs.declared.order.Order.{Order}
use Rattle.xcp_packet.specs.declared.reply.Reply.{Reply}
use Rattle.xcp_packet.specs.declared.reply.Reply.TheVariants.{Done, Bytes}

-- A packet of n bytes, n at least 8, holds a reply with fewer data bytes. The second line stands for all other replies,
-- and is checked for each.
pub layout_fits : (order : Order) (reply : Reply) (n : ℕ) → 8 ≤ n → data_length reply < n → length (layout order reply) ≤ n
layout_fits order Done n eight room = omega arith
layout_fits order reply n eight room = omega (arith, length-append {A = ℕ}, length-bytes_of)

-- no reply is empty
pub layout_filled : (order : Order) (reply : Reply) → 0 < length (layout order reply)
layout_filled order Done = omega arith
layout_filled order reply = omega arith

-- any reply but that of bytes is one packet
pub plain_packets : (order : Order) (width : ℕ) (reply : Reply) → TellsNoRead reply → packets_of order width reply ≡ layout order reply ∷ []
plain_packets order width (Bytes bytes) h = absurd h
plain_packets order width reply h = refl

-- the first packet of a list
abbrev pub first_of : List (List ℕ) → List ℕ
first_of [] = []
first_of (p ∷ ps) = p

-- a reply that is one packet is that of its layout
pub one_packet : (order : Order) (width : ℕ) (reply : Reply) (p : List ℕ) → packets_of order width reply ≡ p ∷ [] → layout order reply ≡ p
one_packet order width (Bytes bytes) p h =
    let b = block_begins width bytes.items in
    let first : p ≡ 0xFF ∷ b.0 = ap first_of (sym h ∙ b.2) in
    let told : drop 1 p ++ [] ≡ bytes.items = ap (λ (ps : List (List ℕ)). flat_map (λ q. drop 1 q) ps) (sym h) ∙ block_joined width bytes.items in
    ap (λ (xs : List ℕ). 0xFF ∷ xs) (sym told ∙ append-nil (drop 1 p) ∙ ap (λ (xs : List ℕ). drop 1 xs) first) ∙ sym first
one_packet order width reply p h = ap first_of h

-- the data of a reply's packets are what stands behind the first byte of its layout
pub packets_data : (order : Order) (width : ℕ) (reply : Reply) → flat_map (λ p. drop 1 p) (packets_of order width reply) ≡ drop 1 (layout order reply)
packets_data order width (Bytes bytes) = block_joined width bytes.items
packets_data order width reply = append-nil _

differ : (n m : ℕ) → n ≡ 0xFF → m ≡ 0xFE → n ≡ m → ⊥
differ n m a b e = omega arith

-- a reply whose layout is an error packet is that packet alone
pub error_packet : (order : Order) (width : ℕ) (reply : Reply) (xs : List ℕ) → layout order reply ≡ 0xFE ∷ xs → packets_of order width reply ≡ layout order reply ∷ []
error_packet order width (Bytes bytes) xs h = absurd (differ 0xFF 0xFE refl refl (ap (λ (zs : List ℕ). slice_index zs 0) h))
error_packet order width reply xs h = refl

-- a reply has at least one packet
pub packets_some : (order : Order) (width : ℕ) (reply : Reply) → 0 < length (packets_of order width reply)
packets_some order width (Bytes bytes) = let b = block_begins width bytes.items in let e : length (packets_of order width (Bytes bytes)) ≡ length b.1 + 1 = ap (λ (ps : List (List ℕ)). length ps) b.2 ∙ omega arith in omega arith
packets_some order width reply = omega arith

-- no packet of a reply is empty, and none is longer than MAX_CTO, n, where it has at most n - 1 data bytes
abbrev pub Within : ℕ → List ℕ → Type 0
Within n p = (0 < length p) × (length p ≤ n)

single-within : (order : Order) (n : ℕ) (reply : Reply) → 8 ≤ n → data_length reply ≡ 0 → All (Within n) (layout order reply ∷ [])
single-within order n reply eight none =
    All-cons (Within n) (layout order reply) [] (layout_filled order reply, layout_fits order reply n eight (omega arith)) (All-nil (Within n))

-- no packet of a reply, with at most n - 1 data bytes in each, is empty or longer than n, where n is at least 8
pub packets_within : (order : Order) (n : ℕ) (reply : Reply) → 8 ≤ n → All (Within n) (packets_of order (n - 1) reply)
packets_within order n (Bytes bytes) eight = λ k d h. let s = block_sized (n - 1) bytes.items (omega arith) k d h in (s.some, let m = s.most in omega arith)
packets_within order n reply eight = single-within order n reply eight refl

-- an answer of several packets has no error packet
pub packets_shape : (order : Order) (width : ℕ) (reply : Reply) → ((p : List ℕ) × (packets_of order width reply ≡ p ∷ [])) ⊎ All (λ p. slice_index p 0 ≡ 0xFF) (packets_of order width reply)
packets_shape order width (Bytes bytes) = inr (block_positive width bytes.items)
packets_shape order width reply = inl (layout order reply, refl)
