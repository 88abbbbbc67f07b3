-- Each list of bytes decodes to one thing, which is what is read of it.
use Rattle.std.proofs.Common.{◌≡◌, ◌≢◌, ◌≤◌, ◌<◌, ◌↔◌, subst, ℕ, Bool, true, false, List, [], ◌∷◌, length, refl, sym, ap, ◌∙◌, arith, Ok, Err, Result, Option, Some, None, MatchOption}
use Rattle.std.proofs.lemmas.Bool.Decides.{nat_tests}
use Rattle.std.proofs.lemmas.Option.{none-some, same_Some}
use Rattle.std.specs.Prelude.{nat_le}
use Rattle.xcp_packet.specs.ByteOrder.{byte_at}
use Rattle.xcp_packet.specs.CommandForms.{code, least}
use Rattle.xcp_packet.specs.CommandSpelling.{BeginsCommand, spells}
use Rattle.xcp_packet.specs.Decoding.{Refused, Decodes}
use Rattle.xcp_packet.specs.private.DecodeByCode.{readings, coded, ReadsCode}
use Rattle.xcp_packet.proofs.ParameterLemmas.{reading, reading-stands, least-positive, coded-code}
use Rattle.xcp_packet.specs.declared.order.Order.{Order}
use Rattle.xcp_packet.specs.declared.command.Command.{Command}
use Rattle.xcp_packet.specs.declared.refuse.Refuse.{Refuse}
use Rattle.xcp_packet.specs.declared.refuse.Refuse.TheVariants.{Empty, Unknown, Short}

-- the reading with a command's code
abbrev of_code : Order → List ℕ → ℕ → Option Command
of_code order p x = coded x (readings order p)

-- commands of one code want equally many bytes
least-code : (order : Order) (p : List ℕ) (c d : Command) → code c ≡ code d → least c ≡ least d
least-code order p c d e =
    let m = reading order p c in
    let n = reading order p d in
    let same : m.0 ≡ n.0 = same_Some _ _ (sym m.1 ∙ ap (of_code order p) e ∙ n.1) in
    sym m.3 ∙ ap least same ∙ n.3

-- no bytes spell two commands
pub spells_once : (order : Order) (p : List ℕ) (c d : Command) → spells order c p → spells order d p → c ≡ d
spells_once order p c d h k =
    let m : BeginsCommand (code c) (least c) p = h.0 in
    let n : BeginsCommand (code d) (least d) p = k.0 in
    let same : code c ≡ code d = sym m.first ∙ n.first in
    same_Some _ _ (sym (reading-stands order p c h.1) ∙ ap (of_code order p) same ∙ reading-stands order p d k.1)

-- what is spelt begins with the command's code, and is long enough
pub spelling_begins : (order : Order) (c : Command) (p : List ℕ) → spells order c p → (byte_at 0 p ≡ code c) × (least c ≤ length p)
spelling_begins order c p h = let m : BeginsCommand (code c) (least c) p = h.0 in (m.first, m.enough)

-- with its code and enough bytes, a command of that code is spelt
pub enough_is_spelt : (order : Order) (c : Command) (p : List ℕ) → byte_at 0 p ≡ code c → least c ≤ length p → (d : Command) × (code d ≡ code c) × spells order d p
enough_is_spelt order c p first enough =
    let r = reading order p c in
    (r.0, r.2, (record { first = first ∙ sym r.2; enough = rw r.3 enough }, r.4))

-- what is spelt isn't refused
spelt-refused : (order : Order) (c : Command) (e : Refuse) (p : List ℕ) → spells order c p → Refused e p → ⊥
spelt-refused order c Empty p h r =
    let m : BeginsCommand (code c) (least c) p = h.0 in
    let some : 0 < least c = least-positive c in
    let none : length p ≡ 0 = ap length r in
    let enough : least c ≤ length p = m.enough in
    omega arith
spelt-refused order c Unknown p h r = let m : BeginsCommand (code c) (least c) p = h.0 in r.1 c m.first
spelt-refused order c Short p h r =
    let m : BeginsCommand (code c) (least c) p = h.0 in
    let enough : least c ≤ length p = m.enough in
    let short : length p < least r.1.0 = r.1.2 in
    let same : least c ≡ least r.1.0 = least-code order p c r.1.0 (sym m.first ∙ r.1.1) in
    omega arith

-- a packet is refused for one reason at most
refused-once : (d e : Refuse) (p : List ℕ) → Refused d p → Refused e p → d ≡ e
refused-once Empty Empty p h k = refl
refused-once Empty _ p h k = absurd (k.0 h)
refused-once Unknown Empty p h k = absurd (h.0 k)
refused-once Unknown Unknown p h k = refl
refused-once Unknown Short p h k = absurd (h.1 k.1.0 k.1.1)
refused-once Short Empty p h k = absurd (h.0 k)
refused-once Short Unknown p h k = absurd (k.1 h.1.0 h.1.1)
refused-once Short Short p h k = refl

-- a list of bytes decodes to one thing
pub decodes_once : (order : Order) (p : List ℕ) (a b : Result Command Refuse) → Decodes order p a → Decodes order p b → a ≡ b
decodes_once order p (Ok c) (Ok d) h k = ap Ok (spells_once order p c d h k)
decodes_once order p (Ok c) (Err e) h k = absurd (spelt-refused order c e p h k)
decodes_once order p (Err e) (Ok c) h k = absurd (spelt-refused order c e p k h)
decodes_once order p (Err d) (Err e) h k = ap Err (refused-once d e p h k)

cut : (order : Order) (p : List ℕ) (o : Option Command) → of_code order p (byte_at 0 p) ≡ o → MatchOption o ⊥ (λ c. length p < least c) → (c : Command) × (byte_at 0 p ≡ code c) × (length p < least c)
cut order p None e h = absurd h
cut order p (Some c) e h = (c, coded-code (readings order p) (byte_at 0 p) c e, h)

-- a packet decodes to what is read of it
reads-decodes : (order : Order) (p : List ℕ) (a : Result Command Refuse) → ReadsCode order p a → Decodes order p a
reads-decodes order p (Ok c) h = h
reads-decodes order p (Err Empty) h = h
reads-decodes order p (Err Unknown) h =
    (h.0, λ c e. let r = reading order p c in none-some r.0 (sym h.1 ∙ ap (of_code order p) e ∙ r.1))
reads-decodes order p (Err Short) h = (h.0, cut order p (of_code order p (byte_at 0 p)) refl h.1)

-- so an answer that is read is the one
pub exactly : (order : Order) (p : List ℕ) (a : Result Command Refuse) → ReadsCode order p a → (b : Result Command Refuse) → (a ≡ b) ↔ Decodes order p b
exactly order p a h b =
    let d : Decodes order p a = reads-decodes order p a h in
    (λ e. subst (λ (x : Result Command Refuse). Decodes order p x) e d, decodes_once order p a b d)

lengths : (n m : ℕ) (b : Bool) → nat_le n m ≡ b → (P : Type 0) → (n ≤ m → P) → (m < n → P) → P
lengths n m true h P enough short = enough (grind (arith, nat_tests))
lengths n m false h P enough short = short (grind (arith, nat_tests))

total_by : (order : Order) (p : List ℕ) → p ≢ [] → (o : Option Command) → of_code order p (byte_at 0 p) ≡ o → (a : Result Command Refuse) × Decodes order p a
total_by order p some None e = (Err Unknown, reads-decodes order p (Err Unknown) (some, e))
total_by order p some (Some c) e =
    let first = coded-code (readings order p) (byte_at 0 p) c e in
    lengths (least c) (length p) (nat_le (least c) (length p)) refl ((a : Result Command Refuse) × Decodes order p a)
    (λ enough. let d = enough_is_spelt order c p first enough in (Ok d.0, d.2))
    (λ short. (Err Short, (some, (c, first, short))))

-- and it decodes to something
pub decodes_total : (order : Order) (p : List ℕ) → (a : Result Command Refuse) × Decodes order p a
decodes_total order [] = (Err Empty, refl)
decodes_total order (b ∷ bs) = total_by order (b ∷ bs) (λ e. cc) (of_code order (b ∷ bs) b) refl
