-- When a command is answered by a positive response.
use Rattle.std.proofs.Common.{◌≡◌, ◌≢◌, ℕ, ◌<◌, ◌≤◌, Bool, true, false, List, [], ◌∷◌, length, get_or, All, Option, Some, None, Ok, Err, refl, sym, ap, ◌∙◌, nat_lt, nat_le, arith, inl, inr}
use Rattle.std.specs.Prelude.{◌↔◌, ◌==◌, ◌&&◌, not}
use Rattle.std.specs.List.{list_any}
use Rattle.std.proofs.lemmas.Bool.Decides.{nat_tests}
use Rattle.std.proofs.lemmas.List.Elements.{All-from_get_or}
use Rattle.std.proofs.lemmas.List.Folds.{list_any_none}
use Rattle.xcp_packet.proofs.ReplyPacketLaws.{error_packet, first_of}
use Rattle.xcp_packet.specs.BlockPacketLemmas.{block_begins}
use Rattle.xcp_packet.specs.ReplyInBytes.{packets_of}
use Rattle.xcp_packet.specs.Rows.{first_holding, refused}
use Rattle.xcp_packet.specs.declared.Code.{Code}
use Rattle.xcp_packet.specs.declared.Command.{Command}
use Rattle.xcp_packet.specs.declared.Order.{Order}
use Rattle.xcp_packet.specs.declared.Reply.{Reply}
use Rattle.xcp_packet.specs.declared.Reply.TheVariants as replies
use Rattle.xcp_memory.proofs.PageSwitchLemmas.{none_passes}
use Rattle.xcp_transfer.specs.TransferValue.{response_room}
use Rattle.xcp_slave.specs.Rows.{row}
use Rattle.xcp_slave.specs.SlaveValue.{SlaveValue, layout_of}
use Rattle.xcp_slave.specs.Step.{Executes, answer_of, found_by}
use Rattle.xcp_slave.specs.Outcomes.{Answer}
use Rattle.xcp_slave.specs.declared.Outcome.TheVariants as answers
use Rattle.xcp_slave.proofs.ListInvariantLemmas.{NoneHolds, none-holds, is_below, at_most, equal, differs}
use Rattle.xcp_slave.proofs.RefusalCodeLemmas.{refusal-begins}
use Rattle.xcp_slave.proofs.RefusalLaws.{ff-fe, packets_told}
use Rattle.xcp_slave.proofs.TransferInvariantLemmas.{none-refused}
use Rattle.xcp_laws.proofs.FirstRefusals.{executes}
use Rattle.xcp_laws.specs.AskedCommands.{IsAsked, IsPositive, IsTaken}

-- statements that hold where others do

pub chained : {A B C : Type 0} → (A ↔ B) → (B ↔ C) → (A ↔ C)
chained f g = (λ a. g.0 (f.0 a), λ c. f.1 (g.1 c))

pub itself : {A : Type 0} → (A ↔ A)
itself = (λ a. a, λ a. a)

-- two of two, and the last one
pub also : {A B C D : Type 0} → (A ↔ B) → (C ↔ D) → ((A × C) ↔ (B × D))
also f g = (λ p. (f.0 p.0, g.0 p.1), λ p. (f.1 p.0, g.1 p.1))

-- the second where the first holds
pub also-given : {A B C D : Type 0} → (A ↔ B) → (B → (C ↔ D)) → ((A × C) ↔ (B × D))
also-given f g = (λ p. (f.0 p.0, (g (f.0 p.0)).0 p.1), λ p. (f.1 p.0, (g p.0).1 p.1))

-- the second, where the first is known
pub known : {A C D : Type 0} → A → (C ↔ D) → ((A × C) ↔ D)
known a g = (λ p. g.0 p.1, λ d. (a, g.1 d))

pub lastly : {A B : Type 0} → (A ↔ B) → ((A × Unit {0}) ↔ B)
lastly f = (λ p. f.0 p.0, λ b. (f.1 b, tt))

-- pairs of pairs, and more in a row

pub three : {A B C : Type 0} → ((A × (B × C)) ↔ (A × B × C))
three = (λ p. (p.0, p.1.0, p.1.1), λ q. (q.0, (q.1, q.2)))

pub four : {A B C D : Type 0} → ((A × (B × (C × D))) ↔ (A × B × C × D))
four = (λ p. (p.0, p.1.0, p.1.1.0, p.1.1.1), λ q. (q.0, (q.1, (q.2, q.3))))

pub five : {A B C D E : Type 0} → ((A × (B × (C × (D × E)))) ↔ (A × B × C × D × E))
five = (λ p. (p.0, p.1.0, p.1.1.0, p.1.1.1.0, p.1.1.1.1), λ q. (q.0, (q.1, (q.2, (q.3, q.4)))))

pub six : {A B C D E F : Type 0} → ((A × (B × (C × (D × (E × F))))) ↔ (A × B × C × D × E × F))
six = (λ p. (p.0, p.1.0, p.1.1.0, p.1.1.1.0, p.1.1.1.1.0, p.1.1.1.1.1), λ q. (q.0, (q.1, (q.2, (q.3, (q.4, q.5))))))

pub implied : {A B C D : Type 0} → (A ↔ B) → (C ↔ D) → ((A → C) ↔ (B → D))
implied f g = (λ h b. g.0 (h (f.1 b)), λ h a. g.1 (h (f.0 a)))

-- tests that are false

pub is : (n m : ℕ) → (not (n == m) ≡ false) ↔ (n ≡ m)
is n m = (λ h. grind (arith, nat_tests, h), λ e. grind (arith, nat_tests, e))

pub isnt : (n m : ℕ) → ((n == m) ≡ false) ↔ (n ≢ m)
isnt n m = (differs n m, λ e. grind (arith, nat_tests, e))

pub some : (n : ℕ) → ((n == 0) ≡ false) ↔ (0 < n)
some n = (λ h. grind (arith, nat_tests, h), λ h. grind (arith, nat_tests, h))

pub below : (n m : ℕ) → (nat_le m n ≡ false) ↔ (n < m)
below n m = (is_below n m, λ h. grind (arith, nat_tests, h))

pub within : (n m : ℕ) → (nat_lt m n ≡ false) ↔ (n ≤ m)
within n m = (at_most n m, λ h. grind (arith, nat_tests, h))

pub unless : (a b : Bool) → ((a && b) ≡ false) ↔ (a ≡ true → b ≡ false)
unless true b = (λ h e. h, λ h. h refl)
unless false b = (λ h e. cc, λ h. refl)

pub isnt-not : (n m : ℕ) → (not (n == m) ≡ true) ↔ (n ≢ m)
isnt-not n m = (λ h. grind (arith, nat_tests, h), λ h. grind (arith, nat_tests, h))

pub is-it : (n m : ℕ) → ((n == m) ≡ true) ↔ (n ≡ m)
is-it n m = (λ h. grind (arith, nat_tests, h), equal n m)

pub not-false : (b : Bool) → b ≡ true → not b ≡ false
not-false true h = refl
not-false false h = cc

-- no element passes a test
pub none-pass : {X : Type 0} (p : X → Bool) (xs : List X) (d : X) → (list_any p xs ≡ false) ↔ ((i : ℕ) → i < length xs → p (get_or xs i d) ≡ false)
none-pass p xs d = (λ h i b. none_passes p xs i d h b, λ h. list_any_none p xs (All-from_get_or (λ x. p x ≡ false) xs d h))

pub all-pass : {X : Type 0} (p : X → Bool) (xs : List X) → (list_any p xs ≡ false) ↔ All (λ x. p x ≡ false) xs
all-pass p xs = (λ h i d b. none_passes p xs i d h b, λ h. list_any_none p xs h)

-- rows that refuse nothing

pub past : {A : Type 0} (t : Bool) (x : A) (rows : List (Bool × A)) → t ≡ false → first_holding ((t, x) ∷ rows) ≡ first_holding rows
past true x rows e = cc
past false x rows e = refl

pub none-first : {A : Type 0} (rows : List (Bool × A)) → NoneHolds rows → first_holding rows ≡ None
none-first [] h = refl
none-first (row ∷ rows) h = past row.0 row.1 rows h.0 ∙ none-first rows h.1

not-refused : (o : Option Code) → o ≡ None → first_holding (refused o) ≡ None
not-refused None h = refl
not-refused (Some code) h = cc

pub tests-allow : {A : Type 0} (rows : List (Bool × A)) → (first_holding rows ≡ None) ↔ NoneHolds rows
tests-allow rows = (none-holds rows, none-first rows)

pub code-allows : (o : Option Code) → (first_holding (refused o) ≡ None) ↔ (o ≡ None)
code-allows o = (none-refused o, not-refused o)

pub codes-allow : (rows : List (Bool × Code)) → (first_holding (refused (first_holding rows)) ≡ None) ↔ NoneHolds rows
codes-allow rows = chained (code-allows (first_holding rows)) (tests-allow rows)

-- answers

-- the reply is no error packet
abbrev pub is_response : Reply → Bool
is_response (replies.Error code) = false
is_response (replies.ErrorCount code count) = false
is_response (replies.ErrorBlockSize code size) = false
is_response _ = true

response-begins : (order : Order) (width : ℕ) (reply : Reply) → is_response reply ≡ true → (first : List ℕ) × (more : List (List ℕ)) × (packets_of order width reply ≡ (0xFF ∷ first) ∷ more)
response-begins order width (replies.Error code) h = cc
response-begins order width (replies.ErrorCount code count) h = cc
response-begins order width (replies.ErrorBlockSize code size) h = cc
response-begins order width (replies.Bytes bytes) h = block_begins width bytes.items
response-begins order width _ h = (_, _, refl)

response-positive : (v : SlaveValue) (reply : Reply) (a : Answer) → is_response reply ≡ true → a ≡ answer_of (layout_of v) (Some reply) → IsPositive a
response-positive v reply a r e =
    let b = response-begins (layout_of v).order (response_room (layout_of v)) reply r in
    record { first = b.0; more = b.1; begins = e ∙ ap (λ (ps : List (List ℕ)). answers.Packets ps) b.2 }

packets-same : (xs ys : List (List ℕ)) → answers.Packets xs ≡ answers.Packets ys → xs ≡ ys
packets-same xs ys e = ap packets_told e

refusal-negative : (c : Command) (v : SlaveValue) (e : Reply) (a : Answer) (R : Type 0) → first_holding (row c (found_by c v)).refusals ≡ Some e → a ≡ answer_of (layout_of v) (Some e) → IsPositive a → R
refusal-negative c v e a R h s p =
    let f = refusal-begins (layout_of v).order c (found_by c v) e h in
    let alone = error_packet (layout_of v).order (response_room (layout_of v)) e f.0 f.1 in
    absurd (ff-fe p.first f.0 (ap first_of (packets-same _ _ (sym p.begins ∙ s) ∙ alone) ∙ f.1))

-- a row that sends this reply is answered positively exactly where it refuses nothing
pub executed : (c : Command) (v w : SlaveValue) (a : Answer) (reply : Reply) → (row c (found_by c v)).reply ≡ Some reply → is_response reply ≡ true → Executes c v a w → IsPositive a ↔ (first_holding (row c (found_by c v)).refusals ≡ None)
executed c v w a reply r p (Ok o, m, s) = (λ h. m.0, λ h. response-positive v reply a p (s ∙ ap (answer_of (layout_of v)) (m.1 ∙ r)))
executed c v w a reply r p (Err f, m, s) = (λ h. refusal-negative c v f a _ m.0 s h, λ h. absurd (let z : ◌≡◌ {A = Option Reply} None (Some f) = sym h ∙ m.0 in cc))

pub positive : (c : Command) (v w : SlaveValue) (a : Answer) (reply : Reply) → (row c (found_by c v)).reply ≡ Some reply → is_response reply ≡ true → IsAsked v c a w → IsPositive a ↔ (first_holding (row c (found_by c v)).refusals ≡ None)
positive c v w a reply r p h = executed c v w a reply r p (executes c v w h.packet a h.connected h.spelt h.answered)

-- a reply that isn't an error packet, or nothing
abbrev pub is_response_or_none : Option Reply → Bool
is_response_or_none None = true
is_response_or_none (Some reply) = is_response reply

sent-taken : (v : SlaveValue) (o : Option Reply) (a : Answer) → is_response_or_none o ≡ true → a ≡ answer_of (layout_of v) o → IsTaken a
sent-taken v None a r e = inr e
sent-taken v (Some reply) a r e = inl (response-positive v reply a r e)

refusal-taken : (c : Command) (v : SlaveValue) (e : Reply) (a : Answer) (R : Type 0) → first_holding (row c (found_by c v)).refusals ≡ Some e → a ≡ answer_of (layout_of v) (Some e) → IsTaken a → R
refusal-taken c v e a R h s (inl p) = refusal-negative c v e a R h s p
refusal-taken c v e a R h s (inr p) = absurd (let z : ◌≡◌ {A = Answer} answers.Silent (answer_of (layout_of v) (Some e)) = sym p ∙ s in cc)

-- a row that sends this, or nothing, is taken exactly where it refuses nothing
taken-by : (c : Command) (v w : SlaveValue) (a : Answer) → is_response_or_none (row c (found_by c v)).reply ≡ true → Executes c v a w → IsTaken a ↔ (first_holding (row c (found_by c v)).refusals ≡ None)
taken-by c v w a r (Ok o, m, s) = (λ h. m.0, λ h. sent-taken v o a (ap is_response_or_none m.1 ∙ r) s)
taken-by c v w a r (Err f, m, s) = (λ h. refusal-taken c v f a _ m.0 s h, λ h. absurd (let z : ◌≡◌ {A = Option Reply} None (Some f) = sym h ∙ m.0 in cc))

pub taken : (c : Command) (v w : SlaveValue) (a : Answer) → is_response_or_none (row c (found_by c v)).reply ≡ true → IsAsked v c a w → IsTaken a ↔ (first_holding (row c (found_by c v)).refusals ≡ None)
taken c v w a r h = taken-by c v w a r (executes c v w h.packet a h.connected h.spelt h.answered)

-- the refusal whose test is the first that holds is answered

pub holds-first-reply : (t : Bool) (e : Reply) (rows : List (Bool × Reply)) → t ≡ true → first_holding ((t, e) ∷ rows) ≡ Some e
holds-first-reply true e rows h = refl
holds-first-reply false e rows h = cc

pub holds-first : (t : Bool) (code : Code) (rows : List (Bool × Code)) → t ≡ true → first_holding (refused (first_holding ((t, code) ∷ rows))) ≡ Some (replies.Error code)
holds-first true code rows e = refl
holds-first false code rows e = cc

told-error : (c : Command) (v w : SlaveValue) (a : Answer) (e : Reply) → first_holding (row c (found_by c v)).refusals ≡ Some e → Executes c v a w → a ≡ answer_of (layout_of v) (Some e)
told-error c v w a e r (Ok o, m, s) = absurd (let z : ◌≡◌ {A = Option Reply} None (Some e) = sym m.0 ∙ r in cc)
told-error c v w a e r (Err f, m, s) = s ∙ ap (answer_of (layout_of v)) (sym m.0 ∙ r)

pub first-refused : (c : Command) (v w : SlaveValue) (a : Answer) (e : Reply) → first_holding (row c (found_by c v)).refusals ≡ Some e → IsAsked v c a w → a ≡ answer_of (layout_of v) (Some e)
first-refused c v w a e r h = told-error c v w a e r (executes c v w h.packet a h.connected h.spelt h.answered)
