-- How a store is requested and finished.
use Rattle.std.proofs.Common.{◌≡◌, ℕ, ◌<◌, ◌≤◌, Bool, true, false, List, [], ◌∷◌, ◌++◌, length, refl, ap, ◌∙◌, nat_le, arith, inl, inr}
use Rattle.std.specs.Prelude.{◌⊎◌, ◌&&◌, count_by, if◌then◌else◌}
use Rattle.std.proofs.lemmas.Bool.Decides.{nat_tests}
use Rattle.arrayvec.specs.ArrayVec.{ArrayVec}
use Rattle.xcp_packet.specs.declared.Command.TheVariants as commands
use Rattle.xcp_slave.specs.AcceptedCommands.{Accepts}
use Rattle.xcp_slave.specs.Outcomes.{Answer}
use Rattle.xcp_slave.specs.SlaveValue.{SlaveValue, noblock}
use Rattle.xcp_slave.specs.Step.{Answers, outbox_size, store_event}
use Rattle.xcp_slave.specs.declared.Outcome.TheVariants as answers
use Rattle.xcp_slave.specs.declared.Request.TheVariants as requests
use Rattle.xcp_slave.proofs.AcceptedCommandLaws.{accepted}
use Rattle.xcp_slave.proofs.StepLaws.{either}
use Rattle.xcp_laws.proofs.EventAnswers.{other_case}
use Rattle.xcp_laws.proofs.FirstRefusals.{first_case}

pub store-requested : (v w : SlaveValue) (mode id : ℕ) (bytes : List ℕ) → Accepts v (commands.SetRequest mode id) bytes w → w ≡ record (noblock v) { store = true }
store-requested v w mode id bytes h = (accepted (commands.SetRequest mode id) v bytes w h).after

pub none-finished : (v w : SlaveValue) (a : Answer) → v.store ≡ false → Answers v requests.FinishStore a w → (a ≡ answers.NoStore) × (w ≡ v)
none-finished v w a e h = other_case v.store _ _ e h

-- there is no room for what tells of a store
full : (a : Bool) (size n : ℕ) → a ≡ true → size ≤ n → (a && nat_le size n) ≡ true
full true size n e h = grind (arith, nat_tests, h)
full false size n e h = cc

-- there is, or nobody has to be told
has-room : (a : Bool) (size n : ℕ) → (a ≡ false) ⊎ (n < size) → (a && nat_le size n) ≡ false
has-room true size n (inl e) = cc
has-room true size n (inr h) = grind (arith, nat_tests, h)
has-room false size n h = refl

pub store-later : (v w : SlaveValue) (a : Answer) → v.store ≡ true → v.connected ≡ true → outbox_size v ≤ length v.outbox → Answers v requests.FinishStore a w → (a ≡ answers.Later) × (w ≡ v)
store-later v w a e on many h =
    first_case (v.connected && nat_le (outbox_size v) (length v.outbox)) _ _ (full v.connected (outbox_size v) (length v.outbox) on many) (first_case v.store _ _ e h)

pub store-finished : (v w : SlaveValue) (a : Answer) → v.store ≡ true → (v.connected ≡ false) ⊎ (length v.outbox < outbox_size v) → Answers v requests.FinishStore a w → (a ≡ answers.Stored (count_by (λ s. s.freeze) v.transfer.pages.segments)) × (w.store ≡ false)
store-finished v w a e room h =
    let done = other_case (v.connected && nat_le (outbox_size v) (length v.outbox)) _ _ (has-room v.connected (outbox_size v) (length v.outbox) room) (first_case v.store _ _ e h) in
    (done.0, ap (λ (x : SlaveValue). x.store) done.1)

-- what waits once a store is finished
waits-then : (v w : SlaveValue) (n : ℕ) → Answers v requests.FinishStore (answers.Stored n) w → w.outbox ≡ (if v.connected then v.outbox ++ store_event ∷ [] else v.outbox)
waits-then v w n h =
    either v.store _ _ _ h
    (λ m. either (v.connected && nat_le (outbox_size v) (length v.outbox)) _ _ _ m
    (λ l. absurd (let z : ◌≡◌ {A = Answer} (answers.Stored n) answers.Later = l.0 in cc))
    (λ s. ap (λ (x : SlaveValue). x.outbox) s.1))
    (λ o. absurd (let z : ◌≡◌ {A = Answer} (answers.Stored n) answers.NoStore = o.0 in cc))

by-test : (t : Bool) (xs ys : List (ArrayVec ℕ)) → (t ≡ true → (if t then xs else ys) ≡ xs) × (t ≡ false → (if t then xs else ys) ≡ ys)
by-test true xs ys = (λ e. refl, λ e. cc)
by-test false xs ys = (λ e. cc, λ e. refl)

pub store-told : (v w : SlaveValue) (n : ℕ) → v.connected ≡ true → Answers v requests.FinishStore (answers.Stored n) w → w.outbox ≡ v.outbox ++ record { items = 0xFD ∷ 0x03 ∷ [] } ∷ []
store-told v w n on h = waits-then v w n h ∙ (by-test v.connected (v.outbox ++ store_event ∷ []) v.outbox).0 on

pub store-untold : (v w : SlaveValue) (n : ℕ) → v.connected ≡ false → Answers v requests.FinishStore (answers.Stored n) w → w.outbox ≡ v.outbox
store-untold v w n off h = waits-then v w n h ∙ (by-test v.connected (v.outbox ++ store_event ∷ []) v.outbox).1 off
