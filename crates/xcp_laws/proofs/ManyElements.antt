-- WRITE_DAQ_MULTIPLE is WRITE_DAQs in turn.
use Rattle.std.proofs.Common.{◌≡◌, ◌≢◌, ◌<◌, ◌≤◌, ℕ, suc, ◌+◌, Bool, true, false, List, ◌∷◌, length, Option, Some, None, Result, Ok, Err, inl, inr, ap, sym, ◌∙◌, refl, subst, arith, nat_lt}
use Rattle.std.specs.Prelude.{◌⊎◌, ◌↔◌, ◌==◌, ◌*◌, not}
use Rattle.std.proofs.lemmas.Bool.Decides.{nat_tests}
use Rattle.xcp_packet.specs.Rows.{first_holding, refused}
use Rattle.xcp_packet.specs.declared.Code.{Code}
use Rattle.xcp_packet.specs.declared.Code.TheVariants.{CmdSyntax, CmdUnknown, OutOfRange}
use Rattle.xcp_packet.specs.declared.Command.{Command}
use Rattle.xcp_packet.specs.declared.Command.TheVariants as commands
use Rattle.xcp_packet.specs.declared.Reply.{Reply}
use Rattle.xcp_packet.specs.declared.Reply.TheVariants as replies
use Rattle.xcp_memory.specs.Layout.{LayoutValue}
use Rattle.xcp_daq.specs.Configuring.{all_or_none, elements_in, multiple, refused_in, unless, write_daq_after, write_daq_multiple_after, write_daq_multiple_refusal, write_daq_refusal, write_daqs}
use Rattle.xcp_daq.specs.DaqLists.{DaqValue}
use Rattle.xcp_slave.specs.AcceptedCommands.{Accepts}
use Rattle.xcp_slave.specs.Outcomes.{Answer}
use Rattle.xcp_slave.specs.Rows.{row}
use Rattle.xcp_slave.specs.SlaveValue.{SlaveValue, layout_of, noblock}
use Rattle.xcp_slave.specs.Step.{Executes, answer_of, found_by}
use Rattle.xcp_slave.proofs.AcceptedCommandLaws.{accepted}
use Rattle.xcp_laws.proofs.FirstRefusals.{executes}
use Rattle.xcp_laws.proofs.PositiveAnswers.{code-allows, not-false, past, positive}
use Rattle.xcp_laws.proofs.SpeltCommands.{double-there}
use Rattle.xcp_laws.specs.AskedCommands.{IsAsked, IsPositive}
use Rattle.xcp_laws.specs.NumberBytes.{double_of}

-- The lists.

-- the first refusal, by whether bytes are missing and by the WRITE_DAQs
abbrev refusal_by : Bool → Result DaqValue Code → Option Code
refusal_by missing r = first_holding ((missing, CmdSyntax) ∷ refused_in r)

abbrev missing : ℕ → List ℕ → Bool
missing n bytes = nat_lt (length (n ∷ bytes)) (1 + 8 * n)

refusal-is : (l : LayoutValue) (n : ℕ) (bytes : List ℕ) (d : DaqValue) → 0 < n → write_daq_multiple_refusal l (n ∷ bytes) d ≡ refusal_by (missing n bytes) (multiple l (n ∷ bytes) d)
refusal-is l n bytes d some =
    let one : (length (n ∷ bytes) == 0) ≡ false = grind (arith, nat_tests) in
    let none : (n == 0) ≡ false = grind (arith, nat_tests, some) in
    ap (λ (t : Bool). first_holding ((t, CmdSyntax) ∷ (missing n bytes, CmdSyntax) ∷ (n == 0, OutOfRange) ∷ refused_in (multiple l (n ∷ bytes) d))) one
    ∙ ap (λ (t : Bool). first_holding ((missing n bytes, CmdSyntax) ∷ (t, OutOfRange) ∷ refused_in (multiple l (n ∷ bytes) d))) none

-- one element more, and as many bytes more as it has
same-missing : (n offset size a b c d extension dummy : ℕ) (more : List ℕ) → missing (n + 1) (offset ∷ size ∷ a ∷ b ∷ c ∷ d ∷ extension ∷ dummy ∷ more) ≡ missing n more
same-missing n offset size a b c d extension dummy more =
    elim (nat_lt (length (n ∷ more)) (1 + 8 * n)) as (λ t. nat_lt (length (n ∷ more)) (1 + 8 * n) ≡ t → missing (n + 1) (offset ∷ size ∷ a ∷ b ∷ c ∷ d ∷ extension ∷ dummy ∷ more) ≡ t) [
      | true ↦ λ e. grind (arith, nat_tests, e)
      | false ↦ λ e. grind (arith, nat_tests, e)
    ] refl

none-missing : (n offset size a b c d extension dummy : ℕ) (more : List ℕ) → 8 * n ≤ length more → missing (n + 1) (offset ∷ size ∷ a ∷ b ∷ c ∷ d ∷ extension ∷ dummy ∷ more) ≡ false
none-missing n offset size a b c d extension dummy more all = grind (arith, nat_tests, all)

one-more : (n : ℕ) → n + 1 ≡ suc n
one-more n = omega arith

-- WRITE_DAQ of the first, and the others where that leaves the lists
in-turn : (l : LayoutValue) (n offset size a b c d extension dummy : ℕ) (more : List ℕ) (v : DaqValue) → multiple l ((n + 1) ∷ offset ∷ size ∷ a ∷ b ∷ c ∷ d ∷ extension ∷ dummy ∷ more) v ≡ unless (write_daq_refusal l offset size extension (double_of l.order a b c d) v) (multiple l (n ∷ more) (write_daq_after size (double_of l.order a b c d) v))
in-turn l n offset size a b c d extension dummy more v =
    ap (λ (k : ℕ). write_daqs l (elements_in l.order k (offset ∷ size ∷ a ∷ b ∷ c ∷ d ∷ extension ∷ dummy ∷ more)) v) (one-more n)
    ∙ ap (λ (address : ℕ). unless (write_daq_refusal l offset size extension address v) (write_daqs l (elements_in l.order n more) (write_daq_after size address v))) (sym (double-there l.order a b c d (extension ∷ dummy ∷ more)))

-- where the first isn't refused
first-passed : (l : LayoutValue) (n offset size a b c d extension dummy : ℕ) (more : List ℕ) (v : DaqValue) → write_daq_refusal l offset size extension (double_of l.order a b c d) v ≡ None → multiple l ((n + 1) ∷ offset ∷ size ∷ a ∷ b ∷ c ∷ d ∷ extension ∷ dummy ∷ more) v ≡ multiple l (n ∷ more) (write_daq_after size (double_of l.order a b c d) v)
first-passed l n offset size a b c d extension dummy more v good =
    in-turn l n offset size a b c d extension dummy more v
    ∙ ap (λ (o : Option Code). unless o (multiple l (n ∷ more) (write_daq_after size (double_of l.order a b c d) v))) good

others-refusal : (l : LayoutValue) (n offset size a b c d extension dummy : ℕ) (more : List ℕ) (v : DaqValue) → 0 < n → write_daq_refusal l offset size extension (double_of l.order a b c d) v ≡ None → write_daq_multiple_refusal l ((n + 1) ∷ offset ∷ size ∷ a ∷ b ∷ c ∷ d ∷ extension ∷ dummy ∷ more) v ≡ write_daq_multiple_refusal l (n ∷ more) (write_daq_after size (double_of l.order a b c d) v)
others-refusal l n offset size a b c d extension dummy more v some good =
    let bytes : List ℕ = offset ∷ size ∷ a ∷ b ∷ c ∷ d ∷ extension ∷ dummy ∷ more in
    refusal-is l (n + 1) bytes v (omega arith)
    ∙ ap (λ (t : Bool). refusal_by t (multiple l ((n + 1) ∷ bytes) v)) (same-missing n offset size a b c d extension dummy more)
    ∙ ap (refusal_by (missing n more)) (first-passed l n offset size a b c d extension dummy more v good)
    ∙ sym (refusal-is l n more (write_daq_after size (double_of l.order a b c d) v) some)

-- what isn't refused is all done
all-done : (t : Bool) (r : Result DaqValue Code) (v u : DaqValue) → refusal_by t r ≡ None → all_or_none v r ≡ all_or_none u r
all-done t (Ok w) v u h = refl
all-done true (Err code) v u h = cc
all-done false (Err code) v u h = cc

others-after : (l : LayoutValue) (n offset size a b c d extension dummy : ℕ) (more : List ℕ) (v : DaqValue) → 0 < n → write_daq_refusal l offset size extension (double_of l.order a b c d) v ≡ None → write_daq_multiple_refusal l (n ∷ more) (write_daq_after size (double_of l.order a b c d) v) ≡ None → write_daq_multiple_after l ((n + 1) ∷ offset ∷ size ∷ a ∷ b ∷ c ∷ d ∷ extension ∷ dummy ∷ more) v ≡ write_daq_multiple_after l (n ∷ more) (write_daq_after size (double_of l.order a b c d) v)
others-after l n offset size a b c d extension dummy more v some good rest =
    let u : DaqValue = write_daq_after size (double_of l.order a b c d) v in
    ap (all_or_none v) (first-passed l n offset size a b c d extension dummy more v good)
    ∙ all-done (missing n more) (multiple l (n ∷ more) u) v u (sym (refusal-is l n more u some) ∙ rest)

-- where the first is refused
first-refusal : (l : LayoutValue) (n offset size a b c d extension dummy : ℕ) (more : List ℕ) (v : DaqValue) (code : Code) → 8 * n ≤ length more → write_daq_refusal l offset size extension (double_of l.order a b c d) v ≡ Some code → write_daq_multiple_refusal l ((n + 1) ∷ offset ∷ size ∷ a ∷ b ∷ c ∷ d ∷ extension ∷ dummy ∷ more) v ≡ Some code
first-refusal l n offset size a b c d extension dummy more v code all bad =
    let bytes : List ℕ = offset ∷ size ∷ a ∷ b ∷ c ∷ d ∷ extension ∷ dummy ∷ more in
    refusal-is l (n + 1) bytes v (omega arith)
    ∙ ap (λ (t : Bool). refusal_by t (multiple l ((n + 1) ∷ bytes) v)) (none-missing n offset size a b c d extension dummy more all)
    ∙ ap (refusal_by false) (in-turn l n offset size a b c d extension dummy more v)
    ∙ ap (λ (o : Option Code). refusal_by false (unless o (multiple l (n ∷ more) (write_daq_after size (double_of l.order a b c d) v)))) bad

-- one element

alone : (o : Option Code) (w : DaqValue) → refusal_by false (unless o (Ok w)) ≡ o
alone None w = refl
alone (Some code) w = refl

one-refusal : (l : LayoutValue) (offset size a b c d extension dummy : ℕ) (more : List ℕ) (v : DaqValue) → write_daq_multiple_refusal l (1 ∷ offset ∷ size ∷ a ∷ b ∷ c ∷ d ∷ extension ∷ dummy ∷ more) v ≡ write_daq_refusal l offset size extension (double_of l.order a b c d) v
one-refusal l offset size a b c d extension dummy more v =
    let bytes : List ℕ = offset ∷ size ∷ a ∷ b ∷ c ∷ d ∷ extension ∷ dummy ∷ more in
    refusal-is l 1 bytes v (omega arith)
    ∙ ap (λ (t : Bool). refusal_by t (multiple l (1 ∷ bytes) v)) (none-missing 0 offset size a b c d extension dummy more (omega arith))
    ∙ ap (refusal_by false) (in-turn l 0 offset size a b c d extension dummy more v)
    ∙ alone (write_daq_refusal l offset size extension (double_of l.order a b c d) v) (write_daq_after size (double_of l.order a b c d) v)

one-after : (l : LayoutValue) (offset size a b c d extension dummy : ℕ) (more : List ℕ) (v : DaqValue) → write_daq_refusal l offset size extension (double_of l.order a b c d) v ≡ None → write_daq_multiple_after l (1 ∷ offset ∷ size ∷ a ∷ b ∷ c ∷ d ∷ extension ∷ dummy ∷ more) v ≡ write_daq_after size (double_of l.order a b c d) v
one-after l offset size a b c d extension dummy more v good = ap (all_or_none v) (first-passed l 0 offset size a b c d extension dummy more v good)

-- Commands whose rows refuse the same, and else do the same.

-- the one asked of v, which is then w, and the other of m, which is then u
record Alike (d : Command) (v m w u : SlaveValue) (x y : Answer) : Type 0 where
  answer : x ≡ y
  left : ((first_holding (row d (found_by d m)).refusals ≡ None) × (w ≡ u)) ⊎ ((first_holding (row d (found_by d m)).refusals ≢ None) × (w ≡ noblock v) × (u ≡ noblock m))

alike : (c d : Command) (v m w u : SlaveValue) (x y : Answer) → layout_of v ≡ layout_of m → first_holding (row c (found_by c v)).refusals ≡ first_holding (row d (found_by d m)).refusals → (row c (found_by c v)).reply ≡ (row d (found_by d m)).reply → (first_holding (row d (found_by d m)).refusals ≡ None → (row c (found_by c v)).after ≡ (row d (found_by d m)).after) → Executes c v x w → Executes d m y u → Alike d v m w u x y
alike c d v m w u x y l f r s (Ok o, i, p) (Ok t, j, q) = record {
  answer = p ∙ ap (λ (z : LayoutValue). answer_of z o) l ∙ ap (λ (z : Option Reply). answer_of (layout_of m) z) (i.1 ∙ r ∙ sym j.1) ∙ sym q;
  left = inl (j.0, i.2 ∙ s j.0 ∙ sym j.2);
}
alike c d v m w u x y l f r s (Ok o, i, p) (Err g, j, q) = absurd (let z : ◌≡◌ {A = Option Reply} None (Some g) = sym i.0 ∙ f ∙ j.0 in cc)
alike c d v m w u x y l f r s (Err e, i, p) (Ok t, j, q) = absurd (let z : ◌≡◌ {A = Option Reply} (Some e) None = sym i.0 ∙ f ∙ j.0 in cc)
alike c d v m w u x y l f r s (Err e, i, p) (Err g, j, q) = record {
  answer = p ∙ ap (λ (z : LayoutValue). answer_of z (Some e)) l ∙ ap (λ (z : Option Reply). answer_of (layout_of m) z) (sym i.0 ∙ f ∙ j.0) ∙ sym q;
  left = inr (λ h. (let z : ◌≡◌ {A = Option Reply} None (Some g) = sym h ∙ j.0 in cc), i.1, j.1);
}

-- the row of WRITE_DAQ_MULTIPLE of a slave whose layout asks for it
known-refusals : (v : SlaveValue) (bytes : List ℕ) (o : Option Code) → (layout_of v).extras.uploads_a2l ≡ true → write_daq_multiple_refusal (layout_of v) bytes v.daq ≡ o → first_holding (row (commands.WriteDaqMultiple (record { items = bytes })) (noblock v)).refusals ≡ first_holding (refused o)
known-refusals v bytes o on e =
    past (not (layout_of v).extras.uploads_a2l) (replies.Error CmdUnknown) (refused (write_daq_multiple_refusal (layout_of v) bytes v.daq)) (not-false (layout_of v).extras.uploads_a2l on)
    ∙ ap (λ (c : Option Code). first_holding (refused c)) e

-- the slave with these lists, and without a block
abbrev with_lists : SlaveValue → DaqValue → SlaveValue
with_lists v d = record (noblock v) { daq = d }

asked : (c : Command) (v w : SlaveValue) (a : Answer) → IsAsked v c a w → Executes c v a w
asked c v w a h = executes c v w h.packet a h.connected h.spelt h.answered

-- either way they leave the same slave, if it is the same that they are asked of
same-left : (d : Command) (v w u : SlaveValue) (x y : Answer) → Alike d v v w u x y → (x ≡ y) × (w ≡ u)
same-left d v w u x y k = (k.answer, elim k.left [ inl p ↦ p.1 | inr p ↦ p.1 ∙ sym p.2 ])

pub one-written : (v w u : SlaveValue) (offset size a b c d extension dummy : ℕ) (more : List ℕ) (x y : Answer) → (layout_of v).extras.uploads_a2l ≡ true → IsAsked v (commands.WriteDaqMultiple (record { items = 1 ∷ offset ∷ size ∷ a ∷ b ∷ c ∷ d ∷ extension ∷ dummy ∷ more })) x w → IsAsked v (commands.WriteDaq offset size extension (double_of (layout_of v).order a b c d)) y u → (x ≡ y) × (w ≡ u)
one-written v w u offset size a b c d extension dummy more x y on h k =
    let bytes : List ℕ = 1 ∷ offset ∷ size ∷ a ∷ b ∷ c ∷ d ∷ extension ∷ dummy ∷ more in
    let many : Command = commands.WriteDaqMultiple (record { items = bytes }) in
    let one : Command = commands.WriteDaq offset size extension (double_of (layout_of v).order a b c d) in
    same-left one v w u x y
    (alike many one v v w u x y refl
    (known-refusals v bytes _ on (one-refusal (layout_of v) offset size a b c d extension dummy more v.daq))
    refl
    (λ none. ap (with_lists v) (one-after (layout_of v) offset size a b c d extension dummy more v.daq ((code-allows _).0 none)))
    (asked many v w x h) (asked one v u y k))

-- the first of many, which is refused

some-code : (o : Option Code) → o ≢ None → (code : Code) × (o ≡ Some code)
some-code None n = absurd (n refl)
some-code (Some code) n = (code, refl)

left-as-was : (d : Command) (v m w u : SlaveValue) (x y : Answer) → first_holding (row d (found_by d m)).refusals ≢ None → Alike d v m w u x y → (x ≡ y) × (w ≡ noblock v)
left-as-was d v m w u x y n k = (k.answer, elim k.left [ inl p ↦ absurd (n p.0) | inr p ↦ p.1 ])

pub first-refused : (v w u : SlaveValue) (n offset size a b c d extension dummy : ℕ) (more : List ℕ) (x y : Answer) → (layout_of v).extras.uploads_a2l ≡ true → 8 * n ≤ length more → IsAsked v (commands.WriteDaqMultiple (record { items = (n + 1) ∷ offset ∷ size ∷ a ∷ b ∷ c ∷ d ∷ extension ∷ dummy ∷ more })) x w → IsAsked v (commands.WriteDaq offset size extension (double_of (layout_of v).order a b c d)) y u → (IsPositive y → ⊥) → (x ≡ y) × (w ≡ noblock v)
first-refused v w u n offset size a b c d extension dummy more x y on all h k negative =
    let l : LayoutValue = layout_of v in
    let bytes : List ℕ = (n + 1) ∷ offset ∷ size ∷ a ∷ b ∷ c ∷ d ∷ extension ∷ dummy ∷ more in
    let many : Command = commands.WriteDaqMultiple (record { items = bytes }) in
    let one : Command = commands.WriteDaq offset size extension (double_of l.order a b c d) in
    let o : Option Code = write_daq_refusal l offset size extension (double_of l.order a b c d) v.daq in
    let bad : o ≢ None = λ e. negative ((positive one v u y replies.Done refl refl k).1 ((code-allows o).1 e)) in
    let code = some-code o bad in
    left-as-was one v v w u x y (λ e. bad ((code-allows o).0 e))
    (alike many one v v w u x y refl
    (known-refusals v bytes o on (first-refusal l n offset size a b c d extension dummy more v.daq code.0 all code.1 ∙ sym code.1))
    refl
    (λ none. absurd (bad ((code-allows o).0 none)))
    (asked many v w x h) (asked one v u y k))

-- the first of many, which isn't

-- what the others are answered, and what all leave
all-or-none : (d : Command) (v m w u : SlaveValue) (x y : Answer) → IsPositive y ↔ (first_holding (row d (found_by d m)).refusals ≡ None) → Alike d v m w u x y → (x ≡ y) × (IsPositive y → w ≡ u) × ((IsPositive y → ⊥) → w ≡ noblock v)
all-or-none d v m w u x y p k = (
  k.answer,
  λ taken. elim k.left [ inl q ↦ q.1 | inr q ↦ absurd (q.0 (p.0 taken)) ],
  λ negative. elim k.left [ inl q ↦ absurd (negative (p.1 q.0)) | inr q ↦ q.1 ],
)

-- an accepted WRITE_DAQ
first-accepted : (v m : SlaveValue) (offset size extension address : ℕ) (told : List ℕ) → Accepts v (commands.WriteDaq offset size extension address) told m → (write_daq_refusal (layout_of v) offset size extension address v.daq ≡ None) × (m ≡ with_lists v (write_daq_after size address v.daq))
first-accepted v m offset size extension address told h =
    let k = accepted (commands.WriteDaq offset size extension address) v told m h in
    ((code-allows _).0 k.allowed, k.after)

pub others-written : (v m w u : SlaveValue) (n offset size a b c d extension dummy : ℕ) (more told : List ℕ) (x y : Answer) → (layout_of v).extras.uploads_a2l ≡ true → 0 < n → IsAsked v (commands.WriteDaqMultiple (record { items = (n + 1) ∷ offset ∷ size ∷ a ∷ b ∷ c ∷ d ∷ extension ∷ dummy ∷ more })) x w → Accepts v (commands.WriteDaq offset size extension (double_of (layout_of v).order a b c d)) told m → IsAsked m (commands.WriteDaqMultiple (record { items = n ∷ more })) y u → (x ≡ y) × (IsPositive y → w ≡ u) × ((IsPositive y → ⊥) → w ≡ noblock v)
others-written v m w u n offset size a b c d extension dummy more told x y on some h first k =
    let l : LayoutValue = layout_of v in
    let bytes : List ℕ = (n + 1) ∷ offset ∷ size ∷ a ∷ b ∷ c ∷ d ∷ extension ∷ dummy ∷ more in
    let many : Command = commands.WriteDaqMultiple (record { items = bytes }) in
    let rest : Command = commands.WriteDaqMultiple (record { items = n ∷ more }) in
    let after : DaqValue = write_daq_after size (double_of l.order a b c d) v.daq in
    let good = first-accepted v m offset size extension (double_of l.order a b c d) told first in
    let mid : SlaveValue = with_lists v after in
    let next : IsAsked mid rest y u = subst (λ (z : SlaveValue). IsAsked z rest y u) good.1 k in
    let refusals = others-refusal l n offset size a b c d extension dummy more v.daq some good.0 in
    let last = known-refusals mid (n ∷ more) (write_daq_multiple_refusal l (n ∷ more) after) on refl in
    all-or-none rest v mid w u x y (positive rest mid u y replies.Done refl refl next)
    (alike many rest v mid w u x y refl
    (known-refusals v bytes _ on refusals ∙ sym last)
    refl
    (λ none. ap (with_lists v) (others-after l n offset size a b c d extension dummy more v.daq some good.0 ((code-allows _).0 (sym last ∙ none))))
    (asked many v w x h) (asked rest mid u y next))

pub two-written : (v m w u : SlaveValue) (offset size a b c d extension dummy second_offset second_size e f g h second_extension second_dummy : ℕ) (more told : List ℕ) (x y : Answer) → (layout_of v).extras.uploads_a2l ≡ true → IsAsked v (commands.WriteDaqMultiple (record { items = 2 ∷ offset ∷ size ∷ a ∷ b ∷ c ∷ d ∷ extension ∷ dummy ∷ second_offset ∷ second_size ∷ e ∷ f ∷ g ∷ h ∷ second_extension ∷ second_dummy ∷ more })) x w → Accepts v (commands.WriteDaq offset size extension (double_of (layout_of v).order a b c d)) told m → IsAsked m (commands.WriteDaq second_offset second_size second_extension (double_of (layout_of v).order e f g h)) y u → (x ≡ y) × (IsPositive y → w ≡ u) × ((IsPositive y → ⊥) → w ≡ noblock v)
two-written v m w u offset size a b c d extension dummy second_offset second_size e f g h second_extension second_dummy more told x y on both first k =
    let l : LayoutValue = layout_of v in
    let behind : List ℕ = second_offset ∷ second_size ∷ e ∷ f ∷ g ∷ h ∷ second_extension ∷ second_dummy ∷ more in
    let bytes : List ℕ = 2 ∷ offset ∷ size ∷ a ∷ b ∷ c ∷ d ∷ extension ∷ dummy ∷ behind in
    let many : Command = commands.WriteDaqMultiple (record { items = bytes }) in
    let second : Command = commands.WriteDaq second_offset second_size second_extension (double_of l.order e f g h) in
    let after : DaqValue = write_daq_after size (double_of l.order a b c d) v.daq in
    let good = first-accepted v m offset size extension (double_of l.order a b c d) told first in
    let mid : SlaveValue = with_lists v after in
    let next : IsAsked mid second y u = subst (λ (z : SlaveValue). IsAsked z second y u) good.1 k in
    let alone = one-refusal l second_offset second_size e f g h second_extension second_dummy more after in
    let refusals = others-refusal l 1 offset size a b c d extension dummy behind v.daq (omega arith) good.0 in
    all-or-none second v mid w u x y (positive second mid u y replies.Done refl refl next)
    (alike many second v mid w u x y refl
    (known-refusals v bytes _ on (refusals ∙ alone))
    refl
    (λ none. (
    let passed = (code-allows _).0 none in
    ap (with_lists v) (others-after l 1 offset size a b c d extension dummy behind v.daq (omega arith) good.0 (alone ∙ passed) ∙ one-after l second_offset second_size e f g h second_extension second_dummy more after passed)))
    (asked many v w x both) (asked second mid u y next))
