-- The ranges of the transfers.
use Rattle.std.proofs.Common.{◌≡◌, ◌≢◌, ℕ, ◌+◌, ◌-◌, ◌<◌, ◌≤◌, Bool, true, false, List, [], ◌∷◌, length, Option, Some, None, refl, sym, ap, subst, ◌∙◌, nat_lt, nat_le, arith}
use Rattle.std.specs.Prelude.{◌↔◌, ◌==◌, ◌||◌, ◌%◌, not, if◌then◌else◌}
use Rattle.std.proofs.lemmas.Bool.Decides.{nat_tests}
use Rattle.xcp_packet.specs.ByteOrder.{double_bytes}
use Rattle.xcp_packet.specs.Rows.{first_holding, refused}
use Rattle.xcp_packet.specs.declared.Code.{Code}
use Rattle.xcp_packet.specs.declared.Code.TheVariants.{AccessDenied, OutOfRange, WriteProtected}
use Rattle.xcp_packet.specs.declared.Command.TheVariants as commands
use Rattle.xcp_packet.specs.declared.Reply.TheVariants as replies
use Rattle.xcp_memory.specs.Checksum.{sum_refusal, unit}
use Rattle.xcp_memory.specs.ComputedAccess.{is_inside, lies_inside, segment_of, write_refusal, write_refusal_by}
use Rattle.xcp_memory.proofs.AreaLaws.{inside_computes, inside_lies}
use Rattle.xcp_memory.proofs.WriteRefusalLaws.{outside_is_denied, protected_is_refused}
use Rattle.xcp_memory.specs.ClassLimits.{limits_of}
use Rattle.xcp_memory.specs.Layout.{IsLayout, LayoutValue, signals_extent}
use Rattle.xcp_memory.specs.Memory.{LiesInside, LiesProtected}
use Rattle.xcp_memory.specs.Pages.{PagesValue, segment_at}
use Rattle.xcp_memory.specs.declared.ChecksumKind.{ChecksumKind}
use Rattle.xcp_memory.specs.declared.Class.{Class}
use Rattle.xcp_memory.specs.declared.Class.TheVariants.{Large, Papers}
use Rattle.xcp_memory.specs.declared.ChecksumKind.TheVariants.{Add11, Add12, Add14, Add22, Add24, Add44}
use Rattle.xcp_transfer.specs.MtaAccess.{is_readable, sum_refusal_at, write_refusal_at}
use Rattle.xcp_transfer.specs.TransferValue.{text_of}
use Rattle.xcp_transfer.specs.Uploads.{greatest_sum}
use Rattle.xcp_transfer.specs.declared.Mta.{Mta}
use Rattle.xcp_transfer.specs.declared.Mta.TheVariants.{Memory, Nowhere, Text}
use Rattle.xcp_transfer.specs.declared.TextId.{TextId}
use Rattle.xcp_slave.specs.Outcomes.{Answer}
use Rattle.xcp_slave.specs.declared.outcome.Outcome.TheVariants as answers
use Rattle.xcp_slave.specs.SlaveInvariant.{IsSlave}
use Rattle.xcp_slave.specs.SlaveValue.{SlaveValue, layout_of}
use Rattle.xcp_slave.proofs.ListInvariantLemmas.{NoneHolds}
use Rattle.xcp_slave.proofs.TransferInvariantLemmas.{none-behind}
use Rattle.xcp_laws.proofs.ListRanges.{inside}
use Rattle.xcp_laws.proofs.PositiveAnswers.{also, chained, first-refused, four, holds-first-reply, is, lastly, positive, some, tests-allow, three, within}
use Rattle.xcp_laws.specs.AskedCommands.{IsAsked, IsPositive}

pub set-mta : (v w : SlaveValue) (extension address : ℕ) (a : Answer) → IsAsked v (commands.SetMta extension address) a w → IsPositive a ↔ (extension ≡ 0)
set-mta v w extension address a h =
    chained (positive (commands.SetMta extension address) v w a replies.Done refl refl h)
    (chained (tests-allow ((not (extension == 0), replies.Error OutOfRange) ∷ [])) (lastly (is extension 0)))

-- a statement about one value holds of an equal one
moved-along : (x y : Bool) (P : Type 0) → x ≡ y → ((not y ≡ false) ↔ P) → ((not x ≡ false) ↔ P)
moved-along x y P e f = subst (λ (b : Bool). (not b ≡ false) ↔ P) (sym e) f

-- UPLOAD of an MTA at which n bytes can be read exactly if P holds
uploads : (v w : SlaveValue) (n : ℕ) (a : Answer) (m : Mta) (P : Type 0) → v.transfer.mta ≡ m → ((not (is_readable v.transfer.pages m n) ≡ false) ↔ P) → IsAsked v (commands.Upload n) a w → IsPositive a ↔ ((0 < n) × P)
uploads v w n a m P e f h =
    chained (positive (commands.Upload n) v w a _ refl refl h)
    (chained (tests-allow ((n == 0, replies.Error OutOfRange) ∷ (not (is_readable v.transfer.pages v.transfer.mta n), replies.Error AccessDenied) ∷ []))
    (also (some n) (lastly (moved-along _ _ P (ap (λ (x : Mta). is_readable v.transfer.pages x n) e) f))))

pub upload : (v w : SlaveValue) (n address : ℕ) (a : Answer) → v.transfer.mta ≡ Memory address → IsAsked v (commands.Upload n) a w → IsPositive a ↔ ((0 < n) × LiesInside (layout_of v) address n)
upload v w n address a e h = uploads v w n a (Memory address) _ e (inside (layout_of v) address n) h

enough : (n m : ℕ) → (not (nat_le n m) ≡ false) ↔ (n ≤ m)
enough n m = (λ h. grind (arith, nat_tests, h), λ h. grind (arith, nat_tests, h))

pub upload-text : (v w : SlaveValue) (n place : ℕ) (id : TextId) (a : Answer) → v.transfer.mta ≡ Text id place → IsAsked v (commands.Upload n) a w → IsPositive a ↔ ((0 < n) × (place + n ≤ length (text_of (layout_of v) id)))
upload-text v w n place id a e h = uploads v w n a (Text id place) _ e (enough (place + n) (length (text_of (layout_of v) id))) h

no-read : (not false ≡ false) ↔ ⊥
no-read = (λ h. cc, λ h. absurd h)

pub upload-nowhere : (v w : SlaveValue) (n : ℕ) (a : Answer) → v.transfer.mta ≡ Nowhere → IsAsked v (commands.Upload n) a w → IsPositive a → ⊥
upload-nowhere v w n a e h p = ((uploads v w n a Nowhere ⊥ e no-read h).0 p).1

pub counted : (n m : ℕ) → ((n == 0 || nat_lt m n) ≡ false) ↔ ((0 < n) × (n ≤ m))
counted n m = (λ h. (grind (arith, nat_tests, h), grind (arith, nat_tests, h)), λ p. grind (arith, nat_tests, p.0, p.1))

pub short-upload : (v w : SlaveValue) (n extension address : ℕ) (a : Answer) → IsAsked v (commands.ShortUpload n extension address) a w → IsPositive a ↔ (((0 < n) × (n ≤ (layout_of v).max_cto - 1)) × (extension ≡ 0) × LiesInside (layout_of v) address n)
short-upload v w n extension address a h =
    chained (positive (commands.ShortUpload n extension address) v w a _ refl refl h)
    (chained (tests-allow ((n == 0 || nat_lt ((layout_of v).max_cto - 1) n, replies.Error OutOfRange) ∷ (not (extension == 0), replies.Error OutOfRange) ∷ (not (is_readable v.transfer.pages (Memory address) n), replies.Error AccessDenied) ∷ []))
    (chained (also (counted n ((layout_of v).max_cto - 1)) (also (is extension 0) (lastly (inside (layout_of v) address n)))) three))

-- sums

none-after : (o : Option Code) → o ≡ None → NoneHolds (refused o)
none-after None h = tt
none-after (Some code) h = cc

pub behind : (o : Option Code) → NoneHolds (refused o) ↔ (o ≡ None)
behind o = (none-behind o, none-after o)

pub units : (unit Add11 ≡ 1) × (unit Add12 ≡ 1) × (unit Add14 ≡ 1) × (unit Add22 ≡ 2) × (unit Add24 ≡ 2) × (unit Add44 ≡ 4)
units = (refl, refl, refl, refl, refl, refl)

-- the checksum at an MTA, where the bytes lie in one area exactly if P holds
sums : (v w : SlaveValue) (size : ℕ) (a : Answer) (m : Mta) (lies : Bool) (P : Type 0) → v.transfer.mta ≡ m → sum_refusal_at v.transfer.pages m size ≡ sum_refusal (layout_of v).checksum lies size → ((not lies ≡ false) ↔ P) → IsAsked v (commands.BuildChecksum size) a w → IsPositive a ↔ ((size ≤ greatest_sum (layout_of v)) × (0 < size) × (size % unit (layout_of v).checksum ≡ 0) × P)
sums v w size a m lies P e same f h =
    let kind : ChecksumKind = (layout_of v).checksum in
    let most : ℕ = greatest_sum (layout_of v) in
    let rows : List (Bool × Code) = (size == 0, OutOfRange) ∷ (not (size % unit kind == 0), OutOfRange) ∷ (not lies, AccessDenied) ∷ [] in
    let at : sum_refusal_at v.transfer.pages v.transfer.mta size ≡ first_holding rows = ap (λ (x : Mta). sum_refusal_at v.transfer.pages x size) e ∙ same in
    chained (positive (commands.BuildChecksum size) v w a _ refl refl h)
    (chained (tests-allow ((nat_lt most size, replies.ErrorBlockSize OutOfRange most) ∷ refused (sum_refusal_at v.transfer.pages v.transfer.mta size)))
    (chained (also (within size most)
    (chained (behind (sum_refusal_at v.transfer.pages v.transfer.mta size))
    (chained (λ k. sym at ∙ k, λ k. at ∙ k)
    (chained (tests-allow rows) (also (some size) (also (is (size % unit kind) 0) (lastly f))))))) four))

pub build-checksum : (v w : SlaveValue) (size address : ℕ) (a : Answer) → v.transfer.mta ≡ Memory address → IsAsked v (commands.BuildChecksum size) a w → IsPositive a ↔ ((size ≤ greatest_sum (layout_of v)) × (0 < size) × (size % unit (layout_of v).checksum ≡ 0) × LiesInside (layout_of v) address size)
build-checksum v w size address a e h = sums v w size a (Memory address) (lies_inside (layout_of v) address size) _ e refl (inside (layout_of v) address size) h

no-sum : (m : Mta) (v w : SlaveValue) (size : ℕ) (a : Answer) → v.transfer.mta ≡ m → ((address : ℕ) → m ≢ Memory address) → IsAsked v (commands.BuildChecksum size) a w → IsPositive a → ⊥
no-sum Nowhere v w size a e f h p = ((sums v w size a Nowhere false ⊥ e refl no-read h).0 p).3
no-sum (Memory address) v w size a e f h p = f address refl
no-sum (Text id place) v w size a e f h p = ((sums v w size a (Text id place) false ⊥ e refl no-read h).0 p).3

pub build-no-checksum : (v w : SlaveValue) (size : ℕ) (a : Answer) → ((address : ℕ) → v.transfer.mta ≢ Memory address) → IsAsked v (commands.BuildChecksum size) a w → IsPositive a → ⊥
build-no-checksum v w size a f h p = no-sum v.transfer.mta v w size a refl f h p

-- a sum of too many bytes is refused with how many they may be
pub long-sum : (v w : SlaveValue) (size : ℕ) (a : Answer) → greatest_sum (layout_of v) < size → IsAsked v (commands.BuildChecksum size) a w → a ≡ answers.Packets ((0xFE ∷ 0x22 ∷ 0 ∷ 0 ∷ double_bytes (layout_of v).order (greatest_sum (layout_of v))) ∷ [])
long-sum v w size a long h =
    let most : ℕ = greatest_sum (layout_of v) in
    first-refused (commands.BuildChecksum size) v w a (replies.ErrorBlockSize OutOfRange most)
    (holds-first-reply (nat_lt most size) (replies.ErrorBlockSize OutOfRange most) (refused (sum_refusal_at v.transfer.pages v.transfer.mta size)) (grind (arith, nat_tests, long))) h

pub sum-large : (l : LayoutValue) → l.class ≡ Large → greatest_sum l ≡ 0x1_0000
sum-large l e = ap (λ (c : Class). (limits_of c).checksum) e

pub sum-papers : (l : LayoutValue) → l.class ≡ Papers → greatest_sum l ≡ 0xFFFF_FFFF
sum-papers l e = ap (λ (c : Class). (limits_of c).checksum) e

-- writes

protected-or : (t : Bool) (R : Type 0) → ((if t then Some WriteProtected else None) ≡ None → R) → ((if t then Some WriteProtected else None) ≡ Some WriteProtected → R) → R
protected-or true R f h = h refl
protected-or false R f h = f refl

denied-or : (t : Bool) (R : Type 0) → ((if t then Some WriteProtected else Some AccessDenied) ≡ Some WriteProtected → R) → ((if t then Some WriteProtected else Some AccessDenied) ≡ Some AccessDenied → R) → R
denied-or true R f h = f refl
denied-or false R f h = h refl

-- a write is taken, denied or protected
one-of-three : (o : Option ℕ) (v : PagesValue) (a n : ℕ) (R : Type 0) → (write_refusal_by o v a n ≡ None → R) → (write_refusal_by o v a n ≡ Some AccessDenied → R) → (write_refusal_by o v a n ≡ Some WriteProtected → R) → R
one-of-three (Some i) v a n R f g h = protected-or ((segment_at v i).xcp == 0) R f h
one-of-three None v a n R f g h = denied-or (is_inside a n (signals_extent v.layout)) R h g

lies-by : (t : Bool) (v : PagesValue) (a n : ℕ) → lies_inside v.layout a n ≡ t → write_refusal v a n ≡ None → LiesInside v.layout a n
lies-by true v a n e h = inside_lies v.layout a n e
lies-by false v a n e h =
    let outside : LiesInside v.layout a n → ⊥ = λ k. (let z : false ≡ true = sym e ∙ inside_computes v.layout a n k in cc) in
    absurd (let z : ◌≡◌ {A = Option Code} None (Some AccessDenied) = sym h ∙ (outside_is_denied v a n).1 outside in cc)

-- a write is taken exactly where its range lies in one area, which may be written
pub writable : (v : PagesValue) (a n : ℕ) → IsLayout v.layout → 0 < n → (write_refusal v a n ≡ None) ↔ (LiesInside v.layout a n × (LiesProtected v a n → ⊥))
writable v a n l some = (
  λ h. (lies-by (lies_inside v.layout a n) v a n refl h, λ p. (let z : ◌≡◌ {A = Option Code} None (Some WriteProtected) = sym h ∙ (protected_is_refused v a n l some).1 p in cc)),
  λ p. one-of-three (segment_of v.layout a n) v a n _ (λ h. h) (λ h. absurd ((outside_is_denied v a n).0 h p.0)) (λ h. absurd (p.1 ((protected_is_refused v a n l some).0 h))),
)

pub modify-bits : (v w : SlaveValue) (s ma mx address : ℕ) (a : Answer) → IsSlave v → v.transfer.mta ≡ Memory address → IsAsked v (commands.ModifyBits s ma mx) a w → IsPositive a ↔ ((s ≤ 31) × LiesInside (layout_of v) address 4 × (LiesProtected v.transfer.pages address 4 → ⊥))
modify-bits v w s ma mx address a good e h =
    let p : PagesValue = v.transfer.pages in
    let at : write_refusal_at p v.transfer.mta 4 ≡ write_refusal p address 4 = ap (λ (x : Mta). write_refusal_at p x 4) e in
    chained (positive (commands.ModifyBits s ma mx) v w a replies.Done refl refl h)
    (chained (tests-allow ((nat_lt 31 s, replies.Error OutOfRange) ∷ refused (write_refusal_at p v.transfer.mta 4)))
    (chained (also (within s 31) (chained (behind (write_refusal_at p v.transfer.mta 4)) (chained (λ k. sym at ∙ k, λ k. at ∙ k) (writable p address 4 good.transfer.layout (omega arith))))) three))

no-write : (m : Mta) (v w : SlaveValue) (s ma mx : ℕ) (a : Answer) → v.transfer.mta ≡ m → ((address : ℕ) → m ≢ Memory address) → IsAsked v (commands.ModifyBits s ma mx) a w → IsPositive a → write_refusal_at v.transfer.pages m 4 ≡ None
no-write m v w s ma mx a e f h p =
    let none = (chained (positive (commands.ModifyBits s ma mx) v w a replies.Done refl refl h) (tests-allow ((nat_lt 31 s, replies.Error OutOfRange) ∷ refused (write_refusal_at v.transfer.pages v.transfer.mta 4)))).0 p in
    sym (ap (λ (x : Mta). write_refusal_at v.transfer.pages x 4) e) ∙ none-behind _ none.1

never-written : (m : Mta) (v : PagesValue) → ((address : ℕ) → m ≢ Memory address) → write_refusal_at v m 4 ≡ None → ⊥
never-written Nowhere v f h = cc
never-written (Memory address) v f h = f address refl
never-written (Text id place) v f h = cc

pub modify-nothing : (v w : SlaveValue) (s ma mx : ℕ) (a : Answer) → ((address : ℕ) → v.transfer.mta ≢ Memory address) → IsAsked v (commands.ModifyBits s ma mx) a w → IsPositive a → ⊥
modify-nothing v w s ma mx a f h p = never-written v.transfer.mta v.transfer.pages f (no-write v.transfer.mta v w s ma mx a refl f h p)
