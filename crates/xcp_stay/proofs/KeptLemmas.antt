-- What is told of a server that stayed.
use Rattle.std.proofs.Common.{◌≡◌, ◌<◌, ◌+◌, ◌-◌, ◌^◌, ◌∙◌, ℕ, min, List, [], ◌∷◌, ap, arith, length, refl, subst, sym}
use Rattle.std.specs.List.{AllByRecursion}
use Rattle.xcp_memory.specs.Layout.{LayoutValue}
use Rattle.xcp_slave.specs.SlaveValue.{SlaveValue, opening}
use Rattle.xcp_scribe.specs.Given.{Given}
use Rattle.xcp_locked.specs.Caller.{CallerValue}
use Rattle.xcp_locked.specs.Chapters.{AreJoined, entries_of}
use Rattle.xcp_locked.specs.Journal.{exchanges}
use Rattle.xcp_locked.specs.LockedSlave.{LockedValue}
use Rattle.xcp_locked.specs.PublishingCalls.{AreImages}
use Rattle.xcp_service.specs.Keeping.{AreKeptSettled, AreOnce, KeeperValue, caller_limit}
use Rattle.xcp_service.specs.Losing.{lost_in}
use Rattle.xcp_service.specs.Parcels.{AreNumbered, HasAllReceipts, IsHandedOver, given_in}
use Rattle.xcp_stay.specs.Stay.{AreAllMembers, IsClosed, IsKept, IsKeeperMismatch, IsOnce, LeavesKept}
use Rattle.xcp_stay.specs.Team.{HaveAllServed, timekeepers}
use Rattle.xcp_stay.specs.declared.staying.StayReport.{StayReport}
use Rattle.xcp_stay.specs.declared.unstayed.StayError.{StayError}

-- a report is right where its counts are those of the chapters, these are joined, settled and written, and all members served
pub kept_as : (l : LayoutValue) (callers tools tasks : ℕ) (wrote : List Given → Type 0) (k : KeeperValue) (cs : List CallerValue) (n m : ℕ) (v : SlaveValue) (r : StayReport) → r.chapters ≡ n → r.calls ≡ m → r.lost ≡ min (lost_in k.chapters) (2 ^ 64 - 1)
    → AreJoined l k.chapters n m v → 0 < n → AreKeptSettled k → AreAllMembers (tools + tools + tasks + timekeepers l) k cs → wrote (given_in k.chapters) → HaveAllServed l callers tools tasks cs → IsKept l callers tools tasks wrote r
kept_as l callers tools tasks wrote k cs n m v r chapters calls lost joined some settled all written served = record {
  keeper = k;
  last = v;
  joined = subst (λ (x : ℕ). AreJoined l k.chapters x r.calls v) (sym chapters) (subst (λ (x : ℕ). AreJoined l k.chapters n x v) (sym calls) joined);
  some = omega (arith, some, chapters);
  settled = settled;
  members = cs;
  all = all;
  served = served;
  lost = lost;
  written = written;
}

-- the same is left where layout, scribe, keeper, slave and members are the same
pub left_as : {S : Type 0} (wrote : S → List Given → Type 0) (count : LayoutValue → ℕ) (l l' : LayoutValue) (s s' : S) (k k' : KeeperValue) (v v' : LockedValue) (cs cs' : List CallerValue) → l ≡ l' → s ≡ s' → k ≡ k' → v ≡ v' → cs ≡ cs'
    → LeavesKept l (count l) (wrote s) k v cs → LeavesKept l' (count l') (wrote s') k' v' cs'
left_as wrote count l l' s s' k k' v v' cs cs' layout scribe keeper locked members h =
    subst (λ x. LeavesKept x (count x) (wrote s') k' v' cs') layout
    (subst (λ x. LeavesKept l (count l) (wrote x) k' v' cs') scribe
    (subst (λ x. LeavesKept l (count l) (wrote s) x v' cs') keeper
    (subst (λ x. LeavesKept l (count l) (wrote s) k x cs') locked
    (subst (λ x. LeavesKept l (count l) (wrote s) k v x) members h))))

-- each accepted call of each caller stands in the chapters once, where these have each caller's calls once
pub once_of : (k : KeeperValue) (cs : List CallerValue) → AreOnce k → AllByRecursion (IsHandedOver k) cs → AllByRecursion HasAllReceipts cs → AllByRecursion (λ (c : CallerValue). c.number < caller_limit) cs → AllByRecursion (IsOnce k.chapters) cs
once_of k [] once handed counted few = tt
once_of k (c ∷ cs) once handed counted few = ((counted.0, sym (ap length handed.0) ∙ once c.number few.0), once_of k cs once handed.1 counted.1 few.1)

-- what is left where the keeper meets the slave, which has no open call, and all members have resigned
pub left_by : (l : LayoutValue) (written : List Given → Type 0) (k was : KeeperValue) (v : LockedValue) (cs : List CallerValue) → IsClosed v → AreImages (opening l) (exchanges (entries_of was.chapters)) v.writer.publications → k ≡ was
    → AreJoined l k.chapters v.chapter v.before v.base → AreKeptSettled k → AreOnce k → AreNumbered 0 cs → AllByRecursion (IsHandedOver k) cs → AllByRecursion HasAllReceipts cs → AllByRecursion (λ (c : CallerValue). c.number < caller_limit) cs → written (given_in k.chapters)
    → LeavesKept l (length cs) written k v cs
left_by l written k was v cs closed images same joined settled once numbered handed counted few wrote = record {
  joined = joined;
  settled = settled;
  closed = closed;
  members = record { complete = refl; numbered = numbered; handed = handed; once = once_of k cs once handed counted few };
  wrote = wrote;
  images = subst (λ (x : KeeperValue). AreImages (opening l) (exchanges (entries_of x.chapters)) v.writer.publications) (sym same) images;
}

-- the same is left of as many members
pub left_many : (written : List Given → Type 0) (l : LayoutValue) (count count' : ℕ) (k : KeeperValue) (v : LockedValue) (cs : List CallerValue) → count ≡ count' → LeavesKept l count written k v cs → LeavesKept l count' written k v cs
left_many written l count count' k v cs same h = subst (λ (n : ℕ). LeavesKept l n written k v cs) same h

-- a mismatch of the same layout and as many callers
pub mismatch_as : (l l' : LayoutValue) (n n' : ℕ) (e : StayError) → l ≡ l' → n ≡ n' → IsKeeperMismatch l n e → IsKeeperMismatch l' n' e
mismatch_as l l' n n' e layout callers h = subst (λ (x : LayoutValue). IsKeeperMismatch x n' e) layout (subst (λ (m : ℕ). IsKeeperMismatch l m e) callers h)
