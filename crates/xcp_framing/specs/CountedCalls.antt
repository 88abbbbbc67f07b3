-- What a contract sees of a watched reader or writer.
use Rattle.std.specs.Prelude.{◌≡◌, ℕ, Bool, true, false, List, ◌++◌, All, length, take, Option, Result, Ok, Err, nat_lt, ◌&&◌, ◌==◌, refl, ◌+◌, if◌then◌else◌}
use Rattle.std.specs.Coded.{Coded, code_by, coded×, coded_ℕ, coded_list}

-- the inner reader or writer, how many calls it had, how many of them failed, the bytes that its reads gave, in order, and of how many
-- bytes each read was: as many as its buffer has, in the order of the reads
pub record Watched (T : Type 0) : Type 0 where
  pub inner : T
  pub calls : ℕ
  pub failures : ℕ
  pub read : List ℕ
  pub asked : List ℕ

-- a watched value is stored as these five
abbrev pub watched_code : {T : Type 0} → Coded T → Coded (Watched T)
watched_code {T} code =
    code_by (T × (ℕ × (ℕ × (List ℕ × List ℕ)))) (coded× code (coded× coded_ℕ (coded× coded_ℕ (coded× (coded_list coded_ℕ) (coded_list coded_ℕ))))) (λ w. (w.inner, (w.calls, (w.failures, (w.read, w.asked))))) (λ p. record { inner = p.0; calls = p.1.0; failures = p.1.1.0; read = p.1.1.1.0; asked = p.1.1.1.1 }) (λ _. refl)

-- one more call, and one more failure if it failed
pub record Counted {T : Type 0} (old new : Watched T) (failed : Bool) : Type 0 where
  pub calls : new.calls ≡ old.calls + 1
  pub failures : new.failures ≡ (if failed then old.failures + 1 else old.failures)

-- a read fails with an Err
abbrev pub is_failed_read : {E : Type 0} → Result ℕ E → Bool
is_failed_read (Ok n) = false
is_failed_read (Err e) = true

-- a write fails with an Err, or if it takes no byte of some
abbrev pub is_failed_write : {E : Type 0} → Result ℕ E → List ℕ → Bool
is_failed_write (Ok n) bytes = (n == 0) && nat_lt 0 (length bytes)
is_failed_write (Err e) bytes = true

-- a read gave the first n bytes of its buffer, and where it failed none
abbrev pub Gives : {T E : Type 0} → Result ℕ E → List ℕ → Watched T → Watched T → Type 0
Gives (Ok n) buffer old new = new.read ≡ old.read ++ take n buffer
Gives (Err e) buffer old new = new.read ≡ old.read

-- Where a stream stands: the bytes that reads will give from here on, where a contract can know them, and those that they gave.
pub record StreamPlace : Type 0 where
  pub left : Option (List ℕ)
  pub read : List ℕ

-- where the stream of a watched reader stands, whose bytes `remaining` tells
abbrev pub stream_place : {I : Type 0} → (I → Option (List ℕ)) → Watched I → StreamPlace
stream_place remaining reader = record { left = remaining reader.inner; read = reader.read }

-- each read between these two values of a reader was of such a size
pub record EachRead {R : Type 0} (Size : ℕ → Type 0) (old new : Watched R) : Type 0 where
  pub sizes : List ℕ
  pub reads : new.asked ≡ old.asked ++ sizes
  pub each : All Size sizes
