-- Scans of all buffers but the current one, and how many of these buffers weren't quiet.
use Rattle.std.specs.Prelude.{ℕ, zero, suc, ◌==◌, if◌then◌else◌, List, [], ◌∷◌, ◌++◌, slice_index}
use Rattle.xcp_bank.specs.PinHistory.{Deed, has_scanned}

-- the buffers below n but the current one, in order
abbrev pub others : ℕ → ℕ → List ℕ
others current zero = []
others current (suc b) = if b == current then others current b else others current b ++ b ∷ []

-- What a Scan found is the buffer, and how many pins of it were given back.

abbrev pub scanned_buffer : ℕ × ℕ → ℕ
scanned_buffer f = f.0

abbrev pub scan_of : ℕ × ℕ → Deed
scan_of f = has_scanned f.0 f.1

-- 1 where a buffer isn't quiet, by how many pins each one got: not as many were given back
abbrev pub unquiet : List ℕ → ℕ × ℕ → ℕ
unquiet started f = if slice_index started f.0 == f.1 then 0 else 1
