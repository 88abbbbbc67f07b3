-- When a store may be finished, where stored pages are kept on a shelf: once the chapter in which it was asked for lies there.
use Rattle.std.specs.Prelude.{◌<◌, ◌≡◌, ℕ, suc, ⊤, Bool, true, false, ◌&&◌, ◌||◌, ◌==◌, Option, Some, None, MatchOption, if◌then◌else◌}
use Rattle.xcp_slave.specs.Outcomes.{Answer}
use Rattle.xcp_slave.specs.declared.outcome.Outcome.TheVariants as answers
use Rattle.xcp_slave.specs.declared.request.Request.{Request}
use Rattle.xcp_service.specs.Sessions.{has_code, is_positive}

-- whether stored pages are kept on a shelf, and the number of the chapter in which a store was asked for, or pages were stored, last
pub record StoresValue : Type 0 where
  pub kept : Bool
  pub asked : Option ℕ

-- nobody has asked for a store yet
abbrev pub unasked : Bool → StoresValue
unasked kept = record { kept = kept; asked = None }

-- A SET_REQUEST was accepted.
-- (ASAM MCD-1 XCP, protocol layer: SET_REQUEST.)
abbrev pub asks_for_store : Request → Answer → Bool
asks_for_store request answer = has_code 0xF9 request && is_positive answer

-- pages of a segment were stored
abbrev pub has_stored : Answer → Bool
has_stored (answers.Stored (suc segments)) = true
has_stored _ = false

-- behind a call in the chapter of this number: it is the last one whose end has to lie on the shelf, where the call asks for a store or
-- pages were stored
abbrev pub asked_in : ℕ → Request → Answer → StoresValue → StoresValue
asked_in chapter request answer s = if asks_for_store request answer || has_stored answer then record s { asked = Some chapter } else s

-- The open chapter has to end, so that the shelf gets its pages: a store was asked for in it, or pages were stored.
abbrev pub is_number : ℕ → Option ℕ → Bool
is_number number None = false
is_number number (Some other) = other == number

abbrev pub wants_end : ℕ → StoresValue → Bool
wants_end chapter s = s.kept && is_number chapter s.asked

-- Where the first so many chapters lie on the shelf a store may be finished: no pages are kept, or that chapter is one of them.
abbrev pub MayFinish : ℕ → StoresValue → Type 0
MayFinish shelved s = s.kept ≡ true → MatchOption s.asked ⊤ (λ number. number < shelved)
