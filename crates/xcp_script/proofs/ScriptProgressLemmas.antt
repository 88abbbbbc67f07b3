-- A script in the middle: what was asked, and what is left of the input.
use Rattle.std.proofs.Common.{◌≡◌, ◌+◌, ℕ, List, [], ◌++◌, take, Option, Some, None, Result, Ok, Err, OnOk, refl, sym, ap, ◌∙◌, subst}
use Rattle.std.proofs.lemmas.List.{append-nil}
use Rattle.std.specs.Io.KnownBytes.{Consumes, IsAtEnd}
use Rattle.xcp_slave.specs.declared.Request.{Request}
use Rattle.xcp_script.specs.declared.script.LineError.{LineError}
use Rattle.xcp_script.specs.declared.script.LineError.TheVariants as ends
use Rattle.xcp_script.specs.declared.fault.ReplayError.{ReplayError}
use Rattle.xcp_script.specs.declared.fault.ReplayError.TheVariants as errors
use mathlib.Core.List.{IsPrefix}
use Rattle.xcp_script.specs.Lines.{unless_empty}
use Rattle.xcp_script.specs.private.LineReading.{asked_before, faulty_from, lines_from, OfRead}
use Rattle.xcp_script.specs.Replay.{asked, first_faulty, Replayed}
use Rattle.xcp_script.proofs.LineReadingLaws.{asked_is, faulty_is}

-- what was asked so far and what is left give what all of the input asks
abbrev pub Midway : ℕ → Option (List ℕ) → Option (List ℕ) → List ℕ → ℕ → List Request → Type 0
Midway m None now line count requests = Unit {0}
Midway m (Some input) None line count requests = ⊥
Midway m (Some input) (Some rest) line count requests =
    (requests ++ asked_before m (lines_from line rest) ≡ asked m (lines_from [] input))
    × (faulty_from m count (lines_from line rest) ≡ first_faulty m (lines_from [] input))

-- before a script's first piece nothing was asked, and all of the input is left
pub midway_init : (m : ℕ) (o : Option (List ℕ)) → Midway m o o [] 0 []
midway_init m None = tt
midway_init m (Some xs) = (asked_is m (lines_from [] xs), faulty_is m (lines_from [] xs))

-- a piece of the input
pub midway_step : (m : ℕ) (i o n : Option (List ℕ)) (chunk line line' : List ℕ) (count count' : ℕ) (requests requests' : List Request)
    → Midway m i o line count requests → Consumes o n chunk
    → ((rest : List ℕ) → requests' ++ asked_before m (lines_from line' rest) ≡ requests ++ asked_before m (lines_from line (chunk ++ rest)))
    → ((rest : List ℕ) → faulty_from m count' (lines_from line' rest) ≡ faulty_from m count (lines_from line (chunk ++ rest)))
    → Midway m i n line' count' requests'
midway_step m None o n chunk line line' count count' requests requests' h k a f = tt
midway_step m (Some input) None n chunk line line' count count' requests requests' h k a f = absurd h
midway_step m (Some input) (Some xs) None chunk line line' count count' requests requests' h k a f = absurd k
midway_step m (Some input) (Some xs) (Some ys) chunk line line' count count' requests requests' h k a f =
    (a ys ∙ rw k at h.0, f ys ∙ rw k at h.1)

-- a replay that ends between two pieces
pub midway_front : (m : ℕ) (i o : Option (List ℕ)) (line : List ℕ) (count : ℕ) (requests : List Request)
    → Midway m i o line count requests → OfRead i (λ lines. IsPrefix requests (asked m lines))
midway_front m None o line count requests h = tt
midway_front m (Some input) None line count requests h = absurd h
midway_front m (Some input) (Some rest) line count requests h = (asked_before m (lines_from line rest), h.0)

-- What was asked by some lines, by what became of them: all stands for what all lines ask, fault
-- for the first faulty one, and count is how many lines came before the faulty one of these.
record Outcome (outcome : Result (Unit {0}) LineError) (requests all : List Request) (fault : Option ℕ) (count : ℕ) : Type 0 where
  ok : OnOk outcome (IsPrefix requests all)
  faulty : outcome ≡ Err ends.Faulty → (requests ≡ all) × (fault ≡ Some (count + 1))
  memory : outcome ≡ Err ends.Memory → IsPrefix requests all

outcome_front : (outcome : Result (Unit {0}) LineError) (requests all : List Request) (fault : Option ℕ) (count : ℕ)
    → Outcome outcome requests all fault count → IsPrefix requests all
outcome_front (Ok u) requests all fault count h = h.ok
outcome_front (Err ends.Faulty) requests all fault count h = ([], append-nil requests ∙ (h.faulty refl).0)
outcome_front (Err ends.Memory) requests all fault count h = h.memory refl

-- which error it is that a faulty line makes
abbrev pub LineIs : Result (Unit {0}) LineError → ReplayError → ℕ → Type 0
LineIs outcome e count = (k : ℕ) → ◌≡◌ {A = Result (Unit {0}) ReplayError} (Err e) (Err (errors.Line k)) → (outcome ≡ Err ends.Faulty) × (k ≡ count + 1)

outcome_error : (m : ℕ) (lines : List (List ℕ)) (outcome : Result (Unit {0}) LineError) (requests : List Request) (count : ℕ) (e : ReplayError)
    → Outcome outcome requests (asked m lines) (first_faulty m lines) count → LineIs outcome e count
    → Replayed m lines (Err e) requests
outcome_error m lines outcome requests count (errors.Line k) h l =
    let at = l k refl in
    ((h.faulty at.0).1 ∙ ap (λ (n : ℕ). Some n) (sym at.1), (h.faulty at.0).0)
outcome_error m lines outcome requests count errors.Read h l = outcome_front outcome requests (asked m lines) (first_faulty m lines) count h
outcome_error m lines outcome requests count errors.Write h l = outcome_front outcome requests (asked m lines) (first_faulty m lines) count h
outcome_error m lines outcome requests count errors.Memory h l = outcome_front outcome requests (asked m lines) (first_faulty m lines) count h

on_ok : (r : Result (Unit {0}) LineError) (P Q : Type 0) → OnOk r P → (P → Q) → OnOk r Q
on_ok (Ok u) P Q h f = f h
on_ok (Err e) P Q h f = h

-- an error in a piece of the input
pub fed_error : (m : ℕ) (i o n : Option (List ℕ)) (chunk line line' : List ℕ) (count count' : ℕ) (requests requests' : List Request) (outcome : Result (Unit {0}) LineError) (e : ReplayError)
    → Midway m i o line count requests → Consumes o n chunk
    → OnOk outcome ((rest : List ℕ) → requests' ++ asked_before m (lines_from line' rest) ≡ requests ++ asked_before m (lines_from line (chunk ++ rest)))
    → (outcome ≡ Err ends.Faulty → (rest : List ℕ) → (requests' ≡ requests ++ asked_before m (lines_from line (chunk ++ rest))) × (faulty_from m count (lines_from line (chunk ++ rest)) ≡ Some (count' + 1)))
    → (outcome ≡ Err ends.Memory → (rest : List ℕ) → IsPrefix requests' (requests ++ asked_before m (lines_from line (chunk ++ rest))))
    → LineIs outcome e count'
    → OfRead i (λ lines. Replayed m lines (Err e) requests')
fed_error m None o n chunk line line' count count' requests requests' outcome e h k a f g l = tt
fed_error m (Some input) None n chunk line line' count count' requests requests' outcome e h k a f g l = absurd h
fed_error m (Some input) (Some xs) None chunk line line' count count' requests requests' outcome e h k a f g l = absurd k
fed_error m (Some input) (Some xs) (Some ys) chunk line line' count count' requests requests' outcome e h k a f g l =
    let all = rw k at h.0 in
    let fault = rw k at h.1 in
    outcome_error m (lines_from [] input) outcome requests' count' e (record {
      ok = on_ok outcome _ _ a (λ b. (asked_before m (lines_from line' ys), b ys ∙ all));
      faulty = λ q. ((f q ys).0 ∙ all, sym fault ∙ (f q ys).1);
      memory = λ q. subst (λ (qs : List Request). IsPrefix requests' qs) all (g q ys);
    }) l

-- a read of nothing at the end of the input
pub at_end : (o n : Option (List ℕ)) (length : ℕ) (bytes : List ℕ) → length ≡ 0 → Consumes o n (take length bytes) → IsAtEnd n → IsAtEnd o
at_end None n length bytes z h k = tt
at_end (Some xs) None length bytes z h k = absurd h
at_end (Some xs) (Some ys) length bytes z h k = (rw z at h) ∙ k

-- an error in the last line
pub last_error : (m : ℕ) (i o : Option (List ℕ)) (line : List ℕ) (count : ℕ) (requests requests' : List Request) (outcome : Result (Unit {0}) LineError) (e : ReplayError)
    → Midway m i o line count requests → IsAtEnd o
    → OnOk outcome (requests' ≡ requests ++ asked_before m (unless_empty line))
    → (outcome ≡ Err ends.Faulty → (requests' ≡ requests ++ asked_before m (unless_empty line)) × ((count : ℕ) → faulty_from m count (unless_empty line) ≡ Some (count + 1)))
    → (outcome ≡ Err ends.Memory → IsPrefix requests' (requests ++ asked_before m (unless_empty line)))
    → LineIs outcome e count
    → OfRead i (λ lines. Replayed m lines (Err e) requests')
last_error m None o line count requests requests' outcome e h k a f g l = tt
last_error m (Some input) None line count requests requests' outcome e h k a f g l = absurd h
last_error m (Some input) (Some xs) line count requests requests' outcome e h k a f g l =
    let all = rw k at h.0 in
    let fault = rw k at h.1 in
    outcome_error m (lines_from [] input) outcome requests' count e (record {
      ok = on_ok outcome _ _ a (λ b. ([], append-nil requests' ∙ b ∙ all));
      faulty = λ q. ((f q).0 ∙ all, sym fault ∙ (f q).1 count);
      memory = λ q. subst (λ (qs : List Request). IsPrefix requests' qs) all (g q);
    }) l

-- the same at an equal limit
pub at_limit : (m limit : ℕ) (i : Option (List ℕ)) (r : Result ℕ ReplayError) (requests : List Request) → m ≡ limit
    → OfRead i (λ lines. Replayed m lines r requests) → OfRead i (λ lines. Replayed limit lines r requests)
at_limit m limit i r requests h k = subst (λ (n : ℕ). OfRead i (λ lines. Replayed n lines r requests)) h k
