use Rattle.std.proofs.Common.{◌≡◌, ◌≤◌, length, take, vec_len, vec_capacity}
use Rattle.pin_core.specs.State.{width}
use Rattle.pin_core.specs.Steps.{Runs}
use Rattle.pin_core.proofs.runs.run.Given as goal

-- the events so far have happened, and their answers are there, with room for the rest
abbrev pub invariant-loop-index : goal.invariant-loop-index
invariant-loop-index l = record {
  ran : Runs (width l.fn.core) l.fn.core (take l.index l.events) l.answers.items l.core;
  same : width l.core ≡ width l.fn.core;
  many : vec_len l.answers ≡ l.index;
  room : length l.events ≤ vec_capacity l.answers;
}
