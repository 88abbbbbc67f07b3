use Rattle.std.proofs.Common.{◌≡◌, ◌≤◌, ◌+◌, ◌++◌, ℕ, List, length}
use mathlib.Core.List.{IsPrefix}
use Rattle.xcp_script.specs.private.LineReading.{asked_before, faulty_from, lines_from}
use Rattle.xcp_slave.specs.Run.{requests_of}
use Rattle.xcp_slave.specs.SlaveValue.{layout_of}
use Rattle.xcp_script.specs.AnswerText.{answers_text}
use Rattle.xcp_script.proofs.script.Pending.feed.Given as goal

abbrev pub invariant-loop-end : goal.invariant-loop-end
invariant-loop-end l = record {
  asked : (rest : List ℕ) → requests_of l.desk.exchanges ++ asked_before l.max_cto (lines_from l.self.liner.held.items (l.left ++ rest)) ≡ requests_of l.fn.desk.exchanges ++ asked_before l.max_cto (lines_from l.fn.self.liner.held.items (l.piece ++ rest));
  fine : (rest : List ℕ) → faulty_from l.max_cto l.self.count (lines_from l.self.liner.held.items (l.left ++ rest)) ≡ faulty_from l.max_cto l.fn.self.count (lines_from l.fn.self.liner.held.items (l.piece ++ rest));
  text : (before : List ℕ) → before ++ l.fn.texts.items ≡ answers_text l.fn.desk.exchanges → before ++ l.texts.items ≡ answers_text l.desk.exchanges;
  kept : (text : List ℕ) → IsPrefix text (answers_text l.fn.desk.exchanges) → IsPrefix text (answers_text l.desk.exchanges);
  layout : layout_of l.desk.slave ≡ layout_of l.fn.desk.slave;
  counted : l.self.count + length l.left ≤ l.fn.self.count + length l.piece;
}

abbrev pub decreases-loop-end : goal.decreases-loop-end
decreases-loop-end l = length l.left
