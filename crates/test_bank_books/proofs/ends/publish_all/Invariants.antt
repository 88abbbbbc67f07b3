use Rattle.std.proofs.Common.{◌≡◌}
use Rattle.test_bank_books.proofs.ends.publish_all.Given as goal

abbrev pub invariant-loop-byte : goal.invariant-loop-byte
invariant-loop-byte l = l.writer.bank ≡ l.fn.writer.bank
