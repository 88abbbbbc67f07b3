-- The text of a slave's answers.
use Rattle.std.specs.Prelude.{ℕ, List, [], ◌∷◌, ◌++◌, flat_map, codes, decimal}
use Rattle.hex.specs.Hex.{encode_upper}
use Rattle.xcp_slave.specs.Outcomes.{Answer}
use Rattle.xcp_slave.specs.declared.Outcome.TheVariants as answers
use Rattle.xcp_slave.specs.declared.Exchange.{Exchange}

-- packets in upper-case hex, one space (32) between them
abbrev pub packets_text : List (List ℕ) → List ℕ
packets_text [] = []
packets_text (p ∷ ps) = encode_upper p ++ flat_map (λ q. 32 ∷ encode_upper q) ps

-- what an answer's line says: its packets, or words
abbrev pub words_of_answer : Answer → List ℕ
words_of_answer answers.Silent = codes "-"
words_of_answer (answers.Packets packets) = packets_text packets
words_of_answer (answers.Sampled n) = codes "sampled " ++ decimal n
words_of_answer answers.Overrun = codes "overrun"
words_of_answer answers.NoChannel = codes "no channel"
words_of_answer answers.BadSignals = codes "bad signals"
words_of_answer answers.Nothing = codes "nothing"
words_of_answer (answers.Stored n) = codes "stored " ++ decimal n
words_of_answer answers.NoStore = codes "no store"
words_of_answer answers.Later = codes "later"

-- an answer's line, with the line feed (10) that ends it
unfoldable pub text_of : Answer → List ℕ
text_of answer = words_of_answer answer ++ 10 ∷ []

-- the lines of the exchanges' answers, in order
abbrev pub answers_text : List Exchange → List ℕ
answers_text exchanges = flat_map (λ x. text_of x.answer) exchanges
