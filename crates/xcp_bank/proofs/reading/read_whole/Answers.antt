use Rattle.std.proofs.Common.{◌≡◌, ℕ, suc, ◌+◌, ◌-◌, ◌*◌, ◌%◌, get_or, ap, ◌∙◌, arith}
use Rattle.std.specs.Int.{w64, to_le_bytes}
use mathlib.Core.Logic.{dite}
use native.Mathlib.Decide.{dec_le}
use Rattle.xcp_bank.proofs.WordReadLemmas.{reads_one}
use Rattle.xcp_bank.proofs.reading.read_whole.Goals as goal

pub returns : goal.returns
returns c =
    let at : ℕ = c.args.at in let k : ℕ = c.args.k in let low = c.requires.from in let high = c.requires.to in
    let word : ℕ = c.read_word-word.result in
    reads_one c.args.board.now c.args.buffer at k word c.args.token.now c.read_word-word.new.token c.args.out.now c.put_whole.new.out c.read_word-word.ensures c.put_whole.ensures.size
    (λ j l here. c.put_whole.ensures.there j (omega arith) (omega arith) ∙ (let e : j - (8 * k - at) ≡ (at + j) % 8 = omega arith in ap (λ (m : ℕ). get_or (to_le_bytes w64 word) m 0) e))
    (λ j other. dite (dec_le (suc j) (8 * k - at))
    (λ before. c.put_whole.ensures.before j before)
    (λ past. c.put_whole.ensures.behind j (omega arith)))
    c.requires.inside
