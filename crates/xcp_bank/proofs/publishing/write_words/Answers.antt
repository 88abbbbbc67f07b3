use Rattle.std.proofs.Common.{◌≡◌, ℕ, ◌+◌, ◌-◌, ◌*◌, ◌/◌, ◌<◌, ◌≤◌, List, [], take, get_or, arith, subst, length, length-take, refl, sym, ap, ◌∙◌}
use Rattle.xcp_bank.specs.SeatKnowledge.{Writing}
use Rattle.xcp_bank.specs.private.ImageWords.{words_for}
use Rattle.xcp_bank.specs.private.SeatSteps.{IsWriterSeat, WrittenSoFar, filled}
use Rattle.xcp_bank.proofs.ImageLemmas.{for_length, for_word}
use Rattle.xcp_bank.proofs.WriterSeatLemmas.{desks_one}
use Rattle.xcp_bank.proofs.PublishStepLemmas.{so_far_to, kept, so_far_put}
use Rattle.xcp_bank.proofs.publishing.write_words.Goals as goal

-- a buffer has a word for each of the image's, and one more
wide : (W : ℕ) (image : List ℕ) (number : ℕ) → 1 < W → length image ≡ 8 * (W - 1) → (length (words_for image number) ≡ W) × (length image / 8 + 1 ≡ W)
wide W image number some size = let l = for_length image number in (omega arith, omega arith)

-- as many words were written at most
few : (words : List ℕ) (done k : ℕ) → done ≤ k → length (take done words) ≤ k
few words done k le = let t = length-take done words in omega arith

pub loop-k-init : goal.loop-k-init
loop-k-init c = λ number w s. s

pub stands-requires-clause-word : goal.stands-requires-clause-word
stands-requires-clause-word c =
    let some = c.requires.seat.2.sits.wide.some in let size = c.requires.size in let l = c.loop-k-test.true in let m = c.requires.inside in omega arith

pub stands-requires-clause-seat : goal.stands-requires-clause-seat
stands-requires-clause-seat c =
    let f = c.requires.seat in let i = c.loop-k.invariant f.0 f.1 f.2 in
    (filled (take i.done (words_for c.args.image.now f.0)) i.all i.history f.1, i.sits)

pub loop-k-preserved-then-stands : goal.loop-k-preserved-then-stands
loop-k-preserved-then-stands c = λ number w s.
    let k : ℕ = c.loop-k.k in let i = c.loop-k.invariant number w s in
    let ws : List ℕ = words_for c.args.image.now number in
    let some = i.sits.wide.some in let size = c.requires.size in let l = c.loop-k-test.true in let m = c.requires.inside in
    let both = wide c.args.board.now.slots c.args.image.now number some size in
    let v = filled (take i.done ws) i.all i.history w in
    let p = c.stands.ensures v i.sits in
    let word : c.word_at-word.result ≡ get_or ws k 0 = c.word_at-word.ensures ∙ sym (for_word c.args.image.now number k (omega arith)) in
    so_far_to c.args.board.now c.args.buffer ws both.0 w c.loop-k.token c.stands.new.token k (k + 1) i (subst (IsWriterSeat c.stands.new.token c.args.board.now) p.2.0 p.1) (omega arith)
    (λ j from below. (let same : k ≡ j = omega arith in subst (λ (n : ℕ). get_or (get_or i.all c.args.buffer []) n 0 ≡ get_or ws n 0) same (p.2.1 c.if-stands.true ∙ word)))

pub keep_words-requires-clause-word : goal.keep_words-requires-clause-word
keep_words-requires-clause-word c =
    let some = c.requires.seat.2.sits.wide.some in let size = c.requires.size in let l = c.loop-k-test.true in let m = c.requires.inside in omega arith

pub keep_words-requires-clause-seat : goal.keep_words-requires-clause-seat
keep_words-requires-clause-seat c =
    let f = c.requires.seat in let i = c.loop-k.invariant f.0 f.1 f.2 in
    let ws : List ℕ = words_for c.args.image.now f.0 in
    let v = filled (take i.done ws) i.all i.history f.1 in
    let p = c.stands.ensures v i.sits in
    (v, subst (IsWriterSeat c.stands.new.token c.args.board.now) p.2.0 p.1, i.building, few ws i.done c.loop-k.k i.low)

pub put_word-requires-clause-word : goal.put_word-requires-clause-word
put_word-requires-clause-word c =
    let some = c.requires.seat.2.sits.wide.some in let size = c.requires.size in let l = c.loop-k-test.true in let m = c.requires.inside in omega arith

pub put_word-requires-clause-differs : goal.put_word-requires-clause-differs
put_word-requires-clause-differs c = λ z d inside same.
    let number : ℕ = c.requires.seat.0 in let w : Writing = c.requires.seat.1 in let i = c.loop-k.invariant number w c.requires.seat.2 in
    let k : ℕ = c.loop-k.k in
    let ws : List ℕ = words_for c.args.image.now number in
    let some = i.sits.wide.some in let size = c.requires.size in let l = c.loop-k-test.true in let m = c.requires.inside in
    let both = wide c.args.board.now.slots c.args.image.now number some size in
    let v = filled (take i.done ws) i.all i.history w in
    let p = c.stands.ensures v i.sits in
    let u = c.keep_words.ensures v (subst (IsWriterSeat c.stands.new.token c.args.board.now) p.2.0 p.1) in
    let s = kept c.args.board.now c.args.buffer ws both.0 w c.loop-k.token c.keep_words.new.token k (k - length (take i.done ws)) i u.0 (omega arith) refl u.2 u.1 in
    let known : filled (take k ws) i.all s.history w ≡ z = desks_one c.keep_words.new.token c.args.board.now (filled (take k ws) i.all s.history w) z s.sits d in
    p.2.2 c.if-stands.false (ap (λ (y : Writing). get_or (get_or y.words c.args.buffer []) k 0) known ∙ same)

pub put_word-requires-clause-seat : goal.put_word-requires-clause-seat
put_word-requires-clause-seat c =
    let number : ℕ = c.requires.seat.0 in let w : Writing = c.requires.seat.1 in let i = c.loop-k.invariant number w c.requires.seat.2 in
    let k : ℕ = c.loop-k.k in
    let ws : List ℕ = words_for c.args.image.now number in
    let some = i.sits.wide.some in let size = c.requires.size in let l = c.loop-k-test.true in let m = c.requires.inside in
    let both = wide c.args.board.now.slots c.args.image.now number some size in
    let v = filled (take i.done ws) i.all i.history w in
    let p = c.stands.ensures v i.sits in
    let u = c.keep_words.ensures v (subst (IsWriterSeat c.stands.new.token c.args.board.now) p.2.0 p.1) in
    let s = kept c.args.board.now c.args.buffer ws both.0 w c.loop-k.token c.keep_words.new.token k (k - length (take i.done ws)) i u.0 (omega arith) refl u.2 u.1 in
    (filled (take k ws) i.all s.history w, s.sits, i.building, (let t = length-take k ws in let n = both.0 in omega arith))

pub loop-k-preserved : goal.loop-k-preserved
loop-k-preserved c = λ number w given.
    let i = c.loop-k.invariant number w given in
    let k : ℕ = c.loop-k.k in
    let ws : List ℕ = words_for c.args.image.now number in
    let some = i.sits.wide.some in let size = c.requires.size in let l = c.loop-k-test.true in let m = c.requires.inside in
    let both = wide c.args.board.now.slots c.args.image.now number some size in
    let v = filled (take i.done ws) i.all i.history w in
    let p = c.stands.ensures v i.sits in
    let u = c.keep_words.ensures v (subst (IsWriterSeat c.stands.new.token c.args.board.now) p.2.0 p.1) in
    let s = kept c.args.board.now c.args.buffer ws both.0 w c.loop-k.token c.keep_words.new.token k (k - length (take i.done ws)) i u.0 (omega arith) refl u.2 u.1 in
    let q = c.put_word.ensures (filled (take k ws) i.all s.history w) s.sits in
    let word : c.word_at-word.result ≡ get_or ws k 0 = c.word_at-word.ensures ∙ sym (for_word c.args.image.now number k (omega arith)) in
    (so_far_put c.args.board.now c.args.buffer ws both.0 w c.keep_words.new.token c.put_word.new.token k c.word_at-word.result s q.0 c.requires.buffer (omega arith) refl word q.2 q.1).0

pub returns : goal.returns
returns c = λ number w s.
    let order = c.requires.order in let a = c.loop-k-test.false in let b = c.loop-k.auto.k-end in
    let at : c.loop-k.k ≡ c.args.to = omega arith in
    subst (λ (k : ℕ). WrittenSoFar c.args.board.now c.loop-k.token c.args.buffer k (words_for c.args.image.now number) w) at (c.loop-k.invariant number w s)
