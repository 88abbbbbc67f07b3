-- Exchanges that come one after another, and what is written of them.
use Rattle.std.proofs.Common.{◌≡◌, ◌≢◌, Option, ◌≤◌, ◌+◌, ℕ, List, [], ◌∷◌, ◌++◌, All, OnOk, length, Result, Ok, Err, IfErr, IsErrAnd, refl, sym, ap, ◌∙◌, arith, append_assoc, length-append}
use Rattle.std.proofs.lemmas.List.{append-nil}
use Rattle.std.proofs.lemmas.Grind.{flat_map-append}
use Rattle.std.proofs.lemmas.List.Elements.{All-append}
use Rattle.xcp_slave.specs.declared.Exchange.{Exchange}
use Rattle.xcp_slave.specs.declared.Request.TheVariants as requests
use Rattle.xcp_framing.specs.declared.serving.ServeError.{ServeError}
use Rattle.xcp_framing.specs.declared.serving.ServeError.TheVariants as errors
use Rattle.xcp_framing.specs.declared.station.StationError.{StationError}
use Rattle.xcp_framing.specs.declared.station.StationError.TheVariants as refusals
use Rattle.std.specs.Io.KnownBytes.{Appends}
use Rattle.xcp_framing.specs.FrameOutput.{Gathers, Output, Sends}
use Rattle.xcp_framing.specs.Wire.{wire_from, frame_bytes}
use Rattle.xcp_framing.specs.Serve.{packets_in_answer, packets_in_answers, GavePacket, AnswersAll, AnswersStart, AnswersPart, AnswersSoFar, most_drains, refused_with}
use Rattle.xcp_framing.specs.ServeParts.{IsInterruption}
use Rattle.xcp_framing.specs.private.GrowingOutput.{OutputGrows, DrainsSoFar, EndsPiece, fine}
use Rattle.xcp_framing.specs.Prefix.{AppendsFront}
use Rattle.xcp_framing.proofs.FrameOutputLemmas.{gathers_more, gathers_none, sends_flushed, sends_more, sends_none, sends_unflushed}

-- frames behind frames
pub wire_from-append : (k : ℕ) (ps qs : List (List ℕ)) → wire_from k (ps ++ qs) ≡ wire_from k ps ++ wire_from (k + length ps) qs
wire_from-append k [] qs = ap (λ (n : ℕ). wire_from n qs) (omega arith)
wire_from-append k (p ∷ ps) qs =
    ap (λ (t : List ℕ). frame_bytes k p ++ t) (wire_from-append (k + 1) ps qs)
    ∙ sym (append_assoc (frame_bytes k p) (wire_from (k + 1) ps) (wire_from ((k + 1) + length ps) qs))
    ∙ ap (λ (n : ℕ). (frame_bytes k p ++ wire_from (k + 1) ps) ++ wire_from n qs) (omega arith)

-- the packets of exchanges behind exchanges are those of the first, and then those of the others
pub packets_of-append : (xs ys : List Exchange) → packets_in_answers (xs ++ ys) ≡ packets_in_answers xs ++ packets_in_answers ys
packets_of-append xs ys = flat_map-append (λ (x : Exchange). packets_in_answer x.answer) xs ys

-- a fact that holds where a call succeeded gives there what follows from it
pub on_ok : {A P Q : Type 0} (r : Result A ServeError) → OnOk r P → (P → Q) → OnOk r Q
on_ok (Ok v) h f = f h
on_ok (Err e) h f = tt

-- what holds anyway holds where a call succeeded
pub on_any : {A P : Type 0} (r : Result A ServeError) → P → OnOk r P
on_any (Ok v) h = h
on_any (Err e) h = tt

-- a list with a first element isn't empty
pub cons≢nil : {A : Type 0} {x : A} {xs : List A} → ◌≡◌ {A = List A} (x ∷ xs) [] → ⊥
cons≢nil h = cc

-- no exchange yet
pub grows_none : (Fact : List Exchange → Type 0) (old : List Exchange) (a : Output) (from : ℕ) → Fact [] → OutputGrows fine Fact old old a a from from
grows_none Fact old a from h = record {
  exchanges = [];
  grown = sym (append-nil old);
  fact = h;
  sends = gathers_none a;
  counts = omega arith;
}

-- exchanges behind exchanges
pub grows_more : {A : Type 0} (r : Result A ServeError) {F G H : List Exchange → Type 0} {old mid new : List Exchange} {a b c : Output} {from at to : ℕ}
    → OutputGrows fine F old mid a b from at → OutputGrows r G mid new b c at to → ((xs ys : List Exchange) → F xs → G ys → H (xs ++ ys)) → OutputGrows r H old new a c from to
grows_more r {old = old} {a = a} {b = b} {c = c} {from = from} {at = at} {to = to} x y join =
    let xs = x.exchanges in
    let ys = y.exchanges in
    let counted : at ≡ from + length (packets_in_answers xs) = x.counts in
    let text : wire_from from (packets_in_answers (xs ++ ys)) ≡ wire_from from (packets_in_answers xs) ++ wire_from at (packets_in_answers ys) =
    ap (wire_from from) (packets_of-append xs ys) ∙ wire_from-append from (packets_in_answers xs) (packets_in_answers ys) ∙ ap (λ (n : ℕ). wire_from from (packets_in_answers xs) ++ wire_from n (packets_in_answers ys)) (sym counted) in
    record {
      exchanges = xs ++ ys;
      grown = y.grown ∙ ap (λ (z : List Exchange). z ++ ys) x.grown ∙ append_assoc old xs ys;
      fact = join xs ys x.fact y.fact;
      sends = rw text (sends_more r a b c (wire_from from (packets_in_answers xs)) (wire_from at (packets_in_answers ys)) x.sends y.sends);
      counts = on_ok r y.counts (λ (h : to ≡ at + length (packets_in_answers ys)). omega (arith, h, counted, ap (λ (ps : List (List ℕ)). length ps) (packets_of-append xs ys), length-append (packets_in_answers xs) (packets_in_answers ys)));
    }

-- one exchange with no packet
pub grows_unsent : {old new : List Exchange} (x : Exchange) (a : Output) (from : ℕ) → new ≡ old ++ x ∷ [] → packets_in_answer x.answer ≡ [] → OutputGrows fine (λ xs. xs ≡ x ∷ []) old new a a from from
grows_unsent x a from h e =
    let none : packets_in_answers (x ∷ []) ≡ [] = rw e refl in
    record {
      exchanges = x ∷ [];
      grown = h;
      fact = refl;
      sends = rw none (gathers_none a);
      counts = rw none (omega arith);
    }

-- one exchange, and its packets sent
pub grows_sent : {A : Type 0} (r : Result A ServeError) {old new : List Exchange} (x : Exchange) {a b : Output} {from to : ℕ}
    → new ≡ old ++ x ∷ [] → Sends r a b (wire_from from (packets_in_answer x.answer)) → OnOk r (to ≡ from + length (packets_in_answer x.answer)) → OutputGrows r (λ xs. xs ≡ x ∷ []) old new a b from to
grows_sent r x {from = from} {to = to} h w k =
    let all : packets_in_answers (x ∷ []) ≡ packets_in_answer x.answer = append-nil (packets_in_answer x.answer) in
    record {
      exchanges = x ∷ [];
      grown = h;
      fact = refl;
      sends = rw all w;
      counts = on_ok r k (λ (j : to ≡ from + length (packets_in_answer x.answer)). rw all j);
    }

-- a request that the station refused
pub grows_refused : {A : Type 0} (r : Result A ServeError) {Fact : List Exchange → Type 0} {old new : List Exchange} (a : Output) {from : ℕ} → Fact [] → new ≡ old → OutputGrows r Fact old new a a from from
grows_refused r {old = old} a {from} f h = record {
  exchanges = [];
  grown = h ∙ sym (append-nil old);
  fact = f;
  sends = sends_none r a;
  counts = on_any r (omega arith);
}

-- what `?` passes on
pub passed_on : {A : Type 0} (r : Result A ServeError) (e : ServeError) → IsErrAnd r (λ x. x ≡ e) → r ≡ Err e
passed_on (Ok v) e h = absurd h
passed_on (Err x) e h = ap Err h

-- one more Drain that gave a packet
pub drains_one : (k : ℕ) (x : Exchange) → x.request ≡ requests.Drain → packets_in_answer x.answer ≢ []
    → (xs ys : List Exchange) → All GavePacket xs × (length xs ≡ k) → ys ≡ x ∷ [] → All GavePacket (xs ++ ys) × (length (xs ++ ys) ≡ k + 1)
drains_one k x q gave xs ys h e =
    let one : GavePacket x = record { drain = q; gave = gave } in
    let all : All GavePacket (x ∷ []) = λ i d b. let first : i ≡ 0 = omega (arith, b) in rw first one in
    (rw e (All-append GavePacket xs (x ∷ []) h.0 all), omega (arith, h.1, length-append xs ys, ap (λ (zs : List Exchange). length zs) e))

-- what was sent of a front is a front of the whole
pub front_longer : (before after : Option (List ℕ)) (t more : List ℕ) → AppendsFront before after t → AppendsFront before after (t ++ more)
front_longer before after t more h = record {
  written = h.written;
  grown = h.grown;
  front = (h.front.0 ++ more, sym (append_assoc h.written h.front.0 more) ∙ ap (λ (z : List ℕ). z ++ more) h.front.1);
}

-- packets that were sent, one more behind them, and the others of a block
pub record SentPart (a b : Output) (from to : ℕ) (packets left : List (List ℕ)) : Type 0 where
  pub done : List (List ℕ)
  pub joined : packets ≡ done ++ left
  pub sends : Gathers a b (wire_from from done)
  pub counts : to ≡ from + length done

-- nothing is sent yet, and all packets are left
pub part_begun : (a : Output) (from : ℕ) (packets : List (List ℕ)) → SentPart a a from from packets packets
part_begun a from packets = record { done = []; joined = refl; sends = gathers_none a; counts = omega arith }

text_of_part : (from at : ℕ) (done : List (List ℕ)) (p : List ℕ) → at ≡ from + length done → wire_from from (done ++ p ∷ []) ≡ wire_from from done ++ wire_from at (p ∷ [])
text_of_part from at done p e = wire_from-append from done (p ∷ []) ∙ ap (λ (n : ℕ). wire_from from done ++ wire_from n (p ∷ [])) (sym e)

-- where the first packet that is left is sent with its number, those behind it are left, and one more is counted
pub part_more_sent : {a b c : Output} {from at to : ℕ} {packets left : List (List ℕ)} (p : List ℕ) (rest : List (List ℕ)) → SentPart a b from at packets left → left ≡ p ∷ rest → Gathers b c (wire_from at (p ∷ [])) → to ≡ at + 1 → SentPart a c from to packets rest
part_more_sent {a = a} {b = b} {c = c} {from = from} {at = at} p rest k e w n = record {
  done = k.done ++ p ∷ [];
  joined = k.joined ∙ ap (λ (z : List (List ℕ)). k.done ++ z) e ∙ sym (append_assoc k.done (p ∷ []) rest);
  sends = rw (text_of_part from at k.done p k.counts) (gathers_more a b c (wire_from from k.done) (wire_from at (p ∷ [])) k.sends w);
  counts = omega (arith, n, k.counts, length-append k.done (p ∷ []));
}

-- the last packet
pub part_last : {A : Type 0} (r : Result A ServeError) {a b : Output} (c : Output) {from at : ℕ} {packets left : List (List ℕ)} (p : List ℕ) → SentPart a b from at packets left → left ≡ p ∷ [] → Sends r b c (wire_from at (p ∷ [])) → Sends r a c (wire_from from packets)
part_last r {a = a} {b = b} c {from = from} {at = at} p k e w =
    let text : wire_from from (k.done ++ p ∷ []) ≡ wire_from from k.done ++ wire_from at (p ∷ []) = text_of_part from at k.done p k.counts in
    let all = k.joined ∙ ap (λ (z : List (List ℕ)). k.done ++ z) e in
    rw (all, text) (sends_more r a b c (wire_from from k.done) (wire_from at (p ∷ [])) k.sends w)

-- the number behind the next packet and how many are left behind it add up to the first number and how many packets there are
pub part_counted : {from at to : ℕ} {a b : Output} {packets left : List (List ℕ)} (p : List ℕ) (rest : List (List ℕ)) → SentPart a b from at packets left → left ≡ p ∷ rest → to ≡ at + 1 → to + length rest ≡ from + length packets
part_counted p rest k e n =
    omega (arith, n, k.counts, ap (λ (z : List (List ℕ)). length z) (k.joined ∙ ap (λ (z : List (List ℕ)). k.done ++ z) e), length-append k.done (p ∷ rest))

-- while a packet is left, the number behind it is at most the first number and how many packets there are, added up
pub part_room : {from at : ℕ} {a b : Output} {packets left : List (List ℕ)} (p : List ℕ) (rest : List (List ℕ)) → SentPart a b from at packets left → left ≡ p ∷ rest → at + 1 ≤ from + length packets
part_room p rest k e =
    omega (arith, k.counts, ap (λ (z : List (List ℕ)). length z) (k.joined ∙ ap (λ (z : List (List ℕ)). k.done ++ z) e), length-append k.done (p ∷ rest))

-- of a packet in the middle a front was written
pub part_cut : (A : Type 0) {a b : Output} (c : Output) {from at : ℕ} {packets left : List (List ℕ)} (e : ServeError) (p : List ℕ) (rest : List (List ℕ)) → SentPart a b from at packets left → left ≡ p ∷ rest → e ≡ errors.Write
    → Sends {A = A} (Err e) b c (wire_from at (p ∷ [])) → Sends {A = A} (Err e) a c (wire_from from packets)
part_cut A {a} {b} c {from} {at} {packets} e p rest k h w s =
    let t : wire_from from packets ≡ (wire_from from k.done ++ wire_from at (p ∷ [])) ++ wire_from (from + length (k.done ++ p ∷ [])) rest =
    ap (wire_from from) (k.joined ∙ ap (λ (z : List (List ℕ)). k.done ++ z) h ∙ sym (append_assoc k.done (p ∷ []) rest)) ∙ wire_from-append from (k.done ++ p ∷ []) rest
    ∙ ap (λ (x : List ℕ). x ++ wire_from (from + length (k.done ++ p ∷ [])) rest) (text_of_part from at k.done p k.counts) in
    let sent : AppendsFront b.contents c.contents (b.held ++ wire_from at (p ∷ [])) = (rw w at s) in
    let short : AppendsFront a.contents c.contents (a.held ++ (wire_from from k.done ++ wire_from at (p ∷ []))) = sends_more {A = A} (Err errors.Write) a b c (wire_from from k.done) (wire_from at (p ∷ [])) k.sends sent in
    let long = front_longer a.contents c.contents (a.held ++ (wire_from from k.done ++ wire_from at (p ∷ []))) (wire_from (from + length (k.done ++ p ∷ [])) rest) short in
    rw (w, t) (rw append_assoc at long)

-- before the first packet's command
pub part_none : (packets : List (List ℕ)) → AnswersPart packets []
part_none packets = record {
  done = [];
  next = packets;
  full = [];
  cut = [];
  packets_are = refl;
  joined = refl;
  answered = refl;
  begun = tt;
}

-- no exchange at all is what was answered so far, where the station refused a request
pub answers_none : (e : StationError) (packets : List (List ℕ)) → AnswersSoFar {A = Unit {0}} (Err (refused_with e)) packets []
answers_none refusals.Memory packets = part_none packets
answers_none refusals.JournalFull packets = part_none packets

-- a command, and Drains behind it
pub part_one : (p : List ℕ) (x : Exchange) (ys : List Exchange) → x.request ≡ requests.Command (record { items = p }) → All GavePacket ys × (length ys ≤ most_drains) → AnswersPart (p ∷ []) (x ∷ ys)
part_one p x ys q d = record {
  done = [];
  next = p ∷ [];
  full = [];
  cut = x ∷ ys;
  packets_are = refl;
  joined = refl;
  answered = refl;
  begun = (q, d.0, d.1);
}

-- a command and the Drains behind it answer one packet, all of it or up to an interruption
pub answers_one : {A : Type 0} (r : Result A ServeError) (p : List ℕ) (x : Exchange) → x.request ≡ requests.Command (record { items = p }) → IfErr r IsInterruption
    → (xs ys : List Exchange) → xs ≡ x ∷ [] → DrainsSoFar r ys → AnswersSoFar r (p ∷ []) (xs ++ ys)
answers_one (Ok v) p x q i xs ys e d = rw e (x ∷ ys, [], sym (append-nil (x ∷ ys)), record { command = x; drains = ys; joined = refl; asked = q; drained = d }, refl)
answers_one (Err errors.Write) p x q i xs ys e d = rw e (part_one p x ys q d)
answers_one (Err errors.Memory) p x q i xs ys e d = rw e (part_one p x ys q d)
answers_one (Err errors.JournalFull) p x q i xs ys e d = rw e (part_one p x ys q d)
answers_one (Err errors.NoRoom) p x q i xs ys e d = rw e (part_one p x ys q d)
answers_one (Err errors.Read) p x q i xs ys e d = absurd i
answers_one (Err (errors.BadLength n)) p x q i xs ys e d = absurd i
answers_one (Err errors.Truncated) p x q i xs ys e d = absurd i
answers_one (Err errors.TurnsSpent) p x q i xs ys e d = absurd i

-- packets answered, and then more
pub answers_all_more : (ps qs : List (List ℕ)) (xs ys : List Exchange) → AnswersAll ps xs → AnswersAll qs ys → AnswersAll (ps ++ qs) (xs ++ ys)
answers_all_more [] qs xs ys h k = rw h k
answers_all_more (p ∷ ps) qs xs ys h k =
    let e : xs ++ ys ≡ h.0 ++ (h.1 ++ ys) = ap (λ (z : List Exchange). z ++ ys) h.2 ∙ append_assoc h.0 h.1 ys in
    (h.0, h.1 ++ ys, e, h.3, answers_all_more ps qs h.1 ys h.4 k)

-- packets that were answered, and others answered in part, are answered in part together
pub part_more : (ps qs : List (List ℕ)) (xs ys : List Exchange) → AnswersAll ps xs → AnswersPart qs ys → AnswersPart (ps ++ qs) (xs ++ ys)
part_more ps qs xs ys h k = record {
  done = ps ++ k.done;
  next = k.next;
  full = xs ++ k.full;
  cut = k.cut;
  packets_are = ap (λ (z : List (List ℕ)). ps ++ z) k.packets_are ∙ sym (append_assoc ps k.done k.next);
  joined = ap (λ (z : List Exchange). xs ++ z) k.joined ∙ sym (append_assoc xs k.full k.cut);
  answered = answers_all_more ps k.done xs k.full h k.answered;
  begun = k.begun;
}

-- all packets answered is a part too
part_all : (packets : List (List ℕ)) (xs : List Exchange) → AnswersAll packets xs → AnswersPart packets xs
part_all packets xs h = record {
  done = packets;
  next = [];
  full = xs;
  cut = [];
  packets_are = sym (append-nil packets);
  joined = sym (append-nil xs);
  answered = h;
  begun = tt;
}

-- packets answered so far are answered in part, whatever the result
pub part_of : {A : Type 0} (r : Result A ServeError) (packets : List (List ℕ)) (xs : List Exchange) → AnswersSoFar r packets xs → AnswersPart packets xs
part_of (Ok v) packets xs h = part_all packets xs h
part_of (Err errors.Write) packets xs h = h
part_of (Err errors.Memory) packets xs h = h
part_of (Err errors.JournalFull) packets xs h = h
part_of (Err errors.NoRoom) packets xs h = h
part_of (Err errors.Read) packets xs h = part_all packets xs h
part_of (Err (errors.BadLength n)) packets xs h = part_all packets xs h
part_of (Err errors.Truncated) packets xs h = part_all packets xs h
part_of (Err errors.TurnsSpent) packets xs h = part_all packets xs h

-- what is held is written
pub grows_flushed : {A : Type 0} (r : Result A ServeError) {Fact : List Exchange → Type 0} {old new : List Exchange} {a b : Output} (c : Output) {from to : ℕ}
    → OutputGrows r Fact old new a b from to → (r ≡ Err errors.Write → b.held ≡ []) → Appends b.contents c.contents b.held → c.held ≡ [] → OutputGrows r Fact old new a c from to
grows_flushed r {a = a} {b = b} c x n h e = record {
  exchanges = x.exchanges;
  grown = x.grown;
  fact = x.fact;
  sends = sends_flushed r a b c _ x.sends n h e;
  counts = x.counts;
}

-- of what is held a front is written, and the call ends
pub grows_unflushed : {A : Type 0} (r : Result A ServeError) {packets : List (List ℕ)} {old new : List Exchange} {a b : Output} (c : Output) {from to : ℕ}
    → OutputGrows r (AnswersSoFar r packets) old new a b from to → (r ≡ Err errors.Write → b.held ≡ []) → AppendsFront b.contents c.contents b.held
    → OutputGrows {A = A} (Err errors.Write) (AnswersPart packets) old new a c from to
grows_unflushed r {packets = packets} {a = a} {b = b} c x n h = record {
  exchanges = x.exchanges;
  grown = x.grown;
  fact = part_of r packets x.exchanges x.fact;
  sends = sends_unflushed r a b c _ x.sends n h;
  counts = tt;
}

-- packets that come later don't matter to what was answered in part
pub start_before : (ps qs : List (List ℕ)) (xs : List Exchange) → AnswersStart ps xs → AnswersStart (ps ++ qs) xs
start_before ps qs [] h = tt
start_before [] qs (x ∷ xs) h = absurd h
start_before (p ∷ ps) qs (x ∷ xs) h = h

-- packets answered in part are so with later packets behind them
pub part_before : (ps qs : List (List ℕ)) (xs : List Exchange) → AnswersPart ps xs → AnswersPart (ps ++ qs) xs
part_before ps qs xs k = record {
  done = k.done;
  next = k.next ++ qs;
  full = k.full;
  cut = k.cut;
  packets_are = ap (λ (z : List (List ℕ)). z ++ qs) k.packets_are ∙ append_assoc k.done k.next qs;
  joined = k.joined;
  answered = k.answered;
  begun = start_before k.next qs k.cut k.begun;
}

-- packets answered, and then more or a part of more
pub answers_more : {A : Type 0} (r : Result A ServeError) (ps qs : List (List ℕ)) (xs ys : List Exchange) → AnswersAll ps xs → AnswersSoFar r qs ys → AnswersSoFar r (ps ++ qs) (xs ++ ys)
answers_more (Ok v) ps qs xs ys h k = answers_all_more ps qs xs ys h k
answers_more (Err errors.Write) ps qs xs ys h k = part_more ps qs xs ys h k
answers_more (Err errors.Memory) ps qs xs ys h k = part_more ps qs xs ys h k
answers_more (Err errors.JournalFull) ps qs xs ys h k = part_more ps qs xs ys h k
answers_more (Err errors.NoRoom) ps qs xs ys h k = part_more ps qs xs ys h k
answers_more (Err errors.Read) ps qs xs ys h k = answers_all_more ps qs xs ys h k
answers_more (Err (errors.BadLength n)) ps qs xs ys h k = answers_all_more ps qs xs ys h k
answers_more (Err errors.Truncated) ps qs xs ys h k = answers_all_more ps qs xs ys h k
answers_more (Err errors.TurnsSpent) ps qs xs ys h k = answers_all_more ps qs xs ys h k

-- an interruption leaves the packets that come later
pub answers_before : (A : Type 0) (e : ServeError) (ps qs : List (List ℕ)) (xs : List Exchange) → IsInterruption e → AnswersSoFar {A = A} (Err e) ps xs → AnswersSoFar {A = A} (Err e) (ps ++ qs) xs
answers_before A errors.Write ps qs xs i k = part_before ps qs xs k
answers_before A errors.Memory ps qs xs i k = part_before ps qs xs k
answers_before A errors.JournalFull ps qs xs i k = part_before ps qs xs k
answers_before A errors.NoRoom ps qs xs i k = part_before ps qs xs k
answers_before A errors.Read ps qs xs i k = absurd i
answers_before A (errors.BadLength n) ps qs xs i k = absurd i
answers_before A errors.Truncated ps qs xs i k = absurd i
answers_before A errors.TurnsSpent ps qs xs i k = absurd i

-- an interruption says nothing of the rest
pub ends_interrupted : (A : Type 0) (m : ℕ) (e : ServeError) (held left : List ℕ) → IsInterruption e → EndsPiece {A = A} m (Err e) held left
ends_interrupted A m errors.Write held left i = tt
ends_interrupted A m errors.Memory held left i = tt
ends_interrupted A m errors.JournalFull held left i = tt
ends_interrupted A m errors.NoRoom held left i = tt
ends_interrupted A m errors.Read held left i = absurd i
ends_interrupted A m (errors.BadLength n) held left i = absurd i
ends_interrupted A m errors.Truncated held left i = absurd i
ends_interrupted A m errors.TurnsSpent held left i = absurd i

-- packets that were put, and those of a block that are left
pub record PutPart (before after : List (List ℕ)) (count : ℕ) (packets left : List (List ℕ)) : Type 0 where
  pub done : List (List ℕ)
  pub joined : packets ≡ done ++ left
  pub put : after ≡ before ++ done
  pub counts : count ≡ length done

-- nothing is put yet, and all packets are left
pub put_begun : (a : List (List ℕ)) (packets : List (List ℕ)) → PutPart a a 0 packets packets
put_begun a packets = record { done = []; joined = refl; put = sym (append-nil a); counts = refl }

-- where the first packet that is left is put, those behind it are left, and one more is counted
pub put_more : {a b c : List (List ℕ)} {n : ℕ} {packets left : List (List ℕ)} (p : List ℕ) (rest : List (List ℕ)) → PutPart a b n packets left → left ≡ p ∷ rest → c ≡ b ++ p ∷ [] → PutPart a c (n + 1) packets rest
put_more {a = a} p rest k e w = record {
  done = k.done ++ p ∷ [];
  joined = k.joined ∙ ap (λ (z : List (List ℕ)). k.done ++ z) e ∙ sym (append_assoc k.done (p ∷ []) rest);
  put = w ∙ ap (λ (z : List (List ℕ)). z ++ p ∷ []) k.put ∙ append_assoc a k.done (p ∷ []);
  counts = omega (arith, k.counts, length-append k.done (p ∷ []));
}

-- all were put
pub put_all : {a b : List (List ℕ)} {n : ℕ} {packets : List (List ℕ)} → PutPart a b n packets [] → (b ≡ a ++ packets) × (n ≡ length packets)
put_all {a = a} {packets = packets} k =
    let all : packets ≡ k.done = k.joined ∙ append-nil k.done in
    (k.put ∙ ap (λ (z : List (List ℕ)). a ++ z) (sym all), k.counts ∙ ap (λ (z : List (List ℕ)). length z) (sym all))

-- while a packet is left, fewer were put than the block has
pub put_room : {a b : List (List ℕ)} {n : ℕ} {packets left : List (List ℕ)} (p : List ℕ) (rest : List (List ℕ)) → PutPart a b n packets left → left ≡ p ∷ rest → n + 1 ≤ length packets
put_room p rest k e =
    omega (arith, k.counts, ap (λ (z : List (List ℕ)). length z) (k.joined ∙ ap (λ (z : List (List ℕ)). k.done ++ z) e), length-append k.done (p ∷ rest))
