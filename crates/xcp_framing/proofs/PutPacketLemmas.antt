-- What `serve_by` does, from how its packets are answered and put.
use Rattle.std.proofs.Common.{◌≡◌, ◌≢◌, ◌+◌, ℕ, List, [], ◌∷◌, ◌++◌, length, OnOk, IfOk, Result, Ok, Err, ◌⊎◌, inr, refl, sym, ap, ◌∙◌, subst, arith, append_assoc, length-append}
use Rattle.std.proofs.lemmas.List.{append-nil, map-append}
use Rattle.xcp_slave.specs.declared.Exchange.{Exchange}
use Rattle.xcp_slave.specs.declared.Request.{Request}
use Rattle.xcp_slave.specs.Run.{requests_of}
use Rattle.xcp_framing.specs.CountedCalls.{StreamPlace}
use Rattle.xcp_framing.specs.declared.station.StationError.{StationError}
use Rattle.xcp_framing.specs.declared.station.StationError.TheVariants as refusals
use Rattle.xcp_framing.specs.declared.serving.Served.{Served}
use Rattle.xcp_framing.specs.declared.serving.ServeError.{ServeError}
use Rattle.xcp_framing.specs.declared.serving.ServeError.TheVariants as errors
use Rattle.xcp_framing.specs.Serve.{packets_in_answer, packets_in_answers, Counts, refused_with}
use Rattle.xcp_framing.specs.ServeRefusal.{OnRefusal, StationRefused}
use Rattle.xcp_framing.specs.ServeBy.{command, commands, PutsSoFar, ServesBy, CommandNext}
use Rattle.xcp_framing.specs.private.AnsweredStream.{AnswerStand, Streams, outcome}
use Rattle.xcp_framing.specs.private.PutOutput.{IsLeftUnput, Moves, MovesSoFar}
use Rattle.xcp_framing.specs.private.AnsweredByPut.{NextCommand, AsksFirst, AsksSoFar, AnswersByPut, HandsBatchOn}
use Rattle.xcp_framing.proofs.ExchangeLemmas.{packets_of-append}
use Rattle.xcp_framing.proofs.PutOutputLemmas.{all_put, lost_in, moves_back, moves_in, moves_lost, moves_more, moves_none, moves_put, none_refused}
use Rattle.xcp_framing.proofs.StreamLemmas.{read_none}
use Rattle.xcp_framing.proofs.ServeRefusalLemmas.{on_refusal, on_refusal_all, refused_more, read_packets}
use Rattle.xcp_framing.proofs.ServeAnswerLemmas.{refusal_of, refused_as}

asked_more : (ps qs : List (List ℕ)) (xs ys : List Exchange) → requests_of xs ≡ commands ps → requests_of ys ≡ commands qs → requests_of (xs ++ ys) ≡ commands (ps ++ qs)
asked_more ps qs xs ys h k =
    map-append (λ (x : Exchange). x.request) xs ys ∙ ap (λ (z : List Request). z ++ requests_of ys) h ∙ ap (λ (z : List Request). commands ps ++ z) k ∙ sym (map-append command ps qs)

asks_more : {A : Type 0} (r : Result A ServeError) (ps qs : List (List ℕ)) (xs ys : List Exchange) → requests_of xs ≡ commands ps → AsksSoFar r qs ys → AsksSoFar r (ps ++ qs) (xs ++ ys)
asks_more (Ok v) ps qs xs ys h k = asked_more ps qs xs ys h k
asks_more (Err e) ps qs xs ys h k = record {
  done = ps ++ k.done;
  later = k.later;
  packets_are = ap (λ (z : List (List ℕ)). ps ++ z) k.packets_are ∙ sym (append_assoc ps k.done k.later);
  asked = asked_more ps k.done xs ys h k.asked;
}

-- packets that come later don't matter to an interruption
asks_before : (ps qs : List (List ℕ)) (xs : List Exchange) → AsksFirst ps xs → AsksFirst (ps ++ qs) xs
asks_before ps qs xs k = record {
  done = k.done;
  later = k.later ++ qs;
  packets_are = ap (λ (z : List (List ℕ)). z ++ qs) k.packets_are ∙ append_assoc k.done k.later qs;
  asked = k.asked;
}

-- what was asked is so of a front, whatever the result
asks_first : {A : Type 0} (r : Result A ServeError) (ps : List (List ℕ)) (xs : List Exchange) → AsksSoFar r ps xs → AsksFirst ps xs
asks_first (Ok v) ps xs h = record { done = ps; later = []; packets_are = sym (append-nil ps); asked = h }
asks_first (Err e) ps xs h = h

next_more : (ps qs : List (List ℕ)) (xs ys : List Exchange) (q : Request) → requests_of xs ≡ commands ps → NextCommand qs ys q → NextCommand (ps ++ qs) (xs ++ ys) q
next_more ps qs xs ys q h k = record {
  done = ps ++ k.done;
  packet = k.packet;
  later = k.later;
  packets_are = ap (λ (z : List (List ℕ)). ps ++ z) k.packets_are ∙ sym (append_assoc ps k.done (k.packet ∷ k.later));
  asked = asked_more ps k.done xs ys h k.asked;
  next = k.next;
}

next_before : (ps qs : List (List ℕ)) (xs : List Exchange) (q : Request) → NextCommand ps xs q → NextCommand (ps ++ qs) xs q
next_before ps qs xs q k = record {
  done = k.done;
  packet = k.packet;
  later = k.later ++ qs;
  packets_are = ap (λ (z : List (List ℕ)). z ++ qs) k.packets_are ∙ append_assoc k.done (k.packet ∷ k.later) qs;
  asked = k.asked;
  next = k.next;
}

counted_more : {A : Type 0} (r : Result A ServeError) (xs ys : List Exchange) (from at to : ℕ) → at ≡ from + length (packets_in_answers xs) → OnOk r (to ≡ at + length (packets_in_answers ys)) → OnOk r (to ≡ from + length (packets_in_answers (xs ++ ys)))
counted_more (Ok v) xs ys from at to h k = omega (arith, h, k, ap (λ (z : List (List ℕ)). length z) (packets_of-append xs ys), length-append (packets_in_answers xs) (packets_in_answers ys))
counted_more (Err e) xs ys from at to h k = tt

-- no packet moves where a command is refused
none_moves : (e : StationError) {a b h k : List (List ℕ)} → b ≡ a → k ≡ h → MovesSoFar {A = Unit {0}} (Err (refused_with e)) a h b k []
none_moves refusals.Memory {h = h} e f = moves_in [] e (f ∙ sym (append-nil h))
none_moves refusals.JournalFull {h = h} e f = moves_in [] e (f ∙ sym (append-nil h))

module _ {S K O : Type 0} (exchanges_of : S → List Exchange) (refuses : S → Request → StationError → Type 0) (same_station : S → S → Type 0) (put_of : O → List (List ℕ)) (same_out : O → O → Type 0) (sent_of : K → ℕ) (held_of : K → List (List ℕ)) where
  -- no packet
  pub puts_none : ((x : S) → same_station x x) → ((x : O) → same_out x x) → (a : AnswerStand S K O) → AnswersByPut exchanges_of refuses same_station put_of same_out sent_of held_of (Ok tt) [] a a
  puts_none station_refl same_refl a = record {
    exchanges = [];
    grown = sym (append-nil (exchanges_of a.station));
    asks = refl;
    moves = moves_none (put_of a.out) (held_of a.state);
    stays = station_refl a.station;
    kept = same_refl a.out;
    counted = omega arith;
    refused = tt;
  }

  -- packets, and then more
  pub puts_behind : ((x y z : S) → same_station x y → same_station y z → same_station x z) → ((x y z : O) → same_out x y → same_out y z → same_out x z) → (r : Result (Unit {0}) ServeError) (ps qs : List (List ℕ)) (a b c : AnswerStand S K O)
      → AnswersByPut exchanges_of refuses same_station put_of same_out sent_of held_of (Ok tt) ps a b → AnswersByPut exchanges_of refuses same_station put_of same_out sent_of held_of r qs b c → AnswersByPut exchanges_of refuses same_station put_of same_out sent_of held_of r (ps ++ qs) a c
  puts_behind station_trans same_trans r ps qs a b c x y = record {
    exchanges = x.exchanges ++ y.exchanges;
    grown = y.grown ∙ (ap (λ (z : List Exchange). z ++ y.exchanges) x.grown ∙ append_assoc (exchanges_of a.station) x.exchanges y.exchanges);
    asks = asks_more r ps qs x.exchanges y.exchanges x.asks y.asks;
    moves = rw (packets_of-append x.exchanges y.exchanges) (moves_more r (put_of a.out) (put_of b.out) (put_of c.out) (held_of a.state) (held_of b.state) (held_of c.state) (packets_in_answers x.exchanges) (packets_in_answers y.exchanges) x.moves y.moves);
    stays = station_trans a.station b.station c.station x.stays y.stays;
    kept = same_trans a.out b.out c.out x.kept y.kept;
    counted = counted_more r x.exchanges y.exchanges (sent_of a.state) (sent_of b.state) (sent_of c.state) x.counted y.counted;
    refused = on_refusal_all (Unit {0}) r _ _ (λ e k. refused_more exchanges_of refuses e (NextCommand qs) (NextCommand (ps ++ qs)) x.exchanges x.grown (λ ys q n. next_more ps qs x.exchanges ys q x.asks n) k) y.refused;
  }

  -- an interruption leaves the packets that come later
  pub puts_before : (e : ServeError) (ps qs : List (List ℕ)) (a b : AnswerStand S K O)
      → AnswersByPut exchanges_of refuses same_station put_of same_out sent_of held_of (Err e) ps a b → AnswersByPut exchanges_of refuses same_station put_of same_out sent_of held_of (Err e) (ps ++ qs) a b
  puts_before e ps qs a b x = record {
    exchanges = x.exchanges;
    grown = x.grown;
    asks = asks_before ps qs x.exchanges x.asks;
    moves = x.moves;
    stays = x.stays;
    kept = x.kept;
    counted = tt;
    refused = on_refusal_all (Unit {0}) (Err e) _ _ (λ f k. refused_as exchanges_of refuses f (NextCommand ps) (NextCommand (ps ++ qs)) (exchanges_of a.station) b.station (λ xs q n. next_before ps qs xs q n) k) x.refused;
  }

  -- what was held was put
  pub puts_handed : ((x y z : O) → same_out x y → same_out y z → same_out x z) → (r : Result (Unit {0}) ServeError) (ps : List (List ℕ)) (a b : AnswerStand S K O) (k : K) (o : O)
      → AnswersByPut exchanges_of refuses same_station put_of same_out sent_of held_of r ps a b → HandsBatchOn put_of same_out sent_of held_of (Ok tt) b.state b.out k o
      → AnswersByPut exchanges_of refuses same_station put_of same_out sent_of held_of r ps a (record { station = b.station; state = k; out = o })
  puts_handed same_trans r ps a b k o x h = record {
    exchanges = x.exchanges;
    grown = x.grown;
    asks = x.asks;
    moves = moves_put r (put_of a.out) (put_of b.out) (put_of o) (held_of a.state) (held_of b.state) (held_of k) (packets_in_answers x.exchanges) x.moves h.ok h.held;
    stays = x.stays;
    kept = same_trans a.out b.out o x.kept h.kept;
    counted = rw (h.sent) x.counted;
    refused = x.refused;
  }

  -- what was held was handed back, or had no memory
  pub puts_held : ((x y z : O) → same_out x y → same_out y z → same_out x z) → (r : Result (Unit {0}) ServeError) (e : ServeError) (ps : List (List ℕ)) (a b : AnswerStand S K O) (k : K) (o : O)
      → AnswersByPut exchanges_of refuses same_station put_of same_out sent_of held_of r ps a b → HandsBatchOn put_of same_out sent_of held_of (Err e) b.state b.out k o
      → AnswersByPut exchanges_of refuses same_station put_of same_out sent_of held_of (Err e) ps a (record { station = b.station; state = k; out = o })
  puts_held same_trans r e ps a b k o x h = record {
    exchanges = x.exchanges;
    grown = x.grown;
    asks = asks_first r ps x.exchanges x.asks;
    moves = moves_lost (Unit {0}) e _ _ _ _ _ h.err (moves_back r (put_of a.out) (put_of b.out) (put_of o) (held_of a.state) (held_of b.state) (packets_in_answers x.exchanges) x.moves h.back.0 h.back.1) h.held;
    stays = x.stays;
    kept = same_trans a.out b.out o x.kept h.kept;
    counted = tt;
    refused = none_refused (Unit {0}) e _ h.err;
  }

  -- room was made for an answer
  pub room_made : ((x : S) → same_station x x) → (a b : AnswerStand S K O) → b.station ≡ a.station → Moves (put_of a.out) (held_of a.state) (put_of b.out) (held_of b.state) [] → same_out a.out b.out → sent_of b.state ≡ sent_of a.state
      → AnswersByPut exchanges_of refuses same_station put_of same_out sent_of held_of (Ok tt) [] a b
  room_made station_refl a b same moves kept sent = record {
    exchanges = [];
    grown = ap exchanges_of same ∙ sym (append-nil (exchanges_of a.station));
    asks = refl;
    moves = moves;
    stays = subst (λ (z : S). same_station a.station z) (sym same) (station_refl a.station);
    kept = kept;
    counted = omega (arith, sent);
    refused = tt;
  }

  -- there was none
  pub room_lacks : ((x : S) → same_station x x) → (e : ServeError) (p : List ℕ) (a b : AnswerStand S K O) → IsLeftUnput e → b.station ≡ a.station
      → MovesSoFar {A = Unit {0}} (Err e) (put_of a.out) (held_of a.state) (put_of b.out) (held_of b.state) [] → same_out a.out b.out
      → AnswersByPut exchanges_of refuses same_station put_of same_out sent_of held_of (Err e) (p ∷ []) a b
  room_lacks station_refl e p a b unput same moves kept = record {
    exchanges = [];
    grown = ap exchanges_of same ∙ sym (append-nil (exchanges_of a.station));
    asks = record { done = []; later = p ∷ []; packets_are = refl; asked = refl };
    moves = moves;
    stays = subst (λ (z : S). same_station a.station z) (sym same) (station_refl a.station);
    kept = kept;
    counted = tt;
    refused = none_refused (Unit {0}) e _ unput;
  }

  -- one packet whose answer is none, or is held
  pub one_answer : (x : Exchange) (p : List ℕ) (a b : AnswerStand S K O) → x.request ≡ command p → exchanges_of b.station ≡ exchanges_of a.station ++ x ∷ []
      → put_of b.out ≡ put_of a.out → held_of b.state ≡ held_of a.state ++ packets_in_answer x.answer → same_station a.station b.station → same_out a.out b.out → sent_of b.state ≡ sent_of a.state + length (packets_in_answer x.answer)
      → AnswersByPut exchanges_of refuses same_station put_of same_out sent_of held_of (Ok tt) (p ∷ []) a b
  one_answer x p a b asked grown put held stays kept counted =
      let all : packets_in_answers (x ∷ []) ≡ packets_in_answer x.answer = append-nil (packets_in_answer x.answer) in
      record {
        exchanges = x ∷ [];
        grown = grown;
        asks = λ i. asked i ∷ [];
        moves = rw all (moves_in (packets_in_answer x.answer) put held);
        stays = stays;
        kept = kept;
        counted = counted ∙ ap (λ (z : List (List ℕ)). sent_of a.state + length z) (sym all);
        refused = tt;
      }

  -- one packet for whose answer there was no memory
  pub one_lost : (x : Exchange) (p : List ℕ) (a b : AnswerStand S K O) → x.request ≡ command p → exchanges_of b.station ≡ exchanges_of a.station ++ x ∷ []
      → put_of b.out ≡ put_of a.out → held_of b.state ≡ [] → packets_in_answer x.answer ≢ [] → same_station a.station b.station → same_out a.out b.out
      → AnswersByPut exchanges_of refuses same_station put_of same_out sent_of held_of (Err errors.NoRoom) (p ∷ []) a b
  one_lost x p a b asked grown put held some stays kept =
      let all : packets_in_answers (x ∷ []) ≡ packets_in_answer x.answer = append-nil (packets_in_answer x.answer) in
      record {
        exchanges = x ∷ [];
        grown = grown;
        asks = record { done = p ∷ []; later = []; packets_are = refl; asked = λ i. asked i ∷ [] };
        moves = (rw all (lost_in (held_of a.state) (packets_in_answer x.answer) put some), held);
        stays = stays;
        kept = kept;
        counted = tt;
        refused = tt;
      }

  -- one packet whose command was refused
  pub one_refused : ((x : S) → same_station x x) → ((x : O) → same_out x x) → (e : StationError) (p : List ℕ) (a b : AnswerStand S K O) → b.station ≡ a.station → b.out ≡ a.out → held_of b.state ≡ held_of a.state → refuses b.station (command p) e
      → AnswersByPut exchanges_of refuses same_station put_of same_out sent_of held_of (Err (refused_with e)) (p ∷ []) a b
  one_refused station_refl same_refl e p a b same out held may =
      let grown : exchanges_of b.station ≡ exchanges_of a.station ++ [] = ap exchanges_of same ∙ sym (append-nil (exchanges_of a.station)) in
      record {
        exchanges = [];
        grown = grown;
        asks = record { done = []; later = p ∷ []; packets_are = refl; asked = refl };
        moves = none_moves e (ap put_of out) held;
        stays = subst (λ (z : S). same_station a.station z) (sym same) (station_refl a.station);
        kept = subst (λ (z : O). same_out a.out z) (sym out) (same_refl a.out);
        counted = tt;
        refused = on_refusal (Unit {0}) e _ (record {
          exchanges = [];
          grown = grown;
          request = command p;
          next = record { done = []; packet = p; later = []; packets_are = refl; asked = refl; next = refl };
          may = may;
        });
      }

-- what became of the packets, told of a call with nothing held at its beginning and at its end
puts_of : (r : Result Served ServeError) (ps : List (List ℕ)) (xs : List Exchange) (a b : List (List ℕ)) → AsksSoFar (outcome r) ps xs → MovesSoFar (outcome r) a [] b [] (packets_in_answers xs) → PutsSoFar r ps xs a b
puts_of (Ok served) ps xs a b h m = record { asked = h; put = all_put (packets_in_answers xs) m }
puts_of (Err errors.Write) ps xs a b h m = record { done = h.done; later = h.later; packets_are = h.packets_are; asked = h.asked; handed = m.0 }
puts_of (Err errors.Memory) ps xs a b h m = record { done = h.done; later = h.later; packets_are = h.packets_are; answered = record { asked = h.asked; put = all_put (packets_in_answers xs) m } }
puts_of (Err errors.JournalFull) ps xs a b h m = record { done = h.done; later = h.later; packets_are = h.packets_are; answered = record { asked = h.asked; put = all_put (packets_in_answers xs) m } }
puts_of (Err errors.NoRoom) ps xs a b h m = record { done = h.done; later = h.later; packets_are = h.packets_are; asked = h.asked; handed = m.0 }
puts_of (Err errors.Read) ps xs a b h m = record { asked = h; put = all_put (packets_in_answers xs) m }
puts_of (Err (errors.BadLength n)) ps xs a b h m = record { asked = h; put = all_put (packets_in_answers xs) m }
puts_of (Err errors.Truncated) ps xs a b h m = record { asked = h; put = all_put (packets_in_answers xs) m }
puts_of (Err errors.TurnsSpent) ps xs a b h m = record { asked = h; put = all_put (packets_in_answers xs) m }

counts_by : (r : Result Served ServeError) (ps : List (List ℕ)) (xs : List Exchange) (from to : ℕ) → from ≡ 0 → IfOk r (λ served. served.frames ≡ length ps) → IfOk r (λ served. served.sent ≡ to)
    → OnOk (outcome r) (to ≡ from + length (packets_in_answers xs)) → Counts r ps (packets_in_answers xs)
counts_by (Ok served) ps xs from to z h k l = (h, omega (arith, z, k, l))
counts_by (Err e) ps xs from to z h k l = tt

-- there was no buffer
pub by_memory : (m : ℕ) (i : StreamPlace) (old : List Exchange) (a : List (List ℕ)) → ServesBy m (Err errors.Memory) i i old old a a
by_memory m i old a = record {
  packets = [];
  behind = [];
  read = read_none m i;
  exchanges = [];
  grown = sym (append-nil old);
  puts = record { done = []; later = []; packets_are = refl; answered = record { asked = refl; put = sym (append-nil a) } };
  ends = tt;
  counts = tt;
}

module _ {S K O : Type 0} (exchanges_of : S → List Exchange) (refuses : S → Request → StationError → Type 0) (same_station : S → S → Type 0) (put_of : O → List (List ℕ)) (same_out : O → O → Type 0) (sent_of : K → ℕ) (held_of : K → List (List ℕ)) where
  -- a call whose packets were answered so
  pub by_of : (m : ℕ) (r : Result Served ServeError) (i o : StreamPlace) (a b : AnswerStand S K O) → Streams (AnswersByPut exchanges_of refuses same_station put_of same_out sent_of held_of) m r i o a b
      → sent_of a.state ≡ 0 → held_of a.state ≡ [] → held_of b.state ≡ [] → IfOk r (λ served. served.sent ≡ sent_of b.state)
      → ServesBy m r i o (exchanges_of a.station) (exchanges_of b.station) (put_of a.out) (put_of b.out)
  by_of m r i o a b s none before after sent =
      let x = s.answered in
      let moves = rw (before, after) at x.moves in
      record {
        packets = s.packets;
        behind = s.behind;
        read = s.read;
        exchanges = x.exchanges;
        grown = x.grown;
        puts = puts_of r s.packets x.exchanges (put_of a.out) (put_of b.out) x.asks moves;
        ends = s.ends;
        counts = counts_by r s.packets x.exchanges (sent_of a.state) (sent_of b.state) none s.counts sent x.counted;
      }

  -- the request that the station refused
  pub refused_by : (F : StationError → Type 0) (m : ℕ) (r : Result Served ServeError) (i o : StreamPlace) (a b : AnswerStand S K O) → Streams (AnswersByPut exchanges_of refuses same_station put_of same_out sent_of held_of) m r i o a b
      → OnRefusal r (λ e. F e ⊎ StationRefused exchanges_of refuses e (CommandNext m i o) (exchanges_of a.station) b.station)
  refused_by F m r i o a b s =
      refusal_of r _ (on_refusal_all (Unit {0}) (outcome r) _ _
      (λ e k. inr (refused_as exchanges_of refuses e (NextCommand s.packets) (CommandNext m i o) (exchanges_of a.station) b.station
      (λ xs q n. record { packets = s.packets; read = read_packets m i o s.packets s.behind s.read; done = n.done; packet = n.packet; later = n.later; packets_are = n.packets_are; asked = n.asked; next = n.next }) k)) s.answered.refused)
