-- What `serve` does, from how its packets are answered in frames.
use Rattle.std.proofs.Common.{◌≡◌, ◌≢◌, ◌<◌, ◌≤◌, ◌+◌, ℕ, List, [], ◌++◌, length, OnOk, IfOk, Option, Result, Ok, Err, ◌⊎◌, inr, refl, sym, ap, ◌∙◌, arith}
use Rattle.std.proofs.lemmas.List.{append-nil}
use Rattle.xcp_slave.specs.declared.Exchange.{Exchange}
use Rattle.xcp_slave.specs.declared.Request.{Request}
use Rattle.xcp_framing.specs.CountedCalls.{StreamPlace}
use Rattle.xcp_framing.specs.declared.station.StationError.{StationError}
use Rattle.xcp_framing.specs.declared.serving.Served.{Served}
use Rattle.xcp_framing.specs.declared.serving.ServeError.{ServeError}
use Rattle.xcp_framing.specs.declared.serving.ServeError.TheVariants as errors
use Rattle.xcp_framing.specs.Serve.{packets_in_answers, AnswersAll, AnswersSoFar, WritesText, Counts, Serves}
use Rattle.xcp_framing.specs.ServeRefusal.{OnRefusal, StationRefused, AsksNext, ReadsNext}
use Rattle.xcp_framing.specs.ServeParts.{IsInterruption}
use Rattle.xcp_framing.specs.FrameOutput.{FrameWriterValue, Output, Sends, output}
use Rattle.xcp_framing.specs.private.AnsweredStream.{AnswerStand, Streams, outcome}
use Rattle.xcp_framing.specs.private.FramesAnswered.{AnswersInFrames, HandsFramesOn}
use Rattle.xcp_framing.proofs.KnownBytesLemmas.{appends_none}
use Rattle.xcp_framing.proofs.FrameOutputLemmas.{all_written, writes_sent}
use Rattle.xcp_framing.proofs.ExchangeLemmas.{grows_none, grows_more, grows_flushed, grows_unflushed, answers_more, answers_before, part_none}
use Rattle.xcp_framing.proofs.StreamLemmas.{read_none}
use Rattle.xcp_framing.proofs.ServeRefusalLemmas.{on_refusal_all, refused_more, asks_more, asks_before, read_packets}

-- failures that rise with a failed write alone never fall
rises : {A : Type 0} (r : Result A ServeError) (a b : ℕ) → (r ≢ Err errors.Write → b ≡ a) → (r ≡ Err errors.Write → a < b) → a ≤ b
rises (Ok v) a b same more = let e = same (λ w. cc) in omega (arith, e)
rises (Err errors.Write) a b same more = let e = more refl in omega (arith, e)
rises (Err errors.Read) a b same more = let e = same (λ w. cc) in omega (arith, e)
rises (Err (errors.BadLength n)) a b same more = let e = same (λ w. cc) in omega (arith, e)
rises (Err errors.Truncated) a b same more = let e = same (λ w. cc) in omega (arith, e)
rises (Err errors.Memory) a b same more = let e = same (λ w. cc) in omega (arith, e)
rises (Err errors.TurnsSpent) a b same more = let e = same (λ w. cc) in omega (arith, e)
rises (Err errors.JournalFull) a b same more = let e = same (λ w. cc) in omega (arith, e)
rises (Err errors.NoRoom) a b same more = let e = same (λ w. cc) in omega (arith, e)

-- a request that a station refused, told of more packets
pub refused_as : {S : Type 0} (exchanges_of : S → List Exchange) (refuses : S → Request → StationError → Type 0) (e : StationError) (Next Later : List Exchange → Request → Type 0) (old : List Exchange) (new : S)
    → ((xs : List Exchange) (q : Request) → Next xs q → Later xs q) → StationRefused exchanges_of refuses e Next old new → StationRefused exchanges_of refuses e Later old new
refused_as exchanges_of refuses e Next Later old new f r = record { exchanges = r.exchanges; grown = r.grown; request = r.request; next = f r.exchanges r.request r.next; may = r.may }

module _ {S K O : Type 0} (exchanges_of : S → List Exchange) (refuses : S → Request → StationError → Type 0) (frames_of : K → FrameWriterValue) (contents_of : O → Option (List ℕ)) (failures_of : O → ℕ) where
  -- no packet
  pub frames_none : (a : AnswerStand S K O) → AnswersInFrames exchanges_of refuses frames_of contents_of failures_of (Ok tt) [] a a
  frames_none a = record {
    grows = grows_none (AnswersAll []) (exchanges_of a.station) (output (contents_of a.out) (frames_of a.state)) (frames_of a.state).sent refl;
    unfailed = λ n. refl;
    write = λ e. absurd (cc);
    dropped = λ e. absurd (cc);
    no_room = λ e. cc;
    refused = tt;
  }

  -- packets, and then more
  pub frames_more : (r : Result (Unit {0}) ServeError) (ps qs : List (List ℕ)) (a b c : AnswerStand S K O)
      → AnswersInFrames exchanges_of refuses frames_of contents_of failures_of (Ok tt) ps a b → AnswersInFrames exchanges_of refuses frames_of contents_of failures_of r qs b c → AnswersInFrames exchanges_of refuses frames_of contents_of failures_of r (ps ++ qs) a c
  frames_more r ps qs a b c x y =
      let unfailed : failures_of b.out ≡ failures_of a.out = x.unfailed (λ e. cc) in
      record {
        grows = grows_more r x.grows y.grows (λ xs ys h k. answers_more r ps qs xs ys h k);
        unfailed = λ n. y.unfailed n ∙ unfailed;
        write = λ e. (let risen = y.write e in omega (arith, unfailed, risen));
        dropped = y.dropped;
        no_room = y.no_room;
        refused = on_refusal_all (Unit {0}) r _ _ (λ e k. refused_more exchanges_of refuses e (AsksNext qs) (AsksNext (ps ++ qs)) x.grows.exchanges x.grows.grown (λ ys q n. asks_more ps qs x.grows.exchanges ys q x.grows.fact n) k) y.refused;
      }

  -- an interruption leaves the packets that come later
  pub frames_before : (e : ServeError) (ps qs : List (List ℕ)) (a b : AnswerStand S K O) → IsInterruption e
      → AnswersInFrames exchanges_of refuses frames_of contents_of failures_of (Err e) ps a b → AnswersInFrames exchanges_of refuses frames_of contents_of failures_of (Err e) (ps ++ qs) a b
  frames_before e ps qs a b i x = record {
    grows = record { exchanges = x.grows.exchanges; grown = x.grows.grown; fact = answers_before (Unit {0}) e ps qs x.grows.exchanges i x.grows.fact; sends = x.grows.sends; counts = tt };
    unfailed = x.unfailed;
    write = x.write;
    dropped = x.dropped;
    no_room = x.no_room;
    refused = on_refusal_all (Unit {0}) (Err e) _ _ (λ f k. refused_as exchanges_of refuses f (AsksNext ps) (AsksNext (ps ++ qs)) (exchanges_of a.station) b.station (λ xs q n. asks_before ps qs xs q n) k) x.refused;
  }

  -- what was held is written
  pub frames_handed : (r : Result (Unit {0}) ServeError) (ps : List (List ℕ)) (a b : AnswerStand S K O) (k : K) (o : O)
      → AnswersInFrames exchanges_of refuses frames_of contents_of failures_of r ps a b → HandsFramesOn frames_of contents_of failures_of (Ok tt) b.state b.out k o
      → AnswersInFrames exchanges_of refuses frames_of contents_of failures_of r ps a (record { station = b.station; state = k; out = o })
  frames_handed r ps a b k o x h = record {
    grows = rw (h.sent) (grows_flushed r (output (contents_of o) (frames_of k)) x.grows x.dropped h.writes h.held);
    unfailed = λ n. h.fine ∙ x.unfailed n;
    write = λ e. (let risen = x.write e in omega (arith, h.fine, risen));
    dropped = λ e. h.held;
    no_room = x.no_room;
    refused = x.refused;
  }

  -- a write of what was held failed
  pub frames_held : (r : Result (Unit {0}) ServeError) (e : ServeError) (ps : List (List ℕ)) (a b : AnswerStand S K O) (k : K) (o : O)
      → AnswersInFrames exchanges_of refuses frames_of contents_of failures_of r ps a b → HandsFramesOn frames_of contents_of failures_of (Err e) b.state b.out k o
      → AnswersInFrames exchanges_of refuses frames_of contents_of failures_of (Err e) ps a (record { station = b.station; state = k; out = o })
  frames_held r e ps a b k o x h =
      let risen = rises r _ _ x.unfailed x.write in
      let writes = rw (h.err.0) at h.writes in
      let front = grows_unflushed r (output (contents_of o) (frames_of k)) x.grows x.dropped writes in
      rw (h.err.0) (record {
        grows = record { exchanges = front.exchanges; grown = front.grown; fact = front.fact; sends = front.sends; counts = tt };
        unfailed = λ n. absurd (n refl);
        write = λ is. omega (arith, risen, h.err.1);
        dropped = λ is. h.held;
        no_room = λ is. cc;
        refused = tt;
      })

-- what became of the packets, told of a call that gives more
answers_of : (r : Result Served ServeError) (ps : List (List ℕ)) (xs : List Exchange) → AnswersSoFar (outcome r) ps xs → AnswersSoFar r ps xs
answers_of (Ok served) ps xs h = h
answers_of (Err errors.Write) ps xs h = h
answers_of (Err errors.Memory) ps xs h = h
answers_of (Err errors.JournalFull) ps xs h = h
answers_of (Err errors.NoRoom) ps xs h = h
answers_of (Err errors.Read) ps xs h = h
answers_of (Err (errors.BadLength n)) ps xs h = h
answers_of (Err errors.Truncated) ps xs h = h
answers_of (Err errors.TurnsSpent) ps xs h = h

writes_of : (r : Result Served ServeError) (a b : Output) (t : List ℕ) → Sends (outcome r) a b t → a.held ≡ [] → b.held ≡ [] → WritesText r a.contents b.contents t
writes_of (Ok served) a b t h e f = all_written a b t h e f
writes_of (Err errors.Write) a b t h e f = writes_sent (Unit {0}) Served errors.Write a b t h e f
writes_of (Err errors.Memory) a b t h e f = all_written a b t h e f
writes_of (Err errors.JournalFull) a b t h e f = all_written a b t h e f
writes_of (Err errors.NoRoom) a b t h e f = all_written a b t h e f
writes_of (Err errors.Read) a b t h e f = all_written a b t h e f
writes_of (Err (errors.BadLength n)) a b t h e f = all_written a b t h e f
writes_of (Err errors.Truncated) a b t h e f = all_written a b t h e f
writes_of (Err errors.TurnsSpent) a b t h e f = all_written a b t h e f

counts_of : (r : Result Served ServeError) (ps : List (List ℕ)) (xs : List Exchange) (from to : ℕ) → from ≡ 0 → IfOk r (λ served. served.frames ≡ length ps) → IfOk r (λ served. served.sent ≡ to)
    → OnOk (outcome r) (to ≡ from + length (packets_in_answers xs)) → Counts r ps (packets_in_answers xs)
counts_of (Ok served) ps xs from to z h k l = (h, omega (arith, z, k, l))
counts_of (Err e) ps xs from to z h k l = tt

-- a failed write is what became of the packets only where the call ends with it
pub write_of : (r : Result Served ServeError) → outcome r ≡ Err errors.Write → r ≡ Err errors.Write
write_of (Ok served) h = absurd (cc)
write_of (Err errors.Write) h = refl
write_of (Err errors.Memory) h = absurd (cc)
write_of (Err errors.JournalFull) h = absurd (cc)
write_of (Err errors.NoRoom) h = absurd (cc)
write_of (Err errors.Read) h = absurd (cc)
write_of (Err (errors.BadLength n)) h = absurd (cc)
write_of (Err errors.Truncated) h = absurd (cc)
write_of (Err errors.TurnsSpent) h = absurd (cc)

-- where no packet wanted memory, the call doesn't end with that
pub no_room_of : (r : Result Served ServeError) → outcome r ≢ Err errors.NoRoom → r ≢ Err errors.NoRoom
no_room_of r h = λ is. h (ap (λ (x : Result Served ServeError). outcome x) is)

-- a fact about a refusal, told of a call that gives more
pub refusal_of : (r : Result Served ServeError) (F : StationError → Type 0) → OnRefusal (outcome r) F → OnRefusal r F
refusal_of (Ok served) F h = tt
refusal_of (Err errors.Write) F h = tt
refusal_of (Err errors.Memory) F h = h
refusal_of (Err errors.JournalFull) F h = h
refusal_of (Err errors.NoRoom) F h = tt
refusal_of (Err errors.Read) F h = tt
refusal_of (Err (errors.BadLength n)) F h = tt
refusal_of (Err errors.Truncated) F h = tt
refusal_of (Err errors.TurnsSpent) F h = tt

-- there was no buffer
pub serves_memory : (m : ℕ) (i : StreamPlace) (old : List Exchange) (a : Option (List ℕ)) → Serves m (Err errors.Memory) i i old old a a
serves_memory m i old a = record {
  packets = [];
  behind = [];
  read = read_none m i;
  exchanges = [];
  grown = sym (append-nil old);
  answers = part_none [];
  writes = appends_none a;
  ends = tt;
  counts = tt;
}

module _ {S K O : Type 0} (exchanges_of : S → List Exchange) (refuses : S → Request → StationError → Type 0) (frames_of : K → FrameWriterValue) (contents_of : O → Option (List ℕ)) (failures_of : O → ℕ) where
  -- a call whose packets were answered in frames, with nothing held at its beginning and at its end
  pub serves_of : (m : ℕ) (r : Result Served ServeError) (i o : StreamPlace) (a b : AnswerStand S K O) → Streams (AnswersInFrames exchanges_of refuses frames_of contents_of failures_of) m r i o a b
      → (frames_of a.state).sent ≡ 0 → (frames_of a.state).held ≡ [] → (frames_of b.state).held ≡ [] → IfOk r (λ served. served.sent ≡ (frames_of b.state).sent)
      → Serves m r i o (exchanges_of a.station) (exchanges_of b.station) (contents_of a.out) (contents_of b.out)
  serves_of m r i o a b s none before after sent =
      let x = s.answered in
      let xs = x.grows.exchanges in
      let text = rw (none) at x.grows.sends in
      record {
        packets = s.packets;
        behind = s.behind;
        read = s.read;
        exchanges = xs;
        grown = x.grows.grown;
        answers = answers_of r s.packets xs x.grows.fact;
        writes = writes_of r (output (contents_of a.out) (frames_of a.state)) (output (contents_of b.out) (frames_of b.state)) _ text before after;
        ends = s.ends;
        counts = counts_of r s.packets xs (frames_of a.state).sent (frames_of b.state).sent none s.counts sent x.grows.counts;
      }

  -- the request that the station refused
  pub refuses_of : (F : StationError → Type 0) (m : ℕ) (r : Result Served ServeError) (i o : StreamPlace) (a b : AnswerStand S K O) → Streams (AnswersInFrames exchanges_of refuses frames_of contents_of failures_of) m r i o a b
      → OnRefusal r (λ e. F e ⊎ StationRefused exchanges_of refuses e (ReadsNext m i o) (exchanges_of a.station) b.station)
  refuses_of F m r i o a b s =
      refusal_of r _ (on_refusal_all (Unit {0}) (outcome r) _ _
      (λ e k. inr (refused_as exchanges_of refuses e (AsksNext s.packets) (ReadsNext m i o) (exchanges_of a.station) b.station
      (λ xs q n. record { packets = s.packets; read = read_packets m i o s.packets s.behind s.read; asks = n }) k)) s.answered.refused)
