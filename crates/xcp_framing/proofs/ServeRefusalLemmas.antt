-- Refusals that end a call, passed on from what answers less to what answers more.
use Rattle.std.proofs.Common.{◌≡◌, ℕ, List, [], ◌∷◌, ◌++◌, Result, Ok, Err, refl, sym, ap, ◌∙◌, append_assoc}
use Rattle.std.proofs.lemmas.List.{append-nil}
use Rattle.xcp_slave.specs.declared.Exchange.{Exchange}
use Rattle.xcp_slave.specs.declared.Request.{Request}
use Rattle.xcp_slave.specs.declared.Request.TheVariants as requests
use Rattle.xcp_framing.specs.declared.station.StationError.{StationError}
use Rattle.xcp_framing.specs.declared.station.StationError.TheVariants as refusals
use Rattle.xcp_framing.specs.declared.serving.ServeError.{ServeError}
use Rattle.xcp_framing.specs.declared.serving.ServeError.TheVariants as errors
use Rattle.xcp_framing.specs.CountedCalls.{StreamPlace}
use Rattle.xcp_framing.specs.Frames.{frames, rest}
use Rattle.xcp_framing.specs.Serve.{AnswersAll, OnRead, refused_with}
use Rattle.xcp_framing.specs.ServeRefusal.{OnRefusal, DrainsNext, AsksNext, StationRefused}
use Rattle.xcp_framing.proofs.ExchangeLemmas.{answers_all_more}

-- the station's error, as the call's
pub on_refusal : (A : Type 0) (e : StationError) (F : StationError → Type 0) → F e → OnRefusal {A = A} (Err (refused_with e)) F
on_refusal A refusals.Memory F h = h
on_refusal A refusals.JournalFull F h = h

-- what a refusal tells of a part of the call, it tells of all of it
pub on_refusal_map : (A B : Type 0) (e : ServeError) (F G : StationError → Type 0) → ((x : StationError) → F x → G x) → OnRefusal {A = A} (Err e) F → OnRefusal {A = B} (Err e) G
on_refusal_map A B errors.Read F G f h = tt
on_refusal_map A B errors.Write F G f h = tt
on_refusal_map A B (errors.BadLength n) F G f h = tt
on_refusal_map A B errors.Truncated F G f h = tt
on_refusal_map A B errors.Memory F G f h = f refusals.Memory h
on_refusal_map A B errors.TurnsSpent F G f h = tt
on_refusal_map A B errors.JournalFull F G f h = f refusals.JournalFull h
on_refusal_map A B errors.NoRoom F G f h = tt

-- what follows from a fact about the refusal that ended a call, if one did, holds of that refusal
pub on_refusal_all : (A : Type 0) (r : Result A ServeError) (F G : StationError → Type 0) → ((x : StationError) → F x → G x) → OnRefusal r F → OnRefusal r G
on_refusal_all A (Ok v) F G f h = tt
on_refusal_all A (Err e) F G f h = on_refusal_map A A e F G f h

-- exchanges before the part of the call that was refused
pub refused_more : {S : Type 0} (exchanges_of : S → List Exchange) (refuses : S → Request → StationError → Type 0) (e : StationError) (Next Later : List Exchange → Request → Type 0) {old mid : List Exchange} {new : S} (xs : List Exchange)
    → mid ≡ old ++ xs → ((ys : List Exchange) (q : Request) → Next ys q → Later (xs ++ ys) q) → StationRefused exchanges_of refuses e Next mid new → StationRefused exchanges_of refuses e Later old new
refused_more exchanges_of refuses e Next Later {old = old} xs g f r = record {
  exchanges = xs ++ r.exchanges;
  grown = r.grown ∙ ap (λ (z : List Exchange). z ++ r.exchanges) g ∙ append_assoc old xs r.exchanges;
  request = r.request;
  next = f r.exchanges r.request r.next;
  may = r.may;
}

-- a packet's command
pub asks_command : (p : List ℕ) → AsksNext (p ∷ []) [] (requests.Command (record { items = p }))
asks_command p = record { done = []; packet = p; later = []; full = []; cut = []; packets_are = refl; joined = refl; answered = refl; asks = refl }

-- a packet's command was refused
pub refused_command : {S : Type 0} (exchanges_of : S → List Exchange) (refuses : S → Request → StationError → Type 0) (e : StationError) (p : List ℕ) (state : S) {new : S}
    → exchanges_of new ≡ exchanges_of state → refuses new (requests.Command (record { items = p })) e → StationRefused exchanges_of refuses e (AsksNext (p ∷ [])) (exchanges_of state) new
refused_command exchanges_of refuses e p state same may = record {
  exchanges = [];
  grown = same ∙ sym (append-nil (exchanges_of state));
  request = requests.Command (record { items = p });
  next = asks_command p;
  may = may;
}

-- a Drain behind a packet's command
pub asks_drain : (p : List ℕ) (x : Exchange) → x.request ≡ requests.Command (record { items = p }) → (ys : List Exchange) (q : Request) → DrainsNext ys q → AsksNext (p ∷ []) ((x ∷ []) ++ ys) q
asks_drain p x a ys q h = record { done = []; packet = p; later = []; full = []; cut = x ∷ ys; packets_are = refl; joined = refl; answered = refl; asks = (a, h) }

-- behind packets that were answered
pub asks_more : (ps qs : List (List ℕ)) (xs ys : List Exchange) (q : Request) → AnswersAll ps xs → AsksNext qs ys q → AsksNext (ps ++ qs) (xs ++ ys) q
asks_more ps qs xs ys q h k = record {
  done = ps ++ k.done;
  packet = k.packet;
  later = k.later;
  full = xs ++ k.full;
  cut = k.cut;
  packets_are = ap (λ (z : List (List ℕ)). ps ++ z) k.packets_are ∙ sym (append_assoc ps k.done (k.packet ∷ k.later));
  joined = ap (λ (z : List Exchange). xs ++ z) k.joined ∙ sym (append_assoc xs k.full k.cut);
  answered = answers_all_more ps k.done xs k.full h k.answered;
  asks = k.asks;
}

-- packets that come later don't matter
pub asks_before : (ps qs : List (List ℕ)) (xs : List Exchange) (q : Request) → AsksNext ps xs q → AsksNext (ps ++ qs) xs q
asks_before ps qs xs q k = record {
  done = k.done;
  packet = k.packet;
  later = k.later ++ qs;
  full = k.full;
  cut = k.cut;
  packets_are = ap (λ (z : List (List ℕ)). z ++ qs) k.packets_are ∙ append_assoc k.done (k.packet ∷ k.later) qs;
  joined = k.joined;
  answered = k.answered;
  asks = k.asks;
}

-- the packets alone of what was read
pub read_packets : (m : ℕ) (i n : StreamPlace) (packets : List (List ℕ)) (behind : List ℕ) → OnRead i n (λ stream. (packets ≡ frames m stream) × (behind ≡ rest m stream)) → OnRead i n (λ stream. packets ≡ frames m stream)
read_packets m i n packets behind h = record { stream = h.stream; gave = h.gave; known = h.known; fact = h.fact.0 }
