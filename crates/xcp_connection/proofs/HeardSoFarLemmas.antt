-- Passages of a stream, one behind another.
use Rattle.std.proofs.Common.{◌≡◌, ℕ, List, [], ◌∷◌, ◌++◌, ap, refl, sym, subst, ◌∙◌, append-nil, append_assoc, true≢false}
use Rattle.std.proofs.lemmas.List.{map-append}
use Rattle.std.proofs.KnownBytes.{Consumes-trans}
use Rattle.std.specs.Prelude.{◌≢◌, false, Result, Ok, Err, is_err}
use Rattle.xcp_slave.specs.declared.Exchange.{Exchange}
use Rattle.xcp_slave.specs.Run.{requests_of}
use Rattle.xcp_framing.specs.CountedCalls.{StreamPlace}
use Rattle.xcp_framing.specs.Frames.{frames, rest}
use Rattle.xcp_framing.specs.Pump.{AllDrains, DrainsUpTo, Pumped, Pumps, PutsDrains}
use Rattle.xcp_framing.specs.Serve.{OnRead, packets_in_answers}
use Rattle.xcp_framing.specs.ServeBy.{IsHandedBack, PutsAll, PutsSoFar, PutsSome, PutsUpTo, ServesBy, command, commands}
use Rattle.xcp_framing.specs.declared.serving.ServeError.{ServeError}
use Rattle.xcp_framing.specs.declared.serving.ServeError.TheVariants as errors
use Rattle.xcp_framing.specs.declared.serving.Served.{Served}
use Rattle.xcp_framing.proofs.ExchangeLemmas.{packets_of-append}
use Rattle.xcp_framing.proofs.FrameCutLaws.{cuts_alike}
use Rattle.xcp_framing.proofs.StreamLemmas.{read_none}
use Rattle.xcp_connection.specs.Hearing.{Hears}
use Rattle.xcp_connection.specs.Pumping.{PumpDrains}
use Rattle.xcp_connection.specs.private.HeardSoFar.{AllDrained, AllHeard}

-- nothing was heard yet
pub heard_none : (m : ℕ) (i : StreamPlace) (old : List Exchange) (put : List (List ℕ)) → AllHeard m i i old old put put
heard_none m i old put = record {
  packets = [];
  read = read_none m i;
  exchanges = [];
  grown = sym (append-nil old);
  puts = record { asked = refl; put = sym (append-nil put) };
}

-- whole frames were read, and more behind them
read_further : (m : ℕ) (i o n : StreamPlace) (ps qs : List (List ℕ)) (behind : List ℕ) → OnRead i o (λ stream. (ps ≡ frames m stream) × ([] ≡ rest m stream)) → OnRead o n (λ stream. (qs ≡ frames m stream) × (behind ≡ rest m stream))
    → OnRead i n (λ stream. (ps ++ qs ≡ frames m stream) × (behind ≡ rest m stream))
read_further m i o n ps qs behind h k =
    let cut = cuts_alike m h.stream k.stream in
    let packets : frames m (h.stream ++ k.stream) ≡ frames m h.stream ++ frames m k.stream = subst (λ (r : List ℕ). frames m (h.stream ++ k.stream) ≡ frames m h.stream ++ frames m (r ++ k.stream)) (sym h.fact.1) cut.0 in
    let left : rest m (h.stream ++ k.stream) ≡ rest m k.stream = subst (λ (r : List ℕ). rest m (h.stream ++ k.stream) ≡ rest m (r ++ k.stream)) (sym h.fact.1) cut.1 in
    record {
      stream = h.stream ++ k.stream;
      gave = k.gave ∙ ap (λ (z : List ℕ). z ++ k.stream) h.gave ∙ append_assoc i.read h.stream k.stream;
      known = Consumes-trans i.left o.left n.left h.stream k.stream h.known k.known;
      fact = (ap (λ (z : List (List ℕ)). z ++ qs) h.fact.0 ∙ (ap (λ (z : List (List ℕ)). frames m h.stream ++ z) k.fact.0 ∙ sym packets), k.fact.1 ∙ sym left);
    }

-- exchanges that were put, and more behind them
put_further : (xs ys : List Exchange) (back : List (List ℕ)) (a b c : List (List ℕ)) → b ≡ a ++ packets_in_answers xs → c ≡ b ++ back → c ≡ a ++ (packets_in_answers xs ++ back)
put_further xs ys back a b c h k = k ∙ ap (λ (z : List (List ℕ)). z ++ back) h ∙ append_assoc a (packets_in_answers xs) back

asked_further : (ps qs : List (List ℕ)) (xs ys : List Exchange) → requests_of xs ≡ commands ps → requests_of ys ≡ commands qs → requests_of (xs ++ ys) ≡ commands (ps ++ qs)
asked_further ps qs xs ys h k =
    map-append (λ (x : Exchange). x.request) xs ys ∙ ap (λ z. z ++ requests_of ys) h ∙ ap (λ z. commands ps ++ z) k ∙ sym (map-append command ps qs)

all_further : (ps qs : List (List ℕ)) (xs ys : List Exchange) (a b c : List (List ℕ)) → PutsAll ps xs a b → PutsAll qs ys b c → PutsAll (ps ++ qs) (xs ++ ys) a c
all_further ps qs xs ys a b c h k = record {
  asked = asked_further ps qs xs ys h.asked k.asked;
  put = put_further xs ys (packets_in_answers ys) a b c h.put k.put ∙ ap (λ (z : List (List ℕ)). a ++ z) (sym (packets_of-append xs ys));
}

some_further : (ps qs : List (List ℕ)) (xs ys : List Exchange) (a b c : List (List ℕ)) → PutsAll ps xs a b → PutsSome qs ys b c → PutsSome (ps ++ qs) (xs ++ ys) a c
some_further ps qs xs ys a b c h k = record {
  done = ps ++ k.done;
  later = k.later;
  packets_are = ap (λ (z : List (List ℕ)). ps ++ z) k.packets_are ∙ sym (append_assoc ps k.done k.later);
  answered = all_further ps k.done xs ys a b c h k.answered;
}

back_further : (xs ys : List Exchange) (a b c : List (List ℕ)) → b ≡ a ++ packets_in_answers xs → IsHandedBack (packets_in_answers ys) b c → IsHandedBack (packets_in_answers (xs ++ ys)) a c
back_further xs ys a b c h k = record {
  front = packets_in_answers xs ++ k.front;
  back = k.back;
  joined = packets_of-append xs ys ∙ ap (λ (z : List (List ℕ)). packets_in_answers xs ++ z) k.joined ∙ sym (append_assoc (packets_in_answers xs) k.front k.back);
  some = k.some;
  put = put_further xs ys k.front a b c h k.put;
}

up_to_further : (ps qs : List (List ℕ)) (xs ys : List Exchange) (a b c : List (List ℕ)) → PutsAll ps xs a b → PutsUpTo qs ys b c → PutsUpTo (ps ++ qs) (xs ++ ys) a c
up_to_further ps qs xs ys a b c h k = record {
  done = ps ++ k.done;
  later = k.later;
  packets_are = ap (λ (z : List (List ℕ)). ps ++ z) k.packets_are ∙ sym (append_assoc ps k.done k.later);
  asked = asked_further ps k.done xs ys h.asked k.asked;
  handed = back_further xs ys a b c h.put k.handed;
}

so_far_further : (r : Result Served ServeError) (ps qs : List (List ℕ)) (xs ys : List Exchange) (a b c : List (List ℕ)) → PutsAll ps xs a b → PutsSoFar r qs ys b c → PutsSoFar r (ps ++ qs) (xs ++ ys) a c
so_far_further (Ok served) ps qs xs ys a b c h k = all_further ps qs xs ys a b c h k
so_far_further (Err errors.Read) ps qs xs ys a b c h k = all_further ps qs xs ys a b c h k
so_far_further (Err errors.Write) ps qs xs ys a b c h k = up_to_further ps qs xs ys a b c h k
so_far_further (Err (errors.BadLength n)) ps qs xs ys a b c h k = all_further ps qs xs ys a b c h k
so_far_further (Err errors.Truncated) ps qs xs ys a b c h k = all_further ps qs xs ys a b c h k
so_far_further (Err errors.Memory) ps qs xs ys a b c h k = some_further ps qs xs ys a b c h k
so_far_further (Err errors.TurnsSpent) ps qs xs ys a b c h k = all_further ps qs xs ys a b c h k
so_far_further (Err errors.JournalFull) ps qs xs ys a b c h k = some_further ps qs xs ys a b c h k
so_far_further (Err errors.NoRoom) ps qs xs ys a b c h k = up_to_further ps qs xs ys a b c h k

-- the exchanges grew on
grown_further : (old mid new xs ys : List Exchange) → mid ≡ old ++ xs → new ≡ mid ++ ys → new ≡ old ++ (xs ++ ys)
grown_further old mid new xs ys h k = k ∙ ap (λ (z : List Exchange). z ++ ys) h ∙ append_assoc old xs ys

-- a passage behind those that were heard to their ends
pub heard_further : (m : ℕ) (r : Result Served ServeError) (i o n : StreamPlace) (old mid new : List Exchange) (a b c : List (List ℕ)) → AllHeard m i o old mid a b → ServesBy m r o n mid new b c → Hears m r i n old new a c
heard_further m r i o n old mid new a b c h k = record {
  packets = h.packets ++ k.packets;
  behind = k.behind;
  read = read_further m i o n h.packets k.packets k.behind h.read k.read;
  exchanges = h.exchanges ++ k.exchanges;
  grown = grown_further old mid new h.exchanges k.exchanges h.grown k.grown;
  puts = so_far_further r h.packets k.packets h.exchanges k.exchanges a b c h.puts k.puts;
  ends = k.ends;
}

-- and one more that was heard to its end
pub heard_more : (m : ℕ) (r : Result Served ServeError) (i o n : StreamPlace) (old mid new : List Exchange) (a b c : List (List ℕ)) → is_err r ≡ false → AllHeard m i o old mid a b → ServesBy m r o n mid new b c → AllHeard m i n old new a c
heard_more m (Err e) i o n old mid new a b c fine h k = absurd (true≢false fine)
heard_more m (Ok served) i o n old mid new a b c fine h k =
    let all = heard_further m (Ok served) i o n old mid new a b c h k in
    record { packets = all.packets; read = subst (λ (z : List ℕ). OnRead i n (λ stream. (all.packets ≡ frames m stream) × (z ≡ rest m stream))) all.ends all.read; exchanges = all.exchanges; grown = all.grown; puts = all.puts }

-- no read failed
pub no_failed_read : (r : Result Served ServeError) → is_err r ≡ false → r ≢ Err errors.Read
no_failed_read r fine is = true≢false (sym (ap is_err is) ∙ fine)

-- nothing was drained yet
pub drained_none : (old : List Exchange) (put : List (List ℕ)) → AllDrained old old put put
drained_none old put = record { exchanges = []; grown = sym (append-nil old); puts = record { drains = tt; put = sym (append-nil put) } }

drains_append : (xs ys : List Exchange) → AllDrains xs → AllDrains ys → AllDrains (xs ++ ys)
drains_append [] ys h k = k
drains_append (x ∷ xs) ys h k = (h.0, drains_append xs ys h.1 k)

puts_further : (xs ys : List Exchange) (a b c : List (List ℕ)) → PutsDrains xs a b → PutsDrains ys b c → PutsDrains (xs ++ ys) a c
puts_further xs ys a b c h k = record {
  drains = drains_append xs ys h.drains k.drains;
  put = put_further xs ys (packets_in_answers ys) a b c h.put k.put ∙ ap (λ (z : List (List ℕ)). a ++ z) (sym (packets_of-append xs ys));
}

drains_further : (xs ys : List Exchange) (a b c : List (List ℕ)) → PutsDrains xs a b → DrainsUpTo ys b c → DrainsUpTo (xs ++ ys) a c
drains_further xs ys a b c h k = record { drains = drains_append xs ys h.drains k.drains; handed = back_further xs ys a b c h.put k.handed }

pumped_further : (r : Result ℕ ServeError) (xs ys : List Exchange) (a b c : List (List ℕ)) → PutsDrains xs a b → Pumped r ys b c → Pumped r (xs ++ ys) a c
pumped_further (Ok n) xs ys a b c h k = puts_further xs ys a b c h k
pumped_further (Err errors.Read) xs ys a b c h k = puts_further xs ys a b c h k
pumped_further (Err errors.Write) xs ys a b c h k = drains_further xs ys a b c h k
pumped_further (Err (errors.BadLength n)) xs ys a b c h k = puts_further xs ys a b c h k
pumped_further (Err errors.Truncated) xs ys a b c h k = puts_further xs ys a b c h k
pumped_further (Err errors.Memory) xs ys a b c h k = puts_further xs ys a b c h k
pumped_further (Err errors.TurnsSpent) xs ys a b c h k = puts_further xs ys a b c h k
pumped_further (Err errors.JournalFull) xs ys a b c h k = puts_further xs ys a b c h k
pumped_further (Err errors.NoRoom) xs ys a b c h k = drains_further xs ys a b c h k

-- a call of `pump` behind others that had no fault
pub drained_further : (r : Result ℕ ServeError) (old mid new : List Exchange) (a b c : List (List ℕ)) → AllDrained old mid a b → Pumps r mid new b c → PumpDrains r old new a c
drained_further r old mid new a b c h k = record {
  exchanges = h.exchanges ++ k.exchanges;
  grown = grown_further old mid new h.exchanges k.exchanges h.grown k.grown;
  puts = pumped_further r h.exchanges k.exchanges a b c h.puts k.puts;
}

-- and one more that had none
pub drained_more : (r : Result ℕ ServeError) (old mid new : List Exchange) (a b c : List (List ℕ)) → is_err r ≡ false → AllDrained old mid a b → Pumps r mid new b c → AllDrained old new a c
drained_more (Err e) old mid new a b c fine h k = absurd (true≢false fine)
drained_more (Ok n) old mid new a b c fine h k =
    let all = drained_further (Ok n) old mid new a b c h k in
    record { exchanges = all.exchanges; grown = all.grown; puts = all.puts }
