-- One message more for the end that takes.
use Rattle.std.proofs.Common.{◌≡◌, ℕ, ◌+◌, ◌%◌, Bool, true, false, true≢false, List, [], ◌∷◌, ◌++◌, map, length, sym, refl, ap, ◌∙◌, subst, append_assoc, Some, None, arith, length-append}
use Rattle.std.specs.Prelude.{Option}
use Rattle.std.specs.Io.KnownBytes.{Appends}
use Rattle.std.proofs.lemmas.List.{append-nil}
use Rattle.xcp_framing.specs.FrameOutput.{FrameWriterValue}
use Rattle.xcp_framing.specs.Prefix.{AppendsFront}
use Rattle.xcp_framing.specs.Wire.{wire, wire_from, frame_bytes}
use Rattle.xcp_outlet.specs.declared.message.Message.{Message}
use Rattle.xcp_outlet.specs.declared.line.Line.{Line}
use Rattle.xcp_outlet.specs.private.KnownHalves.{message}
use Rattle.xcp_outlet.specs.ChannelRule.{of}
use Rattle.xcp_outlet.specs.OutletEnds.{packet_list, all_packets, has_mark}
use Rattle.xcp_outlet.specs.Sending.{BothEnded, WritesAll, WritesPart}
use Rattle.xcp_outlet.specs.private.SendingProgress.{HoldsFrames, Wrote, Progress, NoneInHand}
use Rattle.xcp_outlet.proofs.ChannelRuleLemmas.{of_append}
use Rattle.xcp_outlet.proofs.WireLemmas.{appends_no_byte, appends_both, wire_of_both, frame_counts, no_frames}

all_snoc : (ms : List Message) (m : Message) → all_packets (ms ++ m ∷ []) ≡ all_packets ms ++ packet_list m.batch
all_snoc [] m = append-nil (packet_list m.batch)
all_snoc (x ∷ ms) m = ap (λ (z : List (List ℕ)). packet_list x.batch ++ z) (all_snoc ms m) ∙ sym (append_assoc (packet_list x.batch) (all_packets ms) (packet_list m.batch))

mark_still : (xs ys : List (Option (List ℕ))) → has_mark ys ≡ false → has_mark (xs ++ ys) ≡ has_mark xs
mark_still [] ys e = e
mark_still (None ∷ xs) ys e = refl
mark_still (Some p ∷ xs) ys e = mark_still xs ys e

mark_gets : (xs ys : List (Option (List ℕ))) → has_mark ys ≡ true → has_mark (xs ++ ys) ≡ true
mark_gets [] ys e = e
mark_gets (None ∷ xs) ys e = refl
mark_gets (Some p ∷ xs) ys e = mark_gets xs ys e

still : (side : Bool) (t : List Message) (m : Message) → has_mark (of side (m ∷ [])) ≡ false → has_mark (of side t) ≡ has_mark (of side (t ++ m ∷ []))
still side t m e = sym (ap has_mark (of_append side t (m ∷ [])) ∙ mark_still (of side t) (of side (m ∷ [])) e)

gets : (side : Bool) (t : List Message) (m : Message) → has_mark (of side (m ∷ [])) ≡ true → true ≡ has_mark (of side (t ++ m ∷ []))
gets side t m e = sym (ap has_mark (of_append side t (m ∷ [])) ∙ mark_gets (of side t) (of side (m ∷ [])) e)

no_mark : (ps : List (List ℕ)) → has_mark (map Some ps ++ []) ≡ false
no_mark [] = refl
no_mark (p ∷ ps) = no_mark ps

packet_marks : (side from : Bool) (ps : List (List ℕ)) → has_mark (of side (message from (Some ps) ∷ [])) ≡ false
packet_marks true true ps = no_mark ps
packet_marks true false ps = refl
packet_marks false true ps = refl
packet_marks false false ps = no_mark ps

-- of a batch one packet more was taken
marks_same : (side from : Bool) (t : List Message) (ps qs : List (List ℕ)) → has_mark (of side (t ++ message from (Some ps) ∷ [])) ≡ has_mark (of side (t ++ message from (Some qs) ∷ []))
marks_same side from t ps qs = sym (still side t (message from (Some ps)) (packet_marks side from ps)) ∙ still side t (message from (Some qs)) (packet_marks side from qs)

all_more : (t : List Message) (from : Bool) (ps : List (List ℕ)) (p : List ℕ) → all_packets (t ++ message from (Some (ps ++ p ∷ [])) ∷ []) ≡ all_packets (t ++ message from (Some ps) ∷ []) ++ p ∷ []
all_more t from ps p =
    all_snoc t (message from (Some (ps ++ p ∷ []))) ∙ (sym (append_assoc (all_packets t) ps (p ∷ [])) ∙ ap (λ (z : List (List ℕ)). z ++ p ∷ []) (sym (all_snoc t (message from (Some ps)))))

-- an end mark brings no packet
mark_wrote : (b : Bool) (n k : ℕ) (held : List ℕ) (t : List Message) (from : Bool) (before after : Option (List ℕ)) (old new : ℕ) → Wrote b n k held (all_packets t) before after old new → Wrote b n k held (all_packets (t ++ message from None ∷ [])) before after old new
mark_wrote b n k held t from before after old new w = subst (λ (z : List (List ℕ)). Wrote b n k held z before after old new) (sym (all_snoc t (message from None) ∙ append-nil (all_packets t))) w

-- the data end's end mark, once taken, is noted in the line and brings no packet
pub data_ends : (line : Line) (t : List Message) {before after : Option (List ℕ)} {old new : ℕ} → Progress line t before after old new
    → Progress (record { frames = line.frames; most = line.most; flushed = line.flushed; broken = line.broken; replies_ended = line.replies_ended; data_ended = true }) (t ++ message true None ∷ []) before after old new
data_ends line t {before = before} {after = after} {old = old} {new = new} g = record {
  wrote = mark_wrote line.broken line.flushed line.frames.sent line.frames.held t true before after old new g.wrote;
  reply_mark = g.reply_mark ∙ still false t (message true None) refl;
  data_mark = gets true t (message true None) refl;
}

-- the same of the reply end's end mark
pub replies_end : (line : Line) (t : List Message) {before after : Option (List ℕ)} {old new : ℕ} → Progress line t before after old new
    → Progress (record { frames = line.frames; most = line.most; flushed = line.flushed; broken = line.broken; replies_ended = true; data_ended = line.data_ended }) (t ++ message false None ∷ []) before after old new
replies_end line t {before = before} {after = after} {old = old} {new = new} g = record {
  wrote = mark_wrote line.broken line.flushed line.frames.sent line.frames.held t false before after old new g.wrote;
  reply_mark = gets false t (message false None) refl;
  data_mark = g.data_mark ∙ still true t (message false None) refl;
}

-- CTR is the number of packets sent before, modulo 65,536, and so is that number modulo 2^64
counter : (n k : ℕ) (p : List ℕ) → n ≡ k % 18446744073709551616 → frame_bytes n p ≡ frame_bytes k p
counter n k p h =
    let same : n % 65536 ≡ k % 65536 = omega (arith, h) in
    frame_counts n k p same

wire_snoc : (ps : List (List ℕ)) (p : List ℕ) → wire (ps ++ p ∷ []) ≡ wire ps ++ frame_bytes (length ps) p
wire_snoc ps p =
    let same : 0 + length ps ≡ length ps = omega arith in
    wire_of_both 0 ps (p ∷ []) ∙ ap (λ (z : List ℕ). wire ps ++ z) (append-nil (frame_bytes (0 + length ps) p) ∙ ap (λ (k : ℕ). frame_bytes k p) same)

-- a packet more is held
holds_more : (f n : ℕ) (held : List ℕ) (ps : List (List ℕ)) (p : List ℕ) {a b : Option (List ℕ)} {old new : ℕ} → HoldsFrames f n held ps a b old new → HoldsFrames f ((n + 1) % 18446744073709551616) (held ++ frame_bytes n p) (ps ++ p ∷ []) a b old new
holds_more f n held ps p w =
    let size : length w.whole + length w.later ≡ length ps = omega (arith, ap (λ (z : List (List ℕ)). length z) w.all, length-append w.whole w.later) in
    record {
      whole = w.whole;
      later = w.later ++ p ∷ [];
      all = ap (λ (z : List (List ℕ)). z ++ p ∷ []) w.all ∙ append_assoc w.whole w.later (p ∷ []);
      count = w.count;
      total = omega (arith, w.total, length-append ps (p ∷ []));
      writes = w.writes;
      held_is = ap (λ (z : List ℕ). z ++ frame_bytes n p) w.held_is
          ∙ (ap (λ (z : List ℕ). wire_from (length w.whole) w.later ++ z) (counter n (length ps) p w.total ∙ (ap (λ (k : ℕ). frame_bytes k p) (sym size) ∙ sym (append-nil (frame_bytes (length w.whole + length w.later) p))))
          ∙ sym (wire_of_both (length w.whole) w.later (p ∷ [])));
      unfailed = w.unfailed;
    }

-- all that was held is written
holds_flushed : (f n : ℕ) (held : List ℕ) (ps : List (List ℕ)) (a b c : Option (List ℕ)) {old new last : ℕ} → HoldsFrames f n held ps a b old new → Appends b c held → last ≡ new → HoldsFrames n n [] ps a c old last
holds_flushed f n held ps a b c w h unfailed =
    let start : 0 + length w.whole ≡ length w.whole = omega arith in
    record {
      whole = ps;
      later = [];
      all = sym (append-nil ps);
      count = w.total;
      total = w.total;
      writes = subst (λ (z : List ℕ). Appends a c z)
          (ap (λ (z : List ℕ). wire w.whole ++ z) (w.held_is ∙ ap (λ (k : ℕ). wire_from k w.later) (sym start)) ∙ (sym (wire_of_both 0 w.whole w.later) ∙ ap wire (sym w.all)))
          (appends_both a b c (wire w.whole) held w.writes h);
      held_is = refl;
      unfailed = unfailed ∙ w.unfailed;
    }

-- the write of what was held failed
holds_broken : (f n : ℕ) (held : List ℕ) (ps : List (List ℕ)) (a b c : Option (List ℕ)) {old new last : ℕ} → HoldsFrames f n held ps a b old new → AppendsFront b c held → last ≡ new + 1 → WritesPart f ps a c old last
holds_broken f n held ps a b c w h failed = record {
  whole = w.whole;
  later = w.later;
  all = w.all;
  count = w.count;
  part = h.written;
  writes = appends_both a b c (wire w.whole) h.written w.writes h.grown;
  front = (h.front.0, h.front.1 ∙ w.held_is);
  failed = failed ∙ ap (λ (k : ℕ). k + 1) w.unfailed;
}

-- nothing is held
holds_all : (f n : ℕ) (held : List ℕ) (ps : List (List ℕ)) (a b : Option (List ℕ)) {old new : ℕ} → held ≡ [] → HoldsFrames f n held ps a b old new → WritesAll n ps a b old new
holds_all f n held ps a b none w =
    let later : w.later ≡ [] = no_frames (length w.whole) w.later (sym none ∙ w.held_is) in
    let same : w.whole ≡ ps = sym (w.all ∙ (ap (λ (z : List (List ℕ)). w.whole ++ z) later ∙ append-nil w.whole)) in
    record { count = w.total; writes = subst (λ (z : List (List ℕ)). Appends a b (wire z)) same w.writes; unfailed = w.unfailed }

-- a packet more after a write failed
part_more : (n : ℕ) (ps : List (List ℕ)) (p : List ℕ) {a b : Option (List ℕ)} {old new : ℕ} → WritesPart n ps a b old new → WritesPart n (ps ++ p ∷ []) a b old new
part_more n ps p w = record {
  whole = w.whole;
  later = w.later ++ p ∷ [];
  all = ap (λ (z : List (List ℕ)). z ++ p ∷ []) w.all ∙ append_assoc w.whole w.later (p ∷ []);
  count = w.count;
  part = w.part;
  writes = w.writes;
  front = (
    w.front.0 ++ wire_from (length w.whole + length w.later) (p ∷ []),
    sym (append_assoc w.part w.front.0 (wire_from (length w.whole + length w.later) (p ∷ []))) ∙ (ap (λ (z : List ℕ). z ++ wire_from (length w.whole + length w.later) (p ∷ [])) w.front.1 ∙ sym (wire_of_both (length w.whole) w.later (p ∷ []))),
  );
  failed = w.failed;
}

-- of a batch no packet yet
pub begun : (line : Line) (t : List Message) (from : Bool) {a b : Option (List ℕ)} {old new : ℕ} → Progress line t a b old new → Progress line (t ++ message from (Some []) ∷ []) a b old new
begun line t from {a = a} {b = b} {old = old} {new = new} g = record {
  wrote = subst (λ (z : List (List ℕ)). Wrote line.broken line.flushed line.frames.sent line.frames.held z a b old new) (sym (all_snoc t (message from (Some [])) ∙ append-nil (all_packets t))) g.wrote;
  reply_mark = g.reply_mark ∙ still false t (message from (Some [])) (packet_marks false from []);
  data_mark = g.data_mark ∙ still true t (message from (Some [])) (packet_marks true from []);
}

-- the frame of a packet is held
pub added : (line : Line) (t : List Message) (from : Bool) (ps : List (List ℕ)) (p : List ℕ) (frames : FrameWriterValue) {a b : Option (List ℕ)} {old new : ℕ} → line.broken ≡ false → frames.held ≡ line.frames.held ++ frame_bytes line.frames.sent p
    → frames.sent ≡ (line.frames.sent + 1) % 18446744073709551616 → Progress line (t ++ message from (Some ps) ∷ []) a b old new
    → Progress (record { frames = frames; most = line.most; flushed = line.flushed; broken = line.broken; replies_ended = line.replies_ended; data_ended = line.data_ended }) (t ++ message from (Some (ps ++ p ∷ [])) ∷ []) a b old new
added line t from ps p frames {a = a} {b = b} {old = old} {new = new} well is counts g =
    let u : List Message = t ++ message from (Some ps) ∷ [] in
    let was : HoldsFrames line.flushed line.frames.sent line.frames.held (all_packets u) a b old new = subst (λ (x : Bool). Wrote x line.flushed line.frames.sent line.frames.held (all_packets u) a b old new) well g.wrote in
    let now : HoldsFrames line.flushed frames.sent frames.held (all_packets (t ++ message from (Some (ps ++ p ∷ [])) ∷ [])) a b old new =
    rw (is, counts, all_more t from ps p) (holds_more line.flushed line.frames.sent line.frames.held (all_packets u) p was) in
    record {
      wrote = subst (λ (x : Bool). Wrote x line.flushed frames.sent frames.held (all_packets (t ++ message from (Some (ps ++ p ∷ [])) ∷ [])) a b old new) (sym well) now;
      reply_mark = g.reply_mark ∙ marks_same false from t ps (ps ++ p ∷ []);
      data_mark = g.data_mark ∙ marks_same true from t ps (ps ++ p ∷ []);
    }

-- what is held is written
pub flushed : (line : Line) (t : List Message) (frames : FrameWriterValue) (count : ℕ) (a b c : Option (List ℕ)) {old new last : ℕ} → line.broken ≡ false → frames.held ≡ [] → frames.sent ≡ line.frames.sent → count ≡ frames.sent
    → Appends b c line.frames.held → last ≡ new → Progress line t a b old new
    → Progress (record { frames = frames; most = line.most; flushed = count; broken = line.broken; replies_ended = line.replies_ended; data_ended = line.data_ended }) t a c old last
flushed line t frames count a b c {old = old} {new = new} {last = last} well none same all h unfailed g =
    let was : HoldsFrames line.flushed line.frames.sent line.frames.held (all_packets t) a b old new = subst (λ (x : Bool). Wrote x line.flushed line.frames.sent line.frames.held (all_packets t) a b old new) well g.wrote in
    let now : HoldsFrames count frames.sent frames.held (all_packets t) a c old last = rw (none, all, same) (holds_flushed line.flushed line.frames.sent line.frames.held (all_packets t) a b c was h unfailed) in
    record {
      wrote = subst (λ (x : Bool). Wrote x count frames.sent frames.held (all_packets t) a c old last) (sym well) now;
      reply_mark = g.reply_mark;
      data_mark = g.data_mark;
    }

-- its write failed
pub broken : (line : Line) (t : List Message) (frames : FrameWriterValue) (a b c : Option (List ℕ)) {old new last : ℕ} → line.broken ≡ false → AppendsFront b c line.frames.held → last ≡ new + 1 → Progress line t a b old new
    → Progress (record { frames = frames; most = line.most; flushed = line.flushed; broken = true; replies_ended = line.replies_ended; data_ended = line.data_ended }) t a c old last
broken line t frames a b c {old = old} {new = new} {last = last} well h failed g =
    let was : HoldsFrames line.flushed line.frames.sent line.frames.held (all_packets t) a b old new = subst (λ (x : Bool). Wrote x line.flushed line.frames.sent line.frames.held (all_packets t) a b old new) well g.wrote in
    record { wrote = holds_broken line.flushed line.frames.sent line.frames.held (all_packets t) a b c was h failed; reply_mark = g.reply_mark; data_mark = g.data_mark }

-- a packet after a write failed
pub passed : (line : Line) (t : List Message) (from : Bool) (ps : List (List ℕ)) (p : List ℕ) {a b : Option (List ℕ)} {old new : ℕ} → line.broken ≡ true
    → Progress line (t ++ message from (Some ps) ∷ []) a b old new → Progress line (t ++ message from (Some (ps ++ p ∷ [])) ∷ []) a b old new
passed line t from ps p {a = a} {b = b} {old = old} {new = new} off g =
    let u : List Message = t ++ message from (Some ps) ∷ [] in
    let was : WritesPart line.flushed (all_packets u) a b old new = subst (λ (x : Bool). Wrote x line.flushed line.frames.sent line.frames.held (all_packets u) a b old new) off g.wrote in
    let now : WritesPart line.flushed (all_packets (t ++ message from (Some (ps ++ p ∷ [])) ∷ [])) a b old new = subst (λ (z : List (List ℕ)). WritesPart line.flushed z a b old new) (sym (all_more t from ps p)) (part_more line.flushed (all_packets u) p was) in
    record {
      wrote = subst (λ (x : Bool). Wrote x line.flushed line.frames.sent line.frames.held (all_packets (t ++ message from (Some (ps ++ p ∷ [])) ∷ [])) a b old new) (sym off) now;
      reply_mark = g.reply_mark ∙ marks_same false from t ps (ps ++ p ∷ []);
      data_mark = g.data_mark ∙ marks_same true from t ps (ps ++ p ∷ []);
    }

-- all is written
pub all_written : (line : Line) (t : List Message) (a b : Option (List ℕ)) {old new : ℕ} → line.broken ≡ false → line.frames.held ≡ [] → Progress line t a b old new → WritesAll line.frames.sent (all_packets t) a b old new
all_written line t a b {old = old} {new = new} well none g =
    holds_all line.flushed line.frames.sent line.frames.held (all_packets t) a b none (subst (λ (x : Bool). Wrote x line.flushed line.frames.sent line.frames.held (all_packets t) a b old new) well g.wrote)

-- after a failed write, the first packets taken are written whole, and of the others' frames a front
pub part_written : (line : Line) (t : List Message) (a b : Option (List ℕ)) {old new : ℕ} → line.broken ≡ true → Progress line t a b old new → WritesPart line.flushed (all_packets t) a b old new
part_written line t a b {old = old} {new = new} off g = subst (λ (x : Bool). Wrote x line.flushed line.frames.sent line.frames.held (all_packets t) a b old new) off g.wrote

-- before the first message
pub nothing_yet : (line : Line) (a : Option (List ℕ)) (n : ℕ) → line.broken ≡ false → line.frames.sent ≡ 0 → line.flushed ≡ 0 → line.frames.held ≡ [] → line.replies_ended ≡ false → line.data_ended ≡ false → Progress line [] a a n n
nothing_yet line a n well s f h r d =
    let now : HoldsFrames line.flushed line.frames.sent line.frames.held [] a a n n = record { whole = []; later = []; all = refl; count = f; total = s; writes = appends_no_byte a; held_is = h; unfailed = refl } in
    record { wrote = subst (λ (x : Bool). Wrote x line.flushed line.frames.sent line.frames.held [] a a n n) (sym well) now; reply_mark = r; data_mark = d }

-- what is known of a message holds of one that is equal
pub for_message : (line : Line) (t : List Message) (m m' : Message) {before after : Option (List ℕ)} {old new : ℕ} → m ≡ m' → Progress line (t ++ m ∷ []) before after old new → Progress line (t ++ m' ∷ []) before after old new
for_message line t m m' {before = before} {after = after} {old = old} {new = new} is g = subst (λ (x : Message). Progress line (t ++ x ∷ []) before after old new) is g

-- what is known of one list of messages holds of one that is equal
pub of_same : (line : Line) (t u : List Message) {before after : Option (List ℕ)} {old new : ℕ} → t ≡ u → Progress line u before after old new → Progress line t before after old new
of_same line t u {before = before} {after = after} {old = old} {new = new} is g = subst (λ (x : List Message). Progress line x before after old new) (sym is) g

-- an end mark is missing
pub no_replies_end : (line : Line) (t : List Message) (a b : Option (List ℕ)) {old new : ℕ} → line.replies_ended ≡ false → Progress line t a b old new → ¬ BothEnded t
no_replies_end line t a b missing g = λ both. absurd (true≢false (sym both.0 ∙ (sym g.reply_mark ∙ missing)))

-- the same where it is the data end's mark
pub no_data_end : (line : Line) (t : List Message) (a b : Option (List ℕ)) {old new : ℕ} → line.data_ended ≡ false → Progress line t a b old new → ¬ BothEnded t
no_data_end line t a b missing g = λ both. absurd (true≢false (sym both.1 ∙ (sym g.data_mark ∙ missing)))

-- with no frame held, no packet is in hand
pub none_in_hand : (line : Line) (t : List Message) (a b : Option (List ℕ)) {old new : ℕ} → (line.broken ≡ false → line.frames.held ≡ []) → Progress line t a b old new → NoneInHand line t
none_in_hand line t a b {old = old} {new = new} none g well =
    let w : HoldsFrames line.flushed line.frames.sent line.frames.held (all_packets t) a b old new = subst (λ (x : Bool). Wrote x line.flushed line.frames.sent line.frames.held (all_packets t) a b old new) well g.wrote in
    let later : w.later ≡ [] = no_frames (length w.whole) w.later (sym (none well) ∙ w.held_is) in
    let same : w.whole ≡ all_packets t = sym (w.all ∙ (ap (λ (z : List (List ℕ)). w.whole ++ z) later ∙ append-nil w.whole)) in
    (none well, w.count ∙ ap (λ (z : List (List ℕ)). length z % 18446744073709551616) same)

-- the first packets of a batch were taken
pub record Begun (batch left : List (List ℕ)) (old now : Line) (o n : Option (List ℕ)) (first last : ℕ) : Type 0 where
  pub done : List (List ℕ)
  pub joined : batch ≡ done ++ left
  pub goes_on : (before : Option (List ℕ)) (failures : ℕ) (taken : List Message) (from : Bool) → Progress old taken before o failures first → Progress now (taken ++ message from (Some done) ∷ []) before n failures last

-- none of them yet
pub batch_begun : (ps : List (List ℕ)) (line : Line) (o : Option (List ℕ)) (first : ℕ) → Begun ps ps line line o o first first
batch_begun ps line o first = record { done = []; joined = refl; goes_on = λ before failures taken from g. begun line taken from g }

-- one more
pub batch_more : {ps left : List (List ℕ)} (p : List ℕ) (rest : List (List ℕ)) {old now new : Line} {o n m : Option (List ℕ)} {first last then : ℕ} → Begun ps left old now o n first last → left ≡ p ∷ rest
    → ((before : Option (List ℕ)) (failures : ℕ) (taken : List Message) (from : Bool) (done : List (List ℕ)) → Progress now (taken ++ message from (Some done) ∷ []) before n failures last → Progress new (taken ++ message from (Some (done ++ p ∷ [])) ∷ []) before m failures then)
    → Begun ps rest old new o m first then
batch_more p rest x is f = record {
  done = x.done ++ p ∷ [];
  joined = x.joined ∙ (ap (λ (z : List (List ℕ)). x.done ++ z) is ∙ sym (append_assoc x.done (p ∷ []) rest));
  goes_on = λ before failures taken from g. f before failures taken from x.done (x.goes_on before failures taken from g);
}

-- all of them
pub batch_all : {ps left : List (List ℕ)} {old now : Line} {o n : Option (List ℕ)} {first last : ℕ} → Begun ps left old now o n first last → left ≡ []
    → (before : Option (List ℕ)) (failures : ℕ) (taken : List Message) (from : Bool) → Progress old taken before o failures first → Progress now (taken ++ message from (Some ps) ∷ []) before n failures last
batch_all {ps = ps} {now = now} {n = n} {last = last} x none before failures taken from g =
    let all : x.done ≡ ps = sym (x.joined ∙ (ap (λ (z : List (List ℕ)). x.done ++ z) none ∙ append-nil x.done)) in
    subst (λ (z : List (List ℕ)). Progress now (taken ++ message from (Some z) ∷ []) before n failures last) all (x.goes_on before failures taken from g)
