-- Parts of a file that tell the transport layer stand in what is appended, and in the whole file.
use Rattle.std.proofs.Common.{Result, Ok, Err, OnOk, is_ok, ◌≡◌, ◌<◌, ℕ, Bool, true, false, List, [], ◌∷◌, ◌++◌, codes, ap, ◌∙◌, append_assoc, append-nil, if◌then◌else◌}
use Rattle.std.specs.List.{list_all}
use Rattle.std.specs.Char.{is_ascii}
use Rattle.xcp_describe.specs.Files.{marked}
use Rattle.xcp_describe.specs.Transports.{TellsTransport, interface_block, known_line, reached_lines, transport_block}
use Rattle.xcp_describe.specs.declared.transport.Transport.{Transport}
use Rattle.xcp_describe.specs.private.TransportText.{HasInterface, KnowsTransport}
use Rattle.xcp_describe.proofs.FileLemmas.{IsJoined}

-- a part that stands in a text stands in the text with more behind it
part_then : (text before part behind more : List ℕ) → text ≡ before ++ part ++ behind → text ++ more ≡ before ++ part ++ (behind ++ more)
part_then text before part behind more e = rw e (append_assoc (before ++ part) behind more)

-- and what was put last stands in the text with more behind it
known_now : (t : Transport) (a b c more : List ℕ) → b ≡ a ++ known_line t → c ≡ b ++ more → KnowsTransport t c
known_now t a b c more e f = record { before = a; behind = more; is = f ∙ ap (λ x. x ++ more) e }

known_then : (t : Transport) (a b more : List ℕ) → KnowsTransport t a → b ≡ a ++ more → KnowsTransport t b
known_then t a b more k e = record { before = k.before; behind = k.behind ++ more; is = e ∙ part_then a k.before (known_line t) k.behind more k.is }

-- a text with the block IF_DATA has it with more behind it, too
pub interface_then : (t : Transport) (host : List ℕ) (port : ℕ) (a b more : List ℕ) → HasInterface t host port a → b ≡ a ++ more → HasInterface t host port b
interface_then t host port a b more k e = record {
  version = k.version;
  byte = k.byte;
  others = k.others;
  before = k.before;
  behind = k.behind ++ more;
  is = e ∙ part_then a k.before (interface_block k.others t (reached_lines k.version port host)) k.behind more k.is;
}

regroup : (z kb k kh m e ib i ih end : List ℕ) → z ++ (kb ++ k ++ kh) ++ m ++ e ++ (ib ++ i ++ ih) ++ end ≡ z ++ kb ++ k ++ (kh ++ m ++ e ++ ib) ++ i ++ (ih ++ end)
regroup z kb k kh m e ib i ih end = simp append_assoc

joined_tells : (t : Transport) (host : List ℕ) (port : ℕ) (front epk rest text : List ℕ) → IsJoined front epk rest text → KnowsTransport t front → HasInterface t host port rest → TellsTransport t host port text
joined_tells t host port front epk rest text j k i = record {
  version = i.version;
  byte = i.byte;
  others = i.others;
  before = codes "ASAP2_VERSION 1 60\n/begin PROJECT xcpd " ++ k.before;
  between = k.behind ++ codes "    /begin MOD_PAR \"\"\n" ++ epk ++ i.before;
  behind = i.behind ++ codes "  /end MODULE\n/end PROJECT\n";
  told = rw (j.ended, j.gone_on, j.told, j.headed, j.fronted, j.begun, k.is, i.is) (regroup (codes "ASAP2_VERSION 1 60\n/begin PROJECT xcpd ") k.before (known_line t) k.behind (codes "    /begin MOD_PAR \"\"\n") epk i.before (interface_block i.others t (reached_lines i.version port host)) i.behind (codes "  /end MODULE\n/end PROJECT\n"));
}

-- with a byte order mark before it or without
tells_behind : (t : Transport) (host : List ℕ) (port : ℕ) (text : List ℕ) (b : Bool) → TellsTransport t host port text → TellsTransport t host port (if b then text else 0xEF ∷ 0xBB ∷ 0xBF ∷ text)
tells_behind t host port text true k = k
tells_behind t host port text false k = record {
  version = k.version;
  byte = k.byte;
  others = k.others;
  before = 0xEF ∷ 0xBB ∷ 0xBF ∷ k.before;
  between = k.between;
  behind = k.behind;
  told = ap (λ x. 0xEF ∷ 0xBB ∷ 0xBF ∷ x) k.told;
}

-- a file of joined parts, with a byte order mark or without, tells the transport layer whose grammar line and block stand in them
pub file_tells_transport : (t : Transport) (host : List ℕ) (port : ℕ) (front epk rest text file : List ℕ) → IsJoined front epk rest text → file ≡ marked text → KnowsTransport t front → HasInterface t host port rest → TellsTransport t host port file
file_tells_transport t host port front epk rest text file j m k i = rw m (tells_behind t host port text (list_all is_ascii text) (joined_tells t host port front epk rest text j k i))

regroup_interface : (a begun others block ended : List ℕ) → a ++ begun ++ others ++ block ++ ended ≡ a ++ (begun ++ others ++ block ++ ended) ++ []
regroup_interface a begun others block ended = simp (append_assoc, append-nil)

-- the block IF_DATA whose parts were appended in turn
interface_now : (t : Transport) (host : List ℕ) (port version : ℕ) (a b c d e others lines : List ℕ) → version < 256 → lines ≡ reached_lines version port host → b ≡ a ++ codes "    /begin IF_DATA XCP\n" → c ≡ b ++ others → d ≡ c ++ transport_block t lines → e ≡ d ++ codes "    /end IF_DATA\n" → HasInterface t host port e
interface_now t host port version a b c d e others lines v l p q r s = record {
  version = version;
  byte = v;
  others = others;
  before = a;
  behind = [];
  is = rw (s, r, q, p, l) (regroup_interface a (codes "    /begin IF_DATA XCP\n") others (transport_block t (reached_lines version port host)) (codes "    /end IF_DATA\n"));
}

-- what was pushed in three parts was appended
pub three_pushed : {A E : Type 0} (r : Result A E) (a b c d x y z : List ℕ) → b ≡ a ++ x → c ≡ b ++ y → d ≡ (if is_ok r then c ++ z else c) → OnOk r (d ≡ a ++ (x ++ y ++ z))
three_pushed (Ok _) a b c d x y z p q r = rw (r, q, p) (simp append_assoc)
three_pushed (Err _) a b c d x y z p q r = tt

-- the same where the last part may not have been pushed
pub known_pushed : {A E : Type 0} (t : Transport) (r : Result A E) (a b c more : List ℕ) → b ≡ a ++ known_line t → c ≡ (if is_ok r then b ++ more else b) → OnOk r (KnowsTransport t c)
known_pushed t (Ok _) a b c more e f = known_now t a b c more e f
known_pushed t (Err _) a b c more e f = tt

-- the line of the grammar stands in a text also with more pushed behind it, where that succeeded
pub known_then_pushed : {A E : Type 0} (t : Transport) (r : Result A E) (a b more : List ℕ) → KnowsTransport t a → b ≡ (if is_ok r then a ++ more else a) → OnOk r (KnowsTransport t b)
known_then_pushed t (Ok _) a b more k e = known_then t a b more k e
known_then_pushed t (Err _) a b more k e = tt

-- the block IF_DATA whose parts were pushed in turn stands in the text, where its end was pushed
pub interface_pushed : {A E : Type 0} (t : Transport) (host : List ℕ) (port version : ℕ) (r : Result A E) (a b c d e others lines : List ℕ) → version < 256 → lines ≡ reached_lines version port host → b ≡ a ++ codes "    /begin IF_DATA XCP\n" → c ≡ b ++ others → d ≡ c ++ transport_block t lines → e ≡ (if is_ok r then d ++ codes "    /end IF_DATA\n" else d) → OnOk r (HasInterface t host port e)
interface_pushed t host port version (Ok _) a b c d e others lines v l p q r s = interface_now t host port version a b c d e others lines v l p q r s
interface_pushed t host port version (Err _) a b c d e others lines v l p q r s = tt
