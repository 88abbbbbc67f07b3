-- What is written is read again.
use Rattle.std.proofs.Common.{◌≡◌, ◌≢◌, ◌≤◌, ◌<◌, ℕ, ◌/◌, ◌%◌, ◌^◌, List, drop, sym, [], ◌∷◌, ◌++◌, length, refl, ap, ◌∙◌, arith}
use Rattle.std.specs.Prelude.{map, slice_index}
use Rattle.std.specs.List.{AllByRecursion}
use Rattle.std.proofs.Math.Nat.{mod-add-div', mod-eq_of_lt, mod-lt, div-lt_iff_lt-mul}
use Rattle.std.proofs.Math.Seq.{take-append_seam, drop-append_seam}
use Rattle.std.proofs.lemmas.List.{length-append, map-append, append-nil}
use Rattle.xcp_slave.specs.declared.Request.{Request}
use Rattle.xcp_slave.specs.declared.Request.TheVariants as requests
use Rattle.xcp_slave.specs.declared.Exchange.{Exchange}
use Rattle.xcp_packet.specs.ByteOrder.{double_bytes, number_in}
use Rattle.xcp_packet.specs.declared.Order.TheVariants.{Intel}
use Rattle.xcp_packet.proofs.ByteOrderLemmas.{reads_back}
use Rattle.xcp_trace.specs.EntrySpelling.{entry_in}
use Rattle.xcp_trace.specs.ExchangeSpelling.{IsExchangeString, answer_spelt, exchange_in, request_bytes, request_channel, request_of, request_tag, spelling, time_bytes, time_in, IsSpelt}

time_again : (time : ℕ) → time < 2 ^ 64 → time_in (time_bytes time) ≡ time
time_again time h =
    let low : ℕ = time % 0x1_0000_0000 in
    let high : ℕ = time / 0x1_0000_0000 in
    let small : low < 256 ^ 4 = mod-lt time (omega arith) in
    let whole = mod-add-div' time 0x1_0000_0000 in
    let few : high < 256 ^ 4 = (div-lt_iff_lt-mul {k = 0x1_0000_0000} {x = time} {y = 256 ^ 4} (omega arith)).1 (omega (arith, h)) in
    let first = reads_back Intel 4 low (double_bytes Intel high) small in
    let seam : drop 4 (time_bytes time) ≡ double_bytes Intel high = drop-append_seam (double_bytes Intel low) (double_bytes Intel high) in
    let second = ap (λ (xs : List ℕ). number_in Intel 4 xs) (seam ∙ sym (append-nil (double_bytes Intel high))) ∙ reads_back Intel 4 high [] few in
    rw (first, second) whole

request_again : (r : Request) → IsSpelt r → request_of (request_tag r) (request_channel r) (request_bytes r) ≡ r
request_again (requests.Command packet) h = refl
request_again (requests.Event channel signals) h = refl
request_again requests.Drain h = refl
request_again requests.FinishStore h = refl
request_again requests.Hangup h = refl
request_again (requests.Time time) h = ap requests.Time (time_again time h)
request_again (requests.Signals place bytes) h = refl

-- an exchange is read again off the string of its parts
pub exchange_again : (r : Request) (tag n : ℕ) (bytes : List ℕ) → IsSpelt r → exchange_in (spelling r tag n bytes) ≡ record { request = r; answer = answer_spelt tag n bytes }
exchange_again r tag n bytes spelt =
    let asked = request_bytes r in
    rw (mod-add-div' (request_channel r) 256, take-append_seam asked bytes, drop-append_seam asked bytes, request_again r spelt) refl

-- an entry is read again off its string
pub entry_again : (caller : ℕ) (string : List ℕ) → entry_in (caller ∷ string) ≡ record { caller = caller; exchange = exchange_in string }
entry_again caller string = refl

high_is : (channel : ℕ) → channel < 65536 → channel / 256 % 256 ≡ channel / 256
high_is channel h = let high : channel / 256 < 256 = (div-lt_iff_lt-mul {k = 256} {x = channel} {y = 256} (omega arith)).1 (omega (arith, h)) in mod-eq_of_lt high

-- the string of the parts is the spelling
pub string_is : (r : Request) (tag channel kind count : ℕ) (pair asked told : List ℕ)
    → tag ≡ request_tag r → channel ≡ request_channel r → asked ≡ request_bytes r
    → channel < 65536 → pair ≡ channel % 256 ∷ channel / 256 % 256 ∷ []
    → tag ∷ slice_index pair 0 ∷ slice_index pair 1 ∷ kind ∷ count ∷ length asked ∷ (asked ++ told) ≡ spelling r kind count told
string_is r tag channel kind count pair asked told is_tag is_channel is_asked low is_pair =
    rw (is_pair, high_is channel low, is_tag, is_channel, is_asked) refl

-- a spelling has its parts in their places
pub fits : (r : Request) (kind count : ℕ) (told : List ℕ) → length (request_bytes r) ≤ 255 → (request_tag r ≡ 1 → length (request_bytes r) ≤ 64) → (4 < request_tag r → request_tag r ≢ 6 → length (request_bytes r) ≡ 8)
    → length told ≤ 255 → (9 < kind → (7 ≤ count) × (count ≤ 254)) → IsExchangeString (spelling r kind count told)
fits r kind count told asked signals time short width =
    let e = length-append (request_bytes r) told in
    record { whole = omega (arith, e); asked = asked; signals = signals; time = time; told = omega (arith, e, short); width = width }

-- what holds of all strings, and of one more
pub all_more : (P : List ℕ → Type 0) (strings : List (List ℕ)) (string : List ℕ) → AllByRecursion P strings → P string → AllByRecursion P (strings ++ string ∷ [])
all_more P [] string all one = (one, tt)
all_more P (s ∷ strings) string all one = (all.0, all_more P strings string all.1 one)

-- what strings with one more behind them are read as
pub exchange_pushed : (strings : List (List ℕ)) (string : List ℕ) (x : Exchange) → exchange_in string ≡ x → map exchange_in (strings ++ string ∷ []) ≡ map exchange_in strings ++ x ∷ []
exchange_pushed strings string x e = map-append exchange_in strings (string ∷ []) ∙ ap (λ (y : Exchange). map exchange_in strings ++ y ∷ []) e

-- strings with an entry's string behind them are read as their entries, and then this one
pub entry_pushed : (strings : List (List ℕ)) (caller : ℕ) (string : List ℕ) (x : Exchange) → exchange_in string ≡ x → map entry_in (strings ++ (caller ∷ string) ∷ []) ≡ map entry_in strings ++ record { caller = caller; exchange = x } ∷ []
entry_pushed strings caller string x e =
    map-append entry_in strings ((caller ∷ string) ∷ []) ∙ ap (λ (y : Exchange). map entry_in strings ++ record { caller = caller; exchange = y } ∷ []) e
