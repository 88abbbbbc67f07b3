-- What a train is made of: bytes, and how many of them stand in each packet.
use Rattle.std.specs.Prelude.{MatchBool}
use Rattle.std.proofs.Common.{◌≡◌, ◌≢◌, Bool, true, false, ◌+◌, ◌-◌, ◌/◌, ◌<◌, ℕ, suc, List, [], ◌∷◌, length, take, drop, Option, Some, None, refl, sym, ap, ◌∙◌, arith}
use Rattle.std.specs.List.{flat_map}
use Rattle.std.proofs.lemmas.List.{length-take-le}
use Rattle.arrayvec.specs.ArrayVec.{ArrayVec}
use Rattle.xcp_packet.specs.PacketTrains.{block_packets, packets_in}
use Rattle.xcp_packet.specs.BlockPacketLemmas.{block_of_more, block_joined, block_count}
use Rattle.xcp_packet.specs.declared.train.Train.TheInside.{Inside}

-- the bytes of several packets have no room in one
pub record IsTrainBlock (width : ℕ) (bytes : List ℕ) : Type 0 where
  pub some : 0 < width
  pub more : width < length bytes

abbrev pub IsTrain : Option ℕ → List ℕ → Type 0
IsTrain None bytes = Unit {0}
IsTrain (Some width) bytes = IsTrainBlock width bytes

-- the data bytes of packets
abbrev pub data_in : List (List ℕ) → List ℕ
data_in packets = flat_map (λ p. drop 1 p) packets

-- what the packets are made of
abbrev pub parts_of : List (List ℕ) → Inside
parts_of [] = record { bytes = record { items = [] }; width = None }
parts_of (p ∷ []) = record { bytes = record { items = p }; width = None }
parts_of (p ∷ q ∷ more) = record { bytes = record { items = data_in (p ∷ q ∷ more) }; width = Some (length p - 1) }

two_or_more : (width : ℕ) (first : List ℕ) (rest : List (List ℕ)) (n : ℕ) → ◌≡◌ {A = ℕ} (length rest) (suc n) → length first ≡ width + 1 → parts_of (first ∷ rest) ≡ record { bytes = record { items = data_in (first ∷ rest) }; width = Some width }
two_or_more width first [] n h k = absurd (omega (arith, h))
two_or_more width first (q ∷ more) n h k =
    let e : length first - 1 ≡ width = omega arith in
    ap (λ (w : ℕ). record { bytes = record { items = data_in (first ∷ q ∷ more) }; width = Some w }) e

-- they are again what the packets were made of
pub parts_again : (width : Option ℕ) (bytes : ArrayVec ℕ) → IsTrain width bytes.items → parts_of (packets_in width bytes.items) ≡ record { bytes = bytes; width = width }
parts_again None bytes h = refl
parts_again (Some width) bytes h =
    let first : List ℕ = 0xFF ∷ take width bytes.items in
    let rest : List (List ℕ) = block_packets width (drop width bytes.items) in
    let shape = block_of_more width bytes.items h.some h.more in
    let n : ℕ = (length (drop width bytes.items) - 1) / width in
    let count : length rest ≡ suc n = block_count width (drop width bytes.items) ∙ omega arith in
    let m = h.more in
    let long : length first ≡ width + 1 = omega (arith, length-take-le width bytes.items (omega arith)) in
    let joined : data_in (first ∷ rest) ≡ bytes.items = ap data_in (sym shape) ∙ block_joined width bytes.items in
    ap parts_of shape ∙ two_or_more width first rest n count long ∙ ap (λ (xs : List ℕ). record { bytes = record { items = xs }; width = Some width }) joined

-- two trains with the same packets are made of the same
pub parts_same : (w v : Option ℕ) (a b : ArrayVec ℕ) → IsTrain w a.items → IsTrain v b.items → packets_in w a.items ≡ packets_in v b.items → (w ≡ v) × (a ≡ b)
parts_same w v a b h k e =
    let same = sym (parts_again w a h) ∙ ap parts_of e ∙ parts_again v b k in
    (ap (λ (t : Inside). t.width) same, ap (λ (t : Inside). t.bytes) same)

pub same_by : (t : Bool) (w v : Option ℕ) (a b : ArrayVec ℕ) → IsTrain w a.items → IsTrain v b.items → w ≡ v → MatchBool t (a ≡ b) (a ≢ b) → MatchBool t (packets_in w a.items ≡ packets_in v b.items) (packets_in w a.items ≢ packets_in v b.items)
same_by true w v a b h k e m = ap (λ (x : Option ℕ). packets_in x a.items) e ∙ ap (λ (x : ArrayVec ℕ). packets_in v x.items) m
same_by false w v a b h k e m = λ p. m (parts_same w v a b h k p).1
