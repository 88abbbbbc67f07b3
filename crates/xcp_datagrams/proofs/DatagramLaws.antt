-- Frames in datagrams, and on a stream.
use Rattle.std.proofs.Common.{◌≡◌, ◌<◌, ◌≤◌, ◌-◌, take, ℕ, true, false, List, [], ◌∷◌, ◌++◌, All, length, if◌then◌else◌, refl, sym, ap, subst, ◌∙◌, arith}
use Rattle.std.proofs.lemmas.List.{append-nil}
use Rattle.std.proofs.lemmas.List.Concat.{flat_map-cons}
use Rattle.std.proofs.lemmas.List.Elements.{All-tail, All-head}
use Rattle.std.specs.List.{flat_map}
use Rattle.xcp_framing.specs.Wire.{Framed, wire}
use Rattle.xcp_framing.specs.Frames.{frames, rest}
use Rattle.xcp_framing.proofs.FrameCutLaws.{cuts_alike, unfinished_nil}
use Rattle.xcp_framing.proofs.RoundTripLaws.{wire_comes_back}
use Rattle.xcp_framing.proofs.WholeFrameLaws.{framed_from}
use Rattle.xcp_datagrams.specs.Datagrams.{IsWholeFrames, datagram_frames, fits, front, DatagramIsAStream, FrontsAreAStream, PacketsInDatagrams}
use Rattle.xcp_datagrams.proofs.FrontLemmas.{front_and_rest, front_frames}

-- a datagram means what its bytes mean as a stream
pub datagram_is_a_stream : DatagramIsAStream
datagram_is_a_stream m d f = (
  rw f (framed_from m [] d (unfinished_nil m)),
  rw f (front_and_rest m d),
)

-- the front of a datagram has its packets, and no rest
pub one_front : (m : ℕ) (d : List ℕ) → (frames m (front m d) ≡ datagram_frames m d) × (rest m (front m d) ≡ [])
one_front m d =
    elim (fits d) as (λ t. (frames m (if t then take (length d - length (rest m d)) d else []) ≡ (if t then frames m d else [])) × (rest m (if t then take (length d - length (rest m d)) d else []) ≡ [])) [
      | true ↦ front_frames m d
      | false ↦ (refl, refl)
    ]

-- the fronts of datagrams are a stream of the frames of each
pub fronts_are_a_stream : FrontsAreAStream
fronts_are_a_stream m [] = (refl, refl)
fronts_are_a_stream m (d ∷ ds) =
    let ih = fronts_are_a_stream m ds in
    let one = one_front m d in
    let cut = cuts_alike m (front m d) (flat_map (front m) ds) in
    let joined : flat_map (front m) (d ∷ ds) ≡ front m d ++ flat_map (front m) ds = flat_map-cons (front m) d ds in (
      ap (frames m) joined ∙ cut.0 ∙ rw (one.0, one.1, ih.0) (sym (flat_map-cons (datagram_frames m) d ds)),
      ap (rest m) joined ∙ cut.1 ∙ rw (one.1) ih.1,
    )

-- a datagram of whole frames is its front
pub whole_is_front : (m : ℕ) (d : List ℕ) → IsWholeFrames m d → front m d ≡ d
whole_is_front m d w =
    let part = take (length d - length (rest m d)) d in
    let behind : part ++ rest m d ≡ part = ap (λ (t : List ℕ). part ++ t) w.none_left ∙ append-nil part in
    rw (w.fitting) (sym behind ∙ front_and_rest m d)

-- datagrams of whole frames are their fronts
pub whole_are_fronts : (m : ℕ) (ds : List (List ℕ)) → All (IsWholeFrames m) ds → flat_map (front m) ds ≡ flat_map (λ (d : List ℕ). d) ds
whole_are_fronts m [] a = refl
whole_are_fronts m (d ∷ ds) a =
    flat_map-cons (front m) d ds
    ∙ rw (whole_is_front m d (All-head (IsWholeFrames m) d ds a), whole_are_fronts m ds (All-tail (IsWholeFrames m) d ds a)) (sym (flat_map-cons (λ (e : List ℕ). e) d ds))

-- each packet stands in one datagram, in order
pub packets_in_datagrams : PacketsInDatagrams
packets_in_datagrams m packets ds lim sizes whole joined =
    sym ((fronts_are_a_stream m ds).0) ∙ ap (frames m) (whole_are_fronts m ds whole ∙ joined) ∙ (wire_comes_back m packets lim sizes).0
