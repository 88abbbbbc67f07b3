-- Receipts that were handed over, and those at hand.
use Rattle.std.proofs.Common.{◌≡◌, Bool, true, false, ◌++◌, ◌∷◌, [], List, ap, ap₂, sym, ◌∙◌, subst}
use Rattle.std.specs.Prelude.{MatchBool}
use Rattle.std.proofs.lemmas.List.{append-nil}
use Rattle.xcp_locked.specs.Caller.{CallerValue}
use Rattle.xcp_locked.specs.LockedSlave.{LockedValue}
use Rattle.xcp_locked.specs.Sheaves.{SheafValue}
use Rattle.xcp_locked.specs.declared.receipt.Receipt.{Receipt}
use Rattle.xcp_service.specs.Parcels.{HasAllReceipts, ParcelValue, parcel_of_sheaf, receipts_put}
use Rattle.xcp_service.specs.Sheaves.{sheaf_of}
use Rattle.xcp_service.proofs.ParcelLemmas.{put_more, with_put}

-- what was at hand, and is handed over, is still there
still_there : (ps : List ParcelValue) (s : SheafValue) → receipts_put (ps ++ parcel_of_sheaf s ∷ []) ++ [] ≡ receipts_put ps ++ s.receipts
still_there ps s =
    append-nil (receipts_put (ps ++ parcel_of_sheaf s ∷ []))
    ∙ (put_more ps (parcel_of_sheaf s) ∙ ap (λ (l : List Receipt). receipts_put ps ++ l) (append-nil s.receipts))

-- to hand over changes nothing of what a caller has and had
pub handing_over : (b : Bool) (c d : CallerValue) (ps qs : List ParcelValue) (l : LockedValue)
    → MatchBool b ((d ≡ record c { receipts = [] }) × (qs ≡ ps ++ parcel_of_sheaf (sheaf_of l c) ∷ [])) ((d ≡ c) × (qs ≡ ps)) → with_put d qs ≡ with_put c ps
handing_over true c d ps qs l h =
    ap₂ with_put h.0 h.1
    ∙ ap (λ (rs : List Receipt). record { number = c.number; events = c.events; signals = c.signals; receipts = rs; accepted = c.accepted }) (still_there ps (sheaf_of l c))
handing_over false c d ps qs l h = ap₂ with_put h.0 h.1

-- nothing is at hand any more
pub none_at_hand : (c : CallerValue) (ps qs : List ParcelValue) → c.receipts ≡ [] → qs ≡ ps → record { number = c.number; events = c.events; signals = c.signals; receipts = receipts_put qs; accepted = c.accepted } ≡ with_put c ps
none_at_hand c ps qs none same =
    ap (λ (rs : List Receipt). record { number = c.number; events = c.events; signals = c.signals; receipts = rs; accepted = c.accepted })
    (ap receipts_put same ∙ (sym (append-nil (receipts_put ps)) ∙ ap (λ (l : List Receipt). receipts_put ps ++ l) (sym none)))

-- what is handed over is counted as before
pub counted_on : (b : Bool) (c d : CallerValue) (ps qs : List ParcelValue) (l : LockedValue)
    → MatchBool b ((d ≡ record c { receipts = [] }) × (qs ≡ ps ++ parcel_of_sheaf (sheaf_of l c) ∷ [])) ((d ≡ c) × (qs ≡ ps)) → HasAllReceipts (with_put c ps) → HasAllReceipts (with_put d qs)
counted_on b c d ps qs l h counted = subst HasAllReceipts (sym (handing_over b c d ps qs l h)) counted
