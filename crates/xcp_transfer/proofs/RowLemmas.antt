-- What is known of a row of which no refusal holds, or one does.
use Rattle.std.proofs.Common.{◌≡◌, Bool, true, false, cond, List, ◌∷◌, Some, None, refl}
use Rattle.xcp_packet.specs.declared.Reply.{Reply}
use Rattle.xcp_packet.specs.Rows.{first_holding}

-- where no refusal holds, the first doesn't, and none of the others does
pub none_first : (t : Bool) (x : Reply) (ts : List (Bool × Reply)) → first_holding ((t, x) ∷ ts) ≡ None → t ≡ false
none_first true x ts h = absurd (cc)
none_first false x ts h = refl

-- where no refusal of a row holds, none behind the first holds
pub none_rest : (t : Bool) (x : Reply) (ts : List (Bool × Reply)) → first_holding ((t, x) ∷ ts) ≡ None → first_holding ts ≡ None
none_rest true x ts h = absurd (cc)
none_rest false x ts h = h

-- which of two values it is, by which of two replies
pub chosen : {V : Type 0} (c : Bool) (r : Reply) (x y : V) → cond c (Some r) None ≡ Some r → cond c x y ≡ x
chosen true r x y h = refl
chosen false r x y h = absurd (cc)
