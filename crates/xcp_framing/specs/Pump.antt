-- What `pump` does: Drains, and their packets are put. And what a station does where it drains: they are gathered.
use Rattle.std.specs.Prelude.{◌≡◌, ◌≢◌, ◌≤◌, ℕ, List, [], ◌∷◌, ◌++◌, length, Result, Ok, Err, ⊤}
use Rattle.xcp_slave.specs.declared.Exchange.{Exchange}
use Rattle.xcp_slave.specs.declared.Request.{Request}
use Rattle.xcp_slave.specs.declared.Request.TheVariants as requests
use Rattle.xcp_framing.specs.declared.serving.ServeError.{ServeError}
use Rattle.xcp_framing.specs.declared.serving.ServeError.TheVariants as errors
use Rattle.xcp_framing.specs.Serve.{packets_in_answers}
use Rattle.xcp_framing.specs.ServeBy.{IsHandedBack}

abbrev pub AllDrains : List Exchange → Type 0
AllDrains [] = ⊤
AllDrains (x ∷ xs) = (x.request ≡ requests.Drain) × AllDrains xs

-- the exchanges are Drains, and the packets of their answers were put
pub record PutsDrains (exchanges : List Exchange) (before after : List (List ℕ)) : Type 0 where
  pub drains : AllDrains exchanges
  pub put : after ≡ before ++ packets_in_answers exchanges

-- of their packets a batch was handed back, or had no memory
pub record DrainsUpTo (exchanges : List Exchange) (before after : List (List ℕ)) : Type 0 where
  pub drains : AllDrains exchanges
  pub handed : IsHandedBack (packets_in_answers exchanges) before after

abbrev pub Pumped : {R : Type 0} → Result R ServeError → List Exchange → List (List ℕ) → List (List ℕ) → Type 0
Pumped (Err errors.Write) exchanges before after = DrainsUpTo exchanges before after
Pumped (Err errors.NoRoom) exchanges before after = DrainsUpTo exchanges before after
Pumped _ exchanges before after = PutsDrains exchanges before after

-- The packets of these exchanges came into a batch, behind those that it had. Where there was no memory for one, they are some, and
-- the batch was given up. No write comes here, which could fail.
abbrev pub Gathered : {R : Type 0} → Result R ServeError → List Exchange → List (List ℕ) → List (List ℕ) → Type 0
Gathered (Err errors.Write) exchanges held held' = ⊥
Gathered (Err errors.NoRoom) exchanges held held' = (packets_in_answers exchanges ≢ []) × (held' ≡ [])
Gathered _ exchanges held held' = held' ≡ held ++ packets_in_answers exchanges

-- One call of `drain_into`, which submits at most so many Drains: `old` and `new` are the station's exchanges, `held` and `held'` the
-- packets of the batch.
pub record DrainsInto (most : ℕ) (result : Result ℕ ServeError) (old new : List Exchange) (held held' : List (List ℕ)) : Type 0 where
  pub exchanges : List Exchange
  pub grown : new ≡ old ++ exchanges
  pub drains : AllDrains exchanges
  pub few : length exchanges ≤ most
  pub gathers : Gathered result exchanges held held'
  pub counts : (n : ℕ) → result ≡ Ok n → n ≡ length (packets_in_answers exchanges)

-- One call of `pump`: `old` and `new` are the station's exchanges, `before` and `after` the packets put.
pub record Pumps (result : Result ℕ ServeError) (old new : List Exchange) (before after : List (List ℕ)) : Type 0 where
  pub exchanges : List Exchange
  pub grown : new ≡ old ++ exchanges
  pub puts : Pumped result exchanges before after
  pub counts : (n : ℕ) → result ≡ Ok n → n ≡ length (packets_in_answers exchanges)

-- behind Drains, one more
abbrev pub DrainAgain : List Exchange → Request → Type 0
DrainAgain exchanges request = AllDrains exchanges × (request ≡ requests.Drain)
