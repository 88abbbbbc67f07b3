-- The opening state is lawful.
use Rattle.std.proofs.Common.{◌≡◌, ℕ, zero, suc, ◌+◌, ◌-◌, ◌<◌, ◌≤◌, List, [], ◌∷◌, ◌++◌, length, get_or, sym, refl, ap, ◌∙◌, arith, replicate}
use Rattle.std.proofs.lemmas.List.Sums.{sum_by-cons}
use Rattle.std.proofs.lemmas.Option.{none-some}
use Rattle.std.proofs.lemmas.Bool.{false≢true}
use Rattle.pin_core.specs.State.{Reader, PinState, newcomer, reader, words_of_buffer, leavings_of, started_of, opening}
use Rattle.pin_core.specs.StateInvariant.{at_buffer, holders, Lawful}

-- a list of equal elements has this element at every place, and behind its end as the default
pub alike : {A : Type 0} (n : ℕ) (a : A) (i : ℕ) → get_or (replicate n a) i a ≡ a
alike zero a i = refl
alike (suc n) a zero = refl
alike (suc n) a (suc i) = alike n a i

-- a list of n equal elements has this element at every place below n, whatever the default
pub within : {A : Type 0} (n : ℕ) (a d : A) (i : ℕ) → i < n → get_or (replicate n a) i d ≡ a
within zero a d i h = absurd (omega arith)
within (suc n) a d zero h = refl
within (suc n) a d (suc i) h = within n a d i (omega arith)

-- a list of n equal elements has length n
pub long : {A : Type 0} (n : ℕ) (a : A) → length (replicate n a) ≡ n
long zero a = refl
long (suc n) a = ap suc (long n a)

-- among newcomers a buffer has no holder
pub none_there : (n b : ℕ) → holders b (replicate n newcomer) ≡ 0
none_there zero b = refl
none_there (suc n) b = let s = sum_by-cons (λ (y : Reader). at_buffer b y.held) newcomer (replicate n newcomer) in let m = none_there n b in omega arith

module _ (first : List ℕ) where
  abbrev s : PinState
  s = opening first

  widths : (b : ℕ) → b < 8 → length (words_of_buffer s b) ≡ length first
  widths zero l = refl
  widths (suc b) l = ap length (within 7 (replicate (length first) 0) [] b (omega arith)) ∙ long (length first) 0

  idle_start : (r : ℕ) → reader s r ≡ newcomer
  idle_start r = alike 6 newcomer r

  pub opening_lawful : 0 < length first → length first ≤ 131073 → Lawful (length first) (opening first)
  opening_lawful some few =
      let none : holders 0 s.readers ≡ 0 = none_there 6 0 in
      record {
        sizes = record { some_words = some; few_words = few; buffers = refl; counters = refl; starts = refl; seats = refl; widths = widths; index = omega arith };
        latest = record { some = omega arith; words = refl };
        keeps = λ r b p h. absurd (none-some (b, p) (sym (ap (λ (y : Reader). y.held) (idle_start r)) ∙ h));
        counted = record { exact = sym none; left = omega arith; few = omega arith };
        others = λ b l ne. (let a : started_of s b ≡ 0 = alike 8 0 b in let c : leavings_of s b ≡ 0 = alike 8 0 b in let h = none_there 6 b in record { exact = omega arith; few = omega arith });
        builds = record {
          building = λ b e. absurd (none-some b e);
          quiet = λ b e. absurd (none-some b e);
        };
        places = λ r. record {
          overtaken = λ b p h. absurd (none-some (b, p) (sym (ap (λ (y : Reader). y.held) (idle_start r)) ∙ h));
          away = λ h. absurd (false≢true (sym (ap (λ (y : Reader). y.gone) (idle_start r)) ∙ h));
        };
        seen = λ r. (let e : (reader s r).seen ≡ 1 = ap (λ (y : Reader). y.seen) (idle_start r) in record {
          some = omega arith;
          most = omega arith;
          held = λ b p h. absurd (none-some (b, p) (sym (ap (λ (y : Reader). y.held) (idle_start r)) ∙ h));
        });
      }

-- one more at the end
pub replicate_more : {A : Type 0} (n : ℕ) (a : A) → replicate (suc n) a ≡ replicate n a ++ a ∷ []
replicate_more zero a = refl
replicate_more (suc n) a = ap (λ l. a ∷ l) (replicate_more n a)

-- the same, where they are counted from 1
pub replicate_next : {A : Type 0} (n : ℕ) (a : A) → 1 ≤ n → replicate (n + 1 - 1) a ≡ replicate (n - 1) a ++ a ∷ []
replicate_next n a some = let e : n + 1 - 1 ≡ suc (n - 1) = omega arith in ap (λ (m : ℕ). replicate m a) e ∙ replicate_more (n - 1) a
