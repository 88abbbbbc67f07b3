-- Each step keeps the rule.
use Rattle.std.proofs.Common.{◌≡◌, ◌≢◌, ℕ, ◌+◌, ◌<◌, ◌≤◌, true, false, true≢false, List, [], ◌∷◌, ◌++◌, ◌==◌, if◌then◌else◌, length, set, refl, sym, ap, ◌∙◌, append_assoc, arith, eq-eqb, ne_eqb}
use mathlib.Core.Option.{some}
use lib.ListN.{get_elem?}
use Rattle.crossbeam_queue.specs.Fifo.{Pushes, Pops, Forks, Merges, Learns}
use Rattle.relay.specs.Ends.{items_of}
use Rattle.relay.specs.Rule.{FitsTaker, FitsGiver, Relays, idle, taking, giving, comparing, gave, took}
use Rattle.relay.specs.declared.note.Note.{Note}
use Rattle.relay.proofs.ItemLemmas.{items_of-same, items_of-other, not_none}
use Rattle.relay.proofs.PassLemmas.{all_one, all_set, all_end, before_set}

-- the passes that may give, where this one may under one tag more
abbrev pub seated : (ℕ → ℕ) → ℕ → ℕ → ℕ → ℕ
seated giver tag pass t = if t == tag then pass else giver t

seated_here : (giver : ℕ → ℕ) (tag pass : ℕ) → pass ≡ seated giver tag pass tag
seated_here giver tag pass = sym (ap (λ b. if b then pass else giver tag) (eq-eqb tag tag refl))

seated_else : (giver : ℕ → ℕ) (tag pass t j : ℕ) → t ≢ tag → j ≡ giver t → j ≡ seated giver tag pass t
seated_else giver tag pass t j other e = e ∙ sym (ap (λ b. if b then pass else giver t) (ne_eqb t tag other))

no : {A : Type 0} → false ≡ true → A
no e = absurd (true≢false (sym e))

module _ {T : Type 0} where
  pub begins : Relays {T = T} [] (taking 0 [] ∷ [])
  begins = (0, (λ _. 0), 0, [], ((λ _ _. refl), all_one (λ (j : ℕ) (u : Note T). FitsTaker 0 0 [] j u × FitsGiver (λ _. 0) 0 [] j u) (taking 0 []) ((λ _. (refl, refl, refl)), λ e. no e)))

  pub gives : (n port : ℕ) (v : Note T) (x : ℕ × T) → v.gives ≡ true → v.takes ≡ false → v.tag ≡ x.0 → Pushes Relays n port v x (λ w. w ≡ gave v x)
  gives n port v x may idles tag items notes _ h at =
      let all = h.3 ++ items in
      let all' = h.3 ++ (items ++ x ∷ []) in
      let longer : all' ≡ all ++ x ∷ [] = sym (append_assoc h.3 items (x ∷ [])) in
      let mine = (h.4.1 port v at).1 may in
      let other : (t : ℕ) → t ≢ v.tag → items_of t all' ≡ items_of t all = λ t apart. ap (items_of t) longer ∙ items_of-other t all x (λ e. apart (sym e ∙ sym tag)) in (
        gave v x,
        (
          h.0,
          h.1,
          h.2,
          h.3,
          (
            (λ t above. other t (λ e. let l = mine.1 in omega arith) ∙ h.4.0 t above),
            all_set (λ (j : ℕ) (u : Note T). FitsTaker h.0 h.2 h.3 j u × FitsGiver h.1 h.2 all' j u) notes port (gave v x)
                ((λ e. no e), λ _. (mine.0, mine.1, ap (items_of v.tag) longer ∙ items_of-same v.tag all x (sym tag) ∙ ap (λ l. l ++ x.1 ∷ []) mine.2))
                (λ j u apart e. (
                  (h.4.1 j u e).0,
                  λ p. let theirs = (h.4.1 j u e).1 p in
                      (theirs.0, theirs.1, other u.tag (λ same. apart (theirs.0 ∙ ap h.1 same ∙ sym mine.0)) ∙ theirs.2),
                )),
          ),
        ),
        refl,
      )

  pub takes : (port : ℕ) (v : Note T) → v.takes ≡ true → v.gives ≡ false → Pops Relays port v (λ x w. (w ≡ took v x) × (x.0 < v.tags))
  takes port v may idles x items notes h at =
      let mine = (h.4.1 port v at).0 may in
      let taken = h.3 ++ x ∷ [] in
      let tags : v.tags ≡ h.2 = mine.2 in
      let never : ¬ (h.2 ≤ x.0) = λ above. not_none x.0 h.3 items x refl (h.4.0 x.0 above) in
      let below : x.0 < v.tags = omega (arith, never, tags) in
      let same : h.3 ++ x ∷ items ≡ taken ++ items = sym (append_assoc h.3 (x ∷ []) items) in
      let still : (t : ℕ) → items_of t (taken ++ items) ≡ items_of t (h.3 ++ x ∷ items) = λ t. ap (items_of t) (sym same) in (
        took v x,
        (
          h.0,
          h.1,
          h.2,
          taken,
          (
            (λ t above. still t ∙ h.4.0 t above),
            all_set (λ (j : ℕ) (u : Note T). FitsTaker h.0 h.2 taken j u × FitsGiver h.1 h.2 (taken ++ items) j u) notes port (took v x)
                ((λ _. (mine.0, ap (λ l. l ++ x ∷ []) mine.1, mine.2)), λ e. no e)
                (λ j u apart e. (
                  (λ p. absurd (apart (((h.4.1 j u e).0 p).0 ∙ sym mine.0))),
                  λ p. let theirs = (h.4.1 j u e).1 p in
                      (theirs.0, theirs.1, still u.tag ∙ theirs.2),
                )),
          ),
        ),
        (refl, below),
      )

  -- a pass that may give comes, and the taker's gives nothing any more
  seats : (items : List (ℕ × T)) (notes : List (Note T)) (port : ℕ) (v : Note T) (tags tag : ℕ) (given : List T)
      → (h : Relays items notes) → get_elem? notes port ≡ some v → v.takes ≡ true → h.2 ≤ tags → tag < tags → items_of tag (h.3 ++ items) ≡ given
      → ((j : ℕ) (u : Note T) → j ≢ port → get_elem? notes j ≡ some u → u.gives ≡ true → u.tag ≢ tag)
      → Relays items (set notes port (taking tags v.taken) ++ giving tag given ∷ [])
  seats items notes port v tags tag given h at may more below is free =
      let mine = (h.4.1 port v at).0 may in
      let all = h.3 ++ items in
      let left = set notes port (taking tags v.taken) in
      let giver = seated h.1 tag (length left) in
      let F : ℕ → Note T → Type 0 = λ (j : ℕ) (u : Note T). FitsTaker h.0 tags h.3 j u × FitsGiver giver tags all j u in (
        h.0,
        giver,
        tags,
        h.3,
        (
          (λ t above. h.4.0 t (omega arith)),
          all_end F left (giving tag given) ((λ e. no e), λ _. (seated_here h.1 tag (length left), below, is))
              (all_set F notes port (taking tags v.taken) ((λ _. (mine.0, mine.1, refl)), λ e. no e)
              (λ j u apart e. (
                (λ p. absurd (apart (((h.4.1 j u e).0 p).0 ∙ sym mine.0))),
                λ p. let theirs = (h.4.1 j u e).1 p in
                    (seated_else h.1 tag (length left) u.tag j (free j u apart e p) theirs.0, (let l = theirs.1 in omega arith), theirs.2),
              ))),
        ),
      )

  -- one more tag is given out
  pub hires : (port : ℕ) (v : Note T) → v.takes ≡ true → v.gives ≡ false → Forks Relays port v (taking (v.tags + 1) v.taken) (giving v.tags [])
  hires port v may idles items notes h at =
      let mine = (h.4.1 port v at).0 may in
      let tags : v.tags ≡ h.2 = mine.2 in
      seats items notes port v (v.tags + 1) v.tags [] h at may (omega arith) (omega arith) (h.4.0 v.tags (omega arith))
      (λ j u apart e p same. let l = ((h.4.1 j u e).1 p).1 in omega arith)

  -- the taker's pass gives the right to give back
  pub parts : (port : ℕ) (v : Note T) → v.takes ≡ true → v.gives ≡ true → Forks Relays port v (taking v.tags v.taken) (giving v.tag v.given)
  parts port v may right items notes h at =
      let mine = (h.4.1 port v at).0 may in
      let my = (h.4.1 port v at).1 right in
      let tags : v.tags ≡ h.2 = mine.2 in
      let l = my.1 in
      seats items notes port v v.tags v.tag v.given h at may (omega arith) (omega arith) my.2
      (λ j u apart e p same. apart (((h.4.1 j u e).1 p).0 ∙ ap h.1 same ∙ sym my.0))

  -- a pass that may do nothing comes
  pub spares : (port : ℕ) (v : Note T) → Forks Relays port v v idle
  spares port v items notes h at =
      let F : ℕ → Note T → Type 0 = λ (j : ℕ) (u : Note T). FitsTaker h.0 h.2 h.3 j u × FitsGiver h.1 h.2 (h.3 ++ items) j u in (
        h.0,
        h.1,
        h.2,
        h.3,
        (
          h.4.0,
          all_end F (set notes port v) idle ((λ e. no e), λ e. no e) (all_set F notes port v (h.4.1 port v at) (λ j u apart e. h.4.1 j u e)),
        ),
      )

  -- the right to give comes to the taker's pass
  pub lends : (port : ℕ) (v : Note T) (other : ℕ) (w : Note T) → v.takes ≡ true → v.gives ≡ false → w.gives ≡ true → w.takes ≡ false
      → Merges Relays port v other w (comparing v w) idle
  lends port v other w may idles right theirs items notes h at apart at' =
      let was = before_set notes port other (comparing v w) w apart at' in
      let mine = (h.4.1 port v at).0 may in
      let their = (h.4.1 other w was).1 right in
      let all = h.3 ++ items in
      let giver = seated h.1 w.tag port in
      let F : ℕ → Note T → Type 0 = λ (j : ℕ) (u : Note T). FitsTaker h.0 h.2 h.3 j u × FitsGiver giver h.2 all j u in (
        h.0,
        giver,
        h.2,
        h.3,
        (
          h.4.0,
          all_set F (set notes port (comparing v w)) other idle ((λ e. no e), λ e. no e)
              (λ k u away e. all_set (λ (j : ℕ) (u : Note T). j ≢ other → F j u) notes port (comparing v w)
              (λ _. ((λ _. mine), λ _. (seated_here h.1 w.tag port, their.1, their.2)))
              (λ j u not_port e far. (
                (h.4.1 j u e).0,
                λ p. let t = (h.4.1 j u e).1 p in
                    (seated_else h.1 w.tag port u.tag j (λ same. far (t.0 ∙ ap h.1 same ∙ sym their.0)) t.0, t.1, t.2),
              ))
              k u e away),
        ),
      )

  -- what went in under the tag, as the taker's pass sees it
  pub compares : (port : ℕ) (v : Note T) → v.takes ≡ true → v.gives ≡ true → Learns Relays port v (λ items. items_of v.tag (v.taken ++ items) ≡ v.given)
  compares port v may right items notes h at =
      let mine = (h.4.1 port v at).0 may in
      ap (λ l. items_of v.tag (l ++ items)) mine.1 ∙ ((h.4.1 port v at).1 right).2
