-- Each step keeps the rule of the outlet.
use Rattle.std.proofs.Common.{◌≡◌, ◌≢◌, ℕ, zero, suc, Bool, true, false, true≢false, List, [], ◌∷◌, ◌++◌, map, length, set, sym, refl, ap, ◌∙◌, subst, ⊎_elim, append_assoc, Some, None}
use Rattle.std.specs.Prelude.{Option, option_map}
use mathlib.Core.Option.{some, some-injective, some-ne-none}
use lib.ListN.{get_elem?}
use Rattle.crossbeam_channel.specs.Fifo.{Pushes, Pops, Forks, Merges, Learns}
use Rattle.atomic_table.proofs.Lists.{at_set, at_snoc}
use Rattle.xcp_outlet.specs.declared.message.Message.{Message}
use Rattle.xcp_outlet.specs.PassKnowledge.{Half, PassKnown, half}
use Rattle.xcp_outlet.specs.private.KnownHalves.{nothing_known, everything, one_half, message, more, after_put_on, after_put, after_take, both_halves}
use Rattle.xcp_outlet.specs.ChannelRule.{keep, of, message_parts}
use Rattle.xcp_outlet.specs.private.OwnedChannel.{mark, sent, Owned, Routed, Compares}
use mathlib.Core.List.{IsPrefix}
use Rattle.xcp_outlet.specs.OutletEnds.{packets, has_mark}

some_is : {X : Type 0} → {x y : X} → Some x ≡ Some y → x ≡ y
some_is {X} {x} {y} e = ap (λ (o : Option X). get x o) e
  where
    get : X → Option X → X
    get d None = d
    get d (Some z) = z

none_some : {X : Type 0} → {x : X} → None ≡ Some x → ⊥
none_some {X} {x} e = true≢false (ap is_no e)
  where
    is_no : Option X → Bool
    is_no None = true
    is_no (Some z) = false

at_end : (l : List PassKnown) (a b : PassKnown) (j : ℕ) → get_elem? l j ≢ some b → get_elem? (l ++ a ∷ []) j ≡ some b → j ≡ length l
at_end [] a b zero n e = refl
at_end [] a b (suc j) n e = absurd (some-ne-none b (sym e))
at_end (x ∷ xs) a b zero n e = absurd (n e)
at_end (x ∷ xs) a b (suc j) n e = ap suc (at_end xs a b j n e)

module _ {X : Type 0} (f : PassKnown → Option X) (P Q : X → Type 0) where
  -- the fact changes into another that follows
  owned_still : (views : List PassKnown) → ((h : X) → P h → Q h) → Owned f views P → Owned f views Q
  owned_still views to o = (o.0, λ id v at h is. let k = o.1 id v at h is in (k.0, to h k.1))

  -- the pass that has this part gets another view
  owned_own : (views : List PassKnown) (id : ℕ) (v w : PassKnown) (g : X) → get_elem? views id ≡ some v → f v ≡ Some g → ((h : X) → f w ≡ Some h → P g → Q h) → Owned f views P → Owned f (set views id w) Q
  owned_own views id v w g at has mine o = let k = o.1 id v at g has in (
    id,
    λ j u e h is. ⊎_elim
        (λ (x : (j ≡ id) × (w ≡ u)). (x.0, mine h (ap f x.1 ∙ is) k.1))
        (λ (x : (j ≢ id) × (get_elem? views j ≡ some u)). absurd (x.0 ((o.1 j u x.1 h is).0 ∙ sym k.0)))
        (at_set views id j w u e),
  )

  -- a pass gets another view, with the same of this part
  owned_same : (views : List PassKnown) (id : ℕ) (v w : PassKnown) → get_elem? views id ≡ some v → f w ≡ f v → ((h : X) → P h → Q h) → Owned f views P → Owned f (set views id w) Q
  owned_same views id v w at same to o = (
    o.0,
    λ j u e h is. ⊎_elim
        (λ (x : (j ≡ id) × (w ≡ u)). let k = o.1 id v at h (sym same ∙ (ap f x.1 ∙ is)) in (x.0 ∙ k.0, to h k.1))
        (λ (x : (j ≢ id) × (get_elem? views j ≡ some u)). let k = o.1 j u x.1 h is in (k.0, to h k.1))
        (at_set views id j w u e),
  )

  -- a pass is cut in two: this part stays on the left
  owned_left : (views : List PassKnown) (id : ℕ) (v l r : PassKnown) → get_elem? views id ≡ some v → f l ≡ f v → f r ≡ None → Owned f views P → Owned f (set views id l ++ r ∷ []) P
  owned_left views id v l r at same none o = (
    o.0,
    λ j u e h is. ⊎_elim
        (λ (x : get_elem? (set views id l) j ≡ some u). ⊎_elim
        (λ (y : (j ≡ id) × (l ≡ u)). let k = o.1 id v at h (sym same ∙ (ap f y.1 ∙ is)) in (y.0 ∙ k.0, k.1))
        (λ (y : (j ≢ id) × (get_elem? views j ≡ some u)). o.1 j u y.1 h is)
        (at_set views id j l u x))
        (λ (x : r ≡ u). absurd (none_some (sym none ∙ (ap f x ∙ is))))
        (at_snoc (set views id l) r u j e),
  )

  -- this part goes to the new pass
  owned_right : (views : List PassKnown) (id : ℕ) (v l r : PassKnown) (g : X) → get_elem? views id ≡ some v → f v ≡ Some g → f l ≡ None → f r ≡ f v → Owned f views P → Owned f (set views id l ++ r ∷ []) P
  owned_right views id v l r g at has none same o =
      let vs : List PassKnown = set views id l in
      let none_there : (j : ℕ) (u : PassKnown) → get_elem? vs j ≡ some u → (h : X) → f u ≡ Some h → ⊥ = λ j u x h is. ⊎_elim
      (λ (y : (j ≡ id) × (l ≡ u)). none_some (sym none ∙ (ap f y.1 ∙ is)))
      (λ (y : (j ≢ id) × (get_elem? views j ≡ some u)). y.0 ((o.1 j u y.1 h is).0 ∙ sym (o.1 id v at g has).0))
      (at_set views id j l u x) in (
        length vs,
        λ j u e h is. ⊎_elim
            (λ (x : get_elem? vs j ≡ some u). absurd (none_there j u x h is))
            (λ (x : r ≡ u). (at_end vs r u j (λ y. none_there j u y h is) e, (o.1 id v at h (sym same ∙ (ap f x ∙ is))).1))
            (at_snoc vs r u j e),
      )

  -- a pass takes in another: this part stays
  owned_stays : (views : List PassKnown) (id other : ℕ) (v b s : PassKnown) → get_elem? views id ≡ some v → f b ≡ f v → f s ≡ None → Owned f views P → Owned f (set (set views id b) other s) P
  owned_stays views id other v b s at same none o = (
    o.0,
    λ j u e h is. ⊎_elim
        (λ (x : (j ≡ other) × (s ≡ u)). absurd (none_some (sym none ∙ (ap f x.1 ∙ is))))
        (λ (x : (j ≢ other) × (get_elem? (set views id b) j ≡ some u)). ⊎_elim
        (λ (y : (j ≡ id) × (b ≡ u)). let k = o.1 id v at h (sym same ∙ (ap f y.1 ∙ is)) in (y.0 ∙ k.0, k.1))
        (λ (y : (j ≢ id) × (get_elem? views j ≡ some u)). o.1 j u y.1 h is)
        (at_set views id j b u x.1))
        (at_set (set views id b) other j s u e),
  )

  -- this part comes from the other
  owned_comes : (views : List PassKnown) (id other : ℕ) (w b s : PassKnown) (g : X) → ¬ (other ≡ id) → get_elem? (set views id b) other ≡ some w → f w ≡ Some g → f b ≡ f w → f s ≡ None → Owned f views P → Owned f (set (set views id b) other s) P
  owned_comes views id other w b s g apart at has same none o =
      let was : get_elem? views other ≡ some w = ⊎_elim (λ x. absurd (apart x.0)) (λ x. x.1) (at_set views id other b w at) in (
        id,
        λ j u e h is. ⊎_elim
            (λ (x : (j ≡ other) × (s ≡ u)). absurd (none_some (sym none ∙ (ap f x.1 ∙ is))))
            (λ (x : (j ≢ other) × (get_elem? (set views id b) j ≡ some u)). ⊎_elim
            (λ (y : (j ≡ id) × (b ≡ u)). (y.0, (o.1 other w was h (sym same ∙ (ap f y.1 ∙ is))).1))
            (λ (y : (j ≢ id) × (get_elem? views j ≡ some u)). absurd (x.0 ((o.1 j u y.1 h is).0 ∙ sym (o.1 other w was g has).0)))
            (at_set views id j b u x.1))
            (at_set (set views id b) other j s u e),
      )

-- lists of one side
pub of_append : (side : Bool) (xs ys : List Message) → of side (xs ++ ys) ≡ of side xs ++ of side ys
of_append side [] ys = refl
of_append side (x ∷ xs) ys = keeps side x.from_data (message_parts x.batch) (of side (xs ++ ys)) (of side xs) (of side ys) (of_append side xs ys)
  where
    keeps : (a b : Bool) (ps all l r : List (Option (List ℕ))) → all ≡ l ++ r → keep a b ps all ≡ keep a b ps l ++ r
    keeps true true ps all l r e = ap (λ (z : List (Option (List ℕ))). ps ++ z) e ∙ sym (append_assoc ps l r)
    keeps true false ps all l r e = e
    keeps false true ps all l r e = e
    keeps false false ps all l r e = ap (λ (z : List (Option (List ℕ))). ps ++ z) e ∙ sym (append_assoc ps l r)

nil_end : (xs : List (Option (List ℕ))) → xs ++ [] ≡ xs
nil_end [] = refl
nil_end (x ∷ xs) = ap (λ (z : List (Option (List ℕ))). x ∷ z) (nil_end xs)

map_behind : (ps qs : List (List ℕ)) → map Some (ps ++ qs) ++ [] ≡ (map Some ps ++ []) ++ map Some qs
map_behind [] qs = nil_end (map Some qs)
map_behind (x ∷ xs) qs = ap (λ (z : List (Option (List ℕ))). Some x ∷ z) (map_behind xs qs)

marks : (ps : List (List ℕ)) → map Some ps ++ None ∷ [] ≡ (map Some ps ++ []) ++ None ∷ []
marks [] = refl
marks (x ∷ xs) = ap (λ (z : List (Option (List ℕ))). Some x ∷ z) (marks xs)

sent_more : (b : Option (List (List ℕ))) (ps : List (List ℕ)) → sent (more b (half ps false)) ≡ sent (half ps false) ++ message_parts b
sent_more None ps = marks ps
sent_more (Some qs) ps = map_behind ps qs

-- at a put of the side itself, and of the other side
here : (side : Bool) (p : Option (List (List ℕ))) (ps : List (List ℕ)) (taken items : List Message) → keep side side (message_parts p) [] ≡ message_parts p → sent (half ps false) ≡ of side (taken ++ items) → sent (more p (half ps false)) ≡ of side (taken ++ (items ++ message side p ∷ []))
here side p ps taken items one e = sent_more p ps ∙ (ap (λ (z : List (Option (List ℕ))). z ++ message_parts p) e ∙ sym (ap (of side) (sym (append_assoc taken items (message side p ∷ []))) ∙ (of_append side (taken ++ items) (message side p ∷ []) ∙ ap (λ (z : List (Option (List ℕ))). of side (taken ++ items) ++ z) one)))

there : (side other : Bool) (p : Option (List (List ℕ))) (taken items : List Message) → keep side other (message_parts p) [] ≡ [] → of side (taken ++ (items ++ message other p ∷ [])) ≡ of side (taken ++ items)
there side other p taken items none = ap (of side) (sym (append_assoc taken items (message other p ∷ []))) ∙ (of_append side (taken ++ items) (message other p ∷ []) ∙ (ap (λ (z : List (Option (List ℕ))). of side (taken ++ items) ++ z) none ∙ nil_end (of side (taken ++ items))))

only : (id : ℕ) (v : PassKnown) → get_elem? (everything ∷ []) id ≡ some v → (id ≡ 0) × (everything ≡ v)
only zero v e = (refl, some-injective everything v e)
only (suc id) v e = absurd (some-ne-none v (sym e))

-- the rule holds of an empty channel whose one pass stands for both ends and for what was taken
pub begins : Routed [] (everything ∷ [])
begins = record {
  got = [];
  replies = (0, λ id v e h is. let t = only id v e in (t.0, subst (λ (u : Half). sent u ≡ []) (some_is (ap (λ (z : PassKnown). z.reply) t.1 ∙ is)) refl));
  data_packets = (0, λ id v e h is. let t = only id v e in (t.0, subst (λ (u : Half). sent u ≡ []) (some_is (ap (λ (z : PassKnown). z.daq) t.1 ∙ is)) refl));
  takes = (0, λ id v e h is. let t = only id v e in (t.0, sym (some_is (ap (λ (z : PassKnown). z.taken) t.1 ∙ is))));
}

puts_at : (n id : ℕ) (side : Bool) (p : Option (List (List ℕ))) (ps : List (List ℕ)) → Pushes Routed n id (one_half side (half ps false)) (message side p) (λ w. w ≡ after_put_on side p (one_half side (half ps false)))
puts_at n id false p ps items views room r at =
    let v : PassKnown = one_half false (half ps false) in
    let w : PassKnown = after_put_on false p v in (
      w,
      record {
        got = r.got;
        replies = owned_own (λ v. v.reply) (λ h. sent h ≡ of false (r.got ++ items)) (λ h. sent h ≡ of false (r.got ++ (items ++ message false p ∷ []))) views id v w (half ps false) at refl
            (λ h is e. subst (λ (u : Half). sent u ≡ of false (r.got ++ (items ++ message false p ∷ []))) (some_is is) (here false p ps r.got items (nil_end (message_parts p)) e)) r.replies;
        data_packets = owned_same (λ v. v.daq) (λ h. sent h ≡ of true (r.got ++ items)) (λ h. sent h ≡ of true (r.got ++ (items ++ message false p ∷ []))) views id v w at refl (λ h e. e ∙ sym (there true false p r.got items refl)) r.data_packets;
        takes = owned_same (λ v. v.taken) (λ t. t ≡ r.got) (λ t. t ≡ r.got) views id v w at refl (λ h e. e) r.takes;
      },
      refl,
    )
puts_at n id true p ps items views room r at =
    let v : PassKnown = one_half true (half ps false) in
    let w : PassKnown = after_put_on true p v in (
      w,
      record {
        got = r.got;
        replies = owned_same (λ v. v.reply) (λ h. sent h ≡ of false (r.got ++ items)) (λ h. sent h ≡ of false (r.got ++ (items ++ message true p ∷ []))) views id v w at refl (λ h e. e ∙ sym (there false true p r.got items refl)) r.replies;
        data_packets = owned_own (λ v. v.daq) (λ h. sent h ≡ of true (r.got ++ items)) (λ h. sent h ≡ of true (r.got ++ (items ++ message true p ∷ []))) views id v w (half ps false) at refl
            (λ h is e. subst (λ (u : Half). sent u ≡ of true (r.got ++ (items ++ message true p ∷ []))) (some_is is) (here true p ps r.got items (nil_end (message_parts p)) e)) r.data_packets;
        takes = owned_same (λ v. v.taken) (λ t. t ≡ r.got) (λ t. t ≡ r.got) views id v w at refl (λ h e. e) r.takes;
      },
      refl,
    )

-- the rule stays where an end that has put no end mark puts one more message, and its pass knows it
pub puts : (n id : ℕ) (side : Bool) (p : Option (List (List ℕ))) (ps : List (List ℕ)) (v : PassKnown) → v ≡ one_half side (half ps false)
    → Pushes Routed n id v (message side p) (λ w. w ≡ after_put (message side p) v) × Learns Routed id v (λ items. Unit {0})
puts n id side p ps v is = (subst (λ (u : PassKnown). Pushes Routed n id u (message side p) (λ w. w ≡ after_put (message side p) u)) (sym is) (puts_at n id side p ps), λ items views h at. tt)

-- the rule stays where the next message is taken, and the pass that takes it knows it
pub takes : (id : ℕ) (v : PassKnown) (t : List Message) → v.taken ≡ Some t → Pops Routed id v (λ m w. w ≡ after_take m v) × Learns Routed id v (λ items. Unit {0})
takes id v t has = (
  (λ m items views r at.
      let w : PassKnown = after_take m v in
      let more : r.got ++ m ∷ items ≡ (r.got ++ m ∷ []) ++ items = sym (append_assoc r.got (m ∷ []) items) in (
        w,
        record {
          got = r.got ++ m ∷ [];
          replies = owned_same (λ v. v.reply) (λ h. sent h ≡ of false (r.got ++ m ∷ items)) (λ h. sent h ≡ of false ((r.got ++ m ∷ []) ++ items)) views id v w at refl (λ h e. e ∙ ap (of false) more) r.replies;
          data_packets = owned_same (λ v. v.daq) (λ h. sent h ≡ of true (r.got ++ m ∷ items)) (λ h. sent h ≡ of true ((r.got ++ m ∷ []) ++ items)) views id v w at refl (λ h e. e ∙ ap (of true) more) r.data_packets;
          takes = owned_own (λ v. v.taken) (λ t. t ≡ r.got) (λ t. t ≡ r.got ++ m ∷ []) views id v w t at has
              (λ h is e. sym (some_is (sym (ap (option_map (λ (t : List Message). t ++ m ∷ [])) has) ∙ is)) ∙ ap (λ (z : List Message). z ++ m ∷ []) e) r.takes;
        },
        refl,
      )),
  λ items views h at. tt,
)

-- the rule stays where the reply end's half leaves a pass for a new pass of its own
pub cut_replies : (id : ℕ) (v : PassKnown) (h : Half) → v.reply ≡ Some h → Forks Routed id v (record { reply = None; daq = v.daq; taken = v.taken }) (record { reply = v.reply; daq = None; taken = None })
cut_replies id v h has items views r at =
    let a : PassKnown = record { reply = None; daq = v.daq; taken = v.taken } in
    let b : PassKnown = record { reply = v.reply; daq = None; taken = None } in record {
      got = r.got;
      replies = owned_right (λ v. v.reply) (λ h. sent h ≡ of false (r.got ++ items)) (λ h. sent h ≡ of false (r.got ++ items)) views id v a b h at has refl refl r.replies;
      data_packets = owned_left (λ v. v.daq) (λ h. sent h ≡ of true (r.got ++ items)) (λ h. sent h ≡ of true (r.got ++ items)) views id v a b at refl refl r.data_packets;
      takes = owned_left (λ v. v.taken) (λ t. t ≡ r.got) (λ t. t ≡ r.got) views id v a b at refl refl r.takes;
    }

-- the same where the data end's half leaves it
pub cut_data : (id : ℕ) (v : PassKnown) (h : Half) → v.daq ≡ Some h → Forks Routed id v (record { reply = v.reply; daq = None; taken = v.taken }) (record { reply = None; daq = v.daq; taken = None })
cut_data id v h has items views r at =
    let a : PassKnown = record { reply = v.reply; daq = None; taken = v.taken } in
    let b : PassKnown = record { reply = None; daq = v.daq; taken = None } in record {
      got = r.got;
      replies = owned_left (λ v. v.reply) (λ h. sent h ≡ of false (r.got ++ items)) (λ h. sent h ≡ of false (r.got ++ items)) views id v a b at refl refl r.replies;
      data_packets = owned_right (λ v. v.daq) (λ h. sent h ≡ of true (r.got ++ items)) (λ h. sent h ≡ of true (r.got ++ items)) views id v a b h at has refl refl r.data_packets;
      takes = owned_left (λ v. v.taken) (λ t. t ≡ r.got) (λ t. t ≡ r.got) views id v a b at refl refl r.takes;
    }

-- the rule stays where a pass takes in the reply end's half of another one, which then stands for nothing
pub meets_reply : (id : ℕ) (v : PassKnown) (other : ℕ) (w : PassKnown) (h : Half) → w.reply ≡ Some h → Merges Routed id v other w (record { reply = w.reply; daq = v.daq; taken = v.taken }) nothing_known
meets_reply id v other w h has items views r at apart at' =
    let b : PassKnown = record { reply = w.reply; daq = v.daq; taken = v.taken } in record {
      got = r.got;
      replies = owned_comes (λ v. v.reply) (λ h. sent h ≡ of false (r.got ++ items)) (λ h. sent h ≡ of false (r.got ++ items)) views id other w b nothing_known h apart at' has refl refl r.replies;
      data_packets = owned_stays (λ v. v.daq) (λ h. sent h ≡ of true (r.got ++ items)) (λ h. sent h ≡ of true (r.got ++ items)) views id other v b nothing_known at refl refl r.data_packets;
      takes = owned_stays (λ v. v.taken) (λ t. t ≡ r.got) (λ t. t ≡ r.got) views id other v b nothing_known at refl refl r.takes;
    }

-- the same where it takes in the data end's half
pub meets_data : (id : ℕ) (v : PassKnown) (other : ℕ) (w : PassKnown) (h : Half) → w.daq ≡ Some h → Merges Routed id v other w (record { reply = v.reply; daq = w.daq; taken = v.taken }) nothing_known
meets_data id v other w h has items views r at apart at' =
    let b : PassKnown = record { reply = v.reply; daq = w.daq; taken = v.taken } in record {
      got = r.got;
      replies = owned_stays (λ v. v.reply) (λ h. sent h ≡ of false (r.got ++ items)) (λ h. sent h ≡ of false (r.got ++ items)) views id other v b nothing_known at refl refl r.replies;
      data_packets = owned_comes (λ v. v.daq) (λ h. sent h ≡ of true (r.got ++ items)) (λ h. sent h ≡ of true (r.got ++ items)) views id other w b nothing_known h apart at' has refl refl r.data_packets;
      takes = owned_stays (λ v. v.taken) (λ t. t ≡ r.got) (λ t. t ≡ r.got) views id other v b nothing_known at refl refl r.takes;
    }

-- where a pass knows what was taken and what an end has put, the channel holds what was put and not taken
pub compares : (id : ℕ) (v : PassKnown) → Learns Routed id v (Compares v)
compares id v items views r at t has =
    let same : t ≡ r.got = (r.takes.1 id v at t has).1 in (
      (λ h is. (r.replies.1 id v at h is).1 ∙ ap (λ (z : List Message). of false (z ++ items)) (sym same)),
      λ h is. (r.data_packets.1 id v at h is).1 ∙ ap (λ (z : List Message). of true (z ++ items)) (sym same),
    )

-- the rule stays where a pass takes in that of either end, which then stands for nothing
pub meets : (id : ℕ) (v : PassKnown) (other : ℕ) (w : PassKnown) (side : Bool) (h : Half) → w ≡ one_half side h → Merges Routed id v other w (both_halves v w) nothing_known
meets id v other w false h is = subst (λ (u : PassKnown). Merges Routed id v other u (both_halves v u) nothing_known) (sym is) (meets_reply id v other (one_half false h) h refl)
meets id v other w true h is = subst (λ (u : PassKnown). Merges Routed id v other u (both_halves v u) nothing_known) (sym is) (meets_data id v other (one_half true h) h refl)

met : (side : Bool) (h : Half) (t : List Message) (v : PassKnown) (items : List Message) → v.taken ≡ Some t → Compares (both_halves v (one_half side h)) items → sent h ≡ of side (t ++ items)
met false h t v items has c = (c t has).0 h refl
met true h t v items has c = (c t has).1 h refl

packets_append : (xs ys : List (Option (List ℕ))) → packets (xs ++ ys) ≡ packets xs ++ packets ys
packets_append [] ys = refl
packets_append (None ∷ xs) ys = packets_append xs ys
packets_append (Some p ∷ xs) ys = ap (λ (z : List (List ℕ)). p ∷ z) (packets_append xs ys)

packets_sent : (ps : List (List ℕ)) (e : Bool) → packets (map Some ps ++ mark e) ≡ ps
packets_sent [] true = refl
packets_sent [] false = refl
packets_sent (p ∷ ps) e = ap (λ (z : List (List ℕ)). p ∷ z) (packets_sent ps e)

abbrev tails : List (Option (List ℕ)) → List (Option (List ℕ))
tails [] = []
tails (x ∷ xs) = xs

abbrev heads : List (Option (List ℕ)) → Option (List ℕ)
heads [] = None
heads (x ∷ xs) = x

abbrev is_nil : List (Option (List ℕ)) → Bool
is_nil [] = true
is_nil (x ∷ xs) = false

no_more : (a b : List (Option (List ℕ))) → [] ≡ a ++ b → a ≡ []
no_more [] b e = refl
no_more (x ∷ a) b e = absurd (true≢false (ap is_nil e))

whole : (ps : List (List ℕ)) (e : Bool) (a b : List (Option (List ℕ))) → map Some ps ++ mark e ≡ a ++ b → has_mark a ≡ true → packets a ≡ ps
whole ps e [] b is has = absurd (true≢false (sym has))
whole [] true (None ∷ a) b is has = ap packets (no_more a b (ap tails is))
whole [] false (None ∷ a) b is has = absurd (true≢false (ap is_nil is))
whole (p ∷ ps) e (None ∷ a) b is has = absurd (none_some (sym (ap heads is)))
whole [] true (Some q ∷ a) b is has = absurd (none_some (ap heads is))
whole [] false (Some q ∷ a) b is has = absurd (true≢false (ap is_nil is))
whole (p ∷ ps) e (Some q ∷ a) b is has = λ i. sym (some_is (ap heads is)) i ∷ whole ps e a b (ap tails is) has i

-- what a meeting tells
pub meeting : (side e : Bool) (ps : List (List ℕ)) (t : List Message) (v u : PassKnown) → v.taken ≡ Some t → u ≡ both_halves v (one_half side (half ps e)) → ((items : List Message) × Compares u items)
    → IsPrefix (packets (of side t)) ps × (has_mark (of side t) ≡ true → packets (of side t) ≡ ps)
meeting side e ps t v u has is c =
    let items = c.0 in
    let all = met side (half ps e) t v items has (subst (λ (z : PassKnown). Compares z items) is c.1) in
    let cut = all ∙ of_append side t items in (
      (packets (of side items), sym (sym (packets_sent ps e) ∙ (ap packets cut ∙ packets_append (of side t) (of side items)))),
      whole ps e (of side t) (of side items) cut,
    )
