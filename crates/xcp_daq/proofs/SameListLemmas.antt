-- Lists that are equal stand in equal pools.
use Rattle.std.proofs.Common.{◌≡◌, ℕ, List, [], ◌∷◌, length, map, take, drop, Option, ap, sym, ◌∙◌, refl, arith, length-drop}
use Rattle.std.proofs.lemmas.List.{length-take-le}
use Rattle.xcp_daq.specs.declared.element.Element.{Element}
use Rattle.xcp_daq.specs.declared.mode.Mode.{Mode}
use Rattle.xcp_daq.specs.DaqLists.{DaqList}
use Rattle.xcp_daq.specs.Pools.{parts, joined, lists_of}
use Rattle.xcp_daq.specs.private.SplicedPools.{total, IsFit}
use Rattle.xcp_daq.proofs.PoolPartLemmas.{joined-parts, length-parts}
use Rattle.xcp_daq.proofs.OdtLemmas.{tree, all_joined}

abbrev E : Type 0
E = Option Element

-- the counts are the parts' lengths
counts_again : {A : Type 0} (ns : List ℕ) (xs : List A) → total ns ≡ length xs → map length (parts ns xs) ≡ ns
counts_again [] xs h = refl
counts_again (n ∷ ns) xs h =
    let long : length (take n xs) ≡ n = length-take-le n xs (omega (arith, h)) in
    let rest : total ns ≡ length (drop n xs) = omega (arith, h, length-drop n xs) in
    ap (λ (m : ℕ). m ∷ map length (parts ns (drop n xs))) long ∙ ap (λ (ms : List ℕ). n ∷ ms) (counts_again ns (drop n xs) rest)

-- what the pools are, by the tree
pub odt_counts_again : (oc ec : List ℕ) (es : List E) → IsFit oc ec es → map length (tree oc ec es) ≡ oc
odt_counts_again oc ec es f = counts_again oc (parts ec es) (f.cut ∙ sym (length-parts ec es))

-- the counts of entries are the lengths of the tree's ODTs, where the pools fit each other
pub entry_counts_again : (oc ec : List ℕ) (es : List E) → IsFit oc ec es → map length (joined (tree oc ec es)) ≡ ec
entry_counts_again oc ec es f = ap (map length) (all_joined (tree oc ec es) oc ec es refl f) ∙ counts_again ec es f.filled

-- the pool of entries is all entries of the tree, where the pools fit each other
pub entries_again : (oc ec : List ℕ) (es : List E) → IsFit oc ec es → joined (joined (tree oc ec es)) ≡ es
entries_again oc ec es f = ap joined (all_joined (tree oc ec es) oc ec es refl f) ∙ joined-parts ec es f.filled

-- equal trees stand in equal pools
pub record SamePools (oc ec : List ℕ) (es : List E) (oc2 ec2 : List ℕ) (es2 : List E) : Type 0 where
  pub odt_counts : oc ≡ oc2
  pub entry_counts : ec ≡ ec2
  pub entries : es ≡ es2

-- pools that fit each other are equal where their trees are
pub same_pools : (oc ec : List ℕ) (es : List E) (oc2 ec2 : List ℕ) (es2 : List E) → IsFit oc ec es → IsFit oc2 ec2 es2 → tree oc ec es ≡ tree oc2 ec2 es2 → SamePools oc ec es oc2 ec2 es2
same_pools oc ec es oc2 ec2 es2 f g e = record {
  odt_counts = sym (odt_counts_again oc ec es f) ∙ ap (map length) e ∙ odt_counts_again oc2 ec2 es2 g;
  entry_counts = sym (entry_counts_again oc ec es f) ∙ ap (λ t. map length (joined t)) e ∙ entry_counts_again oc2 ec2 es2 g;
  entries = sym (entries_again oc ec es f) ∙ ap (λ t. joined (joined t)) e ∙ entries_again oc2 ec2 es2 g;
}

-- the mode of a list
mode_in : DaqList → Mode
mode_in l = record { event = l.event; prescaler = l.prescaler; priority = l.priority; running = l.running; selected = l.selected; since = l.since; stamp = l.stamp }

modes_again : (ms : List Mode) (os : List (List (List E))) → length ms ≡ length os → map mode_in (lists_of ms os) ≡ ms
unfolding mode_in
modes_again [] [] h = refl
modes_again [] (o ∷ os) h = refl
modes_again (m ∷ ms) [] h = absurd (omega (arith, h))
modes_again (m ∷ ms) (o ∷ os) h = ap (λ (zs : List Mode). m ∷ zs) (modes_again ms os (omega (arith, h)))

odts_again : (ms : List Mode) (os : List (List (List E))) → length ms ≡ length os → map (λ (l : DaqList). l.odts) (lists_of ms os) ≡ os
odts_again [] [] h = refl
odts_again [] (o ∷ os) h = absurd (omega (arith, h))
odts_again (m ∷ ms) [] h = absurd (omega (arith, h))
odts_again (m ∷ ms) (o ∷ os) h = ap (λ (zs : List (List (List E))). o ∷ zs) (odts_again ms os (omega (arith, h)))

-- equal lists have equal modes and equal ODTs
pub same_modes : (ms ns : List Mode) (os ps : List (List (List E))) → length ms ≡ length os → length ns ≡ length ps → lists_of ms os ≡ lists_of ns ps → ms ≡ ns
same_modes ms ns os ps h k e = sym (modes_again ms os h) ∙ ap (map mode_in) e ∙ modes_again ns ps k

-- equal lists have equal ODTs, where they were made of as many modes as lists of ODTs
pub same_odts : (ms ns : List Mode) (os ps : List (List (List E))) → length ms ≡ length os → length ns ≡ length ps → lists_of ms os ≡ lists_of ns ps → os ≡ ps
same_odts ms ns os ps h k e = sym (odts_again ms os h) ∙ ap (map (λ (l : DaqList). l.odts)) e ∙ odts_again ns ps k
