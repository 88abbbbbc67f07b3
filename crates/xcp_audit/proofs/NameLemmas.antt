-- A name is of one caller.
use Rattle.std.proofs.Common.{◌≡◌, ◌≤◌, ◌<◌, ◌⊎◌, ℕ, ◌+◌, ◌-◌, Bool, true, false, List, ◌++◌, drop, refl, sym, ap, ◌∙◌, inl, inr, arith, if◌then◌else◌}
use Rattle.std.specs.Prelude.{◌==◌, Option, Some, None, codes, decimal, nat_lt, slice_index}
use Rattle.std.proofs.lemmas.Bool.{ltb-false}
use Rattle.std.proofs.lemmas.Fmt.{decimal_injective}
use Rattle.xcp_record.specs.declared.Roster.{Roster}
use Rattle.xcp_audit.specs.CallLine.{caller_name, of_kind}

-- one of a kind, or another
split : (word : List ℕ) (count : ℕ) (others : ℕ → List ℕ) (n : ℕ) → (of_kind word count others n ≡ word ++ decimal n) ⊎ ((count ≤ n) × (of_kind word count others n ≡ others (n - count)))
split word count others n = go (nat_lt n count) refl
  where
    go : (b : Bool) → nat_lt n count ≡ b → (of_kind word count others n ≡ word ++ decimal n) ⊎ ((count ≤ n) × (of_kind word count others n ≡ others (n - count)))
    go true e = inl (ap (λ b. if b then word ++ decimal n else others (n - count)) e)
    go false e = inr (ltb-false n count e, ap (λ b. if b then word ++ decimal n else others (n - count)) e)

-- the kinds of callers
data Kind : Type 0 where
  Tool : Kind
  Task : Kind
  Pump : Kind
  Clock : Kind
  Other : Kind

abbrev word : Kind → List ℕ
word Tool = codes "tool "
word Task = codes "task "
word Pump = codes "pump "
word Clock = codes "clock "
word Other = codes "caller "

-- how many callers stand before those of a kind
abbrev base : Roster → Kind → ℕ
base r Tool = 0
base r Task = r.tools
base r Pump = r.tools + r.tasks
base r Clock = r.tools + r.tasks + r.pumps
base r Other = 0

record IsNamed (r : Roster) (caller : ℕ) : Type 0 where
  kind : Kind
  number : ℕ
  name : caller_name (Some r) caller ≡ word kind ++ decimal number
  place : caller ≡ base r kind + number

-- each caller is one of a kind
named : (r : Roster) (caller : ℕ) → IsNamed r caller
named r caller =
    let clocks = of_kind (codes "clock ") r.clocks (λ n. codes "caller " ++ decimal caller) in
    let pumps = of_kind (codes "pump ") r.pumps clocks in
    let tasks = of_kind (codes "task ") r.tasks pumps in
    elim (split (codes "tool ") r.tools tasks caller) [
      | inl tool ↦ record { kind = Tool; number = caller; name = tool; place = omega arith }
      | inr no_tool ↦ elim (split (codes "task ") r.tasks pumps (caller - r.tools)) [
        | inl task ↦ record { kind = Task; number = caller - r.tools; name = no_tool.1 ∙ task; place = (let a = no_tool.0 in omega (arith, a)) }
        | inr no_task ↦ elim (split (codes "pump ") r.pumps clocks ((caller - r.tools) - r.tasks)) [
          | inl pump ↦ record { kind = Pump; number = (caller - r.tools) - r.tasks; name = no_tool.1 ∙ no_task.1 ∙ pump; place = (let a = no_tool.0 in let b = no_task.0 in omega (arith, a, b)) }
          | inr no_pump ↦ elim (split (codes "clock ") r.clocks (λ n. codes "caller " ++ decimal caller) (((caller - r.tools) - r.tasks) - r.pumps)) [
            | inl clock ↦ record {
              kind = Clock;
              number = ((caller - r.tools) - r.tasks) - r.pumps;
              name = no_tool.1 ∙ no_task.1 ∙ no_pump.1 ∙ clock;
              place = (let a = no_tool.0 in let b = no_task.0 in let c = no_pump.0 in omega (arith, a, b, c));
            }
            | inr none ↦ record { kind = Other; number = caller; name = no_tool.1 ∙ no_task.1 ∙ no_pump.1 ∙ none.1; place = omega arith }
          ]
        ]
      ]
    ]

-- a name's first letters tell its kind
abbrev letters : List ℕ → ℕ
letters name = slice_index name 0 + slice_index name 1

abbrev mark : Kind → ℕ
mark Tool = 227
mark Task = 213
mark Pump = 229
mark Clock = 207
mark Other = 196

marked : (k : Kind) (more : List ℕ) → letters (word k ++ more) ≡ mark k
marked Tool more = refl
marked Task more = refl
marked Pump more = refl
marked Clock more = refl
marked Other more = refl

abbrev kind_of : ℕ → Kind
kind_of n = if n == 227 then Tool else (if n == 213 then Task else (if n == 229 then Pump else (if n == 207 then Clock else Other)))

known : (k : Kind) → kind_of (mark k) ≡ k
known Tool = refl
known Task = refl
known Pump = refl
known Clock = refl
known Other = refl

-- behind a kind's word stands the number
behind : (k : Kind) (x y : List ℕ) → word k ++ x ≡ word k ++ y → x ≡ y
behind Tool x y h = ap (drop 5) h
behind Task x y h = ap (drop 5) h
behind Pump x y h = ap (drop 5) h
behind Clock x y h = ap (drop 6) h
behind Other x y h = ap (drop 7) h

in_roster : (r : Roster) (caller other : ℕ) → caller < 256 → other < 256 → caller_name (Some r) caller ≡ caller_name (Some r) other → caller ≡ other
in_roster r caller other low small same =
    let a = named r caller in
    let b = named r other in
    let names : word a.kind ++ decimal a.number ≡ word b.kind ++ decimal b.number = sym a.name ∙ same ∙ b.name in
    let kinds : a.kind ≡ b.kind = sym (known a.kind) ∙ ap kind_of (sym (marked a.kind (decimal a.number)) ∙ ap letters names ∙ marked b.kind (decimal b.number)) ∙ known b.kind in
    let p = a.place in
    let q = b.place in
    let number = decimal_injective a.number b.number (omega (arith, p, low)) (omega (arith, q, small)) (behind a.kind (decimal a.number) (decimal b.number) (names ∙ ap (λ k. word k ++ decimal b.number) (sym kinds))) in
    p ∙ ap (λ k. base r k + a.number) kinds ∙ ap (λ n. base r b.kind + n) number ∙ sym q

-- callers below 256 that have the same name are one
pub one_caller : (roster : Option Roster) (caller other : ℕ) → caller < 256 → other < 256 → caller_name roster caller ≡ caller_name roster other → caller ≡ other
one_caller None caller other low small same = decimal_injective caller other (omega (arith, low)) (omega (arith, small)) same
one_caller (Some r) caller other low small same = in_roster r caller other low small same
