-- The least number of ticks that may have room is exactly how soon a main can have them.
use Rattle.dk_chain.proofs.Names.{ℕ, suc, ◌≡◌, ◌+◌, ◌-◌, ◌*◌, ◌/◌, ◌<◌, ◌≤◌, inl, inr, true, cond, [], ◌∷◌, length, refl, sym, ap, ◌∙◌, subst, arith, ◌∣◌, cases_Bool, cases_lt, nat_tests, le_of_dvd, mul-le-mul_left, div-add-mod', mod-eq-zero_of_dvd, Configuration, IsChecked, IsAccepted, sum_from, period, main_level, budget, release, main_thread, past_at, job_from, Always}
use Rattle.std.proofs.Common.{leb}
use Rattle.std.proofs.Math.Nat.{div-mul-le_self}
use Rattle.dk_config.proofs.Sums.{sum_from-le, sum_from-term}
use Rattle.dk_trace.proofs.LevelDemand.{budget_at, level_demand-sum, term-at_level}
use Rattle.dk_when.specs.Earliest.{may_hold_off, windows_over, HasRoom}
use Rattle.dk_chain.specs.Chain.{window_length}
use Rattle.dk_chain.specs.NotBefore.{NoSooner, SoonestIsHad}
use Rattle.dk_chain.specs.Least.{ReactsNoSooner}
use Rattle.dk_chain.proofs.Soonest.{not_before}
use Rattle.dk_chain.proofs.SoonestMet.{soonest_is_met}
use Rattle.dk_chain.proofs.Leastwise.{takes_at_least}

pub no_sooner : Always NoSooner
no_sooner c past checked accepted audited p s f k from here begins le some had least =
    let room = not_before c past checked accepted audited p s f k here begins le some had in
    let low = least room.by (record { within = room.within; room = inr room.room }) in
    let early = room.early in
    omega (arith, low, early)

-- in a whole window of a slower level so many windows begin as end
over-whole : (c : Configuration) (p i P : ℕ) → 0 < period c i → period c i ∣ P → 0 < P → windows_over c p i P ≤ P / period c i
over-whole c p i P positive divides long =
    elim (cases_Bool (may_hold_off c p i)) [
      | inl may ↦ let one = one-fits (period c i) P positive divides long in rw may (omega (arith, one))
      | inr off ↦ let same = begun-whole (period c i) P positive divides in rw off (omega (arith, same))
    ]
  where
    one-fits : (Q P : ℕ) → 0 < Q → Q ∣ P → 0 < P → 1 ≤ P / Q
    one-fits Q P positive divides long = let le = le_of_dvd long divides in grind (arith, nat_tests, le)

    begun-whole : (Q P : ℕ) → 0 < Q → Q ∣ P → (P + (Q - 1)) / Q ≤ P / Q
    begun-whole Q P positive divides =
        elim (cases_lt (P / Q) ((P + (Q - 1)) / Q)) [
          | inr least ↦ least
          | inl more ↦
              let none = mod-eq-zero_of_dvd Q divides in
              let whole = div-add-mod' P Q in
              let part = div-mul-le_self (P + (Q - 1)) Q in
              let rises = mul-le-mul_left Q more in
              absurd (omega (arith, none, whole, part, rises, positive))
        ]

-- a whole window has room for the whole budget, where no level can miss its window
room-whole : (c : Configuration) (p k : ℕ) → IsChecked c → IsAccepted c → p < length c.processes → k ≤ budget c p → HasRoom c p k (window_length c p)
room-whole c p k checked accepted here few =
    let m = main_level c p in
    let P = period c m in
    let there = checked.levels p here in
    let long = checked.positive m there in
    let kernel = sum_from-le 0 (suc m) (λ i. release c i * windows_over c p i P) (λ i. release c i * (P / period c i))
    (λ i low high. mul-le-mul_left (release c i) (over-whole c p i P (checked.positive i (omega (arith, there, high))) (checked.divides i m (omega (arith, high)) there) long)) in
    let mine = term-at_level c p m in
    let self : leb m m ≡ true = grind (arith, nat_tests) in
    let one : P / P ≡ 1 = grind (arith, nat_tests, long) in
    let all = sum_from-term 0 (length c.processes) (λ q. sum_from 0 (suc m) (λ i. budget_at c i q * (P / period c i))) p (omega arith) (omega (arith, here)) in
    let demand = level_demand-sum c m in
    let fits = accepted m there in
    let own : budget c p ≤ sum_from 0 (suc m) (λ i. budget_at c i p * (P / period c i)) =
    let product : budget c p * (P / P) ≡ budget c p = ap (λ n. budget c p * n) one ∙ omega arith in
    let full : cond (leb m m) (budget c p * (P / P)) 0 ≡ budget c p * (P / P) = rw self refl in
    omega (arith, mine, product, full) in
    omega (arith, kernel, own, all, demand, fits, few)

pub soonest_is_had : (c : Configuration) → IsChecked c → IsAccepted c → SoonestIsHad c
soonest_is_had c checked accepted p k from here never few may =
    elim may.room [
      | inr room ↦ soonest_is_met c checked accepted p k from here never few may.within room
      | inl whole ↦
          let room : HasRoom c p k from = subst (HasRoom c p k) (sym whole) (room-whole c p k checked accepted here few) in
          soonest_is_met c checked accepted p k from here never few may.within room
    ]

-- the first job has its whole budget no sooner than that, and the others take theirs
pub reacts_no_sooner : Always ReactsNoSooner
reacts_no_sooner c past checked accepted audited end t p [] shortest known here is answers =
    let s = answers.0 in
    let through = answers.3 in
    let le = through.0 in
    let at : s + (end - s) ≡ end = omega (arith, le) in
    let budgets = checked.budgets p here in
    let had = subst (λ n. budget c p ≤ (job_from c (past_at past n) (main_thread c p) s).used) (sym at) through.2 in
    let soon = no_sooner c past checked accepted audited p s (end - s) (budget c p) is.from here answers.2 (omega (arith, at, known)) (omega (arith, budgets)) had is.least in
    let later = answers.1 in
    let sum = is.is in
    omega (arith, soon, later, le, sum)
reacts_no_sooner c past checked accepted audited end t p (q ∷ rest) shortest known here is answers =
    let s = answers.0 in
    let through = answers.3 in
    let v = through.0 in
    let le = through.1 in
    let at : s + (v - s) ≡ v = omega (arith, le) in
    let budgets = checked.budgets p here in
    let rest-takes = takes_at_least c past checked accepted audited end v q through.4 rest known through.5 through.6 in
    let had = subst (λ n. budget c p ≤ (job_from c (past_at past n) (main_thread c p) s).used) (sym at) through.3 in
    let soon = no_sooner c past checked accepted audited p s (v - s) (budget c p) is.from here answers.2 (omega (arith, at, known, rest-takes)) (omega (arith, budgets)) had is.least in
    let later = answers.1 in
    let sum = is.is in
    omega (arith, soon, later, le, sum, rest-takes)
