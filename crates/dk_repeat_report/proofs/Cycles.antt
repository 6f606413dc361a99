-- A cycle tells of every other.
use Rattle.std.proofs.Common.{ℕ, ◌≡◌, ◌+◌, ◌-◌, ◌*◌, ◌∙◌, List, Option, Some, None, ap, sym, subst, arith}
use Rattle.std.specs.Prelude.{IfSome}
use Rattle.dk_config.specs.Configuration.{Configuration}
use Rattle.dk_config.specs.Windows.{main_level, period}
use Rattle.dk_repeat.specs.Repeat.{entry_at}
use Rattle.dk_repeat.proofs.Repeating.{spans}
use Rattle.dk_cycle.specs.declared.Cycle.{Cycle}
use Rattle.dk_cycle.specs.Repeating.{RepeatsForEver}
use Rattle.dk_cycle.specs.Told.{IsRunCycle}
use Rattle.dk_cycle_counts.specs.declared.counts.CycleCounts.{CycleCounts}
use Rattle.dk_cycle_counts.specs.Counts.{AreCountsOf}
use Rattle.dk_repeat_report.specs.Cycles.{CyclesAreAlike, IsEachCounted, IsOneCounted, WindowsRepeat, entries_from, shares_of}

-- each cycle has the entries of the first
first-again : (c : Configuration) (programs : List (List ℕ)) (s k cycles : ℕ) → RepeatsForEver c programs s k
    → entries_from c programs (s + cycles * k) k ≡ entries_from c programs s k
first-again c programs s k cycles repeats = spans c programs (s + cycles * k) s k (repeats cycles)

pub cycles-alike : CyclesAreAlike
cycles-alike c programs y k repeats one = λ cycles.
    let same = first-again c programs y.start y.length one.cycles repeats ∙ sym (first-again c programs y.start y.length cycles repeats) in
    subst (λ es. AreCountsOf (shares_of c) es k) same one.are

pub windows-repeat : WindowsRepeat
windows-repeat c programs s k p tick repeats later =
    spans c programs (tick + k) tick (period c (main_level c p)) (λ m.
    let once : 1 * k ≡ k = omega arith in
    let far : (tick + k) + m ≡ s + 1 * k + ((tick - s) + m) = omega (arith, later, once) in
    let near : s + ((tick - s) + m) ≡ tick + m = omega (arith, later) in
    ap (entry_at c programs) far ∙ repeats 1 ((tick - s) + m) ∙ ap (entry_at c programs) near)

-- where one cycle is counted each is
pub each-counted : (c : Configuration) (programs : List (List ℕ)) (o : Option Cycle) (counts : Option CycleCounts) → CyclesAreAlike
    → IfSome o (IsRunCycle c programs) → IsOneCounted c programs o counts → IsEachCounted c programs o counts
each-counted c programs None None law repeats one = tt
each-counted c programs None (Some k) law repeats one = one
each-counted c programs (Some y) None law repeats one = one
each-counted c programs (Some y) (Some k) law repeats one = law c programs y k repeats.repeats one
