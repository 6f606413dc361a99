-- Rows that ask of all ticks are told met and missed only where that is so.
use Rattle.std.proofs.Common.{ℕ, ◌≡◌, ◌<◌, ◌∙◌, List, Option, Some, None, true, ap, sym, refl}
use Rattle.std.specs.Prelude.{slice_get, IfSome}
use Rattle.std.specs.Option.{option_map_or}
use Rattle.dk_config.specs.Configuration.{Configuration}
use Rattle.dk_loader.specs.Workload.{Workload}
use Rattle.dk_cycle.specs.declared.Cycle.{Cycle}
use Rattle.dk_cycle.specs.declared.keeping.Keeping.{Keeping}
use Rattle.dk_cycle.specs.declared.keeping.Keeping.TheVariants as kind
use Rattle.dk_cycle.specs.declared.waiting.Waits.{Waits}
use Rattle.dk_cycle.specs.declared.waiting.Waits.TheVariants as waits
use Rattle.dk_cycle.specs.Repeating.{RepeatsForEver}
use Rattle.dk_cycle.specs.Told.{IsRunCycle}
use Rattle.dk_cycle.specs.Waiting.{IsWaits}
use Rattle.dk_needs.specs.declared.needs.Need.{Need}
use Rattle.dk_needs.specs.declared.needs.What.{What}
use Rattle.dk_needs_check.specs.declared.row.Answer.{Answer}
use Rattle.dk_needs_check.specs.declared.row.Reason.{Reason}
use Rattle.dk_needs_check.specs.declared.row.Repeating.{Repeating}
use Rattle.dk_needs_check.specs.declared.row.Row.{Row}
use Rattle.dk_needs_check.specs.declared.row.Verdict.{Verdict}
use Rattle.dk_needs_check.specs.declared.row.Waiting.{Waiting}
use Rattle.dk_needs_check.specs.Bounds.{repeating_verdict, verdict_of, waiting_verdict}
use Rattle.dk_repeat_search.specs.Always.{AreWaits, IsAlways}
use Rattle.dk_repeat_search.specs.declared.always.Always.{Always}
use Rattle.dk_needs_always.specs.declared.asking.Asked.{Asked}
use Rattle.dk_needs_always.specs.Asking.{asked_by, asked_for, asked_of}
use Rattle.dk_needs_always.specs.Sound.{AsksRepeats, AsksWaits, IsSound, WaitsInEach, WaitsNotFrom, told}
use Rattle.dk_needs_always.specs.Telling.{answer_for, repeating_by, repeating_of, waiting_of, waiting_unless, waits_answer}

-- ---- what the rows ask

asked-waits : (c : Configuration) (needs : List Need) (row : Row) (p : ℕ) → AsksWaits c needs row p → asked_by c needs row ≡ Asked.Waits p
asked-waits c needs row p asks =
    ap (λ (o : Option Need). option_map_or (λ need. asked_for c need.what row.answer) o Asked.Nothing) asks.there
    ∙ ap (λ (x : What). asked_for c x row.answer) asks.what
    ∙ ap (λ (x : Answer). asked_for c (What.Always asks.name) x) asks.untold
    ∙ ap asked_of asks.process

told-waits : (w : Workload) (needs : List Need) (a : Always) (row : Row) (p : ℕ) → AsksWaits w.config needs row p
    → told w needs a row ≡ waits_answer a.waits.items p (Answer.Open Reason.NotTested)
told-waits w needs a row p asks =
    ap (λ (x : Asked). answer_for a x row.answer) (asked-waits w.config needs row p asks)
    ∙ ap (λ (x : Answer). waits_answer a.waits.items p x) asks.untold

asked-repeats : (c : Configuration) (needs : List Need) (row : Row) → AsksRepeats needs row → asked_by c needs row ≡ Asked.Repeats
asked-repeats c needs row asks =
    ap (λ (o : Option Need). option_map_or (λ need. asked_for c need.what row.answer) o Asked.Nothing) asks.there
    ∙ ap (λ (x : What). asked_for c x row.answer) asks.what
    ∙ ap (λ (x : Answer). asked_for c (What.Run asks.overruns asks.refused asks.faults true) x) asks.untold

told-repeats : (w : Workload) (needs : List Need) (a : Always) (row : Row) → AsksRepeats needs row
    → told w needs a row ≡ Answer.Repeats (repeating_of a.run)
told-repeats w needs a row asks = ap (λ (x : Asked). answer_for a x row.answer) (asked-repeats w.config needs row asks)

-- ---- what is told of a process

unless-met : (k : Keeping) → waiting_verdict (waiting_unless k) ≡ Verdict.Met → ⊥
unless-met kind.Keeps met = let bad : Verdict.Open ≡ Verdict.Met = met in cc
unless-met kind.ReadsTick met = let bad : Verdict.Open ≡ Verdict.Met = met in cc
unless-met kind.HasThreads met = let bad : Verdict.Open ≡ Verdict.Met = met in cc
unless-met kind.HasSlack met = let bad : Verdict.Open ≡ Verdict.Met = met in cc

unless-missed : (k : Keeping) → waiting_verdict (waiting_unless k) ≡ Verdict.Missed → ⊥
unless-missed kind.Keeps met = let bad : Verdict.Open ≡ Verdict.Missed = met in cc
unless-missed kind.ReadsTick met = let bad : Verdict.Open ≡ Verdict.Missed = met in cc
unless-missed kind.HasThreads met = let bad : Verdict.Open ≡ Verdict.Missed = met in cc
unless-missed kind.HasSlack met = let bad : Verdict.Open ≡ Verdict.Missed = met in cc

one-met : (w : Workload) (n p : ℕ) (x : Waits) → IsWaits w.config w.programs p n x → waiting_verdict (waiting_of x) ≡ Verdict.Met → WaitsInEach w p
one-met w n p waits.Always is met = is
one-met w n p (waits.NotFrom tick) is met = absurd (let bad : Verdict.Missed ≡ Verdict.Met = met in cc)
one-met w n p waits.NotWithin is met = absurd (let bad : Verdict.Open ≡ Verdict.Met = met in cc)
one-met w n p (waits.Unknown k) is met = absurd (unless-met k met)

one-missed : (w : Workload) (n p : ℕ) (x : Waits) (t : Answer) → IsWaits w.config w.programs p n x → t ≡ Answer.Waits (waiting_of x)
    → waiting_verdict (waiting_of x) ≡ Verdict.Missed → (tick : ℕ) × (t ≡ Answer.Waits (Waiting.NotFrom tick)) × WaitsNotFrom w p tick
one-missed w n p waits.Always t is same met = absurd (let bad : Verdict.Met ≡ Verdict.Missed = met in cc)
one-missed w n p (waits.NotFrom tick) t is same met = (tick, same, is)
one-missed w n p waits.NotWithin t is same met = absurd (let bad : Verdict.Open ≡ Verdict.Missed = met in cc)
one-missed w n p (waits.Unknown k) t is same met = absurd (unless-missed k met)

abbrev answer_at : Option Waits → Answer
answer_at o = option_map_or (λ w. Answer.Waits (waiting_of w)) o (Answer.Open Reason.NotTested)

waits-met : (w : Workload) (n : ℕ) (ws : List Waits) (p : ℕ) (o : Option Waits) → AreWaits w.config w.programs n ws → slice_get ws p ≡ o
    → verdict_of (answer_at o) ≡ Verdict.Met → WaitsInEach w p
waits-met w n ws p None are is met = absurd (let bad : Verdict.Open ≡ Verdict.Met = met in cc)
waits-met w n ws p (Some x) are is met = one-met w n p x (are.each p x is) met

waits-missed : (w : Workload) (n : ℕ) (ws : List Waits) (p : ℕ) (o : Option Waits) (t : Answer) → AreWaits w.config w.programs n ws → slice_get ws p ≡ o
    → t ≡ answer_at o → verdict_of (answer_at o) ≡ Verdict.Missed
    → (tick : ℕ) × (t ≡ Answer.Waits (Waiting.NotFrom tick)) × WaitsNotFrom w p tick
waits-missed w n ws p None t are is same met = absurd (let bad : Verdict.Open ≡ Verdict.Missed = met in cc)
waits-missed w n ws p (Some x) t are is same met = one-missed w n p x t (are.each p x is) same met

-- ---- what is told of the run

-- the run repeats as the answer tells
abbrev AsTold : Workload → Answer → Type 0
AsTold w t =
    (start : ℕ) × (every : ℕ) × (t ≡ Answer.Repeats (Repeating.Every start every)) × (0 < every)
    × RepeatsForEver w.config w.programs start every

repeats-met : (w : Workload) (reader : Option ℕ) (cycle : Option Cycle) (t : Answer)
    → IfSome cycle (IsRunCycle w.config w.programs) → t ≡ Answer.Repeats (repeating_by reader cycle)
    → repeating_verdict (repeating_by reader cycle) ≡ Verdict.Met → AsTold w t
repeats-met w (Some p) cycle t is same met = absurd (let bad : Verdict.Open ≡ Verdict.Met = met in cc)
repeats-met w None None t is same met = absurd (let bad : Verdict.Open ≡ Verdict.Met = met in cc)
repeats-met w None (Some y) t is same met = (y.start, y.length, same, is.stands.later, is.repeats)

pub sound : (w : Workload) (ticks : ℕ) (a : Always) → IsAlways w ticks a → IsSound w a
sound w ticks a is =
    record {
      waits = λ needs row p asks met.
          waits-met w ticks a.waits.items p (slice_get a.waits.items p) is.waits refl
          (ap verdict_of (sym (told-waits w needs a row p asks)) ∙ met);
      misses = λ needs row p asks missed.
          let same = told-waits w needs a row p asks in
          waits-missed w ticks a.waits.items p (slice_get a.waits.items p) (told w needs a row) is.waits refl same (ap verdict_of (sym same) ∙ missed);
      repeats = λ needs row asks met.
          let same = told-repeats w needs a row asks in
          repeats-met w a.run.reader a.run.cycle (told w needs a row) is.run.cycle same (ap verdict_of (sym same) ∙ met);
    }
