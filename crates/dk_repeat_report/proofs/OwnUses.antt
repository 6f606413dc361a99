-- What is told of a process by itself is seen in the entries that it has in its windows.
use Rattle.std.proofs.Common.{ℕ, suc, ◌≡◌, ◌+◌, ◌-◌, ◌*◌, ◌/◌, ◌≤◌, ◌∙◌, Bool, true, false, cond, List, [], ◌∷◌, length, map, take, Option, Some, None, refl, sym, ap, subst, arith}
use Rattle.std.specs.Prelude.{◌==◌, ◌&&◌, ◌||◌, not, nat_lt, if◌then◌else◌, count_by, slice_index_or}
use Rattle.std.specs.List.{list_any}
use Rattle.std.specs.Option.{option_map_or}
use Rattle.std.proofs.lemmas.Bool.Decides.{nat_tests}
use Rattle.std.proofs.lemmas.List.{take_all}
use Rattle.std.proofs.Math.Nat.{mod_self}
use Rattle.dk_config.specs.Configuration.{Configuration}
use Rattle.dk_config.specs.Sums.{below, greatest}
use Rattle.dk_config.specs.Windows.{main_level, period}
use Rattle.dk_trace.specs.declared.ThreadId.{ThreadId}
use Rattle.dk_trace.specs.declared.Entry.{Entry}
use Rattle.dk_trace.specs.Entries.{is_budget_of, does, has_event, is_wait, stops, thread_of}
use Rattle.dk_trace.proofs.Mains.{main_id}
use Rattle.dk_trace.proofs.Windows.{count_by-cons}
use Rattle.dk_trace.proofs.Whose.{budget-not}
use Rattle.dk_world.specs.Run.{trace}
use Rattle.dk_world.specs.Laws.{TicksAreCounted}
use Rattle.dk_alone.specs.Alone.{entries_of, is_of_process}
use Rattle.dk_alone.specs.Again.{WindowBegins}
use Rattle.dk_alone.proofs.Own.{other-main}
use Rattle.dk_alone.proofs.Overruns.{IsOwn, any-own, count-own}
use Rattle.dk_alone.proofs.Cycles.{begins-cycles, begins-rest}
use Rattle.dk_report.specs.Counts as counts
use Rattle.dk_window_report.specs.declared.row.Did.{Did}
use Rattle.dk_window_report.specs.Windows.{did_in, ended_windows, is_overrun, least, stopped_once, unstopped, until_stopped}
use Rattle.dk_cycle.specs.declared.Cycle.{Cycle}
use Rattle.dk_cycle.specs.Told.{HasCycle}
use Rattle.dk_cycle_counts.specs.declared.process.ProcessUse.{ProcessUse}
use Rattle.dk_cycle_counts.specs.Process.{has_refused, use_of}
use Rattle.dk_repeat_report.specs.Cycles.{entries_from, share_at}
use Rattle.dk_repeat_report.specs.OwnUses.{IsSameOwn, OwnCyclesAreAlike}
use Rattle.dk_repeat_report.proofs.Windows.{windows}

-- ---- entries of the process

count-same : (p : ℕ) (test : Entry → Bool) → IsOwn p test → (es fs : List Entry) → entries_of p es ≡ entries_of p fs → count_by test es ≡ count_by test fs
count-same p test own es fs same = count-own p test own es ∙ ap (count_by test) same ∙ sym (count-own p test own fs)

any-same : (p : ℕ) (test : Entry → Bool) → IsOwn p test → (es fs : List Entry) → entries_of p es ≡ entries_of p fs → list_any test es ≡ list_any test fs
any-same p test own es fs same = any-own p test own es ∙ ap (list_any test) same ∙ sym (any-own p test own fs)

turned : (p : ℕ) (o : Option ThreadId) → option_map_or (λ x. p == x.process) o false ≡ option_map_or (λ x. x.process == p) o false
turned p None = refl
turned p (Some x) = grind (arith, nat_tests)

refused-own : (p : ℕ) → IsOwn p (has_refused p)
refused-own p e other = ap (λ b. b && has_event counts.is_refused e) (sym (turned p (thread_of e.label)) ∙ other)

-- ---- what the main did in its windows, but for when it was done

record IsSameDid (d e : Did) : Type 0 where
  used : d.used ≡ e.used
  waited : d.waited ≡ e.waited
  stopped : d.stopped ≡ e.stopped

did-same : (p : ℕ) (es fs : List Entry) → entries_of p es ≡ entries_of p fs → IsSameDid (did_in (main_id p) es) (did_in (main_id p) fs)
did-same p es fs same = record {
  used = count-same p (is_budget_of (main_id p)) (λ e other. budget-not (main_id p) e (other-main p e other)) es fs same;
  waited = any-same p (does is_wait (main_id p)) (λ e other. let off = other-main p e other in rw off refl) es fs same;
  stopped = any-same p (stops (main_id p)) (λ e other. let off = other-main p e other in rw off refl) es fs same;
}

abbrev AreSame : List Did → List Did → Type 0
AreSame [] [] = Unit {0}
AreSame [] (e ∷ es) = ⊥
AreSame (d ∷ ds) [] = ⊥
AreSame (d ∷ ds) (e ∷ es) = IsSameDid d e × AreSame ds es

dids-same : (p : ℕ) (f g : ℕ → List Entry) (ns : List ℕ) → ((n : ℕ) → entries_of p (f n) ≡ entries_of p (g n))
    → AreSame (map (did_in (main_id p)) (map f ns)) (map (did_in (main_id p)) (map g ns))
dids-same p f g [] same = tt
dids-same p f g (n ∷ ns) same = (did-same p (f n) (g n) (same n), dids-same p f g ns same)

unstopped-same : (ds es : List Did) → AreSame ds es → AreSame (map unstopped ds) (map unstopped es)
unstopped-same [] [] same = tt
unstopped-same [] (e ∷ es) same = absurd same
unstopped-same (d ∷ ds) [] same = absurd same
unstopped-same (d ∷ ds) (e ∷ es) same = (record { used = same.0.used; waited = same.0.waited; stopped = refl }, unstopped-same ds es same.1)

either-same : (b a : Bool) (ds es fs gs : List Did) → b ≡ a → AreSame ds es → AreSame fs gs → AreSame (if b then ds else fs) (if a then es else gs)
either-same true true ds es fs gs is one other = one
either-same false false ds es fs gs is one other = other
either-same true false ds es fs gs is one other = absurd (cc)
either-same false true ds es fs gs is one other = absurd (cc)

once-same : (ds es : List Did) → AreSame ds es → AreSame (stopped_once ds) (stopped_once es)
once-same [] [] same = tt
once-same [] (e ∷ es) same = absurd same
once-same (d ∷ ds) [] same = absurd same
once-same (d ∷ ds) (e ∷ es) same = (
  same.0,
  either-same d.stopped e.stopped (map unstopped ds) (map unstopped es) (stopped_once ds) (stopped_once es) same.0.stopped
      (unstopped-same ds es same.1) (once-same ds es same.1),
)

until-same : (ds es : List Did) → AreSame ds es → AreSame (until_stopped ds) (until_stopped es)
until-same [] [] same = tt
until-same [] (e ∷ es) same = absurd same
until-same (d ∷ ds) [] same = absurd same
until-same (d ∷ ds) (e ∷ es) same =
    (same.0, either-same d.stopped e.stopped [] [] (until_stopped ds) (until_stopped es) same.0.stopped tt (until-same ds es same.1))

used-same : (ds es : List Did) → AreSame ds es → map (λ (d : Did). d.used) ds ≡ map (λ (d : Did). d.used) es
used-same [] [] same = refl
used-same [] (e ∷ es) same = absurd same
used-same (d ∷ ds) [] same = absurd same
used-same (d ∷ ds) (e ∷ es) same = ap (λ n. n ∷ map (λ (x : Did). x.used) ds) same.0.used ∙ ap (λ ns. e.used ∷ ns) (used-same ds es same.1)

many-same : (ds es : List Did) → AreSame ds es → length ds ≡ length es
many-same [] [] same = refl
many-same [] (e ∷ es) same = absurd same
many-same (d ∷ ds) [] same = absurd same
many-same (d ∷ ds) (e ∷ es) same = ap suc (many-same ds es same.1)

tests-same : (test : Did → Bool) → ((d e : Did) → IsSameDid d e → test d ≡ test e) → (ds es : List Did) → AreSame ds es → count_by test ds ≡ count_by test es
tests-same test respects [] [] same = refl
tests-same test respects [] (e ∷ es) same = absurd same
tests-same test respects (d ∷ ds) [] same = absurd same
tests-same test respects (d ∷ ds) (e ∷ es) same =
    count_by-cons test d ds ∙ ap (λ b. cond b 1 0 + count_by test ds) (respects d e same.0)
    ∙ ap (λ n. cond (test e) 1 0 + n) (tests-same test respects ds es same.1) ∙ sym (count_by-cons test e es)

overrun-same : (d e : Did) → IsSameDid d e → is_overrun d ≡ is_overrun e
overrun-same d e same =
    ap (λ n. nat_lt 0 n && not (d.waited || d.stopped)) same.used
    ∙ ap (λ b. nat_lt 0 e.used && not (b || d.stopped)) same.waited
    ∙ ap (λ b. nat_lt 0 e.used && not (e.waited || b)) same.stopped

-- ---- a cycle

abbrev dids : ℕ → ℕ → List Entry → List Did
dids p P es = map (did_in (main_id p)) (ended_windows P (take (length es - 0) es))

all-own : (es : List Entry) → take (length es - 0) es ≡ es
all-own es = let n : length es ≤ length es - 0 = omega arith in take_all (length es - 0) es n

use-same : (c : Configuration) (p : ℕ) (es fs : List Entry) → AreSame (dids p (period c (main_level c p)) es) (dids p (period c (main_level c p)) fs)
    → entries_of p es ≡ entries_of p fs → IsSameOwn (use_of (share_at c p) es) (use_of (share_at c p) fs)
use-same c p es fs same entries =
    let P = period c (main_level c p) in
    let ds = stopped_once (dids p P es) in
    let gs = stopped_once (dids p P fs) in
    let once = once-same (dids p P es) (dids p P fs) same in
    let until = until-same ds gs once in
    let used = used-same (until_stopped ds) (until_stopped gs) until in
    record {
      windows = many-same (until_stopped ds) (until_stopped gs) until;
      waited = tests-same (λ (d : Did). d.waited) (λ d e s. s.waited) ds gs once;
      overran = tests-same is_overrun overrun-same ds gs once;
      least_used = ap least used;
      most_used = ap greatest used;
      budget = refl;
      refused = count-same p (has_refused p) (refused-own p) es fs entries;
    }

same-turned : (u v : ProcessUse) → IsSameOwn u v → IsSameOwn v u
same-turned u v is = record {
  windows = sym is.windows;
  waited = sym is.waited;
  overran = sym is.overran;
  least_used = sym is.least_used;
  most_used = sym is.most_used;
  budget = sym is.budget;
  refused = sym is.refused;
}

same-on : (u v w : ProcessUse) → IsSameOwn u v → IsSameOwn v w → IsSameOwn u w
same-on u v w a b = record {
  windows = a.windows ∙ b.windows;
  waited = a.waited ∙ b.waited;
  overran = a.overran ∙ b.overran;
  least_used = a.least_used ∙ b.least_used;
  most_used = a.most_used ∙ b.most_used;
  budget = a.budget ∙ b.budget;
  refused = a.refused ∙ b.refused;
}

module _ (counted : TicksAreCounted) (c : Configuration) (programs : List (List ℕ)) (p : ℕ) (y : Cycle) (has : HasCycle c programs p y) where
  abbrev P : ℕ
  P = period c (main_level c p)

  abbrev window_of : List (List ℕ) → ℕ → ℕ → List Entry
  window_of others s w = take P (trace c others (s + w * P + P))

  whole : WindowBegins c p P
  whole = mod_self P

  dids-are : (others : List (List ℕ)) (s : ℕ) → dids p P (entries_from c others s y.length) ≡ map (did_in (main_id p)) (map (window_of others s) (below (y.length / P)))
  dids-are others s =
      ap (λ es. map (did_in (main_id p)) (ended_windows P es)) (all-own (entries_from c others s y.length))
      ∙ ap (map (did_in (main_id p))) (windows c others s y.length P counted)

  -- a cycle in another run is the first of this run
  as-first : (others : List (List ℕ)) (cycles : ℕ) → slice_index_or programs p [] ≡ slice_index_or others p []
      → IsSameOwn (use_of (share_at c p) (entries_from c others (y.start + cycles * y.length) y.length)) (use_of (share_at c p) (entries_from c programs y.start y.length))
  as-first others cycles agree =
      let s = y.start + cycles * y.length in
      let first = entries_from c programs y.start y.length in
      let this = entries_from c others s y.length in
      let long = begins-rest c p y.start y.length has.begins has.begins_later in
      let nothing : 0 * P ≡ 0 = omega arith in
      let none : WindowBegins c p 0 = subst (WindowBegins c p) nothing (begins-cycles c p P 0 whole) in
      let each = λ (w : ℕ). has.repeats others cycles (w * P) P agree (begins-cycles c p P w whole) whole in
      let same = dids-same p (window_of others s) (window_of programs y.start) (below (y.length / P)) each in
      let at : s + 0 + y.length ≡ s + y.length = omega arith in
      let there : y.start + 0 + y.length ≡ y.start + y.length = omega arith in
      let entries : entries_of p this ≡ entries_of p first =
      ap (λ n. entries_of p (take y.length (trace c others n))) (sym at) ∙ has.repeats others cycles 0 y.length agree none long
      ∙ ap (λ n. entries_of p (take y.length (trace c programs n))) there in
      use-same c p this first
      (subst (λ ds. AreSame ds (dids p P first)) (sym (dids-are others s))
      (subst (AreSame (map (did_in (main_id p)) (map (window_of others s) (below (y.length / P))))) (sym (dids-are programs y.start)) same)) entries

pub own-cycles-alike : TicksAreCounted → OwnCyclesAreAlike
own-cycles-alike counted c programs p y u has one = λ others cycles agree.
    let share = share_at c p in
    let first = use_of share (entries_from c programs y.start y.length) in
    let mine = use_of share (entries_from c programs (y.start + one.cycles * y.length) y.length) in
    let theirs = use_of share (entries_from c others (y.start + cycles * y.length) y.length) in
    same-on u mine theirs one.is
    (same-on mine first theirs (as-first counted c programs p y has programs one.cycles refl)
    (same-turned theirs first (as-first counted c programs p y has others cycles agree)))
