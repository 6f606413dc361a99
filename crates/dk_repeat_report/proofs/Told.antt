-- From what was found in a run to what the text tells.
use Rattle.std.proofs.Common.{ℕ, ◌≡◌, ◌∙◌, List, Option, Some, None, ap, sym, subst, refl}
use Rattle.std.specs.Prelude.{slice_index_or, IfSome}
use Rattle.dk_config.specs.Configuration.{Configuration}
use Rattle.dk_config.specs.Checked.{IsChecked, IsAccepted}
use Rattle.dk_cycle.specs.declared.Cycle.{Cycle}
use Rattle.dk_cycle.specs.declared.run.RunSearch.{RunSearch}
use Rattle.dk_cycle.specs.declared.keeping.Keeping.{Keeping}
use Rattle.dk_cycle.specs.declared.keeping.Keeping.TheVariants as kind
use Rattle.dk_cycle.specs.Told.{HasCycle, IsOwnTold, OwnIsTold, RunIsTold, run_told}
use Rattle.dk_cycle_counts.specs.declared.process.ProcessUse.{ProcessUse}
use Rattle.dk_cycle_counts.specs.declared.counts.CycleCounts.{CycleCounts}
use Rattle.dk_repeat_report.specs.declared.own.OwnFound.{OwnFound}
use Rattle.dk_repeat_report.specs.Cycles.{CyclesAreAlike}
use Rattle.dk_repeat_report.specs.OwnUses.{IsEachUse, IsOneFound, IsOneUse, IsOwnFound, OwnCyclesAreAlike, cycle_by, own_cycle}
use Rattle.dk_repeat_report.specs.Lines.{IsRepeats, names_of}
use Rattle.dk_repeat_report.specs.Found.{AreOf, Tells, found_text}
use Rattle.dk_repeat_report.proofs.Cycles.{each-counted}

-- where one cycle is counted each is
each-use : (c : Configuration) (programs : List (List ℕ)) (p : ℕ) (o : Option Cycle) (done : Option ProcessUse) → OwnCyclesAreAlike → IfSome o (HasCycle c programs p)
    → IsOneUse c programs p o done → IsEachUse c programs p o done
each-use c programs p None None law has one = tt
each-use c programs p None (Some u) law has one = one
each-use c programs p (Some y) None law has one = one
each-use c programs p (Some y) (Some u) law has one = law c programs p y u has one

-- a process that keeps to itself has the cycle that was found
has-cycle : (c : Configuration) (programs : List (List ℕ)) (p : ℕ) (keeping : Keeping) (o : Option Cycle)
    → (keeping ≡ kind.Keeps → IfSome o (HasCycle c programs p)) → IfSome (cycle_by keeping o) (HasCycle c programs p)
has-cycle c programs p kind.Keeps o has = has refl
has-cycle c programs p kind.ReadsTick o has = tt
has-cycle c programs p kind.HasThreads o has = tt
has-cycle c programs p kind.HasSlack o has = tt

own-found : (c : Configuration) (programs : List (List ℕ)) (f : OwnFound) → OwnIsTold → OwnCyclesAreAlike → IsChecked c → IsAccepted c → IsOneFound c programs f
    → IsOwnFound c programs f
own-found c programs f told-law law checked accepted one =
    let told : IsOwnTold c programs f.told = subst (IsOwnTold c programs) (sym one.told) (told-law c programs one.tick one.search checked accepted one.is) in
    record {
      told = told;
      done = each-use c programs f.told.process (own_cycle f.told) f.done law (has-cycle c programs f.told.process f.told.keeping f.told.cycle told.cycle) one.done;
    }

-- what was found is told
pub repeats-text : (c : Configuration) (programs : List (List ℕ)) (ticks : ℕ) (run : RunSearch) (counts : Option CycleCounts) (own : List OwnFound) (text : List ℕ)
    → RunIsTold → OwnIsTold → CyclesAreAlike → OwnCyclesAreAlike → IsChecked c → IsAccepted c → AreOf c programs run counts own
    → text ≡ found_text (names_of c) ticks run counts own → (r : IsRepeats c programs ticks text) × (r.run ≡ run_told run) × (r.own ≡ own)
repeats-text c programs ticks run counts own text run-law own-law cycles-law own-cycles-law checked accepted of is =
    let told = run-law c programs of.tick run checked accepted of.run_is of.first in (
      record {
        run = run_told run;
        counts = counts;
        own = own;
        searched = of.tick;
        run_is = told;
        counts_are = each-counted c programs run.cycle counts cycles-law told.cycle of.counts_are;
        own_are = λ k d less. own-found c programs (slice_index_or own k d) own-law own-cycles-law checked accepted (of.own_are k d less);
        processes = of.processes;
        text_is = is;
      },
      refl,
      refl,
    )

pub tells : (names : List (List ℕ)) (ticks : ℕ) (run : RunSearch) (counts : Option CycleCounts) (own : List OwnFound) (text : List ℕ) → RunIsTold → OwnIsTold
    → CyclesAreAlike → OwnCyclesAreAlike → text ≡ found_text names ticks run counts own → Tells names ticks run counts own text
tells names ticks run counts own text run-law own-law cycles-law own-cycles-law is = λ c programs checked accepted of named.
    (repeats-text c programs ticks run counts own text run-law own-law cycles-law own-cycles-law checked accepted of
    (is ∙ ap (λ ns. found_text ns ticks run counts own) named)).0
