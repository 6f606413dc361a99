-- The files of a check of needs.
use Rattle.dk_show.proofs.Names.{ℕ, ◌≡◌, ◌∙◌, ◌+◌, List, ap, refl, sym, subst, arith, Option, Some, None, IfSome, Result, Ok, Err, false, true, Configuration, bytes_read, loading, Workload, DepotView, Refusal, Files, Asks, IsLoud, MissesAfter, handed_programs, Loads, certified_at, programs_of, AskedIn, ReadyIn, asked_by, asked_of, asks_programs, ready_by, ready_of, running}
use Rattle.dk_loader.specs.declared.fault.LoadFault.TheVariants as fault
use Rattle.dk_needs.specs.Reading.{reading}
use Rattle.dk_show.specs.declared.checks.Layout.TheVariants as layout
use Rattle.dk_show.specs.declared.refusal.Refusal.TheVariants as why

-- where a file isn't there, a read fails
pub missed_needs : (held : Option (List ℕ)) (read : Result Configuration Refusal) → MissesAfter (λ (_ : Configuration). held ≡ None) read
    → asked_by held read ≡ Err why.Depot
missed_needs held (Ok c) missing = ap (asked_of c) missing
missed_needs held (Err e) missing = ap (λ f. Err f) missing

-- no more file is asked for
pub asks_nothing : {A : Type 0} (files : Option Files) (view : DepotView) (r : Result A Refusal) → Asks files (λ at. 0) (λ at. ⊥) view view r
asks_nothing None view r = record { given = tt; strays = tt }
asks_nothing (Some at) view r = record { given = λ loud. omega arith; strays = λ there. refl }

-- the configuration was read, and the needs are those of the file
pub loads_needs : (files : Option Files) (file needs : List ℕ) (c : Configuration) (r : Result AskedIn Refusal)
    → IfSome files (λ at. certified_at (at file) ≡ Ok c) → IfSome files (λ at. Loads r (asked_of c (at needs)))
    → IfSome files (λ at. Loads r (asked_by (at needs) (certified_at (at file))))
loads_needs None file needs c r is loads = tt
loads_needs (Some at) file needs c r is loads = subst (λ read. Loads r (asked_by (at needs) read)) (sym is) loads

-- the configuration was refused
pub refused_needs : (files : Option Files) (file needs : List ℕ) (e : Refusal) (r : Result AskedIn Refusal)
    → r ≡ Err e → IfSome files (λ at. Loads (Err e) (certified_at (at file))) → IfSome files (λ at. Loads r (asked_by (at needs) (certified_at (at file))))
refused_needs None file needs e r is loads = tt
refused_needs (Some at) file needs e r is loads =
    subst (λ x. Loads x (asked_by (at needs) (certified_at (at file)))) (sym is) (λ loud. ap (asked_by (at needs)) (loads loud))

-- where a program isn't there, a read fails
pub missed_ready : (at : Files) (read : Result AskedIn Refusal) → MissesAfter (λ (a : AskedIn). ready_of at a ≡ Err why.Depot) read
    → ready_by at read ≡ Err why.Depot
missed_ready at (Ok a) missing = missing
missed_ready at (Err e) missing = ap (λ f. Err f) missing

-- the programs were read, or refused
pub runs_with : (files : Option Files) (c : Configuration) (needs : List ℕ) (w : Workload) → IfSome files (λ at. programs_of (loading at c) ≡ Ok w)
    → IfSome files (λ at. running needs (programs_of (loading at c)) ≡ running needs (Ok w))
runs_with None c needs w is = tt
runs_with (Some at) c needs w is = ap (running needs) is

pub runs_without : (files : Option Files) (c : Configuration) (needs : List ℕ) (e : Refusal) (r : Result ReadyIn Refusal)
    → r ≡ Err e → IfSome files (λ at. Loads (Err e) (programs_of (loading at c))) → IfSome files (λ at. Loads r (running needs (programs_of (loading at c))))
runs_without None c needs e r is loads = tt
runs_without (Some at) c needs e r is loads =
    subst (λ x. Loads x (running needs (programs_of (loading at c)))) (sym is) (λ loud. ap (running needs) (loads loud))

-- programs are asked for
pub ready_with : (files : Option Files) (a : AskedIn) (r : Result ReadyIn Refusal) → asks_programs (reading a.needs) ≡ true
    → IfSome files (λ at. Loads r (running a.needs (programs_of (loading at a.config)))) → IfSome files (λ at. Loads r (ready_of at a))
ready_with None a r asks loads = tt
ready_with (Some at) a r asks loads = rw asks loads

pub asks_ready_with : (files : Option Files) (a : AskedIn) (old new : DepotView) (r : Result ReadyIn Refusal) → asks_programs (reading a.needs) ≡ true
    → Asks files (λ at. bytes_read at a.config.processes) (λ at. loading at a.config ≡ Err fault.Depot) old new r
    → Asks files (λ at. handed_programs at a) (λ at. ready_of at a ≡ Err why.Depot) old new r
asks_ready_with None a old new r asks counted = record { given = tt; strays = tt }
asks_ready_with (Some at) a old new r asks counted = record {
  given = rw asks counted.given;
  strays = λ there. counted.strays (λ missing. there (rw asks (ap (λ read. running a.needs (programs_of read)) missing)));
}

-- they aren't
pub ready_alone : (files : Option Files) (a : AskedIn) (x : ReadyIn) → asks_programs (reading a.needs) ≡ false
    → x ≡ record { layout = layout.Alone a.config; needs = a.needs } → IfSome files (λ at. ready_of at a ≡ Ok x)
ready_alone None a x asks is = tt
ready_alone (Some at) a x asks is = rw asks (ap (λ y. Ok y) (sym is))

pub asks_ready_without : (files : Option Files) (a : AskedIn) (view : DepotView) (r : Result ReadyIn Refusal) → asks_programs (reading a.needs) ≡ false
    → Asks files (λ at. handed_programs at a) (λ at. ready_of at a ≡ Err why.Depot) view view r
asks_ready_without None a view r asks = record { given = tt; strays = tt }
asks_ready_without (Some at) a view r asks = record { given = rw asks (λ loud. omega arith); strays = λ there. refl }

-- what was asked for was read, and it is made ready
pub loads_ready : (files : Option Files) (outcome : Files → Result AskedIn Refusal) (a : AskedIn) (r : Result ReadyIn Refusal)
    → IfSome files (λ at. outcome at ≡ Ok a) → IfSome files (λ at. Loads r (ready_of at a)) → IfSome files (λ at. Loads r (ready_by at (outcome at)))
loads_ready None outcome a r is loads = tt
loads_ready (Some at) outcome a r is loads = subst (λ read. Loads r (ready_by at read)) (sym is) loads

-- it was refused
pub refused_ready : (files : Option Files) (outcome : Files → Result AskedIn Refusal) (e : Refusal) (r : Result ReadyIn Refusal)
    → r ≡ Err e → IfSome files (λ at. Loads (Err e) (outcome at)) → IfSome files (λ at. Loads r (ready_by at (outcome at)))
refused_ready None outcome e r is loads = tt
refused_ready (Some at) outcome e r is loads = subst (λ x. Loads x (ready_by at (outcome at))) (sym is) (λ loud. ap (ready_by at) (loads loud))
