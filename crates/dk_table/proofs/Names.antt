-- Why no name of a configuration that breaks no rule calls for quotes.
use Rattle.std.proofs.Common.{ℕ, zero, suc, ◌≡◌, Bool, true, false, List, [], ◌∷◌, length, refl}
use Rattle.std.specs.Prelude.{None, slice_get}
use Rattle.std.specs.Option.{option_map_or}
use Rattle.dk_config.specs.Configuration.{Configuration}
use Rattle.dk_config.specs.Mutex.{Mutex}
use Rattle.dk_config.specs.declared.rows.ProcessRow.{ProcessRow}
use Rattle.dk_config.specs.Tests.{first_broken, each_row}
use Rattle.dk_config.specs.Rules.{all_tests, version_tests, count_tests, range_tests, period_tests, name_tests, process_names, mutex_names, is_name}
use Rattle.std.specs.List.{list_all}
use Rattle.std.proofs.lemmas.Bool.{and_parts}
use Rattle.dk_config.specs.Windows.{process_name}
use Rattle.dk_config.specs.Checked.{BreaksNoRule, IsWithinLimits}
use Rattle.dk_config.proofs.Passing.{parts_pass}
use Rattle.dk_table.specs.Records.{IsPlain}
use Rattle.dk_table.specs.Names.{HasPlainNames}
use Rattle.dk_table.proofs.Plain.{name_is_plain}

process-named : (i : ℕ) (p : ProcessRow) → first_broken (process_names i p) ≡ None → is_name p.name ≡ true
process-named i p h = go (is_name p.name) refl
  where
    go : (b : Bool) → is_name p.name ≡ b → is_name p.name ≡ true
    go true is = is
    go false is = absurd (let broken = rw is at h in cc)

mutex-named : (i : ℕ) (m : Mutex) → first_broken (mutex_names i m) ≡ None → is_name m.name ≡ true
mutex-named i m h = go (is_name m.name) refl
  where
    go : (b : Bool) → is_name m.name ≡ b → is_name m.name ≡ true
    go true is = is
    go false is = absurd (let broken = rw is at h in cc)

processes-plain : (i : ℕ) (rows : List ProcessRow) → first_broken (each_row process_names i rows) ≡ None
    → (p : ℕ) → IsPlain (option_map_or (λ row. row.name) (slice_get rows p) [])
processes-plain i [] h p = refl
processes-plain i (row ∷ rows) h zero =
    name_is_plain row.name (process-named i row (parts_pass (process_names i row) (each_row process_names (suc i) rows) h).0)
processes-plain i (row ∷ rows) h (suc p) =
    processes-plain (suc i) rows (parts_pass (process_names i row) (each_row process_names (suc i) rows) h).1 p

mutexes-plain : (i : ℕ) (rows : List Mutex) → first_broken (each_row mutex_names i rows) ≡ None
    → (m : ℕ) → IsPlain (option_map_or (λ row. row.name) (slice_get rows m) [])
mutexes-plain i [] h m = refl
mutexes-plain i (row ∷ rows) h zero =
    name_is_plain row.name (mutex-named i row (parts_pass (mutex_names i row) (each_row mutex_names (suc i) rows) h).0)
mutexes-plain i (row ∷ rows) h (suc m) =
    mutexes-plain (suc i) rows (parts_pass (mutex_names i row) (each_row mutex_names (suc i) rows) h).1 m

names-pass : (c : Configuration) → BreaksNoRule c → first_broken (name_tests c.processes c.mutexes) ≡ None
unfolding all_tests
names-pass c h =
    let at_5 = (parts_pass (version_tests c.version) _ h).1 in
    let at_6 = (parts_pass (count_tests c.version (length c.levels) (length c.processes) (length c.mutexes)) _ at_5).1 in
    let at_7 = (parts_pass (range_tests c.costs c.levels c.processes c.mutexes) _ at_6).1 in
    let at_8 = (parts_pass (period_tests c.levels) _ at_7).1 in
    (parts_pass (name_tests c.processes c.mutexes) _ at_8).0

pub plain_names : (c : Configuration) → BreaksNoRule c → HasPlainNames c
unfolding name_tests
plain_names c h =
    let both = parts_pass (each_row process_names 0 c.processes) (each_row mutex_names 0 c.mutexes) (names-pass c h) in
    record { processes = processes-plain 0 c.processes both.0; mutexes = mutexes-plain 0 c.mutexes both.1 }

name-at : (rows : List ProcessRow) (p : ℕ) → list_all (λ row. is_name row.name) rows ≡ true
    → IsPlain (option_map_or (λ row. row.name) (slice_get rows p) [])
name-at [] p are = refl
name-at (row ∷ rows) zero are = name_is_plain row.name (and_parts (is_name row.name) (list_all (λ r. is_name r.name) rows) are).0
name-at (row ∷ rows) (suc p) are = name-at rows p (and_parts (is_name row.name) (list_all (λ r. is_name r.name) rows) are).1

pub process_is_plain : (c : Configuration) (p : ℕ) → IsWithinLimits c → IsPlain (process_name c p)
process_is_plain c p limits = name-at c.processes p limits.names
