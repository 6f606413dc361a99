use Rattle.dk_threads.proofs.Names.{◌≡◌, ◌<◌, ◌∙◌, ap, refl, subst, sym, ℕ, List, [], length, Option, slice_get, option_map_or, slice_get_read, Configuration, Family, State, ThreadRow, first_family}
use Rattle.std.proofs.Common.{None, Some}
use Rattle.dk_config.specs.declared.rows.ProcessRow.{ProcessRow}
use Rattle.dk_threads.proofs.family.Family.reserve.Goals as goal

abbrev made : ℕ → ℕ → ℕ → List ThreadRow → Family
made p level most children = record {
  main = record { id = record { process = p; serial = 0 }; level = level; slot = 0; state = State.Live; start = 0; end = None };
  children = children;
  serials = 0;
  most = most;
}

first : (c : Configuration) (p : ℕ) (row : ProcessRow) → slice_get c.processes p ≡ Some row → made p row.level row.threads [] ≡ first_family c p
first c p row some =
    sym (ap (λ (o : Option ProcessRow). made p (option_map_or (λ (r : ProcessRow). r.level) o 0) (option_map_or (λ (r : ProcessRow). r.threads) o 0) []) some)

pub returns : goal.returns
returns c =
    let row = c.index-row.result.now in
    let same : c.config.inside.processes.items ≡ c.args.config.now.processes = ap (λ (k : Configuration). k.processes) c.config.view_is in
    let below : c.args.process < length c.config.inside.processes.items = subst (λ (rows : List ProcessRow). c.args.process < length rows) (sym same) c.requires.known in
    let some : slice_get c.args.config.now.processes c.args.process ≡ Some row =
    subst (λ (rows : List ProcessRow). slice_get rows c.args.process ≡ Some row) same (slice_get_read c.config.inside.processes.items _ c.args.process row refl below c.index-row.ensures) in
    ap (made c.args.process row.level row.threads) c.in_ok-children.ensures ∙ first c.args.config.now c.args.process row some
