use Rattle.dk_budget.proofs.Names.{◌≡◌, ◌<◌, ◌∙◌, ap, sym, ℕ, List, [], length, get_or, Option, None, Some, arith, slice_get, option_map_or, slice_get-get_or, Configuration, ProcessRow, Loan, lender_of}
use Rattle.dk_budget.proofs.loans.lender_of.Goals as goal

first : (c : Configuration) (p : ℕ) (row : ProcessRow) → slice_get c.processes p ≡ Some row
    → record { level = row.level; max_level = row.max_level; budget = row.budget; threads = row.threads; stop = None; loans = record { items = [] } } ≡ lender_of c p
first c p row some =
    sym (ap
    (λ (o : Option ProcessRow). record {
      level = option_map_or (λ (r : ProcessRow). r.level) o 0;
      max_level = option_map_or (λ (r : ProcessRow). r.max_level) o 0;
      budget = option_map_or (λ (r : ProcessRow). r.budget) o 0;
      threads = option_map_or (λ (r : ProcessRow). r.threads) o 0;
      stop = None;
      loans = record { items = [] };
    })
    some)

-- the row that was read
read : (c : Configuration) (rows : List ProcessRow) (p : ℕ) (row : ProcessRow) → rows ≡ c.processes → p < length c.processes → row ≡ get_or rows p row
    → slice_get c.processes p ≡ Some row
read c rows p row same known is =
    slice_get-get_or c.processes p row known ∙ ap Some (sym (is ∙ ap (λ (rs : List ProcessRow). get_or rs p row) same))

pub overflow_cast-result : goal.overflow_cast-result
overflow_cast-result c =
    let some = read c.args.config.now c.config.inside.processes.items c.args.process c.index-row.result.now (ap (λ (k : Configuration). k.processes) c.config.view_is) c.requires.known c.index-row.ensures in
    omega (arith, c.requires.level, ap (λ (o : Option ProcessRow). option_map_or (λ (r : ProcessRow). r.level) o 0) some)

pub overflow_cast-result-2 : goal.overflow_cast-result-2
overflow_cast-result-2 c =
    let some = read c.args.config.now c.config.inside.processes.items c.args.process c.index-row.result.now (ap (λ (k : Configuration). k.processes) c.config.view_is) c.requires.known c.index-row.ensures in
    omega (arith, c.requires.reach, ap (λ (o : Option ProcessRow). option_map_or (λ (r : ProcessRow). r.max_level) o 0) some)

pub overflow_cast-result-3 : goal.overflow_cast-result-3
overflow_cast-result-3 c =
    let some = read c.args.config.now c.config.inside.processes.items c.args.process c.index-row.result.now (ap (λ (k : Configuration). k.processes) c.config.view_is) c.requires.known c.index-row.ensures in
    omega (arith, c.requires.few, ap (λ (o : Option ProcessRow). option_map_or (λ (r : ProcessRow). r.threads) o 0) some)

pub returns : goal.returns
returns c =
    let row = c.index-row.result.now in
    let some = read c.args.config.now c.config.inside.processes.items c.args.process row (ap (λ (k : Configuration). k.processes) c.config.view_is) c.requires.known c.index-row.ensures in
    ap (λ (ls : List Loan). record { level = row.level; max_level = row.max_level; budget = row.budget; threads = row.threads; stop = None; loans = record { items = ls } }) c.new.ensures
    ∙ first c.args.config.now c.args.process row some
