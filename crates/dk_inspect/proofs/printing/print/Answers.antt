use Rattle.dk_inspect.proofs.Names.{◌≡◌, ◌++◌, ◌∙◌, ℕ, List, length, ap, refl, sym, rules, flat_map, codes, decimal, IsErr, below, denied, first_fails, second_ends, ended, Running, trace_of, denied_body, view, level_line_of, all_lines}
use Rattle.dk_inspect.proofs.Lines.{view-parts}
use Rattle.dk_inspect.proofs.printing.print.Goals as goal

-- what comes after each part of the view, from the last on
abbrev end_line : ℕ → List ℕ
end_line n = ended (codes "end " ++ decimal n)

abbrev after_denied : Running → ℕ → List ℕ
after_denied k n = all_lines k ++ end_line n

abbrev after_levels : Running → ℕ → List ℕ
after_levels k n = ended (denied_body (denied k.config (trace_of k))) ++ after_denied k n

abbrev levels : Running → ℕ → List ℕ
levels k m = flat_map (level_line_of k) (below m)

abbrev after_tick : Running → ℕ → List ℕ
after_tick k n = levels k (length k.config.levels) ++ after_levels k n

pub returns-in_err-write_to : goal.returns-in_err-write_to
returns-in_err-write_to g c =
    let k = c.args.kernel.now in
    let n = c.now-now.result in
    let parts = view-parts k n c.now-now.ensures.ticks c.now-now.ensures.entries ∙ ap (λ t. ended t ++ after_tick k n) (sym c.tick_text.ensures.text) in
    let fails : IsErr c.from_residual.result = search rules in
    first_fails (ended c.tick_text.result) (after_tick k n) (view k.config k.programs k.ticks) parts _ _ _ c.from_residual.result fails c.in_err-write_to.ensures

pub returns-in_err-write_levels : goal.returns-in_err-write_levels
returns-in_err-write_levels g c =
    let k = c.args.kernel.now in
    let n = c.now-now.result in
    let parts = view-parts k n c.now-now.ensures.ticks c.now-now.ensures.entries ∙ ap (λ t. ended t ++ after_tick k n) (sym c.tick_text.ensures.text) in
    let many : length k.config.levels ≡ c.len.result = search rules in
    let levels_are = ap (λ m. levels k m ++ after_levels k n) many in
    let fails : IsErr c.from_residual-in_err-write_levels.result = search rules in
    let second = first_fails (levels k c.len.result) (after_levels k n) (after_tick k n) levels_are _ _ _ c.from_residual-in_err-write_levels.result fails c.in_err-write_levels.ensures in
    second_ends (ended c.tick_text.result) (after_tick k n) (view k.config k.programs k.ticks) parts _ _ _ _ c.from_residual-in_err-write_levels.result c.in_ok-write_to.ensures second

pub returns-in_err-write_to-2 : goal.returns-in_err-write_to-2
returns-in_err-write_to-2 g c =
    let k = c.args.kernel.now in
    let n = c.now-now.result in
    let parts = view-parts k n c.now-now.ensures.ticks c.now-now.ensures.entries ∙ ap (λ t. ended t ++ after_tick k n) (sym c.tick_text.ensures.text) in
    let many : length k.config.levels ≡ c.len.result = search rules in
    let levels_are = ap (λ m. levels k m ++ after_levels k n) many in
    let told = c.denied_text.ensures.text ∙ ap denied_body c.denial.ensures.denied in
    let denied_is = ap (λ t. ended t ++ after_denied k n) (sym told) in
    let fails : IsErr c.from_residual-in_err-write_to-2.result = search rules in
    let third = first_fails (ended c.denied_text.result) (after_denied k n) (after_levels k n) denied_is _ _ _ c.from_residual-in_err-write_to-2.result fails c.in_err-write_to-2.ensures in
    let second = second_ends (levels k c.len.result) (after_levels k n) (after_tick k n) levels_are _ _ _ _ c.from_residual-in_err-write_to-2.result c.in_ok-write_levels.ensures third in
    second_ends (ended c.tick_text.result) (after_tick k n) (view k.config k.programs k.ticks) parts _ _ _ _ c.from_residual-in_err-write_to-2.result c.in_ok-write_to.ensures second

pub returns-in_err-write_threads : goal.returns-in_err-write_threads
returns-in_err-write_threads g c =
    let k = c.args.kernel.now in
    let n = c.now-now.result in
    let parts = view-parts k n c.now-now.ensures.ticks c.now-now.ensures.entries ∙ ap (λ t. ended t ++ after_tick k n) (sym c.tick_text.ensures.text) in
    let many : length k.config.levels ≡ c.len.result = search rules in
    let levels_are = ap (λ m. levels k m ++ after_levels k n) many in
    let told = c.denied_text.ensures.text ∙ ap denied_body c.denial.ensures.denied in
    let denied_is = ap (λ t. ended t ++ after_denied k n) (sym told) in
    let fails : IsErr c.from_residual-in_err-write_threads.result = search rules in
    let fourth = first_fails (all_lines k) (end_line n) (after_denied k n) refl _ _ _ c.from_residual-in_err-write_threads.result fails c.in_err-write_threads.ensures in
    let third = second_ends (ended c.denied_text.result) (after_denied k n) (after_levels k n) denied_is _ _ _ _ c.from_residual-in_err-write_threads.result c.in_ok-write_to-2.ensures fourth in
    let second = second_ends (levels k c.len.result) (after_levels k n) (after_tick k n) levels_are _ _ _ _ c.from_residual-in_err-write_threads.result c.in_ok-write_levels.ensures third in
    second_ends (ended c.tick_text.result) (after_tick k n) (view k.config k.programs k.ticks) parts _ _ _ _ c.from_residual-in_err-write_threads.result c.in_ok-write_to.ensures second

pub returns : goal.returns
returns g c =
    let k = c.args.kernel.now in
    let n = c.now-now.result in
    let parts = view-parts k n c.now-now.ensures.ticks c.now-now.ensures.entries ∙ ap (λ t. ended t ++ after_tick k n) (sym c.tick_text.ensures.text) in
    let many : length k.config.levels ≡ c.len.result = search rules in
    let levels_are = ap (λ m. levels k m ++ after_levels k n) many in
    let told = c.denied_text.ensures.text ∙ ap denied_body c.denial.ensures.denied in
    let denied_is = ap (λ t. ended t ++ after_denied k n) (sym told) in
    let ends = ap (λ t. all_lines k ++ ended t) (sym c.end_of.ensures.text) in
    let fourth = second_ends (all_lines k) (ended c.end_of.result) (after_denied k n) ends _ _ _ _ c.write_to-3.result c.in_ok-write_threads.ensures c.write_to-3.ensures in
    let third = second_ends (ended c.denied_text.result) (after_denied k n) (after_levels k n) denied_is _ _ _ _ c.write_to-3.result c.in_ok-write_to-2.ensures fourth in
    let second = second_ends (levels k c.len.result) (after_levels k n) (after_tick k n) levels_are _ _ _ _ c.write_to-3.result c.in_ok-write_levels.ensures third in
    second_ends (ended c.tick_text.result) (after_tick k n) (view k.config k.programs k.ticks) parts _ _ _ _ c.write_to-3.result c.in_ok-write_to.ensures second
