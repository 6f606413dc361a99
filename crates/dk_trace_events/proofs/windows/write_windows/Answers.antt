use Rattle.std.proofs.Common.{ℕ, ◌≡◌, ◌<◌, ◌≤◌, ◌+◌, ◌-◌, ◌/◌, ◌++◌, [], List, ap, refl, subst, rules, arith, le-div_iff_mul-le}
use Rattle.std.specs.Prelude.{Ok, IsErr, flat_map}
use Rattle.dk_config.specs.Sums.{numbers}
use Rattle.dk_outside.specs.declared.sink.SinkError.{SinkError}
use Rattle.dk_outside.specs.Written.{Writes}
use Rattle.dk_outside.proofs.WrittenLemmas.{first_fails, second_ends}
use Rattle.dk_groups.proofs.Texts.{nothing_written}
use Rattle.dk_trace_events.specs.LevelWindows.{shown_window}
use Rattle.dk_trace_events.proofs.WindowTexts.{front_windows, window_more}
use Rattle.dk_trace_events.proofs.windows.write_windows.Goals as goal

pub write_window-requires : goal.write_window-requires
write_window-requires g c =
    let less : c.loop-window.window < c.args.to / c.args.period + 1 = search rules in
    let some : 0 < c.args.period = c.requires in
    (le-div_iff_mul-le some).0 (omega (arith, less))

pub returns-in_err-write_window : goal.returns-in_err-write_window
returns-in_err-write_window g c =
    let f = shown_window c.args.from c.args.to c.args.level c.args.period in
    let low = c.args.from / c.args.period in
    let end = c.args.to / c.args.period + 1 in
    let window = c.loop-window.window in
    let less : window < end = search rules in
    let after : low ≤ window = search rules in
    let parts = front_windows f low window end after less in
    let fails : IsErr c.from_residual.result = search rules in
    second_ends (flat_map f (numbers low (window - low))) (f window ++ parts.0) (flat_map f (numbers low (end - low))) parts.1
    _ _ _ _ c.from_residual.result c.loop-window.invariant.written
    (first_fails (f window) parts.0 (f window ++ parts.0) refl _ _ _ c.from_residual.result fails c.in_err-write_window.ensures)

pub loop-window-preserved : goal.loop-window-preserved
loop-window-preserved g c =
    let f = shown_window c.args.from c.args.to c.args.level c.args.period in
    let low = c.args.from / c.args.period in
    let window = c.loop-window.window in
    let less : window < c.args.to / c.args.period + 1 = search rules in
    let after : low ≤ window = search rules in
    record {
      within = omega (arith, less);
      written = second_ends (flat_map f (numbers low (window - low))) (f window) (flat_map f (numbers low (window + 1 - low))) (window_more f low window after)
          _ _ _ _ _ c.loop-window.invariant.written c.in_ok-write_window.ensures;
    }

-- before the first window nothing is written
none : (f : ℕ → List ℕ) (low : ℕ) → flat_map f (numbers low (low - low)) ≡ []
none f low = let zero_left : low - low ≡ 0 = omega arith in ap (λ n. flat_map f (numbers low n)) zero_left

pub loop-window-init : goal.loop-window-init
loop-window-init g c =
    let f = shown_window c.args.from c.args.to c.args.level c.args.period in
    let low = c.args.from / c.args.period in
    record {
      within = omega arith;
      written = nothing_written (g.S.Sink.seen c.args.sink.now) tt (flat_map f (numbers low (low - low))) (none f low);
    }

pub returns : goal.returns
returns g c =
    let low = c.args.from / c.args.period in
    let end = c.args.to / c.args.period + 1 in
    let over = c.loop-window-test.false in
    let within = c.loop-window.invariant.within in
    let after : low ≤ c.loop-window.window = search rules in
    let all : c.loop-window.window - low ≡ end - low = omega (arith, over, within, after) in
    subst (λ (n : ℕ). Writes {A = Unit {0}} {E = SinkError} (g.S.Sink.seen c.args.sink.now) (g.S.Sink.seen c.loop-window.sink) (Ok tt) (flat_map (shown_window c.args.from c.args.to c.args.level c.args.period) (numbers low n)))
    all c.loop-window.invariant.written
