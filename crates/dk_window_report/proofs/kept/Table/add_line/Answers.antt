use Rattle.std.proofs.Common.{◌≡◌, ◌++◌, ◌∷◌, [], ◌-◌, ◌∙◌, ap, subst, arith, append_assoc, reverse}
use Rattle.std.specs.Prelude.{replicate}
use Rattle.dk_trace.specs.declared.Entry.{Entry}
use Rattle.dk_trace.specs.Entries.{quiet}
use Rattle.dk_window_report.specs.Rows.{IsKeptOf}
use Rattle.dk_window_report.proofs.Tables.{kept-later, turn-more}
use Rattle.dk_window_report.proofs.OnOk.{on-ok}
use Rattle.dk_window_report.proofs.kept.Table.add_line.Goals as goal

pub loop-turn-preserved : goal.loop-turn-preserved
loop-turn-preserved c =
    let h = c.args.header.now in
    let e = quiet c.args.line.label in
    let turn = c.loop-turn._turn in
    let first = c.loop-turn.auto._turn in
    let less = c.loop-turn-test.true in
    let ticks = c.loop-turn.invariant.ticks in
    let few = c.requires.few in
    let added = c.in_ok-add.ensures.kept in
    record {
      after = λ es is.
          turn-more h es e turn c.add.new.self.kept first
          (kept-later h (es ++ replicate (turn - 1) e) e c.loop-turn.self.kept c.add.new.self.kept (omega (arith, ticks, few, less)) added (c.loop-turn.invariant.after es is));
      ticks = (let more = ap (λ k. k.ticks) added in omega (arith, more, ticks, first));
      placed = c.in_ok-add.ensures.placed;
    }

pub returns-clause-after : goal.returns-clause-after
returns-clause-after c =
    let h = c.args.header.now in
    let line = c.args.line in
    let e = quiet line.label in
    let last : Entry = record { label = line.label; event = line.event } in
    let turn = c.loop-turn._turn in
    let first = c.loop-turn.auto._turn in
    let some = c.requires.some in
    let over = c.loop-turn-test.false in
    let most = c.loop-turn.auto._turn-end in
    let all : turn ≡ line.count = omega (arith, some, over, most) in
    let ticks = c.loop-turn.invariant.ticks in
    let few = c.requires.few in
    on-ok c.add-2.result _ _ (λ added es is.
    subst (λ xs. IsKeptOf h (reverse xs) c.add-2.new.self.kept)
    (append_assoc es (replicate (turn - 1) e) (last ∷ []) ∙ ap (λ n. es ++ (replicate (n - 1) e ++ last ∷ [])) all)
    (kept-later h (es ++ replicate (turn - 1) e) last c.loop-turn.self.kept c.add-2.new.self.kept (omega (arith, ticks, few, some, all)) added (c.loop-turn.invariant.after es is)))
    c.add-2.ensures.kept
