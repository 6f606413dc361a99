use Rattle.std.proofs.Common.{ℕ, List, ◌≡◌, ◌<◌, ◌-◌, ap, rules, arith}
use Rattle.std.specs.Prelude.{IsErr}
use Rattle.dk_trace.specs.declared.Entry.{Entry}
use Rattle.dk_ledger.specs.Heading.{Heading}
use Rattle.dk_groups.proofs.Below.{below_fails, last_ends, none_written}
use Rattle.dk_holds.specs.Holds.{holding}
use Rattle.dk_vcd.specs.declared.holders.Occasion.{Occasion}
use Rattle.dk_vcd.specs.Holders.{holder_text}
use Rattle.dk_vcd.proofs.holders.+write_holders.Goals as goal

abbrev text : Heading → Occasion → List Entry → ℕ → List ℕ
text h told past m = holder_text h told m (holding m past)

pub returns-in_err-write_holders : goal.returns-in_err-write_holders
returns-in_err-write_holders g t c = λ past holders.
    let some : 0 < c.args.below = omega arith in
    let fails : IsErr c.from_residual.result = search rules in
    below_fails (text c.args.header.now c.args.told past) c.args.below some _ _ _ c.from_residual.result fails (c.in_err-write_holders.ensures past holders)

pub returns : goal.returns
returns g t c = λ past holders.
    let n = c.args.below in
    let h = c.args.header.now in
    let some : 0 < n = omega arith in
    last_ends (text h c.args.told past) n some (holder_text h c.args.told (n - 1) c.of.result) (ap (holder_text h c.args.told (n - 1)) (c.of.ensures.holding past holders))
    _ _ _ _ c.write_holder.result (c.in_ok-write_holders.ensures past holders) c.write_holder.ensures

pub returns-then-below-eq0 : goal.returns-then-below-eq0
returns-then-below-eq0 g t c = λ past holders.
    let is : c.args.below ≡ 0 = omega arith in
    none_written (text c.args.header.now c.args.told past) c.args.below (g.S.Sink.seen c.args.sink.now) _ is
