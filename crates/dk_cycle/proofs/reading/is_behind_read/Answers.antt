use Rattle.dk_cycle.proofs.Names.{ℕ, ◌≡◌, ◌+◌, ◌-◌, ◌*◌, ◌≤◌, List, length, Some, arith, subst, slice_range, Instr, instruction_of, Context, IsBehindRead}
use Rattle.dk_cycle.proofs.reading.is_behind_read.Goals as goal

behind : (program : List ℕ) (x : Context) (next : ℕ) → next ≡ 4 * x.pc → x.left ≡ 0 → 4 ≤ next → next ≤ length program
    → instruction_of (slice_range program (next - 4) (next - 4 + 4)) ≡ Some (Instr.Trap 9) → IsBehindRead program x
behind program x next is over some within call =
    let place : next - 4 ≡ 4 * (x.pc - 1) = omega (arith, is, some) in
    record {
      over = over;
      place = x.pc - 1;
      next = omega (arith, is, some);
      within = omega (arith, is, some, within);
      is = subst (λ n. instruction_of (slice_range program n (n + 4)) ≡ Some (Instr.Trap 9)) place call;
    }

pub returns-clause-yes : goal.returns-clause-yes
returns-clause-yes c = λ yes.
    let left = c.if-context-ne0.false in
    let some = c.if-next-lt4.false in
    let within = c.if-program-next.false in
    behind c.args.program.now c.args.context.now (4 * c.args.context.now.pc) (omega arith) (omega (arith, left)) (omega (arith, some)) (omega (arith, within)) (c.is_read_at.ensures.yes yes)
