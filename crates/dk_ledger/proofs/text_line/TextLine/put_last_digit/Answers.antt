use Rattle.dk_ledger.proofs.Names.{ℕ, ◌≡◌, ◌∙◌, ◌+◌, ◌-◌, ◌/◌, ◌%◌, ◌++◌, ◌<◌, ◌≤◌, ◌^◌, length, take, drop, arith, ap, sym, length-append, decimal, slice_set, decimal_step, length-take-le, drop-set-lt}
use Rattle.dk_ledger.proofs.NumberText.{next_digit, length_before, front_within, take_within, front_changed}
use Rattle.dk_ledger.proofs.text_line.TextLine.put_last_digit.Goals as goal

pub overflow_sub-self : goal.overflow_sub-self
overflow_sub-self c = omega (arith, c.requires.all, length_before c.args.n c.requires.long c.requires.other (omega (arith, c.ranges.n.fits)))

pub returns-clause-all : goal.returns-clause-all
returns-clause-all c =
    let n = c.args.n in
    let fits : n < 2 ^ 64 = omega (arith, c.ranges.n.fits) in
    omega (
      arith,
      c.requires.all,
      length_before n c.requires.long c.requires.other fits,
      ap length (decimal_step n c.requires.long fits) ∙ length-append (decimal (n / 10)) _,
    )

pub returns-clause-number : goal.returns-clause-number
returns-clause-number c =
    let line = c.self.inside in
    let n = c.args.n in
    let digits = c.args.digits in
    let new = slice_set line.bytes (digits - 1) (48 + n % 10) in
    let filled : line.len ≤ length line.bytes = omega (arith, c.self.told, c.self.invariant) in
    let long : length (take line.len line.bytes) ≡ line.len = length-take-le line.len line.bytes filled in
    let front : take digits (take line.len line.bytes) ≡ decimal (n - 1) = ap (take digits) c.self.view_is ∙ c.requires.before in
    let within : digits ≤ line.len = omega (arith, front_within (take line.len line.bytes) (decimal (n - 1)) digits front c.requires.all, long) in
    let k : ℕ = line.len - digits in
    let split : line.len ≡ digits + k = omega (arith, within) in
    let before : take digits line.bytes ≡ decimal (n - 1) =
    sym (take_within line.bytes digits k (omega (arith, split, filled))) ∙ ap (λ m. take digits (take m line.bytes)) (sym split) ∙ front in
    let positive : 1 ≤ digits = omega (arith, c.requires.all, length_before n c.requires.long c.requires.other (omega (arith, c.ranges.n.fits))) in
    ap (λ d. take line.len (slice_set line.bytes (digits - 1) d)) c.requires.last
    ∙ ap (λ m. take m new) split
    ∙ front_changed new line.bytes (decimal n) digits k
    (next_digit n line.bytes digits c.requires.long c.requires.other (omega (arith, c.ranges.n.fits)) (omega (arith, within, filled)) before)
    (drop-set-lt digits line.bytes (digits - 1) (48 + n % 10) (omega (arith, positive)))
    ∙ ap (λ m. decimal n ++ drop digits (take m line.bytes)) (sym split)
    ∙ ap (λ t. decimal n ++ drop digits t) c.self.view_is
