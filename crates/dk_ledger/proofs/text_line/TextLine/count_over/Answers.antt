use Rattle.dk_ledger.proofs.Names.{ℕ, ◌≡◌, ◌∙◌, ◌+◌, ◌-◌, ◌++◌, ◌≤◌, length, take, drop, arith, ap, sym, decimal, length-take-le}
use Rattle.std.specs.Prelude.{true, false}
use Rattle.dk_ledger.proofs.NumberText.{front_written}
use Rattle.dk_ledger.proofs.text_line.TextLine.count_over.Goals as goal

pub returns : goal.returns
returns c =
    let line = c.self.inside in
    let n = c.args.n in
    let digits = c.args.digits in
    let new = c.write_digits.new.buf in
    let filled : line.len ≤ length line.bytes = omega (arith, c.self.told, c.self.invariant) in
    let long : length (take line.len line.bytes) ≡ line.len = length-take-le line.len line.bytes filled in
    let all : length (decimal n) ≡ digits = sym c.digits_of.ensures ∙ c.if-digits_of-digits.false in
    let within : digits ≤ line.len = omega (arith, c.requires.within, ap length c.self.view_is, long) in
    let k : ℕ = line.len - digits in
    let split : line.len ≡ digits + k = omega (arith, within) in
    let start : c.write_digits.result ≡ 0 = omega (arith, c.write_digits.ensures.start, all) in
    let is : new ≡ decimal n ++ drop digits line.bytes = rw start at c.write_digits.ensures.written in
    record {
      counted = λ _. (
        sym all,
        ap (λ m. take m new) split
            ∙ front_written new line.bytes (decimal n) digits k all is
            ∙ ap (λ m. decimal n ++ drop digits (take m line.bytes)) (sym split)
            ∙ ap (λ t. decimal n ++ drop digits t) c.self.view_is,
      );
      same = λ (no : true ≡ false). absurd cc;
    }
