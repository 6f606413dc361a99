use Rattle.std.proofs.Common.{ℕ, List, suc, ◌≡◌, ◌∙◌, ◌+◌, ◌-◌, ◌<◌, ◌/◌, ◌%◌, ◌++◌, [], ◌∷◌, ap, sym, arith, append_assoc, append-nil, codes}
use Rattle.dk_vcd.specs.Words.{binary}
use Rattle.dk_vcd.proofs.words.+push_binary.Goals as goal

-- one digit more
one-more : (text before new : List ℕ) (bit : List ℕ) (digits n : ℕ) → 0 < digits → bit ≡ (48 + n % 2) ∷ [] → before ≡ text ++ binary (digits - 1) (n / 2) → new ≡ before ++ bit
    → new ≡ text ++ binary digits n
unfolding binary
one-more text before new bit digits n some is first second =
    let split : suc (digits - 1) ≡ digits = omega (arith, some) in
    second ∙ ap (λ t. t ++ bit) first ∙ append_assoc text (binary (digits - 1) (n / 2)) bit ∙ ap (λ b. text ++ (binary (digits - 1) (n / 2) ++ b)) is
    ∙ ap (λ k. text ++ binary k n) split

pub returns-then-digits-eq0-clause-bytes : goal.returns-then-digits-eq0-clause-bytes
unfolding binary
returns-then-digits-eq0-clause-bytes t c =
    let none : 0 ≡ c.args.digits = (let is = c.if-digits-eq0.true in omega (arith, is)) in
    sym (append-nil c.args.text.now) ∙ ap (λ k. c.args.text.now ++ binary k c.args.number) none

pub returns-then-number-eq0-clause-bytes : goal.returns-then-number-eq0-clause-bytes
returns-then-number-eq0-clause-bytes t c =
    let some = c.if-digits-eq0.false in
    let even = c.if-number-eq0.true in
    let bit : 48 ≡ 48 + c.args.number % 2 = omega (arith, even) in
    one-more c.args.text.now _ _ (codes "0") c.args.digits c.args.number (omega (arith, some)) (ap (λ b. b ∷ []) bit) c.push_binary.ensures.bytes c.word.ensures.bytes

pub returns-else-number-eq0-clause-bytes : goal.returns-else-number-eq0-clause-bytes
returns-else-number-eq0-clause-bytes t c =
    let some = c.if-digits-eq0.false in
    let odd = c.if-number-eq0.false in
    let bit : 49 ≡ 48 + c.args.number % 2 = omega (arith, odd) in
    one-more c.args.text.now _ _ (codes "1") c.args.digits c.args.number (omega (arith, some)) (ap (λ b. b ∷ []) bit) c.push_binary.ensures.bytes c.word-else-number-eq0.ensures.bytes
