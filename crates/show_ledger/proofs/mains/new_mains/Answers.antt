use Rattle.std.proofs.Common.{◌≡◌, ◌+◌, ◌++◌, ◌∷◌, [], ap, subst, sym, arith, length}
use Rattle.std.proofs.lemmas.List.{length_push}
use Rattle.show_ledger.specs.Told.{AreToldFrom, IsTold}
use Rattle.show_ledger.proofs.Placing.{told-push}
use Rattle.show_ledger.proofs.mains.new_mains.Goals as goal

pub loop-process-preserved : goal.loop-process-preserved
loop-process-preserved c =
    let h = c.args.header.now in
    let ts = c.loop-process.mains.items in
    let t = c.new_main.result in
    let number = c.loop-process.invariant.number in
    let items : c.push.new.self.items ≡ ts ++ t ∷ [] = c.in_ok-push.ensures.items in
    let place : c.loop-process.process ≡ 0 + length ts = omega (arith, number) in
    let size = ap length items in
    let one = length_push ts t in
    record {
      each = subst (AreToldFrom h [] 0) (sym items) (told-push h [] 0 ts t c.loop-process.invariant.each (subst (λ p. IsTold h [] p t) place c.new_main.ensures));
      number = omega (arith, number, size, one);
    }
