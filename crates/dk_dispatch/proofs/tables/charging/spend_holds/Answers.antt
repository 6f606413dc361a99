use Rattle.dk_dispatch.proofs.Names.{arith, ◌≡◌, ◌∙◌, ◌&&◌, false, leb, ltb, ℕ, suc, List, [], ◌∷◌, ap, refl, sym, nat_tests, Cells, held_cells, adjusted, between, by_level}
use Rattle.dk_dispatch.proofs.tables.charging.spend_holds.Goals as goal

nowhere : (level : ℕ) (f : ℕ → ℕ) (j n : ℕ) → between level level f j n ≡ n
nowhere level f j n =
    let off : (leb level j && ltb j level) ≡ false = grind (arith, nat_tests) in
    rw off refl

by-stays : (f : ℕ → ℕ → ℕ) (ns : List ℕ) → ((j n : ℕ) → f j n ≡ n) → by_level f ns ≡ ns
by-stays f [] same = refl
by-stays f (n ∷ ns) same = rw (same 0 n, by-stays (λ j. f (suc j)) ns (λ j m. same (suc j) m)) refl

-- whoever runs at its own level keeps nobody waiting
held-nobody : (level : ℕ) (d : Cells) → held_cells level level 1 0 d ≡ d
held-nobody level d = ap (λ ns. record d { blocking = ns }) (by-stays (between level level (adjusted 1 0)) d.blocking (nowhere level (adjusted 1 0)))

pub returns-else-not-are_free-clause-demand : goal.returns-else-not-are_free-clause-demand
returns-else-not-are_free-clause-demand g c =
    let own = c.are_free.ensures.levels c.args.id c.args.level c.if-not-are_free.false in
    sym (held-nobody c.args.level c.args.demand.now) ∙ ap (λ first. held_cells c.args.level first 1 0 c.args.demand.now) (sym own)
