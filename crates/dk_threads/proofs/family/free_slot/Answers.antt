use Rattle.dk_threads.proofs.Names.{◌≡◌, ◌∙◌, refl, ap, sym, false, Option, ℕ, unwrap_or, not, MAX_THREADS}
use Rattle.dk_threads.specs.Table.{free_slot}
use Rattle.dk_threads.proofs.Slots.{is_free, find-more}
use Rattle.dk_threads.proofs.family.free_slot.Goals as goal

pub loop-slot-init : goal.loop-slot-init
unfolding free_slot
loop-slot-init c = refl

pub loop-slot-preserved : goal.loop-slot-preserved
loop-slot-preserved c =
    let taken : is_free c.args.rows.now c.loop-slot.slot ≡ false = ap not (sym c.is_taken.ensures ∙ c.if-not-is_taken.false) in
    c.loop-slot.invariant ∙ ap (λ (o : Option ℕ). unwrap_or o 0) (find-more (is_free c.args.rows.now) c.loop-slot.slot MAX_THREADS c.loop-slot-test.true taken)
